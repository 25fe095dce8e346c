-- What is listed after a line.
use Rattle.std.proofs.Common.{◌≡◌, ◌≤◌, ◌<◌, ◌++◌, ◌∷◌, [], ◌⊎◌, inl, inr, ℕ, List, length, refl, sym, ap, ◌∙◌, Option}
use Rattle.std.proofs.Common.{Some, None, Bool, true, false, arith, cond, max, subst, drop, length-append, ◌≢◌, ◌&&◌}
use Rattle.std.proofs.Common.{nat_le, nat_lt, is_some, fold, option_map, le-leb, ltb-true, ltb-false, Result, Ok, Err}
use Rattle.std.proofs.Common.{OnOk}
use Rattle.std.specs.List.{AllByRecursion}
use Rattle.std.proofs.Math.Seq.{take-length, drop-length}
use Rattle.std.proofs.Math.Bool.{and-false}
use Rattle.std.proofs.lemmas.Bool.{lt-leb}
use Rattle.std.proofs.lemmas.List.{take-append-le, drop-append-le}
use Rattle.std.proofs.lemmas.List.Sums.{fold-append}
use Rattle.dover_model.specs.declared.events.Version.{Version}
use Rattle.dover_model.specs.declared.events.Refusal.{Refusal}
use Rattle.dover_model.specs.Common.{Finish, JobFacts, Fraction, Declaration, Instance, IsValid, under, with_jobs}
use Rattle.dover_model.specs.Common.{finishing, Account, Open, is_open, rules_with, Session, JobItem, FinishItem}
use Rattle.dover_model.specs.Common.{EarlyFinish, RefusedDone, admitted_jobs, with_item, with_named, refused_at}
use Rattle.dover_model.specs.Common.{refused_done_at, early_at, finish_at, is_right, instance_of, early_finishes}
use Rattle.dover_model.specs.Common.{may_finish_early, is_full, settled_state, is_running, most_ready, RefusedJob}
use Rattle.dover_model.specs.Feed as feeds
use Rattle.dover_model.specs.declared.events.Refusal.TheVariants.{Full}
use Rattle.dover_model.proofs.sessions.Accounts.{IsKept, Holds, HoldsBy}
use Rattle.dover_model.proofs.settled.Barriers.{settled_at_barrier}
use Rattle.dover_model.proofs.sessions.Growing.{job_instance, refused_instance, finish_instance}
use Rattle.dover_model.proofs.lists.Members.{found, some_same, all_append, by_bool}
use Rattle.dover_model.proofs.rest.Resting.{numbers_below}
use Rattle.dover_model.proofs.finishes.RightFinishes.{none_other}
use Rattle.dover_model.proofs.valid.Valid.{all_from}
use Rattle.dover_model.proofs.valid.Limiting.{tick_most}
use Rattle.event_feed.proofs.Admitting.{job_more, refused_more, admitted_by}
use Rattle.dover_model.proofs.sessions.Fullness.{few_ready, full_many}
use Rattle.event_feed.proofs.DoneLines.{session_done, done_session, done_jobs, done_mark}
use Rattle.event_feed.specs.Answers.{AddsJob, AddsRefused, AddsDone, MovesMark, counted, admitted_in}
use Rattle.event_feed.specs.declared.listed.DoneLine.{DoneLine}
use Rattle.event_feed.specs.Listing.{ListsIn, StandsAmong, ComesBehind, AreInTurn, handed, with_early, with_right}
use Rattle.event_feed.specs.Listing.{right_finishes}

-- ---- how a feed stands

-- whether a feed goes on, by its standing
abbrev pub goes_on : feeds.Standing → Bool
goes_on s = elim s [ feeds.Open ↦ true | feeds.Ended ↦ false | feeds.Faulty line cause ↦ false ]

-- one that goes on is open
pub open_by_test : (a : Account) → is_open a ≡ true → a.standing ≡ feeds.Open
open_by_test a on = by_standing a.standing refl where
  by_standing : (s : feeds.Standing) → a.standing ≡ s → a.standing ≡ feeds.Open
  by_standing feeds.Open is = is
  by_standing feeds.Ended is = absurd (let e : true ≡ false = sym on ∙ ap goes_on is in cc)
  by_standing (feeds.Faulty line cause) is = absurd (let e : true ≡ false = sym on ∙ ap goes_on is in cc)

-- ---- what is listed

-- an account without a session isn't one with
no_session : (a : Account) (S : Session) {X : Type 0} → a.session ≡ None → a.session ≡ Some S → X
no_session a S none some = absurd (let e : None ≡ Some S = sym none ∙ some in cc)

-- jobs behind change no finish of a done line
right_more : (rules : Declaration) (jobs more : List JobFacts) (done_lines : List DoneLine) (finishes : List Finish)
    → AllByRecursion (StandsAmong jobs) done_lines
    → fold (with_right rules (jobs ++ more)) finishes done_lines ≡ fold (with_right rules jobs) finishes done_lines
right_more rules jobs more [] finishes all = refl
right_more rules jobs more (d ∷ done_lines) finishes all =
    ap (λ js. fold (with_right rules (jobs ++ more)) (with_early finishes
    (finish_at (record { rules = under rules finishes; jobs = js }) d.at d.number)) done_lines)
    (take-append-le d.behind jobs more all.0.behind)
    ∙ right_more rules jobs more done_lines (with_right rules jobs finishes d) all.1

-- one done line more
pub right_then : (rules : Declaration) (jobs : List JobFacts) (done_lines : List DoneLine) (d : DoneLine)
    → right_finishes rules jobs (done_lines ++ d ∷ []) ≡ with_right rules jobs (right_finishes rules jobs done_lines) d
right_then rules jobs done_lines d = fold-append (with_right rules jobs) [] done_lines (d ∷ [])

-- done lines at a mark are so at a later one
marked_later : (mark later : ℕ) → mark ≤ later → (done_lines : List DoneLine)
    → AllByRecursion (λ d. d.at ≤ mark) done_lines
    → AllByRecursion (λ d. d.at ≤ later) done_lines
marked_later mark later up done_lines marked =
    all_from (λ d. d.at ≤ mark) (λ d. d.at ≤ later) done_lines (λ d low. omega arith) marked

module _ (jobs : List JobFacts) (mark : ℕ) where
  -- each stands among the jobs with one more
  each_more : (j : JobFacts) → mark ≤ j.release → (done_lines : List DoneLine)
      → AllByRecursion (StandsAmong jobs) done_lines
      → AllByRecursion (λ d. d.at ≤ mark) done_lines → AllByRecursion (StandsAmong (jobs ++ j ∷ [])) done_lines
  each_more j up [] all marked = tt
  each_more j up (d ∷ done_lines) all marked = (
    record {
      behind = omega (arith, all.0.behind, length-append jobs (j ∷ []));
      known = all.0.known;
      before = subst (AllByRecursion (λ k. k.release ≤ d.at)) (sym (take-append-le d.behind jobs (j ∷ [])
          all.0.behind)) all.0.before;
      later = subst (AllByRecursion (λ k. d.at ≤ k.release)) (sym (drop-append-le d.behind jobs (j ∷ [])
          all.0.behind)) (all_append (λ k. d.at ≤ k.release) (drop d.behind jobs) (j ∷ []) all.0.later
          (omega (arith, marked.0, up), tt));
    },
    each_more j up done_lines all.1 marked.1,
  )

  -- a done line at a later mark comes behind all
  comes_behind : (at number : ℕ) → mark ≤ at → (done_lines : List DoneLine)
      → AllByRecursion (StandsAmong jobs) done_lines
      → AllByRecursion (λ d. d.at ≤ mark) done_lines
      → AllByRecursion (λ d. ComesBehind d (record { at = at; number = number; behind = length jobs })) done_lines
  comes_behind at number up [] all marked = tt
  comes_behind at number up (d ∷ done_lines) all marked = (
    record { jobs = all.0.behind; ticks = omega (arith, marked.0, up) },
    comes_behind at number up done_lines all.1 marked.1,
  )

-- done lines in turn, with one more behind all
turn_more : (d : DoneLine) (done_lines : List DoneLine) → AreInTurn done_lines
    → AllByRecursion (λ e. ComesBehind e d) done_lines
    → AreInTurn (done_lines ++ d ∷ [])
turn_more d [] turn behind = (tt, tt)
turn_more d (e ∷ done_lines) turn behind = (
  all_append (ComesBehind e) done_lines (d ∷ []) turn.0 (behind.0, tt),
  turn_more d done_lines turn.1 behind.1,
)

-- ---- a done line

module _ (S : Session) (mark t n : ℕ) where
  -- a line that isn't right adds no finish
  wrong_run : is_right S mark t n ≡ false → instance_of (session_done S mark t n) ≡ instance_of S
  wrong_run wrong = ap (λ b. instance_of (cond b (with_named S (option_map FinishItem (early_at S t n)))
      (with_item S (refused_done_at (max mark t) t n)))) wrong
      ∙ refused_instance S (record { at = max mark t; line = RefusedDone t n })

  -- below the mark none is
  pub late_run : t < mark → instance_of (session_done S mark t n) ≡ instance_of S
  late_run late = wrong_run (ap (λ b. b && is_some (early_at S t n)) (lt-leb mark t late))

  module _ (may : may_finish_early S.rules.version ≡ true) where
    early_is : early_at S t n ≡ finish_at (instance_of S) t n
    early_is = ap (λ b. cond b (finish_at (instance_of S) t n) None) may

    -- nor is one of no job
    pub none_run : IsValid (instance_of S) → length (admitted_jobs S.items) ≤ n
        → instance_of (session_done S mark t n) ≡ instance_of S
    none_run valid above = wrong_run (ap (λ o. nat_le mark t && is_some o) (early_is ∙ none)
        ∙ and-false (nat_le mark t))
      where
        none : finish_at (instance_of S) t n ≡ None
        none = none_other (instance_of S) t n (λ r some named.
            let low : r.number < length (admitted_jobs S.items) =
            numbers_below (instance_of S) (settled_state (instance_of S) t)
            (settled_at_barrier (instance_of S) valid t).keeps r
            (found is_running (settled_state (instance_of S) t).tasks r some).0 in omega (arith, low, named, above))

    -- from the mark on, the finish is added where it is right
    pub done_run : mark ≤ t → instance_of (session_done S mark t n)
        ≡ finishing (instance_of S) (with_early (early_finishes S.items) (finish_at (instance_of S) t n))
    done_run up = by_finish (finish_at (instance_of S) t n) early_is where
      by_finish : (o : Option EarlyFinish) → early_at S t n ≡ o → instance_of (session_done S mark t n)
          ≡ finishing (instance_of S) (with_early (early_finishes S.items) o)
      by_finish None none =
          wrong_run (ap (λ o. nat_le mark t && is_some o) none ∙ and-false (nat_le mark t))
      by_finish (Some f) some =
          ap (λ b. instance_of (cond b (with_named S (option_map FinishItem (early_at S t n)))
          (with_item S (refused_done_at (max mark t) t n))))
          (ap (λ b. b && is_some (early_at S t n)) (le-leb mark t up) ∙ ap is_some some)
          ∙ ap (λ o. instance_of (with_named S (option_map FinishItem o))) some ∙ finish_instance S f

-- the jobs, with the finish of a done line where it is right
abbrev finished : (t n : ℕ) → Instance → Instance
finished t n J = finishing J (with_early J.rules.finishes (finish_at J t n))

-- ---- what a line adds

-- a job that finds room is handed in
pub job_after : (a b : Account) (number : ℕ) (job : JobFacts) (it : AddsJob number job a b)
    → is_full (instance_of it.session) job.release ≡ false
    → b ≡ record a { session = Some (with_item it.session (JobItem job)); mark = job.release }
job_after a b number job it room = it.after_is
    ∙ ap (λ full. let after : Account = record a {
      session = Some (with_item it.session (cond full (refused_at job.release job Full) (JobItem job)));
      mark = job.release;
    } in after) room

module _ (a b : Account) (declared : Option (Fraction × Version)) (jobs : List JobFacts) (done_lines : List DoneLine)
    (lists : ListsIn declared jobs done_lines a) where
  -- where few are listed, a job finds room
  pub finds_room : (number : ℕ) (job : JobFacts) (it : AddsJob number job (counted a) b) → length jobs < most_ready
      → is_full (instance_of it.session) job.release ≡ false
  finds_room number job it few = by_rules declared lists where
    by_rules : (o : Option (Fraction × Version)) → ListsIn o jobs done_lines a
        → is_full (instance_of it.session) job.release ≡ false
    by_rules None none = no_session a it.session none.2 it.before_is
    by_rules (Some rules) some =
        let same : some.named ≡ it.session =
        some_same some.named it.session (sym some.there ∙ it.before_is) in
        few_ready (instance_of it.session) job.release
        (omega (arith, few, ap (λ (J : Instance). length J.jobs) (some.run ∙ ap instance_of same)))

  -- a job line
  pub job_listed : (number : ℕ) (job : JobFacts) (it : AddsJob number job (counted a) b)
      → is_full (instance_of it.session) job.release ≡ false → ListsIn declared (jobs ++ job ∷ []) done_lines b
  job_listed number job it room = by_rules declared lists where
    by_rules : (o : Option (Fraction × Version)) → ListsIn o jobs done_lines a
        → ListsIn o (jobs ++ job ∷ []) done_lines b
    by_rules None none = no_session a it.session none.2 it.before_is
    by_rules (Some rules) some =
        let same : some.named ≡ it.session =
        some_same some.named it.session (sym some.there ∙ it.before_is) in
        subst (λ (x : Account). ListsIn (Some rules) (jobs ++ job ∷ []) done_lines x)
        (sym (job_after (counted a) b number job it room)) (record {
          named = with_item it.session (JobItem job);
          there = refl;
          run = ap (λ fs. record { rules = under (rules_with rules.0 rules.1) fs; jobs = jobs ++ job ∷ [] })
              (right_more (rules_with rules.0 rules.1) jobs (job ∷ []) done_lines [] some.among.each)
              ∙ ap (λ (J : Instance). with_jobs J (job ∷ [])) (some.run ∙ ap instance_of same)
              ∙ sym (job_instance it.session job);
          among = record {
            each = each_more jobs a.mark job it.no_fall done_lines some.among.each some.marked;
            in_turn = some.among.in_turn;
          };
          marked = marked_later a.mark job.release it.no_fall done_lines some.marked;
        })

  -- what changes neither the run nor takes the mark back
  same_listed : (S T : Session) → a.session ≡ Some S → b.session ≡ Some T → instance_of T ≡ instance_of S
      → a.mark ≤ b.mark → ListsIn declared jobs done_lines b
  same_listed S T before after same up = by_rules declared lists where
    by_rules : (o : Option (Fraction × Version)) → ListsIn o jobs done_lines a → ListsIn o jobs done_lines b
    by_rules None none = no_session a S none.2 before
    by_rules (Some rules) some = record {
      named = T;
      there = after;
      run = some.run ∙ ap instance_of (some_same some.named S (sym some.there ∙ before)) ∙ sym same;
      among = some.among;
      marked = marked_later a.mark b.mark up done_lines some.marked;
    }

  -- a tick line
  pub tick_listed : (tick : ℕ) → MovesMark tick (counted a) b → ListsIn declared jobs done_lines b
  tick_listed tick it = same_listed it.session it.session it.before_is
      (ap (λ (x : Account). x.session) it.after_is ∙ it.before_is) refl
      (omega (arith, it.no_fall, ap (λ (x : Account). x.mark) it.after_is))

  -- a refused line
  pub refused_listed : (job : JobFacts) (refusal : Refusal) → AddsRefused job refusal (counted a) b
      → ListsIn declared jobs done_lines b
  refused_listed job refusal it =
      same_listed it.session (with_item it.session (refused_at a.mark job refusal)) it.before_is
      (ap (λ (x : Account). x.session) it.after_is) (refused_instance it.session _)
      (omega (arith, ap (λ (x : Account). x.mark) it.after_is))

  module _ (tick number : ℕ) (it : AddsDone tick number (counted a) b) where
    -- the session with a done line
    session_is : b.session ≡ Some (session_done it.session a.mark tick number)
    session_is = ap (λ (x : Account). x.session) it.after_is
        ∙ done_session it.session tick number (counted a) it.before_is

    -- and the mark
    pub mark_is : b.mark ≡ max a.mark tick
    mark_is = ap (λ (x : Account). x.mark) it.after_is ∙ done_mark it.session tick number (counted a)

    -- a done line below the mark
    pub late_listed : tick < a.mark → ListsIn declared jobs done_lines b
    late_listed late = same_listed it.session (session_done it.session a.mark tick number) it.before_is session_is
        (late_run it.session a.mark tick number late) (omega (arith, mark_is))

    -- it admits as many jobs as before
    pub done_admitted : 0 < length jobs → 0 < admitted_in b
    done_admitted some = by_rules declared lists where
      by_rules : (o : Option (Fraction × Version)) → ListsIn o jobs done_lines a → 0 < admitted_in b
      by_rules None none = no_session a it.session none.2 it.before_is
      by_rules (Some rules) listed = omega (
        arith,
        some,
        ap admitted_by session_is,
        ap length (done_jobs it.session a.mark tick number),
        ap (λ (J : Instance). length J.jobs) (listed.run
            ∙ ap instance_of (some_same listed.named it.session (sym listed.there ∙ it.before_is))),
      )

    module _ (kept : IsKept a) (on : a.standing ≡ Open) where
      -- what the account holds
      holds : Holds it.session a.mark a.lines
      holds = subst (λ o. HoldsBy Open o a.mark a.lines) it.before_is
          (subst (λ s. HoldsBy s a.session a.mark a.lines) on kept)

      -- one of no job
      pub none_listed : length jobs ≤ number → ListsIn declared jobs done_lines b
      none_listed above = by_rules declared lists where
        by_rules : (o : Option (Fraction × Version)) → ListsIn o jobs done_lines a → ListsIn declared jobs done_lines b
        by_rules None none = no_session a it.session none.2 it.before_is
        by_rules (Some rules) some =
            let same : some.named ≡ it.session =
            some_same some.named it.session (sym some.there ∙ it.before_is) in
            same_listed it.session (session_done it.session a.mark tick number) it.before_is session_is
            (none_run it.session a.mark tick number it.version holds.reads.valid
            (omega (arith, above, ap (λ (J : Instance). length J.jobs) (some.run ∙ ap instance_of same))))
            (omega (arith, mark_is))

      -- another
      pub done_listed : a.mark ≤ tick
          → ListsIn declared jobs (done_lines ++ record { at = tick; number = number; behind = length jobs } ∷ []) b
      done_listed up = by_rules declared lists where
        d : DoneLine
        d = record { at = tick; number = number; behind = length jobs }

        by_rules : (o : Option (Fraction × Version)) → ListsIn o jobs done_lines a
            → ListsIn o jobs (done_lines ++ d ∷ []) b
        by_rules None none = no_session a it.session none.2 it.before_is
        by_rules (Some rules) some = record {
          named = session_done it.session a.mark tick number;
          there = session_is;
          run = ap (λ fs. record { rules = under declares fs; jobs = jobs }) (right_then declares jobs done_lines d
              ∙ ap (λ js. with_early earlier
              (finish_at (record { rules = under declares earlier; jobs = js }) tick number)) (take-length jobs))
              ∙ ap (finished tick number) same ∙ sym (done_run it.session a.mark tick number it.version up);
          among = record {
            each = all_append (StandsAmong jobs) done_lines (d ∷ []) some.among.each (stands, tt);
            in_turn = turn_more d done_lines some.among.in_turn
                (comes_behind jobs a.mark tick number up done_lines some.among.each some.marked);
          };
          marked = all_append (λ e. e.at ≤ b.mark) done_lines (d ∷ [])
              (marked_later a.mark b.mark (omega (arith, mark_is)) done_lines some.marked) (omega (arith, mark_is), tt);
        } where
          declares : Declaration
          declares = rules_with rules.0 rules.1

          earlier : List Finish
          earlier = right_finishes declares jobs done_lines

          same : handed declares jobs done_lines ≡ instance_of it.session
          same = some.run ∙ ap instance_of (some_same some.named it.session (sym some.there ∙ it.before_is))

          stands : StandsAmong jobs d
          stands = record {
            behind = omega arith;
            known = omega (arith, it.known, tick_most it.session.rules.version);
            before = subst (AllByRecursion (λ j. j.release ≤ tick)) (ap (λ (J : Instance). J.jobs) (sym same)
                ∙ sym (take-length jobs)) (all_from (λ j. j.release ≤ a.mark) (λ j. j.release ≤ tick)
                (admitted_jobs it.session.items) (λ j low. omega (arith, low, up)) holds.reads.known);
            later = subst (AllByRecursion (λ j. tick ≤ j.release)) (sym (drop-length jobs)) tt;
          }

      -- with the done lines that are kept
      pub kept_listed : (after : List DoneLine)
          → (((b.mark ≢ tick) ⊎ (length jobs ≤ number)) × (after ≡ done_lines))
          ⊎ ((b.mark ≡ tick)
          × (after ≡ done_lines ++ record { at = tick; number = number; behind = length jobs } ∷ []))
          → ListsIn declared jobs after b
      kept_listed after (inr it) = subst (λ ds. ListsIn declared jobs ds b) (sym it.1)
          (done_listed (omega (arith, it.0, mark_is)))
      kept_listed after (inl it) = subst (λ ds. ListsIn declared jobs ds b) (sym it.1) (by_why it.0) where
        by_why : (b.mark ≢ tick) ⊎ (length jobs ≤ number) → ListsIn declared jobs done_lines b
        by_why (inl other) = by_bool _ (nat_lt tick a.mark)
            (λ low. late_listed (ltb-true tick a.mark low))
            (λ high. let up : a.mark ≤ tick = ltb-false tick a.mark high in absurd (other (omega (arith, up, mark_is))))
        by_why (inr above) = none_listed above

-- two facts of a good answer
pub on_ok_both : {T E : Type 0} (P Q : Type 0) (r : Result T E) → OnOk r P → OnOk r Q → OnOk r (P × Q)
on_ok_both P Q (Ok x) p q = (p, q)
on_ok_both P Q (Err e) p q = tt

-- whatever a good answer is
pub ok_any : {T E : Type 0} {P : Type 0} (r : Result T E) → P → OnOk r P
ok_any (Ok x) p = p
ok_any (Err e) p = tt

-- behind a job line some job is admitted: its own, or those for which that finds no room
pub job_admitted : (a b : Account) (number : ℕ) (job : JobFacts) → AddsJob number job (counted a) b → 0 < admitted_in b
job_admitted a b number job it =
    by_room (is_full (instance_of it.session) job.release) refl (ap admitted_in it.after_is) where
      by_room : (full : Bool) → is_full (instance_of it.session) job.release ≡ full
          → admitted_in b ≡ length (admitted_jobs (it.session.items ++ cond full (refused_at job.release job Full)
          (JobItem job) ∷ [])) → 0 < admitted_in b
      by_room true full is = omega (
        arith,
        is,
        refused_more it.session.items (record { at = job.release; line = RefusedJob job Full }),
        full_many (instance_of it.session) job.release full,
      )
      by_room false room is = omega (arith, is, job_more it.session.items job)
