-- The early finishes of a roll are those that the steps hand in, each behind as many jobs as were released by then.
use Rattle.std.proofs.Common.{◌≡◌, inl, inr, ℕ, suc, ◌+◌, ◌-◌, ◌≤◌, ◌<◌, List, [], ◌∷◌, ◌++◌, length, length-append}
use Rattle.std.proofs.Common.{append_assoc, append-nil, map, set, filter, refl, sym, ap, ◌∙◌, subst, Bool, true}
use Rattle.std.proofs.Common.{false, cond, arith}
use Rattle.std.proofs.Common.{Option, Some, None, IsSome, nat_lt, fold, filter_map, option_and_then, slice_get, lt-ltb}
use Rattle.std.proofs.Common.{le-ltb, ltb-true, ltb-false, eq-eqb}
use Rattle.std.specs.Bool.{then_some}
use Rattle.std.specs.List.{cons_option}
use Rattle.dover_model.specs.declared.events.Event.{Event}
use Rattle.dover_model.specs.declared.events.Event.TheVariants.{Release, Complete}
use Rattle.dover_model.specs.declared.events.Role.{Role}
use Rattle.dover_model.specs.declared.events.Role.TheVariants.{Coming, Waiting, Held, Running, Done, Gone}
use Rattle.dover_model.specs.declared.events.Task.{Task}
use Rattle.dover_model.specs.Common.{JobFacts, Fraction, Instance, IsValid, IsOpenPath, HasPrinted, Step, event_of}
use Rattle.dover_model.specs.Common.{printed_of, Item, JobItem, RefusedItem, FinishItem, EarlyFinish, IsMember, Each}
use Rattle.dover_model.specs.Common.{IsSound, Keeps, State, opening, is_over, with_role, Move, Prints, Waits, Ticks}
use Rattle.dover_model.specs.Common.{open_step, after, finish_now, handed_by, early_of}
use Rattle.dover_model.proofs.steps.Deeds.{Deed, Completed, Resumed, Started, Began, Preempted, Stayed, Arrived, Taken}
use Rattle.dover_model.proofs.steps.Deeds.{Abandoned, Rested}
use Rattle.dover_model.proofs.steps.Kept.{open_deed, open_kept, opening_keeps}
use Rattle.dover_model.proofs.steps.ReadyParts.{change, after_change, over_stays}
use Rattle.dover_model.proofs.settled.Paths.{path_keeps}
use Rattle.dover_model.proofs.finishes.Readiness.{runner}
use Rattle.dover_model.proofs.steps.Roles.{passes}
use Rattle.ready_server.specs.Roster.{Roll, ListedJob, stopped, with_stop, halted, finish_of, finish_here, with_finish}
use Rattle.ready_server.specs.Roster.{released, with_event, empty_roll, roll_of}
use Rattle.ready_server.specs.declared.roster.ListedFinish.{ListedFinish}
use Rattle.ready_server.proofs.Rolls.{Lists, Follows, had_ran, job_is}
use Rattle.ready_server.proofs.RollRuns.{roll_after, deed_next}
use Rattle.ready_server.proofs.RollSettled.{stop_count, halt_count, tasks_count}

-- the early finishes among items, each with how many jobs are in front of it, where so many are in front of all
abbrev pub places : ℕ → List Item → List ListedFinish
places n [] = []
places n (JobItem j ∷ items) = places (suc n) items
places n (RefusedItem r ∷ items) = places n items
places n (FinishItem f ∷ items) =
    record { at = f.at; number = f.finish.number; behind = n } ∷ places n items

-- ---- what leaves the finishes

stop_finishes : (p : Roll) (n ticks : ℕ) (role : Role) → (with_stop p n ticks role).finishes ≡ p.finishes
stop_finishes p n ticks role = by (slice_get p.jobs n) where
  by : (o : Option ListedJob) → (let q : Roll = elim o
      [ None ↦ p | Some e ↦ record p { jobs = set p.jobs n (stopped ticks role p.takes e) } ] in q.finishes)
      ≡ p.finishes
  by None = refl
  by (Some x) = refl

pub halt_finishes : (p : Roll) (at : ℕ) (role : Role) → (halted p at role).finishes ≡ p.finishes
halt_finishes p at role = by p.turn where
  by : (o : Option ℕ) → (let q : Roll = elim o
      [ None ↦ p | Some n ↦ record (with_stop p n (at - p.since) role) { turn = None } ] in q.finishes) ≡ p.finishes
  by None = refl
  by (Some n) = stop_finishes p n (at - p.since) role

-- a finish is one more
pub finish_more : (q : Roll) (o : Option ListedFinish) → IsSome o → length (with_finish q o).finishes
    ≡ suc (length q.finishes)
finish_more q None some = absurd (let clash : false ≡ true = some in cc)
finish_more q (Some f) some = omega (arith, length-append q.finishes (f ∷ []))

-- so where it is among so many, there was room for it
pub finish_fits : (p : Roll) (at n most : ℕ) → length (with_event p (Complete at n)).finishes ≤ most
    → IsSome (finish_here p at) → length p.finishes < most
finish_fits p at n most few some = omega (
  arith,
  few,
  finish_more (halted p at Done) (finish_here p at) some,
  ap length (halt_finishes p at Done),
)

-- ---- a step

-- there is work left where what a job had is less than its work
work_left : (work had : ℕ) → nat_lt had work ≡ nat_lt 0 (work - had)
work_left work had = by (nat_lt had work) refl where
  by : (b : Bool) → nat_lt had work ≡ b → b ≡ nat_lt 0 (work - had)
  by true less = sym (lt-ltb 0 (work - had) (let l : had < work = ltb-true had work less in omega arith))
  by false most = sym (le-ltb 0 (work - had) (let m : work ≤ had = ltb-false had work most in omega arith))

module _ (s : State) (sound : IsSound s) (p : Roll) (follows : Follows s p) where
  -- the roll has one step more of what the steps hand in
  abbrev OneMore : Move → Type 0
  OneMore m = (rest : List Item) → (roll_after p m).finishes ++ places (length (roll_after p m).jobs) rest
      ≡ p.finishes ++ places (length p.jobs) (cons_option (handed_by (record { before = s; move = m })) rest)

  -- a step that hands nothing in
  same_more : (m : Move) → (roll_after p m).finishes ≡ p.finishes → length (roll_after p m).jobs ≡ length p.jobs
      → handed_by (record { before = s; move = m }) ≡ None → OneMore m
  same_more m finishes jobs none rest = ap (λ fs. fs ++ places (length (roll_after p m).jobs) rest) finishes
      ∙ ap (λ n. p.finishes ++ places n rest) jobs
      ∙ ap (λ o. p.finishes ++ places (length p.jobs) (cons_option o rest)) (sym none)

  -- a release
  releases_more : (n : ℕ) (j : JobFacts) → OneMore (Prints (Release n j))
  releases_more n j rest = ap (λ m. p.finishes ++ places m rest)
      (let e : length (p.jobs ++ released n j ∷ []) ≡ suc (length p.jobs) =
      omega (arith, length-append p.jobs (released n j ∷ [])) in e)

  module _ (r : Task) (member : IsMember r s.tasks) (runs : r.role ≡ Running) where
    -- what the roll and the steps have of its finish
    abbrev F : ListedFinish
    F = record { at = s.clock; number = r.number; behind = length p.jobs }

    abbrev E : EarlyFinish
    E = record { at = s.clock; finish = finish_now r }

    not_coming : r.role ≡ Coming → ⊥
    not_coming e = two (sym runs ∙ e) where
      two : Running ≡ Coming → ⊥
      two e = cc

    listed : Lists p s.clock r
    listed = follows.here r member not_coming

    pub finish_is : finish_here p s.clock ≡ then_some (nat_lt r.had r.job.work) F
    finish_is =
        ap (λ o. option_and_then (λ n. option_and_then (finish_of p s.clock n) (slice_get p.jobs n)) o)
        (follows.runs r member runs)
        ∙ ap (option_and_then (finish_of p s.clock r.number)) listed.there
        ∙ ap (λ had. then_some (nat_lt had listed.listed.task.job.work) F)
        (had_ran p s.clock r listed (follows.runs r member runs))
        ∙ ap (λ (j : JobFacts). then_some (nat_lt r.had j.work) F) (job_is p s.clock r listed)

    -- its completion
    completes_more : OneMore (Prints (Complete s.clock r.number))
    completes_more rest = by (nat_lt r.had r.job.work) (finish_here p s.clock) finish_is
        ∙ ap (λ b. p.finishes ++ places (length p.jobs) (cons_option (then_some b (FinishItem E)) rest))
        (work_left r.job.work r.had)
        ∙ ap (λ o. p.finishes ++ places (length p.jobs) (cons_option (early_of s.clock o) rest))
        (sym (runner s sound r member runs)) where
          q : Roll
          q = halted p s.clock Done

          by : (b : Bool) (o : Option ListedFinish) → o ≡ then_some b F
              → (with_finish q o).finishes ++ places (length (with_finish q o).jobs) rest
              ≡ p.finishes ++ places (length p.jobs) (cons_option (then_some b (FinishItem E)) rest)
          by true o e = ap (λ o. (with_finish q o).finishes ++ places (length (with_finish q o).jobs) rest) e
              ∙ ap (λ fs. (fs ++ F ∷ []) ++ places (length q.jobs) rest) (halt_finishes p s.clock Done)
              ∙ ap (λ n. (p.finishes ++ F ∷ []) ++ places n rest) (halt_count p s.clock Done)
              ∙ append_assoc p.finishes (F ∷ []) (places (length p.jobs) rest)
          by false o e = ap (λ o. (with_finish q o).finishes ++ places (length (with_finish q o).jobs) rest) e
              ∙ ap (λ fs. fs ++ places (length q.jobs) rest) (halt_finishes p s.clock Done)
              ∙ ap (λ n. p.finishes ++ places n rest) (halt_count p s.clock Done)

  -- each deed
  deed_more : (k : Fraction) (m : Move) → Deed k s Ticks m → OneMore m
  deed_more k m (Completed r member runs) = completes_more r member runs
  deed_more k m (Resumed q member holds none least why) = same_more m refl refl refl
  deed_more k m (Started o member waits none first fits next) = same_more m refl refl refl
  deed_more k m (Began f member fresh none behind) = same_more m refl refl refl
  deed_more k m (Preempted r f member runs some f_member fresh before fits) =
      same_more m (halt_finishes p s.clock Held) (halt_count p s.clock Held) refl
  deed_more k m (Stayed r f member runs some f_member fresh why) = same_more m refl refl refl
  deed_more k m (Arrived c member comes now first stale busy free) = releases_more c.number c.job
  deed_more k m (Taken r x member runs some x_member waits now stale heavy) =
      same_more m (halt_finishes p s.clock Waiting) (halt_count p s.clock Waiting) refl
  deed_more k m (Abandoned r x member runs some x_member waits now stale light) =
      same_more m (stop_finishes p x.number 0 Gone) (stop_count p x.number 0 Gone) refl
  deed_more k m (Rested quiet) = same_more m refl refl refl

-- ---- along a run

module _ (J : Instance) (valid : IsValid J) (mark : ℕ) where
  -- a move and the steps behind it
  by_move : (p : Roll) (xs : List Step) (m : Move) → fold with_event p (cons_option (event_of m) (printed_of xs))
      ≡ fold with_event (roll_after p m) (printed_of xs)
  by_move p xs (Prints e) = refl
  by_move p xs (Waits n) = refl
  by_move p xs Ticks = refl

  pub path_more : (xs : List Step) (s z : State) (p : Roll) → Keeps J s → IsOpenPath J.rules mark s xs z → Follows s p
      → (fold with_event p (printed_of xs)).finishes ≡ p.finishes ++ places (length p.jobs) (filter_map handed_by xs)
  path_more [] s z p keeps here follows = sym (append-nil p.finishes)
  path_more (x ∷ xs) s z p keeps path follows =
      let m : Move = open_step J.rules s in
      ap (λ (y : Step). (fold with_event p (cons_option (event_of y.move) (printed_of xs))).finishes) path.0
      ∙ ap (λ (q : Roll). q.finishes) (by_move p xs m)
      ∙ path_more xs (after s m) z (roll_after p m) (open_kept J valid s keeps J.rules) path.2
      (deed_next s keeps.sound p follows J.rules.ratio m (open_deed J valid s keeps J.rules))
      ∙ deed_more s keeps.sound p follows J.rules.ratio m (open_deed J valid s keeps J.rules) (filter_map handed_by xs)
      ∙ ap (λ (y : Step). p.finishes ++ places (length p.jobs) (cons_option (handed_by y) (filter_map handed_by xs)))
      (sym path.0)

-- ---- how many they are

-- jobs that are over
abbrev overs : List Task → ℕ
overs tasks = length (filter is_over tasks)

overs_few : (tasks : List Task) → overs tasks ≤ length tasks
overs_few [] = omega arith
overs_few (t ∷ tasks) = by (is_over t) (overs_few tasks) where
  by : (b : Bool) → overs tasks ≤ length tasks
      → length (cond b (t ∷ filter is_over tasks) (filter is_over tasks)) ≤ suc (length tasks)
  by true rest = omega (arith, rest)
  by false rest = omega (arith, rest)

-- a change that leaves them leaves no fewer
overs_stay : (f : Task → Task) (xs : List Task) → Each (λ t. is_over t ≡ true → f t ≡ t) xs
    → overs xs ≤ overs (map f xs)
overs_stay f [] stays = omega arith
overs_stay f (x ∷ xs) stays = by (is_over x) (is_over (f x)) (λ e. ap is_over (stays x (inl refl) e) ∙ e) refl
    (overs_stay f xs (λ t m. stays t (inr m))) where
      by : (b c : Bool) → (is_over x ≡ true → c ≡ true) → is_over x ≡ b → overs xs ≤ overs (map f xs)
          → length (cond b (x ∷ filter is_over xs) (filter is_over xs))
          ≤ length (cond c (f x ∷ filter is_over (map f xs)) (filter is_over (map f xs)))
      by true true kept e rest = omega (arith, rest)
      by true false kept e rest = absurd (let clash : false ≡ true = kept e in cc)
      by false true kept e rest = omega (arith, rest)
      by false false kept e rest = omega (arith, rest)

-- and one more where one more is over
overs_more : (f : Task → Task) (xs : List Task) → Each (λ t. is_over t ≡ true → f t ≡ t) xs → (r : Task)
    → IsMember r xs → is_over r ≡ false → is_over (f r) ≡ true → suc (overs xs) ≤ overs (map f xs)
overs_more f [] stays r member ready over = absurd member
overs_more f (x ∷ xs) stays r (inl e) ready over = omega (
  arith,
  overs_stay f xs (λ t m. stays t (inr m)),
  ap (λ b. length (cond b (x ∷ filter is_over xs) (filter is_over xs))) (ap is_over (sym e) ∙ ready),
  ap (λ b. length (cond b (f x ∷ filter is_over (map f xs)) (filter is_over (map f xs))))
      (ap (λ y. is_over (f y)) (sym e) ∙ over),
)
overs_more f (x ∷ xs) stays r (inr m) ready over =
    by (is_over x) (is_over (f x)) (λ e. ap is_over (stays x (inl refl) e) ∙ e) refl
    (overs_more f xs (λ t m. stays t (inr m)) r m ready over) where
      by : (b c : Bool) → (is_over x ≡ true → c ≡ true) → is_over x ≡ b → suc (overs xs) ≤ overs (map f xs)
          → suc (length (cond b (x ∷ filter is_over xs) (filter is_over xs)))
          ≤ length (cond c (f x ∷ filter is_over (map f xs)) (filter is_over (map f xs)))
      by true true kept e rest = omega (arith, rest)
      by true false kept e rest = absurd (let clash : false ≡ true = kept e in cc)
      by false true kept e rest = omega (arith, rest)
      by false false kept e rest = omega (arith, rest)

module _ (J : Instance) (valid : IsValid J) (s : State) (keeps : Keeps J s) (p : Roll) where
  -- a step has as many finishes more as it makes jobs over
  abbrev IsPaid : Move → Type 0
  IsPaid m = length (roll_after p m).finishes + overs s.tasks ≤ length p.finishes + overs (after s m).tasks

  -- a step that leaves the finishes
  same_paid : (m : Move) → m ≡ open_step J.rules s → (roll_after p m).finishes ≡ p.finishes → IsPaid m
  same_paid m is same = omega (
    arith,
    ap length same,
    ap overs (after_change s m),
    overs_stay (change m) s.tasks
        (subst (λ n. Each (λ t. is_over t ≡ true → change n t ≡ t) s.tasks) (sym is)
        (over_stays J valid J.rules s keeps)),
  )

  -- a completion
  complete_paid : (r : Task) → IsMember r s.tasks → r.role ≡ Running
      → Prints (Complete s.clock r.number) ≡ open_step J.rules s → IsPaid (Prints (Complete s.clock r.number))
  complete_paid r member runs is = omega (
    arith,
    one (finish_here p s.clock),
    ap length (halt_finishes p s.clock Done),
    ap overs (after_change s (Prints (Complete s.clock r.number))),
    overs_more (change (Prints (Complete s.clock r.number))) s.tasks
        (subst (λ n. Each (λ t. is_over t ≡ true → change n t ≡ t) s.tasks) (sym is)
        (over_stays J valid J.rules s keeps)) r member (passes is_over r Running false runs refl)
        (ap (λ b. is_over (with_role r (cond b Done r.role))) (eq-eqb r.number r.number refl)),
  ) where
    one : (o : Option ListedFinish) → length (with_finish (halted p s.clock Done) o).finishes
        ≤ suc (length (halted p s.clock Done).finishes)
    one None = omega arith
    one (Some f) = omega (arith, length-append (halted p s.clock Done).finishes (f ∷ []))

  deed_paid : (k : Fraction) (m : Move) → m ≡ open_step J.rules s → Deed k s Ticks m → IsPaid m
  deed_paid k m is (Completed r member runs) = complete_paid r member runs is
  deed_paid k m is (Preempted r f member runs some f_member fresh before fits) =
      same_paid m is (halt_finishes p s.clock Held)
  deed_paid k m is (Taken r x member runs some x_member waits now stale heavy) =
      same_paid m is (halt_finishes p s.clock Waiting)
  deed_paid k m is (Abandoned r x member runs some x_member waits now stale light) =
      same_paid m is (stop_finishes p x.number 0 Gone)
  deed_paid k m is _ = same_paid m is refl

module _ (J : Instance) (valid : IsValid J) (mark : ℕ) where
  path_paid : (xs : List Step) (s z : State) (p : Roll) → Keeps J s → IsOpenPath J.rules mark s xs z
      → length (fold with_event p (printed_of xs)).finishes + overs s.tasks ≤ length p.finishes + overs z.tasks
  path_paid [] s z p keeps here =
      let same : overs z.tasks ≡ overs s.tasks = ap (λ (y : State). overs y.tasks) here in omega (arith, same)
  path_paid (x ∷ xs) s z p keeps path =
      let m : Move = open_step J.rules s in omega (
        arith,
        ap (λ (y : Step). length (fold with_event p (cons_option (event_of y.move) (printed_of xs))).finishes) path.0,
        ap (λ (q : Roll). length q.finishes) (by_move J valid mark p xs m),
        path_paid xs (after s m) z (roll_after p m) (open_kept J valid s keeps J.rules) path.2,
        deed_paid J valid s keeps p J.rules.ratio m refl (open_deed J valid s keeps J.rules),
      )

  -- there are no more early finishes than jobs
  pub few_finishes : (z : State) (events : List Event) → HasPrinted J mark z events
      → length (roll_of events).finishes ≤ length J.jobs
  few_finishes z events it = omega (
    arith,
    ap (λ es. length (roll_of es).finishes) it.prints,
    path_paid it.steps (opening J.jobs) z empty_roll (opening_keeps J) it.path,
    overs_few z.tasks,
    tasks_count J z (path_keeps J valid mark it.steps (opening J.jobs) z (opening_keeps J) it.path),
  )
