-- How many jobs are offered behind a line, and what is kept while they aren't too many.
use Rattle.std.proofs.Common.{◌≡◌, ◌≤◌, ◌<◌, ◌+◌, ℕ, List, ◌∷◌, ◌++◌, [], length, refl, sym, ap, ◌∙◌, cond, max, arith}
use Rattle.std.proofs.Common.{Option, Some, None, Bool, true, false, ◌≢◌, not, ◌&&◌, count_by, option_map, le-ltb}
use Rattle.std.proofs.Common.{lt-ltb, ltb-false}
use Rattle.std.proofs.Math.Bool.{and-true, and-false}
use Rattle.std.proofs.lemmas.Bool.{and_parts}
use Rattle.std.proofs.lemmas.List.Sums.{sum_by-append}
use Rattle.dover_model.specs.Common.{most_jobs, JobFacts, Session, Item, JobItem, FinishItem, EarlyFinish, refused_at}
use Rattle.dover_model.specs.Common.{refused_done_at, with_item, with_named, early_at, is_right, is_full, instance_of}
use Rattle.dover_model.specs.Common.{is_same_refusal, Account, account_of_lines, is_open, next_line}
use Rattle.dover_model.specs.declared.events.Refusal.{Refusal}
use Rattle.dover_model.specs.declared.events.Refusal.TheVariants.{Full}
use Rattle.dover_model.specs.declared.events.Version.TheVariants.{Two}
use Rattle.dover_model.proofs.lists.Tests.{not_true}
use Rattle.dover_model.proofs.lists.Members.{by_bool}
use Rattle.event_feed.specs.Answers.{AddsJob, AddsRefused, AddsDone, counted}
use Rattle.event_feed.specs.Keeping.{Keeps, KeepsAll}
use Rattle.event_feed.specs.Listing.{is_offered, offered_in, has_too_many, wants_more}
use Rattle.event_feed.specs.declared.gathering.Gathering.{Gathering}
use Rattle.event_feed.proofs.DoneLines.{done_session}
use Rattle.event_feed.proofs.Admitting.{too_many_behind}
use Rattle.event_feed.proofs.GoingOn.{closed_stays}

-- ---- too many jobs

-- where they are too many, no more is wanted
pub none_wanted : (a : Account) → has_too_many a ≡ true → wants_more a ≡ false
none_wanted a many = ap (λ b. is_open a && not b) many ∙ and-false (is_open a)

-- and else more is while the feed goes on
pub few_wanted : (a : Account) → has_too_many a ≡ false → wants_more a ≡ is_open a
few_wanted a few = ap (λ b. is_open a && not b) few ∙ and-true (is_open a)

-- where more is wanted, the feed goes on, and they aren't too many
pub wanted_few : (a : Account) → wants_more a ≡ true → (is_open a ≡ true) × (has_too_many a ≡ false)
wanted_few a wants = let both = and_parts (is_open a) (not (has_too_many a)) wants in
    (both.0, not_true (has_too_many a) both.1)

-- and where no more is wanted, none is behind a further line
pub none_more : (a : Account) (l : List ℕ) → wants_more a ≡ false → wants_more (next_line a l) ≡ false
none_more a l over = by_bool _ (has_too_many a)
    (λ many. none_wanted (next_line a l) (too_many_behind (l ∷ []) a many))
    (λ few. ap wants_more (closed_stays (l ∷ []) a (sym (few_wanted a few) ∙ over)) ∙ over)

-- ---- how many are offered

-- in a session, if there is one
abbrev offered_by : Option Session → ℕ
offered_by o = elim o [ None ↦ 0 | Some S ↦ count_by is_offered S.items ]

-- with one item more
one_more : (S : Session) (item : Item)
    → count_by is_offered (S.items ++ item ∷ []) ≡ count_by is_offered S.items + cond (is_offered item) 1 0
one_more S item = omega (arith, sum_by-append (λ (i : Item). cond {A = ℕ} (is_offered i) 1 0) S.items (item ∷ []))

module _ (a b : Account) where
  -- a job is, whether it finds room or not
  pub offered_job : (number : ℕ) (job : JobFacts) → AddsJob number job (counted a) b → offered_in b ≡ offered_in a + 1
  offered_job number job it = omega (
    arith,
    ap offered_in it.after_is,
    ap offered_by it.before_is,
    by_room (is_full (instance_of it.session) job.release),
  ) where
    by_room : (full : Bool)
        → count_by is_offered (it.session.items ++ cond full (refused_at job.release job Full) (JobItem job) ∷ [])
        ≡ count_by is_offered it.session.items + 1
    by_room true = one_more it.session (refused_at job.release job Full)
    by_room false = one_more it.session (JobItem job)

  -- one that is refused by itself isn't
  pub offered_refused : (job : JobFacts) (refusal : Refusal) → AddsRefused job refusal (counted a) b
      → offered_in b ≡ offered_in a
  offered_refused job refusal it = omega (
    arith,
    ap offered_in it.after_is,
    ap offered_by it.before_is,
    one_more it.session (refused_at a.mark job refusal),
    ap (λ (c : Bool). cond {A = ℕ} c 1 0) (by_cause refusal it.not_full),
  ) where
    by_cause : (r : Refusal) → r ≢ Full → is_same_refusal r Full ≡ false
    by_cause Full other = absurd (other refl)
    by_cause _ other = refl

  -- nor is one by a done line
  pub offered_done : (tick number : ℕ) → AddsDone tick number (counted a) b → offered_in b ≡ offered_in a
  offered_done tick number it = omega (
    arith,
    ap offered_in it.after_is,
    ap offered_by (done_session it.session tick number (counted a) it.before_is),
    ap offered_by it.before_is,
    by_right (is_right it.session a.mark tick number) (early_at it.session tick number),
  ) where
    by_right : (right : Bool) (o : Option EarlyFinish)
        → count_by is_offered (cond right (with_named it.session (option_map FinishItem o))
        (with_item it.session (refused_done_at (max a.mark tick) tick number))).items
        ≡ count_by is_offered it.session.items
    by_right true None = refl
    by_right true (Some f) = omega (arith, one_more it.session (FinishItem f))
    by_right false o = omega (arith, one_more it.session (refused_done_at (max a.mark tick) tick number))

-- ---- what is kept

-- more is wanted: all is kept, the feed goes on, and the jobs aren't too many
pub record IsGathering (g : Gathering) (ls : List (List ℕ)) : Type 0 where
  pub few : g.too_many ≡ false
  pub opened : is_open (account_of_lines ls) ≡ true
  pub most : length g.jobs.items ≤ most_jobs Two
  pub all : KeepsAll g ls

-- so it is while the reading goes on
pub is_gathering : (g : Gathering) (ls : List (List ℕ)) → Keeps g ls → g.going ≡ true → IsGathering g ls
is_gathering g ls keeps on =
    let wanted = wanted_few (account_of_lines ls) (sym keeps.goes_on ∙ on) in
    let all : KeepsAll g ls = keeps.all (keeps.too_many ∙ wanted.1) in
    record {
      few = keeps.too_many ∙ wanted.1;
      opened = wanted.0;
      most = omega (arith, all.offered, ltb-false _ _ wanted.1);
      all = all;
    }

-- all is kept of few jobs
pub keeps_few : (g : Gathering) (ls : List (List ℕ)) → g.too_many ≡ false → g.going ≡ is_open (account_of_lines ls)
    → length g.jobs.items ≤ most_jobs Two → KeepsAll g ls → Keeps g ls
keeps_few g ls few on most all =
    let none : has_too_many (account_of_lines ls) ≡ false = le-ltb _ _ (omega (arith, all.offered, most)) in
    record {
      goes_on = on ∙ sym (few_wanted (account_of_lines ls) none);
      too_many = few ∙ sym none;
      all = λ few. all;
    }

-- nothing has to be of too many
pub keeps_many : (g : Gathering) (ls : List (List ℕ)) → g.going ≡ false → g.too_many ≡ true
    → most_jobs Two < offered_in (account_of_lines ls) → Keeps g ls
keeps_many g ls off many above =
    let too_many : has_too_many (account_of_lines ls) ≡ true = lt-ltb _ _ above in
    record {
      goes_on = off ∙ sym (none_wanted (account_of_lines ls) too_many);
      too_many = many ∙ sym too_many;
      all = λ few. absurd (let e : true ≡ false = sym many ∙ few in cc);
    }
