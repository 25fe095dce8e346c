-- What a job has of its own and what it lost, tick by tick: it gets on, waits for the end of a section, or is finished.
use Rattle.std.proofs.Common.{◌≡◌, ℕ, zero, suc, ◌+◌, ◌≤◌, ◌<◌, ◌⊎◌, inl, inr, List, refl, sym, ap, ◌∙◌}
use Rattle.std.proofs.Common.{subst, Bool, true, false, cond, arith, eqb, nat_lt, Option, Some, None}
use Rattle.std.proofs.Common.{sum_by, eqb-true, ltb-true, ltb-false}
use Rattle.std.proofs.lemmas.Bool.{eqb-false, eq-eqb, ne_eqb, le-leb, lt-ltb, and_from}
use Rattle.dover_model.specs.declared.events.Task.{Task}
use Rattle.dover_model.specs.Common.{State}
use Rattle.dover_model.specs.Common.{is_running}
use Rattle.dover_model.specs.Common.{ticked, Step}
use Rattle.dover_model.specs.Common.{is_take_of, is_preempt_of}
use Rattle.dover_model.specs.Common.{Each, NoneRuns}
use Rattle.task_laws.specs.Forward.{completes_next}
use Rattle.task_laws.specs.Sections.{Sections, AreSections, Real, section_left, works}
use Rattle.task_laws.specs.Sections.{works_if_any, real_tick}
use Rattle.task_laws.specs.Sections.{is_finished}
use Rattle.dover_model.proofs.lists.Members.{by_bool}
use Rattle.task_laws.proofs.switches.OneJob.{alive}
use Rattle.dover_model.proofs.lists.Tests.{never}

-- what a test that passes costs
abbrev pub priced : ℕ → (Step → Bool) → Step → ℕ
priced price test x = cond (test x) price 0

-- one more than a number is more than none
pub some_left : (n : ℕ) → nat_lt 0 (suc n) ≡ true
some_left n = lt-ltb 0 (suc n) (omega arith)

module _ (k : Sections) (within : AreSections k) (start take : ℕ → ℕ) where
  -- what a preemption or a take by the job of this number may cost it
  abbrev pub cost : ℕ → Step → ℕ
  cost n x = priced (start n) (λ y. is_preempt_of n y.move) x + priced (take n) (λ y. is_take_of n y.move) x

  -- what is left of another's section, while the job runs
  abbrev pub blocked : Real → Task → ℕ
  blocked r t = cond (is_running t) (cond (eqb r.last t.number) 0 (section_left k r)) 0

  -- what the job had is what it got done of its own, and what it lost so far
  abbrev pub Pays : Real → List Step → Task → Type 0
  Pays r xs t = t.had + sum_by (cost t.number) xs + blocked r t ≤ r.got t.number + (start t.number + take t.number)

  -- or it is done next
  abbrev pub Ends : Real → List Step → Task → Type 0
  Ends r xs t = (completes_next t.number xs ≡ true) × (is_finished k r t.number ≡ true)

  -- what each step keeps
  pub record Stands (s : State) (r : Real) (xs : List Step) : Type 0 where
    pub calm : NoneRuns s.tasks → section_left k r ≡ 0
    pub few : (n : ℕ) → r.got n ≤ k.own n
    pub pays : Each (λ t. alive t.role ≡ 1 → Pays r xs t ⊎ Ends r xs t) s.tasks

  -- what a finished job's test says, and from what it follows
  pub finished_from : (r : Real) (n : ℕ) → section_left k r ≡ 0 → k.own n ≤ r.got n → is_finished k r n ≡ true
  finished_from r n none all = and_from _ _ (eq-eqb _ _ none) (le-leb _ _ all)

  -- while a section is under way, its job has work of its own left
  working : (r : Real) (more : ℕ) → section_left k r ≡ suc more → r.got r.last < k.own r.last
  working r more e = by_bool (r.got r.last < k.own r.last) (nat_lt (r.got r.last) (k.own r.last))
      (λ less. ltb-true _ _ less)
      (λ no. let done : k.own r.last ≤ r.got r.last = ltb-false _ _ no in
      absurd (let z : section_left k r ≡ 0 = within.ends r.last (r.got r.last) done in
      let bad : suc more ≡ 0 = sym e ∙ z in omega (arith, bad)))

  -- a tick's work is none too much
  works_few : (r : Real) (n : ℕ) → r.got n < k.own n → ((m : ℕ) → r.got m ≤ k.own m)
      → (m : ℕ) → (works n r).got m ≤ k.own m
  works_few r n less few m = by_bool ((works n r).got m ≤ k.own m) (eqb m n)
      (λ e. subst (λ b. cond b (suc (r.got m)) (r.got m) ≤ k.own m) (sym e)
      (subst (λ l. suc (r.got l) ≤ k.own l) (sym (eqb-true _ _ e)) less))
      (λ e. subst (λ b. cond b (suc (r.got m)) (r.got m) ≤ k.own m) (sym e) (few m))

  -- nothing blocks the job that worked last
  unblocked : (r : Real) (t : Task) → eqb r.last t.number ≡ true → blocked r t ≡ 0
  unblocked r t e = by_runs (is_running t) (eqb r.last t.number) e where
    by_runs : (a b : Bool) → b ≡ true → cond a (cond b 0 (section_left k r)) 0 ≡ 0
    by_runs true true e2 = refl
    by_runs true false e2 = never e2
    by_runs false b e2 = refl

  -- nor one that doesn't run
  pub unblocked_off : (r : Real) (t : Task) → is_running t ≡ false → blocked r t ≡ 0
  unblocked_off r t e = ap (λ b. cond b (cond (eqb r.last t.number) 0 (section_left k r)) 0) e

  -- another one waits for the section's end
  pub blocked_on : (r : Real) (t : Task) → is_running t ≡ true → eqb r.last t.number ≡ false
      → blocked r t ≡ section_left k r
  blocked_on r t e e2 = ap (λ b. cond b (cond (eqb r.last t.number) 0 (section_left k r)) 0) e
      ∙ ap (λ b. cond b 0 (section_left k r)) e2

  -- at most
  pub blocked_most : (r : Real) (t : Task) → blocked r t ≤ section_left k r
  blocked_most r t = by_tests (is_running t) (eqb r.last t.number) where
    by_tests : (a b : Bool) → cond a (cond b 0 (section_left k r)) 0 ≤ section_left k r
    by_tests true true = omega arith
    by_tests true false = omega arith
    by_tests false b = omega arith

  -- a tick of a section is one less
  one_less : (r : Real) (more : ℕ) → section_left k r ≡ suc more → section_left k (works r.last r) ≡ more
  one_less r more e = ap (λ b. k.inside r.last (cond b (suc (r.got r.last)) (r.got r.last))) (eq-eqb r.last r.last refl)
      ∙ within.goes_on r.last (r.got r.last) more e

  -- what a job has of its own only grows
  works_more : (r : Real) (n m : ℕ) → r.got m ≤ (works n r).got m
  works_more r n m = by_test (eqb m n) where
    by_test : (b : Bool) → r.got m ≤ cond b (suc (r.got m)) (r.got m)
    by_test true = omega arith
    by_test false = omega arith

  any_more : (r : Real) (o : Option Task) (m : ℕ) → r.got m ≤ (works_if_any k o r).got m
  any_more r None m = omega arith
  any_more r (Some t) m = by_test (nat_lt (r.got t.number) (k.own t.number)) where
    by_test : (b : Bool) → r.got m ≤ (cond b (works t.number r) r).got m
    by_test true = works_more r t.number m
    by_test false = omega arith

  pub tick_more : (r : Real) (o : Option Task) (m : ℕ) → r.got m ≤ (real_tick k o r).got m
  tick_more r o m = by_test (nat_lt 0 (section_left k r)) where
    by_test : (b : Bool) → r.got m ≤ (cond b (works r.last r) (works_if_any k o r)).got m
    by_test true = works_more r r.last m
    by_test false = any_more r o m

  -- and never above it
  any_few : (r : Real) (o : Option Task) → ((m : ℕ) → r.got m ≤ k.own m) → (m : ℕ)
      → (works_if_any k o r).got m ≤ k.own m
  any_few r None few m = few m
  any_few r (Some t) few m = by_test (nat_lt (r.got t.number) (k.own t.number)) refl where
    by_test : (b : Bool) → nat_lt (r.got t.number) (k.own t.number) ≡ b → (cond b (works t.number r) r).got m ≤ k.own m
    by_test true e = works_few r t.number (ltb-true _ _ e) few m
    by_test false e = few m

  pub tick_few : (r : Real) (o : Option Task) → ((m : ℕ) → r.got m ≤ k.own m) → (m : ℕ)
      → (real_tick k o r).got m ≤ k.own m
  tick_few r o few m = by_left (section_left k r) refl where
    by_left : (l : ℕ) → section_left k r ≡ l
        → (cond (nat_lt 0 l) (works r.last r) (works_if_any k o r)).got m ≤ k.own m
    by_left zero e = any_few r o few m
    by_left (suc more) e = subst (λ b. (cond b (works r.last r) (works_if_any k o r)).got m ≤ k.own m)
        (sym (some_left more)) (works_few r r.last (working r more e) few m)

  -- where no job has the processor and no section is under way, none begins
  pub tick_still : (r : Real) → section_left k r ≡ 0 → section_left k (real_tick k None r) ≡ 0
  tick_still r e = by_left (section_left k r) e where
    by_left : (l : ℕ) → l ≡ 0 → section_left k (cond (nat_lt 0 l) (works r.last r) r) ≡ 0
    by_left zero e2 = e
    by_left (suc more) e2 = absurd (omega (arith, e2))

  -- what a tick of the job that runs comes to
  abbrev pub Goes : Task → ℕ → Real → Type 0
  Goes t later r = (t.had + 1 + later + blocked r (ticked t) ≤ r.got t.number + (start t.number + take t.number))
      ⊎ ((section_left k r ≡ 0) × (k.own t.number ≤ r.got t.number))

  -- in a tick the job that runs gets on, or waits for the section's end, or it is finished
  pub running_tick : (r : Real) (t : Task) (later : ℕ) → is_running t ≡ true
      → t.had + later + blocked r t ≤ r.got t.number + (start t.number + take t.number)
      → Goes t later (real_tick k (Some t) r)
  running_tick r t later runs low = by_left (section_left k r) refl where
    had_one : (b : Bool) (n : ℕ) → b ≡ true → cond b (suc n) n ≡ suc n
    had_one true n e = refl
    had_one false n e = never e

    had_none : (b : Bool) (n : ℕ) → b ≡ false → cond b (suc n) n ≡ n
    had_none false n e = refl
    had_none true n e = never (sym e)

    by_left : (l : ℕ) → section_left k r ≡ l → Goes t later
        (cond (nat_lt 0 l) (works r.last r) (works_if_any k (Some t) r))
    by_left zero e = by_own (nat_lt (r.got t.number) (k.own t.number)) refl where
      by_own : (b : Bool) → nat_lt (r.got t.number) (k.own t.number) ≡ b → Goes t later (cond b (works t.number r) r)
      by_own true e2 = inl (omega (
        arith,
        low,
        unblocked (works t.number r) (ticked t) (eq-eqb t.number t.number refl),
        had_one (eqb t.number t.number) (r.got t.number) (eq-eqb t.number t.number refl),
      ))
      by_own false e2 = inr (e, ltb-false _ _ e2)
    by_left (suc more) e = subst (λ b. Goes t later (cond b (works r.last r) (works_if_any k (Some t) r)))
        (sym (some_left more)) (by_last (eqb r.last t.number) refl) where
          by_last : (b : Bool) → eqb r.last t.number ≡ b → Goes t later (works r.last r)
          by_last true e2 = inl (omega (
            arith,
            low,
            unblocked (works r.last r) (ticked t) e2,
            had_one (eqb t.number r.last) (r.got t.number) (eq-eqb _ _ (sym (eqb-true _ _ e2))),
          ))
          by_last false e2 = inl (omega (
            arith,
            low,
            e,
            blocked_on r t runs e2,
            blocked_on (works r.last r) (ticked t) runs e2,
            one_less r more e,
            had_none (eqb t.number r.last) (r.got t.number) (ne_eqb _ _ (λ same. eqb-false _ _ e2 (sym same))),
          ))
