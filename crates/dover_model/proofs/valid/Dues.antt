-- The last deadline of jobs.
use Rattle.std.proofs.Common.{◌≡◌, ℕ, ◌≤◌, ◌<◌, List, [], ◌∷◌, ◌++◌, refl, sym, subst, Bool, true, false, cond}
use Rattle.std.proofs.Common.{arith, nat_le, fold, leb-true, leb-false}
use Rattle.std.specs.List.{AllByRecursion}
use Rattle.dover_model.specs.Common.{JobFacts, last_deadline}

-- the later of the deadlines
abbrev pub later_due : ℕ → JobFacts → ℕ
later_due d j = cond (nat_le d j.deadline) j.deadline d

-- it is no sooner than either
pub due_least : (d : ℕ) (j : JobFacts) → (d ≤ later_due d j) × (j.deadline ≤ later_due d j)
due_least d j = by_test (nat_le d j.deadline) refl where
  by_test : (b : Bool) → nat_le d j.deadline ≡ b → (d ≤ cond b j.deadline d) × (j.deadline ≤ cond b j.deadline d)
  by_test true e = let low : d ≤ j.deadline = leb-true _ _ e in (omega arith, omega arith)
  by_test false e = let low : j.deadline < d = leb-false _ _ e in (omega arith, omega arith)

-- a later start gives no sooner an end
due_mono : (a b : ℕ) (j : JobFacts) → a ≤ b → later_due a j ≤ later_due b j
due_mono a b j low = by_test (nat_le a j.deadline) refl where
  least : (b ≤ later_due b j) × (j.deadline ≤ later_due b j)
  least = due_least b j

  by_test : (test : Bool) → nat_le a j.deadline ≡ test → cond test j.deadline a ≤ later_due b j
  by_test true e = least.1
  by_test false e = let up : b ≤ later_due b j = least.0 in omega arith

-- over a list
pub dues_mono : (a b : ℕ) (jobs : List JobFacts) → a ≤ b → fold later_due a jobs ≤ fold later_due b jobs
dues_mono a b [] low = low
dues_mono a b (j ∷ jobs) low = dues_mono (later_due a j) (later_due b j) jobs (due_mono a b j low)

-- no sooner than the start
dues_from : (a : ℕ) (jobs : List JobFacts) → a ≤ fold later_due a jobs
dues_from a [] = omega arith
dues_from a (j ∷ jobs) = let here : a ≤ later_due a j = (due_least a j).0 in
    let rest : later_due a j ≤ fold later_due (later_due a j) jobs = dues_from (later_due a j) jobs in omega arith

-- one list after another
dues_append : (a : ℕ) (jobs more : List JobFacts)
    → fold later_due a (jobs ++ more) ≡ fold later_due (fold later_due a jobs) more
dues_append a [] more = refl
dues_append a (j ∷ jobs) more = dues_append (later_due a j) jobs more

-- the last deadline of more jobs is no sooner
pub last_more : (jobs more : List JobFacts) → last_deadline more ≤ last_deadline (jobs ++ more)
last_more jobs more = subst (λ d. last_deadline more ≤ d) (sym (dues_append 0 jobs more))
    (dues_mono 0 (fold later_due 0 jobs) more (omega arith))

-- the last deadline is no sooner than the first job's
pub last_first : (j : JobFacts) (jobs : List JobFacts) → j.deadline ≤ last_deadline (j ∷ jobs)
last_first j jobs = let here : j.deadline ≤ later_due 0 j = (due_least 0 j).1 in
    let rest : later_due 0 j ≤ fold later_due (later_due 0 j) jobs = dues_from (later_due 0 j) jobs in omega arith

-- it is no sooner than that of the first jobs
pub last_front : (jobs more : List JobFacts) → last_deadline jobs ≤ last_deadline (jobs ++ more)
last_front jobs more = subst (λ d. last_deadline jobs ≤ d) (sym (dues_append 0 jobs more))
    (dues_from (last_deadline jobs) more)

-- no job is due after it
pub dues_most : (jobs : List JobFacts) (d : ℕ) → AllByRecursion (λ j. j.deadline ≤ fold later_due d jobs) jobs
dues_most [] d = tt
dues_most (j ∷ jobs) d = (
  (let here : j.deadline ≤ later_due d j = (due_least d j).1 in omega (arith, dues_from (later_due d j) jobs)),
  dues_most jobs (later_due d j),
)

-- where each is due by a tick, so is the last
dues_within : (bound : ℕ) (jobs : List JobFacts) (d : ℕ) → AllByRecursion (λ j. j.deadline ≤ bound) jobs → d ≤ bound
    → fold later_due d jobs ≤ bound
dues_within bound [] d all low = low
dues_within bound (j ∷ jobs) d all low = dues_within bound jobs (later_due d j) all.1 (by_test (nat_le d j.deadline))
  where
    by_test : (b : Bool) → cond b j.deadline d ≤ bound
    by_test true = all.0
    by_test false = low

pub last_within : (bound : ℕ) (jobs : List JobFacts) → AllByRecursion (λ j. j.deadline ≤ bound) jobs
    → last_deadline jobs ≤ bound
last_within bound jobs all = dues_within bound jobs 0 all (omega arith)
