-- The competitive bound against a slower processor: jobs whose budgets are more than what a schedule has to give them.
use Rattle.std.specs.Prelude.{ℕ, ◌+◌, ◌-◌, ◌*◌, ◌≤◌, max, List, Bool, nat_le, IsTrue, if◌then◌else◌, Option, Some, None}
use Rattle.std.specs.List.{sum_by}
use Rattle.dover_model.specs.Fraction.{Fraction}
use Rattle.dover_model.specs.declared.factors.Factor.{Factor}
use Rattle.dover_model.specs.JobFacts.{JobFacts}
use Rattle.dover_model.specs.Instance.{Instance}
use Rattle.dover_model.specs.Schedules.{ticks_given, numbered}
use Rattle.dover_model.specs.Sound.{Each}

-- the schedule gives to the job as many ticks of its window as are asked for its number
abbrev pub is_served_by : (ℕ → ℕ) → List ℕ → ℕ × JobFacts → Bool
is_served_by works s (n, j) = nat_le (works n) (ticks_given s n j)

-- what it earns by the job
abbrev pub earned_by : (ℕ → ℕ) → List ℕ → ℕ × JobFacts → ℕ
earned_by works s n_j = if is_served_by works s n_j then n_j.1.value else 0

-- the sum of the values of the jobs that it serves
abbrev pub worth_by : (ℕ → ℕ) → Instance → List ℕ → ℕ
worth_by works J s = sum_by (earned_by works s) (numbered J)

-- each job asks for at most 1 + e times as much as is asked for its number
abbrev pub AskAtMost : Fraction → (ℕ → ℕ) → Instance → Type 0
AskAtMost e works J = Each (λ n_j. e.q * n_j.1.work ≤ (e.q + e.p) * works n_j.0) (numbered J)

-- C is at most (1 + √k)² · (1 + e · √k) times A, squared once: what C is above the part without a root is at most 0, or
-- its square at most that of the part with one. (The difference stops at 0.)
abbrev pub is_within_slower_root : Fraction → Fraction → ℕ → ℕ → Bool
is_within_slower_root k e c a =
    let x = k.q * e.q * c - (k.q * e.q + k.p * e.q + 2 * k.p * e.p) * a in
    let y = (2 * k.q * e.q + k.q * e.p + k.p * e.p) * a in
    nat_le (k.q * x * x) (k.p * y * y)

-- what both sides of the next are multiplied by, so that all is in whole numbers
abbrev pub slower_scale : Fraction → Fraction → Factor → ℕ
slower_scale k e f = k.q * e.q * f.c * (f.b - f.c)

-- with the factor β = b/c: (1 + e·k)·β + (1 + e)·k + the greater of 1 and (1 + e)·k/(β-1), times that
abbrev pub slower_share : Fraction → Fraction → Factor → ℕ
slower_share k e f = (k.q * e.q + k.p * e.p) * f.b * (f.b - f.c) + (e.q + e.p) * k.p * f.c * (f.b - f.c)
    + f.c * max (k.q * e.q * (f.b - f.c)) ((e.q + e.p) * k.p * f.c)

-- C is at most that many times A: by the factor, or by the root where none is declared
abbrev pub is_within_slower_by : Fraction → Option Factor → Fraction → ℕ → ℕ → Bool
is_within_slower_by k None e c a = is_within_slower_root k e c a
is_within_slower_by k (Some f) e c a = nat_le (slower_scale k e f * c) (slower_share k e f * a)

-- by what the ratio k says
abbrev pub is_within_slower : Fraction → Fraction → ℕ → ℕ → Bool
is_within_slower k e c a = is_within_slower_by k k.factor e c a

-- the same as a fact
abbrev pub IsWithinSlower : Fraction → Fraction → ℕ → ℕ → Type 0
IsWithinSlower k e c a = IsTrue (is_within_slower k e c a)
