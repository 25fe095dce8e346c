-- The jobs of a duel as phases, each a link with the works of its small jobs; the path that a scheduler may not leave,
-- and the plans that it is held against.
use Rattle.std.specs.Prelude.{ℕ, ◌+◌, ◌*◌, ◌≤◌, ◌<◌, List, [], ◌∷◌, ◌++◌, length, nat_lt, replicate, if◌then◌else◌}
use Rattle.std.specs.List.{sum, AllByRecursion}
use Rattle.dover_model.specs.Common.{JobFacts, tight_job}
use Rattle.stated_jobs.specs.duel.Jobs.{smalls}

-- A link for each list of works of small jobs: it is one tick longer than they are, and the next link comes in its last
-- tick. The last link stands alone.
abbrev pub jobs_from : (p q t : ℕ) → List (List ℕ) → (last : ℕ) → List JobFacts
jobs_from p q t [] last = tight_job t last q ∷ []
jobs_from p q t (gs ∷ rest) last =
    tight_job t (sum gs + 1) q ∷ (smalls p t gs ++ jobs_from p q (t + sum gs) rest last)

-- the number of the last link released by a tick
abbrev pub path : (o t : ℕ) → List (List ℕ) → ℕ → ℕ
path o t [] u = o
path o t (gs ∷ rest) u = if nat_lt u (t + sum gs) then o else path (o + 1 + length gs) (t + sum gs) rest u

-- each number as often as its job has work
abbrev pub names : (n : ℕ) → List ℕ → List ℕ
names n [] = []
names n (g ∷ gs) = replicate g n ++ names (n + 1) gs

-- from tick t on, the small jobs before the last link released by a tick, and then that link
abbrev pub plan : (o t : ℕ) → List (List ℕ) → (last tick : ℕ) → List ℕ
plan o t [] last tick = replicate last o
plan o t (gs ∷ rest) last tick =
    if nat_lt tick (t + sum gs) then replicate (sum gs + 1) o
    else names (o + 1) gs ++ plan (o + 1 + length gs) (t + sum gs) rest last tick

-- what it is worth
abbrev pub reward : (p q t : ℕ) → List (List ℕ) → (last tick : ℕ) → ℕ
reward p q t [] last tick = p * t + q * last
reward p q t (gs ∷ rest) last tick =
    if nat_lt tick (t + sum gs) then p * t + q * (sum gs + 1) else reward p q (t + sum gs) rest last tick

-- the work of the first link
abbrev pub first_of : List (List ℕ) → ℕ → ℕ
first_of [] last = last
first_of (gs ∷ rest) last = sum gs + 1

-- the release of the last link
abbrev pub end_of : (t : ℕ) → List (List ℕ) → ℕ
end_of t [] = t
end_of t (gs ∷ rest) = end_of (t + sum gs) rest

-- whoever takes a small job, or stays with a link, loses by the factor a/b to the plan
abbrev pub AreTraps : (p q a b t : ℕ) → List (List ℕ) → (last : ℕ) → Type 0
AreTraps p q a b t [] last = (1 ≤ last) × (a * (q * last) < b * (p * t + q * last))
AreTraps p q a b t (gs ∷ rest) last =
    AllByRecursion (λ g. (1 ≤ g) × (a * (p * g) < b * (p * t + q * (sum gs + 1)))) gs
    × (a * (q * (sum gs + 1)) < b * (p * (t + sum gs) + q * first_of rest last))
    × (p * t + q * (sum gs + 1) ≤ p * (t + sum gs) + q * first_of rest last)
    × AreTraps p q a b (t + sum gs) rest last
