-- The jobs that are released and not done.
use Rattle.std.specs.Prelude.{◌≡◌, ℕ, ◌/◌, ◌%◌, ◌^◌, ◌≤◌, ◌<◌, ◌⊎◌, ◌==◌, cond, List, ◌∷◌, length, map, slice_index_or}
use Rattle.std.specs.Prelude.{IsPermutation, sum_by}
use Rattle.std.specs.Ordering.{nat_cmp}
use Rattle.std.specs.declared.cmp.Ordering.{Ordering}
use Rattle.std.specs.declared.cmp.Reverse.{Reverse}
use Rattle.std.specs.BinaryHeap.{IsHeap}
use Rattle.dover_model.specs.Sound.{Each}

-- such a job: its deadline and number, and what is left of it
abbrev pub Kept : Type 0
Kept = (ℕ × ℕ) × ℕ

-- how many jobs are released, and those of them that aren't done
pub record QueueFacts : Type 0 where
  pub released : ℕ
  pub kept : List Kept

-- each of these jobs is behind the one of this deadline and number
abbrev pub AreBehind : (deadline number : ℕ) → List Kept → Type 0
AreBehind deadline number kept = Each (λ e. (deadline < e.0.0) ⊎ ((deadline ≡ e.0.0) × (number < e.0.1))) kept

-- it is the first of the jobs, and the others are behind it
pub record IsFirst (it : Kept) (kept : List Kept) : Type 0 where
  pub rest : List Kept
  pub is : kept ≡ it ∷ rest
  pub behind : AreBehind it.0.0 it.0.1 rest

-- it is taken out, and the others are behind it
pub record IsTakenOut (it : Kept) (old new : List Kept) : Type 0 where
  pub rest : IsPermutation old (it ∷ new)
  pub behind : AreBehind it.0.0 it.0.1 new

-- what the heap has of a job: its deadline, and in the last 20 binary digits its number
abbrev pub Turn : Type 0
Turn = Reverse ℕ

-- the deadline and the number
abbrev pub key_of : Turn → ℕ × ℕ
key_of t = (t.0 / 2 ^ 20, t.0 % 2 ^ 20)

-- its order, in which a job is the greater the earlier it is due
abbrev pub turn_cmp : Turn → Turn → Ordering
turn_cmp s t = nat_cmp t.0 s.0

-- the jobs in the heap, with what is left of them
abbrev pub kept_of : List ℕ → List Turn → List Kept
kept_of left turns = map (λ (t : Turn). (key_of t, slice_index_or left (key_of t).1 0)) turns

-- 1 if the job has the number
abbrev pub is_of : ℕ → Turn → ℕ
is_of n t = cond ((key_of t).1 == n) 1 0

-- the heap is in order, and has each job that is released at most once
pub record IsInTurn (left : List ℕ) (turns : List Turn) : Type 0 where
  pub ordered : IsHeap turn_cmp turns
  pub apart : (n : ℕ) → sum_by (is_of n) turns ≤ 1
  pub low : Each (λ t. (key_of t).1 < length left) turns
