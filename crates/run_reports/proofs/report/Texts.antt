-- Lines of words and numbers, put together piece by piece.
use Rattle.std.proofs.Common.{◌≡◌, ◌≤◌, ℕ, List, [], ◌∷◌, ◌++◌, length, sym, ap, ◌∙◌, append_assoc, append-nil, arith}
use Rattle.std.proofs.Common.{decimal}
use Rattle.std.proofs.lemmas.Fmt.{length-decimal-le}
use Rattle.std.proofs.lemmas.List.Concat.{flat_map-append}
use Rattle.dover_model.specs.Common.{JobFacts, IsJob, in_lines}
use Rattle.dover_model.proofs.valid.JobLimits.{JobLimits, job_limits}

-- how many digits the numbers of a job have at most
pub record DigitsOf (j : JobFacts) : Type 0 where
  pub release : length (decimal j.release) ≤ 17
  pub work : length (decimal j.work) ≤ 13
  pub deadline : length (decimal j.deadline) ≤ 17
  pub value : length (decimal j.value) ≤ 10

pub digits_of : (j : JobFacts) → IsJob j → DigitsOf j
digits_of j is = record {
  release = length-decimal-le 17 j.release (omega arith) (omega (arith, limits.window, limits.due))
      (omega (arith, limits.window, limits.due));
  work = length-decimal-le 13 j.work (omega arith) (omega (arith, limits.small)) (omega (arith, limits.small));
  deadline = length-decimal-le 17 j.deadline (omega arith) (omega (arith, limits.due)) (omega (arith, limits.due));
  value = length-decimal-le 10 j.value (omega arith) (omega (arith, limits.modest)) (omega (arith, limits.modest));
} where
  limits : JobLimits j
  limits = job_limits is

-- one line
pub one_line : (line : List ℕ) → in_lines (line ∷ []) ≡ line ++ 10 ∷ []
one_line line = append-nil (line ++ 10 ∷ [])

-- y is t with these lines put behind it, one by one
abbrev pub GrowsByLines : List ℕ → List (List ℕ) → List ℕ → Type 0
GrowsByLines t [] y = y ≡ t
GrowsByLines t (l ∷ ls) y = (x : List ℕ) × (x ≡ t ++ in_lines (l ∷ [])) × GrowsByLines x ls y

-- which are then behind it
pub lines_are : (t : List ℕ) (ls : List (List ℕ)) (y : List ℕ) → GrowsByLines t ls y → y ≡ t ++ in_lines ls
lines_are t [] y same = same ∙ sym (append-nil t)
lines_are t (l ∷ ls) y (x, one, more) = lines_are x ls y more ∙ ap (λ s. s ++ in_lines ls) one
    ∙ append_assoc t (in_lines (l ∷ [])) (in_lines ls) ∙ ap (λ s. t ++ s) (ap (λ s. s ++ in_lines ls) (one_line l))

-- lines behind lines
joined_lines : (a b : List (List ℕ)) → in_lines a ++ in_lines b ≡ in_lines (a ++ b)
joined_lines a b = sym (flat_map-append (λ (l : List ℕ). l ++ 10 ∷ []) a b)

-- five parts put one behind another
pub five_parts : (a b c d e : List (List ℕ))
    → (((in_lines a ++ in_lines b) ++ in_lines c) ++ in_lines d) ++ in_lines e ≡ in_lines (a ++ ((b ++ (c ++ d)) ++ e))
five_parts a b c d e =
    ap (λ t. ((t ++ in_lines c) ++ in_lines d) ++ in_lines e) (joined_lines a b)
    ∙ ap (λ t. (t ++ in_lines d) ++ in_lines e) (joined_lines (a ++ b) c)
    ∙ ap (λ t. t ++ in_lines e) (joined_lines ((a ++ b) ++ c) d)
    ∙ joined_lines (((a ++ b) ++ c) ++ d) e
    ∙ ap (λ (ls : List (List ℕ)). in_lines (ls ++ e)) (append_assoc (a ++ b) c d ∙ append_assoc a b (c ++ d))
    ∙ ap in_lines (append_assoc a (b ++ (c ++ d)) e)

-- lines put behind lines
pub behind_lines : (t : List ℕ) (a b : List (List ℕ)) → (t ++ in_lines a) ++ in_lines b ≡ t ++ in_lines (a ++ b)
behind_lines t a b = append_assoc t (in_lines a) (in_lines b) ∙ ap (λ s. t ++ s) (joined_lines a b)
