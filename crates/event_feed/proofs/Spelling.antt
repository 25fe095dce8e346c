-- The text of the numbers of a job line.
use Rattle.std.proofs.Common.{◌≡◌, ◌≤◌, ℕ, List, drop, length, codes, ap, sym, ◌∙◌, arith}
use Rattle.dover_model.specs.Common.{JobFacts, job_numbers, feed_text, JobLine, AreShort}
use Rattle.line_text.specs.Writing.{numbers_behind}
use Rattle.line_text.proofs.Written.{with_numbers-behind, length-numbers_behind}

-- behind the word the line has the numbers
pub job_text : (line : List ℕ) (j : JobFacts) → feed_text (JobLine j) ≡ line
    → drop 3 line ≡ numbers_behind (job_numbers j)
job_text line j e = ap (drop 3) (sym e ∙ sym (with_numbers-behind (codes "job") (job_numbers j)))

-- the text has room
pub numbers_fit : (line : List ℕ) (j : JobFacts) → AreShort (job_numbers j) → feed_text (JobLine j) ≡ line
    → length (drop 3 line) ≤ 76
numbers_fit line j short e = omega (
  arith,
  ap (λ (bs : List ℕ). length bs) (job_text line j e),
  length-numbers_behind (job_numbers j) short,
)
