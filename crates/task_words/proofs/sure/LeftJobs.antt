-- The jobs that are left, step by step.
use Rattle.std.proofs.Common.{◌≡◌, ℕ, zero, suc, ◌+◌, ◌≤◌, ◌<◌, List, [], ◌∷◌, ◌++◌, length, refl, sym, ap}
use Rattle.std.proofs.Common.{◌∙◌, drop, eqb, arith}
use Rattle.std.proofs.lemmas.List.{drop_more}
use Rattle.std.specs.List.{enumerate_from}
use Rattle.task_laws.specs.Sure.{Stream, stream_at, blank_stream, most_crossing, others}
use Rattle.task_words.specs.sure.Kept.{copies, left_from}
use Rattle.task_words.specs.sure.Streams.{count_beside}
use Rattle.task_words.proofs.sure.Beside.{copied, length_others}

-- a list behind its end
pub behind_end : {X : Type 0} (xs : List X) (n : ℕ) → length xs ≤ n → drop n xs ≡ []
behind_end [] zero less = refl
behind_end [] (suc n) less = refl
behind_end (x ∷ xs) zero less = absurd (omega (arith, less))
behind_end (x ∷ xs) (suc n) less = behind_end xs n (omega (arith, less))

module _ (streams : List Stream) (x : ℕ) where
  -- of the others from a place on, those at the place come first
  pub others_from : (n : ℕ) → n < length streams
      → others x (enumerate_from n (drop n streams)) ≡ left_from streams x n (copies streams x n)
  others_from n less =
      ap (λ l. others x (enumerate_from n l)) (drop_more streams n blank_stream less)
      ∙ ap (λ l. l ++ others x (enumerate_from (n + 1) (drop (n + 1) streams)))
      (copied (eqb n x) (most_crossing (stream_at streams n)) (stream_at streams n))

  -- where none is left of a stream, those of the next are
  pub left_next : (n : ℕ) → n + 1 < length streams
      → left_from streams x n 0 ≡ left_from streams x (n + 1) (copies streams x (n + 1))
  left_next n less = others_from (n + 1) less

  -- or none
  pub left_none : (n : ℕ) → length streams ≤ n + 1 → left_from streams x n 0 ≡ []
  left_none n over = ap (λ l. others x (enumerate_from (n + 1) l)) (behind_end streams (n + 1) over)

  -- all of them
  pub left_all : 0 < length streams → others x (enumerate_from 0 streams) ≡ left_from streams x 0 (copies streams x 0)
  left_all some = others_from 0 some

  -- so many
  pub left_count : 0 < length streams → length (left_from streams x 0 (copies streams x 0)) ≡ count_beside streams x
  left_count some = ap (λ (l : List Stream). length l) (sym (left_all some)) ∙ length_others x 0 streams
