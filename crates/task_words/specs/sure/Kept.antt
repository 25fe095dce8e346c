-- What is known of tasks before their lines are written.
use Rattle.std.specs.Prelude.{◌≡◌, ◌≢◌, ℕ, ◌+◌, ◌*◌, ◌≤◌, ◌<◌, List, [], ◌∷◌, ◌++◌, drop, length, replicate}
use Rattle.std.specs.Prelude.{if◌then◌else◌, ◌==◌, codes}
use Rattle.std.specs.List.{sum_by, enumerate_from}
use Rattle.dover_model.specs.declared.events.Version.TheVariants.{Two}
use Rattle.dover_model.specs.Common.{last_tick_in, most_value, with_numbers}
use Rattle.task_laws.specs.Sure.{Stream, stream_at, most_crossing, others}
use Rattle.task_words.specs.declared.sure.densities.Sparse.{Sparse}
use Rattle.task_words.specs.declared.sure.sums.Sums.{Sums}
use Rattle.task_words.specs.declared.sure.telling.Told.{Told}
use Rattle.task_words.specs.declared.sure.telling.Told.TheVariants as told
use Rattle.task_words.specs.sure.Lines.{none_line}

-- a stream within the limits of tasks
pub record IsSmall (s : Stream) : Type 0 where
  pub apart : 1 ≤ s.apart
  pub work : 1 ≤ s.work
  pub within : s.work ≤ s.span
  pub span : s.span ≤ last_tick_in Two
  pub worth : 1 ≤ s.value
  pub value : s.value ≤ most_value

-- each of these is, and they are few
pub record AreSmall (streams : List Stream) : Type 0 where
  pub each : (y : ℕ) → y < length streams → IsSmall (stream_at streams y)
  pub few : length streams ≤ 1_000_000

-- the sums over all streams: how many jobs can cross one tick, and what these are worth
pub record AreSums (streams : List Stream) (sums : Sums) : Type 0 where
  pub crossing : sums.crossing ≡ sum_by most_crossing streams
  pub worth : sums.worth ≡ sum_by (λ s. most_crossing s * s.value) streams

-- as many copies of stream n as can stand beside x
abbrev pub copies : List Stream → (x n : ℕ) → ℕ
copies streams x n = if n == x then 0 else most_crossing (stream_at streams n)

-- so many jobs of stream n, and then all of the streams behind it, but those of x
abbrev pub left_from : List Stream → (x n left : ℕ) → List Stream
left_from streams x n left = replicate left (stream_at streams n)
    ++ others x (enumerate_from (n + 1) (drop (n + 1) streams))

-- stream r, if it is one, is another than `without`, and none but that is less dense; if it is none there is no other
pub record IsSparsest (streams : List Stream) (without r : ℕ) : Type 0 where
  pub within : r ≤ length streams
  pub other : r < length streams → r ≢ without
  pub some : (y : ℕ) → y < length streams → y ≢ without → r < length streams
  pub least : (y : ℕ) → y < length streams → y ≢ without
      → (stream_at streams r).value * (stream_at streams y).work
      ≤ (stream_at streams y).value * (stream_at streams r).work

-- the two least dense streams
pub record AreSparse (streams : List Stream) (sparse : Sparse) : Type 0 where
  pub first : IsSparsest streams (length streams) sparse.first
  pub second : IsSparsest streams sparse.first sparse.second

-- the line of what is told of task x
abbrev pub told_line : (x : ℕ) → Told → List ℕ
told_line x told.Spread = none_line x (codes " spread") []
told_line x (told.Sure against) = with_numbers (codes "sure") (x ∷ against ∷ [])
told_line x told.Beyond = none_line x (codes " limit") []
told_line x (told.Limit against value) = none_line x (codes " limit") (against ∷ value ∷ [])
told_line x (told.Ratio against value) = none_line x (codes " ratio") (against ∷ value ∷ [])
told_line x (told.Raise against value) = with_numbers (codes "raise") (x ∷ against ∷ value ∷ [])
