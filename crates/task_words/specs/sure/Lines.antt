-- The lines of the word `sure`.
use Rattle.std.specs.Prelude.{◌≡◌, ℕ, List, [], ◌∷◌, ◌++◌, map, nat_lt, if◌then◌else◌, codes}
use Rattle.std.specs.List.{enumerate_from}
use Rattle.dover_model.specs.Common.{Fraction, Declaration, most_value, in_lines, with_numbers, is_heavy}
use Rattle.task_laws.specs.Sure.{Stream}
use Rattle.task_laws.specs.Sure.{stream_at, is_spread}
use Rattle.root_compare.specs.Least.{least_heavy}
use Rattle.dover_port.specs.declared.status.Status.{Status}
use Rattle.dover_port.specs.declared.status.Status.TheVariants.{Done}
use Rattle.task_words.specs.declared.tasks.task.PeriodicTask.{PeriodicTask}
use Rattle.task_words.specs.sure.Streams.{streams_of, most_against, stays_within}

-- no value makes task x sure: the cause stands behind a space, and then the numbers
abbrev pub none_line : (x : ℕ) → (cause numbers : List ℕ) → List ℕ
none_line x cause numbers = with_numbers (codes "none") (x ∷ []) ++ with_numbers cause numbers

-- the least value v that makes task x sure against others that are worth this
abbrev pub raise_line : Fraction → List Stream → (x against v : ℕ) → List ℕ
raise_line k streams x against v =
    if nat_lt most_value v then none_line x (codes " limit") (against ∷ v ∷ []) else
    (if stays_within k streams x v then with_numbers (codes "raise") (x ∷ against ∷ v ∷ [])
    else none_line x (codes " ratio") (against ∷ v ∷ []))

-- a spread task x is sure, or it is with the least value that is heavy
abbrev pub spread_line : Fraction → List Stream → (x against : ℕ) → List ℕ
spread_line k streams x against =
    if is_heavy k (stream_at streams x).value against then with_numbers (codes "sure") (x ∷ against ∷ []) else
    (if nat_lt most_value against then none_line x (codes " limit") []
    else raise_line k streams x against (least_heavy k against))

-- what is said of task x
abbrev pub sure_line : Declaration → List Stream → ℕ → List ℕ
sure_line rules streams x =
    if is_spread (stream_at streams x) then spread_line rules.ratio streams x (most_against rules.version streams x)
    else none_line x (codes " spread") []

-- a line for each task, in order
abbrev pub sure_lines : Declaration → List Stream → List (List ℕ)
sure_lines rules streams = map (λ x_s. sure_line rules streams x_s.0) (enumerate_from 0 streams)

-- Done with these lines
abbrev pub SaysSure : Declaration → List PeriodicTask → Status → List ℕ → Type 0
SaysSure rules tasks Done text = text ≡ in_lines (sure_lines rules (streams_of tasks))
SaysSure rules tasks _ text = ⊥
