-- How long the lines are that are due for feeds.
use Rattle.std.proofs.Common.{◌≡◌, ◌≤◌, ◌+◌, ◌*◌, map, ℕ, List, [], ◌∷◌, ◌++◌, length, arith}
use Rattle.std.proofs.Common.{length-append, codes, decimal}
use Rattle.std.proofs.lemmas.Fmt.{length-decimal-le}
use Rattle.dover_model.specs.declared.events.Event.{Event}
use Rattle.dover_model.specs.declared.events.Event.TheVariants as event
use Rattle.dover_model.specs.declared.events.Refusal.{Refusal}
use Rattle.dover_model.specs.declared.events.Refusal.TheVariants.{BadJob, Count, Total, Ratio, Late, Full}
use Rattle.dover_model.specs.Common.{job_numbers, line_of, AreShort, text_of, refused_text, refusal_word, step_numbers}
use Rattle.dover_model.proofs.texts.Fields.{length-with_numbers}
use Rattle.line_text.specs.traces.Form.{refused_job, refused_done}

-- a word, numbers and a word
numbers_size : (word : List ℕ) (ns : List ℕ) (last : List ℕ) → AreShort ns
    → length (line_of (word ∷ map decimal ns ++ last ∷ [])) ≤ length word + 19 * length ns + 1 + length last
numbers_size word [] last short = omega (arith, length-append word (32 ∷ last))
numbers_size word (n ∷ ns) last short =
    let more : length (line_of (decimal n ∷ map decimal ns ++ last ∷ []))
    ≤ length (decimal n) + 19 * length ns + 1 + length last = numbers_size (decimal n) ns last short.1 in
    let digits : length (decimal n) ≤ 18 = length-decimal-le 18 n (omega arith) short.0 (omega arith) in
    omega (arith, more, digits, length-append word (32 ∷ line_of (decimal n ∷ map decimal ns ++ last ∷ [])))

-- the word of a refusal
pub word_size : (r : Refusal) → length (refusal_word r) ≤ 5
word_size BadJob = omega arith
word_size Count = omega arith
word_size Total = omega arith
word_size Late = omega arith
word_size Full = omega arith
word_size Ratio = omega arith

-- a refused job line
pub refuse_size : (at release work deadline value : ℕ) (cause : Refusal)
    → AreShort (at ∷ release ∷ work ∷ deadline ∷ value ∷ [])
    → length (refused_text (refused_job at release work deadline value cause)) ≤ 107
refuse_size at release work deadline value cause short = omega (
  arith,
  numbers_size (codes "refuse") (at ∷ release ∷ work ∷ deadline ∷ value ∷ []) (refusal_word cause) short,
  word_size cause,
)

-- a refused done line
pub refuse_done_size : (at tick number : ℕ) → AreShort (at ∷ tick ∷ number ∷ [])
    → length (refused_text (refused_done at tick number)) ≤ 107
refuse_done_size at tick number short =
    omega (arith, numbers_size (codes "refuse") (at ∷ tick ∷ number ∷ []) (codes "done") short)

-- a printed step
pub event_size : (e : Event) → AreShort (step_numbers e) → length (text_of e) ≤ 103
event_size (event.Release n j) short = omega (arith, length-with_numbers (codes "job") (n ∷ job_numbers j) short)
event_size (event.Run at n) short = omega (arith, length-with_numbers (codes "run") (at ∷ n ∷ []) short)
event_size (event.Preempt at a b) short =
    omega (arith, length-with_numbers (codes "preempt") (at ∷ a ∷ b ∷ []) short)
event_size (event.Take at a b) short = omega (arith, length-with_numbers (codes "take") (at ∷ a ∷ b ∷ []) short)
event_size (event.Complete at n) short = omega (arith, length-with_numbers (codes "complete") (at ∷ n ∷ []) short)
event_size (event.Abandon at n) short = omega (arith, length-with_numbers (codes "abandon") (at ∷ n ∷ []) short)
event_size (event.End value) short = omega (arith, length-with_numbers (codes "end") (value ∷ []) short)

-- a line is longer by its line feed
pub feed_size : (line : List ℕ) → length (line ++ 10 ∷ []) ≡ length line + 1
feed_size line = length-append line (10 ∷ [])
