-- What the judge keeps of a text, and what it says of it.
use Rattle.std.specs.Prelude.{◌≡◌, ◌≤◌, ◌<◌, ◌+◌, ℕ, List, [], ◌++◌, length, Bool, true, false, Result, Ok, Err, filter}
use Rattle.std.specs.Prelude.{sum_by}
use Rattle.dover_model.specs.declared.Memory.{Memory}
use Rattle.dover_model.specs.declared.events.Event.{Event}
use Rattle.dover_model.specs.Common.{IsWithin, bound, Fraction, Meets, worth, run, printed, ran, completed_value, Each}
use Rattle.dover_model.specs.Common.{takes_or_abandons, Session, IsValidSession, instance_of, admitted_jobs}
use Rattle.dover_model.specs.Common.{may_finish_early, observed, whole_lines}
use Rattle.dover_model.specs.Verdict as model
use Rattle.line_text.specs.Cutting as cutting
use Rattle.line_text.specs.Cutting.{Cutting}
use Rattle.line_text.specs.declared.cutting.ByteEffect.{ByteEffect}
use Rattle.trace_judge.specs.declared.verdict.Verdict.{Verdict}
use Rattle.trace_judge.specs.declared.verdict.Verdict.TheVariants.{Accepted, Wrong, Short}
use Rattle.trace_judge.specs.declared.judge.Found.{Found}
use Rattle.trace_judge.specs.declared.judge.Found.TheVariants.{Good, Wrong as Bad, NoMemory}
use Rattle.trace_judge.specs.declared.verdict.Expected.{Expected}
use Rattle.trace_judge.specs.Reads.{Reading, Reads, ReadsAhead, is_job_line, expected_of, kept_steps, IsPaid}

-- what is kept of a text: the line that goes on and how many have ended, what is kept of the lines, and what was found:
-- no line wrong, the first wrong line and what is due in its place, or that memory was lacking
pub record Judged : Type 0 where
  pub lines : Cutting
  pub reader : Reading
  pub found : Found

-- how many whole lines of the text name a job
abbrev pub jobs_named : List ℕ → ℕ
jobs_named text = length (filter is_job_line (whole_lines text))

-- no line of the text is wrong, and this is kept of it
pub record IsGood (j : Judged) (text : List ℕ) : Type 0 where
  pub cut : cutting.StandsFor j.lines text
  pub counts : model.rest_counts text ≡ false
  pub reads : Reads j.reader (whole_lines text)

-- the judge stands for the text: no memory was lacking, and what it has found is so
abbrev pub StandsFor : Judged → List ℕ → Type 0
StandsFor j text = elim j.found [
  | Good ↦ IsGood j text
  | Bad line due ↦ model.verdict text ≡ model.Wrong line (expected_of due)
  | NoMemory ↦ ⊥
]

-- the steps of the run are kept
abbrev pub keeps : Judged → Bool
keeps j = j.reader.keep

-- the judge stands for what it stood for with the piece behind it, and has spent room for no more than the jobs that
-- the piece names
pub record Fed (old new : Judged) (piece : List ℕ) : Type 0 where
  pub stands : (text : List ℕ) → StandsFor old text → StandsFor new (text ++ piece)
  pub spare : (text : List ℕ) → StandsFor old text
      → old.reader.spare + jobs_named text ≤ new.reader.spare + jobs_named (text ++ piece)
  pub keep : keeps new ≡ keeps old

-- the piece names more jobs than there was room for
abbrev pub IsOverfed : Judged → List ℕ → Type 0
IsOverfed j piece = (text : List ℕ) → StandsFor j text → j.reader.spare + jobs_named text < jobs_named (text ++ piece)

-- up to here what the run cost is paid for, and its jobs are named by lines of the text
pub record HasPaidFor (j : Judged) (text : List ℕ) (start now : ℕ) : Type 0 where
  pub paid : IsPaid j.reader start now
  pub few : j.reader.course.jobs ≤ jobs_named text

-- what the piece costs is paid for
abbrev pub PaysFor : (old new : Judged) → List ℕ → (before after : ℕ) → Type 0
PaysFor old new piece before after = (text : List ℕ) (start : ℕ) → StandsFor old text
    → HasPaidFor old text start before → HasPaidFor new (text ++ piece) start after

-- the line of this number is wrong, and this is due in its place; the run may have gone on to that
pub record Misses (old new : Judged) (line : ℕ) : Type 0 where
  pub due : Expected
  pub is : new ≡ record old { reader = new.reader; found = Bad line due }
  pub expects : (ls : List (List ℕ)) → ReadsAhead old.reader ls → model.expected_after ls ≡ expected_of due

-- what is found where this was told of the line that was counted last
abbrev pub Notes : (old new : Judged) → Result Bool Memory → Type 0
Notes old new (Ok true) = new ≡ old
Notes old new (Ok false) = Misses old new old.lines.count
Notes old new (Err e) = new ≡ record old { found = NoMemory }

-- no line before the last byte was wrong, and this is kept of the bytes before it and cut with it
pub record IsCut (j : Judged) (step : ByteEffect) (before text : List ℕ) : Type 0 where
  pub cut : cutting.StandsFor j.lines text
  pub last : j.lines.last ≡ step
  pub parts : cutting.HasCut step j.lines.line before text
  pub reads : Reads j.reader (whole_lines before)

-- the session is valid: no schedule of its jobs is worth more than the ratio allows for this value, neither by the
-- works that were declared nor by those that the run observed, and by these the run's own schedule is worth it. Where
-- no job may finish early these are the declared ones. And where some schedule serves every job, none is taken late or
-- abandoned, and the value is that of all jobs
pub record IsEarned (S : Session) (k : Fraction) (value : ℕ) : Type 0 where
  pub valid : IsValidSession S
  pub within : (s : List ℕ) → IsWithin k (worth (instance_of S) s) value
  pub within_observed : (s : List ℕ) → IsWithin k (worth (observed (instance_of S)) s) value
  pub honest : worth (observed (instance_of S)) (ran (instance_of S)) ≡ value
  pub as_declared : may_finish_early S.rules.version ≡ false → observed (instance_of S) ≡ instance_of S
  pub none_lost : Meets (instance_of S) → Each (λ x. takes_or_abandons x.move ≡ false) (run (instance_of S))
  pub whole : Meets (instance_of S) → value ≡ sum_by (λ j. j.value) (admitted_jobs S.items)

-- the judge's verdict is that of the text, as the model has it
abbrev pub Tells : Verdict → List ℕ → Type 0
Tells (Accepted k version value most jobs) text = (S : Session) × (model.verdict text ≡ model.Accepted S)
    × (k ≡ S.rules.ratio) × (version ≡ S.rules.version) × (value ≡ completed_value (instance_of S))
    × (most ≡ bound k value) × (jobs ≡ length (admitted_jobs S.items)) × IsEarned S k value
Tells (Wrong line due) text = model.verdict text ≡ model.Wrong line (expected_of due)
Tells (Short lines) text = model.verdict text ≡ model.Short lines

-- the steps of the run that is accepted, where they were kept
abbrev pub steps_told : Bool → model.Verdict → List Event
steps_told keep (model.Accepted S) = kept_steps keep (printed (instance_of S))
steps_told keep (model.Wrong line due) = []
steps_told keep (model.Short lines) = []

-- a line is wrong
abbrev pub is_wrong : model.Verdict → Bool
is_wrong (model.Accepted S) = false
is_wrong (model.Wrong line due) = true
is_wrong (model.Short lines) = false
