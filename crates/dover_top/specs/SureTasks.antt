-- What is promised of tasks that are told sure.
use Rattle.std.specs.Prelude.{◌≡◌, ℕ, List, [], ◌∷◌, true, Some, codes}
use Rattle.dover_model.specs.Common.{Declaration, Instance, IsValid, JobFacts, in_lines, with_numbers, numbered}
use Rattle.dover_model.specs.Common.{IsMember}
use Rattle.task_laws.specs.Sure.{AreOfStreams, IsCompleted, IsOfStream, stream_at}
use Rattle.dover_port.specs.Moves.{Move, ins, outs}
use Rattle.task_words.specs.reading.Account.{account}
use Rattle.task_words.specs.sure.Lines.{sure_line, sure_lines}
use Rattle.task_words.specs.sure.Streams.{HoldsIn, is_sure, most_against, streams_of}

-- the tasks that were read, of which this was written
pub record KeepsSure (moves : List Move) : Type 0 where
  pub rules : Declaration
  pub rules_are : (account 0 (ins moves)).rules ≡ Some rules
  -- Of each task there is a line, in order.
  pub text : outs moves ≡ in_lines (sure_lines rules (streams_of (account 0 (ins moves)).tasks))
  -- The line of a task that is sure says so.
  pub told : (x : ℕ) → is_sure rules.ratio rules.version (streams_of (account 0 (ins moves)).tasks) x ≡ true
      → sure_line rules (streams_of (account 0 (ins moves)).tasks) x
      ≡ with_numbers (codes "sure") (x ∷ most_against rules.version (streams_of (account 0 (ins moves)).tasks) x ∷ [])
  -- Of a valid list of jobs of these tasks, those of one task a period apart or more, each job of such a task is
  -- completed in time: in versions One to Three, and of tasks of version Four in every version.
  pub completed : (J : Instance) (of : ℕ → ℕ) (n : ℕ) (j : JobFacts) → IsValid J → J.rules.ratio ≡ rules.ratio
      → HoldsIn rules.version J.rules.version
      → AreOfStreams (streams_of (account 0 (ins moves)).tasks) of J → IsMember (n, j) (numbered J)
      → IsOfStream (stream_at (streams_of (account 0 (ins moves)).tasks) (of n)) j
      → is_sure rules.ratio rules.version (streams_of (account 0 (ins moves)).tasks) (of n) ≡ true → IsCompleted J n j
