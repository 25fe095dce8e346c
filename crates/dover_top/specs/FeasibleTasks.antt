-- What is promised of tasks whose jobs can be met for all time, and of those whose jobs can't.
use Rattle.std.specs.Prelude.{◌≡◌, ◌⊎◌, ℕ, List, [], ◌∷◌, ◌++◌, false}
use Rattle.dover_model.specs.Common.{Instance, IsValid, Each, Meets, Rules, run, takes_or_abandons}
use Rattle.task_laws.specs.Demand.{AskNoMore, TaskFacts, all_soon}
use Rattle.dover_port.specs.Moves.{Move, ins, outs}
use Rattle.task_words.specs.reading.Account.{account}
use Rattle.demand_words.specs.Demanded.{all_facts}
use Rattle.demand_words.specs.Says.{told_line}
use Rattle.demand_words.specs.declared.answers.Demand.TheVariants.{Met, Window, Over}

-- the tasks that were read, whose jobs may come at any ticks that are a period apart or more
abbrev pub tasks_in : List Move → List TaskFacts
tasks_in moves = all_facts (account 0 (ins moves)).tasks

-- `met` was written, and then nothing is lost
pub record KeepsMet (moves : List Move) : Type 0 where
  pub text : outs moves ≡ told_line Met ++ 10 ∷ []
  -- Of each valid list of jobs that ask for no more than the tasks, in every version, none is taken from or abandoned.
  pub whole : (J : Instance) (of : ℕ → ℕ) → IsValid J → AskNoMore (tasks_in moves) of J
      → Each (λ x. takes_or_abandons x.move ≡ false) (run J)

-- no schedule serves all jobs that come as soon as they may, all tasks at tick 0 first, and are due in so many ticks
abbrev pub CannotMeet : List Move → (ticks : ℕ) → Type 0
CannotMeet moves ticks = (rules : Rules) → Meets (record { rules = rules; jobs = all_soon (tasks_in moves) ticks }) → ⊥

-- this window was written, and its jobs can't all be met
pub record KeepsWindow (moves : List Move) : Type 0 where
  pub ticks : ℕ
  pub work : ℕ
  pub text : outs moves ≡ told_line (Window ticks work) ++ 10 ∷ []
  pub unmet : CannotMeet moves ticks

-- `over` was written, and there is a window whose jobs can't all be met
pub record KeepsOver (moves : List Move) : Type 0 where
  pub text : outs moves ≡ told_line Over ++ 10 ∷ []
  pub ticks : ℕ
  pub unmet : CannotMeet moves ticks

-- one of these two
abbrev pub KeepsUnmet : List Move → Type 0
KeepsUnmet moves = KeepsWindow moves ⊎ KeepsOver moves
