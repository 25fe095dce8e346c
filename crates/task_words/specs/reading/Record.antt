-- What is known of a task text whose reading has ended.
use Rattle.std.specs.Prelude.{◌≡◌, ◌⊎◌, ℕ, List, true, Some, length}
use Rattle.dover_model.specs.Common.{IsRatio, Declaration as Rules, whole_lines, Ended, Faulty, rules_with}
use Rattle.dover_model.specs.Common.{IsDeclarable}
use Rattle.event_feed.specs.Answers.{short_after}
use Rattle.event_feed.specs.Kept.{cause_of_fault}
use Rattle.event_feed.specs.declared.faults.FeedFault.{FeedFault}
use Rattle.task_words.specs.tasks.Limits.{AreTasks}
use Rattle.task_words.specs.reading.Account.{account, is_open}
use Rattle.task_words.specs.reading.Faults.{NamesFault}
use Rattle.task_words.specs.declared.reading.listed.ListedTasks.{ListedTasks}

-- the rules that were declared
abbrev pub listed_rules : ListedTasks → Rules
listed_rules listed = rules_with listed.ratio listed.version

-- the text of these bytes ended without a fault, and these are its rules and its tasks, which may stand together
pub record IsEnded (until : ℕ) (listed : ListedTasks) (bytes : List ℕ) : Type 0 where
  pub ended : (account until bytes).standing ≡ Ended
  pub rules : (account until bytes).rules ≡ Some (listed_rules listed)
  pub tasks : (account until bytes).tasks ≡ listed.tasks.items
  pub ratio : IsRatio (listed_rules listed).ratio
  pub declarable : IsDeclarable (listed_rules listed)
  pub are : AreTasks until (listed_rules listed).ratio listed.tasks.items

-- this is the fault of the text, with the other task named where the ratio is broken, or the text goes on and this says
-- that it is short
abbrev pub IsRefusedBy : (until : ℕ) → FeedFault → List ℕ → Type 0
IsRefusedBy until fault bytes =
    (((account until bytes).standing ≡ Faulty fault.line (cause_of_fault fault.cause))
    × NamesFault until fault.cause bytes)
    ⊎ ((is_open (account until bytes) ≡ true) × (fault ≡ short_after (length (whole_lines bytes))))
