use Rattle.std.proofs.Common.{[], ◌∷◌, sym, subst}
use Rattle.dover_model.specs.Common.{account_of_lines}
use Rattle.event_feed.specs.Answers.{admitted_in}
use Rattle.event_feed.proofs.Admitting.{admitted_behind}
use Rattle.question_words.specs.Questions.{says}
use Rattle.question_words.specs.Spending.{CostsRuns, runs_for}
use Rattle.question_words.proofs.Counts.{no_cost, more_cost}
use Rattle.question_words.proofs.Talking.{orderly}
use Rattle.question_words.proofs.asking.AskingLineReader.laws.Goals as goal

pub returns : goal.returns
returns g c = record {
  orderly = λ a. orderly (says a.question);
  spent = λ a t m ls at.
      let n = admitted_in (account_of_lines ls) in
      subst (CostsRuns (runs_for a.question) n a.before) (sym at.counts) (no_cost (runs_for a.question) n a.before);
  behind = λ a m x line costs. more_cost (runs_for a.question) _ _ a.before m (admitted_behind (line ∷ []) x) costs;
}
