use Rattle.std.proofs.Common.{[], sym, subst}
use Rattle.dialogue.specs.Talk.{IsFinal}
use Rattle.dover_model.specs.Common.{account_of_lines}
use Rattle.dover_port.proofs.Through.{passes_nothing}
use Rattle.event_feed.proofs.Ending.{jobs_valid}
use Rattle.question_words.specs.Questions.{says}
use Rattle.question_words.specs.Talk.{Answers}
use Rattle.question_words.proofs.Answering.{refusal, said, unended, answered}
use Rattle.question_words.proofs.Counts.{listed_count, no_cost}
use Rattle.question_words.specs.Spending.{CostsRuns, runs_for}
use Rattle.question_words.specs.Texts.{text_of}
use Rattle.question_words.proofs.asking.AskingLineReader.answer.Goals as goal

pub close-requires : goal.close-requires
close-requires g c = (c.requires.stands.1, c.requires.stands.2.reads)

pub answer-requires-clause-valid : goal.answer-requires-clause-valid
answer-requires-clause-valid g c = jobs_valid _ c.in-Ok.listed (c.in-Ok.ensures.jobs _ c.requires.stands.2.reads)

pub answer-requires-clause-among : goal.answer-requires-clause-among
answer-requires-clause-among g c = (c.in-Ok.ensures.jobs _ c.requires.stands.2.reads).among

pub returns-in-Ok-answer-clause-answers : goal.returns-in-Ok-answer-clause-answers
returns-in-Ok-answer-clause-answers g c = λ a ls at.
    answered (Answers (says a.question) (account_of_lines ls)) _ c.in-Ok-answer.answer _ _ _ _
    c.in-Ok-answer.ensures.ends
    (said (says a.question) ls c.in-Ok.listed (c.in-Ok.ensures.jobs ls at.reads) _ _
    (rw at.asks at c.in-Ok-answer.ensures.says)) c.put.ensures.puts

pub returns-in-Err-answer-clause-answers : goal.returns-in-Err-answer-clause-answers
returns-in-Err-answer-clause-answers g c = λ a ls at. (
  unended (says a.question) ls c.in-Ok.listed (c.in-Ok.ensures.jobs ls at.reads),
  rw c.requires.empty (passes_nothing _ []),
)

pub returns-in-Err-clause-answers : goal.returns-in-Err-clause-answers
returns-in-Err-clause-answers g c = λ a ls at.
    answered (Answers (says a.question) (account_of_lines ls)) _ c.refused.result _ _ _ _
    (subst IsFinal (sym c.refused.ensures.status) tt)
    (subst (λ s. Answers (says a.question) (account_of_lines ls) s (text_of c.refused.result))
    (sym c.refused.ensures.status)
    (refusal (says a.question) ls c.in-Err.why (c.in-Err.ensures.none ls at.reads) _ c.refused.ensures.text))
    c.put-in-Err.ensures.puts

pub returns-in-Ok-answer-clause-spent : goal.returns-in-Ok-answer-clause-spent
returns-in-Ok-answer-clause-spent g c = λ a ls at.
    subst (λ n. CostsRuns (runs_for a.question) n a.before c.answer.new.comparisons)
    (listed_count (account_of_lines ls) c.in-Ok.listed (c.in-Ok.ensures.jobs ls at.reads))
    (rw (at.asks, at.counts) at c.answer.ensures.count)

pub returns-in-Err-answer-clause-spent : goal.returns-in-Err-answer-clause-spent
returns-in-Err-answer-clause-spent g c = λ a ls at.
    subst (λ n. CostsRuns (runs_for a.question) n a.before c.answer.new.comparisons)
    (listed_count (account_of_lines ls) c.in-Ok.listed (c.in-Ok.ensures.jobs ls at.reads))
    (rw (at.asks, at.counts) at c.answer.ensures.count)

pub returns-in-Err-clause-spent : goal.returns-in-Err-clause-spent
returns-in-Err-clause-spent g c = λ a ls at. rw at.counts (no_cost (runs_for a.question) _ a.before)
