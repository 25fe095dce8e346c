use Rattle.trace_words.specs.report.Talk.{IsReport}
use Rattle.trace_words.specs.declared.report.form.Form.TheVariants.{Text}
use Rattle.trace_words.proofs.report.Answering.{same_run, whole_put}
use Rattle.trace_words.proofs.report.word.put_report.Goals as goal

pub returns-in-Text-clause-puts : goal.returns-in-Text-clause-puts
returns-in-Text-clause-puts g c = λ J is same. rw (c.in-Text.is, c.requires.empty)
    (whole_put _ (IsReport Text J) _ _ _ _ _ c.put_whole.ensures.puts (c.text_of.ensures J is same))

pub put_table-requires-clause-run : goal.put_table-requires-clause-run
put_table-requires-clause-run g c = (c.args.ratio, c.requires.run)

pub returns-in-Table-clause-puts : goal.returns-in-Table-clause-puts
returns-in-Table-clause-puts g c = λ J is same. rw c.in-Table.is (c.put_table.ensures.puts c.args.ratio J is same)

pub view_of-requires-clause-run : goal.view_of-requires-clause-run
view_of-requires-clause-run g c = (c.requires.run.0, same_run _ _ _ _ c.deref.ensures.value c.requires.run.1)

pub returns-in_default-clause-puts : goal.returns-in_default-clause-puts
returns-in_default-clause-puts g c = λ J is same. rw c.requires.empty
    (whole_put _ (IsReport c.args.form J) _ _ _ _ _ c.put_whole-in_default.ensures.puts
    (c.view_of.ensures J (same_run _ _ _ _ c.deref.ensures.value is) same))
