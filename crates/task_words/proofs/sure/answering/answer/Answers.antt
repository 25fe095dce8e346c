use Rattle.std.proofs.Common.{ap, sym, subst}
use Rattle.dover_model.specs.Lines.{in_lines}
use Rattle.dover_port.specs.declared.status.Status.TheVariants.{Done}
use Rattle.task_words.specs.reading.Record.{listed_rules}
use Rattle.task_words.specs.sure.Kept.{AreSmall}
use Rattle.task_words.specs.sure.Lines.{sure_lines}
use Rattle.task_words.specs.sure.Streams.{streams_of}
use Rattle.task_words.proofs.sure.Small.{small_tasks}
use Rattle.task_words.proofs.sure.answering.answer.Goals as goal

pub sum_up-requires : goal.sum_up-requires
sum_up-requires g c = subst (λ ts. AreSmall (streams_of ts)) (sym c.as_slice-tasks.ensures.value)
    (small_tasks (listed_rules c.args.listed.now).ratio c.args.listed.now.tasks.items c.requires.are)

pub find_sparse-requires : goal.find_sparse-requires
find_sparse-requires g c = subst (λ ts. AreSmall (streams_of ts)) (sym c.as_slice-tasks.ensures.value)
    (small_tasks (listed_rules c.args.listed.now).ratio c.args.listed.now.tasks.items c.requires.are)

pub put_lines-requires-clause-small : goal.put_lines-requires-clause-small
put_lines-requires-clause-small g c = subst (λ ts. AreSmall (streams_of ts)) (sym c.as_slice-tasks.ensures.value)
    (small_tasks (listed_rules c.args.listed.now).ratio c.args.listed.now.tasks.items c.requires.are)

pub returns-in-Ok-clause-says : goal.returns-in-Ok-clause-says
returns-in-Ok-clause-says g c = (
  in_lines (sure_lines (listed_rules c.args.listed.now) (streams_of c.as_slice-tasks.result.now)),
  ap (λ ts. in_lines (sure_lines (listed_rules c.args.listed.now) (streams_of ts))) c.as_slice-tasks.ensures.value,
  rw c.requires.empty at c.in-Ok.ensures.text.all,
)

pub returns-in-Err-clause-says : goal.returns-in-Err-clause-says
returns-in-Err-clause-says g c = (
  Done,
  in_lines (sure_lines (listed_rules c.args.listed.now) (streams_of c.as_slice-tasks.result.now)),
  ap (λ ts. in_lines (sure_lines (listed_rules c.args.listed.now) (streams_of ts))) c.as_slice-tasks.ensures.value,
  rw c.requires.empty at c.in-Err.ensures.text.part,
)
