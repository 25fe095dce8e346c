use Rattle.std.proofs.Common.{sym, subst}
use Rattle.task_words.specs.reading.Record.{listed_rules}
use Rattle.task_words.specs.sure.Kept.{AreSmall}
use Rattle.task_words.specs.sure.Streams.{streams_of}
use Rattle.task_words.proofs.sure.Small.{small_tasks}
use Rattle.task_words.proofs.budget.answering.answer.Goals as goal

pub pay-requires : goal.pay-requires
pay-requires g c = record {
  small = subst (λ ts. AreSmall (streams_of ts)) (sym c.deref.ensures.value)
      (small_tasks (listed_rules c.args.listed.now).ratio c.args.listed.now.tasks.items c.requires.are);
}
