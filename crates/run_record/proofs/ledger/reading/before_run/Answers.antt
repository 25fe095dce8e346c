use Rattle.std.proofs.Common.{[], length, take, sym, ap, ◌∙◌, arith, take_all}
use Rattle.std.proofs.lemmas.List.Sums.{fold_more}
use Rattle.std.proofs.lemmas.Result.{IfOk-weaker}
use Rattle.run_record.specs.ledger.Pages.{entries_of, page_of, with_entry}
use Rattle.run_record.proofs.ledger.Releases.{one_entry}
use Rattle.run_record.proofs.ledger.reading.before_run.Goals as goal

pub loop-event-init : goal.loop-event-init
loop-event-init c = record {
  are = c.new-entries.ensures.items;
  few = omega (arith, ap length c.new-entries.ensures.items);
}

pub put_entry-requires : goal.put_entry-requires
put_entry-requires c = omega (arith, c.loop-event.invariant.few, c.loop-event-test.true, c.requires)

pub loop-event-preserved : goal.loop-event-preserved
loop-event-preserved c =
    let before = c.loop-event.entries.items in
    let e = c.event-item.result in
    let more = c.in_ok-put_entry.ensures in
    record {
      are = more ∙ ap (λ es. with_entry es e) c.loop-event.invariant.are
          ∙ ap (with_entry (entries_of (take c.loop-event.event-index c.args.run.now))) c.event-item.is
          ∙ sym (fold_more with_entry [] c.args.run.now c.loop-event.event-index e c.loop-event-test.true);
      few = omega (arith, ap length more, one_entry before e, c.loop-event.invariant.few);
    }

pub returns : goal.returns
returns c = IfOk-weaker c.new.result _ _
    (λ u is. is ∙ ap page_of (c.loop-event.invariant.are
    ∙ ap entries_of (take_all c.loop-event.event-index c.args.run.now (omega arith))))
    c.new.ensures
