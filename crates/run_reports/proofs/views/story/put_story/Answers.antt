use Rattle.std.proofs.Common.{◌<◌, length, get_or, arith}
use Rattle.std.proofs.lemmas.List.{get_or_default}
use Rattle.run_reports.proofs.views.Telling.{small_at, same_weighed, told_more, told_all}
use Rattle.run_reports.proofs.views.story.put_story.Goals as goal

pub put_told-requires-clause-worth : goal.put_told-requires-clause-worth
put_told-requires-clause-worth c = small_at c.args.worths.now c.loop-index.index c.requires.small

pub loop-index-preserved : goal.loop-index-preserved
loop-index-preserved c =
    let worth = get_or c.args.worths.now c.loop-index.index 0 in
    let room = get_or c.args.rooms.now c.loop-index.index 0 in
    let weighed : c.loop-index.index < length c.args.worths.now = omega (
      arith,
      c.requires.same,
      c.loop-index-test.true,
    ) in
    let left : c.loop-index.index < length c.args.rooms.now = omega (
      arith,
      c.requires.as_many,
      c.loop-index-test.true,
    ) in
    told_more c.args.asked.now.version c.args.asked.now.k c.args.asked.now.number c.args.asked.now.value
    c.args.jobs.now c.args.served.now c.args.run.now c.args.worths.now c.args.rooms.now c.loop-index.index
    c.index-run-index.result worth room c.loop-index.on
    c.starts_at-starts.result c.is_on_after-on.result
    (record { worth = worth; work = c.work_of.result; room = room; left = c.left_at.result }) c.loop-index.text.items
    c.put_told.new.text.items _ c.index-run-index.is
    (get_or_default c.args.worths.now c.loop-index.index 0 worth weighed)
    (get_or_default c.args.rooms.now c.loop-index.index 0 room left) c.loop-index-test.true c.requires.same
    c.requires.as_many c.starts_at-starts.ensures c.is_on_after-on.ensures
    (same_weighed worth room c.work_of.result _ c.left_at.result _ c.work_of.ensures c.left_at.ensures.is)
    c.in_ok-put_told.ensures
    c.loop-index.invariant

pub returns : goal.returns
returns c = told_all c.args.asked.now.version c.args.asked.now.k c.args.asked.now.number c.args.asked.now.value
    c.args.jobs.now c.args.served.now c.args.run.now c.args.worths.now c.args.rooms.now c.loop-index.index
    c.loop-index.on c.loop-index.text.items _ (omega arith)
    c.loop-index.invariant
