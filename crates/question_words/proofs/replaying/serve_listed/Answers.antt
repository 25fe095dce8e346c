use Rattle.std.proofs.Common.{◌≤◌, length, get_or, sym, subst, arith}
use Rattle.dover_model.proofs.runs.Spending.{few_more}
use Rattle.dover_model.specs.Run.{printed}
use Rattle.dover_model.specs.declared.horizon.Horizon.TheVariants.{End}
use Rattle.event_feed.specs.Listing.{declared_in, listed_instance}
use Rattle.question_words.proofs.Handed.{bare_valid, at_first, no_line, next_done, last_done, last_shown, last_few}
use Rattle.question_words.proofs.replaying.serve_listed.Goals as goal

pub loop-done-init : goal.loop-done-init
loop-done-init g c = let L = c.args.listed.now in record {
  at = at_first (declared_in L) L.jobs.items (bare_valid L c.requires.valid) c.args.server.now c.args.run.now
      c.requires.begins L.done_lines.items c.requires.among.each;
  paid = c.requires.paid;
}

pub slice_bounds-serve_part-start : goal.slice_bounds-serve_part-start
slice_bounds-serve_part-start g c =
    let L = c.args.listed.now in
    let n = next_done (declared_in L) L.jobs.items (bare_valid L c.requires.valid) c.loop-done.server c.loop-done.run
    L.done_lines.items c.loop-done.done-index c.loop-done.count c.loop-done.invariant.at c.requires.among
    c.deref-done-items.result.now c.deref-done-items.ensures.value c.loop-done-test.true c.deref.result.now
    c.deref.ensures.value in
    n.up

pub slice_bounds-serve_part-end : goal.slice_bounds-serve_part-end
slice_bounds-serve_part-end g c =
    let L = c.args.listed.now in
    let n = next_done (declared_in L) L.jobs.items (bare_valid L c.requires.valid) c.loop-done.server c.loop-done.run
    L.done_lines.items c.loop-done.done-index c.loop-done.count c.loop-done.invariant.at c.requires.among
    c.deref-done-items.result.now c.deref-done-items.ensures.value c.loop-done-test.true c.deref.result.now
    c.deref.ensures.value in
    subst (λ js. (get_or c.deref-done-items.result.now c.loop-done.done-index no_line).behind ≤ length js)
    (sym c.deref.ensures.value) n.there

pub slice_bounds-serve_part-count : goal.slice_bounds-serve_part-count
slice_bounds-serve_part-count g c =
    let L = c.args.listed.now in
    let n = next_done (declared_in L) L.jobs.items (bare_valid L c.requires.valid) c.loop-done.server c.loop-done.run
    L.done_lines.items c.loop-done.done-index c.loop-done.count c.loop-done.invariant.at c.requires.among
    c.deref-done-items.result.now c.deref-done-items.ensures.value c.loop-done-test.true c.deref.result.now
    c.deref.ensures.value in
    n.up

pub serve_part-requires : goal.serve_part-requires
serve_part-requires g c =
    let L = c.args.listed.now in
    let n = next_done (declared_in L) L.jobs.items (bare_valid L c.requires.valid) c.loop-done.server c.loop-done.run
    L.done_lines.items c.loop-done.done-index c.loop-done.count c.loop-done.invariant.at c.requires.among
    c.deref-done-items.result.now c.deref-done-items.ensures.value c.loop-done-test.true c.deref.result.now
    c.deref.ensures.value in
    (_, n.from, n.shown, n.can)

pub returns-in_err-serve_part-clause-count : goal.returns-in_err-serve_part-clause-count
returns-in_err-serve_part-clause-count g c =
    let L = c.args.listed.now in
    let n = next_done (declared_in L) L.jobs.items (bare_valid L c.requires.valid) c.loop-done.server c.loop-done.run
    L.done_lines.items c.loop-done.done-index c.loop-done.count c.loop-done.invariant.at c.requires.among
    c.deref-done-items.result.now c.deref-done-items.ensures.value c.loop-done-test.true c.deref.result.now
    c.deref.ensures.value in
    few_more _ (length L.jobs.items) c.args.comparisons.now c.serve_part.new.comparisons n.few
    (c.in_err-serve_part.ensures.count _ n.from c.args.comparisons.now n.shown n.can c.loop-done.invariant.paid)

pub finish_job-requires : goal.finish_job-requires
finish_job-requires g c =
    let L = c.args.listed.now in
    let n = next_done (declared_in L) L.jobs.items (bare_valid L c.requires.valid) c.loop-done.server c.loop-done.run
    L.done_lines.items c.loop-done.done-index c.loop-done.count c.loop-done.invariant.at c.requires.among
    c.deref-done-items.result.now c.deref-done-items.ensures.value c.loop-done-test.true c.deref.result.now
    c.deref.ensures.value in
    let fed = c.in_ok-serve_part.ensures.fed _ n.from n.shown n.can in
    let come = n.before c.serve_part.new.server c.serve_part.new.run fed in
    (_, come.0, come.1, come.2)

pub loop-done-preserved : goal.loop-done-preserved
loop-done-preserved g c =
    let L = c.args.listed.now in
    let n = next_done (declared_in L) L.jobs.items (bare_valid L c.requires.valid) c.loop-done.server c.loop-done.run
    L.done_lines.items c.loop-done.done-index c.loop-done.count c.loop-done.invariant.at c.requires.among
    c.deref-done-items.result.now c.deref-done-items.ensures.value c.loop-done-test.true c.deref.result.now
    c.deref.ensures.value in
    let fed = c.in_ok-serve_part.ensures.fed _ n.from n.shown n.can in
    let come = n.before c.serve_part.new.server c.serve_part.new.run fed in
    record {
      at = n.behind c.finish_job.new.server c.finish_job.new.watcher
          (c.finish_job.ensures.shown _ come.0 come.1 come.2);
      paid = c.finish_job.ensures.paid c.args.comparisons.now
          (c.in_ok-serve_part.ensures.paid c.args.comparisons.now c.loop-done.invariant.paid);
    }

pub serve_part-requires-2 : goal.serve_part-requires-2
serve_part-requires-2 g c =
    let L = c.args.listed.now in
    let n = last_done (declared_in L) L.jobs.items (bare_valid L c.requires.valid) c.loop-done.server c.loop-done.run
    L.done_lines.items c.loop-done.done-index c.loop-done.count c.loop-done.invariant.at
    (omega (arith, c.loop-done-test.false, c.deref-done-items.ensures.len)) c.deref-2.result.now
    c.deref-2.ensures.value in
    (n.before, n.from, n.shown, n.can)

pub returns-in_err-serve_part-2-clause-count : goal.returns-in_err-serve_part-2-clause-count
returns-in_err-serve_part-2-clause-count g c =
    let L = c.args.listed.now in
    let n = last_done (declared_in L) L.jobs.items (bare_valid L c.requires.valid) c.loop-done.server c.loop-done.run
    L.done_lines.items c.loop-done.done-index c.loop-done.count c.loop-done.invariant.at
    (omega (arith, c.loop-done-test.false, c.deref-done-items.ensures.len)) c.deref-2.result.now
    c.deref-2.ensures.value in
    last_few _ _ n c.args.comparisons.now c.serve_part-2.new.comparisons
    (c.in_err-serve_part-2.ensures.count n.before n.from c.args.comparisons.now n.shown n.can
    c.loop-done.invariant.paid)

pub show_to-requires : goal.show_to-requires
show_to-requires g c =
    let L = c.args.listed.now in
    let n = last_done (declared_in L) L.jobs.items (bare_valid L c.requires.valid) c.loop-done.server c.loop-done.run
    L.done_lines.items c.loop-done.done-index c.loop-done.count c.loop-done.invariant.at
    (omega (arith, c.loop-done-test.false, c.deref-done-items.ensures.len)) c.deref-2.result.now
    c.deref-2.ensures.value in
    let fed = c.in_ok-serve_part-2.ensures.fed n.before n.from n.shown n.can in
    let all = last_shown _ _ n c.serve_part-2.new.server c.serve_part-2.new.run fed in
    (listed_instance L, fed.to, all, fed.ends)

pub returns-clause-run : goal.returns-clause-run
returns-clause-run g c =
    let L = c.args.listed.now in
    let n = last_done (declared_in L) L.jobs.items (bare_valid L c.requires.valid) c.loop-done.server c.loop-done.run
    L.done_lines.items c.loop-done.done-index c.loop-done.count c.loop-done.invariant.at
    (omega (arith, c.loop-done-test.false, c.deref-done-items.ensures.len)) c.deref-2.result.now
    c.deref-2.ensures.value in
    let fed = c.in_ok-serve_part-2.ensures.fed n.before n.from n.shown n.can in
    let all = last_shown _ _ n c.serve_part-2.new.server c.serve_part-2.new.run fed in
    (c.show_to.ensures.shown (listed_instance L) fed.to all fed.ends).1

pub returns-clause-count : goal.returns-clause-count
returns-clause-count g c =
    let L = c.args.listed.now in
    let n = last_done (declared_in L) L.jobs.items (bare_valid L c.requires.valid) c.loop-done.server c.loop-done.run
    L.done_lines.items c.loop-done.done-index c.loop-done.count c.loop-done.invariant.at
    (omega (arith, c.loop-done-test.false, c.deref-done-items.ensures.len)) c.deref-2.result.now
    c.deref-2.ensures.value in
    let fed = c.in_ok-serve_part-2.ensures.fed n.before n.from n.shown n.can in
    let all = last_shown _ _ n c.serve_part-2.new.server c.serve_part-2.new.run fed in
    c.laws.ensures.few c.show_to.new.server (listed_instance L) End (printed (listed_instance L)) c.args.comparisons.now
    c.show_to.new.comparisons
    (c.laws.ensures.rested c.show_to.new.server (listed_instance L) End
    (c.show_to.ensures.shown (listed_instance L) fed.to all fed.ends).0)
    (c.show_to.ensures.paid c.args.comparisons.now
    (c.in_ok-serve_part-2.ensures.paid c.args.comparisons.now c.loop-done.invariant.paid))
