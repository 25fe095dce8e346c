use Rattle.std.proofs.Common.{refl}
use Rattle.ready_server.proofs.Feeding.{under_way, one_further, served_by, some_few, all_served, can_admit}
use Rattle.ready_server.proofs.running.serve_jobs.Goals as goal

pub loop-job-init : goal.loop-job-init
loop-job-init g c = record {
  under_way = λ J from shown can. under_way _ _ J from _ shown can;
  paid = λ start paid. paid;
}

pub serve_job-requires-clause-shown : goal.serve_job-requires-clause-shown
serve_job-requires-clause-shown g c =
    let r = c.requires in
    let it = rw c.in-Some.ensures.jobs at c.loop-job.invariant.under_way r.0 r.1 r.2 r.3 in (
      it.served,
      it.to,
      served_by _ _ _ it.served it.to it.shown
          (c.in_ok-make_room.ensures.serves it.served it.to it.shown.events it.shown.served),
      it.can.follow.0,
      can_admit it.served it.to c.in-Some.job (g.S.JobSource.jobs c.next_job.new.self) it.can,
    )

pub loop-job-preserved : goal.loop-job-preserved
loop-job-preserved g c = record {
  under_way = λ J from shown can.
      let rest = g.S.JobSource.jobs c.next_job.new.self in
      let it = rw c.in-Some.ensures.jobs at c.loop-job.invariant.under_way J from shown can in
      one_further _ _ J from _ c.in-Some.job rest it _ _
      (c.serve_job.ensures.shown it.served it.to
      (served_by _ _ _ it.served it.to it.shown
      (c.in_ok-make_room.ensures.serves it.served it.to it.shown.events it.shown.served)) it.can.follow.0
      (can_admit it.served it.to c.in-Some.job rest it.can));
  paid = λ start paid. c.serve_job.ensures.paid start
      (c.in_ok-make_room.ensures.paid start c.loop-job.comparisons (c.loop-job.invariant.paid start paid));
}

pub returns-in_err-make_room-clause-paid : goal.returns-in_err-make_room-clause-paid
returns-in_err-make_room-clause-paid g c = λ start paid. c.in_err-make_room.ensures.paid start c.loop-job.comparisons
    (c.loop-job.invariant.paid start paid)

pub returns-in_err-make_room-clause-count : goal.returns-in_err-make_room-clause-count
returns-in_err-make_room-clause-count g c = λ J from start shown can paid.
    let it = c.loop-job.invariant.under_way J from shown can in
    some_few _ _ J from _ _ it start c.loop-job.comparisons
    (c.laws.ensures.few c.loop-job.server it.served it.to it.shown.events start c.loop-job.comparisons
    it.shown.served (c.loop-job.invariant.paid start paid))

pub returns-clause-fed : goal.returns-clause-fed
returns-clause-fed g c = λ J from shown can.
    all_served _ _ J from _ (rw (c.in_default.ensures.none.0 refl) at c.loop-job.invariant.under_way J from shown can)

pub returns-clause-count : goal.returns-clause-count
returns-clause-count g c = λ J from start shown can paid.
    let it = c.loop-job.invariant.under_way J from shown can in
    some_few _ _ J from _ _ it start c.loop-job.comparisons
    (c.laws.ensures.few c.loop-job.server it.served it.to it.shown.events start c.loop-job.comparisons
    it.shown.served (c.loop-job.invariant.paid start paid))

pub returns-clause-paid : goal.returns-clause-paid
returns-clause-paid g c = λ start paid. c.loop-job.invariant.paid start paid
