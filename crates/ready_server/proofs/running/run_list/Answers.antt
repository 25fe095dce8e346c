use Rattle.std.proofs.Common.{arith}
use Rattle.dover_model.specs.Common.{no_jobs, jobs_under, printed}
use Rattle.dover_model.specs.declared.horizon.Horizon.TheVariants.{Mark, End}
use Rattle.ready_server.proofs.Feeding.{can_first, first_shown}
use Rattle.ready_server.proofs.running.run_list.Goals as goal

pub serve_jobs-requires : goal.serve_jobs-requires
serve_jobs-requires g c = (
  no_jobs c.args.version c.args.k,
  Mark 0,
  first_shown _ _ _ _ c.in_ok-server.ensures.serves c.requires.unseen,
  can_first c.args.k c.args.version (g.S.JobSource.jobs c.args.jobs.now) c.requires.valid,
)

pub show_to-requires : goal.show_to-requires
show_to-requires g c =
    let fed = c.in_ok-serve_jobs.ensures.fed (no_jobs c.args.version c.args.k) (Mark 0)
    (first_shown _ _ _ _ c.in_ok-server.ensures.serves c.requires.unseen)
    (can_first c.args.k c.args.version (g.S.JobSource.jobs c.args.jobs.now) c.requires.valid) in
    (jobs_under c.args.version c.args.k (g.S.JobSource.jobs c.args.jobs.now), fed.to, fed.shown, fed.ends)

pub returns-in_err-serve_jobs-clause-count : goal.returns-in_err-serve_jobs-clause-count
returns-in_err-serve_jobs-clause-count g c =
    c.in_err-serve_jobs.ensures.count (no_jobs c.args.version c.args.k) (Mark 0) c.args.comparisons.now
    (first_shown _ _ _ _ c.in_ok-server.ensures.serves c.requires.unseen)
    (can_first c.args.k c.args.version (g.S.JobSource.jobs c.args.jobs.now) c.requires.valid)
    (c.in_ok-server.ensures.paid c.args.comparisons.now c.args.comparisons.now (omega arith))

pub returns-clause-seen : goal.returns-clause-seen
returns-clause-seen g c =
    let fed = c.in_ok-serve_jobs.ensures.fed (no_jobs c.args.version c.args.k) (Mark 0)
    (first_shown _ _ _ _ c.in_ok-server.ensures.serves c.requires.unseen)
    (can_first c.args.k c.args.version (g.S.JobSource.jobs c.args.jobs.now) c.requires.valid) in
    (c.show_to.ensures.shown (jobs_under c.args.version c.args.k (g.S.JobSource.jobs c.args.jobs.now)) fed.to fed.shown
    fed.ends).1

pub returns-clause-count : goal.returns-clause-count
returns-clause-count g c =
    let J = jobs_under c.args.version c.args.k (g.S.JobSource.jobs c.args.jobs.now) in
    let fed = c.in_ok-serve_jobs.ensures.fed (no_jobs c.args.version c.args.k) (Mark 0)
    (first_shown _ _ _ _ c.in_ok-server.ensures.serves c.requires.unseen)
    (can_first c.args.k c.args.version (g.S.JobSource.jobs c.args.jobs.now) c.requires.valid) in
    c.laws.ensures.few c.show_to.new.server J End (printed J) c.args.comparisons.now c.show_to.new.comparisons
    (c.laws.ensures.rested c.show_to.new.server J End
    (c.show_to.ensures.shown J fed.to fed.shown fed.ends).0)
    (c.show_to.ensures.paid c.args.comparisons.now (c.in_ok-serve_jobs.ensures.paid c.args.comparisons.now
    (c.in_ok-server.ensures.paid c.args.comparisons.now c.args.comparisons.now (omega arith))))
