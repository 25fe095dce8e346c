use Rattle.many_processors.proofs.bound.Bounding.{many_bound}
use Rattle.std.proofs.Common.{◌≡◌, ◌*◌, subst, arith}
use Rattle.many_processors.specs.MoreProcessors.{IsWithinTimes}
use Rattle.many_processors.proofs.bound.Chains.{times_bound}
use Rattle.many_processors.proofs.bound.Dealing.{lanes_within}
use Rattle.many_processors.proofs.books.RunBooks.{run_books, run_bound, run_bound_same, run_observed}
use Rattle.many_processors.proofs.runs.RunEnds.{run_ends}
use Rattle.many_processors.proofs.runs.Sure.{heavy_completed}
use Rattle.many_processors.proofs.runs.OneProcessor.{one_value}
use Rattle.dover_model.specs.Run as one_run
use Rattle.many_processors.specs.Run.{completed_value}
use Rattle.many_processors.specs.Schedules.{IsFor, worth}
use Rattle.dover_model.specs.Common.{numbered}
use Rattle.many_processors.proofs.bound_laws.laws_of_bounds.Goals as goal

pub returns-clause-over_books : goal.returns-clause-over_books
returns-clause-over_books c k v w processors times jobs ran s books some few =
    many_bound k v w processors jobs ran books times some s few

pub returns-clause-has_books : goal.returns-clause-has_books
returns-clause-has_books c processors J j some valid least =
    run_books processors J some valid (run_ends processors J valid some) j least

pub returns-clause-same_number : goal.returns-clause-same_number
returns-clause-same_number c processors J s some valid few =
    run_bound_same processors J s some valid (run_ends processors J valid some) few

pub returns-clause-more_processors : goal.returns-clause-more_processors
returns-clause-more_processors c processors times J s some some_times valid few =
    run_bound times processors J s some_times some valid (run_ends processors J valid some) few

pub returns-clause-times_the_bound : goal.returns-clause-times_the_bound
returns-clause-times_the_bound c processors times J s some some_times valid few =
    times_bound times some_times J.rules.ratio (worth (numbered J) s) (completed_value processors J)
    (run_bound times processors J s some_times some valid (run_ends processors J valid some) few)

pub returns-clause-lanes : goal.returns-clause-lanes
returns-clause-lanes c k processors lanes s some each few =
    lanes_within processors k s few one_run.completed_value 0 lanes (λ J member part part_few.
    let it = each J member in
    let whole : processors ≡ processors * 1 = omega arith in
    subst (λ r. IsWithinTimes processors r (worth (numbered J) part) (one_run.completed_value J)) it.1
    (subst (λ a. IsWithinTimes processors J.rules.ratio (worth (numbered J) part) a) (one_value J it.0)
    (run_bound processors 1 J part some (omega arith) it.0 (run_ends 1 J it.0 (omega arith))
    (subst (λ n. IsFor n part) whole part_few))))

pub returns-clause-one_job : goal.returns-clause-one_job
returns-clause-one_job c processors n J j some valid there light heavy =
    heavy_completed processors J valid some n j there light heavy

pub returns-clause-observed_works : goal.returns-clause-observed_works
returns-clause-observed_works c processors times extra J s some some_times valid few much =
    run_observed times processors extra J s some_times some valid (run_ends processors J valid some) few much
