use Rattle.task_laws.proofs.sure.Sure.{run_fits, heavy_throughout, heavy_at_start, heavy_beside, heavy_in_all}
use Rattle.task_laws.proofs.sure.Streams.{sure_streams, sure_streams_in_all, sure_of_stream, heavy_by_sum}
use Rattle.task_laws.proofs.sure.Streams.{heavy_by_sets}
use Rattle.task_laws.proofs.sure_laws.laws_of_sure_jobs.Goals as goal

pub returns-clause-what_holds_the_processor_fits : goal.returns-clause-what_holds_the_processor_fits
returns-clause-what_holds_the_processor_fits c = run_fits

pub returns-clause-a_heavy_job_is_completed_throughout : goal.returns-clause-a_heavy_job_is_completed_throughout
returns-clause-a_heavy_job_is_completed_throughout c = heavy_throughout

pub returns-clause-a_heavy_job_is_completed_undisturbed : goal.returns-clause-a_heavy_job_is_completed_undisturbed
returns-clause-a_heavy_job_is_completed_undisturbed c = heavy_at_start

pub returns-clause-a_heavy_job_is_completed_by_sum : goal.returns-clause-a_heavy_job_is_completed_by_sum
returns-clause-a_heavy_job_is_completed_by_sum c = heavy_beside

pub returns-clause-a_heavy_job_is_completed_in_all : goal.returns-clause-a_heavy_job_is_completed_in_all
returns-clause-a_heavy_job_is_completed_in_all c = heavy_in_all

pub returns-clause-a_sure_job_is_completed_completed : goal.returns-clause-a_sure_job_is_completed_completed
returns-clause-a_sure_job_is_completed_completed c = sure_streams

pub returns-clause-a_sure_job_is_completed_in_all : goal.returns-clause-a_sure_job_is_completed_in_all
returns-clause-a_sure_job_is_completed_in_all c = sure_streams_in_all

pub returns-clause-a_sure_job_is_completed_of_stream : goal.returns-clause-a_sure_job_is_completed_of_stream
returns-clause-a_sure_job_is_completed_of_stream c = sure_of_stream

pub returns-clause-a_sure_job_is_completed_by_sum : goal.returns-clause-a_sure_job_is_completed_by_sum
returns-clause-a_sure_job_is_completed_by_sum c = heavy_by_sum

pub returns-clause-a_sure_job_is_completed_by_sets : goal.returns-clause-a_sure_job_is_completed_by_sets
returns-clause-a_sure_job_is_completed_by_sets c = heavy_by_sets
