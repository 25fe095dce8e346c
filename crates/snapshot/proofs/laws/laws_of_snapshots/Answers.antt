use Rattle.snapshot.proofs.Spelled.{read_head-head_line, head_line-read_head, read_task-state_line}
use Rattle.snapshot.proofs.Spelled.{state_line-read_task, read_done-done_line, done_line-read_done}
use Rattle.snapshot.proofs.Apart.{snapshot_whole, never_refused, ends_by_itself}
use Rattle.snapshot.proofs.Whole.{is_snapshot}
use Rattle.snapshot.proofs.Feeds.{go_on}
use Rattle.snapshot.proofs.laws.laws_of_snapshots.Goals as goal

pub returns-clause-lines_have_one_spelling_head_again : goal.returns-clause-lines_have_one_spelling_head_again
returns-clause-lines_have_one_spelling_head_again c = read_head-head_line

pub returns-clause-lines_have_one_spelling_head_only : goal.returns-clause-lines_have_one_spelling_head_only
returns-clause-lines_have_one_spelling_head_only c = head_line-read_head

pub returns-clause-lines_have_one_spelling_job_again : goal.returns-clause-lines_have_one_spelling_job_again
returns-clause-lines_have_one_spelling_job_again c = read_task-state_line

pub returns-clause-lines_have_one_spelling_finish_again : goal.returns-clause-lines_have_one_spelling_finish_again
returns-clause-lines_have_one_spelling_finish_again c = read_done-done_line

pub returns-clause-lines_have_one_spelling_finish_only : goal.returns-clause-lines_have_one_spelling_finish_only
returns-clause-lines_have_one_spelling_finish_only c = done_line-read_done

pub returns-clause-lines_have_one_spelling_job_only : goal.returns-clause-lines_have_one_spelling_job_only
returns-clause-lines_have_one_spelling_job_only c = state_line-read_task

pub returns-clause-each_snapshot_is_taken_whole : goal.returns-clause-each_snapshot_is_taken_whole
returns-clause-each_snapshot_is_taken_whole c = snapshot_whole

pub returns-clause-each_snapshot_is_taken_never_refused : goal.returns-clause-each_snapshot_is_taken_never_refused
returns-clause-each_snapshot_is_taken_never_refused c = λ F ls at may. never_refused F may ls at

pub returns-clause-each_taken_is_a_snapshot : goal.returns-clause-each_taken_is_a_snapshot
returns-clause-each_taken_is_a_snapshot c = is_snapshot

pub returns-clause-equal_snapshots_go_on_equally : goal.returns-clause-equal_snapshots_go_on_equally
returns-clause-equal_snapshots_go_on_equally c = go_on

pub returns-clause-snapshots_end_by_themselves : goal.returns-clause-snapshots_end_by_themselves
returns-clause-snapshots_end_by_themselves c = ends_by_itself
