use Rattle.std.proofs.Common.{refl}
use Rattle.dover_port.proofs.Made.{since_weaker}
use Rattle.dover_top.proofs.Saying.{carried}
use Rattle.dover_top.proofs.carrying.carry_out.Goals as goal

pub returns-in-Serve-clause-carries : goal.returns-in-Serve-clause-carries
returns-in-Serve-clause-carries g c = let w = c.serve_word.ensures in
    carried _ _ _ _ _ _ _ c.in-Serve.is w.talks w.ends w.count tt

pub returns-in-Judge-clause-carries : goal.returns-in-Judge-clause-carries
returns-in-Judge-clause-carries g c = let w = c.judge_word.ensures in
    carried _ _ _ _ _ _ _ c.in-Judge.is w.talks w.ends w.count tt

pub returns-in-Report-clause-carries : goal.returns-in-Report-clause-carries
returns-in-Report-clause-carries g c = let w = c.report_word.ensures in
    carried _ _ _ _ _ _ _ c.in-Report.is w.talks w.ends w.count tt

pub returns-in-Schedule-clause-carries : goal.returns-in-Schedule-clause-carries
returns-in-Schedule-clause-carries g c = let w = c.schedule_word.ensures in
    carried _ _ _ _ _ _ _ c.in-Schedule.is w.talks w.ends w.count tt

pub returns-in-ReportTasks-clause-carries : goal.returns-in-ReportTasks-clause-carries
returns-in-ReportTasks-clause-carries g c = let w = c.task_report_word.ensures in
    carried _ _ _ _ _ _ _ c.in-ReportTasks.is w.talks w.ends w.count tt

pub returns-in-Trial-clause-carries : goal.returns-in-Trial-clause-carries
returns-in-Trial-clause-carries g c = let w = c.trial_word.ensures in
    carried _ _ _ _ _ _ _ c.in-Trial.is w.writes w.ends (since_weaker _ _ _ _ w.writes (λ _ _. tt)) w.count

pub returns-in-Bait-clause-carries : goal.returns-in-Bait-clause-carries
returns-in-Bait-clause-carries g c = let w = c.bait_word.ensures in
    carried _ _ _ _ _ _ _ c.in-Bait.is w.baits w.ends (since_weaker _ _ _ _ w.baits (λ _ _. tt)) refl

pub returns-in-Ask-clause-carries : goal.returns-in-Ask-clause-carries
returns-in-Ask-clause-carries g c = let w = c.question_word.ensures in
    carried _ _ _ _ _ _ _ c.in-Ask.is w.talks w.ends w.count tt

pub returns-in-Lanes-clause-carries : goal.returns-in-Lanes-clause-carries
returns-in-Lanes-clause-carries g c = let w = c.lanes_word.ensures in
    carried _ _ _ _ _ _ _ c.in-Lanes.is w.serves w.ends w.count tt

pub returns-in-Pause-clause-carries : goal.returns-in-Pause-clause-carries
returns-in-Pause-clause-carries g c = let w = c.pause_word.ensures in
    carried _ _ _ _ _ _ _ c.in-Pause.is w.talks w.ends w.count tt

pub returns-in-Resume-clause-carries : goal.returns-in-Resume-clause-carries
returns-in-Resume-clause-carries g c = let w = c.resume_word.ensures in
    carried _ _ _ _ _ _ _ c.in-Resume.is w.resumes w.ends w.count tt

pub returns-in-Unroll-clause-carries : goal.returns-in-Unroll-clause-carries
returns-in-Unroll-clause-carries g c = let w = c.tasks_word.ensures in
    carried _ _ _ _ _ _ _ c.in-Unroll.is w.talks w.ends w.count tt

pub returns-in-Sure-clause-carries : goal.returns-in-Sure-clause-carries
returns-in-Sure-clause-carries g c = let w = c.tasks_word-in-Sure.ensures in
    carried _ _ _ _ _ _ _ c.in-Sure.is w.talks w.ends w.count tt

pub returns-in-Budget-clause-carries : goal.returns-in-Budget-clause-carries
returns-in-Budget-clause-carries g c = let w = c.tasks_word-in-Budget.ensures in
    carried _ _ _ _ _ _ _ c.in-Budget.is w.talks w.ends w.count tt

pub returns-in-Draw-clause-carries : goal.returns-in-Draw-clause-carries
returns-in-Draw-clause-carries g c = let w = c.draw_word.ensures in
    carried _ _ _ _ _ _ _ c.in-Draw.is w.draws w.ends (since_weaker _ _ _ _ w.draws (λ _ _. tt)) refl

pub returns-in-Duel-clause-carries : goal.returns-in-Duel-clause-carries
returns-in-Duel-clause-carries g c = let w = c.duel_word.ensures in
    carried _ _ _ _ _ _ _ c.in-Duel.is w.duels w.ends (since_weaker _ _ _ _ w.duels (λ _ _. tt)) refl

pub returns-in-Ratio-clause-carries : goal.returns-in-Ratio-clause-carries
returns-in-Ratio-clause-carries g c = let w = c.ratio_word.ensures in
    carried _ _ _ _ _ _ _ c.in-Ratio.is w.talks w.ends w.count tt

pub returns-in-FeasibleTasks-clause-carries : goal.returns-in-FeasibleTasks-clause-carries
returns-in-FeasibleTasks-clause-carries g c = let w = c.demand_word.ensures in
    carried _ _ _ _ _ _ _ c.in-FeasibleTasks.is w.talks w.ends w.count tt
