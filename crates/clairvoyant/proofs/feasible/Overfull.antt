-- An overfull window excludes that some schedule serves every job.
use Rattle.std.proofs.Common.{◌≡◌, ℕ, ◌+◌, ◌≤◌, List, sym, ap, ◌∙◌, cond, arith, sum_by}
use Rattle.dover_model.specs.Common.{JobFacts, Instance, Meets, to_come, jobs_of, IsOverfull, is_inside, work_inside}
use Rattle.dover_model.specs.declared.events.Task.{Task}
use Rattle.dover_model.proofs.steps.Kept.{come_jobs}
use Rattle.dover_model.proofs.lists.Members.{sum_filter, sum_map}
use Rattle.dover_model.proofs.runs.Serving.{none_overfull, demand_in}

-- the work inside a window, as a sum over all jobs
pub work_is : (jobs : List JobFacts) (a b : ℕ)
    → work_inside jobs a b ≡ sum_by (λ j. cond (is_inside a b j) j.work 0) jobs
work_is jobs a b = sum_filter (is_inside a b) (λ j. j.work) jobs

-- and over tasks of these jobs
pub work_of_tasks : (jobs : List JobFacts) (tasks : List Task) (a b : ℕ) → jobs_of tasks ≡ jobs
    → work_inside jobs a b ≡ demand_in a b tasks
work_of_tasks jobs tasks a b same = work_is jobs a b ∙ sym (ap (sum_by (λ j. cond (is_inside a b j) j.work 0)) same)
    ∙ sum_map (λ (t : Task). t.job) (λ j. cond (is_inside a b j) j.work 0) tasks

-- where the window's work is more than its ticks, no schedule serves every job
pub overfull_excludes : (J : Instance) (a b w : ℕ) → IsOverfull J.jobs a b w → Meets J → ⊥
overfull_excludes J a b w full meets =
    let tasks : List Task = to_come 0 J.jobs in
    let fits : a + demand_in a b tasks ≤ b = none_overfull J meets tasks (come_jobs 0 J.jobs) a b full.window in
    let sums : work_inside J.jobs a b ≡ demand_in a b tasks = work_of_tasks J.jobs tasks a b (come_jobs 0 J.jobs) in
    omega (arith, full.work, full.too_much, full.window)
