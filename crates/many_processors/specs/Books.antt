-- The books of a run of several processors: what is known of its intervals, of the ticks that it gives, and of the jobs
-- that are over.
use Rattle.std.specs.Prelude.{◌≡◌, ℕ, zero, suc, ◌+◌, ◌*◌, ◌≤◌, ◌<◌, ◌⊎◌, List, [], ◌∷◌, length, Bool, ◌&&◌, nat_le}
use Rattle.std.specs.Prelude.{nat_lt, not, ◌==◌, ◌++◌, ◌-◌}
use Rattle.std.specs.List.{count_by, sum_by}
use Rattle.dover_model.specs.Fraction.{Fraction}
use Rattle.dover_model.specs.JobFacts.{JobFacts}
use Rattle.dover_model.specs.Orders.{is_heavy}
use Rattle.dover_model.specs.Sound.{IsMember, Each}
use Rattle.dover_model.specs.Books.{Job, job_value, IsDense, IsPaid}
use Rattle.many_processors.specs.Schedules.{ticks_given}

-- d, and e besides, are paid by z: e is at most z, and what z is more pays for d
abbrev pub IsPaidTwice : Fraction → ℕ → ℕ → ℕ → Type 0
IsPaidTwice k d e z = (e ≤ z) × IsPaid k d (z - e)

-- an interval of a processor, in which jobs run on it or are held on it
pub record Interval : Type 0 where
  pub processor : ℕ
  pub from : ℕ
  pub until : ℕ
  pub regular : ℕ  -- the value of the jobs completed before a take
  pub taken : ℕ  -- the value of those completed after one
  pub displaced : ℕ  -- the value of the running and held jobs before each take
  pub first : ℕ  -- before the first take

-- the value that is completed in it
abbrev pub completed_in : Interval → ℕ
completed_in i = i.regular + i.taken

-- the interval lasts in this tick
abbrev pub is_open : ℕ → Interval → Bool
is_open τ i = nat_le i.from τ && nat_lt τ i.until

-- so many of them do
abbrev pub open_at : List Interval → ℕ → ℕ
open_at intervals τ = count_by (is_open τ) intervals

-- none ends before one in front of it
abbrev pub EndInOrder : List Interval → Type 0
EndInOrder [] = Unit {0}
EndInOrder (i ∷ later) = Each (λ other. i.until ≤ other.until) later × EndInOrder later

-- a job that is over, under its number
pub record Over : Type 0 where
  pub number : ℕ
  pub job : JobFacts
  pub at : ℕ  -- the tick at which it was completed or abandoned
  pub had : ℕ  -- the ticks that it had

-- the job with its number
abbrev pub job_of : Over → Job
job_of o = (o.number, o.job)

-- the jobs that a tick is given to
abbrev pub given_at : List (List ℕ) → ℕ → List ℕ
given_at [] τ = []
given_at (numbers ∷ more) zero = numbers
given_at (numbers ∷ more) (suc τ) = given_at more τ

-- in a tick all processors give it to some job, or each of these jobs that is ready has it
abbrev pub IsBusyIn : (processors : ℕ) → List (List ℕ) → List Over → ℕ → Type 0
IsBusyIn processors ran jobs τ = (processors ≤ length (given_at ran τ))
    ⊎ Each (λ o. o.job.release ≤ τ → τ < o.at → IsMember o.number (given_at ran τ)) jobs

-- what is known of a job that is completed after a take, with the value v and the work w of a job of least density
pub record TakenIn (v w : ℕ) (o : Over) : Type 0 where
  pub at_most_work : o.had ≤ o.job.work
  pub reach : o.job.deadline + o.had ≤ o.at + o.job.work  -- it had no laxity when it took
  pub work_paid : v * o.job.work ≤ w * o.job.value

-- the interval lasts when the job is abandoned, and the job isn't heavy against what it completes
abbrev pub is_light_in : Fraction → Over → Interval → Bool
is_light_in k o i = (nat_le i.from o.at && nat_le o.at i.until) && not (is_heavy k o.job.value (completed_in i))

-- what is known of an abandoned job: on each processor it is light in an interval
pub record GoneIn (k : Fraction) (v w : ℕ) (processors : ℕ) (intervals : List Interval) (o : Over) : Type 0 where
  pub light : processors ≤ count_by (is_light_in k o) intervals
  pub reach : o.job.deadline ≤ o.at + o.job.work
  pub dense : IsDense k v w o.job

-- the books of a run of so many processors, with the jobs that each tick was given to, and the value v and the work w
-- of a job of least density
pub record AreBooks (k : Fraction) (v w : ℕ) (processors : ℕ) (jobs : List Job) (ran : List (List ℕ)) : Type 0 where
  pub some_q : 1 ≤ k.q
  pub ratio : k.q ≤ k.p
  pub some_work : 1 ≤ w
  -- the intervals of all processors
  pub intervals : List Interval
  pub in_order : EndInOrder intervals
  -- the jobs: completed before a take in their interval, after one, and abandoned; and of the last two kinds those that
  -- were displaced by a first take before, by themselves
  pub regular : List Job
  pub taken : List Over
  pub gone : List Over
  pub lost : List Job
  pub each_once : (f : Job → ℕ) → sum_by f jobs ≡ sum_by f regular + sum_by (λ o. f (job_of o)) taken
      + sum_by (λ o. f (job_of o)) gone + sum_by f lost
  -- no number names two jobs
  pub names : (n : ℕ) → count_by (λ n_j. n == n_j.0) jobs ≤ 1
  pub regular_sum : sum_by job_value regular ≡ sum_by (λ i. i.regular) intervals
  -- the value of those by themselves that are completed
  pub spare : ℕ
  pub taken_sum : sum_by (λ o. o.job.value) taken + spare ≡ sum_by (λ i. i.taken) intervals
  pub lost_sum : sum_by job_value lost ≤ sum_by (λ i. i.first) intervals
  pub displaced : Each (λ i. IsPaidTwice k i.displaced i.first i.taken) intervals
  -- a processor with an interval gives the tick to some job
  pub covered : (τ : ℕ) → open_at intervals τ ≤ length (given_at ran τ)
  pub busy : (τ : ℕ) → IsBusyIn processors ran (taken ++ gone) τ
  -- all ticks are paid by what is done as usual and displaced, by what is completed of those by themselves, and by
  -- what the other jobs completed after a take had
  pub ticks_paid : v * sum_by length ran ≤ w * (sum_by (λ i. i.regular) intervals + sum_by (λ i. i.displaced) intervals
      + spare) + v * sum_by (λ o. o.had) taken
  pub taken_are : Each (TakenIn v w) taken
  pub taken_had : Each (λ o. o.had ≤ ticks_given ran o.number o.job) taken
  pub gone_are : Each (GoneIn k v w processors intervals) gone
