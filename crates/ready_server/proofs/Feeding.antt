-- A valid list of jobs, as it is served job by job.
use Rattle.std.proofs.Common.{◌≡◌, ◌+◌, ◌≤◌, ℕ, List, [], ◌∷◌, length, refl, sym, ap, ◌∙◌, subst, arith}
use Rattle.std.proofs.lemmas.List.{append_assoc, append-nil, length-append}
use Rattle.std.specs.List.{AllByRecursion}
use Rattle.dover_model.specs.declared.events.Event.{Event}
use Rattle.dover_model.specs.declared.events.Version.{Version}
use Rattle.dover_model.specs.Common.{Fraction, JobFacts, IsJob, last_tick, Instance, IsValid, with_jobs, jobs_under}
use Rattle.dover_model.specs.Common.{MayFollow, no_jobs, CostsAtMost}
use Rattle.dover_model.proofs.valid.Valid.{valid_front, all_back, order_back}
use Rattle.dover_model.specs.declared.horizon.Horizon.{Horizon}
use Rattle.dover_model.specs.declared.horizon.Horizon.TheVariants.{Mark, End}
use Rattle.dover_model.proofs.settled.Horizons.{may_follow}
use Rattle.dover_model.proofs.runs.Spending.{few_more}
use Rattle.ready_server.specs.Running.{HasShown, CanFeed, MayReach, HasFed}
use Rattle.ready_server.specs.Serving.{Serves}
use Rattle.ready_server.specs.declared.server.ReadyServer.{ReadyServer}
use Rattle.dover_model.proofs.valid.ValidParts.{valid_parts}
use Rattle.dover_model.proofs.valid.JobLimits.{job_limits}

-- each release may follow the tick 0
follow_first : (jobs : List JobFacts) → AllByRecursion IsJob jobs
    → AllByRecursion (λ j. MayFollow (Mark 0) (Mark j.release)) jobs
follow_first [] each = tt
follow_first (j ∷ jobs) each =
    let window : j.release + j.work ≤ j.deadline = (job_limits each.0).window in let due : j.deadline ≤ last_tick =
    (job_limits each.0).due in
    ((omega arith, omega arith), follow_first jobs each.1)

-- all jobs of a valid list may be fed
pub can_first : (k : Fraction) (version : Version) (jobs : List JobFacts)
    → IsValid (jobs_under version k jobs)
    → CanFeed (no_jobs version k) (Mark 0) jobs
can_first k version jobs valid = record
    { valid = valid; follow = follow_first jobs (valid_parts valid).each; ends = tt }

module _ (J : Instance) (to : Horizon) (j : JobFacts) (rest : List JobFacts) (can : CanFeed J to (j ∷ rest)) where
  -- all jobs, with the first one apart
  apart : IsValid (with_jobs (with_jobs J (j ∷ [])) rest)
  apart = subst (λ jobs. IsValid (record { rules = J.rules; jobs = jobs })) (sym (append_assoc J.jobs (j ∷ []) rest))
      can.valid

  -- the list with it is valid
  pub can_admit : IsValid (with_jobs J (j ∷ []))
  can_admit = valid_front (with_jobs J (j ∷ [])) rest apart

  -- and the others may be fed behind it
  pub can_further : CanFeed (with_jobs J (j ∷ [])) (Mark j.release) rest
  can_further = record {
    valid = apart;
    follow = may_follow j.release rest (order_back J.jobs (j ∷ rest) (valid_parts can.valid).in_order).0
        (all_back IsJob J.jobs (j ∷ rest) (valid_parts can.valid).each).1;
    ends = tt;
  }

-- ---- of a server and a watcher

-- The server has taken the run of some of the jobs behind those of J, the watcher has seen what it printed, and the
-- others may be fed behind them.
pub record IsUnderWay {W : Type 0} (seen : W → List Event → Type 0) (server : ReadyServer) (watcher : W) (J : Instance)
    (from : Horizon) (jobs rest : List JobFacts) : Type 0 where
  pub served : Instance
  pub to : Horizon
  pub shown : HasShown seen server watcher served to
  pub can : CanFeed served to rest
  pub whole : with_jobs served rest ≡ with_jobs J jobs
  pub reach : (t : ℕ) → MayReach from jobs t → MayReach to rest t

-- what may follow a job and others may follow it with the others
reach_further : (to : Horizon) (j : JobFacts) (rest : List JobFacts) (t : ℕ) → MayReach to (j ∷ rest) t
    → MayReach (Mark j.release) rest t
reach_further (Mark m) j rest t may = ((may.1.0, may.0.1), may.1.1)
reach_further End j rest t may = absurd may.0

module _ {W : Type 0} {seen : W → List Event → Type 0} where
  -- nothing is shown of no jobs
  pub first_shown : (version : Version) (k : Fraction) (v : ReadyServer) (w : W)
      → Serves v (no_jobs version k) (Mark 0) [] → seen w [] → HasShown seen v w (no_jobs version k) (Mark 0)
  first_shown version k v w served shown = record { events = []; served = served; shown = shown }

  -- at first
  pub under_way : (v : ReadyServer) (w : W) (J : Instance) (from : Horizon) (jobs : List JobFacts)
      → HasShown seen v w J from → CanFeed J from jobs → IsUnderWay seen v w J from jobs jobs
  under_way v w J from jobs shown can = record {
    served = J;
    to = from;
    shown = shown;
    can = can;
    whole = refl;
    reach = λ t may. may;
  }

  -- another server that has printed the same
  pub served_by : (v u : ReadyServer) (w : W) (J : Instance) (to : Horizon) (it : HasShown seen v w J to)
      → Serves u J to it.events → HasShown seen u w J to
  served_by v u w J to it served = record { events = it.events; served = served; shown = it.shown }

  module _ (v : ReadyServer) (w : W) (J : Instance) (from : Horizon) (jobs : List JobFacts) (j : JobFacts)
      (rest : List JobFacts) (it : IsUnderWay seen v w J from jobs (j ∷ rest)) where
    -- with the next job
    pub one_further : (u : ReadyServer) (x : W) → HasShown seen u x (with_jobs it.served (j ∷ [])) (Mark j.release)
        → IsUnderWay seen u x J from jobs rest
    one_further u x shown = record {
      served = with_jobs it.served (j ∷ []);
      to = Mark j.release;
      shown = shown;
      can = can_further it.served it.to j rest it.can;
      whole = ap (λ jobs. record { rules = it.served.rules; jobs = jobs })
          (append_assoc it.served.jobs (j ∷ []) rest) ∙ it.whole;
      reach = λ t may. reach_further it.to j rest t (it.reach t may);
    }

  module _ (v : ReadyServer) (w : W) (J : Instance) (from : Horizon) (jobs rest : List JobFacts)
      (it : IsUnderWay seen v w J from jobs rest) where
    -- some jobs are no more than all
    pub some_few : (start now : ℕ) → CostsAtMost (length it.served.jobs) start now
        → CostsAtMost (length (with_jobs J jobs).jobs) start now
    some_few start now few = few_more (length it.served.jobs) (length (with_jobs J jobs).jobs) start now
        (omega (arith, length-append it.served.jobs rest, ap (λ (K : Instance). length K.jobs) it.whole)) few

  -- all jobs are served
  pub all_served : (v : ReadyServer) (w : W) (J : Instance) (from : Horizon) (jobs : List JobFacts)
      (it : IsUnderWay seen v w J from jobs []) → HasFed seen v w J from jobs
  all_served v w J from jobs it = record {
    to = it.to;
    shown = subst (λ K. HasShown seen v w K it.to)
        (ap (λ jobs. record { rules = it.served.rules; jobs = jobs }) (sym (append-nil it.served.jobs)) ∙ it.whole)
        it.shown;
    reach = λ t may. (it.reach t may).0;
    ends = it.can.ends;
  }
