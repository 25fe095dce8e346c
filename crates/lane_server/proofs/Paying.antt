-- What a lane's comparisons are paid with.
use Rattle.std.proofs.Common.{◌≡◌, ℕ, ◌≤◌, List, length, sym, ap, ◌∙◌, subst, arith, Option, Some, None, Bool, true}
use Rattle.std.proofs.Common.{false, cond}
use Rattle.dover_model.specs.declared.events.Event.{Event}
use Rattle.dover_model.specs.Common.{Account, Instance, Session, EarlyFinish, FinishItem, RefusedDone, instance_of}
use Rattle.dover_model.specs.Common.{with_item, finish_at, admitted_jobs, refused_done_at, is_full, refused_at, JobItem}
use Rattle.dover_model.specs.Common.{RefusedJob, JobFacts, CostsAtMost}
use Rattle.dover_model.specs.declared.events.Refusal.TheVariants.{Full}
use Rattle.event_feed.specs.Answers.{offered_item, admitted_in}
use Rattle.std.specs.Option.{option_map_or}
use Rattle.dover_model.specs.declared.horizon.Horizon.{Horizon}
use Rattle.dover_model.proofs.runs.Spending.{few_more}
use Rattle.event_feed.proofs.Admitting.{job_more, refused_more, finish_more, admitted_by}
use Rattle.lane_server.specs.Lane.{Fits, Owes, done_item}
use Rattle.lane_server.specs.Spending.{HasPaid}
use Rattle.lane_server.specs.declared.lane.Work.{Work}
use Rattle.lane_server.specs.declared.lane.Work.TheVariants.{Nothing, Give, Run, Admit, Finish}
use Rattle.ready_server.specs.Serving.{Serves, HasPaid as HasServed}
use Rattle.ready_server.specs.declared.server.ReadyServer.{ReadyServer}

-- before the ratio line there is no server, and nothing was paid
pub none_paid : (a : Account)
    (server : Option ReadyServer) → Fits a server → a.session ≡ None → (start now : ℕ) → HasPaid server start now
    → now ≤ start
none_paid a None fits none start now has_paid = has_paid
none_paid a (Some v) fits none start now has_paid =
    absurd (let e : None ≡ Some fits.0 = sym none ∙ fits.1 in cc)

-- a done line admits no job
done_admits : (S : Session) (t n : ℕ)
    → length (admitted_jobs (with_item S (done_item S t n)).items) ≡ length (admitted_jobs S.items)
done_admits S t n = by_finish (finish_at (instance_of S) t n) where
  by_finish : (o : Option EarlyFinish)
      → length (admitted_jobs (with_item S (option_map_or FinishItem o (refused_done_at t t n))).items)
      ≡ length (admitted_jobs S.items)
  by_finish None = refused_more S.items (record { at = t; line = RefusedDone t n })
  by_finish (Some f) = finish_more S.items f

-- a job line admits no fewer
offer_admits : (S : Session) (job : JobFacts)
    → length (admitted_jobs S.items) ≤ length (admitted_jobs (with_item S (offered_item S job)).items)
offer_admits S job = by_room (is_full (instance_of S) job.release) where
  by_room : (full : Bool) → length (admitted_jobs S.items)
      ≤ length (admitted_jobs (with_item S (cond full (refused_at job.release job Full) (JobItem job))).items)
  by_room true = omega (arith, refused_more S.items (record { at = job.release; line = RefusedJob job Full }))
  by_room false = omega (arith, job_more S.items job)

module _ (few : (s : ReadyServer) (J : Instance) (to : Horizon) (events : List Event) (start now : ℕ)
    → Serves s J to events
    → HasServed s start now → CostsAtMost (length J.jobs) start now) where
  -- a server that fits has the account's jobs
  fits_few : (a : Account) (v : ReadyServer) → Fits a (Some v) → (start now : ℕ) → HasServed v start now
      → CostsAtMost (admitted_in a) start now
  fits_few a v fits start now has_paid = subst (λ n. CostsAtMost n start now) (sym (ap admitted_by fits.1))
      (few v (instance_of fits.0) _ _ start now fits.2 has_paid)

  -- whatever is under way, what was paid is little for the account's jobs
  pub owes_few_paid : (work : Work) (server : Option ReadyServer) (a : Account) (rest : List (List ℕ))
      → Owes work server a rest → (start now : ℕ) → HasPaid server start now
      → CostsAtMost (admitted_in a) start now
  owes_few_paid work None a rest owes start now none = λ d enough. omega (arith, none)
  owes_few_paid Nothing (Some v) a rest owes start now has_paid = fits_few a v owes.1 start now has_paid
  owes_few_paid (Give out) (Some v) a rest owes start now has_paid = fits_few a v owes.1 start now has_paid
  owes_few_paid (Run to) (Some v) a rest owes start now has_paid =
      subst (λ n. CostsAtMost n start now) (sym (ap admitted_by owes.there))
      (few v (instance_of owes.session) owes.from owes.events start now owes.served has_paid)
  owes_few_paid (Admit job) (Some v) a rest owes start now has_paid =
      few_more (length (instance_of owes.session).jobs) (admitted_in a) start now
      (omega (arith, ap admitted_by owes.there, offer_admits owes.session job))
      (few v (instance_of owes.session) owes.from owes.events start now owes.served has_paid)
  owes_few_paid (Finish at number) (Some v) a rest owes start now has_paid =
      subst (λ n. CostsAtMost n start now)
      (sym (ap admitted_by owes.there ∙ done_admits owes.session at number))
      (few v (instance_of owes.session) owes.from owes.events start now owes.served has_paid)
