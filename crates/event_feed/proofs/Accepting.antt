-- What is kept behind a job line: once its job is accepted, and where that finds no room.
use Rattle.std.proofs.Common.{◌≡◌, ◌<◌, ◌≤◌, ◌+◌, ℕ, length, sym, ap, ◌∙◌, subst, arith, cond, true, false, IfSome}
use Rattle.std.proofs.Common.{Option, Some, None, Ok}
use Rattle.dover_model.specs.Common.{most_jobs, most_total, JobFacts, total_value, Session, JobItem, RefusedJob}
use Rattle.dover_model.specs.Common.{Refused, refused_at, admitted_jobs, with_item, instance_of, is_full, Account}
use Rattle.dover_model.specs.declared.events.Refusal.TheVariants.{Full}
use Rattle.dover_model.proofs.valid.Admitting.{Admitted, not_refused}
use Rattle.dover_model.proofs.sessions.Growing.{refused_instance}
use Rattle.admission.specs.Kept as admission
use Rattle.event_feed.specs.declared.faults.FeedFault.{FeedFault}
use Rattle.event_feed.specs.declared.fed.Fed.TheVariants as fed
use Rattle.event_feed.specs.declared.kept_session.KeptSession.{KeptSession}
use Rattle.event_feed.specs.Answers.{AddsJob, counted, offered_item}
use Rattle.event_feed.specs.Kept.{Kept, KeepsSession, KeepsAccount, Accepts, HasRoom, before_offer, standing_of}

module _ (S : Session) (job : JobFacts) where
  -- the limits leave room for the job, where they do behind the session
  pub room_behind : (kept : Kept) (mark : ℕ) → KeepsSession kept.session (Some S) mark
      → length (admitted_jobs S.items) < most_jobs S.rules.version
      → total_value (admitted_jobs S.items) + job.value ≤ most_total S.rules.version → HasRoom kept job
  room_behind kept mark keeps count total = by kept.session keeps where
    by : (o : Option KeptSession) → KeepsSession o (Some S) mark → IfSome o (λ s. admission.HasRoom s.admission job)
    by None it = tt
    by (Some s) it = record {
      count = omega (arith, count, it.jobs.count, ap (λ r. most_jobs r.version) it.rules);
      total = omega (arith, total, it.jobs.total, ap (λ r. most_total r.version) it.rules);
    }

  -- of a refused line nothing is kept
  refused_kept : (o : Option KeptSession) (mark : ℕ) → KeepsSession o (Some S) mark
      → KeepsSession o (Some (with_item S (refused_at job.release job Full))) mark
  refused_kept None mark it = it
  refused_kept (Some s) mark it =
      let refused : Refused = record { at = job.release; line = RefusedJob job Full } in record {
        rules = it.rules;
        jobs = subst (admission.StandsFor s.admission) (sym (ap (λ J. J.jobs) (refused_instance S refused))) it.jobs;
        marked = it.marked;
      }

  -- what is kept, at the account behind the line, while the job is offered
  module _ (b : Account) (there : b.session ≡ Some (with_item S (offered_item S job))) (kept : Kept)
      (keeps : KeepsAccount kept (record b { session = Some S })) where
    -- the session behind the line, by whether the job finds no room
    there_by : (full : _) → is_full (instance_of S) job.release ≡ full
        → b.session ≡ Some (with_item S (cond full (refused_at job.release job Full) (JobItem job)))
    there_by full is =
        there ∙ ap (λ full. Some (with_item S (cond full (refused_at job.release job Full) (JobItem job)))) is

    -- it finds room, and is accepted
    pub accepted : (after : Kept) → Accepts job kept after → is_full (instance_of S) job.release ≡ false
        → KeepsAccount after b
    accepted after it room = record {
      counted = it.lines ∙ keeps.counted;
      session = subst (λ o. KeepsSession after.session o b.mark) (sym (there_by false room))
          (it.session S b.mark keeps.session);
      standing = ap standing_of it.standing ∙ keeps.standing;
    }

    -- it finds none, and what is kept stays
    pub passed : is_full (instance_of S) job.release ≡ true → KeepsAccount kept b
    passed full = record {
      counted = keeps.counted;
      session = subst (λ o. KeepsSession kept.session o b.mark) (sym (there_by true full))
          (refused_kept kept.session b.mark keeps.session);
      standing = keeps.standing;
    }

module _ (a b : Account) (n : ℕ) (job : JobFacts) (it : AddsJob n job (counted a) b) (kept : Kept)
    (keeps : KeepsAccount kept (before_offer {E = FeedFault} (Ok (fed.Job n job)) a b)) where
  -- while the job is offered, the session before it is kept
  pub offer_kept : KeepsAccount kept (record b { session = Some it.session })
  offer_kept = subst (λ o. KeepsAccount kept (record b { session = o })) it.before_is keeps

  -- there is room for it
  pub offer_room : HasRoom kept job
  offer_room = let one : Admitted it.session.rules (admitted_jobs it.session.items) job =
      not_refused it.session.rules (admitted_jobs it.session.items) job it.admitted in
      room_behind it.session job kept b.mark offer_kept.session one.count one.total

  -- once it is accepted, what is kept stands for its line
  pub offer_accepted : (after : Kept) → Accepts job kept after
      → is_full (instance_of it.session) job.release ≡ false → KeepsAccount after b
  offer_accepted after accepts room = accepted it.session job b (ap (λ (x : Account). x.session) it.after_is) kept
      offer_kept after accepts room
