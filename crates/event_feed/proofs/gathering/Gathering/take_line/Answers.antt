use Rattle.std.proofs.Common.{◌≡◌, ◌≤◌, ◌<◌, ◌++◌, ◌∷◌, [], ◌∙◌, Some, None, Ok, length, refl, sym, ap, subst, arith}
use Rattle.std.proofs.Common.{false, length-append, nat_lt, ltb-true, ltb-false}
use Rattle.std.proofs.lemmas.Result.{on_ok_weaker, on_err_weaker}
use Rattle.dover_model.specs.Common.{Account, no_lines, account_of_lines, is_open, most_jobs, instance_of, is_full}
use Rattle.dover_model.specs.declared.events.Version.TheVariants.{Two}
use Rattle.dover_model.proofs.sessions.Accounts.{lines_goes}
use Rattle.event_feed.specs.Answers.{IsFed, AddsJob, counted}
use Rattle.event_feed.specs.declared.faults.FeedFault.{FeedFault}
use Rattle.event_feed.specs.Kept as feed
use Rattle.event_feed.specs.Kept.{fault_of}
use Rattle.event_feed.specs.Listing.{offered_in}
use Rattle.dover_model.proofs.lists.Members.{err_any, by_bool}
use Rattle.event_feed.proofs.Accepting.{offer_accepted, offer_room}
use Rattle.event_feed.proofs.Listing.{finds_room, ok_any, goes_on, job_listed, job_admitted, refused_listed}
use Rattle.event_feed.proofs.Listing.{tick_listed, kept_listed, done_admitted}
use Rattle.event_feed.proofs.DoneLines.{done_standing}
use Rattle.event_feed.proofs.Offering.{IsGathering, is_gathering, keeps_few, keeps_many, offered_job, offered_refused}
use Rattle.event_feed.proofs.Offering.{offered_done}
use Rattle.event_feed.proofs.gathering.Gathering.take_line.Goals as goal

pub returns-in-Job-clause-memory : goal.returns-in-Job-clause-memory
returns-in-Job-clause-memory c = λ ls keeps on.
    let a = account_of_lines ls in
    let b = account_of_lines (ls ++ c.args.line.now ∷ []) in
    let it = is_gathering c.args.self.now ls keeps on in
    err_any c.job.result
    (job_admitted a b _ _ (subst (IsFed (counted a) b) c.in-Job.is (c.in-Ok.ensures.answer ls it.all.intake).1))

pub returns-in-Job-clause-keeps : goal.returns-in-Job-clause-keeps
returns-in-Job-clause-keeps c ls keeps on =
    by_bool _ (nat_lt (length c.args.self.now.jobs.items) (most_jobs Two))
    (λ is. let few : length c.args.self.now.jobs.items < most_jobs Two = ltb-true _ _ is in
    let kept = c.job.ensures.few few in
    let room : is_full (instance_of adds.session) c.in-Job.job.release ≡ false =
    finds_room a b _ _ _ it.all.lists c.in-Job.field-0 c.in-Job.job adds few in
    on_ok_weaker c.job.result
    (λ (jobs : c.job.new.self.jobs.items ≡ c.args.self.now.jobs.items ++ c.in-Job.job ∷ []).
    keeps_few c.job.new.self (ls ++ c.args.line.now ∷ []) (kept.1 ∙ it.few)
    (kept.0 ∙ on ∙ sym it.opened ∙ sym (ap is_open adds.after_is))
    (omega (arith, few, ap length jobs, length-append c.args.self.now.jobs.items (c.in-Job.job ∷ []))) (record {
      intake = record {
        by_account = offer_accepted a b c.in-Job.field-0 c.in-Job.job adds c.line.new.self
            (subst (λ f. feed.StandsBehind {E = FeedFault} (Ok f) c.line.new.self ls c.args.line.now) c.in-Job.is
            (c.in-Ok.ensures.stands ls it.all.intake)) c.job.new.self.intake kept.2 room;
      };
      lists = rw (c.job.ensures.declared, c.job.ensures.done_lines, jobs)
          (job_listed a b _ _ _ it.all.lists c.in-Job.field-0 c.in-Job.job adds room);
      offered = omega (
        arith,
        offered_job a b c.in-Job.field-0 c.in-Job.job adds,
        it.all.offered,
        ap length jobs,
        length-append c.args.self.now.jobs.items (c.in-Job.job ∷ []),
      );
      names = λ fault is. absurd (let e : None ≡ Some fault =
          sym (ap (λ s. fault_of (record { lines = 0; session = None; standing = s })) kept.2.standing
          ∙ c.in-Ok.ensures.fault) ∙ is in cc);
    })) kept.3)
    (λ is. let many : most_jobs Two ≤ length c.args.self.now.jobs.items = ltb-false _ _ is in
    let kept = c.job.ensures.many many in
    ok_any c.job.result (keeps_many c.job.new.self (ls ++ c.args.line.now ∷ []) kept.0 kept.1
    (omega (arith, many, offered_job a b c.in-Job.field-0 c.in-Job.job adds, it.all.offered)))) where
      a : Account
      a = account_of_lines ls

      b : Account
      b = account_of_lines (ls ++ c.args.line.now ∷ [])

      it : IsGathering c.args.self.now ls
      it = is_gathering c.args.self.now ls keeps on

      adds : AddsJob c.in-Job.field-0 c.in-Job.job (counted a) b
      adds = subst (IsFed (counted a) b) c.in-Job.is (c.in-Ok.ensures.answer ls it.all.intake).1

pub returns-in-Refused-clause-keeps : goal.returns-in-Refused-clause-keeps
returns-in-Refused-clause-keeps c = λ ls keeps on.
    let a = account_of_lines ls in
    let b = account_of_lines (ls ++ c.args.line.now ∷ []) in
    let it = is_gathering c.args.self.now ls keeps on in
    let adds = subst (IsFed (counted a) b) c.in-Refused.is (c.in-Ok.ensures.answer ls it.all.intake).1 in
    keeps_few _ _ it.few (on ∙ sym it.opened ∙ sym (ap is_open adds.after_is)) it.most (record {
      intake = record {
        by_account = subst (λ f. feed.StandsBehind {E = FeedFault} (Ok f) c.line.new.self ls c.args.line.now)
            c.in-Refused.is (c.in-Ok.ensures.stands ls it.all.intake);
      };
      lists = refused_listed a b _ _ _ it.all.lists _ _ adds;
      offered = offered_refused a b _ _ adds ∙ it.all.offered;
      names = λ fault is. absurd (let e : None ≡ Some fault = sym c.in-Ok.ensures.fault ∙ is in cc);
    })

pub returns-in-Tick-clause-keeps : goal.returns-in-Tick-clause-keeps
returns-in-Tick-clause-keeps c = λ ls keeps on.
    let a = account_of_lines ls in
    let b = account_of_lines (ls ++ c.args.line.now ∷ []) in
    let it = is_gathering c.args.self.now ls keeps on in
    let adds = subst (IsFed (counted a) b) c.in-Tick.is (c.in-Ok.ensures.answer ls it.all.intake).1 in
    keeps_few _ _ it.few (on ∙ sym it.opened ∙ sym (ap is_open adds.after_is)) it.most (record {
      intake = record {
        by_account = subst (λ f. feed.StandsBehind {E = FeedFault} (Ok f) c.line.new.self ls c.args.line.now)
            c.in-Tick.is (c.in-Ok.ensures.stands ls it.all.intake);
      };
      lists = tick_listed a b _ _ _ it.all.lists _ adds;
      offered = ap offered_in adds.after_is ∙ it.all.offered;
      names = λ fault is. absurd (let e : None ≡ Some fault = sym c.in-Ok.ensures.fault ∙ is in cc);
    })

pub returns-in-Done-clause-keeps : goal.returns-in-Done-clause-keeps
returns-in-Done-clause-keeps c = λ ls keeps on.
    let a = account_of_lines ls in
    let b = account_of_lines (ls ++ c.args.line.now ∷ []) in
    let it = is_gathering c.args.self.now ls keeps on in
    let answer = c.in-Ok.ensures.answer ls it.all.intake in
    let adds = subst (IsFed (counted a) b) c.in-Done.is answer.1 in
    let stands : feed.StandsFor c.line.new.self (ls ++ c.args.line.now ∷ []) = record {
      by_account = subst (λ f. feed.StandsBehind {E = FeedFault} (Ok f) c.line.new.self ls c.args.line.now) c.in-Done.is
          (c.in-Ok.ensures.stands ls it.all.intake);
    } in
    on_ok_weaker c.done.result (λ kept. keeps_few c.done.new.self (ls ++ c.args.line.now ∷ [])
    (c.done.ensures.too_many ∙ it.few)
    (c.done.ensures.going ∙ on ∙ sym it.opened ∙ sym (ap is_open adds.after_is
    ∙ ap goes_on (done_standing adds.session c.in-Done.at c.in-Done.number (counted a))))
    (rw c.done.ensures.jobs it.most) (record {
      intake = rw c.done.ensures.intake stands;
      lists = rw (c.done.ensures.declared, c.done.ensures.jobs) (kept_listed a b _ _ _ it.all.lists _ _ adds
          (lines_goes ls no_lines refl).0 answer.0 _ kept);
      offered = rw c.done.ensures.jobs (offered_done a b _ _ adds ∙ it.all.offered);
      names = λ fault is. absurd (let e : None ≡ Some fault =
          sym (ap fault_of c.done.ensures.intake ∙ c.in-Ok.ensures.fault) ∙ is in cc);
    })) (c.done.ensures.done_lines (ls ++ c.args.line.now ∷ []) stands)

pub returns-in-Done-clause-memory : goal.returns-in-Done-clause-memory
returns-in-Done-clause-memory c = λ ls keeps on.
    let a = account_of_lines ls in
    let b = account_of_lines (ls ++ c.args.line.now ∷ []) in
    let it = is_gathering c.args.self.now ls keeps on in
    let adds = subst (IsFed (counted a) b) c.in-Done.is (c.in-Ok.ensures.answer ls it.all.intake).1 in
    on_err_weaker c.done.result (λ some. done_admitted a b _ _ _ it.all.lists _ _ adds some) c.done.ensures.memory

pub job-requires : goal.job-requires
job-requires c =
    let ls = c.requires.0 in
    let a = account_of_lines ls in
    let b = account_of_lines (ls ++ c.args.line.now ∷ []) in
    let it = is_gathering c.args.self.now ls c.requires.1 c.requires.2 in
    offer_room a b c.in-Job.field-0 c.in-Job.job
    (subst (IsFed (counted a) b) c.in-Job.is (c.in-Ok.ensures.answer ls it.all.intake).1) c.line.new.self
    (subst (λ f. feed.StandsBehind {E = FeedFault} (Ok f) c.line.new.self ls c.args.line.now) c.in-Job.is
    (c.in-Ok.ensures.stands ls it.all.intake))
