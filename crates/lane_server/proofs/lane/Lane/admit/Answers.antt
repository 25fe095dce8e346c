use Rattle.std.proofs.Common.{◌≡◌, ◌++◌, ◌∷◌, [], length, sym, ap, ◌∙◌, subst, true, false, None}
use Rattle.dover_model.specs.Common.{instance_of, is_full, account_of_lines, MayFollow, settled}
use Rattle.dover_model.specs.declared.horizon.Horizon.TheVariants.{Mark}
use Rattle.event_feed.specs.Kept as feed
use Rattle.event_feed.specs.DueLines.{out_text}
use Rattle.lane_server.specs.Lane.{Admitting, Running, Stands}
use Rattle.lane_server.specs.Spending.{HasPaid}
use Rattle.lane_server.specs.declared.lane.Work.TheVariants.{Run, Admit}
use Rattle.event_feed.specs.declared.due_line.DueLine.{DueLine}
use Rattle.event_feed.proofs.Accepting.{accepted, passed}
use Rattle.lane_server.proofs.Owing.{lane_owes, lane_stands, lane_turns, lane_rests, work_intake, admit_steps}
use Rattle.lane_server.proofs.Offering.{before_admission, at_admission, at_passing, job_room}
use Rattle.ready_server.specs.Serving.{Serves, Rests}
use Rattle.ready_server.proofs.Stepping.{few_ready}
use Rattle.lane_server.proofs.lane.Lane.admit.Goals as goal

pub step-requires : goal.step-requires
step-requires g c =
    let owes : Admitting c.args.job c.in-Some.server
    (account_of_lines c.requires.stands.0) c.requires.stands.1 =
    lane_owes c.args.self.now (Admit c.args.job) c.in-Some.server
    (account_of_lines c.requires.stands.0) c.requires.stands.1 c.requires.work c.in-Some.is
    c.requires.stands.2.owes in (
      instance_of owes.session,
      owes.from,
      owes.events,
      owes.served,
      subst (λ m. MayFollow owes.from (Mark m)) (sym c.release.ensures.is) owes.follows,
    )

pub returns-in-Some-step-clause-gives : goal.returns-in-Some-step-clause-gives
returns-in-Some-step-clause-gives g c = λ ls rest it.
    let owes : Admitting c.args.job c.in-Some.server
    (account_of_lines ls) rest =
    lane_owes c.args.self.now (Admit c.args.job) c.in-Some.server
    (account_of_lines ls) rest c.requires.work c.in-Some.is it.owes in
    let given = before_admission c.laws.ensures.begins c.args.job c.in-Some.server c.step.new.self
    (account_of_lines ls) rest owes c.in-Some-step.event
    (admit_steps c.args.job c.in-Some.server (account_of_lines ls) rest owes c.release.result c.release.ensures.is
    (λ m. Serves c.step.new.self (instance_of owes.session) (Mark m)
    (owes.events ++ c.in-Some-step.event ∷ []))
    (c.in-Some-step.ensures.gives (instance_of owes.session) owes.from owes.events owes.served))
    (c.in-Some-step.ensures.place owes.room) in (
      given.0,
      given.1,
      lane_stands c.args.self.now (Admit c.args.job) c.step.new.self ls rest given.0 it c.requires.work given.2,
      given.3,
      tt,
    )

pub admit-event-requires-clause-room : goal.admit-event-requires-clause-room
admit-event-requires-clause-room g c =
    let owes : Admitting c.args.job c.in-Some.server
    (account_of_lines c.requires.stands.0) c.requires.stands.1 =
    lane_owes c.args.self.now (Admit c.args.job) c.in-Some.server
    (account_of_lines c.requires.stands.0) c.requires.stands.1 c.requires.work c.in-Some.is
    c.requires.stands.2.owes in
    c.laws.ensures.place c.step.new.self (c.in_default-step.ensures.place owes.room)
    (few_ready c.is_full.result (length c.step.new.self.ready.ready) c.if-is_full.false
    c.is_full.ensures.many.1)

pub admit-event-requires-clause-valid : goal.admit-event-requires-clause-valid
admit-event-requires-clause-valid g c =
    let owes : Admitting c.args.job c.in-Some.server
    (account_of_lines c.requires.stands.0) c.requires.stands.1 =
    lane_owes c.args.self.now (Admit c.args.job) c.in-Some.server
    (account_of_lines c.requires.stands.0) c.requires.stands.1 c.requires.work c.in-Some.is
    c.requires.stands.2.owes in (
      instance_of owes.session,
      (admit_steps c.args.job c.in-Some.server (account_of_lines c.requires.stands.0) c.requires.stands.1 owes
          c.release.result c.release.ensures.is
          (λ m. (owes.events ≡ settled (instance_of owes.session) m)
          × Rests c.step.new.self (instance_of owes.session) (Mark m))
          (c.in_default-step.ensures.gives (instance_of owes.session) owes.from owes.events owes.served)).1,
      owes.valid,
    )

pub accept-requires : goal.accept-requires
accept-requires g c =
    let ls = c.requires.stands.0 in
    let rest = c.requires.stands.1 in
    let owes : Admitting c.args.job c.in-Some.server (account_of_lines ls) rest =
    lane_owes c.args.self.now (Admit c.args.job) c.in-Some.server (account_of_lines ls) rest c.requires.work
    c.in-Some.is c.requires.stands.2.owes in
    job_room owes.session c.args.job c.args.self.now.intake (account_of_lines ls).mark owes.valid
    (work_intake c.args.self.now (Admit c.args.job) ls rest c.requires.stands.2 c.requires.work owes.session
    owes.there).session

pub returns-clause-gives : goal.returns-clause-gives
returns-clause-gives g c = λ ls rest it.
    let owes : Admitting c.args.job c.in-Some.server (account_of_lines ls) rest =
    lane_owes c.args.self.now (Admit c.args.job) c.in-Some.server
    (account_of_lines ls) rest c.requires.work c.in-Some.is it.owes in
    let there = admit_steps c.args.job c.in-Some.server (account_of_lines ls) rest owes
    c.release.result c.release.ensures.is
    (λ m. (owes.events ≡ settled (instance_of owes.session) m)
    × Rests c.step.new.self (instance_of owes.session) (Mark m))
    (c.in_default-step.ensures.gives (instance_of owes.session) owes.from owes.events owes.served) in
    let room : is_full (instance_of owes.session) c.args.job.release ≡ false =
    sym (c.is_full.ensures.at (instance_of owes.session) c.args.job.release there.1) ∙ c.if-is_full.false in
    let given = at_admission c.laws.ensures.begins c.args.job c.in-Some.server c.admit-event.new.self
    (account_of_lines ls) rest owes there.0 room c.admit-event.result
    (c.admit-event.ensures.serves (instance_of owes.session) there.1 owes.valid) in (
      given.0,
      given.1,
      lane_turns c.args.self.now c.accept.new.self (Run (Mark c.release.result)) c.admit-event.new.self ls rest given.0
          it (ap (λ s. feed.has_ended (record { lines = 0; session = None; standing = s })) c.accept.ensures.standing)
          (record {
            by_account = accepted owes.session c.args.job (account_of_lines ls) owes.there c.args.self.now.intake
                (work_intake c.args.self.now (Admit c.args.job) ls rest it c.requires.work owes.session owes.there)
                c.accept.new.self c.accept.ensures room;
          })
          (subst (λ m. Running (Mark m) c.admit-event.new.self (account_of_lines ls) given.0)
          (sym c.release.ensures.is) given.2) tt,
      given.3,
      tt,
    )

pub returns-then-is_full-clause-gives : goal.returns-then-is_full-clause-gives
returns-then-is_full-clause-gives g c = λ ls rest it.
    let owes : Admitting c.args.job c.in-Some.server (account_of_lines ls) rest =
    lane_owes c.args.self.now (Admit c.args.job) c.in-Some.server
    (account_of_lines ls) rest c.requires.work c.in-Some.is it.owes in
    let there = admit_steps c.args.job c.in-Some.server (account_of_lines ls) rest owes
    c.release.result c.release.ensures.is
    (λ m. (owes.events ≡ settled (instance_of owes.session) m)
    × Rests c.step.new.self (instance_of owes.session) (Mark m))
    (c.in_default-step.ensures.gives (instance_of owes.session) owes.from owes.events owes.served) in
    let full : is_full (instance_of owes.session) c.args.job.release ≡ true =
    sym (c.is_full.ensures.at (instance_of owes.session) c.args.job.release there.1) ∙ c.if-is_full.true in
    let given = at_passing c.laws.ensures.begins c.args.job c.laws.ensures.rested c.in-Some.server c.step.new.self
    (account_of_lines ls) rest owes there.0 full there.1 in (
      [],
      given.0 ∙ ap (λ (o : DueLine). out_text o ∷ []) (sym c.pass.ensures.out),
      subst (λ l. Stands l ls []) (sym c.pass.ensures.lane) (lane_rests c.args.self.now c.step.new.self ls rest it
          (record {
            by_account = passed owes.session c.args.job (account_of_lines ls) owes.there c.args.self.now.intake
                (work_intake c.args.self.now (Admit c.args.job) ls rest it c.requires.work owes.session owes.there)
                full;
          }) given.1).stands,
      rw c.pass.ensures.out owes.numerals,
      rw c.pass.ensures.out tt,
    )

pub returns-clause-paid : goal.returns-clause-paid
returns-clause-paid g c = λ start paid. c.admit-event.ensures.paid start c.step.new.comparisons
    (c.in_default-step.ensures.paid start (subst (λ o. HasPaid o start c.args.comparisons.now) c.in-Some.is paid))

pub returns-in-Some-step-clause-paid : goal.returns-in-Some-step-clause-paid
returns-in-Some-step-clause-paid g c = λ start paid. c.in-Some-step.ensures.paid start
    (subst (λ o. HasPaid o start c.args.comparisons.now) c.in-Some.is paid)

pub returns-then-is_full-clause-paid : goal.returns-then-is_full-clause-paid
returns-then-is_full-clause-paid g c = λ start paid. subst (λ l. HasPaid l.server start c.step.new.comparisons)
    (sym c.pass.ensures.lane)
    (c.in_default-step.ensures.paid start (subst (λ o. HasPaid o start c.args.comparisons.now) c.in-Some.is paid))
