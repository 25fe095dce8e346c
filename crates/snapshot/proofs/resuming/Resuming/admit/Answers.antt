use Rattle.std.proofs.Common.{[], ◌∷◌, arith, refl, ◌∙◌, subst, length-append}
use Rattle.dover_model.specs.Common.{settled, instance_of, with_jobs}
use Rattle.ready_server.specs.Rostering.{Rests, Serves}
use Rattle.dover_model.specs.declared.horizon.Horizon.TheVariants.{Mark}
use Rattle.ready_server.proofs.Rostered.{roster_rests, few_takes, finish_room, served_jobs}
use Rattle.snapshot.specs.Reading.{stored}
use Rattle.snapshot.proofs.Settling.{on_err}
use Rattle.snapshot.proofs.Stepping.{has_joined, has_line, release_known}
use Rattle.snapshot.proofs.resuming.Resuming.admit.Goals as goal

pub returns-in_err-make_room-clause-err : goal.returns-in_err-make_room-clause-err
returns-in_err-make_room-clause-err g c = λ h items it. on_err c.from_residual.result _
    (served_jobs c.args.self.now.server (instance_of (stored h items)) (Mark c.args.self.now.last) it.events
    it.serves.served)

pub returns-in_err-make_room-2-clause-err : goal.returns-in_err-make_room-2-clause-err
returns-in_err-make_room-2-clause-err g c = λ h items it. on_err c.from_residual-in_err-make_room-2.result _
    (served_jobs c.make_room-2.new.self (instance_of (stored h items)) (Mark c.args.self.now.last) it.events
    (c.make_room-2.ensures.serves _ (Mark c.args.self.now.last) it.events it.serves.served))

pub returns-in_err-make_room-clause-count : goal.returns-in_err-make_room-clause-count
returns-in_err-make_room-clause-count g c = λ start paid. paid

pub returns-in_err-make_room-2-clause-count : goal.returns-in_err-make_room-2-clause-count
returns-in_err-make_room-2-clause-count g c = λ start paid. c.make_room-2.ensures.paid start _ paid

pub settle-requires : goal.settle-requires
settle-requires g c =
    let (h, items, it, may) = c.requires in
    let J = instance_of (stored h items) in
    let serves : Serves c.make_room-2.new.self c.make_room.new.self J c.args.self.now.last it.events = record {
      served = c.make_room-2.ensures.serves _ (Mark c.args.self.now.last) it.events it.serves.served;
      read = c.make_room.ensures.same ∙ it.serves.read;
    } in
    record {
      serves = (
        J,
        c.args.self.now.last,
        it.events,
        serves,
        (
          omega (arith, may.ordered, it.last, c.release.ensures.is),
          omega (
            arith,
            c.release.ensures.is,
            release_known h items c.args.job may,
          ),
        ),
        omega (
          arith,
          c.in_ok-make_room.ensures.room.1,
          c.jobs-jobs.ensures,
          served_jobs c.args.self.now.server J (Mark c.args.self.now.last) it.events it.serves.served,
        ),
      );
    }

pub admit-release-requires-clause-valid : goal.admit-release-requires-clause-valid
admit-release-requires-clause-valid g c =
    let (h, items, it, may) = c.requires in
    let J = instance_of (stored h items) in
    let serves : Serves c.make_room-2.new.self c.make_room.new.self J c.args.self.now.last it.events = record {
      served = c.make_room-2.ensures.serves _ (Mark c.args.self.now.last) it.events it.serves.served;
      read = c.make_room.ensures.same ∙ it.serves.read;
    } in
    let rests = subst (λ m. Rests c.settle.new.server c.settle.new.roster J m) c.release.ensures.is
    (c.settle.ensures.rests J c.args.self.now.last it.events serves (
      omega (arith, may.ordered, it.last, c.release.ensures.is),
      omega (
        arith,
        c.release.ensures.is,
        release_known h items c.args.job may,
      ),
    )) in
    (J, rests.rests, may.valid)

pub admit-release-requires-clause-room : goal.admit-release-requires-clause-room
admit-release-requires-clause-room g c =
    let (h, items, it, may) = c.requires in
    (c.settle.ensures.room (
      c.in_ok-make_room-2.ensures.room,
      has_line c.args.self.now h items it c.make_room.new.self
          c.make_room.ensures.same c.jobs-jobs.result c.jobs-jobs.ensures c.in_ok-make_room.ensures.room.0,
    )).0

pub read-requires-clause-room : goal.read-requires-clause-room
read-requires-clause-room g c n job is =
    let (h, items, it, may) = c.requires in
    (c.settle.ensures.room (
      c.in_ok-make_room-2.ensures.room,
      has_line c.args.self.now h items it c.make_room.new.self
          c.make_room.ensures.same c.jobs-jobs.result c.jobs-jobs.ensures c.in_ok-make_room.ensures.room.0,
    )).1

pub read-requires-clause-few : goal.read-requires-clause-few
read-requires-clause-few g c =
    let (h, items, it, may) = c.requires in
    let J = instance_of (stored h items) in
    let serves : Serves c.make_room-2.new.self c.make_room.new.self J c.args.self.now.last it.events = record {
      served = c.make_room-2.ensures.serves _ (Mark c.args.self.now.last) it.events it.serves.served;
      read = c.make_room.ensures.same ∙ it.serves.read;
    } in
    let rests = subst (λ m. Rests c.settle.new.server c.settle.new.roster J m) c.release.ensures.is
    (c.settle.ensures.rests J c.args.self.now.last it.events serves (
      omega (arith, may.ordered, it.last, c.release.ensures.is),
      omega (
        arith,
        c.release.ensures.is,
        release_known h items c.args.job may,
      ),
    )) in
    few_takes c.settle.new.server c.settle.new.roster J c.args.job.release _
    (roster_rests c.settle.new.server c.settle.new.roster J c.args.job.release rests)

pub read-requires-clause-finish_room : goal.read-requires-clause-finish_room
read-requires-clause-finish_room g c at n same some =
    let (h, items, it, may) = c.requires in
    let J = instance_of (stored h items) in
    let serves : Serves c.make_room-2.new.self c.make_room.new.self J c.args.self.now.last it.events = record {
      served = c.make_room-2.ensures.serves _ (Mark c.args.self.now.last) it.events it.serves.served;
      read = c.make_room.ensures.same ∙ it.serves.read;
    } in
    let rests = subst (λ m. Rests c.settle.new.server c.settle.new.roster J m) c.release.ensures.is
    (c.settle.ensures.rests J c.args.self.now.last it.events serves (
      omega (arith, may.ordered, it.last, c.release.ensures.is),
      omega (
        arith,
        c.release.ensures.is,
        release_known h items c.args.job may,
      ),
    )) in
    finish_room c.settle.new.roster c.admit-release.new.self (with_jobs J (c.args.job ∷ [])) c.args.job.release
    (settled J c.args.job.release) rests.read c.admit-release.result at n same
    (c.admit-release.ensures.serves J rests.rests may.valid) some
    (omega (
      arith,
      c.settle.ensures.finish_room,
      c.in_ok-make_room.ensures.room.1,
      c.jobs-jobs.ensures,
      served_jobs c.args.self.now.server J (Mark c.args.self.now.last) it.events it.serves.served,
      length-append J.jobs (c.args.job ∷ []),
    ))

pub returns-clause-serves : goal.returns-clause-serves
returns-clause-serves g c = λ h items it may.
    let J = instance_of (stored h items) in
    let serves : Serves c.make_room-2.new.self c.make_room.new.self J c.args.self.now.last it.events = record {
      served = c.make_room-2.ensures.serves _ (Mark c.args.self.now.last) it.events it.serves.served;
      read = c.make_room.ensures.same ∙ it.serves.read;
    } in
    let rests = subst (λ m. Rests c.settle.new.server c.settle.new.roster J m) c.release.ensures.is
    (c.settle.ensures.rests J c.args.self.now.last it.events serves (
      omega (arith, may.ordered, it.last, c.release.ensures.is),
      omega (
        arith,
        c.release.ensures.is,
        release_known h items c.args.job may,
      ),
    )) in
    has_joined c.args.self.now _ h items c.args.job may it c.settle.new.server c.settle.new.roster rests
    c.admit-release.result (c.admit-release.ensures.serves J rests.rests may.valid) c.read.ensures.roll refl
    c.release-self.ensures.is (omega (
      arith,
      c.read.ensures.room.1,
      c.settle.ensures.finish_room,
      c.in_ok-make_room.ensures.room.1,
      c.jobs-jobs.ensures,
      served_jobs c.args.self.now.server J (Mark c.args.self.now.last) it.events it.serves.served,
    ))

pub returns-clause-count : goal.returns-clause-count
returns-clause-count g c = λ start paid. c.admit-release.ensures.paid start _
    (c.settle.ensures.paid start (c.make_room-2.ensures.paid start _ paid))
