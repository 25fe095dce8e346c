use Rattle.std.proofs.Common.{[], ◌∷◌, ◌++◌, arith, sym, ap, ◌∙◌, refl, Some}
use Rattle.dover_model.specs.Common.{FinishItem, instance_of, with_finishes, settled}
use Rattle.dover_model.proofs.lists.Tests.{none_is_some}
use Rattle.ready_server.specs.declared.server.ReadyServer.{ReadyServer}
use Rattle.ready_server.proofs.Rostered.{roster_rests, few_takes, finish_room, more_read}
use Rattle.snapshot.specs.Reading.{stored}
use Rattle.snapshot.proofs.Settling.{is_completion}
use Rattle.snapshot.proofs.Spending.{jobs_lines, jobs_at, jobs_stay, jobs_reading}
use Rattle.snapshot.proofs.Stepping.{few_handed, mark_low, mark_is, may_settle, test_passes, test_fails, done_refused}
use Rattle.snapshot.proofs.Stepping.{early_is}
use Rattle.snapshot.proofs.Stepping.{refuses, is_right, read_done_more, holds_done, jobs_count}
use Rattle.snapshot.proofs.resuming.Resuming.done.Goals as goal

pub refused-bad-requires : goal.refused-bad-requires
refused-bad-requires g c =
    let (ls, (h, items, tasks, read, it)) = c.requires.reading in
    omega (arith, few_handed h items tasks ls read c.args.self.now it)

pub settle-requires : goal.settle-requires
settle-requires g c =
    let (ls, (h, items, tasks, read, it)) = c.requires.reading in
    let known = test_passes h items tasks ls read c.args.self.now it c.args.at
    (sym c.may_finish.ensures ∙ c.if-not-may_finish.false) in
    let follows = may_settle h items tasks ls read c.args.self.now it c.args.at
    (omega (arith, known.1, it.serving.last))
    (omega (
      arith,
      known.2,
      mark_low h items tasks ls read c.args.self.now it,
      mark_is h items tasks ls read c.args.self.now it,
    )) in
    let J = instance_of (stored h items) in
    record { serves = (J, c.args.self.now.last, it.serving.events, it.serving.serves, follows, it.serving.room) }

pub finish-requires : goal.finish-requires
finish-requires g c =
    let (ls, (h, items, tasks, read, it)) = c.requires.reading in
    let known = test_passes h items tasks ls read c.args.self.now it c.args.at
    (sym c.may_finish.ensures ∙ c.if-not-may_finish.false) in
    let follows = may_settle h items tasks ls read c.args.self.now it c.args.at
    (omega (arith, known.1, it.serving.last))
    (omega (
      arith,
      known.2,
      mark_low h items tasks ls read c.args.self.now it,
      mark_is h items tasks ls read c.args.self.now it,
    )) in
    let J = instance_of (stored h items) in
    let rests = c.settle.ensures.rests J c.args.self.now.last it.serving.events it.serving.serves follows in
    record { rests = (J, rests.rests) }

pub read-requires-clause-few : goal.read-requires-clause-few
read-requires-clause-few g c =
    let (ls, (h, items, tasks, read, it)) = c.requires.reading in
    let known = test_passes h items tasks ls read c.args.self.now it c.args.at
    (sym c.may_finish.ensures ∙ c.if-not-may_finish.false) in
    let follows = may_settle h items tasks ls read c.args.self.now it c.args.at
    (omega (arith, known.1, it.serving.last))
    (omega (
      arith,
      known.2,
      mark_low h items tasks ls read c.args.self.now it,
      mark_is h items tasks ls read c.args.self.now it,
    )) in
    let J = instance_of (stored h items) in
    let rests = c.settle.ensures.rests J c.args.self.now.last it.serving.events it.serving.serves follows in
    few_takes c.settle.new.server c.settle.new.roster J c.args.at _
    (roster_rests c.settle.new.server c.settle.new.roster J c.args.at rests)

pub read-requires-clause-room : goal.read-requires-clause-room
read-requires-clause-room g c n job other =
    let (ls, (h, items, tasks, read, it)) = c.requires.reading in
    let known = test_passes h items tasks ls read c.args.self.now it c.args.at
    (sym c.may_finish.ensures ∙ c.if-not-may_finish.false) in
    let follows = may_settle h items tasks ls read c.args.self.now it c.args.at
    (omega (arith, known.1, it.serving.last))
    (omega (
      arith,
      known.2,
      mark_low h items tasks ls read c.args.self.now it,
      mark_is h items tasks ls read c.args.self.now it,
    )) in
    let J = instance_of (stored h items) in
    let rests = c.settle.ensures.rests J c.args.self.now.last it.serving.events it.serving.serves follows in
    let (f, right, is, serves) = c.in-Some.ensures.finishes J rests.rests in
    absurd (is_completion c.args.at c.args.number c.in-Some.event is n job other)

pub read-requires-clause-finish_room : goal.read-requires-clause-finish_room
read-requires-clause-finish_room g c at n same some =
    let (ls, (h, items, tasks, read, it)) = c.requires.reading in
    let known = test_passes h items tasks ls read c.args.self.now it c.args.at
    (sym c.may_finish.ensures ∙ c.if-not-may_finish.false) in
    let follows = may_settle h items tasks ls read c.args.self.now it c.args.at
    (omega (arith, known.1, it.serving.last))
    (omega (
      arith,
      known.2,
      mark_low h items tasks ls read c.args.self.now it,
      mark_is h items tasks ls read c.args.self.now it,
    )) in
    let J = instance_of (stored h items) in
    let rests = c.settle.ensures.rests J c.args.self.now.last it.serving.events it.serving.serves follows in
    let (f, right, is, serves) = c.in-Some.ensures.finishes J rests.rests in
    finish_room c.settle.new.roster c.finish.new.self (with_finishes J (f.finish ∷ [])) c.args.at
    (settled J c.args.at) rests.read c.in-Some.event at n same serves some
    (omega (arith, it.serving.room, c.settle.ensures.finish_room))

pub hand_done-requires-clause-numerals : goal.hand_done-requires-clause-numerals
hand_done-requires-clause-numerals g c = c.requires.numerals

pub overflow_add-self : goal.overflow_add-self
overflow_add-self g c =
    let (ls, (h, items, tasks, read, it)) = c.requires.reading in
    omega (arith, few_handed h items tasks ls read c.args.self.now it)

pub returns-then-not-may_finish-clause-answers : goal.returns-then-not-may_finish-clause-answers
returns-then-not-may_finish-clause-answers g c = λ ls line (h, items, tasks, read, it) named.
    refuses _ _ _ _ c.refused-bad.ensures
    (test_fails h items tasks ls read c.args.self.now it c.args.at c.args.number line named
    (sym c.may_finish.ensures ∙ c.if-not-may_finish.true))

pub returns-then-not-may_finish-clause-jobs : goal.returns-then-not-may_finish-clause-jobs
returns-then-not-may_finish-clause-jobs g c = λ ls line it named. jobs_stay c.args.self.now ls it line _ refl

pub returns-then-not-may_finish-clause-count : goal.returns-then-not-may_finish-clause-count
returns-then-not-may_finish-clause-count g c = λ start spent. spent

pub returns-in_default-clause-answers : goal.returns-in_default-clause-answers
returns-in_default-clause-answers g c = λ ls line (h, items, tasks, read, it) named.
    let known = test_passes h items tasks ls read c.args.self.now it c.args.at
    (sym c.may_finish.ensures ∙ c.if-not-may_finish.false) in
    let follows = may_settle h items tasks ls read c.args.self.now it c.args.at
    (omega (arith, known.1, it.serving.last))
    (omega (
      arith,
      known.2,
      mark_low h items tasks ls read c.args.self.now it,
      mark_is h items tasks ls read c.args.self.now it,
    )) in
    let J = instance_of (stored h items) in
    let rests = c.settle.ensures.rests J c.args.self.now.last it.serving.events it.serving.serves follows in
    refuses _ _ _ _ c.refused-bad.ensures
    (done_refused h items tasks ls read c.args.self.now it c.args.at c.args.number line named (λ f right low high.
    none_is_some (sym (c.in_default.ensures.finishes J rests.rests).0
    ∙ sym (early_is h items tasks ls read c.args.self.now it c.args.at c.args.number known.0 low high)
    ∙ right)))

pub returns-in_default-clause-jobs : goal.returns-in_default-clause-jobs
returns-in_default-clause-jobs g c = λ ls line (h, items, tasks, read, it) named.
    let known = test_passes h items tasks ls read c.args.self.now it c.args.at
    (sym c.may_finish.ensures ∙ c.if-not-may_finish.false) in
    let follows = may_settle h items tasks ls read c.args.self.now it c.args.at
    (omega (arith, known.1, it.serving.last))
    (omega (
      arith,
      known.2,
      mark_low h items tasks ls read c.args.self.now it,
      mark_is h items tasks ls read c.args.self.now it,
    )) in
    let J = instance_of (stored h items) in
    let rests = c.settle.ensures.rests J c.args.self.now.last it.serving.events it.serving.serves follows in
    jobs_lines ls h items tasks read line _
    (ap (λ (s : ReadyServer). s.ready.jobs) (c.in_default.ensures.finishes J rests.rests).1
    ∙ jobs_at c.settle.new.server c.settle.new.roster J c.args.at rests
    ∙ jobs_count h items tasks ls read c.args.self.now it)

pub returns-in_default-clause-count : goal.returns-in_default-clause-count
returns-in_default-clause-count g c = λ start spent. c.in_default.ensures.paid start _
    (c.settle.ensures.paid start spent)

pub returns-clause-count : goal.returns-clause-count
returns-clause-count g c = λ start spent. c.in-Some.ensures.paid start _ (c.settle.ensures.paid start spent)

pub hand_done-requires-clause-fed : goal.hand_done-requires-clause-fed
hand_done-requires-clause-fed g c =
    let (ls, (h, items, tasks, read, it)) = c.requires.reading in
    let known = test_passes h items tasks ls read c.args.self.now it c.args.at
    (sym c.may_finish.ensures ∙ c.if-not-may_finish.false) in
    let follows = may_settle h items tasks ls read c.args.self.now it c.args.at
    (omega (arith, known.1, it.serving.last))
    (omega (
      arith,
      known.2,
      mark_low h items tasks ls read c.args.self.now it,
      mark_is h items tasks ls read c.args.self.now it,
    )) in
    let J = instance_of (stored h items) in
    let rests = c.settle.ensures.rests J c.args.self.now.last it.serving.events it.serving.serves follows in
    let (f, right, is, serves) = c.in-Some.ensures.finishes J rests.rests in (
      h,
      items,
      f,
      it.fed,
      is_right h items tasks ls read c.args.self.now it c.args.at c.args.number known.0 known.1
          known.2 f right,
    )

pub returns-clause-answers : goal.returns-clause-answers
returns-clause-answers g c = λ ls line (h, items, tasks, read, it) named.
    let known = test_passes h items tasks ls read c.args.self.now it c.args.at
    (sym c.may_finish.ensures ∙ c.if-not-may_finish.false) in
    let follows = may_settle h items tasks ls read c.args.self.now it c.args.at
    (omega (arith, known.1, it.serving.last))
    (omega (
      arith,
      known.2,
      mark_low h items tasks ls read c.args.self.now it,
      mark_is h items tasks ls read c.args.self.now it,
    )) in
    let J = instance_of (stored h items) in
    let rests = c.settle.ensures.rests J c.args.self.now.last it.serving.events it.serving.serves follows in
    let (f, right, is, serves) = c.in-Some.ensures.finishes J rests.rests in (
      h,
      items ++ FinishItem f ∷ [],
      tasks,
      read_done_more h items tasks ls read c.args.self.now it c.args.at c.args.number known.0 known.1 known.2 f right
          line named,
      holds_done h items tasks ls read c.args.self.now it c.args.at c.args.number known.0 known.1 known.2 f right _
          refl refl refl refl
          (c.hand_done.ensures h items f it.fed
          (is_right h items tasks ls read c.args.self.now it c.args.at c.args.number known.0 known.1 known.2 f
          right))
          (c.read.ensures.room.1 ∙ c.settle.ensures.finish_room) (settled J c.args.at ++ c.in-Some.event ∷ [])
          (record {
            served = serves;
            read = more_read c.settle.new.roster c.read.new.self (settled J c.args.at) c.in-Some.event rests.read
                c.read.ensures.roll;
          }),
    )

pub returns-clause-jobs : goal.returns-clause-jobs
returns-clause-jobs g c = λ ls line it named.
    jobs_reading (Some _) (ls ++ line ∷ []) (returns-clause-answers g c ls line it named)
