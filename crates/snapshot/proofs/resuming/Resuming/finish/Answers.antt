use Rattle.std.proofs.Common.{length, arith, sym, ap, ◌∙◌, subst, refl}
use Rattle.dover_model.proofs.lists.Tests.{never}
use Rattle.snapshot.specs.Reading.{stored}
use Rattle.dover_model.specs.Common.{instance_of}
use Rattle.snapshot.proofs.Finishing.{other_refused, lines_refused, state_refused, reached_count, may_there, is_whole}
use Rattle.snapshot.proofs.Finishing.{resumes, last_same, last_differs, reached_tasks}
use Rattle.snapshot.specs.Snapshot.{Head}
use Rattle.snapshot.specs.Kept.{AreAt, IsFed}
use Rattle.snapshot.proofs.Spending.{jobs_lines, jobs_stay, jobs_at}
use Rattle.snapshot.proofs.Stepping.{refuses, few_handed, last_low, mark_low, may_settle, jobs_count}
use Rattle.snapshot.proofs.resuming.Resuming.finish.Goals as goal

pub refused-bad-requires : goal.refused-bad-requires
refused-bad-requires g c =
    let (ls, (h, items, tasks, read, it)) = c.requires.reading in
    omega (arith, few_handed h items tasks ls read c.args.self.now it)

pub settle-requires : goal.settle-requires
settle-requires g c =
    let (ls, (h, items, tasks, read, it)) = c.requires.reading in
    record {
      serves = (
        instance_of (stored h items),
        c.args.self.now.last,
        it.serving.events,
        it.serving.serves,
        may_settle h items tasks ls read c.args.self.now it c.args.self.now.head.mark
            (last_low h items tasks ls read c.args.self.now it) (mark_low h items tasks ls read c.args.self.now it),
        it.serving.room,
      );
    }

pub are_at-requires : goal.are_at-requires
are_at-requires g c =
    let (ls, (h, items, tasks, read, it)) = c.requires.reading in
    let rests = c.settle.ensures.rests (instance_of (stored h items)) c.args.self.now.last it.serving.events
    it.serving.serves (may_settle h items tasks ls read c.args.self.now it c.args.self.now.head.mark
    (last_low h items tasks ls read c.args.self.now it) (mark_low h items tasks ls read c.args.self.now it)) in
    ap length c.as_slice-2.ensures.value
    ∙ reached_count h items tasks ls read c.args.self.now it c.args.line.now c.requires.all c.requires.other
    c.settle.new.server c.settle.new.roster rests

pub has_lines-requires : goal.has_lines-requires
has_lines-requires g c =
    let (ls, (h, items, tasks, read, it)) = c.requires.reading in
    omega (arith, few_handed h items tasks ls read c.args.self.now it)

pub hand_ticks-requires : goal.hand_ticks-requires
hand_ticks-requires g c =
    let (ls, (h, items, tasks, read, it)) = c.requires.reading in
    let rests = c.settle.ensures.rests (instance_of (stored h items)) c.args.self.now.last it.serving.events
    it.serving.serves (may_settle h items tasks ls read c.args.self.now it c.args.self.now.head.mark
    (last_low h items tasks ls read c.args.self.now it) (mark_low h items tasks ls read c.args.self.now it)) in
    let at = subst (AreAt
    (reached_tasks h items tasks ls read c.args.self.now it c.args.line.now c.requires.all c.requires.other
    c.settle.new.server c.settle.new.roster rests)) c.as_slice-2.ensures.value
    (c.are_at.ensures.0 c.if-not-are_at.false) in
    let enough = sym (c.has_lines.ensures items it.serving.handed it.serving.last) ∙ c.if-not-has_lines.false in (
      items,
      subst (λ (x : Head). IsFed c.args.self.now.intake x items) (sym it.head) it.fed,
      may_there h items tasks ls read c.args.self.now it c.args.line.now c.requires.all c.requires.other
          c.settle.new.server c.settle.new.roster rests at enough,
      it.serving.handed,
    )

pub returns-then-ne-clause-answers : goal.returns-then-ne-clause-answers
returns-then-ne-clause-answers g c = λ ls (h, items, tasks, read, it).
    refuses _ _ _ _ c.refused-bad.ensures
    (other_refused h items tasks ls read c.args.self.now it c.args.line.now c.requires.all c.requires.other
    (last_differs c.args.line.now c.as_slice.result.now c.as_slice.ensures (sym c.ne.ensures ∙ c.if-ne.true)))

pub returns-then-not-are_at-clause-answers : goal.returns-then-not-are_at-clause-answers
returns-then-not-are_at-clause-answers g c = λ ls (h, items, tasks, read, it).
    let rests = c.settle.ensures.rests (instance_of (stored h items)) c.args.self.now.last it.serving.events
    it.serving.serves (may_settle h items tasks ls read c.args.self.now it c.args.self.now.head.mark
    (last_low h items tasks ls read c.args.self.now it) (mark_low h items tasks ls read c.args.self.now it)) in
    refuses _ _ _ _ c.refused-bad.ensures
    (state_refused h items tasks ls read c.args.self.now it c.args.line.now c.requires.all c.requires.other
    c.settle.new.server c.settle.new.roster rests
    (λ at. never (sym c.if-not-are_at.true ∙ c.are_at.ensures.1
    (subst (AreAt (reached_tasks h items tasks ls read c.args.self.now it c.args.line.now c.requires.all
    c.requires.other c.settle.new.server c.settle.new.roster rests)) (sym c.as_slice-2.ensures.value) at))))

pub returns-then-not-has_lines-clause-answers : goal.returns-then-not-has_lines-clause-answers
returns-then-not-has_lines-clause-answers g c = λ ls (h, items, tasks, read, it).
    refuses _ _ _ _ c.refused-bad.ensures
    (lines_refused h items tasks ls read c.args.self.now it c.args.line.now c.requires.all c.requires.other
    (sym (c.has_lines.ensures items it.serving.handed it.serving.last) ∙ c.if-not-has_lines.true))

pub returns-clause-answers : goal.returns-clause-answers
returns-clause-answers g c = λ ls (h, items, tasks, read, it).
    let rests = c.settle.ensures.rests (instance_of (stored h items)) c.args.self.now.last it.serving.events
    it.serving.serves (may_settle h items tasks ls read c.args.self.now it c.args.self.now.head.mark
    (last_low h items tasks ls read c.args.self.now it) (mark_low h items tasks ls read c.args.self.now it)) in
    let at = subst (AreAt
    (reached_tasks h items tasks ls read c.args.self.now it c.args.line.now c.requires.all c.requires.other
    c.settle.new.server c.settle.new.roster rests)) c.as_slice-2.ensures.value
    (c.are_at.ensures.0 c.if-not-are_at.false) in
    let enough = sym (c.has_lines.ensures items it.serving.handed it.serving.last) ∙ c.if-not-has_lines.false in
    let last = last_same c.args.line.now c.as_slice.result.now c.as_slice.ensures
    (sym c.ne.ensures ∙ c.if-ne.false) in (
      h,
      items,
      tasks,
      is_whole h items tasks ls read c.args.self.now it c.args.line.now c.requires.all c.requires.other
          c.settle.new.server c.settle.new.roster rests at enough last.0 last.1,
      it.head,
      resumes h items tasks ls read c.args.self.now it c.args.line.now c.requires.all c.requires.other
          c.settle.new.server c.settle.new.roster rests at enough c.hand_ticks.new.intake
          (c.hand_ticks.ensures.stands items (subst (λ (x : Head). IsFed c.args.self.now.intake x items) (sym it.head)
          it.fed) (may_there h items tasks ls read c.args.self.now it c.args.line.now c.requires.all c.requires.other
          c.settle.new.server c.settle.new.roster rests at enough) it.serving.handed),
    )

pub returns-then-ne-clause-jobs : goal.returns-then-ne-clause-jobs
returns-then-ne-clause-jobs g c = λ ls it. jobs_stay c.args.self.now ls it c.args.line.now _ refl

pub returns-then-not-are_at-clause-jobs : goal.returns-then-not-are_at-clause-jobs
returns-then-not-are_at-clause-jobs g c = λ ls (h, items, tasks, read, it).
    let rests = c.settle.ensures.rests (instance_of (stored h items)) c.args.self.now.last it.serving.events
    it.serving.serves (may_settle h items tasks ls read c.args.self.now it c.args.self.now.head.mark
    (last_low h items tasks ls read c.args.self.now it) (mark_low h items tasks ls read c.args.self.now it)) in
    jobs_lines ls h items tasks read c.args.line.now _ (jobs_at c.settle.new.server c.settle.new.roster
    (instance_of (stored h items)) c.args.self.now.head.mark rests ∙ jobs_count h items tasks ls read c.args.self.now
    it)

pub returns-then-not-has_lines-clause-jobs : goal.returns-then-not-has_lines-clause-jobs
returns-then-not-has_lines-clause-jobs g c = λ ls (h, items, tasks, read, it).
    let rests = c.settle.ensures.rests (instance_of (stored h items)) c.args.self.now.last it.serving.events
    it.serving.serves (may_settle h items tasks ls read c.args.self.now it c.args.self.now.head.mark
    (last_low h items tasks ls read c.args.self.now it) (mark_low h items tasks ls read c.args.self.now it)) in
    jobs_lines ls h items tasks read c.args.line.now _ (jobs_at c.settle.new.server c.settle.new.roster
    (instance_of (stored h items)) c.args.self.now.head.mark rests ∙ jobs_count h items tasks ls read c.args.self.now
    it)

pub returns-clause-jobs : goal.returns-clause-jobs
returns-clause-jobs g c = λ ls (h, items, tasks, read, it).
    let rests = c.settle.ensures.rests (instance_of (stored h items)) c.args.self.now.last it.serving.events
    it.serving.serves (may_settle h items tasks ls read c.args.self.now it c.args.self.now.head.mark
    (last_low h items tasks ls read c.args.self.now it) (mark_low h items tasks ls read c.args.self.now it)) in
    jobs_lines ls h items tasks read c.args.line.now _ (jobs_at c.settle.new.server c.settle.new.roster
    (instance_of (stored h items)) c.args.self.now.head.mark rests ∙ jobs_count h items tasks ls read c.args.self.now
    it)

pub returns-then-ne-clause-count : goal.returns-then-ne-clause-count
returns-then-ne-clause-count g c = λ start spent. spent

pub returns-then-not-are_at-clause-count : goal.returns-then-not-are_at-clause-count
returns-then-not-are_at-clause-count g c = λ start spent. c.settle.ensures.paid start spent

pub returns-then-not-has_lines-clause-count : goal.returns-then-not-has_lines-clause-count
returns-then-not-has_lines-clause-count g c = λ start spent. c.settle.ensures.paid start spent

pub returns-clause-count : goal.returns-clause-count
returns-clause-count g c = λ start spent. c.settle.ensures.paid start spent
