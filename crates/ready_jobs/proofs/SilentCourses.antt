-- What is kept of a run over its silent steps, and what comes after them.
use Rattle.std.proofs.Common.{◌≡◌, ℕ, ◌+◌, ◌≤◌, ◌<◌, [], length, refl, sym, ap, ◌∙◌, subst, Bool, true, false, arith}
use Rattle.std.proofs.Common.{nat_le, ◌&&◌, Some, None}
use Rattle.dover_model.specs.Common.{last_tick, Fraction, Instance, IsValid, finishing, State, Move, Prints, Ticks}
use Rattle.dover_model.specs.Common.{step, open_step, event_of, last_deadline, waits_for_mark, AreOverFor, Keeps}
use Rattle.dover_model.specs.Common.{IsBarrier, GoesOn, IsSilent, Idles, Settles, WaitsUntil, PrintsNext}
use Rattle.dover_model.specs.declared.events.Event.{Event}
use Rattle.dover_model.specs.declared.events.Event.TheVariants.{End}
use Rattle.dover_model.proofs.settled.Prefixes.{step_open}
use Rattle.dover_model.proofs.settled.Settling.{at_barrier}
use Rattle.dover_model.proofs.traces.ShortNumbers.{ticks_early}
use Rattle.dover_model.proofs.valid.Limiting.{deadline_known}
use Rattle.dover_model.proofs.lists.Tests.{never}
use Rattle.dover_model.proofs.finishes.OverPaths.{settles_over}
use Rattle.dover_model.proofs.settled.Leading.{late_silent, over_ends}
use Rattle.dover_model.proofs.settled.Waiting.{settles_idles, over_waits_until}
use Rattle.ready_jobs.specs.Parts.{Parted, ready_of, state_of}
use Rattle.ready_jobs.specs.Following.{PartOf, SettlesTo}
use Rattle.ready_jobs.specs.Course.{Course, Follows, IsCourse, course_of, Reached, Settled, ComesNext}
use Rattle.ready_jobs.proofs.Courses.{follows_goes_on, follows_over, follows_part, follows_step, follows_on}

-- a course that has done no more
same_done : (k : Fraction) (q : Parted) (jobs done : ℕ) (J : Instance) (y : State)
    → Follows (course_of k q jobs (done + 0)) J y → Follows (course_of k q jobs done) J y
same_done k q jobs done J y follows =
    subst (λ n. Follows (course_of k q jobs n) J y) (let none : done + 0 ≡ done = omega arith in none) follows

module _ (k : Fraction) (p q : Parted) (jobs done mark : ℕ) (m : Move) (version : q.version ≡ p.version)
    (some : 0 < length (ready_of p))
    (settles : (J : Instance) (z : State) → J.rules ≡ record { ratio = k; version = p.version; finishes = [] }
    → PartOf p J z → SettlesTo q J z mark)
    (comes : m ≡ open_step (record { ratio = k; version = q.version; finishes = [] }) (state_of q))
    (stops : IsSilent m → (m ≡ Ticks) × (mark ≤ q.clock))
    (low : q.clock ≤ mark) (known : mark ≤ last_tick) where
  -- the silent steps of the ready jobs are those of all
  pub course_reaches : (J : Instance) (z : State) → Follows (course_of k p jobs done) J z
      → Reached (course_of k q jobs done) J z mark m
  course_reaches J z follows =
      let it : SettlesTo q (finishing J []) z mark =
      settles (finishing J []) z follows.rules (follows_part k p jobs done J z follows) in
      let y : State = it.state in
      let clock_y : y.clock ≡ q.clock = it.part.clock in
      let with_finishes : Settles J.rules mark z it.steps y × AreOverFor J.rules.finishes y =
      settles_over J follows.valid mark it.steps z y follows.keeps follows.over it.settles in
      let kept : Follows (course_of k q jobs done) J y =
      same_done k q jobs done J y (follows_on k p jobs done J z follows q 0 y it.part with_finishes.1 version
      (let same = it.done in omega (arith, same)) (omega arith)) in
      let idles : Idles J.rules z it.steps y × GoesOn y =
      settles_idles _ _ _ _ _ (follows_goes_on (course_of k p jobs done) J z follows some) with_finishes.0 in
      let step_y : open_step J.rules y ≡ m = sym (follows_step k q jobs done J y kept) ∙ sym comes in
      record {
        state = y;
        follows = kept;
        idles = (it.steps, idles.0);
        goes_on = idles.1;
        comes = step_y;
        stops = λ silent. late_now (stops silent).0 (stops silent).1;
        waits = λ here.
            let at : (waits_for_mark m ≡ true) × (mark ≤ q.clock) = at_barrier (waits_for_mark m) mark q.clock here in
            let now : y.clock ≡ mark = omega (arith, at.1) in
            subst (λ t. WaitsUntil J.rules mark z (record y { clock = t })) now (record {
              steps = it.steps;
              settles = with_finishes.0;
              barrier = ap (λ n. waits_for_mark n && nat_le mark y.clock) step_y
                  ∙ ap (λ t. waits_for_mark m && nat_le mark t) clock_y
                  ∙ here;
            });
      } where
        late_now : m ≡ Ticks → mark ≤ q.clock → (waits_for_mark m && nat_le mark q.clock) ≡ true
        late_now is far = ap (λ n. waits_for_mark n && nat_le mark q.clock) is ∙ le_true mark q.clock far where
          le_true : (a b : ℕ) → a ≤ b → nat_le a b ≡ true
          le_true a b h = grind arith

  -- and it is a course again
  pub reaches_course : IsCourse (course_of k p jobs done) → IsCourse (course_of k q jobs done)
  reaches_course old = let it = course_reaches old.0 old.1 old.2 in (old.0, it.state, it.follows)

-- where some job isn't over, no silent step is at the last tick
pub no_last_barrier : (J : Instance) → IsValid J → (z : State) → Keeps J z → GoesOn z → IsSilent (open_step J.rules z)
    → IsBarrier J.rules last_tick z → ⊥
no_last_barrier J valid z keeps on silent here =
    let at : (waits_for_mark (open_step J.rules z) ≡ true) × (last_tick ≤ z.clock) =
    at_barrier (waits_for_mark (open_step J.rules z)) last_tick z.clock here in
    let ticks : step J.rules z ≡ Ticks = step_open J.rules z on ∙ late_silent (open_step J.rules z) at.0 silent in
    let early : z.clock < last_deadline J.jobs = ticks_early J valid z keeps J.rules ticks in
    let known : last_deadline J.jobs ≤ last_tick = deadline_known J valid in
    omega (arith, at.1)

-- what has reached the mark
pub reached_settled : (c : Course) (J : Instance) (z : State) (mark : ℕ) (m : Move) (reached : Reached c J z mark m)
    → (waits_for_mark m && nat_le mark c.clock) ≡ true → c.clock ≤ mark → Settled c J z mark None
reached_settled c J z mark m reached here low = record {
  state = reached.state;
  follows = reached.follows;
  idles = reached.idles;
  comes = (
    reached.waits here,
    λ _. let at : (waits_for_mark m ≡ true) × (mark ≤ c.clock) = at_barrier (waits_for_mark m) mark c.clock here in
        omega (arith, reached.follows.clock, at.1, low),
  );
}

-- or a printed step before it
pub reached_prints : (c : Course) (J : Instance) (z : State) (mark : ℕ) (e : Event)
    (reached : Reached c J z mark (Prints e))
    → (waits_for_mark (Prints e) && nat_le mark c.clock) ≡ false → Settled c J z mark (Some e)
reached_prints c J z mark e reached before = record {
  state = reached.state;
  follows = reached.follows;
  idles = reached.idles;
  comes = (
    reached.comes,
    ap (λ m. waits_for_mark m && nat_le mark reached.state.clock) reached.comes
        ∙ ap (λ t. waits_for_mark (Prints e) && nat_le mark t) reached.follows.clock ∙ before,
    reached.goes_on,
  );
}

-- where no job is ready, nothing comes
pub over_settled : (c : Course) (J : Instance) (z : State) (mark : ℕ) → Follows c J z → c.ready ≡ [] → c.clock ≤ mark
    → Settled c J z mark None
over_settled c J z mark follows none low = record {
  state = z;
  follows = follows;
  idles = ([], refl);
  comes = (
    over_waits_until J follows.valid J.rules mark z follows.keeps (follows_over c J z follows none)
        (omega (arith, follows.clock)),
    λ on. never (sym on ∙ follows_over c J z follows none),
  );
}

-- where no job is ready, End is printed next
pub over_next : (c : Course) (J : Instance) (z : State) → Follows c J z → c.ready ≡ []
    → PrintsNext J.rules z (End c.done) z
over_next c J z follows none = record {
  steps = [];
  idles = refl;
  prints = over_ends J follows.valid J.rules z follows.keeps (follows_over c J z follows none)
      ∙ ap (λ n. Prints (End n)) follows.done;
}

-- a printed step that was reached is printed next
pub reached_next : (c : Course) (J : Instance) (z : State) (mark : ℕ) (e : Event)
    (reached : Reached c J z mark (Prints e))
    → PrintsNext J.rules z e reached.state
reached_next c J z mark e reached =
    record {
      steps = reached.idles.0;
      idles = reached.idles.1;
      prints = step_open J.rules reached.state reached.goes_on
          ∙ reached.comes;
    }

-- at the last tick no silent step is reached
pub reached_last : (c : Course) (J : Instance) (z : State) (m : Move) (reached : Reached c J z last_tick m) → IsSilent m
    → ⊥
reached_last c J z m reached silent =
    no_last_barrier J reached.follows.valid reached.state reached.follows.keeps reached.goes_on
    (ap event_of reached.comes ∙ silent)
    (ap (λ n. waits_for_mark n && nat_le last_tick reached.state.clock) reached.comes
    ∙ ap (λ t. waits_for_mark m && nat_le last_tick t) reached.follows.clock
    ∙ reached.stops silent)

-- so the step that is reached there is printed next
pub reached_comes : (c d : Course) (m : Move)
    → ((J : Instance) (z : State) → Follows c J z → Reached d J z last_tick m) → IsCourse c
    → (e : Event) × (m ≡ Prints e) × ComesNext c d e
reached_comes c d m reaches some = by_move m refl where
  silent : IsSilent m → ⊥
  silent = reached_last d some.0 some.1 m (reaches some.0 some.1 some.2)

  by_move : (n : Move) → m ≡ n → (e : Event) × (m ≡ Prints e) × ComesNext c d e
  by_move (Prints e) is = (
    e,
    is,
    λ J z follows.
        let it : Reached d J z last_tick (Prints e) = subst (Reached d J z last_tick) is (reaches J z follows) in
        (it.state, it.follows, reached_next d J z last_tick e it),
  )
  by_move _ is = absurd (silent (ap event_of is))

-- a printed step was reached, and whether it is a barrier was tested
module _ (c : Course) (J : Instance) (z : State) (mark : ℕ) (m : Move) (e : Event) (clock : ℕ) (b : Bool)
    (reached : Reached c J z mark m)
    (is : m ≡ Prints e) (at : clock ≡ c.clock) (low : c.clock ≤ mark)
    (test : b ≡ (waits_for_mark (Prints e) && nat_le mark clock)) where
  -- it is
  pub tested_late : b ≡ true → Settled c J z mark None
  tested_late late = reached_settled c J z mark m reached
      (ap (λ n. waits_for_mark n && nat_le mark c.clock) is
      ∙ ap (λ t. waits_for_mark (Prints e) && nat_le mark t) (sym at) ∙ sym test
      ∙ late) low

  -- it isn't
  pub tested_early : b ≡ false → Settled c J z mark (Some e)
  tested_early early = reached_prints c J z mark e (subst (Reached c J z mark) is reached)
      (ap (λ t. waits_for_mark (Prints e) && nat_le mark t) (sym at) ∙ sym test ∙ early)

-- a silent step was reached
pub silent_settled : (c : Course) (J : Instance) (z : State) (mark : ℕ) (m n : Move) → Reached c J z mark m → m ≡ n
    → IsSilent n → c.clock ≤ mark
    → Settled c J z mark None
silent_settled c J z mark m n reached is silent low =
    reached_settled c J z mark m reached (reached.stops (ap event_of is ∙ silent)) low
