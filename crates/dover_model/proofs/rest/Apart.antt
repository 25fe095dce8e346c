-- What is settled falls apart at rest.
use Rattle.std.proofs.Common.{◌≡◌, ℕ, length-append, ◌+◌, ◌-◌, ◌*◌, ◌≤◌, List, [], ◌∷◌, ◌++◌, length, map, refl, sym}
use Rattle.std.proofs.Common.{ap, ◌∙◌, subst, Bool, true, false, cond, arith, not, append-nil, append_assoc}
use Rattle.std.specs.Prelude.{◌&&◌, nat_le}
use Rattle.std.specs.List.{filter, cons_option}
use Rattle.dover_model.specs.Common.{JobFacts, Event, Release, Run, Preempt, Take, Complete, Abandon, End, Task, Rules}
use Rattle.dover_model.specs.Common.{Instance, IsValid, having, State, with_later, opening, to_come, is_done, value_sum}
use Rattle.dover_model.specs.Common.{Move, Prints, open_step, after, finish_or, declared_open_step, Step}
use Rattle.dover_model.specs.Common.{is_end, event_of, printed_of, printed, run, completed_value, waits_for_mark}
use Rattle.dover_model.specs.Common.{settled, settled_steps, AllComeFrom, open_at, step_at, EndsOver, IsSettledRun}
use Rattle.dover_model.specs.Common.{IsOpenPath, Keeps, NoneBefore, IsAtRest, behind, names_end, before_end, AreOwn}
use Rattle.dover_model.specs.Common.{instead_with, followed_by, Finish}
use Rattle.dover_model.proofs.steps.Kept.{open_deed, open_kept, opening_keeps}
use Rattle.dover_model.proofs.runs.Ending.{run_over}
use Rattle.dover_model.proofs.settled.Settling.{late_early, settled_is_run, enough_settled}
use Rattle.dover_model.proofs.settled.Later.{same_step}
use Rattle.dover_model.proofs.settled.Prefixes.{same_after, open_goes_on, come_from, come_append}
use Rattle.dover_model.proofs.runs.Runs.{printed_append, value_of_run, last_value, value_last}
use Rattle.dover_model.proofs.settled.Paths.{path_later, one_settled_run, path_then_settled}
use Rattle.dover_model.proofs.rest.Shifting.{beside, came_to, settled_beside}
use Rattle.dover_model.proofs.rest.Resting.{at_tick, Rests, at_rest, settles_from, ticks_path, tick_keeps}
use Rattle.dover_model.proofs.rest.Resting.{come_shift, numbers_below, numbers_apart, value_there, printed_at_rest}
use Rattle.dover_model.proofs.rest.Resting.{printed_apart, behind_rules, foreign_due}
use Rattle.dover_model.proofs.lists.Tests.{never}
use Rattle.dover_model.specs.Common.{state_at}
use Rattle.dover_model.proofs.steps.Pressing.{over_calm}

-- from the tick on, with all these jobs to come, these events are settled at the mark
abbrev pub SettlesFrom : Rules → ℕ → ℕ → List JobFacts → List Event → Type 0
SettlesFrom rules mark m jobs events = (xs : List Step) × IsSettledRun rules mark (at_tick m jobs) xs
    × (length xs ≤ (mark - m) + 6 * length jobs) × (printed_of xs ≡ events)

-- ---- with jobs to come behind, the open steps are the same

module _ (J : Instance) (valid : IsValid J) (mark : ℕ) (more : List JobFacts) (late : NoneBefore mark more)
    (fs : List Finish) where
  -- the jobs behind
  abbrev ks : List Task
  ks = to_come (length J.jobs) more

  -- they come at the mark or later
  come : AllComeFrom mark ks
  come = come_from mark (length J.jobs) more late

  -- all steps of a path
  open_behind : (xs : List Step) (s t : State) → Keeps J s → IsOpenPath J.rules mark s xs t
      → (ys : List Step) × IsOpenPath (behind_rules J fs) mark (with_later s ks) ys (with_later t ks) × (length ys
      ≡ length xs)
      × (printed_of ys ≡ printed_of xs)
  open_behind [] s t keeps here = ([], ap (λ z. with_later z ks) here, refl, refl)
  open_behind (x ∷ xs) s t keeps path =
      let same : open_step (behind_rules J fs) (with_later s ks) ≡ open_step J.rules s =
      ap (λ o. finish_or s.clock o (declared_open_step J.rules (with_later s ks))) (foreign_due J s keeps fs ks come.0)
      ∙ same_step J.rules s ks mark come.0 come.1 (late_early (waits_for_mark
      (open_step J.rules s)) mark s.clock path.1)
      in
      let next : after (with_later s ks) (open_step (behind_rules J fs) (with_later s ks)) ≡ with_later
      (after s (open_step J.rules s)) ks =
      ap (after (with_later s ks)) same
      ∙ same_after J.rules.ratio s ks come.0 (numbers_apart J s keeps more) (open_step J.rules s)
      (open_deed J valid s keeps J.rules) in
      let rest = open_behind xs (after s (open_step J.rules s)) t (open_kept J valid s keeps J.rules) path.2 in (
        open_at (behind_rules J fs) (with_later s ks) ∷ rest.0,
        (
          refl,
          ap (λ m. waits_for_mark m && nat_le mark s.clock) same ∙ path.1,
          subst (λ z. IsOpenPath (behind_rules J fs) mark z rest.0 (with_later t ks)) (sym next) rest.1,
        ),
        omega (arith, rest.2),
        ap (λ m. cons_option (event_of m) (printed_of rest.0)) same
            ∙ ap (λ es. cons_option (event_of (open_step J.rules s)) es) rest.3
            ∙ sym (ap (λ (z : Step). cons_option (event_of z.move) (printed_of xs)) path.0),
      )

-- a valid instance by itself
pub settles_alone : (J : Instance) → IsValid J → (m mark : ℕ) → NoneBefore m J.jobs → m ≤ mark
    → SettlesFrom J.rules mark m J.jobs (settled J mark)
settles_alone J valid m mark late low =
    let ticks = ticks_path J valid m late mark low m 0 (omega arith) in
    let on = settles_from J valid m late mark low in
    let all : settled_steps J mark ≡ ticks.0 ++ on.0 =
    one_settled_run J.rules mark (settled_steps J mark) (ticks.0 ++ on.0) (opening J.jobs)
    (settled_is_run J mark valid)
    (path_then_settled J.rules mark ticks.0 on.0 (opening J.jobs) (at_tick m J.jobs) ticks.1 on.1) in (
      on.0,
      on.1,
      omega (arith, on.2),
      sym (ap printed_of all ∙ printed_append ticks.0 on.0 ∙ ap (λ es. es ++ printed_of on.0) ticks.2),
    )

-- and one with jobs behind, once it is at rest
module _ (J : Instance) (valid : IsValid J) (m0 m mark : ℕ) (late0 : NoneBefore m0 J.jobs) (later : m0 ≤ m)
    (on : m ≤ mark) (rest : IsAtRest J m) (fs : List Finish) (own : AreOwn J) where
  pub settles_joined : (more : List JobFacts) (events : List Event) → NoneBefore m more
      → SettlesFrom (having J.rules fs) mark m more events
      → SettlesFrom (behind_rules J fs) mark m0 (J.jobs ++ more)
      (settled J m ++ map (behind (length J.jobs) (completed_value J)) events)
  settles_joined more events late it = (
    before.0 ++ behind_them.0,
    subst (λ s. IsSettledRun (behind_rules J fs) mark s (before.0 ++ behind_them.0)) (sym begins)
        (path_then_settled (behind_rules J fs) mark before.0 behind_them.0 (with_later (at_tick m0 J.jobs) ks_there)
        (with_later r.last ks_there)
        (path_later (behind_rules J fs) m mark on before.0 (with_later (at_tick m0 J.jobs) ks_there)
        (with_later r.last ks_there) before.1)
        (subst (λ s. IsSettledRun (behind_rules J fs) mark s behind_them.0) (sym joins) behind_them.1)),
    omega (
      arith,
      length-append before.0 behind_them.0,
      length-append J.jobs more,
      before.2,
      behind_them.2,
      it.2,
      r.few,
    ),
    printed_append before.0 behind_them.0 ∙ ap (λ es. es ++ printed_of behind_them.0) (before.3 ∙ r.prints)
        ∙ ap (λ es. settled J m ++ es)
        (behind_them.3 ∙ ap (λ es. map (behind n (came_to
        (having J.rules fs) n J.rules.finishes own r.last.tasks r.over)) es) it.3
        ∙ ap (λ v. map (behind n v) events) came),
  ) where
    n : ℕ
    n = length J.jobs

    r : Rests J m0 m
    r = at_rest J valid m0 m late0 later rest

    ks_there : List Task
    ks_there = to_come (length J.jobs) more

    before : (ys : List Step)
        × IsOpenPath (behind_rules J fs) m (with_later (at_tick m0 J.jobs) ks_there) ys (with_later r.last ks_there)
        × (length ys ≡ length r.steps) × (printed_of ys ≡ printed_of r.steps)
    before = open_behind J valid m more late fs r.steps (at_tick m0 J.jobs) r.last
        (tick_keeps J valid m0 late0 m0 (omega arith)) r.path

    behind_them : (ys : List Step) × IsSettledRun (behind_rules J fs) mark (beside n r.last.tasks (at_tick m more)) ys
        × (length ys ≡ length it.0)
        × (printed_of ys ≡ map (behind n (came_to (having J.rules fs) n J.rules.finishes own r.last.tasks r.over))
        (printed_of it.0))
    behind_them = settled_beside (having J.rules fs) n J.rules.finishes own r.last.tasks r.over
        (numbers_below J r.last r.keeps) mark it.0
        (at_tick m more) it.1

    joins : with_later r.last ks_there ≡ beside n r.last.tasks (at_tick m more)
    joins = ap (λ b. let s : State = record { clock = r.last.clock; pressed = b; tasks = r.last.tasks ++ ks_there }
        in s)
        (over_calm r.last r.keeps.pressed r.over)
        ∙ ap (λ clock. state_at clock (r.last.tasks ++ ks_there)) r.clock
        ∙ ap (λ ts. state_at m (r.last.tasks ++ ts))
        (ap (λ k. to_come k more) (omega arith) ∙ come_shift n 0 more)

    begins : at_tick m0 (J.jobs ++ more) ≡ with_later (at_tick m0 J.jobs) ks_there
    begins = ap (λ ts. state_at m0 ts)
        (come_append 0 J.jobs more ∙ ap (λ k. to_come 0 J.jobs ++ to_come k more) (omega arith))

    came : came_to (having J.rules fs) n J.rules.finishes own r.last.tasks r.over ≡ completed_value J
    came = ap (λ (z : State). value_sum (filter is_done z.tasks)) r.is ∙ sym (value_there J valid m rest)

-- from the opening on, it is what is settled
pub settled_all : (rules : Rules) (mark : ℕ) (jobs : List JobFacts) (events : List Event)
    → SettlesFrom rules mark 0 jobs events
    → settled (record { rules = rules; jobs = jobs }) mark ≡ events
settled_all rules mark jobs events it =
    ap printed_of (enough_settled rules mark (mark + 6 * length jobs + 1) (opening jobs) it.0 it.1
    (omega (arith, it.2))) ∙ it.3

-- what is settled falls apart at rest
pub settled_apart : (J : Instance) (more : List JobFacts) (fs : List Finish) (m mark : ℕ) → AreOwn J → IsValid J
    → IsValid (instead_with J more fs) → IsAtRest J m → NoneBefore m more → m ≤ mark
    → settled (followed_by J more fs) mark ≡ settled J m ++ map (behind (length J.jobs) (completed_value J))
    (settled (instead_with J more fs) mark)
settled_apart J more fs m mark own valid valid_more rest late on = settled_all (behind_rules J fs) mark
    (J.jobs ++ more) _
    (settles_joined J valid 0 m mark (λ j member. omega arith) (omega arith) on rest fs own more
    (settled (instead_with J more fs) mark) late
    (settles_alone (instead_with J more fs) valid_more m mark late on))

-- ---- before End

-- no End is settled
settled_without : (J : Instance) → IsValid J → (mark : ℕ) (xs : List Step) (s : State) → Keeps J s
    → IsSettledRun J.rules mark s xs
    → before_end (printed_of xs) ≡ printed_of xs
settled_without J valid mark [] s keeps run = refl
settled_without J valid mark (x ∷ xs) s keeps run =
    subst (λ (y : Step). before_end (cons_option (event_of y.move) (printed_of xs)) ≡ cons_option (event_of y.move)
    (printed_of xs)) (sym run.0)
    (by_move (open_step J.rules s) (open_goes_on J valid J.rules s keeps)
    (settled_without J valid mark xs (after s (open_step J.rules s)) (open_kept J valid s keeps J.rules) run.2)) where
      by_move : (m : Move) → is_end m ≡ false → before_end (printed_of xs) ≡ printed_of xs
          → before_end (cons_option (event_of m) (printed_of xs)) ≡ cons_option (event_of m) (printed_of xs)
      by_move (Prints (Release n job)) on same = ap (λ es. Release n job ∷ es) same
      by_move (Prints (Run at n)) on same = ap (λ es. Run at n ∷ es) same
      by_move (Prints (Preempt at stops starts)) on same = ap (λ es. Preempt at stops starts ∷ es) same
      by_move (Prints (Take at stops starts)) on same = ap (λ es. Take at stops starts ∷ es) same
      by_move (Prints (Complete at n)) on same = ap (λ es. Complete at n ∷ es) same
      by_move (Prints (Abandon at n)) on same = ap (λ es. Abandon at n ∷ es) same
      by_move (Prints (End value)) on same = never (sym on)
      by_move _ on same = same

-- a filter of two lists
pub before_append : (es fs : List Event) → before_end (es ++ fs) ≡ before_end es ++ before_end fs
before_append [] fs = refl
before_append (e ∷ es) fs = by_test (not (names_end e)) (before_append es fs) where
  by_test : (b : Bool) → before_end (es ++ fs) ≡ before_end es ++ before_end fs
      → cond b (e ∷ before_end (es ++ fs)) (before_end (es ++ fs)) ≡ cond b (e ∷ before_end es) (before_end es)
      ++ before_end fs
  by_test true same = ap (λ gs. e ∷ gs) same
  by_test false same = same

-- at rest, what is settled is what is printed before End
pub settled_at_rest : (J : Instance) (m : ℕ) → IsValid J → IsAtRest J m → settled J m ≡ before_end (printed J)
settled_at_rest J m valid rest =
    sym (ap before_end (printed_at_rest J valid m rest) ∙ before_append (settled J m) (End (completed_value J) ∷ [])
    ∙ append-nil (before_end (settled J m))
    ∙ settled_without J valid m (settled_steps J m) (opening J.jobs) (opening_keeps J) (settled_is_run J m valid))

-- and End follows, with the value of the run
pub end_at_rest : (J : Instance) (m : ℕ) → IsValid J → IsAtRest J m
    → printed J ≡ before_end (printed J) ++ (End (completed_value J) ∷ [])
end_at_rest J m valid rest = printed_at_rest J valid m rest
    ∙ ap (λ es. es ++ (End (completed_value J) ∷ [])) (settled_at_rest J m valid rest)

-- a run falls apart at rest
pub falls_apart : (J : Instance) (more : List JobFacts) (fs : List Finish) (m : ℕ) → AreOwn J → IsValid J
    → IsValid (instead_with J more fs) → IsAtRest J m → NoneBefore m more
    → printed (followed_by J more fs) ≡ before_end (printed J) ++ map (behind (length J.jobs) (completed_value J))
    (printed (instead_with J more fs))
falls_apart J more fs m own valid valid_more rest late = printed_apart J more fs m own valid valid_more rest late
    ∙ ap (λ es. es ++ map (behind (length J.jobs) (completed_value J)) (printed (instead_with J more fs)))
    (settled_at_rest J m valid rest)

-- so does what is settled
pub settled_falls_apart : (J : Instance) (more : List JobFacts) (fs : List Finish) (m mark : ℕ) → AreOwn J → IsValid J
    → IsValid (instead_with J more fs) → IsAtRest J m → NoneBefore m more → m ≤ mark
    → settled (followed_by J more fs) mark ≡ before_end (printed J) ++ map (behind (length J.jobs) (completed_value J))
    (settled (instead_with J more fs) mark)
settled_falls_apart J more fs m mark own valid valid_more rest late on =
    settled_apart J more fs m mark own valid valid_more rest late on
    ∙ ap (λ es. es ++ map (behind (length J.jobs) (completed_value J)) (settled (instead_with J more fs) mark))
    (settled_at_rest J m valid rest)

-- ---- the value

-- an End behind
pub behind_last : (n value last : ℕ) (es : List Event)
    → map (behind n value) (es ++ (End last ∷ [])) ≡ map (behind n value) es ++ (End (value + last) ∷ [])
behind_last n value last [] = refl
behind_last n value last (e ∷ es) = ap (λ gs. behind n value e ∷ gs) (behind_last n value last es)

-- a run ends with its value
run_ends : (J : Instance) → IsValid J → (es : List Event) × (printed J ≡ es ++ (End (completed_value J) ∷ []))
run_ends J valid = (
  printed_of over.front,
  ap printed_of over.steps ∙ printed_append over.front (step_at J.rules over.last ∷ [])
      ∙ ap (λ m. printed_of over.front ++ cons_option (event_of m) []) over.ends
      ∙ ap (λ v. printed_of over.front ++ (End v ∷ [])) (sym (value_of_run J valid)),
) where
  over : EndsOver J.rules (run J)
  over = run_over J valid

-- what runs complete adds up at rest
pub value_apart : (J : Instance) (more : List JobFacts) (fs : List Finish) (m : ℕ) → AreOwn J → IsValid J
    → IsValid (instead_with J more fs) → IsAtRest J m
    → NoneBefore m more
    → completed_value (followed_by J more fs) ≡ completed_value J + completed_value (instead_with J more fs)
value_apart J more fs m own valid valid_more rest late =
    let it = run_ends (instead_with J more fs) valid_more in
    ap (last_value 0) (falls_apart J more fs m own valid valid_more rest late
    ∙ ap (λ es. before_end (printed J) ++ map (behind (length J.jobs) (completed_value J)) es) it.1
    ∙ ap (λ es. before_end (printed J) ++ es)
    (behind_last (length J.jobs) (completed_value J) (completed_value (instead_with J more fs)) it.0)
    ∙ sym (append_assoc (before_end (printed J)) (map (behind (length J.jobs) (completed_value J)) it.0)
    (End (completed_value J + completed_value (instead_with J more fs)) ∷ [])))
    ∙ value_last 0 (completed_value J + completed_value (instead_with J more fs))
    (before_end (printed J) ++ map (behind (length J.jobs) (completed_value J)) it.0)
