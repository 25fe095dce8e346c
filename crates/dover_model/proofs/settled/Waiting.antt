-- Silent steps where some job isn't over, and where all are.
use Rattle.std.proofs.Common.{◌≡◌, sym, ◌∙◌, false, ◌-◌, ap, subst, not, ℕ, List, ◌∷◌, zero, suc, ◌+◌, ◌≤◌, inl, inr}
use Rattle.std.proofs.Common.{[], map, refl, Bool, true, arith, le-leb, nat_le, ◌&&◌, MatchBool}
use Rattle.std.proofs.lemmas.Bool.{false_from_ne_true, not-true, lt-leb}
use Rattle.std.specs.List.{list_all}
use Rattle.dover_model.specs.Common.{Task, State, is_over, IsMember, Keeps, GoesOn, IsSilent, Settles, Idles}
use Rattle.dover_model.specs.Common.{WaitsUntil, PrintsNext, Move, after, open_step, Prints, Ticks, step, ticked}
use Rattle.dover_model.specs.Common.{Rules, Instance, IsValid, Step, is_end, event_of, Event, waits_for_mark, open_at}
use Rattle.dover_model.specs.Common.{IsWholeRun}
use Rattle.dover_model.proofs.lists.Members.{all_each, not_all, map_member}
use Rattle.dover_model.proofs.lists.Tests.{never}
use Rattle.dover_model.proofs.steps.Roles.{ticked_over}
use Rattle.dover_model.proofs.steps.ReadyParts.{change, after_change, silent_ready}
use Rattle.dover_model.proofs.steps.Deeds.{over_rests}
use Rattle.dover_model.proofs.steps.Kept.{open_deed, open_kept, step_kept}
use Rattle.dover_model.proofs.settled.Prefixes.{step_open}
use Rattle.dover_model.proofs.settled.Leading.{over_ends}

-- a job that isn't over: some job isn't
pub some_goes_on : (s : State) (t : Task) → IsMember t s.tasks → is_over t ≡ false → GoesOn s
some_goes_on s t member ready = false_from_ne_true _ (λ all. never (sym ready ∙ all_each is_over s.tasks all t member))

-- a silent step keeps a job that isn't over
goes_on_after : (s : State) (m : Move) → IsSilent m → GoesOn s → GoesOn (after s m)
goes_on_after s m silent on =
    let it : (t : Task) × IsMember t s.tasks × (is_over t ≡ false) = not_all is_over s.tasks on in
    some_goes_on (after s m) (change m it.0)
    (subst (IsMember (change m it.0)) (sym (after_change s m)) (map_member (change m) s.tasks it.0 it.1))
    (not-true (is_over (change m it.0)) (silent_ready m silent it.0 (ap not it.2)))

module _ (rules : Rules) where
  -- silent steps, where some job isn't over
  pub settles_idles : (mark : ℕ) (xs : List Step) (s z : State) → GoesOn s → Settles rules mark s xs z
      → Idles rules s xs z × GoesOn z
  settles_idles mark [] s z on settles = (settles, subst GoesOn settles on)
  settles_idles mark (x ∷ xs) s z on settles =
      let rest : Idles rules (after s (open_step rules s)) xs z × GoesOn z =
      settles_idles mark xs (after s (open_step rules s)) z
      (goes_on_after s (open_step rules s) settles.2 on) settles.3 in
      ((settles.0, settles.2, on, rest.0), rest.1)

module _ (J : Instance) (valid : IsValid J) (rules : Rules) where
  -- where all jobs are over, each open step is a silent tick
  over_ticks : (s : State) → Keeps J s → list_all is_over s.tasks ≡ true → open_step rules s ≡ Ticks
  over_ticks s keeps over =
      over_rests rules.ratio s Ticks (all_each is_over s.tasks over) (open_step rules s)
      (open_deed J valid s keeps rules)

  -- which leaves the jobs as they are
  over_after : (s : State) → Keeps J s → list_all is_over s.tasks ≡ true
      → after s Ticks ≡ record s { clock = s.clock + 1; tasks = s.tasks }
  over_after s keeps over = ap (λ ts. record s { clock = s.clock + 1; tasks = ts }) (map_each s.tasks (λ t m. m)) where
    map_each : (ts : List Task) → ((t : Task) → IsMember t ts → IsMember t s.tasks) → map ticked ts ≡ ts
    map_each [] among = refl
    map_each (t ∷ ts) among =
        let here : ticked t ≡ t = ticked_over t (all_each is_over s.tasks over t (among t (inl refl))) in
        ap (λ u. u ∷ map ticked ts) here ∙ ap (λ us. t ∷ us) (map_each ts (λ u m. among u (inr m)))

  -- so the clock goes on to any mark
  over_waits : (gap mark : ℕ) (s : State) → Keeps J s → list_all is_over s.tasks ≡ true → s.clock + gap ≡ mark
      → WaitsUntil rules mark s (record s { clock = mark; tasks = s.tasks })
  over_waits zero mark s keeps over at =
      let here : s.clock ≡ mark = omega arith in
      record {
        steps = [];
        settles = ap (λ c. record s { clock = c; tasks = s.tasks }) here;
        barrier = ap (λ m. waits_for_mark m && nat_le mark mark) (over_ticks (record s {
          clock = mark;
          tasks =
              s.tasks;
        })
            (subst (λ c. Keeps J (record s { clock = c; tasks = s.tasks })) here keeps) over)
            ∙ le-leb mark mark (omega arith);
      }
  over_waits (suc gap) mark s keeps over at =
      let ticks : open_step rules s ≡ Ticks = over_ticks s keeps over in
      let on : after s (open_step rules s) ≡ record s { clock = s.clock + 1; tasks = s.tasks } = ap (after s) ticks
      ∙ over_after s keeps over in
      let rest : WaitsUntil rules mark (record s { clock = s.clock + 1; tasks = s.tasks })
      (record s { clock = mark; tasks = s.tasks }) =
      over_waits gap mark (record s { clock = s.clock + 1; tasks = s.tasks })
      (subst (Keeps J) on (open_kept J valid s keeps rules)) over (omega arith) in
      record {
        steps = open_at rules s ∷ rest.steps;
        settles = (
          refl,
          ap (λ m. waits_for_mark m && nat_le mark s.clock) ticks ∙ lt-leb mark s.clock (omega arith),
          ap event_of ticks,
          subst (λ u. Settles rules mark u rest.steps (record s { clock = mark; tasks = s.tasks })) (sym on)
              rest.settles,
        );
        barrier = rest.barrier;
      }

  -- where all jobs are over, the silent steps reach any mark from the clock on
  pub over_waits_until : (mark : ℕ) (s : State) → Keeps J s → list_all is_over s.tasks ≡ true → s.clock ≤ mark
      → WaitsUntil rules mark s (record s { clock = mark; tasks = s.tasks })
  over_waits_until mark s keeps over low = over_waits (mark - s.clock) mark s keeps over (omega arith)

  -- some step is printed next
  pub next_exists : (ys : List Step) (s : State) → Keeps J s → IsWholeRun rules s ys → (e : Event) × (z : State)
      × PrintsNext rules s e z
  next_exists [] s keeps whole = absurd whole
  next_exists (y ∷ ys) s keeps whole =
      by_event (step rules s) refl (next_exists ys (after s (step rules s)) (step_kept J valid s keeps rules)) where
        onward : (m : Move) → step rules s ≡ m → IsSilent m → is_end m ≡ false
            → (IsWholeRun rules (after s (step rules s)) ys → (e : Event) × (z : State)
            × PrintsNext rules (after s (step rules s)) e z)
            → (e : Event) × (z : State) × PrintsNext rules s e z
        onward m is silent more rest =
            let on : GoesOn s = by_over (list_all is_over s.tasks) refl in
            let same : step rules s ≡ open_step rules s = step_open rules s on in
            let it : (e : Event) × (z : State) × PrintsNext rules (after s (step rules s)) e z =
            rest (subst (λ b. MatchBool b (ys ≡ []) (IsWholeRun rules (after s (step rules s)) ys))
            (ap is_end is ∙ more) whole.1) in (
              it.0,
              it.1,
              record {
                steps = open_at rules s ∷ it.2.steps;
                idles = (
                  refl,
                  ap event_of (sym same ∙ is) ∙ silent,
                  on,
                  subst (λ n. Idles rules (after s n) it.2.steps it.1) same it.2.idles,
                );
                prints = it.2.prints;
              },
            ) where
              by_over : (b : Bool) → list_all is_over s.tasks ≡ b → list_all is_over s.tasks ≡ false
              by_over true over = never (sym more ∙ ap is_end (sym is ∙ over_ends J valid rules s keeps over))
              by_over false ready = ready

        by_event : (m : Move) → step rules s ≡ m
            → (IsWholeRun rules (after s (step rules s)) ys → (e : Event) × (z : State)
            × PrintsNext rules (after s (step rules s)) e z)
            → (e : Event) × (z : State) × PrintsNext rules s e z
        by_event (Prints e) is rest = (e, s, record { steps = []; idles = refl; prints = is })
        by_event m is rest = onward m is refl refl rest
