-- Open steps that lead from one state to another.
use Rattle.std.proofs.Common.{◌≡◌, List, ◌∷◌, refl, ℕ, ◌+◌, ◌≤◌, ◌++◌, sym, ap, ◌∙◌, subst, true, Bool, false, arith}
use Rattle.std.proofs.Common.{[], suc, ◌<◌, cond, Option, None, Some, nat_le, ◌&&◌, filter, MatchBool}
use Rattle.std.specs.List.{cons_option, list_all}
use Rattle.std.proofs.lemmas.Bool.{lt-leb, false_from_ne_true}
use Rattle.std.specs.Bool.{then_some}
use Rattle.dover_model.specs.Common.{Event, Rules, Instance, IsValid, State, is_over, is_done, value_sum, with_later}
use Rattle.dover_model.specs.Common.{Prints, step, open_step, after, Move, Waits, Ticks, ending, ◌or_else◌, Step}
use Rattle.dover_model.specs.Common.{event_of, printed_of, is_end, waits_for_mark, AllComeFrom, IsBefore, IsBarrier}
use Rattle.dover_model.specs.Common.{IsSettledRun, IsWholeRun, open_at, Passes, Leads, Settles, Idles, IsSilent, GoesOn}
use Rattle.dover_model.specs.Common.{floor_after, End, Keeps, IsMember, Task, Coming}
use Rattle.dover_model.proofs.steps.Roles.{passes}
use Rattle.dover_model.proofs.lists.Tests.{never}
use Rattle.dover_model.proofs.settled.Paths.{before_later}
use Rattle.dover_model.proofs.runs.Ending.{later_clock}
use Rattle.dover_model.proofs.settled.Releasing.{within_mark}
use Rattle.dover_model.proofs.lists.Members.{all_each, member_behind}
use Rattle.dover_model.proofs.steps.Deeds.{over_rests}
use Rattle.dover_model.proofs.steps.Kept.{open_kept, step_deed}
use Rattle.dover_model.proofs.settled.Settling.{late_early}
use Rattle.dover_model.proofs.settled.Prefixes.{step_open, open_goes_on, behind_step, behind_after, behind_keeps}

-- what adds nothing
none_printed : (o : Option Event) (es : List Event) → cons_option o es ≡ [] → (o ≡ None) × (es ≡ [])
none_printed None es none = (refl, none)
none_printed (Some e) es none = absurd (let clash : e ∷ es ≡ [] = none in cc)

module _ (rules : Rules) where
  -- at a later mark
  pub leads_later_mark : (mark later : ℕ) → mark ≤ later → (xs : List Step) (s z : State) → Leads rules mark s xs z
      → Leads rules later s xs z
  leads_later_mark mark later onward [] s z leads = leads
  leads_later_mark mark later onward (x ∷ xs) s z leads = (
    leads.0,
    before_later (waits_for_mark (open_step rules s)) mark later s.clock onward leads.1,
    leads.2,
    leads_later_mark mark later onward xs (after s (open_step rules s)) z leads.3,
  )

  -- further steps
  pub leads_append : (mark : ℕ) (xs ys : List Step) (s y z : State) → Leads rules mark s xs y → Leads rules mark y ys z
      → Leads rules mark s (xs ++ ys) z
  leads_append mark [] ys s y z one next = subst (λ u. Leads rules mark u ys z) (sym one) next
  leads_append mark (x ∷ xs) ys s y z one next =
      (one.0, one.1, one.2, leads_append mark xs ys (after s (open_step rules s)) y z one.3 next)

  -- steps that pass, also where all jobs are over
  pub leads_passes : (mark : ℕ) (xs : List Step) (s z : State) → Leads rules mark s xs z → Passes rules mark s xs z
  leads_passes mark [] s z leads = leads
  leads_passes mark (x ∷ xs) s z leads =
      (leads.0, leads.1, leads_passes mark xs (after s (open_step rules s)) z leads.3)

  -- silent steps pass
  pub settles_passes : (mark : ℕ) (xs : List Step) (s z : State) → Settles rules mark s xs z → Passes rules mark s xs z
  settles_passes mark [] s z leads = leads
  settles_passes mark (x ∷ xs) s z leads =
      (leads.0, leads.1, settles_passes mark xs (after s (open_step rules s)) z leads.3)

  -- steps that pass, and further ones
  pub passes_append : (mark : ℕ) (xs ys : List Step) (s y z : State) → Passes rules mark s xs y
      → Passes rules mark y ys z
      → Passes rules mark s (xs ++ ys) z
  passes_append mark [] ys s y z one next = subst (λ u. Passes rules mark u ys z) (sym one) next
  passes_append mark (x ∷ xs) ys s y z one next =
      (one.0, one.1, passes_append mark xs ys (after s (open_step rules s)) y z one.2 next)

  -- idle steps, and further ones
  pub idles_append : (xs ys : List Step) (s y z : State) → Idles rules s xs y → Idles rules y ys z
      → Idles rules s (xs ++ ys) z
  idles_append [] ys s y z one next = subst (λ u. Idles rules u ys z) (sym one) next
  idles_append (x ∷ xs) ys s y z one next =
      (one.0, one.1, one.2, idles_append xs ys (after s (open_step rules s)) y z one.3 next)

  -- silent steps, and further ones
  pub settles_append : (mark : ℕ) (xs ys : List Step) (s y z : State) → Settles rules mark s xs y
      → Settles rules mark y ys z
      → Settles rules mark s (xs ++ ys) z
  settles_append mark [] ys s y z one next = subst (λ u. Settles rules mark u ys z) (sym one) next
  settles_append mark (x ∷ xs) ys s y z one next =
      (one.0, one.1, one.2, settles_append mark xs ys (after s (open_step rules s)) y z one.3 next)

  -- steps that pass and settled ones behind them are settled
  pub passes_settled : (mark : ℕ) (xs ys : List Step) (s z : State) → Passes rules mark s xs z
      → IsSettledRun rules mark z ys
      → IsSettledRun rules mark s (xs ++ ys)
  passes_settled mark [] ys s z passes run = subst (λ u. IsSettledRun rules mark u ys) (sym passes) run
  passes_settled mark (x ∷ xs) ys s z passes run =
      (passes.0, passes.1, passes_settled mark xs ys (after s (open_step rules s)) z passes.2 run)

  -- settled steps that print nothing are silent
  pub settled_settles : (mark : ℕ) (xs : List Step) (s : State) → IsSettledRun rules mark s xs → printed_of xs ≡ []
      → (z : State) × Settles rules mark s xs z × IsBarrier rules mark z
  settled_settles mark [] s run silent = (s, refl, run)
  settled_settles mark (x ∷ xs) s run silent =
      let both : (event_of x.move ≡ None) × (printed_of xs ≡ []) =
      none_printed (event_of x.move) (printed_of xs) silent in
      let here : event_of (open_step rules s) ≡ None = sym (ap (λ (y : Step). event_of y.move) run.0) ∙ both.0 in
      let rest : (z : State) × Settles rules mark (after s (open_step rules s)) xs z × IsBarrier rules mark z =
      settled_settles mark xs (after s (open_step rules s)) run.2 both.1 in
      (rest.0, (run.0, run.1, here, rest.1), rest.2)

  -- silent steps print nothing
  pub settles_silent : (mark : ℕ) (xs : List Step) (s z : State) → Settles rules mark s xs z → printed_of xs ≡ []
  settles_silent mark [] s z settles = refl
  settles_silent mark (x ∷ xs) s z settles = ap (λ (y : Step). cons_option (event_of y.move) (printed_of xs)) settles.0
      ∙ ap (λ o. cons_option o (printed_of xs)) settles.2
      ∙ settles_silent mark xs (after s (open_step rules s)) z settles.3

  -- so do idle ones
  pub idles_silent : (xs : List Step) (s z : State) → Idles rules s xs z → printed_of xs ≡ []
  idles_silent [] s z idles = refl
  idles_silent (x ∷ xs) s z idles = ap (λ (y : Step). cons_option (event_of y.move) (printed_of xs)) idles.0
      ∙ ap (λ o. cons_option o (printed_of xs)) idles.1 ∙ idles_silent xs (after s (open_step rules s)) z idles.3

  -- the silent steps don't both reach the barrier and come to a printed step before it
  pub settles_or_prints : (mark : ℕ) (xs ys : List Step) (s y z : State) (e : Event) → Settles rules mark s xs y
      → IsBefore rules mark y
      → open_step rules y ≡ Prints e → Settles rules mark s ys z → IsBarrier rules mark z → ⊥
  settles_or_prints mark [] [] s y z e one before prints other here =
      never (sym (subst (IsBefore rules mark) (sym one ∙ other) before) ∙ here)
  settles_or_prints mark [] (v ∷ ys) s y z e one before prints other here =
      absurd (let silent : event_of (open_step rules s) ≡ None = other.2 in
      let printed : event_of (open_step rules s) ≡ Some e = ap (λ u. event_of (open_step rules u)) one
      ∙ ap event_of prints in
      let clash : None ≡ Some e = sym silent ∙ printed in cc)
  settles_or_prints mark (x ∷ xs) [] s y z e one before prints other here =
      never (sym one.1 ∙ subst (IsBarrier rules mark) (sym other) here)
  settles_or_prints mark (x ∷ xs) (v ∷ ys) s y z e one before prints other here =
      settles_or_prints mark xs ys (after s (open_step rules s)) y z e one.3 before prints other.3 here

-- ---- the clock

-- a late step that prints nothing is a silent tick
pub late_silent : (m : Move) → waits_for_mark m ≡ true → IsSilent m → m ≡ Ticks
late_silent (Prints e) late silent = absurd (let clash : Some e ≡ None = silent in cc)
late_silent (Waits n) late silent = never late
late_silent Ticks late silent = refl

-- a silent step that leaves the clock before a tick, or at it, is before that tick
tick_before : (rules : Rules) (mark : ℕ) (s : State) → IsSilent (open_step rules s)
    → (after s (open_step rules s)).clock ≤ mark
    → IsBefore rules mark s
tick_before rules mark s silent low = by_late (waits_for_mark (open_step rules s)) refl where
  by_late : (b : Bool) → waits_for_mark (open_step rules s) ≡ b → (b && nat_le mark s.clock) ≡ false
  by_late true late = let ticks : open_step rules s ≡ Ticks = late_silent (open_step rules s) late silent in
      let next : (after s (open_step rules s)).clock ≡ s.clock + 1 = ap (λ m. (after s m).clock) ticks in
      lt-leb mark s.clock (omega arith)
  by_late false early = refl

module _ (rules : Rules) where
  -- idle steps don't turn the clock back
  pub idles_clock : (xs : List Step) (s z : State) → Idles rules s xs z → s.clock ≤ z.clock
  idles_clock [] s z idles = let same : s.clock ≡ z.clock = ap (λ (u : State). u.clock) idles in omega arith
  idles_clock (x ∷ xs) s z idles = let rest : (after s (open_step rules s)).clock ≤ z.clock =
      idles_clock xs (after s (open_step rules s)) z idles.3 in omega (arith, later_clock s (open_step rules s))

  -- idle steps lead on, up to the clock that they reach
  pub idles_leads : (xs : List Step) (s z : State) → Idles rules s xs z → Leads rules z.clock s xs z
  idles_leads [] s z idles = idles
  idles_leads (x ∷ xs) s z idles = (
    idles.0,
    tick_before rules z.clock s idles.1 (idles_clock xs (after s (open_step rules s)) z idles.3),
    idles.2,
    idles_leads xs (after s (open_step rules s)) z idles.3,
  )

  -- idle steps up to a mark are silent steps before it
  pub idles_settles : (mark : ℕ) (xs : List Step) (s z : State) → Idles rules s xs z → z.clock ≤ mark
      → Settles rules mark s xs z
  idles_settles mark [] s z idles low = idles
  idles_settles mark (x ∷ xs) s z idles low = (
    idles.0,
    tick_before rules mark s idles.1 (let on : (after s (open_step rules s)).clock ≤ z.clock =
        idles_clock xs (after s (open_step rules s)) z idles.3 in omega arith),
    idles.1,
    idles_settles mark xs (after s (open_step rules s)) z idles.3 low,
  )

  -- silent steps up to a mark leave the clock before it, or at it
  pub settles_clock : (mark : ℕ) (xs : List Step) (s z : State) → Settles rules mark s xs z → s.clock ≤ mark
      → z.clock ≤ mark
  settles_clock mark [] s z settles low = let same : s.clock ≡ z.clock = ap (λ (u : State). u.clock) settles in
      omega arith
  settles_clock mark (x ∷ xs) s z settles low =
      settles_clock mark xs (after s (open_step rules s)) z settles.3 (within_mark rules mark s settles.1 low)

-- ---- states of an instance

module _ (J : Instance) (valid : IsValid J) (rules : Rules) where
  -- steps that pass keep a sound state
  pub passes_keeps : (mark : ℕ) (xs : List Step) (s z : State) → Keeps J s → Passes rules mark s xs z → Keeps J z
  passes_keeps mark [] s z keeps passes = subst (Keeps J) passes keeps
  passes_keeps mark (x ∷ xs) s z keeps passes =
      passes_keeps mark xs (after s (open_step rules s)) z (open_kept J valid s keeps rules) passes.2

  -- an open step isn't End
  pub not_end : (s : State) → Keeps J s → is_end (open_step rules s) ≡ false
  not_end s keeps = open_goes_on J valid rules s keeps

  -- where all jobs are over, the run ends
  pub over_ends : (s : State) → Keeps J s → list_all is_over s.tasks ≡ true
      → step rules s ≡ Prints (End (value_sum (filter is_done s.tasks)))
  over_ends s keeps over =
      over_rests rules.ratio s (ending s or_else Ticks) (all_each is_over s.tasks over) (step rules s)
      (step_deed J valid s keeps rules)
      ∙ ap (λ b. then_some b (Prints (End (value_sum (filter is_done s.tasks)))) or_else Ticks) over

  -- before a step that isn't End some job isn't over
  pub prints_goes_on : (s : State) (e : Event) → Keeps J s → step rules s ≡ Prints e → is_end (Prints e) ≡ false
      → GoesOn s
  prints_goes_on s e keeps prints more = by_over (list_all is_over s.tasks) refl where
    by_over : (b : Bool) → list_all is_over s.tasks ≡ b → list_all is_over s.tasks ≡ false
    by_over true over = never (sym more ∙ ap is_end (sym prints ∙ over_ends s keeps over))
    by_over false on = on

  -- a whole run behind steps that lead
  pub leads_whole : (mark : ℕ) (xs ys : List Step) (s z : State) → Keeps J s → Leads rules mark s xs z
      → IsWholeRun rules z ys
      → IsWholeRun rules s (xs ++ ys)
  leads_whole mark [] ys s z keeps leads whole = subst (λ u. IsWholeRun rules u ys) (sym leads) whole
  leads_whole mark (x ∷ xs) ys s z keeps leads whole =
      let same : step rules s ≡ open_step rules s = step_open rules s leads.2 in
      let rest : IsWholeRun rules (after s (open_step rules s)) (xs ++ ys) =
      leads_whole mark xs ys (after s (open_step rules s)) z (open_kept J valid s keeps rules) leads.3 whole in (
        leads.0 ∙ ap (step_with s) (sym same),
        subst (λ b. MatchBool b ((xs ++ ys) ≡ []) (IsWholeRun rules (after s (step rules s)) (xs ++ ys)))
            (sym (ap is_end same ∙ not_end s keeps))
            (subst (λ m. IsWholeRun rules (after s m) (xs ++ ys)) (sym same) rest),
      ) where
        step_with : State → Move → Step
        step_with u m = record { before = u; move = m }

  -- what a run prints next
  pub prints_first : (xs ys : List Step) (s z : State) (e : Event) → Keeps J s → Idles rules s xs z
      → step rules z ≡ Prints e
      → IsWholeRun rules s ys → (more : List Event) × (printed_of ys ≡ e ∷ more)
  prints_first xs [] s z e keeps idles prints whole = absurd whole
  prints_first [] (y ∷ ys) s z e keeps idles prints whole = (
    printed_of ys,
    ap (λ (v : Step). cons_option (event_of v.move) (printed_of ys)) whole.0
        ∙ ap (λ u. cons_option (event_of (step rules u)) (printed_of ys)) idles
        ∙ ap (λ m. cons_option (event_of m) (printed_of ys)) prints,
  )
  prints_first (x ∷ xs) (y ∷ ys) s z e keeps idles prints whole =
      let same : step rules s ≡ open_step rules s = step_open rules s idles.2 in
      let on : IsWholeRun rules (after s (step rules s)) ys =
      subst (λ b. MatchBool b (ys ≡ []) (IsWholeRun rules (after s (step rules s)) ys))
      (ap is_end same ∙ not_end s keeps) whole.1 in
      let rest : (more : List Event) × (printed_of ys ≡ e ∷ more) =
      prints_first xs ys (after s (open_step rules s)) z e (open_kept J valid s keeps rules) idles.3 prints
      (subst (λ m. IsWholeRun rules (after s m) ys) same on) in (
        rest.0,
        ap (λ (v : Step). cons_option (event_of v.move) (printed_of ys)) whole.0
            ∙ ap (λ m. cons_option (event_of m) (printed_of ys)) same
            ∙ ap (λ o. cons_option o (printed_of ys)) idles.1 ∙ rest.1,
      )

  -- what is settled at a tick before the next printed step is settled prints nothing
  pub stops_before : (mark : ℕ) (xs ys : List Step) (s z : State) (e : Event) → Keeps J s → s.clock ≤ mark
      → Idles rules s xs z
      → open_step rules z ≡ Prints e → mark < floor_after z e → IsSettledRun rules mark s ys → printed_of ys ≡ []
  stops_before mark xs [] s z e keeps low idles prints early run = refl
  stops_before mark [] (y ∷ ys) s z e keeps low idles prints early run =
      absurd (by_late (waits_for_mark (Prints e)) refl early) where
        same : s.clock ≡ z.clock
        same = ap (λ (u : State). u.clock) idles

        late_here : waits_for_mark (open_step rules s) ≡ waits_for_mark (Prints e)
        late_here = ap (λ u. waits_for_mark (open_step rules u)) idles ∙ ap waits_for_mark prints

        by_late : (b : Bool) → waits_for_mark (Prints e) ≡ b → mark < cond b (suc z.clock) z.clock → ⊥
        by_late true late less =
            let first : s.clock < mark =
            late_early (waits_for_mark (open_step rules s)) mark s.clock run.1 (late_here ∙ late) in omega (arith, same)
        by_late false not_late less = omega (arith, same)
  stops_before mark (x ∷ xs) (y ∷ ys) s z e keeps low idles prints early run =
      ap (λ (v : Step). cons_option (event_of v.move) (printed_of ys)) run.0
      ∙ ap (λ o. cons_option o (printed_of ys)) idles.1
      ∙ stops_before mark xs ys (after s (open_step rules s)) z e (open_kept J valid s keeps rules)
      (within_mark rules mark s run.1 low) idles.3
      prints early run.2

-- ---- with jobs behind

-- steps with the same events, with jobs behind
pub record Later (rules : Rules) (mark : ℕ) (s z : State) (more : List Task) (xs : List Step) : Type 0 where
  pub steps : List Step
  pub leads : Leads rules mark (with_later s more) steps (with_later z more)
  pub printed : printed_of steps ≡ printed_of xs

-- where a job is to come, some job isn't over
pub coming_goes_on : (s : State) (more : List Task) (u : Task) → IsMember u more → u.role ≡ Coming
    → GoesOn (with_later s more)
coming_goes_on s more u member comes = false_from_ne_true _ clash where
  clash : list_all is_over (s.tasks ++ more) ≡ true → ⊥
  clash all = never (sym (passes is_over u Coming false comes refl)
      ∙ all_each is_over (s.tasks ++ more) all u (member_behind s.tasks more u member))

module _ (J : Instance) (valid : IsValid J) (K : Instance) (valid_more : IsValid K) (rules : Rules) (mark : ℕ)
    (more : List Task)
    (come : AllComeFrom mark more) (u : Task) (member : IsMember u more) where
  -- steps that pass lead on with jobs behind, which come at the mark or later
  pub passes_later : (xs : List Step) (s z : State) → Keeps J s → Keeps K (with_later s more) → Passes rules mark s xs z
      → Later rules mark s z more xs
  passes_later [] s z keeps keeps_more passes =
      record { steps = []; leads = ap (λ v. with_later v more) passes; printed = refl }
  passes_later (x ∷ xs) s z keeps keeps_more passes =
      let step_same : open_step rules (with_later s more) ≡ open_step rules s =
      behind_step J valid K valid_more rules mark more come s keeps keeps_more passes.1 in
      let rest : Later rules mark (after s (open_step rules s)) z more xs =
      passes_later xs (after s (open_step rules s)) z (open_kept J valid s keeps rules)
      (behind_keeps J valid K valid_more rules mark more come s keeps keeps_more passes.1) passes.2 in
      record {
        steps = open_at rules (with_later s more) ∷ rest.steps;
        leads = (
          refl,
          subst (λ m. (waits_for_mark m && nat_le mark s.clock) ≡ false) (sym step_same) passes.1,
          coming_goes_on s more u member (come.0 u member),
          subst (λ v. Leads rules mark v rest.steps (with_later z more))
              (sym (behind_after J valid K valid_more rules mark more come s keeps keeps_more passes.1)) rest.leads,
        );
        printed = ap (λ m. cons_option (event_of m) (printed_of rest.steps)) step_same
            ∙ ap (cons_option (event_of (open_step rules s))) rest.printed
            ∙ sym (ap (λ (y : Step). cons_option (event_of y.move) (printed_of xs)) passes.0);
      }
