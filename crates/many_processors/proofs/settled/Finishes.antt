-- Finishes that lead to the same completions, and finishes that are yet to come, leave what is settled.
use Rattle.std.proofs.Common.{◌≡◌, ℕ, ◌≤◌, inl, inr, List, [], ◌∷◌, ◌++◌, refl, sym, ap, ◌∙◌, subst, arith, ◌&&◌, fold}
use Rattle.std.proofs.Common.{nat_le, Option, Some, None, append_assoc, append-nil}
use Rattle.std.proofs.lemmas.List.Elements.{filter_map-append}
use Rattle.dover_model.specs.declared.events.Version.{Version}
use Rattle.dover_model.specs.Finishes.{Finish}
use Rattle.dover_model.specs.Common.{Instance, IsValid, Each, HaveTheSame, Begins, with_jobs, with_finishes}
use Rattle.dover_model.specs.Instance as declared
use Rattle.dover_model.proofs.finishes.Meeting.{finishing_valid}
use Rattle.dover_model.proofs.lists.Tests.{never, none_is_some}
use Rattle.dover_model.proofs.settled.Settling.{late_early, at_barrier}
use Rattle.many_processors.specs.State.{State, opening}
use Rattle.many_processors.specs.Step.{Move, Ticks, Seen, all_seen, ◌or_else◌, ◌or_try◌, first_some, for_one}
use Rattle.many_processors.specs.Step.{completion, resumption, dispatch, decision, deciding, arrival, front, alarm}
use Rattle.many_processors.specs.Step.{free_one, least_valued, finishing, open_step, after}
use Rattle.many_processors.specs.Run as many
use Rattle.many_processors.specs.Run.{printed_on}
use Rattle.many_processors.specs.Settled.{waits_for_mark, settled_steps, settled_state, settled, IsSettledRun}
use Rattle.many_processors.specs.Finishes.{CompleteOne, due_completion, IsDueAlike}
use Rattle.many_processors.specs.Finishes.{AreDueAlike, NoneIsDue, AreYetToCome}
use Rattle.many_processors.proofs.steps.Cases.{answered, unanswered}
use Rattle.many_processors.proofs.settled.Prefixes.{shown, printed_prefix}
use Rattle.many_processors.proofs.settled.Settling.{settled_is_run}

-- what answers none changes no first answer before it
first_front : {X Y : Type 0} (f : X → Option Y) (xs ys : List X) → first_some f ys ≡ None
    → first_some f (xs ++ ys) ≡ first_some f xs
first_front f [] ys none = none
first_front f (x ∷ xs) ys none = ap (λ o. f x or_try o) (first_front f xs ys none)

-- what shorter steps show begins what longer ones do
shown_begins : (xs ys : List many.Step) → Begins xs ys → Begins (shown xs) (shown ys)
shown_begins xs ys it = (shown it.0, ap shown it.1 ∙ filter_map-append _ xs it.0)

-- what begins a list that begins another one begins it
begins_through : {X : Type 0} (xs ys zs : List X) → Begins xs ys → Begins ys zs → Begins xs zs
begins_through xs ys zs it next =
    (it.0 ++ next.0, next.1 ∙ ap (λ ws. ws ++ next.0) it.1 ∙ append_assoc xs it.0 next.0)

-- the state behind these steps
abbrev pub behind : State → List many.Step → State
behind s xs = fold (λ t step. after step.before step.move) s xs

-- ---- finishes that are due alike

module _ (processors : ℕ) (J : Instance) (gs : List Finish) where
  -- the same jobs with these finishes
  abbrev K : Instance
  K = declared.finishing J gs

  -- where they lead to the same completion, the open step is the same
  pub same_open : (s : State) → IsDueAlike processors J gs s
      → open_step processors K.rules s ≡ open_step processors J.rules s
  same_open s alike = ap (λ o. first_some completion all or_else first_some resumption all
      or_else for_one dispatch (free_one all) or_else o or_else for_one decision (deciding all)
      or_else for_one arrival (front all) or_else for_one (alarm J.rules.ratio) (least_valued all) or_else Ticks) alike
    where
      all : List Seen
      all = all_seen processors J.rules.version s

  -- where the open step is the same, the steps before the barrier of a mark begin those before the barrier of a later
  -- one
  begin_same : (mark mark2 : ℕ) → mark ≤ mark2 → (xs ys : List many.Step) (s : State)
      → IsSettledRun processors J.rules mark s xs → IsSettledRun processors K.rules mark2 s ys
      → Each (λ x. open_step processors K.rules x.before ≡ open_step processors J.rules x.before) xs → Begins xs ys
  begin_same mark mark2 later [] ys s run run2 alike = (ys, refl)
  begin_same mark mark2 later (x ∷ xs) ys s run run2 alike = by_other ys run2 same
      (begin_same mark mark2 later xs) where
        same : open_step processors K.rules s ≡ open_step processors J.rules s
        same = subst (λ (z : many.Step). open_step processors K.rules z.before ≡ open_step processors J.rules z.before)
            run.0 (alike x (inl refl))

        by_other : (ys : List many.Step) → IsSettledRun processors K.rules mark2 s ys
            → open_step processors K.rules s ≡ open_step processors J.rules s
            → ((zs : List many.Step) (t : State) → IsSettledRun processors J.rules mark t xs
            → IsSettledRun processors K.rules mark2 t zs
            → Each (λ x. open_step processors K.rules x.before ≡ open_step processors J.rules x.before) xs
            → Begins xs zs)
            → Begins (x ∷ xs) ys
        by_other [] run2 same more =
            let it = at_barrier (waits_for_mark (open_step processors K.rules s)) mark2 s.clock run2 in
            let low = late_early (waits_for_mark (open_step processors J.rules s)) mark s.clock run.1
            (ap waits_for_mark (sym same) ∙ it.0) in absurd (omega (arith, later, it.1, low))
        by_other (y ∷ ys) run2 same more =
            let rest = more ys (after s (open_step processors J.rules s)) run.2
            (subst (λ m. IsSettledRun processors K.rules mark2 (after s m) ys) same run2.2)
            (λ z member. alike z (inr member)) in
            let one : y ≡ x = run2.0 ∙ ap (λ m. let z : many.Step = record { before = s; move = m } in z) same
            ∙ sym run.0 in (rest.0, ap (λ z. z ∷ ys) one ∙ ap (λ zs. x ∷ zs) rest.1)

  -- and are the same, where these finishes lead to the same there too
  same_alike : (mark : ℕ) (xs ys : List many.Step) (s : State)
      → IsSettledRun processors J.rules mark s xs → IsSettledRun processors K.rules mark s ys
      → Each (λ x. IsDueAlike processors J gs x.before) xs → IsDueAlike processors J gs (behind s xs) → ys ≡ xs
  same_alike mark [] [] s run run2 alike there = refl
  same_alike mark [] (y ∷ ys) s run run2 alike there =
      never (sym run2.1 ∙ ap (λ m. waits_for_mark m && nat_le mark s.clock) (same_open s there) ∙ run)
  same_alike mark (x ∷ xs) [] s run run2 alike there =
      let same = same_open s (subst (λ (z : many.Step). IsDueAlike processors J gs z.before) run.0
      (alike x (inl refl))) in
      never (sym run.1 ∙ ap (λ m. waits_for_mark m && nat_le mark s.clock) (sym same) ∙ run2)
  same_alike mark (x ∷ xs) (y ∷ ys) s run run2 alike there =
      let same = same_open s (subst (λ (z : many.Step). IsDueAlike processors J gs z.before) run.0
      (alike x (inl refl))) in
      let rest = same_alike mark xs ys (after s (open_step processors J.rules s)) run.2
      (subst (λ m. IsSettledRun processors K.rules mark (after s m) ys) same run2.2)
      (λ z member. alike z (inr member))
      (subst (λ (z : many.Step). IsDueAlike processors J gs (behind (after z.before z.move) xs)) run.0 there) in
      let one : y ≡ x = run2.0 ∙ ap (λ m. let z : many.Step = record { before = s; move = m } in z) same
      ∙ sym run.0 in ap (λ z. z ∷ ys) one ∙ ap (λ zs. x ∷ zs) rest

  module _ (some : 1 ≤ processors) (valid : IsValid J) (mark : ℕ) where
    -- of what is settled
    pub same_begins : (mark2 : ℕ) → mark ≤ mark2
        → Each (λ x. open_step processors K.rules x.before ≡ open_step processors J.rules x.before)
        (settled_steps processors J mark)
        → Begins (settled_steps processors J mark) (settled_steps processors K mark2)
    same_begins mark2 later same = begin_same mark mark2 later (settled_steps processors J mark)
        (settled_steps processors K mark2) (opening J.jobs) (settled_is_run processors J valid some mark)
        (settled_is_run processors K (finishing_valid J gs valid) some mark2) same

    pub alike_begins : (mark2 : ℕ) → mark ≤ mark2
        → Each (λ x. IsDueAlike processors J gs x.before) (settled_steps processors J mark)
        → Begins (settled_steps processors J mark) (settled_steps processors K mark2)
    alike_begins mark2 later alike = same_begins mark2 later (λ x member. same_open x.before (alike x member))

    pub alike_same : AreDueAlike processors J mark gs
        → settled_steps processors K mark ≡ settled_steps processors J mark
    alike_same alike = same_alike mark (settled_steps processors J mark) (settled_steps processors K mark)
        (opening J.jobs) (settled_is_run processors J valid some mark)
        (settled_is_run processors K (finishing_valid J gs valid) some mark) alike.before alike.there

    pub alike_state : AreDueAlike processors J mark gs
        → settled_state processors K mark ≡ settled_state processors J mark
    alike_state alike = ap (behind (opening J.jobs)) (alike_same alike)

    -- and of what the run prints
    pub alike_printed : Each (λ x. IsDueAlike processors J gs x.before) (settled_steps processors J mark)
        → Begins (settled processors J mark) (printed_on processors K)
    alike_printed alike = begins_through (settled processors J mark) (settled processors K mark)
        (printed_on processors K)
        (shown_begins (settled_steps processors J mark) (settled_steps processors K mark)
        (alike_begins mark (omega arith) alike))
        (subst (λ (I : Instance). Begins (settled processors K mark) (printed_on processors I)) as_it_is
        (printed_prefix processors some K [] mark (subst IsValid (sym as_it_is) (finishing_valid J gs valid))
        (λ j member. absurd member))) where
          as_it_is : with_jobs K [] ≡ K
          as_it_is = ap (λ js. let I : Instance = record { rules = K.rules; jobs = js } in I) (append-nil K.jobs)

-- ---- further finishes

module _ (processors : ℕ) (J : Instance) (more : List Finish) where
  -- behind the instance's own, finishes of which none is due lead to the same
  pub further_alike : (s : State) → NoneIsDue processors J.rules.version more s
      → IsDueAlike processors J (J.rules.finishes ++ more) s
  further_alike s none = first_front (finishing (all_seen processors J.rules.version s)) J.rules.finishes more none

  module _ (some : 1 ≤ processors) (valid : IsValid J) (mark : ℕ) where
    -- so what is settled stays
    pub further_begins : (mark2 : ℕ) → mark ≤ mark2
        → Each (λ x. NoneIsDue processors J.rules.version more x.before) (settled_steps processors J mark)
        → Begins (settled_steps processors J mark) (settled_steps processors (with_finishes J more) mark2)
    further_begins mark2 later none = alike_begins processors J (J.rules.finishes ++ more) some valid mark mark2 later
        (λ x member. further_alike x.before (none x member))

    pub further_printed : Each (λ x. NoneIsDue processors J.rules.version more x.before)
        (settled_steps processors J mark)
        → Begins (settled processors J mark) (printed_on processors (with_finishes J more))
    further_printed none = alike_printed processors J (J.rules.finishes ++ more) some valid mark
        (λ x member. further_alike x.before (none x member))

    -- with finishes that are yet to come
    pub yet_alike : AreYetToCome processors J mark more
        → AreDueAlike processors J mark (J.rules.finishes ++ more)
    yet_alike yet = record {
      before = λ x member. further_alike x.before (yet.before x member);
      there = further_alike (settled_state processors J mark) yet.there;
    }

    pub yet_same : AreYetToCome processors J mark more
        → settled_steps processors (with_finishes J more) mark ≡ settled_steps processors J mark
    yet_same yet = alike_same processors J (J.rules.finishes ++ more) some valid mark (yet_alike yet)

    pub yet_state : AreYetToCome processors J mark more
        → settled_state processors (with_finishes J more) mark ≡ settled_state processors J mark
    yet_state yet = alike_state processors J (J.rules.finishes ++ more) some valid mark (yet_alike yet)

-- ---- another order

module _ (processors : ℕ) (version : Version) (fs gs : List Finish) (s : State) (same : HaveTheSame fs gs)
    (one : CompleteOne processors version fs s) where
  abbrev completes : Finish → Option Move
  completes = finishing (all_seen processors version s)

  -- the same finishes in another order lead to the same, where all that are due complete one job
  pub order_alike : due_completion processors version gs s ≡ due_completion processors version fs s
  order_alike = by_due (due_completion processors version fs s) (due_completion processors version gs s) refl refl where
    by_due : (o p : Option Move) → due_completion processors version fs s ≡ o
        → due_completion processors version gs s ≡ p → p ≡ o
    by_due None None e f = refl
    by_due (Some m) (Some n) e f =
        let a = answered completes fs m e in
        let b = answered completes gs n f in
        ap Some (one b.0 a.0 (same.1 b.0 b.1) a.1 n m b.2 a.2)
    by_due (Some m) None e f =
        let a = answered completes fs m e in
        none_is_some (sym (unanswered completes gs f a.0 (same.0 a.0 a.1)) ∙ a.2)
    by_due None (Some n) e f =
        let b = answered completes gs n f in
        none_is_some (sym (unanswered completes fs e b.0 (same.1 b.0 b.1)) ∙ b.2)
