-- What was given since the last moment of rest, and rest.
use Rattle.std.proofs.Common.{◌≡◌, ℕ, List, [], ◌++◌, refl, sym, ap, ◌∙◌, subst, Bool, true, false, append-nil}
use Rattle.std.proofs.Common.{append_assoc, None, Option, Some, IfSome, option_to_list, not, MatchBool, filter}
use Rattle.dover_model.specs.declared.events.Event.{Event}
use Rattle.dover_model.specs.declared.events.Task.{Task}
use Rattle.dover_model.specs.Common.{Instance, declared_by, having, State, opening, is_over, is_done, value_sum, Prints}
use Rattle.dover_model.specs.Common.{is_end, printed, completed_value, settled_steps, settled_state, Each, IsMember}
use Rattle.dover_model.specs.Common.{Begins, is_ready, due_by, MayFollow}
use Rattle.dover_model.specs.Rest as rest
use Rattle.dover_model.proofs.rest.Apart.{settled_at_rest}
use Rattle.dover_model.proofs.settled.Barriers.{state_after}
use Rattle.dover_model.proofs.sessions.Growing.{settled_of_run}
use Rattle.dover_model.proofs.lists.Members.{filter_member}
use Rattle.dover_model.proofs.settled.Paths.{path_settles, one_settled_run}
use Rattle.dover_model.proofs.rest.Resting.{path_state, value_there}
use Rattle.dover_model.proofs.settled.Settling.{settled_is_run}
use Rattle.dover_model.proofs.lists.Tests.{never}
use Rattle.dover_model.specs.declared.horizon.Horizon.{Horizon}
use Rattle.dover_model.specs.declared.horizon.Horizon.TheVariants.{Mark, End}
use Rattle.ready_server.specs.Serving.{Serves, Rests, HasGiven, LeavesRest}
use Rattle.ready_server.proofs.Stepping.{serves_begins, rests_serves}
use Rattle.ready_server.proofs.Renewing.{none_settled}
use Rattle.admission.specs.Kept.{StandsFor}
use Rattle.dover_engine.specs.Life.{Life, has_ended, IsAtRest}
use Rattle.dover_engine.specs.Given.{GaveSince, IsSettled}

-- ---- what was given

module _ (v : Life) (J : Instance) (es : List Event) (g : GaveSince v J es) where
  -- it begins what the run prints
  pub since_begins : Begins es (printed J)
  since_begins =
      let first = serves_begins v.server J v.last (es ++ option_to_list v.coming) g.serves in
      let then = by_horizon v.last in (
        option_to_list v.coming ++ (first.0 ++ then.0),
        then.1 ∙ ap (λ fs. fs ++ then.0) first.1
            ∙ append_assoc (es ++ option_to_list v.coming) first.0 then.0
            ∙ append_assoc es (option_to_list v.coming) (first.0 ++ then.0),
      ) where
        by_horizon : (to : Horizon) → Begins (due_by J to) (printed J)
        by_horizon (Mark t) = settled_of_run J t g.serves.follows.valid
        by_horizon End = ([], sym (append-nil (printed J)))

  -- after the End it is all of it
  pub since_all : has_ended v ≡ true → es ≡ printed J
  since_all ended = by_coming v.coming refl where
    by_last : (to : Horizon) → HasGiven v.server.ended J g.serves.state to (es ++ option_to_list v.coming)
        → es ++ option_to_list v.coming ≡ printed J
    by_last (Mark t) given = never (sym given.0 ∙ ended)
    by_last End given = subst (λ b. MatchBool b (es ++ option_to_list v.coming ≡ printed J)
        (LeavesRest J g.serves.state (es ++ option_to_list v.coming))) ended given

    by_coming : (o : Option Event) → v.coming ≡ o → es ≡ printed J
    by_coming None none = sym (append-nil es) ∙ ap (λ o. es ++ option_to_list o) (sym none)
        ∙ by_last v.last g.serves.given
    by_coming (Some e) some = never (sym (subst (λ o. IfSome o (λ d. (has_ended v ≡ false)
        × (is_end (Prints d) ≡ false))) some g.unended).0 ∙ ended)

  module _ (still : IsAtRest v) where
    abbrev pub settled_now : IsSettled v J es
    settled_now = g.settled still.settled

    module _ (t : ℕ) (last : v.last ≡ Mark t) where
      pub there : Rests v.server J (Mark t)
      there = subst (Rests v.server J) last settled_now.rests

      -- each job is over
      over : Each (λ (x : Task). is_over x ≡ true) there.state.tasks
      over x member = by_over (is_over x) refl where
        by_over : (b : Bool) → is_over x ≡ b → is_over x ≡ true
        by_over true is = is
        by_over false is = absurd (subst (IsMember x) still.none (there.follows.ready.there x
            (filter_member is_ready there.state.tasks x member (ap not is))))

      here : settled_state J t ≡ record there.state { clock = t }
      here =
          let waits = there.given.1.waits in
          let steps : settled_steps J t ≡ waits.steps =
          one_settled_run J.rules t (settled_steps J t) waits.steps (opening J.jobs)
          (settled_is_run J t there.follows.valid)
          (path_settles J.rules t waits.steps (opening J.jobs) (record there.state { clock = t }) waits.path
          there.given.1.barrier) in
          ap (state_after (opening J.jobs)) steps
          ∙ path_state J.rules t waits.steps (opening J.jobs) (record there.state { clock = t }) waits.path

      pub rests_at : rest.IsAtRest J t
      rests_at = subst (λ (s : State). Each (λ (x : Task). is_over x ≡ true) s.tasks) (sym here) over

      pub done_at : v.server.ready.done ≡ completed_value J
      done_at = sym there.follows.done
          ∙ ap (λ (s : State). value_sum (filter is_done s.tasks)) (sym here)
          ∙ sym (value_there J there.follows.valid t rests_at)

      pub given_at : es ≡ rest.before_end (printed J)
      given_at = settled_now.all ∙ ap (due_by J) last ∙ settled_at_rest J t there.follows.valid rests_at

    pub marked : (t : ℕ) × (v.last ≡ Mark t)
    marked = by_last v.last refl where
      by_last : (to : Horizon) → v.last ≡ to → (t : ℕ) × (v.last ≡ Mark t)
      by_last (Mark t) is = (t, is)
      by_last End is = absurd ((g.settled still.settled).marked is)

-- ---- anew

-- an engine whose server rests with no jobs gave nothing since
pub anew_gave : (w : Life) (J : Instance) (t : ℕ) → Rests w.server (rest.instead_with J [] []) (Mark t)
    → StandsFor w.admission [] → w.admission.rules ≡ declared_by J.rules → w.last ≡ Mark t → w.coming ≡ None
    → MayFollow (Mark 0) w.last → GaveSince w (rest.instead_with J [] []) []
anew_gave w J t rests stands rules last none known =
    let here : Rests w.server (rest.instead_with J [] []) w.last =
    subst (Rests w.server (rest.instead_with J [] [])) (sym last) rests in
    let nothing : [] ≡ due_by (rest.instead_with J [] []) w.last =
    none_settled (having J.rules []) rests.follows.valid t
    ∙ ap (due_by (rest.instead_with J [] [])) (sym last) in record {
      admission = stands;
      rules = rules;
      serves = subst (λ o. Serves w.server (rest.instead_with J [] []) w.last ([] ++ option_to_list o)) (sym none)
          (subst (Serves w.server (rest.instead_with J [] []) w.last) (sym nothing)
          (rests_serves w.server (rest.instead_with J [] []) w.last here));
      settled = λ f. record {
        all = nothing;
        none = none;
        rests = here;
        marked = λ e. let f2 : Mark t ≡ End = sym last ∙ e in cc;
      };
      unended = subst (λ o. IfSome o (λ e. (has_ended w ≡ false) × (is_end (Prints e) ≡ false))) (sym none) tt;
      known = known;
    }
