-- Turns whose jobs one schedule serves lose none, and together earn the value of all.
use Rattle.std.proofs.Common.{◌≡◌, ℕ, List, [], ◌∷◌, map, refl, sym, ◌∙◌, subst, false, not, inl, inr}
use Rattle.std.specs.List.{cons_option}
use Rattle.dover_model.specs.Common.{Event, Rules, total_value, Move, Prints, Step, run, printed, printed_of, event_of}
use Rattle.dover_model.specs.Common.{completed_value, Meets, Each, takes_or_abandons, Turn, TurnsEnd, behind, names_end}
use Rattle.dover_model.specs.Common.{before_end, one_run, turn_under, turns_jobs, printed_turns}
use Rattle.dover_model.specs.declared.events.Event.TheVariants as events
use Rattle.dover_model.proofs.lists.Members.{each_cons, each_append, on_map, member_filter}
use Rattle.dover_model.proofs.rest.InTurns.{one_run_prints, one_run_completes, turns_valid}
use Rattle.dover_model.proofs.rest.Parting.{none_lost_in_turn, all_value_in_turn}

-- none of the events is a take or an abandonment
abbrev pub LoseNone : List Event → Type 0
LoseNone es = Each (λ e. takes_or_abandons (Prints e) ≡ false) es

-- so it is under other numbers
none_behind : (n value : ℕ) (es : List Event) → LoseNone es → LoseNone (map (behind n value) es)
none_behind n value es all = on_map (behind n value) (λ e. takes_or_abandons (Prints e) ≡ false) es
    (λ e member. one e (all e member)) where
      one : (e : Event) → takes_or_abandons (Prints e) ≡ false → takes_or_abandons (Prints (behind n value e)) ≡ false
      one (events.Take at stops starts) none = none
      one (events.Abandon at m) none = none
      one _ none = refl

-- and of what steps print where no step is one
none_printed : (xs : List Step) → Each (λ x. takes_or_abandons x.move ≡ false) xs → LoseNone (printed_of xs)
none_printed [] each = λ e member. absurd member
none_printed (x ∷ xs) each =
    by x.move (each x (inl refl)) (none_printed xs (λ y member. each y (inr member))) where
      by : (m : Move) → takes_or_abandons m ≡ false → LoseNone (printed_of xs)
          → LoseNone (cons_option (event_of m) (printed_of xs))
      by (Prints e) none rest = each_cons (λ f. takes_or_abandons (Prints f) ≡ false) e (printed_of xs) none rest
      by _ none rest = rest

module _ (rules : Rules) where
  -- what turns print, none of which loses anything
  none_in_turns : (turns : List Turn)
      → Each (λ turn. Each (λ x. takes_or_abandons x.move ≡ false) (run (turn_under rules turn))) turns
      → LoseNone (printed_turns rules turns)
  none_in_turns [] each = each_cons (λ e. takes_or_abandons (Prints e) ≡ false) (events.End 0) [] refl
      (λ e member. absurd member)
  none_in_turns (turn ∷ turns) each =
      let here : LoseNone (printed (turn_under rules turn)) =
      none_printed (run (turn_under rules turn)) (each turn (inl refl)) in
      each_append (λ e. takes_or_abandons (Prints e) ≡ false) (before_end (printed (turn_under rules turn)))
      (map (behind _ _) (printed_turns rules turns))
      (λ e member. here e
      (member_filter (λ f. not (names_end f)) (printed (turn_under rules turn)) e member).0)
      (none_behind _ _ (printed_turns rules turns) (none_in_turns turns (λ t member. each t (inr member))))

  -- where one schedule serves all jobs, the one run loses none
  pub one_run_loses_none : (turns : List Turn) (last : ℕ) → TurnsEnd rules 0 turns last → Meets (one_run rules turns)
      → LoseNone (printed (one_run rules turns))
  one_run_loses_none turns last ends meets = subst LoseNone (sym (one_run_prints rules turns last ends))
      (none_in_turns turns (none_lost_in_turn rules turns (turns_valid rules turns 0 last ends) meets))

  -- and completes the value of all
  pub one_run_earns_all : (turns : List Turn) (last : ℕ) → TurnsEnd rules 0 turns last → Meets (one_run rules turns)
      → completed_value (one_run rules turns) ≡ total_value (turns_jobs turns)
  one_run_earns_all turns last ends meets = one_run_completes rules turns last ends
      ∙ all_value_in_turn rules turns (turns_valid rules turns 0 last ends) meets
