-- Where each finish is of a job that is over, none is due, and the steps are those without finishes.
use Rattle.std.proofs.Common.{◌≡◌, ℕ, List, [], ◌∷◌, inl, inr, map, refl, sym, ap, ◌∙◌, subst}
use Rattle.std.proofs.Common.{Option, Some, None, true, false}
use Rattle.dover_model.specs.declared.events.Task.{Task}
use Rattle.dover_model.specs.declared.events.Role.TheVariants.{Running}
use Rattle.dover_model.specs.Finishes.{Finish}
use Rattle.dover_model.specs.Common.{Rules, IsMember, Each, is_running, bare, is_over}
use Rattle.dover_model.proofs.lists.Tests.{never}
use Rattle.dover_model.proofs.lists.Members.{found}
use Rattle.dover_model.proofs.steps.Roles.{passes, is_running_role}
use Rattle.many_processors.specs.State.{State, seen_by}
use Rattle.many_processors.specs.Step.{Move, Ticks, Seen, all_seen, seen, first_some, for_one, finishing, finish_on}
use Rattle.many_processors.specs.Step.{completion, resumption, dispatch, decision, deciding, arrival, front, alarm}
use Rattle.many_processors.specs.Step.{free_one, least_valued, ending, ◌or_else◌, ◌or_try◌, urgent_or}
use Rattle.many_processors.specs.Step.{open_step, step, numbers_from}
use Rattle.many_processors.specs.Finishes.{AreOverFor, NoneIsDue}
use Rattle.many_processors.proofs.settled.AtMark.{finish_parts, come_parts}
use Rattle.many_processors.proofs.steps.Cases.{answered}
use Rattle.many_processors.proofs.steps.Placing.{seen_member}
use Rattle.many_processors.proofs.steps.Seeing.{one_of_all}

module _ (processors : ℕ) (rules : Rules) (s : State) where
  abbrev all : List Seen
  all = all_seen processors rules.version s

  -- none is due
  none_due : (finishes : List Finish) → AreOverFor finishes s → NoneIsDue processors rules.version finishes s
  none_due [] over = refl
  none_due (f ∷ fs) over = by_answer (finishing all f) refl (none_due fs (λ g m. over g (inr m))) where
    by_answer : (o : Option Move) → finishing all f ≡ o → first_some (finishing all) fs ≡ None
        → first_some (finishing all) (f ∷ fs) ≡ None
    by_answer None e more = ap (λ o. o or_try first_some (finishing all) fs) e ∙ more
    by_answer (Some m) e more =
        let q = answered (λ q. finish_on f q q.view.running) all m e in
        let it = finish_parts f q.0 m q.0.view.running q.2 in
        let i = one_of_all rules.version s (numbers_from 0 processors) q.0 q.1 in
        let at = found is_running (map (seen_by q.0.processor) s.jobs) it.0
        (subst (λ (r : Seen). r.view.running ≡ Some it.0) i.0 it.1) in
        let runs : it.0.role ≡ Running = is_running_role it.0 at.1 in
        let x = seen_member q.0.processor s.jobs it.0 Running (λ e. cc) runs at.0 in
        never (sym (passes is_over x.0.task Running false (ap (λ (u : Task). u.role) x.2 ∙ runs) refl)
        ∙ over f (inl refl) x.0 x.1 (ap (λ (u : Task). u.number) x.2 ∙ (come_parts it.0 f it.2).0))

  -- so the steps are those without finishes, whatever is done otherwise
  over_urgent : AreOverFor rules.finishes s → (other : Move)
      → urgent_or rules all other ≡ urgent_or (bare rules) all other
  over_urgent over other = ap (λ o. first_some completion all or_else first_some resumption all
      or_else for_one dispatch (free_one all) or_else o or_else for_one decision (deciding all)
      or_else for_one arrival (front all) or_else for_one (alarm rules.ratio) (least_valued all) or_else other)
      (none_due rules.finishes over)

  pub over_open : AreOverFor rules.finishes s → open_step processors rules s ≡ open_step processors (bare rules) s
  over_open over = over_urgent over Ticks

  pub over_closed : AreOverFor rules.finishes s → step processors rules s ≡ step processors (bare rules) s
  over_closed over = over_urgent over (ending s or_else Ticks)
