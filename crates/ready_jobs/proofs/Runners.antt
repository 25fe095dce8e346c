-- The job that runs is the one that is kept as running.
use Rattle.std.proofs.Common.{◌≡◌, ℕ, refl, sym, ap, ◌∙◌, true, Some, None}
use Rattle.dover_model.specs.declared.events.Role.TheVariants.{Running}
use Rattle.dover_model.specs.declared.events.Task.{Task}
use Rattle.dover_model.specs.Common.{Instance, is_ready, IsMember, State, running, is_running}
use Rattle.dover_model.proofs.lists.Members.{found, not_found, filter_member, member_filter, some_same}
use Rattle.dover_model.proofs.finishes.Readiness.{runner}
use Rattle.dover_model.proofs.steps.Roles.{passes, is_running_role}
use Rattle.dover_model.proofs.lists.Tests.{never}
use Rattle.ready_jobs.specs.Course.{Course, state_of_course, Follows, Runs, RunsNowhere}

module _ (c : Course) where
  -- the ready job that runs
  pub ready_runs : (r : Task) → running (state_of_course c) ≡ Some r → Runs c r.number
  ready_runs r some J z follows =
      let it : IsMember r c.ready × (is_running r ≡ true) = found is_running c.ready r some in
      let there : IsMember r z.tasks × (is_ready r ≡ true) = member_filter _ _ _ (follows.ready.back r it.0) in
      (r, runner z follows.keeps.sound r there.0 (is_running_role r it.1), refl)

  -- another job doesn't
  pub ready_other : (r : Task) → running (state_of_course c) ≡ Some r → (n : ℕ) → (r.number ≡ n → ⊥)
      → RunsNowhere c n
  ready_other r some n differs J z follows t runs same =
      let it = ready_runs r some J z follows in
      let one : it.0 ≡ t = (let e : Some it.0 ≡ Some t = sym it.1 ∙ runs in cc) in
      differs (sym it.2 ∙ ap (λ (u : Task). u.number) one ∙ same)

  -- where no ready job runs, none does
  pub none_runs : running (state_of_course c) ≡ None → (n : ℕ) → RunsNowhere c n
  none_runs none n J z follows t runs same =
      let it : IsMember t z.tasks × (is_running t ≡ true) = found is_running z.tasks t runs in
      let ready : is_ready t ≡ true = passes is_ready t Running true (is_running_role t it.1) refl in
      never (sym (not_found is_running c.ready none t
      (follows.ready.there t (filter_member is_ready z.tasks t it.0 ready))) ∙ it.1)

  -- wherever the course is kept of, the same job runs
  pub one_runs : (J : Instance) (z : State) → Follows c J z → (K : Instance) (y : State) → Follows c K y
      → (t u : Task) → running z ≡ Some t → running y ≡ Some u → t ≡ u
  one_runs J z follows K y others t u here there =
      let it : IsMember t z.tasks × (is_running t ≡ true) = found is_running z.tasks t here in
      let ready : is_ready t ≡ true = passes is_ready t Running true (is_running_role t it.1) refl in
      let kept : IsMember t c.ready = follows.ready.there t (filter_member is_ready z.tasks t it.0 ready) in
      let other : IsMember t y.tasks × (is_ready t ≡ true) = member_filter _ _ _ (others.ready.back t kept) in
      some_same t u (sym (runner y others.keeps.sound t other.0 (is_running_role t it.1)) ∙ there)
