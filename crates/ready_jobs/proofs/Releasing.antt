-- The ready jobs at any place of a run: what step comes, and a job that is released.
use Rattle.std.proofs.Common.{◌≡◌, ℕ, ◌≤◌, ◌<◌, [], ◌∷◌, ◌++◌, inl, inr, length, refl, sym, ap, ◌∙◌, subst, true, false}
use Rattle.std.proofs.Common.{arith, filter, append-nil, length-append}
use Rattle.std.proofs.lemmas.List.Elements.{filter-append}
use Rattle.dover_model.specs.Common.{last_tick, JobFacts, Finish, Rules, bare, Instance, IsValid, State, is_coming}
use Rattle.dover_model.specs.Common.{is_done, is_over, value_sum, IsMember, Each, Keeps, is_ready, with_fresh}
use Rattle.dover_model.specs.declared.events.Task.{Task}
use Rattle.dover_model.proofs.lists.Members.{each_append}
use Rattle.dover_model.proofs.runs.Honest.{count_jobs}
use Rattle.waiting_pool.specs.Reordered.{IsReordered}
use Rattle.ready_jobs.specs.Course.{Course, Follows, fresh_job, with_release}
use Rattle.waiting_pool.proofs.Reordering.{same_order, both_parts}
use Rattle.ready_jobs.proofs.Courses.{follows_count}

module _ (c : Course) (J : Instance) (z : State) (follows : Follows c J z) where
  module _ (K : Instance) (j : JobFacts) (room : ℕ) (rules : K.rules ≡ J.rules) (valid : IsValid K)
      (keeps : Keeps K (with_fresh z c.jobs j)) (known : j.release ≤ last_tick) where
    -- the course with a job that is released
    pub release_follows : Follows (with_release c j room) K (with_fresh z c.jobs j)
    release_follows = record {
      valid = valid;
      keeps = keeps;
      rules = ap bare rules ∙ follows.rules;
      own = λ f m.
          let of_before : f.number < c.jobs = own_before f m in
          omega (
            arith,
            count_jobs (z.tasks ++ fresh_job c j ∷ []),
            ap length keeps.jobs,
            length-append z.tasks (fresh_job c j ∷ []),
            follows.jobs,
          );
      over = λ f m.
          let of_before : f.number < c.jobs = own_before f m in
          each_append (λ t. t.number ≡ f.number → is_over t ≡ true) z.tasks (fresh_job c j ∷ [])
          (follows.over f (subst (λ (r : Rules). IsMember f r.finishes) rules m)) (not_fresh f of_before);
      clock = refl;
      pressed = follows.pressed;
      ready = subst (λ ts. IsReordered ts (c.ready ++ fresh_job c j ∷ []))
          (sym (filter-append is_ready z.tasks (fresh_job c j ∷ [])))
          (both_parts _ _ _ _ follows.ready (same_order (fresh_job c j ∷ [])));
      jobs = omega (arith, length-append z.tasks (fresh_job c j ∷ []), follows.jobs);
      done = ap value_sum (filter-append is_done z.tasks (fresh_job c j ∷ []) ∙ append-nil (filter is_done z.tasks))
          ∙ follows.done;
      known = known;
      released = each_append (λ t. is_coming t ≡ false) z.tasks (fresh_job c j ∷ []) follows.released one_fresh;
    } where
      -- each finish is of a job that was there before
      own_before : (f : Finish) → IsMember f K.rules.finishes → f.number < c.jobs
      own_before f m = omega (
        arith,
        follows.own f (subst (λ (r : Rules). IsMember f r.finishes) rules m),
        follows_count c J z follows,
      )

      -- so none is of the new one
      not_fresh : (f : Finish) → f.number < c.jobs
          → Each (λ t. t.number ≡ f.number → is_over t ≡ true) (fresh_job c j ∷ [])
      not_fresh f low t (inr m) same = absurd m
      not_fresh f low t (inl e) same =
          let is : t.number ≡ c.jobs = ap (λ (u : Task). u.number) e in absurd (omega (arith, same, low, is))

      one_fresh : Each (λ t. is_coming t ≡ false) (fresh_job c j ∷ [])
      one_fresh t (inl e) = subst (λ u. is_coming u ≡ false) (sym e) refl
      one_fresh t (inr m) = absurd m
