-- A step of a run with sections: the job that it completes is finished, a section under way is that of a job that runs,
-- is held or was taken, and each job pays.
use Rattle.std.proofs.Common.{◌≡◌, ℕ, zero, suc, ◌+◌, ◌≤◌, ◌<◌, ◌⊎◌, inl, inr, List, ◌∷◌, refl, sym, ap, ◌∙◌}
use Rattle.std.proofs.Common.{map, nat_le, ◌-◌, ◌==◌}
use Rattle.dover_model.specs.declared.events.Event.TheVariants.{Preempt, Take}
use Rattle.dover_model.proofs.lists.Members.{map_member}
use Rattle.dover_model.proofs.steps.Kept.{end_same}
use Rattle.std.proofs.Common.{subst, Bool, true, false, cond, arith, eqb, nat_lt, Option, Some, None}
use Rattle.std.proofs.Common.{sum_by, filter, eqb-true}
use Rattle.std.specs.Bool.{then_some}
use Rattle.std.specs.List.{list_all}
use Rattle.std.proofs.lemmas.Bool.{eq-eqb, ne_eqb, le-leb, lt-ltb, and_parts, and_from}
use Rattle.std.proofs.lemmas.List.Sums.{sum_by-cons}
use Rattle.dover_model.specs.declared.events.Role.{Role}
use Rattle.dover_model.specs.declared.events.Role.TheVariants.{Coming, Fresh, Waiting, Held, Running, Done, Gone}
use Rattle.dover_model.specs.declared.events.Event.TheVariants.{Complete, End}
use Rattle.dover_model.specs.declared.events.Task.{Task}
use Rattle.dover_model.specs.Common.{Instance, IsValid, numbered, State}
use Rattle.dover_model.specs.Common.{is_done, is_over, is_running, running, left, value_sum, Move, Prints}
use Rattle.dover_model.specs.Common.{Waits}
use Rattle.dover_model.specs.Common.{Ticks, step, after, ◌or_else◌, with_role, role_after, displaced, ticked, Step}
use Rattle.dover_model.specs.Common.{number_running, step_at, role_then}
use Rattle.dover_model.specs.Common.{is_complete, is_busy_tick, gets, IsMember, Each, NoneRuns, Keeps, one_if}
use Rattle.task_laws.specs.Switches.{is_complete_of}
use Rattle.task_laws.specs.Switches.{is_preempted, is_taken_from}
use Rattle.task_laws.specs.Forward.{completes_next}
use Rattle.task_laws.specs.Sections.{Sections, AreSections, ArePaid, Real, section_left, works}
use Rattle.task_laws.specs.Sections.{works_if_any, real_tick}
use Rattle.task_laws.specs.Sections.{real_after, is_finished, is_done_early}
use Rattle.dover_model.proofs.lists.Members.{on_map, found}
use Rattle.dover_model.proofs.steps.Roles.{passes, is_running_role, one_number}
use Rattle.dover_model.proofs.steps.Deeds.{Deed, Completed, Resumed, Started, Began, Preempted, Stayed, Arrived, Taken}
use Rattle.dover_model.proofs.steps.Deeds.{Abandoned, Rested}
use Rattle.dover_model.proofs.steps.Kept.{step_deed}
use Rattle.dover_model.proofs.finishes.Readiness.{runner}
use Rattle.dover_model.proofs.runs.Once.{rest_of, rest_fails}
use Rattle.task_laws.proofs.switches.OneJob.{alive, on, Turned, next, next_there}
use Rattle.task_laws.proofs.switches.Switching.{step_turned, job_there, IsPrompt, deed_prompt, rest_prompt}
use Rattle.task_laws.proofs.switches.Switching.{numbered_there}
use Rattle.dover_model.proofs.bound.Calculus.{heavy_mono, heavy_more}
use Rattle.dover_model.proofs.steps.Loads.{Fits}
use Rattle.dover_model.proofs.steps.Moves.{says}
use Rattle.dover_model.proofs.steps.Ticking.{Quiet}
use Rattle.dover_model.specs.Common.{is_heavy, privileged, is_privileged, latest_start}
use Rattle.dover_model.proofs.lists.Members.{term_le_sum, filter_member}
use Rattle.dover_model.proofs.steps.Roles.{is_privileged_role}
use Rattle.dover_model.proofs.lists.Tests.{never}
use Rattle.task_laws.proofs.switches.SectionTicks.{some_left, cost, blocked, Pays, Ends, Stands, finished_from}
use Rattle.task_laws.proofs.switches.SectionTicks.{unblocked_off, blocked_on, blocked_most, tick_more, tick_few}
use Rattle.task_laws.proofs.switches.SectionTicks.{tick_still, Goes, running_tick}

-- a step that completes a job is a completion
complete_any : (n : ℕ) (m : Move) → is_complete_of n m ≡ true → is_complete m ≡ true
complete_any n (Prints (Complete at m)) e = refl
complete_any n _ e = never e

-- a job is on where it runs
on_runs : (t : Task) → on t.role ≡ one_if (is_running t)
on_runs t = by_role t.role refl where
  by_role : (role : Role) → t.role ≡ role → on t.role ≡ one_if (is_running t)
  by_role Running e = ap on e ∙ sym (ap one_if (passes is_running t Running true e refl))
  by_role role e = ap on e ∙ sym (ap one_if (passes is_running t role false e refl))

-- a job is alive or not
alive_most : (role : Role) → alive role ≤ 1
alive_most Done = omega arith
alive_most Gone = omega arith
alive_most _ = omega arith

module _ (k : Sections) (within : AreSections k) (start take : ℕ → ℕ) (J : Instance) (valid : IsValid J)
    (paid : ArePaid J k start take) where
  -- the job has no laxity, and its value is heavy against that of the other
  abbrev pub Owes : ℕ → Task → Task → Type 0
  Owes clock i t = (is_heavy J.rules.ratio t.job.value i.job.value ≡ true) × (clock + left t ≡ t.job.deadline)

  -- whose section is under way: that of a job that runs or is held, or the one that runs took, and owes for it
  abbrev pub Owner : ℕ → List Task → Real → Type 0
  Owner clock tasks r = 0 < section_left k r → (i : Task) × IsMember i tasks × (i.number ≡ r.last)
      × ((is_privileged i ≡ true) ⊎ Each (λ t. t.role ≡ Running → Owes clock i t) tasks)

  module _ (s : State) (keeps : Keeps J s) (r : Real) (xs : List Step)
      (stands : Stands k within start take s r (step_at J.rules s ∷ xs))
      (owner : Owner s.clock s.tasks r) (prompt : IsPrompt s)
      (early : is_done_early (step_at J.rules s) ≡ true → is_finished k r (number_running s) ≡ true) where
    -- a job under its number
    there : (t : Task) → IsMember t s.tasks → IsMember (t.number, t.job) (numbered J)
    there t member = numbered_there J valid s keeps t member

    -- a running or held job was released, and is due no sooner than the one that runs
    privileged_late : (t i : Task) → IsMember t s.tasks → t.role ≡ Running → IsMember i s.tasks
        → is_privileged i ≡ true → (i.job.release ≤ s.clock) × (t.job.deadline ≤ i.job.deadline)
    privileged_late t i member runs i_member active = by_role (is_privileged_role i active) where
      by_role : (i.role ≡ Running) ⊎ (i.role ≡ Held)
          → (i.job.release ≤ s.clock) × (t.job.deadline ≤ i.job.deadline)
      by_role (inl e) = (
        says s keeps.sound i i_member Running e,
        let same : t ≡ i = one_number 0 s.tasks keeps.sound.numbered t i member i_member
            (keeps.sound.one_runs t i member i_member runs e) in
            omega (arith, ap (λ (x : Task). x.job.deadline) same),
      )
      by_role (inr e) = (
        (says s keeps.sound i i_member Held e).1,
        omega (arith, keeps.sound.running_first t i member i_member runs e),
      )

    -- one that runs without laxity lets none before it
    none_fits : (t f i : Task) → IsMember t s.tasks → t.role ≡ Running → IsMember f s.tasks → f.role ≡ Fresh
        → Fits (left f) s → Each (λ u. u.role ≡ Running → Owes s.clock i u) s.tasks → ⊥
    none_fits t f i member runs f_member fresh room owes = omega (
      arith,
      room t member (passes is_privileged t Running true runs refl),
      (owes t member runs).1,
      (says s keeps.sound f f_member Fresh fresh).1,
    )

    -- the job that preempts pays for the section
    starts_most : (t f : Task) → IsMember t s.tasks → t.role ≡ Running → IsMember f s.tasks → f.role ≡ Fresh
        → f.job.deadline < t.job.deadline → Fits (left f) s → section_left k r ≤ start f.number
    starts_most t f member runs f_member fresh before room = by_left (section_left k r) refl where
      by_owner : (i : Task) → IsMember i s.tasks → i.number ≡ r.last
          → (is_privileged i ≡ true) ⊎ Each (λ u. u.role ≡ Running → Owes s.clock i u) s.tasks
          → section_left k r ≤ start f.number
      by_owner i i_member is (inl active) =
          let late : (i.job.release ≤ s.clock) × (t.job.deadline ≤ i.job.deadline) =
          privileged_late t i member runs i_member active in
          subst (λ n. k.inside n (r.got r.last) ≤ start f.number) is
          (paid.starts (i.number, i.job) (f.number, f.job) (r.got r.last) (there i i_member) (there f f_member)
          (and_from (nat_le i.job.release f.job.release) (nat_lt f.job.deadline i.job.deadline)
          (le-leb _ _ (omega (arith, late.0, prompt f f_member fresh)))
          (lt-ltb _ _ (omega (arith, late.1, before)))))
      by_owner i i_member is (inr owes) = absurd (none_fits t f i member runs f_member fresh room owes)

      by_left : (l : ℕ) → section_left k r ≡ l → section_left k r ≤ start f.number
      by_left zero e = omega (arith, e)
      by_left (suc more) e =
          let it : (i : Task) × IsMember i s.tasks × (i.number ≡ r.last)
          × ((is_privileged i ≡ true) ⊎ Each (λ u. u.role ≡ Running → Owes s.clock i u) s.tasks) =
          owner (omega (arith, e)) in
          by_owner it.0 it.1 it.2 it.3

    -- what is heavy against all that run and are held is heavy against the owner
    heavy_owner : (t x i : Task) → IsMember t s.tasks → t.role ≡ Running → IsMember i s.tasks
        → is_heavy J.rules.ratio x.job.value (value_sum (privileged s)) ≡ true
        → (is_privileged i ≡ true) ⊎ Each (λ u. u.role ≡ Running → Owes s.clock i u) s.tasks
        → is_heavy J.rules.ratio x.job.value i.job.value ≡ true
    heavy_owner t x i member runs i_member heavy (inl active) =
        heavy_mono J.rules.ratio x.job.value i.job.value (value_sum (privileged s))
        (term_le_sum (λ (u : Task). u.job.value) (privileged s) i
        (filter_member is_privileged s.tasks i i_member active)) heavy
    heavy_owner t x i member runs i_member heavy (inr owes) =
        let part : t.job.value ≤ value_sum (privileged s) =
        term_le_sum (λ (u : Task). u.job.value) (privileged s) t
        (filter_member is_privileged s.tasks t member (passes is_privileged t Running true runs refl)) in
        let more : i.job.value < t.job.value =
        heavy_more J.rules.ratio t.job.value i.job.value (owes t member runs).0 in
        heavy_mono J.rules.ratio x.job.value i.job.value (value_sum (privileged s))
        (omega (arith, part, more)) heavy

    -- the job that takes pays for the section
    takes_most : (t x : Task) → IsMember t s.tasks → t.role ≡ Running → IsMember x s.tasks
        → is_heavy J.rules.ratio x.job.value (value_sum (privileged s)) ≡ true → section_left k r ≤ take x.number
    takes_most t x member runs x_member heavy = by_left (section_left k r) refl where
      by_left : (l : ℕ) → section_left k r ≡ l → section_left k r ≤ take x.number
      by_left zero e = omega (arith, e)
      by_left (suc more) e =
          let it : (i : Task) × IsMember i s.tasks × (i.number ≡ r.last)
          × ((is_privileged i ≡ true) ⊎ Each (λ u. u.role ≡ Running → Owes s.clock i u) s.tasks) =
          owner (omega (arith, e)) in
          subst (λ n. k.inside n (r.got r.last) ≤ take x.number) it.2
          (paid.takes (it.0.number, it.0.job) (x.number, x.job) (r.got r.last) (there it.0 it.1) (there x x_member)
          (heavy_owner t x it.0 member runs it.1 heavy it.3))

    -- a job that runs is the one that is named
    named : (t : Task) → IsMember t s.tasks → t.role ≡ Running → number_running s ≡ t.number
    named t member runs = ap (λ (o : Option Task). elim o [ None ↦ 4_000_000_000 | Some x ↦ x.number ])
        (runner s keeps.sound t member runs)

    -- and its tick is a busy one
    busy : (t : Task) → IsMember t s.tasks → t.role ≡ Running
        → is_busy_tick (record { before = s; move = Ticks }) ≡ true
    busy t member runs = ap (λ (o : Option Task). elim o [ None ↦ false | Some x ↦ true ])
        (runner s keeps.sound t member runs)

    -- a job that is done ran
    completed : (other : Move) → ((n : ℕ) → is_complete_of n other ≡ false) → (m : Move)
        → Deed J.rules.ratio s other m → (n : ℕ) → is_complete_of n m ≡ true
        → (t : Task) × IsMember t s.tasks × (t.role ≡ Running) × (t.number ≡ n)
    completed other rests m (Completed t member runs) n e = (t, member, runs, eqb-true _ _ e)
    completed other rests m (Rested quiet) n e = never (sym (rests n) ∙ e)
    completed other rests m _ n e = never e

    -- the deed of the step
    the_deed : Deed J.rules.ratio s (rest_of s) (step J.rules s)
    the_deed = step_deed J valid s keeps J.rules

    -- it is finished then
    pub done_finished : (n : ℕ) → is_complete_of n (step J.rules s) ≡ true → is_finished k r n ≡ true
    done_finished n e =
        let it : (t : Task) × IsMember t s.tasks × (t.role ≡ Running) × (t.number ≡ n) =
        completed (rest_of s) (λ l. rest_fails (is_complete_of l) (λ value. refl) refl s) (step J.rules s)
        the_deed n e
        in
        subst (λ l. is_finished k r l ≡ true) it.3 (by_pays it.0 it.1 it.2
        (subst (λ l. is_complete_of l (step J.rules s) ≡ true) (sym it.3) e)
        (stands.pays it.0 it.1 (ap alive it.2))) where
          by_left : (t : Task) → IsMember t s.tasks → t.role ≡ Running
              → is_complete_of t.number (step J.rules s) ≡ true → Pays k within start take r (step_at J.rules s ∷ xs) t
              → (l : ℕ) → left t ≡ l → is_finished k r t.number ≡ true
          by_left t member runs e2 pays zero none =
              let low : k.own t.number + start t.number + take t.number ≤ t.job.work =
              paid.budgets (t.number, t.job)
              (subst (λ jobs. IsMember (t.number, t.job) (numbered (record { rules = J.rules; jobs = jobs })))
              keeps.jobs (job_there 0 s.tasks keeps.sound.numbered t member)) in
              let all : k.own t.number ≤ r.got t.number = omega (arith, low, none, pays) in
              finished_from k within start take r t.number (by_last (eqb r.last t.number) refl all low) all where
                by_last : (b : Bool) → eqb r.last t.number ≡ b → k.own t.number ≤ r.got t.number
                    → k.own t.number + start t.number + take t.number ≤ t.job.work → section_left k r ≡ 0
                by_last true e3 all low = within.ends r.last (r.got r.last)
                    (subst (λ n. k.own n ≤ r.got n) (sym (eqb-true _ _ e3)) all)
                by_last false e3 all low = omega (
                  arith,
                  low,
                  none,
                  pays,
                  stands.few t.number,
                  blocked_on k within start take r t (passes is_running t Running true runs refl) e3,
                )
          by_left t member runs e2 pays (suc more) some = subst (λ n. is_finished k r n ≡ true)
              (named t member runs)
              (early (and_from _ _ (complete_any t.number (step J.rules s) e2)
              (ap (λ (o : Option Task). nat_lt 0 (elim o [ None ↦ 0 | Some x ↦ left x ]))
              (runner s keeps.sound t member runs) ∙ ap (nat_lt 0) some ∙ some_left more)))

          by_pays : (t : Task) → IsMember t s.tasks → t.role ≡ Running
              → is_complete_of t.number (step J.rules s) ≡ true
              → Pays k within start take r (step_at J.rules s ∷ xs) t
              ⊎ Ends k within start take r (step_at J.rules s ∷ xs) t
              → is_finished k r t.number ≡ true
          by_pays t member runs e2 (inl pays) = by_left t member runs e2 pays (left t) refl
          by_pays t member runs e2 (inr ends) = ends.1

    -- a job that runs is another one than one that doesn't
    apart : (t f : Task) → IsMember t s.tasks → IsMember f s.tasks → t.role ≡ Running → (f.role ≡ Running → ⊥)
        → eqb t.number f.number ≡ false
    apart t f member other runs off = ne_eqb _ _ (λ same. off (ap (λ (x : Task). x.role)
        (sym (one_number 0 s.tasks keeps.sound.numbered t f member other same)) ∙ runs))

    -- where one that runs behind the step was there, some job runs
    not_calm : (m : Move) → (t : Task) → IsMember t s.tasks → (next m t).role ≡ Running
        → NoneRuns (after s m).tasks → section_left k (real_after k r (record { before = s; move = m })) ≡ 0
    not_calm m t member runs none = absurd (none (next m t) (next_there s m t member) runs)

    -- the new role of the job that a test names
    new_role : (b : Bool) (new old : Role) → b ≡ true → cond b new old ≡ new
    new_role true new old e = refl
    new_role false new old e = never e

    old_role : (b : Bool) (new old : Role) → b ≡ false → cond b new old ≡ old
    old_role false new old e = refl
    old_role true new old e = never (sym e)

    -- behind each deed: where no job has the processor, no section is under way
    deed_calm : (other : Move)
        → (NoneRuns (after s other).tasks → section_left k (real_after k r
        (record { before = s; move = other })) ≡ 0)
        → (m : Move) → Deed J.rules.ratio s other m → ((n : ℕ) → is_complete_of n m ≡ true
        → is_finished k r n ≡ true)
        → NoneRuns (after s m).tasks → section_left k (real_after k r (record { before = s; move = m })) ≡ 0
    deed_calm other rests m (Completed t member runs) done none =
        eqb-true _ _ (and_parts _ _ (done t.number (eq-eqb _ _ refl))).0
    deed_calm other rests m (Resumed p member held free least why) done none =
        not_calm m p member (new_role _ Running p.role (eq-eqb _ _ refl)) none
    deed_calm other rests m (Started o member waiting free ahead room later) done none =
        not_calm m o member (new_role _ Running o.role (eq-eqb _ _ refl)) none
    deed_calm other rests m (Began f member fresh free behind) done none =
        not_calm m f member (new_role _ Running f.role (eq-eqb _ _ refl)) none
    deed_calm other rests m (Preempted t f member runs some f_member fresh before room) done none =
        not_calm m f f_member (new_role (eqb f.number f.number) Running (cond (eqb f.number t.number) Held f.role)
        (eq-eqb f.number f.number refl)) none
    deed_calm other rests m (Taken t x member runs some x_member waiting now stale heavy) done none =
        not_calm m x x_member (new_role (eqb x.number x.number) Running (displaced x.role)
        (eq-eqb x.number x.number refl)) none
    deed_calm other rests m (Stayed t f member runs some f_member fresh why) done none =
        not_calm m t member (old_role _ Waiting t.role (apart t f member f_member runs
        (λ e. let c : Fresh ≡ Running = sym fresh ∙ e in cc)) ∙ runs) none
    deed_calm other rests m (Abandoned t x member runs some x_member waiting now stale light) done none =
        not_calm m t member (old_role _ Gone t.role (apart t x member x_member runs
        (λ e. let c : Waiting ≡ Running = sym waiting ∙ e in cc)) ∙ runs) none
    deed_calm other rests m (Arrived c member comes now least stale busy behind) done none =
        stands.calm (λ t t_member runs. none (next m t) (next_there s m t t_member)
        (old_role _ Fresh t.role (apart t c t_member member runs
        (λ e. let d : Coming ≡ Running = sym comes ∙ e in cc)) ∙ runs))
    deed_calm other rests m (Rested quiet) done none = rests none

    -- so it is behind what is done where none of the first six cases applies
    rest_calm : NoneRuns (after s (rest_of s)).tasks
        → section_left k (real_after k r (record { before = s; move = rest_of s })) ≡ 0
    rest_calm = by_end (list_all is_over s.tasks) where
      end_move : Bool → Move
      end_move b = then_some b (Prints (End (value_sum (filter is_done s.tasks)))) or_else Ticks

      by_end : (b : Bool) → NoneRuns (after s (end_move b)).tasks
          → section_left k (real_after k r (record { before = s; move = end_move b })) ≡ 0
      by_end true none = stands.calm (λ t member runs.
          none (next (end_move true) t) (next_there s (end_move true) t member) runs)
      by_end false none = by_runner (running s) refl where
        by_runner : (o : Option Task) → running s ≡ o → section_left k (real_tick k o r) ≡ 0
        by_runner None e =
            tick_still k within start take r (stands.calm (λ t member runs.
            none (ticked t) (next_there s Ticks t member) runs))
        by_runner (Some t) e =
            let it : IsMember t s.tasks × (is_running t ≡ true) = found is_running s.tasks t e in
            absurd (none (ticked t) (next_there s Ticks t it.0) (is_running_role t it.1))

    -- a job that gets the processor finds no section, or pays for it
    deed_costs : (n : ℕ) (other : Move) → gets n other ≡ false → (m : Move) → Deed J.rules.ratio s other m
        → gets n m ≡ true
        → section_left k r ≤ cost k within start take n (record { before = s; move = m })
    deed_costs n other rests m (Resumed p member held free least why) e = omega (arith, stands.calm free)
    deed_costs n other rests m (Started o member waiting free ahead room later) e = omega (arith, stands.calm free)
    deed_costs n other rests m (Began f member fresh free behind) e = omega (arith, stands.calm free)
    deed_costs n other rests m (Preempted t f member runs some f_member fresh before room) e =
        subst (λ b. section_left k r ≤ cond b (start n) 0 + 0) (sym e)
        (omega (
          arith,
          subst (λ l. section_left k r ≤ start l) (eqb-true _ _ e)
              (starts_most t f member runs f_member fresh before room),
        ))
    deed_costs n other rests m (Taken t x member runs some x_member waiting now stale heavy) e =
        subst (λ b. section_left k r ≤ 0 + cond b (take n) 0) (sym e)
        (omega (
          arith,
          subst (λ l. section_left k r ≤ take l) (eqb-true _ _ e)
              (takes_most t x member runs x_member heavy),
        ))
    deed_costs n other rests m (Rested quiet) e = never (sym rests ∙ e)
    deed_costs n other rests m _ e = never e

    -- a printed step, or a wait, pays
    printed_pays : (x : Step) (t : Task) (new : Role) (g : Bool) → on new ≤ on t.role + one_if g
        → (g ≡ true → section_left k r ≤ cost k within start take t.number x) → Pays k within start take r (x ∷ xs) t
        → Pays k within start take r xs (with_role t new)
    printed_pays x t new g turned gets_by pays =
        by_runs (is_running (with_role t new)) (is_running t) refl refl where
          by_gain : (b : Bool) → g ≡ b → 1 ≤ one_if b → is_running (with_role t new) ≡ true
              → Pays k within start take r xs (with_role t new)
          by_gain false e some runs = absurd (omega (arith, some))
          by_gain true e some runs = omega (
            arith,
            pays,
            sum_by-cons (cost k within start take t.number) x xs,
            gets_by e,
            blocked_most k within start take r (with_role t new),
          )

          by_runs : (a b : Bool) → is_running (with_role t new) ≡ a → is_running t ≡ b
              → Pays k within start take r xs (with_role t new)
          by_runs false b e e2 = omega (
            arith,
            pays,
            sum_by-cons (cost k within start take t.number) x xs,
            unblocked_off k within start take r (with_role t new) e,
          )
          by_runs true true e e2 = omega (
            arith,
            pays,
            sum_by-cons (cost k within start take t.number) x xs,
            ap (λ b. cond b (cond (eqb r.last t.number) 0 (section_left k r)) 0) (e ∙ sym e2),
          )
          by_runs true false e e2 = by_gain g refl (omega (
            arith,
            turned,
            on_runs (with_role t new),
            on_runs t,
            ap one_if e,
            ap one_if e2,
          )) e

    -- so does a tick, or the job that has it is done next
    tick_pays : (t : Task) → IsMember t s.tasks
        → Pays k within start take r (record { before = s; move = Ticks } ∷ xs) t
        → (is_busy_tick (record { before = s; move = Ticks }) ≡ true
        → is_finished k (real_tick k (running s) r) (number_running s) ≡ true
        → completes_next (number_running s) xs ≡ true)
        → Pays k within start take (real_tick k (running s) r) xs (ticked t)
        ⊎ Ends k within start take (real_tick k (running s) r) xs (ticked t)
    tick_pays t member pays behind = by_runs (is_running t) refl where
      low : t.had + sum_by (cost k within start take t.number) xs + blocked k within start take r t
          ≤ r.got t.number + (start t.number + take t.number)
      low = omega (
        arith,
        pays,
        sum_by-cons (cost k within start take t.number) (record { before = s; move = Ticks }) xs,
      )

      had_by : (b : Bool) → is_running t ≡ b → (ticked t).had ≡ cond b (t.had + 1) t.had
      had_by b e = ap (λ c. cond c (t.had + 1) t.had) e

      by_runs : (b : Bool) → is_running t ≡ b
          → Pays k within start take (real_tick k (running s) r) xs (ticked t)
          ⊎ Ends k within start take (real_tick k (running s) r) xs (ticked t)
      by_runs false e = inl (omega (
        arith,
        low,
        had_by false e,
        unblocked_off k within start take (real_tick k (running s) r) (ticked t) e,
        tick_more k within start take r (running s) t.number,
      ))
      by_runs true e = by_goes (subst
          (λ o. Goes k within start take t (sum_by (cost k within start take t.number) xs) (real_tick k o r))
          (sym (runner s keeps.sound t member (is_running_role t e)))
          (running_tick k within start take r t (sum_by (cost k within start take t.number) xs) e low)) where
            by_goes : Goes k within start take t (sum_by (cost k within start take t.number) xs)
                (real_tick k (running s) r)
                → Pays k within start take (real_tick k (running s) r) xs (ticked t)
                ⊎ Ends k within start take (real_tick k (running s) r) xs (ticked t)
            by_goes (inl goes) = inl (omega (arith, goes, had_by true e))
            by_goes (inr over) =
                let is : number_running s ≡ t.number = named t member (is_running_role t e) in
                let done : is_finished k (real_tick k (running s) r) t.number ≡ true =
                finished_from k within start take (real_tick k (running s) r) t.number over.0 over.1 in
                inr (
                  subst (λ n. completes_next n xs ≡ true) is (behind (busy t member (is_running_role t e))
                      (subst (λ n. is_finished k
                      (real_tick k (running s) r) n ≡ true) (sym is) done)),
                  done,
                )

    -- so does each step
    step_pays : (m : Move) → Deed J.rules.ratio s (rest_of s) m → (t : Task) → IsMember t s.tasks
        → on (role_then m t) ≤ on t.role + one_if (gets t.number m)
        → (is_busy_tick (record { before = s; move = m }) ≡ true
        → is_finished k (real_after k r (record { before = s; move = m })) (number_running s) ≡ true
        → completes_next (number_running s) xs ≡ true)
        → Pays k within start take r (record { before = s; move = m } ∷ xs) t
        → Pays k within start take (real_after k r (record { before = s; move = m })) xs (next m t)
        ⊎ Ends k within start take (real_after k r (record { before = s; move = m })) xs (next m t)
    step_pays m deed t member turned behind pays = by_move m refl where
      costs : gets t.number m ≡ true
          → section_left k r ≤ cost k within start take t.number (record { before = s; move = m })
      costs e = deed_costs t.number (rest_of s) (rest_fails (gets t.number) (λ value. refl) refl s) m deed e

      by_move : (n : Move) → m ≡ n
          → Pays k within start take (real_after k r (record { before = s; move = n })) xs (next n t)
          ⊎ Ends k within start take (real_after k r (record { before = s; move = n })) xs (next n t)
      by_move (Prints e) is = inl (printed_pays (record { before = s; move = m }) t (role_then (Prints e) t)
          (gets t.number m) (subst (λ n. on (role_then n t) ≤ on t.role + one_if (gets t.number m)) is turned) costs
          pays)
      by_move (Waits w) is = inl (printed_pays (record { before = s; move = m }) t (role_then (Waits w) t)
          (gets t.number m) (subst (λ n. on (role_then n t) ≤ on t.role + one_if (gets t.number m)) is turned) costs
          pays)
      by_move Ticks is = tick_pays t member
          (subst (λ n. Pays k within start take r (record { before = s; move = n } ∷ xs) t) is pays)
          (subst (λ n. is_busy_tick (record { before = s; move = n }) ≡ true
          → is_finished k (real_after k r (record { before = s; move = n })) (number_running s) ≡ true
          → completes_next (number_running s) xs ≡ true) is behind)

    -- ---- whose section is under way behind a step

    -- one that isn't another keeps its role
    differs : (u g : Task) → IsMember u s.tasks → IsMember g s.tasks → is_privileged u ≡ true
        → is_privileged g ≡ false → eqb u.number g.number ≡ false
    differs u g member other active rests = ne_eqb _ _ (λ same. never (sym rests
        ∙ ap is_privileged (sym (one_number 0 s.tasks keeps.sound.numbered u g member other same)) ∙ active))

    still_active : (u : Task) (b : Bool) (new : Role) → b ≡ false → is_privileged u ≡ true
        → is_privileged (with_role u (cond b new u.role)) ≡ true
    still_active u false new e active = active
    still_active u true new e active = never (sym e)

    -- where one job that neither runs nor is held gets a role in which it doesn't run
    one_owner : (g : Task) → IsMember g s.tasks → is_privileged g ≡ false → (new : Role) → (new ≡ Running → ⊥)
        → Owner s.clock (map (λ u. with_role u (cond (eqb u.number g.number) new u.role)) s.tasks) r
    one_owner g g_member rests new off some = by_owner (owner some) where
      put : Task → Task
      put u = with_role u (cond (eqb u.number g.number) new u.role)

      ran_before : (u : Task) (b : Bool) → cond b new u.role ≡ Running → u.role ≡ Running
      ran_before u true e = absurd (off e)
      ran_before u false e = e

      by_owner : (i : Task) × IsMember i s.tasks × (i.number ≡ r.last)
          × ((is_privileged i ≡ true) ⊎ Each (λ t. t.role ≡ Running → Owes s.clock i t) s.tasks)
          → (i : Task) × IsMember i (map put s.tasks) × (i.number ≡ r.last)
          × ((is_privileged i ≡ true) ⊎ Each (λ t. t.role ≡ Running → Owes s.clock i t) (map put s.tasks))
      by_owner (i, member, is, inl active) = (
        put i,
        map_member put s.tasks i member,
        is,
        inl (still_active i (eqb i.number g.number) new (differs i g member g_member active rests) active),
      )
      by_owner (i, member, is, inr owes) = (
        put i,
        map_member put s.tasks i member,
        is,
        inr (on_map put (λ t. t.role ≡ Running → Owes s.clock (put i) t) s.tasks
            (λ u u_member e. owes u u_member (ran_before u (eqb u.number g.number) e))),
      )

    -- of a preemption
    preempt_owner : (t f : Task) → IsMember t s.tasks → t.role ≡ Running → IsMember f s.tasks → f.role ≡ Fresh
        → Fits (left f) s
        → Owner s.clock (after s (Prints (Preempt s.clock t.number f.number))).tasks r
    preempt_owner t f member runs f_member fresh room some = by_owner (owner some) where
      put : Task → Task
      put u = with_role u (cond (eqb u.number f.number) Running (cond (eqb u.number t.number) Held u.role))

      active_then : (u : Task) (a b : Bool) → is_privileged u ≡ true
          → is_privileged (with_role u (cond a Running (cond b Held u.role))) ≡ true
      active_then u true b active = refl
      active_then u false true active = refl
      active_then u false false active = active

      by_owner : (i : Task) × IsMember i s.tasks × (i.number ≡ r.last)
          × ((is_privileged i ≡ true) ⊎ Each (λ t. t.role ≡ Running → Owes s.clock i t) s.tasks)
          → (i : Task) × IsMember i (map put s.tasks) × (i.number ≡ r.last)
          × ((is_privileged i ≡ true) ⊎ Each (λ t. t.role ≡ Running → Owes s.clock i t) (map put s.tasks))
      by_owner (i, i_member, is, inl active) = (
        put i,
        map_member put s.tasks i i_member,
        is,
        inl (active_then i (eqb i.number f.number) (eqb i.number t.number) active),
      )
      by_owner (i, i_member, is, inr owes) = absurd (none_fits t f i member runs f_member fresh room owes)

    -- and of a take
    take_owner : (t x : Task) → IsMember t s.tasks → t.role ≡ Running → IsMember x s.tasks → x.role ≡ Waiting
        → latest_start x ≡ s.clock
        → is_heavy J.rules.ratio x.job.value (value_sum (privileged s)) ≡ true
        → Owner s.clock (after s (Prints (Take s.clock t.number x.number))).tasks r
    take_owner t x member runs x_member waiting now heavy some = by_owner (owner some) where
      put : Task → Task
      put u = with_role u (cond (eqb u.number x.number) Running (displaced u.role))

      stopped : (role : Role) → displaced role ≡ Running → ⊥
      stopped Held e = let c : Waiting ≡ Running = e in cc
      stopped Running e = let c : Waiting ≡ Running = e in cc
      stopped Coming e = let c : Coming ≡ Running = e in cc
      stopped Fresh e = let c : Fresh ≡ Running = e in cc
      stopped Waiting e = let c : Waiting ≡ Running = e in cc
      stopped Done e = let c : Done ≡ Running = e in cc
      stopped Gone e = let c : Gone ≡ Running = e in cc

      late : s.clock + left x ≡ x.job.deadline
      late = omega (
        arith,
        now,
        (says s keeps.sound x x_member Waiting waiting).2,
        (says s keeps.sound x x_member Waiting waiting).0,
      )

      by_owner : (i : Task) × IsMember i s.tasks × (i.number ≡ r.last)
          × ((is_privileged i ≡ true) ⊎ Each (λ t. t.role ≡ Running → Owes s.clock i t) s.tasks)
          → (i : Task) × IsMember i (map put s.tasks) × (i.number ≡ r.last)
          × ((is_privileged i ≡ true) ⊎ Each (λ t. t.role ≡ Running → Owes s.clock i t) (map put s.tasks))
      by_owner (i, i_member, is, why) = (
        put i,
        map_member put s.tasks i i_member,
        is,
        inr (on_map put (λ t. t.role ≡ Running → Owes s.clock (put i) t) s.tasks
            (λ u u_member e. by_number u u_member (eqb u.number x.number) refl e)),
      ) where
        by_number : (u : Task) → IsMember u s.tasks → (b : Bool) → eqb u.number x.number ≡ b
            → cond b Running (displaced u.role) ≡ Running → Owes s.clock (put i) (put u)
        by_number u u_member true same e =
            subst (λ v. Owes s.clock (put i) (put v))
            (one_number 0 s.tasks keeps.sound.numbered x u x_member u_member (sym (eqb-true _ _ same)))
            (heavy_owner t x i member runs i_member heavy why, late)
        by_number u u_member false same e = absurd (stopped u.role e)

    -- of a tick
    tick_owner : Quiet s → Owner (s.clock + 1) (after s Ticks).tasks (real_tick k (running s) r)
    tick_owner quiet = by_left (section_left k r) refl where
      ticked_owes : (i u : Task) → 1 ≤ left u → is_running u ≡ true → Owes s.clock i u
          → Owes (s.clock + 1) (ticked i) (ticked u)
      ticked_owes i u some runs owes = (
        owes.0,
        omega (arith, owes.1, some, ap (λ b. u.job.work - cond b (u.had + 1) u.had) runs),
      )

      by_owner : (i : Task) × IsMember i s.tasks × (i.number ≡ r.last)
          × ((is_privileged i ≡ true) ⊎ Each (λ t. t.role ≡ Running → Owes s.clock i t) s.tasks)
          → (i : Task) × IsMember i (map ticked s.tasks) × (i.number ≡ r.last)
          × ((is_privileged i ≡ true) ⊎ Each (λ t. t.role ≡ Running → Owes (s.clock + 1) i t) (map ticked s.tasks))
      by_owner (i, i_member, is, inl active) = (ticked i, map_member ticked s.tasks i i_member, is, inl active)
      by_owner (i, i_member, is, inr owes) = (
        ticked i,
        map_member ticked s.tasks i i_member,
        is,
        inr (on_map ticked (λ t. t.role ≡ Running → Owes (s.clock + 1) (ticked i) t) s.tasks
            (λ u u_member e. ticked_owes i u (quiet.busy u u_member e) (passes is_running u Running true e refl)
            (owes u u_member e))),
      )

      by_runner : (o : Option Task) → running s ≡ o → section_left k r ≡ 0
          → Owner (s.clock + 1) (after s Ticks).tasks (works_if_any k o r)
      by_runner None e none = λ some. absurd (omega (arith, none, some))
      by_runner (Some t) e none = by_work (nat_lt (r.got t.number) (k.own t.number)) where
        by_work : (b : Bool) → Owner (s.clock + 1) (after s Ticks).tasks (cond b (works t.number r) r)
        by_work false = λ some. absurd (omega (arith, none, some))
        by_work true = λ some.
            let it : IsMember t s.tasks × (is_running t ≡ true) = found is_running s.tasks t e in (
              ticked t,
              map_member ticked s.tasks t it.0,
              refl,
              inl (passes is_privileged t Running true (is_running_role t it.1) refl),
            )

      by_left : (l : ℕ) → section_left k r ≡ l
          → Owner (s.clock + 1) (after s Ticks).tasks (cond (nat_lt 0 l) (works r.last r)
          (works_if_any k (running s) r))
      by_left zero e = by_runner (running s) refl e
      by_left (suc more) e = subst (λ b. Owner (s.clock + 1) (after s Ticks).tasks
          (cond b (works r.last r) (works_if_any k (running s) r))) (sym (some_left more))
          (λ some. by_owner (owner (omega (arith, e))))

    no_section : section_left k r ≡ 0 → 0 < section_left k r → ⊥
    no_section none some = omega (arith, none, some)

    -- so it is behind each deed
    deed_owner : (other : Move)
        → (Quiet s → Owner (after s other).clock (after s other).tasks
        (real_after k r (record { before = s; move = other })))
        → (m : Move) → Deed J.rules.ratio s other m → ((n : ℕ) → is_complete_of n m ≡ true
        → is_finished k r n ≡ true)
        → Owner (after s m).clock (after s m).tasks (real_after k r (record { before = s; move = m }))
    deed_owner other rests m (Completed t member runs) done = λ some. absurd (no_section
        (eqb-true (section_left k r) 0 (and_parts (section_left k r == 0) (nat_le (k.own t.number) (r.got t.number))
        (done t.number (eq-eqb t.number t.number refl))).0) some)
    deed_owner other rests m (Resumed p member held free least why) done =
        λ some. absurd (no_section (stands.calm free) some)
    deed_owner other rests m (Started o member waiting free ahead room later) done =
        λ some. absurd (no_section (stands.calm free) some)
    deed_owner other rests m (Began f member fresh free behind) done =
        λ some. absurd (no_section (stands.calm free) some)
    deed_owner other rests m (Preempted t f member runs some f_member fresh before room) done =
        preempt_owner t f member runs f_member fresh room
    deed_owner other rests m (Taken t x member runs some x_member waiting now stale heavy) done =
        take_owner t x member runs x_member waiting now heavy
    deed_owner other rests m (Stayed t f member runs some f_member fresh why) done =
        one_owner f f_member (passes is_privileged f Fresh false fresh refl) Waiting
        (λ e. let c : Waiting ≡ Running = e in cc)
    deed_owner other rests m (Abandoned t x member runs some x_member waiting now stale light) done =
        one_owner x x_member (passes is_privileged x Waiting false waiting refl) Gone
        (λ e. let c : Gone ≡ Running = e in cc)
    deed_owner other rests m (Arrived c member comes now least stale busy behind) done =
        one_owner c member (passes is_privileged c Coming false comes refl) Fresh
        (λ e. let d : Fresh ≡ Running = e in cc)
    deed_owner other rests m (Rested quiet) done = rests quiet

    -- and behind what is done where none of the first six cases applies
    rest_owner : Quiet s → Owner (after s (rest_of s)).clock (after s (rest_of s)).tasks
        (real_after k r (record { before = s; move = rest_of s }))
    rest_owner quiet = by_end (list_all is_over s.tasks) where
      end_move : Bool → Move
      end_move b = then_some b (Prints (End (value_sum (filter is_done s.tasks)))) or_else Ticks

      by_end : (b : Bool) → Owner (after s (end_move b)).clock (after s (end_move b)).tasks
          (real_after k r (record { before = s; move = end_move b }))
      by_end true = subst (λ (tasks : List Task). Owner s.clock tasks r)
          (sym (end_same s (value_sum (filter is_done s.tasks)))) owner
      by_end false = tick_owner quiet

    pub owner_then : Owner (after s (step J.rules s)).clock (after s (step J.rules s)).tasks
        (real_after k r (step_at J.rules s))
    owner_then = deed_owner (rest_of s) rest_owner (step J.rules s) the_deed done_finished

    pub prompt_then : IsPrompt (after s (step J.rules s))
    prompt_then = deed_prompt s keeps.sound prompt J.rules.ratio (rest_of s) (rest_prompt s prompt) (step J.rules s)
        the_deed

    -- and so the state behind the step stands
    pub stands_then : (is_busy_tick (step_at J.rules s) ≡ true
        → is_finished k (real_after k r (step_at J.rules s)) (number_running s) ≡ true
        → completes_next (number_running s) xs ≡ true)
        → Stands k within start take (after s (step J.rules s)) (real_after k r (step_at J.rules s)) xs
    stands_then behind = record {
      calm = deed_calm (rest_of s) rest_calm (step J.rules s) the_deed done_finished;
      few = few_then (step J.rules s);
      pays = each_then (step J.rules s) refl;
    } where
      few_then : (m : Move) → (n : ℕ) → (real_after k r (record { before = s; move = m })).got n ≤ k.own n
      few_then (Prints e) = stands.few
      few_then (Waits w) = stands.few
      few_then Ticks = tick_few k within start take r (running s) stands.few

      one : (t : Task) → IsMember t s.tasks → alive (role_then (step J.rules s) t) ≡ 1
          → Pays k within start take (real_after k r (step_at J.rules s)) xs (next (step J.rules s) t)
          ⊎ Ends k within start take (real_after k r (step_at J.rules s)) xs (next (step J.rules s) t)
      one t member lives = by_pays (stands.pays t member
          (omega (arith, turned.alive, lives, alive_most t.role))) where
            turned : Turned t.role (role_then (step J.rules s) t) (gets t.number (step J.rules s))
                (is_preempted t.number (step J.rules s)) (is_taken_from t.number (step J.rules s))
                (is_complete_of t.number (step J.rules s))
            turned = step_turned J valid t.number s keeps t member refl

            by_pays : Pays k within start take r (step_at J.rules s ∷ xs) t
                ⊎ Ends k within start take r (step_at J.rules s ∷ xs) t
                → Pays k within start take (real_after k r (step_at J.rules s)) xs (next (step J.rules s) t)
                ⊎ Ends k within start take (real_after k r (step_at J.rules s)) xs (next (step J.rules s) t)
            by_pays (inl pays) = step_pays (step J.rules s) the_deed t member turned.on behind pays
            by_pays (inr ends) =
                absurd (omega (arith, turned.alive, lives, alive_most t.role, ap one_if ends.0))

      each_then : (m : Move) → step J.rules s ≡ m
          → Each (λ t. alive t.role ≡ 1 → Pays k within start take (real_after k r (step_at J.rules s)) xs t
          ⊎ Ends k within start take (real_after k r (step_at J.rules s)) xs t) (after s m).tasks
      each_then (Prints e) is = on_map (λ u. with_role u (role_after e u.number u.role))
          (λ t. alive t.role ≡ 1 → Pays k within start take (real_after k r (step_at J.rules s)) xs t
          ⊎ Ends k within start take (real_after k r (step_at J.rules s)) xs t) s.tasks
          (λ t member lives. subst (λ m. Pays k within start take (real_after k r (step_at J.rules s)) xs (next m t)
          ⊎ Ends k within start take (real_after k r (step_at J.rules s)) xs (next m t)) is
          (one t member (ap (λ m. alive (role_then m t)) is ∙ lives)))
      each_then (Waits w) is = on_map (λ u. with_role u (cond (eqb u.number w) Waiting u.role))
          (λ t. alive t.role ≡ 1 → Pays k within start take (real_after k r (step_at J.rules s)) xs t
          ⊎ Ends k within start take (real_after k r (step_at J.rules s)) xs t) s.tasks
          (λ t member lives. subst (λ m. Pays k within start take (real_after k r (step_at J.rules s)) xs (next m t)
          ⊎ Ends k within start take (real_after k r (step_at J.rules s)) xs (next m t)) is
          (one t member (ap (λ m. alive (role_then m t)) is ∙ lives)))
      each_then Ticks is = on_map ticked
          (λ t. alive t.role ≡ 1 → Pays k within start take (real_after k r (step_at J.rules s)) xs t
          ⊎ Ends k within start take (real_after k r (step_at J.rules s)) xs t) s.tasks
          (λ t member lives. subst (λ m. Pays k within start take (real_after k r (step_at J.rules s)) xs (next m t)
          ⊎ Ends k within start take (real_after k r (step_at J.rules s)) xs (next m t)) is
          (one t member (ap (λ m. alive (role_then m t)) is ∙ lives)))
