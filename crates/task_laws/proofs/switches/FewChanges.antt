-- The most that the processor changes hands: of what all jobs could preempt and take, three things don't happen.
use Rattle.std.proofs.Common.{◌≡◌, ℕ, ◌+◌, ◌*◌, ◌≤◌, ◌<◌, ◌⊎◌, inl, inr, List, [], ◌∷◌, length, refl, sym}
use Rattle.std.proofs.Common.{ap, ◌∙◌, subst, Bool, true, false, cond, arith, eqb}
use Rattle.std.specs.Bool.{then_some}
use Rattle.std.specs.List.{count_by, sum_by, list_all, filter, enumerate_from}
use Rattle.std.specs.Prelude.{nat_lt}
use Rattle.std.proofs.lemmas.Bool.{eqb-true, eqb-false, eq-eqb, ne_eqb, cases_lt}
use Rattle.dover_model.specs.Common.{JobFacts, Fraction, Job}
use Rattle.dover_model.specs.declared.events.Role.{Role}
use Rattle.dover_model.specs.declared.events.Role.TheVariants.{Coming, Fresh, Waiting, Held, Running, Done, Gone}
use Rattle.dover_model.specs.declared.events.Event.TheVariants.{End}
use Rattle.dover_model.specs.declared.events.Task.{Task}
use Rattle.dover_model.specs.Common.{Instance, IsValid, numbered, State, opening, is_over, is_done}
use Rattle.dover_model.specs.Common.{is_privileged, value_sum, privileged, is_heavy, Move, Prints, Ticks, step}
use Rattle.dover_model.specs.Common.{after, ◌or_else◌, displaced, Step, run, step_at, role_then}
use Rattle.dover_model.specs.Common.{is_take_of, is_preempt_of, changes_hands, IsMember, Each, EachTwo, IsSound, Keeps}
use Rattle.dover_model.specs.Common.{one_if}
use Rattle.dover_model.proofs.lists.Members.{map_member, on_map, filter_member, sum_le, sum_plus, sum_zero, term_le_sum}
use Rattle.dover_model.proofs.lists.Members.{number_of}
use Rattle.dover_model.proofs.steps.Roles.{passes, one_number}
use Rattle.dover_model.proofs.bound.Calculus.{heavy_more}
use Rattle.dover_model.proofs.runs.Serving.{named_once}
use Rattle.dover_model.proofs.bound.Counting.{one, one_none, one_low}
use Rattle.dover_model.proofs.bound.Books.{Without, without, greatest}
use Rattle.dover_model.proofs.steps.Deeds.{Deed, Completed, Resumed, Started, Began, Preempted, Stayed, Arrived, Taken}
use Rattle.dover_model.proofs.steps.Deeds.{Abandoned, Rested}
use Rattle.dover_model.proofs.steps.Kept.{step_deed, opening_keeps, come_coming}
use Rattle.dover_model.proofs.runs.Ending.{run_is_whole}
use Rattle.dover_model.proofs.runs.Once.{takes_once, preempts_once, runs_complete}
use Rattle.dover_model.proofs.runs.Runs.{run_states}
use Rattle.dover_model.proofs.runs.Once.{rest_of, rest_fails}
use Rattle.task_laws.proofs.switches.OneJob.{young, next, next_number, next_role, same_task}
use Rattle.task_laws.proofs.switches.Switching.{step_turned}
use Rattle.task_laws.proofs.switches.Switching.{over_run_with, hits_named, preempts_some, takes_some}
use Rattle.task_laws.proofs.switches.Switching.{each_finds, deed_preempts, deed_takes, completes_few}
use Rattle.task_laws.proofs.switches.Switching.{count_all, length_enumerate, job_is, changes_parts}

-- ---- the first job is alone when it is released

-- where the first job isn't decided on, each other is to come
abbrev IsAlone : State → Type 0
IsAlone s = EachTwo (λ t u. t.number ≡ 0 → young t.role ≡ 1 → (u.number ≡ 0) ⊎ (u.role ≡ Coming)) s.tasks

-- what a job that is to come is behind a deed
module _ (s : State) (sound : IsSound s) (u : Task) (member : IsMember u s.tasks) (comes : u.role ≡ Coming) where
  -- another job gets a new role
  stays_coming : (r : Task) → IsMember r s.tasks → (new : Role) → (r.role ≡ Coming → ⊥)
      → cond (eqb u.number r.number) new u.role ≡ Coming
  stays_coming r r_member new other =
      ap (λ b. cond b new u.role)
      (ne_eqb u.number r.number (λ same. other
      (sym (ap (λ (x : Task). x.role) (one_number 0 s.tasks sound.numbered u r member r_member same)) ∙ comes)))
      ∙ comes

  -- the first to come, where none is fresh
  abbrev IsNext : Type 0
  IsNext = Each (λ t. t.role ≡ Coming → u.number ≤ t.number) s.tasks × Each (λ t. t.role ≡ Fresh → ⊥) s.tasks

  not_role : (r : Task) (role : Role) → r.role ≡ role → (role ≡ Coming → ⊥) → r.role ≡ Coming → ⊥
  not_role r role is other e = other (sym is ∙ e)

  -- it is still to come, or the next that is released
  deed_comes : (k : Fraction) (other : Move) → role_then other u ≡ Coming → (m : Move) → Deed k s other m
      → (role_then m u ≡ Coming) ⊎ IsNext
  deed_comes k other rests m (Completed r r_member runs) =
      inl (stays_coming r r_member Done (not_role r Running runs (λ e. cc)))
  deed_comes k other rests m (Resumed p p_member held none least why) =
      inl (stays_coming p p_member Running (not_role p Held held (λ e. cc)))
  deed_comes k other rests m (Started o o_member waiting none ahead fits later) =
      inl (stays_coming o o_member Running (not_role o Waiting waiting (λ e. cc)))
  deed_comes k other rests m (Began f f_member fresh none free) =
      inl (stays_coming f f_member Running (not_role f Fresh fresh (λ e. cc)))
  deed_comes k other rests m (Preempted r f r_member runs some f_member fresh before fits) =
      inl (ap (λ b. cond b Running (cond (eqb u.number r.number) Held u.role))
      (ne_eqb u.number f.number (λ same. not_role f Fresh fresh (λ e. cc)
      (sym (ap (λ (x : Task). x.role) (one_number 0 s.tasks sound.numbered u f member f_member same)) ∙ comes)))
      ∙ stays_coming r r_member Held (not_role r Running runs (λ e. cc)))
  deed_comes k other rests m (Stayed r f r_member runs some f_member fresh why) =
      inl (stays_coming f f_member Waiting (not_role f Fresh fresh (λ e. cc)))
  deed_comes k other rests m (Arrived c c_member is_coming now least stale busy free) =
      by_number (eqb u.number c.number) refl where
        by_number : (b : Bool) → eqb u.number c.number ≡ b → (cond b Fresh u.role ≡ Coming) ⊎ IsNext
        by_number false e = inl comes
        by_number true e = inr (
          subst (λ n. Each (λ t. t.role ≡ Coming → n ≤ t.number) s.tasks) (sym (eqb-true _ _ e)) least,
          stale,
        )
  deed_comes k other rests m (Taken r x r_member runs some x_member waiting now stale heavy) =
      inl (ap (λ b. cond b Running (displaced u.role))
      (ne_eqb u.number x.number (λ same. not_role x Waiting waiting (λ e. cc)
      (sym (ap (λ (y : Task). y.role) (one_number 0 s.tasks sound.numbered u x member x_member same)) ∙ comes)))
      ∙ ap displaced comes)
  deed_comes k other rests m (Abandoned r x r_member runs some x_member waiting now stale light) =
      inl (stays_coming x x_member Gone (not_role x Waiting waiting (λ e. cc)))
  deed_comes k other rests m (Rested quiet) = inl rests

-- a silent tick and End change no role
rest_comes : (s : State) (u : Task) → u.role ≡ Coming → role_then (rest_of s) u ≡ Coming
rest_comes s u comes = by_end (list_all is_over s.tasks) where
  by_end : (b : Bool)
      → role_then (then_some b (Prints (End (value_sum (filter is_done s.tasks)))) or_else Ticks) u ≡ Coming
  by_end true = comes
  by_end false = comes

-- a role that isn't decided on is one of two
young_role : (role : Role) → young role ≡ 1 → (role ≡ Coming) ⊎ (role ≡ Fresh)
young_role Coming e = inl refl
young_role Fresh e = inr refl
young_role _ e = absurd (let c : 0 ≡ 1 = e in omega arith)

young_most : (role : Role) → young role ≤ 1
young_most Coming = omega arith
young_most _ = omega arith

-- of each task behind a move
on_next : (s : State) (m : Move) (P : Task → Type 0) → Each (λ t. P (next m t)) s.tasks → Each P (after s m).tasks
on_next s Ticks P all = on_map (next Ticks) P s.tasks all
on_next s m P all = on_map (next m) P s.tasks all

module _ (J : Instance) (valid : IsValid J) where
  -- each step keeps the first job alone
  step_alone : (s : State) → Keeps J s → IsAlone s → IsAlone (after s (step J.rules s))
  step_alone s keeps alone t2 u2 t2_member u2_member =
      on_next s (step J.rules s)
      (λ t2. Each (λ u2. t2.number ≡ 0 → young t2.role ≡ 1 → (u2.number ≡ 0) ⊎ (u2.role ≡ Coming))
      (after s (step J.rules s)).tasks)
      (λ t mt. on_next s (step J.rules s)
      (λ u2. (next (step J.rules s) t).number ≡ 0 → young (next (step J.rules s) t).role ≡ 1
      → (u2.number ≡ 0) ⊎ (u2.role ≡ Coming)) (λ u mu. pair t u mt mu)) t2 t2_member u2 u2_member where
        pair : (t u : Task) → IsMember t s.tasks → IsMember u s.tasks → (next (step J.rules s) t).number ≡ 0
            → young (next (step J.rules s) t).role ≡ 1
            → ((next (step J.rules s) u).number ≡ 0) ⊎ ((next (step J.rules s) u).role ≡ Coming)
        pair t u mt mu is_first is_young = by_other (alone t u mt mu first was_young) where
          first : t.number ≡ 0
          first = sym (next_number (step J.rules s) t) ∙ is_first

          was_young : young t.role ≡ 1
          was_young = omega (
            arith,
            (step_turned J valid 0 s keeps t mt first).young,
            young_most t.role,
            ap young (next_role (step J.rules s) t),
            is_young,
          )

          by_other : (u.number ≡ 0) ⊎ (u.role ≡ Coming)
              → ((next (step J.rules s) u).number ≡ 0) ⊎ ((next (step J.rules s) u).role ≡ Coming)
          by_other (inl zero_too) = inl (next_number (step J.rules s) u ∙ zero_too)
          by_other (inr comes) = by_deed (deed_comes s keeps.sound u mu comes J.rules.ratio (rest_of s)
              (rest_comes s u comes) (step J.rules s) (step_deed J valid s keeps J.rules)) where
                by_deed : (role_then (step J.rules s) u ≡ Coming) ⊎ IsNext s keeps.sound u mu comes
                    → ((next (step J.rules s) u).number ≡ 0) ⊎ ((next (step J.rules s) u).role ≡ Coming)
                by_deed (inl still_comes) = inr (next_role (step J.rules s) u ∙ still_comes)
                by_deed (inr is_next) = by_young (young_role t.role was_young) where
                  by_young : (t.role ≡ Coming) ⊎ (t.role ≡ Fresh)
                      → ((next (step J.rules s) u).number ≡ 0) ⊎ ((next (step J.rules s) u).role ≡ Coming)
                  by_young (inl e) = inl (next_number (step J.rules s) u
                      ∙ (let low : u.number ≤ t.number = is_next.0 t mt e in omega (arith, first)))
                  by_young (inr e) = absurd (is_next.1 t mt e)

  -- so in each state of the run it is alone
  each_alone : Each (λ x. (x.move ≡ step J.rules x.before) × Keeps J x.before × IsAlone x.before) (run J)
  each_alone = run_states J valid J.rules IsAlone (λ s keeps alone on. step_alone s keeps alone) (run J)
      (opening J.jobs) (opening_keeps J) (λ t u mt mu first is_young. inr (come_coming 0 J.jobs u mu).0)
      (run_is_whole J valid)

  -- it doesn't preempt
  deed_first : (s : State) → IsSound s → IsAlone s → (k : Fraction) (other : Move) → is_preempt_of 0 other ≡ false
      → (m : Move) → Deed k s other m → is_preempt_of 0 m ≡ false
  deed_first s sound alone k other rests m (Preempted r f member runs some f_member fresh before fits) =
      ne_eqb f.number 0 (λ first. by_other first (alone f r f_member member first (ap young fresh))) where
        by_other : f.number ≡ 0 → (r.number ≡ 0) ⊎ (r.role ≡ Coming) → ⊥
        by_other first (inl same) =
            let e : Fresh ≡ Running = sym fresh ∙ ap (λ (x : Task). x.role)
            (one_number 0 s.tasks sound.numbered f r f_member member (first ∙ sym same)) ∙ runs in cc
        by_other first (inr comes) = let e : Running ≡ Coming = sym runs ∙ comes in cc
  deed_first s sound alone k other rests m (Rested quiet) = rests
  deed_first s sound alone k other rests m _ = refl

  first_never_preempts : count_by (λ x. is_preempt_of 0 x.move) (run J) ≡ 0
  first_never_preempts = sum_zero (λ x. one_if (is_preempt_of 0 x.move)) (run J)
      (λ x member. let it : (x.move ≡ step J.rules x.before) × Keeps J x.before × IsAlone x.before =
      each_alone x member in
      ap (λ m. one_if (is_preempt_of 0 m)) it.0
      ∙ ap one_if (deed_first x.before it.1.sound it.2 J.rules.ratio (rest_of x.before)
      (rest_fails (is_preempt_of 0) (λ value. refl) refl x.before) (step J.rules x.before)
      (step_deed J valid x.before it.1 J.rules)))

-- ---- jobs of greatest and of least value

-- it is to preempt or to take
abbrev may_stop : Role → ℕ
may_stop Coming = 1
may_stop Fresh = 1
may_stop Waiting = 1
may_stop Held = 0
may_stop Running = 0
may_stop Done = 0
may_stop Gone = 0

-- it waits
abbrev waits : Role → ℕ
waits Coming = 0
waits Fresh = 0
waits Waiting = 1
waits Held = 0
waits Running = 0
waits Done = 0
waits Gone = 0

module _ (s : State) (sound : IsSound s) (n : ℕ) (t : Task) (member : IsMember t s.tasks) (is_n : t.number ≡ n)
    (most : Each (λ u. u.job.value ≤ t.job.value) s.tasks) where
  -- where one job gets a new role that weighs no more
  one_less : (pot : Role → ℕ) (r : Task) → IsMember r s.tasks → (old new : Role) → r.role ≡ old → pot new ≤ pot old
      → pot (cond (eqb t.number r.number) new t.role) ≤ pot t.role
  one_less pot r m old new was less = by_number (eqb t.number r.number) refl where
    by_number : (b : Bool) → eqb t.number r.number ≡ b → pot (cond b new t.role) ≤ pot t.role
    by_number true e = omega (
      arith,
      less,
      ap pot (ap (λ (x : Task). x.role)
          (one_number 0 s.tasks sound.numbered t r member m (eqb-true _ _ e)) ∙ was),
    )
    by_number false e = omega arith

  -- a job of greatest value isn't displaced
  not_displaced : (k : Fraction) (x : Task) → IsMember x s.tasks
      → is_heavy k x.job.value (value_sum (privileged s)) ≡ true → is_privileged t ≡ true → ⊥
  not_displaced k x x_member heavy active =
      let more : value_sum (privileged s) < x.job.value = heavy_more k x.job.value (value_sum (privileged s)) heavy in
      let own : t.job.value ≤ value_sum (privileged s) =
      term_le_sum (λ (u : Task). u.job.value) (privileged s) t
      (filter_member is_privileged s.tasks t member active) in
      let low : x.job.value ≤ t.job.value = most x x_member in omega arith

  -- so a take weighs no more either
  take_less : (pot : Role → ℕ) → pot Running + 1 ≤ pot Waiting → (k : Fraction) (r x : Task) → IsMember x s.tasks
      → x.role ≡ Waiting → is_heavy k x.job.value (value_sum (privileged s)) ≡ true
      → pot (cond (eqb t.number x.number) Running (displaced t.role)) + one_if (eqb x.number n) ≤ pot t.role
  take_less pot falls k r x x_member waiting heavy = by_number (eqb x.number n) refl where
    by_role : (role : Role) → t.role ≡ role → pot (displaced role) ≤ pot role
    by_role Held e = absurd (not_displaced k x x_member heavy (passes is_privileged t Held true e refl))
    by_role Running e = absurd (not_displaced k x x_member heavy (passes is_privileged t Running true e refl))
    by_role _ e = omega arith

    by_number : (b : Bool) → eqb x.number n ≡ b
        → pot (cond (eqb t.number x.number) Running (displaced t.role)) + one_if b ≤ pot t.role
    by_number true e =
        omega (
          arith,
          falls,
          ap (λ b. pot (cond b Running (displaced t.role)))
              (eq-eqb t.number x.number (is_n ∙ sym (eqb-true _ _ e))),
          ap pot (ap (λ (y : Task). y.role) (same_task s sound n t member is_n x x_member (eqb-true _ _ e)) ∙ waiting),
        )
    by_number false e =
        omega (
          arith,
          by_role t.role refl,
          ap (λ b. pot (cond b Running (displaced t.role)))
              (ne_eqb t.number x.number (λ same. eqb-false _ _ e (sym same ∙ is_n))),
        )

  -- a job of greatest value preempts or takes, not both
  deed_greatest : (k : Fraction) (other : Move)
      → may_stop (role_then other t) + one_if (is_preempt_of n other) + one_if (is_take_of n other) ≤ may_stop t.role
      → (m : Move) → Deed k s other m
      → may_stop (role_then m t) + one_if (is_preempt_of n m) + one_if (is_take_of n m) ≤ may_stop t.role
  deed_greatest k other rests m (Completed r r_member runs) =
      omega (arith, one_less may_stop r r_member Running Done runs (omega arith))
  deed_greatest k other rests m (Resumed p p_member held none least why) =
      omega (arith, one_less may_stop p p_member Held Running held (omega arith))
  deed_greatest k other rests m (Started o o_member waiting none ahead fits later) =
      omega (arith, one_less may_stop o o_member Waiting Running waiting (omega arith))
  deed_greatest k other rests m (Began f f_member fresh none free) =
      omega (arith, one_less may_stop f f_member Fresh Running fresh (omega arith))
  deed_greatest k other rests m (Stayed r f r_member runs some f_member fresh why) =
      omega (arith, one_less may_stop f f_member Fresh Waiting fresh (omega arith))
  deed_greatest k other rests m (Arrived c c_member comes now least stale busy free) =
      omega (arith, one_less may_stop c c_member Coming Fresh comes (omega arith))
  deed_greatest k other rests m (Abandoned r x r_member runs some x_member waiting now stale light) =
      omega (arith, one_less may_stop x x_member Waiting Gone waiting (omega arith))
  deed_greatest k other rests m (Rested quiet) = rests
  deed_greatest k other rests m (Taken r x r_member runs some x_member waiting now stale heavy) =
      omega (arith, take_less may_stop (omega arith) k r x x_member waiting heavy)
  deed_greatest k other rests m (Preempted r f r_member runs some f_member fresh before fits) =
      by_number (eqb f.number n) refl where
        by_number : (b : Bool) → eqb f.number n ≡ b
            → may_stop (cond (eqb t.number f.number) Running (cond (eqb t.number r.number) Held t.role)) + one_if b
            + 0 ≤ may_stop t.role
        by_number true e = omega (
          arith,
          ap (λ b. may_stop (cond b Running (cond (eqb t.number r.number) Held t.role)))
              (eq-eqb t.number f.number (is_n ∙ sym (eqb-true _ _ e))),
          ap may_stop (ap (λ (y : Task). y.role)
              (same_task s sound n t member is_n f f_member (eqb-true _ _ e)) ∙ fresh),
        )
        by_number false e = omega (
          arith,
          ap (λ b. may_stop (cond b Running (cond (eqb t.number r.number) Held t.role)))
              (ne_eqb t.number f.number (λ same. eqb-false _ _ e (sym same ∙ is_n))),
          one_less may_stop r r_member Running Held runs (omega arith),
        )

  -- where it is the first job as well, it doesn't wait
  deed_greatest_first : n ≡ 0 → IsAlone s → (k : Fraction) (other : Move)
      → waits (role_then other t) + one_if (is_take_of n other) ≤ waits t.role
      → (m : Move) → Deed k s other m
      → waits (role_then m t) + one_if (is_take_of n m) ≤ waits t.role
  deed_greatest_first first alone k other rests m (Completed r r_member runs) =
      omega (arith, one_less waits r r_member Running Done runs (omega arith))
  deed_greatest_first first alone k other rests m (Resumed p p_member held none least why) =
      omega (arith, one_less waits p p_member Held Running held (omega arith))
  deed_greatest_first first alone k other rests m (Started o o_member waiting none ahead fits later) =
      omega (arith, one_less waits o o_member Waiting Running waiting (omega arith))
  deed_greatest_first first alone k other rests m (Began f f_member fresh none free) =
      omega (arith, one_less waits f f_member Fresh Running fresh (omega arith))
  deed_greatest_first first alone k other rests m (Arrived c c_member comes now least stale busy free) =
      omega (arith, one_less waits c c_member Coming Fresh comes (omega arith))
  deed_greatest_first first alone k other rests m (Abandoned r x r_member runs some x_member waiting now stale light) =
      omega (arith, one_less waits x x_member Waiting Gone waiting (omega arith))
  deed_greatest_first first alone k other rests m (Rested quiet) = rests
  deed_greatest_first first alone k other rests m (Taken r x r_member runs some x_member waiting now stale heavy) =
      omega (arith, take_less waits (omega arith) k r x x_member waiting heavy)
  deed_greatest_first first alone k other rests m (Preempted r f r_member runs some f_member fresh before fits) =
      by_numbers (eqb t.number f.number) (one_less waits r r_member Running Held runs (omega arith)) where
        by_numbers : (b : Bool) → waits (cond (eqb t.number r.number) Held t.role) ≤ waits t.role
            → waits (cond b Running (cond (eqb t.number r.number) Held t.role)) + 0 ≤ waits t.role
        by_numbers true less = omega arith
        by_numbers false less = omega arith
  deed_greatest_first first alone k other rests m (Stayed r f r_member runs some f_member fresh why) =
      by_number (eqb t.number f.number) refl where
        busy : t.number ≡ f.number → (r.number ≡ 0) ⊎ (r.role ≡ Coming) → ⊥
        busy same (inl r_first) =
            let e : Fresh ≡ Running = sym fresh ∙ ap (λ (y : Task). y.role)
            (one_number 0 s.tasks sound.numbered f r f_member r_member (sym same ∙ is_n ∙ first ∙ sym r_first)) ∙ runs
            in cc
        busy same (inr comes) = let e : Running ≡ Coming = sym runs ∙ comes in cc

        by_number : (b : Bool) → eqb t.number f.number ≡ b → waits (cond b Waiting t.role) + 0 ≤ waits t.role
        by_number false e = omega arith
        by_number true e = absurd (busy (eqb-true _ _ e)
            (alone f r f_member r_member (sym (eqb-true _ _ e) ∙ is_n ∙ first) (ap young fresh)))

-- what is done where none of the first six cases applies weighs the same
rest_same : (s : State) (n : ℕ) (t : Task) (pot : Role → ℕ)
    → pot (role_then (rest_of s) t) + one_if (is_preempt_of n (rest_of s)) + one_if (is_take_of n (rest_of s))
    ≤ pot t.role
rest_same s n t pot = by_end (list_all is_over s.tasks) where
  by_end : (b : Bool)
      → pot (role_then (then_some b (Prints (End (value_sum (filter is_done s.tasks)))) or_else Ticks) t)
      + one_if (is_preempt_of n (then_some b (Prints (End (value_sum (filter is_done s.tasks)))) or_else Ticks))
      + one_if (is_take_of n (then_some b (Prints (End (value_sum (filter is_done s.tasks)))) or_else Ticks))
      ≤ pot t.role
  by_end true = omega arith
  by_end false = omega arith

-- ---- along a run

module _ (J : Instance) (valid : IsValid J) (n_j : Job) (member : IsMember n_j (numbered J)) where
  -- how often it preempts, and takes
  abbrev preempts_of : ℕ
  preempts_of = count_by (λ x. is_preempt_of n_j.0 x.move) (run J)

  abbrev takes_of : ℕ
  takes_of = count_by (λ x. is_take_of n_j.0 x.move) (run J)

  -- over the whole run
  whole_alone : (pot : Role → ℕ) (gain : Step → ℕ)
      → ((s : State) → Keeps J s → IsAlone s → (t : Task) → IsMember t s.tasks → t.number ≡ n_j.0
      → pot (role_then (step J.rules s) t) + gain (step_at J.rules s) ≤ pot t.role)
      → sum_by gain (run J) ≤ pot Coming
  whole_alone pot gain each =
      omega (
        arith,
        over_run_with J valid n_j member IsAlone (step_alone J valid)
            (λ t u mt mu first is_young. inr (come_coming 0 J.jobs u mu).0) pot gain (λ x. 0)
            (λ s keeps alone t mt same. omega (arith, each s keeps alone t mt same)),
        sum_zero (λ (x : Step). 0) (run J) (λ x m. refl),
      )

  -- each task is worth no more than the one of greatest value
  worth_most : Each (λ i. i.value ≤ n_j.1.value) J.jobs → (s : State) → Keeps J s → (t : Task)
      → IsMember t s.tasks → t.number ≡ n_j.0 → Each (λ u. u.job.value ≤ t.job.value) s.tasks
  worth_most most s keeps t t_member same u u_member =
      omega (
        arith,
        most u.job (subst (IsMember u.job) keeps.jobs (map_member (λ (x : Task). x.job) s.tasks u u_member)),
        ap (λ (j : JobFacts). j.value) (job_is J valid n_j member s keeps t t_member same),
      )

  -- a job of greatest value preempts or takes once, in all
  greatest_once : Each (λ i. i.value ≤ n_j.1.value) J.jobs → preempts_of + takes_of ≤ 1
  greatest_once most = omega (
    arith,
    whole_alone may_stop (λ x. one_if (is_preempt_of n_j.0 x.move) + one_if (is_take_of n_j.0 x.move))
        (λ s keeps alone t mt same. omega (
          arith,
          deed_greatest s keeps.sound n_j.0 t mt same (worth_most most s keeps t mt same) J.rules.ratio (rest_of s)
              (rest_same s n_j.0 t may_stop) (step J.rules s) (step_deed J valid s keeps J.rules),
        )),
    sum_plus (λ x. one_if (is_preempt_of n_j.0 x.move)) (λ x. one_if (is_take_of n_j.0 x.move)) (run J),
  )

  -- and doesn't take where it is the first
  greatest_first : n_j.0 ≡ 0 → Each (λ i. i.value ≤ n_j.1.value) J.jobs → takes_of ≤ 0
  greatest_first first most = whole_alone waits (λ x. one_if (is_take_of n_j.0 x.move))
      (λ s keeps alone t mt same. omega (
        arith,
        deed_greatest_first s keeps.sound n_j.0 t mt same (worth_most most s keeps t mt same) first alone
            J.rules.ratio (rest_of s)
            (omega (arith, rest_same s n_j.0 t waits))
            (step J.rules s) (step_deed J valid s keeps J.rules),
      ))

  -- the first job doesn't preempt
  first_preempts : n_j.0 ≡ 0 → preempts_of ≤ 0
  first_preempts first = omega (
    arith,
    first_never_preempts J valid,
    ap (λ n. count_by (λ x. is_preempt_of n x.move) (run J)) first,
  )

  -- a job of least value doesn't take
  deed_least : Each (λ i. n_j.1.value ≤ i.value) J.jobs → (s : State) → Keeps J s → (k : Fraction) (other : Move)
      → is_take_of n_j.0 other ≡ false → (m : Move) → Deed k s other m → is_take_of n_j.0 m ≡ false
  deed_least least s keeps k other rests m (Taken r x r_member runs some x_member waiting now stale heavy) =
      ne_eqb x.number n_j.0 (λ same.
      let more : value_sum (privileged s) < x.job.value = heavy_more k x.job.value (value_sum (privileged s)) heavy in
      let own : r.job.value ≤ value_sum (privileged s) =
      term_le_sum (λ (u : Task). u.job.value) (privileged s) r
      (filter_member is_privileged s.tasks r r_member (passes is_privileged r Running true runs refl)) in
      let low : n_j.1.value ≤ r.job.value = least r.job
      (subst (IsMember r.job) keeps.jobs (map_member (λ (y : Task). y.job) s.tasks r r_member)) in
      omega (arith, ap (λ (j : JobFacts). j.value) (job_is J valid n_j member s keeps x x_member same)))
  deed_least least s keeps k other rests m (Rested quiet) = rests
  deed_least least s keeps k other rests m _ = refl

  least_never : Each (λ i. n_j.1.value ≤ i.value) J.jobs → takes_of ≤ 0
  least_never least =
      let none : takes_of ≡ 0 =
      sum_zero (λ x. one_if (is_take_of n_j.0 x.move)) (run J)
      (λ x x_member. let it : (x.move ≡ step J.rules x.before) × Keeps J x.before × IsAlone x.before =
      each_alone J valid x x_member in
      ap (λ m. one_if (is_take_of n_j.0 m)) it.0
      ∙ ap one_if (deed_least least x.before it.1 J.rules.ratio (rest_of x.before)
      (rest_fails (is_take_of n_j.0) (λ value. refl) refl x.before) (step J.rules x.before)
      (step_deed J valid x.before it.1 J.rules))) in omega arith

-- ---- all together

-- some member has the least key, or there is none
least_of : {X : Type 0} (key : X → ℕ) (xs : List X)
    → (xs ≡ []) ⊎ ((m : X) × IsMember m xs × Each (λ x. key m ≤ key x) xs)
least_of key [] = inl refl
least_of key (x ∷ xs) = inr (by_rest (least_of key xs)) where
  by_rest : (xs ≡ []) ⊎ ((m : _) × IsMember m xs × Each (λ y. key m ≤ key y) xs)
      → (m : _) × IsMember m (x ∷ xs) × Each (λ y. key m ≤ key y) (x ∷ xs)
  by_rest (inl none) = (x, inl refl, each) where
    each : Each (λ y. key x ≤ key y) (x ∷ xs)
    each y (inl e) = omega (arith, ap key e)
    each y (inr member) = absurd (subst (IsMember y) none member)
  by_rest (inr it) = by_order (cases_lt (key x) (key it.0)) where
    by_order : (key x < key it.0) ⊎ (key it.0 ≤ key x)
        → (m : _) × IsMember m (x ∷ xs) × Each (λ y. key m ≤ key y) (x ∷ xs)
    by_order (inl less) = (x, inl refl, each) where
      each : Each (λ y. key x ≤ key y) (x ∷ xs)
      each y (inl e) = omega (arith, ap key e)
      each y (inr member) = let low : key it.0 ≤ key y = it.2 y member in omega arith
    by_order (inr more) = (it.0, inr it.1, each) where
      each : Each (λ y. key it.0 ≤ key y) (x ∷ xs)
      each y (inl e) = omega (arith, ap key e)
      each y (inr member) = it.2 y member

-- what a job preempts and takes, where three facts may take one off each
three_off : (a b c : Bool) (p t : ℕ) → p ≤ 1 → t ≤ 1 → (a ≡ true → p ≤ 0) → (b ≡ true → p + t ≤ 1)
    → (a ≡ true → b ≡ true → t ≤ 0) → (c ≡ true → t ≤ 0) → (b ≡ true → c ≡ true → ⊥)
    → p + t + one a + one b + one c ≤ 2
three_off true true c p t low high first greatest both least apart = by_third c refl where
  by_third : (x : Bool) → c ≡ x → p + t + 1 + 1 + one x ≤ 2
  by_third true e = absurd (apart refl e)
  by_third false e = omega (arith, first refl, both refl refl)
three_off true false true p t low high first greatest both least apart = omega (arith, first refl, least refl)
three_off true false false p t low high first greatest both least apart = omega (arith, first refl)
three_off false true true p t low high first greatest both least apart = absurd (apart refl refl)
three_off false true false p t low high first greatest both least apart = omega (arith, greatest refl)
three_off false false true p t low high first greatest both least apart = omega (arith, least refl)
three_off false false false p t low high first greatest both least apart = omega arith

module _ (J : Instance) (valid : IsValid J) where
  -- what holds of each numbered job holds of each job
  each_of : (P : JobFacts → Type 0) → Each (λ n_j. P n_j.1) (numbered J) → Each P J.jobs
  each_of P all i member = let it : (n : ℕ) × IsMember (n, i) (numbered J) = number_of 0 J.jobs i member in
      all (it.0, i) it.1

  -- all that preempts and takes
  all_preempts : count_by (λ x. preempts_some x.move) (run J)
      ≤ sum_by (λ n_j. count_by (λ x. is_preempt_of n_j.0 x.move) (run J)) (numbered J)
  all_preempts = hits_named (numbered J) (λ x. preempts_some x.move) (λ n x. is_preempt_of n x.move) (λ n_j. true)
      (run J)
      (each_finds J valid preempts_some is_preempt_of (λ m_i. true)
      (λ s keeps prompt. deed_preempts J valid s keeps J.rules.ratio (rest_of s)
      (rest_fails preempts_some (λ value. refl) refl s)))

  all_takes : count_by (λ x. takes_some x.move) (run J)
      ≤ sum_by (λ n_j. count_by (λ x. is_take_of n_j.0 x.move) (run J)) (numbered J)
  all_takes = hits_named (numbered J) (λ x. takes_some x.move) (λ n x. is_take_of n x.move) (λ n_j. true) (run J)
      (each_finds J valid takes_some is_take_of (λ m_i. true)
      (λ s keeps prompt. deed_takes J valid s keeps J.rules.ratio (rest_of s)
      (rest_fails takes_some (λ value. refl) refl s)))

  module _ (f m l : Job) (f_member : IsMember f (numbered J)) (m_member : IsMember m (numbered J))
      (l_member : IsMember l (numbered J)) (first : f.0 ≡ 0)
      (most : Each (λ i. i.value ≤ m.1.value) J.jobs) (least : Each (λ i. l.1.value ≤ i.value) J.jobs)
      (apart : m.0 ≡ l.0 → ⊥) where
    -- each job preempts and takes twice at most, but for three
    each_job_few : Each (λ n_j. count_by (λ x. is_preempt_of n_j.0 x.move) (run J)
        + count_by (λ x. is_take_of n_j.0 x.move) (run J) + one (eqb f.0 n_j.0) + one (eqb m.0 n_j.0)
        + one (eqb l.0 n_j.0) ≤ 2) (numbered J)
    each_job_few n_j member = three_off (eqb f.0 n_j.0) (eqb m.0 n_j.0) (eqb l.0 n_j.0)
        (count_by (λ x. is_preempt_of n_j.0 x.move) (run J)) (count_by (λ x. is_take_of n_j.0 x.move) (run J))
        (preempts_once J n_j.0 valid) (takes_once J n_j.0 valid)
        (λ e. first_preempts J valid n_j member (sym (eqb-true _ _ e) ∙ first))
        (λ e. subst (λ n. count_by (λ x. is_preempt_of n x.move) (run J)
        + count_by (λ x. is_take_of n x.move) (run J) ≤ 1) (eqb-true _ _ e) (greatest_once J valid m m_member most))
        (λ e e2. subst (λ n. count_by (λ x. is_take_of n x.move) (run J) ≤ 0) (eqb-true _ _ e2)
        (greatest_first J valid m m_member (eqb-true _ _ e2 ∙ sym (eqb-true _ _ e) ∙ first) most))
        (λ e. subst (λ n. count_by (λ x. is_take_of n x.move) (run J) ≤ 0) (eqb-true _ _ e)
        (least_never J valid l l_member least))
        (λ e e2. apart (eqb-true _ _ e ∙ sym (eqb-true _ _ e2)))

    -- a number is named
    named_here : (n_j : Job) → IsMember n_j (numbered J) → 1 ≤ sum_by (λ m_i. one (eqb n_j.0 m_i.0)) (numbered J)
    named_here n_j member = omega (
      arith,
      term_le_sum (λ m_i. one (eqb n_j.0 m_i.0)) (numbered J) n_j member,
      ap one (eq-eqb n_j.0 n_j.0 refl),
    )

    -- so all together they are three less
    few_stops : count_by (λ x. preempts_some x.move) (run J) + count_by (λ x. takes_some x.move) (run J) + 3
        ≤ 2 * length J.jobs
    few_stops =
        omega (
          arith,
          all_preempts,
          all_takes,
          named_here f f_member,
          named_here m m_member,
          named_here l l_member,
          sum_le (λ n_j. count_by (λ x. is_preempt_of n_j.0 x.move) (run J)
              + count_by (λ x. is_take_of n_j.0 x.move) (run J) + one (eqb f.0 n_j.0) + one (eqb m.0 n_j.0)
              + one (eqb l.0 n_j.0)) (λ n_j. 1 + 1) (numbered J) each_job_few,
          sum_plus (λ n_j. count_by (λ x. is_preempt_of n_j.0 x.move) (run J)
              + count_by (λ x. is_take_of n_j.0 x.move) (run J) + one (eqb f.0 n_j.0) + one (eqb m.0 n_j.0))
              (λ n_j. one (eqb l.0 n_j.0)) (numbered J),
          sum_plus (λ n_j. count_by (λ x. is_preempt_of n_j.0 x.move) (run J)
              + count_by (λ x. is_take_of n_j.0 x.move) (run J) + one (eqb f.0 n_j.0))
              (λ n_j. one (eqb m.0 n_j.0)) (numbered J),
          sum_plus (λ n_j. count_by (λ x. is_preempt_of n_j.0 x.move) (run J)
              + count_by (λ x. is_take_of n_j.0 x.move) (run J)) (λ n_j. one (eqb f.0 n_j.0)) (numbered J),
          sum_plus (λ n_j. count_by (λ x. is_preempt_of n_j.0 x.move) (run J))
              (λ n_j. count_by (λ x. is_take_of n_j.0 x.move) (run J)) (numbered J),
          sum_plus (λ (n_j : Job). 1) (λ n_j. 1) (numbered J),
          count_all (numbered J),
          length_enumerate 0 J.jobs,
        )

  -- where there are two jobs or more
  two_or_more : 2 ≤ length J.jobs
      → count_by (λ x. preempts_some x.move) (run J) + count_by (λ x. takes_some x.move) (run J) + 3
      ≤ 2 * length J.jobs
  two_or_more many = by_greatest (greatest (λ n_j. n_j.1.value) (numbered J)) where
    first_job : (jobs : List JobFacts) → 2 ≤ length jobs → (f : Job) × IsMember f (enumerate_from 0 jobs) × (f.0 ≡ 0)
    first_job [] few = absurd (omega arith)
    first_job (j ∷ jobs) some = ((0, j), inl refl, refl)

    by_greatest : (numbered J ≡ []) ⊎ ((m : Job) × IsMember m (numbered J)
        × Each (λ n_j. n_j.1.value ≤ m.1.value) (numbered J))
        → count_by (λ x. preempts_some x.move) (run J) + count_by (λ x. takes_some x.move) (run J) + 3
        ≤ 2 * length J.jobs
    by_greatest (inl none) = absurd (let few : length (numbered J) ≡ 0 = ap length none in
        omega (arith, length_enumerate 0 J.jobs))
    by_greatest (inr m) = by_least (least_of (λ n_j. n_j.1.value) others.rest) where
      others : Without m.0 (numbered J)
      others = without m.0 (numbered J) m.1

      by_least : (others.rest ≡ []) ⊎ ((l : Job) × IsMember l others.rest
          × Each (λ n_j. l.1.value ≤ n_j.1.value) others.rest)
          → count_by (λ x. preempts_some x.move) (run J) + count_by (λ x. takes_some x.move) (run J) + 3
          ≤ 2 * length J.jobs
      by_least (inl none) = absurd (omega (
        arith,
        others.sums (λ n_j. 1),
        ap (sum_by (λ (n_j : Job). 1)) none,
        count_all (numbered J),
        length_enumerate 0 J.jobs,
        many,
      ))
      by_least (inr l) =
          let f : (f : Job) × IsMember f (numbered J) × (f.0 ≡ 0) = first_job J.jobs many in
          few_stops f.0 m.0 l.0 f.1 m.1 l_member f.2 (each_of (λ i. i.value ≤ m.0.1.value) m.2)
          (each_of (λ i. l.0.1.value ≤ i.value) all_least) apart where
            l_member : IsMember l.0 (numbered J)
            l_member = others.members l.0 l.1

            all_least : Each (λ n_j. l.0.1.value ≤ n_j.1.value) (numbered J)
            all_least n_j member = one_low l.0.1.value n_j.1.value (omega (
              arith,
              term_le_sum (λ m_i. one (nat_lt m_i.1.value l.0.1.value)) (numbered J) n_j member,
              others.sums (λ m_i. one (nat_lt m_i.1.value l.0.1.value)),
              one_none l.0.1.value m.0.1.value (m.2 l.0 l_member),
              sum_zero (λ m_i. one (nat_lt m_i.1.value l.0.1.value)) others.rest
                  (λ m_i mi. one_none l.0.1.value m_i.1.value (l.2 m_i mi)),
            ))

            apart : m.0.0 ≡ l.0.0 → ⊥
            apart same = omega (
              arith,
              named_once m.0.0 0 J.jobs,
              others.sums (λ n_j. one (eqb m.0.0 n_j.0)),
              ap one (eq-eqb m.0.0 m.0.0 refl),
              term_le_sum (λ n_j. one (eqb m.0.0 n_j.0)) others.rest l.0 l.1,
              ap one (eq-eqb m.0.0 l.0.0 same),
            )

  -- the processor changes hands three times for each job at most, less three
  pub changes_fewer : 2 ≤ length J.jobs → count_by (λ x. changes_hands x.move) (run J) + 3 ≤ 3 * length J.jobs
  changes_fewer many =
      omega (arith, two_or_more many, changes_parts J valid, runs_complete J valid, completes_few J valid)
