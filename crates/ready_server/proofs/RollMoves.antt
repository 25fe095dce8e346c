-- A roll follows each change of roles.
use Rattle.std.proofs.Common.{◌≡◌, ℕ, suc, ◌-◌, ◌≤◌, length, set, refl, sym, ap, ◌∙◌, subst, Bool, true, false, cond}
use Rattle.std.proofs.Common.{arith, not, ◌&&◌, eq-eqb, ne_eqb, eqb-true, Option, Some, None, ◌==◌}
use Rattle.std.proofs.lemmas.Bool.{eqb-false}
use Rattle.std.proofs.lemmas.List.{length-map}
use Rattle.dover_model.specs.declared.events.Role.{Role}
use Rattle.dover_model.specs.declared.events.Role.TheVariants.{Coming, Fresh, Waiting, Held, Running, Done, Gone}
use Rattle.dover_model.specs.declared.events.Task.{Task}
use Rattle.dover_model.specs.Common.{IsMember, IsNumberedFrom, IsSound, NoneRuns, State, is_held, with_role, displaced}
use Rattle.dover_model.proofs.lists.Members.{on_map, map_member, some_same}
use Rattle.dover_model.proofs.steps.Roles.{one_number, by_role}
use Rattle.dover_model.proofs.steps.RoleChanges.{with_role_at, all_displaced}
use Rattle.ready_server.specs.Roster.{Roll, ListedJob, stopped, is_turn, is_displaced, with_stop, halted}
use Rattle.ready_server.specs.Roster.{started}
use Rattle.ready_server.proofs.Rolls.{calm_role, Lists, Follows, set_here, set_there, length_set, at_clock, number_is}
use Rattle.ready_server.proofs.Rolls.{job_is, had_ran, had_is, role_is, lists_other, lists_same, had_none, not_turn}
use Rattle.ready_server.proofs.Rolls.{none_turn, lists_as}

-- a held job that stopped just now isn't displaced
fresh_held : (role : Role) (takes : ℕ) (t : Task) → t.role ≡ role
    → cond (is_held t && not (takes == takes)) Waiting t.role ≡ role
fresh_held role takes t is = ap (λ b. cond (is_held t && not b) Waiting t.role) (eq-eqb takes takes refl)
    ∙ none (is_held t) ∙ is where
      none : (b : Bool) → cond (b && false) Waiting t.role ≡ t.role
      none true = refl
      none false = refl

-- ---- a take, of each role

-- what a roll says of a role, where there was no take since, or one
abbrev says : Bool → Role → Role
says b Coming = cond (false && not b) Waiting Coming
says b Fresh = cond (false && not b) Waiting Fresh
says b Waiting = cond (false && not b) Waiting Waiting
says b Held = cond (true && not b) Waiting Held
says b Running = cond (false && not b) Waiting Running
says b Done = cond (false && not b) Waiting Done
says b Gone = cond (false && not b) Waiting Gone

says_is : (b : Bool) (t : Task) → cond (is_held t && not b) Waiting t.role ≡ says b t.role
says_is b t = by_role (λ u r. cond (is_held u && not b) Waiting r ≡ says b r) t each where
  each : (r : Role) → cond (is_held (with_role t r) && not b) Waiting r ≡ says b r
  each Coming = refl
  each _ = refl

-- what was held waits
was_held : (b : Bool) (role : Role) → says b role ≡ Held → says false role ≡ Waiting
was_held b Held is = refl
was_held b _ is = cc

-- what was in another role stays in it
was_other : (b : Bool) (role other : Role) → (other ≡ Held → ⊥) → says b role ≡ other → says false role ≡ other
was_other true Held other out is = absurd (out (sym is))
was_other false Held other out is = is
was_other b _ other out is = is

displaces_role : (b : Bool) (role now : Role) → (now ≡ Running → ⊥) → says b role ≡ calm_role now
    → says false role ≡ calm_role (displaced now)
displaces_role b role Held idle is = was_held b role is
displaces_role b role Running idle is = absurd (idle refl)
displaces_role b role Coming idle is = was_other b role Coming (λ e. cc) is
displaces_role b role Done idle is = was_other b role Done (λ e. cc) is
displaces_role b role Gone idle is = was_other b role Gone (λ e. cc) is
displaces_role b role _ idle is = was_other b role Waiting (λ e. cc) is

module _ (s : State) (sound : IsSound s) (p : Roll) (follows : Follows s p) where
  -- the number of another job
  other_number : (t r : Task) → (t.number == r.number) ≡ false → t.number ≡ r.number → ⊥
  other_number t r e = eqb-false t.number r.number e

  -- where none runs, the roll has none that does
  pub no_turn : NoneRuns s.tasks → p.turn ≡ None
  no_turn none = by p.turn refl where
    by : (o : Option ℕ) → p.turn ≡ o → o ≡ None
    by None e = refl
    by (Some n) e = let it = follows.turn n e in absurd (none it.0 it.1 it.2)

  -- a job that doesn't run isn't the one that does in the roll
  pub idle_turn : (t : Task) → IsMember t s.tasks → (t.role ≡ Running → ⊥) → is_turn p.turn t.number ≡ false
  idle_turn t m idle = by p.turn refl where
    by : (o : Option ℕ) → p.turn ≡ o → is_turn o t.number ≡ false
    by None e = refl
    by (Some n) e = let it = follows.turn n e in
        ne_eqb n t.number (λ same. idle (ap (λ (u : Task). u.role)
        (one_number 0 s.tasks sound.numbered t it.0 m it.1 (sym same ∙ sym it.3)) ∙ it.2))

  -- a job of another number than the one that runs
  pub turn_other : (r t : Task) → IsMember r s.tasks → r.role ≡ Running → (t.number ≡ r.number → ⊥)
      → is_turn p.turn t.number ≡ false
  turn_other r t member runs other = not_turn p.turn t.number r.number (follows.runs r member runs) other

  -- ---- the job that runs stops

  module _ (r : Task) (member : IsMember r s.tasks) (runs : r.role ≡ Running) (new : Role)
      (idle_now : new ≡ Running → ⊥) (out_now : new ≡ Coming → ⊥) (calm_now : calm_role new ≡ new) where
    r_here : r.role ≡ Coming → ⊥
    r_here e = two (sym runs ∙ e) where
      two : Running ≡ Coming → ⊥
      two e = cc

    of_r : Lists p s.clock r
    of_r = follows.here r member r_here

    -- its entry
    abbrev e_new : ListedJob
    e_new = stopped (s.clock - p.since) new p.takes of_r.listed

    -- the roll after it
    abbrev q : Roll
    q = record p { jobs = set p.jobs r.number e_new; turn = None }

    halted_is : halted p s.clock new ≡ q
    halted_is = ap (λ o. elim o [ None ↦ p | Some n ↦ record (with_stop p n (s.clock - p.since) new) { turn = None } ])
        (follows.runs r member runs)
        ∙ ap (λ o. record (elim o [
          | None ↦ p
          | Some e ↦ record p
              { jobs = set p.jobs r.number (stopped (s.clock - p.since) new p.takes e) }
        ]) { turn = None }) of_r.there

    lists_r : Lists q s.clock (with_role r new)
    lists_r = lists_as q s.clock (with_role r new) e_new false (set_here p.jobs r.number e_new of_r.listed of_r.there)
        (number_is p s.clock r of_r) (job_is p s.clock r of_r) refl
        (fresh_held new p.takes e_new.task refl ∙ sym calm_now) (had_ran p s.clock r of_r (follows.runs r member runs))
        (omega arith)

    pub halts : Follows (at_clock s (with_role_at r.number new s.tasks)) (halted p s.clock new)
    halts = subst (Follows (at_clock s (with_role_at r.number new s.tasks))) (sym halted_is) (record {
      since = follows.since;
      turn = λ n e. absurd (let no : None ≡ Some n = e in cc);
      runs = on_map change (λ t. t.role ≡ Running → q.turn ≡ Some t.number) s.tasks
          (λ t m. none_runs t m (t.number == r.number) refl);
      here = on_map change (λ t. (t.role ≡ Coming → ⊥) → Lists q s.clock t) s.tasks
          (λ t m. here_now t m (t.number == r.number) refl);
      ahead = on_map change (λ t. t.role ≡ Coming → length q.jobs ≤ t.number) s.tasks
          (λ t m. ahead_now t m (t.number == r.number) refl);
      few = omega (arith, follows.few, length_set p.jobs r.number e_new, length-map s.tasks change);
    }) where
      change : Task → Task
      change t = with_role t (cond (t.number == r.number) new t.role)

      none_runs : (t : Task) → IsMember t s.tasks → (b : Bool) → (t.number == r.number) ≡ b
          → cond b new t.role ≡ Running → None ≡ Some t.number
      none_runs t m true e now = absurd (idle_now now)
      none_runs t m false e now = absurd (other_number t r e
          (sound.one_runs t r m member now runs))

      here_now : (t : Task) → IsMember t s.tasks → (b : Bool) → (t.number == r.number) ≡ b
          → (cond b new t.role ≡ Coming → ⊥) → Lists q s.clock (with_role t (cond b new t.role))
      here_now t m true e out = subst (λ u. Lists q s.clock (with_role u new))
          (one_number 0 s.tasks sound.numbered r t member m (sym (eqb-true t.number r.number e))) lists_r
      here_now t m false e out = lists_same p s.clock t (follows.here t m out)
          (turn_other r t member runs (other_number t r e)) q t.role
          (set_there p.jobs r.number t.number e_new (other_number t r e)) refl refl refl s.clock

      ahead_now : (t : Task) → IsMember t s.tasks → (b : Bool) → (t.number == r.number) ≡ b
          → cond b new t.role ≡ Coming → length q.jobs ≤ t.number
      ahead_now t m true e now = absurd (out_now now)
      ahead_now t m false e now = omega (arith, follows.ahead t m now, length_set p.jobs r.number e_new)

module _ (s : State) (numbered : IsNumberedFrom 0 s.tasks) (p : Roll) (follows : Follows s p) where
  -- ---- a job starts where none runs

  module _ (free : p.turn ≡ None) (g : Task) (member : IsMember g s.tasks) (out : g.role ≡ Coming → ⊥)
      (within : g.had ≤ g.job.work) where
    -- none runs
    none_runs : NoneRuns s.tasks
    none_runs t m runs = absurd (let no : None ≡ Some t.number = sym free ∙ follows.runs t m runs in cc)

    of_g : Lists p s.clock g
    of_g = follows.here g member out

    abbrev go : Roll
    go = started p s.clock g.number

    lists_g : Lists go s.clock (with_role g Running)
    lists_g = lists_as go s.clock (with_role g Running) of_g.listed true of_g.there (number_is p s.clock g of_g)
        (job_is p s.clock g of_g) (eq-eqb g.number g.number refl) refl
        (had_none of_g.listed.task s.clock most ∙ had_same) of_g.before where
          had_same : of_g.listed.task.had ≡ g.had
          had_same = had_is p s.clock g of_g (none_turn p.turn g.number free)

          most : of_g.listed.task.had ≤ of_g.listed.task.job.work
          most = omega (arith, had_same, ap (λ j. j.work) (job_is p s.clock g of_g), within)

    pub starts : Follows (at_clock s (with_role_at g.number Running s.tasks)) go
    starts = record {
      since = omega arith;
      turn = λ n e. (
        change g,
        map_member change s.tasks g member,
        ap (λ b. cond b Running g.role) (eq-eqb g.number g.number refl),
        some_same g.number n e,
      );
      runs = on_map change (λ t. t.role ≡ Running → go.turn ≡ Some t.number) s.tasks
          (λ t m. runs_now t m (t.number == g.number) refl);
      here = on_map change (λ t. (t.role ≡ Coming → ⊥) → Lists go s.clock t) s.tasks
          (λ t m. here_now t m (t.number == g.number) refl);
      ahead = on_map change (λ t. t.role ≡ Coming → length go.jobs ≤ t.number) s.tasks
          (λ t m. ahead_now t m (t.number == g.number) refl);
      few = omega (arith, follows.few, length-map s.tasks change);
    } where
      change : Task → Task
      change t = with_role t (cond (t.number == g.number) Running t.role)

      runs_now : (t : Task) → IsMember t s.tasks → (b : Bool) → (t.number == g.number) ≡ b
          → cond b Running t.role ≡ Running → Some g.number ≡ Some t.number
      runs_now t m true e now = ap Some (sym (eqb-true t.number g.number e))
      runs_now t m false e now = absurd (none_runs t m now)

      here_now : (t : Task) → IsMember t s.tasks → (b : Bool) → (t.number == g.number) ≡ b
          → (cond b Running t.role ≡ Coming → ⊥) → Lists go s.clock (with_role t (cond b Running t.role))
      here_now t m true e out_too = subst (λ u. Lists go s.clock (with_role u Running))
          (one_number 0 s.tasks numbered g t member m (sym (eqb-true t.number g.number e))) lists_g
      here_now t m false e out_too = lists_same p s.clock t (follows.here t m out_too)
          (none_turn p.turn t.number free) go t.role refl refl
          (not_turn go.turn t.number g.number refl (eqb-false t.number g.number e)) refl s.clock

      ahead_now : (t : Task) → IsMember t s.tasks → (b : Bool) → (t.number == g.number) ≡ b
          → cond b Running t.role ≡ Coming → length go.jobs ≤ t.number
      ahead_now t m true e now = absurd (let no : Running ≡ Coming = now in cc)
      ahead_now t m false e now = follows.ahead t m now

  -- ---- where none runs, all are displaced

  module _ (free : p.turn ≡ None) where
    -- the roll after it
    abbrev more : Roll
    more = record p { takes = suc p.takes }

    pub displaces : Follows (at_clock s (all_displaced s.tasks)) more
    displaces = record {
      since = follows.since;
      turn = λ n e. absurd (let no : None ≡ Some n = sym free ∙ e in cc);
      runs = on_map change (λ t. t.role ≡ Running → more.turn ≡ Some t.number) s.tasks
          (λ t m now. absurd (never_runs t.role now));
      here = on_map change (λ t. (t.role ≡ Coming → ⊥) → Lists more s.clock t) s.tasks
          (λ t m out. here_now t m (follows.here t m (λ e. out (comes t.role e))));
      ahead = on_map change (λ t. t.role ≡ Coming → length more.jobs ≤ t.number) s.tasks
          (λ t m now. follows.ahead t m (came t.role now));
      few = omega (arith, follows.few, length-map s.tasks change);
    } where
      change : Task → Task
      change t = with_role t (displaced t.role)

      never_runs : (role : Role) → displaced role ≡ Running → ⊥
      never_runs Coming e = cc
      never_runs _ e = cc

      comes : (role : Role) → role ≡ Coming → displaced role ≡ Coming
      comes role e = ap displaced e

      came : (role : Role) → displaced role ≡ Coming → role ≡ Coming
      came Coming e = refl
      came _ e = cc

      here_now : (t : Task) → IsMember t s.tasks → Lists p s.clock t → Lists more s.clock (change t)
      here_now t m it = lists_other p s.clock t it (none_turn p.turn t.number free) more (displaced t.role) it.listed
          it.there (number_is p s.clock t it) (job_is p s.clock t it)
          (had_is p s.clock t it (none_turn p.turn t.number free)) (none_turn p.turn t.number free)
          (role_now it.listed it.before (role_is p s.clock t it (none_turn p.turn t.number free)))
          (omega (arith, it.before)) s.clock where
            idle : t.role ≡ Running → ⊥
            idle runs = absurd (let no : None ≡ Some t.number = sym free ∙ follows.runs t m runs in cc)

            role_now : (e : ListedJob) → e.takes ≤ p.takes
                → cond (is_displaced p.takes e) Waiting e.task.role ≡ calm_role t.role
                → cond (is_displaced (suc p.takes) e) Waiting e.task.role ≡ calm_role (displaced t.role)
            role_now e low is =
                ap (λ b. cond (is_held e.task && not b) Waiting e.task.role)
                (ne_eqb e.takes (suc p.takes) (λ same. absurd (omega (arith, low, same))))
                ∙ says_is false e.task
                ∙ displaces_role (e.takes == p.takes) e.task.role t.role idle
                (sym (says_is (e.takes == p.takes) e.task) ∙ is)
