-- The page follows each change of roles.
use Rattle.std.proofs.Common.{◌≡◌, ℕ, ◌+◌, ◌-◌, ◌<◌, List, length, map, set, refl, sym, ap, ◌∙◌, subst, Bool, true}
use Rattle.std.proofs.Common.{false, cond, arith, length-set, get_or-set_other, eqb-true, eq-eqb, ne_eqb}
use Rattle.std.proofs.Common.{get_or-set_same, Option, Some, None, ◌==◌, option_map, slice_index_or}
use Rattle.std.proofs.lemmas.List.{length-map}
use Rattle.std.proofs.lemmas.Option.{slice_get_within}
use Rattle.dover_model.specs.declared.events.Entry.{Entry}
use Rattle.dover_model.specs.declared.events.Role.{Role}
use Rattle.dover_model.specs.declared.events.Role.TheVariants.{Coming, Running}
use Rattle.dover_model.specs.declared.events.Task.{Task}
use Rattle.dover_model.specs.Common.{entry_of, IsMember, IsNumberedFrom, IsSound, NoneRuns, State, is_held, is_running}
use Rattle.dover_model.specs.Common.{with_role, displaced, ticked, after, Ticks}
use Rattle.dover_model.proofs.lists.Members.{on_map, map_member}
use Rattle.dover_model.proofs.steps.Roles.{one_number, is_running_role, passes}
use Rattle.dover_model.proofs.lists.Tests.{never}
use Rattle.held_stack.specs.Stack.{Stack, IsByDeadline, held_entries}
use Rattle.dover_model.proofs.steps.Pressing.{pressing}
use Rattle.dover_model.proofs.steps.RoleChanges.{with_role_at, all_displaced, task_at}
use Rattle.run_record.specs.ledger.Pages.{Page, nobody, empty, ran, turn_at, stored, stopped, started}
use Rattle.run_record.proofs.ledger.Follows.{IsTurn, AreStored, Follows}
use Rattle.run_record.proofs.ledger.Roles.{held_same, held_ticked, none_held}

-- these tasks at the same clock
abbrev pub at_clock : State → List Task → State
at_clock s tasks = record s { tasks = tasks }

-- the page follows a state whether it is pressed or not
pub follows_either : (b : Bool) {s : State} {p : Page} → Follows s p → Follows (pressing b s) p
follows_either b follows = record {
  since = follows.since;
  turn = follows.turn;
  stored = follows.stored;
  count = follows.count;
  order = follows.order;
  held = follows.held;
}

-- the number of a job is a place in the list
pub within : (tasks : List Task) → IsNumberedFrom 0 tasks → (t : Task) → IsMember t tasks → t.number < length tasks
within tasks all t member = slice_get_within tasks t.number t (task_at tasks t all member)

-- in no more ticks a job has what it has left
ran_none : (t : Task) (c : ℕ) → ran (c - c) (entry_of t) ≡ entry_of t
ran_none t c =
    let none : t.job.work - t.had - (c - c) ≡ t.job.work - t.had = omega arith in
    ap (λ l. record {
      number = t.number;
      deadline = t.job.deadline;
      latest = t.job.deadline - l;
      left = l;
      value = t.job.value;
    }) none

module _ (s : State) (sound : IsSound s) (p : Page) (follows : Follows s p) where
  -- the page has the job that runs
  pub the_turn : (r : Task) → IsMember r s.tasks → r.role ≡ Running → turn_at p s.clock ≡ Some (entry_of r)
  the_turn r member runs = by_turn (turn_at p s.clock) follows.turn where
    by_turn : (o : Option Entry) → IsTurn s.tasks o → o ≡ Some (entry_of r)
    by_turn None none = absurd (none r member runs)
    by_turn (Some e) (q, q_in, q_runs, is) = ap Some (is ∙ ap entry_of
        (one_number 0 s.tasks sound.numbered q r q_in member (sound.one_runs q r q_in member q_runs runs)))

  -- a job that neither runs nor is held gets a role in which it does neither
  module _ (c : Task) (member : IsMember c s.tasks) (idle : c.role ≡ Running → ⊥) (out : is_held c ≡ false) (new : Role)
      (idle_too : new ≡ Running → ⊥) (out_too : is_held (with_role c new) ≡ false) where
    turn_turned : (o : Option Entry) → IsTurn s.tasks o → IsTurn (with_role_at c.number new s.tasks) o
    turn_turned None none =
        on_map (λ t. with_role t (cond (t.number == c.number) new t.role)) (λ t. t.role ≡ Running → ⊥) s.tasks
        (λ t m. by_test (t.number == c.number) t.role (none t m)) where
          by_test : (b : Bool) (role : Role) → (role ≡ Running → ⊥) → cond b new role ≡ Running → ⊥
          by_test true role other e = idle_too e
          by_test false role other e = other e
    turn_turned (Some e) (r, r_in, runs, is) = (
      with_role r (cond (r.number == c.number) new r.role),
      map_member (λ t. with_role t (cond (t.number == c.number) new t.role)) s.tasks r r_in,
      ap (λ b. cond b new r.role) differs ∙ runs,
      is,
    ) where
      differs : (r.number == c.number) ≡ false
      differs = ne_eqb r.number c.number (λ e. idle
          (sym (ap (λ (t : Task). t.role) (one_number 0 s.tasks sound.numbered r c r_in member e)) ∙ runs))

    stored_turned : AreStored p.entries (with_role_at c.number new s.tasks)
    stored_turned =
        on_map (λ t. with_role t (cond (t.number == c.number) new t.role))
        (λ t. (t.role ≡ Running → ⊥) → slice_index_or p.entries t.number nobody ≡ entry_of t) s.tasks
        (λ t m. by_test t m (t.number == c.number) refl) where
          by_test : (t : Task) → IsMember t s.tasks → (b : Bool) → (t.number == c.number) ≡ b
              → (cond b new t.role ≡ Running → ⊥) → slice_index_or p.entries t.number nobody ≡ entry_of t
          by_test t m true e other = follows.stored t m (λ runs. idle
              (sym (ap (λ (u : Task). u.role)
              (one_number 0 s.tasks sound.numbered t c m member (eqb-true t.number c.number e))) ∙ runs))
          by_test t m false e other = follows.stored t m other

    pub turned : Follows (at_clock s (with_role_at c.number new s.tasks)) p
    turned = record {
      since = follows.since;
      turn = turn_turned (turn_at p s.clock) follows.turn;
      stored = stored_turned;
      count = omega (
        arith,
        follows.count,
        length-map s.tasks (λ t. with_role t (cond (t.number == c.number) new t.role)),
      );
      order = follows.order;
      held = follows.held ∙ held_same s.tasks sound.numbered c member new out out_too;
    }

  -- the job that runs gets another role, and the held ones are these
  module _ (r : Task) (member : IsMember r s.tasks) (runs : r.role ≡ Running) (new : Role)
      (idle_now : new ≡ Running → ⊥) (h : Stack) (order : IsByDeadline h.held)
      (is : h.held ≡ held_entries (with_role_at r.number new s.tasks)) where
    none_now : NoneRuns (with_role_at r.number new s.tasks)
    none_now =
        on_map (λ t. with_role t (cond (t.number == r.number) new t.role)) (λ t. t.role ≡ Running → ⊥) s.tasks
        (λ t m. by_test t m (t.number == r.number) refl) where
          by_test : (t : Task) → IsMember t s.tasks → (b : Bool) → (t.number == r.number) ≡ b
              → cond b new t.role ≡ Running → ⊥
          by_test t m true e other = idle_now other
          by_test t m false e other = never
              (sym e ∙ eq-eqb t.number r.number (sound.one_runs t r m member other runs))

    stored_now : AreStored (set p.entries r.number (entry_of r)) (with_role_at r.number new s.tasks)
    stored_now =
        on_map (λ t. with_role t (cond (t.number == r.number) new t.role))
        (λ t. (t.role ≡ Running → ⊥)
        → slice_index_or (set p.entries r.number (entry_of r)) t.number nobody ≡ entry_of t) s.tasks
        (λ t m. by_test t m (t.number == r.number) refl) where
          by_test : (t : Task) → IsMember t s.tasks → (b : Bool) → (t.number == r.number) ≡ b
              → (cond b new t.role ≡ Running → ⊥)
              → slice_index_or (set p.entries r.number (entry_of r)) t.number nobody ≡ entry_of t
          by_test t m true e other =
              let same : t ≡ r = one_number 0 s.tasks sound.numbered t r m member (eqb-true t.number r.number e) in
              ap (λ (u : Task). slice_index_or (set p.entries r.number (entry_of r)) u.number nobody) same
              ∙ get_or-set_same p.entries r.number (entry_of r) nobody
              (omega (arith, within s.tasks sound.numbered r member, follows.count))
              ∙ sym (ap entry_of same)
          by_test t m false e other =
              get_or-set_other p.entries r.number t.number (entry_of r) nobody
              (λ same. never (sym e ∙ eq-eqb t.number r.number same))
              ∙ follows.stored t m other

    halted_so : Follows (at_clock s (with_role_at r.number new s.tasks))
        (record { entries = set p.entries r.number (entry_of r); since = p.since; turn = None; held = h })
    halted_so = record {
      since = follows.since;
      turn = none_now;
      stored = stored_now;
      count = omega (
        arith,
        follows.count,
        length-map s.tasks (λ t. with_role t (cond (t.number == r.number) new t.role)),
        length-set p.entries r.number (entry_of r),
      );
      order = order;
      held = is;
    }

    pub halted : Follows (at_clock s (with_role_at r.number new s.tasks)) (record (stopped p s.clock) { held = h })
    halted = subst (λ o. Follows (at_clock s (with_role_at r.number new s.tasks))
        (record { entries = stored p.entries o; since = p.since; turn = None; held = h }))
        (sym (the_turn r member runs)) halted_so

  -- a tick
  pub passed : Follows (after s Ticks) p
  passed = record {
    since = omega (arith, follows.since);
    turn = by_turn p.turn refl follows.turn;
    stored =
        on_map ticked (λ t. (t.role ≡ Running → ⊥) → slice_index_or p.entries t.number nobody ≡ entry_of t) s.tasks
        (λ t m other. follows.stored t m other ∙ idle_same t (is_running t) refl other);
    count = omega (arith, follows.count, length-map s.tasks ticked);
    order = follows.order;
    held = follows.held ∙ held_ticked s.tasks;
  } where
    so : Task → Bool → Entry
    so t b = record {
      number = t.number;
      deadline = t.job.deadline;
      latest = t.job.deadline - (t.job.work - cond b (t.had + 1) t.had);
      left = t.job.work - cond b (t.had + 1) t.had;
      value = t.job.value;
    }

    idle_same : (t : Task) (b : Bool) → is_running t ≡ b → (t.role ≡ Running → ⊥) → entry_of t ≡ entry_of (ticked t)
    idle_same t true e other = absurd (other (is_running_role t e))
    idle_same t false e other = ap (so t) (sym e)

    with_left : Entry → ℕ → Entry
    with_left e l = record
        { number = e.number; deadline = e.deadline; latest = e.deadline - l; left = l; value = e.value }

    one_more : (e : Entry) (t : Task) → t.role ≡ Running → ran (s.clock - p.since) e ≡ entry_of t
        → ran (s.clock + 1 - p.since) e ≡ entry_of (ticked t)
    one_more e t runs is =
        let less : e.left - (s.clock + 1 - p.since) ≡ e.left - (s.clock - p.since) - 1 = omega (arith, follows.since) in
        let had : t.job.work - t.had - 1 ≡ t.job.work - (t.had + 1) = omega arith in
        ap (with_left e) less ∙ ap (λ (x : Entry). with_left x (x.left - 1)) is
        ∙ ap (with_left (entry_of t)) had
        ∙ ap (so t) (sym (passes is_running t Running true runs refl))

    by_turn : (o : Option Entry) → p.turn ≡ o → IsTurn s.tasks (option_map (ran (s.clock - p.since)) p.turn)
        → IsTurn (map ticked s.tasks) (option_map (ran (s.clock + 1 - p.since)) p.turn)
    by_turn None at it =
        subst (λ o. IsTurn (map ticked s.tasks) (option_map (ran (s.clock + 1 - p.since)) o)) (sym at)
        (on_map ticked (λ t. t.role ≡ Running → ⊥) s.tasks
        (subst (λ o. IsTurn s.tasks (option_map (ran (s.clock - p.since)) o)) at it))
    by_turn (Some e) at it =
        subst (λ o. IsTurn (map ticked s.tasks) (option_map (ran (s.clock + 1 - p.since)) o)) (sym at)
        (with_turn (subst (λ o. IsTurn s.tasks (option_map (ran (s.clock - p.since)) o)) at it)) where
          with_turn : IsTurn s.tasks (Some (ran (s.clock - p.since) e))
              → IsTurn (map ticked s.tasks) (Some (ran (s.clock + 1 - p.since) e))
          with_turn (r, r_in, runs, is) =
              (ticked r, map_member ticked s.tasks r r_in, runs, one_more e r runs is)

module _ (s : State) (p : Page) (follows : Follows s p) where
  -- a job that doesn't run starts, and the held ones are these
  module _ (x : Task) (member : IsMember x s.tasks) (idle : x.role ≡ Running → ⊥) (h : Stack)
      (order : IsByDeadline h.held)
      (is : h.held ≡ held_entries (with_role_at x.number Running s.tasks)) where
    pub starts : Follows (at_clock s (with_role_at x.number Running s.tasks))
        (started (record p { held = h }) s.clock x.number)
    starts = record {
      since = omega arith;
      turn = (
        with_role x (cond (x.number == x.number) Running x.role),
        map_member (λ t. with_role t (cond (t.number == x.number) Running t.role)) s.tasks x member,
        ap (λ b. cond b Running x.role) (eq-eqb x.number x.number refl),
        ap (ran (s.clock - s.clock)) (follows.stored x member idle) ∙ ran_none x s.clock,
      );
      stored = on_map (λ t. with_role t (cond (t.number == x.number) Running t.role))
          (λ t. (t.role ≡ Running → ⊥) → slice_index_or p.entries t.number nobody ≡ entry_of t) s.tasks
          (λ t m. by_test t m (t.number == x.number));
      count = omega (
        arith,
        follows.count,
        length-map s.tasks (λ t. with_role t (cond (t.number == x.number) Running t.role)),
      );
      order = order;
      held = is;
    } where
      by_test : (t : Task) → IsMember t s.tasks → (b : Bool) → (cond b Running t.role ≡ Running → ⊥)
          → slice_index_or p.entries t.number nobody ≡ entry_of t
      by_test t m true other = absurd (other refl)
      by_test t m false other = follows.stored t m other

  -- where none runs, all are displaced
  pub displaces : p.turn ≡ None → NoneRuns s.tasks
      → Follows (at_clock s (all_displaced s.tasks)) (record p { held = empty })
  displaces free none = record {
    since = follows.since;
    turn = subst (λ o. IsTurn (all_displaced s.tasks) (option_map (ran (s.clock - p.since)) o)) (sym free)
        (on_map (λ t. with_role t (displaced t.role)) (λ t. t.role ≡ Running → ⊥) s.tasks (λ t m. by_case t.role));
    stored = on_map (λ t. with_role t (displaced t.role))
        (λ t. (t.role ≡ Running → ⊥) → slice_index_or p.entries t.number nobody ≡ entry_of t) s.tasks
        (λ t m other. follows.stored t m (none t m));
    count = omega (arith, follows.count, length-map s.tasks (λ t. with_role t (displaced t.role)));
    order = tt;
    held = none_held s.tasks;
  } where
    by_case : (role : Role) → displaced role ≡ Running → ⊥
    by_case Coming e = cc
    by_case _ e = cc
