-- The page follows each step of the machine.
use Rattle.std.proofs.Common.{◌≡◌, ℕ, ◌+◌, ◌-◌, ◌≤◌, ◌<◌, ◌⊎◌, inl, inr, List, [], ◌∷◌, length, filter, option_map}
use Rattle.std.proofs.Common.{refl, sym, ap, ◌∙◌, subst, Bool}
use Rattle.std.proofs.Common.{true, false, cond, arith, eq-eqb, ne_eqb, Option, Some, None, ◌==◌, nat_lt}
use Rattle.std.proofs.lemmas.List.Sums.{sum_by-cons}
use Rattle.std.specs.Option.{ForSome, option_map_or}
use Rattle.std.specs.Bool.{then_some}
use Rattle.dover_model.specs.Common.{Fraction, entry_of, IsMember, Each, IsNumberedFrom, IsSound, NoneRuns, State}
use Rattle.dover_model.specs.Common.{is_held, is_running, is_privileged, is_ready_behind, privileged, room, value_sum}
use Rattle.dover_model.specs.Common.{Move, Prints, Waits, Ticks, with_role, displaced, ◌or_else◌}
use Rattle.dover_model.specs.declared.events.Entry.{Entry}
use Rattle.dover_model.specs.declared.events.Event.TheVariants.{Release, Run, Preempt, Take, Complete, Abandon, End}
use Rattle.dover_model.specs.declared.events.Role.{Role}
use Rattle.dover_model.specs.declared.events.Role.TheVariants.{Coming, Fresh, Waiting, Held, Running, Done, Gone}
use Rattle.dover_model.specs.declared.events.Task.{Task}
use Rattle.dover_model.proofs.steps.Deeds.{Deed, Completed, Resumed, Started, Began, Preempted, Stayed, Arrived, Taken}
use Rattle.dover_model.proofs.steps.Deeds.{Abandoned, Rested}
use Rattle.dover_model.proofs.steps.Kept.{end_same}
use Rattle.dover_model.proofs.lists.Members.{on_map, map_map, map_member, some_same, by_bool}
use Rattle.dover_model.proofs.steps.Roles.{one_number, passes, is_held_role, is_running_role, is_privileged_role}
use Rattle.dover_model.proofs.steps.Roles.{numbered_map}
use Rattle.dover_model.proofs.lists.Tests.{never}
use Rattle.dover_model.proofs.steps.Ticking.{Quiet}
use Rattle.held_stack.specs.Stack.{Stack, top_of, value_of, popped, IsByDeadline, held_entries}
use Rattle.dover_model.proofs.steps.RoleChanges.{with_role_at, all_displaced, displaced_same}
use Rattle.run_record.proofs.ledger.Changing.{entries_later}
use Rattle.run_record.proofs.ledger.Held.{busy_room, busy_value, free_privileged, held_value, value_part, value_room}
use Rattle.run_record.proofs.ledger.Held.{none_on_top}
use Rattle.run_record.proofs.intervals.Sums.{capped_small}
use Rattle.dover_model.proofs.bound.Closing.{value_of_number}
use Rattle.run_record.specs.ledger.Pages.{Page, empty, turn_at, stopped, started, with_hold, without, room_with}
use Rattle.run_record.specs.ledger.Pages.{CanHold, CanStop, ran, turn_value, worth, capped, holds_none}
use Rattle.run_record.proofs.ledger.Follows.{IsTurn, Follows, Next}
use Rattle.run_record.proofs.ledger.Roles.{held_same, held_more, held_less, none_pass, top_held, one_runner, each_all}
use Rattle.run_record.proofs.ledger.Steps.{at_clock, follows_either, within, the_turn, turned, halted, passed, starts}
use Rattle.run_record.proofs.ledger.Steps.{displaces}

-- a job in another role doesn't run
idle_in : (t : Task) (role : Role) → t.role ≡ role → (role ≡ Running → ⊥) → t.role ≡ Running → ⊥
idle_in t role is other runs = other (sym is ∙ runs)

-- a job that ran has its value
turn_worth : (o : Option Entry) (ticks : ℕ)
    → option_map_or (λ e. e.value) o 0 ≡ option_map_or (λ e. e.value) (option_map (ran ticks) o) 0
turn_worth None ticks = refl
turn_worth (Some e) ticks = refl

module _ (s : State) (sound : IsSound s) (p : Page) (follows : Follows s p)
    (total : value_sum s.tasks ≤ 10_000_000_000_000) where
  -- ---- the job that runs

  module _ (r : Task) (member : IsMember r s.tasks) (runs : r.role ≡ Running) where
    not_held : is_held r ≡ false
    not_held = passes is_held r Running false runs refl

    -- it is due before the held ones
    before_held : Each (λ x. is_held x ≡ true → r.job.deadline < x.job.deadline) s.tasks
    before_held x m held = sound.running_first r x member m runs (is_held_role x held)

    before_entries : Each (λ e. r.job.deadline < e.deadline) p.held.held
    before_entries = subst (Each (λ e. r.job.deadline < e.deadline)) (sym follows.held)
        (entries_later r.job.deadline s.tasks before_held)

    -- what the page has of it
    of_turn : (P : Entry → Type 0) → P (entry_of r) → ForSome (turn_at p s.clock) P
    of_turn P here e at =
        subst P (some_same (entry_of r) e (sym (the_turn s sound p follows r member runs) ∙ at)) here

    can_stop : CanStop p s.clock
    can_stop = of_turn (λ e. e.number < length p.entries)
        (omega (arith, within s.tasks sound.numbered r member, follows.count))

    -- it runs alone
    alone_runs : filter is_running s.tasks ≡ r ∷ []
    alone_runs = one_runner 0 s.tasks sound.numbered r member (passes is_running r Running true runs refl)
        (λ t m yes_. sound.one_runs t r m member (is_running_role t yes_) runs)

    -- the room with it
    room_is : room_with s.clock p.held (turn_at p s.clock) ≡ room s.clock (privileged s)
    room_is = ap (room_with s.clock p.held) (the_turn s sound p follows r member runs)
        ∙ busy_room s.clock s.tasks p.held.held r follows.held alone_runs before_held

    can_hold : CanHold p.held (entry_of r)
    can_hold = record {
      first = before_entries;
      total = omega (
        arith,
        sum_by-cons (λ e. e.value) (entry_of r) p.held.held,
        held_value s.tasks p.held.held follows.held,
        value_room is_held s.tasks r member not_held,
        total,
      );
    }

    -- a completion
    completes : Next s p (Prints (Complete s.clock r.number))
    completes = record {
      can = (
        can_stop,
        refl,
        turn_worth p.turn (s.clock - p.since)
            ∙ ap (λ o. option_map_or (λ e. e.value) o 0) (the_turn s sound p follows r member runs)
            ∙ sym (value_of_number s sound.numbered r member),
      );
      follows = follows_either _ (halted s sound p follows r member runs Done (λ e. cc) p.held follows.order
          (follows.held ∙ held_same s.tasks sound.numbered r member Done not_held refl));
    }

    -- it is held
    holds : Follows (at_clock s (with_role_at r.number Held s.tasks))
        (record (stopped p s.clock) { held = with_hold p.held (turn_at p s.clock) })
    holds = subst (λ o. Follows (at_clock s (with_role_at r.number Held s.tasks))
        (record (stopped p s.clock) { held = with_hold p.held o }))
        (sym (the_turn s sound p follows r member runs))
        (halted s sound p follows r member runs Held (λ e. cc)
        (with_hold p.held (Some (entry_of r)))
        (each_all (λ f. r.job.deadline < f.deadline) p.held.held before_entries, follows.order)
        (ap (λ es. entry_of r ∷ es) follows.held
        ∙ held_more s.tasks sound.numbered r member not_held before_held))

    -- a preemption
    preempts : (f : Task) → IsMember f s.tasks → f.role ≡ Fresh → Next s p (Prints (Preempt s.clock r.number f.number))
    preempts f f_in fresh = record {
      can = (
        (can_stop, of_turn (CanHold p.held) can_hold),
        room_is,
        refl,
      );
      follows = subst (λ ts. Follows (at_clock s ts)
          (started (record (stopped p s.clock) { held = with_hold p.held (turn_at p s.clock) }) s.clock
          f.number))
          (map_map (λ t. with_role t (cond (t.number == f.number) Running t.role))
          (λ t. with_role t (cond (t.number == r.number) Held t.role)) s.tasks)
          (starts (at_clock s tasks)
          (record (stopped p s.clock) { held = with_hold p.held (turn_at p s.clock) }) holds g g_in g_idle
          (with_hold p.held (turn_at p s.clock)) holds.order
          (holds.held ∙ held_same tasks numbered g g_in Running g_out refl));
    } where
      tasks : List Task
      tasks = with_role_at r.number Held s.tasks

      numbered : IsNumberedFrom 0 tasks
      numbered = numbered_map (λ t. with_role t (cond (t.number == r.number) Held t.role)) (λ t. refl) 0 s.tasks
          sound.numbered

      g : Task
      g = with_role f (cond (f.number == r.number) Held f.role)

      g_in : IsMember g tasks
      g_in = map_member (λ t. with_role t (cond (t.number == r.number) Held t.role)) s.tasks f f_in

      g_fresh : g.role ≡ Fresh
      g_fresh = ap (λ b. cond b Held f.role) (ne_eqb f.number r.number (λ e. idle_in f Fresh fresh (λ e. cc)
          (ap (λ (t : Task). t.role) (one_number 0 s.tasks sound.numbered f r f_in member e) ∙ runs)))
          ∙ fresh

      g_idle : g.role ≡ Running → ⊥
      g_idle = idle_in g Fresh g_fresh (λ e. cc)

      g_out : is_held g ≡ false
      g_out = passes is_held g Fresh false g_fresh refl

    -- a take
    takes : (x : Task) → IsMember x s.tasks → x.role ≡ Waiting → Next s p (Prints (Take s.clock r.number x.number))
    takes x x_in waits = record {
      can = (can_stop, refl, refl);
      follows = subst (λ ts. Follows (at_clock s ts)
          (started (record (stopped p s.clock) { held = empty }) s.clock x.number))
          (ap (with_role_at x.number Running)
          (displaced_same s.tasks r sound.numbered member (ap displaced runs))
          ∙ map_map (λ t. with_role t (cond (t.number == x.number) Running t.role))
          (λ t. with_role t (displaced t.role)) s.tasks)
          (starts (at_clock s tasks) (record (stopped p s.clock) { held = empty }) free g g_in g_idle empty
          free.order (free.held ∙ held_same tasks numbered g g_in Running g_out refl));
    } where
      waiting : List Task
      waiting = with_role_at r.number Waiting s.tasks

      tasks : List Task
      tasks = all_displaced waiting

      alone : Follows (at_clock s waiting) (record (stopped p s.clock) { held = p.held })
      alone = halted s sound p follows r member runs Waiting (λ e. cc) p.held follows.order
          (follows.held ∙ held_same s.tasks sound.numbered r member Waiting not_held refl)

      free : Follows (at_clock s tasks) (record (stopped p s.clock) { held = empty })
      free = displaces (at_clock s waiting) (record (stopped p s.clock) { held = p.held }) alone refl alone.turn

      numbered : IsNumberedFrom 0 tasks
      numbered = numbered_map (λ t. with_role t (displaced t.role)) (λ t. refl) 0 waiting
          (numbered_map (λ t. with_role t (cond (t.number == r.number) Waiting t.role)) (λ t. refl) 0 s.tasks
          sound.numbered)

      g : Task
      g = with_role x (displaced (cond (x.number == r.number) Waiting x.role))

      g_in : IsMember g tasks
      g_in = map_member (λ t. with_role t (displaced t.role)) waiting
          (with_role x (cond (x.number == r.number) Waiting x.role))
          (map_member (λ t. with_role t (cond (t.number == r.number) Waiting t.role)) s.tasks x x_in)

      g_waits : g.role ≡ Waiting
      g_waits = by_test (x.number == r.number) where
        by_test : (b : Bool) → displaced (cond b Waiting x.role) ≡ Waiting
        by_test true = refl
        by_test false = ap displaced waits

      g_idle : g.role ≡ Running → ⊥
      g_idle = idle_in g Waiting g_waits (λ e. cc)

      g_out : is_held g ≡ false
      g_out = passes is_held g Waiting false g_waits refl

  -- ---- what all under way are worth

  -- those that run and are held
  worth_of : (o : Option Entry) → turn_at p s.clock ≡ o → IsTurn s.tasks o
      → turn_value p + value_of p.held.held ≡ value_sum (privileged s)
  worth_of None at none =
      let free : filter is_running s.tasks ≡ [] = none_pass is_running s.tasks (λ t m. by_bool _ (is_running t)
      (λ yes_. absurd (none t m (is_running_role t yes_))) (λ no_. no_)) in
      omega (
        arith,
        turn_worth p.turn (s.clock - p.since),
        ap (λ o. option_map_or (λ e. e.value) o 0) at,
        held_value s.tasks p.held.held follows.held,
        ap value_sum (free_privileged s.tasks free),
      )
  worth_of (Some e) at (r, r_in, runs, is) = omega (
    arith,
    turn_worth p.turn (s.clock - p.since),
    ap (λ o. option_map_or (λ e. e.value) o 0) (the_turn s sound p follows r r_in runs),
    busy_value s.tasks p.held.held r follows.held (alone_runs r r_in runs) (before_held r r_in runs),
  )

  pub worth_is : worth p ≡ value_sum (privileged s)
  worth_is = ap capped (worth_of (turn_at p s.clock) refl follows.turn)
      ∙ capped_small (value_sum (privileged s)) (omega (arith, value_part is_privileged s.tasks, total))

  pub worth_small : worth p ≤ 10_000_000_000_000
  worth_small = omega (arith, worth_is, value_part is_privileged s.tasks, total)

  -- none is held
  pub none_is : holds_none p ≡ (length (filter is_held s.tasks) == 0)
  none_is = ap (λ es. option_map_or (λ e. false) (top_of es) true) follows.held ∙ none_on_top (filter is_held s.tasks)

  -- ---- where none runs

  -- a held job resumes
  resumes : (q : Task) → IsMember q s.tasks → q.role ≡ Held
      → Each (λ t. t.role ≡ Held → q.job.deadline ≤ t.job.deadline) s.tasks → Next s p (Prints (Run s.clock q.number))
  resumes q member holds least = record {
    can = (tt, refl, refl);
    follows = subst (λ h. Follows (at_clock s tasks) (started (record p { held = h }) s.clock q.number)) (sym stack_is)
        (starts s p follows q member idle rest
        (subst IsByDeadline is follows.order).1 refl);
  } where
    tasks : List Task
    tasks = with_role_at q.number Running s.tasks

    held : is_held q ≡ true
    held = passes is_held q Held true holds refl

    idle : q.role ≡ Running → ⊥
    idle = idle_in q Held holds (λ e. cc)

    later : Each (λ x. is_held x ≡ true → q.job.deadline < x.job.deadline) tasks
    later = on_map (λ t. with_role t (cond (t.number == q.number) Running t.role))
        (λ x. is_held x ≡ true → q.job.deadline < x.job.deadline) s.tasks
        (λ t m. by_test t m (t.number == q.number) refl) where
          by_test : (t : Task) → IsMember t s.tasks → (b : Bool) → (t.number == q.number) ≡ b
              → is_held (with_role t (cond b Running t.role)) ≡ true → q.job.deadline < t.job.deadline
          by_test t m true e holds_too = never holds_too
          by_test t m false e holds_too =
              let low : q.job.deadline ≤ t.job.deadline = least t m (is_held_role t holds_too) in
              by_bool (q.job.deadline < t.job.deadline) (nat_lt q.job.deadline t.job.deadline)
              (λ yes_. grind arith)
              (λ no_. absurd (never (sym e ∙ eq-eqb t.number q.number
              (sound.distinct t q m member (passes is_privileged t Held true (is_held_role t holds_too) refl)
              (passes is_privileged q Held true holds refl)
              (let high : t.job.deadline ≤ q.job.deadline = grind arith in omega (arith, low, high))))))

    is : p.held.held ≡ entry_of q ∷ held_entries tasks
    is = follows.held ∙ held_less s.tasks sound.numbered q member held later

    rest : Stack
    rest = record { held = held_entries tasks; spare = p.held.spare + 1 }

    stack_is : without q.number p.held (top_of p.held.held) ≡ rest
    stack_is = ap (without q.number p.held) (ap top_of is)
        ∙ ap (λ b. cond b (popped p.held.held p.held.spare) p.held) (eq-eqb q.number q.number refl)
        ∙ ap (λ es. popped es p.held.spare) is

  -- a job that isn't held starts
  begins : (x : Task) → IsMember x s.tasks → (x.role ≡ Running → ⊥) → is_held x ≡ false
      → Next s p (Prints (Run s.clock x.number))
  begins x member idle out = record {
    can = (tt, refl, refl);
    follows = subst (λ h. Follows (at_clock s (with_role_at x.number Running s.tasks))
        (started (record p { held = h }) s.clock x.number)) (sym (by_top (top_of p.held.held) refl))
        (starts s p follows x member idle p.held follows.order
        (follows.held ∙ held_same s.tasks sound.numbered x member Running out refl));
  } where
    by_top : (o : Option Entry) → top_of p.held.held ≡ o → without x.number p.held o ≡ p.held
    by_top None e = refl
    by_top (Some e) top =
        let it = top_held s.tasks p.held.held e follows.held top in
        ap (λ b. cond b (popped p.held.held p.held.spare) p.held) (ne_eqb e.number x.number (λ same. never
        (sym out ∙ passes is_held x Held true
        (sym (ap (λ (t : Task). t.role) (one_number 0 s.tasks sound.numbered it.0 x it.1 member
        (sym (ap (λ (f : Entry). f.number) it.3) ∙ same))) ∙ it.2) refl)))

  -- ---- silent changes

  -- a release
  releases : (c : Task) → IsMember c s.tasks → c.role ≡ Coming → c.job.release ≡ s.clock
      → (NoneRuns s.tasks → Each (λ t. is_ready_behind t ≡ true → ⊥) s.tasks)
      → Next s p (Prints (Release c.number c.job))
  releases c member comes now free = record {
    can = (
      subst (λ m. ForSome (turn_at p m) (λ e. Each (λ f. e.deadline < f.deadline) p.held.held)) (sym now)
          (firsts (turn_at p s.clock) follows.turn),
      subst (λ m. room_with m p.held (turn_at p m) ≡ room s.clock (privileged s)) (sym now)
          (by_turn (turn_at p s.clock) refl follows.turn),
      refl,
    );
    follows = turned s sound p follows c member (idle_in c Coming comes (λ e. cc))
        (passes is_held c Coming false comes refl) Fresh (λ e. cc) refl;
  } where
    firsts : (o : Option Entry) → IsTurn s.tasks o
        → ForSome o (λ e. Each (λ f. e.deadline < f.deadline) p.held.held)
    firsts None none e at = absurd (let no : None ≡ Some e = at in cc)
    firsts (Some d) (r, r_in, runs, is) e at =
        subst (λ x. Each (λ f. x.deadline < f.deadline) p.held.held) (sym is ∙ some_same d e at)
        (before_entries r r_in runs)

    by_turn : (o : Option Entry) → turn_at p s.clock ≡ o → IsTurn s.tasks o
        → room_with s.clock p.held (turn_at p s.clock) ≡ room s.clock (privileged s)
    by_turn None at none = ap (room_with s.clock p.held) at
        ∙ ap (room s.clock) (sym (none_pass is_privileged s.tasks (λ t m. by_bool (is_privileged t ≡ false)
        (is_privileged t) (λ yes_. absurd (by_role t m (is_privileged_role t yes_))) (λ no_. no_)))) where
          by_role : (t : Task) → IsMember t s.tasks → (t.role ≡ Running) ⊎ (t.role ≡ Held) → ⊥
          by_role t m (inl runs) = none t m runs
          by_role t m (inr holds) = free none t m (passes is_ready_behind t Held true holds refl)
    by_turn (Some d) at (r, r_in, runs, is) = room_is r r_in runs

  -- an abandonment
  abandons : (x : Task) → IsMember x s.tasks → x.role ≡ Waiting → Next s p (Prints (Abandon s.clock x.number))
  abandons x member waits = record {
    can = (
      tt,
      refl,
      ap (λ (e : Entry). e.value) (follows.stored x member (idle_in x Waiting waits (λ e. cc)))
          ∙ sym (value_of_number s sound.numbered x member),
    );
    follows = follows_either true (turned s sound p follows x member (idle_in x Waiting waits (λ e. cc))
        (passes is_held x Waiting false waits refl) Gone (λ e. cc) refl);
  }

  -- a wait
  stays : (f : Task) → IsMember f s.tasks → f.role ≡ Fresh → Next s p (Waits f.number)
  stays f member fresh = record {
    can = tt;
    follows = turned s sound p follows f member (idle_in f Fresh fresh (λ e. cc))
        (passes is_held f Fresh false fresh refl) Waiting (λ e. cc) refl;
  }

  -- the end, or a tick
  pub rests : (b : Bool) (value : ℕ) → Next s p (then_some b (Prints (End value)) or_else Ticks)
  rests true value = record {
    can = (tt, refl, refl);
    follows = subst (λ ts. Follows (at_clock s ts) p) (sym (end_same s value)) follows;
  }
  rests false value = record { can = tt; follows = passed s sound p follows }

  -- the page follows each deed
  pub deed_next : (k : Fraction) (other : Move) → (Quiet s → Next s p other) → (m : Move) → Deed k s other m
      → Next s p m
  deed_next k other rested m (Completed r member runs) = completes r member runs
  deed_next k other rested m (Resumed q member holds none least why) = resumes q member holds least
  deed_next k other rested m (Started o member waits none first fits next) =
      begins o member (idle_in o Waiting waits (λ e. cc)) (passes is_held o Waiting false waits refl)
  deed_next k other rested m (Began f member fresh none free) =
      begins f member (idle_in f Fresh fresh (λ e. cc)) (passes is_held f Fresh false fresh refl)
  deed_next k other rested m (Preempted r f member runs some f_member fresh before fits) =
      preempts r member runs f f_member fresh
  deed_next k other rested m (Stayed r f member runs some f_member fresh why) = stays f f_member fresh
  deed_next k other rested m (Arrived c member comes now first stale busy free) = releases c member comes now free
  deed_next k other rested m (Taken r x member runs some x_member waits now stale heavy) =
      takes r member runs x x_member waits
  deed_next k other rested m (Abandoned r x member runs some x_member waits now stale light) =
      abandons x x_member waits
  deed_next k other rested m (Rested quiet) = rested quiet
