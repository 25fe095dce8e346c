-- What one job's new role has to meet, so that a sound state stays sound.
use Rattle.std.proofs.Common.{◌≡◌, ℕ, ◌≤◌, ◌<◌, List, refl, sym, ◌∙◌, subst, Bool, true, false, cond, eqb}
use Rattle.std.proofs.lemmas.Bool.{eqb-true, eq-eqb, ne_eqb}
use Rattle.dover_model.specs.Common.{Role, Coming, Fresh, Held, Running, Task, State, is_privileged, with_role}
use Rattle.dover_model.specs.Common.{IsMember, Each, EachTwo, IsNumberedFrom, FitsRole, IsSound}
use Rattle.dover_model.proofs.lists.Members.{on_map, map_member}
use Rattle.dover_model.proofs.steps.Roles.{one_number, numbered_map}
use Rattle.dover_model.proofs.steps.Loads.{with_roles, state_in, Fits, room_of_fits}
use Rattle.dover_model.proofs.lists.Tests.{never}

-- the role of t where r has a new one
abbrev pub changed : Task → Role → Task → Role
changed r new t = cond (eqb t.number r.number) new t.role

-- the state where r has a new role
abbrev pub state_with : State → Task → Role → State
state_with s r new = state_in s (changed r new)

-- of each other job
abbrev pub EachOther : Task → (Task → Type 0) → List Task → Type 0
EachOther r P tasks = (t : Task) → IsMember t tasks → (t.number ≡ r.number → ⊥) → P t

module _ (n : ℕ) (tasks : List Task) (numbered : IsNumberedFrom n tasks) (r : Task) (member : IsMember r tasks)
    (new : Role) where
  -- of each job, by what it is now
  pub on_changed_role : (P : Task → Role → Type 0) → P r new → EachOther r (λ t. P t t.role) tasks
      → Each (λ t. P t (changed r new t)) tasks
  on_changed_role P here others t m = by_number (eqb t.number r.number) refl where
    by_number : (b : Bool) → eqb t.number r.number ≡ b → P t (cond b new t.role)
    by_number true same = subst (λ x. P x new) (sym (one_number n tasks numbered t r m member (eqb-true _ _ same))) here
    by_number false differs = others t m (λ same. never (sym differs ∙ eq-eqb _ _ same))

  -- of each job in its new role
  pub on_changed : (P : Task → Type 0) → P (with_role r new) → EachOther r P tasks
      → Each P (with_roles (changed r new) tasks)
  on_changed P here others =
      on_map (λ t. with_role t (changed r new t)) P tasks (on_changed_role (λ t role. P (with_role t role)) here others)

  -- r in its new role is there
  pub changed_here : IsMember (with_role r new) (with_roles (changed r new) tasks)
  changed_here = subst (λ b. IsMember (with_role r (cond b new r.role)) (with_roles (changed r new) tasks))
      (eq-eqb r.number r.number refl)
      (map_member (λ t. with_role t (changed r new t)) tasks r member)

-- so is each other job
pub changed_there : (tasks : List Task) (r t : Task) (new : Role) → IsMember t tasks → (t.number ≡ r.number → ⊥)
    → IsMember t (with_roles (changed r new) tasks)
changed_there tasks r t new m differs =
    subst (λ b. IsMember (with_role t (cond b new t.role)) (with_roles (changed r new) tasks))
    (ne_eqb t.number r.number differs)
    (map_member (λ u. with_role u (changed r new u)) tasks t m)

-- what has to hold where r has a new role
pub record Allows (s : State) (r : Task) (new : Role) : Type 0 where
  pub fits : FitsRole s.clock new (with_role r new)
  pub not_coming : new ≡ Coming → ⊥
  pub coming_behind : EachOther r (λ t. t.role ≡ Coming → t.number ≤ r.number → ⊥) s.tasks
  pub stale : new ≡ Fresh → EachOther r (λ t. t.role ≡ Fresh → ⊥) s.tasks
  pub runs_alone : new ≡ Running → EachOther r (λ t. t.role ≡ Running → ⊥) s.tasks
  pub distinct : is_privileged (with_role r new) ≡ true
      → EachOther r (λ t. is_privileged t ≡ true → t.job.deadline ≡ r.job.deadline → ⊥) s.tasks
  pub runs_first : new ≡ Running → EachOther r (λ t. t.role ≡ Held → r.job.deadline < t.job.deadline) s.tasks
  pub held_behind : new ≡ Held → EachOther r (λ t. t.role ≡ Running → t.job.deadline < r.job.deadline) s.tasks
  pub room : Fits 0 (state_with s r new)

module _ (s : State) (sound : IsSound s) (r : Task) (new : Role) (member : IsMember r s.tasks)
    (ok : Allows s r new) where
  -- of each job in its new role
  each : (P : Task → Type 0) → P (with_role r new) → EachOther r P s.tasks → Each P (with_roles (changed r new) s.tasks)
  each = on_changed 0 s.tasks sound.numbered r member new

  -- of each two jobs in their new roles
  two : (R : Task → Task → Type 0) → R (with_role r new) (with_role r new)
      → EachOther r (λ u. R (with_role r new) u) s.tasks
      → EachOther r (λ t. R t (with_role r new)) s.tasks
      → EachTwo R s.tasks → EachTwo R (with_roles (changed r new) s.tasks)
  two R both here there old t u mt mu = each (λ x. (y : Task) → IsMember y (with_roles (changed r new) s.tasks) → R x y)
      (each (λ y. R (with_role r new) y) both here)
      (λ x mx differs. each (λ y. R x y) (there x mx differs) (λ y my _. old x y mx my)) t mt u mu

  -- a change that is allowed keeps a sound state sound
  pub stays_sound : IsSound (state_with s r new)
  stays_sound = record {
    numbered = numbered_map (λ t. with_role t (changed r new t)) (λ t. refl) 0 s.tasks sound.numbered;
    at_most_work = each (λ t. t.had ≤ t.job.work) (sound.at_most_work r member) (λ t m _. sound.at_most_work t m);
    roles = each (λ t. FitsRole s.clock t.role t) ok.fits (λ t m _. sound.roles t m);
    coming_last = two (λ t u. t.role ≡ Coming → t.number ≤ u.number → u.role ≡ Coming) (λ comes _. comes)
        (λ u _ _ comes _. absurd (ok.not_coming comes))
        (λ t m differs comes before. absurd (ok.coming_behind t m differs comes before)) sound.coming_last;
    one_runs = two (λ t u. t.role ≡ Running → u.role ≡ Running → t.number ≡ u.number) (λ _ _. refl)
        (λ u m differs runs other. absurd (ok.runs_alone runs u m differs other))
        (λ t m differs other runs. absurd (ok.runs_alone runs t m differs other)) sound.one_runs;
    one_fresh = two (λ t u. t.role ≡ Fresh → u.role ≡ Fresh → t.number ≡ u.number) (λ _ _. refl)
        (λ u m differs is_new fresh. absurd (ok.stale is_new u m differs fresh))
        (λ t m differs fresh is_new. absurd (ok.stale is_new t m differs fresh)) sound.one_fresh;
    distinct = two (λ t u. is_privileged t ≡ true → is_privileged u ≡ true → t.job.deadline ≡ u.job.deadline
        → t.number ≡ u.number) (λ _ _ _. refl)
        (λ u m differs is_in other same. absurd (ok.distinct is_in u m differs other (sym same)))
        (λ t m differs other is_in same. absurd (ok.distinct is_in t m differs other same)) sound.distinct;
    running_first = two (λ t u. t.role ≡ Running → u.role ≡ Held → t.job.deadline < u.job.deadline)
        (λ runs held. absurd (not_both new runs held))
        (λ u m differs runs held. ok.runs_first runs u m differs held)
        (λ t m differs runs held. ok.held_behind held t m differs runs) sound.running_first;
    room = room_of_fits (state_with s r new) ok.room;
  } where
    not_both : (role : Role) → role ≡ Running → role ≡ Held → ⊥
    not_both role runs held = let e : Running ≡ Held = sym runs ∙ held in cc
