-- Jobs and what processors see of them, as members of lists; and what is left of the jobs that have a processor.
use Rattle.std.proofs.Common.{◌≡◌, ℕ, suc, ◌≤◌, ◌<◌, ◌⊎◌, inl, inr, List, [], ◌∷◌, map, refl, sym, ap, ◌∙◌}
use Rattle.std.proofs.Common.{subst, Bool, true, false, cond, arith, Option, Some, None, ◌&&◌, not, ◌==◌}
use Rattle.std.proofs.Common.{eqb-true, eq-eqb}
use Rattle.std.proofs.lemmas.Bool.{eqb-false}
use Rattle.dover_model.specs.declared.events.Task.{Task}
use Rattle.dover_model.specs.declared.events.Role.{Role}
use Rattle.dover_model.specs.declared.events.Version.{Version}
use Rattle.dover_model.specs.declared.events.Role.TheVariants.{Held, Running, Done}
use Rattle.dover_model.specs.Common.{is_running, is_privileged, left, with_role, running, IsMember, Each}
use Rattle.dover_model.specs.Common.{IsNumberedFrom, FitsRole, IsSound}
use Rattle.dover_model.proofs.lists.Tests.{never}
use Rattle.dover_model.proofs.lists.Members.{map_member, found, not_found}
use Rattle.dover_model.proofs.steps.Roles.{passes, is_running_role, is_privileged_role, numbers_above}
use Rattle.many_processors.specs.State.{Placed, State, is_elsewhere, seen_by, seen_from}
use Rattle.many_processors.specs.Step.{seen, completion, completion_of, all_seen}
use Rattle.many_processors.specs.Step.{numbers_from}
use Rattle.many_processors.specs.Sound.{ArePlaced}
use Rattle.many_processors.proofs.steps.Seeing.{seen_either, below_numbers}
use Rattle.many_processors.proofs.steps.Cases.{then_none}

-- ---- one job, as a processor sees it

-- its number, its job and what it had are its own
pub seen_same : (q : ℕ) (p : Placed) → ((seen_by q p).number ≡ p.task.number) × ((seen_by q p).job ≡ p.task.job)
    × ((seen_by q p).had ≡ p.task.had)
seen_same q p = by_test (is_elsewhere q p) where
  by_test : (b : Bool) → ((cond b (with_role p.task Done) p.task).number ≡ p.task.number)
      × ((cond b (with_role p.task Done) p.task).job ≡ p.task.job)
      × ((cond b (with_role p.task Done) p.task).had ≡ p.task.had)
  by_test true = (refl, refl, refl)
  by_test false = (refl, refl, refl)

-- a job on no processor is seen by each
pub off_seen : (q : ℕ) (p : Placed) → is_privileged p.task ≡ false → seen_by q p ≡ p.task
off_seen q p off = by_seen (seen_either q p) where
  by_seen : ((seen_by q p ≡ p.task) × (is_elsewhere q p ≡ false))
      ⊎ ((seen_by q p ≡ with_role p.task Done) × (is_privileged p.task ≡ true) × (is_elsewhere q p ≡ true))
      → seen_by q p ≡ p.task
  by_seen (inl it) = it.0
  by_seen (inr it) = never (sym off ∙ it.1)

-- its own are seen by a processor
pub own_seen : (q : ℕ) (p : Placed) → p.owner ≡ q → seen_by q p ≡ p.task
own_seen q p own = ap (λ b. cond b (with_role p.task Done) p.task)
    (neither (is_privileged p.task) (p.owner == q) (eq-eqb _ _ own)) where
      neither : (a b : Bool) → b ≡ true → (a && not b) ≡ false
      neither true true e = refl
      neither false b e = refl
      neither true false e = never e

-- what is seen in another role than Done is the job itself
pub seen_is : (q : ℕ) (p : Placed) → ((seen_by q p).role ≡ Done → ⊥) → seen_by q p ≡ p.task
seen_is q p other = by_seen (seen_either q p) where
  by_seen : ((seen_by q p ≡ p.task) × (is_elsewhere q p ≡ false))
      ⊎ ((seen_by q p ≡ with_role p.task Done) × (is_privileged p.task ≡ true) × (is_elsewhere q p ≡ true))
      → seen_by q p ≡ p.task
  by_seen (inl it) = it.0
  by_seen (inr it) = absurd (other (ap (λ (t : Task). t.role) it.0))

-- and where it is on a processor, it is on this one
pub seen_own : (q : ℕ) (p : Placed) → is_privileged (seen_by q p) ≡ true → (seen_by q p ≡ p.task) × (p.owner ≡ q)
seen_own q p on = by_seen (seen_either q p) where
  own : (a b : Bool) → a ≡ true → (a && not b) ≡ false → b ≡ true
  own true true e h = refl
  own true false e h = never (sym h)
  own false b e h = never e

  by_seen : ((seen_by q p ≡ p.task) × (is_elsewhere q p ≡ false))
      ⊎ ((seen_by q p ≡ with_role p.task Done) × (is_privileged p.task ≡ true) × (is_elsewhere q p ≡ true))
      → (seen_by q p ≡ p.task) × (p.owner ≡ q)
  by_seen (inl it) = (
    it.0,
    eqb-true _ _ (own (is_privileged p.task) (p.owner == q) (sym (ap is_privileged it.0) ∙ on) it.1),
  )
  by_seen (inr it) = never (sym (ap is_privileged it.0) ∙ on)

-- ---- members

-- what is seen is seen of some job
pub seen_of : (q : ℕ) (jobs : List Placed) (t : Task) → IsMember t (map (seen_by q) jobs)
    → (p : Placed) × IsMember p jobs × (seen_by q p ≡ t)
seen_of q [] t member = absurd member
seen_of q (p ∷ jobs) t (inl e) = (p, inl refl, sym e)
seen_of q (p ∷ jobs) t (inr member) = let it = seen_of q jobs t member in (it.0, inr it.1, it.2)

-- in a role that isn't Done it is that job
pub seen_member : (q : ℕ) (jobs : List Placed) (t : Task) (role : Role) → (role ≡ Done → ⊥) → t.role ≡ role
    → IsMember t (map (seen_by q) jobs) → (p : Placed) × IsMember p jobs × (p.task ≡ t) × (seen_by q p ≡ t)
seen_member q jobs t role other e member =
    let it = seen_of q jobs t member in
    (it.0, it.1, sym (seen_is q it.0 (λ d. other (sym e ∙ sym (ap (λ (u : Task). u.role) it.2) ∙ d))) ∙ it.2, it.2)

-- a job on no processor is a member of what each sees
pub off_member : (q : ℕ) (jobs : List Placed) (p : Placed) → IsMember p jobs → is_privileged p.task ≡ false
    → IsMember p.task (map (seen_by q) jobs)
off_member q jobs p member off = subst (λ t. IsMember t (map (seen_by q) jobs)) (off_seen q p off)
    (map_member (seen_by q) jobs p member)

-- a job is known by its number
pub one_placed : (q n : ℕ) (jobs : List Placed) → IsNumberedFrom n (map (seen_by q) jobs) → (p u : Placed)
    → IsMember p jobs → IsMember u jobs → p.task.number ≡ u.task.number → p ≡ u
one_placed q n [] all p u mp mu same = absurd mp
one_placed q n (x ∷ jobs) all p u (inl e) (inl e2) same = e ∙ sym e2
one_placed q n (x ∷ jobs) all p u (inl e) (inr mu) same = absurd (
    let here : p.task.number ≡ n = ap (λ (y : Placed). y.task.number) e ∙ sym (seen_same q x).0 ∙ all.0 in
    let later : suc n ≤ (seen_by q u).number = numbers_above (suc n) (map (seen_by q) jobs) all.1 (seen_by q u)
    (map_member (seen_by q) jobs u mu) in omega (arith, (seen_same q u).0))
one_placed q n (x ∷ jobs) all p u (inr mp) (inl e) same = absurd (
    let here : u.task.number ≡ n = ap (λ (y : Placed). y.task.number) e ∙ sym (seen_same q x).0 ∙ all.0 in
    let later : suc n ≤ (seen_by q p).number = numbers_above (suc n) (map (seen_by q) jobs) all.1 (seen_by q p)
    (map_member (seen_by q) jobs p mp) in omega (arith, (seen_same q p).0))
one_placed q n (x ∷ jobs) all p u (inr mp) (inr mu) same = one_placed q (suc n) jobs all.1 p u mp mu same

-- ---- what is left

module _ (s : State) (sound : (q : ℕ) → IsSound (seen_from q s)) where
  -- who runs is what its processor sees running
  pub own_running : (p : Placed) → IsMember p s.jobs → p.task.role ≡ Running
      → running (seen_from p.owner s) ≡ Some p.task
  own_running p member runs = by_found (running (seen_from p.owner s)) refl where
    is_seen : seen_by p.owner p ≡ p.task
    is_seen = own_seen p.owner p refl

    p_member : IsMember p.task (map (seen_by p.owner) s.jobs)
    p_member = subst (λ t. IsMember t (map (seen_by p.owner) s.jobs)) is_seen
        (map_member (seen_by p.owner) s.jobs p member)

    by_found : (o : Option Task) → running (seen_from p.owner s) ≡ o → running (seen_from p.owner s) ≡ Some p.task
    by_found None none = never (sym (not_found is_running (map (seen_by p.owner) s.jobs) none p.task p_member)
        ∙ passes is_running p.task Running true runs refl)
    by_found (Some t) some =
        let it = found is_running (map (seen_by p.owner) s.jobs) t some in
        let t_runs : t.role ≡ Running = is_running_role t it.1 in
        let u = seen_member p.owner s.jobs t Running (λ e. cc) t_runs it.0 in
        let same : t.number ≡ p.task.number = (sound p.owner).one_runs t p.task it.0 p_member t_runs runs in
        some ∙ ap Some (sym u.2 ∙ ap (λ (y : Placed). y.task)
        (one_placed p.owner 0 s.jobs (sound p.owner).numbered u.0 p u.1 member
        (ap (λ (x : Task). x.number) u.2 ∙ same)))

module _ (processors : ℕ) (s : State) (version : Version)
    (sound : (q : ℕ) → IsSound (seen_from q s)) (placed : ArePlaced processors s)
    (going : Each (λ q. completion q ≡ None) (all_seen processors version s)) where
  -- what runs has some left
  running_left : (p : Placed) → IsMember p s.jobs → p.task.role ≡ Running → 1 ≤ left p.task
  running_left p member runs =
      let low : p.owner < processors = placed.owners p member (passes is_privileged p.task Running true runs refl) in
      let none : completion (seen version s p.owner) ≡ None = going (seen version s p.owner)
      (map_member (seen version s) (numbers_from 0 processors) p.owner
      (below_numbers p.owner 0 processors (omega arith) (omega (arith, low)))) in
      let goes : completion_of (seen version s p.owner) (Some p.task) ≡ None =
      subst (λ o. completion_of (seen version s p.owner) o ≡ None) (own_running s sound p member runs) none in
      let not_zero : left p.task ≡ 0 → ⊥ = eqb-false _ _ (then_none _ _ goes) in omega arith

  -- what is held has
  held_left : (p : Placed) → IsMember p s.jobs → p.task.role ≡ Held → 1 ≤ left p.task
  held_left p member held = fits.0 where
    same : seen_by p.owner p ≡ p.task
    same = own_seen p.owner p refl

    fits : FitsRole s.clock Held p.task
    fits = subst (λ role. FitsRole s.clock role p.task) held
        (subst (λ t. FitsRole s.clock t.role t) same
        ((sound p.owner).roles (seen_by p.owner p) (map_member (seen_by p.owner) s.jobs p member)))

  -- all jobs on a processor have some left
  pub all_left : Each (λ p. is_privileged p.task ≡ true → 1 ≤ left p.task) s.jobs
  all_left p member on = by_role (is_privileged_role p.task on) where
    by_role : (p.task.role ≡ Running) ⊎ (p.task.role ≡ Held) → 1 ≤ left p.task
    by_role (inl runs) = running_left p member runs
    by_role (inr held) = held_left p member held
