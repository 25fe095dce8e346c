-- The load of the running and the held jobs, as sums over all tasks, and what a change of roles does to it.
use Rattle.std.proofs.Common.{◌≡◌, ℕ, suc, ◌+◌, ◌≤◌, inl, inr, List, [], ◌∷◌, map, refl, ap, ◌∙◌, subst, Bool, true}
use Rattle.std.proofs.Common.{false, cond, arith, ◌<◌, nat_lt, sum_by, filter, ltb-true}
use Rattle.std.proofs.lemmas.List.Sums.{sum_by-cons}
use Rattle.dover_model.specs.Common.{Role, Task, State, is_privileged, left, demand_up_to, privileged, with_role}
use Rattle.dover_model.specs.Common.{IsMember, Each, IsNumberedFrom}
use Rattle.dover_model.specs.Sound.{HasRoom}
use Rattle.dover_model.proofs.lists.Members.{sum_filter, sum_le, sum_map, on_map, by_bool}
use Rattle.dover_model.proofs.steps.Roles.{numbers_above}
use Rattle.dover_model.proofs.lists.Tests.{never}

-- a sum in which one term rises by b or falls by a at most, and no other rises
pub sum_change : (f g : Task → ℕ) (a b n : ℕ) (tasks : List Task) (r : Task) → IsNumberedFrom n tasks → IsMember r tasks
    → f r + a ≤ g r + b → ((u : Task) → IsMember u tasks → (u.number ≡ r.number → ⊥) → f u ≤ g u)
    → sum_by f tasks + a ≤ sum_by g tasks + b
sum_change f g a b n [] r numbered member here others = absurd member
sum_change f g a b n (x ∷ tasks) r numbered (inl e) here others =
    let at_x : f x + a ≤ g x + b = subst (λ z. f z + a ≤ g z + b) e here in
    let same : r.number ≡ n = ap (λ (y : Task). y.number) e ∙ numbered.0 in
    let rest : sum_by f tasks ≤ sum_by g tasks =
    sum_le f g tasks (λ u m. others u (inr m)
    (λ twin. let above : suc n ≤ u.number = numbers_above (suc n) tasks numbered.1 u m in absurd (omega arith))) in
    omega (arith, sum_by-cons f x tasks, sum_by-cons g x tasks)
sum_change f g a b n (x ∷ tasks) r numbered (inr member) here others =
    let at_x : f x ≤ g x = others x (inl refl)
    (λ twin. let above : suc n ≤ r.number = numbers_above (suc n) tasks numbered.1 r member in let low : x.number ≡ n =
    numbered.0 in absurd (omega arith)) in
    let rest : sum_by f tasks + a ≤ sum_by g tasks + b =
    sum_change f g a b (suc n) tasks r numbered.1 member here (λ u m. others u (inr m)) in
    omega (arith, sum_by-cons f x tasks, sum_by-cons g x tasks)

-- what u adds to the load of t, where it is in the set
abbrev pub share : Bool → Task → Task → ℕ
share is_in t u = cond is_in (cond (nat_lt u.job.deadline t.job.deadline) (left u) 0) 0

-- what t and those due before it have left
abbrev pub load : List Task → Task → ℕ
load tasks t = left t + sum_by (λ u. share (is_privileged u) t u) tasks

-- the demand of a filtered set, as a sum over all tasks
pub demand_is : (q : Task → Bool) (tasks : List Task) (t : Task)
    → demand_up_to (filter q tasks) t ≡ left t + sum_by (λ u. share (q u) t u) tasks
demand_is q tasks t = ap (λ n. left t + n)
    (sum_filter (λ u. nat_lt u.job.deadline t.job.deadline) left (filter q tasks)
    ∙ sum_filter q (λ u. cond (nat_lt u.job.deadline t.job.deadline) (left u) 0) tasks)

-- each running or held job is in time with so many ticks before it
abbrev pub Fits : ℕ → State → Type 0
Fits amount s = Each (λ t. is_privileged t ≡ true → s.clock + load s.tasks t + amount ≤ t.job.deadline) s.tasks

-- where nothing more fits exactly, there is room
pub room_of_fits : (s : State) → Fits 0 s → HasRoom s
room_of_fits s fits t member is_in = let fit : s.clock + load s.tasks t + 0 ≤ t.job.deadline = fits t member is_in in
    omega (arith, demand_is is_privileged s.tasks t)

-- and the other way round
pub fits_of_room : (s : State) → HasRoom s → Fits 0 s
fits_of_room s room t member is_in = let fit : s.clock + demand_up_to (privileged s) t ≤ t.job.deadline =
    room t member is_in in
    omega (arith, demand_is is_privileged s.tasks t)

-- each task in its new role
abbrev pub with_roles : (Task → Role) → List Task → List Task
with_roles g tasks = map (λ t. with_role t (g t)) tasks

-- the state with these roles
abbrev pub state_in : State → (Task → Role) → State
state_in s g = record s { tasks = with_roles g s.tasks }

-- a smaller set adds less
pub share_le : (a b : Bool) (t u : Task) → (a ≡ true → b ≡ true) → share a t u ≤ share b t u
share_le true true t u h = omega arith
share_le true false t u h = never (h refl)
share_le false b t u h = omega arith

-- a job that is due no sooner adds nothing
pub share_later : (b : Bool) (t u : Task) → t.job.deadline ≤ u.job.deadline → share b t u ≡ 0
share_later false t u h = refl
share_later true t u h = by_bool _ (nat_lt u.job.deadline t.job.deadline)
    (λ due. let less : u.job.deadline < t.job.deadline = ltb-true _ _ due in absurd (omega arith))
    (λ e. ap (λ b. cond b (left u) 0) e)

-- a job adds at most what it has left
pub share_most : (b : Bool) (t u : Task) → share b t u ≤ left u
share_most false t u = omega arith
share_most true t u = by_due (nat_lt u.job.deadline t.job.deadline) where
  by_due : (b : Bool) → cond b (left u) 0 ≤ left u
  by_due true = omega arith
  by_due false = omega arith

-- a smaller set has smaller loads
pub load_fewer : (g : Task → Role) (tasks : List Task) (t : Task)
    → Each (λ u. is_privileged (with_role u (g u)) ≡ true → is_privileged u ≡ true) tasks
    → load (with_roles g tasks) t ≤ load tasks t
load_fewer g tasks t fewer =
    let less : sum_by (λ u. share (is_privileged u) t u) (with_roles g tasks) ≤ sum_by
    (λ u. share (is_privileged u) t u) tasks =
    rw (sum_map (λ u. with_role u (g u)) (λ u. share (is_privileged u) t u) tasks)
    (sum_le (λ u. share (is_privileged (with_role u (g u))) t u) (λ u. share (is_privileged u) t u) tasks
    (λ u m. share_le (is_privileged (with_role u (g u))) (is_privileged u) t u (fewer u m))) in
    omega arith

-- no job is new in the set, so each has the room that it had
pub fits_fewer : (amount : ℕ) (g : Task → Role) (s : State)
    → Each (λ u. is_privileged (with_role u (g u)) ≡ true → is_privileged u ≡ true) s.tasks
    → Fits amount s → Fits amount (state_in s g)
fits_fewer amount g s fewer fits =
    on_map (λ t. with_role t (g t))
    (λ t. is_privileged t ≡ true → s.clock + load (with_roles g s.tasks) t + amount ≤ t.job.deadline) s.tasks
    (λ t member is_in.
    let old : s.clock + load s.tasks t + amount ≤ t.job.deadline = fits t member (fewer t member is_in) in
    let less : load (with_roles g s.tasks) t ≤ load s.tasks t = load_fewer g s.tasks t fewer in
    omega arith)
