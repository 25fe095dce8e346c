-- How comparisons are paid for: each step pays for the times that jobs begin and cease to wait by it.
use Rattle.std.proofs.Common.{ℕ, ◌≤◌, arith, ◌||◌, ◌*◌, ◌-◌, List, ◌∷◌, length, ◌≡◌, ◌+◌, subst, ◌<◌, ◌^◌, ap, ◌⊎◌, inl}
use Rattle.std.proofs.Common.{[], inr, refl, Bool, true, false, ◌++◌, sym, cond, ◌∙◌, not, eq-eqb, nat_lt, ◌&&◌, sum_by}
use Rattle.std.proofs.Common.{count_by}
use Rattle.std.proofs.lemmas.List.Sums.{sum_by-cons, sum_by-append}
use Rattle.std.proofs.lemmas.List.{length-map}
use Rattle.std.proofs.Math.Nat.{mul-le-mul_left, mul-le-mul_right}
use Rattle.dover_model.specs.Common.{Role, Coming, Fresh, Waiting, Held, Running, Gone, Task, latest_start, State}
use Rattle.dover_model.specs.Common.{is_waiting, weight_in, weight, standing, one_if, stands, exits_scale}
use Rattle.dover_model.specs.Common.{waiting_count, exits, waits_among, HasSpentFor, CostsAtMost, cost_of, with_role}
use Rattle.dover_model.specs.Common.{after, Move, Prints, open_step, displaced, Rules, Instance, IsValid}
use Rattle.dover_model.specs.Common.{bare, Keeps, IsMember, enters, leaves, waits_then, Run, Take, Abandon}
use Rattle.dover_model.proofs.runs.Potential.{one_most, lower_test}
use Rattle.dover_model.specs.Spending.{waits_so_far}
use Rattle.dover_model.proofs.runs.WaitingMoves.{counts_balance, open_leaves}
use Rattle.dover_model.proofs.lists.Members.{sum_le, term_le_sum}
use Rattle.dover_model.proofs.lists.Tests.{never}
use Rattle.dover_model.proofs.steps.Roles.{passes}

-- ---- what may still come

-- a job ceases to wait twice at most
pub exits_each : (clock w : ℕ) (t : Task) (role : Role) → weight_in exits_scale role clock w t ≤ 2
exits_each clock w t Waiting = omega (arith, one_most (nat_lt clock (latest_start t) || nat_lt w t.job.value))
exits_each clock w t Held = omega (arith, one_most (nat_lt clock (latest_start t)))
exits_each clock w t Running = omega (arith, one_most (nat_lt clock (latest_start t)))
exits_each clock w t _ = omega arith

-- two each
pub sum_twice : (f : Task → ℕ) → ((t : Task) → f t ≤ 2) → (ts : List Task) → sum_by f ts ≤ 2 * length ts
sum_twice f most [] = omega arith
sum_twice f most (t ∷ ts) = omega (arith, sum_by-cons f t ts, most t, sum_twice f most ts)

exits_most : (s : State) → exits s ≤ 2 * length s.tasks
exits_most s = sum_twice (weight exits_scale s.clock (standing [] s.tasks))
    (λ t. exits_each s.clock (standing [] s.tasks) t t.role) s.tasks

-- a job that waits may cease to
waits_least : (clock w : ℕ) (t : Task) (role : Role)
    → one_if (is_waiting (with_role t role)) ≤ weight_in exits_scale role clock w t
waits_least clock w t Coming = omega arith
waits_least clock w t _ = omega arith

waiting_least : (s : State) → waiting_count s ≤ exits s
waiting_least s = sum_le (λ t. one_if (is_waiting t)) (weight exits_scale s.clock (standing [] s.tasks)) s.tasks
    (λ t m. waits_least s.clock (standing [] s.tasks) t t.role)

-- what has come, and what may still come
pub so_far : (s : State) → waits_so_far s + 2 * exits s ≡ 4 * length s.tasks + waiting_count s
so_far s = by_numbers (length s.tasks) (waiting_count s) (exits s) (exits_most s) where
  by_numbers : (n w e : ℕ) → e ≤ 2 * n → ((4 * n + w) - 2 * e) + 2 * e ≡ 4 * n + w
  by_numbers n w e most = omega arith

-- the same of so many
pub so_far_for : (n : ℕ) (s : State) → length s.tasks ≡ n → waits_among n s + 2 * exits s ≡ 4 * n + waiting_count s
so_far_for n s count = subst (λ m. waits_among m s + 2 * exits s ≡ 4 * m + waiting_count s) count (so_far s)

-- four times each at most
pub among_most : (n : ℕ) (s : State) → waits_among n s ≤ 4 * n
among_most n s = by_numbers (waiting_count s) (exits s) (waiting_least s) where
  by_numbers : (w e : ℕ) → w ≤ e → (4 * n + w) - 2 * e ≤ 4 * n
  by_numbers w e least = omega arith

-- ---- what a run has cost so far

-- what all that has come costs is few
pub all_few : (n d waits start now : ℕ) → waits ≤ 4 * n → now ≤ start + 20 * d * waits → now ≤ start + 80 * (n + 1) * d
all_few n d waits start now most few =
    let product : 20 * d * waits ≤ 20 * d * (4 * n) =
    mul-le-mul_left (20 * d) (omega (arith, most)) in
    omega (arith, few, product)

pub spent_few : (n : ℕ) (s : State) (start now : ℕ) → HasSpentFor n s start now → CostsAtMost n start now
spent_few n s start now spent = λ d enough.
    all_few n d (waits_among n s) start now (among_most n s) (spent d enough)

-- none are few
pub none_few : (n count : ℕ) → CostsAtMost n count count
none_few n count = λ d enough. omega arith

-- those that are few for some jobs are few for more
pub few_more : (n m before after : ℕ) → n ≤ m → CostsAtMost n before after → CostsAtMost m before after
few_more n m before after most few = λ d enough.
    let less : n + 1 < 2 ^ d = omega (arith, enough, most) in
    let product : 80 * (n + 1) * d ≤ 80 * (m + 1) * d =
    mul-le-mul_right d (omega (arith, most)) in
    omega (arith, few d less, product)

-- what comes by a step is paid for
pub spent_on : (n : ℕ) (s u : State) (start before now : ℕ)
    → ((d : ℕ) → n + 1 < 2 ^ d → now + 20 * d * waits_among n s ≤ before + 20 * d * waits_among n u)
    → HasSpentFor n s start before → HasSpentFor n u start now
spent_on n s u start before now pays spent = λ d enough.
    joins (20 * d * waits_among n s) (20 * d * waits_among n u) (spent d enough) (pays d enough) where
      joins : (was is : ℕ) → before ≤ start + was → now + was ≤ before + is → now ≤ start + is
      joins was is first second = omega (arith, first, second)

-- ---- steps

-- 20 * d for each time is enough, in three orders at most
pub twenty : (orders d m n : ℕ) → orders ≤ 3 → orders * d * m + 3 * orders * d * n ≤ 20 * d * (m + n)
twenty orders d m n few = omega (
  arith,
  mul-le-mul_right (d * m) few,
  mul-le-mul_right (d * n) few,
)

-- what costs c for each of so many, paid for
pub cost_paid : (c n a b x y before after : ℕ) → n + (a + x) ≤ b + y → after ≤ before + c * n
    → after + c * (a + x) ≤ before + c * (b + y)
cost_paid c n a b x y before after paid few = omega (arith, few, mul-le-mul_left c paid)

-- what is paid, in what has come
pub paid_so_far : (c n ev eu wv wu mv mu before after : ℕ) → mv + 2 * ev ≡ 4 * n + wv → mu + 2 * eu ≡ 4 * n + wu
    → after + c * (2 * eu + wv) ≤ before + c * (2 * ev + wu) → after + c * mv ≤ before + c * mu
paid_so_far c n ev eu wv wu mv mu before after v u paid =
    omega (arith, paid, ap (λ x. c * x) v, ap (λ x. c * x) u)

-- a move leaves as many tasks
pub after_count : (s : State) (m : Move) → length (after s m).tasks ≡ length s.tasks
after_count s (Prints e) = length-map s.tasks _
after_count s _ = length-map s.tasks _

module _ (J : Instance) (valid : IsValid J) (rules : Rules) (s : State) (keeps : Keeps J s) where
  -- the step, and the state that it leaves
  abbrev m : Move
  m = open_step (bare rules) s

  abbrev u : State
  u = after s m

  -- what a step lets cease to wait is taken from what may still come
  pub open_falls : exits u + waiting_count s ≤ exits s + waiting_count u
  open_falls = omega (arith, open_leaves J valid (bare rules) s keeps (λ _ _ _. refl), counts_balance s m)

  -- an open step pays for what has come by it
  pub open_pays : (orders d before later : ℕ) → orders ≤ 3 → later ≤ before + cost_of orders d s m
      → later + 20 * d * waits_so_far s ≤ before + 20 * d * waits_among (length s.tasks) u
  open_pays orders d before later few cost =
      paid_so_far (20 * d) (length s.tasks) (exits s) (exits u) (waiting_count s) (waiting_count u)
      (waits_so_far s) (waits_among (length s.tasks) u) before later (so_far s)
      (so_far_for (length s.tasks) u (after_count s m))
      (cost_paid (20 * d) (enters s m + leaves s m) (2 * exits u) (2 * exits s) (waiting_count s) (waiting_count u)
      before later
      (omega (arith, open_leaves J valid (bare rules) s keeps (λ _ _ _. refl), counts_balance s m))
      (omega (arith, cost, twenty orders d (enters s m) (leaves s m) few)))

-- ---- a job more

-- one to come or fresh weighs two
two_each : (clock w : ℕ) (t : Task) → (t.role ≡ Coming) ⊎ (t.role ≡ Fresh) → weight exits_scale clock w t ≡ 2
two_each clock w t (inl e) = ap (λ role. weight_in exits_scale role clock w t) e
two_each clock w t (inr e) = ap (λ role. weight_in exits_scale role clock w t) e

none_stands : (t : Task) → (t.role ≡ Coming) ⊎ (t.role ≡ Fresh) → stands [] t ≡ 0
none_stands t (inl e) = ap (λ role. stands [] (with_role t role)) e
none_stands t (inr e) = ap (λ role. stands [] (with_role t role)) e

none_waits : (t : Task) → (t.role ≡ Coming) ⊎ (t.role ≡ Fresh) → one_if (is_waiting t) ≡ 0
none_waits t (inl e) = ap (λ role. one_if (is_waiting (with_role t role))) e
none_waits t (inr e) = ap (λ role. one_if (is_waiting (with_role t role))) e

later_less : (clock later at : ℕ) → clock ≤ later → one_if (nat_lt later at) ≤ one_if (nat_lt clock at)
later_less clock later at less = by_test (nat_lt later at) (nat_lt clock at) (lower_test clock later at less) where
  by_test : (a b : Bool) → (a ≡ true → b ≡ true) → one_if a ≤ one_if b
  by_test false b h = omega arith
  by_test true true h = omega arith
  by_test true false h = never (h refl)

or_still : (a b c : Bool) → (a ≡ true → b ≡ true) → one_if (a || c) ≤ one_if (b || c)
or_still false true c h = omega (arith, one_most c)
or_still false false c h = omega arith
or_still true true c h = omega arith
or_still true false c h = never (h refl)

-- at a later clock a job may cease to wait no more often
weight_later : (clock later w : ℕ) (t : Task) (role : Role) → clock ≤ later
    → weight_in exits_scale role later w t ≤ weight_in exits_scale role clock w t
weight_later clock later w t Waiting less = omega (
  arith,
  or_still (nat_lt later (latest_start t)) (nat_lt clock (latest_start t)) (nat_lt w t.job.value)
      (lower_test clock later (latest_start t) less),
)
weight_later clock later w t Held less = omega (arith, later_less clock later (latest_start t) less)
weight_later clock later w t Running less = omega (arith, later_less clock later (latest_start t) less)
weight_later clock later w t _ less = omega arith

module _ (n : ℕ) (s : State) (clock : ℕ) (t : Task) (later : s.clock ≤ clock)
    (new : (t.role ≡ Coming) ⊎ (t.role ≡ Fresh)) where
  -- the state with the job, at a later clock
  abbrev more : State
  more = record s { clock = clock; tasks = s.tasks ++ t ∷ [] }

  one_more : (f : Task → ℕ) (a : ℕ) → f t ≡ a → sum_by f (s.tasks ++ t ∷ []) ≡ sum_by f s.tasks + a
  one_more f a is = omega (arith, is, sum_by-append f s.tasks (t ∷ []), sum_by-cons f t [])

  -- it doesn't stand against a take
  more_standing : standing [] more.tasks ≡ standing [] s.tasks
  more_standing = let all = one_more (stands []) 0 (none_stands t new) in omega (arith, all)

  -- it may cease to wait twice
  more_exits : exits more ≤ exits s + 2
  more_exits = subst (λ w. sum_by (weight exits_scale clock w) (s.tasks ++ t ∷ []) ≤ exits s + 2) (sym more_standing)
      (omega (
        arith,
        one_more (weight exits_scale clock (standing [] s.tasks)) 2 (two_each clock (standing [] s.tasks) t new),
        sum_le (weight exits_scale clock (standing [] s.tasks)) (weight exits_scale s.clock
            (standing [] s.tasks)) s.tasks
            (λ u m. weight_later s.clock clock (standing [] s.tasks) u u.role later),
      ))

  -- nothing that came goes by that
  pub more_among : waits_among n s ≤ waits_among (n + 1) more
  more_among = by_numbers (waiting_count s) (waiting_count more) (exits s) (exits more) more_exits
      (one_more (λ u. one_if (is_waiting u)) 0 (none_waits t new)) where
        by_numbers : (w w' e e' : ℕ) → e' ≤ e + 2 → w' ≡ w + 0
            → (4 * n + w) - 2 * e ≤ (4 * (n + 1) + w') - 2 * e'
        by_numbers w w' e e' few same = omega (arith, few, same)

  -- what was spent for n is spent for one more
  pub spent_more : (start now : ℕ) → HasSpentFor n s start now → HasSpentFor (n + 1) more start now
  spent_more start now spent = λ d enough.
      joins (20 * d * waits_among n s) (20 * d * waits_among (n + 1) more) (spent d (omega (arith, enough)))
      (mul-le-mul_left (20 * d) more_among) where
        joins : (was is : ℕ) → now ≤ start + was → was ≤ is → now ≤ start + is
        joins was is first second = omega (arith, first, second)

-- a member that passes counts
counts_one : (p : Task → Bool) (tasks : List Task) (t : Task) → IsMember t tasks → p t ≡ true → 1 ≤ count_by p tasks
counts_one p tasks t member pass =
    subst (λ n. n ≤ count_by p tasks) (ap one_if pass) (term_le_sum (λ u. one_if (p u)) tasks t member)

module _ (s : State) (t : Task) (member : IsMember t s.tasks) where
  -- a waiting job that doesn't wait after the move ceases to
  leaves_one : (m : Move) → t.role ≡ Waiting → waits_then m t ≡ false → 1 ≤ leaves s m
  leaves_one m role out = counts_one (λ u. is_waiting u && not (waits_then m u)) s.tasks t member
      (ap (λ b. b && not (waits_then m t)) (passes is_waiting t Waiting true role refl) ∙ ap not out)

  -- a job that runs ceases to wait
  pub run_leaves : (at n : ℕ) → t.role ≡ Waiting → t.number ≡ n → 1 ≤ leaves s (Prints (Run at n))
  run_leaves at n role same =
      leaves_one (Prints (Run at n)) role
      (ap (λ b. is_waiting (with_role t (cond b Running t.role))) (eq-eqb t.number n same))

  -- so does one that is abandoned
  pub abandon_leaves : (at n : ℕ) → t.role ≡ Waiting → t.number ≡ n → 1 ≤ leaves s (Prints (Abandon at n))
  abandon_leaves at n role same =
      leaves_one (Prints (Abandon at n)) role
      (ap (λ b. is_waiting (with_role t (cond b Gone t.role))) (eq-eqb t.number n same))

  -- so does one that takes the processor
  pub take_leaves : (at stops starts : ℕ) → t.role ≡ Waiting → t.number ≡ starts
      → 1 ≤ leaves s (Prints (Take at stops starts))
  take_leaves at stops starts role same = leaves_one (Prints (Take at stops starts)) role
      (ap (λ b. is_waiting (with_role t (cond b Running (displaced t.role)))) (eq-eqb t.number starts same))

-- one ceases to wait at least
pub one_leaves : (orders d enters leaves before after : ℕ) → after ≤ before + 3 * orders * d → 1 ≤ leaves
    → after ≤ before + (orders * d * enters + 3 * orders * d * leaves)
one_leaves orders d enters leaves before after cost some =
    omega (arith, cost, mul-le-mul_left (3 * orders * d) some)
