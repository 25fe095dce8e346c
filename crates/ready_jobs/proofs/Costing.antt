-- What printed steps cost, by the jobs that begin and cease to wait.
use Rattle.std.proofs.Common.{◌≡◌, ℕ, ◌+◌, ◌-◌, ◌*◌, ◌≤◌, inl, inr, List, [], ◌∷◌, ◌++◌, length, refl, sym, ap, ◌∙◌}
use Rattle.std.proofs.Common.{subst, Bool, true, false, cond, not, arith, Option, Some, None, ◌&&◌, option_to_list}
use Rattle.std.proofs.Common.{filter, sum_by, count_by, eq-eqb, ne_eqb, length-append}
use Rattle.std.proofs.lemmas.List.Sums.{sum_by-cons, sum_by-append}
use Rattle.std.proofs.Math.Nat.{mul-le-mul_left}
use Rattle.dover_model.specs.declared.events.Event.TheVariants.{Run, Take, Abandon}
use Rattle.dover_model.specs.declared.events.Role.{Role}
use Rattle.dover_model.specs.declared.events.Role.TheVariants.{Held, Running, Done, Gone}
use Rattle.dover_model.specs.declared.events.Task.{Task}
use Rattle.dover_model.specs.Common.{Rules, Instance, IsMember, Each, State, is_waiting, is_over, Move, Prints}
use Rattle.dover_model.specs.Common.{open_step, with_role, displaced, waits_then, enters, leaves, cost_of}
use Rattle.dover_model.specs.Common.{is_ready}
use Rattle.dover_model.proofs.lists.Members.{term_le_sum, sum_filter, sum_same, member_behind}
use Rattle.dover_model.proofs.steps.Roles.{passes, is_over_role}
use Rattle.dover_model.proofs.runs.Spending.{one_leaves, run_leaves, abandon_leaves, take_leaves}
use Rattle.dover_model.proofs.steps.ReadyParts.{change, over_stays}
use Rattle.dover_model.specs.declared.events.Version.{Version}
use Rattle.dover_model.specs.declared.events.Version.TheVariants.{One, Two, Three, Four}
use Rattle.waiting_pool.specs.Pools.{orders_of}
use Rattle.ready_jobs.specs.Following.{PartOf}
use Rattle.ready_jobs.specs.Changed.{named, AreOnce}
use Rattle.ready_jobs.specs.Parts.{Parted, HaveRoles, ready_of, state_of}

-- all of them count
count_each : (p : Task → Bool) (ts : List Task) → Each (λ t. p t ≡ true) ts → length ts ≤ count_by p ts
count_each p [] all = omega arith
count_each p (t ∷ ts) all = omega (
  arith,
  count_each p ts (λ u m. all u (inr m)),
  sum_by-cons (λ u. cond {A = ℕ} (p u) 1 0) t ts,
  ap (λ (b : Bool). cond {A = ℕ} b 1 0) (all t (inl refl)),
)

-- one of two parts, and one of the other, have two numbers
apart : (a b : List Task) → AreOnce (a ++ b) → (t x : Task) → IsMember t a → IsMember x b → t.number ≡ x.number → ⊥
apart a b once t x mt mx same =
    let most : sum_by (named x.number) (a ++ b) ≤ 1 = once x.number in
    let here : named x.number t ≤ sum_by (named x.number) a = term_le_sum (named x.number) a t mt in
    let there : named x.number x ≤ sum_by (named x.number) b = term_le_sum (named x.number) b x mx in
    omega (
      arith,
      most,
      here,
      there,
      sum_by-append (named x.number) a b,
      ap (λ (b : Bool). cond {A = ℕ} b 1 0) (eq-eqb x.number x.number refl),
      ap (λ (b : Bool). cond {A = ℕ} b 1 0) (eq-eqb t.number x.number same),
    )

-- a part behind others
once_behind : (a b : List Task) → AreOnce (a ++ b) → AreOnce b
once_behind a b once n =
    let most : sum_by (named n) (a ++ b) ≤ 1 = once n in
    omega (arith, most, sum_by-append (named n) a b)

-- those that begin to wait and the one that ceases to
take_sums : (orders d enters leaves before after held : ℕ) → held + 1 ≤ enters → 1 ≤ leaves
    → after ≤ before + orders * d * (4 + held)
    → after ≤ before + (orders * d * enters + 3 * orders * d * leaves)
take_sums orders d enters leaves before after held more less cost =
    let begun : orders * d * (held + 1) ≤ orders * d * enters = mul-le-mul_left (orders * d) more in
    let ceased : 3 * orders * d * 1 ≤ 3 * orders * d * leaves = mul-le-mul_left (3 * orders * d) less in
    omega (arith, begun, ceased, cost)

-- those that wait are some of those that are ready
pub fewer_wait : (p : Parted) → length p.waiting ≤ length (ready_of p)
fewer_wait p = omega (
  arith,
  length-append (option_to_list p.running) (option_to_list p.fresh ++ (p.held ++ p.waiting)),
  length-append (option_to_list p.fresh) (p.held ++ p.waiting),
  length-append p.held p.waiting,
)

-- what costs no comparison
pub no_cost : (before more : ℕ) → before ≤ before + more
no_cost before more = omega arith

-- what one job costs that begins or ceases to wait
pub one_at_most : (orders d x before now : ℕ) → now ≤ before + 3 * orders * d → now ≤ before + orders * d * (4 + x)
one_at_most orders d x before now cost = omega (arith, cost)

-- the silent steps of a call, and the printed one
pub both_at_most : (orders d x before mid now : ℕ) → mid ≤ before + 2 * orders * d
    → now ≤ mid + orders * d * (4 + x) → now ≤ before + orders * d * (6 + x)
both_at_most orders d x before mid now first then = omega (arith, first, then)

-- there are three orders at most
pub few_orders : (v : Version) → orders_of v ≤ 3
few_orders One = omega arith
few_orders Two = omega arith
few_orders Three = omega arith
few_orders Four = omega arith

few_jobs : (o : Option Task) → length (option_to_list o) ≤ 1
few_jobs None = omega arith
few_jobs (Some t) = omega arith

-- silent steps let two jobs wait at most
pub silent_at_most : (p q : Parted) → q.held ≡ p.held → length (ready_of q) ≡ length (ready_of p)
    → (orders d before now : ℕ) → now ≤ before + orders * d * (length q.waiting - length p.waiting)
    → now ≤ before + 2 * orders * d
silent_at_most p q held same orders d before now cost = omega (arith, cost, most) where
  lengths : (r : Parted) → length (ready_of r)
      ≡ length (option_to_list r.running) + (length (option_to_list r.fresh) + (length r.held + length r.waiting))
  lengths r = omega (
    arith,
    length-append (option_to_list r.running) (option_to_list r.fresh ++ (r.held ++ r.waiting)),
    length-append (option_to_list r.fresh) (r.held ++ r.waiting),
    length-append r.held r.waiting,
  )

  two : length q.waiting - length p.waiting ≤ 2
  two = omega (arith, ap length held, same, lengths p, lengths q, few_jobs p.running, few_jobs p.fresh)

  most : orders * d * (length q.waiting - length p.waiting) ≤ orders * d * 2
  most = mul-le-mul_left (orders * d) two

module _ (p : Parted) (roles : HaveRoles p) (orders d before after at : ℕ) where
  abbrev A : List Task
  A = option_to_list p.running

  abbrev B : List Task
  B = option_to_list p.fresh

  in_waiting : (t : Task) → IsMember t p.waiting → IsMember t (ready_of p)
  in_waiting t m = member_behind _ _ _ (member_behind B (p.held ++ p.waiting) t (member_behind p.held p.waiting t m))

  pub run_costs : (n : ℕ) (o : Task) → IsMember o p.waiting → o.number ≡ n → after ≤ before + 3 * orders * d
      → after ≤ before + cost_of orders d (state_of p) (Prints (Run at n))
  run_costs n o m number cost =
      one_leaves _ _ _ _ _ _ cost (run_leaves (state_of p) o (in_waiting o m) at n (roles.waiting o m) number)

  pub abandon_costs : (n : ℕ) (o : Task) → IsMember o p.waiting → o.number ≡ n → after ≤ before + 3 * orders * d
      → after ≤ before + cost_of orders d (state_of p) (Prints (Abandon at n))
  abandon_costs n o m number cost =
      one_leaves _ _ _ _ _ _ cost (abandon_leaves (state_of p) o (in_waiting o m) at n (roles.waiting o m) number)

  module _ (once : AreOnce (ready_of p)) (stops starts : ℕ) (r x : Task) (runs : p.running ≡ Some r)
      (waits : IsMember x p.waiting) (number : x.number ≡ starts) where
    abbrev begins : Task → Bool
    begins t = waits_then (Prints (Take at stops starts)) t && not (is_waiting t)

    -- one that isn't named and is displaced begins to wait
    one_begins : (role : Role) (t : Task) → t.role ≡ role → is_waiting (with_role t (displaced role)) ≡ true
        → is_waiting (with_role t role) ≡ false → (t.number ≡ x.number → ⊥) → begins t ≡ true
    one_begins role t is then now other =
        ap (λ b. is_waiting (with_role t (cond b Running (displaced t.role))) && not (is_waiting t))
        (ne_eqb t.number starts (λ e. other (e ∙ sym number)))
        ∙ ap (λ o. is_waiting (with_role t (displaced o)) && not (is_waiting (with_role t o))) is
        ∙ ap (λ b. b && not (is_waiting (with_role t role))) then
        ∙ ap not now

    once_runs : AreOnce ((r ∷ []) ++ (B ++ (p.held ++ p.waiting)))
    once_runs = subst (λ o. AreOnce (option_to_list o ++ (B ++ (p.held ++ p.waiting)))) runs once

    runs_begin : begins r ≡ true
    runs_begin = one_begins Running r
        (roles.running r (subst (λ o. IsMember r (option_to_list o)) (sym runs) (inl refl))) refl refl
        (apart (r ∷ []) (B ++ (p.held ++ p.waiting)) once_runs r x (inl refl)
        (member_behind B (p.held ++ p.waiting) x (member_behind p.held p.waiting x waits)))

    held_begin : Each (λ t. begins t ≡ true) p.held
    held_begin t m = one_begins Held t (roles.held t m) refl refl
        (apart p.held p.waiting
        (once_behind B (p.held ++ p.waiting) (once_behind (r ∷ []) (B ++ (p.held ++ p.waiting)) once_runs)) t x m waits)

    all_begin : length p.held + 1 ≤ enters (state_of p) (Prints (Take at stops starts))
    all_begin = subst (λ o. length p.held + 1 ≤ count_by begins (option_to_list o ++ (B ++ (p.held ++ p.waiting))))
        (sym runs) (omega (
          arith,
          sum_by-cons (λ t. cond {A = ℕ} (begins t) 1 0) r (B ++ (p.held ++ p.waiting)),
          sum_by-append (λ t. cond {A = ℕ} (begins t) 1 0) B (p.held ++ p.waiting),
          sum_by-append (λ t. cond {A = ℕ} (begins t) 1 0) p.held p.waiting,
          ap (λ (b : Bool). cond {A = ℕ} b 1 0) runs_begin,
          count_each begins p.held held_begin,
        ))

    pub take_costs : after ≤ before + orders * d * (4 + length p.held)
        → after ≤ before + cost_of orders d (state_of p) (Prints (Take at stops starts))
    take_costs cost = take_sums _ _ _ _ _ _ _ all_begin
        (take_leaves (state_of p) x (in_waiting x waits) at stops starts (roles.waiting x waits) number) cost

-- ---- of a whole run

-- what those that are over don't weigh, the others weigh
pub sum_ready : (f : Task → ℕ) (xs : List Task) → Each (λ t. is_over t ≡ true → f t ≡ 0) xs
    → sum_by f (filter is_ready xs) ≡ sum_by f xs
sum_ready f xs none = sum_filter is_ready f xs
    ∙ sum_same (λ t. cond (is_ready t) (f t) 0) f xs (λ t m. by_test (is_over t) (f t) (none t m)) where
      by_test : (b : Bool) (n : ℕ) → (b ≡ true → n ≡ 0) → cond (not b) n 0 ≡ n
      by_test true n h = sym (h refl)
      by_test false n h = refl

-- a job that is over doesn't wait
pub over_not_waiting : (t : Task) → is_over t ≡ true → is_waiting t ≡ false
over_not_waiting t over = elim (is_over_role t over) [
  | inl e ↦ passes is_waiting t Done false e refl
  | inr e ↦ passes is_waiting t Gone false e refl
]

-- that it waits then is that it waits as changed
waits_changed : (m : Move) (t : Task) → waits_then m t ≡ is_waiting (change m t)
waits_changed (Prints e) t = refl
waits_changed _ t = refl

module _ (p : Parted) (J : Instance) (z : State) (part : PartOf p J z) (rules : Rules) where
  over_waits_not : Each (λ t. is_over t ≡ true → waits_then (open_step rules z) t ≡ false) z.tasks
  over_waits_not t m over = waits_changed (open_step rules z) t
      ∙ ap is_waiting (over_stays J part.valid rules z part.keeps t m over) ∙ over_not_waiting t over

  count_part : (f : Task → Bool) → Each (λ t. is_over t ≡ true → f t ≡ false) z.tasks
      → count_by f (ready_of p) ≡ count_by f z.tasks
  count_part f none = part.ready.weighs (λ t. cond {A = ℕ} (f t) 1 0)
      ∙ sum_ready (λ t. cond {A = ℕ} (f t) 1 0) z.tasks (λ t m over. ap (λ b. cond {A = ℕ} b 1 0) (none t m over))

  -- an open step costs the ready jobs what it costs all
  pub cost_whole : (orders d : ℕ)
      → cost_of orders d (state_of p) (open_step rules z) ≡ cost_of orders d z (open_step rules z)
  cost_whole orders d =
      ap (λ n. orders * d * n + 3 * orders * d * leaves (state_of p) (open_step rules z))
      (count_part (λ t. waits_then (open_step rules z) t && not (is_waiting t))
      (λ t m over. ap (λ b. b && not (is_waiting t)) (over_waits_not t m over)))
      ∙ ap (λ n. orders * d * enters z (open_step rules z) + 3 * orders * d * n)
      (count_part (λ t. is_waiting t && not (waits_then (open_step rules z) t))
      (λ t m over. ap (λ b. b && not (waits_then (open_step rules z) t)) (over_not_waiting t over)))
