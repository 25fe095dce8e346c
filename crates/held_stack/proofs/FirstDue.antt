-- The room of held jobs later, and with one more that is due before all of them.
use Rattle.std.proofs.Common.{◌≡◌, ℕ, ◌+◌, ◌-◌, ◌≤◌, ◌<◌, inl, inr, min, List, [], ◌∷◌, Some, None, map, refl, sym, ap}
use Rattle.std.proofs.Common.{◌∙◌, subst, arith, nat_lt, cond, filter, sum_by}
use Rattle.std.proofs.lemmas.List.Sums.{sum_by-cons}
use Rattle.dover_model.specs.declared.events.Entry.{Entry}
use Rattle.dover_model.specs.Common.{least, demand_by, room_of, IsMember, Each}
use Rattle.dover_model.proofs.lists.Members.{some_same, sum_filter, sum_zero}
use Rattle.dover_model.proofs.lists.Tests.{none_is_some}
use Rattle.held_stack.specs.Stack.{room_at}

-- what is left of the job and of all members that are due before it
abbrev pub demand : List Entry → Entry → ℕ
demand = demand_by (λ e. e.deadline) (λ e. e.left)

pub least_cons : (a b : ℕ) (l m : List ℕ) → l ≡ b ∷ m → least (a ∷ l) ≡ min a (least l)
least_cons a b l m is = subst (λ k. least (a ∷ k) ≡ min a (least k)) (sym is) refl

least_less : {X : Type 0} (f g : X → ℕ) (d : ℕ) (xs : List X) → Each (λ x. g x ≡ f x - d) xs
    → least (map g xs) ≡ least (map f xs) - d
least_less f g d [] less = omega arith
least_less f g d (x ∷ []) less = less x (inl refl)
least_less f g d (x ∷ y ∷ more) less =
    let one : g x ≡ f x - d = less x (inl refl) in
    let rest = least_less f g d (y ∷ more) (λ z m. less z (inr m)) in
    ap (λ n. min n (least (map g (y ∷ more)))) one ∙ ap (min (f x - d)) rest
    ∙ min_less (f x) (least (map f (y ∷ more))) where
      min_less : (m n : ℕ) → min (m - d) (n - d) ≡ min m n - d
      min_less m n = omega arith

-- later the room is less by the ticks that passed
pub room_later : (now : ℕ) (set : List Entry) → room_of now set ≡ room_of 0 set - now
room_later now set = least_less (λ e. e.deadline - (0 + demand set e)) (λ e. e.deadline - (now + demand set e)) now set
    (λ e m. omega arith)

-- ---- one more that is due before all

module _ (clock : ℕ) (e : Entry) (held : List Entry) (first : Each (λ f. e.deadline < f.deadline) held) where
  none_before : sum_by (λ u. u.left) (filter (λ u. nat_lt u.deadline e.deadline) (e ∷ held)) ≡ 0
  none_before = sum_filter (λ u. nat_lt u.deadline e.deadline) (λ u. u.left) (e ∷ held)
      ∙ sum_zero (λ u. cond (nat_lt u.deadline e.deadline) u.left 0) (e ∷ held) each where
        not_less : (m n l : ℕ) → n ≤ m → cond (nat_lt m n) l 0 ≡ 0
        not_less m n l h = grind arith

        each : Each (λ u. cond (nat_lt u.deadline e.deadline) u.left 0 ≡ 0) (e ∷ held)
        each u (inl is) = let same : u.deadline ≡ e.deadline = ap (λ (x : Entry). x.deadline) is in
            not_less u.deadline e.deadline u.left (omega arith)
        each u (inr m) = let less : e.deadline < u.deadline = first u m in
            not_less u.deadline e.deadline u.left (omega arith)

  own_slack : e.deadline - (clock + demand (e ∷ held) e) ≡ e.deadline - (clock + e.left)
  own_slack = let none = none_before in omega (arith, none)

  more_before : (f : Entry) → IsMember f held → demand (e ∷ held) f ≡ e.left + demand held f
  more_before f m =
      let less : e.deadline < f.deadline = first f m in
      let all = sum_filter (λ u. nat_lt u.deadline f.deadline) (λ u. u.left) (e ∷ held) in
      let rest = sum_filter (λ u. nat_lt u.deadline f.deadline) (λ u. u.left) held in
      let cons = sum_by-cons (λ u. cond (nat_lt u.deadline f.deadline) u.left 0) e held in
      let here : cond (nat_lt e.deadline f.deadline) e.left 0 ≡ e.left = is_less e.deadline f.deadline e.left less in
      omega (arith, all, rest, cons, here) where
        is_less : (m n l : ℕ) → m < n → cond (nat_lt m n) l 0 ≡ l
        is_less m n l h = grind arith

  others : least (map (λ f. f.deadline - (clock + demand (e ∷ held) f)) held) ≡ room_of clock held - e.left
  others = least_less (λ f. f.deadline - (clock + demand held f))
      (λ f. f.deadline - (clock + demand (e ∷ held) f)) e.left held
      (λ f m. let more = more_before f m in omega (arith, more))

  -- the room of it alone
  pub room_alone : held ≡ [] → room_of clock (e ∷ held) ≡ e.deadline - (clock + e.left)
  room_alone none = ap least
      (ap (λ l. (e.deadline - (clock + demand (e ∷ held) e)) ∷ map (λ f. f.deadline - (clock + demand (e ∷ held) f)) l)
      none)
      ∙ own_slack

  -- the room of it and others
  pub room_more : (f : Entry) (more : List Entry) → held ≡ f ∷ more
      → room_of clock (e ∷ held) ≡ min (e.deadline - (clock + e.left)) (room_of clock held - e.left)
  room_more f more some =
      least_cons (e.deadline - (clock + demand (e ∷ held) e)) _ (map
      (λ f. f.deadline - (clock + demand (e ∷ held) f)) held) _
      (ap (map (λ f. f.deadline - (clock + demand (e ∷ held) f))) some)
      ∙ ap (λ n. min n (least (map (λ f. f.deadline - (clock + demand (e ∷ held) f)) held))) own_slack
      ∙ ap (min (e.deadline - (clock + e.left))) others

-- the room of others with it
pub room_over : (clock : ℕ) (e : Entry) (held : List Entry) (n : ℕ) → Each (λ f. e.deadline < f.deadline) held
    → room_at clock held ≡ Some n
    → min (e.deadline - e.left - clock) (n - e.left) ≡ room_of clock (e ∷ held)
room_over clock e [] n first at = none_is_some at
room_over clock e (f ∷ more) n first at =
    let slack : e.deadline - e.left - clock ≡ e.deadline - (clock + e.left) = omega arith in
    ap (λ m. min m (n - e.left)) slack
    ∙ ap (λ m. min (e.deadline - (clock + e.left)) (m - e.left)) (sym (some_same _ n at))
    ∙ sym (room_more clock e (f ∷ more) first f more refl)

-- and of it alone
pub room_under : (clock : ℕ) (e : Entry) (held : List Entry) → Each (λ f. e.deadline < f.deadline) held
    → room_at clock held ≡ None
    → e.deadline - e.left - clock ≡ room_of clock (e ∷ held)
room_under clock e [] first at =
    let slack : e.deadline - e.left - clock ≡ e.deadline - (clock + e.left) = omega arith in
    slack ∙ sym (room_alone clock e [] first refl)
room_under clock e (f ∷ more) first at = none_is_some (sym at)
