-- The books after a preemption and after a take.
use Rattle.std.proofs.Common.{◌≡◌, ℕ, ◌+◌, ◌*◌, ◌≤◌, ◌<◌, ◌⊎◌, inl, inr, List, [], ◌∷◌, map}
use Rattle.std.proofs.Common.{refl, sym, ap, ◌∙◌, subst, Bool, true, false, cond, eqb, arith, sum_by}
use Rattle.std.proofs.Common.{eqb-true, eq-eqb, ne_eqb, ◌&&◌, ◌||◌, ◌==◌, not}
use Rattle.std.specs.List.{list_any}
use Rattle.std.proofs.lemmas.Bool.{and_parts, eqb-false}
use Rattle.std.proofs.Math.Nat.{mul-le-mul_left}
use Rattle.dover_model.specs.declared.events.Event.TheVariants.{Preempt, Take}
use Rattle.dover_model.specs.declared.events.Task.{Task}
use Rattle.dover_model.specs.declared.events.Role.TheVariants.{Waiting, Held, Running}
use Rattle.dover_model.specs.Fraction.{Fraction}
use Rattle.many_processors.specs.Books.{IsPaidTwice}
use Rattle.many_processors.proofs.bound.Chains.{twice_first, twice_next}
use Rattle.dover_model.specs.Common.{is_privileged, is_over, left, IsMember, Each, IsHeavy}
use Rattle.dover_model.proofs.bound.Calculus.{heavy_more}
use Rattle.dover_model.proofs.lists.Tests.{never}
use Rattle.dover_model.proofs.lists.Members.{map_member, sum_map, on_map, sum_zero, sum_le, sum_plus, term_le_sum}
use Rattle.dover_model.proofs.steps.Roles.{passes, is_privileged_role}
use Rattle.many_processors.specs.State.{Placed, State}
use Rattle.many_processors.specs.Step.{is_own_of, numbers_from, placed_after, in_role, placed_on}
use Rattle.many_processors.specs.Sound.{Keeps}
use Rattle.many_processors.proofs.books.Booked.{Open, own_sum, placed_sum, value_of, comes_to}
use Rattle.many_processors.proofs.books.Booked.{Taker, Under, Booked, sum_on, sum_at, fallen, fallen_value, is_excused}
use Rattle.many_processors.proofs.books.Booked.{excused_fell, excused_on, excused_by}
use Rattle.many_processors.proofs.steps.Seeing.{below_numbers}
use Rattle.many_processors.proofs.steps.Kept.{had_most}
use Rattle.many_processors.proofs.books.Moved.{StaysFor, own_same, own_stays, under_stays, SameBooks, StaysExcused}
use Rattle.many_processors.proofs.books.Moved.{same_fallen, moved_booked}
use Rattle.many_processors.proofs.books.MovedSteps.{role_books, task_books, task_stays, off_own, other_own, own_grows}
use Rattle.many_processors.proofs.books.MovedSteps.{placed_grows, sum_paid, at_one, on_each}

module _ (k : Fraction) (v w processors : ℕ) (ran : List (List ℕ)) (J : _) (s : State)
    (booked : Booked k v w processors ran s) (keeps : Keeps processors J s)
    (some_left : Each (λ p. is_privileged p.task ≡ true → 1 ≤ left p.task) s.jobs)
    (one_job : (p u : Placed) → IsMember p s.jobs → IsMember u s.jobs → p.task.number ≡ u.task.number → p ≡ u)
    (i : ℕ) (i_low : i < processors) (at : ℕ) (pressed : Bool)
    (x : Placed) (x_member : IsMember x s.jobs) (x_off : is_privileged x.task ≡ false) (x_open : is_over x.task ≡ false)
    (y : Placed) (y_member : IsMember y s.jobs) (y_runs : y.task.role ≡ Running) (y_owner : y.owner ≡ i) where
  -- y is on processor i
  y_own : is_own_of i y ≡ true
  y_own = both (is_privileged y.task) (y.owner == i) (passes is_privileged y.task Running true y_runs refl)
      (eq-eqb _ _ y_owner) where
        both : (a b : Bool) → a ≡ true → b ≡ true → (a && b) ≡ true
        both true true e f = refl
        both true false e f = never f
        both false b e f = never e

  -- an interval is under way there
  i_lasts : (booked.way i).lasts ≡ true
  i_lasts = by_test (booked.way i).lasts refl where
    by_test : (b : Bool) → (booked.way i).lasts ≡ b → (booked.way i).lasts ≡ true
    by_test true e = e
    by_test false e = absurd (((booked.under i i_low).none e).1 y y_member y_own)

  -- the running job, by the job that took
  is_taker : (t : Taker k i (booked.way i).displaced (booked.way i).first s.clock s.jobs) → y ≡ t.job
  is_taker t = one_job y t.job y_member t.member (t.alone y y_member y_own)

  -- who begins on it
  begins : (h : Placed → Placed) → h x ≡ placed_on i x → is_own_of i (h x) ≡ true
  begins h same = own_same i (placed_on i x) (h x) (ap (λ (p : Placed). p.task) same)
      (ap (λ (p : Placed). p.owner) same) ∙ eq-eqb i i refl

  -- the change at the job that begins
  is_x : (h : Placed → Bool → Placed) → h x (eqb x.task.number x.task.number) ≡ h x true
  is_x h = ap (h x) (eq-eqb _ _ refl)

  -- x is excused only where it fell
  off_excused : is_excused booked.way booked.fell x ≡ true → booked.fell x.task.number ≡ true
  off_excused e = by_excuse (excused_by booked.way booked.fell x e) where
    by_excuse : (booked.fell x.task.number ≡ true)
        ⊎ ((is_privileged x.task ≡ true) × ((booked.way x.owner).took ≡ false)) → booked.fell x.task.number ≡ true
    by_excuse (inl f) = f
    by_excuse (inr it) = never (sym x_off ∙ it.0)

  -- ---- x preempts y

  module _ (slack : s.clock + left y.task + 1 ≤ y.task.job.deadline) where
    abbrev held_by : Placed → Placed
    held_by = placed_after i (Preempt at y.task.number x.task.number)

    -- each job afterwards
    preempt_parts : (P : Placed → Placed → Type 0) → P x (placed_on i x) → P y (in_role y Held)
        → Each (λ p. P p p) s.jobs → Each (λ p. P p (held_by p)) s.jobs
    preempt_parts P begin hold others p member =
        by_test (eqb p.task.number x.task.number) (eqb p.task.number y.task.number) refl refl where
          by_test : (b c : Bool) → eqb p.task.number x.task.number ≡ b → eqb p.task.number y.task.number ≡ c
              → P p (cond b (placed_on i p) (cond c (in_role p Held) p))
          by_test true c e f = subst (λ u. P u (placed_on i u)) (sym (one_job p x member x_member (eqb-true _ _ e)))
              begin
          by_test false true e f = subst (λ u. P u (in_role u Held))
              (sym (one_job p y member y_member (eqb-true _ _ f)))
              hold
          by_test false false e f = others p member

    x_there : is_own_of i (held_by x) ≡ true
    x_there = begins held_by
        (is_x (λ p b. cond b (placed_on i p) (cond (eqb p.task.number y.task.number) (in_role p Held) p)))

    own_stays_on : Each (λ p. is_own_of i p ≡ true → is_own_of i (held_by p) ≡ true) s.jobs
    own_stays_on = preempt_parts (λ p u. is_own_of i p ≡ true → is_own_of i u ≡ true) (λ _. eq-eqb i i refl)
        (λ _. eq-eqb _ _ y_owner) (λ p member own. own)

    others_stay : (q : ℕ) → (i ≡ q → ⊥) → Each (StaysFor q held_by) s.jobs
    others_stay q other = preempt_parts (λ p u. ((is_own_of q p ≡ true) × (u.task ≡ p.task) × (u.owner ≡ p.owner))
        ⊎ ((is_own_of q p ≡ false) × (is_own_of q u ≡ false)))
        (inr (off_own q x x_off, other_own q i (placed_on i x) refl other))
        (inr (other_own q i y y_owner other, other_own q i (in_role y Held) y_owner other))
        (λ p member. task_stays q (λ u. u) p refl refl)

    preempt_under : Under k i s.clock (map held_by s.jobs) (booked.way i)
    preempt_under = record {
      none = λ e. never (sym e ∙ i_lasts);
      some = λ e. (((booked.under i i_low).some e).0, (held_by x, map_member held_by s.jobs x x_member, x_there));
      calm = (booked.under i i_low).calm;
      taker = λ e. absurd (let t = (booked.under i i_low).taker e in
          let tight : s.clock + left y.task ≡ y.task.job.deadline =
          subst (λ (p : Placed). s.clock + left p.task ≡ p.task.job.deadline) (sym (is_taker t)) t.no_laxity in
          omega (arith, slack, tight));
    }

    -- after a preemption
    pub preempt_booked : Booked k v w processors ran (record {
      clock = s.clock;
      jobs = map (placed_after i (Preempt at y.task.number x.task.number)) s.jobs;
      pressed = pressed;
    })
    preempt_booked = moved_booked k v w processors ran s booked held_by pressed booked.way booked.fell same
        (preempt_parts (λ p u. is_excused booked.way booked.fell p ≡ true → is_excused booked.way booked.fell u ≡ true)
        (λ e. excused_fell booked.way booked.fell (placed_on i x) (off_excused e))
        (λ e. by_excuse (excused_by booked.way booked.fell y e)) (λ p member e. e))
        (omega (arith, same_fallen booked.fell held_by s.jobs same))
        (λ q low. by_processor q low (eqb i q) refl)
        (λ q low. refl) (λ q low e. inl (e, refl))
        (λ q low e. (e, refl, by_sum q (eqb i q) refl))
        (let times : v * placed_sum (λ p. p.task.had) s.jobs ≤ v * placed_sum (λ p. p.task.had) (map held_by s.jobs) =
        mul-le-mul_left v (placed_grows held_by s.jobs
        (preempt_parts (λ p u. u.task.had ≡ p.task.had) refl refl (λ p member. refl))
        (preempt_parts (λ p u. is_privileged p.task ≡ true → is_privileged u.task ≡ true) (λ _. refl) (λ _. refl)
        (λ p member on. on))) in omega (arith, times)) where
          by_excuse : (booked.fell y.task.number ≡ true)
              ⊎ ((is_privileged y.task ≡ true) × ((booked.way y.owner).took ≡ false))
              → is_excused booked.way booked.fell (in_role y Held) ≡ true
          by_excuse (inl f) = excused_fell booked.way booked.fell (in_role y Held) f
          by_excuse (inr it) = excused_on booked.way booked.fell (in_role y Held) refl it.1

          same : Each (SameBooks held_by) s.jobs
          same p member = by_test (eqb p.task.number x.task.number) (eqb p.task.number y.task.number) refl refl where
            by_test : (b c : Bool) → eqb p.task.number x.task.number ≡ b → eqb p.task.number y.task.number ≡ c
                → SameBooks held_by p
            by_test true c e f = role_books held_by p Running
                (ap (λ b. (cond b (placed_on i p) (cond (eqb p.task.number y.task.number) (in_role p Held) p)).task) e)
                (subst (λ u. is_over u.task ≡ false) (sym (one_job p x member x_member (eqb-true _ _ e))) x_open) refl
            by_test false true e f = role_books held_by p Held
                (ap (λ b. (cond b (placed_on i p) (cond (eqb p.task.number y.task.number) (in_role p Held) p)).task) e
                ∙ ap (λ c. (cond c (in_role p Held) p).task) f)
                (subst (λ u. is_over u.task ≡ false) (sym (one_job p y member y_member (eqb-true _ _ f)))
                (passes is_over y.task Running false y_runs refl)) refl
            by_test false false e f = task_books held_by p
                (ap (λ b. (cond b (placed_on i p) (cond (eqb p.task.number y.task.number) (in_role p Held) p)).task) e
                ∙ ap (λ c. (cond c (in_role p Held) p).task) f)

          by_processor : (q : ℕ) → q < processors → (b : Bool) → eqb i q ≡ b
              → Under k q s.clock (map held_by s.jobs) (booked.way q)
          by_processor q low true e = subst (λ n. Under k n s.clock (map held_by s.jobs) (booked.way n))
              (eqb-true _ _ e)
              preempt_under
          by_processor q low false e = under_stays k q s.clock s.jobs held_by (booked.way q)
              (others_stay q (eqb-false _ _ e)) (booked.under q low)

          by_sum : (q : ℕ) → (b : Bool) → eqb i q ≡ b
              → comes_to booked.way s.jobs q ≤ comes_to booked.way (map held_by s.jobs) q
          by_sum q true e = subst (λ n. comes_to booked.way s.jobs n ≤ comes_to booked.way (map held_by s.jobs) n)
              (eqb-true _ _ e) (omega
              (arith, own_grows i held_by s.jobs (λ p member. (same p member).job) own_stays_on))
          by_sum q false e = omega
              (arith, own_stays q held_by (λ t. t.job.value) s.jobs (others_stay q (eqb-false _ _ e)))

  -- ---- x takes from y

  module _ (some_q : 1 ≤ k.q) (ratio : k.q ≤ k.p)
      (modest : Each (λ p. v * p.task.job.work ≤ w * p.task.job.value) s.jobs)
      (now : s.clock + left x.task ≡ x.task.job.deadline)
      (heavy : IsHeavy k x.task.job.value (own_sum i value_of s.jobs)) where
    abbrev displaced_by : Placed → Placed
    displaced_by = placed_after i (Take at y.task.number x.task.number)

    -- each job afterwards
    take_parts : (P : Placed → Placed → Type 0) → P x (placed_on i x)
        → Each (λ p. (p.task.number ≡ x.task.number → ⊥) → is_own_of i p ≡ true → P p (in_role p Waiting)) s.jobs
        → Each (λ p. (p.task.number ≡ x.task.number → ⊥) → is_own_of i p ≡ false → P p p) s.jobs
        → Each (λ p. P p (displaced_by p)) s.jobs
    take_parts P begin stop others p member =
        by_test (eqb p.task.number x.task.number) (is_own_of i p) refl refl where
          by_test : (b c : Bool) → eqb p.task.number x.task.number ≡ b → is_own_of i p ≡ c
              → P p (cond b (placed_on i p) (cond c (in_role p Waiting) p))
          by_test true c e f = subst (λ u. P u (placed_on i u)) (sym (one_job p x member x_member (eqb-true _ _ e)))
              begin
          by_test false true e f = stop p member (eqb-false _ _ e) f
          by_test false false e f = others p member (eqb-false _ _ e) f

    -- who is on processor i
    on_it : (p : Placed) → is_own_of i p ≡ true → (is_privileged p.task ≡ true) × (p.owner ≡ i)
    on_it p own = let it = and_parts (is_privileged p.task) (p.owner == i) own in (it.0, eqb-true _ _ it.1)

    x_takes : is_own_of i (displaced_by x) ≡ true
    x_takes = begins displaced_by (is_x (λ p b. cond b (placed_on i p) (cond (is_own_of i p) (in_role p Waiting) p)))

    -- nobody else is on it
    alone : Each (λ p. is_own_of i (displaced_by p) ≡ true → p.task.number ≡ x.task.number) s.jobs
    alone = take_parts (λ p u. is_own_of i u ≡ true → p.task.number ≡ x.task.number) (λ _. refl)
        (λ p member other own on. never (sym (off_own i (in_role p Waiting) refl) ∙ on))
        (λ p member other not_own on. never (sym not_own ∙ on))

    stays_beside : (q : ℕ) → (i ≡ q → ⊥) → Each (StaysFor q displaced_by) s.jobs
    stays_beside q other = take_parts (λ p u. ((is_own_of q p ≡ true) × (u.task ≡ p.task) × (u.owner ≡ p.owner))
        ⊎ ((is_own_of q p ≡ false) × (is_own_of q u ≡ false)))
        (inr (off_own q x x_off, other_own q i (placed_on i x) refl other))
        (λ p member differs own. inr (other_own q i p (on_it p own).1 other, off_own q (in_role p Waiting) refl))
        (λ p member differs not_own. task_stays q (λ u. u) p refl refl)

    same_number : Each (λ p. (displaced_by p).task.number ≡ p.task.number) s.jobs
    same_number = take_parts (λ p u. u.task.number ≡ p.task.number) refl (λ p member other own. refl)
        (λ p member other own. refl)

    -- what is displaced
    abbrev lost : ℕ
    lost = own_sum i value_of s.jobs

    -- what is displaced by a first take
    abbrev lost_first : ℕ
    lost_first = cond (booked.way i).took 0 lost

    -- what is under way afterwards
    abbrev took_way : Open
    took_way = record {
      lasts = true;
      from = (booked.way i).from;
      regular = (booked.way i).regular;
      displaced = (booked.way i).displaced + lost;
      first = (booked.way i).first + lost_first;
      took = true;
    }

    -- the job of this number is on the processor
    abbrev on_here : ℕ → Bool
    on_here n = list_any (λ u. eqb u.task.number n && is_own_of i u) s.jobs

    on_here_is : Each (λ p. on_here p.task.number ≡ is_own_of i p) s.jobs
    on_here_is p member = by_own (is_own_of i p) refl where
      some_here : (us : List Placed) → IsMember p us → is_own_of i p ≡ true
          → list_any (λ u. eqb u.task.number p.task.number && is_own_of i u) us ≡ true
      some_here [] m own = absurd m
      some_here (u ∷ us) (inl e) own = ap
          (λ b. b || list_any (λ z. eqb z.task.number p.task.number && is_own_of i z) us)
          (subst (λ z. (eqb z.task.number p.task.number && is_own_of i z) ≡ true) e
          (ap (λ b. b && is_own_of i p) (eq-eqb _ _ refl) ∙ own))
      some_here (u ∷ us) (inr m) own = either (eqb u.task.number p.task.number && is_own_of i u)
          (some_here us m own) where
            either : (b : Bool) {c : Bool} → c ≡ true → (b || c) ≡ true
            either true e = refl
            either false e = e

      none_here : (us : List Placed) → Each (λ u. IsMember u s.jobs) us → is_own_of i p ≡ false
          → list_any (λ u. eqb u.task.number p.task.number && is_own_of i u) us ≡ false
      none_here [] all out = refl
      none_here (u ∷ us) all out = ap (λ b. b || list_any (λ z. eqb z.task.number p.task.number && is_own_of i z) us)
          (by_test (eqb u.task.number p.task.number) refl) ∙ none_here us (λ z m. all z (inr m)) out where
            by_test : (b : Bool) → eqb u.task.number p.task.number ≡ b
                → (eqb u.task.number p.task.number && is_own_of i u) ≡ false
            by_test false e = ap (λ b. b && is_own_of i u) e
            by_test true e = ap (λ b. b && is_own_of i u) e
                ∙ ap (is_own_of i) (one_job u p (all u (inl refl)) member (eqb-true _ _ e)) ∙ out

      by_own : (b : Bool) → is_own_of i p ≡ b → on_here p.task.number ≡ is_own_of i p
      by_own true e = some_here s.jobs member e ∙ sym e
      by_own false e = none_here s.jobs (λ u m. m) e ∙ sym e

    -- who fell by now
    abbrev fell_now : ℕ → Bool
    fell_now n = booked.fell n || (not (booked.way i).took && on_here n)

    fell_same : Each (λ p. fell_now p.task.number
        ≡ (booked.fell p.task.number || (not (booked.way i).took && is_own_of i p)))
        s.jobs
    fell_same p member = ap (λ b. booked.fell p.task.number || (not (booked.way i).took && b)) (on_here_is p member)

    still_fell : (n : ℕ) → booked.fell n ≡ true → fell_now n ≡ true
    still_fell n e = ap (λ b. b || (not (booked.way i).took && on_here n)) e

    -- what fell now is what the take displaced, if it was a first one
    falls : fallen fell_now (map displaced_by s.jobs) ≤ fallen booked.fell s.jobs + lost_first
    falls = omega (
      arith,
      sum_map displaced_by (fallen_value fell_now) s.jobs,
      sum_le (λ p. fallen_value fell_now (displaced_by p))
          (λ p. fallen_value booked.fell p + cond (booked.way i).took 0 (cond (is_own_of i p) (value_of p) 0)) s.jobs
          (take_parts (λ p u. fallen_value fell_now u
          ≤ fallen_value booked.fell p + cond (booked.way i).took 0 (cond (is_own_of i p) (value_of p) 0))
          (omega (
            arith,
            here x x_member,
            ap (λ b. cond b 0 (cond (booked.fell x.task.number) (value_of x) 0)) x_open,
          ))
          (λ p member differs own. omega (
            arith,
            here p member,
            ap (λ b. cond b 0 (cond (booked.fell p.task.number) (value_of p) 0)) (not_past p.task (on_it p own).0),
          ))
          (λ p member differs not_own. omega (
            arith,
            same_there p member not_own,
          ))),
      sum_plus (fallen_value booked.fell) (λ p. cond (booked.way i).took 0 (cond (is_own_of i p) (value_of p) 0))
          s.jobs,
      all_or_none (booked.way i).took,
    ) where
      not_past : (t : Task) → is_privileged t ≡ true → is_over t ≡ false
      not_past t on = by_role (is_privileged_role t on) where
        by_role : (t.role ≡ Running) ⊎ (t.role ≡ Held) → is_over t ≡ false
        by_role (inl e) = passes is_over t Running false e refl
        by_role (inr e) = passes is_over t Held false e refl

      cases_of : (a b c : Bool) (n : ℕ) → cond (a || (not b && c)) n 0 ≤ cond a n 0 + cond b 0 (cond c n 0)
      cases_of true b c n = omega arith
      cases_of false true c n = omega arith
      cases_of false false true n = omega arith
      cases_of false false false n = omega arith

      here : Each (λ p. cond (fell_now p.task.number) (value_of p) 0
          ≤ cond (booked.fell p.task.number) (value_of p) 0
          + cond (booked.way i).took 0 (cond (is_own_of i p) (value_of p) 0)) s.jobs
      here p member = subst (λ b. cond b (value_of p) 0 ≤ cond (booked.fell p.task.number) (value_of p) 0
          + cond (booked.way i).took 0 (cond (is_own_of i p) (value_of p) 0)) (sym (fell_same p member))
          (cases_of (booked.fell p.task.number) (booked.way i).took (is_own_of i p) (value_of p))

      same_there : Each (λ p. is_own_of i p ≡ false → fallen_value fell_now p ≡ fallen_value booked.fell p) s.jobs
      same_there p member not_own = ap (λ b. cond (is_over p.task) 0 (cond b (value_of p) 0))
          (fell_same p member ∙ none_more (booked.fell p.task.number) (not (booked.way i).took) (is_own_of i p)
          not_own) where
            none_more : (a b c : Bool) → c ≡ false → (a || (b && c)) ≡ a
            none_more true b c e = refl
            none_more false true c e = e
            none_more false false c e = refl

      all_or_none : (b : Bool) → sum_by (λ p. cond b 0 (cond (is_own_of i p) (value_of p) 0)) s.jobs ≡ cond b 0 lost
      all_or_none true = sum_zero (λ (p : Placed). 0) s.jobs (λ p member. refl)
      all_or_none false = refl

    -- what is displaced in all is paid by the job that takes
    paid_now : IsPaidTwice k ((booked.way i).displaced + lost) ((booked.way i).first + lost_first) x.task.job.value
    paid_now = by_took (booked.way i).took refl where
      by_took : (b : Bool) → (booked.way i).took ≡ b
          → IsPaidTwice k ((booked.way i).displaced + lost) ((booked.way i).first + cond b 0 lost) x.task.job.value
      by_took false e =
          let none = (booked.under i i_low).calm e in
          let same : lost ≡ (booked.way i).displaced + lost = omega (arith, none.0) in
          let same_first : lost ≡ (booked.way i).first + lost = omega (arith, none.1) in
          subst (λ n. IsPaidTwice k n ((booked.way i).first + lost) x.task.job.value) same
          (subst (λ n. IsPaidTwice k lost n x.task.job.value) same_first
          (twice_first k lost x.task.job.value heavy))
      by_took true e =
          let t = (booked.under i i_low).taker e in
          subst (λ n. IsPaidTwice k ((booked.way i).displaced + lost) n x.task.job.value)
          (let same : (booked.way i).first ≡ (booked.way i).first + 0 = omega arith in same)
          (twice_next k some_q ratio (booked.way i).displaced (booked.way i).first lost x.task.job.value
          (subst (IsPaidTwice k (booked.way i).displaced (booked.way i).first) (sym (single t)) t.paid) heavy) where
            single : (t : Taker k i (booked.way i).displaced (booked.way i).first s.clock s.jobs)
                → lost ≡ t.job.task.job.value
            single t = omega (
              arith,
              sum_at (λ p. cond (is_own_of i p) (value_of p) 0) (λ p. 0) 0 s.jobs t.job (keeps.sound 0).numbered
                  t.member
                  (λ p member differs. ap (λ b. cond b (value_of p) 0)
                  (none_own p member differs (is_own_of i p) refl)),
              ap (λ b. cond b t.job.task.job.value 0) (subst (λ u. is_own_of i u ≡ true) (is_taker t) y_own),
              sum_zero (λ (p : Placed). 0) s.jobs (λ p member. refl),
            ) where
              none_own : (p : Placed) → IsMember p s.jobs → (p.task.number ≡ t.job.task.number → ⊥) → (b : Bool)
                  → is_own_of i p ≡ b → is_own_of i p ≡ false
              none_own p member differs false e = e
              none_own p member differs true e = absurd (differs (t.alone p member e))

    take_under : Under k i s.clock (map displaced_by s.jobs) took_way
    take_under = record {
      none = λ e. never (sym e);
      some = λ e. (
        ((booked.under i i_low).some i_lasts).0,
        (displaced_by x, map_member displaced_by s.jobs x x_member, x_takes),
      );
      calm = λ e. never (sym e);
      taker = λ e. record {
        job = displaced_by x;
        member = map_member displaced_by s.jobs x x_member;
        runs = ap (λ (p : Placed). p.task.role) is_placed;
        owner = ap (λ (p : Placed). p.owner) is_placed;
        alone = on_map displaced_by (λ p. is_own_of i p ≡ true → p.task.number ≡ (displaced_by x).task.number) s.jobs
            (λ p member own. same_number p member ∙ alone p member own ∙ sym (same_number x x_member));
        no_laxity = subst (λ (p : Placed). s.clock + left p.task ≡ p.task.job.deadline) (sym is_placed) now;
        paid = subst (λ (p : Placed). IsPaidTwice k ((booked.way i).displaced + lost)
            ((booked.way i).first + lost_first) p.task.job.value) (sym is_placed) paid_now;
      };
    } where
      is_placed : displaced_by x ≡ placed_on i x
      is_placed = is_x (λ p b. cond b (placed_on i p) (cond (is_own_of i p) (in_role p Waiting) p))

    -- it is worth more than what it displaces
    x_worth : x.task.job.value ≤ own_sum i value_of (map displaced_by s.jobs)
    x_worth = omega (
      arith,
      sum_map displaced_by (λ p. cond (is_own_of i p) (value_of p) 0) s.jobs,
      at_x,
    ) where
      at_x : x.task.job.value ≤ sum_by (λ p. cond (is_own_of i (displaced_by p)) (value_of (displaced_by p)) 0) s.jobs
      at_x = omega (
        arith,
        term_le_sum (λ p. cond (is_own_of i (displaced_by p)) (value_of (displaced_by p)) 0) s.jobs x x_member,
        ap (λ b. cond b (value_of (displaced_by x)) 0) x_takes,
        ap value_of (is_x (λ p b. cond b (placed_on i p) (cond (is_own_of i p) (in_role p Waiting) p))),
      )

    -- what displaced jobs had is paid by their values
    had_paid : v * placed_sum (λ p. p.task.had) s.jobs ≤ v * placed_sum (λ p. p.task.had) (map displaced_by s.jobs)
        + w * lost
    had_paid = omega (
      arith,
      ap (λ n. v * n) (sum_map displaced_by (λ p. cond (is_privileged p.task) p.task.had 0) s.jobs),
      sum_paid v w (λ p. cond (is_privileged p.task) p.task.had 0)
          (λ p. cond (is_privileged (displaced_by p).task) (displaced_by p).task.had 0)
          (λ p. cond (is_own_of i p) (value_of p) 0) s.jobs
          (take_parts (λ p u. v * cond (is_privileged p.task) p.task.had 0
          ≤ v * cond (is_privileged u.task) u.task.had 0 + w * cond (is_own_of i p) (value_of p) 0)
          (omega (arith, ap (λ b. v * cond b x.task.had 0) x_off))
          (λ p member other own. by_own p own (on_it p own).0 (had_most s keeps.sound p member) (modest p member))
          (λ p member other not_own. omega arith)),
    ) where
      by_own : (p : Placed) → is_own_of i p ≡ true → is_privileged p.task ≡ true → p.task.had ≤ p.task.job.work
          → v * p.task.job.work ≤ w * p.task.job.value
          → v * cond (is_privileged p.task) p.task.had 0 ≤ v * 0 + w * cond (is_own_of i p) (value_of p) 0
      by_own p own on most low =
          let times : v * p.task.had ≤ v * p.task.job.work = mul-le-mul_left v most in
          omega (arith, times, low, ap (λ b. v * cond b p.task.had 0) on, ap (λ b. w * cond b (value_of p) 0) own)

    -- after a take
    pub take_booked : Booked k v w processors ran (record {
      clock = s.clock;
      jobs = map (placed_after i (Take at y.task.number x.task.number)) s.jobs;
      pressed = pressed;
    })
    take_booked = moved_booked k v w processors ran s booked displaced_by pressed (at_one i took_way booked.way)
        fell_now same
        excused (omega (arith, falls, more_first))
        (λ q low. on_each (λ q o. q < processors → Under k q s.clock (map displaced_by s.jobs) o) i took_way booked.way
        (λ _. take_under)
        (λ q other low. under_stays k q s.clock s.jobs displaced_by (booked.way q) (stays_beside q other)
        (booked.under q low)) q low)
        (λ q low. on_each (λ q o. o.regular ≡ (booked.way q).regular) i took_way booked.way refl (λ q other. refl) q)
        (λ q low. on_each (λ q o. o.lasts ≡ true → (((booked.way q).lasts ≡ true)
        × (o.from ≡ (booked.way q).from)) ⊎ (o.from ≡ s.clock)) i took_way booked.way
        (λ _. inl (i_lasts, refl)) (λ q other e. inl (e, refl)) q)
        (λ q low. on_each (λ q o. (booked.way q).lasts ≡ true → (o.lasts ≡ true) × (o.from ≡ (booked.way q).from)
        × ((booked.way q).regular + own_sum q value_of s.jobs ≤ o.regular
        + own_sum q value_of (map displaced_by s.jobs))) i
        took_way booked.way
        (λ _. (refl, refl, omega (arith, x_worth, heavy_more k x.task.job.value lost heavy)))
        (λ q other e. (
          e,
          refl,
          omega (arith, own_stays q displaced_by (λ t. t.job.value) s.jobs (stays_beside q other)),
        )) q)
        (omega (arith, had_paid, ap (λ n. w * n) more_displaced)) where
          excused : Each (StaysExcused booked.way (at_one i took_way booked.way) booked.fell fell_now displaced_by)
              s.jobs
          excused = take_parts (λ p u. is_excused booked.way booked.fell p ≡ true
              → is_excused (at_one i took_way booked.way) fell_now u ≡ true)
              (λ e. excused_fell (at_one i took_way booked.way) fell_now (placed_on i x)
              (still_fell x.task.number (off_excused e)))
              (λ p member differs own e. displaced_excused p member own (excused_by booked.way booked.fell p e))
              (λ p member differs not_own e. other_excused p not_own (excused_by booked.way booked.fell p e)) where
                displaced_excused : (p : Placed) → IsMember p s.jobs → is_own_of i p ≡ true
                    → (booked.fell p.task.number ≡ true)
                    ⊎ ((is_privileged p.task ≡ true) × ((booked.way p.owner).took ≡ false))
                    → is_excused (at_one i took_way booked.way) fell_now (in_role p Waiting) ≡ true
                displaced_excused p member own (inl f) = excused_fell (at_one i took_way booked.way) fell_now
                    (in_role p Waiting) (still_fell p.task.number f)
                displaced_excused p member own (inr it) = excused_fell (at_one i took_way booked.way) fell_now
                    (in_role p Waiting) (fell_same p member
                    ∙ last (booked.fell p.task.number) (booked.way i).took (is_own_of i p)
                    (ap (λ n. (booked.way n).took) (sym (on_it p own).1) ∙ it.1) own) where
                      last : (a b c : Bool) → b ≡ false → c ≡ true → (a || (not b && c)) ≡ true
                      last true b c e f = refl
                      last false false true e f = refl
                      last false true c e f = never (sym e)
                      last false false false e f = never f

                other_excused : (p : Placed) → is_own_of i p ≡ false → (booked.fell p.task.number ≡ true)
                    ⊎ ((is_privileged p.task ≡ true) × ((booked.way p.owner).took ≡ false))
                    → is_excused (at_one i took_way booked.way) fell_now p ≡ true
                other_excused p not_own (inl f) = excused_fell (at_one i took_way booked.way) fell_now p
                    (still_fell p.task.number f)
                other_excused p not_own (inr it) = excused_on (at_one i took_way booked.way) fell_now p it.0
                    (ap (λ b. (cond b took_way (booked.way p.owner)).took) (ne_eqb i p.owner
                    (λ same. never (sym not_own ∙ ap (λ b. b && p.owner == i) it.0 ∙ eq-eqb _ _ (sym same)))) ∙ it.1)

          more_first : sum_by (λ q. (at_one i took_way booked.way q).first) (numbers_from 0 processors)
              ≡ sum_by (λ q. (booked.way q).first) (numbers_from 0 processors) + lost_first
          more_first = omega (
            arith,
            sum_on (λ q. (at_one i took_way booked.way q).first) (λ q. (booked.way q).first) i 0 processors
                (below_numbers i 0 processors (omega arith) (omega (arith, i_low)))
                (λ j other. ap (λ b. (cond b took_way (booked.way j)).first) (ne_eqb _ _ other)),
            ap (λ b. (cond b took_way (booked.way i)).first) (eq-eqb i i refl),
          )

          same : Each (SameBooks displaced_by) s.jobs
          same p member = by_test (eqb p.task.number x.task.number) (is_own_of i p) refl refl where
            by_test : (b c : Bool) → eqb p.task.number x.task.number ≡ b → is_own_of i p ≡ c → SameBooks displaced_by p
            by_test true c e f = role_books displaced_by p Running
                (ap (λ b. (cond b (placed_on i p) (cond (is_own_of i p) (in_role p Waiting) p)).task) e)
                (subst (λ u. is_over u.task ≡ false) (sym (one_job p x member x_member (eqb-true _ _ e))) x_open) refl
            by_test false true e f = role_books displaced_by p Waiting
                (ap (λ b. (cond b (placed_on i p) (cond (is_own_of i p) (in_role p Waiting) p)).task) e
                ∙ ap (λ c. (cond c (in_role p Waiting) p).task) f)
                (not_past p.task (on_it p f).0) refl where
                  not_past : (t : Task) → is_privileged t ≡ true → is_over t ≡ false
                  not_past t on = by_role (is_privileged_role t on) where
                    by_role : (t.role ≡ Running) ⊎ (t.role ≡ Held) → is_over t ≡ false
                    by_role (inl e) = passes is_over t Running false e refl
                    by_role (inr e) = passes is_over t Held false e refl
            by_test false false e f = task_books displaced_by p
                (ap (λ b. (cond b (placed_on i p) (cond (is_own_of i p) (in_role p Waiting) p)).task) e
                ∙ ap (λ c. (cond c (in_role p Waiting) p).task) f)

          more_displaced : sum_by (λ q. (at_one i took_way booked.way q).displaced) (numbers_from 0 processors)
              ≡ sum_by (λ q. (booked.way q).displaced) (numbers_from 0 processors) + lost
          more_displaced = omega (
            arith,
            sum_on (λ q. (at_one i took_way booked.way q).displaced) (λ q. (booked.way q).displaced) i 0 processors
                (below_numbers i 0 processors (omega arith) (omega (arith, i_low)))
                (λ j other. ap (λ b. (cond b took_way (booked.way j)).displaced) (ne_eqb _ _ other)),
            ap (λ b. (cond b took_way (booked.way i)).displaced) (eq-eqb i i refl),
          )
