-- What intervals set aside: each of them, in the order of their ends, the job of greatest deadline among those that are
-- its own and not set aside yet. No interval sets aside two jobs, and no job is set aside twice.
use Rattle.std.proofs.Common.{◌≡◌, ℕ, ◌+◌, ◌≤◌, ◌<◌, ◌⊎◌, inl, inr, List, [], ◌∷◌, refl, sym, ap, subst}
use Rattle.std.proofs.Common.{Bool, true, false, cond, arith, nat_le, ◌&&◌, sum_by, filter, le-leb, leb-true}
use Rattle.std.proofs.lemmas.Bool.{cases_lt}
use Rattle.std.proofs.lemmas.List.Sums.{sum_by-cons}
use Rattle.dover_model.specs.Sound.{IsMember, Each}
use Rattle.dover_model.proofs.lists.Tests.{never}
use Rattle.dover_model.proofs.lists.Members.{member_filter, filter_member, sum_zero, each_cons}
use Rattle.dover_model.proofs.bound.Counting.{one}
use Rattle.dover_model.proofs.bound.Books.{Without, without, greatest}

module _ {I X : Type 0} (end : I → ℕ) (key : X → ℕ) (own : I → X → Bool) where
  -- none ends before one in front of it
  abbrev pub InOrder : List I → Type 0
  InOrder [] = Unit {0}
  InOrder (i ∷ later) = Each (λ other. end i ≤ end other) later × InOrder later

  -- the interval has ended by the tick
  abbrev pub has_ended : ℕ → I → Bool
  has_ended τ i = nat_le (end i) τ

  -- how many of its own intervals of a job have ended by the tick
  abbrev pub ended_own : ℕ → List I → X → ℕ
  ended_own τ is j = sum_by (λ i. one (has_ended τ i && own i j)) is

  -- how many jobs that are due no sooner were set aside by then
  abbrev pub aside_later : ℕ → List (I × X) → X → ℕ
  aside_later τ pairs j = sum_by (λ p. one (has_ended τ p.0 && nat_le (key j) (key p.1))) pairs

  -- of the jobs, where these pairs are set aside: those that aren't yet at the tick
  pub record Upto (is : List I) (jobs : List X) (pairs : List (I × X)) (τ : ℕ) : Type 0 where
    pub waiting : List X
    pub sums : (f : X → ℕ) → sum_by f jobs ≡ sum_by (λ p. cond (has_ended τ p.0) (f p.1) 0) pairs + sum_by f waiting
    pub members : Each (λ j. IsMember j jobs) waiting
    -- each of its intervals that has ended set aside another job, due no sooner
    pub passed : Each (λ j. ended_own τ is j ≤ aside_later τ pairs j) waiting

  -- what the intervals set aside of the jobs
  pub record Aside (is : List I) (jobs : List X) : Type 0 where
    pub pairs : List (I × X)
    pub rest : List X  -- the jobs that aren't set aside
    pub sums : (f : X → ℕ) → sum_by f jobs ≡ sum_by (λ p. f p.1) pairs + sum_by f rest
    pub members : Each (λ p. IsMember p.0 is × IsMember p.1 jobs × (own p.0 p.1 ≡ true)) pairs
    pub rest_members : Each (λ j. IsMember j jobs) rest
    pub others : List I  -- the intervals that set nothing aside
    pub intervals : (g : I → ℕ) → sum_by g is ≡ sum_by (λ p. g p.0) pairs + sum_by g others
    pub upto : (τ : ℕ) → Upto is jobs pairs τ

  -- where the first has not ended, none has
  none_ended : (i : I) (is : List I) (τ : ℕ) → InOrder (i ∷ is) → τ < end i → Each (λ other. has_ended τ other ≡ false)
      (i ∷ is)
  none_ended i is τ order late other (inl e) = fails (ap end e) where
    fails : end other ≡ end i → has_ended τ other ≡ false
    fails same = lt-leb_fails (end other) τ (omega arith) where
      lt-leb_fails : (a b : ℕ) → b < a → nat_le a b ≡ false
      lt-leb_fails a b less = by_test (nat_le a b) refl where
        by_test : (t : Bool) → nat_le a b ≡ t → nat_le a b ≡ false
        by_test false e = e
        by_test true e = absurd (let low : a ≤ b = leb-true a b e in omega arith)
  none_ended i is τ order late other (inr member) = fails (order.0 other member) where
    fails : end i ≤ end other → has_ended τ other ≡ false
    fails low = by_test (nat_le (end other) τ) refl where
      by_test : (t : Bool) → nat_le (end other) τ ≡ t → nat_le (end other) τ ≡ false
      by_test false e = e
      by_test true e = absurd (let less : end other ≤ τ = leb-true (end other) τ e in omega arith)

  -- before the first has ended all jobs wait
  all_wait : (i : I) (is : List I) (jobs : List X) (pairs : List (I × X)) (τ : ℕ) → InOrder (i ∷ is) → τ < end i
      → Each (λ p. IsMember p.0 (i ∷ is)) pairs → Upto (i ∷ is) jobs pairs τ
  all_wait i is jobs pairs τ order late members = record {
    waiting = jobs;
    sums = λ f. omega (
      arith,
      sum_zero (λ p. cond (has_ended τ p.0) (f p.1) 0) pairs
          (λ p member. ap (λ b. cond b (f p.1) 0) (none_ended i is τ order late p.0 (members p member))),
    );
    members = λ j member. member;
    passed = λ j member. omega (
      arith,
      sum_zero (λ (other : I). one (has_ended τ other && own other j)) (i ∷ is)
          (λ other m. ap (λ b. one (b && own other j)) (none_ended i is τ order late other m)),
    );
  }

  -- where the first has no job of its own, it changes nothing
  module _ (i : I) (is : List I) (jobs : List X) (order : InOrder (i ∷ is)) (more : Aside is jobs)
      (none : Each (λ j. own i j ≡ false) jobs) where
    skip_upto : (τ : ℕ) → Upto is jobs more.pairs τ → Upto (i ∷ is) jobs more.pairs τ
    skip_upto τ it = record {
      waiting = it.waiting;
      sums = it.sums;
      members = it.members;
      passed = λ j member. omega (
        arith,
        it.passed j member,
        sum_by-cons (λ (other : I). one (has_ended τ other && own other j)) i is,
        not_own (has_ended τ i) (own i j) (none j (it.members j member)),
      );
    } where
      not_own : (a b : Bool) → b ≡ false → one (a && b) ≡ 0
      not_own true false e = refl
      not_own false b e = refl
      not_own true true e = never (sym e)

    skip : Aside (i ∷ is) jobs
    skip = record {
      pairs = more.pairs;
      rest = more.rest;
      sums = more.sums;
      members = λ p member. let it = more.members p member in (inr it.0, it.1, it.2);
      rest_members = more.rest_members;
      others = i ∷ more.others;
      intervals = λ g. omega (arith, sum_by-cons g i is, sum_by-cons g i more.others, more.intervals g);
      upto = λ τ. skip_upto τ (more.upto τ);
    }

  -- where it has one, it sets aside the one of greatest deadline
  module _ (i : I) (is : List I) (jobs : List X) (order : InOrder (i ∷ is)) (x : X) (is_own : own i x ≡ true)
      (greatest_own : Each (λ j. own i j ≡ true → key j ≤ key x) jobs) (x_member : IsMember x jobs)
      (left : Without x jobs) (more : Aside is left.rest) where
    abbrev set_pairs : List (I × X)
    set_pairs = (i, x) ∷ more.pairs

    set_members : Each (λ p. IsMember p.0 (i ∷ is) × IsMember p.1 jobs × (own p.0 p.1 ≡ true)) set_pairs
    set_members = each_cons (λ p. IsMember p.0 (i ∷ is) × IsMember p.1 jobs × (own p.0 p.1 ≡ true)) (i, x) more.pairs
        (inl refl, x_member, is_own)
        (λ p member. let it = more.members p member in (inr it.0, left.members p.1 it.1, it.2))

    set_upto : (τ : ℕ) → Upto (i ∷ is) jobs set_pairs τ
    set_upto τ = by_order (cases_lt τ (end i)) (more.upto τ) where
      by_order : (τ < end i) ⊎ (end i ≤ τ) → Upto is left.rest more.pairs τ → Upto (i ∷ is) jobs set_pairs τ
      by_order (inl late) it = all_wait i is jobs set_pairs τ order late (λ p member. (set_members p member).0)
      by_order (inr ended) it = record {
        waiting = it.waiting;
        sums = λ f. omega (
          arith,
          left.sums f,
          it.sums f,
          sum_by-cons (λ (p : I × X). cond (has_ended τ p.0) (f p.1) 0) (i, x) more.pairs,
          ap (λ b. cond b (f x) 0) (le-leb (end i) τ ended),
        );
        members = λ j member. left.members j (it.members j member);
        passed = λ j member. omega (
          arith,
          it.passed j member,
          sum_by-cons (λ (other : I). one (has_ended τ other && own other j)) i is,
          sum_by-cons (λ (p : I × X). one (has_ended τ p.0 && nat_le (key j) (key p.1))) (i, x) more.pairs,
          no_later (has_ended τ i) (own i j) (nat_le (key j) (key x))
              (λ is_j. le-leb _ _ (greatest_own j (left.members j (it.members j member)) is_j)),
        );
      } where
        no_later : (a b c : Bool) → (b ≡ true → c ≡ true) → one (a && b) ≤ one (a && c)
        no_later false b c h = omega arith
        no_later true false c h = omega arith
        no_later true true true h = omega arith
        no_later true true false h = never (h refl)

    set : Aside (i ∷ is) jobs
    set = record {
      pairs = set_pairs;
      rest = more.rest;
      sums = λ f. omega (arith, left.sums f, more.sums f, sum_by-cons (λ (p : I × X). f p.1) (i, x) more.pairs);
      members = set_members;
      rest_members = λ j member. left.members j (more.rest_members j member);
      others = more.others;
      intervals = λ g. omega
          (arith, sum_by-cons g i is, sum_by-cons (λ (p : I × X). g p.0) (i, x) more.pairs, more.intervals g);
      upto = set_upto;
    }

  -- the intervals set aside jobs
  pub set_aside : (is : List I) (jobs : List X) → InOrder is → Aside is jobs
  set_aside [] jobs order = record {
    pairs = [];
    rest = jobs;
    sums = λ f. omega arith;
    members = λ p member. absurd member;
    rest_members = λ j member. member;
    others = [];
    intervals = λ g. omega arith;
    upto = λ τ. record {
      waiting = jobs;
      sums = λ f. omega arith;
      members = λ j member. member;
      passed = λ j member. omega arith;
    };
  }
  set_aside (i ∷ is) jobs order = by_own (greatest key (filter (own i) jobs)) (λ some. set_aside is some order.1) where
    by_own : (filter (own i) jobs ≡ [])
        ⊎ ((x : X) × IsMember x (filter (own i) jobs) × Each (λ j. key j ≤ key x) (filter (own i) jobs))
        → ((some : List X) → Aside is some) → Aside (i ∷ is) jobs
    by_own (inl none) more = skip i is jobs order (more jobs) (λ j member. by_test j member (own i j) refl) where
      by_test : (j : X) → IsMember j jobs → (b : Bool) → own i j ≡ b → own i j ≡ false
      by_test j member false e = e
      by_test j member true e = absurd (subst (IsMember j) none (filter_member (own i) jobs j member e))
    by_own (inr it) more = set i is jobs order it.0 own_member.1
        (λ j member is_j. it.2 j (filter_member (own i) jobs j member is_j)) own_member.0 left (more left.rest) where
          own_member : IsMember it.0 jobs × (own i it.0 ≡ true)
          own_member = member_filter (own i) jobs it.0 it.1

          left : Without it.0 jobs
          left = without it.0 jobs own_member.0
