-- What the plan of a front is worth.
use Rattle.std.proofs.Common.{◌≡◌, ℕ, zero, suc, ◌+◌, ◌*◌, ◌≤◌, ◌<◌, ◌⊎◌, inl, inr, List, [], ◌∷◌, ◌++◌, cond, eqb}
use Rattle.std.proofs.Common.{refl, sym, ap, ◌∙◌, subst, length, take, drop, replicate, arith}
use Rattle.std.specs.List.{sum, count_by}
use Rattle.std.proofs.lemmas.Bool.{cases_lt, le-leb, lt-leb, eq-eqb}
use Rattle.std.proofs.lemmas.List.{drop-take, append_assoc}
use Rattle.std.proofs.lemmas.List.Sums.{sum_by-cons}
use Rattle.dover_model.specs.Common.{JobFacts, ticks_given, earned, known_at, tight_job}
use Rattle.stated_jobs.specs.duel.Jobs.{smalls}
use Rattle.stated_jobs.proofs.duel.Phases.{jobs_from, names, plan, reward}
use Rattle.stated_jobs.proofs.duel.Served.{parts, parts_cons}
use Rattle.stated_jobs.proofs.duel.Fronts.{known_one, known_smalls, sum_cons}
use Rattle.stated_jobs.proofs.duel.Judging.{reward_here, reward_later}

-- a number again and again, and then more
count_all : (n v : ℕ) (more : List ℕ) → count_by (λ m. eqb m n) (take v (replicate v n ++ more)) ≡ v
count_all n zero more = refl
count_all n (suc v) more = sum_by-cons (λ m. cond (eqb m n) 1 0) n (take v (replicate v n ++ more))
    ∙ ap (λ b. cond b 1 0 + count_by (λ m. eqb m n) (take v (replicate v n ++ more))) (eq-eqb n n refl)
    ∙ ap (λ m. 1 + m) (count_all n v more) ∙ level where
      level : 1 + v ≡ suc v
      level = omega arith

drop_all : (n v : ℕ) (more : List ℕ) → drop v (replicate v n ++ more) ≡ more
drop_all n zero more = refl
drop_all n (suc v) more = drop_all n v more

abbrev nobody : List ℕ
nobody = []

none : (g : ℕ) → drop g nobody ≡ nobody
none zero = refl
none (suc g) = refl

drop_twice : (r g : ℕ) (xs : List ℕ) → drop (r + g) xs ≡ drop g (drop r xs)
drop_twice zero g xs = ap (λ m. drop m xs) same where
  same : zero + g ≡ g
  same = omega arith
drop_twice (suc r) g [] = none (suc r + g) ∙ sym (none g)
drop_twice (suc r) g (x ∷ xs) = ap (λ m. drop m (x ∷ xs)) same ∙ drop_twice r g xs where
  same : suc r + g ≡ suc (r + g)
  same = omega arith

-- a job that is named in its whole window earns its value
full : (s : List ℕ) (n t w d : ℕ) (more : List ℕ) → drop t s ≡ replicate w n ++ more
    → earned s (n, tight_job t w d) ≡ d * w
full s n t w d more here = ap (λ b. cond b (d * w) 0) (le-leb w (ticks_given s n (tight_job t w d)) (enough
    (ticks_given s n (tight_job t w d)) (ap (λ xs. count_by (λ m. eqb m n) xs) (drop-take t w s
    ∙ ap (λ xs. take w xs) here) ∙ count_all n w more))) where
      enough : (given : ℕ) → given ≡ w → w ≤ given
      enough given all = omega (arith, all)

-- the small jobs of a link, and what comes behind them
smalls_worth : (p : ℕ) (s : List ℕ) (n t : ℕ) (gs : List ℕ) (more : List ℕ) (jobs : List JobFacts)
    → drop t s ≡ names n gs ++ more
    → (parts s n (smalls p t gs ++ jobs) ≡ p * sum gs + parts s (n + length gs) jobs) × (drop (t + sum gs) s ≡ more)
smalls_worth p s n t [] more jobs here =
    (ap (λ m. parts s m jobs) same ∙ zeros (parts s (n + 0) jobs), ap (λ m. drop m s) none ∙ here) where
      same : n ≡ n + 0
      same = omega arith

      none : t + 0 ≡ t
      none = omega arith

      zeros : (m : ℕ) → m ≡ p * 0 + m
      zeros m = omega arith
smalls_worth p s n t (g ∷ gs) more jobs here = join
    (smalls_worth p s (n + 1) (t + g) gs more jobs (drop_twice t g s ∙ ap (λ xs. drop g xs) (here ∙ joined)
    ∙ drop_all n g (names (n + 1) gs ++ more))) where
      joined : (replicate g n ++ names (n + 1) gs) ++ more ≡ replicate g n ++ (names (n + 1) gs ++ more)
      joined = append_assoc (replicate g n) (names (n + 1) gs) more

      next : suc n ≡ n + 1
      next = omega arith

      count : n + 1 + length gs ≡ n + suc (length gs)
      count = omega arith

      behind : (all sums : ℕ) → all ≡ g + sums → t + all ≡ t + g + sums
      behind all sums is = omega (arith, is)

      level : (all one others last sums less : ℕ) → all ≡ one + others → one ≡ p * g → others ≡ p * less + last
          → sums ≡ g + less → all ≡ p * sums + last
      level all one others last sums less is first more sum =
          is ∙ subst (λ m. one + others ≡ p * m + last) (sym sum) (omega (arith, first, more))

      join : (parts s (n + 1) (smalls p (t + g) gs ++ jobs) ≡ p * sum gs + parts s (n + 1 + length gs) jobs)
          × (drop (t + g + sum gs) s ≡ more)
          → (parts s n (smalls p t (g ∷ gs) ++ jobs) ≡ p * sum (g ∷ gs) + parts s (n + length (g ∷ gs)) jobs)
          × (drop (t + sum (g ∷ gs)) s ≡ more)
      join rest = (
        level (parts s n (tight_job t g p ∷ (smalls p (t + g) gs ++ jobs))) (earned s (n, tight_job t g p))
            (parts s (suc n) (smalls p (t + g) gs ++ jobs)) (parts s (n + 1 + length gs) jobs) (sum (g ∷ gs)) (sum gs)
            (parts_cons s n (tight_job t g p) (smalls p (t + g) gs ++ jobs))
            (full s n t g p (names (n + 1) gs ++ more) (here ∙ joined))
            (ap (λ m. parts s m (smalls p (t + g) gs ++ jobs)) next ∙ rest.0)
            (sum_cons g gs) ∙ ap (λ m. p * sum (g ∷ gs) + parts s m jobs) count,
        ap (λ m. drop m s) (behind (sum (g ∷ gs)) (sum gs) (sum_cons g gs)) ∙ rest.1,
      )

plan_here : (o t : ℕ) (gs : List ℕ) (rest : List (List ℕ)) (last u : ℕ) → u < t + sum gs
    → plan o t (gs ∷ rest) last u ≡ replicate (sum gs + 1) o
plan_here o t gs rest last u less =
    ap (λ c. cond c (replicate (sum gs + 1) o)
    (names (o + 1) gs ++ plan (o + 1 + length gs) (t + sum gs) rest last u)) (le-leb (suc u) (t + sum gs) less)

plan_later : (o t : ℕ) (gs : List ℕ) (rest : List (List ℕ)) (last u : ℕ) → t + sum gs ≤ u
    → plan o t (gs ∷ rest) last u ≡ names (o + 1) gs ++ plan (o + 1 + length gs) (t + sum gs) rest last u
plan_later o t gs rest last u more =
    ap (λ c. cond c (replicate (sum gs + 1) o)
    (names (o + 1) gs ++ plan (o + 1 + length gs) (t + sum gs) rest last u))
    (lt-leb (suc u) (t + sum gs) (omega (arith, more)))

nothing_more : (xs : List ℕ) → xs ≡ xs ++ []
nothing_more [] = refl
nothing_more (x ∷ xs) = ap (λ ys. x ∷ ys) (nothing_more xs)

-- the plan is worth what it promises
pub plan_worth : (p q o t : ℕ) (phases : List (List ℕ)) (last tick : ℕ) (s : List ℕ) → t ≤ tick
    → drop t s ≡ plan o t phases last tick
    → reward p q t phases last tick ≤ p * t + parts s o (known_at tick (jobs_from p q t phases last))
plan_worth p q o t [] last tick s early here =
    subst (λ js. p * t + q * last ≤ p * t + parts s o js) (sym (known_one tick (tight_job t last q) [] early))
    (level (parts s o (tight_job t last q ∷ [])) (earned s (o, tight_job t last q)) (parts s (suc o) [])
    (parts_cons s o (tight_job t last q) []) (full s o t last q [] (here ∙ nothing_more (replicate last o)))) where
      level : (all one rest : ℕ) → all ≡ one + rest → one ≡ q * last → p * t + q * last ≤ p * t + all
      level all one rest is full = omega (arith, is, full)
plan_worth p q o t (gs ∷ rest) last tick s early here =
    subst (λ js. reward p q t (gs ∷ rest) last tick ≤ p * t + parts s o js)
    (sym (known_one tick (tight_job t (sum gs + 1) q) (smalls p t gs ++ jobs_from p q (t + sum gs) rest last) early))
    (by_order (cases_lt tick (t + sum gs))
    (λ more after. plan_worth p q (o + 1 + length gs) (t + sum gs) rest last tick s more after)) where
      known : List JobFacts
      known = known_at tick (smalls p t gs ++ jobs_from p q (t + sum gs) rest last)

      by_order : (tick < t + sum gs) ⊎ (t + sum gs ≤ tick)
          → (t + sum gs ≤ tick → drop (t + sum gs) s ≡ plan (o + 1 + length gs) (t + sum gs) rest last tick
          → reward p q (t + sum gs) rest last tick
          ≤ p * (t + sum gs) + parts s (o + 1 + length gs) (known_at tick (jobs_from p q (t + sum gs) rest last)))
          → reward p q t (gs ∷ rest) last tick
          ≤ p * t + parts s o (tight_job t (sum gs + 1) q
          ∷ known_at tick (smalls p t gs ++ jobs_from p q (t + sum gs) rest last))
      by_order (inl less) later =
          level (reward p q t (gs ∷ rest) last tick) (sum gs)
          (parts s o (tight_job t (sum gs + 1) q
          ∷ known_at tick (smalls p t gs ++ jobs_from p q (t + sum gs) rest last)))
          (earned s (o, tight_job t (sum gs + 1) q))
          (parts s (suc o) (known_at tick (smalls p t gs ++ jobs_from p q (t + sum gs) rest last)))
          (reward_here p q t gs rest last tick less)
          (parts_cons s o (tight_job t (sum gs + 1) q)
          (known_at tick (smalls p t gs ++ jobs_from p q (t + sum gs) rest last)))
          (full s o t (sum gs + 1) q [] (here ∙ plan_here o t gs rest last tick less
          ∙ nothing_more (replicate (sum gs + 1) o))) where
            level : (most sums all one rest : ℕ) → most ≡ p * t + q * (sums + 1) → all ≡ one + rest
                → one ≡ q * (sums + 1) → most ≤ p * t + all
            level most sums all one rest top is full = omega (arith, top, is, full)
      by_order (inr more) later =
          level (reward p q t (gs ∷ rest) last tick) (reward p q (t + sum gs) rest last tick) (sum gs)
          (parts s o (tight_job t (sum gs + 1) q
          ∷ known_at tick (smalls p t gs ++ jobs_from p q (t + sum gs) rest last)))
          (earned s (o, tight_job t (sum gs + 1) q))
          (parts s (suc o) (known_at tick (smalls p t gs ++ jobs_from p q (t + sum gs) rest last)))
          (parts s (o + 1 + length gs) (known_at tick (jobs_from p q (t + sum gs) rest last)))
          (reward_later p q t gs rest last tick more)
          (parts_cons s o (tight_job t (sum gs + 1) q)
          (known_at tick (smalls p t gs ++ jobs_from p q (t + sum gs) rest last)))
          (ap (λ js. parts s (suc o) js) (known_smalls p tick t gs (jobs_from p q (t + sum gs) rest last) more)
          ∙ ap (λ m. parts s m (smalls p t gs ++ known_at tick (jobs_from p q (t + sum gs) rest last))) next
          ∙ small.0) (later more small.1) where
            next : suc o ≡ o + 1
            next = omega arith

            small : (parts s (o + 1) (smalls p t gs ++ known_at tick (jobs_from p q (t + sum gs) rest last))
                ≡ p * sum gs + parts s (o + 1 + length gs) (known_at tick (jobs_from p q (t + sum gs) rest last)))
                × (drop (t + sum gs) s ≡ plan (o + 1 + length gs) (t + sum gs) rest last tick)
            small = smalls_worth p s (o + 1) t gs (plan (o + 1 + length gs) (t + sum gs) rest last tick)
                (known_at tick (jobs_from p q (t + sum gs) rest last)) (here ∙ plan_later o t gs rest last tick more)

            level : (most next sums all one others behind : ℕ) → most ≡ next → all ≡ one + others
                → others ≡ p * sums + behind → next ≤ p * (t + sums) + behind → most ≤ p * t + all
            level most next sums all one others behind top is small less = omega (arith, top, is, small, less)
