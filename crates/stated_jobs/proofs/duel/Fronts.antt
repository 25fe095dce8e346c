-- Fronts of a duel's jobs, and the tick at which a schedule leaves the path.
use Rattle.std.proofs.Common.{◌≡◌, ℕ, zero, suc, ◌+◌, ◌≤◌, ◌<◌, ◌⊎◌, inl, inr, List, [], ◌∷◌, ◌++◌, cond, refl, sym, ap}
use Rattle.std.proofs.Common.{◌∙◌, subst, length, length-append, arith, Some, None, Option, slice_get, sum, le-leb}
use Rattle.std.specs.List.{AllByRecursion}
use Rattle.std.proofs.lemmas.Bool.{cases_lt, lt-leb}
use Rattle.std.proofs.lemmas.List.Sums.{sum_by-cons}
use Rattle.dover_model.specs.Common.{JobFacts, known_at, tight_job}
use Rattle.stated_jobs.specs.duel.Jobs.{smalls}
use Rattle.stated_jobs.proofs.duel.Phases.{jobs_from, path, end_of}
use Rattle.stated_jobs.proofs.duel.Served.{Numbered}
use Rattle.dover_model.proofs.valid.ValidParts.{ReleasesInOrder}

-- ---- the first tick off the path

pub record Leaves (s : List ℕ) (way : ℕ → ℕ) (until tick : ℕ) : Type 0 where
  pub early : tick ≤ until
  pub before : (u : ℕ) → u < tick → slice_get s u ≡ Some (way u)
  pub off : tick < until → slice_get s tick ≡ Some (way tick) → ⊥

-- whether a place names a number
pub names_or_not : (x : Option ℕ) (n : ℕ) → (x ≡ Some n) ⊎ (x ≡ Some n → ⊥)
names_or_not None n = inr (λ e. absurd (none e)) where
  none : None ≡ Some n → ⊥
  none e = absurd (cc)
names_or_not (Some m) n = by_order (cases_lt m n) (cases_lt n m) where
  some : (m n : ℕ) → Some m ≡ Some n → m ≡ n
  some m n e = cc

  by_order : (m < n) ⊎ (n ≤ m) → (n < m) ⊎ (m ≤ n) → (Some m ≡ Some n) ⊎ (Some m ≡ Some n → ⊥)
  by_order (inl less) other = inr (λ e. omega (arith, less, some m n e))
  by_order (inr more) (inl less) = inr (λ e. omega (arith, less, some m n e))
  by_order (inr more) (inr less) = inl (ap (λ x. Some x) (omega (arith, more, less)))

pub leaves_from : (s : List ℕ) (way : ℕ → ℕ) (until fuel tick : ℕ) → tick + fuel ≡ until
    → ((u : ℕ) → u < tick → slice_get s u ≡ Some (way u)) → (at : ℕ) × Leaves s way until at
leaves_from s way until zero tick count before = (
  tick,
  record { early = omega (arith, count); before = before; off = λ less named. omega (arith, less, count) },
)
leaves_from s way until (suc fuel) tick count before = by_test (names_or_not (slice_get s tick) (way tick))
    (λ further. leaves_from s way until fuel (suc tick) (omega (arith, count)) further) where
      by_test : (slice_get s tick ≡ Some (way tick)) ⊎ (slice_get s tick ≡ Some (way tick) → ⊥)
          → (((u : ℕ) → u < suc tick → slice_get s u ≡ Some (way u)) → (at : ℕ) × Leaves s way until at)
          → (at : ℕ) × Leaves s way until at
      by_test (inr off) goes = (tick, record { early = omega (arith, count); before = before; off = λ less. off })
      by_test (inl on) goes = goes (λ u less. by_order u less (cases_lt u tick)) where
        by_order : (u : ℕ) → u < suc tick → (u < tick) ⊎ (tick ≤ u) → slice_get s u ≡ Some (way u)
        by_order u less (inl low) = before u low
        by_order u less (inr high) =
            subst (λ m. slice_get s m ≡ Some (way m)) (same u less high) on where
              same : (u : ℕ) → u < suc tick → tick ≤ u → tick ≡ u
              same u less high = omega (arith, less, high)

-- ---- facts by number, and what is known

pub numbered_append : (fact : ℕ → JobFacts → Type 0) (n : ℕ) (xs ys : List JobFacts) → Numbered fact n xs
    → Numbered fact (n + length xs) ys → Numbered fact n (xs ++ ys)
numbered_append fact n [] ys front rest = subst (λ m. Numbered fact m ys) same rest where
  same : n + 0 ≡ n
  same = omega arith
numbered_append fact n (x ∷ xs) ys front rest =
    (front.0, numbered_append fact (suc n) xs ys front.1 (subst (λ m. Numbered fact m ys) same rest)) where
      same : n + suc (length xs) ≡ suc n + length xs
      same = omega arith

none_known : (t r : ℕ) (jobs : List JobFacts) → t < r → AllByRecursion (λ j. r ≤ j.release) jobs
    → known_at t jobs ≡ []
none_known t r [] less all = refl
none_known t r (j ∷ jobs) less all =
    ap (λ c. cond c (j ∷ known_at t jobs) (known_at t jobs)) (lt-leb j.release t (omega (arith, less, all.0)))
    ∙ none_known t r jobs less all.1

-- what is known of jobs in order has the same numbers
pub known_numbered : (fact : ℕ → JobFacts → Type 0) (t n : ℕ) (jobs : List JobFacts) → ReleasesInOrder jobs
    → Numbered (λ m j. j.release ≤ t → fact m j) n jobs → Numbered fact n (known_at t jobs)
known_numbered fact t n [] order all = tt
known_numbered fact t n (j ∷ jobs) order all = by_order (cases_lt t j.release)
    (known_numbered fact t (suc n) jobs order.1 all.1) where
      by_order : (t < j.release) ⊎ (j.release ≤ t) → Numbered fact (suc n) (known_at t jobs)
          → Numbered fact n (known_at t (j ∷ jobs))
      by_order (inl late) rest = subst (λ js. Numbered fact n js) (sym (ap
          (λ c. cond c (j ∷ known_at t jobs) (known_at t jobs)) (lt-leb j.release t late)
          ∙ none_known t j.release jobs late order.0)) tt
      by_order (inr early) rest = subst (λ js. Numbered fact n js) (sym (ap
          (λ c. cond c (j ∷ known_at t jobs) (known_at t jobs)) (le-leb j.release t early))) (all.0 early, rest)

-- a job that is known
pub known_one : (t : ℕ) (j : JobFacts) (jobs : List JobFacts) → j.release ≤ t
    → known_at t (j ∷ jobs) ≡ j ∷ known_at t jobs
known_one t j jobs early = ap (λ c. cond c (j ∷ known_at t jobs) (known_at t jobs)) (le-leb j.release t early)

pub sum_cons : (g : ℕ) (gs : List ℕ) → sum (g ∷ gs) ≡ g + sum gs
sum_cons g gs = sum_by-cons (λ x. x) g gs

-- small jobs that all are
pub known_smalls : (p t r : ℕ) (gs : List ℕ) (ys : List JobFacts) → r + sum gs ≤ t
    → known_at t (smalls p r gs ++ ys) ≡ smalls p r gs ++ known_at t ys
known_smalls p t r [] ys early = refl
known_smalls p t r (g ∷ gs) ys early =
    known_one t (tight_job r g p) (smalls p (r + g) gs ++ ys) (omega (arith, early))
    ∙ ap (λ js. tight_job r g p ∷ js) (known_smalls p t (r + g) gs ys
    (level (sum (g ∷ gs)) (sum gs) (sum_cons g gs) early)) where
      level : (all rest : ℕ) → all ≡ g + rest → r + all ≤ t → r + g + rest ≤ t
      level all rest is less = omega (arith, is, less)

pub length_smalls : (p r : ℕ) (gs : List ℕ) → length (smalls p r gs) ≡ length gs
length_smalls p r [] = refl
length_smalls p r (g ∷ gs) = ap suc (length_smalls p (r + g) gs)

-- ---- the path

-- in the ticks of a link's small jobs it is that link
pub path_here : (o t : ℕ) (gs : List ℕ) (rest : List (List ℕ)) (u : ℕ) → u < t + sum gs
    → path o t (gs ∷ rest) u ≡ o
path_here o t gs rest u less =
    ap (λ c. cond c o (path (o + 1 + length gs) (t + sum gs) rest u)) (le-leb (suc u) (t + sum gs) less)

pub path_later : (o t : ℕ) (gs : List ℕ) (rest : List (List ℕ)) (u : ℕ) → t + sum gs ≤ u
    → path o t (gs ∷ rest) u ≡ path (o + 1 + length gs) (t + sum gs) rest u
path_later o t gs rest u more =
    ap (λ c. cond c o (path (o + 1 + length gs) (t + sum gs) rest u))
    (lt-leb (suc u) (t + sum gs) (omega (arith, more)))

pub path_least : (o t : ℕ) (phases : List (List ℕ)) (u : ℕ) → o ≤ path o t phases u
path_least o t [] u = omega arith
path_least o t (gs ∷ rest) u = by_order (cases_lt u (t + sum gs)) (path_least (o + 1 + length gs) (t + sum gs) rest u)
  where
    by_order : (u < t + sum gs) ⊎ (t + sum gs ≤ u)
        → o + 1 + length gs ≤ path (o + 1 + length gs) (t + sum gs) rest u → o ≤ path o t (gs ∷ rest) u
    by_order (inl less) later = subst (λ m. o ≤ m) (sym (path_here o t gs rest u less)) (omega arith)
    by_order (inr more) later = subst (λ m. o ≤ m) (sym (path_later o t gs rest u more)) (omega (arith, later))

pub end_least : (t : ℕ) (phases : List (List ℕ)) → t ≤ end_of t phases
end_least t [] = omega arith
end_least t (gs ∷ rest) = omega (arith, end_least (t + sum gs) rest)

-- its job is known
pub path_known : (p q o t : ℕ) (phases : List (List ℕ)) (last u tick : ℕ) → t ≤ u → u ≤ tick
    → path o t phases u < o + length (known_at tick (jobs_from p q t phases last))
path_known p q o t [] last u tick late early =
    subst (λ js. o < o + length js) (sym (known_one tick (tight_job t last q) [] (omega (arith, late, early))))
    (level (length (known_at tick []))) where
      level : (m : ℕ) → o < o + suc m
      level m = omega arith
path_known p q o t (gs ∷ rest) last u tick late early =
    subst (λ js. path o t (gs ∷ rest) u < o + length js)
    (sym (known_one tick (tight_job t (sum gs + 1) q) (smalls p t gs ++ jobs_from p q (t + sum gs) rest last)
    (omega (arith, late, early))))
    (by_order (cases_lt u (t + sum gs))
    (λ more. path_known p q (o + 1 + length gs) (t + sum gs) rest last u tick more early)) where
      level : (m : ℕ) → o < o + suc m
      level m = omega arith

      add : (x n m all : ℕ) → x < o + 1 + n + m → all ≡ n + m → x < o + suc all
      add x n m all less is = omega (arith, less, is)

      by_order : (u < t + sum gs) ⊎ (t + sum gs ≤ u)
          → (t + sum gs ≤ u → path (o + 1 + length gs) (t + sum gs) rest u
          < o + 1 + length gs + length (known_at tick (jobs_from p q (t + sum gs) rest last)))
          → path o t (gs ∷ rest) u
          < o + suc (length (known_at tick (smalls p t gs ++ jobs_from p q (t + sum gs) rest last)))
      by_order (inl less) later = subst (λ m. m < o + suc (length
          (known_at tick (smalls p t gs ++ jobs_from p q (t + sum gs) rest last)))) (sym (path_here o t gs rest u less))
          (level (length (known_at tick (smalls p t gs ++ jobs_from p q (t + sum gs) rest last))))
      by_order (inr more) later = subst (λ m. m < o + suc (length
          (known_at tick (smalls p t gs ++ jobs_from p q (t + sum gs) rest last)))) (sym
          (path_later o t gs rest u more))
          (add (path (o + 1 + length gs) (t + sum gs) rest u) (length gs)
          (length (known_at tick (jobs_from p q (t + sum gs) rest last)))
          (length (known_at tick (smalls p t gs ++ jobs_from p q (t + sum gs) rest last))) (later more)
          (ap (λ js. length js) (known_smalls p tick t gs (jobs_from p q (t + sum gs) rest last)
          (omega (arith, more, early)))
          ∙ length_both)) where
            length_both : length (smalls p t gs ++ known_at tick (jobs_from p q (t + sum gs) rest last))
                ≡ length gs + length (known_at tick (jobs_from p q (t + sum gs) rest last))
            length_both = length-append (smalls p t gs) (known_at tick (jobs_from p q (t + sum gs) rest last))
                ∙ ap (λ n. n + length (known_at tick (jobs_from p q (t + sum gs) rest last))) (length_smalls p t gs)
