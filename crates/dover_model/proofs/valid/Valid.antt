-- The first jobs of a valid instance are a valid instance, and those known at a tick are its first jobs.
use Rattle.std.proofs.Common.{◌≡◌, ℕ, ◌+◌, ◌≤◌, ◌<◌, inl, inr, List, [], ◌∷◌, ◌++◌, length, refl, sym, ap, ◌∙◌, subst}
use Rattle.std.proofs.Common.{Bool, true, false, cond, arith, nat_le, sum_by, leb-true, leb-false}
use Rattle.std.specs.List.{AllByRecursion}
use Rattle.std.proofs.lemmas.List.Sums.{sum_by-cons}
use Rattle.dover_model.specs.Common.{JobFacts, IsJob, Instance, IsValid, with_jobs, known_at, Each}
use Rattle.dover_model.proofs.lists.Members.{all_member}
use Rattle.dover_model.proofs.valid.Dues.{last_front}
use Rattle.dover_model.proofs.valid.ValidParts.{IsWithinRatio, ReleasesInOrder, ValidParts, valid_parts, valid_from}

-- what holds of all holds of the first
pub all_front : {X : Type 0} (P : X → Type 0) (xs ys : List X) → AllByRecursion P (xs ++ ys) → AllByRecursion P xs
all_front P [] ys all = tt
all_front P (x ∷ xs) ys all = (all.0, all_front P xs ys all.1)

-- and of the last
pub all_back : {X : Type 0} (P : X → Type 0) (xs ys : List X) → AllByRecursion P (xs ++ ys) → AllByRecursion P ys
all_back P [] ys all = all
all_back P (x ∷ xs) ys all = all_back P xs ys all.1

-- what holds of all, and more
pub all_from : {X : Type 0} (P Q : X → Type 0) (xs : List X) → ((x : X) → P x → Q x) → AllByRecursion P xs
    → AllByRecursion Q xs
all_from P Q [] h all = tt
all_from P Q (x ∷ xs) h all = (h x all.0, all_from P Q xs h all.1)

-- the first jobs are in order
pub order_front : (xs ys : List JobFacts) → ReleasesInOrder (xs ++ ys) → ReleasesInOrder xs
order_front [] ys order = tt
order_front (j ∷ xs) ys order =
    (all_front (λ later. j.release ≤ later.release) xs ys order.0, order_front xs ys order.1)

-- and so are the last
pub order_back : (xs ys : List JobFacts) → ReleasesInOrder (xs ++ ys) → ReleasesInOrder ys
order_back [] ys order = order
order_back (x ∷ xs) ys order = order_back xs ys order.1

-- the first are no more than all
length_front : {X : Type 0} (xs ys : List X) → length xs ≤ length (xs ++ ys)
length_front [] ys = omega arith
length_front (x ∷ xs) ys = omega (arith, length_front xs ys)

-- and sum up to no more
sum_front : (f : JobFacts → ℕ) (xs ys : List JobFacts) → sum_by f xs ≤ sum_by f (xs ++ ys)
sum_front f [] ys = omega arith
sum_front f (x ∷ xs) ys = omega (arith, sum_by-cons f x xs, sum_by-cons f x (xs ++ ys), sum_front f xs ys)

-- the first jobs of a valid instance are one
pub valid_front : (J : Instance) (more : List JobFacts) → IsValid (with_jobs J more) → IsValid J
valid_front J more valid = valid_from (record {
  ratio = parts.ratio;
  each = all_front IsJob J.jobs more parts.each;
  due = omega (arith, parts.due, last_front J.jobs more);
  in_order = order_front J.jobs more parts.in_order;
  count = omega (arith, parts.count, length_front J.jobs more);
  total = omega (arith, parts.total, sum_front (λ j. j.value) J.jobs more);
  densities = all_from (λ i. AllByRecursion (IsWithinRatio J.rules.ratio i) (J.jobs ++ more))
      (λ i. AllByRecursion (IsWithinRatio J.rules.ratio i) J.jobs) J.jobs
      (λ i row. all_front (IsWithinRatio J.rules.ratio i) J.jobs more row)
      (all_front (λ i. AllByRecursion (IsWithinRatio J.rules.ratio i) (J.jobs ++ more)) J.jobs more parts.densities);
}) where
  parts : ValidParts (with_jobs J more)
  parts = valid_parts valid

-- the jobs are those known at t, and behind them others that are released later
pub record Split (t : ℕ) (jobs : List JobFacts) : Type 0 where
  pub more : List JobFacts
  pub whole : jobs ≡ known_at t jobs ++ more
  pub late : Each (λ j. t + 1 ≤ j.release) more

-- of later jobs none is known
none_known : (t : ℕ) (jobs : List JobFacts) → Each (λ j. t < j.release) jobs → known_at t jobs ≡ []
none_known t [] late = refl
none_known t (j ∷ jobs) late = by_test (nat_le j.release t) refl (none_known t jobs (λ i m. late i (inr m))) where
  by_test : (b : Bool) → nat_le j.release t ≡ b → known_at t jobs ≡ []
      → cond b (j ∷ known_at t jobs) (known_at t jobs) ≡ []
  by_test true low rest = absurd
      (let less : j.release ≤ t = leb-true _ _ low in let above : t < j.release = late j (inl refl) in omega arith)
  by_test false high rest = rest

-- jobs in order are the known ones, and the later ones
pub split_known : (t : ℕ) (jobs : List JobFacts) → ReleasesInOrder jobs → Split t jobs
split_known t [] order = record { more = []; whole = refl; late = λ j member. absurd member }
split_known t (j ∷ jobs) order = by_test (nat_le j.release t) refl (split_known t jobs order.1) where
  by_test : (b : Bool) → nat_le j.release t ≡ b → Split t jobs → Split t (j ∷ jobs)
  by_test true low it = record {
    more = it.more;
    whole = ap (λ js. j ∷ js) it.whole
        ∙ ap (λ b. cond b (j ∷ known_at t jobs) (known_at t jobs) ++ it.more) (sym low);
    late = it.late;
  }
  by_test false high it =
      let above : t < j.release = leb-false _ _ high in
      record {
        more = j ∷ jobs;
        whole = ap (λ js. js ++ (j ∷ jobs)) (sym (none_known t (j ∷ jobs) later));
        late =
            λ i m. let high_i : t < i.release = later i m in omega arith;
      } where
        later : Each (λ i. t < i.release) (j ∷ jobs)
        later i (inl e) = subst (λ (x : JobFacts). t < x.release) (sym e) (leb-false _ _ high)
        later i (inr member) = let order_i : j.release ≤ i.release =
            all_member (λ l. j.release ≤ l.release) jobs order.0 i member in
            let above : t < j.release = leb-false _ _ high in omega arith
