-- The jobs inside a window, among those that are released in it.
use Rattle.std.proofs.Common.{◌≡◌, ℕ, zero, suc, ◌+◌, ◌-◌, ◌/◌, ◌≤◌, ◌<◌, List, [], ◌∷◌, ◌++◌, length, take, drop, inl}
use Rattle.std.proofs.Common.{inr, refl, sym, ap, ◌∙◌, subst, take-append-drop, get_or, Bool, true, false, cond, arith}
use Rattle.std.proofs.Common.{◌&&◌, nat_le, filter, sum_by, append-nil, drop-drop, length-take, length-drop}
use Rattle.std.proofs.lemmas.Bool.{lt-leb}
use Rattle.std.proofs.lemmas.List.{drop_more}
use Rattle.std.proofs.lemmas.List.Elements.{filter-append, filter_more}
use Rattle.dover_model.specs.Common.{JobFacts, IsJob, IsMember, Each, is_inside, work_inside}
use Rattle.dover_model.proofs.lists.Members.{filter_none, member_filter, member_behind, all_member, each_all}
use Rattle.dover_model.proofs.valid.Valid.{order_back}
use Rattle.clairvoyant.specs.overload.Stretches.{jobs_inside}
use Rattle.clairvoyant.specs.overload.Collecting.{IsCut, IsNear}
use Rattle.dover_model.proofs.valid.ValidParts.{ReleasesInOrder}
use Rattle.dover_model.proofs.valid.JobLimits.{job_limits}

-- those of jobs in order that pass a test are in order
pub filter_in_order : (p : JobFacts → Bool) (jobs : List JobFacts) → ReleasesInOrder jobs
    → ReleasesInOrder (filter p jobs)
filter_in_order p [] order = tt
filter_in_order p (j ∷ jobs) order = by_test (p j) (filter_in_order p jobs order.1) where
  by_test : (b : Bool) → ReleasesInOrder (filter p jobs) → ReleasesInOrder (cond b (j ∷ filter p jobs) (filter p jobs))
  by_test false rest = rest
  by_test true rest = (
    each_all (λ i. j.release ≤ i.release) (filter p jobs)
        (λ i member. all_member (λ (k : JobFacts). j.release ≤ k.release) jobs order.0 i
        (member_filter p jobs i member).0),
    rest,
  )

-- no more jobs pass a test than there are
pub filter_few : {X : Type 0} (p : X → Bool) (xs : List X) → length (filter p xs) ≤ length xs
filter_few p [] = omega arith
filter_few p (x ∷ xs) = by_test (p x) (filter_few p xs) where
  by_test : (b : Bool) → length (filter p xs) ≤ length xs
      → length (cond b (x ∷ filter p xs) (filter p xs)) ≤ length (x ∷ xs)
  by_test true few = omega (arith, few)
  by_test false few = omega (arith, few)

-- the middle of two places lies between them
pub halved : (low high : ℕ) → low < high → low + (high - low) / 2 < high
halved low high less = omega (arith, less)

-- a member of a rest is one of the list
pub in_rest : {X : Type 0} (n : ℕ) (xs : List X) (x : X) → IsMember x (drop n xs) → IsMember x xs
in_rest n xs x member = subst (IsMember x) (take-append-drop n xs) (member_behind (take n xs) (drop n xs) x member)

-- where the next job is late, all are
pub all_late : (tick n : ℕ) (jobs : List JobFacts) (j : JobFacts) → ReleasesInOrder jobs → n < length jobs
    → j ≡ get_or jobs n j
    → tick ≤ j.release → Each (λ i. tick ≤ i.release) (drop n jobs)
all_late tick n jobs j order short is late =
    subst (Each (λ (i : JobFacts). tick ≤ i.release)) (sym rest_is) (λ i member. by_member i member) where
      rest_is : drop n jobs ≡ j ∷ drop (n + 1) jobs
      rest_is = drop_more jobs n j short ∙ ap (λ i. i ∷ drop (n + 1) jobs) (sym is)

      ordered : ReleasesInOrder (j ∷ drop (n + 1) jobs)
      ordered = subst ReleasesInOrder rest_is
          (order_back (take n jobs) (drop n jobs) (subst ReleasesInOrder (sym (take-append-drop n jobs)) order))

      by_member : (i : JobFacts) → IsMember i (j ∷ drop (n + 1) jobs) → tick ≤ i.release
      by_member i (inl e) = subst (λ (k : JobFacts). tick ≤ k.release) (sym e) late
      by_member i (inr member) = let above : j.release ≤ i.release =
          all_member (λ (k : JobFacts). j.release ≤ k.release) (drop (n + 1) jobs) ordered.0 i member in
          omega (arith, above, late)

-- where some job is early, those before it are
all_before : (tick n : ℕ) (jobs : List JobFacts) (j : JobFacts) → ReleasesInOrder jobs → n < length jobs
    → j ≡ get_or jobs n j
    → j.release < tick → Each (λ i. i.release < tick) (take (suc n) jobs)
all_before tick n [] j order short is early i member = absurd (omega (arith, short))
all_before tick zero (k ∷ jobs) j order short is early i (inl e) =
    subst (λ (x : JobFacts). x.release < tick) (is ∙ sym e) early
all_before tick zero (k ∷ jobs) j order short is early i (inr member) = absurd member
all_before tick (suc n) (k ∷ jobs) j order short is early i (inl e) =
    let there : n < length jobs = omega (arith, short) in
    let above : k.release ≤ j.release = all_member (λ (l : JobFacts). k.release ≤ l.release) jobs order.0 j
    (in_rest n jobs j (subst (IsMember j) (sym (drop_more jobs n j there)) (inl is))) in
    subst (λ (x : JobFacts). x.release < tick) (sym e) (omega (arith, above, early))
all_before tick (suc n) (k ∷ jobs) j order short is early i (inr member) =
    all_before tick n jobs j order.1 (omega (arith, short)) is early i member

pub all_early : (tick n : ℕ) (jobs : List JobFacts) (j : JobFacts) → ReleasesInOrder jobs → n < length jobs
    → j ≡ get_or jobs n j
    → j.release < tick → Each (λ i. i.release < tick) (take (n + 1) jobs)
all_early tick n jobs j order short is early = subst (λ m. Each (λ (i : JobFacts). i.release < tick) (take m jobs))
    (let e : suc n ≡ n + 1 = omega arith in e) (all_before tick n jobs j order short is early)

-- a job that is released too early isn't inside
pub early_out : (a b : ℕ) (j : JobFacts) → j.release < a → is_inside a b j ≡ false
early_out a b j early = ap (λ x. x && nat_le j.deadline b) (lt-leb _ _ early)

-- nor is one that is released too late
pub late_out : (a b : ℕ) (j : JobFacts) → IsJob j → b ≤ j.release → is_inside a b j ≡ false
late_out a b j good late = by_test (nat_le a j.release) where
  by_test : (x : Bool) → (x && nat_le j.deadline b) ≡ false
  by_test false = refl
  by_test true = lt-leb _ _ (omega (arith, (job_limits good).work, (job_limits good).window, late))

module _ (jobs : List JobFacts) (a b m n : ℕ) (good : Each IsJob jobs) (first : IsCut jobs a m)
    (second : IsCut jobs b n) where
  -- the jobs inside, among some
  abbrev within : List JobFacts → List JobFacts
  within js = jobs_inside js a b

  early : within (take m jobs) ≡ []
  early = filter_none (is_inside a b) (take m jobs) (λ j member. early_out a b j (first.before j member))

  -- what is behind the place, at the second cut or later
  behind : drop (n - m) (drop m jobs) ≡ drop (m + (n - m) - n) (drop n jobs)
  behind = drop-drop (n - m) m jobs ∙ ap (λ k. drop k jobs) (let e : m + (n - m) ≡ n + (m +
      (n - m) - n) = omega arith in e)
      ∙ sym (drop-drop (m + (n - m) - n) n jobs)

  none : (k : ℕ) → within (drop k (drop n jobs)) ≡ []
  none k = filter_none (is_inside a b) (drop k (drop n jobs)) (λ j member. late_out a b j
      (good j (in_rest n jobs j (in_rest k (drop n jobs) j member)))
      (second.behind j (in_rest k (drop n jobs) j member)))

  near_inside : within (take (n - m) (drop m jobs)) ≡ within jobs
  near_inside = sym (ap within (sym (take-append-drop m jobs))
      ∙ filter-append (is_inside a b) (take m jobs) (drop m jobs) ∙ ap (λ l. l ++ within (drop m jobs)) early
      ∙ ap within (sym (take-append-drop (n - m) (drop m jobs)))
      ∙ filter-append (is_inside a b) (take (n - m) (drop m jobs)) (drop (n - m) (drop m jobs))
      ∙ ap (λ l. within (take (n - m) (drop m jobs)) ++ l) (ap within behind ∙ none (m + (n - m) - n))
      ∙ append-nil (within (take (n - m) (drop m jobs))))

-- no more and no others are inside than are among those released in the window
pub found_inside : (jobs : List JobFacts) (a b : ℕ) → Each IsJob jobs → (near got found : List JobFacts)
    → found ≡ got → got ≡ jobs_inside near a b → IsNear jobs a b near → found ≡ jobs_inside jobs a b
found_inside jobs a b good near got found is filtered cut = is ∙ filtered ∙ ap (λ js. jobs_inside js a b) cut.4
    ∙ near_inside jobs a b cut.0 cut.1 good cut.2 cut.3

-- nor have they more work, or less
pub near_work : (jobs near : List JobFacts) (a b : ℕ) → Each IsJob jobs → IsNear jobs a b near
    → work_inside near a b ≡ work_inside jobs a b
near_work jobs near a b good cut = ap (sum_by (λ (j : JobFacts). j.work))
    (ap (λ js. jobs_inside js a b) cut.4 ∙ near_inside jobs a b cut.0 cut.1 good cut.2 cut.3)

-- they are no more than all
pub near_few : (jobs near : List JobFacts) (a b : ℕ) → IsNear jobs a b near → length near ≤ length jobs
near_few jobs near a b cut = omega (
  arith,
  ap length cut.4,
  length-take (cut.1 - cut.0) (drop cut.0 jobs),
  length-drop cut.0 jobs,
)

-- one job more, by whether it is inside
pub inside_more : (jobs : List JobFacts) (i : ℕ) (j : JobFacts) (a b : ℕ) (is : Bool) → i < length jobs
    → j ≡ get_or jobs i j → is ≡ is_inside a b j
    → jobs_inside (take (i + 1) jobs) a b ≡ jobs_inside (take i jobs) a b ++ cond is (j ∷ []) []
inside_more jobs i j a b is short here tells =
    filter_more (is_inside a b) jobs i j short
    ∙ ap (λ x. jobs_inside (take i jobs) a b ++ cond (is_inside a b x) (x ∷ []) []) (sym here)
    ∙ ap (λ t. jobs_inside (take i jobs) a b ++ cond t (j ∷ []) []) (sym tells)
