-- Of a sure stream no job is lost, however its jobs and those of the others come.
use Rattle.std.proofs.Common.{◌≡◌, ℕ, zero, suc, ◌+◌, ◌-◌, ◌*◌, ◌≤◌, ◌<◌, ◌⊎◌, inl, inr, List, [], ◌∷◌, length, refl}
use Rattle.std.proofs.Common.{sym, ap, ◌∙◌, subst, Bool, true, false, cond, eqb, arith}
use Rattle.std.specs.Prelude.{nat_le, nat_lt, not, ◌&&◌, get_or, max, ◌++◌, replicate}
use Rattle.std.specs.List.{sum_by, enumerate_from}
use Rattle.std.proofs.lemmas.Nat.{mul-le}
use Rattle.std.proofs.lemmas.Bool.{eqb-true, eq-eqb, ne_eqb, leb-true, leb-false, le-leb, ltb-true, and_parts}
use Rattle.std.proofs.lemmas.Bool.{and_from, cases_lt}
use Rattle.std.proofs.lemmas.List.Sums.{sum_by-cons}
use Rattle.dover_model.specs.Common.{Fraction, JobFacts, IsJob, Instance, IsValid, numbered, IsHeavy, IsMember, Each}
use Rattle.task_laws.specs.Sure.{IsHeavyAt, IsCompleted, Stream, stream_at, blank_stream}
use Rattle.task_laws.specs.Sure.{AreOfStreams, most_crossing, CanStack, worth_of, is_spread, IsSure, most_beside}
use Rattle.task_laws.specs.Sure.{IsOfStream, others, best_of, most_fitting}
use Rattle.dover_model.specs.Windows.{worth_beside, crosses, crossing_beside}
use Rattle.task_laws.specs.Sure.{chosen_value, chosen_work, CanHold, work_within}
use Rattle.dover_model.proofs.lists.Members.{sum_le, sum_zero, term_le_sum, all_member}
use Rattle.dover_model.proofs.lists.Members.{number_of}
use Rattle.dover_model.proofs.valid.JobLimits.{JobLimits, job_limits}
use Rattle.dover_model.proofs.valid.ValidParts.{valid_parts}
use Rattle.dover_model.proofs.bound.Books.{scaled_sum}
use Rattle.dover_model.proofs.bound.Calculus.{heavy_mono, heavy_more, heavy_up}
use Rattle.task_laws.proofs.sure.Sure.{heavy_at_start, heavy_in_all}
use Rattle.dover_model.proofs.lists.Tests.{never}
use Rattle.dover_model.specs.Orders.{IsByDeadline}
use Rattle.task_laws.proofs.sure.Labels.{is_at, member_at, by_labels, once, by_labels_back, latest, some_counted}
use Rattle.task_laws.proofs.sure.Labels.{count_most, some_gaps, one}

-- ---- a sure stream

-- the member of a list at a place
at_place : (xs : List Stream) (y : ℕ) → y < length xs → IsMember (get_or xs y blank_stream) xs
at_place [] y less = absurd (omega arith)
at_place (x ∷ xs) zero less = inl refl
at_place (x ∷ xs) (suc y) less = inr (at_place xs y (omega arith))

-- a numbered member has a place
has_place : (k : ℕ) (xs : List Stream) (y_s : ℕ × Stream) → IsMember y_s (enumerate_from k xs) → y_s.0 < k + length xs
has_place k [] y_s member = absurd member
has_place k (x ∷ xs) y_s (inl e) = let same : y_s.0 ≡ k = ap (λ (i : ℕ × Stream). i.0) e in omega (arith, same)
has_place k (x ∷ xs) y_s (inr member) =
    let below : y_s.0 < k + 1 + length xs = has_place (k + 1) xs y_s member in omega (arith, below)

-- each member of a numbered list is what its number names
stream_is : (streams : List Stream) (y_s : ℕ × Stream) → IsMember y_s (enumerate_from 0 streams)
    → stream_at streams y_s.0 ≡ y_s.1
stream_is streams y_s member = ap (λ y. stream_at streams y) (let e : y_s.0 ≡ y_s.0 - 0 = omega arith in e)
    ∙ is_at 0 streams blank_stream y_s member

-- as many as can cross a tick are worth no more than all that can
worth_most : (streams : List Stream) (x : ℕ) (counts : ℕ → ℕ) → counts x ≡ 0
    → ((y : ℕ) → y < length streams → counts y ≤ most_crossing (stream_at streams y))
    → worth_of counts streams ≤ most_beside streams x
worth_most streams x counts waits few =
    sum_le (λ y_s. counts y_s.0 * y_s.1.value)
    (λ y_s. cond (eqb y_s.0 x) 0 (most_crossing y_s.1 * y_s.1.value)) (enumerate_from 0 streams)
    (λ y_s m. by_number y_s m (eqb y_s.0 x) refl) where
      by_number : (y_s : ℕ × Stream) → IsMember y_s (enumerate_from 0 streams) → (b : Bool) → eqb y_s.0 x ≡ b
          → counts y_s.0 * y_s.1.value ≤ cond b 0 (most_crossing y_s.1 * y_s.1.value)
      by_number y_s m true same =
          let none : counts y_s.0 * y_s.1.value ≡ 0 * y_s.1.value =
          ap (λ c. c * y_s.1.value) (ap counts (eqb-true _ _ same) ∙ waits) in
          omega (arith, none)
      by_number y_s m false differs =
          mul-le _ _ _ _ (subst (λ (s : Stream). counts y_s.0 ≤ most_crossing s) (stream_is streams y_s m)
          (few y_s.0 (let place : y_s.0 < 0 + length streams = has_place 0 streams y_s m in
          omega (arith, place)))) (omega arith)

-- so what can be stacked is
pub heavy_by_sum : (k : Fraction) (streams : List Stream) (x v : ℕ) → IsHeavy k v (most_beside streams x)
    → (counts : ℕ → ℕ) → CanStack streams x counts → IsHeavy k v (worth_of counts streams)
heavy_by_sum k streams x v heavy counts can = heavy_mono k v (worth_of counts streams) (most_beside streams x)
    (worth_most streams x counts can.waits can.few) heavy

-- a job that is all that its stream allows is sure where the stream is spread and heavy
pub sure_of_stream : (k : Fraction) (streams : List Stream) (x : ℕ) (j : JobFacts)
    → is_spread (stream_at streams x) ≡ true
    → ((counts : ℕ → ℕ) → CanStack streams x counts
    → IsHeavy k (stream_at streams x).value (worth_of counts streams))
    → IsOfStream (stream_at streams x) j → IsSure k streams x j
sure_of_stream k streams x j spread heavy own =
    let it : (nat_lt (stream_at streams x).span ((stream_at streams x).work + (stream_at streams x).apart) ≡ true)
    × (nat_le (stream_at streams x).work (stream_at streams x).apart ≡ true) =
    and_parts (nat_lt (stream_at streams x).span ((stream_at streams x).work + (stream_at streams x).apart))
    (nat_le (stream_at streams x).work (stream_at streams x).apart) spread in
    let short : (stream_at streams x).span < (stream_at streams x).work + (stream_at streams x).apart =
    ltb-true _ _ it.0 in
    let small : (stream_at streams x).work ≤ (stream_at streams x).apart = leb-true _ _ it.1 in
    let work : j.work ≡ (stream_at streams x).work = own.work in
    let span : j.deadline ≡ j.release + (stream_at streams x).span = own.span in
    let value : j.value ≡ (stream_at streams x).value = own.value in
    record {
      before_later = omega (arith, short, work, span);
      behind_earlier = omega (arith, small, work, span);
      own = λ more. let less : j.value < (stream_at streams x).value =
          heavy_more k (stream_at streams x).value j.value more in omega (arith, less, value);
      heavy = λ counts can. subst (λ v. IsHeavy k v (worth_of counts streams)) (sym value) (heavy counts can);
    }

-- one choice more is no less
best_without : (s : Stream) (more : List Stream) (work span value : ℕ)
    → best_of more work span value ≤ best_of (s ∷ more) work span value
best_without s more work span value = omega arith

-- nor is the other
best_with : (s : Stream) (more : List Stream) (work span value : ℕ)
    → best_of more (work + s.work) (max span s.span) (value + s.value) ≤ best_of (s ∷ more) work span value
best_with s more work span value = omega arith

-- Some of these many jobs of one stream are chosen, and then what is worth so much: the work of all is at most S, which
-- the span so far reaches, or that of the stream where one of its jobs is chosen, or that of a later one (E).
best_copies : (s : Stream) (more : List Stream) (S later_work later_value : ℕ) (E : Type 0)
    → ((work span value : ℕ) → work + later_work ≤ S → (S ≤ span) ⊎ E
    → value + later_value ≤ best_of more work span value)
    → (n c : ℕ) → c ≤ n → (work span value : ℕ) → work + c * s.work + later_work ≤ S
    → (S ≤ span) ⊎ (((1 ≤ c) × (S ≤ s.span)) ⊎ E)
    → value + c * s.value + later_value ≤ best_of (replicate n s ++ more) work span value
best_copies s more S later_work later_value E goes_on zero c few work span value fits reach =
    let none : c ≡ 0 = omega (arith, few) in
    let works : c * s.work ≡ 0 * s.work = ap (λ m. m * s.work) none in
    let values : c * s.value ≡ 0 * s.value = ap (λ m. m * s.value) none in
    let rest : value + later_value ≤ best_of more work span value =
    goes_on work span value (omega (arith, fits, works)) (by_reach reach none) in
    omega (arith, rest, values) where
      by_reach : (S ≤ span) ⊎ (((1 ≤ c) × (S ≤ s.span)) ⊎ E) → c ≡ 0 → (S ≤ span) ⊎ E
      by_reach (inl low) none = inl low
      by_reach (inr (inl it)) none = let some : 1 ≤ c = it.0 in absurd (omega (arith, some, none))
      by_reach (inr (inr e)) none = inr e
best_copies s more S later_work later_value E goes_on (suc n) zero few work span value fits reach =
    let rest : value + 0 * s.value + later_value ≤ best_of (replicate n s ++ more) work span value =
    best_copies s more S later_work later_value E goes_on n zero (omega arith) work span value fits reach in
    omega (arith, rest, best_without s (replicate n s ++ more) work span value)
best_copies s more S later_work later_value E goes_on (suc n) (suc c) few work span value fits reach =
    let rest : value + s.value + c * s.value + later_value
    ≤ best_of (replicate n s ++ more) (work + s.work) (max span s.span) (value + s.value) =
    best_copies s more S later_work later_value E goes_on n c (omega (arith, few)) (work + s.work) (max span s.span)
    (value + s.value) (omega (arith, fits)) (by_reach reach) in
    omega (arith, rest, best_with s (replicate n s ++ more) work span value) where
      by_reach : (S ≤ span) ⊎ (((1 ≤ suc c) × (S ≤ s.span)) ⊎ E)
          → (S ≤ max span s.span) ⊎ (((1 ≤ c) × (S ≤ s.span)) ⊎ E)
      by_reach (inl low) = inl (omega (arith, low))
      by_reach (inr (inl it)) = let low : S ≤ s.span = it.1 in inl (omega (arith, low))
      by_reach (inr (inr e)) = inr (inr e)

-- the work, and the value, of so many jobs of these streams
abbrev all_work : (ℕ → ℕ) → List (ℕ × Stream) → ℕ
all_work counts ys = sum_by (λ y_s. counts y_s.0 * y_s.1.work) ys

abbrev all_value : (ℕ → ℕ) → List (ℕ × Stream) → ℕ
all_value counts ys = sum_by (λ y_s. counts y_s.0 * y_s.1.value) ys

-- a stream of which a job is chosen has a span of S or more
abbrev Reaches : (ℕ → ℕ) → ℕ → List (ℕ × Stream) → Type 0
Reaches counts S ys = (y_s : ℕ × Stream) × IsMember y_s ys × (1 ≤ counts y_s.0) × (S ≤ y_s.1.span)

-- so it is of several streams
best_streams : (counts : ℕ → ℕ) (x S : ℕ) → counts x ≡ 0 → (ys : List (ℕ × Stream))
    → Each (λ y_s. counts y_s.0 ≤ most_crossing y_s.1) ys → (work span value : ℕ) → work + all_work counts ys ≤ S
    → (S ≤ span) ⊎ Reaches counts S ys → value + all_value counts ys ≤ best_of (others x ys) work span value
best_streams counts x S none [] few work span value fits (inl low) =
    subst (λ b. value + 0 ≤ cond b value 0) (sym (le-leb work span (omega (arith, fits, low)))) (omega arith)
best_streams counts x S none [] few work span value fits (inr it) = absurd it.1
best_streams counts x S none (y_s ∷ ys) few work span value fits reach =
    by_number (eqb y_s.0 x) refl
    (λ w sp v fit far. best_streams counts x S none ys (λ z m. few z (inr m)) w sp v fit far)
    (sum_by-cons (λ z_s. counts z_s.0 * z_s.1.work) y_s ys)
    (sum_by-cons (λ z_s. counts z_s.0 * z_s.1.value) y_s ys) where
      split : (S ≤ span) ⊎ Reaches counts S (y_s ∷ ys)
          → (S ≤ span) ⊎ (((1 ≤ counts y_s.0) × (S ≤ y_s.1.span)) ⊎ Reaches counts S ys)
      split (inl low) = inl low
      split (inr (z, inl e, some, low)) =
          inr (inl (subst (λ (u : ℕ × Stream). (1 ≤ counts u.0) × (S ≤ u.1.span)) e (some, low)))
      split (inr (z, inr m, some, low)) = inr (inr (z, m, some, low))

      by_number : (b : Bool) → eqb y_s.0 x ≡ b
          → ((w sp v : ℕ) → w + all_work counts ys ≤ S → (S ≤ sp) ⊎ Reaches counts S ys
          → v + all_value counts ys ≤ best_of (others x ys) w sp v)
          → all_work counts (y_s ∷ ys) ≡ counts y_s.0 * y_s.1.work + all_work counts ys
          → all_value counts (y_s ∷ ys) ≡ counts y_s.0 * y_s.1.value + all_value counts ys
          → value + all_value counts (y_s ∷ ys)
          ≤ best_of (cond b [] (replicate (most_crossing y_s.1) y_s.1) ++ others x ys) work span value
      by_number false differs goes_on works values =
          let rest : value + counts y_s.0 * y_s.1.value + all_value counts ys
          ≤ best_of (replicate (most_crossing y_s.1) y_s.1 ++ others x ys) work span value =
          best_copies y_s.1 (others x ys) S (all_work counts ys) (all_value counts ys) (Reaches counts S ys) goes_on
          (most_crossing y_s.1) (counts y_s.0) (few y_s (inl refl)) work span value (omega (arith, fits, works))
          (split reach) in
          omega (arith, rest, values)
      by_number true same goes_on works values =
          let nothing : counts y_s.0 ≡ 0 = ap counts (eqb-true _ _ same) ∙ none in
          let no_work : counts y_s.0 * y_s.1.work ≡ 0 * y_s.1.work = ap (λ c. c * y_s.1.work) nothing in
          let no_value : counts y_s.0 * y_s.1.value ≡ 0 * y_s.1.value = ap (λ c. c * y_s.1.value) nothing in
          let rest : value + all_value counts ys ≤ best_of (others x ys) work span value =
          goes_on work span value (omega (arith, fits, works, no_work)) (later (split reach) nothing) in
          omega (arith, rest, values, no_value) where
            later : (S ≤ span) ⊎ (((1 ≤ counts y_s.0) × (S ≤ y_s.1.span)) ⊎ Reaches counts S ys)
                → counts y_s.0 ≡ 0 → (S ≤ span) ⊎ Reaches counts S ys
            later (inl low) nothing = inl low
            later (inr (inl it)) nothing = let some : 1 ≤ counts y_s.0 = it.0 in absurd (omega (arith, some, nothing))
            later (inr (inr it)) nothing = inr it

-- what can be stacked is worth no more than what fits the greatest span
pub stacked_most : (streams : List Stream) (x : ℕ) (counts : ℕ → ℕ) → CanStack streams x counts
    → worth_of counts streams ≤ most_fitting streams x
stacked_most streams x counts can = by_some (any_chosen (enumerate_from 0 streams)) where
  few : Each (λ y_s. counts y_s.0 ≤ most_crossing y_s.1) (enumerate_from 0 streams)
  few y_s m = subst (λ (s : Stream). counts y_s.0 ≤ most_crossing s) (stream_is streams y_s m)
      (can.few y_s.0 (let place : y_s.0 < 0 + length streams = has_place 0 streams y_s m in omega (arith, place)))

  chosen : ℕ × Stream → Bool
  chosen y_s = nat_le 1 (counts y_s.0)

  any_chosen : (ys : List (ℕ × Stream)) → ((y_s : ℕ × Stream) × IsMember y_s ys × (chosen y_s ≡ true))
      ⊎ Each (λ y_s. counts y_s.0 ≡ 0) ys
  any_chosen [] = inr (λ y_s m. absurd m)
  any_chosen (y_s ∷ ys) = by_test (chosen y_s) refl (any_chosen ys) where
    by_test : (b : Bool) → chosen y_s ≡ b
        → ((z : ℕ × Stream) × IsMember z ys × (chosen z ≡ true)) ⊎ Each (λ z. counts z.0 ≡ 0) ys
        → ((z : ℕ × Stream) × IsMember z (y_s ∷ ys) × (chosen z ≡ true)) ⊎ Each (λ z. counts z.0 ≡ 0) (y_s ∷ ys)
    by_test true e _ = inl (y_s, inl refl, e)
    by_test false e (inl it) = inl (it.0, inr it.1, it.2)
    by_test false e (inr none) = inr each where
      each : Each (λ z. counts z.0 ≡ 0) (y_s ∷ ys)
      each z (inl same) = subst (λ (u : ℕ × Stream). counts u.0 ≡ 0) (sym same)
          (let low : counts y_s.0 < 1 = leb-false _ _ e in omega (arith, low))
      each z (inr m) = none z m

  reached : (S : ℕ) → all_work counts (enumerate_from 0 streams) ≤ S
      → (S ≤ 0) ⊎ Reaches counts S (enumerate_from 0 streams) → worth_of counts streams ≤ most_fitting streams x
  reached S fits far =
      let it : 0 + worth_of counts streams ≤ most_fitting streams x =
      best_streams counts x S can.waits (enumerate_from 0 streams) few 0 0 0 (omega (arith, fits)) far in
      omega (arith, it)

  by_some : ((y_s : ℕ × Stream) × IsMember y_s (enumerate_from 0 streams) × (chosen y_s ≡ true))
      ⊎ Each (λ y_s. counts y_s.0 ≡ 0) (enumerate_from 0 streams) → worth_of counts streams ≤ most_fitting streams x
  by_some (inr none) =
      let nothing : worth_of counts streams ≡ 0 =
      sum_zero (λ y_s. counts y_s.0 * y_s.1.value) (enumerate_from 0 streams)
      (λ y_s m. let zero_times : counts y_s.0 * y_s.1.value ≡ 0 * y_s.1.value =
      ap (λ c. c * y_s.1.value) (none y_s m) in omega (arith, zero_times)) in
      omega (arith, nothing)
  by_some (inl it) = by_latest (latest chosen (λ y_s. y_s.1.span) (enumerate_from 0 streams) it.0 it.1 it.2) where
    by_latest : (y : ℕ × Stream) × IsMember y (enumerate_from 0 streams) × (chosen y ≡ true)
        × Each (λ z. chosen z ≡ true → z.1.span ≤ y.1.span) (enumerate_from 0 streams)
        → worth_of counts streams ≤ most_fitting streams x
    by_latest top =
        let some : 1 ≤ counts top.0.0 = leb-true _ _ top.2 in
        let place : top.0.0 < 0 + length streams = has_place 0 streams top.0 top.1 in
        let fits : sum_by (work_within counts top.0.1.span) (enumerate_from 0 streams) ≤ top.0.1.span =
        subst (λ (s : Stream). sum_by (work_within counts s.span) (enumerate_from 0 streams) ≤ s.span)
        (stream_is streams top.0 top.1) (can.fitting top.0.0 (omega (arith, place)) some) in
        let less : all_work counts (enumerate_from 0 streams)
        ≤ sum_by (work_within counts top.0.1.span) (enumerate_from 0 streams) =
        sum_le (λ y_s. counts y_s.0 * y_s.1.work) (work_within counts top.0.1.span) (enumerate_from 0 streams)
        (λ y_s m. by_test y_s (chosen y_s) refl (top.3 y_s m)) in
        reached top.0.1.span (omega (arith, fits, less)) (inr (top.0, top.1, some, omega arith)) where
          by_test : (y_s : ℕ × Stream) (b : Bool) → chosen y_s ≡ b
              → (chosen y_s ≡ true → y_s.1.span ≤ top.0.1.span)
              → counts y_s.0 * y_s.1.work ≤ cond (nat_le y_s.1.span top.0.1.span) (counts y_s.0 * y_s.1.work) 0
          by_test y_s true e low = subst (λ c. counts y_s.0 * y_s.1.work ≤ cond c (counts y_s.0 * y_s.1.work) 0)
              (sym (le-leb _ _ (low e))) (omega arith)
          by_test y_s false e low =
              let few_ones : counts y_s.0 < 1 = leb-false _ _ e in
              let nothing : counts y_s.0 ≡ 0 = omega (arith, few_ones) in
              let zero_times : counts y_s.0 * y_s.1.work ≡ 0 * y_s.1.work = ap (λ c. c * y_s.1.work) nothing in
              omega (arith, zero_times)

-- so what is heavy against that is heavy against whatever can be stacked
pub heavy_by_sets : (k : Fraction) (streams : List Stream) (x v : ℕ) → IsHeavy k v (most_fitting streams x)
    → (counts : ℕ → ℕ) → CanStack streams x counts → IsHeavy k v (worth_of counts streams)
heavy_by_sets k streams x v heavy counts can =
    heavy_mono k v (worth_of counts streams) (most_fitting streams x) (stacked_most streams x counts can) heavy

module _ (J : Instance) (streams : List Stream) (of : ℕ → ℕ) (n : ℕ) (j : JobFacts) (valid : IsValid J)
    (are : AreOfStreams streams of J) (there : IsMember (n, j) (numbered J))
    (sure : IsSure J.rules.ratio streams (of n) j) where
  -- the job's stream
  abbrev mine : Stream
  mine = stream_at streams (of n)

  -- its latest start
  abbrev start : ℕ
  start = j.deadline - j.work

  -- each job keeps the limits of one job
  limits : (m_i : ℕ × JobFacts) → IsMember m_i (numbered J) → JobLimits m_i.1
  limits m_i member = job_limits (all_numbered 0 J.jobs (all_member IsJob J.jobs (valid_parts valid).each) m_i member)
    where
      all_numbered : (k : ℕ) (jobs : List JobFacts) → Each IsJob jobs → (m_i : ℕ × JobFacts)
          → IsMember m_i (enumerate_from k jobs) → IsJob m_i.1
      all_numbered k [] each m_i member = absurd member
      all_numbered k (i ∷ jobs) each m_i (inl e) = subst (λ (x : ℕ × JobFacts). IsJob x.1) (sym e) (each i (inl refl))
      all_numbered k (i ∷ jobs) each m_i (inr member) =
          all_numbered (k + 1) jobs (λ x m. each x (inr m)) m_i member

  -- another job of the same stream doesn't cross its latest start
  none_of_mine : (m_i : ℕ × JobFacts) → IsMember m_i (numbered J) → of m_i.0 ≡ of n → (m_i.0 ≡ n → ⊥)
      → crosses start m_i.1 ≡ true → ⊥
  none_of_mine m_i member same differs crossing = by_order (cases_lt m_i.0 n) where
    ends : (nat_le m_i.1.release start ≡ true) × (nat_lt start m_i.1.deadline ≡ true)
    ends = and_parts (nat_le m_i.1.release start) (nat_lt start m_i.1.deadline) crossing

    released : m_i.1.release ≤ start
    released = leb-true _ _ ends.0

    late : start < m_i.1.deadline
    late = ltb-true _ _ ends.1

    due : m_i.1.deadline ≤ m_i.1.release + mine.span
    due = subst (λ y. m_i.1.deadline ≤ m_i.1.release + (stream_at streams y).span) same (are.within m_i member).span

    window : j.release + j.work ≤ j.deadline
    window = (limits (n, j) there).window

    by_order : (m_i.0 < n) ⊎ (n ≤ m_i.0) → ⊥
    by_order (inl before) =
        let apart : m_i.1.release + mine.apart ≤ j.release =
        subst (λ y. m_i.1.release + (stream_at streams y).apart ≤ j.release) same
        (are.apart m_i (n, j) member there same before) in
        omega (arith, apart, late, due, window, sure.behind_earlier)
    by_order (inr not_before) =
        let apart : j.release + mine.apart ≤ m_i.1.release =
        are.apart (n, j) m_i there member (sym same) (omega (arith, not_before, differs)) in
        omega (arith, apart, released, window, sure.before_later)

  module _ (chosen : ℕ → Bool) (waits : chosen n ≡ false)
      (crossing : Each (λ m_i. chosen m_i.0 ≡ true → crosses start m_i.1 ≡ true) (numbered J)) where
    -- a chosen job of a stream
    abbrev is_one : ℕ → ℕ × JobFacts → Bool
    is_one y m_i = eqb (of m_i.0) y && chosen m_i.0

    -- how many of a stream are chosen
    abbrev counts : ℕ → ℕ
    counts y = sum_by (λ m_i. cond (is_one y m_i) 1 0) (numbered J)

    -- none of the job's own
    own_none : counts (of n) ≡ 0
    own_none = sum_zero (λ m_i. cond (is_one (of n) m_i) 1 0) (numbered J)
        (λ m_i m. by_test m_i m (is_one (of n) m_i) refl) where
          by_test : (m_i : ℕ × JobFacts) → IsMember m_i (numbered J) → (b : Bool) → is_one (of n) m_i ≡ b
              → ◌≡◌ {A = ℕ} (cond b 1 0) 0
          by_test m_i m false _ = refl
          by_test m_i m true passed = absurd (let both : (eqb (of m_i.0) (of n) ≡ true) × (chosen m_i.0 ≡ true) =
              and_parts (eqb (of m_i.0) (of n)) (chosen m_i.0) passed in
              none_of_mine m_i m (eqb-true _ _ both.0)
              (λ e. never (sym waits ∙ subst (λ i. chosen i ≡ true) e both.1)) (crossing m_i m both.1))

    -- as many as can cross a tick
    few_count : (y : ℕ) → y < length streams → counts y ≤ most_crossing (stream_at streams y)
    few_count y place =
        let less : counts y
        ≤ sum_by (one of y (stream_at streams y).apart (stream_at streams y).span start) (numbered J) =
        sum_le (λ m_i. cond (is_one y m_i) 1 0) (one of y (stream_at streams y).apart (stream_at streams y).span start)
        (numbered J) (λ m_i m. by_tests m_i m (eqb (of m_i.0) y) (chosen m_i.0) refl) in
        let most : sum_by (one of y (stream_at streams y).apart (stream_at streams y).span start) (numbered J)
        ≤ most_crossing (stream_at streams y) =
        count_most of y (stream_at streams y).apart (stream_at streams y).span start J.jobs
        (are.spaced (stream_at streams y) (at_place streams y place))
        (λ m_i n_j mm mn same too before. subst (λ z. m_i.1.release + (stream_at streams z).apart ≤ n_j.1.release)
        same (are.apart m_i n_j mm mn (same ∙ sym too) before))
        (λ m_i m same. subst (λ z. m_i.1.deadline ≤ m_i.1.release + (stream_at streams z).span) same
        (are.within m_i m).span) in
        omega (arith, less, most) where
          by_tests : (m_i : ℕ × JobFacts) → IsMember m_i (numbered J) → (a b : Bool) → chosen m_i.0 ≡ b
              → cond (a && b) 1 0 ≤ cond (a && crosses start m_i.1) 1 0
          by_tests m_i m false b e = omega arith
          by_tests m_i m true false e = omega arith
          by_tests m_i m true true e =
              subst (λ c. 1 ≤ cond c 1 0) (sym (crossing m_i m e)) (omega arith)

    -- they are worth no less
    worth_more : sum_by (chosen_value chosen) (numbered J) ≤ worth_of counts streams
    worth_more =
        let parts : sum_by (λ m_i. cond (chosen m_i.0) m_i.1.value 0) (numbered J)
        ≤ sum_by (λ y_s. sum_by (λ m_i. cond (eqb (of m_i.0) y_s.0) (cond (chosen m_i.0) m_i.1.value 0) 0)
        (numbered J)) (enumerate_from 0 streams) =
        by_labels (λ (m_i : ℕ × JobFacts). of m_i.0) (λ (y_s : ℕ × Stream). y_s.0)
        (λ m_i. cond (chosen m_i.0) m_i.1.value 0) (enumerate_from 0 streams) (numbered J)
        (λ m_i m. (
          (of m_i.0, stream_at streams (of m_i.0)),
          member_at streams blank_stream (of m_i.0) (are.named m_i m),
          refl,
        )) in
        let each : sum_by (λ y_s. sum_by (λ m_i. cond (eqb (of m_i.0) y_s.0) (cond (chosen m_i.0) m_i.1.value 0) 0)
        (numbered J)) (enumerate_from 0 streams) ≤ worth_of counts streams =
        sum_le (λ y_s. sum_by (λ m_i. cond (eqb (of m_i.0) y_s.0) (cond (chosen m_i.0) m_i.1.value 0) 0) (numbered J))
        (λ y_s. counts y_s.0 * y_s.1.value) (enumerate_from 0 streams) of_stream in
        omega (arith, parts, each) where
          of_stream : Each (λ y_s. sum_by (λ m_i. cond (eqb (of m_i.0) y_s.0) (cond (chosen m_i.0) m_i.1.value 0) 0)
              (numbered J) ≤ counts y_s.0 * y_s.1.value) (enumerate_from 0 streams)
          of_stream y_s m =
              let all : 1 * sum_by (λ m_i. cond (eqb (of m_i.0) y_s.0) (cond (chosen m_i.0) m_i.1.value 0) 0)
              (numbered J) ≤ y_s.1.value * counts y_s.0 =
              scaled_sum 1 y_s.1.value
              (λ m_i. cond (eqb (of m_i.0) y_s.0) (cond (chosen m_i.0) m_i.1.value 0) 0)
              (λ m_i. cond (is_one y_s.0 m_i) 1 0) (numbered J)
              (λ m_i mm. term m_i mm (eqb (of m_i.0) y_s.0) refl (chosen m_i.0)) in
              omega (arith, all) where
                term : (m_i : ℕ × JobFacts) → IsMember m_i (numbered J) → (a : Bool) → eqb (of m_i.0) y_s.0 ≡ a
                    → (b : Bool) → 1 * cond a (cond b m_i.1.value 0) 0 ≤ y_s.1.value * cond (a && b) 1 0
                term m_i mm false e b = omega arith
                term m_i mm true e false = omega arith
                term m_i mm true e true =
                    let most : m_i.1.value ≤ (stream_at streams (of m_i.0)).value = (are.within m_i mm).value in
                    let worth : (stream_at streams (of m_i.0)).value ≡ y_s.1.value =
                    ap (λ y. (stream_at streams y).value) (eqb-true _ _ e)
                    ∙ ap (λ (s : Stream). s.value) (stream_is streams y_s m) in
                    omega (arith, most, worth)

  module _ (chosen : ℕ → Bool) (can : CanHold J n start chosen) where
    -- how many of a stream are chosen
    abbrev count_of : ℕ → ℕ
    count_of = counts chosen can.waits can.crossing

    module _ (span : ℕ) where
      -- a chosen job of a stream of no greater span
      abbrev is_short : ℕ × JobFacts → Bool
      is_short m_i = chosen m_i.0 && nat_le (stream_at streams (of m_i.0)).span span

      -- the work of so many is that of the jobs, or less
      works : sum_by (work_within count_of span) (enumerate_from 0 streams)
          ≤ sum_by (λ m_i. cond (is_short m_i) m_i.1.work 0) (numbered J)
      works =
          let each : sum_by (work_within count_of span) (enumerate_from 0 streams)
          ≤ sum_by (λ (y_s : ℕ × Stream). sum_by (λ m_i. cond (eqb (of m_i.0) y_s.0)
          (cond (is_short m_i) m_i.1.work 0) 0) (numbered J)) (enumerate_from 0 streams) =
          sum_le (work_within count_of span) (λ y_s. sum_by (λ m_i. cond (eqb (of m_i.0) y_s.0)
          (cond (is_short m_i) m_i.1.work 0) 0) (numbered J)) (enumerate_from 0 streams) of_stream in
          omega (
            arith,
            each,
            by_labels_back (λ (m_i : ℕ × JobFacts). of m_i.0)
                (λ m_i. cond (is_short m_i) m_i.1.work 0) streams (numbered J),
          ) where
            of_stream : Each (λ y_s. work_within count_of span (y_s.0, y_s.1)
                ≤ sum_by (λ m_i. cond (eqb (of m_i.0) y_s.0) (cond (is_short m_i) m_i.1.work 0) 0) (numbered J))
                (enumerate_from 0 streams)
            of_stream y_s m = by_span (nat_le y_s.1.span span) refl where
              by_span : (b : Bool) → nat_le y_s.1.span span ≡ b → cond b (count_of y_s.0 * y_s.1.work) 0
                  ≤ sum_by (λ m_i. cond (eqb (of m_i.0) y_s.0) (cond (is_short m_i) m_i.1.work 0) 0) (numbered J)
              by_span false _ = omega arith
              by_span true short =
                  let all : y_s.1.work * count_of y_s.0
                  ≤ 1 * sum_by (λ m_i. cond (eqb (of m_i.0) y_s.0) (cond (is_short m_i) m_i.1.work 0) 0)
                  (numbered J) =
                  scaled_sum y_s.1.work 1 (λ m_i. cond (is_one chosen can.waits can.crossing y_s.0 m_i) 1 0)
                  (λ m_i. cond (eqb (of m_i.0) y_s.0) (cond (is_short m_i) m_i.1.work 0) 0) (numbered J)
                  (λ m_i mm. term m_i mm (eqb (of m_i.0) y_s.0) refl (chosen m_i.0)) in
                  omega (arith, all) where
                    term : (m_i : ℕ × JobFacts) → IsMember m_i (numbered J) → (a : Bool)
                        → eqb (of m_i.0) y_s.0 ≡ a → (b : Bool)
                        → y_s.1.work * cond (a && b) 1 0
                        ≤ 1 * cond a (cond (b && nat_le (stream_at streams (of m_i.0)).span span) m_i.1.work 0) 0
                    term m_i mm false e b = omega arith
                    term m_i mm true e false = omega arith
                    term m_i mm true e true =
                        let is : stream_at streams (of m_i.0) ≡ y_s.1 =
                        ap (λ y. stream_at streams y) (eqb-true _ _ e) ∙ stream_is streams y_s m in
                        let least : (stream_at streams (of m_i.0)).work ≤ m_i.1.work = (are.within m_i mm).work in
                        let work : (stream_at streams (of m_i.0)).work ≡ y_s.1.work =
                        ap (λ (s : Stream). s.work) is in
                        let passes : nat_le (stream_at streams (of m_i.0)).span span ≡ true =
                        subst (λ (s : Stream). nat_le s.span span ≡ true) (sym is) short in
                        rw passes (omega (arith, least, work))

      -- where one of them is chosen, all of them are within the span
      short_fit : (m_i : ℕ × JobFacts) → IsMember m_i (numbered J) → is_short m_i ≡ true
          → sum_by (work_within count_of span) (enumerate_from 0 streams) ≤ span
      short_fit m_i m is = by_latest (latest is_short (λ k_l. k_l.1.deadline) (numbered J) m_i m is) where
        by_latest : (y : ℕ × JobFacts) × IsMember y (numbered J) × (is_short y ≡ true)
            × Each (λ z. is_short z ≡ true → z.1.deadline ≤ y.1.deadline) (numbered J)
            → sum_by (work_within count_of span) (enumerate_from 0 streams) ≤ span
        by_latest it =
            let both : (chosen it.0.0 ≡ true) × (nat_le (stream_at streams (of it.0.0)).span span ≡ true) =
            and_parts (chosen it.0.0) (nat_le (stream_at streams (of it.0.0)).span span) it.2 in
            let small : (stream_at streams (of it.0.0)).span ≤ span = leb-true _ _ both.1 in
            let fits : sum_by (chosen_work chosen it.0.1.deadline) (numbered J) + it.0.1.release ≤ it.0.1.deadline =
            can.fitting it.0 it.1 both.0 in
            let due : it.0.1.deadline ≤ it.0.1.release + (stream_at streams (of it.0.0)).span =
            (are.within it.0 it.1).span in
            let less : sum_by (λ k_l. cond (is_short k_l) k_l.1.work 0) (numbered J)
            ≤ sum_by (chosen_work chosen it.0.1.deadline) (numbered J) =
            sum_le (λ k_l. cond (is_short k_l) k_l.1.work 0) (chosen_work chosen it.0.1.deadline) (numbered J)
            (λ k_l mk. by_tests k_l (chosen k_l.0) refl (nat_le (stream_at streams (of k_l.0)).span span) refl
            (it.3 k_l mk)) in
            omega (arith, small, fits, due, less, works) where
              by_tests : (k_l : ℕ × JobFacts) → (a : Bool) → chosen k_l.0 ≡ a → (b : Bool)
                  → nat_le (stream_at streams (of k_l.0)).span span ≡ b
                  → (is_short k_l ≡ true → k_l.1.deadline ≤ it.0.1.deadline)
                  → cond (a && b) k_l.1.work 0
                  ≤ cond (a && nat_le k_l.1.deadline it.0.1.deadline) k_l.1.work 0
              by_tests k_l false e b f low = omega arith
              by_tests k_l true e false f low = omega arith
              by_tests k_l true e true f low =
                  subst (λ c. k_l.1.work ≤ cond c k_l.1.work 0)
                  (sym (le-leb _ _ (low (and_from (chosen k_l.0)
                  (nat_le (stream_at streams (of k_l.0)).span span) e f)))) (omega arith)

    -- so they can be stacked
    can_stack : CanStack streams (of n) count_of
    can_stack = record {
      waits = own_none chosen can.waits can.crossing;
      few = few_count chosen can.waits can.crossing;
      fitting = λ y place some. by_one y place
          (some_counted (is_one chosen can.waits can.crossing y) (numbered J) some);
    } where
      by_one : (y : ℕ) → y < length streams
          → (m_i : ℕ × JobFacts) × IsMember m_i (numbered J) × (is_one chosen can.waits can.crossing y m_i ≡ true)
          → sum_by (work_within count_of (stream_at streams y).span) (enumerate_from 0 streams)
          ≤ (stream_at streams y).span
      by_one y place it =
          let both : (eqb (of it.0.0) y ≡ true) × (chosen it.0.0 ≡ true) =
          and_parts (eqb (of it.0.0) y) (chosen it.0.0) it.2 in
          let same : (stream_at streams (of it.0.0)).span ≡ (stream_at streams y).span =
          ap (λ z. (stream_at streams z).span) (eqb-true _ _ both.0) in
          short_fit (stream_at streams y).span it.0 it.1
          (and_from (chosen it.0.0) (nat_le (stream_at streams (of it.0.0)).span (stream_at streams y).span) both.1
          (le-leb _ _ (omega (arith, same))))

  -- it is heavy at its latest start
  heavy_there : IsHeavyAt J n j start
  heavy_there chosen can =
      heavy_mono J.rules.ratio j.value (sum_by (chosen_value chosen) (numbered J))
      (worth_of (count_of chosen can) streams) (worth_more chosen can.waits can.crossing)
      (sure.heavy (count_of chosen can) (can_stack chosen can))

  -- the job of this number crosses its latest start beside it
  abbrev crosses_beside : ℕ → Bool
  crosses_beside m = not (eqb m n) && crosses start (get_or J.jobs m j)

  -- it is that of the list
  beside_is : (m_i : ℕ × JobFacts) → IsMember m_i (numbered J) → get_or J.jobs m_i.0 j ≡ m_i.1
  beside_is m_i m = ap (λ i. get_or J.jobs i j) (let e : m_i.0 ≡ m_i.0 - 0 = omega arith in e) ∙ is_at 0 J.jobs j m_i m

  -- what crosses its latest start beside it is worth no more than what jobs of the other streams that cross a tick are
  beside_most : worth_beside J n start ≤ most_beside streams (of n)
  beside_most =
      let all : worth_beside J n start ≤ sum_by (chosen_value crosses_beside) (numbered J) =
      sum_le (crossing_beside n start) (chosen_value crosses_beside) (numbered J)
      (λ m_i m. subst (λ (i : JobFacts). crossing_beside n start m_i
      ≤ cond (not (eqb m_i.0 n) && crosses start i) m_i.1.value 0) (sym (beside_is m_i m)) (omega arith)) in
      let most : worth_of (counts crosses_beside waits crossing) streams ≤ most_beside streams (of n) =
      worth_most streams (of n) (counts crosses_beside waits crossing) (own_none crosses_beside waits crossing)
      (few_count crosses_beside waits crossing) in
      omega (arith, all, worth_more crosses_beside waits crossing, most) where
        waits : crosses_beside n ≡ false
        waits = ap (λ b. not b && crosses start (get_or J.jobs n j)) (eq-eqb n n refl)

        crossing : Each (λ m_i. crosses_beside m_i.0 ≡ true → crosses start m_i.1 ≡ true) (numbered J)
        crossing m_i m is = subst (λ (i : JobFacts). crosses start i ≡ true) (beside_is m_i m)
            (and_parts (not (eqb m_i.0 n)) (crosses start (get_or J.jobs m_i.0 j)) is).1

  -- one job of another stream can be stacked
  module _ (y : ℕ) (place : y < length streams) (apart : eqb y (of n) ≡ false)
      (gaps : 1 ≤ most_crossing (stream_at streams y))
      (fits : (stream_at streams y).work ≤ (stream_at streams y).span) where
    -- it alone
    abbrev alone : ℕ → ℕ
    alone z = cond (eqb z y) 1 0

    alone_work : (span : ℕ) → sum_by (work_within alone span) (enumerate_from 0 streams) ≤ (stream_at streams y).work
    alone_work span =
        let less : sum_by (work_within alone span) (enumerate_from 0 streams)
        ≤ sum_by (λ z_s. cond (eqb y z_s.0) (stream_at streams y).work 0) (enumerate_from 0 streams) =
        sum_le (work_within alone span) (λ z_s. cond (eqb y z_s.0) (stream_at streams y).work 0)
        (enumerate_from 0 streams) (λ z_s m. by_tests z_s m (nat_le z_s.1.span span) (eqb z_s.0 y) refl) in
        omega (arith, less, once y (stream_at streams y).work 0 streams) where
          by_tests : (z_s : ℕ × Stream) → IsMember z_s (enumerate_from 0 streams) → (a b : Bool) → eqb z_s.0 y ≡ b
              → cond a (cond b 1 0 * z_s.1.work) 0 ≤ cond (eqb y z_s.0) (stream_at streams y).work 0
          by_tests z_s m false b e = omega arith
          by_tests z_s m true false e = omega arith
          by_tests z_s m true true e =
              let same : z_s.0 ≡ y = eqb-true _ _ e in
              let work : (stream_at streams y).work ≡ z_s.1.work =
              ap (λ (s : Stream). s.work) (ap (λ z. stream_at streams z) (sym same) ∙ stream_is streams z_s m) in
              subst (λ c. 1 * z_s.1.work ≤ cond c (stream_at streams y).work 0) (sym (eq-eqb y z_s.0 (sym same)))
              (omega (arith, work))

    alone_stack : CanStack streams (of n) alone
    alone_stack = record {
      waits = ap (λ b. cond {A = ℕ} b 1 0) (ne_eqb (of n) y (λ e. never (sym apart ∙ eq-eqb y (of n) (sym e))));
      few = λ z less. by_number z (eqb z y) refl;
      fitting = λ z less some. by_some z (eqb z y) refl some;
    } where
      by_number : (z : ℕ) (b : Bool) → eqb z y ≡ b → cond b 1 0 ≤ most_crossing (stream_at streams z)
      by_number z false e = omega arith
      by_number z true e = subst (λ u. 1 ≤ most_crossing (stream_at streams u)) (sym (eqb-true _ _ e)) gaps

      by_some : (z : ℕ) (b : Bool) → eqb z y ≡ b → 1 ≤ cond b 1 0
          → sum_by (work_within alone (stream_at streams z).span) (enumerate_from 0 streams)
          ≤ (stream_at streams z).span
      by_some z false e some = absurd (omega arith)
      by_some z true e some =
          let same : (stream_at streams z).span ≡ (stream_at streams y).span =
          ap (λ u. (stream_at streams u).span) (eqb-true _ _ e) in
          omega (arith, same, fits, alone_work (stream_at streams z).span)

    -- so the job's value is more than its
    alone_less : (stream_at streams y).value < j.value
    alone_less =
        let part : alone y * (stream_at streams y).value ≤ worth_of alone streams =
        term_le_sum (λ z_s. alone z_s.0 * z_s.1.value) (enumerate_from 0 streams) (y, stream_at streams y)
        (member_at streams blank_stream y place) in
        let is : alone y * (stream_at streams y).value ≡ 1 * (stream_at streams y).value =
        ap (λ b. cond {A = ℕ} b 1 0 * (stream_at streams y).value) (eq-eqb y y refl) in
        let more : worth_of alone streams < j.value =
        heavy_more J.rules.ratio j.value (worth_of alone streams) (sure.heavy alone alone_stack) in
        omega (arith, part, is, more)

  -- no job is heavy against it
  none_heavy : (m_i : ℕ × JobFacts) → IsMember m_i (numbered J) → IsHeavy J.rules.ratio m_i.1.value j.value → ⊥
  none_heavy m_i member heavy = by_number (eqb (of m_i.0) (of n)) refl where
    above : j.value < m_i.1.value
    above = heavy_more J.rules.ratio m_i.1.value j.value heavy

    most : m_i.1.value ≤ (stream_at streams (of m_i.0)).value
    most = (are.within m_i member).value

    window : m_i.1.release + m_i.1.work ≤ m_i.1.deadline
    window = (limits m_i member).window

    working : 1 ≤ m_i.1.work
    working = (limits m_i member).work

    due : m_i.1.deadline ≤ m_i.1.release + (stream_at streams (of m_i.0)).span
    due = (are.within m_i member).span

    least : (stream_at streams (of m_i.0)).work ≤ m_i.1.work
    least = (are.within m_i member).work

    gaps : 1 ≤ most_crossing (stream_at streams (of m_i.0))
    gaps = some_gaps (stream_at streams (of m_i.0)).span (stream_at streams (of m_i.0)).apart
        (omega (arith, window, working, due)) (are.spaced (stream_at streams (of m_i.0))
        (at_place streams (of m_i.0) (are.named m_i member)))

    by_number : (b : Bool) → eqb (of m_i.0) (of n) ≡ b → ⊥
    by_number true same =
        let worth : (stream_at streams (of m_i.0)).value ≡ mine.value =
        ap (λ y. (stream_at streams y).value) (eqb-true _ _ same) in
        sure.own (heavy_up J.rules.ratio m_i.1.value mine.value j.value (omega (arith, most, worth)) heavy)
    by_number false differs =
        let less : (stream_at streams (of m_i.0)).value < j.value =
        alone_less (of m_i.0) (are.named m_i member) differs gaps (omega (arith, window, due, least)) in
        omega (arith, above, most, less)

  -- nor is one by its facts
  no_job_heavy : Each (λ i. IsHeavy J.rules.ratio i.value j.value → ⊥) J.jobs
  no_job_heavy i member = by_name (number_of 0 J.jobs i member) where
    by_name : (m : ℕ) × IsMember (m, i) (enumerate_from 0 J.jobs) → IsHeavy J.rules.ratio i.value j.value → ⊥
    by_name it = none_heavy (it.0, i) it.1

  -- so it is completed, where jobs are chosen by deadline
  pub sure_job : IsByDeadline J.rules.version → IsCompleted J n j
  sure_job dated = heavy_at_start J n j valid dated there heavy_there (λ i member due from. no_job_heavy i member)

  -- and in every version, where it is heavy against all jobs of the others that can cross a tick
  pub sure_in_all : IsHeavy J.rules.ratio j.value (most_beside streams (of n)) → IsCompleted J n j
  sure_in_all heavy = heavy_in_all J n j valid there
      (heavy_mono J.rules.ratio j.value (worth_beside J n start) (most_beside streams (of n)) beside_most heavy)
      (λ i member later sooner. no_job_heavy i member)

-- the law, where jobs are chosen by deadline
pub sure_streams : (J : Instance) (streams : List Stream) (of : ℕ → ℕ) (n : ℕ) (j : JobFacts) → IsValid J
    → IsByDeadline J.rules.version → AreOfStreams streams of J → IsMember (n, j) (numbered J)
    → IsSure J.rules.ratio streams (of n) j → IsCompleted J n j
sure_streams J streams of n j valid dated are there sure = sure_job J streams of n j valid are there sure dated

-- and in every version
pub sure_streams_in_all : (J : Instance) (streams : List Stream) (of : ℕ → ℕ) (n : ℕ) (j : JobFacts) → IsValid J
    → AreOfStreams streams of J → IsMember (n, j) (numbered J) → IsSure J.rules.ratio streams (of n) j
    → IsHeavy J.rules.ratio j.value (most_beside streams (of n)) → IsCompleted J n j
sure_streams_in_all J streams of n j valid are there sure heavy =
    sure_in_all J streams of n j valid are there sure heavy
