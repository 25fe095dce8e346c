-- The least dense of the other streams tells whether a stream stays within the ratio of all of them.
use Rattle.std.proofs.Common.{◌≡◌, ◌≢◌, ℕ, zero, suc, ◌+◌, ◌-◌, ◌*◌, ◌≤◌, ◌<◌, ◌⊎◌, inl, inr, List, [], ◌∷◌, length}
use Rattle.std.proofs.Common.{refl, sym, ap, ◌∙◌, subst, get_or, Bool, true, false, eqb, ◌||◌, arith}
use Rattle.std.specs.Prelude.{nat_le}
use Rattle.std.specs.List.{enumerate_from, list_all}
use Rattle.std.proofs.lemmas.Nat.{mul-le}
use Rattle.std.proofs.lemmas.Bool.{eq-eqb, ne_eqb, leb-true, le-leb, cases_lt}
use Rattle.dover_model.specs.Common.{Fraction, IsMember}
use Rattle.task_laws.specs.Sure.{Stream, stream_at, blank_stream}
use Rattle.dover_model.proofs.bound.Calculus.{cancel}
use Rattle.dover_model.proofs.lists.Members.{all_each, not_all}
use Rattle.task_words.specs.declared.sure.densities.Sparse.{Sparse}
use Rattle.task_words.specs.sure.Kept.{AreSmall, IsSparsest, AreSparse}
use Rattle.task_words.specs.sure.Streams.{stays_within, stream_of, streams_of}
use Rattle.task_words.specs.tasks.Merging.{blank_task}
use Rattle.task_words.specs.declared.tasks.task.PeriodicTask.{PeriodicTask}
use Rattle.task_words.proofs.sure.Small.{small_there, stream_there}
use Rattle.std.proofs.lemmas.List.{length-map}

-- ---- numbered streams

-- a stream is there under its number
numbered_there : (k : ℕ) (xs : List Stream) (i : ℕ) → i < length xs
    → IsMember (k + i, get_or xs i blank_stream) (enumerate_from k xs)
numbered_there k [] i less = absurd (omega arith)
numbered_there k (x ∷ xs) zero less = inl (ap (λ m. (m, x)) (let e : k + 0 ≡ k = omega arith in e))
numbered_there k (x ∷ xs) (suc i) less =
    inr (subst (λ m. IsMember (m, get_or xs i blank_stream) (enumerate_from (k + 1) xs))
    (let e : k + 1 + i ≡ k + suc i = omega arith in e) (numbered_there (k + 1) xs i (omega (arith, less))))

-- and what is there is a stream under its number
record IsThere (k : ℕ) (xs : List Stream) (y_s : ℕ × Stream) : Type 0 where
  pub low : k ≤ y_s.0
  pub high : y_s.0 < k + length xs
  pub is : get_or xs (y_s.0 - k) blank_stream ≡ y_s.1

is_there : (k : ℕ) (xs : List Stream) (y_s : ℕ × Stream) → IsMember y_s (enumerate_from k xs) → IsThere k xs y_s
is_there k [] y_s member = absurd member
is_there k (x ∷ xs) y_s (inl e) =
    let same : y_s.0 ≡ k = ap (λ (i : ℕ × Stream). i.0) e in record {
      low = omega (arith, same);
      high = omega (arith, same);
      is = ap (λ n. get_or (x ∷ xs) n blank_stream) (let none : y_s.0 - k ≡ 0 = omega (arith, same) in none)
          ∙ sym (ap (λ (i : ℕ × Stream). i.1) e);
    }
is_there k (x ∷ xs) y_s (inr member) =
    let it : IsThere (k + 1) xs y_s = is_there (k + 1) xs y_s member in
    let low : k + 1 ≤ y_s.0 = it.low in
    let high : y_s.0 < k + 1 + length xs = it.high in record {
      low = omega (arith, low);
      high = omega (arith, high);
      is = ap (λ n. get_or (x ∷ xs) n blank_stream)
          (let more : y_s.0 - k ≡ suc (y_s.0 - (k + 1)) = omega (arith, low) in more) ∙ it.is;
    }

-- what is within a density is within a greater one
pub denser : (a p_w v_r w_r v_y w_y : ℕ) → 1 ≤ v_r → a * w_r ≤ p_w * v_r → v_r * w_y ≤ v_y * w_r → a * w_y ≤ p_w * v_y
denser a p_w v_r w_r v_y w_y some keeps less_dense = cancel v_r (a * w_y) (p_w * v_y) some
    (let one : a * (v_r * w_y) ≤ a * (v_y * w_r) = mul-le a (v_r * w_y) a (v_y * w_r) (omega arith) less_dense in
    let two : v_y * (a * w_r) ≤ v_y * (p_w * v_r) = mul-le v_y (a * w_r) v_y (p_w * v_r) (omega arith) keeps in
    omega (arith, one, two))

-- ---- the least dense of the tasks so far

-- of the first so many tasks, but `without`, this one is the least dense; where it is the number of all, there is none
pub record HasSeen (tasks : List PeriodicTask) (without seen best : ℕ) : Type 0 where
  pub within : best ≤ length tasks
  pub other : best < length tasks → best ≢ without
  pub some : (y : ℕ) → y < seen → y ≢ without → best < length tasks
  pub least : (y : ℕ) → y < seen → y ≢ without
      → (get_or tasks best blank_task).value * (get_or tasks y blank_task).work
      ≤ (get_or tasks y blank_task).value * (get_or tasks best blank_task).work

-- none is seen
pub seen_none : (tasks : List PeriodicTask) (without : ℕ) → HasSeen tasks without 0 (length tasks)
seen_none tasks without = record {
  within = omega arith;
  other = λ less. absurd (omega (arith, less));
  some = λ y low others. absurd (omega (arith, low));
  least = λ y low others. absurd (omega (arith, low));
}

-- task n is another than `without`, and less dense than the best so far
pub seen_more : (tasks : List PeriodicTask) → AreSmall (streams_of tasks) → (without n best : ℕ) → n < length tasks
    → HasSeen tasks without n best → n ≢ without
    → (best < length tasks → (get_or tasks n blank_task).value * (get_or tasks best blank_task).work
    < (get_or tasks best blank_task).value * (get_or tasks n blank_task).work)
    → HasSeen tasks without (n + 1) n
seen_more tasks small without n best less seen differs under = record {
  within = omega (arith, less);
  other = λ _. differs;
  some = λ y low others. less;
  least = λ y low others. by_order y others (cases_lt y n) low;
} where
  by_order : (y : ℕ) → y ≢ without → (y < n) ⊎ (n ≤ y) → y < n + 1
      → (get_or tasks n blank_task).value * (get_or tasks y blank_task).work
      ≤ (get_or tasks y blank_task).value * (get_or tasks n blank_task).work
  by_order y others (inr more) low =
      let same : y ≡ n = omega (arith, more, low) in
      subst (λ z. (get_or tasks n blank_task).value * (get_or tasks z blank_task).work
      ≤ (get_or tasks z blank_task).value * (get_or tasks n blank_task).work) (sym same) (omega arith)
  by_order y others (inl before) low =
      let there : best < length tasks = seen.some y before others in
      let denser_one = under there in
      let it : (get_or tasks n blank_task).value * (get_or tasks y blank_task).work
      ≤ (get_or tasks n blank_task).work * (get_or tasks y blank_task).value =
      denser (get_or tasks n blank_task).value (get_or tasks n blank_task).work (get_or tasks best blank_task).value
      (get_or tasks best blank_task).work (get_or tasks y blank_task).value (get_or tasks y blank_task).work
      (small_there tasks small best there).worth (omega (arith, denser_one)) (seen.least y before others) in
      omega (arith, it)

-- task n is `without`, or not less dense than the best so far
pub seen_same : (tasks : List PeriodicTask) (without n best : ℕ) → n < length tasks → HasSeen tasks without n best
    → (n ≡ without) ⊎ ((best < length tasks) × ((get_or tasks best blank_task).value * (get_or tasks n blank_task).work
    ≤ (get_or tasks n blank_task).value * (get_or tasks best blank_task).work))
    → HasSeen tasks without (n + 1) best
seen_same tasks without n best less seen why = record {
  within = seen.within;
  other = seen.other;
  some = λ y low others. (by_order y others (cases_lt y n) low why).0;
  least = λ y low others. (by_order y others (cases_lt y n) low why).1;
} where
  by_order : (y : ℕ) → y ≢ without → (y < n) ⊎ (n ≤ y) → y < n + 1
      → (n ≡ without) ⊎ ((best < length tasks)
      × ((get_or tasks best blank_task).value * (get_or tasks n blank_task).work
      ≤ (get_or tasks n blank_task).value * (get_or tasks best blank_task).work))
      → (best < length tasks) × ((get_or tasks best blank_task).value * (get_or tasks y blank_task).work
      ≤ (get_or tasks y blank_task).value * (get_or tasks best blank_task).work)
  by_order y others (inl before) low _ = (seen.some y before others, seen.least y before others)
  by_order y others (inr more) low (inl own) = absurd (others (omega (arith, more, low, own)))
  by_order y others (inr more) low (inr above) =
      let same : y ≡ n = omega (arith, more, low) in (
        above.0,
        subst (λ z. (get_or tasks best blank_task).value * (get_or tasks z blank_task).work
            ≤ (get_or tasks z blank_task).value * (get_or tasks best blank_task).work) (sym same) above.1,
      )

-- where all are seen, it is the least dense of all
pub seen_all : (tasks : List PeriodicTask) (without n best : ℕ) → length tasks ≤ n → HasSeen tasks without n best
    → IsSparsest (streams_of tasks) without best
seen_all tasks without n best over seen =
    let same : length (streams_of tasks) ≡ length tasks = length-map tasks stream_of in
    let within : best ≤ length tasks = seen.within in
    record {
      within = omega (arith, same, within);
      other = λ less. seen.other (omega (arith, less, same));
      some = λ y low others.
          let there : best < length tasks = seen.some y (omega (arith, low, same, over)) others in
          omega (arith, there, same);
      least = λ y low others.
          let y_low : y < length tasks = omega (arith, low, same) in
          let there : best < length tasks = seen.some y (omega (arith, y_low, over)) others in
          subst (λ (s : Stream). s.value * (stream_at (streams_of tasks) y).work
          ≤ (stream_at (streams_of tasks) y).value * s.work) (sym (stream_there tasks best there))
          (subst (λ (s : Stream). (get_or tasks best blank_task).value * s.work
          ≤ s.value * (get_or tasks best blank_task).work) (sym (stream_there tasks y y_low))
          (seen.least y (omega (arith, y_low, over)) others));
    }

-- ---- the rival of a stream

module _ (streams : List Stream) (sparse : Sparse) (are : AreSparse streams sparse)
    (x : ℕ) (less : x < length streams) where
  -- the first but it, or the second
  pub rival_second : x ≡ sparse.first → IsSparsest streams x sparse.second
  rival_second same = subst (λ n. IsSparsest streams n sparse.second) (sym same) are.second

  pub rival_first : (x ≡ sparse.first → ⊥) → IsSparsest streams x sparse.first
  rival_first differs = record {
    within = are.first.within;
    other = λ _ same. differs (sym same);
    some = λ y low _. are.first.some y low (λ e. absurd (omega (arith, e, low)));
    least = λ y low _. are.first.least y low (λ e. absurd (omega (arith, e, low)));
  }

module _ (k : Fraction) (streams : List Stream) (small : AreSmall streams) (x : ℕ) (less : x < length streams) (v r : ℕ)
    (rival : IsSparsest streams x r) where
  -- with value v it is within the ratio of this one
  abbrev Keeps : Stream → Type 0
  Keeps s = k.q * v * s.work ≤ k.p * s.value * (stream_at streams x).work

  abbrev test : ℕ × Stream → Bool
  test y_s = eqb y_s.0 x || nat_le (k.q * v * y_s.1.work) (k.p * y_s.1.value * (stream_at streams x).work)

  -- so with all others
  all_keep : r < length streams → Keeps (stream_at streams r) → (y : ℕ) → y < length streams → y ≢ x
      → Keeps (stream_at streams y)
  all_keep low keeps y y_low differs =
      let it : (k.q * v) * (stream_at streams y).work
      ≤ (k.p * (stream_at streams x).work) * (stream_at streams y).value =
      denser (k.q * v) (k.p * (stream_at streams x).work) (stream_at streams r).value (stream_at streams r).work
      (stream_at streams y).value (stream_at streams y).work (small.each r low).worth (omega (arith, keeps))
      (rival.least y y_low differs) in
      omega (arith, it)

  -- a test that fails is of another, which it isn't within
  failed : (y_s : ℕ × Stream) → test y_s ≡ false → (y_s.0 ≢ x) × (Keeps y_s.1 → ⊥)
  failed y_s fails = by (eqb y_s.0 x) refl
      (nat_le (k.q * v * y_s.1.work) (k.p * y_s.1.value * (stream_at streams x).work)) refl fails where
        by : (b : Bool) → eqb y_s.0 x ≡ b → (c : Bool)
            → nat_le (k.q * v * y_s.1.work) (k.p * y_s.1.value * (stream_at streams x).work) ≡ c
            → (b || c) ≡ false → (y_s.0 ≢ x) × (Keeps y_s.1 → ⊥)
        by true e c f no_test = absurd (let clash : true ≡ false = no_test in cc)
        by false e true f no_test = absurd (let clash : true ≡ false = no_test in cc)
        by false e false f no_test = (
          λ same. absurd (let clash : true ≡ false = sym (eq-eqb y_s.0 x same) ∙ e in cc),
          λ keeps. absurd (let clash : true ≡ false = sym (le-leb _ _ keeps) ∙ f in cc),
        )

  -- a test that passes of another
  passed : (y : ℕ) (s : Stream) → y ≢ x → test (y, s) ≡ true → Keeps s
  passed y s differs passes = leb-true _ _
      (sym (ap (λ b. b || nat_le (k.q * v * s.work) (k.p * s.value * (stream_at streams x).work)) (ne_eqb y x differs))
      ∙ passes)

  -- one of those that fail
  some_fails : list_all test (enumerate_from 0 streams) ≡ false
      → (y : ℕ) × (y < length streams) × (y ≢ x) × (Keeps (stream_at streams y) → ⊥)
  some_fails fails =
      let it : (y_s : ℕ × Stream) × IsMember y_s (enumerate_from 0 streams) × (test y_s ≡ false) =
      not_all test (enumerate_from 0 streams) fails in
      let there : IsThere 0 streams it.0 = is_there 0 streams it.0 it.1 in
      let two : (it.0.0 ≢ x) × (Keeps it.0.1 → ⊥) = failed it.0 it.2 in (
        it.0.0,
        (let high : it.0.0 < 0 + length streams = there.high in omega (arith, high)),
        two.0,
        λ keeps. two.1 (subst Keeps
            (ap (λ n. get_or streams n blank_stream) (let e : it.0.0 ≡ it.0.0 - 0 = omega arith in e) ∙ there.is)
            keeps),
      )

  -- where there is no other, it stays within
  pub none_other : r ≡ length streams → true ≡ stays_within k streams x v
  none_other end = by (list_all test (enumerate_from 0 streams)) refl where
    by : (b : Bool) → list_all test (enumerate_from 0 streams) ≡ b → true ≡ list_all test (enumerate_from 0 streams)
    by true is = sym is
    by false is = absurd (let it = some_fails is in omega (arith, rival.some it.0 it.1 it.2, end))

  -- else as it is within that of the rival
  pub as_rival : (r ≡ length streams → ⊥) → (b : Bool)
      → b ≡ nat_le (k.q * v * (stream_at streams r).work)
      (k.p * (stream_at streams r).value * (stream_at streams x).work)
      → b ≡ stays_within k streams x v
  as_rival some b is = by b is (list_all test (enumerate_from 0 streams)) refl where
    low : r < length streams
    low = by_order (cases_lt r (length streams)) where
      by_order : (r < length streams) ⊎ (length streams ≤ r) → r < length streams
      by_order (inl below) = below
      by_order (inr above) = absurd (some (let within : r ≤ length streams = rival.within in
          omega (arith, within, above)))

    by : (b : Bool) → b ≡ nat_le (k.q * v * (stream_at streams r).work)
        (k.p * (stream_at streams r).value * (stream_at streams x).work)
        → (c : Bool) → list_all test (enumerate_from 0 streams) ≡ c → b ≡ list_all test (enumerate_from 0 streams)
    by true e true f = sym f
    by false e false f = sym f
    by true e false f = absurd (let it = some_fails f in it.3 (all_keep low (leb-true _ _ (sym e)) it.0 it.1 it.2))
    by false e true f = absurd (
        let keeps : Keeps (stream_at streams r) = passed r (stream_at streams r) (rival.other low)
        (all_each test (enumerate_from 0 streams) f (r, stream_at streams r)
        (subst (λ n. IsMember (n, stream_at streams r) (enumerate_from 0 streams))
        (let none : 0 + r ≡ r = omega arith in none) (numbered_there 0 streams r low))) in
        let clash : false ≡ true = e ∙ le-leb _ _ keeps in cc)
