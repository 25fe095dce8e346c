-- What is promised of a task that is told sure.
use Rattle.std.proofs.Common.{◌≡◌, ℕ, zero, suc, ◌+◌, ◌*◌, ◌≤◌, ◌<◌, ◌↔◌, List, [], ◌∷◌, ◌++◌, length, set, refl, sym}
use Rattle.std.proofs.Common.{ap, ◌∙◌, Bool, true, false, cond, eqb, arith, replicate, nat_le, ◌&&◌, sum_by, eq-eqb}
use Rattle.std.proofs.Common.{get_or-set_same, not, inl, inr, subst}
use Rattle.std.specs.List.{enumerate_from}
use Rattle.std.proofs.lemmas.Bool.{and_parts}
use Rattle.std.proofs.lemmas.List.Sums.{sum_by-cons}
use Rattle.dover_model.specs.Common.{Fraction, IsRatio, Instance, IsValid, JobFacts, most_value, IsHeavy, is_heavy}
use Rattle.dover_model.specs.Common.{numbered, IsMember}
use Rattle.task_laws.specs.Sure.{AreOfStreams, IsCompleted, IsOfStream, Stream, is_spread}
use Rattle.task_laws.specs.Sure.{stream_at, blank_stream, CanStack, worth_of, most_fitting, most_beside}
use Rattle.task_laws.specs.Sure.{most_crossing, others, best_of, IsSure}
use Rattle.dover_model.specs.Common.{by_density}
use Rattle.dover_model.specs.declared.events.Version.{Version}
use Rattle.task_laws.proofs.sure.Streams.{sure_streams, sure_streams_in_all, sure_of_stream, heavy_by_sum}
use Rattle.task_laws.proofs.sure.Streams.{heavy_by_sets}
use Rattle.root_compare.specs.Least.{least_heavy}
use Rattle.root_compare.proofs.Least.{heavy_where}
use Rattle.task_words.proofs.sure.Beside.{but}
use Rattle.task_words.specs.sure.Streams.{HoldsIn, is_sure, most_against, most_tried, count_beside, with_value}

-- what is heavy against what can stand against it is heavy against all that can be stacked
heavy_against : (k : Fraction) (w : Version) (streams : List Stream) (x v : ℕ) → IsHeavy k v (most_against w streams x)
    → (counts : ℕ → ℕ) → CanStack streams x counts → IsHeavy k v (worth_of counts streams)
heavy_against k w streams x v heavy =
    by (not (by_density w true) && nat_le (count_beside streams x) most_tried) heavy where
      by : (b : Bool) → IsHeavy k v (cond b (most_fitting streams x) (most_beside streams x))
          → (counts : ℕ → ℕ) → CanStack streams x counts → IsHeavy k v (worth_of counts streams)
      by true it = heavy_by_sets k streams x v it
      by false it = heavy_by_sum k streams x v it

-- each job of a sure task is completed
pub sure_completed : (v : Version) (J : Instance) (streams : List Stream) (of : ℕ → ℕ) (n : ℕ) (j : JobFacts)
    → IsValid J → HoldsIn v J.rules.version → AreOfStreams streams of J → IsMember (n, j) (numbered J)
    → IsOfStream (stream_at streams (of n)) j → is_sure J.rules.ratio v streams (of n) ≡ true → IsCompleted J n j
sure_completed v J streams of n j valid holds are member own sure = by holds where
  both : (is_spread (stream_at streams (of n)) ≡ true)
      × (is_heavy J.rules.ratio (stream_at streams (of n)).value (most_against v streams (of n)) ≡ true)
  both = and_parts (is_spread (stream_at streams (of n)))
      (is_heavy J.rules.ratio (stream_at streams (of n)).value (most_against v streams (of n))) sure

  it : IsSure J.rules.ratio streams (of n) j
  it = sure_of_stream J.rules.ratio streams (of n) j both.0
      (heavy_against J.rules.ratio v streams (of n) (stream_at streams (of n)).value both.1) own

  by : HoldsIn v J.rules.version → IsCompleted J n j
  by (inl dated) = sure_streams J streams of n j valid dated are member it
  by (inr all) = sure_streams_in_all J streams of n j valid are member it
      (subst (λ (value : ℕ). IsHeavy J.rules.ratio value (most_beside streams (of n))) (sym own.value)
      (subst (λ b. IsHeavy J.rules.ratio (stream_at streams (of n)).value
      (cond (not b && nat_le (count_beside streams (of n)) most_tried) (most_fitting streams (of n))
      (most_beside streams (of n)))) all both.1))

-- ---- with another value

module _ (x : ℕ) where
  -- the jobs of the others are the same
  same_others : (k : ℕ) (xs : List Stream) (i : ℕ) (s : Stream) → k + i ≡ x
      → others x (enumerate_from k (set xs i s)) ≡ others x (enumerate_from k xs)
  same_others k [] i s at = refl
  same_others k (y ∷ xs) zero s at =
      let own : eqb k x ≡ true = eq-eqb k x (omega (arith, at)) in
      ap (λ b. cond b [] (replicate (most_crossing s) s) ++ others x (enumerate_from (k + 1) xs)) own
      ∙ sym (ap (λ b. cond b [] (replicate (most_crossing y) y) ++ others x (enumerate_from (k + 1) xs)) own)
  same_others k (y ∷ xs) (suc i) s at =
      ap (λ l. cond (eqb k x) [] (replicate (most_crossing y) y) ++ l)
      (same_others (k + 1) xs i s (omega (arith, at)))

  -- and so are sums over them
  same_sum : (f : Stream → ℕ) (k : ℕ) (xs : List Stream) (i : ℕ) (s : Stream) → k + i ≡ x
      → sum_by (but f x) (enumerate_from k (set xs i s)) ≡ sum_by (but f x) (enumerate_from k xs)
  same_sum f k [] i s at = refl
  same_sum f k (y ∷ xs) zero s at =
      let own : eqb k x ≡ true = eq-eqb k x (omega (arith, at)) in
      let skips : cond (eqb k x) 0 (f s) ≡ 0 = ap (λ b. cond b 0 (f s)) own in
      let skips_too : cond (eqb k x) 0 (f y) ≡ 0 = ap (λ b. cond b 0 (f y)) own in
      omega (
        arith,
        sum_by-cons (but f x) (k, s) (enumerate_from (k + 1) xs),
        sum_by-cons (but f x) (k, y) (enumerate_from (k + 1) xs),
        skips,
        skips_too,
      )
  same_sum f k (y ∷ xs) (suc i) s at = omega (
    arith,
    sum_by-cons (but f x) (k, y) (enumerate_from (k + 1) (set xs i s)),
    sum_by-cons (but f x) (k, y) (enumerate_from (k + 1) xs),
    same_sum f (k + 1) xs i s (omega (arith, at)),
  )

module _ (k : Fraction) (w : Version) (streams : List Stream) (x v : ℕ) (ratio : IsRatio k)
    (less : x < length streams) (spread : is_spread (stream_at streams x) ≡ true)
    (small : most_against w streams x ≤ most_value) where
  -- whether sets are tried, by how many jobs can cross one tick
  abbrev tried : ℕ → Bool
  tried c = not (by_density w true) && nat_le c most_tried

  -- the stream with this value
  abbrev valued : Stream
  valued = record (stream_at streams x) { value = v }

  there : stream_at (with_value streams x v) x ≡ valued
  there = get_or-set_same streams x valued blank_stream less

  -- the same stands against it
  same_against : most_against w (with_value streams x v) x ≡ most_against w streams x
  same_against =
      ap (λ c. cond (tried c) (most_fitting (with_value streams x v) x)
      (most_beside (with_value streams x v) x))
      (same_sum x most_crossing 0 streams x valued (omega arith))
      ∙ ap (λ l. cond (tried (count_beside streams x)) (best_of l 0 0 0)
      (most_beside (with_value streams x v) x)) (same_others x 0 streams x valued (omega arith))
      ∙ ap (λ w. cond (tried (count_beside streams x)) (most_fitting streams x) w)
      (same_sum x (λ s. most_crossing s * s.value) 0 streams x valued (omega arith))

  -- so it is sure where the value is heavy
  sure_is : is_sure k w (with_value streams x v) x ≡ is_heavy k v (most_against w streams x)
  sure_is = ap (λ (s : Stream). is_spread s && is_heavy k s.value (most_against w (with_value streams x v) x)) there
      ∙ ap (λ b. b && is_heavy k v (most_against w (with_value streams x v) x)) spread
      ∙ ap (λ w. is_heavy k v w) same_against

  -- which it is from the least heavy value on
  pub raised : (is_sure k w (with_value streams x v) x ≡ true) ↔ (least_heavy k (most_against w streams x) ≤ v)
  raised =
      let it : IsHeavy k v (most_against w streams x) ↔ (least_heavy k (most_against w streams x) ≤ v) =
      heavy_where k ratio (most_against w streams x)
      (let low : most_against w streams x ≤ 1_000_000_000 = small in omega (arith, low)) v in
      (λ sure. it.0 (sym sure_is ∙ sure), λ above. sure_is ∙ it.1 above)
