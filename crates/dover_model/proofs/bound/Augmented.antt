-- The bound over any books of a run: intervals with their jobs, each job in one place, each tick of an interval paid
-- for; also where a schedule needs less for a job than the job asks for, which is at most 1 + e times as much.
use Rattle.std.proofs.Common.{◌≡◌, ℕ, ◌+◌, ◌-◌, ◌*◌, ◌≤◌, ◌<◌, ◌⊎◌, inl, inr, List, [], ◌∷◌, ◌++◌, length, refl, sym}
use Rattle.std.proofs.Common.{ap, ◌∙◌, subst, Bool, true, false, cond, eqb, arith, nat_le, nat_lt}
use Rattle.std.proofs.Common.{sum_by, filter, leb-true}
use Rattle.std.proofs.lemmas.Bool.{cases_lt}
use Rattle.std.proofs.Math.Nat.{mul-sub, mul-le-mul_left}
use Rattle.std.proofs.lemmas.List.Sums.{sum_by-cons, sum_by-append}
use Rattle.dover_model.specs.Common.{Fraction, IsWithin, Row, IsRow, TakenIn, IsDense}
use Rattle.dover_model.specs.Common.{completed_in, row_sum, Job, IsPaid, IsExcess, IsMember, Each}
use Rattle.dover_model.specs.Common.{ticks_given, is_served, job_value}
use Rattle.dover_model.specs.Fraction.{fraction}
use Rattle.dover_model.specs.Books.{GoneIn}
use Rattle.dover_model.proofs.lists.Members.{each_cons, sum_le, sum_plus, sum_filter, term_le_sum, member_filter}
use Rattle.dover_model.proofs.lists.Members.{cond_le, sum_zero}
use Rattle.dover_model.proofs.bound.Calculus.{cancel}
use Rattle.dover_model.proofs.bound.Calculus.{not_heavy, excess_zero, excess_add, paid_sum}
use Rattle.dover_model.proofs.bound.Calculus.{within_parts}
use Rattle.dover_model.proofs.bound.Counting.{one, one_none, one_low, share_of, given_share, NamesOnce}
use Rattle.dover_model.proofs.bound.Books.{AreBooks, scaled_sum, Without, without, greatest, ticks_worth, early, late}
use Rattle.dover_model.proofs.bound.Books.{two_parts, late_share, row_names, completed_parts, early_most}

-- a job asks for at most so much more than the schedule needs for it, and is no less dense than the least dense one
-- (the latter counts only where there is an e)
pub record IsAsked (e : Fraction) (asked : Job → ℕ) (v w : ℕ) (n_j : Job) : Type 0 where
  pub most : e.q * n_j.1.work ≤ (e.q + e.p) * asked n_j
  pub modest : e.p * (v * n_j.1.work) ≤ e.p * (w * n_j.1.value)

-- ---- numbers

-- with e as e/n, the ratio as p/q, and the value v and the work w of a job of least density
module _ (e n p q v w : ℕ) where
  -- what a value, a tick, a taken value and a value above are counted with
  abbrev for_value : ℕ
  for_value = n * (q * w)

  abbrev for_tick : ℕ
  for_tick = (n + e) * (p * v)

  abbrev for_taken : ℕ
  for_taken = (n + e) * (p * w)

  abbrev for_own : ℕ
  for_own = (q * n + p * e) * w

  -- a value is paid by the ticks that are asked for it
  value_dense : (value work asked : ℕ) → q * w * value ≤ p * v * work → n * work ≤ (n + e) * asked
      → for_value * value ≤ for_tick * asked
  value_dense value work asked dense most =
      let first : n * (q * w * value) ≤ n * (p * v * work) = mul-le-mul_left n dense in
      let second : p * v * (n * work) ≤ p * v * ((n + e) * asked) = mul-le-mul_left (p * v) most in omega arith

  -- its work is paid by what is asked for it and by its value, which so pays for itself
  own_paid : (value work asked : ℕ) → n * work ≤ (n + e) * asked → e * (v * work) ≤ e * (w * value)
      → for_tick * work + for_value * value ≤ for_tick * asked + for_own * value
  own_paid value work asked most modest =
      let first : p * v * (n * work) ≤ p * v * ((n + e) * asked) = mul-le-mul_left (p * v) most in
      let second : p * (e * (v * work)) ≤ p * (e * (w * value)) = mul-le-mul_left p modest in omega arith

  -- ticks that a value is worth, and others
  ticks_taken : (ticks value had : ℕ) → v * ticks ≤ w * value + v * had
      → for_tick * ticks ≤ for_taken * value + for_tick * had
  ticks_taken ticks value had low =
      let times : (n + e) * p * (v * ticks) ≤ (n + e) * p * (w * value + v * had) = mul-le-mul_left ((n + e) * p) low in
      omega arith

  -- what a taker had is paid by what is asked for it, and by its value, which so pays for itself
  taker_paid : (had asked value : ℕ) → q ≤ p → n * had ≤ (n + e) * asked → v * had ≤ w * value
      → for_value * value + for_tick * had ≤ for_tick * asked + for_taken * value
  taker_paid had asked value ratio most paid =
      let first : p * v * (n * had) ≤ p * v * ((n + e) * asked) = mul-le-mul_left (p * v) most in
      let second : e * p * (v * had) ≤ e * p * (w * value) = mul-le-mul_left (e * p) paid in
      let third : n * w * value * q ≤ n * w * value * p = mul-le-mul_left (n * w * value) ratio in omega arith

  -- a value above counts no less than one
  value_own : (value most : ℕ) → value ≤ most → for_value * value ≤ for_own * most
  value_own value most low =
      let times : for_value * value ≤ for_value * most = mul-le-mul_left for_value low in omega arith

  -- the work of the density is taken off
  off_work : (all row regular above : ℕ) → 1 ≤ w
      → for_value * all ≤ for_taken * row + for_value * regular + for_own * above
      → q * n * all ≤ (n + e) * p * row + q * n * regular + (q * n + p * e) * above
  off_work all row regular above some paid =
      cancel w (q * n * all) ((n + e) * p * row + q * n * regular + (q * n + p * e) * above) some (omega arith)

-- the same, with what they are counted with as numbers
module _ (V T K O : ℕ) where
  -- of jobs of which one is left out
  join_others : (rest asked own_asked more work early more_early value served above : ℕ) → V * rest ≤ T * asked
      → asked + own_asked + more ≤ work + (early + more_early) → T * work + V * value ≤ T * own_asked + O * value
      → value ≤ above → served ≡ value + rest → V * served + T * more ≤ T * (early + more_early) + O * above
  join_others rest asked own_asked more work early more_early value served above dense fit own low split =
      let ticks : T * (asked + own_asked + more) ≤ T * (work + (early + more_early)) = mul-le-mul_left T fit in
      let all : O * value ≤ O * above = mul-le-mul_left O low in omega (arith, ap (λ n. V * n) split)

  -- of jobs that have all that is asked for them by the deadline of the taker
  join_first : (served asked early gap had taken own_early value completed : ℕ) → V * served ≤ T * asked
      → asked ≤ early + gap → T * (gap + had) ≤ K * taken → V * value ≤ O * completed
      → V * (value + served) + T * had ≤ T * (own_early + early) + K * taken + V * 0 + O * (completed + 0)
  join_first served asked early gap had taken own_early value completed dense given paid low =
      let ticks : T * asked ≤ T * (early + gap) = mul-le-mul_left T given in omega arith

  -- of a taker, and of jobs that are due later
  join_later : (served own_asked had early own_early taken value above : ℕ) → taken ≡ value
      → V * served + T * own_asked ≤ T * (early + own_early) + O * above
      → V * taken + T * had ≤ T * own_asked + K * taken
      → V * (value + served) + T * had ≤ T * (own_early + early) + K * taken + V * 0 + O * above
  join_later served own_asked had early own_early taken value above same paid own =
      omega (arith, ap (λ n. V * n) same)

  -- of some values, as of more
  widen_paid : (value served had ticks early taken regular above values more : ℕ) → V * (value + served) + T * had ≤ T
      * (ticks + early) + K * taken + V * regular + O * above
      → values ≤ value + served → ticks + early ≤ more
      → V * values + T * had ≤ T * more + K * taken + V * regular + O * above
  widen_paid value served had ticks early taken regular above values more paid low high =
      let less : V * values ≤ V * (value + served) = mul-le-mul_left V low in
      let wide : T * (ticks + early) ≤ T * more = mul-le-mul_left T high in omega arith

  -- of jobs done as usual as well
  join_regular : (values had ticks taken above usual regular own_early : ℕ)
      → V * values + T * had ≤ T * ticks + K * taken + V * 0 + O * above → usual ≤ regular
      → V * (usual + values) + T * had ≤ T * (own_early + ticks) + K * taken + V * regular + O * above
  join_regular values had ticks taken above usual regular own_early paid low =
      let own : V * usual ≤ V * regular = mul-le-mul_left V low in omega arith

  -- of two rows, whose parts add up
  add_paid : (v1 v2 h1 h2 t1 t2 k1 k2 r1 r2 c1 c2 y1 y2 value had ticks taken regular completed : ℕ)
      → V * v1 + T * h1 ≤ T * t1 + K * k1 + V * r1 + O * (c1 + y1)
      → V * v2 + T * h2 ≤ T * t2 + K * k2 + V * r2 + O * (c2 + y2)
      → value ≡ v1 + v2 → had ≡ h1 + h2 → ticks ≡ t1 + t2 → taken ≡ k1 + k2 → regular ≡ r1 + r2
      → completed ≡ c1 + c2
      → V * value + T * had ≤ T * ticks + K * taken + V * regular + O * (completed + (y1 + y2))
  add_paid v1 v2 h1 h2 t1 t2 k1 k2 r1 r2 c1 c2 y1 y2 value had ticks taken regular completed one two ev eh et ek er ec =
      omega (
        arith,
        ap (λ n. V * n) ev,
        ap (λ n. T * n) eh,
        ap (λ n. T * n) et,
        ap (λ n. K * n) ek,
        ap (λ n. V * n) er,
        ap (λ n. O * n) ec,
      )

  -- of all rows, with the ticks that they span
  all_paid : (all served had ticks taken regular completed spans displaced : ℕ) → all ≡ served
      → V * served + T * had ≤ T * ticks + K * taken + V * regular + O * completed → ticks ≤ spans
      → T * spans ≤ K * (regular + displaced) + T * had
      → V * all ≤ K * (regular + displaced + taken) + V * regular + O * completed
  all_paid all served had ticks taken regular completed spans displaced same paid low worth =
      let most : T * ticks ≤ T * spans = mul-le-mul_left T low in omega (arith, ap (λ n. V * n) same)

-- ---- one row, against one schedule

module _ (k e : Fraction) (asked : Job → ℕ) (v w : ℕ) (busy : ℕ → Bool) (s : List ℕ) where
  -- the schedule gives to the job what is asked for it
  abbrev is_given : Job → Bool
  is_given n_j = nat_le (asked n_j) (ticks_given s n_j.0 n_j.1)

  -- the value of a job where it is served
  abbrev pub served_value : Job → ℕ
  served_value n_j = cond (is_given n_j) n_j.1.value 0

  -- a served job has what is asked for it
  served_work : (n_j : Job) → is_given n_j ≡ true → asked n_j ≤ share_of (λ τ. 1) s n_j
  served_work n_j served = let low : asked n_j ≤ ticks_given s n_j.0 n_j.1 = leb-true _ _ served in
      omega (arith, given_share s n_j.0 n_j.1)

  -- what a value, a tick, a taken value and a value above are counted with
  abbrev of_value : ℕ
  of_value = for_value e.p e.q k.p k.q v w

  abbrev of_tick : ℕ
  of_tick = for_tick e.p e.q k.p k.q v w

  abbrev of_taken : ℕ
  of_taken = for_taken e.p e.q k.p k.q v w

  abbrev of_own : ℕ
  of_own = for_own e.p e.q k.p k.q v w

  -- how a value is paid for, in rows that complete so much before and after a take, by jobs that had so many ticks
  pub record Paid (value had ticks taken regular completed : ℕ) : Type 0 where
    pub above : ℕ
    pub most : of_value * value + of_tick * had ≤ of_tick * ticks + of_taken * taken + of_value * regular + of_own
        * (completed + above)
    pub below : IsExcess k above completed

  module _ (some_q : 1 ≤ k.q) (ratio : k.q ≤ k.p) (row : Row) (facts : IsRow k v w busy row)
      (exact : Each (λ n_j. row.had ≤ n_j.1.work) row.taken) (once : NamesOnce (row.taken ++ row.gone))
      (taken_asked : Each (IsAsked e asked v w) row.taken) (gone_asked : Each (IsAsked e asked v w) row.gone) where
    -- the served ones of its abandoned jobs
    abbrev served : List Job
    served = filter is_given row.gone

    -- a sum over them, as one over all
    served_sum : (f : Job → ℕ) → sum_by f served ≤ sum_by f row.gone
    served_sum f = omega (
      arith,
      sum_filter is_given f row.gone,
      sum_le (λ n_j. cond (is_given n_j) (f n_j) 0) f row.gone
          (λ n_j member. cond_le (is_given n_j) (f n_j)),
    )

    -- no number names two of them, or one that is completed after a take
    both_once : (m : ℕ) → sum_by (λ n_j. one (eqb m n_j.0)) row.taken + sum_by (λ n_j. one (eqb m n_j.0)) served ≤ 1
    both_once m = omega (
      arith,
      served_sum (λ n_j. one (eqb m n_j.0)),
      once m,
      sum_by-append (λ n_j. one (eqb m n_j.0)) row.taken row.gone,
    )

    -- so none names two of them
    served_once : NamesOnce served
    served_once m = omega (arith, both_once m)

    -- what is known of each
    each_served : Each (λ n_j. (is_given n_j ≡ true) × GoneIn k busy row n_j.1 × IsDense k v w n_j.1
        × IsAsked e asked v w n_j) served
    each_served n_j member =
        let it : IsMember n_j row.gone × (is_given n_j ≡ true) =
        member_filter is_given row.gone n_j member in
        (it.1, (facts.gone n_j it.0).0, (facts.gone n_j it.0).1, gone_asked n_j it.0)

    -- what is asked for them is given to them in busy ticks, or after the row
    works_given : sum_by asked served ≤ sum_by (early busy s) served + sum_by (late busy s row.interval.until) served
    works_given = omega (
      arith,
      sum_le asked (λ n_j. early busy s n_j + late busy s row.interval.until n_j) served
          (λ n_j mem. let low : asked n_j ≤ share_of (λ τ. 1) s n_j = served_work n_j (each_served n_j mem).0 in
          omega (arith, two_parts busy s row.interval.until n_j (each_served n_j mem).1.covered)),
      sum_plus (early busy s) (late busy s row.interval.until) served,
    )

    -- a value is paid by ticks
    one_dense : (n_j : Job) → IsDense k v w n_j.1 → IsAsked e asked v w n_j
        → of_value * n_j.1.value ≤ of_tick * asked n_j
    one_dense n_j dense is_asked =
        value_dense e.p e.q k.p k.q v w n_j.1.value n_j.1.work (asked n_j) dense is_asked.most

    -- their value, where some jobs completed after a take are worth so much, and are given so many busy ticks
    abbrev PaidWith : ℕ → ℕ → Type 0
    PaidWith value ticks = Paid (value + sum_by job_value served) row.had (ticks + sum_by (early busy s) served)
        row.interval.taken 0 (completed_in row)

    -- what the job completed after a take had is paid by its value
    had_worth : of_tick * row.had ≤ of_taken * row.interval.taken
    had_worth = omega
        (arith, ticks_taken e.p e.q k.p k.q v w row.had row.interval.taken 0 (omega (arith, facts.had_paid)))

    -- where no abandoned job is served, and none completed after a take
    none_paid : served ≡ [] → PaidWith 0 0
    none_paid none = record {
      above = 0;
      most = omega (arith, had_worth, ap (λ n. of_value * n) (ap (sum_by job_value) none));
      below = excess_zero k (completed_in row);
    }

    -- where one of them has the greatest deadline, what is asked for them, and so much more, fits what is given in busy
    -- ticks, and its work
    module _ (m : Job) (member : IsMember m served) (more more_early : ℕ)
        (fits : sum_by asked served + more ≤ m.1.work + sum_by (early busy s) served + more_early) where
      -- the others
      others : Without m served
      others = without m served member

      -- what the job is worth above what the row completes
      abbrev excess : ℕ
      excess = m.1.value - completed_in row

      -- it is little
      excess_low : IsExcess k excess (completed_in row)
      excess_low = not_heavy k m.1.value (completed_in row) (each_served m member).1.light

      -- the values of the others are paid by ticks, and by what this job asks for above what it needs
      others_paid : of_value * sum_by job_value served + of_tick * more ≤ of_tick
          * (sum_by (early busy s) served + more_early) + of_own * (completed_in row + excess)
      others_paid =
          join_others of_value of_tick of_taken of_own (sum_by job_value others.rest) (sum_by asked others.rest)
          (asked m) more m.1.work (sum_by (early busy s) served) more_early m.1.value (sum_by job_value served)
          (completed_in row + excess)
          (scaled_sum of_value of_tick job_value asked others.rest
          (λ n_j mem. one_dense n_j (each_served n_j (others.members n_j mem)).2
          (each_served n_j (others.members n_j mem)).3))
          (omega (arith, others.sums asked))
          (own_paid e.p e.q k.p k.q v w m.1.value m.1.work (asked m) (each_served m member).3.most
          (each_served m member).3.modest) (omega arith) (others.sums job_value)

    -- where no job completed after a take is served
    plain_paid : PaidWith 0 0
    plain_paid = by_last (greatest (λ n_j. n_j.1.deadline) served) where
      by_last : (served ≡ []) ⊎ ((m : Job) × IsMember m served × Each (λ n_j. n_j.1.deadline ≤ m.1.deadline) served)
          → PaidWith 0 0
      by_last (inl none) = none_paid none
      by_last (inr it) = record {
        above = excess it.0 it.1 0 0 fits;
        most = omega (arith, had_worth, others_paid it.0 it.1 0 0 fits);
        below = excess_low it.0 it.1 0 0 fits;
      } where
        fits : sum_by asked served + 0 ≤ it.0.1.work + sum_by (early busy s) served + 0
        fits = let reach : it.0.1.deadline ≤ row.interval.until + it.0.1.work = (each_served it.0 it.1).1.reach in
            omega (
              arith,
              works_given,
              late_share busy s row.interval.until it.0.1.deadline served served_once it.2,
            )

    -- where a job completed after a take is served
    module _ (z : Job) (is : row.taken ≡ z ∷ []) (z_served : is_given z ≡ true) where
      -- what is known of it
      z_member : IsMember z row.taken
      z_member = subst (IsMember z) (sym is) (inl refl)

      z_taken : TakenIn v w busy row z.1
      z_taken = facts.taken z z_member

      -- it had at most so much more than is asked for it
      z_had : e.q * row.had ≤ (e.q + e.p) * asked z
      z_had = let times : e.q * row.had ≤ e.q * z.1.work =
          mul-le-mul_left e.q (exact z z_member) in
          omega (arith, (taken_asked z z_member).most)

      -- its value is what was taken
      z_value : row.interval.taken ≡ z.1.value
      z_value = facts.taken_sum ∙ ap (sum_by job_value) is ∙ sum_by-cons job_value z [] ∙ omega arith

      -- no number names two of it and the abandoned jobs that are served
      z_once : NamesOnce (z ∷ served)
      z_once m = omega (
        arith,
        both_once m,
        ap (sum_by (λ n_j. one (eqb m n_j.0))) is,
        sum_by-cons (λ n_j. one (eqb m n_j.0)) z [],
        sum_by-cons (λ n_j. one (eqb m n_j.0)) z served,
      )

      -- what the abandoned jobs are given after the row, where none of them is due after it
      first_paid : Each (λ n_j. n_j.1.deadline ≤ z.1.deadline) served → PaidWith z.1.value (early busy s z)
      first_paid first = record { above = 0; most = most; below = excess_zero k (completed_in row) } where
        rest : v * (z.1.deadline - row.interval.until) + v * row.had ≤ w * row.interval.taken
        rest = omega (
          arith,
          mul-sub v z.1.deadline row.interval.until,
          z_taken.reach,
          facts.had_paid,
          ap (λ n. w * n) z_value,
        )

        given_worth : (gap : ℕ) → v * gap + v * row.had ≤ w * row.interval.taken
            → of_tick * (gap + row.had) ≤ of_taken * row.interval.taken
        given_worth gap low =
            omega (arith, ticks_taken e.p e.q k.p k.q v w (gap + row.had) row.interval.taken 0 (omega (arith, low)))

        most : of_value * (z.1.value + sum_by job_value served) + of_tick * row.had ≤ of_tick
            * (early busy s z + sum_by (early busy s) served) + of_taken * row.interval.taken + of_value * 0 + of_own
            * (completed_in row + 0)
        most =
            join_first of_value of_tick of_taken of_own (sum_by job_value served) (sum_by asked served)
            (sum_by (early busy s) served) (z.1.deadline - row.interval.until) row.had row.interval.taken
            (early busy s z) z.1.value (completed_in row)
            (scaled_sum of_value of_tick job_value asked served
            (λ n_j mem. one_dense n_j (each_served n_j mem).2 (each_served n_j mem).3))
            (omega (
              arith,
              works_given,
              late_share busy s row.interval.until z.1.deadline served served_once first,
            ))
            (given_worth (z.1.deadline - row.interval.until) rest)
            (value_own e.p e.q k.p k.q v w z.1.value (completed_in row) (omega (arith, z_value)))

      -- where one of the abandoned jobs is due no sooner than it and the others
      later_paid : (m : Job) → IsMember m served → Each (λ n_j. n_j.1.deadline ≤ m.1.deadline) served
          → z.1.deadline ≤ m.1.deadline → PaidWith z.1.value (early busy s z)
      later_paid m member last later = record {
        above = excess m member (asked z) (early busy s z) fits;
        most =
            join_later of_value of_tick of_taken of_own (sum_by job_value served) (asked z) row.had
            (sum_by (early busy s) served) (early busy s z) row.interval.taken z.1.value
            (completed_in row + excess m member (asked z) (early busy s z) fits) z_value
            (others_paid m member (asked z) (early busy s z) fits)
            (taker_paid e.p e.q k.p k.q v w row.had (asked z) row.interval.taken ratio z_had facts.had_paid);
        below = excess_low m member (asked z) (early busy s z) fits;
      } where
        all : Each (λ n_j. n_j.1.deadline ≤ m.1.deadline) (z ∷ served)
        all = each_cons (λ n_j. n_j.1.deadline ≤ m.1.deadline) z served later last

        fits : sum_by asked served + asked z ≤ m.1.work + sum_by (early busy s) served + early busy s z
        fits =
            let reach : m.1.deadline ≤ row.interval.until + m.1.work = (each_served m member).1.reach in
            let own : asked z ≤ share_of (λ τ. 1) s z = served_work z z_served in
            omega (
              arith,
              works_given,
              two_parts busy s row.interval.until z z_taken.covered,
              late_share busy s row.interval.until m.1.deadline (z ∷ served) z_once all,
              sum_by-cons (late busy s row.interval.until) z served,
            )

      -- either way it is paid
      taken_paid : PaidWith z.1.value (early busy s z)
      taken_paid = by_last (greatest (λ n_j. n_j.1.deadline) served) where
        by_last : (served ≡ []) ⊎ ((m : Job) × IsMember m served × Each (λ n_j. n_j.1.deadline ≤ m.1.deadline) served)
            → PaidWith z.1.value (early busy s z)
        by_last (inl none) = first_paid (λ n_j mem. absurd (subst (IsMember n_j) none mem))
        by_last (inr it) = by_order (cases_lt it.0.1.deadline z.1.deadline) where
          by_order : (it.0.1.deadline < z.1.deadline) ⊎ (z.1.deadline ≤ it.0.1.deadline)
              → PaidWith z.1.value (early busy s z)
          by_order (inl less) = first_paid
              (λ n_j mem. let low : n_j.1.deadline ≤ it.0.1.deadline = it.2 n_j mem in omega arith)
          by_order (inr later) = later_paid it.0 it.1 it.2 later

    -- the jobs that are completed after a take or abandoned are paid
    overs_paid : Paid (sum_by served_value row.taken + sum_by served_value row.gone) row.had
        (sum_by (early busy s) row.taken + sum_by (early busy s) row.gone) row.interval.taken 0 (completed_in row)
    overs_paid = by_taken row.taken refl where
      widen : (value ticks : ℕ) → sum_by served_value row.taken ≤ value → ticks ≤ sum_by (early busy s) row.taken
          → PaidWith value ticks
          → Paid (sum_by served_value row.taken + sum_by served_value row.gone) row.had
          (sum_by (early busy s) row.taken + sum_by (early busy s) row.gone) row.interval.taken 0 (completed_in row)
      widen value ticks low high it = record {
        above = it.above;
        most =
            widen_paid of_value of_tick of_taken of_own value (sum_by job_value served) row.had ticks
            (sum_by (early busy s) served) row.interval.taken 0 (completed_in row + it.above)
            (sum_by served_value row.taken + sum_by served_value row.gone)
            (sum_by (early busy s) row.taken + sum_by (early busy s) row.gone) it.most
            (omega (arith, low, sum_filter is_given job_value row.gone))
            (omega (arith, high, served_sum (early busy s)));
        below = it.below;
      }

      by_taken : (zs : List Job) → row.taken ≡ zs
          → Paid (sum_by served_value row.taken + sum_by served_value row.gone) row.had
          (sum_by (early busy s) row.taken + sum_by (early busy s) row.gone) row.interval.taken 0 (completed_in row)
      by_taken [] none = widen 0 0 (omega (arith, ap (sum_by served_value) none)) (omega arith) plain_paid
      by_taken (z ∷ []) is = by_test (is_given z) refl where
        by_test : (b : Bool) → is_given z ≡ b
            → Paid (sum_by served_value row.taken + sum_by served_value row.gone) row.had
            (sum_by (early busy s) row.taken + sum_by (early busy s) row.gone) row.interval.taken 0 (completed_in row)
        by_test false f = widen 0 0
            (omega (
              arith,
              ap (sum_by served_value) is,
              sum_by-cons served_value z [],
              ap (λ b. cond b z.1.value 0) f,
            )) (omega arith) plain_paid
        by_test true f = widen z.1.value (early busy s z)
            (omega (
              arith,
              ap (sum_by served_value) is,
              sum_by-cons served_value z [],
              cond_le (is_given z) z.1.value,
            ))
            (omega (arith, ap (sum_by (early busy s)) is, sum_by-cons (early busy s) z [])) (taken_paid z is f)
      by_taken (z ∷ y ∷ zs) is = absurd (let single : length row.taken ≤ 1 = facts.one_taken in
          let more : length row.taken ≡ length (z ∷ y ∷ zs) = ap length is in omega arith)

    -- all jobs of the row are paid, the regular ones by its own value
    pub row_paid : Paid (row_sum served_value row) row.had (row_sum (early busy s) row) row.interval.taken
        row.interval.regular (completed_in row)
    row_paid = record {
      above = overs_paid.above;
      most = shaped (join_regular of_value of_tick of_taken of_own
          (sum_by served_value row.taken + sum_by served_value row.gone) row.had
          (sum_by (early busy s) row.taken + sum_by (early busy s) row.gone) row.interval.taken
          (completed_in row + overs_paid.above) (sum_by served_value row.regular) row.interval.regular
          (sum_by (early busy s) row.regular) overs_paid.most (omega (
            arith,
            facts.regular_sum,
            sum_le served_value job_value row.regular (λ n_j member. cond_le (is_given n_j) n_j.1.value),
          )));
      below = overs_paid.below;
    } where
      assoc : (f : Job → ℕ) → sum_by f row.regular + (sum_by f row.taken + sum_by f row.gone) ≡ row_sum f row
      assoc f = omega arith

      shaped : of_value * (sum_by served_value row.regular
          + (sum_by served_value row.taken + sum_by served_value row.gone)) + of_tick * row.had ≤ of_tick
          * (sum_by (early busy s) row.regular
          + (sum_by (early busy s) row.taken + sum_by (early busy s) row.gone))
          + of_taken * row.interval.taken + of_value * row.interval.regular + of_own
          * (completed_in row + overs_paid.above)
          → of_value * row_sum served_value row + of_tick * row.had ≤ of_tick * row_sum (early busy s) row
          + of_taken * row.interval.taken + of_value * row.interval.regular + of_own
          * (completed_in row + overs_paid.above)
      shaped paid = rw (← assoc served_value, ← assoc (early busy s)) paid

  -- nothing is paid by nothing
  none_are_paid : Paid 0 0 0 0 0 0
  none_are_paid = record { above = 0; most = omega arith; below = excess_zero k 0 }

  module _ (some_q : 1 ≤ k.q) (ratio : k.q ≤ k.p) where
    -- all rows are paid
    pub rows_paid : (rows : List Row) → Each (IsRow k v w busy) rows
        → Each (λ row. Each (λ n_j. row.had ≤ n_j.1.work) row.taken) rows
        → Each (λ row. NamesOnce (row.taken ++ row.gone)) rows
        → Each (λ row. Each (IsAsked e asked v w) row.taken × Each (IsAsked e asked v w) row.gone) rows
        → Paid (sum_by (row_sum served_value) rows) (sum_by (λ row. row.had) rows)
        (sum_by (row_sum (early busy s)) rows) (sum_by (λ row. row.interval.taken) rows)
        (sum_by (λ row. row.interval.regular) rows)
        (sum_by completed_in rows)
    rows_paid [] facts exact once is_asked = none_are_paid
    rows_paid (row ∷ rows) facts exact once is_asked =
        let here = row_paid some_q ratio row (facts row (inl refl)) (exact row (inl refl)) (once row (inl refl))
        (is_asked row (inl refl)).0 (is_asked row (inl refl)).1 in
        let rest = rows_paid rows (λ x member. facts x (inr member)) (λ x member. exact x (inr member))
        (λ x member. once x (inr member)) (λ x member. is_asked x (inr member)) in record {
          above = here.above + rest.above;
          most = add_paid of_value of_tick of_taken of_own _ _ _ _ _ _ _ _ _ _ _ _ here.above rest.above _ _ _ _ _ _
              here.most rest.most (sum_by-cons (row_sum served_value) row rows)
              (sum_by-cons (λ (x : Row). x.had) row rows) (sum_by-cons (row_sum (early busy s)) row rows)
              (sum_by-cons (λ (x : Row). x.interval.taken) row rows)
              (sum_by-cons (λ (x : Row). x.interval.regular) row rows) (sum_by-cons completed_in row rows);
          below = subst (IsExcess k (here.above + rest.above)) (sym (sum_by-cons completed_in row rows))
              (excess_add k some_q ratio here.above rest.above _ _ here.below rest.below);
        }

-- ---- all rows, against one schedule

module _ (k e : Fraction) (asked : Job → ℕ) (v w : ℕ) (jobs : List Job) (rows : List Row) (busy : ℕ → Bool)
    (books : AreBooks k v w jobs rows busy) (all_asked : Each (IsAsked e asked v w) jobs) (s : List ℕ) where
  -- whether one number of a job is more than the other
  abbrev fails : (Job → ℕ) → (Job → ℕ) → Job → ℕ
  fails f g n_j = one (nat_lt (g n_j) (f n_j))

  -- what is no more for each of the jobs is so for each of the rows' jobs
  rows_less : (f g : Job → ℕ) → Each (λ n_j. f n_j ≤ g n_j) jobs
      → Each (λ row. Each (λ n_j. f n_j ≤ g n_j) row.taken × Each (λ n_j. f n_j ≤ g n_j) row.gone) rows
  rows_less f g all row member = (
    λ n_j m. one_low _ _ (omega (arith, none, term_le_sum (fails f g) row.taken n_j m)),
    λ n_j m. one_low _ _ (omega (arith, none, term_le_sum (fails f g) row.gone n_j m)),
  ) where
    none : row_sum (fails f g) row ≡ 0
    none = omega (
      arith,
      term_le_sum (row_sum (fails f g)) rows row member,
      books.each_once (fails f g),
      sum_zero (fails f g) jobs (λ n_j m. one_none (f n_j) (g n_j) (all n_j m)),
    )

  -- so the jobs of the rows ask for no more
  rows_asked : Each (λ row. Each (IsAsked e asked v w) row.taken × Each (IsAsked e asked v w) row.gone) rows
  rows_asked row member = (
    λ n_j m. record { most = most.0 n_j m; modest = modest.0 n_j m },
    λ n_j m. record { most = most.1 n_j m; modest = modest.1 n_j m },
  ) where
    most : Each (λ n_j. e.q * n_j.1.work ≤ (e.q + e.p) * asked n_j) row.taken
        × Each (λ n_j. e.q * n_j.1.work ≤ (e.q + e.p) * asked n_j) row.gone
    most = rows_less (λ n_j. e.q * n_j.1.work) (λ n_j. (e.q + e.p) * asked n_j) (λ n_j m. (all_asked n_j m).most) row
        member

    modest : Each (λ n_j. e.p * (v * n_j.1.work) ≤ e.p * (w * n_j.1.value)) row.taken
        × Each (λ n_j. e.p * (v * n_j.1.work) ≤ e.p * (w * n_j.1.value)) row.gone
    modest = rows_less (λ n_j. e.p * (v * n_j.1.work)) (λ n_j. e.p * (w * n_j.1.value))
        (λ n_j m. (all_asked n_j m).modest) row member

  -- regular, taken and displaced over all rows
  abbrev pub regular_all : ℕ
  regular_all = sum_by (λ row. row.interval.regular) rows

  abbrev pub taken_all : ℕ
  taken_all = sum_by (λ row. row.interval.taken) rows

  abbrev pub displaced_all : ℕ
  displaced_all = sum_by (λ row. row.interval.displaced) rows

  -- all that the schedule serves
  abbrev pub served_all : ℕ
  served_all = sum_by (served_value k e asked v w busy s) jobs

  -- what it is worth, by the rows' parts
  pub record Counted : Type 0 where
    pub above : ℕ
    pub most : k.q * e.q * served_all ≤ (k.q * e.q + k.p * e.q + 2 * k.p * e.p) * (regular_all + taken_all)
        + ((e.q + e.p) * (k.p * displaced_all) + k.q * e.q * regular_all + (k.q * e.q + k.p * e.p) * above)
    pub displaced : IsPaid k displaced_all taken_all
    pub little : IsExcess k above (regular_all + taken_all)

  -- as the rows are paid
  pub counted : Counted
  counted = from_paid (rows_paid k e asked v w busy s books.some_q books.ratio rows books.rows_are books.exact
      (row_names k v w jobs rows busy books s) rows_asked) where
        value_is : served_all ≡ sum_by (row_sum (served_value k e asked v w busy s)) rows
        value_is = books.each_once (served_value k e asked v w busy s)

        parts_are : sum_by completed_in rows ≡ regular_all + taken_all
        parts_are = completed_parts k v w jobs rows busy books s

        from_paid : Paid k e asked v w busy s (sum_by (row_sum (served_value k e asked v w busy s)) rows)
            (sum_by (λ row. row.had) rows) (sum_by (row_sum (early busy s)) rows) taken_all regular_all
            (sum_by completed_in rows) → Counted
        from_paid it = record {
          above = it.above;
          most = most;
          displaced = paid_sum k books.some_q books.ratio (λ row. row.interval.displaced) (λ row. row.interval.taken)
              rows (λ row member. (books.rows_are row member).displaced);
          little = subst (IsExcess k it.above) parts_are it.below;
        } where
          in_parts : (all r z d y c : ℕ) → c ≡ r + z
              → k.q * e.q * all ≤ (e.q + e.p) * k.p * (r + d + z) + k.q * e.q * r + (k.q * e.q + k.p * e.p) * (c + y)
              → k.q * e.q * all ≤ (k.q * e.q + k.p * e.q + 2 * k.p * e.p) * (r + z)
              + ((e.q + e.p) * (k.p * d) + k.q * e.q * r + (k.q * e.q + k.p * e.p) * y)
          in_parts all r z d y c is low = omega (arith, ap (λ n. (k.q * e.q + k.p * e.p) * n) is)

          most : k.q * e.q * served_all
              ≤ (k.q * e.q + k.p * e.q + 2 * k.p * e.p) * (regular_all + taken_all)
              + ((e.q + e.p) * (k.p * displaced_all) + k.q * e.q * regular_all
              + (k.q * e.q + k.p * e.p) * it.above)
          most = in_parts served_all regular_all taken_all displaced_all it.above (sum_by completed_in rows) parts_are
              (off_work e.p e.q k.p k.q v w served_all (regular_all + displaced_all + taken_all) regular_all
              (sum_by completed_in rows + it.above) books.some_work
              (all_paid (for_value e.p e.q k.p k.q v w) (for_tick e.p e.q k.p k.q v w)
              (for_taken e.p e.q k.p k.q v w) (for_own e.p e.q k.p k.q v w) served_all
              (sum_by (row_sum (served_value k e asked v w busy s)) rows) (sum_by (λ row. row.had) rows)
              (sum_by (row_sum (early busy s)) rows) taken_all regular_all (sum_by completed_in rows + it.above)
              (sum_by (λ row. row.interval.until - row.interval.from) rows) displaced_all value_is it.most
              (early_most k v w jobs rows busy books s)
              (ticks_taken e.p e.q k.p k.q v w (sum_by (λ row. row.interval.until - row.interval.from) rows)
              (regular_all + displaced_all) (sum_by (λ row. row.had) rows)
              (ticks_worth k v w jobs rows busy books s))))

-- where no less is asked for a job than all of its work, it is worth no more than the bound of what is completed
pub books_bound : (k : Fraction) (v w : ℕ) (jobs : List Job) (rows : List Row) (busy : ℕ → Bool)
    → AreBooks k v w jobs rows busy → (s : List ℕ)
    → IsWithin k (sum_by (λ n_j. cond (is_served s n_j) n_j.1.value 0) jobs) (sum_by completed_in rows)
books_bound k v w jobs rows busy books s = by_parts
    (counted k (fraction 0 1) (λ n_j. n_j.1.work) v w jobs rows busy books
    (λ n_j member. record { most = omega arith; modest = omega arith }) s) where
      by_parts : Counted k (fraction 0 1) (λ n_j. n_j.1.work) v w jobs rows busy books
          (λ n_j member. record { most = omega arith; modest = omega arith }) s
          → IsWithin k (sum_by (λ n_j. cond (is_served s n_j) n_j.1.value 0) jobs) (sum_by completed_in rows)
      by_parts it = subst (IsWithin k (sum_by (λ n_j. cond (is_served s n_j) n_j.1.value 0) jobs))
          (sym (completed_parts k v w jobs rows busy books s))
          (within_parts k books.some_q books.ratio _ _ _ _ it.above (omega (arith, it.most)) it.displaced it.little)
