-- What the fields of a Bait say, and what they become when a job is given.
use Rattle.std.proofs.Common.{◌≡◌, ℕ, zero, suc, ◌+◌, ◌-◌, ◌*◌, ◌≤◌, ◌<◌, ◌⊎◌, inl, inr, List, [], ◌∷◌, Bool, true}
use Rattle.std.proofs.Common.{false, cond, length, sym, ap, ◌∙◌, subst, arith, Fits, w32, w64, sum}
use Rattle.std.proofs.lemmas.Nat.{mul-le}
use Rattle.std.proofs.lemmas.Bool.{cases_lt}
use Rattle.std.proofs.lemmas.List.Sums.{sum_by-cons}
use Rattle.dover_model.specs.declared.events.Version.TheVariants.{Two}
use Rattle.dover_model.specs.Common.{most_jobs, most_value, last_tick, Fraction, JobFacts, most_light, first_link}
use Rattle.dover_model.specs.Common.{chain_from, chain, bait_tick, bait_value, chain_jobs_from, tight_job, bait_jobs}
use Rattle.dover_model.specs.Common.{unit_value, plan_value}
use Rattle.stated_jobs.specs.declared.bait.feed.Bait.TheInside.{Inside}
use Rattle.stated_jobs.specs.bait.Baiting.{Baiting, FitsLimits, jobs_from}
use Rattle.stated_jobs.specs.bait.Kept.{IsKept}
use Rattle.stated_jobs.proofs.bait.Coming.{AreAfter, are_after, are_some, sum_least, link_first, unit_next, bait_last}
use Rattle.stated_jobs.proofs.bait.Chains.{chain_step}
use Rattle.stated_jobs.proofs.bait.Feeds.{count, fits}

-- ---- the whole feed

module _ (a : Inside) (kept : IsKept a) where
  pub kept_small : sum (chain a.k a.rounds) < most_jobs Two
  kept_small = subst (λ n. n < most_jobs Two) kept.numbers.sum kept.numbers.few

  pub kept_fits : FitsLimits a.k a.rounds
  kept_fits = fits a.k a.rounds kept.ratio kept_small (subst (λ v. v ≤ most_value) kept.numbers.light kept.modest)

  pub kept_count : a.bait_tick + a.rounds + 1 ≡ length (bait_jobs a.k a.rounds)
  kept_count = ap (λ n. n + 1) kept.bait_tick ∙ ap (λ n. n + 1) kept.numbers.sum ∙ sym (count a.k a.rounds)

  pub kept_tick : a.bait_tick ≡ bait_tick a.k a.rounds
  kept_tick = level a.bait_tick a.rounds a.chain.sum kept.bait_tick ∙ ap (λ n. n - a.rounds) kept.numbers.sum where
    level : (b rounds all : ℕ) → b + rounds ≡ all → b ≡ all - rounds
    level b rounds all is = omega arith

  pub kept_plan : (unit : ℕ) → unit ≡ unit_value a.k → unit * a.bait_tick + a.chain.light ≡ plan_value a.k a.rounds
  kept_plan unit is = ap (λ u. u * a.bait_tick + a.chain.light) is
      ∙ ap (λ b. unit_value a.k * b + a.chain.light) kept_tick
      ∙ ap (λ v. unit_value a.k * bait_tick a.k a.rounds + v) kept.numbers.light

  pub tick_low : a.bait_tick < 1_000_000
  tick_low = level a.bait_tick a.rounds a.chain.sum kept.bait_tick kept.numbers.few where
    level : (b rounds all : ℕ) → b + rounds ≡ all → all < most_jobs Two → b < 1_000_000
    level b rounds all is few = omega arith

product_low : (unit b : ℕ) → unit ≤ 1_000_000 → b < 1_000_000 → unit * b ≤ 1_000_000 * 1_000_000
product_low unit b small low = mul-le unit b 1_000_000 1_000_000 small (omega arith)

pub product_fits : (unit b : ℕ) → unit ≤ 1_000_000 → b < 1_000_000 → Fits w64 (unit * b)
product_fits unit b small low = let most : unit * b ≤ 1_000_000 * 1_000_000 = product_low unit b small low in
    omega (arith, most)

pub plan_fits : (unit b v : ℕ) → unit ≤ 1_000_000 → b < 1_000_000 → v ≤ most_value → Fits w64 (unit * b + v)
plan_fits unit b v small low modest = let most : unit * b ≤ 1_000_000 * 1_000_000 = product_low unit b small low in
    omega (arith, most, modest)

-- the bait's tick and the rounds are as small as the chain
pub tick_fits : (b : ℕ) → b < 1_000_000 → Fits w32 b
tick_fits b low = omega (arith, low)

pub all_fit : (b rounds all : ℕ) → b + rounds ≡ all → all < most_jobs Two → Fits w32 (b + rounds)
all_fit b rounds all is few = omega (arith, is, few)

pub jobs_fit : (b rounds all : ℕ) → b + rounds ≡ all → all < most_jobs Two → Fits w32 (b + rounds + 1)
jobs_fit b rounds all is few = omega (arith, is, few)

pub next_fits : (t b : ℕ) → t < b → b < 1_000_000 → Fits w64 (t + 1)
next_fits t b before low = omega (arith, before, low)

-- ---- the next link

-- where links are left, the next one is due one tick behind the bait's tick at the latest
pub link_within : (k : Fraction) (links r w b : ℕ) → 1 ≤ links → 1 ≤ w → r + sum (chain_from k links w) ≡ b + links
    → r + w ≤ b + 1
link_within k zero r w b many some left = absurd (omega (arith, many))
link_within k (suc links) r w b many some left =
    level (sum (chain_from k links (suc (most_light k w)))) (sum (chain_from k (suc links) w))
    (sum_by-cons (λ x. x) w (chain_from k links (suc (most_light k w))))
    (sum_least k links (suc (most_light k w)) (omega arith)) left where
      level : (rest all : ℕ) → all ≡ w + rest → links ≤ rest → r + all ≡ b + suc links → r + w ≤ b + 1
      level rest all is low left = omega arith

-- the next release, or the bait's tick where none is left, is within the bait's tick
pub release_within : (k : Fraction) (links r w b : ℕ) → 1 ≤ w → r + sum (chain_from k links w) ≡ b + links → r ≤ b
release_within k zero r w b some left = level left where
  level : r + 0 ≡ b + 0 → r ≤ b
  level left = omega arith
release_within k (suc links) r w b some left = level (link_within k (suc links) r w b (omega arith) some left) where
  level : r + w ≤ b + 1 → r ≤ b
  level low = omega arith

-- the links behind it lead to the bait's tick as well
pub link_left : (k : Fraction) (links r w b light : ℕ) → 1 ≤ links → 1 ≤ w → light ≡ most_light k w
    → r + sum (chain_from k links w) ≡ b + links
    → r + (w - 1) + sum (chain_from k (links - 1) (light + 1)) ≡ b + (links - 1)
link_left k links r w b light many some lights left =
    level (sum (chain_from k (links - 1) (light + 1))) (sum (chain_from k links w))
    (ap (λ ws. sum ws) (chain_step k links (links - 1) w light (fewer links many) lights) ∙ sum_by-cons (λ x. x) w
    (chain_from k (links - 1) (light + 1))) left where
      fewer : (m : ℕ) → 1 ≤ m → m ≡ suc (m - 1)
      fewer m many = omega arith

      level : (rest all : ℕ) → all ≡ w + rest → r + all ≡ b + links → r + (w - 1) + rest ≡ b + (links - 1)
      level rest all is left = omega (arith, many, some)

-- a link of the present tick is given
pub link_given : (unit bait b : ℕ) (k : Fraction) (links r w t light : ℕ) → 1 ≤ links → 1 ≤ w → r ≡ t → t ≤ b
    → light ≡ most_light k w
    → jobs_from unit bait b (chain_jobs_from r (chain_from k links w)) t (b - t)
    ≡ tight_job r w 1 ∷ jobs_from unit bait b (chain_jobs_from (r + (w - 1)) (chain_from k (links - 1) (light + 1))) t
    (b - t)
link_given unit bait b k links r w t light many some now early lights =
    ap (λ ws. jobs_from unit bait b (chain_jobs_from r ws) t (b - t))
    (chain_step k links (links - 1) w light (fewer links many) lights)
    ∙ link_first _ _ _ _ _ _ _ now (end t early)
    ∙ ap (λ s. tight_job r w 1 ∷ jobs_from unit bait b (chain_jobs_from s (chain_from k (links - 1) (light + 1))) t
    (b - t)) (next w some) where
      fewer : (m : ℕ) → 1 ≤ m → m ≡ suc (m - 1)
      fewer m many = omega arith

      end : (t : ℕ) → t ≤ b → t + (b - t) ≡ b
      end t early = omega arith

      next : (w : ℕ) → 1 ≤ w → r + w - 1 ≡ r + (w - 1)
      next w some = omega arith

-- so it is small
pub link_due : (r w b : ℕ) → r + w ≤ b + 1 → b < 1_000_000 → r + w ≤ last_tick
link_due r w b within low = omega arith

pub link_fits : (r w b : ℕ) → r + w ≤ b + 1 → b < 1_000_000 → Fits w64 (r + (w - 1))
link_fits r w b within low = omega (arith, within, low)

pub link_modest : (r w b : ℕ) → r + w ≤ b + 1 → b < 1_000_000 → 1 * w ≤ most_value
link_modest r w b within low = omega arith

pub link_small : (r w b : ℕ) → r + w ≤ b + 1 → b < 1_000_000 → w ≤ 1_000_000
link_small r w b within low = omega arith

pub still_early : (t r w : ℕ) → t ≤ r → t ≤ r + (w - 1)
still_early t r w early = omega arith

pub some_work : (light : ℕ) → 1 ≤ light + 1
some_work light = omega arith

pub bait_worth : (v : ℕ) → 1 ≤ v → 1 ≤ 1 * v
bait_worth v some = omega arith

pub bait_modest : (v : ℕ) → v ≤ most_value → 1 * v ≤ most_value
bait_modest v modest = omega arith

pub bait_due : (t b v : ℕ) → t ≤ b → b < 1_000_000 → v ≤ most_value → t + v ≤ last_tick
bait_due t b v within low modest = omega arith

pub unit_due : (t b : ℕ) → t < b → b < 1_000_000 → t + 1 ≤ last_tick
unit_due t b before low = omega arith

pub unit_worth : (u : ℕ) → 1 ≤ u → 1 ≤ u * 1
unit_worth u some = omega arith

pub unit_modest : (u : ℕ) → u ≤ 1_000_000 → u * 1 ≤ most_value
unit_modest u small = omega arith

pub within_end : (t r b : ℕ) → t ≤ r → r ≤ b → t ≤ b
within_end t r b early within = omega arith

pub at_end : (t r b : ℕ) → t ≤ r → r ≤ b → b ≤ t → t ≡ b
at_end t r b early within late = omega arith

-- ---- where no link is released in the present tick

-- there is none, or the next one isn't released now
abbrev pub NoneNow : (links r t : ℕ) → Type 0
NoneNow links r t = (links ≤ 0) ⊎ (r ≡ t → ⊥)

none_now_after : (k : Fraction) (links r w t : ℕ) → 1 ≤ w → t ≤ r → NoneNow links r t
    → AreAfter t (chain_jobs_from r (chain_from k links w))
none_now_after k zero r w t some early none = tt
none_now_after k (suc links) r w t some early (inl none) = absurd (omega (arith, none))
none_now_after k (suc links) r w t some early (inr other) =
    are_after t r (chain_from k (suc links) w) (are_some k (suc links) w some) (later (cases_lt t r)) where
      later : (t < r) ⊎ (r ≤ t) → t < r
      later (inl less) = less
      later (inr more) = absurd (other (omega (arith, early, more)))

-- before the bait's tick the unit job is given
pub unit_given : (unit bait b : ℕ) (k : Fraction) (links r w t : ℕ) → 1 ≤ w → t ≤ r → NoneNow links r t → t < b
    → jobs_from unit bait b (chain_jobs_from r (chain_from k links w)) t (b - t)
    ≡ tight_job t 1 unit ∷ jobs_from unit bait b (chain_jobs_from r (chain_from k links w)) (t + 1) (b - (t + 1))
unit_given unit bait b k links r w t some early none before =
    ap (λ n. jobs_from unit bait b (chain_jobs_from r (chain_from k links w)) t n) fewer
    ∙ unit_next unit bait b (chain_jobs_from r (chain_from k links w)) t (b - (t + 1))
    (none_now_after k links r w t some early none) where
      fewer : b - t ≡ suc (b - (t + 1))
      fewer = omega arith

-- and the next tick has not passed the next release
pub unit_early : (k : Fraction) (links r w b t : ℕ) → t ≤ r → NoneNow links r t
    → r + sum (chain_from k links w) ≡ b + links → t < b → t + 1 ≤ r
unit_early k zero r w b t early none left before = level left where
  level : r + 0 ≡ b + 0 → t + 1 ≤ r
  level left = omega arith
unit_early k (suc links) r w b t early (inl none) left before = absurd (omega (arith, none))
unit_early k (suc links) r w b t early (inr other) left before =
    elim (cases_lt t r) [ inl less ↦ omega (arith, less) | inr more ↦ absurd (other (omega (arith, early, more))) ]

-- at the bait's tick the bait is given
pub bait_given : (unit bait b : ℕ) (k : Fraction) (links r w t : ℕ) → 1 ≤ w → t ≤ r → NoneNow links r t → t ≡ b
    → jobs_from unit bait b (chain_jobs_from r (chain_from k links w)) t (b - t) ≡ tight_job t bait 1 ∷ []
bait_given unit bait b k links r w t some early none end =
    ap (λ s. jobs_from unit bait s (chain_jobs_from r (chain_from k links w)) t (s - t)) (sym end)
    ∙ ap (λ n. jobs_from unit bait t (chain_jobs_from r (chain_from k links w)) t n) over
    ∙ bait_last unit bait t (chain_jobs_from r (chain_from k links w))
    (none_now_after k links r w t some early none) where
      over : t - t ≡ 0
      over = omega arith

-- ---- what is seen of it

-- a job is given, while the bait is still to come
pub turn : (before after : List JobFacts) (over : Bool) (xs ys : List JobFacts) (i j : JobFacts)
    → cond over [] xs ≡ before → over ≡ false → j ≡ i
    → xs ≡ i ∷ ys → cond over [] ys ≡ after → before ≡ j ∷ after
turn before after over xs ys i j here not_over same given there = cc

pub last_turn : (before : List JobFacts) (over : Bool) (xs : List JobFacts) (i j : JobFacts) → cond over [] xs ≡ before
    → over ≡ false → j ≡ i
    → xs ≡ i ∷ [] → before ≡ j ∷ []
last_turn before over xs i j here not_over same given = sym here ∙ ap (λ o. cond o [] xs) not_over ∙ given
    ∙ ap (λ x. x ∷ []) (sym same)

pub some_given : (before after : List JobFacts) (j : JobFacts) → before ≡ j ∷ after → (true ≡ false → before ≡ [])
    × (before ≡ [] → true ≡ false)
some_given before after j given = (λ e. absurd (cc), λ e. absurd (let none : j ∷ after ≡ [] = sym given ∙ e in cc))

-- ---- a new feed

abbrev pub baiting : Fraction → ℕ → List JobFacts → Baiting
baiting k rounds jobs = record { ratio = k; rounds = rounds; jobs = jobs }

pub too_heavy : (v w : ℕ) → v ≡ w → most_value < v → w ≤ most_value → false ≡ true
too_heavy v w is much modest = absurd (omega arith)

pub rounds_low : (k : Fraction) (rounds r all : ℕ) → r ≡ rounds → all ≡ sum (chain k rounds) → r ≤ all
rounds_low k rounds r all is total =
    level (sum (chain k rounds)) total (sum_least k rounds (first_link k) (omega arith)) where
      level : (whole : ℕ) → all ≡ whole → rounds ≤ whole → r ≤ all
      level whole total low = omega arith

pub first_some : (k : Fraction) (first : ℕ) → first ≡ first_link k → 1 ≤ first
first_some k first is = subst (λ n. 1 ≤ n) (sym is) (omega arith)

pub tick_and_rounds : (all r rounds : ℕ) → r ≡ rounds → r ≤ all → all - r + rounds ≡ all
tick_and_rounds all r rounds is low = omega arith

pub new_left : (k : Fraction) (rounds first all r : ℕ) → first ≡ first_link k → all ≡ sum (chain k rounds) → r ≡ rounds
    → r ≤ all
    → 0 + sum (chain_from k rounds first) ≡ all - r + rounds
new_left k rounds first all r is total many low =
    level (sum (chain_from k rounds first)) (sum (chain k rounds))
    (ap (λ w. sum (chain_from k rounds w)) is) total where
      level : (rest whole : ℕ) → rest ≡ whole → all ≡ whole → 0 + rest ≡ all - r + rounds
      level rest whole same total = omega (arith, many, low)

pub new_jobs : (k : Fraction) (rounds light first all r : ℕ) → light ≡ bait_value k rounds → first ≡ first_link k
    → all ≡ sum (chain k rounds)
    → r ≡ rounds → jobs_from (unit_value k) light (all - r) (chain_jobs_from 0 (chain_from k rounds first)) 0
    (all - r - 0) ≡ bait_jobs k rounds
new_jobs k rounds light first all r lights is total many =
    ap (λ n. jobs_from (unit_value k) light (all - r) (chain_jobs_from 0 (chain_from k rounds first)) 0 n) all_ticks
    ∙ ap (λ b. jobs_from (unit_value k) light b (chain_jobs_from 0 (chain_from k rounds first)) 0 b)
    (ap (λ n. n - r) total ∙ ap (λ n. sum (chain k rounds) - n) many)
    ∙ ap (λ v. jobs_from (unit_value k) v (bait_tick k rounds) (chain_jobs_from 0 (chain_from k rounds first)) 0
    (bait_tick k rounds)) lights
    ∙ ap (λ w. jobs_from (unit_value k) (bait_value k rounds) (bait_tick k rounds)
    (chain_jobs_from 0 (chain_from k rounds w)) 0
    (bait_tick k rounds)) is where
      all_ticks : all - r - 0 ≡ all - r
      all_ticks = omega arith

pub at_once : 0 ≤ 0
at_once = omega arith
