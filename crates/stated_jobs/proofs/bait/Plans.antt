-- The schedule of the unit jobs and the bait, tick by tick, and what it is worth.
use Rattle.std.proofs.Common.{◌≡◌, ℕ, zero, suc, ◌+◌, ◌-◌, ◌*◌, ◌≤◌, ◌<◌, ◌⊎◌, inl, inr, List, [], ◌∷◌, ◌++◌, cond, eqb}
use Rattle.std.proofs.Common.{refl, sym, ap, ◌∙◌, length, take, drop, replicate, arith, length-append, map, sum, sum_by}
use Rattle.std.proofs.Common.{count_by, flat_map, le-leb, eq-eqb, ne_eqb, if◌then◌else◌}
use Rattle.std.specs.List.{range_with_len, enumerate_from, AllByRecursion}
use Rattle.std.proofs.lemmas.Bool.{cases_lt, lt-leb}
use Rattle.std.proofs.lemmas.List.{drop-take}
use Rattle.std.proofs.lemmas.List.Sums.{sum_by-cons}
use Rattle.dover_model.specs.declared.events.Version.{Version}
use Rattle.dover_model.specs.Common.{Fraction, JobFacts, ticks_given, is_served, worth, jobs_under, unit_value}
use Rattle.dover_model.specs.Common.{first_link, chain, bait_value, tight_job, chain_jobs_from, chain_jobs, bait_tick}
use Rattle.dover_model.specs.Common.{bait_jobs, bait_plan, plan_value}
use Rattle.dover_model.specs.Bait.{unit_number}
use Rattle.stated_jobs.proofs.bait.Coming.{at, of_tick, one_at, not_at, sum_least}
use Rattle.stated_jobs.proofs.bait.Streaming.{Streams, gives_link, gives_unit, gives_bait, until, until_one}
use Rattle.stated_jobs.proofs.bait.Streaming.{until_later, map_from, plan_from}
use Rattle.stated_jobs.proofs.bait.Feeds.{length_chain, whole, count}

-- ---- the number of a unit job

-- one that is released at another tick isn't released at this one
skip_at : (t : ℕ) (j : JobFacts) (xs : List JobFacts) → (j.release ≡ t → ⊥) → at (j ∷ xs) t ≡ at xs t
skip_at t j xs other = ap (λ b. cond b (j ∷ at xs t) (at xs t)) (ne_eqb j.release t other)

-- those released up to a tick and those at the next one
at_until : (xs : List JobFacts) (s : ℕ) → length (at xs (s + 1)) + until xs s ≡ until xs (s + 1)
at_until [] s = refl
at_until (j ∷ xs) s = by_order (cases_lt s j.release) (cases_lt (s + 1) j.release) (at_until xs s) where
  by_order : (s < j.release) ⊎ (j.release ≤ s) → (s + 1 < j.release) ⊎ (j.release ≤ s + 1)
      → length (at xs (s + 1)) + until xs s ≡ until xs (s + 1)
      → length (at (j ∷ xs) (s + 1)) + until (j ∷ xs) s ≡ until (j ∷ xs) (s + 1)
  by_order (inr early) order others =
      let here : length (at (j ∷ xs) (s + 1)) ≡ length (at xs (s + 1)) =
      ap (λ ys. length ys) (not_at (s + 1) j xs (omega (arith, early))) in
      omega (arith, here, until_one j xs s early, until_one j xs (s + 1) (omega (arith, early)), others)
  by_order (inl late) (inl later) others =
      let here : length (at (j ∷ xs) (s + 1)) ≡ length (at xs (s + 1)) = ap (λ ys. length ys)
      (skip_at (s + 1) j xs (λ e. omega (arith, e, later))) in
      omega (arith, here, until_later j xs s late, until_later j xs (s + 1) later, others)
  by_order (inl late) (inr next) others =
      let here : length (at (j ∷ xs) (s + 1)) ≡ suc (length (at xs (s + 1))) = ap (λ ys. length ys)
      (one_at (s + 1) j xs (omega (arith, late, next))) in
      omega (arith, here, until_later j xs s late, until_one j xs (s + 1) next, others)

-- at tick 0 are those released up to tick 0
at_zero : (xs : List JobFacts) → length (at xs 0) ≡ until xs 0
at_zero [] = refl
at_zero (j ∷ xs) = by_order (cases_lt 0 j.release) (at_zero xs) where
  by_order : (0 < j.release) ⊎ (j.release ≤ 0) → length (at xs 0) ≡ until xs 0
      → length (at (j ∷ xs) 0) ≡ until (j ∷ xs) 0
  by_order (inl late) others = ap (λ ys. length ys) (skip_at 0 j xs (λ e. omega (arith, e, late))) ∙ others
      ∙ sym (until_later j xs 0 late)
  by_order (inr now) others = ap (λ ys. length ys) (one_at 0 j xs (omega (arith, now))) ∙ ap suc others
      ∙ sym (until_one j xs 0 now)

length_tick : (unit : ℕ) (xs : List JobFacts) (t : ℕ) (more : List JobFacts)
    → length (of_tick unit xs t ++ more) ≡ length
    (at xs t) + 1 + length more
length_tick unit xs t more = length-append (of_tick unit xs t) more
    ∙ ap (λ n. n + length more) (length-append (at xs t) (tight_job t 1 unit ∷ []))

-- the jobs of some ticks, and the links up to the tick before them
jobs_until : (unit : ℕ) (xs : List JobFacts) (a n : ℕ)
    → length (flat_map (of_tick unit xs) (range_with_len (a + 1) n)) + until xs a ≡ n + until xs
    (a + n)
jobs_until unit xs a zero = ap (λ m. 0 + until xs m) same where
  same : a ≡ a + zero
  same = omega arith
jobs_until unit xs a (suc n) =
    level (length (of_tick unit xs (a + 1) ++ flat_map (of_tick unit xs) (range_with_len (a + 1 + 1) n)))
    (length (flat_map (of_tick unit xs) (range_with_len (a + 1 + 1) n))) (length (at xs (a + 1))) (until xs a)
    (until xs (a + 1))
    (until xs (a + 1 + n))
    (until xs (a + suc n)) (length_tick unit xs (a + 1) (flat_map (of_tick unit xs) (range_with_len (a + 1 + 1) n)))
    (jobs_until unit xs (a + 1) n)
    (at_until xs a) (ap (λ m. until xs m) same) where
      same : a + 1 + n ≡ a + suc n
      same = omega arith

      level : (all rest here before next last last2 : ℕ) → all ≡ here + 1 + rest → rest + next ≡ n + last
          → here + before ≡ next → last ≡ last2
          → all + before ≡ suc n + last2
      level all rest here before next last last2 one two three four = omega arith

-- the unit job of a tick comes after the links up to it and the unit jobs before it
pub unit_number_is : (k : Fraction) (rounds t : ℕ) → unit_number k rounds t ≡ t + until (chain_jobs k rounds) t
unit_number_is k rounds t =
    ap (λ m. length (flat_map (of_tick (unit_value k) (chain_jobs k rounds)) (range_with_len 0 m)) - 1) one_more
    ∙ level (length (of_tick (unit_value k) (chain_jobs k rounds) 0 ++ flat_map
    (of_tick (unit_value k) (chain_jobs k rounds))
    (range_with_len (0 + 1) t)))
    (length (flat_map (of_tick (unit_value k) (chain_jobs k rounds)) (range_with_len (0 + 1) t)))
    (length (at (chain_jobs k rounds) 0))
    (until (chain_jobs k rounds) 0) (until (chain_jobs k rounds) (0 + t)) (until (chain_jobs k rounds) t)
    (length_tick (unit_value k) (chain_jobs k rounds) 0
    (flat_map (of_tick (unit_value k) (chain_jobs k rounds)) (range_with_len (0 + 1) t)))
    (jobs_until (unit_value k) (chain_jobs k rounds) 0 t) (at_zero (chain_jobs k rounds))
    (ap (λ m. until (chain_jobs k rounds) m) same) where
      one_more : t + 1 ≡ suc t
      one_more = omega arith

      same : 0 + t ≡ t
      same = omega arith

      level : (all rest here before last last2 : ℕ) → all ≡ here + 1 + rest → rest + before ≡ t + last → here ≡ before
          → last ≡ last2
          → all - 1 ≡ t + last2
      level all rest here before last last2 one two three four = omega arith

-- there are as many jobs of the chain as links
pub length_links : (r : ℕ) (ws : List ℕ) → length (chain_jobs_from r ws) ≡ length ws
length_links r [] = refl
length_links r (w ∷ ws) = ap suc (length_links (r + w - 1) ws)

-- the schedule is the one of the whole feed
pub plan_is : (k : Fraction) (rounds : ℕ)
    → bait_plan k rounds ≡ plan_from (bait_value k rounds) 0 (chain_jobs k rounds) 0 (bait_tick k rounds)
plan_is k rounds =
    ap (λ xs. xs ++ replicate (bait_value k rounds) (length (bait_jobs k rounds) - 1)) (map_from (unit_number k rounds)
    (λ s. 0 + (s - 0) + until (chain_jobs k rounds) s) 0 (bait_tick k rounds) (λ s early. unit_number_is k rounds s
    ∙ shift s (until (chain_jobs k rounds) s)))
    ∙ ap (λ n. map (λ s. 0 + (s - 0) + until (chain_jobs k rounds) s) (range_with_len 0 (bait_tick k rounds))
    ++ replicate (bait_value k rounds) n)
    (level (length (bait_jobs k rounds)) (sum (chain k rounds)) (length (chain_jobs k rounds)) (length (chain k rounds))
    (count k rounds)
    (length_links 0 (chain k rounds)) (length_chain k rounds (first_link k))
    (sum_least k rounds (first_link k) (omega arith))) where
      shift : (s m : ℕ) → s + m ≡ 0 + (s - 0) + m
      shift s m = omega arith

      level : (jobs all links many : ℕ) → jobs ≡ all + 1 → links ≡ many → many ≡ rounds → rounds ≤ all
          → jobs - 1 ≡ 0 + (all - rounds) + links
      level jobs all links many one two three four = omega arith

-- ---- what it is worth

-- what a job of a number adds to the worth of a schedule
abbrev pub part : List ℕ → ℕ × JobFacts → ℕ
part s n_j = if is_served s n_j then n_j.1.value else 0

-- what jobs from a number on add
abbrev pub parts : List ℕ → ℕ → List JobFacts → ℕ
parts s n jobs = sum_by (part s) (enumerate_from n jobs)

parts_cons : (s : List ℕ) (n : ℕ) (j : JobFacts) (jobs : List JobFacts)
    → parts s n (j ∷ jobs) ≡ part s (n, j) + parts s (suc n) jobs
parts_cons s n j jobs = sum_by-cons (part s) (n, j) (enumerate_from (n + 1) jobs)
    ∙ ap (λ m. part s (n, j) + parts s m jobs) next where
      next : n + 1 ≡ suc n
      next = omega arith

-- the ticks of a window without slack
window : (s : List ℕ) (n t w d : ℕ) (plan : List ℕ) → drop t s ≡ plan
    → ticks_given s n (tight_job t w d) ≡ count_by (λ m. eqb m n) (take w plan)
window s n t w d plan here = ap (λ xs. count_by (λ m. eqb m n) xs) (drop-take t w s ∙ ap (λ xs. take w xs) here)

-- a job that gets enough adds its value
served : (s : List ℕ) (n : ℕ) (j : JobFacts) → j.work ≤ ticks_given s n j → part s (n, j) ≡ j.value
served s n j enough = ap (λ b. cond b j.value 0) (le-leb j.work (ticks_given s n j) enough)

-- and one that gets less adds nothing
unserved : (s : List ℕ) (n : ℕ) (j : JobFacts) → ticks_given s n j < j.work → part s (n, j) ≡ 0
unserved s n j less = ap (λ b. cond b j.value 0) (lt-leb j.work (ticks_given s n j) less)

-- a number below all isn't there
count_none : (n w : ℕ) (xs : List ℕ) → AllByRecursion (λ m. suc n ≤ m) xs → count_by (λ m. eqb m n) (take w xs) ≡ 0
count_none n zero xs above = refl
count_none n (suc w) [] above = refl
count_none n (suc w) (x ∷ xs) above = sum_by-cons (λ m. cond (eqb m n) 1 0) x (take w xs)
    ∙ ap (λ b. cond b 1 0 + count_by (λ m. eqb m n) (take w xs)) (ne_eqb x n (λ e. other e above.0))
    ∙ ap (λ m. 0 + m) (count_none n w xs above.1) where
      other : x ≡ n → suc n ≤ x → ⊥
      other e more = omega arith

-- a number again and again
count_all : (n v : ℕ) → count_by (λ m. eqb m n) (take v (replicate v n)) ≡ v
count_all n zero = refl
count_all n (suc v) = sum_by-cons (λ m. cond (eqb m n) 1 0) n (take v (replicate v n))
    ∙ ap (λ b. cond b 1 0 + count_by (λ m. eqb m n) (take v (replicate v n))) (eq-eqb n n refl)
    ∙ ap (λ m. 1 + m) (count_all n v) ∙ level where
      level : 1 + v ≡ suc v
      level = omega arith

-- what is left behind one more
drop_one : (t : ℕ) (s : List ℕ) (x : ℕ) (xs : List ℕ) → drop t s ≡ x ∷ xs → drop (suc t) s ≡ xs
drop_one zero [] x xs is = absurd (cc)
drop_one zero (y ∷ s) x xs is = cc
drop_one (suc t) [] x xs is = absurd (cc)
drop_one (suc t) (y ∷ s) x xs is = drop_one t s x xs is

replicate_above : (n v : ℕ) → AllByRecursion (λ m. n ≤ m) (replicate v n)
replicate_above n zero = tt
replicate_above n (suc v) = (omega arith, replicate_above n v)

more_above : (n : ℕ) (xs : List ℕ) → AllByRecursion (λ m. suc n ≤ m) xs → AllByRecursion (λ m. n ≤ m) xs
more_above n [] above = tt
more_above n (x ∷ xs) above = (less above.0, more_above n xs above.1) where
  less : suc n ≤ x → n ≤ x
  less more = omega arith

module _ (unit bait : ℕ) where
  -- the schedule names no number before the next one
  plan_above : (n t ticks r : ℕ) (ws : List ℕ) (jobs : List JobFacts) (plan : List ℕ)
      → Streams unit bait n t ticks r ws jobs plan
      → AllByRecursion (λ m. n ≤ m) plan
  plan_above n t ticks r (w ∷ ws) (j ∷ jobs) plan (gives_link now some more) =
      more_above n plan (plan_above (suc n) t ticks (r + w - 1) ws jobs plan more)
  plan_above n t (suc ticks) r ws (j ∷ jobs) (m ∷ plan) (gives_unit early later more) =
      (omega arith, more_above n plan (plan_above (suc n) (t + 1) ticks r ws jobs plan more))
  plan_above n t zero r [] jobs plan gives_bait = replicate_above n bait

  -- it serves the unit jobs and the bait
  pub parts_are : (s : List ℕ) (n t ticks r : ℕ) (ws : List ℕ) (jobs : List JobFacts) (plan : List ℕ)
      → Streams unit bait n t ticks r ws jobs plan
      → drop t s ≡ plan → parts s n jobs ≡ unit * ticks + bait
  parts_are s n t ticks r (w ∷ ws) (j ∷ jobs) plan (gives_link now some more) here =
      parts_cons s n (tight_job r w 1) jobs
      ∙ ap (λ m. m + parts s (suc n) jobs) (unserved s n (tight_job r w 1) (less (ticks_given s n (tight_job r w 1))
      (window s n r w 1 plan (ap (λ m. drop m s) now ∙ here)
      ∙ count_none n w plan (plan_above (suc n) t ticks (r + w - 1) ws jobs plan more))
      some))
      ∙ nothing (parts s (suc n) jobs) ∙ parts_are s (suc n) t ticks (r + w - 1) ws jobs plan more here where
        less : (given : ℕ) → given ≡ 0 → 1 ≤ w → given < w
        less given none some = omega arith

        nothing : (m : ℕ) → 0 + m ≡ m
        nothing m = omega arith
  parts_are s n t (suc ticks) r ws (j ∷ jobs) (m ∷ plan) (gives_unit early later more) here =
      parts_cons s n (tight_job t 1 unit) jobs
      ∙ ap (λ m. m + parts s (suc n) jobs)
      (served s n (tight_job t 1 unit) (enough (ticks_given s n (tight_job t 1 unit))
      (window s n t 1 unit (n ∷ plan) here ∙ sum_by-cons (λ m. cond (eqb m n) 1 0) n []
      ∙ ap (λ b. cond b 1 0 + 0) (eq-eqb n n refl))))
      ∙ ap (λ m. unit * 1 + m)
      (parts_are s (suc n) (t + 1) ticks r ws jobs plan more (ap (λ m. drop m s) next ∙ drop_one t s n plan here))
      ∙ level where
        enough : (given : ℕ) → given ≡ 1 + 0 → 1 ≤ given
        enough given one = omega arith

        next : t + 1 ≡ suc t
        next = omega arith

        level : unit * 1 + (unit * ticks + bait) ≡ unit * suc ticks + bait
        level = omega arith
  parts_are s n t zero r [] jobs plan gives_bait here =
      parts_cons s n (tight_job t bait 1) []
      ∙ ap (λ m. m + 0) (served s n (tight_job t bait 1) (enough (ticks_given s n (tight_job t bait 1))
      (window s n t bait 1 (replicate bait n) here ∙ count_all n bait))) ∙ level where
        enough : (given : ℕ) → given ≡ bait → bait ≤ given
        enough given all = omega arith

        level : 1 * bait + 0 ≡ unit * zero + bait
        level = omega arith

-- the schedule is worth its value
pub plan_worth : (k : Fraction) (rounds : ℕ) (version : Version)
    → worth (jobs_under version k (bait_jobs k rounds)) (bait_plan k rounds)
    ≡ plan_value k rounds
plan_worth k rounds version =
    parts_are _ _ _ _ _ _ _ _ _ _ (whole k rounds) (plan_is k rounds)
