-- The baiting feed as it is given, with the number of each job and the schedule that runs the unit jobs and the bait.
use Rattle.std.proofs.Common.{◌≡◌, ℕ, zero, suc, ◌+◌, ◌-◌, ◌≤◌, ◌<◌, ◌⊎◌, inl, inr, List, [], ◌∷◌, ◌++◌, length}
use Rattle.std.proofs.Common.{replicate, refl, sym, ap, ◌∙◌, subst, arith, cond, leb, map, sum, count_by, le-leb}
use Rattle.std.specs.List.{range_with_len}
use Rattle.std.proofs.lemmas.Bool.{cases_lt, lt-leb}
use Rattle.std.proofs.lemmas.List.Sums.{sum_by-cons}
use Rattle.dover_model.specs.Common.{JobFacts, tight_job, chain_jobs_from}
use Rattle.stated_jobs.specs.bait.Baiting.{jobs_from}
use Rattle.stated_jobs.proofs.bait.Coming.{AreSome, AreAfter, are_after, link_first, unit_next}

-- From the number n on, at the tick t with so many ticks before the bait, where the next of these links is released at
-- r: the jobs, and the schedule.
pub data Streams (unit bait : ℕ) : (n t ticks r : ℕ) → List ℕ → List JobFacts → List ℕ → Type 0 where
  gives_link : {n t ticks r w : ℕ} {ws : List ℕ} {jobs : List JobFacts} {plan : List ℕ} → r ≡ t → 1 ≤ w
      → Streams unit bait (suc n) t ticks (r + w - 1) ws jobs plan
      → Streams unit bait n t ticks r (w ∷ ws) (tight_job r w 1 ∷ jobs) plan
  gives_unit : {n t ticks r : ℕ} {ws : List ℕ} {jobs : List JobFacts} {plan : List ℕ} → t ≤ r
      → AreAfter t (chain_jobs_from r ws)
      → Streams unit bait (suc n) (t + 1) ticks r ws jobs plan
      → Streams unit bait n t (suc ticks) r ws (tight_job t 1 unit ∷ jobs) (n ∷ plan)
  gives_bait : {n t r : ℕ} → Streams unit bait n t zero r [] (tight_job t bait 1 ∷ []) (replicate bait n)

-- ---- the schedule

-- how many of the jobs are released up to a tick
abbrev pub until : List JobFacts → ℕ → ℕ
until xs s = count_by (λ j. leb j.release s) xs

-- the schedule from the tick t on, where the next number is n and these links are to come
abbrev pub plan_from : (bait n : ℕ) → List JobFacts → (t ticks : ℕ) → List ℕ
plan_from bait n xs t ticks =
    map (λ s. n + (s - t) + until xs s) (range_with_len t ticks) ++ replicate bait (n + ticks + length xs)

-- places that are the same from a tick on
pub map_from : (f g : ℕ → ℕ) (a n : ℕ) → ((s : ℕ) → a ≤ s → f s ≡ g s)
    → map f (range_with_len a n) ≡ map g (range_with_len a n)
map_from f g a zero same = refl
map_from f g a (suc n) same = ap (λ x. x ∷ map f (range_with_len (a + 1) n)) (same a (omega arith))
    ∙ ap (λ xs. g a ∷ xs) (map_from f g (a + 1) n (λ s more. same s (omega arith)))

-- one that is released up to the tick counts
pub until_one : (j : JobFacts) (xs : List JobFacts) (s : ℕ) → j.release ≤ s → until (j ∷ xs) s ≡ suc (until xs s)
until_one j xs s early = sum_by-cons (λ i. cond (leb i.release s) 1 0) j xs
    ∙ ap (λ b. cond b 1 0 + until xs s) (le-leb j.release s early)
    ∙ omega arith

-- one that is released later doesn't
pub until_later : (j : JobFacts) (xs : List JobFacts) (s : ℕ) → s < j.release → until (j ∷ xs) s ≡ until xs s
until_later j xs s late = sum_by-cons (λ i. cond (leb i.release s) 1 0) j xs
    ∙ ap (λ b. cond b 1 0 + until xs s) (lt-leb j.release s late)
    ∙ omega arith

pub until_none : (xs : List JobFacts) (s : ℕ) → AreAfter s xs → until xs s ≡ 0
until_none [] s later = refl
until_none (j ∷ xs) s later = until_later j xs s later.0 ∙ until_none xs s later.1

-- a link takes a number, and no place
plan_link : (bait n : ℕ) (j : JobFacts) (xs : List JobFacts) (t ticks : ℕ) → j.release ≡ t
    → plan_from bait n (j ∷ xs) t ticks ≡ plan_from bait (suc n) xs t ticks
plan_link bait n j xs t ticks here =
    ap (λ ys. ys ++ replicate bait (n + ticks + length (j ∷ xs))) (map_from (λ s. n + (s - t) + until (j ∷ xs) s)
    (λ s. suc n + (s - t) + until xs s) t ticks
    (λ s more. shift s (until (j ∷ xs) s) (until xs s) (until_one j xs s (early s j.release here more))))
    ∙ ap (λ m. map (λ s. suc n + (s - t) + until xs s) (range_with_len t ticks) ++ replicate bait m)
    (last (length xs)) where
      shift : (s more less : ℕ) → more ≡ suc less → n + (s - t) + more ≡ suc n + (s - t) + less
      shift s more less is = omega arith

      early : (s r : ℕ) → r ≡ t → t ≤ s → r ≤ s
      early s r is more = omega arith

      last : (m : ℕ) → n + ticks + suc m ≡ suc n + ticks + m
      last m = omega arith

-- a unit job takes a number and its place
plan_unit : (bait n : ℕ) (xs : List JobFacts) (t ticks : ℕ) → AreAfter t xs
    → plan_from bait n xs t (suc ticks) ≡ n ∷ plan_from bait (suc n) xs (t + 1) ticks
plan_unit bait n xs t ticks later =
    ap (λ x. x ∷ map (λ s. n + (s - t) + until xs s) (range_with_len (t + 1) ticks) ++ replicate bait
    (n + suc ticks + length xs))
    (first (until xs t) (until_none xs t later))
    ∙ ap (λ ys. n ∷ ys ++ replicate bait (n + suc ticks + length xs)) (map_from (λ s. n + (s - t) + until xs s)
    (λ s. suc n + (s - (t + 1)) + until xs s) (t + 1) ticks (λ s more. shift s (until xs s) more))
    ∙ ap (λ m. n ∷ map (λ s. suc n + (s - (t + 1)) + until xs s) (range_with_len (t + 1) ticks) ++ replicate bait m)
    (last (length xs)) where
      first : (m : ℕ) → m ≡ 0 → n + (t - t) + m ≡ n
      first m none = omega arith

      shift : (s m : ℕ) → t + 1 ≤ s → n + (s - t) + m ≡ suc n + (s - (t + 1)) + m
      shift s m more = omega arith

      last : (m : ℕ) → n + suc ticks + m ≡ suc n + ticks + m
      last m = omega arith

-- ---- the feed

-- the links are some, and lead to the bait's tick b, which comes in so many ticks
pub record LeadsTo (b t ticks r : ℕ) (ws : List ℕ) : Type 0 where
  pub some : AreSome ws
  pub early : t ≤ r
  pub here : t + ticks ≡ b
  pub left : r + sum ws ≡ b + length ws

-- links are worth at least as much as they are many
pub sum_some : (ws : List ℕ) → AreSome ws → length ws ≤ sum ws
sum_some [] some = omega arith
sum_some (w ∷ ws) some =
    rise (length ws) (sum ws) (sum (w ∷ ws)) (sum_some ws some.1) (sum_by-cons (λ x. x) w ws) some.0 where
      rise : (m rest all : ℕ) → m ≤ rest → all ≡ w + rest → 1 ≤ w → suc m ≤ all
      rise m rest all low is one = omega arith

leads_link : (b t ticks r w : ℕ) (ws : List ℕ) → r ≡ t → LeadsTo b t ticks r (w ∷ ws) → LeadsTo b t ticks (r + w - 1) ws
leads_link b t ticks r w ws now leads = record {
  some = leads.some.1;
  early = up leads.some.0;
  here = leads.here;
  left = rest (sum ws) (sum (w ∷ ws)) (length ws) (sum_by-cons (λ x. x) w ws) leads.some.0 leads.left;
} where
  up : 1 ≤ w → t ≤ r + w - 1
  up one = omega arith

  rest : (sum all m : ℕ) → all ≡ w + sum → 1 ≤ w → r + all ≡ b + suc m → r + w - 1 + sum ≡ b + m
  rest sum all m is one left = omega arith

leads_unit : (b t ticks r : ℕ) (ws : List ℕ) → t < r → LeadsTo b t (suc ticks) r ws → LeadsTo b (t + 1) ticks r ws
leads_unit b t ticks r ws later leads = record {
  some = leads.some;
  early = omega arith;
  here = end leads.here;
  left = leads.left;
} where
  end : t + suc ticks ≡ b → t + 1 + ticks ≡ b
  end here = omega arith

-- the next link is released by the bait's tick
leads_within : (b t ticks r : ℕ) (ws : List ℕ) → LeadsTo b t ticks r ws → r ≤ b
leads_within b t ticks r ws leads = omega (arith, sum_some ws leads.some, leads.left)

module _ (unit bait b : ℕ) where
  -- the feed from a tick on, as it is written
  abbrev pub IsFeed : (n t ticks r : ℕ) → List ℕ → Type 0
  IsFeed n t ticks r ws = Streams unit bait n t ticks r ws (jobs_from unit bait b (chain_jobs_from r ws) t ticks)
      (plan_from bait n (chain_jobs_from r ws) t ticks)

  at_bait : (n t r : ℕ) → LeadsTo b t zero r [] → IsFeed n t zero r []
  at_bait n t r leads =
      subst (λ end. Streams unit bait n t zero r [] (tight_job end bait 1 ∷ []) (replicate bait (n + zero + zero)))
      (end leads.here)
      (subst (λ m. Streams unit bait n t zero r [] (tight_job t bait 1 ∷ []) (replicate bait m)) last gives_bait) where
        end : t + zero ≡ b → t ≡ b
        end here = omega arith

        last : n ≡ n + zero + zero
        last = omega arith

  by_unit : (n t ticks r : ℕ) (ws : List ℕ) → t ≤ r → AreAfter t (chain_jobs_from r ws)
      → IsFeed (suc n) (t + 1) ticks r ws
      → IsFeed n t (suc ticks) r ws
  by_unit n t ticks r ws early later feed =
      subst (λ jobs. Streams unit bait n t (suc ticks) r ws jobs
      (plan_from bait n (chain_jobs_from r ws) t (suc ticks)))
      (sym (unit_next unit bait b (chain_jobs_from r ws) t ticks later))
      (subst (λ plan. Streams unit bait n t (suc ticks) r ws
      (tight_job t 1 unit ∷ jobs_from unit bait b (chain_jobs_from r ws) (t + 1) ticks) plan)
      (sym (plan_unit bait n (chain_jobs_from r ws) t ticks later)) (gives_unit early later feed))

  by_link : (n t ticks r w : ℕ) (ws : List ℕ) → r ≡ t → 1 ≤ w → t + ticks ≡ b → IsFeed (suc n) t ticks (r + w - 1) ws
      → IsFeed n t ticks r (w ∷ ws)
  by_link n t ticks r w ws now some here feed =
      subst (λ jobs. Streams unit bait n t ticks r (w ∷ ws) jobs
      (plan_from bait n (chain_jobs_from r (w ∷ ws)) t ticks))
      (sym (link_first unit bait b (tight_job r w 1) (chain_jobs_from (r + w - 1) ws) t ticks now here))
      (subst (λ plan. Streams unit bait n t ticks r (w ∷ ws)
      (tight_job r w 1 ∷ jobs_from unit bait b (chain_jobs_from (r + w - 1) ws) t ticks)
      plan)
      (sym (plan_link bait n (tight_job r w 1) (chain_jobs_from (r + w - 1) ws) t ticks now))
      (gives_link now some feed))

  -- the feed is what streams
  pub streams : (fuel n t ticks r : ℕ) (ws : List ℕ) → ticks + length ws ≤ fuel → LeadsTo b t ticks r ws
      → IsFeed n t ticks r ws
  streams fuel n t zero r [] most leads = at_bait n t r leads
  streams zero n t (suc ticks) r [] most leads = absurd (omega (arith, most))
  streams (suc fuel) n t (suc ticks) r [] most leads =
      by_unit n t ticks r [] leads.early tt (streams fuel (suc n) (t + 1) ticks r [] (omega (arith, most))
      (leads_unit b t ticks r [] (end leads.left leads.here) leads)) where
        end : r + 0 ≡ b + 0 → t + suc ticks ≡ b → t < r
        end left here = omega arith
  streams zero n t ticks r (w ∷ ws) most leads = absurd (omega (arith, most))
  streams (suc fuel) n t ticks r (w ∷ ws) most leads = by_order ticks most leads (cases_lt t r) (streams fuel) where
    by_order : (ticks : ℕ) → ticks + length (w ∷ ws) ≤ suc fuel → LeadsTo b t ticks r (w ∷ ws) → (t < r) ⊎ (r ≤ t)
        → ((n t ticks r : ℕ) (ws : List ℕ) → ticks + length ws ≤ fuel → LeadsTo b t ticks r ws → IsFeed n t ticks r ws)
        → IsFeed n t ticks r (w ∷ ws)
    by_order ticks most leads (inr now) more =
        let same : r ≡ t = omega (arith, leads.early) in
        by_link n t ticks r w ws same leads.some.0 leads.here
        (more (suc n) t ticks (r + w - 1) ws (omega (arith, most)) (leads_link b t ticks r w ws same leads))
    by_order zero most leads (inl later) more =
        absurd (omega (arith, leads_within b t zero r (w ∷ ws) leads, leads.here))
    by_order (suc ticks) most leads (inl later) more =
        by_unit n t ticks r (w ∷ ws) leads.early (are_after t r (w ∷ ws) leads.some later)
        (more (suc n) (t + 1) ticks r (w ∷ ws) (omega (arith, most)) (leads_unit b t ticks r (w ∷ ws) later leads))
