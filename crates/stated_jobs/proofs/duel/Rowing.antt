-- Duels within the limits, by computation.
use Rattle.std.proofs.Common.{◌≡◌, ℕ, ◌≤◌, List, refl, sym, subst, length, arith, Bool, true, ◌&&◌, nat_le}
use Rattle.std.proofs.Common.{leb-true}
use Rattle.std.specs.List.{list_all}
use Rattle.std.proofs.lemmas.Bool.{and_parts}
use Rattle.dover_model.specs.declared.events.Version.TheVariants.{One}
use Rattle.dover_model.specs.Common.{Fraction, IsRatio, JobFacts, is_job, IsJob, last_deadline, last_tick_in}
use Rattle.dover_model.specs.Common.{total_value, most_jobs, most_total}
use Rattle.dover_model.proofs.lists.Tests.{each}
use Rattle.stated_jobs.specs.duel.Game.{Scheduler, IsOnline, ArePlain, AreValid, LosesOnFront}
use Rattle.stated_jobs.specs.duel.Jobs.{jobs_of_links, first_link, duel_jobs}
use Rattle.stated_jobs.specs.duel.Rows.{k_of}
use Rattle.stated_jobs.proofs.duel.Phases.{jobs_from}
use Rattle.stated_jobs.proofs.duel.Plain.{plain_whole}
use Rattle.stated_jobs.proofs.duel.Chain.{phases_of, last_of, as_phases, traps_of, first_cheap}
use Rattle.stated_jobs.proofs.duel.Losing.{each_loses}
use Rattle.dover_model.proofs.valid.ValidParts.{is_within_ratio-agrees, order_parts, valid_from}
use Rattle.dover_model.proofs.valid.Valid.{all_from}
use Rattle.dover_model.proofs.valid.JobLimits.{ratio_limits, job_passes}

-- jobs that are few, not worth too much, due soon, and each within its limits
abbrev fits : List JobFacts → Bool
fits jobs = (nat_le (length jobs) (most_jobs One) && nat_le (total_value jobs) (most_total One))
    && (nat_le (last_deadline jobs) (last_tick_in One) && list_all is_job jobs)

module _ (k : Fraction) (a b : ℕ) (ratio : IsRatio k) (some_b : 1 ≤ b) where
  valid_links : (more : ℕ) → more ≤ most_jobs One → length (jobs_of_links k a b more (first_link k a b)) ≤ more
      → fits (jobs_of_links k a b more (first_link k a b)) ≡ true
      → AreValid One k (jobs_of_links k a b more (first_link k a b))
  valid_links more low few test =
      let plain = plain_whole k (ratio_limits ratio).above_one a b (phases_of k a b more (first_link k a b))
      (last_of k a b more (first_link k a b))
      (traps_of _ _ _ (ratio_limits ratio).least some_b _ _ (omega arith)
      (first_cheap k a b (ratio_limits ratio).least some_b) few) in
      let here = subst (λ js. ArePlain k js) (sym same) plain in
      let one = and_parts _ _ test in
      let two = and_parts _ _ one.0 in
      let three = and_parts _ _ one.1 in
      valid_from (record {
        ratio = ratio;
        each = (each is_job IsJob job_passes (jobs_of_links k a b more (first_link k a b))).0 three.1;
        due = leb-true _ _ three.0;
        in_order = order_parts here.in_order;
        count = leb-true _ _ two.0;
        total = leb-true _ _ two.1;
        densities = all_from _ _ _ (λ i row. all_from _ _ _ (λ j within. (is_within_ratio-agrees k i j).0 within) row)
            here.densities;
      }) where
        same : jobs_of_links k a b more (first_link k a b) ≡ jobs_from k.p k.q 0
            (phases_of k a b more (first_link k a b)) (last_of k a b more (first_link k a b))
        same = as_phases k a b more (first_link k a b) (omega arith)

-- the jobs of the duel for a share, which fit
fitting : (p a b : ℕ) (scheduler : Scheduler) → IsRatio (k_of p) → 1 ≤ b → fits (duel_jobs (k_of p) a b) ≡ true
    → IsOnline (AreValid One (k_of p)) scheduler → LosesOnFront (k_of p) a b scheduler (duel_jobs (k_of p) a b)
fitting p a b scheduler ratio some_b test online = each_loses One (k_of p) a b scheduler some_b
    (valid_links (k_of p) a b ratio some_b 1_000_000 (omega arith) (leb-true _ _ few) test) (leb-true _ _ few)
    online where
      few : nat_le (length (duel_jobs (k_of p) a b)) (most_jobs One) ≡ true
      few = (and_parts (nat_le (length (duel_jobs (k_of p) a b)) (most_jobs One))
          (nat_le (total_value (duel_jobs (k_of p) a b)) (most_total One))
          (and_parts _ _ test).0).0

one_fits : fits (duel_jobs (k_of 1) 393 100) ≡ true
unfolding jobs_of_links
one_fits = refl

pub one_loses : (scheduler : Scheduler) → IsOnline (AreValid One (k_of 1)) scheduler
    → LosesOnFront (k_of 1) 393 100 scheduler (duel_jobs (k_of 1) 393 100)
one_loses scheduler online = fitting 1 393 100 scheduler
    (record { passes = refl })
    (omega arith) one_fits online

two_fits : fits (duel_jobs (k_of 2) 143 25) ≡ true
unfolding jobs_of_links
two_fits = refl

pub two_loses : (scheduler : Scheduler) → IsOnline (AreValid One (k_of 2)) scheduler
    → LosesOnFront (k_of 2) 143 25 scheduler (duel_jobs (k_of 2) 143 25)
two_loses scheduler online = fitting 2 143 25 scheduler
    (record { passes = refl })
    (omega arith) two_fits online

four_fits : fits (duel_jobs (k_of 4) 221 25) ≡ true
unfolding jobs_of_links
four_fits = refl

pub four_loses : (scheduler : Scheduler) → IsOnline (AreValid One (k_of 4)) scheduler
    → LosesOnFront (k_of 4) 221 25 scheduler (duel_jobs (k_of 4) 221 25)
four_loses scheduler online = fitting 4 221 25 scheduler
    (record { passes = refl })
    (omega arith) four_fits online

hundred_fits : fits (duel_jobs (k_of 100) 118 1) ≡ true
unfolding jobs_of_links
hundred_fits = refl

pub hundred_loses : (scheduler : Scheduler) → IsOnline (AreValid One (k_of 100)) scheduler
    → LosesOnFront (k_of 100) 118 1 scheduler (duel_jobs (k_of 100) 118 1)
hundred_loses scheduler online = fitting 100 118 1 scheduler
    (record { passes = refl })
    (omega arith) hundred_fits online
