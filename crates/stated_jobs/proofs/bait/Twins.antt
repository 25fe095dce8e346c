-- The least baiting feed: one link and a bait of the same value, one. The link completes, and the bait doesn't.
use Rattle.std.proofs.Common.{◌≡◌, ℕ, ◌-◌, List, [], ◌∷◌, ◌++◌, inl, inr, refl, sym, ap, ◌∙◌, subst}
use Rattle.std.specs.Prelude.{Some, ◌==◌}
use Rattle.std.specs.List.{count_by, filter, flat_map, range_with_len, sum}
use Rattle.dover_model.specs.declared.events.Version.{Version}
use Rattle.dover_model.specs.declared.events.Version.TheVariants.{One}
use Rattle.dover_model.specs.declared.events.Task.{Task}
use Rattle.dover_model.specs.Common.{JobFacts, Fraction, IsValid, jobs_under, unit_value, first_link, bait_value}
use Rattle.dover_model.specs.Common.{tight_job, chain_jobs_from, bait_jobs, opening, step, run, completed_value}
use Rattle.dover_model.specs.Common.{is_complete, IsMember, Each, Keeps}
use Rattle.dover_model.proofs.lists.Members.{map_member}
use Rattle.dover_model.proofs.steps.Kept.{opening_keeps}
use Rattle.dover_model.proofs.runs.Ending.{run_is_whole}
use Rattle.dover_model.proofs.runs.Runs.{run_states}
use Rattle.stated_jobs.specs.bait.BaitingRuns.{baiting, CompletesLastAlone}

-- the one job, twice
abbrev twin : JobFacts
twin = tight_job 0 1 1

abbrev pub twins : List JobFacts
twins = twin ∷ twin ∷ []

-- each of the two is that job
is_twin : (j : JobFacts) → IsMember j twins → j ≡ twin
is_twin j (inl e) = e
is_twin j (inr (inl e)) = e
is_twin j (inr (inr member)) = absurd member

-- the feed of one link, with what a unit job, the link and the bait are worth
abbrev single : (unit link bait : ℕ) → List JobFacts
single unit link bait = let b = sum (link ∷ []) - 1 in let links = chain_jobs_from 0 (link ∷ []) in
    flat_map (λ t. filter (λ j. j.release == t) links ++ tight_job t 1 unit ∷ []) (range_with_len 0 b)
    ++ filter (λ j. j.release == b) links ++ tight_job b bait 1 ∷ []

-- what its run is worth, and how many jobs complete
worth_one : (k : Fraction) (version : Version) → completed_value (jobs_under version k twins) ≡ 1
worth_one k One = refl
worth_one k _ = refl

once_one : (k : Fraction) (version : Version)
    → count_by (λ x. is_complete x.move) (run (jobs_under version k twins)) ≡ 1
once_one k One = refl
once_one k _ = refl

module _ (k : Fraction) (version : Version) (valid : IsValid (baiting k version 1)) (first : first_link k ≡ 1)
    (bait : bait_value k 1 ≡ 1) where
  -- the jobs of the feed
  jobs_are : bait_jobs k 1 ≡ twins
  jobs_are = ap (λ w. single (unit_value k) w (bait_value k 1)) first ∙ ap (λ v. single (unit_value k) 1 v) bait

  -- each state has these
  each_keeps : Each (λ x. (x.move ≡ step (baiting k version 1).rules x.before) × Keeps (baiting k version 1) x.before
      × Unit {0}) (run (baiting k version 1))
  each_keeps = run_states (baiting k version 1) valid (baiting k version 1).rules (λ s. Unit {0}) (λ s keeps it on. tt)
      (run (baiting k version 1)) (opening (bait_jobs k 1)) (opening_keeps (baiting k version 1)) tt
      (run_is_whole (baiting k version 1) valid)

  pub twins_alone : CompletesLastAlone k 1 (baiting k version 1)
  twins_alone = record {
    worth = subst (λ jobs. completed_value (jobs_under version k jobs) ≡ 1) (sym jobs_are) (worth_one k version)
        ∙ sym first;
    once = subst (λ jobs. count_by (λ x. is_complete x.move) (run (jobs_under version k jobs)) ≡ 1) (sym jobs_are)
        (once_one k version);
    last = λ at n x member moves t mt same. ap (λ w. Some (tight_job 0 w 1)) first ∙ ap Some (sym (is_twin t.job
        (subst (IsMember t.job) ((each_keeps x member).1.jobs ∙ jobs_are)
        (map_member (λ (y : Task). y.job) x.before.tasks t mt))));
  }
