-- The session of jobs alone is valid where the jobs are.
use Rattle.std.proofs.Common.{◌≡◌, ℕ, ◌≤◌, max, List, [], ◌∷◌, ◌++◌, length, map, refl, sym, ap, ◌∙◌, subst, arith}
use Rattle.std.proofs.Common.{append_assoc}
use Rattle.std.specs.List.{AllByRecursion}
use Rattle.dover_model.specs.Common.{most_ready, JobFacts, Declaration, under, declared_by, Instance, IsValid, Item}
use Rattle.dover_model.specs.Common.{JobItem, instance_of, admitted_jobs, early_finishes, IsValidSession, IsNeverFull}
use Rattle.dover_model.specs.Common.{session_with, IsDeclarable, session_of}
use Rattle.dover_model.proofs.valid.Valid.{all_from}
use Rattle.dover_model.proofs.sessions.NeverFull.{few_never}
use Rattle.dover_model.proofs.valid.Limiting.{items_enough}
use Rattle.dover_model.proofs.sessions.SessionParts.{FollowsItems, session_from}
use Rattle.dover_model.proofs.valid.ValidParts.{ReleasesInOrder, valid_parts}

-- jobs as items are those jobs
pub jobs_back : (jobs : List JobFacts) → admitted_jobs (map JobItem jobs) ≡ jobs
jobs_back [] = refl
jobs_back (j ∷ jobs) = ap (λ js. j ∷ js) (jobs_back jobs)

-- as many items as jobs
items_as_jobs : (jobs : List JobFacts) → length (map JobItem jobs) ≡ length jobs
items_as_jobs [] = refl
items_as_jobs (j ∷ jobs) = let rest : length (map JobItem jobs) ≡ length jobs = items_as_jobs jobs in omega arith

-- and no finishes
none_finish : (jobs : List JobFacts) → early_finishes (map JobItem jobs) ≡ []
none_finish [] = refl
none_finish (j ∷ jobs) = none_finish jobs

-- jobs in order may follow each other, where none finds it full
jobs_follow : (rules : Declaration) (jobs : List JobFacts) (before : List Item) (mark : ℕ) → ReleasesInOrder jobs
    → AllByRecursion (λ j. mark ≤ j.release) jobs → IsNeverFull (session_with rules (before ++ map JobItem jobs))
    → FollowsItems rules before mark (map JobItem jobs)
jobs_follow rules [] before mark order later never = tt
jobs_follow rules (j ∷ jobs) before mark order later never = (
  record { no_fall = later.0; room = never before j (map JobItem jobs) refl },
  jobs_follow rules jobs (before ++ JobItem j ∷ []) (max mark j.release) order.1
      (all_from (λ i. j.release ≤ i.release) (λ i. max mark j.release ≤ i.release) jobs
      (λ i above. let first : mark ≤ j.release = later.0 in omega arith) order.0)
      (subst (λ items. IsNeverFull (session_with rules items))
      (sym (append_assoc before (JobItem j ∷ []) (map JobItem jobs))) never),
)

-- each release is at 0 or later
pub from_zero : (jobs : List JobFacts) → AllByRecursion (λ j. 0 ≤ j.release) jobs
from_zero [] = tt
from_zero (j ∷ jobs) = (omega arith, from_zero jobs)

-- the instance of that session is the one of the jobs, where none finishes early
pub instance_back : (J : Instance) → J.rules.finishes ≡ [] → instance_of (session_of J) ≡ J
instance_back J plain =
    ap (λ jobs. record { rules = under (declared_by J.rules) (early_finishes (map JobItem J.jobs)); jobs = jobs })
    (jobs_back J.jobs)
    ∙ ap (λ fs. record { rules = under (declared_by J.rules) fs; jobs = J.jobs }) (none_finish J.jobs ∙ sym plain)

-- the session of valid jobs is valid, where its rules may be declared and none finds it full
pub session_of_valid : (J : Instance) → J.rules.finishes ≡ [] → IsValid J → IsDeclarable (declared_by J.rules)
    → IsNeverFull (session_of J) → IsValidSession (session_of J)
session_of_valid J plain valid declared never = session_from (record {
  declared = declared;
  jobs = subst IsValid (sym (instance_back J plain)) valid;
  count = omega (arith, items_as_jobs J.jobs, (valid_parts valid).count, items_enough J.rules.version);
  items = jobs_follow (declared_by J.rules) J.jobs [] 0 (valid_parts valid).in_order (from_zero J.jobs) never;
})

-- none finds it full where they are no more than may be ready at once
pub jobs_never : (J : Instance) → length J.jobs ≤ most_ready → IsNeverFull (session_of J)
jobs_never J few = few_never (session_of J) (omega (arith, few, ap length (jobs_back J.jobs)))
