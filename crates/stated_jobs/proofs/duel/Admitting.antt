-- The jobs of a duel are admitted one by one, where they are valid.
use Rattle.std.proofs.Common.{◌≡◌, ℕ, ◌≤◌, List, [], ◌∷◌, ◌++◌, sym, ap, ◌∙◌, subst, append_assoc, None}
use Rattle.std.specs.List.{AllByRecursion}
use Rattle.dover_model.specs.declared.events.Version.TheVariants.{One}
use Rattle.dover_model.specs.Common.{Fraction, JobFacts, IsJob, Declaration, jobs_under, refusal_of}
use Rattle.dover_model.proofs.valid.Admitting.{admits, valid_admitted}
use Rattle.dover_model.proofs.valid.Valid.{all_back, valid_front}
use Rattle.admission.specs.Kept.{Kept, StandsFor}
use Rattle.stated_jobs.specs.duel.Game.{AreValid}
use Rattle.stated_jobs.specs.duel.Jobs.{jobs_of_links}
use Rattle.stated_jobs.proofs.duel.Plain.{order}
use Rattle.stated_jobs.proofs.duel.Chain.{phases_of, last_of, as_phases}
use Rattle.dover_model.proofs.valid.ValidParts.{ReleasesInOrder, valid_parts}

-- the jobs of links are in order of release
pub links_order : (k : Fraction) (a b more : ℕ) (l : ℕ × ℕ) → k.q ≤ k.p → 1 ≤ l.1
    → ReleasesInOrder (jobs_of_links k a b more l)
links_order k a b more l ratio some = subst ReleasesInOrder (sym (as_phases k a b more l some))
    (order k ratio a b l.0 (phases_of k a b more l) (last_of k a b more l))

-- each job before one is released no later
before_it : (xs ys : List JobFacts) (j : JobFacts) → ReleasesInOrder (xs ++ j ∷ ys)
    → AllByRecursion (λ i. i.release ≤ j.release) xs
before_it [] ys j order = tt
before_it (x ∷ xs) ys j order = (
  (all_back (λ later. x.release ≤ later.release) xs (j ∷ ys) order.0).0,
  before_it xs ys j order.1,
)

-- the rules that are declared
abbrev declares : Fraction → Declaration
declares k = record { ratio = k; version = One }

-- these of the jobs were admitted, and those are left
pub record HasAdmitted (k : Fraction) (jobs : List JobFacts) (kept : Kept) (left : List JobFacts) : Type 0 where
  pub done : List JobFacts
  pub whole : jobs ≡ done ++ left
  pub stands : StandsFor kept done
  pub rules : kept.rules ≡ declares k
  pub valid : AreValid One k done

module _ (k : Fraction) (jobs : List JobFacts) (kept : Kept) (left : List JobFacts)
    (it : HasAdmitted k jobs kept left) where
  -- one is too large
  pub too_large : ((j : JobFacts) × (rest : List JobFacts) × (left ≡ j ∷ rest) × (IsJob j → ⊥))
      → AreValid One k jobs → ⊥
  too_large (j, rest, is, large) valid = large (all_back IsJob it.done (j ∷ rest)
      (subst (λ js. AllByRecursion IsJob js) (it.whole ∙ ap (λ js. it.done ++ js) is) (valid_parts valid).each)).0

  module _ (j : JobFacts) (rest : List JobFacts) (is : left ≡ j ∷ rest) where
    whole_now : jobs ≡ (it.done ++ j ∷ []) ++ rest
    whole_now = it.whole ∙ ap (λ js. it.done ++ js) is ∙ sym (append_assoc it.done (j ∷ []) rest)

    -- one isn't admitted
    pub one_refused : (refusal_of kept.rules it.done j ≡ None → ⊥) → AreValid One k jobs → ⊥
    one_refused refused valid = refused (subst (λ r. refusal_of r it.done j ≡ None) (sym it.rules)
        (valid_admitted (jobs_under One k it.done) j
        (valid_front (jobs_under One k (it.done ++ j ∷ [])) rest
        (subst (λ js. AreValid One k js) whole_now valid))))

    -- one more is
    pub one_admitted : (then : Kept) → ReleasesInOrder jobs → StandsFor then (it.done ++ j ∷ [])
        → refusal_of kept.rules it.done j ≡ None → then.rules ≡ kept.rules → HasAdmitted k jobs then rest
    one_admitted then order stands none same = record {
      done = it.done ++ j ∷ [];
      whole = whole_now;
      stands = stands;
      rules = same ∙ it.rules;
      valid = admits (declares k) it.done j it.valid
          (before_it it.done rest j (subst ReleasesInOrder (it.whole ∙ ap (λ js. it.done ++ js) is) order))
          (subst (λ r. refusal_of r it.done j ≡ None) it.rules none);
    }
