-- What the word `loss` says is what was found.
use Rattle.std.proofs.Common.{◌≡◌, ◌≤◌, ◌<◌, ◌+◌, ℕ, List, length, map, ap, ◌∙◌, sym, subst, codes, Bool, true, false}
use Rattle.std.proofs.Common.{refl, cond, arith, ◌&&◌, sum_by}
use Rattle.dover_model.specs.Common.{bound, Instance, IsListable, IsValid, total_value, JobFacts, observed}
use Rattle.dover_model.specs.Common.{completed_value, ran, Job, Meets, is_served, numbered, is_inside}
use Rattle.dover_model.proofs.runs.Honest.{observed_honest, observed_all}
use Rattle.dover_model.proofs.lists.Members.{map_same, sum_le, sum_filter}
use Rattle.dover_model.proofs.rest.Parting.{worth_to}
use Rattle.dover_model.proofs.runs.Runs.{all_value}
use Rattle.dover_port.specs.declared.status.Status.TheVariants.{Done}
use Rattle.clairvoyant.specs.overload.Stretches.{IsCosted, IsCapped, value_inside, value_outside}
use Rattle.clairvoyant.specs.declared.overload.stretch.Costed.{Costed}
use Rattle.clairvoyant.specs.declared.overload.stretch.Stretch.{Stretch}
use Rattle.clairvoyant.proofs.overload.Inside.{value_same}
use Rattle.clairvoyant.proofs.overload.Sets.{few_reached}
use Rattle.clairvoyant.proofs.overload.Stretching.{earned_inside}
use Rattle.question_words.specs.Loss.{SaysLoss, is_completed, row_of}
use Rattle.question_words.specs.Texts.{stretch_lines}
use Rattle.question_words.specs.declared.answer.StretchRow.{StretchRow}
use Rattle.question_words.proofs.Lines.{four, four_same}
use Rattle.question_words.proofs.Observations.{completed_served, observed_count, observed_jobs, observed_total}

-- rows of the same jobs done are the same
rows_same : (jobs : List JobFacts) (f g : ℕ → Bool) → ((n : ℕ) → n < length jobs → f n ≡ g n) → (xs : List Stretch)
    → map (row_of jobs f) xs ≡ map (row_of jobs g) xs
rows_same jobs f g same xs = map_same (row_of jobs f) (row_of jobs g) xs
    (λ x member. ap (with_value x) (value_same jobs f g x.from x.until same)) where
      with_value : Stretch → ℕ → StretchRow
      with_value x v = record { from = x.from; until = x.until; total = x.total; cap = x.cap; value = v }

-- what a run completes inside a stretch is at most its cap
value_below : (J : Instance) → IsValid J → (x : Stretch) → IsCapped (observed J).jobs x
    → value_inside (observed J).jobs (is_completed J) x.from x.until ≤ x.cap
value_below J valid x capped =
    let inside : Job → Bool = λ n_j. is_inside x.from x.until n_j.1 in
    let done : Job → ℕ = λ n_j. cond (inside n_j && is_completed J n_j.0) n_j.1.value 0 in
    let less : sum_by done (numbered (observed J))
    ≤ sum_by (λ n_j. cond (inside n_j) (worth_to (ran J) n_j) 0) (numbered (observed J)) =
    sum_le done (λ n_j. cond (inside n_j) (worth_to (ran J) n_j) 0) (numbered (observed J))
    (λ n_j member. by_tests n_j (inside n_j) (is_completed J n_j.0) (completed_served J valid n_j member)) in
    omega (
      arith,
      less,
      sum_filter inside (worth_to (ran J)) (numbered (observed J)),
      earned_inside (observed J).jobs J.rules (ran J) x.from x.until x.cap capped,
    ) where
      by_tests : (n_j : Job) (b c : Bool) → (c ≡ true → is_served (ran J) n_j ≡ true)
          → cond (b && c) n_j.1.value 0 ≤ cond b (worth_to (ran J) n_j) 0
      by_tests n_j false c served = omega arith
      by_tests n_j true false served = omega arith
      by_tests n_j true true served = subst (λ d. n_j.1.value ≤ cond d n_j.1.value 0) (sym (served refl)) (omega arith)

module _ (J : Instance) (valid : IsValid J) (costed : Costed) where
  -- the rows of what was found, as they are said
  pub rows_said : (jobs : List JobFacts) → jobs ≡ (observed J).jobs → (xs : List Stretch) → xs ≡ costed.stretches.items
      → (done : ℕ → Bool) → ((n : ℕ) → n < length J.jobs → done n ≡ is_completed J n)
      → (rows : List StretchRow) → rows ≡ map (row_of jobs done) xs
      → rows ≡ map (row_of (observed J).jobs (is_completed J)) costed.stretches.items
  rows_said jobs same xs are done flags rows is = is ∙ ap (λ js. map (row_of js done) xs) same
      ∙ rows_same (observed J).jobs done (is_completed J)
      (λ n low. flags n (omega (arith, low, observed_count J valid))) xs
      ∙ ap (map (row_of (observed J).jobs (is_completed J))) are

  -- these numbers and rows are what is said
  pub lost : IsListable J → (jobs : List JobFacts) → jobs ≡ (observed J).jobs → IsCosted jobs costed → (value most : ℕ)
      → value ≡ completed_value J → most ≡ bound J.rules.ratio value → (rows : List StretchRow)
      → rows ≡ map (row_of (observed J).jobs (is_completed J)) costed.stretches.items → (text : List ℕ)
      → text ≡ four (codes "total") (codes "value") (codes "ceiling") (codes "bound") costed.total value costed.cap most
      (stretch_lines rows)
      → SaysLoss J Done text
  lost listable jobs same found value most run is rows are text written =
      let it : IsCosted (observed J).jobs costed = subst (λ js. IsCosted js costed) same found in (
        listable,
        (
          costed,
          record {
            costed = it;
            above = subst (λ v. v ≤ costed.cap) (observed_honest J valid) (it.most J.rules (ran J));
            each = λ x member. value_below J valid x ((it.each x member).cap);
            all = λ none. it.sum
                ∙ ap (λ xs. value_outside (observed J).jobs xs + sum_by (λ (x : Stretch). x.cap) xs) none
                ∙ (let e : total_value (observed J).jobs + 0 ≡ total_value (observed J).jobs = omega arith in e)
                ∙ observed_total J valid;
            reached = λ few. few_reached (observed J).jobs costed (observed_jobs J valid) it
                (omega (arith, few, observed_count J valid));
            none_lost = λ plain none. all_value J valid
                (subst Meets (observed_all J valid plain) (it.none.0 none J.rules));
          },
          written ∙ ap (λ rs. four (codes "total") (codes "value") (codes "ceiling") (codes "bound") costed.total value
              costed.cap most (stretch_lines rs)) are
              ∙ four_same (codes "total") (codes "value") (codes "ceiling")
              (codes "bound") costed.total value costed.cap most
              (total_value J.jobs) (completed_value J) costed.cap (bound J.rules.ratio (completed_value J))
              (stretch_lines (map (row_of (observed J).jobs (is_completed J)) costed.stretches.items))
              (it.total ∙ observed_total J valid) run refl
              (is ∙ ap (bound J.rules.ratio) run),
        ),
      )
