-- What the word `best` says is what was found.
use Rattle.std.proofs.Common.{◌≡◌, ◌≤◌, ℕ, List, length, sym, ap, ◌∙◌, subst, codes}
use Rattle.clairvoyant.specs.best.BestSet.{IsBestSet, value_of, pieces_of}
use Rattle.dover_model.specs.Common.{bound, Rules, Instance, IsValid, JobFacts, observed, spread, completed_value, ran}
use Rattle.dover_model.specs.Common.{worth}
use Rattle.dover_model.specs.declared.pieces.Piece.{Piece}
use Rattle.dover_model.proofs.runs.Honest.{observed_honest}
use Rattle.dover_port.specs.declared.status.Status.TheVariants.{Done}
use Rattle.question_words.specs.Best.{IsFew, SaysBest, IsOptimum}
use Rattle.question_words.specs.Texts.{piece_lines}
use Rattle.question_words.proofs.Comparing.{worth_low}
use Rattle.question_words.proofs.Lines.{four, four_same}

-- these are the numbers of a best set of the jobs, its value, and the pieces of a schedule that no other is worth more
-- than
pub record Finds (jobs : List JobFacts) (chosen : List ℕ) (optimum : ℕ) (pieces : List Piece) : Type 0 where
  pub best : IsBestSet jobs chosen
  pub value : optimum ≡ value_of jobs chosen
  pub are : pieces ≡ pieces_of jobs chosen
  pub earned : (rules : Rules) → worth (record { rules = rules; jobs = jobs }) (spread pieces) ≡ optimum
  pub most : (rules : Rules) (s : List ℕ) → worth (record { rules = rules; jobs = jobs }) s ≤ optimum

module _ (J : Instance) (valid : IsValid J) where
  module _ (chosen : List ℕ) (optimum : ℕ) (pieces : List Piece)
      (it : Finds (observed J).jobs chosen optimum pieces) where
    -- the schedule of the pieces is worth what the set is
    worth_is : worth (observed J) (spread (pieces_of (observed J).jobs chosen)) ≡ value_of (observed J).jobs chosen
    worth_is = ap (λ ps. worth (observed J) (spread ps)) (sym it.are) ∙ it.earned J.rules ∙ it.value

    -- no schedule is worth more
    most_is : (s : List ℕ) → worth (observed J) s ≤ value_of (observed J).jobs chosen
    most_is s = subst (λ v. worth (observed J) s ≤ v) it.value (it.most J.rules s)

    -- the set is the best, between what the run completes and the bound
    optimum_is : IsOptimum J chosen
    optimum_is = record {
      best = it.best;
      earned = worth_is;
      most = most_is;
      above = subst (λ v. v ≤ value_of (observed J).jobs chosen) (observed_honest J valid) (most_is (ran J));
      within = subst (λ v. v ≤ bound J.rules.ratio (completed_value J)) worth_is
          (worth_low J valid (spread (pieces_of (observed J).jobs chosen)));
    }

  -- these numbers and pieces are what is said
  pub found : (jobs : List JobFacts) → jobs ≡ (observed J).jobs
      → (chosen : List ℕ) (count optimum value most : ℕ) (pieces : List Piece)
      → Finds jobs chosen optimum pieces → count ≡ length J.jobs → value ≡ completed_value J
      → most ≡ bound J.rules.ratio value → IsFew J → (text : List ℕ)
      → text ≡ four (codes "jobs") (codes "optimum") (codes "value") (codes "bound") count optimum value most
      (piece_lines pieces)
      → SaysBest J Done text
  found jobs same chosen count optimum value most pieces finds counted run is few text written =
      let it : Finds (observed J).jobs chosen optimum pieces =
      subst (λ js. Finds js chosen optimum pieces) same finds in (
        few,
        (
          chosen,
          optimum_is chosen optimum pieces it,
          written ∙ four_same (codes "jobs") (codes "optimum") (codes "value") (codes "bound") count optimum value most
              (length J.jobs) (value_of (observed J).jobs chosen) (completed_value J)
              (bound J.rules.ratio (completed_value J))
              (piece_lines pieces) counted it.value run (is ∙ ap (bound J.rules.ratio) run)
              ∙ ap (λ ps. four (codes "jobs") (codes "optimum") (codes "value") (codes "bound") (length J.jobs)
              (value_of (observed J).jobs chosen) (completed_value J) (bound J.rules.ratio (completed_value J))
              (piece_lines ps))
              it.are,
        ),
      )
