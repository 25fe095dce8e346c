-- What the word `compare` says is what was computed.
use Rattle.std.proofs.Common.{◌≡◌, ◌≤◌, ◌<◌, ◌^◌, ℕ, List, [], ◌∷◌, ◌++◌, sym, ap, ◌∙◌, codes, arith, append-nil, subst}
use Rattle.dover_model.specs.Common.{bound, Instance, IsListable, IsValid, JobFacts, most_total, observed}
use Rattle.dover_model.specs.Common.{completed_value, IsWithin, ran, worth}
use Rattle.dover_model.specs.declared.events.Version.TheVariants.{Two}
use Rattle.dover_model.proofs.bound.BoundLaws as laws
use Rattle.dover_model.proofs.bound.GreatestLaws.{bound-is}
use Rattle.dover_model.proofs.valid.Limiting.{total_most}
use Rattle.dover_port.specs.declared.status.Status.TheVariants.{Done}
use Rattle.policy_lab.specs.Counts.{served_count, stops}
use Rattle.policy_lab.specs.Picks.{Picks}
use Rattle.policy_lab.specs.PolicyRun.{policy_run}
use Rattle.policy_lab.specs.Standard.{earliest_deadline, greatest_density}
use Rattle.dover_model.specs.Common.{Rules, with_numbers, in_lines}
use Rattle.dover_model.proofs.lists.Beginnings.{in_lines-append}
use Rattle.question_words.specs.Compare.{SaysCompare, AreWithin, by_four, line_of}
use Rattle.question_words.specs.Texts.{policy_line, policy_lines}
use Rattle.question_words.specs.declared.answer.PolicyRow.{PolicyRow}
use Rattle.dover_model.proofs.valid.ValidParts.{valid_parts}
use Rattle.question_words.proofs.ByFour.{four_worth}
use Rattle.question_words.proofs.Lines.{front}

module _ (J : Instance) (valid : IsValid J) where
  -- the run completes no more than all values
  completed_low : IsListable J → completed_value J ≤ most_total Two
  completed_low listable = omega (arith, laws.intervals_abandon J valid, listable.total)

  -- nor does what was computed
  pub value_short : IsListable J → (value : ℕ) → value ≡ completed_value J → value < 10 ^ 18
  value_short listable value is = omega (arith, is, completed_low listable)

  -- what is within the guarantee is no more than the bound
  bounded : (c : ℕ) → IsWithin J.rules.ratio c (completed_value J) → c ≤ bound J.rules.ratio (completed_value J)
  bounded = (bound-is J.rules.ratio (completed_value J) (valid_parts valid).ratio
      (omega (arith, laws.intervals_abandon J valid, (valid_parts valid).total, total_most J.rules.version))).greatest

  -- no schedule of the jobs as the run observed them is worth more than the bound
  pub worth_low : (s : List ℕ) → worth (observed J) s ≤ bound J.rules.ratio (completed_value J)
  worth_low s = bounded (worth (observed J) s) (laws.observed_bound J s valid)

  -- nor is what version Four completes, and the two schedules
  within : IsListable J → AreWithin J
  within listable = record {
    four = subst (λ c. c ≤ bound J.rules.ratio (completed_value J)) (four_worth J valid listable)
        (bounded (worth J (ran (by_four J))) (laws.bound J (ran (by_four J)) valid));
    edf = worth_low (policy_run earliest_deadline (observed J).jobs);
    dense = worth_low (policy_run greatest_density (observed J).jobs);
  }

-- what a policy comes to is what its line tells
pub row_told : (picks : Picks) (rules : Rules) (word : List ℕ) (jobs others : List JobFacts) → jobs ≡ others
    → (value completed stopped : ℕ) → value ≡ worth (record { rules = rules; jobs = jobs }) (policy_run picks jobs)
    → completed ≡ served_count jobs (policy_run picks jobs) → stopped ≡ stops jobs (policy_run picks jobs)
    → with_numbers word (value ∷ completed ∷ stopped ∷ [])
    ≡ line_of word picks (record { rules = rules; jobs = others })
row_told picks rules word jobs others same value completed stopped v c s =
    ap (λ n. with_numbers word (n ∷ completed ∷ stopped ∷ [])) v
    ∙ ap (λ n. with_numbers word (worth (record { rules = rules; jobs = jobs })
    (policy_run picks jobs) ∷ n ∷ stopped ∷ [])) c
    ∙ ap (λ n. with_numbers word (worth (record { rules = rules; jobs = jobs }) (policy_run picks jobs)
    ∷ served_count jobs (policy_run picks jobs) ∷ n ∷ [])) s
    ∙ ap (λ js. line_of word picks (record { rules = rules; jobs = js })) same

module _ (J : Instance) (valid : IsValid J) where
  -- the first two lines, and what is behind them
  abbrev behind : (dover four : ℕ) → List ℕ → List ℕ
  behind dover four more = (with_numbers (codes "dover") (dover ∷ []) ++ 10 ∷ [])
      ++ ((with_numbers (codes "four") (four ∷ []) ++ 10 ∷ []) ++ more)

  -- the last line
  abbrev bound_line : List ℕ
  bound_line = with_numbers (codes "bound") (bound J.rules.ratio (completed_value J) ∷ [])

  -- these lines are what is said
  pub compared : (dover four : ℕ) (edf dense : PolicyRow) → dover ≡ completed_value J
      → four ≡ completed_value (by_four J)
      → policy_line edf ≡ line_of (codes "edf") earliest_deadline (observed J)
      → policy_line dense ≡ line_of (codes "dense") greatest_density (observed J)
      → IsListable J → (head other last none feed : List ℕ) → none ≡ 10 ∷ [] → feed ≡ 10 ∷ []
      → other ≡ with_numbers (10 ∷ codes "four") (four ∷ []) ++ none
      → head ≡ with_numbers (codes "dover") (dover ∷ []) ++ other
      → last ≡ with_numbers (codes "bound") (bound J.rules.ratio dover ∷ []) ++ feed
      → SaysCompare J Done (head ++ (in_lines (policy_lines (edf ∷ dense ∷ [])) ++ last))
  compared dover four edf dense run by first second listable head other last none feed none_is feed_is other_is head_is
      last_is = (
        listable,
        within J valid listable,
        ap (λ t. t ++ (in_lines (policy_lines (edf ∷ dense ∷ [])) ++ last))
            (head_is ∙ ap (λ t. with_numbers (codes "dover") (dover ∷ []) ++ t)
            (other_is ∙ ap (λ t. with_numbers (10 ∷ codes "four") (four ∷ []) ++ t) none_is))
            ∙ front (with_numbers (codes "dover") (dover ∷ [])) (with_numbers (codes "four") (four ∷ []) ++ 10 ∷ [])
            (in_lines (policy_lines (edf ∷ dense ∷ [])) ++ last)
            ∙ ap (λ n. behind n four (in_lines (policy_lines (edf ∷ dense ∷ [])) ++ last)) run
            ∙ ap (λ n. behind (completed_value J) n (in_lines (policy_lines (edf ∷ dense ∷ [])) ++ last)) by
            ∙ ap (behind (completed_value J) (completed_value (by_four J))) told,
      ) where
        told : in_lines (policy_lines (edf ∷ dense ∷ [])) ++ last
            ≡ in_lines (line_of (codes "edf") earliest_deadline (observed J)
            ∷ line_of (codes "dense") greatest_density (observed J) ∷ bound_line ∷ [])
        told = ap (λ t. in_lines (policy_lines (edf ∷ dense ∷ [])) ++ t)
            (last_is ∙ ap (λ t. with_numbers (codes "bound") (bound J.rules.ratio dover ∷ []) ++ t) feed_is
            ∙ ap (λ n. with_numbers (codes "bound") (bound J.rules.ratio n ∷ []) ++ 10 ∷ []) run
            ∙ sym (append-nil (bound_line ++ 10 ∷ [])))
            ∙ ap (λ l. in_lines (l ∷ policy_line dense ∷ []) ++ in_lines (bound_line ∷ [])) first
            ∙ ap (λ l. in_lines (line_of (codes "edf") earliest_deadline (observed J) ∷ l ∷ [])
            ++ in_lines (bound_line ∷ [])) second
            ∙ sym (in_lines-append (line_of (codes "edf") earliest_deadline (observed J)
            ∷ line_of (codes "dense") greatest_density (observed J) ∷ []) (bound_line ∷ []))
