-- What was counted of a run is what its summary says.
use Rattle.std.proofs.Common.{◌≡◌, ◌+◌, ◌*◌, ◌≤◌, ℕ, List, [], ◌∷◌, ◌++◌, length, sym, refl, ap, ◌∙◌}
use Rattle.std.proofs.Common.{subst, Option, arith, append_assoc, length-append, take_all}
use Rattle.std.proofs.Math.Seq.{get_or-append_seam, take-append_seam}
use Rattle.dover_model.specs.declared.events.Event.{Event}
use Rattle.dover_model.specs.Common.{in_lines}
use Rattle.dover_port.specs.Moves.{Move, Since}
use Rattle.dover_port.specs.declared.status.Status.{Status}
use Rattle.run_record.specs.declared.intervals.totals.JobTotals.{JobTotals}
use Rattle.run_record.specs.intervals.Totals.{totals_of, with_step, HasSpace}
use Rattle.run_record.proofs.intervals.Counted.{AreTotals, totals_fit, totals_on}
use Rattle.trial_words.specs.Record.{Writes}
use Rattle.trial_words.specs.Tallied.{HasCounted}
use Rattle.trial_words.specs.declared.tally.RunTally.{RunTally}

-- ---- one step more

module _ (events : List Event) (e : Event) where
  -- they are one more
  longer : length (events ++ e ∷ []) ≡ length events + 1
  longer = length-append events (e ∷ [])

  -- what was counted so far
  so_far : (t : RunTally) → HasCounted t events → AreTotals t.totals (events ++ e ∷ []) (length events)
  so_far t counted = record {
    is = counted.totals ∙ ap totals_of (sym (take-append_seam events (e ∷ [])));
    small = counted.modest;
  }

  pub has_space : length events ≤ 20_000_000_000 → (t : RunTally) → HasCounted t events → HasSpace t.totals
  has_space few t counted = totals_fit (events ++ e ∷ []) (length events) t.totals (so_far t counted)
      (omega (arith, longer)) (omega (arith, longer, few))

  pub totals_with : (t : RunTally) → HasCounted t events → (next : JobTotals) → next ≡ with_step t.totals e
      → next.worth ≤ t.totals.worth + 1_000_000_000
      → (next ≡ totals_of (events ++ e ∷ [])) × (next.worth ≤ 1_000_000_000 * length (events ++ e ∷ []))
  totals_with t counted next is modest =
      let on = totals_on (events ++ e ∷ []) (length events) e t.totals next
      (sym (get_or-append_seam events e [] e)) (omega (arith, longer)) (so_far t counted) is modest in (
        on.is ∙ ap totals_of (take_all (length events + 1) (events ++ e ∷ []) (omega (arith, longer))),
        omega (arith, on.small, longer),
      )

-- ---- texts

-- lines with a line feed behind each
abbrev pub fed : List (List ℕ) → List ℕ
fed [] = []
fed (l ∷ ls) = l ++ (10 ∷ fed ls)

-- they are a text of lines
pub fed_lines : (ls : List (List ℕ)) → fed ls ≡ in_lines ls
fed_lines [] = refl
fed_lines (l ∷ ls) = ap (λ t. l ++ (10 ∷ t)) (fed_lines ls) ∙ sym (append_assoc l (10 ∷ []) (in_lines ls))

-- what was put is the same text
pub of_text : (old new : Option (List Move)) (status : Status) (t u : List ℕ) → t ≡ u → Since old new (Writes status t)
    → Since old new (Writes status u)
of_text old new status t u same it = subst (λ text. Since old new (Writes status text)) same it
