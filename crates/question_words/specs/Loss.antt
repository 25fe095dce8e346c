-- What the word `loss` says of the jobs of a feed.
use Rattle.std.specs.Prelude.{◌≡◌, ◌≤◌, ℕ, List, [], ◌∷◌, length, map, codes, Bool, false, ◌==◌}
use Rattle.std.specs.List.{list_any}
use Rattle.dover_model.specs.Common.{bound, Instance, IsListable, total_value, JobFacts, with_numbers, in_lines}
use Rattle.dover_model.specs.Common.{observed, completed_value, printed, Each}
use Rattle.dover_model.specs.declared.events.Event.{Event}
use Rattle.dover_model.specs.declared.events.Event.TheVariants.{Complete}
use Rattle.dover_port.specs.declared.status.Status.{Status}
use Rattle.dover_port.specs.declared.status.Status.TheVariants.{Done, Refused}
use Rattle.clairvoyant.specs.overload.Stretches.{IsCosted, IsReached, value_inside}
use Rattle.clairvoyant.specs.declared.overload.stretch.Costed.{Costed}
use Rattle.clairvoyant.specs.declared.overload.stretch.Stretch.{Stretch}
use Rattle.dialogue.specs.Sizes.{size_text}
use Rattle.question_words.specs.Texts.{stretch_lines}
use Rattle.question_words.specs.declared.answer.StretchRow.{StretchRow}

-- the step completes the job of the number
abbrev pub completes : ℕ → Event → Bool
completes n (Complete at m) = m == n
completes n _ = false

-- the run of these jobs completes that of the number
abbrev pub is_completed : Instance → ℕ → Bool
is_completed J n = list_any (completes n) (printed J)

-- the stretch, with the value of the jobs inside that are done, by whether the job of each number is
abbrev pub row_of : List JobFacts → (ℕ → Bool) → Stretch → StretchRow
row_of jobs done x = record {
  from = x.from;
  until = x.until;
  total = x.total;
  cap = x.cap;
  value = value_inside jobs done x.from x.until;
}

-- what all jobs are worth, what the run completes, what no schedule is worth more than, and the bound; and each
-- stretch of the jobs as the run observed them, with what it completes of those inside
abbrev pub loss_text : Instance → Costed → List ℕ
loss_text J costed = in_lines (
    with_numbers (codes "total") (total_value J.jobs ∷ [])
    ∷ with_numbers (codes "value") (completed_value J ∷ [])
    ∷ with_numbers (codes "ceiling") (costed.cap ∷ [])
    ∷ with_numbers (codes "bound") (bound J.rules.ratio (completed_value J) ∷ [])
    ∷ stretch_lines (map (row_of (observed J).jobs (is_completed J)) costed.stretches.items))

-- No schedule is worth more than the ceiling, which is the value of the jobs outside of the stretches, and their caps;
-- all of the jobs as the run observed them. The run completes no more, nor more of a stretch than its cap. Where there
-- is no stretch the ceiling is all; and so is what the run completes, where no job finishes early. Where there are no
-- more than 327,680 jobs, the cap of a stretch with few jobs inside is what some schedule of them is worth.
pub record IsCeiling (J : Instance) (it : Costed) : Type 0 where
  pub costed : IsCosted (observed J).jobs it
  pub above : completed_value J ≤ it.cap
  pub each : Each (λ x. value_inside (observed J).jobs (is_completed J) x.from x.until ≤ x.cap) it.stretches.items
  pub all : it.stretches.items ≡ [] → it.cap ≡ total_value J.jobs
  pub reached : length J.jobs ≤ 327_680 → Each (IsReached (observed J).jobs) it.stretches.items
  pub none_lost : J.rules.finishes ≡ [] → it.stretches.items ≡ [] → completed_value J ≡ total_value J.jobs

-- Done with some stretches that show a ceiling, and Refused exactly where the jobs are more, or worth more or due
-- later, than those of version Two may be
abbrev pub SaysLoss : Instance → Status → List ℕ → Type 0
SaysLoss J Done text = IsListable J × ((costed : Costed) × IsCeiling J costed × (text ≡ loss_text J costed))
SaysLoss J Refused text = (IsListable J → ⊥) × (text ≡ size_text)
SaysLoss J _ text = ⊥
