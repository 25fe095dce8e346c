-- Paying forward: a job that starts or takes loads itself in its first tick, and in its last tick before it is done it
-- loads the job that gets the processor back behind it.
use Rattle.std.specs.Prelude.{◌≡◌, ℕ, ◌+◌, List, [], ◌∷◌, Bool, true, false, not, ◌==◌, ◌&&◌, if◌then◌else◌, Option}
use Rattle.std.specs.Prelude.{Some}
use Rattle.dover_model.specs.declared.events.Event.{Event}
use Rattle.dover_model.specs.declared.events.Event.TheVariants.{Run}
use Rattle.dover_model.specs.Step.{Prints, Waits, Ticks}
use Rattle.dover_model.specs.Run.{Step, number_running}
use Rattle.dover_model.specs.Processor.{is_complete}
use Rattle.dover_model.specs.Books.{is_busy_tick}
use Rattle.dover_model.specs.Processor.{gets, changes_hands}
use Rattle.task_laws.specs.Switches.{is_complete_of, returns}

-- ---- what one job gets done

-- a silent tick that the job of this number has
abbrev pub is_tick_of : ℕ → Step → Bool
is_tick_of n x = elim x.move [ Prints e ↦ false | Waits m ↦ false | Ticks ↦ number_running x.before == n ]

-- the first of these steps completes the job of this number
abbrev pub completes_next : ℕ → List Step → Bool
completes_next n [] = false
completes_next n (x ∷ xs) = is_complete_of n x.move

-- whether the job's next tick is to load it, behind this step: it started or took, and had no tick since
abbrev pub is_to_load : ℕ → Bool → Step → Bool
is_to_load n loads x =
    if gets n x.move then not (returns x) else (if is_tick_of n x then false else loads)

-- how many of these ticks the job of this number gets on in: neither loads it, nor is it the last before it is done
abbrev pub gains_from : ℕ → Bool → List Step → ℕ
gains_from n loads [] = 0
gains_from n loads (x ∷ xs) =
    (if is_tick_of n x && (not loads && not (completes_next n xs)) then 1 else 0)
    + gains_from n (is_to_load n loads x) xs

-- ---- which job the processor holds

-- whether the running job's next tick is to load it
abbrev pub must_load : Bool → Step → Bool
must_load loads x = if changes_hands x.move then not (returns x) else (if is_busy_tick x then false else loads)

-- the job that gets the free processor
abbrev pub held_by_run : Bool → Option ℕ → Event → Option ℕ
held_by_run handed holds (Run at n) = if handed then Some n else holds
held_by_run handed holds _ = holds

-- The job whose state the processor holds behind this step: the one that had the tick; or the one that gets the
-- processor back right behind a completion, which the job that is done has loaded. `behind` tells whether the step
-- before was a completion.
abbrev pub holds_then : Bool → Option ℕ → Step → Option ℕ
holds_then behind holds x = elim x.move [
  | Prints e ↦ held_by_run (returns x && behind) holds e
  | Waits m ↦ holds
  | Ticks ↦ if is_busy_tick x then Some (number_running x.before) else holds
]

-- in each of these ticks in which a job gets on, and doesn't load itself, the processor holds it
abbrev pub AreLoaded : (behind loads : Bool) → Option ℕ → List Step → Type 0
AreLoaded behind loads holds [] = Unit {0}
AreLoaded behind loads holds (x ∷ xs) =
    (is_busy_tick x ≡ true → loads ≡ false → holds ≡ Some (number_running x.before))
    × AreLoaded (is_complete x.move) (must_load loads x) (holds_then behind holds x) xs
