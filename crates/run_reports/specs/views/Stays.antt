-- The stays of a job on the processor.
use Rattle.std.specs.Prelude.{ℕ, List, [], ◌∷◌, Bool, true, false, ◌==◌, if◌then◌else◌}
use Rattle.dover_model.specs.declared.events.Event.{Event}
use Rattle.dover_model.specs.declared.events.Event.TheVariants.{Release, Run, Preempt, Take, Complete, Abandon, End}
use Rattle.dover_model.specs.declared.events.Version.TheVariants.{Two}
use Rattle.dover_model.specs.Limits.{last_tick_in}
use Rattle.run_reports.specs.declared.views.stays.Stay.{Stay}

-- the tick of the first of these steps that gives the processor to a job, or frees it, and where none does the last
-- tick of version Two
abbrev pub next_switch : List Event → ℕ
next_switch [] = last_tick_in Two
next_switch (Release n job ∷ steps) = next_switch steps
next_switch (Run at n ∷ steps) = at
next_switch (Preempt at stops starts ∷ steps) = at
next_switch (Take at stops starts ∷ steps) = at
next_switch (Complete at n ∷ steps) = at
next_switch (Abandon at n ∷ steps) = next_switch steps
next_switch (End value ∷ steps) = next_switch steps

-- these stays, behind one from this tick to the next of these steps that ends it, if it is the job's own
abbrev pub with_stay : (mine : Bool) (at : ℕ) (took : Bool) → List Event → List Stay → List Stay
with_stay mine at took steps stays = if mine then record { from = at; until = next_switch steps; took = took } ∷ stays
    else stays

-- the stays of job n in these steps, in the order of time
abbrev pub stays_of : ℕ → List Event → List Stay
stays_of n [] = []
stays_of n (Release m job ∷ steps) = stays_of n steps
stays_of n (Run at m ∷ steps) = with_stay (m == n) at false steps (stays_of n steps)
stays_of n (Preempt at stops starts ∷ steps) = with_stay (starts == n) at false steps (stays_of n steps)
stays_of n (Take at stops starts ∷ steps) = with_stay (starts == n) at true steps (stays_of n steps)
stays_of n (Complete at m ∷ steps) = stays_of n steps
stays_of n (Abandon at m ∷ steps) = stays_of n steps
stays_of n (End value ∷ steps) = stays_of n steps
