-- What is kept of the stays of all jobs, while the steps of a run are read from the last one on.
use Rattle.std.specs.Prelude.{◌≡◌, ℕ, ◌+◌, ◌<◌, ◌≤◌, List, [], ◌∷◌, ◌++◌, length, replicate, set, get_or}
use Rattle.std.specs.Prelude.{Bool, true, false, nat_lt, if◌then◌else◌}
use Rattle.dover_model.specs.declared.events.Event.{Event}
use Rattle.dover_model.specs.declared.events.Event.TheVariants.{Release, Run, Preempt, Take, Complete, Abandon, End}
use Rattle.dover_model.specs.declared.events.Version.TheVariants.{Two}
use Rattle.dover_model.specs.Limits.{last_tick_in}
use Rattle.run_reports.specs.views.Stays.{next_switch, stays_of}
use Rattle.run_reports.specs.declared.views.stays.Stay.{Stay}
use Rattle.run_reports.specs.declared.views.stays.StayLink.{StayLink}

-- the stays of all jobs, where those of each job begin, and the tick of the next switch
pub record Book : Type 0 where
  pub links : List StayLink
  pub firsts : List ℕ
  pub switch : ℕ

-- of so many jobs, before the last step is read
abbrev pub blank : ℕ → Book
blank count = record { links = []; firsts = replicate count 0; switch = last_tick_in Two }

-- with one more stay in front of those of job n
abbrev pub linked : Book → (at n : ℕ) → Bool → Book
linked b at n took = record b {
  links = b.links
      ++ record { stay = record { from = at; until = b.switch; took = took }; next = get_or b.firsts n 0 } ∷ [];
  firsts = set b.firsts n (length b.links + 1);
}

-- job n gets the processor at this tick
abbrev pub begun : Book → (at n : ℕ) → Bool → Book
begun b at n took = record (if nat_lt n (length b.firsts) then linked b at n took else b) { switch = at }

-- after an earlier step is read
abbrev pub with_step : Book → Event → Book
with_step b (Release n job) = b
with_step b (Run at n) = begun b at n false
with_step b (Preempt at stops starts) = begun b at starts false
with_step b (Take at stops starts) = begun b at starts true
with_step b (Complete at n) = record b { switch = at }
with_step b (Abandon at n) = b
with_step b (End value) = b

-- at this place, which is counted from 1, stands this stay, and the place of the job's next one, which is lower
pub record IsLink (links : List StayLink) (place : ℕ) (stay : Stay) (next : ℕ) : Type 0 where
  pub index : ℕ
  pub at : place ≡ index + 1
  pub within : index < length links
  pub is : (d : StayLink) → get_or links index d ≡ record { stay = stay; next = next }
  pub below : next ≤ index

-- from the link at this place on these are the stays
abbrev pub Threads : List StayLink → ℕ → List Stay → Type 0
Threads links place [] = place ≡ 0
Threads links place (stay ∷ stays) = (next : ℕ) × IsLink links place stay next × Threads links next stays

-- these are the stays in these steps
pub record Keeps (b : Book) (steps : List Event) : Type 0 where
  pub switch : b.switch ≡ next_switch steps
  pub each : (n : ℕ) → n < length b.firsts → Threads b.links (get_or b.firsts n 0) (stays_of n steps)
