-- What is kept of a run that is served again, and of its jobs as it observed them.
use Rattle.std.specs.Prelude.{◌≡◌, ℕ, List, map, Bool, false, if◌then◌else◌, get_or}
use Rattle.std.specs.List.{enumerate_from}
use Rattle.dover_model.specs.declared.events.Event.{Event}
use Rattle.dover_model.specs.Common.{Instance, jobs_under, JobFacts, is_job}
use Rattle.event_feed.specs.declared.listed.Listed.{Listed}
use Rattle.question_words.specs.declared.replaying.Recorded.{Recorded}

-- the listed jobs, where none finishes early
abbrev pub bare_instance : Listed → Instance
bare_instance listed = jobs_under listed.version listed.ratio listed.jobs.items

-- these steps were kept, if none was lost
abbrev pub HasRecorded : Recorded → List Event → Type 0
HasRecorded it events = it.lost ≡ false → it.events.items ≡ events

-- the job with so much work, if that is a job
abbrev pub with_work : ℕ → JobFacts → JobFacts
with_work work j =
    let k : JobFacts = record { release = j.release; work = work; deadline = j.deadline; value = j.value } in
    if is_job k then k else j

-- the job of a number, with what it had if it is done
abbrev pub job_seen : List Bool → List ℕ → ℕ × JobFacts → JobFacts
job_seen done served (n, j) = if get_or done n false then with_work (get_or served n 0) j else j

-- the jobs so
abbrev pub jobs_seen : List Bool → List ℕ → List JobFacts → List JobFacts
jobs_seen done served jobs = map (job_seen done served) (enumerate_from 0 jobs)
