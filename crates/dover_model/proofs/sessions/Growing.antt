-- The lines of a session's trace so far: what a later tick, a job and a refused line add to them, and the items that
-- they name.
use Rattle.std.proofs.Common.{◌≡◌, ℕ, ◌+◌, ◌≤◌, List, [], ◌∷◌, ◌++◌, length, length-append, map, refl, sym, ap, ◌∙◌}
use Rattle.std.proofs.Common.{subst, arith, Bool, true, false, cond, Option, Some, None, option_map, fold, append-nil}
use Rattle.std.specs.Option.{option_or}
use Rattle.std.proofs.lemmas.List.Sums.{fold-append}
use Rattle.std.specs.List.{AllByRecursion}
use Rattle.std.proofs.lemmas.List.Elements.{filter_map-append}
use Rattle.dover_model.specs.Common.{Event, Release, Complete, JobFacts, IsRatio}
use Rattle.dover_model.specs.Common.{Declaration, under, Instance, IsValid, with_jobs, with_finishes, printed, settled}
use Rattle.dover_model.specs.Common.{finish_now, RunsAtMark, Task, Item, JobItem, RefusedItem, Session, instance_of}
use Rattle.dover_model.specs.Common.{admitted_jobs, Refused, early_at, finish_at, may_finish_early, with_named}
use Rattle.dover_model.specs.Common.{FinishItem, EarlyFinish, early_finishes, with_item, new_session, job_of_item}
use Rattle.dover_model.specs.Common.{finish_of_item, TraceLine, Printed, Refuses, Placed, put_in, places_of}
use Rattle.dover_model.specs.Common.{lines_among, Begins}
use Rattle.dover_model.proofs.valid.Valid.{all_from, all_back}
use Rattle.dover_model.proofs.lists.Beginnings.{begins_all, begins_length}
use Rattle.dover_model.proofs.settled.Prefixes.{settled_prefix, printed_prefix}
use Rattle.dover_model.proofs.settled.Releasing.{settled_then_released}
use Rattle.dover_model.proofs.runs.ReleaseCounts.{releases, settled_releases, run_releases}
use Rattle.dover_model.proofs.sessions.PutIn.{AllPlacedWithin, RefusesWithin, put_in-more_steps, put_in-more_refused}
use Rattle.dover_model.proofs.sessions.PutIn.{places_after-append}
use Rattle.dover_model.proofs.texts.TraceLines.{item_of_line}
use Rattle.dover_model.proofs.finishes.Meeting.{finishing_valid}
use Rattle.dover_model.proofs.finishes.Further.{completes_at_mark}
use Rattle.dover_model.proofs.finishes.Early.{finish_in, NameNone, settled_names_none, run_names_none}
use Rattle.dover_model.proofs.finishes.RightFinishes.{FinishSays, finish_says, finish_runs}
use Rattle.dover_model.proofs.lists.Tests.{none_is_some}
use Rattle.dover_model.proofs.valid.ValidParts.{valid_from}

-- ---- what is settled

-- the jobs under the rules
abbrev pub instance_with : Declaration → List JobFacts → Instance
instance_with rules jobs = record { rules = under rules []; jobs = jobs }

-- what is settled at a mark begins what is settled later
pub settled_later : (J : Instance) (mark mark2 : ℕ) → IsValid J → mark ≤ mark2
    → Begins (settled J mark) (settled J mark2)
settled_later J mark mark2 valid later =
    subst (λ jobs. Begins (settled J mark) (settled (record { rules = J.rules; jobs = jobs }) mark2))
    (append-nil J.jobs)
    (settled_prefix J [] mark (subst (λ jobs. IsValid (record { rules = J.rules; jobs = jobs })) (sym
    (append-nil J.jobs)) valid)
    (λ j m. absurd m) mark2 later)

-- and what the run prints
pub settled_of_run : (J : Instance) (mark : ℕ) → IsValid J → Begins (settled J mark) (printed J)
settled_of_run J mark valid =
    subst (λ jobs. Begins (settled J mark) (printed (record { rules = J.rules; jobs = jobs }))) (append-nil J.jobs)
    (printed_prefix J [] mark (subst (λ jobs. IsValid (record { rules = J.rules; jobs = jobs })) (sym
    (append-nil J.jobs)) valid)
    (λ j m. absurd m))

-- ---- further steps

-- the item that a line names behind a session
abbrev pub item_in : Session → TraceLine → Option Item
item_in S (Printed e) = option_or (item_of_line (Printed e)) (finish_in S e)
item_in S (Refuses r) = Some (RefusedItem r)

-- the session with what the line names
abbrev pub with_line_named : Session → TraceLine → Session
with_line_named S line = with_named S (item_in S line)

-- the lines name the items of this session
abbrev pub LinesName : List TraceLine → Session → Type 0
LinesName lines S = fold with_line_named (new_session S.rules) lines ≡ S

-- steps that release none, and of which none names a finish, name nothing
nothing_named : (S : Session) (more : List Event) → length (releases more) ≡ 0 → NameNone S more
    → fold with_line_named S (map Printed more) ≡ S
nothing_named S [] none quiet = refl
nothing_named S (Release n j ∷ more) none quiet = absurd (omega arith)
nothing_named S (Complete at n ∷ more) none quiet =
    ap (λ o. fold with_line_named (with_named S o) (map Printed more)) quiet.0 ∙ nothing_named S more none quiet.1
nothing_named S (_ ∷ more) none quiet = nothing_named S more none quiet.1

-- nor do they behind lines
pub none_named : (lines : List TraceLine) (S : Session) (more : List Event) → LinesName lines S
    → length (releases more) ≡ 0 → NameNone S more
    → LinesName (lines ++ map Printed more) S
none_named lines S more names none quiet = fold-append with_line_named (new_session S.rules) lines (map Printed more)
    ∙ ap (λ T. fold with_line_named T (map Printed more)) names ∙ nothing_named S more none quiet

-- what a last line names
pub one_named : (lines : List TraceLine) (S : Session) (line : TraceLine) (item : Item) → LinesName lines S
    → item_in S line ≡ Some item
    → LinesName (lines ++ line ∷ []) (with_item S item)
one_named lines S line item names is = fold-append with_line_named (new_session S.rules) lines (line ∷ [])
    ∙ ap (λ T. with_named T (item_in T line)) names ∙ ap (with_named S) is

module _ (S : Session) (steps later : List Event) (within : RefusesWithin S steps) (begins : Begins steps later) where
  -- refused lines within steps are within more
  pub within_more : RefusesWithin S later
  within_more = all_from (λ (p : Placed). p.place ≤ 0 + length steps) (λ p. p.place ≤ 0 + length later) (places_of S)
      (λ p low. omega (arith, begins_length steps later begins)) within

  -- further steps come at the end
  lines_more : lines_among S later ≡ lines_among S steps ++ map Printed begins.0
  lines_more = ap (lines_among S) begins.1 ∙ put_in-more_steps (places_of S) 0 steps begins.0 within

  -- so the lines begin those with further steps
  pub begins_more : Begins (lines_among S steps) (lines_among S later)
  begins_more = (map Printed begins.0, lines_more)

  -- and the same items are named, where as many jobs are released
  pub names_more : LinesName (lines_among S steps) S → length (releases later) ≡ length (releases steps)
      → NameNone S later
      → LinesName (lines_among S later) S
  names_more names same quiet = subst (λ lines. LinesName lines S) (sym lines_more)
      (none_named (lines_among S steps) S begins.0 names
      (let all : length (releases later) ≡ length (releases steps) + length (releases begins.0) =
      ap (λ es. length (releases es)) begins.1
      ∙ ap length (filter_map-append _ steps begins.0) ∙ length-append (releases steps) (releases begins.0) in
      omega arith)
      (all_back (λ e. finish_in S e ≡ None) steps begins.0 (subst (NameNone S) begins.1 quiet)))

-- ---- sessions

-- a session that is read up to a mark: its jobs are valid and known, its refused lines have their places, and the lines
-- name the items
pub record Reads (S : Session) (mark : ℕ) : Type 0 where
  pub valid : IsValid (instance_of S)
  pub known : AllByRecursion (λ j. j.release ≤ mark) (admitted_jobs S.items)
  pub within : RefusesWithin S (settled (instance_of S) mark)
  pub names : LinesName (lines_among S (settled (instance_of S) mark)) S

-- the lines of the session up to a mark
abbrev pub lines_at : Session → ℕ → List TraceLine
lines_at S mark = lines_among S (settled (instance_of S) mark)

-- the lines of the session's whole trace
abbrev pub all_lines : Session → List TraceLine
all_lines S = lines_among S (printed (instance_of S))

-- at a later tick
module _ (S : Session) (mark later : ℕ) (reads : Reads S mark) (ordered : mark ≤ later) where
  -- what is settled at the mark begins what is settled then
  settles : Begins (settled (instance_of S) mark) (settled (instance_of S) later)
  settles = settled_later (instance_of S) mark later reads.valid ordered

  -- the jobs are known then
  known_later : AllByRecursion (λ j. j.release ≤ later) (admitted_jobs S.items)
  known_later = all_from (λ j. j.release ≤ mark) (λ j. j.release ≤ later) (admitted_jobs S.items)
      (λ j low. omega arith) reads.known

  -- a session is read up to each later tick
  pub reads_later : Reads S later
  reads_later = record {
    valid = reads.valid;
    known = known_later;
    within = within_more S (settled (instance_of S) mark) (settled (instance_of S) later) reads.within settles;
    names = names_more S (settled (instance_of S) mark) (settled (instance_of S) later) reads.within settles reads.names
        (settled_releases (instance_of S) later reads.valid known_later
        ∙ sym (settled_releases (instance_of S) mark reads.valid reads.known))
        (settled_names_none S later reads.valid);
  }

  -- and its lines begin those that it has then
  pub lines_later : Begins (lines_at S mark) (lines_at S later)
  lines_later = begins_more S (settled (instance_of S) mark) (settled (instance_of S) later) reads.within settles

-- at the end
module _ (S : Session) (mark : ℕ) (reads : Reads S mark) where
  -- the lines up to a mark begin the trace
  pub lines_of_trace : Begins (lines_at S mark) (all_lines S)
  lines_of_trace = begins_more S (settled (instance_of S) mark) (printed (instance_of S)) reads.within
      (settled_of_run (instance_of S) mark reads.valid)

  -- the lines of the trace name the items
  pub trace_names : LinesName (all_lines S) S
  trace_names = names_more S (settled (instance_of S) mark) (printed (instance_of S)) reads.within
      (settled_of_run (instance_of S) mark reads.valid) reads.names
      (run_releases (instance_of S) reads.valid ∙ sym (settled_releases (instance_of S) mark reads.valid reads.known))
      (run_names_none S reads.valid)

-- ---- a job more

-- what holds of all, and of one behind
pub all_behind : {X : Type 0} (P : X → Type 0) (xs : List X) (y : X) → AllByRecursion P xs → P y
    → AllByRecursion P (xs ++ y ∷ [])
all_behind P [] y all last = (last, tt)
all_behind P (x ∷ xs) y all last = (all.0, all_behind P xs y all.1 last)

-- the instance of a session with a job more
pub job_instance : (S : Session) (j : JobFacts)
    → instance_of (with_item S (JobItem j)) ≡ with_jobs (instance_of S) (j ∷ [])
job_instance S j = ap (λ jobs. record {
  rules = under S.rules (early_finishes
      (S.items ++ JobItem j ∷ []));
  jobs = jobs;
})
    (filter_map-append job_of_item S.items (JobItem j ∷ []))
    ∙ ap (λ fs. record { rules = under S.rules fs; jobs = admitted_jobs S.items ++ j ∷ [] })
    (filter_map-append finish_of_item S.items (JobItem j ∷ []) ∙ append-nil (early_finishes S.items))

module _ (S : Session) (j : JobFacts) (reads : Reads S j.release)
    (valid_more : IsValid (with_jobs (instance_of S) (j ∷ []))) where
  -- the session with the job
  abbrev with_job : Session
  with_job = with_item S (JobItem j)

  -- what is settled without the job
  abbrev before : List Event
  before = settled (instance_of S) j.release

  -- what is settled with it
  abbrev behind : List Event
  behind = settled (instance_of with_job) j.release

  -- the job's release is settled right behind the steps before
  releases_next : Begins (before ++ Release (length (admitted_jobs S.items)) j ∷ []) behind
  releases_next = subst (λ J. Begins (before ++ Release (length (admitted_jobs S.items)) j ∷ []) (settled J j.release))
      (sym (job_instance S j))
      (settled_then_released (instance_of S) j valid_more reads.known)

  -- a job has no place
  job_places : places_of with_job ≡ places_of S
  job_places = places_after-append S.rules [] S.items (JobItem j ∷ []) ∙ append-nil (places_of S)

  -- the lines with the release
  lines_released : lines_among S (before ++ Release (length (admitted_jobs S.items)) j ∷ []) ≡ lines_at S j.release
      ++ Printed
      (Release (length (admitted_jobs S.items)) j) ∷ []
  lines_released = put_in-more_steps (places_of S) 0 before
      (Release (length (admitted_jobs S.items)) j ∷ []) reads.within

  -- refused lines stay within
  within_released : RefusesWithin S (before ++ Release (length (admitted_jobs S.items)) j ∷ [])
  within_released = within_more S before (before ++ Release (length (admitted_jobs S.items)) j ∷ []) reads.within
      (begins_all before (Release (length (admitted_jobs S.items)) j ∷ []))

  -- the lines, and the release, begin those with the job
  pub lines_job : Begins (lines_at S j.release ++ Printed (Release (length (admitted_jobs S.items)) j) ∷ [])
      (lines_at with_job j.release)
  lines_job = subst (λ lines. Begins lines (lines_at with_job j.release)) lines_released
      (subst (λ ps. Begins (lines_among S (before ++ Release (length (admitted_jobs S.items)) j ∷ []))
      (put_in ps 0 behind)) (sym job_places)
      (begins_more S (before ++ Release (length (admitted_jobs S.items)) j ∷ []) behind within_released releases_next))

  -- all jobs are known
  known_all : AllByRecursion (λ i. i.release ≤ j.release) (admitted_jobs with_job.items)
  known_all = subst (AllByRecursion (λ i. i.release ≤ j.release))
      (sym (filter_map-append job_of_item S.items (JobItem j ∷ [])))
      (all_behind (λ i. i.release ≤ j.release) (admitted_jobs S.items) j reads.known (omega arith))

  -- they are valid
  valid_all : IsValid (instance_of with_job)
  valid_all = subst IsValid (sym (job_instance S j)) valid_more

  -- nothing more is released
  rest_releases : length (releases releases_next.0) ≡ 0
  rest_releases =
      let all : length (releases behind) ≡ length (admitted_jobs with_job.items) =
      settled_releases (instance_of with_job) j.release valid_all known_all in
      let old : length (releases before) ≡ length (admitted_jobs S.items) =
      settled_releases (instance_of S) j.release reads.valid reads.known in
      let more : length (admitted_jobs with_job.items) ≡ length (admitted_jobs S.items) + 1 =
      ap length (filter_map-append job_of_item S.items (JobItem j ∷ []))
      ∙ length-append (admitted_jobs S.items) (j ∷ []) in
      let parts : length (releases behind) ≡ length
      (releases (before ++ Release (length (admitted_jobs S.items)) j ∷ [])) + length
      (releases releases_next.0) =
      ap (λ es. length (releases es)) releases_next.1
      ∙ ap length (filter_map-append _ (before ++ Release (length (admitted_jobs S.items)) j ∷ []) releases_next.0)
      ∙ length-append (releases (before ++ Release (length (admitted_jobs S.items)) j ∷ []))
      (releases releases_next.0) in
      let front : length (releases (before ++ Release (length (admitted_jobs S.items)) j ∷ [])) ≡ length
      (releases before) + 1 =
      ap length (filter_map-append _ before (Release (length (admitted_jobs S.items)) j ∷ []))
      ∙ length-append (releases before) (j ∷ []) in
      omega arith

  -- the rest names no finish
  rest_quiet : NameNone with_job releases_next.0
  rest_quiet = all_back (λ e. finish_in with_job e ≡ None)
      (before ++ Release (length (admitted_jobs S.items)) j ∷ []) releases_next.0
      (subst (NameNone with_job) releases_next.1 (settled_names_none with_job j.release valid_all))

  -- the lines name the job behind the items
  names_job : LinesName (lines_at with_job j.release) with_job
  names_job = subst (λ ps. LinesName (put_in ps 0 behind) with_job) (sym job_places)
      (subst (λ lines. LinesName lines with_job)
      (sym (ap (lines_among S) releases_next.1
      ∙ put_in-more_steps (places_of S) 0
      (before ++ Release (length (admitted_jobs S.items)) j ∷ []) releases_next.0 within_released))
      (none_named (lines_among S (before ++ Release (length (admitted_jobs S.items)) j ∷ []))
      with_job releases_next.0
      (subst (λ lines. LinesName lines with_job) (sym lines_released)
      (one_named (lines_at S j.release) S (Printed (Release (length (admitted_jobs S.items)) j)) (JobItem j)
      reads.names refl)) rest_releases rest_quiet))

  -- the session with the job is read up to its release
  pub reads_job : Reads with_job j.release
  reads_job = record {
    valid = valid_all;
    known = known_all;
    within = subst (λ ps. AllPlacedWithin 0 behind ps) (sym job_places)
        (within_more S (before ++ Release (length (admitted_jobs S.items)) j ∷ []) behind within_released
        releases_next);
    names = names_job;
  }

-- ---- a refused line more

-- the instance of a session with a refused line more
pub refused_instance : (S : Session) (r : Refused) → instance_of (with_item S (RefusedItem r)) ≡ instance_of S
refused_instance S r =
    ap (λ jobs. record { rules = under S.rules (early_finishes (S.items ++ RefusedItem r ∷ [])); jobs = jobs })
    (filter_map-append job_of_item S.items (RefusedItem r ∷ []) ∙ append-nil (admitted_jobs S.items))
    ∙ ap (λ fs. record { rules = under S.rules fs; jobs = admitted_jobs S.items })
    (filter_map-append finish_of_item S.items (RefusedItem r ∷ []) ∙ append-nil (early_finishes S.items))

module _ (S : Session) (r : Refused) (reads : Reads S r.at) where
  -- the session with the refused line
  abbrev with_refused : Session
  with_refused = with_item S (RefusedItem r)

  -- what is settled at its tick
  abbrev steps : List Event
  steps = settled (instance_of S) r.at

  -- its place
  abbrev last_place : Placed
  last_place = record { place = length steps; refused = r }

  -- the places, and its own
  refused_places : places_of with_refused ≡ places_of S ++ last_place ∷ []
  refused_places = places_after-append S.rules [] S.items (RefusedItem r ∷ [])

  -- it comes at the end
  pub lines_refused : lines_at with_refused r.at ≡ lines_at S r.at ++ Refuses r ∷ []
  lines_refused = ap (λ J. lines_among with_refused (settled J r.at)) (refused_instance S r)
      ∙ ap (λ ps. put_in ps 0 steps) refused_places
      ∙ put_in-more_refused (places_of S) 0 steps last_place (omega arith) reads.within

  -- the session with the refused line is read up to its tick
  pub reads_refused : Reads with_refused r.at
  reads_refused = record {
    valid = subst IsValid (sym (refused_instance S r)) reads.valid;
    known = subst (λ (J : Instance). AllByRecursion (λ j. j.release ≤ r.at) J.jobs)
        (sym (refused_instance S r)) reads.known;
    within = subst (λ (J : Instance). RefusesWithin with_refused (settled J r.at)) (sym (refused_instance S r))
        (subst (AllPlacedWithin 0 steps) (sym refused_places)
        (all_behind (λ (p : Placed). p.place ≤ 0 + length steps) (places_of S) last_place reads.within (omega arith)));
    names = subst (λ lines. LinesName lines with_refused) (sym lines_refused)
        (one_named (lines_at S r.at) S (Refuses r) (RefusedItem r) reads.names refl);
  }

-- ---- a finish more

-- the instance of a session with a finish more
pub finish_instance : (S : Session) (f : EarlyFinish)
    → instance_of (with_item S (FinishItem f)) ≡ with_finishes (instance_of S) (f.finish ∷ [])
finish_instance S f =
    ap (λ jobs. record { rules = under S.rules (early_finishes (S.items ++ FinishItem f ∷ [])); jobs = jobs })
    (filter_map-append job_of_item S.items (FinishItem f ∷ []) ∙ append-nil (admitted_jobs S.items))
    ∙ ap (λ fs. record { rules = under S.rules fs; jobs = admitted_jobs S.items })
    (filter_map-append finish_of_item S.items (FinishItem f ∷ []))

-- what a right finish says
pub early_says : (S : Session) (t n : ℕ) (f : EarlyFinish) → early_at S t n ≡ Some f → FinishSays (instance_of S) t n f
early_says S t n f right = by_version (may_finish_early S.rules.version) right where
  by_version : (b : Bool) → cond b (finish_at (instance_of S) t n) None ≡ Some f → FinishSays (instance_of S) t n f
  by_version false e = none_is_some e
  by_version true e = finish_says (instance_of S) t n f e

-- it is right under its own tick and number
pub right_again : (S : Session) (t n : ℕ) (f : EarlyFinish) → early_at S t n ≡ Some f
    → early_at S f.at f.finish.number ≡ Some f
right_again S t n f right = let says = early_says S t n f right in
    ap (λ u. early_at S u f.finish.number) (sym (ap (λ (g : EarlyFinish). g.at) says.is))
    ∙ ap (early_at S t) (sym (ap (λ (g : EarlyFinish). g.finish.number) says.is) ∙ says.number) ∙ right

-- the job that may finish at a mark
pub record Finishes (S : Session) (f : EarlyFinish) : Type 0 where
  pub job : Task
  pub is : f.finish ≡ finish_now job
  pub runs : RunsAtMark (instance_of S) f.at job
  pub right : early_at S f.at job.number ≡ Some f

-- it is there
pub finishing_job : (S : Session) (f : EarlyFinish) → early_at S f.at f.finish.number ≡ Some f → Finishes S f
finishing_job S f right =
    let says = early_says S f.at f.finish.number f right in record {
      job = says.job;
      is = sym (ap (λ (g : EarlyFinish). g.finish) says.is);
      runs = finish_runs (instance_of S) f.at f.finish.number f says;
      right = ap (early_at S f.at) says.number ∙ right;
    }

module _ (S : Session) (f : EarlyFinish) (reads : Reads S f.at) (it : Finishes S f) where
  -- the session with the finish
  abbrev with_finish : Session
  with_finish = with_item S (FinishItem f)

  -- what is settled without it
  abbrev unfinished : List Event
  unfinished = settled (instance_of S) f.at

  -- what is settled with it
  abbrev finished : List Event
  finished = settled (instance_of with_finish) f.at

  -- the completion
  abbrev done_now : Event
  done_now = Complete f.at it.job.number

  -- it is settled right behind the steps before
  completes_next : Begins (unfinished ++ done_now ∷ []) finished
  completes_next = subst (λ J. Begins (unfinished ++ done_now ∷ []) (settled J f.at)) (sym (finish_instance S f))
      (subst (λ g. Begins (unfinished ++ done_now ∷ []) (settled (with_finishes (instance_of S) (g ∷ [])) f.at))
      (sym it.is) (completes_at_mark (instance_of S) reads.valid f.at it.job it.runs))

  -- a finish has no place
  finish_places : places_of with_finish ≡ places_of S
  finish_places = places_after-append S.rules [] S.items (FinishItem f ∷ []) ∙ append-nil (places_of S)

  -- the lines with the completion
  lines_done : lines_among S (unfinished ++ done_now ∷ []) ≡ lines_at S f.at ++ Printed done_now ∷ []
  lines_done = put_in-more_steps (places_of S) 0 unfinished (done_now ∷ []) reads.within

  -- refused lines stay within
  within_done : RefusesWithin S (unfinished ++ done_now ∷ [])
  within_done = within_more S unfinished (unfinished ++ done_now ∷ []) reads.within
      (begins_all unfinished (done_now ∷ []))

  -- the lines, and the completion, begin those with the finish
  pub lines_finish : Begins (lines_at S f.at ++ Printed done_now ∷ []) (lines_at with_finish f.at)
  lines_finish = subst (λ lines. Begins lines (lines_at with_finish f.at)) lines_done
      (subst (λ ps. Begins (lines_among S (unfinished ++ done_now ∷ [])) (put_in ps 0 finished)) (sym finish_places)
      (begins_more S (unfinished ++ done_now ∷ []) finished within_done completes_next))

  -- the jobs are the same
  same_jobs : admitted_jobs with_finish.items ≡ admitted_jobs S.items
  same_jobs = filter_map-append job_of_item S.items (FinishItem f ∷ []) ∙ append-nil (admitted_jobs S.items)

  -- they are valid
  valid_finish : IsValid (instance_of with_finish)
  valid_finish = subst IsValid (sym (finish_instance S f))
      (finishing_valid (instance_of S) (early_finishes S.items ++ f.finish ∷ []) reads.valid)

  -- they are known
  known_finish : AllByRecursion (λ j. j.release ≤ f.at) (admitted_jobs with_finish.items)
  known_finish = subst (AllByRecursion (λ j. j.release ≤ f.at)) (sym same_jobs) reads.known

  -- nothing more is released
  finish_releases : length (releases completes_next.0) ≡ 0
  finish_releases =
      let all : length (releases finished) ≡ length (admitted_jobs with_finish.items) =
      settled_releases (instance_of with_finish) f.at valid_finish known_finish in
      let old : length (releases unfinished) ≡ length (admitted_jobs S.items) =
      settled_releases (instance_of S) f.at reads.valid reads.known in
      let parts : length (releases finished) ≡ length (releases (unfinished ++ done_now ∷ [])) + length
      (releases completes_next.0) =
      ap (λ es. length (releases es)) completes_next.1
      ∙ ap length (filter_map-append _ (unfinished ++ done_now ∷ []) completes_next.0)
      ∙ length-append (releases (unfinished ++ done_now ∷ [])) (releases completes_next.0) in
      let front : length (releases (unfinished ++ done_now ∷ [])) ≡ length (releases unfinished) + 0 =
      ap length (filter_map-append _ unfinished (done_now ∷ [])) ∙ length-append (releases unfinished) [] in
      omega (arith, ap length same_jobs)

  -- nor is another finish named
  finish_quiet : NameNone with_finish completes_next.0
  finish_quiet = all_back (λ e. finish_in with_finish e ≡ None) (unfinished ++ done_now ∷ []) completes_next.0
      (subst (NameNone with_finish) completes_next.1 (settled_names_none with_finish f.at valid_finish))

  -- the completion names the finish
  pub finish_is_named : item_in S (Printed done_now) ≡ Some (FinishItem f)
  finish_is_named = ap (option_map FinishItem) it.right

  -- the lines name the finish behind the items
  names_finish : LinesName (lines_at with_finish f.at) with_finish
  names_finish = subst (λ ps. LinesName (put_in ps 0 finished) with_finish) (sym finish_places)
      (subst (λ lines. LinesName lines with_finish)
      (sym (ap (lines_among S) completes_next.1
      ∙ put_in-more_steps (places_of S) 0 (unfinished ++ done_now ∷ []) completes_next.0 within_done))
      (none_named (lines_among S (unfinished ++ done_now ∷ [])) with_finish completes_next.0
      (subst (λ lines. LinesName lines with_finish) (sym lines_done)
      (one_named (lines_at S f.at) S (Printed done_now) (FinishItem f) reads.names finish_is_named))
      finish_releases finish_quiet))

  -- the session with the finish is read up to its tick
  pub reads_finish : Reads with_finish f.at
  reads_finish = record {
    valid = valid_finish;
    known = known_finish;
    within = subst (λ ps. AllPlacedWithin 0 finished ps) (sym finish_places)
        (within_more S (unfinished ++ done_now ∷ []) finished within_done completes_next);
    names = names_finish;
  }

-- ---- nothing yet

-- a session of no items is read up to its beginning
pub reads_new : (rules : Declaration) → IsRatio rules.ratio → Reads (new_session rules) 0
reads_new rules ratio = record {
  valid = valid_new;
  known = tt;
  within = tt;
  names = nothing_named (new_session rules) (settled (instance_of (new_session rules)) 0)
      (settled_releases (instance_of (new_session rules)) 0 valid_new tt)
      (settled_names_none (new_session rules) 0 valid_new);
} where
  valid_new : IsValid (instance_of (new_session rules))
  valid_new = valid_from (record {
    ratio = ratio;
    each = tt;
    due = omega arith;
    in_order = tt;
    count = omega arith;
    total = omega arith;
    densities = tt;
  })
