-- What a reader keeps with one line more, and when the line is refused.
use Rattle.std.proofs.Common.{◌≡◌, ℕ, ◌+◌, ◌≤◌, ◌<◌, ◌^◌, max, List, [], ◌∷◌, ◌++◌, length, refl, sym, ap, ◌∙◌}
use Rattle.std.proofs.Common.{length-append, subst, Bool, true, false, cond, ◌&&◌, arith, Option, Some, None, eq-eqb}
use Rattle.std.proofs.Common.{le-leb}
use Rattle.std.proofs.lemmas.Bool.{and_from, and_parts}
use Rattle.std.proofs.Common.{nat_le, leb-true}
use Rattle.std.proofs.lemmas.List.{map-append, length-map}
use Rattle.std.proofs.lemmas.List.Elements.{filter_map-append}
use Rattle.dover_model.specs.declared.events.Event.{Event}
use Rattle.dover_model.specs.declared.events.Task.{Task}
use Rattle.dover_model.specs.declared.horizon.Horizon.TheVariants.{Mark}
use Rattle.dover_model.specs.Common.{JobFacts, job_numbers, AreShort, IsValid, with_jobs, with_finishes, Item, JobItem}
use Rattle.dover_model.specs.Common.{FinishItem, EarlyFinish, IsValidSession, mark_after, admitted_jobs, job_of_item}
use Rattle.dover_model.specs.Common.{instance_of, early_at, finish_at, may_finish_early, last_tick}
use Rattle.dover_model.specs.Common.{settled, MayFollow, JobFacts}
use Rattle.dover_model.proofs.lists.Tests.{none_is_some}
use Rattle.dover_model.proofs.sessions.Accounts.{mark_behind, follows_behind}
use Rattle.dover_model.proofs.sessions.Growing.{job_instance, finish_instance, early_says}
use Rattle.dover_model.proofs.sessions.SessionParts.{session_parts, session_from, session_jobs, session_declared}
use Rattle.dover_model.proofs.valid.Limiting.{tick_most}
use Rattle.ready_server.specs.Serving as ready
use Rattle.ready_server.specs.Roster.{Kept, with_event, Roll, HasLine}
use Rattle.ready_server.proofs.RollRuns.{roll_follows}
use Rattle.ready_server.proofs.RollSettled.{tasks_count}
use Rattle.dover_model.specs.Common.{Instance}
use Rattle.ready_server.specs.Rostering.{Serves, Rests}
use Rattle.ready_server.specs.declared.server.ReadyServer.{ReadyServer}
use Rattle.ready_server.proofs.Rostered.{more_read, served_jobs}
use Rattle.snapshot.specs.Snapshot.{Head}
use Rattle.snapshot.specs.Reading.{Refused, stored, refused_behind, read_task, read_done, reading_of}
use Rattle.snapshot.specs.Stored.{HasRead, NoneRefused}
use Rattle.snapshot.specs.Forms.{head_in}
use Rattle.snapshot.specs.Kept.{IsFed, IsServing, IsRightAt, HasRoom, MayAdmit, Holds, stance_of, Answers}
use Rattle.snapshot.specs.declared.reader.SnapFault.{SnapFault}
use Rattle.snapshot.specs.declared.reader.SnapFault.TheVariants.{BadSnapshot}
use Rattle.std.proofs.Common.{Err}
use Rattle.snapshot.specs.declared.resuming.Resuming.{Resuming}
use Rattle.snapshot.proofs.Accounted.{more_follows, good_more}
use Rattle.snapshot.proofs.Beginning.{Within, within}
use Rattle.snapshot.proofs.Counts.{good_few, good_count}
use Rattle.snapshot.proofs.RunItems.{jobs_only}
use Rattle.dover_model.proofs.sessions.Former.{none_early}
use Rattle.dover_model.proofs.sessions.SessionParts.{FollowsItems}
use Rattle.dover_model.proofs.finishes.Meeting.{finishing_valid}
use Rattle.dover_model.proofs.lists.Tests.{never}
use Rattle.dover_model.proofs.lists.Members.{all_last}
use Rattle.dover_model.proofs.valid.ValidParts.{valid_parts}
use Rattle.dover_model.proofs.valid.JobLimits.{job_limits}
use Rattle.dover_model.specs.Common.{IsJob}
use Rattle.dover_model.specs.Common.{early_finishes, most_lines}
use Rattle.dover_model.specs.declared.events.Version.{Version}
use Rattle.dover_model.specs.declared.events.Version.TheVariants.{Three, Four}
use Rattle.std.proofs.Common.{append-nil}
use Rattle.snapshot.proofs.Spelled.{state_line-read_task}
use Rattle.snapshot.proofs.Storing.{long, no_task, task_beyond, task_stands, finish_beyond, finish_stands, stands_from}

module _ (h : Head) (items : List Item) (tasks : List Task) (ls : List (List ℕ)) (read : HasRead h items tasks ls)
    (r : Resuming) (it : Holds r h items tasks) where
  -- as many jobs are kept as were read
  pub served_count : length r.stances.items ≡ length tasks
  served_count = omega (arith, ap length it.stances, length-map tasks stance_of)

  pub jobs_count : length (admitted_jobs items) ≡ length tasks
  jobs_count = long h items tasks ls read []

  -- a job is due where fewer are kept than there are to be
  pub job_due : length r.stances.items < r.head.jobs → length tasks < h.jobs
  job_due more = omega (arith, more, served_count, ap (λ (g : Head). g.jobs) it.head)

  limits : Within h
  limits = within h read.limits

  few_jobs : length (admitted_jobs items) ≤ 1_000_000
  few_jobs = omega (arith, jobs_count, read.count, limits.jobs)

  -- what was handed in is little
  pub few_handed : r.handed < 2 ^ 62
  few_handed = omega (
    arith,
    it.serving.handed,
    good_few (stored h items) (session_jobs read.valid) (session_parts read.valid).items read.good,
    few_jobs,
  )

  -- the number of a refused line
  pub refused_here : (l : List (List ℕ)) → reading_of l ≡ refused_behind items → reading_of l ≡ Refused (r.handed + 2)
  refused_here l refused = refused ∙ ap (λ m. Refused (m + 2)) (sym it.serving.handed)

  -- the marks
  pub mark_is : r.head.mark ≡ h.mark
  mark_is = ap (λ (g : Head). g.mark) it.head

  pub mark_low : r.head.mark ≤ last_tick
  mark_low = omega (arith, mark_is, limits.mark, tick_most h.rules.version)

  pub last_low : r.last ≤ r.head.mark
  last_low = omega (arith, mark_is, it.serving.last, read.known)

  -- the server may be taken to a later mark
  pub may_settle : (mark : ℕ) → r.last ≤ mark → mark ≤ last_tick → MayFollow (Mark r.last) (Mark mark)
  may_settle mark low known = (low, known)

  -- there is a line for one more
  three_most : (v : Version) → may_finish_early v ≡ true → 5_000_003 ≤ most_lines v
  three_most Three e = omega arith
  three_most Four e = omega arith
  three_most _ e = never e

  pub early_room : may_finish_early h.rules.version ≡ true → length items + 2 ≤ most_lines h.rules.version
  early_room three = omega (
    arith,
    three_most h.rules.version three,
    good_few (stored h items) (session_jobs read.valid) (session_parts read.valid).items read.good,
    few_jobs,
  )

  room_lines : length tasks < h.jobs → length items + 2 ≤ most_lines h.rules.version
  room_lines more = by (may_finish_early h.rules.version) refl where
    by : (b : Bool) → may_finish_early h.rules.version ≡ b → length items + 2 ≤ most_lines h.rules.version
    by true three = early_room three
    by false plain = omega (
      arith,
      ap length (jobs_only items read.good
          (none_early h.rules [] 0 items plain (session_parts read.valid).items)),
      length-map (admitted_jobs items) JobItem,
      jobs_count,
      more,
      limits.enough,
      limits.lines,
    )

  pub room : length tasks < h.jobs → HasRoom h items
  room more = record {
    valid = read.valid;
    good = read.good;
    lines = room_lines more;
    few = omega (arith, jobs_count, more, limits.jobs);
  }

  -- ---- the line of a job

  module _ (line : List ℕ) (other : read_done line ≡ None) (more : length tasks < h.jobs) where
    -- a line that is no job's
    pub none_refused : read_task line ≡ None → reading_of (ls ++ line ∷ []) ≡ Refused (r.handed + 2)
    none_refused none = refused_here (ls ++ line ∷ []) (no_task h items tasks ls read line other more none)

    module _ (t : Task) (spelled : read_task line ≡ Some t) where
      -- its numbers have numerals
      pub job_short : AreShort (job_numbers t.job)
      job_short = (state_line-read_task line t spelled).1.short.1.1

      -- a job that may not follow
      pub beyond_refused : (t.number ≡ length tasks → IsValidSession (stored h (items ++ JobItem t.job ∷ []))
          → t.job.release ≤ h.mark → ⊥) → reading_of (ls ++ line ∷ []) ≡ Refused (r.handed + 2)
      beyond_refused never = refused_here (ls ++ line ∷ []) (task_beyond h items tasks ls read line other more t
          spelled (λ number valid known. never number valid (omega (
            arith,
            known,
            mark_behind 0 items (JobItem t.job),
          ))))

      module _ (valid : IsValidSession (stored h (items ++ JobItem t.job ∷ []))) where
        -- its run may be taken to its release
        pub may_admit : (job : JobFacts) → job ≡ t.job → MayAdmit h items job
        may_admit job same = subst (λ (j : JobFacts). MayAdmit h items j) (sym same) (record {
          ordered = (more_follows h items (JobItem t.job ∷ []) valid).0.no_fall;
          few = (room more).few;
          small = omega (arith, few_handed, it.serving.handed);
          valid = subst IsValid (job_instance (stored h items) t.job) (session_jobs valid);
        })

        -- the mark is its release
        mark_there : mark_after 0 (items ++ JobItem t.job ∷ []) ≡ t.job.release
        mark_there = omega (
          arith,
          mark_behind 0 items (JobItem t.job),
          (more_follows h items (JobItem t.job ∷ []) valid).0.no_fall,
        )

        -- the lines with it
        pub read_more : t.number ≡ length tasks → t.job.release ≤ h.mark
            → HasRead h (items ++ JobItem t.job ∷ []) (tasks ++ t ∷ []) (ls ++ line ∷ [])
        read_more number low = task_stands h items tasks ls read line other more t spelled
            (and_from _ _ (eq-eqb t.number (length tasks) number)
            (stands_from h items (JobItem t.job) valid (omega (arith, low, mark_there))))

        -- what is kept with it
        pub holds_more : (new : Resuming) → new.head ≡ r.head
            → new.stances.items ≡ r.stances.items ++ stance_of t ∷ [] → IsFed new.intake h (items ++ JobItem t.job ∷ [])
            → IsServing new h (items ++ JobItem t.job ∷ [])
            → Holds new h (items ++ JobItem t.job ∷ []) (tasks ++ t ∷ [])
        holds_more new head stances fed serving = record {
          head = ap head_in head ∙ it.head;
          stances = stances ∙ ap (λ xs. xs ++ stance_of t ∷ []) it.stances
              ∙ sym (map-append stance_of tasks (t ∷ []));
          fed = fed;
          serving = serving;
        }

  -- what the test of the tick says
  version_is : may_finish_early r.head.version ≡ may_finish_early h.rules.version
  version_is = ap (λ (g : Head). may_finish_early g.rules.version) it.head

  pub test_passes : (at : ℕ) → may_finish_early r.head.version && nat_le r.last at && nat_le at r.head.mark ≡ true
      → (may_finish_early h.rules.version ≡ true) × (mark_after 0 items ≤ at) × (at ≤ h.mark)
  test_passes at passes =
      let all = and_parts (may_finish_early r.head.version && nat_le r.last at) _ passes in
      let both = and_parts (may_finish_early r.head.version) _ all.0 in (
        sym version_is ∙ both.0,
        omega (arith, leb-true r.last at both.1, it.serving.last),
        omega (arith, leb-true at r.head.mark all.1, mark_is),
      )

  -- ---- the line of an early finish

  module _ (at n : ℕ) where
    -- what a finish says that is right there
    pub tick_is : (f : EarlyFinish) → early_at (stored h items) at n ≡ Some f → (f.at ≡ at) × (f.finish.number ≡ n)
    tick_is f right =
        let says = early_says (stored h items) at n f right in (
          sym (ap (λ (g : EarlyFinish). g.at) says.is),
          sym (ap (λ (g : EarlyFinish). g.finish.number) says.is) ∙ says.number,
        )

    -- the mark with it
    mark_with : (f : EarlyFinish) → mark_after 0 (items ++ FinishItem f ∷ []) ≡ max (mark_after 0 items) f.at
    mark_with f = mark_behind 0 items (FinishItem f)

    -- where the version has none
    no_early : may_finish_early h.rules.version ≡ false → (f : EarlyFinish)
        → early_at (stored h items) at n ≡ Some f → ⊥
    no_early plain f right = none_is_some (ap (λ b. cond b (finish_at (instance_of (stored h items)) at n) None)
        (sym plain) ∙ right)

    module _ (line : List ℕ) (named : read_done line ≡ Some (at, n)) where
      -- where it may not stand there
      pub done_refused : ((f : EarlyFinish) → early_at (stored h items) at n ≡ Some f → mark_after 0 items ≤ at
          → at ≤ h.mark → ⊥) → reading_of (ls ++ line ∷ []) ≡ Refused (r.handed + 2)
      done_refused never = refused_here (ls ++ line ∷ []) (finish_beyond h items tasks ls read line at n named
          (λ f right valid known. never f right (omega (
            arith,
            (more_follows h items (FinishItem f ∷ []) valid).0.no_fall,
            (tick_is f right).0,
          )) (omega (arith, known, mark_with f, (tick_is f right).0))))

      pub test_fails : may_finish_early r.head.version && nat_le r.last at && nat_le at r.head.mark ≡ false
          → reading_of (ls ++ line ∷ []) ≡ Refused (r.handed + 2)
      test_fails fails = done_refused (λ f right low known. by (may_finish_early r.head.version) refl f right
          (le-leb r.last at (omega (arith, low, it.serving.last)))
          (le-leb at r.head.mark (omega (arith, known, mark_is)))) where
            by : (b : Bool) → may_finish_early r.head.version ≡ b → (f : EarlyFinish)
                → early_at (stored h items) at n ≡ Some f → nat_le r.last at ≡ true → nat_le at r.head.mark ≡ true → ⊥
            by false e f right low known = no_early (sym version_is ∙ e) f right
            by true e f right low known = never (sym fails ∙ and_from _ _ (and_from _ _ e low) known)

    module _ (three : may_finish_early h.rules.version ≡ true) (low : mark_after 0 items ≤ at) (known : at ≤ h.mark)
      where
        -- what is right is what the run has
        pub early_is : early_at (stored h items) at n ≡ finish_at (instance_of (stored h items)) at n
        early_is = ap (λ b. cond b (finish_at (instance_of (stored h items)) at n) None) three

        module _ (f : EarlyFinish) (right : finish_at (instance_of (stored h items)) at n ≡ Some f) where
          right_early : early_at (stored h items) at n ≡ Some f
          right_early = early_is ∙ right

          tick : f.at ≡ at
          tick = (tick_is f right_early).0

          number : f.finish.number ≡ n
          number = (tick_is f right_early).1

          good : NoneRefused (items ++ FinishItem f ∷ [])
          good = good_more items (FinishItem f) read.good refl

          follows : FollowsItems h.rules [] 0 (items ++ FinishItem f ∷ [])
          follows = follows_behind h.rules [] 0 items (FinishItem f ∷ []) (session_parts read.valid).items (
            record {
              no_fall = omega (arith, low, tick);
              known = omega (arith, known, tick, limits.mark);
              right = ap (λ t. early_at (stored h items) t f.finish.number) tick
                  ∙ ap (early_at (stored h items) at) number ∙ right_early;
            },
            tt,
          )

          jobs_same : admitted_jobs (items ++ FinishItem f ∷ []) ≡ admitted_jobs items
          jobs_same = filter_map-append job_of_item items (FinishItem f ∷ []) ∙ append-nil (admitted_jobs items)

          run_valid : IsValid (instance_of (stored h (items ++ FinishItem f ∷ [])))
          run_valid = subst IsValid (sym (finish_instance (stored h items) f))
              (finishing_valid (instance_of (stored h items)) (early_finishes items ++ f.finish ∷ [])
              (session_jobs read.valid))

          -- with it the session is valid
          pub valid_done : IsValidSession (stored h (items ++ FinishItem f ∷ []))
          valid_done = session_from (record {
            declared = session_declared read.valid;
            jobs = run_valid;
            count = good_count (stored h (items ++ FinishItem f ∷ [])) run_valid follows good
                (omega (arith, few_jobs, ap length jobs_same));
            items = follows;
          })

          pub is_right : IsRightAt h items at n f
          is_right = record {
            tick = tick;
            named = number;
            valid = valid_done;
            good = read.good;
            lines = early_room three;
          }

          -- the mark is its tick
          finish_there : mark_after 0 (items ++ FinishItem f ∷ []) ≡ at
          finish_there = omega (arith, mark_with f, tick, low)

          -- the lines with it
          pub read_done_more : (line : List ℕ) → read_done line ≡ Some (at, n)
              → HasRead h (items ++ FinishItem f ∷ []) tasks (ls ++ line ∷ [])
          read_done_more line named = finish_stands h items tasks ls read line at n named f right_early tick number
              (stands_from h items (FinishItem f) valid_done (omega (arith, known, finish_there)))

          -- what is kept with it
          pub holds_done : (new : Resuming) → new.head ≡ r.head → new.stances.items ≡ r.stances.items
              → new.handed ≡ r.handed + 1 → new.last ≡ at → IsFed new.intake h (items ++ FinishItem f ∷ [])
              → new.roster.finish_room ≡ r.roster.finish_room → (events : List Event)
              → Serves new.server new.roster (with_finishes (instance_of (stored h items)) (f.finish ∷ [])) at events
              → Holds new h (items ++ FinishItem f ∷ []) tasks
          holds_done new head stances handed last fed same events serves = record {
            head = ap head_in head ∙ it.head;
            stances = stances ∙ it.stances;
            fed = fed;
            serving = record {
              handed = omega (arith, handed, it.serving.handed, length-append items (FinishItem f ∷ []));
              last = last ∙ sym finish_there;
              events = events;
              serves = subst (λ m. Serves new.server new.roster (instance_of (stored h (items ++ FinishItem f ∷ []))) m
                  events) (sym last)
                  (subst (λ J. Serves new.server new.roster J at events) (sym (finish_instance (stored h items) f))
                  serves);
              room = omega (arith, it.serving.room, same, ap length jobs_same);
            };
          }

-- a job that may be admitted is released at a tick
pub release_known : (h : Head) (items : List Item) (job : JobFacts) → MayAdmit h items job → job.release ≤ last_tick
release_known h items job may =
    let it : IsJob job = all_last IsJob (admitted_jobs items) job (valid_parts may.valid).each in
    omega (arith, (job_limits it).window, (job_limits it).due)

-- a server that admitted the job serves it too
pub has_joined : (r new : Resuming) (h : Head) (items : List Item) (job : JobFacts) → MayAdmit h items job
    → IsServing r h items → (s : ReadyServer) (k : Kept) → Rests s k (instance_of (stored h items)) job.release
    → (e : Event) → ready.Serves new.server (with_jobs (instance_of (stored h items)) (job ∷ [])) (Mark job.release)
    (settled (instance_of (stored h items)) job.release ++ e ∷ [])
    → new.roster.roll ≡ with_event k.roll e → new.handed ≡ r.handed + 1 → new.last ≡ job.release
    → length (admitted_jobs items) + 1 ≤ new.roster.finish_room → IsServing new h (items ++ JobItem job ∷ [])
has_joined r new h items job may it s k rests e serves roll handed last room = record {
  handed = omega (arith, handed, it.handed, length-append items (JobItem job ∷ []));
  last = last ∙ sym (omega (arith, mark_behind 0 items (JobItem job), may.ordered));
  events = settled (instance_of (stored h items)) job.release ++ e ∷ [];
  serves = subst (λ m. Serves new.server new.roster (instance_of (stored h (items ++ JobItem job ∷ []))) m
      (settled (instance_of (stored h items)) job.release ++ e ∷ [])) (sym last)
      (subst (λ J. Serves new.server new.roster J job.release
      (settled (instance_of (stored h items)) job.release ++ e ∷ [])) (sym (job_instance (stored h items) job))
      (record {
        served = serves;
        read = more_read k new.roster (settled (instance_of (stored h items)) job.release) e rests.read roll;
      }));
  room = omega (
    arith,
    room,
    ap length (filter_map-append job_of_item items (JobItem job ∷ [])),
    length-append (admitted_jobs items) (job ∷ []),
  );
}

-- a roster has no more jobs than were handed in
pub listed_few : (s : ReadyServer) (k : Kept) (J : Instance) (mark : ℕ) (events : List Event)
    → Serves s k J mark events → length k.roll.jobs ≤ length J.jobs
listed_few s k J mark events it = omega (
  arith,
  ap (λ (p : Roll). length p.jobs) it.read,
  (roll_follows J it.served.follows.valid mark it.served.state events it.served.given.1).few,
  tasks_count J it.served.state it.served.follows.keeps,
)

-- with room for as many and one more, there is room for a job more
pub has_line : (r : Resuming) (h : Head) (items : List Item) → IsServing r h items → (k : Kept)
    → k.roll ≡ r.roster.roll → (jobs : ℕ) → jobs ≡ r.server.ready.jobs → jobs + 1 ≤ k.room → HasLine k
has_line r h items it k same jobs is room = omega (
  arith,
  ap (λ (p : Roll). length p.jobs) same,
  listed_few r.server r.roster (instance_of (stored h items)) r.last it.events it.serves,
  served_jobs r.server (instance_of (stored h items)) (Mark r.last) it.events it.serves.served,
  is,
  room,
)

-- ---- the answer

-- a line that is refused
pub refuses : (fault : SnapFault) (at : ℕ) (kept : Option Resuming) (ls : List (List ℕ)) → fault ≡ BadSnapshot at
    → reading_of ls ≡ Refused at → Answers (Err fault) kept ls
refuses fault at kept ls is reads = subst (λ f. Answers (Err f) kept ls) (sym is) reads
