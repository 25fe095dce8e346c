-- What a reader keeps at the last line, and when that is refused.
use Rattle.std.proofs.Common.{◌≡◌, ℕ, ◌+◌, ◌≤◌, ◌<◌, List, [], ◌∷◌, ◌++◌, length, map, refl, sym, ap, ◌∙◌, subst, Bool}
use Rattle.std.proofs.Common.{true, false, not, ◌||◌, arith, codes, nat_le, nat_lt, bytes_eq, leb-true, ltb-true}
use Rattle.std.proofs.lemmas.Bool.{and_parts}
use Rattle.std.proofs.lemmas.Slice.Eq.{bytes_eq-Decides}
use Rattle.std.proofs.lemmas.List.{length-map}
use Rattle.dover_model.specs.declared.events.Task.{Task}
use Rattle.dover_model.specs.Common.{JobFacts, Instance, IsValid, Item, instance_of, mark_after, settled_state, Account}
use Rattle.dover_model.specs.Common.{account_of_lines, admitted_jobs}
use Rattle.dover_model.proofs.valid.Valid.{all_from}
use Rattle.snapshot.specs.Forms.{head_in}
use Rattle.snapshot.specs.Reading.{read_done}
use Rattle.std.proofs.Common.{None}
use Rattle.dover_model.proofs.runs.Honest.{count_jobs}
use Rattle.dover_model.proofs.settled.Barriers.{settled_at_barrier}
use Rattle.ready_server.specs.Roster.{Roll, Kept, job_at}
use Rattle.ready_server.specs.Rostering.{Rests}
use Rattle.ready_server.specs.declared.server.ReadyServer.{ReadyServer}
use Rattle.ready_server.proofs.RollSettled.{settled_jobs}
use Rattle.event_feed.specs.Kept as feed
use Rattle.snapshot.specs.Snapshot.{Head}
use Rattle.snapshot.specs.Reading.{Refused, stored, has_lines_for, is_settled, reading_of}
use Rattle.snapshot.specs.Stored.{HasRead}
use Rattle.snapshot.specs.Kept.{CanPause, Holds, IsWhole, Resumes, AreAt, stance_of, feed_lines, paused_account}
use Rattle.snapshot.specs.declared.resuming.Resuming.{Resuming}
use Rattle.snapshot.proofs.Beginning.{all_account}
use Rattle.snapshot.proofs.Comparing.{all_alike, alike_all}
use Rattle.snapshot.proofs.Formed.{denied}
use Rattle.snapshot.proofs.Handed.{goes_on}
use Rattle.snapshot.proofs.Marks.{released_by}
use Rattle.snapshot.proofs.Stepping.{served_count, jobs_count, refused_here, mark_is}
use Rattle.snapshot.proofs.Storing.{no_last, lines_beyond, other_state, last_stands}

-- what is tested of the lines
pub lines_parts : (h : Head) (items : List Item) → has_lines_for h items ≡ true
    → (length items + 1 ≤ h.lines) × (h.lines ≤ length items + 1 → h.mark ≤ mark_after 0 items)
lines_parts h items passes =
    let both = and_parts (nat_lt (length items) h.lines) _ passes in
    let some : length items < h.lines = ltb-true _ _ both.0 in (
      omega (arith, some),
      last (nat_le h.mark (mark_after 0 items)) (nat_lt (length items + 1) h.lines) refl refl both.1,
    ) where
      last : (a b : Bool) → nat_le h.mark (mark_after 0 items) ≡ a → nat_lt (length items + 1) h.lines ≡ b
          → a || b ≡ true → h.lines ≤ length items + 1 → h.mark ≤ mark_after 0 items
      last true b e f some none = leb-true _ _ e
      last false true e f some none = absurd (omega (arith, ltb-true _ _ f, none))
      last false false e f some none = absurd (let clash : false ≡ true = some in cc)

module _ (h : Head) (items : List Item) (tasks : List Task) (ls : List (List ℕ)) (read : HasRead h items tasks ls)
    (r : Resuming) (it : Holds r h items tasks) (line : List ℕ) (most : r.head.jobs ≤ length r.stances.items) where
  -- no job is due
  all_read : h.jobs ≤ length tasks
  all_read = omega (arith, most, served_count h items tasks ls read r it, ap (λ (g : Head). g.jobs) it.head)

  abbrev J : Instance
  J = instance_of (stored h items)

  module _ (other : read_done line ≡ None) where
    -- another line
    pub other_refused : bytes_eq line (codes "resume") ≡ false → reading_of (ls ++ line ∷ []) ≡ Refused (r.handed + 2)
    other_refused differs = refused_here h items tasks ls read r it (ls ++ line ∷ [])
        (no_last h items tasks ls read line other all_read differs)

    -- where the lines don't do, the line is refused
    pub lines_refused : has_lines_for (head_in r.head) items ≡ false
        → reading_of (ls ++ line ∷ []) ≡ Refused (r.handed + 2)
    lines_refused beyond = refused_here h items tasks ls read r it (ls ++ line ∷ [])
        (lines_beyond h items tasks ls read line other all_read
        (sym (ap (λ g. has_lines_for g items) it.head) ∙ beyond))

    module _ (s : ReadyServer) (k : Kept) (rests : Rests s k J r.head.mark) where
      rests_there : Rests s k J h.mark
      rests_there = subst (Rests s k J) (mark_is h items tasks ls read r it) rests

      valid : IsValid J
      valid = rests.rests.follows.valid

      -- the jobs that were reached
      abbrev pub reached_tasks : List Task
      reached_tasks = map (job_at k.roll r.head.mark) k.roll.jobs

      tasks_are : reached_tasks ≡ (settled_state J h.mark).tasks
      tasks_are = ap (λ m. map (job_at k.roll m) k.roll.jobs) (mark_is h items tasks ls read r it)
          ∙ ap (λ (p : Roll). map (job_at p h.mark) p.jobs) rests_there.read
          ∙ settled_jobs J valid h.mark (all_from (λ (j : JobFacts). j.release ≤ mark_after 0 items)
          (λ j. j.release ≤ h.mark) (admitted_jobs items) (λ j low. omega (arith, low, read.known))
          (released_by 0 items))

      -- they are as many as were read
      pub reached_count : length r.stances.items ≡ length k.roll.jobs
      reached_count = omega (
        arith,
        served_count h items tasks ls read r it,
        length-map k.roll.jobs (job_at k.roll r.head.mark),
        ap length tasks_are,
        count_jobs (settled_state J h.mark).tasks,
        ap length (settled_at_barrier J valid h.mark).keeps.jobs,
        jobs_count h items tasks ls read r it,
      )

      -- where the jobs aren't as stored, the line is refused
      pub state_refused : (AreAt reached_tasks r.stances.items → ⊥)
          → reading_of (ls ++ line ∷ []) ≡ Refused (r.handed + 2)
      state_refused differs = refused_here h items tasks ls read r it (ls ++ line ∷ [])
          (other_state h items tasks ls read line other all_read (by (is_settled h items tasks) refl)) where
            by : (b : Bool) → is_settled h items tasks ≡ b → is_settled h items tasks ≡ false
            by false fails = fails
            by true passes = absurd (differs (ap (map stance_of) tasks_are
                ∙ sym (alike_all tasks (settled_state J h.mark).tasks passes) ∙ sym it.stances))

      module _ (at : AreAt reached_tasks r.stances.items) (enough : has_lines_for (head_in r.head) items ≡ true) where
        lines_are : has_lines_for h items ≡ true
        lines_are = sym (ap (λ g. has_lines_for g items) it.head) ∙ enough

        -- they are
        settled_is : is_settled h items tasks ≡ true
        settled_is = all_alike tasks (settled_state J h.mark).tasks
            (sym it.stances ∙ sym at ∙ ap (map stance_of) tasks_are)

        can_pause : CanPause h items
        can_pause = record {
          limits = read.limits;
          valid = read.valid;
          good = read.good;
          few = (lines_parts h items lines_are).0;
          known = read.known;
          reached = (lines_parts h items lines_are).1;
        }

        pub may_there : CanPause (head_in r.head) items
        may_there = subst (λ (g : Head). CanPause g items) (sym it.head) can_pause

        -- the snapshot is whole
        pub is_whole : bytes_eq line (codes "resume") ≡ true → line ≡ codes "resume"
            → IsWhole h items tasks (ls ++ line ∷ [])
        is_whole last same = record {
          front = ls;
          read = read;
          text = ap (λ l. ls ++ l ∷ []) same;
          reads = last_stands h items tasks ls read line other all_read last lines_are settled_is;
          all = omega (arith, all_read, read.count);
          lines = lines_are;
          settled = settled_is;
        }

        -- its run goes on
        pub resumes : (i : feed.Kept) → feed.StandsFor i (feed_lines (head_in r.head) items) → Resumes s k i h items
        resumes i handing =
            let stands : feed.StandsFor i (feed_lines h items) =
            subst (λ (g : Head). feed.StandsFor i (feed_lines g items)) it.head handing in
            let account : account_of_lines (feed_lines h items) ≡ paused_account h items =
            all_account h items can_pause in
            record {
              stands = stands;
              account = account;
              going = goes_on i (feed_lines h items) (stored h items) stands
                  (ap (λ (a : Account). a.standing) account) (ap (λ (a : Account). a.session) account);
              rests = rests_there;
            }

-- a line that isn't another one is the last line
pub last_same : (line other : List ℕ) → other ≡ codes "resume" → not (bytes_eq line other) ≡ false
    → (bytes_eq line (codes "resume") ≡ true) × (line ≡ codes "resume")
last_same line other is test =
    let same : bytes_eq line (codes "resume") ≡ true = ap (bytes_eq line) (sym is)
    ∙ denied (bytes_eq line other) test in
    (same, (bytes_eq-Decides line (codes "resume")).0 same)

-- another line isn't
pub last_differs : (line other : List ℕ) → other ≡ codes "resume" → not (bytes_eq line other) ≡ true
    → bytes_eq line (codes "resume") ≡ false
last_differs line other is test = ap (bytes_eq line) (sym is) ∙ by (bytes_eq line other) test where
  by : (b : Bool) → not b ≡ true → b ≡ false
  by false it = refl
  by true it = absurd (let clash : false ≡ true = it in cc)
