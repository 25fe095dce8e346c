-- What is read of a snapshot, line by line.
use Rattle.std.proofs.Common.{◌≡◌, ℕ, suc, ◌+◌, ◌≤◌, ◌<◌, List, [], ◌∷◌, ◌++◌, length, length-append, sym, ap}
use Rattle.std.proofs.Common.{◌∙◌, refl, Bool, true, false, cond, ◌&&◌, arith, Option, Some, None, codes, bytes_eq}
use Rattle.std.proofs.Common.{◌==◌, lt-ltb, le-ltb, leb-true, le-leb, eqb-true, append-nil}
use Rattle.std.proofs.lemmas.Bool.{and_parts, and_from, and_left, and_right}
use Rattle.std.proofs.lemmas.List.{map-append}
use Rattle.std.proofs.lemmas.List.Elements.{filter_map-append}
use Rattle.std.proofs.lemmas.List.Sums.{fold-append}
use Rattle.dover_model.specs.declared.events.Task.{Task}
use Rattle.dover_model.specs.Common.{Declaration, IsRatio, Item, JobItem, RefusedItem, FinishItem, EarlyFinish}
use Rattle.dover_model.specs.Common.{is_valid_session, IsValidSession, mark_after, admitted_jobs, job_of_item, early_at}
use Rattle.dover_model.specs.Common.{IsNumberedFrom, jobs_of, IsDeclarable}
use Rattle.dover_model.proofs.sessions.Growing.{reads_new}
use Rattle.dover_model.proofs.sessions.SessionParts.{session_from}
use Rattle.snapshot.specs.Snapshot.{Head, head_line, state_line, done_line, stored_lines}
use Rattle.snapshot.specs.Reading.{Begun, Going, Taken, Refused, is_within_limits, stored, may_stand, may_follow}
use Rattle.snapshot.specs.Reading.{has_lines_for, is_settled, with_head, refused_behind, with_task, with_finish}
use Rattle.snapshot.specs.Reading.{with_last, with_other, next_line, reading_of, read_head, read_task, read_done}
use Rattle.snapshot.specs.Stored.{HasRead}
use Rattle.snapshot.proofs.Accounted.{good_more}
use Rattle.snapshot.proofs.Spelled.{head_line-read_head, state_line-read_task, done_line-read_done}

-- ---- the first line

-- a session of nothing is valid
none_valid : (rules : Declaration) → IsRatio rules.ratio → IsDeclarable rules
    → IsValidSession (record { rules = rules; items = [] })
none_valid rules ratio declared = session_from
    (record { declared = declared; jobs = (reads_new rules ratio).valid; count = omega arith; items = tt })

-- it is one within the limits
pub head_stands : (line : List ℕ) (h : Head) → read_head line ≡ Some h → is_within_limits h ≡ true
    → HasRead h [] [] (line ∷ [])
head_stands line h read within =
    let it = head_line-read_head line h read in
    record {
      reads = ap with_head read ∙ ap (λ b. cond b (Going h [] []) (Refused 1)) within;
      text = ap (λ l. l ∷ []) (sym it.0);
      limits = within;
      valid = none_valid h.rules it.1.ratio it.1.declared;
      good = λ i none. absurd none;
      jobs = refl;
      known = omega arith;
      numbered = tt;
      count = omega arith;
    }

-- ---- the lines of what was handed in

-- with a job more
pub lines_job : (items : List Item) (tasks : List Task) (t : Task) → length (admitted_jobs items) ≡ length tasks
    → stored_lines (items ++ JobItem t.job ∷ []) (tasks ++ t ∷ []) ≡ stored_lines items tasks ++ state_line t ∷ []
lines_job [] [] t long = refl
lines_job [] (u ∷ tasks) t long = absurd (omega (arith, long))
lines_job (JobItem j ∷ items) [] t long = absurd (omega (arith, long))
lines_job (JobItem j ∷ items) (u ∷ tasks) t long =
    ap (λ ls. state_line u ∷ ls) (lines_job items tasks t (omega (arith, long)))
lines_job (RefusedItem r ∷ items) tasks t long = lines_job items tasks t long
lines_job (FinishItem f ∷ items) tasks t long =
    ap (λ ls. done_line f.at f.finish.number ∷ ls) (lines_job items tasks t long)

-- with a finish more
pub lines_finish : (items : List Item) (tasks : List Task) (f : EarlyFinish)
    → stored_lines (items ++ FinishItem f ∷ []) tasks ≡ stored_lines items tasks ++ done_line f.at f.finish.number ∷ []
lines_finish [] tasks f = refl
lines_finish (JobItem j ∷ items) [] f = lines_finish items [] f
lines_finish (JobItem j ∷ items) (u ∷ tasks) f = ap (λ ls. state_line u ∷ ls) (lines_finish items tasks f)
lines_finish (RefusedItem r ∷ items) tasks f = lines_finish items tasks f
lines_finish (FinishItem g ∷ items) tasks f =
    ap (λ ls. done_line g.at g.finish.number ∷ ls) (lines_finish items tasks f)

-- ---- a further line

-- numbered in a row, with one more
numbered_more : (n : ℕ) (tasks : List Task) (t : Task) → IsNumberedFrom n tasks → t.number ≡ n + length tasks
    → IsNumberedFrom n (tasks ++ t ∷ [])
numbered_more n [] t numbered next = (omega arith, tt)
numbered_more n (u ∷ tasks) t numbered next = (numbered.0, numbered_more (suc n) tasks t numbered.1 (omega arith))

-- as many jobs as tasks
pub count_of : (tasks : List Task) → length (jobs_of tasks) ≡ length tasks
count_of [] = refl
count_of (t ∷ tasks) = ap suc (count_of tasks)

-- what the test of an item says
pub stand_parts : (h : Head) (items : List Item) (i : Item) → may_stand h items i ≡ true
    → IsValidSession (stored h (items ++ i ∷ [])) × (mark_after 0 (items ++ i ∷ []) ≤ h.mark)
stand_parts h items i passes =
    let both = and_parts (is_valid_session (stored h (items ++ i ∷ []))) _ passes in
    (record { passes = both.0 }, leb-true (mark_after 0 (items ++ i ∷ [])) h.mark both.1)

pub stands_from : (h : Head) (items : List Item) (i : Item) → IsValidSession (stored h (items ++ i ∷ []))
    → mark_after 0 (items ++ i ∷ []) ≤ h.mark → may_stand h items i ≡ true
stands_from h items i valid known =
    and_from (is_valid_session (stored h (items ++ i ∷ []))) _ valid.passes
    (le-leb (mark_after 0 (items ++ i ∷ [])) h.mark known)

module _ (h : Head) (items : List Item) (tasks : List Task) (ls : List (List ℕ)) (it : HasRead h items tasks ls)
    (line : List ℕ) where
  -- as many jobs were handed in
  pub long : length (admitted_jobs items) ≡ length tasks
  long = ap length it.jobs ∙ count_of tasks

  -- what the lines with it say
  next : reading_of (ls ++ line ∷ []) ≡ next_line (Going h items tasks) line
  next = fold-append next_line Begun ls (line ∷ []) ∙ ap (λ r. next_line r line) it.reads

  -- ---- the line of an early finish

  pub next_done : (at n : ℕ) → read_done line ≡ Some (at, n)
      → reading_of (ls ++ line ∷ []) ≡ with_finish h items tasks (early_at (stored h items) at n)
  next_done at n read = next ∙ ap (λ o. elim o [
    | None ↦ with_other h items tasks line
    | Some done ↦ with_finish h items tasks (early_at (stored h items) done.0 done.1)
  ]) read

  -- it isn't right
  pub finish_beyond : (at n : ℕ) → read_done line ≡ Some (at, n)
      → ((f : EarlyFinish) → early_at (stored h items) at n ≡ Some f
      → IsValidSession (stored h (items ++ FinishItem f ∷ []))
      → mark_after 0 (items ++ FinishItem f ∷ []) ≤ h.mark → ⊥)
      → reading_of (ls ++ line ∷ []) ≡ refused_behind items
  finish_beyond at n read never = next_done at n read ∙ by (early_at (stored h items) at n) refl where
    by : (o : Option EarlyFinish) → early_at (stored h items) at n ≡ o
        → with_finish h items tasks o ≡ refused_behind items
    by None none = refl
    by (Some f) some = by_test (may_stand h items (FinishItem f)) refl where
      by_test : (b : Bool) → may_stand h items (FinishItem f) ≡ b
          → cond b (Going h (items ++ FinishItem f ∷ []) tasks) (refused_behind items) ≡ refused_behind items
      by_test false fails = refl
      by_test true passes =
          let parts = stand_parts h items (FinishItem f) passes in absurd (never f some parts.0 parts.1)

  -- it is right
  pub finish_stands : (at n : ℕ) → read_done line ≡ Some (at, n) → (f : EarlyFinish)
      → early_at (stored h items) at n ≡ Some f → f.at ≡ at → f.finish.number ≡ n
      → may_stand h items (FinishItem f) ≡ true → HasRead h (items ++ FinishItem f ∷ []) tasks (ls ++ line ∷ [])
  finish_stands at n read f right tick named stands =
      let parts = stand_parts h items (FinishItem f) stands in
      record {
        reads = next_done at n read ∙ ap (with_finish h items tasks) right
            ∙ ap (λ b. cond b (Going h (items ++ FinishItem f ∷ []) tasks) (refused_behind items)) stands;
        text = ap (λ l. ls ++ l ∷ []) (sym (done_line-read_done line at n read)
            ∙ ap (λ t. done_line t n) (sym tick) ∙ ap (done_line f.at) (sym named))
            ∙ ap (λ (xs : List (List ℕ)). xs ++ done_line f.at f.finish.number ∷ []) it.text
            ∙ ap (λ xs. head_line h ∷ xs) (sym (lines_finish items tasks f));
        limits = it.limits;
        valid = parts.0;
        good = good_more items (FinishItem f) it.good refl;
        jobs = filter_map-append job_of_item items (FinishItem f ∷ []) ∙ append-nil (admitted_jobs items) ∙ it.jobs;
        known = parts.1;
        numbered = it.numbered;
        count = it.count;
      }

  -- ---- another line

  module _ (other : read_done line ≡ None) where
    next_other : reading_of (ls ++ line ∷ []) ≡ with_other h items tasks line
    next_other = next ∙ ap (λ o. elim o [
      | None ↦ with_other h items tasks line
      | Some done ↦ with_finish h items tasks (early_at (stored h items) done.0 done.1)
    ]) other

    -- where a job is due
    next_job : length tasks < h.jobs → reading_of (ls ++ line ∷ []) ≡ with_task h items tasks (read_task line)
    next_job more = next_other ∙ ap (λ b. cond b (with_task h items tasks (read_task line))
        (with_last h items tasks (bytes_eq line (codes "resume")))) (lt-ltb (length tasks) h.jobs more)

    -- where no job is due
    next_last : h.jobs ≤ length tasks
        → reading_of (ls ++ line ∷ []) ≡ with_last h items tasks (bytes_eq line (codes "resume"))
    next_last most = next_other ∙ ap (λ b. cond b (with_task h items tasks (read_task line))
        (with_last h items tasks (bytes_eq line (codes "resume")))) (le-ltb (length tasks) h.jobs most)

    -- it is no line of a job
    pub no_task : length tasks < h.jobs → read_task line ≡ None → reading_of (ls ++ line ∷ []) ≡ refused_behind items
    no_task more none = next_job more ∙ ap (with_task h items tasks) none

    -- the job may not follow
    pub task_beyond : length tasks < h.jobs → (t : Task) → read_task line ≡ Some t
        → (t.number ≡ length tasks → IsValidSession (stored h (items ++ JobItem t.job ∷ []))
        → mark_after 0 (items ++ JobItem t.job ∷ []) ≤ h.mark → ⊥)
        → reading_of (ls ++ line ∷ []) ≡ refused_behind items
    task_beyond more t read never =
        next_job more ∙ ap (with_task h items tasks) read ∙ by (may_follow h items tasks t) refl where
          by : (b : Bool) → may_follow h items tasks t ≡ b
              → cond b (Going h (items ++ JobItem t.job ∷ []) (tasks ++ t ∷ [])) (refused_behind items)
              ≡ refused_behind items
          by false fails = refl
          by true passes =
              let both = and_parts (t.number == length tasks) _ passes in
              let parts = stand_parts h items (JobItem t.job) both.1 in
              absurd (never (eqb-true t.number (length tasks) both.0) parts.0 parts.1)

    -- the job may follow
    pub task_stands : length tasks < h.jobs → (t : Task) → read_task line ≡ Some t → may_follow h items tasks t ≡ true
        → HasRead h (items ++ JobItem t.job ∷ []) (tasks ++ t ∷ []) (ls ++ line ∷ [])
    task_stands more t read follows =
        let both = and_parts (t.number == length tasks) _ follows in
        let parts = stand_parts h items (JobItem t.job) both.1 in
        record {
          reads = next_job more ∙ ap (with_task h items tasks) read
              ∙ ap (λ b. cond b (Going h (items ++ JobItem t.job ∷ []) (tasks ++ t ∷ [])) (refused_behind items))
              follows;
          text = ap (λ l. ls ++ l ∷ []) (sym (state_line-read_task line t read).0)
              ∙ ap (λ (xs : List (List ℕ)). xs ++ state_line t ∷ []) it.text
              ∙ ap (λ xs. head_line h ∷ xs) (sym (lines_job items tasks t long));
          limits = it.limits;
          valid = parts.0;
          good = good_more items (JobItem t.job) it.good refl;
          jobs = filter_map-append job_of_item items (JobItem t.job ∷ [])
              ∙ ap (λ js. js ++ t.job ∷ []) it.jobs ∙ sym (map-append (λ (u : Task). u.job) tasks (t ∷ []));
          known = parts.1;
          numbered = numbered_more 0 tasks t it.numbered (omega (arith, eqb-true t.number (length tasks) both.0));
          count = omega (arith, length-append tasks (t ∷ []));
        }

    -- the last line is another
    pub no_last : h.jobs ≤ length tasks → bytes_eq line (codes "resume") ≡ false
        → reading_of (ls ++ line ∷ []) ≡ refused_behind items
    no_last most differs = next_last most ∙ ap (with_last h items tasks) differs

    -- its lines don't do
    pub lines_beyond : h.jobs ≤ length tasks → has_lines_for h items ≡ false
        → reading_of (ls ++ line ∷ []) ≡ refused_behind items
    lines_beyond most beyond = next_last most
        ∙ ap (λ b. cond b (Taken h items tasks) (refused_behind items))
        (and_left _ (is_settled h items tasks) (and_right (bytes_eq line (codes "resume")) _ beyond))

    -- some job is in another state
    pub other_state : h.jobs ≤ length tasks → is_settled h items tasks ≡ false
        → reading_of (ls ++ line ∷ []) ≡ refused_behind items
    other_state most differs = next_last most
        ∙ ap (λ b. cond b (Taken h items tasks) (refused_behind items))
        (and_right (bytes_eq line (codes "resume") && has_lines_for h items) _ differs)

    -- all is as it has to be
    pub last_stands : h.jobs ≤ length tasks → bytes_eq line (codes "resume") ≡ true → has_lines_for h items ≡ true
        → is_settled h items tasks ≡ true → reading_of (ls ++ line ∷ []) ≡ Taken h items tasks
    last_stands most last lines settled = next_last most
        ∙ ap (λ b. cond b (Taken h items tasks) (refused_behind items))
        (and_from _ _ (and_from _ _ last lines) settled)
