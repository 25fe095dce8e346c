-- The jobs that a reader serves again, and what they have cost.
use Rattle.std.proofs.Common.{◌≡◌, ℕ, ◌≤◌, List, [], ◌∷◌, ◌++◌, length, length-append, sym, ap, ◌∙◌, subst, Bool}
use Rattle.std.proofs.Common.{true, false, cond, ◌&&◌, Option, Some, None, codes, arith, nat_lt, bytes_eq}
use Rattle.std.proofs.lemmas.List.Sums.{fold-append}
use Rattle.dover_model.specs.declared.events.Task.{Task}
use Rattle.dover_model.specs.Common.{Item, JobItem, FinishItem, EarlyFinish, early_at, admitted_jobs, instance_of}
use Rattle.dover_model.specs.declared.horizon.Horizon.TheVariants.{Mark}
use Rattle.ready_server.proofs.Rostered.{served_jobs}
use Rattle.ready_server.proofs.Stepping.{rests_serves}
use Rattle.ready_server.specs.Roster.{Kept}
use Rattle.ready_server.specs.Rostering.{Rests}
use Rattle.ready_server.specs.declared.server.ReadyServer.{ReadyServer}
use Rattle.dover_model.specs.Common.{Instance, settled}
use Rattle.snapshot.specs.Snapshot.{Head}
use Rattle.snapshot.specs.Reading.{Begun, Going, Taken, stored, read_task, read_done, with_task, with_finish, with_last}
use Rattle.snapshot.specs.Reading.{with_other, may_follow, may_stand, has_lines_for, is_settled, refused_behind}
use Rattle.snapshot.specs.Reading.{next_line, reading_of}
use Rattle.snapshot.specs.Stored.{HasRead}
use Rattle.snapshot.specs.Kept.{IsReading, IsServing}
use Rattle.snapshot.specs.Spending.{jobs_read, jobs_kept}
use Rattle.snapshot.specs.declared.resuming.Resuming.{Resuming}
use Rattle.snapshot.proofs.Storing.{long}
use Rattle.snapshot.proofs.Marks.{jobs_least}

-- a line more takes no job away
jobs_next : (h : Head) (items : List Item) (tasks : List Task) (line : List ℕ) → length tasks ≤ length items
    → length tasks ≤ jobs_read (next_line (Going h items tasks) line)
jobs_next h items tasks line few = by_done (read_done line) where
  with_one : (t : Option Task) → length tasks ≤ jobs_read (with_task h items tasks t)
  with_one None = omega (arith, few)
  with_one (Some t) = one (may_follow h items tasks t) where
    one : (b : Bool) → length tasks
        ≤ jobs_read (cond b (Going h (items ++ JobItem t.job ∷ []) (tasks ++ t ∷ [])) (refused_behind items))
    one true = omega (arith, length-append tasks (t ∷ []))
    one false = omega (arith, few)

  at_last : (b : Bool) → length tasks ≤ jobs_read (cond b (Taken h items tasks) (refused_behind items))
  at_last true = omega arith
  at_last false = omega (arith, few)

  at_finish : (o : Option EarlyFinish) → length tasks ≤ jobs_read (with_finish h items tasks o)
  at_finish None = omega (arith, few)
  at_finish (Some f) = one (may_stand h items (FinishItem f)) where
    one : (b : Bool) → length tasks
        ≤ jobs_read (cond b (Going h (items ++ FinishItem f ∷ []) tasks) (refused_behind items))
    one true = omega arith
    one false = omega (arith, few)

  by : (b : Bool) → length tasks ≤ jobs_read (cond b (with_task h items tasks (read_task line))
      (with_last h items tasks (bytes_eq line (codes "resume"))))
  by true = with_one (read_task line)
  by false = at_last (bytes_eq line (codes "resume") && has_lines_for h items && is_settled h items tasks)

  by_done : (o : Option (ℕ × ℕ)) → length tasks ≤ jobs_read (elim o [
    | None ↦ with_other h items tasks line
    | Some done ↦ with_finish h items tasks (early_at (stored h items) done.0 done.1)
  ])
  by_done None = by (nat_lt (length tasks) h.jobs)
  by_done (Some done) = at_finish (early_at (stored h items) done.0 done.1)

-- a server has as many jobs as were handed in
pub jobs_served : (r : Resuming) (h : Head) (items : List Item) → IsServing r h items
    → r.server.ready.jobs ≡ length (admitted_jobs items)
jobs_served r h items it = served_jobs r.server (instance_of (stored h items)) (Mark r.last) it.events it.serves.served

-- so has one at rest
pub jobs_at : (s : ReadyServer) (k : Kept) (J : Instance) (mark : ℕ) → Rests s k J mark
    → s.ready.jobs ≡ length J.jobs
jobs_at s k J mark it = served_jobs s J (Mark mark) (settled J mark) (rests_serves s J (Mark mark) it.rests)

-- so many jobs are no more than those of the lines with one more
pub jobs_lines : (ls : List (List ℕ)) (h : Head) (items : List Item) (tasks : List Task)
    → HasRead h items tasks ls → (line : List ℕ) (n : ℕ) → n ≡ length tasks
    → n ≤ jobs_read (reading_of (ls ++ line ∷ []))
jobs_lines ls h items tasks read line n is =
    subst (λ reading. n ≤ jobs_read reading)
    (sym (fold-append next_line Begun ls (line ∷ []) ∙ ap (λ reading. next_line reading line) read.reads))
    (omega (
      arith,
      is,
      jobs_next h items tasks line (omega (arith, long h items tasks ls read line, jobs_least items)),
    ))

-- where lines were read, no more jobs are served than they have
pub jobs_reading : (kept : Option Resuming) (ls : List (List ℕ)) → IsReading kept ls
    → jobs_kept kept ≤ jobs_read (reading_of ls)
jobs_reading None ls none = omega arith
jobs_reading (Some r) ls (h, items, tasks, read, it) =
    subst (λ reading. r.server.ready.jobs ≤ jobs_read reading) (sym read.reads)
    (omega (arith, jobs_served r h items it.serving, long h items tasks ls read []))

-- where no more jobs are served than were, the lines with one more have as many
pub jobs_stay : (r : Resuming) (ls : List (List ℕ)) → IsReading (Some r) ls → (line : List ℕ) (n : ℕ)
    → n ≡ r.server.ready.jobs → n ≤ jobs_read (reading_of (ls ++ line ∷ []))
jobs_stay r ls (h, items, tasks, read, it) line n same = jobs_lines ls h items tasks read line n
    (omega (arith, same, jobs_served r h items it.serving, long h items tasks ls read []))
