-- The jobs that the steps of a run release.
use Rattle.std.proofs.Common.{◌≡◌, suc, ◌+◌, ◌≤◌, List, [], ◌∷◌, ◌++◌, length, map, refl, sym, ap, ◌∙◌, Bool, true}
use Rattle.std.proofs.Common.{false, arith, append_assoc, append-nil, length-append, nat_lt, Option, Some, None}
use Rattle.std.proofs.Common.{filter_map, fold}
use Rattle.std.specs.Bool.{then_some}
use Rattle.std.specs.List.{cons_option}
use Rattle.dover_model.specs.Common.{Instance, IsValid, Item, FinishItem, admitted_jobs, finish_now, running, left}
use Rattle.dover_model.specs.Common.{Move}
use Rattle.dover_model.specs.Common.{Prints, handed_by, early_of as shown_early, Step, run, event_of, printed_of}
use Rattle.dover_model.specs.Common.{printed}
use Rattle.dover_model.specs.Common.{entry_of, to_come}
use Rattle.dover_model.specs.declared.events.Entry.{Entry}
use Rattle.dover_model.specs.declared.events.Event.{Event}
use Rattle.dover_model.specs.declared.events.Event.TheVariants.{Release, Complete}
use Rattle.dover_model.specs.declared.events.Role.TheVariants.{Coming}
use Rattle.dover_model.specs.declared.events.Task.{Task}
use Rattle.dover_model.proofs.runs.ReleaseCounts.{releases}
use Rattle.dover_model.proofs.sessions.RunSessions.{run_jobs}
use Rattle.run_record.specs.ledger.Pages.{entries_by, with_entry}

-- steps release the jobs that they show to have been handed in
released_shown : (xs : List Step) → releases (printed_of xs) ≡ admitted_jobs (filter_map handed_by xs)
released_shown [] = refl
released_shown (x ∷ xs) = by_move x.move (released_shown xs) where
  shown : List Item
  shown = filter_map handed_by xs

  by_early : (o : Option Task) → admitted_jobs shown ≡ admitted_jobs (cons_option (shown_early x.before.clock o) shown)
  by_early None = refl
  by_early (Some r) = by_left (nat_lt 0 (left r)) where
    by_left : (b : Bool) → admitted_jobs shown ≡ admitted_jobs (cons_option
        (then_some b (FinishItem (record { at = x.before.clock; finish = finish_now r }))) shown)
    by_left true = refl
    by_left false = refl

  by_move : (m : Move) → releases (printed_of xs) ≡ admitted_jobs shown
      → releases (cons_option (event_of m) (printed_of xs))
      ≡ admitted_jobs (cons_option (handed_by (record { before = x.before; move = m })) shown)
  by_move (Prints (Release n j)) rest = ap (λ js. j ∷ js) rest
  by_move (Prints (Complete at n)) rest = rest ∙ by_early (running x.before)
  by_move _ rest = rest

-- a run releases its jobs, in their order
pub releases_are : (J : Instance) → IsValid J → releases (printed J) ≡ J.jobs
releases_are J valid = released_shown (run J) ∙ run_jobs J valid

-- the jobs that steps release, before they run, behind those that stand already
pub entries_after : (es : List Entry) (run : List Event)
    → fold with_entry es run ≡ es ++ map entry_of (to_come (length es) (releases run))
entries_after es [] = sym (append-nil es)
entries_after es (Release m job ∷ run) =
    let x : Entry = entry_of (record { number = length es; job = job; role = Coming; had = 0 }) in
    let more : length (es ++ x ∷ []) ≡ suc (length es) = omega (arith, length-append es (x ∷ [])) in
    entries_after (es ++ x ∷ []) run
    ∙ ap (λ n. (es ++ x ∷ []) ++ map entry_of (to_come n (releases run))) more
    ∙ append_assoc es (x ∷ []) (map entry_of (to_come (suc (length es)) (releases run)))
entries_after es (e ∷ run) = ap (λ xs. fold with_entry xs run) (append-nil es) ∙ entries_after es run

-- one step more brings one job at most
pub one_entry : (es : List Entry) (e : Event) → length (with_entry es e) ≤ length es + 1
one_entry es (Release m job) = omega (arith, length-append es (entries_by (length es) (Release m job)))
one_entry es e = omega (arith, length-append es [])
