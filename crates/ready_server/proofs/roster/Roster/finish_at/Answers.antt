-- The early finish of the job that runs is read where the roll lists it.
use Rattle.std.proofs.Common.{◌≡◌, ℕ, sym, ap, refl, ◌∙◌, Option, Some, slice_get, option_and_then}
use Rattle.std.proofs.lemmas.Option.{slice_get_read}
use Rattle.ready_server.specs.Roster.{ListedJob, Roll, Kept, finish_of, finish_here}
use Rattle.ready_server.specs.declared.roster.ListedFinish.{ListedFinish}
use Rattle.ready_server.proofs.roster.Roster.finish_at.Goals as goal

-- so it is read where the code's view of the roll has it
here_by : (k : Kept) (p : Roll) (room more at n : ℕ) (e : ListedJob) (o : Option ListedFinish)
    → record { roll = p; room = room; finish_room = more } ≡ k → p.turn ≡ Some n → slice_get p.jobs n ≡ Some e
    → o ≡ finish_of k.roll at n e → o ≡ finish_here k.roll at
here_by k p room more at n e o viewed turn found is = is ∙ ap (λ (l : Kept). finish_of l.roll at n e) (sym viewed)
    ∙ sym (ap (option_and_then (finish_of p at n)) found)
    ∙ sym (ap (option_and_then (λ m. option_and_then (finish_of p at m) (slice_get p.jobs m))) turn)
    ∙ ap (λ (l : Kept). finish_here l.roll at) viewed

pub returns : goal.returns
returns c =
    let it = c.in_ok-job.ensures.lookup in
    let found = slice_get_read c.deref.result.now _ c.in_ok-number.number c.in_ok-job.job.now refl it.3.0 it.1 in
    here_by c.args.self.now (record {
      jobs = c.self.inside.jobs.items;
      finishes = c.self.inside.finishes.items;
      takes = c.self.inside.takes;
      turn = c.self.inside.turn;
      since = c.self.inside.since;
    }) _ _ c.args.at c.in_ok-number.number c.in_ok-job.job.now _ c.self.view_is c.in_ok-number.was
    (ap (λ l. slice_get l c.in_ok-number.number) (sym c.deref.ensures.value) ∙ found) c.finish_of.ensures
