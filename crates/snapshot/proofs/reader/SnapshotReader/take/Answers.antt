use Rattle.std.proofs.Common.{ℕ, sym, subst, ap, ◌∙◌, Some}
use Rattle.snapshot.specs.Snapshot.{Head}
use Rattle.ready_server.specs.declared.server.ReadyServer.{ReadyServer}
use Rattle.ready_server.specs.Roster as roster
use Rattle.event_feed.specs.Kept.{Kept}
use Rattle.snapshot.specs.Kept.{IsReady}
use Rattle.snapshot.specs.Feeds.{Gives}
use Rattle.snapshot.specs.declared.resuming.Resuming.{Resuming}
use Rattle.snapshot.proofs.Whole.{is_snapshot, resumes_feed}
use Rattle.snapshot.proofs.reader.SnapshotReader.take.Goals as goal

pub returns-clause-gives : goal.returns-clause-gives
returns-clause-gives c = λ ls it.
    let ready : IsReady (Some c.in-Some.resuming) ls =
    subst (λ o. IsReady o ls) (sym c.self.view_is ∙ c.in-Some.is) it in
    let (h, items, tasks, whole, head, resumes) = ready in
    subst (λ (p : ReadyServer × roster.Kept × Kept × ℕ). Gives p.0 p.1 p.2 p.3 ls)
    (sym (c.into_parts.ensures
    ∙ ap (λ (r : Resuming). let p : ReadyServer × roster.Kept × Kept × ℕ =
    (r.server, r.roster, r.intake, r.head.mark) in p) c.in-Some.resuming-is))
    (record {
      is = is_snapshot h items tasks ls whole;
      each = λ F may text. resumes_feed h items tasks ls whole F may text c.in-Some.resuming.server
          c.in-Some.resuming.roster c.in-Some.resuming.intake c.in-Some.resuming.head.mark
          (ap (λ (x : Head). x.mark) head) resumes;
    })
