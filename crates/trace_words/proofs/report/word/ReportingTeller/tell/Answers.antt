use Rattle.std.proofs.Common.{◌∙◌, sym}
use Rattle.dover_model.specs.Session.{instance_of}
use Rattle.dover_model.proofs.lists.Tests.{never}
use Rattle.trace_words.proofs.report.Answering.{prints, run_of, reported, unreported, refused_size, unrefused_size}
use Rattle.trace_words.proofs.report.Answering.{refused, unrefused}
use Rattle.dover_model.proofs.sessions.SessionParts.{session_jobs}
use Rattle.trace_words.proofs.report.word.ReportingTeller.tell.Goals as goal

pub put_report-requires-clause-run : goal.put_report-requires-clause-run
put_report-requires-clause-run g c =
    let tells = rw c.in-Accepted.is at c.requires.closed.1.tells in
    let are = c.deref.ensures.value ∙ c.requires.closed.1.steps in (
      instance_of tells.0,
      run_of _ _ _ _ _ c.requires.closed.0 tells _ c.requires.closed.1.steps
          ((c.is_small.ensures (instance_of tells.0) (session_jobs tells.7.valid)
          (prints _ _ _ _ _ c.requires.closed.0 tells _ are) (sym tells.3)).0 c.if-is_small.true),
    )

pub returns-in-Ok-clause-answers : goal.returns-in-Ok-clause-answers
returns-in-Ok-clause-answers g c = λ text ended closed.
    let tells = rw c.in-Accepted.is at closed.tells in
    let are = c.deref.ensures.value ∙ closed.steps in
    let listable = (c.is_small.ensures (instance_of tells.0) (session_jobs tells.7.valid)
    (prints _ _ _ _ _ text tells _ are) (sym tells.3)).0 c.if-is_small.true in
    reported _ _ _ _ _ text tells c.args.self.form ended _ _ _ listable _ (c.in-Ok.ensures.puts (instance_of tells.0)
    (run_of _ _ _ _ _ text tells _ closed.steps listable) (sym tells.3))

pub returns-in-Err-clause-answers : goal.returns-in-Err-clause-answers
returns-in-Err-clause-answers g c = λ text ended closed.
    let tells = rw c.in-Accepted.is at closed.tells in
    let are = c.deref.ensures.value ∙ closed.steps in
    let listable = (c.is_small.ensures (instance_of tells.0) (session_jobs tells.7.valid)
    (prints _ _ _ _ _ text tells _ are) (sym tells.3)).0 c.if-is_small.true in
    unreported _ _ _ _ _ text tells c.args.self.form ended _ _ c.put_report.new.out listable c.in-Err.stop
    (c.in-Err.ensures.puts (instance_of tells.0)
    (run_of _ _ _ _ _ text tells _ closed.steps listable) (sym tells.3))

pub returns-in-Ok-put_size-clause-answers : goal.returns-in-Ok-put_size-clause-answers
returns-in-Ok-put_size-clause-answers g c = λ text ended closed.
    let tells = rw c.in-Accepted.is at closed.tells in
    let are = c.deref.ensures.value ∙ closed.steps in
    refused_size _ _ _ _ _ text tells c.args.self.form ended _ _ _ c.requires.empty
    (λ listable. never (sym c.if-is_small.false ∙ (c.is_small.ensures (instance_of tells.0) (session_jobs tells.7.valid)
    (prints _ _ _ _ _ text tells _ are) (sym tells.3)).1 listable)) _ c.in-Ok-put_size.ensures.puts

pub returns-in-Err-put_size-clause-answers : goal.returns-in-Err-put_size-clause-answers
returns-in-Err-put_size-clause-answers g c = λ text ended closed.
    let tells = rw c.in-Accepted.is at closed.tells in
    let are = c.deref.ensures.value ∙ closed.steps in
    unrefused_size _ _ _ _ _ text tells c.args.self.form ended _ _ _ c.requires.empty
    (λ listable. never (sym c.if-is_small.false ∙ (c.is_small.ensures (instance_of tells.0) (session_jobs tells.7.valid)
    (prints _ _ _ _ _ text tells _ are) (sym tells.3)).1 listable)) c.in-Err-put_size.stop
    c.in-Err-put_size.ensures.puts

pub put_verdict-requires : goal.put_verdict-requires
put_verdict-requires g c = (c.requires.closed.0, c.requires.closed.1.tells)

pub returns-in-Ok-put_verdict-clause-answers : goal.returns-in-Ok-put_verdict-clause-answers
returns-in-Ok-put_verdict-clause-answers g c = λ text ended closed. rw c.status_of.ensures
    (refused c.args.self.form c.args.closed.verdict text ended closed.tells c.in_default.not-Accepted _ _ _
    (rw c.requires.empty at (c.in-Ok-put_verdict.ensures.text text closed.tells).all))

pub returns-in-Err-put_verdict-clause-answers : goal.returns-in-Err-put_verdict-clause-answers
returns-in-Err-put_verdict-clause-answers g c = λ text ended closed.
    unrefused c.args.self.form c.args.closed.verdict text ended closed.tells c.in_default.not-Accepted _ _
    c.put_verdict.new.out (rw c.requires.empty at (c.in-Err-put_verdict.ensures.text text closed.tells).part)
