use Rattle.std.proofs.Common.{◌∙◌, sym, [], Ok, Err}
use Rattle.dover_model.specs.Session.{instance_of}
use Rattle.dover_model.proofs.lists.Tests.{never}
use Rattle.dover_model.proofs.sessions.SessionParts.{session_jobs}
use Rattle.trace_words.proofs.report.Answering.{same_run, whole_put}
use Rattle.task_report.specs.Pictures.{IsTaskReport}
use Rattle.task_report.proofs.Told.{drawn_cut, drawn_put, run_of, size_cut, size_put}
use Rattle.task_report.proofs.telling.tell_picture.Goals as goal

pub picture-requires-clause-run : goal.picture-requires-clause-run
picture-requires-clause-run g c =
    let S = c.requires.run.0 in
    let of = c.requires.run.1 in (
      instance_of S,
      same_run _ _ _ _ c.deref-then-is_small.ensures.value (run_of S _ _ _ of ((c.is_small.ensures (instance_of S)
          (session_jobs of.valid) (sym (c.deref.ensures.value ∙ of.prints)) of.version_is).0 c.if-is_small.true)),
    )

pub returns-in-Ok-clause-tells : goal.returns-in-Ok-clause-tells
returns-in-Ok-clause-tells g c = λ trace S accepted of.
    let listable = (c.is_small.ensures (instance_of S) (session_jobs of.valid)
    (sym (c.deref.ensures.value ∙ of.prints)) of.version_is).0 c.if-is_small.true in
    drawn_put c.args.form c.args.tasks.now c.requires.drawn trace S accepted _ _ _ of _ _ listable _
    (whole_put _ (IsTaskReport c.args.form c.args.tasks.now (instance_of S)) {T = Unit {0}} _ (Ok (record {})) _ _ []
    c.in-Ok.ensures.puts
    (c.picture.ensures (instance_of S)
    (same_run _ _ _ _ c.deref-then-is_small.ensures.value (run_of S _ _ _ of listable))))

pub returns-then-is_small-clause-tells : goal.returns-then-is_small-clause-tells
returns-then-is_small-clause-tells g c = λ trace S accepted of.
    let listable = (c.is_small.ensures (instance_of S) (session_jobs of.valid)
    (sym (c.deref.ensures.value ∙ of.prints)) of.version_is).0 c.if-is_small.true in
    drawn_cut c.args.form c.args.tasks.now c.requires.drawn trace S accepted _ _ _ of _ _ listable
    c.in-Err.stop
    (whole_put _ (IsTaskReport c.args.form c.args.tasks.now (instance_of S)) {T = Unit {0}} _ (Err c.in-Err.stop) _ _ []
    c.in-Err.ensures.puts
    (c.picture.ensures (instance_of S)
    (same_run _ _ _ _ c.deref-then-is_small.ensures.value (run_of S _ _ _ of listable))))

pub returns-in-Ok-put_size-clause-tells : goal.returns-in-Ok-put_size-clause-tells
returns-in-Ok-put_size-clause-tells g c = λ trace S accepted of.
    size_put c.args.form c.args.tasks.now c.requires.drawn trace S accepted _ _ _ of _ _
    (λ listable. never (sym c.if-is_small.false ∙ (c.is_small.ensures (instance_of S) (session_jobs of.valid)
    (sym (c.deref.ensures.value ∙ of.prints)) of.version_is).1 listable)) _ c.in-Ok-put_size.ensures.puts

pub returns-clause-tells : goal.returns-clause-tells
returns-clause-tells g c = λ trace S accepted of.
    size_cut c.args.form c.args.tasks.now c.requires.drawn trace S accepted _ _ _ of _ _
    (λ listable. never (sym c.if-is_small.false ∙ (c.is_small.ensures (instance_of S) (session_jobs of.valid)
    (sym (c.deref.ensures.value ∙ of.prints)) of.version_is).1 listable)) c.in-Err-put_size.stop
    c.in-Err-put_size.ensures.puts

pub returns-in-Ok-clause-cause : goal.returns-in-Ok-clause-cause
returns-in-Ok-clause-cause g c = c.in-Ok.ensures.cause

pub returns-in-Ok-clause-stops : goal.returns-in-Ok-clause-stops
returns-in-Ok-clause-stops g c = c.in-Ok.ensures.stops

pub returns-then-is_small-clause-cause : goal.returns-then-is_small-clause-cause
returns-then-is_small-clause-cause g c = c.in-Err.ensures.cause

pub returns-then-is_small-clause-stops : goal.returns-then-is_small-clause-stops
returns-then-is_small-clause-stops g c = c.in-Err.ensures.stops

pub returns-in-Ok-put_size-clause-cause : goal.returns-in-Ok-put_size-clause-cause
returns-in-Ok-put_size-clause-cause g c = c.in-Ok-put_size.ensures.cause

pub returns-in-Ok-put_size-clause-stops : goal.returns-in-Ok-put_size-clause-stops
returns-in-Ok-put_size-clause-stops g c = c.in-Ok-put_size.ensures.stops

pub returns-clause-cause : goal.returns-clause-cause
returns-clause-cause g c = c.in-Err-put_size.ensures.cause

pub returns-clause-stops : goal.returns-clause-stops
returns-clause-stops g c = c.in-Err-put_size.ensures.stops
