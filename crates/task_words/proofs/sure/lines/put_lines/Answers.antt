use Rattle.std.proofs.Common.{◌∙◌, ◌++◌, ◌∷◌, [], refl, subst, arith}
use Rattle.std.proofs.lemmas.List.{length-map}
use Rattle.task_laws.specs.Sure.{blank_stream}
use Rattle.dover_model.specs.Common.{rules_with}
use Rattle.dover_port.proofs.Through.{passes_nothing, passes_then}
use Rattle.dover_port.specs.Moves.{CutsShort, Passes, PutsThrough}
use Rattle.dialogue.proofs.Putting.{puts_behind, puts_cut}
use Rattle.task_words.specs.sure.Lines.{sure_line}
use Rattle.task_words.specs.sure.Streams.{stream_of, streams_of}
use Rattle.task_words.proofs.sure.Rows.{more, all, whole}
use Rattle.task_words.proofs.sure.lines.put_lines.Goals as goal

pub loop-number-preserved : goal.loop-number-preserved
loop-number-preserved g c = record {
  passes = subst (Passes _ _ _ _)
      (more (sure_line (rules_with c.args.together.now.ratio c.args.together.now.version)
      (streams_of c.args.tasks.now)) blank_stream
      (streams_of c.args.tasks.now) c.loop-number.number
      (omega (arith, c.loop-number-test.true, length-map c.args.tasks.now stream_of)))
      (passes_then _ _ _ _ _ _ _ _ c.loop-number.invariant.passes
      (subst (λ l. Passes (g.P.Port.moves c.loop-number.port) (g.P.Port.moves c.put_told.new.port) c.loop-number.out
      c.put_told.new.out (l ++ 10 ∷ [])) c.tell-told.ensures c.in-Ok.ensures.text.all));
  writes = c.in-Ok.ensures.cause.ok ∙ c.loop-number.invariant.writes;
  reads = c.in-Ok.ensures.cause.other ∙ c.loop-number.invariant.reads;
  calls = λ well. c.in-Ok.ensures.stops.well (c.loop-number.invariant.calls well);
}

pub returns-in-Err-clause-text : goal.returns-in-Err-clause-text
returns-in-Err-clause-text g c =
    subst (PutsThrough _ _ _ _ _)
    (all (sure_line (rules_with c.args.together.now.ratio c.args.together.now.version)
    (streams_of c.args.tasks.now)) blank_stream (streams_of c.args.tasks.now)
    c.loop-number.number (omega (arith, c.loop-number-test.true, length-map c.args.tasks.now stream_of)))
    (puts_behind _ _ _ _ _ _ _ _ _ c.loop-number.invariant.passes
    (puts_cut _ _ _ _ _ _ _
    (subst (λ l. CutsShort (g.P.Port.moves c.loop-number.port) (g.P.Port.moves c.put_told.new.port) c.loop-number.out
    (l ++ 10 ∷ [])) c.tell-told.ensures c.in-Err.ensures.text.part)))

pub loop-number-init : goal.loop-number-init
loop-number-init g c = record {
  passes = passes_nothing _ _;
  writes = refl;
  reads = refl;
  calls = λ well. well;
}

pub returns-clause-text : goal.returns-clause-text
returns-clause-text g c = record {
  all = subst (Passes _ _ _ _)
      (whole (sure_line (rules_with c.args.together.now.ratio c.args.together.now.version)
      (streams_of c.args.tasks.now)) blank_stream
      (streams_of c.args.tasks.now) c.loop-number.number
      (omega (arith, c.loop-number-test.false, length-map c.args.tasks.now stream_of)))
      c.loop-number.invariant.passes;
  part = tt;
}
