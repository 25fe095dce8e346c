use Rattle.std.proofs.Common.{sym, ◌∙◌, arith}
use Rattle.snapshot.proofs.Formed.{head_behind, no_head_in}
use Rattle.snapshot.proofs.forms.read_head.Goals as goal

pub returns-in-Some : goal.returns-in-Some
returns-in-Some c = c.head_left.ensures ∙ sym (head_behind c.args.line.now c.in-Some.fields.now
    (omega (arith, c.if-line-ge-LINE_BYTES.false)) c.in-Some.ensures.some)

pub returns-in-None : goal.returns-in-None
returns-in-None c = sym (no_head_in c.args.line.now (omega (arith, c.if-line-ge-LINE_BYTES.false))
    c.in-None.ensures.none)
