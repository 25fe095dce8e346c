use Rattle.std.proofs.Common.{sym, ◌∙◌}
use Rattle.snapshot.proofs.Formed.{behind_role, no_role}
use Rattle.snapshot.proofs.forms.state_behind.Goals as goal

pub returns-in-Some : goal.returns-in-Some
returns-in-Some c = c.state_in_role.ensures ∙ sym (behind_role c.args.number c.args.fields.now c.in-Some.rest.now
    c.in-Some.role c.in-Some.ensures.some c.in-Some.ensures.stored)

pub returns-in-None : goal.returns-in-None
returns-in-None c = sym (no_role c.args.number c.args.fields.now c.in-None.ensures.none)
