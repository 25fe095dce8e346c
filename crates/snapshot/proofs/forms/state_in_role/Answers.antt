use Rattle.dover_model.specs.Common.{fields_of, numerals}
use Rattle.snapshot.proofs.Formed.{no_numbers}
use Rattle.snapshot.proofs.forms.state_in_role.Goals as goal

pub returns-in_default : goal.returns-in_default
returns-in_default c = no_numbers c.args.role c.args.number (numerals (fields_of c.args.fields.now))
    c.in_default.ensures.none
