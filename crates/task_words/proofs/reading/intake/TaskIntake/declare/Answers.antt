use Rattle.std.proofs.Common.{ap, subst, Option, option_map}
use Rattle.dover_model.specs.Common.{Declaration, rules_with}
use Rattle.dover_model.specs.declared.events.Version.{Version}
use Rattle.dover_model.specs.declared.ratios.Ratio.{Ratio}
use Rattle.task_words.specs.reading.Keeping.{Declares}
use Rattle.task_words.proofs.reading.intake.TaskIntake.declare.Goals as goal

-- the rules of a ratio and a version
abbrev rules_of : Ratio × Version → Declaration
rules_of declared = rules_with declared.0 declared.1

pub returns-in-Some-clause-stands : goal.returns-in-Some-clause-stands
returns-in-Some-clause-stands c until read a declares opened keeps =
    c.begin.ensures.stands until read a (subst (Declares read)
    (ap (λ (o : Option (Ratio × Version)). option_map rules_of o) c.in-Some.is) declares) opened keeps
