use Rattle.std.proofs.Common.{refl}
use Rattle.dover_model.specs.Common.{job_of_numbers}
use Rattle.ratio_word.proofs.Offering.{offered_bad}
use Rattle.ratio_word.proofs.intake.Intake.offer.Goals as goal

pub returns-in-Err : goal.returns-in-Err
returns-in-Err c = λ a opened keeps.
    offered_bad a (job_of_numbers c.args.release c.args.work c.args.deadline c.args.value) c.args.self.now opened keeps
    _ c.in-Some.is c.in-Err.cause c.in-Err.ensures c.args.self.now refl
