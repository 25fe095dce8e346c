use Rattle.std.proofs.Common.{ap, ◌∙◌, arith, List, length}
use Rattle.dover_model.specs.declared.events.Event.{Event}
use Rattle.schedule_judge.specs.Account.{Account}
use Rattle.schedule_judge.proofs.Accounts.{few_steps}
use Rattle.schedule_judge.proofs.reader.ScheduleReader.close.Goals as goal

pub returns : goal.returns
returns c = λ x it.
    let steps = c.into_steps.ensures ∙ ap (λ (a : Account). a.schedule.steps) it.says in
    let few = few_steps x in
    let count = ap (λ (es : List Event). length es) steps in
    record {
      lines = c.lines-lines.ensures ∙ ap (λ (a : Account). a.lines) it.says;
      standing = c.standing-standing.ensures ∙ ap (λ (a : Account). a.standing) it.says;
      steps = steps;
      few = omega (arith, few, count);
    }
