-- A schedule that was drawn is legal.
use Rattle.std.proofs.Common.{◌≡◌, List, refl}
use Rattle.dover_port.specs.Moves.{Move, ins, outs}
use Rattle.dover_port.specs.declared.status.Status.{Status}
use Rattle.dover_port.specs.declared.status.Status.TheVariants.{Done, No, Refused}
use Rattle.schedule_judge.specs.Account.{account}
use Rattle.schedule_judge.specs.declared.intake.Standing.{Standing}
use Rattle.schedule_judge.specs.declared.intake.Standing.TheVariants.{Open, Ended, Wrong, TooMany}
use Rattle.schedule_judge.proofs.Worth.{worth_it}
use Rattle.trace_words.specs.declared.schedule.form.ScheduleForm.{ScheduleForm}
use Rattle.trace_words.specs.schedule.Talk.{IsSaid, status_of}
use Rattle.dover_top.specs.LegalSchedules.{IsLegal}

-- all was done only where the text ended
done_ended : (s : Standing) → Done ≡ status_of s → s ≡ Ended
done_ended Open done = absurd (let clash : Done ≡ No = done in cc)
done_ended Ended done = refl
done_ended (Wrong c) done = absurd (let clash : Done ≡ No = done in cc)
done_ended TooMany done = absurd (let clash : Done ≡ Refused = done in cc)

pub legal_so : (form : ScheduleForm) (moves : List Move)
    → IsSaid form (account (ins moves)) Done (outs moves) → IsLegal moves
legal_so form moves said = record {
  ended = done_ended (account (ins moves)).standing said.status_is;
  some_schedule = λ J jobs. worth_it (ins moves) J jobs;
}
