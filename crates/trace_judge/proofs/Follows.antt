-- What may come next, by its parts: a refused line, and an early completion.
use Rattle.dover_model.specs.Common.{State, Session, Refused, EarlyFinish}
use Rattle.dover_model.proofs.sessions.SessionParts.{MayBeRefused, MayFinish, may_be_refused-agrees, may_finish-agrees}
use Rattle.std.proofs.Common.{ℕ}
use Rattle.trace_judge.specs.Reading.{MayRefuse, MayComplete}

-- a refused line that may come next may stand there
pub refused_parts : {S : Session} {floor : ℕ} {s z : State} {r : Refused} → MayRefuse S floor s r z
    → MayBeRefused S floor r
refused_parts {S} {floor} {s} {z} {r} may = (may_be_refused-agrees S floor r).0 may.refused

-- and so may the finish of an early completion that may come next
pub finish_parts : {S : Session} {floor : ℕ} {s z : State} {f : EarlyFinish} → MayComplete S floor s f z
    → MayFinish S floor f
finish_parts {S} {floor} {s} {z} {f} may = (may_finish-agrees S floor f).0 may.finishes
