-- The cases of a step, of a view.
use Rattle.std.specs.Prelude.{Option, Some, None, if◌then◌else◌}
use Rattle.dover_model.specs.declared.events.Task.{Task}
use Rattle.dover_model.specs.Common.{View, resumed, view, Move, Prints, Waits, preempts, arrival, State, Fraction}
use Rattle.dover_model.specs.Common.{is_heavy}
use Rattle.dover_model.specs.declared.events.Version.{Version}
use Rattle.dover_model.specs.declared.events.Event.TheVariants.{Preempt, Take, Abandon}

-- of the first held and the first waiting job, the one that gets the processor
abbrev pub next_of : View → Option Task → Option Task → Option Task
next_of v (Some p) o = Some (resumed v p o)
next_of v None o = o

-- the same of a state
abbrev pub next_ready : Version → State → Option Task
next_ready version s = let v = view version s in next_of v v.first_held v.first_waiting

-- the fresh job f preempts the running job r, or waits
abbrev pub decision_of : View → Task → Task → Move
decision_of v r f = if preempts v f r then Prints (Preempt v.clock r.number f.number) else Waits f.number

-- the first job to come is released now
abbrev pub arrival_of : View → Option Move
arrival_of v = arrival v v.coming

-- the job x takes the processor from r, or is abandoned
abbrev pub alarm_of : Fraction → View → Task → Task → Move
alarm_of k v r x = Prints
    (if is_heavy k x.job.value v.privileged_value then Take v.clock r.number x.number else Abandon v.clock x.number)
