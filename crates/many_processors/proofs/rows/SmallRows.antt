-- Small runs, by computation: on one processor they are those of the machine on one processor.
use Rattle.std.proofs.Common.{◌≡◌, ◌+◌, List, [], ◌∷◌, refl}
use Rattle.dover_model.specs.declared.events.Version.{Version}
use Rattle.dover_model.specs.declared.events.Version.TheVariants.{Three, Four}
use Rattle.dover_model.specs.declared.events.Event.TheVariants.{Release, Run, Preempt, Take, Complete, Abandon, End}
use Rattle.dover_model.specs.declared.events.Event.{Event}
use Rattle.dover_model.specs.Fraction.{Fraction, fraction, with_factor}
use Rattle.dover_model.specs.Finishes.{Finish}
use Rattle.dover_model.specs.JobFacts.{JobFacts}
use Rattle.dover_model.specs.Instance.{Instance}
use Rattle.dover_model.specs.Run as single
use Rattle.dover_model.proofs.rows.Written.{job}
use Rattle.many_processors.specs.Run.{printed, printed_on, ran, completed_value}

-- jobs under a ratio, with finishes
abbrev pub under : Version → Fraction → List Finish → List JobFacts → Instance
under version k finishes jobs =
    record { rules = record { ratio = k; version = version; finishes = finishes }; jobs = jobs }

-- both machines print these events
abbrev BothPrint : Instance → List Event → Type 0
BothPrint J events = (printed 1 J ≡ events) × (single.printed J ≡ events)

-- an overload by hand
overload : BothPrint (under Three (fraction 1 1) []
    (job 0 4 9 4 ∷ job 1 2 4 2 ∷ job 2 13 15 13 ∷ [])) (
    Release 0 (job 0 4 9 4) ∷ Run 0 0 ∷ Release 1 (job 1 2 4 2) ∷ Preempt 1 0 1 ∷
    Release 2 (job 2 13 15 13) ∷ Take 2 1 2 ∷ Abandon 3 1 ∷ Abandon 6 0 ∷ Complete 15 2 ∷ End 13 ∷ []
    )
overload = (refl, refl)

-- of the jobs that wait at 4 the denser one runs
by_density : BothPrint (under Four (fraction 10 1) []
    (job 0 4 5 36 ∷ job 1 1 5 6 ∷ job 2 4 6 20 ∷ job 3 2 6 16 ∷ [])) (
    Release 0 (job 0 4 5 36) ∷ Run 0 0 ∷ Release 1 (job 1 1 5 6) ∷ Release 2 (job 2 4 6 20) ∷ Abandon 2 2 ∷
    Release 3 (job 3 2 6 16) ∷ Complete 4 0 ∷ Run 4 3 ∷ Abandon 4 1 ∷ Complete 6 3 ∷ End 52 ∷ []
    )
by_density = (refl, refl)

-- version Three takes the one that is due first
by_deadline_in_three : BothPrint (under Three (fraction 10 1) []
    (job 0 4 5 36 ∷ job 1 1 5 6 ∷ job 2 4 6 20 ∷ job 3 2 6 16 ∷ [])) (
    Release 0 (job 0 4 5 36) ∷ Run 0 0 ∷ Release 1 (job 1 1 5 6) ∷ Release 2 (job 2 4 6 20) ∷ Abandon 2 2 ∷
    Release 3 (job 3 2 6 16) ∷ Complete 4 0 ∷ Run 4 1 ∷ Abandon 4 3 ∷ Complete 5 1 ∷ End 42 ∷ []
    )
by_deadline_in_three = (refl, refl)

-- an arrival that is less dense than the running job waits, and is lost
arrival_waits : BothPrint (under Four (fraction 10 1) []
    (job 3 2 8 18 ∷ job 3 2 8 16 ∷ job 3 4 7 8 ∷ job 4 3 7 12 ∷ [])) (
    Release 0 (job 3 2 8 18) ∷ Run 3 0 ∷ Release 1 (job 3 2 8 16) ∷ Release 2 (job 3 4 7 8) ∷ Abandon 3 2 ∷
    Release 3 (job 4 3 7 12) ∷ Abandon 4 3 ∷ Complete 5 0 ∷ Run 5 1 ∷ Complete 7 1 ∷ End 34 ∷ []
    )
arrival_waits = (refl, refl)

-- in version Three it preempts
arrival_preempts_in_three : BothPrint (under Three (fraction 10 1) []
    (job 3 2 8 18 ∷ job 3 2 8 16 ∷ job 3 4 7 8 ∷ job 4 3 7 12 ∷ [])) (
    Release 0 (job 3 2 8 18) ∷ Run 3 0 ∷ Release 1 (job 3 2 8 16) ∷ Release 2 (job 3 4 7 8) ∷ Abandon 3 2 ∷
    Release 3 (job 4 3 7 12) ∷ Preempt 4 0 3 ∷ Abandon 6 1 ∷ Complete 7 3 ∷ Run 7 0 ∷ Complete 8 0 ∷ End 30 ∷ []
    )
arrival_preempts_in_three = (refl, refl)

-- the densest waiting job fits before the held one, and runs
before_a_held_job : BothPrint (under Four (with_factor (fraction 4 1) 2 1) []
    (job 0 4 12 8 ∷ job 0 5 5 5 ∷ job 1 1 4 4 ∷ job 1 2 8 2 ∷ job 1 2 10 8 ∷ [])) (
    Release 0 (job 0 4 12 8) ∷ Run 0 0 ∷ Release 1 (job 0 5 5 5) ∷ Preempt 0 0 1 ∷ Release 2 (job 1 1 4 4) ∷
    Release 3 (job 1 2 8 2) ∷ Release 4 (job 1 2 10 8) ∷ Abandon 3 2 ∷ Complete 5 1 ∷ Run 5 4 ∷ Abandon 6 3 ∷
    Complete 7 4 ∷ Run 7 0 ∷ Complete 11 0 ∷ End 21 ∷ []
    )
before_a_held_job = (refl, refl)

-- at rest the pressed state ends
at_rest : BothPrint (under Four (fraction 10 1) []
    (job 0 2 2 2 ∷ job 0 2 2 2 ∷ job 5 2 7 2 ∷ job 5 1 10 1 ∷ job 5 1 20 10 ∷ [])) (
    Release 0 (job 0 2 2 2) ∷ Run 0 0 ∷ Release 1 (job 0 2 2 2) ∷ Abandon 0 1 ∷ Complete 2 0 ∷
    Release 2 (job 5 2 7 2) ∷ Run 5 2 ∷ Release 3 (job 5 1 10 1) ∷ Release 4 (job 5 1 20 10) ∷ Complete 7 2 ∷
    Run 7 3 ∷ Complete 8 3 ∷ Run 8 4 ∷ Complete 9 4 ∷ End 15 ∷ []
    )
at_rest = (refl, refl)

-- without a rest it goes on
without_rest : BothPrint (under Four (fraction 10 1) []
    (job 0 2 2 2 ∷ job 0 2 2 2 ∷ job 1 6 9 6 ∷ job 5 1 10 1 ∷ job 5 1 20 10 ∷ [])) (
    Release 0 (job 0 2 2 2) ∷ Run 0 0 ∷ Release 1 (job 0 2 2 2) ∷ Abandon 0 1 ∷ Release 2 (job 1 6 9 6) ∷
    Complete 2 0 ∷ Run 2 2 ∷ Release 3 (job 5 1 10 1) ∷ Release 4 (job 5 1 20 10) ∷ Complete 8 2 ∷ Run 8 4 ∷
    Complete 9 4 ∷ Run 9 3 ∷ Complete 10 3 ∷ End 19 ∷ []
    )
without_rest = (refl, refl)

-- a finish is a completion: with none ready behind it, the pressed state ends
early : BothPrint (under Four (fraction 10 1) (record { number = 0; had = 2 } ∷ [])
    (job 0 3 3 3 ∷ job 0 3 3 3 ∷ job 2 2 7 2 ∷ job 2 1 10 1 ∷ job 2 1 20 10 ∷ [])) (
    Release 0 (job 0 3 3 3) ∷ Run 0 0 ∷ Release 1 (job 0 3 3 3) ∷ Abandon 0 1 ∷ Complete 2 0 ∷
    Release 2 (job 2 2 7 2) ∷ Run 2 2 ∷ Release 3 (job 2 1 10 1) ∷ Release 4 (job 2 1 20 10) ∷ Complete 4 2 ∷
    Run 4 3 ∷ Complete 5 3 ∷ Run 5 4 ∷ Complete 6 4 ∷ End 16 ∷ []
    )
early = (refl, refl)

-- ---- two processors

-- both run; the third job preempts where the running job is due last; the held job goes on there, though the other
-- processor is free before
stays_there : printed_on 2 (under Three (fraction 1 1) [] (job 0 2 4 2 ∷ job 0 4 9 4 ∷ job 1 3 5 3 ∷ []))
    ≡ (0, Release 0 (job 0 2 4 2)) ∷ (0, Run 0 0) ∷ (0, Release 1 (job 0 4 9 4)) ∷ (1, Run 0 1)
    ∷ (0, Release 2 (job 1 3 5 3)) ∷ (1, Preempt 1 1 2) ∷ (0, Complete 2 0) ∷ (1, Complete 4 2) ∷ (1, Run 4 1)
    ∷ (1, Complete 7 1) ∷ (0, End 9) ∷ []
stays_there = refl

-- what each tick is given to
stays_ticks : ran 2 (under Three (fraction 1 1) [] (job 0 2 4 2 ∷ job 0 4 9 4 ∷ job 1 3 5 3 ∷ []))
    ≡ (0 ∷ 1 ∷ []) ∷ (0 ∷ 2 ∷ []) ∷ (2 ∷ []) ∷ (2 ∷ []) ∷ (1 ∷ []) ∷ (1 ∷ []) ∷ (1 ∷ []) ∷ []
stays_ticks = refl

-- the example by hand: a preemption, a take of the processor of least value, an abandonment, and a displaced job that
-- goes on on the other processor before the one that is held there
by_hand : printed_on 2 (under Four (with_factor (fraction 2 1) 2 1) []
    (job 0 6 12 6 ∷ job 0 4 6 8 ∷ job 1 2 4 3 ∷ job 1 3 5 3 ∷ job 2 9 11 18 ∷ job 2 2 12 4 ∷ []))
    ≡ (0, Release 0 (job 0 6 12 6)) ∷ (0, Run 0 0) ∷ (0, Release 1 (job 0 4 6 8)) ∷ (1, Run 0 1)
    ∷ (0, Release 2 (job 1 2 4 3)) ∷ (0, Preempt 1 0 2) ∷ (0, Release 3 (job 1 3 5 3))
    ∷ (0, Release 4 (job 2 9 11 18)) ∷ (0, Release 5 (job 2 2 12 4)) ∷ (1, Take 2 1 4) ∷ (0, Abandon 2 3)
    ∷ (0, Complete 3 2) ∷ (0, Run 3 1) ∷ (0, Complete 5 1) ∷ (0, Run 5 0) ∷ (0, Complete 10 0) ∷ (0, Run 10 5)
    ∷ (1, Complete 11 4) ∷ (0, Complete 12 5) ∷ (0, End 39) ∷ []
by_hand = refl

-- a job that comes to a finish is done behind what has nothing left, and behind what begins on the free processor
finish_comes_later : printed_on 2 (under Four (fraction 1 1) (record { number = 0; had = 2 } ∷ [])
    (job 0 4 8 4 ∷ job 0 2 3 2 ∷ job 0 2 9 2 ∷ []))
    ≡ (0, Release 0 (job 0 4 8 4)) ∷ (0, Run 0 0) ∷ (0, Release 1 (job 0 2 3 2)) ∷ (1, Run 0 1)
    ∷ (0, Release 2 (job 0 2 9 2)) ∷ (1, Complete 2 1) ∷ (1, Run 2 2) ∷ (0, Complete 2 0) ∷ (1, Complete 4 2)
    ∷ (0, End 8) ∷ []
finish_comes_later = refl

-- a job at its latest start takes the processor of least value
takes_the_least : printed_on 2 (under Three (fraction 1 1) [] (job 0 4 6 4 ∷ job 0 5 5 5 ∷ job 1 9 10 9 ∷ []))
    ≡ (0, Release 0 (job 0 4 6 4)) ∷ (0, Run 0 0) ∷ (0, Release 1 (job 0 5 5 5)) ∷ (1, Run 0 1)
    ∷ (0, Release 2 (job 1 9 10 9)) ∷ (0, Take 1 0 2) ∷ (1, Abandon 3 0) ∷ (1, Complete 5 1) ∷ (0, Complete 10 2)
    ∷ (0, End 14) ∷ []
takes_the_least = refl

-- of two running jobs that are due last alike the one on the processor of least number is preempted
tie_by_number : printed_on 2 (under Four (fraction 2 1) [] (job 0 4 9 8 ∷ job 0 4 9 4 ∷ job 1 1 4 1 ∷ []))
    ≡ (0, Release 0 (job 0 4 9 8)) ∷ (0, Run 0 0) ∷ (0, Release 1 (job 0 4 9 4)) ∷ (1, Run 0 1)
    ∷ (0, Release 2 (job 1 1 4 1)) ∷ (0, Preempt 1 0 2) ∷ (0, Complete 2 2) ∷ (0, Run 2 0) ∷ (1, Complete 4 1)
    ∷ (0, Complete 5 0) ∷ (0, End 13) ∷ []
tie_by_number = refl

-- a fresh job that is due when the running ones are waits, though it fits and is denser
due_alike_waits : printed_on 2 (under Four (fraction 2 1) [] (job 0 2 6 2 ∷ job 0 3 6 3 ∷ job 1 1 6 2 ∷ []))
    ≡ (0, Release 0 (job 0 2 6 2)) ∷ (0, Run 0 0) ∷ (0, Release 1 (job 0 3 6 3)) ∷ (1, Run 0 1)
    ∷ (0, Release 2 (job 1 1 6 2)) ∷ (0, Complete 2 0) ∷ (0, Run 2 2) ∷ (0, Complete 3 2) ∷ (1, Complete 3 1)
    ∷ (0, End 7) ∷ []
due_alike_waits = refl

-- ---- what isn't true on several processors

-- three jobs that two processors could serve: of their 8 the run completes 4
loses_where_all_fit : completed_value 2 (under Four (with_factor (fraction 1 1) 2 1) []
    (job 2 2 6 2 ∷ job 2 2 4 2 ∷ job 2 4 6 4 ∷ [])) ≡ 4
loses_where_all_fit = refl

-- jobs of which two processors complete more than three
abbrev six_jobs : Instance
six_jobs = under Four (with_factor (fraction 4 1) 2 1) []
    (job 0 2 5 8 ∷ job 1 4 7 12 ∷ job 2 4 6 12 ∷ job 2 4 6 8 ∷ job 3 2 6 2 ∷ job 4 4 9 16 ∷ [])

two_complete : completed_value 2 six_jobs ≡ 48
two_complete = refl

three_complete : completed_value 3 six_jobs ≡ 42
three_complete = refl

-- jobs of which a pool of two completes less than two feeds of one processor each
abbrev under_four : List JobFacts → Instance
under_four jobs = under Four (with_factor (fraction 4 1) 2 1) [] jobs

as_one_pool : completed_value 2 (under_four (job 1 4 6 8 ∷ job 1 5 10 5 ∷ job 2 3 8 3 ∷ job 3 4 8 16 ∷ [])) ≡ 16
as_one_pool = refl

dealt_in_turn : single.completed_value (under_four (job 1 4 6 8 ∷ job 2 3 8 3 ∷ []))
    + single.completed_value (under_four (job 1 5 10 5 ∷ job 3 4 8 16 ∷ [])) ≡ 32
dealt_in_turn = refl
