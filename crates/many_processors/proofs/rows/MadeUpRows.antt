-- Runs of made-up feeds, by computation, as a program written apart from these definitions printed them: on two to four
-- processors, by the root and by a factor, with early finishes and without.
use Rattle.std.proofs.Common.{◌≡◌, [], ◌∷◌, refl}
use Rattle.dover_model.specs.declared.events.Version.TheVariants.{Four}
use Rattle.dover_model.specs.declared.events.Event.TheVariants.{Release, Run, Preempt, Take, Complete, Abandon, End}
use Rattle.dover_model.specs.Fraction.{fraction, with_factor}
use Rattle.dover_model.proofs.rows.Written.{job}
use Rattle.many_processors.specs.Run.{printed_on}
use Rattle.many_processors.proofs.rows.SmallRows.{under}

made_up_1 : printed_on 2 (under Four (fraction 2 1) []
    (job 1 3 9 6 ∷ job 2 4 11 8 ∷ job 3 1 5 2 ∷ job 3 2 5 4 ∷ job 4 2 6 4 ∷ job 4 2 11 2 ∷ job 6 4 10 8 ∷ []))
    ≡ (0, Release 0 (job 1 3 9 6)) ∷ (0, Run 1 0) ∷ (0, Release 1 (job 2 4 11 8)) ∷ (1, Run 2 1)
    ∷ (0, Release 2 (job 3 1 5 2)) ∷ (1, Preempt 3 1 2) ∷ (0, Release 3 (job 3 2 5 4)) ∷ (0, Preempt 3 0 3)
    ∷ (1, Complete 4 2) ∷ (1, Run 4 1) ∷ (0, Release 4 (job 4 2 6 4)) ∷ (1, Preempt 4 1 4)
    ∷ (0, Release 5 (job 4 2 11 2)) ∷ (0, Complete 5 3) ∷ (0, Run 5 0) ∷ (0, Complete 6 0)
    ∷ (1, Complete 6 4) ∷ (1, Run 6 1) ∷ (0, Run 6 5) ∷ (0, Release 6 (job 6 4 10 8))
    ∷ (0, Take 6 5 6) ∷ (1, Complete 9 1) ∷ (1, Run 9 5) ∷ (0, Complete 10 6)
    ∷ (1, Complete 11 5) ∷ (0, End 34) ∷ []
made_up_1 = refl

made_up_2 : printed_on 2 (under Four (with_factor (fraction 4 1) 2 1) []
    (job 1 5 15 20 ∷ job 1 6 8 18 ∷ job 2 1 8 4 ∷ job 2 1 6 1 ∷ job 3 2 5 6 ∷ job 4 6 15 18 ∷ job 6 5 11 15
    ∷ job 6 3 11 3 ∷ []))
    ≡ (0, Release 0 (job 1 5 15 20)) ∷ (0, Run 1 0) ∷ (0, Release 1 (job 1 6 8 18)) ∷ (1, Run 1 1)
    ∷ (0, Release 2 (job 2 1 8 4)) ∷ (0, Preempt 2 0 2) ∷ (0, Release 3 (job 2 1 6 1)) ∷ (0, Preempt 2 2 3)
    ∷ (0, Complete 3 3) ∷ (0, Run 3 2) ∷ (0, Release 4 (job 3 2 5 6)) ∷ (0, Preempt 3 2 4)
    ∷ (0, Release 5 (job 4 6 15 18)) ∷ (0, Complete 5 4) ∷ (0, Run 5 2) ∷ (0, Complete 6 2)
    ∷ (0, Run 6 0) ∷ (0, Release 6 (job 6 5 11 15)) ∷ (0, Preempt 6 0 6)
    ∷ (0, Release 7 (job 6 3 11 3)) ∷ (1, Complete 7 1) ∷ (1, Run 7 7) ∷ (1, Take 9 7 5)
    ∷ (1, Abandon 10 7) ∷ (0, Complete 11 6) ∷ (0, Run 11 0) ∷ (0, Complete 15 0)
    ∷ (1, Complete 15 5) ∷ (0, End 82) ∷ []
made_up_2 = refl

made_up_3 : printed_on 2 (under Four (fraction 2 1) (record { number = 1; had = 1 } ∷ [])
    (job 1 6 10 6 ∷ job 1 2 4 2 ∷ job 1 2 4 2 ∷ job 2 3 8 6 ∷ job 2 3 5 6 ∷ job 3 2 10 4 ∷ job 3 1 7 2
    ∷ job 6 5 13 10 ∷ []))
    ≡ (0, Release 0 (job 1 6 10 6)) ∷ (0, Run 1 0) ∷ (0, Release 1 (job 1 2 4 2)) ∷ (1, Run 1 1)
    ∷ (0, Release 2 (job 1 2 4 2)) ∷ (0, Preempt 1 0 2) ∷ (1, Complete 2 1) ∷ (0, Release 3 (job 2 3 8 6))
    ∷ (1, Run 2 3) ∷ (0, Release 4 (job 2 3 5 6)) ∷ (1, Preempt 2 3 4) ∷ (0, Complete 3 2) ∷ (0, Run 3 0)
    ∷ (0, Release 5 (job 3 2 10 4)) ∷ (0, Release 6 (job 3 1 7 2)) ∷ (0, Preempt 3 0 6)
    ∷ (0, Complete 4 6) ∷ (0, Run 4 0) ∷ (1, Complete 5 4) ∷ (1, Run 5 3)
    ∷ (0, Release 7 (job 6 5 13 10)) ∷ (1, Complete 8 3) ∷ (1, Run 8 5) ∷ (1, Take 8 5 7)
    ∷ (0, Abandon 8 5) ∷ (0, Complete 10 0) ∷ (1, Complete 13 7) ∷ (0, End 34) ∷ []
made_up_3 = refl

made_up_4 : printed_on 2
    (under Four (with_factor (fraction 4 1) 3 2) (record { number = 0; had = 2 } ∷ record { number = 2; had = 1 }
    ∷ record { number = 1; had = 2 } ∷ record { number = 5; had = 1 } ∷ [])
    (job 1 3 9 3 ∷ job 1 3 9 9 ∷ job 1 2 5 2 ∷ job 2 1 3 3 ∷ job 3 1 13 2 ∷ job 3 2 7 8 ∷ job 3 6 9 24
    ∷ job 5 5 10 15 ∷ []))
    ≡ (0, Release 0 (job 1 3 9 3)) ∷ (0, Run 1 0) ∷ (0, Release 1 (job 1 3 9 9)) ∷ (1, Run 1 1)
    ∷ (0, Release 2 (job 1 2 5 2)) ∷ (0, Preempt 1 0 2) ∷ (0, Complete 2 2) ∷ (0, Run 2 0)
    ∷ (0, Release 3 (job 2 1 3 3)) ∷ (0, Preempt 2 0 3) ∷ (0, Complete 3 3) ∷ (0, Run 3 0)
    ∷ (1, Complete 3 1) ∷ (0, Release 4 (job 3 1 13 2)) ∷ (1, Run 3 4) ∷ (0, Release 5 (job 3 2 7 8))
    ∷ (1, Preempt 3 4 5) ∷ (0, Release 6 (job 3 6 9 24)) ∷ (0, Take 3 0 6) ∷ (1, Complete 4 5)
    ∷ (1, Run 4 0) ∷ (0, Release 7 (job 5 5 10 15)) ∷ (1, Take 5 0 7) ∷ (1, Abandon 7 0)
    ∷ (0, Complete 9 6) ∷ (0, Run 9 4) ∷ (0, Complete 10 4) ∷ (1, Complete 10 7)
    ∷ (0, End 63) ∷ []
made_up_4 = refl

made_up_5 : printed_on 3 (under Four (fraction 4 1) []
    (job 3 3 6 9 ∷ job 3 3 6 6 ∷ job 3 2 5 2 ∷ job 4 3 16 12 ∷ job 4 1 7 2 ∷ job 5 3 8 12 ∷ job 6 4 13 16
    ∷ job 6 4 10 12 ∷ []))
    ≡ (0, Release 0 (job 3 3 6 9)) ∷ (0, Run 3 0) ∷ (0, Release 1 (job 3 3 6 6)) ∷ (1, Run 3 1)
    ∷ (0, Release 2 (job 3 2 5 2)) ∷ (2, Run 3 2) ∷ (0, Release 3 (job 4 3 16 12))
    ∷ (0, Release 4 (job 4 1 7 2)) ∷ (2, Complete 5 2) ∷ (2, Run 5 4) ∷ (0, Release 5 (job 5 3 8 12))
    ∷ (2, Take 5 4 5) ∷ (0, Complete 6 0) ∷ (1, Complete 6 1) ∷ (0, Run 6 4) ∷ (1, Run 6 3)
    ∷ (0, Release 6 (job 6 4 13 16)) ∷ (1, Preempt 6 3 6) ∷ (0, Release 7 (job 6 4 10 12))
    ∷ (0, Take 6 4 7) ∷ (0, Abandon 6 4) ∷ (2, Complete 8 5) ∷ (0, Complete 10 7)
    ∷ (1, Complete 10 6) ∷ (1, Run 10 3) ∷ (1, Complete 13 3) ∷ (0, End 69) ∷ []
made_up_5 = refl

made_up_6 : printed_on 3 (under Four (with_factor (fraction 2 1) 3 2) []
    (job 1 6 9 6 ∷ job 1 1 11 1 ∷ job 1 1 3 2 ∷ job 1 5 9 10 ∷ job 2 6 17 6 ∷ job 3 4 7 4 ∷ job 5 2 9 4
    ∷ job 5 6 11 12 ∷ []))
    ≡ (0, Release 0 (job 1 6 9 6)) ∷ (0, Run 1 0) ∷ (0, Release 1 (job 1 1 11 1)) ∷ (1, Run 1 1)
    ∷ (0, Release 2 (job 1 1 3 2)) ∷ (2, Run 1 2) ∷ (0, Release 3 (job 1 5 9 10)) ∷ (1, Preempt 1 1 3)
    ∷ (2, Complete 2 2) ∷ (0, Release 4 (job 2 6 17 6)) ∷ (2, Run 2 4) ∷ (0, Release 5 (job 3 4 7 4))
    ∷ (2, Preempt 3 4 5) ∷ (0, Release 6 (job 5 2 9 4)) ∷ (0, Release 7 (job 5 6 11 12))
    ∷ (0, Take 5 0 7) ∷ (1, Complete 6 3) ∷ (1, Run 6 0) ∷ (2, Complete 7 5) ∷ (2, Run 7 6)
    ∷ (1, Complete 8 0) ∷ (1, Run 8 1) ∷ (1, Complete 9 1) ∷ (2, Complete 9 6) ∷ (2, Run 9 4)
    ∷ (0, Complete 11 7) ∷ (2, Complete 14 4) ∷ (0, End 45) ∷ []
made_up_6 = refl

made_up_7 : printed_on 3 (under Four (fraction 2 1) (record { number = 2; had = 2 } ∷ record { number = 5; had = 4 }
    ∷ record { number = 4; had = 3 } ∷ [])
    (job 1 2 6 4 ∷ job 4 3 16 6 ∷ job 4 4 8 8 ∷ job 4 4 13 4 ∷ job 4 5 14 10 ∷ job 5 6 14 6 ∷ job 5 4 9 4
    ∷ job 6 6 12 12 ∷ []))
    ≡ (0, Release 0 (job 1 2 6 4)) ∷ (0, Run 1 0) ∷ (0, Complete 3 0) ∷ (0, Release 1 (job 4 3 16 6)) ∷ (0, Run 4 1)
    ∷ (0, Release 2 (job 4 4 8 8)) ∷ (1, Run 4 2) ∷ (0, Release 3 (job 4 4 13 4)) ∷ (2, Run 4 3)
    ∷ (0, Release 4 (job 4 5 14 10)) ∷ (0, Preempt 4 1 4) ∷ (0, Release 5 (job 5 6 14 6))
    ∷ (0, Release 6 (job 5 4 9 4)) ∷ (0, Preempt 5 4 6) ∷ (1, Complete 6 2) ∷ (1, Run 6 5)
    ∷ (0, Release 7 (job 6 6 12 12)) ∷ (2, Take 6 3 7) ∷ (0, Complete 9 6) ∷ (0, Run 9 4)
    ∷ (1, Complete 10 5) ∷ (1, Run 10 3) ∷ (0, Complete 11 4) ∷ (0, Run 11 1)
    ∷ (1, Complete 12 3) ∷ (2, Complete 12 7) ∷ (0, Complete 14 1) ∷ (0, End 54) ∷ []
made_up_7 = refl

made_up_8 : printed_on 3
    (under Four (with_factor (fraction 4 1) 3 2) (record { number = 7; had = 1 } ∷ record { number = 5; had = 2 }
    ∷ record { number = 0; had = 4 } ∷ record { number = 6; had = 3 } ∷ [])
    (job 1 6 12 6 ∷ job 1 6 9 18 ∷ job 1 4 5 16 ∷ job 4 5 14 15 ∷ job 4 1 5 1 ∷ job 4 4 8 16 ∷ job 5 4 9 12
    ∷ job 6 2 10 4 ∷ []))
    ≡ (0, Release 0 (job 1 6 12 6)) ∷ (0, Run 1 0) ∷ (0, Release 1 (job 1 6 9 18)) ∷ (1, Run 1 1)
    ∷ (0, Release 2 (job 1 4 5 16)) ∷ (2, Run 1 2) ∷ (0, Release 3 (job 4 5 14 15))
    ∷ (0, Release 4 (job 4 1 5 1)) ∷ (0, Preempt 4 0 4) ∷ (0, Release 5 (job 4 4 8 16)) ∷ (0, Take 4 4 5)
    ∷ (0, Abandon 4 4) ∷ (2, Complete 5 2) ∷ (2, Run 5 3) ∷ (0, Release 6 (job 5 4 9 12))
    ∷ (2, Preempt 5 3 6) ∷ (0, Complete 6 5) ∷ (0, Run 6 0) ∷ (0, Release 7 (job 6 2 10 4))
    ∷ (0, Preempt 6 0 7) ∷ (1, Complete 7 1) ∷ (0, Complete 7 7) ∷ (0, Run 7 0)
    ∷ (0, Complete 8 0) ∷ (2, Complete 8 6) ∷ (2, Run 8 3) ∷ (2, Complete 13 3)
    ∷ (0, End 87) ∷ []
made_up_8 = refl

made_up_9 : printed_on 4 (under Four (fraction 2 1) []
    (job 0 5 14 10 ∷ job 1 4 8 8 ∷ job 1 5 7 10 ∷ job 1 4 7 4 ∷ job 1 6 7 6 ∷ job 3 3 15 3 ∷ job 3 5 8 10
    ∷ job 6 6 12 12 ∷ []))
    ≡ (0, Release 0 (job 0 5 14 10)) ∷ (0, Run 0 0) ∷ (0, Release 1 (job 1 4 8 8)) ∷ (1, Run 1 1)
    ∷ (0, Release 2 (job 1 5 7 10)) ∷ (2, Run 1 2) ∷ (0, Release 3 (job 1 4 7 4)) ∷ (3, Run 1 3)
    ∷ (0, Release 4 (job 1 6 7 6)) ∷ (0, Preempt 1 0 4) ∷ (0, Release 5 (job 3 3 15 3))
    ∷ (0, Release 6 (job 3 5 8 10)) ∷ (3, Take 3 3 6) ∷ (1, Complete 5 1) ∷ (1, Run 5 3)
    ∷ (2, Complete 6 2) ∷ (2, Run 6 5) ∷ (0, Release 7 (job 6 6 12 12)) ∷ (2, Preempt 6 5 7)
    ∷ (0, Complete 7 4) ∷ (1, Complete 7 3) ∷ (0, Run 7 0) ∷ (3, Complete 8 6)
    ∷ (0, Complete 11 0) ∷ (2, Complete 12 7) ∷ (2, Run 12 5) ∷ (2, Complete 15 5)
    ∷ (0, End 63) ∷ []
made_up_9 = refl

made_up_10 : printed_on 4 (under Four (with_factor (fraction 10 1) 3 2) []
    (job 0 6 15 60 ∷ job 0 6 7 60 ∷ job 1 5 6 15 ∷ job 1 2 5 10 ∷ job 1 6 16 60 ∷ job 2 6 10 30 ∷ job 3 6 9 18
    ∷ job 3 4 7 32 ∷ []))
    ≡ (0, Release 0 (job 0 6 15 60)) ∷ (0, Run 0 0) ∷ (0, Release 1 (job 0 6 7 60)) ∷ (1, Run 0 1)
    ∷ (0, Release 2 (job 1 5 6 15)) ∷ (2, Run 1 2) ∷ (0, Release 3 (job 1 2 5 10)) ∷ (3, Run 1 3)
    ∷ (0, Release 4 (job 1 6 16 60)) ∷ (0, Release 5 (job 2 6 10 30)) ∷ (0, Preempt 2 0 5)
    ∷ (3, Complete 3 3) ∷ (3, Run 3 4) ∷ (0, Release 6 (job 3 6 9 18)) ∷ (3, Preempt 3 4 6)
    ∷ (0, Release 7 (job 3 4 7 32)) ∷ (2, Take 3 2 7) ∷ (2, Abandon 3 2) ∷ (1, Complete 6 1)
    ∷ (2, Complete 7 7) ∷ (0, Complete 8 5) ∷ (0, Run 8 0) ∷ (3, Complete 9 6) ∷ (3, Run 9 4)
    ∷ (0, Complete 12 0) ∷ (3, Complete 15 4) ∷ (0, End 270) ∷ []
made_up_10 = refl

made_up_11 : printed_on 4
    (under Four (with_factor (fraction 4 1) 3 2) (record { number = 1; had = 3 } ∷ record { number = 7; had = 3 }
    ∷ record { number = 6; had = 2 } ∷ [])
    (job 1 6 10 6 ∷ job 1 5 6 10 ∷ job 4 5 12 20 ∷ job 4 2 15 6 ∷ job 5 3 11 6 ∷ job 5 3 11 9 ∷ job 6 3 9 12
    ∷ job 6 4 10 12 ∷ []))
    ≡ (0, Release 0 (job 1 6 10 6)) ∷ (0, Run 1 0) ∷ (0, Release 1 (job 1 5 6 10)) ∷ (1, Run 1 1)
    ∷ (1, Complete 4 1) ∷ (0, Release 2 (job 4 5 12 20)) ∷ (1, Run 4 2) ∷ (0, Release 3 (job 4 2 15 6))
    ∷ (2, Run 4 3) ∷ (0, Release 4 (job 5 3 11 6)) ∷ (3, Run 5 4) ∷ (0, Release 5 (job 5 3 11 9))
    ∷ (2, Preempt 5 3 5) ∷ (0, Release 6 (job 6 3 9 12)) ∷ (1, Preempt 6 2 6)
    ∷ (0, Release 7 (job 6 4 10 12)) ∷ (0, Take 6 0 7) ∷ (2, Complete 8 5) ∷ (3, Complete 8 4)
    ∷ (2, Run 8 0) ∷ (1, Complete 8 6) ∷ (1, Run 8 2) ∷ (2, Complete 9 0) ∷ (2, Run 9 3)
    ∷ (0, Complete 9 7) ∷ (2, Complete 10 3) ∷ (1, Complete 11 2) ∷ (0, End 81) ∷ []
made_up_11 = refl

-- where several running jobs that a fresh job may preempt are due last alike
with_ties_1 : printed_on 2
    (under Four (with_factor (fraction 2 1) 2 1) (record { number = 4; had = 1 } ∷ record { number = 7; had = 2 } ∷ [])
    (job 0 1 5 2 ∷ job 0 2 5 4 ∷ job 1 2 8 2 ∷ job 1 2 11 4 ∷ job 1 4 8 8 ∷ job 3 1 8 1 ∷ job 4 2 11 2 ∷ job 4 4 8 4
    ∷ []))
    ≡ (0, Release 0 (job 0 1 5 2)) ∷ (0, Run 0 0) ∷ (0, Release 1 (job 0 2 5 4)) ∷ (1, Run 0 1) ∷ (0, Complete 1 0)
    ∷ (0, Release 2 (job 1 2 8 2)) ∷ (0, Run 1 2) ∷ (0, Release 3 (job 1 2 11 4)) ∷ (0, Release 4 (job 1 4 8 8))
    ∷ (1, Complete 2 1) ∷ (1, Run 2 4) ∷ (0, Complete 3 2) ∷ (0, Run 3 3) ∷ (1, Complete 3 4)
    ∷ (0, Release 5 (job 3 1 8 1)) ∷ (1, Run 3 5) ∷ (1, Complete 4 5) ∷ (0, Release 6 (job 4 2 11 2))
    ∷ (1, Run 4 6) ∷ (0, Release 7 (job 4 4 8 4)) ∷ (0, Preempt 4 3 7) ∷ (1, Complete 6 6)
    ∷ (0, Complete 6 7) ∷ (0, Run 6 3) ∷ (0, Complete 7 3) ∷ (0, End 27) ∷ []
with_ties_1 = refl

with_ties_2 : printed_on 3
    (under Four (fraction 4 1) (record { number = 7; had = 1 } ∷ record { number = 0; had = 2 } ∷ [])
    (job 0 3 11 3 ∷ job 0 3 5 6 ∷ job 0 1 8 1 ∷ job 0 4 11 4 ∷ job 1 4 8 8 ∷ job 1 4 8 8 ∷ job 2 3 8 3 ∷ job 4 3 7 6
    ∷ []))
    ≡ (0, Release 0 (job 0 3 11 3)) ∷ (0, Run 0 0) ∷ (0, Release 1 (job 0 3 5 6)) ∷ (1, Run 0 1)
    ∷ (0, Release 2 (job 0 1 8 1)) ∷ (2, Run 0 2) ∷ (0, Release 3 (job 0 4 11 4)) ∷ (2, Complete 1 2)
    ∷ (2, Run 1 3) ∷ (0, Release 4 (job 1 4 8 8)) ∷ (0, Preempt 1 0 4) ∷ (0, Release 5 (job 1 4 8 8))
    ∷ (2, Preempt 1 3 5) ∷ (0, Release 6 (job 2 3 8 3)) ∷ (1, Complete 3 1) ∷ (1, Run 3 6)
    ∷ (0, Release 7 (job 4 3 7 6)) ∷ (0, Preempt 4 4 7) ∷ (2, Complete 5 5) ∷ (2, Run 5 3)
    ∷ (0, Complete 5 7) ∷ (0, Run 5 4) ∷ (0, Complete 6 4) ∷ (1, Complete 6 6) ∷ (0, Run 6 0)
    ∷ (0, Complete 7 0) ∷ (2, Complete 9 3) ∷ (0, End 39) ∷ []
with_ties_2 = refl

with_ties_3 : printed_on 3
    (under Four (fraction 4 1) (record { number = 2; had = 1 } ∷ record { number = 7; had = 2 } ∷ [])
    (job 1 4 11 12 ∷ job 2 4 11 8 ∷ job 2 2 11 6 ∷ job 4 2 11 6 ∷ job 4 4 8 16 ∷ job 4 1 11 1 ∷ job 4 4 8 4
    ∷ job 4 4 11 4 ∷ []))
    ≡ (0, Release 0 (job 1 4 11 12)) ∷ (0, Run 1 0) ∷ (0, Release 1 (job 2 4 11 8)) ∷ (1, Run 2 1)
    ∷ (0, Release 2 (job 2 2 11 6)) ∷ (2, Run 2 2) ∷ (2, Complete 3 2) ∷ (0, Release 3 (job 4 2 11 6))
    ∷ (2, Run 4 3) ∷ (0, Release 4 (job 4 4 8 16)) ∷ (0, Preempt 4 0 4) ∷ (0, Release 5 (job 4 1 11 1))
    ∷ (0, Release 6 (job 4 4 8 4)) ∷ (1, Preempt 4 1 6) ∷ (0, Release 7 (job 4 4 11 4))
    ∷ (2, Complete 6 3) ∷ (2, Run 6 7) ∷ (0, Complete 8 4) ∷ (1, Complete 8 6) ∷ (0, Run 8 0)
    ∷ (1, Run 8 1) ∷ (2, Complete 8 7) ∷ (2, Run 8 5) ∷ (0, Complete 9 0) ∷ (2, Complete 9 5)
    ∷ (1, Complete 10 1) ∷ (0, End 57) ∷ []
with_ties_3 = refl

with_ties_4 : printed_on 3 (under Four (fraction 4 1) []
    (job 0 4 11 16 ∷ job 1 3 8 9 ∷ job 1 1 11 4 ∷ job 3 1 11 3 ∷ job 3 1 8 1 ∷ []))
    ≡ (0, Release 0 (job 0 4 11 16)) ∷ (0, Run 0 0) ∷ (0, Release 1 (job 1 3 8 9)) ∷ (1, Run 1 1)
    ∷ (0, Release 2 (job 1 1 11 4)) ∷ (2, Run 1 2) ∷ (2, Complete 2 2) ∷ (0, Release 3 (job 3 1 11 3))
    ∷ (2, Run 3 3) ∷ (0, Release 4 (job 3 1 8 1)) ∷ (0, Preempt 3 0 4) ∷ (0, Complete 4 4)
    ∷ (1, Complete 4 1) ∷ (2, Complete 4 3) ∷ (0, Run 4 0) ∷ (0, Complete 5 0) ∷ (0, End 33) ∷ []
with_ties_4 = refl

with_ties_5 : printed_on 3 (under Four (fraction 4 1) (record { number = 1; had = 1 } ∷ [])
    (job 0 1 8 3 ∷ job 1 3 5 12 ∷ job 1 2 8 6 ∷ job 1 4 8 12 ∷ job 2 3 5 3 ∷ job 3 1 8 1 ∷ job 3 3 6 3
    ∷ job 4 4 8 12 ∷ []))
    ≡ (0, Release 0 (job 0 1 8 3)) ∷ (0, Run 0 0) ∷ (0, Complete 1 0) ∷ (0, Release 1 (job 1 3 5 12)) ∷ (0, Run 1 1)
    ∷ (0, Release 2 (job 1 2 8 6)) ∷ (1, Run 1 2) ∷ (0, Release 3 (job 1 4 8 12)) ∷ (2, Run 1 3)
    ∷ (0, Complete 2 1) ∷ (0, Release 4 (job 2 3 5 3)) ∷ (0, Run 2 4) ∷ (1, Complete 3 2)
    ∷ (0, Release 5 (job 3 1 8 1)) ∷ (1, Run 3 5) ∷ (0, Release 6 (job 3 3 6 3)) ∷ (1, Preempt 3 5 6)
    ∷ (0, Release 7 (job 4 4 8 12)) ∷ (0, Take 4 4 7) ∷ (1, Abandon 4 4) ∷ (2, Complete 5 3)
    ∷ (1, Complete 6 6) ∷ (1, Run 6 5) ∷ (1, Complete 7 5) ∷ (0, Complete 8 7) ∷ (0, End 49) ∷ []
with_ties_5 = refl

with_ties_6 : printed_on 2
    (under Four (with_factor (fraction 4 1) 2 1) (record { number = 2; had = 2 } ∷ record { number = 6; had = 1 }
    ∷ record { number = 4; had = 2 } ∷ [])
    (job 0 4 8 16 ∷ job 0 4 8 12 ∷ job 0 3 5 3 ∷ job 3 2 8 4 ∷ job 4 4 11 4 ∷ job 4 3 7 9 ∷ job 4 2 6 6 ∷ []))
    ≡ (0, Release 0 (job 0 4 8 16)) ∷ (0, Run 0 0) ∷ (0, Release 1 (job 0 4 8 12)) ∷ (1, Run 0 1)
    ∷ (0, Release 2 (job 0 3 5 3)) ∷ (0, Preempt 0 0 2) ∷ (0, Complete 2 2) ∷ (0, Run 2 0)
    ∷ (0, Release 3 (job 3 2 8 4)) ∷ (1, Complete 4 1) ∷ (1, Run 4 3) ∷ (0, Release 4 (job 4 4 11 4))
    ∷ (0, Release 5 (job 4 3 7 9)) ∷ (0, Release 6 (job 4 2 6 6)) ∷ (0, Preempt 4 0 6) ∷ (1, Take 4 3 5)
    ∷ (0, Complete 5 6) ∷ (0, Run 5 0) ∷ (1, Abandon 6 3) ∷ (0, Complete 7 0) ∷ (1, Complete 7 5)
    ∷ (0, Run 7 4) ∷ (0, Complete 9 4) ∷ (0, End 50) ∷ []
with_ties_6 = refl

with_ties_7 : printed_on 2
    (under Four (with_factor (fraction 2 1) 2 1) (record { number = 1; had = 1 } ∷ record { number = 4; had = 1 } ∷ [])
    (job 0 4 11 8 ∷ job 2 3 8 6 ∷ job 2 3 11 3 ∷ job 2 4 8 8 ∷ job 3 2 8 2 ∷ job 4 3 8 3 ∷ job 4 4 11 8
    ∷ job 4 1 5 1 ∷ []))
    ≡ (0, Release 0 (job 0 4 11 8)) ∷ (0, Run 0 0) ∷ (0, Release 1 (job 2 3 8 6)) ∷ (1, Run 2 1)
    ∷ (0, Release 2 (job 2 3 11 3)) ∷ (0, Release 3 (job 2 4 8 8)) ∷ (0, Preempt 2 0 3) ∷ (1, Complete 3 1)
    ∷ (1, Run 3 2) ∷ (0, Release 4 (job 3 2 8 2)) ∷ (1, Preempt 3 2 4) ∷ (1, Complete 4 4) ∷ (1, Run 4 2)
    ∷ (0, Release 5 (job 4 3 8 3)) ∷ (1, Preempt 4 2 5) ∷ (0, Release 6 (job 4 4 11 8))
    ∷ (0, Release 7 (job 4 1 5 1)) ∷ (0, Preempt 4 3 7) ∷ (0, Complete 5 7) ∷ (0, Run 5 3)
    ∷ (0, Complete 7 3) ∷ (1, Complete 7 5) ∷ (0, Run 7 0) ∷ (1, Run 7 2) ∷ (1, Take 7 2 6)
    ∷ (0, Abandon 8 2) ∷ (0, Complete 9 0) ∷ (1, Complete 11 6) ∷ (0, End 36) ∷ []
with_ties_7 = refl

with_ties_8 : printed_on 2 (under Four (fraction 4 1) []
    (job 1 4 8 12 ∷ job 1 2 8 8 ∷ job 2 1 5 2 ∷ job 3 3 8 3 ∷ job 3 4 11 16 ∷ job 3 1 11 3 ∷ job 4 3 7 12
    ∷ job 4 2 6 8 ∷ []))
    ≡ (0, Release 0 (job 1 4 8 12)) ∷ (0, Run 1 0) ∷ (0, Release 1 (job 1 2 8 8)) ∷ (1, Run 1 1)
    ∷ (0, Release 2 (job 2 1 5 2)) ∷ (0, Preempt 2 0 2) ∷ (0, Complete 3 2) ∷ (1, Complete 3 1) ∷ (0, Run 3 0)
    ∷ (0, Release 3 (job 3 3 8 3)) ∷ (1, Run 3 3) ∷ (0, Release 4 (job 3 4 11 16))
    ∷ (0, Release 5 (job 3 1 11 3)) ∷ (0, Release 6 (job 4 3 7 12)) ∷ (0, Release 7 (job 4 2 6 8))
    ∷ (0, Preempt 4 0 7) ∷ (1, Take 4 3 6) ∷ (0, Complete 6 7) ∷ (0, Run 6 0) ∷ (0, Abandon 6 3)
    ∷ (1, Complete 7 6) ∷ (1, Run 7 4) ∷ (0, Complete 8 0) ∷ (0, Run 8 5) ∷ (0, Complete 9 5)
    ∷ (1, Complete 11 4) ∷ (0, End 61) ∷ []
with_ties_8 = refl
