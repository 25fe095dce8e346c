-- Feeds and traces of version Four, by computation.
use Rattle.std.proofs.Common.{◌≡◌, ℕ, List, ◌++◌, refl}
use Rattle.std.specs.Prelude.{codes}
use Rattle.std.specs.Fmt.{digits}
use Rattle.dover_model.specs.Common.{One, Two, Three, closed}
use Rattle.dover_model.specs.Orders.{IsByDeadline}
use Rattle.dover_model.proofs.rows.Written.{bytes}

-- the feed is answered by the text
abbrev Serves : List ℕ → List ℕ → Type 0
Serves feed trace = closed (bytes feed) ≡ bytes trace

-- of the jobs that wait at 4 the denser one runs
by_density : Serves (
    codes "k 10 1 4/job 0 4 5 36/job 1 1 5 6/job 2 4 6 20/job 3 2 6 16/end/"
    ) (
    codes "dover 4 10 1/job 0 0 4 5 36/run 0 0/job 1 1 1 5 6/job 2 2 4 6 20/abandon 2 2/job 3 3 2 6 16/"
    ++ codes "complete 4 0/run 4 3/abandon 4 1/complete 6 3/end 52/"
    )
unfolding digits
by_density = refl

-- version Three takes the one that is due first
by_deadline_in_three : Serves (
    codes "k 10 1 3/job 0 4 5 36/job 1 1 5 6/job 2 4 6 20/job 3 2 6 16/end/"
    ) (
    codes "dover 3 10 1/job 0 0 4 5 36/run 0 0/job 1 1 1 5 6/job 2 2 4 6 20/abandon 2 2/job 3 3 2 6 16/"
    ++ codes "complete 4 0/run 4 1/abandon 4 3/complete 5 1/end 42/"
    )
unfolding digits
by_deadline_in_three = refl

-- an arrival that is less dense than the running job waits, and is lost
arrival_waits : Serves (
    codes "k 10 1 4/job 3 2 8 18/job 3 2 8 16/job 3 4 7 8/job 4 3 7 12/end/"
    ) (
    codes "dover 4 10 1/job 0 3 2 8 18/run 3 0/job 1 3 2 8 16/job 2 3 4 7 8/abandon 3 2/job 3 4 3 7 12/"
    ++ codes "abandon 4 3/complete 5 0/run 5 1/complete 7 1/end 34/"
    )
unfolding digits
arrival_waits = refl

-- in version Three it preempts
arrival_preempts_in_three : Serves (
    codes "k 10 1 3/job 3 2 8 18/job 3 2 8 16/job 3 4 7 8/job 4 3 7 12/end/"
    ) (
    codes "dover 3 10 1/job 0 3 2 8 18/run 3 0/job 1 3 2 8 16/job 2 3 4 7 8/abandon 3 2/job 3 4 3 7 12/"
    ++ codes "preempt 4 0 3/abandon 6 1/complete 7 3/run 7 0/complete 8 0/end 30/"
    )
unfolding digits
arrival_preempts_in_three = refl

-- the densest waiting job fits before the held one, and runs
before_a_held_job : Serves (
    codes "k 4 1 4 2 1/job 0 4 12 8/job 0 5 5 5/job 1 1 4 4/job 1 2 8 2/job 1 2 10 8/end/"
    ) (
    codes "dover 4 4 1 2 1/job 0 0 4 12 8/run 0 0/job 1 0 5 5 5/preempt 0 0 1/job 2 1 1 4 4/job 3 1 2 8 2/"
    ++ codes "job 4 1 2 10 8/abandon 3 2/complete 5 1/run 5 4/abandon 6 3/complete 7 4/run 7 0/complete 11 0/"
    ++ codes "end 21/"
    )
unfolding digits
before_a_held_job = refl

-- at rest the pressed state ends: the jobs of 5 are chosen by deadline again
at_rest : Serves (
    codes "k 10 1 4/job 0 2 2 2/job 0 2 2 2/job 5 2 7 2/job 5 1 10 1/job 5 1 20 10/end/"
    ) (
    codes "dover 4 10 1/job 0 0 2 2 2/run 0 0/job 1 0 2 2 2/abandon 0 1/complete 2 0/job 2 5 2 7 2/run 5 2/"
    ++ codes "job 3 5 1 10 1/job 4 5 1 20 10/complete 7 2/run 7 3/complete 8 3/run 8 4/complete 9 4/end 15/"
    )
unfolding digits
at_rest = refl

-- without a rest it goes on: they are chosen by density
without_rest : Serves (
    codes "k 10 1 4/job 0 2 2 2/job 0 2 2 2/job 1 6 9 6/job 5 1 10 1/job 5 1 20 10/end/"
    ) (
    codes "dover 4 10 1/job 0 0 2 2 2/run 0 0/job 1 0 2 2 2/abandon 0 1/job 2 1 6 9 6/complete 2 0/run 2 2/"
    ++ codes "job 3 5 1 10 1/job 4 5 1 20 10/complete 8 2/run 8 4/complete 9 4/run 9 3/complete 10 3/end 19/"
    )
unfolding digits
without_rest = refl

-- a finish is a completion: with none ready behind it, the pressed state ends
early : Serves (
    codes "k 10 1 4/job 0 3 3 3/job 0 3 3 3/done 2 0/job 2 2 7 2/job 2 1 10 1/job 2 1 20 10/end/"
    ) (
    codes "dover 4 10 1/job 0 0 3 3 3/run 0 0/job 1 0 3 3 3/abandon 0 1/complete 2 0/job 2 2 2 7 2/run 2 2/"
    ++ codes "job 3 2 1 10 1/job 4 2 1 20 10/complete 4 2/run 4 3/complete 5 3/run 5 4/complete 6 4/end 16/"
    )
unfolding digits
early = refl

-- the versions before it always choose waiting jobs by deadline
one_by_deadline : IsByDeadline One
one_by_deadline pressed = refl

two_by_deadline : IsByDeadline Two
two_by_deadline pressed = refl

three_by_deadline : IsByDeadline Three
three_by_deadline pressed = refl
