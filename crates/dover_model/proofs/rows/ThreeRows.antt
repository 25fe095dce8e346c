-- Feeds and traces of version Three, by computation.
use Rattle.std.proofs.Common.{◌≡◌, ℕ, List, [], ◌∷◌, ◌++◌, refl, codes}
use Rattle.std.specs.Fmt.{digits}
use Rattle.dover_model.specs.Common.{Abandon, Complete, End, instance_of, completed_value, bound, verdict, Verdict}
use Rattle.dover_model.specs.Common.{Accepted, Wrong, closed, due}
use Rattle.dover_model.specs.Verdict.{Step}
use Rattle.dover_model.proofs.rows.Written.{bytes}

-- the feed is answered by the text
abbrev Serves : List ℕ → List ℕ → Type 0
Serves feed trace = closed (bytes feed) ≡ bytes trace

-- what the text is, as a trace
abbrev judged : List ℕ → Verdict
judged trace = verdict (bytes trace)

-- what an accepted trace is worth, and its bound
abbrev worth_and_bound : Verdict → List ℕ
worth_and_bound (Accepted S) =
    completed_value (instance_of S) ∷ bound S.rules.ratio (completed_value (instance_of S)) ∷ []
worth_and_bound _ = []

-- ---- feeds

-- a job is held, its displacer finishes early, and so does it
held_and_early : Serves (
    codes "k 1 1 3/job 0 4 10 4/job 1 2 5 2/done 2 1/done 4 0/end/"
    ) (
    codes "dover 3 1 1/job 0 0 4 10 4/run 0 0/job 1 1 2 5 2/preempt 1 0 1/complete 2 1/run 2 0/complete 4 0/end 6/"
    )
unfolding digits
held_and_early = refl

-- three jobs of which two complete
without_finish : Serves (
    codes "k 1 1 3/job 0 2 2 2/job 0 2 3 2/job 0 3 5 3/end/"
    ) (
    codes "dover 3 1 1/job 0 0 2 2 2/run 0 0/job 1 0 2 3 2/job 2 0 3 5 3/abandon 1 1/complete 2 0/run 2 2/"
    ++ codes "complete 5 2/end 5/"
    )
unfolding digits
without_finish = refl

-- the anomaly: the first of them finishes early, and the run completes less, 4 in place of 5
anomaly : Serves (
    codes "k 1 1 3/job 0 2 2 2/job 0 2 3 2/job 0 3 5 3/done 1 0/end/"
    ) (
    codes "dover 3 1 1/job 0 0 2 2 2/run 0 0/job 1 0 2 3 2/job 2 0 3 5 3/complete 1 0/run 1 1/abandon 2 2/"
    ++ codes "complete 3 1/end 4/"
    )
unfolding digits
anomaly = refl

-- a budget that is out is a completion: the done line comes too late, and is refused without effect
race : Serves (
    codes "k 1 1 3/job 0 2 9 2/job 0 3 9 3/tick 2/done 2 0/end/"
    ) (
    codes "dover 3 1 1/job 0 0 2 9 2/run 0 0/job 1 0 3 9 3/complete 2 0/run 2 1/refuse 2 2 0 done/complete 5 1/"
    ++ codes "end 5/"
    )
unfolding digits
race = refl

-- without the tick line it is the same
race_without_tick : Serves (
    codes "k 1 1 3/job 0 2 9 2/job 0 3 9 3/done 2 0/end/"
    ) (
    codes "dover 3 1 1/job 0 0 2 9 2/run 0 0/job 1 0 3 9 3/complete 2 0/run 2 1/refuse 2 2 0 done/complete 5 1/"
    ++ codes "end 5/"
    )
unfolding digits
race_without_tick = refl

-- a job that took finishes early
taker_done : Serves (
    codes "k 1 1 3/job 0 3 30 3/job 0 2 4 2/job 0 12 12 12/done 1 2/end/"
    ) (
    codes "dover 3 1 1/job 0 0 3 30 3/run 0 0/job 1 0 2 4 2/preempt 0 0 1/job 2 0 12 12 12/take 0 1 2/complete 1 2/"
    ++ codes "run 1 1/complete 3 1/run 3 0/complete 6 0/end 17/"
    )
unfolding digits
taker_done = refl

-- behind a job line of its tick a finish is refused
behind_a_release : Serves (
    codes "k 1 1 3/job 0 5 9 5/job 2 1 4 1/done 2 0/tick 3/done 4 0/end/"
    ) (
    codes "dover 3 1 1/job 0 0 5 9 5/run 0 0/job 1 2 1 4 1/preempt 2 0 1/refuse 2 2 0 done/complete 3 1/run 3 0/"
    ++ codes "complete 4 0/end 6/"
    )
unfolding digits
behind_a_release = refl

-- before it, it is right
before_a_release : Serves (
    codes "k 1 1 3/job 0 5 9 5/done 2 0/job 2 1 4 1/end/"
    ) (
    codes "dover 3 1 1/job 0 0 5 9 5/run 0 0/complete 2 0/job 1 2 1 4 1/run 2 1/complete 3 1/end 6/"
    )
unfolding digits
before_a_release = refl

-- a job that gets the processor at the tick has not had the tick before
just_resumed : Serves (
    codes "k 1 1 3/job 0 2 9 2/job 0 3 9 3/tick 2/done 2 1/done 3 1/end/"
    ) (
    codes "dover 3 1 1/job 0 0 2 9 2/run 0 0/job 1 0 3 9 3/complete 2 0/run 2 1/refuse 2 2 1 done/complete 3 1/"
    ++ codes "end 5/"
    )
unfolding digits
just_resumed = refl

-- a held job, no job, a tick below the mark, a job that is resumed at the tick
held_or_none : Serves (
    codes "k 1 1 3/job 0 5 9 5/job 1 2 5 2/tick 2/done 2 0/done 3 7/done 2 1/done 3 0/end/"
    ) (
    codes "dover 3 1 1/job 0 0 5 9 5/run 0 0/job 1 1 2 5 2/preempt 1 0 1/refuse 2 2 0 done/complete 3 1/run 3 0/"
    ++ codes "refuse 3 3 7 done/refuse 3 2 1 done/refuse 3 3 0 done/complete 7 0/end 7/"
    )
unfolding digits
held_or_none = refl

-- a finish comes before a take of its tick
before_a_take : Serves (
    codes "k 1 1 3/job 0 4 6 4/job 0 10 12 10/tick 2/done 2 0/tick 3/end/"
    ) (
    codes "dover 3 1 1/job 0 0 4 6 4/run 0 0/job 1 0 10 12 10/complete 2 0/run 2 1/complete 12 1/end 14/"
    )
unfolding digits
before_a_take = refl

-- a tick later it is too late
behind_a_take : Serves (
    codes "k 1 1 3/job 0 4 6 4/job 0 10 12 10/tick 3/done 3 0/end/"
    ) (
    codes "dover 3 1 1/job 0 0 4 6 4/run 0 0/job 1 0 10 12 10/take 2 0 1/refuse 3 3 0 done/abandon 4 0/"
    ++ codes "complete 12 1/end 10/"
    )
unfolding digits
behind_a_take = refl

-- a late job line is refused, and so is a finish of no job
late_jobs : Serves (
    codes "k 1 1 3/tick 5/job 4 1 9 1/done 5 0/job 6 1 9 1/tick 6/end/"
    ) (
    codes "dover 3 1 1/refuse 5 4 1 9 1 order/refuse 5 5 0 done/job 0 6 1 9 1/run 6 0/complete 7 0/end 1/"
    )
unfolding digits
late_jobs = refl

-- the order of a dispatcher
as_dispatched : Serves (
    codes "k 1 1 3/job 0 4 8 4/tick 1/tick 2/done 2 0/job 2 3 6 3/tick 3/tick 4/done 4 1/tick 5/end/"
    ) (
    codes "dover 3 1 1/job 0 0 4 8 4/run 0 0/complete 2 0/job 1 2 3 6 3/run 2 1/complete 4 1/end 7/"
    )
unfolding digits
as_dispatched = refl

-- refused jobs have no number
unnumbered : Serves (
    codes "k 2 1 3/job 0 2 5 2/job 0 1 5 5/job 0 3 9 3/done 1 0/done 2 1/end/"
    ) (
    codes "dover 3 2 1/job 0 0 2 5 2/run 0 0/refuse 0 0 1 5 5 ratio/job 1 0 3 9 3/complete 1 0/run 1 1/"
    ++ codes "complete 2 1/end 5/"
    )
unfolding digits
unnumbered = refl

-- faults: the form
form : Serves (
    codes "k 1 1 3/job 0 4 8 4/done 1/"
    ) (
    codes "dover 3 1 1/job 0 0 4 8 4/run 0 0/refused 3 line/"
    )
unfolding digits
form = refl

-- a tick beyond the last
beyond : Serves (
    codes "k 1 1 3/done 10000000000000001 0/"
    ) (
    codes "dover 3 1 1/refused 2 order/"
    )
unfolding digits
beyond = refl

-- a tick line that falls
falling : Serves (
    codes "k 1 1 3/tick 5/tick 4/"
    ) (
    codes "dover 3 1 1/refused 3 order/"
    )
unfolding digits
falling = refl

-- a done line as the first line
first_line : Serves (
    codes "done 0 0/"
    ) (
    codes "refused 1 line/"
    )
unfolding digits
first_line = refl

-- no end
short : Serves (
    codes "k 1 1 3/job 0 4 8 4/done 1 0/"
    ) (
    codes "dover 3 1 1/job 0 0 4 8 4/run 0 0/complete 1 0/refused 4 short/"
    )
unfolding digits
short = refl

-- the bound is on declared works
declared_bound : Serves (
    codes "k 1 1 3/job 0 2 2 2/job 0 3 3 3/job 0 4 4 4/done 1 0/end/"
    ) (
    codes "dover 3 1 1/job 0 0 2 2 2/run 0 0/job 1 0 3 3 3/job 2 0 4 4 4/abandon 0 2/abandon 0 1/complete 1 0/"
    ++ codes "end 2/"
    )
unfolding digits
declared_bound = refl

-- a waiting job, an abandoned one, one that completed before
waiting_or_over : Serves (
    codes "k 1 1 3/job 0 3 5 3/job 0 3 4 3/done 1 1/done 2 1/done 4 0/end/"
    ) (
    codes "dover 3 1 1/job 0 0 3 5 3/run 0 0/job 1 0 3 4 3/refuse 1 1 1 done/abandon 1 1/refuse 2 2 1 done/"
    ++ codes "complete 3 0/refuse 4 4 0 done/end 3/"
    )
unfolding digits
waiting_or_over = refl

-- a finish is settled at once
settled_at_once : due (bytes (codes "k 1 1 3/job 0 4 4 4/job 0 3 5 3/done 2 0/")) ≡ bytes
    (codes "dover 3 1 1/job 0 0 4 4 4/run 0 0/job 1 0 3 5 3/complete 2 0/run 2 1/")
unfolding digits
settled_at_once = refl

-- version Two knows no such line
no_line_of_two : Serves (codes "k 1 1 2/job 0 4 4 4/done 2 0/")
    (codes "dover 2 1 1/job 0 0 4 4 4/run 0 0/refused 3 line/")
unfolding digits
no_line_of_two = refl

-- in version Two a late job line ends the feed
late_in_two : Serves (codes "k 1 1 2/tick 5/job 4 1 9 1/") (codes "dover 2 1 1/refused 3 order/")
unfolding digits
late_in_two = refl

-- ---- verdicts

-- the run is worth 2, and its bound is 8
bound_of_two : worth_and_bound (judged (
    codes "dover 3 1 1/job 0 0 2 2 2/run 0 0/job 1 0 3 3 3/job 2 0 4 4 4/abandon 0 2/abandon 0 1/complete 1 0/"
    ++ codes "end 2/"
    )) ≡ 2 ∷ 8 ∷ []
unfolding digits
bound_of_two = refl

-- the trace of the first row is accepted
accepted_early : worth_and_bound (judged (
    codes "dover 3 1 1/job 0 0 4 10 4/run 0 0/job 1 1 2 5 2/preempt 1 0 1/complete 2 1/run 2 0/complete 4 0/end 6/"
    )) ≡ 6 ∷ 24 ∷ []
unfolding digits
accepted_early = refl

-- without the early completion the next step is due
without_it : judged (
    codes "dover 3 1 1/job 0 0 4 10 4/run 0 0/job 1 1 2 5 2/preempt 1 0 1/run 2 0/"
    ) ≡ Wrong 6 (Step (Complete 3 1))
unfolding digits
without_it = refl

-- a held job
of_a_held_job : judged (
    codes "dover 3 1 1/job 0 0 4 10 4/run 0 0/job 1 1 2 5 2/preempt 1 0 1/complete 2 0/"
    ) ≡ Wrong 6 (Step (Complete 3 1))
unfolding digits
of_a_held_job = refl

-- in the tick of its release
in_the_tick_of_its_release : judged (
    codes "dover 3 1 1/job 0 0 4 10 4/run 0 0/complete 0 0/"
    ) ≡ Wrong 4 (Step (Complete 4 0))
unfolding digits
in_the_tick_of_its_release = refl

-- behind a release of its tick
behind_a_release_of_its_tick : judged (
    codes "dover 3 1 1/job 0 0 5 9 5/run 0 0/job 1 2 1 9 1/complete 2 0/"
    ) ≡ Wrong 5 (Step (Complete 5 0))
unfolding digits
behind_a_release_of_its_tick = refl

-- where the job was resumed at that tick
where_it_was_resumed : judged (
    codes "dover 3 1 1/job 0 0 4 10 4/run 0 0/job 1 1 2 5 2/preempt 1 0 1/complete 3 1/run 3 0/complete 3 0/"
    ) ≡ Wrong 8 (Step (Complete 6 0))
unfolding digits
where_it_was_resumed = refl

-- a refusal of a finish that is right
refused_though_right : judged (
    codes "dover 3 1 1/job 0 0 4 10 4/run 0 0/refuse 2 2 0 done/"
    ) ≡ Wrong 4 (Step (Complete 4 0))
unfolding digits
refused_though_right = refl

-- of one that is late
refused_late : worth_and_bound (judged (
    codes "dover 3 1 1/job 0 0 4 10 4/run 0 0/refuse 2 1 0 done/complete 4 0/end 4/"
    )) ≡ 4 ∷ 16 ∷ []
unfolding digits
refused_late = refl

-- of the race
refused_race : worth_and_bound (judged (
    codes "dover 3 1 1/job 0 0 2 9 2/run 0 0/complete 2 0/refuse 2 2 0 done/end 2/"
    )) ≡ 2 ∷ 8 ∷ []
unfolding digits
refused_race = refl

-- no place for it
refused_too_soon : judged (
    codes "dover 3 1 1/job 0 0 2 9 2/run 0 0/refuse 2 2 0 done/"
    ) ≡ Wrong 4 (Step (Complete 2 0))
unfolding digits
refused_too_soon = refl

-- a release that is not late
not_late : judged (
    codes "dover 3 1 1/refuse 2 3 1 9 1 order/"
    ) ≡ Wrong 2 (Step (End 0))
unfolding digits
not_late = refl

-- in version Two no job finishes early
not_in_two : judged (codes "dover 2 1 1/job 0 0 4 4 4/run 0 0/job 1 0 3 5 3/complete 2 0/") ≡ Wrong 5
    (Step (Abandon 2 1))
unfolding digits
not_in_two = refl

-- nor is a late job line, or a done line, refused alone
not_late_in_two : judged (codes "dover 2 1 1/refuse 5 4 1 9 1 order/") ≡ Wrong 2 (Step (End 0))
unfolding digits
not_late_in_two = refl

not_done_in_two : judged (codes "dover 2 1 1/refuse 5 5 0 done/") ≡ Wrong 2 (Step (End 0))
unfolding digits
not_done_in_two = refl
