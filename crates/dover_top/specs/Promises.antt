-- What is promised of what was read and written.
use Rattle.std.specs.Prelude.{◌≡◌, ◌≢◌, ◌<◌, ◌⊎◌, ℕ, List, [], ◌++◌, true, false, Option, Some, if◌then◌else◌, sum_by}
use Rattle.dover_model.specs.Common.{Instance, IsValid, bare, Session, IsValidSession, instance_of, bait_plan}
use Rattle.dover_model.specs.Common.{plan_value, IsWithin, due, decided_lines, Account, account, is_ended, in_lines}
use Rattle.dover_model.specs.Common.{Fraction, observed, printed_up_to, finishes_up_to, known_at, run, ran, printed}
use Rattle.dover_model.specs.Common.{completed_value, worth, Meets, settled, Each, Prints, trace_of_session}
use Rattle.dover_model.specs.Common.{takes_or_abandons, Accepted, verdict, Begins}
use Rattle.dover_model.specs.declared.events.Event.{Event}
use Rattle.dover_model.specs.declared.events.Version.TheVariants.{One}
use Rattle.dover_port.specs.Moves.{Move, ins, outs}
use Rattle.stated_jobs.specs.bait.BaitingRuns.{CompletesLastAlone}
use Rattle.stated_jobs.specs.declared.duel.links.Share.{Share}
use Rattle.stated_jobs.specs.duel.Answers.{jobs_for}
use Rattle.stated_jobs.specs.duel.Game.{Scheduler, IsOnline, AreValid, LosesOnFront}
use Rattle.event_feed.specs.Feeds.{IsFeedOf}
use Rattle.trial_words.specs.Baited.{bait_instance}
use Rattle.trial_words.specs.Dueled.{duel_front}
use Rattle.lane_server.specs.Lanes.{Closed, lane_count, input}
use Rattle.lane_server.specs.Alone.{lane_feed, text_of_lane, served_alone}
use Rattle.snapshot.specs.Snapshot.{MayPause, snapshot}
use Rattle.feed_words.specs.resume.Record.{Behind}

-- what stands of the run of a valid list of jobs, whichever of them finish early
pub record KeepsPromises (J : Instance) : Type 0 where
  -- No schedule whatever is worth more than (1 + √k)² times what the run completes: none of the jobs as declared,
  pub bound : (s : List ℕ) → IsWithin J.rules.ratio (worth J s) (completed_value J)
  -- and none where each completed job asks for no more than it had.
  pub observed_bound : (s : List ℕ) → IsWithin J.rules.ratio (worth (observed J) s) (completed_value J)
  -- That value is what the run's own schedule is worth by these works,
  pub honest : worth (observed J) (ran J) ≡ completed_value J
  -- which are the declared ones where no job finishes early.
  pub as_declared : J.rules.finishes ≡ [] → observed J ≡ J
  -- What is printed up to a tick is the same for every list that has the same jobs and comes to the same finishes by
  -- then, of which there are none where none is named.
  pub on_line : (t : ℕ) (K : Instance) → IsValid K → bare J.rules ≡ bare K.rules
      → known_at t J.jobs ≡ known_at t K.jobs → finishes_up_to t J ≡ finishes_up_to t K
      → printed_up_to t J ≡ printed_up_to t K
  -- Where some schedule serves every job, none is taken late or abandoned,
  pub none_lost : Meets J → Each (λ x. takes_or_abandons x.move ≡ false) (run J)
  -- and the run completes all value.
  pub all_value : Meets J → completed_value J ≡ sum_by (λ j. j.value) J.jobs

-- ---- a feed so far, ended or not

-- the steps that are decided for the bytes so far: all of the run where the feed has ended, else those that are settled
abbrev pub decided : Account → Session → List Event
decided a S = if is_ended a then printed (instance_of S) else settled (instance_of S) a.mark

-- what stands of the session of a feed so far
pub record IsKeptBy (feed : List ℕ) (session : Session) : Type 0 where
  pub valid : IsValid (instance_of session)
  -- The run of its jobs keeps the promises,
  pub promises : KeepsPromises (instance_of session)
  -- the steps that are decided begin this run,
  pub begins : Begins (decided (account feed) session) (printed (instance_of session))
  -- and where some schedule serves every job, none of them takes a job late or abandons one.
  pub none_lost : Meets (instance_of session)
      → Each (λ event. takes_or_abandons (Prints event) ≡ false) (decided (account feed) session)

-- From the ratio line on, the feed so far has a session, of which this stands.
abbrev pub IsKept : List ℕ → Type 0
IsKept feed = (session : Session) → (account feed).session ≡ Some session → IsKeptBy feed session

-- one of the two texts begins the other
abbrev pub Agree : List ℕ → List ℕ → Type 0
Agree one other = Begins one other ⊎ Begins other one

-- What was written for the feed so far is, as far as both go, the lines of the steps that are decided, with the refused
-- lines among them.
pub record IsServedSoFar (feed written : List ℕ) : Type 0 where
  pub kept : IsKept feed
  pub text : Agree written (in_lines (decided_lines (account feed)))

-- ---- by what was read and written

-- this feed ended without a fault, and this was written: the trace of its session
pub record IsTraceOf (feed written : List ℕ) : Type 0 where
  pub session : Session
  pub ended : is_ended (account feed) ≡ true
  pub named : (account feed).session ≡ Some session
  pub valid : IsValidSession session
  pub text : written ≡ trace_of_session session
  pub accepted : verdict written ≡ Accepted session
  pub promises : KeepsPromises (instance_of session)

-- the feed that was read ended without a fault, and the trace of its session was written
abbrev pub IsTraced : List Move → Type 0
IsTraced moves = IsTraceOf (ins moves) (outs moves)

-- if the feed that was read ended without a fault, the trace of its session was written
abbrev pub IsTracedIfEnded : List Move → Type 0
IsTracedIfEnded moves = is_ended (account (ins moves)) ≡ true → IsTraced moves

-- Of each feed whose snapshot was read, and what follows it: if the whole feed ended without a fault, what was due
-- where it was paused and what was written are the trace of its session.
abbrev pub IsResumed : List Move → Type 0
IsResumed moves = Behind (ins moves)
    (λ F H. is_ended (account (F ++ H)) ≡ true → IsTraceOf (F ++ H) (due F ++ outs moves))

-- Of each feed whose snapshot was read whole, and what follows it: what was due where it was paused, and what was
-- written behind that, serve the whole feed so far.
abbrev pub IsResumedSoFar : List Move → Type 0
IsResumedSoFar moves = (F H : List ℕ) → MayPause F → ins moves ≡ snapshot F ++ H
    → IsServedSoFar (F ++ H) (due F ++ outs moves)

-- these bytes are the trace of a valid session
pub record IsAccepted (bytes : List ℕ) : Type 0 where
  pub session : Session
  pub valid : IsValidSession session
  pub text : bytes ≡ trace_of_session session
  pub accepted : verdict bytes ≡ Accepted session
  pub promises : KeepsPromises (instance_of session)

-- what stands of the run of these baiting jobs
pub record KeepsBaits (k : Fraction) (rounds : ℕ) : Type 0 where
  -- The third number that is written is what the schedule of the unit jobs and the bait is worth.
  pub schedule : worth (bait_instance k rounds) (bait_plan k rounds) ≡ plan_value k rounds
  -- The run completes the last job of the chain, and no other.
  pub last : CompletesLastAlone k rounds (bait_instance k rounds)
  pub promises : KeepsPromises (bait_instance k rounds)

-- what stands of the duel for a share
pub record KeepsDuel (k : Fraction) (share : Share) (front : Option ℕ) (moves : List Move) : Type 0 where
  -- Each scheduler that is on-line for valid jobs is worth less than this share of some schedule on a front of its
  -- jobs.
  pub loses : (scheduler : Scheduler) → IsOnline (AreValid One k) scheduler
      → LosesOnFront k share.whole share.part scheduler (jobs_for k share)
  -- What was written is a feed without a fault, of the front that was asked for.
  pub feed : IsFeedOf (duel_front k share front) (outs moves)

-- the feed that was read has a session, and this stands of the run of its jobs, whichever of them finish early
pub record IsRun (moves : List Move) : Type 0 where
  pub session : Session
  pub named : (account (ins moves)).session ≡ Some session
  pub promises : KeepsPromises (instance_of session)

-- the feed of a lane in what was read
abbrev pub feed_in : List Move → ℕ → List ℕ
feed_in moves lane = lane_feed (input (ins moves)) lane

-- What stands on the output for a lane is what its feed alone calls for; where the feed ended it is the trace of it.
pub record AreServed (moves : List Move) : Type 0 where
  pub alone : (lane : ℕ) → lane < lane_count → text_of_lane lane (outs moves) ≡ served_alone (input (ins moves)) lane
  pub traced : (lane : ℕ) → lane < lane_count → is_ended (account (feed_in moves lane)) ≡ true
      → IsTraceOf (feed_in moves lane) (text_of_lane lane (outs moves))

-- the session was closed, and the feed of each lane that has a line ended
pub record HaveEnded (moves : List Move) : Type 0 where
  pub closed : (input (ins moves)).standing ≡ Closed
  pub ended : (lane : ℕ) → lane < lane_count → feed_in moves lane ≢ [] → is_ended (account (feed_in moves lane)) ≡ true
