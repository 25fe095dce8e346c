-- The feed of some jobs.
use Rattle.std.specs.Prelude.{◌≡◌, ℕ, List, [], ◌∷◌, ◌++◌, map, Some}
use Rattle.dover_model.specs.Common.{JobFacts, Declaration, declared_by, Instance, IsValid, JobLine, EndLine, feed_text}
use Rattle.dover_model.specs.Common.{account, in_lines, IsValidSession, session_of}
use Rattle.dover_model.specs.Feed as feed
use Rattle.event_feed.specs.Reading.{rules_line}

-- the text of the line that declares the rules
abbrev pub rules_text : Declaration → List ℕ
rules_text rules = feed_text (rules_line rules)

-- the line of a job
abbrev pub job_text : JobFacts → List ℕ
job_text job = feed_text (JobLine job)

-- the lines of a feed: its rules, each job, and the end
abbrev pub feed_lines : Instance → List (List ℕ)
feed_lines J = rules_text (declared_by J.rules) ∷ (map job_text J.jobs ++ feed_text EndLine ∷ [])

-- a feed of these jobs alone
abbrev pub feed_of : Instance → List ℕ
feed_of J = in_lines (feed_lines J)

-- the text is the feed of these jobs, which are valid; it ends without a fault, and what it hands in are these jobs and
-- nothing else
pub record IsFeedOf (J : Instance) (text : List ℕ) : Type 0 where
  pub valid : IsValid J
  pub text_is : text ≡ feed_of J
  pub ended : (account text).standing ≡ feed.Ended
  pub session : (account text).session ≡ Some (session_of J)
  pub valid_session : IsValidSession (session_of J)
