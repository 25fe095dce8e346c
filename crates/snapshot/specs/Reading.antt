-- The lines of a snapshot as they are read, and which of them is the first that is refused.
use Rattle.std.specs.Prelude.{ℕ, ◌+◌, List, [], ◌∷◌, ◌++◌, length, Bool, true, false, ◌&&◌, ◌||◌, ◌==◌, nat_lt, nat_le}
use Rattle.std.specs.Prelude.{if◌then◌else◌, Option, Some, None, codes, bytes_eq, fold, find}
use Rattle.std.specs.Prelude.{option_and_then, option_map}
use Rattle.std.specs.Bool.{then_some}
use Rattle.dover_model.specs.declared.events.Role.{Role}
use Rattle.dover_model.specs.declared.events.Role.TheVariants.{Waiting, Held, Running, Done, Gone}
use Rattle.dover_model.specs.declared.events.Task.{Task}
use Rattle.dover_model.specs.Common.{last_tick_in, most_jobs, most_lines, job_of_numbers, is_ratio, fraction}
use Rattle.dover_model.specs.Common.{with_factor, Declaration, Item, JobItem, FinishItem, Session, EarlyFinish}
use Rattle.dover_model.specs.Common.{session_with, early_at, is_valid_session, mark_after, instance_of, factor_rules}
use Rattle.dover_model.specs.Common.{numerals, is_too_long, fields_of, numbers_of, version_of_number, settled_state}
use Rattle.dover_model.specs.Common.{FeedLine, DoneLine, feed_line}
use Rattle.snapshot.specs.Snapshot.{Head, role_word}
use Rattle.dover_model.specs.declared.events.Version.TheVariants.{Two}

-- ---- the forms of its lines

-- the rules of a version's number and a ratio, if they are within the limits
abbrev pub rules_from : (version p q : ℕ) → Option Declaration
rules_from n p q = option_and_then (λ version. then_some (is_ratio (fraction p q)) (record {
  ratio = fraction p q;
  version = version;
})) (version_of_number n)

-- the first line of these rules, if there are any, and of the other numbers
abbrev pub head_with : (lines mark jobs : ℕ) → Option Declaration → Option Head
head_with lines mark jobs o =
    option_map (λ rules. record { rules = rules; lines = lines; mark = mark; jobs = jobs }) o

-- the first line of these numbers, with a factor or without, if its rules are within the limits
abbrev pub head_from : List ℕ → Option Head
head_from (n ∷ p ∷ q ∷ lines ∷ mark ∷ jobs ∷ []) = head_with lines mark jobs (rules_from n p q)
head_from (n ∷ p ∷ q ∷ lines ∷ mark ∷ jobs ∷ b ∷ c ∷ []) =
    head_with lines mark jobs (factor_rules (with_factor (fraction p q) b c) n)
head_from _ = None

-- the first line that these bytes spell, if they do and its rules are within the limits
abbrev pub read_head : List ℕ → Option Head
read_head line = if is_too_long line then None else option_and_then head_from (numbers_of (codes "snapshot") line)

-- the role that a word stands for: no job is coming or fresh where a feed pauses
abbrev pub role_of_word : List ℕ → Option Role
role_of_word word = find (λ role. bytes_eq word (role_word role)) (Waiting ∷ Held ∷ Running ∷ Done ∷ Gone ∷ [])

-- the job in this role, of these numbers
abbrev pub task_from : Role → List ℕ → Option Task
task_from role (n ∷ had ∷ r ∷ c ∷ d ∷ v ∷ []) =
    Some (record { number = n; job = job_of_numbers r c d v; role = role; had = had })
task_from role _ = None

-- the job that fields name: `state`, its number, the word for its role, and five numbers
abbrev pub task_of_fields : List (List ℕ) → Option Task
task_of_fields (word ∷ number ∷ role ∷ fields) = if bytes_eq word (codes "state")
    then option_and_then (λ role. option_and_then (task_from role) (numerals (number ∷ fields))) (role_of_word role)
    else None
task_of_fields _ = None

-- the job that the line of a job spells, if it does
abbrev pub read_task : List ℕ → Option Task
read_task line = if is_too_long line then None else task_of_fields (fields_of line)

-- the tick and the number of a done line
abbrev pub done_of : FeedLine → Option (ℕ × ℕ)
done_of (DoneLine at number) = Some (at, number)
done_of _ = None

-- what the line of an early finish spells, if it does
abbrev pub read_done : List ℕ → Option (ℕ × ℕ)
read_done line = option_and_then done_of (feed_line line)

-- ---- what is tested

-- Mark and counts are within the limits, and there are lines for the ratio and for each job. A snapshot has no more
-- jobs than a feed of version Two.
abbrev pub is_within_limits : Head → Bool
is_within_limits h = nat_le h.mark (last_tick_in h.rules.version) && nat_le h.jobs (most_jobs Two)
    && nat_le (h.jobs + 1) h.lines && nat_le h.lines (most_lines h.rules.version)

-- what was handed in so far, under the rules of the first line
abbrev pub stored : Head → List Item → Session
stored h items = session_with h.rules items

-- with one item more it is a valid session, whose mark isn't behind that of the snapshot
abbrev pub may_stand : Head → List Item → Item → Bool
may_stand h items item = let all = items ++ item ∷ [] in
    is_valid_session (stored h all) && nat_le (mark_after 0 all) h.mark

-- so it is with a job, which has the next number
abbrev pub may_follow : Head → List Item → List Task → Task → Bool
may_follow h items tasks t = (t.number == length tasks) && may_stand h items (JobItem t.job)

-- A feed that hands in these items has a line for the ratio and for each of them. Its mark is that behind them, or a
-- later one, where there is a line more that may have moved it.
abbrev pub has_lines_for : Head → List Item → Bool
has_lines_for h items = nat_lt (length items) h.lines
    && (nat_le h.mark (mark_after 0 items) || nat_lt (length items + 1) h.lines)

-- both are in the same role and have had the same ticks
abbrev pub is_alike : Task → Task → Bool
is_alike t u = bytes_eq (role_word t.role) (role_word u.role) && (t.had == u.had)

-- the same of each job
abbrev pub are_alike : List Task → List Task → Bool
are_alike [] [] = true
are_alike (t ∷ tasks) (u ∷ others) = is_alike t u && are_alike tasks others
are_alike _ _ = false

-- the jobs are in the state that their settled steps lead to
abbrev pub is_settled : Head → List Item → List Task → Bool
is_settled h items tasks = are_alike tasks (settled_state (instance_of (stored h items)) h.mark).tasks

-- ---- line by line

-- what the lines so far say: the first line with what was handed in and the jobs, the whole snapshot, or the number of
-- the first refused line
pub data Reading : Type 0 where
  Begun : Reading
  Going : Head → List Item → List Task → Reading
  Taken : Head → List Item → List Task → Reading
  Refused : (line : ℕ) → Reading

-- with the first line
abbrev pub with_head : Option Head → Reading
with_head None = Refused 1
with_head (Some h) = if is_within_limits h then Going h [] [] else Refused 1

-- the line behind those of so many items is refused
abbrev pub refused_behind : List Item → Reading
refused_behind items = Refused (length items + 2)

-- with the line of a job
abbrev pub with_task : Head → List Item → List Task → Option Task → Reading
with_task h items tasks None = refused_behind items
with_task h items tasks (Some t) = if may_follow h items tasks t
    then Going h (items ++ JobItem t.job ∷ []) (tasks ++ t ∷ []) else refused_behind items

-- with the line of an early finish, if that is right
abbrev pub with_finish : Head → List Item → List Task → Option EarlyFinish → Reading
with_finish h items tasks None = refused_behind items
with_finish h items tasks (Some f) = if may_stand h items (FinishItem f)
    then Going h (items ++ FinishItem f ∷ []) tasks else refused_behind items

-- with the last line
abbrev pub with_last : Head → List Item → List Task → Bool → Reading
with_last h items tasks good = if good && has_lines_for h items && is_settled h items tasks
    then Taken h items tasks else refused_behind items

-- with a line that is no early finish's: that of a job, or behind the last job the last line
abbrev pub with_other : Head → List Item → List Task → List ℕ → Reading
with_other h items tasks line = if nat_lt (length tasks) h.jobs
    then with_task h items tasks (read_task line)
    else with_last h items tasks (bytes_eq line (codes "resume"))

-- the next line; behind a whole or a refused snapshot, lines are disregarded
abbrev pub next_line : Reading → List ℕ → Reading
next_line Begun line = with_head (read_head line)
next_line (Going h items tasks) line = elim (read_done line) [
  | None ↦ with_other h items tasks line
  | Some done ↦ with_finish h items tasks (early_at (stored h items) done.0 done.1)
]
next_line (Taken h items tasks) line = Taken h items tasks
next_line (Refused at) line = Refused at

-- what the lines say
abbrev pub reading_of : List (List ℕ) → Reading
reading_of ls = fold next_line Begun ls
