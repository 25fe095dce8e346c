-- Few lines are left to give at any time.
use Rattle.std.proofs.Common.{map, drop, length-drop}
use Rattle.std.proofs.Common.{◌≡◌, ◌≤◌, ◌<◌, ◌+◌, ◌-◌, ℕ, zero, suc, List, [], ◌∷◌, ◌++◌, length, refl, ap, Bool, true}
use Rattle.std.proofs.Common.{false, Option, Some, None, cond, arith, length-append}
use Rattle.std.specs.List.{flat_map, range_with_len, slice_get}
use Rattle.std.proofs.lemmas.List.{length-map}
use Rattle.dover_model.specs.declared.events.Event.{Event}
use Rattle.dover_model.specs.Common.{Instance, IsValid, with_jobs, with_finishes, Session, EarlyFinish, instance_of}
use Rattle.dover_model.specs.Common.{finish_at, text_of, Account, account_of_lines, is_open, fault_text, due_by}
use Rattle.dover_model.specs.Common.{settled, is_full, JobFacts}
use Rattle.dover_model.specs.Feed.{Short}
use Rattle.dover_model.specs.declared.horizon.Horizon.{Horizon}
use Rattle.dover_model.specs.declared.horizon.Horizon.TheVariants.{Mark}
use Rattle.dover_model.proofs.settled.Horizons.{due_few}
use Rattle.dover_model.proofs.finishes.Meeting.{finishing_valid}
use Rattle.dover_model.proofs.valid.Limiting.{jobs_most}
use Rattle.dover_model.proofs.valid.Valid.{valid_front}
use Rattle.lane_server.proofs.Finishing.{lines_by}
use Rattle.lane_server.proofs.Offering as offer
use Rattle.lane_server.specs.Lanes.{lane_count, Handed, input_of_lines, lane_lines, in_lane, feed_short, lane_short}
use Rattle.lane_server.specs.Lanes.{shorts_from}
use Rattle.lane_server.specs.Lane.{Owes, done_lines, job_lines}
use Rattle.lane_server.specs.Kept.{Kept, Leaves, StandsFor}
use Rattle.lane_server.specs.declared.lane.Work.{Work}
use Rattle.lane_server.specs.declared.lane.Work.TheVariants.{Nothing, Give, Run, Admit, Finish}
use Rattle.lane_server.specs.declared.lanes.Phase.{Phase}
use Rattle.lane_server.specs.declared.lanes.Phase.TheVariants.{Ready, Giving, Closing}
use Rattle.ready_server.specs.declared.server.ReadyServer.{ReadyServer}

-- what is due is few
few_due : (J : Instance) (to : Horizon) → IsValid J → length (due_by J to) ≤ 20_000_000_001
few_due J to valid = omega (arith, due_few J to valid, jobs_most J.rules.version)

-- what is left of what is due
left_few : (J : Instance) (to : Horizon) (events left : List Event) → IsValid J → due_by J to ≡ events ++ left
    → length left ≤ 20_000_000_001
left_few J to events left valid is = omega (arith, few_due J to valid, ap length is, length-append events left)

-- what is left up to a done line, and what it adds
done_few : (S : Session) (t n : ℕ) (events left : List Event) → IsValid (instance_of S)
    → settled (instance_of S) t ≡ events ++ left
    → length left + length (done_lines S t n) ≤ 20_000_000_002
done_few S t n events left valid is = by_finish (finish_at (instance_of S) t n) where
  by_finish : (o : Option EarlyFinish) → length left + length (lines_by S t n o) ≤ 20_000_000_002
  by_finish None = omega (arith, left_few (instance_of S) (Mark t) events left valid is)
  by_finish (Some f) =
      let K : Instance = with_finishes (instance_of S) (f.finish ∷ []) in
      let all : length (settled K t) ≤ 20_000_000_001 = few_due K (Mark t)
      (finishing_valid (instance_of S) ((instance_of S).rules.finishes ++ f.finish ∷ []) valid) in
      omega (
        arith,
        length-map (drop (length (settled (instance_of S) t)) (settled K t)) text_of,
        length-drop (length (settled (instance_of S) t)) (settled K t),
        all,
        left_few (instance_of S) (Mark t) events left valid is,
        ap length is,
        length-append events left,
      )

-- what is left up to a job line, and what it adds
job_few : (S : Session) (j : JobFacts) (events left : List Event) → IsValid (with_jobs (instance_of S) (j ∷ []))
    → settled (instance_of S) j.release ≡ events ++ left
    → length left + length (job_lines S j) ≤ 20_000_000_002
job_few S j events left valid is = by_room (is_full (instance_of S) j.release) where
  before : length (settled (instance_of S) j.release) ≤ 20_000_000_001
  before = few_due (instance_of S) (Mark j.release) (valid_front (instance_of S) (j ∷ []) valid)

  by_room : (full : Bool) → length left + length (offer.lines_by S j full) ≤ 20_000_000_002
  by_room true = omega (arith, before, ap length is, length-append events left)
  by_room false =
      let K : Instance = with_jobs (instance_of S) (j ∷ []) in
      omega (
        arith,
        length-map (drop (length (settled (instance_of S) j.release)) (settled K j.release)) text_of,
        length-drop (length (settled (instance_of S) j.release)) (settled K j.release),
        few_due K (Mark j.release) valid,
        before,
        ap length is,
        length-append events left,
      )

-- what the work under way still gives
pub owes_few : (work : Work) (server : Option ReadyServer) (a : Account)
    (rest : List (List ℕ)) → Owes work server a rest → length rest ≤ 20_000_000_002
owes_few Nothing server a rest owes = omega (arith, ap length owes.0)
owes_few (Give out) server a rest owes = omega (arith, ap length owes.0)
owes_few (Run to) (Some v) a rest owes = omega (
  arith,
  ap length owes.texts,
  length-map owes.left text_of,
  left_few (instance_of owes.session) to owes.events owes.left owes.valid owes.due,
)
owes_few (Admit job) (Some v) a rest owes = omega (
  arith,
  ap length owes.texts,
  length-append (map text_of owes.left) (job_lines owes.session job),
  length-map owes.left text_of,
  job_few owes.session job owes.events owes.left owes.valid owes.due,
)
owes_few (Finish at number) (Some v) a rest owes = omega (
  arith,
  ap length owes.texts,
  length-append (map text_of owes.left) (done_lines owes.session at number),
  length-map owes.left text_of,
  done_few owes.session at number owes.events owes.left owes.valid owes.due,
)
owes_few _ None a rest owes = absurd owes

-- a feed is short once at most
short_few : (ls : List (List ℕ)) → length (feed_short ls) ≤ 1
short_few [] = omega arith
short_few (l ∷ ls) = by_open (is_open (account_of_lines (l ∷ ls))) where
  by_open : (b : Bool) → length (cond b (fault_text (suc (length (l ∷ ls))) Short ∷ []) []) ≤ 1
  by_open true = omega arith
  by_open false = omega arith

-- so are lanes
range_few : (handed : List Handed) (from more : ℕ)
    → length (flat_map (lane_short handed) (range_with_len from more)) ≤ more
range_few handed from zero = omega arith
range_few handed from (suc more) = omega (
  arith,
  length-append (lane_short handed from) (flat_map (lane_short handed) (range_with_len (from + 1) more)),
  length-map (feed_short (lane_lines handed from)) (in_lane from),
  short_few (lane_lines handed from),
  range_few handed (from + 1) more,
)

-- those from one lane on
shorts_few : (handed : List Handed) (from more : ℕ) → length (shorts_from handed from more) ≤ more
unfolding shorts_from
shorts_few handed from more = range_few handed from more

-- a place of a list has an element
pub element : {X : Type 0} (xs : List X) (i : ℕ) → i < length xs → (x : X) × (slice_get xs i ≡ Some x)
element [] i low = absurd (omega arith)
element (x ∷ xs) zero low = (x, refl)
element (x ∷ xs) (suc i) low = element xs i (omega arith)

-- whatever is under way
pub few_left : (kept : Kept) (ls rest : List (List ℕ)) → StandsFor kept ls rest
    → length rest ≤ 20_000_000_002
few_left kept ls rest it = by_phase kept.phase it.left where
  by_phase : (p : Phase) → Leaves p kept.lanes (input_of_lines ls) rest → length rest ≤ 20_000_000_002
  by_phase Ready left = omega (arith, ap length left.1)
  by_phase (Giving lane) left =
      let there = element kept.lanes lane (omega (arith, it.count, left.3.within)) in
      let stands = left.3.gives there.0 there.1 in
      omega (
        arith,
        ap length left.2,
        length-map left.0 (in_lane lane),
        owes_few there.0.work there.0.server
            (account_of_lines (lane_lines (input_of_lines ls).handed lane)) left.0 stands.owes,
      )
  by_phase (Closing next) left =
      omega (arith, ap length left.2, shorts_few (input_of_lines ls).handed next (lane_count - next))
