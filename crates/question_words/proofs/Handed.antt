-- A listed run that is served again, done line by done line.
use Rattle.std.proofs.Common.{◌≡◌, ◌≤◌, ◌+◌, ◌-◌, ℕ, zero, suc, List, [], ◌∷◌, ◌++◌, length, take, drop, refl, sym, ap}
use Rattle.std.proofs.Common.{◌∙◌, subst, ◌<◌, get_or, Option, Some, None, arith, take-append-drop, take-take, take_all}
use Rattle.std.proofs.Common.{length-take, length-drop}
use Rattle.std.specs.List.{AllByRecursion}
use Rattle.std.proofs.lemmas.List.{drop-take, drop_more, take_more}
use Rattle.dover_model.specs.declared.events.Event.{Event}
use Rattle.dover_model.specs.declared.horizon.Horizon.{Horizon}
use Rattle.dover_model.specs.declared.horizon.Horizon.TheVariants.{Mark, End}
use Rattle.dover_model.specs.Common.{Finish, MayFollow, Declaration, Instance, IsValid, under, with_jobs, finishing}
use Rattle.dover_model.specs.Common.{JobFacts, IsJob, EarlyFinish, finish_at, CostsAtMost, observed}
use Rattle.dover_model.proofs.runs.Honest.{observed_all}
use Rattle.dover_model.proofs.settled.Horizons.{may_follow}
use Rattle.dover_model.proofs.finishes.Meeting.{finishing_valid}
use Rattle.dover_model.proofs.valid.Valid.{all_front, all_back, valid_front}
use Rattle.event_feed.specs.declared.listed.DoneLine.{DoneLine}
use Rattle.event_feed.specs.Listing.{StandsAmong, StandAmong, ComesBehind, AreInTurn, jobs_before, with_early}
use Rattle.event_feed.specs.Listing.{right_finishes, handed, declared_in, listed_instance}
use Rattle.event_feed.specs.declared.listed.Listed.{Listed}
use Rattle.event_feed.proofs.Listing.{right_then}
use Rattle.ready_server.specs.Running.{HasShown, CanFeed, HasFed, with_finish, finished_at}
use Rattle.ready_server.specs.declared.server.ReadyServer.{ReadyServer}
use Rattle.ready_server.proofs.Feeding.{can_first}
use Rattle.question_words.specs.Replaying.{bare_instance}
use Rattle.dover_model.proofs.valid.ValidParts.{valid_parts}

-- the run of the first of these jobs, with the finishes of these done lines
abbrev pub run_of : Declaration → List JobFacts → (count : ℕ) → List DoneLine → Instance
run_of rules jobs count done_lines =
    record { rules = under rules (right_finishes rules jobs done_lines); jobs = take count jobs }

-- The server has taken the run of so many jobs and of some done lines, the watcher has seen what it printed, and the
-- other jobs and done lines may follow.
pub record IsAt {W : Type 0} (seen : W → List Event → Type 0) (server : ReadyServer) (watcher : W) (rules : Declaration)
    (jobs : List JobFacts) (done_lines rest : List DoneLine) (count : ℕ) : Type 0 where
  pub to : Horizon
  pub shown : HasShown seen server watcher (run_of rules jobs count done_lines) to
  pub few : count ≤ length jobs
  pub next : AllByRecursion (λ d. (count ≤ d.behind) × MayFollow to (Mark d.at)) rest
  pub follow : AllByRecursion (λ j. MayFollow to (Mark j.release)) (drop count jobs)
  pub ends : MayFollow to End

-- a finish behind others
with_finish_is : (J : Instance) (o : Option EarlyFinish)
    → with_finish J o ≡ finishing J (with_early J.rules.finishes o)
with_finish_is J None = refl
with_finish_is J (Some f) = refl

-- done lines may come first
may_begin : (jobs : List JobFacts) (done_lines : List DoneLine) → AllByRecursion (StandsAmong jobs) done_lines
    → AllByRecursion (λ d. (0 ≤ d.behind) × MayFollow (Mark 0) (Mark d.at)) done_lines
may_begin jobs [] each = tt
may_begin jobs (d ∷ done_lines) each = ((omega arith, (omega arith, each.0.known)), may_begin jobs done_lines each.1)

-- and behind one
may_go_on : (jobs : List JobFacts) (d : DoneLine) (done_lines : List DoneLine)
    → AllByRecursion (StandsAmong jobs) done_lines
    → AllByRecursion (ComesBehind d) done_lines
    → AllByRecursion (λ e. (d.behind ≤ e.behind) × MayFollow (Mark d.at) (Mark e.at)) done_lines
may_go_on jobs d [] each behind = tt
may_go_on jobs d (e ∷ done_lines) each behind = (
  (behind.0.jobs, (behind.0.ticks, each.0.known)),
  may_go_on jobs d done_lines each.1 behind.1,
)

-- the done lines behind some of them are in turn
turn_rest : (k : ℕ) (done_lines : List DoneLine) → AreInTurn done_lines → AreInTurn (drop k done_lines)
turn_rest zero done_lines turn = turn
turn_rest (suc k) [] turn = tt
turn_rest (suc k) (d ∷ done_lines) turn = turn_rest k done_lines turn.1

-- a done line in the place of one behind the last
abbrev pub no_line : DoneLine
no_line = record { at = 0; number = 0; behind = 0 }

-- The next done line may be taken. The jobs up to it are there and may be fed, and then they are served and its tick
-- may follow; and where the line is taken, the server has come one line further.
pub record IsNext {W : Type 0} (seen : W → List Event → Type 0) (server : ReadyServer) (watcher : W)
    (rules : Declaration) (jobs : List JobFacts) (done_lines : List DoneLine) (k count : ℕ) (d : DoneLine)
    (part : List JobFacts) : Type 0 where
  pub from : Horizon
  pub shown : HasShown seen server watcher (run_of rules jobs count (take k done_lines)) from
  pub can : CanFeed (run_of rules jobs count (take k done_lines)) from part
  pub few : length (with_jobs (run_of rules jobs count (take k done_lines)) part).jobs ≤ length jobs
  pub up : count ≤ d.behind
  pub there : d.behind ≤ length jobs
  pub before : (u : ReadyServer) (x : W) → HasFed seen u x (run_of rules jobs count (take k done_lines)) from part
      → (to : Horizon) × HasShown seen u x (jobs_before rules jobs (right_finishes rules jobs (take k done_lines)) d) to
      × MayFollow to (Mark d.at)
  pub behind : (u : ReadyServer) (x : W)
      → HasShown seen u x
      (finished_at (jobs_before rules jobs (right_finishes rules jobs (take k done_lines)) d) d.at d.number) (Mark d.at)
      → IsAt seen u x rules jobs (take (k + 1) done_lines) (drop (k + 1) done_lines) d.behind

-- No done line is left. The last jobs may be fed, and then all are served.
pub record IsLast {W : Type 0} (seen : W → List Event → Type 0) (server : ReadyServer) (watcher : W) (J : Instance)
    (part : List JobFacts) : Type 0 where
  pub before : Instance
  pub from : Horizon
  pub shown : HasShown seen server watcher before from
  pub can : CanFeed before from part
  pub all : with_jobs before part ≡ J

module _ (rules : Declaration) (jobs : List JobFacts) (valid : IsValid (record { rules = under rules []; jobs = jobs }))
  where
    -- the first jobs are valid, whatever finishes
    front_valid : (count : ℕ) (finishes : List Finish)
        → IsValid (record { rules = under rules finishes; jobs = take count jobs })
    front_valid count finishes = finishing_valid (record { rules = under rules []; jobs = take count jobs }) finishes
        (valid_front (record { rules = under rules []; jobs = take count jobs }) (drop count jobs)
        (subst (λ js. IsValid (record { rules = under rules []; jobs = js })) (sym (take-append-drop count jobs))
        valid))

    -- the jobs from one count on up to another
    abbrev part : (count behind : ℕ) → List JobFacts
    part count behind = take (behind - count) (drop count jobs)

    -- behind those before them
    with_part : (count behind : ℕ) → count ≤ behind → take count jobs ++ part count behind ≡ take behind jobs
    with_part count behind up =
        ap (λ js. take count jobs ++ js) (sym (drop-take count (behind - count) jobs)
        ∙ ap (λ n. drop count (take n jobs)) (let e : count + (behind - count) ≡ behind = omega (arith, up) in e))
        ∙ ap (λ js. js ++ drop count (take behind jobs)) (sym (take-take count behind jobs up))
        ∙ take-append-drop count (take behind jobs)

    -- the first jobs are no more than all
    few_taken : (n : ℕ) (js : List JobFacts) → js ≡ take n jobs → length js ≤ length jobs
    few_taken n js is = omega (arith, ap length is, length-take n jobs)

    module _ {W : Type 0} {seen : W → List Event → Type 0} where
      -- at first
      pub at_first : (s : ReadyServer) (w : W)
          → HasShown seen s w (record { rules = under rules []; jobs = [] }) (Mark 0)
          → (done_lines : List DoneLine) → AllByRecursion (StandsAmong jobs) done_lines
          → IsAt seen s w rules jobs [] done_lines 0
      at_first s w shown done_lines each = record {
        to = Mark 0;
        shown = shown;
        few = omega arith;
        next = may_begin jobs done_lines each;
        follow = (can_first rules.ratio rules.version jobs valid).follow;
        ends = tt;
      }

      module _ (s : ReadyServer) (w : W) (done_lines : List DoneLine) (d : DoneLine) (rest : List DoneLine) (count : ℕ)
          (at : IsAt seen s w rules jobs done_lines (d ∷ rest) count)
          (each : AllByRecursion (StandsAmong jobs) (d ∷ rest))
          (turn : AreInTurn (d ∷ rest)) where
        -- the jobs up to the done line
        joined : take count jobs ++ part count d.behind ≡ take d.behind jobs
        joined = with_part count d.behind at.next.0.0

        -- may be fed
        pub can_part : CanFeed (run_of rules jobs count done_lines) at.to (part count d.behind)
        can_part = record {
          valid = subst (λ js. IsValid (record {
            rules = under rules (right_finishes rules jobs done_lines);
            jobs = js;
          }))
              (sym joined) (front_valid d.behind (right_finishes rules jobs done_lines));
          follow = all_front (λ j. MayFollow at.to (Mark j.release)) (part count d.behind)
              (drop (d.behind - count) (drop count jobs))
              (subst (AllByRecursion (λ j. MayFollow at.to (Mark j.release)))
              (sym (take-append-drop (d.behind - count) (drop count jobs))) at.follow);
          ends = at.ends;
        }

        module _ (u : ReadyServer) (x : W)
            (fed : HasFed seen u x (run_of rules jobs count done_lines) at.to (part count d.behind)) where
          -- then they were served
          pub part_shown : HasShown seen u x (jobs_before rules jobs (right_finishes rules jobs done_lines) d) fed.to
          part_shown = subst (λ js. HasShown seen u x
              (record { rules = under rules (right_finishes rules jobs done_lines); jobs = js }) fed.to) joined
              fed.shown

          -- and the line's tick may follow
          pub part_reached : MayFollow fed.to (Mark d.at)
          part_reached = fed.reach d.at (
            at.next.0.1,
            all_back (λ j. j.release ≤ d.at) (take count jobs) (part count d.behind)
                (subst (AllByRecursion (λ j. j.release ≤ d.at)) (sym joined) each.0.before),
          )

        -- behind the done line
        pub at_next : (u : ReadyServer) (x : W)
            → HasShown seen u x (finished_at (jobs_before rules jobs (right_finishes rules jobs done_lines) d) d.at
            d.number)
            (Mark d.at)
            → IsAt seen u x rules jobs (done_lines ++ d ∷ []) rest d.behind
        at_next u x shown = record {
          to = Mark d.at;
          shown = subst (λ J. HasShown seen u x J (Mark d.at))
              (with_finish_is (jobs_before rules jobs (right_finishes rules jobs done_lines) d)
              (finish_at (jobs_before rules jobs (right_finishes rules jobs done_lines) d) d.at d.number)
              ∙ ap (λ fs. record { rules = under rules fs; jobs = take d.behind jobs })
              (sym (right_then rules jobs done_lines d)))
              shown;
          few = each.0.behind;
          next = may_go_on jobs d rest each.1 turn.0;
          follow = may_follow d.at (drop d.behind jobs) each.0.later
              (all_back IsJob (take d.behind jobs) (drop d.behind jobs)
              (subst (AllByRecursion IsJob) (sym (take-append-drop d.behind jobs)) (valid_parts valid).each));
          ends = tt;
        }

      module _ (s : ReadyServer) (w : W) (done_lines : List DoneLine) (k count : ℕ)
          (at : IsAt seen s w rules jobs (take k done_lines) (drop k done_lines) count) where
        module _ (among : StandAmong jobs done_lines) (low : k < length done_lines) where
          -- the line, and those behind it
          abbrev d : DoneLine
          d = get_or done_lines k no_line

          abbrev rest : List DoneLine
          rest = drop (k + 1) done_lines

          same : drop k done_lines ≡ d ∷ rest
          same = drop_more done_lines k no_line low

          at_line : IsAt seen s w rules jobs (take k done_lines) (d ∷ rest) count
          at_line = subst (λ ds. IsAt seen s w rules jobs (take k done_lines) ds count) same at

          each_line : AllByRecursion (StandsAmong jobs) (d ∷ rest)
          each_line = subst (AllByRecursion (StandsAmong jobs)) same
              (all_back (StandsAmong jobs) (take k done_lines) (drop k done_lines)
              (subst (AllByRecursion (StandsAmong jobs)) (sym (take-append-drop k done_lines)) among.each))

          line_turn : AreInTurn (d ∷ rest)
          line_turn = subst AreInTurn same (turn_rest k done_lines among.in_turn)

          -- it is next
          next_line : IsNext seen s w rules jobs done_lines k count d (part count d.behind)
          next_line = record {
            from = at_line.to;
            shown = at_line.shown;
            can = can_part s w (take k done_lines) d rest count at_line each_line line_turn;
            few = few_taken d.behind (take count jobs ++ part count d.behind)
                (joined s w (take k done_lines) d rest count at_line each_line line_turn);
            up = at_line.next.0.0;
            there = each_line.0.behind;
            before = λ u x fed. (
              fed.to,
              part_shown s w (take k done_lines) d rest count at_line each_line line_turn u x fed,
              part_reached s w (take k done_lines) d rest count at_line each_line line_turn u x fed,
            );
            behind = λ u x shown. subst (λ ds. IsAt seen u x rules jobs ds rest d.behind)
                (sym (take_more done_lines k no_line low))
                (at_next s w (take k done_lines) d rest count at_line each_line line_turn u x shown);
          }

        -- so it is in slices of the same lines and jobs
        pub next_done : StandAmong jobs done_lines → (lines : List DoneLine) → lines ≡ done_lines → k < length lines
            → (slice : List JobFacts) → slice ≡ jobs
            → IsNext seen s w rules jobs done_lines k count (get_or lines k no_line)
            (take ((get_or lines k no_line).behind - count) (drop count slice))
        next_done among lines are low slice is =
            subst (λ js. IsNext seen s w rules jobs done_lines k count (get_or lines k no_line)
            (take ((get_or lines k no_line).behind - count) (drop count js))) (sym is)
            (subst (λ ds. k < length ds → IsNext seen s w rules jobs done_lines k count (get_or ds k no_line)
            (part count (get_or ds k no_line).behind)) (sym are) (next_line among) low)

        -- behind all done lines
        pub last_done : length done_lines ≤ k → (slice : List JobFacts) → slice ≡ jobs
            → IsLast seen s w (record { rules = under rules (right_finishes rules jobs done_lines); jobs = jobs })
            (take (length slice - count) (drop count slice))
        last_done over slice is = subst (λ js. IsLast seen s w
            (record { rules = under rules (right_finishes rules jobs done_lines); jobs = jobs }) js)
            (ap (λ js. drop count js) (sym is)
            ∙ sym (take_all (length slice - count) (drop count slice) (omega (arith, length-drop count slice))))
            (record {
              before = run_of rules jobs count (take k done_lines);
              from = at.to;
              shown = at.shown;
              can = record {
                valid = subst (λ js. IsValid
                    (record { rules = under rules (right_finishes rules jobs (take k done_lines)); jobs = js }))
                    (sym (take-append-drop count jobs))
                    (finishing_valid (record { rules = under rules []; jobs = jobs })
                    (right_finishes rules jobs (take k done_lines)) valid);
                follow = at.follow;
                ends = at.ends;
              };
              all = ap (λ js. record { rules = under rules (right_finishes rules jobs (take k done_lines)); jobs = js })
                  (take-append-drop count jobs)
                  ∙ ap (λ ds. record { rules = under rules (right_finishes rules jobs ds); jobs = jobs })
                  (take_all k done_lines over);
            })

module _ {W : Type 0} {seen : W → List Event → Type 0} {s : ReadyServer} {w : W} (J : Instance) (part : List JobFacts)
    (it : IsLast seen s w J part) where
  -- where the last jobs were fed, all are served
  pub last_shown : (u : ReadyServer) (x : W) (fed : HasFed seen u x it.before it.from part)
      → HasShown seen u x J fed.to
  last_shown u x fed = subst (λ K. HasShown seen u x K fed.to) it.all fed.shown

  -- and what is few for those is few for all
  pub last_few : (start now : ℕ) → CostsAtMost (length (with_jobs it.before part).jobs) start now
      → CostsAtMost (length J.jobs) start now
  last_few start now few = subst (λ (K : Instance). CostsAtMost (length K.jobs) start now) it.all few

-- ---- a list without done lines

-- its run is that of the jobs alone
pub plain_is : (listed : Listed) → listed.done_lines.items ≡ [] → listed_instance listed ≡ bare_instance listed
plain_is listed none = ap (λ done_lines. handed (declared_in listed) listed.jobs.items done_lines) none

-- these are valid in any case
pub bare_valid : (listed : Listed) → IsValid (listed_instance listed) → IsValid (bare_instance listed)
bare_valid listed valid = finishing_valid (listed_instance listed) [] valid

-- and observed as they are
pub plain_observed : (listed : Listed) → IsValid (listed_instance listed) → listed.done_lines.items ≡ []
    → listed.jobs.items ≡ (observed (listed_instance listed)).jobs
plain_observed listed valid none = sym (ap (λ (J : Instance). J.jobs) (observed_all (listed_instance listed) valid
    (ap (λ (J : Instance). J.rules.finishes) (plain_is listed none))))
