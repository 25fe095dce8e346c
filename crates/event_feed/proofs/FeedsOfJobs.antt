-- The feed of valid jobs is read as these jobs.
use Rattle.std.proofs.Common.{◌≡◌, ℕ, suc, ◌+◌, ◌≤◌, List, [], ◌∷◌, ◌++◌, length, map, refl, sym, ap, ◌∙◌, subst}
use Rattle.std.proofs.Common.{append_assoc, cond, Option, Some, None, arith, false, fold, option_map, le-ltb}
use Rattle.std.proofs.Common.{append-nil}
use Rattle.std.specs.List.{AllByRecursion}
use Rattle.std.specs.Bool.{then_some}
use Rattle.std.specs.Option.{option_or}
use Rattle.std.proofs.lemmas.List.{map-append}
use Rattle.std.proofs.lemmas.List.Sums.{fold-append}
use Rattle.dover_model.specs.declared.events.Refusal.{Refusal}
use Rattle.dover_model.specs.declared.events.Refusal.TheVariants.{Full}
use Rattle.dover_model.specs.Common.{most_lines, JobFacts, IsJob, Declaration, declared_by, Instance, IsValid}
use Rattle.dover_model.specs.Common.{refusal_of, JobItem, instance_of, is_full, refusal_in, Session, session_with}
use Rattle.dover_model.specs.Common.{IsNeverFull, IsDeclarable, session_of, JobLine, EndLine, feed_line, feed_text}
use Rattle.dover_model.specs.Common.{Account, Ended, Lines, NotAdmitted, late_cause, with_line, with_fault, next_line}
use Rattle.dover_model.specs.Common.{account_of_lines, account}
use Rattle.dover_model.proofs.finishes.Meeting.{finishing_valid}
use Rattle.dover_model.proofs.texts.Cuts.{HasNoFeed}
use Rattle.dover_model.proofs.texts.FeedLines.{feed_line-feed_text}
use Rattle.dover_model.proofs.sessions.Growing.{instance_with}
use Rattle.dover_model.proofs.sessions.JobSessions.{from_zero, jobs_back, session_of_valid}
use Rattle.dover_model.proofs.valid.Limiting.{items_enough, items_of_lines}
use Rattle.dover_model.proofs.valid.Valid.{valid_front}
use Rattle.dover_model.proofs.valid.Admitting.{valid_admitted}
use Rattle.event_feed.specs.Reading.{open_account, rules_line}
use Rattle.event_feed.proofs.Counting.{after_form}
use Rattle.event_feed.proofs.Behind.{feedless_feed, lines_joined}
use Rattle.event_feed.proofs.Saying.{rules_account, job_numerals}
use Rattle.event_feed.specs.Feeds.{IsFeedOf, feed_of, feed_lines, job_text}
use Rattle.dover_model.proofs.valid.ValidParts.{ReleasesInOrder, valid_parts}

-- ---- line by line

module _ (rules : Declaration) where
  -- the session of these jobs
  abbrev session : List JobFacts → Session
  session jobs = session_with rules (map JobItem jobs)

  -- the account of the ratio line and of the lines of these jobs
  abbrev told : (lines : ℕ) → List JobFacts → (mark : ℕ) → Account
  told lines jobs mark = open_account lines (Some (session jobs)) mark

  -- where it isn't full, a job isn't refused that isn't by itself and the jobs before it
  admitted_behind : (done : List JobFacts) (j : JobFacts) → is_full (instance_of (session done)) j.release ≡ false
      → refusal_of rules done j ≡ None
      → refusal_in (session done) j ≡ None
  admitted_behind done j room none =
      let full : Option Refusal = then_some (is_full (instance_of (session done)) j.release) Full in
      ap (λ jobs. option_or (refusal_of rules jobs j) full) (jobs_back done)
      ∙ ap (λ o. option_or o full) none
      ∙ ap (λ b. then_some b Full) room

  -- the line of one job more
  one_more : (lines : ℕ) (done : List JobFacts) (mark : ℕ) (j : JobFacts) → suc lines ≤ most_lines rules.version
      → is_full (instance_of (session done)) j.release ≡ false → IsJob j
      → mark ≤ j.release
      → refusal_of rules done j ≡ None
      → next_line (told lines done mark) (job_text j) ≡ told (suc lines) (done ++ j ∷ []) j.release
  one_more lines done mark j few room job later none =
      let c : Account = told (suc lines) done mark in
      ap (λ b. cond b (with_fault c Lines) (after_form c (feed_line (job_text j))))
      (le-ltb (most_lines rules.version) (suc lines) few)
      ∙ ap (after_form c) (feed_line-feed_text (JobLine j) (job_numerals j job))
      ∙ ap (with_line c (JobLine j))
      (ap (λ b. cond b (Some (late_cause rules.version)) (option_map NotAdmitted (refusal_in (session done) j)))
      (le-ltb j.release mark later)
      ∙ ap (option_map NotAdmitted) (admitted_behind done j room none))
      ∙ ap (λ items. open_account (suc lines) (Some (session_with rules items)) j.release)
      (sym (map-append JobItem done (j ∷ [])))

  -- the lines of all jobs
  all_more : (jobs done : List JobFacts) (lines mark : ℕ) → IsValid (instance_with rules (done ++ jobs))
      → lines + length jobs ≤ most_lines rules.version → IsNeverFull (session (done ++ jobs))
      → AllByRecursion IsJob jobs → ReleasesInOrder jobs → AllByRecursion (λ j. mark ≤ j.release) jobs
      → (last : ℕ) × (fold next_line (told lines done mark) (map job_text jobs) ≡ told (lines + length jobs)
      (done ++ jobs) last)
  all_more [] done lines mark valid few never each order later = (
    mark,
    ap (λ n. told n done mark) (let e : lines ≡ lines + 0 = omega arith in e)
        ∙ ap (λ js. told (lines + 0) js mark) (sym (append-nil done)),
  )
  all_more (j ∷ jobs) done lines mark valid few never each order later =
      let next : List JobFacts = done ++ j ∷ [] in
      let both : next ++ jobs ≡ done ++ j ∷ jobs = append_assoc done (j ∷ []) jobs in
      let valid_next : IsValid (instance_with rules (next ++ jobs)) =
      subst (λ js. IsValid (instance_with rules js)) (sym both) valid in
      let admitted : refusal_of rules done j ≡ None =
      valid_admitted (instance_with rules done) j (valid_front (instance_with rules next) jobs valid_next) in
      let one : next_line (told lines done mark) (job_text j) ≡ told (suc lines) next j.release =
      one_more lines done mark j (omega (arith, few))
      (never (map JobItem done) j (map JobItem jobs) (map-append JobItem done (j ∷ jobs))) each.0 later.0 admitted in
      let rest = all_more jobs next (suc lines) j.release valid_next (omega (arith, few))
      (subst (λ js. IsNeverFull (session js)) (sym both) never) each.1 order.1 order.0 in (
        rest.0,
        ap (λ a. fold next_line a (map job_text jobs)) one ∙ rest.1
            ∙ ap (λ n. told n (next ++ jobs) rest.0)
            (let e : suc lines + length jobs ≡ lines + suc (length jobs) = omega arith in e)
            ∙ ap (λ js. told (lines + length (j ∷ jobs)) js rest.0) both,
      )

  -- the end line
  ends : (lines : ℕ) (jobs : List JobFacts) (mark : ℕ) → suc lines ≤ most_lines rules.version
      → next_line (told lines jobs mark) (feed_text EndLine) ≡ record (told (suc lines) jobs mark) { standing = Ended }
  ends lines jobs mark few =
      let c : Account = told (suc lines) jobs mark in
      ap (λ b. cond b (with_fault c Lines) (after_form c (feed_line (feed_text EndLine))))
      (le-ltb (most_lines rules.version) (suc lines) few)
      ∙ ap (after_form c) (feed_line-feed_text EndLine tt)

-- ---- the whole feed

-- no line of a job has a line feed
feedless_jobs : (jobs : List JobFacts) → AllByRecursion HasNoFeed (map job_text jobs ++ feed_text EndLine ∷ [])
feedless_jobs [] = (refl, tt)
feedless_jobs (j ∷ jobs) = (feedless_feed (JobLine j), feedless_jobs jobs)

module _ (J : Instance) (valid : IsValid J) (declarable : IsDeclarable (declared_by J.rules))
    (plain : J.rules.finishes ≡ []) (never : IsNeverFull (session_of J)) where
  -- what is declared
  abbrev declared : Declaration
  declared = declared_by J.rules

  -- no line has one
  feedless : AllByRecursion HasNoFeed (feed_lines J)
  feedless = (
    feedless_feed (rules_line declared),
    feedless_jobs J.jobs,
  )

  few : 2 + length J.jobs ≤ most_lines J.rules.version
  few = omega (arith, (valid_parts valid).count, items_enough J.rules.version, items_of_lines J.rules.version)

  -- the jobs
  jobs_told : (last : ℕ) × (fold next_line (told declared 1 [] 0) (map job_text J.jobs) ≡ told declared
      (1 + length J.jobs) J.jobs last)
  jobs_told = all_more declared J.jobs [] 1 0 (finishing_valid J [] valid)
      (omega (arith, few)) never (valid_parts valid).each (valid_parts valid).in_order (from_zero J.jobs)

  -- the account of the whole feed
  told_all : account (feed_of J) ≡ record (told declared (suc (1 + length J.jobs)) J.jobs jobs_told.0)
      { standing = Ended }
  told_all = ap account_of_lines (lines_joined (feed_lines J) feedless)
      ∙ ap (λ a. fold next_line a (map job_text J.jobs ++ feed_text EndLine ∷ []))
      (rules_account declared (valid_parts valid).ratio declarable)
      ∙ fold-append next_line (told declared 1 [] 0) (map job_text J.jobs) (feed_text EndLine ∷ [])
      ∙ ap (λ a. next_line a (feed_text EndLine)) jobs_told.1
      ∙ ends declared (1 + length J.jobs) J.jobs jobs_told.0 (omega (arith, few))

  pub feed_is : IsFeedOf J (feed_of J)
  feed_is = record {
    valid = valid;
    text_is = refl;
    ended = ap (λ (a : Account). a.standing) told_all;
    session = ap (λ (a : Account). a.session) told_all;
    valid_session = session_of_valid J plain valid declarable never;
  }
