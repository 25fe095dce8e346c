-- What the answer to the line of a job says of the job.
use Rattle.std.proofs.Common.{◌≡◌, ℕ, suc, ◌+◌, List, [], ◌∷◌, ◌++◌, length, length-append, refl, sym, ap, ◌∙◌, subst}
use Rattle.std.proofs.Common.{inl, inr, Bool, true, false, cond, arith, Option, Some, None, Ok, Err, IsSome, is_some}
use Rattle.std.proofs.Common.{fold}
use Rattle.std.specs.List.{AllByRecursion}
use Rattle.std.proofs.lemmas.List.Elements.{filter_map-append}
use Rattle.std.proofs.lemmas.List.Sums.{fold-append}
use Rattle.dover_model.specs.Common.{JobFacts, IsJob, job_numbers, job_of_numbers, AreShort, Session, Item, JobItem}
use Rattle.dover_model.specs.Common.{RefusedJob, IsValidSession, job_of_item, admitted_jobs, refuses_lines, mark_after}
use Rattle.dover_model.specs.Common.{JobLine, feed_text, Account, Open, Faulty, NotAdmitted, later_line_cause}
use Rattle.dover_model.specs.Common.{next_line, no_lines, account_of_lines, with_line, with_fault, with_refused_at}
use Rattle.dover_model.specs.Common.{refused_mark, is_full, instance_of}
use Rattle.dover_model.specs.Feed as model
use Rattle.dover_model.proofs.lists.Members.{some_same, all_last}
use Rattle.dover_model.proofs.lists.Tests.{never}
use Rattle.dover_model.proofs.sessions.Accounts.{IsKept, lines_goes}
use Rattle.dover_model.proofs.sessions.Fullness.{few_ready}
use Rattle.dover_model.proofs.sessions.Growing.{job_instance, refused_instance}
use Rattle.dover_model.proofs.sessions.SessionParts.{session_jobs}
use Rattle.dover_model.proofs.texts.FeedLines.{feed_line-feed_text}
use Rattle.dover_model.proofs.valid.ValidParts.{valid_parts}
use Rattle.event_feed.proofs.Accepting.{offer_room, offer_accepted}
use Rattle.event_feed.proofs.DoneLines.{done_session, done_jobs}
use Rattle.event_feed.proofs.Listing.{job_after}
use Rattle.event_feed.proofs.Taking.{is_going}
use Rattle.event_feed.specs.Reading.{open_account}
use Rattle.event_feed.specs.declared.fed.Fed.{Fed}
use Rattle.event_feed.specs.declared.fed.Fed.TheVariants as fed
use Rattle.event_feed.specs.declared.faults.FeedFault.{FeedFault}
use Rattle.event_feed.specs.Answers.{Answers, AddsJob, IsFed as Feeds, counted}
use Rattle.event_feed.specs.Kept as feed
use Rattle.event_feed.specs.declared.intake.Standing.TheVariants as standings
use Rattle.event_feed.specs.declared.intake.Standing as standing
use Rattle.event_feed.specs.declared.kept_session.KeptSession.{KeptSession}
use Rattle.snapshot.specs.Snapshot.{Head}
use Rattle.snapshot.specs.Reading.{stored}
use Rattle.snapshot.specs.Stored.{NoneRefused, fed_lines, fed_account}
use Rattle.snapshot.specs.Kept.{IsFed, HasRoom, job_in}
use Rattle.snapshot.proofs.Accounted.{fed_is, lines_more, good_more, kept_session}
use Rattle.snapshot.proofs.ItemLines.{line_read}
use Rattle.snapshot.proofs.Reached.{holds_open}

-- ---- an intake that goes on

-- where the account of its lines is open and has a session, it goes on
pub goes_on : (i : feed.Kept) (ls : List (List ℕ)) (S : Session) → feed.StandsFor i ls
    → (account_of_lines ls).standing ≡ Open
    → (account_of_lines ls).session ≡ Some S → feed.IsGoing i
goes_on i ls S it opened there = is_going i.lines i.session i.standing
    (by_session i.session (subst
    (λ o. feed.KeepsSession i.session o (account_of_lines ls).mark) there it.by_account.session))
    (by_standing i.standing (it.by_account.standing ∙ opened)) where
      by_session : (o : Option KeptSession) → feed.KeepsSession o (Some S) (account_of_lines ls).mark → IsSome o
      by_session None it = absurd it
      by_session (Some kept) it = refl

      by_standing : (s : standing.Standing) → feed.standing_of s ≡ Open → s ≡ standings.Open
      by_standing standings.Open e = refl
      by_standing standings.Over e = absurd (let clash : model.Ended ≡ Open = e in cc)
      by_standing (standings.Faulty f) e =
          absurd (let clash : Faulty f.line (feed.cause_of_fault f.cause) ≡ Open = e in cc)

-- ---- the jobs of an account

-- its jobs
abbrev jobs_in_session : Option Session → List JobFacts
jobs_in_session None = []
jobs_in_session (Some S) = admitted_jobs S.items

-- how many they are
abbrev count : Account → ℕ
count a = length (jobs_in_session a.session)

-- lists with equal last elements
same_last : (xs ys : List JobFacts) (x y : JobFacts) → xs ++ x ∷ [] ≡ ys ++ y ∷ [] → x ≡ y
same_last xs ys x y e = sym (fold-append (λ p q. q) x xs (x ∷ [])) ∙ ap (λ zs. fold (λ p q. q) x zs) e
    ∙ fold-append (λ p q. q) x ys (y ∷ [])

-- an answer with no job adds none
none_added : (bytes : List ℕ) (a b : Account) (S : Session) (answer : Fed) → a.session ≡ Some S → job_in answer ≡ None
    → Feeds (counted a) b answer → count b ≡ count a
none_added bytes a b S (fed.Ratio k version) there none it =
    absurd (let clash : Some S ≡ None = sym there ∙ it.first in cc)
none_added bytes a b S (fed.Job n j) there none it = absurd (let clash : Some j ≡ None = none in cc)
none_added bytes a b S (fed.Tick t) there none it = ap count it.after_is
none_added bytes a b S fed.Over there none it = ap count it.after_is
none_added bytes a b S (fed.Refused r c d v refusal) there none it = ap count it.after_is
    ∙ ap (λ J. length J.jobs)
    (refused_instance it.session (record { at = a.mark; line = RefusedJob (job_of_numbers r c d v) refusal }))
    ∙ ap (λ o. length (jobs_in_session o)) (sym it.before_is)
none_added bytes a b S (fed.Done t n) there none it = ap count it.after_is
    ∙ ap (λ o. length (jobs_in_session o)) (done_session it.session t n (counted a) it.before_is)
    ∙ ap length (done_jobs it.session a.mark t n)
    ∙ ap (λ o. length (jobs_in_session o)) (sym it.before_is)

-- nor does a fault
none_at_fault : (bytes : List ℕ) (a b : Account) (fault : FeedFault) → Answers bytes a b (Err fault) → count b ≡ count a
none_at_fault bytes a b fault (inl it) = ap count it.after_is
none_at_fault bytes a b fault (inr it) = ap count it.after_is

-- the account with another session
abbrev account_in : Account → Option Session → Account
account_in a o = record { lines = a.lines; session = o; mark = a.mark; standing = a.standing }

-- a line with a cause adds none
cause_adds_none : (a : Account) (j : JobFacts) (cause : model.Cause)
    → count (with_line a (JobLine j) (Some cause)) ≡ count a
cause_adds_none a j (NotAdmitted refusal) = by_session a.session where
  by_version : (S : Session) (two : Bool)
      → count (cond two (with_refused_at (account_in a (Some S)) (refused_mark a.mark j refusal) j refusal)
      (with_fault (account_in a (Some S)) (NotAdmitted refusal)))
      ≡ length (admitted_jobs S.items)
  by_version S true = ap (λ J. length J.jobs) (refused_instance S
      (record { at = refused_mark a.mark j refusal; line = RefusedJob j refusal }))
  by_version S false = refl

  by_session : (o : Option Session)
      → count (with_line (account_in a o) (JobLine j) (Some (NotAdmitted refusal))) ≡ count (account_in a o)
  by_session None = refl
  by_session (Some S) = by_version S (refuses_lines S.rules.version)
cause_adds_none a j _ = refl

-- ---- the line of a job

module _ (h : Head) (items : List Item) (i : feed.Kept) (it : IsFed i h items) (room : HasRoom h items) (j : JobFacts)
    (short : AreShort (job_numbers j)) where
  abbrev S : Session
  S = stored h items

  -- the line
  abbrev line : List ℕ
  line = feed_text (JobLine j)

  -- the lines before it
  abbrev ls : List (List ℕ)
  ls = fed_lines h items

  so_far : account_of_lines ls ≡ fed_account h items
  so_far = fed_is h items room.valid room.good (omega (arith, room.lines))

  -- the cause of the line
  abbrev cause : Option model.Cause
  cause = later_line_cause S (mark_after 0 items) (JobLine j)

  -- the account in which it is counted
  abbrev counted_in : Account
  counted_in = open_account (suc (length items + 1)) (Some S) (mark_after 0 items)

  -- the account with it, by the cause
  with_cause : account_of_lines (ls ++ line ∷ []) ≡ with_line counted_in (JobLine j) cause
  with_cause = fold-append next_line no_lines ls (line ∷ []) ∙ ap (λ a. next_line a line) so_far
      ∙ line_read S (length items + 1) (mark_after 0 items) (omega (arith, room.lines)) (JobLine j)
      (feed_line-feed_text (JobLine j) short)

  -- the jobs before it
  counts : count (account_of_lines ls) ≡ length (admitted_jobs items)
  counts = ap count so_far

  -- with a cause they are as many
  cause_counts : (c : model.Cause) → cause ≡ Some c
      → count (account_of_lines (ls ++ line ∷ [])) ≡ length (admitted_jobs items)
  cause_counts c is = ap count (with_cause ∙ ap (with_line counted_in (JobLine j)) is) ∙ cause_adds_none counted_in j c

  -- the items with it
  abbrev more : List Item
  more = items ++ JobItem j ∷ []

  good_with : NoneRefused more
  good_with = good_more items (JobItem j) room.good refl

  -- where they are a valid session, they are one more
  valid_counts : IsValidSession (stored h more)
      → count (account_of_lines (ls ++ line ∷ [])) ≡ length (admitted_jobs items) + 1
  valid_counts valid = ap (λ xs. count (account_of_lines xs)) (lines_more h items (JobItem j))
      ∙ ap count (fed_is h more valid good_with (omega (arith, room.lines, length-append items (JobItem j ∷ []))))
      ∙ ap length (filter_map-append job_of_item items (JobItem j ∷ []))
      ∙ length-append (admitted_jobs items) (j ∷ [])

  -- where none is added, they aren't
  pub not_valid : count (account_of_lines (ls ++ line ∷ [])) ≡ count (account_of_lines ls)
      → IsValidSession (stored h more) → ⊥
  not_valid same valid = absurd (omega (arith, same, counts, valid_counts valid))

  -- the answer to it
  abbrev Says : Fed → Type 0
  Says answer = Answers line (account_of_lines ls) (account_of_lines (ls ++ line ∷ [])) (Ok answer)

  -- an answer with no job says that they aren't valid
  no_job : (answer : Fed) → job_in answer ≡ None → Says answer → IsValidSession (stored h more) → ⊥
  no_job answer none said = not_valid (none_added line (account_of_lines ls) _ S answer (ap (λ a. a.session) so_far)
      none said.1)

  -- so does a fault
  pub no_fault : (fault : FeedFault)
      → Answers line (account_of_lines ls) (account_of_lines (ls ++ line ∷ [])) (Err fault)
      → IsValidSession (stored h more) → ⊥
  no_fault fault said = not_valid (none_at_fault line (account_of_lines ls) _ fault said)

  -- they are valid, there is room for the job, and once it is accepted its line was handed in
  pub record Offers (offers : feed.Kept) : Type 0 where
    pub valid : IsValidSession (stored h more)
    pub has_room : feed.HasRoom offers j
    pub fed : (after : feed.Kept) → feed.Accepts j offers after → IsFed after h more

  -- an answer with a job
  module _ (n : ℕ) (job : JobFacts) (said : Says (fed.Job n job)) where
    adds : AddsJob n job (counted (account_of_lines ls)) (account_of_lines (ls ++ line ∷ []))
    adds = said.1

    session_is : adds.session ≡ S
    session_is = some_same adds.session S (sym adds.before_is ∙ ap (λ (x : Account). x.session) so_far)

    room_here : is_full (instance_of adds.session) job.release ≡ false
    room_here = few_ready (instance_of adds.session) job.release (omega (
      arith,
      room.few,
      ap (λ (T : Session). length (admitted_jobs T.items)) session_is,
    ))

    jobs_after : jobs_in_session (account_of_lines (ls ++ line ∷ [])).session
        ≡ admitted_jobs adds.session.items ++ job ∷ []
    jobs_after = ap (λ (x : Account). jobs_in_session x.session)
        (job_after (counted (account_of_lines ls)) _ n job adds room_here)
        ∙ ap (λ J. J.jobs) (job_instance adds.session job)

    -- the line has no cause
    no_cause : cause ≡ None
    no_cause = by_cause cause refl where
      by_cause : (o : Option model.Cause) → cause ≡ o → cause ≡ None
      by_cause (Some c) is = absurd (omega (
        arith,
        cause_counts c is,
        ap (λ (T : Session). length (admitted_jobs T.items)) session_is,
        ap length jobs_after,
        length-append (admitted_jobs adds.session.items) (job ∷ []),
      ))
      by_cause None none = none

    -- so the session has it
    account_is : account_of_lines (ls ++ line ∷ [])
        ≡ open_account (suc (length items + 1)) (Some (stored h more)) j.release
    account_is = with_cause ∙ ap (with_line counted_in (JobLine j)) no_cause

    -- the job is the line's
    same_job : job ≡ j
    same_job = same_last (admitted_jobs adds.session.items) (admitted_jobs items) job j
        (sym jobs_after ∙ ap (λ (x : Account). jobs_in_session x.session) account_is
        ∙ filter_map-append job_of_item items (JobItem j ∷ []))

    kept : IsKept (account_of_lines (ls ++ line ∷ []))
    kept = (lines_goes (ls ++ line ∷ []) no_lines zero_mark).0 where
      zero_mark : no_lines.mark ≡ 0
      zero_mark = refl

    -- it is valid, there is room for it, and once it is accepted its line was handed in
    job_offered : (offers : feed.Kept)
        → feed.StandsBehind {E = FeedFault} (Ok (fed.Job n job)) offers ls line → Offers offers
    job_offered offers stands = record {
      valid = kept_session h more _ _ (holds_open (account_of_lines (ls ++ line ∷ [])) (stored h more) kept
          (ap (λ (x : Account). x.standing) account_is) (ap (λ (x : Account). x.session) account_is)) good_with
          (omega (
            arith,
            room.few,
            ap length (filter_map-append job_of_item items (JobItem j ∷ [])),
            length-append (admitted_jobs items) (j ∷ []),
          ));
      has_room = subst (feed.HasRoom offers) same_job (offer_room (account_of_lines ls)
          (account_of_lines (ls ++ line ∷ [])) n job adds offers stands);
      fed = λ after accepts.
          let now : feed.StandsFor after (ls ++ line ∷ []) = record {
            by_account = offer_accepted (account_of_lines ls) (account_of_lines (ls ++ line ∷ [])) n job adds offers
                stands after (subst (λ x. feed.Accepts x offers after) (sym same_job) accepts) room_here;
          } in record {
            stands = subst (feed.StandsFor after) (lines_more h items (JobItem j)) now;
            going = goes_on after (ls ++ line ∷ []) (stored h more) now
                (ap (λ (x : Account). x.standing) account_is) (ap (λ (x : Account). x.session) account_is);
          };
    }

  -- so says any answer that offers a job
  pub offered : (answer : Fed) (offers : feed.Kept) → is_some (job_in answer) ≡ true
      → feed.StandsBehind {E = FeedFault} (Ok answer) offers ls line → Says answer → Offers offers
  offered (fed.Job n job) offers some stands said = job_offered n job said offers stands
  offered _ offers some stands said = never some

  -- an answer that offers none says that they aren't valid
  pub none_offered : (answer : Fed) → is_some (job_in answer) ≡ false → Says answer
      → IsValidSession (stored h more) → ⊥
  none_offered answer none said = no_job answer (by (job_in answer) none) said where
    by : (o : Option JobFacts) → is_some o ≡ false → o ≡ None
    by None n = refl
    by (Some x) n = absurd (let clash : true ≡ false = n in cc)

-- numbers of which no job can be made aren't valid
pub none_made : (h : Head) (items : List Item) (j : JobFacts) → (IsJob j → ⊥)
    → IsValidSession (stored h (items ++ JobItem j ∷ [])) → ⊥
none_made h items j none valid = none (all_last IsJob (admitted_jobs items) j
    (subst (AllByRecursion IsJob) (filter_map-append job_of_item items (JobItem j ∷ []))
    (valid_parts (session_jobs valid)).each))
