-- An intake that is handed the line of the ratio, those of early finishes, and the tick lines behind all.
use Rattle.std.proofs.Common.{◌≡◌, ℕ, suc, ◌+◌, ◌-◌, ◌≤◌, ◌<◌, List, [], ◌∷◌, ◌++◌, replicate, length, refl, sym, ap}
use Rattle.std.proofs.Common.{◌∙◌, length-append, Bool, true, false, ◌&&◌, arith, Some, append_assoc, append-nil, subst}
use Rattle.std.proofs.Common.{nat_le, nat_lt, fold, leb-true, ltb-true, ltb-false, cond, Option, None}
use Rattle.std.proofs.lemmas.Bool.{and_parts}
use Rattle.std.proofs.lemmas.List.Elements.{filter_map-append}
use Rattle.std.proofs.lemmas.List.Sums.{fold-append}
use Rattle.dover_model.specs.Common.{IsRatio, last_tick_in, most_jobs, most_lines, TickLine, DoneLine, feed_text}
use Rattle.dover_model.specs.Common.{Account}
use Rattle.dover_model.specs.Common.{next_line, no_lines, account_of_lines, JobFacts, Session, with_item, IsDeclarable}
use Rattle.dover_model.specs.Common.{Item, JobItem, FinishItem, EarlyFinish, finish_of_item, early_finishes, mark_after}
use Rattle.dover_model.specs.Common.{is_full, instance_of, refused_at}
use Rattle.dover_model.specs.declared.events.Version.TheVariants.{Two}
use Rattle.dover_model.specs.declared.events.Refusal.TheVariants.{Full}
use Rattle.event_feed.specs.Answers.{AddsJob, counted, offered_item}
use Rattle.event_feed.specs.Kept as feed
use Rattle.dover_model.proofs.lists.Members.{some_same}
use Rattle.dover_model.proofs.lists.Tests.{none_is_some}
use Rattle.event_feed.specs.Reading.{open_account}
use Rattle.event_feed.proofs.Skipping.{ticks}
use Rattle.event_feed.proofs.Taking.{kept_most}
use Rattle.snapshot.specs.Snapshot.{Head}
use Rattle.snapshot.specs.Reading.{is_within_limits, stored}
use Rattle.snapshot.specs.Stored.{ratio_text, fed_lines, fed_account}
use Rattle.snapshot.specs.Kept.{IsFed, IsGoodNext, IsRightAt, CanPause, tick_lines, feed_lines, paused_account}
use Rattle.event_feed.proofs.Saying.{rules_account, tick_account}
use Rattle.snapshot.proofs.Accounted.{fed_is, lines_more, good_more}
use Rattle.snapshot.proofs.Handed.{goes_on}

-- how many early finishes an account has
abbrev finishes_in : Account → ℕ
finishes_in a = elim a.session [ None ↦ 0 | Some S ↦ length (early_finishes S.items) ]

-- a job line adds an item
adds_item : (a b : Account) (n : ℕ) (job : JobFacts) → AddsJob n job a b → b.session ≡ a.session → ⊥
adds_item a b n job it same =
    let S : Session = it.session in
    let grown : with_item S (offered_item S job) ≡ S = some_same (with_item S (offered_item S job)) S
    (sym (ap (λ (x : Account). x.session) it.after_is) ∙ same ∙ it.before_is) in
    omega (arith, ap (λ (T : Session). length T.items) grown, length-append S.items (offered_item S job ∷ []))

-- and no finish
adds_no_finish : (a b : Account) (n : ℕ) (job : JobFacts) → AddsJob n job a b → finishes_in b ≡ finishes_in a
adds_no_finish a b n job it = ap finishes_in it.after_is
    ∙ ap length (filter_map-append finish_of_item it.session.items (offered_item it.session job ∷ []))
    ∙ none (is_full (instance_of it.session) job.release)
    ∙ ap {B = ℕ} (λ (o : Option Session). elim o [ None ↦ 0 | Some S ↦ length (early_finishes S.items) ])
    (sym it.before_is) where
      none : (b : Bool) → length (early_finishes it.session.items
          ++ early_finishes (cond b (refused_at job.release job Full) (JobItem job) ∷ []))
          ≡ length (early_finishes it.session.items)
      none true = ap length (append-nil (early_finishes it.session.items))
      none false = ap length (append-nil (early_finishes it.session.items))

-- ---- the ratio

module _ (h : Head) (ratio : IsRatio h.rules.ratio) (declared : IsDeclarable h.rules) where
  -- the account of its line
  begun : account_of_lines (ratio_text h ∷ []) ≡ fed_account h []
  begun = rules_account h.rules ratio declared

  -- it is a good first line
  pub begin_good : (i : feed.Kept) → feed.StandsFor i [] → IsGoodNext i [] (ratio_text h)
  begin_good i it = record {
    stands = it;
    good = ap (λ (a : Account). a.standing) begun;
    no_job = λ n job adds. none_is_some adds.before_is;
  }

  -- it is handed in
  pub begin_fed : (i : feed.Kept) → feed.StandsFor i (ratio_text h ∷ []) → IsFed i h []
  begin_fed i it = record {
    stands = it;
    going = goes_on i (ratio_text h ∷ []) (stored h []) it (ap (λ (a : Account). a.standing) begun)
        (ap (λ (a : Account). a.session) begun);
  }

-- ---- an early finish

module _ (h : Head) (items : List Item) (at number : ℕ) (f : EarlyFinish) (right : IsRightAt h items at number f)
    (before : account_of_lines (fed_lines h items) ≡ fed_account h items) where
  abbrev line : List ℕ
  line = feed_text (DoneLine at number)

  same_line : line ≡ feed_text (DoneLine f.at f.finish.number)
  same_line = ap (λ t. feed_text (DoneLine t number)) (sym right.tick)
      ∙ ap (λ n. feed_text (DoneLine f.at n)) (sym right.named)

  lines_are : fed_lines h items ++ line ∷ [] ≡ fed_lines h (items ++ FinishItem f ∷ [])
  lines_are = ap (λ l. fed_lines h items ++ l ∷ []) same_line ∙ lines_more h items (FinishItem f)

  -- the account with its line
  with_it : account_of_lines (fed_lines h items ++ line ∷ []) ≡ fed_account h (items ++ FinishItem f ∷ [])
  with_it = ap account_of_lines lines_are
      ∙ fed_is h (items ++ FinishItem f ∷ []) right.valid (good_more items (FinishItem f) right.good refl)
      (omega (arith, right.lines, length-append items (FinishItem f ∷ [])))

  -- it is good
  pub done_good : (i : feed.Kept) → IsFed i h items → IsGoodNext i (fed_lines h items) line
  done_good i it = record {
    stands = it.stands;
    good = ap (λ (a : Account). a.standing) with_it;
    no_job = λ n job adds. absurd (omega (
      arith,
      adds_no_finish (counted (account_of_lines (fed_lines h items))) _ n job adds,
      ap finishes_in with_it,
      ap finishes_in before,
      ap length (filter_map-append finish_of_item items (FinishItem f ∷ [])),
      length-append (early_finishes items) (f.finish ∷ []),
    ));
  }

  -- it is handed in
  pub done_fed : (i : feed.Kept) → feed.StandsFor i (fed_lines h items ++ line ∷ [])
      → IsFed i h (items ++ FinishItem f ∷ [])
  done_fed i it = record {
    stands = subst (feed.StandsFor i) lines_are it;
    going = goes_on i (fed_lines h items ++ line ∷ []) (stored h (items ++ FinishItem f ∷ [])) it
        (ap (λ (a : Account). a.standing) with_it) (ap (λ (a : Account). a.session) with_it);
  }

-- ---- the ticks

-- what the limits say
pub record Within (h : Head) : Type 0 where
  pub mark : h.mark ≤ last_tick_in h.rules.version
  pub jobs : h.jobs ≤ most_jobs Two
  pub enough : h.jobs + 1 ≤ h.lines
  pub lines : h.lines ≤ most_lines h.rules.version

pub within : (h : Head) → is_within_limits h ≡ true → Within h
within h it =
    let few : Bool = nat_le h.mark (last_tick_in h.rules.version) && nat_le h.jobs (most_jobs Two) in
    let abc = and_parts (few && nat_le (h.jobs + 1) h.lines) _ it in
    let ab = and_parts few _ abc.0 in
    let a = and_parts (nat_le h.mark (last_tick_in h.rules.version)) _ ab.0 in
    record {
      mark = leb-true h.mark (last_tick_in h.rules.version) a.0;
      jobs = leb-true h.jobs (most_jobs Two) a.1;
      enough = leb-true (h.jobs + 1) h.lines ab.1;
      lines = leb-true h.lines (most_lines h.rules.version) abc.1;
    }

module _ (h : Head) (items : List Item) (can : CanPause h items) where
  -- the limits
  limits : Within h
  limits = within h can.limits

  abbrev n : ℕ
  n = length items + 1

  so_far : account_of_lines (fed_lines h items) ≡ open_account n (Some (stored h items)) (mark_after 0 items)
  so_far = fed_is h items can.valid can.good (omega (arith, can.few, limits.lines))

  -- no line is left: the mark is that behind the items
  module _ (none : h.lines ≤ n) where
    no_ticks : tick_lines h n ≡ []
    no_ticks = ap (λ k. replicate k (feed_text (TickLine h.mark))) (let e : h.lines - n ≡ 0 = omega arith in e)

    pub none_lines : feed_lines h items ≡ fed_lines h items
    none_lines = ap (λ ls. fed_lines h items ++ ls) no_ticks ∙ append-nil (fed_lines h items)

    none_account : account_of_lines (feed_lines h items) ≡ paused_account h items
    none_account = ap account_of_lines none_lines ∙ so_far
        ∙ ap (λ mark. open_account n (Some (stored h items)) mark)
        (let e : mark_after 0 items ≡ h.mark = omega (arith, can.reached none, can.known) in e)
        ∙ ap (λ k. open_account k (Some (stored h items)) h.mark) (let e : n ≡ h.lines = omega (arith, can.few) in e)

  -- some lines are left
  module _ (some : n < h.lines) where
    abbrev tick : List ℕ
    tick = feed_text (TickLine h.mark)

    -- the first of them
    first_account : account_of_lines (fed_lines h items ++ tick ∷ [])
        ≡ open_account (suc n) (Some (stored h items)) h.mark
    first_account = fold-append next_line no_lines (fed_lines h items) (tick ∷ [])
        ∙ ap (λ a. next_line a tick) so_far
        ∙ tick_account n (stored h items) (mark_after 0 items) h.mark can.known limits.mark
        (omega (arith, limits.lines))

    -- it is good
    pub tick_good : (i : feed.Kept) → feed.StandsFor i (fed_lines h items) → IsGoodNext i (fed_lines h items) tick
    tick_good i it = record {
      stands = it;
      good = ap (λ (a : Account). a.standing) first_account;
      no_job = λ k job adds. adds_item (counted (account_of_lines (fed_lines h items))) _ k job adds
          (ap (λ (a : Account). a.session) first_account ∙ sym (ap (λ (a : Account). a.session) so_far));
    }

    -- then the feed goes on
    pub tick_going : (i : feed.Kept) → feed.StandsFor i (fed_lines h items ++ tick ∷ []) → feed.IsGoing i
    tick_going i it = goes_on i (fed_lines h items ++ tick ∷ []) (stored h items) it
        (ap (λ (a : Account). a.standing) first_account)
        (ap (λ (a : Account). a.session) first_account)

    -- and there is room for the others
    pub tick_room : (i : feed.Kept) → feed.StandsFor i (fed_lines h items ++ tick ∷ [])
        → feed.HasLines i (h.lines - length items - 2)
    tick_room i it =
        let ls : List (List ℕ) = fed_lines h items ++ tick ∷ [] in
        let kept : feed.KeepsSession i.session (Some (stored h items)) (account_of_lines ls).mark =
        subst (λ o. feed.KeepsSession i.session o (account_of_lines ls).mark)
        (ap (λ (a : Account). a.session) first_account) it.by_account.session in
        omega (
          arith,
          it.by_account.counted,
          ap (λ (a : Account). a.lines) first_account,
          limits.lines,
          kept_most i.session (Some (stored h items)) (account_of_lines ls).mark kept,
        )

    -- all lines are the first, and the others
    all_ticks : tick_lines h n ≡ tick ∷ replicate (h.lines - length items - 2) tick
    all_ticks = ap (λ k. replicate k tick)
        (let e : h.lines - n ≡ suc (h.lines - length items - 2) = omega arith in e)

    pub some_lines : (fed_lines h items ++ tick ∷ []) ++ replicate (h.lines - length items - 2) tick
        ≡ feed_lines h items
    some_lines = append_assoc (fed_lines h items) (tick ∷ []) (replicate (h.lines - length items - 2) tick)
        ∙ ap (λ ls. fed_lines h items ++ ls) (sym all_ticks)

    pub tick_mark : (account_of_lines (fed_lines h items ++ tick ∷ [])).mark ≡ h.mark
    tick_mark = ap (λ (a : Account). a.mark) first_account

    some_account : account_of_lines (feed_lines h items) ≡ paused_account h items
    some_account = ap account_of_lines (sym some_lines)
        ∙ fold-append next_line no_lines (fed_lines h items ++ tick ∷ []) (replicate (h.lines - length items - 2) tick)
        ∙ ap (λ a. fold next_line a (replicate (h.lines - length items - 2) tick)) first_account
        ∙ ticks (h.lines - length items - 2) (suc n) (stored h items) h.mark limits.mark
        (omega (arith, limits.lines))
        ∙ ap (λ k. open_account k (Some (stored h items)) h.mark)
        (let e : suc n + (h.lines - length items - 2) ≡ h.lines = omega arith in e)

  -- the account of all lines
  pub all_account : account_of_lines (feed_lines h items) ≡ paused_account h items
  all_account = by (nat_lt n h.lines) refl where
    by : (b : Bool) → nat_lt n h.lines ≡ b → account_of_lines (feed_lines h items) ≡ paused_account h items
    by true more = some_account (ltb-true n h.lines more)
    by false none = none_account (ltb-false n h.lines none)
