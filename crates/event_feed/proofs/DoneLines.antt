-- A done line in a session whose jobs may finish early.
use Rattle.std.proofs.Common.{◌≡◌, ℕ, ◌≤◌, ◌<◌, max, ◌∷◌, [], refl, sym, ap, ◌∙◌, subst, cond, Option, Some, None, Ok}
use Rattle.std.proofs.Common.{Bool, true, false, arith, nat_lt, nat_le, is_some, ◌&&◌, option_map, le-ltb, leb-true}
use Rattle.std.proofs.lemmas.Bool.{lt-leb, and_parts}
use Rattle.dover_model.specs.Common.{last_tick_in, AreShort, Session, FinishItem, EarlyFinish, RefusedDone}
use Rattle.dover_model.specs.Common.{may_finish_early, is_right, early_at, with_named, with_item, refused_done_at}
use Rattle.dover_model.specs.Common.{admitted_jobs, DoneLine, Account, Cause, NotDone, Order, Line, cause_of, with_line}
use Rattle.dover_model.specs.Common.{with_good_line}
use Rattle.dover_model.specs.Feed.{with_refused_done}
use Rattle.dover_model.proofs.sessions.Growing.{finish_instance, refused_instance}
use Rattle.admission.specs.Kept as admission
use Rattle.event_feed.specs.declared.fed.Fed.TheVariants as fed
use Rattle.event_feed.specs.declared.kept_session.KeptSession.{KeptSession}
use Rattle.event_feed.specs.Kept.{IsKeptOf, KeepsSession}
use Rattle.event_feed.specs.Answers.{with_done}
use Rattle.event_feed.specs.Reading.{open_account, IsTaken, Takes}

-- a finish that is right comes at no earlier tick than the mark
pub later_mark : (S : Session) (mark t n : ℕ) → is_right S mark t n ≡ true → max mark t ≡ t
later_mark S mark t n right =
    let no_fall : mark ≤ t = leb-true mark t (and_parts (nat_le mark t) (is_some (early_at S t n)) right).0 in
    omega (arith, no_fall)

-- ---- the account with a done line

-- the session with it
abbrev pub session_done : Session → ℕ → ℕ → ℕ → Session
session_done S mark t n = cond (is_right S mark t n) (with_named S (option_map FinishItem (early_at S t n)))
    (with_item S (refused_done_at (max mark t) t n))

-- it has the same jobs
pub done_jobs : (S : Session) (mark t n : ℕ) → admitted_jobs (session_done S mark t n).items ≡ admitted_jobs S.items
done_jobs S mark t n = by (is_right S mark t n) (early_at S t n) where
  by : (b : Bool) (o : Option EarlyFinish)
      → admitted_jobs (cond b (with_named S (option_map FinishItem o))
      (with_item S (refused_done_at (max mark t) t n))).items ≡ admitted_jobs S.items
  by true None = refl
  by true (Some f) = ap (λ J. J.jobs) (finish_instance S f)
  by false o = ap (λ J. J.jobs) (refused_instance S (record { at = max mark t; line = RefusedDone t n }))

-- below the mark it is refused
pub late_session : (S : Session) (mark t n : ℕ) → t < mark
    → session_done S mark t n ≡ with_item S (refused_done_at mark t n)
late_session S mark t n late =
    ap (λ b. cond (b && is_some (early_at S t n)) (with_named S (option_map FinishItem (early_at S t n)))
    (with_item S (refused_done_at (max mark t) t n))) (lt-leb mark t late)
    ∙ ap (λ m. with_item S (refused_done_at m t n)) (let e : max mark t ≡ mark = omega arith in e)

module _ (S : Session) (t n : ℕ) (a : Account) where
  -- by whether it is right
  abbrev by_test : Bool → Account
  by_test b = cond b (with_good_line a (DoneLine t n)) (with_refused_done a t n)

  -- the session
  pub done_session : a.session ≡ Some S → (with_done S t n a).session ≡ Some (session_done S a.mark t n)
  done_session there = by (is_right S a.mark t n) where
    by : (b : Bool) → (by_test b).session ≡ Some (cond b (with_named S (option_map FinishItem (early_at S t n)))
        (with_item S (refused_done_at (max a.mark t) t n)))
    by true = ap (option_map (λ T. with_named T (option_map FinishItem (early_at T t n)))) there
    by false = ap (option_map (λ T. with_item T (refused_done_at (max a.mark t) t n))) there

  -- it goes on as before
  pub done_standing : (with_done S t n a).standing ≡ a.standing
  done_standing =
      elim (is_right S a.mark t n) as (λ b. (by_test b).standing ≡ a.standing) [ true ↦ refl | false ↦ refl ]

  -- as many lines are counted
  pub done_lines : (with_done S t n a).lines ≡ a.lines
  done_lines = elim (is_right S a.mark t n) as (λ b. (by_test b).lines ≡ a.lines) [ true ↦ refl | false ↦ refl ]

  -- the mark is its tick at least
  pub done_mark : (with_done S t n a).mark ≡ max a.mark t
  done_mark = by (is_right S a.mark t n) refl where
    by : (b : Bool) → is_right S a.mark t n ≡ b → (by_test b).mark ≡ max a.mark t
    by true right = sym (later_mark S a.mark t n right)
    by false wrong = refl

-- ---- the line is taken

module _ (lines : ℕ) (S : Session) (mark t n : ℕ) where
  -- the account, with the line counted
  abbrev before : Account
  before = open_account lines (Some S) mark

  -- its cause, where its tick is known
  abbrev by_finish : Option Cause
  by_finish = cond (is_right S mark t n) None (Some NotDone)

  module _ (may : may_finish_early S.rules.version ≡ true) where
    -- its cause
    done_cause : cause_of before (DoneLine t n) ≡ cond (nat_lt (last_tick_in S.rules.version) t) (Some Order) by_finish
    done_cause = ap (λ b. cond b (cond (nat_lt (last_tick_in S.rules.version) t) (Some Order) by_finish) (Some Line))
        may

    module _ (known : t ≤ last_tick_in S.rules.version) where
      -- the account with the line
      after_line : (b : Bool) → with_line before (DoneLine t n) (cond b None (Some NotDone))
          ≡ cond b (with_good_line before (DoneLine t n)) (with_refused_done before t n)
      after_line true = refl
      after_line false = refl

      pub after_done : with_line before (DoneLine t n) (cause_of before (DoneLine t n)) ≡ with_done S t n before
      after_done = ap (with_line before (DoneLine t n)) (done_cause
          ∙ ap (λ b. cond b (Some Order) by_finish) (le-ltb _ _ known))
          ∙ after_line (is_right S mark t n)

      -- the session is kept with a finish
      keeps_named : (kept : KeptSession) (late : ℕ) → IsKeptOf kept S late → (o : Option EarlyFinish)
          → IsKeptOf kept (with_named S (option_map FinishItem o)) late
      keeps_named kept late it None = it
      keeps_named kept late it (Some f) = record {
        rules = it.rules;
        jobs = subst (admission.StandsFor kept.admission) (sym (ap (λ J. J.jobs) (finish_instance S f))) it.jobs;
        marked = it.marked;
      }

      -- the session is kept with the line
      keeps_done : (kept : KeptSession) → IsKeptOf kept S (max mark t) → (b : Bool) → is_right S mark t n ≡ b
          → KeepsSession (Some kept)
          (cond b (with_good_line before (DoneLine t n)) (with_refused_done before t n)).session
          (cond b (with_good_line before (DoneLine t n)) (with_refused_done before t n)).mark
      keeps_done kept it true right = keeps_named kept t (subst (IsKeptOf kept S) (later_mark S mark t n right) it)
          (early_at S t n)
      keeps_done kept it false wrong = record {
        rules = it.rules;
        jobs = subst (admission.StandsFor kept.admission)
            (sym (ap (λ J. J.jobs) (refused_instance S (record { at = max mark t; line = RefusedDone t n })))) it.jobs;
        marked = it.marked;
      }

      -- the line is handed in
      pub takes_done : (kept : KeptSession) → IsKeptOf kept S (max mark t) → AreShort (n ∷ [])
          → Takes (DoneLine t n) lines S mark kept (Ok (fed.Done t n))
      takes_done kept it numerals =
          subst (λ b. IsTaken (Some kept) (Some (DoneLine t n)) before b (Ok (fed.Done t n))) (sym after_done) (record {
            keeps = keeps_done kept it (is_right S mark t n) refl;
            gives = record {
              session = S;
              before_is = refl;
              version = may;
              after_is = refl;
              numerals = numerals;
              known = known;
            };
          })
