-- What the lines of ratios and of ticks say to an account that goes on, and that a job's numbers have numerals.
use Rattle.std.proofs.Common.{◌≡◌, ℕ, suc, ◌+◌, ◌≤◌, ◌<◌, ◌^◌, ap, ◌∙◌, cond, arith, Some, None, is_some, ◌||◌, Option}
use Rattle.std.proofs.Common.{true}
use Rattle.std.proofs.Common.{[], ◌∷◌, nat_lt, option_map, le-ltb}
use Rattle.dover_model.specs.declared.events.Version.{Version}
use Rattle.dover_model.specs.declared.events.Version.TheVariants.{One, Two, Three, Four}
use Rattle.dover_model.specs.Common.{last_tick, last_tick_in, most_lines, JobFacts, IsJob, job_numbers, Fraction}
use Rattle.dover_model.specs.Common.{IsRatio, fraction, with_factor, Declaration, version_number, AreShort, Session}
use Rattle.dover_model.specs.Common.{new_session, IsDeclarable, FeedLine, RatioLine, FactorLine, TickLine, HasNumerals}
use Rattle.dover_model.specs.Common.{feed_line, feed_text, Account, Lines, Declared, Order, rules_with, declared_rules}
use Rattle.dover_model.specs.Common.{factor_rules, with_line, with_fault, next_line, no_lines}
use Rattle.dover_model.specs.Session.{takes_factors}
use Rattle.dover_model.specs.declared.factors.Factor.{Factor}
use Rattle.dover_model.proofs.texts.FeedLines.{feed_line-feed_text}
use Rattle.dover_model.proofs.valid.JobLimits.{ratio_limits, job_limits}
use Rattle.dover_model.proofs.valid.Limiting.{tick_most}
use Rattle.dover_model.proofs.texts.NoFeeds.{header_short}
use Rattle.dover_model.proofs.lists.Tests.{never}
use Rattle.event_feed.specs.Reading.{declared_number, rules_line, open_account}
use Rattle.event_feed.proofs.Counting.{after_form}

-- ---- the line of the ratio

module _ (p q : ℕ) (ratio : IsRatio (fraction p q)) where
  -- the ratio
  abbrev k : Fraction
  k = fraction p q

  -- its numbers have numerals
  pub ratio_numerals : (v : Version) → HasNumerals (RatioLine p q (declared_number v))
  ratio_numerals v = by_version v (let low : p ≤ 1_000_000 = (ratio_limits ratio).small_p in omega arith)
      (let low : q ≤ 1_000 = (ratio_limits ratio).small_q in omega arith) where
        by_version : (v : Version) → p < 10 ^ 18 → q < 10 ^ 18 → HasNumerals (RatioLine p q (declared_number v))
        by_version One p_short q_short = (p_short, (q_short, tt))
        by_version Two p_short q_short = (p_short, (q_short, (omega arith, tt)))
        by_version Three p_short q_short = (p_short, (q_short, (omega arith, tt)))
        by_version Four p_short q_short = (p_short, (q_short, (omega arith, tt)))

  -- it declares the rules
  declares : (v : Version) → declared_rules k (declared_number v) ≡ Some (rules_with k v)
  declares One = ap (λ b. cond b (Some (rules_with k One)) None) ratio.passes
  declares Two = ap (λ b. cond b (Some (rules_with k Two)) None) ratio.passes
  declares Three = ap (λ b. cond b (Some (rules_with k Three)) None) ratio.passes
  declares Four = ap (λ b. cond b (Some (rules_with k Four)) None) ratio.passes

  -- what it says as the first line
  pub ratio_account : (v : Version) → next_line no_lines (feed_text (RatioLine p q (declared_number v)))
      ≡ open_account 1
      (Some (new_session (rules_with k v))) 0
  ratio_account v =
      let line : FeedLine = RatioLine p q (declared_number v) in
      let a : Account = open_account 1 None 0 in
      ap (after_form a) (feed_line-feed_text line (ratio_numerals v))
      ∙ ap (λ o. with_line a line (cond (is_some o) None (Some Declared))) (declares v)
      ∙ ap (λ o. record a { session = option_map new_session o }) (declares v)

-- ---- the same with a factor

module _ (p q b c : ℕ) (ratio : IsRatio (with_factor (fraction p q) b c)) where
  -- the ratio with its factor
  abbrev factored : Fraction
  factored = with_factor (fraction p q) b c

  -- its numbers have numerals
  pub factor_numerals : (v : Version) → HasNumerals (FactorLine p q (version_number v) b c)
  factor_numerals v = reordered (version_number v) (header_short (rules_with factored v) ratio) where
    reordered : (n : ℕ) → AreShort (n ∷ p ∷ q ∷ b ∷ c ∷ []) → AreShort (p ∷ q ∷ n ∷ b ∷ c ∷ [])
    reordered n short = (short.1.0, (short.1.1.0, (short.0, short.1.1.1)))

  -- it declares the rules
  declares_factor : (v : Version) → takes_factors v ≡ true
      → factor_rules factored (version_number v) ≡ Some (rules_with factored v)
  declares_factor One takes = never takes
  declares_factor Two takes = never takes
  declares_factor Three takes = ap (λ b. cond b (Some (rules_with factored Three)) None) ratio.passes
  declares_factor Four takes = ap (λ b. cond b (Some (rules_with factored Four)) None) ratio.passes

  -- what it says as the first line
  pub factor_account : (v : Version) → takes_factors v ≡ true
      → next_line no_lines (feed_text (FactorLine p q (version_number v) b c))
      ≡ open_account 1 (Some (new_session (rules_with factored v))) 0
  factor_account v takes =
      let line : FeedLine = FactorLine p q (version_number v) b c in
      let a : Account = open_account 1 None 0 in
      ap (after_form a) (feed_line-feed_text line (factor_numerals v))
      ∙ ap (λ o. with_line a line (cond (is_some o) None (Some Declared))) (declares_factor v takes)
      ∙ ap (λ o. record a { session = option_map new_session o }) (declares_factor v takes)

-- ---- the line of rules, with a factor or without

-- the rules of these numbers
abbrev rules_by : (p q : ℕ) → Option Factor → Version → Declaration
rules_by p q o v = rules_with (record { p = p; q = q; factor = o }) v

-- what it says as the first line, where the rules may be declared
pub rules_account : (rules : Declaration) → IsRatio rules.ratio → IsDeclarable rules
    → next_line no_lines (feed_text (rules_line rules)) ≡ open_account 1 (Some (new_session rules)) 0
rules_account rules = by rules.ratio.p rules.ratio.q rules.ratio.factor rules.version where
  by : (p q : ℕ) (o : Option Factor) (v : Version) → IsRatio (rules_by p q o v).ratio
      → IsDeclarable (rules_by p q o v)
      → next_line no_lines (feed_text (rules_line (rules_by p q o v)))
      ≡ open_account 1 (Some (new_session (rules_by p q o v))) 0
  by p q None v ratio declared = ratio_account p q ratio v
  by p q (Some f) v ratio declared = factor_account p q f.b f.c ratio v declared

-- ---- the line of a job

-- a job's numbers have numerals
pub job_numerals : (j : JobFacts) → IsJob j → AreShort (job_numbers j)
job_numerals j it =
    let window : j.release + j.work ≤ j.deadline = (job_limits it).window in
    let due : j.deadline ≤ last_tick = (job_limits it).due in
    let modest : j.value ≤ 1_000_000_000 = (job_limits it).modest in
    (omega arith, (omega arith, (omega arith, (omega arith, tt))))

-- ---- a tick

-- a tick at the mark or after it moves the mark
pub tick_account : (lines : ℕ) (S : Session) (mark tick : ℕ) → mark ≤ tick
    → tick ≤ last_tick_in S.rules.version
    → suc lines ≤ most_lines S.rules.version
    → next_line (open_account lines (Some S) mark) (feed_text (TickLine tick)) ≡ open_account (suc lines) (Some S) tick
tick_account lines S mark tick ordered known few =
    let a : Account = open_account (suc lines) (Some S) mark in
    let read : feed_line (feed_text (TickLine tick)) ≡ Some (TickLine tick) =
    feed_line-feed_text (TickLine tick) (omega (arith, known, tick_most S.rules.version), tt) in
    ap (λ b. cond b (with_fault a Lines) (after_form a (feed_line (feed_text (TickLine tick))))) (le-ltb _ _ few)
    ∙ ap (after_form a) read
    ∙ ap (λ b. with_line a (TickLine tick) (cond (b || nat_lt (last_tick_in S.rules.version) tick) (Some Order) None))
    (le-ltb tick mark ordered)
    ∙ ap (λ b. with_line a (TickLine tick) (cond b (Some Order) None))
    (le-ltb (last_tick_in S.rules.version) tick known)
