-- The text of a baiting feed.
use Rattle.std.proofs.Common.{◌≡◌, ◌≤◌, ◌<◌, ◌++◌, ◌∷◌, [], ℕ, List, ap, ◌∙◌, codes, decimal, length, arith, sum}
use Rattle.dover_model.specs.Common.{Fraction, IsRatio, chain, last_link, bait_jobs, bait_plan, bound, most_jobs}
use Rattle.dover_model.specs.Common.{most_total, with_numbers, in_lines, completed_value, worth, IsValid}
use Rattle.dover_model.specs.declared.events.Version.TheVariants.{Two}
use Rattle.stated_jobs.specs.bait.Baiting.{FitsLimits}
use Rattle.stated_jobs.specs.bait.BaitingRuns.{version_for}
use Rattle.stated_jobs.proofs.bait.Completions.{completes_last_alone}
use Rattle.stated_jobs.proofs.bait.Feeds.{small}
use Rattle.stated_jobs.proofs.bait.Validity.{last_link_within, some_bait, valid}
use Rattle.trial_words.specs.Baited.{bait_instance, bait_text}
use Rattle.trial_words.proofs.Summing.{fed_lines}

-- the value that the run of a feed within the limits completes is that of a link, which is small
pub value_within : (k : Fraction) (rounds : ℕ) → IsRatio k → 1 ≤ rounds → FitsLimits k rounds
    → completed_value (bait_instance k rounds) ≤ most_total Two
value_within k rounds ratio some fits =
    let it : IsValid (bait_instance k rounds) =
    valid k rounds ratio fits (some_bait k rounds ratio some fits) (version_for k) in
    join (completed_value (bait_instance k rounds)) (last_link k rounds) (sum (chain k rounds))
    (completes_last_alone k (version_for k) rounds some it).worth (last_link_within k rounds some).1
    (small k rounds fits) where
      join : (value last all : ℕ) → value ≡ last → last ≤ all → all < most_jobs Two → value ≤ most_total Two
      join value last all is low few = omega (arith, is, low, few)

-- the text of four numbers
abbrev text : (jobs value schedule most : ℕ) → List ℕ
text jobs value schedule most = in_lines (
    with_numbers (codes "jobs") (jobs ∷ [])
    ∷ with_numbers (codes "value") (value ∷ [])
    ∷ with_numbers (codes "schedule") (schedule ∷ [])
    ∷ with_numbers (codes "bound") (most ∷ [])
    ∷ []
    )

-- the bound's line is written in two
pub bound_line : (most : ℕ) (a b c : List ℕ) → b ≡ decimal most ++ a → c ≡ codes "\nbound " ++ b
    → c ≡ 10 ∷ (with_numbers (codes "bound") (most ∷ []) ++ a)
bound_line most a b c number word = word ∙ ap (λ l. codes "\nbound " ++ l) number

-- its lines are written from the last to the first, each but the first behind a line feed
pub written : (jobs value schedule most : ℕ) (a b c d e : List ℕ) → a ≡ 10 ∷ []
    → b ≡ 10 ∷ (with_numbers (codes "bound") (most ∷ []) ++ a)
    → c ≡ 10 ∷ (with_numbers (codes "schedule") (schedule ∷ []) ++ b)
    → d ≡ 10 ∷ (with_numbers (codes "value") (value ∷ []) ++ c)
    → e ≡ with_numbers (codes "jobs") (jobs ∷ []) ++ d → e ≡ text jobs value schedule most
written jobs value schedule most a b c d e p q r s t =
    behind (with_numbers (codes "jobs") (jobs ∷ [])) (with_numbers (codes "value") (value ∷ []))
    (with_numbers (codes "schedule") (schedule ∷ [])) (with_numbers (codes "bound") (most ∷ [])) p q r s t where
      behind : (l1 l2 l3 l4 : List ℕ) → a ≡ 10 ∷ [] → b ≡ 10 ∷ (l4 ++ a) → c ≡ 10 ∷ (l3 ++ b) → d ≡ 10 ∷ (l2 ++ c)
          → e ≡ l1 ++ d → e ≡ in_lines (l1 ∷ l2 ∷ l3 ∷ l4 ∷ [])
      behind l1 l2 l3 l4 p q r s t = t ∙ ap (λ x. l1 ++ x) (s ∙ ap (λ x. 10 ∷ (l2 ++ x)) (r
          ∙ ap (λ x. 10 ∷ (l3 ++ x)) (q ∙ ap (λ x. 10 ∷ (l4 ++ x)) p))) ∙ fed_lines (l1 ∷ l2 ∷ l3 ∷ l4 ∷ [])

-- that of the numbers of a feed
pub told : (k : Fraction) (rounds jobs value schedule most : ℕ) → jobs ≡ length (bait_jobs k rounds)
    → value ≡ completed_value (bait_instance k rounds)
    → schedule ≡ worth (bait_instance k rounds) (bait_plan k rounds) → most ≡ bound k value
    → text jobs value schedule most ≡ bait_text k rounds
told k rounds jobs value schedule most count completed plan bounds =
    let n : ℕ = length (bait_jobs k rounds) in let worth_run : ℕ = completed_value (bait_instance k rounds) in
    ap (λ x. text x value schedule most) count ∙ ap (λ x. text n x schedule most) completed
    ∙ ap (λ x. text n worth_run x most) plan
    ∙ ap (text n worth_run (worth (bait_instance k rounds) (bait_plan k rounds))) (bounds ∙ ap (bound k) completed)
