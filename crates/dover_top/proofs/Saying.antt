-- What a call says and keeps, for each row of words.
use Rattle.std.proofs.Common.{None, ◌≡◌, ℕ, List, sym, subst, ◌∙◌, ◌⊎◌, inl, inr, Option, String}
use Rattle.std.specs.declared.alloc.Global.{Global}
use Rattle.dover_model.specs.Fraction.{Fraction}
use Rattle.dover_port.specs.Moves.{Move, Since, ins, outs, has_ended}
use Rattle.dover_port.specs.declared.status.Status.{Status}
use Rattle.dover_port.specs.declared.status.Status.TheVariants.{Done, Refused, WriteFault, Memory, Usage}
use Rattle.dover_port.proofs.Made.{since_weaker}
use Rattle.dialogue.specs.Talk.{Talks, CanEnd}
use Rattle.stated_jobs.specs.bait.Baiting.{FitsLimits}
use Rattle.feed_words.specs.declared.serve.at_end.AtEnd.TheVariants as ends
use Rattle.stated_jobs.specs.declared.duel.links.Share.{Share}
use Rattle.stated_jobs.specs.duel.Kept.{IsShare}
use Rattle.trial_words.specs.Baited.{Baits}
use Rattle.trial_words.specs.Dueled.{Duels}
use Rattle.question_words.specs.Questions.{says}
use Rattle.lanes_word.specs.Record as laned
use Rattle.lanes_word.specs.Talk.{lanes_talk}
use Rattle.dover_top.specs.Says.{Says}
use Rattle.dover_top.specs.Keeps.{Keeps}
use Rattle.dover_top.specs.Promises.{AreServed, HaveEnded, KeepsBaits, KeepsDuel, feed_in}
use Rattle.dover_top.specs.Requests.{Asks}
use Rattle.dover_top.specs.Carrying.{CarriesOut}
use Rattle.dover_top.specs.Spending.{IsFrugal, IsFrugalAsAsked}
use Rattle.dover_top.specs.declared.request.Request.{Request}
use Rattle.dover_top.specs.declared.request.Request.TheVariants.{Serve, Judge, Report, Trial, Bait, Ask, Lanes, Pause}
use Rattle.dover_top.specs.declared.request.Request.TheVariants.{Resume, Unroll, Duel, Draw, Sure, Budget, Ratio}
use Rattle.dover_top.specs.declared.request.Request.TheVariants.{Schedule, ReportTasks, FeasibleTasks}
use Rattle.dover_top.proofs.Asking.{asks_one}
use Rattle.dover_top.proofs.Keeping.{served, traced, resumed_so, accepted, reported, ran, generated, baited, dueled}
use Rattle.dover_top.proofs.ToldSure.{told_sure}
use Rattle.dover_top.proofs.ToldFeasible.{told_met, told_unmet}
use Rattle.dover_top.proofs.Budgeted.{budgeted_so}
use Rattle.dover_top.proofs.Legal.{legal_so}
use Rattle.dover_top.proofs.ServedLanes.{are_served, have_ended}
use Rattle.dover_top.proofs.Resumed.{resumed_so_far}
use Rattle.dover_top.proofs.SoFar.{kept_so, served_so_far}

-- ---- Usage

-- no request says anything with Usage
no_usage : (r : Request) (moves : List Move) → Says r Usage moves → ⊥
no_usage Serve moves s = s.ends
no_usage Judge moves s = s.ends
no_usage (Report form) moves s = s.ends
no_usage (Schedule form) moves s = s.ends
no_usage (ReportTasks form) moves s = s.ends
no_usage (Trial seed count k) moves s = s
no_usage (Bait k rounds) moves (inl s) = s.1
no_usage (Bait k rounds) moves (inr s) = s.1
no_usage (Ask question) moves s = s.ends
no_usage Lanes moves (inl s) = s.ends
no_usage Lanes moves (inr s) = let e : Usage ≡ Memory = s.0 in cc
no_usage Pause moves s = s.ends
no_usage (Resume at_end) moves s = elim s.ends [
  | inl none ↦ none
  | inr it ↦ it.each it.feed it.more it.may it.read
]
no_usage (Unroll until) moves s = s.ends
no_usage Sure moves s = s.ends
no_usage FeasibleTasks moves s = s.ends
no_usage Ratio moves s = s.ends
no_usage (Budget cost) moves s = s.ends
no_usage (Duel k share front) moves (inl s) = s.1
no_usage (Duel k share front) moves (inr s) = s.2
no_usage (Draw seed count k) moves s = s

-- so none ends with it
pub never_usage : (r : Request) → CanEnd (Says r) Usage → ⊥
never_usage r (inl cut) = let e : Usage ≡ WriteFault = cut in cc
never_usage r (inr it) = no_usage r it.0 it.1

-- ---- what is kept

module _ (moves : List Move) where
  -- the status is known
  abbrev at : (r : Request) (status : Status) → Says r status moves → status ≡ Done → Says r Done moves
  at r status s done = subst (λ t. Says r t moves) done s

  bait_kept : (k : Fraction) (rounds : ℕ) → (FitsLimits k rounds → KeepsBaits k rounds) → Baits k rounds Done moves
      → KeepsBaits k rounds
  bait_kept k rounds kept (inl it) = kept it.0
  bait_kept k rounds kept (inr it) = absurd it.1

  duel_kept : (k : Fraction) (share : Share) (front : Option ℕ) → k.factor ≡ None → IsShare share
      → Duels k share front Done moves → KeepsDuel k share front moves
  duel_kept k share front plain is (inl it) = dueled k share front moves plain is it.0 it.1.1
  duel_kept k share front plain is (inr it) = absurd it.2

  lanes_served : (status : Status) → (status ≡ Done) ⊎ (status ≡ Refused) → laned.Serves status moves → AreServed moves
  lanes_served status (inl is) (inl it) = are_served Done moves (subst (λ s. Talks lanes_talk s moves) is it).ends
  lanes_served status (inr is) (inl it) = are_served Refused moves (subst (λ s. Talks lanes_talk s moves) is it).ends
  lanes_served status (inl is) (inr none) = absurd (let e : Done ≡ Memory = sym is ∙ none.0 in cc)
  lanes_served status (inr is) (inr none) = absurd (let e : Refused ≡ Memory = sym is ∙ none.0 in cc)

  lanes_ended : laned.Serves Done moves → HaveEnded moves
  lanes_ended (inl it) = have_ended moves it.ends
  lanes_ended (inr none) = absurd (let e : Done ≡ Memory = none.0 in cc)

  keeps_of : (words : List (String Global)) (r : Request) → Asks words r → (status : Status) → Says r status moves
      → Keeps r status moves
  keeps_of words Serve asks status s = (
    served_so_far ends.Refuse status (ins moves) (outs moves) (has_ended moves) s.ends,
    (λ done. traced (ins moves) (has_ended moves) (outs moves) (at Serve status s done).ends.answer),
  )
  keeps_of words Judge asks status s = λ done. accepted (ins moves) (at Judge status s done).ends.answer.0
  keeps_of words (Report form) asks status s = λ done.
      accepted (ins moves) (at (Report form) status s done).ends.answer.0
  keeps_of words (Schedule form) asks status s = λ done.
      legal_so form moves (at (Schedule form) status s done).ends.answer
  keeps_of words (ReportTasks form) asks status s = λ done.
      reported form (has_ended moves) (outs moves) moves (at (ReportTasks form) status s done).ends.answer
  keeps_of words (Trial seed count k) asks status s = λ done. generated k seed count asks.allowed asks.few
  keeps_of words (Bait k rounds) asks status s = λ done.
      bait_kept k rounds (baited k rounds asks.allowed asks.some) (at (Bait k rounds) status s done)
  keeps_of words (Ask question) asks status s = λ done.
      ran (says question) (has_ended moves) (outs moves) moves (at (Ask question) status s done).ends.answer
  keeps_of words Lanes asks status s = (
    (λ lane low. kept_so (feed_in moves lane)),
    (λ over. lanes_served status over s),
    (λ done. lanes_ended (at Lanes status s done)),
  )
  keeps_of words Pause asks status s = (
    served_so_far ends.Pause status (ins moves) (outs moves) (has_ended moves) s.ends,
    (λ done. served ends.Pause (ins moves) (has_ended moves) (outs moves) (at Pause status s done).ends.answer),
  )
  keeps_of words (Resume at_end) asks status s = (
    resumed_so_far at_end status moves s.ends,
    (λ done. resumed_so at_end moves (at (Resume at_end) status s done).ends),
  )
  keeps_of words (Unroll until) asks status s = tt
  keeps_of words Sure asks status s = λ done. told_sure (has_ended moves) moves (at Sure status s done).ends.answer
  keeps_of words FeasibleTasks asks status s = (
    (λ done. told_met (has_ended moves) moves (at FeasibleTasks status s done).ends.answer),
    (λ no. told_unmet (has_ended moves) moves (subst (λ t. Says FeasibleTasks t moves) no s).ends.answer),
  )
  keeps_of words Ratio asks status s = tt
  keeps_of words (Budget cost) asks status s = λ done.
      budgeted_so cost (has_ended moves) moves (at (Budget cost) status s done).ends.answer
  keeps_of words (Duel k share front) asks status s = λ done.
      duel_kept k share front asks.plain asks.share_is (at (Duel k share front) status s done)
  keeps_of words (Draw seed count k) asks status s = tt

-- ---- of a call

-- what is said of a request that is this one
pub carried : (request r : Request) (status : Status) (old new : Option (List Move)) (before now : ℕ) → request ≡ r
    → Since old new (Says r status) → CanEnd (Says r) status → Since old new (IsFrugal r before now)
    → IsFrugalAsAsked r before now → CarriesOut request status old new before now
carried request r status old new before now is talks ends comparisons stated =
    subst (λ q. CarriesOut q status old new before now) (sym is)
    (record { talks = talks; ends = ends; comparisons = comparisons; stated = stated })

-- what is left for whatever the words ask for
module _ (words : List (String Global)) (request : Request) (asks : Asks words request) (status : Status)
    (old new : Option (List Move)) (before now : ℕ) (it : CarriesOut request status old new before now) where
  pub for_all : (r : Request) → Asks words r → CarriesOut r status old new before now
  for_all r other = subst (λ q. CarriesOut q status old new before now) (asks_one words request r asks other) it

  pub keeps_all : (r : Request) → Asks words r → Since old new (Keeps r status)
  keeps_all r other = since_weaker old new _ _ (for_all r other).talks
      (λ moves said. keeps_of moves words r other status said)

-- what no words ask for
pub asked_none : (A : Request → Type 0) (words : List (String Global)) → ((r : Request) → Asks words r → ⊥)
    → (r : Request) → Asks words r → A r
asked_none A words none r asks = absurd (none r asks)
