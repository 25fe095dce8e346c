-- What a word says that judges a text: its laws.
use Rattle.std.proofs.Common.{◌≡◌, ◌<◌, ◌^◌, ◌-◌, ℕ, List, ◌++◌, [], length, refl, ap, ◌∙◌, arith, Bool, true, false}
use Rattle.std.proofs.Common.{not, inl, inr, Option, Ok, Err}
use Rattle.dover_model.specs.Common.{Session, verdict}
use Rattle.dover_model.specs.Verdict as model
use Rattle.dover_model.proofs.traces.WrongStays.{wrong_verdict_stays}
use Rattle.dover_port.specs.declared.status.Status.{Status}
use Rattle.dover_port.specs.declared.status.Status.TheVariants.{Done, No, Refused, ReadFault, WriteFault, Memory, Usage}
use Rattle.dover_model.proofs.runs.Spending.{few_more}
use Rattle.trace_judge.specs.Judging.{StandsFor, HasPaidFor, Fed, PaysFor, Tells, is_wrong, jobs_named, keeps}
use Rattle.trace_judge.specs.Judging.{steps_told, Judged}
use Rattle.trace_judge.specs.declared.judge.Closed.{Closed}
use Rattle.trace_judge.proofs.Judging.{named_more}
use Rattle.trace_judge.proofs.Lengths.{few_bytes}
use Rattle.trace_judge.proofs.Spending.{costs_few}
use Rattle.trace_judge.specs.declared.verdict.Verdict.{Verdict}
use Rattle.trace_judge.specs.declared.verdict.Verdict.TheVariants.{Accepted, Wrong, Short}
use Rattle.dialogue.specs.Talk.{IsSteady, IsFinal}
use Rattle.dialogue.specs.Turns.{AnswersBy}
use Rattle.dialogue.specs.declared.talker.Stop.TheVariants.{Unwritten}
use Rattle.dover_port.specs.Moves.{Move, Passes, CutsShort}
use Rattle.trace_words.specs.judge.Line.{verdict_text, status_of}
use Rattle.trace_words.specs.judge.Talk.{Says, judging_talk, judge_talk, IsToldBy}
use Rattle.trace_words.specs.judge.Talking.{Call, Costs, IsReady, IsClosed}

-- ---- the laws

-- not so
not_not : (b : Bool) → not b ≡ false → b ≡ true
not_not true is = refl
not_not false is = absurd (let e : true ≡ false = is in cc)

pub not_so : (b : Bool) → not b ≡ true → b ≡ false
not_so true is = absurd (let e : false ≡ true = is in cc)
not_so false is = refl

-- the verdict of a wrong text stays
pub wrong_same : (x y : List ℕ) → not (is_wrong (verdict x)) ≡ false → verdict (x ++ y) ≡ verdict x
wrong_same x y over = by_verdict (verdict x) refl (not_not (is_wrong (verdict x)) over) where
  by_verdict : (v : model.Verdict) → verdict x ≡ v → is_wrong v ≡ true → verdict (x ++ y) ≡ v
  by_verdict (model.Accepted S) is wrong = absurd (let e : false ≡ true = wrong in cc)
  by_verdict (model.Wrong line due) is wrong = wrong_verdict_stays x y line due is
  by_verdict (model.Short lines) is wrong = absurd (let e : false ≡ true = wrong in cc)

-- what is told of a verdict
module _ (x y : List ℕ) (same : verdict (x ++ y) ≡ verdict x) where
  pub told_same : (status : Status) → IsToldBy status x → IsToldBy status (x ++ y)
  told_same Done it = (it.0, it.1, same ∙ it.2)
  told_same No (inl wrong) = inl (ap is_wrong same ∙ wrong)
  told_same No (inr short) = inr (short.0, same ∙ short.1)
  told_same Refused it = absurd it
  told_same ReadFault it = absurd it
  told_same WriteFault it = absurd it
  told_same Memory it = absurd it
  told_same Usage it = absurd it

-- ---- what is kept

-- of no bytes
pub ready_none : {T : Type 0} (keep : Bool) (teller : T) (judge : Judged) (start : ℕ) → StandsFor judge []
    → ((now : ℕ) → HasPaidFor judge [] now now) → keeps judge ≡ keep
    → IsReady keep (record { teller = teller; start = start }) teller judge start []
ready_none keep teller judge start stands paid kept = record {
  teller = refl;
  stands = stands;
  paid = paid start;
  keep_is = kept;
}

module _ {T : Type 0} (keep : Bool) (call : Call T) (given : T) (judge : Judged) (steps : ℕ) (x : List ℕ)
    (at : IsReady keep call given judge steps x) where
  -- a text that goes on has few bytes
  pub few : not (is_wrong (verdict x)) ≡ true → length x < 2 ^ 64 - 1
  few goes = omega (arith, few_bytes judge x at.stands (not_so (is_wrong (verdict x)) goes))

  -- what it cost is allowed
  pub spent : Costs call.start steps x
  spent = costs_few judge x call.start steps at.paid

  module _ (new : Judged) (after : ℕ) (piece : List ℕ) (pays : PaysFor judge new piece steps after) where
    -- with a piece behind it
    pub ready_more : Fed judge new piece → IsReady keep call given new after (x ++ piece)
    ready_more fed = record {
      teller = at.teller;
      stands = fed.stands x at.stands;
      paid = pays x call.start at.stands at.paid;
      keep_is = fed.keep ∙ at.keep_is;
    }

    -- also where there was no memory for it
    pub spent_more : Costs call.start after (x ++ piece)
    spent_more = costs_few new (x ++ piece) call.start after (pays x call.start at.stands at.paid)

-- more bytes allow what fewer did
pub spent_behind : (start steps : ℕ) (x y : List ℕ) → Costs start steps x → Costs start steps (x ++ y)
spent_behind start steps x y costs =
    few_more (jobs_named x) (jobs_named (x ++ y)) start steps (named_more x y) costs

-- ---- the answer

-- the judge kept the steps, or didn't
pub closed_with : (closed : Closed) (kept keep : Bool) (text : List ℕ) → kept ≡ keep → Tells closed.verdict text
    → closed.steps.items ≡ steps_told kept (verdict text)
    → ((S : Session) → verdict text ≡ model.Accepted S → closed.refused ≡ model.refused_count S)
    → IsClosed keep closed text
closed_with closed kept keep text same tells steps refused = record {
  tells = tells;
  steps = steps ∙ ap (λ k. steps_told k (verdict text)) same;
  refused = refused;
}

-- by the judge's verdict
pub by_verdict : (v : Verdict) (x : List ℕ) → Tells v x → IsFinal (status_of v) × IsToldBy (status_of v) x
by_verdict (Accepted k version value most jobs) x tells = (tt, (tells.0, tells.7.valid, tells.1))
by_verdict (Wrong line due) x tells = (tt, inl (ap is_wrong tells))
by_verdict (Short lines) x tells = (tt, inr (lines, tells))

module _ (v : Verdict) (x : List ℕ) (ended : Bool) (tells : Tells v x) (a b : Option (List Move)) (q : List ℕ) where
  -- its line was put
  pub told_put : Passes a b [] q (verdict_text (verdict x)) → AnswersBy judge_talk x ended a b q (Ok (status_of v))
  told_put put = let it = by_verdict v x tells in (it.0, (verdict_text (verdict x), (it.1, refl), put))

  -- it couldn't be put
  pub told_cut : CutsShort a b [] (verdict_text (verdict x)) → AnswersBy judge_talk x ended a b q (Err Unwritten)
  told_cut cut = (status_of v, verdict_text (verdict x), ((by_verdict v x tells).1, refl), cut)

-- ---- a talk on the verdict

-- bytes behind a wrong line change nothing
pub steady : (says : Says) (lacks : List ℕ → Bool → Type 0)
    → ((x y : List ℕ) (status : Status) (text : List ℕ) → verdict (x ++ y) ≡ verdict x → says status x text
    → says status (x ++ y) text)
    → ((x : List ℕ) → lacks x false) → IsSteady (judging_talk says lacks)
steady says lacks stays lacking = record {
  opens = refl;
  nothing = refl;
  grows = λ x y. ([], refl);
  stays = λ x y over. ap (λ v. not (is_wrong v)) (wrong_same x y over) ∙ over;
  answered = λ x y status text over it. stays x y status text (wrong_same x y over) it;
  lacking = λ x y it. lacking (x ++ y);
}
