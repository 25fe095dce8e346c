-- What is kept of a task text and of the trace behind it, as bytes come.
use Rattle.std.proofs.Common.{◌≡◌, ◌≤◌, ◌<◌, ◌^◌, ◌-◌, ◌+◌, ℕ, List, ◌++◌, [], length, take, refl, sym, ap, ◌∙◌, subst}
use Rattle.std.proofs.Common.{arith, true, false, append-nil, append_assoc, length-append, take-take}
use Rattle.std.proofs.Common.{length-take-le, Result, Ok, Err, IfOk}
use Rattle.dover_model.specs.Common.{Standing, Open, Ended, Faulty}
use Rattle.dover_model.specs.Spending.{CostsAtMost}
use Rattle.dover_model.specs.Verdict.{verdict}
use Rattle.dover_model.proofs.lists.Tests.{never}
use Rattle.dialogue.specs.Turns.{AllGiven, Takes, TakesBy}
use Rattle.trace_judge.specs.Judging.{Judged, Fed, HasPaidFor, PaysFor, is_wrong, jobs_named, keeps}
use Rattle.trace_judge.specs.Judging as judging
use Rattle.trace_judge.proofs.Lengths.{few_bytes}
use Rattle.trace_judge.proofs.Spending.{costs_few}
use Rattle.trace_words.proofs.judge.Talking.{not_so}
use Rattle.task_words.specs.reading.Account.{account, is_open}
use Rattle.task_words.specs.reading.Keeping.{StandsFor, TakesFront, TextStands}
use Rattle.task_words.specs.declared.reading.reader.TaskReader.{TaskReader}
use Rattle.task_words.proofs.reading.Accounts as accounts
use Rattle.task_words.proofs.reading.Accounts.{open_bytes}
use Rattle.task_words.proofs.reading.Ending.{going_stands}
use Rattle.task_report.specs.Behind.{behind}
use Rattle.task_report.specs.Talk.{task_report_talk}
use Rattle.task_report.specs.Talk as talk
use Rattle.task_report.specs.Talking.{Call, Costs, IsReady}
use Rattle.task_report.specs.declared.form.TaskForm.{TaskForm}
use Rattle.task_report.proofs.Behind.{none_behind, past}
use Rattle.task_report.proofs.Talking.{account_stays, behind_more, behind_open, costs_behind, more_at}

-- of no bytes
pub ready_none : (reader : TaskReader) (judge : Judged) (call : Call) → StandsFor 0 reader []
    → judging.StandsFor judge [] → ((now : ℕ) → HasPaidFor judge [] now now) → keeps judge ≡ true
    → IsReady call call.form reader judge call.start []
ready_none reader judge call reads judges paid kept = record {
  asks = refl;
  front = [];
  cut = refl;
  same = refl;
  reads = reads;
  few = omega arith;
  all = λ opened. refl;
  judges = judges;
  paid = paid call.start;
  keeps_steps = kept;
}

module _ (call : Call) (form : TaskForm) (reader : TaskReader) (judge : Judged) (steps : ℕ) (x : List ℕ)
    (at : IsReady call form reader judge steps x) where
  -- what was read so far goes on, or doesn't, as its front does
  pub front_test : is_open (account 0 x) ≡ is_open (account 0 at.front)
  front_test = ap is_open at.same

  -- behind bytes behind which more is to be read there are few
  pub few : more_at x ≡ true → length x < 2 ^ 64 - 1
  few goes = by (account 0 x).standing refl goes where
    size : length x ≡ length at.front + length (behind x)
    size = ap length at.cut ∙ length-append at.front (behind x)

    by : (s : Standing) → (account 0 x).standing ≡ s → talk.goes_on s (behind x) ≡ true → length x < 2 ^ 64 - 1
    by Open is it =
        let none : length (behind x) ≡ 0 = ap length (behind_open x (ap accounts.goes_on is)) in
        omega (arith, at.few, size, none)
    by Ended is it =
        omega (arith, at.few, size, few_bytes judge (behind x) at.judges (not_so (is_wrong (verdict (behind x))) it))
    by (Faulty line cause) is it = never it

  -- what it cost is allowed
  pub spent : Costs call.start steps x
  spent = costs_few judge (behind x) call.start steps at.paid

  -- ---- the task text

  module _ (opened : is_open (account 0 x) ≡ true) where
    -- all of it was read
    pub front_all : at.front ≡ x
    front_all = sym (at.cut ∙ ap (λ z. at.front ++ z) (behind_open x opened) ∙ append-nil at.front)

    reads_all : StandsFor 0 reader x
    reads_all = subst (λ z. StandsFor 0 reader z) front_all at.reads

    short : length x < 516_000_129
    short = let stands : TextStands 0 reader.text x = going_stands 0 reader.progress reader.text x reads_all opened in
        open_bytes 0 x stands.keeps.stands stands.short

    -- a front of a piece was read of it
    module _ (piece : List ℕ) (new : TaskReader) (n : ℕ) (takes : TakesFront 0 new x piece n) (line : n ≤ 129)
        (fronts : (k : ℕ) → k < n → is_open (account 0 (x ++ take k piece)) ≡ true) where
      size : length (take n piece) ≡ n
      size = length-take-le n piece takes.1

      -- nothing follows it
      none : behind (x ++ take n piece) ≡ []
      none = past [] x (take n piece) opened ∙ none_behind x (take n piece) (λ k less.
          ap (λ z. is_open (account 0 (x ++ z))) (take-take k n piece (omega (arith, less, size)))
          ∙ fronts k (omega (arith, less, size)))

      stays : behind x ≡ behind (x ++ take n piece)
      stays = behind_open x opened ∙ sym none

      ready_front : IsReady call form new judge steps (x ++ take n piece)
      ready_front = record {
        asks = at.asks;
        front = x ++ take n piece;
        cut = sym (append-nil (x ++ take n piece)) ∙ ap (λ z. (x ++ take n piece) ++ z) (sym none);
        same = refl;
        reads = takes.2;
        few = omega (arith, short, length-append x (take n piece), size, line);
        all = λ on. none;
        judges = subst (λ z. judging.StandsFor judge z) stays at.judges;
        paid = subst (λ z. HasPaidFor judge z call.start steps) stays at.paid;
        keeps_steps = at.keeps_steps;
      }

      pub takes_front : Takes (task_report_talk call.form) (AllGiven (IsReady call form new judge steps)) x piece n
      takes_front = (takes.0, takes.1, ([], refl, (ready_front, refl)))

    -- or there was no memory for it
    pub takes_by : {E : Type 0} (piece : List ℕ) (new : TaskReader) (r : Result ℕ E)
        → IfOk r (λ n. TakesFront 0 new x piece n) → IfOk r (λ n. n ≤ 129)
        → IfOk r (λ n. (k : ℕ) → k < n → is_open (account 0 (x ++ take k piece)) ≡ true)
        → TakesBy (task_report_talk call.form) (AllGiven (IsReady call form new judge steps)) (Costs call.start steps) x
        piece r
    takes_by piece new (Ok n) takes line fronts = takes_front piece new n takes line fronts
    takes_by piece new (Err e) takes line fronts =
        ((λ ended. absurd (let e : false ≡ true = ended in cc)), costs_behind call.start steps x piece spent)

  -- ---- the trace

  module _ (closed : is_open (account 0 x) ≡ false) (new : Judged) (after : ℕ) (piece : List ℕ)
      (pays : PaysFor judge new piece steps after) where
    -- the trace goes on with the piece
    goes : behind x ++ piece ≡ behind (x ++ piece)
    goes = sym (behind_more x piece closed)

    pub ready_more : Fed judge new piece → IsReady call form reader new after (x ++ piece)
    ready_more fed = record {
      asks = at.asks;
      front = at.front;
      cut = ap (λ z. z ++ piece) at.cut ∙ append_assoc at.front (behind x) piece ∙ ap (λ z. at.front ++ z) goes;
      same = account_stays x piece closed ∙ at.same;
      reads = at.reads;
      few = at.few;
      all = λ on. never (sym closed ∙ front_test ∙ on);
      judges = subst (λ z. judging.StandsFor new z) goes (fed.stands (behind x) at.judges);
      paid = subst (λ z. HasPaidFor new z call.start after) goes (pays (behind x) call.start at.judges at.paid);
      keeps_steps = fed.keep ∙ at.keeps_steps;
    }

    -- also where there was no memory for it
    pub spent_more : Costs call.start after (x ++ piece)
    spent_more = subst (λ z. CostsAtMost (jobs_named z) call.start after) goes
        (costs_few new (behind x ++ piece) call.start after (pays (behind x) call.start at.judges at.paid))
