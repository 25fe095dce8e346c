-- What the judging of a text costs.
use Rattle.std.proofs.Common.{◌++◌, ℕ, List, subst, arith, append_assoc}
use Rattle.dover_model.specs.Spending.{CostsAtMost}
use Rattle.dover_model.proofs.runs.Spending.{few_more}
use Rattle.ready_jobs.proofs.Spending.{paid_jobs}
use Rattle.trace_judge.specs.Judging.{Judged, Fed, HasPaidFor, PaysFor, jobs_named}
use Rattle.trace_judge.proofs.Judging.{named_more}

-- the comparisons are few for the jobs that the text names
pub costs_few : (j : Judged) (text : List ℕ) (start now : ℕ) → HasPaidFor j text start now
    → CostsAtMost (jobs_named text) start now
costs_few j text start now it = few_more j.reader.course.jobs (jobs_named text) start now it.few
    (paid_jobs j.reader.course start now it.paid.paid)

-- bytes that cost nothing
pub pays_none : (j : Judged) (piece : List ℕ) (now : ℕ) → PaysFor j j piece now now
pays_none j piece now text start stands it =
    record { paid = it.paid; few = omega (arith, it.few, named_more text piece) }

-- what a front of a piece costs the piece pays for
pub pays_more : (old new : Judged) (piece more : List ℕ) (before after : ℕ) → PaysFor old new piece before after
    → PaysFor old new (piece ++ more) before after
pays_more old new piece more before after pays text start stands it =
    let paid : HasPaidFor new (text ++ piece) start after = pays text start stands it in
    subst (λ l. HasPaidFor new l start after) (append_assoc text piece more)
    (record { paid = paid.paid; few = omega (arith, paid.few, named_more (text ++ piece) more) })

-- a piece, and a piece more
pub pays_on : (old mid new : Judged) (piece more : List ℕ) (before between after : ℕ) → Fed old mid piece
    → PaysFor old mid piece before between → PaysFor mid new more between after
    → PaysFor old new (piece ++ more) before after
pays_on old mid new piece more before between after fed pays next text start stands it =
    subst (λ l. HasPaidFor new l start after) (append_assoc text piece more)
    (next (text ++ piece) start (fed.stands text stands) (pays text start stands it))
