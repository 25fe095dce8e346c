use Rattle.std.proofs.Common.{◌≡◌, ℕ, ◌+◌, ◌++◌, ◌∷◌, [], List, map, drop, sym, ap, ◌∙◌}
use Rattle.std.specs.List.{enumerate_from}
use Rattle.std.proofs.lemmas.List.{append_assoc, append-nil, drop_more, drop_all}
use Rattle.dover_model.specs.JobFacts.{JobFacts}
use Rattle.run_record.specs.ledger.Pages.{had_in}
use Rattle.run_record.proofs.ledger.reading.had_by.Goals as goal

pub loop-number-preserved : goal.loop-number-preserved
loop-number-preserved c =
    let js = c.args.jobs.now in
    let n = c.loop-number.number in
    let had = had_in c.args.under_way.now.entries in
    let rest = map had (enumerate_from (n + 1) (drop (n + 1) js)) in
    let next : map had (enumerate_from n (drop n js)) ≡ c.had.result ∷ rest =
    ap (λ (l : List JobFacts). map had (enumerate_from n l))
    (drop_more js n c.index-jobs-number.result c.loop-number-test.true)
    ∙ ap (λ (i : JobFacts). had (n, i) ∷ rest) (sym c.index-jobs-number.is)
    ∙ ap (λ (h : ℕ). h ∷ rest) (sym c.had.ensures) in
    ap (λ (hs : List ℕ). hs ++ rest) c.in_ok-push.ensures.items
    ∙ append_assoc c.loop-number.served.items (c.had.result ∷ []) rest
    ∙ ap (λ (hs : List ℕ). c.loop-number.served.items ++ hs) (sym next) ∙ c.loop-number.invariant

pub returns : goal.returns
returns c = sym (append-nil c.loop-number.served.items)
    ∙ ap (λ (l : List JobFacts). c.loop-number.served.items
    ++ map (had_in c.args.under_way.now.entries) (enumerate_from c.loop-number.number l))
    (sym (drop_all c.loop-number.number c.args.jobs.now c.loop-number-test.false)) ∙ c.loop-number.invariant
