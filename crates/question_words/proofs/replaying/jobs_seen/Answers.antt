use Rattle.std.proofs.Common.{◌≡◌, ◌<◌, ◌+◌, ◌++◌, ◌∷◌, ◌∙◌, ℕ, List, [], length, map, drop, get_or, sym, ap}
use Rattle.std.proofs.Common.{append_assoc}
use Rattle.std.specs.List.{enumerate_from}
use Rattle.std.proofs.lemmas.List.{append-nil, drop_all, drop_more}
use Rattle.dover_model.specs.JobFacts.{JobFacts}
use Rattle.question_words.specs.Replaying.{job_seen, jobs_seen}
use Rattle.question_words.proofs.replaying.jobs_seen.Goals as goal

-- one job more
more : (seen : ℕ × JobFacts → JobFacts) (jobs before after all : List JobFacts) (number : ℕ) (j k : JobFacts)
    → number < length jobs → k ≡ seen (number, get_or jobs number j) → after ≡ before ++ k ∷ []
    → before ++ map seen (enumerate_from number (drop number jobs)) ≡ all
    → after ++ map seen (enumerate_from (number + 1) (drop (number + 1) jobs)) ≡ all
more seen jobs before after all number j k there is pushed so_far =
    ap (λ js. js ++ map seen (enumerate_from (number + 1) (drop (number + 1) jobs)))
    (pushed ∙ ap (λ x. before ++ x ∷ []) is)
    ∙ append_assoc before (seen (number, get_or jobs number j) ∷ [])
    (map seen (enumerate_from (number + 1) (drop (number + 1) jobs)))
    ∙ ap (λ js. before ++ map seen (enumerate_from number js)) (sym (drop_more jobs number j there))
    ∙ so_far

pub loop-number-preserved : goal.loop-number-preserved
loop-number-preserved c =
    let seen = job_seen c.args.done.now c.args.served.now in
    more seen c.args.jobs.now c.loop-number.seen.items c.push.new.self.items
    (jobs_seen c.args.done.now c.args.served.now c.args.jobs.now) c.loop-number.number c.index-jobs-number.result
    c.job_seen.result c.loop-number-test.true
    (c.job_seen.ensures ∙ ap (λ j. seen (c.loop-number.number, j)) c.index-jobs-number.is) c.in_ok-push.ensures.items
    c.loop-number.invariant

pub returns : goal.returns
returns c =
    let seen = job_seen c.args.done.now c.args.served.now in
    sym (append-nil c.loop-number.seen.items)
    ∙ ap (λ js. c.loop-number.seen.items ++ map seen (enumerate_from c.loop-number.number js))
    (sym (drop_all c.loop-number.number c.args.jobs.now c.loop-number-test.false))
    ∙ c.loop-number.invariant
