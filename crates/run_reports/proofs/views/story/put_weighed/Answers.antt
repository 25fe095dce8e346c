use Rattle.std.proofs.Common.{◌++◌, ◌≤◌, false, sym, ap, ◌∙◌, subst}
use Rattle.std.proofs.lemmas.Result.{IfOk-equal}
use Rattle.std.specs.List.{AllByRecursion}
use Rattle.dover_model.specs.Observed.{served}
use Rattle.run_record.specs.intervals.Rows.{weights}
use Rattle.run_reports.specs.views.Why.{story_from}
use Rattle.run_reports.proofs.views.Stepping.{same_length, rooms_length}
use Rattle.run_reports.proofs.views.story.put_weighed.Goals as goal

pub weights-requires : goal.weights-requires
weights-requires c = (c.requires.run.0, c.requires.run.1)

pub rooms-requires : goal.rooms-requires
rooms-requires c = (c.requires.run.0, c.requires.run.1)

pub served-requires : goal.served-requires
served-requires c = (c.args.asked.now.k, c.requires.run)

pub put_story-requires-clause-same : goal.put_story-requires-clause-same
put_story-requires-clause-same c =
    same_length c.args.asked.now.k c.args.run.now c.requires.run.0 c.requires.run.1 c.deref-2.result.now
    (c.deref-2.ensures.value ∙ c.in_ok-worths.ensures.are c.requires.run.0 c.requires.run.1)

pub put_story-requires-clause-as_many : goal.put_story-requires-clause-as_many
put_story-requires-clause-as_many c =
    rooms_length c.args.asked.now.k c.args.run.now c.requires.run.0 c.requires.run.1 c.deref-3.result.now
    (c.deref-3.ensures.value ∙ c.in_ok-rooms.ensures c.requires.run.0 c.requires.run.1)

pub put_story-requires-clause-small : goal.put_story-requires-clause-small
put_story-requires-clause-small c = subst (AllByRecursion (λ worth. worth ≤ 10_000_000_000_000))
    (sym c.deref-2.ensures.value) c.in_ok-worths.ensures.small

pub returns : goal.returns
returns c J of same =
    let version = c.args.asked.now.version in let k = c.args.asked.now.k in
    let n = c.args.asked.now.number in let value = c.args.asked.now.value in
    let jobs = c.args.jobs.now in let run = c.args.run.now in let text = c.args.text.now.items in
    IfOk-equal c.put_story.result _ _ _ c.put_story.ensures
    (ap (λ hs. text ++ story_from version k n value jobs hs false run c.deref-2.result.now c.deref-3.result.now)
    (c.deref.ensures.value ∙ c.in_ok-served.ensures k J of same)
    ∙ ap (λ ws. text ++ story_from version k n value jobs (served J) false run ws c.deref-3.result.now)
    (c.deref-2.ensures.value ∙ c.in_ok-worths.ensures.are J of)
    ∙ ap (λ rs. text ++ story_from version k n value jobs (served J) false run (weights J) rs)
    (c.deref-3.ensures.value ∙ c.in_ok-rooms.ensures J of))
