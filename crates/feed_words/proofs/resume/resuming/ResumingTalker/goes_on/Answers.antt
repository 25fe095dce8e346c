use Rattle.std.proofs.Common.{sym, ◌∙◌, subst}
use Rattle.snapshot.specs.Reading.{Refused}
use Rattle.feed_words.specs.resume.Keeping.{IsReady}
use Rattle.feed_words.proofs.resume.Talking.{goes_at}
use Rattle.feed_words.proofs.resume.Stages.{opening_goes, past_goes, past_call, past_bytes}
use Rattle.feed_words.proofs.resume.resuming.ResumingTalker.goes_on.Goals as goal

pub returns-in-Opening : goal.returns-in-Opening
returns-in-Opening g c = λ a x at. sym
    (opening_goes a _ x (subst (λ s. IsReady a s c.args.meter.now x) c.in-Opening.is at.1).0)

pub returns-in-Refused : goal.returns-in-Refused
returns-in-Refused g c = λ a x at.
    let it = subst (λ s. IsReady a s c.args.meter.now x) c.in-Refused.is at.1 in sym (goes_at a x (Refused _) it.0)

pub returns-in-Serving : goal.returns-in-Serving
returns-in-Serving g c = λ a x at.
    let it = subst (λ s. IsReady a s c.args.meter.now x) c.in-Serving.is at.1 in
    c.goes_on.ensures (past_call a x _ it) (past_bytes a x _ it) it.holds ∙ sym (past_goes a x _ it)

pub goes_on-requires : goal.goes_on-requires
goes_on-requires g c =
    let a = c.requires.0 in
    let x = c.requires.1 in
    let it = subst (λ s. IsReady a s c.args.meter.now x) c.in-Serving.is c.requires.2.1 in
    (past_call a x _ it, past_bytes a x _ it, it.holds)
