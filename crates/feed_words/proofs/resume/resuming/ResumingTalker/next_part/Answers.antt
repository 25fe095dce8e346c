use Rattle.std.proofs.Common.{subst, sym}
use Rattle.feed_words.specs.resume.Keeping.{IsGiving, IsReady}
use Rattle.feed_words.proofs.resume.Stages.{past_call, past_bytes, past_gives}
use Rattle.feed_words.proofs.resume.resuming.ResumingTalker.next_part.Goals as goal

pub returns-in-Opening : goal.returns-in-Opening
returns-in-Opening g c = record {
  gives = λ a x rest at.
      let it = subst (λ s. IsGiving a s c.args.meter.now x rest) c.in-Opening.is at.1 in
      (it.0, (at.0, subst (λ s. IsReady a s c.args.meter.now x) (sym c.in-Opening.is) it.1));
}

pub returns-in-Refused : goal.returns-in-Refused
returns-in-Refused g c = record {
  gives = λ a x rest at.
      let it = subst (λ s. IsGiving a s c.args.meter.now x rest) c.in-Refused.is at.1 in
      (it.0, (at.0, subst (λ s. IsReady a s c.args.meter.now x) (sym c.in-Refused.is) it.1));
}

pub next_part-requires : goal.next_part-requires
next_part-requires g c =
    let a = c.requires.0 in
    let x = c.requires.1 in
    let rest = c.requires.2 in
    let it = subst (λ s. IsGiving a s c.args.meter.now x rest) c.in-Serving.is c.requires.3.1 in
    (past_call a x _ it, past_bytes a x _ it, rest, it.holds)

pub returns-in-Serving : goal.returns-in-Serving
returns-in-Serving g c = record {
  gives = λ a x rest at.
      let it = subst (λ s. IsGiving a s c.args.meter.now x rest) c.in-Serving.is at.1 in
      past_gives a x _ it _ at.0 _ _ _ rest _ _
      (c.next_part.ensures.gives (past_call a x _ it) (past_bytes a x _ it) rest it.holds);
}
