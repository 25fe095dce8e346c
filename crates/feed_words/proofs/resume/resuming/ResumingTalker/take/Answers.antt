use Rattle.std.proofs.Common.{◌≡◌, ◌++◌, List, ℕ, length, take, refl, sym, ◌∙◌, subst}
use Rattle.dialogue.specs.Turns.{Takes}
use Rattle.dover_model.specs.Lines.{lines_of}
use Rattle.snapshot.specs.Reading.{Refused}
use Rattle.feed_words.specs.resume.Keeping.{IsReady, IsGiving}
use Rattle.feed_words.specs.resume.Talk.{resume_talk}
use Rattle.dover_model.proofs.lists.Tests.{never}
use Rattle.feed_words.proofs.resume.Talking.{goes_at}
use Rattle.feed_words.proofs.resume.Stages.{front_costs, line_refused, line_lacks, opened_is, past_call, past_bytes}
use Rattle.feed_words.proofs.resume.Stages.{past_takes, past_goes, opening_took, refused_took, whole_took}
use Rattle.feed_words.proofs.resume.resuming.ResumingTalker.take.Goals as goal

pub take-requires-clause-stands : goal.take-requires-clause-stands
take-requires-clause-stands g c =
    let at = c.requires.stands.2 in (
      c.requires.stands.1,
      (subst (λ s. IsReady c.requires.stands.0 s c.args.meter.now c.requires.stands.1) c.in-Opening.is at.1).0,
    )

pub returns-in-Ok-default-More : goal.returns-in-Ok-default-More
returns-in-Ok-default-More g c = record {
  takes = λ a x at goes.
      let it = subst (λ s. IsReady a s c.args.meter.now x) c.in-Opening.is at.1 in
      let front = rw c.in-Ok-default-More.field-0-1-is at (c.in-Ok-default-More.ensures.takes x it.0) in
      opening_took a _ x it.0 _ at.0 c.args.piece.now c.in-Ok-default-More.used front.0 front.1 c.take.new.self _
      front.2
      (c.in-Ok-default-More.ensures.count a.start it.1);
}

pub returns-in-Err-Memory : goal.returns-in-Err-Memory
returns-in-Err-Memory g c = record {
  takes = λ a x at goes.
      let it = subst (λ s. IsReady a s c.args.meter.now x) c.in-Opening.is at.1 in (
        line_lacks a _ x it.0 c.args.piece.now c.take.new.self
            (rw c.in-Err-Memory.field-0-is at (c.in-Err-Memory.ensures.takes x it.0)),
        front_costs a _ x it.0 c.args.piece.now c.take.new.self _
            (c.in-Err-Memory.ensures.count a.start it.1) (c.in-Err-Memory.ensures.jobs x it.0),
      );
}

pub returns-in-Err-BadSnapshot : goal.returns-in-Err-BadSnapshot
returns-in-Err-BadSnapshot g c = record {
  takes = λ a x at goes.
      let it = subst (λ s. IsReady a s c.args.meter.now x) c.in-Opening.is at.1 in
      let refused = line_refused a _ x it.0 c.args.piece.now c.take.new.self c.in-Err-BadSnapshot.line
      (rw c.in-Err-BadSnapshot.field-0-is at (c.in-Err-BadSnapshot.ensures.takes x it.0)) in
      subst (λ s. Takes (resume_talk a)
      (λ y parts. (c.args.self.now.at_end ≡ a.at_end) × IsGiving a s c.take.new.comparisons y parts) x c.args.piece.now
      (length c.args.piece.now)) (sym c.refuse.ensures) (rw c.in-Err-BadSnapshot.line-is
      (refused_took a _ x it.0 _ at.0 c.args.piece.now c.requires.some c.in-Err-BadSnapshot.line _ refused
      (front_costs a _ x it.0 c.args.piece.now c.take.new.self _
      (c.in-Err-BadSnapshot.ensures.count a.start it.1) (c.in-Err-BadSnapshot.ensures.jobs x it.0))));
}

pub go_on-requires : goal.go_on-requires
go_on-requires g c =
    let a = c.requires.stands.0 in
    let x = c.requires.stands.1 in
    let it = subst (λ s. IsReady a s c.args.meter.now x) c.in-Opening.is c.requires.stands.2.1 in
    let front = rw c.in-Ok-default-Ready.field-0-1-is at (c.in-Ok-default-Ready.ensures.takes x it.0) in
    (c.take.new.self, refl, (lines_of (x ++ take c.in-Ok-default-Ready.used c.args.piece.now), front.2.1))

pub returns-in-Ok-default-Ready : goal.returns-in-Ok-default-Ready
returns-in-Ok-default-Ready g c = record {
  takes = λ a x at goes.
      let it = subst (λ s. IsReady a s c.args.meter.now x) c.in-Opening.is at.1 in
      let front = rw c.in-Ok-default-Ready.field-0-1-is at (c.in-Ok-default-Ready.ensures.takes x it.0) in
      let y : List ℕ = x ++ take c.in-Ok-default-Ready.used c.args.piece.now in
      whole_took a y (opened_is c.take.new.self y front.2) _ x it.0 _ (c.go_on.ensures.same ∙ at.0) c.args.piece.now
      c.in-Ok-default-Ready.used front.0 front.1 refl c.go_on.new.self.stage c.take.new.self.reader _
      (c.go_on.ensures.goes c.take.new.self (lines_of y) refl front.2.1)
      (c.in-Ok-default-Ready.ensures.count a.start it.1);
}

pub unreachable-requires : goal.unreachable-requires
unreachable-requires g c =
    let a = c.requires.stands.0 in
    let x = c.requires.stands.1 in
    let it = subst (λ s. IsReady a s c.args.meter.now x) c.in-Refused.is c.requires.stands.2.1 in
    never (sym (goes_at a x (Refused _) it.0) ∙ c.requires.stands.3)

pub take-requires-in-Serving-clause-stands : goal.take-requires-in-Serving-clause-stands
take-requires-in-Serving-clause-stands g c =
    let a = c.requires.stands.0 in
    let x = c.requires.stands.1 in
    let it = subst (λ s. IsReady a s c.args.meter.now x) c.in-Serving.is c.requires.stands.2.1 in
    (past_call a x _ it, past_bytes a x _ it, it.holds, sym (past_goes a x _ it) ∙ c.requires.stands.3)

pub returns-in-Serving : goal.returns-in-Serving
returns-in-Serving g c = record {
  takes = λ a x at goes.
      let it = subst (λ s. IsReady a s c.args.meter.now x) c.in-Serving.is at.1 in
      past_takes a x _ it c.args.piece.now _ _ _ _ at.0 c.take-in-Serving.result
      (c.take-in-Serving.ensures.takes (past_call a x _ it) (past_bytes a x _ it) it.holds
      (sym (past_goes a x _ it) ∙ goes));
}
