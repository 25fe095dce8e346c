use Rattle.std.proofs.Common.{◌≡◌, sym, ap, ◌∙◌, subst}
use Rattle.snapshot.specs.Kept.{IsReady as IsWholeFor}
use Rattle.snapshot.specs.Spending.{HasSpentOn}
use Rattle.feed_words.specs.resume.Keeping.{IsServedOn}
use Rattle.feed_words.specs.declared.resume.opening.Opening.{Opening}
use Rattle.feed_words.specs.declared.resume.resuming.SnapshotStage.TheVariants as stage
use Rattle.feed_words.proofs.resume.resuming.Resuming.go_on.Goals as goal

-- what is opened is one thing
one_opening : {L : Type 0} (o p : Opening) → ◌≡◌ {A = stage.the_data L} (stage.Opening o) (stage.Opening p) → o ≡ p
one_opening o p e = cc

pub take-server-requires : goal.take-server-requires
take-server-requires g c =
    let at = c.requires in
    let same = one_opening _ _ (sym c.in-Opening.is ∙ at.1) in (
      at.2.0,
      subst (λ r. IsWholeFor r at.2.0) (ap (λ (o : Opening). o.reader) (sym same)
          ∙ sym c.replace-reader.ensures.value) at.2.1,
    )

pub returns-clause-goes : goal.returns-clause-goes
returns-clause-goes g c o ls is whole =
    let same = one_opening _ _ (sym c.in-Opening.is ∙ is) in
    let reads = ap (λ (o : Opening). o.reader) (sym same) ∙ sym c.replace-reader.ensures.value in
    let gives = c.take-server.ensures.gives ls (subst (λ r. IsWholeFor r ls) reads whole) in
    subst (λ s. IsServedOn s o.reader ls) (sym c.replace.ensures.after)
    (λ call now may text spent. c.resumed-pausing.ensures call now may (gives.each call.feed may text)
    (c.take-server.ensures.count call.start now (subst (λ r. HasSpentOn r call.start now) reads spent)))
