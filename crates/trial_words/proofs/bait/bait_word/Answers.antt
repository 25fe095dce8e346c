use Rattle.std.proofs.Common.{◌∷◌, [], ◌∙◌, refl, ap, subst, inl, inr, append-nil}
use Rattle.dover_model.proofs.lists.Tests.{never}
use Rattle.dover_port.specs.Moves.Move.{Put}
use Rattle.dover_port.specs.declared.status.Status.TheVariants.{Done, WriteFault}
use Rattle.dover_port.proofs.Made.{since_weaker}
use Rattle.stated_jobs.specs.bait.Baiting.{Baiting}
use Rattle.stated_jobs.specs.bait.BaitingRuns.{CompletesLastAlone}
use Rattle.dialogue.specs.Sizes.{size_text}
use Rattle.trial_words.specs.Baited.{bait_instance, bait_text}
use Rattle.trial_words.proofs.Summing.{of_text}
use Rattle.trial_words.proofs.bait.bait_word.Goals as goal

pub returns-in-Ok-clause-baits : goal.returns-in-Ok-clause-baits
returns-in-Ok-clause-baits g c = since_weaker _ _ _ _ c.in-Ok.ensures.text.all
    (λ moves put. inr ((λ fits. never (c.in_default.ensures.fits.1 fits)), put))

pub returns-in-Ok-clause-ends : goal.returns-in-Ok-clause-ends
returns-in-Ok-clause-ends g c =
    inr (Put size_text ∷ [], inr ((λ fits. never (c.in_default.ensures.fits.1 fits)), (tt, append-nil size_text)))

pub returns-in-Err-clause-baits : goal.returns-in-Err-clause-baits
returns-in-Err-clause-baits g c = since_weaker _ _ _ _ c.in-Err.ensures.text.part
    (λ moves put. inr ((λ fits. never (c.in_default.ensures.fits.1 fits)), put))

pub returns-in-Ok-put_all-clause-baits : goal.returns-in-Ok-put_all-clause-baits
returns-in-Ok-put_all-clause-baits g c = since_weaker _ _ _ _ (of_text _ _ Done _ _
    (c.bytes.ensures.is ∙ c.text_of.ensures.text
    ∙ ap (λ (b : Baiting). bait_text b.ratio b.rounds) c.in-Some.ensures.feed)
    c.in-Ok-put_all.ensures.text.all) (λ moves put. inl (c.in-Some.ensures.fits.0 refl, put))

pub returns-in-Ok-put_all-clause-ends : goal.returns-in-Ok-put_all-clause-ends
returns-in-Ok-put_all-clause-ends g c = inr (
  Put (bait_text c.args.k c.args.rounds) ∷ [],
  inl (c.in-Some.ensures.fits.0 refl, (tt, append-nil (bait_text c.args.k c.args.rounds))),
)

pub returns-in-Ok-put_all-clause-alone : goal.returns-in-Ok-put_all-clause-alone
returns-in-Ok-put_all-clause-alone g c = λ done.
    subst (λ (b : Baiting). CompletesLastAlone b.ratio b.rounds (bait_instance b.ratio b.rounds))
    c.in-Some.ensures.feed c.text_of.ensures.alone

pub returns-in-Err-put_all-clause-baits : goal.returns-in-Err-put_all-clause-baits
returns-in-Err-put_all-clause-baits g c = since_weaker _ _ _ _ (of_text _ _ WriteFault _ _
    (c.bytes.ensures.is ∙ c.text_of.ensures.text
    ∙ ap (λ (b : Baiting). bait_text b.ratio b.rounds) c.in-Some.ensures.feed)
    c.in-Err-put_all.ensures.text.part) (λ moves put. inl (c.in-Some.ensures.fits.0 refl, put))

pub returns-in-Ok-clause-causes : goal.returns-in-Ok-clause-causes
returns-in-Ok-clause-causes g c = (c.in-Ok.ensures.cause.other, c.in-Ok.ensures.cause.ok)

pub returns-in-Ok-clause-stops : goal.returns-in-Ok-clause-stops
returns-in-Ok-clause-stops g c = c.in-Ok.ensures.stops.well

pub returns-in-Err-clause-ends : goal.returns-in-Err-clause-ends
returns-in-Err-clause-ends g c = inl refl

pub returns-in-Err-clause-causes : goal.returns-in-Err-clause-causes
returns-in-Err-clause-causes g c = (c.in-Err.ensures.cause.other, c.in-Err.ensures.cause.failed)

pub returns-in-Err-clause-stops : goal.returns-in-Err-clause-stops
returns-in-Err-clause-stops g c = c.in-Err.ensures.stops.stopped

pub returns-in-Ok-put_all-clause-causes : goal.returns-in-Ok-put_all-clause-causes
returns-in-Ok-put_all-clause-causes g c = (c.in-Ok-put_all.ensures.cause.other, c.in-Ok-put_all.ensures.cause.ok)

pub returns-in-Ok-put_all-clause-stops : goal.returns-in-Ok-put_all-clause-stops
returns-in-Ok-put_all-clause-stops g c = c.in-Ok-put_all.ensures.stops.well

pub returns-in-Err-put_all-clause-ends : goal.returns-in-Err-put_all-clause-ends
returns-in-Err-put_all-clause-ends g c = inl refl

pub returns-in-Err-put_all-clause-causes : goal.returns-in-Err-put_all-clause-causes
returns-in-Err-put_all-clause-causes g c = (c.in-Err-put_all.ensures.cause.other, c.in-Err-put_all.ensures.cause.failed)

pub returns-in-Err-put_all-clause-stops : goal.returns-in-Err-put_all-clause-stops
returns-in-Err-put_all-clause-stops g c = c.in-Err-put_all.ensures.stops.stopped
