use Rattle.std.proofs.Common.{◌≡◌, ◌≤◌, ◌∷◌, [], ℕ, List, refl, sym, ◌∙◌, subst, inl, inr, append-nil}
use Rattle.dover_model.specs.Common.{Fraction, IsRatio, generated_jobs, IsValid, jobs_under, JobFacts, most_jobs}
use Rattle.dover_model.specs.Common.{summary, printed, CostsAtMost}
use Rattle.dover_model.specs.declared.events.Version.TheVariants.{One, Two}
use Rattle.dover_model.proofs.valid.Limiting.{listable}
use Rattle.dover_port.specs.Moves.Move.{Put}
use Rattle.dover_port.specs.declared.status.Status.TheVariants.{Done, WriteFault}
use Rattle.dover_port.proofs.Made.{since_none}
use Rattle.stated_jobs.proofs.trial.Drawn.{valid}
use Rattle.trial_words.specs.Lists.{trial_instance}
use Rattle.run_record.specs.intervals.Rows.{IsRunOf}
use Rattle.trial_words.specs.Tallied.{HasCounted}
use Rattle.trial_words.specs.declared.tally.RunTally.{RunTally}
use Rattle.trial_words.proofs.Summing.{of_text}
use Rattle.trial_words.proofs.trial.trial_word.Goals as goal

-- the run of the jobs of a seed was counted
counted : (seed count : ℕ) (k : Fraction) (jobs : List JobFacts) (tally : RunTally) → jobs ≡ generated_jobs seed count k
    → HasCounted tally (printed (jobs_under One k jobs)) → HasCounted tally (printed (trial_instance k seed count))
counted seed count k jobs tally is seen = subst (λ js. HasCounted tally (printed (jobs_under One k js))) is seen

-- and it is one
own_run : (seed count : ℕ) (k : Fraction) → IsRatio k → count ≤ most_jobs Two
    → IsRunOf k (printed (trial_instance k seed count)) (trial_instance k seed count)
own_run seed count k ratio few = record {
  valid = valid k ratio seed count One few;
  listable = listable (trial_instance k seed count) (valid k ratio seed count One few) refl;
  ratio = refl;
  prints = refl;
}

pub run_list-requires-clause-valid : goal.run_list-requires-clause-valid
run_list-requires-clause-valid g c = subst (λ js. IsValid (jobs_under One c.args.k js)) (sym c.new.ensures.jobs)
    (valid c.args.k c.p.ensures.ratio c.args.seed c.args.count One c.requires.count)

pub summary-requires : goal.summary-requires
summary-requires g c = (
  trial_instance c.args.k c.args.seed c.args.count,
  own_run c.args.seed c.args.count c.args.k c.p.ensures.ratio c.requires.count,
  counted _ _ _ _ _ c.new.ensures.jobs c.in-Ok.ensures.seen,
)

pub returns-in_default-clause-writes : goal.returns-in_default-clause-writes
returns-in_default-clause-writes g c = since_none _ _ refl

pub returns-in_default-summary-clause-writes : goal.returns-in_default-summary-clause-writes
returns-in_default-summary-clause-writes g c = since_none _ _ refl

pub returns-in-Ok-put_all-clause-writes : goal.returns-in-Ok-put_all-clause-writes
returns-in-Ok-put_all-clause-writes g c = of_text _ _ Done _ _
    (c.deref.ensures.value ∙ c.in-Ok-summary.ensures (trial_instance c.args.k c.args.seed c.args.count)
    (own_run c.args.seed c.args.count c.args.k c.p.ensures.ratio c.requires.count)
    (counted _ _ _ _ _ c.new.ensures.jobs c.in-Ok.ensures.seen))
    c.in-Ok-put_all.ensures.text.all

pub returns-in-Ok-put_all-clause-ends : goal.returns-in-Ok-put_all-clause-ends
returns-in-Ok-put_all-clause-ends g c =
    inr (Put (summary (trial_instance c.args.k c.args.seed c.args.count)) ∷ [], (tt, append-nil _))

pub returns-clause-writes : goal.returns-clause-writes
returns-clause-writes g c = of_text _ _ WriteFault _ _
    (c.deref.ensures.value ∙ c.in-Ok-summary.ensures (trial_instance c.args.k c.args.seed c.args.count)
    (own_run c.args.seed c.args.count c.args.k c.p.ensures.ratio c.requires.count)
    (counted _ _ _ _ _ c.new.ensures.jobs c.in-Ok.ensures.seen))
    c.in-Err.ensures.text.part

pub returns-in_default-clause-ends : goal.returns-in_default-clause-ends
returns-in_default-clause-ends g c = inr ([], refl)

pub returns-in_default-clause-causes : goal.returns-in_default-clause-causes
returns-in_default-clause-causes g c = (refl, refl)

pub returns-in_default-clause-stops : goal.returns-in_default-clause-stops
returns-in_default-clause-stops g c = λ well. well

pub returns-in_default-clause-count : goal.returns-in_default-clause-count
returns-in_default-clause-count g c =
    subst (λ n. CostsAtMost n c.args.comparisons.now c.run_list.new.comparisons) c.new.ensures.count
    c.run_list.ensures.count

pub returns-in_default-summary-clause-ends : goal.returns-in_default-summary-clause-ends
returns-in_default-summary-clause-ends g c = inr ([], refl)

pub returns-in_default-summary-clause-causes : goal.returns-in_default-summary-clause-causes
returns-in_default-summary-clause-causes g c = (refl, refl)

pub returns-in_default-summary-clause-stops : goal.returns-in_default-summary-clause-stops
returns-in_default-summary-clause-stops g c = λ well. well

pub returns-in_default-summary-clause-count : goal.returns-in_default-summary-clause-count
returns-in_default-summary-clause-count g c =
    subst (λ n. CostsAtMost n c.args.comparisons.now c.run_list.new.comparisons) c.new.ensures.count
    c.in-Ok.ensures.count

pub returns-in-Ok-put_all-clause-causes : goal.returns-in-Ok-put_all-clause-causes
returns-in-Ok-put_all-clause-causes g c = (c.in-Ok-put_all.ensures.cause.other, c.in-Ok-put_all.ensures.cause.ok)

pub returns-in-Ok-put_all-clause-stops : goal.returns-in-Ok-put_all-clause-stops
returns-in-Ok-put_all-clause-stops g c = c.in-Ok-put_all.ensures.stops.well

pub returns-in-Ok-put_all-clause-count : goal.returns-in-Ok-put_all-clause-count
returns-in-Ok-put_all-clause-count g c =
    subst (λ n. CostsAtMost n c.args.comparisons.now c.run_list.new.comparisons) c.new.ensures.count
    c.in-Ok.ensures.count

pub returns-clause-ends : goal.returns-clause-ends
returns-clause-ends g c = inl refl

pub returns-clause-causes : goal.returns-clause-causes
returns-clause-causes g c = (c.in-Err.ensures.cause.other, c.in-Err.ensures.cause.failed)

pub returns-clause-stops : goal.returns-clause-stops
returns-clause-stops g c = c.in-Err.ensures.stops.stopped

pub returns-clause-count : goal.returns-clause-count
returns-clause-count g c =
    subst (λ n. CostsAtMost n c.args.comparisons.now c.run_list.new.comparisons) c.new.ensures.count
    c.in-Ok.ensures.count
