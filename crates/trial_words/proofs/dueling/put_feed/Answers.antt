use Rattle.std.proofs.Common.{take}
use Rattle.dover_model.specs.declared.events.Version.TheVariants.{One}
use Rattle.dover_model.specs.Instance.{jobs_under}
use Rattle.dialogue.proofs.Putting.{puts_behind, puts_cut}
use Rattle.trial_words.proofs.Putting.{feed_flushed, cause_behind, stops_behind}
use Rattle.trial_words.proofs.dueling.put_feed.Goals as goal

pub returns-in-Err-clause-text : goal.returns-in-Err-clause-text
returns-in-Err-clause-text g c = feed_flushed _ _ _ _ _ (jobs_under One c.args.k (take c.args.count c.args.coming.now))
    (puts_cut _ _ _ _ _ _ _ c.in-Err.ensures.text.part)

pub returns-in-Err-put_jobs-clause-text : goal.returns-in-Err-put_jobs-clause-text
returns-in-Err-put_jobs-clause-text g c =
    feed_flushed _ _ _ _ _ (jobs_under One c.args.k (take c.args.count c.args.coming.now))
    (puts_behind _ _ _ _ _ _ _ _ _ c.in-Ok.ensures.text.all
    (puts_cut _ _ _ _ _ _ _ c.in-Err-put_jobs.ensures.text.part))

pub returns-in-Err-put_feed_line-clause-text : goal.returns-in-Err-put_feed_line-clause-text
returns-in-Err-put_feed_line-clause-text g c =
    feed_flushed _ _ _ _ _ (jobs_under One c.args.k (take c.args.count c.args.coming.now))
    (puts_behind _ _ _ _ _ _ _ _ _ c.in-Ok.ensures.text.all
    (puts_behind _ _ _ _ _ _ _ _ _ c.in-Ok-put_jobs.ensures.text.all
    (puts_cut _ _ _ _ _ _ _ c.in-Err-put_feed_line.ensures.text.part)))

pub returns-clause-text : goal.returns-clause-text
returns-clause-text g c = feed_flushed _ _ _ _ _ (jobs_under One c.args.k (take c.args.count c.args.coming.now))
    (puts_behind _ _ _ _ _ _ _ _ _ c.in-Ok.ensures.text.all
    (puts_behind _ _ _ _ _ _ _ _ _ c.in-Ok-put_jobs.ensures.text.all
    (puts_behind _ _ _ _ _ _ _ _ _ c.in-Ok-put_feed_line.ensures.text.all c.flush.ensures.text)))

pub returns-in-Err-clause-cause : goal.returns-in-Err-clause-cause
returns-in-Err-clause-cause g c = c.in-Err.ensures.cause

pub returns-in-Err-clause-stops : goal.returns-in-Err-clause-stops
returns-in-Err-clause-stops g c = c.in-Err.ensures.stops

pub returns-in-Err-put_jobs-clause-cause : goal.returns-in-Err-put_jobs-clause-cause
returns-in-Err-put_jobs-clause-cause g c =
    cause_behind _ _ _ _ _ _ _ c.in-Ok.ensures.cause.ok c.in-Ok.ensures.cause.other c.in-Err-put_jobs.ensures.cause

pub returns-in-Err-put_jobs-clause-stops : goal.returns-in-Err-put_jobs-clause-stops
returns-in-Err-put_jobs-clause-stops g c =
    stops_behind _ _ _ _ c.in-Ok.ensures.stops.well c.in-Err-put_jobs.ensures.stops

pub returns-in-Err-put_feed_line-clause-cause : goal.returns-in-Err-put_feed_line-clause-cause
returns-in-Err-put_feed_line-clause-cause g c =
    cause_behind _ _ _ _ _ _ _ c.in-Ok.ensures.cause.ok c.in-Ok.ensures.cause.other
    (cause_behind _ _ _ _ _ _ _ c.in-Ok-put_jobs.ensures.cause.ok c.in-Ok-put_jobs.ensures.cause.other
    c.in-Err-put_feed_line.ensures.cause)

pub returns-in-Err-put_feed_line-clause-stops : goal.returns-in-Err-put_feed_line-clause-stops
returns-in-Err-put_feed_line-clause-stops g c =
    stops_behind _ _ _ _ c.in-Ok.ensures.stops.well
    (stops_behind _ _ _ _ c.in-Ok-put_jobs.ensures.stops.well c.in-Err-put_feed_line.ensures.stops)

pub returns-clause-cause : goal.returns-clause-cause
returns-clause-cause g c =
    cause_behind _ _ _ _ _ _ _ c.in-Ok.ensures.cause.ok c.in-Ok.ensures.cause.other
    (cause_behind _ _ _ _ _ _ _ c.in-Ok-put_jobs.ensures.cause.ok c.in-Ok-put_jobs.ensures.cause.other
    (cause_behind _ _ _ _ _ _ _ c.in-Ok-put_feed_line.ensures.cause.ok c.in-Ok-put_feed_line.ensures.cause.other
    c.flush.ensures.cause))

pub returns-clause-stops : goal.returns-clause-stops
returns-clause-stops g c =
    stops_behind _ _ _ _ c.in-Ok.ensures.stops.well
    (stops_behind _ _ _ _ c.in-Ok-put_jobs.ensures.stops.well
    (stops_behind _ _ _ _ c.in-Ok-put_feed_line.ensures.stops.well c.flush.ensures.stops))
