use Rattle.std.proofs.Common.{arith}
use Rattle.dover_model.specs.Feed.{rules_with}
use Rattle.dialogue.proofs.Putting.{puts_behind, puts_cut}
use Rattle.task_words.specs.tasks.Tasks.{unrolled}
use Rattle.dialogue.proofs.lines.FeedTexts.{feed_through}
use Rattle.task_words.proofs.unroll.feeds.put_feed.Goals as goal

pub returns-in-Err-clause-text : goal.returns-in-Err-clause-text
returns-in-Err-clause-text g c = feed_through _ _ _ _ _
    (unrolled c.args.unrolling.now.until (rules_with c.args.rules.0 c.args.rules.1) c.args.unrolling.now.tasks)
    (puts_cut _ _ _ _ _ _ _ c.in-Err.ensures.text.part)

pub returns-in-Err-put_jobs-clause-text : goal.returns-in-Err-put_jobs-clause-text
returns-in-Err-put_jobs-clause-text g c = feed_through _ _ _ _ _
    (unrolled c.args.unrolling.now.until (rules_with c.args.rules.0 c.args.rules.1) c.args.unrolling.now.tasks)
    (puts_behind _ _ _ _ _ _ _ _ _ c.in-Ok.ensures.text.all
    (puts_cut _ _ _ _ _ _ _ c.in-Err-put_jobs.ensures.text.part))

pub returns-clause-text : goal.returns-clause-text
returns-clause-text g c = feed_through _ _ _ _ _
    (unrolled c.args.unrolling.now.until (rules_with c.args.rules.0 c.args.rules.1) c.args.unrolling.now.tasks)
    (puts_behind _ _ _ _ _ _ _ _ _ c.in-Ok.ensures.text.all
    (puts_behind _ _ _ _ _ _ _ _ _ c.in-Ok-put_jobs.ensures.text.all c.put_feed_line.ensures.text))

pub returns-in-Err-clause-cause : goal.returns-in-Err-clause-cause
returns-in-Err-clause-cause g c = c.in-Err.ensures.cause

pub returns-in-Err-clause-stops : goal.returns-in-Err-clause-stops
returns-in-Err-clause-stops g c = c.in-Err.ensures.stops

pub put_jobs-requires-clause-stands : goal.put_jobs-requires-clause-stands
put_jobs-requires-clause-stands g c = c.requires.stands

pub put_jobs-requires-clause-each : goal.put_jobs-requires-clause-each
put_jobs-requires-clause-each g c = c.requires.each

pub put_jobs-requires-clause-few : goal.put_jobs-requires-clause-few
put_jobs-requires-clause-few g c = c.requires.few

pub returns-in-Err-clause-count : goal.returns-in-Err-clause-count
returns-in-Err-clause-count g c = λ d enough. omega arith

pub returns-in-Err-put_jobs-clause-count : goal.returns-in-Err-put_jobs-clause-count
returns-in-Err-put_jobs-clause-count g c = c.put_jobs.ensures.count

pub returns-clause-count : goal.returns-clause-count
returns-clause-count g c = c.put_jobs.ensures.count
