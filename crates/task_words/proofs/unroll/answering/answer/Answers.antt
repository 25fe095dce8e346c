use Rattle.std.proofs.Common.{refl, arith, ◌≤◌, length, sym, subst}
use Rattle.dover_port.specs.declared.status.Status.TheVariants.{Done, Refused}
use Rattle.task_words.specs.tasks.Tasks.{unrolled, jobs_before}
use Rattle.task_words.specs.reading.Record.{listed_rules}
use Rattle.event_feed.specs.Feeds.{feed_of}
use Rattle.dialogue.specs.Sizes.{size_text}
use Rattle.task_words.proofs.unroll.Ending.{says_feed, passed, not_passed}
use Rattle.task_words.proofs.unroll.Spending.{unroll_costs}
use Rattle.std.specs.List.{AllByRecursion}
use Rattle.dover_port.proofs.Made.{since_none}
use Rattle.task_words.specs.tasks.Limits.{IsTask}
use Rattle.task_words.proofs.unroll.answering.answer.Goals as goal

pub returns-in-Ok-clause-says : goal.returns-in-Ok-clause-says
returns-in-Ok-clause-says g c = (
  size_text,
  (not_passed c.args.until _ _ c.fits.result c.if-not-fits.true c.fits.ensures c.deref.ensures.value, refl),
  rw c.requires.empty at c.in-Ok.ensures.text.all,
)

pub returns-in-Err-clause-says : goal.returns-in-Err-clause-says
returns-in-Err-clause-says g c = (
  Refused,
  size_text,
  (not_passed c.args.until _ _ c.fits.result c.if-not-fits.true c.fits.ensures c.deref.ensures.value, refl),
  rw c.requires.empty at c.in-Err.ensures.text.part,
)

pub returns-in-Ok-put_feed-clause-says : goal.returns-in-Ok-put_feed-clause-says
returns-in-Ok-put_feed-clause-says g c = (
  feed_of (unrolled c.in-Ok-new.unrolling.until (listed_rules c.args.listed) c.in-Ok-new.unrolling.tasks),
  says_feed c.args.until (listed_rules c.args.listed) c.args.listed.tasks.items c.requires.ratio
      c.requires.declarable c.requires.are
      (passed c.args.until _ _ c.fits.result c.if-not-fits.false c.fits.ensures c.deref.ensures.value)
      c.in-Ok-new.unrolling.until c.in-Ok-new.unrolling.tasks c.in-Ok-new.ensures.until c.in-Ok-new.ensures.tasks,
  rw c.requires.empty at c.in-Ok-put_feed.ensures.text.all,
)

pub returns-clause-says : goal.returns-clause-says
returns-clause-says g c = (
  Done,
  feed_of (unrolled c.in-Ok-new.unrolling.until (listed_rules c.args.listed) c.in-Ok-new.unrolling.tasks),
  says_feed c.args.until (listed_rules c.args.listed) c.args.listed.tasks.items c.requires.ratio
      c.requires.declarable c.requires.are
      (passed c.args.until _ _ c.fits.result c.if-not-fits.false c.fits.ensures c.deref.ensures.value)
      c.in-Ok-new.unrolling.until c.in-Ok-new.unrolling.tasks c.in-Ok-new.ensures.until c.in-Ok-new.ensures.tasks,
  rw c.requires.empty at c.in-Err-put_feed.ensures.text.part,
)

pub returns-in-Ok-put_feed-clause-count : goal.returns-in-Ok-put_feed-clause-count
returns-in-Ok-put_feed-clause-count g c = unroll_costs c.args.until c.args.listed.tasks.items
    c.in-Ok-new.unrolling.until c.in-Ok-new.unrolling.tasks c.in-Ok-new.ensures.until c.in-Ok-new.ensures.tasks _ _ _
    c.new.ensures.count c.put_feed.ensures.count

pub returns-clause-count : goal.returns-clause-count
returns-clause-count g c = unroll_costs c.args.until c.args.listed.tasks.items
    c.in-Ok-new.unrolling.until c.in-Ok-new.unrolling.tasks c.in-Ok-new.ensures.until c.in-Ok-new.ensures.tasks _ _ _
    c.new.ensures.count c.put_feed.ensures.count

pub returns-in-Ok-clause-count : goal.returns-in-Ok-clause-count
returns-in-Ok-clause-count g c = λ d enough. omega arith

pub returns-in-Err-clause-count : goal.returns-in-Err-clause-count
returns-in-Err-clause-count g c = λ d enough. omega arith

pub returns-in-Ok-clause-cause : goal.returns-in-Ok-clause-cause
returns-in-Ok-clause-cause g c = (c.in-Ok.ensures.cause.ok, c.in-Ok.ensures.cause.other)

pub returns-in-Ok-clause-stops : goal.returns-in-Ok-clause-stops
returns-in-Ok-clause-stops g c = c.in-Ok.ensures.stops.well

pub returns-in-Err-clause-cause : goal.returns-in-Err-clause-cause
returns-in-Err-clause-cause g c = (c.in-Err.ensures.cause.failed, c.in-Err.ensures.cause.other)

pub returns-in-Err-clause-stops : goal.returns-in-Err-clause-stops
returns-in-Err-clause-stops g c = c.in-Err.ensures.stops.stopped

pub returns-in-Ok-put_feed-clause-cause : goal.returns-in-Ok-put_feed-clause-cause
returns-in-Ok-put_feed-clause-cause g c = (c.in-Ok-put_feed.ensures.cause.ok, c.in-Ok-put_feed.ensures.cause.other)

pub returns-in-Ok-put_feed-clause-stops : goal.returns-in-Ok-put_feed-clause-stops
returns-in-Ok-put_feed-clause-stops g c = c.in-Ok-put_feed.ensures.stops.well

pub returns-clause-cause : goal.returns-clause-cause
returns-clause-cause g c = (c.in-Err-put_feed.ensures.cause.failed, c.in-Err-put_feed.ensures.cause.other)

pub returns-clause-stops : goal.returns-clause-stops
returns-clause-stops g c = c.in-Err-put_feed.ensures.stops.stopped

pub fits-requires : goal.fits-requires
fits-requires g c = subst (AllByRecursion (IsTask c.args.until)) (sym c.deref.ensures.value) c.requires.are.each

pub new-requires-clause-few : goal.new-requires-clause-few
new-requires-clause-few g c = c.requires.are.few

pub new-requires-clause-known : goal.new-requires-clause-known
new-requires-clause-known g c = c.requires.known

pub put_feed-requires-clause-stands : goal.put_feed-requires-clause-stands
put_feed-requires-clause-stands g c = c.in-Ok-new.ensures.stands

pub put_feed-requires-clause-few : goal.put_feed-requires-clause-few
put_feed-requires-clause-few g c =
    subst (λ n. length (jobs_before n c.in-Ok-new.unrolling.tasks) ≤ 1_000_000) (sym c.in-Ok-new.ensures.until)
    (subst (λ ts. length (jobs_before c.args.until ts) ≤ 1_000_000) (sym c.in-Ok-new.ensures.tasks)
    (passed c.args.until _ _ c.fits.result c.if-not-fits.false c.fits.ensures c.deref.ensures.value).count)

pub returns-in_default-clause-says : goal.returns-in_default-clause-says
returns-in_default-clause-says g c = since_none _ _ (tt, c.requires.empty)

pub returns-in_default-clause-count : goal.returns-in_default-clause-count
returns-in_default-clause-count g c = λ d enough. omega (arith, c.new.ensures.count d enough)

pub returns-in_default-clause-cause : goal.returns-in_default-clause-cause
returns-in_default-clause-cause g c = (refl, refl)

pub returns-in_default-clause-stops : goal.returns-in_default-clause-stops
returns-in_default-clause-stops g c = λ well. well
