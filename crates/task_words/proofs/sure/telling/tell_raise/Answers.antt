use Rattle.std.proofs.Common.{◌∙◌, ap, sym}
use Rattle.task_words.specs.sure.Streams.{streams_of}
use Rattle.task_words.specs.sure.Lines.{raise_line}
use Rattle.task_words.proofs.sure.Tellings.{told_limit, told_raise, told_ratio}
use Rattle.task_words.proofs.sure.telling.tell_raise.Goals as goal

pub returns-then-value-gt-MOST_VALUE : goal.returns-then-value-gt-MOST_VALUE
returns-then-value-gt-MOST_VALUE c =
    told_limit c.args.together.now.ratio (streams_of c.args.tasks.now) c.args.number c.args.worth
    c.least_heavy-value.result c.if-value-gt-MOST_VALUE.true
    ∙ ap (raise_line c.args.together.now.ratio (streams_of c.args.tasks.now) c.args.number c.args.worth)
    c.least_heavy-value.ensures.is

pub returns-then-stays_within : goal.returns-then-stays_within
returns-then-stays_within c =
    told_raise c.args.together.now.ratio (streams_of c.args.tasks.now) c.args.number c.args.worth
    c.least_heavy-value.result c.if-value-gt-MOST_VALUE.false (sym c.stays_within.ensures ∙ c.if-stays_within.true)
    ∙ ap (raise_line c.args.together.now.ratio (streams_of c.args.tasks.now) c.args.number c.args.worth)
    c.least_heavy-value.ensures.is

pub returns : goal.returns
returns c =
    told_ratio c.args.together.now.ratio (streams_of c.args.tasks.now) c.args.number c.args.worth
    c.least_heavy-value.result c.if-value-gt-MOST_VALUE.false (sym c.stays_within.ensures ∙ c.if-stays_within.false)
    ∙ ap (raise_line c.args.together.now.ratio (streams_of c.args.tasks.now) c.args.number c.args.worth)
    c.least_heavy-value.ensures.is
