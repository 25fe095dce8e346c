-- A line of one of the forms is taken in as that form is.
use Rattle.std.proofs.Common.{ap, ◌∙◌, arith, option_map}
use Rattle.line_text.specs.feeds.Form.{form_of}
use Rattle.event_feed.proofs.Taking.{kept_most, taken_line}
use Rattle.event_feed.proofs.intake.read.Goals as goal

pub returns-in-Some-clause-taken : goal.returns-in-Some-clause-taken
returns-in-Some-clause-taken c a text is opened counts keeps =
    taken_line a text (form_of c.in-Some.line) c.formed_line.new.session c.formed_line.result opened
    (omega (arith, counts, kept_most c.args.session.now a.session a.mark keeps))
    (is ∙ ap (option_map form_of) c.in-Some.is)
    (c.formed_line.ensures.taken a.lines a.session a.mark keeps)
