use Rattle.std.proofs.Common.{◌∙◌, get_or, sym, ap, arith}
use Rattle.std.proofs.lemmas.List.{length-map}
use Rattle.dover_model.specs.Common.{is_heavy, rules_with}
use Rattle.task_laws.specs.Sure.{Stream, is_spread}
use Rattle.root_compare.specs.Least.{least_heavy}
use Rattle.task_words.specs.tasks.Merging.{blank_task}
use Rattle.task_words.specs.sure.Lines.{raise_line}
use Rattle.task_words.specs.sure.Streams.{most_against, stream_of, streams_of}
use Rattle.task_words.proofs.sure.Small.{small_there, stream_there}
use Rattle.task_words.proofs.sure.Tellings.{where_spread, told_beyond, where_light}
use Rattle.task_words.proofs.sure.telling.tell.Goals as goal

pub is_spread-requires : goal.is_spread-requires
is_spread-requires c = (small_there c.args.tasks.now c.requires.small c.args.number c.requires.number).within

pub returns-then-against-from : goal.returns-then-against-from
returns-then-against-from c =
    where_spread (rules_with c.args.together.now.ratio c.args.together.now.version) (streams_of c.args.tasks.now)
    c.args.number
    (ap is_spread (stream_there c.args.tasks.now c.args.number c.requires.number)
    ∙ sym c.is_spread.ensures ∙ c.if-not-is_spread.false) _
    (told_beyond c.args.together.now.ratio (streams_of c.args.tasks.now) c.args.number
    (most_against c.args.together.now.version (streams_of c.args.tasks.now) c.args.number)
    (c.requires.small.each c.args.number
    (omega (arith, c.requires.number, length-map c.args.tasks.now stream_of))).value
    (omega (arith, c.if-against-from.true, c.from.ensures, c.most_against-against.ensures)))

pub heavy-requires : goal.heavy-requires
heavy-requires c = record {
  value = (small_there c.args.tasks.now c.requires.small c.args.number c.requires.number).value;
}

pub returns : goal.returns
returns c =
    where_spread (rules_with c.args.together.now.ratio c.args.together.now.version) (streams_of c.args.tasks.now)
    c.args.number
    (ap is_spread (stream_there c.args.tasks.now c.args.number c.requires.number)
    ∙ sym c.is_spread.ensures ∙ c.if-not-is_spread.false) _
    (where_light c.args.together.now.ratio (streams_of c.args.tasks.now) c.args.number
    (most_against c.args.together.now.version (streams_of c.args.tasks.now) c.args.number)
    (ap (λ (s : Stream). is_heavy c.args.together.now.ratio s.value
    (most_against c.args.together.now.version (streams_of c.args.tasks.now) c.args.number))
    (stream_there c.args.tasks.now c.args.number c.requires.number)
    ∙ ap (λ w. is_heavy c.args.together.now.ratio (get_or c.args.tasks.now c.args.number blank_task).value w)
    (sym c.most_against-against.ensures) ∙ sym c.heavy.ensures ∙ c.if-heavy.false)
    (omega (arith, c.if-against-from.false, c.from.ensures, c.most_against-against.ensures)) _
    (c.tell_raise.ensures
    ∙ ap (λ w. raise_line c.args.together.now.ratio (streams_of c.args.tasks.now) c.args.number w
    (least_heavy c.args.together.now.ratio w)) c.most_against-against.ensures))
