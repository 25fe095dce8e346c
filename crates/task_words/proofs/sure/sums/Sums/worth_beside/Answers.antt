use Rattle.std.proofs.Common.{◌≡◌, ◌<◌, ◌+◌, ◌*◌, length, ap, sym, ◌∙◌, get_or, arith, sum_by}
use Rattle.std.proofs.lemmas.List.{length-map}
use Rattle.task_laws.specs.Sure.{Stream, most_crossing, most_beside, stream_at}
use Rattle.task_words.specs.tasks.Merging.{blank_task}
use Rattle.task_words.specs.sure.Streams.{stream_of, streams_of}
use Rattle.task_words.proofs.sure.Beside.{sum_all}
use Rattle.task_words.proofs.sure.Small.{small_there, stream_there}
use Rattle.task_words.proofs.sure.sums.Sums.worth_beside.Goals as goal

pub most_crossing-requires : goal.most_crossing-requires
most_crossing-requires c = (small_there c.args.tasks.now c.requires.small c.args.number c.requires.number).apart

-- what its own jobs are worth
own : (c : goal.After-from-2) → most_crossing (stream_at (streams_of c.args.tasks.now) c.args.number)
    * (stream_at (streams_of c.args.tasks.now) c.args.number).value ≡ c.from.result * c.from-2.result
own c = ap (λ (s : Stream). most_crossing s * s.value)
    (stream_there c.args.tasks.now c.args.number c.requires.number)
    ∙ ap (λ n. n * (get_or c.args.tasks.now c.args.number blank_task).value)
    (sym (c.from.ensures ∙ c.most_crossing.ensures))
    ∙ ap (λ v. c.from.result * v) (sym c.from-2.ensures)

-- that of the others, and of its own
all : (c : goal.After-from-2) → most_beside (streams_of c.args.tasks.now) c.args.number
    + c.from.result * c.from-2.result ≡ c.args.self.now.worth
all c =
    let less : c.args.number < length (streams_of c.args.tasks.now) =
    omega (arith, c.requires.number, length-map c.args.tasks.now stream_of) in
    let it : most_beside (streams_of c.args.tasks.now) c.args.number
    + most_crossing (stream_at (streams_of c.args.tasks.now) c.args.number)
    * (stream_at (streams_of c.args.tasks.now) c.args.number).value
    ≡ sum_by (λ s. most_crossing s * s.value) (streams_of c.args.tasks.now) =
    sum_all (λ s. most_crossing s * s.value) (streams_of c.args.tasks.now) c.args.number less in
    omega (arith, it, own c, c.requires.sums.worth)

pub overflow_sub-result : goal.overflow_sub-result
overflow_sub-result c = omega (arith, all c)

pub returns : goal.returns
returns c = omega (arith, all c)
