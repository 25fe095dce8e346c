use Rattle.std.proofs.Common.{◌≡◌, ◌<◌, ◌+◌, length, ap, sym, ◌∙◌, arith, sum_by}
use Rattle.std.proofs.lemmas.List.{length-map}
use Rattle.task_laws.specs.Sure.{most_crossing, stream_at}
use Rattle.task_words.specs.sure.Streams.{count_beside, stream_of, streams_of}
use Rattle.task_words.proofs.sure.Beside.{sum_all}
use Rattle.task_words.proofs.sure.Small.{small_there, stream_there}
use Rattle.task_words.proofs.sure.sums.Sums.crossing_beside.Goals as goal

pub most_crossing-requires : goal.most_crossing-requires
most_crossing-requires c = (small_there c.args.tasks.now c.requires.small c.args.number c.requires.number).apart

-- those of the others, and its own
all : (c : goal.After-most_crossing) → count_beside (streams_of c.args.tasks.now) c.args.number + c.most_crossing.result
    ≡ c.args.self.now.crossing
all c =
    let less : c.args.number < length (streams_of c.args.tasks.now) =
    omega (arith, c.requires.number, length-map c.args.tasks.now stream_of) in
    let own : most_crossing (stream_at (streams_of c.args.tasks.now) c.args.number) ≡ c.most_crossing.result =
    ap most_crossing (stream_there c.args.tasks.now c.args.number c.requires.number) ∙ sym c.most_crossing.ensures in
    let it : count_beside (streams_of c.args.tasks.now) c.args.number
    + most_crossing (stream_at (streams_of c.args.tasks.now) c.args.number)
    ≡ sum_by most_crossing (streams_of c.args.tasks.now) =
    sum_all most_crossing (streams_of c.args.tasks.now) c.args.number less in
    omega (arith, it, own, c.requires.sums.crossing)

pub overflow_sub-result : goal.overflow_sub-result
overflow_sub-result c = omega (arith, all c)

pub returns : goal.returns
returns c = omega (arith, all c)
