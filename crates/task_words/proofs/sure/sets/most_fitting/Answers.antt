use Rattle.std.proofs.Common.{◌≡◌, ◌<◌, ◌≤◌, length, ap, arith}
use Rattle.std.proofs.lemmas.List.{length-map}
use Rattle.std.proofs.Math.Nat.{mul-le-mul_right}
use Rattle.task_words.specs.sure.Kept.{copies, left_from}
use Rattle.task_words.specs.sure.Streams.{stream_of, streams_of}
use Rattle.task_words.proofs.sure.LeftJobs.{left_count}
use Rattle.task_words.proofs.sure.sets.most_fitting.Goals as goal

-- so many jobs of others there are
few : (c : goal.After-copies_of)
    → length (left_from (streams_of c.args.tasks.now) c.args.number 0 c.copies_of.result) ≤ 20
few c =
    let some : 0 < length (streams_of c.args.tasks.now) =
    omega (arith, c.requires.number, length-map c.args.tasks.now stream_of) in
    let same : length (left_from (streams_of c.args.tasks.now) c.args.number 0 c.copies_of.result)
    ≡ length (left_from (streams_of c.args.tasks.now) c.args.number 0
    (copies (streams_of c.args.tasks.now) c.args.number 0)) =
    ap (λ n. length (left_from (streams_of c.args.tasks.now) c.args.number 0 n)) c.copies_of.ensures in
    omega (arith, same, left_count (streams_of c.args.tasks.now) c.args.number some, c.requires.few)

pub best_of-requires-clause-few : goal.best_of-requires-clause-few
best_of-requires-clause-few c = few c

pub best_of-requires-clause-work : goal.best_of-requires-clause-work
best_of-requires-clause-work c = omega (arith, mul-le-mul_right 1_000_000_000_000 (few c))

pub best_of-requires-clause-value : goal.best_of-requires-clause-value
best_of-requires-clause-value c = omega (arith, mul-le-mul_right 1_000_000_000 (few c))
