use Rattle.std.proofs.Common.{◌≡◌, ◌≤◌, ◌<◌, ◌*◌, ◌⊎◌, inl, inr, List, length, ℕ, sym, ap, ◌∙◌, get_or, arith, nat_le}
use Rattle.std.proofs.lemmas.Nat.{mul-le}
use Rattle.std.proofs.lemmas.List.{length-map}
use Rattle.std.proofs.lemmas.Bool.{cases_lt}
use Rattle.task_laws.specs.Sure.{Stream, stream_at}
use Rattle.dover_model.proofs.valid.JobLimits.{ratio_limits}
use Rattle.task_words.specs.sure.Kept.{AreSmall, IsSparsest, IsSmall}
use Rattle.task_words.specs.declared.tasks.task.PeriodicTask.{PeriodicTask}
use Rattle.task_words.specs.sure.Streams.{stream_of, streams_of}
use Rattle.task_words.specs.tasks.Merging.{blank_task}
use Rattle.task_words.proofs.sure.Rivals.{none_other, as_rival}
use Rattle.task_words.proofs.sure.Small.{small_there, stream_there}
use Rattle.task_words.proofs.sure.densities.stays_within.Goals as goal

pub returns-then-rival-tasks : goal.returns-then-rival-tasks
returns-then-rival-tasks c = none_other c.args.ratio (streams_of c.args.tasks.now) c.requires.small c.args.number
    (omega (arith, c.requires.number, length-map c.args.tasks.now stream_of)) c.args.value c.rival-rival.result
    (c.rival-rival.ensures (streams_of c.args.tasks.now) c.requires.sparse
    (omega (arith, c.requires.number, length-map c.args.tasks.now stream_of)))
    (omega (arith, c.if-rival-tasks.true, length-map c.args.tasks.now stream_of))

-- three small numbers leave room
room : (a b d : ℕ) → a ≤ 1_000_000 → b ≤ 1_000_000_000 → d ≤ 1_000_000_000_000
    → a * b * d ≤ 1_000_000 * 1_000_000_000 * 1_000_000_000_000
room a b d small_a small_b small_d =
    let one : a * b ≤ 1_000_000 * 1_000_000_000 = mul-le a b 1_000_000 1_000_000_000 small_a small_b in
    mul-le (a * b) d (1_000_000 * 1_000_000_000) 1_000_000_000_000 one small_d

pair : (a b : ℕ) → a ≤ 1_000_000 → b ≤ 1_000_000_000 → a * b ≤ 1_000_000 * 1_000_000_000
pair a b small_a small_b = mul-le a b 1_000_000 1_000_000_000 small_a small_b

-- the rival is another task
below : (tasks : List PeriodicTask) (x r : ℕ) → IsSparsest (streams_of tasks) x r → (r ≡ length tasks → ⊥)
    → r < length tasks
below tasks x r it differs = by_order (cases_lt r (length tasks)) where
  by_order : (r < length tasks) ⊎ (length tasks ≤ r) → r < length tasks
  by_order (inl less) = less
  by_order (inr more) = absurd (differs (let within : r ≤ length (streams_of tasks) = it.within in
      omega (arith, more, within, length-map tasks stream_of)))

-- the numbers of a task
small_work : (tasks : List PeriodicTask) → AreSmall (streams_of tasks) → (y : ℕ) → y < length tasks
    → (get_or tasks y blank_task).work ≤ 1_000_000_000_000
small_work tasks small y less =
    let it : IsSmall (stream_of (get_or tasks y blank_task)) = small_there tasks small y less in
    let within : (get_or tasks y blank_task).work ≤ (get_or tasks y blank_task).deadline = it.within in
    let span : (get_or tasks y blank_task).deadline ≤ 1_000_000_000_000 = it.span in omega (arith, within, span)

small_value : (tasks : List PeriodicTask) → AreSmall (streams_of tasks) → (y : ℕ) → y < length tasks
    → (get_or tasks y blank_task).value ≤ 1_000_000_000
small_value tasks small y less = (small_there tasks small y less).value

pub overflow_mul-result-2 : goal.overflow_mul-result-2
overflow_mul-result-2 c =
    let q : c.args.ratio.q ≤ 1_000 = (ratio_limits c.q.ensures.ratio).small_q in
    let value : c.args.value ≤ 1_000_000_000 = c.requires.value in
    let there : c.rival-rival.result < length c.args.tasks.now =
    below c.args.tasks.now c.args.number c.rival-rival.result
    (c.rival-rival.ensures (streams_of c.args.tasks.now) c.requires.sparse
    (omega (arith, c.requires.number, length-map c.args.tasks.now stream_of))) c.if-rival-tasks.false in
    let work : (get_or c.args.tasks.now c.rival-rival.result blank_task).work ≤ 1_000_000_000_000 =
    small_work c.args.tasks.now c.requires.small c.rival-rival.result there in
    omega (
      arith,
      room c.from-q.result c.from.result c.from-2.result
          (omega (arith, c.from-q.ensures, c.q.ensures.is, q)) (omega (arith, c.from.ensures, value))
          (omega (arith, c.from-2.ensures, work)),
    )

pub overflow_mul-result-3 : goal.overflow_mul-result-3
overflow_mul-result-3 c =
    let p : c.args.ratio.p ≤ 1_000_000 = (ratio_limits c.p.ensures.ratio).small_p in
    let there : c.rival-rival.result < length c.args.tasks.now =
    below c.args.tasks.now c.args.number c.rival-rival.result
    (c.rival-rival.ensures (streams_of c.args.tasks.now) c.requires.sparse
    (omega (arith, c.requires.number, length-map c.args.tasks.now stream_of))) c.if-rival-tasks.false in
    let value : (get_or c.args.tasks.now c.rival-rival.result blank_task).value ≤ 1_000_000_000 =
    small_value c.args.tasks.now c.requires.small c.rival-rival.result there in
    omega (
      arith,
      pair c.from-p.result c.from-3.result (omega (arith, c.from-p.ensures, c.p.ensures.is, p))
          (omega (arith, c.from-3.ensures, value)),
    )

pub overflow_mul-result-4 : goal.overflow_mul-result-4
overflow_mul-result-4 c =
    let p : c.args.ratio.p ≤ 1_000_000 = (ratio_limits c.p.ensures.ratio).small_p in
    let there : c.rival-rival.result < length c.args.tasks.now =
    below c.args.tasks.now c.args.number c.rival-rival.result
    (c.rival-rival.ensures (streams_of c.args.tasks.now) c.requires.sparse
    (omega (arith, c.requires.number, length-map c.args.tasks.now stream_of))) c.if-rival-tasks.false in
    let value : (get_or c.args.tasks.now c.rival-rival.result blank_task).value ≤ 1_000_000_000 =
    small_value c.args.tasks.now c.requires.small c.rival-rival.result there in
    let work : (get_or c.args.tasks.now c.args.number blank_task).work ≤ 1_000_000_000_000 =
    small_work c.args.tasks.now c.requires.small c.args.number c.requires.number in
    omega (
      arith,
      room c.from-p.result c.from-3.result c.from-4.result
          (omega (arith, c.from-p.ensures, c.p.ensures.is, p)) (omega (arith, c.from-3.ensures, value))
          (omega (arith, c.from-4.ensures, work)),
    )

pub returns : goal.returns
returns c =
    let known : c.args.number < length (streams_of c.args.tasks.now) =
    omega (arith, c.requires.number, length-map c.args.tasks.now stream_of) in
    let rival : IsSparsest (streams_of c.args.tasks.now) c.args.number c.rival-rival.result =
    c.rival-rival.ensures (streams_of c.args.tasks.now) c.requires.sparse known in
    let there : c.rival-rival.result < length c.args.tasks.now =
    below c.args.tasks.now c.args.number c.rival-rival.result rival c.if-rival-tasks.false in
    let its_work : c.from-2.result ≡ (stream_at (streams_of c.args.tasks.now) c.rival-rival.result).work =
    c.from-2.ensures ∙ sym (ap (λ (s : Stream). s.work) (stream_there c.args.tasks.now c.rival-rival.result there)) in
    let its_value : c.from-3.result ≡ (stream_at (streams_of c.args.tasks.now) c.rival-rival.result).value =
    c.from-3.ensures ∙ sym (ap (λ (s : Stream). s.value) (stream_there c.args.tasks.now c.rival-rival.result there)) in
    let own_work : c.from-4.result ≡ (stream_at (streams_of c.args.tasks.now) c.args.number).work =
    c.from-4.ensures
    ∙ sym (ap (λ (s : Stream). s.work) (stream_there c.args.tasks.now c.args.number c.requires.number)) in
    let q : c.from-q.result ≡ c.args.ratio.q = c.from-q.ensures ∙ c.q.ensures.is in
    let p : c.from-p.result ≡ c.args.ratio.p = c.from-p.ensures ∙ c.p.ensures.is in
    as_rival c.args.ratio (streams_of c.args.tasks.now) c.requires.small c.args.number known c.args.value
    c.rival-rival.result
    rival (λ e. c.if-rival-tasks.false (omega (arith, e, length-map c.args.tasks.now stream_of)))
    (nat_le (c.from-q.result * c.from.result * c.from-2.result) (c.from-p.result * c.from-3.result * c.from-4.result))
    (ap (λ x. nat_le (x * c.from.result * c.from-2.result) (c.from-p.result * c.from-3.result * c.from-4.result)) q
    ∙ ap (λ x. nat_le (c.args.ratio.q * x * c.from-2.result) (c.from-p.result * c.from-3.result * c.from-4.result))
    c.from.ensures
    ∙ ap (λ x. nat_le (c.args.ratio.q * c.args.value * x) (c.from-p.result * c.from-3.result * c.from-4.result))
    its_work
    ∙ ap (λ x. nat_le (c.args.ratio.q * c.args.value *
    (stream_at (streams_of c.args.tasks.now) c.rival-rival.result).work)
    (x * c.from-3.result * c.from-4.result)) p
    ∙ ap (λ x. nat_le (c.args.ratio.q * c.args.value *
    (stream_at (streams_of c.args.tasks.now) c.rival-rival.result).work)
    (c.args.ratio.p * x * c.from-4.result)) its_value
    ∙ ap (λ x. nat_le (c.args.ratio.q * c.args.value *
    (stream_at (streams_of c.args.tasks.now) c.rival-rival.result).work)
    (c.args.ratio.p * (stream_at (streams_of c.args.tasks.now) c.rival-rival.result).value * x)) own_work)
