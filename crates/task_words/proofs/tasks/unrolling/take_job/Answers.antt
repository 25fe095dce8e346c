use Rattle.std.proofs.Common.{◌∙◌, ap, None, set, length, length-set, is_some, arith, get_or, refl, get_or-set_same}
use Rattle.std.proofs.lemmas.List.Sums.{count_by-le-length}
use Rattle.task_words.specs.tasks.Merging.{merge, blank_task}
use Rattle.task_words.proofs.tasks.Merging.{none_given, given_within, room_given, read_next, read_some, given_job}
use Rattle.dover_model.proofs.valid.JobLimits.{job_limits}
use Rattle.task_words.proofs.tasks.unrolling.take_job.Goals as goal

pub returns-in_default-clause-end : goal.returns-in_default-clause-end
returns-in_default-clause-end g c = λ done stands none.
    none_given (merge c.args.tasks.now c.args.until c.args.next.now) done stands c.in_default.ensures

pub bounds-tasks-number : goal.bounds-tasks-number
bounds-tasks-number g c = omega (
  arith,
  c.place-number.ensures,
  given_within _ _ c.requires.stands.1 c.requires.each _ c.in-Some.ensures,
)

pub keep_release-requires-clause-ready : goal.keep_release-requires-clause-ready
keep_release-requires-clause-ready g c = omega (
  arith,
  c.place-number.ensures,
  room_given _ _ _ c.requires.each _ c.in-Some.ensures _ c.requires.stands.1 _
      (c.remove.ensures.out ∙ ap (λ q. set c.args.next.now q None) c.place-number.ensures),
)

pub returns-clause-next : goal.returns-clause-next
returns-clause-next g c =
    read_next c.args.tasks.now c.args.until c.args.next.now c.requires.each c.in-Some.first c.in-Some.ensures
    c.place-number.result c.key-release.result c.place-number.ensures c.key-release.ensures
    c.remove.new.self c.keep_release.new.next c.saturating_add.result c.ranges.until.fits
    c.saturating_add.ensures c.remove.ensures.out c.keep_release.ensures.keeps c.new.result c.new.ensures.facts

pub returns-clause-end : goal.returns-clause-end
returns-clause-end g c = λ done stands none. absurd
    (read_some _ _ _ c.requires.each _ c.in-Some.ensures _ _ c.place-number.ensures c.key-release.ensures _
    c.new.ensures.allowed _ stands none)

pub returns-clause-idle : goal.returns-clause-idle
returns-clause-idle g c = λ none. absurd
    (read_some _ _ _ c.requires.each _ c.in-Some.ensures _ _ c.place-number.ensures c.key-release.ensures _
    c.new.ensures.allowed _ c.requires.stands.1 none)

pub returns-clause-count : goal.returns-clause-count
returns-clause-count g c = λ d enough.
    let old = c.args.next.now in
    let size = c.requires.stands.1.size in
    let before = count_by-le-length is_some old in
    let behind = count_by-le-length is_some c.remove.new.self in
    let same = ap length c.remove.ensures.out ∙ length-set old c.place-number.result None in
    omega (
      arith,
      c.remove.ensures.count d (omega (arith, enough, size, before)),
      c.keep_release.ensures.count d (omega (arith, enough, size, behind, same)),
    )

pub keep_release-requires-clause-none : goal.keep_release-requires-clause-none
keep_release-requires-clause-none g c =
    ap (λ q. get_or q c.place-number.result None) c.remove.ensures.out
    ∙ get_or-set_same c.args.next.now c.place-number.result None None (omega (
      arith,
      c.place-number.ensures,
      c.requires.stands.1.size,
      given_within _ _ c.requires.stands.1 c.requires.each _ c.in-Some.ensures,
    ))

pub overflow_add-release : goal.overflow_add-release
overflow_add-release g c = omega (
  arith,
  c.key-release.ensures,
  ap (λ n. (get_or c.args.tasks.now n blank_task).deadline) c.place-number.ensures,
  (job_limits (given_job _ _ c.requires.stands.1 c.requires.each _ c.in-Some.ensures _ refl)).due,
)

pub returns-in_default-clause-count : goal.returns-in_default-clause-count
returns-in_default-clause-count g c = λ d enough. omega arith
