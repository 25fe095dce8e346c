use Rattle.std.proofs.Common.{◌≡◌, ◌+◌, ◌*◌, ◌^◌, ◌∷◌, ◌∙◌, ap, subst, arith, heap_items, IsPermutation}
use Rattle.std.proofs.lemmas.List.Sorted.{IsPermutation-map}
use Rattle.policy_lab.specs.Ranks.{turn_by}
use Rattle.policy_lab.specs.Bench.{Turn, entry_with, kept_of}
use Rattle.policy_lab.proofs.Choosing.{put_rank, put_within}
use Rattle.policy_lab.proofs.bench.put.Goals as goal

pub overflow_mul-turn : goal.overflow_mul-turn
overflow_mul-turn g c =
    let ranks = g.P.Policy.ranks c.args.policy.now in
    let is = put_rank ranks c.args.number c.args.left _ _ c.rank.result c.args.job.now c.deadline-deadline.ensures.is
    c.value.ensures.is c.rank.ensures in
    let low = (g.met.P.Policy.law c.args.policy.now).low _
    (put_within c.args.number c.args.left c.args.job.now c.value.ensures.job c.requires.few c.requires.some
    c.requires.fits) in
    omega (arith, is, low)

pub overflow_add-turn : goal.overflow_add-turn
overflow_add-turn g c =
    let ranks = g.P.Policy.ranks c.args.policy.now in
    let is = put_rank ranks c.args.number c.args.left _ _ c.rank.result c.args.job.now c.deadline-deadline.ensures.is
    c.value.ensures.is c.rank.ensures in
    let low = (g.met.P.Policy.law c.args.policy.now).low _
    (put_within c.args.number c.args.left c.args.job.now c.value.ensures.job c.requires.few c.requires.some
    c.requires.fits) in
    omega (arith, is, low, c.from.ensures, c.requires.few)

pub returns : goal.returns
returns g c =
    let ranks = g.P.Policy.ranks c.args.policy.now in
    let is = put_rank ranks c.args.number c.args.left _ _ c.rank.result c.args.job.now c.deadline-deadline.ensures.is
    c.value.ensures.is c.rank.ensures in
    let turn : c.rank.result * 2 ^ 20 + c.from.result
    ≡ turn_by ranks (entry_with c.args.number c.args.left c.args.job.now) =
    ap (λ n. n * 2 ^ 20 + c.from.result) is
    ∙ ap (λ n. ranks (entry_with c.args.number c.args.left c.args.job.now) * 2 ^ 20 + n) c.from.ensures in (
      subst (λ n. IsPermutation ((n, c.args.left) ∷ kept_of (heap_items c.args.waiting.now))
          (kept_of (heap_items c.push.new.self))) turn
          (IsPermutation-map (λ (t : Turn). t.0) _ (heap_items c.push.new.self) c.in_ok-push.ensures.permutation),
      c.in_ok-push.ensures.heap_order,
    )
