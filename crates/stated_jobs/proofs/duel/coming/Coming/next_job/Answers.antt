use Rattle.std.proofs.Common.{rules, refl, sym, ap, subst, ◌∙◌, arith, min}
use Rattle.dover_model.specs.Common.{tight_job, IsJob}
use Rattle.stated_jobs.proofs.duel.Giving.{small_given, small_too_large, link_too_large, link_modest, link_last}
use Rattle.stated_jobs.proofs.duel.Giving.{link_given}
use Rattle.stated_jobs.proofs.duel.coming.Coming.next_job.Goals as goal

pub returns-then-self-gt0 : goal.returns-then-self-gt0
returns-then-self-gt0 c = small_given c.self.inside.k c.self.inside.share.whole c.self.inside.share.part
    c.args.self.now c.self.inside.is_over c.self.inside.more c.self.inside.tick c.self.inside.left c.self.inside.size
    c.self.inside.work (sym c.self.view_is) c.min-work.result c.in-Some.job c.if-self.false c.self.invariant.size
    c.if-self-gt0.true (c.min-work.ensures ∙ ap (λ n. min c.self.inside.size n) c.from.ensures)
    (c.in-Some.ensures.some
    ∙ ap (λ d. tight_job c.self.inside.tick c.min-work.result d) (c.from-then-self-gt0.ensures ∙ c.p.ensures.is))

pub returns-in_default-tight_job : goal.returns-in_default-tight_job
returns-in_default-tight_job c = link_too_large c.self.inside.k c.self.inside.share.whole c.self.inside.share.part
    c.args.self.now c.self.inside.is_over c.self.inside.more c.self.inside.tick c.self.inside.left c.self.inside.size
    c.self.inside.work (sym c.self.view_is) c.if-self.false (omega (arith, c.if-self-gt0.false))
    (subst (λ d. IsJob (tight_job c.self.inside.tick c.self.inside.work d) → ⊥) (c.from-2.ensures ∙ c.q.ensures.is)
    (c.in_default-tight_job.ensures.none refl))

pub returns-in_default : goal.returns-in_default
returns-in_default c = small_too_large c.self.inside.k c.self.inside.share.whole c.self.inside.share.part
    c.args.self.now c.self.inside.is_over c.self.inside.more c.self.inside.tick c.self.inside.left c.self.inside.size
    c.self.inside.work (sym c.self.view_is) c.min-work.result c.if-self.false c.self.invariant.size
    c.if-self-gt0.true (c.min-work.ensures ∙ ap (λ n. min c.self.inside.size n) c.from.ensures)
    (subst (λ d. IsJob (tight_job c.self.inside.tick c.min-work.result d) → ⊥)
    (c.from-then-self-gt0.ensures ∙ c.p.ensures.is) (c.in_default.ensures.none refl))

pub ends-self-inside-requires-clause-modest : goal.ends-self-inside-requires-clause-modest
ends-self-inside-requires-clause-modest c =
    link_modest c.self.inside.k c.self.inside.tick c.self.inside.work c.from-2.result c.in-Some-tight_job.job
    c.q.ensures.ratio (c.from-2.ensures ∙ c.q.ensures.is) c.in-Some-tight_job.ensures.some (search rules)

pub small_work-self-inside-requires-clause-modest : goal.small_work-self-inside-requires-clause-modest
small_work-self-inside-requires-clause-modest c =
    link_modest c.self.inside.k c.self.inside.tick c.self.inside.work c.from-2.result c.in-Some-tight_job.job
    c.q.ensures.ratio (c.from-2.ensures ∙ c.q.ensures.is) c.in-Some-tight_job.ensures.some (search rules)

pub next_work-self-inside-requires-clause-modest : goal.next_work-self-inside-requires-clause-modest
next_work-self-inside-requires-clause-modest c =
    link_modest c.self.inside.k c.self.inside.tick c.self.inside.work c.from-2.result c.in-Some-tight_job.job
    c.q.ensures.ratio (c.from-2.ensures ∙ c.q.ensures.is) c.in-Some-tight_job.ensures.some (search rules)

pub invariant_of-self-2 : goal.invariant_of-self-2
invariant_of-self-2 c =
    let link =
    link_modest c.self.inside.k c.self.inside.tick c.self.inside.work c.from-2.result c.in-Some-tight_job.job
    c.q.ensures.ratio (c.from-2.ensures ∙ c.q.ensures.is) c.in-Some-tight_job.ensures.some (search rules) in
    record {
      ratio = c.self.invariant.ratio;
      share = c.self.invariant.share;
      size = c.small_work-self-inside.ensures.some;
      few = omega (arith, link.modest);
      early = omega (arith, link.early, link.some);
      some = c.next_work-self-inside.ensures.some;
      modest = c.next_work-self-inside.ensures.small;
    }

pub returns-then-self-2 : goal.returns-then-self-2
returns-then-self-2 c = link_last c.self.inside.k c.self.inside.share.whole c.self.inside.share.part
    c.args.self.now c.self.inside.is_over c.self.inside.more c.self.inside.tick c.self.inside.left c.self.inside.size
    c.self.inside.work (sym c.self.view_is) c.if-self.false (omega (arith, c.if-self-gt0.false))
    c.in-Some-tight_job.job (c.in-Some-tight_job.ensures.some
    ∙ ap (λ d. tight_job c.self.inside.tick c.self.inside.work d) (c.from-2.ensures ∙ c.q.ensures.is))
    c.ends-self-inside.result c.if-self-2.true (c.ends-self-inside.ensures.over c.if-self-2.true) _

pub returns : goal.returns
returns c = link_given c.self.inside.k c.self.inside.share.whole c.self.inside.share.part
    c.args.self.now c.self.inside.is_over c.self.inside.more c.self.inside.tick c.self.inside.left c.self.inside.size
    c.self.inside.work (sym c.self.view_is) c.if-self.false (omega (arith, c.if-self-gt0.false))
    c.in-Some-tight_job.job (c.in-Some-tight_job.ensures.some
    ∙ ap (λ d. tight_job c.self.inside.tick c.self.inside.work d) (c.from-2.ensures ∙ c.q.ensures.is))
    c.ends-self-inside.result c.if-self-2.false (c.ends-self-inside.ensures.on c.if-self-2.false)
    c.self.invariant.some c.small_work-self-inside.result c.next_work-self-inside.result
    c.small_work-self-inside.ensures.is c.next_work-self-inside.ensures.is
