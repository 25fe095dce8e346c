use Rattle.std.proofs.Common.{◌≤◌, ◌∙◌, ap, refl, inl, inr, arith}
use Rattle.dover_model.specs.Bait.{unit_value, tight_job}
use Rattle.stated_jobs.specs.bait.Baiting.{Baiting}
use Rattle.stated_jobs.proofs.bait.Giving.{tick_low, link_within, release_within, link_left, link_given, link_due}
use Rattle.stated_jobs.proofs.bait.Giving.{link_modest, link_small, still_early, some_work, bait_worth, at_end}
use Rattle.stated_jobs.proofs.bait.Giving.{within_end, NoneNow, unit_given, unit_early, bait_given, turn, last_turn}
use Rattle.stated_jobs.proofs.bait.Giving.{some_given, link_fits, next_fits, bait_due, bait_modest, unit_due}
use Rattle.stated_jobs.proofs.bait.Giving.{unit_worth, unit_modest}
use Rattle.stated_jobs.proofs.bait.feed.Bait.next_job.Goals as goal
use Rattle.stated_jobs.proofs.bait.feed.Bait.next_job.Goals.{else-self-gt0-via-then-self-gt0+else-self-2}
use Rattle.stated_jobs.proofs.bait.feed.Bait.next_job.Goals.{else-self-gt0-via-else-self-gt0}

-- ---- a link is given

pub tight_job-job-requires-clause-due : goal.tight_job-job-requires-clause-due
tight_job-job-requires-clause-due c = link_due c.self.inside.release c.self.inside.work c.self.inside.bait_tick
    (link_within c.self.inside.k c.self.inside.links c.self.inside.release c.self.inside.work c.self.inside.bait_tick
    c.if-self-gt0.true
    c.self.invariant.work c.self.invariant.left) (tick_low c.self.inside c.self.invariant)

pub tight_job-job-requires-clause-modest : goal.tight_job-job-requires-clause-modest
tight_job-job-requires-clause-modest c = link_modest c.self.inside.release c.self.inside.work c.self.inside.bait_tick
    (link_within c.self.inside.k c.self.inside.links c.self.inside.release c.self.inside.work c.self.inside.bait_tick
    c.if-self-gt0.true
    c.self.invariant.work c.self.invariant.left) (tick_low c.self.inside c.self.invariant)

pub light_value-requires : goal.light_value-requires
light_value-requires c = link_small c.self.inside.release c.self.inside.work c.self.inside.bait_tick
    (link_within c.self.inside.k c.self.inside.links c.self.inside.release c.self.inside.work c.self.inside.bait_tick
    c.if-self-gt0.true
    c.self.invariant.work c.self.invariant.left) (tick_low c.self.inside c.self.invariant)

pub overflow_add-self-then-self-2 : goal.overflow_add-self-then-self-2
overflow_add-self-then-self-2 c =
    let small : c.self.inside.work ≤ 1_000_000 =
    link_small c.self.inside.release c.self.inside.work c.self.inside.bait_tick
    (link_within c.self.inside.k c.self.inside.links c.self.inside.release c.self.inside.work c.self.inside.bait_tick
    c.if-self-gt0.true
    c.self.invariant.work c.self.invariant.left) (tick_low c.self.inside c.self.invariant) in
    omega (arith, small, c.light_value.ensures.most)

pub invariant_of-self : goal.invariant_of-self
invariant_of-self c = record {
  ratio = c.self.invariant.ratio;
  rounds = c.self.invariant.rounds;
  numbers = c.self.invariant.numbers;
  modest = c.self.invariant.modest;
  bait_tick = c.self.invariant.bait_tick;
  early = still_early c.self.inside.tick c.self.inside.release c.self.inside.work c.self.invariant.early;
  work = some_work c.light_value.result;
  left = link_left _ _ _ _ _ _ c.if-self-gt0.true c.self.invariant.work c.light_value.ensures.is c.self.invariant.left;
}

pub tight_job-job-requires-clause-some : goal.tight_job-job-requires-clause-some
tight_job-job-requires-clause-some c = c.self.invariant.work

pub tight_job-job-requires-clause-worth : goal.tight_job-job-requires-clause-worth
tight_job-job-requires-clause-worth c = bait_worth c.self.inside.work c.self.invariant.work

pub overflow_sub-self : goal.overflow_sub-self
overflow_sub-self c = c.if-self-gt0.true

pub overflow_sub-self-then-self-2 : goal.overflow_sub-self-then-self-2
overflow_sub-self-then-self-2 c = c.self.invariant.work

pub overflow_add-self : goal.overflow_add-self
overflow_add-self c = link_fits c.self.inside.release c.self.inside.work c.self.inside.bait_tick
    (link_within c.self.inside.k c.self.inside.links c.self.inside.release c.self.inside.work c.self.inside.bait_tick
    c.if-self-gt0.true
    c.self.invariant.work c.self.invariant.left) (tick_low c.self.inside c.self.invariant)

pub returns-then-self-2-clause-ratio : goal.returns-then-self-2-clause-ratio
returns-then-self-2-clause-ratio c = ap (λ (b : Baiting). b.ratio) c.self.view_is

pub returns-then-self-2-clause-rounds : goal.returns-then-self-2-clause-rounds
returns-then-self-2-clause-rounds c = ap (λ (b : Baiting). b.rounds) c.self.view_is

-- the jobs before the call are the link and those after it
pub returns-then-self-2-clause-jobs : goal.returns-then-self-2-clause-jobs
returns-then-self-2-clause-jobs c =
    turn c.args.self.now.jobs _ c.self.inside.is_over _ _ (tight_job c.self.inside.release c.self.inside.work 1)
    c.tight_job-job.result
    (ap (λ (b : Baiting). b.jobs) c.self.view_is) c.if-self.false c.tight_job-job.ensures
    (link_given (unit_value c.self.inside.k) c.self.inside.chain.light c.self.inside.bait_tick c.self.inside.k
    c.self.inside.links
    c.self.inside.release
    c.self.inside.work c.self.inside.tick c.light_value.result c.if-self-gt0.true c.self.invariant.work c.if-self-2.true
    (within_end c.self.inside.tick c.self.inside.release c.self.inside.bait_tick c.self.invariant.early
    (release_within _ _ _ _ _ c.self.invariant.work c.self.invariant.left)) c.light_value.ensures.is) refl

pub returns-then-self-2-clause-none : goal.returns-then-self-2-clause-none
returns-then-self-2-clause-none c = some_given _ _ _ (returns-then-self-2-clause-jobs c)

-- ---- a unit job is given

pub tight_job-job-requires-then-self-3-clause-due : goal.tight_job-job-requires-then-self-3-clause-due
tight_job-job-requires-then-self-3-clause-due c = unit_due c.self.inside.tick c.self.inside.bait_tick c.if-self-3.true
    (tick_low c.self.inside c.self.invariant)

pub tight_job-job-requires-then-self-3-clause-worth : goal.tight_job-job-requires-then-self-3-clause-worth
tight_job-job-requires-then-self-3-clause-worth c = unit_worth c.unit.result c.unit.ensures.some

pub tight_job-job-requires-then-self-3-clause-modest : goal.tight_job-job-requires-then-self-3-clause-modest
tight_job-job-requires-then-self-3-clause-modest c = unit_modest c.unit.result c.unit.ensures.small

pub overflow_add-self-then-self-3 : goal.overflow_add-self-then-self-3
overflow_add-self-then-self-3 c = next_fits c.self.inside.tick c.self.inside.bait_tick c.if-self-3.true
    (tick_low c.self.inside c.self.invariant)

pub returns-then-self-3-clause-rounds : goal.returns-then-self-3-clause-rounds
returns-then-self-3-clause-rounds c = ap (λ (b : Baiting). b.rounds) c.self.view_is

pub invariant_of-self-then-self-3 : goal.invariant_of-self-then-self-3
invariant_of-self-then-self-3 c =
    let none : NoneNow c.self.inside.links c.self.inside.release c.self.inside.tick = elim c.else-self-gt0.branch [
      | else-self-gt0-via-then-self-gt0+else-self-2 w ↦ inr w.if-self-2.false
      | else-self-gt0-via-else-self-gt0 w ↦ inl w.if-self-gt0.false
    ] in
    record {
      ratio = c.self.invariant.ratio;
      rounds = c.self.invariant.rounds;
      numbers = c.self.invariant.numbers;
      modest = c.self.invariant.modest;
      bait_tick = c.self.invariant.bait_tick;
      early = unit_early _ _ _ _ _ _ c.self.invariant.early none c.self.invariant.left c.if-self-3.true;
      work = c.self.invariant.work;
      left = c.self.invariant.left;
    }

-- the jobs before the call are the unit job and those after it
pub returns-then-self-3-clause-jobs : goal.returns-then-self-3-clause-jobs
returns-then-self-3-clause-jobs c =
    let none : NoneNow c.self.inside.links c.self.inside.release c.self.inside.tick = elim c.else-self-gt0.branch [
      | else-self-gt0-via-then-self-gt0+else-self-2 w ↦ inr w.if-self-2.false
      | else-self-gt0-via-else-self-gt0 w ↦ inl w.if-self-gt0.false
    ] in
    turn c.args.self.now.jobs _ c.self.inside.is_over _ _ (tight_job c.self.inside.tick 1 (unit_value c.self.inside.k))
    c.tight_job-job-then-self-3.result
    (ap (λ (b : Baiting). b.jobs) c.self.view_is) c.if-self.false (c.tight_job-job-then-self-3.ensures
    ∙ ap (λ u. tight_job c.self.inside.tick 1 u) c.unit.ensures.is)
    (unit_given _ _ _ _ _ _ _ _ c.self.invariant.work c.self.invariant.early none c.if-self-3.true) refl

pub returns-then-self-3-clause-none : goal.returns-then-self-3-clause-none
returns-then-self-3-clause-none c = some_given _ _ _ (returns-then-self-3-clause-jobs c)

-- ---- the bait is given

pub tight_job-job-requires-2-clause-some : goal.tight_job-job-requires-2-clause-some
tight_job-job-requires-2-clause-some c = c.self.invariant.numbers.some

pub tight_job-job-requires-2-clause-worth : goal.tight_job-job-requires-2-clause-worth
tight_job-job-requires-2-clause-worth c = bait_worth c.self.inside.chain.light c.self.invariant.numbers.some

pub tight_job-job-requires-2-clause-due : goal.tight_job-job-requires-2-clause-due
tight_job-job-requires-2-clause-due c = bait_due c.self.inside.tick c.self.inside.bait_tick c.self.inside.chain.light
    (within_end c.self.inside.tick c.self.inside.release c.self.inside.bait_tick c.self.invariant.early
    (release_within _ _ _ _ _ c.self.invariant.work c.self.invariant.left)) (tick_low c.self.inside c.self.invariant)
    c.self.invariant.modest

pub tight_job-job-requires-2-clause-modest : goal.tight_job-job-requires-2-clause-modest
tight_job-job-requires-2-clause-modest c = bait_modest c.self.inside.chain.light c.self.invariant.modest

pub invariant_of-self-2 : goal.invariant_of-self-2
invariant_of-self-2 c = record {
  ratio = c.self.invariant.ratio;
  rounds = c.self.invariant.rounds;
  numbers = c.self.invariant.numbers;
  modest = c.self.invariant.modest;
  bait_tick = c.self.invariant.bait_tick;
  early = c.self.invariant.early;
  work = c.self.invariant.work;
  left = c.self.invariant.left;
}

pub returns-clause-rounds : goal.returns-clause-rounds
returns-clause-rounds c = ap (λ (b : Baiting). b.rounds) c.self.view_is

-- the jobs before the call are the bait alone
pub returns-clause-jobs : goal.returns-clause-jobs
returns-clause-jobs c =
    let none : NoneNow c.self.inside.links c.self.inside.release c.self.inside.tick = elim c.else-self-gt0.branch [
      | else-self-gt0-via-then-self-gt0+else-self-2 w ↦ inr w.if-self-2.false
      | else-self-gt0-via-else-self-gt0 w ↦ inl w.if-self-gt0.false
    ] in
    last_turn c.args.self.now.jobs c.self.inside.is_over _ (tight_job c.self.inside.tick c.self.inside.chain.light 1)
    c.tight_job-job-2.result
    (ap (λ (b : Baiting). b.jobs) c.self.view_is) c.if-self.false c.tight_job-job-2.ensures
    (bait_given (unit_value c.self.inside.k) c.self.inside.chain.light c.self.inside.bait_tick c.self.inside.k
    c.self.inside.links
    c.self.inside.release
    c.self.inside.work c.self.inside.tick c.self.invariant.work c.self.invariant.early none
    (at_end c.self.inside.tick c.self.inside.release c.self.inside.bait_tick c.self.invariant.early
    (release_within _ _ _ _ _ c.self.invariant.work c.self.invariant.left) c.if-self-3.false))

pub returns-clause-none : goal.returns-clause-none
returns-clause-none c = some_given _ _ _ (returns-clause-jobs c)
