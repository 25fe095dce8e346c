use Rattle.std.proofs.Common.{◌≡◌, ◌+◌, ◌*◌, ◌/◌, ◌%◌, ◌≤◌, arith, sym, subst}
use Rattle.dover_model.specs.Common.{IsJob, job_of_numbers, most_density, high_bits}
use Rattle.stated_jobs.proofs.trial.Drawn.{is_job, value_low}
use Rattle.stated_jobs.proofs.trial.draws.drawn_job.Goals as goal

pub unwrap-requires : goal.unwrap-requires
unwrap-requires c =
    let most : c.min-most.result ≡ most_density c.args.k = cc in
    let from = c.args.last + c.args.release / 65_536 % 8 in
    let ticks = 1 + c.args.work / 65_536 % 20 in
    c.new.ensures.allowed.1 (subst (λ n. IsJob (job_of_numbers from ticks (from + ticks + c.args.slack / 65_536 % 30)
    ((1 + c.args.density / 65_536 % n) * ticks))) (sym most)
    (is_job c.args.k c.p.ensures.ratio c.args.last (high_bits c.args.release) (high_bits c.args.work)
    (high_bits c.args.slack) (high_bits c.args.density) c.requires.early))

pub overflow_mul-value : goal.overflow_mul-value
overflow_mul-value c =
    let most : c.min-most.result ≡ most_density c.args.k = cc in
    omega (
      arith,
      subst (λ n. (1 + c.args.density / 65_536 % n) * (1 + c.args.work / 65_536 % 20) ≤ 20_000) (sym most)
          (value_low c.args.k c.p.ensures.ratio (high_bits c.args.density) (high_bits c.args.work)),
    )
