use Rattle.std.proofs.Common.{ℕ, ◌≤◌, sym, arith}
use Rattle.dover_model.specs.Limits.{most_p}
use Rattle.dover_model.proofs.valid.JobLimits.{ratio_limits}
use Rattle.run_reports.proofs.views.Numerators.{is_none, no_ratio, is_found, is_ratio_there, is_heavy_there, none_more}
use Rattle.run_reports.proofs.views.threshold.greatest_ratio.Goals as goal

pub returns-then-v-w-clause-is : goal.returns-then-v-w-clause-is
returns-then-v-w-clause-is c = sym (is_none c.args.q c.args.v c.args.w c.requires.some c.if-v-w.true)

pub returns-then-v-w-clause-none : goal.returns-then-v-w-clause-none
returns-then-v-w-clause-none c p other = no_ratio c.args.v c.args.w p other c.if-v-w.true

-- the least of the two
within : (c : goal.After-min-most) → c.min-most.result ≤ c.most_below.result
within c = omega (arith, c.min-most.ensures)

small : (c : goal.After-min-most) → c.min-most.result ≤ most_p
small c = omega (arith, c.min-most.ensures, c.from.ensures)

least : (c : goal.After-min-most) (p : ℕ) → p ≤ c.most_below.result → p ≤ most_p → p ≤ c.min-most.result
least c p below fits = omega (arith, c.min-most.ensures, c.from.ensures, below, fits)

pub returns-clause-is : goal.returns-clause-is
returns-clause-is c = sym (is_found c.args.q c.args.v c.args.w c.requires.some c.most_below.result c.min-most.result
    c.requires.few c.if-v-w.false c.most_below.ensures (within c) (small c) (least c))

pub returns-clause-ratio : goal.returns-clause-ratio
returns-clause-ratio c = is_ratio_there c.args.q c.args.v c.args.w c.requires.some c.most_below.result
    c.min-most.result c.requires.few c.if-v-w.false c.most_below.ensures (within c) (small c) (least c)

pub returns-clause-heavy : goal.returns-clause-heavy
returns-clause-heavy c = is_heavy_there c.args.q c.args.v c.args.w c.requires.some c.most_below.result
    c.min-most.result c.requires.few c.if-v-w.false c.most_below.ensures (within c) (small c) (least c)

pub returns-clause-greatest : goal.returns-clause-greatest
returns-clause-greatest c more ratio = none_more c.args.q c.args.v c.args.w c.requires.some c.most_below.result
    c.min-most.result c.requires.few c.if-v-w.false c.most_below.ensures (within c) (small c) (least c) more
    (ratio_limits ratio).small_p
