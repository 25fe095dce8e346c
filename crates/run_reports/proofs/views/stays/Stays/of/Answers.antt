use Rattle.std.proofs.Common.{◌-◌, length, drop, sym, ap, ◌∙◌, subst, arith}
use Rattle.std.proofs.lemmas.List.{drop_all, length-replicate}
use Rattle.run_reports.specs.views.Book.{Book, Keeps, blank}
use Rattle.run_reports.proofs.views.Threading.{as_many, before, keeps_none}
use Rattle.run_reports.proofs.views.stays.Stays.of.Goals as goal

pub loop-left-preserved : goal.loop-left-preserved
loop-left-preserved c = record {
  short = omega (arith, c.loop-left.invariant.short);
  count = ap (λ (b : Book). length b.firsts) c.in_ok-read.ensures
      ∙ as_many c.loop-left.stays c.index-run-left.result ∙ c.loop-left.invariant.count;
  keeps = subst (λ (b : Book). Keeps b (drop (c.loop-left.left - 1) c.args.run.now)) (sym c.in_ok-read.ensures)
      (before c.args.run.now c.loop-left.left c.index-run-left.result c.loop-left.stays c.loop-left-test.true
      c.loop-left.invariant.short c.index-run-left.is c.loop-left.invariant.keeps);
}

pub loop-left-init : goal.loop-left-init
loop-left-init c = record {
  short = omega arith;
  count = ap (λ (b : Book). length b.firsts) c.in_ok-stays.ensures ∙ length-replicate c.args.count 0;
  keeps = subst (λ (b : Book). Keeps b (drop (length c.args.run.now) c.args.run.now)) (sym c.in_ok-stays.ensures)
      (subst (Keeps (blank c.args.count)) (sym (drop_all (length c.args.run.now) c.args.run.now (omega arith)))
      (keeps_none c.args.count));
}
