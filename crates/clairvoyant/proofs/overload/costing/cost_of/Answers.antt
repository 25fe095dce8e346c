use Rattle.std.proofs.Common.{◌≡◌, ◌+◌, ◌≤◌, ◌∙◌, refl, sym, subst, arith, sum_by}
use Rattle.dover_model.specs.Common.{Each, total_value}
use Rattle.clairvoyant.specs.declared.overload.stretch.Stretch.{Stretch}
use Rattle.clairvoyant.specs.overload.Stretches.{AreInOrder, Caps, IsReached, IsStretch, value_outside}
use Rattle.clairvoyant.proofs.overload.Filling.{meets_all}
use Rattle.clairvoyant.proofs.overload.NoneMet.{none_met}
use Rattle.clairvoyant.proofs.overload.Stretching.{caps_all}
use Rattle.clairvoyant.proofs.overload.costing.cost_of.Goals as goal

-- no stretch is known
pub find-requires-clause-costed : goal.find-requires-clause-costed
find-requires-clause-costed c =
    let jobs = c.args.jobs.now in
    let none = sym c.new.ensures.items in record {
      total = c.total_value-total.ensures.is;
      in_order = subst AreInOrder none tt;
      begun = λ _. refl;
      low = omega arith;
      ended = subst (Each (λ (x : Stretch). x.until ≤ 0)) none (λ x member. absurd member);
      each = subst (Each (IsStretch jobs)) none (λ x member. absurd member);
      sum = c.total_value-total.ensures.is
          ∙ subst (λ xs. total_value jobs ≡ value_outside jobs xs + sum_by (λ (x : Stretch). x.cap) xs) none
          (omega arith);
      meets = λ a b low over. absurd (omega (arith, low));
      left = omega arith;
      few = λ _. subst (Each (IsReached jobs)) none (λ x member. absurd member);
    }

pub returns : goal.returns
returns c =
    let jobs = c.args.jobs.now in
    let it = c.find.new.self in
    let has = c.in_ok-find.ensures.costed in record {
      total = has.total;
      in_order = has.in_order;
      each = has.each;
      sum = has.sum;
      most = subst (Caps jobs) (sym has.sum) (caps_all _ _ (λ x member. (has.each x member).cap));
      none = (c.in_ok-find.ensures.met, none_met jobs it.costed.stretches.items has.each);
      meets = meets_all jobs it.costed.stretches.items it.at has.meets c.in_ok-find.ensures.room;
      few = has.few;
    }
