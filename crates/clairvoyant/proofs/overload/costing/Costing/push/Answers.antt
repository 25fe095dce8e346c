use Rattle.std.proofs.Common.{◌≤◌, ◌<◌, ◌-◌, ◌+◌, ◌++◌, ◌∷◌, ◌∙◌, [], ℕ, sym, ap, subst, arith, sum_by}
use Rattle.dover_model.specs.Common.{Each, work_inside}
use Rattle.dover_model.proofs.lists.Members.{each_behind}
use Rattle.clairvoyant.specs.declared.overload.stretch.Stretch.{Stretch}
use Rattle.clairvoyant.specs.overload.Collecting.{HasRoomWithin}
use Rattle.clairvoyant.specs.overload.Stretches.{AreInOrder, IsReached, IsStretch, MeetsSome, most_sets, sets_in}
use Rattle.clairvoyant.specs.overload.Stretches.{value_outside}
use Rattle.clairvoyant.proofs.overload.Filling.{meets_behind}
use Rattle.clairvoyant.proofs.overload.Outside.{order_behind, less_left, sum_less, ended_later, never_empty}
use Rattle.clairvoyant.proofs.overload.Sets.{sets_left, all_reached}
use Rattle.clairvoyant.proofs.overload.costing.Costing.push.Goals as goal

pub overflow_sub-self-2 : goal.overflow_sub-self-2
overflow_sub-self-2 c = less_left _ _ _ _ c.requires.each c.requires.costed.ended
    (omega (arith, c.in_ok-x.ensures.from, c.requires.first.later)) _ c.in_ok-x.ensures.stretch c.requires.costed.sum

pub returns-clause-costed : goal.returns-clause-costed
returns-clause-costed c =
    let jobs = c.args.jobs.now in
    let was = c.args.self.now in
    let xs = was.costed.stretches.items in
    let y = c.in_ok-x.x in
    let it = c.in_ok-x.ensures.stretch in
    let same = c.in_ok-push.ensures.items in
    let late : was.at ≤ y.from = omega (arith, c.in_ok-x.ensures.from, c.requires.first.later) in record {
      total = c.requires.costed.total;
      in_order = subst AreInOrder (sym same)
          (order_behind xs y was.at c.requires.costed.in_order c.requires.costed.ended late);
      begun = λ none. never_empty xs y (sym same ∙ none);
      low = c.requires.first.within;
      ended = subst (λ t. Each (λ (x : Stretch). x.until ≤ t) c.push.new.self.items) c.in_ok-x.ensures.until
          (subst (Each (λ (x : Stretch). x.until ≤ y.until)) (sym same)
          (ended_later _ _ _ _ c.requires.each c.requires.costed.ended late it.some));
      each = subst (Each (IsStretch jobs)) (sym same) (each_behind (IsStretch jobs) xs y c.requires.costed.each it);
      sum = sum_less jobs xs y was.at c.requires.each c.requires.costed.ended late was.costed.cap it
          c.requires.costed.sum
          ∙ ap (λ l. value_outside jobs l + sum_by (λ x. x.cap) l) (sym same);
      meets = subst (λ l. (a b : ℕ) → a < c.args.ticks.until → b - a < work_inside jobs a b → MeetsSome l a b)
          (sym same)
          (subst (λ t. (a b : ℕ) → a < t → b - a < work_inside jobs a b
          → MeetsSome (c.args.self.now.costed.stretches.items ++ c.in_ok-x.x ∷ []) a b) c.in_ok-x.ensures.until
          (meets_behind jobs c.requires.each xs y was.at c.requires.costed.meets
          (subst (HasRoomWithin jobs was.at) (sym c.in_ok-x.ensures.from) c.requires.first.before)));
      left = subst (λ l. most_sets ≤ c.stretch.new.sets + sets_in jobs l) (sym same)
          (sets_left jobs xs y was.sets c.stretch.new.sets c.requires.costed.left c.in_ok-x.ensures.spent);
      few = subst (λ l. sets_in jobs l ≤ most_sets → Each (IsReached jobs) l) (sym same)
          (all_reached jobs xs y was.sets c.requires.costed.left c.requires.costed.few c.in_ok-x.ensures.reached);
    }
