use Rattle.std.proofs.Common.{sym, ap, ◌∙◌}
use Rattle.std.proofs.lemmas.List.Sums.{fold_push}
use Rattle.dover_model.specs.Run.{value_of_end}
use Rattle.trial_words.proofs.Summing.{has_space, totals_with}
use Rattle.trial_words.proofs.tally.RunTallyWatcher.see.Goals as goal

pub add-requires : goal.add-requires
add-requires c = has_space c.requires.0 c.args.event.now c.requires.2 c.args.self.now c.requires.1

pub returns : goal.returns
returns c events counted =
    let totals = totals_with events c.args.event.now c.args.self.now counted c.add.new.self
    c.add.ensures.is c.add.ensures.modest in
    record {
      totals = totals.0;
      value = c.end_value-self.ensures ∙ ap (value_of_end c.args.event.now) counted.value
          ∙ sym (fold_push (λ value e. value_of_end e value) 0 events c.args.event.now);
      modest = totals.1;
    }
