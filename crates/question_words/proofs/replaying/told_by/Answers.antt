use Rattle.std.proofs.Common.{◌≤◌, ◌∙◌, List, length, refl, sym, ap, subst, get_or, false, arith}
use Rattle.std.specs.List.{fold, list_any}
use Rattle.dover_model.specs.declared.events.Event.{Event}
use Rattle.dover_model.specs.Run.{value_of_end}
use Rattle.dover_model.proofs.runs.Ending.{few_printed}
use Rattle.event_feed.specs.Listing.{listed_instance}
use Rattle.question_words.specs.Loss.{completes}
use Rattle.question_words.proofs.Observations.{seen_observed}
use Rattle.question_words.proofs.replaying.told_by.Goals as goal

pub completed_by-requires : goal.completed_by-requires
completed_by-requires c = subst (λ (es : List Event). length es ≤ 5_000_001) (sym c.requires.run)
    (omega (arith, few_printed (listed_instance c.args.listed.now) c.requires.valid, c.requires.listable.count))

pub served-requires : goal.served-requires
served-requires c = let J = listed_instance c.args.listed.now in (
  J.rules.ratio,
  (
    J,
    record {
      valid = c.requires.valid;
      listable = c.requires.listable;
      ratio = refl;
      prints = sym c.requires.run;
    },
    c.deref.ensures.value,
  ),
)

pub returns-clause-value : goal.returns-clause-value
returns-clause-value c = c.in_ok-completion.ensures.seen.value
    ∙ ap (λ es. fold (λ value e. value_of_end e value) 0 es) c.requires.run

pub returns-clause-done : goal.returns-clause-done
returns-clause-done c = λ n. c.in_ok-completion.ensures.seen.done c.in_ok-completion.ensures.whole n
    ∙ ap (list_any (completes n)) c.requires.run

pub returns-clause-jobs : goal.returns-clause-jobs
returns-clause-jobs c = let J = listed_instance c.args.listed.now in
    c.in_ok-seen.ensures ∙ seen_observed J c.requires.valid c.deref-2.result.now
    (λ n low. ap (λ flags. get_or flags n false) c.deref-2.ensures.value
    ∙ c.in_ok-completion.ensures.seen.done c.in_ok-completion.ensures.whole n
    ∙ ap (list_any (completes n)) c.requires.run)
    c.deref-3.result.now
    (c.deref-3.ensures.value ∙ c.in_ok-served.ensures J.rules.ratio J
    (record {
      valid = c.requires.valid;
      listable = c.requires.listable;
      ratio = refl;
      prints = sym c.requires.run;
    }) c.deref.ensures.value)
    c.deref-4.result.now c.deref-4.ensures.value
