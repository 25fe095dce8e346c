use Rattle.dover_model.specs.Common.{worth, spread}
use Rattle.clairvoyant.specs.best.Search.{IsFound, IsSearched}
use Rattle.std.proofs.Common.{map, ap, subst, ◌∙◌, Some, None}
use Rattle.clairvoyant.specs.best.BestSet.{renumbered}
use Rattle.clairvoyant.proofs.best.Searching.{something_found, found_best, found_most, found_worth}
use Rattle.clairvoyant.proofs.best.optimum.find.Goals as goal

pub search-requires-clause-choice : goal.search-requires-clause-choice
search-requires-clause-choice c = c.none.ensures.choice c.args.jobs.now

pub unreachable-requires : goal.unreachable-requires
unreachable-requires c = something_found c.args.jobs.now
    (subst (λ numbers. IsSearched c.args.jobs.now numbers 0 0 None) c.none.ensures.numbers
    (subst (IsSearched c.args.jobs.now c.none.result.numbers.items 0 0) c.in_default.is c.in_ok-choice.ensures))

pub returns-clause-chosen : goal.returns-clause-chosen
returns-clause-chosen c = found_best c.args.jobs.now c.in-Some.choice c.requires.count
    (subst (λ numbers. IsSearched c.args.jobs.now numbers 0 0 (Some c.in-Some.choice)) c.none.ensures.numbers
    (subst (IsSearched c.args.jobs.now c.none.result.numbers.items 0 0) c.in-Some.is c.in_ok-choice.ensures))

pub returns-clause-worth : goal.returns-clause-worth
returns-clause-worth c = λ rules.
    ap (λ pieces. worth (record { rules = rules; jobs = c.args.jobs.now }) (spread pieces))
    (c.renumber.ensures ∙ ap (λ numbers. map (renumbered numbers) c.in-Some.choice.pieces.items) c.deref.ensures.value)
    ∙ found_worth c.args.jobs.now c.in-Some.choice c.requires.count
    (subst (λ numbers. IsSearched c.args.jobs.now numbers 0 0 (Some c.in-Some.choice)) c.none.ensures.numbers
    (subst (IsSearched c.args.jobs.now c.none.result.numbers.items 0 0) c.in-Some.is c.in_ok-choice.ensures)) rules

pub returns-clause-most : goal.returns-clause-most
returns-clause-most c = found_most c.args.jobs.now c.in-Some.choice
    (subst (λ numbers. IsSearched c.args.jobs.now numbers 0 0 (Some c.in-Some.choice)) c.none.ensures.numbers
    (subst (IsSearched c.args.jobs.now c.none.result.numbers.items 0 0) c.in-Some.is c.in_ok-choice.ensures))

-- what the search found
found : (c : goal.After-drop-choice) → IsFound c.args.jobs.now c.none.result.numbers.items 0 0 c.in-Some.choice
found c = subst (IsSearched c.args.jobs.now c.none.result.numbers.items 0 0) c.in-Some.is c.in_ok-choice.ensures

pub returns-clause-value : goal.returns-clause-value
returns-clause-value c = (found c).choice.value
