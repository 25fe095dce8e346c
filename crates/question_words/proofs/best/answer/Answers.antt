use Rattle.std.proofs.Common.{◌≡◌, ◌≤◌, ◌∙◌, refl, length, ap, sym, subst, codes, arith}
use Rattle.dover_model.specs.Common.{bound, IsInOrder, last_deadline, last_tick_in}
use Rattle.dover_model.specs.declared.events.Version.TheVariants.{Two}
use Rattle.dover_model.proofs.lists.Tests.{never}
use Rattle.dialogue.specs.Talk.{IsFinal}
use Rattle.event_feed.specs.Listing.{listed_instance}
use Rattle.question_words.specs.Best.{SaysBest}
use Rattle.question_words.specs.Texts.{piece_lines, text_of}
use Rattle.question_words.proofs.Comparing.{value_short}
use Rattle.question_words.proofs.Finding.{found}
use Rattle.question_words.proofs.Lines.{four_written}
use Rattle.question_words.proofs.Observations.{observed_in_order, observed_count, observed_due}
use Rattle.question_words.proofs.best.answer.Goals as goal

pub observe-requires-clause-listable : goal.observe-requires-clause-listable
observe-requires-clause-listable g c = (c.if-not-is_sought.ensures.0 refl).1

pub best-requires-clause-in_order : goal.best-requires-clause-in_order
best-requires-clause-in_order g c = subst IsInOrder (sym (c.deref.ensures.value ∙ c.in_ok-value.ensures.jobs))
    (observed_in_order (listed_instance c.args.listed) c.requires.valid)

pub best-requires-clause-due : goal.best-requires-clause-due
best-requires-clause-due g c = subst (λ js. last_deadline js ≤ last_tick_in Two)
    (sym (c.deref.ensures.value ∙ c.in_ok-value.ensures.jobs))
    (omega (
      arith,
      observed_due (listed_instance c.args.listed) c.requires.valid,
      (c.if-not-is_sought.ensures.0 refl).1.due,
    ))

pub put_bound-requires-clause-value : goal.put_bound-requires-clause-value
put_bound-requires-clause-value g c = value_short (listed_instance c.args.listed) c.requires.valid
    (c.if-not-is_sought.ensures.0 refl).1 _ c.in_ok-value.ensures.value

pub returns-clause-says : goal.returns-clause-says
returns-clause-says g c =
    let best = c.in-Ok.best in
    let J = listed_instance c.args.listed in
    let count : c.len.result ≡ length c.args.listed.jobs.items =
    omega (
      arith,
      c.len.ensures,
      c.in_ok-value.jobs.ok.0,
      ap length c.in_ok-value.ensures.jobs,
      observed_count J c.requires.valid,
    ) in
    found J c.requires.valid c.deref.result.now (c.deref.ensures.value ∙ c.in_ok-value.ensures.jobs) best.chosen.items
    c.len.result best.value c.in_ok-value.value (bound J.rules.ratio c.in_ok-value.value) best.pieces.items
    (record {
      best = c.in-Ok.ensures.chosen;
      value = c.in-Ok.ensures.value;
      are = c.in-Ok.ensures.pieces;
      earned = c.in-Ok.ensures.worth;
      most = c.in-Ok.ensures.most;
    }) count c.in_ok-value.ensures.value refl
    (c.if-not-is_sought.ensures.0 refl) _
    (four_written (codes "jobs") (codes "optimum") (codes "value") (codes "bound") c.len.result best.value
    c.in_ok-value.value (bound J.rules.ratio c.in_ok-value.value) (piece_lines best.pieces.items) c.new-head.result
    c.put_bound.new.head c.put_with_wide.new.self c.put_with_wide-2.new.self c.put_with_wide-3.new.self
    c.new-head.ensures c.put_bound.ensures.is c.put_with_wide.ensures.is c.put_with_wide-2.ensures.is
    c.put_with_wide-3.ensures.is)

pub put_bound-requires-clause-fits : goal.put_bound-requires-clause-fits
put_bound-requires-clause-fits g c = omega (arith, ap length c.new-head.ensures)

pub put_with_wide-requires : goal.put_with_wide-requires
put_with_wide-requires g c = omega (arith, c.put_bound.ensures.size, ap length c.new-head.ensures)

pub put_with_wide-requires-2 : goal.put_with_wide-requires-2
put_with_wide-requires-2 g c = omega (
  arith,
  c.put_bound.ensures.size,
  c.put_with_wide.ensures.size,
  ap length c.new-head.ensures,
)

pub put_with_wide-requires-3 : goal.put_with_wide-requires-3
put_with_wide-requires-3 g c = omega (
  arith,
  c.put_bound.ensures.size,
  c.put_with_wide.ensures.size,
  c.put_with_wide-2.ensures.size,
  ap length c.new-head.ensures,
)

pub returns-in_default-clause-count : goal.returns-in_default-clause-count
returns-in_default-clause-count g c = c.observe.ensures.count

pub returns-clause-count : goal.returns-clause-count
returns-clause-count g c = c.observe.ensures.count

pub returns-then-not-is_sought-clause-says : goal.returns-then-not-is_sought-clause-says
returns-then-not-is_sought-clause-says g c =
    subst (λ status. SaysBest (listed_instance c.args.listed) status (text_of c.too_many.result))
    (sym c.too_many.ensures.status)
    (λ few. never (sym c.if-not-is_sought.true ∙ c.is_sought.ensures.1 few), c.too_many.ensures.text)

pub returns-then-not-is_sought-clause-ends : goal.returns-then-not-is_sought-clause-ends
returns-then-not-is_sought-clause-ends g c = subst IsFinal (sym c.too_many.ensures.status) tt

pub returns-clause-ends : goal.returns-clause-ends
returns-clause-ends g c = tt
