use Rattle.std.proofs.Common.{◌∙◌, sym}
use Rattle.std.proofs.lemmas.List.{length-set}
use Rattle.task_words.proofs.reading.Read.{none_next, next_read, next_left, all_read}
use Rattle.task_words.proofs.reading.task_fields.five_numbers.Goals as goal

pub returns-in_default-first_number-clause-none : goal.returns-in_default-first_number-clause-none
returns-in_default-first_number-clause-none c = none_next c.loop-at.at c.loop-at.numbers c.loop-at.left c.in-Some.text _
    c.loop-at-test.true c.loop-at.invariant.places c.in-Some.is (sym c.in_default-first_number.ensures.read)
    c.loop-at.invariant.read

pub loop-at-preserved : goal.loop-at-preserved
loop-at-preserved c = record {
  places = length-set c.loop-at.numbers c.loop-at.at c.in-Some-first_number.number ∙ c.loop-at.invariant.places;
  read = next_read c.loop-at.at c.in-Some-first_number.number c.loop-at.numbers c.loop-at.left
      c.in-Some-first_number.rest c.in-Some.text _ c.loop-at-test.true c.loop-at.invariant.places c.in-Some.is
      c.in-Some-first_number.ensures.read c.loop-at.invariant.read;
  left = next_left c.loop-at.at c.in-Some-first_number.number c.loop-at.left c.in-Some-first_number.rest c.in-Some.text
      _ c.loop-at-test.true c.in-Some.is c.in-Some-first_number.ensures.read c.loop-at.invariant.left;
}

pub returns-clause-read : goal.returns-clause-read
returns-clause-read c = all_read c.loop-at.at c.loop-at.numbers c.loop-at.left _ c.loop-at-test.false
    c.loop-at.invariant.places c.loop-at.invariant.read
