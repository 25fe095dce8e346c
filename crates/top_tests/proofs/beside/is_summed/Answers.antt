use Rattle.dover_model.specs.Fraction.{fraction}
use Rattle.std.proofs.Common.{[], refl, sym, arith}
use Rattle.dover_model.specs.declared.events.Version.TheVariants.{One}
use Rattle.top_tests.proofs.beside.is_summed.Goals as goal

-- a run without a job
pub summary-requires : goal.summary-requires
summary-requires c = (
  record { rules = record { ratio = fraction 1 1; version = One; finishes = [] }; jobs = [] },
  record {
    valid = record { passes = refl };
    listable = record { count = omega arith; total = omega arith; due = omega arith };
    ratio = sym c.in-Some.ensures.facts;
    prints = sym c.steps.ensures;
  },
)
