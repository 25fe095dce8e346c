use Rattle.std.proofs.Common.{◌≡◌, [], Bool, false, length, ap, arith, refl, sym, subst, if◌then◌else◌, Result, Ok, Err}
use Rattle.std.proofs.Common.{OnOk, None, is_err, lt-ltb, le-ltb}
use Rattle.std.proofs.lemmas.Bool.{false≢true}
use Rattle.dover_model.specs.declared.horizon.Horizon.TheVariants.{Mark}
use Rattle.dover_model.specs.Horizons.{no_jobs}
use Rattle.dover_engine.specs.declared.causes.NotMade.TheVariants.{Capacity, Memory}
use Rattle.dover_engine.specs.Life.{life_with}
use Rattle.dover_engine.specs.Given.{Gave}
use Rattle.dover_engine.proofs.Lives.{new_gave}
use Rattle.dover_engine.proofs.engine.Engine.new.Goals as goal

-- what stands where there is no error
on_ok : {A E : Type 0} (o : Result A E) (P : Type 0) → OnOk o P → false ≡ is_err o → P
on_ok (Ok a) P it none = it
on_ok (Err e) P it none = absurd (false≢true none)

pub returns-clause-gave : goal.returns-clause-gave
returns-clause-gave c =
    subst (λ earned. Gave (life_with c.reserve.new.self c.new-2.result (Mark 0) false None 0 earned)
    (no_jobs c.args.version c.args.k) []) (sym c.nothing.ensures)
    (new_gave c.args.version c.args.k c.reserve.new.self c.new-2.result
    (c.reserve.ensures.serves (no_jobs c.args.version c.args.k) (Mark 0) [] c.in-Ok.ensures.serves)
    c.new-2.ensures.stands c.new-2.ensures.rules)

pub invariant_of-result : goal.invariant_of-result
invariant_of-result c = record {
  jobs = no_jobs c.args.version c.args.k;
  events = [];
  gave = returns-clause-gave c;
  numbered_fits = omega (arith, c.new-2.ensures.stands.count);
  earned_fits = omega (arith, c.nothing.ensures);
}

pub returns-clause-paid : goal.returns-clause-paid
returns-clause-paid c now = record {
  since = now;
  before = λ d big. omega arith;
  paid = c.reserve.ensures.paid now now (c.in-Ok.ensures.paid now now (omega arith));
}

pub returns-clause-begins : goal.returns-clause-begins
returns-clause-begins c = refl

pub returns-clause-room : goal.returns-clause-room
returns-clause-room c = omega (
  arith,
  on_ok c.reserve.result _ c.reserve.ensures.room c.if-is_err.ensures.value,
  c.reserve.ensures.few,
  c.in-Ok.ensures.room,
  ap length c.in-Ok.ensures.empty,
  ap length c.reserve.ensures.same,
  c.if-capacity-gt-MOST_READY.false,
)

pub returns-then-capacity-gt-MOST_READY-clause-err : goal.returns-then-capacity-gt-MOST_READY-clause-err
returns-then-capacity-gt-MOST_READY-clause-err c =
    sym (ap (λ (b : Bool). if b then Capacity else Memory) (lt-ltb _ _ c.if-capacity-gt-MOST_READY.true))

pub returns-in_default-clause-err : goal.returns-in_default-clause-err
returns-in_default-clause-err c =
    sym (ap (λ (b : Bool). if b then Capacity else Memory) (le-ltb _ _ c.if-capacity-gt-MOST_READY.false))

pub returns-then-is_err-clause-err : goal.returns-then-is_err-clause-err
returns-then-is_err-clause-err c =
    sym (ap (λ (b : Bool). if b then Capacity else Memory) (le-ltb _ _ c.if-capacity-gt-MOST_READY.false))
