use Rattle.std.proofs.Common.{◌∙◌, sym, ap}
use Rattle.trace_judge.specs.Reads.{Reading}
use Rattle.trace_judge.proofs.Taking.{no_version, no_ratio, no_declaration, opened_took, opened_reader}
use Rattle.trace_judge.proofs.reader.TraceReader.open_with.Goals as goal

pub returns-in_default-clause-took : goal.returns-in_default-clause-took
returns-in_default-clause-took c =
    no_version c.args.self.now c.requires.opening c.args.version c.args.p c.args.q c.args.factor c.requires.form
    (sym c.from_number.ensures ∙ c.in_default.is)

pub returns-in_default-of_numbers-clause-took : goal.returns-in_default-of_numbers-clause-took
returns-in_default-of_numbers-clause-took c =
    no_ratio c.args.self.now c.requires.opening c.args.version c.args.p c.args.q c.args.factor c.requires.form
    c.in_default-of_numbers.ensures.none

pub returns-then-not-may_declare-clause-took : goal.returns-then-not-may_declare-clause-took
returns-then-not-may_declare-clause-took c =
    no_declaration c.args.self.now c.requires.opening c.args.version c.args.p c.args.q c.args.factor c.requires.form
    c.in-Some.version c.in-Some-of_numbers.ratio (sym c.from_number.ensures ∙ c.in-Some.is)
    c.in-Some-of_numbers.ensures.some.0 (sym c.may_declare.ensures ∙ c.if-not-may_declare.true)

pub invariant_of-self : goal.invariant_of-self
invariant_of-self c = opened_reader _ (ap (λ (r : Reading). r.stage) c.self.view_is ∙ c.requires.opening) c.args.version
    c.args.p c.args.q c.args.factor c.requires.form
    c.in-Some.version c.in-Some-of_numbers.ratio
    (sym c.from_number.ensures ∙ c.in-Some.is) c.in-Some-of_numbers.ensures.some
    (sym c.may_declare.ensures ∙ c.if-not-may_declare.false) c.declare.new.self
    c.new-self-inside.result c.declare.ensures.rules c.new-self-inside.ensures.rules c.new-self-inside.ensures.stands
    c.self.invariant

pub returns-clause-took : goal.returns-clause-took
returns-clause-took c = opened_took _ (ap (λ (r : Reading). r.stage) c.self.view_is ∙ c.requires.opening) c.args.version
    c.args.p c.args.q c.args.factor c.requires.form
    c.in-Some.version c.in-Some-of_numbers.ratio
    (sym c.from_number.ensures ∙ c.in-Some.is) c.in-Some-of_numbers.ensures.some
    (sym c.may_declare.ensures ∙ c.if-not-may_declare.false) c.declare.new.self
    c.new-self-inside.result c.declare.ensures.rules c.new-self-inside.ensures.rules
    c.new-self-inside.ensures.stands _ c.self.view_is
