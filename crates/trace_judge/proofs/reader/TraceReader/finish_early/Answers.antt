use Rattle.std.proofs.Common.{◌∙◌, sym, ap, refl, arith, is_some}
use Rattle.dover_model.specs.Session.{may_finish_early, finish_at, instance_of}
use Rattle.dover_model.proofs.lists.Tests.{never}
use Rattle.trace_judge.specs.Reads.{Reading}
use Rattle.trace_judge.proofs.Readings.{unchanged_on}
use Rattle.trace_judge.proofs.Completing.{not_early, not_known, not_roomy, not_there, not_right, right_some, right_took}
use Rattle.dover_model.proofs.valid.Limiting.{tick_most}
use Rattle.trace_judge.proofs.reader.TraceReader.finish_early.Goals as goal

pub returns-then-not-may_finish_early-clause-no : goal.returns-then-not-may_finish_early-clause-no
returns-then-not-may_finish_early-clause-no g c _ = not_early c.args.self.now c.requires.going c.args.at c.args.number
    (ap (λ (r : Reading). may_finish_early r.kept.rules.version) (sym c.self.view_is)
    ∙ ap may_finish_early (sym c.version.ensures) ∙ sym c.may_finish_early.ensures ∙ c.if-not-may_finish_early.true)

pub returns-then-not-is_known-clause-no : goal.returns-then-not-is_known-clause-no
returns-then-not-is_known-clause-no g c _ = not_known c.args.self.now c.requires.going c.args.at c.args.number
    (c.is_known.ensures.no c.if-not-is_known.true)

pub returns-then-not-has_room-clause-no : goal.returns-then-not-has_room-clause-no
returns-then-not-has_room-clause-no g c _ = not_roomy c.args.self.now c.requires.going c.args.at c.args.number
    (c.has_room.ensures.no c.if-not-has_room.true)

pub returns-then-not-waits_until-clause-no : goal.returns-then-not-waits_until-clause-no
returns-then-not-waits_until-clause-no g c _ = not_there c.args.self.now c.requires.going c.args.at c.args.number
    (c.waits_until.ensures.no c.if-not-waits_until.true)

pub returns-then-not-is_right-clause-no : goal.returns-then-not-is_right-clause-no
returns-then-not-is_right-clause-no g c _ = not_right c.args.self.now c.requires.going c.args.at c.args.number
    c.waits_until.new.self (c.waits_until.ensures.yes c.if-not-waits_until.false)
    (λ ls S z y waited. sym c.if-not-is_right.true ∙ c.is_right.ensures ls S z y waited
    ∙ ap (λ n. is_some (finish_at (instance_of S) c.args.at n)) c.from.ensures)

pub finish-requires-clause-can : goal.finish-requires-clause-can
finish-requires-clause-can g c = right_some c.args.self.now c.waits_until.new.self c.args.at c.args.number
    c.waits_until.ensures.kept
    (ap (λ (r : Reading). may_finish_early r.kept.rules.version) (sym c.self.view_is)
    ∙ ap may_finish_early (sym c.version.ensures) ∙ sym c.may_finish_early.ensures ∙ c.if-not-may_finish_early.false)
    (c.is_known.ensures.yes c.if-not-is_known.false)
    (c.has_room.ensures.yes c.if-not-has_room.false)
    (c.waits_until.ensures.yes c.if-not-waits_until.false)
    (λ ls S z y waited. sym c.if-not-is_right.false ∙ c.is_right.ensures ls S z y waited
    ∙ ap (λ n. is_some (finish_at (instance_of S) c.args.at n)) c.from.ensures)
    c.requires.going _ c.self.view_is c.self.invariant

pub returns-clause-yes : goal.returns-clause-yes
returns-clause-yes g c _ = right_took c.args.self.now c.waits_until.new.self c.args.at c.args.number
    c.waits_until.ensures.kept
    (ap (λ (r : Reading). may_finish_early r.kept.rules.version) (sym c.self.view_is)
    ∙ ap may_finish_early (sym c.version.ensures) ∙ sym c.may_finish_early.ensures ∙ c.if-not-may_finish_early.false)
    (c.is_known.ensures.yes c.if-not-is_known.false)
    (c.has_room.ensures.yes c.if-not-has_room.false)
    (c.waits_until.ensures.yes c.if-not-waits_until.false)
    (λ ls S z y waited. sym c.if-not-is_right.false ∙ c.is_right.ensures ls S z y waited
    ∙ ap (λ n. is_some (finish_at (instance_of S) c.args.at n)) c.from.ensures)
    c.requires.going c.finish.new.self c.finish.ensures.reads

pub returns-clause-paid : goal.returns-clause-paid
returns-clause-paid g c = λ start paid. c.finish.ensures.paid start _ (c.waits_until.ensures.paid start paid)

pub returns-then-not-may_finish_early-clause-yes : goal.returns-then-not-may_finish_early-clause-yes
returns-then-not-may_finish_early-clause-yes g c clash = never clash

pub returns-then-not-is_known-clause-yes : goal.returns-then-not-is_known-clause-yes
returns-then-not-is_known-clause-yes g c clash = never clash

pub returns-then-not-has_room-clause-yes : goal.returns-then-not-has_room-clause-yes
returns-then-not-has_room-clause-yes g c clash = never clash

pub returns-then-not-has_room-clause-stage : goal.returns-then-not-has_room-clause-stage
returns-then-not-has_room-clause-stage g c _ = c.requires.going

pub returns-then-not-has_room-clause-kept : goal.returns-then-not-has_room-clause-kept
returns-then-not-has_room-clause-kept g c = record { keep = refl; spare = refl; jobs = refl }

pub returns-then-not-waits_until-clause-yes : goal.returns-then-not-waits_until-clause-yes
returns-then-not-waits_until-clause-yes g c clash = never clash

pub returns-then-not-waits_until-clause-ahead : goal.returns-then-not-waits_until-clause-ahead
returns-then-not-waits_until-clause-ahead g c _ = c.waits_until.ensures.ahead

pub returns-then-not-waits_until-clause-kept : goal.returns-then-not-waits_until-clause-kept
returns-then-not-waits_until-clause-kept g c = unchanged_on c.args.self.now c.waits_until.new.self
    c.waits_until.ensures.kept c.waits_until.ensures.course.jobs

pub returns-then-not-waits_until-clause-paid : goal.returns-then-not-waits_until-clause-paid
returns-then-not-waits_until-clause-paid g c = c.waits_until.ensures.paid

pub returns-then-not-is_right-clause-yes : goal.returns-then-not-is_right-clause-yes
returns-then-not-is_right-clause-yes g c clash = never clash

pub returns-then-not-is_right-clause-ahead : goal.returns-then-not-is_right-clause-ahead
returns-then-not-is_right-clause-ahead g c _ = c.waits_until.ensures.ahead

pub returns-then-not-is_right-clause-kept : goal.returns-then-not-is_right-clause-kept
returns-then-not-is_right-clause-kept g c = unchanged_on c.args.self.now c.waits_until.new.self
    c.waits_until.ensures.kept c.waits_until.ensures.course.jobs

pub returns-then-not-is_right-clause-paid : goal.returns-then-not-is_right-clause-paid
returns-then-not-is_right-clause-paid g c = c.waits_until.ensures.paid

pub returns-clause-ahead : goal.returns-clause-ahead
returns-clause-ahead g c clash = never (sym clash)

pub returns-clause-stage : goal.returns-clause-stage
returns-clause-stage g c clash = never (sym clash)

pub finish-requires-clause-going : goal.finish-requires-clause-going
finish-requires-clause-going g c = ap (λ (r : Reading). r.stage) c.waits_until.ensures.kept ∙ c.requires.going

pub waits_until-requires-clause-known : goal.waits_until-requires-clause-known
waits_until-requires-clause-known g c = omega (
  arith,
  c.is_known.ensures.yes c.if-not-is_known.false,
  tick_most c.args.self.now.kept.rules.version,
)
