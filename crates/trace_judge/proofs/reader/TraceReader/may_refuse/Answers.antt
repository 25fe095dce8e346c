use Rattle.std.proofs.Common.{◌≡◌, ◌<◌, ◌≤◌, ℕ, List, ◌==◌, ◌∙◌, sym, ap, subst, arith, cond, Option, Some, None}
use Rattle.std.proofs.Common.{lt-ltb, le-ltb}
use Rattle.std.specs.Bool.{then_some}
use Rattle.std.specs.Option.{option_or}
use Rattle.dover_model.specs.Common.{refusal_of, Declaration, JobFacts, job_of_numbers, late_refusal}
use Rattle.dover_model.specs.declared.events.Refusal.{Refusal}
use Rattle.dover_model.specs.declared.events.Refusal.TheVariants.{Full}
use Rattle.dover_model.proofs.lists.Members.{some_same}
use Rattle.dover_model.proofs.lists.Tests.{never}
use Rattle.admission.specs.Kept.{Kept, StandsFor}
use Rattle.trace_judge.specs.Reads.{Reading, refusal_if_full}
use Rattle.trace_judge.proofs.reader.TraceReader.may_refuse.Goals as goal
use Rattle.trace_judge.proofs.reader.TraceReader.may_refuse.Goals.{After-is_same_cause, After-is_late_cause}
use Rattle.trace_judge.proofs.reader.TraceReader.may_refuse.Goals.{After-is_full_cause}

pub returns-then-not-has_room-clause-refuses : goal.returns-then-not-has_room-clause-refuses
returns-then-not-has_room-clause-refuses c clash = never clash

pub returns-then-not-has_room-clause-no : goal.returns-then-not-has_room-clause-no
returns-then-not-has_room-clause-no c _ _ _ room _ _ _ =
    absurd (omega (arith, room, c.has_room.ensures.no c.if-not-has_room.true))

-- ---- a job line that comes too late

-- the cause of a line whose release is before the mark
cause_late : (rules : Declaration) (jobs : List JobFacts) (mark : ℕ) (j : JobFacts) → j.release < mark
    → refusal_if_full rules jobs mark j ≡ late_refusal rules.version
cause_late rules jobs mark j late = ap (λ b. cond b (late_refusal rules.version)
    (option_or (refusal_of rules jobs j) (then_some (j.release == mark) Full))) (lt-ltb j.release mark late)

told_late : (c : After-is_late_cause) (jobs : List JobFacts)
    → refusal_if_full c.args.self.now.kept.rules jobs c.args.at
    (job_of_numbers c.args.release c.args.work c.args.deadline c.args.value)
    ≡ late_refusal c.version-then-release-at.result
told_late c jobs =
    cause_late c.args.self.now.kept.rules jobs c.args.at
    (job_of_numbers c.args.release c.args.work c.args.deadline c.args.value) c.if-release-at.true
    ∙ ap late_refusal
    (sym (c.version-then-release-at.ensures ∙ ap (λ (r : Reading). r.kept.rules.version) c.self.view_is))

pub returns-then-release-at-clause-refuses : goal.returns-then-release-at-clause-refuses
returns-then-release-at-clause-refuses c right jobs _ = told_late c jobs ∙ c.is_late_cause.ensures.0 right

pub returns-then-release-at-clause-no : goal.returns-then-release-at-clause-no
returns-then-release-at-clause-no c wrong _ _ _ jobs _ is =
    never (sym wrong ∙ c.is_late_cause.ensures.1 (sym (told_late c jobs) ∙ is))

-- ---- one that comes in time

-- the cause of a line whose release is at the mark or behind it, where this is the cause after the jobs
cause_then : (k now : Kept) (jobs : List JobFacts) (mark : ℕ) (j : JobFacts) (o : Option Refusal) → k ≡ now
    → mark ≤ j.release → StandsFor now jobs → ((js : List JobFacts) → StandsFor k js → refusal_of k.rules js j ≡ o)
    → refusal_if_full now.rules jobs mark j ≡ option_or o (then_some (j.release == mark) Full)
cause_then k now jobs mark j o same early stands is =
    ap (λ b. cond b (late_refusal now.rules.version)
    (option_or (refusal_of now.rules jobs j) (then_some (j.release == mark) Full))) (le-ltb j.release mark early)
    ∙ ap (λ cause. option_or cause (then_some (j.release == mark) Full))
    (subst (λ (l : Kept). refusal_of l.rules jobs j ≡ o) same
    (is jobs (subst (λ l. StandsFor l jobs) (sym same) stands)))

told_refused : (c : After-is_same_cause) (jobs : List JobFacts) → StandsFor c.args.self.now.kept jobs
    → refusal_if_full c.args.self.now.kept.rules jobs c.args.at
    (job_of_numbers c.args.release c.args.work c.args.deadline c.args.value) ≡ Some c.refusal.result
told_refused c jobs stands =
    cause_then _ _ jobs c.args.at (job_of_numbers c.args.release c.args.work c.args.deadline c.args.value) _
    (ap (λ (r : Reading). r.kept) c.self.view_is) c.if-release-at.false stands c.in-Err.ensures.refusal
    ∙ ap Some (sym c.refusal.ensures)

pub returns-in-Err-clause-no : goal.returns-in-Err-clause-no
returns-in-Err-clause-no c wrong _ _ _ jobs stands is =
    never (sym wrong ∙ c.is_same_cause.ensures.1 (some_same _ _ (sym (told_refused c jobs stands) ∙ is)))

told_full : (c : After-is_full_cause) (jobs : List JobFacts) → StandsFor c.args.self.now.kept jobs
    → refusal_if_full c.args.self.now.kept.rules jobs c.args.at
    (job_of_numbers c.args.release c.args.work c.args.deadline c.args.value)
    ≡ then_some (c.args.release == c.args.at) Full
told_full c jobs stands =
    cause_then _ _ jobs c.args.at (job_of_numbers c.args.release c.args.work c.args.deadline c.args.value) None
    (ap (λ (r : Reading). r.kept) c.self.view_is) c.if-release-at.false stands c.in-Ok.ensures.refusal

pub returns-in-Ok-clause-refuses : goal.returns-in-Ok-clause-refuses
returns-in-Ok-clause-refuses c right jobs stands = told_full c jobs stands ∙ c.is_full_cause.ensures.0 right

pub returns-in-Ok-clause-no : goal.returns-in-Ok-clause-no
returns-in-Ok-clause-no c wrong _ _ _ jobs stands is =
    never (sym wrong ∙ c.is_full_cause.ensures.1 (sym (told_full c jobs stands) ∙ is))
