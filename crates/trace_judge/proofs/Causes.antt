-- Why a job line is refused, by the jobs before it and by how many jobs are ready.
use Rattle.std.proofs.Common.{◌≡◌, ℕ, ◌<◌, ◌≤◌, refl, sym, ap, ◌∙◌, subst, Bool, true, false, cond, Option, Some, None}
use Rattle.std.proofs.Common.{arith, nat_lt, ◌==◌, ltb-true, eq-eqb, eqb-true}
use Rattle.std.specs.Bool.{then_some}
use Rattle.std.specs.Option.{option_or}
use Rattle.dover_model.specs.declared.events.Refusal.{Refusal}
use Rattle.dover_model.specs.declared.events.Refusal.TheVariants.{Full}
use Rattle.dover_model.specs.Common.{JobFacts, refusal_of, Session, instance_of, admitted_jobs, is_full, late_refusal}
use Rattle.dover_model.specs.Common.{refusal_in, refusal_at, refused_mark}
use Rattle.dover_model.proofs.sessions.Fullness.{full_in, full_at}
use Rattle.dover_model.proofs.lists.Members.{some_same}
use Rattle.dover_model.proofs.lists.Tests.{none_is_some}
use Rattle.trace_judge.specs.Reads.{refusal_if_full}

-- but for that cause the mark stays
same_mark : (at : ℕ) (j : JobFacts) (cause : Refusal) → (cause ≡ Full → ⊥) → refused_mark at j cause ≡ at
same_mark at j Full other = absurd (other refl)
same_mark at j _ other = refl

module _ (S : Session) (at : ℕ) (j : JobFacts) where
  -- why the jobs before it refuse it
  abbrev alone : Option Refusal
  alone = refusal_of S.rules (admitted_jobs S.items) j

  -- never for that cause
  alone_otherwise : alone ≡ Some Full → ⊥
  alone_otherwise is = none_is_some
      (sym (full_in S j (ap (λ o. option_or o (then_some (is_full (instance_of S) j.release) Full)) is)).0 ∙ is)

  -- so many are ready, where that is the cause
  pub full_there : refusal_at S at j ≡ Some Full → j.release ≡ at → is_full (instance_of S) at ≡ true
  full_there is now = ap (λ t. is_full (instance_of S) t) (sym now) ∙ (full_in S j (full_at S at j is).1).1

  -- where so many are, it is refused for its cause
  pub refused_if_full : (cause : Refusal) → refusal_at S at j ≡ Some cause → refused_mark at j cause ≡ at
      → refusal_if_full S.rules (admitted_jobs S.items) at j ≡ Some cause
  refused_if_full cause is raised = by_late (nat_lt j.release at) is where
    by_alone : (o : Option Refusal) (b : Bool) → option_or o (then_some b Full) ≡ Some cause
        → option_or o (then_some (j.release == at) Full) ≡ Some cause
    by_alone (Some r) b e = e
    by_alone None false e = none_is_some e
    by_alone None true e =
        let now : j.release ≡ at = subst (λ c. refused_mark at j c ≡ at) (sym (some_same Full cause e)) raised in
        ap (λ b. then_some b Full) (eq-eqb j.release at now) ∙ e

    by_late : (b : Bool) → cond b (late_refusal S.rules.version) (refusal_in S j) ≡ Some cause
        → cond b (late_refusal S.rules.version) (option_or alone (then_some (j.release == at) Full)) ≡ Some cause
    by_late true e = e
    by_late false e = by_alone alone (is_full (instance_of S) j.release) e

  -- and where they are if that is its cause, it is refused for it
  pub refused_there : (cause : Refusal) → refusal_if_full S.rules (admitted_jobs S.items) at j ≡ Some cause
      → (cause ≡ Full → is_full (instance_of S) at ≡ true)
      → (refusal_at S at j ≡ Some cause) × (refused_mark at j cause ≡ at)
  refused_there cause is full = by_late (nat_lt j.release at) refl is where
    by_alone : (o : Option Refusal) → alone ≡ o → (b : Bool) → (j.release == at) ≡ b
        → option_or o (then_some b Full) ≡ Some cause
        → (option_or o (then_some (is_full (instance_of S) j.release) Full) ≡ Some cause)
        × (refused_mark at j cause ≡ at)
    by_alone (Some r) one b test e = (e, same_mark at j cause (λ that. alone_otherwise (one ∙ e ∙ ap Some that)))
    by_alone None one false test e = none_is_some e
    by_alone None one true test e =
        let same : Full ≡ cause = some_same Full cause e in
        let now : j.release ≡ at = eqb-true j.release at test in (
          ap (λ b. then_some b Full) (ap (λ t. is_full (instance_of S) t) now ∙ full (sym same)) ∙ e,
          subst (λ c. refused_mark at j c ≡ at) same now,
        )

    by_late : (b : Bool) → nat_lt j.release at ≡ b
        → cond b (late_refusal S.rules.version) (option_or alone (then_some (j.release == at) Full)) ≡ Some cause
        → (cond b (late_refusal S.rules.version) (refusal_in S j) ≡ Some cause) × (refused_mark at j cause ≡ at)
    by_late true late e = (
      e,
      same_mark at j cause (λ that.
          let high : j.release < at = ltb-true j.release at late in
          let low : at ≤ j.release = (full_at S at j
          (ap (λ b. cond b (late_refusal S.rules.version) (refusal_in S j)) late ∙ e ∙ ap Some that)).0 in
          absurd (omega arith)),
    )
    by_late false late e = by_alone alone refl (j.release == at) refl e
