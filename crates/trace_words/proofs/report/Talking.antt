-- What is said of a text whose verdict stays.
use Rattle.std.proofs.Common.{◌≡◌, ℕ, List, ◌++◌, sym, ◌∙◌, subst}
use Rattle.dover_model.specs.Verdict.{verdict}
use Rattle.dover_port.specs.declared.status.Status.{Status}
use Rattle.dover_port.specs.declared.status.Status.TheVariants.{Done, No, Refused, ReadFault, WriteFault, Memory, Usage}
use Rattle.trace_words.proofs.judge.Talking.{told_same}
use Rattle.trace_words.specs.declared.report.form.Form.{Form}
use Rattle.trace_words.specs.report.Talk.{IsListed, IsTold, SaysReport}

module _ (form : Form) (x y text : List ℕ) (same : verdict (x ++ y) ≡ verdict x) where
  listed_same : IsListed x → IsListed (x ++ y)
  listed_same it S is = it S (sym same ∙ is)

  listed_before : IsListed (x ++ y) → IsListed x
  listed_before it S is = it S (same ∙ is)

  told_so : IsTold form (verdict x) text → IsTold form (verdict (x ++ y)) text
  told_so it = subst (λ v. IsTold form v text) (sym same) it

  pub says_same : (status : Status) → SaysReport form status x text → SaysReport form status (x ++ y) text
  says_same Done it = (told_same x y same Done it.0, listed_same it.1, told_so it.2)
  says_same No it = (told_same x y same No it.0, told_so it.1)
  says_same Refused it = (told_same x y same Done it.0, (λ all. it.1 (listed_before all)), it.2)
  says_same ReadFault it = absurd it
  says_same WriteFault it = absurd it
  says_same Memory it = absurd it
  says_same Usage it = absurd it
