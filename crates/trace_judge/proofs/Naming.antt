-- What the text of a line names behind a session.
use Rattle.std.proofs.Common.{sym, Option, subst, ◌≡◌, ℕ, ◌∷◌, refl, ap, ◌∙◌, Some, None, codes, option_and_then}
use Rattle.std.specs.Option.{option_or}
use Rattle.dover_model.proofs.texts.NoFeeds.{header_short}
use Rattle.dover_model.specs.Common.{AreShort, header, version_number, Declaration, Fraction, IsRatio, ratio_with}
use Rattle.dover_model.specs.Common.{factor_numbers, JobFacts, numbers_of, with_numbers, Session, Item, Printed}
use Rattle.dover_model.specs.Common.{named_item, item_of}
use Rattle.dover_model.specs.declared.factors.Factor.{Factor}
use Rattle.dover_model.specs.declared.events.Event.{Event}
use Rattle.dover_model.specs.declared.events.Event.TheVariants.{Release, Run, Preempt, Take, Complete, Abandon, End}
use Rattle.dover_model.specs.Verdict.{finish_from}
use Rattle.dover_model.proofs.finishes.Early.{finish_in}
use Rattle.dover_model.proofs.traces.Named.{named_text, first_word}
use Rattle.line_text.specs.declared.traces.lines.TraceLine.{TraceLine}
use Rattle.line_text.specs.declared.traces.lines.TraceLine.TheVariants.{Header, Step}
use Rattle.line_text.specs.traces.Form.{HasForm, item_in, trace_text, pair_of}
use Rattle.line_text.proofs.traces.Spelled.{text_read, read_IsRead}

-- the text of a line names its item
pub text_item : (x : TraceLine) → HasForm x → item_of (trace_text x) ≡ item_in x
text_item x form = (read_IsRead (trace_text x) x (text_read x form)).item

-- and behind each session as well
pub item_named : (S : Session) (x : TraceLine) (item : Item) → HasForm x → item_in x ≡ Some item
    → named_item S (trace_text x) ≡ Some item
item_named S x item form is =
    ap (λ o. option_or o (option_and_then (finish_from S) (numbers_of (codes "complete") (trace_text x))))
    (text_item x form ∙ is)

-- the text of a step that is no release names what it finishes
pub step_named : (S : Session) (e : Event) → HasForm (Step e) → item_in (Step e) ≡ None
    → named_item S (trace_text (Step e)) ≡ finish_in S e
step_named S (Release n j) form none = absurd (cc)
step_named S (Run at n) form none = named_text S (Printed (Run at n)) form.0
step_named S (Preempt at stops starts) form none = named_text S (Printed (Preempt at stops starts)) form.0
step_named S (Take at stops starts) form none = named_text S (Printed (Take at stops starts)) form.0
step_named S (Complete at n) form none = named_text S (Printed (Complete at n)) form.0
step_named S (Abandon at n) form none = named_text S (Printed (Abandon at n)) form.0
step_named S (End value) form none = named_text S (Printed (End value)) form.0

-- one that is neither a release nor a completion names nothing
pub quiet_named : (e : Event) → ((n : ℕ) (j : JobFacts) → e ≡ Release n j → ⊥)
    → ((at n : ℕ) → e ≡ Complete at n → ⊥) → HasForm (Step e) → (S : Session)
    → named_item S (trace_text (Step e)) ≡ None
quiet_named (Release n j) released completed form S = absurd (released n j refl)
quiet_named (Run at n) released completed form S = step_named S (Run at n) form refl
quiet_named (Preempt at stops starts) released completed form S = step_named S (Preempt at stops starts) form refl
quiet_named (Take at stops starts) released completed form S = step_named S (Take at stops starts) form refl
quiet_named (Complete at n) released completed form S = absurd (completed at n refl)
quiet_named (Abandon at n) released completed form S = step_named S (Abandon at n) form refl
quiet_named (End value) released completed form S = step_named S (End value) form refl

-- a header names nothing
pub header_named : (S : Session) (v p q : ℕ) (factor : Option (ℕ × ℕ)) → HasForm (Header v p q factor)
    → named_item S (trace_text (Header v p q factor)) ≡ None
header_named S v p q factor form =
    ap (λ o. option_or o (option_and_then (finish_from S)
    (numbers_of (codes "complete") (trace_text (Header v p q factor)))))
    (text_item (Header v p q factor) form)
    ∙ ap (option_and_then (finish_from S)) (first_word (codes "dover") (v ∷ p ∷ q ∷ pair_of factor) refl form)

-- ---- the line of a header

-- the numbers of a factor, if there is one
abbrev pub pair_in : Option Factor → Option (ℕ × ℕ)
pair_in None = None
pair_in (Some f) = Some (f.b, f.c)

-- the line of the header of these rules
abbrev pub header_line : Declaration → TraceLine
header_line rules = Header (version_number rules.version) rules.ratio.p rules.ratio.q (pair_in rules.ratio.factor)

-- the numbers of a factor are those of the pair
pair_back : (o : Option Factor) → pair_of (pair_in o) ≡ factor_numbers o
pair_back None = refl
pair_back (Some f) = refl

-- its text is the header
pub header_text : (rules : Declaration) → trace_text (header_line rules) ≡ header rules
header_text rules = ap (λ ns. with_numbers (codes "dover") (version_number rules.version ∷ rules.ratio.p ∷ rules.ratio.q
    ∷ ns)) (pair_back rules.ratio.factor)

-- and it has a form
pub header_form : (rules : Declaration) → IsRatio rules.ratio → HasForm (header_line rules)
header_form rules ratio = subst (λ ns. AreShort (version_number rules.version ∷ rules.ratio.p ∷ rules.ratio.q ∷ ns))
    (sym (pair_back rules.ratio.factor)) (header_short rules ratio)

-- the ratio of its numbers is the ratio
pub ratio_back : (k : Fraction) → ratio_with k.p k.q (pair_in k.factor) ≡ k
ratio_back k = by k.p k.q k.factor where
  by : (p q : ℕ) (o : Option Factor) → ratio_with p q (pair_in o) ≡ record { p = p; q = q; factor = o }
  by p q None = refl
  by p q (Some f) = refl

-- the text of a header, by the ratio of its numbers
pub with_text : (v p q : ℕ) (factor : Option (ℕ × ℕ)) → trace_text (Header v p q factor)
    ≡ with_numbers (codes "dover") (v ∷ (ratio_with p q factor).p ∷ (ratio_with p q factor).q
    ∷ factor_numbers (ratio_with p q factor).factor)
with_text v p q None = refl
with_text v p q (Some pair) = refl
