-- The trace of a valid session is accepted, and so is what is due for a feed that has ended.
use Rattle.std.proofs.Common.{◌≡◌, ℕ, List, [], ◌∷◌, ◌++◌, length, refl, sym, ap, ◌∙◌, subst, Bool, true, false, cond}
use Rattle.std.proofs.Common.{◌&&◌, ◌||◌, Option, Some, None, suc, nat_lt, append_assoc, append-nil}
use Rattle.std.specs.Option.{option_map_or}
use Rattle.dover_model.specs.Common.{is_too_long, in_lines, Session, instance_of, IsValidSession, printed, trace_lines}
use Rattle.dover_model.specs.Common.{trace_of_session, texts_among, Standing, Open, Ended, Faulty, Account, is_ended}
use Rattle.dover_model.specs.Common.{account, due_lines, due, Verdict, Accepted, ends_with_end, is_empty, begins_trace}
use Rattle.dover_model.specs.Common.{named_session, first_wrong, good_verdict, wrong_verdict, verdict, text_lines}
use Rattle.dover_model.specs.Common.{Begins}
use Rattle.dover_model.specs.Verdict.{Short}
use Rattle.dover_model.proofs.texts.Cuts.{CutText}
use Rattle.dover_model.proofs.traces.Named.{trace_names_session, trace_cut, beginnings_pass}
use Rattle.dover_model.proofs.traces.TraceEnds.{trace_ends}
use Rattle.dover_model.proofs.sessions.Accounts.{HoldsBy, account_kept}
use Rattle.dover_model.proofs.lists.Tests.{never}

-- the lines of a cut text
abbrev pub lines_of_cut : CutText → List (List ℕ)
lines_of_cut c = c.0 ++ cond (is_too_long c.1 || (nat_lt 0 (length c.1) && ends_with_end c.0)) (c.1 ∷ []) []

-- the verdict of a cut text of which no line is wrong
abbrev good_of_cut : CutText → Verdict
good_of_cut c = cond (ends_with_end c.0 && is_empty c.1)
    (option_map_or Accepted (named_session c.0) (Short (length c.0))) (Short (length c.0))

-- where each beginning begins a trace, none is wrong
pub none_wrong : (before ls : List (List ℕ))
    → ((front : List (List ℕ)) → Begins front (before ++ ls) → begins_trace front ≡ true)
    → first_wrong before ls ≡ None
none_wrong before [] pass = refl
none_wrong before (l ∷ ls) pass =
    ap (λ b. by_test b) (pass (before ++ l ∷ []) (ls, sym (append_assoc before (l ∷ []) ls)))
    ∙ none_wrong (before ++ l ∷ []) ls
    (λ front begins. pass front (begins.0, sym (append_assoc before (l ∷ []) ls) ∙ begins.1)) where
      by_test : Bool → Option ℕ
      by_test b = elim b [ true ↦ first_wrong (before ++ l ∷ []) ls | false ↦ Some (suc (length before)) ]

-- the trace of a valid session is accepted, with the session
pub trace_accepted : (S : Session) → IsValidSession S → verdict (trace_of_session S) ≡ Accepted S
trace_accepted S valid =
    let text : List ℕ = trace_of_session S in
    let lines : text_lines text ≡ trace_lines S = ap lines_of_cut (trace_cut S valid) ∙ append-nil (trace_lines S) in
    let none : first_wrong [] (text_lines text) ≡ None = ap (first_wrong []) lines
    ∙ none_wrong [] (trace_lines S) (λ front begins. beginnings_pass S front valid begins) in
    let good : good_verdict text ≡ Accepted S = ap good_of_cut (trace_cut S valid)
    ∙ ap (λ b. cond (b && true)
    (option_map_or Accepted (named_session (trace_lines S)) (Short (length (trace_lines S))))
    (Short (length (trace_lines S)))) (trace_ends S valid)
    ∙ ap (λ o. option_map_or Accepted o (Short (length (trace_lines S)))) (trace_names_session S valid) in
    ap (λ o. option_map_or (wrong_verdict text) o (good_verdict text)) none ∙ good

-- ---- feeds

-- a session, which the account has: it is valid, and its trace is due
pub record Hands (a : Account) : Type 0 where
  pub session : Session
  pub has : a.session ≡ Some session
  pub valid : IsValidSession session
  pub due : in_lines (due_lines a) ≡ trace_of_session session

-- an account that has ended hands in a valid session
ended_hands : (lines : ℕ) (session : Option Session) (mark : ℕ) (standing : Standing)
    → HoldsBy standing session mark lines
    → is_ended (record { lines = lines; session = session; mark = mark; standing = standing }) ≡ true
    → Hands (record { lines = lines; session = session; mark = mark; standing = standing })
ended_hands lines session mark Open kept ended = never ended
ended_hands lines session mark (Faulty line cause) kept ended = never ended
ended_hands lines None mark Ended kept ended = absurd kept
ended_hands lines (Some S) mark Ended kept ended =
    record {
      session = S;
      has = refl;
      valid = kept.valid;
      due =
          ap in_lines (append-nil (texts_among S (printed (instance_of S))));
    }

-- a feed that has ended hands in a valid session
pub feed_hands : (F : List ℕ) → is_ended (account F) ≡ true → Hands (account F)
feed_hands F ended = ended_hands (account F).lines (account F).session
    (account F).mark (account F).standing (account_kept F) ended

-- what is due for a feed that has ended is accepted, with the session of the feed
pub feed_accepted : (F : List ℕ) (S : Session) → is_ended (account F) ≡ true
    → (account F).session ≡ Some S
    → IsValidSession S × (due F ≡ trace_of_session S) × (verdict (due F) ≡ Accepted S)
feed_accepted F S ended has =
    let it : Hands (account F) = feed_hands F ended in
    let same : it.session ≡ S = (let one : Some it.session ≡ Some S = sym it.has ∙ has in cc) in
    let valid : IsValidSession S = subst IsValidSession same it.valid in
    let trace : due F ≡ trace_of_session S = it.due ∙ ap trace_of_session same in (
      valid,
      trace,
      ap verdict trace
          ∙ trace_accepted S valid,
    )
