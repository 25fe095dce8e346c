-- The answer of what was put.
use Rattle.std.proofs.Common.{◌≡◌, [], ◌++◌, ℕ, List, Bool, Option, Result, Ok, Err, sym, subst, OnOk, OnErr}
use Rattle.dialogue.specs.Talk.{Talk, IsFinal}
use Rattle.dialogue.specs.Turns.{AnswersBy}
use Rattle.dialogue.specs.declared.talker.Stop.{Stop}
use Rattle.dialogue.specs.declared.talker.Stop.TheVariants.{Unwritten}
use Rattle.dover_port.specs.Moves.{Move, PutsThrough}
use Rattle.dover_port.specs.declared.status.Status.{Status}

-- it answers with its status where its text was put whole, and else with what was put
pub answers_with : (t : Talk) (x : List ℕ) (ended : Bool) (status : Status) (text kept : List ℕ)
    (old new : Option (List Move)) → IsFinal status → t.answer x ended status (t.due x ++ text)
    → {T E : Type 0} (put : Result T E) → PutsThrough old new put [] kept text
    → (result : Result Status Stop) → OnOk put (result ≡ Ok status) → OnErr put (result ≡ Err Unwritten)
    → AnswersBy t x ended old new kept result
answers_with t x ended status text kept old new final says (Ok u) puts result ok err =
    subst (AnswersBy t x ended old new kept) (sym ok) (final, (text, says, puts.all))
answers_with t x ended status text kept old new final says (Err e) puts result ok err =
    subst (AnswersBy t x ended old new kept) (sym err) (status, text, says, puts.part)
