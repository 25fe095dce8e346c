use Rattle.std.proofs.Common.{◌≡◌, ◌++◌, ◌∷◌, [], ℕ, append-nil, codes, sym, subst}
use Rattle.dover_model.specs.Text.{refused_line}
use Rattle.dover_port.specs.Moves.{Passes, CutsShort}
use Rattle.dover_port.specs.declared.status.Status.TheVariants.{Refused}
use Rattle.feed_words.specs.resume.Record.{refused_text}
use Rattle.feed_words.specs.resume.Talk.{resume_talk}
use Rattle.feed_words.proofs.resume.resuming.refuse_snapshot.Goals as goal

-- with its line feed the line is the text
refusal_is : (at : ℕ) → refused_line at (codes "snapshot") ++ 10 ∷ [] ≡ refused_text at
refusal_is at = sym (append-nil (refused_line at (codes "snapshot") ++ 10 ∷ []))

pub returns-in-Ok-clause-answers : goal.returns-in-Ok-clause-answers
returns-in-Ok-clause-answers g c = λ a x ended none answer. (
  tt,
  (
    refused_text c.args.line,
    subst (λ l. (resume_talk a).answer x ended Refused (l ++ refused_text c.args.line)) (sym none) answer,
    subst (Passes (g.P.Port.moves c.args.port.now) (g.P.Port.moves c.put_refused.new.port) [] c.put_refused.new.out)
        (refusal_is c.args.line) (rw c.requires.empty at c.in-Ok.ensures.text.all),
  ),
)

pub returns-in-Err-clause-answers : goal.returns-in-Err-clause-answers
returns-in-Err-clause-answers g c = λ a x ended none answer. (
  Refused,
  refused_text c.args.line,
  subst (λ l. (resume_talk a).answer x ended Refused (l ++ refused_text c.args.line)) (sym none) answer,
  subst (CutsShort (g.P.Port.moves c.args.port.now) (g.P.Port.moves c.put_refused.new.port) [])
      (refusal_is c.args.line) (rw c.requires.empty at c.in-Err.ensures.text.part),
)
