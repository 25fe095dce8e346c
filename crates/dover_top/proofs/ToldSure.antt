-- What is promised of tasks that are told sure.
use Rattle.std.proofs.Common.{◌≡◌, ℕ, List, [], ◌∷◌, Bool, true, ap, ◌∙◌, inl, inr, cond, codes, nat_lt}
use Rattle.std.proofs.lemmas.Bool.{and_parts}
use Rattle.dover_model.specs.Common.{Declaration, most_value, with_numbers, is_heavy}
use Rattle.task_laws.specs.Sure.{Stream, stream_at, is_spread}
use Rattle.dover_port.specs.Moves.{Move, ins, outs}
use Rattle.dover_port.specs.declared.status.Status.TheVariants.{Done, Refused}
use Rattle.root_compare.specs.Least.{least_heavy}
use Rattle.task_words.specs.asking.Talk.{tasks_talk}
use Rattle.task_words.specs.declared.asking.question.TaskQuestion.TheVariants as tasks
use Rattle.task_words.specs.reading.Account.{account}
use Rattle.task_words.specs.sure.Lines.{none_line, raise_line, spread_line, sure_line}
use Rattle.task_words.specs.sure.Streams.{is_sure, most_against, streams_of}
use Rattle.task_words.proofs.sure.Promised.{sure_completed}
use Rattle.dover_top.specs.SureTasks.{KeepsSure}

-- a sure task is told so
told_line_is : (rules : Declaration) (streams : List Stream) (x : ℕ)
    → is_sure rules.ratio rules.version streams x ≡ true
    → sure_line rules streams x ≡ with_numbers (codes "sure") (x ∷ most_against rules.version streams x ∷ [])
told_line_is rules streams x sure =
    let against : ℕ = most_against rules.version streams x in
    let both : (is_spread (stream_at streams x) ≡ true)
    × (is_heavy rules.ratio (stream_at streams x).value against ≡ true) =
    and_parts (is_spread (stream_at streams x)) (is_heavy rules.ratio (stream_at streams x).value against) sure in
    ap (λ b. cond b (spread_line rules.ratio streams x against) (none_line x (codes " spread") [])) both.0
    ∙ ap (λ b. cond b (with_numbers (codes "sure") (x ∷ against ∷ []))
    (cond (nat_lt most_value against) (none_line x (codes " limit") [])
    (raise_line rules.ratio streams x against (least_heavy rules.ratio against)))) both.1

pub told_sure : (ended : Bool) (moves : List Move) → (tasks_talk tasks.Sure).answer (ins moves) ended Done (outs moves)
    → KeepsSure moves
told_sure ended moves (inl refused) = absurd (let e : Done ≡ Refused = refused.0 in cc)
told_sure ended moves (inr said) = record {
  rules = said.rules;
  rules_are = said.rules_are;
  text = said.said;
  told = told_line_is said.rules (streams_of (account 0 (ins moves)).tasks);
  completed = λ J of n j valid ratio holds are member own sure.
      sure_completed said.rules.version J (streams_of (account 0 (ins moves)).tasks) of n j valid holds are member own
      (ap (λ k. is_sure k said.rules.version (streams_of (account 0 (ins moves)).tasks) (of n)) ratio ∙ sure);
}
