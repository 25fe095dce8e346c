-- What is promised of tasks whose jobs can be met for all time, and of those whose jobs can't.
use Rattle.std.proofs.Common.{◌≡◌, ℕ, List, [], ◌∷◌, ◌++◌, Bool, arith, inl, inr}
use Rattle.dover_port.specs.Moves.{Move, ins, outs}
use Rattle.dover_port.specs.declared.status.Status.TheVariants.{Done, No, Refused}
use Rattle.task_laws.proofs.demand.Demanding.{demand_unmet, met_none_lost}
use Rattle.demand_words.specs.Demanded.{Tells}
use Rattle.demand_words.specs.Says.{status_of, told_line}
use Rattle.demand_words.specs.Talk.{demand_talk}
use Rattle.demand_words.specs.declared.answers.Demand.{Demand}
use Rattle.demand_words.specs.declared.answers.Demand.TheVariants.{Met, Window, Over, Size}
use Rattle.demand_words.proofs.Limited.{window_unmet}
use Rattle.dover_top.specs.FeasibleTasks.{KeepsMet, KeepsUnmet, tasks_in}

-- `Done` is the status of `met` alone
met_so : (moves : List Move) (told : Demand) → Tells (tasks_in moves) told → Done ≡ status_of told
    → outs moves ≡ told_line told ++ 10 ∷ [] → KeepsMet moves
met_so moves Met tells is text = record {
  text = text;
  whole = λ J of valid ask. met_none_lost (tasks_in moves) of J ask valid tells;
}
met_so moves (Window ticks work) tells is text = absurd (let e : Done ≡ No = is in cc)
met_so moves Over tells is text = absurd (let e : Done ≡ No = is in cc)
met_so moves Size tells is text = absurd (let e : Done ≡ Refused = is in cc)

-- and `No` that of a window, and of `over`
unmet_so : (moves : List Move) (told : Demand) → Tells (tasks_in moves) told → No ≡ status_of told
    → outs moves ≡ told_line told ++ 10 ∷ [] → KeepsUnmet moves
unmet_so moves Met tells is text = absurd (let e : No ≡ Done = is in cc)
unmet_so moves (Window ticks work) tells is text = inl (record {
  ticks = ticks;
  work = work;
  text = text;
  unmet = λ rules. window_unmet (tasks_in moves) rules ticks work tells.0 tells.1;
})
unmet_so moves Over tells is text = inr (record {
  text = text;
  ticks = (tells 0).0;
  unmet = λ rules. demand_unmet (tasks_in moves) (tells 0).0 rules (let it = (tells 0).1 in omega (arith, it));
})
unmet_so moves Size tells is text = absurd (let e : No ≡ Refused = is in cc)

pub told_met : (ended : Bool) (moves : List Move) → demand_talk.answer (ins moves) ended Done (outs moves)
    → KeepsMet moves
told_met ended moves (inl refused) = absurd (let e : Done ≡ Refused = refused.0 in cc)
told_met ended moves (inr it) = met_so moves it.said.0 it.said.1 it.said.2 it.said.3

pub told_unmet : (ended : Bool) (moves : List Move) → demand_talk.answer (ins moves) ended No (outs moves)
    → KeepsUnmet moves
told_unmet ended moves (inl refused) = absurd (let e : No ≡ Refused = refused.0 in cc)
told_unmet ended moves (inr it) = unmet_so moves it.said.0 it.said.1 it.said.2 it.said.3
