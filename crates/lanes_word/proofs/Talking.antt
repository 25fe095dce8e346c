-- Lanes that are served, as a talk.
use Rattle.std.proofs.Common.{◌≡◌, ◌<◌, ◌≤◌, ◌^◌, ◌-◌, ℕ, List, [], ◌∷◌, ◌++◌, length, refl, sym, ap, ◌∙◌, arith}
use Rattle.std.proofs.Common.{Bool, true, false, cond, append-nil, take, Result, Ok, Err, OnOk}
use Rattle.std.proofs.lemmas.List.{length-map}
use Rattle.std.proofs.lemmas.List.Folds.{flat_map-map}
use Rattle.dover_model.specs.declared.Memory.{Memory}
use Rattle.dover_model.specs.Lines.{in_lines, whole_lines}
use Rattle.dover_model.proofs.lists.Beginnings.{in_lines-append}
use Rattle.dover_model.proofs.lists.Tests.{never}
use Rattle.dover_port.specs.declared.status.Status.TheVariants.{Done, Refused}
use Rattle.dialogue.specs.Talk.{IsSteady, IsFinal}
use Rattle.dialogue.specs.Turns.{joined, Standing, TakesBy}
use Rattle.lane_server.specs.Lanes.{Input, InputStanding, Open, Closed, Faulty, Handed, input, goes_on_at, goes_on}
use Rattle.lane_server.specs.Lanes.{due_after, lane_due, lane_count, shorts_from, closing_lines, lanes_closed}
use Rattle.lane_server.specs.Lanes.{all_ended}
use Rattle.lane_server.specs.Kept.{Kept, StandsFor}
use Rattle.lane_server.specs.LaneInput.{Grows, Takes}
use Rattle.lane_server.specs.declared.lane_input.LaneInput.{LaneInput}
use Rattle.lane_server.proofs.Inputs.{input_stays, due_grows, line_grows_on}
use Rattle.lanes_word.specs.Talk.{closing_status, lanes_talk}
use Rattle.lane_server.specs.Spending.{HavePaid}
use Rattle.lanes_word.specs.Keeping.{parts_of, IsGiving, Costs}

-- ---- bytes behind the end

-- an input that doesn't go on has its closing lines whatever comes
closing_same : (n m : ℕ) (a : Input) → goes_on a ≡ false → closing_lines n a ≡ closing_lines m a
closing_same n m a over = by a.standing over where
  by : (s : InputStanding) → goes_on_at s ≡ false
      → closing_lines n (record a { standing = s }) ≡ closing_lines m (record a { standing = s })
  by Open over = never (sym over)
  by Closed over = refl
  by (Faulty line fault) over = refl

-- and its whole text
closed_stays : (x y : List ℕ) → goes_on (input x) ≡ false → lanes_closed (x ++ y) ≡ lanes_closed x
closed_stays x y over =
    ap (λ (a : Input). in_lines (due_after [] a.handed)
    ++ in_lines (closing_lines (length (whole_lines (x ++ y))) a)) (input_stays x y over)
    ∙ ap (λ ls. lane_due x ++ in_lines ls)
    (closing_same (length (whole_lines (x ++ y))) (length (whole_lines x)) (input x) over)

pub steady : IsSteady lanes_talk
steady = record {
  opens = refl;
  nothing = refl;
  grows = due_grows;
  stays = λ x y over. ap goes_on (input_stays x y over) ∙ over;
  answered = λ x y status text over it.
      (it.0 ∙ ap closing_status (sym (input_stays x y over)), it.1 ∙ sym (closed_stays x y over));
  lacking = λ x y it. (it.0, line_grows_on x y it.1);
}

-- ---- parts

-- the text of the parts of lines
joined_lines : (ls : List (List ℕ)) → joined (parts_of ls) ≡ in_lines ls
joined_lines ls = flat_map-map (λ part. part) (λ line. line ++ 10 ∷ []) ls

-- as many as lines
pub few_parts : (left parts : List (List ℕ)) → parts ≡ parts_of left → length left ≤ 20_000_000_002
    → length parts < 2 ^ 64 - 1
few_parts left parts is few = omega (
  arith,
  few,
  ap (λ (l : List (List ℕ)). length l) is,
  length-map left (λ (l : List ℕ). l ++ 10 ∷ []),
)

-- what is newly due
due_parts : (before after : List Handed) (left : List (List ℕ)) → Grows before after left
    → in_lines (due_after [] after) ≡ in_lines (due_after [] before) ++ joined (parts_of left)
due_parts before after left grows = ap in_lines grows ∙ in_lines-append (due_after [] before) left
    ∙ ap (λ l. in_lines (due_after [] before) ++ l) (sym (joined_lines left))

-- the lanes took these lines, and these parts are left to give, whatever came before
abbrev pub left_in : Kept → List (List ℕ) → Standing
left_in kept ls = λ x parts. (left : List (List ℕ)) × (parts ≡ parts_of left)
    × StandsFor kept ls left

-- the talk goes on behind a front of a piece
pub takes : (start : ℕ) (i : LaneInput) (steps : ℕ) (x piece : List ℕ) (result : Result ℕ Memory)
    → Takes i x piece result → OnOk result (HavePaid i.lanes.lanes start steps) → Costs start steps (x ++ piece)
    → TakesBy lanes_talk (IsGiving start i steps) (Costs start steps) x piece result
takes start i steps x piece (Ok count) it paid costs = (
  it.0,
  it.1,
  (
    parts_of it.2.0,
    due_parts (input x).handed (input (x ++ take count piece)).handed it.2.0 it.2.1,
    record { gives = (it.2.0, refl, it.2.2); paid = paid },
  ),
)
takes start i steps x piece (Err e) it paid costs = ((refl, it), costs)

-- ---- the answer

-- a session that was closed is done or refused
pub final : (b : Bool) → IsFinal (cond b Done Refused)
final true = tt
final false = tt

module _ (x : List ℕ) where
  module _ (closed : (input x).standing ≡ Closed) where
    -- its status
    pub closed_status : (fine : Bool) → fine ≡ all_ended (input x).handed
        → cond fine Done Refused ≡ closing_status (input x)
    closed_status fine is = ap (λ b. cond b Done Refused) is
        ∙ sym (ap (λ s. closing_status (record (input x) { standing = s })) closed)

    -- its short lines are all the rest of its text
    pub closed_text : lane_due x ++ joined (parts_of (shorts_from (input x).handed 0 lane_count)) ≡ lanes_closed x
    closed_text = ap (λ l. lane_due x ++ l) (joined_lines (shorts_from (input x).handed 0 lane_count))
        ∙ ap (λ s. lane_due x ++ in_lines
        (closing_lines (length (whole_lines x)) (record (input x) { standing = s }))) (sym closed)

  -- one that wasn't is refused
  pub refused_status : ((input x).standing ≡ Closed → ⊥) → Refused ≡ closing_status (input x)
  refused_status unclosed = by (input x).standing unclosed where
    by : (s : InputStanding) → (s ≡ Closed → ⊥) → Refused ≡ closing_status (record (input x) { standing = s })
    by Open none = refl
    by Closed none = absurd (none refl)
    by (Faulty line fault) none = refl

  -- by this line, which is all the rest of its text
  pub refused_text : (line : List ℕ) → closing_lines (length (whole_lines x)) (input x) ≡ line ∷ []
      → lane_due x ++ (line ++ 10 ∷ []) ≡ lanes_closed x
  refused_text line is = ap (λ l. lane_due x ++ l) (sym (append-nil (line ++ 10 ∷ [])))
      ∙ ap (λ ls. lane_due x ++ in_lines ls) (sym is)
