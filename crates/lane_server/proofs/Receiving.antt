-- What an input of lanes holds of its lines and bytes.
use Rattle.std.proofs.Common.{◌≡◌, ◌≤◌, ◌+◌, ℕ, suc, List, [], ◌∷◌, ◌++◌, length, refl, sym, ap, ◌∙◌, subst, Option}
use Rattle.std.proofs.Common.{Some, None, Result, Ok, Err, Bool, true, false, cond, append-nil, arith, IsNone}
use Rattle.dover_model.specs.declared.Memory.{Memory}
use Rattle.dover_model.specs.declared.events.Version.TheVariants.{Three}
use Rattle.dover_model.specs.Common.{most_lines, lines_of, whole_lines, refused_line}
use Rattle.dover_model.proofs.lists.Tests.{never}
use Rattle.line_text.specs.Cutting as cuts
use Rattle.lane_server.specs.Lanes as lanes
use Rattle.lane_server.specs.Lanes.{OfLane, lane_line, Handed, Input, InputStanding, InputFault, Open, Closed, Faulty}
use Rattle.lane_server.specs.Lanes.{HasLine, goes_on_at, goes_on, input, input_of_lines, newly_due, due_after}
use Rattle.lane_server.specs.Lanes.{lane_count, shorts_from, closing_lines, fault_word}
use Rattle.lane_server.specs.Kept as keeping
use Rattle.lane_server.specs.Kept.{Kept, StandsFor, AllStand, IsReady, is_closed, GivesNext}
use Rattle.lane_server.specs.LaneInput.{word_of, standing_of, LeavesAt, Holds, Stands, Rests, Hands, Adds, GivesDue}
use Rattle.lane_server.specs.LaneInput.{Ends}
use Rattle.lane_server.specs.declared.lanes.Phase.{Phase}
use Rattle.lane_server.specs.declared.lanes.Phase.TheVariants.{Ready, Giving, Closing}
use Rattle.event_feed.specs.declared.due_line.DueLine.{DueLine}
use Rattle.lane_server.specs.declared.refusal.InputRefusal.{InputRefusal}
use Rattle.lane_server.specs.declared.refusal.InputRefusal.TheVariants.{Short, TooManyLines, BadLane}
use Rattle.lane_server.specs.declared.lane_input.LaneInput.{LaneInput}
use Rattle.lane_server.proofs.Few.{few_left}
use Rattle.lane_server.proofs.Fine.{all_stand}
use Rattle.lane_server.proofs.Inputs.{is_open, due_fed, input_fed, input_closed, few_lines, short_rest, whole_counted}

-- lanes that are as they were
module _ (old new : Kept) (ls : List (List ℕ)) (stands : StandsFor old ls []) (same : new ≡ old) where
  pub same_count : length new.lanes ≡ lane_count
  same_count = ap (λ (k : Kept). length k.lanes) same ∙ stands.count

  pub same_stand : AllStand new.lanes (input_of_lines ls).handed
  same_stand = subst (λ (k : Kept). AllStand k.lanes (input_of_lines ls).handed) (sym same)
      (all_stand old ls [] stands)

-- the bytes with one more, behind a line that may still go on
pub with_it : (x : List ℕ) (byte : ℕ) → goes_on (input x) ≡ true → cuts.with_byte x byte ≡ x ++ byte ∷ []
with_it x byte goes = ap (λ b. cond b x (x ++ byte ∷ [])) (short_rest x goes)

-- ---- what is held

-- lines by which the input stands so
holds_so : (r : Option InputRefusal) (kept : Kept) (ls left : List (List ℕ))
    → (input_of_lines ls).standing ≡ standing_of kept.lines r
    → LeavesAt (standing_of kept.lines r) kept ls left
    → Holds r kept ls left
holds_so r kept ls left stands leaves =
    record { stands = stands; leaves = subst (λ s. LeavesAt s kept ls left) (sym stands) leaves }

module _ (r : Option InputRefusal) (kept : Kept) (ls left : List (List ℕ))
    (it : Holds r kept ls left) where
  -- what is left by why it would be refused
  leaves_so : LeavesAt (standing_of kept.lines r) kept ls left
  leaves_so = subst (λ s. LeavesAt s kept ls left) it.stands it.leaves

  module _ (on : goes_on (input_of_lines ls) ≡ true) where
    -- while the input goes on, the lanes took all lines
    holds_open : StandsFor kept ls left
    holds_open = subst (λ s. LeavesAt s kept ls left) (is_open (input_of_lines ls) on) it.leaves

    -- it is held on as the lanes give lines
    holds_on : (new : Kept) (more : List (List ℕ)) → StandsFor new ls more
        → Holds r new ls more
    holds_on new more stands = record {
      stands = it.stands ∙ ap (λ n. standing_of n r) (holds_open.counted ∙ sym stands.counted);
      leaves = subst (λ s. LeavesAt s new ls more) (sym (is_open (input_of_lines ls) on)) stands;
    }

    -- `close` didn't come
    unclosed : is_closed kept ≡ false
    unclosed = by kept.phase holds_open.left where
      by : (p : Phase) → keeping.Leaves p kept.lanes (input_of_lines ls) left
          → elim p [ Ready ↦ false | Giving lane ↦ false | Closing next ↦ true ] ≡ false
      by (Closing next) at = never (sym (ap goes_on_at at.0) ∙ on)
      by _ at = refl

  -- once it doesn't, nothing is left
  holds_over : goes_on (input_of_lines ls) ≡ false → (left ≡ []) × Holds r kept ls []
  holds_over over = let both = by (input_of_lines ls).standing over it.leaves in
      (both.0, record { stands = it.stands; leaves = both.1 }) where
        by : (s : InputStanding) → goes_on_at s ≡ false → LeavesAt s kept ls left
            → (left ≡ []) × LeavesAt s kept ls []
        by Open over it = never (sym over)
        by Closed over it = (it.0, (refl, it.1))
        by (Faulty line fault) over it = (it.0, (refl, it.1, it.2, it.3))

-- the input is refused one line behind those that the lanes took, with this word
abbrev pub IsRefused : Kept → List ℕ → List ℕ → Type 0
IsRefused kept x word = (kept.lines ≤ most_lines Three) × ((input x).standing ≡ Closed → ⊥)
    × (closing_lines (length (whole_lines x)) (input x) ≡ refused_line (kept.lines + 1) word ∷ [])

-- ---- a line

module _ (ls : List (List ℕ)) (bytes : List ℕ) (opened : (input_of_lines ls).standing ≡ Open) where
  -- the input so far
  abbrev a : Input
  a = input_of_lines ls

  -- the input with the line
  abbrev b : Input
  b = input_of_lines (ls ++ bytes ∷ [])

  -- a line of a lane is one that a lane has
  pub lacks : suc a.lines ≤ most_lines Three → (lane : ℕ) (line : List ℕ) → lane_line bytes ≡ Some (OfLane lane line)
      → HasLine b.handed
  lacks room lane line reads = subst (λ (c : Input). HasLine c.handed)
      (sym (input_fed ls bytes opened room lane line reads)) (by a.handed) where
        by : (handed : List Handed) → HasLine (handed ++ record { lane = lane; line = line } ∷ [])
        by [] = tt
        by (x ∷ handed) = tt

  module _ (kept : Kept) where
    -- a line that hands in nothing
    hands_none : (r : Option InputRefusal) → b.handed ≡ a.handed → b.standing ≡ standing_of kept.lines r
        → LeavesAt (standing_of kept.lines r) kept (ls ++ bytes ∷ []) []
        → Hands kept ls bytes (Ok r)
    hands_none r same stands leaves = (
      [],
      ap (due_after []) same ∙ sym (append-nil (due_after [] a.handed)),
      holds_so r kept (ls ++ bytes ∷ []) [] stands leaves,
    )

    -- a line at fault
    pub hands_fault : (r : InputRefusal) (fault : InputFault) → kept.lines ≡ a.lines
        → length kept.lanes ≡ lane_count → AllStand kept.lanes a.handed
        → standing_of kept.lines (Some r) ≡ Faulty (suc kept.lines) fault
        → b ≡ record a { lines = suc a.lines; standing = Faulty (suc a.lines) fault }
        → Hands kept ls bytes (Ok (Some r))
    hands_fault r fault counted count stand named is = hands_none (Some r) (ap (λ (c : Input). c.handed) is)
        (ap (λ (c : Input). c.standing) is ∙ ap (λ n. Faulty (suc n) fault) (sym counted) ∙ sym named)
        (subst (λ s. LeavesAt s kept (ls ++ bytes ∷ []) []) (sym named) (
          refl,
          omega (arith, counted, few_lines ls (ap goes_on_at opened)),
          count,
          subst (AllStand kept.lanes) (sym (ap (λ (c : Input). c.handed) is)) stand,
        ))

    -- a line of a lane
    pub hands_fed : (lane : ℕ) → keeping.IsFed lane kept ls bytes
        → Hands kept ls bytes (Ok (Some Short))
    hands_fed lane fed =
        let taken : Handed = record { lane = lane; line = fed.line } in
        let is : b ≡ record a { lines = suc a.lines; handed = a.handed ++ taken ∷ [] } =
        input_fed ls bytes opened fed.room lane fed.line fed.reads in (
          newly_due a.handed taken,
          ap (λ (c : Input). due_after [] c.handed) is ∙ due_fed a.handed taken,
          holds_so (Some Short) kept (ls ++ bytes ∷ []) (newly_due a.handed taken)
              (ap (λ (c : Input). c.standing) is ∙ opened) fed.stands,
        )

    -- `close`
    pub hands_close : keeping.IsClosed kept ls bytes → Hands kept ls bytes (Ok None)
    hands_close closed =
        let is : b ≡ record a { lines = suc a.lines; standing = Closed } =
        input_closed ls bytes opened closed.room closed.reads in
        hands_none None (ap (λ (c : Input). c.handed) is) (ap (λ (c : Input). c.standing) is) (
          refl,
          subst (λ (c : Input). StandsFor kept (ls ++ bytes ∷ []) (shorts_from c.handed 0 lane_count))
              (sym is) closed.stands,
        )

-- ---- bytes

module _ (i : LaneInput) (x : List ℕ) where
  module _ (left : List (List ℕ)) (at : Stands i x left) where
    -- each lane was handed its lines
    pub lanes_handed : (length i.lanes.lanes ≡ lane_count) × AllStand i.lanes.lanes (input x).handed
    lanes_handed = by (input x).standing at.holds.leaves where
      by : (s : InputStanding) → LeavesAt s i.lanes (lines_of x) left
          → (length i.lanes.lanes ≡ lane_count) × AllStand i.lanes.lanes (input x).handed
      by Open leaves = (leaves.count, all_stand i.lanes (lines_of x) left leaves)
      by Closed leaves = (leaves.1.count, all_stand i.lanes (lines_of x) _ leaves.1)
      by (Faulty line fault) leaves = (leaves.2, leaves.3)

    -- few lines are left
    pub few_stand : length left ≤ 20_000_000_002
    few_stand = by (goes_on (input x)) refl where
      by : (b : Bool) → goes_on (input x) ≡ b → length left ≤ 20_000_000_002
      by true on = few_left i.lanes (lines_of x) left (holds_open i.refusal i.lanes (lines_of x) left at.holds on)
      by false over = omega (
        arith,
        ap (λ (l : List (List ℕ)). length l) (holds_over i.refusal i.lanes (lines_of x) left at.holds over).0,
      )

    -- whether it goes on
    pub goes_so : (b : Bool) → ((lines : ℕ) → b ≡ goes_on_at (standing_of lines i.refusal)) → b ≡ goes_on (input x)
    goes_so b is = is i.lanes.lines ∙ sym (ap goes_on_at at.holds.stands)

    -- none is left once it doesn't
    pub none_over : goes_on (input x) ≡ false → (left ≡ []) × Rests i x
    none_over over = let both = holds_over i.refusal i.lanes (lines_of x) left at.holds over in (
      both.0,
      record { stands = record { cut = at.cut; holds = both.1 }; ready = λ on. never (sym over ∙ on) },
    )

    module _ (on : goes_on (input x) ≡ true) where
      -- while it does, the lanes took all lines
      pub lanes_stand : StandsFor i.lanes (lines_of x) left
      lanes_stand = holds_open i.refusal i.lanes (lines_of x) left at.holds on

      -- and give what is left
      pub gives_on : (new : Kept) (o : Option (ℕ × DueLine)) → GivesNext o new (lines_of x) left
          → (IsNone o → is_closed i.lanes ≡ false → IsReady new)
          → GivesDue o (record i { lanes = new }) x left
      gives_on new None gives rests = (
        gives.0,
        record {
          stands = record {
            cut = at.cut;
            holds = holds_on i.refusal i.lanes (lines_of x) left at.holds on new [] gives.1;
          };
          ready = λ goes. rests refl (unclosed i.refusal i.lanes (lines_of x) left at.holds on);
        },
      )
      gives_on new (Some given) gives rests = (
        gives.0,
        gives.1,
        record {
          cut = at.cut;
          holds = holds_on i.refusal i.lanes (lines_of x) left at.holds on new gives.0 gives.2;
        },
        gives.3,
        gives.4,
      )

  -- while it goes on, lines may come
  pub may_take : Rests i x → goes_on (input x) ≡ true
      → (ls : List (List ℕ)) × StandsFor i.lanes ls [] × IsReady i.lanes
  may_take at on = (lines_of x, lanes_stand [] at.stands on, at.ready on)

  -- ---- a front of a piece

  module _ (front : List ℕ) (cut : cuts.StandsFor i.lines (x ++ front)) where
    -- no line has ended
    pub adds_none : (r : Option InputRefusal) → goes_on (input x) ≡ true → lines_of (x ++ front) ≡ lines_of x
        → Holds r i.lanes (lines_of x) [] → Adds i x front (Ok (Some Short))
    adds_none r on same holds = (
      [],
      ap (λ ls. due_after [] (input_of_lines ls).handed) same ∙ sym (append-nil (due_after [] (input x).handed)),
      record {
        cut = cut;
        holds = subst (λ ls. Holds (Some Short) i.lanes ls []) (sym same)
            (holds_so (Some Short) i.lanes (lines_of x) [] (is_open (input x) on)
            (holds_open r i.lanes (lines_of x) [] holds on));
      },
    )

-- ---- the end

-- `close` came
pub ends_closed : (kept : Kept) (x : List ℕ) → Holds None kept (lines_of x) []
    → Ends (Ok kept) x
ends_closed kept x it = (it.stands, (leaves_so None kept (lines_of x) [] it).1)

-- where it came, the lanes are closing
pub closing_lanes : (kept : Kept) (ls rest : List (List ℕ)) → StandsFor kept ls rest
    → (input_of_lines ls).standing ≡ Closed → is_closed kept ≡ true
closing_lanes kept ls rest it closed = by kept.phase it.left where
  by : (p : Phase) → keeping.Leaves p kept.lanes (input_of_lines ls) rest
      → elim p [ Ready ↦ false | Giving lane ↦ false | Closing next ↦ true ] ≡ true
  by Ready left = absurd (let e : Open ≡ Closed = sym left.0 ∙ closed in cc)
  by (Giving lane) left = absurd (let e : Open ≡ Closed = sym left.1 ∙ closed in cc)
  by (Closing next) left = refl

-- the line that refuses the input
pub refuses : (r : InputRefusal) (kept : Kept) (x : List ℕ) → Holds (Some r) kept (lines_of x) []
    → IsRefused kept x (word_of r)
refuses r kept x it = by r it.stands (leaves_so (Some r) kept (lines_of x) [] it) where
  -- by how it stands
  last : (s : InputStanding) → (input x).standing ≡ s
      → closing_lines (length (whole_lines x)) (input x)
      ≡ closing_lines (length (whole_lines x)) (record (input x) { standing = s })
  last s is = ap (λ t. closing_lines (length (whole_lines x)) (record (input x) { standing = t })) is

  -- for a fault
  by_fault : (fault : InputFault) → (input x).standing ≡ Faulty (suc kept.lines) fault → kept.lines ≤ most_lines Three
      → IsRefused kept x (fault_word fault)
  by_fault fault is few = (
    few,
    λ closed. absurd (let e : Closed ≡ Faulty (suc kept.lines) fault = sym closed ∙ is in cc),
    last (Faulty (suc kept.lines) fault) is
        ∙ ap (λ n. refused_line n (fault_word fault) ∷ []) {x = suc kept.lines} {y = kept.lines + 1} (omega arith),
  )

  by : (r : InputRefusal) → (input x).standing ≡ standing_of kept.lines (Some r)
      → LeavesAt (standing_of kept.lines (Some r)) kept (lines_of x) []
      → IsRefused kept x (word_of r)
  by Short is leaves =
      let on : goes_on (input x) ≡ true = ap goes_on_at is in (
        omega (arith, leaves.counted, few_lines (lines_of x) on),
        λ closed. never (sym (ap goes_on_at closed) ∙ on),
        last Open is ∙ ap (λ n. refused_line n (word_of Short) ∷ [])
            {x = suc (length (whole_lines x))} {y = kept.lines + 1}
            (omega (arith, leaves.counted, whole_counted x on)),
      )
  by TooManyLines is leaves = by_fault lanes.TooManyLines is leaves.1
  by BadLane is leaves = by_fault lanes.BadLane is leaves.1

-- what a line adds is left to give
pub adds_line : (i : LaneInput) (x front line : List ℕ)
    → cuts.StandsFor i.lines (x ++ front)
    → lines_of (x ++ front) ≡ lines_of x ++ line ∷ []
    → (result : Result (Option InputRefusal) Memory) → Hands i.lanes (lines_of x) line result
    → Adds i x front result
adds_line i x front line cut more (Ok r) it = (
  it.0,
  ap (λ ls. due_after [] (input_of_lines ls).handed) more ∙ it.1,
  record { cut = cut; holds = subst (λ ls. Holds r i.lanes ls it.0) (sym more) it.2 },
)
adds_line i x front line cut more (Err e) it =
    subst (λ ls. HasLine (input_of_lines ls).handed) (sym more) it
