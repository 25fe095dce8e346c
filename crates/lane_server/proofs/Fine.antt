-- Lanes that have no line, or are ended without a fault.
use Rattle.std.proofs.Common.{◌≡◌, ◌<◌, ◌-◌, ◌+◌, ◌⊎◌, inl, inr, ℕ, suc, List, [], ◌∷◌, length, refl, sym, ap, ◌∙◌}
use Rattle.std.proofs.Common.{subst, Bool, true, false, ◌&&◌, arith, Some, get_or, slice_get, nat_eq}
use Rattle.std.specs.List.{list_all, range_with_len}
use Rattle.std.proofs.lemmas.Option.{slice_get_read}
use Rattle.std.proofs.lemmas.Bool.{cases_eq}
use Rattle.dover_model.specs.Feed.{Open, Faulty, account_of_lines, is_open, is_ended}
use Rattle.event_feed.specs.Answers.{short_after}
use Rattle.event_feed.specs.Kept.{cause_of_fault}
use Rattle.event_feed.specs.declared.faults.FeedFault.{FeedFault}
use Rattle.lane_server.specs.Lanes.{lane_count, Handed, input_of_lines, lane_lines, is_fine, all_ended}
use Rattle.lane_server.specs.Lane.{Stands}
use Rattle.lane_server.specs.Kept.{Kept, AllStand, Leaves, StandsFor}
use Rattle.lane_server.specs.declared.lane.Lane.{Lane}
use Rattle.lane_server.specs.declared.lanes.Phase.{Phase}
use Rattle.lane_server.specs.declared.lanes.Phase.TheVariants.{Ready, Giving, Closing}

-- a line behind another isn't the first
not_first : (n : ℕ) → nat_eq (suc (suc n)) 1 ≡ false
not_first n = grind arith

-- a feed that goes on, where the end of the input answers this fault
pub short_fine : (ls : List (List ℕ)) (fault : FeedFault)
    → ((((account_of_lines ls).standing ≡ Open) × (fault ≡ short_after (length ls)))
    ⊎ ((account_of_lines ls).standing ≡ Faulty fault.line (cause_of_fault fault.cause)))
    → is_open (account_of_lines ls) ≡ true
    → nat_eq fault.line 1 ≡ is_fine ls
short_fine [] fault (inl it) goes_on = ap (λ (f : FeedFault). nat_eq f.line 1) it.1
short_fine (l ∷ ls) fault (inl it) goes_on = ap (λ (f : FeedFault). nat_eq f.line 1) it.1 ∙ not_first (length ls)
    ∙ sym (ap (λ s. is_ended (record (account_of_lines (l ∷ ls)) { standing = s })) it.0)
short_fine ls fault (inr faulty) goes_on = absurd (let e : true ≡ false = sym goes_on
    ∙ ap (λ s. is_open (record (account_of_lines ls) { standing = s })) faulty in cc)

-- whatever is under way, each lane was handed its lines
pub all_stand : (kept : Kept) (ls rest : List (List ℕ)) → StandsFor kept ls rest
    → AllStand kept.lanes (input_of_lines ls).handed
all_stand kept ls rest it = by_phase kept.phase it.left where
  by_phase : (p : Phase) → Leaves p kept.lanes (input_of_lines ls) rest
      → AllStand kept.lanes (input_of_lines ls).handed
  by_phase Ready left = λ i lane there. ([], (left.2 i lane there).stands)
  by_phase (Giving giving) left = λ i lane there. by_lane i lane there (cases_eq i giving) where
    by_lane : (i : ℕ) (lane : Lane) → slice_get kept.lanes i ≡ Some lane → (i ≡ giving) ⊎ (i ≡ giving → ⊥)
        → (more : List (List ℕ)) × Stands lane (lane_lines (input_of_lines ls).handed i) more
    by_lane i lane there (inl same) = (
      left.0,
      subst (λ j. Stands lane (lane_lines (input_of_lines ls).handed j) left.0) (sym same)
          (left.3.gives lane (subst (λ j. slice_get kept.lanes j ≡ Some lane) same there)),
    )
    by_lane i lane there (inr other) = ([], (left.3.others i lane other there).stands)
  by_phase (Closing next) left = λ i lane there. ([], (left.3 i lane there).stands)

-- one of them
pub one_stands : (lanes : List Lane) (handed : List Handed) (i at : ℕ) (l : Lane)
    → AllStand lanes handed
    → length lanes ≡ lane_count
    → i < lane_count → at ≡ i → l ≡ get_or lanes at l
    → (more : List (List ℕ)) × Stands l (lane_lines handed i) more
one_stands lanes handed i at l all count low same is =
    all i l (slice_get_read lanes lane_count i l (sym count) low (subst (λ k. l ≡ get_or lanes k l) same is))

-- ---- from one lane on

-- so many lanes from this one on are fine
unfoldable pub fine_from : List Handed → ℕ → ℕ → Bool
fine_from handed from more = list_all (λ lane. is_fine (lane_lines handed lane)) (range_with_len from more)

-- all of them
pub all_fine : (handed : List Handed) → all_ended handed ≡ fine_from handed 0 lane_count
unfolding all_ended fine_from
all_fine handed = refl

-- the first of them, and those behind it
fine_cons : (handed : List Handed) (i m n : ℕ) → m ≡ suc n
    → fine_from handed i m ≡ is_fine (lane_lines handed i) && fine_from handed (i + 1) n
unfolding fine_from
fine_cons handed i m n is = ap (λ k. list_all (λ lane. is_fine (lane_lines handed lane)) (range_with_len i k)) is

-- behind a lane that is fine
pub fine_next : (handed : List Handed) (i : ℕ) → i < lane_count → is_fine (lane_lines handed i) ≡ true
    → fine_from handed i (lane_count - i) ≡ fine_from handed (i + 1) (lane_count - (i + 1))
fine_next handed i low fine = fine_cons handed i (lane_count - i) (lane_count - (i + 1)) (omega arith)
    ∙ ap (λ b. b && fine_from handed (i + 1) (lane_count - (i + 1))) fine

-- at one that isn't
pub fine_not : (handed : List Handed) (i : ℕ) → i < lane_count → is_fine (lane_lines handed i) ≡ false
    → fine_from handed i (lane_count - i) ≡ false
fine_not handed i low not = fine_cons handed i (lane_count - i) (lane_count - (i + 1)) (omega arith)
    ∙ ap (λ b. b && fine_from handed (i + 1) (lane_count - (i + 1))) not

-- behind the last lane
pub fine_over : (handed : List Handed) (i m : ℕ) → m ≡ 0 → fine_from handed i m ≡ true
unfolding fine_from
fine_over handed i m is = ap (λ k. list_all (λ lane. is_fine (lane_lines handed lane)) (range_with_len i k)) is
