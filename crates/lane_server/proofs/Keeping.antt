-- What the lanes keep of the input, line by line and step by step.
use Rattle.std.proofs.Common.{◌≡◌, ◌<◌, ◌+◌, ◌-◌, ◌⊎◌, inl, inr, ℕ, zero, suc, List, [], ◌∷◌, ◌++◌, length, map, refl}
use Rattle.std.proofs.Common.{sym, ap, ◌∙◌, subst, arith, true, false, Some, None, get_or, slice_get, get_or-set_other}
use Rattle.std.proofs.Common.{get_or-set_same, length-set}
use Rattle.std.proofs.Math.ListN.{set}
use Rattle.std.proofs.lemmas.Option.{slice_get_within, get_or_from_slice_get, slice_get_read}
use Rattle.std.proofs.lemmas.Bool.{cases_eq}
use Rattle.dover_model.specs.declared.events.Version.TheVariants.{Three}
use Rattle.dover_model.specs.Limits.{most_lines}
use Rattle.event_feed.specs.declared.faults.Cause.TheVariants as cause
use Rattle.lane_server.specs.Lanes.{lane_count, OfLane, Close, lane_line, Handed, Input, input_of_lines, lane_lines}
use Rattle.lane_server.specs.Lanes.{in_lane, lines_added, shorts_from}
use Rattle.lane_server.specs.Lane.{Stands, IsQuiet, Gives}
use Rattle.lane_server.specs.Kept.{Kept, AllQuiet, Leaves, StandsFor, IsFed, IsClosed, HasRoom, GivesNext, is_closed}
use Rattle.lane_server.specs.Shorts.{IsFirstShort}
use Rattle.event_feed.specs.declared.due_line.DueLine.{DueLine}
use Rattle.event_feed.specs.declared.due_line.DueLine.TheVariants.{Refused}
use Rattle.lane_server.specs.declared.lane.Lane.{Lane}
use Rattle.lane_server.specs.declared.lanes.Phase.{Phase}
use Rattle.lane_server.specs.declared.lanes.Phase.TheVariants.{Ready, Giving, Closing}
use Rattle.lane_server.proofs.Inputs.{input_fed, input_closed}
use Rattle.lane_server.proofs.Handing.{lines_same, lines_other, shorts_over}

-- ---- elements

-- the element that was written
pub get_same : {X : Type 0} (xs : List X) (i : ℕ) (u l : X) → slice_get (set xs i u) i ≡ Some l → u ≡ l
get_same xs i u l there =
    let low : i < length xs = omega (arith, slice_get_within (set xs i u) i l there, length-set xs i u) in
    sym (get_or-set_same xs i u l low) ∙ get_or_from_slice_get (set xs i u) i l l there

-- another one
pub get_other : {X : Type 0} (xs : List X) (i j : ℕ) (u l : X) → (j ≡ i → ⊥) → slice_get (set xs i u) j ≡ Some l
    → slice_get xs j ≡ Some l
get_other xs i j u l other there =
    let low : j < length xs = omega (arith, slice_get_within (set xs i u) j l there, length-set xs i u) in
    slice_get_read xs (length xs) j l refl low
    (sym (get_or_from_slice_get (set xs i u) j l l there) ∙ get_or-set_other xs i j u l other)

-- the element behind a list, or one of the list
pub get_behind : {X : Type 0} (xs : List X) (y : X) (i : ℕ) (l : X) → slice_get (xs ++ y ∷ []) i ≡ Some l
    → (slice_get xs i ≡ Some l) ⊎ (y ≡ l)
get_behind [] y zero l there = inr (let e : Some y ≡ Some l = there in cc)
get_behind [] y (suc i) l there = absurd (let e : None ≡ Some l = there in cc)
get_behind (x ∷ xs) y zero l there = inl there
get_behind (x ∷ xs) y (suc i) l there = get_behind xs y i l there

-- `close` didn't come where a lane gives
pub closed_giving : (kept : Kept) (i : ℕ) → kept.phase ≡ Giving i → is_closed kept ≡ false
closed_giving kept i is = ap (λ (p : Phase). elim p [ Ready ↦ false | Giving lane ↦ false | Closing next ↦ true ]) is

-- it came where the lanes are closing
pub closed_closing : (kept : Kept) (i : ℕ) → kept.phase ≡ Closing i → is_closed kept ≡ true
closed_closing kept i is = ap (λ (p : Phase). elim p [ Ready ↦ false | Giving lane ↦ false | Closing next ↦ true ]) is

-- ---- the lanes at first

-- no lanes
pub none_quiet : (handed : List Handed) → AllQuiet [] handed
none_quiet handed = λ i lane there. absurd (let e : None ≡ Some lane = there in cc)

-- one lane more
pub more_quiet : (lanes : List Lane) (lane : Lane) → AllQuiet lanes []
    → IsQuiet lane []
    → AllQuiet (lanes ++ lane ∷ []) []
more_quiet lanes lane all one = λ i l there. by_place i l (get_behind lanes lane i l there) where
  by_place : (i : ℕ) (l : Lane) → (slice_get lanes i ≡ Some l) ⊎ (lane ≡ l)
      → IsQuiet l (lane_lines [] i)
  by_place i l (inl here) = all i l here
  by_place i l (inr e) = subst (λ x. IsQuiet x []) e one

-- one lane of all
pub one_quiet : (lanes : List Lane) (handed : List Handed) (i at : ℕ) (l : Lane)
    → AllQuiet lanes handed
    → length lanes ≡ lane_count
    → i < lane_count → at ≡ i → l ≡ get_or lanes at l → IsQuiet l (lane_lines handed i)
one_quiet lanes handed i at l all count low same is =
    all i l (slice_get_read lanes lane_count i l (sym count) low (subst (λ k. l ≡ get_or lanes k l) same is))

-- ---- what is left, by the phase

-- what is left where all was given
pub ready_left : (kept : Kept) (ls rest : List (List ℕ)) → StandsFor kept ls rest → kept.phase ≡ Ready
    → Leaves Ready kept.lanes (input_of_lines ls) rest
ready_left kept ls rest it is = subst (λ p. Leaves p kept.lanes (input_of_lines ls) rest) is it.left

-- the lane that gives
pub lane_gives : (kept : Kept) (ls rest : List (List ℕ)) (i at : ℕ) (l : Lane)
    → StandsFor kept ls rest
    → kept.phase ≡ Giving i → at ≡ i
    → l ≡ get_or kept.lanes at l → (left : List (List ℕ))
    × Stands l (lane_lines (input_of_lines ls).handed i) left
lane_gives kept ls rest i at l it giving same is =
    let left = subst (λ p. Leaves p kept.lanes (input_of_lines ls) rest) giving it.left in (
      left.0,
      left.3.gives l (slice_get_read kept.lanes lane_count i l (sym it.count) left.3.within
          (subst (λ k. l ≡ get_or kept.lanes k l) same is)),
    )

-- there is room for one line more
pub has_room : (kept : Kept) (ls rest : List (List ℕ)) → StandsFor kept ls rest
    → kept.lines < most_lines Three → HasRoom ls
has_room kept ls rest it low = omega (arith, it.counted)

-- one line more is counted
one_more : (kept : Kept) (ls ms rest : List (List ℕ)) → StandsFor kept ls rest
    → (input_of_lines ms).lines ≡ suc (input_of_lines ls).lines
    → kept.lines + 1 ≡ (input_of_lines ms).lines
one_more kept ls ms rest it more = omega (arith, it.counted, more)

-- ---- a line of a lane

pub feed_stands : (kept : Kept) (ls : List (List ℕ)) (bytes : List ℕ) (lane at : ℕ) (line : List ℕ) (l u : Lane)
    → StandsFor kept ls []
    → kept.phase ≡ Ready → kept.lines < most_lines Three → lane < lane_count → lane_line bytes ≡ Some (OfLane lane line)
    → at ≡ lane
    → l ≡ get_or kept.lanes at l
    → ((before : List (List ℕ)) → IsQuiet l before
    → Stands u (before ++ line ∷ []) (lines_added before line))
    → IsFed lane (record { lines = kept.lines + 1; lanes = set kept.lanes at u; phase = Giving lane })
    ls bytes
feed_stands kept ls bytes lane at line l u it ready low within reads same is given =
    let left = ready_left kept ls [] it ready in
    let room : HasRoom ls = has_room kept ls [] it low in
    let fed = input_fed ls bytes left.0 room lane line reads in
    let own : List (List ℕ) = lines_added (lane_lines (input_of_lines ls).handed lane) line in
    let quiet : IsQuiet l (lane_lines (input_of_lines ls).handed lane) =
    one_quiet kept.lanes (input_of_lines ls).handed lane at l left.2 it.count within same is in record {
      room = room;
      line = line;
      reads = reads;
      stands = record {
        counted = one_more kept ls (ls ++ bytes ∷ []) [] it (ap (λ (x : Input). x.lines) fed);
        count = length-set kept.lanes at u ∙ it.count;
        left = subst (λ a. Leaves (Giving lane) (set kept.lanes at u) a (map (in_lane lane) own))
            (sym fed) (
              own,
              left.0,
              refl,
              record {
                within = within;
                gives = λ x there. subst
                    (λ y. Stands y (lane_lines
                    ((input_of_lines ls).handed ++ record { lane = lane; line = line } ∷ []) lane) own)
                    (get_same kept.lanes at u x (subst (λ i. slice_get (set kept.lanes at u) i ≡ Some x)
                    (sym same) there))
                    (subst (λ xs. Stands u xs own)
                    (sym (lines_same (input_of_lines ls).handed lane line)) (given _ quiet));
                others = λ i x other there. subst (IsQuiet x)
                    (sym (lines_other (input_of_lines ls).handed lane line i other))
                    (left.2 i x (get_other kept.lanes at i u x (λ e. other (e ∙ same)) there));
              },
            );
      };
      going = refl;
    }

-- ---- `close`

pub close_stands : (kept : Kept) (ls : List (List ℕ)) (bytes : List ℕ) → StandsFor kept ls []
    → kept.phase ≡ Ready
    → kept.lines < most_lines Three
    → lane_line bytes ≡ Some Close
    → IsClosed (record { lines = kept.lines + 1; lanes = kept.lanes; phase = Closing 0 }) ls bytes
close_stands kept ls bytes it ready low reads =
    let left = ready_left kept ls [] it ready in
    let room : HasRoom ls = has_room kept ls [] it low in
    let fed = input_closed ls bytes left.0 room reads in record {
      room = room;
      reads = reads;
      stands = record {
        counted = one_more kept ls (ls ++ bytes ∷ []) [] it (ap (λ (x : Input). x.lines) fed);
        count = it.count;
        left = subst (λ a. Leaves (Closing 0) kept.lanes a
            (shorts_from (input_of_lines ls).handed 0 lane_count))
            (sym fed)
            (refl, omega arith, refl, left.2);
      };
      closed = refl;
    }

-- ---- a line that a lane gives

module _ (kept : Kept) (ls rest : List (List ℕ)) (lane at : ℕ) (l u : Lane)
    (it : StandsFor kept ls rest)
    (giving : kept.phase ≡ Giving lane)
    (same : at ≡ lane) (is : l ≡ get_or kept.lanes at l) where
  -- what is left
  left : Leaves (Giving lane) kept.lanes (input_of_lines ls) rest
  left = subst (λ p. Leaves p kept.lanes (input_of_lines ls) rest) giving it.left

  -- the lane
  stands : Stands l (lane_lines (input_of_lines ls).handed lane) left.0
  stands = left.3.gives l (slice_get_read kept.lanes lane_count lane l (sym it.count) left.3.within
      (subst (λ i. l ≡ get_or kept.lanes i l) same is))

  -- the lane at its place
  written : (x : Lane) → slice_get (set kept.lanes at u) lane ≡ Some x → u ≡ x
  written x there = get_same kept.lanes at u x
      (subst (λ i. slice_get (set kept.lanes at u) i ≡ Some x) (sym same) there)

  -- the other lanes
  others : (i : ℕ) (x : Lane) → (i ≡ lane → ⊥) → slice_get (set kept.lanes at u) i ≡ Some x
      → IsQuiet x (lane_lines (input_of_lines ls).handed i)
  others i x other there = left.3.others i x other (get_other kept.lanes at i u x (λ e. other (e ∙ same)) there)

  -- a line is given
  pub give_some : (out : DueLine) → ((xs ys : List (List ℕ)) → Stands l xs ys
      → Gives (Some out) u xs ys)
      → GivesNext (Some (lane, out))
      (record { lines = kept.lines; lanes = set kept.lanes at u; phase = kept.phase }) ls rest
  give_some out gives =
      let given = gives (lane_lines (input_of_lines ls).handed lane) left.0 stands in (
        map (in_lane lane) given.0,
        left.2 ∙ ap (map (in_lane lane)) given.1,
        record {
          counted = it.counted;
          count = length-set kept.lanes at u ∙ it.count;
          left = subst (λ p. Leaves p (set kept.lanes at u) (input_of_lines ls)
              (map (in_lane lane) given.0))
              (sym giving) (
                given.0,
                left.1,
                refl,
                record {
                  within = left.3.within;
                  gives = λ x there.
                      subst (λ y. Stands y (lane_lines (input_of_lines ls).handed lane) given.0)
                      (written x there) given.2;
                  others = others;
                },
              );
        },
        given.3,
        inl given.4,
      )

  -- none is left
  pub give_none : ((xs ys : List (List ℕ)) → Stands l xs ys → Gives None u xs ys)
      → GivesNext None (record { lines = kept.lines; lanes = set kept.lanes at u; phase = Ready })
      ls rest
  give_none gives =
      let given = gives (lane_lines (input_of_lines ls).handed lane) left.0 stands in (
        left.2 ∙ ap (map (in_lane lane)) given.0,
        record {
          counted = it.counted;
          count = length-set kept.lanes at u ∙ it.count;
          left = (left.1, refl, all given.1);
        },
      )
    where
      all : IsQuiet u (lane_lines (input_of_lines ls).handed lane)
          → AllQuiet (set kept.lanes at u) (input_of_lines ls).handed
      all quiet = λ i x there. by_lane i x there (cases_eq i lane) where
        by_lane : (i : ℕ) (x : Lane) → slice_get (set kept.lanes at u) i ≡ Some x → (i ≡ lane) ⊎ (i ≡ lane → ⊥)
            → IsQuiet x (lane_lines (input_of_lines ls).handed i)
        by_lane i x there (inl e) = subst (λ j. IsQuiet x (lane_lines (input_of_lines ls).handed j))
            (sym e)
            (subst (λ y. IsQuiet y (lane_lines (input_of_lines ls).handed lane))
            (written x (subst (λ j. slice_get (set kept.lanes at u) j ≡ Some x) e there)) quiet)
        by_lane i x there (inr other) = others i x other there

-- ---- the closing lines

module _ (kept : Kept) (ls rest : List (List ℕ)) (from : ℕ) (it : StandsFor kept ls rest)
    (closing : kept.phase ≡ Closing from) where
  -- what is left
  closing_left : Leaves (Closing from) kept.lanes (input_of_lines ls) rest
  closing_left = subst (λ p. Leaves p kept.lanes (input_of_lines ls) rest) closing it.left

  -- all lanes have given what was due
  closing_quiet : AllQuiet kept.lanes (input_of_lines ls).handed
  closing_quiet = closing_left.3

  -- a lane is short
  pub short_some : (lane line : ℕ) → lane < lane_count
      → ((handed : List Handed) → AllQuiet kept.lanes handed
      → IsFirstShort (Some (lane, line)) handed from)
      → GivesNext (Some (lane, Refused line cause.Short))
      (record { lines = kept.lines; lanes = kept.lanes; phase = Closing (lane + 1) }) ls rest
  short_some lane line low first =
      let short = first (input_of_lines ls).handed closing_quiet in (
        shorts_from (input_of_lines ls).handed (lane + 1) (lane_count - (lane + 1)),
        closing_left.2 ∙ short.1,
        record { counted = it.counted; count = it.count; left = (closing_left.0, omega arith, refl, closing_quiet) },
        tt,
        inr refl,
      )

  -- none is short any more
  pub short_none : ((handed : List Handed) → AllQuiet kept.lanes handed → IsFirstShort None handed from)
      → GivesNext None (record { lines = kept.lines; lanes = kept.lanes; phase = Closing lane_count })
      ls rest
  short_none first = (
    closing_left.2 ∙ first (input_of_lines ls).handed closing_quiet,
    record {
      counted = it.counted;
      count = it.count;
      left = (
        closing_left.0,
        omega arith,
        sym (shorts_over (input_of_lines ls).handed lane_count (lane_count - lane_count) refl),
        closing_quiet,
      );
    },
  )
