-- The comparisons of many lanes, by those of each.
use Rattle.std.proofs.Common.{◌≡◌, ◌≤◌, ◌<◌, ◌+◌, ◌-◌, ◌⊎◌, inl, inr, ℕ, zero, suc, List, [], ◌∷◌, ◌++◌}
use Rattle.std.proofs.Common.{length, refl, sym, ap, ◌∙◌, subst, arith, Option, Some, None, cond, ◌==◌, get_or, map}
use Rattle.std.proofs.Math.ListN.{set}
use Rattle.std.specs.List.{slice_get, sum_by, range_with_len, filter}
use Rattle.std.proofs.lemmas.Bool.{cases_eq, cases_lt, ne_eqb, eq-eqb}
use Rattle.std.proofs.lemmas.List.{map-append}
use Rattle.std.proofs.lemmas.List.Elements.{filter-append}
use Rattle.std.proofs.lemmas.List.Sums.{sum_by-cons}
use Rattle.std.proofs.lemmas.Option.{slice_get_read}
use Rattle.dover_model.specs.Common.{account, account_of_lines, in_lines, CostsAtMost}
use Rattle.dover_model.proofs.lists.Beginnings.{in_lines-append}
use Rattle.dover_model.proofs.runs.Spending.{none_few, few_more}
use Rattle.event_feed.specs.Answers.{admitted_in}
use Rattle.event_feed.proofs.Admitting.{admitted_front}
use Rattle.lane_server.specs.Lanes.{lane_count, Handed, input, input_of_lines, lane_lines, lane_account}
use Rattle.lane_server.specs.Alone.{lane_feed}
use Rattle.lane_server.specs.Kept.{Kept, StandsFor, Leaves, AllStand}
use Rattle.lane_server.specs.Lane.{Stands}
use Rattle.lane_server.specs.Spending.{HasPaid, over_lanes, HavePaid, AreFew}
use Rattle.lane_server.specs.declared.lane.Lane.{Lane}
use Rattle.lane_server.specs.declared.lanes.Phase.TheVariants.{Giving}
use Rattle.lane_server.proofs.Alone.{lane_feed_account}
use Rattle.lane_server.proofs.Few.{element}
use Rattle.lane_server.proofs.Inputs.{input_grows}
use Rattle.lane_server.proofs.Keeping.{get_same, get_other, get_behind}
use Rattle.ready_server.specs.declared.server.ReadyServer.{ReadyServer}

-- ---- sums over the lanes

module _ (f g : ℕ → ℕ) (i : ℕ) (same : (j : ℕ) → (j ≡ i → ⊥) → f j ≡ g j) where
  -- numbers that differ at one lane alone have the same sum behind it
  same_behind : (from count : ℕ) → i < from
      → sum_by f (range_with_len from count) ≡ sum_by g (range_with_len from count)
  same_behind from zero low = refl
  same_behind from (suc count) low = omega (
    arith,
    sum_by-cons f from (range_with_len (from + 1) count),
    sum_by-cons g from (range_with_len (from + 1) count),
    same from (λ e. absurd (omega (arith, e, low))),
    same_behind (from + 1) count (omega (arith, low)),
  )

  -- with it they are its numbers and the same rest
  one_differs : (from count : ℕ) → from ≤ i → i < from + count
      → (rest : ℕ) × (sum_by f (range_with_len from count) ≡ rest + f i)
      × (sum_by g (range_with_len from count) ≡ rest + g i)
  one_differs from zero least most = absurd (omega arith)
  one_differs from (suc count) least most = by_place (cases_lt from i)
      (λ below. one_differs (from + 1) count (omega arith) (omega arith)) where
        by_place : (from < i) ⊎ (i ≤ from)
            → (from < i → (rest : ℕ) × (sum_by f (range_with_len (from + 1) count) ≡ rest + f i)
            × (sum_by g (range_with_len (from + 1) count) ≡ rest + g i))
            → (rest : ℕ) × (sum_by f (range_with_len from (suc count)) ≡ rest + f i)
            × (sum_by g (range_with_len from (suc count)) ≡ rest + g i)
        by_place (inl below) behind = let it = behind below in (
          f from + it.0,
          omega (arith, sum_by-cons f from (range_with_len (from + 1) count), it.1),
          omega (
            arith,
            sum_by-cons g from (range_with_len (from + 1) count),
            it.2,
            same from (λ e. absurd (omega (arith, e, below))),
          ),
        )
        by_place (inr above) behind = (
          sum_by f (range_with_len (from + 1) count),
          omega (
            arith,
            sum_by-cons f from (range_with_len (from + 1) count),
            ap f {x = from} {y = i} (omega (arith, least, above)),
          ),
          omega (
            arith,
            sum_by-cons g from (range_with_len (from + 1) count),
            ap g {x = from} {y = i} (omega (arith, least, above)),
            same_behind (from + 1) count (omega (arith, above)),
          ),
        )

  -- so do those of all lanes
  all_differ : i < lane_count → (rest : ℕ) × (over_lanes f ≡ rest + f i) × (over_lanes g ≡ rest + g i)
  unfolding over_lanes
  all_differ low = one_differs 0 lane_count (omega arith) (omega (arith, low))

-- ---- one server

-- what a server has paid of nothing, it has paid up to now
paid_to : (server : Option ReadyServer) (own now : ℕ) → HasPaid server 0 own → HasPaid server (now - own) now
paid_to None own now none = omega (arith, none)
paid_to (Some v) own now paid = record {
  paid = λ d enough. by_numbers _ (paid.paid d enough);
  freely = λ later d enough. by_numbers _ (paid.freely later d enough);
} where
  by_numbers : (w : ℕ) → own ≤ 0 + w → now ≤ (now - own) + w
  by_numbers w most = omega (arith, most)

-- and what it has paid since then, of nothing
paid_since : (server : Option ReadyServer) (start now : ℕ) → HasPaid server start now → HasPaid server 0 (now - start)
paid_since None start now none = omega (arith, none)
paid_since (Some v) start now paid = record {
  paid = λ d enough. by_numbers _ (paid.paid d enough);
  freely = λ later d enough. by_numbers _ (paid.freely later d enough);
} where
  by_numbers : (w : ℕ) → now ≤ start + w → now - start ≤ 0 + w
  by_numbers w most = omega (arith, most)

-- ---- the servers of all lanes

-- none was paid by any
abbrev pub NonePaid : List Lane → Type 0
NonePaid lanes = (i : ℕ) (lane : Lane) → slice_get lanes i ≡ Some lane → HasPaid lane.server 0 0

pub no_lanes : NonePaid []
no_lanes = λ i lane there. absurd (let e : None ≡ Some lane = there in cc)

-- nor by one lane more
pub one_lane_more : (lanes : List Lane) (lane : Lane) → NonePaid lanes → HasPaid lane.server 0 0
    → NonePaid (lanes ++ lane ∷ [])
one_lane_more lanes lane all one = λ i l there. by_place i l (get_behind lanes lane i l there) where
  by_place : (i : ℕ) (l : Lane) → (slice_get lanes i ≡ Some l) ⊎ (lane ≡ l) → HasPaid l.server 0 0
  by_place i l (inl here) = all i l here
  by_place i l (inr e) = subst (λ (x : Lane). HasPaid x.server 0 0) e one

-- a lane at its place
pub lane_there : (lanes : List Lane) (at : ℕ) (l : Lane) → length lanes ≡ lane_count → at < lane_count
    → l ≡ get_or lanes at l → slice_get lanes at ≡ Some l
lane_there lanes at l count low is = slice_get_read lanes lane_count at l (sym count) low is

-- the lane that gives is one of them
pub giving_low : (kept : Kept) (ls rest : List (List ℕ)) (lane : ℕ) → StandsFor kept ls rest
    → kept.phase ≡ Giving lane → lane < lane_count
giving_low kept ls rest lane it giving =
    (subst (λ p. Leaves p kept.lanes (input_of_lines ls) rest) giving it.left).3.within

-- so it is at the start
pub paid_first : (lanes : List Lane) → NonePaid lanes → (start : ℕ) → HavePaid lanes start start
paid_first lanes none start = record { own = λ i. 0; paid = none; all = omega arith }

module _ (lanes : List Lane) (at : ℕ) (l u : Lane) (there : slice_get lanes at ≡ Some l) (start : ℕ) where
  -- a lane that has paid for a line in no comparisons
  pub paid_line : (now : ℕ) → ((a b : ℕ) → HasPaid l.server a b → HasPaid u.server a b) → HavePaid lanes start now
      → HavePaid (set lanes at u) start now
  paid_line now keeps it = record {
    own = it.own;
    paid = λ i x here. by_place i x here (cases_eq i at);
    all = it.all;
  } where
    by_place : (i : ℕ) (x : Lane) → slice_get (set lanes at u) i ≡ Some x → (i ≡ at) ⊎ (i ≡ at → ⊥)
        → HasPaid x.server 0 (it.own i)
    by_place i x here (inl e) = subst (λ j. HasPaid x.server 0 (it.own j)) (sym e)
        (subst (λ (y : Lane). HasPaid y.server 0 (it.own at))
        (get_same lanes at u x (subst (λ j. slice_get (set lanes at u) j ≡ Some x) e here))
        (keeps 0 (it.own at) (it.paid at l there)))
    by_place i x here (inr other) = it.paid i x (get_other lanes at i u x other here)

  module _ (low : at < lane_count) (before now : ℕ)
      (goes : (from : ℕ) → HasPaid l.server from before → HasPaid u.server from now) (it : HavePaid lanes start before)
    where
      -- from where its comparisons count
      abbrev from : ℕ
      from = before - it.own at

      -- the numbers of all lanes behind a step of one
      abbrev own_then : ℕ → ℕ
      own_then i = cond (i == at) (now - from) (it.own i)

      own_others : (i : ℕ) → (i ≡ at → ⊥) → it.own i ≡ own_then i
      own_others i other = sym (ap (λ b. cond b (now - from) (it.own i)) (ne_eqb i at other))

      own_one : own_then at ≡ now - from
      own_one = ap (λ b. cond b (now - from) (it.own at)) (eq-eqb at at refl)

      -- a lane that has paid for its step
      pub paid_step : HavePaid (set lanes at u) start now
      paid_step = record {
        own = own_then;
        paid = λ i x here. by_place i x here (cases_eq i at);
        all = let parts = all_differ it.own own_then at own_others low in
            by_numbers (it.own at) (own_then at) parts.0 (omega (arith, it.all, parts.1)) own_one
            (omega (arith, parts.2));
      } where
        by_place : (i : ℕ) (x : Lane) → slice_get (set lanes at u) i ≡ Some x → (i ≡ at) ⊎ (i ≡ at → ⊥)
            → HasPaid x.server 0 (own_then i)
        by_place i x here (inl e) = subst (λ j. HasPaid x.server 0 (own_then j)) (sym e)
            (subst (λ n. HasPaid x.server 0 n) (sym own_one)
            (subst (λ (y : Lane). HasPaid y.server 0 (now - from))
            (get_same lanes at u x (subst (λ j. slice_get (set lanes at u) j ≡ Some x) e here))
            (paid_since u.server from now
            (goes from (paid_to l.server (it.own at) before (it.paid at l there))))))
        by_place i x here (inr other) = subst (λ n. HasPaid x.server 0 n) (own_others i other)
            (it.paid i x (get_other lanes at i u x other here))

        by_numbers : (was is rest : ℕ) → before ≤ start + (rest + was) → is ≡ now - (before - was)
            → over_lanes own_then ≡ rest + is → now ≤ start + over_lanes own_then
        by_numbers was is rest spent is_now all = omega (arith, spent, is_now, all)

-- ---- few for the jobs

-- none are
pub none_made : (handed : List Handed) (start : ℕ) → AreFew handed start start
none_made handed start = record {
  own = λ lane. 0;
  few = λ lane low. none_few (admitted_in (lane_account handed lane)) 0;
  all = omega arith;
}

-- what the lanes have paid is
pub paid_few : ((lane : Lane) (ls rest : List (List ℕ)) (start now : ℕ) → Stands lane ls rest
    → HasPaid lane.server start now → CostsAtMost (admitted_in (account_of_lines ls)) start now)
    → (lanes : List Lane) (handed : List Handed) (start now : ℕ) → length lanes ≡ lane_count → AllStand lanes handed
    → HavePaid lanes start now → AreFew handed start now
paid_few few lanes handed start now count stand it = record {
  own = it.own;
  few = λ lane low.
      let there = element lanes lane (omega (arith, count, low)) in
      let stands = stand lane there.0 there.1 in
      few there.0 (lane_lines handed lane) stands.0 0 (it.own lane) stands.1 (it.paid lane there.0 there.1);
  all = it.all;
}

-- a lane's lines, with more that are handed in
lines_more : (handed more : List Handed) (lane : ℕ)
    → lane_lines (handed ++ more) lane ≡ lane_lines handed lane ++ lane_lines more lane
lines_more handed more lane =
    ap (map (λ (x : Handed). x.line)) (filter-append (λ (x : Handed). x.lane == lane) handed more)
    ∙ map-append (λ (x : Handed). x.line) (filter (λ (x : Handed). x.lane == lane) handed)
    (filter (λ (x : Handed). x.lane == lane) more)

module _ (x y : List ℕ) where
  -- the feed of a lane goes on as more bytes come
  feed_more : (lane : ℕ) → lane_feed (input (x ++ y)) lane
      ≡ lane_feed (input x) lane ++ in_lines (lane_lines (input_grows x y).0 lane)
  feed_more lane = ap (λ hs. in_lines (lane_lines hs lane)) (input_grows x y).1
      ∙ ap in_lines (lines_more (input x).handed (input_grows x y).0 lane)
      ∙ in_lines-append (lane_lines (input x).handed lane) (lane_lines (input_grows x y).0 lane)

  -- its jobs stay admitted
  admitted_more : (lane : ℕ)
      → admitted_in (lane_account (input x).handed lane) ≤ admitted_in (lane_account (input (x ++ y)).handed lane)
  admitted_more lane = omega (
    arith,
    admitted_front (lane_feed (input x) lane) (in_lines (lane_lines (input_grows x y).0 lane)),
    ap admitted_in (lane_feed_account x lane),
    ap admitted_in (lane_feed_account (x ++ y) lane),
    ap (λ f. admitted_in (account f)) (feed_more lane),
  )

  -- so those that are few for some bytes are few for more
  pub few_on : (start now : ℕ) → AreFew (input x).handed start now → AreFew (input (x ++ y)).handed start now
  few_on start now it = record {
    own = it.own;
    few = λ lane low. few_more (admitted_in (lane_account (input x).handed lane))
        (admitted_in (lane_account (input (x ++ y)).handed lane)) 0 (it.own lane) (admitted_more lane)
        (it.few lane low);
    all = it.all;
  }
