-- What one step of the search finds, from what its two branches find.
use Rattle.dover_model.specs.Common.{fraction, JobFacts, Rules, total_value, worth, IsMember, Each, edf, spread}
use Rattle.std.proofs.Common.{◌≡◌, ℕ, suc, ◌+◌, ◌-◌, ◌≤◌, ◌<◌, ◌⊎◌, inl, inr, List, [], ◌∷◌, ◌++◌, length, drop, get_or}
use Rattle.std.proofs.Common.{map, refl, sym, ap, ◌∙◌, subst, arith, add-one, append_assoc, cond, eqb, leb, Bool, true}
use Rattle.std.proofs.Common.{false, Some, None, Option, slice_get, MatchOption, Result, Ok, Err, IfOk, leb-true}
use Rattle.std.proofs.Common.{leb-false, append-nil}
use Rattle.std.proofs.lemmas.List.{drop_all}
use Rattle.std.proofs.lemmas.List.Sums.{sum_by-cons, sum_by-drop_more}
use Rattle.dover_model.specs.declared.events.Version.TheVariants.{One}
use Rattle.clairvoyant.specs.feasible.Feasibility.{ServesAll, CannotMeet, CanMeet}
use Rattle.dover_model.proofs.lists.Members.{member_front, member_behind, member_either, by_bool}
use Rattle.clairvoyant.specs.declared.best.choice.Choice.{Choice}
use Rattle.clairvoyant.specs.best.BestSet.{RiseWithin, Serves, IsGood, IsEarlier, IsBestSet, value_at, value_of}
use Rattle.clairvoyant.specs.best.BestSet.{jobs_at, renumbered}
use Rattle.clairvoyant.specs.best.Search.{IsChoice, Extends, NoneFound, IsFound, IsSearched}
use Rattle.clairvoyant.proofs.best.Rising.{rise_wider, rise_each, rise_append, rise_length, rise_split, place, place_at}
use Rattle.clairvoyant.proofs.best.Values.{get_is, value_is, most_more, value_append, served_good, worth_served}
use Rattle.clairvoyant.proofs.best.Values.{value_worth}
use Rattle.clairvoyant.proofs.best.Lifting.{jobs_cons, jobs_append, lift, lower, number_at, spread_is}

-- ---- sets that one schedule serves

-- a choice's own pieces, under the numbers of all jobs, serve its jobs
pub choice_served : (all : List JobFacts) (next : ℕ) (choice : Choice) → length all ≤ 20 → next ≤ length all
    → IsChoice all next choice
    → Each (Serves all (spread (map (renumbered choice.numbers.items) choice.pieces.items))) choice.numbers.items
choice_served all next choice few low it =
    subst (λ s. Each (Serves all s) choice.numbers.items)
    (sym (ap (λ ps. spread (map (renumbered choice.numbers.items) ps)) it.pieces
    ∙ spread_is choice.numbers.items (edf choice.jobs.items)
    ∙ ap (λ ps. map (number_at choice.numbers.items) (spread ps)) (sym it.pieces)))
    (lift all (number_at choice.numbers.items) (spread choice.pieces.items) 0 0 choice.numbers.items
    (rise_wider 0 0 next (length all) choice.numbers.items (omega arith) low it.numbers) at_place
    (subst (λ jobs. ServesAll jobs choice.pieces.items) it.jobs it.serves)) where
      at_place : (i : ℕ) → i < length choice.numbers.items
          → number_at choice.numbers.items (0 + i) ≡ get_or choice.numbers.items i 0
      at_place i short =
          let count : 0 + length choice.numbers.items ≤ next =
          rise_length 0 next choice.numbers.items (omega arith) it.numbers in
          let low : i < 20 = omega arith in
          ap (number_at choice.numbers.items) (let e : 0 + i ≡ i = omega arith in e)
          ∙ ap (λ b. cond b 4_000_000_000 (get_or choice.numbers.items i 0))
          (let e : eqb i 4_000_000_000 ≡ false = grind arith in e)

-- so it is a good set
pub choice_good : (all : List JobFacts) (next : ℕ) (choice : Choice) → length all ≤ 20 → next ≤ length all
    → IsChoice all next choice
    → IsGood all choice.numbers.items
choice_good all next choice few low it = record {
  numbers = rise_wider 0 0 next (length all) choice.numbers.items (omega arith) low it.numbers;
  schedule = spread (map (renumbered choice.numbers.items) choice.pieces.items);
  served = choice_served all next choice few low it;
}

-- the jobs of a good set can all be served
pub good_meets : (all : List JobFacts) (chosen : List ℕ) → IsGood all chosen → CanMeet (jobs_at all chosen)
good_meets all chosen good = λ rules. (
  map (place chosen) good.schedule,
  lower all (place chosen) good.schedule 0 0 chosen good.numbers
      (λ i short. place_at 0 (length all) chosen good.numbers i short ∙ (let e : i ≡ 0 + i = omega arith in e))
      good.served,
)

-- some rules
abbrev some_rules : Rules
some_rules = record { ratio = fraction 1 1; version = One; finishes = [] }

-- a set of jobs that can't all be served is not good
pub not_good : (all : List JobFacts) (chosen : List ℕ) (jobs : List JobFacts) → jobs ≡ jobs_at all chosen
    → CannotMeet jobs → IsGood all chosen → ⊥
not_good all chosen jobs same cannot good =
    cannot some_rules (subst (λ js. CanMeet js) (sym same) (good_meets all chosen good) some_rules)

-- a part of a good set is good
pub part_good : (all : List JobFacts) (taken more : List ℕ) → RiseWithin 0 (length all) taken
    → IsGood all (taken ++ more) → IsGood all taken
part_good all taken more rise good = record {
  numbers = rise;
  schedule = good.schedule;
  served = λ n member. good.served n (member_front taken more n member);
}

-- ---- one job more

-- the next number behind rising ones
pub rise_with : (n : ℕ) (chosen : List ℕ) → RiseWithin 0 n chosen → RiseWithin 0 (n + 1) (chosen ++ (n ∷ []))
rise_with n chosen rise =
    rise_append 0 n (n + 1) chosen (n ∷ []) (omega arith) (omega arith) rise (omega arith, omega arith, tt)

-- the jobs of a set with a number behind it
pub jobs_with : (all : List JobFacts) (chosen : List ℕ) (n : ℕ) (j : JobFacts) → slice_get all n ≡ Some j
    → jobs_at all (chosen ++ (n ∷ [])) ≡ jobs_at all chosen ++ (j ∷ [])
jobs_with all chosen n j at = jobs_append all chosen (n ∷ [])
    ∙ ap (λ js. jobs_at all chosen ++ js) (jobs_cons all n j [] at)

-- the same, as the code finds it
pub jobs_grow : (all : List JobFacts) (chosen : List ℕ) (n : ℕ) (j : JobFacts) (jobs grown : List JobFacts)
    → n < length all → j ≡ get_or all n j
    → jobs ≡ jobs_at all chosen → grown ≡ jobs ++ (j ∷ []) → grown ≡ jobs_at all (chosen ++ (n ∷ []))
jobs_grow all chosen n j jobs grown short is same more =
    more ∙ ap (λ js. js ++ (j ∷ [])) same ∙ sym (jobs_with all chosen n j (get_is all n j short is))

-- numbers of jobs rise also with the next
pub rise_all : (all : List JobFacts) (chosen : List ℕ) (n : ℕ) → n < length all → RiseWithin 0 n chosen
    → RiseWithin 0 (length all) (chosen ++ (n ∷ []))
rise_all all chosen n short rise =
    rise_wider 0 0 (n + 1) (length all) (chosen ++ (n ∷ [])) (omega arith) (omega arith) (rise_with n chosen rise)

-- its value
pub value_with : (all : List JobFacts) (chosen : List ℕ) (n : ℕ) (j : JobFacts) → slice_get all n ≡ Some j
    → value_of all (chosen ++ (n ∷ [])) ≡ value_of all chosen + j.value
value_with all chosen n j at = value_append all chosen (n ∷ [])
    ∙ ap (λ v. value_of all chosen + v) (one ∙ value_is all n j at) where
      one : value_of all (n ∷ []) ≡ value_at all n
      one = sum_by-cons (value_at all) n [] ∙ (let e : value_at all n + 0 ≡ value_at all n = omega arith in e)

-- a choice below a number is one below the next
pub choice_later : (all : List JobFacts) (next : ℕ) (choice : Choice) → IsChoice all next choice
    → IsChoice all (next + 1) choice
choice_later all next choice it = record {
  numbers = rise_wider 0 0 next (next + 1) choice.numbers.items (omega arith) (omega arith) it.numbers;
  jobs = it.jobs;
  value = it.value;
  pieces = it.pieces;
  serves = it.serves;
}

-- ---- the two branches

module _ (all : List JobFacts) (taken : List ℕ) (next : ℕ) (rise : RiseWithin 0 next taken) where
  -- sets that hold the next number
  abbrev pub With : List ℕ → Type 0
  With other = Extends all (taken ++ (next ∷ [])) (next + 1) other

  -- and sets that don't
  abbrev pub Without : List ℕ → Type 0
  Without other = Extends all taken (next + 1) other

  -- each set is one of the two
  pub branches : (other : List ℕ) → Extends all taken next other → With other ⊎ Without other
  branches other it = by_split (rise_split next (length all) it.more it.rise) where
    by_split : ((rest : List ℕ) × (it.more ≡ next ∷ rest) × RiseWithin (suc next) (length all) rest)
        ⊎ RiseWithin (suc next) (length all) it.more
        → With other ⊎ Without other
    by_split (inl (rest, is, rising)) = inl (record {
      more = rest;
      are = it.are ∙ ap (λ ns. taken ++ ns) is ∙ sym (append_assoc taken (next ∷ []) rest);
      rise = subst (λ k. RiseWithin k (length all) rest) (sym (add-one next)) rising;
    })
    by_split (inr rising) = inr
        (record {
          more = it.more;
          are = it.are;
          rise =
              subst (λ k. RiseWithin k (length all) it.more) (sym (add-one next)) rising;
        })

  -- a set with it extends the numbers
  pub extends_with : (other : List ℕ) → next < length all → With other → Extends all taken next other
  extends_with other short it = record {
    more = next ∷ it.more;
    are = it.are ∙ append_assoc taken (next ∷ []) it.more;
    rise = (omega arith, short, subst (λ k. RiseWithin k (length all) it.more) (add-one next) it.rise);
  }

  -- and so does one without it
  pub extends_without : (other : List ℕ) → Without other → Extends all taken next other
  extends_without other it = record {
    more = it.more;
    are = it.are;
    rise = rise_wider next (next + 1) (length all) (length all) it.more (omega arith) (omega arith) it.rise;
  }

  -- a set with the next number isn't later than one without it
  pub with_first : (found other : List ℕ) → With found → Without other → IsEarlier other found → ⊥
  with_first found other has_next lacks_next earlier = elim (nat_lt_or earlier.number next) [
    | inl low ↦ earlier.lacking
        (in_with earlier.number (member_front taken (next ∷ []) earlier.number (early earlier.number low earlier.held)))
    | inr high ↦ let again : IsMember next taken = early next (omega arith) ((earlier.same_below next high).1 next_in)
        in
        let below : next < next = (rise_each 0 next taken rise next again).1 in omega arith
  ] where
    in_with : (n : ℕ) → IsMember n (taken ++ (next ∷ [])) → IsMember n found
    in_with n member = subst (IsMember n) (sym has_next.are)
        (member_front (taken ++ (next ∷ [])) has_next.more n member)

    next_in : IsMember next found
    next_in = in_with next (member_behind taken (next ∷ []) next (inl refl))

    -- a member of the other set up to the next number is one of those taken
    early : (n : ℕ) → n ≤ next → IsMember n other → IsMember n taken
    early n low member =
        by_part (member_either taken lacks_next.more n (subst (IsMember n) lacks_next.are member)) where
          by_part : IsMember n taken ⊎ IsMember n lacks_next.more → IsMember n taken
          by_part (inl front) = front
          by_part (inr later) = absurd (
              let above : next + 1 ≤ n =
              (rise_each (next + 1) (length all) lacks_next.more lacks_next.rise n later).0 in
              omega arith)

    nat_lt_or : (m n : ℕ) → (m ≤ n) ⊎ (n < m)
    nat_lt_or m n = by_bool _ (leb m n) (λ h. inl (leb-true m n h)) (λ h. inr (leb-false m n h))

  -- where the choice with the next number is no good set, none that extends it is
  pub none_with : (wanted : ℕ) → next < length all → (IsGood all (taken ++ (next ∷ [])) → ⊥)
      → NoneFound all (taken ++ (next ∷ [])) (next + 1) wanted
  none_with wanted short no_good other it good = absurd (no_good (part_good all (taken ++ (next ∷ [])) it.more
      (rise_wider _ _ _ _ _ (omega arith) (omega arith) (rise_with next taken rise))
      (subst (IsGood all) it.are good)))

  -- nothing in either
  pub none_either : (wanted : ℕ) → NoneFound all (taken ++ (next ∷ [])) (next + 1) wanted
      → NoneFound all taken (next + 1) wanted
      → NoneFound all taken next wanted
  none_either wanted none_with none_without other it good = by_branch (branches other it) where
    by_branch : With other ⊎ Without other → value_of all other < wanted
    by_branch (inl inside) = none_with other inside good
    by_branch (inr outside) = none_without other outside good

  -- something in the second alone
  pub found_without : (wanted : ℕ) (found : Choice) → NoneFound all (taken ++ (next ∷ [])) (next + 1) wanted
      → IsFound all taken (next + 1) wanted found
      → IsFound all taken next wanted found
  found_without wanted found none_with it = record {
    choice = it.choice;
    extends = extends_without found.numbers.items it.extends;
    enough = it.enough;
    greatest = λ other extends good. elim (branches other extends) [
      | inl inside ↦ let less : value_of all other < wanted = none_with other inside good in omega (arith, it.enough)
      | inr outside ↦ it.greatest other outside good
    ];
    earliest = λ other extends good same earlier. elim (branches other extends) [
      | inl inside ↦ let less : value_of all other < wanted = none_with other inside good in omega (arith, it.enough)
      | inr outside ↦ it.earliest other outside good same earlier
    ];
  }

  -- something in the first, and nothing of more value in the second
  pub found_with : (wanted : ℕ) (found : Choice) → next < length all
      → IsFound all (taken ++ (next ∷ [])) (next + 1) wanted found
      → NoneFound all taken (next + 1) (found.value + 1) → IsFound all taken next wanted found
  found_with wanted found short it none_without = record {
    choice = it.choice;
    extends = extends_with found.numbers.items short it.extends;
    enough = it.enough;
    greatest = λ other extends good. elim (branches other extends) [
      | inl inside ↦ it.greatest other inside good
      | inr outside ↦ let less : value_of all other < found.value + 1 = none_without other outside good in omega arith
    ];
    earliest = λ other extends good same earlier. elim (branches other extends) [
      | inl inside ↦ it.earliest other inside good same earlier
      | inr outside ↦ with_first found.numbers.items other it.extends outside earlier
    ];
  }

  -- something of more value in the second
  pub found_better : (wanted : ℕ) (found better : Choice) → IsFound all (taken ++ (next ∷ [])) (next + 1) wanted found
      → IsFound all taken (next + 1) (found.value + 1) better → IsFound all taken next wanted better
  found_better wanted found better it that = record {
    choice = that.choice;
    extends = extends_without better.numbers.items that.extends;
    enough = let low : wanted ≤ found.value = it.enough in let more : found.value + 1 ≤ better.value = that.enough in
        omega arith;
    greatest = λ other extends good. elim (branches other extends) [
      | inl inside ↦ omega (arith, it.greatest other inside good, that.enough)
      | inr outside ↦ that.greatest other outside good
    ];
    earliest = λ other extends good same earlier. elim (branches other extends) [
      | inl inside ↦ omega (arith, it.greatest other inside good, that.enough, same)
      | inr outside ↦ that.earliest other outside good same earlier
    ];
  }

  -- where all that is left is too little, nothing is found
  pub too_little : (wanted value left : ℕ) → value ≡ value_of all taken → left ≡ total_value (drop next all)
      → value + left < wanted
      → NoneFound all taken next wanted
  too_little wanted value left is rest less other it good =
      let most : value_of all it.more ≤ total_value (drop next all) = most_more all next it.more it.rise in
      let whole : value_of all other ≡ value_of all taken + value_of all it.more = ap (value_of all) it.are
      ∙ value_append all taken it.more in
      omega arith

  -- behind the last job the choice itself is found
  pub found_here : (wanted left : ℕ) (choice : Choice) → length all ≤ 20 → next ≡ length all
      → choice.numbers.items ≡ taken → IsChoice all next choice
      → left ≡ total_value (drop next all) → (choice.value + left < wanted → ⊥) → IsFound all taken next wanted choice
  found_here wanted left choice few last same it rest enough = record {
    choice = subst (λ k. IsChoice all k choice) last it;
    extends = record { more = []; are = same ∙ sym (append-nil taken); rise = tt };
    enough =
        let none : total_value (drop next all) ≡ 0 = ap total_value (drop_all next all (omega arith)) in
        by_test (leb wanted choice.value) refl none;
    greatest = λ other extends good. let is : value_of all other ≡ choice.value =
        ap (value_of all) (only other extends ∙ sym same) ∙ sym it.value in omega arith;
    earliest = λ other extends good value earlier. earlier.lacking
        (subst (IsMember earlier.number) (only other extends ∙ sym same) earlier.held);
  } where
    by_test : (b : Bool) → leb wanted choice.value ≡ b → total_value (drop next all) ≡ 0 → wanted ≤ choice.value
    by_test true h none = leb-true wanted choice.value h
    by_test false h none = absurd
        (enough (let less : choice.value < wanted = leb-false wanted choice.value h in omega arith))

    no_more : (more : List ℕ) → RiseWithin next (length all) more → more ≡ []
    no_more [] rising = refl
    no_more (n ∷ more) rising =
        absurd (let from : next ≤ n = rising.0 in let until : n < length all = rising.1 in omega arith)

    only : (other : List ℕ) → Extends all taken next other → other ≡ taken
    only other extends = extends.are ∙ ap (λ ns. taken ++ ns) (no_more extends.more extends.rise) ∙ append-nil taken

-- ---- as the code finds it

-- what is left behind the next job
pub left_next : (all : List JobFacts) (next : ℕ) (j : JobFacts) (left value : ℕ) → left ≡ total_value (drop next all)
    → next < length all
    → j ≡ get_or all next j → value ≡ j.value → left - value ≡ total_value (drop (next + 1) all)
left_next all next j left value rest short is same =
    let step : total_value (drop next all) ≡ (get_or all next j).value + total_value (drop (next + 1) all) =
    sum_by-drop_more (λ (i : JobFacts). i.value) all next j short in
    let here : j.value ≡ (get_or all next j).value = ap (λ (i : JobFacts). i.value) is in
    omega arith

module _ (all : List JobFacts) (taken : List ℕ) (next wanted : ℕ) where
  -- whether the next number can be put in
  abbrev pub CanPut : Option Choice → Type 0
  CanPut o = MatchOption o (IsGood all (taken ++ (next ∷ [])) → ⊥)
      (λ choice. choice.numbers.items ≡ taken ++ (next ∷ []))

  -- where it can, what is found with it
  pub put_some : (o found result : Option Choice) (with : Choice) → CanPut o → o ≡ Some with
      → IsSearched all with.numbers.items (next + 1) wanted result → found ≡ result
      → IsSearched all (taken ++ (next ∷ [])) (next + 1) wanted found
  put_some o found result with can is searched same =
      subst (IsSearched all (taken ++ (next ∷ [])) (next + 1) wanted) (sym same)
      (subst (λ numbers. IsSearched all numbers (next + 1) wanted result) (subst CanPut is can) searched)

  -- and where it can't
  pub put_none : (o found : Option Choice) → RiseWithin 0 next taken → next < length all → CanPut o → o ≡ None
      → found ≡ None
      → IsSearched all (taken ++ (next ∷ [])) (next + 1) wanted found
  put_none o found rise short can is same =
      subst (IsSearched all (taken ++ (next ∷ [])) (next + 1) wanted) (sym same)
      (none_with all taken next rise wanted short (subst CanPut is can))

  module _ (rise : RiseWithin 0 next taken) (short : next < length all) (found : Option Choice)
      (searched : IsSearched all (taken ++ (next ∷ [])) (next + 1) wanted found) where
    -- nothing is found with it
    pub after_none : {E : Type 0} (result : Result (Option Choice) E) → found ≡ None
        → IfOk result (IsSearched all taken (next + 1) wanted)
        → IfOk result (IsSearched all taken next wanted)
    after_none (Err e) is rest = tt
    after_none (Ok None) is rest = none_either all taken next rise wanted
        (subst (IsSearched all (taken ++ (next ∷ [])) (next + 1) wanted) is searched) rest
    after_none (Ok (Some choice)) is rest = found_without all taken next rise wanted choice
        (subst (IsSearched all (taken ++ (next ∷ [])) (next + 1) wanted) is searched) rest

    -- something is
    pub is_found : (best : Choice) → found ≡ Some best → IsFound all (taken ++ (next ∷ [])) (next + 1) wanted best
    is_found best is = subst (IsSearched all (taken ++ (next ∷ [])) (next + 1) wanted) is searched

    -- and something better without it
    pub after_better : (best better result : Choice) (more : Option Choice) → found ≡ Some best
        → IsSearched all taken (next + 1) (best.value + 1) more → more ≡ Some better → result ≡ better
        → IsFound all taken next wanted result
    after_better best better result more is rest better_is same = subst (IsFound all taken next wanted) (sym same)
        (found_better all taken next rise wanted best better (is_found best is)
        (subst (IsSearched all taken (next + 1) (best.value + 1)) better_is rest))

    -- or nothing better
    pub after_best : (best result : Choice) (more : Option Choice) → found ≡ Some best
        → IsSearched all taken (next + 1) (best.value + 1) more → more ≡ None → result ≡ best
        → IsFound all taken next wanted result
    after_best best result more is rest none same = subst (IsFound all taken next wanted) (sym same)
        (found_with all taken next rise wanted best short (is_found best is)
        (subst (IsSearched all taken (next + 1) (best.value + 1)) none rest))

-- ---- the whole search

-- every good set extends no numbers
pub extends_none : (all : List JobFacts) (other : List ℕ) → IsGood all other → Extends all [] 0 other
extends_none all other good = record { more = other; are = refl; rise = good.numbers }

-- what is found from no numbers on is the best set
pub found_best : (all : List JobFacts) (found : Choice) → length all ≤ 20 → IsFound all [] 0 0 found
    → IsBestSet all found.numbers.items
found_best all found few it = record {
  good = choice_good all (length all) found few (omega arith) it.choice;
  greatest = λ other good. let most : value_of all other ≤ found.value =
      it.greatest other (extends_none all other good) good in
      let value : found.value ≡ value_of all found.numbers.items = it.choice.value in omega arith;
  earliest = λ other good same. it.earliest other (extends_none all other good) good (same ∙ sym it.choice.value);
}

-- no schedule is worth more
pub found_most : (all : List JobFacts) (found : Choice) → IsFound all [] 0 0 found → (rules : Rules) (s : List ℕ)
    → worth (record { rules = rules; jobs = all }) s ≤ found.value
found_most all found it rules s =
    let most = it.greatest _ (extends_none all _ (served_good all s)) (served_good all s) in
    omega (arith, most, worth_served rules all s)

-- its own schedule is worth as much
pub found_worth : (all : List JobFacts) (found : Choice) → length all ≤ 20 → IsFound all [] 0 0 found → (rules : Rules)
    → worth (record { rules = rules; jobs = all }) (spread (map (renumbered found.numbers.items) found.pieces.items))
    ≡ found.value
found_worth all found few it rules =
    let schedule = spread (map (renumbered found.numbers.items) found.pieces.items) in
    let most : worth (record { rules = rules; jobs = all }) schedule ≤ found.value =
    found_most all found it rules schedule in
    let least : value_of all found.numbers.items ≤ worth (record { rules = rules; jobs = all }) schedule =
    value_worth rules all schedule found.numbers.items it.choice.numbers
    (choice_served all (length all) found few (omega arith) it.choice) in
    let value : found.value ≡ value_of all found.numbers.items = it.choice.value in
    omega arith

-- something is found
pub something_found : (all : List JobFacts) → NoneFound all [] 0 0 → ⊥
something_found all none =
    let less : value_of all [] < 0 = none [] (record { more = []; are = refl; rise = tt })
    (record { numbers = tt; schedule = []; served = λ n member. absurd member }) in omega arith
