-- What stands on the output for a lane is what its feed alone calls for.
use Rattle.std.proofs.Common.{◌≡◌, ◌<◌, ◌≤◌, ℕ, zero, suc, ◌+◌, List, [], ◌∷◌, ◌++◌, map, refl, sym, ap, ◌∙◌, subst}
use Rattle.std.proofs.Common.{Option, Some, None, Bool, true, false, cond, ◌==◌, arith, decimal, codes, length}
use Rattle.std.proofs.Common.{append_assoc, append-nil, ◌⊎◌, inl, inr, bytes_eq, nat_lt, flat_map, fold, filter}
use Rattle.std.proofs.Common.{option_and_then, ltb-true, ne_eqb, eqb-true, eq-eqb}
use Rattle.std.specs.List.{AllByRecursion, onto_first, range_with_len}
use Rattle.std.specs.Str.{all_ascii_digits}
use Rattle.std.proofs.lemmas.Bool.{and_parts, cases_lt}
use Rattle.std.proofs.lemmas.Fmt.{decimal_injective}
use Rattle.std.proofs.lemmas.Grind.{flat_map-append}
use Rattle.std.proofs.lemmas.List.Splits.{length-slice_split}
use Rattle.std.proofs.lemmas.Slice.Eq.{bytes_eq-Decides}
use Rattle.dover_model.specs.declared.events.Version.TheVariants.{Three}
use Rattle.dover_model.specs.Common.{most_lines, numeral, fields_of, line_of, in_lines, whole_lines, lines_of}
use Rattle.dover_model.specs.Common.{is_too_long, account_of_lines, account, due, due_lines, closed, short_lines}
use Rattle.dover_model.specs.Common.{refused_line}
use Rattle.dover_model.proofs.lists.Beginnings.{in_lines-append}
use Rattle.dover_model.proofs.texts.Cuts.{CutText, HasNoFeed, cut_in_lines}
use Rattle.dover_model.proofs.texts.Fields.{is_space, HasNoSpace, digits_have_no_space, line_of-fields_of}
use Rattle.dover_model.proofs.lists.Members.{all_append}
use Rattle.dover_model.proofs.texts.NoFeeds.{feedless_line, feedless_behind, feedless_decimal, decimal_digits}
use Rattle.dover_model.proofs.traces.ShortNumbers.{all_drop}
use Rattle.dover_model.proofs.lists.Tests.{never, not_true}
use Rattle.lane_server.specs.Lanes.{lane_count, LaneLine, OfLane, Close, lane_line, numbered_line, of_lane, Handed}
use Rattle.lane_server.specs.Lanes.{Input, InputStanding, Open, Closed, Faulty, TooManyLines, BadLane, no_input}
use Rattle.lane_server.specs.Lanes.{next_line, goes_on, input, lane_lines, lane_account, in_lane, lines_added}
use Rattle.lane_server.specs.Lanes.{newly_due, due_after, feed_short, lane_short, shorts_from, fault_word}
use Rattle.lane_server.specs.Lanes.{closing_lines, lanes_closed}
use Rattle.lane_server.specs.Alone.{behind_number, text_of_lane, lane_feed, closed_feed, served_alone}
use Rattle.lane_server.proofs.Feeding.{due_added}
use Rattle.lane_server.proofs.Feedless.{feedless_due, feedless_short, feedless_lines}
use Rattle.lane_server.proofs.Handing.{lines_with}
use Rattle.lane_server.proofs.Inputs.{read_after}

-- ---- what lanes are handed

-- a line of a lane that there is, with no line feed
abbrev IsPlain : Handed → Type 0
IsPlain h = HasNoFeed h.line × (h.lane < lane_count)

-- so is a line of the input, where it is one of a lane
abbrev IsPlainLine : Option LaneLine → Type 0
IsPlainLine None = Unit {0}
IsPlainLine (Some Close) = Unit {0}
IsPlainLine (Some (OfLane lane line)) = IsPlain (record { lane = lane; line = line })

-- what a line of the input hands to its lane
line_plain : (bytes : List ℕ) → HasNoFeed bytes → IsPlainLine (lane_line bytes)
line_plain bytes none = by_tests (is_too_long bytes) (bytes_eq bytes (codes "close")) where
  by_lane : (rest : List ℕ) (number : ℕ) (b : Bool) → nat_lt number lane_count ≡ b → HasNoFeed rest
      → IsPlainLine (cond b (Some (OfLane number rest)) None)
  by_lane rest number false is feedless = tt
  by_lane rest number true is feedless = (feedless, ltb-true number lane_count is)

  by_number : (rest : List ℕ) (o : Option ℕ) → HasNoFeed rest → IsPlainLine (option_and_then (of_lane rest) o)
  by_number rest None feedless = tt
  by_number rest (Some number) feedless = by_lane rest number (nat_lt number lane_count) refl feedless

  by_fields : (fields : List (List ℕ)) → line_of fields ≡ bytes → IsPlainLine (numbered_line fields)
  by_fields (first ∷ field ∷ fields) joined = by_number (line_of (field ∷ fields)) (numeral first)
      (feedless_behind first (32 ∷ line_of (field ∷ fields)) (subst HasNoFeed (sym joined) none))
  by_fields _ joined = tt

  by_tests : (b c : Bool) → IsPlainLine (cond b None (cond c (Some Close) (numbered_line (fields_of bytes))))
  by_tests false false = by_fields (fields_of bytes) (line_of-fields_of bytes)
  by_tests _ _ = tt

-- one line more
next_plain : (a : Input) (on many : Bool) (o : Option LaneLine) → AllByRecursion IsPlain a.handed → IsPlainLine o
    → AllByRecursion IsPlain (read_after a on many o).handed
next_plain a true false (Some (OfLane lane line)) all plain =
    all_append IsPlain a.handed (record { lane = lane; line = line } ∷ []) all (plain, tt)
next_plain a _ _ _ all plain = all

-- all lines
lines_plain : (ls : List (List ℕ)) (a : Input) → AllByRecursion IsPlain a.handed → AllByRecursion HasNoFeed ls
    → AllByRecursion IsPlain (fold next_line a ls).handed
lines_plain [] a all none = all
lines_plain (l ∷ ls) a all none = lines_plain ls (next_line a l)
    (next_plain a (goes_on a) (nat_lt (most_lines Three) (suc a.lines)) (lane_line l) all (line_plain l none.0)) none.1

-- what the bytes of an input hand in
input_plain : (bytes : List ℕ) → AllByRecursion IsPlain (input bytes).handed
input_plain bytes = lines_plain (lines_of bytes) no_input tt (feedless_lines bytes)

-- the lines of a lane
lane_feedless : (handed : List Handed) (lane : ℕ) → AllByRecursion IsPlain handed
    → AllByRecursion HasNoFeed (lane_lines handed lane)
lane_feedless [] lane all = tt
lane_feedless (h ∷ handed) lane all = by_test (h.lane == lane) (lane_feedless handed lane all.1) where
  by_test : (b : Bool) → AllByRecursion HasNoFeed (lane_lines handed lane)
      → AllByRecursion HasNoFeed (map (λ (x : Handed). x.line)
      (cond b (h ∷ filter (λ (x : Handed). x.lane == lane) handed) (filter (λ (x : Handed). x.lane == lane) handed)))
  by_test true rest = (all.0.0, rest)
  by_test false rest = rest

-- ---- a feed from its lines

module _ (ls : List (List ℕ)) (none : AllByRecursion HasNoFeed ls) where
  -- its account
  feed_account : account (in_lines ls) ≡ account_of_lines ls
  feed_account = ap (λ (c : CutText). account_of_lines (c.0 ++ cond (is_too_long c.1) (c.1 ∷ []) []))
      (cut_in_lines ls none)
      ∙ ap account_of_lines (append-nil ls)

  -- what is due for it
  feed_due : due (in_lines ls) ≡ in_lines (due_lines (account_of_lines ls))
  feed_due = ap (λ a. in_lines (due_lines a)) feed_account

-- what it calls for where it is closed
feed_closed : (ls : List (List ℕ)) → AllByRecursion HasNoFeed ls
    → closed_feed (in_lines ls) ≡ in_lines (due_lines (account_of_lines ls) ++ feed_short ls)
feed_closed [] none = refl
feed_closed (l ∷ ls) none = some l (in_lines ls)
    ∙ ap (λ (c : CutText). due (in_lines (l ∷ ls)) ++ in_lines (short_lines (length c.0) (account (in_lines (l ∷ ls)))))
    (cut_in_lines (l ∷ ls) none)
    ∙ ap (λ a. in_lines (due_lines a) ++ in_lines (short_lines (length (l ∷ ls)) a)) (feed_account (l ∷ ls) none)
    ∙ sym (in_lines-append (due_lines (account_of_lines (l ∷ ls))) (feed_short (l ∷ ls))) where
      some : (l rest : List ℕ) → closed_feed ((l ++ 10 ∷ []) ++ rest) ≡ closed ((l ++ 10 ∷ []) ++ rest)
      some [] rest = refl
      some (b ∷ l) rest = refl

-- one that is short
short_feedless : (ls : List (List ℕ)) → AllByRecursion HasNoFeed (feed_short ls)
short_feedless [] = tt
short_feedless (l ∷ ls) = feedless_short (length (l ∷ ls)) (account_of_lines (l ∷ ls))

-- ---- a line and its number

-- what the line says behind the lane's number, if it has it in front
abbrev picked : ℕ → List ℕ → List (List ℕ)
picked lane line = behind_number lane (fields_of line)

-- the same of lines
abbrev picks : ℕ → List (List ℕ) → List (List ℕ)
picks lane ls = flat_map (picked lane) ls

-- a field in front of a line is cut from it
front_field : (bs rest : List ℕ) → HasNoSpace bs → fields_of (bs ++ 32 ∷ rest) ≡ bs ∷ fields_of rest
front_field [] rest none = refl
front_field (b ∷ bs) rest none = let both = and_parts _ _ none in
    ap (λ c. cond c ([] ∷ fields_of (bs ++ 32 ∷ rest)) (onto_first b (fields_of (bs ++ 32 ∷ rest))))
    (not_true (is_space b) both.0)
    ∙ ap (onto_first b) (front_field bs rest both.1)

-- a line behind a field is picked where the field is the lane's number
picked_behind : (lane : ℕ) (field line : List ℕ) → HasNoSpace field
    → picked lane (field ++ 32 ∷ line) ≡ cond (bytes_eq field (decimal lane)) (line ∷ []) []
picked_behind lane field line none = ap (behind_number lane) (front_field field line none)
    ∙ by_fields (fields_of line) (omega (arith, length-slice_split is_space line)) (line_of-fields_of line) where
      by_fields : (fields : List (List ℕ)) → 0 < length fields → line_of fields ≡ line
          → behind_number lane (field ∷ fields) ≡ cond (bytes_eq field (decimal lane)) (line ∷ []) []
      by_fields [] some joined = absurd (omega arith)
      by_fields (next ∷ fields) some joined = ap (λ l. cond (bytes_eq field (decimal lane)) (l ∷ []) []) joined

-- numbers of lanes are told apart by their numerals
same_number : (m lane : ℕ) → m < lane_count → lane < lane_count → bytes_eq (decimal m) (decimal lane) ≡ (m == lane)
same_number m lane low_m low = by_test (bytes_eq (decimal m) (decimal lane)) refl where
  by_test : (b : Bool) → bytes_eq (decimal m) (decimal lane) ≡ b → b ≡ (m == lane)
  by_test true is = sym (eq-eqb m lane
      (decimal_injective m lane (omega arith) (omega arith) ((bytes_eq-Decides (decimal m) (decimal lane)).0 is)))
  by_test false is = sym (ne_eqb m lane (λ same. never (sym is
      ∙ (bytes_eq-Decides (decimal m) (decimal lane)).1 (ap decimal same))))

-- no lane's number is the word that refuses the input
no_number : (lane : ℕ) → bytes_eq (codes "refused") (decimal lane) ≡ false
no_number lane = by_test (bytes_eq (codes "refused") (decimal lane)) refl where
  by_test : (b : Bool) → bytes_eq (codes "refused") (decimal lane) ≡ b → b ≡ false
  by_test true is = never
      (ap all_ascii_digits ((bytes_eq-Decides (codes "refused") (decimal lane)).0 is) ∙ decimal_digits lane)
  by_test false is = refl

module _ (lane : ℕ) (low : lane < lane_count) where
  -- ---- the lines of the lane

  -- of these lines, in which no line feed is, those are picked
  abbrev IsOf : List (List ℕ) → List (List ℕ) → Type 0
  IsOf out own = AllByRecursion HasNoFeed out × (picks lane out ≡ own)

  -- lines, and more
  of_both : (out more own others : List (List ℕ)) → IsOf out own → IsOf more others
      → IsOf (out ++ more) (own ++ others)
  of_both out more own others one two = (
    all_append HasNoFeed out more one.0 two.0,
    flat_map-append (picked lane) out more ∙ ap (λ ls. ls ++ picks lane more) one.1 ∙ ap (λ ls. own ++ ls) two.1,
  )

  -- lines in a lane
  of_in_lane : (m : ℕ) (ls : List (List ℕ)) (b : Bool) → m < lane_count → AllByRecursion HasNoFeed ls → (m == lane) ≡ b
      → IsOf (map (in_lane m) ls) (cond b ls [])
  of_in_lane m [] true low_m none is = (tt, refl)
  of_in_lane m [] false low_m none is = (tt, refl)
  of_in_lane m (l ∷ ls) b low_m none is =
      let rest = of_in_lane m ls b low_m none.1 is in (
        (feedless_line (decimal m) (l ∷ []) (feedless_decimal m) (none.0, tt), rest.0),
        ap (λ xs. xs ++ picks lane (map (in_lane m) ls))
            (picked_behind lane (decimal m) l (digits_have_no_space (decimal m) (decimal_digits m))
            ∙ ap (λ c. cond c (l ∷ []) []) (same_number m lane low_m low ∙ is))
            ∙ ap (λ xs. cond b (l ∷ []) [] ++ xs) rest.1
            ∙ joined b,
      )
    where
      joined : (c : Bool) → cond c (l ∷ []) [] ++ cond c ls [] ≡ cond c (l ∷ ls) []
      joined true = refl
      joined false = refl

  -- the line that refuses the input
  of_refusal : (line : ℕ) (word : List ℕ) → HasNoFeed word → IsOf (refused_line line word ∷ []) []
  of_refusal line word none = (
    (feedless_line (codes "refused") (decimal line ∷ word ∷ []) refl (feedless_decimal line, (none, tt)), tt),
    ap (λ xs. xs ++ []) (picked_behind lane (codes "refused") (line_of (decimal line ∷ word ∷ [])) refl
        ∙ ap (λ c. cond c (line_of (decimal line ∷ word ∷ []) ∷ []) []) (no_number lane)),
  )

  -- ---- what is due

  -- for a line more
  due_newly : (before : List Handed) (h : Handed) (b : Bool) → (h.lane == lane) ≡ b
      → due_lines (lane_account before lane) ++ cond b (lines_added (lane_lines before h.lane) h.line) [] ≡ due_lines
      (lane_account (before ++ h ∷ []) lane)
  due_newly before h true is =
      ap (λ i. due_lines (lane_account before lane) ++ lines_added (lane_lines before i) h.line)
      (eqb-true h.lane lane is)
      ∙ sym (due_added (lane_lines before lane) h.line)
      ∙ ap (λ ls. due_lines (account_of_lines ls)) (sym (lines_with before h lane
      ∙ ap (λ c. lane_lines before lane ++ cond c (h.line ∷ []) []) is))
  due_newly before h false is = append-nil (due_lines (lane_account before lane))
      ∙ ap (λ ls. due_lines (account_of_lines ls)) (sym (lines_with before h lane
      ∙ ap (λ c. lane_lines before lane ++ cond c (h.line ∷ []) []) is ∙ append-nil (lane_lines before lane)))

  -- for all lines
  of_due : (before handed : List Handed) → AllByRecursion IsPlain handed
      → (own : List (List ℕ)) × IsOf (due_after before handed) own
      × (due_lines (lane_account before lane) ++ own ≡ due_lines (lane_account (before ++ handed) lane))
  of_due before [] all = (
    [],
    (tt, refl),
    append-nil (due_lines (lane_account before lane))
        ∙ ap (λ hs. due_lines (lane_account hs lane)) (sym (append-nil before)),
  )
  of_due before (h ∷ handed) all =
      let added : List (List ℕ) = lines_added (lane_lines before h.lane) h.line in
      let own : List (List ℕ) = cond (h.lane == lane) added [] in
      let one : IsOf (newly_due before h) own = of_in_lane h.lane added (h.lane == lane) all.0.1
      (all_drop HasNoFeed _ (due_lines (account_of_lines (lane_lines before h.lane ++ h.line ∷ [])))
      (feedless_due (account_of_lines (lane_lines before h.lane ++ h.line ∷ [])))) refl in
      let rest = of_due (before ++ h ∷ []) handed all.1 in (
        own ++ rest.0,
        of_both (newly_due before h) (due_after (before ++ h ∷ []) handed) own rest.0 one rest.1,
        sym (append_assoc (due_lines (lane_account before lane)) own rest.0)
            ∙ ap (λ ls. ls ++ rest.0) (due_newly before h (h.lane == lane) refl)
            ∙ rest.2 ∙ ap (λ hs. due_lines (lane_account hs lane)) (append_assoc before (h ∷ []) handed),
      )

  -- ---- short lanes

  -- what is picked of the lanes in a range
  abbrev among : (ℕ → List (List ℕ)) → ℕ → ℕ → List (List ℕ)
  among of from more = flat_map (λ i. cond (i == lane) (of i) []) (range_with_len from more)

  -- nothing behind this one
  none_behind : (of : ℕ → List (List ℕ)) (from more : ℕ) → lane < from → among of from more ≡ []
  none_behind of from zero behind = refl
  none_behind of from (suc more) behind =
      ap (λ b. cond b (of from) [] ++ among of (from + 1) more) (ne_eqb from lane (λ e. absurd (omega arith)))
      ∙ none_behind of (from + 1) more (omega arith)

  -- what is of it, where it is in the range
  one_among : (of : ℕ → List (List ℕ)) (from more : ℕ) → from ≤ lane → lane < from + more
      → among of from more ≡ of lane
  one_among of from zero least most = absurd (omega arith)
  one_among of from (suc more) least most =
      by_order (cases_lt from lane) (λ below. one_among of (from + 1) more (omega arith) (omega arith)) where
        by_order : (from < lane) ⊎ (lane ≤ from) → (from < lane → among of (from + 1) more ≡ of lane)
            → cond (from == lane) (of from) [] ++ among of (from + 1) more ≡ of lane
        by_order (inl below) rest =
            ap (λ b. cond b (of from) [] ++ among of (from + 1) more) (ne_eqb from lane (λ e. absurd (omega arith)))
            ∙ rest below
        by_order (inr above) rest =
            let same : from ≡ lane = omega arith in
            ap (λ b. cond b (of from) [] ++ among of (from + 1) more) (eq-eqb from lane same)
            ∙ ap (λ ls. of from ++ ls) (none_behind of (from + 1) more (omega arith))
            ∙ append-nil (of from) ∙ ap of same

  -- the short lines of a range
  of_range : (handed : List Handed) (from more : ℕ) → from + more ≤ lane_count
      → IsOf (flat_map (lane_short handed) (range_with_len from more))
      (among (λ i. feed_short (lane_lines handed i)) from more)
  of_range handed from zero within = (tt, refl)
  of_range handed from (suc more) within =
      of_both (lane_short handed from) (flat_map (lane_short handed) (range_with_len (from + 1) more))
      (cond (from == lane) (feed_short (lane_lines handed from)) [])
      (among (λ i. feed_short (lane_lines handed i)) (from + 1) more)
      (of_in_lane from (feed_short (lane_lines handed from)) (from == lane) (omega arith)
      (short_feedless (lane_lines handed from)) refl)
      (of_range handed (from + 1) more (omega arith))

  -- of all lanes
  of_shorts : (handed : List Handed) → IsOf (shorts_from handed 0 lane_count) (feed_short (lane_lines handed lane))
  unfolding shorts_from
  of_shorts handed = let all = of_range handed 0 lane_count (omega arith) in (
    all.0,
    all.1 ∙ one_among (λ i. feed_short (lane_lines handed i)) 0 lane_count (omega arith) (omega (arith, low)),
  )

  -- ---- the whole output

  module _ (handed : List Handed) (all : AllByRecursion IsPlain handed) where
    -- the lane's lines among what is due and the closing lines
    lane_text : (closing own : List (List ℕ)) → IsOf closing own
        → text_of_lane lane (in_lines (due_after [] handed) ++ in_lines closing) ≡ in_lines
        (due_lines (lane_account handed lane) ++ own)
    lane_text closing own it =
        let given = of_due [] handed all in
        let whole = of_both (due_after [] handed) closing given.0 own given.1 it in
        ap (text_of_lane lane) (sym (in_lines-append (due_after [] handed) closing))
        ∙ ap (λ (c : CutText). in_lines (picks lane c.0)) (cut_in_lines (due_after [] handed ++ closing) whole.0)
        ∙ ap in_lines (whole.1 ∙ ap (λ ls. ls ++ own) given.2)

    -- where the input is refused
    lane_refused : (line : ℕ) (word : List ℕ) → HasNoFeed word
        → text_of_lane lane (in_lines (due_after [] handed) ++ in_lines (refused_line line word ∷ [])) ≡ due
        (in_lines (lane_lines handed lane))
    lane_refused line word none = lane_text (refused_line line word ∷ []) [] (of_refusal line word none)
        ∙ ap in_lines (append-nil (due_lines (lane_account handed lane)))
        ∙ sym (feed_due (lane_lines handed lane) (lane_feedless handed lane all))

    -- by how the session ended
    lane_alone : (lines whole : ℕ) (s : InputStanding)
        → text_of_lane lane (in_lines (due_after [] handed) ++ in_lines
        (closing_lines whole (record { lines = lines; handed = handed; standing = s })))
        ≡ served_alone (record { lines = lines; handed = handed; standing = s }) lane
    lane_alone lines whole Open = lane_refused (suc whole) (codes "short") refl
    lane_alone lines whole Closed =
        lane_text (shorts_from handed 0 lane_count) (feed_short (lane_lines handed lane)) (of_shorts handed)
        ∙ sym (feed_closed (lane_lines handed lane) (lane_feedless handed lane all))
    lane_alone lines whole (Faulty line TooManyLines) = lane_refused line (fault_word TooManyLines) refl
    lane_alone lines whole (Faulty line BadLane) = lane_refused line (fault_word BadLane) refl

-- what stands on the output for a lane is what its feed alone calls for
pub alone : (bytes : List ℕ) (lane : ℕ) → lane < lane_count
    → text_of_lane lane (lanes_closed bytes) ≡ served_alone (input bytes) lane
alone bytes lane low = lane_alone lane low (input bytes).handed (input_plain bytes) (input bytes).lines
    (length (whole_lines bytes))
    (input bytes).standing

-- what the feed of a lane says is what the lines that the lane was handed say
pub lane_feed_account : (bytes : List ℕ) (lane : ℕ)
    → account (lane_feed (input bytes) lane) ≡ lane_account (input bytes).handed lane
lane_feed_account bytes lane =
    feed_account (lane_lines (input bytes).handed lane) (lane_feedless (input bytes).handed lane (input_plain bytes))
