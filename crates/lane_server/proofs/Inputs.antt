-- The input of more lines and of more bytes, and what is due for it.
use Rattle.std.proofs.Common.{◌≡◌, ◌<◌, ◌≤◌, ◌+◌, ℕ, suc, List, [], ◌∷◌, ◌++◌, length, refl, sym, ap, ◌∙◌, subst}
use Rattle.std.proofs.Common.{Option, Some, None, Bool, true, false, cond, append_assoc, append-nil, arith, codes}
use Rattle.std.proofs.Common.{bytes_eq, nat_lt, fold, lt-ltb, ltb-true, ltb-false}
use Rattle.std.proofs.lemmas.List.Sums.{fold-append}
use Rattle.dover_model.specs.declared.events.Version.TheVariants.{Three}
use Rattle.dover_model.specs.Common.{most_lines, whole_lines, rest_of, lines_of, is_too_long, fields_of, Begins}
use Rattle.dover_model.proofs.texts.GrowingTexts.{read_append}
use Rattle.dover_model.proofs.lists.Beginnings.{begins_in_lines}
use Rattle.dover_model.proofs.lists.Tests.{never}
use Rattle.line_text.proofs.Lengths.{AreNotTooLong, text_few}
use Rattle.lane_server.specs.Lanes.{LaneLine, OfLane, Close, lane_line, numbered_line, Handed, Input, InputStanding}
use Rattle.lane_server.specs.Lanes.{Open, Closed, Faulty, TooManyLines, BadLane, no_input, next_line, with_lane_line}
use Rattle.lane_server.specs.Lanes.{goes_on_at, goes_on, input_of_lines, input, newly_due, due_after, lane_due, HasLine}

-- ---- one line more

-- an input that goes on is open
pub is_open : (a : Input) → goes_on a ≡ true → a.standing ≡ Open
is_open a on = by_standing a.standing on where
  by_standing : (s : InputStanding) → goes_on_at s ≡ true → s ≡ Open
  by_standing Open on = refl
  by_standing _ on = never on

-- one that goes on, with a line more: whether it is one too many, and what it is
abbrev read_on : Input → Bool → Option LaneLine → Input
read_on a many o = cond many (record a { lines = suc a.lines; standing = Faulty (suc a.lines) TooManyLines }) (elim o [
  | None ↦ record a { lines = suc a.lines; standing = Faulty (suc a.lines) BadLane }
  | Some line ↦ with_lane_line (record a { lines = suc a.lines }) line
])

-- any input, with a line more
abbrev pub read_after : Input → Bool → Bool → Option LaneLine → Input
read_after a on many o = cond on (read_on a many o) a

module _ (ls : List (List ℕ)) (l : List ℕ) (opened : (input_of_lines ls).standing ≡ Open) where
  -- the input so far
  abbrev a : Input
  a = input_of_lines ls

  -- the input with the line
  next_is : (many : Bool) (o : Option LaneLine) → nat_lt (most_lines Three) (suc a.lines) ≡ many → lane_line l ≡ o
      → input_of_lines (ls ++ l ∷ []) ≡ read_on a many o
  next_is many o is reads = fold-append next_line no_input ls (l ∷ [])
      ∙ ap (λ s. read_after a (goes_on_at s) (nat_lt (most_lines Three) (suc a.lines)) (lane_line l)) opened
      ∙ ap (λ b. read_on a b (lane_line l)) is
      ∙ ap (read_on a many) reads

  -- one line too many
  pub input_many : most_lines Three < suc a.lines
      → input_of_lines (ls ++ l ∷ []) ≡ record a { lines = suc a.lines; standing = Faulty (suc a.lines) TooManyLines }
  input_many many = next_is true (lane_line l) (lt-ltb (most_lines Three) (suc a.lines) many) refl

  module _ (room : suc a.lines ≤ most_lines Three) where
    -- it isn't one too many
    few : (b : Bool) → nat_lt (most_lines Three) (suc a.lines) ≡ b → b ≡ false
    few true many = absurd (omega (arith, ltb-true (most_lines Three) (suc a.lines) many))
    few false many = refl

    -- what the line is
    next_read : (o : Option LaneLine) → lane_line l ≡ o → input_of_lines (ls ++ l ∷ []) ≡ read_on a false o
    next_read o reads = next_is false o (few (nat_lt (most_lines Three) (suc a.lines)) refl) reads

    -- a line of no lane
    pub input_bad : lane_line l ≡ None
        → input_of_lines (ls ++ l ∷ []) ≡ record a { lines = suc a.lines; standing = Faulty (suc a.lines) BadLane }
    input_bad none = next_read None none

    -- a line of a lane
    pub input_fed : (lane : ℕ) (line : List ℕ) → lane_line l ≡ Some (OfLane lane line)
        → input_of_lines (ls ++ l ∷ [])
        ≡ record a { lines = suc a.lines; handed = a.handed ++ record { lane = lane; line = line } ∷ [] }
    input_fed lane line reads = next_read (Some (OfLane lane line)) reads

    -- `close`
    pub input_closed : lane_line l ≡ Some Close
        → input_of_lines (ls ++ l ∷ []) ≡ record a { lines = suc a.lines; standing = Closed }
    input_closed reads = next_read (Some Close) reads

-- ---- what is due for more lines

-- for lines, and then for more
due_after-append : (before xs ys : List Handed)
    → due_after before (xs ++ ys) ≡ due_after before xs ++ due_after (before ++ xs) ys
due_after-append before [] ys = ap (λ b. due_after b ys) (sym (append-nil before))
due_after-append before (h ∷ xs) ys = ap (λ ls. newly_due before h ++ ls) (due_after-append (before ++ h ∷ []) xs ys
    ∙ ap (λ b. due_after (before ++ h ∷ []) xs ++ due_after b ys) (append_assoc before (h ∷ []) xs))
    ∙ sym (append_assoc (newly_due before h) (due_after (before ++ h ∷ []) xs) (due_after (before ++ h ∷ xs) ys))

-- with one line more
pub due_fed : (handed : List Handed) (h : Handed)
    → due_after [] (handed ++ h ∷ []) ≡ due_after [] handed ++ newly_due handed h
due_fed handed h = due_after-append [] handed (h ∷ [])
    ∙ ap (λ ls. due_after [] handed ++ ls) (append-nil (newly_due handed h))

-- ---- more bytes

-- more lines hand in more lines or none
abbrev pub Grows : Input → Input → Type 0
Grows a b = (more : List Handed) × (b.handed ≡ a.handed ++ more)

-- a line
line_grows : (a : Input) (on many : Bool) (o : Option LaneLine) → Grows a (read_after a on many o)
line_grows a true false (Some (OfLane lane line)) = (record { lane = lane; line = line } ∷ [], refl)
line_grows a _ _ _ = ([], sym (append-nil a.handed))

-- many lines
lines_grow : (ls : List (List ℕ)) (a : Input) → Grows a (fold next_line a ls)
lines_grow [] a = ([], sym (append-nil a.handed))
lines_grow (l ∷ ls) a =
    let one : Grows a (next_line a l) =
    line_grows a (goes_on a) (nat_lt (most_lines Three) (suc a.lines)) (lane_line l) in
    let more : Grows (next_line a l) (fold next_line (next_line a l) ls) = lines_grow ls (next_line a l) in
    (one.0 ++ more.0, more.1 ∙ ap (λ hs. hs ++ more.0) one.1 ∙ append_assoc a.handed one.0 more.0)

-- an input that doesn't go on stays
lines_stay : (ls : List (List ℕ)) (a : Input) → goes_on a ≡ false → fold next_line a ls ≡ a
lines_stay [] a over = refl
lines_stay (l ∷ ls) a over =
    ap (λ b. fold next_line (read_after a b (nat_lt (most_lines Three) (suc a.lines)) (lane_line l)) ls) over
    ∙ lines_stay ls a over

-- a line that is too long isn't read
unread : (l : List ℕ) → is_too_long l ≡ true → lane_line l ≡ None
unread l long = ap (λ b. cond b None (cond (bytes_eq l (codes "close")) (Some Close) (numbered_line (fields_of l))))
    long

-- lines that are too long count as one and the same
too_long_same : (a : Input) (l m : List ℕ) → is_too_long l ≡ true → is_too_long m ≡ true → next_line a l ≡ next_line a m
too_long_same a l m long_l long_m =
    ap (read_after a (goes_on a) (nat_lt (most_lines Three) (suc a.lines))) (unread l long_l ∙ sym (unread m long_m))

module _ (F G : List ℕ) where
  -- the input of a text that grows is that of the text, with further lines
  input_append : (ls : List (List ℕ)) × (input (F ++ G) ≡ fold next_line (input F) ls)
  input_append = read_append next_line no_input too_long_same F G

  -- it has the lines of the text, and maybe more
  pub input_grows : Grows (input F) (input (F ++ G))
  input_grows = let it = input_append in subst (Grows (input F)) (sym it.1) (lines_grow it.0 (input F))

  -- what is due only grows
  pub due_grows : Begins (lane_due F) (lane_due (F ++ G))
  due_grows = begins_in_lines (due_after [] (input F).handed) (due_after [] (input (F ++ G)).handed) (
    due_after (input F).handed input_grows.0,
    ap (due_after []) input_grows.1
        ∙ due_after-append [] (input F).handed input_grows.0,
  )

  -- a lane that has a line keeps it
  pub line_grows_on : HasLine (input F).handed → HasLine (input (F ++ G)).handed
  line_grows_on has = subst HasLine (sym input_grows.1) (by (input F).handed has) where
    by : (handed : List Handed) → HasLine handed → HasLine (handed ++ input_grows.0)
    by [] none = absurd none
    by (h ∷ handed) has = tt

  -- an input that doesn't go on stays
  pub input_stays : goes_on (input F) ≡ false → input (F ++ G) ≡ input F
  input_stays over = let it = input_append in it.1 ∙ lines_stay it.0 (input F) over

-- ---- lines that go on

-- the line is counted, and is no longer than a line may be
next_good : (a : Input) (l : List ℕ) → goes_on (next_line a l) ≡ true
    → (goes_on a ≡ true) × (suc a.lines ≤ most_lines Three) × (length l ≤ 128) × ((next_line a l).lines ≡ suc a.lines)
next_good a l on =
    by_tests (goes_on a) (nat_lt (most_lines Three) (suc a.lines)) (is_too_long l) refl refl refl on where
      -- by whether it is too long
      line_by : Bool → Option LaneLine
      line_by long = cond long None (cond (bytes_eq l (codes "close")) (Some Close) (numbered_line (fields_of l)))

      counted : (o : Option LaneLine) → (read_on a false o).lines ≡ suc a.lines
      counted (Some Close) = refl
      counted _ = refl

      by_tests : (goes many long : Bool) → goes_on a ≡ goes → nat_lt (most_lines Three) (suc a.lines) ≡ many
          → is_too_long l ≡ long
          → goes_on (read_after a goes many (line_by long)) ≡ true
          → (goes_on a ≡ true) × (suc a.lines ≤ most_lines Three) × (length l ≤ 128)
          × ((read_after a goes many (line_by long)).lines ≡ suc a.lines)
      by_tests false many long was few fits on = never (sym was ∙ on)
      by_tests true false false was few fits on = (
        was,
        ltb-false (most_lines Three) (suc a.lines) few,
        ltb-false 128 (length l) fits,
        counted (line_by false),
      )
      by_tests _ _ _ was few fits on = never on

-- lines before which the input goes on behind them
went_on : (ls : List (List ℕ)) (a : Input) → goes_on (fold next_line a ls) ≡ true → goes_on a ≡ true
went_on [] a on = on
went_on (l ∷ ls) a on = (next_good a l (went_on ls (next_line a l) on)).0

-- many lines are counted, few and short
lines_good : (ls : List (List ℕ)) (a : Input) → goes_on (fold next_line a ls) ≡ true
    → AreNotTooLong ls × ((fold next_line a ls).lines ≡ a.lines + length ls)
    × (a.lines ≤ most_lines Three → a.lines + length ls ≤ most_lines Three)
lines_good [] a on = (tt, omega arith, λ few. omega arith)
lines_good (l ∷ ls) a on =
    let good = next_good a l (went_on ls (next_line a l) on) in
    let rest = lines_good ls (next_line a l) on in
    let all : (next_line a l).lines + length ls ≤ most_lines Three = rest.2 (omega (arith, good.1, good.3)) in
    ((good.2, rest.0), omega (arith, rest.1, good.3), λ few. omega (arith, good.3))

-- an input that goes on has few lines
pub few_lines : (ls : List (List ℕ)) → goes_on (input_of_lines ls) ≡ true → (input_of_lines ls).lines ≤ most_lines Three
few_lines ls on = let good = lines_good ls no_input on in omega (arith, good.1, good.2 (omega arith))

-- a line that is too long ends it
long_ends : (ls : List (List ℕ)) (l : List ℕ) → is_too_long l ≡ true
    → goes_on (input_of_lines (ls ++ l ∷ [])) ≡ true → ⊥
long_ends ls l long on =
    let good = next_good (input_of_lines ls) l (sym (ap goes_on (fold-append next_line no_input ls (l ∷ []))) ∙ on) in
    absurd (omega (arith, good.2, ltb-true 128 (length l) long))

module _ (x : List ℕ) (on : goes_on (input x) ≡ true) where
  -- no line that has begun is too long
  pub short_rest : is_too_long (rest_of x) ≡ false
  short_rest = by (is_too_long (rest_of x)) refl where
    by : (b : Bool) → is_too_long (rest_of x) ≡ b → b ≡ false
    by false is = refl
    by true is = absurd (long_ends (whole_lines x) (rest_of x) is
        (subst (λ b. goes_on (input_of_lines (whole_lines x ++ cond b (rest_of x ∷ []) [])) ≡ true) is on))

  -- its lines are the whole ones
  lines_are : lines_of x ≡ whole_lines x
  lines_are = ap (λ b. whole_lines x ++ cond b (rest_of x ∷ []) []) short_rest ∙ append-nil (whole_lines x)

  -- all of them are counted
  pub whole_counted : (input x).lines ≡ length (whole_lines x)
  whole_counted = omega (arith, (lines_good (lines_of x) no_input on).1, ap length lines_are)

  -- it has at most so many bytes
  pub open_bytes : length x < 2_064_000_000_129
  open_bytes =
      let good = lines_good (lines_of x) no_input on in
      let few : 0 + length (whole_lines x) ≤ most_lines Three =
      subst (λ ls. 0 + length ls ≤ most_lines Three) lines_are (good.2 (omega arith)) in
      omega (
        arith,
        text_few x (most_lines Three) (subst AreNotTooLong lines_are good.0) (omega (arith, few))
            (ltb-false 128 (length (rest_of x)) short_rest),
      )
