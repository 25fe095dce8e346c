-- What lines come to, as the bytes that they are cut from grow.
use Rattle.std.proofs.Common.{◌≡◌, ◌≤◌, ◌<◌, ◌+◌, ◌^◌, ◌-◌, ℕ, suc, List, [], ◌∷◌, ◌++◌, length, refl, sym, ap, ◌∙◌}
use Rattle.std.proofs.Common.{subst, Bool, true, false, cond, fold, ltb-false, append-nil, arith}
use Rattle.std.proofs.lemmas.Bool.{false_from_ne_true}
use Rattle.std.proofs.lemmas.List.Sums.{fold-append}
use Rattle.dover_model.specs.Lines.{lines_of, whole_lines, rest_of, is_too_long}
use Rattle.dover_model.proofs.texts.GrowingTexts.{read_append}
use Rattle.dover_port.specs.declared.status.Status.{Status}
use Rattle.line_text.proofs.Lengths.{AreNotTooLong, text_few}
use Rattle.dialogue.specs.Talk.{IsSteady}
use Rattle.dialogue.specs.Reading.{Reading, lines_talk, read_lines}
use Rattle.dialogue.specs.Taking.{IsGood, IsOrderly}

module _ {A : Type 0} (r : Reading A) where
  -- one line more
  pub read_more : (ls : List (List ℕ)) (line : List ℕ)
      → read_lines r (ls ++ line ∷ []) ≡ r.next (read_lines r ls) line
  read_more ls line = fold-append r.next r.start ls (line ∷ [])

  -- what each line keeps
  all_behind : (P : A → Type 0) → ((a : A) (line : List ℕ) → P a → P (r.next a line)) → (ls : List (List ℕ)) (a : A)
      → P a → P (fold r.next a ls)
  all_behind P keeps [] a it = it
  all_behind P keeps (l ∷ ls) a it = all_behind P keeps ls (r.next a l) (keeps a l it)

module _ {A : Type 0} (r : Reading A) (o : IsOrderly r) where
  -- more bytes keep it too
  pub bytes_behind : (P : A → Type 0) → ((a : A) (line : List ℕ) → P a → P (r.next a line)) → (x y : List ℕ)
      → P (read_lines r (lines_of x)) → P (read_lines r (lines_of (x ++ y)))
  bytes_behind P keeps x y it =
      let more = read_append r.next r.start o.same x y in
      subst P (sym more.1) (all_behind r P keeps more.0 (read_lines r (lines_of x)) it)

  -- ---- a reading that goes on

  -- it did so before this line
  went_on : (a : A) (line : List ℕ) → r.goes_on (r.next a line) ≡ true → r.goes_on a ≡ true
  went_on a line on = by (r.goes_on a) refl where
    by : (b : Bool) → r.goes_on a ≡ b → r.goes_on a ≡ true
    by true is = is
    by false is = absurd (let e : true ≡ false = sym on ∙ o.stays a line is in cc)

  -- its lines are few and short, and each is counted
  record AreGood (ls : List (List ℕ)) (a : A) : Type 0 where
    pub first : r.goes_on a ≡ true
    pub short : AreNotTooLong ls
    pub few : o.lines a ≤ 2 ^ 40 → o.lines a + length ls ≤ 2 ^ 40
    pub counted : o.lines (fold r.next a ls) ≡ o.lines a + length ls

  lines_good : (ls : List (List ℕ)) (a : A) → r.goes_on (fold r.next a ls) ≡ true → AreGood ls a
  lines_good [] a on = record { first = on; short = tt; few = λ few. omega arith; counted = omega arith }
  lines_good (l ∷ ls) a on =
      let rest : AreGood ls (r.next a l) = lines_good ls (r.next a l) on in
      let good : IsGood o.lines a l (r.next a l) = o.good a l rest.first in
      let count : o.lines (r.next a l) ≡ suc (o.lines a) = good.counted in
      let low : o.lines a < 2 ^ 40 = good.few in
      let all : o.lines (r.next a l) + length ls ≤ 2 ^ 40 = rest.few (omega (arith, low, count)) in
      record {
        first = went_on a l rest.first;
        short = (ltb-false _ _ good.short, rest.short);
        few = λ few. omega (arith, all, count);
        counted = omega (arith, rest.counted, count);
      }

  -- so the account counts them
  pub on_counted : (ls : List (List ℕ)) → r.goes_on (read_lines r ls) ≡ true
      → (o.lines (read_lines r ls) ≡ length ls) × (length ls ≤ 2 ^ 40)
  on_counted ls on =
      let good : AreGood ls r.start = lines_good ls r.start on in
      let all : o.lines r.start + length ls ≤ 2 ^ 40 = good.few (omega (arith, o.none)) in
      (omega (arith, good.counted, o.none), omega (arith, all, o.none))

  module _ (x : List ℕ) (on : r.goes_on (read_lines r (lines_of x)) ≡ true) where
    -- no line that has begun is too long
    pub on_short : is_too_long (rest_of x) ≡ false
    on_short = false_from_ne_true (is_too_long (rest_of x)) (λ long.
        let ended : lines_of x ≡ whole_lines x ++ rest_of x ∷ [] =
        ap (λ b. whole_lines x ++ cond b (rest_of x ∷ []) []) long in
        let good = o.good (read_lines r (whole_lines x)) (rest_of x)
        (ap r.goes_on (sym (read_more r (whole_lines x) (rest_of x)) ∙ ap (read_lines r) (sym ended)) ∙ on) in
        absurd (let e : true ≡ false = sym long ∙ good.short in cc))

    -- all lines are whole
    pub on_whole : lines_of x ≡ whole_lines x
    on_whole = ap (λ b. whole_lines x ++ cond b (rest_of x ∷ []) []) on_short ∙ append-nil (whole_lines x)

    -- it has few bytes
    pub on_few : length x < 2 ^ 64 - 1
    on_few =
        let good : AreGood (lines_of x) r.start = lines_good (lines_of x) r.start on in
        let few : length (whole_lines x) ≤ 2 ^ 40 =
        subst (λ ls. length ls ≤ 2 ^ 40) on_whole (on_counted (lines_of x) on).1 in
        omega (
          arith,
          text_few x (2 ^ 40) (subst AreNotTooLong on_whole good.short) few (ltb-false _ _ on_short),
        )

  -- ---- the talk

  pub lines_steady : IsSteady (lines_talk r)
  lines_steady = record {
    opens = o.opens;
    nothing = refl;
    grows = λ x y. ([], refl);
    stays = λ x y over. bytes_behind (λ a. r.goes_on a ≡ false) o.stays x y over;
    answered = λ x y status text over it. (bytes_behind (λ a. (r.goes_on a ≡ false) × r.answer a status text)
        (λ a l kept. (o.stays a l kept.0, o.answered a l status text kept.0 kept.1)) x y (over, it)).1;
    lacking = λ x y it. bytes_behind (λ a. r.lacks a false) o.lacking x y it;
  }

-- ---- an account that nothing is added to once it ends

module _ {A : Type 0} (r : Reading A) (closed : (a : A) (line : List ℕ) → r.goes_on a ≡ false → r.next a line ≡ a) where
  pub closed_stays : (a : A) (line : List ℕ) → r.goes_on a ≡ false → r.goes_on (r.next a line) ≡ false
  closed_stays a line over = ap r.goes_on (closed a line over) ∙ over

  pub closed_answered : (a : A) (line : List ℕ) (status : Status) (text : List ℕ) → r.goes_on a ≡ false
      → r.answer a status text → r.answer (r.next a line) status text
  closed_answered a line status text over it = subst (λ b. r.answer b status text) (sym (closed a line over)) it
