-- What more bytes make of a reading: a line that is refused stays so, and a snapshot that is whole has bytes behind it.
use Rattle.std.proofs.Common.{◌≡◌, ◌<◌, ℕ, List, [], ◌∷◌, ◌++◌, append_assoc, append-nil, length, drop, refl, sym, ap}
use Rattle.std.proofs.Common.{◌∙◌, Bool, true, false, cond, arith, length-append, fold, ltb-true, lt-ltb}
use Rattle.std.proofs.lemmas.List.Sums.{fold-append}
use Rattle.dover_model.specs.declared.events.Task.{Task}
use Rattle.dover_model.specs.Common.{Item}
use Rattle.dover_model.specs.Lines.{cut, in_lines, lines_of, whole_lines, rest_of, is_too_long}
use Rattle.dover_model.proofs.texts.Cuts.{CutText, onto, put_before, cut_append}
use Rattle.dover_model.proofs.lists.Beginnings.{in_lines-append}
use Rattle.snapshot.specs.Snapshot.{MayPause, Head, snapshot}
use Rattle.snapshot.specs.Reading.{Reading, Begun, Going, Taken, Refused, refused_behind, next_line, reading_of}
use Rattle.dover_model.proofs.traces.AcceptedTexts.{text_joined}
use Rattle.feed_words.proofs.resume.Taking.{IsWholeFront, taken_whole, refused_stays, taken_stays}
use Rattle.snapshot.proofs.Whole.{shortest_may, shortest_text}
use Rattle.feed_words.specs.resume.Talk.{feed_of, behind_snapshot}
use Rattle.feed_words.proofs.resume.Opened.{long_next, long_reading}

-- ---- bytes before a cut text

onto_none : (bs r : List ℕ) → onto bs ([], r) ≡ ([], bs ++ r)
onto_none [] r = refl
onto_none (b ∷ bs) r = ap (λ (c : CutText). put_before b c.0 c.1) (onto_none bs r)

onto_some : (bs l : List ℕ) (ls : List (List ℕ)) (r : List ℕ) → onto bs (l ∷ ls, r) ≡ ((bs ++ l) ∷ ls, r)
onto_some [] l ls r = refl
onto_some (b ∷ bs) l ls r = ap (λ (c : CutText). put_before b c.0 c.1) (onto_some bs l ls r)

-- lines that go on behind others
pub reading_behind : (ls ms : List (List ℕ)) → reading_of (ls ++ ms) ≡ fold next_line (reading_of ls) ms
reading_behind ls ms = fold-append next_line Begun ls ms

module _ (x : List ℕ) where
  -- the lines, with one that has begun and is too long
  lines_are : (b : Bool) → is_too_long (rest_of x) ≡ b → lines_of x ≡ whole_lines x ++ cond b (rest_of x ∷ []) []
  lines_are b e = ap (λ b. whole_lines x ++ cond b (rest_of x ∷ []) []) e

  pub only_whole : is_too_long (rest_of x) ≡ false → lines_of x ≡ whole_lines x
  only_whole short = lines_are false short ∙ append-nil (whole_lines x)

  -- what a line that is too long makes of the whole ones
  long_lines : is_too_long (rest_of x) ≡ true → reading_of (lines_of x) ≡ long_reading (reading_of (whole_lines x))
  long_lines long = ap reading_of (lines_are true long) ∙ reading_behind (whole_lines x) (rest_of x ∷ [])
      ∙ long_next (reading_of (whole_lines x)) (rest_of x) long

  -- a snapshot is taken by its whole lines
  pub whole_taken : (h : Head) (items : List Item) (ts : List Task) → reading_of (lines_of x) ≡ Taken h items ts
      → reading_of (whole_lines x) ≡ Taken h items ts
  whole_taken h items ts is = by (is_too_long (rest_of x)) refl where
    by_reading : (r : Reading) → long_reading r ≡ Taken h items ts → r ≡ Taken h items ts
    by_reading Begun e = absurd (let clash : Refused 1 ≡ Taken h items ts = e in cc)
    by_reading (Going g js us) e = absurd (let clash : refused_behind js ≡ Taken h items ts = e in cc)
    by_reading _ e = e

    by : (b : Bool) → is_too_long (rest_of x) ≡ b → reading_of (whole_lines x) ≡ Taken h items ts
    by false short = ap reading_of (sym (only_whole short)) ∙ is
    by true long = by_reading (reading_of (whole_lines x)) (sym (long_lines long) ∙ is)

  module _ (y : List ℕ) where
    -- the lines that come
    abbrev more_lines : CutText → List (List ℕ)
    more_lines c = c.0 ++ cond (is_too_long c.1) (c.1 ∷ []) []

    all_more : lines_of (x ++ y) ≡ whole_lines x ++ more_lines (onto (rest_of x) (cut y))
    all_more = ap (λ (c : CutText). c.0 ++ cond (is_too_long c.1) (c.1 ∷ []) []) (cut_append x y)
        ∙ append_assoc (whole_lines x) (onto (rest_of x) (cut y)).0
        (cond (is_too_long (onto (rest_of x) (cut y)).1) ((onto (rest_of x) (cut y)).1 ∷ []) [])

    reading_more : reading_of (lines_of (x ++ y))
        ≡ fold next_line (reading_of (whole_lines x)) (more_lines (onto (rest_of x) (cut y)))
    reading_more = ap reading_of all_more ∙ reading_behind (whole_lines x) (more_lines (onto (rest_of x) (cut y)))

    -- a snapshot that is taken stays so
    pub taken_on : (h : Head) (items : List Item) (ts : List Task) → reading_of (lines_of x) ≡ Taken h items ts
        → reading_of (lines_of (x ++ y)) ≡ Taken h items ts
    taken_on h items ts is = reading_more
        ∙ ap (λ r. fold next_line r (more_lines (onto (rest_of x) (cut y)))) (whole_taken h items ts is)
        ∙ taken_stays h items ts (more_lines (onto (rest_of x) (cut y)))

    -- a line that goes on from one that is too long is too long
    still_long : is_too_long (rest_of x) ≡ true → (l : List ℕ) → is_too_long (rest_of x ++ l) ≡ true
    still_long long l = let above : 128 < length (rest_of x) = ltb-true _ _ long in
        lt-ltb 128 (length (rest_of x ++ l)) (omega (arith, above, length-append (rest_of x) l))

    -- so the lines that come begin with one
    long_first : is_too_long (rest_of x) ≡ true → (c : CutText)
        → (l : List ℕ) × (ls : List (List ℕ)) × (more_lines (onto (rest_of x) c) ≡ (rest_of x ++ l) ∷ ls)
    long_first long ([], r) = (
      r,
      [],
      ap more_lines (onto_none (rest_of x) r)
          ∙ ap (λ b. cond b ((rest_of x ++ r) ∷ []) []) (still_long long r),
    )
    long_first long (l ∷ ls, r) =
        (l, ls ++ cond (is_too_long r) (r ∷ []) [], ap more_lines (onto_some (rest_of x) l ls r))

    -- a line that is refused stays so
    pub refused_on : (at : ℕ) → reading_of (lines_of x) ≡ Refused at → reading_of (lines_of (x ++ y)) ≡ Refused at
    refused_on at is = by (is_too_long (rest_of x)) refl where
      by : (b : Bool) → is_too_long (rest_of x) ≡ b → reading_of (lines_of (x ++ y)) ≡ Refused at
      by false short = reading_more
          ∙ ap (λ r. fold next_line r (more_lines (onto (rest_of x) (cut y))))
          (ap reading_of (sym (only_whole short)) ∙ is)
          ∙ refused_stays at (more_lines (onto (rest_of x) (cut y)))
      by true long = let first = long_first long (cut y) in
          reading_more ∙ ap (fold next_line (reading_of (whole_lines x))) first.2
          ∙ ap (λ r. fold next_line r first.1)
          (long_next (reading_of (whole_lines x)) (rest_of x ++ first.0) (still_long long first.0)
          ∙ sym (long_lines long) ∙ is)
          ∙ refused_stays at first.1

-- ---- a whole snapshot

-- what comes behind a list, without that list
dropped : (front rest : List ℕ) → drop (length front) (front ++ rest) ≡ rest
dropped [] rest = refl
dropped (b ∷ front) rest = dropped front rest

module _ (x : List ℕ) (h : Head) (items : List Item) (ts : List Task)
    (is : reading_of (lines_of x) ≡ Taken h items ts) where
  abbrev pub front : IsWholeFront h items ts (whole_lines x)
  front = taken_whole h items ts (whole_lines x) (whole_taken x h items ts is)

  -- its feed may pause
  pub feed_may : MayPause (feed_of h items)
  feed_may = shortest_may h items ts front.front front.whole

  pub feed_text : snapshot (feed_of h items) ≡ in_lines front.front
  feed_text = shortest_text h items ts front.front front.whole

  -- the bytes are its snapshot, and what follows
  first_part : x ≡ snapshot (feed_of h items) ++ (in_lines front.more ++ rest_of x)
  first_part = sym (text_joined x) ∙ ap (λ ls. in_lines ls ++ rest_of x) front.cut
      ∙ ap (λ l. l ++ rest_of x) (in_lines-append front.front front.more)
      ∙ append_assoc (in_lines front.front) (in_lines front.more) (rest_of x)
      ∙ ap (λ l. l ++ (in_lines front.more ++ rest_of x)) (sym feed_text)

  behind_is : behind_snapshot h items x ≡ in_lines front.more ++ rest_of x
  behind_is = ap (drop (length (snapshot (feed_of h items)))) first_part
      ∙ dropped (snapshot (feed_of h items)) (in_lines front.more ++ rest_of x)

  pub parts_are : x ≡ snapshot (feed_of h items) ++ behind_snapshot h items x
  parts_are = first_part ∙ ap (λ l. snapshot (feed_of h items) ++ l) (sym behind_is)

  -- more bytes come behind these
  pub behind_on : (y : List ℕ) → behind_snapshot h items (x ++ y) ≡ behind_snapshot h items x ++ y
  behind_on y = ap (λ l. behind_snapshot h items (l ++ y)) parts_are
      ∙ ap (behind_snapshot h items) (append_assoc (snapshot (feed_of h items)) (behind_snapshot h items x) y)
      ∙ dropped (snapshot (feed_of h items)) (behind_snapshot h items x ++ y)
