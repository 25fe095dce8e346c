-- Snapshots of feeds are whole, no front of one is refused, and one ends by itself.
use Rattle.std.proofs.Common.{◌≡◌, ◌⊎◌, inl, inr, ℕ, List, [], ◌∷◌, ◌++◌, length, length-append, refl, sym}
use Rattle.std.proofs.Common.{ap, ◌∙◌, subst, arith, Some, codes, fold}
use Rattle.std.proofs.lemmas.List.Sums.{fold-append}
use Rattle.dover_model.specs.declared.events.Task.{Task}
use Rattle.dover_model.specs.Common.{Item, Session, in_lines, whole_lines, rest_of, account, Begins}
use Rattle.snapshot.specs.Snapshot.{MayPause, Head, head_of_feed, snapshot_lines, snapshot}
use Rattle.snapshot.specs.Reading.{Begun, Going, Taken, Refused, next_line, reading_of}
use Rattle.snapshot.specs.Kept.{IsWhole}
use Rattle.event_feed.proofs.Behind.{whole_joined, rest_joined, whole_behind}
use Rattle.snapshot.proofs.Feeds.{named, tasks, lines_taken, is_whole, lines_feedless, snapshot_is}
use Rattle.snapshot.proofs.RunItems.{kept}

module _ (F : List ℕ) (may : MayPause F) where
  abbrev S : Session
  S = (named F may).0

  pub there : (account F).session ≡ Some S
  there = (named F may).1

  -- the lines of its snapshot
  pub lines_are : whole_lines (snapshot F) ≡ snapshot_lines (account F) S
  lines_are = ap whole_lines (snapshot_is F may S there)
      ∙ whole_joined (snapshot_lines (account F) S) (lines_feedless F may S there)

  -- they are whole
  pub whole_lines_are : IsWhole (head_of_feed (account F) S) (kept S.items) (tasks F may S there)
      (snapshot_lines (account F) S)
  whole_lines_are = is_whole F may S there

  pub snapshot_whole : (h : Head) × (items : List Item) × (ts : List Task)
      × IsWhole h items ts (whole_lines (snapshot F))
  snapshot_whole = (
    head_of_feed (account F) S,
    kept S.items,
    tasks F may S there,
    subst (IsWhole (head_of_feed (account F) S) (kept S.items) (tasks F may S there)) (sym lines_are) whole_lines_are,
  )

  -- a refused line stays refused
  stays : (at : ℕ) (ls : List (List ℕ)) → fold next_line (Refused at) ls ≡ Refused at
  stays at [] = refl
  stays at (l ∷ ls) = stays at ls

  -- no front of them is refused
  pub never_refused : (ls : List (List ℕ)) (at : ℕ) → Begins ls (whole_lines (snapshot F)) → reading_of ls ≡ Refused at
      → ⊥
  never_refused ls at begins refused =
      let behind : reading_of (whole_lines (snapshot F)) ≡ Refused at = ap reading_of begins.1
      ∙ fold-append next_line Begun ls begins.0 ∙ ap (λ r. fold next_line r begins.0) refused ∙ stays at begins.0 in
      let clash : Taken (head_of_feed (account F) S) (kept S.items) (tasks F may S there) ≡ Refused at =
      sym (lines_taken F may S there) ∙ sym (ap reading_of lines_are) ∙ behind in
      absurd cc

-- a whole snapshot stays so, whatever follows
stays_taken : (h : Head) (items : List Item) (ts : List Task) (ls : List (List ℕ))
    → fold next_line (Taken h items ts) ls ≡ Taken h items ts
stays_taken h items ts [] = refl
stays_taken h items ts (l ∷ ls) = stays_taken h items ts ls

-- of two lists that begin the same one, the first is the other, or goes on beyond it, or the other beyond the first
same_front : {X : Type 0} (xs ys us vs : List X) → xs ++ us ≡ ys ++ vs
    → (xs ≡ ys) ⊎ ((x : X) × (more : List X) × (xs ≡ ys ++ x ∷ more)) ⊎ ((x : X) × (more : List X)
    × (ys ≡ xs ++ x ∷ more))
same_front [] [] us vs same = inl refl
same_front [] (y ∷ ys) us vs same = inr (inr (y, ys, refl))
same_front (x ∷ xs) [] us vs same = inr (inl (x, xs, refl))
same_front (x ∷ xs) (y ∷ ys) us vs same =
    let whole : x ∷ (xs ++ us) ≡ y ∷ (ys ++ vs) = same in
    let first : x ≡ y = cc in
    let rest : xs ++ us ≡ ys ++ vs = cc in by first (same_front xs ys us vs rest) where
      by : x ≡ y → (xs ≡ ys) ⊎ ((z : _) × (more : List _) × (xs ≡ ys ++ z ∷ more)) ⊎ ((z : _) × (more : List _)
          × (ys ≡ xs ++ z ∷ more))
          → (x ∷ xs ≡ y ∷ ys) ⊎ ((z : _) × (more : List _) × (x ∷ xs ≡ y ∷ ys ++ z ∷ more)) ⊎ ((z : _)
          × (more : List _) × (y ∷ ys ≡ x ∷ xs ++ z ∷ more))
      by e (inl rest) = inl (cc)
      by e (inr (inl (z, more, rest))) = inr (inl (z, more, cc))
      by e (inr (inr (z, more, rest))) = inr (inr (z, more, cc))

-- what a list with a last item begins with, and goes on beyond, its front begins with
last_of_two : {X : Type 0} (front : List X) (last : X) (ys : List X) (y : X) (more : List X)
    → front ++ last ∷ [] ≡ ys ++ y ∷ more → (rest : List X) × (front ≡ ys ++ rest)
last_of_two front last [] y more same = (front, refl)
last_of_two [] last (z ∷ ys) y more same =
    absurd (omega (arith, ap length same, length-append ys (y ∷ more)))
last_of_two (x ∷ front) last (z ∷ ys) y more same =
    let whole : x ∷ (front ++ last ∷ []) ≡ z ∷ (ys ++ y ∷ more) = same in
    let first : x ≡ z = cc in
    let rest : front ++ last ∷ [] ≡ ys ++ y ∷ more = cc in
    let it = last_of_two front last ys y more rest in
    let tail : front ≡ ys ++ it.0 = it.1 in (it.0, cc)

-- what follows the same list is the same
same_back : {X : Type 0} (xs us vs : List X) → xs ++ us ≡ xs ++ vs → us ≡ vs
same_back [] us vs same = same
same_back (x ∷ xs) us vs same = let whole : x ∷ (xs ++ us) ≡ x ∷ (xs ++ vs) = same in let rest : xs ++ us ≡ xs ++ vs =
    cc in same_back xs us vs rest

module _ (F G H I : List ℕ) (may : MayPause F) (other : MayPause G) (same : snapshot F ++ H ≡ snapshot G ++ I) where
  -- the lines of both
  rest_none : (X : List ℕ) → MayPause X → rest_of (snapshot X) ≡ []
  rest_none X m = ap rest_of (snapshot_is X m (S X m) (there X m))
      ∙ rest_joined (snapshot_lines (account X) (S X m)) (lines_feedless X m (S X m) (there X m))

  lines_same : snapshot_lines (account F) (S F may) ++ whole_lines H ≡ snapshot_lines (account G) (S G other)
      ++ whole_lines I
  lines_same = ap (λ ls. ls ++ whole_lines H) (sym (lines_are F may))
      ∙ sym (whole_behind (snapshot F) (rest_none F may) H) ∙ ap whole_lines same
      ∙ whole_behind (snapshot G) (rest_none G other) I ∙ ap (λ ls. ls ++ whole_lines I) (lines_are G other)

  -- no whole snapshot goes on as another
  no_longer : (X Y : List ℕ) (m : MayPause X) (n : MayPause Y) (l : List ℕ) (more : List (List ℕ))
      → snapshot_lines (account X) (S X m) ≡ snapshot_lines (account Y) (S Y n) ++ l ∷ more → ⊥
  no_longer X Y m n l more longer =
      let it = whole_lines_are X m in
      let ends = last_of_two it.front (codes "resume") (snapshot_lines (account Y) (S Y n)) l more
      (sym it.text ∙ longer) in
      let still : Going _ _ _ ≡ Taken _ _ _ = sym it.read.reads ∙ ap reading_of ends.1
      ∙ fold-append next_line Begun (snapshot_lines (account Y) (S Y n)) ends.0
      ∙ ap (λ r. fold next_line r ends.0) (lines_taken Y n (S Y n) (there Y n)) ∙ stays_taken _ _ _ ends.0 in
      absurd (cc)

  snapshots_same : snapshot F ≡ snapshot G
  snapshots_same = by (same_front (snapshot_lines (account F) (S F may)) (snapshot_lines (account G) (S G other))
      (whole_lines H) (whole_lines I) lines_same) where
        by : (snapshot_lines (account F) (S F may) ≡ snapshot_lines (account G) (S G other))
            ⊎ ((l : List ℕ) × (more : List (List ℕ))
            × (snapshot_lines (account F) (S F may) ≡ snapshot_lines (account G) (S G other) ++ l ∷ more))
            ⊎ ((l : List ℕ) × (more : List (List ℕ))
            × (snapshot_lines (account G) (S G other) ≡ snapshot_lines (account F) (S F may) ++ l ∷ more))
            → snapshot F ≡ snapshot G
        by (inl e) = snapshot_is F may (S F may) (there F may) ∙ ap in_lines e
            ∙ sym (snapshot_is G other (S G other) (there G other))
        by (inr (inl (l, more, e))) = absurd (no_longer F G may other l more e)
        by (inr (inr (l, more, e))) = absurd (no_longer G F other may l more e)

  -- a snapshot ends by itself
  pub ends_by_itself : (snapshot F ≡ snapshot G) × (H ≡ I)
  ends_by_itself = (snapshots_same, same_back (snapshot G) H I (ap (λ t. t ++ H) (sym snapshots_same) ∙ same))
