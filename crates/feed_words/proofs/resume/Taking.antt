-- A reading that is taken is that of a whole snapshot, and of the lines behind it.
use Rattle.std.proofs.Common.{◌≡◌, ◌<◌, ◌≤◌, ℕ, List, [], ◌∷◌, ◌++◌, append_assoc, length, refl, sym, ap, ◌∙◌, ◌+◌}
use Rattle.std.proofs.Common.{arith, Bool, true, false, cond, ◌&&◌, Option, Some, None, codes, subst, nat_lt, bytes_eq}
use Rattle.std.proofs.Common.{fold, ltb-true, ltb-false}
use Rattle.std.proofs.lemmas.Slice.Eq.{bytes_eq-Decides}
use Rattle.dover_model.specs.declared.events.Task.{Task}
use Rattle.snapshot.specs.Snapshot.{Head}
use Rattle.snapshot.specs.Reading.{Begun, Going, Taken, Refused, is_within_limits, may_follow, may_stand, stored}
use Rattle.snapshot.specs.Reading.{has_lines_for, with_finish, with_other, read_done}
use Rattle.dover_model.specs.Common.{Item, JobItem, FinishItem, EarlyFinish, early_at}
use Rattle.dover_model.proofs.sessions.Growing.{early_says}
use Rattle.snapshot.specs.Reading.{is_settled, with_head, refused_behind, with_task, with_last, next_line, reading_of}
use Rattle.snapshot.specs.Reading.{read_head, read_task}
use Rattle.snapshot.specs.Stored.{HasRead}
use Rattle.snapshot.specs.Kept.{IsWhole}
use Rattle.snapshot.proofs.Storing.{head_stands, task_stands, finish_stands, last_stands}

-- a refused reading stays so
pub refused_stays : (at : ℕ) (ls : List (List ℕ)) → fold next_line (Refused at) ls ≡ Refused at
refused_stays at [] = refl
refused_stays at (l ∷ ls) = refused_stays at ls

-- and so does one that is taken
pub taken_stays : (h : Head) (items : List Item) (tasks : List Task) (ls : List (List ℕ))
    → fold next_line (Taken h items tasks) ls ≡ Taken h items tasks
taken_stays h items tasks [] = refl
taken_stays h items tasks (l ∷ ls) = taken_stays h items tasks ls

-- the lines are those of a whole snapshot, and more
pub record IsWholeFront (h : Head) (items : List Item) (tasks : List Task) (ls : List (List ℕ)) : Type 0 where
  pub front : List (List ℕ)
  pub more : List (List ℕ)
  pub cut : ls ≡ front ++ more
  pub whole : IsWhole h items tasks front

-- a refused reading isn't taken
never_taken : {X : Type 0} (at : ℕ) (h : Head) (items : List Item) (tasks : List Task) (ls : List (List ℕ))
    → fold next_line (Refused at) ls ≡ Taken h items tasks → X
never_taken at h items tasks ls is =
    absurd (let clash : Refused at ≡ Taken h items tasks = sym (refused_stays at ls) ∙ is in cc)

module _ (h : Head) (items : List Item) (tasks : List Task) where
  -- one line more in front
  longer : (ls : List (List ℕ)) (line : List ℕ) (rest : List (List ℕ))
      → IsWholeFront h items tasks ((ls ++ line ∷ []) ++ rest)
      → IsWholeFront h items tasks (ls ++ line ∷ rest)
  longer ls line rest it = subst (IsWholeFront h items tasks) (append_assoc ls (line ∷ []) rest) it

  -- what is said of the lines that follow, by the lines before
  abbrev GoesBehind : List (List ℕ) → Head → Type 0
  GoesBehind rest g = (more : List (List ℕ)) (js : List Item) (us : List Task) → HasRead g js us more
      → fold next_line (Going g js us) rest ≡ Taken h items tasks → IsWholeFront h items tasks (more ++ rest)

  -- behind a first line, and the lines of jobs and of early finishes
  behind_lines : (rest : List (List ℕ)) (g : Head) (js : List Item) (ts : List Task) (ls : List (List ℕ))
      → HasRead g js ts ls → fold next_line (Going g js ts) rest ≡ Taken h items tasks
      → IsWholeFront h items tasks (ls ++ rest)
  behind_lines [] g js ts ls read is = absurd (let clash : Going g js ts ≡ Taken h items tasks = is in cc)
  behind_lines (line ∷ rest) g js ts ls read is = by_done (read_done line) refl is
      (λ more ks us here there. behind_lines rest g ks us more here there) where
        by_early : (done : ℕ × ℕ) → read_done line ≡ Some done → (o : Option EarlyFinish)
            → early_at (stored g js) done.0 done.1 ≡ o
            → fold next_line (with_finish g js ts o) rest ≡ Taken h items tasks → GoesBehind rest g
            → IsWholeFront h items tasks (ls ++ line ∷ rest)
        by_early done e None right is goes = never_taken (length js + 2) h items tasks rest is
        by_early done e (Some f) right is goes = by_test (may_stand g js (FinishItem f)) refl is where
          by_test : (b : Bool) → may_stand g js (FinishItem f) ≡ b
              → fold next_line (cond b (Going g (js ++ FinishItem f ∷ []) ts) (refused_behind js)) rest
              ≡ Taken h items tasks
              → IsWholeFront h items tasks (ls ++ line ∷ rest)
          by_test true stands is =
              let says = early_says (stored g js) done.0 done.1 f right in
              longer ls line rest (goes (ls ++ line ∷ []) (js ++ FinishItem f ∷ []) ts
              (finish_stands g js ts ls read line done.0 done.1 e f right
              (sym (ap (λ (x : EarlyFinish). x.at) says.is))
              (sym (ap (λ (x : EarlyFinish). x.finish.number) says.is) ∙ says.number) stands) is)
          by_test false beyond is = never_taken (length js + 2) h items tasks rest is

        by_task : read_done line ≡ None → length ts < g.jobs → (o : Option Task) → read_task line ≡ o
            → fold next_line (with_task g js ts o) rest ≡ Taken h items tasks → GoesBehind rest g
            → IsWholeFront h items tasks (ls ++ line ∷ rest)
        by_task other before None e is goes = never_taken (length js + 2) h items tasks rest is
        by_task other before (Some t) e is goes = by_test (may_follow g js ts t) refl is where
          by_test : (b : Bool) → may_follow g js ts t ≡ b
              → fold next_line (cond b (Going g (js ++ JobItem t.job ∷ []) (ts ++ t ∷ [])) (refused_behind js)) rest
              ≡ Taken h items tasks
              → IsWholeFront h items tasks (ls ++ line ∷ rest)
          by_test true follows is = longer ls line rest
              (goes (ls ++ line ∷ []) (js ++ JobItem t.job ∷ []) (ts ++ t ∷ [])
              (task_stands g js ts ls read line other before t e follows) is)
          by_test false beyond is = never_taken (length js + 2) h items tasks rest is

        by_last : read_done line ≡ None → g.jobs ≤ length ts → (a b c : Bool) → bytes_eq line (codes "resume") ≡ a
            → has_lines_for g js ≡ b → is_settled g js ts ≡ c
            → fold next_line (cond (a && b && c) (Taken g js ts) (refused_behind js)) rest ≡ Taken h items tasks
            → IsWholeFront h items tasks (ls ++ line ∷ rest)
        by_last other most true true true last lines settled is =
            let same : Taken g js ts ≡ Taken h items tasks = sym (taken_stays g js ts rest) ∙ is in
            let head : g ≡ h = cc in
            let handed : js ≡ items = cc in
            let jobs : ts ≡ tasks = cc in
            longer ls line rest (record {
              front = ls ++ line ∷ [];
              more = rest;
              cut = refl;
              whole = subst (λ k. IsWhole k items tasks (ls ++ line ∷ [])) head
                  (subst (λ ks. IsWhole g ks tasks (ls ++ line ∷ [])) handed
                  (subst (λ us. IsWhole g js us (ls ++ line ∷ [])) jobs (record {
                    front = ls;
                    read = read;
                    text = ap (λ l. ls ++ l ∷ []) ((bytes_eq-Decides line (codes "resume")).0 last);
                    reads = last_stands g js ts ls read line other most last lines settled;
                    all = omega (arith, most, read.count);
                    lines = lines;
                    settled = settled;
                  })));
            })
        by_last other most _ _ _ last lines settled is = never_taken (length js + 2) h items tasks rest is

        by_other : read_done line ≡ None → (b : Bool) → nat_lt (length ts) g.jobs ≡ b → fold next_line
            (cond b (with_task g js ts (read_task line)) (with_last g js ts (bytes_eq line (codes "resume"))))
            rest ≡ Taken h items tasks
            → GoesBehind rest g
            → IsWholeFront h items tasks (ls ++ line ∷ rest)
        by_other other true before is goes = by_task other (ltb-true _ _ before) (read_task line) refl is goes
        by_other other false most is goes = by_last other (ltb-false _ _ most) (bytes_eq line (codes "resume"))
            (has_lines_for g js) (is_settled g js ts) refl refl refl is

        by_done : (o : Option (ℕ × ℕ)) → read_done line ≡ o → fold next_line (elim o [
          | None ↦ with_other g js ts line
          | Some done ↦ with_finish g js ts (early_at (stored g js) done.0 done.1)
        ]) rest ≡ Taken h items tasks
            → GoesBehind rest g
            → IsWholeFront h items tasks (ls ++ line ∷ rest)
        by_done None none is goes = by_other none (nat_lt (length ts) g.jobs) refl is goes
        by_done (Some done) some is goes =
            by_early done some (early_at (stored g js) done.0 done.1) refl is goes

  pub taken_whole : (ls : List (List ℕ)) → reading_of ls ≡ Taken h items tasks → IsWholeFront h items tasks ls
  taken_whole [] is = absurd (let clash : Begun ≡ Taken h items tasks = is in cc)
  taken_whole (line ∷ rest) is = by (read_head line) refl is where
    by : (o : Option Head) → read_head line ≡ o → fold next_line (with_head o) rest ≡ Taken h items tasks
        → IsWholeFront h items tasks (line ∷ rest)
    by None e is = never_taken 1 h items tasks rest is
    by (Some g) e is = by_limits (is_within_limits g) refl is where
      by_limits : (b : Bool) → is_within_limits g ≡ b
          → fold next_line (cond b (Going g [] []) (Refused 1)) rest ≡ Taken h items tasks
          → IsWholeFront h items tasks (line ∷ rest)
      by_limits true within is = behind_lines rest g [] [] (line ∷ []) (head_stands line g e within) is
      by_limits false beyond is = never_taken 1 h items tasks rest is
