-- The held jobs wait, one by one.
use Rattle.std.proofs.Common.{◌≡◌, ℕ, ◌+◌, ◌*◌, ◌≤◌, ◌<◌, inl, inr, List, [], ◌∷◌, ◌++◌, length, map, reverse, refl}
use Rattle.std.proofs.Common.{sym, ap, ◌∙◌, subst, arith}
use Rattle.std.proofs.lemmas.List.{reverse-append}
use Rattle.dover_model.specs.declared.events.Task.{Task}
use Rattle.dover_model.specs.Sound.{IsMember, Each}
use Rattle.ready_jobs.specs.Changed.{made_wait}
use Rattle.waiting_pool.specs.Pools.{Pooled}
use Rattle.waiting_pool.specs.Reordered.{IsReordered}
use Rattle.waiting_pool.specs.Short.{no_number}
use Rattle.waiting_pool.proofs.Places.{between}
use Rattle.waiting_pool.proofs.Pooling.{length_more}
use Rattle.waiting_pool.proofs.Reordering.{same_order, both_parts, further, turned, as_many}

-- of the jobs that were held some are still, and the others wait: those that will wait in the end are the same
pub record Displaces (was is : List Task) (from to : Pooled) : Type 0 where
  pub kept : to ≡ record from { tasks = to.tasks }
  pub same : IsReordered (map made_wait (reverse was) ++ from.tasks) (map made_wait (reverse is) ++ to.tasks)
  pub numbers : Each (λ t. t.number < no_number) (reverse is)
  pub room : length is + length to.tasks ≤ to.room
  pub sum : length is + length to.tasks ≡ length was + length from.tasks

-- each that begins to wait costs d in each order
pub one_counted : (orders d before after held rest most : ℕ) → held ≡ rest + 1 → after ≤ before + orders * d
    → before + orders * d * held ≤ most
    → after + orders * d * rest ≤ most
one_counted orders d before after held rest most one cost low =
    let split : orders * d * held ≡ orders * d * rest + orders * d = ap (λ n. orders * d * n) one ∙ omega arith in
    omega (arith, split, cost, low)

-- one ceases to wait, and those that were held and the one that ran begin to
pub take_counted : (orders d before one two three held items : ℕ) → items ≡ held → one ≤ before + 3 * orders * d
    → two ≤ one + orders * d → three ≤ two + orders * d * items
    → three ≤ before + orders * d * (4 + held)
take_counted orders d before one two three held items same first next last =
    let split : orders * d * (4 + held) ≡ orders * d * items + 4 * (orders * d) =
    ap (λ n. orders * d * (4 + n)) (sym same) ∙ omega arith in
    omega (arith, split, first, next, last)

-- the first of two parts goes into the second
pub one_waits : (t : Task) (held waiting more : List Task) → IsReordered (made_wait t ∷ waiting) more
    → IsReordered (map made_wait (t ∷ held) ++ waiting) (map made_wait held ++ more)
one_waits t held waiting more add =
    further (made_wait t ∷ (map made_wait held ++ waiting)) (map made_wait held ++ made_wait t ∷ waiting)
    (map made_wait held ++ more)
    (between (made_wait t) (map made_wait held) waiting)
    (both_parts _ _ _ _ (same_order (map made_wait held)) add)

-- one job leaves those that wait, one joins them, and then all held ones do
pub taken_order : (r x : Task) (held waiting rest two three : List Task) → IsReordered waiting (x ∷ rest)
    → IsReordered (made_wait r ∷ rest) two → IsReordered (map made_wait held ++ two) three
    → IsReordered (map made_wait (r ∷ held) ++ waiting) (x ∷ three)
taken_order r x held waiting rest two three out into all =
    further (map made_wait (r ∷ held) ++ waiting) (map made_wait (r ∷ held) ++ x ∷ rest) (x ∷ three)
    (both_parts _ _ _ _ (same_order (map made_wait (r ∷ held))) out)
    (further (map made_wait (r ∷ held) ++ x ∷ rest) (x ∷ (map made_wait (r ∷ held) ++ rest)) (x ∷ three)
    (turned _ _ (between x (map made_wait (r ∷ held)) rest))
    (both_parts (x ∷ []) (x ∷ []) (map made_wait (r ∷ held) ++ rest) three (same_order (x ∷ []))
    (further _ _ _ (one_waits r held rest two into) all)))

module _ (was is rest : List Task) (t : Task) (from to more : Pooled) (it : Displaces was is from to)
    (top : is ≡ rest ++ t ∷ []) where
  turned_is : reverse is ≡ t ∷ reverse rest
  turned_is = ap reverse top ∙ reverse-append rest (t ∷ [])

  pub one_less : length is ≡ length rest + 1
  one_less = ap (λ l. length l) top ∙ length_more rest t

  -- there is room for the job
  pub one_fits : length to.tasks < to.room
  one_fits = let room : length is + length to.tasks ≤ to.room = it.room in omega (arith, room, one_less)

  pub one_small : t.number < no_number
  one_small = it.numbers t (subst (IsMember t) (sym turned_is) (inl refl))

  module _ (kept : more ≡ record to { tasks = more.tasks })
      (add : IsReordered (made_wait t ∷ to.tasks) more.tasks) where
    longer : length more.tasks ≡ length to.tasks + 1
    longer = omega (arith, as_many (made_wait t ∷ to.tasks) more.tasks add)

    -- it waits
    pub one_displaced : Displaces was rest from more
    one_displaced = record {
      kept = kept ∙ ap (λ (q : Pooled). record q { tasks = more.tasks }) it.kept;
      same = further (map made_wait (reverse was) ++ from.tasks) (map made_wait (reverse is) ++ to.tasks)
          (map made_wait (reverse rest) ++ more.tasks) it.same
          (subst (λ l. IsReordered (map made_wait l ++ to.tasks) (map made_wait (reverse rest) ++ more.tasks))
          (sym turned_is) (one_waits t (reverse rest) to.tasks more.tasks add));
      numbers = λ u k. it.numbers u (subst (IsMember u) (sym turned_is) (inr k));
      room = let room : length is + length to.tasks ≤ to.room = it.room in
          omega (arith, room, one_less, longer, ap (λ (q : Pooled). q.room) kept);
      sum = let sum : length is + length to.tasks ≡ length was + length from.tasks = it.sum in
          omega (arith, sum, one_less, longer);
    }
