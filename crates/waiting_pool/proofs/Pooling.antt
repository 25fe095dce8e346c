-- Jobs at places, and the heaps over them.
use Rattle.std.proofs.Common.{◌≡◌, ◌≢◌, ℕ, zero, suc, ◌+◌, ◌-◌, ◌≤◌, ◌<◌, inl, inr, List, [], ◌∷◌, ◌++◌, length}
use Rattle.std.proofs.Common.{set, get_or, replicate, refl, sym, ap, ◌∙◌, subst, Bool, true, false, arith, Option}
use Rattle.std.proofs.Common.{Some, None, option_map, is_some, Result, Ok, Err, OnOk, IsErr, slice_get}
use Rattle.std.proofs.Common.{count_by, append_assoc, length-append, append-nil}
use Rattle.std.proofs.Common.{OnErr}
use Rattle.std.proofs.lemmas.Bool.{cases_eq}
use Rattle.std.proofs.lemmas.List.{length-replicate, replicate-append-replicate}
use Rattle.dover_model.specs.Common.{IsJob, entry_of, first, is_start_before, starts_before, waiting_order, by_density}
use Rattle.dover_model.specs.Common.{IsMember, Each, EachTwo, IsStrictOrder}
use Rattle.dover_model.specs.declared.events.Version.{Version}
use Rattle.dover_model.specs.declared.events.Version.TheVariants.{One, Two, Three, Four}
use Rattle.dover_model.specs.declared.events.Task.{Task}
use Rattle.dover_model.proofs.valid.JobLimits.{job_limits}
use Rattle.dover_model.proofs.lists.Tests.{never, none_is_some}
use Rattle.dover_model.proofs.steps.DensityOrder.{HasWork, waiting_one_way, waiting_onward, waiting_total}
use Rattle.dover_model.proofs.steps.EntryOrders.{strict_by}
use Rattle.place_heap.specs.Items.{ItemFacts, is_before}
use Rattle.place_heap.specs.Orders.{due_item, latest_item, dense_item}
use Rattle.place_heap.specs.Table.{IsFirst}
use Rattle.place_heap.proofs.Tying.{ordered_as}
use Rattle.place_heap.proofs.Densities.{dense_law}
use Rattle.waiting_pool.specs.Pools.{HaveOwnNumbers, AreModest, jobs_at, items_from, HasItems}
use Rattle.waiting_pool.specs.Pools.{IsPool, HasRoom, IsPlaceOf, item_of, item_by_deadline, item_by_latest}
use Rattle.waiting_pool.specs.Pools.{item_by_density, orders_of, IsByDensity}
use Rattle.waiting_pool.proofs.Reordering.{as_many, first_only_of}
use Rattle.waiting_pool.proofs.Places.{place_of, job_there, last_free, free_taken, free_again, free_more}
use Rattle.waiting_pool.proofs.Places.{within, same_length, jobs_in, jobs_out, each, items_length, item_at, item_set}
use Rattle.waiting_pool.proofs.Places.{item_count, item_job}

-- what is said of a success says nothing of an error
pub not_ok : {T E : Type 0} (P : Type 0) (r : Result T E) → IsErr r → OnOk r P
not_ok P (Ok x) is = never is
not_ok P (Err e) is = tt

-- ---- the first

-- of two jobs of a list one comes before the other, or they are one
pub apart_or_one : (before : Task → Task → Bool)
    → ((a b : Task) → a.number ≢ b.number → before a b ≡ false → before b a ≡ true) → (tasks : List Task)
    → HaveOwnNumbers tasks → EachTwo (λ t u. before t u ≡ false → before u t ≡ false → t ≡ u) tasks
apart_or_one before total tasks own t u mt mu ahead back = elim (cases_eq t.number u.number) [
  | inl same ↦ own t u mt mu same
  | inr other ↦ never (sym back ∙ total t u other ahead)
]

-- an order of jobs in which their items come
module _ (item : ℕ → Task → ItemFacts) (before : Task → Task → Bool)
    (one_way : (a b : Task) → before a b ≡ true → before b a ≡ false)
    (onward : (a b c : Task) → HasWork a → HasWork b → HasWork c → before a b ≡ true → before b c ≡ true
    → before a c ≡ true)
    (total : (a b : Task) → a.number ≢ b.number → before a b ≡ false → before b a ≡ true)
    (law : (t u : Task) (p q : ℕ) → IsJob t.job → IsJob u.job → is_before (item p t) (item q u) ≡ before t u)
    (slots : List (Option Task)) (table : List (Option ItemFacts)) (has : HasItems (each item) slots table) where
  -- each job has its item at its place
  has_item : (n : ℕ) (t : Task) → slice_get slots n ≡ Some (Some t) → get_or table n None ≡ Some (item n t)
  has_item n t at = ap (λ l. get_or l n None) has.1 ∙ item_at (each item) 0 slots (replicate has.0 None) n (Some t) at
      ∙ ap (λ m. Some (item m t)) (let same : 0 + n ≡ n = omega arith in same)

  -- where the heap has none, none waits
  pub none_first : IsFirst table None → None ≡ first before (jobs_at slots)
  none_first none = sym (empty (jobs_at slots) (λ t m.
      let it = place_of slots t m in
      none_is_some (sym (none it.0) ∙ has_item it.0 t it.1))) where
        empty : (ts : List Task) → Each (λ t. ⊥) ts → first before ts ≡ None
        empty [] not = refl
        empty (t ∷ ts) not = absurd (not t (inl refl))

  -- the first item is that of the first job, which stands at its place
  pub found_first : (i : ItemFacts) → IsFirst table (Some i) → HaveOwnNumbers (jobs_at slots)
      → AreModest (jobs_at slots)
      → (t : Task) × (slice_get slots i.place ≡ Some (Some t)) × (first before (jobs_at slots) ≡ Some t)
      × (i ≡ item i.place t)
  found_first i top own modest =
      let it = item_job item 0 slots has.0 i.place i (ap (λ l. get_or l i.place None) (sym has.1) ∙ top.0) in
      let member : IsMember it.0 (jobs_at slots) = job_there slots i.place it.0 it.1 in (
        it.0,
        it.1,
        first_only_of HasWork before one_way onward (jobs_at slots) it.0 (λ u m. (job_limits (modest u m)).work) member
            (λ u m ahead. let at_u = place_of slots u m in
            never (sym (top.1 at_u.0 (item at_u.0 u) (has_item at_u.0 u at_u.1))
            ∙ ap (is_before (item at_u.0 u)) it.2
            ∙ law u it.0 at_u.0 (0 + i.place) (modest u m) (modest it.0 member) ∙ ahead))
            (apart_or_one before total (jobs_at slots) own),
        it.2 ∙ ap (λ n. item n it.0) (let same : 0 + i.place ≡ i.place = omega arith in same),
      )

-- ---- the orders

due_law : (v : Version) (t u : Task) (p q : ℕ) → IsJob t.job → IsJob u.job
    → is_before (due_item v p (entry_of t)) (due_item v q (entry_of u)) ≡ waiting_order v false t u
due_law v t u p q low less =
    (ordered_as v (entry_of t) (entry_of u) p q (job_limits low).modest (job_limits less).modest).due

latest_law : (v : Version) (t u : Task) (p q : ℕ) → IsJob t.job → IsJob u.job
    → is_before (latest_item v p (entry_of t)) (latest_item v q (entry_of u)) ≡ starts_before v t u
latest_law v t u p q low less =
    (ordered_as v (entry_of t) (entry_of u) p q (job_limits low).modest (job_limits less).modest).latest

module _ (v : Version) (slots : List (Option Task)) (table : List (Option ItemFacts))
    (has : HasItems (item_by_latest v) slots table) where
  starts : IsStrictOrder (is_start_before v)
  starts = strict_by (λ e. e.latest) v

  pub latest_none : IsFirst table None → None ≡ first (starts_before v) (jobs_at slots)
  latest_none = none_first (λ p t. latest_item v p (entry_of t)) (starts_before v)
      (λ a b. starts.one_way (entry_of a) (entry_of b))
      (λ a b c _ _ _. starts.onward (entry_of a) (entry_of b) (entry_of c))
      (λ a b. starts.total (entry_of a) (entry_of b)) (latest_law v) slots table has

  pub latest_found : (i : ItemFacts) → IsFirst table (Some i) → HaveOwnNumbers (jobs_at slots)
      → AreModest (jobs_at slots)
      → (t : Task) × (slice_get slots i.place ≡ Some (Some t)) × (first (starts_before v) (jobs_at slots) ≡ Some t)
      × (i ≡ latest_item v i.place (entry_of t))
  latest_found = found_first (λ p t. latest_item v p (entry_of t)) (starts_before v)
      (λ a b. starts.one_way (entry_of a) (entry_of b))
      (λ a b c _ _ _. starts.onward (entry_of a) (entry_of b) (entry_of c))
      (λ a b. starts.total (entry_of a) (entry_of b)) (latest_law v) slots table has

-- the place that a heap names is that of the first job, in an order of waiting jobs in which their items come
module _ (item : ℕ → Task → ItemFacts) (v : Version) (dense : Bool)
    (law : (t u : Task) (p q : ℕ) → IsJob t.job → IsJob u.job
    → is_before (item p t) (item q u) ≡ waiting_order v dense t u)
    (slots : List (Option Task)) (table : List (Option ItemFacts)) (has : HasItems (each item) slots table) where
  pub place_first : (o : Option ItemFacts) → IsFirst table o → HaveOwnNumbers (jobs_at slots)
      → AreModest (jobs_at slots)
      → IsPlaceOf (waiting_order v dense) slots (option_map (λ i. i.place) o)
  place_first None top own modest = none_first item (waiting_order v dense) (waiting_one_way v dense)
      (waiting_onward v dense) (waiting_total v dense) law slots table has top
  place_first (Some i) top own modest =
      let it = found_first item (waiting_order v dense) (waiting_one_way v dense) (waiting_onward v dense)
      (waiting_total v dense) law slots table has i top own modest in
      (it.0, it.1, it.2)

pub due_place : (v : Version) (slots : List (Option Task)) (table : List (Option ItemFacts)) (o : Option ItemFacts)
    → IsFirst table o → HasItems (item_by_deadline v) slots table
    → HaveOwnNumbers (jobs_at slots) → AreModest (jobs_at slots)
    → IsPlaceOf (waiting_order v false) slots (option_map (λ i. i.place) o)
due_place v slots table o top has = place_first (λ p t. due_item v p (entry_of t)) v false (due_law v) slots table has
    o top

pub dense_place : (slots : List (Option Task)) (table : List (Option ItemFacts)) (o : Option ItemFacts)
    → IsFirst table o → HasItems item_by_density slots table
    → HaveOwnNumbers (jobs_at slots) → AreModest (jobs_at slots)
    → IsPlaceOf (waiting_order Four true) slots (option_map (λ i. i.place) o)
dense_place slots table o top has = place_first dense_item Four true dense_law slots table has o top

-- only version Four is ever by density
pub only_four : (v : Version) (pressed : Bool) → by_density v pressed ≡ true → v ≡ Four
only_four One pressed is = never is
only_four Two pressed is = never is
only_four Three pressed is = never is
only_four Four pressed is = refl

-- ---- the pool

-- a table follows what is put at a place
pub table_set : (item : ℕ → Task → Option ItemFacts) (slots : List (Option Task))
    (table : List (Option ItemFacts)) (p : ℕ)
    (o : Option Task) → p < length slots
    → HasItems item slots table → HasItems item (set slots p o) (set table p (item_of item p o))
table_set item slots table p o inside has = (
  has.0,
  ap (λ l. set l p (item_of item p o)) has.1
      ∙ ap (λ m. set (items_from item 0 slots ++ replicate has.0 None) p (item_of item m o))
      (let none : p ≡ 0 + p = omega arith in none)
      ∙ item_set item 0 slots (replicate has.0 None) p o inside,
)

-- a place of the table is within, and free where no job is there
table_within : (item : ℕ → Task → Option ItemFacts) (slots : List (Option Task))
    (table : List (Option ItemFacts)) (p : ℕ)
    → p < length slots
    → HasItems item slots table → p < length table
table_within item slots table p inside has =
    omega (
      arith,
      inside,
      ap (λ l. length l) has.1,
      length-append (items_from item 0 slots) (replicate has.0 None),
      items_length item 0 slots,
    )

table_free : (item : ℕ → Task → Option ItemFacts) (slots : List (Option Task)) (table : List (Option ItemFacts)) (p : ℕ)
    → slice_get slots p ≡ Some None
    → HasItems item slots table → get_or table p None ≡ None
table_free item slots table p at has = ap (λ l. get_or l p None) has.1
    ∙ item_at item 0 slots (replicate has.0 None) p None at

-- no more items than jobs
table_count : (item : ℕ → Task → Option ItemFacts) (slots : List (Option Task)) (table : List (Option ItemFacts))
    → HasItems item slots table → count_by is_some table ≤ length (jobs_at slots)
table_count item slots table has =
    omega (arith, ap (λ t. count_by is_some t) has.1, item_count item 0 slots has.0)

-- so many orders there are
pub three_orders : (v : Version) → by_density v true ≡ true → orders_of v ≡ 3
three_orders One by = never by
three_orders Two by = never by
three_orders Three by = never by
three_orders Four by = refl

pub two_orders : (v : Version) → by_density v true ≡ false → orders_of v ≡ 2
two_orders One by = refl
two_orders Two by = refl
two_orders Three by = refl
two_orders Four by = never (sym by)

module _ (v : Version) (slots : List (Option Task)) (places : List ℕ) (d l e : List (Option ItemFacts)) (p : ℕ) where
  -- a job comes to the last of the free places
  module _ (pool : IsPool v slots (places ++ p ∷ []) d l e) where
    pub add_free : slice_get slots p ≡ Some None
    add_free = last_free slots places p pool.free

    pub add_inside : p < length slots
    add_inside = within slots p None add_free

    pub add_due_ready : p < length d
    add_due_ready = table_within (item_by_deadline v) slots d p add_inside pool.due

    pub add_latest_ready : p < length l
    add_latest_ready = table_within (item_by_latest v) slots l p add_inside pool.latest

    pub add_dense_ready : IsByDensity v → p < length e
    add_dense_ready by = table_within item_by_density slots e p add_inside (pool.dense by)

    pub add_due_free : get_or d p None ≡ None
    add_due_free = table_free (item_by_deadline v) slots d p add_free pool.due

    pub add_latest_free : get_or l p None ≡ None
    add_latest_free = table_free (item_by_latest v) slots l p add_free pool.latest

    pub add_dense_free : IsByDensity v → get_or e p None ≡ None
    add_dense_free by = table_free item_by_density slots e p add_free (pool.dense by)

    pub add_due_count : count_by is_some d ≤ length (jobs_at slots)
    add_due_count = table_count (item_by_deadline v) slots d pool.due

    pub add_latest_count : count_by is_some l ≤ length (jobs_at slots)
    add_latest_count = table_count (item_by_latest v) slots l pool.latest

    pub add_dense_count : IsByDensity v → count_by is_some e ≤ length (jobs_at slots)
    add_dense_count by = table_count item_by_density slots e (pool.dense by)

    pub add_kept : (t : Task) (denser : List (Option ItemFacts))
        → (IsByDensity v → denser ≡ set e p (item_by_density p t))
        → IsPool v (set slots p (Some t)) places (set d p (Some (due_item v p (entry_of t))))
        (set l p (Some (latest_item v p (entry_of t)))) denser
    add_kept t denser is = record {
      due = table_set (item_by_deadline v) slots d p (Some t) add_inside pool.due;
      latest = table_set (item_by_latest v) slots l p (Some t) add_inside pool.latest;
      dense = λ by. subst (HasItems item_by_density (set slots p (Some t))) (sym (is by))
          (table_set item_by_density slots e p (Some t) add_inside (pool.dense by));
      free = free_taken slots places p t pool.free;
      count = omega (
        arith,
        pool.count,
        length-append places (p ∷ []),
        as_many (t ∷ jobs_at slots) (jobs_at (set slots p (Some t))) (jobs_in slots p t add_free),
        same_length slots p (Some t),
      );
      few = let few : length slots ≤ 1_048_576 = pool.few in omega (arith, few, same_length slots p (Some t));
    }

  -- a job leaves its place
  module _ (pool : IsPool v slots places d l e) (t : Task) (at : slice_get slots p ≡ Some (Some t)) where
    pub left_inside : p < length slots
    left_inside = within slots p (Some t) at

    pub left_room : length places < length slots
    left_room =
        let out = as_many (jobs_at slots) (t ∷ jobs_at (set slots p None)) (jobs_out slots p t at) in
        omega (arith, pool.count, out)

    pub left_due_count : count_by is_some d ≤ length (jobs_at slots)
    left_due_count = table_count (item_by_deadline v) slots d pool.due

    pub left_latest_count : count_by is_some l ≤ length (jobs_at slots)
    left_latest_count = table_count (item_by_latest v) slots l pool.latest

    pub left_dense_count : IsByDensity v → count_by is_some e ≤ length (jobs_at slots)
    left_dense_count by = table_count item_by_density slots e (pool.dense by)

    pub left_kept : (denser : List (Option ItemFacts)) → (IsByDensity v → denser ≡ set e p None)
        → IsPool v (set slots p None) (places ++ p ∷ []) (set d p None) (set l p None) denser
    left_kept denser is = record {
      due = table_set (item_by_deadline v) slots d p None left_inside pool.due;
      latest = table_set (item_by_latest v) slots l p None left_inside pool.latest;
      dense = λ by. subst (HasItems item_by_density (set slots p None)) (sym (is by))
          (table_set item_by_density slots e p None left_inside (pool.dense by));
      free = free_again slots places p t at pool.free;
      count = omega (
        arith,
        pool.count,
        length-append places (p ∷ []),
        as_many (jobs_at slots) (t ∷ jobs_at (set slots p None)) (jobs_out slots p t at),
        same_length slots p None,
      );
      few = let few : length slots ≤ 1_048_576 = pool.few in omega (arith, few, same_length slots p None);
    }

-- where no job is at a place, the items are none
pub items_none : (item other : ℕ → Task → Option ItemFacts) (k p : ℕ) (slots : List (Option Task)) → jobs_at slots ≡ []
    → items_from item p slots ++ replicate {A = Option ItemFacts} k None ≡ items_from other p slots ++ replicate
    {A = Option ItemFacts} k None
items_none item other k p [] none = refl
items_none item other k p (None ∷ slots) none = ap (λ l. None ∷ l) (items_none item other k (suc p) slots none)
items_none item other k p (Some t ∷ slots) none = absurd (cons_none none) where
  cons_none : t ∷ jobs_at slots ≡ [] → ⊥
  cons_none e = cc

-- ---- more places

pub jobs_push : (slots : List (Option Task)) → jobs_at (slots ++ None ∷ []) ≡ jobs_at slots
jobs_push [] = refl
jobs_push (None ∷ slots) = jobs_push slots
jobs_push (Some t ∷ slots) = ap (λ l. t ∷ l) (jobs_push slots)

pub length_more : {X : Type 0} (xs : List X) (x : X) → length (xs ++ x ∷ []) ≡ length xs + 1
length_more xs x = omega (arith, length-append xs (x ∷ []))

module _ (item : ℕ → Task → Option ItemFacts) where
  -- the items of more places
  items_more : (p m : ℕ) (slots : List (Option Task))
      → items_from item p (slots ++ replicate m None) ≡ items_from item p slots ++ replicate
      {A = Option ItemFacts} m None
  items_more p zero [] = refl
  items_more p (suc m) [] = ap (λ l. None ∷ l) (items_more (suc p) m [])
  items_more p m (o ∷ slots) = ap (λ l. item_of item p o ∷ l) (items_more (suc p) m slots)

  -- a table that grows
  pub table_grows : (slots : List (Option Task)) (table grown : List (Option ItemFacts)) (m : ℕ)
      → HasItems item slots table
      → grown ≡ table ++ replicate m None → HasItems item slots grown
  table_grows slots table grown m has is = (
    has.0 + m,
    is ∙ ap (λ l. l ++ replicate {A = Option ItemFacts} m None) has.1
        ∙ append_assoc (items_from item 0 slots) (replicate has.0 None) (replicate m None)
        ∙ ap (λ l. items_from item 0 slots ++ l) (replicate-append-replicate has.0 m None),
  )

  -- and places with it
  pub places_grow : (slots : List (Option Task)) (table : List (Option ItemFacts)) (m : ℕ) → HasItems item slots table
      → length slots + m ≤ length table
      → HasItems item (slots ++ replicate m None) table
  places_grow slots table m has fits = (
    has.0 - m,
    has.1 ∙ ap (λ k. items_from item 0 slots ++ replicate {A = Option ItemFacts} k None) split
        ∙ ap (λ l. items_from item 0 slots ++ l) (sym (replicate-append-replicate m (has.0 - m) None))
        ∙ sym (append_assoc (items_from item 0 slots) (replicate m None) (replicate (has.0 - m) None))
        ∙ ap (λ l. l ++ replicate {A = Option ItemFacts} (has.0 - m) None) (sym (items_more 0 m slots)),
  ) where
    split : has.0 ≡ m + (has.0 - m)
    split = omega (
      arith,
      fits,
      ap (λ l. length l) has.1,
      length-append (items_from item 0 slots) (replicate has.0 None),
      items_length item 0 slots,
      length-replicate {A = Option ItemFacts} has.0 None,
    )

pub no_places : (places : List ℕ) → length places ≡ 0 → places ≡ []
no_places [] none = refl
no_places (p ∷ more) none = absurd (omega (arith, none))

-- one place is opened
pub opened : (v : Version) (slots : List (Option Task)) (d l e : List (Option ItemFacts)) → IsPool v slots [] d l e
    → length slots + 1 ≤ length d → length slots + 1 ≤ length l
    → (IsByDensity v → length slots + 1 ≤ length e)
    → length slots + 1 ≤ 1_048_576
    → IsPool v (slots ++ None ∷ []) (length slots ∷ []) d l e
opened v slots d l e pool due latest dense few = record {
  due = places_grow (item_by_deadline v) slots d 1 pool.due due;
  latest = places_grow (item_by_latest v) slots l 1 pool.latest latest;
  dense = λ by. places_grow item_by_density slots e 1 (pool.dense by) (dense by);
  free = free_more slots [] (length slots) refl pool.free;
  count = omega (arith, pool.count, length_more slots None, ap (λ ts. length ts) (jobs_push slots));
  few = omega (arith, few, length_more slots None);
}

-- the pool with the same jobs and free places, and with other tables
pub moved : (version : Version) (slots others : List (Option Task)) (free places : List ℕ)
    (due latest dense sooner later denser : List (Option ItemFacts)) → others ≡ slots → places ≡ free
    → HasItems (item_by_deadline version) slots sooner → HasItems (item_by_latest version) slots later
    → (IsByDensity version → HasItems item_by_density slots denser)
    → IsPool version slots free due latest dense → IsPool version others places sooner later denser
moved version slots others free places due latest dense sooner later denser same named by_due by_latest by_dense pool =
    subst (λ s. IsPool version s places sooner later denser) (sym same)
    (subst (λ f. IsPool version slots f sooner later denser) (sym named)
    (record {
      due = by_due;
      latest = by_latest;
      dense = by_dense;
      free = pool.free;
      count = pool.count;
      few = pool.few;
    }))

-- room for as many, where no less fits
pub still_fits : (version : Version)
    (room places others slots wider free freer due sooner latest later dense denser : ℕ)
    → HasRoom version room places slots free due latest dense → others ≡ places → slots ≤ wider → free ≤ freer
    → due ≤ sooner → latest ≤ later → dense ≤ denser → HasRoom version room others wider freer sooner later denser
still_fits version room places others slots wider free freer due sooner latest later dense denser fits same more_slots
    more_free more_due more_latest more_dense = record {
      opened = subst (λ n. n ≤ room) (sym same) fits.opened;
      most = fits.most;
      slots_fit = omega (arith, fits.slots_fit, more_slots);
      free_fit = omega (arith, fits.free_fit, more_free);
      due_fit = omega (arith, fits.due_fit, more_due);
      latest_fit = omega (arith, fits.latest_fit, more_latest);
      dense_fit = λ by. omega (arith, fits.dense_fit by, more_dense);
    }

-- a table that grows is no shorter
pub no_shorter : (table grown : List (Option ItemFacts)) (m : ℕ) → grown ≡ table ++ replicate m None
    → length table ≤ length grown
no_shorter table grown m is =
    omega (arith, ap (λ l. length l) is, length-append table (replicate {A = Option ItemFacts} m None))

-- what a heap has once memory was asked for
module _ (table grown : List (Option ItemFacts)) (places : ℕ) where
  pub grown_by : {T E : Type 0} (r : Result T E) → OnOk r (grown ≡ table ++ replicate (places - length table) None)
      → OnErr r (grown ≡ table) → (k : ℕ) × (grown ≡ table ++ replicate k None)
  grown_by (Ok x) ok err = (places - length table, ok)
  grown_by (Err e) ok err = (0, err ∙ sym (append-nil table))

  pub long_enough : {T E : Type 0} (v : Version) (r : Result T E)
      → OnOk r (grown ≡ table ++ replicate (places - length table) None)
      → OnOk r (IsByDensity v → places ≤ length grown)
  long_enough v (Ok x) ok = λ by. omega (
    arith,
    ap (λ l. length l) ok,
    length-append table (replicate {A = Option ItemFacts} (places - length table) None),
    length-replicate {A = Option ItemFacts} (places - length table) None,
  )
  long_enough v (Err e) ok = tt
