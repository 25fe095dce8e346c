-- The view of jobs in another order.
use Rattle.std.proofs.Common.{◌≡◌, ℕ, ◌+◌, ◌-◌, List, map, sym, ap, ◌∙◌, Bool, true, false, nat_lt}
use Rattle.std.proofs.Common.{filter, sum_by}
use Rattle.dover_model.specs.declared.events.Version.{Version}
use Rattle.dover_model.specs.declared.events.Entry.{Entry}
use Rattle.dover_model.specs.declared.events.Task.{Task}
use Rattle.dover_model.specs.Common.{IsStrictOrder, entry_of, is_due_before, is_start_before, Rules, State, is_coming}
use Rattle.dover_model.specs.Common.{is_fresh, is_waiting, is_held, is_running, is_privileged, left, least}
use Rattle.dover_model.specs.Common.{demand_up_to, room, first, view, open_step, is_at_latest_start, Each, EachTwo}
use Rattle.dover_model.specs.Common.{by_density, waiting_order}
use Rattle.dover_model.proofs.steps.DensityOrder.{HasWork, waiting_one_way, waiting_onward, waiting_total}
use Rattle.dover_model.proofs.steps.EntryOrders.{strict_by}
use Rattle.dover_model.proofs.lists.Members.{map_same, member_filter}
use Rattle.dover_model.proofs.lists.Tests.{never}
use Rattle.waiting_pool.specs.Reordered.{IsReordered}
use Rattle.waiting_pool.specs.Pools.{HaveOwnNumbers}
use Rattle.waiting_pool.proofs.Reordering.{filtered, mapped, found_same, first_same, first_same_of, least_same}
use Rattle.waiting_pool.proofs.Pooling.{apart_or_one}

-- of some of them
pub own_some : (p : Task → Bool) (tasks : List Task) → HaveOwnNumbers tasks → HaveOwnNumbers (filter p tasks)
own_some p tasks own t u mt mu = own t u (member_filter p tasks t mt).0 (member_filter p tasks u mu).0

-- the first waiting job
pub waiting_still : (version : Version) (dense : Bool) (xs ys : List Task) → IsReordered xs ys → HaveOwnNumbers xs
    → Each HasWork xs → first (waiting_order version dense) ys ≡ first (waiting_order version dense) xs
waiting_still version dense xs ys same own works =
    first_same_of HasWork (waiting_order version dense) (waiting_one_way version dense) (waiting_onward version dense)
    xs ys same works (apart_or_one (waiting_order version dense) (waiting_total version dense) xs own)

-- the first by an order of entries
pub first_still : (before : Entry → Entry → Bool) → IsStrictOrder before → (xs ys : List Task) → IsReordered xs ys
    → HaveOwnNumbers xs
    → first (λ a b. before (entry_of a) (entry_of b)) ys ≡ first (λ a b. before (entry_of a) (entry_of b)) xs
first_still before strict xs ys same own = first_same (λ a b. before (entry_of a) (entry_of b))
    (λ a b. strict.one_way (entry_of a) (entry_of b))
    (λ a b c. strict.onward (entry_of a) (entry_of b) (entry_of c)) xs ys same
    (apart_or_one (λ a b. before (entry_of a) (entry_of b)) (λ a b. strict.total (entry_of a) (entry_of b)) xs own)

-- the room
pub room_still : (clock : ℕ) (xs ys : List Task) → IsReordered xs ys → room clock ys ≡ room clock xs
room_still clock xs ys same =
    ap least (map_same (λ t. t.job.deadline - (clock + demand_up_to ys t))
    (λ t. t.job.deadline - (clock + demand_up_to xs t)) ys
    (λ t m. ap (λ n. t.job.deadline - (clock + (left t + n))) (demands t)))
    ∙ least_same (map (λ t. t.job.deadline - (clock + demand_up_to xs t)) xs)
    (map (λ t. t.job.deadline - (clock + demand_up_to xs t)) ys)
    (mapped xs ys same (λ t. t.job.deadline - (clock + demand_up_to xs t))) where
      demands : (t : Task) → sum_by left (filter (λ u. nat_lt u.job.deadline t.job.deadline) ys)
          ≡ sum_by left (filter (λ u. nat_lt u.job.deadline t.job.deadline) xs)
      demands t = (filtered xs ys same (λ u. nat_lt u.job.deadline t.job.deadline)).weighs left

-- what is known of the jobs
pub record AreApart (tasks : List Task) : Type 0 where
  pub own : HaveOwnNumbers tasks
  pub one_runs : EachTwo (λ t u. is_running t ≡ true → is_running u ≡ true → t ≡ u) tasks
  pub one_fresh : EachTwo (λ t u. is_fresh t ≡ true → is_fresh u ≡ true → t ≡ u) tasks
  pub none_comes : Each (λ t. is_coming t ≡ false) tasks
  pub works : Each HasWork tasks

module _ (version : Version) (clock : ℕ) (pressed : Bool) (xs ys : List Task) (same : IsReordered xs ys)
    (known : AreApart xs) where
  abbrev here : State
  here = record { clock = clock; tasks = xs; pressed = pressed }

  abbrev there : State
  there = record { clock = clock; tasks = ys; pressed = pressed }

  -- the view is the same
  pub view_still : view version there ≡ view version here
  view_still = rw (
    found_same xs ys same is_running known.one_runs,
    found_same xs ys same is_fresh known.one_fresh,
    found_same xs ys same is_coming (λ t u mt mu comes other. never (sym (known.none_comes t mt) ∙ comes)),
    first_still (is_due_before version) (strict_by (λ e. e.deadline) version) (filter is_held xs) (filter is_held ys)
        (filtered xs ys same is_held)
        (own_some is_held xs known.own),
    waiting_still version (by_density version pressed) (filter is_waiting xs) (filter is_waiting ys)
        (filtered xs ys same is_waiting) (own_some is_waiting xs known.own)
        (λ t m. known.works t (member_filter is_waiting xs t m).0),
    first_still (is_start_before version) (strict_by (λ e. e.latest) version)
        (filter (is_at_latest_start here) (filter is_waiting xs))
        (filter (is_at_latest_start here) (filter is_waiting ys))
        (filtered _ _ (filtered xs ys same is_waiting) _)
        (own_some (is_at_latest_start here) (filter is_waiting xs) (own_some is_waiting xs known.own)),
    room_still clock (filter is_held xs) (filter is_held ys) (filtered xs ys same is_held),
    room_still clock (filter is_privileged xs) (filter is_privileged ys) (filtered xs ys same is_privileged),
    (filtered xs ys same is_privileged).weighs (λ t. t.job.value),
  )

-- so is the open step
pub step_still : (rules : Rules) (clock : ℕ) (pressed : Bool) (xs ys : List Task) → IsReordered xs ys → AreApart xs
    → open_step rules (record { clock = clock; tasks = ys; pressed = pressed })
    ≡ open_step rules (record { clock = clock; tasks = xs; pressed = pressed })
step_still rules clock pressed xs ys same known = cc
    (found_same xs ys same is_running known.one_runs, view_still rules.version clock pressed xs ys same known)
