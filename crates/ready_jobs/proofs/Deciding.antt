-- The open step of a state, where a job runs and where none does.
use Rattle.std.proofs.Common.{Bool, not, ◌≡◌, ◌<◌, ◌≤◌, ◌∙◌, ap, sym, refl, Option, Some, None, ◌==◌, ◌&&◌, nat_le}
use Rattle.std.proofs.Common.{lt-ltb, le-leb, find}
use Rattle.std.specs.Bool.{then_some}
use Rattle.dover_model.specs.Common.{is_less_dense, preempts}
use Rattle.dover_model.specs.declared.events.Event.TheVariants.{Complete}
use Rattle.dover_model.specs.declared.events.Task.{Task}
use Rattle.dover_model.specs.Common.{Fraction, View, Move, Prints, decision, alarm, ◌or_else◌, runs, view, completion}
use Rattle.dover_model.specs.Common.{dispatch, urgent_or, State, is_running, is_fresh, left}
use Rattle.dover_model.specs.declared.events.Version.{Version}
use Rattle.ready_jobs.specs.Cases.{next_of, next_ready, arrival_of}

-- what is done while r runs
abbrev pub busy : Fraction → View → Task → Bool → Option Task → Option Move → Option Task → Move → Move
busy k v r done f a x other =
    then_some done (Prints (Complete v.clock r.number)) or_else decision v (Some r) f or_else a or_else alarm k v
    (Some r)
    x or_else other

-- what is done while none runs
abbrev pub free : View → Option Task → Option Task → Option Move → Move → Move
free v (Some t) f a other = runs v t
free v None (Some f) a other = runs v f
free v None None a other = a or_else other

module _ (k : Fraction) (version : Version) (s : State) (other : Move) where
  abbrev v : View
  v = view version s

  -- while r runs
  pub busy_is : (r : Task) (done : Bool) (f : Option Task) (a : Option Move) (x : Option Task)
      → find is_running s.tasks ≡ Some r
      → (left r == 0) ≡ done → find is_fresh s.tasks ≡ f → arrival_of v ≡ a → v.must_start ≡ x
      → busy k v r done f a x other ≡ urgent_or k v other
  busy_is r done f a x runs left_is fresh arrives late = sym (
      ap (λ o. completion v o or_else dispatch v o v.first_held v.first_waiting or_else decision v o v.fresh or_else
      arrival_of v
      or_else alarm k v o v.must_start
      or_else other) runs
      ∙ ap (λ b. busy k v r b v.fresh (arrival_of v) v.must_start other) left_is
      ∙ ap (λ o. busy k v r done o (arrival_of v) v.must_start other) fresh
      ∙ ap (λ o. busy k v r done f o v.must_start other) arrives
      ∙ ap (λ o. busy k v r done f a o other) late)

  -- while none does
  pub free_is : (next f : Option Task) (a : Option Move) → find is_running s.tasks ≡ None → next_ready version s ≡ next
      → find is_fresh s.tasks ≡ f
      → arrival_of v ≡ a → free v next f a other ≡ urgent_or k v other
  free_is next f a none ready fresh arrives = sym (
      ap (λ o. completion v o or_else dispatch v o v.first_held v.first_waiting or_else decision v o v.fresh or_else
      arrival_of v
      or_else alarm k v o v.must_start
      or_else other) none
      ∙ by_ready v.first_held v.first_waiting v.fresh (arrival_of v) v.must_start
      ∙ ap (λ o. free v o v.fresh (arrival_of v) other) ready
      ∙ ap (λ o. free v next o (arrival_of v) other) fresh
      ∙ ap (λ o. free v next f o other) arrives) where
        by_ready : (p o f : Option Task) (a : Option Move) (x : Option Task)
            → (dispatch v None p o or_else decision v None f or_else a or_else alarm k v None x or_else other) ≡ free v
            (next_of v p o) f a other
        by_ready (Some p) o f a x = refl
        by_ready None (Some o) f a x = refl
        by_ready None None (Some f) a x = refl
        by_ready None None None a (Some x) = refl
        by_ready None None None a None = refl

-- a fresh job that is due before the running one, and fits the room, preempts it if it doesn't yield
pub preempts_is : (v : View) (r f : Task) → f.job.deadline < r.job.deadline → f.job.work ≤ v.privileged_room
    → not (v.yields && is_less_dense f r) ≡ preempts v f r
preempts_is v r f due fits = sym (
    ap (λ b. (b && nat_le f.job.work v.privileged_room) && not (v.yields && is_less_dense f r))
    (lt-ltb f.job.deadline r.job.deadline due)
    ∙ ap (λ b. b && not (v.yields && is_less_dense f r)) (le-leb f.job.work v.privileged_room fits))
