-- As many jobs are ready where their run is settled as are kept.
use Rattle.std.proofs.Common.{◌≡◌, ℕ, length, sym, ap, ◌∙◌, nat_le, filter}
use Rattle.dover_model.specs.Common.{Instance, most_ready, is_ready, ready_at, is_full, settled_state, State}
use Rattle.ready_jobs.specs.Course.{Course, Follows}
use Rattle.waiting_pool.proofs.Reordering.{as_many}

module _ (c : Course) (J : Instance) (z : State) (follows : Follows c J z) (mark : ℕ)
    (there : settled_state J mark ≡ record z { clock = mark }) where
  -- as many jobs are ready at the mark as are kept
  pub ready_kept : ready_at J mark ≡ length c.ready
  ready_kept = ap (λ (s : State). length (filter is_ready s.tasks)) there
      ∙ sym (as_many (filter is_ready z.tasks) c.ready follows.ready)

  -- so there the run is full just where as many are kept as may be
  pub full_kept : nat_le most_ready (length c.ready) ≡ is_full J mark
  full_kept = ap (nat_le most_ready) (sym ready_kept)
