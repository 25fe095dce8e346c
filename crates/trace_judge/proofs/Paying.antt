-- What the run of a reading costs is paid for.
use Rattle.std.proofs.Common.{◌≡◌, ℕ, ◌≤◌, sym, subst, arith}
use Rattle.ready_jobs.specs.Course.{Course}
use Rattle.ready_jobs.specs.Spending.{HasPaid, HasPaidFreely, HasPaidSince}

-- where the last step was printed at the clock
pub paid_late : (c : Course) (last start now : ℕ) → HasPaid c start now → c.clock ≤ last → HasPaidSince c last start now
paid_late c last start now paid late = record { paid = paid; freely = λ low. absurd (omega (arith, late, low)) }

-- where the run has gone on
pub paid_on : (c d : Course) (last start before after : ℕ) → HasPaidSince c last start before
    → (HasPaid c start before → HasPaid d start after)
    → (HasPaid c start before → (d.clock ≡ c.clock → HasPaidFreely c start before) → HasPaidFreely d start after)
    → HasPaidSince d last start after
paid_on c d last start before after it paid freely = record {
  paid = paid it.paid;
  freely = λ low. freely it.paid (λ same. it.freely (omega (arith, same, low)));
}

-- with other room
pub paid_room : (c d : Course) (last start now : ℕ) → d ≡ record c { room = d.room } → HasPaidSince c last start now
    → HasPaidSince d last start now
paid_room c d last start now same it = subst (λ e. HasPaidSince e last start now) (sym same)
    (record { paid = it.paid; freely = it.freely })
