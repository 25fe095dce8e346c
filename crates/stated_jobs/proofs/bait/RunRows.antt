-- Baiting feeds that are valid, by computation.
use Rattle.dover_model.specs.Common.{fraction, is_valid}
use Rattle.std.proofs.Common.{◌≡◌, true, refl}
use Rattle.dover_model.specs.declared.events.Version.TheVariants.{One, Two}
use Rattle.stated_jobs.specs.bait.BaitingRuns.{baiting}

valid_1_1_4 : is_valid (baiting (fraction 1 1) One 4) ≡ true
valid_1_1_4 = refl

valid_9_4_2 : is_valid (baiting (fraction 9 4) Two 2) ≡ true
valid_9_4_2 = refl

valid_4_1_3 : is_valid (baiting (fraction 4 1) One 3) ≡ true
valid_4_1_3 = refl
