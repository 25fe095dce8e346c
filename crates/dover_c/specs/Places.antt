-- What lies at the address of a place.
use base.Fml.{Fml, fsep, fex, ftrue}
use base.Fraction.{full_share}
use denote.RawPtr.{Ptr, lies_at}
use Rattle.dover_c.specs.declared.slot.Slot.{Slot}
use Rattle.dover_c.specs.contracts.slot.Slot.{the_row}

-- a slot of which this is said
abbrev pub after_at : Ptr → (Slot → Type 0) → Fml
after_at p Says = fex Slot (λ w. fsep (lies_at the_row full_share p w) (fex (Says w) (λ _. ftrue)))
