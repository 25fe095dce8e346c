use Rattle.ready_jobs.proofs.Keeping.{completed_kept, pressed_kept}
use Rattle.ready_jobs.proofs.parts.Parts.complete.Goals as goal

pub invariant_of-self : goal.invariant_of-self
invariant_of-self c = completed_kept _ _ _ _ c.self.invariant

pub invariant_of-self-2 : goal.invariant_of-self-2
invariant_of-self-2 c =
    pressed_kept _ _ _ _ (completed_kept _ _ _ _ c.self.invariant) c.stays_pressed-self-inside.result
