use Rattle.std.proofs.Common.{inl, ◌<◌, ◌∷◌, ◌++◌, refl, sym, ap, ◌∙◌, subst, map, option_to_list}
use Rattle.dover_model.specs.Common.{entry_of, room_of, privileged, room, IsMember}
use Rattle.dover_model.proofs.lists.Members.{on_map}
use Rattle.held_stack.specs.Stack.{IsDueBeforeTop}
use Rattle.held_stack.proofs.Holding.{before_top}
use Rattle.held_stack.proofs.Deadlines.{room_map}
use Rattle.ready_jobs.specs.Parts.{Parted, AreSound, state_of}
use Rattle.ready_jobs.specs.Kept.{parted_of}
use Rattle.ready_jobs.proofs.Seeing.{privileged_list}
use Rattle.ready_jobs.proofs.parts.Parts.room_busy.Goals as goal

pub returns : goal.returns
returns c =
    let inside = c.self.inside in
    let p = parted_of inside in
    let runs = ap (λ (q : Parted). q.running) c.self.view_is ∙ c.requires.running in
    let sound : AreSound p = subst AreSound (sym c.self.view_is) c.requires.sound in
    let first = before_top (entry_of c.args.r.now) (map entry_of p.held)
    (on_map entry_of (λ f. c.args.r.now.job.deadline < f.deadline) p.held
    (sound.first c.args.r.now (subst (λ o. IsMember c.args.r.now (option_to_list o)) (sym runs) (inl refl)))) in
    c.room_with.ensures (map entry_of p.held) c.self.invariant.held
    (subst (λ e. IsDueBeforeTop e (map entry_of p.held)) (sym c.entry_of.ensures) first)
    ∙ ap (λ e. room_of inside.clock (e ∷ map entry_of p.held)) c.entry_of.ensures
    ∙ room_map inside.clock (c.args.r.now ∷ p.held)
    ∙ sym (ap (room inside.clock)
    (privileged_list p c.self.invariant.roles ∙ ap (λ o. option_to_list o ++ p.held) runs))
    ∙ ap (λ (q : Parted). room q.clock (privileged (state_of q))) c.self.view_is
