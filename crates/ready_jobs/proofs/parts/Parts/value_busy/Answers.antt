use Rattle.std.proofs.Common.{◌+◌, ◌++◌, sym, ap, ◌∙◌, option_to_list}
use Rattle.dover_model.specs.declared.events.Task.{Task}
use Rattle.dover_model.specs.Common.{entry_of, privileged, value_sum}
use Rattle.dover_model.proofs.lists.Members.{sum_map}
use Rattle.std.proofs.lemmas.List.Sums.{sum_by-cons}
use Rattle.ready_jobs.specs.Parts.{Parted, state_of}
use Rattle.ready_jobs.specs.Kept.{parted_of}
use Rattle.ready_jobs.proofs.Seeing.{privileged_list}
use Rattle.ready_jobs.proofs.parts.Parts.value_busy.Goals as goal

pub returns : goal.returns
returns c =
    let inside = c.self.inside in
    let p = parted_of inside in
    let runs = ap (λ (q : Parted). q.running) c.self.view_is ∙ c.requires.running in
    ap (λ n. n + c.value_sum.result) c.value.ensures.is
    ∙ ap (λ n. c.args.r.now.job.value + n) (c.value_sum.ensures ∙ c.self.invariant.held.sum)
    ∙ ap (λ n. c.args.r.now.job.value + n) (sum_map entry_of (λ e. e.value) p.held)
    ∙ sym (sum_by-cons (λ (t : Task). t.job.value) c.args.r.now p.held)
    ∙ sym (ap value_sum (privileged_list p c.self.invariant.roles ∙ ap (λ o. option_to_list o ++ p.held) runs))
    ∙ ap (λ (q : Parted). value_sum (privileged (state_of q))) c.self.view_is
