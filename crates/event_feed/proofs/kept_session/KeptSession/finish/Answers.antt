-- A done line of a tick that there is.
use Rattle.std.proofs.Common.{◌≤◌, max, ap, ◌∙◌, arith}
use Rattle.dover_model.specs.Limits.{last_tick_in}
use Rattle.event_feed.specs.declared.kept_session.KeptSession.{KeptSession}
use Rattle.event_feed.proofs.DoneLines.{takes_done}
use Rattle.event_feed.proofs.kept_session.KeptSession.finish.Goals as goal

pub returns : goal.returns
returns c lines S mark it may =
    let kept : KeptSession = c.args.self.now in
    let new : KeptSession = record { admission = kept.admission; mark = c.max-self.result } in
    let known : c.args.at ≤ last_tick_in S.rules.version = omega (
      arith,
      ap (λ rules. last_tick_in rules.version) it.rules,
      ap last_tick_in c.version.ensures,
    ) in
    takes_done lines S mark c.args.at c.args.number may known new
    (record {
      rules = it.rules;
      jobs = it.jobs;
      marked = c.max-self.ensures ∙ ap
          (λ m. max m c.args.at) it.marked;
    }) c.requires
