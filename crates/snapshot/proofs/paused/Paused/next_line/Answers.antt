use Rattle.std.proofs.Common.{◌≡◌, sym, ap, ◌∙◌, ◌++◌, ◌∷◌, [], arith, ◌||◌, nat_le, length, subst, false}
use Rattle.std.proofs.lemmas.Option.{slice_get_within}
use Rattle.dover_model.specs.Common.{rules_with}
use Rattle.dover_model.proofs.lists.Members.{some_same}
use Rattle.dover_model.proofs.lists.Tests.{none_is_some}
use Rattle.ready_server.specs.declared.roster.ListedFinish.{ListedFinish}
use Rattle.snapshot.specs.Snapshot.{head_line, state_line, done_line}
use Rattle.snapshot.specs.Pausing.{first_line}
use Rattle.snapshot.proofs.Pausing.{over_left, first_left, finish_left, job_left, last_left, job_within}
use Rattle.snapshot.proofs.paused.Paused.next_line.Goals.{in-Some+else-is_next, in_default}
use Rattle.snapshot.proofs.paused.Paused.next_line.Goals as goal
use Rattle.std.proofs.Common.{codes}

pub returns-then-self : goal.returns-then-self
returns-then-self c =
    let q = c.self.inside in
    let none = sym c.self.view_is ∙ over_left q.roster.roll (rules_with q.ratio q.version) q.lines q.mark q.job
    q.finish q.begun q.over c.if-self.true in
    (none, none)

pub returns-then-not-self : goal.returns-then-not-self
returns-then-not-self c =
    let q = c.self.inside in (
      first_line q.roster.roll (rules_with q.ratio q.version) q.lines q.mark,
      sym c.self.view_is ∙ first_left q.roster.roll (rules_with q.ratio q.version) q.lines q.mark q.job q.finish
          q.begun q.over c.if-not-self.true c.if-self.false,
      c.head.ensures ∙ ap (λ n. head_line (record {
        rules = rules_with q.ratio q.version;
        lines = q.lines;
        mark = q.mark;
        jobs = n;
      }) ++ 10 ∷ []) c.count-jobs.ensures.is,
    )

pub overflow_add-self : goal.overflow_add-self
overflow_add-self c =
    let q = c.self.inside in
    omega (
      arith,
      slice_get_within q.roster.roll.finishes q.finish c.in-Some.finish (sym c.finish.ensures ∙ c.in-Some.is),
      c.self.invariant.3,
    )

pub returns-then-is_next : goal.returns-then-is_next
returns-then-is_next c =
    let q = c.self.inside in (
      done_line c.in-Some.finish.at c.in-Some.finish.number,
      sym c.self.view_is ∙ finish_left q.roster.roll (rules_with q.ratio q.version) q.lines q.mark q.job q.finish
          q.begun q.over c.if-not-self.false c.if-self.false c.in-Some.finish (sym c.finish.ensures ∙ c.in-Some.is)
          (sym (c.is_next.ensures ∙ ap (λ n. nat_le c.in-Some.finish.behind q.job || nat_le n q.job)
          c.count.ensures.is) ∙ c.if-is_next.true),
      c.done.ensures ∙ ap (λ n. done_line c.in-Some.finish.at n ++ 10 ∷ []) c.from.ensures,
    )

pub overflow_add-self-in-Some-job : goal.overflow_add-self-in-Some-job
overflow_add-self-in-Some-job c =
    let q = c.self.inside in
    omega (
      arith,
      job_within q.roster.roll q.mark q.job c.in-Some-job.job (sym c.job.ensures.is ∙ c.in-Some-job.is),
      c.self.invariant.2,
    )

pub returns-in-Some-job : goal.returns-in-Some-job
returns-in-Some-job c =
    let q = c.self.inside in (
      state_line c.in-Some-job.job,
      sym c.self.view_is ∙ job_left q.roster.roll (rules_with q.ratio q.version) q.lines q.mark q.job q.finish
          q.begun q.over c.if-not-self.false c.if-self.false c.in-Some-job.job
          (sym c.job.ensures.is ∙ c.in-Some-job.is) (λ f some. elim c.match-finish.branch [
            | in-Some+else-is_next w ↦ subst (λ (g : ListedFinish). nat_le g.behind q.job
                || nat_le (length q.roster.roll.jobs) q.job ≡ false)
                (some_same w.in-Some.finish f (sym w.in-Some.is ∙ c.finish.ensures ∙ some))
                (sym (w.is_next.ensures ∙ ap (λ n. nat_le w.in-Some.finish.behind q.job || nat_le n q.job)
                w.count.ensures.is) ∙ w.if-is_next.false)
            | in_default w ↦ none_is_some (sym w.in_default.is ∙ c.finish.ensures ∙ some)
          ]),
      c.state.ensures,
    )

pub returns-in-None : goal.returns-in-None
returns-in-None c =
    let q = c.self.inside in (
      codes "resume",
      sym c.self.view_is ∙ last_left q.roster.roll (rules_with q.ratio q.version) q.lines q.mark q.job q.finish
          q.begun q.over c.if-not-self.false c.if-self.false (sym c.job.ensures.is ∙ c.in-None.is) (λ f some.
          elim c.match-finish.branch [
            | in-Some+else-is_next w ↦ subst (λ (g : ListedFinish). nat_le g.behind q.job
                || nat_le (length q.roster.roll.jobs) q.job ≡ false)
                (some_same w.in-Some.finish f (sym w.in-Some.is ∙ c.finish.ensures ∙ some))
                (sym (w.is_next.ensures ∙ ap (λ n. nat_le w.in-Some.finish.behind q.job || nat_le n q.job)
                w.count.ensures.is) ∙ w.if-is_next.false)
            | in_default w ↦ none_is_some (sym w.in_default.is ∙ c.finish.ensures ∙ some)
          ]),
      c.last.ensures,
    )
