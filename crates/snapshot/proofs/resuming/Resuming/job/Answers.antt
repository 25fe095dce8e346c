use Rattle.std.proofs.Common.{◌≡◌, ◌≤◌, ◌∷◌, [], ◌++◌, length, sym, ap, ◌∙◌, subst, refl, arith, option_map, Some}
use Rattle.std.proofs.Common.{length-append, List}
use Rattle.std.proofs.lemmas.List.Elements.{filter_map-append}
use Rattle.dover_model.specs.Common.{Item, JobItem, IsValidSession, admitted_jobs, job_of_item, instance_of}
use Rattle.ready_server.specs.Roster.{Kept}
use Rattle.ready_server.specs.Rostering.{Serves}
use Rattle.snapshot.specs.Reading.{stored}
use Rattle.dover_model.specs.JobFacts.{JobFacts}
use Rattle.snapshot.specs.Forms.{task_in}
use Rattle.snapshot.specs.Snapshot.{Head}
use Rattle.snapshot.specs.declared.resuming.Resuming.{Resuming}
use Rattle.snapshot.specs.Spending.{jobs_read}
use Rattle.snapshot.specs.Kept.{IsFed, IsServing, stance_of}
use Rattle.snapshot.proofs.Stepping.{served_count, jobs_count, job_due, room, none_refused, job_short, beyond_refused}
use Rattle.snapshot.proofs.Stepping.{refuses, may_admit, read_more, holds_more, few_handed, mark_is}
use Rattle.snapshot.proofs.Spending.{jobs_lines, jobs_served, jobs_reading, jobs_stay}
use Rattle.snapshot.proofs.resuming.Resuming.job.Goals as goal

pub refused-bad-requires : goal.refused-bad-requires
refused-bad-requires g c =
    let (ls, (h, items, tasks, read, it)) = c.requires.reading in
    omega (arith, few_handed h items tasks ls read c.args.self.now it)

pub hand_job-requires-clause-numerals : goal.hand_job-requires-clause-numerals
hand_job-requires-clause-numerals g c =
    let (ls, (h, items, tasks, read, it)) = c.requires.reading in
    job_short h items tasks ls read c.args.self.now it c.args.line.now c.requires.other
    (job_due h items tasks ls read c.args.self.now it c.requires.more)
    (task_in c.in-Some.state) (sym c.read_state.ensures ∙ ap (option_map task_in) c.in-Some.is)

pub hand_job-requires-clause-fed : goal.hand_job-requires-clause-fed
hand_job-requires-clause-fed g c =
    let (ls, (h, items, tasks, read, it)) = c.requires.reading in (
      h,
      items,
      it.fed,
      room h items tasks ls read c.args.self.now it (job_due h items tasks ls read c.args.self.now it c.requires.more),
    )

pub returns-in_default-clause-answers : goal.returns-in_default-clause-answers
returns-in_default-clause-answers g c = λ ls (h, items, tasks, read, it).
    refuses _ _ _ _ c.refused-bad.ensures
    (none_refused h items tasks ls read c.args.self.now it c.args.line.now c.requires.other
    (job_due h items tasks ls read c.args.self.now it c.requires.more)
    (sym c.read_state.ensures ∙ ap (option_map task_in) c.in_default.is))

pub returns-in_default-hand_job-clause-answers : goal.returns-in_default-hand_job-clause-answers
returns-in_default-hand_job-clause-answers g c = λ ls (h, items, tasks, read, it).
    let more = job_due h items tasks ls read c.args.self.now it c.requires.more in
    refuses _ _ _ _ c.refused-bad.ensures
    (beyond_refused h items tasks ls read c.args.self.now it c.args.line.now c.requires.other more
    (task_in c.in-Some.state) (sym c.read_state.ensures ∙ ap (option_map task_in) c.in-Some.is)
    (λ number valid low. c.in_default-hand_job.ensures.none h items it.fed
    (room h items tasks ls read c.args.self.now it more) refl valid))

pub returns-then-state-count-clause-answers : goal.returns-then-state-count-clause-answers
returns-then-state-count-clause-answers g c = λ ls (h, items, tasks, read, it).
    let more = job_due h items tasks ls read c.args.self.now it c.requires.more in
    refuses _ _ _ _ c.refused-bad.ensures
    (beyond_refused h items tasks ls read c.args.self.now it c.args.line.now c.requires.other more
    (task_in c.in-Some.state) (sym c.read_state.ensures ∙ ap (option_map task_in) c.in-Some.is)
    (λ number valid low. c.if-state-count.true (number
    ∙ sym (c.count.ensures ∙ served_count h items tasks ls read c.args.self.now it))))

pub returns-then-state-self-clause-answers : goal.returns-then-state-self-clause-answers
returns-then-state-self-clause-answers g c = λ ls (h, items, tasks, read, it).
    let more = job_due h items tasks ls read c.args.self.now it c.requires.more in
    refuses _ _ _ _ c.refused-bad.ensures
    (beyond_refused h items tasks ls read c.args.self.now it c.args.line.now c.requires.other more
    (task_in c.in-Some.state) (sym c.read_state.ensures ∙ ap (option_map task_in) c.in-Some.is)
    (λ number valid low. absurd (omega (
      arith,
      low,
      c.if-state-self.true,
      mark_is h items tasks ls read c.args.self.now it,
    ))))

-- what an embracing session keeps where the server alone was taken on
same_serving : (r new : Resuming) → new.server ≡ r.server → new.roster ≡ r.roster → new.handed ≡ r.handed
    → new.last ≡ r.last → (h : Head) (items : List Item) → IsServing r h items → IsServing new h items
same_serving r new server roster handed last h items it = record {
  handed = handed ∙ it.handed;
  last = last ∙ it.last;
  events = it.events;
  serves = subst (λ m. Serves new.server new.roster (instance_of (stored h items)) m it.events) (sym last)
      (subst (λ s. Serves s new.roster (instance_of (stored h items)) r.last it.events) (sym server)
      (subst (λ k. Serves r.server k (instance_of (stored h items)) r.last it.events) (sym roster) it.serves));
  room = omega (arith, it.room, ap (λ (k : Kept). k.finish_room) roster);
}

-- so it does with an equal job
serving_with : (r new : Resuming) (h : Head) (items : List Item) (j k : JobFacts) → j ≡ k → new.server ≡ r.server
    → new.roster ≡ r.roster → new.handed ≡ r.handed → new.last ≡ r.last → IsServing r h (items ++ JobItem j ∷ [])
    → IsServing new h (items ++ JobItem k ∷ [])
serving_with r new h items j k same server roster handed last it =
    subst (λ x. IsServing new h (items ++ JobItem x ∷ [])) same
    (same_serving r new server roster handed last h (items ++ JobItem j ∷ []) it)

pub admit-requires : goal.admit-requires
admit-requires g c =
    let (ls, (h, items, tasks, read, it)) = c.requires.reading in
    let more = job_due h items tasks ls read c.args.self.now it c.requires.more in
    let some = c.in-Some-hand_job.ensures.some h items it.fed (room h items tasks ls read c.args.self.now it more) in
    let spelled = sym c.read_state.ensures ∙ ap (option_map task_in) c.in-Some.is in (
      h,
      items,
      same_serving c.args.self.now _ refl refl refl refl h items it.serving,
      may_admit h items tasks ls read c.args.self.now it c.args.line.now c.requires.other more
          (task_in c.in-Some.state) spelled
          (subst (λ j. IsValidSession (stored h (items ++ JobItem j ∷ []))) some.0 some.1)
          c.in-Some-hand_job.job some.0,
    )

pub returns-in_default-clause-jobs : goal.returns-in_default-clause-jobs
returns-in_default-clause-jobs g c = λ ls it. jobs_stay c.args.self.now ls it c.args.line.now _ refl

pub returns-then-state-count-clause-jobs : goal.returns-then-state-count-clause-jobs
returns-then-state-count-clause-jobs g c = λ ls it. jobs_stay c.args.self.now ls it c.args.line.now _ refl

pub returns-then-state-self-clause-jobs : goal.returns-then-state-self-clause-jobs
returns-then-state-self-clause-jobs g c = λ ls it. jobs_stay c.args.self.now ls it c.args.line.now _ refl

pub returns-in_default-hand_job-clause-jobs : goal.returns-in_default-hand_job-clause-jobs
returns-in_default-hand_job-clause-jobs g c = λ ls it. jobs_stay c.args.self.now ls it c.args.line.now _ refl

pub returns-in-Err-clause-jobs : goal.returns-in-Err-clause-jobs
returns-in-Err-clause-jobs g c = λ ls (h, items, tasks, read, it). jobs_lines ls h items tasks read c.args.line.now _
    (c.in-Err.ensures.err h items (same_serving c.args.self.now _ refl refl refl refl h items it.serving)
    ∙ jobs_count h items tasks ls read c.args.self.now it)

pub returns-in_default-clause-count : goal.returns-in_default-clause-count
returns-in_default-clause-count g c = λ start spent. spent

pub returns-then-state-count-clause-count : goal.returns-then-state-count-clause-count
returns-then-state-count-clause-count g c = λ start spent. spent

pub returns-then-state-self-clause-count : goal.returns-then-state-self-clause-count
returns-then-state-self-clause-count g c = λ start spent. spent

pub returns-in_default-hand_job-clause-count : goal.returns-in_default-hand_job-clause-count
returns-in_default-hand_job-clause-count g c = λ start spent. spent

pub returns-in-Err-clause-count : goal.returns-in-Err-clause-count
returns-in-Err-clause-count g c = λ start spent. c.in-Err.ensures.count start spent

pub returns-in-Ok-push-clause-count : goal.returns-in-Ok-push-clause-count
returns-in-Ok-push-clause-count g c = λ start spent. c.in-Ok.ensures.count start spent

pub returns-in-Err-push-clause-count : goal.returns-in-Err-push-clause-count
returns-in-Err-push-clause-count g c = λ start spent. c.in-Ok.ensures.count start spent

pub returns-in-Err-clause-answers : goal.returns-in-Err-clause-answers
returns-in-Err-clause-answers g c = λ ls (h, items, tasks, read, it).
    let more = job_due h items tasks ls read c.args.self.now it c.requires.more in
    let some = c.in-Some-hand_job.ensures.some h items it.fed (room h items tasks ls read c.args.self.now it more) in
    let spelled = sym c.read_state.ensures ∙ ap (option_map task_in) c.in-Some.is in
    let valid = subst (λ j. IsValidSession (stored h (items ++ JobItem j ∷ []))) some.0 some.1 in
    let lines = read_more h items tasks ls read c.args.self.now it c.args.line.now c.requires.other more
    (task_in c.in-Some.state) spelled valid
    (c.if-state-count.false ∙ c.count.ensures ∙ served_count h items tasks ls read c.args.self.now it)
    (omega (arith, c.if-state-self.false, mark_is h items tasks ls read c.args.self.now it)) in
    (h, items ++ JobItem (task_in c.in-Some.state).job ∷ [], tasks ++ task_in c.in-Some.state ∷ [], lines.reads)

pub returns-in-Err-push-clause-answers : goal.returns-in-Err-push-clause-answers
returns-in-Err-push-clause-answers g c = λ ls (h, items, tasks, read, it).
    let more = job_due h items tasks ls read c.args.self.now it c.requires.more in
    let some = c.in-Some-hand_job.ensures.some h items it.fed (room h items tasks ls read c.args.self.now it more) in
    let spelled = sym c.read_state.ensures ∙ ap (option_map task_in) c.in-Some.is in
    let valid = subst (λ j. IsValidSession (stored h (items ++ JobItem j ∷ []))) some.0 some.1 in
    let lines = read_more h items tasks ls read c.args.self.now it c.args.line.now c.requires.other more
    (task_in c.in-Some.state) spelled valid
    (c.if-state-count.false ∙ c.count.ensures ∙ served_count h items tasks ls read c.args.self.now it)
    (omega (arith, c.if-state-self.false, mark_is h items tasks ls read c.args.self.now it)) in
    (h, items ++ JobItem (task_in c.in-Some.state).job ∷ [], tasks ++ task_in c.in-Some.state ∷ [], lines.reads)

pub returns-in-Ok-push-clause-answers : goal.returns-in-Ok-push-clause-answers
returns-in-Ok-push-clause-answers g c = λ ls (h, items, tasks, read, it).
    let more = job_due h items tasks ls read c.args.self.now it c.requires.more in
    let some = c.in-Some-hand_job.ensures.some h items it.fed (room h items tasks ls read c.args.self.now it more) in
    let spelled = sym c.read_state.ensures ∙ ap (option_map task_in) c.in-Some.is in
    let valid = subst (λ j. IsValidSession (stored h (items ++ JobItem j ∷ []))) some.0 some.1 in
    let lines = read_more h items tasks ls read c.args.self.now it c.args.line.now c.requires.other more
    (task_in c.in-Some.state) spelled valid
    (c.if-state-count.false ∙ c.count.ensures ∙ served_count h items tasks ls read c.args.self.now it)
    (omega (arith, c.if-state-self.false, mark_is h items tasks ls read c.args.self.now it)) in
    let same = c.in-Ok.ensures.same in
    let may = may_admit h items tasks ls read c.args.self.now it c.args.line.now c.requires.other more
    (task_in c.in-Some.state) spelled valid c.in-Some-hand_job.job some.0 in
    let serving = c.in-Ok.ensures.serves h items
    (same_serving c.args.self.now _ refl refl refl refl h items it.serving) may in (
      h,
      items ++ JobItem (task_in c.in-Some.state).job ∷ [],
      tasks ++ task_in c.in-Some.state ∷ [],
      lines,
      holds_more h items tasks ls read c.args.self.now it c.args.line.now c.requires.other more
          (task_in c.in-Some.state) spelled valid _
          (ap (λ (x : Resuming). x.head) same)
          (c.in-Ok-push.ensures.items ∙ ap (λ (x : Resuming). x.stances.items ++ stance_of
          (task_in c.in-Some.state) ∷ []) same)
          (subst (λ j. IsFed c.admit.new.self.intake h (items ++ JobItem j ∷ [])) some.0
          (subst (λ i. IsFed i h (items ++ JobItem c.in-Some-hand_job.job ∷ []))
          (sym (ap (λ (x : Resuming). x.intake) same)) some.2))
          (serving_with c.admit.new.self _ h items c.in-Some-hand_job.job (task_in c.in-Some.state).job some.0
          refl refl refl refl serving),
    )

pub returns-in-Ok-push-clause-jobs : goal.returns-in-Ok-push-clause-jobs
returns-in-Ok-push-clause-jobs g c = λ ls it.
    jobs_reading (Some _) (ls ++ c.args.line.now ∷ []) (returns-in-Ok-push-clause-answers g c ls it)

pub returns-in-Err-push-clause-jobs : goal.returns-in-Err-push-clause-jobs
returns-in-Err-push-clause-jobs g c = λ ls (h, items, tasks, read, it).
    let more = job_due h items tasks ls read c.args.self.now it c.requires.more in
    let some = c.in-Some-hand_job.ensures.some h items it.fed (room h items tasks ls read c.args.self.now it more) in
    let spelled = sym c.read_state.ensures ∙ ap (option_map task_in) c.in-Some.is in
    let valid = subst (λ j. IsValidSession (stored h (items ++ JobItem j ∷ []))) some.0 some.1 in
    let lines = read_more h items tasks ls read c.args.self.now it c.args.line.now c.requires.other more
    (task_in c.in-Some.state) spelled valid
    (c.if-state-count.false ∙ c.count.ensures ∙ served_count h items tasks ls read c.args.self.now it)
    (omega (arith, c.if-state-self.false, mark_is h items tasks ls read c.args.self.now it)) in
    let may = may_admit h items tasks ls read c.args.self.now it c.args.line.now c.requires.other more
    (task_in c.in-Some.state) spelled valid c.in-Some-hand_job.job some.0 in
    let serving = c.in-Ok.ensures.serves h items
    (same_serving c.args.self.now _ refl refl refl refl h items it.serving) may in
    subst (λ reading. c.admit.new.self.server.ready.jobs ≤ jobs_read reading) (sym lines.reads)
    (omega (
      arith,
      jobs_served c.admit.new.self h (items ++ JobItem c.in-Some-hand_job.job ∷ []) serving,
      ap length (filter_map-append job_of_item items (JobItem c.in-Some-hand_job.job ∷ [])),
      length-append (admitted_jobs items) (c.in-Some-hand_job.job ∷ []),
      length-append tasks (task_in c.in-Some.state ∷ []),
      jobs_count h items tasks ls read c.args.self.now it,
    ))
