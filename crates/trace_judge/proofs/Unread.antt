-- Lines that continue no trace, and lines that continue one have a form.
use Rattle.std.proofs.Common.{Option, ◌≡◌, ℕ, ◌+◌, ◌≤◌, ◌<◌, ◌⊎◌, inl, inr, List, [], ◌∷◌, ◌++◌, length, sym, ap, ◌∙◌}
use Rattle.std.proofs.Common.{subst, true, false, cond, arith}
use Rattle.dover_model.specs.Common.{last_tick, IsRatio, Declaration, State, Session, RefusedLine, RefusedJob}
use Rattle.dover_model.specs.Common.{RefusedDone}
use Rattle.dover_model.specs.Common.{instance_of, admitted_jobs, IsDeclarable, Finish, settled_state, Keeps, header}
use Rattle.dover_model.specs.Common.{text_of, refused_text, item_of, begins_trace, ends_with_end, PrintsNext}
use Rattle.dover_model.specs.declared.events.Event.{Event}
use Rattle.dover_model.specs.declared.events.Event.TheVariants.{Release, Complete}
use Rattle.dover_model.proofs.sessions.SessionParts as parts
use Rattle.dover_model.proofs.sessions.Growing.{Finishes, finishing_job}
use Rattle.dover_model.proofs.settled.Barriers.{settled_at_barrier}
use Rattle.dover_model.proofs.runs.Honest.{numbers_low, count_jobs}
use Rattle.dover_model.proofs.valid.Admitting.{Admitted, not_refused}
use Rattle.dover_model.proofs.valid.Limiting.{jobs_most, tick_most}
use Rattle.dover_model.proofs.traces.TraceEnds.{trace_ends}
use Rattle.dover_model.proofs.traces.WrongStays.{after_end_fails}
use Rattle.line_text.specs.declared.traces.lines.TraceLine.{TraceLine}
use Rattle.line_text.specs.declared.traces.lines.TraceLine.TheVariants.{Header, Step, Refused}
use Rattle.line_text.specs.declared.traces.lines.TraceLine.TheVariants as format
use Rattle.line_text.specs.traces.Form.{HasForm, item_in, trace_text}
use Rattle.trace_judge.specs.Reading.{Sees, IsReleaseNext, IsRefusedNext, IsCompletionNext}
use Rattle.trace_judge.proofs.Naming.{header_named, header_line, header_text, header_form}
use Rattle.trace_judge.proofs.Only.{only_headers, only_step, continues_only}
use Rattle.trace_judge.proofs.Seeing.{sees_some_next}
use Rattle.trace_judge.specs.declared.stage.TraceStage.{TraceStage}
use Rattle.trace_judge.specs.declared.stage.TraceStage.TheVariants.{Opening, Going, Ended}
use Rattle.trace_judge.specs.Reads.{Reading, Goes, Ends, Reads, Took, jobs_in, job_lines_in, is_job_item}
use Rattle.trace_judge.proofs.Forms.{one_form, next_form}
use Rattle.trace_judge.proofs.Readings.{HereBy, ends_of, reads_ahead, took_none, goes_none}
use Rattle.dover_model.proofs.sessions.SessionParts.{session_jobs}
use Rattle.trace_judge.proofs.Follows.{refused_parts, finish_parts}
use Rattle.dover_model.proofs.valid.ValidParts.{valid_parts}
use Rattle.dover_model.proofs.valid.JobLimits.{job_limits}
use Rattle.dover_model.proofs.lists.Tests.{never}

-- behind the end no line continues the trace
ended_fails : (r : Reading) (ls : List (List ℕ)) (S : Session) → Ends r ls S → (l : List ℕ)
    → begins_trace (ls ++ l ∷ []) ≡ false
ended_fails r ls S ends l = after_end_fails ls l (ap ends_with_end ends.lines ∙ trace_ends S ends.valid)

-- so each is wrong
pub ended_took_none : (w : Reading) → w.stage ≡ Ended → (l : List ℕ) → Took w w l false
ended_took_none w stage l = took_none w w l (λ ls reads. reads) (λ ls reads passes.
    let it : (S : Session) × Ends w ls S = ends_of w ls stage (reads_ahead w ls reads) in
    never (sym (ended_fails w ls it.0 it.1 l) ∙ passes))

-- a second header is wrong
pub header_took_none : (w : Reading) → w.stage ≡ Going → (v p q : ℕ) (factor : Option (ℕ × ℕ))
    → HasForm (Header v p q factor) → Took w w (trace_text (Header v p q factor)) false
header_took_none w going v p q factor form =
    goes_none w w (trace_text (Header v p q factor)) going (λ ls reads. reads) (λ ls S z goes passes.
    let next : (e : Event) × (y : State) × PrintsNext (instance_of S).rules z e y =
    sees_some_next ls S w.floor z goes.sees in
    let text : trace_text (Header v p q factor) ≡ text_of next.0 =
    only_step ls S w.floor z goes.sees (trace_text (Header v p q factor)) passes next.0 next.1 next.2
    (header_named S v p q factor form) in
    let clash : Header v p q factor ≡ Step next.0 = one_form (Header v p q factor) (Step next.0) form
    (next_form ls S w.floor z goes.sees next.0 next.1 next.2) text in cc)

-- the line of a job that may be released has a form
release_form : (S : Session) (floor : ℕ) (z : State) (l : List ℕ) → IsReleaseNext S floor z l → (x : TraceLine)
    × HasForm x × (trace_text x ≡ l)
release_form S floor z l it =
    let admitted : Admitted S.rules (admitted_jobs S.items) it.0 =
    not_refused S.rules (admitted_jobs S.items) it.0 it.3.admitted in
    let few : length (admitted_jobs S.items) < 4_000_000_000 =
    omega (arith, admitted.count, jobs_most S.rules.version) in
    let window : it.0.release + it.0.work ≤ it.0.deadline = (job_limits admitted.job).window in
    let due : it.0.deadline ≤ 10_000_000_000_000_000 = (job_limits admitted.job).due in
    let modest : it.0.value ≤ 1_000_000_000 = (job_limits admitted.job).modest in (
      Step (Release (length (admitted_jobs S.items)) it.0),
      ((omega arith, (omega arith, (omega arith, (omega arith, (omega arith, tt))))), (omega arith, admitted.job)),
      sym it.1,
    )

-- so has a refused line that may come next
refused_form : (S : Session) (floor : ℕ) (z : State) (l : List ℕ) → IsRefusedNext S floor z l → (x : TraceLine)
    × HasForm x × (trace_text x ≡ l)
refused_form S floor z l it =
    by_line it.0.line it.1 (refused_parts it.3).line where
      known : it.0.at ≤ last_tick
      known = omega (arith, (refused_parts it.3).known, tick_most S.rules.version)

      by_line : (line : RefusedLine) → l ≡ refused_text (record { at = it.0.at; line = line })
          → parts.MayRefuse S it.0.at line → (x : TraceLine) × HasForm x × (trace_text x ≡ l)
      by_line (RefusedJob j cause) is may = (
        Refused it.0.at j.release j.work j.deadline j.value cause,
        (omega (arith, known), may.numerals),
        sym is,
      )
      by_line (RefusedDone tick n) is may = (
        format.RefusedDone it.0.at tick n,
        (omega (arith, known), (let no_later : tick ≤ it.0.at = may.no_later in omega (arith, known), may.numerals)),
        sym is,
      )

-- so has an early completion that may come next
completion_form : (ls : List (List ℕ)) (S : Session) (floor : ℕ) (z : State) (l : List ℕ) → Sees ls S floor z
    → IsCompletionNext S floor z l → (x : TraceLine) × HasForm x × (trace_text x ≡ l)
completion_form ls S floor z l sees it =
    let known : it.0.at ≤ last_tick = omega (arith, (finish_parts it.3).known, tick_most S.rules.version) in
    let job : Finishes S it.0 = finishing_job S it.0 (finish_parts it.3).right in
    let number : it.0.finish.number ≡ job.job.number = ap (λ (g : Finish). g.number) job.is in
    let keeps : Keeps (instance_of S) (settled_state (instance_of S) it.0.at) =
    (settled_at_barrier (instance_of S) (session_jobs sees.valid) it.0.at).keeps in
    let low : job.job.number < length (instance_of S).jobs = omega (
      arith,
      numbers_low 0 (settled_state (instance_of S) it.0.at).tasks keeps.sound.numbered job.job job.runs.member,
      count_jobs (settled_state (instance_of S) it.0.at).tasks,
      ap length keeps.jobs,
    ) in
    let few : length (instance_of S).jobs ≤ 4_000_000_000 =
    omega (arith, (valid_parts (session_jobs sees.valid)).count, jobs_most S.rules.version) in (
      Step (Complete it.0.at it.0.finish.number),
      ((omega (arith, known), (omega (arith, number, low), tt)), omega (arith, number, low)),
      sym it.1,
    )

-- a line without a form continues no trace
unread_fails : (w : Reading) (l : List ℕ) → ((x : TraceLine) → HasForm x → trace_text x ≡ l → ⊥)
    → (ls : List (List ℕ)) → Reads w ls
    → begins_trace (ls ++ l ∷ []) ≡ true → ⊥
unread_fails w l none ls reads = by_stage w.stage reads where
  by_line : (S : Session) (z : State) (goes : Goes w ls S z z) (e : Event) (y : State)
      → PrintsNext (instance_of S).rules z e y
      → (l ≡ text_of e)
      ⊎ (IsReleaseNext S w.floor z l ⊎ (IsRefusedNext S w.floor z l ⊎ IsCompletionNext S w.floor z l)) → ⊥
  by_line S z goes e y next (inl is) = none (Step e) (next_form ls S w.floor z goes.sees e y next) (sym is)
  by_line S z goes e y next (inr (inl it)) = let form = release_form S w.floor z l it in none form.0 form.1 form.2
  by_line S z goes e y next (inr (inr (inl it))) = let form = refused_form S w.floor z l it in none form.0 form.1 form.2
  by_line S z goes e y next (inr (inr (inr it))) =
      let form = completion_form ls S w.floor z l goes.sees it in none form.0 form.1 form.2

  by_stage : (s : TraceStage) → HereBy s w ls → begins_trace (ls ++ l ∷ []) ≡ true → ⊥
  by_stage Opening opens passes =
      let it : (rules : Declaration) × IsRatio rules.ratio × IsDeclarable rules × (l ≡ header rules) =
      only_headers l (subst (λ xs. begins_trace (xs ++ l ∷ []) ≡ true) opens.lines passes) in
      none (header_line it.0) (header_form it.0 it.1) (header_text it.0 ∙ sym it.3)
  by_stage Going here passes =
      let next : (e : Event) × (y : State) × PrintsNext (instance_of here.0).rules here.1 e y =
      sees_some_next ls here.0 w.floor here.1 here.2.sees in
      by_line here.0 here.1 here.2 next.0 next.1 next.2
      (continues_only ls here.0 w.floor here.1 here.2.sees next.0 next.1 next.2 l passes)
  by_stage Ended it passes = let clash : false ≡ true = sym (ended_fails w ls it.0 it.1 l) ∙ passes in cc

-- so it is wrong
pub unread_took : (w : Reading) (l : List ℕ) → ((x : TraceLine) → HasForm x → trace_text x ≡ l → ⊥)
    → Took w w l false
unread_took w l none = took_none w w l (λ ls reads. reads) (unread_fails w l none)

-- a line that was read as a release names a job
pub jobs_counted : (x : TraceLine) (l : List ℕ) → item_of l ≡ item_in x → jobs_in x ≤ job_lines_in l
jobs_counted (Step (Release n j)) l is = subst (λ o. 1 ≤ cond (is_job_item o) 1 0) (sym is) (omega arith)
jobs_counted _ l is = omega arith
