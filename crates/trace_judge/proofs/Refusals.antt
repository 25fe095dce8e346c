-- How the judge takes a refused line: of a job, or a done line.
use Rattle.std.proofs.Common.{◌≡◌, ℕ, ◌+◌, ◌≤◌, ◌<◌, List, [], ◌∷◌, ◌++◌, length, refl, sym, ap, ◌∙◌, subst, true}
use Rattle.std.proofs.Common.{false, arith, Some, None, cond, ◌&&◌, nat_le, is_some, filter_map, append-nil}
use Rattle.admission.specs.Kept as admission
use Rattle.dover_model.specs.Common.{last_tick_in, most_items, JobFacts, job_of_numbers, Instance, State, printed_of}
use Rattle.dover_model.specs.Common.{RefusedItem, Refused as RefusedAt, Session, instance_of, admitted_jobs, with_item}
use Rattle.dover_model.specs.Common.{refuses_lines, is_full, refused_mark, may_finish_early, finish_at, refused_of_item}
use Rattle.dover_model.specs.Common.{refused_text, named_item, begins_trace, Idles, WaitsUntil}
use Rattle.dover_model.specs.declared.events.Refusal.{Refusal}
use Rattle.dover_model.specs.declared.events.Refusal.TheVariants.{Full}
use Rattle.dover_model.specs.Session as session
use Rattle.dover_model.proofs.sessions.SessionParts as parts
use Rattle.dover_model.proofs.sessions.SessionParts.{may_be_refused-agrees}
use Rattle.dover_model.proofs.sessions.Growing.{refused_instance}
use Rattle.line_text.specs.declared.traces.lines.TraceLine.TheVariants.{Refused, RefusedDone}
use Rattle.line_text.specs.traces.Form.{HasForm, refused_job, refused_done}
use Rattle.trace_judge.specs.Reading.{MayRefuse}
use Rattle.trace_judge.proofs.Continuing.{sees_refused, sees_idles, SeesWith}
use Rattle.trace_judge.proofs.Naming.{item_named}
use Rattle.trace_judge.proofs.Only.{only_refused}
use Rattle.trace_judge.specs.declared.stage.TraceStage.TheVariants.{Going}
use Rattle.ready_jobs.specs.Course.{Follows}
use Rattle.trace_judge.specs.Reads.{Reading, Goes, StaysAhead, IsReader, Took, Waited, at_tick, refusal_if_full}
use Rattle.trace_judge.proofs.Causes.{full_there, refused_if_full, refused_there}
use Rattle.trace_judge.proofs.Readings.{goes_of, reads_of, version_kept, room_kept, room_left, goes_none, goes_some}
use Rattle.trace_judge.proofs.Readings.{Continues, continued_reader, item_more, no_job, kept_none}
use Rattle.dover_model.proofs.lists.Tests.{never}
use Rattle.trace_judge.proofs.Follows.{refused_parts}

-- no more lines are refused than there are items
few_refused : (items : List session.Item) → length (filter_map refused_of_item items) ≤ length items
few_refused [] = omega arith
few_refused (session.JobItem j ∷ items) = omega (arith, few_refused items)
few_refused (RefusedItem r ∷ items) = omega (arith, few_refused items)
few_refused (session.FinishItem f ∷ items) = omega (arith, few_refused items)

module _ (line : RefusedAt) (named : (S : Session) → named_item S (refused_text line) ≡ Some (RefusedItem line)) where
  -- where its text continues a trace, it may come next
  refused_only : (w : Reading) (ls : List (List ℕ)) (S : Session) (z : State) → Goes w ls S z z
      → begins_trace (ls ++ refused_text line ∷ []) ≡ true
      → (y : State) × MayRefuse S w.floor z line y
  refused_only w ls S z goes passes =
      let it = only_refused ls S w.floor z goes.sees (refused_text line) passes line (named S) in (it.1, it.2)

  module _ (w : Reading) (going : w.stage ≡ Going) where
    -- it may not come, as far as the run has gone on
    pub not_refused : (v2 : Reading) → StaysAhead w v2
        → ((ls : List (List ℕ)) (S : Session) (z : State) → Goes w ls S z z → (y : State)
        → MayRefuse S w.floor z line y → ⊥)
        → Took w v2 (refused_text line) false
    not_refused v2 ahead none = goes_none w v2 (refused_text line) going ahead (λ ls S z goes passes.
        let it : (y : State) × MayRefuse S w.floor z line y = refused_only w ls S z goes passes in
        none ls S z goes it.0 it.1)

    -- something comes before its tick
    pub not_waited : (v2 : Reading)
        → (w.floor ≤ line.at → (ls : List (List ℕ)) (S : Session) (z : State) → Goes w ls S z z → (x : State)
        → WaitsUntil (instance_of S).rules line.at z x → ⊥) → StaysAhead w v2 → Took w v2 (refused_text line) false
    not_waited v2 none ahead = not_refused v2 ahead
        (λ ls S z goes y may. none (refused_parts may).no_fall ls S z goes y may.waits)

    -- it may come
    module _ (u v2 : Reading) (same : u ≡ v2) (kept : v2 ≡ record w { course = v2.course })
        (known : line.at ≤ last_tick_in w.kept.rules.version) (few : w.items < most_items w.kept.rules.version)
        (may_line : (ls : List (List ℕ)) (S : Session) (z y x : State) → Goes w ls S z y
        → Waited v2 line.at ls S z x → parts.MayRefuse S line.at line.line)
        (waits : (ls : List (List ℕ)) (S : Session) (z y : State) → Goes w ls S z y → (x : State)
        × Waited v2 line.at ls S z x) where
      -- the reading with it
      abbrev refused : Reading
      refused = record u { items = u.items + 1; floor = line.at; refused = u.refused + 1 }

      -- it is kept of the lines with its text
      refused_goes : Continues w refused (refused_text line)
      refused_goes ls S z y goes =
          let there : (x : State) × Waited v2 line.at ls S z x = waits ls S z y goes in
          let waited : Waited u line.at ls S z there.0 =
          subst (λ t. Waited t line.at ls S z there.0) (sym same) there.1 in
          let x : State = there.0 in
          let here : Goes u ls S z x = waited.goes in
          let unchanged : u ≡ record w { course = v2.course } = same ∙ kept in
          let may : MayRefuse S u.floor z line (at_tick line.at x) = record {
            room = room_left u ls S z x here
                (subst (λ (t : Reading). t.items < most_items t.kept.rules.version) (sym unchanged) few);
            refused = (may_be_refused-agrees S u.floor line).1 (record {
              no_fall = waited.no_fall;
              known = omega (arith, known, ap last_tick_in (version_kept w ls S z y goes));
              line = may_line ls S z y x goes there.1;
            });
            waits = waited.waits;
          } in
          let S_more : Session = with_item S (RefusedItem line) in
          let J_same : instance_of S_more ≡ instance_of S = refused_instance S line in
          let sees : SeesWith (ls ++ refused_text line ∷ []) S_more line.at z (printed_of here.sees.steps) =
          sees_refused ls S u.floor z here.sees line (at_tick line.at x) may in
          let idles : Idles (instance_of S_more).rules z here.idles.0 x =
          subst (λ (J : Instance). Idles J.rules z here.idles.0 x) (sym J_same) here.idles.1 in
          let on : SeesWith (ls ++ refused_text line ∷ []) S_more line.at x (printed_of sees.0.steps) =
          sees_idles (ls ++ refused_text line ∷ []) S_more line.at z sees.0 here.idles.0 x idles
          (omega (arith, here.follows.clock, waited.low)) in (
            S_more,
            x,
            item_more u ls S z x here (RefusedItem line) refused (ls ++ refused_text line ∷ []) x []
                (on.0, on.1 ∙ sees.1 ∙ sym (append-nil (printed_of here.sees.steps)))
                (subst (λ J. Follows u.course J x) (sym J_same) here.follows) (no_job u.kept) refl refl refl
                (kept_none u.keep u.steps) (omega arith) refl,
          )

      -- the stage
      going_u : u.stage ≡ Going
      going_u = ap (λ (t : Reading). t.stage) (same ∙ kept) ∙ going

      -- the trace goes on
      pub refused_took : Took w refused (refused_text line) true
      refused_took = goes_some w refused (refused_text line) going (λ ls S z goes.
          let new = refused_goes ls S z z goes in
          reads_of refused (ls ++ refused_text line ∷ []) going_u new.0 new.1 new.2)

      -- and it is kept of some lines
      pub refused_reader : IsReader u → (t : Reading) → t ≡ w → IsReader t → IsReader refused
      refused_reader old t is_w before = continued_reader t w refused (refused_text line) is_w going going_u before
          (record { ready = old.spare.ready; steps = old.spare.steps }) refused_goes

-- fewer lines were refused than there are items
pub refused_few : (r : Reading) → IsReader r → r.stage ≡ Going → r.refused ≤ r.items
refused_few r old going =
    let it : (S : Session) × (z : State) × (y : State) × Goes r old.lines S z y =
    goes_of r old.lines going old.reads in
    omega (arith, it.3.refused, it.3.items, few_refused it.0.items)

-- ---- of a job

module _ (at r c d v : ℕ) (cause : Refusal) (form : HasForm (Refused at r c d v cause)) where
  -- the refused line
  abbrev pub job_line : RefusedAt
  job_line = refused_job at r c d v cause

  -- its text names it
  pub job_named : (S : Session) → named_item S (refused_text job_line) ≡ Some (RefusedItem job_line)
  job_named S = item_named S (Refused at r c d v cause) (RefusedItem job_line) form refl

  -- the jobs and the limits don't refuse it so
  pub job_not : (w : Reading) → w.stage ≡ Going
      → (refuses_lines w.kept.rules.version ≡ true → at ≤ last_tick_in w.kept.rules.version
      → w.items < most_items w.kept.rules.version
      → (jobs : List JobFacts) → admission.StandsFor w.kept jobs
      → refusal_if_full w.kept.rules jobs at (job_of_numbers r c d v) ≡ Some cause → ⊥)
      → Took w w (refused_text job_line) false
  job_not w going none = not_refused job_line job_named w going w (λ ls reads. reads) (λ ls S z goes y may.
      none (ap refuses_lines (sym (version_kept w ls S z z goes)) ∙ (refused_parts may).line.version)
      (omega (arith, (refused_parts may).known, ap last_tick_in (version_kept w ls S z z goes)))
      (room_kept w ls S z z goes may.room) (admitted_jobs S.items) goes.kept
      (ap (λ k. refusal_if_full k (admitted_jobs S.items) at (job_of_numbers r c d v)) goes.rules
      ∙ refused_if_full S at (job_of_numbers r c d v) cause (refused_parts may).line.cause
      (refused_parts may).line.raised))

  -- its cause is that as many jobs are ready as may be at once, and they aren't
  pub job_roomy : (w v2 : Reading) → w.stage ≡ Going → StaysAhead w v2
      → ((ls : List (List ℕ)) (S : Session) (z y : State) → Goes w ls S z y → (x : State) × Waited v2 at ls S z x)
      → cause ≡ Full
      → ((t : ℕ) (ls : List (List ℕ)) (S : Session) (z y : State) → Waited v2 t ls S z y
      → is_full (instance_of S) t ≡ false)
      → Took w v2 (refused_text job_line) false
  job_roomy w v2 going ahead waits is roomy = not_refused job_line job_named w going v2 ahead (λ ls S z goes y may.
      let there = waits ls S z z goes in
      never (sym (roomy at ls S z there.0 there.1)
      ∙ full_there S at (job_of_numbers r c d v) ((refused_parts may).line.cause ∙ ap Some is)
      (subst (λ k. refused_mark at (job_of_numbers r c d v) k ≡ at) is (refused_parts may).line.raised)))

  -- they refuse it so
  pub job_may : (w v2 : Reading) → refuses_lines w.kept.rules.version ≡ true
      → ((jobs : List JobFacts) → admission.StandsFor w.kept jobs
      → refusal_if_full w.kept.rules jobs at (job_of_numbers r c d v) ≡ Some cause)
      → (cause ≡ Full → (t : ℕ) (ls : List (List ℕ)) (S : Session) (z y : State) → Waited v2 t ls S z y
      → is_full (instance_of S) t ≡ true)
      → (ls : List (List ℕ)) (S : Session) (z y x : State) → Goes w ls S z y → Waited v2 at ls S z x
      → parts.MayRefuse S at job_line.line
  job_may w v2 version refuses full ls S z y x goes waited =
      let there = refused_there S at (job_of_numbers r c d v) cause
      (ap (λ k. refusal_if_full k (admitted_jobs S.items) at (job_of_numbers r c d v))
      (sym goes.rules) ∙ refuses (admitted_jobs S.items) goes.kept) (λ is. full is at ls S z x waited) in
      record {
        version = ap refuses_lines (version_kept w ls S z y goes) ∙ version;
        numerals = form.1;
        cause = there.0;
        raised = there.1;
      }

-- ---- of a done line

module _ (at tick number : ℕ) (form : HasForm (RefusedDone at tick number)) where
  -- the refused line
  abbrev pub done_line : RefusedAt
  done_line = refused_done at tick number

  -- its text names it
  pub done_named : (S : Session) → named_item S (refused_text done_line) ≡ Some (RefusedItem done_line)
  done_named S = item_named S (RefusedDone at tick number) (RefusedItem done_line) form refl

  -- the version, the ticks and the limits don't allow it
  pub done_not : (w : Reading) → w.stage ≡ Going
      → (may_finish_early w.kept.rules.version ≡ true → at ≤ last_tick_in w.kept.rules.version → tick ≤ at
      → w.items < most_items w.kept.rules.version → ⊥)
      → Took w w (refused_text done_line) false
  done_not w going none = not_refused done_line done_named w going w (λ ls reads. reads) (λ ls S z goes y may.
      none (ap may_finish_early (sym (version_kept w ls S z z goes)) ∙ (refused_parts may).line.version)
      (omega (arith, (refused_parts may).known, ap last_tick_in (version_kept w ls S z z goes)))
      (refused_parts may).line.no_later (room_kept w ls S z z goes may.room))

  -- whether the finish is right, where jobs may finish early
  right_is : (S : Session) → may_finish_early S.rules.version ≡ true
      → session.is_right S at tick number ≡ (nat_le at tick && is_some (finish_at (instance_of S) tick number))
  right_is S early = ap (λ b. nat_le at tick && is_some (cond b (finish_at (instance_of S) tick number) None)) early

  -- it is right
  pub done_right : (w v2 : Reading) → w.stage ≡ Going → StaysAhead w v2
      → ((ls : List (List ℕ)) (S : Session) (z y : State) → Goes w ls S z y → (x : State) × Waited v2 at ls S z x)
      → ((ls : List (List ℕ)) (S : Session) (z y : State) → Waited v2 at ls S z y
      → true ≡ (nat_le at tick && is_some (finish_at (instance_of S) tick number)))
      → Took w v2 (refused_text done_line) false
  done_right w v2 going ahead waits right = not_refused done_line done_named w going v2 ahead (λ ls S z goes y may.
      let there = waits ls S z z goes in
      never (sym (refused_parts may).line.cause ∙ right_is S (refused_parts may).line.version
      ∙ sym (right ls S z there.0 there.1)))

  -- it isn't
  pub done_may : (w v2 : Reading) → may_finish_early w.kept.rules.version ≡ true → tick ≤ at
      → ((ls : List (List ℕ)) (S : Session) (z y : State) → Waited v2 at ls S z y
      → false ≡ (nat_le at tick && is_some (finish_at (instance_of S) tick number)))
      → (ls : List (List ℕ)) (S : Session) (z y x : State) → Goes w ls S z y → Waited v2 at ls S z x
      → parts.MayRefuse S at done_line.line
  done_may w v2 version low right ls S z y x goes waited =
      let early : may_finish_early S.rules.version ≡ true =
      ap may_finish_early (version_kept w ls S z y goes) ∙ version in
      record {
        version = early;
        numerals = form.1.1;
        no_later = low;
        cause = right_is S early ∙ sym (right ls S z x waited);
      }
