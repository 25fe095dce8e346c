-- The job of a number is read where the roll lists it.
use Rattle.std.proofs.Common.{◌≡◌, ◌≤◌, ℕ, ◌-◌, ◌==◌, length, refl, sym, ap, ◌∙◌, subst, Bool, true, false, cond, arith}
use Rattle.std.proofs.Common.{Option, Some, None, IfSome, slice_get, option_map}
use Rattle.std.specs.Option.{option_eq}
use Rattle.std.proofs.lemmas.Option.{slice_get_past, slice_get_read}
use Rattle.dover_model.specs.declared.events.Role.TheVariants.{Waiting, Running}
use Rattle.dover_model.specs.declared.events.Task.{Task}
use Rattle.ready_server.specs.Roster.{ListedJob, Roll, Kept, had_with, is_turn, is_displaced, job_at}
use Rattle.ready_server.proofs.roster.Roster.job.Goals as goal
use Rattle.ready_server.proofs.roster.Roster.job.Goals.{then-displaced, else-displaced}

pub is_displaced-displaced-requires : goal.is_displaced-displaced-requires
is_displaced-displaced-requires c =
    ap (λ (t : Task). t.role) c.task-task.ensures ∙ ap (λ (e : ListedJob). e.task.role) c.listed.view_is

pub returns-in_err-listed-clause-is : goal.returns-in_err-listed-clause-is
returns-in_err-listed-clause-is c =
    c.from_residual.ensures
    ∙ sym (ap (option_map (job_at c.args.self.now.roll c.args.clock))
    (slice_get_past c.args.self.now.roll.jobs c.args.number
    (subst (λ l. length l ≤ c.args.number) (c.deref.ensures.value ∙ ap (λ (k : Kept). k.roll.jobs) c.self.view_is)
    c.in_err-listed.ensures.lookup.3)))

pub returns-in_err-listed-clause-modest : goal.returns-in_err-listed-clause-modest
returns-in_err-listed-clause-modest c =
    subst (λ o. IfSome o (λ (t : Task). t.had ≤ t.job.work)) (sym c.from_residual.ensures) tt

-- whether a job is that of this number, as the code tests it
turn_is : (turn : Option ℕ) (n : ℕ) → option_eq (λ a b. a == b) turn (Some n) ≡ is_turn turn n
turn_is None n = refl
turn_is (Some m) n = refl

-- a job of the roll where it is told whether it runs
abbrev job_by : Bool → Roll → ℕ → ListedJob → Task
job_by runs p clock e = record {
  number = e.task.number;
  job = e.task.job;
  role = cond runs Running (cond (is_displaced p.takes e) Waiting e.task.role);
  had = cond runs (had_with (clock - p.since) e.task) e.task.had;
}

-- so the job of a number is read where the code's view of the roll and of the job has it
read_by : (k : Kept) (p : Roll) (room more clock n : ℕ) (e : ListedJob) (runs : Bool) (t : Task)
    → record { roll = p; room = room; finish_room = more } ≡ k → slice_get p.jobs n ≡ Some e
    → is_turn p.turn e.task.number ≡ runs
    → t ≡ job_by runs p clock e → Some t ≡ option_map (job_at k.roll clock) (slice_get k.roll.jobs n)
read_by k p room more clock n e runs t viewed found turn read =
    ap Some (read ∙ ap (λ b. job_by b p clock e) (sym turn))
    ∙ sym (ap (option_map (job_at p clock)) found)
    ∙ ap (λ (l : Kept). option_map (job_at l.roll clock) (slice_get l.roll.jobs n)) viewed

pub returns-then-eq-clause-is : goal.returns-then-eq-clause-is
returns-then-eq-clause-is c =
    let i = c.listed.inside in
    let e : ListedJob = record { task = i.task; takes = i.takes } in
    let it = c.in_ok-listed.ensures.lookup in
    let found = slice_get_read c.deref.result.now _ c.args.number c.in_ok-listed.listed.now refl it.3.0 it.1 in
    read_by c.args.self.now (record {
      jobs = c.self.inside.jobs.items;
      finishes = c.self.inside.finishes.items;
      takes = c.self.inside.takes;
      turn = c.self.inside.turn;
      since = c.self.inside.since;
    }) _ _ c.args.clock c.args.number e true _ c.self.view_is
    (ap (λ l. slice_get l c.args.number) (sym c.deref.ensures.value) ∙ found ∙ ap Some (sym c.listed.view_is))
    (ap (λ (t : Task). is_turn c.self.inside.turn t.number) (sym c.task-task.ensures)
    ∙ sym (turn_is c.self.inside.turn c.task-task.result.number) ∙ sym c.eq.ensures ∙ c.if-eq.true)
    (ap (λ (t : Task). record { number = t.number; job = t.job; role = Running; had = c.had_with.result })
    c.task-task.ensures
    ∙ ap (λ n. record { number = i.task.number; job = i.task.job; role = Running; had = n })
    (c.had_with.ensures ∙ ap (λ n. had_with n i.task) c.saturating_sub.ensures))

pub returns-then-eq-clause-modest : goal.returns-then-eq-clause-modest
returns-then-eq-clause-modest c =
    omega (arith, c.had_with.ensures, ap (λ (t : Task). t.job.work) c.task-task.ensures)

pub returns-clause-is : goal.returns-clause-is
returns-clause-is c =
    let i = c.listed.inside in
    let e : ListedJob = record { task = i.task; takes = i.takes } in
    let it = c.in_ok-listed.ensures.lookup in
    let found = slice_get_read c.deref.result.now _ c.args.number c.in_ok-listed.listed.now refl it.3.0 it.1 in
    let by : (b : Bool) → c.is_displaced-displaced.result ≡ b → is_displaced c.self.inside.takes e ≡ b =
    λ b is. ap (is_displaced c.self.inside.takes) c.listed.view_is ∙ sym c.is_displaced-displaced.ensures ∙ is in
    let role : c.if-displaced.result ≡ cond (is_displaced c.self.inside.takes e) Waiting i.task.role =
    elim c.if-displaced.branch [
      | then-displaced w ↦ w.result-is ∙ sym (ap (λ b. cond b Waiting i.task.role) (by true w.if-displaced.true))
      | else-displaced w ↦ w.result-is ∙ ap (λ (t : Task). t.role) c.task-task.ensures
          ∙ sym (ap (λ b. cond b Waiting i.task.role) (by false w.if-displaced.false))
    ] in
    read_by c.args.self.now (record {
      jobs = c.self.inside.jobs.items;
      finishes = c.self.inside.finishes.items;
      takes = c.self.inside.takes;
      turn = c.self.inside.turn;
      since = c.self.inside.since;
    }) _ _ c.args.clock c.args.number e false _ c.self.view_is
    (ap (λ l. slice_get l c.args.number) (sym c.deref.ensures.value) ∙ found ∙ ap Some (sym c.listed.view_is))
    (ap (λ (t : Task). is_turn c.self.inside.turn t.number) (sym c.task-task.ensures)
    ∙ sym (turn_is c.self.inside.turn c.task-task.result.number) ∙ sym c.eq.ensures ∙ c.if-eq.false)
    (ap (λ (t : Task). record { number = t.number; job = t.job; role = c.if-displaced.result; had = t.had })
    c.task-task.ensures
    ∙ ap (λ r. record { number = i.task.number; job = i.task.job; role = r; had = i.task.had }) role)

pub returns-clause-modest : goal.returns-clause-modest
returns-clause-modest c = omega (
  arith,
  c.listed.invariant,
  ap (λ (t : Task). t.had) c.task-task.ensures,
  ap (λ (t : Task). t.job.work) c.task-task.ensures,
)
