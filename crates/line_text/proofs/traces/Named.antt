-- The steps that a run prints have the form of a trace's lines, and what is spelled as one of them has it too.
use Rattle.std.proofs.Common.{◌≡◌, ℕ, ◌≤◌, List, [], ◌∷◌, length, drop, sym, ap, ◌∙◌, subst, Bool, true, false, Some}
use Rattle.std.proofs.Common.{arith}
use Rattle.std.specs.Bool.{then_some}
use Rattle.std.specs.List.{AllByRecursion, list_all, filter, cons_option}
use Rattle.dover_model.specs.Common.{IsJob, job_of_numbers, Fraction, AreShort, Rules, Instance, IsValid, State}
use Rattle.dover_model.specs.Common.{is_over, is_done, value_sum, Move, Prints, Ticks, step, ending, ◌or_else◌}
use Rattle.dover_model.specs.Common.{opening, Step as Stepped, event_of, printed_of, printed, run, IsMember, Keeps}
use Rattle.dover_model.specs.Common.{Each, step_numbers, text_of, fields_of, numerals}
use Rattle.dover_model.specs.declared.events.Event.{Event}
use Rattle.dover_model.specs.declared.events.Event.TheVariants.{Release, End}
use Rattle.dover_model.specs.declared.events.Task.{Task}
use Rattle.dover_model.proofs.lists.Members.{some_same, all_both, each_all}
use Rattle.dover_model.proofs.steps.Deeds.{Deed, Completed, Resumed, Started, Began, Preempted, Stayed, Arrived, Taken}
use Rattle.dover_model.proofs.steps.Deeds.{Abandoned, Rested}
use Rattle.dover_model.proofs.steps.Kept.{step_deed, each_job, opening_keeps}
use Rattle.dover_model.proofs.runs.Ending.{run_is_whole}
use Rattle.dover_model.proofs.runs.Honest.{numbers_low, count_jobs}
use Rattle.dover_model.proofs.runs.Runs.{run_states}
use Rattle.dover_model.proofs.texts.Fields.{numerals-decimals}
use Rattle.dover_model.proofs.traces.ShortNumbers.{printed_short}
use Rattle.dover_model.proofs.valid.Limiting.{jobs_most}
use Rattle.dover_model.proofs.valid.ValidParts.{valid_parts}
use Rattle.line_text.specs.declared.traces.lines.TraceLine.TheVariants.{Step}
use Rattle.line_text.specs.traces.Form.{last_number, HasForm, NamesJobs}
use Rattle.line_text.proofs.traces.Spelled.{step_cut}

-- ---- what a run prints

-- what is printed names jobs
abbrev MoveNames : Move → Type 0
MoveNames (Prints e) = NamesJobs e
MoveNames _ = Unit {0}

module _ (J : Instance) (valid : IsValid J) (s : State) (keeps : Keeps J s) where
  -- each job's number is one that jobs may have
  low : (t : Task) → IsMember t s.tasks → t.number ≤ last_number
  low t member = omega (
    arith,
    numbers_low 0 s.tasks keeps.sound.numbered t member,
    count_jobs s.tasks,
    ap length keeps.jobs,
    (valid_parts valid).count,
    jobs_most J.rules.version,
  )

  -- each deed names jobs
  deed_names : (k : Fraction) (other m : Move) → MoveNames other → Deed k s other m → MoveNames m
  deed_names k other m rests (Completed r member runs) = low r member
  deed_names k other m rests (Resumed p member held none least why) = low p member
  deed_names k other m rests (Started o member waiting none first fits next) = low o member
  deed_names k other m rests (Began f member fresh none free) = low f member
  deed_names k other m rests (Preempted r f member runs some f_member fresh before fits) =
      (low r member, low f f_member)
  deed_names k other m rests (Stayed r f member runs some f_member fresh why) = tt
  deed_names k other m rests (Arrived c member comes now first stale busy free) = (
    low c member,
    each_job IsJob s.tasks (subst (AllByRecursion IsJob) (sym keeps.jobs) (valid_parts valid).each) c
        member,
  )
  deed_names k other m rests (Taken r x member runs some x_member waiting now stale heavy) =
      (low r member, low x x_member)
  deed_names k other m rests (Abandoned r x member runs some x_member waiting now stale light) = low x x_member
  deed_names k other m rests (Rested quiet) = rests

  -- so does each step
  step_names : (rules : Rules) → MoveNames (step rules s)
  step_names rules = deed_names rules.ratio (ending s or_else Ticks) (step rules s) (by_over (list_all is_over s.tasks))
      (step_deed J valid s keeps rules) where
        by_over : (b : Bool) → MoveNames (then_some b (Prints (End (value_sum (filter is_done s.tasks)))) or_else Ticks)
        by_over true = tt
        by_over false = tt

-- what is printed by steps that name jobs does
printed_names : (xs : List Stepped) → AllByRecursion (λ x. MoveNames x.move) xs
    → AllByRecursion NamesJobs (printed_of xs)
printed_names [] all = tt
printed_names (x ∷ xs) all = by_move x.move all.0 (printed_names xs all.1) where
  by_move : (m : Move) → MoveNames m → AllByRecursion NamesJobs (printed_of xs)
      → AllByRecursion NamesJobs (cons_option (event_of m) (printed_of xs))
  by_move (Prints e) named rest = (named, rest)
  by_move _ named rest = rest

-- each of these steps has the form of a trace's line
abbrev pub HaveForm : List Event → Type 0
HaveForm es = AllByRecursion (λ e. HasForm (Step e)) es

-- what a run prints has it
pub printed_form : (J : Instance) → IsValid J → HaveForm (printed J)
printed_form J valid = all_both (λ e. AreShort (step_numbers e)) NamesJobs (λ e. HasForm (Step e)) (printed J)
    (λ e short named. (short, named)) (printed_short J valid)
    (printed_names (run J) (each_all (λ x. MoveNames x.move) (run J) each)) where
      each : Each (λ x. MoveNames x.move) (run J)
      each x member =
          let it = run_states J valid J.rules (λ s. Unit {0}) (λ s keeps holds on. tt) (run J) (opening J.jobs)
          (opening_keeps J) tt (run_is_whole J valid) x member in
          subst MoveNames (sym it.0) (step_names J valid x.before it.1 J.rules)

-- ---- what is spelled as a step that has a form

-- the numbers name jobs
abbrev NumbersName : List ℕ → Type 0
NumbersName (at ∷ n ∷ []) = n ≤ last_number
NumbersName (at ∷ a ∷ b ∷ []) = (a ≤ last_number) × (b ≤ last_number)
NumbersName (n ∷ r ∷ c ∷ d ∷ v ∷ []) = (n ≤ last_number) × IsJob (job_of_numbers r c d v)
NumbersName _ = Unit {0}

-- a step names jobs where its numbers do
numbers_name : (e : Event) → NamesJobs e → NumbersName (step_numbers e)
numbers_name (Release n j) named = named
numbers_name _ named = named

by_numbers : (e : Event) → NumbersName (step_numbers e) → NamesJobs e
by_numbers (Release n j) name = name
by_numbers _ name = name

-- the numbers in its text
numbers_back : (e : Event) → AreShort (step_numbers e)
    → numerals (drop 1 (fields_of (text_of e))) ≡ Some (step_numbers e)
numbers_back e short = ap (λ fields. numerals (drop 1 fields)) (step_cut e short)
    ∙ numerals-decimals (step_numbers e) short

-- a step of short numbers whose text is that of a step that has a form has one too
pub text_form : (e due : Event) → AreShort (step_numbers e) → HasForm (Step due) → text_of e ≡ text_of due
    → HasForm (Step e)
text_form e due short form same = (
  short,
  by_numbers e (subst NumbersName
      (some_same (step_numbers due) (step_numbers e) (sym (numbers_back due form.0)
      ∙ ap (λ text. numerals (drop 1 (fields_of text))) (sym same) ∙ numbers_back e short))
      (numbers_name due form.1)),
)
