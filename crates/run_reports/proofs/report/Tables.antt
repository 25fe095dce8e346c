-- The table of a run, put together row by row.
use Rattle.std.proofs.Common.{◌≡◌, ℕ, ◌+◌, ◌≤◌, ◌<◌, List, [], ◌∷◌, ◌++◌, length, map, drop}
use Rattle.std.proofs.Common.{refl, sym, ap, ◌∙◌, Bool, true, false, cond, arith, get_or, append-nil}
use Rattle.std.proofs.Common.{Option, Some, None, ◌==◌, codes, decimal, slice_index_or, filter_map}
use Rattle.std.proofs.Common.{find, option_map}
use Rattle.std.specs.List.{enumerate_from, join_with_byte}
use Rattle.std.proofs.lemmas.List.{drop_all}
use Rattle.dover_model.specs.declared.events.Event.{Event}
use Rattle.dover_model.specs.declared.events.Event.TheVariants.{Release}
use Rattle.dover_model.specs.Common.{Fraction, JobFacts, job_numbers, Instance, in_lines, served as model_served}
use Rattle.dover_model.specs.Common.{may_finish_early}
use Rattle.dover_model.specs.Reports as model
use Rattle.run_record.specs.intervals.Rows.{IsRunOf}
use Rattle.run_record.proofs.intervals.Counted.{item_next}
use Rattle.run_reports.specs.report.Counts.{jobs_released}
use Rattle.run_reports.specs.report.Courses.{ending_of, ending_in, course_in, starts_fields, unseen}
use Rattle.run_reports.specs.report.Rows.{ending_fields, after_commas, row_text, had_fields, names_line}
use Rattle.run_reports.specs.report.Rows.{rows_of_steps, rows_left, FindsNext, schedule_table}
use Rattle.run_reports.specs.declared.report.courses.Course.{Course}
use Rattle.run_reports.specs.report.Early.{had_at}
use Rattle.run_reports.proofs.report.Counting.{jobs_are, starts_are}

-- the rows of jobs from number n on, with what they had and their courses in these steps
abbrev rows_from : List Event → (ℕ → Option ℕ) → ℕ → List JobFacts → List (List ℕ)
rows_from run had n jobs = map (λ n_j. row_text n_j.0 n_j.1 (had n_j.0) (course_in run n_j.0)) (enumerate_from n jobs)

-- fields that are joined by commas
joined_fields : (first : List ℕ) (fields : List (List ℕ))
    → join_with_byte 44 (first ∷ fields) ≡ first ++ after_commas fields
joined_fields first [] = sym (append-nil first)
joined_fields first (field ∷ fields) = ap (λ rest. first ++ 44 ∷ rest) (joined_fields field fields)

-- the fields of an ending are those of its fate
same_fields : (o : Option model.Fate) → ending_fields (option_map ending_of o) ≡ model.fate_fields o
same_fields None = refl
same_fields (Some (model.Completed n at)) = refl
same_fields (Some (model.Abandoned n at)) = refl

module _ (k : Fraction) (run : List Event) (J : Instance) (of : IsRunOf k run J) (early : Bool) (served : List ℕ)
    (is_early : early ≡ may_finish_early J.rules.version) (are : early ≡ true → served ≡ model_served J) where
  -- what a job had is told as the table tells it
  had_is : (n : ℕ) → had_fields (had_at early served n) ≡ model.had_fields J n
  had_is n = by_early early is_early are where
    by_early : (b : Bool) → b ≡ may_finish_early J.rules.version → (b ≡ true → served ≡ model_served J)
        → had_fields (had_at b served n) ≡ model.had_fields J n
    by_early true is same = ap (λ hs. decimal (slice_index_or hs n 0) ∷ []) (same refl)
        ∙ ap (λ (c : Bool). cond c (decimal (slice_index_or (model_served J) n 0) ∷ []) []) is
    by_early false is same = ap (λ (c : Bool). cond c (decimal (slice_index_or (model_served J) n 0) ∷ []) []) is

  -- the fields behind an ending
  abbrev last_told : ℕ → List (List ℕ)
  last_told n = had_fields (had_at early served n) ++ starts_fields (course_in run n)

  -- they are those of the table
  last_is : (n : ℕ) → last_told n ≡ model.had_fields J n ++ model.start_fields J n
  last_is n = ap (λ fields. fields ++ starts_fields (course_in run n)) (had_is n)
      ∙ ap (λ fields. model.had_fields J n ++ fields) (starts_are k run J of n)

  -- the row of a job
  row_is : (n : ℕ) (j : JobFacts) → row_text n j (had_at early served n) (course_in run n) ≡ model.table_row J (n, j)
  row_is n j = sym (joined_fields (decimal n) (map decimal (job_numbers j)
      ++ (ending_fields (ending_in run n) ++ last_told n)))
      ∙ ap (λ fields. join_with_byte 44 (map decimal (n ∷ job_numbers j)
      ++ (fields ++ last_told n)))
      (same_fields (find (λ fate. model.number_of fate == n) (filter_map model.fate_of_event run))
      ∙ ap (λ es. model.fate_fields (find (λ fate. model.number_of fate == n) (filter_map model.fate_of_event es)))
      (sym of.prints))
      ∙ ap (λ fields. join_with_byte 44 (map decimal (n ∷ job_numbers j)
      ++ (model.fate_fields (find (λ fate. model.number_of fate == n) (model.fates J)) ++ fields))) (last_is n)

  -- all rows
  rows_are : (n : ℕ) (jobs : List JobFacts)
      → rows_from run (had_at early served) n jobs ≡ map (model.table_row J) (enumerate_from n jobs)
  rows_are n [] = refl
  rows_are n (j ∷ jobs) = ap (λ r. r ∷ rows_from run (had_at early served) (n + 1) jobs) (row_is n j)
      ∙ ap (λ rs. model.table_row J (n, j) ∷ rs) (rows_are (n + 1) jobs)

  -- the names of the fields
  names_are : (rows : List (List ℕ))
      → names_line early ++ in_lines rows ≡ in_lines (model.field_names J.rules.version ∷ rows)
  names_are rows = ap (λ (b : Bool). names_line b ++ in_lines rows) is_early
      ∙ by_early (may_finish_early J.rules.version) where
        by_early : (b : Bool) → names_line b ++ in_lines rows
            ≡ in_lines (cond b (codes "job,release,work,deadline,value,fate,tick,had,start,runs")
            (codes "job,release,work,deadline,value,fate,tick,start,runs") ∷ rows)
        by_early true = refl
        by_early false = refl

  -- the table
  pub table_is : (jobs : List JobFacts) → jobs ≡ jobs_released run
      → names_line early ++ in_lines (rows_from run (had_at early served) 0 jobs) ≡ model.table J
  table_is jobs same = ap (λ js. names_line early ++ in_lines (rows_from run (had_at early served) 0 js))
      (same ∙ jobs_are k run J of)
      ∙ ap (λ rs. names_line early ++ in_lines rs) (rows_are 0 J.jobs)
      ∙ names_are (map (model.table_row J) (enumerate_from 0 J.jobs))

-- the rows of steps are those of the jobs that they release, of which the courses are these
same_rows : (run : List Event) (had : ℕ → Option ℕ) (course : ℕ → Course) (n : ℕ) (es : List Event)
    → ((m : ℕ) → m < n + length (jobs_released es) → course m ≡ course_in run m)
    → rows_of_steps had course n es ≡ rows_from run had n (jobs_released es)
same_rows run had course n [] each = refl
same_rows run had course n (Release m j ∷ es) each =
    ap (λ c. row_text n j (had n) c ∷ rows_of_steps had course (n + 1) es) (each n (omega arith))
    ∙ ap (λ rs. row_text n j (had n) (course_in run n) ∷ rs)
    (same_rows run had course (n + 1) es (λ k low. each k (omega (arith, low))))
same_rows run had course n (_ ∷ es) each = same_rows run had course n es each

module _ (run : List Event) (courses : List Course)
    (each : (n : ℕ) → n < length (jobs_released run) → slice_index_or courses n unseen ≡ course_in run n) where
  -- all rows
  rows_same : (had : ℕ → Option ℕ) → rows_of_steps had (λ n. slice_index_or courses n unseen) 0 run
      ≡ rows_from run had 0 (jobs_released run)
  rows_same had = same_rows run had (λ n. slice_index_or courses n unseen) 0 run (λ n low. each n (omega (arith, low)))

  -- behind the names they are the table
  pub whole_table : (k : Fraction) (J : Instance) (of : IsRunOf k run J) (early : Bool) (served : List ℕ)
      → early ≡ may_finish_early J.rules.version → (early ≡ true → served ≡ model_served J)
      → (rows_left run early served courses 0 0).names ++ in_lines (rows_left run early served courses 0 0).rows
      ≡ model.table J
  whole_table k J of early served is_early are =
      ap (λ rs. names_line early ++ in_lines rs) (rows_same (had_at early served))
      ∙ table_is k run J of early served is_early are (jobs_released run) refl

  -- the same of a schedule, whichever policy made it
  pub whole_schedule :
      (rows_left run false [] courses 0 0).names ++ in_lines (rows_left run false [] courses 0 0).rows
      ≡ schedule_table run
  whole_schedule = ap (λ rs. names_line false ++ in_lines rs) (rows_same (had_at false []))

-- ---- the next release

-- the same rows are left behind so many steps as behind others
pub record LeaveSame (run : List Event) (a b : ℕ) : Type 0 where
  pub same : (had : ℕ → Option ℕ) (course : ℕ → Course) (n : ℕ)
      → rows_of_steps had course n (drop a run) ≡ rows_of_steps had course n (drop b run)

-- a step that releases none leaves the same rows
pub passed : (run : List Event) (a i : ℕ) (e : Event) → e ≡ get_or run i e → i < length run
    → ((m : ℕ) (j : JobFacts) → e ≡ Release m j → ⊥) → LeaveSame run a i → LeaveSame run a (i + 1)
passed run a i e is there none before = record {
  same = λ had course n. before.same had course n
      ∙ ap (rows_of_steps had course n) (item_next run i e is there)
      ∙ by_event e none had course n (drop (i + 1) run);
} where
  by_event : (x : Event) → ((m : ℕ) (j : JobFacts) → x ≡ Release m j → ⊥)
      → (had : ℕ → Option ℕ) (course : ℕ → Course) (n : ℕ) (es : List Event)
      → rows_of_steps had course n (x ∷ es) ≡ rows_of_steps had course n es
  by_event (Release m j) none had course n es = absurd (none m j refl)
  by_event _ none had course n es = refl

-- a release is found
pub found : (run : List Event) (next i : ℕ) (e : Event) (m : ℕ) (job : JobFacts) → next ≤ i → e ≡ get_or run i e
    → i < length run → e ≡ Release m job → LeaveSame run next i → FindsNext run next (Some (i + 1, job))
found run next i e m job low is there releases before = (
  omega arith,
  omega arith,
  λ had course n. before.same had course n
      ∙ ap (rows_of_steps had course n) (item_next run i e is there)
      ∙ ap (λ x. rows_of_steps had course n (x ∷ drop (i + 1) run)) releases,
)

-- none is left
pub none_found : (run : List Event) (next i : ℕ) → length run ≤ i → LeaveSame run next i → FindsNext run next None
none_found run next i past before = λ had course n. before.same had course n
    ∙ ap (rows_of_steps had course n) (drop_all i run past)
