-- Counts among the printed steps of a run are those of its report.
use Rattle.std.proofs.Common.{◌≡◌, ℕ, ◌+◌, ◌*◌, ◌≤◌, ◌<◌, List, [], ◌∷◌, ◌++◌, length, map, take, get_or, refl, sym, ap}
use Rattle.std.proofs.Common.{◌∙◌, cond, arith, length-take, length-take-le, Option, Some, None, option_to_list, codes}
use Rattle.std.proofs.Common.{Bool, true, false, nat_lt, filter_map, sum_by, count_by, decimal}
use Rattle.std.specs.Option.{option_map_or}
use Rattle.std.specs.List.{cons_option, enumerate_from}
use Rattle.std.proofs.lemmas.List.{take_more}
use Rattle.std.proofs.lemmas.List.Sums.{sum_by-cons, count_by-le-length}
use Rattle.std.proofs.lemmas.List.Elements.{filter_map-append}
use Rattle.std.proofs.lemmas.List.Concat.{flat_map-append}
use Rattle.dover_model.specs.declared.events.Event.{Event}
use Rattle.dover_model.specs.declared.events.Event.TheVariants.{Release, Complete, Abandon}
use Rattle.dover_model.specs.Common.{Fraction, JobFacts, Instance, IsValid}
use Rattle.dover_model.specs.Common.{may_finish_early, Prints}
use Rattle.dover_model.specs.Common.{run, printed, completed_value}
use Rattle.dover_model.specs.Common.{bound, with_numbers, in_lines, is_take, is_preemption, summary, summary_lines}
use Rattle.dover_model.specs.Common.{report}
use Rattle.dover_model.specs.Common.{changes_hands, gets}
use Rattle.dover_model.specs.Common.{served as model_served}
use Rattle.dover_model.specs.Intervals as model
use Rattle.dover_model.specs.Reports.{fate_of_event, is_completed, abandoned_number, Completed, Abandoned, lines_with}
use Rattle.dover_model.specs.Reports.{interval_line}
use Rattle.dover_model.specs.Reports as reports
use Rattle.dover_model.proofs.runs.Ending.{few_printed}
use Rattle.dover_model.proofs.bound.BoundLaws.{intervals_abandon}
use Rattle.dover_model.proofs.runs.ReleaseCounts.{releases}
use Rattle.dover_model.proofs.runs.PrintedCounts.{count_printed}
use Rattle.run_record.specs.intervals.Rows.{IsRunOf, numbers_of, rows_of}
use Rattle.run_record.specs.intervals.Totals.{is_release, is_completion, is_abandonment, totals_of}
use Rattle.run_record.specs.declared.intervals.interval.Interval.{Interval}
use Rattle.run_record.specs.declared.intervals.totals.JobTotals.{JobTotals}
use Rattle.run_record.proofs.intervals.Counted.{sum_more}
use Rattle.run_record.proofs.ledger.Releases.{releases_are}
use Rattle.run_reports.specs.report.Counts.{job_released, jobs_released, value_in, value_lost, all_lost, counts_of}
use Rattle.run_reports.specs.report.Counts.{fates_lines, changes_line, bound_line, counts_lines}
use Rattle.run_reports.specs.report.Early.{left_in, left_at, early_of, with_left, HasRoom, early_line, lines_where}
use Rattle.run_reports.specs.report.Early.{early_lines}
use Rattle.run_reports.specs.declared.report.early.Early.{Early}
use Rattle.run_reports.specs.report.Courses.{course_in, starts_fields}
use Rattle.run_reports.proofs.report.Texts.{five_parts, behind_lines}
use Rattle.run_reports.specs.declared.report.counts.Counts.{Counts}
use Rattle.run_reports.specs.report.Lines.{ratio_line, row_line, row_lines}

-- ---- the jobs

-- one step more
pub released_more : (run : List Event) (i : ℕ) (e : Event) (jobs : List JobFacts) → e ≡ get_or run i e → i < length run
    → jobs ≡ jobs_released (take i run) → jobs ++ option_to_list (job_released e) ≡ jobs_released (take (i + 1) run)
released_more run i e jobs is there before =
    ap (λ js. js ++ option_to_list (job_released e)) before
    ∙ ap (λ x. jobs_released (take i run) ++ x) (one (job_released e))
    ∙ sym (filter_map-append job_released (take i run) (e ∷ []))
    ∙ ap (λ x. jobs_released (take i run ++ x ∷ [])) is ∙ ap jobs_released (sym (take_more run i e there)) where
      one : (p : Option JobFacts) → option_to_list p ≡ cons_option p []
      one None = refl
      one (Some job) = refl

-- the jobs of these steps, as the laws say it
as_released : (run : List Event) → jobs_released run ≡ releases run
as_released [] = refl
as_released (Release n job ∷ run) = ap (λ js. job ∷ js) (as_released run)
as_released (_ ∷ run) = as_released run

-- so do the steps that it prints
pub run_releases : (J : Instance) → IsValid J → (steps : List Event) → printed J ≡ steps → jobs_released steps ≡ J.jobs
run_releases J valid steps prints = as_released steps ∙ ap releases (sym prints) ∙ releases_are J valid

-- ---- counts

-- jobs that are done
completions : (run : List Event) → count_by is_completed (filter_map fate_of_event run) ≡ count_by is_completion run
completions [] = refl
completions (Complete at n ∷ run) = omega (
  arith,
  sum_by-cons (λ e. cond (is_completion e) 1 0) (Complete at n) run,
  sum_by-cons (λ f. cond (is_completed f) 1 0) (Completed n at) (filter_map fate_of_event run),
  completions run,
)
completions (Abandon at n ∷ run) = omega (
  arith,
  sum_by-cons (λ e. cond (is_completion e) 1 0) (Abandon at n) run,
  sum_by-cons (λ f. cond (is_completed f) 1 0) (Abandoned n at) (filter_map fate_of_event run),
  completions run,
)
completions (e ∷ run) = omega (arith, sum_by-cons (λ e. cond (is_completion e) 1 0) e run, completions run)

-- the numbers of the jobs that are gone
abbrev gone : List Event → List ℕ
gone run = filter_map abandoned_number (filter_map fate_of_event run)

-- jobs that are gone
abandonments : (run : List Event) → length (gone run) ≡ count_by is_abandonment run
abandonments [] = refl
abandonments (Abandon at n ∷ run) =
    omega (arith, sum_by-cons (λ e. cond (is_abandonment e) 1 0) (Abandon at n) run, abandonments run)
abandonments (e ∷ run) = omega (arith, sum_by-cons (λ e. cond (is_abandonment e) 1 0) e run, abandonments run)

-- their value
losses : (jobs : List JobFacts) (run : List Event) → sum_by (value_in jobs) (gone run) ≡ all_lost jobs run
losses jobs [] = refl
losses jobs (Abandon at n ∷ run) = omega (
  arith,
  sum_by-cons (value_lost jobs) (Abandon at n) run,
  sum_by-cons (value_in jobs) n (gone run),
  losses jobs run,
)
losses jobs (e ∷ run) = omega (arith, sum_by-cons (value_lost jobs) e run, losses jobs run)

-- what the steps tell, put together
pub counts_are : (k : Fraction) (run : List Event) (totals : JobTotals) (jobs : List JobFacts)
    (count value lost most : ℕ) → totals ≡ totals_of run → count ≡ length jobs → lost ≡ all_lost jobs run
    → most ≡ bound k value → record {
      jobs = count;
      completed = totals.completed;
      value = value;
      abandoned = totals.abandoned;
      lost = lost;
      taken = totals.taken;
      changes = totals.changes;
      preempted = totals.preempted;
      bound = most;
    } ≡ counts_of k run jobs value
counts_are k run totals jobs count value lost most is counted all bounds =
    same_counts counted (ap (λ (t : JobTotals). t.completed) is) (ap (λ (t : JobTotals). t.abandoned) is) all
    (ap (λ (t : JobTotals). t.taken) is) (ap (λ (t : JobTotals). t.changes) is)
    (ap (λ (t : JobTotals). t.preempted) is) bounds where
      whole : (a b c d f h i g : ℕ) → Counts
      whole a b c d f h i g = record {
        jobs = a;
        completed = b;
        value = value;
        abandoned = c;
        lost = d;
        taken = f;
        changes = h;
        preempted = i;
        bound = g;
      }

      same_counts : {a b c d f h i g a2 b2 c2 d2 f2 h2 i2 g2 : ℕ} → a ≡ a2 → b ≡ b2 → c ≡ c2 → d ≡ d2 → f ≡ f2
          → h ≡ h2 → i ≡ i2 → g ≡ g2 → whole a b c d f h i g ≡ whole a2 b2 c2 d2 f2 h2 i2 g2
      same_counts e1 e2 e3 e4 e5 e6 e7 e8 = cc

-- the processor changes hands in these printed steps as often as in the run
all_changes : (J : Instance)
    → count_by (λ e. changes_hands (Prints e)) (printed J) ≡ count_by (λ x. changes_hands x.move) (run J)
all_changes J = sym (count_printed changes_hands (λ n. refl) refl (run J))

-- and a job gets it in them as often
all_runs : (J : Instance) (n : ℕ)
    → count_by (λ e. gets n (Prints e)) (printed J) ≡ count_by (λ x. gets n x.move) (run J)
all_runs J n = sym (count_printed (gets n) (λ m. refl) refl (run J))

-- the steps of which each releases a job are as many as the jobs
pub releases_count : (run : List Event) → count_by is_release run ≡ length (jobs_released run)
releases_count [] = refl
releases_count (Release n job ∷ run) =
    omega (arith, sum_by-cons (λ e. cond (is_release e) 1 0) (Release n job) run, releases_count run)
releases_count (e ∷ run) = omega (arith, sum_by-cons (λ e. cond (is_release e) 1 0) e run, releases_count run)

-- ---- jobs that completed with work left

-- the numbers of the jobs that are done
abbrev done : List Event → List ℕ
done run = filter_map reports.completed_number (filter_map fate_of_event run)

module _ (jobs : List JobFacts) (served : List ℕ) where
  -- how much is left of them
  early_left : (run : List Event) → sum_by (left_in jobs served) (done run) ≡ sum_by (left_at jobs served) run
  early_left [] = refl
  early_left (Complete at n ∷ run) = omega (
    arith,
    sum_by-cons (left_at jobs served) (Complete at n) run,
    sum_by-cons (left_in jobs served) n (done run),
    early_left run,
  )
  early_left (e ∷ run) = omega (arith, sum_by-cons (left_at jobs served) e run, early_left run)

  -- how many there are
  early_count : (run : List Event)
      → count_by (λ n. nat_lt 0 (left_in jobs served n)) (done run)
      ≡ count_by (λ e. nat_lt 0 (left_at jobs served e)) run
  early_count [] = refl
  early_count (Complete at n ∷ run) = omega (
    arith,
    sum_by-cons (λ e. cond (nat_lt 0 (left_at jobs served e)) 1 0) (Complete at n) run,
    sum_by-cons (λ n. cond (nat_lt 0 (left_in jobs served n)) 1 0) n (done run),
    early_count run,
  )
  early_count (e ∷ run) =
      omega (arith, sum_by-cons (λ e. cond (nat_lt 0 (left_at jobs served e)) 1 0) e run, early_count run)

-- what one step more makes of them
pub early_more : (jobs : List JobFacts) (served : List ℕ) (run : List Event) (i : ℕ) (e : Event) → e ≡ get_or run i e
    → i < length run
    → with_left (early_of jobs served (take i run)) (left_at jobs served e) ≡ early_of jobs served (take (i + 1) run)
early_more jobs served run i e is there =
    same_early (more (λ x. cond (nat_lt 0 (left_at jobs served x)) 1 0)) (more (left_at jobs served)) where
      whole : (a b : ℕ) → Early
      whole a b = record { jobs = a; left = b }

      same_early : {a b c d : ℕ} → a ≡ c → b ≡ d → whole a b ≡ whole c d
      same_early e1 e2 = cc

      more : (f : Event → ℕ) → sum_by f (take i run) + f e ≡ sum_by f (take (i + 1) run)
      more f = sum_more f run i e is there

-- there is room for one step more
pub early_fits : (jobs : List JobFacts) (served : List ℕ) (run : List Event) (i : ℕ) (early : Early)
    → early ≡ early_of jobs served (take i run)
    → early.left ≤ 1_000_000_000_000 * i → i < length run → length run ≤ 5_000_001 → HasRoom early
early_fits jobs served run i early is low there few = record {
  jobs = omega (
    arith,
    ap (λ (x : Early). x.jobs) is,
    length-take-le i run (omega arith),
    count_by-le-length (λ e. nat_lt 0 (left_at jobs served e)) (take i run),
  );
  left = omega arith;
}

-- ---- lines

-- the line of those that completed early, where there is one
pub same_where : (early : Bool) (it other : Early) → (early ≡ true → it ≡ other)
    → lines_where early it ≡ lines_where early other
same_where true it other same = ap (λ (e : Early). early_line e ∷ []) (same refl)
same_where false it other same = refl

-- equal numbers have equal lines
same_lines : (more : List (List ℕ)) (n m x y a b g h v w t u c d : ℕ) → n ≡ m → x ≡ y → a ≡ b → g ≡ h → v ≡ w → t ≡ u
    → c ≡ d
    → with_numbers (codes "jobs") (n ∷ []) ∷ with_numbers (codes "completed") (x ∷ a ∷ []) ∷ with_numbers
    (codes "abandoned") (g ∷ v ∷ [])
    ∷ with_numbers (codes "taken") (t ∷ []) ∷ (more ++ with_numbers (codes "bound") (c ∷ []) ∷ [])
    ≡ with_numbers (codes "jobs") (m ∷ []) ∷ with_numbers (codes "completed") (y ∷ b ∷ []) ∷ with_numbers
    (codes "abandoned") (h ∷ w ∷ [])
    ∷ with_numbers (codes "taken") (u ∷ []) ∷ (more ++ with_numbers (codes "bound") (d ∷ []) ∷ [])
same_lines more n m x y a b g h v w t u c d e1 e2 e3 e4 e5 e6 e7 = cc

-- the rows have the lines of the intervals
rows_lines : (n : ℕ) (is : List model.Interval)
    → map row_line (enumerate_from n (map numbers_of is)) ≡ map interval_line (enumerate_from n is)
rows_lines n [] = refl
rows_lines n (i ∷ is) = ap (λ ls. interval_line (n, i) ∷ ls) (rows_lines (n + 1) is)

-- one interval more
lines_snoc : (n : ℕ) (rows : List Interval) (r : Interval) → map row_line (enumerate_from n (rows ++ r ∷ []))
    ≡ map row_line (enumerate_from n rows) ++ row_line (n + length rows, r) ∷ []
lines_snoc n [] r = ap (λ m. row_line (m, r) ∷ []) (omega arith)
lines_snoc n (x ∷ rows) r =
    let same : n + 1 + length rows ≡ n + length (x ∷ rows) = omega arith in
    ap (λ ls. row_line (n, x) ∷ ls)
    (lines_snoc (n + 1) rows r ∙ ap (λ m. map row_line (enumerate_from (n + 1) rows) ++ row_line (m, r) ∷ []) same)

pub rows_more : (rows : List Interval) (i : ℕ) (d : Interval) → i < length rows
    → in_lines (row_lines (take i rows)) ++ in_lines (row_line (i + 1, get_or rows i d) ∷ []) ≡ in_lines
    (row_lines (take (i + 1) rows))
rows_more rows i d there =
    let count : length (take i rows) ≡ i = omega (arith, length-take i rows) in
    let number : 1 + length (take i rows) ≡ i + 1 = omega (arith, count) in
    sym (flat_map-append (λ (l : List ℕ). l ++ 10 ∷ []) (row_lines (take i rows))
    (row_line (i + 1, get_or rows i d) ∷ []))
    ∙ ap (λ m. in_lines (row_lines (take i rows) ++ row_line (m, get_or rows i d) ∷ [])) (sym number)
    ∙ ap in_lines (sym (lines_snoc 1 (take i rows) (get_or rows i d)))
    ∙ ap (λ rs. in_lines (row_lines rs)) (sym (take_more rows i d there))

module _ (k : Fraction) (run : List Event) (J : Instance) (of : IsRunOf k run J) where
  -- the jobs are those that the steps release
  pub jobs_are : jobs_released run ≡ J.jobs
  jobs_are = run_releases J of.valid run of.prints

  -- the summary's lines are those of the counts, with others behind the one of the takes
  lines_are : (more : List (List ℕ)) (jobs : List JobFacts) (value : ℕ) → jobs ≡ jobs_released run
      → value ≡ completed_value J
      → fates_lines (counts_of k run jobs value) ++ (more ++ bound_line (counts_of k run jobs value) ∷ [])
      ≡ lines_with J more
  lines_are more jobs value same worth = same_lines more _ _ _ _ _ _ _ _ _ _ _ _ _ _
      (ap length jobs_same)
      (sym (completions run) ∙ ap (λ es. count_by is_completed (filter_map fate_of_event es)) (sym of.prints))
      worth
      (sym (abandonments run) ∙ ap (λ es. length (gone es)) (sym of.prints))
      (ap (λ js. all_lost js run) jobs_same ∙ sym (losses J.jobs run)
      ∙ ap (λ es. sum_by (value_in J.jobs) (gone es)) (sym of.prints))
      (ap (count_by is_take) (sym of.prints))
      (ap (bound k) worth ∙ ap (λ (r : Fraction). bound r (completed_value J)) (sym of.ratio)) where
        jobs_same : jobs ≡ J.jobs
        jobs_same = same ∙ jobs_are

  -- and without them
  pub summary_is : (jobs : List JobFacts) (value : ℕ) → jobs ≡ jobs_released run → value ≡ completed_value J
      → counts_lines (counts_of k run jobs value) ≡ summary_lines J
  summary_is = lines_are []

  -- and their text is the summary
  pub summary_told : (counts : Counts) (value : ℕ) → counts ≡ counts_of k run (jobs_released run) value
      → value ≡ completed_value J → in_lines (counts_lines counts) ≡ summary J
  summary_told counts value is worth = ap (λ (c : Counts). in_lines (counts_lines c)) is
      ∙ ap in_lines (summary_is (jobs_released run) value refl worth)

  -- the line of the changes of hands
  changes_are : (jobs : List JobFacts) (value : ℕ)
      → changes_line (counts_of k run jobs value) ≡ reports.changes_line J
  changes_are jobs value = ap (λ es. with_numbers (codes "changes")
      (count_by (λ e. changes_hands (Prints e)) es ∷ count_by is_preemption es ∷ count_by is_take es ∷ []))
      (sym of.prints)
      ∙ ap (λ n. with_numbers (codes "changes")
      (n ∷ count_by is_preemption (printed J) ∷ count_by is_take (printed J) ∷ [])) (all_changes J)

  -- when a job first got the processor, and how often it did
  pub starts_are : (n : ℕ) → starts_fields (course_in run n) ≡ reports.start_fields J n
  starts_are n = ap (λ es. starts_fields (course_in es n)) (sym of.prints)
      ∙ ap (λ c. option_map_or decimal (reports.start_of_job J n) [] ∷ decimal c ∷ []) (all_runs J n)

  -- the line of those that completed early
  early_is : (early : Bool) (jobs : List JobFacts) (served : List ℕ) → early ≡ may_finish_early J.rules.version
      → (early ≡ true → served ≡ model_served J) → jobs ≡ jobs_released run
      → early_lines early jobs served run ≡ reports.early_lines J
  early_is early jobs served is same released = by_early early is same where
    left : ℕ → ℕ
    left = reports.left_of_job J

    of_numbers : List ℕ → List (List ℕ)
    of_numbers ns = with_numbers (codes "early") (count_by (λ n. nat_lt 0 (left n)) ns ∷ sum_by left ns ∷ []) ∷ []

    counted : (es : List Event)
        → early_line (early_of J.jobs (model_served J) es) ∷ []
        ≡ of_numbers (filter_map reports.completed_number (filter_map fate_of_event es))
    counted es = ap (λ (n : ℕ). with_numbers (codes "early")
        (n ∷ sum_by (left_at J.jobs (model_served J)) es ∷ []) ∷ []) (sym (early_count J.jobs (model_served J) es))
        ∙ ap (λ (n : ℕ). with_numbers (codes "early")
        (count_by (λ n. nat_lt 0 (left n)) (done es) ∷ n ∷ []) ∷ []) (sym (early_left J.jobs (model_served J) es))

    by_early : (b : Bool) → b ≡ may_finish_early J.rules.version → (b ≡ true → served ≡ model_served J)
        → early_lines b jobs served run ≡ reports.early_lines J
    by_early true three are =
        ap (λ js. early_line (early_of js served run) ∷ []) (released ∙ jobs_are)
        ∙ ap (λ hs. early_line (early_of J.jobs hs run) ∷ []) (are refl)
        ∙ counted run
        ∙ ap (λ es. of_numbers (done es)) (sym of.prints)
        ∙ ap (λ (c : Bool). cond c (of_numbers (done (printed J))) []) three
    by_early false three are = ap (λ (c : Bool). cond c (of_numbers (done (printed J))) []) three

  -- the report, put together
  pub report_is : (early : Bool) (jobs : List JobFacts) (served : List ℕ) (value : ℕ) (rows : List Interval)
      → early ≡ may_finish_early J.rules.version → (early ≡ true → served ≡ model_served J)
      → jobs ≡ jobs_released run → value ≡ completed_value J → rows ≡ rows_of J
      → ((((in_lines (ratio_line k ∷ []) ++ in_lines (fates_lines (counts_of k run jobs value)))
      ++ in_lines (changes_line (counts_of k run jobs value) ∷ []))
      ++ in_lines (early_lines early jobs served run))
      ++ in_lines (bound_line (counts_of k run jobs value) ∷ [])) ++ in_lines (row_lines rows)
      ≡ report J
  report_is early jobs served value rows is are same worth all =
      ap (λ t. (t ++ in_lines (bound_line counts ∷ [])) ++ in_lines (row_lines rows))
      (behind_lines (in_lines (ratio_line k ∷ []) ++ in_lines (fates_lines counts)) (changes_line counts ∷ [])
      (early_lines early jobs served run))
      ∙ five_parts (ratio_line k ∷ []) (fates_lines counts)
      (changes_line counts ∷ early_lines early jobs served run) (bound_line counts ∷ []) (row_lines rows)
      ∙ ap (λ ls. in_lines (ratio_line k ∷ ls ++ row_lines rows))
      (lines_are (changes_line counts ∷ early_lines early jobs served run) jobs value same worth
      ∙ ap (λ l. lines_with J (l ∷ early_lines early jobs served run)) (changes_are jobs value)
      ∙ ap (λ ls. lines_with J (reports.changes_line J ∷ ls)) (early_is early jobs served is are same))
      ∙ ap (λ ls. in_lines (ratio_line k ∷ lines_with J more ++ ls))
      (ap row_lines all ∙ rows_lines 1 (model.intervals J))
      ∙ ap (λ (r : Fraction). in_lines
      (ratio_line r ∷ lines_with J more ++ map interval_line (enumerate_from 1 (model.intervals J))))
      (sym of.ratio) where
        counts : Counts
        counts = counts_of k run jobs value

        more : List (List ℕ)
        more = reports.changes_line J ∷ reports.early_lines J

  -- the steps are few
  pub few_steps : length run ≤ 5_000_001
  few_steps = omega (arith, ap length of.prints, few_printed J of.valid, of.listable.count)

  -- and the value is that of a valid list
  pub value_small : completed_value J ≤ 10_000_000_000_000
  value_small = omega (arith, intervals_abandon J of.valid, of.listable.total)
