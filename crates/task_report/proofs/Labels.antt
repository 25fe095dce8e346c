-- The labels of tasks, one by one, and what is drawn of the jobs of tasks.
use Rattle.std.proofs.Common.{◌≡◌, ℕ, ◌+◌, ◌≤◌, ◌<◌, List, [], ◌∷◌, ◌++◌, length, map, drop, get_or, sym, ap, ◌∙◌}
use Rattle.std.proofs.Common.{add-one, append-nil, append_assoc, drop-cons, Option}
use Rattle.std.proofs.lemmas.List.{drop_all, map-append}
use Rattle.dover_model.specs.Common.{Instance, JobFacts}
use Rattle.run_reports.specs.declared.views.window.Window.{Window}
use Rattle.run_reports.specs.views.Templates.{Text}
use Rattle.run_reports.specs.views.Timeline.{grouped_timeline}
use Rattle.task_words.specs.declared.tasks.task.PeriodicTask.{PeriodicTask}
use Rattle.task_report.specs.Pictures.{IsTaskReport, label_of, labels, labels_from, tasks_of}
use Rattle.task_report.specs.Tallies.{task_of}
use Rattle.task_report.specs.declared.form.TaskForm.TheVariants.{Timeline}

-- one task more
pub labels_more : {V : Type 0} (f : V → Text) (tasks : List PeriodicTask) (i : ℕ) (d : PeriodicTask) (own next : List V)
    (label : V) (whole : List Text) → i < length tasks → f label ≡ label_of i (get_or tasks i d).name
    → next ≡ own ++ label ∷ [] → map f own ++ labels_from i (drop i tasks) ≡ whole
    → map f next ++ labels_from (i + 1) (drop (i + 1) tasks) ≡ whole
labels_more f tasks i d own next label whole there is longer before =
    let rest = labels_from (i + 1) (drop (i + 1) tasks) in
    let split : drop i tasks ≡ get_or tasks i d ∷ drop (i + 1) tasks = drop-cons tasks i d there
    ∙ ap (λ n. get_or tasks i d ∷ drop n tasks) (sym (add-one i)) in
    ap (λ ls. map f ls ++ rest) longer ∙ ap (λ t. t ++ rest) (map-append f own (label ∷ []))
    ∙ append_assoc (map f own) (f label ∷ []) rest ∙ ap (λ l. map f own ++ l ∷ rest) is
    ∙ ap (λ ts. map f own ++ labels_from i ts) (sym split) ∙ before

-- all tasks
pub labels_all : (tasks : List PeriodicTask) (i : ℕ) (own whole : List Text) → length tasks ≤ i
    → own ++ labels_from i (drop i tasks) ≡ whole → own ≡ whole
labels_all tasks i own whole past before = sym (append-nil own)
    ∙ ap (λ ts. own ++ labels_from i ts) (sym (drop_all i tasks past)) ∙ before

module _ (tasks : List PeriodicTask) (J : Instance) (own : List JobFacts) (of : List ℕ) (heads : List Text)
    (released : own ≡ J.jobs) (sorted : of ≡ map (task_of tasks) own) (named : heads ≡ labels tasks of)
    (window : Option Window) where
  -- the groups are the tasks
  groups : of ≡ tasks_of tasks J
  groups = sorted ∙ ap (map (task_of tasks)) released

  -- what is drawn of jobs in groups is drawn of the jobs of tasks
  pub timeline_text : (text : Text) → text ≡ grouped_timeline window of heads J
      → IsTaskReport (Timeline window) tasks J text
  timeline_text text is = is ∙ ap (λ h. grouped_timeline window of h J) named
      ∙ ap (λ o. grouped_timeline window o (labels tasks o) J) groups
