-- The lines of the report are put part by part.
use Rattle.std.proofs.Common.{◌≡◌, ℕ, ◌+◌, ◌<◌, ◌≤◌, List, [], ◌∷◌, ◌++◌, length, map, take, drop, get_or, decimal}
use Rattle.std.proofs.Common.{codes}
use Rattle.std.proofs.Common.{refl, sym, ap, ◌∙◌, arith, append_assoc}
use Rattle.std.specs.List.{enumerate_from}
use Rattle.std.proofs.lemmas.List.FromFn.{length-enumerate_from, get_or-enumerate_from}
use Rattle.dover_model.specs.Lines.{in_lines, with_numbers}
use Rattle.dover_model.specs.declared.events.Event.{Event}
use Rattle.dialogue.proofs.lines.Refusals.{whole_line}
use Rattle.task_words.specs.declared.tasks.name.TaskName.{TaskName}
use Rattle.task_words.specs.declared.tasks.task.PeriodicTask.{PeriodicTask}
use Rattle.task_words.specs.tasks.Merging.{blank_task}
use Rattle.task_words.specs.tasks.Names.{name_text, unnamed}
use Rattle.task_words.proofs.budget.Texts.{more, all, whole}
use Rattle.task_words.specs.budget.Budgets.{task_at}
use Rattle.task_report.specs.Counting.{tally_in}
use Rattle.task_report.specs.Texts.{other_line, tally_numbers, task_line}
use Rattle.task_report.specs.Writing.{slack_text, task_lines, task_text, times_text, values_text}
use Rattle.task_report.specs.declared.tally.Tally.{Tally}

-- texts one behind another
pub joined : (a b c d : List ℕ) → a ≡ b → c ≡ d → a ++ c ≡ b ++ d
joined a b c d first second = ap (λ bs. bs ++ c) first ∙ ap (λ bs. b ++ bs) second

-- five numbers of two texts, and what is behind them
five : (a b c d e s tail : List ℕ)
    → (32 ∷ (a ++ (32 ∷ b))) ++ ((32 ∷ (c ++ (32 ∷ (d ++ (32 ∷ (e ++ s)))))) ++ tail)
    ≡ (32 ∷ (a ++ (32 ∷ (b ++ (32 ∷ (c ++ (32 ∷ (d ++ (32 ∷ (e ++ [])))))))))) ++ (s ++ tail)
five a b c d e s tail = simp append_assoc refl

-- a word, numbers and what a tally says behind its counts
with_tally : (word ns : List ℕ) (t : Tally) (tail : List ℕ)
    → (with_numbers word ns ++ values_text t) ++ (times_text t ++ tail)
    ≡ with_numbers word (ns ++ (t.value ∷ t.lost_value ∷ t.longest ∷ t.responses ∷ t.preempted ∷ []))
    ++ (slack_text t.slack ++ tail)
with_tally word ns t tail = append_assoc (with_numbers word ns) (values_text t) (times_text t ++ tail)
    ∙ ap (λ bs. with_numbers word ns ++ bs)
    (five (decimal t.value) (decimal t.lost_value) (decimal t.longest) (decimal t.responses) (decimal t.preempted)
    (slack_text t.slack) tail)
    ∙ whole_line word ns (t.value ∷ t.lost_value ∷ t.longest ∷ t.responses ∷ t.preempted ∷ [])
    (slack_text t.slack ++ tail)

-- two texts behind another, and a line feed
line_end : (w s n : List ℕ) → w ++ (s ++ (n ++ 10 ∷ [])) ≡ (w ++ (s ++ n)) ++ 10 ∷ []
line_end w s n = ap (λ bs. w ++ bs) (sym (append_assoc s n (10 ∷ []))) ∙ sym (append_assoc w (s ++ n) (10 ∷ []))

-- the line of a task
pub task_put : (number : ℕ) (t : Tally) (name : TaskName)
    → (with_numbers (codes "task") (number ∷ t.jobs ∷ t.completed ∷ t.lost ∷ []) ++ values_text t)
    ++ (times_text t ++ (name_text name ++ 10 ∷ []))
    ≡ task_line number t name ++ 10 ∷ []
task_put number t name =
    with_tally (codes "task") (number ∷ t.jobs ∷ t.completed ∷ t.lost ∷ []) t (name_text name ++ 10 ∷ [])
    ∙ line_end (with_numbers (codes "task") (number ∷ tally_numbers t)) (slack_text t.slack) (name_text name)

-- the line of the jobs that are of no task
pub other_put : (t : Tally) (name : TaskName) → name ≡ unnamed
    → (with_numbers (codes "other") (t.jobs ∷ t.completed ∷ t.lost ∷ []) ++ values_text t)
    ++ (times_text t ++ (name_text name ++ 10 ∷ []))
    ≡ other_line t ++ 10 ∷ []
other_put t name none =
    with_tally (codes "other") (t.jobs ∷ t.completed ∷ t.lost ∷ []) t (name_text name ++ 10 ∷ [])
    ∙ ap (λ it. with_numbers (codes "other") (tally_numbers t)
    ++ (slack_text t.slack ++ (name_text it ++ 10 ∷ []))) none
    ∙ sym (append_assoc (with_numbers (codes "other") (tally_numbers t)) (slack_text t.slack) (10 ∷ []))

-- ---- the lines of all tasks

module _ (tasks : List PeriodicTask) (steps : List Event) where
  -- the line of a task with its number
  abbrev pub line : ℕ × PeriodicTask → List ℕ
  line n_t = task_text tasks steps n_t.0

  -- those of the first tasks
  abbrev pub lines_up_to : ℕ → List ℕ
  lines_up_to n = in_lines (map line (take n (enumerate_from 0 tasks)))

  module _ (n : ℕ) (there : n < length tasks) (t : Tally) (counted : t ≡ tally_in tasks steps n) where
    -- the line of this number
    abbrev next : List ℕ
    next = task_line n t (task_at tasks n).name ++ 10 ∷ []

    -- tasks with their numbers are as many
    there_too : n < length (enumerate_from 0 tasks)
    there_too = omega (arith, there, length-enumerate_from 0 tasks)

    -- counted from 0
    zero_more : (m : ℕ) → 0 + m ≡ m
    zero_more m = omega arith

    -- it is that of the task of this number
    here : next ≡ line (get_or (enumerate_from 0 tasks) n (0, blank_task)) ++ 10 ∷ []
    here = ap (λ tally. task_line n tally (task_at tasks n).name ++ 10 ∷ []) counted
        ∙ ap (λ n_t. line n_t ++ 10 ∷ []) (sym (get_or-enumerate_from 0 tasks n (0, blank_task) there
        ∙ ap (λ m. (m, get_or tasks n blank_task)) (zero_more n)))

    -- one more
    pub lines_more : lines_up_to n ++ next ≡ lines_up_to (n + 1)
    lines_more = ap (λ bs. lines_up_to n ++ bs) here
        ∙ more line (enumerate_from 0 tasks) (0, blank_task) n there_too

    -- one more, and the rest
    pub lines_rest : lines_up_to n ++ (next ++ in_lines (map line (drop (n + 1) (enumerate_from 0 tasks))))
        ≡ in_lines (task_lines tasks steps)
    lines_rest = ap (λ bs. lines_up_to n ++ (bs ++ in_lines (map line (drop (n + 1) (enumerate_from 0 tasks))))) here
        ∙ all line (enumerate_from 0 tasks) (0, blank_task) n there_too

  -- all
  pub lines_whole : (n : ℕ) → length tasks ≤ n → lines_up_to n ≡ in_lines (task_lines tasks steps)
  lines_whole n over = whole line (enumerate_from 0 tasks) (0, blank_task) n
      (omega (arith, over, length-enumerate_from 0 tasks))
