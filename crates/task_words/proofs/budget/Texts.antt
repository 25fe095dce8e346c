-- The text of tasks, line by line.
use Rattle.std.proofs.Common.{◌≡◌, ◌∙◌, ◌<◌, ◌≤◌, ◌+◌, ◌++◌, ◌∷◌, [], ℕ, List, length, map, take, drop, get_or, sym, ap}
use Rattle.std.proofs.Common.{Option, Result, codes, subst}
use Rattle.std.proofs.lemmas.List.{append-nil, map-append, take_more, drop_more, take-append-drop, take_all}
use Rattle.dover_model.specs.Common.{Declaration, in_lines, with_numbers}
use Rattle.dover_model.proofs.lists.Beginnings.{in_lines-append}
use Rattle.dover_port.specs.Moves.{Move, PutsThrough}
use Rattle.task_words.specs.declared.tasks.task.PeriodicTask.{PeriodicTask}
use Rattle.event_feed.specs.Feeds.{rules_text}
use Rattle.task_words.specs.budget.Lines.{task_text, tasks_text}

module _ {X : Type 0} (line : X → List ℕ) (xs : List X) (d : X) where
  -- their text
  abbrev text : List X → List ℕ
  text some = in_lines (map line some)

  -- some behind some
  behind : (some more : List X) → text (some ++ more) ≡ text some ++ text more
  behind some more = ap in_lines (map-append line some more) ∙ in_lines-append (map line some) (map line more)

  module _ (i : ℕ) (there : i < length xs) where
    -- the line of the next
    abbrev next : List ℕ
    next = line (get_or xs i d) ++ 10 ∷ []

    -- one more
    pub more : text (take i xs) ++ next ≡ text (take (i + 1) xs)
    more = ap (λ l. text (take i xs) ++ l) (sym (append-nil _))
        ∙ sym (behind (take i xs) (get_or xs i d ∷ []))
        ∙ ap text (sym (take_more xs i d there))

    -- all
    pub all : text (take i xs) ++ (next ++ text (drop (i + 1) xs)) ≡ text xs
    all = sym (behind (take i xs) (get_or xs i d ∷ drop (i + 1) xs))
        ∙ ap (λ some. text (take i xs ++ some)) (sym (drop_more xs i d there))
        ∙ ap text (take-append-drop i xs)

  -- all are put
  pub whole : (i : ℕ) → length xs ≤ i → text (take i xs) ≡ text xs
  whole i over = ap text (take_all i xs over)

-- ---- the whole text

-- its parts
parts : (rules : Declaration) (tasks : List PeriodicTask) → tasks_text rules tasks
    ≡ (rules_text rules ++ 10 ∷ []) ++ (in_lines (map task_text tasks) ++ (with_numbers (codes "end") [] ++ 10 ∷ []))
parts rules tasks = ap (λ t. (rules_text rules ++ 10 ∷ []) ++ t)
    (in_lines-append (map task_text tasks) (with_numbers (codes "end") [] ∷ [])
    ∙ ap (λ t. in_lines (map task_text tasks) ++ t) (append-nil (with_numbers (codes "end") [] ++ 10 ∷ [])))

-- its parts are put
pub text_through : {T E : Type 0} (a b : Option (List Move)) (result : Result T E) (p q : List ℕ) (rules : Declaration)
    (tasks : List PeriodicTask)
    → PutsThrough a b result p q ((rules_text rules ++ 10 ∷ [])
    ++ (in_lines (map task_text tasks) ++ (with_numbers (codes "end") [] ++ 10 ∷ [])))
    → PutsThrough a b result p q (tasks_text rules tasks)
text_through a b result p q rules tasks it = subst (PutsThrough a b result p q) (sym (parts rules tasks)) it
