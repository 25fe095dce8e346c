-- What is kept of a schedule that is read.
use Rattle.std.specs.Prelude.{◌≡◌, ℕ, List, []}
use Rattle.schedule_judge.specs.Keeping.{Reads}
use Rattle.schedule_judge.specs.declared.reader.ScheduleReader.{ScheduleReader}
use Rattle.trace_words.specs.declared.schedule.form.ScheduleForm.{ScheduleForm}

-- what a call is about: the form, and how many comparisons were counted before it
pub record Asked : Type 0 where
  pub form : ScheduleForm
  pub before : ℕ

-- the reader stands for the bytes, for this form, and none was counted since
pub record Stands (asked : Asked) (form : ScheduleForm) (reader : ScheduleReader) (count : ℕ) (bytes : List ℕ) : Type 0
  where
    pub asks : form ≡ asked.form
    pub reads : Reads reader bytes
    pub counts : count ≡ asked.before

-- and nothing is left to give
abbrev pub IsAt : Asked → ScheduleForm → ScheduleReader → (count : ℕ) → List ℕ → List (List ℕ) → Type 0
IsAt asked form reader count bytes rest = Stands asked form reader count bytes × (rest ≡ [])
