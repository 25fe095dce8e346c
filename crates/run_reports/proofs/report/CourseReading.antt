-- The courses of jobs, step by step from the last one on.
use Rattle.std.proofs.Common.{◌≡◌, ℕ, zero, suc, ◌+◌, ◌-◌, ◌<◌, ◌^◌, List, [], ◌∷◌, ◌++◌, length, take, drop, set, refl}
use Rattle.std.proofs.Common.{sym, ap, ◌∙◌, Bool, true, false, cond, arith, get_or, replicate, length-set, length-drop}
use Rattle.std.proofs.Common.{Option, Some, ◌==◌, nat_lt, find, filter_map, option_map, eqb-true, lt-ltb}
use Rattle.std.proofs.Common.{get_or-set_same, get_or-set_other, count_by}
use Rattle.std.proofs.lemmas.Bool.{eqb-false}
use Rattle.std.proofs.lemmas.List.{length-replicate, get_or-replicate, drop_all}
use Rattle.std.proofs.lemmas.List.Sums.{sum_by-cons, count_by-le-length}
use Rattle.std.proofs.Math.Seq.{take-append_seam}
use Rattle.dover_model.specs.declared.events.Event.{Event}
use Rattle.dover_model.specs.declared.events.Event.TheVariants.{Run, Preempt, Take, Complete, Abandon}
use Rattle.dover_model.specs.Common.{Prints, gets, tick_of_event}
use Rattle.dover_model.specs.Reports as model
use Rattle.dover_model.proofs.lists.Members.{by_bool}
use Rattle.run_record.proofs.intervals.Counted.{item_next}
use Rattle.run_record.proofs.intervals.Sums.{capped_small}
use Rattle.run_reports.specs.report.Courses.{ending_of, ending_in, course_in, unseen, started, ended, with_change}
use Rattle.run_reports.specs.report.Courses.{with_earlier}
use Rattle.run_reports.specs.declared.report.courses.Course.{Course}
use Rattle.run_reports.specs.declared.report.endings.Ending.{Ending}
use Rattle.run_reports.specs.declared.report.endings.Ending.TheVariants.{Completed, Abandoned}

-- one fate more in front
found_more : (f : model.Fate) (fates : List model.Fate) (n : ℕ)
    → option_map ending_of (find (λ fate. model.number_of fate == n) (f ∷ fates))
    ≡ cond (model.number_of f == n) (Some (ending_of f))
    (option_map ending_of (find (λ fate. model.number_of fate == n) fates))
found_more f fates n = by_bool _ (model.number_of f == n)
    (λ same. ap (λ (b : Bool). option_map ending_of
    (cond b (Some f) (find (λ fate. model.number_of fate == n) fates))) same
    ∙ ap (λ (b : Bool). cond b (Some (ending_of f))
    (option_map ending_of (find (λ fate. model.number_of fate == n) fates))) (sym same))
    (λ differs. ap (λ (b : Bool). option_map ending_of
    (cond b (Some f) (find (λ fate. model.number_of fate == n) fates))) differs
    ∙ ap (λ (b : Bool). cond b (Some (ending_of f))
    (option_map ending_of (find (λ fate. model.number_of fate == n) fates))) (sym differs))

-- with one step more in front, which ends the job so or not
course_more : (e : Event) (es : List Event) (n : ℕ) (b : Bool) → gets n (Prints e) ≡ b → (ending : Option Ending)
    → ending_in (e ∷ es) n ≡ ending → length es + 1 < 2 ^ 64 → course_in (e ∷ es) n
    ≡ record (cond b (started (tick_of_event e) (course_in es n)) (course_in es n)) { ending = ending }
course_more e es n b is ending ends few = by_bool_of b is where
  got : Event → Bool
  got x = gets n (Prints x)

  whole : Option Ending → Option ℕ → ℕ → Course
  whole o a c = record { ending = o; first = a; count = c }

  same_course : {o o2 : Option Ending} {a a2 : Option ℕ} {c c2 : ℕ} → o ≡ o2 → a ≡ a2 → c ≡ c2
      → whole o a c ≡ whole o2 a2 c2
  same_course e1 e2 e3 = cc

  counted : count_by got (e ∷ es) ≡ cond (got e) 1 0 + count_by got es
  counted = sum_by-cons (λ (x : Event). cond (got x) 1 0) e es

  by_bool_of : (c : Bool) → got e ≡ c → course_in (e ∷ es) n
      ≡ record (cond c (started (tick_of_event e) (course_in es n)) (course_in es n)) { ending = ending }
  by_bool_of true same = same_course ends
      (ap (λ (c : Bool). option_map tick_of_event (cond c (Some e) (find got es))) same)
      (omega (arith, counted, ap {B = ℕ} (λ (c : Bool). cond c 1 0) same)
      ∙ sym (capped_small (count_by got es + 1) (omega (arith, count_by-le-length got es, few))))
  by_bool_of false same = same_course ends
      (ap (λ (c : Bool). option_map tick_of_event (cond c (Some e) (find got es))) same)
      (omega (arith, counted, ap {B = ℕ} (λ (c : Bool). cond c 1 0) same))

-- where one job's course is changed
module _ (f : Course → Course) (m : ℕ) (courses : List Course) where
  -- there are as many
  length_change : length (with_change f m courses) ≡ length courses
  length_change = by_bool _ (nat_lt m (length courses))
      (λ low. ap (λ (b : Bool). length (cond b (set courses m (f (get_or courses m unseen))) courses)) low
      ∙ length-set courses m (f (get_or courses m unseen)))
      (λ high. ap (λ (b : Bool). length (cond b (set courses m (f (get_or courses m unseen))) courses)) high)

  -- the one of number n
  change_at : (n : ℕ) → n < length courses → (c : Course) → get_or courses n unseen ≡ c
      → get_or (with_change f m courses) n unseen ≡ cond (m == n) (f c) c
  change_at n in_range c is = by_bool _ (m == n)
      (λ same. let here : m ≡ n = eqb-true m n same in
      ap (λ (b : Bool). get_or (cond b (set courses m (f (get_or courses m unseen))) courses) n unseen)
      (lt-ltb m (length courses) (omega (arith, here, in_range)))
      ∙ ap (λ k. get_or (set courses k (f (get_or courses k unseen))) n unseen) here
      ∙ get_or-set_same courses n (f (get_or courses n unseen)) unseen in_range
      ∙ ap f is ∙ ap (λ (b : Bool). cond b (f c) c) (sym same))
      (λ differs. by_bool _ (nat_lt m (length courses))
      (λ low. ap (λ (b : Bool). get_or (cond b (set courses m (f (get_or courses m unseen))) courses) n unseen) low
      ∙ get_or-set_other courses m n (f (get_or courses m unseen)) unseen
      (λ same. eqb-false m n differs (sym same)))
      (λ high. ap (λ (b : Bool). get_or (cond b (set courses m (f (get_or courses m unseen))) courses) n unseen) high)
      ∙ is ∙ ap (λ (b : Bool). cond b (f c) c) (sym differs))

-- the courses are those in the steps that are read
abbrev pub AreRead : List Event → List Course → (count left : ℕ) → Type 0
AreRead run courses count left = (n : ℕ) → n < count → get_or courses n unseen ≡ course_in (drop left run) n

-- with one step more
pub read_more : (run : List Event) (courses : List Course) (count left : ℕ) (e : Event) → e ≡ get_or run left e
    → left < length run → length run < 2 ^ 64 → length courses ≡ count → AreRead run courses count (left + 1)
    → AreRead run (with_earlier courses e) count left
read_more run courses count left e is there few as_many before n low =
    by_event e ∙ ap (λ es. course_in es n) (sym (item_next run left e is there)) where
      rest : List Event
      rest = drop (left + 1) run

      c : Course
      c = course_in rest n

      in_range : n < length courses
      in_range = omega (arith, as_many, low)

      fewer : length rest + 1 < 2 ^ 64
      fewer = omega (arith, length-drop (left + 1) run, there, few)

      -- it gets the processor, or another does
      starts : (m at : ℕ) → get_or (with_change (started at) m courses) n unseen
          ≡ record (cond (m == n) (started at c) c) { ending = ending_in rest n }
      starts m at = change_at (started at) m courses n in_range c (before n low) ∙ by_test (m == n) where
        by_test : (b : Bool) → cond b (started at c) c ≡ record (cond b (started at c) c) { ending = ending_in rest n }
        by_test true = refl
        by_test false = refl

      -- it ends, or another does
      ends : (m : ℕ) (end : Ending) → get_or (with_change (ended end) m courses) n unseen
          ≡ record c { ending = cond (m == n) (Some end) (ending_in rest n) }
      ends m end = change_at (ended end) m courses n in_range c (before n low) ∙ by_test (m == n) where
        by_test : (b : Bool) → cond b (ended end c) c ≡ record c { ending = cond b (Some end) (ending_in rest n) }
        by_test true = refl
        by_test false = refl

      by_event : (x : Event) → get_or (with_earlier courses x) n unseen ≡ course_in (x ∷ rest) n
      by_event (Run at m) = starts m at ∙ sym (course_more (Run at m) rest n (m == n) refl _ refl fewer)
      by_event (Preempt at stops m) =
          starts m at ∙ sym (course_more (Preempt at stops m) rest n (m == n) refl _ refl fewer)
      by_event (Take at stops m) =
          starts m at ∙ sym (course_more (Take at stops m) rest n (m == n) refl _ refl fewer)
      by_event (Complete at m) = ends m (Completed at) ∙ sym (course_more (Complete at m) rest n false refl _
          (found_more (model.Completed m at) (filter_map model.fate_of_event rest) n) fewer)
      by_event (Abandon at m) = ends m (Abandoned at) ∙ sym (course_more (Abandon at m) rest n false refl _
          (found_more (model.Abandoned m at) (filter_map model.fate_of_event rest) n) fewer)
      by_event x = before n low ∙ sym (course_more x rest n false refl _ refl fewer)

-- they are as many as before
pub as_many_read : (courses : List Course) (e : Event) → length (with_earlier courses e) ≡ length courses
as_many_read courses (Run at m) = length_change (started at) m courses
as_many_read courses (Preempt at stops m) = length_change (started at) m courses
as_many_read courses (Take at stops m) = length_change (started at) m courses
as_many_read courses (Complete at m) = length_change (ended (Completed at)) m courses
as_many_read courses (Abandon at m) = length_change (ended (Abandoned at)) m courses
as_many_read courses _ = refl

-- a list of as many items is written over the old one
pub written : {X : Type 0} (len : ℕ) (new old : List X) → length new ≡ len
    → take len (new ++ drop (length new) old) ≡ new
written len new old same = ap (λ n. take n (new ++ drop (length new) old)) (sym same)
    ∙ take-append_seam new (drop (length new) old)

-- nothing has no front
no_front : {X : Type 0} (n : ℕ) (xs : List X) → xs ≡ [] → take n xs ≡ []
no_front zero xs empty = refl
no_front (suc n) xs empty = ap (take (suc n)) empty

-- where no step is read, none tells of a job
pub none_read : (run : List Event) (before courses : List Course) (len count : ℕ) → before ≡ [] → len ≡ 0
    → courses ≡ take count before ++ replicate (count - len) unseen
    → (length courses ≡ count) × AreRead run courses count (length run)
none_read run before courses len count empty none are = (
  ap length same ∙ length-replicate count unseen,
  λ n low. ap (λ cs. get_or cs n unseen) same
      ∙ get_or-replicate count n unseen unseen low
      ∙ ap (λ es. course_in es n) (sym (drop_all (length run) run (omega arith))),
) where
  all : count - len ≡ count
  all = omega (arith, none)

  same : courses ≡ replicate count unseen
  same = are ∙ ap (λ b. b ++ replicate (count - len) unseen) (no_front count before empty)
      ∙ ap (λ m. replicate m unseen) all
