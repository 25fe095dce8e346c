-- That words ask for one thing at most.
use Rattle.std.proofs.Common.{◌≡◌, ℕ, ◌+◌, ◌-◌, ◌<◌, ◌^◌, List, [], ◌∷◌, String, get_or, decimal, sym, ap, ◌∙◌, take}
use Rattle.std.proofs.Common.{length-drop, subst, arith, drop, length, refl, suc, zero, string_bytes, Option, Some}
use Rattle.std.proofs.Common.{◌⊎◌, inl, inr, Bool, true, false}
use Rattle.std.proofs.Common.{None, IsTrue, codes, bytes_eq, unwrap_or, if◌then◌else◌, take_all}
use Rattle.std.specs.declared.alloc.Global.{Global}
use Rattle.trace_words.specs.declared.report.form.Form.{Form}
use Rattle.trace_words.specs.declared.report.form.Form.TheVariants.{Text, Table, Chrome, Why, Timeline, Svg}
use Rattle.trace_words.specs.declared.schedule.form.ScheduleForm.{ScheduleForm}
use Rattle.trace_words.specs.declared.schedule.form.ScheduleForm.TheVariants as any
use Rattle.task_report.specs.declared.form.TaskForm.{TaskForm}
use Rattle.task_report.specs.declared.form.TaskForm.TheVariants as by_tasks
use Rattle.stated_jobs.specs.declared.duel.links.Share.{Share}
use Rattle.stated_jobs.specs.duel.Kept.{IsShare}
use Rattle.run_reports.specs.declared.views.window.Window.{Window}
use Rattle.dover_model.specs.Common.{Fraction, IsRatio, fraction, is_some_factor, numeral}
use Rattle.dover_model.specs.declared.factors.Factor.{Factor}
use Rattle.dover_model.proofs.texts.Numerals.{numeral-decimal}
use Rattle.dover_top.specs.Requests.{Asks}
use Rattle.dover_top.specs.Words.{IsFormed, IsScheduleForm, IsTaskForm, factor_words, form_words, schedule_words}
use Rattle.dover_top.specs.Words.{spelled, task_form_words}
use Rattle.dover_top.specs.declared.request.Request.{Request}
use Rattle.dover_top.specs.declared.request.Request.TheVariants.{Serve, Judge, Report, Trial, Bait, Ask, Lanes, Pause}
use Rattle.dover_top.specs.declared.request.Request.TheVariants.{Resume, Unroll, Duel, Draw, Sure, Budget, Ratio}
use Rattle.dover_top.specs.declared.request.Request.TheVariants.{Schedule, ReportTasks, FeasibleTasks}
use Rattle.feed_words.specs.declared.serve.at_end.AtEnd.{AtEnd}
use Rattle.feed_words.specs.declared.serve.at_end.AtEnd.TheVariants as ends
use Rattle.question_words.specs.declared.question.Question.TheVariants.{Feasible, Best, Compare, Loss}
use Rattle.dover_model.proofs.valid.JobLimits.{ratio_limits, factor_limits}

-- ---- words read as what they ask for, if they ask for something

-- the word of this place
abbrev word_at : ℕ → List (List ℕ) → List ℕ
word_at n words = get_or words n []

-- the number that a word spells
abbrev number_of : List ℕ → ℕ
number_of word = unwrap_or (numeral word) 0

-- the ratio whose numbers are spelled from this place on
abbrev ratio_at : ℕ → List (List ℕ) → Fraction
ratio_at n words = fraction (number_of (word_at n words)) (number_of (word_at (n + 1) words))

-- the factor that words spell, if there is one
abbrev factor_of : List (List ℕ) → Option Factor
factor_of [] = None
factor_of (b ∷ more) = Some (record { b = number_of b; c = number_of (word_at 0 more) })

-- the ratio with the factor behind the rounds
abbrev baited_at : List (List ℕ) → Fraction
baited_at words =
    record { p = number_of (word_at 1 words); q = number_of (word_at 2 words); factor = factor_of (drop 4 words) }

-- the share whose numbers are spelled from this place on
abbrev share_at : ℕ → List (List ℕ) → Share
share_at n words = record { part = number_of (word_at n words); whole = number_of (word_at (n + 1) words) }

-- the front that words spell, if there is one
abbrev front_of : List (List ℕ) → Option ℕ
front_of [] = None
front_of (count ∷ more) = Some (number_of count)

-- the window whose ticks words spell, if there are some
abbrev window_of : List (List ℕ) → Option Window
window_of [] = None
window_of (from ∷ more) = Some (record { from = number_of from; until = number_of (word_at 0 more) })

-- the form of report that words name
abbrev form_of : List (List ℕ) → Form
form_of words = let word = word_at 1 words in
    if bytes_eq word (codes "text") then Text else (if bytes_eq word (codes "csv") then Table else (
    if bytes_eq word (codes "chrome") then Chrome else (
    if bytes_eq word (codes "why") then Why (number_of (word_at 2 words)) else (
    if bytes_eq word (codes "timeline") then Timeline (window_of (drop 2 words)) else Svg (window_of (drop 2 words))))))

-- the form of report on a schedule that words name
abbrev schedule_form_of : List (List ℕ) → ScheduleForm
schedule_form_of words = let word = word_at 2 words in
    if bytes_eq word (codes "csv") then any.Table else (
    if bytes_eq word (codes "timeline") then any.Timeline (window_of (drop 3 words))
    else any.Svg (window_of (drop 3 words)))

-- the form of report on tasks that words name
abbrev task_form_of : List (List ℕ) → TaskForm
task_form_of [] = by_tasks.Lines
task_form_of (word ∷ words) = if bytes_eq word (codes "timeline") then by_tasks.Timeline (window_of words)
    else by_tasks.Svg (window_of words)

-- what words ask for that begin with the word for a report, by whether the next one is that for any schedule, or for
-- tasks
abbrev report_by : (any tasks : Bool) → List (List ℕ) → Request
report_by true tasks words = Schedule (schedule_form_of words)
report_by false true words = ReportTasks (task_form_of (drop 2 words))
report_by false false words = Report (form_of words)

-- what words ask for that begin with the word for what is feasible, by whether the next one is that for tasks
abbrev feasible_by : Bool → Request
feasible_by true = FeasibleTasks
feasible_by false = Ask Feasible

-- what is done where the input ends that a word names
abbrev end_of : List ℕ → AtEnd
end_of word = if bytes_eq word (codes "pause") then ends.Pause else ends.Refuse

-- by the first word
abbrev request_of : List (List ℕ) → Request
request_of words =
    if bytes_eq (word_at 0 words) (codes "serve") then Serve else (
    if bytes_eq (word_at 0 words) (codes "judge") then Judge else (
    if bytes_eq (word_at 0 words) (codes "report")
    then report_by (bytes_eq (word_at 1 words) (codes "any")) (bytes_eq (word_at 1 words) (codes "tasks")) words else (
    if bytes_eq (word_at 0 words) (codes "trial")
    then Trial (number_of (word_at 1 words)) (number_of (word_at 2 words)) (ratio_at 3 words) else (
    if bytes_eq (word_at 0 words) (codes "bait") then Bait (baited_at words) (number_of (word_at 3 words)) else (
    if bytes_eq (word_at 0 words) (codes "feasible")
    then feasible_by (bytes_eq (word_at 1 words) (codes "tasks")) else (
    if bytes_eq (word_at 0 words) (codes "best") then Ask Best else (
    if bytes_eq (word_at 0 words) (codes "compare") then Ask Compare else (
    if bytes_eq (word_at 0 words) (codes "loss") then Ask Loss else (
    if bytes_eq (word_at 0 words) (codes "lanes") then Lanes else (
    if bytes_eq (word_at 0 words) (codes "pause") then Pause else (
    if bytes_eq (word_at 0 words) (codes "resume") then Resume (end_of (word_at 1 words)) else (
    if bytes_eq (word_at 0 words) (codes "sure") then Sure else (
    if bytes_eq (word_at 0 words) (codes "ratio") then Ratio else (
    if bytes_eq (word_at 0 words) (codes "budget") then Budget (number_of (word_at 1 words)) else (
    if bytes_eq (word_at 0 words) (codes "duel")
    then Duel (ratio_at 1 words) (share_at 3 words) (front_of (drop 5 words)) else (
    if bytes_eq (word_at 0 words) (codes "draw")
    then Draw (number_of (word_at 1 words)) (number_of (word_at 2 words)) (ratio_at 3 words) else Unroll
    (number_of (word_at 1 words))))))))))))))))))

-- a number is read back
number_same : (n : ℕ) → n < 10 ^ 18 → number_of (decimal n) ≡ n
number_same n small = ap (λ o. unwrap_or o 0) (numeral-decimal n small)

-- so is a ratio, with what is its factor
numbers_same : (k : Fraction) → IsRatio k → (o : Option Factor) → o ≡ k.factor
    → record { p = number_of (decimal k.p); q = number_of (decimal k.q); factor = o } ≡ k
numbers_same k r o is = all (number_same k.p (omega (arith, (ratio_limits r).small_p)))
    (number_same k.q (omega (arith, (ratio_limits r).small_q))) where
      make : ℕ → ℕ → Option Factor → Fraction
      make p q o = record { p = p; q = q; factor = o }

      all : number_of (decimal k.p) ≡ k.p → number_of (decimal k.q) ≡ k.q
          → make (number_of (decimal k.p)) (number_of (decimal k.q)) o ≡ k
      all e f = ap (λ p. make p (number_of (decimal k.q)) o) e ∙ ap (λ q. make k.p q o) f ∙ ap (λ x. make k.p k.q x) is

-- so is one with no factor
ratio_same : (k : Fraction) → IsRatio k → k.factor ≡ None
    → fraction (number_of (decimal k.p)) (number_of (decimal k.q)) ≡ k
ratio_same k r plain = numbers_same k r None (sym plain)

-- so is a factor
factor_same : (o : Option Factor) → IsTrue (is_some_factor o) → factor_of (factor_words o) ≡ o
factor_same None some = refl
factor_same (Some f) some = both (number_same f.b (omega (arith, (factor_limits f some).small_b)))
    (number_same f.c (omega (arith, (factor_limits f some).small_c))) where
      make : ℕ → ℕ → Option Factor
      make b c = Some (record { b = b; c = c })

      both : number_of (decimal f.b) ≡ f.b → number_of (decimal f.c) ≡ f.c
          → make (number_of (decimal f.b)) (number_of (decimal f.c)) ≡ Some f
      both e f2 = ap (λ b. make b (number_of (decimal f.c))) e ∙ ap (λ c. make f.b c) f2

-- so is a share
share_same : (s : Share) → IsShare s → record {
  part = number_of (decimal s.part);
  whole = number_of
      (decimal s.whole);
} ≡ s
share_same s r = both (number_same s.part (omega (arith, r.few_parts))) (number_same s.whole (omega
    (arith, r.few))) where
      make : ℕ → ℕ → Share
      make part whole = record { part = part; whole = whole }

      both : number_of (decimal s.part) ≡ s.part → number_of (decimal s.whole) ≡ s.whole
          → make (number_of (decimal s.part)) (number_of (decimal s.whole)) ≡ s
      both e f = ap (λ part. make part (number_of (decimal s.whole))) e ∙ ap (λ whole. make s.part whole) f

-- so is a window
window_same : (w : Window) → w.from < w.until → w.until < 10 ^ 18
    → record { from = number_of (decimal w.from); until = number_of (decimal w.until) } ≡ w
window_same w some short = both (number_same w.from (omega (arith, some, short))) (number_same w.until short) where
  make : ℕ → ℕ → Window
  make from until = record { from = from; until = until }

  both : number_of (decimal w.from) ≡ w.from → number_of (decimal w.until) ≡ w.until
      → make (number_of (decimal w.from)) (number_of (decimal w.until)) ≡ w
  both e f = ap (λ from. make from (number_of (decimal w.until))) e ∙ ap (λ until. make w.from until) f

-- words that ask for something are read as it
is_read : (words : List (String Global)) (r : Request) → Asks words r → request_of (spelled words) ≡ r
is_read words Serve asks = ap request_of asks
is_read words Judge asks = ap request_of asks
is_read words (Report Text) asks = ap request_of asks.row
is_read words (Report Table) asks = ap request_of asks.row
is_read words (Report Chrome) asks = ap request_of asks.row
is_read words (Report (Why n)) asks = ap request_of asks.row
    ∙ ap (λ m. Report (Why m)) (number_same n (omega (arith, asks.formed)))
is_read words (Report (Timeline None)) asks = ap request_of asks.row
is_read words (Report (Timeline (Some w))) asks = ap request_of asks.row
    ∙ ap (λ v. Report (Timeline (Some v))) (window_same w asks.formed.0 asks.formed.1)
is_read words (Report (Svg None)) asks = ap request_of asks.row
is_read words (Report (Svg (Some w))) asks = ap request_of asks.row
    ∙ ap (λ v. Report (Svg (Some v))) (window_same w asks.formed.0 asks.formed.1)
is_read words (Schedule any.Table) asks = ap request_of asks.row
is_read words (Schedule (any.Timeline None)) asks = ap request_of asks.row
is_read words (Schedule (any.Timeline (Some w))) asks = ap request_of asks.row
    ∙ ap (λ v. Schedule (any.Timeline (Some v))) (window_same w asks.formed.0 asks.formed.1)
is_read words (Schedule (any.Svg None)) asks = ap request_of asks.row
is_read words (Schedule (any.Svg (Some w))) asks = ap request_of asks.row
    ∙ ap (λ v. Schedule (any.Svg (Some v))) (window_same w asks.formed.0 asks.formed.1)
is_read words (ReportTasks by_tasks.Lines) asks = ap request_of asks.row
is_read words (ReportTasks (by_tasks.Timeline None)) asks = ap request_of asks.row
is_read words (ReportTasks (by_tasks.Timeline (Some w))) asks = ap request_of asks.row
    ∙ ap (λ v. ReportTasks (by_tasks.Timeline (Some v))) (window_same w asks.formed.0 asks.formed.1)
is_read words (ReportTasks (by_tasks.Svg None)) asks = ap request_of asks.row
is_read words (ReportTasks (by_tasks.Svg (Some w))) asks = ap request_of asks.row
    ∙ ap (λ v. ReportTasks (by_tasks.Svg (Some v))) (window_same w asks.formed.0 asks.formed.1)
is_read words (Trial seed count k) asks = ap request_of asks.row
    ∙ ap (λ n. Trial n (number_of (decimal count)) (ratio_at 0 (decimal k.p ∷ decimal k.q ∷ [])))
    (number_same seed (omega (arith, asks.small)))
    ∙ ap (λ n. Trial seed n (ratio_at 0 (decimal k.p ∷ decimal k.q ∷ []))) (number_same count (omega (arith, asks.few)))
    ∙ ap (λ l. Trial seed count l) (ratio_same k asks.allowed asks.plain)
is_read words (Draw seed count k) asks = ap request_of asks.row
    ∙ ap (λ n. Draw n (number_of (decimal count)) (ratio_at 0 (decimal k.p ∷ decimal k.q ∷ [])))
    (number_same seed (omega (arith, asks.small)))
    ∙ ap (λ n. Draw seed n (ratio_at 0 (decimal k.p ∷ decimal k.q ∷ []))) (number_same count (omega (arith, asks.few)))
    ∙ ap (λ l. Draw seed count l) (ratio_same k asks.allowed asks.plain)
is_read words (Bait k rounds) asks = ap request_of asks.row
    ∙ ap (λ l. Bait l (number_of (decimal rounds)))
    (numbers_same k asks.allowed (factor_of (factor_words k.factor))
    (factor_same k.factor (ratio_limits asks.allowed).factor))
    ∙ ap (λ n. Bait k n) (number_same rounds (omega (arith, asks.few)))
is_read words (Ask Feasible) asks = ap request_of asks
is_read words (Ask Best) asks = ap request_of asks
is_read words (Ask Compare) asks = ap request_of asks
is_read words (Ask Loss) asks = ap request_of asks
is_read words Lanes asks = ap request_of asks
is_read words Pause asks = ap request_of asks
is_read words (Resume ends.Refuse) asks = ap request_of asks
is_read words (Resume ends.Pause) asks = ap request_of asks
is_read words Sure asks = ap request_of asks
is_read words FeasibleTasks asks = ap request_of asks
is_read words Ratio asks = ap request_of asks
is_read words (Budget cost) asks = ap request_of asks.row
    ∙ ap (λ n. Budget n) (number_same cost (omega (arith, asks.known)))
is_read words (Unroll until) asks = ap request_of asks.row
    ∙ ap (λ n. Unroll n) (number_same until (omega (arith, asks.known)))
is_read words (Duel k share None) asks = ap request_of asks.row
    ∙ ap (λ l. Duel l (share_at 0 (decimal share.part ∷ decimal share.whole ∷ [])) None)
    (ratio_same k asks.allowed asks.plain)
    ∙ ap (λ s. Duel k s None) (share_same share asks.share_is)
is_read words (Duel k share (Some count)) asks = ap request_of asks.row
    ∙ ap (λ l. Duel l (share_at 0 (decimal share.part ∷ decimal share.whole ∷ [])) (Some (number_of (decimal count))))
    (ratio_same k asks.allowed asks.plain)
    ∙ ap (λ s. Duel k s (Some (number_of (decimal count)))) (share_same share asks.share_is)
    ∙ ap (λ n. Duel k share (Some n)) (number_same count (omega (arith, asks.formed.1)))

-- words that ask for two things ask for one
pub asks_one : (words : List (String Global)) (r other : Request) → Asks words r → Asks words other → r ≡ other
asks_one words r other one two = sym (is_read words r one) ∙ is_read words other two

-- words that ask for something ask for what they are read as
pub asks_read : (word : String Global) (words : List (String Global)) (r : Request) (text : List ℕ)
    → string_bytes word ≡ text → Asks (word ∷ words) r → Asks (word ∷ words) (request_of (text ∷ spelled words))
asks_read word words r text is asks =
    subst (Asks (word ∷ words)) (sym (is_read (word ∷ words) r asks) ∙ ap (λ w. request_of (w ∷ spelled words)) is) asks

-- words for a report name its form, or that of a report on a schedule, or that of a report on tasks
pub asks_report : (word : String Global) (words : List (String Global)) (r : Request)
    → string_bytes word ≡ codes "report" → Asks (word ∷ words) r
    → ((form : Form) × (spelled words ≡ form_words form) × IsFormed form)
    ⊎ (((form : ScheduleForm) × (spelled words ≡ codes "any" ∷ schedule_words form) × IsScheduleForm form)
    ⊎ ((form : TaskForm) × (spelled words ≡ codes "tasks" ∷ task_form_words form) × IsTaskForm form))
asks_report word words r is asks =
    by (bytes_eq (word_at 0 (spelled words)) (codes "any")) (bytes_eq (word_at 0 (spelled words)) (codes "tasks"))
    (asks_read word words r (codes "report") is asks) where
      by : (b c : Bool) → Asks (word ∷ words) (report_by b c (codes "report" ∷ spelled words))
          → ((form : Form) × (spelled words ≡ form_words form) × IsFormed form)
          ⊎ (((form : ScheduleForm) × (spelled words ≡ codes "any" ∷ schedule_words form) × IsScheduleForm form)
          ⊎ ((form : TaskForm) × (spelled words ≡ codes "tasks" ∷ task_form_words form) × IsTaskForm form))
      by true c it = inr (inl (_, ap (drop 1) it.row, it.formed))
      by false true it = inr (inr (_, ap (drop 1) it.row, it.formed))
      by false false it = inl (_, ap (drop 1) it.row, it.formed)

-- ---- words one by one

-- there are as many as there are words
pub length_spelled : (words : List (String Global)) → length (spelled words) ≡ length words
length_spelled [] = refl
length_spelled (word ∷ words) = ap suc (length_spelled words)

-- a word's bytes are what its place spells
at_place : (words : List (String Global)) (n : ℕ) (word : String Global) → n < length words
    → string_bytes (get_or words n word) ≡ get_or (spelled words) n []
at_place [] n word low = absurd (omega (arith, low))
at_place (w ∷ words) zero word low = refl
at_place (w ∷ words) (suc n) word low = at_place words n word (omega (arith, low))

-- so a word of a row spells what the row has there
pub place_spells : (words : List (String Global)) (n : ℕ) (word : String Global) (row : List (List ℕ))
    → n < length words → word ≡ get_or words n word → spelled words ≡ row → string_bytes word ≡ get_or row n []
place_spells words n word row low is e =
    ap string_bytes is ∙ at_place words n word low ∙ ap (λ l. get_or l n []) e

-- a row is its first word, and the words behind it
pub row_of : (word : String Global) (words : List (String Global)) (first : List ℕ) (rest : List (List ℕ))
    → string_bytes word ≡ first → spelled words ≡ rest → spelled (word ∷ words) ≡ first ∷ rest
row_of word words first rest e f = cc

-- words from a place on spell a row whose first is spelled there
pub spelled_from : (words : List (String Global)) (n : ℕ) (word : String Global) {first : List ℕ}
    {rest : List (List ℕ)} → n < length words → word ≡ get_or words n word → string_bytes word ≡ first
    → spelled (drop (suc n) words) ≡ rest → spelled (drop n words) ≡ first ∷ rest
spelled_from [] n word low is e f = absurd (omega (arith, low))
spelled_from (w ∷ words) zero word low is e f = row_of w words _ _ (ap string_bytes (sym is) ∙ e) f
spelled_from (w ∷ words) (suc n) word low is e f = spelled_from words n word (omega (arith, low)) is e f

-- behind the last there is no more
pub spelled_end : (words : List (String Global)) (n : ℕ) → length words ≡ n → spelled (drop n words) ≡ []
spelled_end [] zero e = refl
spelled_end [] (suc n) e = refl
spelled_end (w ∷ words) zero e = absurd (omega (arith, e))
spelled_end (w ∷ words) (suc n) e = spelled_end words n (omega (arith, e))

-- the words behind so many are all of the rest
pub all_behind : (words : List (String Global)) (n : ℕ) → take (length words - n) (drop n words) ≡ drop n words
all_behind words n = take_all (length words - n) (drop n words) (omega (arith, length-drop n words))

-- and are spelled behind so many
pub spelled_behind : (words : List (String Global)) (n : ℕ) → spelled (drop n words) ≡ drop n (spelled words)
spelled_behind words zero = refl
spelled_behind [] (suc n) = refl
spelled_behind (w ∷ words) (suc n) = spelled_behind words n
