-- A picture for a terminal, piece by piece.
use Rattle.std.proofs.Common.{◌≡◌, ℕ, suc, ◌+◌, ◌-◌, ◌*◌, ◌≤◌, ◌<◌, List, [], ◌∷◌, ◌++◌, length, drop, get_or, refl}
use Rattle.std.proofs.Common.{sym, ap, ◌∙◌, arith, append_assoc, append-nil, add-one, drop-cons, Option, Some, None}
use Rattle.std.proofs.Common.{if◌then◌else◌, codes, decimal, map}
use Rattle.std.proofs.lemmas.List.{drop_all, get_or-map, length-map}
use Rattle.dover_model.specs.declared.events.Event.{Event}
use Rattle.dover_model.specs.Common.{JobFacts, Instance, Fraction, summary_lines}
use Rattle.run_reports.specs.report.Counts.{jobs_released, counts_lines}
use Rattle.run_reports.specs.declared.report.counts.Counts.{Counts}
use Rattle.run_reports.specs.report.Courses.{ending_in}
use Rattle.run_reports.specs.declared.report.endings.Ending.{Ending}
use Rattle.run_reports.specs.declared.report.endings.Ending.TheVariants.{Completed, Abandoned}
use Rattle.run_reports.proofs.report.Counting.{jobs_are}
use Rattle.run_record.specs.intervals.Rows.{IsRunOf}
use Rattle.run_reports.specs.views.Templates.{Text, filled}
use Rattle.run_reports.specs.views.Stays.{stays_of}
use Rattle.run_reports.proofs.views.Joining.{whole}
use Rattle.run_reports.specs.views.Timeline.{window_or, first_tick, end_tick, padded, labels_from, frame, meets, sign}
use Rattle.run_reports.specs.views.Timeline.{signs_from, summed_up, loss_sign, job_line, job_line_at, job_lines}
use Rattle.run_reports.specs.views.Timeline.{is_of, lines_of, label_line, group_lines, all_lines, grouped_timeline}
use Rattle.run_reports.specs.declared.views.stays.Stay.{Stay}
use Rattle.run_reports.specs.declared.views.window.Window.{Window}

-- ---- the summary

-- two pieces behind a text are one behind it
paired : (t x y s l : List ℕ) → x ++ y ≡ s ++ l → t ++ x ++ y ≡ t ++ s ++ l
paired t x y s l same = append_assoc t x y ∙ ap (λ z. t ++ z) same ∙ sym (append_assoc t s l)

-- five texts with s between them
joined_five : (s a b c d e : List ℕ) → a ++ s ++ b ++ s ++ c ++ s ++ d ++ s ++ e
    ≡ a ++ s ++ (b ++ s ++ (c ++ s ++ (d ++ s ++ e)))
joined_five s a b c d e = simp append_assoc

-- seven numbers with words between them, as one line, put piece by piece and as lines
one_line : (a b c d e f g : List ℕ)
    → whole ((codes "jobs " ++ a) ∷ (codes ", completed " ++ b) ∷ (codes " " ++ c) ∷ (codes ", abandoned " ++ d)
    ∷ (codes " " ++ e) ∷ (codes ", taken " ++ f) ∷ (codes ", bound " ++ g) ∷ codes "\n" ∷ [])
    ≡ summed_up ((codes "jobs" ++ 32 ∷ a) ∷ (codes "completed" ++ 32 ∷ (b ++ 32 ∷ c)) ∷ (codes "abandoned" ++ 32
    ∷ (d ++ 32 ∷ e)) ∷ (codes "taken" ++ 32 ∷ f) ∷ (codes "bound" ++ 32 ∷ g) ∷ [])
one_line a b c d e f g =
    let two = codes "jobs " ++ a ++ codes ", " ++ (codes "completed " ++ (b ++ 32 ∷ c)) in
    let three = two ++ codes ", " ++ (codes "abandoned " ++ (d ++ 32 ∷ e)) in
    let four = three ++ codes ", " ++ (codes "taken " ++ f) in
    ap (λ t. t ++ codes "\n") (
    ap (λ t. t ++ (codes ", abandoned " ++ d) ++ (codes " " ++ e) ++ (codes ", taken " ++ f) ++ (codes ", bound " ++ g))
    (paired (codes "jobs " ++ a) (codes ", completed " ++ b) (codes " " ++ c) (codes ", ")
    (codes "completed " ++ (b ++ 32 ∷ c)) refl)
    ∙ ap (λ t. t ++ (codes ", taken " ++ f) ++ (codes ", bound " ++ g))
    (paired two (codes ", abandoned " ++ d) (codes " " ++ e) (codes ", ") (codes "abandoned " ++ (d ++ 32 ∷ e)) refl)
    ∙ ap (λ t. t ++ (codes ", bound " ++ g)) (sym (append_assoc three (codes ", ") (codes "taken " ++ f)))
    ∙ sym (append_assoc four (codes ", ") (codes "bound " ++ g))
    ∙ joined_five (codes ", ") (codes "jobs " ++ a) (codes "completed " ++ (b ++ 32 ∷ c))
    (codes "abandoned " ++ (d ++ 32 ∷ e)) (codes "taken " ++ f) (codes "bound " ++ g))

-- the same texts behind one another, grouped to the right
grouped : (w a x b y c z d u e v f p g q : List ℕ)
    → w ++ (a ++ (x ++ (b ++ (y ++ (c ++ (z ++ (d ++ (u ++ (e ++ (v ++ (f ++ p))))))))))) ++ g ++ q
    ≡ (w ++ a) ++ (x ++ b) ++ (y ++ c) ++ (z ++ d) ++ (u ++ e) ++ (v ++ f) ++ (p ++ g) ++ q
grouped w a x b y c z d u e v f p g q = simp append_assoc

-- of counts
pub summary_line : (n : Counts)
    → filled (codes "jobs @, completed @ @, abandoned @ @, taken @, bound ")
    (n.jobs ∷ n.completed ∷ n.value ∷ n.abandoned ∷ n.lost ∷ n.taken ∷ []) ++ decimal n.bound ++ codes "\n"
    ≡ summed_up (counts_lines n)
unfolding filled
summary_line n = grouped (codes "jobs ") (decimal n.jobs) (codes ", completed ") (decimal n.completed)
    (codes " ") (decimal n.value) (codes ", abandoned ") (decimal n.abandoned) (codes " ") (decimal n.lost)
    (codes ", taken ") (decimal n.taken) (codes ", bound ") (decimal n.bound) (codes "\n")
    ∙ one_line (decimal n.jobs) (decimal n.completed) (decimal n.value) (decimal n.abandoned)
    (decimal n.lost) (decimal n.taken) (decimal n.bound)

-- ---- the ruler

-- one label more
pub labels_more : (w : Window) (more i : ℕ) (text longer whole : List ℕ) → i < more
    → longer ≡ text ++ padded (first_tick w (20 * i))
    → text ++ labels_from w (more - i) (20 * i) ≡ whole
    → longer ++ labels_from w (more - (i + 1)) (20 * (i + 1)) ≡ whole
labels_more w more i text longer whole less grows before =
    let one : more - i ≡ suc (more - (i + 1)) = omega (arith, less) in
    let next : 20 * (i + 1) ≡ 20 * i + 20 = omega arith in
    ap (λ t. t ++ labels_from w (more - (i + 1)) (20 * (i + 1))) grows
    ∙ append_assoc text (padded (first_tick w (20 * i))) (labels_from w (more - (i + 1)) (20 * (i + 1)))
    ∙ ap (λ c. text ++ (padded (first_tick w (20 * i)) ++ labels_from w (more - (i + 1)) c)) next
    ∙ ap (λ n. text ++ labels_from w n (20 * i)) (sym one) ∙ before

-- and the last
pub labels_all : (w : Window) (more i : ℕ) (text whole : List ℕ) → i ≡ more
    → text ++ labels_from w (more - i) (20 * i) ≡ whole
    → text ++ labels_from w 0 (20 * more) ≡ whole
labels_all w more i text whole at before =
    let none : 0 ≡ more - i = omega (arith, at) in
    ap (λ n. text ++ labels_from w n (20 * more)) none
    ∙ ap (λ m. text ++ labels_from w (more - i) (20 * m)) (sym at) ∙ before

-- ---- the signs of a job

module _ (w : Window) (own : List Stay) (ending : Option Ending) where
  -- one sign more
  pub signs_more : (behind column : ℕ) (text longer whole : List ℕ) → column < behind
      → longer ≡ text ++ sign (first_tick w column) (end_tick w column) own ending ∷ []
      → text ++ signs_from w own ending (behind - column) column ≡ whole
      → longer ++ signs_from w own ending (behind - (column + 1)) (column + 1) ≡ whole
  signs_more behind column text longer whole less grows before =
      let one : behind - column ≡ suc (behind - (column + 1)) = omega (arith, less) in
      let mark = sign (first_tick w column) (end_tick w column) own ending in
      let rest = signs_from w own ending (behind - (column + 1)) (column + 1) in
      ap (λ t. t ++ rest) grows ∙ append_assoc text (mark ∷ []) rest
      ∙ ap (λ n. text ++ signs_from w own ending n column) (sym one) ∙ before

-- ---- the lines of the jobs

module _ (w : Window) (run : List Event) (jobs : List JobFacts) where
  -- the line of a job, or nothing
  abbrev line_at : ℕ → JobFacts → Option Ending → List ℕ
  line_at i j ending = if meets w j then job_line w i j (stays_of i run) ending else []

  -- one job more
  pub lines_more : (i : ℕ) (j : JobFacts) (ending : Option Ending) (text longer whole : List ℕ)
      → j ≡ get_or jobs i j → i < length jobs → ending ≡ ending_in run i
      → longer ≡ text ++ (if meets w j then job_line w i j (stays_of i run) ending else [])
      → text ++ job_lines w run i (drop i jobs) ≡ whole
      → longer ++ job_lines w run (i + 1) (drop (i + 1) jobs) ≡ whole
  lines_more i j ending text longer whole is there ends grows before =
      let rest = job_lines w run (i + 1) (drop (i + 1) jobs) in
      let next : drop i jobs ≡ j ∷ drop (i + 1) jobs = drop-cons jobs i j there
      ∙ ap (λ x. x ∷ drop (suc i) jobs) (sym is) ∙ ap (λ n. j ∷ drop n jobs) (sym (add-one i)) in
      ap (λ t. t ++ rest) grows ∙ append_assoc text (line_at i j ending) rest
      ∙ ap (λ e. text ++ (line_at i j e ++ rest)) ends
      ∙ ap (λ l. text ++ job_lines w run i l) (sym next) ∙ before

  -- all jobs
  pub lines_all : (i : ℕ) (text whole : List ℕ) → length jobs ≤ i
      → text ++ job_lines w run i (drop i jobs) ≡ whole → text ≡ whole
  lines_all i text whole past before = sym (append-nil text)
      ∙ ap (λ l. text ++ job_lines w run i l) (sym (drop_all i jobs past)) ∙ before

-- ---- the lines of the jobs of groups

module _ (w : Window) (run : List Event) (own : List ℕ) (jobs : List JobFacts) where
  -- the line of a job of a group, or nothing
  abbrev member_line : (g i : ℕ) → JobFacts → List ℕ
  member_line g i j = if is_of own i g then job_line_at w run i j else []

  -- one job more
  pub members_more : (g i : ℕ) (j : JobFacts) (text longer whole : List ℕ) → j ≡ get_or jobs i j → i < length jobs
      → longer ≡ text ++ member_line g i j → text ++ lines_of w run own g i (drop i jobs) ≡ whole
      → longer ++ lines_of w run own g (i + 1) (drop (i + 1) jobs) ≡ whole
  members_more g i j text longer whole is there grows before =
      let rest = lines_of w run own g (i + 1) (drop (i + 1) jobs) in
      let next : drop i jobs ≡ j ∷ drop (i + 1) jobs = drop-cons jobs i j there
      ∙ ap (λ x. x ∷ drop (suc i) jobs) (sym is) ∙ ap (λ n. j ∷ drop n jobs) (sym (add-one i)) in
      ap (λ t. t ++ rest) grows ∙ append_assoc text (member_line g i j) rest
      ∙ ap (λ l. text ++ lines_of w run own g i l) (sym next) ∙ before

  -- all jobs
  pub members_all : (g i : ℕ) (text whole : List ℕ) → length jobs ≤ i
      → text ++ lines_of w run own g i (drop i jobs) ≡ whole → text ≡ whole
  members_all g i text whole past before = sym (append-nil text)
      ∙ ap (λ l. text ++ lines_of w run own g i l) (sym (drop_all i jobs past)) ∙ before

  module _ {V : Type 0} (f : V → List ℕ) (labels : List V) where
    -- one group more
    pub groups_more : (i : ℕ) (d : V) (label text headed longer whole : List ℕ) → i < length labels
        → label ≡ f (get_or labels i d) → headed ≡ text ++ label_line label
        → longer ≡ headed ++ lines_of w run own i 0 jobs
        → text ++ group_lines w run own jobs i (drop i (map f labels)) ≡ whole
        → longer ++ group_lines w run own jobs (i + 1) (drop (i + 1) (map f labels)) ≡ whole
    groups_more i d label text headed longer whole there says heads grows before =
        let rest = group_lines w run own jobs (i + 1) (drop (i + 1) (map f labels)) in
        let next : drop i (map f labels) ≡ label ∷ drop (i + 1) (map f labels) =
        drop-cons (map f labels) i label (omega (arith, there, length-map labels f))
        ∙ ap (λ x. x ∷ drop (suc i) (map f labels)) (get_or-map f labels i d label there ∙ sym says)
        ∙ ap (λ n. label ∷ drop n (map f labels)) (sym (add-one i)) in
        ap (λ t. t ++ rest) (grows ∙ ap (λ t. t ++ lines_of w run own i 0 jobs) heads)
        ∙ append_assoc (text ++ label_line label) (lines_of w run own i 0 jobs) rest
        ∙ append_assoc text (label_line label) (lines_of w run own i 0 jobs ++ rest)
        ∙ ap (λ t. text ++ t) (sym (append_assoc (label_line label) (lines_of w run own i 0 jobs) rest))
        ∙ ap (λ l. text ++ group_lines w run own jobs i l) (sym next) ∙ before

    -- all groups
    pub groups_all : (i : ℕ) (text whole : List ℕ) → length labels ≤ i
        → text ++ group_lines w run own jobs i (drop i (map f labels)) ≡ whole → text ≡ whole
    groups_all i text whole past before = sym (append-nil text)
        ∙ ap (λ l. text ++ group_lines w run own jobs i l)
        (sym (drop_all i (map f labels) (omega (arith, past, length-map labels f)))) ∙ before

-- its end
pub value_line : (ending : Option Ending) (v : ℕ)
    → filled (codes " " ++ (loss_sign ending ++ codes "@\n")) (v ∷ [])
    ≡ codes " " ++ (loss_sign ending ++ (decimal v ++ codes "\n"))
unfolding filled
value_line None v = refl
value_line (Some (Completed at)) v = refl
value_line (Some (Abandoned at)) v = refl

-- and what stands before it
pub ended : (x s l d n : List ℕ) → x ++ (s ++ (l ++ (d ++ n))) ≡ x ++ s ++ l ++ d ++ n
ended x s l d n = simp append_assoc

-- ---- the picture

module _ (k : Fraction) (run : List Event) (J : Instance) (of : IsRunOf k run J) (window : Option Window)
    (own : List ℕ) (labels : List Text) (w : Window) (jobs : List JobFacts) (lines : List (List ℕ)) where
  -- the whole text
  pub drawn : (o a b c : List ℕ) → jobs ≡ jobs_released run → w ≡ window_or window jobs → lines ≡ summary_lines J
      → o ≡ [] → a ≡ o ++ summed_up lines → b ≡ a ++ frame w → c ≡ b ++ all_lines w run own labels jobs
      → c ≡ grouped_timeline window own labels J
  drawn o a b c released asked summed none first middle last =
      let same : jobs ≡ J.jobs = released ∙ jobs_are k run J of in
      let head : a ≡ summed_up (summary_lines J) = first ∙ ap (λ t. t ++ summed_up lines) none ∙ ap summed_up summed in
      last ∙ ap (λ t. t ++ all_lines w run own labels jobs) (middle ∙ ap (λ t. t ++ frame w) head)
      ∙ ap (λ (v : Window). summed_up (summary_lines J) ++ frame v ++ all_lines v run own labels jobs) asked
      ∙ ap (λ js. summed_up (summary_lines J) ++ frame (window_or window js)
      ++ all_lines (window_or window js) run own labels js) same
      ∙ ap (λ es. summed_up (summary_lines J) ++ frame (window_or window J.jobs)
      ++ all_lines (window_or window J.jobs) es own labels J.jobs) (sym of.prints)
