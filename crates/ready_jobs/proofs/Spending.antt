-- What a course has cost: as much as the run that it is kept of.
use Rattle.std.proofs.Common.{◌≡◌, ℕ, ◌+◌, ◌-◌, ◌*◌, ◌≤◌, ◌<◌, ◌^◌, inl, inr, List, [], ◌∷◌, ◌++◌, length, sym, ap}
use Rattle.std.proofs.Common.{refl, ◌∙◌, subst, Bool, true, false, arith, sum_by, ◌==◌, option_to_list, eqb-true}
use Rattle.std.proofs.Common.{eq-eqb}
use Rattle.std.proofs.lemmas.List.Sums.{length-filter, sum_by-append}
use Rattle.std.proofs.lemmas.Nat.{mul-le}
use Rattle.dover_model.specs.Common.{bare, Fraction, JobFacts, Instance, IsValid, finishing, Keeps, State, is_waiting}
use Rattle.dover_model.specs.Common.{is_over, state_at, Move, Prints, open_step, after, with_role, Step, one_if, weight}
use Rattle.dover_model.specs.Common.{weight_in, standing, stands, exits_scale, waiting_count, cost_of, exits}
use Rattle.dover_model.specs.Common.{waits_among, HasSpentFor, HasSpentFreely, CostsAtMost, Idles}
use Rattle.dover_model.proofs.finishes.Further.{over_open}
use Rattle.dover_model.proofs.finishes.OverPaths.{idles_over}
use Rattle.dover_model.proofs.runs.FreelySpending.{exits_least, freely_so_far, freely_spent, idles_free, idles_wait}
use Rattle.dover_model.proofs.lists.Members.{sum_zero}
use Rattle.dover_model.proofs.lists.Tests.{never}
use Rattle.dover_model.specs.declared.events.Event.{Event}
use Rattle.dover_model.specs.declared.events.Task.{Task}
use Rattle.dover_model.specs.declared.events.Role.TheVariants.{Running}
use Rattle.dover_model.proofs.steps.Kept.{open_kept}
use Rattle.dover_model.proofs.steps.Roles.{is_over_role, passes}
use Rattle.dover_model.specs.Spending.{exits_freely}
use Rattle.dover_model.proofs.runs.WaitingMoves.{open_leaves}
use Rattle.dover_model.proofs.runs.Spending.{so_far_for, spent_few, spent_on, spent_more, open_falls, open_pays}
use Rattle.waiting_pool.specs.Reordered.{IsReordered}
use Rattle.ready_jobs.specs.Parts.{Parted, HaveRoles, ready_of, state_of}
use Rattle.ready_jobs.specs.Changed.{Leaves}
use Rattle.dover_model.specs.Step.{pressed_after}
use Rattle.waiting_pool.specs.Pools.{orders_of}
use Rattle.ready_jobs.specs.Changed.{completed}
use Rattle.ready_jobs.specs.Course.{Course, state_of_course, Follows, IsCourse, Reached, course_of, fresh_job}
use Rattle.ready_jobs.specs.Course.{with_release}
use Rattle.ready_jobs.specs.Spending.{HasPaid, HasPaidFreely}
use Rattle.ready_jobs.proofs.Costing.{sum_ready, over_not_waiting, fewer_wait, cost_whole, few_orders}
use Rattle.ready_jobs.proofs.Courses.{follows_count, follows_fewer, follows_part, follows_step}
use Rattle.ready_jobs.proofs.ChangedCourses.{course_takes}
use Rattle.ready_jobs.proofs.Seeing.{waiting_list}
use Rattle.dover_model.proofs.steps.ReadyParts.{change}

-- ---- in all

-- the comparisons for all jobs released so far are few
pub paid_jobs : (c : Course) (start now : ℕ) → HasPaid c start now → CostsAtMost c.jobs start now
paid_jobs c start now paid = spent_few c.jobs (state_of_course c) start now paid

pub paid_few : (c : Course) (J : Instance) (z : State) → Follows c J z → (start now : ℕ) → HasPaid c start now
    → CostsAtMost (length J.jobs) start now
paid_few c J z follows start now paid = subst (λ n. CostsAtMost n start now) (follows_count c J z follows)
    (paid_jobs c start now paid)

-- ---- jobs that are over

over_weighs : (clock w : ℕ) (t : Task) → is_over t ≡ true → weight exits_scale clock w t ≡ 0
over_weighs clock w t over = elim (is_over_role t over) [
  | inl e ↦ ap (λ role. weight_in exits_scale role clock w t) e
  | inr e ↦ ap (λ role. weight_in exits_scale role clock w t) e
]

over_stands : (t : Task) → is_over t ≡ true → stands [] t ≡ 0
over_stands t over = elim (is_over_role t over) [
  | inl e ↦ ap (λ role. stands [] (with_role t role)) e
  | inr e ↦ ap (λ role. stands [] (with_role t role)) e
]

over_waits : (t : Task) → is_over t ≡ true → one_if (is_waiting t) ≡ 0
over_waits t over = ap one_if (over_not_waiting t over)

-- ---- as much as the run

module _ (c : Course) (J : Instance) (z : State) (follows : Follows c J z) where
  -- the ready jobs, at their clock
  abbrev here : State
  here = state_of_course c

  weighs_same : (f : Task → ℕ) → ((t : Task) → is_over t ≡ true → f t ≡ 0) → sum_by f c.ready ≡ sum_by f z.tasks
  weighs_same f none = follows.ready.weighs f ∙ sum_ready f z.tasks (λ t m. none t)

  same_exits : exits here ≡ exits z
  same_exits = ap (λ w. sum_by (weight exits_scale c.clock w) c.ready) (weighs_same (stands []) over_stands)
      ∙ ap (λ n. sum_by (weight exits_scale n (standing [] z.tasks)) c.ready) (sym follows.clock)
      ∙ weighs_same (weight exits_scale z.clock (standing [] z.tasks)) (over_weighs z.clock (standing [] z.tasks))

  same_waiting : waiting_count here ≡ waiting_count z
  same_waiting = weighs_same (λ t. one_if (is_waiting t)) over_waits

  -- they come to what all jobs come to
  pub follows_waits : waits_among c.jobs here ≡ waits_among c.jobs z
  follows_waits = ap (λ w. (4 * c.jobs + w) - 2 * exits here) same_waiting
      ∙ ap (λ e. (4 * c.jobs + waiting_count z) - 2 * e) same_exits

  module _ (start now : ℕ) where
    pub paid_spent : HasPaid c start now → HasSpentFor c.jobs z start now
    paid_spent paid = λ d enough. subst (λ m. now ≤ start + 20 * d * m) follows_waits (paid d enough)

    pub spent_paid : HasSpentFor c.jobs z start now → HasPaid c start now
    spent_paid spent = λ d enough. subst (λ m. now ≤ start + 20 * d * m) (sym follows_waits) (spent d enough)

-- ---- silent steps

-- what may still come falls, by each job that ceases to wait
idles_fall : (J : Instance) → IsValid J → (xs : List Step) (s u : State) → Keeps J s → Idles (bare J.rules) s xs u
    → (exits u ≤ exits s) × (exits u + waiting_count s ≤ exits s + waiting_count u)
idles_fall J valid [] s u keeps same =
    subst (λ v. (exits v ≤ exits s) × (exits v + waiting_count s ≤ exits s + waiting_count v)) same
    (omega arith, omega arith)
idles_fall J valid (x ∷ xs) s u keeps idles =
    let y : State = after s (open_step (bare J.rules) s) in
    let rest : (exits u ≤ exits y) × (exits u + waiting_count y ≤ exits y + waiting_count u) =
    idles_fall J valid xs y u (open_kept J valid s keeps (bare J.rules)) idles.3 in (
      omega (arith, open_leaves J valid (bare J.rules) s keeps (λ _ _ _. refl), rest.0),
      omega (arith, open_falls J valid J.rules s keeps, rest.1),
    )

-- d in each order for each that waits more is paid by that
more_pays : (orders d n ev eu wv wu mv mu t before now : ℕ) → orders ≤ 3 → eu ≤ ev → eu + wv ≤ ev + wu → t ≡ wu - wv
    → mv + 2 * ev ≡ 4 * n + wv → mu + 2 * eu ≡ 4 * n + wu
    → now ≤ before + orders * d * t → now + 20 * d * mv ≤ before + 20 * d * mu
more_pays orders d n ev eu wv wu mv mu t before now few less falls more v u cost =
    let each : orders * (d * t) ≤ 3 * (d * t) = mul-le orders (d * t) 3 (d * t) few (omega arith) in
    let all : 20 * d * (t + mv) ≤ 20 * d * mu =
    mul-le (20 * d) (t + mv) (20 * d) mu (omega arith) (omega (arith, less, falls, more, v, u)) in
    omega (arith, all, each, cost)

-- how many of these wait
count_waiting : (p : Parted) → HaveRoles p → waiting_count (state_of p) ≡ length p.waiting
count_waiting p roles = sym (length-filter is_waiting (ready_of p)) ∙ ap length (waiting_list p roles)

module _ (k : Fraction) (p q : Parted) (jobs done mark : ℕ) (m : Move) (roles : HaveRoles p) (roles_then : HaveRoles q)
    (old : IsCourse (course_of k p jobs done)) (reached : Reached (course_of k q jobs done) old.0 old.1 mark m) where
  -- jobs that begin to wait by silent steps pay for that
  pub silent_pays : (before now : ℕ)
      → ((d : ℕ) → length p.waiting + 1 < 2 ^ d
      → now ≤ before + orders_of p.version * d * (length q.waiting - length p.waiting))
      → (start : ℕ) → HasPaid (course_of k p jobs done) start before → HasPaid (course_of k q jobs done) start now
  silent_pays before now cost start paid =
      let c : Course = course_of k p jobs done in
      let u : State = reached.state in
      let falls = idles_fall old.0 old.2.valid reached.idles.0 old.1 u old.2.keeps
      (idles_over old.0 old.2.valid reached.idles.0 old.1 u old.2.keeps old.2.over reached.idles.1) in
      spent_paid (course_of k q jobs done) old.0 u reached.follows start now
      (spent_on jobs old.1 u start before now
      (λ d enough. more_pays (orders_of p.version) d jobs (exits old.1) (exits u)
      (waiting_count old.1) (waiting_count u)
      (waits_among jobs old.1) (waits_among jobs u) (length q.waiting - length p.waiting) before now
      (few_orders p.version) falls.0 falls.1
      (ap (λ n. n - length p.waiting) (sym (count_waiting q roles_then)
      ∙ same_waiting (course_of k q jobs done) old.0 u reached.follows)
      ∙ ap (λ n. waiting_count u - n) (sym (count_waiting p roles) ∙ same_waiting c old.0 old.1 old.2))
      (so_far_for jobs old.1 old.2.jobs) (so_far_for jobs u reached.follows.jobs)
      (cost d (let fewer = fewer_wait p in let ready = follows_fewer c old.0 old.1 old.2 in
      omega (arith, enough, fewer, ready))))
      (paid_spent c old.0 old.1 old.2 start before paid))

-- ---- whatever finishes

-- what is paid freely is paid
pub freely_paid : (c : Course) (start now : ℕ) → HasPaidFreely c start now → HasPaid c start now
freely_paid c start now paid = freely_spent c.jobs (state_of_course c) start now paid

module _ (c : Course) (J : Instance) (z : State) (follows : Follows c J z) where
  -- what may still come is that of all jobs
  same_freely : exits_freely (state_of_course c) ≡ exits_freely z
  same_freely = ap (λ n. sum_by (weight exits_scale n 0) c.ready) (sym follows.clock)
      ∙ weighs_same c J z follows (weight exits_scale z.clock 0) (over_weighs z.clock 0)

  -- so is what has come
  freely_same : (4 * c.jobs + waiting_count (state_of_course c)) - 2 * exits_freely (state_of_course c)
      ≡ (4 * c.jobs + waiting_count z) - 2 * exits_freely z
  freely_same = ap (λ w. (4 * c.jobs + w) - 2 * exits_freely (state_of_course c)) (same_waiting c J z follows)
      ∙ ap (λ e. (4 * c.jobs + waiting_count z) - 2 * e) same_freely

  module _ (start now : ℕ) where
    paid_freely : HasPaidFreely c start now → HasSpentFreely c.jobs z start now
    paid_freely paid = λ d enough. subst (λ m. now ≤ start + 20 * d * m) freely_same (paid d enough)

    freely_then : HasSpentFreely c.jobs z start now → HasPaidFreely c start now
    freely_then spent = λ d enough. subst (λ m. now ≤ start + 20 * d * m) (sym freely_same) (spent d enough)

module _ (k : Fraction) (p q : Parted) (jobs done mark : ℕ) (m : Move) (roles : HaveRoles p) (roles_then : HaveRoles q)
    (old : IsCourse (course_of k p jobs done)) (reached : Reached (course_of k q jobs done) old.0 old.1 mark m)
    (before now : ℕ)
    (cost : (d : ℕ) → length p.waiting + 1 < 2 ^ d
    → now ≤ before + orders_of p.version * d * (length q.waiting - length p.waiting)) where
  abbrev then : State
  then = reached.state

  -- silent steps, where so much had come before them
  module _ (start was most : ℕ) (so_far : was + 2 * most ≡ 4 * jobs + waiting_count old.1)
      (low : exits_freely then ≤ most)
      (spent : (d : ℕ) → jobs + 1 < 2 ^ d → before ≤ start + 20 * d * was) where
    by_silence : HasPaidFreely (course_of k q jobs done) start now
    by_silence =
        let c : Course = course_of k p jobs done in
        let grown : waiting_count old.1 ≤ waiting_count then =
        idles_wait old.0 old.2.valid old.0.rules reached.idles.0 old.1 then reached.idles.1 in
        freely_then (course_of k q jobs done) old.0 then reached.follows start now
        (λ d enough. joins (20 * d * was) (20 * d * ((4 * jobs + waiting_count then) - 2 * exits_freely then))
        (spent d enough) (more_pays (orders_of p.version) d jobs most (exits_freely then)
        (waiting_count old.1) (waiting_count then)
        was ((4 * jobs + waiting_count then) - 2 * exits_freely then) (length q.waiting - length p.waiting) before now
        (few_orders p.version) low (omega (arith, low, grown))
        (ap (λ n. n - length p.waiting) (sym (count_waiting q roles_then)
        ∙ same_waiting (course_of k q jobs done) old.0 then reached.follows)
        ∙ ap (λ n. waiting_count then - n) (sym (count_waiting p roles) ∙ same_waiting c old.0 old.1 old.2))
        so_far (freely_so_far jobs then reached.follows.jobs)
        (cost d (let fewer = fewer_wait p in let ready = follows_fewer c old.0 old.1 old.2 in
        omega (arith, enough, fewer, ready))))) where
          joins : (a b : ℕ) → before ≤ start + a → now + a ≤ before + b → now ≤ start + b
          joins a b first second = omega (arith, first, second)

  -- where a tick was the last of them, or none was taken and it held before, they are paid for whatever finishes now
  pub silent_frees : (start : ℕ) → HasPaid (course_of k p jobs done) start before
      → (q.clock ≡ p.clock → HasPaidFreely (course_of k p jobs done) start before)
      → HasPaidFreely (course_of k q jobs done) start now
  silent_frees start paid freely = by_clock (q.clock == p.clock) refl where
    c : Course
    c = course_of k p jobs done

    idles : Idles (bare old.0.rules) old.1 reached.idles.0 then
    idles = idles_over old.0 old.2.valid reached.idles.0 old.1 then old.2.keeps old.2.over reached.idles.1

    by_clock : (b : Bool) → (q.clock == p.clock) ≡ b → HasPaidFreely (course_of k q jobs done) start now
    by_clock true e =
        let spent : HasSpentFreely jobs old.1 start before =
        paid_freely c old.0 old.1 old.2 start before (freely (eqb-true _ _ e)) in
        by_silence start ((4 * jobs + waiting_count old.1) - 2 * exits_freely old.1) (exits_freely old.1)
        (freely_so_far jobs old.1 old.2.jobs)
        (idles_free old.0 old.2.valid old.0.rules reached.idles.0 old.1 then old.2.keeps idles (exits_freely old.1)
        (exits_least old.1) (λ _. omega arith)) spent
    by_clock false e =
        let spent : HasSpentFor jobs old.1 start before = paid_spent c old.0 old.1 old.2 start before paid in
        by_silence start (waits_among jobs old.1) (exits old.1) (so_far_for jobs old.1 old.2.jobs)
        (idles_free old.0 old.2.valid old.0.rules reached.idles.0 old.1 then old.2.keeps idles (exits old.1)
        (omega arith) (λ same. never (sym e ∙ eq-eqb q.clock p.clock
        (sym reached.follows.clock ∙ same ∙ old.2.clock)))) spent

-- a job that finishes costs nothing
pub finish_pays : (k : Fraction) (p : Parted) (jobs done worth : ℕ) → HaveRoles p → (start now : ℕ)
    → HasPaidFreely (course_of k p jobs done) start now
    → HasPaid (course_of k (completed p) jobs (done + worth)) start now
finish_pays k p jobs done worth roles start now paid =
    freely_paid (course_of k (completed p) jobs (done + worth)) start now
    (λ d enough. joins (20 * d * was) (20 * d * is) (paid d enough)
    (mul-le (20 * d) was (20 * d) is (omega arith) grows)) where
      rest : List Task
      rest = option_to_list p.fresh ++ (p.held ++ p.waiting)

      was : ℕ
      was = (4 * jobs + waiting_count (state_of p)) - 2 * exits_freely (state_of p)

      is : ℕ
      is = (4 * jobs + waiting_count (state_at p.clock rest)) - 2 * exits_freely (state_at p.clock rest)

      none_waits : sum_by (λ t. one_if (is_waiting t)) (option_to_list p.running) ≡ 0
      none_waits = sum_zero (λ t. one_if (is_waiting t)) (option_to_list p.running)
          (λ t m. ap one_if (passes is_waiting t Running false (roles.running t m) refl))

      grows : was ≤ is
      grows = by_numbers (waiting_count (state_of p)) (waiting_count (state_at p.clock rest))
          (exits_freely (state_of p)) (exits_freely (state_at p.clock rest))
          (omega (arith, none_waits, sum_by-append (λ t. one_if (is_waiting t)) (option_to_list p.running) rest))
          (omega (arith, sum_by-append (weight exits_scale p.clock 0) (option_to_list p.running) rest)) where
            by_numbers : (w v e f : ℕ) → w ≡ v → f ≤ e → (4 * jobs + w) - 2 * e ≤ (4 * jobs + v) - 2 * f
            by_numbers w v e f same less = omega (arith, same, less)

      joins : (a b : ℕ) → now ≤ start + a → a ≤ b → now ≤ start + b
      joins a b first second = omega (arith, first, second)

-- ---- printed steps

module _ (k : Fraction) (p q : Parted) (jobs done worth : ℕ) (e : Event)
    (prints : open_step (record { ratio = k; version = p.version; finishes = [] }) (state_of p) ≡ Prints e)
    (version : q.version ≡ p.version) (clock : q.clock ≡ p.clock)
    (pressed : q.pressed ≡ pressed_after e p.pressed (ready_of q))
    (leaves : Leaves (change (Prints e)) (ready_of p) (ready_of q) worth)
    (old : IsCourse (course_of k p jobs done)) where
  -- those that begin and cease to wait by a printed step pay for it
  pub printed_pays : (before now : ℕ)
      → ((d : ℕ) → length (ready_of p) + 1 < 2 ^ d
      → now ≤ before + cost_of (orders_of p.version) d (state_of p) (Prints e))
      → (start : ℕ) → HasPaid (course_of k p jobs done) start before
      → HasPaid (course_of k q jobs (done + worth)) start now
  printed_pays before now cost start paid =
      let c : Course = course_of k p jobs done in
      let J : Instance = old.0 in
      let z : State = old.1 in
      let is : open_step (bare J.rules) z ≡ Prints e =
      sym (over_open J.rules z old.2.over) ∙ sym (follows_step k p jobs done J z old.2) ∙ prints in
      spent_paid (course_of k q jobs (done + worth)) J (after z (Prints e))
      (course_takes k p q jobs done worth e prints version clock pressed leaves J z old.2) start now
      (subst (λ m. HasSpentFor jobs (after z m) start now) is
      (spent_on jobs z (after z (open_step (bare J.rules) z)) start before now
      (λ d enough. subst (λ n. now + 20 * d * waits_among n z
      ≤ before + 20 * d * waits_among n (after z (open_step (bare J.rules) z))) old.2.jobs
      (open_pays J old.2.valid J.rules z old.2.keeps (orders_of p.version) d before now (few_orders p.version)
      (subst (λ n. now ≤ before + n)
      (ap (cost_of (orders_of p.version) d (state_of p)) (sym is)
      ∙ cost_whole p (finishing J []) z (follows_part k p jobs done J z old.2) (bare J.rules) (orders_of p.version) d)
      (cost d (let fewer = follows_fewer c J z old.2 in omega (arith, enough, fewer))))))
      (paid_spent c J z old.2 start before paid)))

-- ---- a release

-- the order of jobs is nothing to it
spent_order : (n clock : ℕ) (xs ys : List Task) → IsReordered xs ys → (start now : ℕ)
    → HasSpentFor n (state_at clock xs) start now → HasSpentFor n (state_at clock ys) start now
spent_order n clock xs ys same start now spent = λ d enough.
    subst (λ m. now ≤ start + 20 * d * m) (sym waits) (spent d enough) where
      stood : standing [] ys ≡ standing [] xs
      stood = same.weighs (stands [])

      waits : waits_among n (state_at clock ys) ≡ waits_among n (state_at clock xs)
      waits = ap (λ w. (4 * n + w) - 2 * exits (state_at clock ys)) (same.weighs (λ t. one_if (is_waiting t)))
          ∙ ap (λ e. (4 * n + waiting_count (state_at clock xs)) - 2 * e)
          (ap (λ w. sum_by (weight exits_scale clock w) ys) stood
          ∙ same.weighs (weight exits_scale clock (standing [] xs)))

-- a release costs nothing
pub release_pays : (c : Course) (j : JobFacts) (ready : List Task) → c.clock ≤ j.release
    → IsReordered (c.ready ++ fresh_job c j ∷ []) ready → (start now : ℕ) → HasPaid c start now
    → HasPaid (record (with_release c j c.room) { ready = ready }) start now
release_pays c j ready later same start now paid =
    spent_order (c.jobs + 1) j.release (c.ready ++ fresh_job c j ∷ []) ready same start now
    (spent_more c.jobs (state_of_course c) j.release (fresh_job c j) later (inr refl) start now paid)
