-- The books after a job is abandoned, and after one is completed.
use Rattle.std.proofs.Common.{◌≡◌, ℕ, suc, zero, ◌+◌, ◌*◌, ◌≤◌, ◌<◌, ◌⊎◌, inl, inr, List, [], ◌∷◌, ◌++◌, map}
use Rattle.std.proofs.Common.{refl, sym, ap, ◌∙◌, subst, Bool, true, false, cond, eqb, arith, sum_by, nat_le, not}
use Rattle.std.proofs.Common.{eqb-true, eq-eqb, ne_eqb, ◌&&◌, ◌||◌, le-leb}
use Rattle.std.proofs.lemmas.Bool.{eqb-false}
use Rattle.std.proofs.lemmas.List.Sums.{sum_by-cons}
use Rattle.dover_model.specs.declared.events.Task.{Task}
use Rattle.dover_model.specs.declared.events.Role.{Role}
use Rattle.dover_model.specs.declared.events.Role.TheVariants.{Waiting, Gone}
use Rattle.dover_model.specs.JobFacts.{JobFacts}
use Rattle.dover_model.specs.Fraction.{Fraction}
use Rattle.dover_model.specs.Orders.{is_heavy}
use Rattle.dover_model.specs.Common.{is_privileged, is_done, is_over, left, IsMember, Each, with_role}
use Rattle.dover_model.proofs.bound.Booking.{is_gone}
use Rattle.dover_model.proofs.lists.Tests.{never}
use Rattle.dover_model.proofs.lists.Members.{sum_le, sum_map, on_map}
use Rattle.dover_model.proofs.steps.Roles.{passes}
use Rattle.many_processors.specs.State.{Placed, State}
use Rattle.many_processors.specs.Step.{is_own_of, numbers_from, in_role}
use Rattle.many_processors.specs.Sound.{Keeps}
use Rattle.many_processors.proofs.books.Booked.{own_sum, placed_sum, value_of, number_and_job, comes_to}
use Rattle.many_processors.proofs.books.Booked.{Booked, sum_at}
use Rattle.many_processors.proofs.books.Moved.{StaysFor, own_stays, under_stays}
use Rattle.many_processors.proofs.books.MovedSteps.{not_over, task_stays, off_own}
use Rattle.std.proofs.lemmas.List.Sums.{sum_by-append}
use Rattle.dover_model.specs.Books.{Job, job_value, IsDense}
use Rattle.dover_model.proofs.bound.Counting.{one}
use Rattle.dover_model.proofs.lists.Members.{each_append, each_cons, member_either, member_front, member_behind}
use Rattle.std.proofs.Common.{le-leb}
use Rattle.many_processors.specs.Books.{Interval, Over, job_of, given_at, EndInOrder}
use Rattle.many_processors.proofs.books.Booked.{GoneSoFar, WasBusy, is_light_on, Open, fallen, fallen_value, is_excused}
use Rattle.many_processors.proofs.books.Booked.{excused_fell, excused_on}
use Rattle.many_processors.proofs.books.Booked.{excused_by, fails_too}
use Rattle.many_processors.proofs.books.Moved.{light_grows}
use Rattle.many_processors.proofs.steps.Seeing.{numbers_below}

-- ---- lists

-- an interval that ends last
pub order_last : (closed : List Interval) (c : Interval) → EndInOrder closed → Each (λ i. i.until ≤ c.until) closed
    → EndInOrder (closed ++ c ∷ [])
order_last [] c order low = (λ i member. absurd member, tt)
order_last (i ∷ closed) c order low = (
  each_append (λ other. i.until ≤ other.until) closed (c ∷ []) order.0
      (each_cons (λ other. i.until ≤ other.until) c [] (low i (inl refl)) (λ other member. absurd member)),
  order_last closed c order.1 (λ other member. low other (inr member)),
)

-- a sum with one more at the end
pub sum_last : {X : Type 0} (f : X → ℕ) (xs : List X) (x : X) → sum_by f (xs ++ x ∷ []) ≡ sum_by f xs + f x
sum_last f xs x = omega (arith, sum_by-append f xs (x ∷ []), sum_by-cons f x [])

-- one for each processor
pub all_count : (f : ℕ → ℕ) (q more : ℕ) → Each (λ i. 1 ≤ f i) (numbers_from q more)
    → more ≤ sum_by f (numbers_from q more)
all_count f q zero each = omega arith
all_count f q (suc more) each = omega (
  arith,
  sum_by-cons f q (numbers_from (suc q) more),
  each q (inl refl),
  all_count f (suc q) more (λ i m. each i (inr m)),
)

module _ (k : Fraction) (v w processors : ℕ) (ran : List (List ℕ)) (J : _) (s : State)
    (booked : Booked k v w processors ran s) (keeps : Keeps processors J s)
    (one_job : (p u : Placed) → IsMember p s.jobs → IsMember u s.jobs → p.task.number ≡ u.task.number → p ≡ u)
    (pressed : Bool) (x : Placed) (x_member : IsMember x s.jobs) (x_open : is_over x.task ≡ false) (role : Role)
    (off : (t : Task) → is_privileged (with_role t role) ≡ false)
    (over : (t : Task) → is_over (with_role t role) ≡ true) where
  -- each job afterwards
  abbrev goes : Placed → Placed
  goes p = cond (eqb p.task.number x.task.number) (in_role p role) p

  -- of each job
  pub parts : (P : Placed → Placed → Type 0) → P x (in_role x role)
      → Each (λ p. (p.task.number ≡ x.task.number → ⊥) → P p p) s.jobs → Each (λ p. P p (goes p)) s.jobs
  parts P here others p member = by_test (eqb p.task.number x.task.number) refl where
    by_test : (b : Bool) → eqb p.task.number x.task.number ≡ b → P p (cond b (in_role p role) p)
    by_test true e = subst (λ u. P u (in_role u role)) (sym (one_job p x member x_member (eqb-true _ _ e))) here
    by_test false e = others p member (eqb-false _ _ e)

  pub goes_x : goes x ≡ in_role x role
  goes_x = ap (λ b. cond b (in_role x role) x) (eq-eqb _ _ refl)

  pub goes_other : (p : Placed) → (p.task.number ≡ x.task.number → ⊥) → goes p ≡ p
  goes_other p differs = ap (λ b. cond b (in_role p role) p) (ne_eqb _ _ differs)

  -- a sum over the jobs afterwards
  pub sum_goes : (f : Placed → ℕ) → sum_by f (map goes s.jobs) + f x ≡ sum_by f s.jobs + f (in_role x role)
  sum_goes f = omega (
    arith,
    sum_map goes f s.jobs,
    sum_at (λ p. f (goes p)) f 0 s.jobs x (keeps.sound 0).numbered x_member
        (λ p member differs. ap f (goes_other p differs)),
    ap f goes_x,
  )

  -- it is no processor's own
  pub gone_own : (q : ℕ) → is_own_of q (in_role x role) ≡ false
  gone_own q = off_own q (in_role x role) (off x.task)

  -- who is excused
  pub excused_goes : (way more : ℕ → Open) (fell : ℕ → Bool)
      → Each (λ p. is_privileged p.task ≡ true → (way p.owner).took ≡ false → (more p.owner).took ≡ false) s.jobs
      → Each (λ p. is_excused way fell p ≡ true → is_excused more fell p ≡ true) s.jobs
  excused_goes way more fell calm p member e = by_excuse (excused_by way fell p e) where
    by_excuse : (fell p.task.number ≡ true) ⊎ ((is_privileged p.task ≡ true) × ((way p.owner).took ≡ false))
        → is_excused more fell p ≡ true
    by_excuse (inl f) = excused_fell more fell p f
    by_excuse (inr it) = excused_on more fell p it.0 (calm p member it.0 it.1)

  module _ (way more : ℕ → Open) (fell : ℕ → Bool)
      (calm : Each (λ p. is_privileged p.task ≡ true → (way p.owner).took ≡ false → (more p.owner).took
      ≡ false) s.jobs) where
    -- the jobs under way that had a tick have it
    busy_jobs : (τ : ℕ) → Each (λ p. is_over p.task ≡ false → is_excused way fell p ≡ false → p.task.job.release ≤ τ
        → IsMember p.task.number (given_at ran τ)) s.jobs
        → Each (λ p. is_over p.task ≡ false → is_excused more fell p ≡ false → p.task.job.release ≤ τ
        → IsMember p.task.number (given_at ran τ)) (map goes s.jobs)
    busy_jobs τ it = on_map goes (λ p. is_over p.task ≡ false → is_excused more fell p ≡ false → p.task.job.release ≤ τ
        → IsMember p.task.number (given_at ran τ)) s.jobs
        (parts (λ p u. is_over u.task ≡ false → is_excused more fell u ≡ false → u.task.job.release ≤ τ
        → IsMember u.task.number (given_at ran τ))
        (λ e asked came. never (sym e ∙ over x.task))
        (λ p member differs e asked came. it p member e
        (fails_too (is_excused way fell p) (is_excused more fell p) (excused_goes way more fell calm p member)
        asked) came))

    -- as it was over before: the busy ticks
    pub busy_before : (overs : List Over) (τ : ℕ) → WasBusy processors ran way fell s.jobs overs τ
        → WasBusy processors ran more fell (map goes s.jobs) overs τ
    busy_before overs τ (inl full) = inl full
    busy_before overs τ (inr it) = inr (busy_jobs τ it.0, it.1)

    -- and with one more that is over
    pub busy_over : (fronts rest : List Over) (o : Over) → o.number ≡ x.task.number → o.job ≡ x.task.job
        → is_excused way fell x ≡ false → (τ : ℕ) → WasBusy processors ran way fell s.jobs (fronts ++ rest) τ
        → WasBusy processors ran more fell (map goes s.jobs) (o ∷ (fronts ++ rest)) τ
    busy_over fronts rest o same_number same_job asked τ (inl full) = inl full
    busy_over fronts rest o same_number same_job asked τ (inr it) = inr (
      busy_jobs τ it.0,
      each_cons (λ y. y.job.release ≤ τ → τ < y.at → IsMember y.number (given_at ran τ)) o (fronts ++ rest)
          (λ came before. subst (λ n. IsMember n (given_at ran τ)) (sym same_number)
          (it.0 x x_member x_open asked (subst (λ (j : JobFacts). j.release ≤ τ) same_job came))) it.1,
    )

  -- what fell and is under way
  pub fallen_goes : (fell : ℕ → Bool) → fallen fell (map goes s.jobs) + cond (fell x.task.number) (value_of x) 0
      ≡ fallen fell s.jobs
  fallen_goes fell = omega (
    arith,
    sum_goes (fallen_value fell),
    ap (λ b. cond b 0 (cond (fell x.task.number) (value_of x) 0)) x_open,
    ap (λ b. cond b 0 (cond (fell x.task.number) (value_of x) 0)) (over x.task),
  )

  -- processors whose own it wasn't
  pub stays_beside : (q : ℕ) → is_own_of q x ≡ false → Each (StaysFor q goes) s.jobs
  stays_beside q not_own = parts (λ p u. ((is_own_of q p ≡ true) × (u.task ≡ p.task) × (u.owner ≡ p.owner))
      ⊎ ((is_own_of q p ≡ false) × (is_own_of q u ≡ false))) (inr (not_own, gone_own q))
      (λ p member differs. task_stays q (λ u. u) p refl refl)

  -- the order of the lists of those that are over is nothing to the busy ticks
  pub busy_swapped : (way : ℕ → Open) (fell : ℕ → Bool) (jobs : List Placed) (fronts rest : List Over) (o : Over)
      (τ : ℕ)
      → WasBusy processors ran way fell jobs (o ∷ (fronts ++ rest)) τ
      → WasBusy processors ran way fell jobs (fronts ++ (o ∷ rest)) τ
  busy_swapped way fell jobs fronts rest o τ (inl full) = inl full
  busy_swapped way fell jobs fronts rest o τ (inr it) = inr
      (it.0, λ y member. it.1 y (moved (member_either fronts (o ∷ rest) y member)))
    where
      moved : {y : Over} → IsMember y fronts ⊎ ((y ≡ o) ⊎ IsMember y rest) → (y ≡ o) ⊎ IsMember y (fronts ++ rest)
      moved {y} (inl m) = inr (member_front fronts rest y m)
      moved {y} (inr (inl e)) = inl e
      moved {y} (inr (inr m)) = inr (member_behind fronts rest y m)

-- ---- a job is abandoned

module _ (k : Fraction) (v w processors : ℕ) (ran : List (List ℕ)) (J : _) (s : State)
    (booked : Booked k v w processors ran s) (keeps : Keeps processors J s)
    (one_job : (p u : Placed) → IsMember p s.jobs → IsMember u s.jobs → p.task.number ≡ u.task.number → p ≡ u)
    (pressed : Bool) (x : Placed) (x_member : IsMember x s.jobs) (x_waits : x.task.role ≡ Waiting)
    (now : s.clock + left x.task ≡ x.task.job.deadline) (dense : IsDense k v w x.task.job)
    (light : (q : ℕ) → q < processors → ((booked.way q).lasts ≡ true) × ((booked.way q).from ≤ s.clock)
    × (is_heavy k x.task.job.value (comes_to booked.way s.jobs q) ≡ false)) where
  abbrev leaves : Placed → Placed
  leaves p = cond (eqb p.task.number x.task.number) (in_role p Gone) p

  -- the job that is over
  abbrev lost_one : Over
  lost_one = record { number = x.task.number; job = x.task.job; at = s.clock; had = x.task.had }

  x_off : (q : ℕ) → is_own_of q x ≡ false
  x_off q = off_own q x (passes is_privileged x.task Waiting false x_waits refl)

  not_past : is_over x.task ≡ false
  not_past = passes is_over x.task Waiting false x_waits refl

  stays : (q : ℕ) → Each (StaysFor q leaves) s.jobs
  stays q = stays_beside k v w processors ran J s booked keeps one_job pressed x x_member not_past Gone (λ t. refl)
      (λ t. refl) q (x_off q)

  same_comes : (q : ℕ) → own_sum q value_of (map leaves s.jobs) ≡ own_sum q value_of s.jobs
  same_comes q = own_stays q leaves (λ t. t.job.value) s.jobs (stays q)

  low : (q : ℕ) → IsMember q (numbers_from 0 processors) → q < processors
  low q member = omega (arith, (numbers_below q 0 processors member).1)

  sums : (f : Placed → ℕ) → sum_by f (map leaves s.jobs) + f x ≡ sum_by f s.jobs + f (in_role x Gone)
  sums = sum_goes k v w processors ran J s booked keeps one_job pressed x x_member not_past Gone (λ t. refl)
      (λ t. refl)

  -- the books, with the job among those that are abandoned, or among those that fell
  module _ (gone : List Over) (missed : List Job)
      (gone_new : (f : Job → ℕ) → sum_by (λ o. f (job_of o)) gone + sum_by f missed
      ≡ sum_by (λ o. f (job_of o)) booked.gone + sum_by f booked.missed + f (number_and_job x))
      (missed_new : sum_by job_value missed ≤ sum_by job_value booked.missed
      + cond (booked.fell x.task.number) (value_of x) 0)
      (busy_new : (τ : ℕ) → WasBusy processors ran booked.way booked.fell s.jobs (booked.taken ++ booked.gone) τ
      → WasBusy processors ran booked.way booked.fell (map leaves s.jobs) (booked.taken ++ gone) τ)
      (gone_are : Each (GoneSoFar k v w processors booked.closed booked.way s.clock s.jobs) booked.gone
      → GoneSoFar k v w processors booked.closed booked.way s.clock (map leaves s.jobs) lost_one
      → Each (GoneSoFar k v w processors booked.closed booked.way s.clock (map leaves s.jobs)) booked.gone
      → Each (GoneSoFar k v w processors booked.closed booked.way s.clock (map leaves s.jobs)) gone) where
    goes_booked : Booked k v w processors ran (record { clock = s.clock; jobs = map leaves s.jobs; pressed = pressed })
    goes_booked = record {
      closed = booked.closed;
      way = booked.way;
      regular = booked.regular;
      taken = booked.taken;
      gone = gone;
      fell = booked.fell;
      lost = booked.lost;
      missed = missed;
      ticks = booked.ticks;
      in_order = booked.in_order;
      ended = booked.ended;
      paid = booked.paid;
      under = λ q less. under_stays k q s.clock s.jobs leaves (booked.way q) (stays q) (booked.under q less);
      done_sum = λ f. omega (
        arith,
        booked.done_sum f,
        sums (λ p. cond (is_done p.task) (f (number_and_job p)) 0),
        ap (λ b. cond b (f (number_and_job x)) 0) (not_over x.task not_past).0,
      );
      gone_sum = λ f. omega (
        arith,
        booked.gone_sum f,
        sums (λ p. cond (is_gone p.task) (f (number_and_job p)) 0),
        ap (λ b. cond b (f (number_and_job x)) 0) (not_over x.task not_past).1,
        gone_new f,
      );
      regular_sum = booked.regular_sum;
      taken_sum = booked.taken_sum;
      fallen_sum = omega (
        arith,
        booked.fallen_sum,
        missed_new,
        fallen_goes k v w processors ran J s booked keeps one_job pressed x x_member not_past Gone (λ t. refl)
            (λ t. refl)
            booked.fell,
      );
      covered = booked.covered;
      busy = λ τ before. busy_new τ (booked.busy τ before);
      ticks_paid = omega (
        arith,
        booked.ticks_paid,
        ap (λ n. v * n) same_placed,
      );
      taken_are = booked.taken_are;
      gone_are = gone_are booked.gone_are new_gone old_gone;
    } where
      same_placed : placed_sum (λ p. p.task.had) (map leaves s.jobs) ≡ placed_sum (λ p. p.task.had) s.jobs
      same_placed = omega (
        arith,
        sums (λ p. cond (is_privileged p.task) p.task.had 0),
        ap (λ b. cond b x.task.had 0) (passes is_privileged x.task Waiting false x_waits refl),
      )

      is_light : (q : ℕ) → q < processors → 1 ≤ one (is_light_on k booked.way (map leaves s.jobs) lost_one q)
      is_light q less = let it = light q less in
          all_three (booked.way q).lasts (nat_le (booked.way q).from s.clock)
          (is_heavy k x.task.job.value (comes_to booked.way (map leaves s.jobs) q)) it.0 (le-leb _ _ it.1)
          (ap (λ n. is_heavy k x.task.job.value ((booked.way q).regular + n)) (same_comes q) ∙ it.2) where
            all_three : (a b c : Bool) → a ≡ true → b ≡ true → c ≡ false → 1 ≤ one ((a && b) && not c)
            all_three true true false e f g = omega arith
            all_three true true true e f g = never (sym g)
            all_three true false c e f g = never f
            all_three false b c e f g = never e

      new_gone : GoneSoFar k v w processors booked.closed booked.way s.clock (map leaves s.jobs) lost_one
      new_gone = record {
        light = omega (
          arith,
          all_count (λ q. one (is_light_on k booked.way (map leaves s.jobs) lost_one q)) 0 processors
              (λ q m. is_light q (low q m)),
        );
        reach = omega (arith, now);
        dense = dense;
        before = omega arith;
      }

      old_gone : Each (GoneSoFar k v w processors booked.closed booked.way s.clock (map leaves s.jobs)) booked.gone
      old_gone o member = let it = booked.gone_are o member in record {
        light = omega (
          arith,
          it.light,
          sum_le (λ q. one (is_light_on k booked.way s.jobs o q))
              (λ q. one (is_light_on k booked.way (map leaves s.jobs) o q)) (numbers_from 0 processors)
              (λ q m. light_grows k booked.way booked.way s.jobs (map leaves s.jobs) o q
              (λ e. (e, refl, omega (arith, same_comes q)))),
        );
        reach = it.reach;
        dense = it.dense;
        before = it.before;
      }

  pub gone_booked : Booked k v w processors ran
      (record { clock = s.clock; jobs = map leaves s.jobs; pressed = pressed })
  gone_booked = by_fell (booked.fell x.task.number) refl where
    x_on_none : is_privileged x.task ≡ false
    x_on_none = passes is_privileged x.task Waiting false x_waits refl

    asked : booked.fell x.task.number ≡ false → is_excused booked.way booked.fell x ≡ false
    asked e = ap (λ b. b || (is_privileged x.task && not (booked.way x.owner).took)) e
        ∙ ap (λ b. b && not (booked.way x.owner).took) x_on_none

    by_fell : (b : Bool) → booked.fell x.task.number ≡ b
        → Booked k v w processors ran (record { clock = s.clock; jobs = map leaves s.jobs; pressed = pressed })
    by_fell false e = goes_booked (lost_one ∷ booked.gone) booked.missed
        (λ f. omega (arith, sum_by-cons (λ (o : Over). f (job_of o)) lost_one booked.gone))
        (omega arith)
        (λ τ was. busy_swapped k v w processors ran J s booked keeps one_job pressed x x_member not_past Gone
        (λ t. refl) (λ t. refl) booked.way booked.fell (map leaves s.jobs) booked.taken booked.gone lost_one τ
        (busy_over k v w processors ran J s booked keeps one_job pressed x x_member not_past Gone (λ t. refl)
        (λ t. refl)
        booked.way booked.way booked.fell (λ p member on calm. calm)
        booked.taken booked.gone lost_one refl refl (asked e) τ was))
        (λ all new old. each_cons (GoneSoFar k v w processors booked.closed booked.way s.clock (map leaves s.jobs))
        lost_one
        booked.gone new old)
    by_fell true e = goes_booked booked.gone (number_and_job x ∷ booked.missed)
        (λ f. omega (arith, sum_by-cons f (number_and_job x) booked.missed))
        (omega (
          arith,
          sum_by-cons job_value (number_and_job x) booked.missed,
          ap (λ b. cond b (value_of x) 0) e,
        ))
        (λ τ was. busy_before k v w processors ran J s booked keeps one_job pressed x x_member not_past Gone
        (λ t. refl) (λ t. refl) booked.way booked.way booked.fell (λ p member on calm. calm)
        (booked.taken ++ booked.gone) τ was)
        (λ all new old. old)
