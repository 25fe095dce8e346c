-- The books after each step that completes and abandons nothing.
use Rattle.std.proofs.Common.{◌≡◌, ℕ, ◌+◌, ◌*◌, ◌≤◌, ◌<◌, ◌⊎◌, inl, inr, List, [], ◌∷◌, map}
use Rattle.std.proofs.Common.{refl, sym, ap, ◌∙◌, subst, Bool, true, false, cond, eqb, arith, sum_by}
use Rattle.std.proofs.Common.{eqb-true, eq-eqb, ne_eqb, ◌&&◌, ◌==◌}
use Rattle.std.proofs.lemmas.Bool.{eqb-false}
use Rattle.std.proofs.lemmas.List.Sums.{sum_by-cons}
use Rattle.std.proofs.Math.Nat.{mul-le-mul_left}
use Rattle.dover_model.specs.declared.events.Event.TheVariants.{Run, End}
use Rattle.dover_model.specs.declared.events.Task.{Task}
use Rattle.dover_model.specs.declared.events.Role.{Role}
use Rattle.dover_model.specs.declared.events.Role.TheVariants.{Coming, Fresh, Waiting, Held, Running, Done, Gone}
use Rattle.dover_model.specs.JobFacts.{JobFacts}
use Rattle.dover_model.specs.Fraction.{Fraction}
use Rattle.dover_model.specs.Common.{is_privileged, is_done, is_over, left, IsMember, Each, with_role}
use Rattle.dover_model.proofs.bound.Booking.{is_gone}
use Rattle.dover_model.proofs.lists.Tests.{never}
use Rattle.dover_model.proofs.lists.Members.{map_member, sum_le, sum_same, sum_map}
use Rattle.many_processors.specs.State.{Placed, State}
use Rattle.many_processors.specs.Step.{is_own_of, numbers_from, placed_after, in_role, placed_on}
use Rattle.many_processors.specs.Sound.{Keeps}
use Rattle.many_processors.proofs.books.Booked.{Open, own_sum, placed_sum, value_of}
use Rattle.many_processors.proofs.books.Booked.{Under, Booked, is_excused, excused_fell, excused_on, excused_by}
use Rattle.many_processors.proofs.books.Moved.{StaysFor, own_same, own_stays, under_stays, SameBooks, StaysExcused}
use Rattle.many_processors.proofs.books.Moved.{same_fallen, moved_booked}

-- ---- one job

-- who isn't over is neither done nor gone
pub not_over : (t : Task) → is_over t ≡ false → (is_done t ≡ false) × (is_gone t ≡ false)
not_over t = each t.role where
  each : (role : Role) → is_over (with_role t role) ≡ false
      → (is_done (with_role t role) ≡ false) × (is_gone (with_role t role) ≡ false)
  each Coming e = (refl, refl)
  each Fresh e = (refl, refl)
  each Waiting e = (refl, refl)
  each Held e = (refl, refl)
  each Running e = (refl, refl)
  each Done e = never (sym e)
  each Gone e = never (sym e)

-- a job in another role, of which neither is over
pub role_books : (h : Placed → Placed) (p : Placed) (role : Role) → (h p).task ≡ with_role p.task role
    → is_over p.task ≡ false → is_over (with_role p.task role) ≡ false → SameBooks h p
role_books h p role is old new = record {
  number = ap (λ (t : Task). t.number) is;
  job = ap (λ (t : Task). t.job) is;
  done = ap is_done is ∙ (not_over (with_role p.task role) new).0 ∙ sym (not_over p.task old).0;
  gone = ap is_gone is ∙ (not_over (with_role p.task role) new).1 ∙ sym (not_over p.task old).1;
  over = ap is_over is ∙ new ∙ sym old;
}

-- a job that is the same task
pub task_books : (h : Placed → Placed) (p : Placed) → (h p).task ≡ p.task → SameBooks h p
task_books h p is = record {
  number = ap (λ (t : Task). t.number) is;
  job = ap (λ (t : Task). t.job) is;
  done = ap is_done is;
  gone = ap is_gone is;
  over = ap is_over is;
}

-- it stays where it is
pub task_stays : (q : ℕ) (h : Placed → Placed) (p : Placed) → (h p).task ≡ p.task → (h p).owner ≡ p.owner
    → StaysFor q h p
task_stays q h p same_task same_owner = by_test (is_own_of q p) refl where
  by_test : (b : Bool) → is_own_of q p ≡ b → StaysFor q h p
  by_test true e = inl (e, same_task, same_owner)
  by_test false e = inr (e, own_same q p (h p) same_task same_owner ∙ e)

-- who is on no processor is none's own
pub off_own : (q : ℕ) (p : Placed) → is_privileged p.task ≡ false → is_own_of q p ≡ false
off_own q p off = ap (λ b. b && p.owner == q) off

-- who is another's isn't its own
pub other_own : (q i : ℕ) (p : Placed) → p.owner ≡ i → (i ≡ q → ⊥) → is_own_of q p ≡ false
other_own q i p own other = last (is_privileged p.task) (p.owner == q) (ne_eqb _ _ (λ e. other (sym own ∙ e))) where
  last : (a b : Bool) → b ≡ false → (a && b) ≡ false
  last true false e = refl
  last false b e = refl
  last true true e = never (sym e)

-- ---- sums

-- with the same jobs and more of them a processor's sum grows
pub own_grows : (q : ℕ) (h : Placed → Placed) (jobs : List Placed)
    → Each (λ p. (h p).task.job ≡ p.task.job) jobs → Each (λ p. is_own_of q p ≡ true → is_own_of q (h p) ≡ true) jobs
    → own_sum q value_of jobs ≤ own_sum q value_of (map h jobs)
own_grows q h jobs same more = omega (
  arith,
  sum_map h (λ p. cond (is_own_of q p) (value_of p) 0) jobs,
  sum_le (λ p. cond (is_own_of q p) (value_of p) 0) (λ p. cond (is_own_of q (h p)) (value_of (h p)) 0) jobs
      (λ p member. by_own (is_own_of q p) (is_own_of q (h p)) (value_of p) (value_of (h p))
      (ap (λ (j : JobFacts). j.value) (same p member)) (more p member)),
) where
  by_own : (a b : Bool) (m n : ℕ) → n ≡ m → (a ≡ true → b ≡ true) → cond a m 0 ≤ cond b n 0
  by_own false b m n e f = omega arith
  by_own true true m n e f = omega (arith, e)
  by_own true false m n e f = never (f refl)

-- so does that of what jobs on processors had
pub placed_grows : (h : Placed → Placed) (jobs : List Placed) → Each (λ p. (h p).task.had ≡ p.task.had) jobs
    → Each (λ p. is_privileged p.task ≡ true → is_privileged (h p).task ≡ true) jobs
    → placed_sum (λ p. p.task.had) jobs ≤ placed_sum (λ p. p.task.had) (map h jobs)
placed_grows h jobs same more = omega (
  arith,
  sum_map h (λ p. cond (is_privileged p.task) p.task.had 0) jobs,
  sum_le (λ p. cond (is_privileged p.task) p.task.had 0) (λ p. cond (is_privileged (h p).task) (h p).task.had 0) jobs
      (λ p member. by_on (is_privileged p.task) (is_privileged (h p).task) p.task.had (h p).task.had (same p member)
      (more p member)),
) where
  by_on : (a b : Bool) (m n : ℕ) → n ≡ m → (a ≡ true → b ≡ true) → cond a m 0 ≤ cond b n 0
  by_on false b m n e f = omega arith
  by_on true true m n e f = omega (arith, e)
  by_on true false m n e f = never (f refl)

-- terms that are paid by two others
pub sum_paid : {X : Type 0} (v w : ℕ) (f g h : X → ℕ) (xs : List X) → Each (λ x. v * f x ≤ v * g x + w * h x) xs
    → v * sum_by f xs ≤ v * sum_by g xs + w * sum_by h xs
sum_paid v w f g h [] all = omega arith
sum_paid v w f g h (x ∷ xs) all = omega (
  arith,
  ap (λ n. v * n) (sum_by-cons f x xs),
  ap (λ n. v * n) (sum_by-cons g x xs),
  ap (λ n. w * n) (sum_by-cons h x xs),
  all x (inl refl),
  sum_paid v w f g h xs (λ y m. all y (inr m)),
)

-- what processor i does, and the others
abbrev pub at_one : {X : Type 0} → ℕ → X → (ℕ → X) → ℕ → X
at_one i here others q = cond (eqb i q) here (others q)

-- of each processor
pub on_each : {X : Type 0} (P : ℕ → X → Type 0) (i : ℕ) (here : X) (others : ℕ → X) → P i here
    → ((q : ℕ) → (i ≡ q → ⊥) → P q (others q)) → (q : ℕ) → P q (at_one i here others q)
on_each P i here others one rest q = by_test (eqb i q) refl where
  by_test : (b : Bool) → eqb i q ≡ b → P q (cond b here (others q))
  by_test true e = subst (λ n. P n here) (eqb-true _ _ e) one
  by_test false e = rest q (eqb-false _ _ e)

-- ---- steps that leave all on processors as it is

module _ (k : Fraction) (v w processors : ℕ) (ran : List (List ℕ)) (s : State)
    (booked : Booked k v w processors ran s) where
  -- where each job stays for each processor
  pub quiet_booked : (h : Placed → Placed) (pressed : Bool) → Each (SameBooks h) s.jobs
      → ((q : ℕ) → Each (StaysFor q h) s.jobs) → Each (λ p. (h p).task.had ≡ p.task.had) s.jobs
      → Each (λ p. is_privileged p.task ≡ true → is_privileged (h p).task ≡ true) s.jobs
      → Booked k v w processors ran (record { clock = s.clock; jobs = map h s.jobs; pressed = pressed })
  quiet_booked h pressed same stays had on = moved_booked k v w processors ran s booked h pressed booked.way
      booked.fell same (λ p member. excused p member)
      (omega (arith, same_fallen booked.fell h s.jobs same))
      (λ q low. under_stays k q s.clock s.jobs h (booked.way q) (stays q) (booked.under q low))
      (λ q low. refl) (λ q low e. inl (e, refl))
      (λ q low e. (e, refl, omega (arith, own_stays q h (λ t. t.job.value) s.jobs (stays q))))
      (let times : v * placed_sum (λ p. p.task.had) s.jobs ≤ v * placed_sum (λ p. p.task.had) (map h s.jobs) =
      mul-le-mul_left v (placed_grows h s.jobs had on) in omega (arith, times)) where
        excused : Each (StaysExcused booked.way booked.way booked.fell booked.fell h) s.jobs
        excused p member e = by_excuse (excused_by booked.way booked.fell p e) where
          by_excuse : (booked.fell p.task.number ≡ true)
              ⊎ ((is_privileged p.task ≡ true) × ((booked.way p.owner).took ≡ false))
              → is_excused booked.way booked.fell (h p) ≡ true
          by_excuse (inl f) = excused_fell booked.way booked.fell (h p) (ap booked.fell (same p member).number ∙ f)
          by_excuse (inr it) = by_stay (stays p.owner p member) where
            by_stay : StaysFor p.owner h p → is_excused booked.way booked.fell (h p) ≡ true
            by_stay (inl x) = excused_on booked.way booked.fell (h p) (on p member it.0)
                (ap (λ n. (booked.way n).took) x.2 ∙ it.1)
            by_stay (inr x) = never (sym x.0 ∙ ap (λ b. b && p.owner == p.owner) it.0 ∙ eq-eqb p.owner p.owner refl)

  -- the job of number n in another role, where neither role is on a processor or over
  pub off_booked : (n : ℕ) (role : Role) (pressed : Bool)
      → ((t : Task) → (is_privileged (with_role t role) ≡ false) × (is_over (with_role t role) ≡ false))
      → Each (λ p. p.task.number ≡ n → (is_privileged p.task ≡ false) × (is_over p.task ≡ false)) s.jobs
      → Booked k v w processors ran (record {
        clock = s.clock;
        jobs = map (λ p. cond (eqb p.task.number n) (in_role p role) p) s.jobs;
        pressed = pressed;
      })
  off_booked n role pressed new old = quiet_booked (λ p. cond (eqb p.task.number n) (in_role p role) p) pressed
      (λ p member. by_books p member (eqb p.task.number n) refl)
      (λ q p member. by_stay q p member (eqb p.task.number n) refl) (λ p member. by_had p (eqb p.task.number n))
      (λ p member. by_on p member (eqb p.task.number n) refl) where
        h : Placed → Placed
        h p = cond (eqb p.task.number n) (in_role p role) p

        by_had : (p : Placed) (b : Bool) → (cond b (in_role p role) p).task.had ≡ p.task.had
        by_had p true = refl
        by_had p false = refl

        by_books : (p : Placed) → IsMember p s.jobs → (b : Bool) → eqb p.task.number n ≡ b
            → SameBooks (λ p. cond (eqb p.task.number n) (in_role p role) p) p
        by_books p member true e = role_books (λ p. cond (eqb p.task.number n) (in_role p role) p) p role
            (ap (λ b. (cond b (in_role p role) p).task) e) (old p member (eqb-true _ _ e)).1 (new p.task).1
        by_books p member false e = task_books (λ p. cond (eqb p.task.number n) (in_role p role) p) p
            (ap (λ b. (cond b (in_role p role) p).task) e)

        by_stay : (q : ℕ) (p : Placed) → IsMember p s.jobs → (b : Bool) → eqb p.task.number n ≡ b
            → StaysFor q (λ p. cond (eqb p.task.number n) (in_role p role) p) p
        by_stay q p member true e = inr (
          off_own q p (old p member (eqb-true _ _ e)).0,
          ap (λ b. is_own_of q (cond b (in_role p role) p)) e ∙ off_own q (in_role p role) (new p.task).0,
        )
        by_stay q p member false e = task_stays q (λ p. cond (eqb p.task.number n) (in_role p role) p) p
            (ap (λ b. (cond b (in_role p role) p).task) e) (ap (λ b. (cond b (in_role p role) p).owner) e)

        by_on : (p : Placed) → IsMember p s.jobs → (b : Bool) → eqb p.task.number n ≡ b → is_privileged p.task ≡ true
            → is_privileged (cond (eqb p.task.number n) (in_role p role) p).task ≡ true
        by_on p member true e on = never (sym (old p member (eqb-true _ _ e)).0 ∙ on)
        by_on p member false e on = ap (λ b. is_privileged (cond b (in_role p role) p).task) e ∙ on

  -- no change
  pub same_booked : (i value : ℕ) (pressed : Bool) → Booked k v w processors ran
      (record { clock = s.clock; jobs = map (placed_after i (End value)) s.jobs; pressed = pressed })
  same_booked i value pressed = quiet_booked (placed_after i (End value)) pressed
      (λ p member. task_books (placed_after i (End value)) p refl)
      (λ q p member. task_stays q (placed_after i (End value)) p refl refl) (λ p member. refl) (λ p member on. on)

-- ---- steps on processor i

-- an interval that begins, where none is under way
abbrev pub begun : ℕ → Open → Open
begun clock o = cond o.lasts o
    (record { lasts = true; from = clock; regular = 0; displaced = 0; first = 0; took = false })

module _ (k : Fraction) (v w processors : ℕ) (ran : List (List ℕ)) (J : _) (s : State)
    (booked : Booked k v w processors ran s) (keeps : Keeps processors J s)
    (some_left : Each (λ p. is_privileged p.task ≡ true → 1 ≤ left p.task) s.jobs)
    (one_job : (p u : Placed) → IsMember p s.jobs → IsMember u s.jobs → p.task.number ≡ u.task.number → p ≡ u)
    (i : ℕ) (i_low : i < processors) (x : Placed) (x_member : IsMember x s.jobs) where
  -- of each job, by whether it is x
  by_x : (P : Placed → Bool → Type 0) → P x true → Each (λ p. (p.task.number ≡ x.task.number → ⊥) → P p false) s.jobs
      → Each (λ p. P p (eqb p.task.number x.task.number)) s.jobs
  by_x P here others p member = by_test (eqb p.task.number x.task.number) refl where
    by_test : (b : Bool) → eqb p.task.number x.task.number ≡ b → P p b
    by_test true e = subst (λ u. P u true) (sym (one_job p x member x_member (eqb-true _ _ e))) here
    by_test false e = others p member (eqb-false _ _ e)

  module _ (at : ℕ) (pressed : Bool) (not_past : is_over x.task ≡ false)
      (mine : (is_privileged x.task ≡ true) → x.owner ≡ i)
      (free : Each (λ p. p.task.role ≡ Running → p.owner ≡ i → ⊥) s.jobs) where
    -- each job afterwards
    abbrev gets : Placed → Placed
    gets = placed_after i (Run at x.task.number)

    -- another job is the same
    plain : (p : Placed) (b : Bool) → ((cond b (placed_on i p) p).task ≡ cond b (with_role p.task Running) p.task)
        × ((cond b (placed_on i p) p).owner ≡ cond b i p.owner)
    plain p true = (refl, refl)
    plain p false = (refl, refl)

    gets_task : (p : Placed) → (gets p).task ≡ cond (eqb p.task.number x.task.number) (with_role p.task Running) p.task
    gets_task p = (plain p (eqb p.task.number x.task.number)).0

    gets_owner : (p : Placed) → (gets p).owner ≡ cond (eqb p.task.number x.task.number) i p.owner
    gets_owner p = (plain p (eqb p.task.number x.task.number)).1

    -- x is on processor i
    x_own : is_own_of i (gets x) ≡ true
    x_own = own_same i (placed_on i x) (gets x)
        (gets_task x ∙ ap (λ b. cond b (with_role x.task Running) x.task) (eq-eqb _ _ refl))
        (gets_owner x ∙ ap (λ b. cond b i x.owner) (eq-eqb _ _ refl)) ∙ eq-eqb i i refl

    -- the others stay on it
    own_stays_on : Each (λ p. is_own_of i p ≡ true → is_own_of i (gets p) ≡ true) s.jobs
    own_stays_on p member own = by_test (eqb p.task.number x.task.number) refl where
      by_test : (b : Bool) → eqb p.task.number x.task.number ≡ b → is_own_of i (gets p) ≡ true
      by_test true e = subst (λ u. is_own_of i (gets u) ≡ true) (sym (one_job p x member x_member (eqb-true _ _ e)))
          x_own
      by_test false e = own_same i p (gets p) (gets_task p ∙ ap (λ b. cond b (with_role p.task Running) p.task) e)
          (gets_owner p ∙ ap (λ b. cond b i p.owner) e) ∙ own

    -- nothing changes on the others
    others_stay : (q : ℕ) → (i ≡ q → ⊥) → Each (StaysFor q gets) s.jobs
    others_stay q other p member = by_test (eqb p.task.number x.task.number) refl where
      by_test : (b : Bool) → eqb p.task.number x.task.number ≡ b → StaysFor q gets p
      by_test true e = subst (StaysFor q gets) (sym (one_job p x member x_member (eqb-true _ _ e)))
          (inr (
            was (is_privileged x.task) refl,
            other_own q i (gets x)
                (gets_owner x ∙ ap (λ b. cond b i x.owner) (eq-eqb _ _ refl)) other,
          )) where
            was : (b : Bool) → is_privileged x.task ≡ b → is_own_of q x ≡ false
            was true on = other_own q i x (mine on) other
            was false off = off_own q x off
      by_test false e = task_stays q gets p (gets_task p ∙ ap (λ b. cond b (with_role p.task Running) p.task) e)
          (gets_owner p ∙ ap (λ b. cond b i p.owner) e)

    -- what is under way afterwards
    abbrev run_way : ℕ → Open
    run_way = at_one i (begun s.clock (booked.way i)) booked.way

    -- on processor i
    run_under : Under k i s.clock (map gets s.jobs) (begun s.clock (booked.way i))
    run_under = by_lasts (booked.way i) (booked.under i i_low) where
      x_there : (p : Placed) × IsMember p (map gets s.jobs) × (is_own_of i p ≡ true)
      x_there = (gets x, map_member gets s.jobs x x_member, x_own)

      by_lasts : (o : Open) → Under k i s.clock s.jobs o → Under k i s.clock (map gets s.jobs) (begun s.clock o)
      by_lasts o it = by_test o.lasts refl where
        -- a job that took it would run
        no_taker : o.took ≡ true → ⊥
        no_taker e = let t = it.taker e in free t.job t.member t.runs t.owner

        by_test : (b : Bool) → o.lasts ≡ b → Under k i s.clock (map gets s.jobs) (cond b o
            (record { lasts = true; from = s.clock; regular = 0; displaced = 0; first = 0; took = false }))
        by_test true e = record {
          none = λ f. never (sym f ∙ e);
          some = λ _. ((it.some e).0, x_there);
          calm = it.calm;
          taker = λ f. absurd (no_taker f);
        }
        by_test false e = record {
          none = λ f. never (sym f);
          some = λ _. (omega arith, x_there);
          calm = λ _. (refl, refl);
          taker = λ f. never f;
        }

    -- a job that begins on processor i, or goes on there
    pub run_booked : Booked k v w processors ran
        (record { clock = s.clock; jobs = map (placed_after i (Run at x.task.number)) s.jobs; pressed = pressed })
    run_booked = moved_booked k v w processors ran s booked gets pressed run_way booked.fell
        (λ p member. by_books p member (eqb p.task.number x.task.number) refl) (λ p member. excused p member)
        (omega (
          arith,
          same_fallen booked.fell gets s.jobs (λ p member. by_books p member (eqb p.task.number x.task.number)
              refl),
          same_first,
        ))
        (λ q low. on_each (λ q o. q < processors → Under k q s.clock (map gets s.jobs) o) i
        (begun s.clock (booked.way i)) booked.way (λ _. run_under)
        (λ q other low. under_stays k q s.clock s.jobs gets (booked.way q) (others_stay q other)
        (booked.under q low)) q low)
        (λ q low. on_each (λ q o. q < processors → o.regular ≡ (booked.way q).regular) i (begun s.clock (booked.way i))
        booked.way (λ low. same_regular (booked.way i) (booked.under i i_low)) (λ q other low. refl) q low)
        (λ q low. on_each (λ q o. q < processors → o.lasts ≡ true → (((booked.way q).lasts ≡ true)
        × (o.from ≡ (booked.way q).from)) ⊎ (o.from ≡ s.clock)) i (begun s.clock (booked.way i)) booked.way
        (λ low. began (booked.way i)) (λ q other low e. inl (e, refl)) q low)
        (λ q low. on_each (λ q o. (booked.way q).lasts ≡ true → (o.lasts ≡ true) × (o.from ≡ (booked.way q).from)
        × ((booked.way q).regular + own_sum q value_of s.jobs ≤ o.regular + own_sum q value_of (map gets s.jobs))) i
        (begun s.clock (booked.way i)) booked.way (grows (booked.way i))
        (λ q other e. (e, refl, omega (arith, own_stays q gets (λ t. t.job.value) s.jobs (others_stay q other)))) q)
        (omega (arith, had_times, ap (λ n. w * n) same_displaced)) where
          by_books : (p : Placed) → IsMember p s.jobs → (b : Bool) → eqb p.task.number x.task.number ≡ b
              → SameBooks gets p
          by_books p member true e = role_books gets p Running
              (gets_task p ∙ ap (λ b. cond b (with_role p.task Running) p.task) e)
              (subst (λ u. is_over u.task ≡ false) (sym (one_job p x member x_member (eqb-true _ _ e))) not_past) refl
          by_books p member false e = task_books gets p
              (gets_task p ∙ ap (λ b. cond b (with_role p.task Running) p.task) e)

          -- nobody took the processor, as none runs there
          run_calm : (begun s.clock (booked.way i)).took ≡ false
          run_calm = by_lasts (booked.way i) (booked.under i i_low) where
            by_lasts : (o : Open) → Under k i s.clock s.jobs o → (begun s.clock o).took ≡ false
            by_lasts o it = by_test o.lasts o.took refl where
              by_test : (b c : Bool) → o.took ≡ c → (cond b o (record {
                lasts = true;
                from = s.clock;
                regular = 0;
                displaced = 0;
                first = 0;
                took = false;
              })).took ≡ false
              by_test false c e = refl
              by_test true false e = e
              by_test true true e = let t = it.taker e in absurd (free t.job t.member t.runs t.owner)

          -- so on each processor it is as it was, or nobody took it
          way_calm : (q : ℕ) → (booked.way q).took ≡ false → (run_way q).took ≡ false
          way_calm = on_each (λ q o. (booked.way q).took ≡ false → o.took ≡ false) i (begun s.clock (booked.way i))
              booked.way
              (λ _. run_calm) (λ q other e. e)

          excused : Each (StaysExcused booked.way run_way booked.fell booked.fell gets) s.jobs
          excused p member e = by_excuse (excused_by booked.way booked.fell p e) where
            now : (q : ℕ) → i ≡ q → (run_way q).took ≡ false
            now q same = subst (λ n. (run_way n).took ≡ false) same
                (ap (λ b. (cond b (begun s.clock (booked.way i)) (booked.way i)).took) (eq-eqb i i refl) ∙ run_calm)

            by_excuse : (booked.fell p.task.number ≡ true)
                ⊎ ((is_privileged p.task ≡ true) × ((booked.way p.owner).took ≡ false))
                → is_excused run_way booked.fell (gets p) ≡ true
            by_excuse (inl f) = excused_fell run_way booked.fell (gets p)
                (ap booked.fell (by_books p member (eqb p.task.number x.task.number) refl).number ∙ f)
            by_excuse (inr it) = excused_on run_way booked.fell (gets p)
                (ap is_privileged (gets_task p) ∙ still_on (eqb p.task.number x.task.number))
                (ap (λ n. (run_way n).took) (gets_owner p) ∙ by_number (eqb p.task.number x.task.number)) where
                  still_on : (b : Bool) → is_privileged (cond b (with_role p.task Running) p.task) ≡ true
                  still_on true = refl
                  still_on false = it.0

                  by_number : (b : Bool) → (run_way (cond b i p.owner)).took ≡ false
                  by_number true = now i refl
                  by_number false = way_calm p.owner it.1

          same_first : sum_by (λ q. (run_way q).first) (numbers_from 0 processors)
              ≡ sum_by (λ q. (booked.way q).first) (numbers_from 0 processors)
          same_first = sum_same (λ q. (run_way q).first) (λ q. (booked.way q).first) (numbers_from 0 processors)
              (λ q member. on_each (λ q o. o.first ≡ (booked.way q).first) i (begun s.clock (booked.way i)) booked.way
              (none_first (booked.way i) (booked.under i i_low)) (λ q other. refl) q) where
                none_first : (o : Open) → Under k i s.clock s.jobs o → (begun s.clock o).first ≡ o.first
                none_first o it = by_test o.lasts refl where
                  by_test : (b : Bool) → o.lasts ≡ b → (cond b o (record {
                    lasts = true;
                    from = s.clock;
                    regular = 0;
                    displaced = 0;
                    first = 0;
                    took = false;
                  })).first ≡ o.first
                  by_test true e = refl
                  by_test false e = sym (ap (λ (y : Open). y.first) (it.none e).0)

          same_regular : (o : Open) → Under k i s.clock s.jobs o → (begun s.clock o).regular ≡ o.regular
          same_regular o it = by_test o.lasts refl where
            by_test : (b : Bool) → o.lasts ≡ b → (cond b o
                (record {
                  lasts = true;
                  from = s.clock;
                  regular = 0;
                  displaced = 0;
                  first = 0;
                  took = false;
                })).regular ≡ o.regular
            by_test true e = refl
            by_test false e = sym (ap (λ (y : Open). y.regular) (it.none e).0)

          began : (o : Open) → (begun s.clock o).lasts ≡ true
              → ((o.lasts ≡ true) × ((begun s.clock o).from ≡ o.from)) ⊎ ((begun s.clock o).from ≡ s.clock)
          began o = by_test o.lasts refl where
            by_test : (b : Bool) → o.lasts ≡ b → (cond b o
                (record {
                  lasts = true;
                  from = s.clock;
                  regular = 0;
                  displaced = 0;
                  first = 0;
                  took = false;
                })).lasts ≡ true
                → ((o.lasts ≡ true) × ((cond b o
                (record { lasts = true; from = s.clock; regular = 0; displaced = 0; first = 0; took = false })).from
                ≡ o.from))
                ⊎ ((cond b o
                (record { lasts = true; from = s.clock; regular = 0; displaced = 0; first = 0; took = false })).from
                ≡ s.clock)
            by_test true e f = inl (e, refl)
            by_test false e f = inr refl

          same_jobs : Each (λ p. (gets p).task.job ≡ p.task.job) s.jobs
          same_jobs p member = (by_books p member (eqb p.task.number x.task.number) refl).job

          grows : (o : Open) → o.lasts ≡ true → ((begun s.clock o).lasts ≡ true) × ((begun s.clock o).from ≡ o.from)
              × (o.regular + own_sum i value_of s.jobs
              ≤ (begun s.clock o).regular + own_sum i value_of (map gets s.jobs))
          grows o e = by_test o.lasts e where
            by_test : (b : Bool) → b ≡ true → let y = cond b o
                (record { lasts = true; from = s.clock; regular = 0; displaced = 0; first = 0; took = false }) in
                (y.lasts ≡ true) × (y.from ≡ o.from) × (o.regular + own_sum i value_of s.jobs
                ≤ y.regular + own_sum i value_of (map gets s.jobs))
            by_test true f = (e, refl, omega (arith, own_grows i gets s.jobs same_jobs own_stays_on))
            by_test false f = never f

          same_displaced : sum_by (λ q. (run_way q).displaced) (numbers_from 0 processors)
              ≡ sum_by (λ q. (booked.way q).displaced) (numbers_from 0 processors)
          same_displaced = sum_same (λ q. (run_way q).displaced) (λ q. (booked.way q).displaced)
              (numbers_from 0 processors)
              (λ q member. on_each (λ q o. o.displaced ≡ (booked.way q).displaced) i (begun s.clock (booked.way i))
              booked.way (none_displaced (booked.way i) (booked.under i i_low)) (λ q other. refl) q) where
                none_displaced : (o : Open) → Under k i s.clock s.jobs o → (begun s.clock o).displaced ≡ o.displaced
                none_displaced o it = by_test o.lasts refl where
                  by_test : (b : Bool) → o.lasts ≡ b → (cond b o
                      (record {
                        lasts = true;
                        from = s.clock;
                        regular = 0;
                        displaced = 0;
                        first = 0;
                        took = false;
                      })).displaced
                      ≡ o.displaced
                  by_test true e = refl
                  by_test false e = sym (ap (λ (y : Open). y.displaced) (it.none e).0)

          had_times : v * placed_sum (λ p. p.task.had) s.jobs ≤ v * placed_sum (λ p. p.task.had) (map gets s.jobs)
          had_times = mul-le-mul_left v (placed_grows gets s.jobs
              (λ p member. ap (λ (t : Task). t.had) (gets_task p) ∙ same_had p (eqb p.task.number x.task.number))
              (λ p member on. ap is_privileged (gets_task p) ∙ still_on p (eqb p.task.number x.task.number) on)) where
                same_had : (p : Placed) (b : Bool) → (cond b (with_role p.task Running) p.task).had ≡ p.task.had
                same_had p true = refl
                same_had p false = refl

                still_on : (p : Placed) (b : Bool) → is_privileged p.task ≡ true
                    → is_privileged (cond b (with_role p.task Running) p.task) ≡ true
                still_on p true on = refl
                still_on p false on = on
