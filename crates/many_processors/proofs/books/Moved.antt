-- The books after a step that completes and abandons nothing.
use Rattle.std.proofs.Common.{◌≡◌, ℕ, ◌+◌, ◌*◌, ◌≤◌, ◌<◌, ◌⊎◌, inl, inr, List, ◌++◌, map}
use Rattle.std.proofs.Common.{refl, sym, ap, ◌∙◌, subst, Bool, true, false, cond, arith, sum_by, nat_le, not}
use Rattle.std.proofs.Common.{eq-eqb, ◌&&◌, ◌==◌, leb-true}
use Rattle.std.proofs.lemmas.Bool.{and_parts}
use Rattle.dover_model.specs.declared.events.Task.{Task}
use Rattle.dover_model.specs.declared.events.Role.TheVariants.{Running}
use Rattle.dover_model.specs.JobFacts.{JobFacts}
use Rattle.dover_model.specs.Fraction.{Fraction}
use Rattle.dover_model.specs.Orders.{is_heavy}
use Rattle.dover_model.specs.Common.{is_privileged, is_done, is_over, left, IsMember, Each}
use Rattle.dover_model.proofs.bound.Booking.{is_gone}
use Rattle.dover_model.proofs.bound.Calculus.{heavy_mono}
use Rattle.dover_model.proofs.bound.Counting.{one}
use Rattle.dover_model.proofs.lists.Tests.{never, not_true}
use Rattle.dover_model.proofs.lists.Members.{map_member, sum_le, sum_same, sum_map, sum_plus, on_map}
use Rattle.many_processors.specs.State.{Placed, State}
use Rattle.many_processors.specs.Step.{is_own_of, numbers_from}
use Rattle.many_processors.specs.Books.{Over, given_at, IsPaidTwice}
use Rattle.many_processors.proofs.books.Booked.{Open, own_sum, placed_sum, number_and_job, comes_to, is_light_on}
use Rattle.many_processors.proofs.books.Booked.{Taker, Under, WasBusy, Booked, fallen, fallen_value, is_excused}
use Rattle.many_processors.proofs.books.Booked.{fails_too}
use Rattle.many_processors.proofs.steps.Seeing.{numbers_below}

-- a job stays where it is for processor q
abbrev pub StaysFor : ℕ → (Placed → Placed) → Placed → Type 0
StaysFor q h p = ((is_own_of q p ≡ true) × ((h p).task ≡ p.task) × ((h p).owner ≡ p.owner))
    ⊎ ((is_own_of q p ≡ false) × (is_own_of q (h p) ≡ false))

-- the test goes by the task and the owner
pub own_same : (q : ℕ) (p u : Placed) → u.task ≡ p.task → u.owner ≡ p.owner → is_own_of q u ≡ is_own_of q p
own_same q p u same_task same_owner =
    ap (λ t. is_privileged t && u.owner == q) same_task ∙ ap (λ n. is_privileged p.task && n == q) same_owner

-- a sum over the jobs of a processor where they stay
pub own_stays : (q : ℕ) (h : Placed → Placed) (f : Task → ℕ) (jobs : List Placed) → Each (StaysFor q h) jobs
    → own_sum q (λ p. f p.task) (map h jobs) ≡ own_sum q (λ p. f p.task) jobs
own_stays q h f jobs stays = sum_map h (λ p. cond (is_own_of q p) (f p.task) 0) jobs
    ∙ sum_same (λ p. cond (is_own_of q (h p)) (f (h p).task) 0) (λ p. cond (is_own_of q p) (f p.task) 0) jobs
    (λ p member. by_stay p (stays p member)) where
      by_stay : (p : Placed) → StaysFor q h p
          → cond (is_own_of q (h p)) (f (h p).task) 0 ≡ cond (is_own_of q p) (f p.task) 0
      by_stay p (inl it) = ap (λ b. cond b (f (h p).task) 0) (own_same q p (h p) it.1 it.2)
          ∙ ap (λ t. cond (is_own_of q p) (f t) 0) it.1
      by_stay p (inr it) = ap (λ b. cond b (f (h p).task) 0) it.1 ∙ sym (ap (λ b. cond b (f p.task) 0) it.0)

-- so is what is under way there
pub under_stays : (k : Fraction) (q clock : ℕ) (jobs : List Placed) (h : Placed → Placed) (o : Open)
    → Each (StaysFor q h) jobs → Under k q clock jobs o → Under k q clock (map h jobs) o
under_stays k q clock jobs h o stays it = record {
  none = λ e. (
    (it.none e).0,
    on_map h (λ p. is_own_of q p ≡ true → ⊥) jobs
        (λ p member own. by_none p (stays p member) own ((it.none e).1 p member)),
  );
  some = λ e. let x = it.some e in
      (x.0, (h x.1.0, map_member h jobs x.1.0 x.1.1, by_own x.1.0 x.1.2 (stays x.1.0 x.1.1)));
  calm = it.calm;
  taker = λ e. keeps_taker (it.taker e);
} where
  by_none : (p : Placed) → StaysFor q h p → is_own_of q (h p) ≡ true → (is_own_of q p ≡ true → ⊥) → ⊥
  by_none p (inl x) own none = none x.0
  by_none p (inr x) own none = never (sym x.1 ∙ own)

  by_own : (p : Placed) → is_own_of q p ≡ true → StaysFor q h p → is_own_of q (h p) ≡ true
  by_own p own (inl x) = own_same q p (h p) x.1 x.2 ∙ x.0
  by_own p own (inr x) = never (sym x.0 ∙ own)

  keeps_taker : Taker k q o.displaced o.first clock jobs → Taker k q o.displaced o.first clock (map h jobs)
  keeps_taker t = by_stay (stays t.job t.member) where
    own : is_own_of q t.job ≡ true
    own = both (is_privileged t.job.task) (t.job.owner == q) (runs_on t.job.task t.runs) (eq-eqb _ _ t.owner) where
      both : (a b : Bool) → a ≡ true → b ≡ true → (a && b) ≡ true
      both true true e f = refl
      both true false e f = never f
      both false b e f = never e

      runs_on : (u : Task) → u.role ≡ Running → is_privileged u ≡ true
      runs_on u e = ap (λ r. is_privileged (record { number = u.number; job = u.job; role = r; had = u.had })) e

    by_stay : StaysFor q h t.job → Taker k q o.displaced o.first clock (map h jobs)
    by_stay (inr x) = never (sym x.0 ∙ own)
    by_stay (inl x) = record {
      job = h t.job;
      member = map_member h jobs t.job t.member;
      runs = ap (λ (u : Task). u.role) x.1 ∙ t.runs;
      owner = x.2 ∙ t.owner;
      alone = on_map h (λ p. is_own_of q p ≡ true → p.task.number ≡ (h t.job).task.number) jobs
          (λ p member is_own. by_one p (stays p member) is_own (t.alone p member)
          ∙ sym (ap (λ (u : Task). u.number) x.1));
      no_laxity = subst (λ (u : Task). clock + left u ≡ u.job.deadline) (sym x.1) t.no_laxity;
      paid = subst (λ (u : Task). IsPaidTwice k o.displaced o.first u.job.value) (sym x.1) t.paid;
    } where
      by_one : (p : Placed) → StaysFor q h p → is_own_of q (h p) ≡ true
          → (is_own_of q p ≡ true → p.task.number ≡ t.job.task.number) → (h p).task.number ≡ t.job.task.number
      by_one p (inl y) is_own same = ap (λ (u : Task). u.number) y.1 ∙ same y.0
      by_one p (inr y) is_own same = never (sym y.1 ∙ is_own)

-- what is light stays light where more comes together
pub light_grows : (k : Fraction) (way more : ℕ → Open) (jobs after : List Placed) (o : Over) (q : ℕ)
    → ((way q).lasts ≡ true → ((more q).lasts ≡ true) × ((more q).from ≡ (way q).from)
    × (comes_to way jobs q ≤ comes_to more after q))
    → one (is_light_on k way jobs o q) ≤ one (is_light_on k more after o q)
light_grows k way more jobs after o q grows = by_test (is_light_on k way jobs o q) refl where
  light_still : (v a b : ℕ) → a ≤ b → is_heavy k v a ≡ false → is_heavy k v b ≡ false
  light_still v a b low light = by_heavy (is_heavy k v b) refl where
    by_heavy : (c : Bool) → is_heavy k v b ≡ c → is_heavy k v b ≡ false
    by_heavy false e = e
    by_heavy true e = never (sym light ∙ heavy_mono k v a b low e)

  all : (a b c : Bool) → a ≡ true → b ≡ true → c ≡ false → one ((a && b) && not c) ≡ 1
  all true true false e f g = refl
  all true true true e f g = never (sym g)
  all true false c e f g = never f
  all false b c e f g = never e

  by_test : (b : Bool) → is_light_on k way jobs o q ≡ b → one b ≤ one (is_light_on k more after o q)
  by_test false e = omega arith
  by_test true e =
      let outer = and_parts ((way q).lasts && nat_le (way q).from o.at)
      (not (is_heavy k o.job.value (comes_to way jobs q))) e in
      let inner = and_parts (way q).lasts (nat_le (way q).from o.at) outer.0 in
      let it = grows inner.0 in
      omega (
        arith,
        all (more q).lasts (nat_le (more q).from o.at) (is_heavy k o.job.value (comes_to more after q)) it.0
            (ap (λ n. nat_le n o.at) it.1 ∙ inner.1)
            (light_still o.job.value (comes_to way jobs q) (comes_to more after q) it.2
            (not_true (is_heavy k o.job.value (comes_to way jobs q)) outer.1)),
      )

-- what a change leaves of a job for the books
pub record SameBooks (h : Placed → Placed) (p : Placed) : Type 0 where
  pub number : (h p).task.number ≡ p.task.number
  pub job : (h p).task.job ≡ p.task.job
  pub done : is_done (h p).task ≡ is_done p.task
  pub gone : is_gone (h p).task ≡ is_gone p.task
  pub over : is_over (h p).task ≡ is_over p.task

-- who is excused before a change is so after it
abbrev pub StaysExcused : (way more : ℕ → Open) (fell now : ℕ → Bool) → (Placed → Placed) → Placed → Type 0
StaysExcused way more fell now h p = is_excused way fell p ≡ true → is_excused more now (h p) ≡ true

-- the busy ticks before a change are so after it
pub busy_moves : (processors : ℕ) (ran : List (List ℕ)) (way more : ℕ → Open) (fell now : ℕ → Bool) (jobs : List Placed)
    (overs : List Over) (h : Placed → Placed) (τ : ℕ) → Each (SameBooks h) jobs
    → Each (StaysExcused way more fell now h) jobs → WasBusy processors ran way fell jobs overs τ
    → WasBusy processors ran more now (map h jobs) overs τ
busy_moves processors ran way more fell now jobs overs h τ same excused (inl full) = inl full
busy_moves processors ran way more fell now jobs overs h τ same excused (inr it) = inr (
  on_map h (λ p. is_over p.task ≡ false → is_excused more now p ≡ false → p.task.job.release ≤ τ
      → IsMember p.task.number (given_at ran τ)) jobs
      (λ p member not_over asked came. subst (λ n. IsMember n (given_at ran τ)) (sym (same p member).number)
      (it.0 p member (sym (same p member).over ∙ not_over)
      (fails_too (is_excused way fell p) (is_excused more now (h p)) (excused p member) asked)
      (subst (λ (j : JobFacts). j.release ≤ τ) (same p member).job came))),
  it.1,
)

-- what fell is worth the same
pub same_fallen : (fell : ℕ → Bool) (h : Placed → Placed) (jobs : List Placed) → Each (SameBooks h) jobs
    → fallen fell (map h jobs) ≡ fallen fell jobs
same_fallen fell h jobs same = sum_map h (fallen_value fell) jobs
    ∙ sum_same (λ p. fallen_value fell (h p)) (fallen_value fell) jobs
    (λ p member. let it = same p member in
    ap (λ b. cond b 0 (cond (fell (h p).task.number) (h p).task.job.value 0)) it.over
    ∙ ap (λ n. cond (is_over p.task) 0 (cond (fell n) (h p).task.job.value 0)) it.number
    ∙ ap (λ (j : JobFacts). cond (is_over p.task) 0 (cond (fell p.task.number) j.value 0)) it.job)

module _ (k : Fraction) (v w processors : ℕ) (ran : List (List ℕ)) (s : State)
    (booked : Booked k v w processors ran s) where
  -- the books after a change of jobs
  pub moved_booked : (h : Placed → Placed) (pressed : Bool) (more : ℕ → Open) (now : ℕ → Bool)
      → Each (SameBooks h) s.jobs → Each (StaysExcused booked.way more booked.fell now h) s.jobs
      → fallen now (map h s.jobs) + sum_by (λ q. (booked.way q).first) (numbers_from 0 processors)
      ≤ fallen booked.fell s.jobs + sum_by (λ q. (more q).first) (numbers_from 0 processors)
      → ((q : ℕ) → q < processors → Under k q s.clock (map h s.jobs) (more q))
      → ((q : ℕ) → q < processors → (more q).regular ≡ (booked.way q).regular)
      → ((q : ℕ) → q < processors → (more q).lasts ≡ true → (((booked.way q).lasts ≡ true)
      × ((more q).from ≡ (booked.way q).from)) ⊎ ((more q).from ≡ s.clock))
      → ((q : ℕ) → q < processors → (booked.way q).lasts ≡ true → ((more q).lasts ≡ true)
      × ((more q).from ≡ (booked.way q).from) × (comes_to booked.way s.jobs q ≤ comes_to more (map h s.jobs) q))
      → v * placed_sum (λ p. p.task.had) s.jobs
      + w * sum_by (λ q. (booked.way q).displaced) (numbers_from 0 processors)
      ≤ v * placed_sum (λ p. p.task.had) (map h s.jobs)
      + w * sum_by (λ q. (more q).displaced) (numbers_from 0 processors)
      → Booked k v w processors ran (record { clock = s.clock; jobs = map h s.jobs; pressed = pressed })
  moved_booked h pressed more now same excused falls under regs began grows paid = record {
    closed = booked.closed;
    way = more;
    regular = booked.regular;
    taken = booked.taken;
    gone = booked.gone;
    fell = now;
    lost = booked.lost;
    missed = booked.missed;
    ticks = booked.ticks;
    in_order = booked.in_order;
    ended = booked.ended;
    paid = booked.paid;
    under = under;
    done_sum = λ f. sum_map h (λ p. cond (is_done p.task) (f (number_and_job p)) 0) s.jobs
        ∙ sum_same (λ p. cond (is_done (h p).task) (f (number_and_job (h p))) 0)
        (λ p. cond (is_done p.task) (f (number_and_job p)) 0) s.jobs
        (λ p member. ap (λ b. cond b (f (number_and_job (h p))) 0) (same p member).done
        ∙ ap (λ n_j. cond (is_done p.task) (f n_j) 0) (same_job p (same p member))) ∙ booked.done_sum f;
    gone_sum = λ f. sum_map h (λ p. cond (is_gone p.task) (f (number_and_job p)) 0) s.jobs
        ∙ sum_same (λ p. cond (is_gone (h p).task) (f (number_and_job (h p))) 0)
        (λ p. cond (is_gone p.task) (f (number_and_job p)) 0) s.jobs
        (λ p member. ap (λ b. cond b (f (number_and_job (h p))) 0) (same p member).gone
        ∙ ap (λ n_j. cond (is_gone p.task) (f n_j) 0) (same_job p (same p member))) ∙ booked.gone_sum f;
    regular_sum = omega (arith, booked.regular_sum, all_regular);
    taken_sum = booked.taken_sum;
    fallen_sum = omega (arith, booked.fallen_sum, falls);
    covered = λ τ before. omega (
      arith,
      booked.covered τ before,
      sum_le (λ q. one ((more q).lasts && nat_le (more q).from τ))
          (λ q. one ((booked.way q).lasts && nat_le (booked.way q).from τ)) (numbers_from 0 processors)
          (λ q member. by_lasts q τ before (more q).lasts refl (began q (low q member))),
    );
    busy = λ τ before. busy_moves processors ran booked.way more booked.fell now s.jobs (booked.taken
        ++ booked.gone) h τ same
        excused (booked.busy τ before);
    ticks_paid = omega (
      arith,
      booked.ticks_paid,
      paid,
      ap (λ n. w * n) (sum_plus (λ q. (booked.way q).regular) (λ q. (booked.way q).displaced)
          (numbers_from 0 processors)),
      ap (λ n. w * n) (sum_plus (λ q. (more q).regular) (λ q. (more q).displaced) (numbers_from 0 processors)),
      ap (λ n. w * n) all_regular,
    );
    taken_are = booked.taken_are;
    gone_are = λ o member. let it = booked.gone_are o member in record {
      light = omega (
        arith,
        it.light,
        sum_le (λ q. one (is_light_on k booked.way s.jobs o q)) (λ q. one (is_light_on k more (map h s.jobs) o q))
            (numbers_from 0 processors)
            (λ q m. light_grows k booked.way more s.jobs (map h s.jobs) o q (grows q (low q m))),
      );
      reach = it.reach;
      dense = it.dense;
      before = it.before;
    };
  } where
    low : (q : ℕ) → IsMember q (numbers_from 0 processors) → q < processors
    low q member = omega (arith, (numbers_below q 0 processors member).1)

    same_job : (p : Placed) → SameBooks h p → number_and_job (h p) ≡ number_and_job p
    same_job p it = ap (λ n. (n, (h p).task.job)) it.number ∙ ap (λ j. (p.task.number, j)) it.job

    all_regular : sum_by (λ q. (more q).regular) (numbers_from 0 processors)
        ≡ sum_by (λ q. (booked.way q).regular) (numbers_from 0 processors)
    all_regular = sum_same (λ q. (more q).regular) (λ q. (booked.way q).regular) (numbers_from 0 processors)
        (λ q member. regs q (low q member))

    by_lasts : (q τ : ℕ) → τ < s.clock → (b : Bool) → (more q).lasts ≡ b
        → ((more q).lasts ≡ true → (((booked.way q).lasts ≡ true)
        × ((more q).from ≡ (booked.way q).from)) ⊎ ((more q).from ≡ s.clock))
        → one ((more q).lasts && nat_le (more q).from τ) ≤ one ((booked.way q).lasts && nat_le (booked.way q).from τ)
    by_lasts q τ before false e began = omega (arith, ap (λ b. one (b && nat_le (more q).from τ)) e)
    by_lasts q τ before true e began = by_began (began e) where
      by_began : (((booked.way q).lasts ≡ true) × ((more q).from ≡ (booked.way q).from)) ⊎ ((more q).from ≡ s.clock)
          → one ((more q).lasts && nat_le (more q).from τ) ≤ one ((booked.way q).lasts && nat_le (booked.way q).from τ)
      by_began (inl it) = omega (
        arith,
        ap (λ b. one (b && nat_le (more q).from τ)) (e ∙ sym it.0),
        ap (λ n. one ((booked.way q).lasts && nat_le n τ)) it.1,
      )
      by_began (inr now) = omega (arith, late (more q).lasts (nat_le (more q).from τ) (not_yet (more q).from now)) where
        late : (a b : Bool) → b ≡ false → one (a && b) ≡ 0
        late true false e = refl
        late false b e = refl
        late true true e = never (sym e)

        not_yet : (n : ℕ) → n ≡ s.clock → nat_le n τ ≡ false
        not_yet n now = by_test (nat_le n τ) refl where
          by_test : (c : Bool) → nat_le n τ ≡ c → nat_le n τ ≡ false
          by_test false e = e
          by_test true e = let reached : n ≤ τ = leb-true n τ e in absurd (omega (arith, reached, now, before))
