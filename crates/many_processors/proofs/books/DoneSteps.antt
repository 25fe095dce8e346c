-- The books after a job is completed: its interval goes on, or ends.
use Rattle.std.proofs.Common.{◌≡◌, ℕ, ◌+◌, ◌*◌, ◌≤◌, ◌<◌, ◌⊎◌, inl, inr, List, [], ◌∷◌, ◌++◌, map}
use Rattle.std.proofs.Common.{refl, sym, ap, ◌∙◌, Bool, true, false, cond, eqb, arith, sum_by, nat_le, nat_lt, not}
use Rattle.std.proofs.Common.{eq-eqb, ne_eqb, ◌&&◌, ◌==◌, le-leb}
use Rattle.std.proofs.lemmas.Bool.{and_parts, eqb-false}
use Rattle.std.proofs.lemmas.List.Sums.{sum_by-cons}
use Rattle.std.proofs.Math.Nat.{mul-le-mul_left}
use Rattle.dover_model.specs.declared.events.Role.TheVariants.{Held, Running, Done}
use Rattle.dover_model.specs.Fraction.{Fraction}
use Rattle.dover_model.specs.Orders.{is_heavy}
use Rattle.dover_model.specs.Books.{Job, job_value}
use Rattle.dover_model.specs.Common.{is_privileged, is_done, is_over, IsMember, Each}
use Rattle.dover_model.proofs.bound.Booking.{is_gone}
use Rattle.dover_model.proofs.lists.Tests.{never, not_true}
use Rattle.dover_model.proofs.lists.Members.{map_member, sum_le, on_map, sum_zero}
use Rattle.dover_model.proofs.steps.Roles.{passes, is_privileged_role}
use Rattle.many_processors.specs.State.{Placed, State}
use Rattle.many_processors.specs.Step.{is_own_of, numbers_from, in_role}
use Rattle.many_processors.specs.Sound.{Keeps}
use Rattle.many_processors.proofs.books.Booked.{Open, shut, own_sum, placed_sum, value_of, number_and_job, comes_to}
use Rattle.many_processors.proofs.books.Booked.{Under, Booked, sum_on, fallen}
use Rattle.many_processors.proofs.steps.Seeing.{below_numbers}
use Rattle.many_processors.proofs.steps.Kept.{had_most}
use Rattle.many_processors.proofs.books.Moved.{StaysFor, own_stays, under_stays}
use Rattle.many_processors.proofs.books.MovedSteps.{not_over, other_own}
use Rattle.many_processors.proofs.books.MovedSteps.{at_one, on_each}
use Rattle.dover_model.proofs.bound.Counting.{one}
use Rattle.dover_model.proofs.lists.Members.{each_append, each_cons}
use Rattle.std.proofs.Common.{le-leb, lt-ltb}
use Rattle.many_processors.specs.Books.{Interval, Over, job_of, is_open, TakenIn, IsPaidTwice}
use Rattle.many_processors.specs.Schedules.{ticks_given}
use Rattle.many_processors.specs.Books.{is_light_in}
use Rattle.many_processors.proofs.books.Booked.{WasBusy, is_light_on}
use Rattle.many_processors.proofs.books.Moved.{light_grows}
use Rattle.many_processors.proofs.steps.Seeing.{numbers_below}
use Rattle.many_processors.proofs.books.OverSteps.{order_last, sum_last, sum_goes, gone_own, busy_before, stays_beside}
use Rattle.many_processors.proofs.books.OverSteps.{parts}
use Rattle.many_processors.proofs.books.OverSteps.{fallen_goes}

module _ (k : Fraction) (v w processors : ℕ) (ran : List (List ℕ)) (J : _) (s : State)
    (booked : Booked k v w processors ran s) (keeps : Keeps processors J s)
    (one_job : (p u : Placed) → IsMember p s.jobs → IsMember u s.jobs → p.task.number ≡ u.task.number → p ≡ u)
    (pressed : Bool) (x : Placed) (x_member : IsMember x s.jobs) (x_on : is_privileged x.task ≡ true)
    (modest : v * x.task.job.work ≤ w * x.task.job.value) where
  -- its processor
  abbrev i : ℕ
  i = x.owner

  i_low : i < processors
  i_low = keeps.placed.owners x x_member x_on

  abbrev goes : Placed → Placed
  goes p = cond (eqb p.task.number x.task.number) (in_role p Done) p

  x_own : is_own_of i x ≡ true
  x_own = both (is_privileged x.task) (i == i) x_on (eq-eqb i i refl) where
    both : (a b : Bool) → a ≡ true → b ≡ true → (a && b) ≡ true
    both true true e f = refl
    both true false e f = never f
    both false b e f = never e

  not_past : is_over x.task ≡ false
  not_past = by_role (is_privileged_role x.task x_on) where
    by_role : (x.task.role ≡ Running) ⊎ (x.task.role ≡ Held) → is_over x.task ≡ false
    by_role (inl e) = passes is_over x.task Running false e refl
    by_role (inr e) = passes is_over x.task Held false e refl

  i_lasts : (booked.way i).lasts ≡ true
  i_lasts = by_test (booked.way i).lasts refl where
    by_test : (b : Bool) → (booked.way i).lasts ≡ b → (booked.way i).lasts ≡ true
    by_test true e = e
    by_test false e = absurd (((booked.under i i_low).none e).1 x x_member x_own)

  began : (booked.way i).from ≤ s.clock
  began = ((booked.under i i_low).some i_lasts).0

  stays : (q : ℕ) → (i ≡ q → ⊥) → Each (StaysFor q goes) s.jobs
  stays q other = stays_beside k v w processors ran J s booked keeps one_job pressed x x_member not_past Done
      (λ t. refl)
      (λ t. refl) q (other_own q i x refl other)

  sums : (f : Placed → ℕ) → sum_by f (map goes s.jobs) + f x ≡ sum_by f s.jobs + f (in_role x Done)
  sums = sum_goes k v w processors ran J s booked keeps one_job pressed x x_member not_past Done (λ t. refl) (λ t. refl)

  -- what is left on its processor
  own_left : own_sum i value_of (map goes s.jobs) + value_of x ≡ own_sum i value_of s.jobs
  own_left = omega (
    arith,
    sums (λ p. cond (is_own_of i p) (value_of p) 0),
    ap (λ b. cond b (value_of x) 0) x_own,
    ap (λ b. cond b (value_of x) 0) (gone_own k v w processors ran J s booked keeps one_job pressed x x_member not_past
        Done (λ t. refl) (λ t. refl) i),
  )

  -- what is left of what jobs on processors had
  had_left : placed_sum (λ p. p.task.had) (map goes s.jobs) + x.task.had ≡ placed_sum (λ p. p.task.had) s.jobs
  had_left = omega (
    arith,
    sums (λ p. cond (is_privileged p.task) p.task.had 0),
    ap (λ b. cond b x.task.had 0) x_on,
  )

  -- the sums over the jobs that are over
  done_more : (f : Job → ℕ) → sum_by (λ p. cond (is_done p.task) (f (number_and_job p)) 0) (map goes s.jobs)
      ≡ sum_by f booked.regular + sum_by (λ o. f (job_of o)) booked.taken + sum_by f booked.lost + f (number_and_job x)
  done_more f = omega (
    arith,
    booked.done_sum f,
    sums (λ p. cond (is_done p.task) (f (number_and_job p)) 0),
    ap (λ b. cond b (f (number_and_job x)) 0) (not_over x.task not_past).0,
  )

  gone_same : (f : Job → ℕ) → sum_by (λ p. cond (is_gone p.task) (f (number_and_job p)) 0) (map goes s.jobs)
      ≡ sum_by (λ o. f (job_of o)) booked.gone + sum_by f booked.missed
  gone_same f = omega (
    arith,
    booked.gone_sum f,
    sums (λ p. cond (is_gone p.task) (f (number_and_job p)) 0),
    ap (λ b. cond b (f (number_and_job x)) 0) (not_over x.task not_past).1,
  )

  low : (q : ℕ) → IsMember q (numbers_from 0 processors) → q < processors
  low q member = omega (arith, (numbers_below q 0 processors member).1)

  i_member : IsMember i (numbers_from 0 processors)
  i_member = below_numbers i 0 processors (omega arith) (omega (arith, i_low))

  -- what fell and is under way
  falls : fallen booked.fell (map goes s.jobs) + cond (booked.fell x.task.number) (value_of x) 0
      ≡ fallen booked.fell s.jobs
  falls = fallen_goes k v w processors ran J s booked keeps one_job pressed x x_member not_past Done (λ t. refl)
      (λ t. refl)
      booked.fell

  pub had_worth : v * x.task.had ≤ w * x.task.job.value
  had_worth = let times : v * x.task.had
      ≤ v * x.task.job.work = mul-le-mul_left v (had_most s keeps.sound x x_member) in
      omega (arith, times, modest)

  -- ---- the interval ends

  module _ (alone : Each (λ p. is_own_of i p ≡ true → p.task.number ≡ x.task.number) s.jobs)
      (regular : List Job) (taken : List Over) (lost : List Job) (rc tc dc : ℕ)
      (done_new : (f : Job → ℕ) → sum_by f regular + sum_by (λ o. f (job_of o)) taken + sum_by f lost
      ≡ sum_by f booked.regular + sum_by (λ o. f (job_of o)) booked.taken + sum_by f booked.lost + f (number_and_job x))
      (regular_new : sum_by job_value regular + (booked.way i).regular ≡ sum_by job_value booked.regular + rc)
      (taken_new : sum_by (λ o. o.job.value) taken + sum_by job_value lost
      ≡ sum_by (λ o. o.job.value) booked.taken + sum_by job_value booked.lost + tc)
      (lost_new : sum_by job_value lost ≤ sum_by job_value booked.lost
      + cond (booked.fell x.task.number) (value_of x) 0)
      (paid : IsPaidTwice k dc (booked.way i).first tc) (comes : rc + tc ≡ (booked.way i).regular + x.task.job.value)
      (busy_new : (τ : ℕ) → WasBusy processors ran booked.way booked.fell s.jobs (booked.taken ++ booked.gone) τ
      → WasBusy processors ran (at_one i shut booked.way) booked.fell (map goes s.jobs) (taken ++ booked.gone) τ)
      (ticks_new : w * ((booked.way i).regular + (booked.way i).displaced + sum_by job_value booked.lost)
      + (v * sum_by (λ o. o.had) booked.taken + v * x.task.had)
      ≤ w * (rc + dc + sum_by job_value lost) + v * sum_by (λ o. o.had) taken)
      (taken_are : Each (λ o. TakenIn v w o × (o.at ≤ s.clock) × (o.had ≤ ticks_given ran o.number o.job)) taken) where
    -- the interval
    abbrev ended : Interval
    ended = record {
      processor = i;
      from = (booked.way i).from;
      until = s.clock;
      regular = rc;
      taken = tc;
      displaced = dc;
      first = (booked.way i).first;
    }

    abbrev way : ℕ → Open
    way = at_one i shut booked.way

    -- a sum over what is under way
    way_sum : (f : Open → ℕ) → f shut ≡ 0 → sum_by (λ q. f (way q)) (numbers_from 0 processors) + f (booked.way i)
        ≡ sum_by (λ q. f (booked.way q)) (numbers_from 0 processors)
    way_sum f nothing = omega (
      arith,
      sum_on (λ q. f (way q)) (λ q. f (booked.way q)) i 0 processors i_member
          (λ j other. ap (λ b. f (cond b shut (booked.way j))) (ne_eqb _ _ other)),
      ap (λ b. f (cond b shut (booked.way i))) (eq-eqb i i refl),
      nothing,
    )

    -- no job is left on the processor
    nobody : Each (λ p. is_own_of i p ≡ true → ⊥) (map goes s.jobs)
    nobody = on_map goes (λ p. is_own_of i p ≡ true → ⊥) s.jobs
        (parts k v w processors ran J s booked keeps one_job pressed x x_member not_past Done (λ t. refl) (λ t. refl)
        (λ p u. is_own_of i u ≡ true → ⊥)
        (λ own. never (sym (gone_own k v w processors ran J s booked keeps one_job pressed x x_member not_past
        Done (λ t. refl) (λ t. refl) i) ∙ own))
        (λ p member differs own. differs (alone p member own)))

    -- what was left on it was x
    single : own_sum i value_of s.jobs ≡ x.task.job.value
    single = omega (
      arith,
      own_left,
      sum_zero (λ p. cond (is_own_of i p) (value_of p) 0) (map goes s.jobs)
          (λ p member. by_own p (is_own_of i p) refl (nobody p member)),
    ) where
      by_own : (p : Placed) (b : Bool) → is_own_of i p ≡ b → (is_own_of i p ≡ true → ⊥)
          → cond (is_own_of i p) (value_of p) 0 ≡ 0
      by_own p false e none = ap (λ b. cond b (value_of p) 0) e
      by_own p true e none = absurd (none e)

    -- a job that was light so far is light in the interval
    light_ended : (o : Over) → o.at ≤ s.clock → one (is_light_on k booked.way s.jobs o i) ≤ one (is_light_in k o ended)
    light_ended o before = by_test (is_light_on k booked.way s.jobs o i) refl where
      all_three : (a b c : Bool) → a ≡ true → b ≡ true → c ≡ false → one ((a && b) && not c) ≡ 1
      all_three true true false e f g = refl
      all_three true true true e f g = never (sym g)
      all_three true false c e f g = never f
      all_three false b c e f g = never e

      by_test : (b : Bool) → is_light_on k booked.way s.jobs o i ≡ b → one b ≤ one (is_light_in k o ended)
      by_test false e = omega arith
      by_test true e =
          let outer = and_parts ((booked.way i).lasts && nat_le (booked.way i).from o.at)
          (not (is_heavy k o.job.value (comes_to booked.way s.jobs i))) e in
          let inner = and_parts (booked.way i).lasts (nat_le (booked.way i).from o.at) outer.0 in
          let same : comes_to booked.way s.jobs i ≡ rc + tc = omega (arith, single, comes) in
          omega (
            arith,
            all_three (nat_le (booked.way i).from o.at) (nat_le o.at s.clock)
                (is_heavy k o.job.value (rc + tc)) inner.1 (le-leb _ _ before)
                (ap (is_heavy k o.job.value) (sym same)
                ∙ not_true (is_heavy k o.job.value (comes_to booked.way s.jobs i)) outer.1),
          )

    pub close_booked : Booked k v w processors ran
        (record { clock = s.clock; jobs = map goes s.jobs; pressed = pressed })
    close_booked = record {
      closed = booked.closed ++ ended ∷ [];
      way = way;
      regular = regular;
      taken = taken;
      gone = booked.gone;
      fell = booked.fell;
      lost = lost;
      missed = booked.missed;
      ticks = booked.ticks;
      in_order = order_last booked.closed ended booked.in_order booked.ended;
      ended = each_append (λ c. c.until ≤ s.clock) booked.closed (ended ∷ []) booked.ended
          (each_cons (λ c. c.until ≤ s.clock) ended [] (omega arith) (λ c member. absurd member));
      paid = each_append (λ c. IsPaidTwice k c.displaced c.first c.taken) booked.closed (ended ∷ []) booked.paid
          (each_cons (λ c. IsPaidTwice k c.displaced c.first c.taken) ended [] paid (λ c member. absurd member));
      under = λ q less. on_each (λ q o. q < processors → Under k q s.clock (map goes s.jobs) o) i shut booked.way
          (λ _. record {
            none = λ e. (refl, nobody);
            some = λ e. never e;
            calm = λ e. (refl, refl);
            taker = λ e.
                never e;
          })
          (λ q other less. under_stays k q s.clock s.jobs goes (booked.way q) (stays q other) (booked.under q less))
          q less;
      done_sum = λ f. done_more f ∙ sym (done_new f);
      gone_sum = gone_same;
      regular_sum = omega (
        arith,
        booked.regular_sum,
        regular_new,
        sum_last (λ (c : Interval). c.regular) booked.closed ended,
        way_sum (λ o. o.regular) refl,
      );
      taken_sum = omega (arith, booked.taken_sum, taken_new, sum_last (λ (c : Interval). c.taken) booked.closed ended);
      fallen_sum = omega (
        arith,
        booked.fallen_sum,
        lost_new,
        falls,
        sum_last (λ (c : Interval). c.first) booked.closed ended,
        way_sum (λ o. o.first) refl,
      );
      covered = λ τ before. omega (
        arith,
        booked.covered τ before,
        sum_last (λ (c : Interval). one (is_open τ c)) booked.closed ended,
        way_sum (λ o. one (o.lasts && nat_le o.from τ)) refl,
        lasts_to τ before (booked.way i).lasts (nat_le (booked.way i).from τ) i_lasts,
      );
      busy = λ τ before. busy_new τ (booked.busy τ before);
      ticks_paid = omega (
        arith,
        booked.ticks_paid,
        ticks_new,
        ap (λ n. w * n) (sum_last (λ (c : Interval). c.regular) booked.closed ended),
        ap (λ n. w * n) (sum_last (λ (c : Interval). c.displaced) booked.closed ended),
        ap (λ n. w * n) (way_sum (λ o. o.regular + o.displaced) refl),
        ap (λ n. v * n) had_left,
      );
      taken_are = taken_are;
      gone_are = λ o member. let it = booked.gone_are o member in record {
        light = omega (
          arith,
          it.light,
          sum_last (λ c. one (is_light_in k o c)) booked.closed ended,
          light_ended o it.before,
          sum_on (λ q. one (is_light_on k way (map goes s.jobs) o q))
              (λ q. one (is_light_on k way (map goes s.jobs) o q))
              i 0 processors i_member (λ j other. refl),
          light_rest o,
        );
        reach = it.reach;
        dense = it.dense;
        before = it.before;
      };
    } where
      lasts_to : (τ : ℕ) → τ < s.clock → (a b : Bool) → a ≡ true → one (a && b) ≡ one (b && nat_lt τ s.clock)
      lasts_to τ before true true e = ap one (sym (lt-ltb τ s.clock before))
      lasts_to τ before true false e = refl
      lasts_to τ before false b e = never e

      -- on the other processors it stays light
      light_rest : (o : Over) → sum_by (λ q. one (is_light_on k booked.way s.jobs o q)) (numbers_from 0 processors)
          ≤ sum_by (λ q. one (is_light_on k way (map goes s.jobs) o q)) (numbers_from 0 processors)
          + one (is_light_on k booked.way s.jobs o i)
      light_rest o = omega (
        arith,
        sum_on (λ q. cond (eqb i q) 0 (one (is_light_on k booked.way s.jobs o q)))
            (λ q. one (is_light_on k booked.way s.jobs o q)) i 0 processors i_member
            (λ j other. ap (λ b. cond b 0 (one (is_light_on k booked.way s.jobs o j))) (ne_eqb _ _ other)),
        ap (λ b. cond b 0 (one (is_light_on k booked.way s.jobs o i))) (eq-eqb i i refl),
        sum_le (λ q. cond (eqb i q) 0 (one (is_light_on k booked.way s.jobs o q)))
            (λ q. one (is_light_on k way (map goes s.jobs) o q)) (numbers_from 0 processors)
            (λ q member. by_one q (eqb i q) refl),
      ) where
        by_one : (q : ℕ) (b : Bool) → eqb i q ≡ b
            → cond b 0 (one (is_light_on k booked.way s.jobs o q)) ≤ one (is_light_on k way (map goes s.jobs) o q)
        by_one q true e = omega arith
        by_one q false e = light_grows k booked.way way s.jobs (map goes s.jobs) o q
            (λ lasts. (
              ap (λ b. (cond b shut (booked.way q)).lasts) e ∙ lasts,
              ap (λ b. (cond b shut (booked.way q)).from) e,
              omega (
                arith,
                own_stays q goes (λ t. t.job.value) s.jobs (stays q (eqb-false _ _ e)),
                ap (λ b. (cond b shut (booked.way q)).regular) e,
              ),
            ))

  -- ---- it goes on

  module _ (calm : (booked.way i).took ≡ false) (y : Placed) (y_member : IsMember y s.jobs)
      (y_own : is_own_of i y ≡ true) (differs : y.task.number ≡ x.task.number → ⊥) where
    -- what is under way
    abbrev grown : Open
    grown = record {
      lasts = true;
      from = (booked.way i).from;
      regular = (booked.way i).regular + x.task.job.value;
      displaced = (booked.way i).displaced;
      first = (booked.way i).first;
      took = false;
    }

    abbrev grown_way : ℕ → Open
    grown_way = at_one i grown booked.way

    grown_sum : (f : Open → ℕ) → sum_by (λ q. f (grown_way q)) (numbers_from 0 processors) + f (booked.way i)
        ≡ sum_by (λ q. f (booked.way q)) (numbers_from 0 processors) + f grown
    grown_sum f = omega (
      arith,
      sum_on (λ q. f (grown_way q)) (λ q. f (booked.way q)) i 0 processors i_member
          (λ j other. ap (λ b. f (cond b grown (booked.way j))) (ne_eqb _ _ other)),
      ap (λ b. f (cond b grown (booked.way i))) (eq-eqb i i refl),
    )

    y_stays : goes y ≡ y
    y_stays = ap (λ b. cond b (in_role y Done) y) (ne_eqb _ _ differs)

    grown_under : Under k i s.clock (map goes s.jobs) grown
    grown_under = record {
      none = λ e. never (sym e);
      some = λ e. (began, (goes y, map_member goes s.jobs y y_member, ap (is_own_of i) y_stays ∙ y_own));
      calm = λ e. (booked.under i i_low).calm calm;
      taker = λ e. never e;
    }

    pub goes_on_booked : Booked k v w processors ran
        (record { clock = s.clock; jobs = map goes s.jobs; pressed = pressed })
    goes_on_booked = record {
      closed = booked.closed;
      way = grown_way;
      regular = number_and_job x ∷ booked.regular;
      taken = booked.taken;
      gone = booked.gone;
      fell = booked.fell;
      lost = booked.lost;
      missed = booked.missed;
      ticks = booked.ticks;
      in_order = booked.in_order;
      ended = booked.ended;
      paid = booked.paid;
      under = λ q less. on_each (λ q o. q < processors → Under k q s.clock (map goes s.jobs) o) i grown booked.way
          (λ _. grown_under)
          (λ q other less. under_stays k q s.clock s.jobs goes (booked.way q) (stays q other) (booked.under q less))
          q less;
      done_sum = λ f. omega (arith, done_more f, sum_by-cons f (number_and_job x) booked.regular);
      gone_sum = gone_same;
      regular_sum = omega (
        arith,
        booked.regular_sum,
        sum_by-cons job_value (number_and_job x) booked.regular,
        grown_sum (λ o. o.regular),
      );
      taken_sum = booked.taken_sum;
      fallen_sum = omega (arith, booked.fallen_sum, falls, grown_sum (λ o. o.first));
      covered = λ τ before. omega (
        arith,
        booked.covered τ before,
        grown_sum (λ o. one (o.lasts && nat_le o.from τ)),
        ap (λ b. one (b && nat_le (booked.way i).from τ)) i_lasts,
      );
      busy = λ τ before. busy_before k v w processors ran J s booked keeps one_job pressed x x_member not_past Done
          (λ t. refl) (λ t. refl) booked.way grown_way booked.fell
          (λ p member on is_calm. on_each (λ q z. (booked.way q).took ≡ false → z.took ≡ false) i grown booked.way
          (λ _. refl) (λ q other e. e) p.owner is_calm)
          (booked.taken ++ booked.gone) τ (booked.busy τ before);
      ticks_paid = omega (
        arith,
        booked.ticks_paid,
        had_worth,
        ap (λ n. w * n) (grown_sum (λ o. o.regular + o.displaced)),
        ap (λ n. v * n) had_left,
      );
      taken_are = booked.taken_are;
      gone_are = λ o member. let it = booked.gone_are o member in record {
        light = omega (
          arith,
          it.light,
          sum_le (λ q. one (is_light_on k booked.way s.jobs o q))
              (λ q. one (is_light_on k grown_way (map goes s.jobs) o q))
              (numbers_from 0 processors)
              (λ q member. light_grows k booked.way grown_way s.jobs (map goes s.jobs) o q
              (on_each (λ q z. (booked.way q).lasts ≡ true → (z.lasts ≡ true) × (z.from ≡ (booked.way q).from)
              × ((booked.way q).regular + own_sum q value_of s.jobs ≤ z.regular
              + own_sum q value_of (map goes s.jobs))) i
              grown booked.way (λ _. (refl, refl, omega (arith, own_left)))
              (λ q other e. (e, refl, omega (arith, own_stays q goes (λ t. t.job.value) s.jobs (stays q other)))) q)),
        );
        reach = it.reach;
        dense = it.dense;
        before = it.before;
      };
    }
