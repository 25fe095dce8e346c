-- The books along a run on several processors: the intervals that have ended, the one under way on each processor, and
-- what is known of each job that is over.
use Rattle.std.proofs.Common.{◌≡◌, ℕ, suc, zero, ◌+◌, ◌*◌, ◌≤◌, ◌<◌, ◌⊎◌, inl, inr, List, [], ◌∷◌, ◌++◌, length, map}
use Rattle.std.proofs.Common.{refl, sym, ap, ◌∙◌, Bool, true, false, cond, arith, sum_by, nat_le, not}
use Rattle.std.proofs.Common.{◌&&◌, ◌||◌}
use Rattle.std.proofs.Common.{◌==◌, eqb-true, eq-eqb}
use Rattle.std.proofs.lemmas.Bool.{and_parts}
use Rattle.std.specs.List.{count_by}
use Rattle.std.proofs.lemmas.List.Sums.{sum_by-cons}
use Rattle.dover_model.specs.declared.events.Task.{Task}
use Rattle.dover_model.specs.declared.events.Role.TheVariants.{Running}
use Rattle.dover_model.specs.Fraction.{Fraction}
use Rattle.dover_model.specs.Orders.{is_heavy}
use Rattle.dover_model.specs.Books.{Job, job_value, IsDense}
use Rattle.dover_model.specs.Common.{is_privileged, is_done, is_over, left, IsMember, Each, IsNumberedFrom}
use Rattle.dover_model.specs.Common.{value_sum, privileged}
use Rattle.dover_model.proofs.bound.Booking.{is_gone}
use Rattle.dover_model.proofs.bound.Counting.{one}
use Rattle.dover_model.proofs.lists.Tests.{never}
use Rattle.dover_model.proofs.lists.Members.{map_member, sum_same, sum_map, sum_filter}
use Rattle.dover_model.proofs.steps.Roles.{numbers_above}
use Rattle.many_processors.specs.State.{Placed, State, seen_by, seen_from}
use Rattle.many_processors.specs.Step.{is_own_of, numbers_from}
use Rattle.many_processors.specs.Books.{Interval, Over, job_of, open_at, given_at, EndInOrder, TakenIn, IsPaidTwice}
use Rattle.many_processors.specs.Books.{is_light_in}
use Rattle.many_processors.specs.Schedules.{ticks_given}
use Rattle.many_processors.proofs.steps.Seeing.{numbers_below}
use Rattle.many_processors.proofs.steps.Placing.{seen_same, own_seen, seen_own}

-- what is under way on a processor
pub record Open : Type 0 where
  pub lasts : Bool  -- whether an interval is
  pub from : ℕ
  pub regular : ℕ  -- the value of the jobs completed in it so far
  pub displaced : ℕ
  pub first : ℕ  -- the part of that which was displaced by its first take
  pub took : Bool

-- none is
abbrev pub shut : Open
shut = record { lasts = false; from = 0; regular = 0; displaced = 0; first = 0; took = false }

-- a sum over the jobs that run on processor q or are held on it
abbrev pub own_sum : ℕ → (Placed → ℕ) → List Placed → ℕ
own_sum q f jobs = sum_by (λ p. cond (is_own_of q p) (f p) 0) jobs

-- a sum over all that run or are held
abbrev pub placed_sum : (Placed → ℕ) → List Placed → ℕ
placed_sum f jobs = sum_by (λ p. cond (is_privileged p.task) (f p) 0) jobs

-- the value of a job
abbrev pub value_of : Placed → ℕ
value_of p = p.task.job.value

-- the job with its number
abbrev pub number_and_job : Placed → Job
number_and_job p = (p.task.number, p.task.job)

-- what the interval under way comes to, where all that runs or is held is completed
abbrev pub comes_to : (ℕ → Open) → List Placed → ℕ → ℕ
comes_to way jobs q = (way q).regular + own_sum q value_of jobs

-- an interval is under way in which the job is light so far
abbrev pub is_light_on : Fraction → (ℕ → Open) → List Placed → Over → ℕ → Bool
is_light_on k way jobs o q = ((way q).lasts && nat_le (way q).from o.at)
    && not (is_heavy k o.job.value (comes_to way jobs q))

-- the job that took a processor, alone there, with no laxity, and worth enough for what was displaced
pub record Taker (k : Fraction) (q displaced first clock : ℕ) (jobs : List Placed) : Type 0 where
  pub job : Placed
  pub member : IsMember job jobs
  pub runs : job.task.role ≡ Running
  pub owner : job.owner ≡ q
  pub alone : Each (λ p. is_own_of q p ≡ true → p.task.number ≡ job.task.number) jobs
  pub no_laxity : clock + left job.task ≡ job.task.job.deadline
  pub paid : IsPaidTwice k displaced first job.task.job.value

-- what is known of what is under way on processor q
pub record Under (k : Fraction) (q clock : ℕ) (jobs : List Placed) (o : Open) : Type 0 where
  pub none : o.lasts ≡ false → (o ≡ shut) × Each (λ p. is_own_of q p ≡ true → ⊥) jobs
  pub some : o.lasts ≡ true → (o.from ≤ clock) × ((p : Placed) × IsMember p jobs × (is_own_of q p ≡ true))
  pub calm : o.took ≡ false → (o.displaced ≡ 0) × (o.first ≡ 0)
  pub taker : o.took ≡ true → Taker k q o.displaced o.first clock jobs

-- what is known of an abandoned job: on each processor it is light in an interval
pub record GoneSoFar (k : Fraction) (v w processors : ℕ) (closed : List Interval) (way : ℕ → Open) (clock : ℕ)
    (jobs : List Placed) (o : Over) : Type 0 where
  pub light : processors ≤ count_by (is_light_in k o) closed
      + sum_by (λ q. one (is_light_on k way jobs o q)) (numbers_from 0 processors)
  pub reach : o.job.deadline ≤ o.at + o.job.work
  pub dense : IsDense k v w o.job
  pub before : o.at ≤ clock

-- the value of a job under way that fell: a first take displaced it
abbrev pub fallen_value : (ℕ → Bool) → Placed → ℕ
fallen_value fell p = cond (is_over p.task) 0 (cond (fell p.task.number) (value_of p) 0)

-- of all of them
abbrev pub fallen : (ℕ → Bool) → List Placed → ℕ
fallen fell jobs = sum_by (fallen_value fell) jobs

-- nothing is asked for the job: it fell, or it has a processor and didn't take it, so that it will be completed as
-- usual or fall
abbrev pub is_excused : (ℕ → Open) → (ℕ → Bool) → Placed → Bool
is_excused way fell p = fell p.task.number || (is_privileged p.task && not (way p.owner).took)

-- in a tick all processors gave it to some job, or each job that was ready and isn't excused had it
abbrev pub WasBusy : ℕ → List (List ℕ) → (ℕ → Open) → (ℕ → Bool) → List Placed → List Over → ℕ → Type 0
WasBusy processors ran way fell jobs overs τ = (processors ≤ length (given_at ran τ))
    ⊎ (Each (λ p. is_over p.task ≡ false → is_excused way fell p ≡ false → p.task.job.release ≤ τ
    → IsMember p.task.number (given_at ran τ)) jobs
    × Each (λ o. o.job.release ≤ τ → τ < o.at → IsMember o.number (given_at ran τ)) overs)

-- the books of a state, with what each tick before it was given to
pub record Booked (k : Fraction) (v w processors : ℕ) (ran : List (List ℕ)) (s : State) : Type 0 where
  pub closed : List Interval
  pub way : ℕ → Open
  pub regular : List Job
  pub taken : List Over
  pub gone : List Over
  pub fell : ℕ → Bool  -- by its number: a job that a first take displaced
  pub lost : List Job  -- of those the ones completed after a take
  pub missed : List Job  -- and abandoned
  pub ticks : length ran ≡ s.clock
  pub in_order : EndInOrder closed
  pub ended : Each (λ i. i.until ≤ s.clock) closed
  pub paid : Each (λ i. IsPaidTwice k i.displaced i.first i.taken) closed
  pub under : (q : ℕ) → q < processors → Under k q s.clock s.jobs (way q)
  pub done_sum : (f : Job → ℕ) → sum_by (λ p. cond (is_done p.task) (f (number_and_job p)) 0) s.jobs
      ≡ sum_by f regular + sum_by (λ o. f (job_of o)) taken + sum_by f lost
  pub gone_sum : (f : Job → ℕ) → sum_by (λ p. cond (is_gone p.task) (f (number_and_job p)) 0) s.jobs
      ≡ sum_by (λ o. f (job_of o)) gone + sum_by f missed
  pub regular_sum : sum_by job_value regular ≡ sum_by (λ i. i.regular) closed
      + sum_by (λ q. (way q).regular) (numbers_from 0 processors)
  pub taken_sum : sum_by (λ o. o.job.value) taken + sum_by job_value lost ≡ sum_by (λ i. i.taken) closed
  pub fallen_sum : sum_by job_value lost + sum_by job_value missed + fallen fell s.jobs
      ≤ sum_by (λ i. i.first) closed + sum_by (λ q. (way q).first) (numbers_from 0 processors)
  pub covered : (τ : ℕ) → τ < s.clock → open_at closed τ
      + sum_by (λ q. one ((way q).lasts && nat_le (way q).from τ)) (numbers_from 0 processors)
      ≤ length (given_at ran τ)
  pub busy : (τ : ℕ) → τ < s.clock → WasBusy processors ran way fell s.jobs (taken ++ gone) τ
  pub ticks_paid : v * sum_by length ran ≤ w * (sum_by (λ i. i.regular) closed + sum_by (λ i. i.displaced) closed
      + sum_by job_value lost + sum_by (λ q. (way q).regular + (way q).displaced) (numbers_from 0 processors))
      + (v * sum_by (λ o. o.had) taken + v * placed_sum (λ p. p.task.had) s.jobs)
  pub taken_are : Each (λ o. TakenIn v w o × (o.at ≤ s.clock) × (o.had ≤ ticks_given ran o.number o.job)) taken
  pub gone_are : Each (GoneSoFar k v w processors closed way s.clock s.jobs) gone

-- ---- who is excused

-- who fell is
pub excused_fell : (way : ℕ → Open) (fell : ℕ → Bool) (p : Placed) → fell p.task.number ≡ true
    → is_excused way fell p ≡ true
excused_fell way fell p e = ap (λ b. b || (is_privileged p.task && not (way p.owner).took)) e

-- so is who has a processor that nobody took
pub excused_on : (way : ℕ → Open) (fell : ℕ → Bool) (p : Placed) → is_privileged p.task ≡ true
    → (way p.owner).took ≡ false → is_excused way fell p ≡ true
excused_on way fell p on calm = last (fell p.task.number) (is_privileged p.task) (way p.owner).took on calm where
  last : (a b c : Bool) → b ≡ true → c ≡ false → (a || (b && not c)) ≡ true
  last true b c e f = refl
  last false true false e f = refl
  last false true true e f = never (sym f)
  last false false c e f = never e

-- nobody else is
pub excused_by : (way : ℕ → Open) (fell : ℕ → Bool) (p : Placed) → is_excused way fell p ≡ true
    → (fell p.task.number ≡ true) ⊎ ((is_privileged p.task ≡ true) × ((way p.owner).took ≡ false))
excused_by way fell p = parts (fell p.task.number) (is_privileged p.task) (way p.owner).took where
  parts : (a b c : Bool) → (a || (b && not c)) ≡ true → (a ≡ true) ⊎ ((b ≡ true) × (c ≡ false))
  parts true b c e = inl refl
  parts false true false e = inr (refl, refl)
  parts false true true e = never e
  parts false false c e = never e

-- where one test follows from another, it fails where that does
pub fails_too : (a b : Bool) → (a ≡ true → b ≡ true) → b ≡ false → a ≡ false
fails_too false b h e = refl
fails_too true b h e = never (sym e ∙ h refl)

-- ---- sums

-- the value of what a processor sees is that of its own jobs
pub seen_value : (s : State) (i : ℕ) → value_sum (privileged (seen_from i s)) ≡ own_sum i value_of s.jobs
seen_value s i = sum_filter is_privileged (λ t. t.job.value) (map (seen_by i) s.jobs)
    ∙ sum_map (seen_by i) (λ t. cond (is_privileged t) t.job.value 0) s.jobs
    ∙ sum_same (λ p. cond (is_privileged (seen_by i p)) (seen_by i p).job.value 0)
    (λ p. cond (is_own_of i p) (value_of p) 0) s.jobs (λ p member. same p (is_own_of i p) refl) where
      same : (p : Placed) → (b : Bool) → is_own_of i p ≡ b
          → cond (is_privileged (seen_by i p)) (seen_by i p).job.value 0 ≡ cond (is_own_of i p) (value_of p) 0
      same p true e =
          let both = and_parts (is_privileged p.task) (p.owner == i) e in
          let seen_p : seen_by i p ≡ p.task = own_seen i p (eqb-true _ _ both.1) in
          ap (λ (t : Task). cond (is_privileged t) t.job.value 0) seen_p
          ∙ ap (λ b. cond b (value_of p) 0) both.0 ∙ sym (ap (λ b. cond b (value_of p) 0) e)
      same p false e = ap (λ b. cond b (seen_by i p).job.value 0) (out (is_privileged (seen_by i p)) refl)
          ∙ sym (ap (λ b. cond b (value_of p) 0) e) where
            out : (b : Bool) → is_privileged (seen_by i p) ≡ b → is_privileged (seen_by i p) ≡ false
            out false f = f
            out true f =
                let own = seen_own i p f in
                never (sym e ∙ both_true (is_privileged p.task) (p.owner == i) (sym (ap is_privileged own.0) ∙ f)
                (eq-eqb _ _ own.1)) where
                  both_true : (a b : Bool) → a ≡ true → b ≡ true → (a && b) ≡ true
                  both_true true true e f = refl
                  both_true true false e f = never f
                  both_true false b e f = never e

-- a sum in which one term changes
pub sum_at : (f g : Placed → ℕ) (n : ℕ) (jobs : List Placed) (x : Placed) → IsNumberedFrom n (map (seen_by 0) jobs)
    → IsMember x jobs → Each (λ p. (p.task.number ≡ x.task.number → ⊥) → f p ≡ g p) jobs
    → sum_by f jobs + g x ≡ sum_by g jobs + f x
sum_at f g n [] x numbered member others = absurd member
sum_at f g n (y ∷ jobs) x numbered (inl e) others =
    let same : x.task.number ≡ n = ap (λ (p : Placed). p.task.number) e ∙ sym (seen_same 0 y).0 ∙ numbered.0 in
    let rest : sum_by f jobs ≡ sum_by g jobs =
    sum_same f g jobs (λ u m. others u (inr m)
    (λ twin. let above : suc n ≤ (seen_by 0 u).number = numbers_above (suc n) (map (seen_by 0) jobs) numbered.1
    (seen_by 0 u) (map_member (seen_by 0) jobs u m) in
    absurd (omega (arith, above, (seen_same 0 u).0, twin, same)))) in
    omega (arith, sum_by-cons f y jobs, sum_by-cons g y jobs, rest, ap f e, ap g e)
sum_at f g n (y ∷ jobs) x numbered (inr member) others =
    let at_y : f y ≡ g y = others y (inl refl)
    (λ twin. let above : suc n ≤ (seen_by 0 x).number = numbers_above (suc n) (map (seen_by 0) jobs) numbered.1
    (seen_by 0 x) (map_member (seen_by 0) jobs x member) in
    absurd (omega (arith, above, (seen_same 0 x).0, twin, (seen_same 0 y).0, numbered.0))) in
    omega (
      arith,
      sum_by-cons f y jobs,
      sum_by-cons g y jobs,
      sum_at f g (suc n) jobs x numbered.1 member (λ u m. others u (inr m)),
      at_y,
    )

-- the same over processors
pub sum_on : (f g : ℕ → ℕ) (i q more : ℕ) → IsMember i (numbers_from q more)
    → ((j : ℕ) → (i ≡ j → ⊥) → f j ≡ g j)
    → sum_by f (numbers_from q more) + g i ≡ sum_by g (numbers_from q more) + f i
sum_on f g i q zero member others = absurd member
sum_on f g i q (suc more) (inl e) others =
    let rest : sum_by f (numbers_from (suc q) more) ≡ sum_by g (numbers_from (suc q) more) =
    sum_same f g (numbers_from (suc q) more)
    (λ j m. others j (λ same. absurd (omega (arith, (numbers_below j (suc q) more m).0, same, e)))) in
    omega (
      arith,
      sum_by-cons f q (numbers_from (suc q) more),
      sum_by-cons g q (numbers_from (suc q) more),
      rest,
      ap f e,
      ap g e,
    )
sum_on f g i q (suc more) (inr member) others =
    let here : f q ≡ g q = others q
    (λ same. absurd (omega (arith, (numbers_below i (suc q) more member).0, same))) in
    omega (
      arith,
      sum_by-cons f q (numbers_from (suc q) more),
      sum_by-cons g q (numbers_from (suc q) more),
      sum_on f g i (suc q) more member others,
      here,
    )
