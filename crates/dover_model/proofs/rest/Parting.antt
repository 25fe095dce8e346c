-- What schedules of all jobs give to the jobs of a part, and sums of bounds.
use Rattle.std.proofs.Common.{◌≡◌, ℕ, suc, ◌+◌, ◌-◌, ◌^◌, ◌≤◌, ◌<◌, inl, inr, List, [], ◌∷◌, ◌++◌, length, drop, take}
use Rattle.std.proofs.Common.{map, refl, sym, ap, ◌∙◌, subst, arith, cond, eqb, Bool, true, false, IsTrue, count_by}
use Rattle.std.proofs.Common.{sum_by, filter, le-leb, leb-true, eqb-true, eq-eqb, ne_eqb}
use Rattle.std.specs.List.{enumerate_from, AllByRecursion}
use Rattle.std.proofs.lemmas.List.{take-map, drop-map}
use Rattle.std.proofs.lemmas.List.Sums.{sum_by-cons, sum_by-append}
use Rattle.dover_model.specs.Common.{JobFacts, Fraction, Rules, Instance, IsValid, total_value, ticks_given, is_served}
use Rattle.dover_model.specs.Common.{worth, Meets, IsWithin, bound, completed_value, run, takes_or_abandons, IsMember}
use Rattle.dover_model.specs.Common.{Each, Turn, turn_under, turns_jobs, one_run, completed_turns, part_of, intervals}
use Rattle.dover_model.specs.Common.{Job}
use Rattle.dover_model.specs.Parts.{IsParted, part_under, completed_in_parts, bounds_of_parts}
use Rattle.dover_model.proofs.lists.Members.{sum_le, sum_plus, term_le_sum, all_member, member_filter, each_cons}
use Rattle.dover_model.proofs.bound.GreatestLaws.{bound-is}
use Rattle.dover_model.proofs.runs.Runs.{none_lost, all_value}
use Rattle.dover_model.proofs.bound.BoundLaws.{bound as no_more, intervals_abandon}
use Rattle.dover_model.proofs.bound.Calculus.{within_less, within_add, none_within}
use Rattle.dover_model.proofs.valid.Limiting.{total_most}
use Rattle.dover_model.proofs.valid.ValidParts.{valid_parts}

-- ---- a schedule under other numbers

-- a tick of a number is a tick of the number that it goes to
pub count_map : (f : ℕ → ℕ) (a b : ℕ) → f a ≡ b → (xs : List ℕ)
    → count_by (λ m. eqb m a) xs ≤ count_by (λ m. eqb m b) (map f xs)
count_map f a b to [] = omega arith
count_map f a b to (x ∷ xs) = by_test (eqb x a) refl (count_map f a b to xs) where
  by_test : (c : Bool) → eqb x a ≡ c → count_by (λ m. eqb m a) xs ≤ count_by (λ m. eqb m b) (map f xs)
      → count_by (λ m. eqb m a) (x ∷ xs) ≤ count_by (λ m. eqb m b) (map f (x ∷ xs))
  by_test true same rest =
      let is : eqb (f x) b ≡ true = eq-eqb (f x) b (ap f (eqb-true x a same) ∙ to) in
      let one : cond {A = ℕ} (eqb x a) 1 0 ≡ 1 = ap {B = ℕ} (λ c. cond c 1 0) same in
      let other : cond {A = ℕ} (eqb (f x) b) 1 0 ≡ 1 = ap {B = ℕ} (λ c. cond c 1 0) is in
      omega (
        arith,
        one,
        other,
        rest,
        sum_by-cons (λ m. cond (eqb m a) 1 0) x xs,
        sum_by-cons (λ m. cond (eqb m b) 1 0) (f x) (map f xs),
      )
  by_test false apart rest =
      let nothing : cond {A = ℕ} (eqb x a) 1 0 ≡ 0 = ap {B = ℕ} (λ c. cond c 1 0) apart in
      omega (
        arith,
        nothing,
        rest,
        sum_by-cons (λ m. cond (eqb m a) 1 0) x xs,
        sum_by-cons (λ m. cond (eqb m b) 1 0) (f x) (map f xs),
      )

-- a job is served under the number that its own goes to
pub served_map : (f : ℕ → ℕ) (s : List ℕ) (a b : ℕ) (j : JobFacts) → f a ≡ b → IsTrue (is_served s (a, j))
    → IsTrue (is_served (map f s) (b, j))
served_map f s a b j to served =
    let enough : j.work ≤ ticks_given s a j = leb-true _ _ served in
    let more : ticks_given s a j ≤ count_by (λ m. eqb m b) (map f (drop j.release (take j.deadline s))) =
    count_map f a b to (drop j.release (take j.deadline s)) in
    let same : map f (drop j.release (take j.deadline s)) ≡ drop j.release (take j.deadline (map f s)) =
    sym (ap (drop j.release) (take-map f j.deadline s) ∙ drop-map f j.release (take j.deadline s)) in
    let given : count_by (λ m. eqb m b) (map f (drop j.release (take j.deadline s))) ≡ ticks_given (map f s) b j =
    ap (count_by (λ m. eqb m b)) same in
    le-leb j.work (ticks_given (map f s) b j) (omega arith)

-- what a job is worth to a schedule
abbrev pub worth_to : List ℕ → Job → ℕ
worth_to s n_j = cond (is_served s n_j) n_j.1.value 0

-- it is worth no less under the number that its own goes to
worth_map : (f : ℕ → ℕ) (s : List ℕ) (a b : ℕ) (j : JobFacts) → f a ≡ b → worth_to s (a, j) ≤ worth_to (map f s) (b, j)
worth_map f s a b j to = by_test (is_served s (a, j)) refl where
  by_test : (c : Bool) → is_served s (a, j) ≡ c → cond c j.value 0 ≤ worth_to (map f s) (b, j)
  by_test false e = omega arith
  by_test true e = subst (λ c. j.value ≤ cond c j.value 0) (sym (served_map f s a b j to e)) (omega arith)

-- the numbers go to those from k on
abbrev pub AllPlaced : (ℕ → ℕ) → ℕ → List Job → Type 0
AllPlaced f k [] = Unit {0}
AllPlaced f k (n_j ∷ ns) = (f n_j.0 ≡ k) × AllPlaced f (k + 1) ns

module _ (f : ℕ → ℕ) (s : List ℕ) where
  -- all of them are worth no less
  pub worth_placed : (k : ℕ) (ns : List Job) → AllPlaced f k ns
      → sum_by (worth_to s) ns ≤ sum_by (worth_to (map f s)) (enumerate_from k (map (λ n_j. n_j.1) ns))
  worth_placed k [] placed = omega arith
  worth_placed k (n_j ∷ ns) placed = omega (
    arith,
    sum_by-cons (worth_to s) n_j ns,
    sum_by-cons (worth_to (map f s)) (k, n_j.1) (enumerate_from (k + 1) (map (λ (x : Job). x.1) ns)),
    worth_map f s n_j.0 k n_j.1 placed.0,
    worth_placed (k + 1) ns placed.1,
  )

  -- all of them are served where all were
  pub served_placed : (k : ℕ) (ns : List Job) → AllPlaced f k ns → Each (λ n_j. IsTrue (is_served s n_j)) ns
      → AllByRecursion (λ n_j. IsTrue (is_served (map f s) n_j)) (enumerate_from k (map (λ n_j. n_j.1) ns))
  served_placed k [] placed all = tt
  served_placed k (n_j ∷ ns) placed all = (
    served_map f s n_j.0 k n_j.1 placed.0 (all n_j (inl refl)),
    served_placed (k + 1) ns placed.1 (λ x member. all x (inr member)),
  )

-- ---- the place of a number

-- the numbers rise from a least one on
abbrev pub Rises : ℕ → List Job → Type 0
Rises low [] = Unit {0}
Rises low (n_j ∷ ns) = (low ≤ n_j.0) × Rises (suc n_j.0) ns

-- the place of a number, counted from k on
abbrev pub place : ℕ → List Job → ℕ → ℕ
place k [] m = k
place k (n_j ∷ ns) m = cond (eqb m n_j.0) k (place (k + 1) ns m)

-- they rise from a lesser number on as well
rises_less : (low low2 : ℕ) (ns : List Job) → low2 ≤ low → Rises low ns → Rises low2 ns
rises_less low low2 [] less rise = tt
rises_less low low2 (n_j ∷ ns) less rise = (let from : low ≤ n_j.0 = rise.0 in omega arith, rise.1)

-- jobs under their numbers rise
pub numbers_rise : (k : ℕ) (jobs : List JobFacts) → Rises k (enumerate_from k jobs)
numbers_rise k [] = tt
numbers_rise k (j ∷ jobs) = (
  omega arith,
  subst (λ l. Rises l (enumerate_from (k + 1) jobs)) (let e : k + 1 ≡ suc k = omega arith in e)
      (numbers_rise (k + 1) jobs),
)

-- so do some of them
pub filter_rises : (p : Job → Bool) (low : ℕ) (ns : List Job) → Rises low ns → Rises low (filter p ns)
filter_rises p low [] rise = tt
filter_rises p low (n_j ∷ ns) rise = by_test (p n_j) (filter_rises p (suc n_j.0) ns rise.1) where
  by_test : (b : Bool) → Rises (suc n_j.0) (filter p ns) → Rises low (cond b (n_j ∷ filter p ns) (filter p ns))
  by_test true rest = (rise.0, rest)
  by_test false rest = rises_less (suc n_j.0) low (filter p ns) (let from : low ≤ n_j.0 = rise.0 in omega arith) rest

-- what is the same from the least number on places them the same
placed_same : (f g : ℕ → ℕ) (k low : ℕ) (ns : List Job) → Rises low ns → ((m : ℕ) → low ≤ m → f m ≡ g m)
    → AllPlaced g k ns → AllPlaced f k ns
placed_same f g k low [] rise same placed = tt
placed_same f g k low (n_j ∷ ns) rise same placed = (
  same n_j.0 rise.0 ∙ placed.0,
  placed_same f g (k + 1) (suc n_j.0) ns rise.1
      (λ m above. same m (let from : low ≤ n_j.0 = rise.0 in omega arith)) placed.1,
)

-- the places of rising numbers
pub places : (k low : ℕ) (ns : List Job) → Rises low ns → AllPlaced (place k ns) k ns
places k low [] rise = tt
places k low (n_j ∷ ns) rise = (
  ap (λ b. cond b k (place (k + 1) ns n_j.0)) (eq-eqb n_j.0 n_j.0 refl),
  placed_same (place k (n_j ∷ ns)) (place (k + 1) ns) (k + 1) (suc n_j.0) ns rise.1
      (λ m above. ap (λ b. cond b k (place (k + 1) ns m)) (ne_eqb m n_j.0 (λ same. omega arith)))
      (places (k + 1) (suc n_j.0) ns rise.1),
)

-- ---- parts

module _ (owner : ℕ → ℕ) (jobs : List JobFacts) where
  -- the jobs of a part, under their numbers among all
  abbrev pub part_jobs : ℕ → List Job
  part_jobs part = filter (λ n_j. eqb (owner n_j.0) part) (enumerate_from 0 jobs)

  -- a schedule of all jobs, under the numbers of the part
  abbrev pub restricted : ℕ → List ℕ → List ℕ
  restricted part s = map (place 0 (part_jobs part)) s

  -- the jobs of the part are placed
  part_placed : (part : ℕ) → AllPlaced (place 0 (part_jobs part)) 0 (part_jobs part)
  part_placed part = places 0 0 (part_jobs part)
      (filter_rises (λ n_j. eqb (owner n_j.0) part) 0 (enumerate_from 0 jobs) (numbers_rise 0 jobs))

  -- a sum over jobs that are each in some part is at most that over the parts
  sum_parts : (f : Job → ℕ) (parts : List ℕ) (ns : List Job) → Each (λ n_j. IsMember (owner n_j.0) parts) ns
      → sum_by f ns ≤ sum_by (λ part. sum_by f (filter (λ n_j. eqb (owner n_j.0) part) ns)) parts
  sum_parts f parts [] each = omega arith
  sum_parts f parts (n_j ∷ ns) each =
      let here : f n_j ≤ sum_by (λ part. cond (eqb (owner n_j.0) part) (f n_j) 0) parts = own in
      let rest : sum_by f ns ≤ sum_by (λ part. sum_by f (filter (λ x. eqb (owner x.0) part) ns)) parts =
      sum_parts f parts ns (λ x member. each x (inr member)) in
      let both : sum_by (λ part. cond (eqb (owner n_j.0) part) (f n_j) 0 + sum_by f
      (filter (λ x. eqb (owner x.0) part) ns)) parts
      ≡ sum_by (λ part. cond (eqb (owner n_j.0) part) (f n_j) 0) parts + sum_by
      (λ part. sum_by f (filter (λ x. eqb (owner x.0) part) ns)) parts =
      sum_plus (λ part. cond (eqb (owner n_j.0) part) (f n_j) 0)
      (λ part. sum_by f (filter (λ x. eqb (owner x.0) part) ns)) parts in
      let all : sum_by (λ part. cond (eqb (owner n_j.0) part) (f n_j) 0 + sum_by f
      (filter (λ x. eqb (owner x.0) part) ns)) parts
      ≤ sum_by (λ part. sum_by f (filter (λ x. eqb (owner x.0) part) (n_j ∷ ns))) parts =
      sum_le (λ part. cond (eqb (owner n_j.0) part) (f n_j) 0 + sum_by f (filter (λ x. eqb (owner x.0) part) ns))
      (λ part. sum_by f (filter (λ x. eqb (owner x.0) part) (n_j ∷ ns))) parts
      (λ part member. one (eqb (owner n_j.0) part) part) in
      omega (arith, sum_by-cons f n_j ns) where
        own : f n_j ≤ sum_by (λ part. cond (eqb (owner n_j.0) part) (f n_j) 0) parts
        own = subst (λ b. cond b (f n_j) 0 ≤ sum_by (λ part. cond (eqb (owner n_j.0) part) (f n_j) 0) parts)
            (eq-eqb (owner n_j.0) (owner n_j.0) refl)
            (term_le_sum (λ part. cond (eqb (owner n_j.0) part) (f n_j) 0) parts (owner n_j.0) (each n_j (inl refl)))

        one : (b : Bool) (part : ℕ) → cond b (f n_j) 0 + sum_by f (filter (λ x. eqb (owner x.0) part) ns)
            ≤ sum_by f (cond b (n_j ∷ filter (λ x. eqb (owner x.0) part) ns) (filter (λ x. eqb (owner x.0) part) ns))
        one true part = omega (arith, sum_by-cons f n_j (filter (λ x. eqb (owner x.0) part) ns))
        one false part = omega arith

  -- a schedule of all jobs is worth at most what it is worth to the parts
  pub worth_parted : (rules : Rules) (of_part : ℕ → Rules) (parts : List ℕ) (s : List ℕ) → IsParted owner parts jobs
      → worth (record { rules = rules; jobs = jobs }) s ≤ sum_by
      (λ part. worth (part_under of_part owner jobs part) (restricted part s)) parts
  worth_parted rules of_part parts s parted =
      let split : sum_by (worth_to s) (enumerate_from 0 jobs) ≤ sum_by
      (λ part. sum_by (worth_to s) (part_jobs part)) parts =
      sum_parts (worth_to s) parts (enumerate_from 0 jobs) parted in
      let each : sum_by (λ part. sum_by (worth_to s) (part_jobs part)) parts
      ≤ sum_by (λ part. worth (part_under of_part owner jobs part) (restricted part s)) parts =
      sum_le (λ part. sum_by (worth_to s) (part_jobs part))
      (λ part. worth (part_under of_part owner jobs part) (restricted part s)) parts
      (λ part member. worth_placed (place 0 (part_jobs part)) s 0 (part_jobs part) (part_placed part)) in
      omega arith

-- ---- bounds

-- what is within many values is together within their sum
pub within_sum : {X : Type 0} (k : Fraction) (f g : X → ℕ) (xs : List X) → Each (λ x. IsWithin k (f x) (g x)) xs
    → IsWithin k (sum_by f xs) (sum_by g xs)
within_sum k f g [] all = none_within k
within_sum k f g (x ∷ xs) all = subst (λ c. IsWithin k c (sum_by g (x ∷ xs))) (sym (sum_by-cons f x xs))
    (subst (λ a. IsWithin k (f x + sum_by f xs) a) (sym (sum_by-cons g x xs))
    (within_add k (f x) (sum_by f xs) (g x) (sum_by g xs) (all x (inl refl))
    (within_sum k f g xs (λ y member. all y (inr member)))))

-- a run completes at most the sum of all values
completed_most : (J : Instance) → IsValid J → completed_value J < 10 ^ 18
completed_most J valid =
    let all : completed_value J + sum_by (λ i. i.abandoned) (intervals J) ≡ sum_by (λ j. j.value) J.jobs =
    intervals_abandon J valid in
    omega (arith, (valid_parts valid).total, total_most J.rules.version)

-- each schedule of a valid instance is worth at most its bound
pub bound_most : (J : Instance) (s : List ℕ) → IsValid J → worth J s ≤ bound J.rules.ratio (completed_value J)
bound_most J s valid =
    (bound-is J.rules.ratio (completed_value J) (valid_parts valid).ratio (completed_most J valid)).greatest (worth J s)
    (no_more J s valid)

-- ---- the bound of parts

-- with a ratio for all of them
pub bound_parted : (rules : Rules) (owner : ℕ → ℕ) (parts : List ℕ) (jobs : List JobFacts) (s : List ℕ)
    → IsParted owner parts jobs
    → Each (λ part. IsValid (part_under (λ _. rules) owner jobs part)) parts
    → IsWithin rules.ratio (worth (record { rules = rules; jobs = jobs }) s)
    (completed_in_parts (λ _. rules) owner parts jobs)
bound_parted rules owner parts jobs s parted valid =
    within_less rules.ratio (worth (record { rules = rules; jobs = jobs }) s)
    (sum_by (λ part. worth (part_under (λ _. rules) owner jobs part) (restricted owner jobs part s)) parts)
    (completed_in_parts (λ _. rules) owner parts jobs) (worth_parted owner jobs rules (λ _. rules) parts s parted)
    (within_sum rules.ratio (λ part. worth (part_under (λ _. rules) owner jobs part) (restricted owner jobs part s))
    (λ part. completed_value (part_under (λ _. rules) owner jobs part)) parts
    (λ part member. no_more (part_under (λ _. rules) owner jobs part) (restricted owner jobs part s)
    (valid part member)))

-- with a ratio for each
pub bounds_parted : (J : Instance) (rules : ℕ → Rules) (owner : ℕ → ℕ) (parts : List ℕ) (s : List ℕ)
    → IsParted owner parts J.jobs
    → Each (λ part. IsValid (part_under rules owner J.jobs part)) parts
    → worth J s ≤ bounds_of_parts rules owner parts J.jobs
bounds_parted J rules owner parts s parted valid =
    let split : worth J s ≤ sum_by
    (λ part. worth (part_under rules owner J.jobs part) (restricted owner J.jobs part s)) parts =
    worth_parted owner J.jobs J.rules rules parts s parted in
    let each : sum_by (λ part. worth (part_under rules owner J.jobs part) (restricted owner J.jobs part s)) parts
    ≤ bounds_of_parts rules owner parts J.jobs =
    sum_le (λ part. worth (part_under rules owner J.jobs part) (restricted owner J.jobs part s))
    (λ part. bound (rules part).ratio (completed_value (part_under rules owner J.jobs part))) parts
    (λ part member. bound_most (part_under rules owner J.jobs part) (restricted owner J.jobs part s)
    (valid part member)) in
    omega arith

-- where one schedule serves all jobs, each part takes_or_abandons nothing
pub meets_parted : (J : Instance) (rules : Rules) (owner : ℕ → ℕ) (part : ℕ) → Meets J
    → Meets (part_under (λ _. rules) owner J.jobs part)
meets_parted J rules owner part meets = (
  restricted owner J.jobs part meets.0,
  served_placed (place 0 (part_jobs owner J.jobs part)) meets.0 0 (part_jobs owner J.jobs part)
      (part_placed owner J.jobs part)
      (λ n_j member. all_member (λ x. IsTrue (is_served meets.0 x)) (enumerate_from 0 J.jobs) meets.1 n_j
      (member_filter (λ x. eqb (owner x.0) part) (enumerate_from 0 J.jobs) n_j member).0),
)

-- so it completes all of its value
pub part_loses_nothing : (J : Instance) (rules : Rules) (owner : ℕ → ℕ) (part : ℕ) → Meets J
    → IsValid (part_under (λ _. rules) owner J.jobs part)
    → completed_value (part_under (λ _. rules) owner J.jobs part) ≡ total_value (part_of owner part J.jobs)
part_loses_nothing J rules owner part meets valid =
    all_value (part_under (λ _. rules) owner J.jobs part) valid (meets_parted J rules owner part meets)

-- ---- one list behind another

-- numbers of one list behind another
pub enumerate_append : (k : ℕ) (jobs more : List JobFacts)
    → enumerate_from k (jobs ++ more) ≡ enumerate_from k jobs ++ enumerate_from (k + length jobs) more
enumerate_append k [] more = ap (λ m. enumerate_from m more) (omega arith)
enumerate_append k (j ∷ jobs) more = ap (λ xs. (k, j) ∷ xs)
    (enumerate_append (k + 1) jobs more ∙ ap (λ m. enumerate_from (k + 1) jobs ++ enumerate_from m more) (omega arith))

-- all of both
all_append : (P : Job → Type 0) (xs ys : List Job) → AllByRecursion P (xs ++ ys) → AllByRecursion P xs
    × AllByRecursion P ys
all_append P [] ys all = (tt, all)
all_append P (x ∷ xs) ys all = let rest = all_append P xs ys all.1 in ((all.0, rest.0), rest.1)

-- the jobs without their numbers
jobs_alone : (k : ℕ) (jobs : List JobFacts) → map (λ n_j. n_j.1) (enumerate_from k jobs) ≡ jobs
jobs_alone k [] = refl
jobs_alone k (j ∷ jobs) = ap (λ js. j ∷ js) (jobs_alone (k + 1) jobs)

-- the numbers behind n go down to those from k on
placed_behind : (n k : ℕ) (more : List JobFacts) → AllPlaced (λ m. m - n) k (enumerate_from (n + k) more)
placed_behind n k [] = tt
placed_behind n k (j ∷ more) = (
  omega arith,
  subst (λ m. AllPlaced (λ l. l - n) (k + 1) (enumerate_from m more))
      (let e : n + (k + 1) ≡ n + k + 1 = omega arith in e) (placed_behind n (k + 1) more),
)

module _ (rules : Rules) where
  -- the instance of one list
  abbrev of_rules : List JobFacts → Instance
  of_rules jobs = record { rules = rules; jobs = jobs }

  -- a schedule of both lists is worth at most what it is worth to each
  pub worth_append : (jobs more : List JobFacts) (s : List ℕ)
      → worth (of_rules (jobs ++ more)) s ≤ worth (of_rules jobs) s + worth (of_rules more)
      (map (λ m. m - length jobs) s)
  worth_append jobs more s =
      let split : sum_by (worth_to s) (enumerate_from 0 (jobs ++ more))
      ≡ sum_by (worth_to s) (enumerate_from 0 jobs) + sum_by (worth_to s) (enumerate_from (0 + length jobs) more) =
      ap (sum_by (worth_to s)) (enumerate_append 0 jobs more)
      ∙ sum_by-append (worth_to s) (enumerate_from 0 jobs) (enumerate_from (0 + length jobs) more) in
      let low : sum_by (worth_to s) (enumerate_from (length jobs + 0) more)
      ≤ sum_by (worth_to (map (λ m. m - length jobs) s))
      (enumerate_from 0 (map (λ (x : Job). x.1) (enumerate_from (length jobs + 0) more))) =
      worth_placed (λ m. m - length jobs) s 0 (enumerate_from (length jobs + 0) more)
      (placed_behind (length jobs) 0 more) in
      let same : sum_by (worth_to (map (λ m. m - length jobs) s))
      (enumerate_from 0 (map (λ (x : Job). x.1) (enumerate_from (length jobs + 0) more)))
      ≡ sum_by (worth_to (map (λ m. m - length jobs) s)) (enumerate_from 0 more) =
      ap (λ js. sum_by (worth_to (map (λ m. m - length jobs) s)) (enumerate_from 0 js))
      (jobs_alone (length jobs + 0) more) in
      let first : sum_by (worth_to s) (enumerate_from (0 + length jobs) more) ≡ sum_by (worth_to s)
      (enumerate_from (length jobs + 0) more) =
      ap (λ m. sum_by (worth_to s) (enumerate_from m more)) (omega arith) in
      omega arith

  -- a schedule that serves both serves each
  pub meets_append : (jobs more : List JobFacts) → Meets (of_rules (jobs ++ more)) → Meets (of_rules jobs)
      × Meets (of_rules more)
  meets_append jobs more meets =
      let both = all_append (λ n_j. IsTrue (is_served meets.0 n_j)) (enumerate_from 0 jobs)
      (enumerate_from (length jobs + 0) more)
      (subst (AllByRecursion (λ n_j. IsTrue (is_served meets.0 n_j)))
      (enumerate_append 0 jobs more ∙ ap (λ m. enumerate_from 0 jobs ++ enumerate_from m more) (omega arith))
      meets.1) in (
        (meets.0, both.0),
        (
          map (λ m. m - length jobs) meets.0,
          subst (λ js. AllByRecursion (λ n_j. IsTrue (is_served (map (λ m. m - length jobs) meets.0) n_j))
              (enumerate_from 0 js))
              (jobs_alone (length jobs + 0) more)
              (served_placed (λ m. m - length jobs) meets.0 0 (enumerate_from (length jobs + 0) more)
              (placed_behind (length jobs) 0 more)
              (all_member (λ n_j. IsTrue (is_served meets.0 n_j)) (enumerate_from (length jobs + 0) more) both.1)),
        ),
      )

  -- where one schedule serves the jobs of all turns, no turn takes_or_abandons anything
  pub none_lost_in_turn : (turns : List Turn) → Each (λ turn. IsValid (turn_under rules turn)) turns
      → Meets (one_run rules turns)
      → Each (λ turn. Each (λ x. takes_or_abandons x.move ≡ false) (run (turn_under rules turn))) turns
  none_lost_in_turn [] valid meets = λ turn member. absurd member
  none_lost_in_turn (turn ∷ turns) valid meets =
      let both = meets_append turn.jobs (turns_jobs turns) meets in
      each_cons (λ t. Each (λ x. takes_or_abandons x.move ≡ false) (run (turn_under rules t))) turn turns
      (none_lost (turn_under rules turn) (valid turn (inl refl)) both.0)
      (none_lost_in_turn turns (λ t member. valid t (inr member)) both.1)

  -- and together they complete the value of all
  pub all_value_in_turn : (turns : List Turn) → Each (λ turn. IsValid (turn_under rules turn)) turns
      → Meets (one_run rules turns)
      → completed_turns rules turns ≡ total_value (turns_jobs turns)
  all_value_in_turn [] valid meets = refl
  all_value_in_turn (turn ∷ turns) valid meets =
      let both = meets_append turn.jobs (turns_jobs turns) meets in
      let here : completed_value (turn_under rules turn) ≡ total_value turn.jobs =
      all_value (turn_under rules turn) (valid turn (inl refl)) both.0 in
      let rest : completed_turns rules turns ≡ total_value (turns_jobs turns) =
      all_value_in_turn turns (λ t member. valid t (inr member)) both.1 in
      let sums : total_value (turn.jobs ++ turns_jobs turns) ≡ total_value turn.jobs + total_value (turns_jobs turns) =
      values_append turn.jobs (turns_jobs turns) in
      omega (arith, sum_by-cons (λ t. completed_value (turn_under rules t)) turn turns) where
        values_append : (xs ys : List JobFacts) → total_value (xs ++ ys) ≡ total_value xs + total_value ys
        values_append [] ys = omega arith
        values_append (x ∷ xs) ys = omega (
          arith,
          sum_by-cons (λ (j : JobFacts). j.value) x (xs ++ ys),
          sum_by-cons (λ (j : JobFacts). j.value) x xs,
          values_append xs ys,
        )
