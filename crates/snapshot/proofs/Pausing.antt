-- The lines of a paused feed are those of its snapshot.
use Rattle.std.proofs.Common.{◌≡◌, ◌≤◌, ◌<◌, ℕ, zero, suc, ◌-◌, ◌+◌, max, List, [], ◌∷◌, ◌++◌, length, map, take}
use Rattle.std.proofs.Common.{drop, refl, sym, ap, ◌∙◌, subst, Some, None, arith, codes, slice_get}
use Rattle.std.proofs.Common.{option_map, Bool, true, false, Option}
use Rattle.std.proofs.lemmas.List.{length-map}
use Rattle.dover_model.specs.declared.events.Task.{Task}
use Rattle.dover_model.specs.declared.events.Version.TheVariants.{Three}
use Rattle.dover_model.specs.Common.{most_jobs, most_lines, last_tick, account, Rules, Declaration, declared_by, Item}
use Rattle.dover_model.specs.Common.{JobItem, RefusedItem, FinishItem, admitted_jobs, Instance, in_lines, instance_of}
use Rattle.dover_model.specs.Common.{settled, settled_state}
use Rattle.dover_model.proofs.sessions.Accounts.{Holds}
use Rattle.dover_model.proofs.settled.Barriers.{settled_at_barrier}
use Rattle.dover_model.proofs.runs.Honest.{count_jobs}
use Rattle.dover_model.proofs.valid.Limiting.{jobs_most, lines_most, tick_most}
use Rattle.dover_model.proofs.valid.ValidParts.{valid_parts}
use Rattle.ready_server.specs.Roster.{Roll, ListedJob, job_at, roll_of, Kept}
use Rattle.ready_server.specs.declared.roster.ListedFinish.{ListedFinish}
use Rattle.ready_server.specs.declared.server.ReadyServer.{ReadyServer}
use Rattle.ready_server.proofs.RollFinishes.{places, few_finishes}
use Rattle.std.proofs.Common.{nat_le, ◌||◌, leb-true, leb-false, le-leb}
use Rattle.std.proofs.lemmas.Option.{slice_get-map, slice_get_within}
use Rattle.dover_model.proofs.lists.Members.{some_same}
use Rattle.dover_model.proofs.lists.Tests.{never}
use Rattle.ready_server.proofs.RollSettled.{settled_jobs}
use Rattle.snapshot.specs.Snapshot.{head_line, state_line, done_line, stored_lines, snapshot}
use Rattle.snapshot.specs.Pausing.{IsTakenTo, merged, lines_from, lines_left, first_line}
use Rattle.snapshot.proofs.Feeds.{holds, few, snapshot_is}
use Rattle.snapshot.proofs.RunsOn.{settled_places}

-- ---- jobs and finishes in order

-- the next job comes where no finish stands before it
pub next_job : (n : ℕ) (finishes : List ListedFinish) (t : Task) (tasks : List Task)
    → ((f : ListedFinish) (more : List ListedFinish) → finishes ≡ f ∷ more → n < f.behind)
    → merged n finishes (t ∷ tasks) ≡ state_line t ∷ merged (suc n) finishes tasks
next_job n [] t tasks later = refl
next_job n (f ∷ finishes) t tasks later =
    let low : n < f.behind = later f finishes refl in
    let one : f.behind - n ≡ suc (f.behind - suc n) = omega (arith, low) in
    ap (λ m. map state_line (take m (t ∷ tasks)) ++ done_line f.at f.number
    ∷ merged (max n f.behind) finishes (drop m (t ∷ tasks))) one
    ∙ ap (λ m. state_line t ∷ (map state_line (take (f.behind - suc n) tasks) ++ done_line f.at f.number
    ∷ merged m finishes (drop (f.behind - suc n) tasks)))
    (let e : max n f.behind ≡ max (suc n) f.behind = omega (arith, low) in e)

-- a finish comes where it stands before the next job
pub next_finish : (n : ℕ) (f : ListedFinish) (finishes : List ListedFinish) (tasks : List Task) → f.behind ≤ n
    → merged n (f ∷ finishes) tasks ≡ done_line f.at f.number ∷ merged n finishes tasks
next_finish n f finishes tasks low =
    ap (λ m. map state_line (take m tasks) ++ done_line f.at f.number
    ∷ merged (max n f.behind) finishes (drop m tasks)) (let e : f.behind - n ≡ 0 = omega (arith, low) in e)
    ∙ ap (λ m. done_line f.at f.number ∷ merged m finishes tasks)
    (let e : max n f.behind ≡ n = omega (arith, low) in e)

-- where no job is left, all finishes come, whatever their places
pub no_jobs : (n m : ℕ) (finishes : List ListedFinish) → merged n finishes [] ≡ merged m finishes []
no_jobs n m [] = refl
no_jobs n m (f ∷ finishes) = none (f.behind - n) (max n f.behind)
    ∙ ap (λ ls. done_line f.at f.number ∷ ls) (no_jobs (max n f.behind) (max m f.behind) finishes)
    ∙ sym (none (f.behind - m) (max m f.behind)) where
      none : (k top : ℕ) → map state_line (take k []) ++ done_line f.at f.number ∷ merged top finishes (drop k [])
          ≡ done_line f.at f.number ∷ merged top finishes []
      none zero top = refl
      none (suc k) top = refl

-- the first finish of items stands behind as many jobs as are in front of all
first_high : (n : ℕ) (items : List Item) (f : ListedFinish) (more : List ListedFinish) → places n items ≡ f ∷ more
    → n ≤ f.behind
first_high n [] f more is = absurd (let clash : [] ≡ f ∷ more = is in cc)
first_high n (JobItem j ∷ items) f more is = omega (arith, first_high (suc n) items f more is)
first_high n (RefusedItem r ∷ items) f more is = first_high n items f more is
first_high n (FinishItem e ∷ items) f more is =
    omega (arith, ap {B = ℕ} (λ (xs : List ListedFinish). elim xs [ [] ↦ 0 | x ∷ rest ↦ x.behind ]) is)

-- so the lines are those of the items
pub merged_items : (n : ℕ) (items : List Item) (tasks : List Task) → length (admitted_jobs items) ≡ length tasks
    → merged n (places n items) tasks ≡ stored_lines items tasks
merged_items n [] [] long = refl
merged_items n [] (t ∷ tasks) long = absurd (omega (arith, long))
merged_items n (JobItem j ∷ items) [] long = absurd (omega (arith, long))
merged_items n (JobItem j ∷ items) (t ∷ tasks) long =
    next_job n (places (suc n) items) t tasks (λ f more is. first_high (suc n) items f more is)
    ∙ ap (λ ls. state_line t ∷ ls) (merged_items (suc n) items tasks (omega (arith, long)))
merged_items n (RefusedItem r ∷ items) tasks long = merged_items n items tasks long
merged_items n (FinishItem f ∷ items) tasks long =
    next_finish n (record { at = f.at; number = f.finish.number; behind = n }) (places n items) tasks (omega arith)
    ∙ ap (λ ls. done_line f.at f.finish.number ∷ ls) (merged_items n items tasks long)

module _ (s : ReadyServer) (k : Kept) (lines mark : ℕ) (F : List ℕ) (it : IsTakenTo s k lines mark F) where
  abbrev J : Instance
  J = instance_of it.session

  -- what its account keeps
  kept : Holds it.session (account F).mark (account F).lines
  kept = holds F it.may it.session it.named

  -- it has few lines
  pub lines_few : lines ≤ most_lines Three
  lines_few = omega (
    arith,
    it.lines_are,
    few F it.may it.session it.named,
    lines_most it.session.rules.version,
  )

  -- its mark is a tick
  pub mark_known : mark ≤ last_tick
  mark_known = omega (arith, it.mark_is, kept.known, tick_most it.session.rules.version)

  -- its jobs as they stand
  jobs_are : map (job_at k.roll mark) k.roll.jobs ≡ (settled_state J mark).tasks
  jobs_are = ap (λ (p : Roll). map (job_at p mark) p.jobs) it.served.read
      ∙ subst (λ m. map (job_at (roll_of (settled J m)) m) (roll_of (settled J m)).jobs ≡ (settled_state J m).tasks)
      (sym it.mark_is) (settled_jobs J kept.reads.valid (account F).mark kept.reads.known)

  -- and its early finishes
  finishes_are : k.roll.finishes ≡ places 0 it.session.items
  finishes_are = ap (λ (p : Roll). p.finishes) it.served.read
      ∙ ap (λ m. (roll_of (settled J m)).finishes) it.mark_is
      ∙ settled_places it.session (account F).mark (account F).lines kept

  tasks_count : length (settled_state J mark).tasks ≡ length J.jobs
  tasks_count = omega (
    arith,
    count_jobs (settled_state J mark).tasks,
    ap length (settled_at_barrier J kept.reads.valid mark).keeps.jobs,
  )

  count : length k.roll.jobs ≡ length J.jobs
  count = omega (arith, length-map k.roll.jobs (job_at k.roll mark), ap length jobs_are, tasks_count)

  -- they are few
  pub jobs_few : length k.roll.jobs ≤ most_jobs Three
  jobs_few = omega (arith, count, (valid_parts kept.reads.valid).count, jobs_most it.session.rules.version)

  -- so are they
  pub finishes_few : length k.roll.finishes ≤ most_jobs Three
  finishes_few = omega (
    arith,
    ap (λ (p : Roll). length p.finishes) it.served.read,
    few_finishes J kept.reads.valid mark it.served.served.state (settled J mark) it.served.served.given.1,
    (valid_parts kept.reads.valid).count,
    jobs_most it.session.rules.version,
  )

  -- what stands between the first line and the last
  body_is : lines_from k.roll mark 0 0 ≡ stored_lines it.session.items (settled_state J mark).tasks
  body_is = ap (λ fs. merged 0 fs (map (job_at k.roll mark) k.roll.jobs)) finishes_are
      ∙ ap (merged 0 (places 0 it.session.items)) jobs_are
      ∙ merged_items 0 it.session.items (settled_state J mark).tasks (sym tasks_count)

  -- the lines are those of the snapshot
  pub text_is : in_lines (lines_left false false k.roll s.ready.rules lines mark 0 0) ≡ snapshot F
  text_is = ap (λ n. text s.ready.rules n lines mark (lines_from k.roll mark 0 0)) count
      ∙ ap (text s.ready.rules (length J.jobs) lines mark) body_is
      ∙ ap (λ r. text r (length J.jobs) lines mark (stored_lines it.session.items (settled_state J mark).tasks))
      (ap (λ (r : Rules). declared_by r) (sym it.served.served.follows.rules))
      ∙ ap (λ n. text it.session.rules (length J.jobs) n mark
      (stored_lines it.session.items (settled_state J mark).tasks)) it.lines_are
      ∙ ap (λ m. text it.session.rules (length J.jobs) (account F).lines m
      (stored_lines it.session.items (settled_state J m).tasks)) it.mark_is
      ∙ sym (snapshot_is F it.may it.session it.named)
    where
      text : Declaration → (jobs lines mark : ℕ) → List (List ℕ) → List ℕ
      text rules jobs n m body = in_lines (head_line (record { rules = rules; lines = n; mark = m; jobs = jobs })
          ∷ body ++ codes "resume" ∷ [])

-- ---- line by line

-- behind the last place there is nothing
slice_get_beyond : {X : Type 0} (xs : List X) (n : ℕ) → slice_get xs n ≡ None → length xs ≤ n
slice_get_beyond [] n is = omega arith
slice_get_beyond (y ∷ xs) zero is = absurd (let clash : Some y ≡ None = is in cc)
slice_get_beyond (y ∷ xs) (suc n) is = omega (arith, slice_get_beyond xs n is)

-- where neither test passes each fails
neither : (a b : Bool) → a || b ≡ false → (a ≡ false) × (b ≡ false)
neither false b fails = (refl, fails)
neither true b fails = never (sym fails)

-- a job that is there is among the jobs
pub job_within : (p : Roll) (mark job : ℕ) (t : Task) → option_map (job_at p mark) (slice_get p.jobs job) ≡ Some t
    → job < length p.jobs
job_within p mark job t is = omega (
  arith,
  length-map p.jobs (job_at p mark),
  slice_get_within (map (job_at p mark) p.jobs) job t (slice_get-map (job_at p mark) p.jobs job ∙ is),
)

-- what is left of a list from a member on
left_on : {X : Type 0} (xs : List X) (n : ℕ) (x : X) → slice_get xs n ≡ Some x → drop n xs ≡ x ∷ drop (suc n) xs
left_on [] n x is = absurd (let clash : None ≡ Some x = is in cc)
left_on (y ∷ xs) zero x is = ap (λ z. z ∷ xs) (some_same y x is)
left_on (y ∷ xs) (suc n) x is = left_on xs n x is

one_on : (n : ℕ) → suc n ≡ n + 1
one_on n = omega arith

next_left : {X : Type 0} (xs : List X) (n : ℕ) (x : X) → slice_get xs n ≡ Some x → drop n xs ≡ x ∷ drop (n + 1) xs
next_left xs n x is = left_on xs n x is ∙ ap (λ m. x ∷ drop m xs) (one_on n)

-- and behind the last
none_left : {X : Type 0} (xs : List X) (n : ℕ) → slice_get xs n ≡ None → drop n xs ≡ []
none_left [] zero is = refl
none_left [] (suc n) is = refl
none_left (y ∷ xs) zero is = absurd (let clash : Some y ≡ None = is in cc)
none_left (y ∷ xs) (suc n) is = none_left xs n is

all_left : {X : Type 0} (xs : List X) (n : ℕ) → length xs ≤ n → drop n xs ≡ []
all_left [] zero low = refl
all_left [] (suc n) low = refl
all_left (y ∷ xs) zero low = absurd (omega (arith, low))
all_left (y ∷ xs) (suc n) low = all_left xs n (omega (arith, low))

module _ (p : Roll) (rules : Declaration) (lines mark job finish : ℕ) where
  abbrev left_here : (begun over : Bool) → List (List ℕ)
  left_here begun over = lines_left begun over p rules lines mark job finish

  -- none is left
  pub over_left : (begun over : Bool) → over ≡ true → left_here begun over ≡ []
  over_left begun true is = refl
  over_left begun false is = never is

  -- the first
  pub first_left : (begun over : Bool) → begun ≡ false → over ≡ false
      → left_here begun over ≡ first_line p rules lines mark ∷ left_here true over
  first_left false false begun over = refl
  first_left true _ begun over = never (sym begun)
  first_left _ true begun over = never (sym over)

  -- the line of an early finish
  pub finish_left : (begun over : Bool) → begun ≡ true → over ≡ false → (f : ListedFinish)
      → slice_get p.finishes finish ≡ Some f → nat_le f.behind job || nat_le (length p.jobs) job ≡ true
      → left_here begun over
      ≡ done_line f.at f.number ∷ lines_left begun over p rules lines mark job (finish + 1)
  finish_left true false begun over f is next =
      ap (λ ls. ls ++ codes "resume" ∷ [])
      (ap (λ fs. merged job fs tasks) (next_left p.finishes finish f is) ∙ by (nat_le f.behind job) refl next) where
        tasks : List Task
        tasks = drop job (map (job_at p mark) p.jobs)

        rest : List ListedFinish
        rest = drop (finish + 1) p.finishes

        by : (b : Bool) → nat_le f.behind job ≡ b → b || nat_le (length p.jobs) job ≡ true
            → merged job (f ∷ rest) tasks ≡ done_line f.at f.number ∷ merged job rest tasks
        by true low next = next_finish job f rest tasks (leb-true f.behind job low)
        by false high next =
            ap (merged job (f ∷ rest)) none
            ∙ no_jobs job f.behind (f ∷ rest)
            ∙ next_finish f.behind f rest [] (omega arith)
            ∙ ap (λ ls. done_line f.at f.number ∷ ls) (no_jobs f.behind job rest ∙ ap (merged job rest) (sym none))
          where
            none : tasks ≡ []
            none = all_left (map (job_at p mark) p.jobs) job (omega (
              arith,
              leb-true (length p.jobs) job next,
              length-map p.jobs (job_at p mark),
            ))
  finish_left false _ begun over f is next = never begun
  finish_left _ true begun over f is next = never (sym over)

  -- the line of a job
  pub job_left : (begun over : Bool) → begun ≡ true → over ≡ false → (t : Task)
      → option_map (job_at p mark) (slice_get p.jobs job) ≡ Some t
      → ((f : ListedFinish) → slice_get p.finishes finish ≡ Some f
      → nat_le f.behind job || nat_le (length p.jobs) job ≡ false)
      → left_here begun over ≡ state_line t ∷ lines_left begun over p rules lines mark (job + 1) finish
  job_left true false begun over t is later =
      ap (λ ls. ls ++ codes "resume" ∷ [])
      (ap (merged job (drop finish p.finishes)) (next_left (map (job_at p mark) p.jobs) job t
      (slice_get-map (job_at p mark) p.jobs job ∙ is))
      ∙ by (slice_get p.finishes finish) refl) where
        tasks : List Task
        tasks = drop (job + 1) (map (job_at p mark) p.jobs)

        by : (o : Option ListedFinish) → slice_get p.finishes finish ≡ o
            → merged job (drop finish p.finishes) (t ∷ tasks)
            ≡ state_line t ∷ merged (job + 1) (drop finish p.finishes) tasks
        by None none = ap (λ fs. merged job fs (t ∷ tasks)) (none_left p.finishes finish none)
            ∙ ap (λ fs. state_line t ∷ merged (job + 1) fs tasks) (sym (none_left p.finishes finish none))
        by (Some f) some = ap (λ fs. merged job fs (t ∷ tasks)) (next_left p.finishes finish f some)
            ∙ next_job job (f ∷ drop (finish + 1) p.finishes) t tasks first
            ∙ ap (λ m. state_line t ∷ merged m (f ∷ drop (finish + 1) p.finishes) tasks) (one_on job)
            ∙ ap (λ fs. state_line t ∷ merged (job + 1) fs tasks) (sym (next_left p.finishes finish f some)) where
              first : (g : ListedFinish) (more : List ListedFinish) → f ∷ drop (finish + 1) p.finishes ≡ g ∷ more
                  → job < g.behind
              first g more e = omega (
                arith,
                leb-false f.behind job (neither (nat_le f.behind job) (nat_le (length p.jobs) job) (later f some)).0,
                ap {B = ℕ} (λ (xs : List ListedFinish). elim xs [ [] ↦ 0 | x ∷ rest ↦ x.behind ]) e,
              )
  job_left false _ begun over t is later = never begun
  job_left _ true begun over t is later = never (sym over)

  -- the last
  pub last_left : (begun over : Bool) → begun ≡ true → over ≡ false
      → option_map (job_at p mark) (slice_get p.jobs job) ≡ None
      → ((f : ListedFinish) → slice_get p.finishes finish ≡ Some f
      → nat_le f.behind job || nat_le (length p.jobs) job ≡ false)
      → left_here begun over ≡ codes "resume" ∷ lines_left begun true p rules lines mark job finish
  last_left true false begun over is later =
      ap (λ ts. merged job (drop finish p.finishes) ts ++ codes "resume" ∷ []) none
      ∙ by (slice_get p.finishes finish) refl where
        none : drop job (map (job_at p mark) p.jobs) ≡ []
        none = none_left (map (job_at p mark) p.jobs) job (slice_get-map (job_at p mark) p.jobs job ∙ is)

        beyond : (o : Option ListedJob) → slice_get p.jobs job ≡ o → option_map (job_at p mark) o ≡ None
            → length p.jobs ≤ job
        beyond None e f = slice_get_beyond p.jobs job e
        beyond (Some x) e f = absurd (let clash : Some (job_at p mark x) ≡ None = f in cc)

        by : (o : Option ListedFinish) → slice_get p.finishes finish ≡ o
            → merged job (drop finish p.finishes) [] ++ codes "resume" ∷ [] ≡ codes "resume" ∷ []
        by None e = ap (λ fs. merged job fs [] ++ codes "resume" ∷ []) (none_left p.finishes finish e)
        by (Some f) e = never (sym (neither (nat_le f.behind job) (nat_le (length p.jobs) job) (later f e)).1
            ∙ le-leb (length p.jobs) job (beyond (slice_get p.jobs job) refl is))
  last_left false _ begun over is later = never begun
  last_left _ true begun over is later = never (sym over)
