-- What is kept of a run.
use Rattle.std.proofs.Common.{◌≡◌, ℕ, ◌+◌, ◌≤◌, ◌<◌, inl, List, [], ◌∷◌, length, refl, sym, ap, ◌∙◌, subst, Bool, true}
use Rattle.std.proofs.Common.{false, cond, not, arith, ◌&&◌, Some, filter}
use Rattle.std.specs.List.{list_all}
use Rattle.std.proofs.lemmas.List.Sums.{length-filter, count_by-le-length}
use Rattle.dover_model.specs.Common.{last_tick, Fraction, IsRatio, Rules, Declaration, under, Instance, IsValid}
use Rattle.dover_model.specs.Common.{total_value, finishing, State, state_at, opening, is_over, is_done, value_sum}
use Rattle.dover_model.specs.Common.{Prints, open_step, view, event_of, AreOverFor, IsMember, Keeps, GoesOn, is_ready}
use Rattle.dover_model.specs.declared.events.Event.{Event}
use Rattle.dover_model.specs.declared.events.Task.{Task}
use Rattle.dover_model.proofs.lists.Members.{sum_filter, sum_le, sum_map, member_filter, all_each}
use Rattle.dover_model.proofs.steps.Kept.{opening_keeps}
use Rattle.dover_model.proofs.runs.Honest.{count_jobs}
use Rattle.dover_model.proofs.rest.Resting.{tick_keeps}
use Rattle.dover_model.proofs.lists.Tests.{not_true, never}
use Rattle.dover_model.proofs.finishes.Meeting.{finishing_valid}
use Rattle.dover_model.proofs.finishes.Further.{over_open}
use Rattle.dover_model.proofs.steps.Pressing.{over_calm}
use Rattle.dover_model.proofs.settled.Waiting.{some_goes_on}
use Rattle.dover_model.proofs.valid.Limiting.{jobs_most, total_most}
use Rattle.waiting_pool.specs.Reordered.{IsReordered}
use Rattle.ready_jobs.specs.Parts.{Parted, ready_of, state_of}
use Rattle.ready_jobs.specs.Following.{PartOf, IsPart}
use Rattle.ready_jobs.specs.Course.{Course, state_of_course, Follows, IsCourse, new_course, course_of, IsDue}
use Rattle.ready_jobs.specs.Deeds.{Finds, step_at}
use Rattle.ready_jobs.specs.declared.actions.Action.{Action}
use Rattle.waiting_pool.proofs.Reordering.{same_order, further, as_many}
use Rattle.ready_jobs.proofs.Doing.{prints_event}
use Rattle.ready_jobs.proofs.Following.{part_step}
use Rattle.dover_model.proofs.valid.ValidParts.{valid_parts, valid_from}

-- ---- what is kept

-- no elements
pub no_items : {X : Type 0} (xs : List X) → length xs ≡ 0 → xs ≡ []
no_items [] none = refl
no_items (x ∷ xs) none = absurd (omega arith)

-- some are ready where the test for none says no
pub some_jobs : (ts : List Task) (none : Bool) → none ≡ false → (ts ≡ [] → none ≡ true) → 0 < length ts
some_jobs [] none other is = never (sym other ∙ is refl)
some_jobs (t ∷ ts) none other is = omega arith

-- the deed that comes now, at whose step the event is printed
pub due_now : (c : Course) (at : ℕ) (deed : Action) (e : Event) → at ≡ c.clock
    → step_at c.clock deed ≡ open_step (under c.rules []) (state_of_course c)
    → Finds (view c.rules.version (state_of_course c)) deed → event_of (step_at at deed) ≡ Some e
    → IsDue c deed e
due_now c at deed e now comes finds is =
    let prints : step_at c.clock deed ≡ Prints e = ap (λ n. step_at n deed) (sym now)
    ∙ prints_event (step_at at deed) e is in
    record { prints = prints; opens = sym comes ∙ prints; finds = finds }

-- what silent steps and a printed one keep
pub kept_on : (c d e : Course) → d ≡ record c { clock = d.clock; ready = d.ready }
    → e ≡ record d { pressed = e.pressed; ready = e.ready; done = e.done }
    → e ≡ record c { clock = e.clock; pressed = e.pressed; ready = e.ready; done = e.done }
kept_on c d e one next =
    next ∙ ap (λ (q : Course). record q { pressed = e.pressed; ready = e.ready; done = e.done }) one
    ∙ ap (λ n. record c { clock = n; pressed = e.pressed; ready = e.ready; done = e.done })
    (sym (ap (λ (q : Course). q.clock) next))

-- the course of no jobs
pub new_follows : (rules : Declaration) (room : ℕ) → IsRatio rules.ratio
    → Follows (new_course rules room) (record { rules = under rules []; jobs = [] }) (opening [])
new_follows rules room ratio = record {
  valid = valid_from (record {
    ratio = ratio;
    each = tt;
    due = omega arith;
    in_order = tt;
    count = omega arith;
    total = omega arith;
    densities = tt;
  });
  keeps = opening_keeps (record { rules = under rules []; jobs = [] });
  rules = refl;
  own = λ f m. absurd m;
  over = λ f m. absurd m;
  clock = refl;
  pressed = refl;
  ready = same_order [];
  jobs = refl;
  done = refl;
  known = omega arith;
  released = λ t m. absurd m;
}

module _ (c : Course) (J : Instance) (z : State) (follows : Follows c J z) where
  -- the jobs are as many as those of the instance
  pub follows_count : c.jobs ≡ length J.jobs
  follows_count = sym follows.jobs ∙ sym (count_jobs z.tasks) ∙ ap length follows.keeps.jobs

  -- no more are ready than were released
  pub follows_fewer : length c.ready ≤ c.jobs
  follows_fewer = omega (
    arith,
    as_many (filter is_ready z.tasks) c.ready follows.ready,
    length-filter is_ready z.tasks,
    count_by-le-length is_ready z.tasks,
    follows.jobs,
  )

  -- the jobs done aren't worth too much
  pub follows_modest : c.done ≤ 999_999_999_999_999_999
  follows_modest = let modest : total_value J.jobs ≤ 999_999_999_999_999_999 =
      omega (arith, (valid_parts follows.valid).total, total_most J.rules.version) in
      let all : value_sum z.tasks ≡ total_value J.jobs = sym (sum_map (λ (t : Task). t.job) (λ j. j.value) z.tasks)
      ∙ ap total_value follows.keeps.jobs in
      omega (
        arith,
        follows.done,
        sum_filter is_done (λ t. t.job.value) z.tasks,
        sum_le (λ t. cond (is_done t) t.job.value 0) (λ t. t.job.value) z.tasks
            (λ t m. at_most (is_done t) t.job.value),
      ) where
        at_most : (b : Bool) (n : ℕ) → cond b n 0 ≤ n
        at_most true n = omega arith
        at_most false n = omega arith

  -- where some are ready, some job isn't over
  pub follows_goes_on : (0 < length c.ready) → GoesOn z
  follows_goes_on some = by_ready c.ready (λ t m. follows.ready.back t m) some where
    by_ready : (ts : List Task) → ((t : Task) → IsMember t ts → IsMember t (filter is_ready z.tasks)) → 0 < length ts
        → GoesOn z
    by_ready [] back h = absurd (omega arith)
    by_ready (t ∷ ts) back h =
        let it : IsMember t z.tasks × (is_ready t ≡ true) = member_filter is_ready z.tasks t (back t (inl refl)) in
        some_goes_on z t it.0 (not_true (is_over t) it.1)

  -- where none is ready, all jobs are over
  pub follows_over : c.ready ≡ [] → list_all is_over z.tasks ≡ true
  follows_over none = all_over z.tasks (λ t m. subst (IsMember t) none (follows.ready.there t m)) where
    all_over : (ts : List Task) → ((t : Task) → IsMember t (filter is_ready ts) → ⊥) → list_all is_over ts ≡ true
    all_over [] no_one = refl
    all_over (t ∷ ts) no_one = by_test (is_over t) refl no_one (all_over ts) where
      by_test : (b : Bool) → is_over t ≡ b
          → ((u : Task) → IsMember u (cond (not b) (t ∷ filter is_ready ts) (filter is_ready ts)) → ⊥)
          → (((u : Task) → IsMember u (filter is_ready ts) → ⊥) → list_all is_over ts ≡ true)
          → (b && list_all is_over ts) ≡ true
      by_test true over rest more = more rest
      by_test false ready rest more = absurd (rest t (inl refl))

-- where none is ready, the state isn't pressed
pub none_pressed : (c : Course) (J : Instance) (z : State) → Follows c J z → c.ready ≡ [] → c.pressed ≡ false
none_pressed c J z follows none = sym follows.pressed
    ∙ over_calm z follows.keeps.pressed (all_each is_over z.tasks (follows_over c J z follows none))

-- a course is kept as well with other room
pub follows_room : (c : Course) (room : ℕ) (J : Instance) (z : State) → Follows c J z
    → Follows (record c { room = room }) J z
follows_room c room J z follows = record {
  valid = follows.valid;
  keeps = follows.keeps;
  rules = follows.rules;
  own = follows.own;
  over = follows.over;
  clock = follows.clock;
  pressed = follows.pressed;
  ready = follows.ready;
  jobs = follows.jobs;
  done = follows.done;
  known = follows.known;
  released = follows.released;
}

-- and with its jobs in another order
pub follows_order : (c : Course) (ready : List Task) (J : Instance) (z : State) → Follows c J z
    → IsReordered c.ready ready → Follows (record c { ready = ready }) J z
follows_order c ready J z follows same = record {
  valid = follows.valid;
  keeps = follows.keeps;
  rules = follows.rules;
  own = follows.own;
  over = follows.over;
  clock = follows.clock;
  pressed = follows.pressed;
  ready = further (filter is_ready z.tasks) c.ready ready follows.ready same;
  jobs = follows.jobs;
  done = follows.done;
  known = follows.known;
  released = follows.released;
}

-- the jobs are few enough to be counted
pub course_few : (c : Course) → IsCourse c → c.jobs ≤ 4_000_000_000
course_few c old =
    let J : Instance = old.0 in
    omega (
      arith,
      follows_count c J old.1 old.2,
      (valid_parts old.2.valid).count,
      jobs_most J.rules.version,
    )

-- with other rules, where no job was released
pub declared_course : (c : Course) (rules : Declaration) → IsCourse c → c.jobs ≡ 0 → IsRatio rules.ratio
    → IsCourse (record c { rules = rules })
declared_course c rules old none ratio =
    let J : Instance = old.0 in
    let z : State = old.1 in
    let follows : Follows c J z = old.2 in
    let empty : [] ≡ J.jobs = sym (no_items J.jobs (sym (follows_count c J z follows) ∙ none)) in (
      record { rules = under rules []; jobs = J.jobs },
      z,
      record {
        valid = subst (λ jobs. IsValid (record { rules = under rules []; jobs = jobs })) empty
            (new_follows rules 0 ratio).valid;
        keeps = record
            { sound = follows.keeps.sound; jobs = follows.keeps.jobs; pressed = follows.keeps.pressed };
        rules = refl;
        own = λ f m. absurd m;
        over = λ f m. absurd m;
        clock = follows.clock;
        pressed = follows.pressed;
        ready = follows.ready;
        jobs = follows.jobs;
        done = follows.done;
        known = follows.known;
        released = follows.released;
      },
    )

-- the state of no jobs, at any tick
pub none_keeps : (rules : Rules) → IsValid (record { rules = rules; jobs = [] }) → (clock : ℕ)
    → Keeps (record { rules = rules; jobs = [] }) (state_at clock [])
none_keeps rules valid clock =
    tick_keeps (record { rules = rules; jobs = [] }) valid clock (λ j member. absurd member) clock (omega arith)

-- where none is ready, the course is also kept of no jobs
pub renewed_follows : (c : Course) → IsCourse c → length c.ready ≡ 0
    → Follows (record c { jobs = 0; done = 0 }) (record { rules = under c.rules []; jobs = [] })
    (state_at c.clock [])
renewed_follows c old none =
    let ratio : IsRatio c.rules.ratio =
    subst (λ (rules : Rules). IsRatio rules.ratio) old.2.rules (valid_parts old.2.valid).ratio in
    let valid : IsValid (record { rules = under c.rules []; jobs = [] }) =
    (new_follows c.rules 0 ratio).valid in
    let calm : c.pressed ≡ false = none_pressed c old.0 old.1 old.2 (no_items c.ready none) in record {
      valid = valid;
      keeps = none_keeps (under c.rules []) valid c.clock;
      rules = refl;
      own = λ f m. absurd m;
      over = λ f m. absurd m;
      clock = refl;
      pressed = sym calm;
      ready = subst (λ (ts : List Task). IsReordered ts c.ready) (no_items c.ready none) (same_order c.ready);
      jobs = refl;
      done = refl;
      known = omega (arith, old.2.clock, old.2.known);
      released = λ t m. absurd m;
    }

pub renewed_course : (c : Course) → IsCourse c → length c.ready ≡ 0 → IsCourse (record c { jobs = 0; done = 0 })
renewed_course c old none = (
  record { rules = under c.rules []; jobs = [] },
  state_at c.clock [],
  renewed_follows c old none,
)

-- with its clock at 0 it is that of no jobs
pub restarted : (k : Fraction) (p q : Parted) (jobs done : ℕ) → IsCourse (course_of k p jobs done)
    → length (ready_of p) ≡ 0 → q ≡ record p { clock = 0 }
    → course_of k q 0 0 ≡ new_course (record { ratio = k; version = p.version }) p.room
restarted k p q jobs done old none is =
    let c : Course = course_of k p jobs done in
    let empty : ready_of p ≡ [] = no_items (ready_of p) none in
    let calm : p.pressed ≡ false = none_pressed c old.0 old.1 old.2 empty in
    ap (λ (r : Parted). course_of k r 0 0) is
    ∙ ap (λ (ts : List Task). record (new_course c.rules c.room) { pressed = p.pressed; ready = ts }) empty
    ∙ ap (λ b. record (new_course c.rules c.room) { pressed = b }) calm

pub restarted_course : (c : Course) → IsCourse c → IsCourse (new_course c.rules c.room)
restarted_course c old = (
  record { rules = under c.rules []; jobs = [] },
  opening [],
  new_follows c.rules c.room
      (subst (λ (rules : Rules). IsRatio rules.ratio) old.2.rules (valid_parts old.2.valid).ratio),
)

-- where no job was released, none is ready
pub none_ready : (c : Course) → IsCourse c → c.jobs ≡ 0 → c.ready ≡ []
none_ready c old none = let z : State = old.1 in
    let empty : z.tasks ≡ [] = no_items z.tasks (old.2.jobs ∙ none) in
    no_items _ (as_many (filter is_ready z.tasks) c.ready old.2.ready ∙ ap (λ ts. length (filter is_ready ts)) empty)

-- ---- the ready jobs by their roles

module _ (k : Fraction) (p : Parted) (jobs done : ℕ) (J : Instance) (z : State)
    (follows : Follows (course_of k p jobs done) J z) where
  -- the jobs, where none finishes early
  abbrev plain : Instance
  plain = finishing J []

  -- the ready jobs are a part of the whole, whatever finished before
  pub follows_part : PartOf p plain z
  follows_part = record {
    valid = finishing_valid J [] follows.valid;
    keeps = record { sound = follows.keeps.sound; jobs = follows.keeps.jobs; pressed = follows.keeps.pressed };
    version = ap (λ (r : Rules). r.version) follows.rules;
    clock = follows.clock;
    pressed = follows.pressed;
    ready = follows.ready;
    released = follows.released;
  }

  -- with the next open step
  pub follows_step : open_step (record { ratio = k; version = p.version; finishes = [] }) (state_of p)
      ≡ open_step J.rules z
  follows_step = ap (λ r. open_step r (state_of p)) (sym follows.rules) ∙ part_step p plain z follows_part
      ∙ sym (over_open J.rules z follows.over)

  module _ (q : Parted) (more : ℕ) (y : State) (part : PartOf q plain y) (over : AreOverFor J.rules.finishes y)
      (version : q.version ≡ p.version)
      (worth : value_sum (filter is_done y.tasks) ≡ value_sum (filter is_done z.tasks) + more)
      (known : y.clock ≤ last_tick) where
    -- the course goes on
    pub follows_on : Follows (course_of k q jobs (done + more)) J y
    follows_on = record {
      valid = follows.valid;
      keeps = record { sound = part.keeps.sound; jobs = part.keeps.jobs; pressed = part.keeps.pressed };
      own = follows.own;
      over = over;
      rules = follows.rules ∙ ap (λ v. record { ratio = k; version = v; finishes = [] }) (sym version);
      clock = part.clock;
      pressed = part.pressed;
      ready = part.ready;
      jobs = sym (count_jobs y.tasks) ∙ ap length (part.keeps.jobs ∙ sym follows.keeps.jobs) ∙ count_jobs z.tasks
          ∙ follows.jobs;
      done = worth ∙ ap (λ n. n + more) follows.done;
      known = known;
      released = part.released;
    }

-- they are a part of some whole
pub course_part : (k : Fraction) (p : Parted) (jobs done : ℕ) → IsCourse (course_of k p jobs done)
    → IsPart (record { ratio = k; version = p.version; finishes = [] }) p
course_part k p jobs done old =
    (finishing old.0 [], old.1, follows_part k p jobs done old.0 old.1 old.2, old.2.rules)
