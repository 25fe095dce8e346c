-- What is kept of a run over a printed step, a finish and a release.
use Rattle.std.proofs.Common.{◌≡◌, ℕ, ◌+◌, ◌≤◌, ◌<◌, ◌⊎◌, inl, inr, List, [], ◌∷◌, ◌++◌, length, refl, sym, ap, ◌∙◌}
use Rattle.std.proofs.Common.{subst, Bool, true, false, cond, arith, eqb, Option, Some, None, option_to_list, filter}
use Rattle.std.proofs.Common.{sum_by, eq-eqb}
use Rattle.std.proofs.lemmas.List.Sums.{sum_by-cons, sum_by-append}
use Rattle.dover_model.specs.Common.{Fraction, JobFacts, Instance, finishing, with_finishes, Finish, State, is_over}
use Rattle.dover_model.specs.Common.{is_done, is_running, running, value_sum, Prints, Ticks, open_step, after}
use Rattle.dover_model.specs.Common.{with_role, is_end, AreOverFor, finish_now, IsMember, Each, PrintsNext, is_ready}
use Rattle.dover_model.specs.declared.events.Role.TheVariants.{Fresh, Running, Done}
use Rattle.dover_model.specs.declared.events.Event.{Event}
use Rattle.dover_model.specs.declared.events.Event.TheVariants.{Complete, End}
use Rattle.dover_model.specs.declared.events.Task.{Task}
use Rattle.dover_model.proofs.lists.Members.{member_filter, term_le_sum, member_either, on_map, found, member_front}
use Rattle.dover_model.proofs.lists.Members.{member_behind, filter_member, some_same}
use Rattle.dover_model.proofs.steps.Roles.{passes, is_running_role}
use Rattle.dover_model.proofs.finishes.Readiness.{runner}
use Rattle.dover_model.proofs.steps.Deeds.{Deed as RunDeed, Completed}
use Rattle.dover_model.proofs.rest.Resting.{numbers_below}
use Rattle.dover_model.proofs.lists.Tests.{never, none_is_some}
use Rattle.dover_model.proofs.finishes.Meeting.{finishing_valid}
use Rattle.dover_model.proofs.finishes.Further.{over_open}
use Rattle.dover_model.proofs.finishes.OverFor.{over_after, over_then}
use Rattle.dover_model.specs.Step.{pressed_after}
use Rattle.dover_model.proofs.steps.ReadyParts.{change}
use Rattle.waiting_pool.specs.Reordered.{IsReordered}
use Rattle.ready_jobs.specs.Parts.{Parted, HaveRoles, ready_of, state_of}
use Rattle.ready_jobs.specs.Following.{PartOf}
use Rattle.ready_jobs.specs.Course.{Course, Follows, IsCourse, course_of, fresh_job, with_release, ComesNext, Takes}
use Rattle.ready_jobs.specs.Course.{IsDue, Finishes, RunsNowhere}
use Rattle.ready_jobs.specs.Deeds.{Does}
use Rattle.ready_jobs.specs.declared.actions.Action.{Action}
use Rattle.waiting_pool.proofs.Reordering.{further, exchanged}
use Rattle.waiting_pool.proofs.Places.{between}
use Rattle.ready_jobs.specs.Changed.{Leaves, AreOnce, named, completed}
use Rattle.ready_jobs.proofs.Changes.{once_numbered, once_some, once_still, map_each, completes}
use Rattle.ready_jobs.proofs.Seeing.{running_list}
use Rattle.ready_jobs.proofs.Following.{part_moves, part_does, there, ready_once}
use Rattle.ready_jobs.proofs.Courses.{follows_order, follows_part, follows_step, follows_on}
use Rattle.ready_jobs.proofs.SilentCourses.{over_next}

-- ---- printed steps

module _ (k : Fraction) (p q : Parted) (jobs done worth : ℕ) (e : Event)
    (prints : open_step (record { ratio = k; version = p.version; finishes = [] }) (state_of p) ≡ Prints e)
    (version : q.version ≡ p.version) (clock : q.clock ≡ p.clock)
    (pressed : q.pressed ≡ pressed_after e p.pressed (ready_of q))
    (leaves : Leaves (change (Prints e)) (ready_of p) (ready_of q) worth) where
  -- the course after a printed step
  pub course_takes : (J : Instance) (z : State) → Follows (course_of k p jobs done) J z
      → Follows (course_of k q jobs (done + worth)) J (after z (Prints e))
  course_takes J z follows =
      let is : open_step J.rules z ≡ Prints e = sym (follows_step k p jobs done J z follows) ∙ prints in
      let it = part_moves p (finishing J []) z (follows_part k p jobs done J z follows) q (Prints e) worth
      (sym (over_open J.rules z follows.over) ∙ is) version (follows.clock ∙ sym clock) pressed leaves in
      follows_on k p jobs done J z follows q worth (after z (Prints e)) it.0
      (subst (λ m. AreOverFor J.rules.finishes (after z m)) is
      (over_after J follows.valid z follows.keeps J.rules J.rules.finishes follows.over)) version it.1 follows.known

  -- is a course again
  pub takes_course : IsCourse (course_of k p jobs done) → IsCourse (course_of k q jobs (done + worth))
  takes_course old = (old.0, after old.1 (Prints e), course_takes old.0 old.1 old.2)

-- ---- a finish

module _ (k : Fraction) (p : Parted) (jobs done : ℕ) (roles : HaveRoles p) (r : Task) (runs : p.running ≡ Some r)
    (J : Instance) (z : State) (follows : Follows (course_of k p jobs done) J z) where
  -- the job is among all
  runs_there : IsMember r z.tasks
  runs_there = there p (finishing J []) z (follows_part k p jobs done J z follows) r
      (member_front (option_to_list p.running) (option_to_list p.fresh ++ (p.held ++ p.waiting)) r here) where
        here : IsMember r (option_to_list p.running)
        here = subst (λ o. IsMember r (option_to_list o)) (sym runs) (inl refl)

  -- in its role
  runs_so : r.role ≡ Running
  runs_so = roles.running r (subst (λ o. IsMember r (option_to_list o)) (sym runs) (inl refl))

  -- so it is the one that runs
  pub runs_now : running z ≡ Some r
  runs_now = runner z follows.keeps.sound r runs_there runs_so

  -- the parts without it
  abbrev rest : Parted
  rest = completed p

  -- the state in which it is done
  abbrev done_then : State
  done_then = after z (Prints (Complete z.clock r.number))

  -- the jobs, with its finish
  abbrev finished : Instance
  finished = with_finishes J (finish_now r ∷ [])

  -- the course without it
  pub finish_follows : Follows (course_of k rest jobs (done + r.job.value)) finished done_then
  finish_follows = record {
    valid = finishing_valid J finished.rules.finishes follows.valid;
    keeps = record { sound = it.keeps.sound; jobs = it.keeps.jobs; pressed = it.keeps.pressed };
    rules = it.rules;
    own = λ f m. by_finish f (member_either J.rules.finishes (finish_now r ∷ []) f m);
    over = λ f m. over_finish f (member_either J.rules.finishes (finish_now r ∷ []) f m);
    clock = it.clock;
    pressed = it.pressed;
    ready = it.ready;
    jobs = it.jobs;
    done = it.done;
    known = it.known;
    released = it.released;
  } where
    part : PartOf p (finishing J []) z
    part = follows_part k p jobs done J z follows

    deed : RunDeed k z Ticks (Prints (Complete z.clock r.number))
    deed = Completed r runs_there runs_so

    moved : PartOf rest (finishing J []) done_then
        × (value_sum (filter is_done done_then.tasks) ≡ value_sum (filter is_done z.tasks) + r.job.value)
    moved = part_does p (finishing J []) z part k rest (Prints (Complete z.clock r.number)) r.job.value deed refl
        follows.clock refl (completes p roles (ready_once p (finishing J []) z part) r runs)

    it : Follows (course_of k rest jobs (done + r.job.value)) J done_then
    it = follows_on k p jobs done J z follows rest r.job.value done_then moved.0
        (over_then k z follows.keeps.sound _ deed J.rules.finishes follows.over) refl moved.1 follows.known

    by_finish : (f : Finish) → IsMember f J.rules.finishes ⊎ IsMember f (finish_now r ∷ []) → f.number < length J.jobs
    by_finish f (inl m) = follows.own f m
    by_finish f (inr (inl e)) = subst (λ (g : Finish). g.number < length J.jobs) (sym e)
        (numbers_below J z follows.keeps r runs_there)
    by_finish f (inr (inr m)) = absurd m

    is_done_then : (t : Task) → t.number ≡ r.number → (b : Bool) → eqb t.number r.number ≡ b
        → is_over (with_role t (cond b Done t.role)) ≡ true
    is_done_then t same true e = refl
    is_done_then t same false e = never (sym e ∙ eq-eqb t.number r.number same)

    over_finish : (f : Finish) → IsMember f J.rules.finishes ⊎ IsMember f (finish_now r ∷ [])
        → Each (λ t. t.number ≡ f.number → is_over t ≡ true) done_then.tasks
    over_finish f (inl m) = it.over f m
    over_finish f (inr (inl e)) = subst (λ (g : Finish). Each (λ t. t.number ≡ g.number → is_over t ≡ true)
        done_then.tasks) (sym e) (on_map (λ t. with_role t (cond (eqb t.number r.number) Done t.role))
        (λ t. t.number ≡ r.number → is_over t ≡ true) _ (λ t m same. is_done_then t same (eqb t.number r.number) refl))
    over_finish f (inr (inr m)) = absurd m

-- where no job runs in these parts, none runs
pub none_runs_now : (k : Fraction) (p : Parted) (jobs done : ℕ) → HaveRoles p → p.running ≡ None
    → (J : Instance) (z : State) → Follows (course_of k p jobs done) J z → running z ≡ None
none_runs_now k p jobs done roles none J z follows = by_running (running z) refl where
  by_running : (o : Option Task) → running z ≡ o → o ≡ None
  by_running None e = refl
  by_running (Some r) e =
      let it : IsMember r z.tasks × (is_running r ≡ true) = found is_running z.tasks r e in
      let here : IsMember r (ready_of p) = follows.ready.there r (filter_member is_ready z.tasks r it.0
      (passes is_ready r Running true (is_running_role r it.1) refl)) in
      let one : IsMember r (filter is_running (ready_of p)) = filter_member is_running (ready_of p) r here it.1 in
      absurd (subst (λ o. IsMember r (option_to_list o)) none (subst (IsMember r) (running_list p roles) one))

module _ (k : Fraction) (p q : Parted) (jobs done worth : ℕ) (roles : HaveRoles p) (r : Task)
    (runs : p.running ≡ Some r) (rests : q ≡ completed p) (is : worth ≡ r.job.value) where
  -- wherever the course is kept of, the job may finish, and the other is kept
  pub course_finishes : (n : ℕ) → r.number ≡ n
      → Finishes (course_of k p jobs done) n (course_of k q jobs (done + worth))
  course_finishes n named J z follows = (
    r,
    runs_now k p jobs done roles r runs J z follows,
    named,
    subst (λ m. Follows (course_of k q jobs (done + worth)) (with_finishes J (finish_now r ∷ []))
        (after z (Prints (Complete z.clock m)))) named
        (subst (λ o. Follows (course_of k o jobs (done + worth)) (with_finishes J (finish_now r ∷ []))
        (after z (Prints (Complete z.clock r.number)))) (sym rests)
        (subst (λ v. Follows (course_of k (completed p) jobs (done + v))
        (with_finishes J (finish_now r ∷ []))
        (after z (Prints (Complete z.clock r.number)))) (sym is)
        (finish_follows k p jobs done roles r runs J z follows))),
  )

  -- which is a course again
  pub finished_course : IsCourse (course_of k p jobs done) → IsCourse (course_of k q jobs (done + worth))
  finished_course old = let it = course_finishes r.number refl old.0 old.1 old.2 in
      (with_finishes old.0 (finish_now it.0 ∷ []), after old.1 (Prints (Complete old.1.clock r.number)), it.3)

-- no job but the running one runs
pub runs_nowhere : (k : Fraction) (p : Parted) (jobs done : ℕ) → HaveRoles p → (n : ℕ)
    → ((r : Task) → p.running ≡ Some r → r.number ≡ n → ⊥) → RunsNowhere (course_of k p jobs done) n
runs_nowhere k p jobs done roles n other J z follows r runs named = by_running p.running refl where
  by_running : (o : Option Task) → p.running ≡ o → ⊥
  by_running None none = none_is_some (sym (none_runs_now k p jobs done roles none J z follows) ∙ runs)
  by_running (Some s) is = other s is
      (ap (λ (t : Task). t.number) (some_same s r (sym (runs_now k p jobs done roles s is J z follows) ∙ runs)) ∙ named)

-- the end changes nothing
end_stays : (s : State) (value : ℕ) → after s (Prints (End value)) ≡ s
end_stays s value = ap (λ ts. record s { tasks = ts })
    (map_each (λ t. with_role t t.role) s.tasks (λ t m. refl))

-- where the end is taken, it is printed next
pub ends_next : (c d : Course) (e : Event) → Takes c e d → is_end (Prints e) ≡ true → ComesNext c d e
ends_next c d (End value) it last = λ J z follows.
    let next : (y : State) × Follows it.there J y × PrintsNext J.rules z (End value) y = it.comes J z follows in
    (next.0, subst (Follows d J) (end_stays next.0 value) (it.passes J next.0 next.1), next.2)
ends_next c d _ it last = never last

-- where no job is ready, the end is taken
pub over_takes : (c : Course) → c.ready ≡ [] → Takes c (End c.done) c
over_takes c none = record {
  there = c;
  comes = λ J z follows. (z, follows, over_next c J z follows none);
  passes = λ J z follows. subst (Follows c J) (sym (end_stays z c.done)) follows;
  clock = refl;
}

-- the deed that is due of the course is that of its jobs
pub due_does : (k : Fraction) (p : Parted) (jobs done : ℕ) (deed : Action) (e : Event)
    → IsDue (course_of k p jobs done) deed e → Does p deed e
due_does k p jobs done deed e due = record { prints = due.prints; next = (k, due.opens); finds = due.finds }

-- ---- a release

-- the ready jobs have numbers of their own
follows_once : (c : Course) (J : Instance) (z : State) → Follows c J z → AreOnce c.ready
follows_once c J z follows = once_still (filter is_ready z.tasks) c.ready follows.ready
    (once_some is_ready z.tasks (once_numbered 0 z.tasks follows.keeps.sound.numbered))

module _ (c : Course) (j : JobFacts) (more : IsCourse (with_release c j c.room)) where
  abbrev n : ℕ
  n = c.jobs

  -- no other job is fresh
  pub release_stale : (f : Task) → IsMember f c.ready → f.role ≡ Fresh → ⊥
  release_stale f m fresh =
      let follows : Follows (with_release c j c.room) more.0 more.1 = more.2 in
      let there : (t : Task) → IsMember t (c.ready ++ fresh_job c j ∷ []) → IsMember t more.1.tasks = λ t k.
      (member_filter is_ready more.1.tasks t (follows.ready.back t k)).0 in
      let same : f.number ≡ n = follows.keeps.sound.one_fresh f (fresh_job c j)
      (there f (member_front c.ready (fresh_job c j ∷ []) f m))
      (there (fresh_job c j) (member_behind c.ready (fresh_job c j ∷ []) (fresh_job c j) (inl refl))) fresh refl in
      let once : sum_by (named n) (c.ready ++ fresh_job c j ∷ []) ≤ 1 =
      follows_once (with_release c j c.room) more.0 more.1 follows n in
      let mine : named n f ≤ sum_by (named n) c.ready = term_le_sum (named n) c.ready f m in
      omega (
        arith,
        once,
        mine,
        sum_by-append (named n) c.ready (fresh_job c j ∷ []),
        sum_by-cons (named n) (fresh_job c j) [],
        ap (λ (b : Bool). cond {A = ℕ} b 1 0) (eq-eqb n n refl),
        ap (λ (b : Bool). cond {A = ℕ} b 1 0) (eq-eqb f.number n same),
      )

-- of the ready jobs by their roles
module _ (k : Fraction) (p : Parted) (jobs done : ℕ) (j : JobFacts) (roles : HaveRoles p)
    (more : IsCourse (with_release (course_of k p jobs done) j p.room)) where
  -- none is fresh
  pub come_stale : p.fresh ≡ None
  come_stale = by_fresh p.fresh refl where
    by_fresh : (o : Option Task) → p.fresh ≡ o → p.fresh ≡ None
    by_fresh None is = is
    by_fresh (Some f) is = let here : IsMember f (option_to_list p.fresh) =
        subst (λ o. IsMember f (option_to_list o)) (sym is) (inl refl) in
        absurd (release_stale (course_of k p jobs done) j more f
        (member_behind _ _ _ (member_front (option_to_list p.fresh) (p.held ++ p.waiting) f here)) (roles.fresh f here))

  module _ (q : Parted) (is : q ≡ record p {
    clock = j.release;
    fresh = Some (fresh_job (course_of k p jobs done) j);
  }) where
    -- the new job is among the others
    pub come_order : IsReordered (ready_of p ++ fresh_job (course_of k p jobs done) j ∷ []) (ready_of q)
    come_order = subst (λ r. IsReordered (ready_of p ++ fresh_job (course_of k p jobs done) j ∷ []) (ready_of r))
        (sym is)
        (subst (λ o. IsReordered ((option_to_list p.running ++ (option_to_list o ++ (p.held ++ p.waiting)))
        ++ fresh_job (course_of k p jobs done) j ∷ [])
        (option_to_list p.running ++ fresh_job (course_of k p jobs done) j ∷ (p.held ++ p.waiting))) (sym come_stale)
        (in_front (fresh_job (course_of k p jobs done) j) (option_to_list p.running) (p.held ++ p.waiting))) where
          in_front : (x : Task) (xs ys : List Task) → IsReordered ((xs ++ ys) ++ x ∷ []) (xs ++ x ∷ ys)
          in_front x xs ys = further _ _ _ (exchanged (xs ++ ys) (x ∷ [])) (between x xs ys)

    -- it is a course again
    pub come_course : IsCourse (course_of k q (jobs + 1) done)
    come_course = (
      more.0,
      more.1,
      subst (λ r. Follows (course_of k r (jobs + 1) done) more.0 more.1) (sym is)
          (follows_order (with_release (course_of k p jobs done) j p.room)
          (ready_of (record p { clock = j.release; fresh = Some (fresh_job (course_of k p jobs done) j) }))
          more.0 more.1 more.2
          (subst (λ r. IsReordered (ready_of p ++ fresh_job (course_of k p jobs done) j ∷ []) (ready_of r)) is
          come_order)),
    )
