-- The early finishes of a roll at the mark of a session are those of its items.
use Rattle.std.proofs.Common.{◌≡◌, ℕ, suc, ◌+◌, ◌≤◌, max, List, [], ◌∷◌, ◌++◌, length, append-nil}
use Rattle.std.proofs.Common.{append_assoc, refl, sym, ap, ◌∙◌, subst, inl, inr, arith, Bool, true, false, cond, not}
use Rattle.std.proofs.Common.{◌&&◌}
use Rattle.std.proofs.Common.{Some, filter_map, nat_lt, lt-ltb, eqb-true}
use Rattle.std.specs.Bool.{then_some}
use Rattle.std.specs.List.{cons_option}
use Rattle.std.proofs.lemmas.Bool.{and_parts}
use Rattle.std.proofs.lemmas.List.Elements.{filter_map-append}
use Rattle.std.proofs.lemmas.List.Sums.{fold-append}
use Rattle.dover_model.specs.declared.events.Event.{Event}
use Rattle.dover_model.specs.declared.events.Event.TheVariants.{Complete}
use Rattle.dover_model.specs.declared.events.Role.TheVariants.{Running}
use Rattle.dover_model.specs.declared.events.Task.{Task}
use Rattle.dover_model.specs.Common.{Fraction, Finish, Instance, IsValid, Session, Item, JobItem, RefusedItem}
use Rattle.dover_model.specs.Common.{FinishItem}
use Rattle.dover_model.specs.Common.{early_finishes, instance_of, settled, settled_state, HasPrinted, Step}
use Rattle.dover_model.specs.Common.{IsOpenPath, IsMember, Each, Keeps, State, Move, Prints, Ticks, open_step, after}
use Rattle.dover_model.specs.Common.{left}
use Rattle.dover_model.specs.Common.{is_over, is_due, goes_on as is_going_on, is_complete, AreOverFor, finish_now}
use Rattle.dover_model.specs.Common.{printed_of, handed_by, early_of}
use Rattle.dover_model.proofs.sessions.Accounts.{Holds}
use Rattle.dover_model.proofs.steps.Deeds.{Deed, Completed}
use Rattle.dover_model.proofs.steps.Kept.{open_deed, open_kept}
use Rattle.dover_model.proofs.steps.Roles.{passes}
use Rattle.dover_model.proofs.finishes.OverFor.{due_member, over_after}
use Rattle.dover_model.proofs.finishes.Readiness.{open_decides, runner}
use Rattle.dover_model.proofs.lists.Tests.{never}
use Rattle.ready_server.specs.Roster.{Roll, with_event, empty_roll, roll_of}
use Rattle.ready_server.proofs.RollFinishes.{places, path_more}
use Rattle.ready_server.proofs.RollRuns.{roll_follows}
use Rattle.snapshot.proofs.Came.{HaveCome, come_later, come_job, come_refused, come_finish, front_valid, runner_left}
use Rattle.std.proofs.Common.{◌⊎◌, append_assoc, eqb, eq-eqb, ◌==◌}
use Rattle.std.proofs.lemmas.List.{length-map}
use Rattle.dover_model.specs.Common.{JobFacts, Declaration, Refused, EarlyFinish, session_with, admitted_jobs}
use Rattle.dover_model.specs.Common.{job_of_item}
use Rattle.dover_model.specs.Common.{with_jobs, with_finishes, with_later, to_come, with_role, opening, mark_after}
use Rattle.dover_model.specs.declared.events.Role.{Role}
use Rattle.dover_model.specs.declared.events.Role.TheVariants.{Done}
use Rattle.dover_model.proofs.lists.Members.{each_append, each_all, on_map, member_either}
use Rattle.dover_model.proofs.finishes.Further.{printed_at_mark}
use Rattle.dover_model.proofs.finishes.Meeting.{finishing_valid}
use Rattle.dover_model.proofs.rest.Resting.{come_above}
use Rattle.dover_model.proofs.sessions.Growing.{job_instance, refused_instance, finish_instance, Finishes}
use Rattle.dover_model.proofs.sessions.Growing.{finishing_job}
use Rattle.dover_model.proofs.sessions.SessionParts.{FollowsItems}
use Rattle.dover_model.proofs.settled.Barriers.{AtBarrier, settled_at_barrier}
use Rattle.dover_model.proofs.settled.Paths.{printed_behind}
use Rattle.dover_model.proofs.valid.Valid.{valid_front}
use Rattle.ready_server.specs.declared.roster.ListedFinish.{ListedFinish}
use Rattle.ready_server.specs.Roster.{with_finish, halted, finish_here, job_at}
use Rattle.ready_server.proofs.RollFinishes.{halt_finishes, finish_is}
use Rattle.ready_server.proofs.RollSettled.{roll_more, settled_jobs, tasks_count}
use Rattle.snapshot.proofs.Paces.{GoesOn, goes_on, printed_later}

-- items without finishes have no places
no_places_left : (n : ℕ) (items : List Item) → early_finishes items ≡ [] → places n items ≡ []
no_places_left n [] none = refl
no_places_left n (JobItem j ∷ items) none = no_places_left (suc n) items none
no_places_left n (RefusedItem r ∷ items) none = no_places_left n items none
no_places_left n (FinishItem f ∷ items) none = absurd (let clash : f.finish ∷ early_finishes items ≡ [] = none in cc)

-- ---- where the jobs of all finishes are over

module _ (J : Instance) (valid : IsValid J) (mark : ℕ) where
  -- no job completes with work left
  none_left : (s : State) → Keeps J s → AreOverFor J.rules.finishes s → (r : Task) → IsMember r s.tasks
      → r.role ≡ Running → is_complete (open_step J.rules s) ≡ true → nat_lt 0 (left r) ≡ false
  none_left s keeps over r member runs complete = by (nat_lt 0 (left r)) refl where
    ends : is_going_on J.rules.finishes r ≡ false
    ends = (open_decides s keeps.sound J.rules).ends complete r member runs

    due_then : (b : Bool) → (true && not b) ≡ false → b ≡ true
    due_then true e = refl
    due_then false e = never (sym e)

    by : (b : Bool) → nat_lt 0 (left r) ≡ b → b ≡ false
    by false none = refl
    by true some =
        let due : is_due J.rules.finishes r ≡ true = due_then (is_due J.rules.finishes r)
        (ap (λ b. b && not (is_due J.rules.finishes r)) (sym some) ∙ ends) in
        let (f, own, comes) = due_member J.rules.finishes r due in
        let same : r.number ≡ f.number = sym (eqb-true f.number r.number
        (and_parts (f.number == r.number) _ (and_parts ((f.number == r.number) && (f.had == r.had)) _ comes).0).0) in
        never (sym (passes is_over r Running false runs refl) ∙ over f own r member same)

  -- so no step hands a finish in
  quiet_step : (s : State) → Keeps J s → AreOverFor J.rules.finishes s → (k : Fraction) (m : Move)
      → m ≡ open_step J.rules s → Deed k s Ticks m → (rest : List Item)
      → early_finishes (cons_option (handed_by (record { before = s; move = m })) rest) ≡ early_finishes rest
  quiet_step s keeps over k m is (Completed r member runs) rest =
      ap (λ o. early_finishes (cons_option (early_of s.clock o) rest)) (runner s keeps.sound r member runs)
      ∙ ap (λ b. early_finishes (cons_option
      (then_some b (FinishItem (record { at = s.clock; finish = finish_now r }))) rest))
      (none_left s keeps over r member runs (ap is_complete (sym is)))
  quiet_step s keeps over k m is _ rest = refl

  -- nor do steps
  quiet : (xs : List Step) (s z : State) → Keeps J s → IsOpenPath J.rules mark s xs z
      → AreOverFor J.rules.finishes s → early_finishes (filter_map handed_by xs) ≡ []
  quiet [] s z keeps path over = refl
  quiet (x ∷ xs) s z keeps path over =
      ap (λ (y : Step). early_finishes (cons_option (handed_by y) (filter_map handed_by xs))) path.0
      ∙ quiet_step s keeps over J.rules.ratio (open_step J.rules s) refl (open_deed J valid s keeps J.rules)
      (filter_map handed_by xs)
      ∙ quiet xs (after s (open_step J.rules s)) z (open_kept J valid s keeps J.rules) path.2
      (over_after J valid s keeps J.rules J.rules.finishes over)

  -- so a roll has no more finishes at the barrier
  pub same_finishes : (s : State) (events : List Event) → HasPrinted J mark s events → AreOverFor J.rules.finishes s
      → (roll_of (settled J mark)).finishes ≡ (roll_of events).finishes
  same_finishes s events it over =
      let way : GoesOn J mark s events = goes_on J valid mark s events it in
      ap (λ es. (roll_of es).finishes) way.prints
      ∙ ap (λ (p : Roll). p.finishes) (fold-append with_event empty_roll events (printed_of way.steps))
      ∙ path_more J valid mark way.steps s (settled_state J mark) (roll_of events) way.keeps way.path
      (roll_follows J valid mark s events it)
      ∙ ap (λ fs. (roll_of events).finishes ++ fs) (no_places_left (length (roll_of events).jobs)
      (filter_map handed_by way.steps) (quiet way.steps s (settled_state J mark) way.keeps way.path over))
      ∙ append-nil (roll_of events).finishes

-- ---- item by item

-- a finish behind so many jobs
abbrev place : (at n behind : ℕ) → ListedFinish
place at n behind = record { at = at; number = n; behind = behind }

-- with more items behind, there are their places too
places_append : (n : ℕ) (items more : List Item)
    → places n (items ++ more) ≡ places n items ++ places (n + length (admitted_jobs items)) more
places_append n [] more = ap (λ m. places m more) (let e : n ≡ n + 0 = omega arith in e)
places_append n (JobItem j ∷ items) more = places_append (suc n) items more
    ∙ ap (λ m. places (suc n) items ++ places m more)
    (let e : suc n + length (admitted_jobs items) ≡ n + suc (length (admitted_jobs items)) = omega arith in e)
places_append n (RefusedItem r ∷ items) more = places_append n items more
places_append n (FinishItem f ∷ items) more =
    ap (λ fs. place f.at f.finish.number n ∷ fs) (places_append n items more)

-- behind these items their finishes have come, their jobs are known, and the roll has their finishes
record AreListed (rules : Declaration) (items : List Item) (mark : ℕ) : Type 0 where
  come : HaveCome rules items mark
  known : Each (λ (j : JobFacts). j.release ≤ mark) (admitted_jobs items)
  same : (roll_of (settled (instance_of (session_with rules items)) mark)).finishes ≡ places 0 items

module _ (rules : Declaration) where
  abbrev session : List Item → Session
  session items = session_with rules items

  -- the jobs of their finishes are over
  all_over : (items : List Item) (mark : ℕ) → HaveCome rules items mark
      → AreOverFor (early_finishes items) (settled_state (instance_of (session items)) mark)
  all_over items mark it f member = (it f member).2.1 f (inl refl)

  -- at a later mark
  listed_later : (items : List Item) (mark later : ℕ) → IsValid (instance_of (session items)) → mark ≤ later
      → AreListed rules items mark → AreListed rules items later
  listed_later items mark later valid ordered it = record {
    come = come_later rules items mark later valid ordered it.come;
    known = λ j m. omega (arith, it.known j m, ordered);
    same = same_finishes (instance_of (session items)) valid later
        (settled_state (instance_of (session items)) mark) (settled (instance_of (session items)) mark)
        (printed_later (instance_of (session items)) valid mark later ordered) (all_over items mark it.come)
        ∙ it.same;
  }

  -- with a job
  listed_job : (items : List Item) (j : JobFacts) → IsValid (instance_of (session (items ++ JobItem j ∷ [])))
      → AreListed rules items j.release → AreListed rules (items ++ JobItem j ∷ []) j.release
  listed_job items j valid it = record {
    come = come_job rules items j valid it.come;
    known = subst (Each (λ (i : JobFacts). i.release ≤ j.release))
        (sym (filter_map-append job_of_item items (JobItem j ∷ [])))
        (each_append (λ (i : JobFacts). i.release ≤ j.release) (admitted_jobs items) (j ∷ []) it.known last);
    same = ap (λ L. (roll_of (settled L j.release)).finishes) is
        ∙ same_finishes K valid_K j.release (with_later s (to_come (length J.jobs) (j ∷ []))) (settled J j.release)
        there over
        ∙ it.same
        ∙ sym (places_append 0 items (JobItem j ∷ []) ∙ append-nil (places 0 items));
  } where
    J : Instance
    J = instance_of (session items)

    K : Instance
    K = with_jobs J (j ∷ [])

    is : instance_of (session (items ++ JobItem j ∷ [])) ≡ K
    is = job_instance (session items) j

    valid_K : IsValid K
    valid_K = subst IsValid is valid

    last : (i : JobFacts) → IsMember i (j ∷ []) → i.release ≤ j.release
    last i (inl e) = subst (λ (x : JobFacts). x.release ≤ j.release) (sym e) (omega arith)
    last i (inr none) = absurd none

    late : Each (λ (i : JobFacts). j.release ≤ i.release) (j ∷ [])
    late i (inl e) = subst (λ (x : JobFacts). j.release ≤ x.release) (sym e) (omega arith)
    late i (inr none) = absurd none

    s : State
    s = settled_state J j.release

    there : HasPrinted K j.release (with_later s (to_come (length J.jobs) (j ∷ []))) (settled J j.release)
    there = printed_behind J (j ∷ []) j.release s (settled J j.release) valid_K late
        (printed_later J (valid_front J (j ∷ []) valid_K) j.release j.release (omega arith))

    over : AreOverFor J.rules.finishes (with_later s (to_come (length J.jobs) (j ∷ [])))
    over f member = each_append (λ t. t.number ≡ f.number → is_over t ≡ true) s.tasks
        (to_come (length J.jobs) (j ∷ [])) (all_over items j.release it.come f member)
        (λ t m same. absurd (omega (arith, (it.come f member).1, come_above (length J.jobs) (j ∷ []) t m, same)))

  -- with a refused line
  listed_refused : (items : List Item) (r : Refused) (mark : ℕ) → AreListed rules items mark
      → AreListed rules (items ++ RefusedItem r ∷ []) mark
  listed_refused items r mark it = record {
    come = come_refused rules items r mark it.come;
    known = subst (Each (λ (i : JobFacts). i.release ≤ mark))
        (sym (filter_map-append job_of_item items (RefusedItem r ∷ []) ∙ append-nil (admitted_jobs items)))
        it.known;
    same = ap (λ L. (roll_of (settled L mark)).finishes) (refused_instance (session items) r)
        ∙ it.same
        ∙ sym (places_append 0 items (RefusedItem r ∷ []) ∙ append-nil (places 0 items));
  }

  -- with an early finish
  listed_finish : (items : List Item) (e : EarlyFinish) → IsValid (instance_of (session items))
      → Finishes (session items) e → AreListed rules items e.at
      → AreListed rules (items ++ FinishItem e ∷ []) e.at
  listed_finish items e valid says it = record {
    come = come_finish rules items e valid says it.come;
    known = subst (Each (λ (i : JobFacts). i.release ≤ e.at))
        (sym (filter_map-append job_of_item items (FinishItem e ∷ []) ∙ append-nil (admitted_jobs items)))
        it.known;
    same = ap (λ L. (roll_of (settled L e.at)).finishes) is_K
        ∙ same_finishes K valid_K e.at z (settled J e.at ++ Complete e.at r.number ∷ [])
        (printed_at_mark J valid e.at r says.runs) over
        ∙ ap (λ (p : Roll). p.finishes) (roll_more (settled J e.at) (Complete e.at r.number))
        ∙ ap (λ o. (with_finish (halted p e.at Done) o).finishes) here
        ∙ ap (λ fs. fs ++ place e.at r.number (length p.jobs) ∷ []) (halt_finishes p e.at Done ∙ it.same)
        ∙ ap (λ n. places 0 items ++ place e.at n (length p.jobs) ∷ [])
        (sym (ap (λ (f : Finish). f.number) says.is))
        ∙ ap (λ n. places 0 items ++ place e.at e.finish.number n ∷ []) count
        ∙ sym (places_append 0 items (FinishItem e ∷ []));
  } where
    J : Instance
    J = instance_of (session items)

    r : Task
    r = says.job

    s : State
    s = settled_state J e.at

    K : Instance
    K = with_finishes J (finish_now r ∷ [])

    is_K : instance_of (session (items ++ FinishItem e ∷ [])) ≡ K
    is_K = finish_instance (session items) e ∙ ap (λ f. with_finishes J (f ∷ [])) says.is

    valid_K : IsValid K
    valid_K = finishing_valid J (J.rules.finishes ++ finish_now r ∷ []) valid

    bar : AtBarrier J e.at s
    bar = settled_at_barrier J valid e.at

    z : State
    z = after s (Prints (Complete e.at r.number))

    p : Roll
    p = roll_of (settled J e.at)

    printed : HasPrinted J e.at s (settled J e.at)
    printed = printed_later J valid e.at e.at (omega arith)

    left_r : 1 ≤ left r
    left_r = runner_left J valid e.at r says.runs.member says.runs.runs

    here : finish_here p e.at ≡ Some (place e.at r.number (length p.jobs))
    here = subst (λ c. finish_here p c ≡ Some (place c r.number (length p.jobs))) bar.clock
        (finish_is s bar.keeps.sound p (roll_follows J valid e.at s (settled J e.at) printed) r says.runs.member
        says.runs.runs
        ∙ ap (λ b. then_some b (place s.clock r.number (length p.jobs)))
        (lt-ltb r.had r.job.work (omega (arith, left_r))))

    count : length p.jobs ≡ 0 + length (admitted_jobs items)
    count = omega (
      arith,
      length-map p.jobs (job_at p e.at),
      ap length (settled_jobs J valid e.at
          (each_all (λ (i : JobFacts). i.release ≤ e.at) (admitted_jobs items) it.known)),
      tasks_count J s bar.keeps,
    )

    role_now : Task → Role
    role_now t = cond (eqb t.number r.number) Done t.role

    over_still : (t : Task) → is_over t ≡ true → is_over (with_role t (role_now t)) ≡ true
    over_still t over = by_number (eqb t.number r.number) where
      by_number : (b : Bool) → is_over (with_role t (cond b Done t.role)) ≡ true
      by_number true = refl
      by_number false = over

    over_now : (t : Task) → t.number ≡ r.number → is_over (with_role t (role_now t)) ≡ true
    over_now t same = ap (λ b. is_over (with_role t (cond b Done t.role))) (eq-eqb t.number r.number same)

    over : AreOverFor (J.rules.finishes ++ finish_now r ∷ []) z
    over f member = by (member_either J.rules.finishes (finish_now r ∷ []) f member) where
      by : IsMember f J.rules.finishes ⊎ IsMember f (finish_now r ∷ [])
          → Each (λ t. t.number ≡ f.number → is_over t ≡ true) z.tasks
      by (inl old) = on_map (λ t. with_role t (role_now t)) (λ t. t.number ≡ f.number → is_over t ≡ true) s.tasks
          (λ t m same. over_still t (all_over items e.at it.come f old t m same))
      by (inr (inl new)) = on_map (λ t. with_role t (role_now t)) (λ t. t.number ≡ f.number → is_over t ≡ true)
          s.tasks (λ t m same. over_now t (same ∙ ap (λ (g : Finish). g.number) new))
      by (inr (inr none)) = absurd none

  all_items : (items : List Item) (mark : ℕ) (more : List Item) → IsValid (instance_of (session (items ++ more)))
      → FollowsItems rules items mark more → AreListed rules items mark
      → AreListed rules (items ++ more) (mark_after mark more)
  all_items items mark [] valid follows it =
      subst (λ is. AreListed rules is mark) (sym (append-nil items)) it
  all_items items mark (JobItem j ∷ more) valid follows it =
      let split : (items ++ JobItem j ∷ []) ++ more ≡ items ++ JobItem j ∷ more = append_assoc items
      (JobItem j ∷ []) more in
      let all : IsValid (instance_of (session ((items ++ JobItem j ∷ []) ++ more))) =
      subst (λ is. IsValid (instance_of (session is))) (sym split) valid in
      let next : IsValid (instance_of (session (items ++ JobItem j ∷ []))) =
      front_valid rules (items ++ JobItem j ∷ []) more all in
      let same : max mark j.release ≡ j.release = omega (arith, follows.0.no_fall) in
      subst (λ is. AreListed rules is (mark_after (max mark j.release) more)) split
      (all_items (items ++ JobItem j ∷ []) (max mark j.release) more all follows.1
      (subst (AreListed rules (items ++ JobItem j ∷ [])) (sym same)
      (listed_job items j next (listed_later items mark j.release (front_valid rules items (JobItem j ∷ []) next)
      follows.0.no_fall it))))
  all_items items mark (RefusedItem r ∷ more) valid follows it =
      let split : (items ++ RefusedItem r ∷ []) ++ more ≡ items ++ RefusedItem r ∷ more =
      append_assoc items (RefusedItem r ∷ []) more in
      let all : IsValid (instance_of (session ((items ++ RefusedItem r ∷ []) ++ more))) =
      subst (λ is. IsValid (instance_of (session is))) (sym split) valid in
      let here : IsValid (instance_of (session items)) = front_valid rules items (RefusedItem r ∷ more) valid in
      subst (λ is. AreListed rules is (mark_after (max mark r.at) more)) split
      (all_items (items ++ RefusedItem r ∷ []) (max mark r.at) more all follows.1
      (listed_refused items r (max mark r.at) (listed_later items mark (max mark r.at) here (omega arith) it)))
  all_items items mark (FinishItem e ∷ more) valid follows it =
      let split : (items ++ FinishItem e ∷ []) ++ more ≡ items ++ FinishItem e ∷ more =
      append_assoc items (FinishItem e ∷ []) more in
      let all : IsValid (instance_of (session ((items ++ FinishItem e ∷ []) ++ more))) =
      subst (λ is. IsValid (instance_of (session is))) (sym split) valid in
      let here : IsValid (instance_of (session items)) = front_valid rules items (FinishItem e ∷ more) valid in
      let same : max mark e.at ≡ e.at = omega (arith, follows.0.no_fall) in
      subst (λ is. AreListed rules is (mark_after (max mark e.at) more)) split
      (all_items (items ++ FinishItem e ∷ []) (max mark e.at) more all follows.1
      (subst (AreListed rules (items ++ FinishItem e ∷ [])) (sym same)
      (listed_finish items e here (finishing_job (session items) e follows.0.right)
      (listed_later items mark e.at here follows.0.no_fall it))))

  -- before all
  none_listed : IsValid (instance_of (session [])) → AreListed rules [] 0
  none_listed valid = record {
    come = λ f none. absurd none;
    known = λ j none. absurd none;
    same = same_finishes (instance_of (session [])) valid 0 (opening []) []
        (record { steps = []; path = refl; prints = refl }) (λ f none. absurd none);
  }

-- the roll of a session at its mark has the places of its finishes
pub settled_places : (S : Session) (mark lines : ℕ) → Holds S mark lines
    → (roll_of (settled (instance_of S) mark)).finishes ≡ places 0 S.items
settled_places S mark lines holds =
    let it : AreListed S.rules S.items mark = listed_later S.rules S.items (mark_after 0 S.items) mark
    holds.reads.valid holds.last (all_items S.rules [] 0 S.items holds.reads.valid holds.follows
    (none_listed S.rules (front_valid S.rules [] S.items holds.reads.valid))) in
    it.same
