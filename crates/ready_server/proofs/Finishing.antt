-- What a server has given with the finish of a job.
use Rattle.std.proofs.Common.{◌≡◌, ℕ, ◌≤◌, ◌<◌, ◌^◌, [], ◌∷◌, ◌++◌, refl, sym, ap, ◌∙◌, subst, Bool, true, false, arith}
use Rattle.std.proofs.Common.{Option, Some, None, nat_le, nat_lt, length, lt-ltb, ltb-true}
use Rattle.dover_model.specs.declared.events.Event.TheVariants.{Complete}
use Rattle.dover_model.specs.declared.events.Role.TheVariants.{Running}
use Rattle.dover_model.specs.declared.events.Task.{Task}
use Rattle.dover_model.specs.Common.{Instance, with_finishes, State, opening, running, is_running, is_over}
use Rattle.dover_model.specs.Common.{Prints, after, settled, settled_steps, settled_state, finish_now, RunsAtMark}
use Rattle.dover_model.specs.Common.{most_ready, EarlyFinish, finish_at, is_full, IsMember, HasPrinted, runner_of}
use Rattle.dover_model.specs.declared.horizon.Horizon.TheVariants.{Mark}
use Rattle.dover_model.proofs.settled.Barriers.{state_after}
use Rattle.dover_model.proofs.finishes.Further.{printed_at_mark}
use Rattle.dover_model.proofs.settled.LastSteps.{last_tells}
use Rattle.dover_model.proofs.lists.Members.{found, all_member}
use Rattle.dover_model.proofs.finishes.Processors.{runner_said, runner_there}
use Rattle.dover_model.proofs.settled.Paths.{path_settles, one_settled_run}
use Rattle.dover_model.proofs.rest.Resting.{path_state, numbers_below}
use Rattle.dover_model.proofs.finishes.RightFinishes.{all_before, finish_says, right_finish, none_late, none_other}
use Rattle.dover_model.proofs.steps.Roles.{passes, is_running_role}
use Rattle.dover_model.proofs.settled.Settling.{settled_is_run}
use Rattle.dover_model.proofs.settled.Waiting.{some_goes_on}
use Rattle.dover_model.proofs.valid.Limiting.{jobs_most}
use Rattle.ready_jobs.proofs.Counting.{full_kept}
use Rattle.ready_jobs.proofs.Runners.{one_runs}
use Rattle.ready_jobs.specs.Course.{Course}
use Rattle.ready_jobs.specs.Course as course
use Rattle.ready_server.specs.Serving.{Rests, Finishes}
use Rattle.ready_server.specs.declared.server.ReadyServer.{ReadyServer}
use Rattle.ready_server.proofs.Stepping.{last_more}
use Rattle.dover_model.proofs.valid.ValidParts.{valid_parts}

module _ (s : ReadyServer) (J : Instance) (at : ℕ) (rests : Rests s J (Mark at)) where
  -- where it has come
  abbrev z : State
  z = rests.state

  -- with the clock at the mark
  abbrev there : State
  there = record z { clock = at }

  -- the settled steps lead there
  pub settled_there : settled_state J at ≡ there
  settled_there = ap (state_after (opening J.jobs)) same_steps
      ∙ path_state J.rules at waits.steps (opening J.jobs) there waits.path where
        waits : HasPrinted J at there (settled J at)
        waits = rests.given.1.waits

        same_steps : settled_steps J at ≡ waits.steps
        same_steps = one_settled_run J.rules at (settled_steps J at) waits.steps (opening J.jobs)
            (settled_is_run J at rests.follows.valid)
            (path_settles J.rules at waits.steps (opening J.jobs) there waits.path rests.given.1.barrier)

  -- so there the run is full just where as many jobs are kept as may be ready
  pub full_there : nat_le most_ready (length s.ready.ready) ≡ is_full J at
  full_there = full_kept s.ready J z rests.follows at settled_there

  -- the same job runs
  same_runs : running (settled_state J at) ≡ running z
  same_runs = ap running settled_there

  -- while a job runs, the last tick tells whether all steps came before the mark's
  tells : (r : Task) → running z ≡ Some r → all_before J at ≡ nat_lt s.last at
  tells r runs = last_tells J rests.follows.valid at r (same_runs ∙ runs)
      ∙ ap (λ last. nat_lt last at) (sym rests.last)

  -- where a step of the mark's tick was given, no finish is right
  pub late_wrong : (n : ℕ) → at ≤ s.last → finish_at J at n ≡ None
  late_wrong n late = by_running (running z) refl where
    not_less : nat_lt s.last at ≡ false
    not_less = by_test (nat_lt s.last at) refl where
      by_test : (b : Bool) → nat_lt s.last at ≡ b → b ≡ false
      by_test false e = refl
      by_test true e = let less : s.last < at = ltb-true _ _ e in absurd (omega (arith, less, late))

    by_running : (o : Option Task) → running z ≡ o → finish_at J at n ≡ None
    by_running None none = none_other J at n (λ r some named.
        absurd (let clash : None ≡ Some r = sym none ∙ sym same_runs ∙ some in cc))
    by_running (Some r) some = none_late J at n (tells r some ∙ not_less)

  -- nor is one of a job that doesn't run
  pub other_wrong : (n : ℕ) → course.RunsNowhere s.ready n → finish_at J at n ≡ None
  other_wrong n nowhere = none_other J at n (λ r some named.
      nowhere J z rests.follows r (sym same_runs ∙ some) named)

  -- a job that runs has the processor by what was given
  pub runs_said : (n : ℕ) → course.Runs s.ready n → runner_of (settled J at) ≡ Some n
  runs_said n it = let r = it J z rests.follows in
      runner_said J rests.follows.valid at r.0 (same_runs ∙ r.1) ∙ ap Some r.2

  -- no other job has it
  pub other_said : (n : ℕ) → course.RunsNowhere s.ready n → runner_of (settled J at) ≡ Some n → ⊥
  other_said n nowhere is = let r = runner_there J rests.follows.valid at n is in
      nowhere J z rests.follows r.0 (sym same_runs ∙ r.1) r.2

  module _ (n : ℕ) (d : Course) (takes : course.Finishes s.ready n d) where
    -- the job that runs
    abbrev r : Task
    r = (takes J z rests.follows).0

    runs : running z ≡ Some r
    runs = (takes J z rests.follows).1

    named : r.number ≡ n
    named = (takes J z rests.follows).2

    member : IsMember r z.tasks
    member = (found is_running z.tasks r runs).0

    -- some job isn't over, so the clock is at the mark
    pub clock_there : z.clock ≡ at
    clock_there = rests.given.1.clock (some_goes_on z r member
        (passes is_over r Running false (is_running_role r (found is_running z.tasks r runs).1) refl))

    -- the number is small
    pub number_small : n < 2 ^ 32
    number_small =
        omega (
          arith,
          (valid_parts rests.follows.valid).count,
          jobs_most J.rules.version,
          numbers_below J z rests.follows.keeps r member,
          named,
        )

    module _ (early : s.last < at) where
      -- the finish
      abbrev finish : EarlyFinish
      finish = record { at = at; finish = finish_now r }

      right : finish_at J at r.number ≡ Some finish
      right = right_finish J at r (same_runs ∙ runs) (tells r runs ∙ lt-ltb _ _ early)

      at_mark : RunsAtMark J at r
      at_mark = record {
        member = subst (λ (u : State). IsMember r u.tasks) (sym settled_there) member;
        runs = is_running_role r (found is_running z.tasks r runs).1;
        before = all_member (λ x. x.before.clock < at) (settled_steps J at)
            (finish_says J at r.number finish right).before;
      }

      -- the completion is printed behind what is settled
      printed : HasPrinted (with_finishes J (finish_now r ∷ [])) at (after z (Prints (Complete at r.number)))
          (settled J at ++ Complete at r.number ∷ [])
      printed = subst (λ u. HasPrinted (with_finishes J (finish_now r ∷ [])) at
          (after u (Prints (Complete at r.number))) (settled J at ++ Complete at r.number ∷ []))
          (settled_there ∙ ap (λ clock. record z { clock = clock }) (sym clock_there))
          (printed_at_mark J rests.follows.valid at r at_mark)

      -- so it was given
      pub finish_given : Finishes s (record s { ready = d; last = at }) J at n (Some (Complete at n))
      finish_given = (
        finish,
        subst (λ m. finish_at J at m ≡ Some finish) named right,
        refl,
        record {
          state = after z (Prints (Complete z.clock n));
          follows = (takes J z rests.follows).3;
          given = (
            rests.given.0,
            subst (λ m. HasPrinted (with_finishes J (finish_now r ∷ [])) at (after z (Prints (Complete z.clock m)))
                (settled J at ++ Complete at m ∷ [])) named printed,
          );
          last = sym (last_more (settled J at) (Complete at n));
        },
      )

-- of whatever jobs the server rests, the same one runs
pub one_finish : (s : ReadyServer) (at : ℕ) (J : Instance) (rests : Rests s J (Mark at)) (K : Instance)
    (others : Rests s K (Mark at)) (n : ℕ) (f g : EarlyFinish) → finish_at J at n ≡ Some f → finish_at K at n ≡ Some g
    → f ≡ g
one_finish s at J rests K others n f g right other =
    let says = finish_says J at n f right in
    let tells = finish_says K at n g other in
    let here : running rests.state ≡ Some says.job = sym (same_runs s J at rests) ∙ says.runs in
    let there : running others.state ≡ Some tells.job = sym (same_runs s K at others) ∙ tells.runs in
    let one : says.job ≡ tells.job = one_runs s.ready J rests.state rests.follows K others.state others.follows
    says.job tells.job here there in
    sym says.is ∙ ap (λ (t : Task). let e : EarlyFinish = record { at = at; finish = finish_now t } in e) one ∙ tells.is
