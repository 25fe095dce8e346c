-- What a printed step leaves of the ready jobs, by which jobs it names.
use Rattle.std.proofs.Common.{◌≡◌, ℕ, ◌≤◌, ◌⊎◌, inl, inr, List, [], ◌∷◌, ◌++◌, length, map, refl, sym, ap, ◌∙◌, subst}
use Rattle.std.proofs.Common.{Bool, true, false, cond, arith, Option, Some, None, ◌&&◌, nat_lt, nat_le, option_to_list}
use Rattle.std.proofs.Common.{option_map, filter, sum_by}
use Rattle.std.proofs.lemmas.List.{length-map}
use Rattle.std.proofs.lemmas.Bool.{cases_eq}
use Rattle.std.proofs.lemmas.List.Sums.{sum_by-cons, sum_by-append, length-filter, count_by-le-length}
use Rattle.dover_model.specs.declared.events.Event.TheVariants.{Run, Preempt, Take, Complete, Abandon}
use Rattle.dover_model.specs.declared.events.Role.TheVariants.{Held, Running}
use Rattle.dover_model.specs.declared.events.Task.{Task}
use Rattle.dover_model.specs.Common.{starts_before, first, waiting, left, latest_start, View, view, with_role}
use Rattle.dover_model.specs.Common.{is_at_latest_start, Each, is_ready}
use Rattle.dover_model.proofs.lists.Members.{some_same, sum_map}
use Rattle.dover_model.proofs.lists.Tests.{none_is_some}
use Rattle.ready_jobs.specs.Cases.{next_of}
use Rattle.waiting_pool.specs.Reordered.{IsReordered}
use Rattle.ready_jobs.specs.Parts.{Parted, HaveRoles, AreSound, ready_of, state_of, head_of, tail_of}
use Rattle.ready_jobs.specs.Changed.{named, AreOnce, Leaves, IsNext, printed, made_wait}
use Rattle.waiting_pool.proofs.Reordering.{as_many}
use Rattle.ready_jobs.proofs.Seeing.{seen_running, seen_fresh, waiting_list, late_none, late_later, late_found}
use Rattle.ready_jobs.proofs.Changes.{completes, resumes, starts, begins, abandons, preempts, takes}
use Rattle.ready_jobs.proofs.Naming.{Says, says}

-- no more jobs are ready than were
pub leaves_fewer : (f : Task → Task) (xs ys : List Task) (worth : ℕ) → Leaves f xs ys worth → length ys ≤ length xs
leaves_fewer f xs ys worth it = omega (
  arith,
  as_many (filter is_ready (map f xs)) ys it.ready,
  length-filter is_ready (map f xs),
  count_by-le-length is_ready (map f xs),
  length-map xs f,
)

-- the first waiting job at its latest start is the first one
pub late_first : (p : Parted) → HaveRoles p → AreSound p → (x : Task)
    → first (starts_before p.version) (filter (is_at_latest_start (state_of p)) (waiting (state_of p))) ≡ Some x
    → first (starts_before p.version) p.waiting ≡ Some x
late_first p roles sound x is = by_first (first (starts_before p.version) p.waiting) refl where
  there : first (starts_before p.version) (filter (is_at_latest_start (state_of p)) p.waiting) ≡ Some x
  there = subst
      (λ l. first (starts_before p.version) (filter (is_at_latest_start (state_of p)) l) ≡ Some x)
      (waiting_list p roles) is

  by_first : (o : Option Task) → first (starts_before p.version) p.waiting ≡ o
      → first (starts_before p.version) p.waiting ≡ Some x
  by_first None none = none_is_some
      (sym (late_none p.version (state_of p) p.waiting sound.own sound.early none) ∙ there)
  by_first (Some y) at = by_test (cases_eq (latest_start y) p.clock) where
    by_test : (latest_start y ≡ p.clock) ⊎ ((latest_start y ≡ p.clock) → ⊥)
        → first (starts_before p.version) p.waiting ≡ Some x
    by_test (inl now) = at
        ∙ sym (late_found p.version (state_of p) p.waiting sound.own sound.early y at now) ∙ there
    by_test (inr later) = none_is_some
        (sym (late_later p.version (state_of p) p.waiting sound.own sound.early y at later) ∙ there)

-- the numbers are each there once as well where the running and the held jobs wait
pub once_displaced : (r : Task) (fresh held waits : List Task) → AreOnce (r ∷ (fresh ++ (held ++ waits)))
    → AreOnce (map made_wait (r ∷ held) ++ waits)
once_displaced r fresh held waits once n =
    let most : sum_by (named n) (r ∷ (fresh ++ (held ++ waits))) ≤ 1 = once n in
    omega (
      arith,
      most,
      sum_by-cons (named n) r (fresh ++ (held ++ waits)),
      sum_by-append (named n) fresh (held ++ waits),
      sum_by-append (named n) held waits,
      sum_by-append (named n) (map made_wait (r ∷ held)) waits,
      sum_map made_wait (named n) (r ∷ held),
      sum_by-cons (named n) r held,
    )

module _ (p : Parted) (roles : HaveRoles p) (once : AreOnce (ready_of p)) where
  abbrev seen : View
  seen = view p.version (state_of p)

  -- what is seen to run, runs
  runs_here : (r : Task) → seen.running ≡ Some r → p.running ≡ Some r
  runs_here r is = sym (seen_running p roles) ∙ is

  is_free : seen.running ≡ None → p.running ≡ None
  is_free none = sym (seen_running p roles) ∙ none

  named_here : (o : Option Task) (r s : Task) (n : ℕ) → o ≡ Some r → o ≡ Some s → s.number ≡ n → r.number ≡ n
  named_here o r s n one other number = ap (λ (t : Task). t.number) (some_same r s (sym one ∙ other)) ∙ number

  module _ (n : ℕ) where
    -- the running job is done
    module _ (next : (at : ℕ) × IsNext p (Complete at n)) where
      names_done : Says seen (Complete next.0 n)
      names_done = says next.1.0 seen (Complete next.0 n) next.1.1

      pub some_done : p.running ≡ None → ⊥
      some_done none = none_is_some (sym none ∙ runs_here names_done.0 names_done.1)

      pub done_leaves : (r : Task) → p.running ≡ Some r → (at : ℕ)
          → Leaves (printed (Complete at n)) (ready_of p) (ready_of (record p { running = None })) r.job.value
      done_leaves r is at =
          subst (λ m. Leaves (printed (Complete at m)) (ready_of p)
          (ready_of (record p { running = None })) r.job.value)
          (named_here p.running r names_done.0 n is (runs_here names_done.0 names_done.1) names_done.2)
          (completes p roles once r is)

    -- the first waiting job is gone
    module _ (sound : AreSound p) (next : (at : ℕ) × IsNext p (Abandon at n)) where
      names_gone : Says seen (Abandon next.0 n)
      names_gone = says next.1.0 seen (Abandon next.0 n) next.1.1

      -- that is the one that the step names
      pub gone_named : (x : Task) × (first (starts_before p.version) p.waiting ≡ Some x) × (x.number ≡ n)
      gone_named = (names_gone.1, late_first p roles sound names_gone.1 names_gone.3, names_gone.4)

      pub gone_leaves : (rest : List Task)
          → ((x : Task) → first (starts_before p.version) p.waiting ≡ Some x → IsReordered p.waiting (x ∷ rest))
          → (at : ℕ) → Leaves (printed (Abandon at n)) (ready_of p) (ready_of (record p { waiting = rest })) 0
      gone_leaves rest out at =
          let x : Task = names_gone.1 in
          subst (λ m. Leaves (printed (Abandon at m)) (ready_of p) (ready_of (record p { waiting = rest })) 0)
          names_gone.4
          (abandons p roles once x rest (out x (late_first p roles sound x names_gone.3)))

    -- a job runs
    module _ (next : (at : ℕ) × IsNext p (Run at n)) where
      names_run : Says seen (Run next.0 n)
      names_run = says next.1.0 seen (Run next.0 n) next.1.1

      pub run_free : p.running ≡ None
      run_free = is_free names_run.0

      pub held_runs : (t : Task) → head_of p.held ≡ Some t → t.number ≡ n → (at : ℕ)
          → Leaves (printed (Run at n)) (ready_of p) (ready_of (record p
          { running = option_map (λ h. with_role h Running) (head_of p.held); held = tail_of p.held })) 0
      held_runs t is number at = by_held p.held refl is where
        by_held : (hs : List Task) → p.held ≡ hs → head_of hs ≡ Some t
            → Leaves (printed (Run at n)) (ready_of p) (ready_of (record p
            { running = option_map (λ h. with_role h Running) (head_of hs); held = tail_of hs })) 0
        by_held [] are none = none_is_some none
        by_held (h ∷ rest) are top =
            subst (λ m. Leaves (printed (Run at m)) (ready_of p)
            (ready_of (record p { running = Some (with_role h Running); held = rest })) 0)
            (ap (λ (u : Task). u.number) (some_same h t top) ∙ number) (resumes p roles once h rest run_free are)

      pub waiting_runs : (t : Task) (rest : List Task) → t.number ≡ n → IsReordered p.waiting (t ∷ rest) → (at : ℕ)
          → Leaves (printed (Run at n)) (ready_of p)
          (ready_of (record p { running = Some (with_role t Running); waiting = rest })) 0
      waiting_runs t rest number out at =
          subst (λ m. Leaves (printed (Run at m)) (ready_of p)
          (ready_of (record p { running = Some (with_role t Running); waiting = rest })) 0)
          number (starts p roles once t rest run_free out)

      -- where neither the first held nor the first waiting job is named, the fresh one is
      module _ (held_not : (t : Task) → seen.first_held ≡ Some t → t.number ≡ n → ⊥)
          (waiting_not : (t : Task) → seen.first_waiting ≡ Some t → t.number ≡ n → ⊥) where
        not_next : (h o : Option Task) (t : Task) → seen.first_held ≡ h → seen.first_waiting ≡ o
            → next_of seen h o ≡ Some t
            → t.number ≡ n → ⊥
        not_next None o t h_is o_is is number = waiting_not t (o_is ∙ is) number
        not_next (Some h) None t h_is o_is is number = held_not t (h_is ∙ is) number
        not_next (Some h) (Some o) t h_is o_is is number =
            by_test (nat_lt o.job.deadline h.job.deadline && nat_le (left o) seen.held_room) is where
              by_test : (b : Bool) → Some (cond b o h) ≡ Some t → ⊥
              by_test true e = waiting_not t (o_is ∙ e) number
              by_test false e = held_not t (h_is ∙ e) number

        fresh_named : (f : Task) × (p.fresh ≡ Some f) × (f.number ≡ n)
        fresh_named = elim names_run.1 [
          | inl it ↦ absurd (not_next seen.first_held seen.first_waiting it.0 refl refl it.1 it.2)
          | inr it ↦ (it.0, sym (seen_fresh p roles) ∙ it.2, it.3)
        ]

        pub fresh_runs : (at : ℕ) → Leaves (printed (Run at n)) (ready_of p)
            (ready_of (record p { running = option_map (λ f. with_role f Running) p.fresh; fresh = None })) 0
        fresh_runs at =
            let f : Task = fresh_named.0 in
            subst (λ o. Leaves (printed (Run at n)) (ready_of p)
            (ready_of (record p { running = option_map (λ g. with_role g Running) o; fresh = None })) 0)
            (sym fresh_named.1)
            (subst (λ m. Leaves (printed (Run at m)) (ready_of p)
            (ready_of (record p { running = Some (with_role f Running); fresh = None })) 0)
            fresh_named.2 (begins p roles once f run_free fresh_named.1))

  module _ (m n : ℕ) where
    -- the fresh job preempts
    module _ (next : (at : ℕ) × IsNext p (Preempt at m n)) where
      names_two : Says seen (Preempt next.0 m n)
      names_two = says next.1.0 seen (Preempt next.0 m n) next.1.1

      -- so one is fresh
      pub some_fresh : p.fresh ≡ None → ⊥
      some_fresh none = none_is_some (sym none ∙ (sym (seen_fresh p roles) ∙ names_two.3))

      pub preempted_leaves : (r f : Task) → p.running ≡ Some r → p.fresh ≡ Some f → (at : ℕ)
          → Leaves (printed (Preempt at m n)) (ready_of p) (ready_of (record p
          { running = Some (with_role f Running); fresh = None; held = with_role r Held ∷ p.held })) 0
      preempted_leaves r f is fresh at =
          subst (λ k. Leaves (printed (Preempt at k n)) (ready_of p) (ready_of (record p
          { running = Some (with_role f Running); fresh = None; held = with_role r Held ∷ p.held })) 0)
          (named_here p.running r names_two.0 m is (runs_here names_two.0 names_two.2) names_two.4)
          (subst (λ k. Leaves (printed (Preempt at r.number k)) (ready_of p) (ready_of (record p
          { running = Some (with_role f Running); fresh = None; held = with_role r Held ∷ p.held })) 0)
          (named_here p.fresh f names_two.1 n fresh (sym (seen_fresh p roles) ∙ names_two.3)
          names_two.5) (preempts p roles once r f is fresh))

    -- a waiting job takes the processor
    module _ (next : (at : ℕ) × IsNext p (Take at m n)) where
      names_taken : Says seen (Take next.0 m n)
      names_taken = says next.1.0 seen (Take next.0 m n) next.1.1

      -- so one runs
      pub some_runs : p.running ≡ None → ⊥
      some_runs none = none_is_some (sym none ∙ runs_here names_taken.0 names_taken.2)

      -- and one is at its latest start
      pub some_late : seen.must_start ≡ None → ⊥
      some_late none = none_is_some (sym none ∙ names_taken.3)

      -- the job at its latest start is the one that the step names
      pub taken_named : (x : Task) → seen.must_start ≡ Some x → x.number ≡ n
      taken_named x late = named_here seen.must_start x names_taken.1 n late names_taken.3 names_taken.5

      pub taken_leaves : (r x : Task) (rest : List Task) → p.running ≡ Some r → seen.must_start ≡ Some x
          → IsReordered (map made_wait (r ∷ p.held) ++ p.waiting) (x ∷ rest) → (at : ℕ)
          → Leaves (printed (Take at m n)) (ready_of p) (ready_of (record p
          { running = Some (with_role x Running); held = []; waiting = rest })) 0
      taken_leaves r x rest is late out at =
          let stale : p.fresh ≡ None = sym (seen_fresh p roles) ∙ names_taken.6 in
          subst (λ k. Leaves (printed (Take at m k)) (ready_of p) (ready_of (record p
          { running = Some (with_role x Running); held = []; waiting = rest })) 0)
          (taken_named x late)
          (takes p roles once r x rest is out
          (once_displaced r (option_to_list p.fresh) p.held p.waiting
          (subst (λ o. AreOnce (option_to_list o ++ (option_to_list p.fresh ++ (p.held ++ p.waiting)))) is once))
          (subst (λ o. Each (λ t. t.number ≡ x.number → ⊥) (option_to_list o)) (sym stale) (λ t k. absurd k)))
