-- A tick is given to no more jobs than there are processors.
use Rattle.std.proofs.Common.{◌≡◌, ℕ, suc, zero, ◌≤◌, ◌<◌, ◌⊎◌, inl, inr, List, [], ◌∷◌, length, refl, sym, ap, ◌∙◌}
use Rattle.std.proofs.Common.{Bool, true, false, ◌&&◌, ◌==◌, arith, eqb-true, eq-eqb, sum_by}
use Rattle.std.specs.Prelude.{filter_map}
use Rattle.std.proofs.lemmas.Bool.{and_parts}
use Rattle.std.proofs.lemmas.List.Sums.{sum_by-cons}
use Rattle.dover_model.specs.declared.events.Task.{Task}
use Rattle.dover_model.specs.declared.events.Role.TheVariants.{Running}
use Rattle.dover_model.specs.Common.{Instance, IsValid, is_privileged, is_running, IsMember}
use Rattle.dover_model.proofs.bound.Counting.{one}
use Rattle.dover_model.proofs.lists.Members.{map_member, sum_le, sum_zero, term_le_sum, each_cons}
use Rattle.dover_model.proofs.steps.Roles.{passes, is_running_role}
use Rattle.many_processors.specs.State.{Placed, State, seen_by, opening}
use Rattle.many_processors.specs.Step.{Move, Prints, Waits, Ticks, numbers_from, after, step}
use Rattle.many_processors.specs.Run as many
use Rattle.many_processors.specs.Run.{run_from, run, is_end, enough, numbers_running, tick_of, ran}
use Rattle.many_processors.specs.Schedules.{IsFor}
use Rattle.many_processors.specs.Sound.{Keeps}
use Rattle.many_processors.proofs.steps.Seeing.{below_numbers}
use Rattle.many_processors.proofs.steps.Placing.{own_seen}
use Rattle.many_processors.proofs.bound.Sharing.{some_pass}
use Rattle.many_processors.proofs.books.Booked.{sum_at}
use Rattle.many_processors.proofs.books.TickSteps.{serves, sum_swap, running_count}
use Rattle.many_processors.proofs.steps.Turns.{step_kept, opening_kept}

-- so many processors
pub count_all : (q more : ℕ) → sum_by (λ (j : ℕ). 1) (numbers_from q more) ≡ more
count_all q zero = refl
count_all q (suc more) = omega (
  arith,
  sum_by-cons (λ (j : ℕ). 1) q (numbers_from (suc q) more),
  count_all (suc q) more,
)

module _ (processors : ℕ) (J : Instance) (valid : IsValid J) (s : State) (keeps : Keeps processors J s) where
  -- one job runs on a processor at most
  one_here : (q : ℕ) → sum_by (λ p. one (serves q p)) s.jobs ≤ 1
  one_here q = by_some (some_pass (serves q) s.jobs) where
    parts : (p : Placed) → serves q p ≡ true → (p.task.role ≡ Running) × (p.owner ≡ q)
    parts p e = let both = and_parts (is_running p.task) (p.owner == q) e in
        (is_running_role p.task both.0, eqb-true _ _ both.1)

    same_number : (p u : Placed) → IsMember p s.jobs → IsMember u s.jobs → serves q p ≡ true → serves q u ≡ true
        → p.task.number ≡ u.task.number
    same_number p u mp mu e f =
        let p_seen : seen_by q p ≡ p.task = own_seen q p (parts p e).1 in
        let u_seen : seen_by q u ≡ u.task = own_seen q u (parts u f).1 in
        sym (ap (λ (t : Task). t.number) p_seen)
        ∙ (keeps.sound q).one_runs (seen_by q p) (seen_by q u) (map_member (seen_by q) s.jobs p mp)
        (map_member (seen_by q) s.jobs u mu) (ap (λ (t : Task). t.role) p_seen ∙ (parts p e).0)
        (ap (λ (t : Task). t.role) u_seen ∙ (parts u f).0) ∙ ap (λ (t : Task). t.number) u_seen

    one_most : (b : Bool) → one b ≤ 1
    one_most true = omega arith
    one_most false = omega arith

    by_some : (sum_by (λ p. one (serves q p)) s.jobs ≡ 0) ⊎ ((x : Placed) × IsMember x s.jobs × (serves q x ≡ true))
        → sum_by (λ p. one (serves q p)) s.jobs ≤ 1
    by_some (inl none) = omega (arith, none)
    by_some (inr it) = omega (
      arith,
      sum_at (λ p. one (serves q p)) (λ p. 0) 0 s.jobs it.0 (keeps.sound 0).numbered it.1
          (λ p member differs. by_test p member differs (serves q p) refl),
      one_most (serves q it.0),
      sum_zero (λ (p : Placed). 0) s.jobs (λ p member. refl),
    ) where
      by_test : (p : Placed) → IsMember p s.jobs → (p.task.number ≡ (it.0).task.number → ⊥) → (b : Bool)
          → serves q p ≡ b → one (serves q p) ≡ 0
      by_test p member differs false e = ap one e
      by_test p member differs true e = absurd (differs (same_number p it.0 member it.1 e it.2))

  -- each running job runs on some processor
  runs_on_one : (p : Placed) → IsMember p s.jobs → one (is_running p.task)
      ≤ sum_by (λ j. one (serves j p)) (numbers_from 0 processors)
  runs_on_one p member = by_test (is_running p.task) refl where
    by_test : (b : Bool) → is_running p.task ≡ b → one b ≤ sum_by (λ j. one (serves j p)) (numbers_from 0 processors)
    by_test false e = omega arith
    by_test true e =
        let low : p.owner < processors = keeps.placed.owners p member (passes is_privileged p.task Running true
        (is_running_role p.task e) refl) in
        omega (
          arith,
          term_le_sum (λ j. one (serves j p)) (numbers_from 0 processors) p.owner
              (below_numbers p.owner 0 processors (omega arith) (omega (arith, low))),
          ap (λ b. one (b && p.owner == p.owner)) e,
          ap one (eq-eqb p.owner p.owner refl),
        )

  -- a tick is given to so many at most
  running_few : length (numbers_running s) ≤ processors
  running_few = omega (
    arith,
    running_count s.jobs,
    sum_le (λ p. one (is_running p.task)) (λ p. sum_by (λ j. one (serves j p)) (numbers_from 0 processors)) s.jobs
        runs_on_one,
    sum_swap (λ (p : Placed) j. one (serves j p)) s.jobs (numbers_from 0 processors),
    sum_le (λ j. sum_by (λ p. one (serves j p)) s.jobs) (λ (j : ℕ). 1) (numbers_from 0 processors)
        (λ j member. one_here j),
    count_all 0 processors,
  )

-- so is each of a run
module _ (processors : ℕ) (J : Instance) (valid : IsValid J) (some : 1 ≤ processors) where
  later : (s : State) (m : Move) (rest : List many.Step) → length (numbers_running s) ≤ processors
      → IsFor processors (filter_map tick_of rest) → IsFor processors (filter_map tick_of (record {
        before = s;
        move = m;
      } ∷ rest))
  later s (Prints q e) rest few all = all
  later s (Waits n) rest few all = all
  later s Ticks rest few all = each_cons (λ numbers. length numbers ≤ processors) (numbers_running s)
      (filter_map tick_of rest) few all

  all_few : (more : ℕ) (s : State) → Keeps processors J s
      → IsFor processors (filter_map tick_of (run_from processors J.rules more s))
  all_few zero s keeps = λ numbers member. absurd member
  all_few (suc more) s keeps = later s (step processors J.rules s)
      (elim (is_end (step processors J.rules s)) [
        | true ↦ []
        | false ↦ run_from processors J.rules more (after s (step processors J.rules s))
      ])
      (running_few processors J valid s keeps)
      (by_end (is_end (step processors J.rules s)) (all_few more (after s (step processors J.rules s))
      (step_kept processors J valid some J.rules s keeps))) where
        by_end : (b : Bool)
            → IsFor processors (filter_map tick_of
            (run_from processors J.rules more (after s (step processors J.rules s))))
            → IsFor processors (filter_map tick_of (elim b [
              | true ↦ []
              | false ↦ run_from processors J.rules more (after s (step processors J.rules s))
            ]))
        by_end true all = λ numbers member. absurd member
        by_end false all = all

  pub ran_for : IsFor processors (ran processors J)
  ran_for = all_few (enough J.jobs) (opening J.jobs) (opening_kept processors J)
