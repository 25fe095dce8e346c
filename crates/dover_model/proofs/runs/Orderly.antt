-- Where no window is overfull, the run goes by deadlines: no job is refused, and none is lost.
use Rattle.std.proofs.Common.{◌≡◌, ℕ, ◌+◌, ◌≤◌, ◌<◌, ◌⊎◌, inl, inr, List, refl, sym, ap, ◌∙◌, subst, Bool, true, false}
use Rattle.std.proofs.Common.{cond, eqb, arith, nat_lt, nat_le, sum_by, ltb-true, le-leb, eqb-true, eq-eqb, ne_eqb}
use Rattle.std.proofs.lemmas.Bool.{and_from, cases_lt}
use Rattle.dover_model.specs.Common.{Role, Waiting, Running, Done, Gone, Task, State, is_privileged, left, latest_start}
use Rattle.dover_model.specs.Common.{with_role, IsMember, Each, EachTwo, IsSound, is_inside}
use Rattle.dover_model.proofs.lists.Members.{sum_le, sum_plus}
use Rattle.dover_model.proofs.steps.Roles.{one_number, passes}
use Rattle.dover_model.proofs.steps.Loads.{sum_change, share, load, share_later, share_most}
use Rattle.dover_model.proofs.steps.Moves.{says, active_slack}
use Rattle.dover_model.proofs.steps.Deeds.{Crowded}
use Rattle.dover_model.proofs.runs.Serving.{demand_in, NoneOverfull}
use Rattle.dover_model.proofs.lists.Tests.{never}

-- the ticks that jobs is_inside a window have had
abbrev pub had_in : ℕ → ℕ → List Task → ℕ
had_in a b tasks = sum_by (λ t. cond (is_inside a b t.job) t.had 0) tasks

-- since the tick a, only jobs that must run between a and b have run, and those that are released before a and due by b
-- are done
pub record Window (s : State) (b : ℕ) : Type 0 where
  pub a : ℕ
  pub past : a ≤ s.clock
  pub filled : s.clock ≤ a + had_in a b s.tasks
  pub clean : Each (λ t. t.job.release < a → t.job.deadline ≤ b → t.role ≡ Done) s.tasks

-- no job is gone
abbrev pub NoneGone : State → Type 0
NoneGone s = Each (λ t. t.role ≡ Gone → ⊥) s.tasks

-- a state in which jobs are run by deadlines
pub record ByDeadline (s : State) : Type 0 where
  pub none_gone : NoneGone s
  pub calm : s.pressed ≡ false
  pub running_first : EachTwo (λ t u. t.role ≡ Running → u.role ≡ Waiting → t.job.deadline ≤ u.job.deadline) s.tasks
  pub windows : (b : ℕ) → Window s b

-- ---- too much work for a window

module _ (s : State) (sound : IsSound s) (orderly : ByDeadline s) (room : NoneOverfull s.tasks) where
  -- Parts of what jobs have left, where these jobs are not done and due by b, fit before b.
  pub parts_fit : (b : ℕ) (part : Task → ℕ) → s.clock ≤ b → Each (λ t. part t ≤ left t) s.tasks
      → Each (λ t. (part t ≡ 0) ⊎ ((t.role ≡ Done → ⊥) × (t.job.deadline ≤ b))) s.tasks
      → s.clock + sum_by part s.tasks ≤ b
  parts_fit b part now small each =
      let it : Window s b = orderly.windows b in
      let past : it.a ≤ s.clock = it.past in
      let filled : s.clock ≤ it.a + had_in it.a b s.tasks = it.filled in
      let full : it.a + demand_in it.a b s.tasks ≤ b = room it.a b (omega arith) in
      let less : sum_by (λ t. cond (is_inside it.a b t.job) t.had 0 + part t) s.tasks ≤ demand_in it.a b s.tasks =
      sum_le (λ t. cond (is_inside it.a b t.job) t.had 0 + part t) (λ t. cond (is_inside it.a b t.job) t.job.work 0)
      s.tasks
      (λ t m. at_job it t m (each t m)) in
      omega (arith, sum_plus (λ t. cond (is_inside it.a b t.job) t.had 0) part s.tasks) where
        at_job : (w : Window s b) (t : Task) → IsMember t s.tasks → (part t ≡ 0)
            ⊎ ((t.role ≡ Done → ⊥) × (t.job.deadline ≤ b))
            → cond (is_inside w.a b t.job) t.had 0 + part t ≤ cond (is_inside w.a b t.job) t.job.work 0
        at_job w t m (inl none) = by_test (is_inside w.a b t.job) where
          by_test : (x : Bool) → cond x t.had 0 + part t ≤ cond x t.job.work 0
          by_test true = let most : t.had ≤ t.job.work = sound.at_most_work t m in omega (arith, none)
          by_test false = omega (arith, none)
        at_job w t m (inr it) =
            let due : t.job.deadline ≤ b = it.1 in
            let since : w.a ≤ t.job.release = by_release (cases_lt t.job.release w.a) in
            let is_in : is_inside w.a b t.job ≡ true =
            and_from (nat_le w.a t.job.release) (nat_le t.job.deadline b) (le-leb _ _ since) (le-leb _ _ due) in
            let most : t.had ≤ t.job.work = sound.at_most_work t m in
            let part_small : part t ≤ left t = small t m in
            subst (λ x. cond x t.had 0 + part t ≤ cond x t.job.work 0) (sym is_in) (omega arith) where
              by_release : (t.job.release < w.a) ⊎ (w.a ≤ t.job.release) → w.a ≤ t.job.release
              by_release (inl early) = absurd (it.0 (w.clean t m early it.1))
              by_release (inr since) = since

  -- what two jobs have left, beside parts of what others have
  two_more : (base : Task → ℕ) (j o : Task) → IsMember j s.tasks → IsMember o s.tasks → (o.number ≡ j.number → ⊥)
      → base j ≡ 0 → base o ≡ 0
      → sum_by base s.tasks + left j + left o ≤ sum_by
      (λ t. cond (eqb t.number o.number) (left t) (cond (eqb t.number j.number) (left t) (base t))) s.tasks
  two_more base j o mj mo apart none_j none_o =
      let one : sum_by base s.tasks + left j ≤ sum_by (λ t. cond (eqb t.number j.number) (left t) (base t)) s.tasks
      + 0 =
      sum_change base (λ t. cond (eqb t.number j.number) (left t) (base t)) (left j) 0 0 s.tasks j sound.numbered mj
      (subst (λ x. base j + left j ≤ cond x (left j) (base j) + 0) (sym (eq-eqb j.number j.number refl))
      (omega (arith, none_j)))
      (λ u mu differs. subst (λ x. base u ≤ cond x (left u) (base u)) (sym (ne_eqb u.number j.number differs))
      (omega arith)) in
      let two : sum_by (λ t. cond (eqb t.number j.number) (left t) (base t)) s.tasks + left o ≤ sum_by
      (λ t. cond (eqb t.number o.number) (left t) (cond (eqb t.number j.number) (left t) (base t))) s.tasks + 0 =
      sum_change (λ t. cond (eqb t.number j.number) (left t) (base t))
      (λ t. cond (eqb t.number o.number) (left t) (cond (eqb t.number j.number) (left t) (base t)))
      (left o) 0 0 s.tasks o sound.numbered mo
      (subst (λ x. cond x (left o) (base o) + left o ≤ cond (eqb o.number o.number) (left o) (cond x (left o) (base o))
      + 0)
      (sym (ne_eqb o.number j.number apart))
      (subst (λ x. base o + left o ≤ cond x (left o) (base o) + 0) (sym (eq-eqb o.number o.number refl))
      (omega (arith, none_o))))
      (λ u mu differs. subst (λ x. cond (eqb u.number j.number) (left u) (base u) ≤ cond x (left u)
      (cond (eqb u.number j.number) (left u) (base u))) (sym (ne_eqb u.number o.number differs)) (omega arith)) in
      omega arith

  -- so two jobs and parts of others that are due by b fit before b
  two_fit : (b : ℕ) (base : Task → ℕ) (j o : Task) → IsMember j s.tasks → IsMember o s.tasks → (o.number ≡ j.number → ⊥)
      → base j ≡ 0 → base o ≡ 0
      → (j.role ≡ Done → ⊥) → j.job.deadline ≤ b → (o.role ≡ Done → ⊥) → o.job.deadline ≤ b → s.clock ≤ b
      → Each (λ t. base t ≤ left t) s.tasks
      → Each (λ t. (base t ≡ 0) ⊎ ((t.role ≡ Done → ⊥) × (t.job.deadline ≤ b))) s.tasks
      → s.clock + (sum_by base s.tasks + left j + left o) ≤ b
  two_fit b base j o mj mo apart none_j none_o goes_j due_j goes_o due_o now small each =
      let fit : s.clock + sum_by
      (λ t. cond (eqb t.number o.number) (left t) (cond (eqb t.number j.number) (left t) (base t))) s.tasks ≤ b =
      parts_fit b (λ t. cond (eqb t.number o.number) (left t) (cond (eqb t.number j.number) (left t) (base t))) now
      (λ t m. least (eqb t.number o.number) (eqb t.number j.number) t (small t m))
      (λ t m. facts (eqb t.number o.number) (eqb t.number j.number) t m refl refl (each t m)) in
      omega (arith, two_more base j o mj mo apart none_j none_o) where
        least : (x y : Bool) (t : Task) → base t ≤ left t → cond x (left t) (cond y (left t) (base t)) ≤ left t
        least true y t low = omega arith
        least false true t low = omega arith
        least false false t low = low

        facts : (x y : Bool) (t : Task) → IsMember t s.tasks → eqb t.number o.number ≡ x → eqb t.number j.number ≡ y
            → (base t ≡ 0) ⊎ ((t.role ≡ Done → ⊥) × (t.job.deadline ≤ b))
            → (cond x (left t) (cond y (left t) (base t)) ≡ 0) ⊎ ((t.role ≡ Done → ⊥) × (t.job.deadline ≤ b))
        facts true y t m is_o is_j other =
            inr (subst (λ (z : Task). (z.role ≡ Done → ⊥) × (z.job.deadline ≤ b))
            (sym (one_number 0 s.tasks sound.numbered t o m mo (eqb-true _ _ is_o))) (goes_o, due_o))
        facts false true t m is_o is_j other =
            inr (subst (λ (z : Task). (z.role ≡ Done → ⊥) × (z.job.deadline ≤ b))
            (sym (one_number 0 s.tasks sound.numbered t j m mj (eqb-true _ _ is_j))) (goes_j, due_j))
        facts false false t m is_o is_j other = other

  -- a job of another role is not done
  goes_on : (t : Task) (role : Role) → t.role ≡ role → (role ≡ Done → ⊥) → t.role ≡ Done → ⊥
  goes_on t role e other done = other (sym e ∙ done)

  -- a running or held job is not done
  active_goes : (t : Task) → is_privileged t ≡ true → t.role ≡ Done → ⊥
  active_goes t is_in done = never (sym (passes is_privileged t Done false done refl) ∙ is_in)

  -- what adds to a load is not done, and due before
  share_facts : (j t : Task) → (share (is_privileged t) j t ≡ 0)
      ⊎ ((t.role ≡ Done → ⊥) × (t.job.deadline ≤ j.job.deadline))
  share_facts j t = by_tests (is_privileged t) (nat_lt t.job.deadline j.job.deadline) refl refl where
    by_tests : (x y : Bool) → is_privileged t ≡ x → nat_lt t.job.deadline j.job.deadline ≡ y
        → (cond x (cond y (left t) 0) 0 ≡ 0) ⊎ ((t.role ≡ Done → ⊥) × (t.job.deadline ≤ j.job.deadline))
    by_tests true true is_in before =
        inr (active_goes t is_in, let less : t.job.deadline < j.job.deadline = ltb-true _ _ before in omega arith)
    by_tests true false is_in after_j = inl refl
    by_tests false y out e = inl refl

  -- no job that is due before the running and held ones is refused
  pub not_crowded : (o : Task) → IsMember o s.tasks → (role : Role) → o.role ≡ role
      → is_privileged (with_role o role) ≡ false → (role ≡ Done → ⊥)
      → Each (λ t. is_privileged t ≡ true → o.job.deadline ≤ t.job.deadline) s.tasks → Crowded s (left o) → ⊥
  not_crowded o mo role e out goes before crowd =
      let j : Task = crowd.job in
      let out_o : is_privileged o ≡ false = passes is_privileged o role false e out in
      let fit : s.clock + (sum_by (λ t. share (is_privileged t) crowd.job t) s.tasks + left crowd.job + left o)
      ≤ crowd.job.job.deadline =
      two_fit crowd.job.job.deadline (λ t. share (is_privileged t) crowd.job t) crowd.job o crowd.member mo
      (λ same. never (sym out_o ∙ subst (λ (z : Task). is_privileged z ≡ true)
      (sym (one_number 0 s.tasks sound.numbered o crowd.job mo crowd.member same)) crowd.active))
      (share_later (is_privileged crowd.job) crowd.job crowd.job (omega arith)) (ap (λ b. share b crowd.job o) out_o)
      (active_goes crowd.job crowd.active) (omega arith) (goes_on o role e goes)
      (before crowd.job crowd.member crowd.active)
      (let slack : s.clock + left crowd.job ≤ crowd.job.job.deadline =
      active_slack s sound crowd.job crowd.member crowd.active in omega arith)
      (λ t m. share_most (is_privileged t) crowd.job t) (λ t m. share_facts crowd.job t) in
      let late : crowd.job.job.deadline < s.clock + load s.tasks crowd.job + left o = crowd.late in
      omega arith

  -- no waiting job comes to its latest start while another runs
  pub no_alarm : (r x : Task) → IsMember r s.tasks → r.role ≡ Running → 1 ≤ left r → IsMember x s.tasks
      → x.role ≡ Waiting
      → latest_start x ≡ s.clock → ⊥
  no_alarm r x mr runs some mx waiting now =
      let slack : s.clock + left x ≤ x.job.deadline = (says s sound x mx Waiting waiting).2 in
      let first : r.job.deadline ≤ x.job.deadline = orderly.running_first r x mr mx runs waiting in
      let fit : s.clock + (sum_by (λ (t : Task). 0) s.tasks + left r + left x) ≤ x.job.deadline =
      two_fit x.job.deadline (λ t. 0) r x mr mx
      (λ same. let twin : x ≡ r = one_number 0 s.tasks sound.numbered x r mx mr same in let e : Waiting ≡ Running =
      sym waiting
      ∙ ap (λ (z : Task). z.role) twin ∙ runs in cc) refl refl
      (goes_on r Running runs (λ e. cc)) first (goes_on x Waiting waiting (λ e. cc)) (omega arith) (omega arith)
      (λ t m. omega arith)
      (λ t m. inl refl) in
      omega arith
