-- What a step does to the ready jobs, by their roles.
use Rattle.std.proofs.Common.{◌≡◌, ℕ, suc, ◌≤◌, inl, inr, List, [], ◌∷◌, ◌++◌, map, refl, sym, ap, ◌∙◌, subst, Bool}
use Rattle.std.proofs.Common.{true, false, cond, arith, Some, None, ◌==◌, option_to_list, filter, sum_by, eq-eqb}
use Rattle.std.proofs.Common.{ne_eqb}
use Rattle.std.proofs.lemmas.List.{map-append}
use Rattle.std.proofs.lemmas.List.Sums.{sum_by-cons}
use Rattle.dover_model.specs.declared.events.Role.{Role}
use Rattle.dover_model.specs.declared.events.Role.TheVariants.{Fresh, Waiting, Held, Running, Done, Gone}
use Rattle.dover_model.specs.declared.events.Task.{Task}
use Rattle.dover_model.specs.Common.{is_done, value_sum, with_role, displaced, IsMember, Each, IsNumberedFrom, is_ready}
use Rattle.dover_model.proofs.lists.Members.{sum_filter, sum_zero, sum_le, term_le_sum, map_map, map_same, each_append}
use Rattle.dover_model.proofs.steps.Roles.{passes, numbers_above}
use Rattle.dover_model.proofs.lists.Tests.{never}
use Rattle.waiting_pool.specs.Reordered.{IsReordered}
use Rattle.waiting_pool.specs.Pools.{HaveOwnNumbers}
use Rattle.ready_jobs.specs.Parts.{Parted, HaveRole, HaveRoles, ready_of}
use Rattle.ready_jobs.specs.Changed.{named, AreOnce, made_wait, Leaves}
use Rattle.waiting_pool.proofs.Reordering.{same_order, both_parts, turned, further, filtered, mapped}
use Rattle.waiting_pool.proofs.Places.{between}
use Rattle.ready_jobs.proofs.Seeing.{filter_each, filter_none}

-- ---- numbers of their own, as often as they are there

-- jobs numbered in a row are
pub once_numbered : (m : ℕ) (tasks : List Task) → IsNumberedFrom m tasks → AreOnce tasks
once_numbered m [] all n = omega arith
once_numbered m (t ∷ tasks) all n = by_test (t.number == n) refl (once_numbered (suc m) tasks all.1 n) where
  equal : (a b : ℕ) → (a == b) ≡ true → a ≡ b
  equal a b e = grind arith

  by_test : (b : Bool) → (t.number == n) ≡ b → sum_by (named n) tasks ≤ 1 → sum_by (named n) (t ∷ tasks) ≤ 1
  by_test true e rest =
      let none : sum_by (named n) tasks ≡ 0 = sum_zero (named n) tasks (λ u k.
      let above : suc m ≤ u.number = numbers_above (suc m) tasks all.1 u k in
      ap (λ (b : Bool). cond {A = ℕ} b 1 0) (ne_eqb u.number n (λ same.
      let here : t.number ≡ n = equal t.number n e in let start : t.number ≡ m = all.0 in omega arith))) in
      omega (arith, sum_by-cons (named n) t tasks, ap (λ (b : Bool). cond {A = ℕ} b 1 0) e, none)
  by_test false e rest = omega (arith, sum_by-cons (named n) t tasks, ap (λ (b : Bool). cond {A = ℕ} b 1 0) e, rest)

-- so are some of them
pub once_some : (p : Task → Bool) (tasks : List Task) → AreOnce tasks → AreOnce (filter p tasks)
once_some p tasks once n =
    let less : sum_by (λ t. cond (p t) (named n t) 0) tasks ≤ sum_by (named n) tasks =
    sum_le (λ t. cond (p t) (named n t) 0) (named n) tasks
    (λ t m. at_most (p t) (named n t)) in
    let all : sum_by (named n) tasks ≤ 1 = once n in
    omega (arith, sum_filter p (named n) tasks, less, all) where
      at_most : (b : Bool) (k : ℕ) → cond b k 0 ≤ k
      at_most true k = omega arith
      at_most false k = omega arith

-- and so they are in another order
pub once_still : (xs ys : List Task) → IsReordered xs ys → AreOnce xs → AreOnce ys
once_still xs ys same once n = let all : sum_by (named n) xs ≤ 1 = once n in omega (arith, same.weighs (named n))

-- other jobs than the first have other numbers
pub others_apart : (x : Task) (xs : List Task) → AreOnce (x ∷ xs) → Each (λ t. t.number ≡ x.number → ⊥) xs
others_apart x xs once t m same =
    let all : sum_by (named x.number) (x ∷ xs) ≤ 1 = once x.number in
    let mine : named x.number t ≤ sum_by (named x.number) xs = term_le_sum (named x.number) xs t m in
    omega (
      arith,
      all,
      mine,
      sum_by-cons (named x.number) x xs,
      ap (λ (b : Bool). cond {A = ℕ} b 1 0) (eq-eqb x.number x.number refl),
      ap (λ (b : Bool). cond {A = ℕ} b 1 0) (eq-eqb t.number x.number same),
    )

-- so two of one number are one
pub once_own : (tasks : List Task) → AreOnce tasks → HaveOwnNumbers tasks
once_own [] once t u mt mu same = absurd mt
once_own (x ∷ xs) once t u (inl e) (inl f) same = e ∙ sym f
once_own (x ∷ xs) once t u (inl e) (inr m) same =
    absurd (others_apart x xs once u m (sym same ∙ ap (λ (y : Task). y.number) e))
once_own (x ∷ xs) once t u (inr m) (inl f) same =
    absurd (others_apart x xs once t m (same ∙ ap (λ (y : Task). y.number) f))
once_own (x ∷ xs) once t u (inr m) (inr k) same = once_own xs (rest x xs once) t u m k same where
  rest : (y : Task) (ys : List Task) → AreOnce (y ∷ ys) → AreOnce ys
  rest y ys all n = let most : sum_by (named n) (y ∷ ys) ≤ 1 = all n in omega (arith, most, sum_by-cons (named n) y ys)

-- ---- one job in front

module _ (a b c d : List Task) (x : Task) where
  -- of the last part
  pub bring_last : IsReordered (a ++ (b ++ (c ++ x ∷ d))) (x ∷ (a ++ (b ++ (c ++ d))))
  bring_last = further (a ++ (b ++ (c ++ x ∷ d))) (a ++ (b ++ (x ∷ (c ++ d)))) (x ∷ (a ++ (b ++ (c ++ d))))
      (both_parts a a (b ++ (c ++ x ∷ d)) (b ++ (x ∷ (c ++ d))) (same_order a)
      (both_parts b b (c ++ x ∷ d) (x ∷ (c ++ d)) (same_order b) (turned (x ∷ (c ++ d)) (c ++ x ∷ d) (between x c d))))
      (further (a ++ (b ++ (x ∷ (c ++ d)))) (a ++ (x ∷ (b ++ (c ++ d)))) (x ∷ (a ++ (b ++ (c ++ d))))
      (both_parts _ _ _ _ (same_order a) (turned (x ∷ (b ++ (c ++ d))) (b ++ x ∷ (c ++ d)) (between x b (c ++ d))))
      (turned (x ∷ (a ++ (b ++ (c ++ d)))) (a ++ x ∷ (b ++ (c ++ d))) (between x a (b ++ (c ++ d)))))

  -- with the last part in another order
  pub bring_from : (e : List Task) → IsReordered e (x ∷ d)
      → IsReordered (a ++ (b ++ (c ++ e))) (x ∷ (a ++ (b ++ (c ++ d))))
  bring_from e same = further (a ++ (b ++ (c ++ e))) (a ++ (b ++ (c ++ x ∷ d))) (x ∷ (a ++ (b ++ (c ++ d))))
      (both_parts a a (b ++ (c ++ e)) (b ++ (c ++ x ∷ d)) (same_order a)
      (both_parts b b (c ++ e) (c ++ x ∷ d) (same_order b) (both_parts c c e (x ∷ d) (same_order c) same))) bring_last

-- ---- jobs that a change leaves

pub map_each : (f : Task → Task) (xs : List Task) → Each (λ t. f t ≡ t) xs → map f xs ≡ xs
map_each f [] all = refl
map_each f (x ∷ xs) all = ap (λ y. y ∷ map f xs) (all x (inl refl))
    ∙ ap (λ l. x ∷ l) (map_each f xs (λ t m. all t (inr m)))

-- the job of this number in another role
abbrev pub renamed : ℕ → Role → Task → Task
renamed n role t = with_role t (cond (t.number == n) role t.role)

pub renamed_other : (n : ℕ) (role : Role) (t : Task) → (t.number ≡ n → ⊥) → renamed n role t ≡ t
renamed_other n role t other = ap (λ b. with_role t (cond b role t.role)) (ne_eqb t.number n other)

pub renamed_here : (n : ℕ) (role : Role) (t : Task) → t.number ≡ n → renamed n role t ≡ with_role t role
renamed_here n role t same = ap (λ b. with_role t (cond b role t.role)) (eq-eqb t.number n same)

-- jobs that aren't over
abbrev pub AreReady : List Task → Type 0
AreReady tasks = Each (λ t. is_ready t ≡ true) tasks

pub ready_role : (role : Role) (tasks : List Task) → HaveRole role tasks
    → ((t : Task) → is_ready (with_role t role) ≡ true) → AreReady tasks
ready_role role tasks have test t m = passes is_ready t role true (have t m) (test t)

-- all parts are ready
pub all_ready : (q : Parted) → HaveRoles q → AreReady (ready_of q)
all_ready q roles =
    each_append (λ t. is_ready t ≡ true) (option_to_list q.running) (option_to_list q.fresh ++ (q.held ++ q.waiting))
    (ready_role Running (option_to_list q.running) roles.running (λ t. refl))
    (each_append (λ t. is_ready t ≡ true) (option_to_list q.fresh) (q.held ++ q.waiting)
    (ready_role Fresh (option_to_list q.fresh) roles.fresh (λ t. refl))
    (each_append (λ t. is_ready t ≡ true) q.held q.waiting (ready_role Held q.held roles.held (λ t. refl))
    (ready_role Waiting q.waiting roles.waiting (λ t. refl))))

-- of a list whose change has other jobs
pub leaves_of : (f : Task → Task) (xs ys zs : List Task) (worth : ℕ) → IsReordered xs ys → map f ys ≡ zs
    → (us : List Task)
    → filter is_ready zs ≡ us → value_sum (filter is_done zs) ≡ worth → Leaves f xs us worth
leaves_of f xs ys zs worth same is us ready done = record {
  ready = subst (IsReordered (filter is_ready (map f xs))) (ap (filter is_ready) is ∙ ready)
      (filtered (map f xs) (map f ys) (mapped xs ys same f) is_ready);
  done = sym ((filtered (map f xs) (map f ys) (mapped xs ys same f) is_done).weighs (λ t. t.job.value))
      ∙ ap (λ l. value_sum (filter is_done l)) is ∙ done;
}

-- none of them is done
pub none_done : (xs : List Task) → AreReady xs → value_sum (filter is_done xs) ≡ 0
none_done xs ready = ap value_sum (filter_none is_done xs (λ t m. not_done t (ready t m))) where
  not_done : (t : Task) → is_ready t ≡ true → is_done t ≡ false
  not_done t = by_role t.role where
    by_role : (role : Role) → is_ready (with_role t role) ≡ true → is_done (with_role t role) ≡ false
    by_role Done h = never h
    by_role _ h = refl

-- ---- one job changes its role

module _ (xs others : List Task) (x : Task) (same : IsReordered xs (x ∷ others)) (once : AreOnce xs)
    (ready : AreReady xs) where
  still_apart : Each (λ t. t.number ≡ x.number → ⊥) others
  still_apart = others_apart x others (once_still xs (x ∷ others) same once)

  still_ready : AreReady others
  still_ready t m = ready t (same.back t (inr m))

  changed : (role : Role) → map (renamed x.number role) (x ∷ others) ≡ with_role x role ∷ others
  changed role =
      ap (λ y. y ∷ map (renamed x.number role) others) (renamed_here x.number role x refl)
      ∙ ap (λ l. with_role x role ∷ l)
      (map_each (renamed x.number role) others (λ t m. renamed_other x.number role t (still_apart t m)))

  -- it is ready still
  pub turns : (role : Role) → is_ready (with_role x role) ≡ true
      → Leaves (renamed x.number role) xs (with_role x role ∷ others) 0
  turns role stays =
      leaves_of (renamed x.number role) xs (x ∷ others) (with_role x role ∷ others) 0 same (changed role)
      (with_role x role ∷ others)
      (filter_each is_ready (with_role x role ∷ others) all) (none_done (with_role x role ∷ others) all) where
        all : AreReady (with_role x role ∷ others)
        all t (inl e) = subst (λ u. is_ready u ≡ true) (sym e) stays
        all t (inr m) = still_ready t m

  -- it is done
  pub finishes : Leaves (renamed x.number Done) xs others x.job.value
  finishes =
      leaves_of (renamed x.number Done) xs (x ∷ others) (with_role x Done ∷ others) x.job.value same
      (changed Done) others
      (filter_each is_ready others still_ready)
      (let rest = none_done others still_ready in
      omega (arith, rest, sum_by-cons (λ (t : Task). t.job.value) (with_role x Done) (filter is_done others)))

  -- it is gone
  pub goes : Leaves (renamed x.number Gone) xs others 0
  goes =
      leaves_of _ _ _ _ _ same (changed Gone) _ (filter_each is_ready others still_ready) (none_done others still_ready)

-- with the jobs in another order
pub leaves_still : (f : Task → Task) (xs ys zs : List Task) (worth : ℕ) → Leaves f xs ys worth → IsReordered ys zs
    → Leaves f xs zs worth
leaves_still f xs ys zs worth it same =
    record { ready = further (filter is_ready (map f xs)) ys zs it.ready same; done = it.done }

-- ---- each step

module _ (q : Parted) (roles : HaveRoles q) (once : AreOnce (ready_of q)) where
  abbrev A : List Task
  A = option_to_list q.running

  abbrev B : List Task
  B = option_to_list q.fresh

  ready : AreReady (ready_of q)
  ready = all_ready q roles

  -- the running job is done
  pub completes : (r : Task) → q.running ≡ Some r
      → Leaves (renamed r.number Done) (ready_of q) (ready_of (record q { running = None })) r.job.value
  completes r is = finishes (ready_of q) (B ++ (q.held ++ q.waiting)) r
      (subst (λ o. IsReordered (ready_of q) (option_to_list o ++ (B ++ (q.held ++ q.waiting)))) is
      (same_order (ready_of q))) once ready

  -- the first held job runs
  pub resumes : (p : Task) (rest : List Task) → q.running ≡ None → q.held ≡ p ∷ rest
      → Leaves (renamed p.number Running) (ready_of q)
      (ready_of (record q { running = Some (with_role p Running); held = rest })) 0
  resumes p rest free is = turns (ready_of q) (B ++ (rest ++ q.waiting)) p
      (subst (λ o. IsReordered (option_to_list o ++ (B ++ (q.held ++ q.waiting))) (p ∷ (B ++ (rest ++ q.waiting))))
      (sym free)
      (subst (λ h. IsReordered (B ++ (h ++ q.waiting)) (p ∷ (B ++ (rest ++ q.waiting)))) (sym is)
      (turned (p ∷ (B ++ (rest ++ q.waiting))) (B ++ p ∷ (rest ++ q.waiting)) (between p B (rest ++ q.waiting))))) once
      ready Running refl

  -- a waiting job runs
  pub starts : (o : Task) (rest : List Task) → q.running ≡ None → IsReordered q.waiting (o ∷ rest)
      → Leaves (renamed o.number Running) (ready_of q)
      (ready_of (record q { running = Some (with_role o Running); waiting = rest })) 0
  starts o rest free same = turns (ready_of q) (B ++ (q.held ++ rest)) o
      (subst (λ r. IsReordered (option_to_list r ++ (B ++ (q.held ++ q.waiting))) (o ∷ (B ++ (q.held ++ rest))))
      (sym free)
      (bring_from [] B q.held rest o q.waiting same)) once ready Running refl

  -- the fresh job runs
  pub begins : (f : Task) → q.running ≡ None → q.fresh ≡ Some f
      → Leaves (renamed f.number Running) (ready_of q)
      (ready_of (record q { running = Some (with_role f Running); fresh = None })) 0
  begins f free is = turns (ready_of q) (q.held ++ q.waiting) f
      (subst (λ r. IsReordered (option_to_list r ++ (B ++ (q.held ++ q.waiting))) (f ∷ (q.held ++ q.waiting)))
      (sym free)
      (subst (λ o. IsReordered (option_to_list o ++ (q.held ++ q.waiting)) (f ∷ (q.held ++ q.waiting))) (sym is)
      (same_order (f ∷ (q.held ++ q.waiting))))) once ready Running refl

  -- a waiting job is gone
  pub abandons : (x : Task) (rest : List Task) → IsReordered q.waiting (x ∷ rest)
      → Leaves (renamed x.number Gone) (ready_of q) (ready_of (record q { waiting = rest })) 0
  abandons x rest same = goes _ _ _ (bring_from A B q.held rest x q.waiting same) once ready

  -- the fresh job waits
  pub stays : (f : Task) (more : List Task) → q.fresh ≡ Some f → IsReordered (with_role f Waiting ∷ q.waiting) more
      → Leaves (renamed f.number Waiting) (ready_of q) (ready_of (record q { fresh = None; waiting = more })) 0
  stays f more is same = leaves_still (renamed f.number Waiting) (ready_of q)
      (with_role f Waiting ∷ (A ++ (q.held ++ q.waiting)))
      (A ++ (q.held ++ more)) 0
      (turns (ready_of q) (A ++ (q.held ++ q.waiting)) f
      (subst (λ o. IsReordered (A ++ (option_to_list o ++ (q.held ++ q.waiting))) (f ∷ (A ++ (q.held ++ q.waiting))))
      (sym is)
      (turned (f ∷ (A ++ (q.held ++ q.waiting))) (A ++ f ∷ (q.held ++ q.waiting)) (between f A (q.held ++ q.waiting))))
      once ready Waiting refl)
      (further (with_role f Waiting ∷ (A ++ (q.held ++ q.waiting))) (A ++ (q.held ++ (with_role f Waiting ∷ q.waiting)))
      (A ++ (q.held ++ more))
      (turned _ _ (bring_last A [] q.held q.waiting (with_role f Waiting)))
      (both_parts A A (q.held ++ (with_role f Waiting ∷ q.waiting)) (q.held ++ more) (same_order A)
      (both_parts q.held q.held (with_role f Waiting ∷ q.waiting) more (same_order q.held) same)))

  -- ---- two jobs, or more

  -- the running job is held, and the fresh one runs
  abbrev preempted : ℕ → ℕ → Task → Task
  preempted m n t = with_role t (cond (t.number == n) Running (cond (t.number == m) Held t.role))

  pub preempts : (r f : Task) → q.running ≡ Some r → q.fresh ≡ Some f
      → Leaves (preempted r.number f.number) (ready_of q)
      (ready_of (record q { running = Some (with_role f Running); fresh = None; held = with_role r Held ∷ q.held })) 0
  preempts r f runs is = leaves_still (preempted r.number f.number) (ready_of q)
      (with_role r Held ∷ (with_role f Running ∷ rest))
      (with_role f Running ∷ (with_role r Held ∷ rest)) 0
      (leaves_of _ _ _ _ _ order after _ (filter_each is_ready (with_role r Held ∷ (with_role f Running ∷ rest)) all)
      (none_done (with_role r Held ∷ (with_role f Running ∷ rest)) all))
      (between (with_role r Held) (with_role f Running ∷ []) rest) where
        rest : List Task
        rest = q.held ++ q.waiting

        order : IsReordered (ready_of q) (r ∷ (f ∷ rest))
        order = subst (λ o. IsReordered (ready_of q) (option_to_list o ++ (f ∷ rest))) runs
            (subst (λ o. IsReordered (ready_of q) (A ++ (option_to_list o ++ rest))) is (same_order (ready_of q)))

        after_r : Each (λ t. t.number ≡ r.number → ⊥) (f ∷ rest)
        after_r = others_apart r (f ∷ rest) (once_still (ready_of q) (r ∷ (f ∷ rest)) order once)

        tail_once : AreOnce (f ∷ rest)
        tail_once n =
            let most : sum_by (named n) (r ∷ (f ∷ rest)) ≤ 1 = once_still (ready_of q) (r ∷ (f ∷ rest)) order once n in
            omega (arith, most, sum_by-cons (named n) r (f ∷ rest))

        after_f : Each (λ t. t.number ≡ f.number → ⊥) rest
        after_f = others_apart f rest tail_once

        change : (t : Task) (b c : Bool) → (t.number == f.number) ≡ b → (t.number == r.number) ≡ c
            → preempted r.number f.number t ≡ with_role t (cond b Running (cond c Held t.role))
        change t b c e d = ap (λ x. with_role t (cond x Running (cond (t.number == r.number) Held t.role))) e
            ∙ ap (λ x. with_role t (cond b Running (cond x Held t.role))) d

        after : map (preempted r.number f.number) (r ∷ (f ∷ rest)) ≡ with_role r Held ∷ (with_role f Running ∷ rest)
        after =
            ap (λ y. y ∷ (preempted r.number f.number f ∷ map (preempted r.number f.number) rest))
            (change r false true (ne_eqb r.number f.number (λ e. after_r f (inl refl) (sym e)))
            (eq-eqb r.number r.number refl))
            ∙ ap (λ y. with_role r Held ∷ (y ∷ map (preempted r.number f.number) rest))
            (change f true false (eq-eqb f.number f.number refl) (ne_eqb f.number r.number (after_r f (inl refl))))
            ∙ ap (λ l. with_role r Held ∷ (with_role f Running ∷ l)) (map_each (preempted r.number f.number) rest
            (λ t m. change t false false (ne_eqb t.number f.number (after_f t m))
            (ne_eqb t.number r.number (after_r t (inr m)))))

        all : AreReady (with_role r Held ∷ (with_role f Running ∷ rest))
        all t (inl e) = ap is_ready e
        all t (inr (inl e)) = ap is_ready e
        all t (inr (inr m)) = ready t (order.back t (inr (inr m)))

  -- the running and the held jobs wait, and a waiting one runs
  abbrev taken : ℕ → Task → Task
  taken n t = with_role t (cond (t.number == n) Running (displaced t.role))

  pub takes : (r x : Task) (rest : List Task) → q.running ≡ Some r
      → IsReordered (map made_wait (r ∷ q.held) ++ q.waiting) (x ∷ rest)
      → AreOnce (map made_wait (r ∷ q.held) ++ q.waiting) → Each (λ t. t.number ≡ x.number → ⊥) B
      → Leaves (taken x.number) (ready_of q)
      (ready_of (record q { running = Some (with_role x Running); held = []; waiting = rest })) 0
  takes r x rest runs same once_d other = record {
    ready = further (filter is_ready (map (taken x.number) (ready_of q)))
        (filter is_ready (B ++ map (renamed x.number Running) D)) (x' ∷ (B ++ rest))
        (filtered (map (taken x.number) (ready_of q)) (B ++ map (renamed x.number Running) D) whole is_ready)
        (subst (IsReordered (filter is_ready (B ++ map (renamed x.number Running) D)))
        (filter_each is_ready (x' ∷ (B ++ rest)) all)
        (filtered (B ++ map (renamed x.number Running) D) (x' ∷ (B ++ rest)) moved is_ready));
    done = sym ((filtered _ _ whole _).weighs (λ t. t.job.value))
        ∙ sym ((filtered (B ++ map (renamed x.number Running) D) (x' ∷ (B ++ rest)) moved is_done).weighs
        (λ t. t.job.value))
        ∙ none_done (x' ∷ (B ++ rest)) all;
  } where
    D : List Task
    D = map made_wait (r ∷ q.held) ++ q.waiting

    x' : Task
    x' = with_role x Running

    -- each displaced or waiting job changes as the one that waits does
    one : (role : Role) (t : Task) → t.role ≡ role → displaced role ≡ Waiting
        → taken x.number t ≡ renamed x.number Running (made_wait t)
    one role t is waits = ap (λ s. with_role t (cond (t.number == x.number) Running s)) (ap displaced is ∙ waits)

    stays_waiting : (t : Task) → t.role ≡ Waiting → made_wait t ≡ t
    stays_waiting t is = ap (with_role t) (sym is)

    displaced_all : (role : Role) (ts : List Task) → HaveRole role ts → displaced role ≡ Waiting
        → map (taken x.number) ts ≡ map (renamed x.number Running) (map made_wait ts)
    displaced_all role ts have waits =
        map_same (taken x.number) (λ t. renamed x.number Running (made_wait t)) ts (λ t m. one role t (have t m) waits)
        ∙ sym (map_map (renamed x.number Running) made_wait ts)

    waiting_all : map (taken x.number) q.waiting ≡ map (renamed x.number Running) q.waiting
    waiting_all = displaced_all Waiting q.waiting roles.waiting refl
        ∙ ap (map (renamed x.number Running))
        (map_each made_wait q.waiting (λ t m. stays_waiting t (roles.waiting t m)))

    fresh_all : map (taken x.number) B ≡ B
    fresh_all = map_each (taken x.number) B (λ t m.
        ap (λ b. with_role t (cond b Running (displaced t.role))) (ne_eqb t.number x.number (other t m))
        ∙ ap (with_role t) (ap displaced (roles.fresh t m) ∙ sym (roles.fresh t m)))

    r_role : r.role ≡ Running
    r_role = roles.running r (subst (λ o. IsMember r (option_to_list o)) (sym runs) (inl refl))

    -- the jobs in order, changed
    changed_list : map (taken x.number) (r ∷ (B ++ (q.held ++ q.waiting)))
        ≡ renamed x.number Running (made_wait r)
        ∷ (B ++ (map (renamed x.number Running) (map made_wait q.held) ++ map (renamed x.number Running) q.waiting))
    changed_list =
        ap (λ y. y ∷ map (taken x.number) (B ++ (q.held ++ q.waiting))) (one Running r r_role refl)
        ∙ ap (λ l. renamed x.number Running (made_wait r) ∷ l)
        (map-append (taken x.number) B (q.held ++ q.waiting)
        ∙ ap (λ l. l ++ map (taken x.number) (q.held ++ q.waiting)) fresh_all
        ∙ ap (λ l. B ++ l) (map-append (taken x.number) q.held q.waiting
        ∙ ap (λ l. l ++ map (taken x.number) q.waiting) (displaced_all Held q.held roles.held refl)
        ∙ ap (λ l. map (renamed x.number Running) (map made_wait q.held) ++ l) waiting_all))

    whole_d : map (renamed x.number Running) D
        ≡ renamed x.number Running (made_wait r)
        ∷ (map (renamed x.number Running) (map made_wait q.held) ++ map (renamed x.number Running) q.waiting)
    whole_d = ap (λ l. renamed x.number Running (made_wait r) ∷ l)
        (map-append (renamed x.number Running) (map made_wait q.held) q.waiting)

    whole : IsReordered (map (taken x.number) (ready_of q)) (B ++ map (renamed x.number Running) D)
    whole =
        subst (λ o. IsReordered (map (taken x.number) (option_to_list o ++ (B ++ (q.held ++ q.waiting))))
        (B ++ map (renamed x.number Running) D)) (sym runs)
        (subst (λ l. IsReordered l (B ++ map (renamed x.number Running) D)) (sym changed_list)
        (subst (λ l. IsReordered
        (renamed x.number Running (made_wait r)
        ∷ (B ++ (map (renamed x.number Running) (map made_wait q.held) ++ map
        (renamed x.number Running) q.waiting)))
        (B ++ l)) (sym whole_d)
        (between _ _ _)))

    apart_rest : Each (λ t. t.number ≡ x.number → ⊥) rest
    apart_rest = others_apart x rest (once_still D (x ∷ rest) same once_d)

    moved : IsReordered (B ++ map (renamed x.number Running) D) (x' ∷ (B ++ rest))
    moved = further (B ++ map (renamed x.number Running) D) (B ++ x' ∷ rest) (x' ∷ (B ++ rest))
        (both_parts B B (map (renamed x.number Running) D) (x' ∷ rest) (same_order B)
        (subst (IsReordered (map (renamed x.number Running) D))
        (ap (λ y. y ∷ map (renamed x.number Running) rest) (renamed_here x.number Running x refl)
        ∙ ap (λ l. x' ∷ l) (map_each _ _ (λ t m. renamed_other x.number Running t (apart_rest t m))))
        (mapped D (x ∷ rest) same (renamed x.number Running))))
        (turned (x' ∷ (B ++ rest)) (B ++ x' ∷ rest) (between x' B rest))

    d_ready : AreReady D
    d_ready = each_append (λ t. is_ready t ≡ true) (map made_wait (r ∷ q.held)) q.waiting (waits_ready (r ∷ q.held))
        (ready_role Waiting q.waiting roles.waiting (λ t. refl)) where
          waits_ready : (ts : List Task) → AreReady (map made_wait ts)
          waits_ready [] t m = absurd m
          waits_ready (y ∷ ts) t (inl e) = ap is_ready e
          waits_ready (y ∷ ts) t (inr m) = waits_ready ts t m

    all : AreReady (x' ∷ (B ++ rest))
    all t (inl e) = ap is_ready e
    all t (inr m) = each_append (λ u. is_ready u ≡ true) B rest (ready_role Fresh B roles.fresh (λ u. refl))
        (λ u k. d_ready u (same.back u (inr k))) t m
