-- What is printed up to a tick depends on the finishes that the run comes to by then alone.
use Rattle.std.proofs.Common.{◌≡◌, ℕ, ◌<◌, inl, inr, List, [], ◌∷◌, refl, sym, ap, ◌∙◌, subst, Bool, true, false, cond}
use Rattle.std.proofs.Common.{Option, Some, None, nat_le, MatchBool, filter_map, leb-false}
use Rattle.std.specs.List.{cons_option}
use Rattle.dover_model.specs.Common.{Complete, Task, Finish, is_finish_of, Rules, Instance, IsValid, bare, finishing}
use Rattle.dover_model.specs.Common.{State, opening, running, Move, Prints, due_finish, finish_or, step, declared_step}
use Rattle.dover_model.specs.Common.{after, Step, is_end, run, IsWholeRun, printed_up_to, known_at, finishes_up_to}
use Rattle.dover_model.specs.Common.{IsMember, Each}
use Rattle.dover_model.specs.Online.{event_up_to, finish_up_to}
use Rattle.dover_model.proofs.lists.Members.{found, not_found, some_same}
use Rattle.dover_model.proofs.runs.Ending.{run_is_whole}
use Rattle.dover_model.proofs.finishes.Finishing.{IsDue, finish_due}
use Rattle.dover_model.proofs.settled.Onlines.{up_to, shown, whole_late, on_line}
use Rattle.dover_model.proofs.lists.Tests.{never}

-- of both lists the running job has come to a finish, or of neither
pub data SameDue (fs gs : List Finish) (s : State) : Type 0 where
  Neither : due_finish fs s ≡ None → due_finish gs s ≡ None → SameDue fs gs s
  Both : (f g : Finish) → due_finish fs s ≡ Some f → due_finish gs s ≡ Some g → f.number ≡ g.number → SameDue fs gs s

-- then the step is the same
pub same_finish : (fs gs : List Finish) (s : State) → SameDue fs gs s → (m : Move)
    → finish_or s.clock (due_finish fs s) m ≡ finish_or s.clock (due_finish gs s) m
same_finish fs gs s (Neither none other) m = ap (λ o. finish_or s.clock o m) none
    ∙ sym (ap (λ o. finish_or s.clock o m) other)
same_finish fs gs s (Both f g some other same) m = ap (λ o. finish_or s.clock o m) some
    ∙ ap (λ n. Prints (Complete s.clock n)) same ∙ sym (ap (λ o. finish_or s.clock o m) other)

-- ---- what a filter gives

module _ {X Y : Type 0} (h : X → Option Y) where
  -- what an element gives is in the list
  pub given_in : (xs : List X) (x : X) (y : Y) → IsMember x xs → h x ≡ Some y → IsMember y (filter_map h xs)
  given_in [] x y member some = absurd member
  given_in (z ∷ xs) x y (inl e) some = subst (λ o. IsMember y (cons_option o (filter_map h xs)))
      (sym (sym (ap h e) ∙ some)) (inl refl)
  given_in (z ∷ xs) x y (inr member) some = behind (h z) (given_in xs x y member some) where
    behind : (o : Option Y) → IsMember y (filter_map h xs) → IsMember y (cons_option o (filter_map h xs))
    behind None m = m
    behind (Some w) m = inr m

  -- and each of the list is given by an element
  pub given_by : (xs : List X) (y : Y) → IsMember y (filter_map h xs) → (x : X) × IsMember x xs × (h x ≡ Some y)
  given_by [] y member = absurd member
  given_by (z ∷ xs) y member = by_first (h z) refl member (given_by xs y) where
    by_first : (o : Option Y) → h z ≡ o → IsMember y (cons_option o (filter_map h xs))
        → (IsMember y (filter_map h xs) → (x : X) × IsMember x xs × (h x ≡ Some y))
        → (x : X) × IsMember x (z ∷ xs) × (h x ≡ Some y)
    by_first None e m more = let it = more m in (it.0, inr it.1, it.2)
    by_first (Some w) e (inl same) more = (z, inl refl, e ∙ ap Some (sym same))
    by_first (Some w) e (inr m) more = let it = more m in (it.0, inr it.1, it.2)

-- ---- two runs

module _ (J : Instance) (gs : List Finish) (t : ℕ) where
  -- runs that come to the same finishes up to t print the same up to t
  up_same : (xs ys : List Step) (s : State) → IsWholeRun J.rules s xs → IsWholeRun (finishing J gs).rules s ys
      → Each (λ x. nat_le x.before.clock t ≡ true → SameDue J.rules.finishes gs x.before) xs → up_to t xs ≡ up_to t ys
  up_same [] ys s whole other same = absurd whole
  up_same (x ∷ xs) [] s whole other same = absurd other
  up_same (x ∷ xs) (y ∷ ys) s whole other same = by_clock (nat_le s.clock t) refl
      (up_same xs ys (after s (step J.rules s))) where
        by_clock : (b : Bool) → nat_le s.clock t ≡ b
            → (IsWholeRun J.rules (after s (step J.rules s)) xs
            → IsWholeRun (finishing J gs).rules (after s (step J.rules s)) ys
            → Each (λ z. nat_le z.before.clock t ≡ true → SameDue J.rules.finishes gs z.before) xs
            → up_to t xs ≡ up_to t ys)
            → up_to t (x ∷ xs) ≡ up_to t (y ∷ ys)
        by_clock false high more =
            let late : t < s.clock = leb-false _ _ high in
            whole_late J.rules t (x ∷ xs) s late whole ∙ sym (whole_late (finishing J gs).rules t (y ∷ ys) s late other)
        by_clock true low more = by_end (is_end (step J.rules s)) refl whole.1 where
          here : SameDue J.rules.finishes gs s
          here = subst (λ (z : Step). nat_le z.before.clock t ≡ true → SameDue J.rules.finishes gs z.before) whole.0
              (same x (inl refl)) low

          same_move : step J.rules s ≡ step (finishing J gs).rules s
          same_move = same_finish J.rules.finishes gs s here (declared_step J.rules s)

          both : up_to t xs ≡ up_to t ys → up_to t (x ∷ xs) ≡ up_to t (y ∷ ys)
          both rest = ap (λ (z : Step). cons_option (event_up_to t z) (up_to t xs)) whole.0
              ∙ ap (λ m. cons_option (shown t s.clock m) (up_to t xs)) same_move
              ∙ ap (λ es. cons_option (shown t s.clock (step (finishing J gs).rules s)) es) rest
              ∙ sym (ap (λ (z : Step). cons_option (event_up_to t z) (up_to t ys)) other.0)

          by_end : (b : Bool) → is_end (step J.rules s) ≡ b
              → MatchBool b (xs ≡ []) (IsWholeRun J.rules (after s (step J.rules s)) xs)
              → up_to t (x ∷ xs) ≡ up_to t (y ∷ ys)
          by_end true last none = both (ap (up_to t) none ∙ sym (ap (up_to t) (subst
              (λ b. MatchBool b (ys ≡ []) (IsWholeRun (finishing J gs).rules
              (after s (step (finishing J gs).rules s)) ys)) (sym (ap is_end same_move) ∙ last) other.1)))
          by_end false on rest = both (more rest
              (subst (λ m. IsWholeRun (finishing J gs).rules (after s m) ys) (sym same_move)
              (subst (λ b. MatchBool b (ys ≡ []) (IsWholeRun (finishing J gs).rules
              (after s (step (finishing J gs).rules s)) ys)) (sym (ap is_end same_move) ∙ on) other.1))
              (λ z member. same z (inr member)))

-- other finishes leave an instance valid
pub finishing_valid : (J : Instance) (gs : List Finish) → IsValid J → IsValid (finishing J gs)
finishing_valid J gs valid = record { passes = valid.passes }

module _ (t : ℕ) (J : Instance) (valid : IsValid J) where
  -- the finishes that the run comes to
  abbrev met : List Finish
  met = finishes_up_to t J

  -- each is one of its own
  met_own : Each (λ f. IsMember f J.rules.finishes) met
  met_own f member = by_clock (nat_le it.0.before.clock t) it.2 where
    it : (x : Step) × IsMember x (run J) × (finish_up_to J.rules.finishes t x ≡ Some f)
    it = given_by (finish_up_to J.rules.finishes t) (run J) f member

    by_clock : (b : Bool) → cond b (due_finish J.rules.finishes it.0.before) None ≡ Some f
        → IsMember f J.rules.finishes
    by_clock true some = (finish_due J.rules.finishes it.0.before f some).member
    by_clock false some = absurd (let e : None ≡ Some f = some in cc)

  -- up to t, the running job comes to one of them where it comes to one at all
  met_same : Each (λ x. nat_le x.before.clock t ≡ true → SameDue J.rules.finishes met x.before) (run J)
  met_same x member low = by_due (due_finish J.rules.finishes x.before) (due_finish met x.before) refl refl where
    by_due : (o p : Option Finish) → due_finish J.rules.finishes x.before ≡ o → due_finish met x.before ≡ p
        → SameDue J.rules.finishes met x.before
    by_due None None e f = Neither e f
    by_due (Some f) (Some g) e eg =
        let one : IsDue J.rules.finishes x.before f = finish_due J.rules.finishes x.before f e in
        let other : IsDue met x.before g = finish_due met x.before g eg in
        Both f g e eg (one.number ∙ same_runner one other ∙ sym other.number) where
          same_runner : (one : IsDue J.rules.finishes x.before f) (other : IsDue met x.before g)
              → one.job.number ≡ other.job.number
          same_runner one other = ap (λ (r : Task). r.number) (some_same one.job other.job (sym one.is ∙ other.is))
    by_due (Some f) None e none = never (sym (not_found (is_finish_of (running x.before)) met none f
        (given_in (finish_up_to J.rules.finishes t) (run J) x f member
        (ap (λ b. cond b (due_finish J.rules.finishes x.before) None) low ∙ e)))
        ∙ (found (is_finish_of (running x.before)) J.rules.finishes f e).1)
    by_due None (Some g) none eg =
        let it : IsMember g met × (is_finish_of (running x.before) g ≡ true) =
        found (is_finish_of (running x.before)) met g eg in
        never (sym (not_found (is_finish_of (running x.before)) J.rules.finishes none g (met_own g it.0)) ∙ it.1)

  -- what is printed up to t is what is printed with these finishes alone
  pub up_to_met : printed_up_to t J ≡ printed_up_to t (finishing J met)
  up_to_met = up_same J met t (run J) (run (finishing J met)) (opening J.jobs) (run_is_whole J valid)
      (run_is_whole (finishing J met) (finishing_valid J met valid)) met_same

-- the printed steps up to t are the same for the same known jobs and the same finishes up to t
pub on_line_finishes : (t : ℕ) (J K : Instance) → IsValid J → IsValid K → bare J.rules ≡ bare K.rules
    → known_at t J.jobs ≡ known_at t K.jobs → finishes_up_to t J ≡ finishes_up_to t K
    → printed_up_to t J ≡ printed_up_to t K
on_line_finishes t J K valid_J valid_K same_rules same_jobs same_finishes =
    up_to_met t J valid_J
    ∙ on_line t (finishing J (finishes_up_to t J)) (finishing K (finishes_up_to t K))
    (finishing_valid J (finishes_up_to t J) valid_J) (finishing_valid K (finishes_up_to t K) valid_K) rules same_jobs
    ∙ sym (up_to_met t K valid_K) where
      rules : (finishing J (finishes_up_to t J)).rules ≡ (finishing K (finishes_up_to t K)).rules
      rules = ap (λ (r : Rules). let q : Rules = record
          { ratio = r.ratio; version = r.version; finishes = finishes_up_to t J } in q) same_rules
          ∙ ap (λ fs. let q : Rules = record { ratio = K.rules.ratio; version = K.rules.version; finishes = fs } in q)
          same_finishes
