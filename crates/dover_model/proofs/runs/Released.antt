-- Where no job is to come, none comes, and none is released.
use Rattle.std.proofs.Common.{◌≡◌, List, false, Bool, true, cond, refl, eqb, ℕ, ◌∷◌, subst, sym, ◌∙◌, ap, ◌<◌, map, []}
use Rattle.std.proofs.Common.{arith, inl, inr, ◌++◌, length, None, ne_eqb, eq-eqb}
use Rattle.std.proofs.lemmas.List.{map-append}
use Rattle.dover_model.specs.Common.{Task, is_coming, State, with_later, Each, Keeps, Role, with_role, displaced}
use Rattle.dover_model.specs.Common.{role_after, Move, Prints, Waits, Ticks, after, ticked, open_step, Coming, Fresh}
use Rattle.dover_model.specs.Common.{Waiting, Held, Running, Done, Gone, Event, Release, Run, Preempt, Take, Complete}
use Rattle.dover_model.specs.Common.{Abandon, End, Rules, Instance, IsValid, Step, Passes, Fraction, Printed, JobFacts}
use Rattle.dover_model.specs.Common.{with_fresh}
use Rattle.dover_model.proofs.lists.Members.{on_map}
use Rattle.dover_model.proofs.steps.Roles.{passes}
use Rattle.dover_model.proofs.steps.Deeds.{Deed, Arrived}
use Rattle.dover_model.proofs.lists.Tests.{never}
use Rattle.dover_model.proofs.texts.TraceLines.{item_of_line}
use Rattle.dover_model.proofs.steps.Kept.{open_deed}
use Rattle.dover_model.proofs.settled.Releasing.{coming_task}
use Rattle.dover_model.proofs.runs.Honest.{numbers_low, count_jobs}

-- no job of these is to come
abbrev pub NoneComes : List Task → Type 0
NoneComes tasks = Each (λ t. is_coming t ≡ false) tasks

-- a job that isn't to come, in another role that isn't Coming either
choice : (t : Task) (b : Bool) (one other : Role) → is_coming (with_role t one) ≡ false
    → is_coming (with_role t other) ≡ false
    → is_coming (with_role t (cond b one other)) ≡ false
choice t true one other first second = first
choice t false one other first second = second

-- a displaced job isn't to come, if it wasn't
still_displaced : (t : Task) (role : Role) → is_coming (with_role t role) ≡ false
    → is_coming (with_role t (displaced role)) ≡ false
still_displaced t Coming none = none
still_displaced t _ none = refl

-- after an event it isn't to come either
still_after : (e : Event) (t : Task) → is_coming t ≡ false
    → is_coming (with_role t (role_after e t.number t.role)) ≡ false
still_after (Release n j) t none = choice t (eqb t.number n) Fresh t.role refl none
still_after (Run at n) t none = choice t (eqb t.number n) Running t.role refl none
still_after (Preempt at stops starts) t none =
    choice t (eqb t.number starts) Running (cond (eqb t.number stops) Held t.role) refl
    (choice t (eqb t.number stops) Held t.role refl none)
still_after (Take at stops starts) t none =
    choice t (eqb t.number starts) Running (displaced t.role) refl (still_displaced t t.role none)
still_after (Complete at n) t none = choice t (eqb t.number n) Done t.role refl none
still_after (Abandon at n) t none = choice t (eqb t.number n) Gone t.role refl none
still_after (End value) t none = none

-- no move makes a job one to come
pub none_comes_after : (s : State) (m : Move) → NoneComes s.tasks → NoneComes (after s m).tasks
none_comes_after s (Prints e) none =
    on_map (λ t. with_role t (role_after e t.number t.role)) (λ t. is_coming t ≡ false) s.tasks
    (λ t member. still_after e t (none t member))
none_comes_after s (Waits n) none =
    on_map (λ t. with_role t (cond (eqb t.number n) Waiting t.role)) (λ t. is_coming t ≡ false) s.tasks
    (λ t member. choice t (eqb t.number n) Waiting t.role refl (none t member))
none_comes_after s Ticks none = on_map ticked (λ t. is_coming t ≡ false) s.tasks (λ t member. none t member)

-- nor do steps that pass
pub none_comes_passes : (rules : Rules) (mark : ℕ) (xs : List Step) (s z : State) → Passes rules mark s xs z
    → NoneComes s.tasks → NoneComes z.tasks
none_comes_passes rules mark [] s z passes none = subst (λ (u : State). NoneComes u.tasks) passes none
none_comes_passes rules mark (x ∷ xs) s z passes none =
    none_comes_passes rules mark xs (after s (open_step rules s)) z passes.2
    (none_comes_after s (open_step rules s) none)

-- ---- releases

-- the step is a release
abbrev is_release : Move → Bool
is_release (Prints (Release n j)) = true
is_release _ = false

-- no deed releases a job, where none is to come
deed_no_release : (k : Fraction) (s : State) (m : Move) → NoneComes s.tasks → Deed k s Ticks m → is_release m ≡ false
deed_no_release k s m none (Arrived c member comes now first stale busy free) =
    never (sym (none c member) ∙ passes is_coming c Coming true comes refl)
deed_no_release k s m none _ = refl

-- an event that is no release names no item
names_none : (e : Event) → is_release (Prints e) ≡ false → item_of_line (Printed e) ≡ None
names_none (Release n j) none = never (sym none)
names_none _ none = refl

-- what is printed where no job is to come names no item
pub printed_names_none : (J : Instance) → IsValid J → (s : State) → Keeps J s → (rules : Rules) → NoneComes s.tasks
    → (e : Event)
    → open_step rules s ≡ Prints e → item_of_line (Printed e) ≡ None
printed_names_none J valid s keeps rules none e prints = names_none e
    (ap is_release (sym prints)
    ∙ deed_no_release rules.ratio s (open_step rules s) none (open_deed J valid s keeps rules))

-- ---- a job that was released last

-- the tasks before it stay as they are
others_stay : (n : ℕ) (tasks : List Task) → Each (λ (t : Task). t.number < n) tasks
    → map (λ t. with_role t (cond (eqb t.number n) Fresh t.role)) tasks ≡ tasks
others_stay n [] low = refl
others_stay n (t ∷ tasks) low =
    let less : t.number < n = low t (inl refl) in
    let here : with_role t (cond (eqb t.number n) Fresh t.role) ≡ t =
    ap (λ b. with_role t (cond b Fresh t.role)) (ne_eqb t.number n (λ same. absurd (omega arith))) in
    let rest : map (λ u. with_role u (cond (eqb u.number n) Fresh u.role)) tasks ≡ tasks =
    others_stay n tasks (λ u m. low u (inr m)) in
    ap (λ u. u ∷ map (λ v. with_role v (cond (eqb v.number n) Fresh v.role)) tasks) here ∙ ap (λ us. t ∷ us) rest

-- the state after the release of a job behind all others
pub after_release : (J : Instance) (z : State) (keeps : Keeps J z) (j : JobFacts) → z.clock ≡ j.release
    → after (with_later z (coming_task (length J.jobs) j ∷ [])) (Prints (Release (length J.jobs) j)) ≡ with_fresh z
    (length J.jobs) j
after_release J z keeps j now =
    ap (λ c. record z { clock = c; tasks = map change (z.tasks ++ coming_task n j ∷ []) }) now
    ∙ ap (λ ts. record z { clock = j.release; tasks = ts }) (map-append change z.tasks (coming_task n j ∷ [])
    ∙ ap (λ ts. ts ++ map change (coming_task n j ∷ [])) (others_stay n z.tasks low)
    ∙ ap (λ b. z.tasks ++ with_role (coming_task n j) (cond b Fresh Coming) ∷ []) (eq-eqb n n refl)) where
      n : ℕ
      n = length J.jobs

      change : Task → Task
      change t = with_role t (cond (eqb t.number n) Fresh t.role)

      low : Each (λ (t : Task). t.number < n) z.tasks
      low t member = omega (
        arith,
        numbers_low 0 z.tasks keeps.sound.numbered t member,
        count_jobs z.tasks,
        ap length keeps.jobs,
      )
