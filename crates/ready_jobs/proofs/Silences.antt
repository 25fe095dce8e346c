-- The silent steps of the ready jobs, as the program takes them.
use Rattle.std.proofs.Common.{◌≡◌, ℕ, List, [], suc, ◌+◌, ◌-◌, ◌*◌, ◌≤◌, ◌<◌, ◌∷◌, ◌++◌, length, refl, sym, ap, ◌∙◌}
use Rattle.std.proofs.Common.{subst, arith, Bool, true, false, cond, zero, Option, Some, None, option_to_list}
use Rattle.std.proofs.Common.{option_map, filter, length-append}
use Rattle.dover_model.specs.Common.{due_finish, Fraction, Rules, Each, left, latest_start, is_running, starts_before}
use Rattle.dover_model.specs.Common.{first, IsSilent, Move, Prints, Waits, Ticks, view, open_step, with_role}
use Rattle.dover_model.specs.Common.{is_at_latest_start, ticked_by, later_by}
use Rattle.dover_model.proofs.finishes.Finishing.{not_complete}
use Rattle.dover_model.specs.declared.events.Role.TheVariants.{Waiting}
use Rattle.dover_model.specs.declared.events.Task.{Task}
use Rattle.ready_jobs.specs.Dues.{still_ticks}
use Rattle.dover_model.proofs.steps.ReadyParts.{change}
use Rattle.waiting_pool.specs.Reordered.{IsReordered}
use Rattle.ready_jobs.specs.Parts.{Parted, HaveRoles, AreSound, ready_of, state_of}
use Rattle.ready_jobs.specs.Following.{IsPart, SettlesTo, SettlesFrom}
use Rattle.waiting_pool.proofs.Reordering.{as_many}
use Rattle.ready_jobs.specs.Changed.{AreOnce, Leaves}
use Rattle.ready_jobs.proofs.Changes.{stays}
use Rattle.dover_model.proofs.lists.Tests.{none_is_some}
use Rattle.dover_model.specs.declared.events.Event.TheVariants as event
use Rattle.ready_jobs.specs.Deeds.{step_at}
use Rattle.ready_jobs.specs.declared.actions.Action.{Action}
use Rattle.ready_jobs.specs.declared.actions.Action.TheVariants.{Resume, Start, Begin, Preempt, Take, Complete, Abandon}
use Rattle.ready_jobs.specs.declared.actions.Action.TheVariants.{Wait, Tick}
use Rattle.ready_jobs.proofs.Jumping.{tick_still}
use Rattle.ready_jobs.proofs.Naming.{waits_says, ticks_next}
use Rattle.ready_jobs.proofs.Seeing.{seen_fresh, seen_running, seen_coming, waiting_list, late_none, late_later}
use Rattle.ready_jobs.proofs.Following.{part_step, part_sound, ready_once, parts_later, jumps, settles_none}
use Rattle.ready_jobs.proofs.Following.{settles_one, settles_on, jump_low, jump_silent, jump_reaches, ticks_early}
use Rattle.ready_jobs.proofs.Following.{had_fits, stale_ticks, roles_later}

-- ---- from one part to another

-- what holds in some state holds where silent steps lead
pub part_after : (k : Fraction) (mark : ℕ) (p q : Parted) → q.version ≡ p.version → SettlesFrom k mark p q
    → IsPart (record { ratio = k; version = p.version; finishes = [] }) p
    → IsPart (record { ratio = k; version = q.version; finishes = [] }) q
part_after k mark p q version settles old =
    let it : SettlesTo q old.0 old.1 mark = settles old.0 old.1 old.3 old.2 in
    (old.0, it.state, it.part, old.3 ∙ ap (λ v. record { ratio = k; version = v; finishes = [] }) (sym version))

-- what the machine has to know of the jobs
pub known_sound : (rules : Rules) (p : Parted) → HaveRoles p → IsPart rules p → AreSound p
known_sound rules p roles old = part_sound p old.0 old.1 old.2 roles

pub known_once : (rules : Rules) (p : Parted) → IsPart rules p → AreOnce (ready_of p)
known_once rules p old = ready_once p old.0 old.1 old.2

-- no steps
pub from_none : (k : Fraction) (mark : ℕ) (p : Parted) → SettlesFrom k mark p p
from_none k mark p J z rules part = settles_none p J z mark part

-- steps, and further ones
pub from_on : (k : Fraction) (mark : ℕ) (p q r : Parted) → q.version ≡ p.version → SettlesFrom k mark p q
    → SettlesFrom k mark q r → SettlesFrom k mark p r
from_on k mark p q r version one next J z rules part =
    let it : SettlesTo q J z mark = one J z rules part in
    settles_on q r J z mark it
    (next J it.state (rules ∙ ap (λ v. record { ratio = k; version = v; finishes = [] }) (sym version)) it.part)

-- ---- the deed of a step

-- that of a tick
tick_only : (at : ℕ) (deed : Action) → step_at at deed ≡ Ticks → deed ≡ Tick
tick_only at Tick is = refl
tick_only at (Wait n) is = absurd (let clash : Waits n ≡ Ticks = is in cc)
tick_only at (Resume n) is = absurd (let clash : Prints (event.Run at n) ≡ Ticks = is in cc)
tick_only at (Start n) is = absurd (let clash : Prints (event.Run at n) ≡ Ticks = is in cc)
tick_only at (Begin n) is = absurd (let clash : Prints (event.Run at n) ≡ Ticks = is in cc)
tick_only at (Preempt m n) is = absurd (let clash : Prints (event.Preempt at m n) ≡ Ticks = is in cc)
tick_only at (Take m n) is = absurd (let clash : Prints (event.Take at m n) ≡ Ticks = is in cc)
tick_only at (Complete n) is = absurd (let clash : Prints (event.Complete at n) ≡ Ticks = is in cc)
tick_only at (Abandon n) is = absurd (let clash : Prints (event.Abandon at n) ≡ Ticks = is in cc)

-- a silent one is a tick where no job is fresh
pub stale_tick : (k : Fraction) (p : Parted) → HaveRoles p → p.fresh ≡ None → (deed : Action)
    → step_at p.clock deed ≡ open_step (record { ratio = k; version = p.version; finishes = [] }) (state_of p)
    → IsSilent (step_at p.clock deed) → deed ≡ Tick
stale_tick k p roles stale deed comes silent =
    tick_only p.clock deed (stale_ticks p roles (record { ratio = k; version = p.version; finishes = [] }) stale
    (step_at p.clock deed) (sym comes) silent)

-- and where one is, all are printed but that it waits
pub fresh_prints : (k : Fraction) (p : Parted) → HaveRoles p → (f : Task) → p.fresh ≡ Some f → (deed : Action)
    → step_at p.clock deed ≡ open_step (record { ratio = k; version = p.version; finishes = [] }) (state_of p)
    → ((n : ℕ) → deed ≡ Wait n → ⊥) → IsSilent (step_at p.clock deed) → ⊥
fresh_prints k p roles f is (Wait n) comes other silent = other n refl
fresh_prints k p roles f is Tick comes other silent =
    let rules : Rules = record { ratio = k; version = p.version; finishes = [] } in
    none_is_some (sym (tick_still rules (state_of p) (sym comes)).stale ∙ seen_fresh p roles ∙ is)
fresh_prints k p roles f is _ comes other silent = none_is_some (sym silent)

-- ---- the fresh job waits

some_same : (f g : Task) → Some f ≡ Some g → f ≡ g
some_same f g e = cc

module _ (p : Parted) (roles : HaveRoles p) (rules : Rules) (n : ℕ)
    (waits : open_step rules (state_of p) ≡ Waits n) where
  -- one is fresh, of that number
  pub waits_fresh : (g : Task) × (p.fresh ≡ Some g) × (g.number ≡ n)
  waits_fresh = let it = waits_says rules.ratio (view rules.version (state_of p)) n
      (not_complete p.clock (due_finish rules.finishes (state_of p)) _ (Waits n) waits refl) in
      (it.0, sym (seen_fresh p roles) ∙ it.1, it.2)

  pub fresh_named : (f : Task) → p.fresh ≡ Some f → f.number ≡ n
  fresh_named f is = let it = waits_fresh in
      ap (λ (t : Task). t.number) (some_same f it.0 (sym is ∙ it.1)) ∙ it.2

-- the jobs after it
abbrev pub Stayed : Parted → Parted → Type 0
Stayed p q = (f : Task) × (p.fresh ≡ Some f) × IsReordered (with_role f Waiting ∷ p.waiting) q.waiting

pub waits_settles : (k : Fraction) (mark : ℕ) (p q : Parted) (n : ℕ) → HaveRoles p
    → open_step (record { ratio = k; version = p.version; finishes = [] }) (state_of p) ≡ Waits n → Stayed p q
    → q ≡ record p { fresh = None; waiting = q.waiting } → SettlesFrom k mark p q
waits_settles k mark p q n roles waits it kept J z rules part =
    settles_one p q J z mark (Waits n) part
    (sym (part_step p J z part) ∙ ap (λ r. open_step r (state_of p)) rules ∙ waits) refl refl
    (ap (λ (r : Parted). r.version) kept) (part.clock ∙ sym (ap (λ (r : Parted). r.clock) kept))
    (ap (λ (r : Parted). r.pressed) kept)
    (subst (λ m. Leaves (change (Waits m)) (ready_of p) (ready_of q) 0)
    (fresh_named p roles (record { ratio = k; version = p.version; finishes = [] }) n waits it.0 it.1)
    (subst (λ r. Leaves (change (Waits it.0.number)) (ready_of p) (ready_of r) 0) (sym kept)
    (stays p roles (ready_once p J z part) it.0 q.waiting it.1 it.2)))

-- ---- silent ticks

pub ticks_settle : (k : Fraction) (mark n : ℕ) (p q : Parted) → HaveRoles p
    → open_step (record { ratio = k; version = p.version; finishes = [] }) (state_of p) ≡ Ticks
    → n ≡ still_ticks (mark - p.clock) (state_of p) → p.clock ≤ mark → q ≡ parts_later n p → SettlesFrom k mark p q
ticks_settle k mark n p q roles ticks is low later J z rules part =
    subst (λ r. SettlesTo r J z mark) (sym later)
    (jumps p roles J z part n mark
    (λ i less. ap (λ r. open_step r (later_by i (state_of p))) rules
    ∙ jump_silent p roles (record { ratio = k; version = p.version; finishes = [] }) mark n low is ticks i less)
    (jump_low p roles (record { ratio = k; version = p.version; finishes = [] }) mark n low is))

-- what is known of the jobs where a silent tick is next
module _ (k : Fraction) (p : Parted) (roles : HaveRoles p) (old : IsPart
    (record { ratio = k; version = p.version; finishes = [] }) p)
    (ticks : open_step (record { ratio = k; version = p.version; finishes = [] }) (state_of p) ≡ Ticks) where
  next_ticks : open_step old.0.rules (state_of p) ≡ Ticks
  next_ticks = ap (λ r. open_step r (state_of p)) old.3 ∙ ticks

  pub known_early : Each (λ t. p.clock < latest_start t) p.waiting
  known_early = ticks_early p roles old.0 old.1 old.2 next_ticks

pub known_fits : (rules : Rules) (p : Parted) → HaveRoles p → IsPart rules p → (n : ℕ) → n ≤ 10_000_000_000_000_000
    → Each (λ t. t.had + n < 18_446_744_073_709_551_616) (option_to_list p.running)
known_fits rules p roles old n few = had_fits p roles old.0 old.1 old.2 n few

-- ---- a jump, which takes the silent ticks that come, or none where another step does

-- while a job runs that isn't done, no job is fresh, and none that waits is at its latest start, a tick is next
module _ (p : Parted) (roles : HaveRoles p) (sound : AreSound p) (n : ℕ) (some : 0 < n)
    (ahead : (x : Task) → first (starts_before p.version) p.waiting ≡ Some x → n ≤ latest_start x - p.clock) where
  none_late : (o : Option Task) → first (starts_before p.version) p.waiting ≡ o
      → first (starts_before p.version) (filter (is_at_latest_start (state_of p)) p.waiting) ≡ None
  none_late None at = late_none p.version (state_of p) p.waiting sound.own sound.early at
  none_late (Some x) at = late_later p.version (state_of p) p.waiting sound.own sound.early x at
      (λ same. let far = ahead x at in omega (arith, same, some, far))

  busy_ticks : (k : Fraction) (r : Task) → p.running ≡ Some r → p.fresh ≡ None → n ≤ left r
      → open_step (record { ratio = k; version = p.version; finishes = [] }) (state_of p) ≡ Ticks
  busy_ticks k r runs stale busy =
      ticks_next k (view p.version (state_of p)) r (seen_running p roles ∙ runs) (omega (arith, some, busy))
      (seen_fresh p roles ∙ stale) (seen_coming p roles)
      (ap (λ l. first (starts_before p.version) (filter (is_at_latest_start (state_of p)) l)) (waiting_list p roles)
      ∙ none_late (first (starts_before p.version) p.waiting) refl)

-- no ticks leave all as it is
zero_later : (p : Parted) → parts_later 0 p ≡ p
zero_later p =
    let same : p.clock + 0 ≡ p.clock = omega arith in
    ap (λ n. record p { clock = n; running = option_map (ticked_by 0) p.running }) same
    ∙ ap (λ o. record p { running = o }) (none_had p.running) where
      none_had : (o : Option Task) → option_map (ticked_by 0) o ≡ o
      none_had None = refl
      none_had (Some t) =
          ap (λ n. Some (record { number = t.number; job = t.job; role = t.role; had = n }))
          (by_role (is_running t)) where
            by_role : (b : Bool) → cond b (t.had + 0) t.had ≡ t.had
            by_role true = omega arith
            by_role false = refl

module _ (k : Fraction) (mark n : ℕ) (p : Parted) (roles : HaveRoles p) where
  abbrev rules_here : Rules
  rules_here = record { ratio = k; version = p.version; finishes = [] }

  -- as many ticks as come, where one does, otherwise none
  pub data Jump : Type 0 where
    Many : open_step rules_here (state_of p) ≡ Ticks → n ≡ still_ticks (mark - p.clock) (state_of p) → Jump
    NoTick : (open_step rules_here (state_of p) ≡ Ticks → ⊥) → n ≡ 0 → Jump

  module _ (old : IsPart rules_here p) (stale : p.fresh ≡ None)
      (free : p.running ≡ None → open_step rules_here (state_of p) ≡ Ticks)
      (still : Each (λ t. p.clock < latest_start t) p.waiting → n ≡ still_ticks (mark - p.clock) (state_of p))
      (busy : (r : Task) → p.running ≡ Some r → n ≤ left r)
      (ahead : (x : Task) → first (starts_before p.version) p.waiting ≡ Some x → n ≤ latest_start x - p.clock) where
    no_ticks : (i : ℕ) → n ≡ i → (o : Option Task) → p.running ≡ o → (open_step rules_here (state_of p) ≡ Ticks → ⊥)
        → n ≡ 0
    no_ticks zero is o runs other = is
    no_ticks (suc i) is None runs other = absurd (other (free runs))
    no_ticks (suc i) is (Some r) runs other =
        let sound = known_sound rules_here p roles old in
        absurd (other (busy_ticks p roles sound n (omega (arith, is)) ahead k r runs stale (busy r runs)))

    by_step : (m : Move) → open_step rules_here (state_of p) ≡ m → Jump
    by_step Ticks is = Many is (still (known_early k p roles old is))
    by_step _ is = let other : open_step rules_here (state_of p) ≡ Ticks → ⊥ = λ ticks. cc in
        NoTick other (no_ticks n refl p.running refl other)

    pub jump : Jump
    jump = by_step (open_step rules_here (state_of p)) refl

  module _ (it : Jump) (low : p.clock ≤ mark) where
    pub jump_settles : SettlesFrom k mark p (parts_later n p)
    jump_settles = elim it [
      | Many ticks is ↦ ticks_settle k mark n p (parts_later n p) roles ticks is low refl
      | NoTick other none ↦ subst (λ i. SettlesFrom k mark p (parts_later i p)) (sym none)
          (subst (SettlesFrom k mark p) (sym (zero_later p)) (from_none k mark p))
    ]

    -- where it stops
    pub jump_stops : p.fresh ≡ None → (m : Move)
        → open_step rules_here (state_of (parts_later n p)) ≡ m → IsSilent m → (m ≡ Ticks) × (mark ≤ p.clock + n)
    jump_stops stale m next silent =
        let ticks : m ≡ Ticks =
        stale_ticks (parts_later n p) (roles_later n p roles) rules_here stale m next silent in
        elim it [
          | Many first_ticks is ↦ (ticks, jump_reaches p roles rules_here mark n low is (next ∙ ticks))
          | NoTick other none ↦ absurd (other (sym (ap (λ i. open_step rules_here (state_of (parts_later i p))) none
              ∙ ap (λ q. open_step rules_here (state_of q)) (zero_later p)) ∙ next ∙ ticks))
        ]

-- ---- how many there are

-- by their roles
pub ready_count : (p : Parted) → length (ready_of p) ≡ length (option_to_list p.running)
    + (length (option_to_list p.fresh) + (length p.held + length p.waiting))
ready_count p = omega (
  arith,
  length-append (option_to_list p.running) (option_to_list p.fresh ++ (p.held ++ p.waiting)),
  length-append (option_to_list p.fresh) (p.held ++ p.waiting),
  length-append p.held p.waiting,
)

-- where none is ready, none waits
pub none_waits : (p : Parted) → ready_of p ≡ [] → p.waiting ≡ []
none_waits p none = by_length p.waiting (omega (arith, ready_count p, ap length none)) where
  by_length : (ts : List Task) → length ts ≡ 0 → ts ≡ []
  by_length [] e = refl
  by_length (t ∷ ts) e = absurd (omega arith)

one_job : (o : Option Task) (f : Task) → o ≡ Some f → length (option_to_list o) ≡ 1
one_job o f is = ap (λ (x : Option Task). length (option_to_list x)) is

-- one more waits
pub one_more : (p q : Parted) → Stayed p q → length q.waiting ≡ length p.waiting + 1
one_more p q it = let all : length q.waiting ≡ suc (length p.waiting) =
    as_many (with_role it.0 Waiting ∷ p.waiting) q.waiting it.2 in omega arith

-- as many are ready
pub waits_count : (p q : Parted) → Stayed p q → q ≡ record p { fresh = None; waiting = q.waiting }
    → length (ready_of q) ≡ length (ready_of p)
waits_count p q it kept = omega (
  arith,
  one_more p q it,
  one_job p.fresh it.0 it.1,
  ready_count p,
  ap (λ (r : Parted). length (ready_of r)) kept,
  ready_count (record p { fresh = None; waiting = q.waiting }),
)

pub ticks_count : (n : ℕ) (p q : Parted) → q ≡ parts_later n p → length (ready_of q) ≡ length (ready_of p)
ticks_count n p q later = omega (
  arith,
  ready_count p,
  ap (λ (r : Parted). length (ready_of r)) later,
  ready_count (parts_later n p),
  as_many_run p.running,
) where
  as_many_run : (o : Option Task) → length (option_to_list (option_map (ticked_by n) o)) ≡ length (option_to_list o)
  as_many_run None = refl
  as_many_run (Some t) = refl

-- what it costs that one more waits
pub waits_cost : (p q r : Parted) (orders d old new : ℕ) → Stayed p q → r.waiting ≡ q.waiting
    → new ≤ old + orders * d → new ≤ old + orders * d * (length r.waiting - length p.waiting)
waits_cost p q r orders d old new it same spent =
    let one : length r.waiting - length p.waiting ≡ 1 = omega (arith, one_more p q it, ap length same) in
    let all : orders * d * (length r.waiting - length p.waiting) ≡ orders * d * 1 = ap (λ n. orders * d * n) one in
    omega (arith, all, spent)
