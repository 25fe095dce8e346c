-- The run of a baiting feed is worth the last link.
use Rattle.std.proofs.Common.{◌≡◌, ℕ, zero, suc, ◌+◌, ◌-◌, ◌*◌, ◌≤◌, ◌<◌, ◌⊎◌, inl, inr, List, [], ◌∷◌, refl, sym, ap}
use Rattle.std.proofs.Common.{◌∙◌, subst, Bool, true, false, cond, arith, eqb, None, eq-eqb, ne_eqb, eqb-true}
use Rattle.dover_model.specs.Common.{Fraction, IsRatio, JobFacts, IsJob, Instance, IsValid, is_heavy, unit_value}
use Rattle.dover_model.specs.Common.{most_light, first_link, bait_value, bait_tick, tight_job, chain_jobs, bait_jobs}
use Rattle.dover_model.specs.Common.{last_link, opening, step, Step, run, completed_value, step_at, IsMember, Each}
use Rattle.dover_model.specs.Common.{Keeps}
use Rattle.dover_model.specs.declared.events.Version.{Version}
use Rattle.dover_model.specs.declared.events.Role.TheVariants.{Coming, Running}
use Rattle.dover_model.proofs.lists.Members.{all_member, member_behind, sum_same}
use Rattle.dover_model.proofs.lists.Tests.{never}
use Rattle.dover_model.proofs.steps.Kept.{step_deed, opening_keeps, come_coming}
use Rattle.dover_model.proofs.runs.Ending.{run_is_whole, run_over}
use Rattle.dover_model.proofs.runs.Runs.{run_states, value_of_run}
use Rattle.stated_jobs.specs.bait.BaitingRuns.{baiting}
use Rattle.stated_jobs.proofs.bait.Heavy.{light_least}
use Rattle.stated_jobs.proofs.bait.RunWeights.{most_light_light, unit_light}
use Rattle.stated_jobs.proofs.bait.RunLinks.{last_from, end_from, links, last_is, end_is, IsTight, links_tight}
use Rattle.stated_jobs.proofs.bait.RunLinks.{links_due, AreSmall, links_above, last_above, last_small, last_more}
use Rattle.stated_jobs.proofs.bait.RunLinks.{links_most, links_heavier, HasNext, links_next, links_last, links_one}
use Rattle.stated_jobs.proofs.bait.RunFeeds.{unit_at, IsUnit, bait, feed_is, link_in_feed, feed_begins, feed_sum}
use Rattle.stated_jobs.proofs.bait.Steady.{IsLast, IsChained, Stands, IsSteady, done_at_end, step_steady}
use Rattle.stated_jobs.proofs.bait.Steady.{value_of_steady}
use Rattle.dover_model.proofs.valid.ValidParts.{valid_parts}
use Rattle.dover_model.proofs.valid.JobLimits.{job_limits}

module _ (k : Fraction) (version : Version) (n : ℕ) (valid : IsValid (baiting k version (suc n))) where
  -- the feed
  abbrev pub J : Instance
  J = baiting k version (suc n)

  -- the ratio is within its limits
  pub ratio : IsRatio k
  ratio = (valid_parts valid).ratio

  -- the first link is at least one
  some : 1 ≤ first_link k
  some = omega arith

  -- the last link
  abbrev pub most : ℕ
  most = last_from k n (first_link k)

  -- the bait's tick is the end of the chain
  tick_is : bait_tick k (suc n) ≡ end_from k (suc n) 0 (first_link k)
  tick_is = omega (arith, end_is k (suc n) 0 (first_link k) some)

  -- a link
  abbrev pub Link : JobFacts → Type 0
  Link j = IsMember j (chain_jobs k (suc n))

  -- a unit job or the bait
  abbrev pub Light : JobFacts → Type 0
  Light j = (j.value ≡ unit_value k) ⊎ ((j.release ≡ bait_tick k (suc n)) × (j.value ≡ bait_value k (suc n)))

  -- a link has no slack
  link_tight : (j : JobFacts) → Link j → IsTight j
  link_tight = links_tight k (suc n) 0 (first_link k) some

  -- it is due one tick after the bait's release at most
  link_due : (j : JobFacts) → Link j → j.deadline ≤ bait_tick k (suc n) + 1
  link_due j link = omega (arith, links_due k (suc n) 0 (first_link k) some j link, tick_is)

  -- so it is released by then
  within : Each (λ j. j.release ≤ bait_tick k (suc n)) (chain_jobs k (suc n))
  within j link = let it : IsTight j = link_tight j link in omega (arith, link_due j link, it.some, it.tight)

  -- the links are within the limits
  pub small : AreSmall (chain_jobs k (suc n))
  small j link = (job_limits (all_member IsJob (bait_jobs k (suc n)) (valid_parts valid).each j
      (link_in_feed k (suc n) j link (within j link)))).modest

  -- so is the last
  small_most : most ≤ 1_000_000_000
  small_most = last_small k ratio n 0 (first_link k) small

  -- it is at least one
  some_most : 1 ≤ most
  some_most = omega (arith, some, last_above k ratio n 0 (first_link k) small)

  -- where the last link is no more than one, it is the only one
  only : (m : ℕ) → AreSmall (links k (suc m) 0 (first_link k)) → last_from k m (first_link k) ≤ 1
      → (m ≡ 0) × (first_link k ≡ 1)
  only zero low one = (refl, omega (arith, some, one))
  only (suc m) low one = absurd (omega (arith, some, one, last_more k ratio m 0 (first_link k) low))

  -- the value of the bait
  bait_is : bait_value k (suc n) ≡ most_light k most
  bait_is = ap (most_light k) (last_is k n (first_link k) None)

  -- it is at least that of the last link
  bait_least : most ≤ bait_value k (suc n)
  bait_least = omega (arith, bait_is, light_least k most ratio small_most)

  -- where it is no more than one, there is one link, of value one
  pub twins : bait_value k (suc n) ≤ 1 → (n ≡ 0) × (first_link k ≡ 1) × (bait_value k (suc n) ≡ 1)
  twins one = let it : (n ≡ 0) × (first_link k ≡ 1) = only n small (omega (arith, one, bait_least)) in
      (it.0, it.1, omega (arith, one, bait_least, some_most))

  -- a link that is due after the bait's release is the last
  late_last : (r : JobFacts) → Link r → bait_tick k (suc n) < r.deadline → r.value ≡ most
  late_last r link later = by_next (links_next k ratio n 0 (first_link k) some small r link) where
    by_next : (r.value ≡ most) ⊎ HasNext k ratio (links k (suc n) 0 (first_link k)) r → r.value ≡ most
    by_next (inl same) = same
    by_next (inr u) = absurd (
        let it : IsTight u.0 = link_tight u.0 u.1 in
        let here : IsTight r = link_tight r link in
        let more : r.value < u.0.value = u.2 in
        let at : u.0.release + 1 ≡ r.deadline = u.3 in
        omega (arith, it.tight, it.even, here.some, here.even, link_due u.0 u.1))

  -- a light job isn't heavy against a link that it meets
  light_meets : (a r : JobFacts) → Light a → Link r → a.release < r.deadline → is_heavy k a.value r.value ≡ false
  light_meets a r (inl unit) link before =
      ap (λ v. is_heavy k v r.value) unit
      ∙ unit_light k ratio r.value (links_above k ratio (suc n) 0 (first_link k) small r link)
  light_meets a r (inr it) link before = ap (λ v. is_heavy k v r.value) (it.1 ∙ bait_is)
      ∙ ap (is_heavy k (most_light k most))
      (late_last r link (let here : a.release ≡ bait_tick k (suc n) = it.0 in omega arith))
      ∙ most_light_light k ratio most small_most

  -- what is in the feed, by its kind
  by_kind : (P : JobFacts → Type 0) → ((j : JobFacts) → Link j → P j)
      → ((t : ℕ) → t < bait_tick k (suc n) → P (unit_at k (suc n) t))
      → P (bait k (suc n)) → Each P (bait_jobs k (suc n))
  by_kind P link unit last j member = each (feed_is k (suc n) j member) where
    each : Link j ⊎ (IsUnit k (suc n) (bait_tick k (suc n)) j ⊎ (j ≡ bait k (suc n))) → P j
    each (inl it) = link j it
    each (inr (inl it)) = subst P (sym it.2) (unit it.0 it.1)
    each (inr (inr e)) = subst P (sym e) last

  -- the next link is in the feed
  next_there : (a : JobFacts) → Link a
      → (a.value ≡ most) ⊎ ((u : JobFacts) × IsMember u (bait_jobs k (suc n)) × Link u × (a.value < u.value)
      × (u.release + 1 ≡ a.deadline))
  next_there a link = elim (links_next k ratio n 0 (first_link k) some small a link) [
    | inl same ↦ inl same
    | inr u ↦ inr (u.0, link_in_feed k (suc n) u.0 u.1 (within u.0 u.1), u.1, u.2, u.3)
  ]

  -- the last link is due one tick after the bait's release
  last_due : (a : JobFacts) → IsLast most Link a → a.deadline ≡ bait_tick k (suc n) + 1
  last_due a last = omega (arith, links_last k ratio n 0 (first_link k) some small a last.0 last.1, tick_is)

  -- of the links the last alone is due then
  top : (j : JobFacts) → Link j → (b : Bool) → eqb j.work most ≡ b → eqb j.deadline (bait_tick k (suc n) + 1) ≡ b
  top j link true same = eq-eqb j.deadline (bait_tick k (suc n) + 1)
      (last_due j (link, (link_tight j link).even ∙ eqb-true _ _ same))
  top j link false differs = ne_eqb j.deadline (bait_tick k (suc n) + 1) (λ due. absurd (never (sym differs
      ∙ eq-eqb j.work most (sym (link_tight j link).even ∙ late_last j link (omega (arith, due))))))

  -- the jobs of a baiting feed are such as a chain needs, where the bait is worth more than one
  pub chained : 2 ≤ bait_value k (suc n) → IsChained k (bait_jobs k (suc n)) most Link Light
  chained two = record {
    kinds = by_kind (λ j. Link j ⊎ Light j) (λ j link. inl link)
        (λ t before. inr (inl (let one : 1 * unit_value k ≡ unit_value k = omega arith in omega arith)))
        (inr (inr (refl, omega arith)));
    tight = by_kind (λ j. j.deadline ≡ j.release + j.work) (λ j link. (link_tight j link).tight)
        (λ t before. refl) refl;
    heavier = λ a b link_a link_b less. links_heavier k ratio (suc n) 0 (first_link k) small a b link_a link_b less;
    lighter = light_meets;
    least = some_most;
    at_most = links_most k ratio n 0 (first_link k) small;
    next = next_there;
    late = λ a last. by_kind (λ j. j.release < a.deadline) (λ j link. omega (arith, within j link, last_due a last))
        (λ t before. omega (arith, last_due a last)) (omega (arith, last_due a last));
    due = λ a b last link. omega (arith, link_due b link, last_due a last);
    first = let it : (rest : List JobFacts) × (bait_jobs k (suc n) ≡ tight_job 0 (first_link k) 1 ∷ rest) =
        feed_begins k (suc n) (tight_job 0 (first_link k) 1)
        (links k n (0 + first_link k - 1) (suc (most_light k (first_link k)))) refl refl in
        (tight_job 0 (first_link k) 1, it.0, it.1, inl refl);
    due_last = bait_tick k (suc n) + 1;
    ends = last_due;
    known = by_kind (λ j. j.deadline ≡ bait_tick k (suc n) + 1 → IsLast most Link j)
        (λ j link due. (link, late_last j link (omega (arith, due))))
        (λ t before due. absurd (omega (arith, before, due)))
        (λ due. absurd (omega (arith, two, due)));
    one = feed_sum k (suc n) (λ j. cond (eqb j.deadline (bait_tick k (suc n) + 1)) j.value 0)
        (λ t before. ap (λ b. cond b (unit_value k * 1) 0)
        (ne_eqb (t + 1) (bait_tick k (suc n) + 1) (λ same. absurd (omega (arith, before, same)))))
        (ap (λ b. cond b (1 * bait_value k (suc n)) 0)
        (ne_eqb (bait_tick k (suc n) + bait_value k (suc n)) (bait_tick k (suc n) + 1)
        (λ same. absurd (omega (arith, two, same)))))
        within
        ∙ sum_same (λ j. cond (eqb j.deadline (bait_tick k (suc n) + 1)) j.value 0)
        (λ j. cond (eqb j.work most) j.value 0) (chain_jobs k (suc n))
        (λ j link. ap (λ b. cond b j.value 0) (top j link (eqb j.work most) refl))
        ∙ links_one k ratio most n 0 (first_link k) small refl;
  }

  -- the opening is steady
  pub opening_steady : IsSteady most Link Light (opening (bait_jobs k (suc n)))
  opening_steady = record {
    stands = λ t m. subst (λ role. Stands most Link Light 0 role t)
        (sym (come_coming 0 (bait_jobs k (suc n)) t m).0) tt;
    follows = λ r u mr mu runs link less. absurd
        (let e : Coming ≡ Running = sym (come_coming 0 (bait_jobs k (suc n)) r mr).0 ∙ runs in cc);
    idle = λ none. inl (λ t m. inl (come_coming 0 (bait_jobs k (suc n)) t m).0);
  }

  -- each step is taken in a steady state
  pub each_steady : 2 ≤ bait_value k (suc n) → Each (λ x. (x.move ≡ step J.rules x.before) × Keeps J x.before
      × IsSteady most Link Light x.before) (run J)
  each_steady two = run_states J valid J.rules (IsSteady most Link Light)
      (λ s keeps steady on. step_steady k (bait_jobs k (suc n)) most Link Light (chained two) s keeps.sound keeps.jobs
      steady (step J.rules s) (step_deed J valid s keeps J.rules) (done_at_end s keeps.sound J.rules refl))
      (run J) (opening (bait_jobs k (suc n))) (opening_keeps J) opening_steady
      (run_is_whole J valid)

  -- so is the last
  last_steady : 2 ≤ bait_value k (suc n) → Keeps J (run_over J valid).last
      × IsSteady most Link Light (run_over J valid).last
  last_steady two = let ends : Step = step_at J.rules (run_over J valid).last in
      let it : (ends.move ≡ step J.rules ends.before) × Keeps J ends.before
      × IsSteady most Link Light ends.before =
      each_steady two (step_at J.rules (run_over J valid).last)
      (subst (IsMember (step_at J.rules (run_over J valid).last)) (sym (run_over J valid).steps)
      (member_behind (run_over J valid).front (step_at J.rules (run_over J valid).last ∷ [])
      (step_at J.rules (run_over J valid).last) (inl refl))) in
      (it.1, it.2)

  -- the run is worth the last link
  pub worth_last : 2 ≤ bait_value k (suc n) → completed_value J ≡ last_link k (suc n)
  worth_last two = value_of_run J valid
      ∙ value_of_steady _ _ _ _ _ (chained two) _ (last_steady two).0.sound (last_steady two).0.jobs
      (last_steady two).1 (run_over J valid).over
      ∙ sym (last_is k n (first_link k) None)
