-- Lives of an engine one after another, each begun anew by a restart.
use Rattle.std.proofs.Common.{◌≡◌, ℕ, ◌+◌, List, [], ◌∷◌, ◌++◌, length, map, refl, sym, ap, ◌∙◌, subst, arith, ◌≤◌}
use Rattle.std.proofs.Common.{true, sum_by}
use Rattle.std.proofs.lemmas.List.{map-append}
use Rattle.std.proofs.lemmas.List.Sums.{sum_by-cons}
use Rattle.dover_model.specs.declared.events.Version.{Version}
use Rattle.dover_model.specs.declared.events.Event.{Event}
use Rattle.dover_model.specs.declared.events.Event.TheVariants as events
use Rattle.dover_model.specs.declared.horizon.Horizon.TheVariants.{Mark}
use Rattle.dover_model.specs.Common.{Fraction, Instance, Rules, printed, completed_value, worth, observed, IsWithin}
use Rattle.dover_model.specs.Common.{Begins, no_jobs, behind, before_end, later_event, Turn, turn_under, end_tick}
use Rattle.dover_model.specs.Common.{Declaration, printed_anew, IsAtRest as IsQuiet}
use Rattle.dover_model.proofs.rest.RestTick.{rests_from}
use Rattle.dover_model.proofs.runs.Runs.{last_value, value_last}
use Rattle.dover_engine.specs.Life.{Life, IsAtRest, done_value, has_ended}
use Rattle.dover_engine.specs.Given.{Gave, IsSince}
use Rattle.dover_engine.specs.Calls.{Call, LeadsAll, Lives, all_jobs, decided, jobs_in}
use Rattle.dover_engine.specs.Restarts.{IsRestarted, Past, LeadsThrough, LivesOn, turn_of, turns_of, jobs_anew}
use Rattle.dover_engine.specs.Restarts.{in_one_time, value_anew}
use Rattle.dover_engine.proofs.Lives.{turn, two_behind, whole_end, rest_events}
use Rattle.dover_engine.proofs.LifeLaws.{stood, value_all, rest_all, ended_all, begins_all}
use Rattle.dover_engine.proofs.InLives as lives
use Rattle.dover_engine.proofs.Since as since

-- events behind a past life
abbrev behind_past : Past → List Event → List Event
behind_past past es = decided past.calls
    ++ map (behind (length (jobs_in past.calls)) past.value) (map (later_event past.tick) es)

past_append : (past : Past) (xs ys : List Event) → behind_past past (xs ++ ys) ≡ behind_past past xs
    ++ map (behind (length (jobs_in past.calls)) past.value) (map (later_event past.tick) ys)
past_append past xs ys =
    ap (λ es. decided past.calls ++ map (behind (length (jobs_in past.calls)) past.value) es)
    (map-append (later_event past.tick) xs ys)
    ∙ two_behind (decided past.calls) _ (behind (length (jobs_in past.calls)) past.value)
    (map (later_event past.tick) xs) (map (later_event past.tick) ys) refl

-- with an End behind them
with_end : (pasts : List Past) (es : List Event) (value : ℕ) → in_one_time pasts (es ++ (events.End value ∷ []))
    ≡ in_one_time pasts es ++ (events.End (sum_by (λ (p : Past). p.value) pasts + value) ∷ [])
with_end [] es value = ap (λ n. es ++ (events.End n ∷ [])) (let sum : value ≡ 0 + value = omega arith in sum)
with_end (past ∷ pasts) es value = ap (behind_past past) (with_end pasts es value)
    ∙ past_append past (in_one_time pasts es) (events.End (sum_by (λ (p : Past). p.value) pasts + value) ∷ [])
    ∙ ap (λ n. in_one_time (past ∷ pasts) es ++ (events.End n ∷ [])) sum where
      sum : past.value + (sum_by (λ (p : Past). p.value) pasts + value)
          ≡ sum_by (λ (p : Past). p.value) (past ∷ pasts) + value
      sum = omega (arith, sum_by-cons (λ (p : Past). p.value) past pasts)

-- what begins other events does so behind past lives
begins_behind : (pasts : List Past) (es fs : List Event) → Begins es fs
    → Begins (in_one_time pasts es) (in_one_time pasts fs)
begins_behind [] es fs begins = begins
begins_behind (past ∷ pasts) es fs begins = let it = begins_behind pasts es fs begins in
    (_, ap (behind_past past) it.1 ∙ past_append past (in_one_time pasts es) it.0)

module _ (version : Version) (k : Fraction) where
  abbrev rules : Rules
  rules = record { ratio = k; version = version; finishes = [] }

  -- an engine that lives so
  abbrev living : (calls : List Call) (v w : Life) → Gave v (no_jobs version k) [] → LeadsAll calls v w
      → Lives version k calls w
  living calls v w fresh leads = record { made = v; fresh = fresh; lives = leads }

  -- ---- one life

  module _ (calls : List Call) (u : Life) (life : Lives version k calls u) where
    abbrev J : Instance
    J = all_jobs version k calls

    abbrev it : Gave u J (decided calls)
    it = stood version k calls u life

    -- its jobs are turns, which come to rest
    life_at : (tick : ℕ) → it.tick ≤ tick → IsQuiet (turn_under rules it.since) tick
        → lives.IsLife rules tick (turn_of calls)
    life_at tick low rest = record {
      turns = it.turns;
      more = it.since;
      last = it.tick;
      over = it.over;
      turn = turn u J (decided calls) it;
      low = low;
      rest = rest;
      is = ap (λ (I : Instance). let T : Turn = record { jobs = I.jobs; finishes = I.rules.finishes } in T) it.all;
    }

    abbrev end_at : ℕ
    end_at = it.tick + end_tick (turn_under rules it.since)

    some_life : lives.IsLife rules end_at (turn_of calls)
    some_life = life_at end_at (omega arith)
        (rests_from (turn_under rules it.since) it.gave.serves.follows.valid end_at (omega arith))

    -- at the tick at which it was ended
    past_life : (tick : ℕ) → IsAtRest u → u.last ≡ Mark tick → lives.IsLife rules tick (turn_of calls)
    past_life tick still at = life_at tick (subst (IsSince it.tick) at it.passed)
        (since.rests_at u (turn_under J.rules it.since) it.told it.gave still tick at)

    -- what is printed as the last life
    printed_last : printed_anew rules ((0, turn_of calls) ∷ []) ≡ printed J
    printed_last =
        ap (λ value. before_end (printed J) ++ (events.End value ∷ []))
        (let sum : completed_value J + 0 ≡ completed_value J = omega arith in sum)
        ∙ sym (whole_end u J (decided calls) it)

  -- ---- lives one after another

  -- behind a restart it is as newly made
  pub anew_gave : (calls : List Call) (v u x : Life) (tick : ℕ) → Gave v (no_jobs version k) [] → LeadsAll calls v u
      → IsRestarted u x tick → Gave x (no_jobs version k) []
  anew_gave calls v u x tick fresh leads restarted =
      let g : Gave u (all_jobs version k calls) (decided calls) =
      stood version k calls u (living calls v u fresh leads) in
      subst (λ (r : Declaration). Gave x (no_jobs r.version r.ratio) []) g.gave.rules restarted.gave

  -- it is the life of an engine that was just made
  life_from : (pasts : List Past) (calls : List Call) (v b w : Life) → Gave v (no_jobs version k) []
      → LeadsThrough pasts v b → LeadsAll calls b w → Lives version k calls w
  life_from [] calls v b w fresh here leads =
      living calls b w (subst (λ x. Gave x (no_jobs version k) []) (sym here) fresh) leads
  life_from (past ∷ pasts) calls v b w fresh it leads =
      life_from pasts calls it.3.0 b w (anew_gave past.calls v it.0 it.3.0 past.tick fresh it.1 it.3.1) it.3.2 leads

  -- past lives as turns
  abbrev fronts : List Past → List (ℕ × Turn)
  fronts pasts = map (λ (past : Past). (past.tick, turn_of past.calls)) pasts

  fronts_live : (pasts : List Past) (v b : Life) → Gave v (no_jobs version k) [] → LeadsThrough pasts v b
      → lives.AreLives rules (fronts pasts)
  fronts_live [] v b fresh here = tt
  fronts_live (past ∷ pasts) v b fresh it = (
    past_life past.calls it.0 (living past.calls v it.0 fresh it.1) past.tick it.3.1.rest it.3.1.at,
    fronts_live pasts it.3.0 b (anew_gave past.calls v it.0 it.3.0 past.tick fresh it.1 it.3.1) it.3.2,
  )

  -- what the lives print, in one time
  prints_anew : (pasts : List Past) (calls : List Call) (v b w : Life) → Gave v (no_jobs version k) []
      → LeadsThrough pasts v b → LeadsAll calls b w
      → printed_anew rules (turns_of pasts calls) ≡ in_one_time pasts (printed (all_jobs version k calls))
  prints_anew [] calls v b w fresh here leads =
      printed_last calls w (life_from [] calls v b w fresh here leads)
  prints_anew (past ∷ pasts) calls v b w fresh it leads =
      let life : Lives version k past.calls it.0 = living past.calls v it.0 fresh it.1 in
      let I : Instance = all_jobs version k past.calls in
      let value : completed_value I ≡ past.value =
      sym (value_all version k past.calls it.0 life it.3.1.rest) ∙ sym it.2 in
      let rest = prints_anew pasts calls it.3.0 b w
      (anew_gave past.calls v it.0 it.3.0 past.tick fresh it.1 it.3.1) it.3.2 leads in
      ap (λ es. before_end (printed I) ++ map (behind (length (jobs_in past.calls)) (completed_value I))
      (map (later_event past.tick) es)) rest
      ∙ ap (λ n. before_end (printed I) ++ map (behind (length (jobs_in past.calls)) n)
      (map (later_event past.tick) (in_one_time pasts (printed (all_jobs version k calls))))) value
      ∙ ap (λ es. es ++ map (behind (length (jobs_in past.calls)) past.value)
      (map (later_event past.tick) (in_one_time pasts (printed (all_jobs version k calls)))))
      (sym (rest_events it.0 I (decided past.calls) (stood version k past.calls it.0 life) it.3.1.rest))

  module _ (pasts : List Past) (calls : List Call) (w : Life) (all : LivesOn version k pasts calls w) where
    pub life_now : Lives version k calls w
    life_now = life_from pasts calls all.made all.begun w all.fresh all.before all.lives

    abbrev last_life : lives.IsLife rules (end_at calls w life_now) (turn_of calls)
    last_life = some_life calls w life_now

    abbrev front_lives : lives.AreLives rules (fronts pasts)
    front_lives = fronts_live pasts all.made all.begun all.fresh all.before

    -- the one run of all
    printed_now : printed (jobs_anew version k pasts calls) ≡ in_one_time pasts (printed (all_jobs version k calls))
    printed_now =
        lives.lives_print rules (end_at calls w life_now) (turn_of calls) last_life (fronts pasts) front_lives
        ∙ prints_anew pasts calls all.made all.begun w all.fresh all.before all.lives

    pub begins_now : Begins (in_one_time pasts (decided calls)) (printed (jobs_anew version k pasts calls))
    begins_now = subst (Begins (in_one_time pasts (decided calls))) (sym printed_now)
        (begins_behind pasts (decided calls) (printed (all_jobs version k calls))
        (begins_all version k calls w life_now))

    pub rest_now : IsAtRest w → in_one_time pasts (decided calls) ++ (events.End (value_anew pasts w) ∷ [])
        ≡ printed (jobs_anew version k pasts calls)
    rest_now still = sym (with_end pasts (decided calls) (done_value w))
        ∙ ap (in_one_time pasts) (rest_all version k calls w life_now still) ∙ sym printed_now

    pub ended_now : has_ended w ≡ true → in_one_time pasts (decided calls) ≡ printed (jobs_anew version k pasts calls)
    ended_now ended = ap (in_one_time pasts) (ended_all version k calls w life_now ended) ∙ sym printed_now

    pub value_now : completed_value (jobs_anew version k pasts calls)
        ≡ sum_by (λ (p : Past). p.value) pasts + completed_value (all_jobs version k calls)
    value_now =
        let I : Instance = all_jobs version k calls in
        let value : ℕ = sum_by (λ (p : Past). p.value) pasts + completed_value I in
        ap (last_value 0) (printed_now
        ∙ ap (in_one_time pasts) (whole_end w I (decided calls) (stood version k calls w life_now))
        ∙ with_end pasts (before_end (printed I)) (completed_value I))
        ∙ value_last 0 value (in_one_time pasts (before_end (printed I)))

    pub within_now : (s : List ℕ) → IsWithin k (worth (jobs_anew version k pasts calls) s)
        (completed_value (jobs_anew version k pasts calls))
    within_now s = lives.lives_within rules (end_at calls w life_now) (turn_of calls) last_life (fronts pasts) s
        front_lives

    pub observed_now : (s : List ℕ) → IsWithin k (worth (observed (jobs_anew version k pasts calls)) s)
        (completed_value (jobs_anew version k pasts calls))
    observed_now s = lives.lives_observed rules (end_at calls w life_now) (turn_of calls) last_life (fronts pasts) s
        front_lives
