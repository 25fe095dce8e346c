-- How the judge takes the lines of a trace.
use Rattle.std.proofs.Common.{codes, ◌≡◌, ℕ, suc, ◌+◌, ◌*◌, ◌≤◌, ◌<◌, max, List, [], ◌∷◌, ◌++◌, length, length-append}
use Rattle.std.proofs.Common.{refl, sym, ap, ◌∙◌, subst, Bool, true, false, cond, arith, Option, Some, None, is_some}
use Rattle.std.proofs.Common.{not, filter}
use Rattle.std.proofs.lemmas.Bool.{false_from_ne_true}
use Rattle.trace_judge.proofs.Naming.{header_line, header_text, header_form, pair_in, ratio_back, with_text}
use Rattle.dover_model.specs.Common.{with_numbers, Fraction, IsRatio, ratio_with, factor_numbers, Rules, Declaration}
use Rattle.dover_model.specs.Common.{declared_by, Instance, IsValid, State, opening, is_done, value_sum, Prints, step}
use Rattle.dover_model.specs.Common.{open_step, after, Step, is_end, printed, printed_of, waits_for_mark, last_of}
use Rattle.dover_model.specs.Common.{tick_of_event, Keeps, Session, instance_of, new_session, IsDeclarable, rules_with}
use Rattle.dover_model.specs.Common.{header, text_of, version_number, begins_trace, named_item, version_of_number}
use Rattle.dover_model.specs.Common.{Idles, GoesOn, WaitsUntil, PrintsNext, floor_after}
use Rattle.dover_model.specs.declared.events.Event.{Event}
use Rattle.dover_model.specs.declared.events.Event.TheVariants.{End}
use Rattle.dover_model.specs.declared.events.Version.{Version}
use Rattle.dover_model.proofs.settled.LastSteps.{prints_clock}
use Rattle.dover_model.proofs.steps.Kept.{open_deed}
use Rattle.dover_model.proofs.settled.Prefixes.{step_open}
use Rattle.dover_model.specs.Session.{is_declarable}
use Rattle.dover_model.proofs.lists.Members.{some_same}
use Rattle.dover_model.proofs.texts.TraceLines.{version_back, version_from}
use Rattle.dover_model.proofs.runs.Ending.{end_over}
use Rattle.dover_model.proofs.lists.Tests.{never}
use Rattle.line_text.specs.declared.traces.lines.TraceLine.TheVariants.{Header, Step as StepLine}
use Rattle.line_text.specs.traces.Form.{HasForm, trace_text}
use Rattle.admission.specs.Kept as admission
use Rattle.dover_model.proofs.settled.Leading.{idles_settles, settles_append, settles_or_prints, prints_goes_on}
use Rattle.trace_judge.proofs.Seeing.{sees_next}
use Rattle.trace_judge.proofs.Continuing.{sees_step, sees_header, SeesWith}
use Rattle.trace_judge.proofs.Finishing.{ended_run, ended_trace, ended_value}
use Rattle.trace_judge.proofs.Only.{only_headers, only_step}
use Rattle.trace_judge.specs.declared.stage.TraceStage.TheVariants.{Opening, Going, Ended}
use Rattle.ready_jobs.specs.Course.{Course, Follows, Settled, GoesOnFrom}
use Rattle.trace_judge.specs.Reads.{Reading, Opens, Goes, Ends, ReadsAhead, Reads, StaysAhead, HasSpare, IsReader}
use Rattle.trace_judge.specs.Reads.{kept_steps, Took, Followed, Waited, at_tick}
use Rattle.ready_jobs.proofs.Courses.{new_follows, follows_count}
use Rattle.trace_judge.proofs.Forms.{one_form, next_form}
use Rattle.trace_judge.proofs.Readings.{goes_of, ahead_of, here_of, reads_of, opens_of, reads_ahead, next_goes}
use Rattle.trace_judge.proofs.Readings.{spare_stays, next_ahead, goes_along, took_none, room_for, kept_more, steps_more}
use Rattle.trace_judge.proofs.Readings.{last_more, Continues, continued_reader}
use Rattle.dover_model.proofs.sessions.SessionParts.{session_jobs}

-- ---- silent steps up to a tick

-- silent steps before a wait
wait_behind : (rules : Rules) (tick : ℕ) (xs : List Step) (z y x : State) → Idles rules z xs y → y.clock ≤ tick
    → WaitsUntil rules tick y x
    → WaitsUntil rules tick z x
wait_behind rules tick xs z y x idles low waits = record {
  steps = xs ++ waits.steps;
  settles = settles_append rules tick xs waits.steps z y x (idles_settles rules tick xs z y idles low) waits.settles;
  barrier = waits.barrier;
}

module _ (r w : Reading) (same : r ≡ w) (d : Course) (tick : ℕ) (o : Option Event)
    (settled : (J : Instance) (z : State) → Follows r.course J z → Settled d J z tick o) (low : d.clock ≤ tick) where
  -- the lines are the same
  settled_goes : (ls : List (List ℕ)) (S : Session) (z y : State) (goes : Goes r ls S z y)
      → Goes (record r { course = d }) ls S z (settled (instance_of S) y goes.follows).state
  settled_goes ls S z y goes =
      let it : Settled d (instance_of S) y tick o = settled (instance_of S) y goes.follows in
      goes_along r d ls S z y it.state goes it.idles.0 it.idles.1 it.follows

  -- they stay kept
  pub settled_ahead : r.stage ≡ Going → StaysAhead w (record r { course = d })
  settled_ahead going ls reads =
      let old : (S : Session) × (z : State) × (y : State) × Goes r ls S z y =
      goes_of r ls going (subst (λ v. ReadsAhead v ls) (sym same) reads) in
      ahead_of (record r { course = d }) ls going old.0 old.1 (settled (instance_of old.0) old.2 old.3.follows).state
      (settled_goes ls old.0 old.1 old.2 old.3)

  -- nothing was printed
  pub settled_yes : o ≡ None → r.floor ≤ tick → r.course.clock ≤ tick
      → (ls : List (List ℕ)) (S : Session) (z y : State) → Goes w ls S z y
      → (x : State) × Waited (record r { course = d }) tick ls S z x
  settled_yes none floor clock ls S z y goes_w =
      let goes : Goes r ls S z y = subst (λ v. Goes v ls S z y) (sym same) goes_w in
      let it : Settled d (instance_of S) y tick None =
      subst (Settled d (instance_of S) y tick) none (settled (instance_of S) y goes.follows) in
      let at : y.clock ≤ tick = omega (arith, goes.follows.clock) in (
        it.state,
        record {
          goes = goes_along r d ls S z y it.state goes it.idles.0 it.idles.1 it.follows;
          no_fall = floor;
          low = low;
          there = it.comes.1;
          waits = wait_behind (instance_of S).rules tick goes.idles.0 z y (at_tick tick it.state) goes.idles.1
              at it.comes.0;
        },
      )

  -- something was
  pub settled_no : (e : Event) → o ≡ Some e → (ls : List (List ℕ)) (S : Session) (z : State) → Goes w ls S z z
      → (x : State)
      → WaitsUntil (instance_of S).rules tick z x → ⊥
  settled_no e some ls S z goes_w x waits =
      let goes : Goes r ls S z z = subst (λ v. Goes v ls S z z) (sym same) goes_w in
      let it : Settled d (instance_of S) z tick (Some e) =
      subst (Settled d (instance_of S) z tick) some (settled (instance_of S) z goes.follows) in
      let at : it.state.clock ≤ tick = omega (arith, it.follows.clock) in
      settles_or_prints (instance_of S).rules tick it.idles.0 waits.steps z it.state x e
      (idles_settles (instance_of S).rules tick it.idles.0 z it.state it.idles.1 at)
      it.comes.1 it.comes.0 waits.settles waits.barrier

-- what is kept, with the run gone on
pub settled_reader : (r : Reading) → IsReader r → (d : Course) (tick : ℕ) (o : Option Event) → r.stage ≡ Going
    → ((J : Instance) (z : State) → Follows r.course J z → Settled d J z tick o) → d.clock ≤ tick
    → GoesOnFrom r.course d
    → IsReader (record r { course = d })
settled_reader r old d tick o going settled low on = record {
  spare = spare_stays r d old.spare on.fewer on.jobs on.room;
  lines = old.lines;
  reads = settled_ahead r r refl d tick o settled low going old.lines old.reads;
}

-- nothing, and something
pub is_nothing : (o : Option Event) (b : Bool) → is_some o ≡ not b → b ≡ true → o ≡ None
is_nothing None b test is = refl
is_nothing (Some e) b test is = never (sym (test ∙ ap not is))

pub is_something : (o : Option Event) (b : Bool) → is_some o ≡ not b → b ≡ false → (e : Event) × (o ≡ Some e)
is_something None b test is = never (test ∙ ap not is)
is_something (Some e) b test is = (e, refl)

-- ---- the header

-- a header that begins a trace
header_only : (v p q : ℕ) (factor : Option (ℕ × ℕ)) → HasForm (Header v p q factor)
    → begins_trace (trace_text (Header v p q factor) ∷ []) ≡ true
    → (rules : Declaration) × IsRatio rules.ratio × IsDeclarable rules × (Header v p q factor ≡ header_line rules)
header_only v p q factor form passes =
    let it : (rules : Declaration) × IsRatio rules.ratio × IsDeclarable rules
    × (trace_text (Header v p q factor) ≡ header rules) =
    only_headers (trace_text (Header v p q factor)) passes in (
      it.0,
      it.1,
      it.2,
      one_form (Header v p q factor) (header_line it.0) form (header_form it.0 it.1)
          (it.3 ∙ sym (header_text it.0)),
    )

-- the numbers of a version are the same in the same header
number_is : {a b c : ℕ} {x : Option (ℕ × ℕ)} (rules : Declaration) → Header a b c x ≡ header_line rules
    → a ≡ version_number rules.version
number_is rules e = cc

-- and the ratio is that of its numbers
ratio_is : {a b c : ℕ} {x : Option (ℕ × ℕ)} (rules : Declaration) → Header a b c x ≡ header_line rules
    → ratio_with b c x ≡ rules.ratio
ratio_is {a} {b} {c} {x} rules same =
    let one : b ≡ rules.ratio.p = cc in let two : c ≡ rules.ratio.q = cc in
    let three : x ≡ pair_in rules.ratio.factor = cc in
    ap (λ m. ratio_with m c x) one ∙ ap (λ m. ratio_with rules.ratio.p m x) two
    ∙ ap (ratio_with rules.ratio.p rules.ratio.q) three ∙ ratio_back rules.ratio

module _ (r : Reading) (opening_stage : r.stage ≡ Opening) (v p q : ℕ) (factor : Option (ℕ × ℕ))
    (form : HasForm (Header v p q factor)) where
  -- a header that isn't one of a trace
  not_header : ((rules : Declaration) → IsRatio rules.ratio → IsDeclarable rules
      → Header v p q factor ≡ header_line rules → ⊥)
      → Took r r (trace_text (Header v p q factor)) false
  not_header none = took_none r r (trace_text (Header v p q factor)) (λ ls reads. reads) (λ ls reads passes.
      let opens : Opens r ls = opens_of r ls opening_stage (reads_ahead r ls reads) in
      let it = header_only v p q factor form
      (subst (λ xs. begins_trace (xs ++ trace_text (Header v p q factor) ∷ []) ≡ true) opens.lines passes) in
      none it.0 it.1 it.2 it.3)

  -- its number is no version
  pub no_version : version_of_number v ≡ None → Took r r (trace_text (Header v p q factor)) false
  no_version none = not_header (λ rules ratio declared same.
      let clash : None ≡ Some rules.version = sym none ∙ ap version_of_number (number_is rules same)
      ∙ version_back rules.version in
      cc)

  -- its ratio is none
  pub no_ratio : (IsRatio (ratio_with p q factor) → ⊥) → Took r r (trace_text (Header v p q factor)) false
  no_ratio none = not_header (λ rules ratio declared same. none (subst IsRatio (sym (ratio_is rules same)) ratio))

  -- its ratio has a factor that its version doesn't take
  pub no_declaration : (version : Version) (ratio : Fraction) → version_of_number v ≡ Some version
      → ratio ≡ ratio_with p q factor → is_declarable (rules_with ratio version) ≡ false
      → Took r r (trace_text (Header v p q factor)) false
  no_declaration version ratio is_version is_ratio fails = not_header (λ rules good declared same.
      let versions : version ≡ rules.version = some_same version rules.version
      (sym is_version ∙ ap version_of_number (number_is rules same) ∙ version_back rules.version) in
      never (sym fails ∙ ap (λ k. is_declarable (rules_with k version)) (is_ratio ∙ ratio_is rules same)
      ∙ ap (λ w. is_declarable (rules_with rules.ratio w)) versions ∙ declared))

  -- it is one
  module _ (version : Version) (ratio : Fraction) (is_version : version_of_number v ≡ Some version)
      (is_ratio : (ratio ≡ ratio_with p q factor) × IsRatio ratio) (may : IsDeclarable (rules_with ratio version))
      (d : Course) (kept : admission.Kept)
      (declared : d ≡ record r.course { rules = record { ratio = ratio; version = version } })
      (kept_rules : kept.rules ≡ record { ratio = ratio; version = version })
      (stands : admission.StandsFor kept []) where
    -- the rules
    abbrev rules : Declaration
    rules = record { ratio = ratio; version = version }

    -- the reading behind the header
    abbrev opened : Reading
    opened = record r { stage = Going; course = d; kept = kept }

    -- the text is that of the rules
    text_is : trace_text (Header v p q factor) ≡ header rules
    text_is = ap (λ n. trace_text (Header n p q factor)) (sym (version_from v version is_version))
        ∙ with_text (version_number version) p q factor
        ∙ ap (λ (k : Fraction). with_numbers (codes "dover") (version_number version ∷ k.p ∷ k.q
        ∷ factor_numbers k.factor)) (sym is_ratio.0)

    -- the header is kept
    pub opened_goes : (ls : List (List ℕ)) → Opens r ls
        → Goes opened (ls ++ trace_text (Header v p q factor) ∷ []) (new_session rules) (opening []) (opening [])
    opened_goes ls opens =
        let floor : 0 ≡ r.floor = sym opens.floor in
        let lines : header rules ∷ [] ≡ ls ++ trace_text (Header v p q factor) ∷ [] =
        ap (λ l. l ∷ []) (sym text_is) ∙ ap (λ xs. xs ++ trace_text (Header v p q factor) ∷ []) (sym opens.lines) in
        let sees : SeesWith (ls ++ trace_text (Header v p q factor) ∷ []) (new_session rules) r.floor (opening []) [] =
        subst (λ xs. SeesWith xs (new_session rules) r.floor (opening []) []) lines
        (subst (λ n. SeesWith (header rules ∷ []) (new_session rules) n (opening []) []) floor
        (sees_header rules is_ratio.1 may)) in
        record {
          sees = sees.0;
          idles = ([], refl);
          follows = subst (λ c. Follows c (instance_of (new_session rules)) (opening []))
              (sym (declared ∙ ap (λ (c : Course). record c { rules = rules }) opens.course))
              (new_follows rules r.course.room is_ratio.1);
          kept = stands;
          rules = kept_rules;
          items = opens.items;
          steps = opens.steps ∙ sym (no_steps r.keep) ∙ ap (kept_steps r.keep) (sym sees.1);
          refused = opens.refused;
          last = opens.last ∙ ap last_of (sym sees.1);
        } where
          no_steps : (b : Bool) → kept_steps b [] ≡ []
          no_steps true = refl
          no_steps false = refl

    -- the trace goes on
    pub opened_took : (w : Reading) → r ≡ w → Took w opened (trace_text (Header v p q factor)) true
    opened_took w same = record {
      yes = λ _ ls reads. (
        new_session rules,
        opening [],
        opened_goes ls (opens_of r ls opening_stage (reads_ahead r ls (subst (λ u. Reads u ls) (sym same) reads))),
      );
      no = λ e. absurd (let clash : true ≡ false = e in cc);
    }

    -- what is kept behind the header
    pub opened_reader : IsReader r → IsReader opened
    opened_reader old = record {
      spare = record {
        ready = omega (
          arith,
          old.spare.ready,
          ap (λ (c : Course). length c.ready) declared,
          ap (λ (c : Course). c.room) declared,
        );
        steps = λ keep. let before : 5 * (r.course.jobs + r.spare) + 1 ≤ r.room = old.spare.steps keep in
            omega (arith, ap (λ (c : Course). c.jobs) declared);
      };
      lines = old.lines ++ trace_text (Header v p q factor) ∷ [];
      reads = (
        new_session rules,
        opening [],
        opening [],
        opened_goes old.lines (opens_of r old.lines opening_stage old.reads),
      );
    }

-- ---- a printed step

-- an event that is the last
end_is : (e : Event) → is_end (Prints e) ≡ true → (v : ℕ) × (e ≡ End v)
end_is (End v) is = (v, refl)
end_is _ is = never is

-- the floor after an event, as it is computed
floor_is : (z : State) (e : Event) (clock : ℕ) → clock ≡ z.clock
    → cond (waits_for_mark (Prints e)) (clock + 1) clock ≡ floor_after z e
floor_is z e clock at = by_late (waits_for_mark (Prints e)) where
  by_late : (b : Bool) → cond b (clock + 1) clock ≡ cond b (suc z.clock) z.clock
  by_late true = omega arith
  by_late false = at

-- a printed step is one of the clock's tick
next_tick : (J : Instance) → IsValid J → (x : State) (e : Event) → Keeps J x → step J.rules x ≡ Prints e
    → is_end (Prints e) ≡ false → tick_of_event e ≡ x.clock
next_tick J valid x e keeps prints more =
    let on : GoesOn x = prints_goes_on J valid J.rules x e keeps prints more in
    prints_clock J.rules.ratio x (open_step J.rules x) (open_deed J valid x keeps J.rules) e
    (sym (step_open J.rules x on) ∙ prints)

module _ (r w : Reading) (same : r ≡ w) (going_w : w.stage ≡ Going) (d : Course) (due : Event)
    (next : (J : Instance) (z : State) → Follows r.course J z → (y : State) × Follows d J y
    × PrintsNext J.rules z due y) where
  -- the stage
  going : r.stage ≡ Going
  going = ap (λ (u : Reading). u.stage) same ∙ going_w

  -- there is room for it
  pub step_room : IsReader r → r.keep ≡ true → length r.steps < r.room
  step_room old keep =
      let it : (S : Session) × (z : State) × (y : State) × Goes r old.lines S z y =
      goes_of r old.lines going old.reads in
      let new = next_goes r d due going next old.lines it.0 it.1 it.2 it.3 in
      let all : (more : List Event) × (printed (instance_of it.0) ≡ printed_of it.3.sees.steps ++ due ∷ more) =
      sees_next old.lines it.0 r.floor it.1 it.3.sees due new.0 new.2 in
      room_for r old.lines it.0 it.1 it.2 it.3 old.spare keep (instance_of it.0) (session_jobs it.3.sees.valid)
      (omega (arith, ap length all.1, length-append (printed_of it.3.sees.steps) (due ∷ all.0)))
      (omega (arith, follows_count r.course (instance_of it.0) it.2 it.3.follows))

  module _ (event : Event) (form : HasForm (StepLine event)) where
    -- another step
    pub not_due : (due ≡ event → ⊥) → Followed w (record r { course = d }) event false
    not_due differs = record {
      yes = λ e. absurd (let clash : false ≡ true = e in cc);
      no = λ _ ls S z y goes_w none.
          let goes : Goes r ls S z y = subst (λ v. Goes v ls S z y) (sym same) goes_w in
          let new = next_goes r d due going next ls S z y goes in
          false_from_ne_true _ (λ passes.
          let text : text_of event ≡ text_of due =
          only_step ls S r.floor z goes.sees (text_of event) passes due new.0 new.2 none in
          let lines : StepLine event ≡ StepLine due = one_form (StepLine event) (StepLine due) form
          (next_form ls S r.floor z goes.sees due new.0 new.2) text in
          differs (let e : due ≡ event = cc in e));
      ahead = λ _ ls reads. next_ahead r d due going next ls (subst (λ v. ReadsAhead v ls) (sym same) reads);
    }

    module _ (is_event : due ≡ event) (steps : List Event) (room : ℕ)
        (kept : steps ≡ cond r.keep (r.steps ++ due ∷ []) r.steps)
        (same_room : room ≡ r.room) where
      -- the end
      module _ (last : is_end (Prints due) ≡ true) (clock : ℕ) where
        -- the reading at the end
        abbrev ended : Reading
        ended = record r { stage = Ended; course = d; steps = steps; room = room; last = clock }

        -- the trace is whole
        ended_ends : (ls : List (List ℕ)) (S : Session) (z y : State) → Goes r ls S z y
            → Ends ended (ls ++ text_of event ∷ []) S
        ended_ends ls S z y goes =
            let new = next_goes r d due going next ls S z y goes in
            let J : Instance = instance_of S in
            let v : (n : ℕ) × (due ≡ End n) = end_is due last in
            let next_end : PrintsNext (instance_of S).rules z (End v.0) new.0 = subst
            (λ e. PrintsNext (instance_of S).rules z e new.0) v.1 new.2 in
            let over : step J.rules new.0 ≡ Prints (End (value_sum (filter is_done new.0.tasks))) =
            (end_over J (session_jobs goes.sees.valid) new.0 new.1.follows.keeps J.rules
            (ap is_end new.2.prints ∙ last)).0 in
            let value : v.0 ≡ d.done =
            ends_same v.0 (value_sum (filter is_done new.0.tasks)) (sym next_end.prints ∙ over) ∙ new.1.follows.done in
            record {
              valid = goes.sees.valid;
              lines = ap (λ e. ls ++ text_of e ∷ []) (sym is_event ∙ v.1)
                  ∙ ended_trace ls S r.floor z goes.sees v.0 new.0 next_end;
              rules = ap (λ (k : Rules). declared_by k) new.1.follows.rules;
              value = ended_value ls S r.floor z goes.sees v.0 new.0 next_end ∙ value;
              jobs = sym (follows_count d J new.0 new.1.follows);
              refused = goes.refused;
              steps = kept ∙ kept_more r.keep (printed_of goes.sees.steps) (due ∷ []) r.steps goes.steps
                  ∙ ap (λ e. kept_steps r.keep (printed_of goes.sees.steps ++ e ∷ [])) v.1
                  ∙ ap (kept_steps r.keep) (sym (ended_run ls S r.floor z goes.sees v.0 new.0 next_end));
            } where
              ends_same : (m n : ℕ) → Prints (End m) ≡ Prints (End n) → m ≡ n
              ends_same m n e = cc

        -- it goes on so
        pub ended_took : Followed w ended event true
        ended_took = record {
          yes = λ _ ls reads.
              let here : (S : Session) × (z : State) × (y : State) × Goes r ls S z y =
              goes_of r ls going (subst (λ v. ReadsAhead v ls) (sym same) reads) in
              (here.0, ended_ends ls here.0 here.1 here.2 here.3);
          no = λ e. absurd (let clash : true ≡ false = e in cc);
          ahead = λ e. absurd (let clash : true ≡ false = e in cc);
        }

        -- what is kept at the end
        pub ended_reader : IsReader r → GoesOnFrom r.course d → IsReader ended
        ended_reader old on =
            let it : (S : Session) × (z : State) × (y : State) × Goes r old.lines S z y =
            goes_of r old.lines going old.reads in
            record {
              spare = stepped_spare old on;
              lines = old.lines ++ text_of event ∷ [];
              reads = (it.0, ended_ends old.lines it.0 it.1 it.2 it.3);
            } where
              stepped_spare : IsReader r → GoesOnFrom r.course d → HasSpare ended
              stepped_spare old on = record {
                ready = (spare_stays r d old.spare on.fewer on.jobs on.room).ready;
                steps = λ keep. let most : 5 * (d.jobs + r.spare) + 1 ≤ r.room =
                    (spare_stays r d old.spare on.fewer on.jobs on.room).steps keep in
                    omega (arith, same_room);
              }

      -- a step before the end
      module _ (more : is_end (Prints due) ≡ false) (d2 : Course)
          (taken : (J : Instance) (z : State) → Follows d J z → Follows d2 J (after z (Prints due))) (clock floor : ℕ)
          (at : clock ≡ d.clock)
          (floor_at : floor ≡ max r.floor (cond (waits_for_mark (Prints due)) (clock + 1) clock)) where
        -- the reading behind it
        abbrev stepped : Reading
        stepped = record r { course = d2; floor = floor; steps = steps; room = room; last = clock }

        -- it is kept of the lines with its text
        stepped_goes : Continues r stepped (text_of event)
        stepped_goes ls S z y goes =
            let new = next_goes r d due going next ls S z y goes in
            let x : State = new.0 in
            let where_to : max r.floor (floor_after x due) ≡ floor =
            ap (max r.floor) (sym (floor_is x due clock (at ∙ sym new.1.follows.clock))) ∙ sym floor_at in
            let so_far : List Event = printed_of goes.sees.steps in
            let sees : SeesWith (ls ++ text_of event ∷ []) S floor (after x (Prints due)) (so_far ++ due ∷ []) =
            subst (λ n. SeesWith (ls ++ text_of event ∷ []) S n (after x (Prints due)) (so_far ++ due ∷ [])) where_to
            (subst (λ e. SeesWith (ls ++ text_of e ∷ []) S (max r.floor (floor_after x due)) (after x (Prints due))
            (so_far ++ due ∷ [])) is_event (sees_step ls S r.floor z goes.sees due x new.2 more)) in (
              S,
              after x (Prints due),
              record {
                sees = sees.0;
                idles = ([], refl);
                follows = taken (instance_of S) x new.1.follows;
                kept = goes.kept;
                rules = goes.rules;
                items = goes.items;
                steps = steps_more r ls S z y goes stepped refl (due ∷ []) (printed_of sees.0.steps) sees.1 kept;
                refused = goes.refused;
                last = last_more r ls S z y goes stepped refl (due ∷ []) (printed_of sees.0.steps) sees.1
                    (at ∙ sym new.1.follows.clock
                    ∙ sym (next_tick (instance_of S) (session_jobs goes.sees.valid) x due new.1.follows.keeps
                    new.2.prints more));
              },
            )

        -- it goes on so
        pub stepped_took : Followed w stepped event true
        stepped_took = record {
          yes = λ _ ls reads.
              let here : (S : Session) × (z : State) × (y : State) × Goes r ls S z y =
              goes_of r ls going (subst (λ v. ReadsAhead v ls) (sym same) reads) in
              let new = stepped_goes ls here.0 here.1 here.2 here.3 in
              reads_of stepped (ls ++ text_of event ∷ []) going new.0 new.1 new.2;
          no = λ e. absurd (let clash : true ≡ false = e in cc);
          ahead = λ e. absurd (let clash : true ≡ false = e in cc);
        }

        -- what is kept behind it
        pub stepped_reader : IsReader r → GoesOnFrom r.course d2 → IsReader stepped
        stepped_reader old on =
            let stays : HasSpare (record r { course = d2 }) =
            spare_stays r d2 old.spare on.fewer on.jobs on.room in
            continued_reader r r stepped (text_of event) refl going going old (record {
              ready = stays.ready;
              steps = λ keep. let most : 5 * (d2.jobs + r.spare) + 1 ≤ r.room = stays.steps keep in
                  omega (arith, same_room);
            }) stepped_goes

-- a step whose text names nothing behind any session is taken so
pub followed_took : (w new : Reading) (e : Event) (good : Bool) → w.stage ≡ Going → Followed w new e good
    → ((S : Session) → named_item S (text_of e) ≡ None) → Took w new (text_of e) good
followed_took w new e good going it none = record {
  yes = λ is ls reads. it.yes is ls (reads_ahead w ls reads);
  no = λ is ls reads. let here : (S : Session) × (z : State) × Goes w ls S z z = here_of w ls going reads in
      (it.no is ls here.0 here.1 here.1 here.2 (none here.0), it.ahead is ls (reads_ahead w ls reads));
}
