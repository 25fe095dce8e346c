-- What the judge keeps of the lines of a trace, line by line.
use Rattle.std.proofs.Common.{◌≡◌, ℕ, ◌+◌, ◌*◌, ◌≤◌, ◌<◌, List, [], ◌∷◌, ◌++◌, length, min, sym, ap, ◌∙◌, subst, true}
use Rattle.std.proofs.Common.{arith, cond, option_and_then, Bool, false, refl, length-append, append-nil, fold}
use Rattle.std.proofs.Common.{filter_map}
use Rattle.std.specs.Option.{option_map_or}
use Rattle.dover_model.specs.declared.events.Event.{Event}
use Rattle.dover_model.specs.Common.{Instance, Declaration, most_items, most_ready, State, Session, instance_of}
use Rattle.dover_model.specs.Common.{trace_lines, PrintsNext, begins_trace, Step, printed_of, printed, IsValid}
use Rattle.dover_model.specs.Common.{tick_of_event, last_of, Item, with_item, admitted_jobs, job_of_item}
use Rattle.dover_model.specs.Common.{refused_of_item, JobFacts, Idles}
use Rattle.dover_model.specs.Verdict as model
use Rattle.dover_model.specs.declared.events.Version.{Version}
use Rattle.dover_model.proofs.valid.Limiting.{items_of_lines, lines_most}
use Rattle.dover_model.proofs.traces.TraceEnds.{trace_ends}
use Rattle.dover_model.proofs.settled.Leading.{idles_append}
use Rattle.trace_judge.specs.Reading.{HasRoom}
use Rattle.admission.specs.Kept as admission
use Rattle.trace_judge.proofs.Seeing.{sees_expects}
use Rattle.trace_judge.specs.declared.stage.TraceStage.{TraceStage}
use Rattle.trace_judge.specs.declared.stage.TraceStage.TheVariants.{Opening, Going, Ended}
use Rattle.ready_jobs.specs.Course.{Course, Follows, GoesOnFrom}
use Rattle.trace_judge.specs.Reads.{Reading, Opens, Goes, Ends, ReadsAhead, Reads, StaysAhead, HasSpare, IsReader}
use Rattle.trace_judge.specs.Reads.{IsUnchangedFor, Took, kept_steps}
use Rattle.ready_jobs.proofs.Courses.{follows_room}
use Rattle.std.proofs.lemmas.Bool.{false_from_ne_true}
use Rattle.dover_model.proofs.runs.Ending.{few_printed}
use Rattle.std.proofs.lemmas.List.Sums.{fold-append}
use Rattle.trace_judge.proofs.Continuing.{SeesWith}
use Rattle.std.proofs.lemmas.List.Elements.{filter_map-append}

-- ---- where the run has gone on

-- the same is kept for what comes next
pub unchanged_on : (old new : Reading) → new ≡ record old { course = new.course }
    → new.course.jobs ≡ old.course.jobs → IsUnchangedFor old new
unchanged_on old new same jobs =
    record { keep = ap (λ (r : Reading). r.keep) same; spare = ap (λ (r : Reading). r.spare) same; jobs = jobs }

-- ---- by the stage

-- what is read by a stage
abbrev pub AheadBy : TraceStage → Reading → List (List ℕ) → Type 0
AheadBy stage r ls = elim stage [
  | Opening ↦ Opens r ls
  | Going ↦ (S : Session) × (z : State) × (y : State) × Goes r ls S z y
  | Ended ↦ (S : Session) × Ends r ls S
]

-- the same, where the run hasn't gone on
abbrev pub HereBy : TraceStage → Reading → List (List ℕ) → Type 0
HereBy stage r ls = elim stage [
  | Opening ↦ Opens r ls
  | Going ↦ (S : Session) × (z : State) × Goes r ls S z z
  | Ended ↦ (S : Session) × Ends r ls S
]

module _ (r : Reading) (ls : List (List ℕ)) where
  -- behind the header
  pub goes_of : r.stage ≡ Going → ReadsAhead r ls → (S : Session) × (z : State) × (y : State) × Goes r ls S z y
  goes_of is reads = let there : AheadBy Going r ls = subst (λ s. AheadBy s r ls) is reads in there

  pub ahead_of : r.stage ≡ Going → (S : Session) (z y : State) → Goes r ls S z y → ReadsAhead r ls
  ahead_of is S z y goes = subst (λ s. AheadBy s r ls) (sym is) (S, z, y, goes)

  pub here_of : r.stage ≡ Going → Reads r ls → (S : Session) × (z : State) × Goes r ls S z z
  here_of is reads = let there : HereBy Going r ls = subst (λ s. HereBy s r ls) is reads in there

  pub reads_of : r.stage ≡ Going → (S : Session) (z : State) → Goes r ls S z z → Reads r ls
  reads_of is S z goes = subst (λ s. HereBy s r ls) (sym is) (S, z, goes)

  -- before it
  pub opens_of : r.stage ≡ Opening → ReadsAhead r ls → Opens r ls
  opens_of is reads = let there : AheadBy Opening r ls = subst (λ s. AheadBy s r ls) is reads in there

  -- behind the end
  pub ends_of : r.stage ≡ Ended → ReadsAhead r ls → (S : Session) × Ends r ls S
  ends_of is reads = let there : AheadBy Ended r ls = subst (λ s. AheadBy s r ls) is reads in there

  -- what is kept of lines is kept as well of a run that may have gone on
  pub reads_ahead : Reads r ls → ReadsAhead r ls
  reads_ahead reads = by_stage r.stage reads where
    by_stage : (s : TraceStage) → HereBy s r ls → AheadBy s r ls
    by_stage Opening opens = opens
    by_stage Going it = (it.0, it.1, it.1, it.2)
    by_stage Ended it = it

-- ---- lines that come next

-- the run has gone on just as far as the lines
abbrev pub GoesHere : Reading → List (List ℕ) → Type 0
GoesHere r ls = (S : Session) × (z : State) × Goes r ls S z z

-- with the line the reading goes on to the other, behind whichever lines
abbrev pub Continues : (w t : Reading) → List ℕ → Type 0
Continues w t line = (ls : List (List ℕ)) (S : Session) (z y : State) → Goes w ls S z y → GoesHere t (ls ++ line ∷ [])

module _ (w t : Reading) (line : List ℕ) where
  -- no trace goes on with the line
  pub took_none : StaysAhead w t
      → ((ls : List (List ℕ)) → Reads w ls → begins_trace (ls ++ line ∷ []) ≡ true → ⊥) → Took w t line false
  took_none ahead none = record {
    yes = λ e. absurd (let clash : false ≡ true = e in cc);
    no = λ _ ls reads. (false_from_ne_true _ (none ls reads), ahead ls (reads_ahead w ls reads));
  }

  module _ (going : w.stage ≡ Going) where
    -- behind the header
    pub goes_none : StaysAhead w t
        → ((ls : List (List ℕ)) (S : Session) (z : State) → Goes w ls S z z → begins_trace (ls ++ line ∷ []) ≡ true → ⊥)
        → Took w t line false
    goes_none ahead none = took_none ahead (λ ls reads passes.
        let here : GoesHere w ls = here_of w ls going reads in none ls here.0 here.1 here.2 passes)

    -- the trace goes on with it
    pub goes_some : ((ls : List (List ℕ)) (S : Session) (z : State) → Goes w ls S z z → Reads t (ls ++ line ∷ []))
        → Took w t line true
    goes_some more = record {
      yes = λ _ ls reads. let here : GoesHere w ls = here_of w ls going reads in more ls here.0 here.1 here.2;
      no = λ e. absurd (let clash : true ≡ false = e in cc);
    }

-- what is kept of lines to which the run has gone on
pub here_reader : (t : Reading) → t.stage ≡ Going → HasSpare t → (ls : List (List ℕ)) → GoesHere t ls → IsReader t
here_reader t going spare ls it =
    record { spare = spare; lines = ls; reads = ahead_of t ls going it.0 it.1 it.1 it.2 }

-- so it is of the lines of a reading, with one more
pub continued_reader : (r w t : Reading) (line : List ℕ) → r ≡ w → w.stage ≡ Going → t.stage ≡ Going → IsReader r
    → HasSpare t → Continues w t line → IsReader t
continued_reader r w t line same going going_t old spare more =
    let it : (S : Session) × (z : State) × (y : State) × Goes w old.lines S z y =
    goes_of w old.lines going (subst (λ v. ReadsAhead v old.lines) same old.reads) in
    here_reader t going_t spare (old.lines ++ line ∷ []) (more old.lines it.0 it.1 it.2 it.3)

-- the run has gone on silently
pub goes_along : (r : Reading) (d : Course) (ls : List (List ℕ)) (S : Session) (z y x : State) → Goes r ls S z y
    → (xs : List Step) → Idles (instance_of S).rules y xs x → Follows d (instance_of S) x
    → Goes (record r { course = d }) ls S z x
goes_along r d ls S z y x goes xs idles follows = record {
  sees = goes.sees;
  idles = (goes.idles.0 ++ xs, idles_append (instance_of S).rules goes.idles.0 xs z y x goes.idles.1 idles);
  follows = follows;
  kept = goes.kept;
  rules = goes.rules;
  items = goes.items;
  steps = goes.steps;
  refused = goes.refused;
  last = goes.last;
}

-- the steps that are kept, with more
pub kept_more : (b : Bool) (es more kept : List Event) → kept ≡ kept_steps b es
    → cond b (kept ++ more) kept ≡ kept_steps b (es ++ more)
kept_more true es more kept is = ap (λ xs. xs ++ more) is
kept_more false es more kept is = is

-- or with none
pub kept_none : (b : Bool) (kept : List Event) → kept ≡ cond b (kept ++ []) kept
kept_none true kept = sym (append-nil kept)
kept_none false kept = refl

-- no more steps are kept than there are
kept_length : (b : Bool) (es : List Event) → length (kept_steps b es) ≤ length es
kept_length true es = omega arith
kept_length false es = omega arith

-- where an item is no job, the same jobs stand
pub no_job : (kept : admission.Kept) (jobs : List JobFacts) → admission.StandsFor kept jobs
    → admission.StandsFor kept (jobs ++ [])
no_job kept jobs stands = subst (admission.StandsFor kept) (sym (append-nil jobs)) stands

module _ (r : Reading) (ls : List (List ℕ)) (S : Session) (z y : State) (goes : Goes r ls S z y) where
  -- the steps so far
  abbrev so_far : List Event
  so_far = printed_of goes.sees.steps

  -- there is room for a step, where the run of no more jobs than there is room for prints more than these
  pub room_for : HasSpare r → r.keep ≡ true → (J : Instance) → IsValid J → length so_far < length (printed J)
      → length J.jobs ≤ r.course.jobs + r.spare → length r.steps < r.room
  room_for spare keep J valid longer few =
      let room : 5 * (r.course.jobs + r.spare) + 1 ≤ r.room = spare.steps keep in
      omega (arith, longer, few, few_printed J valid, ap length goes.steps, kept_length r.keep so_far)

  -- so the steps are kept with those of a line more, and the tick of the last
  module _ (t : Reading) (keep : t.keep ≡ r.keep) (es all : List Event) (are : all ≡ so_far ++ es) where
    pub steps_more : t.steps ≡ cond r.keep (r.steps ++ es) r.steps → t.steps ≡ kept_steps t.keep all
    steps_more steps = steps ∙ kept_more r.keep so_far es r.steps goes.steps
        ∙ ap (λ b. kept_steps b (so_far ++ es)) (sym keep) ∙ ap (kept_steps t.keep) (sym are)

    pub last_more : t.last ≡ fold (λ tick e. tick_of_event e) r.last es → t.last ≡ last_of all
    last_more last = last ∙ ap (λ n. fold (λ tick e. tick_of_event e) n es) goes.last
        ∙ sym (fold-append (λ tick e. tick_of_event e) 0 so_far es) ∙ ap last_of (sym are)

  -- an item more, and what is printed with it
  module _ (x : Item) (t : Reading) (more : List (List ℕ)) (u : State) (es : List Event)
      (sees : SeesWith more (with_item S x) t.floor u (so_far ++ es))
      (follows : Follows t.course (instance_of (with_item S x)) u)
      (stands : (jobs : List JobFacts) → admission.StandsFor r.kept jobs
      → admission.StandsFor t.kept (jobs ++ filter_map job_of_item (x ∷ [])))
      (rules : t.kept.rules ≡ r.kept.rules) (items : t.items ≡ r.items + 1) (keep : t.keep ≡ r.keep)
      (steps : t.steps ≡ cond r.keep (r.steps ++ es) r.steps)
      (refused : t.refused ≡ r.refused + length (filter_map refused_of_item (x ∷ [])))
      (last : t.last ≡ fold (λ tick e. tick_of_event e) r.last es) where
    -- it is kept of the lines with its own
    pub item_more : Goes t more (with_item S x) u u
    item_more = record {
      sees = sees.0;
      idles = ([], refl);
      follows = follows;
      kept = subst (admission.StandsFor t.kept) (sym (filter_map-append job_of_item S.items (x ∷ [])))
          (stands (admitted_jobs S.items) goes.kept);
      rules = rules ∙ goes.rules;
      items = omega (arith, items, goes.items, length-append S.items (x ∷ []));
      steps = steps_more t keep es (printed_of sees.0.steps) sees.1 steps;
      refused = omega (
        arith,
        refused,
        goes.refused,
        ap length (filter_map-append refused_of_item S.items (x ∷ [])),
        length-append (filter_map refused_of_item S.items) (filter_map refused_of_item (x ∷ [])),
      );
      last = last_more t keep es (printed_of sees.0.steps) sees.1 last;
    }

-- items are few
pub few_items : (v : Version) (n : ℕ) → n < most_items v → n < 16_000_000_000
few_items v n few = omega (arith, few, items_of_lines v, lines_most v)

module _ (r : Reading) (ls : List (List ℕ)) (S : Session) (z y : State) (goes : Goes r ls S z y) where
  -- the version of the session is the one kept
  pub version_kept : S.rules.version ≡ r.kept.rules.version
  version_kept = ap (λ (k : Declaration). k.version) (sym goes.rules)

  -- the session has room for an item more where as many as are kept leave it
  pub room_left : r.items < most_items r.kept.rules.version → HasRoom S
  room_left few = omega (arith, few, goes.items, ap most_items version_kept)

  -- and only then
  pub room_kept : HasRoom S → r.items < most_items r.kept.rules.version
  room_kept room = omega (arith, room, goes.items, ap most_items version_kept)

-- ---- room

-- the reading with other room
abbrev pub with_room : Reading → (ready spare room : ℕ) → Reading
with_room r ready spare room = record r { course = record r.course { room = ready }; spare = spare; room = room }

module _ (r : Reading) (ready spare room : ℕ) (ls : List (List ℕ)) where
  -- it is kept of the same lines, before the header
  pub room_opens : Opens r ls → Opens (with_room r ready spare room) ls
  room_opens it = record {
    lines = it.lines;
    course = ap (λ (c : Course). record c { room = ready }) it.course;
    dense = it.dense;
    items = it.items;
    floor = it.floor;
    steps = it.steps;
    refused = it.refused;
    last = it.last;
  }

  -- behind it
  pub room_goes : (S : Session) (z y : State) → Goes r ls S z y → Goes (with_room r ready spare room) ls S z y
  room_goes S z y it = record {
    sees = it.sees;
    idles = it.idles;
    follows = follows_room r.course ready (instance_of S) y it.follows;
    kept = it.kept;
    rules = it.rules;
    items = it.items;
    steps = it.steps;
    refused = it.refused;
    last = it.last;
  }

  -- and behind the end
  pub room_ends : (S : Session) → Ends r ls S → Ends (with_room r ready spare room) ls S
  room_ends S it = record {
    valid = it.valid;
    lines = it.lines;
    rules = it.rules;
    value = it.value;
    jobs = it.jobs;
    steps = it.steps;
    refused = it.refused;
  }

  pub room_ahead : ReadsAhead r ls → ReadsAhead (with_room r ready spare room) ls
  room_ahead reads = by_stage r.stage reads where
    by_stage : (s : TraceStage) → AheadBy s r ls → AheadBy s (with_room r ready spare room) ls
    by_stage Opening it = room_opens it
    by_stage Going it = (it.0, it.1, it.2, room_goes it.0 it.1 it.2 it.3)
    by_stage Ended it = (it.0, room_ends it.0 it.1)

-- ---- what is due

-- behind the end nothing is
pub ended_due : (r : Reading) (ls : List (List ℕ)) (S : Session) → Ends r ls S → model.expected_after ls ≡ model.Nothing
ended_due r ls S ends = ap model.expected_after ends.lines
    ∙ ap (λ b. cond b model.Nothing
    (option_map_or model.Step (option_and_then (model.step_after (length (tail (trace_lines S))))
    (model.named_session (trace_lines S))) model.Nothing)) (trace_ends S ends.valid) where
      tail : {X : Type 0} → List X → List X
      tail [] = []
      tail (x ∷ xs) = xs

module _ (r : Reading) (d : Course) (e : Event) (going : r.stage ≡ Going)
    (next : (J : Instance) (z : State) → Follows r.course J z → (y : State) × Follows d J y
    × PrintsNext J.rules z e y) where
  -- the step that is printed next, and the run that has gone on to it
  pub next_goes : (ls : List (List ℕ)) (S : Session) (z y : State) → Goes r ls S z y
      → (x : State) × Goes (record r { course = d }) ls S z x × PrintsNext (instance_of S).rules z e x
  next_goes ls S z y goes =
      let it : (x : State) × Follows d (instance_of S) x × PrintsNext (instance_of S).rules y e x =
      next (instance_of S) y goes.follows in
      let on : Goes (record r { course = d }) ls S z it.0 =
      goes_along r d ls S z y it.0 goes it.2.steps it.2.idles it.1 in
      (it.0, on, record { steps = on.idles.0; idles = on.idles.1; prints = it.2.prints })

  -- it stays kept
  pub next_ahead : (ls : List (List ℕ)) → ReadsAhead r ls → ReadsAhead (record r { course = d }) ls
  next_ahead ls reads =
      let old : (S : Session) × (z : State) × (y : State) × Goes r ls S z y = goes_of r ls going reads in
      let new : (x : State) × Goes (record r { course = d }) ls old.0 old.1 x
      × PrintsNext (instance_of old.0).rules old.1 e x =
      next_goes ls old.0 old.1 old.2 old.3 in
      ahead_of (record r { course = d }) ls going old.0 old.1 new.0 new.1

  -- it is due
  pub next_due : (ls : List (List ℕ)) → ReadsAhead r ls → model.expected_after ls ≡ model.Step e
  next_due ls reads =
      let old : (S : Session) × (z : State) × (y : State) × Goes r ls S z y = goes_of r ls going reads in
      let new : (x : State) × Goes (record r { course = d }) ls old.0 old.1 x
      × PrintsNext (instance_of old.0).rules old.1 e x =
      next_goes ls old.0 old.1 old.2 old.3 in
      sees_expects ls old.0 r.floor old.1 old.3.sees e new.0 new.2

-- the same of a reading under another name
module _ (r w : Reading) (same : r ≡ w) (d : Course) (e : Event) (going : r.stage ≡ Going)
    (next : (J : Instance) (z : State) → Follows r.course J z → (y : State) × Follows d J y
    × PrintsNext J.rules z e y) where
  pub named_ahead : StaysAhead w (record r { course = d })
  named_ahead ls reads = next_ahead r d e going next ls (subst (λ v. ReadsAhead v ls) (sym same) reads)

  pub named_due : (ls : List (List ℕ)) → ReadsAhead w ls → model.expected_after ls ≡ model.Step e
  named_due ls reads = next_due r d e going next ls (subst (λ v. ReadsAhead v ls) (sym same) reads)

-- room stays where the ready jobs grow no more
pub spare_stays : (r : Reading) (d : Course) → HasSpare r → length d.ready ≤ length r.course.ready
    → d.jobs ≡ r.course.jobs → d.room ≡ r.course.room → HasSpare (record r { course = d })
spare_stays r d spare fewer jobs room = record {
  ready = omega (arith, spare.ready, fewer, room);
  steps = λ keep. let old : 5 * (r.course.jobs + r.spare) + 1 ≤ r.room = spare.steps keep in omega (arith, jobs);
}

-- what is kept, with the run gone on
pub next_reader : (r : Reading) → IsReader r → (d : Course) (e : Event) → r.stage ≡ Going
    → ((J : Instance) (z : State) → Follows r.course J z → (y : State) × Follows d J y × PrintsNext J.rules z e y)
    → GoesOnFrom r.course d
    → IsReader (record r { course = d })
next_reader r old d e going next on = record {
  spare = spare_stays r d old.spare on.fewer on.jobs on.room;
  lines = old.lines;
  reads = next_ahead r d e going next old.lines old.reads;
}

-- a course that is the other, but for its clock and its ready jobs
pub kept_on : (c d : Course) → d ≡ record c { clock = d.clock; ready = d.ready } → length d.ready ≡ length c.ready
    → GoesOnFrom c d
kept_on c d kept fewer =
    record {
      rules = ap (λ (b : Course). b.rules) kept;
      fewer = omega (arith, fewer);
      jobs =
          ap (λ (b : Course). b.jobs) kept;
      room = ap (λ (b : Course). b.room) kept;
    }

-- what is kept, with other room
pub reserve_reader : (r : Reading) → IsReader r → (d : Course) (steps : List Event) (spare room : ℕ)
    → d ≡ record r.course { room = d.room }
    → steps ≡ r.steps → min (length r.course.ready + spare) most_ready ≤ d.room
    → (r.keep ≡ true → 5 * (r.course.jobs + spare) + 1 ≤ room)
    → IsReader (record r { course = d; steps = steps; spare = spare; room = room })
reserve_reader r old d steps spare room same unchanged ready all =
    subst (λ es. IsReader (record r { course = d; steps = es; spare = spare; room = room })) (sym unchanged)
    (subst (λ c. IsReader (record r { course = c; spare = spare; room = room })) (sym same) (record {
      spare = record { ready = ready; steps = all };
      lines = old.lines;
      reads = room_ahead r d.room spare room old.lines old.reads;
    }))

-- and one that goes on to a printed step and takes it
pub followed_on : (c d : Course) → d ≡ record c {
  clock = d.clock;
  pressed = d.pressed;
  ready = d.ready;
  done = d.done;
}
    → length d.ready ≤ length c.ready → GoesOnFrom c d
followed_on c d kept fewer = record {
  rules = ap (λ (b : Course). b.rules) kept;
  fewer = fewer;
  jobs = ap (λ (b : Course). b.jobs) kept;
  room = ap (λ (b : Course). b.room) kept;
}
