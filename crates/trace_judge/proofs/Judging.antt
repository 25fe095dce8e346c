-- What the judge finds of a text, byte by byte.
use Rattle.std.proofs.Common.{◌≡◌, ℕ, suc, ◌+◌, ◌-◌, ◌*◌, ◌≤◌, ◌<◌, max, min, List, [], ◌∷◌, ◌++◌, length}
use Rattle.std.proofs.Common.{length-append, map, take, drop, refl, sym, ap, ◌∙◌, subst, Bool, true, false, cond, ◌||◌}
use Rattle.std.proofs.Common.{◌&&◌, arith, take-append-drop, nat_lt, ◌==◌, Result, Ok, Err, OnOk, OnErr, IsErr, IfOk}
use Rattle.std.proofs.Common.{filter, lt-ltb, append_assoc}
use Rattle.std.proofs.lemmas.List.{length-map}
use Rattle.std.proofs.lemmas.List.Elements.{filter-append}
use Rattle.dover_model.specs.declared.Memory.{Memory}
use Rattle.dover_model.specs.declared.events.Event.{Event}
use Rattle.dover_model.specs.Common.{Declaration, whole_lines, rest_of, is_too_long, cut, printed, completed_value}
use Rattle.dover_model.specs.Common.{Item, JobItem, RefusedItem, FinishItem, Session, instance_of, admitted_jobs}
use Rattle.dover_model.specs.Common.{IsValidSession, Printed, Refuses, Placed, put_in, places_after, places_of}
use Rattle.dover_model.specs.Common.{lines_among, text_of_line, trace_lines, bound, Fraction}
use Rattle.dover_model.specs.Verdict as model
use Rattle.dover_model.proofs.lists.Beginnings.{begins_length}
use Rattle.dover_model.proofs.texts.Cuts.{onto, cut_append}
use Rattle.dover_model.proofs.bound.BoundLaws.{bound as none_worth_more, observed_bound}
use Rattle.dover_model.proofs.runs.Ending.{few_printed}
use Rattle.dover_model.proofs.runs.Honest.{observed_honest, observed_all}
use Rattle.dover_model.proofs.valid.Limiting.{items_of_lines, jobs_most, lines_most}
use Rattle.dover_model.proofs.traces.Named.{beginnings_pass}
use Rattle.dover_model.proofs.runs.Runs.{none_lost, all_value}
use Rattle.dover_model.proofs.lists.Tests.{never}
use Rattle.dover_model.proofs.traces.TraceEnds.{trace_ends}
use Rattle.dover_model.proofs.traces.WrongStays.{begun, Starts, wrong_verdict_stays}
use Rattle.line_text.specs.Cutting as cutting
use Rattle.line_text.specs.Cutting.{Cutting, with_byte, after_byte, goes_on, most_count, HasCut}
use Rattle.line_text.specs.declared.cutting.ByteEffect.{ByteEffect}
use Rattle.line_text.specs.declared.cutting.ByteEffect.TheVariants.{More, Line, TooLong}
use Rattle.dover_model.proofs.sessions.Former.{no_finishes}
use Rattle.trace_judge.proofs.Texts.{good_text, wrong_rest, accepted_text, short_text}
use Rattle.trace_judge.proofs.Seeing.{sees_begins, sees_not_ended}
use Rattle.trace_judge.specs.declared.stage.TraceStage.{TraceStage}
use Rattle.trace_judge.specs.declared.stage.TraceStage.TheVariants.{Opening, Going, Ended}
use Rattle.trace_judge.specs.declared.verdict.Expected.{Expected}
use Rattle.trace_judge.specs.declared.verdict.Verdict.{Verdict}
use Rattle.trace_judge.specs.declared.verdict.Verdict.TheVariants.{Accepted}
use Rattle.dover_model.specs.declared.events.Version.{Version}
use Rattle.trace_judge.specs.declared.judge.Found.{Found}
use Rattle.trace_judge.specs.declared.judge.Found.TheVariants.{Good, Wrong as Bad, NoMemory}
use Rattle.trace_judge.specs.Reads.{Reading, expected_of, Ends, Reads, is_job_line, job_lines_in, kept_steps}
use Rattle.trace_judge.specs.Judging.{jobs_named, steps_told, IsGood, IsCut, StandsFor, Fed, IsOverfed, Tells, IsEarned}
use Rattle.trace_judge.specs.Judging.{Judged, is_wrong}
use Rattle.trace_judge.proofs.Readings.{HereBy, ends_of, reads_ahead, with_room, room_opens, room_goes, room_ends}
use Rattle.dover_model.proofs.sessions.SessionParts.{session_parts, session_jobs}
use Rattle.dover_model.proofs.valid.ValidParts.{valid_parts}

-- ---- a trace has few lines

-- refused lines that are put in
length_put_in : (ps : List Placed) (before : ℕ) (es : List Event) → length (put_in ps before es) ≡ length ps + length es
length_put_in [] before es = omega (arith, length-map es Printed)
length_put_in (p ∷ ps) before es =
    let n : ℕ = p.place - before in
    let parts : length (take n es) + length (drop n es) ≡ length es = sym (length-append (take n es) (drop n es))
    ∙ ap length (take-append-drop n es) in
    omega (
      arith,
      length-append (map Printed (take n es)) (Refuses p.refused ∷ put_in ps (max before p.place) (drop n es)),
      length-map (take n es) Printed,
      length_put_in ps (max before p.place) (drop n es),
    )

-- no more of them than items
few_places : (rules : Declaration) (before items : List Item) → length (places_after rules before items) ≤ length items
few_places rules before [] = omega arith
few_places rules before (JobItem j ∷ items) = omega (arith, few_places rules (before ++ JobItem j ∷ []) items)
few_places rules before (RefusedItem r ∷ items) = omega (arith, few_places rules (before ++ RefusedItem r ∷ []) items)
few_places rules before (FinishItem f ∷ items) = omega (arith, few_places rules (before ++ FinishItem f ∷ []) items)

-- lines that begin a trace
pub few_lines : (ls : List (List ℕ)) → model.begins_trace ls ≡ true → length ls ≤ 40_000_000_000
few_lines [] passes = omega arith
few_lines (l ∷ ls) passes =
    let it : Starts (l ∷ ls) = begun l ls passes in
    let S : Session = it.session in
    let steps : length (printed (instance_of S)) ≤ 5 * length (admitted_jobs S.items) + 1 =
    few_printed (instance_of S) (session_jobs it.valid) in
    let whole : length (trace_lines S) ≡ suc (length (lines_among S (printed (instance_of S)))) =
    ap suc (length-map (lines_among S (printed (instance_of S))) text_of_line) in
    omega (
      arith,
      begins_length (l ∷ ls) (trace_lines S) it.begins,
      whole,
      steps,
      length_put_in (places_of S) 0 (printed (instance_of S)),
      few_places S.rules [] S.items,
      (session_parts it.valid).count,
      (valid_parts (session_jobs it.valid)).count,
      jobs_most S.rules.version,
      items_of_lines S.rules.version,
      lines_most S.rules.version,
    )

-- ---- by the stage

-- the trace has ended
abbrev pub is_ended : TraceStage → Bool
is_ended Ended = true
is_ended _ = false

-- it hasn't
pub not_ended : (s : TraceStage) → (s ≡ Ended → ⊥) → is_ended s ≡ false
not_ended Ended other = absurd (other refl)
not_ended _ other = refl

module _ (r : Reading) (ls : List (List ℕ)) (reads : Reads r ls) where
  -- lines that are read begin a trace
  pub reads_begins : model.begins_trace ls ≡ true
  reads_begins = by_stage r.stage reads where
    by_stage : (s : TraceStage) → HereBy s r ls → model.begins_trace ls ≡ true
    by_stage Opening it = ap model.begins_trace it.lines
    by_stage Going it = sees_begins ls it.0 r.floor it.1 it.2.sees
    by_stage Ended it = beginnings_pass it.0 ls it.1.valid (
      [],
      sym (append_nothing ls
          ∙ it.1.lines),
    ) where
      append_nothing : (xs : List (List ℕ)) → xs ++ [] ≡ xs
      append_nothing [] = refl
      append_nothing (x ∷ xs) = ap (λ ys. x ∷ ys) (append_nothing xs)

  -- and end where the stage says so
  pub reads_ends : model.ends_with_end ls ≡ is_ended r.stage
  reads_ends = by_stage r.stage reads where
    by_stage : (s : TraceStage) → HereBy s r ls → model.ends_with_end ls ≡ is_ended s
    by_stage Opening it = ap model.ends_with_end it.lines
    by_stage Going it = sees_not_ended ls it.0 r.floor it.1 it.2.sees
    by_stage Ended it = ap model.ends_with_end it.1.lines ∙ trace_ends it.0 it.1.valid

  -- there are few of them
  pub reads_few : length ls ≤ 40_000_000_000
  reads_few = few_lines ls reads_begins

-- ---- the rest

-- either way
or_true : (b : Bool) → (b || true) ≡ true
or_true true = refl
or_true false = refl

and_false : (b : Bool) → (b && false) ≡ false
and_false true = refl
and_false false = refl

module _ (r : Reading) (text : List ℕ) (reads : Reads r (whole_lines text)) where
  -- no rest counts where the trace goes on
  pub rest_open : is_ended r.stage ≡ false → is_too_long (rest_of text) ≡ false → model.rest_counts text ≡ false
  rest_open on short = ap (λ b. b || (nat_lt 0 (length (rest_of text)) && model.ends_with_end (whole_lines text))) short
      ∙ ap (λ b. nat_lt 0 (length (rest_of text)) && b) (reads_ends r (whole_lines text) reads ∙ on)
      ∙ and_false (nat_lt 0 (length (rest_of text)))

  -- behind a trace that has ended a byte is wrong
  pub rest_behind : is_ended r.stage ≡ true → 0 < length (rest_of text)
      → model.verdict text ≡ model.Wrong (suc (length (whole_lines text))) (model.expected_after (whole_lines text))
  rest_behind ended some = wrong_rest text
      (ap (λ b. is_too_long (rest_of text) || (b && model.ends_with_end (whole_lines text)))
      (lt-ltb 0 (length (rest_of text)) some)
      ∙ ap (λ b. is_too_long (rest_of text) || b) (reads_ends r (whole_lines text) reads ∙ ended)
      ∙ or_true (is_too_long (rest_of text)))
      (reads_begins r (whole_lines text) reads)

  -- and a rest that is too long is wrong
  pub rest_long : is_too_long (rest_of text) ≡ true
      → model.verdict text ≡ model.Wrong (suc (length (whole_lines text))) (model.expected_after (whole_lines text))
  rest_long long = wrong_rest text
      (ap (λ b. b || (nat_lt 0 (length (rest_of text)) && model.ends_with_end (whole_lines text))) long)
      (reads_begins r (whole_lines text) reads)

  -- a text that hasn't ended is short
  pub reads_short : is_ended r.stage ≡ false → model.rest_counts text ≡ false
      → model.verdict text ≡ model.Short (length (whole_lines text))
  reads_short on none = good_text text (reads_begins r (whole_lines text) reads) none
      ∙ short_text text (reads_ends r (whole_lines text) reads ∙ on)

  -- nothing stands behind a trace that has ended
  rest_none : is_ended r.stage ≡ true → model.rest_counts text ≡ false → rest_of text ≡ []
  rest_none ended none = by_rest (rest_of text) refl where
    by_rest : (rest : List ℕ) → rest_of text ≡ rest → rest ≡ []
    by_rest [] is = refl
    by_rest (b ∷ bs) is = never
        (sym none ∙ ap (λ t. is_too_long (rest_of text) || (t && model.ends_with_end (whole_lines text)))
        (lt-ltb 0 (length (rest_of text)) (omega (arith, ap length is)))
        ∙ ap (λ t. is_too_long (rest_of text) || t) (reads_ends r (whole_lines text) reads ∙ ended)
        ∙ or_true (is_too_long (rest_of text)))

  -- it is accepted
  pub reads_accepted : is_ended r.stage ≡ true → model.rest_counts text ≡ false → (S : Session)
      → Ends r (whole_lines text) S
      → model.verdict text ≡ model.Accepted S
  reads_accepted ended none S ends = good_text text (reads_begins r (whole_lines text) reads) none
      ∙ accepted_text text S ends.valid ends.lines (rest_none ended none)

-- ---- the lines that name jobs

-- those of a text, and of more behind it
pub named_more : (text piece : List ℕ) → jobs_named text ≤ jobs_named (text ++ piece)
named_more text piece =
    let more : List (List ℕ) = (onto (rest_of text) (cut piece)).0 in
    let whole : whole_lines (text ++ piece) ≡ whole_lines text ++ more =
    ap (λ (c : List (List ℕ) × List ℕ). c.0) (cut_append text piece) in
    omega (
      arith,
      ap (λ ls. length (filter is_job_line ls)) whole ∙ ap length (filter-append is_job_line (whole_lines text) more)
          ∙ length-append (filter is_job_line (whole_lines text)) (filter is_job_line more),
    )

-- one line more
named_line : (ls : List (List ℕ)) (l : List ℕ)
    → length (filter is_job_line (ls ++ l ∷ [])) ≡ length (filter is_job_line ls) + job_lines_in l
named_line ls l = ap length (filter-append is_job_line ls (l ∷ []))
    ∙ length-append (filter is_job_line ls) (filter is_job_line (l ∷ []))
    ∙ ap (λ n. length (filter is_job_line ls) + n) (by_test (is_job_line l)) where
      by_test : (b : Bool) → length (cond b (l ∷ []) []) ≡ cond b 1 0
      by_test true = refl
      by_test false = refl

-- a line that has ended may name a job more
pub named_whole : (line before text : List ℕ) → HasCut Line line before text
    → jobs_named text ≡ jobs_named before + job_lines_in line
named_whole line before text parts = ap (λ ls. length (filter is_job_line ls)) parts.0
    ∙ named_line (whole_lines before) line

-- ---- what was found

-- what the judge stands for by what it found
abbrev pub StandsBy : Found → Judged → List ℕ → Type 0
StandsBy found j text = elim found [
  | Good ↦ IsGood j text
  | Bad line due ↦ model.verdict text ≡ model.Wrong line (expected_of due)
  | NoMemory ↦ ⊥
]

-- no line is wrong
pub good_stands : (j : Judged) (text : List ℕ) → j.found ≡ Good → IsGood j text → StandsFor j text
good_stands j text is good = subst (λ f. StandsBy f j text) (sym is) good

pub stands_good : (j : Judged) (text : List ℕ) → j.found ≡ Good → StandsFor j text → IsGood j text
stands_good j text is stands = let there : StandsBy Good j text = subst (λ f. StandsBy f j text) is stands in there

-- and it stands for none where memory was lacking
pub stands_not : (j : Judged) (text : List ℕ) → j.found ≡ NoMemory → StandsFor j text → ⊥
stands_not j text is stands = let there : StandsBy NoMemory j text = subst (λ f. StandsBy f j text) is stands in there

-- no rest counts behind a line feed
pub rest_empty : (text : List ℕ) → rest_of text ≡ [] → model.rest_counts text ≡ false
rest_empty text empty = ap
    (λ rest. is_too_long rest || (nat_lt 0 (length rest) && model.ends_with_end (whole_lines text))) empty

-- ---- a byte more

-- neither is so
left_false : (a b : Bool) → (a || b) ≡ false → a ≡ false
left_false false b none = refl
left_false true b none = never (sym none)

-- the byte is cut from a text of which no line is wrong
pub is_cut : (j : Judged) (l : Cutting) (s : ByteEffect) (byte : ℕ) (text : List ℕ) → IsGood j text
    → ((bytes : List ℕ) → cutting.StandsFor j.lines bytes → cutting.StandsFor l (with_byte bytes byte)) → s ≡ l.last
    → ((bytes : List ℕ) → cutting.StandsFor j.lines bytes → is_too_long (rest_of bytes) ≡ false
    → HasCut s l.line bytes (bytes ++ byte ∷ []))
    → IsCut (record j { lines = l }) s text (text ++ byte ∷ [])
is_cut j l s byte text good stands last parts =
    let short : is_too_long (rest_of text) ≡ false =
    left_false (is_too_long (rest_of text))
    (nat_lt 0 (length (rest_of text)) && model.ends_with_end (whole_lines text)) good.counts in
    record {
      cut = subst (cutting.StandsFor l) (ap (λ b. cond b text (text ++ byte ∷ [])) short) (stands text good.cut);
      last = sym last;
      parts = parts text good.cut short;
      reads = good.reads;
    }

-- so may the line that is kept, where it has ended
pub named_ended : (j : Judged) (before text : List ℕ) → IsCut j Line before text
    → jobs_named text ≡ jobs_named before + job_lines_in j.lines.line
named_ended j before text it = named_whole j.lines.line before text it.parts

-- what is kept after the byte, by whether it is a line feed
abbrev byte_keeps : ℕ → ℕ → List ℕ → Bool → Cutting
byte_keeps byte count line b = cond b (record { line = line; count = min (count + 1) most_count; last = Line })
    (record { line = line ++ byte ∷ []; count = count; last = cond (is_too_long (line ++ byte ∷ [])) TooLong More })

-- and by what the last byte made of the line
abbrev keeps_by : Cutting → ℕ → ByteEffect → Cutting
keeps_by c byte last = elim last [ More ↦ goes_on c.count c.line byte | Line ↦ goes_on c.count [] byte | TooLong ↦ c ]

-- the byte goes on with the line
pub some_line : (c : Cutting) (byte : ℕ) → More ≡ (after_byte c byte).last → 0 < length (after_byte c byte).line
some_line c byte more = by_last c.last refl more where
  by_byte : (count : ℕ) (line : List ℕ) (b : Bool) → More ≡ (byte_keeps byte count line b).last
      → 0 < length (byte_keeps byte count line b).line
  by_byte count line true ended = absurd (let clash : More ≡ Line = ended in cc)
  by_byte count line false on = omega (arith, length-append line (byte ∷ []))

  by_last : (s : ByteEffect) → c.last ≡ s → More ≡ (keeps_by c byte s).last → 0 < length (keeps_by c byte s).line
  by_last More is on = by_byte c.count c.line (byte == 10) on
  by_last Line is on = by_byte c.count [] (byte == 10) on
  by_last TooLong is on = absurd (let clash : More ≡ TooLong = on ∙ is in cc)

-- ---- answers

-- what holds of an answer holds of it in other words
pub ok_onto : {P Q : Type 0} (r : Result Unit Memory) → OnOk r P → (P → Q) → OnOk r Q
ok_onto (Ok x) p f = f p
ok_onto (Err e) p f = p

pub err_onto : {P Q : Type 0} (r : Result Unit Memory) → OnErr r P → (P → Q) → OnErr r Q
err_onto (Ok x) p f = p
err_onto (Err e) p f = f p

pub err_of : {A P : Type 0} (r : Result A Memory) → IsErr r → P → OnErr r P
err_of (Ok x) is p = never is
err_of (Err e) is p = p

-- what is said of an answer says nothing where there is none
pub none_of : {A : Type 0} (P : A → Type 0) (r : Result A Memory) → IsErr r → IfOk r P
none_of P (Ok x) is = never is
none_of P (Err e) is = tt

-- ---- texts that go on

-- a wrong verdict stays
pub wrong_fed : (j : Judged) (line : ℕ) (due : Expected) (piece : List ℕ) → j.found ≡ Bad line due → Fed j j piece
wrong_fed j line due piece is = record {
  stands = λ text stands.
      let wrong : StandsBy (Bad line due) j text = subst (λ f. StandsBy f j text) is stands in
      subst (λ f. StandsBy f j (text ++ piece)) (sym is)
      (wrong_verdict_stays text piece line (expected_of due) wrong);
  spare = λ text stands. omega (arith, named_more text piece);
  keep = refl;
}

-- one piece and another
pub fed_on : (a b c : Judged) (piece more : List ℕ) → Fed a b piece → Fed b c more → Fed a c (piece ++ more)
fed_on a b c piece more first next = record {
  stands = λ text stands. subst (StandsFor c) (append_assoc text piece more)
      (next.stands (text ++ piece) (first.stands text stands));
  spare = λ text stands. omega (
    arith,
    first.spare text stands,
    next.spare (text ++ piece) (first.stands text stands),
    ap jobs_named (append_assoc text piece more),
  );
  keep = next.keep ∙ first.keep;
}

-- too much behind a piece
pub overfed_on : (a b : Judged) (piece more : List ℕ) → Fed a b piece → IsOverfed b more → IsOverfed a (piece ++ more)
overfed_on a b piece more first over text stands = omega (
  arith,
  first.spare text stands,
  over (text ++ piece) (first.stands text stands),
  ap jobs_named (append_assoc text piece more),
)

-- and with more behind it
pub overfed_more : (a : Judged) (piece more : List ℕ) → IsOverfed a piece → IsOverfed a (piece ++ more)
overfed_more a piece more over text stands = omega (
  arith,
  over text stands,
  named_more (text ++ piece) more,
  ap jobs_named (append_assoc text piece more),
)

-- ---- what is accepted

-- the verdict of a session
pub same_verdict : (S : Session) (k : Fraction) (v : Version) (value most jobs : ℕ) → k ≡ S.rules.ratio
    → v ≡ S.rules.version
    → value ≡ completed_value (instance_of S) → most ≡ bound k value → jobs ≡ length (admitted_jobs S.items)
    → Accepted k v value most jobs ≡ Accepted S.rules.ratio S.rules.version (completed_value (instance_of S))
    (bound S.rules.ratio (completed_value (instance_of S))) (length (admitted_jobs S.items))
same_verdict S k v value most jobs ratio version worth within count =
    ap (λ x. Accepted x v value most jobs) ratio ∙ ap (λ x. Accepted S.rules.ratio x value most jobs) version
    ∙ ap (λ x. Accepted S.rules.ratio S.rules.version x most jobs) worth
    ∙ ap (λ x. Accepted S.rules.ratio S.rules.version (completed_value (instance_of S)) x jobs)
    (within ∙ ap (λ x. bound x value) ratio ∙ ap (bound S.rules.ratio) worth)
    ∙ ap (Accepted S.rules.ratio S.rules.version (completed_value (instance_of S))
    (bound S.rules.ratio (completed_value (instance_of S)))) count

-- ---- the verdict

-- no line of a text that is good is wrong
pub good_not_wrong : (j : Judged) (text : List ℕ) → IsGood j text → is_wrong (model.verdict text) ≡ false
good_not_wrong j text good = by_stage j.reader.stage refl where
  by_stage : (s : TraceStage) → j.reader.stage ≡ s → is_wrong (model.verdict text) ≡ false
  by_stage Ended is =
      let end = ends_of j.reader (whole_lines text) is (reads_ahead j.reader (whole_lines text) good.reads) in
      ap is_wrong (reads_accepted j.reader text good.reads (ap is_ended is) good.counts end.0 end.1)
  by_stage _ is = ap is_wrong (reads_short j.reader text good.reads (ap is_ended is) good.counts)

-- nor of one that the judge stands for, where it found no wrong line
pub stands_not_wrong : (j : Judged) (text : List ℕ) → StandsFor j text
    → ((line : ℕ) (due : Expected) → j.found ≡ Bad line due → ⊥)
    → is_wrong (model.verdict text) ≡ false
stands_not_wrong j text stands none = by_found j.found refl stands where
  by_found : (f : Found) → j.found ≡ f → StandsBy f j text → is_wrong (model.verdict text) ≡ false
  by_found Good is good = good_not_wrong j text good
  by_found (Bad line due) is wrong = absurd (none line due is)
  by_found NoMemory is there = absurd there

-- behind an accepted text stands the end of its session
pub ends_accepted : (j : Judged) (text : List ℕ) → StandsFor j text → (S : Session)
    → model.verdict text ≡ model.Accepted S → Ends j.reader (whole_lines text) S
ends_accepted j text stands S told = by_found j.found refl stands where
  by_stage : IsGood j text → (s : TraceStage) → j.reader.stage ≡ s → Ends j.reader (whole_lines text) S
  by_stage good Ended is =
      let end = ends_of j.reader (whole_lines text) is (reads_ahead j.reader (whole_lines text) good.reads) in
      let same : model.Accepted end.0 ≡ model.Accepted S =
      sym (reads_accepted j.reader text good.reads (ap is_ended is) good.counts end.0 end.1) ∙ told in
      let one : end.0 ≡ S = cc in
      subst (Ends j.reader (whole_lines text)) one end.1
  by_stage good _ is = absurd (let clash : model.Short (length (whole_lines text)) ≡ model.Accepted S =
      sym (reads_short j.reader text good.reads (ap is_ended is) good.counts) ∙ told in cc)

  by_found : (f : Found) → j.found ≡ f → StandsBy f j text → Ends j.reader (whole_lines text) S
  by_found Good is good = by_stage good j.reader.stage refl
  by_found (Bad line due) is wrong =
      absurd (let clash : model.Wrong line (expected_of due) ≡ model.Accepted S = sym wrong ∙ told in cc)
  by_found NoMemory is there = absurd there

-- its steps are those that were kept
pub steps_accepted : (j : Judged) (text : List ℕ) → StandsFor j text → (S : Session)
    → model.verdict text ≡ model.Accepted S
    → j.reader.steps ≡ kept_steps j.reader.keep (printed (instance_of S))
steps_accepted j text stands S told = (ends_accepted j text stands S told).steps

-- what is left of the steps
pub steps_left : (j : Judged) (text : List ℕ) → StandsFor j text → (v : Verdict) → Tells v text
    → ((k : Fraction) (version : Version) (value most jobs : ℕ) → v ≡ Accepted k version value most jobs → ⊥)
    → [] ≡ steps_told j.reader.keep (model.verdict text)
steps_left j text stands (Accepted k version value most jobs) tells other =
    absurd (other k version value most jobs refl)
steps_left j text stands _ tells other = ap (steps_told j.reader.keep) (sym tells)

-- room for more jobs changes nothing
pub room_stands : (j : Judged) (ready spare room : ℕ) (text : List ℕ) → StandsFor j text
    → StandsFor (record j { reader = with_room j.reader ready spare room }) text
room_stands j ready spare room text stands = by_found j.found stands where
  by_stage : (s : TraceStage) → HereBy s j.reader (whole_lines text)
      → HereBy s (with_room j.reader ready spare room) (whole_lines text)
  by_stage Opening it = room_opens j.reader ready spare room (whole_lines text) it
  by_stage Going it = (it.0, it.1, room_goes j.reader ready spare room (whole_lines text) it.0 it.1 it.1 it.2)
  by_stage Ended it = (it.0, room_ends j.reader ready spare room (whole_lines text) it.0 it.1)

  by_found : (f : Found) → StandsBy f j text
      → StandsBy f (record j { reader = with_room j.reader ready spare room }) text
  by_found Good good = record { cut = good.cut; counts = good.counts; reads = by_stage j.reader.stage good.reads }
  by_found (Bad line due) wrong = wrong
  by_found NoMemory there = there

-- what the run of a valid session earns
pub earned : (S : Session) → IsValidSession S → IsEarned S S.rules.ratio (completed_value (instance_of S))
earned S valid = record {
  valid = valid;
  within = λ s. none_worth_more (instance_of S) s (session_jobs valid);
  within_observed = λ s. observed_bound (instance_of S) s (session_jobs valid);
  honest = observed_honest (instance_of S) (session_jobs valid);
  as_declared = λ former. observed_all (instance_of S) (session_jobs valid) (no_finishes S former valid);
  none_lost = none_lost (instance_of S) (session_jobs valid);
  whole = all_value (instance_of S) (session_jobs valid);
}
