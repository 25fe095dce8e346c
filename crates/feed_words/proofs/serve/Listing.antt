-- A roster that is kept from the lines that are given for a feed lists its jobs.
use Rattle.std.proofs.Common.{◌≡◌, ◌<◌, ◌≤◌, ◌-◌, ◌^◌, ℕ, List, [], ◌∷◌, ◌++◌, length, map, max, take, drop, codes}
use Rattle.std.proofs.Common.{decimal, refl, sym, ap, ◌∙◌, subst, Option, Some, None, Bool, true, false, arith}
use Rattle.std.proofs.Common.{option_and_then, bytes_eq, ◌||◌, filter_map}
use Rattle.std.proofs.Common.{take-append-drop, length-append, append_assoc}
use Rattle.std.proofs.lemmas.List.{append-nil}
use Rattle.std.proofs.lemmas.List.Elements.{filter_map-append}
use Rattle.std.specs.List.{AllByRecursion, cons_option}
use Rattle.dover_model.specs.declared.events.Event.{Event}
use Rattle.dover_model.specs.declared.events.Event.TheVariants.{Release, Run, Preempt, Take, Complete, Abandon, End}
use Rattle.dover_model.specs.declared.horizon.Horizon.TheVariants.{Mark}
use Rattle.dover_model.specs.JobFacts.{JobFacts}
use Rattle.dover_model.specs.Common.{AreShort, step_numbers, text_of, fields_of, Session, instance_of, admitted_jobs}
use Rattle.dover_model.specs.Common.{IsValid, settled, due_lines, account, is_open, Placed, header}
use Rattle.dover_model.specs.Common.{places_of, put_in, TraceLine, Printed, Refuses, text_of_line, refused_text}
use Rattle.dover_model.proofs.lists.Members.{all_at}
use Rattle.dover_model.proofs.lists.Tests.{never}
use Rattle.dover_model.proofs.sessions.Accounts.{account_kept}
use Rattle.dover_model.proofs.sessions.Growing.{lines_at, settled_of_run}
use Rattle.dover_model.proofs.texts.Fields.{numerals-decimals}
use Rattle.dover_model.proofs.valid.Valid.{all_front}
use Rattle.line_text.specs.declared.traces.lines.TraceLine.TheVariants.{Step as StepLine}
use Rattle.line_text.specs.traces.Form.{HasForm}
use Rattle.line_text.specs.traces.Reading.{step_of_word}
use Rattle.line_text.proofs.traces.Named.{HaveForm, printed_form, text_form}
use Rattle.line_text.proofs.traces.Spelled.{word_of, step_cut, step_read}
use Rattle.event_feed.specs.DueLines.{out_text, HasNumerals}
use Rattle.event_feed.specs.declared.due_line.DueLine.{DueLine}
use Rattle.event_feed.specs.declared.due_line.DueLine.TheVariants.{Header, Step, Refuse, RefuseDone, Refused}
use Rattle.lane_server.proofs.Adding.{due_open, holds_of, open_stands}
use Rattle.event_feed.specs.Answers.{admitted_in}
use Rattle.ready_server.specs.Roster.{Kept, Roll, roll_of, released, IsRollOf, HasLine, with_event, halted, with_finish}
use Rattle.ready_server.specs.Roster.{finish_here, empty_roll, stopped, ListedJob}
use Rattle.ready_server.specs.declared.roster.ListedFinish.{ListedFinish}
use Rattle.ready_server.proofs.RollFinishes.{few_finishes, finish_more, halt_finishes}
use Rattle.snapshot.proofs.Paces.{printed_later}
use Rattle.std.proofs.Common.{fold, IsSome, set, slice_get}
use Rattle.std.proofs.lemmas.List.Sums.{fold-append}
use Rattle.dover_model.specs.Common.{Begins, Instance, settled_state}
use Rattle.dover_model.specs.declared.events.Role.TheVariants.{Held, Waiting, Done, Gone}
use Rattle.ready_server.proofs.RollSettled.{takes_low, few_jobs, roll_more}
use Rattle.ready_server.proofs.Rostered.{more_read}
use Rattle.feed_words.specs.serve.Listing.{step_of_fields, steps_in, with_line}

-- ---- the steps among lines

-- the line of a step that has a form spells it
step_back : (e : Event) → HasForm (StepLine e) → step_of_fields (fields_of (text_of e)) ≡ Some e
step_back e form = ap step_of_fields (step_cut e form.0)
    ∙ ap (option_and_then (step_of_word (word_of e))) (numerals-decimals (step_numbers e) form.0)
    ∙ step_read e form.1

-- a word of no step, and what comes behind it, spell none
no_step : (word : List ℕ) (o : Option (List ℕ)) → ((ns : List ℕ) → step_of_word word ns ≡ None)
    → option_and_then (step_of_word word) o ≡ None
no_step word None none = refl
no_step word (Some ns) none = none ns

-- the steps among the lines of a trace
abbrev steps_among : List TraceLine → List Event
steps_among lines = filter_map (λ line. elim line [ Printed e ↦ Some e | Refuses r ↦ None ]) lines

printed_back : (es : List Event) → steps_among (map Printed es) ≡ es
printed_back [] = refl
printed_back (e ∷ es) = ap (λ fs. e ∷ fs) (printed_back es)

-- refused lines that are put in are none
put_back : (ps : List Placed) (n : ℕ) (es : List Event) → steps_among (put_in ps n es) ≡ es
put_back [] n es = printed_back es
put_back (p ∷ ps) n es =
    let front : List Event = take (p.place - n) es in
    let rest : List Event = drop (p.place - n) es in
    filter_map-append _ (map Printed front) (Refuses p.refused ∷ put_in ps (max n p.place) rest)
    ∙ ap (λ fs. fs ++ steps_among (put_in ps (max n p.place) rest)) (printed_back front)
    ∙ ap (λ fs. front ++ fs) (put_back ps (max n p.place) rest)
    ∙ take-append-drop (p.place - n) es

-- their texts spell them
texts_back : (ls : List TraceLine) → HaveForm (steps_among ls) → steps_in (map text_of_line ls) ≡ steps_among ls
texts_back [] form = refl
texts_back (Printed e ∷ ls) form = ap (λ o. cons_option o (steps_in (map text_of_line ls))) (step_back e form.0)
    ∙ ap (λ es. e ∷ es) (texts_back ls form.1)
texts_back (Refuses r ∷ ls) form =
    ap (λ o. cons_option o (steps_in (map text_of_line ls))) (no_step (codes "refuse") _ (λ ns. refl))
    ∙ texts_back ls form

-- ---- a step that is spelled as one of these lines

-- a step of short numbers that is spelled so has a form
abbrev GivesForm : List ℕ → Type 0
GivesForm line = (e : Event) → AreShort (step_numbers e) → text_of e ≡ line → HasForm (StepLine e)

-- the first of these fields is the word of no step
abbrev is_other : List (List ℕ) → Bool
is_other [] = false
is_other (word ∷ fields) = bytes_eq word (codes "refuse") || bytes_eq word (codes "dover")

-- no step is spelled so
other_form : (line : List ℕ) → is_other (fields_of line) ≡ true → GivesForm line
other_form line other e short same =
    never (sym (words e) ∙ ap is_other (sym (step_cut e short)) ∙ ap (λ text. is_other (fields_of text)) same ∙ other)
  where
    words : (e : Event) → is_other (word_of e ∷ map decimal (step_numbers e)) ≡ false
    words (Release n j) = refl
    words _ = refl

texts_form : (ls : List TraceLine) → HaveForm (steps_among ls) → AllByRecursion GivesForm (map text_of_line ls)
texts_form [] form = tt
texts_form (Printed due ∷ ls) form = ((λ e short same. text_form e due short form.0 same), texts_form ls form.1)
texts_form (Refuses r ∷ ls) form = (other_form (refused_text r) refl, texts_form ls form)

-- ---- a feed that goes on

module _ (y : List ℕ) (goes : is_open (account y) ≡ true) (S : Session) (there : (account y).session ≡ Some S) where
  valid : IsValid (instance_of S)
  valid = (holds_of (account y) S (account_kept y) (open_stands (account y) goes) there).reads.valid

  -- its lines behind the header
  abbrev lines : List TraceLine
  lines = lines_at S (account y).mark

  -- their steps are what is settled
  lines_settled : steps_among lines ≡ settled (instance_of S) (account y).mark
  lines_settled = put_back (places_of S) 0 (settled (instance_of S) (account y).mark)

  -- and have a form
  lines_form : HaveForm (steps_among lines)
  lines_form =
      let begins = settled_of_run (instance_of S) (account y).mark valid in
      subst HaveForm (sym lines_settled)
      (all_front (λ e. HasForm (StepLine e)) (settled (instance_of S) (account y).mark) begins.0
      (subst HaveForm begins.1 (printed_form (instance_of S) valid)))

  -- the lines that are due for it spell what is settled
  pub settled_back : steps_in (due_lines (account y)) ≡ settled (instance_of S) (account y).mark
  settled_back = ap steps_in (due_open (account y) S there (open_stands (account y) goes))
      ∙ ap (λ o. cons_option o (steps_in (map text_of_line lines))) (no_step (codes "dover") _ (λ ns. refl))
      ∙ texts_back lines lines_form
      ∙ lines_settled

  -- a step that is spelled as one of them has a form
  due_form : AllByRecursion GivesForm (due_lines (account y))
  due_form = subst (AllByRecursion GivesForm) (sym (due_open (account y) S there (open_stands (account y) goes)))
      (other_form (header S.rules) refl, texts_form lines lines_form)

-- ---- how many early finishes there are

-- a step more leaves no fewer
finishes_one : (p : Roll) (e : Event) → length p.finishes ≤ length (with_event p e).finishes
finishes_one p (Release n job) = omega arith
finishes_one p (Run at n) = omega arith
finishes_one p (Preempt at stops starts) = omega (arith, ap length (halt_finishes p at Held))
finishes_one p (Take at stops starts) = omega (arith, ap length (halt_finishes p at Waiting))
finishes_one p (Complete at n) = omega (arith, by (finish_here p at), ap length (halt_finishes p at Done)) where
  by : (o : Option ListedFinish) → length (halted p at Done).finishes
      ≤ length (with_finish (halted p at Done) o).finishes
  by None = omega arith
  by (Some f) = omega (arith, length-append (halted p at Done).finishes (f ∷ []))
finishes_one p (Abandon at n) = by (slice_get p.jobs n) where
  by : (o : Option ListedJob) → length p.finishes ≤ length (let q : Roll = elim o
      [ None ↦ p | Some e ↦ record p { jobs = set p.jobs n (stopped 0 Gone p.takes e) } ] in q.finishes)
  by None = omega arith
  by (Some e) = omega arith
finishes_one p (End value) = omega arith

finishes_on : (events : List Event) (p : Roll) → length p.finishes ≤ length (fold with_event p events).finishes
finishes_on [] p = omega arith
finishes_on (e ∷ events) p = omega (arith, finishes_on events (with_event p e), finishes_one p e)

-- steps that were settled have no more early finishes than there are jobs
few_settled : (J : Instance) → IsValid J → (mark : ℕ) (events : List Event) → Begins events (settled J mark)
    → length (roll_of events).finishes ≤ length J.jobs
few_settled J valid mark events (rest, is) = omega (
  arith,
  finishes_on rest (roll_of events),
  ap (λ es. length (roll_of es).finishes) is,
  ap (λ (p : Roll). length p.finishes) (fold-append with_event empty_roll events rest),
  few_finishes J valid mark (settled_state J mark) (settled J mark) (printed_later J valid mark mark (omega arith)),
)

-- the lines that are due for it were given, up to these that are left
module _ (k : Kept) (y : List ℕ) (goes : is_open (account y) ≡ true) (given left : List (List ℕ))
    (due : due_lines (account y) ≡ given ++ left) (it : IsRollOf (steps_in given) k) where
  -- where no session is there, none is
  none_due : (account y).session ≡ None → given ++ left ≡ []
  none_due none = sym due ∙ subst (λ o. due_lines (record (account y) { session = o }) ≡ []) (sym none)
      (subst (λ s. due_lines (record (account y) { session = None; standing = s }) ≡ [])
      (sym (open_stands (account y) goes)) refl)

  -- otherwise they begin what is settled
  begins : (S : Session) → (account y).session ≡ Some S
      → settled (instance_of S) (account y).mark ≡ steps_in given ++ steps_in left
  begins S there = sym (settled_back y goes S there) ∙ ap steps_in due ∙ filter_map-append _ given left

  -- there were few takes
  pub few_listed : k.roll.takes < 2 ^ 64 - 1
  few_listed = subst (λ (p : Roll). p.takes < 2 ^ 64 - 1) (sym it) (by (account y).session refl) where
    front : (xs : List (List ℕ)) → xs ++ left ≡ [] → (roll_of (steps_in xs)).takes < 2 ^ 64 - 1
    front [] e = omega arith
    front (x ∷ xs) e = absurd (let clash : x ∷ (xs ++ left) ≡ [] = e in cc)

    by : (o : Option Session) → (account y).session ≡ o → (roll_of (steps_in given)).takes < 2 ^ 64 - 1
    by None none = front given (none_due none)
    by (Some S) there = takes_low (instance_of S) (Mark (account y).mark) (steps_in given) (valid y goes S there)
        (steps_in left, begins S there)

  -- where a line is left, a session is there
  session_there : (line : List ℕ) (more : List (List ℕ)) → left ≡ line ∷ more
      → (S : Session) × ((account y).session ≡ Some S)
  session_there line more next = by (account y).session refl where
    by : (o : Option Session) → (account y).session ≡ o → (S : Session) × ((account y).session ≡ Some S)
    by None none = absurd (omega (arith, ap length (none_due none), ap length next, length-append given left))
    by (Some S) there = (S, there)

  -- the line of a step that is left next spells it
  next_back : (e : Event) (more : List (List ℕ)) → left ≡ text_of e ∷ more → AreShort (step_numbers e)
      → step_of_fields (fields_of (text_of e)) ≡ Some e
  next_back e more next short =
      let at = session_there (text_of e) more next in
      let form = subst (AllByRecursion GivesForm) (due ∙ ap (λ ls. given ++ ls) next) (due_form y goes at.0 at.1) in
      step_back e (all_at GivesForm given (text_of e) more form e short refl)

  -- a release that is given next finds room
  pub room_listed : admitted_in (account y) ≤ k.room → (n : ℕ) (job : JobFacts) (more : List (List ℕ))
      → left ≡ text_of (Release n job) ∷ more → AreShort (step_numbers (Release n job)) → HasLine k
  room_listed room n job more next short =
      let at = session_there (text_of (Release n job)) more next in
      let front : steps_in left ≡ Release n job ∷ steps_in more = ap steps_in next
      ∙ ap (λ o. cons_option o (steps_in more)) (next_back (Release n job) more next short) in omega (
        arith,
        room,
        ap {B = ℕ} (λ (o : Option Session). elim o [ None ↦ 0 | Some T ↦ length (admitted_jobs T.items) ]) at.1,
        few_jobs (instance_of at.0) (valid y goes at.0 at.1) (account y).mark (steps_in given ++ Release n job ∷ []) (
          steps_in more,
          begins at.0 at.1 ∙ ap (λ es. steps_in given ++ es) front
              ∙ sym (append_assoc (steps_in given) (Release n job ∷ []) (steps_in more)),
        ),
        ap (λ (p : Roll). length p.jobs) (roll_more (steps_in given) (Release n job)),
        length-append (roll_of (steps_in given)).jobs (released n job ∷ []),
        ap (λ (p : Roll). length p.jobs) it,
      )

  -- an early finish that is given next finds room
  pub finish_listed : admitted_in (account y) ≤ k.finish_room → (at n : ℕ) (more : List (List ℕ))
      → left ≡ text_of (Complete at n) ∷ more → AreShort (step_numbers (Complete at n))
      → IsSome (finish_here k.roll at) → length k.roll.finishes < k.finish_room
  finish_listed room at n more next short some =
      let there = session_there (text_of (Complete at n)) more next in
      let front : steps_in left ≡ Complete at n ∷ steps_in more = ap steps_in next
      ∙ ap (λ o. cons_option o (steps_in more)) (next_back (Complete at n) more next short) in omega (
        arith,
        room,
        ap {B = ℕ} (λ (o : Option Session). elim o [ None ↦ 0 | Some T ↦ length (admitted_jobs T.items) ]) there.1,
        few_settled (instance_of there.0) (valid y goes there.0 there.1) (account y).mark
            (steps_in given ++ Complete at n ∷ []) (
              steps_in more,
              begins there.0 there.1 ∙ ap (λ es. steps_in given ++ es) front
                  ∙ sym (append_assoc (steps_in given) (Complete at n ∷ []) (steps_in more)),
            ),
        ap (λ (p : Roll). length p.finishes) (roll_more (steps_in given) (Complete at n)),
        finish_more (halted (roll_of (steps_in given)) at Done) (finish_here (roll_of (steps_in given)) at)
            (subst (λ (p : Roll). IsSome (finish_here p at)) it some),
        ap length (halt_finishes (roll_of (steps_in given)) at Done),
        ap (λ (p : Roll). length p.finishes) it,
      )

  -- with the line that is given next, the roster was kept from the lines
  pub one_listed : (l : Kept) (out : DueLine) (more : List (List ℕ)) → left ≡ out_text out ∷ more → HasNumerals out
      → l.roll ≡ with_line k.roll out → IsRollOf (steps_in (given ++ out_text out ∷ [])) l
  one_listed l out more next short is =
      by out next short is ∙ ap roll_of (sym (filter_map-append _ given (out_text out ∷ []))) where
        none : (out : DueLine) → step_of_fields (fields_of (out_text out)) ≡ None → l.roll ≡ k.roll
            → l.roll ≡ roll_of (steps_in given ++ steps_in (out_text out ∷ []))
        none out spells is = is ∙ it ∙ ap roll_of (sym (append-nil (steps_in given))
            ∙ ap (λ o. steps_in given ++ cons_option o []) (sym spells))

        by : (out : DueLine) → left ≡ out_text out ∷ more → HasNumerals out → l.roll ≡ with_line k.roll out
            → l.roll ≡ roll_of (steps_in given ++ steps_in (out_text out ∷ []))
        by (Step e) next short is = more_read k l (steps_in given) e it is
            ∙ ap (λ o. roll_of (steps_in given ++ cons_option o [])) (sym (next_back e more next short))
        by (Header version k) next short is = none (Header version k) (no_step (codes "dover") _ (λ ns. refl)) is
        by (Refuse at r c d v cause) next short is =
            none (Refuse at r c d v cause) (no_step (codes "refuse") _ (λ ns. refl)) is
        by (RefuseDone at tick n) next short is =
            none (RefuseDone at tick n) (no_step (codes "refuse") _ (λ ns. refl)) is
        by (Refused line cause) next short is = none (Refused line cause) (no_step (codes "refused") _ (λ ns. refl)) is
