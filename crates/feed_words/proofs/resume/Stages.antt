-- What is kept of a snapshot, and then of its feed, as more bytes come.
use Rattle.std.proofs.Common.{◌≡◌, ◌<◌, ◌≤◌, ◌+◌, ℕ, suc, List, [], ◌∷◌, ◌++◌, length, take, drop, refl, sym, ap, ◌∙◌}
use Rattle.std.proofs.Common.{subst, append_assoc, append-nil, arith, Bool, true, false, inl, Option, Some, None}
use Rattle.std.proofs.Common.{Result, Ok, Err, take-append-drop}
use Rattle.dover_model.specs.declared.Memory.{Memory as Lacking}
use Rattle.dover_model.specs.declared.events.Task.{Task}
use Rattle.dover_model.specs.Common.{Item, in_lines, lines_of, whole_lines, due_lines, account, is_open, Begins}
use Rattle.dover_model.proofs.lists.Tests.{never}
use Rattle.dover_port.specs.Moves.{Move}
use Rattle.dover_port.specs.declared.status.Status.{Status}
use Rattle.dover_port.specs.declared.status.Status.TheVariants as status
use Rattle.dialogue.specs.Talk.{IsOver}
use Rattle.dialogue.specs.Turns.{joined, Standing, Takes, TakesBy, GivesBy, AnswersBy}
use Rattle.dialogue.specs.declared.talker.Stop.{Stop}
use Rattle.dialogue.specs.declared.talker.Stop.TheVariants.{NoMemory, Unwritten}
use Rattle.snapshot.specs.Snapshot.{Head, snapshot}
use Rattle.snapshot.specs.Reading.{Reading, Begun, Going, Taken, Refused, reading_of}
use Rattle.snapshot.specs.Kept.{IsReady, IsWhole}
use Rattle.snapshot.specs.Spending.{HasSpentOn}
use Rattle.snapshot.specs.declared.reader.SnapFault.TheVariants as fault
use Rattle.snapshot.specs.declared.resuming.Resuming.{Resuming}
use Rattle.snapshot.proofs.Again.{lines_again}
use Rattle.snapshot.proofs.Spending.{jobs_reading}
use Rattle.snapshot.proofs.Whole.{shortest_text}
use Rattle.feed_words.specs.serve.Keeping as serve
use Rattle.feed_words.specs.serve.Keeping.{Call, Costs, due_behind, serve_talk}
use Rattle.lane_server.specs.declared.feed.Feed.{Feed}
use Rattle.ready_server.specs.Roster.{Kept}
use Rattle.feed_words.specs.declared.serve.at_end.AtEnd.{AtEnd}
use Rattle.feed_words.specs.declared.serve.at_end.AtEnd.TheVariants.{Pause}
use Rattle.feed_words.proofs.serve.Talking.{steady}
use Rattle.feed_words.specs.resume.Opening.{OpeningStands, IsWholeAt, TakesFront, HasFewOf}
use Rattle.feed_words.specs.resume.Record.{is_part, IsFrugalFor, refused_text}
use Rattle.feed_words.specs.resume.Talk.{Asked, feed_of, behind_snapshot, goes_by, due_by, HasBegun, LacksBy}
use Rattle.feed_words.specs.resume.Talk.{IsAnsweredBy, resume_talk}
use Rattle.feed_words.specs.resume.Keeping.{IsPast, IsOpen, IsStopped, IsGiving, IsServedOn}
use Rattle.feed_words.specs.declared.resume.resuming.SnapshotStage.{SnapshotStage}
use Rattle.feed_words.specs.declared.resume.resuming.SnapshotStage.TheVariants as stage
use Rattle.feed_words.specs.declared.resume.opening.Opening.{Opening}
use Rattle.feed_words.proofs.resume.Bounds.{next_number}
use Rattle.feed_words.proofs.resume.Onward.{taken_on, refused_on, feed_may, behind_on}
use Rattle.feed_words.proofs.resume.Parts.{stands_part}
use Rattle.feed_words.proofs.resume.Sparing.{few_kept}
use Rattle.feed_words.proofs.resume.Talking.{goes_at, due_at, call_of, past_costs}

-- ---- a part of a snapshot

pub part_due : (r : Reading) → is_part r ≡ true → (x : List ℕ) → due_by r x ≡ []
part_due (Taken h items ts) part x = never part
part_due _ part x = refl

part_goes : (r : Reading) → is_part r ≡ true → (x : List ℕ) → goes_by r x ≡ true
part_goes Begun part x = refl
part_goes (Going h items ts) part x = refl
part_goes _ part x = never part

part_answer : (at_end : AtEnd) (r : Reading) → is_part r ≡ true → (x : List ℕ) (at : ℕ)
    → at ≡ suc (length (whole_lines x))
    → (ended : Bool) → ended ≡ true → IsAnsweredBy at_end r x ended status.Refused (refused_text at)
part_answer at_end Begun part x at is ended e = (e, ap refused_text is)
part_answer at_end (Going h items ts) part x at is ended e = (e, ap refused_text is)
part_answer at_end _ part x at is ended e = never part

-- where a front has begun a snapshot, memory may be lacking
lacks_from : (r : Reading) (x : List ℕ) → HasBegun x → LacksBy r x
lacks_from (Taken h items ts) x it = tt
lacks_from _ x it = it

-- a front of a piece is one of all bytes
front_of : (x piece : List ℕ) (n : ℕ) → Begins (x ++ take n piece) (x ++ piece)
front_of x piece n = (
  drop n piece,
  ap (λ l. x ++ l) (sym (take-append-drop n piece)) ∙ sym (append_assoc x (take n piece) (drop n piece)),
)

take_all : (xs : List ℕ) → take (length xs) xs ≡ xs
take_all [] = refl
take_all (x ∷ xs) = ap (λ l. x ∷ l) (take_all xs)

-- some bytes were taken for which nothing is due
pub took : (a : Asked) (standing : Standing) (x piece : List ℕ) (n : ℕ) → 0 < n → n ≤ length piece
    → (resume_talk a).due x ≡ [] → (resume_talk a).due (x ++ take n piece) ≡ [] → standing (x ++ take n piece) []
    → Takes (resume_talk a) standing x piece n
took a standing x piece n some fits none more stands =
    (some, fits, ([], more ∙ sym (ap (λ l. l ++ []) none), stands))

pub took_all : (a : Asked) (standing : Standing) (x piece : List ℕ) → 0 < length piece
    → (resume_talk a).due x ≡ [] → (resume_talk a).due (x ++ piece) ≡ [] → standing (x ++ piece) []
    → Takes (resume_talk a) standing x piece (length piece)
took_all a standing x piece some none more stands = took a standing x piece (length piece) some (omega arith) none
    (subst (λ l. (resume_talk a).due (x ++ l) ≡ []) (sym (take_all piece)) more)
    (subst (λ l. standing (x ++ l) []) (sym (take_all piece)) stands)

module _ (a : Asked) (o : Opening) (x : List ℕ) (was : OpeningStands o x) where
  pub opening_due : (resume_talk a).due x ≡ []
  opening_due = part_due (reading_of (lines_of x)) (stands_part o x was) x

  pub opening_goes : (resume_talk a).goes_on x ≡ true
  opening_goes = part_goes (reading_of (lines_of x)) (stands_part o x was) x

  pub opening_answer : (at : ℕ) → at ≡ o.lines.count + 1 → (ended : Bool) → IsOver (resume_talk a) x ended
      → (resume_talk a).answer x ended status.Refused (refused_text at)
  opening_answer at is ended over = part_answer a.at_end (reading_of (lines_of x)) (stands_part o x was) x at
      (omega (arith, is, (next_number o x was).1)) ended (sym over ∙ opening_goes)

  pub opening_costs : (now : ℕ) → HasSpentOn o.reader a.start now → IsFrugalFor a.start now x
  opening_costs now spent = inl (
    x,
    ([], sym (append-nil x)),
    few_kept o.reader a.start now _ spent (jobs_reading o.reader (lines_of x) was.reads),
  )

  module _ (piece : List ℕ) (new : Opening) where
    pub front_costs : (now : ℕ) → HasSpentOn new.reader a.start now → HasFewOf new.reader x piece
        → IsFrugalFor a.start now (x ++ piece)
    front_costs now spent few = inl (
      x ++ take few.0 piece,
      front_of x piece few.0,
      few_kept new.reader a.start now _ spent few.2,
    )

    -- a line is refused
    pub line_refused : (at : ℕ) → TakesFront (Err (fault.BadSnapshot at)) new x piece
        → reading_of (lines_of (x ++ piece)) ≡ Refused at
    line_refused at it = let split = front_of x piece it.0 in
        subst (λ y. reading_of (lines_of y) ≡ Refused at) (sym split.1)
        (refused_on (x ++ take it.0 piece) split.0 at it.2)

    -- there was no memory
    pub line_lacks : TakesFront (Err fault.Memory) new x piece → (resume_talk a).lacks (x ++ piece) false
    line_lacks it = (
      refl,
      lacks_from (reading_of (lines_of (x ++ piece))) (x ++ piece)
          (x ++ take it.0 piece, front_of x piece it.0, it.2),
    )

-- the snapshot goes on
pub opening_took : (a : Asked) (o : Opening) (x : List ℕ) → OpeningStands o x → (E : Type 0) → E → (piece : List ℕ)
    (n : ℕ) → 0 < n → n ≤ length piece → (new : Opening) (now : ℕ) → OpeningStands new (x ++ take n piece)
    → HasSpentOn new.reader a.start now
    → Takes (resume_talk a) (λ y parts. E × ((parts ≡ []) × IsOpen a new now y)) x piece n
opening_took a o x was E e piece n some fits new now stands spent =
    took a (λ y parts. E × ((parts ≡ []) × IsOpen a new now y)) x piece n some fits (opening_due a o x was)
    (opening_due a new (x ++ take n piece) stands) (e, (refl, (stands, spent)))

-- a line of it is refused
pub refused_took : (a : Asked) (o : Opening) (x : List ℕ) → OpeningStands o x → (E : Type 0) → E → (piece : List ℕ)
    → 0 < length piece → (at now : ℕ) → reading_of (lines_of (x ++ piece)) ≡ Refused at
    → IsFrugalFor a.start now (x ++ piece)
    → Takes (resume_talk a) (λ y parts. E × ((parts ≡ []) × IsStopped a at now y)) x piece (length piece)
refused_took a o x was E e piece some at now refused few =
    took_all a (λ y parts. E × ((parts ≡ []) × IsStopped a at now y)) x piece some (opening_due a o x was)
    (due_at a (x ++ piece) (Refused at) refused) (e, (refl, (refused, few)))

-- ---- a whole snapshot

-- its first line and its jobs
ready_whole : (o : Option Resuming) (ls : List (List ℕ)) → IsReady o ls → (h : Head) × (items : List Item)
    × (ts : List Task) × IsWhole h items ts ls
ready_whole None ls none = absurd none
ready_whole (Some r) ls it = (it.0, it.1, it.2, it.3)

-- the bytes are the snapshot of the feed that stands for all with it
pub record IsOpened (y : List ℕ) : Type 0 where
  pub head : Head
  pub items : List Item
  pub tasks : List Task
  pub reads : reading_of (lines_of y) ≡ Taken head items tasks
  pub text : snapshot (feed_of head items) ≡ in_lines (lines_of y)
  pub behind : behind_snapshot head items y ≡ []

all_dropped : (xs : List ℕ) → drop (length xs) xs ≡ []
all_dropped [] = refl
all_dropped (x ∷ xs) = all_dropped xs

pub opened_is : (o : Opening) (y : List ℕ) → IsWholeAt o y → IsOpened y
opened_is o y it =
    let whole = ready_whole o.reader (lines_of y) it.1 in
    let text : snapshot (feed_of whole.0 whole.1) ≡ in_lines (lines_of y) =
    shortest_text whole.0 whole.1 whole.2 (lines_of y) whole.3 in
    record {
      head = whole.0;
      items = whole.1;
      tasks = whole.2;
      reads = whole.3.reads;
      text = text;
      behind = ap (λ l. drop (length l) y) (text ∙ lines_again y it.0) ∙ all_dropped y;
    }

-- nothing is left to give
giving_none : (c : Call) (f : Feed) (k : Kept) (now : ℕ) (x : List ℕ) → serve.IsListed c f k now x
    → serve.IsListing c f k now x []
giving_none c f k now x it = record {
  giving = record {
    left = [];
    parts_are = refl;
    stands = record { cut = it.ready.rests.cut; lane = it.ready.rests.lane.stands };
    paid = it.ready.paid;
  };
  given = due_lines (account (c.feed ++ x));
  due = sym (append-nil (due_lines (account (c.feed ++ x))));
  room = λ line more is. absurd (let no : [] ≡ line ∷ more = is in cc);
  lists = it.lists;
}

module _ (a : Asked) (y : List ℕ) (it : IsOpened y) where
  -- the call that goes on with its feed
  abbrev pub opened_call : Call
  opened_call = call_of a.start y it.head it.items it.tasks it.reads

  pub opened_due : (resume_talk a).due y ≡ []
  opened_due = due_at a y (Taken it.head it.items it.tasks) it.reads ∙ ap (due_behind (feed_of it.head it.items))
      it.behind
      ∙ (steady opened_call a.at_end).nothing

  pub opened_giving : (f : Feed) (k : Kept) (now : ℕ) → serve.IsListed opened_call f k now []
      → IsPast a.start y (λ c H. serve.IsListing c f k now H [])
  opened_giving f k now ready = record {
    head = it.head;
    items = it.items;
    tasks = it.tasks;
    reads = it.reads;
    goes = (feed_may y it.head it.items it.tasks it.reads).going_on;
    holds = giving_none opened_call f k now (behind_snapshot it.head it.items y)
        (subst (serve.IsListed opened_call f k now) (sym it.behind) ready);
  }

  -- it was read, and its feed goes on
  pub whole_took : {L : Type 0} (o : Opening) (x : List ℕ) → OpeningStands o x → (E : Type 0) → E
      → (piece : List ℕ) (n : ℕ) → 0 < n → n ≤ length piece → y ≡ x ++ take n piece
      → (s : SnapshotStage L) (reader : Option Resuming) (now : ℕ) → IsServedOn s reader (lines_of y)
      → HasSpentOn reader a.start now → Takes (resume_talk a) (λ z parts. E × IsGiving a s now z parts) x piece n
  whole_took o x was E e piece n some fits is (stage.Opening p) reader now gone spent = absurd gone
  whole_took o x was E e piece n some fits is (stage.Refused at) reader now gone spent = absurd gone
  whole_took o x was E e piece n some fits is (stage.Serving s) reader now on spent =
      let ready = on opened_call now (feed_may y it.head it.items it.tasks it.reads) it.text spent in took a
      (λ z parts. E × IsGiving a (stage.Serving s) now z parts) x piece n some fits
      (opening_due a o x was) (subst (λ z. (resume_talk a).due z ≡ []) is opened_due) (
        e,
        subst (λ z. IsPast a.start z (λ c H. serve.IsListing c s.serving.feed s.roster now H [])) is
            (opened_giving s.serving.feed s.roster now ready),
      )

-- ---- its feed

module _ (a : Asked) (x : List ℕ) (T : Call → List ℕ → Type 0) (at : IsPast a.start x T) where
  -- the call, and the bytes behind the snapshot
  abbrev pub past_call : Call
  past_call = record { feed = feed_of at.head at.items; goes_on = at.goes; start = a.start }

  abbrev pub past_bytes : List ℕ
  past_bytes = behind_snapshot at.head at.items x

  pub past_goes : (resume_talk a).goes_on x ≡ is_open (account (feed_of at.head at.items ++ past_bytes))
  past_goes = goes_at a x (Taken at.head at.items at.tasks) at.reads

  past_due : (resume_talk a).due x ≡ due_behind (feed_of at.head at.items) past_bytes
  past_due = due_at a x (Taken at.head at.items at.tasks) at.reads

  -- something else holds of it
  pub past_with : (U : Call → List ℕ → Type 0) → U past_call past_bytes → IsPast a.start x U
  past_with U it = record
      { head = at.head; items = at.items; tasks = at.tasks; reads = at.reads; goes = at.goes; holds = it }

  pub past_spent : (now : ℕ) → Costs past_call now past_bytes → IsFrugalFor a.start now x
  past_spent now it = past_costs x at.head at.items at.tasks at.reads a.start now it

  -- a piece more
  module _ (piece : List ℕ) (f : Feed) (k : Kept) (now : ℕ) (E : Type 0) (e : E) where
    behind_more : (more : List ℕ) → behind_snapshot at.head at.items (x ++ more) ≡ past_bytes ++ more
    behind_more more = behind_on x at.head at.items at.tasks at.reads more

    reads_more : (more : List ℕ) → reading_of (lines_of (x ++ more)) ≡ Taken at.head at.items at.tasks
    reads_more more = taken_on x more at.head at.items at.tasks at.reads

    pub past_takes : (r : Result ℕ Lacking)
        → TakesBy (serve_talk Pause past_call.feed)
        (λ H parts. serve.IsListing past_call f k now H parts)
        (λ H. Costs past_call now H) past_bytes piece r
        → TakesBy (resume_talk a)
        (λ y parts. E × IsPast a.start y (λ c H. serve.IsListing c f k now H parts))
        (λ y. IsFrugalFor a.start now y) x piece r
    past_takes (Ok n) it = (
      it.0,
      it.1,
      (
        it.2.0,
        due_at a (x ++ take n piece) (Taken at.head at.items at.tasks) (reads_more (take n piece))
            ∙ ap (due_behind (feed_of at.head at.items)) (behind_more (take n piece)) ∙ it.2.1
            ∙ ap (λ l. l ++ joined it.2.0) (sym past_due),
        (
          e,
          record {
            head = at.head;
            items = at.items;
            tasks = at.tasks;
            reads = reads_more (take n piece);
            goes = at.goes;
            holds = subst (λ H. serve.IsListing past_call f k now H it.2.0)
                (sym (behind_more (take n piece))) it.2.2;
          },
        ),
      ),
    )
    past_takes (Err l) it = (
      (refl, subst (λ r. LacksBy r (x ++ piece)) (sym (reads_more piece)) tt),
      past_costs (x ++ piece) at.head at.items at.tasks (reads_more piece) a.start now
          (subst (λ H. Costs past_call now H) (sym (behind_more piece)) it.1),
    )

  -- a part
  pub past_gives : (E : Type 0) → E → (f : Feed) (k : Kept) (now : ℕ) (rest : List (List ℕ)) (part : List ℕ)
      (given : Bool)
      → GivesBy (λ H parts. serve.IsListing past_call f k now H parts)
      (λ H. serve.IsListed past_call f k now H) past_bytes rest part given
      → GivesBy (λ y parts. E × IsPast a.start y (λ c H. serve.IsListing c f k now H parts))
      (λ y. E × IsPast a.start y (λ c H. serve.IsListed c f k now H)) x rest part given
  past_gives E e f k now rest part true it = (
    it.0,
    it.1,
    (e, past_with (λ c H. serve.IsListing c f k now H it.0) it.2),
  )
  past_gives E e f k now rest part false it =
      (it.0, (e, past_with (λ c H. serve.IsListed c f k now H) it.1))

  -- the answer
  served_answer : (status : Status) (text : List ℕ) (ended : Bool)
      → (serve_talk a.at_end (feed_of at.head at.items)).answer past_bytes ended status
      (due_behind (feed_of at.head at.items) past_bytes ++ text)
      → (resume_talk a).answer x ended status ((resume_talk a).due x ++ text)
  served_answer status text ended it =
      subst (λ r. IsAnsweredBy a.at_end r x ended status ((resume_talk a).due x ++ text)) (sym at.reads)
      (subst (λ l. (serve_talk a.at_end (feed_of at.head at.items)).answer past_bytes ended status (l ++ text))
      (sym past_due) it)

  pub past_answers : (ended : Bool) (old new : Option (List Move)) (after : List ℕ) (r : Result Status Stop)
      → AnswersBy (serve_talk a.at_end past_call.feed) past_bytes ended old new after r
      → AnswersBy (resume_talk a) x ended old new after r
  past_answers ended old new after (Ok status) it =
      (it.0, (it.1.0, served_answer status it.1.0 ended it.1.1, it.1.2))
  past_answers ended old new after (Err NoMemory) it =
      ((it.0.0, subst (λ r. LacksBy r x) (sym at.reads) tt), it.1)
  past_answers ended old new after (Err Unwritten) it = (it.0, it.1, served_answer it.0 it.1 ended it.2, it.3)
