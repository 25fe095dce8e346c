-- What a command that reads says, by the bytes got so far, and what the moves of a call then come to.
use Rattle.std.specs.Prelude.{◌≡◌, ◌⊎◌, ℕ, List, [], ◌++◌, drop, length, Bool, true, false}
use Rattle.dover_model.specs.WholeRun.{Begins}
use Rattle.dover_port.specs.Moves.{Move, ins, outs, has_ended, EachRead, IsProperPrefix}
use Rattle.dover_port.specs.declared.status.Status.{Status}
use Rattle.dover_port.specs.declared.status.Status.TheVariants.{Done, No, Refused, ReadFault, WriteFault, Memory, Usage}

-- Whether more may be read behind these bytes; what is due for them; with which status and which whole text they may be
-- answered, where the input has ended and where it hasn't; and whether memory may be lacking.
pub record Talk : Type 1 where
  pub goes_on : List ℕ → Bool
  pub due : List ℕ → List ℕ
  pub answer : List ℕ → Bool → Status → List ℕ → Type 0
  pub lacks : List ℕ → Bool → Type 0

-- Nothing is due before the first read, which may be made. Bytes behind those that end a talk change nothing of it, and
-- no bytes take back what was due, or the want of memory.
pub record IsSteady (t : Talk) : Type 0 where
  pub opens : t.goes_on [] ≡ true
  pub nothing : t.due [] ≡ []
  pub grows : (x y : List ℕ) → Begins (t.due x) (t.due (x ++ y))
  pub stays : (x y : List ℕ) → t.goes_on x ≡ false → t.goes_on (x ++ y) ≡ false
  pub answered : (x y : List ℕ) (status : Status) (text : List ℕ) → t.goes_on x ≡ false → t.answer x false status text
      → t.answer (x ++ y) false status text
  pub lacking : (x y : List ℕ) → t.lacks x false → t.lacks (x ++ y) false

-- Before a read: what is due for the bytes got was put, and the talk goes on.
abbrev pub MayRead : Talk → List ℕ → List ℕ → Type 0
MayRead t got put = (put ≡ t.due got) × (t.goes_on got ≡ true)

-- no more is to be read: the talk is over, or it goes on and the input has ended
abbrev pub IsOver : Talk → List ℕ → Bool → Type 0
IsOver t x ended = t.goes_on x ≡ ended

-- these bytes were got and put, and the input has ended or not
module _ (t : Talk) (got put : List ℕ) (ended : Bool) where
  -- the talk is over, and the whole text that comes with this status was put
  pub record IsAnswered (status : Status) : Type 0 where
    pub over : IsOver t got ended
    pub answer : t.answer got ended status put

  -- a read failed: what is due was put, and the talk goes on
  pub record IsUnread : Type 0 where
    pub unended : ended ≡ false
    pub open_still : t.goes_on got ≡ true
    pub text : put ≡ t.due got

  -- a front of the text that answers was put, and not all of it
  pub record IsCutAnswer : Type 0 where
    pub over : IsOver t got ended
    pub status : Status
    pub text : List ℕ
    pub answer : t.answer got ended status text
    pub front : IsProperPrefix put text

  -- a write failed: a front of what is due was put, or of the text that answers, and not all of it
  abbrev pub IsUnwritten : Type 0
  IsUnwritten = ((ended ≡ false) × IsProperPrefix put (t.due got)) ⊎ IsCutAnswer

  -- there was no memory: a front of what is due was put, and memory may be lacking
  pub record IsOutOfMemory : Type 0 where
    pub lacking : t.lacks got ended
    pub text : Begins put (t.due got)

-- by the status
abbrev pub Ends : Talk → Status → (got put : List ℕ) → Bool → Type 0
Ends t Done got put ended = IsAnswered t got put ended Done
Ends t No got put ended = IsAnswered t got put ended No
Ends t Refused got put ended = IsAnswered t got put ended Refused
Ends t ReadFault got put ended = IsUnread t got put ended
Ends t WriteFault got put ended = IsUnwritten t got put ended
Ends t Memory got put ended = IsOutOfMemory t got put ended
Ends t Usage got put ended = ⊥

-- what the record of a call with this status is
pub record Talks (t : Talk) (status : Status) (moves : List Move) : Type 0 where
  pub reads : EachRead (MayRead t) moves
  pub ends : Ends t status (ins moves) (outs moves) (has_ended moves)

-- the statuses of an answer
abbrev pub IsFinal : Status → Type 0
IsFinal Done = Unit {0}
IsFinal No = Unit {0}
IsFinal Refused = Unit {0}
IsFinal _ = ⊥

-- A call may end with this status, whatever the port tells: some moves come to it, or a write failed.
abbrev pub CanEnd : (Status → List Move → Type 0) → Status → Type 0
CanEnd says status = (status ≡ WriteFault) ⊎ ((moves : List Move) × says status moves)

-- ---- a talk behind bytes

-- What is said of the bytes that follow these, where all that is due for these was put before.
abbrev pub talk_behind : List ℕ → Talk → Talk
talk_behind F t = record {
  goes_on = λ x. t.goes_on (F ++ x);
  due = λ x. drop (length (t.due F)) (t.due (F ++ x));
  answer = λ x ended status text. t.answer (F ++ x) ended status (t.due F ++ text);
  lacks = λ x ended. t.lacks (F ++ x) ended;
}
