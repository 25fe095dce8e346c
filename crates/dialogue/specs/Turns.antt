-- What the calls of a talker come to, and those of the reading loop.
use Rattle.std.specs.Prelude.{◌≡◌, ◌<◌, ◌≤◌, ℕ, List, [], ◌∷◌, ◌++◌, length, take, Bool, true, false, Option, Result}
use Rattle.std.specs.Prelude.{Ok, Err, flat_map}
use Rattle.dover_model.specs.WholeRun.{Begins}
use Rattle.dover_port.specs.Causes.{Rose, StaysWell, FailsLast, Causes, StopsWith}
use Rattle.dover_port.specs.declared.calls.Calls.{Calls}
use Rattle.dover_port.specs.Moves.{Move, ins, outs, has_ended, EachRead, Passes, CutsShort}
use Rattle.dover_port.specs.declared.status.Status.{Status}
use Rattle.dialogue.specs.Talk.{Talk, IsOver, IsFinal, MayRead, Talks, CanEnd}
use Rattle.dialogue.specs.declared.talker.Stop.{Stop}
use Rattle.dialogue.specs.declared.talker.Stop.TheVariants.{NoMemory, Unwritten}

-- ---- a talker

-- what a talker stands for: the bytes that it took, and the parts that are due for them and not yet given
abbrev pub Standing : Type 1
Standing = List ℕ → List (List ℕ) → Type 0

-- the text of parts
abbrev pub joined : List (List ℕ) → List ℕ
joined parts = flat_map (λ part. part) parts

-- what a talker stands for of which all that is due was given: the bytes that it took
abbrev pub Ready : Type 1
Ready = List ℕ → Type 0

-- the same where nothing is left to give
abbrev pub AllGiven : Ready → Standing
AllGiven ready x rest = ready x × (rest ≡ [])

-- what a meter may show, by the bytes got
abbrev pub Costs : Type 1
Costs = List ℕ → Type 0

-- behind x so many bytes of the piece were taken, and what is due for them is to be given
abbrev pub Takes : Talk → Standing → List ℕ → List ℕ → ℕ → Type 0
Takes t standing x piece n =
    (0 < n) × (n ≤ length piece)
    × ((rest : List (List ℕ)) × (t.due (x ++ take n piece) ≡ t.due x ++ joined rest)
    × standing (x ++ take n piece) rest)

-- some bytes were taken, or there was no memory
abbrev pub TakesBy : {E : Type 0} → Talk → Standing → Costs → List ℕ → List ℕ → Result ℕ E → Type 0
TakesBy t standing costs x piece (Ok n) = Takes t standing x piece n
TakesBy t standing costs x piece (Err e) = t.lacks (x ++ piece) false × costs (x ++ piece)

-- the first of the parts was given, or there is none
abbrev pub GivesBy : Standing → Ready → List ℕ → List (List ℕ) → (part : List ℕ) → (given : Bool) → Type 0
GivesBy stands ready x rest part true = (more : List (List ℕ)) × (rest ≡ part ∷ more) × stands x more
GivesBy stands ready x rest part false = (rest ≡ []) × ready x

-- what is put of an answer, but for what is kept back after: a text that may be said, or a front of it; or there was no
-- memory, where it may be lacking
abbrev pub Answers : (says : Status → List ℕ → Type 0) → (lacks : Type 0) → (old new : Option (List Move))
    → (after : List ℕ) → Result Status Stop → Type 0
Answers says lacks old new after (Ok status) =
    IsFinal status × ((text : List ℕ) × says status text × Passes old new [] after text)
Answers says lacks old new after (Err NoMemory) = lacks × Passes old new [] after []
Answers says lacks old new after (Err Unwritten) =
    (status : Status) × (text : List ℕ) × says status text × CutsShort old new [] text

-- the same of what answers these bytes, behind what is due for them
abbrev pub AnswersBy : Talk → List ℕ → Bool → (old new : Option (List Move)) → (after : List ℕ)
    → Result Status Stop → Type 0
AnswersBy t x ended old new after result =
    Answers (λ status text. t.answer x ended status (t.due x ++ text)) (t.lacks x ended) old new after result

-- a count of faults rises where a write failed, and nowhere else
abbrev pub StopCause : {T : Type 0} → Result T Stop → (writes writes' reads reads' : ℕ) → Type 0
StopCause (Ok x) writes writes' reads reads' = (writes' ≡ writes) × (reads' ≡ reads)
StopCause (Err NoMemory) writes writes' reads reads' = (writes' ≡ writes) × (reads' ≡ reads)
StopCause (Err Unwritten) writes writes' reads reads' = Rose writes writes' × (reads' ≡ reads)

-- no call follows one that failed: the last one alone has failed where a write did, and else none has
abbrev pub StopsOn : {T : Type 0} → Result T Stop → (old new : Calls) → Type 0
StopsOn (Ok x) old new = StaysWell old new
StopsOn (Err NoMemory) old new = StaysWell old new
StopsOn (Err Unwritten) old new = FailsLast old new

-- ---- a piece

-- Behind x a front of the piece was taken, the rest is left, and what is due was put.
pub record HasHeard (t : Talk) (ready : Ready) (x piece rest : List ℕ) (old new : Option (List Move))
    (before after : List ℕ) (more : Bool) : Type 0 where
  pub front : List ℕ
  pub cut : piece ≡ front ++ rest
  pub text : List ℕ
  pub due : t.due (x ++ front) ≡ t.due x ++ text
  pub puts : Passes old new before after text
  pub stands : ready (x ++ front)
  pub goes_on : t.goes_on (x ++ front) ≡ more

-- the piece was, or a front of it that ends the talk
abbrev pub Hears : Talk → Ready → (x piece : List ℕ) → (old new : Option (List Move)) → (before after : List ℕ)
    → (more : Bool) → Type 0
Hears t ready x piece old new before after more = (rest : List ℕ)
    × HasHeard t ready x piece rest old new before after more × (more ≡ true → rest ≡ [])

-- a front of what is due for the piece behind x
pub record IsFrontOfDue (t : Talk) (x piece text : List ℕ) : Type 0 where
  pub begins : Begins (t.due x ++ text) (t.due (x ++ piece))

-- by the result
abbrev pub HearsBy : Talk → Ready → Costs → (x piece : List ℕ) → (old new : Option (List Move))
    → (before after : List ℕ)
    → Result Bool Stop → Type 0
HearsBy t ready costs x piece old new before after (Ok more) = Hears t ready x piece old new before after more
HearsBy t ready costs x piece old new before after (Err NoMemory) =
    t.lacks (x ++ piece) false × costs (x ++ piece)
    × ((text : List ℕ) × IsFrontOfDue t x piece text × Passes old new before after text)
HearsBy t ready costs x piece old new before after (Err Unwritten) =
    costs (x ++ piece) × ((text : List ℕ) × IsFrontOfDue t x piece text × CutsShort old new before text)

-- ---- the reading

-- The talker stands for what was got, or for a front of it that ends the talk, and what is due was put.
pub record HasRead (t : Talk) (ready : Ready) (ended more : Bool) (moves : List Move) : Type 0 where
  pub reads : EachRead (MayRead t) moves
  pub end : has_ended moves ≡ ended
  pub front : List ℕ
  pub behind : List ℕ
  pub cut : ins moves ≡ front ++ behind
  pub goes_on : t.goes_on front ≡ more
  pub all : more ≡ true → behind ≡ []
  pub text : outs moves ≡ t.due front
  pub stands : ready front

-- the talk goes on, and the input has not ended
abbrev pub GoesOn : Talk → Ready → List Move → Type 0
GoesOn t ready moves = HasRead t ready false true moves

-- no more is to be read
abbrev pub IsRead : Talk → Ready → (ended : Bool) → List Move → Type 0
IsRead t ready ended moves = HasRead t ready ended ended moves

-- by the result
abbrev pub ReadsBy : Result Bool Status → Talk → Ready → Costs → List Move → Type 0
ReadsBy (Ok ended) t ready costs moves = IsRead t ready ended moves
ReadsBy (Err status) t ready costs moves = Talks t status moves × costs (ins moves)

-- Where no more is to be read, nothing is kept back of what is due, and the talker stands for some bytes; else a call
-- may end so.
abbrev pub StandsBy : Result Bool Status → Talk → Ready → (kept : List ℕ) → Type 0
StandsBy (Ok ended) t ready kept = (x : List ℕ) × ready x × IsOver t x ended × (kept ≡ [])
StandsBy (Err status) t ready kept = CanEnd (Talks t) status

-- a fault comes only where its count rose
abbrev pub ReadCauses : Result Bool Status → (reads reads' writes writes' : ℕ) → Type 0
ReadCauses (Ok ended) reads reads' writes writes' = (reads' ≡ reads) × (writes' ≡ writes)
ReadCauses (Err status) reads reads' writes writes' = Causes status reads reads' writes writes'

-- no call follows one that failed
abbrev pub ReadStops : Result Bool Status → (old new : Calls) → Type 0
ReadStops (Ok ended) old new = StaysWell old new
ReadStops (Err status) old new = StopsWith status old new
