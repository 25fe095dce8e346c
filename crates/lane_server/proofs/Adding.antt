-- What each line of a feed adds to what is due, and how the lane comes to owe it.
use Rattle.std.proofs.Common.{◌≡◌, ℕ, suc, ◌<◌, ◌^◌, List, [], ◌∷◌, ◌++◌, length, map, refl, sym, ap, ◌∙◌, subst, arith}
use Rattle.std.proofs.Common.{inl, inr, ◌⊎◌, Bool, true, false, Some, None, Option, cond, append-nil, drop}
use Rattle.std.proofs.lemmas.List.Sums.{fold-append}
use Rattle.dover_model.specs.declared.events.Event.{Event}
use Rattle.dover_model.specs.declared.events.Version.{Version}
use Rattle.dover_model.specs.Common.{Fraction, Declaration, IsValid, RefusedItem, Refused, RefusedLine, Session}
use Rattle.dover_model.specs.Common.{instance_of, new_session, with_item, printed, settled, Begins, header, text_of}
use Rattle.dover_model.specs.Common.{refused_text, Printed, text_of_line, texts_among, read_line, Account, Standing}
use Rattle.dover_model.specs.Common.{Open, Ended, Faulty, Cause, rules_with, no_lines, next_line, account_of_lines}
use Rattle.dover_model.specs.Common.{is_open, due_lines, fault_text, no_jobs, due_by}
use Rattle.dover_model.proofs.valid.Limiting.{tick_most}
use Rattle.dover_model.proofs.sessions.Accounts.{Holds, HoldsBy, IsKept, lines_goes, account_with}
use Rattle.dover_model.proofs.sessions.Emitting.{texts_more, texts_refused}
use Rattle.dover_model.proofs.sessions.Growing.{settled_later, settled_of_run, refused_instance}
use Rattle.dover_model.specs.declared.horizon.Horizon.TheVariants.{Mark, End}
use Rattle.event_feed.specs.Kept.{cause_of_fault}
use Rattle.event_feed.specs.Answers.{DeclaresRatio, MovesMark, EndsFeed, NewFault, OldFault, counted}
use Rattle.event_feed.specs.declared.faults.FeedFault.{FeedFault}
use Rattle.lane_server.specs.Lanes.{lines_added}
use Rattle.lane_server.specs.Lane.{Fits, Running, reach}
use Rattle.ready_server.specs.Serving.{Serves}
use Rattle.ready_server.specs.declared.server.ReadyServer.{ReadyServer}

-- ---- accounts

-- an account that goes on keeps what open accounts keep of their session
pub holds_of : (a : Account) (S : Session) → IsKept a → a.standing ≡ Open → a.session ≡ Some S
    → Holds S a.mark a.lines
holds_of a S kept stands there =
    subst (λ o. HoldsBy Open o a.mark a.lines) there (subst
    (λ x. HoldsBy x a.session a.mark a.lines) stands kept)

-- each account of lines keeps what accounts keep
pub lines_kept : (ls : List (List ℕ)) → IsKept (account_of_lines ls)
lines_kept ls = (lines_goes ls no_lines zero_mark).0 where
  zero_mark : no_lines.mark ≡ 0
  zero_mark = refl

-- an account that goes on is open
pub open_stands : (a : Account) → is_open a ≡ true → a.standing ≡ Open
open_stands a opened = by_standing a.standing opened where
  by_standing : (s : Standing) → elim s [ Open ↦ true | Ended ↦ false | Faulty line cause ↦ false ] ≡ true → s ≡ Open
  by_standing Open e = refl
  by_standing _ e = absurd (let f : false ≡ true = e in cc)

-- whether it goes on, by how it stands
pub opens_by : (a : Account) (s : Standing) → a.standing ≡ s
    → is_open a ≡ elim s [ Open ↦ true | Ended ↦ false | Faulty line cause ↦ false ]
opens_by a s e = ap (λ (x : Standing). elim x [ Open ↦ true | Ended ↦ false | Faulty line cause ↦ false ]) e

-- the account of one line more
pub account_next : (ls : List (List ℕ)) (l : List ℕ)
    → account_of_lines (ls ++ l ∷ []) ≡ next_line (account_of_lines ls) l
account_next ls l = fold-append next_line no_lines ls (l ∷ [])

-- a feed that doesn't go on disregards lines
pub account_over : (ls : List (List ℕ)) (l : List ℕ) → is_open (account_of_lines ls) ≡ false
    → account_of_lines (ls ++ l ∷ []) ≡ account_of_lines ls
account_over ls l over = account_next ls l ∙ by_open (is_open (account_of_lines ls)) over where
  by_open : (b : Bool) → b ≡ false
      → cond b (read_line (record (account_of_lines ls) { lines = suc (account_of_lines ls).lines }) l)
      (account_of_lines ls) ≡ account_of_lines ls
  by_open true e = absurd (let f : true ≡ false = e in cc)
  by_open false e = refl

-- what comes behind a list, without that list
pub drop_front : {X : Type 0} (xs ys : List X) → drop (length xs) (xs ++ ys) ≡ ys
drop_front [] ys = refl
drop_front (x ∷ xs) ys = drop_front xs ys

-- what is due beyond what was due is what a line adds
pub added_is : (ls : List (List ℕ)) (l : List ℕ) (rest : List (List ℕ))
    → due_lines (account_of_lines (ls ++ l ∷ [])) ≡ due_lines (account_of_lines ls) ++ rest → rest ≡ lines_added ls l
added_is ls l rest due =
    sym (ap (drop (length (due_lines (account_of_lines ls)))) due ∙ drop_front (due_lines (account_of_lines ls)) rest)

-- ---- what is due for an account

-- the account of its parts
parts : (a : Account) (session : Option Session) (standing : Standing) → a.session ≡ session → a.standing ≡ standing
    → due_lines a ≡ due_lines (account_with a.lines session a.mark standing)
parts a session standing e f =
    ap (λ o. due_lines (account_with a.lines o a.mark a.standing)) e
    ∙ ap (λ x. due_lines (account_with a.lines session a.mark x)) f

-- of one that goes on
pub due_open : (a : Account) (S : Session) → a.session ≡ Some S → a.standing ≡ Open
    → due_lines a ≡ texts_among S (settled (instance_of S) a.mark)
due_open a S e f = parts a (Some S) Open e f ∙ append-nil (texts_among S (settled (instance_of S) a.mark))

-- of one that has ended
due_ended : (a : Account) (S : Session) → a.session ≡ Some S → a.standing ≡ Ended
    → due_lines a ≡ texts_among S (printed (instance_of S))
due_ended a S e f = parts a (Some S) Ended e f ∙ append-nil (texts_among S (printed (instance_of S)))

-- of one with no session yet
due_nothing : (a : Account) → a.session ≡ None → a.standing ≡ Open → due_lines a ≡ []
due_nothing a e f = parts a None Open e f

-- a fault comes behind what was due
pub due_fault : (a b : Account) (line : ℕ) (cause : Cause) → a.standing ≡ Open
    → b ≡ record a { lines = suc a.lines; standing = Faulty line cause }
    → due_lines b ≡ due_lines a ++ fault_text line cause ∷ []
due_fault a b line cause stands is =
    ap due_lines is ∙ by_session a.session
    ∙ ap (λ ls. ls ++ fault_text line cause ∷ []) (sym (parts a _ Open refl stands))
  where
    by_session : (o : Option Session) → due_lines (account_with (suc a.lines) o a.mark (Faulty line cause)) ≡ due_lines
        (account_with a.lines o a.mark Open) ++ fault_text line cause ∷ []
    by_session None = refl
    by_session (Some S) = ap (λ ls. ls ++ fault_text line cause ∷ [])
        (sym (append-nil (texts_among S (settled (instance_of S) a.mark))))

-- the same session
pub one_session : (S T : Session) (a : Account) → a.session ≡ Some S → a.session ≡ Some T → S ≡ T
one_session S T a e f = cc

-- ---- how far the run of an account's jobs is due

-- by how the account stands
reach_by : (a : Account) (x : Standing) → a.standing ≡ x
    → reach a ≡ cond (elim x [ Open ↦ false | Ended ↦ true | Faulty line cause ↦ false ]) End (Mark a.mark)
reach_by a x e = ap (λ (y : Standing).
    cond (elim y [ Open ↦ false | Ended ↦ true | Faulty line cause ↦ false ]) End (Mark a.mark)) e

-- to the mark, where the account goes on
pub reach_open : (a : Account) → a.standing ≡ Open → reach a ≡ Mark a.mark
reach_open a stands = reach_by a Open stands

-- the server of an account's session has printed what is settled
pub open_serves : (a : Account) (S : Session) (v : ReadyServer) → Fits a (Some v) → a.session ≡ Some S
    → a.standing ≡ Open → Serves v (instance_of S) (Mark a.mark) (settled (instance_of S) a.mark)
open_serves a S v fits there stands =
    subst (λ h. Serves v (instance_of S) h (due_by (instance_of S) h)) (reach_open a stands)
    (subst (λ (T : Session). Serves v (instance_of T) (reach a) (due_by (instance_of T) (reach a)))
    (one_session fits.0 S a fits.1 there) fits.2)

-- it fits another account for which as much is due
pub fits_same : (a b : Account) (server : Option ReadyServer) → b.session ≡ a.session → reach b ≡ reach a
    → Fits a server → Fits b server
fits_same a b None same far fits = same ∙ fits
fits_same a b (Some v) same far fits = (
  fits.0,
  same ∙ fits.1,
  subst (λ h. Serves v (instance_of fits.0) h (due_by (instance_of fits.0) h)) (sym far) fits.2,
)

-- ---- the ratio line

-- nothing is settled where no job is admitted
nothing_settled : (rules : Declaration) → settled (instance_of (new_session rules)) 0 ≡ []
nothing_settled rules = refl

module _ (a b : Account) (k : Fraction) (version : Version) (stands : a.standing ≡ Open)
    (it : DeclaresRatio k version (counted a) b) where
  -- the session
  abbrev started : Session
  started = new_session (rules_with k version)

  -- it is there
  header_session : b.session ≡ Some started
  header_session = ap (λ (x : Account). x.session) it.after_is

  -- the account goes on
  pub header_stands : b.standing ≡ Open
  header_stands = ap (λ (x : Account). x.standing) it.after_is ∙ stands

  -- the mark is 0
  pub header_mark : b.mark ≡ a.mark
  header_mark = ap (λ (x : Account). x.mark) it.after_is

  -- the header is due
  pub header_due : due_lines b ≡ due_lines a ++ header (rules_with k version) ∷ []
  header_due = due_open b started header_session header_stands
      ∙ ap (λ m. texts_among started (settled (instance_of started) m)) (header_mark ∙ it.no_mark)
      ∙ ap (λ es. header (rules_with k version) ∷ map text_of_line (map Printed es))
      (nothing_settled (rules_with k version))
      ∙ ap (λ ls. ls ++ header (rules_with k version) ∷ []) (sym (due_nothing a it.first stands))

  -- a new server has served all that is settled
  pub header_fits : (v : ReadyServer) → Serves v (no_jobs version k) (Mark 0) []
      → Fits b (Some v)
  header_fits v new = (
    started,
    header_session,
    subst (λ h. Serves v (instance_of started) h (due_by (instance_of started) h))
        (sym (reach_open b header_stands ∙ ap Mark (header_mark ∙ it.no_mark)))
        (subst (Serves v (instance_of started) (Mark 0)) (sym (nothing_settled (rules_with k version))) new),
  )

-- ---- a fault

-- the line of the fault is due
pub new_fault_due : (bytes : List ℕ) (fault : FeedFault) (a b : Account) → NewFault bytes fault a b
    → due_lines b ≡ due_lines a ++ fault_text fault.line (cause_of_fault fault.cause) ∷ []
new_fault_due bytes fault a b it = due_fault a b (suc a.lines) (cause_of_fault fault.cause) it.opened it.after_is
    ∙ ap (λ n. due_lines a ++ fault_text n (cause_of_fault fault.cause) ∷ []) (sym it.line)

-- and as much of the session is due as before
pub new_fault_fits : (bytes : List ℕ) (fault : FeedFault) (a b : Account)
    (server : Option ReadyServer) → NewFault bytes fault a b → Fits a server → Fits b server
new_fault_fits bytes fault a b server it fits =
    fits_same a b server (ap (λ (x : Account). x.session) it.after_is)
    (reach_by b _ (ap (λ (x : Account). x.standing) it.after_is)
    ∙ ap (λ (x : Account). Mark x.mark) it.after_is ∙ sym (reach_open a it.opened)) fits

-- an account that goes on has no fault yet
pub new_fault : (bytes : List ℕ) (fault : FeedFault) (a b : Account) → a.standing ≡ Open → NewFault bytes fault a b
    ⊎ OldFault fault a b
    → NewFault bytes fault a b
new_fault bytes fault a b stands (inl is) = is
new_fault bytes fault a b stands (inr was) = absurd (let e = sym stands ∙ was.faulty in cc)

-- ---- lines of a feed with a session

module _ (a : Account) (S : Session) (kept : IsKept a) (stands : a.standing ≡ Open)
    (there : a.session ≡ Some S) where
  -- what the account keeps
  holds : Holds S a.mark a.lines
  holds = holds_of a S kept stands there

  -- what is printed behind what is due for a
  due_on : (b : Account) (all more : List Event) → due_lines b ≡ texts_among S all
      → all ≡ settled (instance_of S) a.mark ++ more
      → due_lines b ≡ due_lines a ++ map text_of more
  due_on b all more due is = due ∙ ap (texts_among S) is
      ∙ texts_more S (settled (instance_of S) a.mark) more holds.reads.within
      ∙ ap (λ ls. ls ++ map text_of more) (sym (due_open a S there stands))

-- ---- a tick

module _ (a b : Account) (t : ℕ) (kept : IsKept a) (stands : a.standing ≡ Open) (it : MovesMark t
    (counted a) b) where
  -- what is settled further
  pub tick_begins : Begins (settled (instance_of it.session) a.mark) (settled (instance_of it.session) t)
  tick_begins = settled_later (instance_of it.session) a.mark t
      (holds_of a it.session kept stands it.before_is).reads.valid it.no_fall

  -- its lines
  abbrev pub tick_rest : List (List ℕ)
  tick_rest = map text_of tick_begins.0

  -- the account goes on
  pub tick_stands : b.standing ≡ Open
  tick_stands = ap (λ (x : Account). x.standing) it.after_is ∙ stands

  -- the mark is the tick
  pub tick_mark : b.mark ≡ t
  tick_mark = ap (λ (x : Account). x.mark) it.after_is

  -- the session stays
  tick_session : b.session ≡ Some it.session
  tick_session = ap (λ (x : Account). x.session) it.after_is ∙ it.before_is

  -- they are due
  pub tick_due : due_lines b ≡ due_lines a ++ tick_rest
  tick_due = due_on a it.session kept stands it.before_is b (settled (instance_of it.session) t) tick_begins.0
      (due_open b it.session tick_session tick_stands
      ∙ ap (λ m. texts_among it.session (settled (instance_of it.session) m)) tick_mark)
      tick_begins.1

  -- they are left
  pub tick_owes : (v : ReadyServer) → Fits a (Some v)
      → Running (Mark t) v b tick_rest
  tick_owes v fits = record {
    session = it.session;
    there = tick_session;
    reached = reach_open b tick_stands ∙ ap Mark tick_mark;
    valid = (holds_of a it.session kept stands it.before_is).reads.valid;
    from = Mark a.mark;
    follows = (it.no_fall, omega (arith, it.known, tick_most it.session.rules.version));
    events = settled (instance_of it.session) a.mark;
    served = open_serves a it.session v fits it.before_is stands;
    left = tick_begins.0;
    due = tick_begins.1;
    texts = refl;
  }

-- ---- the end

module _ (a b : Account) (kept : IsKept a) (stands : a.standing ≡ Open) (it : EndsFeed (counted a) b) where
  -- the session's jobs are valid
  end_valid : IsValid (instance_of it.session)
  end_valid = (holds_of a it.session kept stands it.before_is).reads.valid

  -- what the run prints further
  pub end_begins : Begins (settled (instance_of it.session) a.mark) (printed (instance_of it.session))
  end_begins = settled_of_run (instance_of it.session) a.mark end_valid

  -- its lines
  abbrev pub end_rest : List (List ℕ)
  end_rest = map text_of end_begins.0

  -- the account is ended
  pub end_stands : b.standing ≡ Ended
  end_stands = ap (λ (x : Account). x.standing) it.after_is

  -- the mark stays
  pub end_mark : b.mark ≡ a.mark
  end_mark = ap (λ (x : Account). x.mark) it.after_is

  -- they are due
  pub end_due : due_lines b ≡ due_lines a ++ end_rest
  end_due = due_on a it.session kept stands it.before_is b (printed (instance_of it.session)) end_begins.0
      (due_ended b it.session (ap (λ (x : Account). x.session) it.after_is ∙ it.before_is) end_stands) end_begins.1

  -- they are left
  pub end_owes : (v : ReadyServer) → Fits a (Some v) → Running End v b end_rest
  end_owes v fits = record {
    session = it.session;
    there = ap (λ (x : Account). x.session) it.after_is ∙ it.before_is;
    reached = reach_by b Ended end_stands;
    valid = end_valid;
    from = Mark a.mark;
    follows = tt;
    events = settled (instance_of it.session) a.mark;
    served = open_serves a it.session v fits it.before_is stands;
    left = end_begins.0;
    due = end_begins.1;
    texts = refl;
  }

-- ---- a refused line, at the mark as it is

module _ (a b : Account) (S : Session) (line : RefusedLine) (kept : IsKept a) (stands : a.standing ≡ Open)
    (there : a.session ≡ Some S) (open_still : b.standing ≡ Open) (same_mark : b.mark ≡ a.mark)
    (behind : b.session ≡ Some (with_item S (RefusedItem (record { at = a.mark; line = line })))) where
  -- the refused line
  abbrev refused : Refused
  refused = record { at = a.mark; line = line }

  -- its line is due
  pub refused_due : due_lines b ≡ due_lines a ++ refused_text refused ∷ []
  refused_due = due_open b (with_item S (RefusedItem refused)) behind open_still
      ∙ ap (λ m. texts_among (with_item S (RefusedItem refused))
      (settled (instance_of (with_item S (RefusedItem refused))) m))
      same_mark
      ∙ texts_refused S refused (holds_of a S kept stands there).reads
      ∙ ap (λ ls. ls ++ refused_text refused ∷ []) (sym (due_open a S there stands))

  -- the server has served the session with it
  pub refused_fits : (server : Option ReadyServer) → Fits a server
      → Fits b server
  refused_fits None fits = absurd (let e : None ≡ Some S = sym fits ∙ there in cc)
  refused_fits (Some v) fits = (
    with_item S (RefusedItem refused),
    behind,
    subst (λ h. Serves v (instance_of (with_item S (RefusedItem refused))) h
        (due_by (instance_of (with_item S (RefusedItem refused))) h))
        (sym (reach_open b open_still ∙ ap Mark same_mark))
        (subst (λ J. Serves v J (Mark a.mark) (settled J a.mark)) (sym (refused_instance S refused))
        (open_serves a S v fits there stands)),
  )

-- the mark has a numeral
pub mark_short : (a : Account) (S : Session) → IsKept a → a.standing ≡ Open → a.session ≡ Some S
    → a.mark < 10 ^ 18
mark_short a S kept stands there =
    omega (arith, (holds_of a S kept stands there).known, tick_most S.rules.version)
