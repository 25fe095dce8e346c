-- What bytes of a feed hand to its lane, and what is left to give then.
use Rattle.std.proofs.Common.{◌≡◌, ℕ, List, [], ◌∷◌, ◌++◌, sym, ap, ◌∙◌, subst, refl, true, false, cond, Some}
use Rattle.std.proofs.Common.{Result, Ok, Err, append-nil, OnOk, OnErr, None, length, option_map, ◌≤◌, ◌+◌, Option}
use Rattle.std.proofs.Common.{arith, length-append}
use Rattle.std.proofs.lemmas.List.Elements.{filter_map-append}
use Rattle.std.specs.List.{cons_option}
use Rattle.dover_model.specs.declared.events.Event.{Event}
use Rattle.dover_model.specs.declared.horizon.Horizon.{Horizon}
use Rattle.dover_model.specs.Common.{JobFacts, Item, job_of_item}
use Rattle.event_feed.specs.Answers.{admitted_in}
use Rattle.lane_server.specs.declared.lane.Work.{Work}
use Rattle.dover_model.specs.declared.Memory.{Memory}
use Rattle.dover_model.specs.Common.{due_lines, Account, Standing, Open, Ended, Faulty, account, account_of_lines}
use Rattle.dover_model.specs.Common.{is_open, is_ended, next_line, lines_of, rest_of, is_too_long, Session, instance_of}
use Rattle.dover_model.specs.Common.{admitted_jobs, settled, Begins, due_by}
use Rattle.dover_model.proofs.sessions.Accounts.{lines_goes}
use Rattle.line_text.specs.Cutting.{Cutting, StandsFor, with_byte}
use Rattle.dover_model.specs.declared.horizon.Horizon.TheVariants.{Mark}
use Rattle.event_feed.specs.Kept as feed
use Rattle.event_feed.proofs.GoingOn.{open_short}
use Rattle.lane_server.specs.Lane.{IsDeclared, Fits, Owes, Stands, IsQuiet}
use Rattle.lane_server.specs.Lanes.{lines_added}
use Rattle.lane_server.specs.Feeding.{Hands}
use Rattle.lane_server.specs.declared.feed.Feed.{Feed}
use Rattle.lane_server.specs.declared.lane.Lane.{Lane}
use Rattle.lane_server.specs.declared.lane.Work.TheVariants.{Nothing, Give, Run, Admit, Finish}
use Rattle.lane_server.proofs.Adding.{account_next, added_is, lines_kept, open_serves, open_stands, opens_by}
use Rattle.lane_server.proofs.Adding.{reach_open}
use Rattle.ready_server.proofs.Rostered.{served_jobs}
use Rattle.ready_server.specs.Serving.{Serves}
use Rattle.ready_server.specs.declared.server.ReadyServer.{ReadyServer}

-- a feed that has ended doesn't go on
pub ended_over : (a : Account) → is_ended a ≡ true → is_open a ≡ false
ended_over a ended = by a.standing ended where
  by : (s : Standing) → elim s [ Open ↦ false | Ended ↦ true | Faulty line cause ↦ false ] ≡ true
      → elim s [ Open ↦ true | Ended ↦ false | Faulty line cause ↦ false ] ≡ false
  by Open is = absurd (let e : false ≡ true = is in cc)
  by _ is = refl

-- a line adds to what was due
pub due_added : (ls : List (List ℕ)) (l : List ℕ)
    → due_lines (account_of_lines (ls ++ l ∷ [])) ≡ due_lines (account_of_lines ls) ++ lines_added ls l
due_added ls l =
    let grows : Begins (due_lines (account_of_lines ls)) (due_lines (next_line (account_of_lines ls) l)) =
    (lines_goes (l ∷ []) (account_of_lines ls) (lines_kept ls)).1 in
    let whole : due_lines (account_of_lines (ls ++ l ∷ [])) ≡ due_lines (account_of_lines ls) ++ grows.0 =
    ap due_lines (account_next ls l) ∙ grows.1 in
    whole ∙ ap (λ ms. due_lines (account_of_lines ls) ++ ms) (added_is ls l grows.0 whole)

module _ (x : List ℕ) (goes : is_open (account x) ≡ true) where
  -- no line that has begun is too long
  pub begun_short : is_too_long (rest_of x) ≡ false
  begun_short = open_short x (open_stands (account x) goes)

  -- so each byte is kept
  pub byte_kept : (c : Cutting) (byte : ℕ) → StandsFor c (with_byte x byte) → StandsFor c (x ++ byte ∷ [])
  byte_kept c byte it = subst (StandsFor c) (ap (λ b. cond b x (x ++ byte ∷ [])) begun_short) it

module _ (feed : Feed) (x bytes : List ℕ)
    (cut : StandsFor feed.lines (x ++ bytes)) where
  -- no line has ended
  pub hands_none : (y : Unit {0}) → lines_of (x ++ bytes) ≡ lines_of x → IsQuiet feed.lane (lines_of x)
      → Hands feed x bytes (Ok y)
  hands_none y same quiet = (
    [],
    ap (λ ls. due_lines (account_of_lines ls)) same ∙ sym (append-nil (due_lines (account x))),
    record { cut = cut; lane = subst (λ ls. Stands feed.lane ls []) (sym same) quiet.stands },
  )

  -- a line has ended
  pub hands_line : (r : Result (Unit {0}) Memory) (line : List ℕ) → lines_of (x ++ bytes) ≡ lines_of x ++ line ∷ []
      → OnOk r (Stands feed.lane (lines_of x ++ line ∷ []) (lines_added (lines_of x) line))
      → OnErr r (IsDeclared (account_of_lines (lines_of x ++ line ∷ []))) → Hands feed x bytes r
  hands_line (Ok y) line more stands lacks = (
    lines_added (lines_of x) line,
    ap (λ ls. due_lines (account_of_lines ls)) more ∙ due_added (lines_of x) line,
    record {
      cut = cut;
      lane = subst (λ ls. Stands feed.lane ls (lines_added (lines_of x) line)) (sym more) stands;
    },
  )
  hands_line (Err e) line more stands lacks = subst (λ ls. IsDeclared (account_of_lines ls)) (sym more) lacks

-- ---- the jobs of a lane

-- an item more is a job at most
one_more : (items : List Item) (item : Item)
    → length (admitted_jobs (items ++ item ∷ [])) ≤ length (admitted_jobs items) + 1
one_more items item = omega (
  arith,
  ap length (filter_map-append job_of_item items (item ∷ [])),
  length-append (admitted_jobs items) (cons_option (job_of_item item) []),
  by (job_of_item item),
) where
  by : (o : Option JobFacts) → length (cons_option o []) ≤ 1
  by None = omega arith
  by (Some j) = omega arith

-- so many jobs at most are admitted, of a session that is there
pub record HasJobs (a : Account) (most : ℕ) : Type 0 where
  pub declared : IsDeclared a
  pub few : admitted_in a ≤ most

-- the jobs of a session, if there is one
abbrev jobs_in : Option Session → ℕ
jobs_in o = elim o [ None ↦ 0 | Some S ↦ length (admitted_jobs S.items) ]

has_jobs : (a : Account) (S : Session) → a.session ≡ Some S → (v : ReadyServer) (T : Session) (to : Horizon)
    (events : List Event) → Serves v (instance_of T) to events
    → length (admitted_jobs S.items) ≤ length (admitted_jobs T.items) + 1 → HasJobs a (v.ready.jobs + 1)
has_jobs a S there v T to events served few = record {
  declared = (S, there);
  few = omega (arith, ap jobs_in there, served_jobs v (instance_of T) to events served, few);
}

-- a server has all of them, but for one that is under way
pub owes_jobs : (w : Work) (v : ReadyServer) (a : Account) (rest : List (List ℕ)) → Owes w (Some v) a rest
    → HasJobs a (v.ready.jobs + 1)
owes_jobs Nothing v a rest owes = has_jobs a owes.1.0 owes.1.1 v owes.1.0 _ _ owes.1.2 (omega arith)
owes_jobs (Give out) v a rest owes = has_jobs a owes.1.0 owes.1.1 v owes.1.0 _ _ owes.1.2 (omega arith)
owes_jobs (Run to) v a rest it = has_jobs a it.session it.there v it.session it.from it.events it.served (omega arith)
owes_jobs (Admit job) v a rest it =
    has_jobs a _ it.there v it.session it.from it.events it.served (one_more it.session.items _)
owes_jobs (Finish at number) v a rest it =
    has_jobs a _ it.there v it.session it.from it.events it.served (one_more it.session.items _)

-- where there is none, nothing was declared
pub owes_nothing : (w : Work) (a : Account) (rest : List (List ℕ)) → Owes w None a rest → admitted_in a ≡ 0
owes_nothing Nothing a rest owes = ap jobs_in owes.1
owes_nothing (Give out) a rest owes = ap jobs_in owes.1
owes_nothing _ a rest owes = absurd owes

-- ---- a lane that has given all, by its version

module _ (lane : Lane) (ls : List (List ℕ)) (it : IsQuiet lane ls) where
  -- its server, if it has one, has taken the session
  fits_there : Fits (account_of_lines ls) lane.server
  fits_there = (subst (λ w. Owes w lane.server (account_of_lines ls) []) it.quiet it.stands.owes).1

  -- where it has none, none is declared
  pub jobs_nowhere : lane.server ≡ None
      → None ≡ option_map (λ (S : Session). length (admitted_jobs S.items)) (account_of_lines ls).session
  jobs_nowhere none = sym (ap (option_map (λ (S : Session). length (admitted_jobs S.items)))
      (subst (Fits (account_of_lines ls)) none fits_there))

  -- otherwise it has as many jobs as the server
  pub jobs_where : (v : ReadyServer) → lane.server ≡ Some v
      → Some v.ready.jobs
      ≡ option_map (λ (S : Session). length (admitted_jobs S.items)) (account_of_lines ls).session
  jobs_where v there =
      let fits : Fits (account_of_lines ls) (Some v) = subst (Fits (account_of_lines ls)) there fits_there in
      ap Some (served_jobs v (instance_of fits.0) _ _ fits.2)
      ∙ sym (ap (option_map (λ (S : Session). length (admitted_jobs S.items))) fits.1)

-- ---- a lane that goes on and has given all

module _ (ls : List (List ℕ))
    (stands : (account_of_lines ls).standing ≡ Open) where
  -- the server has taken the run of this session to the mark
  abbrev pub AtMark : ReadyServer → Session → ℕ → Type 0
  AtMark v S mark = Serves v (instance_of S) (Mark mark) (settled (instance_of S) mark)

  -- its server has
  pub quiet_serves : (lane : Lane) → IsQuiet lane ls → (v : ReadyServer) → lane.server ≡ Some v
      → (S : Session) × ((account_of_lines ls).session ≡ Some S) × AtMark v S (account_of_lines ls).mark
  quiet_serves lane it v there =
      let owes = subst (λ w. Owes w lane.server (account_of_lines ls) []) it.quiet it.stands.owes in
      let fits : Fits (account_of_lines ls) (Some v) = subst (Fits (account_of_lines ls)) there owes.1 in
      (fits.0, fits.1, open_serves (account_of_lines ls) fits.0 v fits fits.1 stands)

  -- so a lane is quiet that goes on with such a server
  pub quiet_on : (intake : feed.Kept) (v : ReadyServer) (S : Session) (mark : ℕ)
      → feed.StandsFor intake ls → feed.IsGoing intake
      → (account_of_lines ls).session ≡ Some S → mark ≡ (account_of_lines ls).mark
      → AtMark v S (account_of_lines ls).mark
      → IsQuiet (record { intake = intake; server = Some v; mark = mark; is_open = true; work = Nothing }) ls
  quiet_on intake v S mark it going there marked served = record {
    stands = record {
      intake = it;
      opened = sym (opens_by (account_of_lines ls) Open stands);
      unended = λ is. going.not_ended;
      marked = marked;
      owes = (
        refl,
        (
          S,
          there,
          subst (λ h. Serves v (instance_of S) h (due_by (instance_of S) h))
              (sym (reach_open (account_of_lines ls) stands)) served,
        ),
      );
      names = tt;
    };
    quiet = refl;
  }
