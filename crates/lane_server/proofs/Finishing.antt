-- A done line whose tick isn't below the mark: what it adds, and what is left of that after each step of the server.
use Rattle.std.proofs.Common.{◌≡◌, ◌≤◌, ◌<◌, ◌^◌, max, ℕ, List, [], ◌∷◌, ◌++◌, length, drop, map, refl, sym, ap, ◌∙◌}
use Rattle.std.proofs.Common.{subst, Option, Some, None, is_some, cond, Bool, true, arith, ◌&&◌, option_map, le-leb}
use Rattle.std.proofs.Common.{append-nil, append_assoc}
use Rattle.std.specs.Option.{option_map_or}
use Rattle.dover_model.specs.declared.events.Event.{Event}
use Rattle.dover_model.specs.declared.events.Event.TheVariants.{Complete}
use Rattle.dover_model.specs.declared.horizon.Horizon.{Horizon}
use Rattle.dover_model.specs.declared.horizon.Horizon.TheVariants.{Mark}
use Rattle.dover_model.specs.Common.{due_by, Instance, IsValid, with_finishes, Session, FinishItem, RefusedItem}
use Rattle.dover_model.specs.Common.{EarlyFinish, Refused, RefusedDone, instance_of, with_item, with_named}
use Rattle.dover_model.specs.Common.{refused_done_at, early_at, finish_at, may_finish_early, settled, header, text_of}
use Rattle.dover_model.specs.Common.{refused_text, step_numbers, text_of_line, texts_among, places_of, put_in, AreShort}
use Rattle.dover_model.specs.Common.{Begins, Account, Open, due_lines, last_tick}
use Rattle.dover_model.proofs.valid.Limiting.{tick_most}
use Rattle.dover_model.proofs.sessions.Accounts.{IsKept}
use Rattle.dover_model.proofs.lists.Beginnings.{begins_all, begins_onward}
use Rattle.dover_model.proofs.sessions.Emitting.{texts_more, texts_refused}
use Rattle.dover_model.proofs.finishes.Further.{completes_at_mark}
use Rattle.dover_model.proofs.sessions.Growing.{Reads, reads_later, settled_later, finish_instance, refused_instance}
use Rattle.dover_model.proofs.settled.Horizons.{follows_on}
use Rattle.dover_model.proofs.finishes.Meeting.{finishing_valid}
use Rattle.dover_model.proofs.sessions.PutIn.{places_after-append}
use Rattle.dover_model.proofs.finishes.RightFinishes.{FinishSays, finish_says, finish_runs}
use Rattle.event_feed.specs.Answers.{AddsDone, counted}
use Rattle.event_feed.proofs.DoneLines.{session_done, done_session, done_standing, done_mark}
use Rattle.lane_server.specs.Lane.{Fits, Running, Finishing, done_item, done_lines}
use Rattle.lane_server.proofs.Adding.{holds_of, due_open, reach_open, open_serves, drop_front}
use Rattle.lane_server.proofs.Owing.{first_left, none_left, fits_at}
use Rattle.lane_server.proofs.Printing.{event_short}
use Rattle.ready_server.specs.Serving.{Serves, Rests}
use Rattle.ready_server.specs.declared.server.ReadyServer.{ReadyServer}

-- ---- the item of a done line

module _ (S : Session) (t n : ℕ) where
  -- the jobs of the session, and its finishes
  abbrev J : Instance
  J = instance_of S

  -- the refused line
  abbrev refused : Refused
  refused = record { at = t; line = RefusedDone t n }

  -- the session with the item, and the lines that it adds, by whether the finish is right
  abbrev item_by : Option EarlyFinish → Session
  item_by o = with_item S (option_map_or FinishItem o (refused_done_at t t n))

  abbrev pub lines_by : Option EarlyFinish → List (List ℕ)
  lines_by o = elim o [
    | None ↦ refused_text refused ∷ []
    | Some f ↦ map text_of (drop (length (settled J t)) (settled (with_finishes J (f.finish ∷ [])) t))
  ]

  -- the session with a done line, by a test and a mark
  abbrev with_test : Bool → Option EarlyFinish → ℕ → Session
  with_test b o m = cond b (with_named S (option_map FinishItem o)) (with_item S (refused_done_at m t n))

  -- the session with a done line whose tick isn't below the mark
  pub session_later : (mark : ℕ) → mark ≤ t → may_finish_early S.rules.version ≡ true
      → session_done S mark t n ≡ with_item S (done_item S t n)
  session_later mark later may =
      ap (λ b. with_test (b && is_some (early_at S t n)) (early_at S t n) (max mark t)) (le-leb mark t later)
      ∙ ap (λ m. with_test (is_some (early_at S t n)) (early_at S t n) m) (let e : max mark t ≡ t = omega arith in e)
      ∙ ap (λ b. with_test (is_some (cond b (finish_at J t n) None)) (cond b (finish_at J t n) None) t) may
      ∙ by_finish (finish_at J t n) where
        by_finish : (o : Option EarlyFinish) → with_test (is_some o) o t ≡ item_by o
        by_finish None = refl
        by_finish (Some f) = refl

  module _ (reads : Reads S t) where
    -- what is settled begins what is settled with a finish that is right
    pub finish_begins : (f : EarlyFinish) → finish_at J t n ≡ Some f
        → Begins (settled J t) (settled (with_finishes J (f.finish ∷ [])) t)
    finish_begins f right =
        let says : FinishSays J t n f = finish_says J t n f right in
        begins_onward (settled J t) (settled J t ++ Complete t says.job.number ∷ [])
        (settled (with_finishes J (f.finish ∷ [])) t) (begins_all (settled J t) (Complete t says.job.number ∷ []))
        (subst (λ g. Begins (settled J t ++ Complete t says.job.number ∷ []) (settled (with_finishes J (g ∷ [])) t))
        (ap (λ (g : EarlyFinish). g.finish) says.is) (completes_at_mark J reads.valid t says.job
        (finish_runs J t n f says)))

    -- a finish adds nothing by itself
    texts_finish : (f : EarlyFinish) (steps : List Event)
        → texts_among (with_item S (FinishItem f)) steps ≡ texts_among S steps
    texts_finish f steps = ap (λ ps. header S.rules ∷ map text_of_line (put_in ps 0 steps))
        (places_after-append S.rules [] S.items (FinishItem f ∷ []) ∙ append-nil (places_of S))

    -- the texts with the line are those without it, and the lines that it adds
    pub texts_done : texts_among (with_item S (done_item S t n)) (settled (instance_of (with_item S
        (done_item S t n))) t)
        ≡ texts_among S (settled J t) ++ done_lines S t n
    texts_done = by_finish (finish_at J t n) refl where
      by_finish : (o : Option EarlyFinish) → finish_at J t n ≡ o
          → texts_among (item_by o) (settled (instance_of (item_by o)) t) ≡ texts_among S (settled J t) ++ lines_by o
      by_finish None is = texts_refused S refused reads
      by_finish (Some f) is =
          let begins : Begins (settled J t) (settled (with_finishes J (f.finish ∷ [])) t) = finish_begins f is in
          let more : begins.0 ≡ drop (length (settled J t)) (settled (with_finishes J (f.finish ∷ [])) t) =
          sym (ap (drop (length (settled J t))) begins.1 ∙ drop_front (settled J t) begins.0) in
          texts_finish f (settled (instance_of (with_item S (FinishItem f))) t)
          ∙ ap (λ K. texts_among S (settled K t)) (finish_instance S f)
          ∙ ap (texts_among S) begins.1
          ∙ texts_more S (settled J t) begins.0 reads.within
          ∙ ap (λ es. texts_among S (settled J t) ++ map text_of es) more

-- ---- what the line adds

module _ (a b : Account) (t n : ℕ) (kept : IsKept a) (stands : a.standing ≡ Open)
    (it : AddsDone t n (counted a) b) (later : a.mark ≤ t) where
  -- the session was read up to the tick
  done_reads : Reads it.session t
  done_reads = reads_later it.session a.mark t (holds_of a it.session kept stands it.before_is).reads later

  -- what is settled further without the line
  pub done_begins : Begins (settled (instance_of it.session) a.mark) (settled (instance_of it.session) t)
  done_begins = settled_later (instance_of it.session) a.mark t
      (holds_of a it.session kept stands it.before_is).reads.valid later

  -- its lines, and those that the line adds
  abbrev pub done_rest : List (List ℕ)
  done_rest = map text_of done_begins.0 ++ done_lines it.session t n

  -- the session is there
  done_there : b.session ≡ Some (with_item it.session (done_item it.session t n))
  done_there = ap (λ (x : Account). x.session) it.after_is ∙ done_session it.session t n (counted a) it.before_is
      ∙ ap (λ S. Some S) (session_later it.session t n a.mark later it.version)

  -- the account goes on
  pub done_stands : b.standing ≡ Open
  done_stands = ap (λ (x : Account). x.standing) it.after_is ∙ done_standing it.session t n (counted a) ∙ stands

  -- the mark is the tick
  pub done_at : b.mark ≡ t
  done_at = ap (λ (x : Account). x.mark) it.after_is ∙ done_mark it.session t n (counted a)
      ∙ (let e : max a.mark t ≡ t = omega arith in e)

  -- they are due
  pub done_due : due_lines b ≡ due_lines a ++ done_rest
  done_due = due_open b (with_item it.session (done_item it.session t n)) done_there done_stands
      ∙ ap (λ m. texts_among (with_item it.session (done_item it.session t n))
      (settled (instance_of (with_item it.session (done_item it.session t n))) m)) done_at
      ∙ texts_done it.session t n done_reads
      ∙ ap (λ es. texts_among it.session es ++ done_lines it.session t n) done_begins.1
      ∙ ap (λ ls. ls ++ done_lines it.session t n)
      (texts_more it.session (settled (instance_of it.session) a.mark) done_begins.0
      (holds_of a it.session kept stands it.before_is).reads.within
      ∙ ap (λ ls. ls ++ map text_of done_begins.0) (sym (due_open a it.session it.before_is stands)))
      ∙ append_assoc (due_lines a) (map text_of done_begins.0) (done_lines it.session t n)

  -- its tick is one
  tick_there : t ≤ last_tick
  tick_there = omega (arith, it.known, tick_most it.session.rules.version)

  -- so it has a numeral
  tick_short : t < 10 ^ 18
  tick_short = omega (arith, tick_there)

  -- they are left
  pub done_owes : (v : ReadyServer) → Fits a (Some v) → Finishing t n v b done_rest
  done_owes v fits = record {
    session = it.session;
    there = done_there;
    reached = reach_open b done_stands ∙ ap Mark done_at;
    valid = done_reads.valid;
    numerals = (tick_short, (tick_short, it.numerals));
    from = Mark a.mark;
    follows = (later, tick_there);
    events = settled (instance_of it.session) a.mark;
    served = open_serves a it.session v fits it.before_is stands;
    left = done_begins.0;
    due = done_begins.1;
    texts = refl;
  }

-- ---- what is left after a step of the server

module _ (begins : (s : ReadyServer) (J : Instance) (to : Horizon) (events : List Event) → Serves s J to events
    → Begins events (due_by J to)) (t n : ℕ) where
  -- before the finish, a step without it gives the first line that is left
  pub before_finish : (v u : ReadyServer) (a : Account) (rest : List (List ℕ)) (it : Finishing t n v a rest)
      (e : Event) → Serves u (instance_of it.session) (Mark t) (it.events ++ e ∷ [])
      → (more : List (List ℕ)) × (rest ≡ text_of e ∷ more) × Finishing t n u a more × AreShort (step_numbers e)
  before_finish v u a rest it e served =
      let front : Begins (it.events ++ e ∷ []) (settled (instance_of it.session) t) =
      begins u (instance_of it.session) (Mark t) (it.events ++ e ∷ []) served in (
        map text_of front.0 ++ done_lines it.session t n,
        it.texts ∙ ap (λ es. map text_of es ++ done_lines it.session t n)
            (first_left it.events it.left (settled (instance_of it.session) t) e it.due front),
        record {
          session = it.session;
          there = it.there;
          reached = it.reached;
          valid = it.valid;
          numerals = it.numerals;
          from = Mark t;
          follows = follows_on it.from (Mark t) it.follows;
          events = it.events ++ e ∷ [];
          served = served;
          left = front.0;
          due = front.1;
          texts = refl;
        },
        event_short (instance_of it.session) (Mark t) it.events e it.valid front,
      )

  -- where all is given without it, the lines that it adds are left
  lines_left : (v : ReadyServer) (a : Account) (rest : List (List ℕ)) (it : Finishing t n v a rest)
      → it.events ≡ settled (instance_of it.session) t → rest ≡ done_lines it.session t n
  lines_left v a rest it all = it.texts ∙ ap (λ es. map text_of es ++ done_lines it.session t n)
      (none_left it.events it.left (settled (instance_of it.session) t) it.due all)

  -- there the finish gives the completion, where it is right
  pub at_finish : (v u : ReadyServer) (a : Account) (rest : List (List ℕ)) (it : Finishing t n v a rest)
      → it.events ≡ settled (instance_of it.session) t
      → (f : EarlyFinish) → finish_at (instance_of it.session) t n ≡ Some f → (e : Event)
      → Serves u (with_finishes (instance_of it.session) (f.finish ∷ [])) (Mark t)
      (settled (instance_of it.session) t ++ e ∷ [])
      → (more : List (List ℕ)) × (rest ≡ text_of e ∷ more) × Running (Mark t) u a more × AreShort (step_numbers e)
  at_finish v u a rest it all f right e served =
      let S : Session = it.session in
      let K : Instance = with_finishes (instance_of S) (f.finish ∷ []) in
      let is : instance_of (with_item S (FinishItem f)) ≡ K = finish_instance S f in
      let valid : IsValid K =
      finishing_valid (instance_of S) ((instance_of S).rules.finishes ++ f.finish ∷ []) it.valid in
      let front : Begins (settled (instance_of S) t ++ e ∷ []) (settled K t) =
      begins u K (Mark t) (settled (instance_of S) t ++ e ∷ []) served in
      let more : drop (length (settled (instance_of S) t)) (settled K t) ≡ e ∷ front.0 =
      ap (drop (length (settled (instance_of S) t)))
      (front.1 ∙ append_assoc (settled (instance_of S) t) (e ∷ []) front.0)
      ∙ drop_front (settled (instance_of S) t) (e ∷ front.0) in (
        map text_of front.0,
        lines_left v a rest it all ∙ ap (lines_by S t n) right ∙ ap (map text_of) more,
        record {
          session = with_item S (FinishItem f);
          there = it.there ∙ ap (λ o. Some (item_by S t n o)) right;
          reached = it.reached;
          valid = subst IsValid (sym is) valid;
          from = Mark t;
          follows = follows_on it.from (Mark t) it.follows;
          events = settled (instance_of S) t ++ e ∷ [];
          served = subst (λ L. Serves u L (Mark t) (settled (instance_of S) t ++ e ∷ [])) (sym is) served;
          left = front.0;
          due = ap (λ L. settled L t) is ∙ front.1;
          texts = refl;
        },
        event_short K (Mark t) (settled (instance_of S) t) e valid front,
      )

module _ (rested : (s : ReadyServer) (J : Instance) (to : Horizon) → Rests s J to → Serves s J to (due_by J to))
    (t n : ℕ) where
  -- and where it isn't, the line that refuses it is the last
  pub at_refusal : (v u : ReadyServer) (a : Account) (rest : List (List ℕ)) (it : Finishing t n v a rest)
      → it.events ≡ settled (instance_of it.session) t
      → finish_at (instance_of it.session) t n ≡ None → Rests u (instance_of it.session) (Mark t)
      → (rest ≡ refused_text (refused it.session t n) ∷ []) × Fits a (Some u)
  at_refusal v u a rest it all wrong rests =
      let S : Session = it.session in
      let T : Session = with_item S (RefusedItem (refused S t n)) in (
        it.texts ∙ ap (λ es. map text_of es ++ done_lines S t n)
            (none_left it.events it.left (settled (instance_of S) t) it.due all) ∙ ap (lines_by S t n) wrong,
        fits_at (Mark t) u a T (it.there ∙ ap (λ o. Some (item_by S t n o)) wrong) it.reached
            (subst (λ K. Serves u K (Mark t) (settled K t)) (sym (refused_instance S (refused S t n)))
            (rested u (instance_of S) (Mark t) rests)),
      )
