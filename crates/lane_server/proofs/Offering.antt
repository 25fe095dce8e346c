-- The line of a job that may be admitted: what it adds, and what is left of that after each step of the server.
use Rattle.std.proofs.Common.{◌≡◌, ◌≤◌, ◌<◌, ◌^◌, ℕ, List, [], ◌∷◌, ◌++◌, length, drop, map, refl, sym, ap, ◌∙◌, subst}
use Rattle.std.proofs.Common.{Some, cond, Bool, true, false, arith, Ok, length-append, append_assoc}
use Rattle.std.proofs.lemmas.List.{same_from_push}
use Rattle.std.proofs.lemmas.List.Sums.{sum_by-append, sum_by-cons}
use Rattle.dover_model.specs.Common.{last_tick, due_by, JobFacts, Instance, IsValid, with_jobs, Session, Item, JobItem}
use Rattle.dover_model.specs.Common.{RefusedItem, Refused, RefusedJob, instance_of, admitted_jobs, with_item}
use Rattle.dover_model.specs.Common.{refused_at, is_full, settled, text_of, refused_text, step_numbers, texts_among}
use Rattle.dover_model.specs.Common.{AreShort, Begins, Account, Open, account_of_lines, due_lines}
use Rattle.dover_model.specs.declared.events.Event.{Event}
use Rattle.dover_model.specs.declared.events.Refusal.TheVariants.{Full}
use Rattle.dover_model.specs.declared.horizon.Horizon.{Horizon}
use Rattle.dover_model.specs.declared.horizon.Horizon.TheVariants.{Mark}
use Rattle.dover_model.proofs.valid.JobLimits.{job_limits}
use Rattle.dover_model.proofs.sessions.Accounts.{IsKept}
use Rattle.dover_model.proofs.valid.Admitting.{not_refused}
use Rattle.admission.proofs.Joining.{admitted_valid}
use Rattle.dover_model.proofs.lists.Beginnings.{begins_onward}
use Rattle.dover_model.proofs.sessions.Emitting.{texts_more, texts_job, texts_refused}
use Rattle.dover_model.proofs.sessions.Growing.{Reads, reads_later, settled_later, job_instance, refused_instance}
use Rattle.dover_model.proofs.settled.Horizons.{follows_on}
use Rattle.dover_model.proofs.lists.Members.{some_same}
use Rattle.dover_model.proofs.valid.ValidParts.{ValidParts, valid_parts}
use Rattle.event_feed.specs.Answers.{AddsJob, IsFed, counted, offered_item}
use Rattle.event_feed.specs.Kept as feed
use Rattle.event_feed.specs.declared.faults.FeedFault.{FeedFault}
use Rattle.event_feed.proofs.Accepting.{room_behind}
use Rattle.event_feed.specs.declared.fed.Fed.{Fed}
use Rattle.event_feed.specs.declared.fed.Fed.TheVariants as fed
use Rattle.lane_server.specs.Lane.{Fits, Running, Admitting, IntakeStands, TurnsTo, job_lines}
use Rattle.lane_server.specs.declared.lane.Work.{Work}
use Rattle.lane_server.specs.declared.lane.Work.TheVariants.{Admit}
use Rattle.lane_server.proofs.Adding.{holds_of, due_open, reach_open, open_serves, drop_front}
use Rattle.lane_server.proofs.Owing.{first_left, none_left, fits_at}
use Rattle.lane_server.proofs.Printing.{due_before, event_short}
use Rattle.ready_server.specs.Serving.{Serves, Rests, HasPlaceUnlessFull}
use Rattle.ready_server.specs.declared.server.ReadyServer.{ReadyServer}

-- ---- the item of a job line

module _ (S : Session) (j : JobFacts) where
  -- the jobs of the session, and those with the job
  abbrev J : Instance
  J = instance_of S

  abbrev K : Instance
  K = with_jobs J (j ∷ [])

  -- the refused line
  abbrev refused : Refused
  refused = record { at = j.release; line = RefusedJob j Full }

  -- the session with the item, and the lines that it adds, by whether the job finds no room
  abbrev item_by : Bool → Session
  item_by full = with_item S (cond full (refused_at j.release j Full) (JobItem j))

  abbrev pub lines_by : Bool → List (List ℕ)
  lines_by full = cond full (refused_text refused ∷ [])
      (map text_of (drop (length (settled J j.release)) (settled K j.release)))

  module _ (reads : Reads S j.release) (valid : IsValid K) where
    -- the texts with the line are those without it, and the lines that it adds
    pub texts_offer : texts_among (with_item S (offered_item S j)) (settled (instance_of (with_item S
        (offered_item S j))) j.release)
        ≡ texts_among S (settled J j.release) ++ job_lines S j
    texts_offer = by_room (is_full J j.release) where
      by_room : (full : Bool) → texts_among (item_by full) (settled (instance_of (item_by full)) j.release)
          ≡ texts_among S (settled J j.release) ++ lines_by full
      by_room true = texts_refused S refused reads
      by_room false =
          let begins : Begins (settled J j.release) (settled K j.release) = due_before J j valid in
          let more : begins.0 ≡ drop (length (settled J j.release)) (settled K j.release) =
          sym (ap (drop (length (settled J j.release))) begins.1 ∙ drop_front (settled J j.release) begins.0) in
          texts_job S j (settled (instance_of (with_item S (JobItem j))) j.release)
          ∙ ap (λ L. texts_among S (settled L j.release)) (job_instance S j)
          ∙ ap (texts_among S) begins.1
          ∙ texts_more S (settled J j.release) begins.0 reads.within
          ∙ ap (λ es. texts_among S (settled J j.release) ++ map text_of es) more

-- ---- what the line adds

module _ (a b : Account) (n : ℕ) (j : JobFacts) (kept : IsKept a) (stands : a.standing ≡ Open)
    (it : AddsJob n j (counted a) b) where
  -- the session was read up to the job's release
  job_reads : Reads it.session j.release
  job_reads = reads_later it.session a.mark j.release (holds_of a it.session kept stands it.before_is).reads it.no_fall

  -- the jobs are valid with the job
  job_valid : IsValid (with_jobs (instance_of it.session) (j ∷ []))
  job_valid = admitted_valid (instance_of it.session) j job_reads.valid job_reads.known it.admitted

  -- its release is a tick
  job_known : j.release ≤ last_tick
  job_known = let it = job_limits (not_refused it.session.rules (admitted_jobs it.session.items) j it.admitted).job in
      omega (arith, it.window, it.due)

  -- and has a numeral
  job_short : j.release < 10 ^ 18
  job_short = omega (arith, job_known)

  -- what is settled further without the job
  pub job_begins : Begins (settled (instance_of it.session) a.mark) (settled (instance_of it.session) j.release)
  job_begins = settled_later (instance_of it.session) a.mark j.release
      (holds_of a it.session kept stands it.before_is).reads.valid it.no_fall

  -- its lines, and those that the line adds
  abbrev pub job_rest : List (List ℕ)
  job_rest = map text_of job_begins.0 ++ job_lines it.session j

  -- the session is there
  job_there : b.session ≡ Some (with_item it.session (offered_item it.session j))
  job_there = ap (λ (x : Account). x.session) it.after_is

  -- the account goes on
  pub job_stands : b.standing ≡ Open
  job_stands = ap (λ (x : Account). x.standing) it.after_is ∙ stands

  -- the mark is the release
  pub job_mark : b.mark ≡ j.release
  job_mark = ap (λ (x : Account). x.mark) it.after_is

  -- they are due
  pub job_due : due_lines b ≡ due_lines a ++ job_rest
  job_due = due_open b (with_item it.session (offered_item it.session j)) job_there job_stands
      ∙ ap (λ m. texts_among (with_item it.session (offered_item it.session j))
      (settled (instance_of (with_item it.session (offered_item it.session j))) m)) job_mark
      ∙ texts_offer it.session j job_reads job_valid
      ∙ ap (λ es. texts_among it.session es ++ job_lines it.session j) job_begins.1
      ∙ ap (λ ls. ls ++ job_lines it.session j)
      (texts_more it.session (settled (instance_of it.session) a.mark) job_begins.0
      (holds_of a it.session kept stands it.before_is).reads.within
      ∙ ap (λ ls. ls ++ map text_of job_begins.0) (sym (due_open a it.session it.before_is stands)))
      ∙ append_assoc (due_lines a) (map text_of job_begins.0) (job_lines it.session j)

  -- they are left, once there is room for the job, if there may be
  pub job_owes : (v u : ReadyServer) → Fits a (Some v)
      → ((J : Instance) (to : Horizon) (events : List Event) → Serves v J to events → Serves u J to events)
      → HasPlaceUnlessFull u
      → Admitting j u b job_rest
  job_owes v u fits still room = record {
    session = it.session;
    there = job_there;
    reached = reach_open b job_stands ∙ ap Mark job_mark;
    valid = job_valid;
    numerals = (job_short, it.numerals);
    room = room;
    from = Mark a.mark;
    follows = (it.no_fall, job_known);
    events = settled (instance_of it.session) a.mark;
    served = still (instance_of it.session) (Mark a.mark) (settled (instance_of it.session) a.mark)
        (open_serves a it.session v fits it.before_is stands);
    left = job_begins.0;
    due = job_begins.1;
    texts = refl;
  }

-- ---- what is left after a step of the server

module _ (begins : (s : ReadyServer) (J : Instance) (to : Horizon) (events : List Event) → Serves s J to events
    → Begins events (due_by J to)) (j : JobFacts) where
  -- before the job, a step without it gives the first line that is left
  pub before_admission : (v u : ReadyServer) (a : Account) (rest : List (List ℕ)) (it : Admitting j v a rest)
      (e : Event) → Serves u (instance_of it.session) (Mark j.release) (it.events ++ e ∷ []) → HasPlaceUnlessFull u
      → (more : List (List ℕ)) × (rest ≡ text_of e ∷ more) × Admitting j u a more × AreShort (step_numbers e)
  before_admission v u a rest it e served room =
      let front : Begins (it.events ++ e ∷ []) (settled (instance_of it.session) j.release) =
      begins u (instance_of it.session) (Mark j.release) (it.events ++ e ∷ []) served in
      let all : List Event = settled (with_jobs (instance_of it.session) (j ∷ [])) j.release in (
        map text_of front.0 ++ job_lines it.session j,
        it.texts ∙ ap (λ es. map text_of es ++ job_lines it.session j)
            (first_left it.events it.left (settled (instance_of it.session) j.release) e it.due front),
        record {
          session = it.session;
          there = it.there;
          reached = it.reached;
          valid = it.valid;
          numerals = it.numerals;
          room = room;
          from = Mark j.release;
          follows = follows_on it.from (Mark j.release) it.follows;
          events = it.events ++ e ∷ [];
          served = served;
          left = front.0;
          due = front.1;
          texts = refl;
        },
        event_short (with_jobs (instance_of it.session) (j ∷ [])) (Mark j.release) it.events e it.valid
            (begins_onward (it.events ++ e ∷ []) (settled (instance_of it.session) j.release) all front
            (due_before (instance_of it.session) j it.valid)),
      )

  -- where all is given without it, the lines that it adds are left
  pub lines_left : (v : ReadyServer) (a : Account) (rest : List (List ℕ)) (it : Admitting j v a rest)
      → it.events ≡ settled (instance_of it.session) j.release → rest ≡ job_lines it.session j
  lines_left v a rest it all = it.texts ∙ ap (λ es. map text_of es ++ job_lines it.session j)
      (none_left it.events it.left (settled (instance_of it.session) j.release) it.due all)

  -- there the job gives its release, where it finds room
  pub at_admission : (v u : ReadyServer) (a : Account) (rest : List (List ℕ)) (it : Admitting j v a rest)
      → it.events ≡ settled (instance_of it.session) j.release
      → is_full (instance_of it.session) j.release ≡ false → (e : Event)
      → Serves u (with_jobs (instance_of it.session) (j ∷ [])) (Mark j.release)
      (settled (instance_of it.session) j.release ++ e ∷ [])
      → (more : List (List ℕ)) × (rest ≡ text_of e ∷ more) × Running (Mark j.release) u a more
      × AreShort (step_numbers e)
  at_admission v u a rest it all room e served =
      let S : Session = it.session in
      let L : Instance = with_jobs (instance_of S) (j ∷ []) in
      let is : instance_of (with_item S (JobItem j)) ≡ L = job_instance S j in
      let front : Begins (settled (instance_of S) j.release ++ e ∷ []) (settled L j.release) =
      begins u L (Mark j.release) (settled (instance_of S) j.release ++ e ∷ []) served in
      let more : drop (length (settled (instance_of S) j.release)) (settled L j.release) ≡ e ∷ front.0 =
      ap (drop (length (settled (instance_of S) j.release)))
      (front.1 ∙ append_assoc (settled (instance_of S) j.release) (e ∷ []) front.0)
      ∙ drop_front (settled (instance_of S) j.release) (e ∷ front.0) in (
        map text_of front.0,
        lines_left v a rest it all ∙ ap (lines_by S j) room ∙ ap (map text_of) more,
        record {
          session = with_item S (JobItem j);
          there = it.there ∙ ap (λ full. Some (item_by S j full)) room;
          reached = it.reached;
          valid = subst IsValid (sym is) it.valid;
          from = Mark j.release;
          follows = follows_on it.from (Mark j.release) it.follows;
          events = settled (instance_of S) j.release ++ e ∷ [];
          served = subst (λ M. Serves u M (Mark j.release) (settled (instance_of S) j.release ++ e ∷ [])) (sym is)
              served;
          left = front.0;
          due = ap (λ M. settled M j.release) is ∙ front.1;
          texts = refl;
        },
        event_short L (Mark j.release) (settled (instance_of S) j.release) e it.valid front,
      )

  module _ (rested : (s : ReadyServer) (J : Instance) (to : Horizon) → Rests s J to
      → Serves s J to (due_by J to)) where
    -- and where it finds none, the line that refuses it is the last
    pub at_passing : (v u : ReadyServer) (a : Account) (rest : List (List ℕ)) (it : Admitting j v a rest)
        → it.events ≡ settled (instance_of it.session) j.release
        → is_full (instance_of it.session) j.release ≡ true → Rests u (instance_of it.session) (Mark j.release)
        → (rest ≡ refused_text (refused it.session j) ∷ []) × Fits a (Some u)
    at_passing v u a rest it all full rests =
        let S : Session = it.session in
        let T : Session = with_item S (RefusedItem (refused S j)) in (
          lines_left v a rest it all ∙ ap (lines_by S j) full,
          fits_at (Mark j.release) u a T (it.there ∙ ap (λ b. Some (item_by S j b)) full) it.reached
              (subst (λ M. Serves u M (Mark j.release) (settled M j.release)) (sym (refused_instance S (refused S j)))
              (rested u (instance_of S) (Mark j.release) rests)),
        )

-- ---- the intake

-- a session is known from that with one item more
same_session : (S T : Session) (x y : Item) → Some (with_item S x) ≡ Some (with_item T y) → S ≡ T
same_session S T x y same =
    let both : with_item S x ≡ with_item T y = some_same (with_item S x) (with_item T y) same in
    let items : S.items ++ x ∷ [] ≡ T.items ++ y ∷ [] = ap (λ (U : Session). U.items) both in
    ap (λ r. let U : Session = record { rules = r; items = S.items } in U) (ap (λ (U : Session). U.rules) both)
    ∙ ap (λ is. let U : Session = record { rules = T.rules; items = is } in U)
    (same_from_push S.items T.items x y items).0

-- the limits leave room for a job with which the others are valid
pub job_room : (S : Session) (j : JobFacts) (i : feed.Kept) (mark : ℕ) → IsValid (with_jobs (instance_of S) (j ∷ []))
    → feed.KeepsSession i.session (Some S) mark → feed.HasRoom i j
job_room S j i mark valid keeps =
    let jobs : List JobFacts = admitted_jobs S.items in
    let parts : ValidParts (with_jobs (instance_of S) (j ∷ [])) = valid_parts valid in
    room_behind S j i mark keeps (omega (arith, parts.count, length-append jobs (j ∷ []))) (omega (
      arith,
      parts.total,
      sum_by-append (λ (k : JobFacts). k.value) jobs (j ∷ []),
      sum_by-cons (λ (k : JobFacts). k.value) j [],
    ))

-- with no job under way, it stands for the lines
no_job : (w : Work) (i : feed.Kept) (ls : List (List ℕ)) → ((job : JobFacts) → w ≡ Admit job → ⊥)
    → feed.StandsFor i ls → IntakeStands w i ls
no_job (Admit job) i ls none stands = absurd (none job refl)
no_job _ i ls none stands = stands

-- the intake stands as the work wants
pub intake_turns : (said : Fed) (w : Work) (i : feed.Kept) (ls : List (List ℕ)) (line : List ℕ)
    → IsFed (counted (account_of_lines ls)) (account_of_lines (ls ++ line ∷ [])) said → TurnsTo said w
    → feed.StandsBehind {E = FeedFault} (Ok said) i ls line → IntakeStands w i (ls ++ line ∷ [])
intake_turns (fed.Job n j) w i ls line it turns stands =
    subst (λ x. IntakeStands x i (ls ++ line ∷ [])) (sym turns) (λ S there.
    let same : it.session ≡ S = same_session it.session S (offered_item it.session j) (offered_item S j)
    (sym (ap (λ (x : Account). x.session) it.after_is) ∙ there) in
    subst (λ o. feed.KeepsAccount i (record (account_of_lines (ls ++ line ∷ [])) { session = o }))
    (it.before_is ∙ ap (λ T. Some T) same) stands)
intake_turns _ w i ls line it turns stands =
    no_job w i (ls ++ line ∷ []) turns (record { by_account = stands })
