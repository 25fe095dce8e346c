-- What is left after a step of the server.
use Rattle.std.proofs.Common.{◌≡◌, List, [], ◌∷◌, ◌++◌, ℕ, map, refl, sym, ap, ◌∙◌, subst, Some}
use Rattle.std.proofs.lemmas.List.{append-nil, append_assoc, append_cancel_left}
use Rattle.dover_model.specs.declared.events.Event.{Event}
use Rattle.dover_model.specs.Common.{JobFacts, Instance, Session, instance_of, AreShort, Begins, text_of, step_numbers}
use Rattle.dover_model.specs.Common.{Account, account_of_lines, MayFollow, due_by}
use Rattle.dover_model.specs.declared.horizon.Horizon.{Horizon}
use Rattle.dover_model.specs.declared.horizon.Horizon.TheVariants.{Mark}
use Rattle.dover_model.proofs.settled.Horizons.{follows_on}
use Rattle.event_feed.specs.Kept as feed
use Rattle.lane_server.specs.Lane.{Fits, Running, Admitting, Owes, GivesFault, Stands, IsQuiet, Gives, IntakeStands}
use Rattle.lane_server.specs.Lane.{reach}
use Rattle.lane_server.specs.declared.lane.Lane.{Lane}
use Rattle.lane_server.specs.declared.lane.Work.{Work}
use Rattle.lane_server.specs.declared.lane.Work.TheVariants.{Nothing, Give}
use Rattle.event_feed.specs.declared.due_line.DueLine.{DueLine}
use Rattle.lane_server.proofs.Printing.{event_short}
use Rattle.ready_server.specs.Serving.{Serves, Rests}
use Rattle.ready_server.specs.declared.server.ReadyServer.{ReadyServer}

-- what is left begins with the event
pub first_left : (events left all : List Event) (e : Event) → all ≡ events ++ left
    → (begins : Begins (events ++ e ∷ []) all) → left ≡ e ∷ begins.0
first_left events left all e due begins =
    append_cancel_left events left (e ∷ begins.0) (sym due ∙ begins.1 ∙ append_assoc events (e ∷ []) begins.0)

-- nothing is left
pub none_left : (events left all : List Event) → all ≡ events ++ left → events ≡ all → left ≡ []
none_left events left all due same = append_cancel_left events left [] (sym due ∙ sym same ∙ sym (append-nil events))

module _ (begins : (s : ReadyServer) (J : Instance) (to : Horizon) (events : List Event) → Serves s J to events
    → Begins events (due_by J to)) where
  -- a step to the horizon gives the first line that is left, and its numbers have numerals
  pub run_gives : (to : Horizon) (v u : ReadyServer) (a : Account) (rest : List (List ℕ)) (it : Running to v a rest)
      (e : Event) → Serves u (instance_of it.session) to (it.events ++ e ∷ [])
      → (more : List (List ℕ)) × (rest ≡ text_of e ∷ more) × Running to u a more × AreShort (step_numbers e)
  run_gives to v u a rest it e served =
      let front : Begins (it.events ++ e ∷ []) (due_by (instance_of it.session) to) =
      begins u (instance_of it.session) to (it.events ++ e ∷ []) served in (
        map text_of front.0,
        it.texts ∙ ap (map text_of)
            (first_left it.events it.left (due_by (instance_of it.session) to) e it.due front),
        record {
          session = it.session;
          there = it.there;
          reached = it.reached;
          valid = it.valid;
          from = to;
          follows = follows_on it.from to it.follows;
          events = it.events ++ e ∷ [];
          served = served;
          left = front.0;
          due = front.1;
          texts = refl;
        },
        event_short (instance_of it.session) to it.events e it.valid front,
      )

-- what a step to the job's release says, at the release as it was read
pub admit_steps : (job : JobFacts) (v : ReadyServer) (a : Account)
    (rest : List (List ℕ)) (it : Admitting job v a rest) (t : ℕ) → t ≡ job.release → (P : ℕ → Type 0)
    → (MayFollow it.from (Mark t) → P t) → P job.release
admit_steps job v a rest it t same P says =
    subst P same (says (subst (λ m. MayFollow it.from (Mark m)) (sym same) it.follows))

-- what is printed up to a horizon is what is due of an account
pub fits_at : (to : Horizon) (u : ReadyServer) (a : Account) (S : Session) → a.session ≡ Some S
    → reach a ≡ to → Serves u (instance_of S) to (due_by (instance_of S) to) → Fits a (Some u)
fits_at to u a S there reached served =
    (S, there, subst (λ h. Serves u (instance_of S) h (due_by (instance_of S) h)) (sym reached) served)

module _ (rested : (s : ReadyServer) (J : Instance) (to : Horizon) → Rests s J to → Serves s J to (due_by J to)) where
  -- at the horizon nothing is left
  pub run_none : (to : Horizon) (v u : ReadyServer) (a : Account) (rest : List (List ℕ)) (it : Running to v a rest)
      → it.events ≡ due_by (instance_of it.session) to → Rests u (instance_of it.session) to
      → (rest ≡ []) × Fits a (Some u)
  run_none to v u a rest it all rest_there = (
    it.texts ∙ ap (map text_of) (none_left it.events it.left (due_by (instance_of it.session) to) it.due all),
    fits_at to u a it.session it.there it.reached (rested u (instance_of it.session) to rest_there),
  )

-- ---- of a lane

-- what the lane owes, by its work and its server
pub lane_owes : (lane : Lane) (w : Work) (v : ReadyServer) (a : Account)
    (rest : List (List ℕ)) → lane.work ≡ w → lane.server ≡ Some v → Owes lane.work lane.server a rest
    → Owes w (Some v) a rest
lane_owes lane w v a rest is there owes =
    subst (λ o. Owes w o a rest) there (subst (λ x. Owes x lane.server a rest) is owes)

-- the lane with its server taken further
pub lane_stands : (lane : Lane) (w : Work) (u : ReadyServer) (ls rest more : List (List ℕ))
    → Stands lane ls rest → lane.work ≡ w → Owes w (Some u) (account_of_lines ls) more
    → Stands (record lane { server = Some u }) ls more
lane_stands lane w u ls rest more it is owes = record {
  intake = it.intake;
  opened = it.opened;
  unended = it.unended;
  marked = it.marked;
  owes = subst (λ x. Owes x (Some u) (account_of_lines ls) more) (sym is) owes;
  names = it.names;
}

-- the lane with its intake and its server taken further, and other work
pub lane_turns : (lane : Lane) (i : feed.Kept) (w : Work) (u : ReadyServer) (ls rest more : List (List ℕ))
    → Stands lane ls rest → feed.has_ended i ≡ feed.has_ended lane.intake
    → IntakeStands w i ls → Owes w (Some u) (account_of_lines ls) more → GivesFault w ls
    → Stands (record lane { intake = i; server = Some u; work = w }) ls more
lane_turns lane i w u ls rest more it ends intake owes names = record {
  intake = intake;
  opened = it.opened;
  unended = λ goes_on. ends ∙ it.unended goes_on;
  marked = it.marked;
  owes = owes;
  names = names;
}

-- the lane is at rest
pub lane_rests : (lane : Lane) (u : ReadyServer) (ls rest : List (List ℕ)) → Stands lane ls rest
    → feed.StandsFor lane.intake ls → Fits (account_of_lines ls) (Some u)
    → IsQuiet (record lane { server = Some u; work = Nothing }) ls
lane_rests lane u ls rest it intake fits =
    record { stands = lane_turns lane lane.intake Nothing u ls rest [] it refl intake (refl, fits) tt; quiet = refl }

-- the intake, where its work is none with a job
pub work_intake : (lane : Lane) (w : Work) (ls rest : List (List ℕ)) → Stands lane ls rest → lane.work ≡ w
    → IntakeStands w lane.intake ls
work_intake lane w ls rest it is = subst (λ x. IntakeStands x lane.intake ls) is it.intake

-- the lane has given all
pub lane_empty : (lane : Lane) (ls rest : List (List ℕ)) → Stands lane ls rest → lane.work ≡ Nothing
    → (rest ≡ []) × IsQuiet lane ls
lane_empty lane ls rest it is =
    let owes = subst (λ w. Owes w lane.server (account_of_lines ls) rest) is it.owes in
    (owes.0, record { stands = subst (Stands lane ls) owes.0 it; quiet = is })

-- the lane gives its one line
pub lane_given : (lane : Lane) (out : DueLine) (ls rest : List (List ℕ)) → Stands lane ls rest
    → lane.work ≡ Give out → Gives (Some out) (record lane { work = Nothing }) ls rest
lane_given lane out ls rest it is =
    let owes = subst (λ w. Owes w lane.server (account_of_lines ls) rest) is it.owes in (
      [],
      owes.0,
      record {
        intake = work_intake lane (Give out) ls rest it is;
        opened = it.opened;
        unended = it.unended;
        marked = it.marked;
        owes = (refl, owes.1);
        names = tt;
      },
      owes.2,
      subst (λ w. GivesFault w ls) is it.names,
    )
