-- How a lane comes to owe what a line of its feed adds.
use Rattle.std.proofs.Common.{◌≡◌, ◌<◌, ◌^◌, ℕ, List, [], ◌∷◌, ◌++◌, refl, sym, ap, ◌∙◌, subst, Option, Some, None}
use Rattle.std.proofs.Common.{Bool, true, false, Result, Ok, arith, max, ◌≤◌, append-nil}
use Rattle.dover_model.specs.declared.events.Version.{Version}
use Rattle.dover_model.specs.declared.events.Refusal.{Refusal}
use Rattle.dover_model.specs.Common.{JobFacts, job_of_numbers, Fraction, RefusedItem, RefusedLine, RefusedJob}
use Rattle.dover_model.specs.Common.{RefusedDone, Session, new_session, with_item, Account, Open, Ended}
use Rattle.dover_model.specs.Common.{account_of_lines, is_open, rules_with, due_lines, header, refused_text, Instance}
use Rattle.dover_model.specs.Common.{no_jobs}
use Rattle.dover_model.proofs.valid.Limiting.{tick_most}
use Rattle.dover_model.specs.declared.events.Event.{Event}
use Rattle.dover_model.specs.declared.horizon.Horizon.{Horizon}
use Rattle.dover_model.specs.declared.horizon.Horizon.TheVariants.{Mark, End}
use Rattle.event_feed.specs.Kept as feed
use Rattle.event_feed.specs.Answers.{DeclaresRatio, AddsJob, MovesMark, EndsFeed, AddsRefused, AddsDone, NewFault}
use Rattle.event_feed.specs.Answers.{IsFed, counted, offered_item}
use Rattle.event_feed.proofs.DoneLines.{done_standing, done_mark, done_session, late_session}
use Rattle.event_feed.specs.DueLines.{out_text, HasNumerals}
use Rattle.event_feed.specs.declared.faults.FeedFault.{FeedFault}
use Rattle.event_feed.specs.declared.fed.Fed.{Fed}
use Rattle.event_feed.specs.declared.fed.Fed.TheVariants.{Over}
use Rattle.lane_server.specs.Lanes.{lines_added}
use Rattle.lane_server.specs.Lane.{IsDeclared, Fits, IsOpenAt, Owes, GivesFault, Adds, Stands, IsQuiet, NamesFault}
use Rattle.lane_server.specs.Lane.{IntakeStands}
use Rattle.lane_server.specs.declared.lane.Lane.{Lane}
use Rattle.lane_server.specs.declared.lane.Work.TheVariants.{Nothing, Give, Run, Admit, Finish}
use Rattle.event_feed.specs.declared.due_line.DueLine.{DueLine}
use Rattle.event_feed.specs.declared.due_line.DueLine.TheVariants.{Header, Refuse, RefuseDone, Refused}
use Rattle.lane_server.proofs.Offering.{job_stands, job_mark, job_rest, job_due, job_owes}
use Rattle.lane_server.proofs.Adding.{header_stands, header_mark, header_due, header_fits, tick_stands, tick_mark}
use Rattle.lane_server.proofs.Adding.{tick_rest, tick_due, tick_owes, end_stands, end_mark, end_rest, end_due, end_owes}
use Rattle.lane_server.proofs.Adding.{mark_short, refused_due, refused_fits, new_fault_due, new_fault_fits, opens_by}
use Rattle.lane_server.proofs.Adding.{open_stands, lines_kept, added_is, account_over}
use Rattle.lane_server.proofs.Finishing.{done_rest, done_due, done_at, done_owes}
use Rattle.ready_server.specs.Serving.{Serves, HasPlaceUnlessFull}
use Rattle.ready_server.specs.declared.server.ReadyServer.{ReadyServer}

-- the ratio line
pub declare_adds : (lane : Lane) (k : Fraction) (version : Version) (v : ReadyServer) (a b : Account)
    → IsOpenAt lane a → DeclaresRatio k version (counted a) b → Serves v (no_jobs version k) (Mark 0) []
    → Adds (record lane { server = Some v; work = Give (Header version k) }) a b
declare_adds lane k version v a b at it new = record {
  opened = at.opened ∙ sym (opens_by b Open (header_stands a b k version at.stands it));
  rest = header (rules_with k version) ∷ [];
  due = header_due a b k version at.stands it;
  marked = at.marked ∙ sym (header_mark a b k version at.stands it);
  owes = (refl, header_fits a b k version at.stands it v new, tt);
  names = λ ls. tt;
}

-- a job
pub arrive_adds : (lane : Lane) (n : ℕ) (job : JobFacts) (v u : ReadyServer) (t : ℕ) (a b : Account)
    → IsOpenAt lane a → AddsJob n job (counted a) b → lane.server ≡ Some v
    → ((J : Instance) (to : Horizon) (events : List Event) → Serves v J to events → Serves u J to events)
    → HasPlaceUnlessFull u → t ≡ job.release
    → Adds (record lane { server = Some u; mark = t; work = Admit job }) a b
arrive_adds lane n job v u t a b at it there still room same =
    let fits : Fits a (Some v) = subst (Fits a) there at.fits in record {
      opened = at.opened ∙ sym (opens_by b Open (job_stands a b n job at.kept at.stands it));
      rest = job_rest a b n job at.kept at.stands it;
      due = job_due a b n job at.kept at.stands it;
      marked = same ∙ sym (job_mark a b n job at.kept at.stands it);
      owes = job_owes a b n job at.kept at.stands it v u fits still room;
      names = λ ls. tt;
    }

-- a tick
pub tick_adds : (lane : Lane) (t : ℕ) (a b : Account) → IsOpenAt lane a → MovesMark t (counted a) b
    → Adds (record lane { mark = t; work = Run (Mark t) }) a b
tick_adds lane t a b at it = by_server lane.server at.fits where
  by_server : (o : Option ReadyServer) → Fits a o
      → Adds (record lane { server = o; mark = t; work = Run (Mark t) }) a b
  by_server None fits = absurd (let e : None ≡ Some it.session = sym fits ∙ it.before_is in cc)
  by_server (Some v) fits = record {
    opened = at.opened ∙ sym (opens_by b Open (tick_stands a b t at.kept at.stands it));
    rest = tick_rest a b t at.kept at.stands it;
    due = tick_due a b t at.kept at.stands it;
    marked = sym (tick_mark a b t at.kept at.stands it);
    owes = tick_owes a b t at.kept at.stands it v fits;
    names = λ ls. tt;
  }

-- the end
pub over_adds : (lane : Lane) (a b : Account) → IsOpenAt lane a → EndsFeed (counted a) b
    → Adds (record lane { is_open = false; work = Run End }) a b
over_adds lane a b at it = by_server lane.server at.fits where
  by_server : (o : Option ReadyServer) → Fits a o
      → Adds (record lane { server = o; is_open = false; work = Run End }) a b
  by_server None fits = absurd (let e : None ≡ Some it.session = sym fits ∙ it.before_is in cc)
  by_server (Some v) fits = record {
    opened = sym (opens_by b Ended (end_stands a b at.kept at.stands it));
    rest = end_rest a b at.kept at.stands it;
    due = end_due a b at.kept at.stands it;
    marked = at.marked ∙ sym (end_mark a b at.kept at.stands it);
    owes = end_owes a b at.kept at.stands it v fits;
    names = λ ls. tt;
  }

-- a line that is refused at the mark as it is
module _ (lane : Lane) (a b : Account) (S : Session) (line : RefusedLine) (at : IsOpenAt lane a)
    (there : a.session ≡ Some S) (open_still : b.standing ≡ Open) (same_mark : b.mark ≡ a.mark)
    (behind : b.session ≡ Some (with_item S (RefusedItem (record { at = a.mark; line = line })))) where
  refused_adds : (out : DueLine) → HasNumerals out → refused_text (record { at = a.mark; line = line }) ≡ out_text out
      → ((ls : List (List ℕ)) → NamesFault out ls)
      → Adds (record lane { work = Give out }) a b
  refused_adds out numerals text names = record {
    opened = at.opened ∙ sym (opens_by b Open open_still);
    rest = refused_text (record { at = a.mark; line = line }) ∷ [];
    due = refused_due a b S line at.kept at.stands there open_still same_mark behind;
    marked = at.marked ∙ sym same_mark;
    owes = (
      ap (λ l. l ∷ []) text,
      refused_fits a b S line at.kept at.stands there open_still same_mark behind lane.server at.fits,
      numerals,
    );
    names = names;
  }

-- a job line that is refused
pub refused_job_adds : (lane : Lane) (release work deadline value : ℕ) (cause : Refusal) (a b : Account)
    → IsOpenAt lane a → AddsRefused (job_of_numbers release work deadline value) cause (counted a) b
    → Adds (record lane { work = Give (Refuse lane.mark release work deadline value cause) }) a b
refused_job_adds lane release work deadline value cause a b at it =
    let job = job_of_numbers release work deadline value in
    refused_adds lane a b it.session (RefusedJob job cause) at it.before_is
    (ap (λ (x : Account). x.standing) it.after_is ∙ at.stands) (ap (λ (x : Account). x.mark) it.after_is)
    (ap (λ (x : Account). x.session) it.after_is)
    (Refuse lane.mark release work deadline value cause)
    (subst (λ m. m < 10 ^ 18) (sym at.marked) (mark_short a it.session at.kept at.stands it.before_is), it.numerals)
    (ap (λ m. refused_text (record { at = m; line = RefusedJob job cause })) (sym at.marked)) (λ ls. tt)

-- ---- a done line

module _ (lane : Lane) (t n : ℕ) (a b : Account) (at : IsOpenAt lane a) (it : AddsDone t n (counted a) b) where
  -- the account goes on
  done_open : b.standing ≡ Open
  done_open = ap (λ (x : Account). x.standing) it.after_is ∙ done_standing it.session t n (counted a) ∙ at.stands

  -- below the mark it is refused at once
  pub late_done_adds : t < a.mark → Adds (record lane { work = Give (RefuseDone lane.mark t n) }) a b
  late_done_adds late =
      refused_adds lane a b it.session (RefusedDone t n) at it.before_is done_open
      (ap (λ (x : Account). x.mark) it.after_is ∙ done_mark it.session t n (counted a)
      ∙ (let e : max a.mark t ≡ a.mark = omega arith in e))
      (ap (λ (x : Account). x.session) it.after_is ∙ done_session it.session t n (counted a) it.before_is
      ∙ ap (λ S. Some S) (late_session it.session a.mark t n late))
      (RefuseDone lane.mark t n) (
        subst (λ m. m < 10 ^ 18) (sym at.marked) (mark_short a it.session at.kept at.stands it.before_is),
        (omega (arith, it.known, tick_most it.session.rules.version), it.numerals),
      )
      (ap (λ m. refused_text (record { at = m; line = RefusedDone t n })) (sym at.marked)) (λ ls. tt)

  -- and otherwise it is left to finish at its tick
  pub done_adds : a.mark ≤ t → Adds (record lane { mark = t; work = Finish t n }) a b
  done_adds later = by_server lane.server at.fits where
    by_server : (o : Option ReadyServer) → Fits a o
        → Adds (record lane { server = o; mark = t; work = Finish t n }) a b
    by_server None fits = absurd (let e : None ≡ Some it.session = sym fits ∙ it.before_is in cc)
    by_server (Some v) fits = record {
      opened = at.opened ∙ sym (opens_by b Open done_open);
      rest = done_rest a b t n at.kept at.stands it later;
      due = done_due a b t n at.kept at.stands it later;
      marked = sym (done_at a b t n at.kept at.stands it later);
      owes = done_owes a b t n at.kept at.stands it later v fits;
      names = λ ls. tt;
    }

-- ---- a line of a lane

-- a lane that goes on, and has nothing under way
pub open_at : (lane : Lane) (i : feed.Kept)
    (ls : List (List ℕ)) → IsQuiet lane ls → lane.is_open ≡ true
    → IsOpenAt (record lane { intake = i }) (account_of_lines ls)
open_at lane i ls it opened =
    let owes : Owes Nothing lane.server (account_of_lines ls) [] =
    subst (λ w. Owes w lane.server (account_of_lines ls) []) it.quiet it.stands.owes in record {
      opened = opened;
      kept = lines_kept ls;
      stands = open_stands (account_of_lines ls) (sym it.stands.opened ∙ opened);
      fits = owes.1;
      marked = it.stands.marked;
    }

-- its intake stands for the lines
pub quiet_intake : (lane : Lane) (ls : List (List ℕ)) → IsQuiet lane ls → feed.StandsFor lane.intake ls
quiet_intake lane ls it = subst (λ w. IntakeStands w lane.intake ls) it.quiet it.stands.intake

-- a feed that was ended doesn't go on
not_over : (fed : Fed) (a b : Account) (ended opened : Bool) → IsFed (counted a) b fed → (ended ≡ true → fed ≡ Over)
    → opened ≡ is_open b
    → opened ≡ true → ended ≡ false
not_over fed a b false opened it over is goes_on = refl
not_over fed a b true opened it over is goes_on =
    let ends : EndsFeed (counted a) b = subst (λ x. IsFed (counted a) b x) (over refl) it in
    absurd (let e : true ≡ false = sym goes_on ∙ is
    ∙ opens_by b Ended (ap (λ (x : Account). x.standing) ends.after_is) in cc)

-- the lane after a good line
pub taken_stands : (lane : Lane) (ls : List (List ℕ)) (line : List ℕ) (fed : Fed)
    → IntakeStands lane.work lane.intake (ls ++ line ∷ [])
    → IsFed (counted (account_of_lines ls)) (account_of_lines (ls ++ line ∷ [])) fed
    → (feed.has_ended lane.intake ≡ true → fed ≡ Over)
    → Adds lane (account_of_lines ls) (account_of_lines (ls ++ line ∷ []))
    → Stands lane (ls ++ line ∷ []) (lines_added ls line)
taken_stands lane ls line fed intake is over it = record {
  intake = intake;
  opened = it.opened;
  unended = not_over fed (account_of_lines ls) (account_of_lines (ls ++ line ∷ []))
      (feed.has_ended lane.intake) lane.is_open is over it.opened;
  marked = it.marked;
  owes = subst (Owes lane.work lane.server (account_of_lines (ls ++ line ∷ [])))
      (added_is ls line it.rest it.due) it.owes;
  names = it.names (ls ++ line ∷ []);
}

-- the lane after a faulty line
pub fault_stands : (lane : Lane) (i : feed.Kept) (ls : List (List ℕ)) (line : List ℕ) (fault : FeedFault)
    → feed.StandsFor i (ls ++ line ∷ []) → IsOpenAt (record lane { intake = i }) (account_of_lines ls)
    → NewFault line fault (account_of_lines ls) (account_of_lines (ls ++ line ∷ []))
    → Stands (record lane { intake = i; is_open = false; work = Give (Refused fault.line fault.cause) })
    (ls ++ line ∷ []) (lines_added ls line)
fault_stands lane i ls line fault intake at it = record {
  intake = intake;
  opened = sym (opens_by (account_of_lines (ls ++ line ∷ [])) _ (ap (λ (x : Account). x.standing) it.after_is));
  unended = λ e. absurd (let f : false ≡ true = e in cc);
  marked = at.marked ∙ sym (ap (λ (x : Account). x.mark) it.after_is);
  owes = (
    sym (added_is ls line _ (new_fault_due line fault (account_of_lines ls)
        (account_of_lines (ls ++ line ∷ [])) it)),
    new_fault_fits line fault (account_of_lines ls)
        (account_of_lines (ls ++ line ∷ [])) lane.server it at.fits,
    tt,
  );
  names = record { before = ls; line = line; more = []; lines = refl; new = it };
}

-- the lane after a line that is disregarded
pub over_stands : (lane : Lane) (ls : List (List ℕ)) (line : List ℕ) → IsQuiet lane ls
    → lane.is_open ≡ false → Stands lane (ls ++ line ∷ []) (lines_added ls line)
over_stands lane ls line it over =
    let same : account_of_lines (ls ++ line ∷ []) ≡ account_of_lines ls =
    account_over ls line (sym it.stands.opened ∙ over) in record {
      intake = subst (λ w. IntakeStands w lane.intake (ls ++ line ∷ [])) (sym it.quiet)
          (record {
            by_account = subst (feed.KeepsAccount lane.intake) (sym same) (quiet_intake lane ls it).by_account;
          });
      opened = it.stands.opened ∙ ap is_open (sym same);
      unended = it.stands.unended;
      marked = it.stands.marked ∙ ap (λ (x : Account). x.mark) (sym same);
      owes = subst (Owes lane.work lane.server (account_of_lines (ls ++ line ∷ [])))
          (added_is ls line [] (ap due_lines same ∙ sym (append-nil (due_lines (account_of_lines ls)))))
          (subst (λ a. Owes lane.work lane.server a []) (sym same) it.stands.owes);
      names = subst (λ w. GivesFault w (ls ++ line ∷ [])) (sym it.quiet) tt;
    }

-- the line that was answered so is the end
pub over_fed : {E : Type 0} (fed : Fed) (r : Result Fed E) → r ≡ Ok fed → r ≡ Ok Over → fed ≡ Over
over_fed fed r e f = cc

-- the ratio line declares the session
pub ratio_declares : (k : Fraction) (version : Version) (a b : Account) → DeclaresRatio k version a b → IsDeclared b
ratio_declares k version a b it = (new_session (rules_with k version), ap (λ (x : Account). x.session) it.after_is)

-- at a job line it is declared
pub job_declared : (n : ℕ) (job : JobFacts) (a b : Account) → AddsJob n job a b → IsDeclared b
job_declared n job a b it =
    (with_item it.session (offered_item it.session job), ap (λ (x : Account). x.session) it.after_is)
