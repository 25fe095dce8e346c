-- A job line in a session that goes on: admitted, refused, or at fault.
use Rattle.std.proofs.Common.{◌≡◌, ℕ, ◌≤◌, ◌<◌, refl, sym, ap, ◌∙◌, subst, cond, Option, Some, None, Ok, true, false}
use Rattle.std.proofs.Common.{Bool, ◌⊎◌, inl, inr, ◌≢◌, option_map, le-ltb, lt-ltb}
use Rattle.std.specs.Bool.{then_some}
use Rattle.std.specs.Option.{option_or, option_map_or}
use Rattle.dover_model.specs.Common.{AreShort, JobFacts, job_numbers, refusal_of, Session, RefusedJob, refused_at}
use Rattle.dover_model.specs.Common.{admitted_jobs, refuses_lines, refusal_at, late_refusal, refusal_in, refused_mark}
use Rattle.dover_model.specs.Common.{is_full, instance_of, with_item, JobItem, JobLine, Account, NotAdmitted}
use Rattle.dover_model.specs.Common.{Order, late_cause, cause_of, with_fault, with_line, with_refused_at}
use Rattle.dover_model.specs.declared.events.Version.{Version}
use Rattle.dover_model.specs.declared.events.Version.TheVariants.{Two, Three, Four}
use Rattle.dover_model.specs.declared.events.Refusal.{Refusal}
use Rattle.dover_model.specs.declared.events.Refusal.TheVariants.{Late, Full}
use Rattle.dover_model.proofs.sessions.Fullness.{full_refuses, mark_stays, never_alone}
use Rattle.dover_model.proofs.sessions.Growing.{refused_instance}
use Rattle.admission.specs.Kept as admission
use Rattle.event_feed.specs.declared.fed.Fed.TheVariants as fed
use Rattle.event_feed.specs.declared.kept_session.KeptSession.{KeptSession}
use Rattle.event_feed.specs.Kept.{IsKeptOf}
use Rattle.event_feed.specs.Reading.{open_account, IsTaken, Takes}

-- from Two on job lines are refused alone
pub refuses_alone : (v : Version) → (v ≡ Two) ⊎ (v ≡ Three) ⊎ (v ≡ Four) → refuses_lines v ≡ true
refuses_alone v (inl two) = ap refuses_lines two
refuses_alone v (inr (inl three)) = ap refuses_lines three
refuses_alone v (inr (inr four)) = ap refuses_lines four

-- and from Three on late ones are
pub refuses_late : (v : Version) → (v ≡ Three) ⊎ (v ≡ Four) → (refuses_lines v ≡ true) × (late_refusal v ≡ Some Late)
refuses_late v (inl three) = (ap refuses_lines three, ap late_refusal three)
refuses_late v (inr four) = (ap refuses_lines four, ap late_refusal four)

module _ (lines : ℕ) (S : Session) (mark : ℕ) (j : JobFacts) where
  -- the account, with the line counted
  abbrev before : Account
  before = open_account lines (Some S) mark

  -- the line that is refused alone is handed in
  takes_alone : (kept : KeptSession) → IsKeptOf kept S mark → refuses_lines S.rules.version ≡ true
      → AreShort (job_numbers j) → (refusal : Refusal) → refusal ≢ Full
      → refusal_at S mark j ≡ Some refusal → refused_mark mark j refusal ≡ mark
      → cause_of before (JobLine j) ≡ Some (NotAdmitted refusal)
      → Takes (JobLine j) lines S mark kept (Ok (fed.Refused j.release j.work j.deadline j.value refusal))
  takes_alone kept it alone numerals refusal other is stays cause =
      subst (λ b. IsTaken (Some kept) (Some (JobLine j)) before b
      (Ok (fed.Refused j.release j.work j.deadline j.value refusal)))
      (sym (ap (with_line before (JobLine j)) cause
      ∙ ap (λ b. cond b (with_refused_at before (refused_mark mark j refusal) j refusal)
      (with_fault before (NotAdmitted refusal))) alone
      ∙ ap (λ m. with_refused_at before m j refusal) stays)) (record {
        keeps = record {
          rules = it.rules;
          jobs = subst (admission.StandsFor kept.admission)
              (sym (ap (λ J. J.jobs) (refused_instance S (record { at = mark; line = RefusedJob j refusal })))) it.jobs;
          marked = it.marked;
        };
        gives = record {
          session = S;
          before_is = refl;
          version = alone;
          after_is = refl;
          numerals = numerals;
          refused = is;
          not_full = other;
          stays = stays;
        };
      })

  -- ---- a late line

  -- its cause
  late_line_cause : j.release < mark → cause_of before (JobLine j) ≡ Some (late_cause S.rules.version)
  late_line_cause late =
      ap (λ b. cond b (Some (late_cause S.rules.version)) (option_map NotAdmitted (refusal_in S j)))
      (lt-ltb _ _ late)

  -- from version Three on it is handed in
  pub takes_late : (kept : KeptSession) → IsKeptOf kept S mark → j.release < mark
      → (refuses_lines S.rules.version ≡ true) × (late_refusal S.rules.version ≡ Some Late)
      → AreShort (job_numbers j)
      → Takes (JobLine j) lines S mark kept (Ok (fed.Refused j.release j.work j.deadline j.value Late))
  takes_late kept it late version numerals =
      takes_alone kept it version.0 numerals Late (λ e. let same : Late ≡ Full = e in cc)
      (ap (λ b. cond b (late_refusal S.rules.version) (refusal_in S j)) (lt-ltb _ _ late) ∙ version.1)
      refl
      (late_line_cause late ∙ ap (λ o. Some (option_map_or NotAdmitted o Order)) version.1)

module _ (lines : ℕ) (S : Session) (mark : ℕ) (j : JobFacts) (no_fall : mark ≤ j.release) where
  -- the account, with the line counted
  abbrev on_time : Account
  on_time = open_account lines (Some S) mark

  -- whether the job finds no room
  abbrev full : Bool
  full = is_full (instance_of S) j.release

  -- its cause is that of the admission
  job_cause : (refusal : Option Refusal) → refusal_of S.rules (admitted_jobs S.items) j ≡ refusal
      → cause_of on_time (JobLine j) ≡ option_map NotAdmitted (option_or refusal (then_some full Full))
  job_cause refusal is =
      ap (λ b. cond b (Some (late_cause S.rules.version)) (option_map NotAdmitted (refusal_in S j)))
      (le-ltb _ _ no_fall)
      ∙ ap (λ o. option_map NotAdmitted (option_or o (then_some full Full))) is

  -- the account behind the line
  after_offer : refusal_of S.rules (admitted_jobs S.items) j ≡ None → (b : Bool) → full ≡ b
      → with_line on_time (JobLine j) (option_map NotAdmitted (then_some b Full))
      ≡ open_account lines (Some (with_item S (cond b (refused_at j.release j Full) (JobItem j)))) j.release
  after_offer none false is = refl
  after_offer none true is = ap (λ b. cond b (with_refused_at on_time j.release j Full)
      (with_fault on_time (NotAdmitted Full))) (full_refuses S j none is)

  -- the job is offered: nothing is kept of it yet, but the mark
  pub takes_job : (kept : KeptSession) (number : ℕ) → IsKeptOf kept S mark → AreShort (job_numbers j)
      → refusal_of S.rules (admitted_jobs S.items) j ≡ None → number ≡ kept.admission.count
      → Takes (JobLine j) lines S mark (record kept { mark = j.release }) (Ok (fed.Job number j))
  takes_job kept number it numerals none counts =
      subst (λ b. IsTaken (Some (record kept { mark = j.release })) (Some (JobLine j)) on_time b
      (Ok (fed.Job number j)))
      (sym (ap (with_line on_time (JobLine j)) (job_cause None none) ∙ after_offer none full refl)) (record {
        keeps = record { rules = it.rules; jobs = it.jobs; marked = refl };
        gives = record {
          session = S;
          before_is = refl;
          after_is = refl;
          numbered = counts ∙ it.jobs.count;
          admitted = none;
          no_fall = no_fall;
          numerals = numerals;
        };
      })

  -- the line of a refused job is handed in, from version Two on
  pub takes_refused : (kept : KeptSession) → IsKeptOf kept S mark → refuses_lines S.rules.version ≡ true
      → AreShort (job_numbers j) → (refusal : Refusal)
      → refusal_of S.rules (admitted_jobs S.items) j ≡ Some refusal
      → Takes (JobLine j) lines S mark kept (Ok (fed.Refused j.release j.work j.deadline j.value refusal))
  takes_refused kept it alone numerals refusal is =
      takes_alone lines S mark j kept it alone numerals refusal (λ full. never_alone S j (is ∙ ap Some full))
      (ap (λ b. cond b (late_refusal S.rules.version) (refusal_in S j)) (le-ltb _ _ no_fall)
      ∙ ap (λ o. option_or o (then_some full Full)) is) (mark_stays S mark j refusal is)
      (job_cause (Some refusal) is)
