-- Feeds that have declared the same rules and admitted the same jobs, and are as long and at the same mark, go on
-- alike, line by line.
use Rattle.std.proofs.Common.{◌≡◌, ℕ, suc, ◌≤◌, max, List, [], ◌∷◌, ◌++◌, map, refl, sym, ap, ◌∙◌, subst, append_assoc}
use Rattle.std.proofs.Common.{length, Bool, true, false, cond, ◌||◌, ◌&&◌, Option, Some, None, is_some, inl, inr, arith}
use Rattle.std.proofs.Common.{nat_lt, nat_le, fold, filter, option_map, ltb-false, leb-true, append-nil}
use Rattle.std.specs.Bool.{then_some}
use Rattle.std.specs.Option.{option_or}
use Rattle.dover_model.specs.Common.{last_tick_in, most_lines, most_ready, is_ready, State}
use Rattle.dover_model.specs.Common.{JobFacts, Declaration, under, Instance, IsValid, with_jobs}
use Rattle.dover_model.specs.Common.{with_finishes, refusal_of, Session, JobItem, RefusedItem, FinishItem, Refused}
use Rattle.dover_model.specs.Common.{RefusedJob, RefusedDone, EarlyFinish, with_item, with_named, instance_of}
use Rattle.dover_model.specs.Common.{admitted_jobs, early_finishes, refuses_lines}
use Rattle.dover_model.specs.Common.{may_finish_early, early_at, finish_at, is_right, is_full, refusal_in, refused_mark}
use Rattle.dover_model.specs.Common.{printed, settled, settled_state, header, text_of, refused_text}
use Rattle.dover_model.specs.Common.{texts_among, places_of, put_in, text_of_line, FeedLine, RatioLine, FactorLine}
use Rattle.dover_model.specs.Common.{JobLine, TickLine, DoneLine, EndLine, feed_line, Cause, Lines, Line, Declared}
use Rattle.dover_model.specs.Common.{Order, NotAdmitted, Standing, Open, Ended, Faulty, Account, NotDone, late_cause}
use Rattle.dover_model.specs.Common.{later_line_cause, with_fault, with_refused_at, with_line, next_line, due_lines}
use Rattle.dover_model.specs.Common.{fault_text, Begins, IsMember}
use Rattle.dover_model.specs.declared.events.Event.{Event}
use Rattle.dover_model.specs.declared.events.Event.TheVariants.{Complete}
use Rattle.dover_model.specs.declared.events.Refusal.{Refusal}
use Rattle.dover_model.specs.declared.events.Refusal.TheVariants.{Late, Full}
use Rattle.dover_model.specs.declared.events.Version.{Version}
use Rattle.dover_model.specs.declared.events.Version.TheVariants.{Three, Four}
use Rattle.dover_model.proofs.sessions.Accounts.{account_with, Holds, IsKept, lines_goes}
use Rattle.snapshot.proofs.RunItems.{kept, kept_append, kept_jobs, kept_early}
use Rattle.dover_model.specs.Common.{Item}
use Rattle.dover_model.proofs.sessions.Fullness.{admitted_in}
use Rattle.dover_model.proofs.finishes.Further.{completes_at_mark}
use Rattle.admission.proofs.Joining.{admitted_valid}
use Rattle.dover_model.proofs.sessions.Emitting.{texts_more, texts_job, texts_refused}
use Rattle.dover_model.proofs.sessions.Growing.{Reads, reads_later, job_instance, finish_instance, settled_later}
use Rattle.dover_model.proofs.sessions.Growing.{settled_of_run, Finishes, finishing_job, right_again, early_says}
use Rattle.dover_model.proofs.settled.Prefixes.{settled_prefix}
use Rattle.dover_model.proofs.sessions.PutIn.{places_after-append}
use Rattle.event_feed.proofs.Counting.{after_form}

-- both are declared, under the same rules, and hand in the same, but for what is refused
pub record SameSession (S T : Session) : Type 0 where
  pub rules : T.rules ≡ S.rules
  pub items : kept T.items ≡ kept S.items

abbrev pub SameRun : Option Session → Option Session → Type 0
SameRun None t = ⊥
SameRun (Some S) None = ⊥
SameRun (Some S) (Some T) = SameSession S T

-- so they have the same jobs
pub same_jobs : (S T : Session) → SameSession S T → admitted_jobs T.items ≡ admitted_jobs S.items
same_jobs S T same = sym (kept_jobs T.items) ∙ ap admitted_jobs same.items ∙ kept_jobs S.items

-- and the same run
pub session_is : (S T : Session) → SameSession S T → instance_of T ≡ instance_of S
session_is S T same = ap (λ r. record { rules = under r (early_finishes T.items); jobs = admitted_jobs T.items })
    same.rules
    ∙ ap (λ fs. record { rules = under S.rules fs; jobs = admitted_jobs T.items })
    (sym (kept_early T.items) ∙ ap early_finishes same.items ∙ kept_early S.items)
    ∙ ap (λ js. record { rules = under S.rules (early_finishes S.items); jobs = js }) (same_jobs S T same)

-- so the same state is settled
pub state_same : (S T : Session) (mark : ℕ) → SameSession S T
    → settled_state (instance_of T) mark ≡ settled_state (instance_of S) mark
state_same S T mark same = ap (λ K. settled_state K mark) (session_is S T same)

-- what a later line depends on is the same
abbrev pub Alike : Account → Account → Type 0
Alike a b = (b.lines ≡ a.lines) × (b.mark ≡ a.mark) × (b.standing ≡ a.standing) × SameRun a.session b.session

-- from a to c and from b to d the same lines become due, and c and d are alike
pub record GoAlike (a b c d : Account) : Type 0 where
  pub alike : Alike c d
  pub text : List (List ℕ)
  pub first : due_lines c ≡ due_lines a ++ text
  pub other : due_lines d ≡ due_lines b ++ text

-- a finish has no place
texts_finish : (S : Session) (f : EarlyFinish) (steps : List Event)
    → texts_among (with_item S (FinishItem f)) steps ≡ texts_among S steps
texts_finish S f steps = ap (λ ps. header S.rules ∷ map text_of_line (put_in ps 0 steps))
    (places_after-append S.rules [] S.items (FinishItem f ∷ []) ∙ append-nil (places_of S))

-- ---- what a line adds for one session, as it depends on its jobs

module _ (X : Session) (mark lines : ℕ) (holds : Holds X mark lines) where
  -- before the line
  abbrev before : Account
  before = account_with lines (Some X) mark Open

  -- with the line counted
  abbrev counted : Account
  counted = account_with (suc lines) (Some X) mark Open

  -- a fault
  fault_adds : (cause : Cause)
      → due_lines (with_fault counted cause) ≡ due_lines before ++ fault_text (suc lines) cause ∷ []
  fault_adds cause = ap (λ ls. ls ++ fault_text (suc lines) cause ∷ [])
      (sym (append-nil (texts_among X (settled (instance_of X) mark))))

  -- further steps
  steps_add : (target more : List Event) → target ≡ settled (instance_of X) mark ++ more
      → texts_among X target ++ [] ≡ due_lines before ++ map text_of more
  steps_add target more is = append-nil (texts_among X target) ∙ ap (texts_among X) is
      ∙ texts_more X (settled (instance_of X) mark) more holds.reads.within
      ∙ ap (λ ls. ls ++ map text_of more) (sym (append-nil (texts_among X (settled (instance_of X) mark))))

  module _ (J : Instance) (same : (m : ℕ) → settled (instance_of X) m ≡ settled J m) (more : List Event) where
    -- a tick
    tick_adds : (t : ℕ) → settled J t ≡ settled J mark ++ more
        → due_lines (account_with (suc lines) (Some X) t Open) ≡ due_lines before ++ map text_of more
    tick_adds t is = steps_add (settled (instance_of X) t) more
        (same t ∙ is ∙ ap (λ es. es ++ more) (sym (same mark)))

    -- the end
    end_adds : printed (instance_of X) ≡ printed J → printed J ≡ settled J mark ++ more
        → due_lines (account_with (suc lines) (Some X) mark Ended) ≡ due_lines before ++ map text_of more
    end_adds all is = steps_add (printed (instance_of X)) more (all ∙ is ∙ ap (λ es. es ++ more) (sym (same mark)))

    -- a job
    job_adds : (j : JobFacts) → settled (with_jobs (instance_of X) (j ∷ [])) j.release ≡ settled J mark ++ more
        → due_lines (account_with (suc lines) (Some (with_item X (JobItem j))) j.release Open) ≡ due_lines before
        ++ map text_of more
    job_adds j is = ap (λ ls. ls ++ []) (texts_job X j (settled (instance_of (with_item X (JobItem j))) j.release))
        ∙ steps_add (settled (instance_of (with_item X (JobItem j))) j.release) more
        (ap (λ K. settled K j.release) (job_instance X j) ∙ is ∙ ap (λ es. es ++ more) (sym (same mark)))

    -- an early finish
    finish_adds : (f : EarlyFinish) (t : ℕ)
        → settled (with_finishes (instance_of X) (f.finish ∷ [])) t ≡ settled J mark ++ more
        → due_lines (account_with (suc lines) (Some (with_item X (FinishItem f))) t Open) ≡ due_lines before
        ++ map text_of more
    finish_adds f t is =
        ap (λ ls. ls ++ []) (texts_finish X f (settled (instance_of (with_item X (FinishItem f))) t))
        ∙ steps_add (settled (instance_of (with_item X (FinishItem f))) t) more
        (ap (λ K. settled K t) (finish_instance X f) ∙ is ∙ ap (λ es. es ++ more) (sym (same mark)))

    -- a refused line, at a mark that it may have raised
    refused_adds : (r : Refused) → mark ≤ r.at → settled J r.at ≡ settled J mark ++ more
        → due_lines (account_with (suc lines) (Some (with_item X (RefusedItem r))) r.at Open)
        ≡ due_lines before ++ (map text_of more ++ refused_text r ∷ [])
    refused_adds r raised is =
        append-nil (texts_among (with_item X (RefusedItem r)) (settled (instance_of (with_item X
        (RefusedItem r))) r.at))
        ∙ texts_refused X r (reads_later X mark r.at holds.reads raised)
        ∙ ap (λ ls. ls ++ refused_text r ∷ []) (sym (append-nil (texts_among X (settled (instance_of X) r.at)))
        ∙ tick_adds r.at is)
        ∙ append_assoc (due_lines before) (map text_of more) (refused_text r ∷ [])

-- ---- a line behind two feeds that are alike

module _ (S T : Session) (mark lines : ℕ) (holds : Holds S mark lines) (holds_other : Holds T mark lines)
    (same : SameSession S T) where
  abbrev a : Account
  a = account_with lines (Some S) mark Open

  abbrev b : Account
  b = account_with lines (Some T) mark Open

  abbrev counted_a : Account
  counted_a = account_with (suc lines) (Some S) mark Open

  abbrev counted_b : Account
  counted_b = account_with (suc lines) (Some T) mark Open

  abbrev J : Instance
  J = instance_of S

  -- the other's run
  other_is : instance_of T ≡ J
  other_is = session_is S T same

  settled_same : (m : ℕ) → settled (instance_of T) m ≡ settled J m
  settled_same m = ap (λ K. settled K m) other_is

  -- the same done lines are right
  early_same : (t n : ℕ) → early_at T t n ≡ early_at S t n
  early_same t n = ap (λ v. cond (may_finish_early v) (finish_at (instance_of T) t n) None)
      (ap (λ (r : Declaration). r.version) same.rules)
      ∙ ap (λ K. cond (may_finish_early S.rules.version) (finish_at K t n) None) other_is

  faults_alike : (cause : Cause) → GoAlike a b (with_fault counted_a cause) (with_fault counted_b cause)
  faults_alike cause = record {
    alike = (refl, refl, refl, same);
    text = fault_text (suc lines) cause ∷ [];
    first = fault_adds S mark lines holds cause;
    other = fault_adds T mark lines holds_other cause;
  }

  ticks_alike : (t : ℕ) → mark ≤ t
      → GoAlike a b (account_with (suc lines) (Some S) t Open) (account_with (suc lines) (Some T) t Open)
  ticks_alike t ordered =
      let it : Begins (settled J mark) (settled J t) = settled_later J mark t holds.reads.valid ordered in
      record {
        alike = (refl, refl, refl, same);
        text = map text_of it.0;
        first = tick_adds S mark lines holds J (λ m. refl) it.0 t it.1;
        other = tick_adds T mark lines holds_other J settled_same it.0 t it.1;
      }

  ends_alike : GoAlike a b (account_with (suc lines) (Some S) mark Ended) (account_with (suc lines) (Some T) mark Ended)
  ends_alike =
      let it : Begins (settled J mark) (printed J) = settled_of_run J mark holds.reads.valid in
      record {
        alike = (refl, refl, refl, same);
        text = map text_of it.0;
        first = end_adds S mark lines holds J (λ m. refl) it.0 refl it.1;
        other = end_adds T mark lines holds_other J settled_same it.0 (ap printed other_is) it.1;
      }

  -- with one item more
  same_more : (i : Item) → SameSession (with_item S i) (with_item T i)
  same_more i = record {
    rules = same.rules;
    items = kept_append T.items (i ∷ []) ∙ ap (λ is. is ++ kept (i ∷ [])) same.items
        ∙ sym (kept_append S.items (i ∷ []));
  }

  jobs_alike : (j : JobFacts) → mark ≤ j.release → refusal_in S j ≡ None
      → GoAlike a b (account_with (suc lines) (Some (with_item S (JobItem j))) j.release Open)
      (account_with (suc lines) (Some (with_item T (JobItem j))) j.release Open)
  jobs_alike j ordered none =
      let later : Reads S j.release = reads_later S mark j.release holds.reads ordered in
      let valid : IsValid (with_jobs J (j ∷ [])) =
      admitted_valid J j later.valid later.known (admitted_in S j none).0 in
      let it : Begins (settled J mark) (settled (with_jobs J (j ∷ [])) j.release) =
      settled_prefix J (j ∷ []) mark valid (λ i m. only i m) j.release ordered in
      record {
        alike = (
          refl,
          refl,
          refl,
          same_more (JobItem j),
        );
        text = map text_of it.0;
        first = job_adds S mark lines holds J (λ m. refl) it.0 j it.1;
        other = job_adds T mark lines holds_other J settled_same it.0 j (both_settled ∙ it.1);
      } where
        only : (i : JobFacts) → IsMember i (j ∷ []) → mark ≤ i.release
        only i (inl e) = subst (λ (x : JobFacts). mark ≤ x.release) (sym e) ordered
        only i (inr m) = absurd m

        both_settled : settled (with_jobs (instance_of T) (j ∷ [])) j.release
            ≡ settled (with_jobs J (j ∷ [])) j.release
        both_settled = ap (λ K. settled (with_jobs K (j ∷ [])) j.release) other_is

  -- a refused line, behind a mark that it may have raised
  refused_alike : (r : Refused) → mark ≤ r.at
      → GoAlike a b (account_with (suc lines) (Some (with_item S (RefusedItem r))) r.at Open)
      (account_with (suc lines) (Some (with_item T (RefusedItem r))) r.at Open)
  refused_alike r raised =
      let it : Begins (settled J mark) (settled J r.at) = settled_later J mark r.at holds.reads.valid raised in
      record {
        alike = (
          refl,
          refl,
          refl,
          same_more (RefusedItem r),
        );
        text = map text_of it.0 ++ refused_text r ∷ [];
        first = refused_adds S mark lines holds J (λ m. refl) it.0 r raised it.1;
        other = refused_adds T mark lines holds_other J settled_same it.0 r raised it.1;
      }

  -- an early finish
  finishes_alike : (t n : ℕ) (f : EarlyFinish) → mark ≤ t → early_at S t n ≡ Some f
      → GoAlike a b (account_with (suc lines) (Some (with_item S (FinishItem f))) t Open)
      (account_with (suc lines) (Some (with_item T (FinishItem f))) t Open)
  finishes_alike t n f ordered right = record {
    alike = (
      refl,
      refl,
      refl,
      same_more (FinishItem f),
    );
    text = map text_of it.0;
    first = finish_adds S mark lines holds J (λ m. refl) it.0 f t it.1;
    other = finish_adds T mark lines holds_other J settled_same it.0 f t
        (ap (λ L. settled (with_finishes L (f.finish ∷ [])) t) other_is ∙ it.1);
  } where
    K : Instance
    K = with_finishes J (f.finish ∷ [])

    at_is : f.at ≡ t
    at_is = sym (ap (λ (g : EarlyFinish). g.at) (early_says S t n f right).is)

    it : Begins (settled J mark) (settled K t)
    it =
        let says : Finishes S f = finishing_job S f (right_again S t n f right) in
        let first : Begins (settled J mark) (settled J t) = settled_later J mark t holds.reads.valid ordered in
        let then : Begins (settled J f.at ++ Complete f.at says.job.number ∷ []) (settled K f.at) =
        subst (λ g. Begins (settled J f.at ++ Complete f.at says.job.number ∷ [])
        (settled (with_finishes J (g ∷ [])) f.at))
        (sym says.is) (completes_at_mark J holds.reads.valid f.at says.job says.runs) in
        let at_t : Begins (settled J t ++ Complete f.at says.job.number ∷ []) (settled K t) =
        subst (λ m. Begins (settled J m ++ Complete f.at says.job.number ∷ []) (settled K m)) at_is then in (
          first.0 ++ (Complete f.at says.job.number ∷ [] ++ at_t.0),
          at_t.1 ∙ ap (λ es. (es ++ Complete f.at says.job.number ∷ []) ++ at_t.0) first.1
              ∙ append_assoc (settled J mark ++ first.0) (Complete f.at says.job.number ∷ []) at_t.0
              ∙ append_assoc (settled J mark) first.0 (Complete f.at says.job.number ∷ [] ++ at_t.0),
        )

  -- the line of a job, by its cause
  job_lines_alike : (j : JobFacts)
      → GoAlike a b (with_line counted_a (JobLine j) (later_line_cause S mark (JobLine j)))
      (with_line counted_b (JobLine j) (later_line_cause T mark (JobLine j)))
  job_lines_alike j = by_order (nat_lt j.release mark) refl where
    refusal_of_both : refusal_of T.rules (admitted_jobs T.items) j ≡ refusal_of S.rules
        (admitted_jobs S.items) j
    refusal_of_both = ap (λ r. refusal_of r (admitted_jobs T.items) j) same.rules
        ∙ ap (λ js. refusal_of S.rules js j) (same_jobs S T same)

    refusal_in_both : refusal_in T j ≡ refusal_in S j
    refusal_in_both = ap (λ o. option_or o (then_some (is_full (instance_of T) j.release) Full)) refusal_of_both
        ∙ ap (λ (z : State). option_or (refusal_of S.rules (admitted_jobs S.items) j)
        (then_some (nat_le most_ready (length (filter is_ready z.tasks))) Full)) (state_same S T j.release same)

    version_of_both : refuses_lines T.rules.version ≡ refuses_lines S.rules.version
    version_of_both = ap (λ (r : Declaration). refuses_lines r.version) same.rules

    by_version : (refusal : Refusal) (two : Bool)
        → mark ≤ refused_mark mark j refusal
        → GoAlike a b (cond two (with_refused_at counted_a (refused_mark mark j refusal) j refusal)
        (with_fault counted_a (NotAdmitted refusal)))
        (cond two (with_refused_at counted_b (refused_mark mark j refusal) j refusal)
        (with_fault counted_b (NotAdmitted refusal)))
    by_version refusal true raised =
        refused_alike (record { at = refused_mark mark j refusal; line = RefusedJob j refusal }) raised
    by_version refusal false raised = faults_alike (NotAdmitted refusal)

    refusal_alike : (refusal : Refusal) → mark ≤ refused_mark mark j refusal
        → GoAlike a b (with_line counted_a (JobLine j) (Some (NotAdmitted refusal)))
        (with_line counted_b (JobLine j) (Some (NotAdmitted refusal)))
    refusal_alike refusal raised =
        subst (λ two. GoAlike a b
        (cond (refuses_lines S.rules.version) (with_refused_at counted_a (refused_mark mark j refusal) j refusal)
        (with_fault counted_a (NotAdmitted refusal)))
        (cond two (with_refused_at counted_b (refused_mark mark j refusal) j refusal)
        (with_fault counted_b (NotAdmitted refusal))))
        (sym version_of_both)
        (by_version refusal (refuses_lines S.rules.version) raised)

    -- no mark falls, where the release is no earlier
    raises : (refusal : Refusal) → mark ≤ j.release → mark ≤ refused_mark mark j refusal
    raises Full ordered = ordered
    raises _ ordered = omega arith

    by_refusal : (o : Option Refusal) → mark ≤ j.release → refusal_in S j ≡ o
        → GoAlike a b (with_line counted_a (JobLine j) (option_map NotAdmitted o))
        (with_line counted_b (JobLine j) (option_map NotAdmitted o))
    by_refusal None ordered none = jobs_alike j ordered none
    by_refusal (Some refusal) ordered cause = refusal_alike refusal (raises refusal ordered)

    by_late : (v : Version) → GoAlike a b (with_line counted_a (JobLine j) (Some (late_cause v)))
        (with_line counted_b (JobLine j) (Some (late_cause v)))
    by_late Three = refusal_alike Late (omega arith)
    by_late Four = refusal_alike Late (omega arith)
    by_late _ = faults_alike Order

    by_order : (c : Bool) → nat_lt j.release mark ≡ c
        → GoAlike a b
        (with_line counted_a (JobLine j)
        (cond c (Some (late_cause S.rules.version))
        (option_map NotAdmitted (refusal_in S j))))
        (with_line counted_b (JobLine j)
        (cond c (Some (late_cause T.rules.version)) (option_map NotAdmitted (refusal_in T j))))
    by_order true falls =
        subst (λ (r : Declaration). GoAlike a b (with_line counted_a (JobLine j) (Some (late_cause S.rules.version)))
        (with_line counted_b (JobLine j) (Some (late_cause r.version)))) (sym same.rules)
        (by_late S.rules.version)
    by_order false ordered =
        subst (λ o. GoAlike a b (with_line counted_a (JobLine j)
        (option_map NotAdmitted (refusal_in S j)))
        (with_line counted_b (JobLine j) (option_map NotAdmitted o))) (sym refusal_in_both)
        (by_refusal (refusal_in S j) (ltb-false _ _ ordered) refl)

  -- a done line, by its cause
  done_lines_alike : (t n : ℕ)
      → GoAlike a b (with_line counted_a (DoneLine t n) (later_line_cause S mark (DoneLine t n)))
      (with_line counted_b (DoneLine t n) (later_line_cause T mark (DoneLine t n)))
  done_lines_alike t n =
      subst (λ o. GoAlike a b (with_line counted_a (DoneLine t n) (later_line_cause S mark (DoneLine t n)))
      (with_line counted_b (DoneLine t n) o)) (sym same_cause)
      (by_version (may_finish_early S.rules.version)) where
        cause_with : Version → Option EarlyFinish → Option Cause
        cause_with version o = cond (may_finish_early version) (cond (nat_lt (last_tick_in version) t) (Some Order)
            (cond (nat_le mark t && is_some o) None (Some NotDone))) (Some Line)

        same_cause : later_line_cause T mark (DoneLine t n) ≡ later_line_cause S mark (DoneLine t n)
        same_cause = ap (λ (r : Declaration). cause_with r.version (early_at T t n)) same.rules
            ∙ ap (cause_with S.rules.version) (early_same t n)

        raised : mark ≤ max mark t
        raised = omega arith

        good_b : (o : Option EarlyFinish) → early_at T t n ≡ o
            → with_line counted_b (DoneLine t n) None
            ≡ account_with (suc lines) (Some (with_named T (option_map FinishItem o))) t Open
        good_b o e = ap (λ x. account_with (suc lines) (Some (with_named T (option_map FinishItem x))) t Open) e

        good : (o : Option EarlyFinish) → early_at S t n ≡ o → mark ≤ t → is_some o ≡ true
            → GoAlike a b (account_with (suc lines) (Some (with_named S (option_map FinishItem o))) t Open)
            (account_with (suc lines) (Some (with_named T (option_map FinishItem o))) t Open)
        good None e ordered some = absurd (let clash : false ≡ true = some in cc)
        good (Some f) e ordered some = finishes_alike t n f ordered e

        by_right : (c d : Bool) → nat_le mark t ≡ c → is_some (early_at S t n) ≡ d
            → GoAlike a b (with_line counted_a (DoneLine t n) (cond (c && d) None (Some NotDone)))
            (with_line counted_b (DoneLine t n) (cond (c && d) None (Some NotDone)))
        by_right true true ordered some =
            subst (λ x. GoAlike a b (with_line counted_a (DoneLine t n) None) x)
            (sym (good_b (early_at S t n) (early_same t n)))
            (good (early_at S t n) refl (leb-true _ _ ordered) some)
        by_right _ _ _ _ = refused_alike (record { at = max mark t; line = RefusedDone t n }) raised

        by_tick : (c : Bool)
            → GoAlike a b (with_line counted_a (DoneLine t n) (cond c (Some Order)
            (cond (is_right S mark t n) None (Some NotDone))))
            (with_line counted_b (DoneLine t n) (cond c (Some Order) (cond (is_right S mark t n) None (Some NotDone))))
        by_tick true = faults_alike Order
        by_tick false = by_right (nat_le mark t) (is_some (early_at S t n)) refl refl

        by_version : (early : Bool)
            → GoAlike a b (with_line counted_a (DoneLine t n) (cond early
            (cond (nat_lt (last_tick_in S.rules.version) t) (Some Order)
            (cond (is_right S mark t n) None (Some NotDone))) (Some Line)))
            (with_line counted_b (DoneLine t n) (cond early
            (cond (nat_lt (last_tick_in S.rules.version) t) (Some Order)
            (cond (is_right S mark t n) None (Some NotDone))) (Some Line)))
        by_version true = by_tick (nat_lt (last_tick_in S.rules.version) t)
        by_version false = faults_alike Line

  -- a line of any form
  formed_alike : (line : FeedLine)
      → GoAlike a b (with_line counted_a line (later_line_cause S mark line))
      (with_line counted_b line (later_line_cause T mark line))
  formed_alike (RatioLine p q version) = faults_alike Declared
  formed_alike (FactorLine p q version b c) = faults_alike Declared
  formed_alike (JobLine j) = job_lines_alike j
  formed_alike (TickLine t) = subst (λ (r : Declaration). GoAlike a b
      (with_line counted_a (TickLine t) (later_line_cause S mark (TickLine t)))
      (with_line counted_b (TickLine t)
      (cond (nat_lt t mark || nat_lt (last_tick_in r.version) t) (Some Order) None))) (sym same.rules)
      (by_tests (nat_lt t mark) (nat_lt (last_tick_in S.rules.version) t) refl) where
        by_tests : (c d : Bool) → nat_lt t mark ≡ c
            → GoAlike a b (with_line counted_a (TickLine t) (cond (c || d) (Some Order) None))
            (with_line counted_b (TickLine t) (cond (c || d) (Some Order) None))
        by_tests false false ordered = ticks_alike t (ltb-false _ _ ordered)
        by_tests _ _ _ = faults_alike Order
  formed_alike (DoneLine t n) = done_lines_alike t n
  formed_alike EndLine = ends_alike

  -- any line
  open_alike : (bytes : List ℕ) → GoAlike a b (next_line a bytes) (next_line b bytes)
  open_alike bytes = subst (λ most. GoAlike a b (next_line a bytes)
      (cond (nat_lt most (suc lines)) (with_fault counted_b Lines) (after_form counted_b (feed_line bytes))))
      (ap (λ (r : Declaration). most_lines r.version) (sym same.rules))
      (by_count (nat_lt (most_lines S.rules.version) (suc lines)) (feed_line bytes)) where
        by_count : (c : Bool) (o : Option FeedLine)
            → GoAlike a b (cond c (with_fault counted_a Lines) (after_form counted_a o))
            (cond c (with_fault counted_b Lines) (after_form counted_b o))
        by_count true o = faults_alike Lines
        by_count false None = faults_alike Line
        by_count false (Some line) = formed_alike line

-- ---- any lines

-- nothing more is due where nothing changes
stay_alike : (a b : Account) → Alike a b → GoAlike a b a b
stay_alike a b alike = record
    { alike = alike; text = []; first = sym (append-nil (due_lines a)); other = sym (append-nil (due_lines b)) }

step_alike : (lines mark : ℕ) (standing : Standing) (s t : Option Session) → SameRun s t
    → IsKept (account_with lines s mark standing)
    → IsKept (account_with lines t mark standing) → (bytes : List ℕ)
    → GoAlike (account_with lines s mark standing) (account_with lines t mark standing)
    (next_line (account_with lines s mark standing) bytes)
    (next_line (account_with lines t mark standing) bytes)
step_alike lines mark Open (Some S) (Some T) same kept other bytes =
    open_alike S T mark lines kept other same bytes
step_alike lines mark Open _ _ same kept other bytes = absurd same
step_alike lines mark Ended s t same kept other bytes =
    stay_alike (account_with lines s mark Ended) (account_with lines t mark Ended) (refl, refl, refl, same)
step_alike lines mark (Faulty line cause) s t same kept other bytes =
    stay_alike (account_with lines s mark (Faulty line cause)) (account_with lines t mark (Faulty line cause))
    (refl, refl, refl, same)

module _ (a b : Account) (alike : Alike a b) where
  -- the other account, of what both have and its own session
  other_account : b ≡ account_with a.lines b.session a.mark a.standing
  other_account = ap (λ n. account_with n b.session b.mark b.standing) alike.0
      ∙ ap (λ m. account_with a.lines b.session m b.standing) alike.1
      ∙ ap (λ s. account_with a.lines b.session a.mark s) alike.2

  next_alike : IsKept a → IsKept b → (bytes : List ℕ) → GoAlike a b (next_line a bytes) (next_line b bytes)
  next_alike kept other bytes =
      subst (λ (c : Account). GoAlike a c (next_line a bytes) (next_line c bytes)) (sym other_account)
      (step_alike a.lines a.mark a.standing a.session b.session alike.3 kept (subst (IsKept) other_account other) bytes)

-- lines behind two feeds that are alike
pub lines_alike : (ls : List (List ℕ)) (a b : Account) → Alike a b → IsKept a → IsKept b
    → GoAlike a b (fold next_line a ls) (fold next_line b ls)
lines_alike [] a b alike kept other = stay_alike a b alike
lines_alike (l ∷ ls) a b alike kept other =
    let one : GoAlike a b (next_line a l) (next_line b l) = next_alike a b alike kept other l in
    let rest : GoAlike (next_line a l) (next_line b l) (fold next_line (next_line a l) ls)
    (fold next_line (next_line b l) ls) =
    lines_alike ls (next_line a l) (next_line b l) one.alike (lines_goes (l ∷ []) a kept).0
    (lines_goes (l ∷ []) b other).0 in
    record {
      alike = rest.alike;
      text = one.text ++ rest.text;
      first = rest.first ∙ ap (λ xs. xs ++ rest.text) one.first ∙ append_assoc (due_lines a) one.text rest.text;
      other = rest.other ∙ ap (λ xs. xs ++ rest.text) one.other ∙ append_assoc (due_lines b) one.text rest.text;
    }
