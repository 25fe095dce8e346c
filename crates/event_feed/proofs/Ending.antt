-- A feed whose reading is over.
use Rattle.std.proofs.Common.{◌≡◌, ℕ, List, refl, sym, ap, ◌∙◌, subst, Some, None}
use Rattle.std.proofs.Common.{false, inl, inr, Result, Err}
use Rattle.dover_model.specs.Feed as feeds
use Rattle.dover_model.specs.Common.{no_lines, account_of_lines, IsValid, JobFacts}
use Rattle.dover_model.proofs.sessions.Accounts.{Closes, HoldsBy, lines_goes}
use Rattle.event_feed.specs.Answers.{EndAnswers}
use Rattle.event_feed.specs.Kept as feed
use Rattle.event_feed.specs.Kept.{Kept, standing_of, fault_of, cause_of_fault}
use Rattle.event_feed.specs.declared.faults.FeedFault.{FeedFault}
use Rattle.event_feed.specs.declared.intake.Standing.{Standing}
use Rattle.event_feed.specs.declared.intake.Standing.TheVariants.{Open, Over, Faulty}
use Rattle.event_feed.specs.Keeping.{KeepsAll}
use Rattle.event_feed.specs.Listing.{ListsIn, listed_instance, has_too_many}
use Rattle.event_feed.specs.Record.{IsEnded, IsRefusedBy}
use Rattle.event_feed.specs.declared.listed.DoneLine.{DoneLine}
use Rattle.event_feed.specs.declared.listed.Listed.{Listed}
use Rattle.event_feed.specs.declared.gathering.Gathering.{Gathering}
use Rattle.event_feed.proofs.Listing.{goes_on}
use Rattle.dover_model.proofs.sessions.SessionParts.{session_jobs}

-- ---- the end line

module _ (ls : List (List ℕ)) (ended : (account_of_lines ls).standing ≡ feeds.Ended) where
  -- what an account keeps at its end
  ended_keeps : HoldsBy feeds.Ended (account_of_lines ls).session (account_of_lines ls).mark
      (account_of_lines ls).lines
  ended_keeps = subst (λ s. HoldsBy s (account_of_lines ls).session (account_of_lines ls).mark
      (account_of_lines ls).lines) ended (lines_goes ls no_lines refl).0

  -- a feed that is ended has a session
  pub none_ended : (jobs : List JobFacts) (done_lines : List DoneLine)
      → ListsIn None jobs done_lines (account_of_lines ls) → ⊥
  none_ended jobs done_lines it = subst (λ s. HoldsBy feeds.Ended s (account_of_lines ls).mark
      (account_of_lines ls).lines) it.2
      ended_keeps

  -- its jobs are those listed
  pub ended_jobs : (listed : Listed) → has_too_many (account_of_lines ls) ≡ false
      → ListsIn (Some (listed.ratio, listed.version)) listed.jobs.items listed.done_lines.items (account_of_lines ls)
      → IsEnded listed (account_of_lines ls)
  ended_jobs listed few it =
      let closes : Closes it.named =
      subst (λ s. HoldsBy feeds.Ended s (account_of_lines ls).mark
      (account_of_lines ls).lines) it.there ended_keeps in
      record {
        few = few;
        ended = ended;
        session = it.named;
        session_is = it.there;
        valid = closes.valid;
        run = it.run;
        among = it.among;
      }

-- they are valid
pub jobs_valid : (a : feeds.Account) (listed : Listed) → IsEnded listed a → IsValid (listed_instance listed)
jobs_valid a listed it = subst IsValid (sym it.run) (session_jobs it.valid)

-- what stands for lines keeps how they stand
pub keeps_standing : (kept : Kept) (ls : List (List ℕ)) → feed.StandsFor kept ls
    → feed.KeepsStanding kept (account_of_lines ls)
keeps_standing kept ls it = record { counted = it.by_account.counted; standing = it.by_account.standing }

-- ---- the fault

module _ (g : Gathering) (ls : List (List ℕ)) (all : KeepsAll g ls) where
  -- a fault of the account is kept
  kept_fault : (kept : Kept) (line : ℕ) (cause : feeds.Cause) → standing_of kept.standing ≡ feeds.Faulty line cause
      → (fault : FeedFault) × (fault_of kept ≡ Some fault)
  kept_fault kept line cause is = by_standing kept.standing refl where
    by_standing : (s : Standing) → kept.standing ≡ s → (fault : FeedFault) × (fault_of kept ≡ Some fault)
    by_standing Open at = absurd (let e : feeds.Open ≡ feeds.Faulty line cause = sym (ap standing_of at) ∙ is in cc)
    by_standing Over at = absurd (let e : feeds.Ended ≡ feeds.Faulty line cause = sym (ap standing_of at) ∙ is in cc)
    by_standing (Faulty fault) at = (
      fault,
      ap (λ (s : Standing). elim s [ Open ↦ None | Over ↦ None | Faulty f ↦ Some f ]) at,
    )

  -- the answer that is a fault
  abbrev answered : FeedFault → Result ℕ FeedFault
  answered fault = Err fault

  -- the fault at the end of input is that of the feed
  pub refused_by : (fault : FeedFault) → EndAnswers ls (answered fault)
      → ((other : FeedFault) → fault_of g.intake ≡ Some other → fault ≡ other) → IsRefusedBy fault ls
  refused_by fault (inl short) same = inr (ap goes_on short.0, short.1)
  refused_by fault (inr faulty) same =
      let kept = kept_fault g.intake fault.line (cause_of_fault fault.cause)
      (all.intake.by_account.standing ∙ faulty) in
      inl (faulty, all.names fault (kept.1 ∙ ap Some (sym (same kept.0 kept.1))))
