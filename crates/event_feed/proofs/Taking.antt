-- A line that is taken in, from the account in which it is counted to that of all lines.
use Rattle.std.proofs.Common.{◌≡◌, ℕ, suc, ◌≤◌, List, [], ◌∷◌, ◌++◌, refl, sym, ap, ◌∙◌, subst, cond, true, false}
use Rattle.std.proofs.Common.{Option, Some, None, Ok, Err, inl, Result, IsSome, le-ltb}
use Rattle.std.proofs.lemmas.List.Sums.{fold-append}
use Rattle.dover_model.specs.Common.{most_lines, Session, FeedLine, feed_line, Account, Open, Ended, cause_of}
use Rattle.dover_model.specs.Common.{with_line, with_fault, read_line, next_line, no_lines, account_of_lines}
use Rattle.dover_model.specs.Common.{most_lines_in}
use Rattle.dover_model.specs.Feed as model
use Rattle.event_feed.specs.declared.faults.Cause.{Cause}
use Rattle.event_feed.specs.declared.faults.FeedFault.{FeedFault}
use Rattle.event_feed.specs.declared.intake.Standing as standings
use Rattle.event_feed.specs.declared.intake.Standing.TheVariants as kept
use Rattle.event_feed.specs.declared.kept_session.KeptSession.{KeptSession}
use Rattle.event_feed.specs.declared.fed.Fed.{Fed}
use Rattle.event_feed.specs.declared.fed.Fed.TheVariants as feds
use Rattle.event_feed.specs.Kept.{KeepsSession, StandsBehind, most_lines_of, session_by, KeepsAccount, IsGoing}
use Rattle.event_feed.specs.Kept.{cause_of_fault, fault_of, has_ended, standing_of}
use Rattle.event_feed.specs.Answers.{counted, Answers, IsFed}
use Rattle.event_feed.proofs.DoneLines.{done_standing, done_lines}
use Rattle.event_feed.specs.Reading.{open_account, IsTaken, TakesIn}

-- a session that is kept has as many lines as its version allows
pub kept_most : (kept : Option KeptSession) (session : Option Session) (mark : ℕ) → KeepsSession kept session mark
    → most_lines_of kept ≡ most_lines_in session
kept_most None None mark keeps = refl
kept_most None (Some S) mark keeps = absurd keeps
kept_most (Some kept) None mark keeps = absurd keeps
kept_most (Some kept) (Some S) mark keeps = ap (λ r. most_lines r.version) (sym keeps.rules)

-- what is taken of a line's form is taken of the line
pub taken_line : (a : Account) (bytes : List ℕ) (line : FeedLine) (kept : Option KeptSession)
    (answer : Result Fed Cause) → a.standing ≡ Open
    → a.lines ≤ most_lines_in a.session → feed_line bytes ≡ Some line
    → TakesIn (open_account a.lines a.session a.mark) line kept answer
    → IsTaken kept (feed_line bytes) a (read_line a bytes) answer
taken_line a bytes line kept answer opened few read it =
    let taken : TakesIn a line kept answer =
    subst (λ b. TakesIn b line kept answer)
    (sym (ap (λ s. let b : Account = record a { standing = s } in b) opened)) it in
    let after : read_line a bytes ≡ with_line a line (cause_of a line) =
    ap (λ b. cond b (with_fault a model.Lines)
    (elim (feed_line bytes) [ None ↦ with_fault a model.Line | Some l ↦ with_line a l (cause_of a l) ]))
    (le-ltb _ _ few) ∙ ap (λ o. elim o [ None ↦ with_fault a model.Line | Some l ↦ with_line a l (cause_of a l) ])
    read in
    subst (λ o. IsTaken kept o a (read_line a bytes) answer) (sym read)
    (subst (λ b. IsTaken kept (Some line) a b answer) (sym after) taken)

-- the account of one line more
pub next_account : (ls : List (List ℕ)) (bytes : List ℕ) → (account_of_lines ls).standing ≡ Open
    → account_of_lines (ls ++ bytes ∷ []) ≡ read_line (counted (account_of_lines ls)) bytes
next_account ls bytes opened = fold-append next_line no_lines ls (bytes ∷ [])
    ∙ ap (λ b. cond b (read_line (counted (account_of_lines ls)) bytes) (account_of_lines ls))
    (ap (λ s. elim s [ Open ↦ true | Ended ↦ false | model.Faulty line cause ↦ false ]) opened)

-- behind a fault all stays
pub fault_stays : (ls : List (List ℕ)) (bytes : List ℕ) (line : ℕ) (cause : model.Cause)
    → (account_of_lines ls).standing ≡ model.Faulty line cause
    → account_of_lines (ls ++ bytes ∷ []) ≡ account_of_lines ls
fault_stays ls bytes line cause faulty = fold-append next_line no_lines ls (bytes ∷ [])
    ∙ ap (λ b. cond b (read_line (counted (account_of_lines ls)) bytes) (account_of_lines ls))
    (ap (λ s. elim s [ Open ↦ true | Ended ↦ false | model.Faulty n of ↦ false ]) faulty)

-- a fault is kept
pub keeps_fault : (ls : List (List ℕ)) (bytes : List ℕ) (session : Option KeptSession) (lines : ℕ) (cause : Cause)
    → (account_of_lines ls).standing ≡ Open → lines ≡ suc (account_of_lines ls).lines
    → IsTaken session (feed_line bytes) (counted (account_of_lines ls))
    (read_line (counted (account_of_lines ls)) bytes) (Err cause)
    → KeepsAccount
    (record { lines = lines; session = session; standing = kept.Faulty (record { line = lines; cause = cause }) })
    (account_of_lines (ls ++ bytes ∷ []))
keeps_fault ls bytes session lines cause opened counts it = subst (KeepsAccount
    (record { lines = lines; session = session; standing = kept.Faulty (record { line = lines; cause = cause }) }))
    (sym (next_account ls bytes opened)) (record {
      counted = counts ∙ sym (ap (λ a. a.lines) it.gives.after_is);
      session = it.keeps;
      standing = ap (λ n. model.Faulty n (cause_of_fault cause)) counts
          ∙ sym (ap (λ a. a.standing) it.gives.after_is);
    })

-- and answered
pub answers_fault : (ls : List (List ℕ)) (bytes : List ℕ) (session : Option KeptSession) (lines : ℕ) (cause : Cause)
    → (account_of_lines ls).standing ≡ Open → lines ≡ suc (account_of_lines ls).lines
    → IsTaken session (feed_line bytes) (counted (account_of_lines ls))
    (read_line (counted (account_of_lines ls)) bytes) (Err cause)
    → Answers bytes (account_of_lines ls) (account_of_lines (ls ++ bytes ∷ []))
    (Err (record { line = lines; cause = cause }))
answers_fault ls bytes session lines cause opened counts it =
    inl (record {
      opened = opened;
      line = counts;
      after_is = next_account ls bytes opened ∙ it.gives.after_is;
      other =
          it.gives.other;
    })

-- ---- a line that isn't at fault

-- how the account stands, and how many lines it has
abbrev pub Stays : Account → Account → Type 0
Stays a after = (after.standing ≡ a.standing) × (after.lines ≡ a.lines)

-- one that isn't the end leaves both
fed_stays : (fed : Fed) (a after : Account) → (fed ≡ feds.Over → ⊥) → IsFed a after fed → Stays a after
fed_stays (feds.Ratio k version) a after more it =
    (ap (λ (x : Account). x.standing) it.after_is, ap (λ (x : Account). x.lines) it.after_is)
fed_stays (feds.Job number job) a after more it =
    (ap (λ (x : Account). x.standing) it.after_is, ap (λ (x : Account). x.lines) it.after_is)
fed_stays (feds.Tick tick) a after more it =
    (ap (λ (x : Account). x.standing) it.after_is, ap (λ (x : Account). x.lines) it.after_is)
fed_stays feds.Over a after more it = absurd (more refl)
fed_stays (feds.Refused release work deadline value cause) a after more it =
    (ap (λ (x : Account). x.standing) it.after_is, ap (λ (x : Account). x.lines) it.after_is)
fed_stays (feds.Done tick number) a after more it = (
  ap (λ (x : Account). x.standing) it.after_is ∙ done_standing it.session tick number a,
  ap (λ (x : Account). x.lines) it.after_is ∙ done_lines it.session tick number a,
)

-- what is kept then
pub keeps_fed : (ls : List (List ℕ)) (bytes : List ℕ) (session : Option KeptSession) (lines : ℕ) (fed : Fed)
    → (account_of_lines ls).standing ≡ Open → lines ≡ suc (account_of_lines ls).lines → (fed ≡ feds.Over → ⊥)
    → IsTaken session (feed_line bytes) (counted (account_of_lines ls))
    (read_line (counted (account_of_lines ls)) bytes) (Ok fed)
    → (standing : standings.Standing) → standing ≡ kept.Open
    → StandsBehind {E = FeedFault} (Ok fed) (record { lines = lines; session = session; standing = standing }) ls bytes
keeps_fed ls bytes session lines fed opened counts more it standing on =
    let a : Account = account_of_lines ls in
    let stays : Stays (counted a) (read_line (counted a) bytes) =
    fed_stays fed (counted a) (read_line (counted a) bytes) more it.gives in
    subst (λ (b : Account). KeepsAccount (record { lines = lines; session = session; standing = standing })
    (record b { session = session_by fed a.session b.session })) (sym (next_account ls bytes opened)) (record {
      counted = counts ∙ sym stays.1;
      session = it.keeps;
      standing = ap standing_of on ∙ sym (stays.0 ∙ opened);
    })

-- and at the end
pub keeps_over : (ls : List (List ℕ)) (bytes : List ℕ) (session : Option KeptSession) (lines : ℕ)
    → (account_of_lines ls).standing ≡ Open → lines ≡ suc (account_of_lines ls).lines
    → IsTaken session (feed_line bytes) (counted (account_of_lines ls))
    (read_line (counted (account_of_lines ls)) bytes) (Ok feds.Over)
    → KeepsAccount (record { lines = lines; session = session; standing = kept.Over })
    (account_of_lines (ls ++ bytes ∷ []))
keeps_over ls bytes session lines opened counts it =
    subst (KeepsAccount (record { lines = lines; session = session; standing = kept.Over }))
    (sym (next_account ls bytes opened)) (record {
      counted = counts ∙ sym (ap (λ (x : Account). x.lines) it.gives.after_is);
      session = it.keeps;
      standing = sym (ap (λ (x : Account). x.standing) it.gives.after_is);
    })

-- where neither the end nor a fault came, the feed goes on
pub goes_on : (standing : standings.Standing)
    → has_ended (record { lines = 0; session = None; standing = standing }) ≡ false
    → ((fault : FeedFault) → standing ≡ kept.Faulty fault → ⊥) → standing ≡ kept.Open
goes_on kept.Open not_over not_faulty = refl
goes_on kept.Over not_over not_faulty = absurd (let e : true ≡ false = not_over in cc)
goes_on (kept.Faulty fault) not_over not_faulty = absurd (not_faulty fault refl)

-- a session is going on where it is declared and still open
pub is_going : (lines : ℕ) (session : Option KeptSession) (standing : standings.Standing) → IsSome session
    → standing ≡ kept.Open
    → IsGoing (record { lines = lines; session = session; standing = standing })
is_going lines session standing declared opened = record {
  declared = declared;
  no_fault = ap (λ s. fault_of (record { lines = lines; session = session; standing = s })) opened;
  not_ended = ap (λ s. has_ended (record { lines = lines; session = session; standing = s })) opened;
}
