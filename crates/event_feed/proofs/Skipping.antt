-- Tick lines at the mark change nothing but the number of lines.
use Rattle.std.proofs.Common.{◌≡◌, ℕ, zero, suc, ◌+◌, ◌≤◌, List, ◌++◌, replicate, refl, sym, ap, ◌∙◌, subst, cond, true}
use Rattle.std.proofs.Common.{false, Option, Some, None, arith, add-zero, ◌||◌, fold, nat_lt, IsSome, le-ltb}
use Rattle.std.proofs.lemmas.List.Sums.{fold-append}
use Rattle.dover_model.specs.Common.{most_lines, last_tick_in, Session, TickLine, feed_line, feed_text, Account, Open}
use Rattle.dover_model.specs.Common.{Order, Lines, with_fault, with_line, next_line, no_lines, account_of_lines}
use Rattle.dover_model.proofs.texts.FeedLines.{feed_line-feed_text}
use Rattle.dover_model.proofs.valid.Limiting.{tick_most}
use Rattle.dover_model.proofs.sessions.Accounts.{HoldsBy, HoldsOpen, Holds, IsKept, lines_goes}
use Rattle.event_feed.specs.declared.intake.Standing.TheVariants as standings
use Rattle.event_feed.specs.declared.kept_session.KeptSession.{KeptSession}
use Rattle.event_feed.specs.Kept.{Kept, KeepsSession, KeepsAccount, StandsFor, IsGoing, HasLines, standing_of, fault_of}
use Rattle.event_feed.specs.Kept.{most_lines_of}
use Rattle.event_feed.specs.Reading.{open_account}
use Rattle.event_feed.proofs.Counting.{after_form}
use Rattle.event_feed.proofs.Taking.{goes_on, kept_most}

-- the mark of an open account with a session is a tick
pub mark_known : (ls : List (List ℕ)) (S : Session) → (account_of_lines ls).standing ≡ Open
    → (account_of_lines ls).session ≡ Some S
    → (account_of_lines ls).mark ≤ last_tick_in S.rules.version
mark_known ls S opened session =
    let a : Account = account_of_lines ls in
    let kept : IsKept a = (lines_goes ls no_lines zero_mark).0 in
    let holds : Holds S a.mark a.lines =
    subst (λ o. HoldsOpen o a.mark a.lines) session (subst
    (λ s. HoldsBy s a.session a.mark a.lines) opened kept) in
    holds.known where
      zero_mark : no_lines.mark ≡ 0
      zero_mark = refl

-- its cause: there is none
no_cause : (mark last : ℕ) → mark ≤ last → nat_lt mark mark || nat_lt last mark ≡ false
no_cause mark last known = ap (λ b. b || nat_lt last mark) (le-ltb mark mark (omega arith)) ∙ le-ltb last mark known

-- one such line
one_tick : (lines : ℕ) (S : Session) (mark : ℕ) → mark ≤ last_tick_in S.rules.version
    → suc lines ≤ most_lines S.rules.version
    → next_line (open_account lines (Some S) mark) (feed_text (TickLine mark)) ≡ open_account (suc lines) (Some S) mark
one_tick lines S mark known few =
    let a : Account = open_account (suc lines) (Some S) mark in
    let read : feed_line (feed_text (TickLine mark)) ≡ Some (TickLine mark) =
    feed_line-feed_text (TickLine mark) (omega (arith, known, tick_most S.rules.version), tt) in
    ap (λ b. cond b (with_fault a Lines) (after_form a (feed_line (feed_text (TickLine mark))))) (le-ltb _ _ few)
    ∙ ap (after_form a) read
    ∙ ap (λ b. with_line a (TickLine mark) (cond b (Some Order) None))
    (no_cause mark (last_tick_in S.rules.version) known)

-- so many
pub ticks : (n lines : ℕ) (S : Session) (mark : ℕ) → mark ≤ last_tick_in S.rules.version
    → lines + n ≤ most_lines S.rules.version
    → fold next_line (open_account lines (Some S) mark) (replicate n (feed_text (TickLine mark))) ≡ open_account
    (lines + n) (Some S) mark
ticks zero lines S mark known few = ap (λ m. open_account m (Some S) mark) (sym (add-zero lines))
ticks (suc n) lines S mark known few =
    ap (λ a. fold next_line a (replicate n (feed_text (TickLine mark)))) (one_tick lines S mark known (omega arith))
    ∙ ticks n (suc lines) S mark known (omega arith)
    ∙ ap (λ m. open_account m (Some S) mark) (let e : suc lines + n ≡ lines + suc n = omega arith in e)

-- the account of so many lines more
pub ticks_account : (ls : List (List ℕ)) (n : ℕ) (S : Session) → (account_of_lines ls).standing ≡ Open
    → (account_of_lines ls).session ≡ Some S
    → (account_of_lines ls).lines + n ≤ most_lines S.rules.version
    → account_of_lines (ls ++ replicate n (feed_text (TickLine (account_of_lines ls).mark)))
    ≡ open_account ((account_of_lines ls).lines + n) (Some S) (account_of_lines ls).mark
ticks_account ls n S opened session few =
    let a : Account = account_of_lines ls in
    let same : a ≡ open_account a.lines (Some S) a.mark =
    ap (λ s. let b : Account = record a { standing = s } in b) opened
    ∙ ap (λ o. open_account a.lines o a.mark) session in
    fold-append next_line no_lines ls (replicate n (feed_text (TickLine a.mark)))
    ∙ ap (λ b. fold next_line b (replicate n (feed_text (TickLine a.mark)))) same
    ∙ ticks n a.lines S a.mark (mark_known ls S opened session) few

-- a session is kept of a session
some_session : (kept : Option KeptSession) (session : Option Session) (mark : ℕ) → IsSome kept
    → KeepsSession kept session mark
    → (S : Session) × (session ≡ Some S)
some_session None session mark none keeps = absurd (let e : false ≡ true = none in cc)
some_session (Some kept) None mark some keeps = absurd keeps
some_session (Some kept) (Some S) mark some keeps = (S, refl)

-- what goes on is open
pub still_open : (kept : Kept) → IsGoing kept → kept.standing ≡ standings.Open
still_open kept going = goes_on kept.standing going.not_ended (λ fault faulty. absurd (let e : Some fault ≡ None =
    ap (λ s. fault_of (record { lines = kept.lines; session = kept.session; standing = s })) (sym faulty)
    ∙ going.no_fault in cc))

-- what is kept after so many lines more
pub keeps_ticks : (kept : Kept) (ls : List (List ℕ)) (n : ℕ) → IsGoing kept → HasLines kept n → StandsFor kept ls
    → StandsFor (record { lines = kept.lines + n; session = kept.session; standing = kept.standing })
    (ls ++ replicate n (feed_text (TickLine (account_of_lines ls).mark)))
keeps_ticks kept ls n going few it =
    let a : Account = account_of_lines ls in
    let going_on : kept.standing ≡ standings.Open = still_open kept going in
    let opened : a.standing ≡ Open = sym it.by_account.standing ∙ ap standing_of going_on in
    let some : (S : Session) × (a.session ≡ Some S) =
    some_session kept.session a.session a.mark going.declared it.by_account.session in
    let most : most_lines_of kept.session ≡ most_lines some.0.rules.version =
    kept_most kept.session (Some some.0) a.mark
    (subst (λ s. KeepsSession kept.session s a.mark) some.1 it.by_account.session) in
    record {
      by_account = subst (KeepsAccount
          (record { lines = kept.lines + n; session = kept.session; standing = kept.standing }))
          (sym (ticks_account ls n some.0 opened some.1 (omega (arith, it.by_account.counted, few, most)))) (record {
            counted = ap (λ m. m + n) it.by_account.counted;
            session = subst (λ s. KeepsSession kept.session s a.mark) some.1 it.by_account.session;
            standing = ap standing_of going_on;
          });
    }
