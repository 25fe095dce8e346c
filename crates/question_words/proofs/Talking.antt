-- What a word says that answers on the jobs of a feed: its laws.
use Rattle.std.proofs.Common.{◌≡◌, ◌∙◌, ℕ, List, ◌∷◌, [], refl, sym, subst, true, false, inl, inr, arith, le-ltb}
use Rattle.dover_model.specs.Common.{Account, next_line}
use Rattle.dover_model.proofs.sessions.Accounts.{too_long_same}
use Rattle.dover_port.specs.declared.status.Status.{Status}
use Rattle.dialogue.specs.Taking.{IsGood, IsOrderly}
use Rattle.event_feed.specs.Listing.{wants_more}
use Rattle.event_feed.proofs.Admitting.{too_many_behind}
use Rattle.event_feed.proofs.GoingOn.{closed_stays, good_line}
use Rattle.event_feed.proofs.Listing.{open_by_test}
use Rattle.event_feed.proofs.Offering.{few_wanted, none_more, wanted_few}
use Rattle.question_words.specs.Talk.{Answers, Says, ask_reading}

-- a line behind those that end the feed changes no answer
pub answer_stays : (says : Says) (a : Account) (l : List ℕ) (status : Status) (text : List ℕ) → wants_more a ≡ false
    → Answers says a status text → Answers says (next_line a l) status text
answer_stays says a l status text over (inl (many, refused, is)) = inl (too_many_behind (l ∷ []) a many, refused, is)
answer_stays says a l status text over (inr (few, it)) = subst (λ b. Answers says b status text)
    (sym (closed_stays (l ∷ []) a (sym (few_wanted a few) ∙ over))) (inr (few, it))

-- where more is wanted behind a line, it is a good one
pub good : (a : Account) (l : List ℕ) → wants_more (next_line a l) ≡ true
    → IsGood (λ (b : Account). b.lines) a l (next_line a l)
good a l wants =
    let it = good_line a l (open_by_test (next_line a l) (wanted_few (next_line a l) wants).0) in
    record { short = le-ltb _ _ it.1; few = omega (arith, it.0); counted = it.2 }

-- the laws of the reading
abbrev pub orderly : (says : Says) → IsOrderly (ask_reading says)
orderly says = record {
  opens = refl;
  stays = none_more;
  answered = answer_stays says;
  lacking = λ a l it. it;
  same = too_long_same;
  lines = λ a. a.lines;
  none = refl;
  good = good;
}
