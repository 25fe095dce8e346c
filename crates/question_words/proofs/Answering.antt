-- What is put at the end of a feed is an answer.
use Rattle.std.proofs.Common.{◌≡◌, ℕ, suc, List, ◌∷◌, [], refl, sym, ap, ◌∙◌, subst, false, inl, inr, Option, Result}
use Rattle.std.proofs.Common.{Ok, Err}
use Rattle.dover_model.specs.Common.{Account, Instance, account_of_lines, fault_text, in_lines}
use Rattle.dover_port.specs.declared.status.Status.{Status}
use Rattle.dover_port.specs.declared.status.Status.TheVariants.{Refused}
use Rattle.dover_port.specs.Moves.{Move}
use Rattle.dialogue.specs.Reading.{SaysAt}
use Rattle.dialogue.specs.Talk.{IsFinal}
use Rattle.dialogue.specs.Turns as turns
use Rattle.dialogue.specs.declared.talker.Stop.{Stop}
use Rattle.dialogue.specs.declared.talker.Stop.TheVariants.{NoMemory, Unwritten}
use Rattle.dialogue.proofs.Reading.{on_counted}
use Rattle.event_feed.specs.Kept.{cause_of_fault}
use Rattle.event_feed.specs.declared.faults.Cause.TheVariants as cause
use Rattle.event_feed.specs.declared.faults.FeedFault.{FeedFault}
use Rattle.event_feed.specs.Listing.{listed_instance, wants_more}
use Rattle.event_feed.specs.Record.{IsEnded, IsNotListed}
use Rattle.event_feed.specs.declared.listed.NotListed.{NotListed}
use Rattle.event_feed.specs.declared.listed.NotListed.TheVariants.{Fault, TooMany}
use Rattle.event_feed.specs.declared.listed.Listed.{Listed}
use Rattle.event_feed.proofs.Listing.{goes_on, open_by_test}
use Rattle.event_feed.proofs.Offering.{few_wanted}
use Rattle.question_words.specs.Talk.{Answers, Says, SaysOf, ask_reading}
use Rattle.question_words.specs.Texts.{PutsBy, refusal_line, text_of}
use Rattle.question_words.specs.declared.answer.Answer.{Answer}
use Rattle.question_words.proofs.Talking.{orderly}

module _ (says : Says) (ls : List (List ℕ)) where
  -- the account of the lines
  abbrev a : Account
  a = account_of_lines ls

  -- the line refuses the feed
  pub refusal : (why : NotListed) → IsNotListed why ls → (text : List ℕ) → text ≡ in_lines (refusal_line why ∷ [])
      → Answers says a Refused text
  refusal TooMany many text is = inl (many, refl, is)
  refusal (Fault fault) (few, inl faulty) text is =
      inr (few, subst (λ s. SaysAt a.lines s (SaysOf says a.session) Refused text) (sym faulty.0) (refl, is))
  refusal (Fault fault) (few, inr short) text is =
      let count = (on_counted (ask_reading says) (orderly says) ls (few_wanted a few ∙ short.0)).0 in
      inr (
        few,
        subst (λ s. SaysAt a.lines s (SaysOf says a.session) Refused text) (sym (open_by_test a short.0)) (
          refl,
          is ∙ ap (λ (f : FeedFault). in_lines (fault_text f.line (cause_of_fault f.cause) ∷ [])) short.1
              ∙ ap (λ n. in_lines (fault_text (suc n) (cause_of_fault cause.Short) ∷ [])) (sym count),
        ),
      )

  module _ (listed : Listed) (by : IsEnded listed a) where
    -- this is said of the jobs
    pub said : (status : Status) (text : List ℕ) → says (listed_instance listed) status text
        → Answers says a status text
    said status text it = inr (
      by.few,
      subst (λ s. SaysAt a.lines s (SaysOf says a.session) status text) (sym by.ended)
          (subst (λ o. SaysOf says o status text) (sym by.session_is)
          (by.valid, subst (λ (J : Instance). says J status text) by.run it)),
    )

    -- the input goes on behind the end line
    pub unended : wants_more a ≡ false
    unended = few_wanted a by.few ∙ ap goes_on by.ended

-- what answers was put
pub answered : (says : Status → List ℕ → Type 0) (lacks : Type 0) (answer : Answer) (a b : Option (List Move))
    (q : List ℕ) (r : Result Status Stop) → IsFinal answer.status → says answer.status (text_of answer)
    → PutsBy answer a b q r → turns.Answers says lacks a b q r
answered says lacks answer a b q (Ok status) final it put = subst (λ s. turns.Answers says lacks a b q (Ok s))
    (sym put.0) (final, (text_of answer, it, put.1))
answered says lacks answer a b q (Err Unwritten) final it cut = (answer.status, text_of answer, it, cut)
answered says lacks answer a b q (Err NoMemory) final it none = absurd none
