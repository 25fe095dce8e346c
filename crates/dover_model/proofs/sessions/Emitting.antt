-- What each line of a feed adds to what is due, as the texts that a server writes for it.
use Rattle.std.proofs.Common.{◌≡◌, List, [], ◌∷◌, ◌++◌, map, refl, ap, ◌∙◌}
use Rattle.std.proofs.lemmas.List.{append-nil, map-append}
use Rattle.dover_model.specs.Common.{Event, JobFacts, settled, JobItem, RefusedItem, Refused, Session, instance_of}
use Rattle.dover_model.specs.Common.{with_item, header, text_of, refused_text, Printed, lines_among, text_of_line}
use Rattle.dover_model.specs.Common.{texts_among, places_of, put_in}
use Rattle.dover_model.proofs.sessions.PutIn.{RefusesWithin, put_in-more_steps, places_after-append}
use Rattle.dover_model.proofs.sessions.Growing.{Reads, lines_refused}

-- the lines of printed steps as texts
printed_texts : (es : List Event) → map text_of_line (map Printed es) ≡ map text_of es
printed_texts [] = refl
printed_texts (e ∷ es) = ap (λ ls. text_of e ∷ ls) (printed_texts es)

-- further steps add their texts
pub texts_more : (S : Session) (steps more : List Event) → RefusesWithin S steps
    → texts_among S (steps ++ more) ≡ texts_among S steps ++ map text_of more
texts_more S steps more within = ap (λ ls. header S.rules ∷ ls)
    (ap (map text_of_line) (put_in-more_steps (places_of S) 0 steps more within)
    ∙ map-append text_of_line (lines_among S steps) (map Printed more)
    ∙ ap (λ ls. map text_of_line (lines_among S steps) ++ ls) (printed_texts more))

-- a job adds nothing by itself
pub texts_job : (S : Session) (j : JobFacts) (steps : List Event)
    → texts_among (with_item S (JobItem j)) steps ≡ texts_among S steps
texts_job S j steps = ap (λ ps. header S.rules ∷ map text_of_line (put_in ps 0 steps))
    (places_after-append S.rules [] S.items (JobItem j ∷ []) ∙ append-nil (places_of S))

-- a refused line adds its text behind what is settled at its tick
pub texts_refused : (S : Session) (r : Refused) → Reads S r.at
    → texts_among (with_item S (RefusedItem r)) (settled (instance_of (with_item S (RefusedItem r))) r.at)
    ≡ texts_among S
    (settled (instance_of S) r.at) ++ refused_text r ∷ []
texts_refused S r reads = ap (λ ls. header S.rules ∷ map text_of_line ls) (lines_refused S r reads)
    ∙ ap (λ ls. header S.rules ∷ ls) (map-append text_of_line (lines_among S (settled (instance_of S) r.at)) _)
