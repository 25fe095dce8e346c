-- The text of a feed of jobs, in the parts in which it is put.
use Rattle.std.proofs.Common.{◌≡◌, ℕ, List, [], ◌∷◌, ◌++◌, map, sym, ap, ◌∙◌, subst, Option, Result}
use Rattle.std.proofs.lemmas.List.{append-nil, map-append}
use Rattle.dover_model.specs.Common.{EndLine, feed_text, Instance, declared_by, JobFacts, in_lines}
use Rattle.dover_model.proofs.lists.Beginnings.{in_lines-append}
use Rattle.dover_port.specs.Moves.{Move, PutsThrough}
use Rattle.event_feed.specs.Feeds.{job_text, rules_text, feed_of}

-- the text of jobs
abbrev pub texts : List JobFacts → List ℕ
texts jobs = in_lines (map job_text jobs)

-- jobs behind jobs
pub texts_behind : (xs ys : List JobFacts) → texts (xs ++ ys) ≡ texts xs ++ texts ys
texts_behind xs ys = ap in_lines (map-append job_text xs ys) ∙ in_lines-append (map job_text xs) (map job_text ys)

-- one job more
pub text_more : (xs : List JobFacts) (j : JobFacts) → texts xs ++ (job_text j ++ 10 ∷ []) ≡ texts (xs ++ j ∷ [])
text_more xs j = ap (λ l. texts xs ++ l) (sym (append-nil (job_text j ++ 10 ∷ []))) ∙ sym (texts_behind xs (j ∷ []))

-- the parts of a feed
feed_parts : (J : Instance)
    → feed_of J ≡ (rules_text (declared_by J.rules) ++ 10 ∷ []) ++ (texts J.jobs ++ (feed_text EndLine ++ 10 ∷ []))
feed_parts J = ap (λ t. (rules_text (declared_by J.rules) ++ 10 ∷ []) ++ t)
    (in_lines-append (map job_text J.jobs) (feed_text EndLine ∷ [])
    ∙ ap (λ t. texts J.jobs ++ t) (append-nil (feed_text EndLine ++ 10 ∷ [])))

-- its parts are put
pub feed_through : {T E : Type 0} (a b : Option (List Move)) (result : Result T E) (p q : List ℕ) (J : Instance)
    → PutsThrough a b result p q ((rules_text (declared_by J.rules) ++ 10 ∷ [])
    ++ (texts J.jobs ++ (feed_text EndLine ++ 10 ∷ [])))
    → PutsThrough a b result p q (feed_of J)
feed_through a b result p q J it = subst (PutsThrough a b result p q) (sym (feed_parts J)) it
