-- The lines of so many jobs, one behind another.
use Rattle.std.proofs.Common.{◌≡◌, ℕ, zero, suc, ◌+◌, ◌≤◌, ◌<◌, List, [], ◌∷◌, ◌++◌, length, length-append, map}
use Rattle.std.proofs.Common.{append_assoc, refl, sym, ap, ◌∙◌, subst, take, Option, Some, None, Result, Ok, Err, arith}
use Rattle.std.specs.List.{AllByRecursion}
use Rattle.std.proofs.lemmas.List.{append-nil}
use Rattle.dover_model.specs.Common.{JobFacts, IsJob, in_lines, EndLine, feed_text, Fraction, Instance, declared_by}
use Rattle.dover_model.specs.Common.{jobs_under}
use Rattle.dover_model.proofs.valid.Valid.{all_back}
use Rattle.dover_port.specs.Causes.{HasCause, StaysWell, StopsAtFailure}
use Rattle.dover_port.specs.declared.calls.Calls.{Calls}
use Rattle.dover_port.specs.Moves.{Move, Passes, CutsShort, PutsThrough, IsProperPrefix}
use Rattle.dover_port.proofs.Through.{passes_then, passes_then_cut, cut_longer}
use Rattle.stated_jobs.specs.declared.duel.coming.Next.{Next}
use Rattle.stated_jobs.specs.declared.duel.coming.Next.TheVariants as next
use Rattle.stated_jobs.specs.duel.Kept.{Gives}
use Rattle.stated_jobs.specs.duel.Answers.{front_of}
use Rattle.dover_model.specs.declared.events.Version.TheVariants.{One}
use Rattle.event_feed.specs.Feeds.{job_text, rules_text, feed_of}
use Rattle.dialogue.proofs.lines.FeedTexts.{texts, texts_behind, text_more, feed_through}

-- the first of two lists is within what is taken
take_more : (count : ℕ) (xs ys : List JobFacts) → length xs ≤ count
    → (rest : List JobFacts) × (take count (xs ++ ys) ≡ xs ++ rest)
take_more count [] ys low = (take count ys, refl)
take_more zero (x ∷ xs) ys low = absurd (omega (arith, low))
take_more (suc count) (x ∷ xs) ys low = let it = take_more count xs ys (omega (arith, low)) in
    (it.0, ap (λ zs. x ∷ zs) it.1)

-- these of the jobs were put, and those are left
pub record HasPut (jobs left : List JobFacts) (count put : ℕ) (a b : Option (List Move)) (p q : List ℕ) : Type 0 where
  pub done : List JobFacts
  pub whole : jobs ≡ done ++ left
  pub so_many : put ≡ length done
  pub low : put ≤ count
  pub passes : Passes a b p q (texts done)

module _ (jobs left : List JobFacts) (count put : ℕ) (a b : Option (List Move)) (p q : List ℕ)
    (it : HasPut jobs left count put a b p q) where
  module _ (few : count ≤ length jobs) (each : AllByRecursion IsJob jobs) (less : put < count) where
    -- there is a next one
    pub not_over : left ≡ [] → ⊥
    not_over none = level (length jobs) (length it.done)
        (ap (λ (js : List JobFacts). length js) (it.whole ∙ ap (λ js. it.done ++ js) none ∙ append-nil it.done))
        few it.so_many where
          level : (m n : ℕ) → m ≡ n → count ≤ m → put ≡ n → ⊥
          level m n is few so_many = omega (arith, is, few, so_many, less)

    -- which keeps its limits
    pub not_too_large : (j : JobFacts) × (rest : List JobFacts) × (left ≡ j ∷ rest) × (IsJob j → ⊥) → ⊥
    not_too_large (j, rest, is, large) = large (all_back IsJob it.done (j ∷ rest)
        (subst (λ js. AllByRecursion IsJob js) (it.whole ∙ ap (λ js. it.done ++ js) is) each)).0

    -- so there is a job
    pub some_job : (given : Next) (after : List JobFacts) → Gives given left after
        → ((x : JobFacts) → given ≡ next.Job x → ⊥) → ⊥
    some_job (next.Job j) after is not_job = not_job j refl
    some_job next.Over after none not_job = not_over none
    some_job next.TooLarge after large not_job = not_too_large large

  module _ (j : JobFacts) (after : List JobFacts) (is : left ≡ j ∷ after) (low : put < count)
      (c : Option (List Move)) (r : List ℕ) where
    whole_now : jobs ≡ (it.done ++ j ∷ []) ++ after
    whole_now = it.whole ∙ ap (λ js. it.done ++ js) is ∙ sym (append_assoc it.done (j ∷ []) after)

    longer : length (it.done ++ j ∷ []) ≡ put + 1
    longer = omega (arith, it.so_many, length-append it.done (j ∷ []))

    -- it is put
    pub one_put : Passes b c q r (job_text j ++ 10 ∷ []) → HasPut jobs after count (put + 1) a c p r
    one_put further = record {
      done = it.done ++ j ∷ [];
      whole = whole_now;
      so_many = sym longer;
      low = omega (arith, low);
      passes = subst (Passes a c p r) (text_more it.done j) (passes_then a b c p q r _ _ it.passes further);
    }

    -- or cut short
    pub one_cut : CutsShort b c q (job_text j ++ 10 ∷ []) → CutsShort a c p (in_lines (map job_text (take count jobs)))
    one_cut further =
        let more = take_more count (it.done ++ j ∷ []) after (omega (arith, longer, low)) in
        subst (CutsShort a c p) (ap (λ l. l ++ texts more.0) (text_more it.done j)
        ∙ sym (texts_behind (it.done ++ j ∷ []) more.0)
        ∙ ap (λ js. texts js) (sym more.1 ∙ ap (λ js. take count js) (sym whole_now)))
        (cut_longer a c p (texts it.done ++ (job_text j ++ 10 ∷ [])) (texts more.0)
        (passes_then_cut a b c p q r (texts it.done) (job_text j ++ 10 ∷ []) it.passes further))

-- a feed is put, and what was kept back of it
pub feed_flushed : {T E : Type 0} (a b : Option (List Move)) (result : Result T E) (p q : List ℕ) (J : Instance)
    → PutsThrough a b result p q ((rules_text (declared_by J.rules) ++ 10 ∷ [])
    ++ (texts J.jobs ++ ((feed_text EndLine ++ 10
    ∷ []) ++ [])))
    → PutsThrough a b result p q (feed_of J)
feed_flushed a b result p q J it = feed_through a b result p q J
    (subst (λ e. PutsThrough a b result p q ((rules_text (declared_by J.rules) ++ 10 ∷ []) ++ (texts J.jobs ++ e)))
    (append-nil (feed_text EndLine ++ 10 ∷ [])) it)

-- a front is so many of the jobs as it has
take_again : (n : ℕ) (xs : List JobFacts) → take (length (take n xs)) xs ≡ take n xs
take_again zero xs = refl
take_again (suc n) [] = refl
take_again (suc n) (x ∷ xs) = ap (λ ys. x ∷ ys) (take_again n xs)

take_all : (xs : List JobFacts) → take (length xs) xs ≡ xs
take_all [] = refl
take_all (x ∷ xs) = ap (λ ys. x ∷ ys) (take_all xs)

pub front_taken : (front : Option ℕ) (jobs : List JobFacts) (count : ℕ) → count ≡ length (front_of front jobs)
    → take count jobs ≡ front_of front jobs
front_taken None jobs count is = ap (λ n. take n jobs) is ∙ take_all jobs
front_taken (Some n) jobs count is = ap (λ m. take m jobs) is ∙ take_again n jobs

-- the feed of so many of the jobs is that of the front
pub is_front : (k : Fraction) (front : Option ℕ) (jobs coming : List JobFacts) (count : ℕ) → coming ≡ jobs
    → count ≡ length (front_of front jobs)
    → feed_of (jobs_under One k (take count coming)) ≡ feed_of (jobs_under One k (front_of front jobs))
is_front k front jobs coming count same is = ap (λ js. feed_of (jobs_under One k js))
    (ap (λ js. take count js) same ∙ front_taken front jobs count is)

-- a front of a text behind nothing is one of the same text
pub none_before : (put before text other : List ℕ) → before ≡ [] → text ≡ other → IsProperPrefix put (before ++ text)
    → IsProperPrefix put other
none_before put before text other none same it =
    (it.0, it.1, sym (ap (λ b. b ++ text) none ∙ same) ∙ it.2)

-- what was put behind nothing, with nothing left, is the text
pub nothing_before : (put before text other : List ℕ) → before ≡ [] → text ≡ other → put ++ [] ≡ before ++ text
    → put ≡ other
nothing_before put before text other none same it =
    sym (append-nil put) ∙ it ∙ ap (λ b. b ++ text) none ∙ same

-- a call behind one that went well leaves the counts of faults as both do
pub cause_behind : {T E : Type 0} (w0 w1 w2 r0 r1 r2 : ℕ) (result : Result T E) → w1 ≡ w0 → r1 ≡ r0
    → HasCause w1 w2 r1 r2 result → HasCause w0 w2 r0 r2 result
cause_behind w0 w1 w2 r0 r1 r2 result writes reads it =
    subst (λ w. HasCause w w2 r0 r2 result) writes (subst (λ r. HasCause w1 w2 r r2 result) reads it)

-- and what it leaves of the calls is what both do
pub stops_behind : {T E : Type 0} (a b c : Calls) (result : Result T E) → StaysWell a b → StopsAtFailure b c result
    → StopsAtFailure a c result
stops_behind a b c (Ok x) first it = record { well = λ well. it.well (first well); stopped = tt }
stops_behind a b c (Err x) first it = record { well = tt; stopped = λ well. it.stopped (first well) }
