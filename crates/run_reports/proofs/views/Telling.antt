-- The story of a job, step by step.
use Rattle.std.proofs.Common.{◌≡◌, ℕ, zero, suc, ◌+◌, ◌≤◌, ◌<◌, List, [], ◌∷◌, ◌++◌, length, drop, get_or, sym, ap, ◌∙◌}
use Rattle.std.proofs.Common.{append_assoc, append-nil, add-one, drop-cons, Bool, false, arith, Some, None, slice_get}
use Rattle.std.proofs.lemmas.List.{drop_all}
use Rattle.std.specs.List.{AllByRecursion}
use Rattle.dover_model.specs.declared.events.Event.{Event}
use Rattle.dover_model.specs.declared.events.Version.{Version}
use Rattle.dover_model.specs.Common.{JobFacts, Instance, served, Fraction}
use Rattle.run_reports.specs.report.Counts.{jobs_released}
use Rattle.run_reports.proofs.report.Counting.{jobs_are}
use Rattle.run_record.specs.intervals.Rows.{IsRunOf, weights}
use Rattle.run_record.specs.ledger.Rooms.{rooms}
use Rattle.run_reports.specs.views.Why.{told, on_after, starts_first, weighed_at, story_from, asked, unknown, answer}
use Rattle.run_reports.specs.views.Why.{why}
use Rattle.run_reports.specs.declared.views.story.Weighed.{Weighed}

-- what is weighed is small
pub small_at : (ns : List ℕ) (i : ℕ) → AllByRecursion (λ n. n ≤ 10_000_000_000_000) ns
    → get_or ns i 0 ≤ 10_000_000_000_000
small_at [] i all = omega arith
small_at (n ∷ ns) zero all = all.0
small_at (n ∷ ns) (suc i) all = small_at ns i all.1

-- the item at an index, and those behind it
pub one_next : {X : Type 0} (xs : List X) (i : ℕ) (x : X) → x ≡ get_or xs i x → i < length xs
    → drop i xs ≡ x ∷ drop (i + 1) xs
one_next xs i x is there = drop-cons xs i x there ∙ ap (λ y. y ∷ drop (suc i) xs) (sym is)
    ∙ ap (λ m. x ∷ drop m xs) (sym (add-one i))

-- the same is weighed
pub same_weighed : (worth room work work2 left left2 : ℕ) → work ≡ work2 → left ≡ left2
    → (let x : Weighed = record { worth = worth; work = work; room = room; left = left } in x)
    ≡ (let y : Weighed = record { worth = worth; work = work2; room = room; left = left2 } in y)
same_weighed worth room work work2 left left2 e f = cc

module _ (version : Version) (k : Fraction) (n value : ℕ) (jobs : List JobFacts) (had : List ℕ) (steps : List Event)
    (worths rooms : List ℕ) where
  -- what is to be told from a place on
  abbrev pub rest : Bool → ℕ → List ℕ
  rest on i = story_from version k n value jobs had on (drop i steps) (drop i worths) (drop i rooms)

  -- one step more
  pub told_more : (i : ℕ) (e : Event) (w r : ℕ) (on starts turned : Bool) (x : Weighed) (text more whole : List ℕ)
      → e ≡ get_or steps i e → w ≡ get_or worths i w → r ≡ get_or rooms i r → i < length steps
      → length worths ≡ length steps → length rooms ≡ length steps
      → starts ≡ starts_first n (drop (i + 1) steps) → turned ≡ on_after n on e
      → x ≡ weighed_at jobs had w r e
      → more ≡ text ++ told version k n value on starts x e → text ++ rest on i ≡ whole
      → more ++ rest turned (i + 1) ≡ whole
  told_more i e w r on starts turned x text more whole is weighs leaves there same as_many begins turns about longer
      before =
      let es = drop (i + 1) steps in let ws = drop (i + 1) worths in let rs = drop (i + 1) rooms in
      ap (λ t. t ++ rest turned (i + 1)) longer
      ∙ append_assoc text (told version k n value on starts x e) (rest turned (i + 1))
      ∙ ap (λ b. text ++ (told version k n value on starts x e
      ++ story_from version k n value jobs had b es ws rs)) turns
      ∙ ap (λ b. text ++ (told version k n value on b x e
      ++ story_from version k n value jobs had (on_after n on e) es ws rs)) begins
      ∙ ap (λ y. text ++ (told version k n value on (starts_first n es) y e
      ++ story_from version k n value jobs had (on_after n on e) es ws rs)) about
      ∙ ap (λ zs. text ++ story_from version k n value jobs had on (e ∷ es) (w ∷ ws) zs)
      (sym (one_next rooms i r leaves (omega (arith, there, as_many))))
      ∙ ap (λ ys. text ++ story_from version k n value jobs had on (e ∷ es) ys (drop i rooms))
      (sym (one_next worths i w weighs (omega (arith, there, same))))
      ∙ ap (λ xs. text ++ story_from version k n value jobs had on xs (drop i worths) (drop i rooms))
      (sym (one_next steps i e is there))
      ∙ before

  -- all steps
  pub told_all : (i : ℕ) (on : Bool) (text whole : List ℕ) → length steps ≤ i → text ++ rest on i ≡ whole
      → text ≡ whole
  told_all i on text whole past before =
      sym (append-nil text)
      ∙ ap (λ xs. text ++ story_from version k n value jobs had on xs (drop i worths) (drop i rooms))
      (sym (drop_all i steps past))
      ∙ before

module _ (k : Fraction) (steps : List Event) (J : Instance) (of : IsRunOf k steps J) (n : ℕ) (jobs : List JobFacts)
    (released : jobs ≡ jobs_released steps) where
  -- the jobs are those of the run
  pub same_jobs : jobs ≡ J.jobs
  same_jobs = released ∙ jobs_are k steps J of

  -- there is no such job
  pub why_none : (a b : List ℕ) → slice_get jobs n ≡ None → a ≡ [] → b ≡ a ++ unknown n (length jobs) → b ≡ why n J
  why_none a b none first last = last ∙ ap (λ t. t ++ unknown n (length jobs)) first ∙ ap (λ js. unknown n
      (length js)) same_jobs
      ∙ ap (answer n J) (sym (ap (λ js. slice_get js n) (sym same_jobs) ∙ none))

  -- its text is that of the job which is there
  pub why_some : (j : JobFacts) (text : List ℕ) → slice_get jobs n ≡ Some j → text ≡ answer n J (Some j)
      → text ≡ why n J
  why_some j text some is = is ∙ ap (answer n J) (sym (ap (λ js. slice_get js n) (sym same_jobs) ∙ some))

-- the job's story
pub story_is : (version : Version) (k : Fraction) (steps : List Event) (J : Instance) → IsRunOf k steps J → (n : ℕ)
    (jobs : List JobFacts) → jobs ≡ J.jobs → J.rules.version ≡ version → (j : JobFacts) (a b c : List ℕ) → a ≡ []
    → b ≡ a ++ asked n j
    → c ≡ b ++ story_from version k n j.value jobs (served J) false steps (weights J) (rooms J)
    → c ≡ answer n J (Some j)
story_is version k steps J of n jobs same under j a b c first middle last =
    let tells = λ (v : Version) (r : Fraction) (js : List JobFacts) (es : List Event).
    asked n j ++ story_from v r n j.value js (served J) false es (weights J) (rooms J) in
    last ∙ ap (λ t. t ++ story_from version k n j.value jobs (served J) false steps (weights J) (rooms J))
    (middle ∙ ap (λ t. t ++ asked n j) first)
    ∙ ap (λ v. tells v k jobs steps) (sym under)
    ∙ ap (λ r. tells J.rules.version r jobs steps) (sym of.ratio)
    ∙ ap (λ js. tells J.rules.version J.rules.ratio js steps) same
    ∙ ap (tells J.rules.version J.rules.ratio J.jobs) (sym of.prints)
