-- A trace's line has one spelling: what is read has a form and the bytes as its text, and the text of what has a form
-- is read as that.
use Rattle.std.proofs.Common.{◌≡◌, ℕ, ◌^◌, ◌<◌, ◌≤◌, List, [], ◌∷◌, ◌++◌, map, refl, sym, ap, ◌∙◌, subst, Bool, true}
use Rattle.std.proofs.Common.{false, Option, Some, None, arith, codes, decimal, bytes_eq, nat_le, if◌then◌else◌, length}
use Rattle.std.proofs.Common.{◌==◌, option_and_then, option_map, le-leb, leb-true}
use Rattle.std.specs.Bool.{then_some}
use Rattle.std.specs.Option.{option_or}
use Rattle.std.proofs.lemmas.List.Splits.{length-slice_split}
use Rattle.std.proofs.lemmas.Slice.Eq.{bytes_eq-Decides}
use Rattle.dover_model.specs.declared.events.Event.{Event}
use Rattle.dover_model.specs.declared.events.Event.TheVariants.{Release, Run, Preempt, Take, Complete, Abandon, End}
use Rattle.dover_model.specs.declared.events.Refusal.{Refusal}
use Rattle.dover_model.specs.declared.events.Refusal.TheVariants.{BadJob, Count, Total, Ratio, Late, Full}
use Rattle.dover_model.specs.Common.{JobFacts, IsJob, is_job, job_of_numbers, job_numbers, numeral, numerals, AreShort}
use Rattle.dover_model.specs.Common.{fields_of, line_of, with_numbers, numbers_after, Declaration, Item, text_of}
use Rattle.dover_model.specs.Common.{refusal_word, step_numbers, Printed, Refuses}
use Rattle.dover_model.specs.Verdict as verdict
use Rattle.dover_model.proofs.lists.Tests.{never, none_is_some}
use Rattle.dover_model.proofs.lists.Members.{some_same}
use Rattle.dover_model.proofs.texts.Numerals.{numeral-decimal, decimal-numeral}
use Rattle.dover_model.proofs.texts.Fields.{HasNoSpace, fields_of-line_of, line_of-fields_of, decimals-HasNoSpace}
use Rattle.dover_model.proofs.texts.Fields.{numerals-decimals, decimals-numerals}
use Rattle.dover_model.proofs.texts.ReadShort.{numerals_short}
use Rattle.dover_model.proofs.texts.TraceLines.{word_HasNoSpace, then_word, item_of-text_of_line}
use Rattle.line_text.specs.Reading.{number_of_first}
use Rattle.line_text.specs.declared.traces.lines.TraceLine.{TraceLine}
use Rattle.line_text.specs.declared.traces.lines.TraceLine.TheVariants.{Header, Step, Refused, RefusedDone}
use Rattle.line_text.specs.traces.Form.{last_number, trace_text, NamesJobs, HasForm, item_in, rules_in, pair_of}
use Rattle.line_text.specs.traces.Form.{refused_job, refused_done}
use Rattle.line_text.specs.traces.Reading.{◌>>=◌, job_number, new_job, release_of, one_job, two_jobs, end_of}
use Rattle.line_text.specs.traces.Reading.{step_of_word, header_of, line_of_word, last_word, refused_of, line_of_fields}
use Rattle.line_text.specs.traces.Reading.{is_done_left, refused_done_of, refusal_of}

-- ---- steps

-- the word of a step
abbrev pub word_of : Event → List ℕ
word_of (Release n j) = codes "job"
word_of (Run at n) = codes "run"
word_of (Preempt at stops starts) = codes "preempt"
word_of (Take at stops starts) = codes "take"
word_of (Complete at n) = codes "complete"
word_of (Abandon at n) = codes "abandon"
word_of (End value) = codes "end"

-- a step's text is its word and its numbers
text_is : (e : Event) → text_of e ≡ with_numbers (word_of e) (step_numbers e)
text_is (Release n j) = refl
text_is _ = refl

-- the word has no space
word_whole : (e : Event) → HasNoSpace (word_of e)
word_whole (Release n j) = refl
word_whole _ = refl

-- a number that jobs may have
number_ok : (n : ℕ) → n ≤ last_number → job_number n ≡ Some n
number_ok n low = ap (λ b. then_some b n) (le-leb n last_number low)

-- a job within the limits
job_ok : (j : JobFacts) → IsJob j → new_job j.release j.work j.deadline j.value ≡ Some j
job_ok j it = ap (λ b. then_some b j) it.passes

-- a clock and one job
one_ok : (at n : ℕ) → n ≤ last_number → one_job (at ∷ n ∷ []) ≡ Some (at, n)
one_ok at n low = ap (λ o. o >>= λ number. let f : ℕ × ℕ = (at, number) in Some f) (number_ok n low)

-- a clock and two jobs
two_ok : (at a b : ℕ) → a ≤ last_number → b ≤ last_number → two_jobs (at ∷ a ∷ b ∷ []) ≡ Some (at, a, b)
two_ok at a b low other =
    ap (λ o. o >>= λ stops. job_number b >>= λ starts. let f : ℕ × ℕ × ℕ = (at, stops, starts) in Some f)
    (number_ok a low)
    ∙ ap (λ o. o >>= λ starts. let f : ℕ × ℕ × ℕ = (at, a, starts) in Some f) (number_ok b other)

-- the word and numbers of a step are read as the step
pub step_read : (e : Event) → NamesJobs e → step_of_word (word_of e) (step_numbers e) ≡ Some e
step_read (Release n j) named =
    ap (λ o. o >>= λ number. new_job j.release j.work j.deadline j.value >>= λ job. Some (Release number job))
    (number_ok n named.0)
    ∙ ap (λ o. o >>= λ job. Some (Release n job)) (job_ok j named.1)
step_read (Run at n) named = ap (λ o. o >>= λ f. Some (Run f.0 f.1)) (one_ok at n named)
step_read (Preempt at a b) named = ap (λ o. o >>= λ f. Some (Preempt f.0 f.1 f.2)) (two_ok at a b named.0 named.1)
step_read (Take at a b) named = ap (λ o. o >>= λ f. Some (Take f.0 f.1 f.2)) (two_ok at a b named.0 named.1)
step_read (Complete at n) named = ap (λ o. o >>= λ f. Some (Complete f.0 f.1)) (one_ok at n named)
step_read (Abandon at n) named = ap (λ o. o >>= λ f. Some (Abandon f.0 f.1)) (one_ok at n named)
step_read (End value) named = refl

-- ---- what is read of a word and numbers

-- what a value followed from
bind_some : {A B : Type 0} (o : Option A) (f : A → Option B) (y : B) → (o >>= f) ≡ Some y → (x : A) × (o ≡ Some x)
    × (f x ≡ Some y)
bind_some None f y e = none_is_some e
bind_some (Some x) f y e = (x, refl, e)

-- what a value that is tested says
tested : {A : Type 0} (b : Bool) (x y : A) → then_some b x ≡ Some y → (b ≡ true) × (x ≡ y)
tested true x y e = (refl, some_same x y e)
tested false x y e = none_is_some e

-- the step has this word and these numbers, and names jobs
pub record Reads (word ns : List ℕ) (e : Event) : Type 0 where
  pub spelled : word_of e ≡ word
  pub counted : step_numbers e ≡ ns
  pub named : NamesJobs e

number_from : (n m : ℕ) → job_number n ≡ Some m → (n ≡ m) × (m ≤ last_number)
number_from n m e = let both = tested (nat_le n last_number) n m e in
    let low : n ≤ last_number = leb-true n last_number both.0 in (both.1, subst (λ k. k ≤ last_number) both.1 low)

one_from : (ns : List ℕ) (f : ℕ × ℕ) → one_job ns ≡ Some f → (f.0 ∷ f.1 ∷ [] ≡ ns) × (f.1 ≤ last_number)
one_from (at ∷ n ∷ []) f e =
    let it = bind_some (job_number n) (λ number. let g : ℕ × ℕ = (at, number) in Some g) f e in
    let number = number_from n it.0 it.1 in
    let same : (at, it.0) ≡ f = some_same _ _ it.2 in (
      subst (λ (g : ℕ × ℕ). g.0 ∷ g.1 ∷ [] ≡ at ∷ n ∷ []) same (ap (λ m. at ∷ m ∷ []) (sym number.0)),
      subst (λ (g : ℕ × ℕ). g.1 ≤ last_number) same number.1,
    )
one_from _ f e = none_is_some e

two_from : (ns : List ℕ) (f : ℕ × ℕ × ℕ) → two_jobs ns ≡ Some f → (f.0 ∷ f.1 ∷ f.2 ∷ [] ≡ ns) × (f.1 ≤ last_number)
    × (f.2 ≤ last_number)
two_from (at ∷ a ∷ b ∷ []) f e =
    let it = bind_some (job_number a)
    (λ stops. job_number b >>= λ starts. let g : ℕ × ℕ × ℕ = (at, stops, starts) in Some g) f e in
    let more = bind_some (job_number b) (λ starts. let g : ℕ × ℕ × ℕ = (at, it.0, starts) in Some g) f it.2 in
    let stops = number_from a it.0 it.1 in
    let starts = number_from b more.0 more.1 in
    let same : (at, it.0, more.0) ≡ f = some_same _ _ more.2 in (
      subst (λ (g : ℕ × ℕ × ℕ). g.0 ∷ g.1 ∷ g.2 ∷ [] ≡ at ∷ a ∷ b ∷ []) same
          (ap (λ m. at ∷ m ∷ more.0 ∷ []) (sym stops.0) ∙ ap (λ m. at ∷ a ∷ m ∷ []) (sym starts.0)),
      subst (λ (g : ℕ × ℕ × ℕ). g.1 ≤ last_number) same stops.1,
      subst (λ (g : ℕ × ℕ × ℕ). g.2 ≤ last_number) same starts.1,
    )
two_from _ f e = none_is_some e

-- a step of one job
one_step : (word ns : List ℕ) (step : ℕ → ℕ → Event) (e : Event) → ((at n : ℕ) → word_of (step at n) ≡ word)
    → ((at n : ℕ) → step_numbers (step at n) ≡ at ∷ n ∷ []) → ((at n : ℕ) → n ≤ last_number → NamesJobs (step at n))
    → (one_job ns >>= λ f. Some (step f.0 f.1)) ≡ Some e → Reads word ns e
one_step word ns step e words numbers names read =
    let it = bind_some (one_job ns) (λ f. Some (step f.0 f.1)) e read in
    let from = one_from ns it.0 it.1 in
    subst (Reads word ns) (some_same _ _ it.2)
    (record {
      spelled = words it.0.0 it.0.1;
      counted = numbers it.0.0 it.0.1 ∙ from.0;
      named =
          names it.0.0 it.0.1 from.1;
    })

-- a step of two jobs
two_step : (word ns : List ℕ) (step : ℕ → ℕ → ℕ → Event) (e : Event) → ((at a b : ℕ) → word_of (step at a b) ≡ word)
    → ((at a b : ℕ) → step_numbers (step at a b) ≡ at ∷ a ∷ b ∷ [])
    → ((at a b : ℕ) → a ≤ last_number → b ≤ last_number → NamesJobs (step at a b))
    → (two_jobs ns >>= λ f. Some (step f.0 f.1 f.2)) ≡ Some e → Reads word ns e
two_step word ns step e words numbers names read =
    let it = bind_some (two_jobs ns) (λ f. Some (step f.0 f.1 f.2)) e read in
    let from = two_from ns it.0 it.1 in
    subst (Reads word ns) (some_same _ _ it.2)
    (record {
      spelled = words it.0.0 it.0.1 it.0.2;
      counted = numbers it.0.0 it.0.1 it.0.2 ∙ from.0;
      named = names it.0.0 it.0.1 it.0.2 from.1 from.2;
    })

-- a release
release_from : (ns : List ℕ) (e : Event) → release_of ns ≡ Some e → Reads (codes "job") ns e
release_from (n ∷ r ∷ c ∷ d ∷ v ∷ []) e read =
    let it = bind_some (job_number n) (λ number. new_job r c d v >>= λ job. Some (Release number job)) e read in
    let more = bind_some (new_job r c d v) (λ job. Some (Release it.0 job)) e it.2 in
    let number = number_from n it.0 it.1 in
    let job = tested (is_job (job_of_numbers r c d v)) (job_of_numbers r c d v) more.0 more.1 in
    subst (Reads (codes "job") (n ∷ r ∷ c ∷ d ∷ v ∷ [])) (some_same _ _ more.2) (record {
      spelled = refl;
      counted = ap (λ m. m ∷ job_numbers more.0) (sym number.0) ∙ ap (λ j. n ∷ job_numbers j) (sym job.1);
      named = (number.1, subst IsJob job.1 (record { passes = job.0 }));
    })
release_from _ e read = none_is_some read

-- the end
end_from : (ns : List ℕ) (e : Event) → end_of ns ≡ Some e → Reads (codes "end") ns e
end_from (value ∷ []) e read =
    subst (Reads (codes "end") (value ∷ [])) (some_same _ _ read)
    (record { spelled = refl; counted = refl; named = tt })
end_from _ e read = none_is_some read

-- where the word is the one tested for, or else the next test decides
by_word : {A : Type 0} (word tested_word : List ℕ) (P : List ℕ → Type 0) (here other : Option A) (y : A)
    → (here ≡ Some y → P tested_word)
    → (other ≡ Some y → P word) → (if bytes_eq word tested_word then here else other) ≡ Some y → P word
by_word word tested_word P here other y so else_so = by (bytes_eq word tested_word) refl where
  by : (b : Bool) → bytes_eq word tested_word ≡ b → (if b then here else other) ≡ Some y → P word
  by true same read = subst P (sym ((bytes_eq-Decides word tested_word).0 same)) (so read)
  by false differs read = else_so read

-- the step of a word and numbers
step_from : (word ns : List ℕ) (e : Event) → step_of_word word ns ≡ Some e → Reads word ns e
step_from word ns e = next (codes "job") _ _ (release_from ns e)
    (next (codes "run") _ _ (one_step (codes "run") ns Run e (λ at n. refl) (λ at n. refl) (λ at n low. low))
    (next (codes "complete") _ _ (one_step (codes "complete") ns Complete e (λ at n. refl) (λ at n. refl)
    (λ at n low. low))
    (next (codes "preempt") _ _ (two_step (codes "preempt") ns Preempt e (λ at a b. refl) (λ at a b. refl)
    (λ at a b low other. (low, other)))
    (next (codes "abandon") _ _ (one_step (codes "abandon") ns Abandon e (λ at n. refl) (λ at n. refl)
    (λ at n low. low))
    (next (codes "take") _ _ (two_step (codes "take") ns Take e (λ at a b. refl) (λ at a b. refl)
    (λ at a b low other. (low, other)))
    (next (codes "end") _ _ (end_from ns e) none_is_some)))))) where
      next : (tested_word : List ℕ) (here other : Option Event) → (here ≡ Some e → Reads tested_word ns e)
          → (other ≡ Some e → Reads word ns e)
          → (if bytes_eq word tested_word then here else other) ≡ Some e → Reads word ns e
      next tested_word here other = by_word word tested_word (λ w. Reads w ns e) here other e

-- ---- lines of a word and numbers

-- the line is spelled so
pub record Spells (word ns : List ℕ) (x : TraceLine) : Type 0 where
  pub text : trace_text x ≡ with_numbers word ns
  pub form : AreShort ns → HasForm x

-- a header
header_from : (ns : List ℕ) (x : TraceLine) → header_of ns ≡ Some x → Spells (codes "dover") ns x
header_from (a ∷ b ∷ c ∷ []) x read =
    subst (Spells (codes "dover") (a ∷ b ∷ c ∷ [])) (some_same _ _ read) (record { text = refl; form = λ short. short })
header_from (a ∷ b ∷ c ∷ d ∷ e ∷ []) x read =
    subst (Spells (codes "dover") (a ∷ b ∷ c ∷ d ∷ e ∷ [])) (some_same _ _ read)
    (record { text = refl; form = λ short. short })
header_from _ x read = none_is_some read

-- the numbers of a header are read as it
header_back : (v p q : ℕ) (factor : Option (ℕ × ℕ)) → header_of (v ∷ p ∷ q ∷ pair_of factor)
    ≡ Some (Header v p q factor)
header_back v p q None = refl
header_back v p q (Some pair) = refl

-- a printed step
printed_from : (word ns : List ℕ) (x : TraceLine) (o : Option Event) → ((e : Event) → o ≡ Some e → Reads word ns e)
    → option_map Step o ≡ Some x
    → Spells word ns x
printed_from word ns x None so read = none_is_some read
printed_from word ns x (Some e) so read = let it = so e refl in subst (Spells word ns) (some_same _ _ read) (record {
  text = text_is e ∙ ap (λ w. with_numbers w (step_numbers e)) it.spelled ∙ ap (with_numbers word) it.counted;
  form = λ short. (subst AreShort (sym it.counted) short, it.named);
})

-- a word and numbers
word_from : (word ns : List ℕ) (x : TraceLine) → line_of_word word ns ≡ Some x → Spells word ns x
word_from word ns x = by_word word (codes "dover") (λ w. Spells w ns x) (header_of ns)
    (option_map Step (step_of_word word ns)) x
    (header_from ns x) (printed_from word ns x (step_of_word word ns) (step_from word ns))

-- ---- refused lines

-- what a value was made from
mapped : {A B : Type 0} (o : Option A) (f : A → B) (y : B) → option_map f o ≡ Some y → (x : A) × (o ≡ Some x)
    × (f x ≡ y)
mapped None f y e = none_is_some e
mapped (Some x) f y e = (x, refl, some_same _ _ e)

-- the first number that is read, and the fields behind it
first_from : (fields : List (List ℕ)) (f : ℕ × List (List ℕ)) → number_of_first fields ≡ Some f
    → (fields ≡ decimal f.0 ∷ f.1) × (f.0 < 10 ^ 18)
first_from [] f read = none_is_some read
first_from (field ∷ fields) f read =
    let it = mapped (numeral field) (λ n. let g : ℕ × List (List ℕ) = (n, fields) in g) f read in
    let same : (it.0, fields) ≡ f = it.2 in
    let short : AreShort (it.0 ∷ []) = numerals_short (field ∷ []) (it.0 ∷ [])
    (ap (λ o. option_and_then (λ n. option_map (λ ns. n ∷ ns) (Some [])) o) it.1) in (
      subst (λ (g : ℕ × List (List ℕ)). field ∷ fields ≡ decimal g.0 ∷ g.1) same
          (ap (λ w. w ∷ fields) (sym (decimal-numeral field it.0 it.1))),
      subst (λ (g : ℕ × List (List ℕ)). g.0 < 10 ^ 18) same short.0,
    )

-- the word of a refusal
named_from : (word : List ℕ) (cause : Refusal) → verdict.refusal_of_word word ≡ Some cause → refusal_word cause ≡ word
named_from word cause =
    next BadJob _ (next Count _ (next Total _ (next Ratio _ (next Late _ (next Full _ none_is_some))))) where
      next : (refusal : Refusal) (other : Option Refusal) → (other ≡ Some cause → refusal_word cause ≡ word)
          → (if bytes_eq word (refusal_word refusal) then Some refusal else other) ≡ Some cause
          → refusal_word cause ≡ word
      next refusal other = by_word word (refusal_word refusal) (λ w. refusal_word cause ≡ w) (Some refusal) other cause
          (λ read. ap refusal_word (sym (some_same _ _ read)))

-- the last word
last_from : (fields : List (List ℕ)) (cause : Refusal) → last_word fields ≡ Some cause
    → fields ≡ refusal_word cause ∷ []
last_from (word ∷ []) cause read = ap (λ w. w ∷ []) (sym (named_from word cause read))
last_from _ cause read = none_is_some read

-- what is read behind each number
abbrev behind_value : (t r c d v : ℕ) → List (List ℕ) → Option TraceLine
behind_value t r c d v fields = last_word fields >>= λ cause. Some (Refused t r c d v cause)

abbrev behind_deadline : (t r c d : ℕ) → List (List ℕ) → Option TraceLine
behind_deadline t r c d fields = number_of_first fields >>= λ v. behind_value t r c d v.0 v.1

abbrev behind_work : (t r c : ℕ) → List (List ℕ) → Option TraceLine
behind_work t r c fields = number_of_first fields >>= λ d. behind_deadline t r c d.0 d.1

abbrev behind_release : (t r : ℕ) → List (List ℕ) → Option TraceLine
behind_release t r fields = number_of_first fields >>= λ c. behind_work t r c.0 c.1

abbrev behind_mark : (t : ℕ) → List (List ℕ) → Option TraceLine
behind_mark t fields = number_of_first fields >>= λ r. behind_release t r.0 r.1

-- fields that were taken one by one
joined : {fs rs cs ds vs ws more : List (List ℕ)} (t r c d v : List ℕ) → fs ≡ t ∷ rs → rs ≡ r ∷ cs → cs ≡ c ∷ ds
    → ds ≡ d ∷ vs → vs ≡ v ∷ ws
    → ws ≡ more → fs ≡ t ∷ r ∷ c ∷ d ∷ v ∷ more
joined t r c d v a b e f g h =
    a ∙ ap (λ xs. t ∷ xs) (b
    ∙ ap (λ xs. r ∷ xs) (e ∙ ap (λ xs. c ∷ xs) (f ∙ ap (λ xs. d ∷ xs) (g ∙ ap (λ xs. v ∷ xs) h))))

-- the line is spelled by these fields behind the word
pub record RefusedBy (fields : List (List ℕ)) (x : TraceLine) : Type 0 where
  pub text : trace_text x ≡ line_of (codes "refuse" ∷ fields)
  pub form : HasForm x

-- these fields make up the line of what was read of them
refused_made : (fields : List (List ℕ)) (x : TraceLine) (t r c d v : ℕ) (cause : Refusal)
    → fields ≡ decimal t ∷ decimal r ∷ decimal c ∷ decimal d ∷ decimal v ∷ refusal_word cause ∷ []
    → AreShort (t ∷ r ∷ c ∷ d ∷ v ∷ [])
    → Some (Refused t r c d v cause) ≡ Some x → RefusedBy fields x
refused_made fields x t r c d v cause whole short made = subst (RefusedBy fields) (some_same _ _ made)
    (record { text = ap (λ fs. line_of (codes "refuse" ∷ fs)) (sym whole); form = short })

-- a refused line
refused_from : (fields : List (List ℕ)) (x : TraceLine) → refused_of fields ≡ Some x → RefusedBy fields x
unfolding refused_of
refused_from fields x read =
    let t = bind_some (number_of_first fields) (λ t. behind_mark t.0 t.1) x read in
    let r = bind_some (number_of_first t.0.1) (λ r. behind_release t.0.0 r.0 r.1) x t.2 in
    let c = bind_some (number_of_first r.0.1) (λ c. behind_work t.0.0 r.0.0 c.0 c.1) x r.2 in
    let d = bind_some (number_of_first c.0.1) (λ d. behind_deadline t.0.0 r.0.0 c.0.0 d.0 d.1) x c.2 in
    let v = bind_some (number_of_first d.0.1) (λ v. behind_value t.0.0 r.0.0 c.0.0 d.0.0 v.0 v.1) x d.2 in
    let cause = bind_some (last_word v.0.1) (λ cause. Some (Refused t.0.0 r.0.0 c.0.0 d.0.0 v.0.0 cause)) x v.2 in
    let mark = first_from fields t.0 t.1 in
    let release = first_from t.0.1 r.0 r.1 in
    let work = first_from r.0.1 c.0 c.1 in
    let deadline = first_from c.0.1 d.0 d.1 in
    let value = first_from d.0.1 v.0 v.1 in
    refused_made fields x t.0.0 r.0.0 c.0.0 d.0.0 v.0.0 cause.0
    (joined (decimal t.0.0) (decimal r.0.0) (decimal c.0.0) (decimal d.0.0)
    (decimal v.0.0) mark.0 release.0 work.0 deadline.0 value.0
    (last_from v.0.1 cause.0 cause.1)) (mark.1, (release.1, (work.1, (deadline.1, (value.1, tt))))) cause.2

-- the word of a refused done line
done_from : (fields : List (List ℕ)) → is_done_left fields ≡ true → fields ≡ codes "done" ∷ []
done_from (word ∷ []) is = ap (λ w. w ∷ []) ((bytes_eq-Decides word (codes "done")).0 is)
done_from _ is = never is

-- what is read behind each of its numbers
abbrev behind_number : (t u n : ℕ) → List (List ℕ) → Option TraceLine
behind_number t u n fields = then_some (is_done_left fields) (RefusedDone t u n)

abbrev behind_tick : (t u : ℕ) → List (List ℕ) → Option TraceLine
behind_tick t u fields = number_of_first fields >>= λ n. behind_number t u n.0 n.1

abbrev behind_done_mark : (t : ℕ) → List (List ℕ) → Option TraceLine
behind_done_mark t fields = number_of_first fields >>= λ u. behind_tick t u.0 u.1

-- a refused done line
done_line_from : (fields : List (List ℕ)) (x : TraceLine) → refused_done_of fields ≡ Some x → RefusedBy fields x
unfolding refused_done_of
done_line_from fields x read =
    let t = bind_some (number_of_first fields) (λ t. behind_done_mark t.0 t.1) x read in
    let u = bind_some (number_of_first t.0.1) (λ u. behind_tick t.0.0 u.0 u.1) x t.2 in
    let n = bind_some (number_of_first u.0.1) (λ n. behind_number t.0.0 u.0.0 n.0 n.1) x u.2 in
    let done = tested (is_done_left n.0.1) (RefusedDone t.0.0 u.0.0 n.0.0) x n.2 in
    let mark = first_from fields t.0 t.1 in
    let tick = first_from t.0.1 u.0 u.1 in
    let number = first_from u.0.1 n.0 n.1 in
    let whole : fields ≡ decimal t.0.0 ∷ decimal u.0.0 ∷ decimal n.0.0 ∷ codes "done" ∷ [] =
    mark.0 ∙ ap (λ xs. decimal t.0.0 ∷ xs) (tick.0
    ∙ ap (λ xs. decimal u.0.0 ∷ xs) (number.0 ∙ ap (λ xs. decimal n.0.0 ∷ xs) (done_from n.0.1 done.0))) in
    subst (RefusedBy fields) done.1 (record {
      text = ap (λ fs. line_of (codes "refuse" ∷ fs)) (sym whole);
      form = (mark.1, (tick.1, (number.1, tt)));
    })

-- a refused line of either kind
refusal_from : (fields : List (List ℕ)) (x : TraceLine) → refusal_of fields ≡ Some x → RefusedBy fields x
refusal_from fields x = by_job (refused_of fields) refl where
  by_job : (o : Option TraceLine) → refused_of fields ≡ o → option_or o (refused_done_of fields) ≡ Some x
      → RefusedBy fields x
  by_job None none read = done_line_from fields x read
  by_job (Some y) is read = refused_from fields x (is ∙ read)

-- a number is read
first_ok : (n : ℕ) (fields : List (List ℕ)) → n < 10 ^ 18 → number_of_first (decimal n ∷ fields) ≡ Some (n, fields)
first_ok n fields short = ap (option_map (λ m. let g : ℕ × List (List ℕ) = (m, fields) in g)) (numeral-decimal n short)

-- the word of a refusal stands for it
word_named : (cause : Refusal) → verdict.refusal_of_word (refusal_word cause) ≡ Some cause
word_named BadJob = refl
word_named _ = refl

-- the fields of a refused line are read as it
refused_read : (t r c d v : ℕ) (cause : Refusal) → AreShort (t ∷ r ∷ c ∷ d ∷ v ∷ [])
    → refused_of (map decimal (t ∷ r ∷ c ∷ d ∷ v ∷ []) ++ refusal_word cause ∷ []) ≡ Some (Refused t r c d v cause)
unfolding refused_of
refused_read t r c d v cause short =
    ap (λ o. o >>= λ f. behind_mark f.0 f.1) (first_ok t _ short.0)
    ∙ ap (λ o. o >>= λ f. behind_release t f.0 f.1) (first_ok r _ short.1.0)
    ∙ ap (λ o. o >>= λ f. behind_work t r f.0 f.1) (first_ok c _ short.1.1.0)
    ∙ ap (λ o. o >>= λ f. behind_deadline t r c f.0 f.1) (first_ok d _ short.1.1.1.0)
    ∙ ap (λ o. o >>= λ f. behind_value t r c d f.0 f.1) (first_ok v (refusal_word cause ∷ []) short.1.1.1.1.0)
    ∙ ap (λ o. o >>= λ w. Some (Refused t r c d v w)) (word_named cause)

-- so are they of a refused line
refusal_read : (t r c d v : ℕ) (cause : Refusal) → AreShort (t ∷ r ∷ c ∷ d ∷ v ∷ [])
    → refusal_of (map decimal (t ∷ r ∷ c ∷ d ∷ v ∷ []) ++ refusal_word cause ∷ []) ≡ Some (Refused t r c d v cause)
refusal_read t r c d v cause short =
    let fields : List (List ℕ) = map decimal (t ∷ r ∷ c ∷ d ∷ v ∷ []) ++ refusal_word cause ∷ [] in
    ap (λ o. option_or o (refused_done_of fields)) (refused_read t r c d v cause short)

-- the fields of a refused done line are those of no job's
no_job_read : (t u n : ℕ) → AreShort (t ∷ u ∷ n ∷ [])
    → refused_of (map decimal (t ∷ u ∷ n ∷ []) ++ codes "done" ∷ []) ≡ None
unfolding refused_of
no_job_read t u n short =
    ap (λ o. o >>= λ f. behind_mark f.0 f.1) (first_ok t _ short.0)
    ∙ ap (λ o. o >>= λ f. behind_release t f.0 f.1) (first_ok u _ short.1.0)
    ∙ ap (λ o. o >>= λ f. behind_work t u f.0 f.1) (first_ok n (codes "done" ∷ []) short.1.1.0)

-- and are read as it
done_read : (t u n : ℕ) → AreShort (t ∷ u ∷ n ∷ [])
    → refused_done_of (map decimal (t ∷ u ∷ n ∷ []) ++ codes "done" ∷ []) ≡ Some (RefusedDone t u n)
unfolding refused_done_of
done_read t u n short =
    ap (λ o. o >>= λ f. behind_done_mark f.0 f.1) (first_ok t _ short.0)
    ∙ ap (λ o. o >>= λ f. behind_tick t f.0 f.1) (first_ok u _ short.1.0)
    ∙ ap (λ o. o >>= λ f. behind_number t u f.0 f.1) (first_ok n (codes "done" ∷ []) short.1.1.0)

-- ---- lines

-- what is read has a form, and its text is the line of the fields
pub line_from : (fields : List (List ℕ)) (x : TraceLine) → line_of_fields fields ≡ Some x → HasForm x
    × (trace_text x ≡ line_of fields)
line_from [] x read = none_is_some read
line_from (word ∷ fields) x read =
    by_word word (codes "refuse") (λ w. HasForm x × (trace_text x ≡ line_of (w ∷ fields))) (refusal_of fields)
    (option_and_then (line_of_word word) (numerals fields)) x
    (λ refused. let it = refusal_from fields x refused in (it.form, it.text))
    (by_numbers (numerals fields) refl) read where
      by_numbers : (o : Option (List ℕ)) → numerals fields ≡ o → option_and_then (line_of_word word) o ≡ Some x
          → HasForm x × (trace_text x ≡ line_of (word ∷ fields))
      by_numbers None e other = none_is_some other
      by_numbers (Some ns) e other = let it = word_from word ns x other in (
        it.form (numerals_short fields ns e),
        it.text
            ∙ ap (λ fs. line_of (word ∷ fs)) (decimals-numerals fields ns e),
      )

-- the fields of a line's text
abbrev fields_in : TraceLine → List (List ℕ)
fields_in (Header version p q factor) = codes "dover" ∷ map decimal (version ∷ p ∷ q ∷ pair_of factor)
fields_in (Step e) = word_of e ∷ map decimal (step_numbers e)
fields_in (Refused t r c d v cause) = codes "refuse" ∷ map decimal (t ∷ r ∷ c ∷ d ∷ v ∷ []) ++ refusal_word cause ∷ []
fields_in (RefusedDone t u n) = codes "refuse" ∷ map decimal (t ∷ u ∷ n ∷ []) ++ codes "done" ∷ []

-- the text of a step is cut into its word and its numbers
pub step_cut : (e : Event) → AreShort (step_numbers e)
    → fields_of (text_of e) ≡ word_of e ∷ map decimal (step_numbers e)
step_cut e short = ap fields_of (text_is e)
    ∙ fields_of-line_of (word_of e) (map decimal (step_numbers e)) (word_whole e)
    (decimals-HasNoSpace (step_numbers e) short)

-- the text is cut into them
text_cut : (x : TraceLine) → HasForm x → fields_of (trace_text x) ≡ fields_in x
text_cut (Header version p q factor) form =
    fields_of-line_of (codes "dover") (map decimal (version ∷ p ∷ q ∷ pair_of factor)) refl
    (decimals-HasNoSpace (version ∷ p ∷ q ∷ pair_of factor) form)
text_cut (Step e) form = step_cut e form.0
text_cut (Refused t r c d v cause) form =
    fields_of-line_of (codes "refuse") (map decimal (t ∷ r ∷ c ∷ d ∷ v ∷ []) ++ refusal_word cause ∷ []) refl
    (then_word (refusal_word cause) (t ∷ r ∷ c ∷ d ∷ v ∷ []) (word_HasNoSpace cause) form)
text_cut (RefusedDone t u n) form =
    fields_of-line_of (codes "refuse") (map decimal (t ∷ u ∷ n ∷ []) ++ codes "done" ∷ []) refl
    (then_word (codes "done") (t ∷ u ∷ n ∷ []) refl form)

-- a step's fields are read as a word and numbers
step_line : (e : Event) (ns : List ℕ) → line_of_fields (word_of e ∷ map decimal ns)
    ≡ option_and_then (λ ms. option_map Step (step_of_word (word_of e) ms)) (numerals (map decimal ns))
step_line (Release n j) ns = refl
step_line _ ns = refl

-- the fields of what has a form are read as it
fields_read : (x : TraceLine) → HasForm x → line_of_fields (fields_in x) ≡ Some x
fields_read (Header version p q factor) form =
    ap (option_and_then header_of) (numerals-decimals (version ∷ p ∷ q ∷ pair_of factor) form)
    ∙ header_back version p q factor
fields_read (Step e) form = step_line e (step_numbers e)
    ∙ ap (option_and_then (λ ms. option_map Step (step_of_word (word_of e) ms)))
    (numerals-decimals (step_numbers e) form.0)
    ∙ ap (option_map Step) (step_read e form.1)
fields_read (Refused t r c d v cause) form = refusal_read t r c d v cause form
fields_read (RefusedDone t u n) form =
    let fields : List (List ℕ) = map decimal (t ∷ u ∷ n ∷ []) ++ codes "done" ∷ [] in
    ap (λ o. option_or o (refused_done_of fields)) (no_job_read t u n form) ∙ done_read t u n form

-- the text of what has a form is read as it
pub text_read : (x : TraceLine) → HasForm x → line_of_fields (fields_of (trace_text x)) ≡ Some x
text_read x form = ap line_of_fields (text_cut x form) ∙ fields_read x form

-- ---- what a line names

-- what the fields of a line name
abbrev item_of_fields : List (List ℕ) → Option Item
item_of_fields fields = option_or (option_and_then verdict.job_from (numbers_after (codes "job") fields))
    (verdict.refused_from fields)

-- the text of a line names its item
text_item : (x : TraceLine) → HasForm x → verdict.item_of (trace_text x) ≡ item_in x
text_item (Header version p q None) form = ap item_of_fields (text_cut (Header version p q None) form)
text_item (Header version p q (Some pair)) form = ap item_of_fields (text_cut (Header version p q (Some pair)) form)
text_item (Step (Release n j)) form = item_of-text_of_line (Printed (Release n j)) form.0
text_item (Step (Run at n)) form = item_of-text_of_line (Printed (Run at n)) form.0
text_item (Step (Preempt at stops starts)) form = item_of-text_of_line (Printed (Preempt at stops starts)) form.0
text_item (Step (Take at stops starts)) form = item_of-text_of_line (Printed (Take at stops starts)) form.0
text_item (Step (Complete at n)) form = item_of-text_of_line (Printed (Complete at n)) form.0
text_item (Step (Abandon at n)) form = item_of-text_of_line (Printed (Abandon at n)) form.0
text_item (Step (End value)) form = item_of-text_of_line (Printed (End value)) form.0
text_item (Refused t r c d v cause) form = item_of-text_of_line (Refuses (refused_job t r c d v cause)) form
text_item (RefusedDone t u n) form = item_of-text_of_line (Refuses (refused_done t u n)) form

-- what the fields of a line declare
abbrev rules_of_fields : List (List ℕ) → Option Declaration
rules_of_fields fields = option_and_then verdict.rules_from (numbers_after (codes "dover") fields)

-- the text of a header declares its rules, and no other text does
text_rules : (x : TraceLine) → HasForm x → verdict.rules_of (trace_text x) ≡ rules_in x
text_rules (Header version p q factor) form = ap rules_of_fields (text_cut (Header version p q factor) form)
    ∙ ap (option_and_then verdict.rules_from) (numerals-decimals (version ∷ p ∷ q ∷ pair_of factor) form)
text_rules (Step e) form = ap rules_of_fields (text_cut (Step e) form) ∙ no_rules e (map decimal (step_numbers e)) where
  no_rules : (e : Event) (fields : List (List ℕ)) → rules_of_fields (word_of e ∷ fields) ≡ None
  no_rules (Release n j) fields = refl
  no_rules _ fields = refl
text_rules (Refused t r c d v cause) form = ap rules_of_fields (text_cut (Refused t r c d v cause) form)
text_rules (RefusedDone t u n) form = ap rules_of_fields (text_cut (RefusedDone t u n) form)

-- ---- a line that is read

-- what is known of a line where this is read of it
pub record IsRead (line : List ℕ) (x : TraceLine) : Type 0 where
  pub form : HasForm x
  pub text : trace_text x ≡ line
  pub item : verdict.item_of line ≡ item_in x
  pub rules : verdict.rules_of line ≡ rules_in x

-- a line that is read
pub read_IsRead : (line : List ℕ) (x : TraceLine) → line_of_fields (fields_of line) ≡ Some x → IsRead line x
read_IsRead line x read =
    let it = line_from (fields_of line) x read in
    let same : trace_text x ≡ line = it.1 ∙ line_of-fields_of line in
    record {
      form = it.0;
      text = same;
      item = ap verdict.item_of (sym same) ∙ text_item x it.0;
      rules = ap verdict.rules_of (sym same) ∙ text_rules x it.0;
    }

-- a line that is the text of something is read as that
pub only_read : (line : List ℕ) (x : TraceLine) → HasForm x → trace_text x ≡ line
    → line_of_fields (fields_of line) ≡ Some x
only_read line x form same = ap (λ bs. line_of_fields (fields_of bs)) (sym same) ∙ text_read x form

-- ---- fields that are no line

-- behind a last word nothing stands
pub no_last_word : (word : List ℕ) (fields : List (List ℕ)) → 0 < length fields → last_word (word ∷ fields) ≡ None
no_last_word word [] some = absurd (omega arith)
no_last_word word (next ∷ fields) some = refl

-- nor behind the word of a refused done line
pub no_done_left : (word : List ℕ) (fields : List (List ℕ)) → 0 < length fields → is_done_left (word ∷ fields) ≡ false
no_done_left word [] some = absurd (omega arith)
no_done_left word (next ∷ fields) some = refl

-- a line has a field
pub some_field : (line : List ℕ) → 0 < length (fields_of line)
some_field line = omega (arith, length-slice_split (λ b. b == 32) line)
