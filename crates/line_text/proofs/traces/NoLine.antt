-- What is no line of a trace: a word with too few or too many numbers, or another word.
use Rattle.std.proofs.Common.{◌≡◌, ◌≢◌, ℕ, List, [], ◌∷◌, length, refl, sym, ap, true, codes, Option, Some, None}
use Rattle.std.proofs.Common.{bytes_eq, option_and_then, option_map}
use Rattle.dover_model.specs.declared.events.Event.{Event}
use Rattle.dover_model.specs.declared.events.Event.TheVariants.{Run, Preempt, Take, Complete, Abandon}
use Rattle.dover_model.specs.Common.{fields_of, numerals}
use Rattle.line_text.proofs.Words.{IsNot, uncounted, skip, Lacks, differs}
use Rattle.line_text.specs.declared.traces.lines.TraceLine.TheVariants.{Step}
use Rattle.line_text.specs.traces.Reading.{◌>>=◌, release_of, one_job, two_jobs, run_of, complete_of, abandon_of}
use Rattle.line_text.specs.traces.Reading.{preempt_of, take_of, end_of, header_of, line_of_word, refused_of}
use Rattle.line_text.specs.traces.Reading.{refused_done_of, line_of_fields}

-- ---- another count of numbers

-- of a release
not_five : (ns : List ℕ) → length ns ≢ 5 → release_of ns ≡ None
not_five (a ∷ b ∷ c ∷ d ∷ e ∷ []) other = absurd (other refl)
not_five _ other = refl

-- of a step of one job
not_two : (ns : List ℕ) → length ns ≢ 2 → one_job ns ≡ None
not_two (a ∷ b ∷ []) other = absurd (other refl)
not_two _ other = refl

-- of two jobs
not_three : (ns : List ℕ) → length ns ≢ 3 → two_jobs ns ≡ None
not_three (a ∷ b ∷ c ∷ []) other = absurd (other refl)
not_three _ other = refl

-- of the end
not_one : (ns : List ℕ) → length ns ≢ 1 → end_of ns ≡ None
not_one (a ∷ []) other = absurd (other refl)
not_one _ other = refl

-- of a header
no_three_or_five : (ns : List ℕ) → length ns ≢ 3 → length ns ≢ 5 → header_of ns ≡ None
no_three_or_five (a ∷ b ∷ c ∷ []) other more = absurd (other refl)
no_three_or_five (a ∷ b ∷ c ∷ d ∷ e ∷ []) other more = absurd (more refl)
no_three_or_five _ other more = refl

pub no_release : (o : Option (List ℕ)) → IsNot 5 o → None ≡ option_map Step (option_and_then release_of o)
no_release o other = ap (option_map Step) (uncounted release_of 5 not_five o other)

pub no_end : (o : Option (List ℕ)) → IsNot 1 o → None ≡ option_map Step (option_and_then end_of o)
no_end o other = ap (option_map Step) (uncounted end_of 1 not_one o other)

pub no_header : (o : Option (List ℕ)) → IsNot 3 o → IsNot 5 o → None ≡ option_and_then header_of o
no_header None other more = refl
no_header (Some ns) other more = sym (no_three_or_five ns (other ns refl) (more ns refl))

-- a step of one job, and of two
one_step : (step : ℕ → ℕ → Event) (o : Option (List ℕ)) → IsNot 2 o
    → None ≡ option_and_then (λ ns. one_job ns >>= λ f. Some (step f.0 f.1)) o
one_step step = uncounted (λ ns. one_job ns >>= λ f. Some (step f.0 f.1)) 2
    (λ ns other. ap (λ o. o >>= λ f. Some (step f.0 f.1)) (not_two ns other))

two_step : (step : ℕ → ℕ → ℕ → Event) (o : Option (List ℕ)) → IsNot 3 o
    → None ≡ option_and_then (λ ns. two_jobs ns >>= λ f. Some (step f.0 f.1 f.2)) o
two_step step = uncounted (λ ns. two_jobs ns >>= λ f. Some (step f.0 f.1 f.2)) 3
    (λ ns other. ap (λ o. o >>= λ f. Some (step f.0 f.1 f.2)) (not_three ns other))

pub no_run : (o : Option (List ℕ)) → IsNot 2 o → None ≡ option_map Step (option_and_then run_of o)
no_run o other = ap (option_map Step) (one_step Run o other)

pub no_complete : (o : Option (List ℕ)) → IsNot 2 o → None ≡ option_map Step (option_and_then complete_of o)
no_complete o other = ap (option_map Step) (one_step Complete o other)

pub no_abandon : (o : Option (List ℕ)) → IsNot 2 o → None ≡ option_map Step (option_and_then abandon_of o)
no_abandon o other = ap (option_map Step) (one_step Abandon o other)

pub no_preempt : (o : Option (List ℕ)) → IsNot 3 o → None ≡ option_map Step (option_and_then preempt_of o)
no_preempt o other = ap (option_map Step) (two_step Preempt o other)

pub no_take : (o : Option (List ℕ)) → IsNot 3 o → None ≡ option_map Step (option_and_then take_of o)
no_take o other = ap (option_map Step) (two_step Take o other)

-- ---- the word

-- for each word but that of refused lines, its line has no such numbers if the word is this one
pub record IsNoLine (word ns : List ℕ) : Type 0 where
  pub job : bytes_eq word (codes "job") ≡ true → release_of ns ≡ None
  pub run : bytes_eq word (codes "run") ≡ true → run_of ns ≡ None
  pub complete : bytes_eq word (codes "complete") ≡ true → complete_of ns ≡ None
  pub preempt : bytes_eq word (codes "preempt") ≡ true → preempt_of ns ≡ None
  pub abandon : bytes_eq word (codes "abandon") ≡ true → abandon_of ns ≡ None
  pub displace : bytes_eq word (codes "take") ≡ true → take_of ns ≡ None
  pub end : bytes_eq word (codes "end") ≡ true → end_of ns ≡ None
  pub dover : bytes_eq word (codes "dover") ≡ true → header_of ns ≡ None

-- then there is no line
no_word : (word ns : List ℕ) → IsNoLine word ns → line_of_word word ns ≡ None
no_word word ns it = skip _ _ _ it.dover (ap (option_map Step)
    (skip _ _ _ it.job (skip _ _ _ it.run (skip _ _ _ it.complete (skip _ _ _ it.preempt (skip _ _ _ it.abandon
    (skip _ _ _ it.displace (skip _ _ _ it.end refl))))))))

no_numbers : (word : List ℕ) (o : Option (List ℕ)) → ((ns : List ℕ) → o ≡ Some ns → IsNoLine word ns)
    → option_and_then (line_of_word word) o ≡ None
no_numbers word None it = refl
no_numbers word (Some ns) it = no_word word ns (it ns refl)

-- a word alone is none
lone : (word : List ℕ) → line_of_fields (word ∷ []) ≡ None
unfolding refused_of refused_done_of
lone word = skip (bytes_eq word (codes "refuse")) _ _ (λ same. refl) (no_word word [] record {
  job = λ same. refl;
  run = λ same. refl;
  complete = λ same. refl;
  preempt = λ same. refl;
  abandon = λ same. refl;
  displace = λ same. refl;
  end = λ same. refl;
  dover = λ same. refl;
})

-- the line begins with no word of a trace and a space
pub record LacksAll (line : List ℕ) : Type 0 where
  pub job : Lacks line (codes "job")
  pub run : Lacks line (codes "run")
  pub complete : Lacks line (codes "complete")
  pub preempt : Lacks line (codes "preempt")
  pub abandon : Lacks line (codes "abandon")
  pub displace : Lacks line (codes "take")
  pub refuse : Lacks line (codes "refuse")
  pub end : Lacks line (codes "end")
  pub dover : Lacks line (codes "dover")

-- it is no line of a trace
pub no_line : (line : List ℕ) → LacksAll line → None ≡ line_of_fields (fields_of line)
no_line line it = sym (by_fields (fields_of line) refl) where
  by_fields : (fields : List (List ℕ)) → fields_of line ≡ fields → line_of_fields fields ≡ None
  by_fields [] is = refl
  by_fields (word ∷ []) is = lone word
  by_fields (word ∷ field ∷ fields) is =
      let other = differs line word field fields is in
      skip (bytes_eq word (codes "refuse")) _ _ (λ same. absurd (other (codes "refuse") it.refuse same))
      (no_numbers word (numerals (field ∷ fields)) (λ ns read. record {
        job = λ same. absurd (other (codes "job") it.job same);
        run = λ same. absurd (other (codes "run") it.run same);
        complete = λ same. absurd (other (codes "complete") it.complete same);
        preempt = λ same. absurd (other (codes "preempt") it.preempt same);
        abandon = λ same. absurd (other (codes "abandon") it.abandon same);
        displace = λ same. absurd (other (codes "take") it.displace same);
        end = λ same. absurd (other (codes "end") it.end same);
        dover = λ same. absurd (other (codes "dover") it.dover same);
      }))
