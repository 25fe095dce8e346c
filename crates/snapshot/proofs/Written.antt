-- The first line and the line of a job, as they are written.
use Rattle.std.proofs.Common.{◌≡◌, List, [], ◌∷◌, ◌++◌, ℕ, append_assoc, append-nil, map, sym, ap, ◌∙◌, decimal}
use Rattle.std.proofs.Common.{◌≤◌, length, length-append, arith}
use Rattle.std.proofs.lemmas.Fmt.{length-decimal-le}
use Rattle.dover_model.specs.declared.events.Version.TheVariants.{Three}
use Rattle.dover_model.specs.Common.{last_tick, most_jobs, most_lines, most_p, most_q}
use Rattle.dover_model.specs.Common.{line_of, with_numbers}
use Rattle.line_text.specs.Writing.{numbers_behind}

-- a word and a number, a word and numbers, in front of more
joined : (w d r n t : List ℕ) → (w ++ (32 ∷ d ++ [])) ++ (32 ∷ (r ++ (n ++ t)))
    ≡ (w ++ (32 ∷ (d ++ (32 ∷ (r ++ n))))) ++ t
joined w d r n t =
    ap (λ x. (w ++ (32 ∷ x)) ++ (32 ∷ (r ++ (n ++ t)))) (append-nil d)
    ∙ append_assoc w (32 ∷ d) (32 ∷ (r ++ (n ++ t)))
    ∙ ap (λ x. w ++ (32 ∷ (d ++ (32 ∷ x)))) (sym (append_assoc r n t))
    ∙ ap (λ x. w ++ (32 ∷ x)) (sym (append_assoc d (32 ∷ (r ++ n)) t))
    ∙ sym (append_assoc w (32 ∷ (d ++ (32 ∷ (r ++ n)))) t)

-- numbers behind a word
behind : (word : List ℕ) (ns : List ℕ) → word ++ numbers_behind ns ≡ line_of (word ∷ map decimal ns)
behind word [] = append-nil word
behind word (n ∷ ns) = ap (λ l. word ++ 32 ∷ l) (behind (decimal n) ns)

-- numbers behind a word and others
more_behind : (word xs ys t : List ℕ)
    → with_numbers word xs ++ (numbers_behind ys ++ t) ≡ with_numbers word (xs ++ ys) ++ t
more_behind word [] ys t = sym (append_assoc word (numbers_behind ys) t) ∙ ap (λ l. l ++ t) (behind word ys)
more_behind word (x ∷ xs) ys t = append_assoc word (32 ∷ with_numbers (decimal x) xs) (numbers_behind ys ++ t)
    ∙ ap (λ l. word ++ 32 ∷ l) (more_behind (decimal x) xs ys t)
    ∙ sym (append_assoc word (32 ∷ with_numbers (decimal x) (xs ++ ys)) t)

-- the numbers behind the ratio are short, with those of a factor
pub counts_fit : (lines mark jobs b c : ℕ) → lines ≤ most_lines Three → mark ≤ last_tick → jobs ≤ most_jobs Three
    → b ≤ most_p → c ≤ most_q
    → length (numbers_behind (lines ∷ mark ∷ jobs ∷ b ∷ c ∷ []) ++ 10 ∷ []) ≤ 61
counts_fit lines mark jobs b c few known listed small_b small_c =
    let low_lines : lines ≤ 16_000_000_000 = few in
    let low_mark : mark ≤ 10_000_000_000_000_000 = known in
    let low_jobs : jobs ≤ 4_000_000_000 = listed in
    let low_b : b ≤ 1_000_000 = small_b in
    let low_c : c ≤ 1_000 = small_c in
    let first : length (decimal lines) ≤ 11 = length-decimal-le 11 lines (omega arith) (omega arith) (omega arith) in
    let second : length (decimal mark) ≤ 17 = length-decimal-le 17 mark (omega arith) (omega arith) (omega arith) in
    let third : length (decimal jobs) ≤ 10 = length-decimal-le 10 jobs (omega arith) (omega arith) (omega arith) in
    let fourth : length (decimal b) ≤ 8 = length-decimal-le 8 b (omega arith) (omega arith) (omega arith) in
    let fifth : length (decimal c) ≤ 8 = length-decimal-le 8 c (omega arith) (omega arith) (omega arith) in
    omega (
      arith,
      length-append (numbers_behind (lines ∷ mark ∷ jobs ∷ b ∷ c ∷ [])) (10 ∷ []),
      length-append (decimal lines) (numbers_behind (mark ∷ jobs ∷ b ∷ c ∷ [])),
      length-append (decimal mark) (numbers_behind (jobs ∷ b ∷ c ∷ [])),
      length-append (decimal jobs) (numbers_behind (b ∷ c ∷ [])),
      length-append (decimal b) (numbers_behind (c ∷ [])),
      length-append (decimal c) [],
    )
