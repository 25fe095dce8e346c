-- What follows a task text, as bytes come.
use Rattle.std.proofs.Common.{◌≡◌, ◌<◌, ℕ, suc, List, [], ◌∷◌, ◌++◌, length, take, refl, sym, ap, ◌∙◌, arith}
use Rattle.std.proofs.Common.{Bool, true, false, cond, append_assoc, append-nil}
use Rattle.dover_model.proofs.lists.Tests.{never}
use Rattle.task_words.specs.reading.Account.{account, is_open}
use Rattle.task_words.proofs.reading.Accounts.{closed_account}
use Rattle.task_report.specs.Behind.{behind_from}

-- whether a task text of these bytes goes on
abbrev open_at : List ℕ → Bool
open_at bytes = is_open (account 0 bytes)

-- one that is over stays so
stays_closed : (x y : List ℕ) → open_at x ≡ false → open_at (x ++ y) ≡ false
stays_closed x y closed = ap is_open (closed_account 0 x y closed) ∙ closed

-- so what one that goes on begins with goes on
front_open : (x y : List ℕ) → open_at (x ++ y) ≡ true → open_at x ≡ true
front_open x y opened = by (open_at x) refl where
  by : (b : Bool) → open_at x ≡ b → b ≡ true
  by true is = refl
  by false is = never (sym (stays_closed x y is) ∙ opened)

-- behind bytes with which the text goes on it is looked for behind these
pub past : (read xs ys : List ℕ) → open_at (read ++ xs) ≡ true
    → behind_from read (xs ++ ys) ≡ behind_from (read ++ xs) ys
past read [] ys opened = ap (λ r. behind_from r ys) (sym (append-nil read))
past read (x ∷ xs) ys opened =
    let opened_more : open_at ((read ++ x ∷ []) ++ xs) ≡ true =
    ap open_at (append_assoc read (x ∷ []) xs) ∙ opened in
    ap (λ b. cond b (behind_from (read ++ x ∷ []) (xs ++ ys)) (x ∷ (xs ++ ys))) (front_open read (x ∷ xs) opened)
    ∙ past (read ++ x ∷ []) xs ys opened_more
    ∙ ap (λ r. behind_from r ys) (append_assoc read (x ∷ []) xs)

-- where no front of the bytes but all of them ends the text, nothing follows
pub none_behind : (read bs : List ℕ) → ((k : ℕ) → k < length bs → open_at (read ++ take k bs) ≡ true)
    → behind_from read bs ≡ []
none_behind read [] goes = refl
none_behind read (b ∷ bs) goes =
    ap (λ c. cond c (behind_from (read ++ b ∷ []) bs) (b ∷ bs))
    (ap open_at (sym (append-nil read)) ∙ goes 0 (omega arith))
    ∙ none_behind (read ++ b ∷ []) bs (λ k less. ap open_at (append_assoc read (b ∷ []) (take k bs))
    ∙ goes (suc k) (omega (arith, less)))

-- behind a text that is over all bytes follow
pub all_behind : (read xs ys : List ℕ) → open_at (read ++ xs) ≡ false
    → behind_from read (xs ++ ys) ≡ behind_from read xs ++ ys
all_behind read [] ys closed = by ys where
  by : (zs : List ℕ) → behind_from read zs ≡ zs
  by [] = refl
  by (z ∷ zs) = ap (λ c. cond c (behind_from (read ++ z ∷ []) zs) (z ∷ zs))
      (ap open_at (sym (append-nil read)) ∙ closed)
all_behind read (x ∷ xs) ys closed = by (open_at read) (all_behind (read ++ x ∷ []) xs ys
    (ap open_at (append_assoc read (x ∷ []) xs) ∙ closed)) where
      by : (b : Bool) → behind_from (read ++ x ∷ []) (xs ++ ys) ≡ behind_from (read ++ x ∷ []) xs ++ ys
          → cond b (behind_from (read ++ x ∷ []) (xs ++ ys)) (x ∷ (xs ++ ys))
          ≡ cond b (behind_from (read ++ x ∷ []) xs) (x ∷ xs) ++ ys
      by true more = more
      by false more = refl
