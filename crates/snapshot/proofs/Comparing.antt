-- Two lists that agree at each place, and two lists of jobs that are alike.
use Rattle.std.proofs.Common.{◌≡◌, ℕ, suc, ◌≤◌, ◌<◌, List, [], ◌∷◌, length, map, refl, sym, ap, ◌∙◌}
use Rattle.std.proofs.Common.{true, false, ◌&&◌, arith, Option, Some, option_map, bytes_eq, ◌==◌}
use Rattle.std.proofs.Common.{if◌then◌else◌, slice_get, eq-eqb, eqb-true}
use Rattle.std.proofs.lemmas.Bool.{and_parts}
use Rattle.std.proofs.lemmas.Option.{slice_get-map}
use Rattle.std.proofs.lemmas.Slice.Eq.{bytes_eq-Decides}
use Rattle.dover_model.specs.declared.events.Role.{Role}
use Rattle.dover_model.specs.declared.events.Role.TheVariants.{Coming, Fresh, Waiting, Held, Running, Done, Gone}
use Rattle.dover_model.specs.declared.events.Task.{Task}
use Rattle.dover_model.specs.Sound.{IsNumberedFrom, jobs_of}
use Rattle.dover_model.proofs.lists.Members.{some_same}
use Rattle.snapshot.specs.Snapshot.{role_word}
use Rattle.snapshot.specs.Reading.{is_alike, are_alike}
use Rattle.snapshot.specs.Kept.{stance_of, IsAt, AreAt}
use Rattle.snapshot.specs.declared.resuming.Stance.{Stance}

-- ---- place by place

-- lists of a length that agree at each place are the same
same_places : {X : Type 0} (xs ys : List X) → length xs ≡ length ys
    → ((j : ℕ) → j < length xs → slice_get xs j ≡ slice_get ys j) → xs ≡ ys
same_places [] [] long at = refl
same_places [] (y ∷ ys) long at = absurd (omega (arith, long))
same_places (x ∷ xs) [] long at = absurd (omega (arith, long))
same_places (x ∷ xs) (y ∷ ys) long at =
    let first : x ≡ y = some_same x y (at 0 (omega arith)) in
    let rest : xs ≡ ys = same_places xs ys (omega (arith, long)) (λ j low. at (suc j) (omega (arith, low))) in cc

-- the jobs before this one are as stored
abbrev pub AreAtUpTo : List Task → List Stance → ℕ → Type 0
AreAtUpTo tasks stances n = (j : ℕ) → j < n → slice_get (map stance_of tasks) j ≡ slice_get stances j

module _ (tasks : List Task) (stances : List Stance) (n : ℕ) (stance : Stance)
    (there : slice_get stances n ≡ Some stance) where
  -- where it isn't, not all are
  pub not_all : (IsAt tasks n stance → ⊥) → AreAt tasks stances → ⊥
  not_all other all = other (sym (slice_get-map stance_of tasks n) ∙ ap (λ xs. slice_get xs n) all ∙ there)

-- where each is, all are
pub all_at : (tasks : List Task) (stances : List Stance) → length stances ≡ length tasks → (n : ℕ)
    → length tasks ≤ n
    → AreAtUpTo tasks stances n → AreAt tasks stances
all_at tasks stances long n most at =
    same_places (map stance_of tasks) stances (omega (arith, long, length_map tasks))
    (λ j low. at j (omega (arith, low, length_map tasks))) where
      length_map : (ts : List Task) → length (map stance_of ts) ≡ length ts
      length_map [] = refl
      length_map (t ∷ ts) = ap suc (length_map ts)

-- ---- jobs that are alike

-- the role of a word's first letter
abbrev letter_role : ℕ → Role
letter_role n = if n == 99 then Coming else
    (if n == 102 then Fresh else (if n == 119 then Waiting else (if n == 104 then Held else
    (if n == 114 then Running else (if n == 100 then Done else Gone)))))

-- the first letter of a word
abbrev first_letter : List ℕ → ℕ
first_letter [] = 0
first_letter (b ∷ bs) = b

-- a role is that of its word's first letter
role_again : (role : Role) → letter_role (first_letter (role_word role)) ≡ role
role_again Coming = refl
role_again _ = refl

-- one word, one role
one_role : (a b : Role) → role_word a ≡ role_word b → a ≡ b
one_role a b e = sym (role_again a) ∙ ap (λ w. letter_role (first_letter w)) e ∙ role_again b

-- alike jobs have the same state
alike_same : (t u : Task) → is_alike t u ≡ true → stance_of t ≡ stance_of u
alike_same t u alike =
    let both = and_parts (bytes_eq (role_word t.role) (role_word u.role)) (t.had == u.had) alike in
    let role : t.role ≡ u.role =
    one_role t.role u.role ((bytes_eq-Decides (role_word t.role) (role_word u.role)).0 both.0) in
    let had : t.had ≡ u.had = eqb-true t.had u.had both.1 in
    ap (λ r. let s : Stance = record { role = r; had = t.had } in s) role
    ∙ ap (λ n. let s : Stance = record { role = u.role; had = n } in s) had

-- jobs of the same state are alike
same_alike : (t u : Task) → stance_of t ≡ stance_of u → is_alike t u ≡ true
same_alike t u same =
    ap (λ b. b && (t.had == u.had))
    ((bytes_eq-Decides (role_word t.role) (role_word u.role)).1 (ap (λ (s : Stance). role_word s.role) same))
    ∙ eq-eqb t.had u.had (ap (λ (s : Stance). s.had) same)

-- the same of lists
pub all_alike : (tasks others : List Task) → map stance_of tasks ≡ map stance_of others → are_alike tasks others ≡ true
all_alike [] [] same = refl
all_alike [] (u ∷ others) same = absurd (let clash : [] ≡ stance_of u ∷ map stance_of others = same in cc)
all_alike (t ∷ tasks) [] same = absurd (let clash : stance_of t ∷ map stance_of tasks ≡ [] = same in cc)
all_alike (t ∷ tasks) (u ∷ others) same =
    let whole : stance_of t ∷ map stance_of tasks ≡ stance_of u ∷ map stance_of others = same in
    let first : stance_of t ≡ stance_of u = cc in
    let rest : map stance_of tasks ≡ map stance_of others = cc in
    ap (λ b. b && are_alike tasks others) (same_alike t u first) ∙ all_alike tasks others rest

pub alike_all : (tasks others : List Task) → are_alike tasks others ≡ true → map stance_of tasks ≡ map stance_of others
alike_all [] [] alike = refl
alike_all (t ∷ tasks) (u ∷ others) alike =
    let both = and_parts (is_alike t u) (are_alike tasks others) alike in
    let first : stance_of t ≡ stance_of u = alike_same t u both.0 in
    let rest : map stance_of tasks ≡ map stance_of others = alike_all tasks others both.1 in cc
alike_all _ _ alike = absurd (let clash : false ≡ true = alike in cc)

-- numbered jobs with the same states and the same jobs are the same
pub same_tasks : (n : ℕ) (tasks others : List Task) → IsNumberedFrom n tasks → IsNumberedFrom n others
    → jobs_of tasks ≡ jobs_of others
    → map stance_of tasks ≡ map stance_of others → tasks ≡ others
same_tasks n [] [] numbered other jobs stances = refl
same_tasks n [] (u ∷ others) numbered other jobs stances =
    absurd (let clash : [] ≡ stance_of u ∷ map stance_of others = stances in cc)
same_tasks n (t ∷ tasks) [] numbered other jobs stances =
    absurd (let clash : stance_of t ∷ map stance_of tasks ≡ [] = stances in cc)
same_tasks n (t ∷ tasks) (u ∷ others) numbered other jobs stances =
    let whole : stance_of t ∷ map stance_of tasks ≡ stance_of u ∷ map stance_of others = stances in
    let stance : stance_of t ≡ stance_of u = cc in
    let more : map stance_of tasks ≡ map stance_of others = cc in
    let all : t.job ∷ jobs_of tasks ≡ u.job ∷ jobs_of others = jobs in
    let job : t.job ≡ u.job = cc in
    let rest : jobs_of tasks ≡ jobs_of others = cc in
    let number : t.number ≡ u.number = numbered.0 ∙ sym other.0 in
    let first : t ≡ u = ap (λ m. let x : Task = record { number = m; job = t.job; role = t.role; had = t.had } in x)
    number
    ∙ ap (λ j. let x : Task = record { number = u.number; job = j; role = t.role; had = t.had } in x) job
    ∙ ap (λ (s : Stance). let x : Task = record { number = u.number; job = u.job; role = s.role; had = s.had } in x)
    stance in
    let later : tasks ≡ others = same_tasks (suc n) tasks others numbered.1 other.1 rest more in cc

-- the stance of a job of a mapped list
pub at_place : {X : Type 0} (f : X → Task) (xs : List X) (n : ℕ) (o : Option Task) → o ≡ option_map f (slice_get xs n)
    → option_map stance_of (slice_get (map f xs) n) ≡ option_map stance_of o
at_place f xs n o is = ap (option_map stance_of) (slice_get-map f xs n ∙ sym is)
