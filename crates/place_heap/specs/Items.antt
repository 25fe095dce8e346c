-- What a heap holds, and its order.
use Rattle.std.specs.Prelude.{ℕ, ◌+◌, ◌*◌, ◌/◌, ◌%◌, ◌^◌, Bool, ◌||◌, ◌&&◌, ◌==◌, nat_lt}

-- a key and a tie that give the order, the number of a job, and the place where it is kept
pub record ItemFacts : Type 0 where
  pub key : ℕ
  pub tie : ℕ
  pub number : ℕ
  pub place : ℕ

-- whether m is less than n, or where they are equal the rest says so
abbrev pub less_or : (m n : ℕ) → Bool → Bool
less_or m n rest = nat_lt m n || ((m == n) && rest)

-- a comes before b: by the key, then by the tie and by the number
abbrev pub is_before : ItemFacts → ItemFacts → Bool
is_before a b = less_or a.key b.key (less_or a.tie b.tie (nat_lt a.number b.number))

-- the tie and the number as one, this one of 32 binary digits
abbrev pub low_of : ItemFacts → ℕ
low_of i = i.tie * 2 ^ 32 + i.number

-- the key, the tie and the number in one, and the place
abbrev pub facts_of : (key low place : ℕ) → ItemFacts
facts_of key low place = record { key = key; tie = low / 2 ^ 32; number = low % 2 ^ 32; place = place }
