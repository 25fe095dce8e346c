-- Numbers among the words.
use Rattle.std.proofs.Common.{◌≡◌, ℕ, ◌<◌, ◌^◌, List, Some, None, decimal, sym, ap, ◌∙◌}
use Rattle.dover_model.specs.Numerals.{numeral}
use Rattle.dover_model.proofs.texts.Numerals.{numeral-decimal}

-- a word that spells a number is read as it
read_so : (bs : List ℕ) (n : ℕ) → n < 10 ^ 18 → bs ≡ decimal n → numeral bs ≡ Some n
read_so bs n small spells = ap numeral spells ∙ numeral-decimal n small

-- a word that isn't read spells no number
pub none_spelled : (bs : List ℕ) (n : ℕ) → n < 10 ^ 18 → numeral bs ≡ None → bs ≡ decimal n → ⊥
none_spelled bs n small none spells = absurd (let clash : None ≡ Some n = sym none ∙ read_so bs n small spells in cc)

-- a word that is read spells that number alone
pub one_spelled : (bs : List ℕ) (m n : ℕ) → n < 10 ^ 18 → numeral bs ≡ Some m → bs ≡ decimal n → m ≡ n
one_spelled bs m n small some spells = let same : Some m ≡ Some n = sym some ∙ read_so bs n small spells in cc

-- a word that spells two numbers spells one
pub decimal_same : (bs : List ℕ) (m n : ℕ) → m < 10 ^ 18 → n < 10 ^ 18 → bs ≡ decimal m → bs ≡ decimal n → m ≡ n
decimal_same bs m n small small_too one two = one_spelled bs m n small_too (read_so bs m small one) two
