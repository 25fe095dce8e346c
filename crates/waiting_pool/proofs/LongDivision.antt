-- A quotient of 80 binary digits, 34 and twice 23 at a time.
use Rattle.std.proofs.Common.{◌≡◌, ℕ, ◌+◌, ◌*◌, ◌/◌, ◌%◌, ◌<◌, ap, sym, ◌∙◌, arith}
use Rattle.std.proofs.lemmas.Nat.{div-add-mod', div-mul-add, mod_below}

-- with what is left of a step, the next one goes on
pub in_steps : (v w : ℕ) → 0 < w
    → v * 17_179_869_184 / w * 70_368_744_177_664
    + (v * 17_179_869_184 % w * 8_388_608 / w * 8_388_608
    + v * 17_179_869_184 % w * 8_388_608 % w * 8_388_608 / w)
    ≡ v * 1_208_925_819_614_629_174_706_176 / w
in_steps v w some =
    let a : ℕ = v * 17_179_869_184 in
    let b : ℕ = a % w * 8_388_608 in
    let c : ℕ = b % w * 8_388_608 in
    let all : v * 1_208_925_819_614_629_174_706_176
    ≡ (a / w * 70_368_744_177_664 + (b / w * 8_388_608 + c / w)) * w + c % w =
    omega (arith, div-add-mod' a w, div-add-mod' b w, div-add-mod' c w) in
    sym (ap (λ n. n / w) all ∙ div-mul-add (a / w * 70_368_744_177_664 + (b / w * 8_388_608 + c / w)) w (c % w)
    (mod_below c w some))
