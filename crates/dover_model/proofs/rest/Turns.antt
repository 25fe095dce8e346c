-- Events that are numbered behind others, twice and without their End.
use Rattle.std.proofs.Common.{◌≡◌, ℕ, ◌+◌, List, [], ◌∷◌, map, refl, ap, ◌∙◌, Bool, true, false, cond, not, arith}
use Rattle.dover_model.specs.Common.{Event, Release, Run, Preempt, Take, Complete, Abandon, End, behind, names_end}
use Rattle.dover_model.specs.Common.{before_end}

-- ---- numbered behind, twice

-- behind n others that are behind m
pub behind_twice : (n a m b : ℕ) (es : List Event)
    → map (behind n a) (map (behind m b) es) ≡ map (behind (n + m) (a + b)) es
behind_twice n a m b [] = refl
behind_twice n a m b (e ∷ es) = ap (λ f. f ∷ map (behind n a) (map (behind m b) es)) (once e)
    ∙ ap (λ fs. behind (n + m) (a + b) e ∷ fs) (behind_twice n a m b es) where
      sum : (k : ℕ) → n + (m + k) ≡ n + m + k
      sum k = omega arith

      once : (e : Event) → behind n a (behind m b e) ≡ behind (n + m) (a + b) e
      once (Release k job) = ap (λ i. Release i job) (sum k)
      once (Run at k) = ap (Run at) (sum k)
      once (Preempt at stops starts) = ap (λ i. Preempt at i (n + (m + starts))) (sum stops)
          ∙ ap (Preempt at (n + m + stops)) (sum starts)
      once (Take at stops starts) = ap (λ i. Take at i (n + (m + starts))) (sum stops)
          ∙ ap (Take at (n + m + stops)) (sum starts)
      once (Complete at k) = ap (Complete at) (sum k)
      once (Abandon at k) = ap (Abandon at) (sum k)
      once (End value) = ap End (let e : a + (b + value) ≡ a + b + value = omega arith in e)

-- behind none
pub behind_none : (es : List Event) → map (behind 0 0) es ≡ es
behind_none [] = refl
behind_none (e ∷ es) = ap (λ f. f ∷ map (behind 0 0) es) (same e) ∙ ap (λ fs. e ∷ fs) (behind_none es) where
  none : (k : ℕ) → 0 + k ≡ k
  none k = omega arith

  same : (e : Event) → behind 0 0 e ≡ e
  same (Release k job) = ap (λ i. Release i job) (none k)
  same (Run at k) = ap (Run at) (none k)
  same (Preempt at stops starts) = ap (λ i. Preempt at i (0 + starts)) (none stops)
      ∙ ap (Preempt at stops) (none starts)
  same (Take at stops starts) = ap (λ i. Take at i (0 + starts)) (none stops) ∙ ap (Take at stops) (none starts)
  same (Complete at k) = ap (Complete at) (none k)
  same (Abandon at k) = ap (Abandon at) (none k)
  same (End value) = ap End (none value)

-- ---- before End

-- End is left out once
pub before_twice : (es : List Event) → before_end (before_end es) ≡ before_end es
before_twice [] = refl
before_twice (e ∷ es) = by_test (not (names_end e)) refl (before_twice es) where
  by_test : (b : Bool) → not (names_end e) ≡ b → before_end (before_end es) ≡ before_end es
      → before_end (cond b (e ∷ before_end es) (before_end es)) ≡ cond b (e ∷ before_end es) (before_end es)
  by_test true keeps same = ap (λ b. cond b (e ∷ before_end (before_end es)) (before_end (before_end es))) keeps
      ∙ ap (λ fs. e ∷ fs) same
  by_test false drops same = same

-- and stays End under other numbers
pub before_behind : (n a : ℕ) (es : List Event) → before_end (map (behind n a) es) ≡ map (behind n a) (before_end es)
before_behind n a [] = refl
before_behind n a (e ∷ es) =
    ap (λ b. cond b (behind n a e ∷ before_end (map (behind n a) es)) (before_end (map (behind n a) es))) (end_stays e)
    ∙ by_test (not (names_end e)) (before_behind n a es) where
      end_stays : (e : Event) → not (names_end (behind n a e)) ≡ not (names_end e)
      end_stays (Release k job) = refl
      end_stays _ = refl

      by_test : (b : Bool) → before_end (map (behind n a) es) ≡ map (behind n a) (before_end es)
          → cond b (behind n a e ∷ before_end (map (behind n a) es)) (before_end (map (behind n a) es))
          ≡ map (behind n a) (cond b (e ∷ before_end es) (before_end es))
      by_test true same = ap (λ fs. behind n a e ∷ fs) same
      by_test false same = same
