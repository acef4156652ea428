-- The next words of the generator.
use Rattle.std.proofs.Common.{◌≡◌, ℕ, zero, suc, List, ◌∷◌, refl, sym, ap, ◌∙◌, length}
use Rattle.rand_core.specs.Steps.{first_words}
use Rattle.rand_pcg.specs.Lcg.{Lcg}
use Rattle.rand_pcg.specs.Pcg.{pcg32}

pub next-word : (g h : Lcg) (w k : ℕ) → (w, h) ≡ pcg32 g → first_words pcg32 (suc k) g ≡ w ∷ first_words pcg32 k h
unfolding first_words
next-word g h w k e = ap (λ (p : ℕ × Lcg). p.0 ∷ first_words pcg32 k p.1) (sym e)

pub length-words : {S : Type 0} (step : S → ℕ × S) (k : ℕ) (s : S) → length (first_words step k s) ≡ k
unfolding first_words
length-words step zero s = refl
length-words step (suc k) s = ap suc (length-words step k (step s).1)

pub four-words : (g0 g1 g2 g3 g4 : Lcg) (a b c d k : ℕ) → (a, g1) ≡ pcg32 g0 → (b, g2) ≡ pcg32 g1 → (c, g3) ≡ pcg32 g2 → (d, g4) ≡ pcg32 g3 →
    first_words pcg32 (suc (suc (suc (suc k)))) g0 ≡ a ∷ b ∷ c ∷ d ∷ first_words pcg32 k g4
four-words g0 g1 g2 g3 g4 a b c d k e f g h =
    next-word g0 g1 a (suc (suc (suc k))) e
    ∙ (ap (λ (ws : List ℕ). a ∷ ws) (next-word g1 g2 b (suc (suc k)) f)
    ∙ (ap (λ (ws : List ℕ). a ∷ b ∷ ws) (next-word g2 g3 c (suc k) g)
    ∙ ap (λ (ws : List ℕ). a ∷ b ∷ c ∷ ws) (next-word g3 g4 d k h)))
