-- The clauses of a generated formula: those so far, and those that are still to come.
use Rattle.std.proofs.Common.{◌≡◌, ◌≤◌, ◌<◌, ◌+◌, ◌-◌, ◌*◌, ◌/◌, ℕ, suc, List, [], ◌∷◌, ◌++◌, refl, sym, ap, ◌∙◌, subst, arith, length, append_assoc, append-nil}
use Rattle.rand_core.specs.Steps.{first_words}
use Rattle.rand_core.specs.Pcg32Seed.{pcg32_seed}
use Rattle.rand_pcg.specs.Lcg.{Lcg}
use Rattle.rand_pcg.specs.Pcg.{pcg32, pcg32_of_seed}
use Rattle.q_logic.specs.declared.formulas.Bound.{Bound}
use Rattle.q_logic.specs.declared.formulas.Quant.{Quant}
use Rattle.q_logic.specs.Prelude.{Literal, Clause, Matrix, Prefix, clause_of, AreEnds, AreLawful, IsProper, clauses_between}
use Rattle.q_logic.proofs.Common.{proper-lawful}
use Rattle.q_gen.specs.Generated.{block_from, literal_of, drawn_by, clauses_by, prefix_of, words_of, Generated}
use Rattle.q_gen.proofs.RandomWords.{four-words}
use Rattle.q_gen.proofs.DrawnClauses.{generated-proper}

-- one variable more of a block
block-next : (q : Quant) (v last : ℕ) → v < last → block_from q v (last - v) ≡ record { quant = q; var = v } ∷ block_from q (v + 1) (last - (v + 1))
block-next q v last h = let k : last - v ≡ suc (last - (v + 1)) = omega arith in ap (block_from q v) k

pub block-push : (q : Quant) (v last : ℕ) (old new whole : Prefix) → v < last → old ++ block_from q v (last - v) ≡ whole →
    new ≡ old ++ record { quant = q; var = v } ∷ [] → new ++ block_from q (v + 1) (last - (v + 1)) ≡ whole
block-push q v last old new whole h e f =
    let b : Bound = record { quant = q; var = v } in
    ap (λ (P : Prefix). P ++ block_from q (v + 1) (last - (v + 1))) f
    ∙ (append_assoc old (b ∷ []) (block_from q (v + 1) (last - (v + 1)))
    ∙ (ap (λ (P : Prefix). old ++ P) (sym (block-next q v last h)) ∙ e))

-- four words make the next clause
pub draws : (width k : ℕ) (g0 g1 g2 g3 g4 : Lcg) (a b c d : ℕ) (p q r s : Literal) →
    (a, g1) ≡ pcg32 g0 → (b, g2) ≡ pcg32 g1 → (c, g3) ≡ pcg32 g2 → (d, g4) ≡ pcg32 g3 →
    p ≡ literal_of 1 width a → q ≡ literal_of (width + 1) width b → r ≡ literal_of (2 * width + 1) (2 * width) c → s ≡ literal_of (2 * width + 1) (2 * width) d →
    clauses_by width (first_words pcg32 (suc (suc (suc (suc k)))) g0) ≡ clause_of (p ∷ q ∷ r ∷ s ∷ []) ∷ clauses_by width (first_words pcg32 k g4)
draws width k g0 g1 g2 g3 g4 a b c d p q r s e f g h i j l m =
    ap (clauses_by width) (four-words g0 g1 g2 g3 g4 a b c d k e f g h)
    ∙ ap (λ (ls : List Literal). clause_of ls ∷ clauses_by width (first_words pcg32 k g4)) (sym same)
  where
    same : (p ∷ q ∷ r ∷ s ∷ []) ≡ drawn_by width a b c d
    same = rw (i, j, l, m) refl

-- the words that are still to come make the clauses behind those that were drawn
abbrev pub AreDrawn : ℕ → ℕ → ℕ → ℕ → Lcg → Matrix → Type 0
AreDrawn seed size width i words X = X ++ clauses_by width (first_words pcg32 (4 * (size - i)) words) ≡ clauses_by width (words_of seed (4 * size))

pub drawn-none : (seed size width : ℕ) (words : Lcg) → words ≡ pcg32_of_seed (pcg32_seed 16 seed) → AreDrawn seed size width 0 words []
drawn-none seed size width words e =
    let z : size - 0 ≡ size = omega arith in
    ap (λ (n : ℕ). clauses_by width (first_words pcg32 (4 * n) words)) z
    ∙ ap (λ (g : Lcg). clauses_by width (first_words pcg32 (4 * size) g)) e

pub drawn-one : (seed size width i : ℕ) (old new : Lcg) (X Y : Matrix) (C : Clause) → i < size → AreDrawn seed size width i old X →
    ((k : ℕ) → clauses_by width (first_words pcg32 (suc (suc (suc (suc k)))) old) ≡ C ∷ clauses_by width (first_words pcg32 k new)) →
    Y ≡ X ++ C ∷ [] → AreDrawn seed size width (i + 1) new Y
drawn-one seed size width i old new X Y C h d e g =
    let n : 4 * (size - i) ≡ suc (suc (suc (suc (4 * (size - (i + 1)))))) = omega arith in
    let rest : Matrix = clauses_by width (first_words pcg32 (4 * (size - (i + 1))) new) in
    ap (λ (Z : Matrix). Z ++ rest) g
    ∙ (append_assoc X (C ∷ []) rest
    ∙ (ap (λ (Z : Matrix). X ++ Z) (sym (ap (λ (k : ℕ). clauses_by width (first_words pcg32 k old)) n ∙ e (4 * (size - (i + 1)))))
    ∙ d))

no-words : (g : Lcg) → first_words pcg32 0 g ≡ []
unfolding first_words
no-words g = refl

drawn-all : (seed size width i : ℕ) (words : Lcg) (X : Matrix) → AreDrawn seed size width i words X → size ≤ i → X ≡ clauses_by width (words_of seed (4 * size))
drawn-all seed size width i words X d h =
    let n : 4 * (size - i) ≡ 0 = omega arith in
    sym (append-nil X)
    ∙ (ap (λ (Z : Matrix). X ++ Z) (sym (ap (λ (k : ℕ). clauses_by width (first_words pcg32 k words)) n ∙ ap (clauses_by width) (no-words words)))
    ∙ d)

pub drawn-formula : (seed size width i : ℕ) (words : Lcg) (P : Prefix) (X Y : Matrix) → AreDrawn seed size width i words X → size ≤ i →
    P ≡ prefix_of width → width ≡ 1 + size / 5 → Y ≡ X → record { prefix = P; matrix = Y } ≡ Generated seed size
drawn-formula seed size width i words P X Y d h e w y = rw (e, y, drawn-all seed size width i words X d h, w) refl

pub drawn-lawful : (seed size width i : ℕ) (words : Lcg) (P : Prefix) (X : Matrix) (lits : List Literal) (ends : List ℕ) → AreDrawn seed size width i words X → size ≤ i →
    P ≡ prefix_of width → width ≡ 1 + size / 5 → size ≤ 100000 → AreEnds 0 ends (length lits) → clauses_between lits 0 ends ≡ X → AreLawful P lits ends
drawn-lawful seed size width i words P X lits ends d h e w s n c =
    proper-lawful P lits ends n (subst IsProper (sym (drawn-formula seed size width i words P X (clauses_between lits 0 ends) d h e w c)) (generated-proper seed size s))
