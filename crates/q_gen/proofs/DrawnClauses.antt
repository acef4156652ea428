-- The clauses of a generated formula: over its prefix, in literal order, and few.
use Rattle.std.proofs.Common.{◌≡◌, ◌≤◌, ◌<◌, ◌+◌, ◌*◌, ◌/◌, ◌%◌, ℕ, List, ◌∷◌, inl, inr, ap, arith, length}
use Rattle.std.specs.List.{AllByRecursion}
use Rattle.rand_core.specs.Pcg32Seed.{pcg32_seed}
use Rattle.rand_pcg.specs.Pcg.{pcg32, pcg32_of_seed}
use Rattle.q_logic.specs.Prelude.{Literal, IsBelow, Clause, IsIn, clause_of, ArePairs, IsProper, literals_in, standard, IsInLimits, greatest}
use Rattle.q_logic.proofs.Common.{clause_of-ordered, IsIn-clause_of, AllByRecursion-IsIn, clause_of-length}
use Rattle.q_gen.specs.Generated.{literal_of, drawn_by, clauses_by, prefix_of, words_of, Generated}
use Rattle.q_gen.proofs.GeneratedPrefix.{AreFrom, prefix-from, from-bound, from-distinct, from-ranges, from-greatest}
use Rattle.q_gen.proofs.RandomWords.{length-words}

-- what holds of each clause that may be drawn holds of all that are
all-clauses : (P : Clause → Type 0) (width : ℕ) → ((a b c d : ℕ) → P (clause_of (drawn_by width a b c d))) → (words : List ℕ) → AllByRecursion P (clauses_by width words)
all-clauses P width h (a ∷ b ∷ c ∷ d ∷ words) = (h a b c d, all-clauses P width h words)
all-clauses P width h _ = tt

rest-below : (x n : ℕ) → 0 < n → x % n < n
rest-below x n h = omega arith

-- the variable of a literal by a word
placed : (first count word from to : ℕ) (k : Literal) → 0 < count → from ≤ first → first + count ≤ to → k ≡ literal_of first count word → (from ≤ k.var) × (k.var < to)
placed first count word from to k h l m e =
    let v : k.var ≡ first + word % count = ap (λ (l : Literal). l.var) e in
    let r : word % count < count = rest-below word count h in
    (omega arith, omega arith)

drawn-within : (width a b c d : ℕ) → 0 < width → (k : Literal) → IsIn k (drawn_by width a b c d) → (1 ≤ k.var) × (k.var < 4 * width + 1)
drawn-within width a b c d w k (inl e) = placed 1 width a 1 (4 * width + 1) k w (omega arith) (omega arith) e
drawn-within width a b c d w k (inr (inl e)) = placed (width + 1) width b 1 (4 * width + 1) k w (omega arith) (omega arith) e
drawn-within width a b c d w k (inr (inr (inl e))) = placed (2 * width + 1) (2 * width) c 1 (4 * width + 1) k (omega arith) (omega arith) (omega arith) e
drawn-within width a b c d w k (inr (inr (inr (inl e)))) = placed (2 * width + 1) (2 * width) d 1 (4 * width + 1) k (omega arith) (omega arith) (omega arith) e
drawn-within width a b c d w k (inr (inr (inr (inr m)))) = elim m [ ]

abbrev Within : ℕ → Clause → Type 0
Within width C = (k : Literal) → IsIn k C → (1 ≤ k.var) × (k.var < 4 * width + 1)

clauses-within : (width : ℕ) → 0 < width → (words : List ℕ) → AllByRecursion (Within width) (clauses_by width words)
clauses-within width w words = all-clauses (Within width) width (λ a b c d k m. drawn-within width a b c d w k (IsIn-clause_of k (drawn_by width a b c d) m)) words

clauses-ordered : (width : ℕ) (words : List ℕ) → AllByRecursion (ArePairs IsBelow) (clauses_by width words)
clauses-ordered width words = all-clauses (ArePairs IsBelow) width (λ a b c d. clause_of-ordered (drawn_by width a b c d)) words

pub proper-by : (width : ℕ) → 0 < width → width ≤ 20001 → (words : List ℕ) → IsProper (record { prefix = prefix_of width; matrix = clauses_by width words })
proper-by width w s words =
    let f : AreFrom 1 (prefix_of width) (4 * width + 1) = prefix-from width in
    record {
      formula = record {
        distinct = from-distinct 1 (prefix_of width) (4 * width + 1) f;
        closed = λ D m k n.
            let r : (1 ≤ k.var) × (k.var < 4 * width + 1) = AllByRecursion-IsIn (Within width) (clauses_by width words) D (clauses-within width w words) m k n in
            from-bound 1 (prefix_of width) (4 * width + 1) k.var f r.0 r.1;
      };
      ranges = from-ranges 1 (prefix_of width) (4 * width + 1) f (omega arith) (omega arith);
      ordered = clauses-ordered width words;
    }

-- how many clauses and literals there are

few-clauses : (width : ℕ) (words : List ℕ) → length (clauses_by width words) ≤ length words
few-clauses width (a ∷ b ∷ c ∷ d ∷ words) = let i : length (clauses_by width words) ≤ length words = few-clauses width words in omega arith
few-clauses width _ = omega arith

few-literals : (width : ℕ) (words : List ℕ) → literals_in (clauses_by width words) ≤ length words
few-literals width (a ∷ b ∷ c ∷ d ∷ words) =
    let i : literals_in (clauses_by width words) ≤ length words = few-literals width words in
    let j : length (clause_of (drawn_by width a b c d)) ≤ 4 = clause_of-length (drawn_by width a b c d) in
    omega arith
few-literals width _ = omega arith

-- the formula of a seed and a size

pub width-small : (size : ℕ) → size ≤ 100000 → 1 + size / 5 ≤ 20001
width-small size h = omega arith

pub generated-proper : (seed size : ℕ) → size ≤ 100000 → IsProper (Generated seed size)
generated-proper seed size h = proper-by (1 + size / 5) (omega arith) (width-small size h) (words_of seed (4 * size))

limits-by : (width : ℕ) → width ≤ 20001 → (words : List ℕ) → length words ≤ 400000 → IsInLimits standard (record { prefix = prefix_of width; matrix = clauses_by width words })
limits-by width w words n =
    let g : greatest (prefix_of width) ≤ 4 * width + 1 = from-greatest 1 (prefix_of width) (4 * width + 1) (prefix-from width) in
    let c : length (clauses_by width words) ≤ length words = few-clauses width words in
    let l : literals_in (clauses_by width words) ≤ length words = few-literals width words in
    record { vars = omega arith; clauses = omega arith; lits = omega arith }

words-many : (seed count : ℕ) → length (words_of seed count) ≡ count
words-many seed count = length-words pcg32 count (pcg32_of_seed (pcg32_seed 16 seed))

pub generated-limits : (seed size : ℕ) → size ≤ 100000 → IsInLimits standard (Generated seed size)
generated-limits seed size h =
    let n : length (words_of seed (4 * size)) ≡ 4 * size = words-many seed (4 * size) in
    limits-by (1 + size / 5) (width-small size h) (words_of seed (4 * size)) (omega arith)
