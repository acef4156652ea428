-- The formula that a seed and a size give. (This project's own; the words are those of the generator PCG XSH-RR with 64
-- bits of state, seeded as Rust's `seed_from_u64` does.)
use Rattle.std.specs.Prelude.{ℕ, zero, suc, ◌+◌, ◌*◌, ◌/◌, ◌%◌, nat_le, List, [], ◌∷◌, ◌++◌}
use Rattle.rand_core.specs.Pcg32Seed.{pcg32_seed}
use Rattle.rand_core.specs.Steps.{first_words}
use Rattle.rand_pcg.specs.Pcg.{pcg32, pcg32_of_seed}
use Rattle.q_logic.specs.declared.formulas.Quant.{Quant}
use Rattle.q_logic.specs.declared.formulas.Quant.TheVariants.{Exists, Forall}
use Rattle.q_logic.specs.Prelude.{Literal, Matrix, Prefix, PrenexFormula, clause_of}

-- so many words of 32 bits that the generator of this seed gives, in order
abbrev pub words_of : ℕ → ℕ → List ℕ
words_of seed count = first_words pcg32 count (pcg32_of_seed (pcg32_seed 16 seed))

-- so many variables of one quantifier, from the first on
abbrev pub block_from : Quant → ℕ → ℕ → Prefix
block_from q first zero = []
block_from q first (suc count) = record { quant = q; var = first } ∷ block_from q (first + 1) count

-- existentials, universals, and twice as many existentials
abbrev pub prefix_of : ℕ → Prefix
prefix_of width = block_from Exists 1 width ++ (block_from Forall (width + 1) width ++ block_from Exists (2 * width + 1) (2 * width))

-- the literal of a word: one of so many variables from the first on by the remainder, negative in the upper half of the words
abbrev pub literal_of : ℕ → ℕ → ℕ → Literal
literal_of first count word = record { var = first + word % count; negative = nat_le 2147483648 word }

-- the clause of four words: a literal of the first block, one of the second, two of the third
abbrev pub drawn_by : ℕ → ℕ → ℕ → ℕ → ℕ → List Literal
drawn_by width a b c d =
    literal_of 1 width a ∷ literal_of (width + 1) width b ∷ literal_of (2 * width + 1) (2 * width) c
    ∷ literal_of (2 * width + 1) (2 * width) d ∷ []

-- a clause for each four words
abbrev pub clauses_by : ℕ → List ℕ → Matrix
clauses_by width (a ∷ b ∷ c ∷ d ∷ words) = clause_of (drawn_by width a b c d) ∷ clauses_by width words
clauses_by width _ = []

-- the formula: so many clauses over blocks of a fifth of this number
abbrev pub Generated : ℕ → ℕ → PrenexFormula
Generated seed size = record {
  prefix = prefix_of (1 + size / 5);
  matrix = clauses_by (1 + size / 5) (words_of seed (4 * size));
}
