-- Pairs of clauses that are known to have nothing in common.
use Rattle.std.specs.Prelude.{◌≡◌, ℕ, Some}
use Rattle.q_logic.specs.Prelude.{Literal, negation, pack, Clause, Prefix, IsIn, Slots, slot}
use Rattle.q_kernel.specs.Prelude.{Seen, slots}
use Rattle.q_pages.specs.Rows.{item_at}
use Rattle.q_blocked.specs.declared.apart.Apart.{Apart}
use Rattle.q_blocked.specs.declared.pairs.Pair.{Pair}
use Rattle.q_blocked.specs.Walks.{IsParted}

-- the clauses of two ids hold not l, and have nothing in common in the outer part of the first one on it
abbrev pub IsApart : Prefix → Slots → Literal → ℕ → ℕ → Type 0
IsApart P N l d e = (C : Clause) × (D : Clause) × (slot N d ≡ Some C) × (slot N e ≡ Some D) × IsIn (negation l) C × IsIn (negation l) D × IsParted P (negation l) C D

-- those of each literal that is noted
abbrev pub AreApart : Seen → Apart → Type 0
AreApart k a = (l : Literal) → IsIn l a.noted → (λ (p : Pair). IsApart k.prefix (slots k) l p.first p.second) (item_at a.pairs (pack l))
