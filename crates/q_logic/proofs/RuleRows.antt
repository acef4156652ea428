-- Each rule at small formulas, by the plain programs: whether a target applies, and its result. A prefix is written by
-- e and a, a clause by positive literals p and negative ones n.
use Rattle.std.proofs.Common.{◌≡◌, ◌≤◌, ℕ, true, false, [], ◌∷◌, refl, arith}
use Rattle.q_logic.specs.declared.formulas.Bound.{Bound}
use Rattle.q_logic.specs.declared.formulas.Quant.TheVariants.{Exists, Forall}
use Rattle.q_logic.specs.declared.rule_bounds.Bounds.{Bounds}
use Rattle.q_logic.specs.Prelude.{Literal, Prefix, formula_of, Slots, numbered, tautology, unit, cut, pure, subsumed, strengthen, merge, blocked, blocked_forall, cover, eliminate, expand_universal, measure_of, result_of}
use Rattle.q_logic.specs.UsualBounds.{usual}
use Rattle.q_logic.specs.Deciding.{fits, applicable}

abbrev e : ℕ → Bound
e v = record { quant = Exists; var = v }

abbrev a : ℕ → Bound
a v = record { quant = Forall; var = v }

abbrev p : ℕ → Literal
p v = record { var = v; negative = false }

abbrev n : ℕ → Literal
n v = record { var = v; negative = true }

abbrev at : (g k : ℕ) → g ≤ 10000 → k ≤ 10000 → Bounds
at g k i j = record { grow = g; expand = k; small_grow = i; small_expand = j }

yes_tautology : applicable usual (e 1 ∷ []) (numbered ((n 1 ∷ p 1 ∷ []) ∷ [])) (tautology 0) ≡ true
yes_tautology = refl

after_tautology : result_of (e 1 ∷ []) (numbered ((n 1 ∷ p 1 ∷ []) ∷ [])) (tautology 0) ≡ formula_of [] []
after_tautology = refl

yes_unit : applicable usual (e 1 ∷ e 2 ∷ e 3 ∷ []) (numbered ((p 1 ∷ []) ∷ (n 1 ∷ p 2 ∷ []) ∷ (p 1 ∷ p 3 ∷ []) ∷ [])) (unit 0) ≡ true
yes_unit = refl

after_unit : result_of (e 1 ∷ e 2 ∷ e 3 ∷ []) (numbered ((p 1 ∷ []) ∷ (n 1 ∷ p 2 ∷ []) ∷ (p 1 ∷ p 3 ∷ []) ∷ [])) (unit 0) ≡ formula_of (e 2 ∷ []) ((p 2 ∷ []) ∷ [])
after_unit = refl

yes_cut : applicable usual (e 1 ∷ a 2 ∷ []) (numbered ((p 1 ∷ p 2 ∷ []) ∷ [])) (cut 0 (p 2)) ≡ true
yes_cut = refl

after_cut : result_of (e 1 ∷ a 2 ∷ []) (numbered ((p 1 ∷ p 2 ∷ []) ∷ [])) (cut 0 (p 2)) ≡ formula_of (e 1 ∷ []) ((p 1 ∷ []) ∷ [])
after_cut = refl

no_cut : applicable usual (a 2 ∷ e 1 ∷ []) (numbered ((p 1 ∷ p 2 ∷ []) ∷ (n 1 ∷ n 2 ∷ []) ∷ [])) (cut 0 (p 2)) ≡ false
no_cut = refl

yes_cut_by_literals : applicable usual (a 1 ∷ e 2 ∷ e 3 ∷ []) (numbered ((p 1 ∷ p 2 ∷ []) ∷ (p 1 ∷ n 2 ∷ p 3 ∷ []) ∷ (n 1 ∷ n 3 ∷ []) ∷ [])) (cut 0 (p 1)) ≡ true
yes_cut_by_literals = refl

after_cut_by_literals : result_of (a 1 ∷ e 2 ∷ e 3 ∷ []) (numbered ((p 1 ∷ p 2 ∷ []) ∷ (p 1 ∷ n 2 ∷ p 3 ∷ []) ∷ (n 1 ∷ n 3 ∷ []) ∷ [])) (cut 0 (p 1))
    ≡ formula_of (a 1 ∷ e 2 ∷ e 3 ∷ []) ((p 2 ∷ []) ∷ (p 1 ∷ n 2 ∷ p 3 ∷ []) ∷ (n 1 ∷ n 3 ∷ []) ∷ [])
after_cut_by_literals = refl

yes_pure : applicable usual (e 1 ∷ e 2 ∷ []) (numbered ((p 1 ∷ p 2 ∷ []) ∷ (n 2 ∷ []) ∷ [])) (pure (p 1)) ≡ true
yes_pure = refl

after_pure : result_of (e 1 ∷ e 2 ∷ []) (numbered ((p 1 ∷ p 2 ∷ []) ∷ (n 2 ∷ []) ∷ [])) (pure (p 1)) ≡ formula_of (e 2 ∷ []) ((n 2 ∷ []) ∷ [])
after_pure = refl

yes_subsumed : applicable usual (e 1 ∷ e 2 ∷ []) (numbered ((p 1 ∷ []) ∷ (p 1 ∷ p 2 ∷ []) ∷ [])) (subsumed 0 1) ≡ true
yes_subsumed = refl

after_subsumed : result_of (e 1 ∷ e 2 ∷ []) (numbered ((p 1 ∷ []) ∷ (p 1 ∷ p 2 ∷ []) ∷ [])) (subsumed 0 1) ≡ formula_of (e 1 ∷ []) ((p 1 ∷ []) ∷ [])
after_subsumed = refl

yes_strengthen : applicable usual (e 1 ∷ e 2 ∷ e 3 ∷ []) (numbered ((p 1 ∷ p 2 ∷ []) ∷ (n 1 ∷ p 2 ∷ p 3 ∷ []) ∷ [])) (strengthen 0 1 (n 1)) ≡ true
yes_strengthen = refl

after_strengthen : result_of (e 1 ∷ e 2 ∷ e 3 ∷ []) (numbered ((p 1 ∷ p 2 ∷ []) ∷ (n 1 ∷ p 2 ∷ p 3 ∷ []) ∷ [])) (strengthen 0 1 (n 1)) ≡ formula_of (e 1 ∷ e 2 ∷ e 3 ∷ []) ((p 2 ∷ p 3 ∷ []) ∷ (p 1 ∷ p 2 ∷ []) ∷ [])
after_strengthen = refl

abbrev merging : Slots
merging = numbered ((n 1 ∷ p 2 ∷ []) ∷ (n 2 ∷ p 3 ∷ []) ∷ (p 1 ∷ n 3 ∷ []) ∷ (p 2 ∷ p 3 ∷ []) ∷ [])

yes_merge : applicable usual (a 1 ∷ e 2 ∷ e 3 ∷ []) merging (merge (p 1) (p 2)) ≡ true
yes_merge = refl

after_merge : result_of (a 1 ∷ e 2 ∷ e 3 ∷ []) merging (merge (p 1) (p 2)) ≡ formula_of (a 1 ∷ e 3 ∷ []) ((n 1 ∷ p 3 ∷ []) ∷ (p 1 ∷ n 3 ∷ []) ∷ (p 1 ∷ p 3 ∷ []) ∷ [])
after_merge = refl

no_merge : applicable usual (a 1 ∷ e 2 ∷ e 3 ∷ []) merging (merge (p 2) (p 1)) ≡ false
no_merge = refl

yes_blocked : applicable usual (a 1 ∷ e 2 ∷ []) (numbered ((p 1 ∷ p 2 ∷ []) ∷ (n 1 ∷ n 2 ∷ []) ∷ [])) (blocked 0 (p 2)) ≡ true
yes_blocked = refl

after_blocked : result_of (a 1 ∷ e 2 ∷ []) (numbered ((p 1 ∷ p 2 ∷ []) ∷ (n 1 ∷ n 2 ∷ []) ∷ [])) (blocked 0 (p 2)) ≡ formula_of (a 1 ∷ e 2 ∷ []) ((n 1 ∷ n 2 ∷ []) ∷ [])
after_blocked = refl

no_blocked : applicable usual (e 2 ∷ a 1 ∷ []) (numbered ((p 1 ∷ p 2 ∷ []) ∷ (n 1 ∷ n 2 ∷ []) ∷ [])) (blocked 0 (p 2)) ≡ false
no_blocked = refl

yes_forall : applicable usual (e 1 ∷ a 2 ∷ e 3 ∷ []) (numbered ((p 1 ∷ p 2 ∷ p 3 ∷ []) ∷ (n 1 ∷ n 2 ∷ p 3 ∷ []) ∷ [])) (blocked_forall 0 (p 2)) ≡ true
yes_forall = refl

after_forall : result_of (e 1 ∷ a 2 ∷ e 3 ∷ []) (numbered ((p 1 ∷ p 2 ∷ p 3 ∷ []) ∷ (n 1 ∷ n 2 ∷ p 3 ∷ []) ∷ [])) (blocked_forall 0 (p 2)) ≡ formula_of (e 1 ∷ a 2 ∷ e 3 ∷ []) ((p 1 ∷ p 3 ∷ []) ∷ (n 1 ∷ n 2 ∷ p 3 ∷ []) ∷ [])
after_forall = refl

yes_cover : applicable usual (e 1 ∷ e 2 ∷ e 3 ∷ e 4 ∷ []) (numbered ((p 1 ∷ p 2 ∷ []) ∷ (p 1 ∷ n 3 ∷ []) ∷ (p 2 ∷ p 3 ∷ []) ∷ (n 1 ∷ p 4 ∷ []) ∷ (n 2 ∷ p 4 ∷ []) ∷ [])) (cover 0) ≡ true
yes_cover = refl

after_cover : result_of (e 1 ∷ e 2 ∷ e 3 ∷ e 4 ∷ []) (numbered ((p 1 ∷ p 2 ∷ []) ∷ (p 1 ∷ n 3 ∷ []) ∷ (p 2 ∷ p 3 ∷ []) ∷ (n 1 ∷ p 4 ∷ []) ∷ (n 2 ∷ p 4 ∷ []) ∷ [])) (cover 0)
    ≡ formula_of (e 1 ∷ e 2 ∷ e 3 ∷ e 4 ∷ []) ((p 1 ∷ n 3 ∷ []) ∷ (p 2 ∷ p 3 ∷ []) ∷ (n 1 ∷ p 4 ∷ []) ∷ (n 2 ∷ p 4 ∷ []) ∷ [])
after_cover = refl

no_cover : applicable usual (e 1 ∷ []) (numbered ((p 1 ∷ []) ∷ (n 1 ∷ []) ∷ [])) (cover 0) ≡ false
no_cover = refl

yes_eliminate : applicable usual (e 1 ∷ a 2 ∷ e 3 ∷ []) (numbered ((p 1 ∷ p 3 ∷ []) ∷ (p 2 ∷ n 3 ∷ []) ∷ [])) (eliminate 3) ≡ true
yes_eliminate = refl

after_eliminate : result_of (e 1 ∷ a 2 ∷ e 3 ∷ []) (numbered ((p 1 ∷ p 3 ∷ []) ∷ (p 2 ∷ n 3 ∷ []) ∷ [])) (eliminate 3) ≡ formula_of (e 1 ∷ a 2 ∷ []) ((p 1 ∷ p 2 ∷ []) ∷ [])
after_eliminate = refl

no_eliminate : applicable usual (e 1 ∷ a 2 ∷ e 3 ∷ []) (numbered ((p 1 ∷ p 2 ∷ []) ∷ (n 1 ∷ p 3 ∷ []) ∷ [])) (eliminate 1) ≡ false
no_eliminate = refl

abbrev six : Slots
six = numbered ((p 1 ∷ p 2 ∷ []) ∷ (p 1 ∷ p 3 ∷ []) ∷ (p 1 ∷ p 4 ∷ []) ∷ (n 1 ∷ p 5 ∷ []) ∷ (n 1 ∷ p 6 ∷ []) ∷ (n 1 ∷ p 7 ∷ []) ∷ [])

abbrev seven : Prefix
seven = e 1 ∷ e 2 ∷ e 3 ∷ e 4 ∷ e 5 ∷ e 6 ∷ e 7 ∷ []

no_grow : applicable (at 8 16 (omega arith) (omega arith)) seven six (eliminate 1) ≡ false
no_grow = refl

yes_grow : applicable (at 9 16 (omega arith) (omega arith)) seven six (eliminate 1) ≡ true
yes_grow = refl

after_grow : result_of seven six (eliminate 1) ≡ formula_of (e 2 ∷ e 3 ∷ e 4 ∷ e 5 ∷ e 6 ∷ e 7 ∷ [])
    ((p 2 ∷ p 5 ∷ []) ∷ (p 2 ∷ p 6 ∷ []) ∷ (p 2 ∷ p 7 ∷ []) ∷ (p 3 ∷ p 5 ∷ []) ∷ (p 3 ∷ p 6 ∷ []) ∷ (p 3 ∷ p 7 ∷ []) ∷ (p 4 ∷ p 5 ∷ []) ∷ (p 4 ∷ p 6 ∷ []) ∷ (p 4 ∷ p 7 ∷ []) ∷ [])
after_grow = refl

no_expand : applicable (at 0 0 (omega arith) (omega arith)) (a 1 ∷ e 2 ∷ []) (numbered ((p 1 ∷ p 2 ∷ []) ∷ (n 1 ∷ p 2 ∷ []) ∷ [])) (expand_universal 1) ≡ false
no_expand = refl

yes_expand : applicable (at 0 1 (omega arith) (omega arith)) (a 1 ∷ e 2 ∷ []) (numbered ((p 1 ∷ p 2 ∷ []) ∷ (n 1 ∷ p 2 ∷ []) ∷ [])) (expand_universal 1) ≡ true
yes_expand = refl

after_expand : result_of (a 1 ∷ e 2 ∷ []) (numbered ((p 1 ∷ p 2 ∷ []) ∷ (n 1 ∷ p 2 ∷ []) ∷ [])) (expand_universal 1) ≡ formula_of (e 2 ∷ e 3 ∷ []) ((p 2 ∷ []) ∷ (p 3 ∷ []) ∷ [])
after_expand = refl

measure_a : measure_of usual (formula_of (a 1 ∷ e 2 ∷ []) ((p 1 ∷ p 2 ∷ []) ∷ (n 1 ∷ n 2 ∷ []) ∷ [])) ≡ 40
measure_a = refl

-- Two copies of a clause: one subsumes the other.
yes_subsumed_copy : applicable usual (e 1 ∷ e 2 ∷ []) (numbered ((p 1 ∷ p 2 ∷ []) ∷ (p 1 ∷ p 2 ∷ []) ∷ [])) (subsumed 0 1) ≡ true
yes_subsumed_copy = refl

after_subsumed_copy : result_of (e 1 ∷ e 2 ∷ []) (numbered ((p 1 ∷ p 2 ∷ []) ∷ (p 1 ∷ p 2 ∷ []) ∷ [])) (subsumed 0 1) ≡ formula_of (e 1 ∷ e 2 ∷ []) ((p 1 ∷ p 2 ∷ []) ∷ [])
after_subsumed_copy = refl

-- A merge that makes tautologies, and two literals equal.
yes_merge_tautologies : applicable usual (e 1 ∷ e 2 ∷ []) (numbered ((p 1 ∷ n 2 ∷ []) ∷ (n 1 ∷ p 2 ∷ []) ∷ (p 1 ∷ p 2 ∷ []) ∷ [])) (merge (p 1) (p 2)) ≡ true
yes_merge_tautologies = refl

after_merge_tautologies : result_of (e 1 ∷ e 2 ∷ []) (numbered ((p 1 ∷ n 2 ∷ []) ∷ (n 1 ∷ p 2 ∷ []) ∷ (p 1 ∷ p 2 ∷ []) ∷ [])) (merge (p 1) (p 2)) ≡ formula_of (e 1 ∷ []) ((p 1 ∷ []) ∷ [])
after_merge_tautologies = refl

-- The limits of the result: the copy of the greatest variable would pass the limit on variables.
yes_within : applicable (at 0 1 (omega arith) (omega arith)) (a 1 ∷ e 16777214 ∷ []) (numbered ((p 1 ∷ p 16777214 ∷ []) ∷ (n 1 ∷ p 16777214 ∷ []) ∷ [])) (expand_universal 1) ≡ true
yes_within = refl

after_within : result_of (a 1 ∷ e 16777214 ∷ []) (numbered ((p 1 ∷ p 16777214 ∷ []) ∷ (n 1 ∷ p 16777214 ∷ []) ∷ [])) (expand_universal 1) ≡ formula_of (e 16777214 ∷ e 16777215 ∷ []) ((p 16777214 ∷ []) ∷ (p 16777215 ∷ []) ∷ [])
after_within = refl

no_within : applicable (at 0 1 (omega arith) (omega arith)) (a 1 ∷ e 16777215 ∷ []) (numbered ((p 1 ∷ p 16777215 ∷ []) ∷ (n 1 ∷ p 16777215 ∷ []) ∷ [])) (expand_universal 1) ≡ false
no_within = refl

fits_within : fits (at 0 1 (omega arith) (omega arith)) (a 1 ∷ e 16777215 ∷ []) (numbered ((p 1 ∷ p 16777215 ∷ []) ∷ (n 1 ∷ p 16777215 ∷ []) ∷ [])) (expand_universal 1) ≡ true
fits_within = refl
