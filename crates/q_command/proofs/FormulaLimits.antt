-- A formula that is read keeps the limits.
use Rattle.std.proofs.Common.{◌≡◌, ◌≤◌, ◌+◌, ◌==◌, nat_lt, ℕ, zero, suc, Bool, true, false, if◌then◌else◌, List, [], ◌∷◌, ◌++◌, sym, subst, arith, length, map}
use Rattle.std.specs.List.{AllByRecursion}
use Rattle.q_logic.specs.declared.limits.Limits.{Limits}
use Rattle.q_logic.specs.declared.formulas.Quant.TheVariants.{Exists}
use Rattle.q_logic.specs.Prelude.{Literal, pack, Clause, Matrix, Prefix, PrenexFormula, insert, clause_of, literals_in, IsInLimits, greatest}
use Rattle.q_logic.proofs.Common.{clause_of-length}
use Rattle.q_dimacs.specs.Dimacs.{Dimacs, IsVar, total, sets_bounds, text_formula}
use Rattle.q_dimacs.specs.Building as building
use Rattle.q_dimacs.specs.Building.{bounds_from, is_free, greatest_in}
use Rattle.q_dimacs.proofs.GrammarIsRead.{length-map-clause}

insert-greatest : (l : Literal) (C : Clause) (k : ℕ) → l.var ≤ k → greatest_in C ≤ k → greatest_in (insert l C) ≤ k
insert-greatest l [] k a b = omega arith
insert-greatest l (j ∷ C) k a b = go (nat_lt (pack l) (pack j)) (pack l == pack j) (insert-greatest l C k a (omega arith))
  where
    go : (s t : Bool) → greatest_in (insert l C) ≤ k → greatest_in (if s then l ∷ j ∷ C else (if t then j ∷ C else j ∷ insert l C)) ≤ k
    go true t ih = omega arith
    go false true ih = omega arith
    go false false ih = omega arith

clause-greatest : (v : ℕ) (ls : List Literal) → AllByRecursion (λ l. IsVar v l.var) ls → greatest_in (clause_of ls) ≤ v
clause-greatest v [] h = omega arith
clause-greatest v (l ∷ ls) h = insert-greatest l (clause_of ls) v h.0.1 (clause-greatest v ls h.1)

matrix-greatest : (v : ℕ) (cs : List (List Literal)) → AllByRecursion (λ c. AllByRecursion (λ l. IsVar v l.var) c) cs → building.greatest (map clause_of cs) ≤ v
matrix-greatest v [] h = omega arith
matrix-greatest v (c ∷ cs) h = let i : building.greatest (map clause_of cs) ≤ v = matrix-greatest v cs h.1 in let j : greatest_in (clause_of c) ≤ v = clause-greatest v c h.0 in omega arith

matrix-literals : (cs : List (List Literal)) → literals_in (map clause_of cs) ≤ total cs
matrix-literals [] = omega arith
matrix-literals (c ∷ cs) = let i : literals_in (map clause_of cs) ≤ total cs = matrix-literals cs in let j : length (clause_of c) ≤ length c = clause_of-length c in omega arith

free-greatest : (t : ℕ → Bool) (v n k : ℕ) → v + n ≤ suc k → greatest (bounds_from t v n) ≤ k
free-greatest t v zero k h = omega arith
free-greatest t v (suc n) k h = go (t v) (free-greatest t (v + 1) n k (omega arith))
  where
    go : (b : Bool) → greatest (bounds_from t (v + 1) n) ≤ k → greatest (if b then record { quant = Exists; var = v } ∷ bounds_from t (v + 1) n else bounds_from t (v + 1) n) ≤ k
    go true ih = omega arith
    go false ih = ih

sets-greatest : (v : ℕ) (P : Prefix) → AllByRecursion (λ q. IsVar v q.var) P → greatest P ≤ v
sets-greatest v [] h = omega arith
sets-greatest v (b ∷ P) h = let i : greatest P ≤ v = sets-greatest v P h.1 in let j : b.var ≤ v = h.0.1 in omega arith

append-greatest : (v : ℕ) (P Q : Prefix) → greatest P ≤ v → greatest Q ≤ v → greatest (P ++ Q) ≤ v
append-greatest v [] Q p q = q
append-greatest v (b ∷ P) Q p q = let i : greatest (P ++ Q) ≤ v = append-greatest v P Q (omega arith) q in omega arith

pub dimacs-limits : (m : Limits) (bytes : List ℕ) (F : PrenexFormula) → Dimacs m bytes F → IsInLimits m F
dimacs-limits m bytes F d =
    let x : Matrix = map clause_of d.text.clauses in
    let p : Prefix = sets_bounds d.text.sets in
    let g : building.greatest x ≤ d.text.vars = matrix-greatest d.text.vars d.text.clauses d.lawful.lits in
    let a : greatest (bounds_from (is_free p x) 1 (building.greatest x)) ≤ d.text.vars = free-greatest (is_free p x) 1 (building.greatest x) d.text.vars (omega arith) in
    let b : greatest p ≤ d.text.vars = sets-greatest d.text.vars p d.lawful.bounds in
    let vars : greatest (bounds_from (is_free p x) 1 (building.greatest x) ++ p) ≤ d.text.vars = append-greatest d.text.vars (bounds_from (is_free p x) 1 (building.greatest x)) p a b in
    let v : d.text.vars ≤ m.vars = d.lawful.vars in
    let c : length x ≡ length d.text.clauses = length-map-clause d.text.clauses in
    let n : length d.text.clauses ≡ d.text.count = d.lawful.clauses in
    let k : d.text.count ≤ m.clauses = d.lawful.count in
    let l : literals_in x ≤ total d.text.clauses = matrix-literals d.text.clauses in
    let t : total d.text.clauses ≤ m.lits = d.lawful.few in
    let all : IsInLimits m (text_formula d.text) = record { vars = omega arith; clauses = omega arith; lits = omega arith } in
    subst (λ (G : PrenexFormula). IsInLimits m G) (sym d.formula) all
