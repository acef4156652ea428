-- Rows of literals, as a graph grows.
use Rattle.std.proofs.Common.{◌≡◌, ◌⊎◌, ℕ, Bool, true, false, cond, eqb, List, [], length, inl, inr, refl, sym, ap, ◌∙◌, subst, Option, Some, None}
use Rattle.q_logic.specs.Prelude.{Literal, Circuit, inverter, input, Operand, IsThere, operand_tree, gate_trees, Strategy, circuit_of, or_input, given, literal_circuit}
use Rattle.q_aig.specs.Prelude.{Net, IsLiteral, tree_at, operand_of, turned, Keeps, Serves}
use Rattle.q_aig.proofs.Substitutes.{serves-same, serves-then, serves-inverter, turned-serves, turned-there}
use Rattle.q_certificate.specs.Covered.{IsCovered}
use Rattle.q_certificate.specs.Standing.{look_at, AreLiterals, plain_of, literal_operand, Stands, InputsAt, IsAt}

pub literals-kept : (a b : Net) (row : List (Option ℕ)) → Keeps a b → AreLiterals a row → AreLiterals b row
literals-kept a b row k h x l e = (k l (h x l e)).0

pub inputs-kept : (a b : Net) (ins : List (Option ℕ)) (U : ℕ → Bool) → Keeps a b → AreLiterals a ins → InputsAt a ins U → InputsAt b ins U
inputs-kept a b ins U k li h u e = let r = h u e in (r.0, r.1, (k r.0 (li u r.0 r.1)).1 ∙ r.2)

stands-kept : (a b : Net) (o : Option Circuit) (m : Option ℕ) → Keeps a b → ((l : ℕ) → m ≡ Some l → IsLiteral a l) → Stands a o m → Stands b o m
stands-kept a b None None k li h = tt
stands-kept a b None (Some l) k li h = absurd h
stands-kept a b (Some t) None k li h = absurd h
stands-kept a b (Some t) (Some l) k li h = serves-then _ _ _ (serves-same _ _ (k l (li l refl)).1) h

pub at-kept : (a b : Net) (ins tb : List (Option ℕ)) (U : ℕ → Bool) (c : Strategy) → Keeps a b → AreLiterals a ins → AreLiterals a tb → IsAt a ins tb U c → IsAt b ins tb U c
at-kept a b ins tb U c k li lt h = record {
  inputs = inputs-kept a b ins U k li h.inputs;
  circuits = λ x. stands-kept a b (c x) (look_at tb x) k (lt x) (h.circuits x);
}

plain-there : (a : Net) (m n : Option ℕ) → ((l : ℕ) → m ≡ Some l → IsLiteral a l) → ((l : ℕ) → n ≡ Some l → IsLiteral a l) → IsLiteral a (plain_of m n)
plain-there a (Some l) n hm hn = hm l refl
plain-there a None (Some l) hm hn = hn l refl
plain-there a None None hm hn = tt

pub operand-there : (a : Net) (p r : ℕ) (b : Bool) → operand_of r ≡ cond b (turned (operand_of p)) (operand_of p) → IsLiteral a p → IsLiteral a r
operand-there a p r true e h = turned-there a p r e h
operand-there a p r false e h = subst (λ (o : Operand). IsThere (length a.inputs) (length a.gates) o.node) (sym e) h

pub literal-there : (a : Net) (ins tb : List (Option ℕ)) (k : Literal) (r : ℕ) → operand_of r ≡ literal_operand ins tb k → AreLiterals a ins → AreLiterals a tb → IsLiteral a r
literal-there a ins tb k r e li lt = operand-there a (plain_of (look_at tb k.var) (look_at ins k.var)) r k.negative e (plain-there a (look_at tb k.var) (look_at ins k.var) (lt k.var) (li k.var))

same-tree : (a : Net) (p r : ℕ) → operand_of r ≡ operand_of p → tree_at a r ≡ tree_at a p
same-tree a p r e = ap (operand_tree a.inputs (gate_trees a.inputs [] a.gates)) e

pub operand-serves : (a : Net) (p r : ℕ) (b : Bool) (t : Circuit) → operand_of r ≡ cond b (turned (operand_of p)) (operand_of p) → Serves (tree_at a p) t → Serves (tree_at a r) (cond b (inverter t) t)
operand-serves a p r true t e h = serves-then _ _ _ (turned-serves a p r e) (serves-inverter _ _ h)
operand-serves a p r false t e h = serves-then _ _ _ (serves-same _ _ (same-tree a p r e)) h

plain-serves : (a : Net) (U : ℕ → Bool) (x : ℕ) (o : Option Circuit) (m n : Option ℕ) → Stands a o m → ((given o ≡ true) ⊎ (U x ≡ true)) → (U x ≡ true → (l : ℕ) × (n ≡ Some l) × (tree_at a l ≡ input x)) → Serves (tree_at a (plain_of m n)) (or_input x o)
plain-serves a U x (Some t) (Some l) n s v i = s
plain-serves a U x (Some t) None n s v i = absurd s
plain-serves a U x None (Some l) n s v i = absurd s
plain-serves a U x None None n s v i = elim v [
  | inl g ↦ absurd (cc)
  | inr h ↦
      let r = i h in
      subst (λ (q : Option ℕ). Serves (tree_at a (plain_of None q)) (input x)) (sym r.1) (serves-same _ _ r.2)
]

pub literal-serves : (a : Net) (ins tb : List (Option ℕ)) (U : ℕ → Bool) (c : Strategy) (k : Literal) (r : ℕ) → operand_of r ≡ literal_operand ins tb k → IsAt a ins tb U c → IsCovered U c k → Serves (tree_at a r) (literal_circuit c k)
literal-serves a ins tb U c k r e h v =
    operand-serves a (plain_of (look_at tb k.var) (look_at ins k.var)) r k.negative (circuit_of c k.var) e (plain-serves a U k.var (c k.var) (look_at tb k.var) (look_at ins k.var) (h.circuits k.var) v (h.inputs k.var))

-- another literal, or none, at one variable
pub stands-put : (a : Net) (ins tb tb2 : List (Option ℕ)) (U : ℕ → Bool) (c c2 : Strategy) (v : ℕ) (m : Option ℕ) → ((x : ℕ) → look_at tb2 x ≡ cond (eqb x v) m (look_at tb x)) → ((x : ℕ) → eqb x v ≡ false → c2 x ≡ c x) → ((x : ℕ) → eqb x v ≡ true → Stands a (c2 x) m) → IsAt a ins tb U c → IsAt a ins tb2 U c2
stands-put a ins tb tb2 U c c2 v m put other here h = record {
  inputs = h.inputs;
  circuits = λ x. go x (eqb x v) refl;
}
  where
    go : (x : ℕ) (b : Bool) → eqb x v ≡ b → Stands a (c2 x) (look_at tb2 x)
    go x true e = subst (Stands a (c2 x)) (sym (put x ∙ ap (λ (b : Bool). cond b m (look_at tb x)) e)) (here x e)
    go x false e = subst (Stands a (c2 x)) (sym (put x ∙ ap (λ (b : Bool). cond b m (look_at tb x)) e)) (subst (λ (o : Option Circuit). Stands a o (look_at tb x)) (sym (other x e)) (h.circuits x))

pub literals-put : (a : Net) (tb tb2 : List (Option ℕ)) (v : ℕ) (m : Option ℕ) → ((x : ℕ) → look_at tb2 x ≡ cond (eqb x v) m (look_at tb x)) → ((l : ℕ) → m ≡ Some l → IsLiteral a l) → AreLiterals a tb → AreLiterals a tb2
literals-put a tb tb2 v m put hm h x l e = go (eqb x v) refl
  where
    go : (b : Bool) → eqb x v ≡ b → IsLiteral a l
    go true q = hm l (sym (put x ∙ ap (λ (b : Bool). cond b m (look_at tb x)) q) ∙ e)
    go false q = h x l (sym (put x ∙ ap (λ (b : Bool). cond b m (look_at tb x)) q) ∙ e)
