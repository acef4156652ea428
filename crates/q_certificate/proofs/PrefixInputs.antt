-- Inputs and names for a prefix, one variable further.
use Rattle.std.proofs.Common.{◌≡◌, ◌⊎◌, ℕ, zero, suc, ◌<◌, Bool, true, false, not, cond, eqb, List, [], ◌∷◌, ◌++◌, length, get_or, take, inl, inr, arith, refl, sym, ap, ◌∙◌, subst, Option, Some, None}
use Rattle.std.specs.Option.{unwrap_or}
use Rattle.std.proofs.lemmas.Bool.{both_ways}
use Rattle.q_logic.specs.declared.formulas.Quant.{Quant}
use Rattle.q_logic.specs.declared.formulas.Quant.TheVariants.{Exists, Forall}
use Rattle.q_logic.specs.declared.formulas.Bound.{Bound}
use Rattle.q_logic.specs.Prelude.{Prefix, is_exists, is_universal, is_bound, Distinct, input, NamedOutput, CertificateView}
use Rattle.q_logic.proofs.Common.{distinct-at}
use Rattle.q_aig.specs.Prelude.{Net, IsLiteral, tree_at, operand_of, IsNew, Keeps, net_of, IsNewName}
use Rattle.q_certificate.specs.Standing.{look_at, AreLiterals}
use Rattle.q_certificate.specs.Copied.{or_zero}
use Rattle.q_certificate.specs.Made.{universals, outputs_for, IsOpened, IsNamed}
use Rattle.q_certificate.proofs.LiteralRows.{literals-kept, inputs-kept, literals-put}
use Rattle.q_certificate.proofs.CircuitCopies.{or-zero-there}

bound-other : (b : Bound) (Q : Prefix) (v : ℕ) → is_bound (b ∷ Q) v ≡ false → (eqb b.var v ≡ false) × (is_bound Q v ≡ false)
bound-other b Q v h = go (eqb b.var v) refl h
  where
    go : (t : Bool) → eqb b.var v ≡ t → cond t true (is_bound Q v) ≡ false → (eqb b.var v ≡ false) × (is_bound Q v ≡ false)
    go true e h = absurd (cc)
    go false e h = (e, h)

pub universals-new : (Q : Prefix) (v : ℕ) → is_bound Q v ≡ false → IsNew (universals Q) v
universals-new [] v h = λ i lt. absurd (omega arith)
universals-new (b ∷ Q) v h = go (is_exists b.quant) (universals-new Q v (bound-other b Q v h).1)
  where
    go : (t : Bool) → IsNew (universals Q) v → IsNew (cond t (universals Q) (b.var ∷ universals Q)) v
    go true n = n
    go false n = at
      where
        at : IsNew (b.var ∷ universals Q) v
        at zero lt e = let q : eqb b.var v ≡ false = (bound-other b Q v h).0 in absurd (let f : b.var ≡ v = e in grind arith)
        at (suc i) lt e = n i (omega arith) e

pub names-new : (tb : List (Option ℕ)) (Q : Prefix) (v : ℕ) → is_bound Q v ≡ false → IsNewName (outputs_for tb Q) v
names-new tb [] v h = λ i lt. absurd (omega arith)
names-new tb (b ∷ Q) v h = go (is_exists b.quant) (names-new tb Q v (bound-other b Q v h).1)
  where
    go : (t : Bool) → IsNewName (outputs_for tb Q) v → IsNewName (cond t (record { name = b.var; operand = operand_of (or_zero (look_at tb b.var)) } ∷ outputs_for tb Q) (outputs_for tb Q)) v
    go false n = n
    go true n = at
      where
        at : IsNewName (record { name = b.var; operand = operand_of (or_zero (look_at tb b.var)) } ∷ outputs_for tb Q) v
        at zero lt e = let q : eqb b.var v ≡ false = (bound-other b Q v h).0 in absurd (let f : b.var ≡ v = e in grind arith)
        at (suc i) lt e = n i (omega arith) e

universals-forall : (Q : Prefix) (b : Bound) → b.quant ≡ Forall → universals (Q ++ b ∷ []) ≡ universals Q ++ b.var ∷ []
universals-forall [] b e = ap (λ (q : Quant). cond (is_exists q) [] (b.var ∷ [])) e
universals-forall (a ∷ Q) b e = go (is_exists a.quant) (universals-forall Q b e)
  where
    go : (t : Bool) → universals (Q ++ b ∷ []) ≡ universals Q ++ b.var ∷ [] → cond t (universals (Q ++ b ∷ [])) (a.var ∷ universals (Q ++ b ∷ [])) ≡ cond t (universals Q) (a.var ∷ universals Q) ++ b.var ∷ []
    go true h = h
    go false h = ap (λ (xs : List ℕ). a.var ∷ xs) h

universals-exists : (Q : Prefix) (b : Bound) → b.quant ≡ Exists → universals (Q ++ b ∷ []) ≡ universals Q
universals-exists [] b e = ap (λ (q : Quant). cond (is_exists q) [] (b.var ∷ [])) e
universals-exists (a ∷ Q) b e = go (is_exists a.quant) (universals-exists Q b e)
  where
    go : (t : Bool) → universals (Q ++ b ∷ []) ≡ universals Q → cond t (universals (Q ++ b ∷ [])) (a.var ∷ universals (Q ++ b ∷ [])) ≡ cond t (universals Q) (a.var ∷ universals Q)
    go true h = h
    go false h = ap (λ (xs : List ℕ). a.var ∷ xs) h

outputs-exists : (tb : List (Option ℕ)) (Q : Prefix) (b : Bound) → b.quant ≡ Exists → outputs_for tb (Q ++ b ∷ []) ≡ outputs_for tb Q ++ record { name = b.var; operand = operand_of (or_zero (look_at tb b.var)) } ∷ []
outputs-exists tb [] b e = ap (λ (q : Quant). cond (is_exists q) (record { name = b.var; operand = operand_of (or_zero (look_at tb b.var)) } ∷ []) []) e
outputs-exists tb (a ∷ Q) b e = go (is_exists a.quant) (outputs-exists tb Q b e)
  where
    go : (t : Bool) → outputs_for tb (Q ++ b ∷ []) ≡ outputs_for tb Q ++ record { name = b.var; operand = operand_of (or_zero (look_at tb b.var)) } ∷ [] →
        cond t (record { name = a.var; operand = operand_of (or_zero (look_at tb a.var)) } ∷ outputs_for tb (Q ++ b ∷ [])) (outputs_for tb (Q ++ b ∷ [])) ≡ cond t (record { name = a.var; operand = operand_of (or_zero (look_at tb a.var)) } ∷ outputs_for tb Q) (outputs_for tb Q) ++ record { name = b.var; operand = operand_of (or_zero (look_at tb b.var)) } ∷ []
    go false h = h
    go true h = ap (λ (xs : List NamedOutput). record { name = a.var; operand = operand_of (or_zero (look_at tb a.var)) } ∷ xs) h

outputs-forall : (tb : List (Option ℕ)) (Q : Prefix) (b : Bound) → b.quant ≡ Forall → outputs_for tb (Q ++ b ∷ []) ≡ outputs_for tb Q
outputs-forall tb [] b e = ap (λ (q : Quant). cond (is_exists q) (record { name = b.var; operand = operand_of (or_zero (look_at tb b.var)) } ∷ []) []) e
outputs-forall tb (a ∷ Q) b e = go (is_exists a.quant) (outputs-forall tb Q b e)
  where
    go : (t : Bool) → outputs_for tb (Q ++ b ∷ []) ≡ outputs_for tb Q →
        cond t (record { name = a.var; operand = operand_of (or_zero (look_at tb a.var)) } ∷ outputs_for tb (Q ++ b ∷ [])) (outputs_for tb (Q ++ b ∷ [])) ≡ cond t (record { name = a.var; operand = operand_of (or_zero (look_at tb a.var)) } ∷ outputs_for tb Q) (outputs_for tb Q)
    go false h = h
    go true h = ap (λ (xs : List NamedOutput). record { name = a.var; operand = operand_of (or_zero (look_at tb a.var)) } ∷ xs) h

is_universal-last : (Q : Prefix) (b : Bound) (u : ℕ) → is_universal (Q ++ b ∷ []) u ≡ true → (is_universal Q u ≡ true) ⊎ ((u ≡ b.var) × (is_exists b.quant ≡ false))
is_universal-last [] b u h = go (eqb b.var u) refl (is_exists b.quant) refl h
  where
    go : (t : Bool) → eqb b.var u ≡ t → (x : Bool) → is_exists b.quant ≡ x → cond t (not x) false ≡ true → (false ≡ true) ⊎ ((u ≡ b.var) × (is_exists b.quant ≡ false))
    go true e true f h = inl h
    go true e false f h = inr (grind arith, f)
    go false e x f h = inl h
is_universal-last (a ∷ Q) b u h = go (eqb a.var u) h (is_universal-last Q b u)
  where
    go : (t : Bool) → cond t (not (is_exists a.quant)) (is_universal (Q ++ b ∷ []) u) ≡ true → (is_universal (Q ++ b ∷ []) u ≡ true → (is_universal Q u ≡ true) ⊎ ((u ≡ b.var) × (is_exists b.quant ≡ false))) → (cond t (not (is_exists a.quant)) (is_universal Q u) ≡ true) ⊎ ((u ≡ b.var) × (is_exists b.quant ≡ false))
    go true h f = inl h
    go false h f = f h

pub opened-exists : (a : Net) (ins : List (Option ℕ)) (Q : Prefix) (b : Bound) → b.quant ≡ Exists → IsOpened a ins Q → IsOpened a ins (Q ++ b ∷ [])
opened-exists a ins Q b e o = record {
  inputs = o.inputs ∙ sym (universals-exists Q b e);
  gates = o.gates;
  literals = o.literals;
  at = λ u h. elim (is_universal-last Q b u h) [
    | inl g ↦ o.at u g
    | inr g ↦ absurd (both_ways (is_exists b.quant) g.1 (ap is_exists e))
  ];
}

pub opened-forall : (a new : Net) (ins ins2 : List (Option ℕ)) (Q : Prefix) (b : Bound) (l : ℕ) → b.quant ≡ Forall → IsOpened a ins Q → new.inputs ≡ a.inputs ++ b.var ∷ [] → new.gates ≡ a.gates → Keeps a new → IsLiteral new l → tree_at new l ≡ input b.var → ((x : ℕ) → look_at ins2 x ≡ cond (eqb x b.var) (Some l) (look_at ins x)) → IsOpened new ins2 (Q ++ b ∷ [])
opened-forall a new ins ins2 Q b l e o ei eg k there tree put = record {
  inputs = ei ∙ ap (λ (xs : List ℕ). xs ++ b.var ∷ []) o.inputs ∙ sym (universals-forall Q b e);
  gates = eg ∙ o.gates;
  literals = literals-put new ins ins2 b.var (Some l) put (λ m q. let s : l ≡ m = cc in subst (IsLiteral new) s there) (literals-kept a new ins k o.literals);
  at = λ u h. go u (eqb u b.var) refl (is_universal-last Q b u h);
}
  where
    go : (u : ℕ) (t : Bool) → eqb u b.var ≡ t → (is_universal Q u ≡ true) ⊎ ((u ≡ b.var) × (is_exists b.quant ≡ false)) → (m : ℕ) × (look_at ins2 u ≡ Some m) × (tree_at new m ≡ input u)
    go u true q h =
        let s : b.var ≡ u = grind arith in
        (l, put u ∙ ap (λ (t : Bool). cond t (Some l) (look_at ins u)) q, tree ∙ ap input s)
    go u false q (inl g) =
        let r = inputs-kept a new ins (is_universal Q) k o.literals o.at u g in
        (r.0, put u ∙ ap (λ (t : Bool). cond t (Some l) (look_at ins u)) q ∙ r.1, r.2)
    go u false q (inr g) = absurd (let s : u ≡ b.var = g.0 in grind arith)

pub named-forall : (a : Net) (made : CertificateView) (tb : List (Option ℕ)) (Q : Prefix) (b : Bound) → b.quant ≡ Forall → IsNamed a made tb Q → IsNamed a made tb (Q ++ b ∷ [])
named-forall a made tb Q b e n = record { inputs = n.inputs; gates = n.gates; outputs = n.outputs ∙ sym (outputs-forall tb Q b e) }

pub named-exists : (a : Net) (made made2 : CertificateView) (tb : List (Option ℕ)) (Q : Prefix) (b : Bound) (l : ℕ) → b.quant ≡ Exists → IsNamed a made tb Q → l ≡ or_zero (look_at tb b.var) → made2.inputs ≡ made.inputs → made2.gates ≡ made.gates → made2.outputs ≡ made.outputs ++ record { name = b.var; operand = operand_of l } ∷ [] → IsNamed a made2 tb (Q ++ b ∷ [])
named-exists a made made2 tb Q b l e n el ei eg eo = record {
  inputs = ei ∙ n.inputs;
  gates = eg ∙ n.gates;
  outputs = eo ∙ ap (λ (xs : List NamedOutput). xs ++ record { name = b.var; operand = operand_of l } ∷ []) n.outputs ∙ ap (λ (m : ℕ). outputs_for tb Q ++ record { name = b.var; operand = operand_of m } ∷ []) el ∙ sym (outputs-exists tb Q b e);
}

pub named-there : (a : Net) (made : CertificateView) (tb : List (Option ℕ)) (Q : Prefix) (v l : ℕ) → IsNamed a made tb Q → AreLiterals a tb → l ≡ or_zero (look_at tb v) → IsLiteral (net_of made) l
named-there a made tb Q v l n li e =
    let h : IsLiteral a l = subst (IsLiteral a) (sym e) (or-zero-there a (look_at tb v) (li v)) in
    rw (n.inputs, n.gates) h

abbrev pub no_bound : Bound
no_bound = record { quant = Exists; var = 0 }

pub input-new : (a : Net) (ins : List (Option ℕ)) (P : Prefix) (i : ℕ) → Distinct P → i < length P → IsOpened a ins (take i P) → IsNew a.inputs (get_or P i no_bound).var
input-new a ins P i d h o = subst (λ (xs : List ℕ). IsNew xs (get_or P i no_bound).var) (sym o.inputs) (universals-new (take i P) (get_or P i no_bound).var (distinct-at P i no_bound d h))

pub name-new : (a : Net) (made : CertificateView) (tb : List (Option ℕ)) (P : Prefix) (i : ℕ) → Distinct P → i < length P → IsNamed a made tb (take i P) → IsNewName made.outputs (get_or P i no_bound).var
name-new a made tb P i d h n = subst (λ (xs : List NamedOutput). IsNewName xs (get_or P i no_bound).var) (sym n.outputs) (names-new tb (take i P) (get_or P i no_bound).var (distinct-at P i no_bound d h))

unwrapped : (m : Option ℕ) (l : ℕ) → l ≡ unwrap_or m 0 → l ≡ or_zero m
unwrapped None l e = e
unwrapped (Some k) l e = e

pub looked-up : (m n : Option ℕ) (l : ℕ) → l ≡ unwrap_or m 0 → m ≡ n → l ≡ or_zero n
looked-up m n l e f = subst (λ (o : Option ℕ). l ≡ or_zero o) f (unwrapped m l e)
