-- The circuits of a certificate are there.
use Rattle.std.proofs.Common.{◌≡◌, ℕ, suc, ◌<◌, Bool, true, false, cond, eqb, List, [], ◌∷◌, length, map, get_or, Some, arith, subst}
use Rattle.q_logic.specs.Prelude.{Operand, IsThere, output_named}
use Rattle.q_aig.specs.declared.output.Output.{Output}
use Rattle.q_aig.specs.Prelude.{Net, IsLiteral, operand_of, output_of, no_output}

pub outputs-there : (a : Net) (os : List Output) → ((i : ℕ) → i < length os → IsLiteral a (get_or os i no_output).lit) → (x : ℕ) (o : Operand) →
    output_named x (map output_of os) ≡ Some o → IsThere (length a.inputs) (length a.gates) o.node
outputs-there a [] h x o e = absurd (cc)
outputs-there a (p ∷ os) h x o e = go (eqb p.var x) e (outputs-there a os (λ i l. h (suc i) (omega arith)) x o)
  where
    go : (b : Bool) → cond b (Some (operand_of p.lit)) (output_named x (map output_of os)) ≡ Some o →
        (output_named x (map output_of os) ≡ Some o → IsThere (length a.inputs) (length a.gates) o.node) → IsThere (length a.inputs) (length a.gates) o.node
    go true e f = let z : operand_of p.lit ≡ o = cc in subst (λ (w : Operand). IsThere (length a.inputs) (length a.gates) w.node) z (h 0 (omega arith))
    go false e f = f e
