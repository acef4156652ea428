-- Nodes by their blocks and lines, and the rows of gates.
use Rattle.std.proofs.Common.{◌≡◌, ◌-◌, ◌≤◌, ◌++◌, ℕ, Bool, true, false, cond, List, [], ◌∷◌, length, take, drop, Option, Some, None, refl, sym, ap, ◌∙◌, subst, inl, inr, arith}
use Rattle.std.proofs.lemmas.List.{take_rest, take-append-drop, length_push, take-append-le}
use Rattle.std.proofs.lemmas.Bool.{cases_lt}
use Rattle.std.specs.Prelude.{IfSome}
use Rattle.q_logic.specs.declared.verdict.Verdict.{Verdict}
use Rattle.q_logic.specs.declared.verdict.Verdict.TheVariants.{Open}
use Rattle.q_logic.specs.Prelude.{Prefix, Assignment, Circuit, inverter, CertificateView}
use Rattle.q_logic.specs.Branches.{Claim, known, known_signed, as_prefix, verdict}
use Rattle.q_logic.proofs.HitNodes.{closed-end}
use Rattle.q_aig.specs.Prelude.{Net, net_of}
use Rattle.q_search.specs.Walks.{said_here, IsInner}
use Rattle.q_search.proofs.PathValues.{rest-none}
use Rattle.q_validate.specs.Words.{path_to, Tells}
use Rattle.q_validate.specs.Lines.{Follows}
use Rattle.q_validate.specs.Stands.{Spot, claim_at, walk_of, values, formula_known, AreTold, IsRow, IsBlock, IsLine}
use Rattle.q_validate.specs.declared.node.Block.{Block}
use Rattle.q_validate.specs.declared.node.Line.{Line}
use Rattle.q_validate.proofs.LineValues.{line-on}

-- an operand by its node
pub signed-tree : (negated : Bool) (P : Prefix) (A : Assignment) (t : Circuit) →
    known_signed negated (known P A t) ≡ known P A (cond negated (inverter t) t)
signed-tree true P A t = refl
signed-tree false P A t = plain (known P A t)
  where
    plain : (x : Option Bool) → known_signed false x ≡ x
    plain None = refl
    plain (Some b) = refl

-- a node by its block
pub block-path : (path way : List Bool) (base node : ℕ) → base ≤ length path → way ≡ take (length path - base) (drop base path) →
    path_to node ≡ way → take base path ++ path_to node ≡ path
block-path path way base node h e n =
    ap (λ (p : List Bool). take base path ++ p) (n ∙ e ∙ take_rest path base) ∙ take-append-drop base path

-- where nothing is decided some input has no value
pub open-inner : (s : Spot) (v : Verdict) → v ≡ said_here (walk_of s) → v ≡ Open → IsInner (walk_of s)
open-inner s v e o =
    let us = as_prefix s.certificate.inputs in
    elim (cases_lt (length s.path) (length us)) [
      | inl h ↦ h
      | inr h ↦ absurd (closed-end (claim_at s) (values s.certificate.inputs s.path) s.formula.matrix
          (sym (ap (λ (Q : Prefix). verdict (claim_at s) s.formula.matrix Q (values s.certificate.inputs s.path)) (rest-none us s.path h)) ∙ sym e ∙ o))
    ]

-- a block and one more value
pub block-given : (q : Claim) (path : List Bool) (v : Bool) (block : Option Block) → IsBlock q path block → IsBlock q (path ++ v ∷ []) block
block-given q path v None h = tt
block-given q path v (Some b) h = (
  omega (arith, h.0, length_push path v),
  subst (λ (p : List Bool). Tells b.told (λ w. formula_known q (p ++ w))) (sym (take-append-le b.base path (v ∷ []) h.0)) h.1,
)

-- a line and one more value
pub line-given : (q : Claim) (path : List Bool) (v : Bool) (old new : Option Line) → IfSome new (λ l. (old ≡ Some l) × (v ≡ false)) →
    IsLine q path old → IsLine q (path ++ v ∷ []) new
line-given q path v old None h k = tt
line-given q path v old (Some l) h k =
    let s : IsLine q path (Some l) = subst (IsLine q path) h.0 k in
    subst (λ (b : Bool). IsLine q (path ++ b ∷ []) (Some l)) (sym h.1) (further s)
  where
    further : IsLine q path (Some l) → IsLine q (path ++ false ∷ []) (Some l)
    further s = (
      omega (arith, length_push path false),
      line-on path l.base s.0 s.1,
      subst (λ (p : List Bool). Follows l.told (λ w. formula_known q (p ++ w))) (sym (take-append-le l.base path (false ∷ []) s.0)) s.2,
    )

-- the row of a certificate's gates
pub row-told : {T : Type 0} (Says : T → (List Bool → Option Bool) → Type 0) (a : Net) (c : CertificateView) (p path : List Bool) (row items : List T) →
    a ≡ net_of c → p ≡ path → row ≡ items → length items ≡ length a.gates → AreTold Says a p items → IsRow Says c path row
row-told {T} Says a c p path row items e f g l t = (
  ap (λ (xs : List T). length xs) g ∙ l ∙ ap (λ (n : Net). length n.gates) e,
  subst (λ (xs : List T). AreTold Says (net_of c) path xs) (sym g)
      (subst (λ (w : List Bool). AreTold Says (net_of c) w items) f (subst (λ (n : Net). AreTold Says n p items) e t)),
)
