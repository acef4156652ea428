-- A prefix with its quantifiers exchanged: what holds of Skolem functions over it holds of Herbrand functions.
use Rattle.std.proofs.Common.{◌≡◌, ℕ, not, [], ◌∷◌, refl, sym, ap, ◌∙◌}
use Rattle.q_logic.specs.declared.formulas.Quant.{Quant}
use Rattle.q_logic.specs.declared.formulas.Quant.TheVariants.{Exists, Forall}
use Rattle.q_logic.specs.Prelude.{Prefix, is_exists, is_existential, is_universal, is_bound, universal_before, same_quant, run_to, outer_or_same, Distinct, Strategy, Lawful}
use Rattle.q_logic.specs.Exchanging.{other_quant, exchanged}
use Rattle.q_logic.specs.Herbrands.{existential_before, LawfulHerbrand}
use Rattle.q_logic.proofs.Booleans.{not-not}

other-exists : (q : Quant) → is_exists (other_quant q) ≡ not (is_exists q)
other-exists Exists = refl
other-exists Forall = refl

pub other-same : (q r : Quant) → same_quant (other_quant q) (other_quant r) ≡ same_quant q r
other-same Exists Exists = refl
other-same Exists Forall = refl
other-same Forall Exists = refl
other-same Forall Forall = refl

pub exchanged-existential : (P : Prefix) (x : ℕ) → is_existential (exchanged P) x ≡ is_universal P x
exchanged-existential [] x = refl
exchanged-existential (b ∷ P) x =
    let e = exchanged-existential P x in let q = other-exists b.quant in rw (e, q) refl

pub exchanged-universal : (P : Prefix) (x : ℕ) → is_universal (exchanged P) x ≡ is_existential P x
exchanged-universal [] x = refl
exchanged-universal (b ∷ P) x =
    let e = exchanged-universal P x in
    let q = ap not (other-exists b.quant) ∙ not-not (is_exists b.quant) in rw (e, q) refl

pub exchanged-bound : (P : Prefix) (x : ℕ) → is_bound (exchanged P) x ≡ is_bound P x
exchanged-bound [] x = refl
exchanged-bound (b ∷ P) x = let e = exchanged-bound P x in rw e refl

pub exchanged-before : (P : Prefix) (e u : ℕ) → universal_before (exchanged P) e u ≡ existential_before P e u
exchanged-before [] e u = refl
exchanged-before (b ∷ P) e u =
    let i = exchanged-before P e u in
    let k = exchanged-bound P u in
    let q = ap not (other-exists b.quant) ∙ not-not (is_exists b.quant) in rw (i, k, q) refl

exchanged-run_to : (q : Quant) (P : Prefix) (a : ℕ) → run_to (other_quant q) (exchanged P) a ≡ run_to q P a
exchanged-run_to q [] a = refl
exchanged-run_to q (b ∷ P) a =
    let i = exchanged-run_to q P a in let s = other-same q b.quant in rw (i, s) refl

pub exchanged-outer : (P : Prefix) (a v : ℕ) → outer_or_same (exchanged P) a v ≡ outer_or_same P a v
exchanged-outer [] a v = refl
exchanged-outer (b ∷ P) a v =
    let i = exchanged-outer P a v in let r = exchanged-run_to b.quant P a in rw (i, r) refl

pub exchanged-distinct : (P : Prefix) → Distinct P → Distinct (exchanged P)
exchanged-distinct [] d = d
exchanged-distinct (b ∷ P) d = (exchanged-bound P b.var ∙ d.0, exchanged-distinct P d.1)

pub lawful-exchanged : (P : Prefix) (c : Strategy) → LawfulHerbrand P c → Lawful (exchanged P) c
lawful-exchanged P c l = record {
  trees = λ x. l.trees x ∙ sym (exchanged-existential P x);
  reads = λ x h u r.
      exchanged-before P u x ∙ l.reads x (sym (exchanged-existential P x) ∙ h) u r;
}

pub exchanged-lawful : (P : Prefix) (c : Strategy) → Lawful (exchanged P) c → LawfulHerbrand P c
exchanged-lawful P c l = record {
  trees = λ x. l.trees x ∙ exchanged-existential P x;
  reads = λ x h u r.
      sym (exchanged-before P u x) ∙ l.reads x (exchanged-existential P x ∙ h) u r;
}
