-- Circuits taken out of the draft, one further.
use Rattle.std.proofs.Common.{◌≡◌, ℕ, ◌+◌, ◌<◌, Bool, true, false, cond, eqb, List, [], length, get_or, take, arith, refl, sym, ap, ◌∙◌, subst, Option, Some, None}
use Rattle.std.proofs.lemmas.List.{take_more}
use Rattle.std.proofs.lemmas.Option.{same_Some}
use Rattle.q_logic.specs.declared.formulas.Quant.TheVariants.{Exists, Forall}
use Rattle.q_logic.specs.Prelude.{Prefix, Distinct, is_exists, is_existential}
use Rattle.q_logic.proofs.Common.{distinct-at}
use Rattle.q_aig.specs.Prelude.{Net, IsLiteral, operand_of}
use Rattle.q_certificate.specs.Prelude.{look_at, AreLiterals, is_there}
use Rattle.q_certificate.proofs.CircuitCopies.{copy-there}
use Rattle.q_certificate.proofs.PrefixInputs.{no_bound}
use Rattle.q_certificate.proofs.VariableTables.{existentials-forall, is_existential-last}
use Rattle.q_herbrand.specs.declared.slots.Slots.{Slots}
use Rattle.q_herbrand.specs.declared.building.Settled.{Settled}
use Rattle.q_herbrand.specs.Settled.{AreRows}
use Rattle.q_herbrand.specs.declared.drafting.Draft.{Draft}
use Rattle.q_herbrand.specs.Drafted.{IsBuiltFrom, IsChosen}

pub chosen-none : (d : Draft) (m : Settled) → IsChosen [] d m []
chosen-none d m = record { existentials = λ x. refl; built = λ x k e. absurd (cc) }

pub chosen-forall : (P : Prefix) (i : ℕ) (d : Draft) (m : Settled) (row : List (Option ℕ)) → Distinct P →
    i < length P → (get_or P i no_bound).quant ≡ Forall → IsChosen (take i P) d m row →
    IsChosen (take (i + 1) P) d m row
chosen-forall P i d m row dist lt q c = record {
  existentials = existentials-forall P i row dist lt q c.existentials;
  built = c.built;
}

pub chosen-exists : (P : Prefix) (i : ℕ) (d : Draft) (m : Settled) (row row2 : List (Option ℕ)) (k : ℕ) →
    Distinct P → i < length P → (get_or P i no_bound).quant ≡ Exists → IsChosen (take i P) d m row →
    IsBuiltFrom d m (look_at d.tables.circuits.items (get_or P i no_bound).var) k →
    ((x : ℕ) → look_at row2 x ≡ cond (eqb x (get_or P i no_bound).var) (Some k) (look_at row x)) →
    IsChosen (take (i + 1) P) d m row2
chosen-exists P i d m row row2 k dist lt q c b put = record {
  existentials = λ x. ap is_there (put x) ∙ there x (eqb x (get_or P i no_bound).var) refl;
  built = λ x n e. made x n e (eqb x (get_or P i no_bound).var) refl;
}
  where
    there : (x : ℕ) (t : Bool) → eqb x (get_or P i no_bound).var ≡ t →
        is_there (cond (eqb x (get_or P i no_bound).var) (Some k) (look_at row x)) ≡ is_existential (take (i + 1) P) x
    there x t e =
        let q2 : is_exists (get_or P i no_bound).quant ≡ true = ap is_exists q in
        let p : is_existential (take (i + 1) P) x ≡ cond (eqb x (get_or P i no_bound).var) true
        (is_existential (take i P) x) =
        ap (λ (Q : Prefix). is_existential Q x) (take_more P i no_bound lt)
        ∙ is_existential-last (take i P) (get_or P i no_bound) x (distinct-at P i no_bound dist lt)
        ∙ ap (λ (s : Bool). cond (eqb x (get_or P i no_bound).var) s (is_existential (take i P) x)) q2 in
        split (eqb x (get_or P i no_bound).var) ∙ sym p
      where
        split : (t : Bool) → is_there (cond t (Some k) (look_at row x)) ≡ cond t true (is_existential (take i P) x)
        split true = refl
        split false = c.existentials x

    made : (x n : ℕ) → look_at row2 x ≡ Some n → (t : Bool) → eqb x (get_or P i no_bound).var ≡ t →
        IsBuiltFrom d m (look_at d.tables.circuits.items x) n
    made x n e true f =
        let z : (get_or P i no_bound).var ≡ x = grind arith in
        let w : k ≡ n = same_Some k n (sym (put x ∙ ap (λ (s : Bool). cond s (Some k) (look_at row x)) f) ∙ e) in
        subst (λ (y : ℕ). IsBuiltFrom d m (look_at d.tables.circuits.items y) n) z
        (subst (IsBuiltFrom d m (look_at d.tables.circuits.items (get_or P i no_bound).var)) w b)
    made x n e false f =
        c.built x n (sym (put x ∙ ap (λ (s : Bool). cond s (Some k) (look_at row x)) f) ∙ e)

pub chosen-literals : (P : Prefix) (d : Draft) (m : Settled) (now : Net) (z : Slots) (row : List (Option ℕ)) →
    AreRows d.aig now z m → IsChosen P d m row → AreLiterals now row
chosen-literals P d m now z row r c x k e = go (look_at d.tables.circuits.items x) (c.built x k e)
  where
    go : (o : Option ℕ) → IsBuiltFrom d m o k → IsLiteral now k
    go None h = subst (IsLiteral now) (sym h) tt
    go (Some l) h = copy-there d.aig.inputs now m.slots.items m.gates.items k (operand_of l) h r.slots r.gates
