-- What the bindings of variables tell of the prefix.
use Rattle.std.proofs.Common.{◌≡◌, ℕ, Bool, true, false, cond, not, eqb, leb, List, [], ◌∷◌, Option, None, Some, refl, sym, ◌∙◌, ap, arith, true≢false}
use Rattle.std.proofs.lemmas.Bool.Decides.{nat_tests}
use Rattle.std.specs.Option.{is_some}
use Rattle.q_logic.specs.declared.formulas.Bound.{Bound}
use Rattle.q_logic.specs.Prelude.{Prefix, is_bound, is_existential, is_universal, is_exists, outer_or_same}
use Rattle.q_judge.specs.declared.bindings.Binding.{Binding}
use Rattle.q_judge.specs.Scopes.{binding_at, rank_at, AreLinked, AreScoped}
use Rattle.q_judge.proofs.BoundPieces.{universal-not}
use Rattle.q_logic.proofs.Truth.{none_bound}
use Rattle.q_logic.proofs.Common.{unbound-universal}
use Rattle.q_judge.proofs.LinkedPrefixes.{binding-in}
use Rattle.q_judge.proofs.BlockRanks.{ranked-outer}
use Rattle.q_judge.proofs.VariableRemoval.{same_binding}

linked-existential : (f : ℕ → Option Binding) (o : Option Bound) (P : Prefix) (n : Option ℕ) → AreLinked f o P n → (v : ℕ) (s : Binding) → f v ≡ Some s → is_bound P v ≡ true → is_existential P v ≡ is_exists s.quant
linked-existential f o [] n l v s e h = absurd (true≢false (sym h))
linked-existential f o (b ∷ P) n l v s e h = go (eqb b.var v) refl h (linked-existential f (Some b) P n l.1 v s e)
  where
    go : (t : Bool) → eqb b.var v ≡ t → cond t true (is_bound P v) ≡ true → (is_bound P v ≡ true → is_existential P v ≡ is_exists s.quant) → cond t (is_exists b.quant) (is_existential P v) ≡ is_exists s.quant
    go true q k ih = let w : b.var ≡ v = grind (arith, nat_tests) in let z : l.0.binding ≡ s = same_binding l.0.binding s (sym l.0.there ∙ ap f w ∙ e) in ap is_exists (sym l.0.quant) ∙ ap (λ (t : Binding). is_exists t.quant) z
    go false q k ih = ih k

module _ (P : Prefix) (first : Option ℕ) (bindings : List (Option Binding)) (counts : List ℕ) (a : AreScoped P first bindings counts) where
  pub binding-bound : (v : ℕ) (s : Binding) → binding_at bindings v ≡ Some s → is_bound P v ≡ true
  binding-bound v s e = a.only v s e

  pub no_binding-unbound : (v : ℕ) → binding_at bindings v ≡ None → is_bound P v ≡ false
  no_binding-unbound v e = go (is_bound P v) refl
    where
      none_some : (s : Binding) → None ≡ Some s → ⊥
      none_some s q = cc

      go : (b : Bool) → is_bound P v ≡ b → b ≡ false
      go true h = let r = binding-in (binding_at bindings) None P None a.linked v h in absurd (none_some r.0 (sym e ∙ r.1))
      go false h = refl

  pub scoped-binds : (v : ℕ) → is_some (binding_at bindings v) ≡ is_bound P v
  scoped-binds v = go (binding_at bindings v) refl
    where
      go : (o : Option Binding) → binding_at bindings v ≡ o → is_some o ≡ is_bound P v
      go None e = sym (no_binding-unbound v e)
      go (Some s) e = sym (binding-bound v s e)

  pub binding-existential : (v : ℕ) (s : Binding) → binding_at bindings v ≡ Some s → is_existential P v ≡ is_exists s.quant
  binding-existential v s e = linked-existential (binding_at bindings) None P None a.linked v s e (binding-bound v s e)

  pub binding-universal : (v : ℕ) (s : Binding) → binding_at bindings v ≡ Some s → is_universal P v ≡ not (is_exists s.quant)
  binding-universal v s e = universal-not P v (binding-bound v s e) ∙ ap not (binding-existential v s e)

  pub no_binding-existential : (v : ℕ) → binding_at bindings v ≡ None → is_existential P v ≡ false
  no_binding-existential v e = none_bound P v (no_binding-unbound v e)

  pub no_binding-universal : (v : ℕ) → binding_at bindings v ≡ None → is_universal P v ≡ false
  no_binding-universal v e = unbound-universal P v (no_binding-unbound v e)

  pub scoped-outer : (b v : ℕ) → is_bound P b ≡ true → is_bound P v ≡ true → outer_or_same P b v ≡ leb (rank_at bindings b) (rank_at bindings v)
  scoped-outer b v i j = ranked-outer (rank_at bindings) None P b v a.ranked i j
