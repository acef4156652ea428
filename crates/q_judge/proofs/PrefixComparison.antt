-- Two prefixes are compared binding by binding.
use Rattle.std.proofs.Common.{◌≡◌, ℕ, Bool, true, false, ◌&&◌, eqb, List, [], ◌∷◌, Option, None, Some, slice_index_or, refl, sym, ◌∙◌, ap, subst, inl, inr, arith, true≢false}
use Rattle.std.proofs.lemmas.Bool.Decides.{nat_tests}
use Rattle.q_logic.specs.declared.formulas.Bound.{Bound}
use Rattle.q_logic.specs.Prelude.{bool_eq, Prefix, IsIn, is_bound, is_exists, blocks, SameBlocks}
use Rattle.q_logic.proofs.Common.{bool_eq-sound}
use Rattle.q_judge.specs.declared.bindings.Binding.{Binding}
use Rattle.q_judge.specs.Scopes.{binding_at, first_or, AreLinked, AreNumbered, IsNumbered, rank_at, rank_in, is_same_binding}
use Rattle.q_judge.proofs.PrefixFacts.{binding-bound, no_binding-unbound}
use Rattle.q_judge.proofs.SameBlocks.{AreBlocksNumbered, Among, blocks-numbered, bound-Among, Among-bound, same-blocks, blocks-same, blocks-same_back}

abbrev pub kind_in : Option Binding → Bool
kind_in None = false
kind_in (Some s) = is_exists s.quant

abbrev pub kind_at : List (Option Binding) → ℕ → Bool
kind_at bindings v = kind_in (slice_index_or bindings v None)

linked-kind : (f : ℕ → Option Binding) (o : Option Bound) (P : Prefix) (n : Option ℕ) → AreLinked f o P n → (c : Bound) → IsIn c P → kind_in (f c.var) ≡ is_exists c.quant
linked-kind f o [] n l c m = absurd m
linked-kind f o (b ∷ P) n l c (inl e) = subst (λ (x : Bound). kind_in (f x.var) ≡ is_exists x.quant) (sym e) (ap kind_in l.0.there ∙ ap is_exists l.0.quant)
linked-kind f o (b ∷ P) n l c (inr m) = linked-kind f (Some b) P n l.1 c m

pub scoped-numbered : (P : Prefix) (bindings : List (Option Binding)) (counts : List ℕ) → AreNumbered P bindings counts → AreBlocksNumbered (rank_at bindings) (kind_at bindings) 0 (blocks P)
scoped-numbered P bindings counts a = go P a.numbered (λ c m. linked-kind (binding_at bindings) None P None a.scoped.linked c m)
  where
    go : (P : Prefix) → IsNumbered (rank_at bindings) None 0 P → ((c : Bound) → IsIn c P → kind_at bindings c.var ≡ is_exists c.quant) → AreBlocksNumbered (rank_at bindings) (kind_at bindings) 0 (blocks P)
    go [] h k = tt
    go (b ∷ P) h k = blocks-numbered (rank_at bindings) (kind_at bindings) b P k 0 h.0 h.1

bool_eq-itself : (a b : Bool) → a ≡ b → bool_eq a b ≡ true
bool_eq-itself true b e = sym e
bool_eq-itself false true e = absurd (true≢false (sym e))
bool_eq-itself false false e = refl

same_binding-parts : (s t : Binding) → is_same_binding (Some s) (Some t) ≡ true → (s.rank ≡ t.rank) × (is_exists s.quant ≡ is_exists t.quant)
same_binding-parts s t e = go (eqb s.rank t.rank) refl (bool_eq (is_exists s.quant) (is_exists t.quant)) refl e
  where
    go : (a : Bool) → eqb s.rank t.rank ≡ a → (b : Bool) → bool_eq (is_exists s.quant) (is_exists t.quant) ≡ b → (a && b) ≡ true → (s.rank ≡ t.rank) × (is_exists s.quant ≡ is_exists t.quant)
    go true p true q e = (grind (arith, nat_tests), bool_eq-sound (is_exists s.quant) (is_exists t.quant) q)
    go true p false q e = absurd (true≢false (sym e))
    go false p b q e = absurd (true≢false (sym e))

parts-same_binding : (s t : Binding) → s.rank ≡ t.rank → is_exists s.quant ≡ is_exists t.quant → is_same_binding (Some s) (Some t) ≡ true
parts-same_binding s t e f = let a : eqb s.rank t.rank ≡ true = grind (arith, nat_tests) in let b : bool_eq (is_exists s.quant) (is_exists t.quant) ≡ true = bool_eq-itself (is_exists s.quant) (is_exists t.quant) f in rw (a, b) refl

module _ (P P' : Prefix) (bindings bindings' : List (Option Binding)) (counts counts' : List ℕ) (a : AreNumbered P bindings counts) (b : AreNumbered P' bindings' counts') where
  pub bindings-blocks : ((v : ℕ) → is_same_binding (slice_index_or bindings v None) (slice_index_or bindings' v None) ≡ true) → SameBlocks (blocks P) (blocks P')
  bindings-blocks h = same-blocks (rank_at bindings) (rank_at bindings') (kind_at bindings) (kind_at bindings') 0 (blocks P) (blocks P') (scoped-numbered P bindings counts a) (scoped-numbered P' bindings' counts' b) on back
    where
      parts : (v : ℕ) (o p : Option Binding) → slice_index_or bindings v None ≡ o → slice_index_or bindings' v None ≡ p → is_same_binding o p ≡ true → is_bound P v ≡ true → (is_bound P' v ≡ true) × (rank_at bindings v ≡ rank_at bindings' v) × (kind_at bindings v ≡ kind_at bindings' v)
      parts v None p e f g i = absurd (true≢false (sym i ∙ no_binding-unbound P (first_or P None) bindings counts a.scoped v e))
      parts v (Some s) None e f g i = absurd (true≢false (sym g))
      parts v (Some s) (Some t) e f g i = let q = same_binding-parts s t g in (binding-bound P' (first_or P' None) bindings' counts' b.scoped v t f, ap rank_in e ∙ q.0 ∙ sym (ap rank_in f), ap kind_in e ∙ q.1 ∙ sym (ap kind_in f))

      there : (v : ℕ) (o p : Option Binding) → slice_index_or bindings v None ≡ o → slice_index_or bindings' v None ≡ p → is_same_binding o p ≡ true → is_bound P' v ≡ true → is_bound P v ≡ true
      there v o None e f g i = absurd (true≢false (sym i ∙ no_binding-unbound P' (first_or P' None) bindings' counts' b.scoped v f))
      there v None (Some t) e f g i = absurd (true≢false (sym g))
      there v (Some s) (Some t) e f g i = binding-bound P (first_or P None) bindings counts a.scoped v s e

      on : (x : ℕ) → Among x (blocks P) → Among x (blocks P') × (rank_at bindings x ≡ rank_at bindings' x) × (kind_at bindings x ≡ kind_at bindings' x)
      on x m = let r = parts x (slice_index_or bindings x None) (slice_index_or bindings' x None) refl refl (h x) (Among-bound P x m) in (bound-Among P' x r.0, r.1, r.2)

      back : (x : ℕ) → Among x (blocks P') → Among x (blocks P)
      back x m = bound-Among P x (there x (slice_index_or bindings x None) (slice_index_or bindings' x None) refl refl (h x) (Among-bound P' x m))

  pub blocks-bindings : SameBlocks (blocks P) (blocks P') → (v : ℕ) → is_same_binding (slice_index_or bindings v None) (slice_index_or bindings' v None) ≡ true
  blocks-bindings h v = go (slice_index_or bindings v None) (slice_index_or bindings' v None) refl refl
    where
      go : (o p : Option Binding) → slice_index_or bindings v None ≡ o → slice_index_or bindings' v None ≡ p → is_same_binding o p ≡ true
      go None None e f = refl
      go None (Some t) e f = let m = blocks-same_back (blocks P) (blocks P') h v (bound-Among P' v (binding-bound P' (first_or P' None) bindings' counts' b.scoped v t f)) in absurd (true≢false (sym (Among-bound P v m) ∙ no_binding-unbound P (first_or P None) bindings counts a.scoped v e))
      go (Some s) p e f = both p f (blocks-same (rank_at bindings) (rank_at bindings') (kind_at bindings) (kind_at bindings') 0 (blocks P) (blocks P') (scoped-numbered P bindings counts a) (scoped-numbered P' bindings' counts' b) h v (bound-Among P v (binding-bound P (first_or P None) bindings counts a.scoped v s e)))
        where
          both : (p : Option Binding) → slice_index_or bindings' v None ≡ p → Among v (blocks P') × (rank_at bindings v ≡ rank_at bindings' v) × (kind_at bindings v ≡ kind_at bindings' v) → is_same_binding (Some s) p ≡ true
          both None f r = absurd (true≢false (sym (Among-bound P' v r.0) ∙ no_binding-unbound P' (first_or P' None) bindings' counts' b.scoped v f))
          both (Some t) f r = parts-same_binding s t (sym (ap rank_in e) ∙ r.1 ∙ ap rank_in f) (sym (ap kind_in e) ∙ r.2 ∙ ap kind_in f)
