-- Linked prefixes: pieces of them, and what a change of links does.
use Rattle.std.proofs.Common.{◌≡◌, ◌≢◌, ℕ, zero, suc, ◌≤◌, Bool, true, false, cond, eqb, List, [], ◌∷◌, ◌++◌, Option, None, Some, length, refl, sym, ◌∙◌, ap, subst, arith, true≢false}
use Rattle.std.proofs.lemmas.Bool.Decides.{nat_tests}
use Rattle.q_logic.specs.declared.formulas.Bound.{Bound}
use Rattle.q_logic.specs.Prelude.{Prefix, is_bound, Distinct}
use Rattle.q_logic.proofs.Common.{is_bound-first, is_bound-later}
use Rattle.q_judge.specs.declared.bindings.Binding.{Binding}
use Rattle.q_judge.specs.Scopes.{binding_at, after_in, first_or, last_or, var_of, is_there, with_after, with_before, IsBindingOf, AreLinked, bounds_from, scoped_before}
use Rattle.q_judge.proofs.BoundPieces.{last-bound}

pub linked-left : (f : ℕ → Option Binding) (o : Option Bound) (A C : Prefix) (n : Option ℕ) → AreLinked f o (A ++ C) n → AreLinked f o A (first_or C n)
linked-left f o [] C n l = tt
linked-left f o (b ∷ []) C n l = (l.0, tt)
linked-left f o (b ∷ c ∷ A) C n l = (l.0, linked-left f (Some b) (c ∷ A) C n l.1)

pub linked-right : (f : ℕ → Option Binding) (o : Option Bound) (A C : Prefix) (n : Option ℕ) → AreLinked f o (A ++ C) n → AreLinked f (last_or A o) C n
linked-right f o [] C n l = l
linked-right f o (b ∷ A) C n l = linked-right f (Some b) A C n l.1

pub linked-join : (f : ℕ → Option Binding) (o : Option Bound) (A C : Prefix) (n : Option ℕ) → AreLinked f o A (first_or C n) → AreLinked f (last_or A o) C n → AreLinked f o (A ++ C) n
linked-join f o [] C n l r = r
linked-join f o (b ∷ []) C n l r = (l.0, r)
linked-join f o (b ∷ c ∷ A) C n l r = (l.0, linked-join f (Some b) (c ∷ A) C n l.1 r)

pub binding-same : (f g : ℕ → Option Binding) (o : Option Bound) (b : Bound) (n : Option ℕ) → g b.var ≡ f b.var → IsBindingOf f o b n → IsBindingOf g o b n
binding-same f g o b n e s = record { binding = s.binding; there = e ∙ s.there; quant = s.quant; before = s.before; after = s.after }

pub linked-same : (f g : ℕ → Option Binding) (o : Option Bound) (P : Prefix) (n : Option ℕ) → ((v : ℕ) → is_bound P v ≡ true → g v ≡ f v) → AreLinked f o P n → AreLinked g o P n
linked-same f g o [] n e l = tt
linked-same f g o (b ∷ P) n e l = (binding-same f g o b (first_or P n) (e b.var (is_bound-first b P)) l.0, linked-same f g (Some b) P n (λ v h. e v (is_bound-later b P v h)) l.1)

there-other : (x v : ℕ) → x ≢ v → is_there (Some x) v ≡ false
there-other x v n = grind (arith, nat_tests)

there-same : (x : ℕ) → is_there (Some x) x ≡ true
there-same x = grind (arith, nat_tests)

-- the last variable has another one behind it
pub linked-after : (f g : ℕ → Option Binding) (o : Option Bound) (A : Prefix) (n m : Option ℕ) → Distinct A → ((v : ℕ) → is_bound A v ≡ true → g v ≡ cond (is_there (var_of (last_or A o)) v) (with_after m (f v)) (f v)) → AreLinked f o A n → AreLinked g o A m
linked-after f g o [] n m d e l = tt
linked-after f g o (b ∷ []) n m d e l =
    let s = l.0 in
    let k : g b.var ≡ with_after m (f b.var) = e b.var (is_bound-first b []) ∙ ap (λ (t : Bool). cond t (with_after m (f b.var)) (f b.var)) (there-same b.var) in
    (record { binding = record { rank = s.binding.rank; quant = s.binding.quant; before = s.binding.before; after = m }; there = k ∙ ap (with_after m) s.there; quant = s.quant; before = s.before; after = refl }, tt)
linked-after f g o (b ∷ c ∷ A) n m d e l =
    let x = last-bound c A (Some b) in
    let other : x.0.var ≢ b.var = λ q. true≢false (sym x.2 ∙ ap (is_bound (c ∷ A)) q ∙ d.0) in
    let k : g b.var ≡ f b.var = e b.var (is_bound-first b (c ∷ A)) ∙ ap (λ (t : Bool). cond t (with_after m (f b.var)) (f b.var)) (ap (λ (y : Option Bound). is_there (var_of y) b.var) x.1 ∙ there-other x.0.var b.var other) in
    (binding-same f g o b (Some c.var) k l.0, linked-after f g (Some b) (c ∷ A) n m d.1 (λ v h. e v (is_bound-later b (c ∷ A) v h)) l.1)

-- the first variable has another one before it
pub linked-before : (f g : ℕ → Option Binding) (o p : Option Bound) (C : Prefix) (n : Option ℕ) → Distinct C → ((v : ℕ) → is_bound C v ≡ true → g v ≡ cond (is_there (first_or C None) v) (with_before (var_of p) (f v)) (f v)) → AreLinked f o C n → AreLinked g p C n
linked-before f g o p [] n d e l = tt
linked-before f g o p (c ∷ C) n d e l =
    let s = l.0 in
    let k : g c.var ≡ with_before (var_of p) (f c.var) = e c.var (is_bound-first c C) ∙ ap (λ (t : Bool). cond t (with_before (var_of p) (f c.var)) (f c.var)) (there-same c.var) in
    let rest : (v : ℕ) → is_bound C v ≡ true → g v ≡ f v = λ v h. e v (is_bound-later c C v h) ∙ ap (λ (t : Bool). cond t (with_before (var_of p) (f v)) (f v)) (there-other c.var v (λ q. true≢false (sym h ∙ ap (is_bound C) (sym q) ∙ d.0))) in
    (record { binding = record { rank = s.binding.rank; quant = s.binding.quant; before = var_of p; after = s.binding.after }; there = k ∙ ap (with_before (var_of p)) s.there; quant = s.quant; before = refl; after = s.after }, linked-same f g (Some c) C n rest l.1)

pub binding-in : (f : ℕ → Option Binding) (o : Option Bound) (P : Prefix) (n : Option ℕ) → AreLinked f o P n → (v : ℕ) → is_bound P v ≡ true → (s : Binding) × (f v ≡ Some s)
binding-in f o [] n l v h = absurd (true≢false (sym h))
binding-in f o (b ∷ P) n l v h = go (eqb b.var v) refl h (binding-in f (Some b) P n l.1 v)
  where
    go : (t : Bool) → eqb b.var v ≡ t → cond t true (is_bound P v) ≡ true → (is_bound P v ≡ true → (s : Binding) × (f v ≡ Some s)) → (s : Binding) × (f v ≡ Some s)
    go true e k ih = (l.0.binding, (let q : b.var ≡ v = grind (arith, nat_tests) in subst (λ (w : ℕ). f w ≡ Some l.0.binding) q l.0.there))
    go false e k ih = ih k

-- a linked prefix is found again, from its first variable on
pub linked-bounds : (bindings : List (Option Binding)) (o : Option Bound) (P : Prefix) (n : ℕ) → AreLinked (binding_at bindings) o P None → length P ≤ n → bounds_from bindings (first_or P None) n ≡ P
linked-bounds bindings o [] n l h = refl
linked-bounds bindings o (b ∷ P) zero l h = absurd (omega arith)
linked-bounds bindings o (b ∷ P) (suc n) l h =
    let s = l.0 in
    let i : bounds_from bindings (first_or P None) n ≡ P = linked-bounds bindings (Some b) P n l.1 (omega arith) in
    let k : bounds_from bindings (after_in (binding_at bindings b.var)) n ≡ P = ap (λ (x : Option ℕ). bounds_from bindings x n) (ap after_in s.there ∙ s.after) ∙ i in
    ap (λ (x : Option Binding). scoped_before b.var x (bounds_from bindings (after_in (binding_at bindings b.var)) n)) s.there
    ∙ (λ j. record { quant = s.quant j; var = b.var } ∷ k j)
