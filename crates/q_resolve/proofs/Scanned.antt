-- Tests of all items, one after the other, and places of variables.
use Rattle.std.proofs.Common.{◌≡◌, ◌↔◌, ℕ, suc, ◌+◌, ◌<◌, ◌≤◌, Bool, true, false, cond, ◌&&◌, ◌||◌, eqb, List, [], ◌∷◌, ◌++◌, length, drop, take, get_or, arith, refl, sym, ap, ◌∙◌, subst, Option, Some, None}
use Rattle.std.proofs.lemmas.List.{drop_more, drop_all, length-take}
use Rattle.q_logic.specs.declared.formulas.Bound.{Bound}
use Rattle.q_logic.specs.Prelude.{Literal, literal_eq, IsIn, Prefix, is_exists, is_existential, is_bound, has, Distinct}
use Rattle.q_logic.specs.Prefixes.{place}
use Rattle.q_logic.specs.Exchanging.{exchanged, exchanged_bound}
use Rattle.q_logic.proofs.Common.{IsIn-has, has-IsIn, literal_eq-sound, literal_eq-itself}
use Rattle.q_logic.specs.Sets.{IsTautology, is_tautology}
use Rattle.q_logic.proofs.Common.{is_tautology-whole, is_tautology-none}
use Rattle.q_resolve.specs.Seats.{AreSeats}
use Rattle.q_certificate.specs.Prelude.{look_at}
use Rattle.q_derive.specs.Testing.{every, some}

pub every-stop : {X : Type 0} (f : X → Bool) (xs : List X) (i : ℕ) (x : X) → i < length xs → x ≡ get_or xs i x →
    every f (drop i xs) ≡ every f xs → f x ≡ false → false ≡ every f xs
every-stop f xs i x h e v n = ap (λ b. b && every f (drop (i + 1) xs)) (sym (sym (ap f e) ∙ n)) ∙ sym (ap (every f) (drop_more xs i x h)) ∙ v

pub every-go : {X : Type 0} (f : X → Bool) (xs : List X) (i : ℕ) (x : X) → i < length xs → x ≡ get_or xs i x →
    every f (drop i xs) ≡ every f xs → f x ≡ true → every f (drop (i + 1) xs) ≡ every f xs
every-go f xs i x h e v n = ap (λ b. b && every f (drop (i + 1) xs)) (sym (sym (ap f e) ∙ n)) ∙ sym (ap (every f) (drop_more xs i x h)) ∙ v

pub every-end : {X : Type 0} (f : X → Bool) (xs : List X) (i : ℕ) → length xs ≤ i → every f (drop i xs) ≡ every f xs → true ≡ every f xs
every-end f xs i h v = ap (every f) (sym (drop_all i xs h)) ∙ v

pub some-stop : {X : Type 0} (f : X → Bool) (xs : List X) (i : ℕ) (x : X) → i < length xs → x ≡ get_or xs i x →
    some f (drop i xs) ≡ some f xs → f x ≡ true → true ≡ some f xs
some-stop f xs i x h e v n = ap (λ b. b || some f (drop (i + 1) xs)) (sym (sym (ap f e) ∙ n)) ∙ sym (ap (some f) (drop_more xs i x h)) ∙ v

pub some-go : {X : Type 0} (f : X → Bool) (xs : List X) (i : ℕ) (x : X) → i < length xs → x ≡ get_or xs i x →
    some f (drop i xs) ≡ some f xs → f x ≡ false → some f (drop (i + 1) xs) ≡ some f xs
some-go f xs i x h e v n = ap (λ b. b || some f (drop (i + 1) xs)) (sym (sym (ap f e) ∙ n)) ∙ sym (ap (some f) (drop_more xs i x h)) ∙ v

pub some-end : {X : Type 0} (f : X → Bool) (xs : List X) (i : ℕ) → length xs ≤ i → some f (drop i xs) ≡ some f xs → false ≡ some f xs
some-end f xs i h v = ap (some f) (sym (drop_all i xs h)) ∙ v

pub holds-has : (b : Bool) (k : Literal) (T : List Literal) → (b ≡ true ↔ IsIn k T) → b ≡ has k T
holds-has b k T h = go b refl (has k T) refl
  where
    go : (x : Bool) → b ≡ x → (y : Bool) → has k T ≡ y → b ≡ has k T
    go true e true f = e ∙ sym f
    go true e false f = absurd (let z : has k T ≡ true = IsIn-has k T (h.0 e) in cc)
    go false e true f = absurd (let z : b ≡ true = h.1 (has-IsIn k T f) in cc)
    go false e false f = e ∙ sym f

pub place-quant : (P : Prefix) (x : ℕ) (d : Bound) → is_bound P x ≡ true →
    (is_existential P x ≡ is_exists (get_or P (place P x) d).quant) × (place P x < length P)
place-quant [] x d h = absurd (cc)
place-quant (b ∷ P) x d h = go (eqb b.var x) h (place-quant P x d)
  where
    go : (t : Bool) → cond t true (is_bound P x) ≡ true →
        (is_bound P x ≡ true → (is_existential P x ≡ is_exists (get_or P (place P x) d).quant) × (place P x < length P)) →
        (cond t (is_exists b.quant) (is_existential P x) ≡ is_exists (get_or (b ∷ P) (cond t 0 (suc (place P x))) d).quant) ×
        (cond t 0 (suc (place P x)) < suc (length P))
    go true h ih = (refl, omega arith)
    go false h ih = let r = ih h in (r.0, let z = r.1 in omega arith)

pub unbound-place : (P : Prefix) (x : ℕ) → is_bound P x ≡ false → (place P x ≡ length P) × (is_existential P x ≡ false)
unbound-place [] x h = (refl, refl)
unbound-place (b ∷ P) x h = go (eqb b.var x) h (unbound-place P x)
  where
    go : (t : Bool) → cond t true (is_bound P x) ≡ false →
        (is_bound P x ≡ false → (place P x ≡ length P) × (is_existential P x ≡ false)) →
        (cond t 0 (suc (place P x)) ≡ suc (length P)) × (cond t (is_exists b.quant) (is_existential P x) ≡ false)
    go true h ih = absurd (cc)
    go false h ih = let r = ih h in (let z = r.0 in omega arith, r.1)

pub bound-of : (P : Prefix) (x : ℕ) (o : Option ℕ) → o ≡ cond (is_bound P x) (Some (place P x)) None → (at : ℕ) → o ≡ Some at →
    (is_bound P x ≡ true) × (place P x ≡ at)
bound-of P x o e at s = go (is_bound P x) refl (sym s ∙ e)
  where
    go : (b : Bool) → is_bound P x ≡ b → Some at ≡ cond b (Some (place P x)) None → (is_bound P x ≡ true) × (place P x ≡ at)
    go true p q = (p, cc)
    go false p q = absurd (cc)

pub unbound-of : (P : Prefix) (x : ℕ) (o : Option ℕ) → o ≡ cond (is_bound P x) (Some (place P x)) None → o ≡ None →
    is_bound P x ≡ false
unbound-of P x o e s = go (is_bound P x) refl (sym s ∙ e)
  where
    go : (b : Bool) → is_bound P x ≡ b → None ≡ cond b (Some (place P x)) None → is_bound P x ≡ false
    go true p q = absurd (cc)
    go false p q = p

pub is-eq : (b : Bool) (j k : Literal) → (b ≡ true ↔ (j ≡ k)) → b ≡ literal_eq j k
is-eq b j k h = go b refl (literal_eq j k) refl
  where
    go : (x : Bool) → b ≡ x → (y : Bool) → literal_eq j k ≡ y → b ≡ literal_eq j k
    go true e true f = e ∙ sym f
    go true e false f = absurd (let s : j ≡ k = h.0 e in let z : literal_eq j k ≡ true = subst (λ (m : Literal). literal_eq j m ≡ true) s (literal_eq-itself j) in cc)
    go false e true f = absurd (let z : b ≡ true = h.1 (literal_eq-sound j k f) in cc)
    go false e false f = e ∙ sym f

bound-last : (Q : Prefix) (b : Bound) (x : ℕ) → is_bound (Q ++ b ∷ []) x ≡ cond (eqb x b.var) true (is_bound Q x)
bound-last [] b x = go (eqb b.var x) refl (eqb x b.var) refl
  where
    go : (s : Bool) → eqb b.var x ≡ s → (t : Bool) → eqb x b.var ≡ t → cond s true false ≡ cond t true false
    go true e true f = refl
    go true e false f = absurd (grind arith)
    go false e true f = absurd (grind arith)
    go false e false f = refl
bound-last (a ∷ Q) b x = go (eqb a.var x) (eqb x b.var) (bound-last Q b x)
  where
    go : (s t : Bool) → is_bound (Q ++ b ∷ []) x ≡ cond t true (is_bound Q x) →
        cond s true (is_bound (Q ++ b ∷ []) x) ≡ cond t true (cond s true (is_bound Q x))
    go true true h = refl
    go true false h = refl
    go false t h = h

place-last : (Q : Prefix) (b : Bound) (x : ℕ) → is_bound Q b.var ≡ false →
    place (Q ++ b ∷ []) x ≡ cond (eqb x b.var) (length Q) (cond (is_bound Q x) (place Q x) (suc (length Q)))
place-last [] b x d = go (eqb b.var x) refl (eqb x b.var) refl
  where
    go : (s : Bool) → eqb b.var x ≡ s → (t : Bool) → eqb x b.var ≡ t → ◌≡◌ {A = ℕ} (cond s 0 1) (cond t 0 1)
    go true e true f = refl
    go true e false f = absurd (grind arith)
    go false e true f = absurd (grind arith)
    go false e false f = refl
place-last (a ∷ Q) b x d = go (eqb a.var x) refl (eqb x b.var) refl (eqb a.var b.var) refl d (place-last Q b x)
  where
    go : (s : Bool) → eqb a.var x ≡ s → (t : Bool) → eqb x b.var ≡ t → (u : Bool) → eqb a.var b.var ≡ u → cond u true (is_bound Q b.var) ≡ false →
        (is_bound Q b.var ≡ false → place (Q ++ b ∷ []) x ≡ cond t (length Q) (cond (is_bound Q x) (place Q x) (suc (length Q)))) →
        cond s 0 (suc (place (Q ++ b ∷ []) x)) ≡ cond t (suc (length Q)) (cond (cond s true (is_bound Q x)) (cond s 0 (suc (place Q x))) (suc (suc (length Q))))
    go s e t f true g h ih = absurd (cc)
    go true e true f false g h ih = absurd (grind arith)
    go true e false f false g h ih = refl
    go false e true f false g h ih = ap suc (ih h)
    go false e false f false g h ih = ap suc (ih h) ∙ inner (is_bound Q x)
      where
        inner : (w : Bool) → suc (cond w (place Q x) (suc (length Q))) ≡ cond w (suc (place Q x)) (suc (suc (length Q)))
        inner true = refl
        inner false = refl

pub placed-more : (P : Prefix) (i : ℕ) (b : Bound) (row row2 : List (Option ℕ)) → Distinct P → i < length P → take (i + 1) P ≡ take i P ++ b ∷ [] →
    is_bound (take i P) b.var ≡ false → AreSeats (take i P) row →
    ((x : ℕ) → look_at row2 x ≡ cond (eqb x b.var) (Some i) (look_at row x)) → AreSeats (take (i + 1) P) row2
placed-more P i b row row2 di lt t free placed put x =
    put x ∙ go (eqb x b.var) (is_bound (take i P) x) (bound-last (take i P) b x) (place-last (take i P) b x free) (placed x) ∙
    sym (ap (λ (Q : Prefix). cond (is_bound Q x) (Some (place Q x)) None) t)
  where
    len : length (take i P) ≡ i
    len = simp length-take (omega arith)

    go : (s w : Bool) → is_bound (take i P ++ b ∷ []) x ≡ cond s true w →
        place (take i P ++ b ∷ []) x ≡ cond s (length (take i P)) (cond w (place (take i P) x) (suc (length (take i P)))) →
        look_at row x ≡ cond w (Some (place (take i P) x)) None →
        cond s (Some i) (look_at row x) ≡ cond (is_bound (take i P ++ b ∷ []) x) (Some (place (take i P ++ b ∷ []) x)) None
    go true w e f h = sym (ap (λ (t : Bool). cond t (Some (place (take i P ++ b ∷ []) x)) None) e ∙ ap Some (f ∙ len))
    go false true e f h = h ∙ sym (ap (λ (t : Bool). cond t (Some (place (take i P ++ b ∷ []) x)) None) e ∙ ap Some f)
    go false false e f h = h ∙ sym (ap (λ (t : Bool). cond t (Some (place (take i P ++ b ∷ []) x)) None) e)

pub exchanged-last : (Q : Prefix) (b : Bound) → exchanged (Q ++ b ∷ []) ≡ exchanged Q ++ exchanged_bound b ∷ []
exchanged-last [] b = refl
exchanged-last (a ∷ Q) b = ap (λ (P : Prefix). exchanged_bound a ∷ P) (exchanged-last Q b)

pub tautology-is : (b : Bool) (C : List Literal) → (b ≡ true ↔ IsTautology C) → b ≡ is_tautology C
tautology-is true C h = sym (is_tautology-whole C (h.0 refl))
tautology-is false C h = sym (is_tautology-none C (λ t. let z : false ≡ true = h.1 t in absurd (cc)))

pub or-first : (a b c : Bool) → a ≡ b → c ≡ false → a ≡ b || c
or-first a true c e f = e
or-first a false c e f = e ∙ sym f
