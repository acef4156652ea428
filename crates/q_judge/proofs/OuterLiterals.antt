-- Outer clauses, literal by literal.
use Rattle.std.proofs.Common.{◌≡◌, Bool, true, false, cond, List, [], ◌∷◌, ◌++◌, refl, sym, ap, ◌∙◌, append-nil, append_assoc}
use Rattle.q_logic.specs.Prelude.{Literal, Clause, Prefix, keeps, outer}

cond_append : (b : Bool) (x : Literal) (xs ys : Clause) → cond b (x ∷ (xs ++ ys)) (xs ++ ys) ≡ cond b (x ∷ xs) xs ++ ys
cond_append true x xs ys = refl
cond_append false x xs ys = refl

pub outer_push : (P : Prefix) (m : Literal) (xs : Clause) (k : Literal) → outer P m (xs ++ k ∷ []) ≡ outer P m xs ++ outer P m (k ∷ [])
outer_push P m [] k = refl
outer_push P m (x ∷ xs) k =
    ap (λ (zs : Clause). cond (keeps P m x) (x ∷ zs) zs) (outer_push P m xs k)
    ∙ cond_append (keeps P m x) x (outer P m xs) (outer P m (k ∷ []))

pub outer_kept : (P : Prefix) (m k : Literal) (lits old : List Literal) (xs : Clause) → keeps P m k ≡ true → lits ≡ old ++ outer P m xs → lits ++ k ∷ [] ≡ old ++ outer P m (xs ++ k ∷ [])
outer_kept P m k lits old xs h e =
    let one : outer P m (k ∷ []) ≡ k ∷ [] = ap (λ (b : Bool). cond b (k ∷ []) []) h in
    ap (λ (zs : List Literal). zs ++ k ∷ []) e ∙ append_assoc old (outer P m xs) (k ∷ []) ∙ ap (λ (zs : List Literal). old ++ (outer P m xs ++ zs)) (sym one) ∙ ap (λ (zs : List Literal). old ++ zs) (sym (outer_push P m xs k))

pub outer_left : (P : Prefix) (m k : Literal) (lits old : List Literal) (xs : Clause) → keeps P m k ≡ false → lits ≡ old ++ outer P m xs → lits ≡ old ++ outer P m (xs ++ k ∷ [])
outer_left P m k lits old xs h e =
    let none : outer P m (k ∷ []) ≡ [] = ap (λ (b : Bool). cond b (k ∷ []) []) h in
    e ∙ ap (λ (zs : List Literal). old ++ zs) (sym (append-nil (outer P m xs))) ∙ ap (λ (zs : List Literal). old ++ (outer P m xs ++ zs)) (sym none) ∙ ap (λ (zs : List Literal). old ++ zs) (sym (outer_push P m xs k))
