-- The chains of the search are those of the definition.
use Rattle.std.proofs.Common.{◌≡◌, List, [], ◌∷◌, ◌++◌, map, Contains, refl, sym, ap, subst, inl, inr, append_assoc, append-nil, ◌↔◌}
use Rattle.std.proofs.lemmas.List.Elements.{Contains-append_left, Contains-push, Contains-push_cases}
use Rattle.q_logic.specs.Prelude.{Literal, negation, Clause, Matrix, IsIn, Chain, begin, more, Conflicts, Implied, negations}
use Rattle.q_prop.specs.Chains.{IsForced, IsChain, IsConflict, IsImplied}
use Rattle.q_logic.proofs.Common.{IsIn-Contains, Contains-IsIn}
use Rattle.q_prop.proofs.Chains.{IsChain-push}

negations-map : (s : Clause) → negations s ≡ map negation s
negations-map [] = refl
negations-map (k ∷ s) = ap (λ (t : Clause). negation k ∷ t) (negations-map s)

-- The list told from the front, whose literals are those of the chain.
abbrev Told : Matrix → List Literal → List Literal → Type 0
Told x start known = (added : List Literal) × IsChain x start added × ((l : Literal) → IsIn l known → Contains (start ++ added) l)

told : (x : Matrix) (start known : List Literal) → Chain x start known → Told x start known
told x start known begin = ([], tt, λ l m. rw append-nil (IsIn-Contains l start m))
told x start known (more {K = K} k D inX inD rest ch) =
    let t = told x start K ch in
    let f : IsForced x (start ++ t.0) k = record {
      clause = D;
      of_matrix = IsIn-Contains D x inX;
      of_clause = IsIn-Contains k D inD;
      others = λ j m n. t.2 (negation j) (rest j (Contains-IsIn j D m) n);
    } in (
      t.0 ++ k ∷ [],
      IsChain-push x start t.0 k t.1 f,
      λ l m. rw (← append_assoc) (elim m [
        | inl e ↦ subst (λ z. Contains ((start ++ t.0) ++ k ∷ []) z) (sym e) (Contains-push (start ++ t.0) k)
        | inr n ↦ Contains-append_left (start ++ t.0) (k ∷ []) l (t.2 l n)
      ]),
    )

-- The other way: the chain from what is known already goes on.
abbrev Back : Matrix → List Literal → List Literal → Type 0
Back x start some = (known : List Literal) × Chain x start known × ((l : Literal) → Contains some l → IsIn l known)

back : (x : Matrix) (start some added : List Literal) → IsChain x some added → Back x start some → Back x start (some ++ added)
back x start some [] h b = rw append-nil b
back x start some (l ∷ added) (f, h) (known, ch, all) =
    rw append_assoc at (back x start (some ++ l ∷ []) added h (
      l ∷ known,
      more l f.clause (Contains-IsIn f.clause x f.of_matrix) (Contains-IsIn l f.clause f.of_clause) (λ j m n. all (negation j) (f.others j (IsIn-Contains j f.clause m) n)) ch,
      λ k m. elim (Contains-push_cases some l k m) [ inl before ↦ inr (all k before) | inr e ↦ inl (sym e) ],
    ))

conflicts : (x : Matrix) (known some : List Literal) → ((l : Literal) → Contains some l → IsIn l known) → IsConflict x some → Conflicts x known
conflicts x known some all (inl o) = inl (o.0, all o.0 o.1, all (negation o.0) o.2)
conflicts x known some all (inr f) = inr (f.0, Contains-IsIn f.0 x f.1, λ j m. all (negation j) (f.2 j (IsIn-Contains j f.0 m)))

conflict_of : (x : Matrix) (known some : List Literal) → ((l : Literal) → IsIn l known → Contains some l) → Conflicts x known → IsConflict x some
conflict_of x known some all (inl (k, a, b)) = inl (k, all k a, all (negation k) b)
conflict_of x known some all (inr (D, m, f)) = inr (D, IsIn-Contains D x m, λ j i. all (negation j) (f j (Contains-IsIn j D i)))

pub implied_of : (x : Matrix) (s : Clause) → Implied x s → IsImplied x s
implied_of x s (K, ch, c) =
    let t = told x (map negation s) K (rw negations-map at ch) in
    record { added = t.0; chain = t.1; conflict = conflict_of x K (map negation s ++ t.0) t.2 c }

pub is_implied : (x : Matrix) (s : Clause) → IsImplied x s → Implied x s
is_implied x s i =
    let b = back x (map negation s) (map negation s) i.added i.chain (map negation s, begin, λ l m. Contains-IsIn l (map negation s) m) in
    rw negations-map (b.0, b.1, conflicts x b.0 (map negation s ++ i.added) b.2 i.conflict)

pub implied_exactly : (x : Matrix) (s : Clause) (r : Type 0) → r ↔ IsImplied x s → r ↔ Implied x s
implied_exactly x s r e = (λ h. is_implied x s (e.0 h), λ i. e.1 (implied_of x s i))
