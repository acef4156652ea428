-- The program decides what a proof is.
use Rattle.std.proofs.Common.{◌≡◌, ◌↔◌, ℕ, zero, suc, ◌+◌, ◌<◌, Bool, true, false, cond, not, ◌&&◌, ◌||◌, nat_lt, List, [], ◌∷◌, ◌⊎◌, inl, inr, arith, refl, sym, ap, subst, slice_get, Option, Some, None}
use Rattle.q_logic.specs.Prelude.{Literal, negation, literal_eq, Prefix, Matrix, IsIn, is_existential, has, PrenexFormula}
use Rattle.q_logic.specs.Prefixes.{place}
use Rattle.q_logic.specs.Sets.{IsTautology, is_tautology}
use Rattle.q_logic.specs.Exchanging.{exchanged}
use Rattle.q_logic.proofs.ClauseLemmas.{has-IsIn, IsIn-has, literal_eq-sound, literal_eq-itself}
use Rattle.q_logic.proofs.JoinedClauses.{is_tautology-sound}
use Rattle.q_logic.proofs.Decided.{is_tautology-whole}
use Rattle.q_derive.specs.Derivations.{Line, Reason, leaf, resolve, reduce, IsBefore, IsRest, IsTaken, IsReduced, Follows, IsDerivation, HasEmpty, IsHitting, HoldsClause, IsTermProof, IsRefutation}
use Rattle.q_derive.specs.Testing.{every, some, is_rest, is_taken, is_reduced, earlier, rest_of, reduced_of, follows, all_follow, is_nothing, has_empty, is_hitting, holds_clause, is_term_proof, is_refutation}

-- Tests and what they decide.
abbrev pub Decides : Bool → Type 0 → Type 0
Decides b S = b ≡ true ↔ S

pub both : (a b : Bool) (S T : Type 0) → Decides a S → Decides b T → Decides (a && b) (S × T)
both true true S T f g = (λ h. (f.0 refl, g.0 refl), λ h. refl)
both true false S T f g = (λ h. absurd (cc), λ h. g.1 h.1)
both false b S T f g = (λ h. absurd (cc), λ h. f.1 h.0)

pub either : (a b : Bool) (S T : Type 0) → Decides a S → Decides b T → Decides (a || b) (S ⊎ T)
either true b S T f g = (λ h. inl (f.0 refl), λ h. refl)
either false b S T f g = (λ h. inr (g.0 h), λ h. elim h [ inl s ↦ absurd (let z : false ≡ true = f.1 s in cc) | inr t ↦ g.1 t ])

pub neither : (a : Bool) (S : Type 0) → Decides a S → Decides (not a) (S → ⊥)
neither true S f = (λ h. absurd (cc), λ h. absurd (h (f.0 refl)))
neither false S f = (λ h s. let z : false ≡ true = f.1 s in absurd (cc), λ h. refl)

pub swapped : (b : Bool) (S T : Type 0) → Decides b S → (S → T) → (T → S) → Decides b T
swapped b S T d f g = (λ h. f (d.0 h), λ t. d.1 (g t))

pub every-decides : {X : Type 0} (f : X → Bool) (S : X → Type 0) (xs : List X) → ((x : X) → Decides (f x) (S x)) →
    Decides (every f xs) ((x : X) → IsIn x xs → S x)
every-decides {X} f S [] d = (λ h x m. elim m [ ], λ h. refl)
every-decides {X} f S (y ∷ xs) d =
    swapped (f y && every f xs) (S y × ((x : X) → IsIn x xs → S x)) ((x : X) → IsIn x (y ∷ xs) → S x)
    (both (f y) (every f xs) (S y) ((x : X) → IsIn x xs → S x) (d y) (every-decides f S xs d)) into out
  where
    into : S y × ((x : X) → IsIn x xs → S x) → (x : X) → IsIn x (y ∷ xs) → S x
    into p x (inl e) = subst S (sym e) p.0
    into p x (inr m) = p.1 x m

    out : ((x : X) → IsIn x (y ∷ xs) → S x) → S y × ((x : X) → IsIn x xs → S x)
    out p = (p y (inl refl), λ x m. p x (inr m))

pub some-decides : {X : Type 0} (f : X → Bool) (S : X → Type 0) (xs : List X) → ((x : X) → Decides (f x) (S x)) →
    Decides (some f xs) ((x : X) × IsIn x xs × S x)
some-decides {X} f S [] d = (λ h. absurd (cc), λ h. elim h.1 [ ])
some-decides {X} f S (y ∷ xs) d =
    swapped (f y || some f xs) (S y ⊎ ((x : X) × IsIn x xs × S x)) ((x : X) × IsIn x (y ∷ xs) × S x)
    (either (f y) (some f xs) (S y) ((x : X) × IsIn x xs × S x) (d y) (some-decides f S xs d)) into out
  where
    into : S y ⊎ ((x : X) × IsIn x xs × S x) → (x : X) × IsIn x (y ∷ xs) × S x
    into (inl s) = (y, inl refl, s)
    into (inr r) = (r.0, inr r.1, r.2)

    out : (x : X) × IsIn x (y ∷ xs) × S x → S y ⊎ ((x : X) × IsIn x xs × S x)
    out (x, inl e, s) = inl (subst S e s)
    out (x, inr m, s) = inr (x, m, s)

pub has-decides : (k : Literal) (T : List Literal) → Decides (has k T) (IsIn k T)
has-decides k T = (has-IsIn k T, IsIn-has k T)

pub eq-decides : (j k : Literal) → Decides (literal_eq j k) (j ≡ k)
eq-decides j k = (literal_eq-sound j k, λ e. subst (λ (z : Literal). literal_eq j z ≡ true) e (literal_eq-itself j))

pub below-decides : (m n : ℕ) → Decides (nat_lt m n) (m < n)
below-decides m n = (λ h. grind arith, λ h. grind arith)

-- Lines.
rest-decides : (S : List Literal) (k : Literal) (T : List Literal) → Decides (is_rest S k T) (IsRest S k T)
rest-decides S k T =
    every-decides (λ (j : Literal). literal_eq j k || has j T) (λ (j : Literal). (j ≡ k) ⊎ IsIn j T) S
    (λ j. either (literal_eq j k) (has j T) (j ≡ k) (IsIn j T) (eq-decides j k) (has-decides j T))

abbrev Behind : Prefix → List Literal → Literal → Type 0
Behind P T g = (k : Literal) → IsIn k T → place P k.var < place P g.var

taken-decides : (P : Prefix) (S T : List Literal) (g : Literal) → Decides (is_taken P S T g) (IsTaken P S T g)
taken-decides P S T g =
    swapped (is_taken P S T g) ((is_existential P g.var ≡ true) × ((IsIn (negation g) S → ⊥) × Behind P T g)) (IsTaken P S T g)
    (both (is_existential P g.var) (not (has (negation g) S) && every (λ (k : Literal). nat_lt (place P k.var) (place P g.var)) T)
    (is_existential P g.var ≡ true) ((IsIn (negation g) S → ⊥) × Behind P T g)
    (λ h. h, λ h. h)
    (both (not (has (negation g) S)) (every (λ (k : Literal). nat_lt (place P k.var) (place P g.var)) T)
    (IsIn (negation g) S → ⊥) (Behind P T g)
    (neither (has (negation g) S) (IsIn (negation g) S) (has-decides (negation g) S))
    (every-decides (λ (k : Literal). nat_lt (place P k.var) (place P g.var))
    (λ (k : Literal). place P k.var < place P g.var) T (λ k. below-decides (place P k.var) (place P g.var)))))
    (λ p. record { owned = p.0; alone = p.1.0; behind = p.1.1 })
    (λ t. (t.owned, (t.alone, t.behind)))

reduced-decides : (P : Prefix) (S T : List Literal) → Decides (is_reduced P S T) (IsReduced P S T)
reduced-decides P S T =
    every-decides (λ (g : Literal). has g T || is_taken P S T g) (λ (g : Literal). IsIn g T ⊎ IsTaken P S T g) S
    (λ g. either (has g T) (is_taken P S T g) (IsIn g T) (IsTaken P S T g) (has-decides g T) (taken-decides P S T g))

earlier-sound : (lines : List Line) (n i : ℕ) (line : Line) → earlier lines n i ≡ Some line →
    (i < n) × (slice_get lines i ≡ Some line)
earlier-sound lines n i line h = go (nat_lt i n) refl h
  where
    go : (b : Bool) → nat_lt i n ≡ b → cond b (slice_get lines i) None ≡ Some line →
        (i < n) × (slice_get lines i ≡ Some line)
    go true p q = ((below-decides i n).0 p, q)
    go false p q = absurd (cc)

earlier-complete : (lines : List Line) (n i : ℕ) (S : List Literal) → (b : IsBefore lines n i S) →
    earlier lines n i ≡ Some b.0
earlier-complete lines n i S (line, h, p, q) = let z : nat_lt i n ≡ true = (below-decides i n).1 h in rw z p

abbrev Of : List Line → ℕ → ℕ → (List Literal → Type 0) → Type 0
Of lines n i R = (S : List Literal) × IsBefore lines n i S × R S

rest_of-decides : (lines : List Line) (n i : ℕ) (k : Literal) (T : List Literal) →
    Decides (rest_of (earlier lines n i) k T) (Of lines n i (λ S. IsRest S k T))
rest_of-decides lines n i k T = (sound (earlier lines n i) refl, complete)
  where
    sound : (o : Option Line) → earlier lines n i ≡ o → rest_of o k T ≡ true → Of lines n i (λ S. IsRest S k T)
    sound None p h = absurd (cc)
    sound (Some line) p h =
        let e : (i < n) × (slice_get lines i ≡ Some line) = earlier-sound lines n i line p in
        (line.literals, (line, e.0, e.1, refl), (rest-decides line.literals k T).0 h)

    complete : Of lines n i (λ S. IsRest S k T) → rest_of (earlier lines n i) k T ≡ true
    complete (S, b, r) =
        let e : earlier lines n i ≡ Some b.0 = earlier-complete lines n i S b in
        rw e ((rest-decides b.0.literals k T).1 (subst (λ V. IsRest V k T) (sym b.3) r))

reduced_of-decides : (P : Prefix) (lines : List Line) (n i : ℕ) (T : List Literal) →
    Decides (reduced_of P (earlier lines n i) T) (Of lines n i (λ S. IsReduced P S T))
reduced_of-decides P lines n i T = (sound (earlier lines n i) refl, complete)
  where
    sound : (o : Option Line) → earlier lines n i ≡ o → reduced_of P o T ≡ true → Of lines n i (λ S. IsReduced P S T)
    sound None p h = absurd (cc)
    sound (Some line) p h =
        let e : (i < n) × (slice_get lines i ≡ Some line) = earlier-sound lines n i line p in
        (line.literals, (line, e.0, e.1, refl), (reduced-decides P line.literals T).0 h)

    complete : Of lines n i (λ S. IsReduced P S T) → reduced_of P (earlier lines n i) T ≡ true
    complete (S, b, r) =
        let e : earlier lines n i ≡ Some b.0 = earlier-complete lines n i S b in
        rw e ((reduced-decides P b.0.literals T).1 (subst (λ V. IsReduced P V T) (sym b.3) r))

follows-decides : (P : Prefix) (f : List Literal → Bool) (L : List Literal → Type 0) →
    ((T : List Literal) → Decides (f T) (L T)) → (lines : List Line) (n : ℕ) (T : List Literal) (r : Reason) →
    Decides (follows P f lines n T r) (Follows P L lines n T r)
follows-decides P f L d lines n T leaf = d T
follows-decides P f L d lines n T (resolve i j k) =
    swapped (rest_of (earlier lines n i) k T && rest_of (earlier lines n j) (negation k) T)
    (Of lines n i (λ S. IsRest S k T) × Of lines n j (λ U. IsRest U (negation k) T))
    (Follows P L lines n T (resolve i j k))
    (both (rest_of (earlier lines n i) k T) (rest_of (earlier lines n j) (negation k) T)
    (Of lines n i (λ S. IsRest S k T)) (Of lines n j (λ U. IsRest U (negation k) T))
    (rest_of-decides lines n i k T) (rest_of-decides lines n j (negation k) T))
    (λ p. (p.0.0, p.1.0, p.0.1, p.1.1, p.0.2, p.1.2))
    (λ p. ((p.0, p.2, p.4), (p.1, p.3, p.5)))
follows-decides P f L d lines n T (reduce i) = reduced_of-decides P lines n i T

abbrev AllFollow : Prefix → (List Literal → Type 0) → List Line → ℕ → List Line → Type 0
AllFollow P L lines n last =
    (m : ℕ) → (line : Line) → slice_get last m ≡ Some line → Follows P L lines (n + m) line.literals line.reason

all-decides : (P : Prefix) (f : List Literal → Bool) (L : List Literal → Type 0) →
    ((T : List Literal) → Decides (f T) (L T)) → (lines : List Line) (n : ℕ) (last : List Line) →
    Decides (all_follow P f lines n last) (AllFollow P L lines n last)
all-decides P f L d lines n [] = (λ h m line p. absurd (cc), λ h. refl)
all-decides P f L d lines n (l ∷ last) =
    swapped (follows P f lines n l.literals l.reason && all_follow P f lines (suc n) last)
    (Follows P L lines n l.literals l.reason × AllFollow P L lines (suc n) last) (AllFollow P L lines n (l ∷ last))
    (both (follows P f lines n l.literals l.reason) (all_follow P f lines (suc n) last)
    (Follows P L lines n l.literals l.reason) (AllFollow P L lines (suc n) last)
    (follows-decides P f L d lines n l.literals l.reason) (all-decides P f L d lines (suc n) last)) into out
  where
    here : n + 0 ≡ n
    here = omega arith

    more : (m : ℕ) → suc n + m ≡ n + suc m
    more m = omega arith

    into : Follows P L lines n l.literals l.reason × AllFollow P L lines (suc n) last → AllFollow P L lines n (l ∷ last)
    into p zero line e =
        let s : l ≡ line = cc in
        subst (λ (x : Line). Follows P L lines (n + 0) x.literals x.reason) s
        (subst (λ x. Follows P L lines x l.literals l.reason) (sym here) p.0)
    into p (suc m) line e = subst (λ x. Follows P L lines x line.literals line.reason) (more m) (p.1 m line e)

    out : AllFollow P L lines n (l ∷ last) → Follows P L lines n l.literals l.reason × AllFollow P L lines (suc n) last
    out p = (
      subst (λ x. Follows P L lines x l.literals l.reason) here (p 0 l refl),
      λ m line e. subst (λ x. Follows P L lines x line.literals line.reason) (sym (more m)) (p (suc m) line e),
    )

derivation-decides : (P : Prefix) (f : List Literal → Bool) (L : List Literal → Type 0) →
    ((T : List Literal) → Decides (f T) (L T)) → (lines : List Line) →
    Decides (all_follow P f lines 0 lines) (IsDerivation P L lines)
derivation-decides P f L d lines =
    swapped (all_follow P f lines 0 lines) (AllFollow P L lines 0 lines) (IsDerivation P L lines)
    (all-decides P f L d lines 0 lines)
    (λ a n line e. subst (λ x. Follows P L lines x line.literals line.reason) (left n) (a n line e))
    (λ a n line e. subst (λ x. Follows P L lines x line.literals line.reason) (sym (left n)) (a n line e))
  where
    left : (n : ℕ) → 0 + n ≡ n
    left n = omega arith

-- Ends and leaves.
empty-found : (lines : List Line) → (line : Line) × IsIn line lines × (line.literals ≡ []) → HasEmpty lines
empty-found lines (line, m, e) = go lines m
  where
    go : (xs : List Line) → IsIn line xs → HasEmpty xs
    go [] m = elim m [ ]
    go (x ∷ xs) (inl s) = (0, line, ap Some (sym s), e)
    go (x ∷ xs) (inr m) = let r : HasEmpty xs = go xs m in (suc r.0, r.1, r.2, r.3)

found-empty : (lines : List Line) → HasEmpty lines → (line : Line) × IsIn line lines × (line.literals ≡ [])
found-empty [] (n, line, p, e) = absurd (cc)
found-empty (x ∷ xs) (zero, line, p, e) = (line, inl (cc), e)
found-empty (x ∷ xs) (suc n, line, p, e) =
    let r : (line : Line) × IsIn line xs × (line.literals ≡ []) = found-empty xs (n, line, p, e) in (r.0, inr r.1, r.2)

nothing-decides : (T : List Literal) → Decides (is_nothing T) (T ≡ [])
nothing-decides [] = (λ h. refl, λ h. refl)
nothing-decides (k ∷ T) = (λ h. absurd (cc), λ h. absurd (cc))

empty-decides : (lines : List Line) → Decides (has_empty lines) (HasEmpty lines)
empty-decides lines =
    swapped (has_empty lines) ((line : Line) × IsIn line lines × (line.literals ≡ [])) (HasEmpty lines)
    (some-decides (λ (line : Line). is_nothing line.literals) (λ (line : Line). line.literals ≡ []) lines
    (λ line. nothing-decides line.literals)) (empty-found lines) (found-empty lines)

pub hitting-decides : (X : Matrix) (T : List Literal) → Decides (is_hitting X T) (IsHitting X T)
hitting-decides X T =
    every-decides (λ (D : List Literal). is_tautology D || some (λ (k : Literal). has k T) D)
    (λ (D : List Literal). IsTautology D ⊎ ((k : Literal) × IsIn k D × IsIn k T)) X
    (λ D. either (is_tautology D) (some (λ (k : Literal). has k T) D) (IsTautology D) ((k : Literal) × IsIn k D × IsIn k T)
    (is_tautology-sound D, is_tautology-whole D)
    (some-decides (λ (k : Literal). has k T) (λ (k : Literal). IsIn k T) D (λ k. has-decides k T)))

holds-decides : (X : Matrix) (T : List Literal) → Decides (holds_clause X T) (HoldsClause X T)
holds-decides X T =
    some-decides (λ (D : List Literal). every (λ (k : Literal). has k T) D)
    (λ (D : List Literal). (k : Literal) → IsIn k D → IsIn k T) X
    (λ D. every-decides (λ (k : Literal). has k T) (λ (k : Literal). IsIn k T) D (λ k. has-decides k T))

pub proof-decides : (F : PrenexFormula) (lines : List Line) → Decides (is_term_proof F lines) (IsTermProof F lines)
proof-decides F lines =
    swapped (is_term_proof F lines) (IsDerivation F.prefix (IsHitting F.matrix) lines × HasEmpty lines) (IsTermProof F lines)
    (both (all_follow F.prefix (is_hitting F.matrix) lines 0 lines) (has_empty lines)
    (IsDerivation F.prefix (IsHitting F.matrix) lines) (HasEmpty lines)
    (derivation-decides F.prefix (is_hitting F.matrix) (IsHitting F.matrix) (hitting-decides F.matrix) lines) (empty-decides lines))
    (λ p. record { follows = p.0; ends = p.1 }) (λ p. (p.follows, p.ends))

pub refutation-decides : (F : PrenexFormula) (lines : List Line) → Decides (is_refutation F lines) (IsRefutation F lines)
refutation-decides F lines =
    swapped (is_refutation F lines) (IsDerivation (exchanged F.prefix) (HoldsClause F.matrix) lines × HasEmpty lines) (IsRefutation F lines)
    (both (all_follow (exchanged F.prefix) (holds_clause F.matrix) lines 0 lines) (has_empty lines)
    (IsDerivation (exchanged F.prefix) (HoldsClause F.matrix) lines) (HasEmpty lines)
    (derivation-decides (exchanged F.prefix) (holds_clause F.matrix) (HoldsClause F.matrix) (holds-decides F.matrix) lines) (empty-decides lines))
    (λ p. record { follows = p.0; ends = p.1 }) (λ p. (p.follows, p.ends))
