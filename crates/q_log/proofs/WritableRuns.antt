-- Valid steps from a formula that the code may hold can be written into a log: with each clause in literal order.
use Rattle.std.proofs.Common.{◌≡◌, ◌≤◌, ◌<◌, ◌+◌, ◌*◌, ◌^◌, ℕ, suc, Bool, true, false, cond, eqb, List, [], ◌∷◌, ◌++◌, map, length, Option, Some, None, ◌⊎◌, inl, inr, refl, sym, ap, ◌∙◌, subst, arith}
use Rattle.std.specs.List.{AllByRecursion}
use Rattle.q_logic.specs.declared.limits.Limits.{Limits}
use Rattle.q_logic.specs.declared.formulas.Quant.TheVariants.{Exists}
use Rattle.q_logic.specs.Prelude.{Literal, IsBelow, negation, Clause, Matrix, Prefix, IsIn, PrenexFormula, blocks, SameBlocks, ArePairs, IsProper, clause_of, Chain, begin, more, Conflicts, negations, Implied, outer, without, ExistsPivot, ForallPivot, Reached, Reducible, has, ProofStep, add, delete, drop_literal, fresh, remove_variable, Valid, after, one_less, clause_eq, KeepsLimits, literals_in, Within, IsWarranted, IsDroppable, insert_after, removed_from, IsFirst, first_of, in_front, ValidSteps, Run, standard, formula_of}
use Rattle.q_logic.proofs.Common.{IsIn-append, IsIn-append_left, IsIn-outer, IsIn-append_right, IsIn-outer_in, without-other, has-IsIn, IsIn-has, existential-is_bound, pairs-ordered, ordered-pairs, without-ordered, clause_of-ordered, IsIn-clause_of, clause_of-IsIn, is_clause_of, clause_of-ordered_clause, IsIn-without, without-IsIn, clause_eq-sound, SameClauses, IsIn-alike, alike-refl, alike-sym, alike-trans, alike-cons, alike-uncons, alike-swap, one_less-alike, SameBlocks-refl, AllByRecursion-IsIn, clause_of-length, same-sizes, InRange, bound-range}
use Rattle.q_logic.proofs.InOrder.{AreInOrder}
use Rattle.q_logic.proofs.ClauseCounts.{no_copies}
use Rattle.q_logic.proofs.Propagation.{IsIn-negations}
use Rattle.q_log.specs.Texts.{IsLogged}

-- clauses with the same literals

abbrev Same : Clause → Clause → Type 0
Same C D = ((k : Literal) → IsIn k C → IsIn k D) × ((k : Literal) → IsIn k D → IsIn k C)

abbrev Covered : Matrix → Matrix → Type 0
Covered X Y = (D : Clause) → IsIn D X → (E : Clause) × IsIn E Y × Same D E

same-clause_of : (C : Clause) → Same C (clause_of C)
same-clause_of C = ((λ k m. clause_of-IsIn k C m), (λ k m. IsIn-clause_of k C m))

-- what propagation gives, it gives over clauses with the same literals

chain-over : (X Y : Matrix) (s t K : List Literal) → Covered X Y → ((k : Literal) → IsIn k s → IsIn k t) → Chain X s K → (L : List Literal) × Chain Y t L × ((k : Literal) → IsIn k K → IsIn k L)
chain-over X Y s t K c f begin = (t, begin, f)
chain-over X Y s t K c f (more {K = J} k D inX inD rest ch) =
    let r : (L : List Literal) × Chain Y t L × ((k : Literal) → IsIn k J → IsIn k L) = chain-over X Y s t J c f ch in
    let e : (E : Clause) × IsIn E Y × Same D E = c D inX in
    (k ∷ r.0, more k e.0 e.1 (e.2.0 k inD) (λ j i d. r.2 (negation j) (rest j (e.2.1 j i) d)) r.1, λ j i. elim i [ inl q ↦ inl q | inr q ↦ inr (r.2 j q) ])

implied-over : (X Y : Matrix) (S T : Clause) → Covered X Y → ((k : Literal) → IsIn k S → IsIn k T) → Implied X S → Implied Y T
implied-over X Y S T c f (K, ch, conflict) =
    let r : (L : List Literal) × Chain Y (negations T) L × ((k : Literal) → IsIn k K → IsIn k L) = chain-over X Y (negations S) (negations T) K c (IsIn-negations S T f) ch in
    (r.0, r.1, go r.0 r.2 conflict)
  where
    go : (L : List Literal) → ((k : Literal) → IsIn k K → IsIn k L) → Conflicts X K → Conflicts Y L
    go L g (inl (k, a, b)) = inl (k, g k a, g (negation k) b)
    go L g (inr (D, m, h)) = let e : (E : Clause) × IsIn E Y × Same D E = c D m in inr (e.0, e.1, λ j i. g (negation j) (h j (e.2.1 j i)))

outer-more : (P : Prefix) (m : Literal) (D E : Clause) → ((k : Literal) → IsIn k D → IsIn k E) → (k : Literal) → IsIn k (outer P m D) → IsIn k (outer P m E)
outer-more P m D E f k i = let r = IsIn-outer P m D k i in IsIn-outer_in P m E k (f k r.0) r.1

joined-more : (A B C D : Clause) → ((k : Literal) → IsIn k A → IsIn k B) → ((k : Literal) → IsIn k C → IsIn k D) → (k : Literal) → IsIn k (A ++ C) → IsIn k (B ++ D)
joined-more A B C D f g k m = elim (IsIn-append k A C m) [ inl a ↦ IsIn-append_left k B D (f k a) | inr b ↦ IsIn-append_right k B D (g k b) ]

without-more : (l : Literal) (C D : Clause) → ((k : Literal) → IsIn k C → IsIn k D) → (k : Literal) → IsIn k (without l C) → IsIn k (without l D)
without-more l C D f k m = IsIn-without l D k (f k (without-IsIn l C k m)) (without-other l C k m)

exists-over : (P : Prefix) (X Y : Matrix) (C D : Clause) (l : Literal) → Covered X Y → Covered Y X → Same C D → ExistsPivot P X C l → ExistsPivot P Y D l
exists-over P X Y C D l c d s h = record {
  existential_pivot = h.existential_pivot;
  in_clause = s.0 l h.in_clause;
  implied = λ F m n.
      let e : (E : Clause) × IsIn E X × Same F E = d F m in
      implied-over X Y (C ++ outer P (negation l) e.0) (D ++ outer P (negation l) F) c
      (joined-more C D (outer P (negation l) e.0) (outer P (negation l) F) s.0 (outer-more P (negation l) e.0 F e.2.1))
      (h.implied e.0 e.1 (e.2.0 (negation l) n));
}

forall-over : (P : Prefix) (X Y : Matrix) (C D : Clause) (l : Literal) → Covered X Y → Covered Y X → Same C D → ForallPivot P X C l → ForallPivot P Y D l
forall-over P X Y C D l c d s h = record {
  universal_pivot = h.universal_pivot;
  in_clause = s.0 l h.in_clause;
  not_negated = λ m. h.not_negated (s.1 (negation l) m);
  implied = λ F m n.
      let e : (E : Clause) × IsIn E X × Same F E = d F m in
      implied-over X Y (without l C ++ outer P (negation l) e.0) (without l D ++ outer P (negation l) F) c
      (joined-more (without l C) (without l D) (outer P (negation l) e.0) (outer P (negation l) F) (without-more l C D s.0) (outer-more P (negation l) e.0 F e.2.1))
      (h.implied e.0 e.1 (e.2.0 (negation l) n));
}

reached-over : (P : Prefix) (X Y : Matrix) (C D : Clause) (l : Literal) → Covered Y X → Same C D → (F : Clause) → Reached P Y D l F → (E : Clause) × Reached P X C l E × Same F E
reached-over P X Y C D l d s F Reached.first = (C, Reached.first, (s.1, s.0))
reached-over P X Y C D l d s F (Reached.next {D = B} G k inB inG ex inner inY out r) =
    let b : (E : Clause) × Reached P X C l E × Same B E = reached-over P X Y C D l d s B r in
    let e : (E : Clause) × IsIn E X × Same G E = d G inY in
    (e.0, Reached.next e.0 k (b.2.0 k inB) (e.2.0 (negation k) inG) ex inner e.1 (λ m. out (e.2.1 l m)) b.1, e.2)

reducible-over : (P : Prefix) (X Y : Matrix) (C D : Clause) (l : Literal) → Covered Y X → Same C D → Reducible P X C l → Reducible P Y D l
reducible-over P X Y C D l d s h = record {
  universal_literal = h.universal_literal;
  in_clause = s.0 l h.in_clause;
  no_negation = λ F r m. let e : (E : Clause) × Reached P X C l E × Same F E = reached-over P X Y C D l d s F r in h.no_negation e.0 e.1 (e.2.0 (negation l) m);
}

-- each clause in literal order

abbrev pub tidy : Matrix → Matrix
tidy [] = []
tidy (C ∷ X) = clause_of C ∷ tidy X

tidy-IsIn : (D : Clause) (X : Matrix) → IsIn D X → IsIn (clause_of D) (tidy X)
tidy-IsIn D [] m = elim m [ ]
tidy-IsIn D (C ∷ X) (inl e) = inl (ap clause_of e)
tidy-IsIn D (C ∷ X) (inr m) = inr (tidy-IsIn D X m)

IsIn-tidy : (D : Clause) (X : Matrix) → IsIn D (tidy X) → (E : Clause) × IsIn E X × (D ≡ clause_of E)
IsIn-tidy D [] m = elim m [ ]
IsIn-tidy D (C ∷ X) (inl e) = (C, inl refl, e)
IsIn-tidy D (C ∷ X) (inr m) = let r : (E : Clause) × IsIn E X × (D ≡ clause_of E) = IsIn-tidy D X m in (r.0, inr r.1, r.2)

tidy-covers : (X Y : Matrix) → SameClauses Y (tidy X) → Covered X Y
tidy-covers X Y a D m = (clause_of D, IsIn-alike (tidy X) Y (alike-sym Y (tidy X) a) (clause_of D) (tidy-IsIn D X m), same-clause_of D)

tidy-covered : (X Y : Matrix) → SameClauses Y (tidy X) → Covered Y X
tidy-covered X Y a D m =
    let r : (E : Clause) × IsIn E X × (D ≡ clause_of E) = IsIn-tidy D X (IsIn-alike Y (tidy X) a D m) in
    (r.0, r.1, subst (λ (C : Clause). Same C r.0) (sym r.2) ((same-clause_of r.0).1, (same-clause_of r.0).0))

tidy-one_less : (C : Clause) (X : Matrix) → IsIn C X → SameClauses (tidy X) (clause_of C ∷ tidy (one_less C X))
tidy-one_less C [] m = elim m [ ]
tidy-one_less C (E ∷ X) m = go (clause_eq E C) refl m (tidy-one_less C X)
  where
    go : (b : Bool) → clause_eq E C ≡ b → (C ≡ E) ⊎ IsIn C X → (IsIn C X → SameClauses (tidy X) (clause_of C ∷ tidy (one_less C X))) → SameClauses (clause_of E ∷ tidy X) (clause_of C ∷ tidy (cond b X (E ∷ one_less C X)))
    go true q n ih = subst (λ (D : Clause). SameClauses (clause_of E ∷ tidy X) (clause_of D ∷ tidy X)) (clause_eq-sound E C q) (alike-refl (clause_of E ∷ tidy X))
    go false q (inl e) ih = let z : clause_eq E C ≡ true = subst (λ y. clause_eq y C ≡ true) e (Rattle.q_logic.proofs.Runs.clause_eq-itself C) in absurd (cc)
    go false q (inr n) ih =
        alike-trans (clause_of E ∷ tidy X) (clause_of E ∷ clause_of C ∷ tidy (one_less C X)) (clause_of C ∷ clause_of E ∷ tidy (one_less C X))
        (alike-cons (clause_of E) (tidy X) (clause_of C ∷ tidy (one_less C X)) (ih n)) (alike-swap (clause_of E) (clause_of C) (tidy (one_less C X)))

less-tidy : (C : Clause) (X Y : Matrix) → SameClauses Y (tidy X) → IsIn C X → SameClauses (one_less (clause_of C) Y) (tidy (one_less C X))
less-tidy C X Y a m =
    let there : IsIn (clause_of C) Y = IsIn-alike (tidy X) Y (alike-sym Y (tidy X) a) (clause_of C) (tidy-IsIn C X m) in
    alike-uncons (clause_of C) (one_less (clause_of C) Y) (tidy (one_less C X))
    (alike-trans (clause_of C ∷ one_less (clause_of C) Y) Y (clause_of C ∷ tidy (one_less C X)) (alike-sym Y (clause_of C ∷ one_less (clause_of C) Y) (one_less-alike (clause_of C) Y there))
    (alike-trans Y (tidy X) (clause_of C ∷ tidy (one_less C X)) a (tidy-one_less C X m)))

tidy-alike : (X Y : Matrix) → SameClauses X Y → SameClauses (tidy X) (tidy Y)
tidy-alike [] Y a = let e : Y ≡ [] = no_copies Y a in rw e (alike-refl [])
tidy-alike (C ∷ X) Y a =
    let m : IsIn C Y = IsIn-alike (C ∷ X) Y a C (inl refl) in
    let rest : SameClauses X (one_less C Y) = alike-uncons C X (one_less C Y) (alike-trans (C ∷ X) Y (C ∷ one_less C Y) a (one_less-alike C Y m)) in
    alike-trans (clause_of C ∷ tidy X) (clause_of C ∷ tidy (one_less C Y)) (tidy Y)
    (alike-cons (clause_of C) (tidy X) (tidy (one_less C Y)) (tidy-alike X (one_less C Y) rest))
    (alike-sym (tidy Y) (clause_of C ∷ tidy (one_less C Y)) (tidy-one_less C Y m))

tidy-same : (X : Matrix) → AreInOrder X → tidy X ≡ X
tidy-same [] h = refl
tidy-same (C ∷ X) h = rw (clause_of-ordered_clause C (h C (inl refl)), tidy-same X (λ D m. h D (inr m))) refl

-- sizes

tidy-sizes : (X : Matrix) → (length (tidy X) ≡ length X) × (literals_in (tidy X) ≤ literals_in X)
tidy-sizes [] = (refl, omega arith)
tidy-sizes (C ∷ X) =
    let i : (length (tidy X) ≡ length X) × (literals_in (tidy X) ≤ literals_in X) = tidy-sizes X in
    let c : length (clause_of C) ≤ length C = clause_of-length C in
    (ap suc i.0, omega (arith, i.1))

tidy-limits : (m : Limits) (X Y : Matrix) → SameClauses Y (tidy X) → KeepsLimits m X → KeepsLimits m Y
tidy-limits m X Y a h =
    let s : (length Y ≡ length (tidy X)) × (literals_in Y ≡ literals_in (tidy X)) = same-sizes Y (tidy X) a in
    let t : (length (tidy X) ≡ length X) × (literals_in (tidy X) ≤ literals_in X) = tidy-sizes X in
    let e : length Y ≡ length X = s.0 ∙ t.0 in
    let f : literals_in Y ≡ literals_in (tidy X) = s.1 in
    let g : literals_in (tidy X) ≤ literals_in X = t.1 in
    record {
      clauses = subst (λ (n : ℕ). n ≤ 4 * m.clauses) (sym e) h.clauses;
      lits = let i : literals_in X ≤ 4 * m.lits = h.lits in omega arith;
    }

-- the steps with their clauses in literal order

abbrev first_in : Option Literal → Clause → Option Literal
first_in None C = first_of (clause_of C)
first_in (Some l) C = cond (has l C) (Some l) (first_of (clause_of C))

abbrev pub tidied : ProofStep → ProofStep
tidied (add p C) = add (first_in p C) (clause_of C)
tidied (delete p C) = delete (first_in p C) (clause_of C)
tidied (drop_literal l C) = drop_literal l (clause_of C)
tidied (fresh v w) = fresh v w
tidied (remove_variable v) = remove_variable v

has-first : (l : Literal) (C : Clause) → IsIn l C → first_in (Some l) C ≡ Some l
has-first l C m = ap (λ (b : Bool). cond b (Some l) (first_of (clause_of C))) (IsIn-has l C m)

warranted-over : (P : Prefix) (X Y : Matrix) (C : Clause) (p : Option Literal) → Covered X Y → Covered Y X → IsWarranted P X C p → IsWarranted P Y (clause_of C) (first_in p C)
warranted-over P X Y C p c d (inl h) = inl (implied-over X Y C (clause_of C) c (same-clause_of C).0 h)
warranted-over P X Y C p c d (inr (l, e, h)) =
    inr (l, ap (λ (q : Option Literal). first_in q C) e ∙ has-first l C h.in_clause, exists-over P X Y C (clause_of C) l c d (same-clause_of C) h)

within-over : (P : Prefix) (C : Clause) → Within P C → Within P (clause_of C)
within-over P C w k m = w k (IsIn-clause_of k C m)

without-clause_of : (l : Literal) (C : Clause) → without l (clause_of C) ≡ clause_of (without l C)
without-clause_of l C = is_clause_of (without l (clause_of C)) (without l C)
    (ordered-pairs (without l (clause_of C)) (without-ordered l (clause_of C) (pairs-ordered (clause_of C) (clause_of-ordered C))))
    (without-more l (clause_of C) C (same-clause_of C).1) (without-more l C (clause_of C) (same-clause_of C).0)

tidied-valid : (m : Limits) (P : Prefix) (X Y : Matrix) (s : ProofStep) → SameClauses Y (tidy X) → Valid m (formula_of P X) s → Valid m (formula_of P Y) (tidied s)
tidied-valid m P X Y (add p C) a (w, h, k) = (
  within-over P C w,
  warranted-over P X Y C p (tidy-covers X Y a) (tidy-covered X Y a) h,
  tidy-limits m (C ∷ X) (clause_of C ∷ Y) (alike-cons (clause_of C) Y (tidy X) a) k,
)
tidied-valid m P X Y (delete p C) a (w, i, h) =
    let b : SameClauses (one_less (clause_of C) Y) (tidy (one_less C X)) = less-tidy C X Y a i in (
      within-over P C w,
      IsIn-alike (tidy X) Y (alike-sym Y (tidy X) a) (clause_of C) (tidy-IsIn C X i),
      warranted-over P (one_less C X) (one_less (clause_of C) Y) C p (tidy-covers (one_less C X) (one_less (clause_of C) Y) b) (tidy-covered (one_less C X) (one_less (clause_of C) Y) b) h,
    )
tidied-valid m P X Y (drop_literal l C) a (w, i, h) =
    let b : SameClauses (one_less (clause_of C) Y) (tidy (one_less C X)) = less-tidy C X Y a i in (
      within-over P C w,
      IsIn-alike (tidy X) Y (alike-sym Y (tidy X) a) (clause_of C) (tidy-IsIn C X i),
      go (tidy-covers (one_less C X) (one_less (clause_of C) Y) b) (tidy-covered (one_less C X) (one_less (clause_of C) Y) b) h,
    )
  where
    go : Covered (one_less C X) (one_less (clause_of C) Y) → Covered (one_less (clause_of C) Y) (one_less C X) → IsDroppable P (one_less C X) C l → IsDroppable P (one_less (clause_of C) Y) (clause_of C) l
    go c d (inl f) = inl (forall-over P (one_less C X) (one_less (clause_of C) Y) C (clause_of C) l c d (same-clause_of C) f)
    go c d (inr r) = inr (reducible-over P (one_less C X) (one_less (clause_of C) Y) C (clause_of C) l d (same-clause_of C) r)
tidied-valid m P X Y (fresh v w) a h = h
tidied-valid m P X Y (remove_variable v) a h = (h.0, λ D i k n. let e : (E : Clause) × IsIn E X × Same D E = tidy-covered X Y a D i in h.1 e.0 e.1 k (e.2.0 k n))

tidied-after : (m : Limits) (P : Prefix) (X Y : Matrix) (s : ProofStep) → SameClauses Y (tidy X) → Valid m (formula_of P X) s →
    ((after (formula_of P Y) (tidied s)).prefix ≡ (after (formula_of P X) s).prefix) × SameClauses (after (formula_of P Y) (tidied s)).matrix (tidy (after (formula_of P X) s).matrix)
tidied-after m P X Y (add p C) a v = (refl, alike-cons (clause_of C) Y (tidy X) a)
tidied-after m P X Y (delete p C) a v = (refl, less-tidy C X Y a v.1)
tidied-after m P X Y (drop_literal l C) a v = (
  refl,
  subst (λ (D : Clause). SameClauses (without l (clause_of C) ∷ one_less (clause_of C) Y) (D ∷ tidy (one_less C X))) (without-clause_of l C)
      (alike-cons (without l (clause_of C)) (one_less (clause_of C) Y) (tidy (one_less C X)) (less-tidy C X Y a v.1)),
)
tidied-after m P X Y (fresh v w) a h = (refl, a)
tidied-after m P X Y (remove_variable v) a h = (refl, a)

-- they are steps that a log can hold

each : (P : Literal → Type 0) (ls : List Literal) → ((k : Literal) → IsIn k ls → P k) → AllByRecursion P ls
each P [] h = tt
each P (l ∷ ls) h = (h l (inl refl), each P ls (λ k m. h k (inr m)))

abbrev IsSmall : Literal → Type 0
IsSmall l = (1 ≤ l.var) × (l.var < 2 ^ 31)

fronted : (P : Prefix) (p : Option Literal) (C : Clause) → InRange P → Within P C → IsFirst p C → AllByRecursion IsSmall (in_front p C)
fronted P None C r w f = each IsSmall C (λ k m. bound-range P k.var r (w k m))
fronted P (Some l) C r w f = (bound-range P l.var r (w l f), each IsSmall (without l C) (λ k m. bound-range P k.var r (w k (without-IsIn l C k m))))

pub first-of : (C : Clause) → IsFirst (first_of C) C
first-of [] = refl
first-of (k ∷ C) = inl refl

first-in : (p : Option Literal) (C : Clause) → IsFirst (first_in p C) (clause_of C)
first-in None C = first-of (clause_of C)
first-in (Some l) C = go (has l C) refl
  where
    go : (b : Bool) → has l C ≡ b → IsFirst (cond b (Some l) (first_of (clause_of C))) (clause_of C)
    go true e = clause_of-IsIn l C (has-IsIn l C e)
    go false e = first-of (clause_of C)

droppable-in : (P : Prefix) (X : Matrix) (C : Clause) (l : Literal) → IsDroppable P X C l → IsIn l C
droppable-in P X C l (inl h) = h.in_clause
droppable-in P X C l (inr h) = h.in_clause

tidied-logged : (m : Limits) (P : Prefix) (X : Matrix) (s : ProofStep) → m.vars < 2 ^ 31 → InRange P → Valid m (formula_of P X) s → IsLogged (tidied s)
tidied-logged m P X (add p C) b r v =
    record { step = (clause_of-ordered C, first-in p C); numbers = fronted P (first_in p C) (clause_of C) r (within-over P C v.0) (first-in p C) }
tidied-logged m P X (delete p C) b r v =
    record { step = (clause_of-ordered C, first-in p C); numbers = fronted P (first_in p C) (clause_of C) r (within-over P C v.0) (first-in p C) }
tidied-logged m P X (drop_literal l C) b r v =
    let i : IsIn l (clause_of C) = clause_of-IsIn l C (droppable-in P (one_less C X) C l v.2) in
    record { step = (clause_of-ordered C, i); numbers = fronted P (Some l) (clause_of C) r (within-over P C v.0) i }
tidied-logged m P X (fresh v w) b r h =
    let a : 1 ≤ v = h.positive in
    let c : v ≤ m.vars = h.within in
    record { step = tt; numbers = ((a, omega arith), (bound-range P w r (existential-is_bound P w h.behind), tt)) }
tidied-logged m P X (remove_variable v) b r h = record { step = tt; numbers = (bound-range P v r h.0, tt) }

insert-range : (w v : ℕ) (P : Prefix) → InRange P → (1 ≤ v) × (v < 2 ^ 31) → InRange (insert_after w v P)
insert-range w v [] r h = tt
insert-range w v (b ∷ P) r h = go (eqb b.var w) (insert-range w v P r.1 h)
  where
    go : (t : Bool) → InRange (insert_after w v P) → InRange (cond t (b ∷ record { quant = Exists; var = v } ∷ P) (b ∷ insert_after w v P))
    go true i = (r.0, (h, r.1))
    go false i = (r.0, i)

removed-range : (v : ℕ) (P : Prefix) → InRange P → InRange (removed_from v P)
removed-range v [] r = tt
removed-range v (b ∷ P) r = go (eqb b.var v) (removed-range v P r.1)
  where
    go : (t : Bool) → InRange (removed_from v P) → InRange (cond t P (b ∷ removed_from v P))
    go true i = r.1
    go false i = (r.0, i)

after-range : (m : Limits) (P : Prefix) (X : Matrix) (s : ProofStep) → m.vars < 2 ^ 31 → InRange P → Valid m (formula_of P X) s → InRange (after (formula_of P X) s).prefix
after-range m P X (add p C) b r v = r
after-range m P X (delete p C) b r v = r
after-range m P X (drop_literal l C) b r v = r
after-range m P X (fresh v w) b r h = let a : 1 ≤ v = h.positive in let c : v ≤ m.vars = h.within in insert-range w v P r (a, omega arith)
after-range m P X (remove_variable v) b r h = removed-range v P r

-- the steps all together

record Tidied (m : Limits) (F : PrenexFormula) (ss : List ProofStep) (E : PrenexFormula) : Type 0 where
  pub last : PrenexFormula
  pub valid : ValidSteps m F ss last
  pub logged : AllByRecursion IsLogged ss
  pub prefix : last.prefix ≡ E.prefix
  pub clauses : SameClauses last.matrix (tidy E.matrix)

tidied-steps : (m : Limits) (F G : PrenexFormula) (ss : List ProofStep) (E : PrenexFormula) → m.vars < 2 ^ 31 → InRange F.prefix → G.prefix ≡ F.prefix → SameClauses G.matrix (tidy F.matrix) →
    ValidSteps m F ss E → Tidied m G (map tidied ss) E
tidied-steps m F G [] E b r p a v =
    record { last = G; valid = refl; logged = tt; prefix = p ∙ ap (λ (H : PrenexFormula). H.prefix) v; clauses = subst (λ (H : PrenexFormula). SameClauses G.matrix (tidy H.matrix)) v a }
tidied-steps m F G (s ∷ ss) E b r p a v =
    let same : formula_of F.prefix G.matrix ≡ G = ap (λ (P : Prefix). formula_of P G.matrix) (sym p) in
    let w : Valid m G (tidied s) = subst (λ (H : PrenexFormula). Valid m H (tidied s)) same (tidied-valid m F.prefix F.matrix G.matrix s a v.0) in
    let n : ((after G (tidied s)).prefix ≡ (after F s).prefix) × SameClauses (after G (tidied s)).matrix (tidy (after F s).matrix) =
    subst (λ (H : PrenexFormula). ((after H (tidied s)).prefix ≡ (after F s).prefix) × SameClauses (after H (tidied s)).matrix (tidy (after F s).matrix)) same (tidied-after m F.prefix F.matrix G.matrix s a v.0) in
    let i : Tidied m (after G (tidied s)) (map tidied ss) E = tidied-steps m (after F s) (after G (tidied s)) ss E b (after-range m F.prefix F.matrix s b r v.0) n.0 n.1 v.1 in
    record {
      last = i.last;
      valid = (w, i.valid);
      logged = (tidied-logged m F.prefix F.matrix s b r v.0, i.logged);
      prefix = i.prefix;
      clauses = i.clauses;
    }

pub run-logged : (F G : PrenexFormula) (ss : List ProofStep) → IsProper F → AreInOrder G.matrix → Run F ss G → (ts : List ProofStep) × Run F ts G × AllByRecursion IsLogged ts
run-logged F G ss p o r =
    let first : tidy F.matrix ≡ F.matrix = tidy-same F.matrix (λ D m. AllByRecursion-IsIn (ArePairs IsBelow) F.matrix D p.ordered m) in
    let t : Tidied standard F (map tidied ss) r.last = tidied-steps standard F F ss r.last (omega arith) p.ranges refl (subst (SameClauses F.matrix) (sym first) (alike-refl F.matrix)) r.steps in
    let end : SameClauses (tidy r.last.matrix) G.matrix = subst (SameClauses (tidy r.last.matrix)) (tidy-same G.matrix o) (tidy-alike r.last.matrix G.matrix r.same.same_clauses) in (
      map tidied ss,
      record {
        last = t.last;
        steps = t.valid;
        same = record {
          same_blocks = subst (λ (P : Prefix). SameBlocks (blocks P) (blocks G.prefix)) (sym t.prefix) r.same.same_blocks;
          same_clauses = alike-trans t.last.matrix (tidy r.last.matrix) G.matrix t.clauses end;
        };
      },
      t.logged,
    )
