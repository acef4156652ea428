-- Two undo lists of the same steps take circuits back alike: only the order of outer clauses differs, and it says nothing.
use Rattle.std.proofs.Common.{◌≡◌, ℕ, Bool, true, false, cond, eqb, List, [], ◌∷◌, ◌++◌, inl, inr, refl, sym, ap, ◌∙◌, subst, Option, Some, None}
use Rattle.q_logic.specs.Prelude.{Literal, negation, Clause, IsIn, PrenexFormula, is_existential, Assignment, ClauseTrue, signed, Circuit, constant, value_of, Strategy, or_input, given, outcome, one_less, ProofStep, add, delete, drop_literal, fresh, remove_variable, after, all_of, raised, pivoted, OutersOf, PivotEntry, UndoEntry, pivot, removed, freshened, with_circuit, Back, Entries, Undos}
use Rattle.q_logic.specs.Moves.{AgreeAt}
use Rattle.q_logic.proofs.Common.{all_of-true, all_of-false, IsIn-alike, same_first, Back-append}
use Rattle.q_logic.proofs.MovesBack.{raised-agree}

-- they agree everywhere
abbrev pub Alike : Strategy → Strategy → Assignment → Type 0
Alike c d A = (x : ℕ) → AgreeAt c d A x

clause-alike : (c d : Strategy) (A : Assignment) → Alike c d A → (O : Clause) → ClauseTrue (outcome c A) O → ClauseTrue (outcome d A) O
clause-alike c d A h O (k, m, t) = (k, m, ap (signed k.negative) (sym (h k.var).1) ∙ t)

alike-sym : (c d : Strategy) (A : Assignment) → Alike c d A → Alike d c A
alike-sym c d A h x = (sym (h x).0, sym (h x).1)

-- outer clauses in any order
all-alike : (c d : Strategy) (A : Assignment) (Os Ps : List Clause) → Alike c d A → ((O : Clause) → IsIn O Os → IsIn O Ps) →
    ((O : Clause) → IsIn O Ps → IsIn O Os) → value_of (all_of c Os) A ≡ value_of (all_of d Ps) A
all-alike c d A Os Ps h to from = go (value_of (all_of c Os) A) refl (value_of (all_of d Ps) A) refl
  where
    go : (a : Bool) → value_of (all_of c Os) A ≡ a → (b : Bool) → value_of (all_of d Ps) A ≡ b → value_of (all_of c Os) A ≡ value_of (all_of d Ps) A
    go true p true q = p ∙ sym q
    go false p false q = p ∙ sym q
    go true p false q =
        let w = all_of-false d A Ps q in
        absurd (w.2 (clause-alike c d A h w.0 (all_of-true c A Os p w.0 (from w.0 w.1))))
    go false p true q =
        let w = all_of-false c A Os p in
        absurd (w.2 (clause-alike d c A (alike-sym c d A h) w.0 (all_of-true d A Ps q w.0 (to w.0 w.1))))

pivot-alike : (l : Literal) (Os Ps : List Clause) (c d : Strategy) (A : Assignment) → Alike c d A →
    value_of (all_of c Os) A ≡ value_of (all_of d Ps) A → Alike (pivoted l Os c) (pivoted l Ps d) A
pivot-alike l Os Ps c d A h e x = go (eqb x l.var) (h x)
  where
    go : (z : Bool) → AgreeAt c d A x →
        (given (cond z (raised l.negative (all_of c Os) (c x)) (c x)) ≡ given (cond z (raised l.negative (all_of d Ps) (d x)) (d x))) ×
        (value_of (or_input x (cond z (raised l.negative (all_of c Os) (c x)) (c x))) A ≡
        value_of (or_input x (cond z (raised l.negative (all_of d Ps) (d x)) (d x))) A)
    go true a = raised-agree l.negative (all_of c Os) (all_of d Ps) A e x (c x) (d x) a.0 a.1
    go false a = a

circuit-alike : (v : ℕ) (o : Option Circuit) (c d : Strategy) (A : Assignment) → Alike c d A →
    Alike (with_circuit v o c) (with_circuit v o d) A
circuit-alike v o c d A h x = go (eqb x v) (h x)
  where
    go : (z : Bool) → AgreeAt c d A x →
        (given (cond z o (c x)) ≡ given (cond z o (d x))) ×
        (value_of (or_input x (cond z o (c x))) A ≡ value_of (or_input x (cond z o (d x))) A)
    go true a = (refl, refl)
    go false a = a

both : (us vs ws : List UndoEntry) (c d : Strategy) (A : Assignment) → us ≡ ws → vs ≡ ws → Alike (Back ws c) (Back ws d) A →
    Alike (Back us c) (Back vs d) A
both us vs ws c d A e f h =
    subst (λ (xs : List UndoEntry). Alike (Back xs c) (Back vs d) A) (sym e)
    (subst (λ (xs : List UndoEntry). Alike (Back ws c) (Back xs d) A) (sym f) h)

pivots-alike : (F : PrenexFormula) (p : Option Literal) (C : Clause) (us vs : List UndoEntry) (c d : Strategy) (A : Assignment) →
    PivotEntry F p C us → PivotEntry F p C vs → Alike c d A → Alike (Back us c) (Back vs d) A
pivots-alike F p C us vs c d A (l, Os, is, os, e) (m, Ps, js, ps, f) h =
    let s : m ≡ l = same_first p m l js is in
    let ps2 : OutersOf F.prefix (one_less C F.matrix) (negation l) Ps = subst (λ (k : Literal). OutersOf F.prefix (one_less C F.matrix) (negation k) Ps) s ps in
    let f2 : vs ≡ pivot l Ps ∷ [] = f ∙ ap (λ (k : Literal). pivot k Ps ∷ []) s in
    subst (λ (xs : List UndoEntry). Alike (Back xs c) (Back vs d) A) (sym e)
    (subst (λ (xs : List UndoEntry). Alike (pivoted l Os c) (Back xs d) A) (sym f2)
    (pivot-alike l Os Ps c d A h
    (all-alike c d A Os Ps h
    (λ O i. IsIn-alike Os Ps (λ Q. os Q ∙ sym (ps2 Q)) O i)
    (λ O i. IsIn-alike Ps Os (λ Q. ps2 Q ∙ sym (os Q)) O i))))

entries-alike : (F : PrenexFormula) (s : ProofStep) (us vs : List UndoEntry) (c d : Strategy) (A : Assignment) →
    Entries F s us → Entries F s vs → Alike c d A → Alike (Back us c) (Back vs d) A
entries-alike F (add p C) us vs c d A e f h = both us vs [] c d A e f h
entries-alike F (delete p C) us vs c d A (inl e) (inl f) h = both us vs [] c d A e.1 f.1 h
entries-alike F (delete p C) us vs c d A (inl e) (inr f) h = absurd (f.0 e.0)
entries-alike F (delete p C) us vs c d A (inr e) (inl f) h = absurd (e.0 f.0)
entries-alike F (delete p C) us vs c d A (inr e) (inr f) h = pivots-alike F p C us vs c d A e.1 f.1 h
entries-alike F (drop_literal l C) us vs c d A e f h = both us vs [] c d A e f h
entries-alike F (fresh v w) us vs c d A e f h =
    both us vs (freshened v ∷ []) c d A e f (circuit-alike v None c d A h)
entries-alike F (remove_variable v) us vs c d A e f h =
    both us vs (cond (is_existential F.prefix v) (removed v ∷ []) []) c d A e f (go (is_existential F.prefix v))
  where
    go : (b : Bool) → Alike (Back (cond b (removed v ∷ []) []) c) (Back (cond b (removed v ∷ []) []) d) A
    go true = circuit-alike v (Some (constant false)) c d A h
    go false = h

pub undos-alike : (F : PrenexFormula) (ss : List ProofStep) (us vs : List UndoEntry) (c d : Strategy) (A : Assignment) →
    Undos F ss us → Undos F ss vs → Alike c d A → Alike (Back us c) (Back vs d) A
undos-alike F [] us vs c d A u v h = both us vs [] c d A u v h
undos-alike F (s ∷ ss) us vs c d A (es, rest, e, u, is) (fs, more, f, v, js) h =
    subst (λ (xs : List UndoEntry). Alike (Back xs c) (Back vs d) A) (sym is)
    (subst (λ (xs : List UndoEntry). Alike (Back (es ++ rest) c) (Back xs d) A) (sym js)
    (subst (λ (k : Strategy). Alike k (Back (fs ++ more) d) A) (sym (Back-append es rest c))
    (subst (λ (k : Strategy). Alike (Back es (Back rest c)) k A) (sym (Back-append fs more d))
    (entries-alike F s es fs (Back rest c) (Back more d) A e f
    (undos-alike (after F s) ss rest more c d A u v h)))))
