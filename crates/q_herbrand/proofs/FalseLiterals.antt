-- Literals made false where others are, one step further; and entries that need no copy.
use Rattle.std.proofs.Common.{◌≡◌, ℕ, ◌+◌, ◌-◌, ◌≤◌, Bool, true, false, not, cond, eqb, List, [], ◌∷◌, ◌++◌, length, get_or, drop, inl, inr, arith, refl, sym, ap, ◌∙◌, subst, Option, Some, None}
use Rattle.std.proofs.lemmas.List.{length_push, drop_more}
use Rattle.std.proofs.lemmas.Option.{same_Some}
use Rattle.q_logic.specs.Prelude.{Literal, negation, Clause, Circuit, value_of, inverter, conjunction, Strategy, literal_circuit, raised, pivot, removed as undo_removed}
use Rattle.q_logic.proofs.Common.{IsIn-append_left}
use Rattle.q_aig.specs.Prelude.{Net, IsLiteral, tree_at, operand_of, turned, Serves, IsConjunction}
use Rattle.q_aig.proofs.Substitutes.{serves-self, serves-same, serves-then, serves-inverter, serves-conjunction, turned-serves}
use Rattle.q_certificate.specs.Prelude.{look_at, AreLiterals, literal_operand, Stands, IsRaised, IsUndone}
use Rattle.q_certificate.proofs.Folds.{IsIn-last, and-start, and-assoc}
use Rattle.q_certificate.proofs.LiteralRows.{literals-kept, at-kept, literal-serves, stands-put, literals-put}
use Rattle.q_certificate.proofs.CircuitParts.{grown-none, grown-then, grown-by, raise-more}
use Rattle.q_logic.specs.Reversals.{none_of, lowered_one, lowered_by, turned as turned_entry, plain, removed}
use Rattle.q_herbrand.specs.Parts.{IsNoneOf, IsLoweredOne, AreLowered}
use Rattle.q_herbrand.specs.Carried.{IsCarried}

none_of-last : (c : Strategy) (C : Clause) (k : Literal) →
    Serves (conjunction (none_of c C) (inverter (literal_circuit c k))) (none_of c (C ++ k ∷ []))
none_of-last c [] k = record {
  values = λ A. and-start (not (value_of (literal_circuit c k) A));
  reads = λ u h. elim h [ inl a ↦ absurd a | inr b ↦ inl b ];
}
none_of-last c (j ∷ C) k =
    let turn : Serves (conjunction (conjunction (inverter (literal_circuit c j)) (none_of c C))
    (inverter (literal_circuit c k))) (conjunction (inverter (literal_circuit c j))
    (conjunction (none_of c C) (inverter (literal_circuit c k)))) = record {
      values = λ A. and-assoc (not (value_of (literal_circuit c j) A)) (value_of (none_of c C) A)
          (not (value_of (literal_circuit c k) A));
      reads = λ u h. elim h [ inl a ↦ elim a [ inl d ↦ inl d | inr e ↦ inr (inl e) ] | inr b ↦ inr (inr b) ];
    } in
    serves-then _ _ _ turn (serves-conjunction _ _ _ _ (serves-self (inverter (literal_circuit c j)))
    (none_of-last c C k))

pub none-more : (old now new : Net) (ins tb : List (Option ℕ)) (C : Clause) (k : Literal) (l m n r : ℕ) →
    AreLiterals old ins → AreLiterals old tb → IsNoneOf old now ins tb C l →
    operand_of m ≡ literal_operand ins tb k → operand_of n ≡ turned (operand_of m) → IsConjunction now new l n r →
    IsNoneOf old new ins tb (C ++ k ∷ []) r
none-more old now new ins tb C k l m n r li lt s e t d =
    let len = length_push C k in
    record {
      grown = grown-then old now new (length C) 1 (length (C ++ k ∷ [])) s.grown (grown-by now new l n r d)
          (omega arith);
      there = d.there;
      serves = λ U c h v.
          let g = at-kept old now ins tb U c s.grown.kept li lt h in
          let a = s.serves U c h (λ j i. v j (IsIn-append_left j C (k ∷ []) i)) in
          let b = serves-then _ _ _ (turned-serves now m n t)
          (serves-inverter _ _ (literal-serves now ins tb U c k m e g (v k (IsIn-last k C)))) in
          serves-then _ _ _ d.serves (serves-then _ _ _ (serves-conjunction _ _ _ _ a b) (none_of-last c C k));
    }

-- One literal.
pub lowered-put : (old new : Net) (ins tb tb2 : List (Option ℕ)) (k : Literal) (a q r : ℕ) → AreLiterals old ins →
    AreLiterals old tb → look_at tb k.var ≡ Some a → IsRaised old new (not k.negative) a q r →
    ((x : ℕ) → look_at tb2 x ≡ cond (eqb x k.var) (Some r) (look_at tb x)) → IsLoweredOne old new ins tb tb2 q k
lowered-put old new ins tb tb2 k a q r li lt is ra put = record {
  grown = ra.grown;
  literals = literals-put new tb tb2 k.var (Some r) put (λ l e. subst (IsLiteral new) (same_Some r l e) ra.there)
      (literals-kept old new tb ra.grown.kept lt);
  at = λ U c h g sq.
      stands-put new ins tb tb2 U c (lowered_one h k c) k.var (Some r) put (λ x e. rw e)
      (λ x e. subst (λ (b : Bool). Stands new (cond b (raised (not k.negative) h (c x)) (c x)) (Some r)) (sym e)
      (up h sq (c x) (subst (Stands old (c x)) (here x e) (g.circuits x))))
      (at-kept old new ins tb U c ra.grown.kept li lt g);
}
  where
    here : (x : ℕ) → eqb x k.var ≡ true → look_at tb x ≡ Some a
    here x e = let z : k.var ≡ x = grind arith in subst (λ (y : ℕ). look_at tb y ≡ Some a) z is

    up : (h : Circuit) → Serves (tree_at old q) h → (o : Option Circuit) → Stands old o (Some a) →
        Stands new (raised (not k.negative) h o) (Some r)
    up h sq None s = absurd s
    up h sq (Some t) s = serves-then _ _ _ ra.serves (raise-more (not k.negative) _ _ _ _ s sq)

pub lowered-nothing : (old : Net) (ins tb : List (Option ℕ)) (k : Literal) (q : ℕ) → AreLiterals old tb →
    look_at tb k.var ≡ None → IsLoweredOne old old ins tb tb q k
lowered-nothing old ins tb k q lt is = record {
  grown = grown-then old old old 0 0 1 (grown-none old) (grown-none old) (omega arith);
  literals = lt;
  at = λ U c h g sq. record {
    inputs = g.inputs;
    circuits = λ x. go c h x (eqb x k.var) refl (g.circuits x);
  };
}
  where
    up : (h : Circuit) (o : Option Circuit) → Stands old o None → Stands old (raised (not k.negative) h o) None
    up h None s = tt
    up h (Some t) s = absurd s

    go : (c : Strategy) (h : Circuit) (x : ℕ) (b : Bool) → eqb x k.var ≡ b → Stands old (c x) (look_at tb x) →
        Stands old (lowered_one h k c x) (look_at tb x)
    go c h x true e s =
        let z : k.var ≡ x = grind arith in
        let n : look_at tb x ≡ None = subst (λ (y : ℕ). look_at tb y ≡ None) z is in
        subst (λ (b : Bool). Stands old (cond b (raised (not k.negative) h (c x)) (c x)) (look_at tb x)) (sym e)
        (subst (Stands old (raised (not k.negative) h (c x))) (sym n) (up h (c x) (subst (Stands old (c x)) n s)))
    go c h x false e s = subst (λ (b : Bool). Stands old (cond b (raised (not k.negative) h (c x)) (c x))
        (look_at tb x)) (sym e) s

pub lowered-none : (a : Net) (ins tb : List (Option ℕ)) (q : ℕ) → AreLiterals a tb → AreLowered a a ins tb tb q []
lowered-none a ins tb q lt = record { grown = grown-none a; literals = lt; at = λ U c h g s. g }

pub lowered-more : (old now new : Net) (ins tb tb1 tb2 : List (Option ℕ)) (q : ℕ) (k : Literal) (ks :
    List Literal) → IsLiteral old q → AreLowered old now ins tb tb1 q ks → IsLoweredOne now new ins tb1 tb2 q k →
    AreLowered old new ins tb tb2 q (k ∷ ks)
lowered-more old now new ins tb tb1 tb2 q k ks lq s t = record {
  grown = grown-then old now new (length ks) 1 (length (k ∷ ks)) s.grown t.grown (omega arith);
  literals = t.literals;
  at = λ U c h g sq. t.at U (lowered_by h ks c) h (s.at U c h g sq)
      (serves-then _ _ _ (serves-same _ _ (s.grown.kept q lq).1) sq);
}

-- Entries.
pub carried-plain : (old a b new : Net) (ins tb tb1 tb2 : List (Option ℕ)) (k : Literal) (same within : Clause) (q :
    ℕ) → AreLiterals old ins → AreLiterals old tb → IsNoneOf old a ins tb same q →
    AreLowered a b ins tb tb1 q within → IsLoweredOne b new ins tb1 tb2 q k →
    IsCarried old new ins tb tb2 (plain k same within)
carried-plain old a b new ins tb tb1 tb2 k same within q li lt n s t = record {
  grown = grown-then old b new (length same + length within) 1 (length same + length within + 2)
      (grown-then old a b (length same) (length within) (length same + length within) n.grown s.grown (omega arith))
      t.grown (omega arith);
  literals = t.literals;
  at = λ U c g v.
      let h : Circuit = none_of c same in
      let sq = n.serves U c g v in
      let g1 = at-kept old a ins tb U c n.grown.kept li lt g in
      let g2 = s.at U c h g1 sq in
      t.at U (lowered_by h within c) h g2
      (serves-then _ _ _ (serves-same _ _ (s.grown.kept q n.there).1) sq);
}

pub carried-turned : (old new : Net) (ins tb tb2 : List (Option ℕ)) (l : Literal) (Os : List Clause) →
    IsUndone old new ins tb tb2 (pivot (negation l) Os) → IsCarried old new ins tb tb2 (turned_entry l Os)
carried-turned old new ins tb tb2 l Os u = record {
  grown = u.grown;
  literals = u.literals;
  at = λ U c g v. u.at U c g v;
}

pub carried-removed : (old new : Net) (ins tb tb2 : List (Option ℕ)) (v : ℕ) →
    IsUndone old new ins tb tb2 (undo_removed v) → IsCarried old new ins tb tb2 (removed v)
carried-removed old new ins tb tb2 v u = record {
  grown = u.grown;
  literals = u.literals;
  at = λ U c g w. u.at U c g tt;
}

-- The list from the place before on.
pub drop-item : {X : Type 0} (xs : List X) (i : ℕ) (x : X) → i ≤ length xs → 1 ≤ i → x ≡ get_or xs (i - 1) x →
    drop (i - 1) xs ≡ x ∷ drop i xs
drop-item xs i x le lt e =
    let back : i - 1 + 1 ≡ i = omega arith in
    drop_more xs (i - 1) x (omega arith) ∙ ap (λ y. y ∷ drop (i - 1 + 1) xs) (sym e) ∙ ap (λ n. x ∷ drop n xs) back
