-- Circuits of merged values in a graph.
use Rattle.std.proofs.Common.{◌≡◌, ℕ, zero, suc, ◌+◌, ◌<◌, Bool, true, false, cond, not, ◌&&◌, eqb, List, [], ◌∷◌, ◌++◌, inl, inr, length, slice_get, arith, refl, sym, ap, ◌∙◌, subst, Option, Some, None}
use Rattle.std.proofs.lemmas.List.{length_push}
use Rattle.std.proofs.lemmas.Option.{slice_get_within}
use Rattle.q_logic.specs.Prelude.{Literal, Circuit, constant, input, inverter, conjunction, disjunction, value_of, Strategy, circuit_of, literal_circuit, falsum}
use Rattle.q_logic.proofs.Common.{slice_get-append}
use Rattle.q_aig.specs.Prelude.{Net, IsLiteral, tree_at, operand_of, turned, Keeps, Serves, IsConjunction}
use Rattle.q_aig.proofs.Substitutes.{serves-self, serves-same, serves-then, serves-inverter, serves-conjunction, turned-serves}
use Rattle.q_certificate.specs.Prelude.{AreLiterals, IsAt, IsGrown, IsDisjunction, IsRaised, literal_operand}
use Rattle.q_certificate.proofs.Folds.{serves-disjunction}
use Rattle.q_certificate.proofs.LiteralRows.{at-kept, literal-there, literal-serves}
use Rattle.q_certificate.proofs.CircuitParts.{grown-none, grown-then, grown-by, true-serves, false-serves, constant-there}
use Rattle.q_derive.proofs.Following.{slice-last, slice-at}
use Rattle.q_long.specs.Valued.{Value, value_for, picked}
use Rattle.q_long.specs.Decided.{either, alike}
use Rattle.q_extract.specs.declared.said.Said.TheVariants.{Constant, Merged}
use Rattle.q_extract.specs.declared.said.Merge.{Merge}
use Rattle.q_extract.specs.Merges.{circuit_in, said_circuit, merge_circuit, circuits_after, merge_circuits, value_by, value_at, IsChosen, NodesServe, AreNodes, IsNodeOf, HavePivotsIn, no_circuits, IsMergeNode, IsMerging, extra}
use Rattle.q_extract.specs.Built.{IsAlike, IsGiving}

kept-serves : (a b : Net) (l : ℕ) → Keeps a b → IsLiteral a l → Serves (tree_at b l) (tree_at a l)
kept-serves a b l k h = serves-same _ _ (k l h).1

pub serves-either : (h s t h2 s2 t2 : Circuit) → Serves h h2 → Serves s s2 → Serves t t2 → Serves (either h s t) (either h2 s2 t2)
serves-either h s t h2 s2 t2 a b c =
    serves-disjunction _ _ _ _ (serves-conjunction _ _ _ _ a b) (serves-conjunction _ _ _ _ (serves-inverter _ _ a) c)

-- a choice
pub chosen-is : (a b c d : Net) (h n s t x y r : ℕ) → IsLiteral a h → IsLiteral a s → IsLiteral a t → operand_of n ≡ turned (operand_of h) →
    IsConjunction a b h s x → IsConjunction b c n t y → IsDisjunction c d x y r → IsChosen a d h s t r
chosen-is a b c d h n s t x y r lh ls lt en f g e =
    let no : Serves (tree_at b n) (inverter (tree_at a h)) = serves-then _ _ _ (turned-serves b h n en) (serves-inverter _ _ (kept-serves a b h f.kept lh)) in
    let left : Serves (tree_at c x) (conjunction (tree_at a h) (tree_at a s)) = serves-then _ _ _ (kept-serves b c x g.kept f.there) f.serves in
    let right : Serves (tree_at c y) (conjunction (inverter (tree_at a h)) (tree_at a t)) = serves-then _ _ _ g.serves (serves-conjunction _ _ _ _ no (kept-serves a b t f.kept lt)) in
    record {
      grown = grown-then a c d 2 1 3 (grown-then a b c 1 1 2 (grown-by a b h s x f) (grown-by b c n t y g) (omega arith)) e.grown (omega arith);
      there = e.there;
      serves = serves-then _ _ _ e.serves (serves-disjunction _ _ _ _ left right);
    }

swap-value : (u s t : Bool) → not (not (not u && s) && not (not (not u) && t)) ≡ not (not (u && t) && not (not u && s))
swap-value true true true = refl
swap-value true true false = refl
swap-value true false true = refl
swap-value true false false = refl
swap-value false true true = refl
swap-value false true false = refl
swap-value false false true = refl
swap-value false false false = refl

picked-either : (k : Literal) (w s t s2 t2 : Circuit) → Serves w (literal_circuit no_circuits k) → Serves s s2 → Serves t t2 →
    Serves (either w s t) (picked k s2 t2)
picked-either k w s t s2 t2 a b c = go k.negative a
  where
    x : ℕ
    x = k.var

    go : (n : Bool) → Serves w (cond n (inverter (input x)) (input x)) →
        Serves (either w s t) (cond n (disjunction (conjunction (input x) t2) (conjunction (inverter (input x)) s2)) (disjunction (conjunction (input x) s2) (conjunction (inverter (input x)) t2)))
    go false a = serves-either w s t (input x) s2 t2 a b c
    go true a = serves-then _ _ _ (serves-either w s t (inverter (input x)) s2 t2 a b c) (record {
      values = λ A. swap-value (A x) (value_of s2 A) (value_of t2 A);
      reads = λ u h. elim h [
        | inl p ↦ inr p
        | inr p ↦ elim p [ inl q ↦ inl (inl q) | inr q ↦ inl (inr q) ]
      ];
    })

-- circuits of merges
pub after-last : (cs : List Circuit) (ms : List Merge) (m : Merge) →
    circuits_after cs (ms ++ m ∷ []) ≡ circuits_after cs ms ++ merge_circuit (circuits_after cs ms) m ∷ []
after-last cs [] m = refl
after-last cs (n ∷ ms) m = after-last (cs ++ merge_circuit cs n ∷ []) ms m

after-length : (cs : List Circuit) (ms : List Merge) → length (circuits_after cs ms) ≡ length cs + length ms
after-length cs [] = omega arith
after-length cs (m ∷ ms) =
    let i = after-length (cs ++ merge_circuit cs m ∷ []) ms in
    let n = length_push cs (merge_circuit cs m) in
    omega arith

pub circuits-length : (ms : List Merge) → length (merge_circuits ms) ≡ length ms
circuits-length ms = let z : length (circuits_after [] ms) ≡ 0 + length ms = after-length [] ms in omega arith

pub slice-before : {X : Type 0} (xs ys : List X) (i : ℕ) → i < length xs → slice_get (xs ++ ys) i ≡ slice_get xs i
slice-before [] ys i h = absurd (omega arith)
slice-before (x ∷ xs) ys zero h = refl
slice-before (x ∷ xs) ys (suc i) h = slice-before xs ys i (omega arith)

picked-extra : (k : Literal) (s t : Circuit) → extra (picked k s t) ≡ 3
picked-extra k s t = go k.negative
  where
    go : (n : Bool) → extra (cond n (disjunction (conjunction (input k.var) t) (conjunction (inverter (input k.var)) s)) (disjunction (conjunction (input k.var) s) (conjunction (inverter (input k.var)) t))) ≡ 3
    go true = refl
    go false = refl

after-extra : (cs : List Circuit) (ms : List Merge) → ((i : ℕ) → i < length cs → extra (circuit_in (slice_get cs i)) ≡ 3) →
    (i : ℕ) → i < length (circuits_after cs ms) → extra (circuit_in (slice_get (circuits_after cs ms) i)) ≡ 3
after-extra cs [] h i l = h i l
after-extra cs (m ∷ ms) h i l = after-extra (cs ++ merge_circuit cs m ∷ []) ms more i l
  where
    more : (j : ℕ) → j < length (cs ++ merge_circuit cs m ∷ []) → extra (circuit_in (slice_get (cs ++ merge_circuit cs m ∷ []) j)) ≡ 3
    more j k = go (eqb j (length cs)) refl
      where
        go : (b : Bool) → eqb j (length cs) ≡ b → extra (circuit_in (slice_get (cs ++ merge_circuit cs m ∷ []) j)) ≡ 3
        go true e =
            let z : j ≡ length cs = grind arith in
            ap (λ i. extra (circuit_in (slice_get (cs ++ merge_circuit cs m ∷ []) i))) z ∙
            ap (λ (o : Option Circuit). extra (circuit_in o)) (slice-at cs (merge_circuit cs m)) ∙
            picked-extra m.pivot (said_circuit cs m.first) (said_circuit cs m.second)
        go false e =
            let n = length_push cs (merge_circuit cs m) in
            let z : j < length cs = grind arith in
            ap (λ (o : Option Circuit). extra (circuit_in o)) (slice-before cs (merge_circuit cs m ∷ []) j z) ∙ h j z

pub merge-extra : (ms : List Merge) (i : ℕ) → i < length ms → extra (circuit_in (slice_get (merge_circuits ms) i)) ≡ 3
merge-extra ms i l = after-extra [] ms (λ j h. absurd (omega arith)) i (let z = circuits-length ms in omega arith)

-- literals for what is said
constant-serves : (a : Net) (l : ℕ) (b : Bool) → (operand_of l).node ≡ falsum → (operand_of l).negated ≡ b → Serves (tree_at a l) (constant b)
constant-serves a l true e f = true-serves a l e f
constant-serves a l false e f = false-serves a l e f

pub node-constant : (nodes : List ℕ) (b : Bool) (l : ℕ) → (operand_of l).node ≡ falsum → (operand_of l).negated ≡ b → IsNodeOf nodes (Constant b) l
node-constant nodes b l e f = record { there = λ a h. constant-there a l e; serves = λ a cs h. constant-serves a l b e f }

pub node-merged : (nodes : List ℕ) (i l : ℕ) → slice_get nodes i ≡ Some l → IsNodeOf nodes (Merged i) l
node-merged nodes i l e = record { there = λ a h. h i l e; serves = λ a cs h. h i l e }

pub merge-node-is : (old new : Net) (ins tb : List (Option ℕ)) (nodes : List ℕ) (m : Merge) (w s t l : ℕ) →
    operand_of w ≡ literal_operand ins tb m.pivot → IsNodeOf nodes m.first s → IsNodeOf nodes m.second t →
    IsChosen old new w s t l → IsMergeNode old new ins tb nodes m l
merge-node-is old new ins tb nodes m w s t l e f g c = record {
  grown = c.grown;
  there = c.there;
  serves = λ U cs at u h. serves-then _ _ _ c.serves (picked-either m.pivot _ _ _ _ _
      (literal-serves old ins tb U no_circuits m.pivot w e at (inr u)) (f.serves old cs h) (g.serves old cs h));
}

-- all merges
pub merging-start : (a : Net) (ins tb : List (Option ℕ)) (nodes : List ℕ) → nodes ≡ [] → IsMerging a a ins tb [] nodes
merging-start a ins tb nodes e = subst (IsMerging a a ins tb []) (sym e) (record {
  grown = grown-none a;
  size = refl;
  literals = λ i l h. absurd (none i l h);
  serve = λ U at p i l h. absurd (none i l h);
})
  where
    none : (i l : ℕ) → slice_get [] i ≡ Some l → ⊥
    none zero l h = cc
    none (suc i) l h = cc

pub merging-more : (old now new : Net) (ins tb : List (Option ℕ)) (ms : List Merge) (m : Merge) (nodes nodes2 : List ℕ) (r : ℕ) →
    AreLiterals old ins → AreLiterals old tb → IsMerging old now ins tb ms nodes → IsMergeNode now new ins tb nodes m r →
    nodes2 ≡ nodes ++ r ∷ [] → IsMerging old new ins tb (ms ++ m ∷ []) nodes2
merging-more old now new ins tb ms m nodes nodes2 r li lt h n e = subst (IsMerging old new ins tb (ms ++ m ∷ [])) (sym e) (record {
  grown =
      let z = length_push ms m in
      grown-then old now new (length ms + length ms + length ms) 3 (length (ms ++ m ∷ []) + length (ms ++ m ∷ []) + length (ms ++ m ∷ [])) h.grown n.grown (omega arith);
  size = let y = length_push ms m in let z = length_push nodes r in let x = h.size in omega arith;
  literals = λ i l q. elim (slice-last nodes r i l q) [
    | inl p ↦ (n.grown.kept l (h.literals i l p)).0
    | inr p ↦ subst (IsLiteral new) p.1 n.there
  ];
  serve = λ U at p. served U at p;
})
  where
    served : (U : ℕ → Bool) → IsAt old ins tb U no_circuits → HavePivotsIn U (ms ++ m ∷ []) →
        NodesServe new (merge_circuits (ms ++ m ∷ [])) (nodes ++ r ∷ [])
    served U at p i l q = elim (slice-last nodes r i l q) [
      | inl a ↦
          let lt : i < length cs = let z = slice_get_within nodes i l a in let y = circuits-length ms in let x = h.size in omega arith in
          let s : circuit_in (slice_get (merge_circuits (ms ++ m ∷ [])) i) ≡ circuit_in (slice_get cs i) =
          ap (λ (xs : List Circuit). circuit_in (slice_get xs i)) (after-last [] ms m) ∙ ap circuit_in (slice-before cs (merge_circuit cs m ∷ []) i lt) in
          subst (Serves (tree_at new l)) (sym s) (serves-then _ _ _ (kept-serves now new l n.grown.kept (h.literals i l a)) (before i l a))
      | inr a ↦
          let z : i ≡ length cs = let y = circuits-length ms in let x = h.size in let w = a.0 in omega arith in
          let s : circuit_in (slice_get (merge_circuits (ms ++ m ∷ [])) i) ≡ merge_circuit cs m =
          ap (λ (xs : List Circuit). circuit_in (slice_get xs i)) (after-last [] ms m) ∙
          ap (λ j. circuit_in (slice_get (cs ++ merge_circuit cs m ∷ []) j)) z ∙ ap circuit_in (slice-at cs (merge_circuit cs m)) in
          subst (λ j. Serves (tree_at new j) (circuit_in (slice_get (merge_circuits (ms ++ m ∷ [])) i))) a.1
          (subst (Serves (tree_at new r)) (sym s)
          (n.serves U cs (at-kept old now ins tb U no_circuits h.grown.kept li lt at) (p (length ms) m (slice-at ms m)) before))
    ]
      where
        cs : List Circuit
        cs = merge_circuits ms

        before : NodesServe now cs nodes
        before = h.serve U at (λ j x y. p j x (slice_get-append ms (m ∷ []) j x y))

pub merging-nodes : (old new : Net) (ins tb : List (Option ℕ)) (ms : List Merge) (nodes : List ℕ) (U : ℕ → Bool) → IsAt old ins tb U no_circuits →
    HavePivotsIn U ms → IsMerging old new ins tb ms nodes → AreNodes new (merge_circuits ms) nodes
merging-nodes old new ins tb ms nodes U at p h = record {
  size = h.size ∙ sym (circuits-length ms);
  literals = h.literals;
  serve = h.serve U at p;
}

pub nodes-kept : (a b : Net) (cs : List Circuit) (nodes : List ℕ) → Keeps a b → AreNodes a cs nodes → AreNodes b cs nodes
nodes-kept a b cs nodes k h = record {
  size = h.size;
  literals = λ i l e. (k l (h.literals i l e)).0;
  serve = λ i l e. serves-then _ _ _ (kept-serves a b l k (h.literals i l e)) (h.serve i l e);
}

-- whether a variable has a value
pub value-plain : (cs : List Circuit) (f : ℕ → Option ℕ) (k : Literal) → f k.var ≡ None → value_at cs f k ≡ value_for k
value-plain cs f k e = ap (λ o. value_by cs o k) e

pub value-merged : (cs : List Circuit) (f : ℕ → Option ℕ) (k : Literal) (i : ℕ) → f k.var ≡ Some i →
    value_at cs f k ≡ record { var = k.var; circuit = circuit_in (slice_get cs i) }
value-merged cs f k i e = ap (λ o. value_by cs o k) e

alike-value : (n v : Bool) → cond n (not v) v ≡ not (not (v && not n) && not (not v && not (not n)))
alike-value true true = refl
alike-value true false = refl
alike-value false true = refl
alike-value false false = refl

plain-alike : (c : Strategy) (k : Literal) → Serves (literal_circuit c k) (alike (circuit_of c k.var) (constant (not k.negative)))
plain-alike c k = go k.negative
  where
    t : Circuit
    t = circuit_of c k.var

    go : (n : Bool) → Serves (cond n (inverter t) t) (alike t (constant (not n)))
    go true = record { values = λ A. alike-value true (value_of t A); reads = λ u r. inl (inl r) }
    go false = record { values = λ A. alike-value false (value_of t A); reads = λ u r. inl (inl r) }

pub alike-plain : (a : Net) (ins tb : List (Option ℕ)) (cs : List Circuit) (f : ℕ → Option ℕ) (k : Literal) (l : ℕ) → f k.var ≡ None →
    AreLiterals a ins → AreLiterals a tb → operand_of l ≡ literal_operand ins tb k → IsAlike a a ins tb (value_at cs f k) l
alike-plain a ins tb cs f k l e li lt o = subst (λ (v : Value). IsAlike a a ins tb v l) (sym (value-plain cs f k e)) (record {
  grown = grown-none a;
  there = literal-there a ins tb k l o li lt;
  serves = λ U c at g. serves-then _ _ _ (literal-serves a ins tb U c k l o at g) (plain-alike c k);
})

pub alike-merged : (old new : Net) (ins tb : List (Option ℕ)) (ms : List Merge) (f : ℕ → Option ℕ) (nodes : List ℕ) (k p : Literal) (i o v n l : ℕ) →
    f k.var ≡ Some i → i < length ms → p ≡ record { var = k.var; negative = false } → operand_of o ≡ literal_operand ins tb p →
    AreNodes old (merge_circuits ms) nodes → slice_get nodes i ≡ Some v → operand_of n ≡ turned (operand_of v) → IsChosen old new o v n l →
    IsAlike old new ins tb (value_at (merge_circuits ms) f k) l
alike-merged old new ins tb ms f nodes k p i o v n l e lt q w h s z c =
    subst (λ (x : Value). IsAlike old new ins tb x l) (sym (value-merged (merge_circuits ms) f k i e)) (record {
      grown = subst (IsGrown old new) (sym (merge-extra ms i lt)) c.grown;
      there = c.there;
      serves = λ U d at g. serves-then _ _ _ c.serves (serves-either _ _ _ _ _ _
          (literal-serves old ins tb U d (record { var = k.var; negative = false }) o (subst (λ (x : Literal). operand_of o ≡ literal_operand ins tb x) q w) at g)
          (h.serve i v s)
          (serves-then _ _ _ (turned-serves old v n z) (serves-inverter _ _ (h.serve i v s))));
    })

-- a value over what was built of the drops behind
raised-value : (n h a : Bool) → cond n (a && not h) (not (not a && not h)) ≡ not (not (h && not n) && not (not h && a))
raised-value true true true = refl
raised-value true true false = refl
raised-value true false true = refl
raised-value true false false = refl
raised-value false true true = refl
raised-value false true false = refl
raised-value false false true = refl
raised-value false false false = refl

raised-either : (n : Bool) (h a : Circuit) → Serves (cond n (conjunction a (inverter h)) (disjunction a h)) (either h (constant (not n)) a)
raised-either true h a = record {
  values = λ A. raised-value true (value_of h A) (value_of a A);
  reads = λ u r. elim r [ inl x ↦ inr (inr x) | inr x ↦ inl (inl x) ];
}
raised-either false h a = record {
  values = λ A. raised-value false (value_of h A) (value_of a A);
  reads = λ u r. elim r [ inl x ↦ inr (inr x) | inr x ↦ inl (inl x) ];
}

pub giving-plain : (old new : Net) (cs : List Circuit) (f : ℕ → Option ℕ) (k : Literal) (h a l : ℕ) → f k.var ≡ None →
    IsRaised old new k.negative a h l → IsGiving old new (value_at cs f k) h a l
giving-plain old new cs f k h a l e r = subst (λ (v : Value). IsGiving old new v h a l) (sym (value-plain cs f k e)) (record {
  grown = r.grown;
  there = r.there;
  serves = serves-then _ _ _ r.serves (raised-either k.negative (tree_at old h) (tree_at old a));
})

pub giving-merged : (old new : Net) (ms : List Merge) (f : ℕ → Option ℕ) (nodes : List ℕ) (k : Literal) (i v h a l : ℕ) → f k.var ≡ Some i →
    i < length ms → AreNodes old (merge_circuits ms) nodes → slice_get nodes i ≡ Some v → IsChosen old new h v a l →
    IsGiving old new (value_at (merge_circuits ms) f k) h a l
giving-merged old new ms f nodes k i v h a l e lt n s c =
    subst (λ (x : Value). IsGiving old new x h a l) (sym (value-merged (merge_circuits ms) f k i e)) (record {
      grown = subst (λ m. IsGrown old new (1 + m)) (sym (merge-extra ms i lt)) (grown-then old new new 3 0 4 c.grown (grown-none new) (omega arith));
      there = c.there;
      serves = serves-then _ _ _ c.serves (serves-either _ _ _ _ _ _ (serves-self _) (n.serve i v s) (serves-self _));
    })

pub value-var : (cs : List Circuit) (f : ℕ → Option ℕ) (k : Literal) → (value_at cs f k).var ≡ k.var
value-var cs f k = go (f k.var)
  where
    go : (o : Option ℕ) → (value_by cs o k).var ≡ k.var
    go None = refl
    go (Some i) = refl
