-- Parts of circuits, one step further.
use Rattle.std.proofs.Common.{◌≡◌, ℕ, ◌+◌, ◌-◌, ◌≤◌, Bool, true, false, cond, eqb, List, [], ◌∷◌, ◌++◌, length, inl, inr, arith, refl, sym, ap, ◌∙◌, subst, Option, Some, None}
use Rattle.std.proofs.lemmas.List.{length_push}
use Rattle.q_logic.specs.Prelude.{Literal, Clause, Circuit, constant, inverter, conjunction, disjunction, Operand, IsThere, falsum, operand_tree, gate_trees, Strategy, literals_in, all_of, raised, pivoted, pivot, removed, freshened, with_circuit}
use Rattle.q_aig.specs.Prelude.{Net, IsLiteral, tree_at, operand_of, turned, Keeps, Serves, IsConjunction}
use Rattle.q_aig.proofs.Substitutes.{serves-self, serves-same, serves-then, serves-inverter, serves-conjunction, turned-serves, turned-there}
use Rattle.q_certificate.specs.Covered.{OutersCovered, weight}
use Rattle.q_certificate.specs.Standing.{look_at, AreLiterals, literal_operand, Stands, IsAt}
use Rattle.q_certificate.specs.Growing.{IsGrown, IsDisjunction, IsRaised, IsSomeOf, IsAllOf}
use Rattle.q_certificate.specs.Undone.{IsUndone}
use Rattle.q_certificate.proofs.Folds.{serves-disjunction, some_of-last, all_of-last, literals-last, IsIn-last}
use Rattle.q_logic.proofs.Common.{IsIn-append_left, none_or_some}
use Rattle.q_certificate.proofs.LiteralRows.{literals-kept, at-kept, literal-serves, stands-put, literals-put}

pub keeps-then : (a b c : Net) → Keeps a b → Keeps b c → Keeps a c
keeps-then a b c f g l h = let r = f l h in let s = g l r.0 in (s.0, s.1 ∙ r.1)

pub grown-none : (a : Net) → IsGrown a a 0
grown-none a = record { inputs = refl; gates = omega arith; kept = λ l h. (h, refl) }

pub grown-then : (a b c : Net) (m n k : ℕ) → IsGrown a b m → IsGrown b c n → m + n ≤ k → IsGrown a c k
grown-then a b c m n k f g le = record {
  inputs = g.inputs ∙ f.inputs;
  gates = let x : length b.gates ≤ length a.gates + m = f.gates in let y : length c.gates ≤ length b.gates + n = g.gates in omega arith;
  kept = keeps-then a b c f.kept g.kept;
}

pub grown-by : (a b : Net) (l m r : ℕ) → IsConjunction a b l m r → IsGrown a b 1
grown-by a b l m r h = record { inputs = h.inputs; gates = h.gates; kept = h.kept }

pub operand-is : (o : Operand) (b : Bool) → o.node ≡ falsum → o.negated ≡ b → o ≡ record { node = falsum; negated = b }
operand-is o b e f = λ i. record { node = e i; negated = f i }

pub or-is : (a b : Net) (x y nx ny l r : ℕ) → operand_of nx ≡ turned (operand_of x) → operand_of ny ≡ turned (operand_of y) → IsConjunction a b nx ny l → operand_of r ≡ turned (operand_of l) → IsDisjunction a b x y r
or-is a b x y nx ny l r ex ey h er = record {
  grown = grown-by a b nx ny l h;
  there = turned-there b l r er h.there;
  serves = serves-then _ _ _ (turned-serves b l r er) (serves-inverter _ _ (serves-then _ _ _ h.serves (serves-conjunction _ _ _ _ (turned-serves a x nx ex) (turned-serves a y ny ey))));
}

pub raise-or : (a b : Net) (x h r : ℕ) → IsDisjunction a b x h r → IsRaised a b false x h r
raise-or a b x h r d = record { grown = d.grown; there = d.there; serves = d.serves }

pub raise-and : (a b : Net) (x h nh r : ℕ) → operand_of nh ≡ turned (operand_of h) → IsConjunction a b x nh r → IsRaised a b true x h r
raise-and a b x h nh r e c = record {
  grown = grown-by a b x nh r c;
  there = c.there;
  serves = serves-then _ _ _ c.serves (serves-conjunction _ _ _ _ (serves-self (tree_at a x)) (turned-serves a h nh e));
}

pub constant-there : (a : Net) (l : ℕ) → (operand_of l).node ≡ falsum → IsLiteral a l
constant-there a l e = subst (IsThere (length a.inputs) (length a.gates)) (sym e) tt

constant-tree : (a : Net) (l : ℕ) (b : Bool) → (operand_of l).node ≡ falsum → (operand_of l).negated ≡ b → tree_at a l ≡ operand_tree a.inputs (gate_trees a.inputs [] a.gates) (record { node = falsum; negated = b })
constant-tree a l b e f = ap (operand_tree a.inputs (gate_trees a.inputs [] a.gates)) (operand-is (operand_of l) b e f)

pub false-serves : (a : Net) (l : ℕ) → (operand_of l).node ≡ falsum → (operand_of l).negated ≡ false → Serves (tree_at a l) (constant false)
false-serves a l e f = serves-same _ _ (constant-tree a l false e f)

pub true-serves : (a : Net) (l : ℕ) → (operand_of l).node ≡ falsum → (operand_of l).negated ≡ true → Serves (tree_at a l) (constant true)
true-serves a l e f = serves-then _ _ _ (serves-same _ _ (constant-tree a l true e f)) (record { values = λ A. refl; reads = λ u h. h })

pub some-none : (a : Net) (ins tb : List (Option ℕ)) (l : ℕ) → (operand_of l).node ≡ falsum → (operand_of l).negated ≡ false → IsSomeOf a a ins tb [] l
some-none a ins tb l e f = record {
  grown = grown-none a;
  there = constant-there a l e;
  serves = λ U c h v. false-serves a l e f;
}

pub some-more : (old now new : Net) (ins tb : List (Option ℕ)) (O : Clause) (k : Literal) (l m r : ℕ) → AreLiterals old ins → AreLiterals old tb → IsSomeOf old now ins tb O l → operand_of m ≡ literal_operand ins tb k → IsDisjunction now new l m r → IsSomeOf old new ins tb (O ++ k ∷ []) r
some-more old now new ins tb O k l m r li lt s e d =
    let len = length_push O k in
    record {
      grown = grown-then old now new (length O) 1 (length (O ++ k ∷ [])) s.grown d.grown (omega arith);
      there = d.there;
      serves = λ U c h v.
          let g = at-kept old now ins tb U c s.grown.kept li lt h in
          let a = s.serves U c h (λ j i. v j (IsIn-append_left j O (k ∷ []) i)) in
          let b = literal-serves now ins tb U c k m e g (v k (IsIn-last k O)) in
          serves-then _ _ _ d.serves (serves-then _ _ _ (serves-disjunction _ _ _ _ a b) (some_of-last c O k));
    }

pub all-none : (a : Net) (ins tb : List (Option ℕ)) (l : ℕ) → (operand_of l).node ≡ falsum → (operand_of l).negated ≡ true → IsAllOf a a ins tb [] l
all-none a ins tb l e f = record {
  grown = grown-none a;
  there = constant-there a l e;
  constant = λ z. e;
  serves = λ U c h v. true-serves a l e f;
}

pub same-gates : (a b : Net) → a ≡ b → length a.gates ≡ length b.gates
same-gates a b e = ap (λ (n : Net). length n.gates) e

pub all-more : (old now mid new : Net) (ins tb : List (Option ℕ)) (Os : List Clause) (O : Clause) (l p r : ℕ) → AreLiterals old ins → AreLiterals old tb → IsAllOf old now ins tb Os l → IsSomeOf now mid ins tb O p → IsConjunction mid new l p r → ((operand_of l).node ≡ falsum → new ≡ mid) → IsAllOf old new ins tb (Os ++ O ∷ []) r
all-more old now mid new ins tb Os O l p r li lt s t c free =
    let len = length_push Os O in
    let lits = literals-last Os O in
    record {
      grown = record {
        inputs = c.inputs ∙ t.grown.inputs ∙ s.grown.inputs;
        gates =
            let x : length now.gates ≤ length old.gates + (literals_in Os + (length Os - 1)) = s.grown.gates in
            let y : length mid.gates ≤ length now.gates + length O = t.grown.gates in
            let z : length new.gates ≤ length mid.gates + 1 = c.gates in
            elim (none_or_some (length Os)) [
              | inl e ↦ let f : length new.gates ≡ length mid.gates = same-gates new mid (free (s.constant e)) in omega arith
              | inr e ↦ omega arith
            ];
        kept = keeps-then old mid new (keeps-then old now mid s.grown.kept t.grown.kept) c.kept;
      };
      there = c.there;
      constant = λ e. absurd (omega arith);
      serves = λ U d h v.
          let g = at-kept old now ins tb U d s.grown.kept li lt h in
          let a = s.serves U d h (λ N i. v N (IsIn-append_left N Os (O ∷ []) i)) in
          let a2 : Serves (tree_at mid l) (all_of d Os) = serves-then _ _ _ (serves-same _ _ (t.grown.kept l s.there).1) a in
          let b = t.serves U d g (v O (IsIn-last O Os)) in
          serves-then _ _ _ c.serves (serves-then _ _ _ (serves-conjunction _ _ _ _ a2 b) (all_of-last d Os O));
    }

pub raise-more : (n : Bool) (s t g h : Circuit) → Serves s t → Serves g h → Serves (cond n (conjunction s (inverter g)) (disjunction s g)) (cond n (conjunction t (inverter h)) (disjunction t h))
raise-more true s t g h f k = serves-conjunction _ _ _ _ f (serves-inverter _ _ k)
raise-more false s t g h f k = serves-disjunction _ _ _ _ f k

pub undone-pivot : (old mid new : Net) (ins tb tb2 : List (Option ℕ)) (k : Literal) (Os : List Clause) (a h r : ℕ) → AreLiterals old ins → AreLiterals old tb → look_at tb k.var ≡ Some a → IsAllOf old mid ins tb Os h → IsRaised mid new k.negative a h r → ((operand_of h).node ≡ falsum → new ≡ mid) → ((x : ℕ) → look_at tb2 x ≡ cond (eqb x k.var) (Some r) (look_at tb x)) → IsUndone old new ins tb tb2 (pivot k Os)
undone-pivot old mid new ins tb tb2 k Os a h r li lt is al ra free put = record {
  grown = record {
    inputs = ra.grown.inputs ∙ al.grown.inputs;
    gates =
        let x : length mid.gates ≤ length old.gates + (literals_in Os + (length Os - 1)) = al.grown.gates in
        let y : length new.gates ≤ length mid.gates + 1 = ra.grown.gates in
        elim (none_or_some (length Os)) [
          | inl e ↦ let f : length new.gates ≡ length mid.gates = same-gates new mid (free (al.constant e)) in omega arith
          | inr e ↦ omega arith
        ];
    kept = kept;
  };
  literals = literals-put new tb tb2 k.var (Some r) put (λ l e. subst (IsLiteral new) (some-same r l e) ra.there) (literals-kept old new tb kept lt);
  at = λ U c g v.
      stands-put new ins tb tb2 U c (pivoted k Os c) k.var (Some r) put (λ x e. rw e)
      (λ x e. subst (λ (b : Bool). Stands new (cond b (raised k.negative (all_of c Os) (c x)) (c x)) (Some r)) (sym e)
      (up U c g v (c x) (subst (Stands old (c x)) (here x e) (g.circuits x))))
      (at-kept old new ins tb U c kept li lt g);
}
  where
    kept : Keeps old new
    kept = keeps-then old mid new al.grown.kept ra.grown.kept

    some-same : (m n : ℕ) → Some m ≡ Some n → m ≡ n
    some-same m n e = cc

    here : (x : ℕ) → eqb x k.var ≡ true → look_at tb x ≡ Some a
    here x e = let q : k.var ≡ x = grind arith in subst (λ (y : ℕ). look_at tb y ≡ Some a) q is

    up : (U : ℕ → Bool) (c : Strategy) → IsAt old ins tb U c → OutersCovered U c Os → (o : Option Circuit) → Stands old o (Some a) → Stands new (raised k.negative (all_of c Os) o) (Some r)
    up U c g v None s = absurd s
    up U c g v (Some t) s =
        let x : Serves (tree_at mid a) t = serves-then _ _ _ (serves-same _ _ (al.grown.kept a (lt k.var a is)).1) s in
        serves-then _ _ _ ra.serves (raise-more k.negative _ _ _ _ x (al.serves U c g v))

pub undone-nothing : (old : Net) (ins tb : List (Option ℕ)) (k : Literal) (Os : List Clause) → AreLiterals old tb → look_at tb k.var ≡ None → IsUndone old old ins tb tb (pivot k Os)
undone-nothing old ins tb k Os lt is = record {
  grown = grown-then old old old 0 0 (weight (pivot k Os)) (grown-none old) (grown-none old) (omega arith);
  literals = lt;
  at = λ U c g v. record {
    inputs = g.inputs;
    circuits = λ x. go c x (eqb x k.var) refl (g.circuits x);
  };
}
  where
    up : (c : Strategy) (o : Option Circuit) → Stands old o None → Stands old (raised k.negative (all_of c Os) o) None
    up c None s = tt
    up c (Some t) s = absurd s

    go : (c : Strategy) (x : ℕ) (b : Bool) → eqb x k.var ≡ b → Stands old (c x) (look_at tb x) → Stands old (pivoted k Os c x) (look_at tb x)
    go c x true e s =
        let q : k.var ≡ x = grind arith in
        let n : look_at tb x ≡ None = subst (λ (y : ℕ). look_at tb y ≡ None) q is in
        subst (λ (b : Bool). Stands old (cond b (raised k.negative (all_of c Os) (c x)) (c x)) (look_at tb x)) (sym e)
        (subst (Stands old (raised k.negative (all_of c Os) (c x))) (sym n) (up c (c x) (subst (Stands old (c x)) n s)))
    go c x false e s = subst (λ (b : Bool). Stands old (cond b (raised k.negative (all_of c Os) (c x)) (c x)) (look_at tb x)) (sym e) s

undone-put : (old : Net) (ins tb tb2 : List (Option ℕ)) (v : ℕ) (o : Option Circuit) (m : Option ℕ) → AreLiterals old tb → ((l : ℕ) → m ≡ Some l → IsLiteral old l) → Stands old o m → ((x : ℕ) → look_at tb2 x ≡ cond (eqb x v) m (look_at tb x)) → AreLiterals old tb2 × ((U : ℕ → Bool) (c : Strategy) → IsAt old ins tb U c → IsAt old ins tb2 U (with_circuit v o c))
undone-put old ins tb tb2 v o m lt hm s put = (
  literals-put old tb tb2 v m put hm lt,
  λ U c g. stands-put old ins tb tb2 U c (with_circuit v o c) v m put (λ x e. rw e) (λ x e. subst (λ (b : Bool). Stands old (cond b o (c x)) m) (sym e) s) g,
)

pub undone-removed : (old : Net) (ins tb tb2 : List (Option ℕ)) (v l : ℕ) → AreLiterals old tb → (operand_of l).node ≡ falsum → (operand_of l).negated ≡ false → ((x : ℕ) → look_at tb2 x ≡ cond (eqb x v) (Some l) (look_at tb x)) → IsUndone old old ins tb tb2 (removed v)
undone-removed old ins tb tb2 v l lt e f put =
    let r = undone-put old ins tb tb2 v (Some (constant false)) (Some l) lt (λ k q. let s : l ≡ k = cc in subst (IsLiteral old) s (constant-there old l e)) (false-serves old l e f) put in
    record { grown = grown-none old; literals = r.0; at = λ U c g v. r.1 U c g }

pub undone-fresh : (old : Net) (ins tb tb2 : List (Option ℕ)) (v : ℕ) → AreLiterals old tb → ((x : ℕ) → look_at tb2 x ≡ cond (eqb x v) None (look_at tb x)) → IsUndone old old ins tb tb2 (freshened v)
undone-fresh old ins tb tb2 v lt put =
    let r = undone-put old ins tb tb2 v None None lt (λ k q. absurd (cc)) tt put in
    record { grown = grown-none old; literals = r.0; at = λ U c g v. r.1 U c g }
