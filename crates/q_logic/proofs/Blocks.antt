-- Formulas with the same blocks and the same clauses.
use Rattle.std.proofs.Common.{◌≡◌, ◌↔◌, ℕ, ◌≤◌, Bool, true, false, cond, not, ◌&&◌, eqb, List, [], ◌∷◌, inl, inr, arith, refl, sym, ap, ◌∙◌, subst}
use Rattle.q_logic.specs.declared.formulas.Bound.{Bound}
use Rattle.q_logic.specs.Prelude.{Prefix, Clause, IsIn, PrenexFormula, is_exists, is_existential, is_bound, universal_before, Block, push_block, blocks, SameBlocks, Strategy, Lawful, SkolemOf, copies, SameFormula}
use Rattle.q_logic.proofs.Runs.{IsIn-copies, copies-IsIn, SameBlocks-refl}

abbrev pub among : ℕ → List ℕ → Bool
among x [] = false
among x (v ∷ vs) = cond (eqb v x) true (among x vs)

pub among-IsIn : (x : ℕ) (vs : List ℕ) → among x vs ≡ true → IsIn x vs
among-IsIn x [] h = grind arith
among-IsIn x (v ∷ vs) h = go (eqb v x) refl (among-IsIn x vs)
  where
    go : (b : Bool) → eqb v x ≡ b → (among x vs ≡ true → IsIn x vs) → IsIn x (v ∷ vs)
    go true q ih = inl (grind arith)
    go false q ih = inr (ih (grind arith))

IsIn-among : (x : ℕ) (vs : List ℕ) → IsIn x vs → among x vs ≡ true
IsIn-among x [] m = elim m [ ]
IsIn-among x (v ∷ vs) (inl e) = grind arith
IsIn-among x (v ∷ vs) (inr m) = let z : among x vs ≡ true = IsIn-among x vs m in grind arith

pub among-same : (x : ℕ) (vs ws : List ℕ) → IsIn x vs ↔ IsIn x ws → among x vs ≡ among x ws
among-same x vs ws e = go (among x vs) refl (among x ws) refl
  where
    go : (a : Bool) → among x vs ≡ a → (b : Bool) → among x ws ≡ b → among x vs ≡ among x ws
    go true p true q = p ∙ sym q
    go false p false q = p ∙ sym q
    go true p false q =
        let z : among x ws ≡ true = IsIn-among x ws (e.0 (among-IsIn x vs p)) in absurd (grind arith)
    go false p true q =
        let z : among x vs ≡ true = IsIn-among x vs (e.1 (among-IsIn x ws q)) in absurd (grind arith)

abbrev block_existential : List Block → ℕ → Bool
block_existential [] x = false
block_existential (B ∷ Bs) x = cond (among x B.vars) (is_exists B.quant) (block_existential Bs x)

abbrev pub block_bound : List Block → ℕ → Bool
block_bound [] x = false
block_bound (B ∷ Bs) x = cond (among x B.vars) true (block_bound Bs x)

abbrev block_before : List Block → ℕ → ℕ → Bool
block_before [] u x = false
block_before (B ∷ Bs) u x =
    cond (among x B.vars) false (cond (among u B.vars) (not (is_exists B.quant) && block_bound Bs x)
    (block_before Bs u x))

push-existential : (b : Bound) (Bs : List Block) (x : ℕ) → block_existential (push_block b Bs) x ≡
    cond (eqb b.var x) (is_exists b.quant) (block_existential Bs x)
push-existential b [] x = grind arith
push-existential b (B ∷ Bs) x = grind arith

push-is_bound : (b : Bound) (Bs : List Block) (x : ℕ) →
    block_bound (push_block b Bs) x ≡ cond (eqb b.var x) true (block_bound Bs x)
push-is_bound b [] x = grind arith
push-is_bound b (B ∷ Bs) x = grind arith

push-before : (b : Bound) (Bs : List Block) (u x : ℕ) → block_existential (push_block b Bs) x ≡ true →
    block_before (push_block b Bs) u x ≡ cond (eqb b.var x) false
    (cond (eqb b.var u) (not (is_exists b.quant) && block_bound Bs x) (block_before Bs u x))
push-before b [] u x e = grind arith
push-before b (B ∷ Bs) u x e = grind arith

blocks-existential : (P : Prefix) (x : ℕ) → is_existential P x ≡ block_existential (blocks P) x
blocks-existential [] x = refl
blocks-existential (b ∷ P) x =
    ap (λ r. cond (eqb b.var x) (is_exists b.quant) r) (blocks-existential P x) ∙ sym (push-existential b (blocks P) x)

pub blocks-is_bound : (P : Prefix) (x : ℕ) → is_bound P x ≡ block_bound (blocks P) x
blocks-is_bound [] x = refl
blocks-is_bound (b ∷ P) x =
    ap (λ r. cond (eqb b.var x) true r) (blocks-is_bound P x) ∙ sym (push-is_bound b (blocks P) x)

blocks-before : (P : Prefix) (u x : ℕ) → is_existential P x ≡ true →
    universal_before P u x ≡ block_before (blocks P) u x
blocks-before [] u x e = refl
blocks-before (b ∷ P) u x e =
    let f : block_existential (push_block b (blocks P)) x ≡ true = sym (blocks-existential (b ∷ P) x) ∙ e in
    let h : block_before (push_block b (blocks P)) u x ≡
    cond (eqb b.var x) false (cond (eqb b.var u) (not (is_exists b.quant) && block_bound (blocks P) x)
    (block_before (blocks P) u x)) = push-before b (blocks P) u x f in
    let g : is_bound P x ≡ block_bound (blocks P) x = blocks-is_bound P x in
    go (eqb b.var x) refl (blocks-before P u x) g ∙ sym h
  where
    go : (d : Bool) → eqb b.var x ≡ d → (is_existential P x ≡ true →
        universal_before P u x ≡ block_before (blocks P) u x) → is_bound P x ≡ block_bound (blocks P) x →
        cond d false (cond (eqb b.var u) (not (is_exists b.quant) && is_bound P x)
        (universal_before P u x)) ≡ cond d false
        (cond (eqb b.var u) (not (is_exists b.quant) && block_bound (blocks P) x)
        (block_before (blocks P) u x))
    go true q ih g = refl
    go false q ih g =
        let i : universal_before P u x ≡ block_before (blocks P) u x = ih (grind arith) in rw (i, g) refl

same-existential : (Bs Cs : List Block) (x : ℕ) → SameBlocks Bs Cs → block_existential Bs x ≡ block_existential Cs x
same-existential [] [] x s = refl
same-existential [] (C ∷ Cs) x s = elim s [ ]
same-existential (B ∷ Bs) [] x s = elim s [ ]
same-existential (B ∷ Bs) (C ∷ Cs) x s =
    let a : among x B.vars ≡ among x C.vars = among-same x B.vars C.vars (s.1 x) in
    let i : block_existential Bs x ≡ block_existential Cs x = same-existential Bs Cs x s.2 in let q : B.quant ≡ C.quant = s.0 in
    grind arith

pub same-is_bound : (Bs Cs : List Block) (x : ℕ) → SameBlocks Bs Cs → block_bound Bs x ≡ block_bound Cs x
same-is_bound [] [] x s = refl
same-is_bound [] (C ∷ Cs) x s = elim s [ ]
same-is_bound (B ∷ Bs) [] x s = elim s [ ]
same-is_bound (B ∷ Bs) (C ∷ Cs) x s =
    let a : among x B.vars ≡ among x C.vars = among-same x B.vars C.vars (s.1 x) in
    let i : block_bound Bs x ≡ block_bound Cs x = same-is_bound Bs Cs x s.2 in grind arith

same-before : (Bs Cs : List Block) (u x : ℕ) → SameBlocks Bs Cs → block_before Bs u x ≡ block_before Cs u x
same-before [] [] u x s = refl
same-before [] (C ∷ Cs) u x s = elim s [ ]
same-before (B ∷ Bs) [] u x s = elim s [ ]
same-before (B ∷ Bs) (C ∷ Cs) u x s =
    let a : among x B.vars ≡ among x C.vars = among-same x B.vars C.vars (s.1 x) in
    let a1 : among u B.vars ≡ among u C.vars = among-same u B.vars C.vars (s.1 u) in
    let b : block_bound Bs x ≡ block_bound Cs x = same-is_bound Bs Cs x s.2 in
    let i : block_before Bs u x ≡ block_before Cs u x = same-before Bs Cs u x s.2 in
    let q : B.quant ≡ C.quant = s.0 in grind arith

pub IsIn-same : (F G : PrenexFormula) (D : Clause) → SameFormula F G → IsIn D F.matrix → IsIn D G.matrix
IsIn-same F G D s m =
    copies-IsIn D G.matrix (let z : 1 ≤ copies D F.matrix = IsIn-copies D F.matrix m in
    subst (λ n. 1 ≤ n) (s.same_clauses D) z)

pub same-is_existential : (F G : PrenexFormula) (x : ℕ) → SameFormula F G →
    is_existential F.prefix x ≡ is_existential G.prefix x
same-is_existential F G x s =
    blocks-existential F.prefix x ∙ (same-existential (blocks F.prefix) (blocks G.prefix) x s.same_blocks ∙
    sym (blocks-existential G.prefix x))

-- The Skolem functions are the same.
pub lawful-same : (F G : PrenexFormula) (c : Strategy) → SameFormula F G → Lawful G.prefix c →
    Lawful F.prefix c
lawful-same F G c s sk =
    record {
      trees = λ x. sk.trees x ∙ sym (e x);
      reads = λ x h u r. before x u h ∙
          sk.reads x (sym (e x) ∙ h) u r;
    }
  where
    e : (x : ℕ) → is_existential F.prefix x ≡ is_existential G.prefix x
    e x = same-is_existential F G x s

    before : (x u : ℕ) → is_existential F.prefix x ≡ true →
        universal_before F.prefix u x ≡ universal_before G.prefix u x
    before x u h =
        blocks-before F.prefix u x h ∙ (same-before (blocks F.prefix) (blocks G.prefix) u x s.same_blocks ∙
        sym (blocks-before G.prefix u x (sym (e x) ∙ h)))

pub skolem-same : (F G : PrenexFormula) (c : Strategy) → SameFormula F G → SkolemOf G c → SkolemOf F c
skolem-same F G c s sk =
    record { lawful = lawful-same F G c s sk.lawful; wins = λ A D m. sk.wins A D (IsIn-same F G D s m) }

pub Same-itself : (F : PrenexFormula) → SameFormula F F
Same-itself F = record { same_blocks = SameBlocks-refl (blocks F.prefix); same_clauses = λ C. refl }

SameBlocks-sym : (Bs Cs : List Block) → SameBlocks Bs Cs → SameBlocks Cs Bs
SameBlocks-sym [] [] s = s
SameBlocks-sym [] (C ∷ Cs) s = elim s [ ]
SameBlocks-sym (B ∷ Bs) [] s = elim s [ ]
SameBlocks-sym (B ∷ Bs) (C ∷ Cs) s = (sym s.0, (λ x. ((s.1 x).1, (s.1 x).0)), SameBlocks-sym Bs Cs s.2)

pub Same-sym : (F G : PrenexFormula) → SameFormula F G → SameFormula G F
Same-sym F G s =
    record {
      same_blocks = SameBlocks-sym (blocks F.prefix) (blocks G.prefix) s.same_blocks;
      same_clauses = λ C. sym (s.same_clauses C);
    }
