-- A prefix that repeats variables inside its blocks: leaving out all but the last changes nothing.
use Rattle.std.proofs.Common.{◌≡◌, ◌↔◌, ℕ, Bool, true, false, cond, eqb, List, [], ◌∷◌, inl, inr, arith, refl, sym, ap, ◌∙◌, subst}
use Rattle.q_logic.specs.declared.formulas.Quant.{Quant}
use Rattle.q_logic.specs.declared.formulas.Bound.{Bound}
use Rattle.q_logic.specs.declared.formulas.Quant.TheVariants.{Exists, Forall}
use Rattle.q_logic.specs.Prelude.{Prefix, IsIn, PrenexFormula, is_bound, same_quant, Distinct, IsFormula, Block, push_block, blocks, SameBlocks, ProofStep, SameFormula}
use Rattle.q_logic.specs.Truth.{Assignment, with_value, by_quant, Game, Holds, MatrixTrue}
use Rattle.q_logic.proofs.Justified.{JustifiedRun}
use Rattle.q_logic.proofs.Blocks.{among, among-IsIn, block_bound, blocks-is_bound, same-is_bound, IsIn-same, Same-sym}
use Rattle.q_logic.proofs.Soundness.{same-true, steps-true, steps-formula}
use Rattle.q_logic.proofs.Runs.{SameBlocks-refl}

-- each variable at its last place
abbrev once : Prefix → Prefix
once [] = []
once (b ∷ P) = cond (is_bound P b.var) (once P) (b ∷ once P)

-- truth

with_value-again : (A : Assignment) (u v : ℕ) (x y : Bool) → eqb u v ≡ true →
    with_value (with_value A v x) u y ≡ with_value A u y
with_value-again A u v x y e = λ i w. at w i
  where
    at : (w : ℕ) → with_value (with_value A v x) u y w ≡ with_value A u y w
    at w = grind arith

with_value-swap : (A : Assignment) (u v : ℕ) (x y : Bool) → eqb u v ≡ false →
    with_value (with_value A v x) u y ≡ with_value (with_value A u y) v x
with_value-swap A u v x y e = λ i w. at w i
  where
    at : (w : ℕ) → with_value (with_value A v x) u y w ≡ with_value (with_value A u y) v x w
    at w = grind arith

by_quant-both : (q : Quant) (S T U V : Type 0) → S ↔ U → T ↔ V → by_quant q S T ↔ by_quant q U V
by_quant-both Exists S T U V f g = (
  (λ h. elim h [ inl s ↦ inl (f.0 s) | inr t ↦ inr (g.0 t) ]),
  (λ h. elim h [ inl s ↦ inl (f.1 s) | inr t ↦ inr (g.1 t) ]),
)
by_quant-both Forall S T U V f g = ((λ h. (f.0 h.0, g.0 h.1)), (λ h. (f.1 h.0, g.1 h.1)))

by_quant-same : (q : Quant) (S T U : Type 0) → S ↔ U → T ↔ U → by_quant q S T ↔ U
by_quant-same Exists S T U f g = ((λ h. elim h [ inl s ↦ f.0 s | inr t ↦ g.0 t ]), (λ u. inl (f.1 u)))
by_quant-same Forall S T U f g = ((λ h. f.0 h.0), (λ u. (f.1 u, g.1 u)))

-- The value of a variable that is bound further on does not matter.
overridden : (P : Prefix) (W : Assignment → Type 0) (A : Assignment) (v : ℕ) (x : Bool) →
    is_bound P v ≡ true →
    Game P W (with_value A v x) ↔ Game P W A
overridden [] W A v x h = absurd (no h)
  where
    no : false ≡ true → ⊥
    no e = grind arith
overridden (b ∷ P) W A v x h = go (eqb b.var v) refl h (λ B. overridden P W B v x)
  where
    under : (y : Bool) → Type 0
    under y = Game P W (with_value (with_value A v x) b.var y) ↔ Game P W (with_value A b.var y)

    go : (t : Bool) → eqb b.var v ≡ t → cond t true (is_bound P v) ≡ true →
        ((B : Assignment) → is_bound P v ≡ true → Game P W (with_value B v x) ↔ Game P W B) →
        Game (b ∷ P) W (with_value A v x) ↔ Game (b ∷ P) W A
    go true e k ih = by_quant-both b.quant _ _ _ _ (same false) (same true)
      where
        same : (y : Bool) → under y
        same y =
            let p = with_value-again A b.var v x y e in
            ((λ g. subst (Game P W) p g), (λ g. subst (Game P W) (sym p) g))
    go false e k ih = by_quant-both b.quant _ _ _ _ (further false) (further true)
      where
        further : (y : Bool) → under y
        further y =
            let p = with_value-swap A b.var v x y e in
            let i : Game P W (with_value (with_value A b.var y) v x) ↔ Game P W (with_value A b.var y) =
            ih (with_value A b.var y) k in
            ((λ g. i.0 (subst (Game P W) p g)), (λ g. subst (Game P W) (sym p) (i.1 g)))

once-game : (P : Prefix) (W : Assignment → Type 0) (A : Assignment) → Game (once P) W A ↔ Game P W A
once-game [] W A = ((λ g. g), (λ g. g))
once-game (b ∷ P) W A = go (is_bound P b.var) refl (λ B. once-game P W B)
  where
    go : (t : Bool) → is_bound P b.var ≡ t → ((B : Assignment) → Game (once P) W B ↔ Game P W B) →
        Game (cond t (once P) (b ∷ once P)) W A ↔ Game (b ∷ P) W A
    go true e ih =
        let f = by_quant-same b.quant _ _ _ (overridden P W A b.var false e)
        (overridden P W A b.var true e) in
        ((λ g. f.1 ((ih A).0 g)), (λ g. (ih A).1 (f.0 g)))
    go false e ih =
        by_quant-both b.quant _ _ _ _ (ih (with_value A b.var false)) (ih (with_value A b.var true))

-- what is bound, and each variable once

once-is_bound : (P : Prefix) (v : ℕ) → is_bound (once P) v ≡ is_bound P v
once-is_bound [] v = refl
once-is_bound (b ∷ P) v = go (is_bound P b.var) refl (once-is_bound P v)
  where
    go : (t : Bool) → is_bound P b.var ≡ t → is_bound (once P) v ≡ is_bound P v →
        is_bound (cond t (once P) (b ∷ once P)) v ≡ cond (eqb b.var v) true (is_bound P v)
    go true e ih = there (eqb b.var v) refl
      where
        there : (s : Bool) → eqb b.var v ≡ s → is_bound (once P) v ≡ cond s true (is_bound P v)
        there true q = ih ∙ (ap (is_bound P) (same q) ∙ e)
          where
            same : eqb b.var v ≡ true → v ≡ b.var
            same q = grind arith
        there false q = ih
    go false e ih = ap (λ (t : Bool). cond (eqb b.var v) true t) ih

once-Distinct : (P : Prefix) → Distinct (once P)
once-Distinct [] = tt
once-Distinct (b ∷ P) = go (is_bound P b.var) refl (once-Distinct P)
  where
    go : (t : Bool) → is_bound P b.var ≡ t → Distinct (once P) → Distinct (cond t (once P) (b ∷ once P))
    go true e ih = ih
    go false e ih = (once-is_bound P b.var ∙ e, ih)

-- no variable in two blocks

abbrev AreApart : List Block → Type 0
AreApart [] = Unit {0}
AreApart (B ∷ Bs) = ((x : ℕ) → IsIn x B.vars → block_bound Bs x ≡ false) × AreApart Bs

apart-push : (b : Bound) (Bs : List Block) → block_bound Bs b.var ≡ false → AreApart Bs →
    AreApart (push_block b Bs)
apart-push b [] n h = ((λ x m. refl), tt)
apart-push b (B ∷ Bs) n h = go (same_quant b.quant B.quant)
  where
    later : block_bound Bs b.var ≡ false
    later = grind arith

    go : (t : Bool) → AreApart (cond t (record { quant = B.quant; vars = b.var ∷ B.vars } ∷ Bs)
        (record { quant = b.quant; vars = b.var ∷ [] } ∷ B ∷ Bs))
    go true = (
      (λ x m. elim m [
        | inl e ↦ subst (λ (y : ℕ). block_bound Bs y ≡ false) (sym e) later
        | inr k ↦ h.0 x k
      ]),
      h.1,
    )
    go false = (
      (λ x m. elim m [
        | inl e ↦ subst (λ (y : ℕ). block_bound (B ∷ Bs) y ≡ false) (sym e) n
        | inr k ↦ elim k [ ]
      ]),
      h,
    )

apart-pushed : (b : Bound) (Bs : List Block) → AreApart (push_block b Bs) → AreApart Bs
apart-pushed b [] h = tt
apart-pushed b (B ∷ Bs) h = go (same_quant b.quant B.quant) h
  where
    go : (t : Bool) → AreApart (cond t (record { quant = B.quant; vars = b.var ∷ B.vars } ∷ Bs)
        (record { quant = b.quant; vars = b.var ∷ [] } ∷ B ∷ Bs)) → AreApart (B ∷ Bs)
    go true k = ((λ x m. k.0 x (inr m)), k.1)
    go false k = k.1

distinct-apart : (P : Prefix) → Distinct P → AreApart (blocks P)
distinct-apart [] d = tt
distinct-apart (b ∷ P) d =
    apart-push b (blocks P) (sym (blocks-is_bound P b.var) ∙ d.0) (distinct-apart P d.1)

same-apart : (Bs Cs : List Block) → SameBlocks Bs Cs → AreApart Bs → AreApart Cs
same-apart [] [] s h = tt
same-apart [] (C ∷ Cs) s h = elim s [ ]
same-apart (B ∷ Bs) [] s h = elim s [ ]
same-apart (B ∷ Bs) (C ∷ Cs) s h =
    ((λ x m. sym (same-is_bound Bs Cs x s.2) ∙ h.0 x ((s.1 x).1 m)), same-apart Bs Cs s.2 h.1)

-- the blocks

SameBlocks-trans : (Bs Cs Ds : List Block) → SameBlocks Bs Cs → SameBlocks Cs Ds → SameBlocks Bs Ds
SameBlocks-trans [] [] Ds s t = t
SameBlocks-trans [] (C ∷ Cs) Ds s t = elim s [ ]
SameBlocks-trans (B ∷ Bs) [] Ds s t = elim s [ ]
SameBlocks-trans (B ∷ Bs) (C ∷ Cs) [] s t = elim t [ ]
SameBlocks-trans (B ∷ Bs) (C ∷ Cs) (D ∷ Ds) s t = (
  s.0 ∙ t.0,
  (λ x. ((λ m. (t.1 x).0 ((s.1 x).0 m)), (λ m. (s.1 x).1 ((t.1 x).1 m)))),
  SameBlocks-trans Bs Cs Ds s.2 t.2,
)

SameBlocks-push : (b : Bound) (Bs Cs : List Block) → SameBlocks Bs Cs →
    SameBlocks (push_block b Bs) (push_block b Cs)
SameBlocks-push b [] [] s = (refl, (λ x. ((λ m. m), (λ m. m))), tt)
SameBlocks-push b [] (C ∷ Cs) s = elim s [ ]
SameBlocks-push b (B ∷ Bs) [] s = elim s [ ]
SameBlocks-push b (B ∷ Bs) (C ∷ Cs) s =
    go (same_quant b.quant B.quant) (same_quant b.quant C.quant) (ap (same_quant b.quant) s.0)
  where
    widened : (D : Block) → Block
    widened D = record { quant = D.quant; vars = b.var ∷ D.vars }

    fresh_block : Block
    fresh_block = record { quant = b.quant; vars = b.var ∷ [] }

    go : (t u : Bool) → t ≡ u → SameBlocks
        (cond t (record { quant = B.quant; vars = b.var ∷ B.vars } ∷ Bs)
        (record { quant = b.quant; vars = b.var ∷ [] } ∷ B ∷ Bs))
        (cond u (record { quant = C.quant; vars = b.var ∷ C.vars } ∷ Cs)
        (record { quant = b.quant; vars = b.var ∷ [] } ∷ C ∷ Cs))
    go true true e = (
      s.0,
      (λ x. (
        (λ m. elim m [ inl q ↦ inl q | inr k ↦ inr ((s.1 x).0 k) ]),
        (λ m. elim m [ inl q ↦ inl q | inr k ↦ inr ((s.1 x).1 k) ]),
      )),
      s.2,
    )
    go true false e = absurd (cc)
    go false true e = absurd (cc)
    go false false e = (refl, (λ x. ((λ m. m), (λ m. m))), s)

-- A variable that stands in the first block joins it without a change.
joins : (b : Bound) (Bs : List Block) → AreApart (push_block b Bs) → block_bound Bs b.var ≡ true →
    SameBlocks Bs (push_block b Bs)
joins b [] h e = absurd (no e)
  where
    no : false ≡ true → ⊥
    no e = grind arith
joins b (B ∷ Bs) h e = go (same_quant b.quant B.quant) h
  where
    here : block_bound Bs b.var ≡ false → IsIn b.var B.vars
    here n = among-IsIn b.var B.vars (first (among b.var B.vars) e)
      where
        first : (t : Bool) → cond t true (block_bound Bs b.var) ≡ true → t ≡ true
        first true k = refl
        first false k = absurd (clash k n)
          where
            clash : block_bound Bs b.var ≡ true → block_bound Bs b.var ≡ false → ⊥
            clash p q = grind arith

    go : (t : Bool) → AreApart (cond t (record { quant = B.quant; vars = b.var ∷ B.vars } ∷ Bs)
        (record { quant = b.quant; vars = b.var ∷ [] } ∷ B ∷ Bs)) →
        SameBlocks (B ∷ Bs) (cond t (record { quant = B.quant; vars = b.var ∷ B.vars } ∷ Bs)
        (record { quant = b.quant; vars = b.var ∷ [] } ∷ B ∷ Bs))
    go true k =
        let m : IsIn b.var B.vars = here (k.0 b.var (inl refl)) in (
          refl,
          (λ x. (
            (λ i. inr i),
            (λ i. elim i [
              | inl q ↦ subst (λ (y : ℕ). IsIn y B.vars) (sym q) m
              | inr j ↦ j
            ]),
          )),
          SameBlocks-refl Bs,
        )
    go false k = absurd (clash e (k.0 b.var (inl refl)))
      where
        clash : block_bound (B ∷ Bs) b.var ≡ true → block_bound (B ∷ Bs) b.var ≡ false → ⊥
        clash p q = grind arith

once-blocks : (P : Prefix) → AreApart (blocks P) → SameBlocks (blocks (once P)) (blocks P)
once-blocks [] h = tt
once-blocks (b ∷ P) h = go (is_bound P b.var) refl (once-blocks P (apart-pushed b (blocks P) h))
  where
    go : (t : Bool) → is_bound P b.var ≡ t → SameBlocks (blocks (once P)) (blocks P) →
        SameBlocks (blocks (cond t (once P) (b ∷ once P))) (push_block b (blocks P))
    go true e ih =
        SameBlocks-trans (blocks (once P)) (blocks P) (push_block b (blocks P)) ih
        (joins b (blocks P) h (sym (blocks-is_bound P b.var) ∙ e))
    go false e ih = SameBlocks-push b (blocks (once P)) (blocks P) ih

-- What is the same as a formula has its truth value, even where it repeats variables.
pub same-true_to : (F G : PrenexFormula) → IsFormula F → SameFormula F G → Holds F ↔ Holds G
same-true_to F G f s = ((λ t. g.0 (h.0 t)), (λ t. h.1 (g.1 t)))
  where
    H : PrenexFormula
    H = record { prefix = once G.prefix; matrix = G.matrix }

    apart : AreApart (blocks G.prefix)
    apart =
        same-apart (blocks F.prefix) (blocks G.prefix) s.same_blocks (distinct-apart F.prefix f.distinct)

    same : SameFormula F H
    same = record {
      same_blocks =
          SameBlocks-trans (blocks F.prefix) (blocks G.prefix) (blocks (once G.prefix)) s.same_blocks
          (flipped (once-blocks G.prefix apart));
      same_clauses = s.same_clauses;
    }
      where
        flipped : SameBlocks (blocks (once G.prefix)) (blocks G.prefix) →
            SameBlocks (blocks G.prefix) (blocks (once G.prefix))
        flipped t = (Same-sym H G (record { same_blocks = t; same_clauses = λ C. refl })).same_blocks

    formula : IsFormula H
    formula = record {
      distinct = once-Distinct G.prefix;
      closed = λ D m k i.
          once-is_bound G.prefix k.var ∙
          (blocks-is_bound G.prefix k.var ∙
          (sym (same-is_bound (blocks F.prefix) (blocks G.prefix) k.var s.same_blocks) ∙
          (sym (blocks-is_bound F.prefix k.var) ∙ f.closed D (IsIn-same G F D (Same-sym F G s) m) k i)));
    }

    h : Holds F ↔ Holds H
    h = same-true F H f formula same

    g : Holds H ↔ Holds G
    g = once-game G.prefix (λ B. MatrixTrue B G.matrix) (λ x. false)

pub run-true_to : (F : PrenexFormula) (ss : List ProofStep) (G : PrenexFormula) → IsFormula F →
    JustifiedRun F ss G → Holds F ↔ Holds G
run-true_to F ss G f r = ((λ t. last.0 (steps.0 t)), (λ t. steps.1 (last.1 t)))
  where
    steps : Holds F ↔ Holds r.last
    steps = steps-true F ss r.last f r.steps

    last : Holds r.last ↔ Holds G
    last = same-true_to r.last G (steps-formula F ss r.last f r.steps) r.same
