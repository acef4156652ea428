-- Universal blocks before a variable: what prefixes that gain or lose a variable, and equal blocks, do to their number.
use Rattle.std.proofs.Common.{◌≡◌, ◌↔◌, ◌≤◌, ℕ, ◌+◌, Bool, true, false, cond, eqb, List, [], ◌∷◌, arith, refl, sym, ap, ap₂, ◌∙◌, subst}
use Rattle.q_logic.specs.declared.formulas.Bound.{Bound}
use Rattle.q_logic.specs.declared.formulas.Quant.TheVariants.{Exists}
use Rattle.q_logic.specs.Prelude.{Prefix, PrenexFormula, is_exists, is_existential, is_bound, universal_before, run_to, outer_or_same, Distinct, Block, push_block, blocks, SameBlocks, insert_after, removed_from, SameFormula}
use Rattle.q_logic.proofs.Blocks.{among, among-same, same-is_existential}
use Rattle.q_logic.proofs.PrefixOrder.{existential-is_bound}
use Rattle.q_logic.specs.Moves.{turn, turns, IsWithin, IsFirst}

-- Behind a universal, one turn less at most.
pub turns-less : (P : Prefix) (x : ℕ) → turns false P x ≤ turns true P x
turns-less [] x = grind arith
turns-less (b ∷ P) x = grind arith

pub turns-more : (P : Prefix) (x : ℕ) → turns true P x ≤ turns false P x + 1
turns-more [] x = grind arith
turns-more (b ∷ P) x = grind arith

run_to-turns : (P : Prefix) (a : ℕ) → run_to Exists P a ≡ true → turns true P a ≡ 0
run_to-turns [] a r = refl
run_to-turns (b ∷ P) a r = grind (arith, run_to-turns P a)

-- What is outer or same to an existential stands behind no more universal blocks.
pub outer-turns : (e : Bool) (P : Prefix) (a v : ℕ) → outer_or_same P a v ≡ true → is_existential P v ≡ true →
    turns e P a ≤ turns e P v
outer-turns e [] a v o h = grind arith
outer-turns e (b ∷ P) a v o h = grind (arith, outer-turns (is_exists b.quant) P a v, run_to-turns P a)

-- A universal has a block at it or before it.
pub universal-turns : (P : Prefix) (x : ℕ) → is_bound P x ≡ true → is_existential P x ≡ false → 1 ≤ turns true P x
universal-turns [] x h e = absurd (grind arith)
universal-turns (b ∷ P) x h e = grind (arith, universal-turns P x)

-- A fresh variable behind an existential.
pub insert-turns : (e : Bool) (w v : ℕ) (P : Prefix) (x : ℕ) → eqb x v ≡ false → is_existential P w ≡ true →
    turns e (insert_after w v P) x ≡ turns e P x
insert-turns e w v [] x n h = refl
insert-turns e w v (b ∷ P) x n h = grind (arith, insert-turns (is_exists b.quant) w v P x)

-- A variable less.
pub removed-turns : (e : Bool) (v : ℕ) (P : Prefix) (x : ℕ) → eqb x v ≡ false →
    turns e (removed_from v P) x ≤ turns e P x
removed-turns e v [] x n = grind arith
removed-turns e v (b ∷ P) x n =
    grind (arith, removed-turns (is_exists b.quant) v P x, turns-less P x, turns-more P x)

-- The first ones are those before all universals.
first-run : (P : Prefix) (x : ℕ) → is_existential P x ≡ true → turns true P x ≤ 0 → run_to Exists P x ≡ true
first-run [] x h t = h
first-run (b ∷ P) x h t = grind (arith, first-run P x)

run-existential : (P : Prefix) (x : ℕ) → run_to Exists P x ≡ true → is_existential P x ≡ true
run-existential [] x h = h
run-existential (b ∷ P) x h = grind (arith, run-existential P x)

pub first-is-run : (P : Prefix) (x : ℕ) → IsFirst P x ↔ (run_to Exists P x ≡ true)
first-is-run P x = (
  λ h. first-run P x h.0 h.1,
  λ h. (run-existential P x h, let z : turns true P x ≡ 0 = run_to-turns P x h in grind arith),
)

-- No universal stands before a first one, and the other way round.
run-none_before : (P : Prefix) (x u : ℕ) → run_to Exists P x ≡ true → universal_before P u x ≡ false
run-none_before [] x u h = refl
run-none_before (b ∷ P) x u h = grind (arith, run-none_before P x u)

unbound-none_before : (P : Prefix) (u x : ℕ) → is_bound P u ≡ false → universal_before P u x ≡ false
unbound-none_before [] u x h = refl
unbound-none_before (b ∷ P) u x h = grind (arith, unbound-none_before P u x)

none_before-run : (P : Prefix) (x : ℕ) → Distinct P → is_existential P x ≡ true →
    ((u : ℕ) → universal_before P u x ≡ false) → run_to Exists P x ≡ true
none_before-run [] x d e h = e
none_before-run (b ∷ P) x d e h = go (eqb b.var x) refl (none_before-run P x d.1)
  where
    bound : is_existential P x ≡ true → is_bound P x ≡ true
    bound = existential-is_bound P x

    go : (z : Bool) → eqb b.var x ≡ z →
        (is_existential P x ≡ true → ((u : ℕ) → universal_before P u x ≡ false) → run_to Exists P x ≡ true) →
        run_to Exists (b ∷ P) x ≡ true
    go true q ih = grind arith
    go false q ih =
        let e1 : is_existential P x ≡ true = grind arith in
        let f : is_exists b.quant ≡ true = exists_there e1 in
        let r : run_to Exists P x ≡ true = ih e1 (λ u. below e1 u) in
        grind arith
      where
        exists_there : is_existential P x ≡ true → is_exists b.quant ≡ true
        exists_there e1 =
            let i : universal_before (b ∷ P) b.var x ≡ false = h b.var in
            let j : is_bound P x ≡ true = bound e1 in
            let s : eqb b.var b.var ≡ true = grind arith in
            grind arith

        below : is_existential P x ≡ true → (u : ℕ) → universal_before P u x ≡ false
        below e1 u = step (eqb b.var u) refl
          where
            step : (y : Bool) → eqb b.var u ≡ y → universal_before P u x ≡ false
            step true s =
                let t : is_bound P b.var ≡ false = d.0 in
                let k : b.var ≡ u = grind arith in
                unbound-none_before P u x (subst (λ y. is_bound P y ≡ false) k t)
            step false s = let i : universal_before (b ∷ P) u x ≡ false = h u in grind arith

pub first-none_before : (P : Prefix) (x : ℕ) → Distinct P → is_existential P x ≡ true →
    IsFirst P x ↔ ((u : ℕ) → universal_before P u x ≡ false)
first-none_before P x d e = (
  λ h u. run-none_before P x u ((first-is-run P x).0 h),
  λ h. (first-is-run P x).1 (none_before-run P x d e h),
)

-- Equal blocks have equal numbers.
abbrev block_turns : Bool → List Block → ℕ → ℕ
block_turns e [] x = 0
block_turns e (B ∷ Bs) x = turn e B.quant + cond (among x B.vars) 0 (block_turns (is_exists B.quant) Bs x)

push-turns : (e : Bool) (b : Bound) (Bs : List Block) (x : ℕ) → block_turns e (push_block b Bs) x ≡
    turn e b.quant + cond (eqb b.var x) 0 (block_turns (is_exists b.quant) Bs x)
push-turns e b [] x = grind arith
push-turns e b (B ∷ Bs) x = grind arith

blocks-turns : (e : Bool) (P : Prefix) (x : ℕ) → turns e P x ≡ block_turns e (blocks P) x
blocks-turns e [] x = refl
blocks-turns e (b ∷ P) x =
    ap (λ r. turn e b.quant + cond (eqb b.var x) 0 r) (blocks-turns (is_exists b.quant) P x) ∙
    sym (push-turns e b (blocks P) x)

same-block_turns : (e : Bool) (Bs Cs : List Block) (x : ℕ) → SameBlocks Bs Cs → block_turns e Bs x ≡ block_turns e Cs x
same-block_turns e [] [] x s = refl
same-block_turns e [] (C ∷ Cs) x s = elim s [ ]
same-block_turns e (B ∷ Bs) [] x s = elim s [ ]
same-block_turns e (B ∷ Bs) (C ∷ Cs) x s =
    let a : among x B.vars ≡ among x C.vars = among-same x B.vars C.vars (s.1 x) in
    ap₂ (λ q m. turn e q + cond m 0 (block_turns (is_exists q) Bs x)) s.0 a ∙
    ap (λ r. turn e C.quant + cond (among x C.vars) 0 r) (same-block_turns (is_exists C.quant) Bs Cs x s.2)

pub same-turns : (F G : PrenexFormula) (x : ℕ) → SameFormula F G → turns true F.prefix x ≡ turns true G.prefix x
same-turns F G x s =
    blocks-turns true F.prefix x ∙ (same-block_turns true (blocks F.prefix) (blocks G.prefix) x s.same_blocks ∙
    sym (blocks-turns true G.prefix x))

pub same-within : (F G : PrenexFormula) (n x : ℕ) → SameFormula F G → IsWithin F.prefix n x → IsWithin G.prefix n x
same-within F G n x s h =
    (sym (same-is_existential F G x s) ∙ h.0, subst (λ m. m ≤ n) (same-turns F G x s) h.1)
