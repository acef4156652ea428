-- The variables of a generated prefix are the numbers from 1 on, one after the other.
use Rattle.std.proofs.Common.{◌≡◌, ◌≢◌, ◌≤◌, ◌<◌, ◌+◌, ◌*◌, ◌^◌, ℕ, zero, suc, Bool, true, false, cond, eqb, [], ◌∷◌, ◌++◌, refl, sym, subst, arith, length}
use Rattle.std.specs.List.{AllByRecursion}
use Rattle.q_logic.specs.declared.formulas.Quant.{Quant}
use Rattle.q_logic.specs.declared.formulas.Quant.TheVariants.{Exists, Forall}
use Rattle.q_logic.specs.Prelude.{Prefix, is_bound, Distinct, greatest}
use Rattle.q_gen.specs.Generated.{block_from, prefix_of}

-- the variables are the numbers from the first one on, one after the other, up to the last one but without it
abbrev pub AreFrom : ℕ → Prefix → ℕ → Type 0
AreFrom first [] last = first ≡ last
AreFrom first (b ∷ P) last = (b.var ≡ first) × AreFrom (first + 1) P last

block-from : (q : Quant) (first count last : ℕ) → first + count ≡ last → AreFrom first (block_from q first count) last
block-from q first zero last e = omega arith
block-from q first (suc count) last e = (refl, block-from q (first + 1) count last (omega arith))

from-append : (P Q : Prefix) (a b c : ℕ) → AreFrom a P b → AreFrom b Q c → AreFrom a (P ++ Q) c
from-append [] Q a b c h k = subst (λ (n : ℕ). AreFrom n Q c) (sym h) k
from-append (x ∷ P) Q a b c h k = (h.0, from-append P Q (a + 1) b c h.1 k)

pub prefix-from : (width : ℕ) → AreFrom 1 (prefix_of width) (4 * width + 1)
prefix-from width =
    from-append (block_from Exists 1 width) (block_from Forall (width + 1) width ++ block_from Exists (2 * width + 1) (2 * width)) 1 (width + 1) (4 * width + 1)
    (block-from Exists 1 width (width + 1) (omega arith))
    (from-append (block_from Forall (width + 1) width) (block_from Exists (2 * width + 1) (2 * width)) (width + 1) (2 * width + 1) (4 * width + 1)
    (block-from Forall (width + 1) width (2 * width + 1) (omega arith))
    (block-from Exists (2 * width + 1) (2 * width) (4 * width + 1) (omega arith)))

from-low : (a : ℕ) (P : Prefix) (c : ℕ) → AreFrom a P c → a ≤ c
from-low a [] c h = let e : a ≡ c = h in omega arith
from-low a (b ∷ P) c h = let i : a + 1 ≤ c = from-low (a + 1) P c h.1 in omega arith

pub from-bound : (a : ℕ) (P : Prefix) (c v : ℕ) → AreFrom a P c → a ≤ v → v < c → is_bound P v ≡ true
from-bound a [] c v h l m = let e : a ≡ c = h in absurd (omega arith)
from-bound a (b ∷ P) c v h l m = go (eqb b.var v) refl (from-bound (a + 1) P c v h.1)
  where
    go : (t : Bool) → eqb b.var v ≡ t → (a + 1 ≤ v → v < c → is_bound P v ≡ true) → cond t true (is_bound P v) ≡ true
    go true e ih = refl
    go false e ih = let n : b.var ≢ v = grind arith in let s : b.var ≡ a = h.0 in ih (omega arith) m

from-unbound : (a : ℕ) (P : Prefix) (c v : ℕ) → AreFrom a P c → v < a → is_bound P v ≡ false
from-unbound a [] c v h l = refl
from-unbound a (b ∷ P) c v h l = go (eqb b.var v) refl (from-unbound (a + 1) P c v h.1 (omega arith))
  where
    go : (t : Bool) → eqb b.var v ≡ t → is_bound P v ≡ false → cond t true (is_bound P v) ≡ false
    go true e ih = let n : b.var ≡ v = grind arith in let s : b.var ≡ a = h.0 in absurd (omega arith)
    go false e ih = ih

pub from-distinct : (a : ℕ) (P : Prefix) (c : ℕ) → AreFrom a P c → Distinct P
from-distinct a [] c h = tt
from-distinct a (b ∷ P) c h = let s : b.var ≡ a = h.0 in (from-unbound (a + 1) P c b.var h.1 (omega arith), from-distinct (a + 1) P c h.1)

pub from-ranges : (a : ℕ) (P : Prefix) (c : ℕ) → AreFrom a P c → 1 ≤ a → c ≤ 2 ^ 31 → AllByRecursion (λ q. (1 ≤ q.var) × (q.var < 2 ^ 31)) P
from-ranges a [] c h l m = tt
from-ranges a (b ∷ P) c h l m =
    let s : b.var ≡ a = h.0 in
    let i : a + 1 ≤ c = from-low (a + 1) P c h.1 in
    ((omega arith, omega arith), from-ranges (a + 1) P c h.1 (omega arith) m)

pub from-greatest : (a : ℕ) (P : Prefix) (c : ℕ) → AreFrom a P c → greatest P ≤ c
from-greatest a [] c h = omega arith
from-greatest a (b ∷ P) c h =
    let s : b.var ≡ a = h.0 in
    let i : a + 1 ≤ c = from-low (a + 1) P c h.1 in
    let g : greatest P ≤ c = from-greatest (a + 1) P c h.1 in
    omega arith

pub from-length : (a : ℕ) (P : Prefix) (c : ℕ) → AreFrom a P c → a + length P ≡ c
from-length a [] c h = let e : a ≡ c = h in omega arith
from-length a (b ∷ P) c h = let i : (a + 1) + length P ≡ c = from-length (a + 1) P c h.1 in omega arith
