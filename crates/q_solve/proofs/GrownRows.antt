-- Rows that grow, and rows of which a depth is taken.
use Rattle.std.proofs.Common.{◌≡◌, ℕ, zero, suc, ◌+◌, ◌<◌, ◌≤◌, Bool, true, false, cond, eqb, List, [], ◌∷◌, ◌++◌, length, drop, get_or, refl, sym, ap, ◌∙◌, subst, arith}
use Rattle.std.proofs.lemmas.List.{drop_more}
use Rattle.q_solve.specs.declared.picks.Pick.{Pick}
use Rattle.q_solve.specs.Picks.{lit_at, AreBelow, IsRow, top_of, IsTaken}

pub below-more : (m n : ℕ) (ps : List Pick) → AreBelow m ps → m ≤ n → AreBelow n ps
below-more m n [] h le = tt
below-more m n (p ∷ ps) h le = (let a : p.depth < m = h.0 in omega arith, below-more m n ps h.1 le)

pub row-weaker : (m n : ℕ) (ps : List Pick) → IsRow m ps → n ≤ m → IsRow n ps
row-weaker m n [] h le = tt
row-weaker m n (p ∷ ps) h le = (let a : m ≤ p.depth = h.0 in omega arith, h.1, row-weaker m n ps h.2 le)

-- nothing is there behind the greatest, or before the least
pub lit-below : (n k : ℕ) (ps : List Pick) → AreBelow n ps → n ≤ k → lit_at ps k ≡ 0
lit-below n k [] h le = refl
lit-below n k (p ∷ ps) h le = go (eqb p.depth k) refl (lit-below n k ps h.1 le)
  where
    go : (t : Bool) → eqb p.depth k ≡ t → lit_at ps k ≡ 0 → cond t p.lit (lit_at ps k) ≡ 0
    go true e r = let a : p.depth < n = h.0 in absurd (grind arith)
    go false e r = r

pub lit-above : (low k : ℕ) (ps : List Pick) → IsRow low ps → k < low → lit_at ps k ≡ 0
lit-above low k [] h lt = refl
lit-above low k (p ∷ ps) h lt = go (eqb p.depth k) refl (lit-above low k ps h.2 lt)
  where
    go : (t : Bool) → eqb p.depth k ≡ t → lit_at ps k ≡ 0 → cond t p.lit (lit_at ps k) ≡ 0
    go true e r = let a : low ≤ p.depth = h.0 in absurd (grind arith)
    go false e r = r

pub row-top : (low : ℕ) (ps : List Pick) → IsRow low ps → AreBelow (suc (top_of ps)) ps
row-top low [] h = tt
row-top low (p ∷ ps) h = (omega arith, below-more p.depth (suc p.depth) ps h.1 (omega arith))

pub top-below : (n : ℕ) (ps : List Pick) → AreBelow n ps → 0 < n → top_of ps < n
top-below n [] h z = z
top-below n (p ∷ ps) h z = h.0

pub below-push : (n : ℕ) (ps : List Pick) (q : Pick) → AreBelow n ps → q.depth < n → AreBelow n (ps ++ q ∷ [])
below-push n [] q h lt = (lt, tt)
below-push n (p ∷ ps) q h lt = (h.0, below-push n ps q h.1 lt)

-- a row grows outwards
pub row-push : (b low : ℕ) (ps : List Pick) (q : Pick) → IsRow b ps → q.depth < b → low ≤ q.depth → IsRow low (ps ++ q ∷ [])
row-push b low [] q h lt le = (le, tt, tt)
row-push b low (p ∷ ps) q h lt le = (
  let a : b ≤ p.depth = h.0 in omega arith,
  below-push p.depth ps q h.1 (let a : b ≤ p.depth = h.0 in omega arith),
  row-push b low ps q h.2 lt le,
)

pub lit-push : (b k : ℕ) (ps : List Pick) (q : Pick) → IsRow b ps → q.depth < b → lit_at (ps ++ q ∷ []) k ≡ cond (eqb q.depth k) q.lit (lit_at ps k)
lit-push b k [] q h lt = refl
lit-push b k (p ∷ ps) q h lt = go (eqb p.depth k) refl (eqb q.depth k) refl (lit-push b k ps q h.2 lt)
  where
    go : (t : Bool) → eqb p.depth k ≡ t → (s : Bool) → eqb q.depth k ≡ s → lit_at (ps ++ q ∷ []) k ≡ cond s q.lit (lit_at ps k) →
        cond t p.lit (lit_at (ps ++ q ∷ []) k) ≡ cond s q.lit (cond t p.lit (lit_at ps k))
    go true e true f r = let a : b ≤ p.depth = h.0 in absurd (grind arith)
    go true e false f r = refl
    go false e s f r = r

-- the front of a row is at the depth, or it is not there
taken-front : (p : Pick) (ps : List Pick) (depth : ℕ) → p.depth ≡ depth → IsRow 0 (p ∷ ps) → IsTaken (p ∷ ps) ps depth p.lit
taken-front p ps depth e h = record {
  value = let t : eqb p.depth depth ≡ true = grind arith in ap (λ (b : Bool). cond b p.lit (lit_at ps depth)) (sym t);
  rest = λ k lt. let t : eqb p.depth k ≡ false = grind arith in ap (λ (b : Bool). cond b p.lit (lit_at ps k)) (sym t);
  below = subst (λ (n : ℕ). AreBelow n ps) e h.1;
  row = λ low r. r.2;
  deep = λ n b. b.1;
}

pub taken-here : (row : List Pick) (at depth : ℕ) (p : Pick) → at < length row → p ≡ get_or row at p → p.depth ≡ depth → IsRow 0 (drop at row) →
    IsTaken (drop at row) (drop (at + 1) row) depth p.lit
taken-here row at depth p lt e f h =
    let d : drop at row ≡ p ∷ drop (at + 1) row = drop_more row at p lt ∙ ap (λ (q : Pick). q ∷ drop (at + 1) row) (sym e) in
    subst (λ (xs : List Pick). IsTaken xs (drop (at + 1) row) depth p.lit) (sym d)
    (taken-front p (drop (at + 1) row) depth f (subst (IsRow 0) d h))

below-less : (depth : ℕ) (ps : List Pick) → AreBelow (suc depth) ps → ((p : Pick) (qs : List Pick) → ps ≡ p ∷ qs → p.depth ≡ depth → ⊥) → IsRow 0 ps → AreBelow depth ps
below-less depth [] b n r = tt
below-less depth (p ∷ ps) b n r =
    let l : p.depth < depth = let x : p.depth < suc depth = b.0 in let y : p.depth ≡ depth → ⊥ = n p ps refl in omega arith in
    (l, below-more p.depth depth ps r.1 (omega arith))

pub taken-none : (row : List Pick) (at depth : ℕ) → (at < length row → (p : Pick) → p ≡ get_or row at p → p.depth ≡ depth → ⊥) → IsRow 0 (drop at row) → AreBelow (suc depth) (drop at row) →
    IsTaken (drop at row) (drop at row) depth 0
taken-none row at depth n r b =
    let l : AreBelow depth (drop at row) = below-less depth (drop at row) b front r in
    record {
      value = sym (lit-below depth depth (drop at row) l (omega arith));
      rest = λ k lt. refl;
      below = l;
      row = λ low h. h;
      deep = λ n h. h;
    }
  where
    within : (p : Pick) (qs : List Pick) → drop at row ≡ p ∷ qs → at < length row
    within p qs e = go at row e
      where
        go : (i : ℕ) (xs : List Pick) → drop i xs ≡ p ∷ qs → i < length xs
        go zero [] e = absurd (cc)
        go zero (x ∷ xs) e = omega arith
        go (suc i) [] e = absurd (cc)
        go (suc i) (x ∷ xs) e = let z : i < length xs = go i xs e in omega arith

    front : (p : Pick) (qs : List Pick) → drop at row ≡ p ∷ qs → p.depth ≡ depth → ⊥
    front p qs e f =
        let lt : at < length row = within p qs e in
        let d : get_or row at p ∷ drop (at + 1) row ≡ p ∷ qs = sym (drop_more row at p lt) ∙ e in
        let g : p ≡ get_or row at p = cc in
        n lt p g f
