-- The places of variables among those that are defined.
use Rattle.std.proofs.Common.{◌≡◌, ◌≢◌, ℕ, zero, suc, ◌+◌, ◌<◌, Bool, true, false, cond, eqb, is_some, List, [], ◌∷◌, ◌++◌, length, get_or, refl, ap, sym, ◌∙◌, arith, subst, Option, Some, None, inl, inr, length-append}
use Rattle.std.proofs.lemmas.Bool.{cases_lt, eqb-true}
use Rattle.std.proofs.lemmas.List.{length_push, get_or_append_left, get_or_push, get_or_at}
use Rattle.q_aiger.specs.Items.{place_of, raised}
use Rattle.q_aiger.specs.Grammar.{AreOnce}

eqb-other : (a b : ℕ) → eqb a b ≡ false → a ≢ b
eqb-other a b e = grind arith

pub place-some : (ds : List ℕ) (v k : ℕ) → place_of ds v ≡ Some k → (k < length ds) × (get_or ds k 0 ≡ v)
place-some [] v k e = absurd (cc)
place-some (d ∷ ds) v k e = go (eqb d v) refl (place_of ds v) refl (place-some ds v)
  where
    go : (b : Bool) → eqb d v ≡ b → (p : Option ℕ) → place_of ds v ≡ p → ((j : ℕ) → place_of ds v ≡ Some j → (j < length ds) × (get_or ds j 0 ≡ v)) → (k < length (d ∷ ds)) × (get_or (d ∷ ds) k 0 ≡ v)
    go true q p r ih =
        let f : Some 0 ≡ Some k = ap (λ b. cond b (Some 0) (raised (place_of ds v))) (sym q) ∙ e in
        let z : 0 ≡ k = cc in
        subst (λ (k : ℕ). (k < length (d ∷ ds)) × (get_or (d ∷ ds) k 0 ≡ v)) z (omega arith, eqb-true d v q)
    go false q None r ih = absurd (let f : None ≡ Some k = ap raised (sym r) ∙ (ap (λ b. cond b (Some 0) (raised (place_of ds v))) (sym q) ∙ e) in cc)
    go false q (Some j) r ih =
        let f : Some (suc j) ≡ Some k = ap raised (sym r) ∙ (ap (λ b. cond b (Some 0) (raised (place_of ds v))) (sym q) ∙ e) in
        let z : suc j ≡ k = cc in
        let l = ih j r in
        let lt : j < length ds = l.0 in
        subst (λ (k : ℕ). (k < length (d ∷ ds)) × (get_or (d ∷ ds) k 0 ≡ v)) z (omega arith, l.1)

pub place-none : (ds : List ℕ) (v : ℕ) → place_of ds v ≡ None → (k : ℕ) → k < length ds → get_or ds k 0 ≢ v
place-none [] v e k lt = absurd (omega arith)
place-none (d ∷ ds) v e k lt = go (eqb d v) refl (place_of ds v) refl k lt (place-none ds v)
  where
    go : (b : Bool) → eqb d v ≡ b → (p : Option ℕ) → place_of ds v ≡ p → (k : ℕ) → k < length (d ∷ ds) → (place_of ds v ≡ None → (j : ℕ) → j < length ds → get_or ds j 0 ≢ v) → get_or (d ∷ ds) k 0 ≢ v
    go true q p r k lt ih = absurd (let f : Some 0 ≡ None = ap (λ b. cond b (Some 0) (raised (place_of ds v))) (sym q) ∙ e in cc)
    go false q (Some j) r k lt ih = absurd (let f : Some (suc j) ≡ None = ap raised (sym r) ∙ (ap (λ b. cond b (Some 0) (raised (place_of ds v))) (sym q) ∙ e) in cc)
    go false q None r zero lt ih = eqb-other d v q
    go false q None r (suc k) lt ih = ih r k (omega arith)

pub none-there : (ds : List ℕ) (v : ℕ) → is_some (place_of ds v) ≡ false → place_of ds v ≡ None
none-there ds v e = go (place_of ds v) refl
  where
    go : (o : Option ℕ) → place_of ds v ≡ o → place_of ds v ≡ None
    go None q = q
    go (Some k) q = absurd (let f : true ≡ false = ap is_some (sym q) ∙ e in cc)

pub fresh : (ds : List ℕ) (v : ℕ) → ((k : ℕ) → k < length ds → get_or ds k 0 ≢ v) → is_some (place_of ds v) ≡ false
fresh ds v n = go (place_of ds v) refl
  where
    go : (o : Option ℕ) → place_of ds v ≡ o → is_some (place_of ds v) ≡ false
    go None q = ap is_some q
    go (Some k) q = let p = place-some ds v k q in absurd (n k p.0 p.1)

pub place-is : (ds : List ℕ) (v k : ℕ) → AreOnce ds → k < length ds → get_or ds k 0 ≡ v → place_of ds v ≡ Some k
place-is ds v k o lt e = go (place_of ds v) refl
  where
    go : (p : Option ℕ) → place_of ds v ≡ p → place_of ds v ≡ Some k
    go None q = absurd (place-none ds v q k lt e)
    go (Some j) q = let p = place-some ds v j q in q ∙ ap Some (o j k p.0 lt (p.1 ∙ sym e))

pub once-push : (ds : List ℕ) (v : ℕ) → AreOnce ds → ((k : ℕ) → k < length ds → get_or ds k 0 ≢ v) → AreOnce (ds ++ v ∷ [])
once-push ds v o n i j li lj e =
    let len = length_push ds v in
    let early : (i : ℕ) → i < length ds → get_or (ds ++ v ∷ []) i 0 ≡ get_or ds i 0 = λ i b. get_or_append_left ds (v ∷ []) 0 i b in
    let last : (i : ℕ) → length ds ≡ i → get_or (ds ++ v ∷ []) i 0 ≡ v = λ i b. get_or_push ds v 0 i b in
    elim (cases_lt i (length ds)) [
      | inl a ↦ elim (cases_lt j (length ds)) [
        | inl b ↦ o i j a b (sym (early i a) ∙ e ∙ early j b)
        | inr b ↦ absurd (n i a (sym (early i a) ∙ e ∙ last j (omega arith)))
      ]
      | inr a ↦ elim (cases_lt j (length ds)) [
        | inl b ↦ absurd (n j b (sym (early j b) ∙ sym e ∙ last i (omega arith)))
        | inr b ↦ omega arith
      ]
    ]

pub once-front : (xs ys : List ℕ) → AreOnce (xs ++ ys) → AreOnce xs
once-front xs ys o i j li lj e =
    let len = length-append xs ys in
    o i j (omega arith) (omega arith) (get_or_append_left xs ys 0 i li ∙ e ∙ sym (get_or_append_left xs ys 0 j lj))

pub once-fresh : (ds : List ℕ) (v : ℕ) (vs : List ℕ) → AreOnce (ds ++ v ∷ vs) → (k : ℕ) → k < length ds → get_or ds k 0 ≢ v
once-fresh ds v vs o k lt e =
    let len : length (ds ++ v ∷ vs) ≡ length ds + length (v ∷ vs) = length-append ds (v ∷ vs) in
    let here : get_or (ds ++ v ∷ vs) (length ds) 0 ≡ v = get_or_at ds v vs 0 (length ds) refl in
    let z : k ≡ length ds = o k (length ds) (omega arith) (omega arith) (get_or_append_left ds (v ∷ vs) 0 k lt ∙ e ∙ sym here) in
    omega arith
