-- Rows behind vectors, and what a row keeps.
use Rattle.std.proofs.Common.{◌≡◌, ◌≢◌, ℕ, zero, suc, ◌+◌, ◌-◌, ◌⊎◌, inl, inr, arith, ◌<◌, ◌≤◌, List, [], ◌∷◌, ◌++◌, Some, map, set, length, get_or, slice_get, take, refl, sym, ◌∙◌, ap, subst}
use Rattle.std.proofs.lemmas.Bool.{cases_eq}
use Rattle.q_logic.specs.Prelude.{Literal, Clause, IsIn}
use Rattle.q_logic.proofs.Common.{same_or_not}
use Rattle.std.specs.List.{swap_remove}
use Rattle.q_watch.specs.declared.entry.Entry.{Entry}
use Rattle.q_watch.specs.Rows.{IsShorter, row_of, IsFrom, HasEntry, entry_of, IsPushed, IsRemoved, AreSameRows}

-- places of lists
module _ {A : Type 0} where
  pub get-append : (xs ys : List A) (n : ℕ) (y : A) → slice_get xs n ≡ Some y → slice_get (xs ++ ys) n ≡ Some y
  get-append [] ys n y e = cc
  get-append (x ∷ xs) ys zero y e = e
  get-append (x ∷ xs) ys (suc n) y e = get-append xs ys n y e

  pub get-end : (xs : List A) (y : A) → slice_get (xs ++ y ∷ []) (length xs) ≡ Some y
  get-end [] y = refl
  get-end (x ∷ xs) y = get-end xs y

  pub get-same : (xs : List A) (n : ℕ) (y z : A) → slice_get xs n ≡ Some y → slice_get xs n ≡ Some z → y ≡ z
  get-same xs n y z e f = cc

  pub get-set_same : (xs : List A) (n : ℕ) (z : A) → n < length xs → slice_get (set xs n z) n ≡ Some z
  get-set_same [] n z h = absurd (omega arith)
  get-set_same (x ∷ xs) zero z h = refl
  get-set_same (x ∷ xs) (suc n) z h = get-set_same xs n z (omega arith)

  pub get-set_other : (xs : List A) (n m : ℕ) (z : A) → m ≢ n → slice_get (set xs n z) m ≡ slice_get xs m
  get-set_other [] n m z h = refl
  get-set_other (x ∷ xs) zero zero z h = absurd (h refl)
  get-set_other (x ∷ xs) zero (suc m) z h = refl
  get-set_other (x ∷ xs) (suc n) zero z h = refl
  get-set_other (x ∷ xs) (suc n) (suc m) z h = get-set_other xs n m z (λ e. h (ap suc e))

  pub get-take : (xs : List A) (n j : ℕ) (y : A) → slice_get xs j ≡ Some y → j < n → slice_get (take n xs) j ≡ Some y
  get-take xs zero j y e h = absurd (omega arith)
  get-take [] (suc n) j y e h = e
  get-take (x ∷ xs) (suc n) zero y e h = e
  get-take (x ∷ xs) (suc n) (suc j) y e h = get-take xs n j y e (omega arith)

  pub get-at : (xs : List A) (i : ℕ) (d : A) → i < length xs → slice_get xs i ≡ Some (get_or xs i d)
  get-at [] i d h = absurd (omega arith)
  get-at (x ∷ xs) zero d h = refl
  get-at (x ∷ xs) (suc i) d h = get-at xs i d (omega arith)

  pub get-within : (xs : List A) (i : ℕ) (y : A) → slice_get xs i ≡ Some y → i < length xs
  get-within [] i y e = absurd (cc)
  get-within (x ∷ xs) zero y e = omega arith
  get-within (x ∷ xs) (suc i) y e = let r = get-within xs i y e in omega arith

-- rows
module _ {A B : Type 0} (f : A → List B) where
  pub row_map : (vs : List A) (n : ℕ) (d : A) → n < length vs → get_or (map f vs) n [] ≡ f (get_or vs n d)
  row_map [] n d h = absurd (omega arith)
  row_map (v ∷ vs) zero d h = refl
  row_map (v ∷ vs) (suc n) d h = row_map vs n d (omega arith)

  pub row_at : (vs : List A) (n i : ℕ) (d : A) → i < length (get_or (map f vs) n []) → get_or (map f vs) n [] ≡ f (get_or vs n d)
  row_at [] n i d h = absurd (omega arith)
  row_at (v ∷ vs) zero i d h = refl
  row_at (v ∷ vs) (suc n) i d h = row_at vs n i d h

  pub row_room : (vs : List A) (n i : ℕ) → i < length (get_or (map f vs) n []) → n < length vs
  row_room [] n i h = absurd (omega arith)
  row_room (v ∷ vs) zero i h = omega arith
  row_room (v ∷ vs) (suc n) i h = let r = row_room vs n i h in omega arith

  pub row_set_here : (vs : List A) (n : ℕ) (w : A) → n < length vs → get_or (map f (set vs n w)) n [] ≡ f w
  row_set_here [] n w h = absurd (omega arith)
  row_set_here (v ∷ vs) zero w h = refl
  row_set_here (v ∷ vs) (suc n) w h = row_set_here vs n w (omega arith)

  pub row_set_other : (vs : List A) (n m : ℕ) (w : A) → m ≢ n → get_or (map f (set vs n w)) m [] ≡ get_or (map f vs) m []
  row_set_other [] n m w h = refl
  row_set_other (v ∷ vs) zero zero w h = absurd (h refl)
  row_set_other (v ∷ vs) zero (suc m) w h = refl
  row_set_other (v ∷ vs) (suc n) zero w h = refl
  row_set_other (v ∷ vs) (suc n) (suc m) w h = row_set_other vs n m w (λ e. h (ap suc e))

  pub row_more : (vs : List A) (w : A) (m : ℕ) → f w ≡ [] → get_or (map f (vs ++ w ∷ [])) m [] ≡ get_or (map f vs) m []
  row_more [] w zero e = e
  row_more [] w (suc m) e = refl
  row_more (v ∷ vs) w zero e = refl
  row_more (v ∷ vs) w (suc m) e = row_more vs w m e

module _ {A B : Type 0} (f : A → List B) (vs : List A) (w d : A) (p : ℕ) (h : p < length vs) where
  pub pushed-at : (e : B) → f w ≡ f (get_or vs p d) ++ e ∷ [] → get_or (map f (set vs p w)) p [] ≡ get_or (map f vs) p [] ++ e ∷ []
  pushed-at e n = row_set_here f vs p w h ∙ (n ∙ ap (λ (r : List B). r ++ e ∷ []) (sym (row_map f vs p d h)))

  pub kept-at : f w ≡ f (get_or vs p d) → get_or (map f (set vs p w)) p [] ≡ get_or (map f vs) p []
  kept-at n = row_set_here f vs p w h ∙ (n ∙ sym (row_map f vs p d h))

-- what stands at other places stays where the last one comes in the place of one
pub swap_remove-kept : {X : Type 0} (xs : List X) (i : ℕ) (d : X) (k : ℕ) (b : X) → i < length xs → k ≤ i → IsFrom xs k b → (slice_get xs i ≡ Some b) ⊎ IsFrom (swap_remove xs i d) k b
swap_remove-kept {X} xs i d k b room h (j, n, g) =
    let inside = get-within xs j b g in
    let last = get_or xs (length xs - 1) d in
    elim (cases_eq j i) [
      | inl e ↦ inl (subst (λ (m : ℕ). slice_get xs m ≡ Some b) e g)
      | inr off ↦ elim (cases_eq j (length xs - 1)) [
        | inl e ↦
            let less : i < length xs - 1 = omega (arith, room, inside, off, e) in
            let v : slice_get xs (length xs - 1) ≡ Some b = subst (λ (m : ℕ). slice_get xs m ≡ Some b) e g in
            let same : last ≡ b = get-same xs (length xs - 1) last b (get-at xs (length xs - 1) d (omega (arith, room))) v in
            inr (i, h, get-take (set xs i last) (length xs - 1) i b (subst (λ (y : X). slice_get (set xs i last) i ≡ Some y) same (get-set_same xs i last room)) less)
        | inr m ↦
            let less : j < length xs - 1 = omega (arith, room, inside, m) in
            inr (j, n, get-take (set xs i last) (length xs - 1) j b (get-set_other xs i j last off ∙ g) less)
      ]
    ]

pub removed-at : {A : Type 0} (f : A → List Entry) (vs : List A) (w d : A) (p i : ℕ) (e : Entry) → p < length vs → i < length (f (get_or vs p d)) → f w ≡ swap_remove (f (get_or vs p d)) i e → length (f w) + 1 ≡ length (f (get_or vs p d)) → IsShorter (get_or (map f vs) p []) (get_or (map f (set vs p w)) p []) i
removed-at f vs w d p i e h room s len =
    let old = row_map f vs p d h in
    let new = row_set_here f vs p w h in
    record {
      kept = λ k b m g. rw (old, new, s) (swap_remove-kept (f (get_or vs p d)) i e k b room m (rw old at g));
      shorter = rw (old, new) len;
    }

-- entries of clauses
pub entry-append : (row : List Entry) (es : List Entry) (i d : ℕ) (D : Clause) → HasEntry row i d D → HasEntry (row ++ es) i d D
entry-append row es i d D (b, m, (j, n, g)) = (b, m, (j, n, get-append row es j (entry_of d b) g))

pub entry-end : (row : List Entry) (d : ℕ) (b : Literal) (D : Clause) → IsIn b D → HasEntry (row ++ entry_of d b ∷ []) 0 d D
entry-end row d b D m = (b, m, (length row, omega arith, get-end row (entry_of d b)))

pub entry-pushed : (old new : List (List Entry)) (l : Literal) (e : Entry) → IsPushed old new l e → (k : Literal) (i d : ℕ) (D : Clause) → HasEntry (row_of old k) i d D → HasEntry (row_of new k) i d D
entry-pushed old new l e p k i d D h = elim (same_or_not k l) [
  | inl q ↦ subst (λ (x : Literal). HasEntry (row_of new x) i d D) (sym q)
      (subst (λ (r : List Entry). HasEntry r i d D) (sym p.here) (entry-append (row_of old l) (e ∷ []) i d D (subst (λ (x : Literal). HasEntry (row_of old x) i d D) q h)))
  | inr n ↦ subst (λ (r : List Entry). HasEntry r i d D) (sym (p.others k n)) h
]

pub entry-same : (old new : List (List Entry)) → AreSameRows old new → (k : Literal) (i d : ℕ) (D : Clause) → HasEntry (row_of old k) i d D → HasEntry (row_of new k) i d D
entry-same old new same k i d D h = subst (λ (r : List Entry). HasEntry r i d D) (sym (same k)) h

-- an entry that stands at the place or behind it: the one that stands there, or one behind
pub entry-passed : (row : List Entry) (i d : ℕ) (D : Clause) (e : Entry) → slice_get row i ≡ Some e → HasEntry row i d D → ((d ≡ e.id) × IsIn e.blocker D) ⊎ HasEntry row (i + 1) d D
entry-passed row i d D e here (b, m, (j, n, g)) = elim (cases_eq j i) [
  | inl q ↦
      let s : entry_of d b ≡ e = get-same row i (entry_of d b) e (subst (λ (x : ℕ). slice_get row x ≡ Some (entry_of d b)) q g) here in
      inl (ap (λ (x : Entry). x.id) s, subst (λ (x : Literal). IsIn x D) (ap (λ (x : Entry). x.blocker) s) m)
  | inr f ↦ inr (b, m, (j, omega (arith, n, f), g))
]

-- what one row loses, and another clause's entry does not
pub entry-removed : (old new : List (List Entry)) (l : Literal) (i : ℕ) (e : Entry) → slice_get (row_of old l) i ≡ Some e → IsRemoved old new l i → (k : Literal) (d : ℕ) (D : Clause) → d ≢ e.id → HasEntry (row_of old k) 0 d D → HasEntry (row_of new k) 0 d D
entry-removed old new l i e here r k d D n (b, m, f) = elim (same_or_not k l) [
  | inl q ↦ elim (r.here.kept 0 (entry_of d b) (omega arith) (subst (λ (x : Literal). IsFrom (row_of old x) 0 (entry_of d b)) q f)) [
    | inl s ↦ absurd (n (ap (λ (x : Entry). x.id) (get-same (row_of old l) i (entry_of d b) e s here)))
    | inr g ↦ (b, m, subst (λ (x : Literal). IsFrom (row_of new x) 0 (entry_of d b)) (sym q) g)
  ]
  | inr p ↦ (b, m, subst (λ (r : List Entry). IsFrom r 0 (entry_of d b)) (sym (r.others k p)) f)
]

-- the same from the place on
pub entry-removed_from : (old new : List (List Entry)) (l : Literal) (i : ℕ) (e : Entry) → slice_get (row_of old l) i ≡ Some e → IsRemoved old new l i → (d : ℕ) (D : Clause) → d ≢ e.id → HasEntry (row_of old l) i d D → HasEntry (row_of new l) i d D
entry-removed_from old new l i e here r d D n (b, m, f) = elim (r.here.kept i (entry_of d b) (omega arith) f) [
  | inl s ↦ absurd (n (ap (λ (x : Entry). x.id) (get-same (row_of old l) i (entry_of d b) e s here)))
  | inr g ↦ (b, m, g)
]

-- of other rows nothing is lost
pub entry-other_row : (old new : List (List Entry)) (l : Literal) (i : ℕ) → IsRemoved old new l i → (k : Literal) (d : ℕ) (D : Clause) → k ≢ l → HasEntry (row_of old k) 0 d D → HasEntry (row_of new k) 0 d D
entry-other_row old new l i r k d D n h = subst (λ (r : List Entry). HasEntry r 0 d D) (sym (r.others k n)) h
