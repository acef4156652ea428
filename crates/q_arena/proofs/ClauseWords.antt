-- The clauses that stand in the words.
use Rattle.std.proofs.Common.{◌≡◌, ◌≢◌, ◌⊎◌, ℕ, zero, suc, ◌+◌, ◌-◌, ◌<◌, ◌≤◌, true, false, List, [], ◌∷◌, ◌++◌, length, map, set, get_or, take, drop, Option, None, Some, refl, sym, ◌∙◌, ap, subst, inl, inr, arith, length-drop, length-append}
use Rattle.std.proofs.lemmas.List.{ext_get_or, get_or-set_same, get_or-set_other, get_or_past, get_or-take, get_or-drop, length-take-le, get_or_append_left, get_or-append_right}
use Rattle.std.proofs.lemmas.Bool.{cases_lt, cases_eq, cases_Bool}
use Rattle.std.proofs.lemmas.Option.{same_Some, none-some}
use Rattle.q_logic.specs.Prelude.{Literal, IsBelow, ArePairs}
use Rattle.std.specs.List.{AllByRecursion}
use Rattle.q_arena.specs.declared.slots.Slot.{Slot}
use Rattle.q_arena.specs.Layout.{no_slot, slot_at, Order, AreLaid}
use Rattle.q_arena.proofs.Layouts.{live-room, stack-pair}
use Rattle.q_arena.specs.Seen.{piece, clause_in, without_at, AreOrdered}
use Rattle.q_arena.proofs.ArenaView.{get_or-mapped, length-mapped, length-set'}

pub blank_lit : Literal
blank_lit = record { var = 0; negative = false }

pub length-piece : (w : List Literal) (s n : ℕ) → s + n ≤ length w → length (piece w s n) ≡ n
length-piece w s n h = length-take-le n (drop s w) (omega (arith, length-drop s w))

pub get_or-piece : (w : List Literal) (s n k : ℕ) (d : Literal) → k < n → get_or (piece w s n) k d ≡ get_or w (s + k) d
get_or-piece w s n k d h = get_or-take n (drop s w) k d h ∙ get_or-drop s w k d

-- equal words, equal pieces
pub piece-moved : (v w : List Literal) (t s n : ℕ) → t + n ≤ length v → s + n ≤ length w → ((k : ℕ) → k < n → get_or v (t + k) blank_lit ≡ get_or w (s + k) blank_lit) → piece v t n ≡ piece w s n
piece-moved v w t s n tv sw f =
    let a = length-piece v t n tv in
    let b = length-piece w s n sw in
    ext_get_or blank_lit (piece v t n) (piece w s n) (a ∙ sym b) (λ i h.
    let l : i < n = omega (arith, a, h) in
    get_or-piece v t n i blank_lit l ∙ f i l ∙ sym (get_or-piece w s n i blank_lit l))

-- the piece is a list where its words are
pub piece-is : (v xs : List Literal) (t : ℕ) → t + length xs ≤ length v → ((k : ℕ) → k < length xs → get_or v (t + k) blank_lit ≡ get_or xs k blank_lit) → piece v t (length xs) ≡ xs
piece-is v xs t tv f =
    let a = length-piece v t (length xs) tv in
    ext_get_or blank_lit (piece v t (length xs)) xs a (λ i h.
    let l : i < length xs = omega (arith, a, h) in
    get_or-piece v t (length xs) i blank_lit l ∙ f i l)

clause_in-live : (w : List Literal) (x : Slot) → x.live ≡ true → clause_in w x ≡ Some (piece w x.start x.len)
clause_in-live w x e = rw e refl

clause_in-free : (w : List Literal) (x : Slot) → x.live ≡ false → clause_in w x ≡ None
clause_in-free w x e = rw e refl

pub clause-is : (w : List Literal) (slots : List Slot) (i : ℕ) → get_or (map (clause_in w) slots) i None ≡ clause_in w (slot_at slots i)
clause-is w slots i = get_or-mapped (clause_in w) no_slot slots i

pub clause-live : (w : List Literal) (slots : List Slot) (i : ℕ) → (slot_at slots i).live ≡ true → get_or (map (clause_in w) slots) i None ≡ Some (piece w (slot_at slots i).start (slot_at slots i).len)
clause-live w slots i e = clause-is w slots i ∙ clause_in-live w (slot_at slots i) e

pub clause-free : (w : List Literal) (slots : List Slot) (i : ℕ) → (slot_at slots i).live ≡ false → get_or (map (clause_in w) slots) i None ≡ None
clause-free w slots i e = clause-is w slots i ∙ clause_in-free w (slot_at slots i) e

-- a clause that is there is live
pub live-of : (w : List Literal) (slots : List Slot) (i : ℕ) (c : List Literal) → get_or (map (clause_in w) slots) i None ≡ Some c → (slot_at slots i).live ≡ true
live-of w slots i c e = elim (cases_Bool (slot_at slots i).live) [
  | inl a ↦ a
  | inr b ↦ let d : Some c ≡ None = sym e ∙ clause-free w slots i b in absurd (cc)
]

-- one slot is another, and the words of each other live clause are as before
pub clauses-set : (v w : List Literal) (slots : List Slot) (i : ℕ) (x : Slot) (c : Option (List Literal)) → i < length slots
    → ((j : ℕ) → j ≢ i → (slot_at slots j).live ≡ true → piece v (slot_at slots j).start (slot_at slots j).len ≡ piece w (slot_at slots j).start (slot_at slots j).len)
    → clause_in v x ≡ c
    → map (clause_in v) (set slots i x) ≡ set (map (clause_in w) slots) i c
clauses-set v w slots i x c il f e =
    let a = length-mapped (clause_in v) no_slot (set slots i x) in
    let b = length-mapped (clause_in w) no_slot slots in
    let s = length-set' slots i x in
    ext_get_or None (map (clause_in v) (set slots i x)) (set (map (clause_in w) slots) i c) (rw length-set' (a ∙ s ∙ sym b)) (λ j h.
    elim (cases_eq j i) [
      | inl q ↦
          let here : get_or (map (clause_in v) (set slots i x)) i None ≡ c = clause-is v (set slots i x) i ∙ ap (clause_in v) (get_or-set_same slots i x no_slot il) ∙ e in
          let there : get_or (set (map (clause_in w) slots) i c) i None ≡ c = get_or-set_same (map (clause_in w) slots) i c None (omega (arith, b, il)) in
          subst (λ (k : ℕ). get_or (map (clause_in v) (set slots i x)) k None ≡ get_or (set (map (clause_in w) slots) i c) k None) (sym q) (here ∙ sym there)
      | inr n ↦
          let same : slot_at (set slots i x) j ≡ slot_at slots j = get_or-set_other slots i j x no_slot n in
          let other = get_or-set_other (map (clause_in w) slots) i j c None n in
          let eq : clause_in v (slot_at slots j) ≡ clause_in w (slot_at slots j) = elim (cases_Bool (slot_at slots j).live) [
            | inl l ↦ clause_in-live v (slot_at slots j) l ∙ ap (λ (p : List Literal). Some p) (f j n l) ∙ sym (clause_in-live w (slot_at slots j) l)
            | inr l ↦ clause_in-free v (slot_at slots j) l ∙ sym (clause_in-free w (slot_at slots j) l)
          ] in
          clause-is v (set slots i x) j ∙ ap (clause_in v) same ∙ eq ∙ sym (clause-is w slots j) ∙ sym other
    ])

pub starts-same : (slots : List Slot) (i : ℕ) (x : Slot) → x.start ≡ (slot_at slots i).start → map (λ (s : Slot). s.start) (set slots i x) ≡ map (λ (s : Slot). s.start) slots
starts-same [] i x e = refl
starts-same (y ∷ ys) zero x e = ap (λ (k : ℕ). k ∷ map (λ (s : Slot). s.start) ys) e
starts-same (y ∷ ys) (suc i) x e = ap (λ (ks : List ℕ). y.start ∷ ks) (starts-same ys i x e)

pub starts-set : (slots : List Slot) (i : ℕ) (x : Slot) → map (λ (s : Slot). s.start) (set slots i x) ≡ set (map (λ (s : Slot). s.start) slots) i x.start
starts-set [] i x = refl
starts-set (y ∷ ys) zero x = refl
starts-set (y ∷ ys) (suc i) x = ap (λ (ks : List ℕ). y.start ∷ ks) (starts-set ys i x)

pub start-is : (slots : List Slot) (i : ℕ) → get_or (map (λ (s : Slot). s.start) slots) i 0 ≡ (slot_at slots i).start
start-is slots i = get_or-mapped (λ (s : Slot). s.start) no_slot slots i

-- a piece without the literal at a place
pub piece-without : (v w : List Literal) (s n k : ℕ) → s + n ≤ length w → length v ≡ length w → k < n
    → ((m : ℕ) → m < n - k - 1 → get_or v (s + k + m) blank_lit ≡ get_or w (s + k + 1 + m) blank_lit)
    → ((m : ℕ) → m < s + k → get_or v m blank_lit ≡ get_or w m blank_lit)
    → piece v s (n - 1) ≡ without_at k (piece w s n)
piece-without v w s n k sn vw kn moved below =
    let c : List Literal = piece w s n in
    let lc = length-piece w s n sn in
    let lv = length-piece v s (n - 1) (omega (arith, sn, vw, kn)) in
    let lt = length-take-le k c (omega (arith, lc, kn)) in
    let ld = length-drop (k + 1) c in
    let la = length-append (take k c) (drop (k + 1) c) in
    ext_get_or blank_lit (piece v s (n - 1)) (without_at k c) (omega (arith, lv, la, lt, ld, lc, kn)) (λ i h.
    let il : i < n - 1 = omega (arith, lv, h) in
    let left = get_or-piece v s (n - 1) i blank_lit il in
    elim (cases_lt i k) [
      | inl a ↦
          left ∙ below (s + i) (omega arith)
          ∙ sym (get_or_append_left (take k c) (drop (k + 1) c) blank_lit i (omega (arith, lt, a)) ∙ get_or-take k c i blank_lit a ∙ get_or-piece w s n i blank_lit (omega (arith, a, kn)))
      | inr b ↦
          let m : ℕ = i - k in
          let e1 : s + i ≡ s + k + m = omega arith in
          let e2 : s + k + 1 + m ≡ s + ((k + 1) + m) = omega arith in
          left ∙ ap (λ (x : ℕ). get_or v x blank_lit) e1 ∙ moved m (omega arith) ∙ ap (λ (x : ℕ). get_or w x blank_lit) e2
          ∙ sym (get_or-append_right (take k c) (drop (k + 1) c) k i blank_lit lt b ∙ get_or-drop (k + 1) c m blank_lit ∙ get_or-piece w s n ((k + 1) + m) blank_lit (omega arith))
    ])

-- each other piece is as before where one place of words was written
module _ (w : List Literal) (slots : List Slot) (ids : Order) (end total : ℕ) (a : AreLaid (length w) slots ids end total) where
  pub clause-length : (i : ℕ) (c : List Literal) → get_or (map (clause_in w) slots) i None ≡ Some c → length c ≡ (slot_at slots i).len
  clause-length i c e =
      let l = live-of w slots i c e in
      let same = same_Some (piece w (slot_at slots i).start (slot_at slots i).len) c (sym (clause-live w slots i l) ∙ e) in
      ap length (sym same) ∙ length-piece w (slot_at slots i).start (slot_at slots i).len (live-room (length w) slots ids end total i a l)

  pub clause-within : (i : ℕ) (c : List Literal) → get_or (map (clause_in w) slots) i None ≡ Some c → get_or (map (λ (s : Slot). s.start) slots) i 0 + length c ≤ length w
  clause-within i c e =
      let n = clause-length i c e in
      let s = start-is slots i in
      let r = live-room (length w) slots ids end total i a (live-of w slots i c e) in
      omega (arith, n, s, r)

  pub clauses-apart : (i j : ℕ) (c d : List Literal) → get_or (map (clause_in w) slots) i None ≡ Some c → get_or (map (clause_in w) slots) j None ≡ Some d → i ≢ j
      → (get_or (map (λ (s : Slot). s.start) slots) i 0 + length c ≤ get_or (map (λ (s : Slot). s.start) slots) j 0) ⊎ (get_or (map (λ (s : Slot). s.start) slots) j 0 + length d ≤ get_or (map (λ (s : Slot). s.start) slots) i 0)
  clauses-apart i j c d e f n =
      let m = clause-length i c e in
      let k = clause-length j d f in
      let s = start-is slots i in
      let t = start-is slots j in
      elim (stack-pair (slot_at slots) ids.used i j a.stack (a.lives i (live-of w slots i c e)) (a.lives j (live-of w slots j d f)) n) [
        | inl x ↦ inl (omega (arith, m, s, t, x))
        | inr x ↦ inr (omega (arith, k, s, t, x))
      ]

-- literal order

pub ordered-same : (xs ys : List (Option (List Literal))) → xs ≡ ys → AreOrdered ys → AreOrdered xs
ordered-same xs ys e o = rw e o

pub ordered-set : (cs : List (Option (List Literal))) (i : ℕ) (o : Option (List Literal)) → AreOrdered cs → ((c : List Literal) → o ≡ Some c → ArePairs IsBelow c) → AreOrdered (set cs i o)
ordered-set cs i o h f j c e = elim (cases_eq j i) [
  | inl q ↦ elim (cases_lt i (length cs)) [
    | inl l ↦ f c (sym (get_or-set_same cs i o None l) ∙ subst (λ (k : ℕ). get_or (set cs i o) k None ≡ Some c) q e)
    | inr g ↦ absurd (none-some c (sym (get_or_past (set cs i o) j None (rw (length-set', q) g)) ∙ e))
  ]
  | inr n ↦ h j c (sym (get_or-set_other cs i j o None n) ∙ e)
]

module _ {X : Type 0} where
  all-without : (P : X → Type 0) (k : ℕ) (xs : List X) → AllByRecursion P xs → AllByRecursion P (take k xs ++ drop (suc k) xs)
  all-without P zero [] a = a
  all-without P zero (x ∷ xs) a = a.1
  all-without P (suc k) [] a = a
  all-without P (suc k) (x ∷ xs) a = (a.0, all-without P k xs a.1)

  pairs-without : (R : X → X → Type 0) (k : ℕ) (xs : List X) → ArePairs R xs → ArePairs R (take k xs ++ drop (suc k) xs)
  pairs-without R zero [] a = a
  pairs-without R zero (x ∷ xs) a = a.1
  pairs-without R (suc k) [] a = a
  pairs-without R (suc k) (x ∷ xs) a = (all-without (R x) k xs a.0, pairs-without R k xs a.1)

  pub pairs-without_at : (R : X → X → Type 0) (k : ℕ) (xs : List X) → ArePairs R xs → ArePairs R (take k xs ++ drop (k + 1) xs)
  pairs-without_at R k xs a = let e : suc k ≡ k + 1 = omega arith in subst (λ (n : ℕ). ArePairs R (take k xs ++ drop n xs)) e (pairs-without R k xs a)

-- a clause is as before where another id has got one
pub clause-kept : (cs ds : List (Option (List Literal))) (i j : ℕ) (o : Option (List Literal)) (c : List Literal) → ds ≡ set cs j o → get_or cs j None ≡ None → get_or cs i None ≡ Some c → get_or ds i None ≡ Some c
clause-kept cs ds i j o c e f h =
    let n : i ≢ j = λ q. none-some c (sym f ∙ ap (λ (k : ℕ). get_or cs k None) (sym q) ∙ h) in
    ap (λ (xs : List (Option (List Literal))). get_or xs i None) e ∙ get_or-set_other cs j i o None n ∙ h
