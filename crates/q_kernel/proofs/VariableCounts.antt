-- How many variables occur, what is left of a prefix without the idle ones, and its greatest variable.
use Rattle.std.proofs.Common.{◌≡◌, ◌⊎◌, ◌↔◌, ◌≤◌, ◌<◌, ◌+◌, ℕ, suc, Bool, true, false, cond, eqb, not, ◌&&◌, List, [], ◌∷◌, length, inl, inr, arith, refl, sym, ap, ◌∙◌, subst, true≢false}
use Rattle.std.proofs.lemmas.Bool.Decides.{nat_tests}
use Rattle.std.proofs.lemmas.Bool.{and_from, cases_eq}
use Rattle.std.specs.List.{AllByRecursion}
use Rattle.q_logic.specs.declared.formulas.Bound.{Bound}
use Rattle.q_logic.specs.Prelude.{IsProper, Prefix, Matrix, PrenexFormula, is_exists, is_bound, is_existential, is_universal, Distinct, insert_after, removed_from, occurs, occurring, one_if, existentials_in, universals_in, greatest, larger_of}
use Rattle.q_logic.specs.declared.formulas.Quant.{Quant}
use Rattle.q_logic.specs.declared.formulas.Quant.TheVariants.{Exists}
use Rattle.q_logic.proofs.Decided.{and-parts}
use Rattle.q_arena.specs.Prelude.{Has, AreApart, AreBelow, without}
use Rattle.q_arena.proofs.RingPaths.{Misses-not, Misses-from}
use Rattle.q_arena.proofs.RingLemmas.{Has-without, AreApart-without, length-without, length-below}
use Rattle.q_arena.proofs.Layouts.{without-gone, Has-kept}
use Rattle.q_kernel.specs.Uses.{Groups, AreUses}

-- Lists without repetition with the same members are equally long.
pub same-length : (xs ys : List ℕ) → AreApart xs → AreApart ys → ((v : ℕ) → Has xs v ↔ Has ys v) → length xs ≡ length ys
same-length [] [] a b s = refl
same-length [] (y ∷ ys) a b s = absurd ((s y).1 (inl refl))
same-length (x ∷ xs) ys a b s =
    let there : Has ys x = (s x).0 (inl refl) in
    ap suc (same-length xs (without x ys) a.1 (AreApart-without x ys b) both) ∙ sym (length-without x ys there)
  where
    both : (v : ℕ) → Has xs v ↔ Has (without x ys) v
    both v = (into, from)
      where
        into : Has xs v → Has (without x ys) v
        into h = Has-kept x v ys ((s v).0 (inr h)) (λ e. Misses-not x v xs a.0 h (sym e))

        from : Has (without x ys) v → Has xs v
        from h = elim ((s v).1 (Has-without x v ys h)) [
          | inl e ↦ absurd (without-gone x ys b (subst (λ (k : ℕ). Has (without x ys) k) e h))
          | inr i ↦ i
        ]

-- The variables of a prefix that pass a test, and occur.
abbrev chosen : (Bound → Bool) → Prefix → List ℕ
chosen f [] = []
chosen f (b ∷ P) = cond (f b) (b.var ∷ chosen f P) (chosen f P)

chosen-bound : (f : Bound → Bool) (P : Prefix) (v : ℕ) → Has (chosen f P) v → is_bound P v ≡ true
chosen-bound f [] v h = elim h [ ]
chosen-bound f (b ∷ P) v h = go (f b) h (chosen-bound f P v)
  where
    later : (is_bound P v ≡ true) → is_bound (b ∷ P) v ≡ true
    later e = grind arith

    here : v ≡ b.var → is_bound (b ∷ P) v ≡ true
    here e = grind arith

    go : (t : Bool) → Has (cond t (b.var ∷ chosen f P) (chosen f P)) v → (Has (chosen f P) v → is_bound P v ≡ true) → is_bound (b ∷ P) v ≡ true
    go true (inl e) ih = here e
    go true (inr i) ih = later (ih i)
    go false i ih = later (ih i)

chosen-apart : (f : Bound → Bool) (P : Prefix) → Distinct P → AreApart (chosen f P)
chosen-apart f [] d = tt
chosen-apart f (b ∷ P) d = go (f b) (chosen-apart f P d.1)
  where
    go : (t : Bool) → AreApart (chosen f P) → AreApart (cond t (b.var ∷ chosen f P) (chosen f P))
    go true a = (Misses-from b.var (chosen f P) (λ h. true≢false (sym (chosen-bound f P b.var h) ∙ d.0)), a)
    go false a = a

-- For the test by quantifier: of a variable of the prefix the quantifier is known.
abbrev of_quant : (Quant → Bool) → Prefix → ℕ → Bool
of_quant q [] v = false
of_quant q (b ∷ P) v = cond (eqb b.var v) (q b.quant) (of_quant q P v)

abbrev picked : (Quant → Bool) → (ℕ → Bool) → Bound → Bool
picked q occ b = q b.quant && occ b.var

of_quant-bound : (q : Quant → Bool) (P : Prefix) (v : ℕ) → of_quant q P v ≡ true → is_bound P v ≡ true
of_quant-bound q [] v h = grind arith
of_quant-bound q (b ∷ P) v h = go (eqb b.var v) h (of_quant-bound q P v)
  where
    go : (t : Bool) → cond t (q b.quant) (of_quant q P v) ≡ true → (of_quant q P v ≡ true → is_bound P v ≡ true) → cond t true (is_bound P v) ≡ true
    go true h ih = refl
    go false h ih = ih h

chosen-members : (q : Quant → Bool) (occ : ℕ → Bool) (P : Prefix) → Distinct P → (v : ℕ) → Has (chosen (picked q occ) P) v ↔ ((of_quant q P v ≡ true) × (occ v ≡ true))
chosen-members q occ [] d v = ((λ h. elim h [ ]), (λ r. absurd (true≢false (sym r.0))))
chosen-members q occ (b ∷ P) d v = go (picked q occ b) refl (chosen-members q occ P d.1 v)
  where
    other : is_bound P v ≡ true → eqb b.var v ≡ false
    other h = elim (cases_eq b.var v) [
      | inl e ↦ absurd (true≢false (sym h ∙ subst (λ (k : ℕ). is_bound P k ≡ false) e d.0))
      | inr n ↦ grind (arith, nat_tests)
    ]

    later : (of_quant q P v ≡ true) × (occ v ≡ true) → (of_quant q (b ∷ P) v ≡ true) × (occ v ≡ true)
    later r = (ap (λ (t : Bool). cond t (q b.quant) (of_quant q P v)) (other (of_quant-bound q P v r.0)) ∙ r.0, r.1)

    here : v ≡ b.var → picked q occ b ≡ true → (of_quant q (b ∷ P) v ≡ true) × (occ v ≡ true)
    here e p = let r : (q b.quant ≡ true) × (occ b.var ≡ true) = and-parts (q b.quant) (occ b.var) p in
        let t : eqb b.var v ≡ true = grind (arith, nat_tests) in
        (ap (λ (t : Bool). cond t (q b.quant) (of_quant q P v)) t ∙ r.0, ap occ e ∙ r.1)

    back : (of_quant q (b ∷ P) v ≡ true) × (occ v ≡ true) → ((v ≡ b.var) × (picked q occ b ≡ true)) ⊎ ((of_quant q P v ≡ true) × (occ v ≡ true))
    back r = elim (cases_eq b.var v) [
      | inl e ↦ let t : eqb b.var v ≡ true = grind (arith, nat_tests) in
          inl (sym e, and_from (q b.quant) (occ b.var) (sym (ap (λ (t : Bool). cond t (q b.quant) (of_quant q P v)) t) ∙ r.0) (ap occ e ∙ r.1))
      | inr n ↦ let t : eqb b.var v ≡ false = grind (arith, nat_tests) in
          inr (sym (ap (λ (t : Bool). cond t (q b.quant) (of_quant q P v)) t) ∙ r.0, r.1)
    ]

    go : (t : Bool) → picked q occ b ≡ t → (Has (chosen (picked q occ) P) v ↔ ((of_quant q P v ≡ true) × (occ v ≡ true))) → Has (cond t (b.var ∷ chosen (picked q occ) P) (chosen (picked q occ) P)) v ↔ ((of_quant q (b ∷ P) v ≡ true) × (occ v ≡ true))
    go true p ih = (
      (λ h. elim h [
        | inl e ↦ here e p
        | inr i ↦ later (ih.0 i)
      ]),
      (λ r. elim (back r) [
        | inl e ↦ inl e.0
        | inr s ↦ inr (ih.1 s)
      ]),
    )
    go false p ih = (
      (λ h. later (ih.0 h)),
      (λ r. elim (back r) [
        | inl e ↦ absurd (true≢false (sym e.1 ∙ p))
        | inr s ↦ ih.1 s
      ]),
    )

existential-of : (P : Prefix) (v : ℕ) → of_quant is_exists P v ≡ is_existential P v
existential-of [] v = refl
existential-of (b ∷ P) v = ap (λ (t : Bool). cond (eqb b.var v) (is_exists b.quant) t) (existential-of P v)

universal-of : (P : Prefix) (v : ℕ) → of_quant (λ q. not (is_exists q)) P v ≡ is_universal P v
universal-of [] v = refl
universal-of (b ∷ P) v = ap (λ (t : Bool). cond (eqb b.var v) (not (is_exists b.quant)) t) (universal-of P v)

existentials-chosen : (P : Prefix) (X : Matrix) → existentials_in P X ≡ length (chosen (picked is_exists (λ v. occurs v X)) P)
existentials-chosen [] X = refl
existentials-chosen (b ∷ P) X = go (is_exists b.quant && occurs b.var X) (existentials-chosen P X)
  where
    go : (t : Bool) → existentials_in P X ≡ length (chosen (picked is_exists (λ v. occurs v X)) P)
        → one_if t + existentials_in P X ≡ length (cond t (b.var ∷ chosen (picked is_exists (λ v. occurs v X)) P) (chosen (picked is_exists (λ v. occurs v X)) P))
    go true i = grind arith
    go false i = grind arith

universals-chosen : (P : Prefix) (X : Matrix) → universals_in P X ≡ length (chosen (picked (λ q. not (is_exists q)) (λ v. occurs v X)) P)
universals-chosen [] X = refl
universals-chosen (b ∷ P) X = go (not (is_exists b.quant) && occurs b.var X) (universals-chosen P X)
  where
    go : (t : Bool) → universals_in P X ≡ length (chosen (picked (λ q. not (is_exists q)) (λ v. occurs v X)) P)
        → one_if t + universals_in P X ≡ length (cond t (b.var ∷ chosen (picked (λ q. not (is_exists q)) (λ v. occurs v X)) P) (chosen (picked (λ q. not (is_exists q)) (λ v. occurs v X)) P))
    go true i = grind arith
    go false i = grind arith

-- The counts of the measure are those of the groups.
module _ (g : Groups) (P : Prefix) (X : Matrix) (d : Distinct P) (u : AreUses g P (λ v. occurs v X)) where
  pub existentials-counted : length g.existentials ≡ existentials_in P X
  existentials-counted = same-length g.existentials (chosen (picked is_exists (λ v. occurs v X)) P) u.apart_existentials (chosen-apart (picked is_exists (λ v. occurs v X)) P d) both ∙ sym (existentials-chosen P X)
    where
      both : (v : ℕ) → Has g.existentials v ↔ Has (chosen (picked is_exists (λ v. occurs v X)) P) v
      both v = let m : Has (chosen (picked is_exists (λ v. occurs v X)) P) v ↔ ((of_quant is_exists P v ≡ true) × (occurs v X ≡ true)) = chosen-members is_exists (λ v. occurs v X) P d v in (
        (λ h. let r : (is_existential P v ≡ true) × (occurs v X ≡ true) = (u.existentials v).0 h in m.1 (existential-of P v ∙ r.0, r.1)),
        (λ h. let r : (of_quant is_exists P v ≡ true) × (occurs v X ≡ true) = m.0 h in (u.existentials v).1 (sym (existential-of P v) ∙ r.0, r.1)),
      )

  pub universals-counted : length g.universals ≡ universals_in P X
  universals-counted = same-length g.universals (chosen (picked (λ q. not (is_exists q)) (λ v. occurs v X)) P) u.apart_universals (chosen-apart (picked (λ q. not (is_exists q)) (λ v. occurs v X)) P d) both ∙ sym (universals-chosen P X)
    where
      both : (v : ℕ) → Has g.universals v ↔ Has (chosen (picked (λ q. not (is_exists q)) (λ v. occurs v X)) P) v
      both v = let m : Has (chosen (picked (λ q. not (is_exists q)) (λ v. occurs v X)) P) v ↔ ((of_quant (λ q. not (is_exists q)) P v ≡ true) × (occurs v X ≡ true)) = chosen-members (λ q. not (is_exists q)) (λ v. occurs v X) P d v in (
        (λ h. let r : (is_universal P v ≡ true) × (occurs v X ≡ true) = (u.universals v).0 h in m.1 (universal-of P v ∙ r.0, r.1)),
        (λ h. let r : (of_quant (λ q. not (is_exists q)) P v ≡ true) × (occurs v X ≡ true) = m.0 h in (u.universals v).1 (sym (universal-of P v) ∙ r.0, r.1)),
      )

-- What is left of the prefix.
pub occurring-all : (P : Prefix) (X : Matrix) → ((v : ℕ) → is_bound P v ≡ true → occurs v X ≡ true) → occurring P X ≡ P
occurring-all [] X h = refl
occurring-all (b ∷ P) X h =
    let o : occurs b.var X ≡ true = h b.var (grind (arith, nat_tests)) in
    let i : occurring P X ≡ P = occurring-all P X later in
    ap (λ (t : Bool). cond t (b ∷ occurring P X) (occurring P X)) o ∙ ap (λ (Q : Prefix). b ∷ Q) i
  where
    later : (v : ℕ) → is_bound P v ≡ true → occurs v X ≡ true
    later v e = h v (grind arith)

module _ (g : Groups) (P : Prefix) (X : Matrix) (u : AreUses g P (λ v. occurs v X)) where
  -- Where no variable is idle, sweeping leaves the prefix as it is.
  pub none_idle-occurring : g.idle ≡ [] → occurring P X ≡ P
  none_idle-occurring e = occurring-all P X (λ v h. go v h (occurs v X) refl)
    where
      go : (v : ℕ) → is_bound P v ≡ true → (t : Bool) → occurs v X ≡ t → t ≡ true
      go v h true o = refl
      go v h false o = absurd (subst (λ (ys : List ℕ). Has ys v) e ((u.idle v).1 (h, o)))

-- An idle variable that leaves changes nothing of what sweeping leaves.
pub occurring-removed : (v : ℕ) (P : Prefix) (X : Matrix) → occurs v X ≡ false → occurring (removed_from v P) X ≡ occurring P X
occurring-removed v [] X o = refl
occurring-removed v (b ∷ P) X o = elim (cases_eq b.var v) [
  | inl e ↦
      let t : eqb b.var v ≡ true = grind (arith, nat_tests) in
      let f : occurs b.var X ≡ false = subst (λ (k : ℕ). occurs k X ≡ false) (sym e) o in
      ap (λ (s : Bool). occurring (cond s P (b ∷ removed_from v P)) X) t ∙ sym (ap (λ (s : Bool). cond s (b ∷ occurring P X) (occurring P X)) f)
  | inr n ↦
      let t : eqb b.var v ≡ false = grind (arith, nat_tests) in
      ap (λ (s : Bool). occurring (cond s P (b ∷ removed_from v P)) X) t ∙ ap (λ (Q : Prefix). cond (occurs b.var X) (b ∷ Q) Q) (occurring-removed v P X o)
]

-- The greatest variable.
larger-right : (m n : ℕ) → n ≤ larger_of m n
larger-right m n = omega arith

pub greatest-bound : (P : Prefix) → 1 ≤ greatest P → is_bound P (greatest P) ≡ true
greatest-bound [] h = grind arith
greatest-bound (b ∷ P) h = elim (cases_eq (larger_of b.var (greatest P)) b.var) [
  | inl e ↦ grind (arith, nat_tests)
  | inr n ↦
      let e : larger_of b.var (greatest P) ≡ greatest P = omega arith in
      let i : is_bound P (greatest P) ≡ true = greatest-bound P (omega arith) in
      subst (λ (k : ℕ). is_bound (b ∷ P) k ≡ true) (sym e) (later (greatest P) i)
]
  where
    later : (v : ℕ) → is_bound P v ≡ true → is_bound (b ∷ P) v ≡ true
    later v e = grind arith

pub greatest-inserted : (w v : ℕ) (P : Prefix) → is_bound P w ≡ true → greatest (insert_after w v P) ≡ larger_of (greatest P) v
greatest-inserted w v [] h = grind arith
greatest-inserted w v (b ∷ P) h = go (eqb b.var w) h (greatest-inserted w v P)
  where
    both : (x y z : ℕ) → larger_of x (larger_of y z) ≡ larger_of (larger_of x z) y
    both x y z = omega arith

    after_all : (x y z r : ℕ) → r ≡ larger_of z y → larger_of x r ≡ larger_of (larger_of x z) y
    after_all x y z r e = omega arith

    go : (t : Bool) → cond t true (is_bound P w) ≡ true → (is_bound P w ≡ true → greatest (insert_after w v P) ≡ larger_of (greatest P) v)
        → greatest (cond t (b ∷ record { quant = Exists; var = v } ∷ P) (b ∷ insert_after w v P)) ≡ larger_of (larger_of b.var (greatest P)) v
    go true h ih = both b.var v (greatest P)
    go false h ih = after_all b.var v (greatest P) (greatest (insert_after w v P)) (ih h)

pub greatest-removed_most : (v : ℕ) (P : Prefix) → greatest (removed_from v P) ≤ greatest P
greatest-removed_most v [] = omega arith
greatest-removed_most v (b ∷ P) = go (eqb b.var v) (greatest-removed_most v P)
  where
    more : (x y z : ℕ) → y ≤ z → larger_of x y ≤ larger_of x z
    more x y z h = omega arith

    go : (t : Bool) → greatest (removed_from v P) ≤ greatest P → greatest (cond t P (b ∷ removed_from v P)) ≤ larger_of b.var (greatest P)
    go true h = larger-right b.var (greatest P)
    go false h = more b.var (greatest (removed_from v P)) (greatest P) h

-- A prefix of distinct variables below a number is no longer than that number.
abbrev pub variables_of : Prefix → List ℕ
variables_of [] = []
variables_of (b ∷ P) = b.var ∷ variables_of P

length-variables : (P : Prefix) → length (variables_of P) ≡ length P
length-variables [] = refl
length-variables (b ∷ P) = ap suc (length-variables P)

variables-bound : (P : Prefix) (v : ℕ) → Has (variables_of P) v → is_bound P v ≡ true
variables-bound [] v h = elim h [ ]
variables-bound (b ∷ P) v (inl e) = grind (arith, nat_tests)
variables-bound (b ∷ P) v (inr h) = let i : is_bound P v ≡ true = variables-bound P v h in grind arith

variables-apart : (P : Prefix) → Distinct P → AreApart (variables_of P)
variables-apart [] d = tt
variables-apart (b ∷ P) d = (Misses-from b.var (variables_of P) (λ h. true≢false (sym (variables-bound P b.var h) ∙ d.0)), variables-apart P d.1)

variables-below : (n : ℕ) (P : Prefix) → AllByRecursion (λ q. (1 ≤ q.var) × (q.var < n)) P → AreBelow n (variables_of P)
variables-below n [] r = tt
variables-below n (b ∷ P) r = (r.0.1, variables-below n P r.1)

pub prefix-short : (F : PrenexFormula) → IsProper F → length F.prefix ≤ 2147483648
prefix-short F p = subst (λ (k : ℕ). k ≤ 2147483648) (length-variables F.prefix)
    (length-below 2147483648 (variables_of F.prefix) (variables-apart F.prefix p.formula.distinct) (variables-below 2147483648 F.prefix p.ranges))
