use Rattle.std.proofs.Common.{◌≡◌, ◌≤◌, ◌+◌, ℕ, zero, suc, true, [], ◌∷◌, Some, None, set, take, length, slice_get, refl, sym, ◌∙◌, ap, arith, add-one, true≢false}
use Rattle.std.proofs.lemmas.Option.{slice_get_within}
use Rattle.q_logic.specs.Prelude.{Clause, Matrix, IsIn, clause_eq, copies, Slots}
use Rattle.q_prop.specs.Slots.{filled}
use Rattle.q_prop.proofs.SlotLemmas.{take-slice_get}
use Rattle.q_logic.proofs.Common.{clause_eq-itself, copies-IsIn, copies-append, same-sizes}
use Rattle.q_judge.proofs.SlotCollections.{emptied-same, left-sizes, in-held}
use Rattle.q_judge.proofs.checks.takes_all.Goals as goal

copies-take : (D : Clause) (n : ℕ) (X : Matrix) → copies D (take n X) ≤ copies D X
copies-take D zero X = omega arith
copies-take D (suc n) [] = omega arith
copies-take D (suc n) (C ∷ X) = let i : copies D (take n X) ≤ copies D X = copies-take D n X in grind arith

more : (M : Matrix) (i : ℕ) (C D : Clause) → slice_get M i ≡ Some C → copies D (take (i + 1) M) ≡ copies D (take i M) + copies D (C ∷ [])
more M i C D e = rw (add-one, take-slice_get M i C e) (copies-append D (take i M) (C ∷ []))

none : (X : Matrix) → length X ≡ 0 → X ≡ []
none [] e = refl
none (C ∷ X) e = absurd (omega arith)

take-past : (X : Matrix) (i : ℕ) → length X ≤ i → take i X ≡ X
take-past [] zero h = refl
take-past [] (suc i) h = refl
take-past (C ∷ X) zero h = absurd (omega arith)
take-past (C ∷ X) (suc i) h = ap (λ (Y : Matrix). C ∷ Y) (take-past X i (omega arith))

pub returns-then-clauses : goal.returns-then-clauses
returns-then-clauses c = (
  (λ t. absurd (true≢false (sym t))),
  (λ h. absurd (c.if-clauses.true (c.requires ∙ (same-sizes (filled c.args.store.now) c.args.output.now.matrix h).0 ∙ sym c.clauses.ensures.value))),
)

pub delete-requires : goal.delete-requires
delete-requires c = slice_get_within c.loop-at.store c.in-Some.slot (Some c.clause.result.now) c.in-Some.ensures

pub loop-at-preserved : goal.loop-at-preserved
loop-at-preserved c =
    let C = c.clause.result.now in
    let M = c.args.output.now.matrix in
    let z = left-sizes c.loop-at.store c.in-Some.slot C c.in-Some.ensures in
    rw c.delete.ensures (
      (λ D. step D C M c.loop-at.at c.loop-at.store c.in-Some.slot (copies D (filled c.args.store.now)) (more M c.loop-at.at C D c.clause.ensures.value) (emptied-same c.loop-at.store c.in-Some.slot C c.in-Some.ensures D) (c.loop-at.invariant.0 D)),
      omega (arith, z.0, c.loop-at.invariant.1),
    )
  where
    step : (D C : Clause) (M : Matrix) (i : ℕ) (s : Slots) (n x : ℕ) → copies D (take (i + 1) M) ≡ copies D (take i M) + copies D (C ∷ []) → copies D (filled s) ≡ copies D (C ∷ filled (set s n None)) → x ≡ copies D (filled s) + copies D (take i M) → x ≡ copies D (filled (set s n None)) + copies D (take (i + 1) M)
    step D C M i s n x e f g = grind arith

pub returns-in-None : goal.returns-in-None
returns-in-None c = (
  (λ t. absurd (true≢false (sym t))),
  (λ h. absurd (let C = c.clause.result.now in
      let M = c.args.output.now.matrix in
      let e = more M c.loop-at.at C C c.clause.ensures.value in
      let l = copies-take C (c.loop-at.at + 1) M in
      let o : copies C (C ∷ []) ≡ 1 = (let q : clause_eq C C ≡ true = clause_eq-itself C in grind arith) in
      let z : copies C (filled c.loop-at.store) ≡ 0 = absent (filled c.loop-at.store) C (λ m. let r = in-held c.loop-at.store C m in c.in-None.ensures r.0 r.1) in
      omega (arith, e, l, o, z, h C, c.loop-at.invariant.0 C))),
)
  where
    absent : (X : Matrix) (C : Clause) → (IsIn C X → ⊥) → copies C X ≡ 0
    absent X C n = go (copies C X) refl
      where
        go : (k : ℕ) → copies C X ≡ k → k ≡ 0
        go zero e = refl
        go (suc k) e = absurd (n (copies-IsIn C X (omega arith)))

pub returns : goal.returns
returns c = (
  (λ t C.
      let M = c.args.output.now.matrix in
      let past : length M ≤ c.loop-at.at = omega (arith, c.loop-at-test.false, c.clauses-at-end.ensures.value) in
      let e : filled c.loop-at.store ≡ [] = none (filled c.loop-at.store) (omega (arith, past, c.loop-at.invariant.1, c.requires, c.if-clauses.false, c.clauses.ensures.value)) in
      let x = rw (e, take-past M c.loop-at.at past) at c.loop-at.invariant.0 C in omega (arith, x)),
  (λ h. refl),
)
