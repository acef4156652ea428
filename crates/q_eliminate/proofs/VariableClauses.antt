-- The clauses of a variable, by ids and as parts of the matrix.
use Rattle.std.proofs.Common.{◌≡◌, ◌↔◌, ◌≤◌, ◌<◌, ◌+◌, ◌++◌, ◌⊎◌, ℕ, true, false, List, [], ◌∷◌, length, Option, None, Some, inl, inr, arith, refl, sym, ap, ◌∙◌, subst, length-append, eqb, true≢false}
use Rattle.std.proofs.lemmas.Option.{same_Some}
use Rattle.std.specs.List.{AllByRecursion}
use Rattle.q_logic.proofs.Common.{size-alike, SameClauses, IsIn-alike, alike-refl, alike-sym, alike-trans, alike-append, IsIn-with, IsIn-in_with, with-alike, live-slot, same-sizes}
use Rattle.q_logic.proofs.MeasureFalls.{size-append, with_without}
use Rattle.q_logic.specs.Prelude.{Literal, negation, Clause, Matrix, Prefix, IsIn, size_of, Slots, live, put_first, formula_of, clauses_at, literals_in, with_literal, without_literal, OccursIn, standard, IsInLimits, AllOuter, resolve_all}
use Rattle.q_kernel.specs.Prelude.{Seen, slots, formula_in}
use Rattle.q_kernel.proofs.SlotLists.{size-parts}
use Rattle.q_rule.proofs.LoopChanges.{with-less}
use Rattle.q_eliminate.specs.Sides.{AreLive, AreIdsOf}
use Rattle.q_eliminate.specs.declared.counting.Gain.{Gain}
use Rattle.q_eliminate.specs.Gains.{no_gain, IsGain}
use Rattle.q_eliminate.specs.Plans.{IsPlain, IsOuter, IsSplit, AreFew, MayGo, IsPlanOf, resolvents_on, others_on}
use Rattle.q_eliminate.specs.declared.plan.Plan.{Plan}
use Rattle.q_eliminate.proofs.IdWalks.{all-member, all-members}
use Rattle.q_eliminate.proofs.GainCounts.{literals-append}
use Rattle.q_eliminate.proofs.ResolventOrder.{resolve-same}

pub live-ids : (k : Seen) (l : Literal) (ids : List ℕ) → AreIdsOf k l ids → AreLive (slots k) ids
live-ids k l ids a c m = let h = a.held c m in (h.0, h.1)

pub at-length : (N : Slots) (ids : List ℕ) → AreLive N ids → length (clauses_at N ids) ≡ length ids
at-length N [] a = refl
at-length N (c ∷ ids) a = let h = a c (inl refl) in let i = at-length N ids (λ d m. a d (inr m)) in
    ap (λ (o : Option Clause). length (put_first o (clauses_at N ids))) h.1 ∙ ap Rattle.std.proofs.Common.suc i

-- members of a side
pub side-member : (k : Seen) (l : Literal) (ids : List ℕ) (D : Clause) → AreIdsOf k l ids → IsIn D (clauses_at (slots k) ids) → IsIn D (live (slots k)) × IsIn l D
side-member k l ids D a m = IsIn-with l (live (slots k)) D (IsIn-alike (clauses_at (slots k) ids) (with_literal l (live (slots k))) a.clauses D m)

pub member-side : (k : Seen) (l : Literal) (ids : List ℕ) (D : Clause) → AreIdsOf k l ids → IsIn D (live (slots k)) → IsIn l D → IsIn D (clauses_at (slots k) ids)
member-side k l ids D a m n = IsIn-alike (with_literal l (live (slots k))) (clauses_at (slots k) ids) (alike-sym (clauses_at (slots k) ids) (with_literal l (live (slots k))) a.clauses) D (IsIn-in_with l (live (slots k)) D m n)

-- One side holds only outer or same literals.
pub outer-side : (k : Seen) (l : Literal) (ids : List ℕ) → AreIdsOf k l ids → AllByRecursion (IsOuter k.prefix l.var) (clauses_at (slots k) ids) → AllOuter k.prefix l (live (slots k))
outer-side k l ids a h D m n = all-member (IsOuter k.prefix l.var) (clauses_at (slots k) ids) D h (member-side k l ids D a m n)

pub side-outer : (k : Seen) (l : Literal) (ids : List ℕ) → AreIdsOf k l ids → AllOuter k.prefix l (live (slots k)) → AllByRecursion (IsOuter k.prefix l.var) (clauses_at (slots k) ids)
side-outer k l ids a h = all-members (IsOuter k.prefix l.var) (clauses_at (slots k) ids) (λ D m. let r = side-member k l ids D a m in h D r.0 r.1)

pub plain-side : (k : Seen) (l : Literal) (ids : List ℕ) → AreIdsOf k l ids → ((D : Clause) → IsIn D (live (slots k)) → IsIn l D → IsPlain D) → AllByRecursion IsPlain (clauses_at (slots k) ids)
plain-side k l ids a h = all-members IsPlain (clauses_at (slots k) ids) (λ D m. let r = side-member k l ids D a m in h D r.0 r.1)

pub side-plain : (k : Seen) (l : Literal) (ids : List ℕ) → AreIdsOf k l ids → AllByRecursion IsPlain (clauses_at (slots k) ids) → (D : Clause) → IsIn D (live (slots k)) → IsIn l D → IsPlain D
side-plain k l ids a h D m n = all-member IsPlain (clauses_at (slots k) ids) D h (member-side k l ids D a m n)

-- Where no clause holds both signs, the clauses fall into those with the literal, those with its negation, and the others.
pub parted : (l : Literal) (X : Matrix) → ((D : Clause) → IsIn D X → IsIn l D → IsIn (negation l) D → ⊥) → SameClauses X (with_literal l X ++ (with_literal (negation l) X ++ others_on l X))
parted l X h = alike-trans X (with_literal l X ++ without_literal l X) (with_literal l X ++ (with_literal (negation l) X ++ others_on l X)) (with-alike l X)
    (alike-append (with_literal l X) (with_literal l X) (without_literal l X) (with_literal (negation l) X ++ others_on l X) (alike-refl (with_literal l X))
    (subst (λ (W : Matrix). SameClauses (without_literal l X) (W ++ others_on l X)) (with_without l (negation l) X h) (with-alike (negation l) (without_literal l X))))

-- no clause holds both signs
pub split-apart : (P : Prefix) (X : Matrix) (l : Literal) → IsSplit P X l → (D : Clause) → IsIn D X → IsIn l D → IsIn (negation l) D → ⊥
split-apart P X l s D m a b = s.no_tautology D m (inl a) (l, a, b)

-- The sign whose clauses hold only outer or same literals.
pub sign-first : (k : Seen) (l : Literal) (ids : List ℕ) (x : ℕ) → AreIdsOf k l ids → x ≡ l.var → AllByRecursion (IsOuter k.prefix x) (clauses_at (slots k) ids) → (m : Literal) → Some l ≡ Some m → ((m ≡ l) ⊎ (m ≡ negation l)) × AllOuter k.prefix m (live (slots k))
sign-first k l ids x a e h m f =
    let q = same_Some l m f in
    let o : AllOuter k.prefix l (live (slots k)) = outer-side k l ids a (subst (λ (v : ℕ). AllByRecursion (IsOuter k.prefix v) (clauses_at (slots k) ids)) e h) in
    (inl (sym q), subst (λ (j : Literal). AllOuter k.prefix j (live (slots k))) q o)

pub sign-second : (k : Seen) (l n : Literal) (ids : List ℕ) (x : ℕ) → AreIdsOf k (negation l) ids → n ≡ negation l → x ≡ l.var → AllByRecursion (IsOuter k.prefix x) (clauses_at (slots k) ids) → (m : Literal) → Some n ≡ Some m → ((m ≡ l) ⊎ (m ≡ negation l)) × AllOuter k.prefix m (live (slots k))
sign-second k l n ids x a e f h m g =
    let q : m ≡ negation l = sym (same_Some n m g) ∙ e in
    let o : AllOuter k.prefix (negation l) (live (slots k)) = outer-side k (negation l) ids a (subst (λ (v : ℕ). AllByRecursion (IsOuter k.prefix v) (clauses_at (slots k) ids)) f h) in
    (inr q, subst (λ (j : Literal). AllOuter k.prefix j (live (slots k))) (sym q) o)

pub outer-test : (k : Seen) (l : Literal) (ids : List ℕ) (x : ℕ) → AreIdsOf k l ids → x ≡ l.var → AllOuter k.prefix l (live (slots k)) → AllByRecursion (IsOuter k.prefix x) (clauses_at (slots k) ids)
outer-test k l ids x a e h = subst (λ (v : ℕ). AllByRecursion (IsOuter k.prefix v) (clauses_at (slots k) ids)) (sym e) (side-outer k l ids a h)

-- Whether the variable occurs.
pub occurs-some : (k : Seen) (l : Literal) (ids : List ℕ) → AreIdsOf k l ids → eqb (length ids) 0 ≡ false → OccursIn l (live (slots k))
occurs-some k l [] a h = absurd (true≢false h)
occurs-some k l (c ∷ ids) a h = let r = a.held c (inl refl) in (r.0, live-slot (slots k) c r.0 r.1, r.2)

pub occurs-none : (k : Seen) (l : Literal) (ids : List ℕ) → AreIdsOf k l ids → eqb (length ids) 0 ≡ true → OccursIn l (live (slots k)) → ⊥
occurs-none k l [] a h (D, m, n) = member-side k l [] D a m n
occurs-none k l (c ∷ ids) a h o = none (length ids) h
  where
    none : (n : ℕ) → eqb (Rattle.std.proofs.Common.suc n) 0 ≡ true → ⊥
    none n e = grind arith

-- The parts of the condition together.
pub split-of : (P : Prefix) (X : Matrix) (l m : Literal) → OccursIn l X ⊎ OccursIn (negation l) X → ((D : Clause) → IsIn D X → IsIn l D → IsPlain D) → ((D : Clause) → IsIn D X → IsIn (negation l) D → IsPlain D) → (m ≡ l) ⊎ (m ≡ negation l) → AllOuter P m X → IsSplit P X l
split-of P X l m o p n s a = record {
  occurs = o;
  no_tautology = λ D i j. elim j [ inl x ↦ p D i x | inr y ↦ n D i y ];
  outer_side = elim s [ inl e ↦ inl (subst (λ (j : Literal). AllOuter P j X) e a) | inr e ↦ inr (subst (λ (j : Literal). AllOuter P j X) e a) ];
}

-- What both sides are.
pub ids-small : (k : Seen) (l : Literal) (ids : List ℕ) → AreIdsOf k l ids → (size_of (clauses_at (slots k) ids) ≤ size_of (live (slots k))) × (length ids ≤ size_of (live (slots k)))
ids-small k l ids a =
    let e = size-alike (clauses_at (slots k) ids) (with_literal l (live (slots k))) a.clauses in
    let w = with-less l (live (slots k)) in
    let n = at-length (slots k) ids (live-ids k l ids a) in
    let p = size-parts (clauses_at (slots k) ids) in
    (omega arith, omega arith)

module _ (k : Seen) (l : Literal) (ids others : List ℕ) (a : AreIdsOf k l ids) (b : AreIdsOf k (negation l) others) where
  pub sides-size : size_of (clauses_at (slots k) ids) + size_of (clauses_at (slots k) others) ≡ size_of (with_literal l (live (slots k)) ++ with_literal (negation l) (live (slots k)))
  sides-size =
      let p = size-alike (clauses_at (slots k) ids) (with_literal l (live (slots k))) a.clauses in
      let n = size-alike (clauses_at (slots k) others) (with_literal (negation l) (live (slots k))) b.clauses in
      let e = size-append (with_literal l (live (slots k))) (with_literal (negation l) (live (slots k))) in omega arith

  pub sides-resolvents : SameClauses (resolve_all l (clauses_at (slots k) ids) (clauses_at (slots k) others)) (resolvents_on l (live (slots k)))
  sides-resolvents = resolve-same l (clauses_at (slots k) ids) (with_literal l (live (slots k))) (clauses_at (slots k) others) (with_literal (negation l) (live (slots k))) a.clauses b.clauses

  -- what is left of the formula
  sides-left : IsSplit k.prefix (live (slots k)) l → (length (live (slots k)) ≡ length (others_on l (live (slots k))) + (length ids + length others))
      × (literals_in (live (slots k)) + (length ids + length others) ≡ literals_in (others_on l (live (slots k))) + (size_of (clauses_at (slots k) ids) + size_of (clauses_at (slots k) others)))
  sides-left t =
      let X = live (slots k) in
      let A = with_literal l X in
      let B = with_literal (negation l) X in
      let R = others_on l X in
      let p = same-sizes X (A ++ (B ++ R)) (parted l X (split-apart k.prefix X l t)) in
      let x = p.0 in
      let y = p.1 in
      let l1 = length-append A (B ++ R) in
      let l2 = length-append B R in
      let t1 = literals-append A (B ++ R) in
      let t2 = literals-append B R in
      let ca = same-sizes (clauses_at (slots k) ids) A a.clauses in
      let cb = same-sizes (clauses_at (slots k) others) B b.clauses in
      let ca0 = ca.0 in let ca1 = ca.1 in let cb0 = cb.0 in let cb1 = cb.1 in
      let na = at-length (slots k) ids (live-ids k l ids a) in
      let nb = at-length (slots k) others (live-ids k (negation l) others b) in
      let sa = size-parts (clauses_at (slots k) ids) in
      let sb = size-parts (clauses_at (slots k) others) in
      (omega arith, omega arith)

  -- the limits, by numbers
  pub limits-told : (c n : ℕ) → IsSplit k.prefix (live (slots k)) l → IsInLimits standard (formula_in k) → c ≡ length (resolvents_on l (live (slots k))) → n ≡ literals_in (resolvents_on l (live (slots k)))
      → (length (live (slots k)) + c ≤ 33554432 + (length ids + length others)) × (literals_in (live (slots k)) + n + (length ids + length others) ≤ 134217728 + (size_of (clauses_at (slots k) ids) + size_of (clauses_at (slots k) others)))
      → IsInLimits standard (formula_of k.prefix (others_on l (live (slots k)) ++ resolvents_on l (live (slots k))))
  limits-told c n t h e f g =
      let r = sides-left t in
      let r0 = r.0 in let r1 = r.1 in let g0 = g.0 in let g1 = g.1 in
      let x = length-append (others_on l (live (slots k))) (resolvents_on l (live (slots k))) in
      let y = literals-append (others_on l (live (slots k))) (resolvents_on l (live (slots k))) in
      record { vars = h.vars; clauses = omega arith; lits = omega arith }

  pub told-limits : (c n : ℕ) → IsSplit k.prefix (live (slots k)) l → c ≡ length (resolvents_on l (live (slots k))) → n ≡ literals_in (resolvents_on l (live (slots k)))
      → IsInLimits standard (formula_of k.prefix (others_on l (live (slots k)) ++ resolvents_on l (live (slots k))))
      → (length (live (slots k)) + c ≤ 33554432 + (length ids + length others)) × (literals_in (live (slots k)) + n + (length ids + length others) ≤ 134217728 + (size_of (clauses_at (slots k) ids) + size_of (clauses_at (slots k) others)))
  told-limits c n t e f g =
      let r = sides-left t in
      let r0 = r.0 in let r1 = r.1 in let g0 = g.clauses in let g1 = g.lits in
      let x = length-append (others_on l (live (slots k))) (resolvents_on l (live (slots k))) in
      let y = literals-append (others_on l (live (slots k))) (resolvents_on l (live (slots k))) in
      (omega arith, omega arith)

  -- the gain is that of the resolvents
  pub gain-told : (bound : ℕ) (g : Gain) → IsGain no_gain (resolve_all l (clauses_at (slots k) ids) (clauses_at (slots k) others)) bound (Some g) → (g.clauses ≡ length (resolvents_on l (live (slots k)))) × (g.lits ≡ literals_in (resolvents_on l (live (slots k)))) × (g.clauses + g.lits ≤ bound)
  gain-told bound g h =
      let e = same-sizes (resolve_all l (clauses_at (slots k) ids) (clauses_at (slots k) others)) (resolvents_on l (live (slots k))) sides-resolvents in
      let e0 = e.0 in let e1 = e.1 in
      let c = h.clauses g refl in let n = h.lits g refl in
      (omega arith, omega arith, h.within g refl)

  pub gain-passed : (bound grow : ℕ) → bound ≡ size_of (clauses_at (slots k) ids) + size_of (clauses_at (slots k) others) + grow → IsGain no_gain (resolve_all l (clauses_at (slots k) ids) (clauses_at (slots k) others)) bound None → AreFew grow (live (slots k)) l → ⊥
  gain-passed bound grow e h f =
      let s = size-alike (resolve_all l (clauses_at (slots k) ids) (clauses_at (slots k) others)) (resolvents_on l (live (slots k))) sides-resolvents in
      let p = h.passed refl in
      let z = sides-size in omega arith

  pub planned : (grow size : ℕ) (o : Literal) (g : Gain) → size ≡ size_of (clauses_at (slots k) ids) + size_of (clauses_at (slots k) others) → IsInLimits standard (formula_in k) → IsSplit k.prefix (live (slots k)) l → ((o ≡ l) ⊎ (o ≡ negation l)) × AllOuter k.prefix o (live (slots k))
      → IsGain no_gain (resolve_all l (clauses_at (slots k) ids) (clauses_at (slots k) others)) (size + grow) (Some g)
      → (length (live (slots k)) + g.clauses ≤ 33554432 + (length ids + length others)) × (literals_in (live (slots k)) + g.lits + (length ids + length others) ≤ 134217728 + size)
      → (p : Plan) → Some (record { outer = o; size = size; gain = g }) ≡ Some p → MayGo grow k.prefix (live (slots k)) l × IsPlanOf k l p
  planned grow size o g e h t s i n p q =
      let r = gain-told (size + grow) g i in
      let z = sides-size in
      let r0 = r.0 in let r1 = r.1 in let r2 = r.2 in
      let w = size-parts (resolvents_on l (live (slots k))) in
      let n' = subst (λ (x : ℕ). (length (live (slots k)) + g.clauses ≤ 33554432 + (length ids + length others)) × (literals_in (live (slots k)) + g.lits + (length ids + length others) ≤ 134217728 + x)) e n in (
        record { split = t; small = omega arith; limits = limits-told g.clauses g.lits t h r0 r1 n' },
        subst (IsPlanOf k l) (same-plan q) (record { sign = s.0; outer = s.1; size = e ∙ z; clauses = r0; lits = r1 }),
      )
    where
      same-plan : {a b : Plan} → Some a ≡ Some b → a ≡ b
      same-plan e = cc

  pub unplanned : (grow size : ℕ) (g : Gain) → size ≡ size_of (clauses_at (slots k) ids) + size_of (clauses_at (slots k) others)
      → IsGain no_gain (resolve_all l (clauses_at (slots k) ids) (clauses_at (slots k) others)) (size + grow) (Some g)
      → MayGo grow k.prefix (live (slots k)) l
      → (length (live (slots k)) + g.clauses ≤ 33554432 + (length ids + length others)) × (literals_in (live (slots k)) + g.lits + (length ids + length others) ≤ 134217728 + size)
  unplanned grow size g e i m =
      let r = gain-told (size + grow) g i in
      subst (λ (x : ℕ). (length (live (slots k)) + g.clauses ≤ 33554432 + (length ids + length others)) × (literals_in (live (slots k)) + g.lits + (length ids + length others) ≤ 134217728 + x)) (sym e)
      (told-limits g.clauses g.lits m.split r.0 r.1 m.limits)
