-- A prefix that gains or loses a variable.
use Rattle.std.proofs.Common.{◌≡◌, ◌≢◌, ◌⊎◌, ℕ, ◌<◌, ◌≤◌, true, false, true≢false, List, [], ◌∷◌, length, set, get_or, slice_get, Option, Some, refl, sym, ◌∙◌, ap, subst, inl, inr, arith}
use Rattle.std.proofs.lemmas.List.{get_or-set_same, get_or-set_other, get_or_past}
use Rattle.std.proofs.lemmas.Bool.{cases_lt, cases_eq}
use Rattle.std.proofs.lemmas.Option.{same_Some, none-some}
use Rattle.q_logic.specs.declared.formulas.Quant.{Quant}
use Rattle.q_logic.specs.declared.formulas.Bound.{Bound}
use Rattle.q_logic.specs.Prelude.{IsIn, same_quant, removed_from}
use Rattle.q_logic.proofs.Common.{next-rises, same_quant-itself}
use Rattle.q_arena.specs.Prelude.{Has, Misses, AreApart, without, with_next, Chains, HasSameLists, list_at, following, preceding, preceding_from}
use Rattle.q_arena.proofs.RingPaths.{without-first, without-later}
use Rattle.q_arena.proofs.RingLemmas.{Has-without}
use Rattle.q_arena.proofs.Layouts.{without-gone, Has-kept}
use Rattle.q_arena.proofs.ArenaView.{length-set'}
use Rattle.q_arena.proofs.RingInsertion.{with_next-here, with_next-later, Has-with_next}
use Rattle.q_prefix.specs.declared.marks.Mark.{Mark}
use Rattle.q_prefix.specs.Order.{Binds, with_after, IsRankedFrom, IsRanked, IsRankBefore, no_mark, mark_at, bound_of, rank_of, bounds_of, IsPrefix, IsParted}
use Rattle.q_prefix.proofs.PrefixRanks.{IsBetween, StartsWith, IsJoint, ranked-gone, ranked-merged, ranked-joined}
use Rattle.q_arena.proofs.ListNeighbours.{following-here, following-later, preceding-here, preceding-later, preceding-none}
use Rattle.q_prefix.proofs.ListedBounds.{bounds-without, bounds-with, in-bounds, bounds-same, ranked-same, has-binds}

pub mark-set_here : (marks : List Mark) (v : ℕ) (m : Mark) → v < length marks → mark_at (set marks v m) v ≡ m
mark-set_here marks v m h = get_or-set_same marks v m no_mark h

pub mark-set_other : (marks : List Mark) (v u : ℕ) (m : Mark) → u ≢ v → mark_at (set marks v m) u ≡ mark_at marks u
mark-set_other marks v u m n = get_or-set_other marks v u m no_mark n

-- a bound variable has a mark
pub mark-below : (marks : List Mark) (v : ℕ) → (mark_at marks v).bound ≡ true → v < length marks
mark-below marks v e = elim (cases_lt v (length marks)) [
  | inl a ↦ a
  | inr b ↦ absurd (true≢false (sym e ∙ ap (λ (m : Mark). m.bound) (get_or_past marks v no_mark b)))
]

pub prefix-grown : (o n : Chains) (marks : List Mark) (v : ℕ) (m : Mark) → IsPrefix o marks → m.bound ≡ true → v < length marks
    → length n.lists ≡ length o.lists → length n.owners ≡ length o.owners → ((k : ℕ) → 1 ≤ k → list_at n k ≡ list_at o k)
    → ((u : ℕ) → Has (list_at n 0) u → (u ≡ v) ⊎ Has (list_at o 0) u) → ((u : ℕ) → (u ≡ v) ⊎ Has (list_at o 0) u → Has (list_at n 0) u)
    → IsRanked (rank_of (set marks v m)) (bounds_of (set marks v m) (list_at n 0)) → IsPrefix n (set marks v m)
prefix-grown o n marks v m p mb vl hl ol others from into r =
    let len = length-set' marks v m in
    record {
      heads = rw hl p.heads;
      others = λ k g. others k g ∙ p.others k g;
      bound = λ u h. elim (cases_eq u v) [
        | inl e ↦ ap (λ (k : ℕ). (mark_at (set marks v m) k).bound) e ∙ ap (λ (k : Mark). k.bound) (mark-set_here marks v m vl) ∙ mb
        | inr d ↦ ap (λ (k : Mark). k.bound) (mark-set_other marks v u m d) ∙ elim (from u h) [
          | inl e ↦ absurd (d e)
          | inr i ↦ p.bound u i
        ]
      ];
      bounds = λ u h. elim (cases_eq u v) [
        | inl e ↦ into u (inl e)
        | inr d ↦ into u (inr (p.bounds u (sym (ap (λ (k : Mark). k.bound) (mark-set_other marks v u m d)) ∙ h)))
      ];
      room = let a = p.room in omega (arith, len, ol, a);
      some = let a = p.some in omega (arith, len, a);
      few = let a = p.few in omega (arith, len, a);
      ranked = r;
    }

-- the marks of the variables of a list are as before where another one's is set
pub bounds-set : (marks : List Mark) (L : List ℕ) (v : ℕ) (m : Mark) → (Has L v → ⊥) → bounds_of (set marks v m) L ≡ bounds_of marks L
bounds-set marks L v m f = bounds-same marks (set marks v m) L (λ u h. ap (λ (k : Mark). k.quant) (mark-set_other marks v u m (λ e. f (subst (Has L) e h))))

pub ranked-set : (marks : List Mark) (L : List ℕ) (v : ℕ) (m : Mark) → (Has L v → ⊥) → IsRanked (rank_of marks) (bounds_of marks L) → IsRanked (rank_of (set marks v m)) (bounds_of (set marks v m) L)
ranked-set marks L v m f r =
    rw (bounds-set marks L v m f)
    (ranked-same (rank_of marks) (rank_of (set marks v m)) (bounds_of marks L)
    (λ u h. ap (λ (k : Mark). k.rank) (mark-set_other marks v u m (λ e. f (subst (Has L) e (has-binds marks L u h))))) r)

-- a bound is put before the others
pub ranked-first : (rank : ℕ → ℕ) (b : Bound) (n : ℕ) (p : List Bound) → rank b.var ≡ n → IsRankBefore rank b n p → IsRanked rank p → IsRanked rank (b ∷ p)
ranked-first rank b n [] e h r = tt
ranked-first rank b n (c ∷ p) e h r = (
  elim h [
    | inl x ↦ inl (x.0, e ∙ x.1)
    | inr x ↦ let y : n < rank c.var = x.1 in inr (x.0, omega arith)
  ],
  r,
)

pub rank-before_same : (r s : ℕ → ℕ) (b : Bound) (n : ℕ) (p : List Bound) → ((v : ℕ) → Binds p v → s v ≡ r v) → IsRankBefore r b n p → IsRankBefore s b n p
rank-before_same r s b n [] f h = tt
rank-before_same r s b n (c ∷ p) f h =
    let g : s c.var ≡ r c.var = f c.var (inl refl) in
    elim h [
      | inl x ↦ inl (x.0, x.1 ∙ sym g)
      | inr x ↦ let y : n < r c.var = x.1 in inr (x.0, omega arith)
    ]

-- what stands beside a variable

module _ (marks : List Mark) (v : ℕ) where
  between-beside : (u : ℕ) (us : List ℕ) (x y : Bound) → IsBetween x v y (bound_of marks u) (bounds_of marks us)
      → (preceding_from v u us ≡ Some x.var) × (following v us ≡ Some y.var) × (x ≡ bound_of marks x.var) × (y ≡ bound_of marks y.var)
  between-beside u [] x y k = absurd k
  between-beside u (c ∷ cs) x y k = elim k [
    | inl a ↦
        let ux : u ≡ x.var = ap (λ (b : Bound). b.var) a.0 in
        let s = starts cs a.2 in (
          preceding-here v u c cs a.1 ∙ ap (λ (n : ℕ). Some n) ux,
          following-here v c cs a.1 ∙ s.0,
          sym a.0 ∙ ap (bound_of marks) ux,
          s.1,
        )
    | inr a ↦
        let r = between-beside c cs x y a.1 in
        (preceding-later v u c cs a.0 ∙ r.0, following-later v c cs a.0 ∙ r.1, r.2, r.3)
  ]
    where
      starts : (cs : List ℕ) → StartsWith y (bounds_of marks cs) → (slice_get cs 0 ≡ Some y.var) × (y ≡ bound_of marks y.var)
      starts [] h = absurd h
      starts (d ∷ ds) h =
          let dy : d ≡ y.var = ap (λ (b : Bound). b.var) h in
          (ap (λ (n : ℕ). Some n) dy, sym h ∙ ap (bound_of marks) dy)

  beside-between : (u : ℕ) (us : List ℕ) (x y : ℕ) → preceding_from v u us ≡ Some x → following v us ≡ Some y → IsBetween (bound_of marks x) v (bound_of marks y) (bound_of marks u) (bounds_of marks us)
  beside-between u [] x y e f = absurd (none-some x e)
  beside-between u (c ∷ cs) x y e f = elim (cases_eq c v) [
    | inl q ↦
        let ux : u ≡ x = same_Some u x (sym (preceding-here v u c cs q) ∙ e) in
        inl (ap (bound_of marks) ux, q, starts cs (sym (following-here v c cs q) ∙ f))
    | inr n ↦ inr (n, beside-between c cs x y (sym (preceding-later v u c cs n) ∙ e) (sym (following-later v c cs n) ∙ f))
  ]
    where
      starts : (cs : List ℕ) → slice_get cs 0 ≡ Some y → StartsWith (bound_of marks y) (bounds_of marks cs)
      starts [] h = absurd (none-some y h)
      starts (d ∷ ds) h = ap (bound_of marks) (same_Some d y h)

between-rises : (rank : ℕ → ℕ) (x : Bound) (v : ℕ) (y b : Bound) (p : List Bound) → IsRankedFrom rank b p → IsBetween x v y b p → rank x.var ≤ rank y.var
between-rises rank x v y b [] r k = absurd k
between-rises rank x v y b (c ∷ p) r k = elim k [
  | inl a ↦ first p r a
  | inr a ↦ between-rises rank x v y c p r.1 a.1
]
  where
    first : (p : List Bound) → IsRankedFrom rank b (c ∷ p) → (b ≡ x) × (c.var ≡ v) × StartsWith y p → rank x.var ≤ rank y.var
    first [] r a = absurd a.2
    first (d ∷ q) r a =
        let bx : rank b.var ≡ rank x.var = ap (λ (z : Bound). rank z.var) a.0 in
        let dy : rank d.var ≡ rank y.var = ap (λ (z : Bound). rank z.var) a.2 in
        let m = next-rises rank b c r.0 in
        let n = next-rises rank c d r.1.0 in
        omega (arith, bx, dy, m, n)

pub ranked-tail : (rank : ℕ → ℕ) (b : Bound) (p : List Bound) → IsRankedFrom rank b p → IsRanked rank p
ranked-tail rank b [] r = tt
ranked-tail rank b (c ∷ p) r = r.1

module _ (marks : List Mark) (gone : ℕ) where
  -- the neighbours are of two blocks, or already of one
  kept : (vars : List ℕ) → AreApart vars → Has vars gone → IsRanked (rank_of marks) (bounds_of marks vars)
      → ((x y : ℕ) → preceding gone vars ≡ Some x → following gone vars ≡ Some y → (same_quant (mark_at marks x).quant (mark_at marks y).quant ≡ false) ⊎ (rank_of marks x ≡ rank_of marks y))
      → IsRanked (rank_of marks) (bounds_of marks (without gone vars))
  kept [] a h r f = tt
  kept (u ∷ us) a h r f = elim (cases_eq u gone) [
    | inl e ↦ rw (without-first gone u us e) (ranked-tail (rank_of marks) (bound_of marks u) (bounds_of marks us) r)
    | inr n ↦
        let g : (x y : Bound) → IsBetween x gone y (bound_of marks u) (bounds_of marks us) → (same_quant x.quant y.quant ≡ false) ⊎ (rank_of marks x.var ≡ rank_of marks y.var) = λ x y k.
        let b = between-beside marks gone u us x y k in
        elim (f x.var y.var b.0 (following-later gone u us n ∙ b.1)) [
          | inl q ↦ inl (ap (λ (z : Bound). same_quant z.quant y.quant) b.2 ∙ ap (λ (z : Bound). same_quant (mark_at marks x.var).quant z.quant) b.3 ∙ q)
          | inr q ↦ inr q
        ] in
        let done = ranked-gone (rank_of marks) gone (bound_of marks u) (bounds_of marks us) r g in
        rw (without-later gone u us n, bounds-without marks us gone) done
  ]

  -- the neighbours' blocks become one
  joined : (vars : List ℕ) → AreApart vars → Has vars gone → IsRanked (rank_of marks) (bounds_of marks vars)
      → (x y : ℕ) → preceding gone vars ≡ Some x → following gone vars ≡ Some y → same_quant (mark_at marks x).quant (mark_at marks y).quant ≡ true → rank_of marks x ≢ rank_of marks y
      → (f : ℕ → ℕ) → (rank_of marks x < rank_of marks y → IsJoint f (rank_of marks x) (rank_of marks y))
      → IsRanked (λ v. f (rank_of marks v)) (bounds_of marks (without gone vars))
  joined [] a h r x y p q s d f j = tt
  joined (u ∷ us) a h r x y p q s d f j = elim (cases_eq u gone) [
    | inl e ↦ absurd (none-some x (sym (preceding-none gone u us (subst (λ (k : ℕ). Misses k us) e a.0)) ∙ p))
    | inr n ↦
        let k = beside-between marks gone u us x y p (sym (following-later gone u us n) ∙ q) in
        let le = between-rises (rank_of marks) (bound_of marks x) gone (bound_of marks y) (bound_of marks u) (bounds_of marks us) r k in
        let lt : rank_of marks x < rank_of marks y = omega (arith, le, d) in
        let done = ranked-merged (rank_of marks) f (rank_of marks x) (rank_of marks y) (j lt) (bound_of marks x) gone (bound_of marks y) (bound_of marks u) (bounds_of marks us) r k s refl refl in
        rw (without-later gone u us n, bounds-without marks us gone) done
  ]

module _ (order : Chains) (marks : List Mark) (before after : Option ℕ) (p : IsParted order marks before after) where
  pub parted-kept : ((x y : ℕ) → before ≡ Some x → after ≡ Some y → (same_quant (mark_at marks x).quant (mark_at marks y).quant ≡ false) ⊎ (rank_of marks x ≡ rank_of marks y))
      → IsRanked (rank_of marks) (bounds_of marks (list_at order 0))
  parted-kept f = rw p.left (kept marks p.gone p.vars p.apart p.there p.ranked (λ x y e g. f x y (p.before_is ∙ e) (p.after_is ∙ g)))

  pub parted-joined : (more : List Mark) (x y : ℕ) → before ≡ Some x → after ≡ Some y → same_quant (mark_at marks x).quant (mark_at marks y).quant ≡ true → rank_of marks x ≢ rank_of marks y
      → ((v : ℕ) → (mark_at more v).quant ≡ (mark_at marks v).quant)
      → (f : ℕ → ℕ) → (rank_of marks x < rank_of marks y → IsJoint f (rank_of marks x) (rank_of marks y))
      → ((v : ℕ) → Has (list_at order 0) v → rank_of more v ≡ f (rank_of marks v))
      → IsRanked (rank_of more) (bounds_of more (list_at order 0))
  parted-joined more x y e g s d q f j k =
      let one = joined marks p.gone p.vars p.apart p.there p.ranked x y (sym p.before_is ∙ e) (sym p.after_is ∙ g) s d f j in
      rw (p.left, bounds-same marks more (without p.gone p.vars) (λ v h. q v))
      (ranked-same (λ v. f (rank_of marks v)) (rank_of more) (bounds_of marks (without p.gone p.vars))
      (λ v h. k v (subst (λ (vs : List ℕ). Has vs v) (sym p.left) (has-binds marks (without p.gone p.vars) v h))) one)

-- a variable joins the list after another one, with its mark

new-has : (w v : ℕ) (L : List ℕ) → Has L w → Has (with_next w v L) v
new-has w v [] h = absurd h
new-has w v (u ∷ L) h = elim (cases_eq u w) [
  | inl e ↦ rw (with_next-here w v u L e) (inr (inl refl))
  | inr n ↦ rw (with_next-later w v u L n) (elim h [
    | inl e ↦ absurd (n (sym e))
    | inr i ↦ inr (new-has w v L i)
  ])
]

old-has : (w v u : ℕ) (L : List ℕ) → Has L u → Has (with_next w v L) u
old-has w v u [] h = absurd h
old-has w v u (x ∷ L) h = elim (cases_eq x w) [
  | inl e ↦ rw (with_next-here w v x L e) (elim h [ inl f ↦ inl f | inr i ↦ inr (inr i) ])
  | inr n ↦ rw (with_next-later w v x L n) (elim h [ inl f ↦ inl f | inr i ↦ inr (old-has w v u L i) ])
]

module _ (o n : Chains) (marks : List Mark) (v w : ℕ) (m : Mark) (p : IsPrefix o marks) (lists : n.lists ≡ set o.lists 0 (with_next w v (list_at o 0)))
    (owners : length n.owners ≡ length o.owners) (there : Has (list_at o 0) w) (fresh : Has (list_at o 0) v → ⊥) (vl : v < length marks) (mark : m ≡ mark_at marks w) where
  pub list-inserted : list_at n 0 ≡ with_next w v (list_at o 0)
  list-inserted = ap (λ (xs : List (List ℕ)). get_or xs 0 []) lists ∙ get_or-set_same o.lists 0 (with_next w v (list_at o 0)) [] p.heads

  other-lists : (k : ℕ) → 1 ≤ k → list_at n k ≡ list_at o k
  other-lists k g = ap (λ (xs : List (List ℕ)). get_or xs k []) lists ∙ get_or-set_other o.lists 0 k (with_next w v (list_at o 0)) [] (λ e. absurd (omega arith))

  apart-from : w ≢ v
  apart-from e = fresh (subst (Has (list_at o 0)) e there)

  pub bounds-inserted : bounds_of (set marks v m) (list_at n 0) ≡ with_after (bound_of (set marks v m) v) w (bounds_of marks (list_at o 0))
  bounds-inserted =
      ap (bounds_of (set marks v m)) list-inserted ∙ bounds-with (set marks v m) (list_at o 0) w v
      ∙ ap (with_after (bound_of (set marks v m) v) w) (bounds-set marks (list_at o 0) v m fresh)

  pub prefix-inserted : IsPrefix n (set marks v m)
  prefix-inserted =
      let more = set marks v m in
      let here = mark-set_here marks v m vl in
      let other = mark-set_other marks v w m apart-from in
      let e : rank_of more v ≡ rank_of more w = ap (λ (k : Mark). k.rank) (here ∙ mark ∙ sym other) in
      let q : (mark_at more v).quant ≡ (mark_at more w).quant = ap (λ (k : Mark). k.quant) (here ∙ mark ∙ sym other) in
      let r = ranked-set marks (list_at o 0) v m fresh p.ranked in
      let f : (c : Bound) → IsIn c (bounds_of more (list_at o 0)) → c.var ≡ w → same_quant c.quant (mark_at more v).quant ≡ true = λ c i cw.
      let b = (in-bounds more (list_at o 0) c i).1 in
      let cq : c.quant ≡ (mark_at more v).quant = ap (λ (z : Bound). z.quant) b ∙ ap (λ (k : ℕ). (mark_at more k).quant) cw ∙ sym q in
      ap (λ (z : Quant). same_quant z (mark_at more v).quant) cq ∙ same_quant-itself (mark_at more v).quant in
      let joined' = ranked-joined (rank_of more) (bound_of more v) w e (bounds_of more (list_at o 0)) r f in
      let ranked' : IsRanked (rank_of more) (bounds_of more (list_at n 0)) = rw (list-inserted, bounds-with more (list_at o 0) w v) joined' in
      prefix-grown o n marks v m p (ap (λ (k : Mark). k.bound) mark ∙ p.bound w there) vl
      (ap length lists ∙ length-set' o.lists 0 (with_next w v (list_at o 0))) owners other-lists
      (λ u h. Has-with_next w v u (list_at o 0) (subst (λ (xs : List ℕ). Has xs u) list-inserted h))
      (λ u h. subst (λ (xs : List ℕ). Has xs u) (sym list-inserted) (elim h [
        | inl k ↦ subst (Has (with_next w v (list_at o 0))) (sym k) (new-has w v (list_at o 0) there)
        | inr k ↦ old-has w v u (list_at o 0) k
      ]))
      ranked'

module _ (o n : Chains) (marks : List Mark) (b : Bound) (rank : ℕ) (p : IsPrefix o marks) (lists : n.lists ≡ set o.lists 0 (b.var ∷ list_at o 0))
    (owners : length n.owners ≡ length o.owners) (fresh : Has (list_at o 0) b.var → ⊥) (vl : b.var < length marks) where
  list-pushed : list_at n 0 ≡ b.var ∷ list_at o 0
  list-pushed = ap (λ (xs : List (List ℕ)). get_or xs 0 []) lists ∙ get_or-set_same o.lists 0 (b.var ∷ list_at o 0) [] p.heads

  pub bounds-pushed : bounds_of (set marks b.var (record { quant = b.quant; bound = true; rank = rank })) (list_at n 0) ≡ b ∷ bounds_of marks (list_at o 0)
  bounds-pushed =
      let m : Mark = record { quant = b.quant; bound = true; rank = rank } in
      let here = mark-set_here marks b.var m vl in
      let first : bound_of (set marks b.var m) b.var ≡ b = ap (λ (k : Mark). record { quant = k.quant; var = b.var }) here in
      ap (bounds_of (set marks b.var m)) list-pushed
      ∙ ap (λ (x : Bound). x ∷ bounds_of (set marks b.var m) (list_at o 0)) first
      ∙ ap (λ (x : List Bound). b ∷ x) (bounds-set marks (list_at o 0) b.var m fresh)

  pub prefix-pushed : IsRankBefore (rank_of marks) b rank (bounds_of marks (list_at o 0)) → IsPrefix n (set marks b.var (record { quant = b.quant; bound = true; rank = rank }))
  prefix-pushed h =
      let m : Mark = record { quant = b.quant; bound = true; rank = rank } in
      let more = set marks b.var m in
      let here = mark-set_here marks b.var m vl in
      let same : (u : ℕ) → Binds (bounds_of marks (list_at o 0)) u → rank_of more u ≡ rank_of marks u = λ u i.
      ap (λ (k : Mark). k.rank) (mark-set_other marks b.var u m (λ e. fresh (subst (Has (list_at o 0)) e (has-binds marks (list_at o 0) u i)))) in
      let r = ranked-same (rank_of marks) (rank_of more) (bounds_of marks (list_at o 0)) same p.ranked in
      let h' = rank-before_same (rank_of marks) (rank_of more) b rank (bounds_of marks (list_at o 0)) same h in
      let all = ranked-first (rank_of more) b rank (bounds_of marks (list_at o 0)) (ap (λ (k : Mark). k.rank) here) h' r in
      let ranked' : IsRanked (rank_of more) (bounds_of more (list_at n 0)) = rw bounds-pushed all in
      prefix-grown o n marks b.var m p refl vl
      (ap length lists ∙ length-set' o.lists 0 (b.var ∷ list_at o 0)) owners
      (λ k g. ap (λ (xs : List (List ℕ)). get_or xs k []) lists ∙ get_or-set_other o.lists 0 k (b.var ∷ list_at o 0) [] (λ e. absurd (omega arith)))
      (λ u x. subst (λ (xs : List ℕ). Has xs u) list-pushed x)
      (λ u x. subst (λ (xs : List ℕ). Has xs u) (sym list-pushed) x)
      ranked'

-- more room
pub prefix-reserved : (o n : Chains) (marks more : List Mark) (room : ℕ) → IsPrefix o marks → HasSameLists o n → length o.lists ≤ length n.lists → length o.owners ≤ length n.owners
    → ((v : ℕ) → mark_at more v ≡ mark_at marks v) → length marks ≤ length more → (length more ≡ length marks) ⊎ (length more ≡ room) → room ≤ length n.owners → room < 4294967296 → IsPrefix n more
prefix-reserved o n marks more room p lists heads owners same least exact fits small =
    let within : (length more ≤ length n.owners) × (length more < 4294967296) = elim exact [
      | inl e ↦ (omega (arith, e, p.room, owners), omega (arith, e, p.few))
      | inr e ↦ (omega (arith, e, fits), omega (arith, e, small))
    ] in
    let list0 : list_at n 0 ≡ list_at o 0 = lists 0 in
    let q : (v : ℕ) → Has (list_at o 0) v → (mark_at more v).quant ≡ (mark_at marks v).quant = λ v h. ap (λ (m : Mark). m.quant) (same v) in
    record {
      heads = let a = p.heads in omega (arith, heads, a);
      others = λ m g. lists m ∙ p.others m g;
      bound = λ v h. ap (λ (m : Mark). m.bound) (same v) ∙ p.bound v (subst (λ (xs : List ℕ). Has xs v) list0 h);
      bounds = λ v h. subst (λ (xs : List ℕ). Has xs v) (sym list0) (p.bounds v (sym (ap (λ (m : Mark). m.bound) (same v)) ∙ h));
      room = within.0;
      some = let a = p.some in omega (arith, least, a);
      few = within.1;
      ranked = rw (list0, bounds-same marks more (list_at o 0) q)
          (ranked-same (rank_of marks) (rank_of more) (bounds_of marks (list_at o 0)) (λ v b. ap (λ (m : Mark). m.rank) (same v)) p.ranked);
    }

-- a variable goes, and is no longer bound
module _ (o n : Chains) (marks more last : List Mark) (v : ℕ) (p : IsPrefix o marks) (lists : n.lists ≡ set o.lists 0 (without v (list_at o 0))) (owners : n.owners ≡ o.owners)
    (apart : AreApart (list_at o 0)) (there : Has (list_at o 0) v)
    (len : length more ≡ length marks) (quant : (u : ℕ) → (mark_at more u).quant ≡ (mark_at marks u).quant) (bound : (u : ℕ) → (mark_at more u).bound ≡ (mark_at marks u).bound)
    (ranked : IsRanked (rank_of more) (bounds_of more (list_at n 0)))
    (len' : length last ≡ length more) (gone : (mark_at last v).bound ≡ false) (same : (u : ℕ) → u ≢ v → mark_at last u ≡ mark_at more u) where
  list-removed : list_at n 0 ≡ without v (list_at o 0)
  list-removed = ap (λ (xs : List (List ℕ)). get_or xs 0 []) lists ∙ get_or-set_same o.lists 0 (without v (list_at o 0)) [] p.heads

  others' : (k : ℕ) → 1 ≤ k → list_at n k ≡ list_at o k
  others' k g = ap (λ (xs : List (List ℕ)). get_or xs k []) lists ∙ get_or-set_other o.lists 0 k (without v (list_at o 0)) [] (λ e. absurd (omega arith))

  in-old : (u : ℕ) → Has (list_at n 0) u → Has (list_at o 0) u × (u ≢ v)
  in-old u h =
      let w' : Has (without v (list_at o 0)) u = subst (λ (xs : List ℕ). Has xs u) list-removed h in
      (Has-without v u (list_at o 0) w', λ e. without-gone v (list_at o 0) apart (subst (Has (without v (list_at o 0))) e w'))

  bounds-kept : bounds_of last (list_at n 0) ≡ bounds_of more (list_at n 0)
  bounds-kept = bounds-same more last (list_at n 0) (λ u h. ap (λ (m : Mark). m.quant) (same u (in-old u h).1))

  pub bounds-removed : bounds_of last (list_at n 0) ≡ removed_from v (bounds_of marks (list_at o 0))
  bounds-removed = bounds-kept ∙ bounds-same marks more (list_at n 0) (λ u h. quant u) ∙ ap (bounds_of marks) list-removed ∙ bounds-without marks (list_at o 0) v

  pub prefix-removed : IsPrefix n last
  prefix-removed = record {
    heads = let a = p.heads in let b = ap length lists in let c = length-set' o.lists 0 (without v (list_at o 0)) in omega (arith, a, b, c);
    others = λ k g. others' k g ∙ p.others k g;
    bound = λ u h. let r = in-old u h in ap (λ (m : Mark). m.bound) (same u r.1) ∙ bound u ∙ p.bound u r.0;
    bounds = λ u h. elim (cases_eq u v) [
      | inl e ↦ absurd (true≢false (sym h ∙ ap (λ (k : ℕ). (mark_at last k).bound) e ∙ gone))
      | inr d ↦
          let old : Has (list_at o 0) u = p.bounds u (sym (bound u) ∙ sym (ap (λ (m : Mark). m.bound) (same u d)) ∙ h) in
          subst (λ (xs : List ℕ). Has xs u) (sym list-removed) (Has-kept v u (list_at o 0) old d)
    ];
    room = let a = p.room in let b = ap length owners in omega (arith, a, b, len, len');
    some = let a = p.some in omega (arith, a, len, len');
    few = let a = p.few in omega (arith, a, len, len');
    ranked = rw bounds-kept (ranked-same (rank_of more) (rank_of last) (bounds_of more (list_at n 0))
        (λ u b. ap (λ (m : Mark). m.rank) (same u (in-old u (has-binds more (list_at n 0) u b)).1)) ranked);
  }

pub parted : (o n : Chains) (marks : List Mark) (v : ℕ) → IsPrefix o marks → n.lists ≡ set o.lists 0 (without v (list_at o 0)) → AreApart (list_at o 0) → Has (list_at o 0) v
    → (before after : Option ℕ) → before ≡ preceding v (list_at o 0) → after ≡ following v (list_at o 0) → IsParted n marks before after
parted o n marks v p lists apart there before after e f = record {
  vars = list_at o 0;
  gone = v;
  there = there;
  apart = apart;
  before_is = e;
  after_is = f;
  left = ap (λ (xs : List (List ℕ)). get_or xs 0 []) lists ∙ get_or-set_same o.lists 0 (without v (list_at o 0)) [] p.heads;
  within = λ u h. mark-below marks u (p.bound u h);
  ranked = p.ranked;
}

-- what holds of the two neighbours
pub at-beside : (P : ℕ → ℕ → Type 0) (before after : Option ℕ) (a b : ℕ) → before ≡ Some a → after ≡ Some b → P a b → (x y : ℕ) → before ≡ Some x → after ≡ Some y → P x y
at-beside P before after a b e f p x y g h = subst (λ (k : ℕ). P k y) (same_Some a x (sym e ∙ g)) (subst (P a) (same_Some b y (sym f ∙ h)) p)
