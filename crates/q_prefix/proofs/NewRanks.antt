-- The variables of a block get another rank, one after the other.
use Rattle.std.proofs.Common.{◌≡◌, ◌≢◌, ◌⊎◌, ℕ, suc, ◌<◌, true, false, Bool, List, [], ◌∷◌, length, slice_get, Option, None, Some, refl, sym, ◌∙◌, ap, subst, inl, inr, arith}
use Rattle.std.proofs.lemmas.Bool.Decides.{nat_tests}
use Rattle.std.proofs.lemmas.Option.{same_Some, none-some}
use Rattle.std.proofs.lemmas.Bool.{cases_eq}
use Rattle.q_arena.specs.Prelude.{Has, AreApart, following}
use Rattle.q_arena.proofs.RingPaths.{Misses-not}
use Rattle.q_prefix.specs.Blocks.{ahead, onward, in_front, block_from, of_rank, mate_of}
use Rattle.q_arena.proofs.ListNeighbours.{following-here, following-later, following-has, followed-has}
use Rattle.q_prefix.proofs.ListDirections.{AreOrdered, apart-reverse, has-reverse, reverse-has}

pub apart-ahead : (forward : Bool) (vars : List ℕ) → AreApart vars → AreApart (ahead forward vars)
apart-ahead true vars a = a
apart-ahead false vars a = apart-reverse vars a

pub has-ahead : (forward : Bool) (vars : List ℕ) (v : ℕ) → Has vars v → Has (ahead forward vars) v
has-ahead true vars v h = h
has-ahead false vars v h = has-reverse vars v h

pub ahead-has : (forward : Bool) (vars : List ℕ) (v : ℕ) → Has (ahead forward vars) v → Has vars v
ahead-has true vars v h = h
ahead-has false vars v h = reverse-has vars v h

onward-here : (v u : ℕ) (vars : List ℕ) → u ≡ v → onward v (u ∷ vars) ≡ u ∷ vars
onward-here v u vars e = grind (arith, nat_tests)

onward-later : (v u : ℕ) (vars : List ℕ) → u ≢ v → onward v (u ∷ vars) ≡ onward v vars
onward-later v u vars n = grind (arith, nat_tests)

-- the variables from one on, if there is one
abbrev pub onward_of : Option ℕ → List ℕ → List ℕ
onward_of None vars = []
onward_of (Some w) vars = onward w vars

onward-next : (vars : List ℕ) (v : ℕ) → AreApart vars → Has vars v → onward v vars ≡ v ∷ onward_of (following v vars) vars
onward-next [] v a h = absurd h
onward-next (u ∷ vars) v a h = elim (cases_eq u v) [
  | inl e ↦
      let rest : onward_of (following v (u ∷ vars)) (u ∷ vars) ≡ vars = ap (λ (o : Option ℕ). onward_of o (u ∷ vars)) (following-here v u vars e) ∙ first vars a in
      onward-here v u vars e ∙ ap (λ (k : ℕ). k ∷ vars) e ∙ ap (λ (xs : List ℕ). v ∷ xs) (sym rest)
  | inr n ↦
      let i : Has vars v = elim h [ inl e ↦ absurd (n (sym e)) | inr i ↦ i ] in
      let rest : onward_of (following v (u ∷ vars)) (u ∷ vars) ≡ onward_of (following v vars) vars = ap (λ (o : Option ℕ). onward_of o (u ∷ vars)) (following-later v u vars n) ∙ skip (following v vars) refl in
      onward-later v u vars n ∙ onward-next vars v a.1 i ∙ ap (λ (xs : List ℕ). v ∷ xs) (sym rest)
]
  where
    first : (vars : List ℕ) → AreApart (u ∷ vars) → onward_of (slice_get vars 0) (u ∷ vars) ≡ vars
    first [] a = refl
    first (w ∷ ws) a = onward-later w u (w ∷ ws) a.0.0 ∙ onward-here w w ws refl

    skip : (o : Option ℕ) → following v vars ≡ o → onward_of o (u ∷ vars) ≡ onward_of o vars
    skip None e = refl
    skip (Some w) e = onward-later w u vars (Misses-not u w vars a.0 (following-has v w vars e))

onward-has : (vars : List ℕ) (v u : ℕ) → Has (onward v vars) u → Has vars u
onward-has [] v u h = h
onward-has (w ∷ vars) v u h = elim (cases_eq w v) [
  | inl e ↦ subst (λ (xs : List ℕ). Has xs u) (onward-here v w vars e) h
  | inr n ↦ inr (onward-has vars v u (subst (λ (xs : List ℕ). Has xs u) (onward-later v w vars n) h))
]

apart-onward : (vars : List ℕ) (v : ℕ) → AreApart vars → AreApart (onward v vars)
apart-onward [] v a = tt
apart-onward (u ∷ vars) v a = elim (cases_eq u v) [
  | inl e ↦ rw (onward-here v u vars e) a
  | inr n ↦ rw (onward-later v u vars n) (apart-onward vars v a.1)
]

-- what follows a variable does not meet it again
passed : (vars : List ℕ) (v w : ℕ) → AreApart vars → Has vars v → following v vars ≡ Some w → Has (onward w vars) v → ⊥
passed vars v w a h e i =
    let next : onward v vars ≡ v ∷ onward w vars = onward-next vars v a h ∙ ap (λ (o : Option ℕ). v ∷ onward_of o vars) e in
    let apart : AreApart (v ∷ onward w vars) = subst AreApart next (apart-onward vars v a) in
    Misses-not v v (onward w vars) apart.0 i refl

front-here : (rank : ℕ → ℕ) (r u : ℕ) (vars : List ℕ) → rank u ≡ r → in_front rank r (u ∷ vars) ≡ u ∷ in_front rank r vars
front-here rank r u vars e = grind (arith, nat_tests)

front-none : (rank : ℕ → ℕ) (r u : ℕ) (vars : List ℕ) → rank u ≢ r → in_front rank r (u ∷ vars) ≡ []
front-none rank r u vars n = grind (arith, nat_tests)

pub front-rank : (rank : ℕ → ℕ) (r : ℕ) (vars : List ℕ) (v : ℕ) → Has (in_front rank r vars) v → rank v ≡ r
front-rank rank r [] v h = absurd h
front-rank rank r (u ∷ vars) v h = elim (cases_eq (rank u) r) [
  | inl e ↦ elim (subst (λ (xs : List ℕ). Has xs v) (front-here rank r u vars e) h) [
    | inl q ↦ ap rank q ∙ e
    | inr i ↦ front-rank rank r vars v i
  ]
  | inr n ↦ absurd (subst (λ (xs : List ℕ). Has xs v) (front-none rank r u vars n) h)
]

front-same : (r s : ℕ → ℕ) (n : ℕ) (vars : List ℕ) → ((v : ℕ) → Has vars v → s v ≡ r v) → in_front s n vars ≡ in_front r n vars
front-same r s n [] f = refl
front-same r s n (u ∷ vars) f =
    let e : s u ≡ r u = f u (inl refl) in
    elim (cases_eq (r u) n) [
      | inl q ↦ front-here s n u vars (e ∙ q) ∙ ap (λ (xs : List ℕ). u ∷ xs) (front-same r s n vars (λ v h. f v (inr h))) ∙ sym (front-here r n u vars q)
      | inr d ↦ front-none s n u vars (λ q. d (sym e ∙ q)) ∙ sym (front-none r n u vars d)
    ]

ranked-here : (rank : ℕ → ℕ) (r w : ℕ) → rank w ≡ r → of_rank rank r (Some w) ≡ Some w
ranked-here rank r w e = grind (arith, nat_tests)

ranked-off : (rank : ℕ → ℕ) (r w : ℕ) → rank w ≢ r → of_rank rank r (Some w) ≡ None
ranked-off rank r w n = grind (arith, nat_tests)

-- the block from a variable on, if there is one
abbrev pub block_of : (ℕ → ℕ) → Option ℕ → List ℕ → List ℕ
block_of rank None vars = []
block_of rank (Some w) vars = block_from rank w vars

pub block-next : (rank : ℕ → ℕ) (vars : List ℕ) (v : ℕ) → AreApart vars → Has vars v → block_from rank v vars ≡ v ∷ block_of rank (mate_of rank v vars) vars
block-next rank vars v a h =
    ap (in_front rank (rank v)) (onward-next vars v a h)
    ∙ front-here rank (rank v) v (onward_of (following v vars) vars) refl
    ∙ ap (λ (xs : List ℕ). v ∷ xs) (rest (following v vars) refl)
  where
    rest : (o : Option ℕ) → following v vars ≡ o → in_front rank (rank v) (onward_of o vars) ≡ block_of rank (of_rank rank (rank v) o) vars
    rest None e = refl
    rest (Some w) e =
        let i = following-has v w vars e in
        elim (cases_eq (rank w) (rank v)) [
          | inl q ↦ ap (λ (r : ℕ). in_front rank r (onward w vars)) (sym q) ∙ ap (λ (o : Option ℕ). block_of rank o vars) (sym (ranked-here rank (rank v) w q))
          | inr n ↦ ap (in_front rank (rank v)) (onward-next vars w a i) ∙ front-none rank (rank v) w (onward_of (following w vars) vars) n ∙ ap (λ (o : Option ℕ). block_of rank o vars) (sym (ranked-off rank (rank v) w n))
        ]

mate-follows : (rank : ℕ → ℕ) (r w : ℕ) (o : Option ℕ) → of_rank rank r o ≡ Some w → o ≡ Some w
mate-follows rank r w None e = absurd (none-some w e)
mate-follows rank r w (Some k) e = elim (cases_eq (rank k) r) [
  | inl q ↦ sym (ranked-here rank r k q) ∙ e
  | inr n ↦ absurd (none-some w (sym (ranked-off rank r k n) ∙ e))
]

pub mate-has : (rank : ℕ → ℕ) (vars : List ℕ) (v w : ℕ) → mate_of rank v vars ≡ Some w → Has vars w
mate-has rank vars v w e = following-has v w vars (mate-follows rank (rank v) w (following v vars) e)

module _ (rank : ℕ → ℕ) (vars : List ℕ) (v : ℕ) (a : AreApart vars) (h : Has vars v) where
  pub block-last : mate_of rank v vars ≡ None → length (block_from rank v vars) ≡ 1
  block-last e = ap length (block-next rank vars v a h ∙ ap (λ (o : Option ℕ). v ∷ block_of rank o vars) e)

  pub block-more : (w : ℕ) → mate_of rank v vars ≡ Some w → length (block_from rank v vars) ≡ suc (length (block_from rank w vars))
  block-more w e = ap length (block-next rank vars v a h ∙ ap (λ (o : Option ℕ). v ∷ block_of rank o vars) e)

  pub block-some : 0 < length (block_from rank v vars)
  block-some = rw (block-next rank vars v a h) (omega arith)

-- what is left of a block, while its variables get another rank one after the other
pub record IsRenaming (vars : List ℕ) (old now : ℕ → ℕ) (start : ℕ) (at' : Option ℕ) (to : ℕ) : Type 0 where
  pub there : (v : ℕ) → at' ≡ Some v → Has vars v
  pub within : (v : ℕ) → Has (block_of now at' vars) v → Has (block_from old start vars) v
  pub block : (v : ℕ) → Has (block_from old start vars) v → Has (block_of now at' vars) v ⊎ (now v ≡ to)
  pub others : (v : ℕ) → (Has (block_from old start vars) v → ⊥) → now v ≡ old v

pub renaming-begun : (vars : List ℕ) (old : ℕ → ℕ) (start to : ℕ) → Has vars start → IsRenaming vars old old start (Some start) to
renaming-begun vars old start to h = record {
  there = λ v e. subst (Has vars) (same_Some start v e) h;
  within = λ v i. i;
  block = λ v i. inl i;
  others = λ v f. refl;
}

pub renaming-done : (vars : List ℕ) (old now : ℕ → ℕ) (start to : ℕ) (at' : Option ℕ) → at' ≡ None → IsRenaming vars old now start at' to → (v : ℕ) → Has (block_from old start vars) v → now v ≡ to
renaming-done vars old now start to at' e r v h = elim (r.block v h) [
  | inl i ↦ absurd (subst (λ (o : Option ℕ). Has (block_of now o vars) v) e i)
  | inr q ↦ q
]

module _ (vars : List ℕ) (now next : ℕ → ℕ) (v : ℕ) (a : AreApart vars) (h : Has vars v) (others : (u : ℕ) → u ≢ v → next u ≡ now u) where
  -- a change of one variable's rank leaves what follows it
  rest-same : (o : Option ℕ) → mate_of now v vars ≡ o → block_of next o vars ≡ block_of now o vars
  rest-same None e = refl
  rest-same (Some w) e =
      let f = mate-follows now (now v) w (following v vars) e in
      let i = following-has v w vars f in
      let same : (u : ℕ) → Has (onward w vars) u → next u ≡ now u = λ u k. others u (λ q. passed vars v w a h f (subst (Has (onward w vars)) q k)) in
      let here : Has (onward w vars) w = subst (λ (xs : List ℕ). Has xs w) (sym (onward-next vars w a i)) (inl refl) in
      ap (λ (r : ℕ). in_front next r (onward w vars)) (same w here) ∙ front-same now next (now w) (onward w vars) same

  pub rest-left : block_from now v vars ≡ v ∷ block_of next (mate_of now v vars) vars
  rest-left = block-next now vars v a h ∙ ap (λ (xs : List ℕ). v ∷ xs) (sym (rest-same (mate_of now v vars) refl))

  pub renaming-turn : (old : ℕ → ℕ) (start to : ℕ) (at' o : Option ℕ) → at' ≡ Some v → o ≡ mate_of now v vars → next v ≡ to → IsRenaming vars old now start at' to → IsRenaming vars old next start o to
  renaming-turn old start to at' o e m t r =
      let now-left : block_of now at' vars ≡ v ∷ block_of next o vars = ap (λ (k : Option ℕ). block_of now k vars) e ∙ rest-left ∙ ap (λ (k : Option ℕ). v ∷ block_of next k vars) (sym m) in
      let back : (u : ℕ) → Has (v ∷ block_of next o vars) u → Has (block_of now at' vars) u = λ u i. subst (λ (xs : List ℕ). Has xs u) (sym now-left) i in
      record {
        there = λ w q. mate-has now vars v w (sym m ∙ q);
        within = λ u i. r.within u (back u (inr i));
        block = λ u i. elim (cases_eq u v) [
          | inl q ↦ inr (ap next q ∙ t)
          | inr n ↦ elim (r.block u i) [
            | inl k ↦ elim (subst (λ (xs : List ℕ). Has xs u) now-left k) [
              | inl q ↦ absurd (n q)
              | inr j ↦ inl j
            ]
            | inr q ↦ inr (others u n ∙ q)
          ]
        ];
        others = λ u f. others u (λ q. f (r.within u (back u (inl q)))) ∙ r.others u f;
      }

-- of variables that stand in order, those of one rank are together
module _ (rank : ℕ → ℕ) (R : ℕ → ℕ → Type 0) (r : ℕ) (mid : (u v w : ℕ) → R u v → R v w → rank u ≡ r → rank w ≡ r → rank v ≡ r) where
  covered-from : (y : ℕ) (vars : List ℕ) (v : ℕ) → AreOrdered R (y ∷ vars) → rank y ≡ r → Has (y ∷ vars) v → rank v ≡ r → Has (in_front rank r (y ∷ vars)) v
  covered-from y [] v o e h q = rw (front-here rank r y [] e) h
  covered-from y (z ∷ vars) v o e h q = rw (front-here rank r y (z ∷ vars) e) (elim h [
    | inl k ↦ inl k
    | inr i ↦
        let ez : rank z ≡ r = elim i [
          | inl k ↦ ap rank (sym k) ∙ q
          | inr j ↦ mid y z v (o.0 z (inl refl)) (o.1.0 v j) e q
        ] in
        inr (covered-from z vars v o.1 ez i q)
  ])

  ordered-next : (x y : ℕ) (vars : List ℕ) → AreOrdered R vars → following x vars ≡ Some y → R x y
  ordered-next x y [] o f = absurd (none-some y f)
  ordered-next x y (u ∷ vars) o f = elim (cases_eq u x) [
    | inl e ↦ subst (λ (k : ℕ). R k y) e (o.0 y (first vars (sym (following-here x u vars e) ∙ f)))
    | inr n ↦ ordered-next x y vars o.1 (sym (following-later x u vars n) ∙ f)
  ]
    where
      first : (vars : List ℕ) → slice_get vars 0 ≡ Some y → Has vars y
      first [] e = absurd (none-some y e)
      first (w ∷ ws) e = inl (sym (same_Some w y e))

  -- and from their first one on a walk meets them all
  pub covered : (vars : List ℕ) (x y v : ℕ) → AreOrdered R vars → following x vars ≡ Some y → rank x ≢ r → rank y ≡ r → Has vars v → rank v ≡ r → Has (in_front rank r (onward y vars)) v
  covered [] x y v o f d e h q = absurd h
  covered (u ∷ vars) x y v o f d e h q =
      let off : rank u ≢ r = λ k. d (elim (cases_eq u x) [
        | inl c ↦ ap rank (sym c) ∙ k
        | inr n ↦
            let f' : following x vars ≡ Some y = sym (following-later x u vars n) ∙ f in
            mid u x y (o.0 x (followed-has x y vars f')) (ordered-next x y vars o.1 f') k e
      ]) in
      let i : Has vars v = elim h [ inl k ↦ absurd (off (ap rank (sym k) ∙ q)) | inr i ↦ i ] in
      let uy : u ≢ y = λ k. off (ap rank k ∙ e) in
      rw (onward-later y u vars uy) (elim (cases_eq u x) [
        | inl c ↦ first vars o.1 (sym (following-here x u vars c) ∙ f) i
        | inr n ↦ covered vars x y v o.1 (sym (following-later x u vars n) ∙ f) d e i q
      ])
    where
      first : (vars : List ℕ) → AreOrdered R vars → slice_get vars 0 ≡ Some y → Has vars v → Has (in_front rank r (onward y vars)) v
      first [] o s i = absurd i
      first (w ∷ ws) o s i =
          let wy : w ≡ y = same_Some w y s in
          rw (onward-here y w ws wy) (covered-from w ws v o (ap rank wy ∙ e) i q)
