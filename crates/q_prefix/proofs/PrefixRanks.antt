-- Ranks tell the order of a prefix.
use Rattle.std.proofs.Common.{◌≡◌, ◌≢◌, ◌⊎◌, ℕ, ◌<◌, ◌≤◌, true, false, List, [], ◌∷◌, refl, sym, ◌∙◌, ap, inl, inr, arith, true≢false}
use Rattle.std.specs.Prelude.{if◌then◌else◌, nat_le, ◌==◌}
use Rattle.std.proofs.lemmas.Bool.Decides.{nat_tests}
use Rattle.std.proofs.lemmas.Bool.{cases_eq}
use Rattle.q_logic.specs.declared.formulas.Quant.{Quant}
use Rattle.q_logic.specs.declared.formulas.Bound.{Bound}
use Rattle.q_logic.specs.Prelude.{same_quant, run_to, outer_or_same, IsNext, IsIn, removed_from}
use Rattle.q_logic.proofs.Common.{same_quant-through, same_quant-two, next-rises, same_quant-itself}
use Rattle.q_prefix.specs.Order.{Binds, IsRankedFrom, IsRanked, with_after}

module _ (rank : ℕ → ℕ) where
  pub rank-rises : (b : Bound) (p : List Bound) (v : ℕ) → IsRankedFrom rank b p → Binds p v → rank b.var ≤ rank v
  rank-rises b [] v r i = absurd i
  rank-rises b (c ∷ p) v r i = let n = next-rises rank b c r.0 in elim i [
    | inl e ↦ rw e n
    | inr j ↦ let d = rank-rises c p v r.1 j in omega arith
  ]

  runs-rank : (q : Quant) (b : Bound) (p : List Bound) (a : ℕ) → same_quant q b.quant ≡ true → IsRankedFrom rank b p → Binds p a → run_to q p a ≡ nat_le (rank a) (rank b.var)
  runs-rank q b [] a s r i = absurd i
  runs-rank q b (c ∷ p) a s r i =
      let qc = same_quant-through q b.quant c.quant s in
      elim r.0 [
        | inl e ↦
            let here : same_quant q c.quant ≡ true = qc ∙ e.0 in
            let rest : Binds p a → run_to q p a ≡ nat_le (rank a) (rank c.var) = λ j. runs-rank q c p a here r.1 j in
            let eq : rank b.var ≡ rank c.var = e.1 in
            elim (cases_eq c.var a) [
              | inl f ↦ let ra : rank c.var ≡ rank a = ap rank f in grind (arith, nat_tests)
              | inr n ↦ elim i [
                | inl g ↦ absurd (n (sym g))
                | inr j ↦ let k = rest j in grind (arith, nat_tests)
              ]
            ]
        | inr l ↦
            let other : same_quant q c.quant ≡ false = qc ∙ l.0 in
            let lt : rank b.var < rank c.var = l.1 in
            let le : rank c.var ≤ rank a = elim i [
              | inl g ↦ rw g (omega arith)
              | inr j ↦ rank-rises c p a r.1 j
            ] in
            grind (arith, nat_tests)
      ]

  choose : (b : Bound) (p : List Bound) (a v : ℕ) → Binds (b ∷ p) a → Binds (b ∷ p) v → (Binds p a → Binds p v → outer_or_same p a v ≡ nat_le (rank a) (rank v)) → (Binds p v → rank b.var ≤ rank v) → (Binds p a → run_to b.quant p a ≡ nat_le (rank a) (rank b.var)) → outer_or_same (b ∷ p) a v ≡ nat_le (rank a) (rank v)
  choose b p a v i j rest first run =
      elim (cases_eq b.var a) [
        | inl e ↦
            let le : rank a ≤ rank v = elim j [
              | inl f ↦ rw (f, e) (omega arith)
              | inr k ↦ let x = first k in rw (← e) x
            ] in
            grind (arith, nat_tests)
        | inr n ↦ elim i [
          | inl e ↦ absurd (n (sym e))
          | inr k ↦ elim (cases_eq b.var v) [
            | inl f ↦ let x = run k in let y : rank b.var ≡ rank v = ap rank f in grind (arith, nat_tests)
            | inr m ↦ elim j [
              | inl f ↦ absurd (m (sym f))
              | inr l ↦ let x = rest k l in grind (arith, nat_tests)
            ]
          ]
        ]
      ]

  outer-from : (b : Bound) (p : List Bound) (a v : ℕ) → IsRankedFrom rank b p → Binds (b ∷ p) a → Binds (b ∷ p) v → outer_or_same (b ∷ p) a v ≡ nat_le (rank a) (rank v)
  outer-from b [] a v r i j =
      let a' : a ≡ b.var = elim i [ inl e ↦ e | inr k ↦ absurd k ] in
      let v' : v ≡ b.var = elim j [ inl e ↦ e | inr k ↦ absurd k ] in
      rw (a', v') (grind (arith, nat_tests))
  outer-from b (c ∷ p) a v r i j =
      let rest : Binds (c ∷ p) a → Binds (c ∷ p) v → outer_or_same (c ∷ p) a v ≡ nat_le (rank a) (rank v) = outer-from c p a v r.1 in
      let first : Binds (c ∷ p) v → rank b.var ≤ rank v = λ k. rank-rises b (c ∷ p) v r k in
      let run : Binds (c ∷ p) a → run_to b.quant (c ∷ p) a ≡ nat_le (rank a) (rank b.var) = λ k. runs-rank b.quant b (c ∷ p) a (same_quant-itself b.quant) r k in
      choose b (c ∷ p) a v i j rest first run

pub outer-by-rank : (rank : ℕ → ℕ) (p : List Bound) (a v : ℕ) → IsRanked rank p → Binds p a → Binds p v → outer_or_same p a v ≡ nat_le (rank a) (rank v)
outer-by-rank rank [] a v r i j = absurd i
outer-by-rank rank (b ∷ p) a v r i j = outer-from rank b p a v r i j

abbrev pub StartsWith : Bound → List Bound → Type 0
StartsWith y [] = ⊥
StartsWith y (d ∷ p) = d ≡ y

-- the variable stands between these two
abbrev pub IsBetween : Bound → ℕ → Bound → Bound → List Bound → Type 0
IsBetween x v y b [] = ⊥
IsBetween x v y b (c ∷ p) = ((b ≡ x) × (c.var ≡ v) × StartsWith y p) ⊎ ((c.var ≢ v) × IsBetween x v y c p)

without-here : (v : ℕ) (b : Bound) (p : List Bound) → b.var ≡ v → removed_from v (b ∷ p) ≡ p
without-here v b p e = grind (arith, nat_tests)

without-there : (v : ℕ) (b : Bound) (p : List Bound) → b.var ≢ v → removed_from v (b ∷ p) ≡ b ∷ removed_from v p
without-there v b p e = grind (arith, nat_tests)

-- ranks of which two neighbours become one, and the others keep their order
pub record IsJoint (f : ℕ → ℕ) (r1 r2 : ℕ) : Type 0 where
  pub meet : f r1 ≡ f r2
  pub low : (a b : ℕ) → a < b → b ≤ r1 → f a < f b
  pub high : (a b : ℕ) → r2 ≤ a → a < b → f a < f b

-- one rank in place of another one
abbrev pub renamed : ℕ → ℕ → ℕ → ℕ
renamed from to r = if r == from then to else r

pub renamed-at : (from to r : ℕ) → r ≡ from → renamed from to r ≡ to
renamed-at from to r e = grind (arith, nat_tests)

pub renamed-off : (from to r : ℕ) → r ≢ from → renamed from to r ≡ r
renamed-off from to r n = grind (arith, nat_tests)

-- the higher rank may take the lower one's place, and the lower one the higher one's
pub joint-down : (r1 r2 : ℕ) → r1 < r2 → IsJoint (renamed r2 r1) r1 r2
joint-down r1 r2 lt = record {
  meet = grind (arith, nat_tests);
  low = λ a b h g. grind (arith, nat_tests);
  high = λ a b h g. grind (arith, nat_tests);
}

pub joint-up : (r1 r2 : ℕ) → r1 < r2 → IsJoint (renamed r1 r2) r1 r2
joint-up r1 r2 lt = record {
  meet = grind (arith, nat_tests);
  low = λ a b h g. grind (arith, nat_tests);
  high = λ a b h g. grind (arith, nat_tests);
}

module _ (rank f : ℕ → ℕ) (r1 r2 : ℕ) (j : IsJoint f r1 r2) where
  ranked-above : (d : Bound) (q : List Bound) → r2 ≤ rank d.var → IsRankedFrom rank d q → IsRankedFrom (λ v. f (rank v)) d q
  ranked-above d [] h r = tt
  ranked-above d (e ∷ q) h r =
      let rest : r2 ≤ rank e.var → IsRankedFrom (λ v. f (rank v)) e q = λ k. ranked-above e q k r.1 in
      let n = next-rises rank d e r.0 in (
        elim r.0 [
          | inl s ↦ inl (s.0, ap f s.1)
          | inr l ↦ inr (l.0, j.high (rank d.var) (rank e.var) h l.1)
        ],
        rest (omega arith),
      )

  between-rank : (x : Bound) (v : ℕ) (y b : Bound) (p : List Bound) → IsRankedFrom rank b p → IsBetween x v y b p → rank b.var ≤ rank x.var
  between-rank x v y b [] r h = absurd h
  between-rank x v y b (c ∷ p) r h = elim h [
    | inl e ↦ rw e.0 (omega arith)
    | inr k ↦ let d = between-rank x v y c p r.1 k.1 in let n = next-rises rank b c r.0 in omega arith
  ]

  -- the last variable of its block goes, and the blocks beside it become one
  pub ranked-merged : (x : Bound) (v : ℕ) (y b : Bound) (p : List Bound) → IsRankedFrom rank b p → IsBetween x v y b p → same_quant x.quant y.quant ≡ true → rank x.var ≡ r1 → rank y.var ≡ r2 → IsRankedFrom (λ v. f (rank v)) b (removed_from v p)
  ranked-merged x v y b [] r h s e g = absurd h
  ranked-merged x v y b (c ∷ p) r h s e g = elim h [
    | inl k ↦ here x v y b c p r k s e g
    | inr k ↦
        let le = between-rank x v y c p r.1 k.1 in
        rw (without-there v c p k.0) (
          elim r.0 [
            | inl z ↦ inl (z.0, ap f z.1)
            | inr z ↦ inr (z.0, j.low (rank b.var) (rank c.var) z.1 (omega arith))
          ],
          ranked-merged x v y c p r.1 k.1 s e g,
        )
  ]
    where
      here : (x : Bound) (v : ℕ) (y b c : Bound) (p : List Bound) → IsRankedFrom rank b (c ∷ p) → (b ≡ x) × (c.var ≡ v) × StartsWith y p → same_quant x.quant y.quant ≡ true → rank x.var ≡ r1 → rank y.var ≡ r2 → IsRankedFrom (λ v. f (rank v)) b (removed_from v (c ∷ p))
      here x v y b c [] r k s e g = absurd k.2
      here x v y b c (d ∷ q) r k s e g =
          let dy : d ≡ y = k.2 in
          let rd : rank d.var ≡ r2 = ap (λ (z : Bound). rank z.var) dy ∙ g in
          let rb : rank b.var ≡ r1 = ap (λ (z : Bound). rank z.var) k.0 ∙ e in
          let sq : same_quant b.quant d.quant ≡ true = rw (k.0, dy) s in
          rw (without-here v c (d ∷ q) k.1) (
            inl (sq, ap f rb ∙ j.meet ∙ sym (ap f rd)),
            ranked-above d q (omega arith) r.1.1,
          )

-- a variable goes, and its neighbours keep their ranks
pub next-through : (rank : ℕ → ℕ) (b c d : Bound) → IsNext rank b c → IsNext rank c d → same_quant b.quant d.quant ≡ false ⊎ (rank b.var ≡ rank d.var) → IsNext rank b d
next-through rank b c d m n h = elim m [
  | inl e ↦ let x : rank b.var ≡ rank c.var = e.1 in let q = same_quant-through b.quant c.quant d.quant e.0 in elim n [
    | inl f ↦ inl (q ∙ f.0, e.1 ∙ f.1)
    | inr l ↦ let y : rank c.var < rank d.var = l.1 in inr (q ∙ l.0, omega arith)
  ]
  | inr e ↦ let x : rank b.var < rank c.var = e.1 in elim n [
    | inl f ↦ let y : rank c.var ≡ rank d.var = f.1 in elim h [
      | inl g ↦ inr (g, omega arith)
      | inr g ↦ absurd (omega arith)
    ]
    | inr l ↦ let y : rank c.var < rank d.var = l.1 in elim h [
      | inl g ↦ absurd (true≢false (sym (same_quant-two b.quant c.quant d.quant e.0 l.0) ∙ g))
      | inr g ↦ absurd (omega arith)
    ]
  ]
]

-- a variable goes that does not stand between two variables of one block to be
pub ranked-gone : (rank : ℕ → ℕ) (v : ℕ) (b : Bound) (p : List Bound) → IsRankedFrom rank b p → ((x y : Bound) → IsBetween x v y b p → (same_quant x.quant y.quant ≡ false) ⊎ (rank x.var ≡ rank y.var)) → IsRankedFrom rank b (removed_from v p)
ranked-gone rank v b [] r h = tt
ranked-gone rank v b (c ∷ p) r h = elim (cases_eq c.var v) [
  | inl e ↦ rw (without-here v c p e) (last p r h e)
  | inr n ↦ rw (without-there v c p n) (r.0, ranked-gone rank v c p r.1 (λ x y k. h x y (inr (n, k))))
]
  where
    last : (p : List Bound) → IsRankedFrom rank b (c ∷ p) → ((x y : Bound) → IsBetween x v y b (c ∷ p) → (same_quant x.quant y.quant ≡ false) ⊎ (rank x.var ≡ rank y.var)) → c.var ≡ v → IsRankedFrom rank b p
    last [] r h e = tt
    last (d ∷ q) r h e = (next-through rank b c d r.0 r.1.0 (h b d (inl (refl, e, refl))), r.1.1)

-- a variable joins the block of another one, directly after it
after-here : (n : Bound) (w : ℕ) (b : Bound) (p : List Bound) → b.var ≡ w → with_after n w (b ∷ p) ≡ b ∷ n ∷ p
after-here n w b p q = grind (arith, nat_tests)

after-there : (n : Bound) (w : ℕ) (b : Bound) (p : List Bound) → b.var ≢ w → with_after n w (b ∷ p) ≡ b ∷ with_after n w p
after-there n w b p q = grind (arith, nat_tests)

module _ (rank : ℕ → ℕ) (n : Bound) (w : ℕ) (e : rank n.var ≡ rank w) where
  tail : (b : Bound) (p : List Bound) → same_quant b.quant n.quant ≡ true → rank b.var ≡ rank n.var → IsRankedFrom rank b p → IsRankedFrom rank n p
  tail b [] s rn r = tt
  tail b (c ∷ p) s rn r =
      let q = same_quant-through b.quant n.quant c.quant s in (
        elim r.0 [
          | inl x ↦ inl (sym q ∙ x.0, sym rn ∙ x.1)
          | inr x ↦ let y : rank b.var < rank c.var = x.1 in inr (sym q ∙ x.0, omega arith)
        ],
        r.1,
      )

  deep : (b : Bound) (p : List Bound) → ((c : Bound) → IsIn c p → c.var ≡ w → same_quant c.quant n.quant ≡ true) → IsRankedFrom rank b p → IsRankedFrom rank b (with_after n w p)
  deep b [] f r = tt
  deep b (c ∷ p) f r = elim (cases_eq c.var w) [
    | inl q ↦
        let s = f c (inl refl) q in
        let rn : rank c.var ≡ rank n.var = ap rank q ∙ sym e in
        rw (after-here n w c p q) (r.0, (inl (s, rn), tail c p s rn r.1))
    | inr m ↦ rw (after-there n w c p m) (r.0, deep c p (λ d i. f d (inr i)) r.1)
  ]

  pub ranked-joined : (p : List Bound) → IsRanked rank p → ((c : Bound) → IsIn c p → c.var ≡ w → same_quant c.quant n.quant ≡ true) → IsRanked rank (with_after n w p)
  ranked-joined [] r f = tt
  ranked-joined (b ∷ p) r f = elim (cases_eq b.var w) [
    | inl q ↦
        let s = f b (inl refl) q in
        let rn : rank b.var ≡ rank n.var = ap rank q ∙ sym e in
        rw (after-here n w b p q) (inl (s, rn), tail b p s rn r)
    | inr m ↦ rw (after-there n w b p m) (deep b p (λ d i. f d (inr i)) r)
  ]
