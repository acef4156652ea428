-- More places and heads.
use Rattle.std.proofs.Common.{◌≡◌, ◌⊎◌, ℕ, zero, suc, ◌+◌, ◌-◌, ◌<◌, ◌≤◌, List, [], ◌∷◌, length, get_or, refl, sym, ◌∙◌, ap, subst, inl, inr, arith}
use Rattle.std.specs.Prelude.{Bool}
use Rattle.std.proofs.lemmas.List.{get_or_past}
use Rattle.std.proofs.lemmas.Bool.{cases_lt}
use Rattle.q_arena.specs.declared.rings.Link.{Link}
use Rattle.q_arena.specs.Nodes.{node_at, turned, base, blank}
use Rattle.q_arena.specs.Rings.{walk, Has, AreBelow, IsRing, AreSound, AreRows, rings_of}
use Rattle.q_sparse.specs.Rows.{Row, item_at}
use Rattle.q_arena.specs.Chains.{lists_of, tags_of}
use Rattle.q_arena.proofs.RingPaths.{IsPath-along}
use Rattle.q_arena.proofs.ArenaView.{node_at-head, node_at-place, list-is, get_or-mapped, ring-past}

walk-along : (s t : ℕ → Link) → ((k : ℕ) → t k ≡ s k) → (n x : ℕ) → walk t n x ≡ walk s n x
walk-along s t f zero x = refl
walk-along s t f (suc n) x = ap (λ (ys : List ℕ). x ∷ ys) (walk-along s t f n (t x).next ∙ ap (λ (k : Link). walk s n k.next) (f x))

below-more : (m n : ℕ) (ys : List ℕ) → m ≤ n → AreBelow m ys → AreBelow n ys
below-more m n [] h b = tt
below-more m n (y ∷ ys) h b = (let lt : y < m = b.0 in omega arith, below-more m n ys h b.1)

module _ (p h q g : List Link) (places : (k : ℕ) → get_or q k blank ≡ get_or p k blank) (heads : (k : ℕ) → get_or g k blank ≡ get_or h k blank) where
  node-same : (k : ℕ) → node_at q g k ≡ node_at p h k
  node-same k = elim (cases_lt k base) [
    | inl l ↦ node_at-place q g k l ∙ places k ∙ sym (node_at-place p h k l)
    | inr b ↦
        let m : ℕ = k - base in
        let e : k ≡ base + m = omega arith in
        ap (λ (w : ℕ). node_at q g w) e ∙ node_at-head q g m ∙ ap (λ (x : Link). turned (base + m) x) (heads m)
        ∙ sym (node_at-head p h m) ∙ ap (λ (w : ℕ). node_at p h w) (sym e)
  ]

  rings-same : (l : ℕ) → rings_of (node_at q g) base l ≡ rings_of (node_at p h) base l
  rings-same l =
      walk-along (node_at p h) (node_at q g) node-same (node_at q g (base + l)).tag (node_at q g (base + l)).next
      ∙ ap (λ (k : Link). walk (node_at p h) k.tag k.next) (node-same (base + l))

  lists-grown : (l : ℕ) → get_or (lists_of q g) l [] ≡ get_or (lists_of p h) l []
  lists-grown l = list-is q g l ∙ rings-same l ∙ sym (list-is p h l)

  tags-grown : (k : ℕ) → get_or (tags_of q) k 0 ≡ get_or (tags_of p) k 0
  tags-grown k =
      let tag : Link → ℕ = λ k. k.tag in
      get_or-mapped tag blank q k ∙ ap tag (places k) ∙ sym (get_or-mapped tag blank p k)

  AreSound-grown : AreSound p h → length p ≤ length q → length q ≤ base → length g ≤ base → AreSound q g
  AreSound-grown s more few few_heads =
      let old : ℕ → Link = node_at p h in
      let new : ℕ → Link = node_at q g in
      let within : (l x : ℕ) → Has (rings_of new base l) x → (l < length h) × Has (rings_of old base l) x = λ l x a.
      let b = subst (λ (ys : List ℕ). Has ys x) (rings-same l) a in
      elim (cases_lt l (length h)) [
        | inl lo ↦ (lo, b)
        | inr hi ↦ absurd (subst (λ (ys : List ℕ). Has ys x) (ring-past p h l hi) b)
      ] in
      record {
        rings = record {
          each = λ l lg. elim (cases_lt l (length h)) [
            | inl lh ↦
                let r : IsRing old (length p) (base + l) (rings_of old base l) = s.rings.each l lh in
                rw rings-same (record {
                  path = IsPath-along old new (λ k. ap (λ (x : Link). x.next) (node-same k)) (λ k. ap (λ (x : Link). x.prev) (node-same k)) (base + l) (rings_of old base l) (base + l) r.path;
                  count = ap (λ (x : Link). x.tag) (node-same (base + l)) ∙ r.count;
                  apart = r.apart;
                  below = below-more (length p) (length q) (rings_of old base l) more r.below;
                })
            | inr hi ↦
                let e : new (base + l) ≡ turned (base + l) blank = node_at-head q g l ∙ ap (λ (x : Link). turned (base + l) x) (heads l ∙ get_or_past h l blank hi) in
                let none : rings_of new base l ≡ [] = rings-same l ∙ ring-past p h l hi in
                rw none (record {
                  path = (ap (λ (k : Link). k.next) e, ap (λ (k : Link). k.prev) e);
                  count = ap (λ (k : Link). k.tag) e;
                  apart = tt;
                  below = tt;
                })
          ];
          one = λ l m x lg mg a b. let i = within l x a in let j = within m x b in s.rings.one l m x i.0 j.0 i.1 j.1;
        };
        few_places = few;
        few_heads = few_heads;
      }

blank-same : (p q : Row Link) → p.none ≡ blank → q.none ≡ p.none → ((k : ℕ) → item_at q k ≡ item_at p k) → (k : ℕ) → get_or q.items k blank ≡ get_or p.items k blank
blank-same p q b e same k =
    ap (λ (d : Link). get_or q.items k d) (sym (e ∙ b)) ∙ same k ∙ ap (λ (d : Link). get_or p.items k d) b

pub few-grown : (a b n : ℕ) → a ≤ base → n ≤ base → (b ≡ a) ⊎ (b ≡ n) → b ≤ base
few-grown a b n ab nb (inl e) = rw e ab
few-grown a b n ab nb (inr e) = rw e nb

-- sparse rows that have grown
module _ {full : Bool} {p h : Row Link} (q g : Row Link) (s : AreRows full p h) (none-places : q.none ≡ p.none) (none-heads : g.none ≡ h.none)
    (places : (k : ℕ) → item_at q k ≡ item_at p k) (heads : (k : ℕ) → item_at g k ≡ item_at h k) where
  same-places : (k : ℕ) → get_or q.items k blank ≡ get_or p.items k blank
  same-places = blank-same p q s.blank_places none-places places

  same-heads : (k : ℕ) → get_or g.items k blank ≡ get_or h.items k blank
  same-heads = blank-same h g s.blank_heads none-heads heads

  pub AreRows-grown : length p.items ≤ length q.items → length q.items ≤ base → length g.items ≤ base → q.full ≡ p.full → g.full ≡ h.full → AreRows full q g
  AreRows-grown more few few_heads full-places full-heads = record {
    sound = AreSound-grown p.items h.items q.items g.items same-places same-heads s.sound more few few_heads;
    blank_places = none-places ∙ s.blank_places;
    blank_heads = none-heads ∙ s.blank_heads;
    full = record { places = λ t. full-places ∙ s.full.places t; heads = λ t. full-heads ∙ s.full.heads t };
  }

  pub lists-kept : (l : ℕ) → get_or (lists_of q.items g.items) l [] ≡ get_or (lists_of p.items h.items) l []
  lists-kept = lists-grown p.items h.items q.items g.items same-places same-heads

  pub owners-kept : (k : ℕ) → get_or (tags_of q.items) k 0 ≡ get_or (tags_of p.items) k 0
  owners-kept = tags-grown p.items h.items q.items g.items same-places same-heads
