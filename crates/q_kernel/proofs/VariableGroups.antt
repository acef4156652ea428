-- The three lists of variables, after a variable came into one or left it.
use Rattle.std.proofs.Common.{◌≡◌, ◌≢◌, ◌≤◌, ◌<◌, ◌⊎◌, ℕ, List, [], ◌∷◌, length, set, get_or, inl, inr, arith, sym, ap, ◌∙◌, subst}
use Rattle.std.proofs.lemmas.List.{get_or-set_same, get_or-set_other}
use Rattle.std.proofs.lemmas.Bool.{cases_eq}
use Rattle.q_arena.specs.Prelude.{Has, AreApart, without, Chains, list_at}
use Rattle.q_arena.proofs.ArenaView.{length-set'}
use Rattle.q_arena.proofs.RingLemmas.{Has-without}
use Rattle.q_arena.proofs.Layouts.{gone}
use Rattle.q_logic.specs.declared.formulas.Quant.{Quant}
use Rattle.q_logic.specs.declared.formulas.Quant.TheVariants.{Exists, Forall}
use Rattle.q_kernel.specs.Uses.{Groups, AreTagged, group_of, head_of}

list-here : (c n : Chains) (h : ℕ) (ys : List ℕ) → n.lists ≡ set c.lists h ys → h < length c.lists → list_at n h ≡ ys
list-here c n h ys e b = ap (λ (L : List (List ℕ)). get_or L h []) e ∙ get_or-set_same c.lists h ys [] b

list-other : (c n : Chains) (h m : ℕ) (ys : List ℕ) → n.lists ≡ set c.lists h ys → m ≢ h → list_at n m ≡ list_at c m
list-other c n h m ys e d = ap (λ (L : List (List ℕ)). get_or L m []) e ∙ get_or-set_other c.lists h m ys [] d

same-heads : (c n : Chains) (h : ℕ) (ys : List ℕ) → n.lists ≡ set c.lists h ys → 3 ≤ length c.lists → 3 ≤ length n.lists
same-heads c n h ys e b = subst (λ (k : ℕ). 3 ≤ k) (sym (ap length e ∙ length-set' c.lists h ys)) b

not-head : (h m : ℕ) → h < 3 → 3 ≤ m → m ≢ h
not-head h m a b e = absurd (omega arith)

-- A variable left one of the lists.
module _ (c n : Chains) (h v : ℕ) (t : AreTagged c) (b : h < 3) (e : n.lists ≡ set c.lists h (without v (list_at c h))) where
  left : (m w : ℕ) → Has (list_at n m) w → Has (list_at c m) w
  left m w x = elim (cases_eq m h) [
    | inl q ↦
        let heads : 3 ≤ length c.lists = t.heads in
        let y = subst (λ (k : ℕ). Has (list_at n k) w) q x in
        let z : Has (without v (list_at c h)) w = subst (λ (xs : List ℕ). Has xs w) (list-here c n h (without v (list_at c h)) e (omega arith)) y in
        subst (λ (k : ℕ). Has (list_at c k) w) (sym q) (Has-without v w (list_at c h) z)
    | inr d ↦ subst (λ (xs : List ℕ). Has xs w) (list-other c n h m (without v (list_at c h)) e d) x
  ]

  pub tagged-taken : n.owners ≡ c.owners → AreTagged n
  tagged-taken o = record {
    heads = same-heads c n h (without v (list_at c h)) e t.heads;
    others = λ m a. list-other c n h m (without v (list_at c h)) e (not-head h m b a) ∙ t.others m a;
    tags = λ m w x. ap (λ (os : List ℕ). get_or os w 0) o ∙ t.tags m w (left m w x);
    small = λ m w x. t.small m w (left m w x);
  }

  pub taken-gone : ((l : ℕ) → AreApart (list_at c l)) → ((l m p : ℕ) → Has (list_at c l) p → Has (list_at c m) p → l ≡ m) → Has (list_at c h) v → (m : ℕ) → Has (list_at n m) v → ⊥
  taken-gone apart one there m x = gone c.lists h v apart one there m (subst (λ (L : List (List ℕ)). Has (get_or L m []) v) e x)

-- A variable came into one of the lists.
module _ (c n : Chains) (h v : ℕ) (t : AreTagged c) (b : h < 3) (fresh : (m : ℕ) → Has (list_at c m) v → ⊥) (r : v < length c.owners) (e : n.lists ≡ set c.lists h (v ∷ list_at c h)) (o : n.owners ≡ set c.owners v h) where
  came : (m w : ℕ) → Has (list_at n m) w → ((m ≡ h) × (w ≡ v)) ⊎ Has (list_at c m) w
  came m w x = elim (cases_eq m h) [
    | inl q ↦
        let heads : 3 ≤ length c.lists = t.heads in
        let y = subst (λ (k : ℕ). Has (list_at n k) w) q x in
        let z : Has (v ∷ list_at c h) w = subst (λ (xs : List ℕ). Has xs w) (list-here c n h (v ∷ list_at c h) e (omega arith)) y in
        elim z [
          | inl i ↦ inl (q, i)
          | inr i ↦ inr (subst (λ (k : ℕ). Has (list_at c k) w) (sym q) i)
        ]
    | inr d ↦ inr (subst (λ (xs : List ℕ). Has xs w) (list-other c n h m (v ∷ list_at c h) e d) x)
  ]

  apart-from : (m w : ℕ) → Has (list_at c m) w → w ≢ v
  apart-from m w x q = fresh m (subst (λ (k : ℕ). Has (list_at c m) k) q x)

  pub tagged-put : v < 4294967296 → AreTagged n
  tagged-put s = record {
    heads = same-heads c n h (v ∷ list_at c h) e t.heads;
    others = λ m a. list-other c n h m (v ∷ list_at c h) e (not-head h m b a) ∙ t.others m a;
    tags = λ m w x. ap (λ (os : List ℕ). get_or os w 0) o ∙ elim (came m w x) [
      | inl i ↦ subst (λ (k : ℕ). get_or (set c.owners v h) k 0 ≡ m) (sym i.1) (get_or-set_same c.owners v h 0 r ∙ sym i.0)
      | inr i ↦ get_or-set_other c.owners v w h 0 (apart-from m w i) ∙ t.tags m w i
    ];
    small = λ m w x. elim (came m w x) [
      | inl i ↦ subst (λ (k : ℕ). k < 4294967296) (sym i.1) s
      | inr i ↦ t.small m w i
    ];
  }

-- The tag of a variable tells its list.
abbrev pub groups_in : Chains → Groups
groups_in c = record { idle = list_at c 0; existentials = list_at c 1; universals = list_at c 2; room = length c.owners }

group-list : (c : Chains) (q : Quant) (v : ℕ) → Has (group_of (groups_in c) q) v → Has (list_at c (head_of q)) v
group-list c Exists v h = h
group-list c Forall v h = h

pub head-small : (q : Quant) → head_of q < 3
head-small Exists = omega arith
head-small Forall = omega arith

head-some : (q : Quant) → 0 < head_of q
head-some Exists = omega arith
head-some Forall = omega arith

pub idle-there : (c : Chains) (q : Quant) (v : ℕ) → AreTagged c → Has (list_at c 0) v ⊎ Has (group_of (groups_in c) q) v → get_or c.owners v 0 ≡ 0 → Has (list_at c 0) v
idle-there c q v t (inl h) e = h
idle-there c q v t (inr h) e = let tag : get_or c.owners v 0 ≡ head_of q = t.tags (head_of q) v (group-list c q v h) in let some : 0 < head_of q = head-some q in absurd (omega arith)

pub group-there : (c : Chains) (q : Quant) (v : ℕ) → AreTagged c → Has (list_at c 0) v ⊎ Has (group_of (groups_in c) q) v → get_or c.owners v 0 ≢ 0 → Has (list_at c (head_of q)) v
group-there c q v t (inl h) n = absurd (n (t.tags 0 v h))
group-there c q v t (inr h) n = group-list c q v h
