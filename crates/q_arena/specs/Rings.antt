-- Lists of places as rings of nodes.
use Rattle.std.specs.Prelude.{Bool, IsTrue, ◌≡◌, ◌≢◌, ◌⊎◌, ℕ, ◌+◌, ◌≤◌, ◌<◌, if◌then◌else◌, ◌==◌, List, [], ◌∷◌, length}
use Rattle.std.proofs.Common.{zero, suc}
use Rattle.q_arena.specs.declared.rings.Link.{Link}
use Rattle.q_arena.specs.Nodes.{node_at, IsTagged, base, blank}
use Rattle.q_sparse.specs.Rows.{Row}

-- a way from one node over others to a last one
abbrev pub IsPath : (ℕ → Link) → ℕ → List ℕ → ℕ → Type 0
IsPath s x [] z = ((s x).next ≡ z) × ((s z).prev ≡ x)
IsPath s x (y ∷ ys) z = ((s x).next ≡ y) × ((s y).prev ≡ x) × IsPath s y ys z

-- so many nodes from a first one on
abbrev pub walk : (ℕ → Link) → ℕ → ℕ → List ℕ
walk s zero x = []
walk s (suc k) x = x ∷ walk s k (s x).next

abbrev pub Has : List ℕ → ℕ → Type 0
Has [] p = ⊥
Has (y ∷ ys) p = (p ≡ y) ⊎ Has ys p

-- a number differs from each of the list
abbrev pub Misses : ℕ → List ℕ → Type 0
Misses x [] = Unit {0}
Misses x (y ∷ ys) = (x ≢ y) × Misses x ys

abbrev pub AreApart : List ℕ → Type 0
AreApart [] = Unit {0}
AreApart (x ∷ xs) = Misses x xs × AreApart xs

abbrev pub AreBelow : ℕ → List ℕ → Type 0
AreBelow n [] = Unit {0}
AreBelow n (x ∷ xs) = (x < n) × AreBelow n xs

-- the list without a number
abbrev pub without : ℕ → List ℕ → List ℕ
without p [] = []
without p (y ∷ ys) = if y == p then ys else y ∷ without p ys

-- the list with a number directly after another one
abbrev pub with_next : ℕ → ℕ → List ℕ → List ℕ
with_next a p [] = []
with_next a p (y ∷ ys) = if y == a then y ∷ p ∷ ys else y ∷ with_next a p ys

-- the nodes after a head stand as this list, back to the head
pub record IsRing (s : ℕ → Link) (room h : ℕ) (ys : List ℕ) : Type 0 where
  pub path : IsPath s h ys h
  pub count : (s h).tag ≡ length ys
  pub apart : AreApart ys
  pub below : AreBelow room ys

-- each head has its list, and no place is in two of them
pub record AreRings (s : ℕ → Link) (base room heads : ℕ) (L : ℕ → List ℕ) : Type 0 where
  pub each : (l : ℕ) → l < heads → IsRing s room (base + l) (L l)
  pub one : (l m p : ℕ) → l < heads → m < heads → Has (L l) p → Has (L m) p → l ≡ m

-- the list of a head, by its count
abbrev pub ring : (ℕ → Link) → ℕ → List ℕ
ring s h = walk s (s h).tag (s h).next

-- the list of each head
abbrev pub rings_of : (ℕ → Link) → ℕ → ℕ → List ℕ
rings_of s base l = ring s (base + l)

-- one list changed
abbrev pub with_list : (ℕ → List ℕ) → ℕ → List ℕ → ℕ → List ℕ
with_list L l ys m = if m == l then ys else L m

-- rows of links that hold a list for each head
pub record AreSound (places heads : List Link) : Type 0 where
  pub rings : AreRings (node_at places heads) base (length places) (length heads) (rings_of (node_at places heads) base)
  pub few_places : length places ≤ base
  pub few_heads : length heads ≤ base

-- one list changed in the rows, and no tag of a place
pub record IsRelisted (p h q g : List Link) (l : ℕ) (ys : List ℕ) : Type 0 where
  pub rings : AreRings (node_at q g) base (length p) (length h) (with_list (rings_of (node_at p h) base) l ys)
  pub places : length q ≡ length p
  pub heads : length g ≡ length h
  pub tags : (k : ℕ) → k < base → (node_at q g k).tag ≡ (node_at p h k).tag

-- the same stands where nothing is written, and full rows stay so
pub record AreAlike (p h q g : Row Link) : Type 0 where
  pub places : q.none ≡ p.none
  pub heads : g.none ≡ h.none
  pub full_places : q.full ≡ p.full
  pub full_heads : g.full ≡ h.full

-- both rows are full, if that is said
pub record AreFull (said : Bool) (p h : Row Link) : Type 0 where
  pub places : IsTrue said → IsTrue p.full
  pub heads : IsTrue said → IsTrue h.full

-- a place stands in front of the list of a head, and has its owner; between the two steps the places were `mid`
pub record IsFront (p h q g : Row Link) (l place owner : ℕ) : Type 0 where
  pub mid : List Link
  pub lists : IsRelisted p.items h.items mid g.items l (place ∷ rings_of (node_at p.items h.items) base l)
  pub tagged : (heads : List Link) → IsTagged (node_at mid heads) (node_at q.items heads) place owner
  pub long : length q.items ≡ length mid
  pub alike : AreAlike p h q g

-- sparse rows that hold a list for each head, blank where nothing is written
pub record AreRows (said : Bool) (places heads : Row Link) : Type 0 where
  pub sound : AreSound places.items heads.items
  pub blank_places : places.none ≡ blank
  pub blank_heads : heads.none ≡ blank
  pub full : AreFull said places heads
