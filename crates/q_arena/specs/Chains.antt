-- What a caller sees of the rows: a list of places for each head, and an owner for each place.
use Rattle.std.specs.List.{range_with_len}
use Rattle.std.specs.Prelude.{◌≡◌, ℕ, length, if◌then◌else◌, ◌==◌, List, [], ◌∷◌, map, Option, None, Some, slice_get, slice_index_or}
use Rattle.q_arena.specs.declared.rings.Link.{Link}
use Rattle.q_arena.specs.Nodes.{node_at, base}
use Rattle.q_arena.specs.Rings.{rings_of}

pub record Chains : Type 0 where
  pub lists : List (List ℕ)
  pub owners : List ℕ

abbrev pub lists_of : List Link → List Link → List (List ℕ)
lists_of places heads = map (λ l. rings_of (node_at places heads) base l) (range_with_len 0 (length heads))

abbrev pub tags_of : List Link → List ℕ
tags_of places = map (λ k. k.tag) places

-- the list of a head
abbrev pub list_at : Chains → ℕ → List ℕ
list_at c l = slice_index_or c.lists l []

-- what follows a number in a list
abbrev pub following : ℕ → List ℕ → Option ℕ
following p [] = None
following p (y ∷ ys) = if y == p then slice_get ys 0 else following p ys

-- what precedes a number in a list, after the given first one
abbrev pub preceding_from : ℕ → ℕ → List ℕ → Option ℕ
preceding_from p j [] = None
preceding_from p j (k ∷ ks) = if k == p then Some j else preceding_from p k ks

abbrev pub preceding : ℕ → List ℕ → Option ℕ
preceding p [] = None
preceding p (j ∷ js) = preceding_from p j js

-- each list is as before
abbrev pub HasSameLists : Chains → Chains → Type 0
HasSameLists c d = (l : ℕ) → slice_index_or d.lists l [] ≡ slice_index_or c.lists l []

-- each place has the owner that it had
abbrev pub HasSameOwners : Chains → Chains → Type 0
HasSameOwners c d = (p : ℕ) → slice_index_or d.owners p 0 ≡ slice_index_or c.owners p 0
