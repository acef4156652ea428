-- What stores hold, from one call to the next.
use Rattle.std.proofs.Common.{◌≡◌, inl, inr, ℕ, List, [], ◌++◌, refl, ap, ◌∙◌, subst, take, Option, Some, None, unwrap_or, IfSome}
use Rattle.q_io.specs.Files.{Disk, OthersStay, bytes_at, Empties, MayEmpty, Appends, AppendsPart, HoldsBytes, MayHoldFront}

pub at_some : {D : Type 0} (P : D → Type 0) (o : Option D) → IfSome o P → (d : D) → o ≡ Some d → P d
at_some P o h d e = let k : IfSome (Some d) P = subst (λ x. IfSome x P) e h in k

pub others-through : (name : List ℕ) (a b c : Disk) → OthersStay name a b → OthersStay name b c → OthersStay name a c
others-through name a b c f g q n = g q n ∙ f q n

-- nothing was called
pub untouched : (name text : List ℕ) (held : Option Disk) → IfSome held (λ disk. MayHoldFront name text disk held)
untouched name text None = tt
untouched name text (Some d) = record { disk = d; told = refl; bytes = inl refl; others = λ q n. refl }

-- a file that is created, and then gets a text
pub not_created : (name text : List ℕ) (held after : Option Disk) → IfSome held (λ disk. MayEmpty name disk after) → IfSome held (λ disk. MayHoldFront name text disk after)
not_created name text None after h = tt
not_created name text (Some d) after h =
    record { disk = h.disk; told = h.told; bytes = elim h.bytes [ inl e ↦ inl e | inr e ↦ inr (0, ap (λ o. unwrap_or o []) e) ]; others = h.others }

pub written_whole : (name text : List ℕ) (held mid after : Option Disk) → IfSome held (λ disk. Empties name disk mid) → IfSome mid (λ disk. Appends name text disk after) → IfSome held (λ disk. HoldsBytes name text disk after)
written_whole name text None mid after h w = tt
written_whole name text (Some d) mid after h w =
    let a : Appends name text h.disk after = at_some _ mid w h.disk h.told in
    let e : bytes_at h.disk name ≡ [] = ap (λ o. unwrap_or o []) h.bytes in
    record {
      disk = a.disk;
      told = a.told;
      bytes = a.bytes ∙ ap (λ (xs : List ℕ). Some (xs ++ text)) e;
      others = others-through name d h.disk a.disk h.others a.others;
    }

pub written_part : (name text : List ℕ) (held mid after : Option Disk) → IfSome held (λ disk. Empties name disk mid) → IfSome mid (λ disk. AppendsPart name text disk after) → IfSome held (λ disk. MayHoldFront name text disk after)
written_part name text None mid after h w = tt
written_part name text (Some d) mid after h w =
    let a : AppendsPart name text h.disk after = at_some _ mid w h.disk h.told in
    let e : bytes_at h.disk name ≡ [] = ap (λ o. unwrap_or o []) h.bytes in
    record {
      disk = a.disk;
      told = a.told;
      bytes = inr (a.part, a.bytes ∙ ap (λ (xs : List ℕ). xs ++ take a.part text) e);
      others = others-through name d h.disk a.disk h.others a.others;
    }
