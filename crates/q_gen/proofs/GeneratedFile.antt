-- The file of a generated formula, created and written.
use Rattle.std.proofs.Common.{◌≡◌, inl, inr, ℕ, List, [], ◌++◌, refl, ap, ◌∙◌, take, Option, Some, None, unwrap_or, IfSome}
use Rattle.q_io.specs.Files.{Disk, bytes_at, Empties, MayEmpty, Appends, AppendsPart}
use Rattle.q_io.proofs.StoreContents.{at_some, others-through}
use Rattle.q_dimacs.specs.Writing.{formula_text}
use Rattle.q_gen.specs.Generated.{Generated}
use Rattle.q_gen.specs.Outputs.{HoldsGenerated, HoldsGeneratedPart}

pub untouched : (name : List ℕ) (seed size : ℕ) (held : Option Disk) → IfSome held (λ disk. HoldsGeneratedPart name seed size disk held)
untouched name seed size None = tt
untouched name seed size (Some d) = record { disk = d; told = refl; bytes = inl refl; others = λ q n. refl }

pub not_created : (name : List ℕ) (seed size : ℕ) (held after : Option Disk) → IfSome held (λ disk. MayEmpty name disk after) → IfSome held (λ disk. HoldsGeneratedPart name seed size disk after)
not_created name seed size None after h = tt
not_created name seed size (Some d) after h =
    record { disk = h.disk; told = h.told; bytes = elim h.bytes [ inl e ↦ inl e | inr e ↦ inr (0, ap (λ o. unwrap_or o []) e) ]; others = h.others }

pub whole : (name : List ℕ) (seed size : ℕ) (bytes : List ℕ) (held mid after : Option Disk) → IfSome held (λ disk. Empties name disk mid) → IfSome mid (λ disk. Appends name bytes disk after) →
    bytes ≡ formula_text (Generated seed size) → IfSome held (λ disk. HoldsGenerated name seed size disk after)
whole name seed size bytes None mid after h w b = tt
whole name seed size bytes (Some d) mid after h w b =
    let a : Appends name bytes h.disk after = at_some _ mid w h.disk h.told in
    let e : bytes_at h.disk name ≡ [] = ap (λ o. unwrap_or o []) h.bytes in
    record {
      disk = a.disk;
      told = a.told;
      bytes = a.bytes ∙ ap (λ xs. Some xs) (ap (λ xs. xs ++ bytes) e ∙ b);
      others = others-through name d h.disk a.disk h.others a.others;
    }

pub part : (name : List ℕ) (seed size : ℕ) (bytes : List ℕ) (held mid after : Option Disk) → IfSome held (λ disk. Empties name disk mid) → IfSome mid (λ disk. AppendsPart name bytes disk after) →
    bytes ≡ formula_text (Generated seed size) → IfSome held (λ disk. HoldsGeneratedPart name seed size disk after)
part name seed size bytes None mid after h w b = tt
part name seed size bytes (Some d) mid after h w b =
    let a : AppendsPart name bytes h.disk after = at_some _ mid w h.disk h.told in
    let e : bytes_at h.disk name ≡ [] = ap (λ o. unwrap_or o []) h.bytes in
    record {
      disk = a.disk;
      told = a.told;
      bytes = inr (a.part, a.bytes ∙ (ap (λ xs. xs ++ take a.part bytes) e ∙ ap (λ xs. take a.part xs) b));
      others = others-through name d h.disk a.disk h.others a.others;
    }
