-- A text that goes into its file in pieces.
use Rattle.std.proofs.Common.{◌≡◌, ◌≤◌, ◌<◌, ◌+◌, inl, inr, ℕ, zero, suc, List, [], ◌∷◌, ◌++◌, length, take, drop, slice_get, refl, sym, ap, ◌∙◌, subst, arith, append_assoc, append-nil, Option, Some, None, unwrap_or, IfSome}
use Rattle.q_logic.specs.Prelude.{Clause, Matrix, PrenexFormula, blocks}
use Rattle.q_io.specs.Files.{Disk, bytes_at, Appends, AppendsPart, Empties, HoldsBytes, MayHoldFront}
use Rattle.q_io.proofs.StoreContents.{at_some, others-through}
use Rattle.q_dimacs.specs.Writing.{blocks_text, clause_text, formula_text, front_text, greatest_bound, header_text, matrix_text}
use Rattle.q_output.specs.Outputs.{HoldsSome}
use Rattle.q_dimacs.proofs.UnwrittenLists.{matrix-next}
use Rattle.std.proofs.Math.Seq.{take-append_seam, take-append-add}

-- the file is empty, and all is pending
pub holds-none : (name text : List ℕ) (before : Disk) (after : Option Disk) → Empties name before after → HoldsSome name text text before after
holds-none name text before after e =
    record { disk = e.disk; told = e.told; bytes = []; there = e.bytes; whole = refl; others = e.others }

-- more is pending
pub holds-more : (name text old new more : List ℕ) (before : Disk) (after : Option Disk) → new ≡ old ++ more → HoldsSome name text old before after → HoldsSome name (text ++ more) new before after
holds-more name text old new more before after e h =
    record {
      disk = h.disk;
      told = h.told;
      bytes = h.bytes;
      there = h.there;
      whole = ap (λ (xs : List ℕ). h.bytes ++ xs) e ∙ (sym (append_assoc h.bytes old more) ∙ ap (λ (xs : List ℕ). xs ++ more) h.whole);
      others = h.others;
    }

-- what was pending has come
pub holds-put : (name old bytes new : List ℕ) (mid after : Option Disk) → bytes ≡ old → new ≡ [] → IfSome mid (λ disk. Appends name bytes disk after) → (text : List ℕ) → (before : Disk) → HoldsSome name text old before mid → HoldsSome name text new before after
holds-put name old bytes new mid after b n w text before h =
    let a : Appends name old h.disk after = subst (λ (xs : List ℕ). Appends name xs h.disk after) b (at_some _ mid w h.disk h.told) in
    let e : bytes_at h.disk name ≡ h.bytes = ap (λ o. unwrap_or o []) h.there in
    record {
      disk = a.disk;
      told = a.told;
      bytes = h.bytes ++ old;
      there = a.bytes ∙ ap (λ (b : List ℕ). Some (b ++ old)) e;
      whole = ap (λ (xs : List ℕ). (h.bytes ++ old) ++ xs) n ∙ (append-nil (h.bytes ++ old) ∙ h.whole);
      others = others-through name before h.disk a.disk h.others a.others;
    }

-- a part of it has come
pub holds-part : (name old bytes : List ℕ) (mid after : Option Disk) → bytes ≡ old → IfSome mid (λ disk. AppendsPart name bytes disk after) → (text : List ℕ) → (before : Disk) → HoldsSome name text old before mid → MayHoldFront name text before after
holds-part name old bytes mid after b w text before h =
    let a : AppendsPart name old h.disk after = subst (λ (xs : List ℕ). AppendsPart name xs h.disk after) b (at_some _ mid w h.disk h.told) in
    let e : bytes_at h.disk name ≡ h.bytes = ap (λ o. unwrap_or o []) h.there in
    record {
      disk = a.disk;
      told = a.told;
      bytes = inr (length h.bytes + a.part, a.bytes ∙ (ap (λ (b : List ℕ). b ++ take a.part old) e ∙ (sym (take-append-add h.bytes old a.part) ∙ ap (λ (t : List ℕ). take (length h.bytes + a.part) t) h.whole)));
      others = others-through name before h.disk a.disk h.others a.others;
    }

-- the file as it stands
pub holds-front : (name text old : List ℕ) (before : Disk) (after : Option Disk) → HoldsSome name text old before after → MayHoldFront name text before after
holds-front name text old before after h =
    record {
      disk = h.disk;
      told = h.told;
      bytes = inr (length h.bytes, ap (λ o. unwrap_or o []) h.there ∙ (sym (take-append_seam h.bytes old) ∙ ap (λ (t : List ℕ). take (length h.bytes) t) h.whole));
      others = h.others;
    }

-- a front of a front
take-within : (n : ℕ) (xs ys : List ℕ) → (m : ℕ) × (take n xs ≡ take m (xs ++ ys))
take-within zero xs ys = (0, refl)
take-within (suc n) [] ys = (0, refl)
take-within (suc n) (x ∷ xs) ys = let r : (m : ℕ) × (take n xs ≡ take m (xs ++ ys)) = take-within n xs ys in (suc r.0, ap (λ (zs : List ℕ). x ∷ zs) r.1)

pub front-of_front : (name text more : List ℕ) (before : Disk) (after : Option Disk) → MayHoldFront name text before after → MayHoldFront name (text ++ more) before after
front-of_front name text more before after h =
    record {
      disk = h.disk;
      told = h.told;
      bytes = elim h.bytes [
        | inl e ↦ inl e
        | inr e ↦ inr (let r : (m : ℕ) × (take e.0 text ≡ take m (text ++ more)) = take-within e.0 text more in (r.0, e.1 ∙ r.1))
      ];
      others = h.others;
    }

-- nothing is pending
pub holds-whole : (name text pending : List ℕ) (before : Disk) (after : Option Disk) → length pending < 1 → HoldsSome name text pending before after → HoldsBytes name text before after
holds-whole name text [] before after l h =
    record { disk = h.disk; told = h.told; bytes = h.there ∙ ap (λ (xs : List ℕ). Some xs) (sym (append-nil h.bytes) ∙ h.whole); others = h.others }
holds-whole name text (x ∷ xs) before after l h = absurd (omega arith)

-- the text of a formula, in two parts
pub text-parts : (F : PrenexFormula) → front_text F ++ matrix_text F.matrix ≡ formula_text F
text-parts F = append_assoc (header_text (greatest_bound F.prefix) (length F.matrix)) (blocks_text (blocks F.prefix)) (matrix_text F.matrix)

-- all clauses are written
pub matrix-done : (X : Matrix) (i : ℕ) → length X ≤ i → matrix_text (drop i X) ≡ []
matrix-done [] zero l = refl
matrix-done [] (suc i) l = refl
matrix-done (C ∷ X) zero l = absurd (omega (arith, l))
matrix-done (C ∷ X) (suc i) l = matrix-done X i (omega (arith, l))

-- the first clauses of a matrix are written behind a front, and these bytes of it are pending
pub record HaveCome (name front pending : List ℕ) (X : Matrix) (at : ℕ) (before : Disk) (after : Option Disk) : Type 0 where
  pub text : List ℕ
  pub left : text ++ matrix_text (drop at X) ≡ front ++ matrix_text X
  pub some : HoldsSome name text pending before after

pub come-none : (name front pending : List ℕ) (X : Matrix) (before : Disk) (after : Option Disk) → HoldsSome name front pending before after → HaveCome name front pending X 0 before after
come-none name front pending X before after h = record { text = front; left = refl; some = h }

-- one clause more
pub clause-front : (name front pending : List ℕ) (X : Matrix) (at : ℕ) (C : Clause) (before : Disk) (after : Option Disk) → slice_get X at ≡ Some C → (h : HaveCome name front pending X at before after) → (h.text ++ clause_text C) ++ matrix_text (drop (at + 1) X) ≡ front ++ matrix_text X
clause-front name front pending X at C before after e h =
    append_assoc h.text (clause_text C) (matrix_text (drop (at + 1) X)) ∙ (ap (λ (xs : List ℕ). h.text ++ xs) (sym (matrix-next X at C e)) ∙ h.left)

pub come-more : (name front old mid new : List ℕ) (X : Matrix) (at : ℕ) (C : Clause) (before : Disk) (held after : Option Disk) → slice_get X at ≡ Some C → mid ≡ old ++ clause_text C → ((text : List ℕ) → (first : Disk) → HoldsSome name text mid first held → HoldsSome name text new first after) → HaveCome name front old X at before held → HaveCome name front new X (at + 1) before after
come-more name front old mid new X at C before held after e t f h =
    record { text = h.text ++ clause_text C; left = clause-front name front old X at C before held e h; some = f _ before (holds-more name h.text old mid (clause_text C) before held t h.some) }

-- an error stops it
pub come-stopped : (name front pending : List ℕ) (X : Matrix) (at : ℕ) (before : Disk) (after : Option Disk) → HaveCome name front pending X at before after → MayHoldFront name (front ++ matrix_text X) before after
come-stopped name front pending X at before after h =
    subst (λ (t : List ℕ). MayHoldFront name t before after) h.left (front-of_front name h.text (matrix_text (drop at X)) before after (holds-front name h.text pending before after h.some))

pub come-failed : (name front old mid : List ℕ) (X : Matrix) (at : ℕ) (C : Clause) (before : Disk) (held after : Option Disk) → slice_get X at ≡ Some C → mid ≡ old ++ clause_text C → ((text : List ℕ) → (first : Disk) → HoldsSome name text mid first held → MayHoldFront name text first after) → HaveCome name front old X at before held → MayHoldFront name (front ++ matrix_text X) before after
come-failed name front old mid X at C before held after e t f h =
    subst (λ (t : List ℕ). MayHoldFront name t before after) (clause-front name front old X at C before held e h)
    (front-of_front name (h.text ++ clause_text C) (matrix_text (drop (at + 1) X)) before after (f _ before (holds-more name h.text old mid (clause_text C) before held t h.some)))

pub come-all : (name front pending : List ℕ) (X : Matrix) (at : ℕ) (before : Disk) (after : Option Disk) → length X ≤ at → HaveCome name front pending X at before after → HoldsSome name (front ++ matrix_text X) pending before after
come-all name front pending X at before after l h =
    subst (λ (t : List ℕ). HoldsSome name t pending before after) (sym (append-nil h.text) ∙ (ap (λ (xs : List ℕ). h.text ++ xs) (sym (matrix-done X at l)) ∙ h.left)) h.some

-- the whole output, from an empty file on
pub output-stopped : (F : PrenexFormula) (name text : List ℕ) (held mid after : Option Disk) → text ≡ front_text F → IfSome held (λ disk. Empties name disk mid) → ((front : List ℕ) → (before : Disk) → HoldsSome name front text before mid → MayHoldFront name (front ++ matrix_text F.matrix) before after) → IfSome held (λ disk. MayHoldFront name (formula_text F) disk after)
output-stopped F name text None mid after t e f = tt
output-stopped F name text (Some d) mid after t e f =
    subst (λ (xs : List ℕ). MayHoldFront name xs d after) (ap (λ (xs : List ℕ). xs ++ matrix_text F.matrix) t ∙ text-parts F) (f text d (holds-none name text d mid e))

pub output-last : (F : PrenexFormula) (name text pending : List ℕ) (held mid late after : Option Disk) → text ≡ front_text F → IfSome held (λ disk. Empties name disk mid) → ((front : List ℕ) → (before : Disk) → HoldsSome name front text before mid → HoldsSome name (front ++ matrix_text F.matrix) pending before late) → ((front : List ℕ) → (before : Disk) → HoldsSome name front pending before late → MayHoldFront name front before after) → IfSome held (λ disk. MayHoldFront name (formula_text F) disk after)
output-last F name text pending held mid late after t e f g =
    output-stopped F name text held mid after t e (λ front before h. g _ before (f front before h))

pub output-whole : (F : PrenexFormula) (name text pending left : List ℕ) (held mid late after : Option Disk) → text ≡ front_text F → IfSome held (λ disk. Empties name disk mid) → ((front : List ℕ) → (before : Disk) → HoldsSome name front text before mid → HoldsSome name (front ++ matrix_text F.matrix) pending before late) → ((front : List ℕ) → (before : Disk) → HoldsSome name front pending before late → HoldsSome name front left before after) → length left < 1 → IfSome held (λ disk. HoldsBytes name (formula_text F) disk after)
output-whole F name text pending left None mid late after t e f g l = tt
output-whole F name text pending left (Some d) mid late after t e f g l =
    subst (λ (xs : List ℕ). HoldsBytes name xs d after) (ap (λ (xs : List ℕ). xs ++ matrix_text F.matrix) t ∙ text-parts F) (holds-whole name _ left d after l (g _ d (f text d (holds-none name text d mid e))))
