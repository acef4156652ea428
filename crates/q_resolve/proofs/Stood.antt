-- The lines of the cone, one after the other.
use Rattle.std.proofs.Common.{◌≡◌, ℕ, zero, suc, ◌+◌, ◌<◌, Bool, true, false, List, [], ◌∷◌, length, get_or, arith, refl, sym, ap, ◌∙◌, subst, slice_get, Option, Some, None}
use Rattle.q_logic.specs.Prelude.{Prefix, Matrix, is_universal}
use Rattle.q_derive.specs.Traces.{Entry, Parents, InCone}
use Rattle.q_extract.specs.Merges.{HavePivotsIn}
use Rattle.q_extract.specs.Rows.{drops_in}
use Rattle.q_extract.specs.declared.drops.Drops.{Drops}
use Rattle.q_extract.specs.declared.said.Merge.{Merge}
use Rattle.q_extract.specs.declared.said.Sayings.{Sayings}
use Rattle.q_qrp.specs.Lines.{Line, row_of}
use Rattle.q_qrp.specs.declared.trace.Row.{Row}
use Rattle.q_resolve.specs.declared.leaves.Owner.{Owner}
use Rattle.q_resolve.specs.declared.fault.Fault.{Fault}
use Rattle.q_resolve.specs.declared.finding.Found.{Found}
use Rattle.q_resolve.specs.declared.finding.Found.TheVariants.{Nothing, Gone, Single, Double}
use Rattle.q_resolve.specs.Faults.{IsLeastFault}
use Rattle.q_resolve.specs.Leaves.{MayStand}
use Rattle.q_resolve.specs.Merging.{IsReady}
use Rattle.q_resolve.specs.Judged.{entries_of, sources_of, sources_in, parents_at, found_of, found_at, line_at, AreParentsBound, AreBefore, IsLineJudged, AreCone}
use Rattle.q_resolve.specs.Derived.{IsStood, IsTurn}
use Rattle.q_resolve.proofs.Deriving.{derived-start, right-start, derived-skip, right-skip, ready-skip, parents-bound, found-parents, stood-step}
use Rattle.q_resolve.proofs.Coned.{entry-at, entries-length}

some-there : {X : Type 0} (xs : List X) (n : ℕ) → n < length xs → (x : X) × (slice_get xs n ≡ Some x)
some-there [] n h = absurd (omega arith)
some-there (x ∷ xs) zero h = (x, refl)
some-there (x ∷ xs) (suc n) h = some-there xs n (omega arith)

none-pivots : (U : ℕ → Bool) (ms : List Merge) → ms ≡ [] → HavePivotsIn U ms
none-pivots U ms e = subst (HavePivotsIn U) (sym e) (λ i m h. absurd (cc))

pub stood-start : (o : Owner) (P : Prefix) (X : Matrix) (es : List Entry) (d : Drops) (s : Sayings) → IsReady 0 d s → drops_in d ≡ [] → d.merges.items ≡ [] →
    IsStood o P X es 0 d s
stood-start o P X es d s r e m = record {
  right = right-start o P X es;
  ready = r;
  pivots = none-pivots (is_universal P) d.merges.items m;
  derived = derived-start o P X es d s e;
}

pub stood-skip : (o : Owner) (P : Prefix) (X : Matrix) (es : List Entry) (n : ℕ) (d : Drops) (s : Sayings) (marks : List Bool) → AreCone es marks →
    get_or marks n false ≡ false → IsStood o P X es n d s → IsStood o P X es (n + 1) d s
stood-skip o P X es n d s marks c f h = record {
  right = right-skip o P X es n out h.right;
  ready = ready-skip n d s h.ready;
  pivots = h.pivots;
  derived = derived-skip o P X es n d s out h.derived;
}
  where
    out : InCone es n → ⊥
    out i = let z : get_or marks n false ≡ true = (c.there n).1 i in cc

pub stood-bound : (o : Owner) (P : Prefix) (X : Matrix) (es : List Entry) (n : ℕ) (d : Drops) (s : Sayings) (marks : List Bool) → AreCone es marks →
    get_or marks n false ≡ true → n < length es → IsStood o P X es n d s → AreParentsBound P (parents_at es n)
stood-bound o P X es n d s marks c t l h =
    let r = some-there es n l in
    parents-bound o P X es n d s r.0 h.right h.derived ((c.there n).0 t) r.1

pub turn-is : (o : Owner) (P : Prefix) (X : Matrix) (es : List Entry) (n : ℕ) (old new : Drops) (s t : Sayings) (marks : List Bool) (f : Option Fault) → AreCone es marks →
    get_or marks n false ≡ true → n < length es → IsStood o P X es n old s →
    IsLineJudged o P X es n (found_at es n) (line_at es n) old new s t f → IsTurn o P X es n new t f
turn-is o P X es n old new s t marks None c y l h j =
    let r = some-there es n l in
    stood-step o P X es n r.0 old new s t h ((c.there n).0 y) r.1 j
turn-is o P X es n old new s t marks (Some f) c y l h j = (
  (c.there n).0 y,
  l,
  h.right,
  subst (λ (x : Parents). IsLeastFault P (MayStand o X) x (line_at es n) f) (found-parents es n (sources_in (slice_get es n))) j,
)

-- the line of the text
pub sources-there : (lines : List Line) (n : ℕ) (r : Row) → Some r ≡ row_of (slice_get lines n) →
    sources_in (slice_get (entries_of lines) n) ≡ sources_of r.antecedents
sources-there lines n r h = go (slice_get lines n) refl h
  where
    go : (o : Option Line) → slice_get lines n ≡ o → Some r ≡ row_of o → sources_in (slice_get (entries_of lines) n) ≡ sources_of r.antecedents
    go None p q = absurd (cc)
    go (Some l) p q = ap sources_in (entry-at lines n l p) ∙ ap (λ (x : Row). sources_of x.antecedents) (let z : l.row ≡ r = cc in z)

pub found-there : (lines : List Line) (n : ℕ) (r : Row) → Some r ≡ row_of (slice_get lines n) →
    found_of (entries_of lines) n (sources_of r.antecedents) ≡ found_at (entries_of lines) n
found-there lines n r h = ap (found_of (entries_of lines) n) (sym (sources-there lines n r h))

pub before-more : (n m : ℕ) (f : Found) → n < m → AreBefore n f → AreBefore m f
before-more n m Nothing l h = tt
before-more n m Gone l h = tt
before-more n m (Single i) l h = omega arith
before-more n m (Double i j) l h = (let z = h.0 in omega arith, let z = h.1 in omega arith)

pub lines-within : (lines : List Line) (n : ℕ) → n < length lines → n < length (entries_of lines)
lines-within lines n h = let z = entries-length lines in omega arith
