-- A line with what it names.
use Rattle.std.proofs.Common.{◌≡◌, ℕ, List, refl, sym, ap, ◌∙◌, subst, slice_get, Option, Some, None}
use Rattle.q_logic.specs.Prelude.{Literal, Prefix, Matrix}
use Rattle.q_derive.specs.Traces.{Entry, nothing, missing, AreBound, literals_in}
use Rattle.q_extract.specs.declared.drops.Drops.{Drops}
use Rattle.q_extract.specs.declared.said.Sayings.{Sayings}
use Rattle.q_qrp.specs.Lines.{Line, literals_of}
use Rattle.q_resolve.specs.declared.leaves.Owner.{Owner}
use Rattle.q_resolve.specs.declared.fault.Fault.{Fault}
use Rattle.q_resolve.specs.declared.fault.Fault.TheVariants.{Missing, NoLeaf}
use Rattle.q_resolve.specs.declared.finding.Found.TheVariants.{Nothing, Gone}
use Rattle.q_resolve.specs.Faults.{IsLeastFault}
use Rattle.q_resolve.specs.Leaves.{MayStand}
use Rattle.q_resolve.specs.Judged.{IsLeafJudged, IsLineJudged, entries_of}
use Rattle.q_resolve.proofs.LineFaults.{least-leaf, least-gone}
use Rattle.q_resolve.proofs.Coned.{entry-at}

pub line-leaf : (o : Owner) (P : Prefix) (X : Matrix) (es : List Entry) (n : ℕ) (T : List Literal) (d : Drops) (s : Sayings) (f : Option Fault) → AreBound P T →
    IsLeafJudged P (MayStand o X) T NoLeaf f → IsLineJudged o P X es n Nothing T d d s s f
line-leaf o P X es n T d s None b l = (b, l, (refl, refl))
line-leaf o P X es n T d s (Some f) b (e, w) =
    subst (IsLeastFault P (MayStand o X) nothing T) (sym e) (least-leaf P (MayStand o X) T b w)

pub line-gone : (o : Owner) (P : Prefix) (X : Matrix) (es : List Entry) (n : ℕ) (T : List Literal) (d : Drops) (s : Sayings) (f : Option Fault) → AreBound P T →
    IsLeafJudged P (MayStand o X) T Missing f → IsLineJudged o P X es n Gone T d d s s f
line-gone o P X es n T d s None b l = (b, l, (refl, refl))
line-gone o P X es n T d s (Some f) b (e, w) =
    subst (IsLeastFault P (MayStand o X) missing T) (sym e) (least-gone P (MayStand o X) T b w)

-- the literals of a line of the text are those of the trace
pub source-is : (lines : List Line) (i : ℕ) (S : List Literal) → Some S ≡ literals_of (slice_get lines i) →
    literals_in (slice_get (entries_of lines) i) ≡ S
source-is lines i S h = go (slice_get lines i) refl h
  where
    go : (o : Option Line) → slice_get lines i ≡ o → Some S ≡ literals_of o → literals_in (slice_get (entries_of lines) i) ≡ S
    go None p q = absurd (cc)
    go (Some l) p q = ap literals_in (entry-at lines i l p) ∙ (let z : l.literals ≡ S = cc in z)
