-- What follows of a trace from what the judge found.
use Rattle.std.proofs.Common.{◌≡◌, ℕ, zero, suc, ◌<◌, Bool, true, false, List, [], ◌∷◌, inl, inr, length, map, arith, refl, sym, ap, ◌∙◌, subst, slice_get, Option, Some, None}
use Rattle.std.proofs.lemmas.Option.{slice_get_within}
use Rattle.q_logic.specs.Prelude.{Literal, negation, Prefix, Matrix, PrenexFormula, is_existential, IsFormula, Distinct, Assignment, value_of, Strategy, circuit_of, or_input, outcome, Lawful, SkolemOf, CertificateView, trees_of}
use Rattle.q_logic.specs.Exchanging.{exchanged}
use Rattle.q_logic.specs.Herbrands.{HerbrandOf}
use Rattle.q_logic.proofs.Common.{MatrixTrue-agree}
use Rattle.q_logic.proofs.Exchanged.{exchanged-lawful, exchanged-distinct}
use Rattle.q_logic.proofs.Falsity.{MatrixFalse-agree}
use Rattle.q_certificate.proofs.NamedCertificates.{not-given}
use Rattle.q_derive.specs.Derivations.{Reason, leaf, resolve, reduce, IsHitting, HoldsClause}
use Rattle.q_derive.specs.Extracted.{turned_all}
use Rattle.q_long.specs.Valued.{Value, Line, Follows, IsDerivation, AreOf, IsTurned, HasEmpty}
use Rattle.q_long.specs.Decided.{Drop, drops, circuits_of, AreBehind}
use Rattle.q_derive.specs.Traces.{Entry, Parents, nothing, missing, single, double, parents, literals_in, AreBound, Stands, InCone, end, further, IsEnd, IsEndless, IsTrace}
use Rattle.q_long.proofs.Winning.{derived-lawful, drops-behind}
use Rattle.q_long.proofs.Following.{leaf-further}
use Rattle.q_long.proofs.Finishing.{ended-skolem, ended-herbrand}
use Rattle.q_extract.specs.Built.{IsExtracted}
use Rattle.q_extract.specs.Rows.{drops_in}
use Rattle.q_extract.specs.declared.drops.Drops.{Drops}
use Rattle.q_resolve.specs.declared.leaves.Owner.{Owner}
use Rattle.q_resolve.specs.declared.leaves.Owner.TheVariants.{Exists, Forall}
use Rattle.q_resolve.specs.declared.fault.Fault.{Fault}
use Rattle.q_resolve.specs.declared.fault.Fault.TheVariants.{Unbound, Missing, NoLeaf, NoPivot, Merged, Lost, Shed}
use Rattle.q_resolve.specs.Faults.{IsFault, IsLeastFault}
use Rattle.q_resolve.specs.Leaves.{MayStand, prefix_for}
use Rattle.q_resolve.specs.Sides.{sided, line_values}
use Rattle.q_resolve.proofs.LineFaults.{lawful-parent}
use Rattle.q_qrp.specs.Lines.{Proof}
use Rattle.q_resolve.specs.declared.judged.Judged.{Judged}
use Rattle.q_resolve.specs.declared.judged.Judged.TheVariants.{Proved, Refused}
use Rattle.q_resolve.specs.Judged.{entries_of, sources_in, AreRight, IsFirst, IsRefusal, IsProofOf, Decide, IsMadeFor, IsAnswer}
use Rattle.q_resolve.specs.Derived.{IsSided, IsDerivedFrom, IsStood}
use Rattle.q_extract.specs.Saying.{said_in}
use Rattle.q_extract.specs.Merges.{merge_circuits, HavePivotsIn}
use Rattle.q_extract.specs.declared.said.Sayings.{Sayings}
use Rattle.q_extract.specs.declared.said.Merge.{Merge}

-- a line with a fault is not right
fault-wrong : (P : Prefix) (L : List Literal → Type 0) (from : Parents) (T : List Literal) (f : Fault) → IsFault P L from T f →
    AreBound P T → Stands P L from T → ⊥
fault-wrong P L from T Unbound (k, m, e) b s = let z = b k m in cc
fault-wrong P L from T Missing (e, n) b s = n (subst (λ (x : Parents). Stands P L x T) e s)
fault-wrong P L from T NoLeaf (e, n) b s = n (subst (λ (x : Parents). Stands P L x T) e s)
fault-wrong P L nothing T NoPivot (h, n) b s = h
fault-wrong P L missing T NoPivot (h, n) b s = h
fault-wrong P L (single S) T NoPivot (h, n) b s = n s.0 (lawful-parent P (single S) s.0 s.1.0)
fault-wrong P L (double S U) T NoPivot (h, n) b s = n s.0 (lawful-parent P (double S U) s.0 s.1.0)
fault-wrong P L nothing T Merged (h, n) b s = h
fault-wrong P L missing T Merged (h, n) b s = h
fault-wrong P L (single S) T Merged (h, n) b s = n s.0 s.1
fault-wrong P L (double S U) T Merged (h, n) b s = n s.0 s.1
fault-wrong P L nothing T Lost (h, n) b s = h
fault-wrong P L missing T Lost (h, n) b s = h
fault-wrong P L (single S) T Lost (h, n) b s = n s.0 s.1 s.2
fault-wrong P L (double S U) T Lost (h, n) b s = n s.0 s.1 s.2
fault-wrong P L nothing T Shed (h, n) b s = h
fault-wrong P L missing T Shed (h, n) b s = h
fault-wrong P L (single S) T Shed (h, n) b s = n s.0 s.1 s.2 s.3
fault-wrong P L (double S U) T Shed (h, n) b s = n s.0 s.1 s.2 s.3

pub proof-is : (o : Owner) (F : PrenexFormula) (es : List Entry) → IsTrace (prefix_for o F.prefix) (MayStand o F.matrix) es → IsProofOf o F es
proof-is Exists F es t = t
proof-is Forall F es t = t

pub proof-from : (o : Owner) (F : PrenexFormula) (es : List Entry) → IsProofOf o F es → IsTrace (prefix_for o F.prefix) (MayStand o F.matrix) es
proof-from Exists F es t = t
proof-from Forall F es t = t

pub first-wrong : (o : Owner) (F : PrenexFormula) (es : List Entry) (n : ℕ) (f : Fault) → IsFirst o (prefix_for o F.prefix) F.matrix es n f →
    IsProofOf o F es → ⊥
first-wrong o F es n f (c, l, r, a) p = go (slice_get es n) refl
  where
    t : IsTrace (prefix_for o F.prefix) (MayStand o F.matrix) es
    t = proof-from o F es p

    none : (xs : List Entry) (i : ℕ) → i < length xs → slice_get xs i ≡ None → ⊥
    none [] i lt e = omega arith
    none (x ∷ xs) zero lt e = cc
    none (x ∷ xs) (suc i) lt e = none xs i (omega arith) e

    go : (x : Option Entry) → slice_get es n ≡ x → ⊥
    go None e = none es n l e
    go (Some e) q =
        let w = t.right n c e q in
        let z = subst (λ (x : Option Entry). IsLeastFault (prefix_for o F.prefix) (MayStand o F.matrix) (parents es n (sources_in x)) (literals_in x) f) q a in
        fault-wrong (prefix_for o F.prefix) (MayStand o F.matrix) (parents es n e.sources) e.literals f z.there w.bound w.stands

-- traces without an end
cone-end : (es : List Entry) (n : ℕ) → InCone es n → (m : ℕ) × IsEnd es m
cone-end es n (end m e) = (m, e)
cone-end es n (further m e a c s d h) = cone-end es _ c

pub endless-wrong : (o : Owner) (F : PrenexFormula) (es : List Entry) → IsEndless es → (MayStand o F.matrix [] → ⊥) → IsProofOf o F es → ⊥
endless-wrong o F es e n p = n ((proof-from o F es p).ends e)

pub endless-proof : (o : Owner) (F : PrenexFormula) (es : List Entry) → IsEndless es → MayStand o F.matrix [] → IsProofOf o F es
endless-proof o F es e l = proof-is o F es (record {
  right = λ n c x h. absurd (let r = cone-end es n c in e r.0 r.1.empty.0 r.1.empty.1 r.1.empty.2);
  ends = λ h. l;
})

pub ended-proof : (o : Owner) (F : PrenexFormula) (es : List Entry) (n : ℕ) → IsEnd es n → AreRight o (prefix_for o F.prefix) F.matrix es (length es) →
    IsProofOf o F es
ended-proof o F es n e r = proof-is o F es (record {
  right = λ m c x h. r m (slice_get_within es m x h) c x h;
  ends = λ h. absurd (h n e.empty.0 e.empty.1 e.empty.2);
})

-- circuits of a derivation
same-outcome : (P : Prefix) (c d : Strategy) → Lawful P c → Lawful P d →
    ((x : ℕ) → is_existential P x ≡ true → (A : Assignment) → value_of (circuit_of c x) A ≡ value_of (circuit_of d x) A) →
    (A : Assignment) (x : ℕ) → outcome c A x ≡ outcome d A x
same-outcome P c d lc ld v A x = go (is_existential P x) refl
  where
    go : (b : Bool) → is_existential P x ≡ b → outcome c A x ≡ outcome d A x
    go true e = v x e A
    go false e =
        let m : c x ≡ None = not-given (c x) (lc.trees x ∙ e) in
        let n : d x ≡ None = not-given (d x) (ld.trees x ∙ e) in
        ap (λ o. value_of (or_input x o) A) m ∙ sym (ap (λ o. value_of (or_input x o) A) n)

same-values : (P : Prefix) (L : List Value → Type 0) (lines : List Line) (n : ℕ) (made : CertificateView) → Distinct P → IsDerivation P L lines → IsExtracted P (drops lines) n made →
    (A : Assignment) (y : ℕ) → outcome (circuits_of P lines) A y ≡ outcome (trees_of made) A y
same-values P L lines n made di de x A y =
    sym (same-outcome P (trees_of made) (circuits_of P lines) x.lawful (derived-lawful P L lines di de) x.values A y)

skolem-made : (F : PrenexFormula) (lines : List Line) (n : ℕ) (made : CertificateView) → IsFormula F → IsDerivation F.prefix (AreOf (IsHitting F.matrix)) lines → HasEmpty lines →
    IsExtracted F.prefix (drops lines) n made → SkolemOf F (trees_of made)
skolem-made F lines n made f d e x = record {
  lawful = x.lawful;
  wins = λ A. MatrixTrue-agree (outcome (circuits_of F.prefix lines) A) (outcome (trees_of made) A) F.matrix
      (same-values F.prefix (AreOf (IsHitting F.matrix)) lines n made f.distinct d x A)
      ((ended-skolem F lines f d e).wins A);
}

herbrand-made : (F : PrenexFormula) (lines : List Line) (n : ℕ) (made : CertificateView) → IsFormula F →
    IsDerivation (exchanged F.prefix) (AreOf (IsTurned (HoldsClause F.matrix))) lines → HasEmpty lines →
    IsExtracted (exchanged F.prefix) (drops lines) n made → HerbrandOf F (trees_of made)
herbrand-made F lines n made f d e x = record {
  lawful = exchanged-lawful F.prefix (trees_of made) x.lawful;
  loses = λ A. MatrixFalse-agree (outcome (circuits_of (exchanged F.prefix) lines) A) (outcome (trees_of made) A) F.matrix
      (same-values (exchanged F.prefix) (AreOf (IsTurned (HoldsClause F.matrix))) lines n made (exchanged-distinct F.prefix f.distinct) d x A)
      ((ended-herbrand F lines f d e).loses A);
}

-- both sides
follows-map : (P : Prefix) (L M : List Value → Type 0) (lines : List Line) (n : ℕ) (T : List Value) (r : Reason) →
    ((S : List Value) → L S → M S) → Follows P L lines n T r → Follows P M lines n T r
follows-map P L M lines n T leaf h f = h T f
follows-map P L M lines n T (resolve i j k) h f = f
follows-map P L M lines n T (reduce i) h f = f

derivation-map : (P : Prefix) (L M : List Value → Type 0) (lines : List Line) → ((S : List Value) → L S → M S) → IsDerivation P L lines → IsDerivation P M lines
derivation-map P L M lines h d = record {
  local = d.local;
  follows = λ n line e. follows-map P L M lines n line.values line.reason h (d.follows n line e);
}

literals-own : (T : List Literal) → map (sided Exists) T ≡ T
literals-own [] = refl
literals-own (k ∷ T) = ap (λ (xs : List Literal). k ∷ xs) (literals-own T)

literals-turned : (T : List Literal) → map (sided Forall) T ≡ turned_all T
literals-turned [] = refl
literals-turned (k ∷ T) = ap (λ (xs : List Literal). negation k ∷ xs) (literals-turned T)

hitting-leaf : (X : Matrix) (V : List Value) → AreOf (IsSided Exists X) V → AreOf (IsHitting X) V
hitting-leaf X V (T, (S, h, q), e) = (T, subst (IsHitting X) (sym (q ∙ literals-own S)) h, e)

clause-leaf : (X : Matrix) (V : List Value) → AreOf (IsSided Forall X) V → AreOf (IsTurned (HoldsClause X)) V
clause-leaf X V (T, (S, h, q), e) = (T, (S, (h.0, h.1, h.2), q ∙ literals-turned S), e)

-- a derivation that ends, with what it takes away
pub record IsFinished (o : Owner) (F : PrenexFormula) (lines : List Line) (ds : List Drop) : Type 0 where
  pub derivation : IsDerivation (prefix_for o F.prefix) (AreOf (IsSided o F.matrix)) lines
  pub same : ds ≡ drops lines
  pub ends : HasEmpty lines

pub finished-behind : (o : Owner) (F : PrenexFormula) (lines : List Line) (ds : List Drop) → IsFinished o F lines ds → AreBehind (prefix_for o F.prefix) ds
finished-behind o F lines ds h =
    subst (AreBehind (prefix_for o F.prefix)) (sym h.same) (drops-behind (prefix_for o F.prefix) (AreOf (IsSided o F.matrix)) lines h.derivation)

pub finished-decides : (o : Owner) (F : PrenexFormula) (lines : List Line) (ds : List Drop) (n : ℕ) (made : CertificateView) → IsFormula F →
    IsFinished o F lines ds → IsExtracted (prefix_for o F.prefix) ds n made → IsMadeFor (prefix_for o F.prefix) made × Decide o F made
finished-decides o F lines ds n made f h x = (record { inputs = x.inputs; outputs = x.outputs; lawful = x.lawful }, go o h x)
  where
    go : (o : Owner) → IsFinished o F lines ds → IsExtracted (prefix_for o F.prefix) ds n made → Decide o F made
    go Exists h x =
        skolem-made F lines n made f (derivation-map F.prefix (AreOf (IsSided Exists F.matrix)) (AreOf (IsHitting F.matrix)) lines (hitting-leaf F.matrix) h.derivation) h.ends
        (subst (λ (xs : List Drop). IsExtracted F.prefix xs n made) h.same x)
    go Forall h x =
        herbrand-made F lines n made f (derivation-map (exchanged F.prefix) (AreOf (IsSided Forall F.matrix)) (AreOf (IsTurned (HoldsClause F.matrix))) lines (clause-leaf F.matrix) h.derivation) h.ends
        (subst (λ (xs : List Drop). IsExtracted (exchanged F.prefix) xs n made) h.same x)

pub finished-cone : (o : Owner) (F : PrenexFormula) (es : List Entry) (n : ℕ) (d : Drops) (t : Sayings) → IsEnd es n →
    (h : IsDerivedFrom o (prefix_for o F.prefix) F.matrix es (length es) d t) → IsFinished o F h.lines (drops_in d)
finished-cone o F es n d t e h = record {
  derivation = h.derivation;
  same = h.same;
  ends = let r = (h.covers n (slice_get_within es n e.empty.0 e.empty.1) (end n e) e.empty.0 e.empty.1).there in
      (r.0, r.1, r.2, r.3 ∙ ap (line_values (merge_circuits d.merges.items) (said_in t n) o) e.empty.2);
}

pub finished-leaf : (o : Owner) (F : PrenexFormula) (ds : List Drop) → ds ≡ [] → MayStand o F.matrix [] → (lines : List Line) × IsFinished o F lines ds
finished-leaf o F ds e l =
    let r = leaf-further (prefix_for o F.prefix) (AreOf (IsSided o F.matrix)) [] [] []
    (record { derivation = record { local = λ n line h. absurd (cc); follows = λ n line h. absurd (cc) }; same = refl }) (λ v m. absurd m) ([], ([], l, refl), refl) in
    (r.0, record { derivation = r.1.derived.derivation; same = e ∙ sym r.1.derived.same; ends = r.1.there })

-- what the judge says in the end
pub refused-endless : (o : Owner) (F : PrenexFormula) (proof : Proof) → IsEndless (entries_of proof.lines) → (MayStand o F.matrix [] → ⊥) →
    IsAnswer o F proof (Refused proof.place 5)
refused-endless o F proof e n = (endless-wrong o F (entries_of proof.lines) e n, inl (e, n, refl, refl))

pub refused-line : (o : Owner) (F : PrenexFormula) (proof : Proof) (P : Prefix) (n : ℕ) (f : Fault) (j : Judged) → P ≡ prefix_for o F.prefix →
    IsFirst o P F.matrix (entries_of proof.lines) n f → IsRefusal proof n f j → IsAnswer o F proof j
refused-line o F proof P n f (Proved made) e h r = absurd r
refused-line o F proof P n f (Refused line cause) e h (l, s, p, q) =
    let w : IsFirst o (prefix_for o F.prefix) F.matrix (entries_of proof.lines) n f = subst (λ (Q : Prefix). IsFirst o Q F.matrix (entries_of proof.lines) n f) e h in
    (first-wrong o F (entries_of proof.lines) n f w, inr (n, l, f, s, p, q, w))

pub proved-endless : (o : Owner) (F : PrenexFormula) (proof : Proof) (P : Prefix) (ds : List Drop) (m : ℕ) (made : CertificateView) → P ≡ prefix_for o F.prefix → IsFormula F →
    IsEndless (entries_of proof.lines) → MayStand o F.matrix [] → ds ≡ [] → IsExtracted P ds m made → IsAnswer o F proof (Proved made)
proved-endless o F proof P ds m made e f h l d x =
    let z = finished-leaf o F ds d l in
    let r = finished-decides o F z.0 ds m made f z.1 (subst (λ (Q : Prefix). IsExtracted Q ds m made) e x) in
    (endless-proof o F (entries_of proof.lines) h l, r.0, r.1)

pub proved-ended : (o : Owner) (F : PrenexFormula) (proof : Proof) (P : Prefix) (n : ℕ) (d : Drops) (u : Sayings) (m : ℕ) (made : CertificateView) → P ≡ prefix_for o F.prefix → IsFormula F →
    IsEnd (entries_of proof.lines) n → IsStood o P F.matrix (entries_of proof.lines) (length (entries_of proof.lines)) d u → IsExtracted P (drops_in d) m made →
    IsAnswer o F proof (Proved made)
proved-ended o F proof P n d u m made e f h s x =
    let es = entries_of proof.lines in
    let t : IsStood o (prefix_for o F.prefix) F.matrix es (length es) d u = subst (λ (Q : Prefix). IsStood o Q F.matrix es (length es) d u) e s in
    let r = finished-decides o F t.derived.lines (drops_in d) m made f (finished-cone o F es n d u h t.derived) (subst (λ (Q : Prefix). IsExtracted Q (drops_in d) m made) e x) in
    (ended-proof o F es n h t.right, r.0, r.1)

pub ended-behind : (o : Owner) (F : PrenexFormula) (proof : Proof) (P : Prefix) (n : ℕ) (d : Drops) (u : Sayings) → P ≡ prefix_for o F.prefix →
    IsEnd (entries_of proof.lines) n → IsStood o P F.matrix (entries_of proof.lines) (length (entries_of proof.lines)) d u → AreBehind P (drops_in d)
ended-behind o F proof P n d u e h s =
    let es = entries_of proof.lines in
    let t : IsStood o (prefix_for o F.prefix) F.matrix es (length es) d u = subst (λ (Q : Prefix). IsStood o Q F.matrix es (length es) d u) e s in
    subst (λ (Q : Prefix). AreBehind Q (drops_in d)) (sym e) (finished-behind o F t.derived.lines (drops_in d) (finished-cone o F es n d u h t.derived))

pub none-behind : (P : Prefix) (ds : List Drop) → ds ≡ [] → AreBehind P ds
none-behind P ds e = subst (AreBehind P) (sym e) (λ d m. absurd m)

pub no-pivots : (U : ℕ → Bool) (ms : List Merge) → ms ≡ [] → HavePivotsIn U ms
no-pivots U ms e = subst (HavePivotsIn U) (sym e) (λ i m h. absurd (cc))
