-- What a line keeps and takes away, as values.
use Rattle.std.proofs.Common.{◌≡◌, ℕ, ◌<◌, Bool, true, false, cond, List, ◌++◌, inl, inr, arith, refl, sym, ap, ◌∙◌, subst, slice_get, Option, None}
use Rattle.q_logic.specs.Prelude.{Literal, negation, Prefix, IsIn, is_existential, universal_before, Circuit, Reads}
use Rattle.q_logic.specs.Prefixes.{place}
use Rattle.q_logic.proofs.Common.{IsIn-append, IsIn-append_left, IsIn-append_right}
use Rattle.q_derive.specs.Traces.{MergesOnly, IsKept, IsShed, AreBound}
use Rattle.q_derive.proofs.Deciding.{same-or_turned}
use Rattle.q_long.specs.Valued.{Value, AreLocal}
use Rattle.q_long.proofs.Following.{IsAway}
use Rattle.q_extract.specs.Merges.{circuit_in, value_at}
use Rattle.q_resolve.specs.declared.leaves.Owner.{Owner}
use Rattle.q_resolve.specs.Sides.{sided, line_values}
use Rattle.q_resolve.specs.Tests.{outermost}
use Rattle.q_resolve.specs.Reduced.{front_of, back_of}
use Rattle.q_resolve.specs.Merging.{is_merged, IsSayingOf}
use Rattle.q_resolve.proofs.Sided.{side-same, side-merged, side-plain, at-var, line-in, line-out}
use Rattle.q_resolve.proofs.Reduced.{front-in, back-in, front-or-back, back-owned, front-stays, in-front}
use Rattle.q_resolve.proofs.Merging.{merged-of, both-of, both-in, merged-only, false-of}

module _ (o : Owner) (P : Prefix) (cs : List Circuit) (f g : ℕ → Option ℕ) (R T : List Literal) (bound : AreBound P R) (kept : IsKept P R T) (shed : IsShed P R T)
    (merges : MergesOnly P R T) (saying : IsSayingOf P f R) (same : (x : ℕ) → g x ≡ cond (is_merged P T x) (f x) None) where
  abbrev pub at : ℕ
  at = outermost P T R

  abbrev pub front-values : List Value
  front-values = line_values cs f o (front_of P at R)

  abbrev pub back-values : List Value
  back-values = line_values cs f o (back_of P at R)

  pub whole-values : (k : Literal) → IsIn k R → IsIn (value_at cs f (sided o k)) (front-values ++ back-values)
  whole-values k m = elim (IsIn-append k (front_of P at R) (back_of P at R) (front-or-back P at R k m)) [
    | inl i ↦ IsIn-append_left _ front-values back-values (line-in cs f o (front_of P at R) k i)
    | inr i ↦ IsIn-append_right _ front-values back-values (line-in cs f o (back_of P at R) k i)
  ]

  pub source-of : (v : Value) → IsIn v (front-values ++ back-values) → (k : Literal) × IsIn k R × (v ≡ value_at cs f (sided o k))
  source-of v m = elim (IsIn-append v front-values back-values m) [
    | inl i ↦ let r = line-out cs f o (front_of P at R) v i in (r.0, (front-in P at R r.0 r.1).0, r.2)
    | inr i ↦ let r = line-out cs f o (back_of P at R) v i in (r.0, (back-in P at R r.0 r.1).0, r.2)
  ]

  pub whole-local : AreLocal P (line_values cs f o R) → AreLocal P (front-values ++ back-values)
  whole-local l v m u r =
      let s = source-of v m in
      l v (subst (λ (w : Value). IsIn w (line_values cs f o R)) (sym s.2) (line-in cs f o R s.0 s.1)) u r

  var-of : (v : Value) (k : Literal) → v ≡ value_at cs f (sided o k) → v.var ≡ k.var
  var-of v k q = ap (λ (w : Value). w.var) q ∙ at-var cs f o k

  -- a variable has one value
  one-value : (j k : Literal) → IsIn j R → IsIn k R → is_existential P k.var ≡ true → j.var ≡ k.var → value_at cs f (sided o j) ≡ value_at cs f (sided o k)
  one-value j k m n x q = elim (same-or_turned j k q) [
    | inl e ↦ ap (λ (y : Literal). value_at cs f (sided o y)) e
    | inr e ↦
        let w : is_merged P R k.var ≡ true = merged-of P R k x n (subst (λ (y : Literal). IsIn y R) e m) in
        let r = saying.whole k.var w in
        side-merged cs f o j r.0 (ap f q ∙ r.1) ∙ ap (λ (y : ℕ). record { var = y; circuit = circuit_in (slice_get cs r.0) }) q ∙
        sym (side-merged cs f o k r.0 r.1)
  ]

  pub taken-away : IsAway P front-values back-values
  taken-away = record { owned = λ v m. owned v m; alone = λ v m w n q. alone v m w n q; behind = λ v m w n. behind v m w n }
    where
      owned : (v : Value) → IsIn v back-values → is_existential P v.var ≡ true
      owned v m =
          let r = line-out cs f o (back_of P at R) v m in
          subst (λ x. is_existential P x ≡ true) (sym (var-of v r.0 r.2)) (back-owned P R T bound shed r.0 r.1)

      alone : (v : Value) → IsIn v back-values → (w : Value) → IsIn w (front-values ++ back-values) → w.var ≡ v.var → w ≡ v
      alone v m w n q =
          let r = line-out cs f o (back_of P at R) v m in
          let s = source-of w n in
          s.2 ∙ one-value s.0 r.0 s.1 (back-in P at R r.0 r.1).0 (back-owned P R T bound shed r.0 r.1) (sym (var-of w s.0 s.2) ∙ q ∙ var-of v r.0 r.2) ∙ sym r.2

      behind : (v : Value) → IsIn v back-values → (w : Value) → IsIn w front-values → place P w.var < place P v.var
      behind v m w n =
          let r = line-out cs f o (back_of P at R) v m in
          let s = line-out cs f o (front_of P at R) w n in
          let a = (back-in P at R r.0 r.1).1 in
          let b = (front-in P at R s.0 s.1).1 in
          let x = ap (place P) (var-of v r.0 r.2) in
          let y = ap (place P) (var-of w s.0 s.2) in
          omega arith

  -- what is kept is what the line says
  kept-same : (k : Literal) → IsIn k (front_of P at R) → f k.var ≡ g k.var
  kept-same k m = go (is_merged P T k.var) refl
    where
      go : (b : Bool) → is_merged P T k.var ≡ b → f k.var ≡ g k.var
      go true e = sym (same k.var ∙ (rw e refl))
      go false e =
          let n : f k.var ≡ None = saying.only k.var (false-of (is_merged P R k.var) (λ q.
          let r = both-in P R k q in
          let l = (front-in P at R k m).1 in
          let a = front-stays P R T kept k m in
          let b = front-stays P R T kept (negation k) (in-front P at R (negation k) r.1 l) in
          let z : is_merged P T k.var ≡ true = merged-of P T k (owner k q) a b in cc)) in
          n ∙ sym (same k.var ∙ (rw e refl))
        where
          owner : (k : Literal) → is_merged P R k.var ≡ true → is_existential P k.var ≡ true
          owner k q = (both-of P R k.var q).owned

  pub kept-values : (v : Value) → IsIn v front-values → IsIn v (line_values cs g o T)
  kept-values v m =
      let r = line-out cs f o (front_of P at R) v m in
      subst (λ (w : Value). IsIn w (line_values cs g o T)) (side-same cs g f o r.0 (sym (kept-same r.0 r.1)) ∙ sym r.2)
      (line-in cs g o T r.0 (front-stays P R T kept r.0 r.1))

  -- what the line says
  pub line-saying : IsSayingOf P g T
  line-saying = record {
    whole = λ x m. let r = saying.whole x (merged-only P R T x merges m) in (r.0, same x ∙ (rw m r.1));
    only = λ x m. same x ∙ (rw m refl);
  }

  pub line-local : AreLocal P (line_values cs f o R) → AreLocal P (line_values cs g o T)
  line-local l v m u r = go (line-out cs g o T v m)
    where
      go : (k : Literal) × IsIn k T × (v ≡ value_at cs g (sided o k)) → universal_before P u v.var ≡ true
      go (k, a, e) = subst (λ y. universal_before P u y ≡ true) (sym (ap (λ (w : Value). w.var) e ∙ at-var cs g o k)) (split (is_merged P T k.var) refl)
        where
          split : (b : Bool) → is_merged P T k.var ≡ b → universal_before P u k.var ≡ true
          split true q =
              let i = (both-in P R k (merged-only P R T k.var merges q)).0 in
              let s : value_at cs g (sided o k) ≡ value_at cs f (sided o k) = side-same cs g f o k (same k.var ∙ (rw q refl)) in
              subst (λ y. universal_before P u y ≡ true) (at-var cs f o k)
              (l (value_at cs f (sided o k)) (line-in cs f o R k i) u (subst (λ (w : Value). Reads w.circuit u) (e ∙ s) r))
          split false q = absurd (subst (λ (w : Value). Reads w.circuit u) (e ∙ side-plain cs g o k (same k.var ∙ (rw q refl))) r)
