-- The first slots, one further.
use Rattle.std.proofs.Common.{◌≡◌, ℕ, ◌+◌, ◌<◌, Bool, cond, eqb, List, [], ◌∷◌, ◌++◌, length, get_or, take, inl, inr, arith, refl, sym, ap, ◌∙◌, subst, Option, Some, None}
use Rattle.std.proofs.lemmas.List.{length_push, length-take-le, get_or-take, get_or_append_left, get_or_push, get_or_past, take_more}
use Rattle.std.proofs.lemmas.Bool.{cases_lt, cases_eq, ne_eqb, eq-eqb}
use Rattle.std.proofs.lemmas.Option.{same_Some}
use Rattle.q_aig.specs.Prelude.{AreDistinct, IsNew}
use Rattle.q_certificate.specs.Prelude.{look_at}
use Rattle.q_herbrand.specs.declared.slots.Slots.{Slots}
use Rattle.q_herbrand.specs.Slots.{IsBegun}

pub begun-none : (z : Slots) → z.owners.items ≡ [] → z.definitions.items ≡ [] → z.current.items ≡ [] → IsBegun [] z
begun-none z eo ed ec = record {
  owners = eo;
  room = ap length ed;
  current = λ s lt. absurd (omega arith);
  named = λ v s h. absurd (let f : None ≡ Some s = sym (ap (λ (xs : List (Option ℕ)). look_at xs v) ec) ∙ h in cc);
  definitions = λ s. ap (λ (xs : List (Option ℕ)). look_at xs s) ed;
}

begun-more : (names : List ℕ) (name : ℕ) (z z2 : Slots) → IsNew names name → IsBegun names z →
    z2.owners.items ≡ z.owners.items ++ name ∷ [] → z2.definitions.items ≡ z.definitions.items ++ None ∷ [] →
    ((x : ℕ) → look_at z2.current.items x ≡ cond (eqb x name) (Some (length names)) (look_at z.current.items x)) →
    IsBegun (names ++ name ∷ []) z2
begun-more names name z z2 new b eo ed put =
    let len = length_push names name in
    let len2 = length_push z.definitions.items None in
    record {
      owners = eo ∙ ap (λ (xs : List ℕ). xs ++ name ∷ []) b.owners;
      room = ap length ed ∙ (let r = b.room in omega arith);
      current = λ s lt. elim (cases_lt s (length names)) [
        | inl h ↦
            ap (look_at z2.current.items) (get_or_append_left names (name ∷ []) 0 s h) ∙ put (get_or names s 0)
            ∙ ap (λ (q : Bool). cond q (Some (length names)) (look_at z.current.items (get_or names s 0)))
            (ne_eqb (get_or names s 0) name (new s h)) ∙ b.current s h
        | inr h ↦
            let e : s ≡ length names = omega arith in
            ap (look_at z2.current.items) (get_or_push names name 0 s (sym e)) ∙ put name
            ∙ ap (λ (q : Bool). cond q (Some (length names)) (look_at z.current.items name)) (eq-eqb name name refl)
            ∙ ap Some (sym e)
      ];
      named = λ v s h. elim (cases_eq v name) [
        | inl q ↦
            let k : look_at z2.current.items name ≡ Some (length names) = put name
            ∙ ap (λ (t : Bool). cond t (Some (length names)) (look_at z.current.items name)) (eq-eqb name name refl) in
            let e : s ≡ length names =
            same_Some s (length names) (sym h ∙ ap (look_at z2.current.items) q ∙ k) in
            ((omega arith), get_or_push names name 0 s (sym e) ∙ sym q)
        | inr n ↦
            let k : look_at z2.current.items v ≡ look_at z.current.items v = put v
            ∙ ap (λ (t : Bool). cond t (Some (length names)) (look_at z.current.items v)) (ne_eqb v name n) in
            let r = b.named v s (sym k ∙ h) in
            let lt = r.0 in
            ((omega arith), get_or_append_left names (name ∷ []) 0 s lt ∙ r.1)
      ];
      definitions = λ s. ap (λ (xs : List (Option ℕ)). look_at xs s) ed ∙ elim (cases_lt s (length z.definitions.items)) [
        | inl h ↦ get_or_append_left z.definitions.items (None ∷ []) None s h ∙ b.definitions s
        | inr h ↦ elim (cases_eq s (length z.definitions.items)) [
          | inl e ↦ get_or_push z.definitions.items None None s (sym e)
          | inr n ↦ get_or_past (z.definitions.items ++ None ∷ []) s None (omega arith)
        ]
      ];
    }

pub taken-new : (names : List ℕ) (i : ℕ) → AreDistinct names → i < length names →
    IsNew (take i names) (get_or names i 0)
taken-new names i d lt j h e =
    let len : length (take i names) ≡ i = length-take-le i names (omega arith) in
    let s : get_or (take i names) j 0 ≡ get_or names j 0 = get_or-take i names j 0 (omega arith) in
    let q : j ≡ i = d j i (omega arith) lt (sym s ∙ e) in
    absurd (omega arith)

pub begun-taken : (names : List ℕ) (i : ℕ) (z z2 : Slots) → AreDistinct names → i < length names →
    IsBegun (take i names) z → z2.owners.items ≡ z.owners.items ++ get_or names i 0 ∷ [] →
    z2.definitions.items ≡ z.definitions.items ++ None ∷ [] →
    ((x : ℕ) → look_at z2.current.items x ≡ cond (eqb x (get_or names i 0)) (Some i) (look_at z.current.items x)) →
    IsBegun (take (i + 1) names) z2
begun-taken names i z z2 d lt b eo ed put =
    let len : length (take i names) ≡ i = length-take-le i names (omega arith) in
    subst (λ (xs : List ℕ). IsBegun xs z2) (sym (take_more names i 0 lt))
    (begun-more (take i names) (get_or names i 0) z z2 (taken-new names i d lt) b eo ed
    (λ x. put x ∙ ap (λ (n : ℕ). cond (eqb x (get_or names i 0)) (Some n) (look_at z.current.items x)) (sym len)))
