-- Hints that are pushed one after the other, and groups.
use Rattle.std.proofs.lemmas.List.{take_more, get_or_default}
use Rattle.std.proofs.Common.{◌↔◌, arith, Bool, true, false, IsTrue, true≢false, ◌<◌, ◌+◌, take, get_or, length, ◌≡◌, ◌≢◌, ℕ, List, [], ◌∷◌, ◌++◌, ◌⊎◌, inl, inr, refl, sym, ap, ◌∙◌, subst, Option, None, Some, append_assoc, map}
use Rattle.q_logic.specs.Prelude.{Literal, negation, Clause, IsIn, Prefix, HintGroup, ProofPart, numbers_with, Chained, outer, without, Implied, Reducible, FirstPivot, IsWarranted, IsDroppable, Slots, slot, live}
use Rattle.q_logic.specs.declared.proof_part.ProofKind.TheVariants.{Implied as ByHints}
use Rattle.q_logic.proofs.Common.{live-slot, get_or-IsIn}
use Rattle.q_check.proofs.AscendingNumbers.{with-in}
use Rattle.q_logic.specs.ProofParts.{hint_last, with_hint, with_group, begun_part}
use Rattle.q_check.specs.Annotations.{hints_last, with_hints, with_hinted_group, implied_part}
use Rattle.q_check.specs.Numbers.{left_out, Explains}
use Rattle.q_check.proofs.HolderGroups.{left-slot}

pub hints_last-push : (ns : List ℕ) (n : ℕ) (gs : List HintGroup) → hints_last (ns ++ n ∷ []) gs ≡ hint_last n (hints_last ns gs)
hints_last-push [] n gs = refl
hints_last-push (m ∷ ns) n gs = hints_last-push ns n (hint_last m gs)

hint_last-some : (n : ℕ) (gs : List HintGroup) → gs ≢ [] → hint_last n gs ≢ []
hint_last-some n [] d e = d refl
hint_last-some n (g ∷ []) d e = cc
hint_last-some n (g ∷ h ∷ gs) d e = cc

pub hints_last-some : (ns : List ℕ) (gs : List HintGroup) → gs ≢ [] → hints_last ns gs ≢ []
hints_last-some [] gs d = d
hints_last-some (n ∷ ns) gs d = hints_last-some ns (hint_last n gs) (hint_last-some n gs d)

hint_last-at : (n : ℕ) (gs : List HintGroup) (g : HintGroup) → hint_last n (gs ++ g ∷ []) ≡ gs ++ record { target = g.target; hints = g.hints ++ n ∷ [] } ∷ []
hint_last-at n [] g = refl
hint_last-at n (x ∷ []) g = refl
hint_last-at n (x ∷ y ∷ gs) g = ap (λ (r : List HintGroup). x ∷ r) (hint_last-at n (y ∷ gs) g)

nothing-more : (xs : List ℕ) → xs ++ [] ≡ xs
nothing-more [] = refl
nothing-more (x ∷ xs) = ap (λ (ys : List ℕ). x ∷ ys) (nothing-more xs)

pub hints_last-at : (ns : List ℕ) (gs : List HintGroup) (t : ℕ) (hs : List ℕ) →
    hints_last ns (gs ++ record { target = t; hints = hs } ∷ []) ≡ gs ++ record { target = t; hints = hs ++ ns } ∷ []
hints_last-at [] gs t hs = ap (λ (xs : List ℕ). gs ++ record { target = t; hints = xs } ∷ []) (sym (nothing-more hs))
hints_last-at (n ∷ ns) gs t hs =
    ap (hints_last ns) (hint_last-at n gs (record { target = t; hints = hs })) ∙
    hints_last-at ns gs t (hs ++ n ∷ []) ∙
    ap (λ (xs : List ℕ). gs ++ record { target = t; hints = xs } ∷ []) (append_assoc hs (n ∷ []) ns)

pub targets-push : (gs : List HintGroup) (g : HintGroup) → map (λ (x : HintGroup). x.target) (gs ++ g ∷ []) ≡ map (λ (x : HintGroup). x.target) gs ++ g.target ∷ []
targets-push [] g = refl
targets-push (x ∷ gs) g = ap (λ (r : List ℕ). x.target ∷ r) (targets-push gs g)

pub group-cases : (gs : List HintGroup) (g x : HintGroup) → IsIn x (gs ++ g ∷ []) → IsIn x gs ⊎ (x ≡ g)
group-cases [] g x (inl e) = inr e
group-cases [] g x (inr m) = elim m [ ]
group-cases (y ∷ gs) g x (inl e) = inl (inl e)
group-cases (y ∷ gs) g x (inr m) = elim (group-cases gs g x m) [ inl a ↦ inl (inr a) | inr b ↦ inr b ]

pub with_hints-push : (ns : List ℕ) (n : ℕ) (t : ProofPart) → with_hints (ns ++ n ∷ []) t ≡ with_hint n (with_hints ns t)
with_hints-push ns n t = ap (λ (gs : List HintGroup). record { kind = t.kind; number = t.number; groups = gs }) (hints_last-push ns n t.groups)

pub group-hinted : (t : ℕ) (ns : List ℕ) (p : ProofPart) → with_hints ns (with_group t p) ≡ with_hinted_group t ns p
group-hinted t ns p = ap (λ (gs : List HintGroup). record { kind = p.kind; number = p.number; groups = gs }) (hints_last-at ns p.groups t [])

pub implied-hinted : (n : ℕ) (ns : List ℕ) → with_hints ns (begun_part ByHints n) ≡ implied_part n ns
implied-hinted n ns = ap (λ (gs : List HintGroup). record { kind = ByHints; number = n; groups = gs }) (hints_last-at ns [] 0 [])

pub pushed-some : (gs : List HintGroup) (g : HintGroup) → gs ++ g ∷ [] ≢ []
pushed-some [] g e = cc
pushed-some (x ∷ gs) g e = cc

-- One more group.
pub targets-step : (gs : List HintGroup) (targets : List ℕ) (i t : ℕ) (hs : List ℕ) → map (λ (g : HintGroup). g.target) gs ≡ take i targets → i < length targets →
    t ≡ get_or targets i t → map (λ (g : HintGroup). g.target) (gs ++ record { target = t; hints = hs } ∷ []) ≡ take (i + 1) targets
targets-step gs targets i t hs e l q =
    targets-push gs (record { target = t; hints = hs }) ∙
    ap (λ (xs : List ℕ). xs ++ t ∷ []) e ∙
    ap (λ (x : ℕ). take i targets ++ x ∷ []) q ∙ sym (take_more targets i t l)

pub same-at : (xs : List ℕ) (i a b : ℕ) → i < length xs → a ≡ get_or xs i a → b ≡ get_or xs i b → a ≡ b
same-at xs i a b l p q = p ∙ get_or_default xs i a b l ∙ sym q

-- one clause that does not resolve
pub unresolved : (P : Prefix) (N : Slots) (base : Clause) (m : Literal) (skip : Option ℕ) (targets : List ℕ) (i t : ℕ) (hints : List ℕ) (yes' : Bool) →
    targets ≡ numbers_with m 0 (left_out skip N) → i < length targets → t ≡ get_or targets i t → yes' ≡ false →
    ((D : Clause) → slot N t ≡ Some D → Explains (left_out skip N) (base ++ outer P m D) hints yes') →
    ((D : Clause) → IsIn D (live (left_out skip N)) → IsIn m D → Implied (live (left_out skip N)) (base ++ outer P m D)) → ⊥
unresolved P N base m skip targets i t hints yes' e l q n x f =
    let k : IsIn t (numbers_with m 0 (left_out skip N)) = subst (λ (xs : List ℕ). IsIn t xs) e (subst (λ (y : ℕ). IsIn y targets) (sym q) (get_or-IsIn targets i t l)) in
    let w = with-in m 0 (left_out skip N) t k in
    let there : slot (left_out skip N) t ≡ Some w.1 = subst (λ (j : ℕ). slot (left_out skip N) j ≡ Some w.1) (let p = w.2 in omega arith) w.3 in
    let not_it = subst (λ (b : Bool). Explains (left_out skip N) (base ++ outer P m w.1) hints b) n (x w.1 (left-slot skip N t w.1 there)) in
    not_it (f w.1 (live-slot (left_out skip N) t w.1 there) w.4)

pub resolving : (P : Prefix) (N : Slots) (base : Clause) (m : Literal) (skip : Option ℕ) (t : ℕ) (hints : List ℕ) (yes' : Bool) → yes' ≡ true →
    ((D : Clause) → slot N t ≡ Some D → Explains (left_out skip N) (base ++ outer P m D) hints yes') →
    (D : Clause) → slot (left_out skip N) t ≡ Some D → Chained (left_out skip N) (base ++ outer P m D) hints
resolving P N base m skip t hints yes' n x D e =
    subst (λ (b : Bool). Explains (left_out skip N) (base ++ outer P m D) hints b) n (x D (left-slot skip N t D e))

-- neither implied, nor by the first literal
pub unwarranted : (P : Prefix) (N : Slots) (C : Clause) (p : Option Literal) → ¬ Implied (live N) C → ¬ FirstPivot P (live N) C p → ¬ IsWarranted P (live N) C p
unwarranted P N C p a b (inl i) = a i
unwarranted P N C p a b (inr f) = b f

pub undroppable : (P : Prefix) (N : Slots) (C : Clause) (l : Literal) → ¬ Reducible P (live N) C l →
    ¬ ((D : Clause) → IsIn D (live N) → IsIn (negation l) D → Implied (live N) (without l C ++ outer P (negation l) D)) → ¬ IsDroppable P (live N) C l
undroppable P N C l a b (inl h) = b h.implied
undroppable P N C l a b (inr h) = a h

pub denied : (P : Type 0) (yes' : Bool) → IsTrue yes' ↔ P → yes' ≡ false → ¬ P
denied P yes' e n p = true≢false (sym (e.1 p) ∙ n)

-- each group shows its target's resolvent
abbrev pub AreShown : Prefix → Slots → Clause → Literal → List HintGroup → Type 0
AreShown P N base m gs = (g : HintGroup) → IsIn g gs → (D : Clause) → slot N g.target ≡ Some D → Chained N (base ++ outer P m D) g.hints

pub shown-step : (P : Prefix) (N : Slots) (base : Clause) (m : Literal) (gs : List HintGroup) (t : ℕ) (hs : List ℕ) → AreShown P N base m gs →
    ((D : Clause) → slot N t ≡ Some D → Chained N (base ++ outer P m D) hs) → AreShown P N base m (gs ++ record { target = t; hints = hs } ∷ [])
shown-step P N base m gs t hs a f g i D e =
    elim (group-cases gs (record { target = t; hints = hs }) g i) [
      | inl j ↦ a g j D e
      | inr q ↦
          let there : slot N t ≡ Some D = subst (λ (x : HintGroup). slot N x.target ≡ Some D) q e in
          subst (λ (x : HintGroup). Chained N (base ++ outer P m D) x.hints) (sym q) (f D there)
    ]
