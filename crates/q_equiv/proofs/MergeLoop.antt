-- Turn by turn keep takes the place of gone.
use Rattle.std.proofs.Common.{◌≡◌, ◌≢◌, ◌≤◌, ◌⊎◌, ℕ, Bool, true, false, cond, eqb, [], ◌∷◌, inl, inr, arith, refl, sym, ap, ◌∙◌, subst, Option, Some, None, true≢false}
use Rattle.q_logic.specs.Prelude.{Literal, negation, Clause, Matrix, IsIn, has_variable, one_less, clause_eq, is_tautology, put_unless_tautology, Slots, slot, set_slot, live, others, merged, merged_one, renamed, copies}
use Rattle.q_logic.proofs.Common.{slot-alike, insert-IsIn, IsIn-insert, clause_eq-sound, SameClauses, clause_eq-itself, IsIn-alike, IsIn-copies, alike-refl, alike-sym, alike-trans, alike-cons, alike-uncons, alike-swap, one_less-alike, live-gone, not-negation, slot-set_other, slot-set_none}
use Rattle.q_logic.proofs.MergeRun.{renamed-free}
use Rattle.q_logic.proofs.ClauseLoops.{no_var}
use Rattle.q_logic.proofs.HintChains.{live-number}
use Rattle.q_kernel.specs.Prelude.{Seen, slots}
use Rattle.q_equiv.specs.declared.bridge.Bridge.{Bridge}
use Rattle.q_equiv.specs.Changing.{over_clause, back_clause, IsBridged}

-- Merging does not look at the order of clauses.
pub put-alike : (R : Clause) (X Y : Matrix) → SameClauses X Y → SameClauses (put_unless_tautology R X) (put_unless_tautology R Y)
put-alike R X Y s = go (is_tautology R)
  where
    go : (b : Bool) → SameClauses (cond b X (R ∷ X)) (cond b Y (R ∷ Y))
    go true = s
    go false = alike-cons R X Y s

pub put-swap : (R D : Clause) (X : Matrix) → SameClauses (put_unless_tautology R (D ∷ X)) (D ∷ put_unless_tautology R X)
put-swap R D X = go (is_tautology R)
  where
    go : (b : Bool) → SameClauses (cond b (D ∷ X) (R ∷ D ∷ X)) (D ∷ cond b X (R ∷ X))
    go true = alike-refl (D ∷ X)
    go false = alike-swap R D X

put-put : (R S : Clause) (X : Matrix) → SameClauses (put_unless_tautology R (put_unless_tautology S X)) (put_unless_tautology S (put_unless_tautology R X))
put-put R S X = go (is_tautology S)
  where
    go : (b : Bool) → SameClauses (put_unless_tautology R (cond b X (S ∷ X))) (cond b (put_unless_tautology R X) (S ∷ put_unless_tautology R X))
    go true = alike-refl (put_unless_tautology R X)
    go false = put-swap R S X

module _ (keep gone : Literal) where
  one-alike : (C : Clause) (X Y : Matrix) → SameClauses X Y → SameClauses (merged_one keep gone C X) (merged_one keep gone C Y)
  one-alike C X Y s = go (has_variable gone.var C)
    where
      go : (b : Bool) → SameClauses (cond b (put_unless_tautology (renamed keep gone C) X) (C ∷ X)) (cond b (put_unless_tautology (renamed keep gone C) Y) (C ∷ Y))
      go true = put-alike (renamed keep gone C) X Y s
      go false = alike-cons C X Y s

  one-swap : (C D : Clause) (X : Matrix) → SameClauses (merged_one keep gone C (merged_one keep gone D X)) (merged_one keep gone D (merged_one keep gone C X))
  one-swap C D X = go (has_variable gone.var C) (has_variable gone.var D)
    where
      S : Clause
      S = renamed keep gone C

      T : Clause
      T = renamed keep gone D

      go : (a b : Bool) → SameClauses (cond a (put_unless_tautology S (cond b (put_unless_tautology T X) (D ∷ X))) (C ∷ cond b (put_unless_tautology T X) (D ∷ X))) (cond b (put_unless_tautology T (cond a (put_unless_tautology S X) (C ∷ X))) (D ∷ cond a (put_unless_tautology S X) (C ∷ X)))
      go true true = put-put S T X
      go true false = put-swap S D X
      go false true = alike-sym (put_unless_tautology T (C ∷ X)) (C ∷ put_unless_tautology T X) (put-swap T C X)
      go false false = alike-swap C D X

  merged-in : (C : Clause) (X : Matrix) → IsIn C X → SameClauses (merged keep gone X) (merged_one keep gone C (merged keep gone (one_less C X)))
  merged-in C [] m = absurd m
  merged-in C (E ∷ X) m = go (clause_eq E C) refl m (merged-in C X)
    where
      go : (b : Bool) → clause_eq E C ≡ b → (C ≡ E) ⊎ IsIn C X → (IsIn C X → SameClauses (merged keep gone X) (merged_one keep gone C (merged keep gone (one_less C X))))
          → SameClauses (merged_one keep gone E (merged keep gone X)) (merged_one keep gone C (merged keep gone (cond b X (E ∷ one_less C X))))
      go true e m f = subst (λ (D : Clause). SameClauses (merged_one keep gone E (merged keep gone X)) (merged_one keep gone D (merged keep gone X))) (clause_eq-sound E C e) (alike-refl (merged_one keep gone E (merged keep gone X)))
      go false e (inl g) f = absurd (let z : clause_eq E C ≡ true = subst (λ (y : Clause). clause_eq y C ≡ true) g (clause_eq-itself C) in true≢false (sym z ∙ e))
      go false e (inr n) f = alike-trans (merged_one keep gone E (merged keep gone X)) (merged_one keep gone E (merged_one keep gone C (merged keep gone (one_less C X)))) (merged_one keep gone C (merged_one keep gone E (merged keep gone (one_less C X))))
          (one-alike E (merged keep gone X) (merged_one keep gone C (merged keep gone (one_less C X))) (f n))
          (one-swap E C (merged keep gone (one_less C X)))

  pub merged-same : (X Y : Matrix) → SameClauses X Y → SameClauses (merged keep gone X) (merged keep gone Y)
  merged-same [] [] s = alike-refl []
  merged-same [] (D ∷ Y) s = let z : 1 ≤ copies D (D ∷ Y) = IsIn-copies D (D ∷ Y) (inl refl) in let e : 0 ≡ copies D (D ∷ Y) = s D in absurd (none (copies D (D ∷ Y)) z e)
    where
      none : (n : ℕ) → 1 ≤ n → 0 ≡ n → ⊥
      none n z e = omega arith
  merged-same (C ∷ X) Y s =
      let m : IsIn C Y = IsIn-alike (C ∷ X) Y s C (inl refl) in
      let i : SameClauses (merged keep gone X) (merged keep gone (one_less C Y)) = merged-same X (one_less C Y) (alike-uncons C X (one_less C Y) (alike-trans (C ∷ X) Y (C ∷ one_less C Y) s (one_less-alike C Y m))) in
      alike-trans (merged_one keep gone C (merged keep gone X)) (merged_one keep gone C (merged keep gone (one_less C Y))) (merged keep gone Y) (one-alike C (merged keep gone X) (merged keep gone (one_less C Y)) i)
      (alike-sym (merged keep gone Y) (merged_one keep gone C (merged keep gone (one_less C Y))) (merged-in C Y m))

  -- no clause with the variable: nothing to do
  pub merged-none : (X : Matrix) → ((D : Clause) → IsIn D X → has_variable gone.var D ≡ false) → merged keep gone X ≡ X
  merged-none [] h = refl
  merged-none (C ∷ X) h = let e : has_variable gone.var C ≡ false = h C (inl refl) in rw e (ap (λ (Y : Matrix). C ∷ Y) (merged-none X (λ D m. h D (inr m))))

  pub renamed-without : (C : Clause) → eqb keep.var gone.var ≡ false → has_variable gone.var (renamed keep gone C) ≡ false
  renamed-without C d = no_var gone.var (renamed keep gone C) (renamed-free keep gone C d)

  -- a renamed clause stays as it is
  pub merged-put : (C : Clause) (X : Matrix) → eqb keep.var gone.var ≡ false → has_variable gone.var C ≡ true → merged keep gone (put_unless_tautology (renamed keep gone C) X) ≡ merged keep gone (C ∷ X)
  merged-put C X d h = let n : has_variable gone.var (renamed keep gone C) ≡ false = renamed-without C d in rw h (go (is_tautology (renamed keep gone C)) n)
    where
      go : (b : Bool) → has_variable gone.var (renamed keep gone C) ≡ false → merged keep gone (cond b X (renamed keep gone C ∷ X)) ≡ cond b (merged keep gone X) (renamed keep gone C ∷ merged keep gone X)
      go true n = refl
      go false n = rw n refl

-- Clauses at different numbers.
pub two-apart : (N : Slots) (a b : ℕ) (A B : Clause) → slot N a ≡ Some A → slot N b ≡ Some B → b ≢ a → SameClauses (live N) (A ∷ B ∷ live (set_slot b None (set_slot a None N)))
two-apart N a b A B e f n =
    let M : Slots = set_slot a None N in
    let g : slot M b ≡ Some B = slot-set_other a b None N n ∙ f in
    alike-trans (live N) (A ∷ others a N) (A ∷ B ∷ live (set_slot b None M)) (slot-alike N a A e)
    (alike-cons A (others a N) (B ∷ live (set_slot b None M))
    (subst (λ (X : Matrix). SameClauses X (B ∷ live (set_slot b None M))) (live-gone N a)
    (subst (λ (X : Matrix). SameClauses (live M) (B ∷ X)) (sym (live-gone M b)) (slot-alike M b B g))))

-- what is left when two are out
pub IsIn-left : (N : Slots) (a b : ℕ) (D : Clause) → IsIn D (live (set_slot b None (set_slot a None N))) → (c : ℕ) × (c ≢ a) × (c ≢ b) × (slot N c ≡ Some D)
IsIn-left N a b D m =
    let r = live-number (set_slot b None (set_slot a None N)) D m in
    let p : r.0 ≢ b = λ e. gone (sym (slot-set_none b (set_slot a None N)) ∙ (ap (slot (set_slot b None (set_slot a None N))) (sym e) ∙ r.1)) in
    let s : slot (set_slot a None N) r.0 ≡ Some D = sym (slot-set_other b r.0 None (set_slot a None N) p) ∙ r.1 in
    let q : r.0 ≢ a = λ e. gone (sym (slot-set_none a N) ∙ (ap (slot (set_slot a None N)) (sym e) ∙ s)) in
    (r.0, q, p, sym (slot-set_other a r.0 None N q) ∙ s)
  where
    gone : (let o : Option Clause = None in o ≡ Some D) → ⊥
    gone e = cc

-- The clauses of the bridge.
pub over-cases : (keep gone k : Literal) → IsIn k (over_clause keep gone) → (k ≡ negation keep) ⊎ (k ≡ gone)
over-cases keep gone k m = elim (insert-IsIn (negation keep) (gone ∷ []) k m) [ inl e ↦ inl e | inr n ↦ elim n [ inl e ↦ inr e | inr z ↦ absurd z ] ]

pub over-first : (keep gone : Literal) → IsIn (negation keep) (over_clause keep gone)
over-first keep gone = IsIn-insert (negation keep) (gone ∷ []) (negation keep) (inl refl)

pub over-second : (keep gone : Literal) → IsIn gone (over_clause keep gone)
over-second keep gone = IsIn-insert (negation keep) (gone ∷ []) gone (inr (inl refl))

pub back-cases : (keep gone k : Literal) → IsIn k (back_clause keep gone) → (k ≡ keep) ⊎ (k ≡ negation gone)
back-cases keep gone k m = elim (insert-IsIn keep (negation gone ∷ []) k m) [ inl e ↦ inl e | inr n ↦ elim n [ inl e ↦ inr e | inr z ↦ absurd z ] ]

pub back-first : (keep gone : Literal) → IsIn keep (back_clause keep gone)
back-first keep gone = IsIn-insert keep (negation gone ∷ []) keep (inl refl)

pub back-second : (keep gone : Literal) → IsIn (negation gone) (back_clause keep gone)
back-second keep gone = IsIn-insert keep (negation gone ∷ []) (negation gone) (inr (inl refl))

pub bridge-apart : (keep gone : Literal) (k : Seen) (b : Bridge) → eqb keep.var gone.var ≡ false → IsBridged keep gone k b → b.back ≢ b.over
bridge-apart keep gone k b d h e =
    let same : back_clause keep gone ≡ over_clause keep gone = one_of (sym h.back ∙ (ap (slot (slots k)) e ∙ h.over)) in
    elim (over-cases keep gone keep (subst (λ (C : Clause). IsIn keep C) same (back-first keep gone))) [
      | inl f ↦ not-negation keep f
      | inr f ↦ let v : keep.var ≡ gone.var = ap (λ (x : Literal). x.var) f in let z : eqb gone.var gone.var ≡ false = subst (λ (n : ℕ). eqb n gone.var ≡ false) v d in grind arith
    ]
  where
    one_of : {C D : Clause} → Some C ≡ Some D → C ≡ D
    one_of e = cc
