-- Walks over what is connected to a universal variable.
use Rattle.std.proofs.Common.{◌≡◌, ◌≢◌, ◌⊎◌, ◌≤◌, ◌+◌, ℕ, Bool, true, false, not, cond, List, [], ◌∷◌, ◌++◌, length, Some, refl, sym, ◌∙◌, ap, subst, inl, inr, arith, append-nil, append_assoc, true≢false}
use Rattle.std.proofs.lemmas.Bool.Decides.{nat_tests}
use Rattle.q_logic.specs.Prelude.{Literal, negation, Clause, Matrix, Prefix, IsIn, has_variable, positive, slot, live, inner_existential, Spread, size_of}
use Rattle.q_logic.proofs.Common.{IsIn-append_left, has_variable-IsIn, weight, live-slot}
use Rattle.q_logic.proofs.MeasureFalls.{var_is}
use Rattle.q_rule.proofs.IdClauses.{slot-one}
use Rattle.q_kernel.specs.Lists.{Has}
use Rattle.q_kernel.specs.Prelude.{Seen, slots}
use Rattle.q_kernel.proofs.LiteralLists.{Has-last}
use Rattle.q_kernel.proofs.SlotLists.{size-gone}
use Rattle.q_expand.specs.Dependents.{Walked, IsConnected, tally, size_beside, one_beside, IsSpread, AreDependents, IsLarger, nothing_met, IsWidened, IsMet}
use Rattle.q_expand.proofs.ClauseMarks.{Has-left, Has-end, apart-end}
use Rattle.q_expand.proofs.ClauseWeights.{tally-end, tally-most}

has_variable-none : (u : ℕ) (D : Clause) → ((k : Literal) → IsIn k D → k.var ≡ u → ⊥) → has_variable u D ≡ false
has_variable-none u [] h = refl
has_variable-none u (k ∷ D) h = let i : has_variable u D ≡ false = has_variable-none u D (λ j m. h j (inr m)) in let n : k.var ≢ u = h k (inl refl) in grind (arith, nat_tests)

-- u or not u is in the clause, or neither
pub variable-held : (u : ℕ) (C : Clause) → (IsIn (positive u) C → ⊥) → (IsIn (negation (positive u)) C → ⊥) → has_variable u C ≡ false
variable-held u C p n = has_variable-none u C (λ k m e. elim (var_is k u e) [ inl f ↦ p (subst (λ (x : Literal). IsIn x C) f m) | inr f ↦ n (subst (λ (x : Literal). IsIn x C) f m) ])

pub larger-itself : (r : Walked) → IsLarger r r
larger-itself r = record { added = []; vars = sym (append-nil r.vars); met = λ c h. h }

pub larger-through : (a b c : Walked) → IsLarger a b → IsLarger b c → IsLarger a c
larger-through a b c f g = record {
  added = f.added ++ g.added;
  vars = g.vars ∙ ap (λ (xs : List Literal). xs ++ g.added) f.vars ∙ append_assoc a.vars f.added g.added;
  met = λ d h. g.met d (f.met d h);
}

pub larger-vars : (a b : Walked) → IsLarger a b → (k : Literal) → IsIn k a.vars → IsIn k b.vars
larger-vars a b f k m = rw f.vars (IsIn-append_left k a.vars f.added m)

pub dependents-begun : (k : Seen) (u : ℕ) → AreDependents k u nothing_met
dependents-begun k u = record {
  linked = λ j m. absurd m;
  lone = tt;
  apart = tt;
  connected = λ c h. absurd h;
  clean = λ c C h. absurd h;
  spread = λ c C h. absurd h;
  size = refl;
  others = refl;
}

module _ (k : Seen) (u : ℕ) where
  P : Prefix
  P = k.prefix

  X : Matrix
  X = live (slots k)

  -- the variable of a connected clause's literal is connected
  spread-on : (C : Clause) → IsIn C (live (slots k)) → IsConnected k.prefix (live (slots k)) u C → (j : Literal) → IsIn j C → inner_existential k.prefix u j.var ≡ true → Spread k.prefix (live (slots k)) u j.var
  spread-on C m (i, h, inl e) j n t = Spread.starts C i j m h e n t
  spread-on C m (i, h, inr s) j n t = Spread.spreads C i j m h refl n t s

  -- slot-one more clause
  pub dependents-more : (c : ℕ) (C : Clause) (old new : Walked) → slot (slots k) c ≡ Some C → IsConnected k.prefix (live (slots k)) u C → (IsIn (positive u) C → IsIn (negation (positive u)) C → ⊥) → (Has old.met c → ⊥)
      → IsWidened k.prefix u C old.vars new.vars → new.met ≡ old.met ++ c ∷ [] → new.size ≡ old.size + size_beside u C → new.others ≡ old.others + one_beside u C
      → AreDependents k u old → IsMet k u c old new
  dependents-more c C old new e con clean fresh w met size others r = record {
    dependents = record {
      linked = λ j m. elim (w.from j m) [
        | inl i ↦ r.linked j i
        | inr i ↦ subst (λ (x : Literal). (x.negative ≡ false) × Spread k.prefix (live (slots k)) u x.var) (sym i.3) (refl, spread-on C (live-slot (slots k) c C e) con i.0 i.1 i.2)
      ];
      lone = w.lone r.lone;
      apart = rw met (apart-end old.met c r.apart fresh);
      connected = λ d h. elim (there d h) [ inl g ↦ r.connected d g | inr f ↦ subst (λ (x : ℕ). (D : Clause) × (slot (slots k) x ≡ Some D) × IsConnected k.prefix (live (slots k)) u D) (sym f) (C, e, con) ];
      clean = λ d D h s. elim (there d h) [ inl g ↦ r.clean d D g s | inr f ↦ subst (λ (x : Clause). IsIn (positive u) x → IsIn (negation (positive u)) x → ⊥) (same d D f s) clean ];
      spread = λ d D h s. elim (there d h) [ inl g ↦ (λ j m t. grown (positive j.var) (r.spread d D g s j m t)) | inr f ↦ subst (λ (x : Clause). IsSpread k.prefix u new.vars x) (same d D f s) w.all_there ];
      size = size ∙ (ap (λ (n : ℕ). n + size_beside u C) r.size ∙ (sym (tally-end (size_beside u) (slots k) old.met c C e) ∙ ap (tally (size_beside u) (slots k)) (sym met)));
      others = others ∙ (ap (λ (n : ℕ). n + one_beside u C) r.others ∙ (sym (tally-end (one_beside u) (slots k) old.met c C e) ∙ ap (tally (one_beside u) (slots k)) (sym met)));
    };
    larger = record { added = w.added; vars = w.is; met = λ d h. rw met (Has-left old.met (c ∷ []) d h) };
    there = rw met (Has-end old.met c);
  }
    where
      there : (d : ℕ) → Has new.met d → Has old.met d ⊎ (d ≡ c)
      there d h = Has-last c d old.met (subst (λ (xs : List ℕ). Has xs d) met h)

      same : (d : ℕ) (D : Clause) → d ≡ c → slot (slots k) d ≡ Some D → C ≡ D
      same d D f s = slot-one (slots k) c C D e (subst (λ (x : ℕ). slot (slots k) x ≡ Some D) f s)

      grown : (j : Literal) → IsIn j old.vars → IsIn j new.vars
      grown j m = rw w.is (IsIn-append_left j old.vars w.added m)

-- Numbers stay small.
size-weight : (u : ℕ) (X : Matrix) → weight (size_beside u) X ≤ size_of X
size-weight u [] = omega arith
size-weight u (C ∷ X) = go (has_variable u C) (size-weight u X)
  where
    go : (b : Bool) → weight (size_beside u) X ≤ size_of X → cond b 0 (length C + 1) + weight (size_beside u) X ≤ length C + 1 + size_of X
    go true i = omega arith
    go false i = omega arith

one-weight : (u : ℕ) (X : Matrix) → weight (one_beside u) X ≤ size_of X
one-weight u [] = omega arith
one-weight u (C ∷ X) = go (has_variable u C) (one-weight u X)
  where
    go : (b : Bool) → weight (one_beside u) X ≤ size_of X → cond b 0 1 + weight (one_beside u) X ≤ length C + 1 + size_of X
    go true i = omega arith
    go false i = omega arith

pub size-room : (k : Seen) (u : ℕ) (r : Walked) → AreDependents k u r → r.size ≤ size_of (live (slots k))
size-room k u r h = let a = tally-most (size_beside u) r.met (slots k) h.apart in let b = size-weight u (live (slots k)) in let e = h.size in omega arith

pub others-room : (k : Seen) (u : ℕ) (r : Walked) → AreDependents k u r → r.others ≤ size_of (live (slots k))
others-room k u r h = let a = tally-most (one_beside u) r.met (slots k) h.apart in let b = one-weight u (live (slots k)) in let e = h.others in omega arith

pub clause-room : (k : Seen) (c : ℕ) (C : Clause) → slot (slots k) c ≡ Some C → length C + 1 ≤ size_of (live (slots k))
clause-room k c C e = let z = size-gone (slots k) c C e in omega arith

pub held-first : (l : Literal) (C : Clause) → IsIn l C → true ≡ has_variable l.var C
held-first l C m = sym (has_variable-IsIn C l m)

-- the test of the negation decides where the literal is not there
pub held-second : (l : Literal) (C : Clause) (b : Bool) → l.negative ≡ false → (IsIn l C → ⊥) → (b ≡ true → IsIn (negation l) C) → (IsIn (negation l) C → b ≡ true) → b ≡ has_variable l.var C
held-second l C true s n f g = sym (has_variable-IsIn C (negation l) (f refl))
held-second l C false s n f g = sym (variable-held l.var C (λ m. n (subst (λ (x : Bool). IsIn (record { var = l.var; negative = x }) C) (sym s) m)) (λ m. true≢false (sym (g (subst (λ (x : Bool). IsIn (record { var = l.var; negative = not x }) C) (sym s) m)))))
