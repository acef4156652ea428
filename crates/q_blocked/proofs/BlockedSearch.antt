-- What a search for targets has seen.
use Rattle.std.proofs.Common.{◌≡◌, ◌≤◌, ℕ, true, false, Option, Some, None, Result, Ok, Err, IfOk, refl, sym, ◌∙◌, ap, List, subst, true≢false}
use Rattle.std.specs.Option.{is_some}
use Rattle.std.proofs.lemmas.Option.{same_Some}
use Rattle.q_logic.specs.declared.rule_bounds.Bounds.{Bounds}
use Rattle.q_logic.specs.Prelude.{Literal, negation, Clause, IsIn, is_existential, slot, others, place, Fits}
use Rattle.q_logic.specs.Blocking.{AllClash}
use Rattle.q_logic.specs.Targets as theory
use Rattle.q_logic.proofs.Common.{universal-not_existential}
use Rattle.q_kernel.specs.Prelude.{Seen, slots, Applies, IsLive}
use Rattle.q_blocked.specs.declared.target.Target.{Target}
use Rattle.q_blocked.specs.declared.target.Target.TheVariants.{Blocked, BlockedForall, Cover}
use Rattle.q_blocked.specs.Targets.{target_of}
use Rattle.q_rule.proofs.RuleSearch.{found-none, found-more}
use Rattle.q_rule.specs.Searching.{IsFound, IsAt}
use Rattle.q_blocked.specs.Searches.{IsPivotOf, IsOn, IsWithin, FindsWithin}

-- no target of the clause applies
pub record IsTried (k : Seen) (c : ℕ) : Type 0 where
  pub none : IsFound target_of k (IsAt target_of c) None

-- a target applies to a clause that is there
pub live-place : (k : Seen) (t : Target) (B : Bounds) → Fits B k.prefix (slots k) (target_of t) → IsLive (slots k) (place (target_of t))
live-place k (Blocked c l) B f = record { there = (f.0, f.1) }
live-place k (BlockedForall c l) B f = record { there = (f.0, f.1) }
live-place k (Cover c) B f = record { there = (f.0, f.1) }

pub tried-all : (k : Seen) (from : ℕ) → ((c : ℕ) → (from ≤ c) × IsLive (slots k) c → IsTried k c) → IsFound target_of k (λ t. from ≤ place (target_of t)) None
tried-all k from h = found-none target_of k (λ t. from ≤ place (target_of t)) (λ t m B f. let r = h (place (target_of t)) (m, live-place k t B f) in r.none.none refl t refl B f)

-- The literals of a clause one after the other.
abbrev pub AreNone : Seen → ℕ → List Literal → Type 0
AreNone k c ls = (l : Literal) → IsIn l ls → (t : Target) → IsOn c l t → (B : Bounds) → Fits B k.prefix (slots k) (target_of t) → ⊥

pub found-pivot : (k : Seen) (c : ℕ) (C : Clause) → slot (slots k) c ≡ Some C → AreNone k c C → IsFound target_of k (IsPivotOf c) None
found-pivot k c C there h = found-none target_of k (IsPivotOf c) none
  where
    in_it : (d : ℕ) (D : Clause) (l : Literal) → d ≡ c → slot (slots k) d ≡ Some D → IsIn l D → IsIn l C
    in_it d D l q e m = subst (λ (E : Clause). IsIn l E) (same_Some D C (sym e ∙ (ap (slot (slots k)) q ∙ there))) m

    none : (t : Target) → IsPivotOf c t → (B : Bounds) → Fits B k.prefix (slots k) (target_of t) → ⊥
    none (Blocked d l) q B f = h l (in_it d f.0 l q f.1 f.2) (Blocked d l) (q, refl) B f
    none (BlockedForall d l) q B f = h l (in_it d f.0 l q f.1 f.2) (BlockedForall d l) (q, refl) B f
    none (Cover d) q B f = q

pub found-on : (k : Seen) (c : ℕ) (l : Literal) (o : Option Target) → is_some o ≡ true → IsFound target_of k (IsOn c l) o → IsFound target_of k (IsPivotOf c) o
found-on k c l o s a = found-more target_of k (IsOn c l) (IsPivotOf c) o s clause a
  where
    clause : (t : Target) → IsOn c l t → IsPivotOf c t
    clause (Blocked d j) q = q.0
    clause (BlockedForall d j) q = q.0
    clause (Cover d) q = q

-- A literal on which nothing fits.
none-of : (k : Seen) (c : ℕ) (l : Literal) → ((B : Bounds) → Fits B k.prefix (slots k) (theory.blocked c l) → ⊥) → ((B : Bounds) → Fits B k.prefix (slots k) (theory.blocked_forall c l) → ⊥) → IsFound target_of k (IsOn c l) None
none-of k c l a b = found-none target_of k (IsOn c l) none
  where
    none : (t : Target) → IsOn c l t → (B : Bounds) → Fits B k.prefix (slots k) (target_of t) → ⊥
    none (Blocked d j) q B f = a B (subst (λ (i : Literal). Fits B k.prefix (slots k) (theory.blocked c i)) q.1 (subst (λ (x : ℕ). Fits B k.prefix (slots k) (theory.blocked x j)) q.0 f))
    none (BlockedForall d j) q B f = b B (subst (λ (i : Literal). Fits B k.prefix (slots k) (theory.blocked_forall c i)) q.1 (subst (λ (x : ℕ). Fits B k.prefix (slots k) (theory.blocked_forall x j)) q.0 f))
    none (Cover d) q B f = q

pub none-existential : (k : Seen) (c : ℕ) (l : Literal) (C : Clause) → slot (slots k) c ≡ Some C → is_existential k.prefix l.var ≡ true → (AllClash k.prefix (others c (slots k)) l C → ⊥) → IsFound target_of k (IsOn c l) None
none-existential k c l C there e n = none-of k c l
    (λ B f. n (subst (λ (E : Clause). AllClash k.prefix (others c (slots k)) l E) (same_Some f.0 C (sym f.1 ∙ there)) f.4))
    (λ B f. true≢false (sym e ∙ universal-not_existential k.prefix l.var f.3))

pub none-universal : (k : Seen) (c : ℕ) (l : Literal) (C : Clause) → slot (slots k) c ≡ Some C → is_existential k.prefix l.var ≡ false → ((IsIn (negation l) C → ⊥) → AllClash k.prefix (others c (slots k)) l C → ⊥) → IsFound target_of k (IsOn c l) None
none-universal k c l C there e n = none-of k c l
    (λ B f. true≢false (sym f.3 ∙ e))
    (λ B f. let q = same_Some f.0 C (sym f.1 ∙ there) in n (λ m. f.4 (subst (λ (E : Clause). IsIn (negation l) E) (sym q) m)) (subst (λ (E : Clause). AllClash k.prefix (others c (slots k)) l E) q f.5))

-- At a clause there are its literals, and the clause as a whole.
pub found-of : (k : Seen) (c : ℕ) (o : Option Target) → is_some o ≡ true → IsFound target_of k (IsPivotOf c) o → IsFound target_of k (IsAt target_of c) o
found-of k c o s a = found-more target_of k (IsPivotOf c) (IsAt target_of c) o s clause a
  where
    clause : (t : Target) → IsPivotOf c t → IsAt target_of c t
    clause (Blocked d j) q = q
    clause (BlockedForall d j) q = q
    clause (Cover d) q = absurd q

pub found-neither : (k : Seen) (c : ℕ) → IsFound target_of k (IsPivotOf c) None → ((B : Bounds) → Fits B k.prefix (slots k) (theory.cover c) → ⊥) → IsFound target_of k (IsAt target_of c) None
found-neither k c a n = found-none target_of k (IsAt target_of c) none
  where
    none : (t : Target) → IsAt target_of c t → (B : Bounds) → Fits B k.prefix (slots k) (target_of t) → ⊥
    none (Blocked d j) q B f = a.none refl (Blocked d j) q B f
    none (BlockedForall d j) q B f = a.none refl (BlockedForall d j) q B f
    none (Cover d) q B f = n B (subst (λ (x : ℕ). Fits B k.prefix (slots k) (theory.cover x)) q f)

-- What fits between two places, as what applies there.
pub finds-within : {E : Type 0} (B : Bounds) (k : Seen) (from upto : ℕ) (answer : Result (Option Target) E) → ((t : Target) → ((C : Bounds) → Fits C k.prefix (slots k) (target_of t)) → Applies B k (target_of t)) → IfOk answer (IsFound target_of k (IsWithin from upto)) → IfOk answer (FindsWithin B k from upto)
finds-within B k from upto (Ok o) a f = record {
  some = λ t e. let r = f.some t e in (r.0, a t r.1);
  none = λ e t p b. f.none e t p B b.fits;
}
finds-within B k from upto (Err e) a f = f
