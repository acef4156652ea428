-- The three groups stay those of the prefix, when variables start to occur or stop, come or go.
use Rattle.std.proofs.Common.{◌≡◌, ◌≢◌, ◌⊎◌, ◌↔◌, ℕ, Bool, true, false, cond, eqb, not, List, [], ◌∷◌, inl, inr, arith, refl, sym, ap, ◌∙◌, subst, Some, None, true≢false}
use Rattle.std.proofs.lemmas.Bool.Decides.{nat_tests}
use Rattle.std.proofs.lemmas.Bool.{cases_eq, ne_eqb}
use Rattle.q_logic.specs.declared.formulas.Quant.{Quant}
use Rattle.q_logic.specs.declared.formulas.Quant.TheVariants.{Exists, Forall}
use Rattle.q_logic.specs.Prelude.{Prefix, is_exists, is_bound, is_existential, is_universal, Distinct, insert_after, removed_from}
use Rattle.q_logic.proofs.Common.{insert-is_bound, insert-is_existential, insert-itself, removed-is_bound, removed-is_existential, removed-unbound, existential-is_bound, universal-is_bound, insert-is_universal, removed-is_universal}
use Rattle.q_arena.specs.Prelude.{Has, AreApart, without}
use Rattle.q_arena.proofs.RingPaths.{Misses-from}
use Rattle.q_arena.proofs.RingLemmas.{Has-without, AreApart-without}
use Rattle.q_arena.proofs.Layouts.{without-gone, Has-kept}
use Rattle.q_prefix.specs.Order.{quant_of}
use Rattle.q_kernel.specs.Uses.{Groups, group_of, IsGrouped, IsStarted, IsStopped, AreUses, with_occurring}

-- Quantifiers of variables.
pub quant-bound : (P : Prefix) (v : ℕ) (q : Quant) → quant_of P v ≡ Some q → is_bound P v ≡ true
quant-bound [] v q h = grind arith
quant-bound (b ∷ P) v q h = go (eqb b.var v) h (quant-bound P v q)
  where
    go : (t : Bool) → cond t (Some b.quant) (quant_of P v) ≡ Some q → (quant_of P v ≡ Some q → is_bound P v ≡ true) → cond t true (is_bound P v) ≡ true
    go true h ih = refl
    go false h ih = ih h

pub quant-unbound : (P : Prefix) (v : ℕ) → quant_of P v ≡ None → is_bound P v ≡ false
quant-unbound [] v h = refl
quant-unbound (b ∷ P) v h = go (eqb b.var v) h (quant-unbound P v)
  where
    go : (t : Bool) → cond t (Some b.quant) (quant_of P v) ≡ None → (quant_of P v ≡ None → is_bound P v ≡ false) → cond t true (is_bound P v) ≡ false
    go true h ih = grind arith
    go false h ih = ih h

quant-same : (q r : Quant) → Some q ≡ Some r → q ≡ r
quant-same q r e = cc

pub quant-existential : (P : Prefix) (v : ℕ) (q : Quant) → quant_of P v ≡ Some q → is_existential P v ≡ is_exists q
quant-existential [] v q h = grind arith
quant-existential (b ∷ P) v q h = go (eqb b.var v) h (quant-existential P v q)
  where
    go : (t : Bool) → cond t (Some b.quant) (quant_of P v) ≡ Some q → (quant_of P v ≡ Some q → is_existential P v ≡ is_exists q) → cond t (is_exists b.quant) (is_existential P v) ≡ is_exists q
    go true h ih = ap is_exists (quant-same b.quant q h)
    go false h ih = ih h

pub quant-universal : (P : Prefix) (v : ℕ) (q : Quant) → quant_of P v ≡ Some q → is_universal P v ≡ not (is_exists q)
quant-universal [] v q h = grind arith
quant-universal (b ∷ P) v q h = go (eqb b.var v) h (quant-universal P v q)
  where
    go : (t : Bool) → cond t (Some b.quant) (quant_of P v) ≡ Some q → (quant_of P v ≡ Some q → is_universal P v ≡ not (is_exists q)) → cond t (not (is_exists b.quant)) (is_universal P v) ≡ not (is_exists q)
    go true h ih = ap (λ (r : Quant). not (is_exists r)) (quant-same b.quant q h)
    go false h ih = ih h

-- Which variables occur, after a change at one.
pub occurring-here : (v : ℕ) (b : Bool) (occ : ℕ → Bool) (w : ℕ) → w ≡ v → with_occurring v b occ w ≡ b
occurring-here v b occ w e = grind (arith, nat_tests)

pub occurring-other : (v : ℕ) (b : Bool) (occ : ℕ → Bool) (w : ℕ) → w ≢ v → with_occurring v b occ w ≡ occ w
occurring-other v b occ w n = grind (arith, nat_tests)

pub occurring-same : (v : ℕ) (b : Bool) (occ : ℕ → Bool) → occ v ≡ b → (w : ℕ) → with_occurring v b occ w ≡ occ w
occurring-same v b occ e w = elim (cases_eq w v) [
  | inl q ↦ occurring-here v b occ w q ∙ (sym e ∙ ap occ (sym q))
  | inr n ↦ occurring-other v b occ w n
]

-- The groups do not see how it is told which variables of the prefix occur.
module _ (g : Groups) (P : Prefix) (occ more : ℕ → Bool) (same : (v : ℕ) → is_bound P v ≡ true → more v ≡ occ v) (u : AreUses g P occ) where
  pub uses-same : AreUses g P more
  uses-same = record {
    idle = λ v. ((λ h. let r : (is_bound P v ≡ true) × (occ v ≡ false) = (u.idle v).0 h in (r.0, same v r.0 ∙ r.1)), (λ h. (u.idle v).1 (h.0, sym (same v h.0) ∙ h.1)));
    existentials = λ v. ((λ h. let r : (is_existential P v ≡ true) × (occ v ≡ true) = (u.existentials v).0 h in (r.0, same v (existential-is_bound P v r.0) ∙ r.1)), (λ h. (u.existentials v).1 (h.0, sym (same v (existential-is_bound P v h.0)) ∙ h.1)));
    universals = λ v. ((λ h. let r : (is_universal P v ≡ true) × (occ v ≡ true) = (u.universals v).0 h in (r.0, same v (universal-is_bound P v r.0) ∙ r.1)), (λ h. (u.universals v).1 (h.0, sym (same v (universal-is_bound P v h.0)) ∙ h.1)));
    apart_idle = u.apart_idle;
    apart_existentials = u.apart_existentials;
    apart_universals = u.apart_universals;
  }

-- Where a variable is.
module _ (g : Groups) (P : Prefix) (occ : ℕ → Bool) (u : AreUses g P occ) (v : ℕ) where
  pub group-bound : IsGrouped g v → is_bound P v ≡ true
  group-bound (inl h) = ((u.idle v).0 h).0
  group-bound (inr (inl h)) = existential-is_bound P v ((u.existentials v).0 h).0
  group-bound (inr (inr h)) = universal-is_bound P v ((u.universals v).0 h).0

  pub not-grouped : is_bound P v ≡ false → IsGrouped g v → ⊥
  not-grouped n h = true≢false (sym (group-bound h) ∙ n)

  pub quant-idle : (q : Quant) → quant_of P v ≡ Some q → occ v ≡ false → Has g.idle v
  quant-idle q e o = (u.idle v).1 (quant-bound P v q e, o)

  pub quant-group : (q : Quant) → quant_of P v ≡ Some q → occ v ≡ true → Has (group_of g q) v
  quant-group Exists e o = (u.existentials v).1 (quant-existential P v Exists e, o)
  quant-group Forall e o = (u.universals v).1 (quant-universal P v Forall e, o)

  pub one-group : (q : Quant) → quant_of P v ≡ Some q → Has g.idle v ⊎ Has (group_of g q) v
  one-group q e = go (occ v) refl
    where
      go : (o : Bool) → occ v ≡ o → Has g.idle v ⊎ Has (group_of g q) v
      go true o = inr (quant-group q e o)
      go false o = inl (quant-idle q e o)

-- Lists of numbers.
put-apart : (v : ℕ) (ys : List ℕ) → (Has ys v → ⊥) → AreApart ys → AreApart (v ∷ ys)
put-apart v ys n a = (Misses-from v ys n, a)

-- A variable starts to occur: its group gets it, and the idle ones lose it.
abbrev Holds : List ℕ → (ℕ → Bool) → (ℕ → Bool) → Bool → Type 0
Holds ys of occ b = (w : ℕ) → Has ys w ↔ ((of w ≡ true) × (occ w ≡ b))

module _ (ys : List ℕ) (of occ : ℕ → Bool) (v : ℕ) where
  put-holds : (b : Bool) → of v ≡ true → Holds ys of occ b → Holds (v ∷ ys) of (with_occurring v b occ) b
  put-holds b o h w = (into, from)
    where
      into : Has (v ∷ ys) w → (of w ≡ true) × (with_occurring v b occ w ≡ b)
      into x = elim (cases_eq w v) [
        | inl e ↦ (ap of e ∙ o, occurring-here v b occ w e)
        | inr n ↦ elim x [
          | inl e ↦ absurd (n e)
          | inr i ↦ let r : (of w ≡ true) × (occ w ≡ b) = (h w).0 i in (r.0, occurring-other v b occ w n ∙ r.1)
        ]
      ]

      from : (of w ≡ true) × (with_occurring v b occ w ≡ b) → Has (v ∷ ys) w
      from r = elim (cases_eq w v) [
        | inl e ↦ inl e
        | inr n ↦ inr ((h w).1 (r.0, sym (occurring-other v b occ w n) ∙ r.1))
      ]

  taken-holds : (b c : Bool) → b ≢ c → AreApart ys → Holds ys of occ b → Holds (without v ys) of (with_occurring v c occ) b
  taken-holds b c d a h w = (into, from)
    where
      into : Has (without v ys) w → (of w ≡ true) × (with_occurring v c occ w ≡ b)
      into x = elim (cases_eq w v) [
        | inl e ↦ absurd (without-gone v ys a (subst (λ (k : ℕ). Has (without v ys) k) e x))
        | inr n ↦ let r : (of w ≡ true) × (occ w ≡ b) = (h w).0 (Has-without v w ys x) in (r.0, occurring-other v c occ w n ∙ r.1)
      ]

      from : (of w ≡ true) × (with_occurring v c occ w ≡ b) → Has (without v ys) w
      from r = elim (cases_eq w v) [
        | inl e ↦ absurd (d (sym r.1 ∙ occurring-here v c occ w e))
        | inr n ↦ Has-kept v w ys ((h w).1 (r.0, sym (occurring-other v c occ w n) ∙ r.1)) n
      ]

  other-holds : (b c : Bool) → of v ≡ false → Holds ys of occ b → Holds ys of (with_occurring v c occ) b
  other-holds b c o h w = (into, from)
    where
      into : Has ys w → (of w ≡ true) × (with_occurring v c occ w ≡ b)
      into x = elim (cases_eq w v) [
        | inl e ↦ absurd (true≢false (sym ((h w).0 x).0 ∙ (ap of e ∙ o)))
        | inr n ↦ let r : (of w ≡ true) × (occ w ≡ b) = (h w).0 x in (r.0, occurring-other v c occ w n ∙ r.1)
      ]

      from : (of w ≡ true) × (with_occurring v c occ w ≡ b) → Has ys w
      from r = elim (cases_eq w v) [
        | inl e ↦ absurd (true≢false (sym r.0 ∙ (ap of e ∙ o)))
        | inr n ↦ (h w).1 (r.0, sym (occurring-other v c occ w n) ∙ r.1)
      ]

false≢true : false ≢ true
false≢true e = true≢false (sym e)

module _ (g n : Groups) (P : Prefix) (occ : ℕ → Bool) (v : ℕ) (u : AreUses g P occ) where
  pub uses-started : (q : Quant) → quant_of P v ≡ Some q → Has g.idle v → IsStarted g n v q → AreUses n P (with_occurring v true occ)
  uses-started Exists e h s = record {
    idle = λ w. subst (λ (ys : List ℕ). Has ys w ↔ ((is_bound P w ≡ true) × (with_occurring v true occ w ≡ false))) (sym s.idle) (taken-holds g.idle (is_bound P) occ v false true false≢true u.apart_idle u.idle w);
    existentials = λ w. subst (λ (ys : List ℕ). Has ys w ↔ ((is_existential P w ≡ true) × (with_occurring v true occ w ≡ true))) (sym s.group) (put-holds g.existentials (is_existential P) occ v true (quant-existential P v Exists e) u.existentials w);
    universals = λ w. subst (λ (ys : List ℕ). Has ys w ↔ ((is_universal P w ≡ true) × (with_occurring v true occ w ≡ true))) (sym (s.others Forall refl)) (other-holds g.universals (is_universal P) occ v true true (quant-universal P v Exists e) u.universals w);
    apart_idle = subst AreApart (sym s.idle) (AreApart-without v g.idle u.apart_idle);
    apart_existentials = subst AreApart (sym s.group) (put-apart v g.existentials (λ x. true≢false (sym ((u.existentials v).0 x).1 ∙ ((u.idle v).0 h).1)) u.apart_existentials);
    apart_universals = subst AreApart (sym (s.others Forall refl)) u.apart_universals;
  }
  uses-started Forall e h s = record {
    idle = λ w. subst (λ (ys : List ℕ). Has ys w ↔ ((is_bound P w ≡ true) × (with_occurring v true occ w ≡ false))) (sym s.idle) (taken-holds g.idle (is_bound P) occ v false true false≢true u.apart_idle u.idle w);
    existentials = λ w. subst (λ (ys : List ℕ). Has ys w ↔ ((is_existential P w ≡ true) × (with_occurring v true occ w ≡ true))) (sym (s.others Exists refl)) (other-holds g.existentials (is_existential P) occ v true true (quant-existential P v Forall e) u.existentials w);
    universals = λ w. subst (λ (ys : List ℕ). Has ys w ↔ ((is_universal P w ≡ true) × (with_occurring v true occ w ≡ true))) (sym s.group) (put-holds g.universals (is_universal P) occ v true (quant-universal P v Forall e) u.universals w);
    apart_idle = subst AreApart (sym s.idle) (AreApart-without v g.idle u.apart_idle);
    apart_existentials = subst AreApart (sym (s.others Exists refl)) u.apart_existentials;
    apart_universals = subst AreApart (sym s.group) (put-apart v g.universals (λ x. true≢false (sym ((u.universals v).0 x).1 ∙ ((u.idle v).0 h).1)) u.apart_universals);
  }

  pub uses-stopped : (q : Quant) → quant_of P v ≡ Some q → Has (group_of g q) v → IsStopped g n v q → AreUses n P (with_occurring v false occ)
  uses-stopped Exists e h s = record {
    idle = λ w. subst (λ (ys : List ℕ). Has ys w ↔ ((is_bound P w ≡ true) × (with_occurring v false occ w ≡ false))) (sym s.idle) (put-holds g.idle (is_bound P) occ v false (quant-bound P v Exists e) u.idle w);
    existentials = λ w. subst (λ (ys : List ℕ). Has ys w ↔ ((is_existential P w ≡ true) × (with_occurring v false occ w ≡ true))) (sym s.group) (taken-holds g.existentials (is_existential P) occ v true false true≢false u.apart_existentials u.existentials w);
    universals = λ w. subst (λ (ys : List ℕ). Has ys w ↔ ((is_universal P w ≡ true) × (with_occurring v false occ w ≡ true))) (sym (s.others Forall refl)) (other-holds g.universals (is_universal P) occ v true false (quant-universal P v Exists e) u.universals w);
    apart_idle = subst AreApart (sym s.idle) (put-apart v g.idle (λ x. true≢false (sym ((u.existentials v).0 h).1 ∙ ((u.idle v).0 x).1)) u.apart_idle);
    apart_existentials = subst AreApart (sym s.group) (AreApart-without v g.existentials u.apart_existentials);
    apart_universals = subst AreApart (sym (s.others Forall refl)) u.apart_universals;
  }
  uses-stopped Forall e h s = record {
    idle = λ w. subst (λ (ys : List ℕ). Has ys w ↔ ((is_bound P w ≡ true) × (with_occurring v false occ w ≡ false))) (sym s.idle) (put-holds g.idle (is_bound P) occ v false (quant-bound P v Forall e) u.idle w);
    existentials = λ w. subst (λ (ys : List ℕ). Has ys w ↔ ((is_existential P w ≡ true) × (with_occurring v false occ w ≡ true))) (sym (s.others Exists refl)) (other-holds g.existentials (is_existential P) occ v true false (quant-existential P v Forall e) u.existentials w);
    universals = λ w. subst (λ (ys : List ℕ). Has ys w ↔ ((is_universal P w ≡ true) × (with_occurring v false occ w ≡ true))) (sym s.group) (taken-holds g.universals (is_universal P) occ v true false true≢false u.apart_universals u.universals w);
    apart_idle = subst AreApart (sym s.idle) (put-apart v g.idle (λ x. true≢false (sym ((u.universals v).0 h).1 ∙ ((u.idle v).0 x).1)) u.apart_idle);
    apart_existentials = subst AreApart (sym (s.others Exists refl)) u.apart_existentials;
    apart_universals = subst AreApart (sym s.group) (AreApart-without v g.universals u.apart_universals);
  }

  -- The two calls.
  pub uses-occur : (q : Quant) → quant_of P v ≡ Some q → (Has g.idle v → IsStarted g n v q) → (Has (group_of g q) v → n ≡ g) → AreUses n P (with_occurring v true occ)
  uses-occur q e f s = go (occ v) refl
    where
      go : (o : Bool) → occ v ≡ o → AreUses n P (with_occurring v true occ)
      go false o = let h : Has g.idle v = quant-idle g P occ u v q e o in uses-started q e h (f h)
      go true o = subst (λ (k : Groups). AreUses k P (with_occurring v true occ)) (sym (s (quant-group g P occ u v q e o))) (uses-same g P occ (with_occurring v true occ) (λ w b. occurring-same v true occ o w) u)

  pub uses-vanish : (q : Quant) → quant_of P v ≡ Some q → (Has (group_of g q) v → IsStopped g n v q) → (Has g.idle v → n ≡ g) → AreUses n P (with_occurring v false occ)
  uses-vanish q e f s = go (occ v) refl
    where
      go : (o : Bool) → occ v ≡ o → AreUses n P (with_occurring v false occ)
      go true o = let h : Has (group_of g q) v = quant-group g P occ u v q e o in uses-stopped q e h (f h)
      go false o = subst (λ (k : Groups). AreUses k P (with_occurring v false occ)) (sym (s (quant-idle g P occ u v q e o))) (uses-same g P occ (with_occurring v false occ) (λ w b. occurring-same v false occ o w) u)

-- An idle variable leaves the prefix.
module _ (g n : Groups) (P : Prefix) (occ : ℕ → Bool) (v : ℕ) (u : AreUses g P occ) (d : Distinct P) (h : Has g.idle v) where
  kept-holds : (ys : List ℕ) (of off : ℕ → Bool) → ((w : ℕ) → w ≢ v → off w ≡ of w) → ((w : ℕ) → of w ≡ true → occ w ≡ true → w ≢ v) → off v ≡ false → Holds ys of occ true → Holds ys off occ true
  kept-holds ys of off s a f k w = (λ x. let r : (of w ≡ true) × (occ w ≡ true) = (k w).0 x in (s w (a w r.0 r.1) ∙ r.0, r.1), from)
    where
      from : (off w ≡ true) × (occ w ≡ true) → Has ys w
      from r = elim (cases_eq w v) [
        | inl e ↦ absurd (true≢false (sym r.0 ∙ (ap off e ∙ f)))
        | inr m ↦ (k w).1 (sym (s w m) ∙ r.0, r.1)
      ]

  occurring-not : (w : ℕ) → occ w ≡ true → w ≢ v
  occurring-not w o e = true≢false (sym o ∙ (ap occ e ∙ ((u.idle v).0 h).1))

  gone : is_bound (removed_from v P) v ≡ false
  gone = removed-unbound v P d

  not_true : (b : Bool) → (b ≡ true → ⊥) → b ≡ false
  not_true true f = absurd (f refl)
  not_true false f = refl

  left-holds : Holds (without v g.idle) (is_bound (removed_from v P)) occ false
  left-holds w = (into, from)
    where
      into : Has (without v g.idle) w → (is_bound (removed_from v P) w ≡ true) × (occ w ≡ false)
      into x = elim (cases_eq w v) [
        | inl e ↦ absurd (without-gone v g.idle u.apart_idle (subst (λ (k : ℕ). Has (without v g.idle) k) e x))
        | inr m ↦ let r : (is_bound P w ≡ true) × (occ w ≡ false) = (u.idle w).0 (Has-without v w g.idle x) in (removed-is_bound v P w (ne_eqb w v m) ∙ r.0, r.1)
      ]

      from : (is_bound (removed_from v P) w ≡ true) × (occ w ≡ false) → Has (without v g.idle) w
      from r = elim (cases_eq w v) [
        | inl e ↦ absurd (true≢false (sym r.0 ∙ (ap (is_bound (removed_from v P)) e ∙ gone)))
        | inr m ↦ Has-kept v w g.idle ((u.idle w).1 (sym (removed-is_bound v P w (ne_eqb w v m)) ∙ r.0, r.1)) m
      ]

  pub uses-removed : n.idle ≡ without v g.idle → n.existentials ≡ g.existentials → n.universals ≡ g.universals → AreUses n (removed_from v P) occ
  uses-removed i e a = record {
    idle = λ w. subst (λ (ys : List ℕ). Has ys w ↔ ((is_bound (removed_from v P) w ≡ true) × (occ w ≡ false))) (sym i) (left-holds w);
    existentials = λ w. subst (λ (ys : List ℕ). Has ys w ↔ ((is_existential (removed_from v P) w ≡ true) × (occ w ≡ true))) (sym e)
        (kept-holds g.existentials (is_existential P) (is_existential (removed_from v P)) (λ x m. removed-is_existential v P x (ne_eqb x v m)) (λ x b o. occurring-not x o)
        (not_true (is_existential (removed_from v P) v) (λ t. true≢false (sym (existential-is_bound (removed_from v P) v t) ∙ gone))) u.existentials w);
    universals = λ w. subst (λ (ys : List ℕ). Has ys w ↔ ((is_universal (removed_from v P) w ≡ true) × (occ w ≡ true))) (sym a)
        (kept-holds g.universals (is_universal P) (is_universal (removed_from v P)) (λ x m. removed-is_universal v P x (ne_eqb x v m)) (λ x b o. occurring-not x o)
        (not_true (is_universal (removed_from v P) v) (λ t. true≢false (sym (universal-is_bound (removed_from v P) v t) ∙ gone))) u.universals w);
    apart_idle = subst AreApart (sym i) (AreApart-without v g.idle u.apart_idle);
    apart_existentials = subst AreApart (sym e) u.apart_existentials;
    apart_universals = subst AreApart (sym a) u.apart_universals;
  }

-- A fresh variable comes into the prefix, and no clause holds it yet.
module _ (g n : Groups) (P : Prefix) (occ : ℕ → Bool) (v w : ℕ) (u : AreUses g P occ) (f : is_bound P v ≡ false) (b : is_existential P w ≡ true) (o : occ v ≡ false) where
  fresh_bound : is_bound (insert_after w v P) v ≡ true
  fresh_bound = existential-is_bound (insert_after w v P) v (insert-itself w v P f b)

  come-holds : Holds (v ∷ g.idle) (is_bound (insert_after w v P)) occ false
  come-holds x = (into, from)
    where
      into : Has (v ∷ g.idle) x → (is_bound (insert_after w v P) x ≡ true) × (occ x ≡ false)
      into y = elim (cases_eq x v) [
        | inl e ↦ (ap (is_bound (insert_after w v P)) e ∙ fresh_bound, ap occ e ∙ o)
        | inr m ↦ elim y [
          | inl e ↦ absurd (m e)
          | inr i ↦ let r : (is_bound P x ≡ true) × (occ x ≡ false) = (u.idle x).0 i in (insert-is_bound w v P x (ne_eqb x v m) ∙ r.0, r.1)
        ]
      ]

      from : (is_bound (insert_after w v P) x ≡ true) × (occ x ≡ false) → Has (v ∷ g.idle) x
      from r = elim (cases_eq x v) [
        | inl e ↦ inl e
        | inr m ↦ inr ((u.idle x).1 (sym (insert-is_bound w v P x (ne_eqb x v m)) ∙ r.0, r.1))
      ]

  stay-holds : (ys : List ℕ) (of on : ℕ → Bool) → ((x : ℕ) → x ≢ v → on x ≡ of x) → Holds ys of occ true → Holds ys on occ true
  stay-holds ys of on s k x = ((λ y. let r : (of x ≡ true) × (occ x ≡ true) = (k x).0 y in (s x (not-fresh x r.1) ∙ r.0, r.1)), (λ r. (k x).1 (sym (s x (not-fresh x r.1)) ∙ r.0, r.1)))
    where
      not-fresh : (x : ℕ) → occ x ≡ true → x ≢ v
      not-fresh x t e = true≢false (sym t ∙ (ap occ e ∙ o))

  pub uses-freshened : n.idle ≡ v ∷ g.idle → n.existentials ≡ g.existentials → n.universals ≡ g.universals → AreUses n (insert_after w v P) occ
  uses-freshened i e a = record {
    idle = λ x. subst (λ (ys : List ℕ). Has ys x ↔ ((is_bound (insert_after w v P) x ≡ true) × (occ x ≡ false))) (sym i) (come-holds x);
    existentials = λ x. subst (λ (ys : List ℕ). Has ys x ↔ ((is_existential (insert_after w v P) x ≡ true) × (occ x ≡ true))) (sym e)
        (stay-holds g.existentials (is_existential P) (is_existential (insert_after w v P)) (λ y m. insert-is_existential w v P y (ne_eqb y v m)) u.existentials x);
    universals = λ x. subst (λ (ys : List ℕ). Has ys x ↔ ((is_universal (insert_after w v P) x ≡ true) × (occ x ≡ true))) (sym a)
        (stay-holds g.universals (is_universal P) (is_universal (insert_after w v P)) (λ y m. insert-is_universal w v P y (ne_eqb y v m)) u.universals x);
    apart_idle = subst AreApart (sym i) (put-apart v g.idle (λ x. true≢false (sym ((u.idle v).0 x).0 ∙ f)) u.apart_idle);
    apart_existentials = subst AreApart (sym e) u.apart_existentials;
    apart_universals = subst AreApart (sym a) u.apart_universals;
  }
