-- What the functions that take an expansion ask for.
use Rattle.std.proofs.Common.{◌≡◌, ◌≤◌, ◌<◌, ◌+◌, ℕ, zero, suc, true, false, List, [], ◌∷◌, ◌++◌, length, drop, slice_get, refl, sym, ◌∙◌, ap, subst, inl, inr, arith, Some, None, append-nil, true≢false, add-one}
use Rattle.std.proofs.lemmas.Option.{same_Some}
use Rattle.q_logic.specs.declared.rule_bounds.Bounds.{Bounds}
use Rattle.q_logic.specs.Prelude.{Literal, Clause, Prefix, is_bound, is_existential, ProofStep, standard, greatest, IsInLimits, Slots, slot, put_first, formula_of, clauses_at, expand_universal}
use Rattle.q_logic.proofs.Common.{existential-is_bound, universal-not_existential, above-greatest}
use Rattle.q_logic.proofs.ExpandPrefix.{AllE, below}
use Rattle.q_kernel.specs.Lists.{Has}
use Rattle.q_kernel.specs.Prelude.{Seen, slots, formula_in, IsSound, Applies}
use Rattle.q_kernel.proofs.TextCosts.{proper-var}
use Rattle.q_expand.specs.Dependents.{Walked, IsWhole, tally, weigh}
use Rattle.q_expand.specs.Rooms.{weight_of, HasRoom}
use Rattle.q_expand.specs.Steps.{course, HaveCopies}
use Rattle.q_expand.specs.Tracks.{CanTake, HasTaken, IsOnTrack}
use Rattle.q_expand.proofs.ExpansionBounds.{long}
use Rattle.q_expand.proofs.Course.{vars_in, first_in, prefix_in, parted_in}
use Rattle.q_expand.proofs.StepsToCome.{later_of, on-track}
use Rattle.q_expand.proofs.AllDependents.{vars-number, vars-existential, limits-told}

-- clauses that are kept
pub clauses-kept : (M N : Slots) (cs : List ℕ) → ((c : ℕ) → Has cs c → slot M c ≡ slot N c) → clauses_at M cs ≡ clauses_at N cs
clauses-kept M N [] h = refl
clauses-kept M N (c ∷ cs) h = ap (λ o. put_first o (clauses_at M cs)) (h c (inl refl)) ∙ ap (put_first (slot N c)) (clauses-kept M N cs (λ d m. h d (inr m)))

-- a clause weighs no more than all
tally-holds : (N : Slots) (cs : List ℕ) (c : ℕ) (C : Clause) → Has cs c → slot N c ≡ Some C → length C + 1 ≤ tally long N cs
tally-holds N [] c C m e = absurd m
tally-holds N (d ∷ cs) c C (inl f) e =
    let h : weigh long (slot N d) ≡ length C + 1 = ap (λ (x : ℕ). weigh long (slot N x)) (sym f) ∙ ap (weigh long) e in
    omega arith
tally-holds N (d ∷ cs) c C (inr m) e = let i = tally-holds N cs c C m e in omega arith

pub room-for : (k : Seen) (u : ℕ) (r : Walked) (n : ℕ) → IsWhole k u r → weight_of k r ≤ n → (c : ℕ) → Has r.met c → (C : Clause) × (slot (slots k) c ≡ Some C) × (length C + 1 ≤ n)
room-for k u r n w h c m = let p = w.dependents.connected c m in (p.0, p.1, (let i = tally-holds (slots k) r.met c p.0 m p.1 in omega arith))

-- a loop that weighs
pub weighed-begun : (w : Clause → ℕ) (N : Slots) (xs : List ℕ) → 0 + tally w N (drop 0 xs) ≡ tally w N xs
weighed-begun w N [] = refl
weighed-begun w N (x ∷ xs) = omega arith

weighed-one : (w : Clause → ℕ) (N : Slots) (xs : List ℕ) (i c : ℕ) (C : Clause) → slice_get xs i ≡ Some c → slot N c ≡ Some C → tally w N (drop i xs) ≡ w C + tally w N (drop (suc i) xs)
weighed-one w N [] i c C e s = absurd (let z : None ≡ Some c = e in cc)
weighed-one w N (x ∷ xs) zero c C e s =
    let q : x ≡ c = same_Some x c e in
    ap (λ (n : ℕ). n + tally w N xs) (ap (λ (y : ℕ). weigh w (slot N y)) q ∙ ap (weigh w) s)
weighed-one w N (x ∷ xs) (suc i) c C e s = weighed-one w N xs i c C e s

pub weighed-more : (w : Clause → ℕ) (N : Slots) (xs : List ℕ) (i c : ℕ) (C : Clause) → slice_get xs i ≡ Some c → slot N c ≡ Some C → tally w N (drop i xs) ≡ w C + tally w N (drop (i + 1) xs)
weighed-more w N xs i c C e s = rw add-one (weighed-one w N xs i c C e s)

pub weighed-all : (w : Clause → ℕ) (N : Slots) (xs : List ℕ) (i n : ℕ) → length xs ≤ i → n + tally w N (drop i xs) ≡ tally w N xs → n ≡ tally w N xs
weighed-all w N xs i n h e =
    let d = Rattle.std.proofs.lemmas.List.drop_all i xs h in
    let z : tally w N (drop i xs) ≡ 0 = ap (tally w N) d in
    omega arith

vars-place : (P : Prefix) (V : List ℕ) → AllE P V → (i x : ℕ) → slice_get V i ≡ Some x → is_existential P x ≡ true
vars-place P [] a i x e = absurd (let z : None ≡ Some x = e in cc)
vars-place P (y ∷ V) a zero x e = subst (λ (z : ℕ). is_existential P z ≡ true) (same_Some y x e) a.0
vars-place P (y ∷ V) a (suc i) x e = vars-place P V a.1 i x e

module _ (B : Bounds) (k : Seen) (u : ℕ) (r : Walked) (s : IsSound k) (w : IsWhole k u r) (a : Applies B k (expand_universal u)) where
  pub u-bound : is_bound k.prefix u ≡ true
  u-bound = Rattle.q_logic.proofs.PrefixOrder.universal-is_bound k.prefix u a.fits.universal

  pub u-range : (1 ≤ u) × (u < 2147483648)
  u-range = proper-var (formula_in k) u s.proper u-bound

  module _ (v : ℕ) (xs : List ℕ) (f : ℕ) (e : v ≡ u) (o : xs ≡ vars_in k u) (g : f ≡ greatest k.prefix) where
    pub part-copies : (l : Literal) → l.negative ≡ false → l.var ≡ v → HaveCopies l xs (f + 1)
    part-copies l sign same = record {
      sign = sign;
      small = (let n = vars-number k u r s w in let q = ap length o in let h = (limits-told k u r s w a.in_limits).0 in omega arith);
      u_below = (let b = below k.prefix (greatest k.prefix + 1) u (above-greatest k.prefix) u-bound in omega arith);
      others = λ i x h.
          let q = vars-place k.prefix (vars_in k u) (vars-existential k u r s w) i x (subst (λ (ys : List ℕ). slice_get ys i ≡ Some x) o h) in
          let d = existential-is_bound k.prefix x q in
          let b = below k.prefix (greatest k.prefix + 1) x (above-greatest k.prefix) d in
          ((proper-var (formula_in k) x s.proper d).0, omega arith, (λ j. true≢false (sym (subst (λ (y : ℕ). is_existential k.prefix y ≡ true) (j ∙ (same ∙ e)) q) ∙ universal-not_existential k.prefix u a.fits.universal)));
    }

    same-course : course u (vars_in k u) (first_in k) (clauses_at (slots k) r.met) ≡ course v xs (f + 1) (clauses_at (slots k) r.met) ++ []
    same-course =
        let j : f + 1 ≡ first_in k = ap (λ (n : ℕ). n + 1) g in
        let p : course v xs (f + 1) (clauses_at (slots k) r.met) ≡ course u (vars_in k u) (first_in k) (clauses_at (slots k) r.met) = λ i. course (e i) (o i) (j i) (clauses_at (slots k) r.met) in
        sym p ∙ sym (append-nil (course v xs (f + 1) (clauses_at (slots k) r.met)))

    ready : IsInLimits standard (formula_in k) → HasRoom k r → IsOnTrack k (course v xs (f + 1) (clauses_at (slots k) r.met) ++ []) (later_of k (length r.vars)) (formula_of (prefix_in k u) (parted_in k u))
    ready l h = subst (λ (ss : List ProofStep). IsOnTrack k ss (later_of k (length r.vars)) (formula_of (prefix_in k u) (parted_in k u))) same-course (on-track B k u r s w a l h)

    pub can-part : IsInLimits standard (formula_in k) → HasRoom k r → CanTake k (course v xs (f + 1) (clauses_at (slots k) r.met))
    can-part l h = ([], later_of k (length r.vars), formula_of (prefix_in k u) (parted_in k u), ready l h)

    pub arrived : (n : Seen) → IsInLimits standard (formula_in k) → HasRoom k r → HasTaken k n (course v xs (f + 1) (clauses_at (slots k) r.met)) → IsOnTrack n [] (later_of k (length r.vars)) (formula_of (prefix_in k u) (parted_in k u))
    arrived n l h t = t.track [] (later_of k (length r.vars)) (formula_of (prefix_in k u) (parted_in k u)) (ready l h)
