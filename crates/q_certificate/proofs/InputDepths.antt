-- How deep inputs stand, one universal further.
use Rattle.std.proofs.Common.{◌≡◌, ℕ, zero, suc, ◌+◌, ◌<◌, ◌≤◌, Bool, true, false, not, cond, eqb, List, [], ◌∷◌, ◌++◌, length, get_or, set, take, arith, refl, sym, ap, ◌∙◌, subst, Option, Some, None}
use Rattle.std.proofs.lemmas.Bool.{cases_lt}
use Rattle.std.proofs.lemmas.List.{take_more, get_or-set_same, get_or-set_other}
use Rattle.q_logic.specs.declared.formulas.Quant.{Quant}
use Rattle.q_logic.specs.declared.formulas.Quant.TheVariants.{Forall}
use Rattle.q_logic.specs.Prelude.{Prefix, is_exists, is_universal, Distinct, CertificateView, trees_of}
use Rattle.q_logic.proofs.Common.{distinct-at}
use Rattle.q_aig.specs.Prelude.{Net, AreDistinct, tree_at, net_of}
use Rattle.q_aig.specs.Cones.{ReadsAt}
use Rattle.q_certificate.specs.Standing.{look_at}
use Rattle.q_certificate.specs.Tabled.{ArePlaces, AreAllowedBy}
use Rattle.q_certificate.specs.Peaks.{IsPeak, AreDepths}
use Rattle.q_certificate.specs.Testing.{IsFirstIn}
use Rattle.q_certificate.proofs.PrefixInputs.{no_bound}
use Rattle.q_certificate.proofs.VariableTables.{is_universal-last2}
use Rattle.q_certificate.proofs.InputReads.{from-input}

universal-longer : (P : Prefix) (q p v : ℕ) → q ≤ p → is_universal (take q P) v ≡ true → is_universal (take p P) v ≡ true
universal-longer [] zero zero v h u = u
universal-longer [] zero (suc p) v h u = u
universal-longer [] (suc q) zero v h u = u
universal-longer [] (suc q) (suc p) v h u = u
universal-longer (b ∷ P) zero p v h u = absurd (cc)
universal-longer (b ∷ P) (suc q) zero v h u = absurd (omega arith)
universal-longer (b ∷ P) (suc q) (suc p) v h u = go (eqb b.var v) u (universal-longer P q p v (omega arith))
  where
    go : (t : Bool) → cond t (not (is_exists b.quant)) (is_universal (take q P) v) ≡ true → (is_universal (take q P) v ≡ true → is_universal (take p P) v ≡ true) → cond t (not (is_exists b.quant)) (is_universal (take p P) v) ≡ true
    go true u i = u
    go false u i = i u

-- no input has a depth yet
pub depths-none : (P : Prefix) (names ds : List ℕ) → ((k : ℕ) → k < length names → get_or ds k 0 ≡ length P) → AreDepths P names ds
depths-none P names ds h k p lt within le = let e : get_or ds k 0 ≡ length P = h k lt in absurd (omega arith)

pub depths-put : (P : Prefix) (i : ℕ) (names ds ds2 : List ℕ) → Distinct P → i < length P → (get_or P i no_bound).quant ≡ Forall → AreDepths P names ds → ((k : ℕ) → k < length names → get_or ds2 k 0 ≡ cond (eqb (get_or names k 0) (get_or P i no_bound).var) (i + 1) (get_or ds k 0)) → AreDepths P names ds2
depths-put P i names ds ds2 d lt q h put k p kl pl le = go (eqb (get_or names k 0) (get_or P i no_bound).var) refl (put k kl)
  where
    here : is_universal (take (i + 1) P) (get_or P i no_bound).var ≡ true
    here =
        let e : take (i + 1) P ≡ take i P ++ get_or P i no_bound ∷ [] = take_more P i no_bound lt in
        let s : eqb (get_or P i no_bound).var (get_or P i no_bound).var ≡ true = grind arith in
        ap (λ (Q : Prefix). is_universal Q (get_or P i no_bound).var) e ∙
        is_universal-last2 (take i P) (get_or P i no_bound) (get_or P i no_bound).var (distinct-at P i no_bound d lt) ∙
        ap (λ (t : Bool). cond t (not (is_exists (get_or P i no_bound).quant)) (is_universal (take i P) (get_or P i no_bound).var)) s ∙
        ap (λ (x : Quant). not (is_exists x)) q

    go : (t : Bool) → eqb (get_or names k 0) (get_or P i no_bound).var ≡ t → get_or ds2 k 0 ≡ cond t (i + 1) (get_or ds k 0) → is_universal (take p P) (get_or names k 0) ≡ true
    go true s e =
        let v : (get_or P i no_bound).var ≡ get_or names k 0 = grind arith in
        let f : get_or ds2 k 0 ≡ i + 1 = e in
        let r : i + 1 ≤ p = omega arith in
        subst (λ (x : ℕ). is_universal (take p P) x ≡ true) v (universal-longer P (i + 1) p (get_or P i no_bound).var r here)
    go false s e = let f : get_or ds2 k 0 ≡ get_or ds k 0 = e in h k p kl pl (omega arith)

-- one input
pub deepen-some : (names : List ℕ) (tb : List (Option ℕ)) (ds : List ℕ) (v i n : ℕ) → AreDistinct names → ArePlaces names tb → length ds ≡ length names → look_at tb v ≡ Some i → (k : ℕ) → k < length names → get_or (set ds i n) k 0 ≡ cond (eqb (get_or names k 0) v) n (get_or ds k 0)
deepen-some names tb ds v i n d p len e k hk = go (eqb (get_or names k 0) v) refl
  where
    s : (i < length names) × (get_or names i 0 ≡ v)
    s = p.sound v i e

    go : (t : Bool) → eqb (get_or names k 0) v ≡ t → get_or (set ds i n) k 0 ≡ cond t n (get_or ds k 0)
    go true q =
        let r : i < length names = s.0 in
        let f : get_or names k 0 ≡ get_or names i 0 = (let g : get_or names k 0 ≡ v = grind arith in g ∙ sym s.1) in
        let j : i ≡ k = sym (d k i hk r f) in
        subst (λ (m : ℕ). get_or (set ds i n) m 0 ≡ n) j (get_or-set_same ds i n 0 (omega arith))
    go false q = get_or-set_other ds i k n 0 (λ j. absurd (let g : get_or names k 0 ≡ v = ap (λ (m : ℕ). get_or names m 0) j ∙ s.1 in grind arith))

pub deepen-none : (names : List ℕ) (tb : List (Option ℕ)) (ds : List ℕ) (v n : ℕ) → ArePlaces names tb → look_at tb v ≡ None → (k : ℕ) → k < length names → get_or ds k 0 ≡ cond (eqb (get_or names k 0) v) n (get_or ds k 0)
deepen-none names tb ds v n p e k hk = go (eqb (get_or names k 0) v) refl
  where
    clash : (m : Option ℕ) (k : ℕ) → m ≡ None → m ≡ Some k → ⊥
    clash m k a b = cc

    go : (t : Bool) → eqb (get_or names k 0) v ≡ t → get_or ds k 0 ≡ cond t n (get_or ds k 0)
    go true q = absurd (let g : get_or names k 0 ≡ v = grind arith in let a : look_at tb v ≡ Some k = subst (λ (m : ℕ). look_at tb m ≡ Some k) g (p.all k hk) in clash (look_at tb v) k e a)
    go false q = refl

-- what stands no deeper than a place is allowed there
pub shallow-allowed : (P : Prefix) (p : ℕ) (names ds : List ℕ) (al : List Bool) → p < length P → AreDepths P names ds → AreAllowedBy (take p P) names al → (k : ℕ) → k < length names → get_or ds k 0 ≤ p → get_or al k false ≡ true
shallow-allowed P p names ds al lt d a k kl le = a k kl ∙ d k p kl lt le

pub shallow-reads : (a : Net) (ds : List ℕ) (l m p : ℕ) → IsPeak a ds (tree_at a l) m → m ≤ p → (i : ℕ) → ReadsAt a l i → get_or ds i 0 ≤ p
shallow-reads a ds l m p k le i r = let b : get_or ds i 0 ≤ m = k.bound i r.0 r.1 in omega arith

pub shallow-in : (c : CertificateView) (x l p : ℕ) (ds : List ℕ) (al : List Bool) → trees_of c x ≡ Some (tree_at (net_of c) l) → ((i : ℕ) → ReadsAt (net_of c) l i → get_or ds i 0 ≤ p) → ((k : ℕ) → k < length c.inputs → get_or ds k 0 ≤ p → get_or al k false ≡ true) → IsFirstIn c x al None
shallow-in c x l p ds al e h s i r = let q = from-input c x l e i r in s i q.0 (h i q)
