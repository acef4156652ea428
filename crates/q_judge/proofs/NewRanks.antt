-- The variables of a run get another number, one after the other.
use Rattle.std.proofs.Common.{◌≡◌, ◌≢◌, ℕ, suc, Bool, true, false, cond, eqb, List, [], ◌∷◌, Option, None, Some, length, refl, sym, ◌∙◌, ap, subst, inl, inr, arith, true≢false}
use Rattle.std.proofs.lemmas.Bool.Decides.{nat_tests}
use Rattle.std.proofs.lemmas.Bool.{cases_eq, ne_eqb}
use Rattle.q_judge.specs.declared.bindings.Binding.{Binding}
use Rattle.q_judge.specs.Scopes.{is_among, is_there, with_rank, renumbered, beside, IsRun}

pub run-same : (f g : ℕ → Option Binding) (forward : Bool) (o : Option ℕ) (S : List ℕ) → ((v : ℕ) → is_among S v ≡ true → g v ≡ f v) → IsRun f forward o S → IsRun g forward o S
run-same f g forward o [] e r = tt
run-same f g forward o (x ∷ S) e r = (r.0, r.1, r.2, e x (here x) ∙ r.3, run-same f g forward (beside forward r.2) S (λ v h. e v (later v h)) r.4)
  where
    here : (x : ℕ) → is_among (x ∷ S) x ≡ true
    here x = grind (arith, nat_tests)

    later : (v : ℕ) → is_among S v ≡ true → is_among (x ∷ S) v ≡ true
    later v h = go (eqb x v)
      where
        go : (t : Bool) → cond t true (is_among S v) ≡ true
        go true = refl
        go false = h

-- what is to be done after one turn
pub record IsAhead (f : ℕ → Option Binding) (forward : Bool) (to : ℕ) (at' : Option ℕ) (left : ℕ) (goal : ℕ → Option Binding) : Type 0 where
  pub vars : List ℕ
  pub run : IsRun f forward at' vars
  pub size : length vars ≡ left
  pub reaches : (v : ℕ) → cond (is_among vars v) (with_rank to (f v)) (f v) ≡ goal v

pub ahead-turn : (f g : ℕ → Option Binding) (forward : Bool) (to : ℕ) (at' next : Option ℕ) (left : ℕ) (goal : ℕ → Option Binding) → IsAhead f forward to at' (suc left) goal → ((v : ℕ) → g v ≡ cond (is_there at' v) (with_rank to (f v)) (f v)) → ((v : ℕ) (s : Binding) → at' ≡ Some v → f v ≡ Some s → next ≡ beside forward s) → IsAhead g forward to next left goal
ahead-turn f g forward to at' next left goal a e n = go a.vars a.run a.size a.reaches
  where
    go : (S : List ℕ) → IsRun f forward at' S → length S ≡ suc left → ((v : ℕ) → cond (is_among S v) (with_rank to (f v)) (f v) ≡ goal v) → IsAhead g forward to next left goal
    go [] r z h = absurd (omega (arith, z))
    go (x ∷ S) r z h = record {
      vars = S;
      run = subst (λ (o : Option ℕ). IsRun g forward o S) (sym (n x r.2 r.0 r.3)) (run-same f g forward (beside forward r.2) S same r.4);
      size = omega (arith, z);
      reaches = λ v. elim (cases_eq x v) [
        | inl q ↦
            let p : is_among S v ≡ false = subst (λ (w : ℕ). is_among S w ≡ false) q r.1 in
            let t : is_there at' v ≡ true = ap (λ (o : Option ℕ). is_there o v) r.0 ∙ true-at x v q in
            ap (λ (b : Bool). cond b (with_rank to (g v)) (g v)) p ∙ e v ∙ ap (λ (b : Bool). cond b (with_rank to (f v)) (f v)) (t ∙ sym (among-at x v q)) ∙ h v
        | inr q ↦
            let t : is_there at' v ≡ false = ap (λ (o : Option ℕ). is_there o v) r.0 ∙ ne_eqb x v q in
            let k : g v ≡ f v = e v ∙ ap (λ (b : Bool). cond b (with_rank to (f v)) (f v)) t in
            (λ j. cond (is_among S v) (with_rank to (k j)) (k j)) ∙ ap (λ (b : Bool). cond b (with_rank to (f v)) (f v)) (sym (among-off x v q)) ∙ h v
      ];
    }
      where
        true-at : (x v : ℕ) → x ≡ v → eqb x v ≡ true
        true-at x v q = grind (arith, nat_tests)

        among-at : (x v : ℕ) → x ≡ v → is_among (x ∷ S) v ≡ true
        among-at x v q = ap (λ (b : Bool). cond b true (is_among S v)) (true-at x v q)

        among-off : (x v : ℕ) → x ≢ v → is_among (x ∷ S) v ≡ is_among S v
        among-off x v q = ap (λ (b : Bool). cond b true (is_among S v)) (ne_eqb x v q)

        same : (v : ℕ) → is_among S v ≡ true → g v ≡ f v
        same v i = e v ∙ ap (λ (b : Bool). cond b (with_rank to (f v)) (f v)) (ap (λ (o : Option ℕ). is_there o v) r.0 ∙ ne_eqb x v (λ q. true≢false (sym (subst (λ (w : ℕ). is_among S w ≡ true) (sym q) i) ∙ r.1)))

pub ahead-done : (f : ℕ → Option Binding) (forward : Bool) (to : ℕ) (at' : Option ℕ) (goal : ℕ → Option Binding) → IsAhead f forward to at' 0 goal → (v : ℕ) → f v ≡ goal v
ahead-done f forward to at' goal a v = go a.vars a.size (a.reaches v)
  where
    go : (S : List ℕ) → length S ≡ 0 → cond (is_among S v) (with_rank to (f v)) (f v) ≡ goal v → f v ≡ goal v
    go [] z h = h
    go (x ∷ S) z h = absurd (omega (arith, z))

-- the variables of one number are those of the run
pub renumbered-run : (f g : ℕ → Option Binding) (from to : ℕ) (S : List ℕ) → ((v : ℕ) (s : Binding) → f v ≡ Some s → is_among S v ≡ eqb s.rank from) → ((v : ℕ) → g v ≡ cond (is_among S v) (with_rank to (f v)) (f v)) → (v : ℕ) → g v ≡ renumbered from to (f v)
renumbered-run f g from to S h e v = e v ∙ go (f v) (h v)
  where
    go : (x : Option Binding) → ((s : Binding) → x ≡ Some s → is_among S v ≡ eqb s.rank from) → cond (is_among S v) (with_rank to x) x ≡ renumbered from to x
    go None h = turn (is_among S v) (eqb 0 from)
      where
        turn : (p q : Bool) → cond p None None ≡ cond q (with_rank to None) None
        turn true true = refl
        turn true false = refl
        turn false true = refl
        turn false false = refl
    go (Some s) h = ap (λ (b : Bool). cond b (with_rank to (Some s)) (Some s)) (h s refl)
