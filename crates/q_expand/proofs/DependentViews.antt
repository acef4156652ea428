-- Dependents seen again, and how much they may ask for.
use Rattle.std.proofs.Common.{◌≡◌, ◌≤◌, ◌<◌, ◌+◌, ℕ, List, [], ◌∷◌, length, refl, sym, ◌∙◌, ap, subst, inl, inr, arith, Some}
use Rattle.std.proofs.Common.{Result, Ok, Err, OnOk}
use Rattle.q_logic.specs.declared.rule_bounds.Bounds.{Bounds}
use Rattle.q_logic.specs.Prelude.{Clause, Matrix, Prefix, size_of, standard, greatest, IsInLimits, Slots, slot, live, Spread, expand_universal}
use Rattle.q_logic.proofs.Common.{one, weight-one}
use Rattle.q_kernel.specs.Lists.{Has}
use Rattle.q_kernel.specs.Prelude.{Seen, SameView, slots, formula_in, IsSound, Applies}
use Rattle.q_kernel.proofs.SlotLists.{live-same, size-parts}
use Rattle.q_expand.specs.Dependents.{Walked, IsWhole, AreDependents, IsConnected, IsSpread, tally, weigh}
use Rattle.q_expand.specs.Rooms.{weight_of}
use Rattle.q_expand.proofs.ExpansionBounds.{long}
use Rattle.q_expand.proofs.Budgets.{weight-size}
use Rattle.q_expand.proofs.ClauseWeights.{tally-most}
use Rattle.q_expand.proofs.AllDependents.{vars-number}

pub tally-view : (w : Clause → ℕ) (M N : Slots) (cs : List ℕ) → ((c : ℕ) → slot M c ≡ slot N c) → tally w M cs ≡ tally w N cs
tally-view w M N [] h = refl
tally-view w M N (c ∷ cs) h = ap (λ o. weigh w o + tally w M cs) (h c) ∙ ap (λ (n : ℕ). weigh w (slot N c) + n) (tally-view w M N cs h)

module _ (old new : Seen) (v : SameView old new) (u : ℕ) (r : Walked) where
  same-live : live (slots old) ≡ live (slots new)
  same-live = live-same (slots old) (slots new) (λ c. sym (v.clauses c))

  back : (Q : Prefix → Matrix → Type 0) → Q new.prefix (live (slots new)) → Q old.prefix (live (slots old))
  back Q h = subst (λ P. Q P (live (slots old))) v.prefix (subst (λ X. Q new.prefix X) (sym same-live) h)

  forth : (Q : Prefix → Matrix → Type 0) → Q old.prefix (live (slots old)) → Q new.prefix (live (slots new))
  forth Q h = subst (λ P. Q P (live (slots new))) (sym v.prefix) (subst (λ X. Q old.prefix X) same-live h)

  pub whole-view : IsWhole old u r → IsWhole new u r
  whole-view w = record {
    dependents = record {
      linked = λ j m. let l = w.dependents.linked j m in (l.0, forth (λ P X. Spread P X u j.var) l.1);
      lone = w.dependents.lone;
      apart = w.dependents.apart;
      connected = λ c m. let p = w.dependents.connected c m in (p.0, v.clauses c ∙ p.1, forth (λ P X. IsConnected P X u p.0) p.2);
      clean = λ c C m e. w.dependents.clean c C m (sym (v.clauses c) ∙ e);
      spread = λ c C m e. subst (λ P. IsSpread P u r.vars C) (sym v.prefix) (w.dependents.spread c C m (sym (v.clauses c) ∙ e));
      size = w.dependents.size ∙ tally-view (Rattle.q_expand.specs.Dependents.size_beside u) (slots old) (slots new) r.met (λ c. sym (v.clauses c));
      others = w.dependents.others ∙ tally-view (Rattle.q_expand.specs.Dependents.one_beside u) (slots old) (slots new) r.met (λ c. sym (v.clauses c));
    };
    all_met = λ c C e h. w.all_met c C (sym (v.clauses c) ∙ e) (back (λ P X. IsConnected P X u C) h);
    all_vars = λ x h. w.all_vars x (back (λ P X. Spread P X u x) h);
  }

  pub weight-view : weight_of new r ≡ weight_of old r
  weight-view = tally-view long (slots new) (slots old) r.met v.clauses

  pub size-view : size_of (live (slots new)) ≡ size_of (live (slots old))
  size-view = ap size_of (sym same-live)

met-few : (N : Slots) (cs : List ℕ) → ((c : ℕ) → Has cs c → (C : Clause) × (slot N c ≡ Some C)) → length cs ≤ tally one N cs
met-few N [] h = omega arith
met-few N (c ∷ cs) h =
    let i = met-few N cs (λ d m. h d (inr m)) in
    let p = h c (inl refl) in
    let e : weigh one (slot N c) ≡ 1 = ap (weigh one) p.1 in
    omega arith

pub record AreFew (k : Seen) (r : Walked) : Type 0 where
  pub vars : length r.vars ≤ 10000
  pub met : length r.met ≤ 33554432
  pub clauses : length (live (slots k)) ≤ 33554432
  pub weight : weight_of k r ≤ 167772160
  pub size : size_of (live (slots k)) ≤ 167772160
  pub bound : length k.prefix < 4294967296
  pub greatest : greatest k.prefix ≤ 16777215

pub are-few : (B : Bounds) (k : Seen) (u : ℕ) (r : Walked) → IsSound k → IsWhole k u r → Applies B k (expand_universal u) → IsInLimits standard (formula_in k) → AreFew k r
are-few B k u r s w a l =
    let n = vars-number k u r s w in
    let f = a.fits.few in
    let b = B.small_expand in
    let p = met-few (slots k) r.met (λ c h. let q = w.dependents.connected c h in (q.0, q.1)) in
    let t = tally-most one r.met (slots k) w.dependents.apart in
    let o = weight-one (live (slots k)) in
    let y = tally-most long r.met (slots k) w.dependents.apart in
    let z = weight-size (live (slots k)) in
    let g = size-parts (live (slots k)) in
    let c = l.clauses in
    let d = l.lits in
    record { vars = omega arith; met = omega arith; clauses = l.clauses; weight = omega arith; size = omega arith; bound = s.vars; greatest = l.vars }

-- what five answers tell together, where there is a value
pub all-ok : {T E P Q R S U Z : Type 0} (r : Result T E) → OnOk r P → OnOk r Q → OnOk r R → OnOk r S → OnOk r U → (P → Q → R → S → U → Z) → OnOk r Z
all-ok (Ok x) p q r s u f = f p q r s u
all-ok (Err x) p q r s u f = p
