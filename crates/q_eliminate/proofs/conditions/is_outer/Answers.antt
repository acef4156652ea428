use Rattle.std.proofs.Common.{◌≡◌, ◌∙◌, Bool, ◌<◌, ◌≤◌, ◌+◌, ℕ, zero, suc, [], ◌∷◌, get_or, drop, length, true, sym, ap, subst, refl, inl, inr, arith, add-one, true≢false}
use Rattle.q_logic.specs.Prelude.{Literal, Clause, Prefix, is_bound, outer_or_same}
use Rattle.q_logic.proofs.Common.{item-in}
use Rattle.q_eliminate.specs.Plans.{IsOuter}
use Rattle.q_eliminate.proofs.conditions.is_outer.Goals as goal

pub loop-k-init : goal.loop-k-init
loop-k-init c a = a

-- one literal more
more : (P : Prefix) (x : ℕ) (C : Clause) (i : ℕ) (k : Literal) → i < length C → k ≡ get_or C i k → outer_or_same P k.var x ≡ true → IsOuter P x (drop (i + 1) C) → IsOuter P x (drop i C)
more P x C i k h e o a = go C i h e (subst (λ (n : ℕ). IsOuter P x (drop n C)) (add-one i) a)
  where
    go : (C : Clause) (i : ℕ) → i < length C → k ≡ get_or C i k → IsOuter P x (drop (suc i) C) → IsOuter P x (drop i C)
    go [] i h e a j m = absurd (omega arith)
    go (y ∷ C) zero h e a j (inl f) = subst (λ (z : Literal). outer_or_same P z.var x ≡ true) (e ∙ sym f) o
    go (y ∷ C) zero h e a j (inr m) = a j m
    go (y ∷ C) (suc i) h e a j m = go C i (omega arith) e a j m

done : (P : Prefix) (x : ℕ) (C : Clause) (i : ℕ) → length C ≤ i → IsOuter P x (drop i C)
done P x [] zero h k m = absurd m
done P x [] (suc i) h k m = absurd m
done P x (y ∷ C) zero h k m = absurd (omega arith)
done P x (y ∷ C) (suc i) h k m = done P x C i (omega arith) k m

told : (b : Bool) (P Q : Prefix) (v w x : ℕ) → b ≡ outer_or_same Q w x → Q ≡ P → w ≡ v → b ≡ outer_or_same P v x
told b P Q v w x h e f = h ∙ (ap (λ (R : Prefix). outer_or_same R w x) e ∙ ap (λ (u : ℕ). outer_or_same P u x) f)

pub outer_or_same-requires : goal.outer_or_same-requires
outer_or_same-requires c = record {
  a = subst (λ (R : Prefix). is_bound R c.var.result ≡ true) (sym c.prefix.ensures)
      (subst (λ (u : ℕ). is_bound c.args.kernel.now.prefix u ≡ true) (sym c.var.ensures.value)
      (c.requires.within c.k-item.result (item-in c.args.clause.now c.loop-k.k-index c.k-item.result c.loop-k-test.true c.k-item.is)));
  b = subst (λ (R : Prefix). is_bound R c.args.x ≡ true) (sym c.prefix.ensures) c.requires.bound;
}

pub returns-then-not-outer_or_same : goal.returns-then-not-outer_or_same
returns-then-not-outer_or_same c = (
  (λ t. absurd (true≢false (sym t))),
  (λ a. absurd (true≢false (sym (a c.k-item.result (item-in c.args.clause.now c.loop-k.k-index c.k-item.result c.loop-k-test.true c.k-item.is))
      ∙ (sym (told c.outer_or_same.result c.args.kernel.now.prefix c.prefix.result.now.bounds c.k-item.result.var c.var.result c.args.x c.outer_or_same.ensures c.prefix.ensures c.var.ensures.value)
      ∙ c.if-not-outer_or_same.true)))),
)

pub loop-k-preserved : goal.loop-k-preserved
loop-k-preserved c a = c.loop-k.invariant (more c.args.kernel.now.prefix c.args.x c.args.clause.now c.loop-k.k-index c.k-item.result c.loop-k-test.true c.k-item.is
    (sym (told c.outer_or_same.result c.args.kernel.now.prefix c.prefix.result.now.bounds c.k-item.result.var c.var.result c.args.x c.outer_or_same.ensures c.prefix.ensures c.var.ensures.value) ∙ c.if-not-outer_or_same.false) a)

pub returns : goal.returns
returns c = ((λ t. c.loop-k.invariant (done c.args.kernel.now.prefix c.args.x c.args.clause.now c.loop-k.k-index c.loop-k-test.false)), (λ a. refl))
