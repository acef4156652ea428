use Rattle.std.proofs.Common.{◌≡◌, ◌∙◌, ℕ, Bool, true, false, refl, sym, subst, true≢false}
use Rattle.std.specs.Prelude.{IsTrue, List, Option}
use Rattle.q_logic.specs.Prelude.{Prefix, blocks, SameBlocks}
use Rattle.q_logic.proofs.Common.{SameBlocks-refl}
use Rattle.q_judge.specs.declared.bindings.Binding.{Binding}
use Rattle.q_judge.specs.Scopes.{AreNumbered, is_same_binding, binding_at}
use Rattle.q_judge.proofs.PrefixComparison.{bindings-blocks, blocks-bindings}
use Rattle.q_judge.proofs.scope.Scope.has_blocks_of.Goals as goal

both : (r : Bool) (P P' : Prefix) (bindings bindings' : List (Option Binding)) (counts counts' : List ℕ) → AreNumbered P bindings counts → AreNumbered P' bindings' counts' → (r ≡ true → (v : ℕ) → is_same_binding (binding_at bindings v) (binding_at bindings' v) ≡ true) → (r ≡ false → (v : ℕ) × (is_same_binding (binding_at bindings v) (binding_at bindings' v) ≡ false)) → (IsTrue r → SameBlocks (blocks P) (blocks P')) × (SameBlocks (blocks P) (blocks P') → IsTrue r)
both true P P' bindings bindings' counts counts' a b y n = ((λ t. bindings-blocks P P' bindings bindings' counts counts' a b (y refl)), (λ h. refl))
both false P P' bindings bindings' counts counts' a b y n = ((λ t. absurd (true≢false (sym t))), (λ h. let z = n refl in absurd (true≢false (sym (blocks-bindings P P' bindings bindings' counts counts' a b h z.0) ∙ z.1))))

pub returns-then-are_equal : goal.returns-then-are_equal
returns-then-are_equal c =
    let own : c.in_ok-own.own.items ≡ c.args.prefix.now = sym c.deref.ensures.value ∙ c.are_equal.ensures c.if-are_equal.true in
    let same : c.args.self.now ≡ c.args.prefix.now = sym c.in_ok-own.ensures.same ∙ own in
    subst (λ (P : Prefix). (IsTrue true → SameBlocks (blocks c.args.self.now) (blocks P)) × (SameBlocks (blocks c.args.self.now) (blocks P) → IsTrue true)) same ((λ t. SameBlocks-refl (blocks c.args.self.now)), (λ h. refl))

pub returns : goal.returns
returns c =
    let a = rw c.deref-2.ensures.value at c.in_ok-mine.ensures in
    let y = c.are_same_bindings.ensures.yes in
    let n = c.are_same_bindings.ensures.no in
    rw (← c.in_ok-own.ensures.same) (both c.are_same_bindings.result c.in_ok-own.own.items c.args.prefix.now c.in_ok-mine.mine.bindings.items c.in_ok-others.others.bindings.items c.in_ok-mine.mine.counts.items c.in_ok-others.others.counts.items a c.in_ok-others.ensures y n)
