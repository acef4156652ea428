use Rattle.std.proofs.Common.{◌≡◌, ◌∙◌, ◌∷◌, [], Some, refl, sym, ap, subst, arith}
use Rattle.q_logic.specs.Prelude.{Literal, negation, Matrix, OccursIn, without_literal, each_without, live}
use Rattle.q_kernel.specs.Prelude.{slots}
use Rattle.q_rule.specs.Becoming.{HasBecome}
use Rattle.q_rule.proofs.LoopChanges.{each_without-gone, without-swap}
use Rattle.q_rule.proofs.TargetChanges.{change-clear, become-through, become-same}
use Rattle.q_reduce.proofs.unit.take_unit.Goals as goal

one : (k l : Literal) → Some (k ∷ []) ≡ Some (l ∷ []) → k ≡ l
one k l e = cc

pub shrink_all-requires-clause-unit : goal.shrink_all-requires-clause-unit
shrink_all-requires-clause-unit c = (c.args.c, (c.in-Some.ensures.some c.in-Some.l refl).0)

pub shrink_all-requires-clause-bytes : goal.shrink_all-requires-clause-bytes
shrink_all-requires-clause-bytes c = change-clear 32 (negation c.in-Some.l) c.args.kernel.now (omega arith) c.requires.bytes

pub delete_all-requires-clause-pure : goal.delete_all-requires-clause-pure
delete_all-requires-clause-pure c o = each_without-gone (negation c.in-Some.l) (live (slots c.args.kernel.now)) (subst (λ (X : Matrix). OccursIn (negation c.in-Some.l) X) c.shrink_all.ensures.matrix o)

pub returns-in-Some : goal.returns-in-Some
returns-in-Some c l e =
    let X = live (slots c.args.kernel.now) in
    let k = c.in-Some.l in
    let same : k ≡ l = one k l (sym (c.in-Some.ensures.some k refl).0 ∙ e) in
    let swap = ap (λ (Y : Matrix). without_literal k Y) c.shrink_all.ensures.matrix ∙ without-swap k X in
    let all : HasBecome c.args.kernel.now c.delete_all.new.kernel (each_without (negation k) (without_literal k X)) =
    become-same c.args.kernel.now c.delete_all.new.kernel (without_literal k (live (slots c.shrink_all.new.kernel))) (each_without (negation k) (without_literal k X)) swap
    (become-through c.args.kernel.now c.shrink_all.new.kernel c.delete_all.new.kernel (each_without (negation k) X) (without_literal k (live (slots c.shrink_all.new.kernel))) c.shrink_all.ensures c.delete_all.ensures) in
    subst (λ (j : Literal). HasBecome c.args.kernel.now c.delete_all.new.kernel (each_without (negation j) (without_literal j X))) same all
