use Rattle.std.proofs.Common.{◌≡◌, ◌-◌, ◌<◌, ◌≤◌, ◌∙◌, ℕ, suc, get_or, length, sym, refl, subst, arith, true≢false}
use Rattle.q_logic.proofs.LiteralNeighbours.{neighbours-tautology, neighbours-none}
use Rattle.q_logic.proofs.lits.is_tautology.Goals as goal

pub returns-then-var : goal.returns-then-var
returns-then-var c =
    let C = c.args.clause.now in
    let n = c.loop-i.i - 1 in
    let j = c.index-clause-i.result in
    let k = c.index-clause-i-in-loop-i.result in
    let s : suc n ≡ c.loop-i.i = omega arith in
    let within : suc n < length C = omega arith in
    let v : j.var ≡ k.var = sym c.var.ensures.value ∙ c.if-var.true ∙ c.var-in-loop-i.ensures.value in
    let t = neighbours-tautology C n j k c.requires within c.index-clause-i.is (subst (λ (m : ℕ). k ≡ get_or C m k) (sym s) c.index-clause-i-in-loop-i.is) v in
    ((λ x. t), (λ x. refl))

pub returns : goal.returns
returns c =
    let past : length c.args.clause.now ≤ c.loop-i.i = omega arith in
    ((λ x. absurd (true≢false (sym x))), (λ t. absurd (neighbours-none c.args.clause.now c.requires (record { other = λ n j k h e f. c.loop-i.invariant.other n j k (omega arith) e f }) t)))
