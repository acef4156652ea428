use Rattle.std.proofs.Common.{◌≡◌, ◌<◌, ◌++◌, ◌∷◌, [], ◌∙◌, List, ap, sym, subst, map, length, arith}
use Rattle.q_logic.specs.Prelude.{HintGroup, ProofPart}
use Rattle.q_check.specs.Numbers.{left_out}
use Rattle.q_check.proofs.PushedHints.{targets-step, same-at, unresolved, resolving, shown-step, AreShown}
use Rattle.q_check.proofs.showing.resolve.Goals as goal

pub returns-then-not-branch-clause-exact : goal.returns-then-not-branch-clause-exact
returns-then-not-branch-clause-exact c =
    let F = c.args.book.now in
    let targets = c.holding.new.found.items in
    let room : c.loop-i.i < length targets = omega (arith, c.loop-i-test.true, c.len-i-end.ensures, c.holding.new.found.ok.0) in
    let x = rw c.loop-i.invariant.same at c.in_ok-explained_with.ensures.exact in
    unresolved F.prefix F.slots c.args.sides.now.base.now c.args.sides.now.m c.args.sides.now.skip targets c.loop-i.i c.index.result.now c.explained_with.new.hints.items c.in_ok-explained_with.field-0
    c.in_ok-holding.ensures room c.index.ensures c.if-not-branch.true x

pub loop-i-preserved : goal.loop-i-preserved
loop-i-preserved c =
    let F = c.args.book.now in
    let targets = c.holding.new.found.items in
    let i = c.loop-i.i in
    let room : i < length targets = omega (arith, c.loop-i-test.true, c.len-i-end.ensures, c.holding.new.found.ok.0) in
    let t = c.index-in-loop-i.result.now in
    let hints = c.explained_with.new.hints.items in
    let q : c.index.result.now ≡ t = same-at targets i c.index.result.now t room c.index.ensures c.index-in-loop-i.ensures in
    let x = rw (c.loop-i.invariant.same, q) at c.in_ok-explained_with.ensures.exact in
    let push = rw c.deref.ensures.value at c.in_ok-push_group.ensures in
    let groups : c.push_group.new.proof.groups ≡ c.loop-i.proof.groups ++ record { target = t; hints = hints } ∷ [] = ap (λ (p : ProofPart). p.groups) push in
    record {
      same = c.in_ok-explained_with.ensures.same ∙ c.loop-i.invariant.same;
      kind = ap (λ (p : ProofPart). p.kind) push ∙ c.loop-i.invariant.kind;
      number = ap (λ (p : ProofPart). p.number) push ∙ c.loop-i.invariant.number;
      targets = ap (map (λ (g : HintGroup). g.target)) groups ∙ targets-step c.loop-i.proof.groups targets i t hints c.loop-i.invariant.targets room c.index-in-loop-i.ensures;
      each =
          subst (λ (gs : List HintGroup). AreShown F.prefix (left_out c.args.sides.now.skip F.slots) c.args.sides.now.base.now c.args.sides.now.m gs) (sym groups)
          (shown-step F.prefix (left_out c.args.sides.now.skip F.slots) c.args.sides.now.base.now c.args.sides.now.m c.loop-i.proof.groups t hints c.loop-i.invariant.each
          (resolving F.prefix F.slots c.args.sides.now.base.now c.args.sides.now.m c.args.sides.now.skip t hints c.in_ok-explained_with.field-0 c.if-not-branch.false x));
    }
