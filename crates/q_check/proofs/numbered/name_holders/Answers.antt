use Rattle.std.proofs.Common.{List, ℕ, get_or, take, subst, sym}
use Rattle.std.proofs.lemmas.List.{take_more}
use Rattle.q_check.specs.Numbers.{HaveNamed}
use Rattle.q_check.proofs.SlotNumbers.{have-push, take-whole}
use Rattle.q_check.proofs.numbered.name_holders.Goals as goal

pub loop-i-preserved : goal.loop-i-preserved
loop-i-preserved c =
    let slots = c.args.slots.now in
    let i = c.loop-i.i in
    let h = have-push c.args.numbers.now (take i slots) (get_or slots i 0) c.args.skip c.loop-i.names.items c.push_name.new.names.items c.loop-i.invariant c.in_ok-push_name.ensures in
    subst (λ (xs : List ℕ). HaveNamed c.args.numbers.now xs c.args.skip c.push_name.new.names.items) (sym (take_more slots i 0 c.loop-i-test.true)) h

pub returns : goal.returns
returns c =
    subst (λ (xs : List ℕ). HaveNamed c.args.numbers.now xs c.args.skip c.loop-i.names.items) (take-whole c.args.slots.now c.loop-i.i c.loop-i-test.false) c.loop-i.invariant
