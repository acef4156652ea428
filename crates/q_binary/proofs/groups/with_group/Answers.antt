use Rattle.std.proofs.Common.{◌*◌, ◌<◌, ◌^◌, arith}
use Rattle.q_binary.proofs.GroupValues.{last-below, more-below}
use Rattle.q_binary.proofs.groups.with_group.Goals as goal

pub overflow_mul-result : goal.overflow_mul-result
overflow_mul-result c =
    let b = more-below c.args.count c.args.number c.args.group c.requires.few c.requires.below c.requires.small in
    let p : c.args.group * 128 ^ c.args.count < 268435456 = b.0 in
    rw (c.weight.ensures, c.from.ensures) (omega (arith, p))

pub overflow_add-result : goal.overflow_add-result
overflow_add-result c =
    let b = more-below c.args.count c.args.number c.args.group c.requires.few c.requires.below c.requires.small in
    let p : c.args.group * 128 ^ c.args.count < 268435456 = b.0 in
    let q : c.args.number < 268435456 = (last-below c.args.count c.args.number c.args.group (omega arith) c.requires.below c.requires.small).1 in
    rw (c.weight.ensures, c.from.ensures) (omega (arith, p, q))
