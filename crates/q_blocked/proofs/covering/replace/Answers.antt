use Rattle.q_blocked.proofs.ClauseSwap.{may-come, may-leave, replaced}
use Rattle.q_blocked.proofs.covering.replace.Goals as goal

pub add_implied-id-requires : goal.add_implied-id-requires
add_implied-id-requires c = may-come c.args.kernel.now c.args.c c.args.larger.now c.args.on c.sound.ensures c.requires

pub delete-requires : goal.delete-requires
delete-requires c = may-leave c.args.kernel.now c.add_implied-id.new.self c.args.c c.add_implied-id.result c.args.larger.now c.args.on c.sound.ensures c.requires c.add_implied-id.ensures

pub returns : goal.returns
returns c = replaced c.args.kernel.now c.add_implied-id.new.self c.args.c c.add_implied-id.result c.args.larger.now c.args.on c.sound.ensures c.requires c.add_implied-id.ensures c.delete.new.kernel c.delete.ensures
