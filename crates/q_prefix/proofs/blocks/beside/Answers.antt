use Rattle.std.proofs.Common.{◌∙◌, ap, Bool, sym}
use Rattle.q_arena.specs.Prelude.{list_at, following}
use Rattle.q_prefix.specs.Blocks.{ahead}
use Rattle.q_prefix.proofs.ListDirections.{preceding-reverse}
use Rattle.q_prefix.proofs.blocks.beside.Goals as goal

pub returns-else-forward : goal.returns-else-forward
returns-else-forward c =
    let vars = list_at c.args.order.now 0 in
    c.prev.ensures 0 c.requires ∙ preceding-reverse vars c.args.var (c.distinct.ensures.apart 0) c.requires
    ∙ ap (λ (forward : Bool). following c.args.var (ahead forward vars)) (sym c.if-forward.false)
