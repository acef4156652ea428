use Rattle.std.proofs.Common.{sym, ◌∙◌, ap, inl, inr, true≢false}
use Rattle.q_kernel.specs.Uses.{Groups}
use Rattle.q_kernel.proofs.GroupChanges.{one-group, quant-unbound, uses-vanish}
use Rattle.q_kernel.proofs.variables.stop.Goals as goal

pub vanish-requires : goal.vanish-requires
vanish-requires c = one-group c.args.uses.now c.args.prefix.now.bounds c.requires.grouped.0 c.requires.grouped.1 c.args.var c.in-Some.quant (sym c.in-Some.ensures)

pub returns-in-Some-clause-occurring : goal.returns-in-Some-clause-occurring
returns-in-Some-clause-occurring c = λ occ u. uses-vanish c.args.uses.now c.vanish.new.self c.args.prefix.now.bounds occ c.args.var u c.in-Some.quant (sym c.in-Some.ensures) c.vanish.ensures.stopped c.vanish.ensures.same

pub returns-in-Some-clause-room : goal.returns-in-Some-clause-room
returns-in-Some-clause-room c = elim (one-group c.args.uses.now c.args.prefix.now.bounds c.requires.grouped.0 c.requires.grouped.1 c.args.var c.in-Some.quant (sym c.in-Some.ensures)) [
  | inl h ↦ ap (λ (g : Groups). g.room) (c.vanish.ensures.same h)
  | inr h ↦ (c.vanish.ensures.stopped h).room
]

pub returns-in-None-clause-occurring : goal.returns-in-None-clause-occurring
returns-in-None-clause-occurring c = absurd (true≢false (sym c.requires.bound ∙ quant-unbound c.args.prefix.now.bounds c.args.var (sym c.in-None.ensures)))
