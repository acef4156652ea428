use Rattle.std.proofs.Common.{◌≡◌, ◌∙◌, true, sym}
use Rattle.q_logic.specs.Prelude.{is_universal, outer_or_same}
use Rattle.q_logic.proofs.Common.{universal-is_bound}
use Rattle.q_judge.specs.Regions.{RegionMap}
use Rattle.q_judge.proofs.RegionSeparation.{regions-nested}
use Rattle.q_judge.proofs.regions.Regions.pass_on.Goals as goal

pub serve-requires : goal.serve-requires
serve-requires c = universal-is_bound c.args.scope.now c.args.w (sym c.is_universal.ensures ∙ c.if-is_universal.true)

pub outer_or_same-requires-clause-first : goal.outer_or_same-requires-clause-first
outer_or_same-requires-clause-first c = universal-is_bound c.args.scope.now c.args.w (sym c.is_universal.ensures ∙ c.if-is_universal.true)

pub outer_or_same-requires-clause-second : goal.outer_or_same-requires-clause-second
outer_or_same-requires-clause-second c = universal-is_bound c.args.scope.now c.self.inside.var (rw (← c.self.view_is) at c.serve.ensures.universal c.if-serve.true)

pub returns-then-outer_or_same : goal.returns-then-outer_or_same
returns-then-outer_or_same c =
    let P = c.args.scope.now in
    let i = c.self.inside in
    let R : RegionMap = record { var = i.var; labels = i.labels } in
    let t : is_universal P i.var ≡ true = rw (← c.self.view_is) at c.serve.ensures.universal c.if-serve.true in
    let o : outer_or_same P i.var c.args.w ≡ true = rw (← c.self.view_is) at c.serve.ensures.outer c.if-serve.true in
    rw (← c.self.view_is) (λ X all. regions-nested P X R c.args.w t o all)
