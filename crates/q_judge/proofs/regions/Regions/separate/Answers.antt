use Rattle.q_logic.proofs.Common.{universal-is_bound}
use Rattle.q_prop.specs.Slots.{filled}
use Rattle.q_judge.proofs.RegionSeparation.{reducible-apart}
use Rattle.q_judge.proofs.regions.Regions.separate.Goals as goal

pub serve-requires : goal.serve-requires
serve-requires c = rw (c.scope-scope.ensures, c.var.ensures.value) (universal-is_bound c.args.view.now.prefix c.args.lit.var c.requires.universal)

pub region_in-region-requires : goal.region_in-region-requires
region_in-region-requires c = rw (c.scope-scope.ensures, c.var-2.ensures.value) (universal-is_bound c.args.view.now.prefix c.args.lit.var c.requires.universal)

pub has_one-requires : goal.has_one-requires
has_one-requires c = rw (c.scope-scope.ensures, c.var-3.ensures.value) (universal-is_bound c.args.view.now.prefix c.args.lit.var c.requires.universal)

pub part-requires : goal.part-requires
part-requires c = rw c.negated.ensures (universal-is_bound c.args.view.now.prefix c.args.lit.var c.requires.universal)

pub returns-then-has_one : goal.returns-then-has_one
returns-then-has_one c t =
    let P = c.args.view.now.prefix in
    let here = rw c.scope-scope.ensures at (c.serve.ensures.universal c.if-not-serve.false) in
    let outer = rw (c.scope-scope.ensures, c.var.ensures.value) at (c.serve.ensures.outer c.if-not-serve.false) in
    let one = rw (c.scope-scope.ensures, c.var-3.ensures.value) at (c.has_one.ensures c.if-has_one.true) in
    let apart = rw c.negated.ensures at c.part.ensures t in
    reducible-apart P (filled c.args.view.now.slots) c.args.self.now c.args.clause.now c.args.lit c.region_in-region.result c.requires.regions here c.requires.universal outer one c.requires.held c.requires.not_negated apart
