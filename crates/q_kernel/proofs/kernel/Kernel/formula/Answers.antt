use Rattle.std.proofs.Common.{refl, sym, ◌∙◌, ap, ◌++◌, ◌∷◌, []}
use Rattle.q_logic.specs.Prelude.{Matrix, IsProper, live, clauses_at}
use Rattle.q_logic.proofs.Common.{proper-lawful}
use Rattle.q_kernel.specs.Kernels.{Seen, slots, formula_in}
use Rattle.q_kernel.proofs.KernelSizes.{counts-small}
use Rattle.q_kernel.proofs.LiveIds.{clauses-more, clauses-live}
use Rattle.q_kernel.proofs.ForLoops.{live-turn, all-came}
use Rattle.q_kernel.proofs.kernel.Kernel.formula.Goals as goal

pub overflow_sub-self-inside : goal.overflow_sub-self-inside
overflow_sub-self-inside c =
    let k = c.self.inside in
    (counts-small (live k.arena.clauses) k.count k.size k.empties k.units c.self.invariant.counted).0

pub lits-requires : goal.lits-requires
lits-requires c = live-turn _ _ c.ids-id-items.ensures.live c.into_iter-id-iterator.ensures.into_iter_gives c.loop-id.yielded_by c.in-Some.ensures.steps

pub loop-id-preserved : goal.loop-id-preserved
loop-id-preserved c =
    c.in_ok-push.ensures.ok
    ∙ (ap (λ (X : Matrix). X ++ c.lits.result.now ∷ []) c.loop-id.invariant ∙ sym (clauses-more (slots c.args.self.now) c.loop-id.yielded c.in-Some.id c.lits.result.now c.lits.ensures.clause))

pub from_parts-requires : goal.from_parts-requires
from_parts-requires c =
    let p = c.into_parts-lits in
    let all = p.ensures.clauses ∙ (c.loop-id.invariant ∙ (ap (clauses_at (slots c.args.self.now)) (all-came _ c.into_iter-id-iterator.ensures.into_iter_gives c.loop-id.yielded_by c.in-None.ensures.steps.0 ∙ c.ids-id-items.ensures.value) ∙ clauses-live (slots c.args.self.now))) in
    let bounds = c.in_ok-prefix.ensures ∙ ap (λ (k : Seen). k.prefix) c.self.view_is in
    let proper : IsProper (formula_in c.args.self.now) = rw (← c.self.view_is) c.self.invariant.proper in
    proper-lawful c.in_ok-prefix.prefix.items p.result.0.items p.result.1.items p.ensures.ends (rw (bounds, all) proper)

pub returns : goal.returns
returns c =
    let all = c.into_parts-lits.ensures.clauses ∙ (c.loop-id.invariant ∙ (ap (clauses_at (slots c.args.self.now)) (all-came _ c.into_iter-id-iterator.ensures.into_iter_gives c.loop-id.yielded_by c.in-None.ensures.steps.0 ∙ c.ids-id-items.ensures.value) ∙ clauses-live (slots c.args.self.now))) in
    let bounds = c.in_ok-prefix.ensures ∙ ap (λ (k : Seen). k.prefix) c.self.view_is in
    c.from_parts.ensures.value ∙ rw (bounds, all) refl
