use Rattle.std.proofs.Common.{◌∙◌, ℕ, Bool, true, false, List, [], None, length, sym, subst}
use Rattle.q_logic.specs.Prelude.{Clause, others}
use Rattle.q_kernel.specs.Prelude.{slots}
use Rattle.q_logic.proofs.Common.{test-false}
use Rattle.q_blocked.specs.declared.plan.Stage.{Stage}
use Rattle.q_blocked.specs.Growths.{IsGrowing, IsAsked, IsCovered, HasReplayed}
use Rattle.q_blocked.proofs.ReachedSets.{reached-begun, covered-tautology}
use Rattle.q_blocked.proofs.SetGrowth.{growing-begun}
use Rattle.q_blocked.proofs.AskedPlaces.{asked-begun}
use Rattle.q_blocked.proofs.WatchedSets.{followed-begun}
use Rattle.q_blocked.proofs.cover.decide.Goals as goal

pub returns-then-is_tautology-clause-decided : goal.returns-then-is_tautology-clause-decided
returns-then-is_tautology-clause-decided c =
    let P = c.args.kernel.now.prefix in
    let X = others c.args.c (slots c.args.kernel.now) in
    let C : Clause = c.clause_of-clause.result.now in
    let g = c.begin.new.self in
    let e = c.in_ok-begin.ensures in (
      C,
      c.clause_of-clause.ensures.clause,
      subst (λ (S : Clause). IsCovered P X C S g.plan.stages.items g.base None) (sym e.set)
          (subst (λ (ss : List Stage). IsCovered P X C C ss g.base None) (sym e.stages)
          (subst (λ (n : ℕ). IsCovered P X C C [] n None) (sym e.base)
          (covered-tautology P X C C [] (length C) (reached-begun P X C c.clause_of-clause.ensures.within) (c.is_tautology.ensures.0 c.if-is_tautology.true)))),
    )

pub use_hint-requires-clause-growing : goal.use_hint-requires-clause-growing
use_hint-requires-clause-growing c =
    let P = c.args.kernel.now.prefix in
    let X = others c.args.c (slots c.args.kernel.now) in
    let C : Clause = c.clause_of-clause.result.now in
    let g = c.begin.new.self in
    let e = c.in_ok-begin.ensures in (
      C,
      c.clause_of-clause.ensures.clause,
      subst (λ (S : Clause). IsGrowing P X C S g.plan.stages.items g.base g.worked) (sym e.set)
          (subst (λ (ss : List Stage). IsGrowing P X C C ss g.base g.worked) (sym e.stages)
          (subst (λ (n : ℕ). IsGrowing P X C C [] n g.worked) (sym e.base)
          (subst (λ (n : ℕ). IsGrowing P X C C [] (length C) n) (sym e.worked)
          (growing-begun P X C c.clause_of-clause.ensures.within (test-false c.is_tautology.result c.is_tautology.ensures c.if-is_tautology.false))))),
      subst (λ (S : Clause). IsAsked X S g.asked.items) (sym e.set) (asked-begun X C g.asked.items e.asked),
    )

pub returns-then-branch-clause-decided : goal.returns-then-branch-clause-decided
returns-then-branch-clause-decided c =
    let h : HasReplayed c.args.kernel.now c.args.c c.begin.new.self c.use_hint.new.search.growth true = subst (λ (b : Bool). HasReplayed c.args.kernel.now c.args.c c.begin.new.self c.use_hint.new.search.growth b) c.if-branch.true c.in_ok-use_hint.ensures.replayed in
    h

pub covers-requires-clause-growing : goal.covers-requires-clause-growing
covers-requires-clause-growing c =
    let h : HasReplayed c.args.kernel.now c.args.c c.begin.new.self c.use_hint.new.search.growth false = subst (λ (b : Bool). HasReplayed c.args.kernel.now c.args.c c.begin.new.self c.use_hint.new.search.growth b) c.if-branch.false c.in_ok-use_hint.ensures.replayed in
    h.0

pub covers-requires-clause-followed : goal.covers-requires-clause-followed
covers-requires-clause-followed c =
    let h : HasReplayed c.args.kernel.now c.args.c c.begin.new.self c.use_hint.new.search.growth false = subst (λ (b : Bool). HasReplayed c.args.kernel.now c.args.c c.begin.new.self c.use_hint.new.search.growth b) c.if-branch.false c.in_ok-use_hint.ensures.replayed in
    followed-begun c.args.kernel.now c.use_hint.new.search.watches c.args.c c.use_hint.new.search.growth (h.1 ∙ c.in_ok-begin.ensures.worked)
