use Rattle.std.proofs.Common.{◌≡◌, ◌⊎◌, ◌∙◌, ◌≤◌, ◌+◌, refl, sym, ap, subst, arith, false, Bool}
use Rattle.q_logic.specs.declared.steps.Kind.{Kind}
use Rattle.q_logic.specs.Prelude.{after, standard}
use Rattle.q_logic.proofs.Common.{alike_swapped}
use Rattle.q_refutation.specs.Refutations.{IsLost}
use Rattle.q_refutation.specs.SharedRefutations.{MayBeTaken}
use Rattle.q_refutation.proofs.FirstEmpty.{alike_lost}
use Rattle.q_run_disprove.specs.Readings.{Convicts, IsReady, counted, may_bring}
use Rattle.q_run_disprove.specs.declared.verdict.Verdict.{Verdict}
use Rattle.q_run_disprove.proofs.DisproofSteps.{unlost-now}
use Rattle.q_run_disprove.proofs.NotedSteps.{abreast-more, may-note, reach-empty}
use Rattle.q_run_disprove.proofs.TakenSteps.{own-fewer, refusal-convicts, refusal-ready, refusal-no_fault}
use Rattle.q_run_disprove.proofs.refuter.Refuter.take.Goals as goal

pub note-requires : goal.note-requires
note-requires c =
    may-note c.args.self.now.part c.args.self.now.steps c.judges-own.result c.args.self.now.checker.formula c.args.step.now c.args.self.now.notes
    c.requires.under_way.abreast c.judges-own.ensures c.in_default.ensures.may

pub one_more_if-self-requires : goal.one_more_if-self-requires
one_more_if-self-requires c = omega (arith, c.requires.under_way.fewer, c.requires.few)

pub returns-in-Err-clause-convicts : goal.returns-in-Err-clause-convicts
returns-in-Err-clause-convicts c =
    refusal-convicts c.args.self.now c.args.line c.args.step.now c.judges-own.result c.in-Err.error c.of.result (ap (λ (v : Verdict). v.outcome) c.of.ensures ∙ c.step_refusal.ensures) c.judges-own.ensures c.in-Err.ensures.refused

pub returns-in-Err-clause-ready : goal.returns-in-Err-clause-ready
returns-in-Err-clause-ready c = refusal-ready c.args.line c.in-Err.error c.of.result (ap (λ (v : Verdict). v.outcome) c.of.ensures ∙ c.step_refusal.ensures)

pub returns-in-Err-clause-fault : goal.returns-in-Err-clause-fault
returns-in-Err-clause-fault c = refusal-no_fault c.args.line c.in-Err.error c.of.result (ap (λ (v : Verdict). v.outcome) c.of.ensures ∙ c.step_refusal.ensures)

pub returns-then-has_come-clause-convicts : goal.returns-then-has_come-clause-convicts
returns-then-has_come-clause-convicts c =
    let behind = after c.args.self.now.checker.formula c.args.step.now in
    let alike = alike_swapped behind c.make_or_pass.new.checker.formula c.in_default.ensures.after in
    subst (λ (v : Verdict). Convicts v c.args.self.now (c.args.line, c.args.step.now)) (sym c.found.ensures) (record {
      says = (
        subst (λ (own : Bool). MayBeTaken own standard c.args.self.now.checker.formula c.args.step.now) c.judges-own.ensures c.in_default.ensures.may,
        alike_lost c.make_or_pass.new.checker.formula behind alike (c.has_come.ensures.yes c.if-has_come.true),
        c.one_more_if-self.ensures ∙ ap (λ (own : Bool). counted own c.args.self.now.own) c.judges-own.ensures,
      );
      noted = c.in_default-note.ensures;
    })

pub returns-then-has_come-clause-ready : goal.returns-then-has_come-clause-ready
returns-then-has_come-clause-ready c =
    subst (λ (v : Verdict). IsReady v) (sym c.found.ensures)
    (reach-empty c.args.self.now.part c.make_or_pass.new.checker.formula c.note.new.self
    (abreast-more c.args.self.now.part c.args.self.now.checker.formula c.make_or_pass.new.checker.formula c.args.line c.args.step.now c.args.self.now.notes c.note.new.self
    c.requires.under_way.abreast c.in_default-note.ensures c.in_default.ensures.after) (c.has_come.ensures.yes c.if-has_come.true))

pub returns-clause-goes : goal.returns-clause-goes
returns-clause-goes c =
    let no = subst (λ (k : Kind). (may_bring k ≡ false) ⊎ (IsLost c.make_or_pass.new.checker.formula → ⊥)) c.kind.ensures (c.has_come.ensures.no c.if-has_come.false) in
    record {
      may = subst (λ (own : Bool). MayBeTaken own standard c.args.self.now.checker.formula c.args.step.now) c.judges-own.ensures c.in_default.ensures.may;
      alike = c.in_default.ensures.after;
      under_way = record {
        limits = c.make_or_pass.ensures.limits;
        keeps = c.make_or_pass.ensures.keeps;
        unlost = unlost-now c.args.self.now.checker.formula c.make_or_pass.new.checker.formula c.args.step.now c.requires.under_way.unlost c.in_default.ensures.after no;
        fewer = subst (λ n. n ≤ c.args.self.now.steps + 1) (sym c.one_more_if-self.ensures) (own-fewer c.judges-own.result c.args.self.now.own c.args.self.now.steps c.requires.under_way.fewer);
        abreast = abreast-more c.args.self.now.part c.args.self.now.checker.formula c.make_or_pass.new.checker.formula c.args.line c.args.step.now c.args.self.now.notes c.note.new.self
            c.requires.under_way.abreast c.in_default-note.ensures c.in_default.ensures.after;
      };
      part = refl;
      steps = refl;
      own = c.one_more_if-self.ensures ∙ ap (λ (own : Bool). counted own c.args.self.now.own) c.judges-own.ensures;
      noted = c.in_default-note.ensures;
    }
