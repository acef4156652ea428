use Rattle.std.proofs.Common.{◌≤◌, ◌+◌, Bool, cond, length, arith, sym, ap, subst, ◌∙◌, add-zero}
use Rattle.std.proofs.lemmas.Option.{same_Some}
use Rattle.q_logic.specs.Prelude.{size_of, live}
use Rattle.q_kernel.specs.Prelude.{slots}
use Rattle.q_logic.proofs.Common.{test-false}
use Rattle.q_expand.specs.Dependents.{Walked, AreDependents, IsConnected, IsMet}
use Rattle.q_expand.proofs.ConnectedWalks.{dependents-more, size-room, others-room, clause-room}
use Rattle.q_expand.proofs.dependents.Dependents.meet.Goals as goal

pub overflow_add-self-then-not-holds_one : goal.overflow_add-self-then-not-holds_one
overflow_add-self-then-not-holds_one c =
    let r = size-room c.args.kernel.now c.args.u.var c.args.self.now c.requires.dependents in
    let s : c.self.inside.size ≤ size_of (live (slots c.args.kernel.now)) = subst (λ (w : Walked). w.size ≤ size_of (live (slots c.args.kernel.now))) (sym c.self.view_is) r in
    let z = clause-room c.args.kernel.now c.args.c c.clause_of-clause.result.now c.clause_of-clause.ensures.clause in
    let m = c.sound.ensures.size in
    omega (arith, s, z, m)

pub overflow_add-self-then-not-holds_one-2 : goal.overflow_add-self-then-not-holds_one-2
overflow_add-self-then-not-holds_one-2 c =
    let r = others-room c.args.kernel.now c.args.u.var c.args.self.now c.requires.dependents in
    let s : c.self.inside.others ≤ size_of (live (slots c.args.kernel.now)) = subst (λ (w : Walked). w.others ≤ size_of (live (slots c.args.kernel.now))) (sym c.self.view_is) r in
    let m = c.sound.ensures.size in
    omega (arith, s, m)

pub returns-then-not-holds_one-clause-met : goal.returns-then-not-holds_one-clause-met
returns-then-not-holds_one-clause-met c t =
    let k = c.args.kernel.now in
    let u = c.args.u.var in
    let C = c.clause_of-clause.result.now in
    let e = same_Some c.requires.live.0 C (sym c.requires.live.1 ∙ c.clause_of-clause.ensures.clause) in
    let lacks = sym (c.if-not-holds_one.ensures) in
    subst (λ (o : Walked). IsMet k u c.args.c o (record { vars = c.push_inner.new.vars; met = c.push.new.self; size = c.self.inside.size + (length C + 1); others = c.self.inside.others + 1 })) c.self.view_is
    (dependents-more k u c.args.c C (record { vars = c.self.inside.vars; met = c.self.inside.met; size = c.self.inside.size; others = c.self.inside.others })
    (record { vars = c.push_inner.new.vars; met = c.push.new.self; size = c.self.inside.size + (length C + 1); others = c.self.inside.others + 1 })
    c.clause_of-clause.ensures.clause (subst (IsConnected k.prefix (live (slots k)) u) e c.requires.live.2) (c.holds_both.ensures.no c.if-holds_both.false)
    (test-false c.has.result c.has.ensures c.if-has.false) c.in_ok-push_inner.ensures c.in_ok-push.ensures.ok
    (ap (λ (b : Bool). c.self.inside.size + cond b 0 (length C + 1)) (sym lacks)) (ap (λ (b : Bool). c.self.inside.others + cond b 0 1) (sym lacks))
    (subst (AreDependents k u) (sym c.self.view_is) c.requires.dependents))

pub returns-else-not-holds_one-clause-met : goal.returns-else-not-holds_one-clause-met
returns-else-not-holds_one-clause-met c t =
    let k = c.args.kernel.now in
    let u = c.args.u.var in
    let C = c.clause_of-clause.result.now in
    let e = same_Some c.requires.live.0 C (sym c.requires.live.1 ∙ c.clause_of-clause.ensures.clause) in
    let holds = sym c.if-not-holds_one.ensures in
    subst (λ (o : Walked). IsMet k u c.args.c o (record { vars = c.push_inner.new.vars; met = c.push.new.self; size = c.self.inside.size; others = c.self.inside.others })) c.self.view_is
    (dependents-more k u c.args.c C (record { vars = c.self.inside.vars; met = c.self.inside.met; size = c.self.inside.size; others = c.self.inside.others })
    (record { vars = c.push_inner.new.vars; met = c.push.new.self; size = c.self.inside.size; others = c.self.inside.others })
    c.clause_of-clause.ensures.clause (subst (IsConnected k.prefix (live (slots k)) u) e c.requires.live.2) (c.holds_both.ensures.no c.if-holds_both.false)
    (test-false c.has.result c.has.ensures c.if-has.false) c.in_ok-push_inner.ensures c.in_ok-push.ensures.ok
    (sym (add-zero c.self.inside.size) ∙ ap (λ (b : Bool). c.self.inside.size + cond b 0 (length C + 1)) (sym holds)) (sym (add-zero c.self.inside.others) ∙ ap (λ (b : Bool). c.self.inside.others + cond b 0 1) (sym holds))
    (subst (AreDependents k u) (sym c.self.view_is) c.requires.dependents))
