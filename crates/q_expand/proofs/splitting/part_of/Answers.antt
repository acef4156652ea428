use Rattle.std.proofs.Common.{◌≡◌, ◌∙◌, true, false, sym, subst}
use Rattle.q_logic.specs.Prelude.{Literal, negation, has, positive}
use Rattle.q_expand.proofs.ClauseParts.{has-told, positive-of, stays-held, stays-apart, turns-over, splits-over}
use Rattle.q_expand.proofs.splitting.part_of.Goals as goal

pub returns-then-holds : goal.returns-then-holds
returns-then-holds c t =
    let e = positive-of c.args.u c.requires in
    let h : has (positive c.args.u.var) c.args.clause.now ≡ true = subst (λ (l : Literal). has l c.args.clause.now ≡ true) e (has-told c.args.u c.args.clause.now c.holds.result c.holds.ensures.0 c.holds.ensures.1 ∙ c.if-holds.true) in
    stays-held c.args.u.var c.args.order.now c.args.clause.now h t

pub returns-then-not-shares : goal.returns-then-not-shares
returns-then-not-shares c t =
    let e = positive-of c.args.u c.requires in
    let h : has (positive c.args.u.var) c.args.clause.now ≡ false = subst (λ (l : Literal). has l c.args.clause.now ≡ false) e (has-told c.args.u c.args.clause.now c.holds.result c.holds.ensures.0 c.holds.ensures.1 ∙ c.if-holds.false) in
    stays-apart c.args.u.var c.args.order.now c.args.clause.now h (sym c.shares.ensures ∙ c.if-not-shares.true) t

pub returns-then-holds-2 : goal.returns-then-holds-2
returns-then-holds-2 c t =
    let e = positive-of c.args.u c.requires in
    let h : has (positive c.args.u.var) c.args.clause.now ≡ false = subst (λ (l : Literal). has l c.args.clause.now ≡ false) e (has-told c.args.u c.args.clause.now c.holds.result c.holds.ensures.0 c.holds.ensures.1 ∙ c.if-holds.false) in
    let m = rw c.negated.ensures at c.holds-2.ensures in
    let n : has (negation (positive c.args.u.var)) c.args.clause.now ≡ true = subst (λ (l : Literal). has (negation l) c.args.clause.now ≡ true) e (has-told (negation c.args.u) c.args.clause.now c.holds-2.result m.0 m.1 ∙ c.if-holds-2.true) in
    turns-over c.args.u.var c.args.order.now c.args.clause.now h (sym c.shares.ensures ∙ c.if-not-shares.false) n t

pub returns : goal.returns
returns c t =
    let e = positive-of c.args.u c.requires in
    let h : has (positive c.args.u.var) c.args.clause.now ≡ false = subst (λ (l : Literal). has l c.args.clause.now ≡ false) e (has-told c.args.u c.args.clause.now c.holds.result c.holds.ensures.0 c.holds.ensures.1 ∙ c.if-holds.false) in
    let m = rw c.negated.ensures at c.holds-2.ensures in
    let n : has (negation (positive c.args.u.var)) c.args.clause.now ≡ false = subst (λ (l : Literal). has (negation l) c.args.clause.now ≡ false) e (has-told (negation c.args.u) c.args.clause.now c.holds-2.result m.0 m.1 ∙ c.if-holds-2.false) in
    splits-over c.args.u.var c.args.order.now c.args.clause.now h (sym c.shares.ensures ∙ c.if-not-shares.false) n t
