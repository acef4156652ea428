use Rattle.std.proofs.Common.{◌≡◌, inl, inr, length, ap, sym, ◌∙◌, subst}
use Rattle.std.proofs.lemmas.Bool.{cases_lt}
use Rattle.q_logic.specs.Prelude.{Prefix}
use Rattle.q_logic.specs.Decisions.{verdict}
use Rattle.q_logic.proofs.WonSearch.{closed-end}
use Rattle.q_search.proofs.PathValues.{rest-none}
use Rattle.q_solve.proofs.NodeCounts.{counts-told}
use Rattle.q_solve.specs.Places.{Spot, unset, values}
use Rattle.q_solve.proofs.node.Node.look.Goals as goal

pub returns-clause-value : goal.returns-clause-value
returns-clause-value c =
    let i : Spot = record { formula = c.self.inside.formula.now; path = c.self.inside.path.items } in
    subst (λ (s : Spot). c.verdict.result ≡ verdict s.formula.matrix (unset s) (values s)) c.self.view_is
    (c.verdict.ensures ∙ sym (counts-told (unset i) (values i) i.formula.matrix c.self.inside.counts c.self.invariant.counted))

pub returns-clause-open : goal.returns-clause-open
returns-clause-open c o =
    let i : Spot = record { formula = c.self.inside.formula.now; path = c.self.inside.path.items } in
    let s = c.args.self.now in
    let e : c.verdict.result ≡ verdict s.formula.matrix (unset s) (values s) =
    subst (λ (t : Spot). c.verdict.result ≡ verdict t.formula.matrix (unset t) (values t)) c.self.view_is
    (c.verdict.ensures ∙ sym (counts-told (unset i) (values i) i.formula.matrix c.self.inside.counts c.self.invariant.counted)) in
    elim (cases_lt (length s.path) (length s.formula.prefix)) [
      | inl h ↦ h
      | inr h ↦ absurd (closed-end (values s) s.formula.matrix (sym (ap (λ (P : Prefix). verdict s.formula.matrix P (values s)) (rest-none s.formula.prefix s.path h)) ∙ sym e ∙ o))
    ]
