use Rattle.std.proofs.Common.{◌≡◌, ◌∙◌, ◌++◌, ◌∷◌, [], ap, sym, subst, cond, eqb, length, List, ℕ, Some, None, arith}
use Rattle.q_aiger.specs.Items.{Items, place_of}
use Rattle.q_aiger.proofs.Indexes.{place-more}
use Rattle.q_aiger.proofs.items.Items.define.Goals as goal

pub invariant_of-self-2 : goal.invariant_of-self-2
invariant_of-self-2 c = λ v.
    let vars : List ℕ = c.self.inside.vars.items in
    let new : place_of c.self.inside.vars.items c.args.var ≡ None = subst (λ (x : Items). place_of x.defined c.args.var ≡ None) (sym c.self.view_is) c.requires in
    let place : c.len-place.result ≡ length c.self.inside.vars.items = omega arith in
    let items : c.push_reserved.new.self.items ≡ c.self.inside.vars.items ++ c.args.var ∷ [] = c.push_reserved.ensures.items ∙ ap (λ (xs : List ℕ). xs ++ c.args.var ∷ []) c.in_ok-reserve.ensures.items in
    c.in_ok-insert.ensures.updates.0 v
    ∙ (ap (λ o. cond (eqb c.args.var v) (Some c.len-place.result) o) (c.self.invariant v)
    ∙ (ap (λ n. cond (eqb c.args.var v) (Some n) (place_of c.self.inside.vars.items v)) place
    ∙ (sym (place-more c.self.inside.vars.items c.args.var v new) ∙ ap (λ xs. place_of xs v) (sym items))))
