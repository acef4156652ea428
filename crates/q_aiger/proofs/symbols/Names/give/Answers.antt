use Rattle.std.proofs.Common.{◌≡◌, ◌∙◌, sym, subst, true, List, ℕ}
use Rattle.q_aiger.specs.Symbols.{is_free_name}
use Rattle.q_aiger.proofs.LongerNames.{names-given, on-ok}
use Rattle.q_aiger.proofs.symbols.Names.give.Goals as goal

pub invariant_of-self-2 : goal.invariant_of-self-2
invariant_of-self-2 c =
    let free : is_free_name c.args.self.now c.args.place c.args.name ≡ true = sym c.is_free.ensures ∙ c.if-not-is_free.false in
    names-given c.self.inside.used c.insert.new.self c.self.inside.names.items c.args.place c.args.name c.self.invariant
    (subst (λ (x : List ℕ). is_free_name x c.args.place c.args.name ≡ true) (sym c.self.view_is) free)
    (on-ok c.insert.result (sym c.is_err.ensures.value ∙ c.if-is_err.false) c.insert.ensures.updates).0
