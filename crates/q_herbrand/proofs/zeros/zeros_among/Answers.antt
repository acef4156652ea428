use Rattle.std.proofs.Common.{◌∙◌, [], sym, subst, List, Option, ℕ}
use Rattle.q_logic.specs.Prelude.{Prefix, Distinct}
use Rattle.q_certificate.specs.Prelude.{IsNamed}
use Rattle.q_herbrand.proofs.ZeroCircuits.{in-distinct, zeros-of}
use Rattle.q_herbrand.proofs.zeros.zeros_among.Goals as goal

pub name_outputs-requires-clause-distinct : goal.name_outputs-requires-clause-distinct
name_outputs-requires-clause-distinct c =
    subst Distinct (sym (c.deref.ensures.value ∙ c.in_ok-universals.ensures)) (in-distinct c.args.scope.now c.args.prefix.now c.requires.distinct)

pub returns : goal.returns
returns c =
    zeros-of c.args.scope.now c.args.prefix.now c.new.result c.in_ok-made.made c.new.ensures c.requires.among
    (subst (λ (P : Prefix). IsNamed c.new.result c.in_ok-made.made [] P) (c.deref.ensures.value ∙ c.in_ok-universals.ensures)
    (subst (λ (tb : List (Option ℕ)). IsNamed c.new.result c.in_ok-made.made tb c.deref.result.now) c.new-2.ensures c.in_ok-made.ensures))
