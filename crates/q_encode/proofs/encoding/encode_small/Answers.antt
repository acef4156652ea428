use Rattle.std.proofs.Common.{◌≡◌, ◌∙◌, sym, ap, subst, arith}
use Rattle.q_logic.specs.Prelude.{Prefix, Distinct, Lawful, trees_of, greatest}
use Rattle.q_certificate.specs.Narrowed.{IsNarrowed}
use Rattle.q_encode.specs.Sides.{turned}
use Rattle.q_encode.proofs.GivenCircuits.{turned-distinct, made-names, made-top, small-room}
use Rattle.q_encode.proofs.encoding.encode_small.Goals as goal

pub narrow-requires : goal.narrow-requires
narrow-requires c =
    let e : c.deref.result.now ≡ turned c.args.side c.args.formula.now.prefix =
    c.deref.ensures.value ∙ c.in_ok-turned.ensures ∙ ap (turned c.args.side) c.prefix-prefix.ensures.value in
    record { distinct = subst (λ (Q : Prefix). Distinct Q) (sym e) (turned-distinct c.args.side c.args.formula.now.prefix c.prefix-prefix.ensures.proper.formula.distinct) }

pub side_clauses-requires-clause-names : goal.side_clauses-requires-clause-names
side_clauses-requires-clause-names c =
    let e : c.deref.result.now ≡ turned c.args.side c.args.formula.now.prefix =
    c.deref.ensures.value ∙ c.in_ok-turned.ensures ∙ ap (turned c.args.side) c.prefix-prefix.ensures.value in
    made-names c.args.side c.args.formula.now c.args.given.now c.in_ok-made.made c.prefix-prefix.ensures.proper
    (subst (λ (Q : Prefix). Lawful Q (trees_of c.args.given.now) → IsNarrowed Q c.args.given.now c.in_ok-made.made) e c.in_ok-made.ensures c.requires.lawful)

pub side_clauses-requires-clause-top : goal.side_clauses-requires-clause-top
side_clauses-requires-clause-top c =
    let e : c.deref.result.now ≡ turned c.args.side c.args.formula.now.prefix =
    c.deref.ensures.value ∙ c.in_ok-turned.ensures ∙ ap (turned c.args.side) c.prefix-prefix.ensures.value in
    c.greatest.ensures ∙ ap (λ (Q : Prefix). greatest Q) c.prefix-prefix.ensures.value ∙
    sym (made-top c.args.side c.args.formula.now c.args.given.now c.in_ok-made.made
    (subst (λ (Q : Prefix). Lawful Q (trees_of c.args.given.now) → IsNarrowed Q c.args.given.now c.in_ok-made.made) e c.in_ok-made.ensures c.requires.lawful))

pub side_clauses-requires-clause-room : goal.side_clauses-requires-clause-room
side_clauses-requires-clause-room c =
    let e : c.deref.result.now ≡ turned c.args.side c.args.formula.now.prefix =
    c.deref.ensures.value ∙ c.in_ok-turned.ensures ∙ ap (turned c.args.side) c.prefix-prefix.ensures.value in
    let g : c.greatest.result ≡ greatest c.args.formula.now.prefix = c.greatest.ensures ∙ ap (λ (Q : Prefix). greatest Q) c.prefix-prefix.ensures.value in
    let r = small-room c.args.side c.args.formula.now c.args.given.now c.in_ok-made.made
    (subst (λ (Q : Prefix). Lawful Q (trees_of c.args.given.now) → IsNarrowed Q c.args.given.now c.in_ok-made.made) e c.in_ok-made.ensures c.requires.lawful) c.requires.small in
    omega arith

pub returns : goal.returns
returns c =
    let e : c.deref.result.now ≡ turned c.args.side c.args.formula.now.prefix =
    c.deref.ensures.value ∙ c.in_ok-turned.ensures ∙ ap (turned c.args.side) c.prefix-prefix.ensures.value in
    record {
      made = c.in_ok-made.made;
      circuits = c.circuits_are_lawful.ensures;
      narrowed = subst (λ (Q : Prefix). Lawful Q (trees_of c.args.given.now) → IsNarrowed Q c.args.given.now c.in_ok-made.made) e c.in_ok-made.ensures c.requires.lawful;
      clauses = c.in_ok-clauses.ensures;
    }
