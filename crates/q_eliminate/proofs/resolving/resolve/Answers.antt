use Rattle.std.proofs.Common.{◌≡◌, ◌≤◌, ◌<◌, ◌+◌, ◌++◌, ◌∷◌, [], ◌⊎◌, ◌∙◌, ℕ, length, drop, inl, inr, sym, ap, arith, append_assoc}
use Rattle.q_logic.specs.Prelude.{Literal, negation, pack, Clause, without, union, resolvent}
use Rattle.q_logic.proofs.Common.{pairs-ordered}
use Rattle.q_eliminate.proofs.ClauseMerges.{next-first, next-second, next-both, merged-end}
use Rattle.q_eliminate.proofs.resolving.resolve.Goals as goal
use Rattle.q_eliminate.proofs.resolving.resolve.Goals.{then-loop-i-test+else-j-second, else-loop-i-test}

-- what was pushed comes from what is left
moved : (old new P U V R : Clause) → new ≡ old ++ P → U ≡ P ++ V → old ++ U ≡ R → new ++ V ≡ R
moved old new P U V R e f g = ap (λ (X : Clause). X ++ V) e ∙ (append_assoc old P V ∙ (ap (λ (X : Clause). old ++ X) (sym f) ∙ g))

-- what is left of both clauses, from two places on
abbrev left : Literal → Clause → Clause → ℕ → ℕ → Clause
left l C D i j = union (without l (drop i C)) (without (negation l) (drop j D))

pub loop-i-preserved-then-index : goal.loop-i-preserved-then-index
loop-i-preserved-then-index c =
    let C = c.args.first.now in let D = c.args.second.now in let l = c.args.lit in
    let i = c.loop-i.i in let j = c.loop-i.j in
    let a = c.index-first-i.result in let b = c.index-second-j.result in
    let below : pack a < pack b = (let x = c.index.ensures in let y = c.index-in-loop-i.ensures in let z = c.if-index.true in omega arith) in
    let inv = c.loop-i.invariant in let new = c.push_but.ensures in
    record {
      items = moved c.loop-i.into.items c.push_but.new.into.items (without l (a ∷ [])) (left l C D i j) (left l C D (i + 1) j) (resolvent l C D) new.items
          (next-first l (negation l) C D i j a b (pairs-ordered C c.requires.first) (pairs-ordered D c.requires.second) c.loop-i-test.true c.if-j-second.true c.index-first-i.is c.index-second-j.is below) inv.items;
      first = omega arith;
      second = inv.second;
      room = omega arith;
      same = new.room ∙ inv.same;
    }

pub loop-i-preserved-then-index-2 : goal.loop-i-preserved-then-index-2
loop-i-preserved-then-index-2 c =
    let C = c.args.first.now in let D = c.args.second.now in let l = c.args.lit in
    let i = c.loop-i.i in let j = c.loop-i.j in
    let a = c.index-first-i.result in let b = c.index-second-j.result in
    let below : pack b < pack a = (let x = c.index-else-index.ensures in let y = c.index-else-index-2.ensures in let z = c.if-index-2.true in omega arith) in
    let inv = c.loop-i.invariant in let new = c.push_but-then-index-2.ensures in
    record {
      items = moved c.loop-i.into.items c.push_but-then-index-2.new.into.items (without (negation l) (b ∷ [])) (left l C D i j) (left l C D i (j + 1)) (resolvent l C D)
          (new.items ∙ ap (λ (n : Literal). c.loop-i.into.items ++ without n (b ∷ [])) c.negated-own.ensures)
          (next-second l (negation l) C D i j a b (pairs-ordered C c.requires.first) (pairs-ordered D c.requires.second) c.loop-i-test.true c.if-j-second.true c.index-first-i.is c.index-second-j.is below) inv.items;
      first = inv.first;
      second = omega arith;
      room = omega arith;
      same = new.room ∙ inv.same;
    }

pub loop-i-preserved : goal.loop-i-preserved
loop-i-preserved c =
    let C = c.args.first.now in let D = c.args.second.now in let l = c.args.lit in
    let i = c.loop-i.i in let j = c.loop-i.j in
    let a = c.index-first-i.result in let b = c.index-second-j.result in
    let not_above : pack a ≤ pack b = (let x = c.index-else-index.ensures in let y = c.index-else-index-2.ensures in let z = c.if-index-2.false in omega arith) in
    let not_below : pack b ≤ pack a = (let x = c.index.ensures in let y = c.index-in-loop-i.ensures in let z = c.if-index.false in omega arith) in
    let inv = c.loop-i.invariant in let new = c.push_but-else-index-2.ensures in
    record {
      items = moved c.loop-i.into.items c.push_but-else-index-2.new.into.items (without (negation l) (b ∷ [])) (left l C D i j) (left l C D (i + 1) (j + 1)) (resolvent l C D)
          (new.items ∙ ap (λ (n : Literal). c.loop-i.into.items ++ without n (b ∷ [])) c.negated-own.ensures)
          (next-both l (negation l) C D i j a b (pairs-ordered C c.requires.first) (pairs-ordered D c.requires.second) c.loop-i-test.true c.if-j-second.true c.index-first-i.is c.index-second-j.is not_above not_below c.requires.no_negation c.requires.no_literal) inv.items;
      first = omega arith;
      second = omega arith;
      room = omega arith;
      same = new.room ∙ inv.same;
    }

pub returns-clause-resolvent : goal.returns-clause-resolvent
returns-clause-resolvent c =
    let C = c.args.first.now in
    let D = c.args.second.now in
    let l = c.args.lit in
    let i = c.loop-i.i in
    let j = c.loop-i.j in
    let ended : (length C ≤ i) ⊎ (length D ≤ j) = elim c.loop-i-test.branch [ then-loop-i-test+else-j-second w ↦ inr w.if-j-second.false | else-loop-i-test w ↦ inl w.loop-i-test.false ] in
    let e = merged-end l (negation l) C D i j (pairs-ordered C c.requires.first) ended in
    c.append_but-2.ensures.items
    ∙ (ap (λ (X : Clause). X ++ without c.negated-own.result (drop j D)) c.append_but.ensures.items
    ∙ (append_assoc c.loop-i.into.items (without l (drop i C)) (without c.negated-own.result (drop j D))
    ∙ (ap (λ (n : Literal). c.loop-i.into.items ++ (without l (drop i C) ++ without n (drop j D))) c.negated-own.ensures
    ∙ (ap (λ (X : Clause). c.loop-i.into.items ++ X) (sym e) ∙ c.loop-i.invariant.items))))
