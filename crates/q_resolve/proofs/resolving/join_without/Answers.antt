use Rattle.std.proofs.Common.{◌≡◌, ◌+◌, ◌++◌, ◌∷◌, [], ◌≤◌, take, length, sym, ap, ◌∙◌, subst, true, false, List, arith}
use Rattle.std.proofs.lemmas.List.{take_all}
use Rattle.q_logic.specs.Prelude.{Literal, without}
use Rattle.q_logic.proofs.Common.{taken}
use Rattle.q_resolve.specs.Reduced.{IsJoined}
use Rattle.q_resolve.proofs.Joined.{joined-none, joined-then, without-last, without-it, without-not}
use Rattle.q_resolve.proofs.resolving.join_without.Goals.{then-not-is+in_ok-join, else-not-is}
use Rattle.q_resolve.proofs.resolving.join_without.Goals as goal

pub loop-k-init : goal.loop-k-init
loop-k-init c = joined-none c.args.row.now

pub loop-k-preserved : goal.loop-k-preserved
loop-k-preserved c =
    let l = c.args.lit in
    let xs = take c.loop-k.k-index c.args.lits.now in
    let x = c.k-item.result in
    let e : take (c.loop-k.k-index + 1) c.args.lits.now ≡ xs ++ x ∷ [] = taken c.args.lits.now c.loop-k.k-index x c.loop-k-test.true c.k-item.is in
    let whole : without l xs ++ without l (x ∷ []) ≡ without l (take (c.loop-k.k-index + 1) c.args.lits.now) = sym (ap (without l) e ∙ without-last l xs x) in
    elim c.if-not-is.branch [
      | then-not-is+in_ok-join w ↦
          let f : c.is.result ≡ false = let z = w.if-not-is.true in grind arith in
          let n : without l (x ∷ []) ≡ x ∷ [] = without-not l x (λ q. let t : c.is.result ≡ true = c.is.ensures.1 q in absurd (cc)) in
          subst (IsJoined c.args.row.now (without l (take (c.loop-k.k-index + 1) c.args.lits.now))) (sym w.row-is)
          (joined-then c.args.row.now c.loop-k.row w.join.new.row (without l xs) (without l (x ∷ [])) (without l (take (c.loop-k.k-index + 1) c.args.lits.now)) whole c.loop-k.invariant
          (subst (λ (ys : List Literal). IsJoined c.loop-k.row ys w.join.new.row) (sym n) w.in_ok-join.ensures))
      | else-not-is w ↦
          let t : c.is.result ≡ true = let z = w.if-not-is.false in grind arith in
          let n : without l (x ∷ []) ≡ [] = without-it l x (c.is.ensures.0 t) in
          subst (IsJoined c.args.row.now (without l (take (c.loop-k.k-index + 1) c.args.lits.now))) (sym w.row-is)
          (joined-then c.args.row.now c.loop-k.row c.loop-k.row (without l xs) (without l (x ∷ [])) (without l (take (c.loop-k.k-index + 1) c.args.lits.now)) whole c.loop-k.invariant
          (subst (λ (ys : List Literal). IsJoined c.loop-k.row ys c.loop-k.row) (sym n) (joined-none c.loop-k.row)))
    ]

pub returns : goal.returns
returns c =
    let le : length c.args.lits.now ≤ c.loop-k.k-index = c.loop-k-test.false in
    subst (λ (xs : List Literal). IsJoined c.args.row.now (without c.args.lit xs) c.loop-k.row) (take_all c.loop-k.k-index c.args.lits.now le) c.loop-k.invariant
