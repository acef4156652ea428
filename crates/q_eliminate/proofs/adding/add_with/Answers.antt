use Rattle.std.proofs.Common.{◌+◌, ◌++◌, ◌∙◌, [], drop, get_or, length, sym, ap, subst, arith}
use Rattle.q_logic.specs.Prelude.{negation, Clause, Matrix, resolvent, resolve_one, put_unless_tautology, clauses_at}
use Rattle.q_kernel.specs.Prelude.{slots}
use Rattle.q_eliminate.specs.Growing.{CanGrow, HasGrown}
use Rattle.q_eliminate.specs.Sides.{clause_in}
use Rattle.q_eliminate.proofs.IdWalks.{id-in}
use Rattle.q_eliminate.proofs.AddedClauses.{growing-same, growing-more, can-part, parent-kept, in-kept, next-resolvent, short-at}
use Rattle.q_eliminate.proofs.adding.add_with.Goals as goal

pub add_one-requires-clause-other : goal.add_one-requires-clause-other
add_one-requires-clause-other c =
    let g = c.loop-d.invariant.growing in
    parent-kept c.args.kernel.now c.loop-d.kernel g.done (negation c.args.lit) (get_or c.args.others.now c.loop-d.d-index 0) g.grown (c.requires.others (get_or c.args.others.now c.loop-d.d-index 0) (id-in c.args.others.now c.loop-d.d-index c.loop-d-test.true))

pub add_one-requires-clause-buffer : goal.add_one-requires-clause-buffer
add_one-requires-clause-buffer c =
    let g = c.loop-d.invariant.growing in
    let k = c.args.kernel.now in
    let d = get_or c.args.others.now c.loop-d.d-index 0 in
    let p = ap length (in-kept k c.loop-d.kernel g.done c.args.lit c.args.c g.grown c.requires.parent) in
    let q = ap length (in-kept k c.loop-d.kernel g.done (negation c.args.lit) d g.grown (c.requires.others d (id-in c.args.others.now c.loop-d.d-index c.loop-d-test.true))) in
    let s = short-at (slots k) c.args.lit (negation c.args.lit) c.args.others.now c.loop-d.d-index c.requires.others c.loop-d-test.true in
    let b = c.requires.buffer in let e = c.loop-d.invariant.buffer in omega arith

-- the next resolvent, as the kernel has its parents now
pub add_one-requires-clause-room : goal.add_one-requires-clause-room
add_one-requires-clause-room c =
    let g = c.loop-d.invariant.growing in
    let k = c.args.kernel.now in
    let n = c.loop-d.kernel in
    let l = c.args.lit in
    let d = get_or c.args.others.now c.loop-d.d-index 0 in
    let C = clause_in (slots k) c.args.c in
    let p = in-kept k n g.done l c.args.c g.grown c.requires.parent in
    let q = in-kept k n g.done (negation l) d g.grown (c.requires.others d (id-in c.args.others.now c.loop-d.d-index c.loop-d-test.true)) in
    let s = next-resolvent (slots k) l (negation l) c.args.others.now c.loop-d.d-index c.requires.others c.loop-d-test.true C in
    let u = can-part n (put_unless_tautology (resolvent l C (clause_in (slots k) d)) []) (resolve_one l C (clauses_at (slots k) (drop (c.loop-d.d-index + 1) c.args.others.now))) (subst (λ (V : Matrix). CanGrow n V) s g.can) in
    subst (λ (X : Clause). CanGrow n (put_unless_tautology (resolvent l X (clause_in (slots n) d)) [])) (sym p)
    (subst (λ (Y : Clause). CanGrow n (put_unless_tautology (resolvent l C Y) [])) (sym q) u)

pub loop-d-preserved : goal.loop-d-preserved
loop-d-preserved c =
    let g = c.loop-d.invariant.growing in
    let k = c.args.kernel.now in
    let n = c.loop-d.kernel in
    let m = c.add_one.new.kernel in
    let l = c.args.lit in
    let d = get_or c.args.others.now c.loop-d.d-index 0 in
    let C = clause_in (slots k) c.args.c in
    let p = in-kept k n g.done l c.args.c g.grown c.requires.parent in
    let q = in-kept k n g.done (negation l) d g.grown (c.requires.others d (id-in c.args.others.now c.loop-d.d-index c.loop-d-test.true)) in
    let s = next-resolvent (slots k) l (negation l) c.args.others.now c.loop-d.d-index c.requires.others c.loop-d-test.true C in
    let W = resolve_one l C (clauses_at (slots k) (drop (c.loop-d.d-index + 1) c.args.others.now)) in
    let P = put_unless_tautology (resolvent l C (clause_in (slots k) d)) [] in
    let h : HasGrown n m P = subst (λ (Y : Clause). HasGrown n m (put_unless_tautology (resolvent l C Y) [])) q (subst (λ (X : Clause). HasGrown n m (put_unless_tautology (resolvent l X (clause_in (slots n) d)) [])) p c.add_one.ensures.grown) in
    record {
      growing = growing-more k n m (resolve_one l C (clauses_at (slots k) c.args.others.now)) P W (growing-same k n (resolve_one l C (clauses_at (slots k) c.args.others.now)) (resolve_one l C (clauses_at (slots k) (drop c.loop-d.d-index c.args.others.now))) (P ++ W) s g) h;
      buffer = c.add_one.ensures.buffer ∙ c.loop-d.invariant.buffer;
    }
