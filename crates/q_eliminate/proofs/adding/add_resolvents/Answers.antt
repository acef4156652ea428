use Rattle.std.proofs.Common.{◌+◌, ◌++◌, ◌∙◌, drop, get_or, length, sym, ap, subst, arith}
use Rattle.q_logic.specs.Prelude.{negation, Clause, Matrix, size_of, resolve_one, resolve_all, clauses_at}
use Rattle.q_kernel.specs.Prelude.{slots}
use Rattle.q_eliminate.specs.Growing.{CanGrow, HasGrown}
use Rattle.q_eliminate.specs.Sides.{clause_in}
use Rattle.q_eliminate.proofs.IdWalks.{id-in}
use Rattle.q_eliminate.proofs.AddedClauses.{growing-same, growing-more, can-part, parent-kept, in-kept, at-kept, next-resolvents, short-at}
use Rattle.q_eliminate.proofs.adding.add_resolvents.Goals as goal

pub add_with-requires-clause-parent : goal.add_with-requires-clause-parent
add_with-requires-clause-parent c =
    let g = c.loop-c.invariant.growing in
    parent-kept c.args.kernel.now c.loop-c.kernel g.done c.args.lit (get_or c.args.ids.now c.loop-c.c-index 0) g.grown (c.requires.ids (get_or c.args.ids.now c.loop-c.c-index 0) (id-in c.args.ids.now c.loop-c.c-index c.loop-c-test.true))

pub add_with-requires-clause-others : goal.add_with-requires-clause-others
add_with-requires-clause-others c d m =
    let g = c.loop-c.invariant.growing in
    parent-kept c.args.kernel.now c.loop-c.kernel g.done (negation c.args.lit) d g.grown (c.requires.others d m)

pub add_with-requires-clause-buffer : goal.add_with-requires-clause-buffer
add_with-requires-clause-buffer c =
    let g = c.loop-c.invariant.growing in
    let k = c.args.kernel.now in
    let p = ap length (in-kept k c.loop-c.kernel g.done c.args.lit (get_or c.args.ids.now c.loop-c.c-index 0) g.grown (c.requires.ids (get_or c.args.ids.now c.loop-c.c-index 0) (id-in c.args.ids.now c.loop-c.c-index c.loop-c-test.true))) in
    let q = ap size_of (at-kept k c.loop-c.kernel g.done (negation c.args.lit) c.args.others.now g.grown c.requires.others) in
    let s = short-at (slots k) c.args.lit c.args.lit c.args.ids.now c.loop-c.c-index c.requires.ids c.loop-c-test.true in
    let b = c.requires.buffer in let e = c.loop-c.invariant.buffer in omega arith

pub add_with-requires-clause-room : goal.add_with-requires-clause-room
add_with-requires-clause-room c =
    let g = c.loop-c.invariant.growing in
    let k = c.args.kernel.now in
    let n = c.loop-c.kernel in
    let l = c.args.lit in
    let d = get_or c.args.ids.now c.loop-c.c-index 0 in
    let Y = clauses_at (slots k) c.args.others.now in
    let p = in-kept k n g.done l d g.grown (c.requires.ids d (id-in c.args.ids.now c.loop-c.c-index c.loop-c-test.true)) in
    let q = at-kept k n g.done (negation l) c.args.others.now g.grown c.requires.others in
    let s = next-resolvents (slots k) l l c.args.ids.now c.loop-c.c-index c.requires.ids c.loop-c-test.true Y in
    let u = can-part n (resolve_one l (clause_in (slots k) d) Y) (resolve_all l (clauses_at (slots k) (drop (c.loop-c.c-index + 1) c.args.ids.now)) Y) (subst (λ (V : Matrix). CanGrow n V) s g.can) in
    subst (λ (X : Clause). CanGrow n (resolve_one l X (clauses_at (slots n) c.args.others.now))) (sym p)
    (subst (λ (Z : Matrix). CanGrow n (resolve_one l (clause_in (slots k) d) Z)) (sym q) u)

pub loop-c-preserved : goal.loop-c-preserved
loop-c-preserved c =
    let g = c.loop-c.invariant.growing in
    let k = c.args.kernel.now in
    let n = c.loop-c.kernel in
    let m = c.add_with.new.kernel in
    let l = c.args.lit in
    let d = get_or c.args.ids.now c.loop-c.c-index 0 in
    let Y = clauses_at (slots k) c.args.others.now in
    let p = in-kept k n g.done l d g.grown (c.requires.ids d (id-in c.args.ids.now c.loop-c.c-index c.loop-c-test.true)) in
    let q = at-kept k n g.done (negation l) c.args.others.now g.grown c.requires.others in
    let s = next-resolvents (slots k) l l c.args.ids.now c.loop-c.c-index c.requires.ids c.loop-c-test.true Y in
    let P = resolve_one l (clause_in (slots k) d) Y in
    let W = resolve_all l (clauses_at (slots k) (drop (c.loop-c.c-index + 1) c.args.ids.now)) Y in
    let V = resolve_all l (clauses_at (slots k) c.args.ids.now) Y in
    let h : HasGrown n m P = subst (λ (Z : Matrix). HasGrown n m (resolve_one l (clause_in (slots k) d) Z)) q (subst (λ (X : Clause). HasGrown n m (resolve_one l X (clauses_at (slots n) c.args.others.now))) p c.add_with.ensures.grown) in
    record {
      growing = growing-more k n m V P W (growing-same k n V (resolve_all l (clauses_at (slots k) (drop c.loop-c.c-index c.args.ids.now)) Y) (P ++ W) s g) h;
      buffer = c.add_with.ensures.buffer ∙ c.loop-c.invariant.buffer;
    }
