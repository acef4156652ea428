use Rattle.std.proofs.Common.{◌≡◌, arith, ap, sym, ◌∙◌, Bool, true, false, if◌then◌else◌, [], ◌∷◌}
use Rattle.q_logic.specs.Prelude.{live, has_empty}
use Rattle.q_kernel.specs.Kernels.{slots}
use Rattle.q_kernel.proofs.SweepSteps.{counted-empty, counted-full}
use Rattle.q_kernel.proofs.kernel.Kernel.drop_others.Goals as goal

pub first_empty-kept-requires : goal.first_empty-kept-requires
first_empty-kept-requires c = rw (← c.self.view_is) (counted-empty (live c.self.inside.arena.clauses) (omega (arith, c.self.invariant.counted.empties)))

pub returns-then-self-gt0-clause-matrix : goal.returns-then-self-gt0-clause-matrix
returns-then-self-gt0-clause-matrix c =
    let X = live (slots c.args.self.now) in
    let e : has_empty X ≡ true = rw (← c.self.view_is) (counted-empty (live c.self.inside.arena.clauses) (omega (arith, c.self.invariant.counted.empties))) in
    c.keep_alone.ensures.matrix ∙ sym (ap (λ (b : Bool). if b then ([] ∷ []) else X) e)

pub returns-else-self-gt0-clause-matrix : goal.returns-else-self-gt0-clause-matrix
returns-else-self-gt0-clause-matrix c =
    let X = live (slots c.args.self.now) in
    let e : has_empty X ≡ false = rw (← c.self.view_is) (counted-full (live c.self.inside.arena.clauses) (omega (arith, c.self.invariant.counted.empties))) in
    sym (ap (λ (b : Bool). if b then ([] ∷ []) else X) e)
