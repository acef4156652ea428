use Rattle.std.proofs.Common.{◌++◌, refl, ◌∙◌, ap, arith, List, ℕ}
use Rattle.q_kernel.proofs.KernelSizes.{slot-live, clause_at-slot}
use Rattle.q_kernel.proofs.KernelSteps.{may-shrink-there, is-shrunk, longer_text}
use Rattle.q_kernel.proofs.kernel.Kernel.shrink.Goals as goal

pub lits-lits-requires : goal.lits-lits-requires
lits-lits-requires c =
    let m = rw (← c.self.view_is) at c.requires in
    (m.clause, clause_at-slot c.self.inside.arena c.args.id m.clause m.there)

pub append_shorter-requires-clause-room : goal.append_shorter-requires-clause-room
append_shorter-requires-clause-room c =
    let m = rw (← c.self.view_is) at c.requires in
    let s = may-shrink-there _ c.args.id c.args.lit c.lits-lits.result.now m (slot-live c.self.inside.arena c.args.id c.lits-lits.result.now c.lits-lits.ensures.clause) in
    omega (arith, s.bytes)

pub append-requires-clause-room : goal.append-requires-clause-room
append-requires-clause-room c =
    let m = rw (← c.self.view_is) at c.requires in
    let s = may-shrink-there _ c.args.id c.args.lit c.lits-lits.result.now m (slot-live c.self.inside.arena c.args.id c.lits-lits.result.now c.lits-lits.ensures.clause) in
    rw c.first_of.ensures (omega (arith, s.bytes, c.append_shorter.ensures.spare))

pub shorten-requires : goal.shorten-requires
shorten-requires c =
    let m = rw (← c.self.view_is) at c.requires in
    let e = slot-live c.self.inside.arena c.args.id c.lits-lits.result.now c.lits-lits.ensures.clause in
    let s = may-shrink-there _ c.args.id c.args.lit c.lits-lits.result.now m e in
    (c.lits-lits.result.now, e, s.held)

pub returns : goal.returns
returns c =
    let m = rw (← c.self.view_is) at c.requires in
    let C = c.lits-lits.result.now in
    let e = slot-live c.self.inside.arena c.args.id C c.lits-lits.ensures.clause in
    let s = may-shrink-there _ c.args.id c.args.lit C m e in
    let t = rw c.first_of.ensures at c.append.ensures.text in
    let b = rw c.first_of.ensures at c.append.ensures.spare in
    rw (← c.self.view_is) (is-shrunk _ _ c.shorten.new.self c.args.id c.args.lit C c.self.invariant.proper s e refl refl refl refl
    (t ∙ ap (λ (xs : List ℕ). xs ++ longer_text C) c.append_shorter.ensures.text) (omega (arith, b, c.append_shorter.ensures.spare)) c.shorten.ensures)
