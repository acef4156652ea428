use Rattle.std.proofs.Common.{◌≡◌, ◌<◌, ◌∙◌, sym, length, Some, arith}
use Rattle.q_derive.specs.Traces.{earlier}
use Rattle.q_resolve.specs.Judged.{entries_of}
use Rattle.q_resolve.proofs.Deriving.{earlier-there}
use Rattle.q_resolve.proofs.Coned.{marked-one}
use Rattle.q_resolve.proofs.cone.mark_one.Goals as goal

pub index_mut-requires : goal.index_mut-requires
index_mut-requires c =
    let es = entries_of c.args.trace.now.lines in
    let e : earlier es c.args.n c.args.number ≡ Some c.in-Some.i = sym c.find.ensures ∙ c.in-Some.is in
    let r = earlier-there es c.args.n c.args.number c.in-Some.i e in
    omega (arith, r.0, c.requires.place, c.requires.size, c.args.marks.now.ok.0)

pub returns-in-Some : goal.returns-in-Some
returns-in-Some c =
    let es = entries_of c.args.trace.now.lines in
    let e : earlier es c.args.n c.args.number ≡ Some c.in-Some.i = sym c.find.ensures ∙ c.in-Some.is in
    let r = earlier-there es c.args.n c.args.number c.in-Some.i e in
    let lt : c.in-Some.i < length c.args.marks.now.items = omega (arith, r.0, c.requires.place, c.requires.size) in
    marked-one es c.args.n c.args.number c.in-Some.i c.args.marks.now.items e lt
