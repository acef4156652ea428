use Rattle.std.proofs.Common.{length, ap, arith}
use Rattle.q_kernel.specs.Prelude.{slots}
use Rattle.q_kernel.proofs.SlotLists.{live_in-length}
use Rattle.q_logic.specs.Prelude.{greatest}
use Rattle.q_expand.proofs.DependentViews.{are-few, weight-view, size-view, all-ok}
use Rattle.q_expand.proofs.room.reserve.Goals as goal

pub overflow_mul-need : goal.overflow_mul-need
overflow_mul-need c = let f = are-few c.requires.applies.0 c.args.kernel.now c.args.u c.args.dependents.now c.sound.ensures c.requires.whole c.requires.applies.1 c.requires.limits in let a = f.vars in let b = f.met in let d = f.clauses in let e = f.weight in let g = f.size in let h = f.bound in let i = f.greatest in let p = c.count-count.ensures in let q = c.weight-weight.ensures in omega arith

pub overflow_add-need : goal.overflow_add-need
overflow_add-need c = let f = are-few c.requires.applies.0 c.args.kernel.now c.args.u c.args.dependents.now c.sound.ensures c.requires.whole c.requires.applies.1 c.requires.limits in let a = f.vars in let b = f.met in let d = f.clauses in let e = f.weight in let g = f.size in let h = f.bound in let i = f.greatest in let p = c.count-count.ensures in let q = c.weight-weight.ensures in omega arith

pub overflow_add-need-2 : goal.overflow_add-need-2
overflow_add-need-2 c = let f = are-few c.requires.applies.0 c.args.kernel.now c.args.u c.args.dependents.now c.sound.ensures c.requires.whole c.requires.applies.1 c.requires.limits in let a = f.vars in let b = f.met in let d = f.clauses in let e = f.weight in let g = f.size in let h = f.bound in let i = f.greatest in let p = c.count-count.ensures in let q = c.weight-weight.ensures in let r = c.clauses.ensures in omega arith

pub overflow_mul-need-3 : goal.overflow_mul-need-3
overflow_mul-need-3 c = let f = are-few c.requires.applies.0 c.args.kernel.now c.args.u c.args.dependents.now c.sound.ensures c.requires.whole c.requires.applies.1 c.requires.limits in let a = f.vars in let b = f.met in let d = f.clauses in let e = f.weight in let g = f.size in let h = f.bound in let i = f.greatest in let p = c.count-count.ensures in let q = c.weight-weight.ensures in let r = c.clauses.ensures in omega arith

pub overflow_cast-need : goal.overflow_cast-need
overflow_cast-need c = let f = are-few c.requires.applies.0 c.args.kernel.now c.args.u c.args.dependents.now c.sound.ensures c.requires.whole c.requires.applies.1 c.requires.limits in let a = f.vars in let b = f.met in let d = f.clauses in let e = f.weight in let g = f.size in let h = f.bound in let i = f.greatest in let p = c.count-count.ensures in let q = c.weight-weight.ensures in omega arith

pub overflow_add-need-3 : goal.overflow_add-need-3
overflow_add-need-3 c = let f = are-few c.requires.applies.0 c.args.kernel.now c.args.u c.args.dependents.now c.sound.ensures c.requires.whole c.requires.applies.1 c.requires.limits in let a = f.vars in let b = f.met in let d = f.clauses in let e = f.weight in let g = f.size in let h = f.bound in let i = f.greatest in let p = c.count-count.ensures in let q = c.weight-weight.ensures in let t = c.greatest_var.ensures in omega arith

pub overflow_mul-need-4 : goal.overflow_mul-need-4
overflow_mul-need-4 c = let f = are-few c.requires.applies.0 c.args.kernel.now c.args.u c.args.dependents.now c.sound.ensures c.requires.whole c.requires.applies.1 c.requires.limits in let a = f.vars in let b = f.met in let d = f.clauses in let e = f.weight in let g = f.size in let h = f.bound in let i = f.greatest in let p = c.count-count.ensures in let q = c.weight-weight.ensures in omega arith

pub overflow_add-need-4 : goal.overflow_add-need-4
overflow_add-need-4 c = let f = are-few c.requires.applies.0 c.args.kernel.now c.args.u c.args.dependents.now c.sound.ensures c.requires.whole c.requires.applies.1 c.requires.limits in let a = f.vars in let b = f.met in let d = f.clauses in let e = f.weight in let g = f.size in let h = f.bound in let i = f.greatest in let p = c.count-count.ensures in let q = c.weight-weight.ensures in let x = c.size.ensures in omega arith

pub overflow_add-need-5 : goal.overflow_add-need-5
overflow_add-need-5 c = let f = are-few c.requires.applies.0 c.args.kernel.now c.args.u c.args.dependents.now c.sound.ensures c.requires.whole c.requires.applies.1 c.requires.limits in let a = f.vars in let b = f.met in let d = f.clauses in let e = f.weight in let g = f.size in let h = f.bound in let i = f.greatest in let p = c.count-count.ensures in let q = c.weight-weight.ensures in let x = c.size.ensures in let y = c.len.ensures in let z = ap length c.prefix.ensures in omega arith

pub overflow_mul-need-6 : goal.overflow_mul-need-6
overflow_mul-need-6 c = let f = are-few c.requires.applies.0 c.args.kernel.now c.args.u c.args.dependents.now c.sound.ensures c.requires.whole c.requires.applies.1 c.requires.limits in let a = f.vars in let b = f.met in let d = f.clauses in let e = f.weight in let g = f.size in let h = f.bound in let i = f.greatest in let p = c.count-count.ensures in let q = c.weight-weight.ensures in let x = c.size.ensures in let y = c.len.ensures in let z = ap length c.prefix.ensures in omega arith

pub reserve-requires-2 : goal.reserve-requires-2
reserve-requires-2 c = let f = are-few c.requires.applies.0 c.args.kernel.now c.args.u c.args.dependents.now c.sound.ensures c.requires.whole c.requires.applies.1 c.requires.limits in let a = f.vars in let b = f.met in let d = f.clauses in let e = f.weight in let g = f.size in let h = f.bound in let i = f.greatest in let p = c.count-count.ensures in let q = c.weight-weight.ensures in let r = c.clauses.ensures in let n = live_in-length (slots c.args.kernel.now) in omega arith

pub returns-clause-room : goal.returns-clause-room
returns-clause-room c =
    let k = c.args.kernel.now in
    let n = c.reserve-2.new.self in
    let r = c.args.dependents.now in
    let v = c.reserve-2.ensures.view in
    let p = c.count-count.ensures in
    let q = c.weight-weight.ensures in
    let w = weight-view k n v c.args.u r in
    let z = size-view k n v c.args.u r in
    let cl = c.clauses.ensures in
    let t = c.greatest_var.ensures in
    let x = c.size.ensures in
    let y = c.len.ensures in
    let pr = ap length c.prefix.ensures in
    let g = ap greatest v.prefix in
    let l = ap length v.prefix in
    all-ok c.reserve-2.result c.reserve-2.ensures.words c.reserve-2.ensures.ids c.reserve-2.ensures.vars c.reserve-2.ensures.greatest c.reserve-2.ensures.bytes
    (λ a b d e f. record { words = omega arith; ids = omega arith; vars = omega arith; greatest = omega arith; bytes = omega arith })
