use Rattle.std.proofs.Common.{◌∷◌, Some, arith, inr, subst}
use Rattle.std.proofs.lemmas.Option.{slice_get_within}
use Rattle.q_logic.specs.Prelude.{Clause, IsIn, without}
use Rattle.q_logic.proofs.Common.{without-IsIn, without-shorter, without-in_order}
use Rattle.q_prop.specs.Slots.{filled}
use Rattle.q_judge.proofs.KeptWalks.{walks-shrunk, walks-fewer}
use Rattle.q_judge.proofs.RegionSeparation.{all-shrunk}
use Rattle.q_judge.proofs.SlotFormula.{counted-shrunk}
use Rattle.q_judge.proofs.SlotCollections.{left-sizes, held-in}
use Rattle.q_judge.proofs.TriedSteps.{put-holds}
use Rattle.q_judge.proofs.ledger.Ledger.shorten.Goals as goal

pub add-requires : goal.add-requires
add-requires c =
    let r = c.requires.rest in
    record { ordered = rw r.1 (without-in_order r.0 c.args.clause.now c.requires.ordered) }

pub delete-requires : goal.delete-requires
delete-requires c =
    let s = c.self.inside.store in
    let C = c.args.clause.now in
    let r = c.requires.rest in
    let h = rw (← c.self.view_is) at c.requires.there in
    let p = rw r.1 at c.in_ok-new.ensures.ok in
    slice_get_within c.add.new.self c.args.at (Some C) (put-holds s c.add.new.self c.args.at c.in_ok-new.new C (without r.0 C) p h)

pub overflow_sub-self : goal.overflow_sub-self
overflow_sub-self c = let r = c.requires.rest in rw r.1 (without-shorter r.0 c.args.clause.now)

pub overflow_sub-self-2 : goal.overflow_sub-self-2
overflow_sub-self-2 c =
    let h = rw (← c.self.view_is) at c.requires.there in
    let z = left-sizes c.self.inside.store c.args.at c.args.clause.now h in
    omega (arith, z.1, c.self.invariant.0.lits_are)

pub invariant_of-self-2 : goal.invariant_of-self-2
invariant_of-self-2 c =
    let i = c.self.inside in
    let C = c.args.clause.now in
    let r = c.requires.rest in
    let t = c.add.new.self in
    let k = c.in_ok-new.new in
    let h = rw (← c.self.view_is) at c.requires.there in
    let p = rw r.1 at c.in_ok-new.ensures.ok in
    rw (c.delete.ensures, r.1) (
      counted-shrunk i.scope i.store t c.args.at k r.0 C i.clauses i.lits c.self.invariant.0 h p,
      all-shrunk i.scope i.recent i.store t c.args.at k r.0 C h p c.self.invariant.1,
      walks-shrunk i.scope c.take.new.self i.store t c.args.at k c.args.rest.now c.in_ok-new.ensures.ok (c.take.ensures (filled i.store) c.self.invariant.2),
    )

pub take-requires : goal.take-requires
take-requires c =
    let i = c.self.inside in
    let C = c.args.clause.now in
    let r = c.requires.rest in
    let h = rw (← c.self.view_is) at c.requires.there in
    record { within = λ k m. c.self.invariant.0.formula.closed C (held-in i.store c.args.at C h) k (without-IsIn r.0 C k (subst (λ (D : Clause). IsIn k D) r.1 m)) }

pub invariant_of-self : goal.invariant_of-self
invariant_of-self c =
    let i = c.self.inside in
    let X = filled i.store in
    rw c.in_err-new.ensures.err (
      c.self.invariant.0,
      c.self.invariant.1,
      walks-fewer i.scope c.take.new.self (c.args.rest.now ∷ X) X (λ D m. inr m) (c.take.ensures X c.self.invariant.2),
    )
