use Rattle.std.proofs.Common.{◌≡◌, sym, subst}
use Rattle.q_logic.specs.Prelude.{Clause, first_of}
use Rattle.q_kernel.specs.Prelude.{MayAdd, IsAdded}
use Rattle.q_equiv.specs.Changing.{over_clause, back_clause}
use Rattle.q_equiv.proofs.BridgeClauses.{may-add_over, may-add_back, built}
use Rattle.q_equiv.proofs.merge.build.Goals as goal

pub add_implied-over-requires : goal.add_implied-over-requires
add_implied-over-requires c =
    let k = c.args.kernel.now in
    let e : c.two_lits.result ≡ over_clause c.args.keep c.args.gone = rw c.negated.ensures at c.two_lits.ensures in
    subst (λ (C : Clause). MayAdd k (first_of C) C) (sym e) (may-add_over c.args.keep c.args.gone k c.requires.fits c.requires.limits c.requires.room c.sound.ensures)

pub add_implied-back-requires : goal.add_implied-back-requires
add_implied-back-requires c =
    let k = c.args.kernel.now in
    let mid = c.add_implied-over.new.self in
    let e : c.two_lits.result ≡ over_clause c.args.keep c.args.gone = rw c.negated.ensures at c.two_lits.ensures in
    let f : c.two_lits-2.result ≡ back_clause c.args.keep c.args.gone = rw c.negated-2.ensures at c.two_lits-2.ensures in
    let a : IsAdded k mid (first_of (over_clause c.args.keep c.args.gone)) (over_clause c.args.keep c.args.gone) c.add_implied-over.result = subst (λ (C : Clause). IsAdded k mid (first_of C) C c.add_implied-over.result) e c.add_implied-over.ensures in
    subst (λ (C : Clause). MayAdd mid (first_of C) C) (sym f) (may-add_back c.args.keep c.args.gone k c.requires.fits c.requires.limits c.requires.room c.sound.ensures mid c.add_implied-over.result a)

pub returns : goal.returns
returns c =
    let k = c.args.kernel.now in
    let mid = c.add_implied-over.new.self in
    let new = c.add_implied-back.new.self in
    let e : c.two_lits.result ≡ over_clause c.args.keep c.args.gone = rw c.negated.ensures at c.two_lits.ensures in
    let f : c.two_lits-2.result ≡ back_clause c.args.keep c.args.gone = rw c.negated-2.ensures at c.two_lits-2.ensures in
    let a : IsAdded k mid (first_of (over_clause c.args.keep c.args.gone)) (over_clause c.args.keep c.args.gone) c.add_implied-over.result = subst (λ (C : Clause). IsAdded k mid (first_of C) C c.add_implied-over.result) e c.add_implied-over.ensures in
    let b : IsAdded mid new (first_of (back_clause c.args.keep c.args.gone)) (back_clause c.args.keep c.args.gone) c.add_implied-back.result = subst (λ (C : Clause). IsAdded mid new (first_of C) C c.add_implied-back.result) f c.add_implied-back.ensures in
    built c.args.keep c.args.gone k c.requires.fits c.requires.limits c.requires.room c.sound.ensures mid c.add_implied-over.result a new c.add_implied-back.result b
