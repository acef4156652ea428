use Rattle.std.proofs.Common.{◌≡◌, ◌≤◌, ℕ, ◌-◌, [], ◌∷◌, drop, length, sym, subst, List, arith}
use Rattle.q_logic.specs.Prelude.{Literal}
use Rattle.q_certificate.proofs.LiteralRows.{literals-kept}
use Rattle.q_herbrand.specs.Parts.{IsLoweredOne, AreLowered}
use Rattle.q_herbrand.proofs.FalseLiterals.{lowered-more, drop-item}
use Rattle.q_herbrand.proofs.entries.lower_all.Goals as goal

pub loop-i-preserved : goal.loop-i-preserved
loop-i-preserved c =
    let b : c.loop-i.i ≤ length c.args.lits.now = c.loop-i.invariant.bound in
    let d : drop (c.loop-i.i - 1) c.args.lits.now ≡ c.index-lits-i.result ∷ drop c.loop-i.i c.args.lits.now =
    drop-item c.args.lits.now c.loop-i.i c.index-lits-i.result b (omega arith) c.index-lits-i.is in
    let none : IsLoweredOne c.loop-i.aig c.lower.new.aig [] c.loop-i.circuits.items c.lower.new.circuits.items
    c.args.q c.index-lits-i.result = c.in_ok-lower.ensures [] (λ x l e. absurd (cc)) in
    record {
      bound = omega arith;
      literals = none.literals;
      there = (none.grown.kept c.args.q c.loop-i.invariant.there).0;
      done = λ ins li.
          let s = c.loop-i.invariant.done ins li in
          subst (λ (ks : List Literal). AreLowered c.args.aig.now c.lower.new.aig ins c.args.circuits.now.items
          c.lower.new.circuits.items c.args.q ks) (sym d)
          (lowered-more c.args.aig.now c.loop-i.aig c.lower.new.aig ins c.args.circuits.now.items
          c.loop-i.circuits.items c.lower.new.circuits.items c.args.q c.index-lits-i.result
          (drop c.loop-i.i c.args.lits.now) c.requires.q s
          (c.in_ok-lower.ensures ins (literals-kept c.args.aig.now c.loop-i.aig ins s.grown.kept li)));
    }

pub returns : goal.returns
returns c = λ ins li.
    let z : c.loop-i.i ≡ 0 = omega (arith, c.loop-i-test.false) in
    subst (λ (i : ℕ). AreLowered c.args.aig.now c.loop-i.aig ins c.args.circuits.now.items c.loop-i.circuits.items
    c.args.q (drop i c.args.lits.now)) z (c.loop-i.invariant.done ins li)
