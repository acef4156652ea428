use Rattle.std.proofs.Common.{◌≡◌, ℕ, List, Some, inl, inr, refl, sym, ◌∙◌}
use Rattle.q_logic.specs.Prelude.{Literal, Slots}
use Rattle.q_prop.specs.Supports.{IsSupport, IsHung, AreUnitsKnown}
use Rattle.q_prop.specs.declared.supports.Support.TheVariants.{Alone, Apart}
use Rattle.q_prop.proofs.RootRemoval.{hung_alone, hung_apart}
use Rattle.q_prop.proofs.propagator.loosen.Goals as goal
use Rattle.q_prop.proofs.propagator.loosen.Goals.{in-Alone+else-settled, in_default}

alone_at : (s : Slots) (n : ℕ) (l : Literal) (known : List Literal) → IsSupport s (Some n) (Alone l) → IsHung s n l known
alone_at s n l known q =
    let same : q.0 ≡ n = let h : Some n ≡ Some q.0 = q.1 in cc in
    hung_alone s n l known (rw same at q.2)

apart_at : (s : Slots) (n : ℕ) (l : Literal) (known : List Literal) → IsSupport s (Some n) (Apart l) → AreUnitsKnown s n known → IsHung s n l known
apart_at s n l known q units =
    let same : q.0 ≡ n = let h : Some n ≡ Some q.0 = q.1 in cc in
    hung_apart s n l known (rw same at q.2) units

pub returns-then-has : goal.returns-then-has
returns-then-has c _ =
    let lit = c.in-Alone.lit in
    let hung = alone_at c.args.clauses.now.slots c.args.at lit c.args.trail.now (rw c.in-Alone.is at c.requires.support) in
    inr (c.if-settled.true, (lit, hung, c.has.ensures.0 c.if-has.true, c.remove.ensures))

pub returns-then-has-2 : goal.returns-then-has-2
returns-then-has-2 c _ =
    let lit = c.in-Apart.lit in
    let same : c.match-support.support ≡ c.args.support = elim c.match-support.branch [
      | in-Alone+else-settled w ↦ let r = w.support-is in let q = w.in-Alone.is in cc
      | in_default w ↦ let r = w.support-is in cc
    ] in
    let is-apart : c.args.support ≡ Apart lit = sym same ∙ c.in-Apart.is in
    let units = c.requires.units lit is-apart c.if-settled-2.true in
    let hung = apart_at c.args.clauses.now.slots c.args.at lit c.args.trail.now (rw is-apart at c.requires.support) units in
    inr (c.if-settled-2.true, (lit, hung, c.has-then-settled-2.ensures.0 c.if-has-2.true, c.remove-then-has-2.ensures))

pub returns : goal.returns
returns c t = inl (refl, c.is_free.ensures t)
