use Rattle.std.proofs.Common.{◌≡◌, ◌<◌, ℕ, zero, suc, [], ◌∷◌, get_or, List, Bool, false, length, sym, subst, refl, inl, inr, arith}
use Rattle.q_logic.specs.Prelude.{Clause, IsIn}
use Rattle.q_kernel.specs.Prelude.{slots}
use Rattle.q_logic.proofs.Common.{taken-cases, taken-all}
use Rattle.q_blocked.specs.Walks.{IsBeside, GivesNoneAt}
use Rattle.q_blocked.specs.Growths.{HasSpread}
use Rattle.q_blocked.proofs.SetGrowth.{pushed-none, pushed-on, pushed-gives_none, pushed-less, pushed-same, longer-pushed, units-gives_none}
use Rattle.q_blocked.proofs.hidden.use_units.Goals as goal

pub loop-d-init : goal.loop-d-init
loop-d-init c = record { growing = c.requires.growing; pushed = pushed-none c.args.growth.now; gives_none = λ d m. absurd m }

within : (xs : List ℕ) (i : ℕ) → i < length xs → get_or xs i 0 ≡ get_or xs i (get_or xs i 0)
within [] i h = absurd (omega arith)
within (x ∷ xs) zero h = refl
within (x ∷ xs) (suc i) h = within xs i (omega arith)

pub loop-d-preserved : goal.loop-d-preserved
loop-d-preserved c =
    let k = c.args.kernel.now in
    let first = c.args.growth.now in
    let old = c.loop-d.growth in
    let new = c.take_hidden.new.growth in
    let units = c.args.units.now in
    let item : ℕ = get_or units c.loop-d.d-index 0 in
    let r : HasSpread k c.args.c (IsBeside (slots k) c.args.c item) old new false = subst (λ (b : Bool). HasSpread k c.args.c (IsBeside (slots k) c.args.c item) old new b) c.if-branch.false c.in_ok-take_hidden.ensures in
    record {
      growing = r.0;
      pushed = pushed-on first old new c.loop-d.invariant.pushed r.1;
      gives_none = λ d m D b. elim (taken-cases units c.loop-d.d-index item d c.loop-d-test.true (within units c.loop-d.d-index c.loop-d-test.true) m) [
        | inl a ↦ pushed-gives_none first old new D r.1 (c.loop-d.invariant.gives_none d a D b)
        | inr e ↦ pushed-less first old new.set D c.loop-d.invariant.pushed (r.2 D (subst (λ (x : ℕ). IsBeside (slots k) c.args.c x D) e b))
      ];
    }

pub returns : goal.returns
returns c =
    let k = c.args.kernel.now in
    let first = c.args.growth.now in
    let now = c.loop-d.growth in
    let e : now.set ≡ first.set = pushed-same first now c.loop-d.invariant.pushed (omega (arith, c.len-before.ensures, c.len.ensures, c.if-len-before.false)) in
    let units = c.args.units.now in (
      e,
      units-gives_none (slots k) c.args.c units first.set c.requires.units (λ d m D b. subst (λ (S : Clause). GivesNoneAt first.set S D) e
          (c.loop-d.invariant.gives_none d (subst (λ (xs : List ℕ). IsIn d xs) (sym (taken-all units c.loop-d.d-index c.loop-d-test.false)) m) D b)),
    )

pub returns-then-len-before : goal.returns-then-len-before
returns-then-len-before c = (c.loop-d.invariant.growing, longer-pushed c.args.growth.now c.loop-d.growth c.loop-d.invariant.pushed)
