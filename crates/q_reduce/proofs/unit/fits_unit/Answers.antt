use Rattle.std.proofs.Common.{◌≡◌, true, [], ◌∷◌, Option, Some, None, refl, sym, true≢false}
use Rattle.std.specs.Option.{is_some}
use Rattle.q_logic.specs.Prelude.{Literal, slot, is_existential}
use Rattle.q_kernel.specs.Prelude.{slots}
use Rattle.q_reduce.proofs.unit.fits_unit.Goals as goal

told : (o : Option Literal) (Q : Literal → Type 0) → ((l : Literal) → o ≡ Some l → Q l) → (o ≡ None → (l : Literal) → Q l → ⊥) → (is_some o ≡ true → (l : Literal) × Q l) × (((l : Literal) × Q l) → is_some o ≡ true)
told None Q f g = ((λ t. absurd (true≢false (sym t))), (λ (l, q). absurd (g refl l q)))
told (Some l) Q f g = ((λ t. (l, f l refl)), (λ q. refl))

pub returns : goal.returns
returns c =
    let k = c.args.kernel.now in
    let t = told c.unit_literal.result (λ l. (slot (slots k) c.args.c ≡ Some (l ∷ [])) × (is_existential k.prefix l.var ≡ true)) c.unit_literal.ensures.some (λ e l q. c.unit_literal.ensures.none e l q.0 q.1) in
    rw c.is_some.ensures ((λ h. let r = t.0 h in (r.0, r.1.0, r.1.1)), (λ q. t.1 (q.0, (q.1, q.2))))
