use Rattle.std.proofs.Common.{◌≡◌, ◌∙◌, ℕ, true, refl, sym, ap, subst}
use Rattle.std.proofs.lemmas.Option.{same_Some}
use Rattle.q_logic.specs.Prelude.{negation, Clause, IsIn, inner_existential}
use Rattle.q_kernel.specs.Prelude.{slots}
use Rattle.q_reduce.specs.Regions.{is_covered}
use Rattle.q_logic.proofs.Common.{test-not, universal-is_bound}
use Rattle.q_reduce.proofs.RegionSeparation.{reducible-none, reducible-apart}
use Rattle.q_reduce.proofs.regions.Regions.separates.Goals as goal

pub region_in-requires : goal.region_in-requires
region_in-requires c = rw c.var.ensures.value (universal-is_bound c.args.kernel.now.prefix c.args.lit.var c.requires.universal)

pub returns-then-covers : goal.returns-then-covers
returns-then-covers c t C e =
    let k = c.args.kernel.now in
    let l = c.args.lit in
    let q = same_Some c.requires.live.0 C (sym c.requires.live.1 ∙ e) in
    let held : IsIn l C = subst (λ (x : Clause). IsIn l x) q c.requires.live.2 in
    let lacks : IsIn (negation l) C → ⊥ = λ m. c.requires.live.3 (subst (λ (x : Clause). IsIn (negation l) x) (sym q) m) in
    let j = c.in-Some.ensures.some c.in-Some.region refl in
    let m : IsIn j.0 C = subst (λ (x : Clause). IsIn j.0 x) (same_Some c.lits.result.now C (sym c.lits.ensures.clause ∙ e)) j.1 in
    let inner : inner_existential k.prefix l.var j.0.var ≡ true = subst (λ (x : ℕ). inner_existential k.prefix x j.0.var ≡ true) c.var.ensures.value j.2 in
    let covered : is_covered c.args.self.now l.var ≡ true = ap (is_covered c.args.self.now) (sym c.var-in-Some.ensures.value) ∙ (sym c.covers.ensures ∙ c.if-covers.true) in
    let noted = rw (c.negated.ensures, ← j.3) at c.has_noted.ensures in
    reducible-apart k.prefix (slots k) c.args.self.now c.args.c C l c.requires.universal e held lacks c.requires.regions covered j.0 m inner (test-not c.has_noted.result noted t)

pub returns-in-None : goal.returns-in-None
returns-in-None c t C e =
    let k = c.args.kernel.now in
    let l = c.args.lit in
    let q = same_Some c.requires.live.0 C (sym c.requires.live.1 ∙ e) in
    let held : IsIn l C = subst (λ (x : Clause). IsIn l x) q c.requires.live.2 in
    let lacks : IsIn (negation l) C → ⊥ = λ m. c.requires.live.3 (subst (λ (x : Clause). IsIn (negation l) x) (sym q) m) in
    reducible-none k.prefix (slots k) c.args.self.now c.args.c C l c.requires.universal e held lacks
    (λ j m s. c.in-None.ensures.none refl j (subst (λ (x : Clause). IsIn j x) (sym (same_Some c.lits.result.now C (sym c.lits.ensures.clause ∙ e))) m) (subst (λ (x : ℕ). inner_existential k.prefix x j.var ≡ true) (sym c.var.ensures.value) s))
