use Rattle.std.proofs.Common.{◌≡◌, ◌∙◌, ◌∷◌, ◌++◌, [], ℕ, List, Some, length, take, sym, ap, subst}
use Rattle.q_logic.specs.Prelude.{Literal, negation, Clause, IsIn, IsTautology, others}
use Rattle.q_logic.proofs.Common.{IsIn-append_right, test-false, IsIn-take}
use Rattle.q_kernel.specs.Prelude.{slots}
use Rattle.q_blocked.specs.declared.plan.Stage.{Stage}
use Rattle.q_blocked.specs.Growths.{IsGrowing, IsAsked, IsLonger, HasPlaces, IsCovered}
use Rattle.q_blocked.proofs.ClauseFronts.{place-front}
use Rattle.q_blocked.proofs.CoveredLiterals.{covered-growth}
use Rattle.q_blocked.proofs.ReachedSets.{covered-opposed}
use Rattle.q_blocked.proofs.SetGrowth.{growing-covered, others-within}
use Rattle.q_blocked.proofs.AskedPlaces.{asked-covered}
use Rattle.q_blocked.proofs.cover.cover_by.Goals as goal

pub returns-then-opposes : goal.returns-then-opposes
returns-then-opposes c =
    let k = c.args.kernel.now in
    let g = c.args.growth.now in
    let S : Clause = g.set in
    let K : Clause = g.found.items in
    let X = others c.args.c (slots k) in
    let l : Literal = c.at-l.result in
    let r = c.requires.growing in
    let m : IsIn l (take g.base S) = place-front S c.args.place g.base l c.at-l.ensures c.requires.staged in
    let q = c.requires.found l c.at-l.ensures in
    let e : c.push_all.new.set ≡ S ++ K = c.in_ok-push_all.ensures ∙ ap (λ (L : Clause). S ++ L) c.deref.ensures.value in
    let o = c.opposes.ensures.0 c.if-opposes.true in
    let i : IsIn o.0 K = subst (λ (L : Clause). IsIn o.0 L) c.deref-2.ensures.value o.1 in
    let t : IsTautology (S ++ K) = (o.0, IsIn-append_right o.0 S K i, subst (λ (T : Clause). IsIn (negation o.0) T) e o.2) in (
      r.0,
      r.1,
      subst (λ (T : Clause). IsCovered k.prefix X r.0 T g.plan.stages.items g.base (Some l)) (sym e)
          (covered-opposed k.prefix X r.0 S g.plan.stages.items g.base r.2.reached K (covered-growth k.prefix X l S q.some.0 K q.existential (IsIn-take S g.base l m) q.some.1 q.looked) m (others-within k c.args.c c.sound.ensures) t),
    )

pub returns : goal.returns
returns c =
    let k = c.args.kernel.now in
    let g = c.args.growth.now in
    let new = c.note.new.self in
    let S : Clause = g.set in
    let K : Clause = g.found.items in
    let X = others c.args.c (slots k) in
    let l : Literal = c.at-l.result in
    let r = c.requires.growing in
    let m : IsIn l (take g.base S) = place-front S c.args.place g.base l c.at-l.ensures c.requires.staged in
    let q = c.requires.found l c.at-l.ensures in
    let e : c.push_all.new.set ≡ S ++ K = c.in_ok-push_all.ensures ∙ ap (λ (L : Clause). S ++ L) c.deref.ensures.value in
    let n : (j : Literal) → IsIn j K → IsIn (negation j) (S ++ K) → ⊥ = λ j i x. test-false c.opposes.result c.opposes.ensures c.if-opposes.false (j, subst (λ (L : Clause). IsIn j L) (sym c.deref-2.ensures.value) i, subst (λ (T : Clause). IsIn (negation j) T) (sym e) x) in
    let z : ℕ = length (S ++ K) in
    let f : length c.push_all.new.set ≡ z = ap length e in
    let places : HasPlaces g.asked.items (length S) z c.add_places.new.places.items =
    subst (λ (n : ℕ). HasPlaces g.asked.items n z c.add_places.new.places.items) c.len-before.ensures
    (subst (λ (n : ℕ). HasPlaces g.asked.items c.len-before.result n c.add_places.new.places.items) (c.len.ensures ∙ f) c.in_ok-add_places.ensures) in
    let asked : new.asked.items ≡ c.add_places.new.places.items = ap (λ v. v.items) c.in_ok-note.ensures.asked in
    let stage : Stage = record { to = z; on = Some l } in
    let stages : new.plan.stages.items ≡ g.plan.stages.items ++ stage ∷ [] = c.in_ok-note.ensures.stages ∙ ap (λ (n : ℕ). g.plan.stages.items ++ record { to = n; on = Some l } ∷ []) f in
    let longer : IsLonger g new = record { added = K; set = c.in_ok-note.ensures.set ∙ e; worked = c.in_ok-note.ensures.worked } in (
      (
        r.0,
        r.1,
        subst (λ (T : Clause). IsGrowing k.prefix X r.0 T new.plan.stages.items new.base new.worked) (sym (c.in_ok-note.ensures.set ∙ e))
            (subst (λ (ss : List Stage). IsGrowing k.prefix X r.0 (S ++ K) ss new.base new.worked) (sym stages)
            (subst (λ (n : ℕ). IsGrowing k.prefix X r.0 (S ++ K) (g.plan.stages.items ++ stage ∷ []) n new.worked) (sym (c.in_ok-note.ensures.base ∙ f))
            (subst (λ (n : ℕ). IsGrowing k.prefix X r.0 (S ++ K) (g.plan.stages.items ++ stage ∷ []) z n) (sym c.in_ok-note.ensures.worked)
            (growing-covered k.prefix X r.0 S g.plan.stages.items g.base g.worked r.2 K (covered-growth k.prefix X l S q.some.0 K q.existential (IsIn-take S g.base l m) q.some.1 q.looked) m (others-within k c.args.c c.sound.ensures) n)))),
        subst (λ (T : Clause). IsAsked X T new.asked.items) (sym (c.in_ok-note.ensures.set ∙ e))
            (subst (λ (xs : List ℕ). IsAsked X (S ++ K) xs) (sym asked) (asked-covered X S K g.asked.items c.add_places.new.places.items places r.3)),
      ),
      longer,
    )
