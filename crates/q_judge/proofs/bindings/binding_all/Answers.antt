use Rattle.std.proofs.Common.{◌∙◌, ◌++◌, ◌∷◌, ◌<◌, ◌≤◌, ℕ, List, Option, take, drop, get_or, length, sym, subst, arith, add-one, suc, ◌+◌}
use Rattle.q_logic.specs.declared.formulas.Quant.TheVariants.{Exists}
use Rattle.q_logic.specs.declared.formulas.Bound.{Bound}
use Rattle.q_logic.specs.Prelude.{Prefix, Distinct}
use Rattle.q_logic.proofs.Common.{get_or-is_bound}
use Rattle.q_pages.specs.Rows.{KeepsPages}
use Rattle.q_judge.specs.declared.bindings.Binding.{Binding}
use Rattle.q_judge.specs.Scopes.{next_rank, AreNumbered}
use Rattle.q_judge.proofs.ScopedPrefix.{IsScoping, scoping-taken, scoping-few, scoping-low, scoping-done, take-past, drop-past, take-next, drop-here, take-drop, take-size, first-drop}
use Rattle.q_judge.proofs.bindings.binding_all.Goals as goal

-- what is to come begins with the next variable
here : (P : Prefix) (i : ℕ) (d : Bound) → i < length P → (room kinds : ℕ) (bindings : List (Option Binding)) (counts : List ℕ) (last : Option Bound) (rank : ℕ) → IsScoping (take i P) (drop i P) room kinds bindings counts last rank → IsScoping (take i P) (get_or P i d ∷ drop (suc i) P) room kinds bindings counts last rank
here P i d l room kinds bindings counts last rank h = subst (λ (C : Prefix). IsScoping (take i P) C room kinds bindings counts last rank) (drop-here P i d l) h

apart : (P : Prefix) (i : ℕ) (d : Bound) → i < length P → Distinct P → Distinct (take i P ++ get_or P i d ∷ drop (suc i) P)
apart P i d l h = subst (λ (C : Prefix). Distinct (take i P ++ C)) (drop-here P i d l) (subst (λ (Q : Prefix). Distinct Q) (sym (take-drop P i)) h)

less : (i n : ℕ) → i < n → i ≤ n
less i n h = omega arith

pub take_binding-numbering-requires-clause-room : goal.take_binding-numbering-requires-clause-room
take_binding-numbering-requires-clause-room c =
    let d : Bound = record { quant = Exists; var = 0 } in
    let v = (get_or c.args.prefix.now c.loop-i.i d).var in
    c.loop-i.invariant.0.made v (c.requires.room v (get_or-is_bound c.args.prefix.now c.loop-i.i d c.loop-i-test.true))

pub take_binding-numbering-requires-clause-few : goal.take_binding-numbering-requires-clause-few
take_binding-numbering-requires-clause-few c =
    let d : Bound = record { quant = Exists; var = 0 } in
    let P = c.args.prefix.now in
    let i = c.loop-i.i in
    let b = get_or P i d in
    let s = c.loop-i in
    let h = here P i d c.loop-i-test.true (length c.args.bindings.now.items) (length c.args.counts.now.items) s.bindings.items s.counts.items s.numbering.last s.numbering.rank s.invariant.1 in
    let few = scoping-few (take i P) b (drop (suc i) P) (apart P i d c.loop-i-test.true c.requires.distinct) (length c.args.bindings.now.items) (length c.args.counts.now.items) s.bindings.items s.counts.items s.numbering.last s.numbering.rank h (next_rank s.numbering.last s.numbering.rank b.quant) in
    let size = take-size P i (less i (length P) c.loop-i-test.true) in
    let k = s.counts.ok in
    omega (arith, few, size, c.loop-i-test.true, c.requires.counts, s.invariant.1.wide, k.0, k.1, s.counts.small)

pub loop-i-preserved : goal.loop-i-preserved
loop-i-preserved c =
    let d : Bound = record { quant = Exists; var = 0 } in
    let P = c.args.prefix.now in
    let i = c.loop-i.i in
    let b = get_or P i d in
    let s = c.loop-i in
    let h = here P i d c.loop-i-test.true (length c.args.bindings.now.items) (length c.args.counts.now.items) s.bindings.items s.counts.items s.numbering.last s.numbering.rank s.invariant.1 in
    let u = apart P i d c.loop-i-test.true c.requires.distinct in
    let low = scoping-low (take i P) b (drop (suc i) P) u (length c.args.bindings.now.items) (length c.args.counts.now.items) s.bindings.items s.counts.items s.numbering.last s.numbering.rank h in
    let size = take-size P i (less i (length P) c.loop-i-test.true) in
    let t = c.take_binding-numbering.ensures in
    let f = rw add-one at (c.var_at-after.ensures ∙ first-drop P (i + 1)) in
    let kept : KeepsPages c.args.bindings.now c.take_binding-numbering.new.bindings = record {
      none = t.kept.none ∙ s.invariant.0.none;
      length = (let a = t.kept.length in let b = s.invariant.0.length in omega arith);
      made = λ v m. t.kept.made v (s.invariant.0.made v m);
    } in (
      kept,
      rw (t.bindings, t.counts, t.numbering, f, add-one, take-next P i d c.loop-i-test.true)
          (scoping-taken (take i P) b (drop (suc i) P) u (length c.args.bindings.now.items) (length c.args.counts.now.items) s.bindings.items s.counts.items s.numbering.last s.numbering.rank h
          (c.requires.room b.var (get_or-is_bound P i d c.loop-i-test.true)).0 (omega (arith, low, size, c.requires.counts, c.loop-i-test.true))),
    )

done : (P : Prefix) (i room kinds : ℕ) (bindings : List (Option Binding)) (counts : List ℕ) (last : Option Bound) (rank : ℕ) → Distinct P → length P ≤ i → IsScoping (take i P) (drop i P) room kinds bindings counts last rank → AreNumbered P bindings counts
done P i room kinds bindings counts last rank d l h = scoping-done P d room kinds bindings counts last rank (subst (λ (C : Prefix). IsScoping P C room kinds bindings counts last rank) (drop-past P i l) (subst (λ (A : Prefix). IsScoping A (drop i P) room kinds bindings counts last rank) (take-past P i l) h))

pub returns : goal.returns
returns c = done c.args.prefix.now c.loop-i.i (length c.args.bindings.now.items) (length c.args.counts.now.items) c.loop-i.bindings.items c.loop-i.counts.items c.loop-i.numbering.last c.loop-i.numbering.rank c.requires.distinct c.loop-i-test.false c.loop-i.invariant.1
