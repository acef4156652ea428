use Rattle.std.proofs.Common.{◌≡◌, ◌≤◌, ◌+◌, ◌-◌, ℕ, set, Some, ap, arith, refl, sym, ◌∙◌}
use Rattle.std.proofs.lemmas.Option.{same_Some}
use Rattle.q_logic.specs.Prelude.{slot, live, set_slot, Literal, IsBelow, Clause, IsIn, ArePairs, without, Within}
use Rattle.q_logic.proofs.Common.{live-slot}
use Rattle.q_arena.specs.Prelude.{Chains, Clauses, clause_at}
use Rattle.q_prefix.specs.Order.{FlatPrefix}
use Rattle.q_kernel.specs.Uses.{Groups}
use Rattle.q_kernel.specs.Invariant.{empty_ones, IsKernel}
use Rattle.q_kernel.specs.Singles.{unit_ones}
use Rattle.q_kernel.proofs.KernelInvariant.{kernel-shorter, changed-slots, clause-proper, counted-bounds, counted-shorter, length-shorter, unit-shorter}
use Rattle.q_kernel.proofs.ListUpdates.{clause-set, clause-within}
use Rattle.q_kernel.proofs.KernelSizes.{clause_at-slot, counts-small}
use Rattle.q_kernel.proofs.kernel.Kernel.shorten.Goals as goal

-- The clause C loses the literal l: where it stands, and what the counts become.
record Loses (P : FlatPrefix) (a : Clauses) (id : ℕ) (l : Literal) (C : Clause) (s e u : ℕ) : Type 0 where
  there : clause_at a id ≡ Some C
  proper : ArePairs IsBelow C × Within P.bounds C
  size : 1 ≤ s
  units : unit_ones C ≤ u
  unit : unit_ones C ≡ empty_ones (without l C)
  empties : e + empty_ones (without l C) ≤ s
  after : u + unit_ones (without l C) - empty_ones (without l C) ≤ s - 1

module _ {P : FlatPrefix} {a : Clauses} {o : Chains} {g : Groups} {n s e u t most : ℕ} (k : IsKernel P a o g n s e u t most) (id : ℕ) (l : Literal) where
  loses : (r : (C : Clause) × (slot a.clauses id ≡ Some C) × IsIn l C) → Loses P a id l r.0 s e u
  loses r =
      let C : Clause = r.0 in
      let D : Clause = without l C in
      let w = clause-proper P.bounds (live a.clauses) C k.proper (live-slot a.clauses id C r.1) in
      let less = length-shorter l C w.0 r.2 in
      let b = counted-bounds a.clauses id C n s e u r.1 k.counted in
      let small = counts-small (live (set_slot id (Some D) a.clauses)) n (s - 1) (e + empty_ones D) (u + unit_ones D - empty_ones D) (counted-shorter a.clauses id C D n s e u r.1 less k.counted) in
      record {
        there = clause_at-slot a id C r.1;
        proper = w;
        size = omega (arith, b.1);
        units = b.3;
        unit = unit-shorter C D less;
        empties = omega (arith, small.1);
        after = small.2;
      }

-- The clause that stands there then.
then-there : (a b : Clauses) (id : ℕ) (l : Literal) (C : Clause) → clause_at a id ≡ Some C → b.clauses ≡ set a.clauses id (Some (without l C)) → clause_at b id ≡ Some (without l C)
then-there a b id l C h e = clause-set a b id (Some (without l C)) (clause-within a id C h) e

pub shorten-requires-clause-live : goal.shorten-requires-clause-live
shorten-requires-clause-live c =
    let r = rw (← c.self.view_is) at c.requires in
    (r.0, (loses c.self.invariant c.args.id c.args.lit r).there, r.2)

pub vanish-requires-clause-bound : goal.vanish-requires-clause-bound
vanish-requires-clause-bound c =
    let r = rw (← c.self.view_is) at c.requires in
    (loses c.self.invariant c.args.id c.args.lit r).proper.1 c.args.lit r.2

pub overflow_sub-self : goal.overflow_sub-self
overflow_sub-self c = (loses c.self.invariant c.args.id c.args.lit (rw (← c.self.view_is) at c.requires)).size

pub lits-lits-requires : goal.lits-lits-requires
lits-lits-requires c =
    let r = rw (← c.self.view_is) at c.requires in
    let m = loses c.self.invariant c.args.id c.args.lit r in
    (without c.args.lit r.0, then-there c.self.inside.arena c.shorten.new.arena c.args.id c.args.lit r.0 m.there (c.shorten.ensures.clauses r.0 m.there))

pub overflow_add-self : goal.overflow_add-self
overflow_add-self c =
    let r = rw (← c.self.view_is) at c.requires in
    let D : Clause = without c.args.lit r.0 in
    let m = loses c.self.invariant c.args.id c.args.lit r in
    let there = then-there c.self.inside.arena c.shorten.new.arena c.args.id c.args.lit r.0 m.there (c.shorten.ensures.clauses r.0 m.there) in
    let same = same_Some c.lits-lits.result.now D (sym c.lits-lits.ensures.clause ∙ there) in
    let v = c.empty_ones-empty.ensures.value ∙ ap empty_ones same in
    omega (arith, m.empties, v, c.self.ranges)

pub overflow_add-self-2 : goal.overflow_add-self-2
overflow_add-self-2 c =
    let r = rw (← c.self.view_is) at c.requires in
    let D : Clause = without c.args.lit r.0 in
    let m = loses c.self.invariant c.args.id c.args.lit r in
    let there = then-there c.self.inside.arena c.shorten.new.arena c.args.id c.args.lit r.0 m.there (c.shorten.ensures.clauses r.0 m.there) in
    let same = same_Some c.lits-lits.result.now D (sym c.lits-lits.ensures.clause ∙ there) in
    let v = c.empty_ones-empty.ensures.value ∙ ap empty_ones same in
    let w = c.unit_ones.ensures.value ∙ ap unit_ones same in
    omega (arith, m.after, v, w, c.empty_ones-empty.ensures.small, m.size, c.self.ranges)

pub overflow_sub-self-2 : goal.overflow_sub-self-2
overflow_sub-self-2 c =
    let r = rw (← c.self.view_is) at c.requires in
    let D : Clause = without c.args.lit r.0 in
    let m = loses c.self.invariant c.args.id c.args.lit r in
    let there = then-there c.self.inside.arena c.shorten.new.arena c.args.id c.args.lit r.0 m.there (c.shorten.ensures.clauses r.0 m.there) in
    let same = same_Some c.lits-lits.result.now D (sym c.lits-lits.ensures.clause ∙ there) in
    let v = c.empty_ones-empty.ensures.value ∙ ap empty_ones same in
    omega (arith, m.units, v, m.unit)

pub invariant_of-self : goal.invariant_of-self
invariant_of-self c =
    let k = c.self.inside in
    let r = rw (← c.self.view_is) at c.requires in
    let m = loses c.self.invariant c.args.id c.args.lit r in
    let changed = c.shorten.ensures.clauses r.0 m.there in
    let same = same_Some c.lits-lits.result.now (without c.args.lit r.0) (sym c.lits-lits.ensures.clause ∙ then-there k.arena c.shorten.new.arena c.args.id c.args.lit r.0 m.there changed) in
    rw (c.empty_ones-empty.ensures.value, c.unit_ones.ensures.value, same)
    (kernel-shorter k.prefix k.arena k.occ k.uses k.count k.size k.empties k.units k.top k.greatest c.self.invariant c.shorten.new.arena c.shorten.new.occ c.vanish.new.uses c.args.id
    c.shorten.ensures.linked c.shorten.ensures.room c.shorten.ensures.kept c.vanish.ensures.room r.0 c.args.lit r.2 r.1 changed c.vanish.ensures.occurring)

pub returns : goal.returns
returns c =
    let k = c.self.inside in
    rw (← c.self.view_is) (record {
      change = λ C e. changed-slots k.arena c.shorten.new.arena c.args.id (Some (without c.args.lit C)) (c.shorten.ensures.clauses C (clause_at-slot k.arena c.args.id C e));
      kept = record { words = c.shorten.ensures.words; ids = omega (arith, c.shorten.ensures.ids) };
      rest = record { prefix = refl; text = refl; vars = refl; greatest = refl; bytes = refl };
    })
