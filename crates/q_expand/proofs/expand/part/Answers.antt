use Rattle.std.proofs.Common.{◌≡◌, ◌++◌, ◌∙◌, List, ℕ, Some, sym, subst}
use Rattle.q_logic.specs.Prelude.{ProofStep, Clause, Slots, slot, clauses_at}
use Rattle.q_kernel.specs.Lists.{Has}
use Rattle.q_kernel.specs.Prelude.{Seen, slots}
use Rattle.q_expand.specs.Tracks.{CanTake, HasTaken, KeepsClauses}
use Rattle.q_expand.specs.Steps.{each_with, copy_step, link_steps, unlink_steps, all_split}
use Rattle.q_expand.proofs.StepQueue.{took-through, can-first, can-rest}
use Rattle.q_expand.proofs.ExpansionRequirements.{clauses-kept}
use Rattle.q_expand.proofs.expand.part.Goals as goal

module _ (k a b d e : Seen) (A L S U : List ProofStep) where
  second : HasTaken k a A → CanTake k (A ++ (L ++ (S ++ U))) → CanTake a L
  second f h = can-first a L (S ++ U) (can-rest k a A (L ++ (S ++ U)) f h)

  third : HasTaken k a A → HasTaken a b L → CanTake k (A ++ (L ++ (S ++ U))) → CanTake b S
  third f g h = can-first b S U (can-rest a b L (S ++ U) g (can-rest k a A (L ++ (S ++ U)) f h))

  fourth : HasTaken k a A → HasTaken a b L → HasTaken b d S → CanTake k (A ++ (L ++ (S ++ U))) → CanTake d U
  fourth f g i h = can-rest b d S U i (can-rest a b L (S ++ U) g (can-rest k a A (L ++ (S ++ U)) f h))

  whole : HasTaken k a A → HasTaken a b L → HasTaken b d S → HasTaken d e U → HasTaken k e (A ++ (L ++ (S ++ U)))
  whole f g i j = took-through k a e A (L ++ (S ++ U)) f (took-through a b e L (S ++ U) g (took-through b d e S U i j))

kept : (k a b : Seen) (cs : List ℕ) → slots a ≡ slots k → KeepsClauses a b → ((c : ℕ) → Has cs c → (C : Clause) × (slot (slots k) c ≡ Some C)) → clauses_at (slots k) cs ≡ clauses_at (slots b) cs
kept k a b cs e f h = clauses-kept (slots k) (slots b) cs (λ c m. let r = h c m in r.1 ∙ sym (f c r.0 (subst (λ (N : Slots). slot N c ≡ Some r.0) (sym e) r.1)))

pub link_all-requires-clause-steps : goal.link_all-requires-clause-steps
link_all-requires-clause-steps c =
    let k = c.args.kernel.now in let u = c.args.u.var in let V = c.args.order.now in let t = c.args.first in
    second k c.put_copies.new.kernel k k k (each_with copy_step V t) (each_with (link_steps u) V t) (all_split u V t (clauses_at (slots k) c.args.dependents.now.met)) (each_with (unlink_steps u) V t) c.put_copies.ensures.taken c.requires.steps

pub split_all-requires-clause-steps : goal.split_all-requires-clause-steps
split_all-requires-clause-steps c =
    let k = c.args.kernel.now in let u = c.args.u.var in let V = c.args.order.now in let t = c.args.first in let b = c.link_all.new.kernel in
    subst (λ W. CanTake b (all_split u V t W)) (kept k c.put_copies.new.kernel b c.args.dependents.now.met c.put_copies.ensures.same c.link_all.ensures.keeps (λ i h. let r = c.requires.room i h in (r.0, r.1)))
    (third k c.put_copies.new.kernel b k k (each_with copy_step V t) (each_with (link_steps u) V t) (all_split u V t (clauses_at (slots k) c.args.dependents.now.met)) (each_with (unlink_steps u) V t) c.put_copies.ensures.taken c.link_all.ensures.taken c.requires.steps)

pub unlink_all-requires-clause-steps : goal.unlink_all-requires-clause-steps
unlink_all-requires-clause-steps c =
    let k = c.args.kernel.now in let u = c.args.u.var in let V = c.args.order.now in let t = c.args.first in let b = c.link_all.new.kernel in
    let s : HasTaken b c.split_all.new.kernel (all_split u V t (clauses_at (slots k) c.args.dependents.now.met)) = subst (λ W. HasTaken b c.split_all.new.kernel (all_split u V t W)) (sym (kept k c.put_copies.new.kernel b c.args.dependents.now.met c.put_copies.ensures.same c.link_all.ensures.keeps (λ i h. let r = c.requires.room i h in (r.0, r.1)))) c.split_all.ensures in
    fourth k c.put_copies.new.kernel b c.split_all.new.kernel k (each_with copy_step V t) (each_with (link_steps u) V t) (all_split u V t (clauses_at (slots k) c.args.dependents.now.met)) (each_with (unlink_steps u) V t) c.put_copies.ensures.taken c.link_all.ensures.taken s c.requires.steps

pub returns : goal.returns
returns c =
    let k = c.args.kernel.now in let u = c.args.u.var in let V = c.args.order.now in let t = c.args.first in let b = c.link_all.new.kernel in
    let s : HasTaken b c.split_all.new.kernel (all_split u V t (clauses_at (slots k) c.args.dependents.now.met)) = subst (λ W. HasTaken b c.split_all.new.kernel (all_split u V t W)) (sym (kept k c.put_copies.new.kernel b c.args.dependents.now.met c.put_copies.ensures.same c.link_all.ensures.keeps (λ i h. let r = c.requires.room i h in (r.0, r.1)))) c.split_all.ensures in
    whole k c.put_copies.new.kernel b c.split_all.new.kernel c.unlink_all.new.kernel (each_with copy_step V t) (each_with (link_steps u) V t) (all_split u V t (clauses_at (slots k) c.args.dependents.now.met)) (each_with (unlink_steps u) V t) c.put_copies.ensures.taken c.link_all.ensures.taken s c.unlink_all.ensures.taken
