use Rattle.q_kernel.specs.Prelude.{slots}
use Rattle.q_reduce.specs.Paths.{Leads}
use Rattle.q_reduce.proofs.ForestPaths.{leads-back}
use Rattle.q_reduce.proofs.forest.Forest.joins.Goals as goal
use Rattle.q_reduce.proofs.forest.Forest.joins.Goals.{then-depth+in-Some, else-depth+in-Some-parent_of_free}

pub loop-init : goal.loop-init
loop-init c = let h = c.requires.negation in record { near = λ l. l; far = Leads.there c.args.d h.0 h.1 h.2 }

pub loop-preserved : goal.loop-preserved
loop-preserved c =
    let k = c.args.kernel.now in
    elim c.if-depth.branch [
      | then-depth+in-Some w ↦ record {
        near = rw w.near-is (λ l. c.loop.invariant.near (Leads.on c.loop.near w.in-Some.parent (w.free_parent.ensures.joined w.in-Some.parent w.in-Some.is) (w.free_parent.ensures.lacks w.in-Some.parent w.in-Some.is) l));
        far = rw w.far-is c.loop.invariant.far;
      }
      | else-depth+in-Some-parent_of_free w ↦
          let p = w.in-Some-parent_of_free.parent in
          record {
            near = rw w.near-is c.loop.invariant.near;
            far = rw w.far-is (leads-back k.prefix (slots k) c.args.lit c.loop.far p (w.parent_of_free.ensures.joined p w.in-Some-parent_of_free.is) (w.parent_of_free.ensures.lacks p w.in-Some-parent_of_free.is) c.loop.invariant.far);
          }
    ]
