use Rattle.std.proofs.Common.{◌∙◌, sym, subst, inl, inr}
use Rattle.q_logic.specs.Prelude.{IsIn}
use Rattle.q_logic.proofs.Common.{universal-is_bound}
use Rattle.q_judge.proofs.regions.Regions.take.Goals as goal

pub fit-requires : goal.fit-requires
fit-requires c = rw (← c.self.view_is) (universal-is_bound c.args.scope.now c.self.inside.var (sym c.is_universal.ensures ∙ c.if-is_universal.true))

-- the clause's variables are in one region then, and what was one region still is
pub returns-then-not-fit : goal.returns-then-not-fit
returns-then-not-fit c X all u D m j k a b f g =
    let before = rw (← c.self.view_is) at all in
    elim m [
      | inl e ↦
          let one = c.merge.ensures.one in
          one j (subst (IsIn j) e a) ∙ sym (one k (subst (IsIn k) e b))
      | inr i ↦ c.merge.ensures.coarser j.var k.var (before u D i j k a b f g)
    ]
