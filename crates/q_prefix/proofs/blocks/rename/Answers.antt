use Rattle.std.proofs.Common.{◌≡◌, sym, ◌∙◌, ap, arith, ℕ, suc, refl, ◌∷◌, length, Option}
use Rattle.q_arena.specs.Prelude.{list_at}
use Rattle.q_prefix.specs.Order.{rank_of}
use Rattle.q_prefix.specs.Blocks.{ahead}
use Rattle.q_prefix.proofs.NewRanks.{block_of, apart-ahead, has-ahead, ahead-has, rest-left, renaming-begun, renaming-turn, renaming-done}
use Rattle.q_prefix.proofs.blocks.rename.Goals as goal

pub loop-at-init : goal.loop-at-init
loop-at-init c =
    let vars = ahead c.args.forward (list_at c.args.order.now 0) in
    record {
      len = refl;
      quant = λ v. refl;
      bound = λ v. refl;
      renaming = renaming-begun vars (rank_of c.args.marks.now.items) c.args.start c.args.to (has-ahead c.args.forward (list_at c.args.order.now 0) c.args.start c.requires.there);
    }

pub mate-at-requires : goal.mate-at-requires
mate-at-requires c = ahead-has c.args.forward (list_at c.args.order.now 0) c.in-Some.var (c.loop-at.invariant.renaming.there c.in-Some.var c.in-Some.is)

pub set_rank-requires : goal.set_rank-requires
set_rank-requires c =
    let within = c.requires.within c.in-Some.var (ahead-has c.args.forward (list_at c.args.order.now 0) c.in-Some.var (c.loop-at.invariant.renaming.there c.in-Some.var c.in-Some.is)) in
    omega (arith, within, c.loop-at.invariant.len)

pub loop-at-preserved : goal.loop-at-preserved
loop-at-preserved c =
    let vars = ahead c.args.forward (list_at c.args.order.now 0) in
    let renaming = c.loop-at.invariant.renaming in
    record {
      len = c.set_rank.ensures.len ∙ c.loop-at.invariant.len;
      quant = λ v. c.set_rank.ensures.quant v ∙ c.loop-at.invariant.quant v;
      bound = λ v. c.set_rank.ensures.bound v ∙ c.loop-at.invariant.bound v;
      renaming = renaming-turn vars (rank_of c.loop-at.marks.items) (rank_of c.set_rank.new.marks.items) c.in-Some.var
          (apart-ahead c.args.forward (list_at c.args.order.now 0) (c.distinct.ensures.apart 0)) (renaming.there c.in-Some.var c.in-Some.is) c.set_rank.ensures.others
          (rank_of c.args.marks.now.items) c.args.start c.args.to c.loop-at.at c.mate-at.result c.in-Some.is c.mate-at.ensures c.set_rank.ensures.rank renaming;
    }

pub loop-at-smaller : goal.loop-at-smaller
loop-at-smaller c =
    let vars = ahead c.args.forward (list_at c.args.order.now 0) in
    let now = rank_of c.loop-at.marks.items in
    let next = rank_of c.set_rank.new.marks.items in
    let left = rest-left vars now next c.in-Some.var
    (apart-ahead c.args.forward (list_at c.args.order.now 0) (c.distinct.ensures.apart 0)) (c.loop-at.invariant.renaming.there c.in-Some.var c.in-Some.is) c.set_rank.ensures.others in
    let fewer : length (block_of now c.loop-at.at vars) ≡ suc (length (block_of next c.mate-at.result vars)) =
    ap length (ap (λ (o : Option ℕ). block_of now o vars) c.in-Some.is ∙ left ∙ ap (λ (o : Option ℕ). c.in-Some.var ∷ block_of next o vars) (sym c.mate-at.ensures)) in
    omega (arith, fewer)

pub returns-clause-block : goal.returns-clause-block
returns-clause-block c =
    let vars = ahead c.args.forward (list_at c.args.order.now 0) in
    renaming-done vars (rank_of c.args.marks.now.items) (rank_of c.loop-at.marks.items) c.args.start c.args.to c.loop-at.at c.in_default.is c.loop-at.invariant.renaming
