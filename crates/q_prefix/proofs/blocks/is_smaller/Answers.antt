use Rattle.std.proofs.Common.{◌≡◌, ◌<◌, ◌∙◌, sym, arith, ℕ, suc, true, false, length}
use Rattle.std.specs.Prelude.{nat_le}
use Rattle.std.proofs.lemmas.Bool.Decides.{nat_tests}
use Rattle.q_arena.specs.Prelude.{list_at}
use Rattle.q_prefix.specs.Order.{rank_of}
use Rattle.q_prefix.specs.Blocks.{ahead, block_from}
use Rattle.q_prefix.proofs.NewRanks.{apart-ahead, has-ahead, ahead-has, block-last, block-more, block-some, mate-has}
use Rattle.q_prefix.proofs.blocks.is_smaller.Goals as goal

last-first : (m n : ℕ) → m ≡ 1 → 0 < n → true ≡ nat_le m n
last-first m n e h = grind (arith, nat_tests)

last-second : (k m n : ℕ) → m ≡ suc k → 0 < k → n ≡ 1 → false ≡ nat_le m n
last-second k m n e h f = grind (arith, nat_tests)

both-more : (k l m n : ℕ) → m ≡ suc k → n ≡ suc l → nat_le k l ≡ nat_le m n
both-more k l m n e f = grind (arith, nat_tests)

pub returns-in_default : goal.returns-in_default
returns-in_default c =
    let rank = rank_of c.args.marks.now.items in
    let vars = list_at c.args.order.now 0 in
    let apart = c.distinct.ensures.apart 0 in
    let first = block-last rank (ahead false vars) c.loop-b.before (apart-ahead false vars apart) (has-ahead false vars c.loop-b.before c.loop-b.invariant.before) (sym c.mate.ensures ∙ c.in_default.is) in
    let second = block-some rank (ahead true vars) c.loop-b.after (apart-ahead true vars apart) (has-ahead true vars c.loop-b.after c.loop-b.invariant.after) in
    last-first (length (block_from rank c.loop-b.before (ahead false vars))) (length (block_from rank c.loop-b.after (ahead true vars))) first second ∙ c.loop-b.invariant.same

pub returns-in_default-mate : goal.returns-in_default-mate
returns-in_default-mate c =
    let rank = rank_of c.args.marks.now.items in
    let vars = list_at c.args.order.now 0 in
    let apart = c.distinct.ensures.apart 0 in
    let e = sym c.mate.ensures ∙ c.in-Some.is in
    let first = block-more rank (ahead false vars) c.loop-b.before (apart-ahead false vars apart) (has-ahead false vars c.loop-b.before c.loop-b.invariant.before) c.in-Some.b e in
    let rest = block-some rank (ahead false vars) c.in-Some.b (apart-ahead false vars apart) (mate-has rank (ahead false vars) c.loop-b.before c.in-Some.b e) in
    let second = block-last rank (ahead true vars) c.loop-b.after (apart-ahead true vars apart) (has-ahead true vars c.loop-b.after c.loop-b.invariant.after) (sym c.mate-in-loop-b.ensures ∙ c.in_default-mate.is) in
    last-second (length (block_from rank c.in-Some.b (ahead false vars))) (length (block_from rank c.loop-b.before (ahead false vars))) (length (block_from rank c.loop-b.after (ahead true vars))) first rest second ∙ c.loop-b.invariant.same

pub loop-b-smaller : goal.loop-b-smaller
loop-b-smaller c =
    let rank = rank_of c.args.marks.now.items in
    let vars = list_at c.args.order.now 0 in
    let e = sym c.mate-in-loop-b.ensures ∙ c.in-Some-mate.is in
    let more : length (block_from rank c.loop-b.after vars) ≡ suc (length (block_from rank c.in-Some-mate.a vars)) = block-more rank vars c.loop-b.after (c.distinct.ensures.apart 0) c.loop-b.invariant.after c.in-Some-mate.a e in
    omega (arith, more)

pub loop-b-preserved : goal.loop-b-preserved
loop-b-preserved c =
    let rank = rank_of c.args.marks.now.items in
    let vars = list_at c.args.order.now 0 in
    let apart = c.distinct.ensures.apart 0 in
    let e = sym c.mate.ensures ∙ c.in-Some.is in
    let f = sym c.mate-in-loop-b.ensures ∙ c.in-Some-mate.is in
    let first = block-more rank (ahead false vars) c.loop-b.before (apart-ahead false vars apart) (has-ahead false vars c.loop-b.before c.loop-b.invariant.before) c.in-Some.b e in
    let second = block-more rank vars c.loop-b.after apart c.loop-b.invariant.after c.in-Some-mate.a f in
    record {
      before = ahead-has false vars c.in-Some.b (mate-has rank (ahead false vars) c.loop-b.before c.in-Some.b e);
      after = mate-has rank vars c.loop-b.after c.in-Some-mate.a f;
      same = both-more (length (block_from rank c.in-Some.b (ahead false vars))) (length (block_from rank c.in-Some-mate.a vars)) (length (block_from rank c.loop-b.before (ahead false vars))) (length (block_from rank c.loop-b.after vars)) first second ∙ c.loop-b.invariant.same;
    }
