use Rattle.std.proofs.Common.{◌≡◌, ◌+◌, ◌<◌, ◌∙◌, ap, arith, length, refl, get_or, ◌∷◌, inl, inr}
use Rattle.std.proofs.lemmas.List.{get_or_default}
use Rattle.q_logic.specs.Prelude.{pack}
use Rattle.q_arena.specs.Prelude.{list_at}
use Rattle.q_arena.proofs.ArenaView.{length-set'}
use Rattle.q_occ.specs.Places.{no_lit}
use Rattle.q_occ.proofs.LinkSteps.{linked-none, linked-more, owned-none, owned-more}
use Rattle.q_occ.proofs.linking.link_all.Goals as goal

pub loop-k-init : goal.loop-k-init
loop-k-init c = record {
  linked = linked-none c.args.rings.now c.args.lits.now c.args.start;
  owned = owned-none c.args.rings.now.owners c.args.start c.args.id;
  heads = refl;
  room = refl;
}

pub push_front-requires-clause-fresh : goal.push_front-requires-clause-fresh
push_front-requires-clause-fresh c = λ m h.
    elim ((c.loop-k.invariant.linked m (c.args.start + c.loop-k.k)).0 h) [
      | inl a ↦ c.requires.fresh c.loop-k.k m c.loop-k-test.true a
      | inr b ↦ absurd (let e : c.args.start + c.loop-k.k ≡ c.args.start + b.at_index = b.is in let r : b.at_index < c.loop-k.k = b.in_range in omega (arith, e, r))
    ]

pub push_front-requires-clause-head : goal.push_front-requires-clause-head
push_front-requires-clause-head c =
    let d : c.index-lits-k.result ≡ get_or c.args.lits.now c.loop-k.k no_lit = c.index-lits-k.is ∙ get_or_default c.args.lits.now c.loop-k.k c.index-lits-k.result no_lit c.loop-k-test.true in
    let e : c.index.result ≡ pack (get_or c.args.lits.now c.loop-k.k no_lit) = c.index.ensures ∙ ap pack d in
    let h = c.requires.heads c.loop-k.k c.loop-k-test.true in
    rw e (omega (arith, h, c.loop-k.invariant.heads))

pub loop-k-preserved : goal.loop-k-preserved
loop-k-preserved c =
    let d : c.index-lits-k.result ≡ get_or c.args.lits.now c.loop-k.k no_lit = c.index-lits-k.is ∙ get_or_default c.args.lits.now c.loop-k.k c.index-lits-k.result no_lit c.loop-k-test.true in
    let e : c.index.result ≡ pack (get_or c.args.lits.now c.loop-k.k no_lit) = c.index.ensures ∙ ap pack d in
    let h = c.requires.heads c.loop-k.k c.loop-k-test.true in
    let hh : c.index.result < length c.loop-k.rings.lists = rw e (omega (arith, h, c.loop-k.invariant.heads)) in
    let room : c.args.start + c.loop-k.k < length c.loop-k.rings.owners = let r = c.requires.room c.loop-k.k c.loop-k-test.true in omega (arith, r, c.loop-k.invariant.room) in
    record {
      linked = linked-more c.args.rings.now c.loop-k.rings c.push_front.new.self c.args.lits.now c.args.start c.loop-k.k c.index.result c.loop-k.invariant.linked e hh c.push_front.ensures.lists;
      owned = owned-more c.args.rings.now.owners c.loop-k.rings.owners c.push_front.new.self.owners c.args.start c.loop-k.k c.args.id c.loop-k.invariant.owned room c.push_front.ensures.owners;
      heads = ap length c.push_front.ensures.lists ∙ length-set' c.loop-k.rings.lists c.index.result ((c.args.start + c.loop-k.k) ∷ list_at c.loop-k.rings c.index.result) ∙ c.loop-k.invariant.heads;
      room = ap length c.push_front.ensures.owners ∙ length-set' c.loop-k.rings.owners (c.args.start + c.loop-k.k) c.args.id ∙ c.loop-k.invariant.room;
    }
