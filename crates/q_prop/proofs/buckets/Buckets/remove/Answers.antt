use Rattle.std.proofs.Common.{◌≡◌, Some, slice_get, ap, sym, ◌∙◌, ℕ, arith, Contains}
use Rattle.std.proofs.lemmas.Option.{slice_get_within}
use Rattle.q_prop.specs.Buckets.{bucket_of, first_of, IsWalk}
use Rattle.q_prop.proofs.SlotLemmas.{slice_get-at}
use Rattle.q_prop.proofs.BucketLemmas.{first_of-within, short-set, in-bucket, slot-within, chained-first, chained-cut}
use Rattle.q_prop.proofs.buckets.Buckets.remove.Goals as goal

pub index-behind-requires : goal.index-behind-requires
index-behind-requires c =
    let b = c.args.self.now in
    let inside = slot-within c.requires.0 c.args.slot c.args.lits.now c.requires.2 b.count b.firsts.items b.nexts.items c.requires.1.chained in
    omega (arith, inside, b.nexts.ok.0)

pub index_mut-requires : goal.index_mut-requires
index_mut-requires c =
    let b = c.args.self.now in
    let hp : slice_get b.nexts.items c.in-Some.place ≡ Some c.args.slot = rw c.deref.ensures.value at c.in-Some.ensures.0 in
    let inside = slice_get_within b.nexts.items c.in-Some.place c.args.slot hp in
    omega (arith, inside, b.nexts.ok.0)

pub index_mut-requires-in-None : goal.index_mut-requires-in-None
index_mut-requires-in-None c =
    let b = c.args.self.now in
    let h = c.requires.1 in
    let k = bucket_of b.count c.args.lits.now in
    let f : c.first.result ≡ first_of b.firsts.items k = rw (c.deref-2.ensures.value, c.bucket-k.ensures.value) at c.first.ensures in
    let walk : IsWalk b.nexts.items c.first.result (h.chained k).slots = rw f (h.chained k).walk in
    let inside = slot-within c.requires.0 c.args.slot c.args.lits.now c.requires.2 b.count b.firsts.items b.nexts.items h.chained in
    let in' = in-bucket c.requires.0 c.args.slot c.args.lits.now c.requires.2 b.count b.firsts.items b.nexts.items h.chained in
    let is : c.first.result ≡ c.args.slot = (rw c.deref.ensures.value at c.in-None.ensures) (h.chained k).slots walk in' in
    let room = first_of-within b.firsts.items k (omega (arith, sym f ∙ is, inside, h.short)) in
    omega (arith, room, c.bucket-k.ensures.value, b.firsts.ok.0)

pub returns-in-Some : goal.returns-in-Some
returns-in-Some c s h here =
    let b = c.args.self.now in
    let lits = c.args.lits.now in
    let k = bucket_of b.count lits in
    let hp : slice_get b.nexts.items c.in-Some.place ≡ Some c.args.slot = rw c.deref.ensures.value at c.in-Some.ensures.0 in
    let f : c.first.result ≡ first_of b.firsts.items k = rw (c.deref-2.ensures.value, c.bucket-k.ensures.value) at c.first.ensures in
    let walk : IsWalk b.nexts.items c.first.result (h.chained k).slots = rw f (h.chained k).walk in
    let p_in : Contains (h.chained k).slots c.in-Some.place = (rw c.deref.ensures.value at c.in-Some.ensures.1) (h.chained k).slots walk in
    let inside = slot-within s c.args.slot lits here b.count b.firsts.items b.nexts.items h.chained in
    let hn : slice_get b.nexts.items c.args.slot ≡ Some c.index-behind.result.now = slice_get-at b.nexts.items c.args.slot c.index-behind.result.now inside ∙ ap (λ (x : ℕ). Some x) (sym c.index-behind.ensures) in
    record {
      chained = chained-cut s c.args.slot lits here b.count b.firsts.items b.nexts.items h.chained c.in-Some.place c.index-behind.result.now h.short p_in hp hn;
      short = short-set b.nexts.items c.in-Some.place c.index-behind.result.now h.short;
      positive = h.positive;
    }

pub returns-in-None : goal.returns-in-None
returns-in-None c s h here =
    let b = c.args.self.now in
    let lits = c.args.lits.now in
    let k = bucket_of b.count lits in
    let f : c.first.result ≡ first_of b.firsts.items k = rw (c.deref-2.ensures.value, c.bucket-k.ensures.value) at c.first.ensures in
    let walk : IsWalk b.nexts.items c.first.result (h.chained k).slots = rw f (h.chained k).walk in
    let inside = slot-within s c.args.slot lits here b.count b.firsts.items b.nexts.items h.chained in
    let in' = in-bucket s c.args.slot lits here b.count b.firsts.items b.nexts.items h.chained in
    let is : c.first.result ≡ c.args.slot = (rw c.deref.ensures.value at c.in-None.ensures) (h.chained k).slots walk in' in
    let is' : first_of b.firsts.items k ≡ c.args.slot = sym f ∙ is in
    let room = first_of-within b.firsts.items k (omega (arith, is', inside, h.short)) in
    let hn : slice_get b.nexts.items c.args.slot ≡ Some c.index-behind.result.now = slice_get-at b.nexts.items c.args.slot c.index-behind.result.now inside ∙ ap (λ (x : ℕ). Some x) (sym c.index-behind.ensures) in
    record {
      chained = rw c.bucket-k.ensures.value (chained-first s c.args.slot lits here b.count b.firsts.items b.nexts.items h.chained c.index-behind.result.now h.short is' room hn);
      short = h.short;
      positive = h.positive;
    }
