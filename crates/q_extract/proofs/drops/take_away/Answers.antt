use Rattle.std.proofs.Common.{◌≡◌, ◌+◌, ◌++◌, ◌∷◌, [], ◌<◌, length, map, take, slice_get, Some, List, refl, sym, ap, ap₂, ◌∙◌, subst}
use Rattle.std.proofs.lemmas.List.{map_push}
use Rattle.q_logic.specs.Prelude.{Literal}
use Rattle.q_logic.proofs.Common.{taken}
use Rattle.q_long.specs.Valued.{Value}
use Rattle.q_long.specs.Decided.{Drop, drops_of}
use Rattle.q_extract.specs.Saying.{said_in}
use Rattle.q_extract.specs.Merges.{merge_circuits, value_at}
use Rattle.q_extract.specs.Rows.{kept_in, guards_in, values_next, IsMore}
use Rattle.q_extract.specs.declared.drops.Drops.{Drops}
use Rattle.q_extract.proofs.Chained.{more-guards, more-then, drops_of-last, guard-at, at-next}
use Rattle.q_extract.proofs.drops.take_away.Goals as goal

pub loop-lit-init : goal.loop-lit-init
loop-lit-init c =
    let new : Drops = record { guards = c.push.new.self; row = c.args.drops.now.row; last = c.args.drops.now.last; merges = c.args.drops.now.merges; said = c.args.drops.now.said } in
    let g = more-guards c.args.drops.now new c.args.kept.now c.requires c.in_ok-push.ensures.ok refl refl refl refl in
    let n : c.len-guard.result ≡ length c.args.drops.now.guards = c.len-guard.ensures in
    record {
      more = g.0;
      guards = c.in_ok-push.ensures.ok;
      here = subst (λ i. slice_get c.push.new.self i ≡ Some c.args.kept.now) (sym n) g.1;
      within = subst (λ i. i < length c.push.new.self) (sym n) g.2;
      place = n;
    }

pub loop-lit-preserved : goal.loop-lit-preserved
loop-lit-preserved c =
    let S = c.args.taken.now in
    let T = values_next c.args.drops.now c.args.kept.now in
    let i = c.loop-lit.lit-index in
    let k = c.lit-item.result in
    let more = c.in_ok-drop_one.ensures.more in
    let same = c.in_ok-drop_one.ensures.guards in
    let n = at-next c.args.drops.now c.loop-lit.drops c.len-guard.result c.loop-lit.invariant.place c.loop-lit.invariant.more.merges c.loop-lit.invariant.more.said in
    let v : Value = value_at (merge_circuits c.args.drops.now.merges.items) (said_in c.args.drops.now.said (length c.args.drops.now.guards)) k in
    let one : ◌≡◌ {A = List Drop} (record { value = value_at (merge_circuits c.loop-lit.drops.merges.items) (said_in c.loop-lit.drops.said c.len-guard.result) k; kept = kept_in (slice_get (guards_in c.loop-lit.drops) c.len-guard.result) } ∷ []) (record { value = v; kept = T } ∷ []) =
    ap₂ (λ (x : Value) (xs : List Value). record { value = x; kept = xs } ∷ []) (n k)
    (guard-at c.loop-lit.drops c.len-guard.result c.args.kept.now c.loop-lit.invariant.here ∙ ap (λ (w : Literal → Value). map w c.args.kept.now) (λ i j. n j i)) in
    let e : take (i + 1) S ≡ take i S ++ k ∷ [] = taken S i k c.loop-lit-test.true c.lit-item.is in
    let w : Literal → Value = value_at (merge_circuits c.args.drops.now.merges.items) (said_in c.args.drops.now.said (length c.args.drops.now.guards)) in
    record {
      more = more-then c.args.drops.now c.loop-lit.drops c.drop_one.new.drops (drops_of (values_next c.args.drops.now (take i S)) T) (record { value = v; kept = T } ∷ []) (drops_of (values_next c.args.drops.now (take (i + 1) S)) T)
          (drops_of-last (values_next c.args.drops.now (take i S)) v T ∙ ap (λ (xs : List Value). drops_of xs T) (sym (map_push w (take i S) k) ∙ ap (map w) (sym e))) c.loop-lit.invariant.more
          (subst (IsMore c.loop-lit.drops c.drop_one.new.drops) one more);
      guards = same ∙ c.loop-lit.invariant.guards;
      here = ap (λ (gs : List (List Literal)). slice_get gs c.len-guard.result) same ∙ c.loop-lit.invariant.here;
      within = subst (λ (gs : List (List Literal)). c.len-guard.result < length gs) (sym same) c.loop-lit.invariant.within;
      place = c.loop-lit.invariant.place;
    }
