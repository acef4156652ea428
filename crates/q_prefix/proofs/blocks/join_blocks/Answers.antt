use Rattle.std.proofs.Common.{◌≡◌, ◌≢◌, ◌⊎◌, sym, ◌∙◌, ap, arith, ℕ, Bool, false, inl, inr}
use Rattle.q_logic.specs.Prelude.{same_quant}
use Rattle.q_prefix.specs.declared.marks.Mark.{Mark}
use Rattle.q_prefix.specs.Order.{mark_at, rank_of}
use Rattle.q_prefix.proofs.PrefixRanks.{renamed, joint-down, joint-up}
use Rattle.q_prefix.proofs.PrefixChanges.{parted-kept, parted-joined, at-beside}
use Rattle.q_prefix.proofs.BlockMerge.{before-in, after-in, vars-within, renamed-on, renamed-back}
use Rattle.q_prefix.proofs.blocks.join_blocks.Goals as goal

same-quants : (m n first second : Mark) (b : Bool) → first ≡ m → second ≡ n → b ≡ same_quant first.quant second.quant → same_quant m.quant n.quant ≡ b
same-quants m n first second b e f g = ap (λ (k : Mark). same_quant k.quant n.quant) (sym e) ∙ ap (λ (k : Mark). same_quant first.quant k.quant) (sym f) ∙ sym g

pub returns-in_default-clause-ranked : goal.returns-in_default-clause-ranked
returns-in_default-clause-ranked c = parted-kept c.args.order.now c.args.marks.now.items c.args.before c.args.after c.requires (λ x y e f. absurd (c.in_default.not-Some x e))

pub returns-in_default-after-clause-ranked : goal.returns-in_default-after-clause-ranked
returns-in_default-after-clause-ranked c = parted-kept c.args.order.now c.args.marks.now.items c.args.before c.args.after c.requires (λ x y e f. absurd (c.in_default-after.not-Some y f))

pub returns-then-not-same-clause-ranked : goal.returns-then-not-same-clause-ranked
returns-then-not-same-clause-ranked c =
    let marks = c.args.marks.now.items in
    let x = c.in-Some.x in
    let y = c.in-Some-after.y in
    let same' = same-quants (mark_at marks x) (mark_at marks y) c.mark_of-first.result c.mark_of-second.result c.same.result c.mark_of-first.ensures c.mark_of-second.ensures c.same.ensures in
    parted-kept c.args.order.now marks c.args.before c.args.after c.requires
    (at-beside (λ (a b : ℕ). (same_quant (mark_at marks a).quant (mark_at marks b).quant ≡ false) ⊎ (rank_of marks a ≡ rank_of marks b)) c.args.before c.args.after x y c.in-Some.is c.in-Some-after.is
    (inl (same' ∙ c.if-not-same.true)))

pub returns-then-first-second-clause-ranked : goal.returns-then-first-second-clause-ranked
returns-then-first-second-clause-ranked c =
    let marks = c.args.marks.now.items in
    let x = c.in-Some.x in
    let y = c.in-Some-after.y in
    let fr : c.mark_of-first.result.rank ≡ rank_of marks x = ap (λ (m : Mark). m.rank) c.mark_of-first.ensures in
    let sr : c.mark_of-second.result.rank ≡ rank_of marks y = ap (λ (m : Mark). m.rank) c.mark_of-second.ensures in
    parted-kept c.args.order.now marks c.args.before c.args.after c.requires
    (at-beside (λ (a b : ℕ). (same_quant (mark_at marks a).quant (mark_at marks b).quant ≡ false) ⊎ (rank_of marks a ≡ rank_of marks b)) c.args.before c.args.after x y c.in-Some.is c.in-Some-after.is
    (inr (omega (arith, c.if-first-second.true, fr, sr))))

pub is_smaller-requires-clause-before : goal.is_smaller-requires-clause-before
is_smaller-requires-clause-before c = before-in c.args.order.now c.args.marks.now.items c.args.before c.args.after c.requires c.in-Some.x c.in-Some-after.y c.in-Some.is c.in-Some-after.is

pub is_smaller-requires-clause-after : goal.is_smaller-requires-clause-after
is_smaller-requires-clause-after c = after-in c.args.order.now c.args.marks.now.items c.args.before c.args.after c.requires c.in-Some.x c.in-Some-after.y c.in-Some.is c.in-Some-after.is

pub rename-requires-clause-there : goal.rename-requires-clause-there
rename-requires-clause-there c = before-in c.args.order.now c.args.marks.now.items c.args.before c.args.after c.requires c.in-Some.x c.in-Some-after.y c.in-Some.is c.in-Some-after.is

pub rename-requires-clause-within : goal.rename-requires-clause-within
rename-requires-clause-within c = vars-within c.args.order.now c.args.marks.now.items c.args.before c.args.after c.requires c.in-Some.x c.in-Some-after.y c.in-Some.is c.in-Some-after.is

pub rename-requires-else-is_smaller-clause-there : goal.rename-requires-else-is_smaller-clause-there
rename-requires-else-is_smaller-clause-there c = after-in c.args.order.now c.args.marks.now.items c.args.before c.args.after c.requires c.in-Some.x c.in-Some-after.y c.in-Some.is c.in-Some-after.is

pub rename-requires-else-is_smaller-clause-within : goal.rename-requires-else-is_smaller-clause-within
rename-requires-else-is_smaller-clause-within c = vars-within c.args.order.now c.args.marks.now.items c.args.before c.args.after c.requires c.in-Some.x c.in-Some-after.y c.in-Some.is c.in-Some-after.is

pub returns-then-is_smaller-clause-ranked : goal.returns-then-is_smaller-clause-ranked
returns-then-is_smaller-clause-ranked c =
    let marks = c.args.marks.now.items in
    let x = c.in-Some.x in
    let y = c.in-Some-after.y in
    let same' = same-quants (mark_at marks x) (mark_at marks y) c.mark_of-first.result c.mark_of-second.result c.same.result c.mark_of-first.ensures c.mark_of-second.ensures c.same.ensures in
    let fr : c.mark_of-first.result.rank ≡ rank_of marks x = ap (λ (m : Mark). m.rank) c.mark_of-first.ensures in
    let sr : c.mark_of-second.result.rank ≡ rank_of marks y = ap (λ (m : Mark). m.rank) c.mark_of-second.ensures in
    let apart : rank_of marks x ≢ rank_of marks y = λ e. absurd (omega (arith, c.if-first-second.false, fr, sr, e)) in
    let more = c.rename.new.marks.items in
    parted-joined c.args.order.now marks c.args.before c.args.after c.requires more x y c.in-Some.is c.in-Some-after.is (same' ∙ c.if-not-same.false) apart c.rename.ensures.quant
    (renamed (rank_of marks x) (rank_of marks y)) (joint-up (rank_of marks x) (rank_of marks y))
    (renamed-back c.args.order.now marks c.args.before c.args.after c.requires x y c.in-Some.is c.in-Some-after.is (rank_of more) apart (c.distinct.ensures.apart 0)
    (λ v h. c.rename.ensures.block v h ∙ sr) c.rename.ensures.others)

pub returns-else-is_smaller-clause-ranked : goal.returns-else-is_smaller-clause-ranked
returns-else-is_smaller-clause-ranked c =
    let marks = c.args.marks.now.items in
    let x = c.in-Some.x in
    let y = c.in-Some-after.y in
    let same' = same-quants (mark_at marks x) (mark_at marks y) c.mark_of-first.result c.mark_of-second.result c.same.result c.mark_of-first.ensures c.mark_of-second.ensures c.same.ensures in
    let fr : c.mark_of-first.result.rank ≡ rank_of marks x = ap (λ (m : Mark). m.rank) c.mark_of-first.ensures in
    let sr : c.mark_of-second.result.rank ≡ rank_of marks y = ap (λ (m : Mark). m.rank) c.mark_of-second.ensures in
    let apart : rank_of marks x ≢ rank_of marks y = λ e. absurd (omega (arith, c.if-first-second.false, fr, sr, e)) in
    let more = c.rename-else-is_smaller.new.marks.items in
    parted-joined c.args.order.now marks c.args.before c.args.after c.requires more x y c.in-Some.is c.in-Some-after.is (same' ∙ c.if-not-same.false) apart c.rename-else-is_smaller.ensures.quant
    (renamed (rank_of marks y) (rank_of marks x)) (joint-down (rank_of marks x) (rank_of marks y))
    (renamed-on c.args.order.now marks c.args.before c.args.after c.requires x y c.in-Some.is c.in-Some-after.is (rank_of more) apart
    (λ v h. c.rename-else-is_smaller.ensures.block v h ∙ fr) c.rename-else-is_smaller.ensures.others)
