-- That enough is reserved.
use Rattle.std.proofs.Common.{◌≡◌, ◌≤◌, ◌+◌, ◌*◌, ℕ, length, arith, ap}
use Rattle.q_logic.specs.Prelude.{Literal, negation, Clause, Prefix, PrenexFormula, size_of, live, with_literal, literals_in}
use Rattle.q_logic.proofs.Common.{weight, weight-length}
use Rattle.q_kernel.specs.Prelude.{Seen, slots, SameView, IsSound, holders_of}
use Rattle.q_kernel.proofs.HolderLists.{holders-all}
use Rattle.q_equiv.specs.Changing.{total_with, one, HasRoomFor}
use Rattle.q_equiv.proofs.ClauseNumbers.{total_at, total_at-one, weight-listed, total-literals}

pub weigh-enough : (k : Seen) (l : Literal) → total_with length l.var (live (slots k)) ≤ literals_in (with_literal l (live (slots k))) + literals_in (with_literal (negation l) (live (slots k)))
weigh-enough k l =
    let t = total-literals length l (live (slots k)) in
    let a = weight-length (with_literal l (live (slots k))) in
    let b = weight-length (with_literal (negation l) (live (slots k))) in
    omega arith

listed : (k : Seen) (l : Literal) → IsSound k → weight one (with_literal l (live (slots k))) ≤ length (holders_of k l)
listed k l s =
    let w : weight one (with_literal l (live (slots k))) ≤ total_at one (slots k) (holders_of k l) = weight-listed one l (slots k) (holders_of k l) (λ d h. holders-all k l d s h) in
    let t = total_at-one (slots k) (holders_of k l) in
    omega arith

pub count-enough : (k : Seen) (l : Literal) → IsSound k → total_with one l.var (live (slots k)) ≤ length (holders_of k l) + length (holders_of k (negation l))
count-enough k l s =
    let t = total-literals one l (live (slots k)) in
    let a = listed k l s in
    let b = listed k (negation l) s in
    omega arith

pub same-total : (w : Clause → ℕ) (v : ℕ) (old new : Seen) → SameView old new → total_with w v (live (slots new)) ≡ total_with w v (live (slots old))
same-total w v old new s = ap (λ (F : PrenexFormula). total_with w v F.matrix) s.formula

pub room-made : (old new : Seen) (v : ℕ) → SameView old new → total_with length v (live (slots old)) + 8 ≤ new.arena.spare_words → total_with one v (live (slots old)) + 4 ≤ new.arena.spare_ids → 16 * (3 * size_of (live (slots old)) + length old.prefix) + 384 ≤ new.spare_bytes → HasRoomFor new v
room-made old new v s a b c = record {
  words = let e = same-total length v old new s in omega arith;
  ids = let e = same-total one v old new s in omega arith;
  bytes =
      let e : size_of (live (slots new)) ≡ size_of (live (slots old)) = ap (λ (F : PrenexFormula). size_of F.matrix) s.formula in
      let p : length new.prefix ≡ length old.prefix = ap (λ (P : Prefix). length P) s.prefix in
      omega arith;
}
