-- How many decisions a search makes.
use Rattle.std.proofs.Common.{◌≡◌, ℕ, suc, ◌+◌, ◌*◌, ◌<◌, ◌^◌, Bool, true, false, cond, [], ◌∷◌, length, arith}
use Rattle.std.proofs.Math.Nat.{pow-succ'}
use Rattle.std.proofs.lemmas.Nat.{pow_pos}
use Rattle.q_logic.specs.declared.formulas.Quant.{Quant}
use Rattle.q_logic.specs.Prelude.{Prefix, Assignment, with_value, Test, Node, Tally, explored, goes_on, one_more, plus, then_second, by_verdict, leaf}
use Rattle.q_logic.specs.declared.verdict.Verdict.{Verdict}
use Rattle.q_logic.specs.declared.verdict.Verdict.TheVariants.{Lost, Won, Open}

-- Fewer decisions than assignments.
few-by_verdict : (v : Verdict) (A : Node) (t : Tally) (n : ℕ) → 0 < n → t.decisions < n →
    (by_verdict v A t).decisions < n
few-by_verdict Lost A t n z h = z
few-by_verdict Won A t n z h = z
few-by_verdict Open A t n z h = h

few-then : (q : Quant) (s t : Tally) (n : ℕ) → s.decisions < n → t.decisions < n →
    1 + (then_second q s t).decisions < 2 * n
few-then q s t n h k = go (goes_on q s.won)
  where
    go : (c : Bool) → 1 + (cond c (plus s.decisions t) s).decisions < 2 * n
    go true = omega arith
    go false = omega arith

pub few : (f : Test) (P : Prefix) (A : Assignment) → (explored f P A).decisions < 2 ^ length P
few f [] A = few-by_verdict (f [] A) (record { rest = []; values = A }) (leaf false (record { rest = []; values = A })) 1 (omega arith) (omega arith)
few f (b ∷ P) A =
    let s : Tally = explored f P (with_value A b.var false) in
    let t : Tally = explored f P (with_value A b.var true) in
    let h : s.decisions < 2 ^ length P = few f P (with_value A b.var false) in
    let k : t.decisions < 2 ^ length P = few f P (with_value A b.var true) in
    let r : 1 + (then_second b.quant s t).decisions < 2 * 2 ^ length P = few-then b.quant s t (2 ^ length P) h k in
    let e : 2 ^ suc (length P) ≡ 2 * 2 ^ length P = pow-succ' 2 (length P) in
    few-by_verdict (f (b ∷ P) A) (record { rest = b ∷ P; values = A }) (one_more (then_second b.quant s t)) (2 ^ suc (length P)) (pow_pos (suc (length P))) (omega arith)
