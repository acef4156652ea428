-- The measure of a formula that a kernel holds is far below what a drive may begin with.
use Rattle.std.proofs.Common.{◌≤◌, ◌+◌, ◌*◌, ◌^◌, ℕ, Bool, true, false, not, ◌&&◌, [], ◌∷◌, length, arith}
use Rattle.std.proofs.lemmas.Nat.{mul-le}
use Rattle.q_logic.specs.declared.rule_bounds.Bounds.{Bounds}
use Rattle.q_logic.specs.Prelude.{Matrix, Prefix, is_exists, occurs, one_if, size_of, existentials_in, universals_in, measure_of}
use Rattle.q_kernel.specs.Prelude.{Seen, formula_in, IsSound}

one-small : (t : Bool) → one_if t ≤ 1
one-small true = omega arith
one-small false = omega arith

few-existentials : (P : Prefix) (X : Matrix) → existentials_in P X ≤ length P
few-existentials [] X = omega arith
few-existentials (b ∷ P) X =
    let i : existentials_in P X ≤ length P = few-existentials P X in
    let o : one_if (is_exists b.quant && occurs b.var X) ≤ 1 = one-small (is_exists b.quant && occurs b.var X) in
    omega arith

few-universals : (P : Prefix) (X : Matrix) → universals_in P X ≤ length P
few-universals [] X = omega arith
few-universals (b ∷ P) X =
    let i : universals_in P X ≤ length P = few-universals P X in
    let o : one_if (not (is_exists b.quant) && occurs b.var X) ≤ 1 = one-small (not (is_exists b.quant) && occurs b.var X) in
    omega arith

weighed : (s g k e u n : ℕ) → s ≤ 8589934592 → g ≤ 10000 → k ≤ 10000 → e ≤ n → u ≤ n → n ≤ 4294967296 → s + (g + 1) * e + (k + (g + 1) * k + 1) * u ≤ 2 ^ 60
weighed s g k e u n hs hg hk he hu hn =
    let a : (g + 1) * e ≤ 10001 * 4294967296 = mul-le (g + 1) e 10001 4294967296 (omega arith) (omega arith) in
    let b : (g + 1) * k ≤ 10001 * 10000 = mul-le (g + 1) k 10001 10000 (omega arith) (omega arith) in
    let c : (k + (g + 1) * k + 1) * u ≤ 100020001 * 4294967296 = mul-le (k + (g + 1) * k + 1) u 100020001 4294967296 (omega arith) (omega arith) in
    omega arith

pub measure-small : (B : Bounds) (k : Seen) → IsSound k → measure_of B (formula_in k) ≤ 2 ^ 60
measure-small B k s =
    let F = formula_in k in
    weighed (size_of F.matrix) B.grow B.expand (existentials_in F.prefix F.matrix) (universals_in F.prefix F.matrix) (length F.prefix)
    (omega (arith, s.size)) B.small_grow B.small_expand (few-existentials F.prefix F.matrix) (few-universals F.prefix F.matrix) (omega (arith, s.vars))
