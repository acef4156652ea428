-- A gate that uses lower ones alone does not depend on itself.
use Rattle.std.proofs.Common.{ℕ, ◌<◌, ◌≤◌, List, arith}
use Rattle.q_gates.specs.Uses.{Parts, DependsOn, direct, further}
use Rattle.q_gates.specs.Levels.{level_of, NeverRise, Falls}

lower : (ps : Parts) (levels : List ℕ) (g h : ℕ) → NeverRise ps levels → Falls ps levels g → DependsOn ps g h → level_of levels h < level_of levels g
lower ps levels g h n f (direct k u) = f k u
lower ps levels g h n f (further m k d u) =
    let a : level_of levels m < level_of levels g = lower ps levels g m n f d in
    let b : level_of levels k ≤ level_of levels m = n m k u in
    omega arith

pub falls-free : (ps : Parts) (levels : List ℕ) (g : ℕ) → NeverRise ps levels → Falls ps levels g → DependsOn ps g g → ⊥
falls-free ps levels g n f d = let a : level_of levels g < level_of levels g = lower ps levels g g n f d in omega arith
