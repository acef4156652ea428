use Rattle.std.proofs.Common.{◌≡◌, ◌<◌, ◌/◌, ◌%◌, refl, arith}
use Rattle.std.proofs.Math.Nat.{mod-lt}
use Rattle.q_command.proofs.part.Part.whole.Goals as goal

pub returns : goal.returns
returns c = λ k.
    let h : (k / 1000) % 1 < 1 = mod-lt (k / 1000) (omega arith) in
    let z : (k / 1000) % 1 ≡ 0 = omega arith in
    rw z refl
