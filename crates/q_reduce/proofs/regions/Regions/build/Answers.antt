use Rattle.std.proofs.Common.{◌≡◌, ◌∙◌, false, Result, Ok, Err, OnOk, sym, true≢false}
use Rattle.std.specs.Result.{is_err}
use Rattle.q_reduce.proofs.RegionSeparation.{regional-inside}
use Rattle.q_reduce.proofs.regions.Regions.build.Goals as goal

on-ok : {X E : Type 0} {P : Type 0} (r : Result X E) → is_err r ≡ false → OnOk r P → P
on-ok (Ok x) e h = h
on-ok (Err x) e h = absurd (true≢false e)

pub returns-else-not-is_right : goal.returns-else-not-is_right
returns-else-not-is_right c u t covered D m =
    let behind = on-ok c.fill-filled.result (sym c.is_err.ensures.value ∙ c.if-is_err.false) c.fill-filled.ensures in
    regional-inside c.args.kernel.now.prefix c.fill-filled.new.self c.args.w u D (behind u covered) (c.is_right.ensures c.if-not-is_right.false D m)
