use Rattle.std.proofs.Common.{◌≡◌, ◌<◌, ◌∙◌, length, slice_get, arith, sym, subst, List, ℕ, Option, Some, None}
use Rattle.q_certificate.specs.Prelude.{look_at}
use Rattle.q_extract.specs.Rows.{guards_in, kept_in}
use Rattle.q_extract.proofs.Chained.{guards-many}
use Rattle.q_extract.proofs.Walked.{guard-held, guard-made, some-kept}
use Rattle.q_extract.proofs.guards.guard_of.Goals as goal

pub held_at-requires : goal.held_at-requires
held_at-requires c =
    let lt : c.args.guard < length c.args.drops.now.guards = c.requires.guard in
    let n : length (guards_in c.args.drops.now) ≡ length c.args.drops.now.guards = guards-many c.args.drops.now in
    let s : length c.args.held.now.items ≡ length (guards_in c.args.drops.now) = c.requires.held.size in
    subst (λ (xs : List (Option ℕ)). c.args.guard < length xs) (sym c.deref.ensures.value) (omega arith)

pub hold-requires : goal.hold-requires
hold-requires c =
    let lt : c.args.guard < length c.args.drops.now.guards = c.requires.guard in
    let n : length (guards_in c.args.drops.now) ≡ length c.args.drops.now.guards = guards-many c.args.drops.now in
    let s : length c.args.held.now.items ≡ length (guards_in c.args.drops.now) = c.requires.held.size in
    omega arith

pub returns-in-Some : goal.returns-in-Some
returns-in-Some c =
    guard-held c.args.aig.now c.args.tables.now.inputs.items c.args.tables.now.circuits.items (guards_in c.args.drops.now) c.args.held.now.items c.args.guard c.in-Some.lit c.requires.held
    (subst (λ (xs : List (Option ℕ)). look_at xs c.args.guard ≡ Some c.in-Some.lit) c.deref.ensures.value (sym c.held_at.ensures ∙ c.in-Some.is))

pub returns-in_ok-every-in-None : goal.returns-in_ok-every-in-None
returns-in_ok-every-in-None c =
    let guards = guards_in c.args.drops.now in
    let lt : c.args.guard < length c.args.drops.now.guards = c.requires.guard in
    let n : length guards ≡ length c.args.drops.now.guards = guards-many c.args.drops.now in
    guard-made c.args.aig.now c.every_of.new.aig c.args.tables.now.inputs.items c.args.tables.now.circuits.items guards c.args.held.now.items c.hold.new.held.items c.args.guard c.in_ok-every-in-None.every (kept_in (slice_get guards c.args.guard)) c.requires.held
    (subst (λ (xs : List (Option ℕ)). look_at xs c.args.guard ≡ None) c.deref.ensures.value (sym c.held_at.ensures ∙ c.in-None.is)) (some-kept guards c.args.guard (omega arith)) c.in_ok-every-in-None.ensures c.hold.ensures.size c.hold.ensures.put
