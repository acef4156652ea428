use Rattle.std.proofs.Common.{◌≡◌, ◌≤◌, ℕ, subst, arith}
use Rattle.q_blocked.specs.Growths.{HasPlaces}
use Rattle.q_blocked.proofs.AskedPlaces.{places-none, places-one}
use Rattle.q_blocked.proofs.growth.add_places.Goals as goal

pub loop-place-init : goal.loop-place-init
loop-place-init c = places-none c.args.places.now.items c.args.from

pub loop-place-preserved : goal.loop-place-preserved
loop-place-preserved c = let z : c.args.from ≤ c.loop-place.place = c.loop-place.auto.place in places-one c.args.places.now.items c.args.from c.loop-place.place c.loop-place.places.items c.push.new.self.items z (c.in_ok-push.ensures.items) c.loop-place.invariant

pub returns : goal.returns
returns c =
    let e : c.loop-place.place ≡ c.args.to = (let z = c.loop-place.auto.place-end c.requires in let y = c.loop-place-test.false in omega arith) in
    subst (λ (n : ℕ). HasPlaces c.args.places.now.items c.args.from n c.loop-place.places.items) e c.loop-place.invariant
