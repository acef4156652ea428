use Rattle.std.proofs.Common.{◌≡◌, ◌∙◌, true, OnOk, Result, Ok, Err, is_ok, refl, sym}
use Rattle.q_watch.proofs.MovedWatches.{watches-less}
use Rattle.q_watch.proofs.watches.Watches.learn.Goals as goal

ok-holds : {T E P : Type 0} (r : Result T E) → is_ok r ≡ true → OnOk r P → P
ok-holds (Ok x) e p = p
ok-holds (Err x) e p = absurd (cc)

pub returns : goal.returns
returns c e = watches-less c.args.kernel.now c.build.new.self _ (record { pairs = refl; rows = λ l. refl }) (ok-holds c.build.result (sym c.is_ok-self.ensures.value ∙ e) c.build.ensures)
