-- A drive as its callers see it. `asked`, `last` and `heard` read a guide's meanings.
use Rattle.std.specs.Prelude.{ℕ, Bool, reverse}
use Rattle.std.specs.declared.alloc.Global.{Global}
use Rattle.std.specs.declared.dyn_box.DynBox.{DynBox}
use Rattle.q_reduce.specs.Learned.{Learned}
use Rattle.q_sched.specs.declared.guide.Proposal.{Proposal}
use Rattle.q_sched.specs.declared.drive.Drive.{Drive}
use Rattle.q_sched.specs.Drives.{Driving}
use Rattle.q_sched.specs.Meanings.{meanings}

abbrev pub seen : {X : Type 0} {F : X → Type 0} → (DynBox X Global F → ℕ) → (DynBox X Global F → Proposal) → (DynBox X Global F → Bool) → Drive X F → Driving
seen asked last heard d = record { bounds = d.bounds; budget = d.limit; first_measure = d.from; guides = meanings asked last heard (reverse d.waiting.items); refused = d.refusals; over = d.is_over }

-- what its searches have learned
abbrev pub learned : {X : Type 0} {F : X → Type 0} → Drive X F → Learned
learned d = d.searches
