-- What came of asking one guide.
use Rattle.std.specs.Prelude.{◌≡◌, Bool, true, false}
use Rattle.q_logic.specs.declared.rule_bounds.Bounds.{Bounds}
use Rattle.q_logic.specs.Prelude.{Target}
use Rattle.q_kernel.specs.Prelude.{Seen, SameView, IsTaken, Applies}
use Rattle.q_sched.specs.Moves.{target_of}
use Rattle.q_sched.specs.declared.guide.Proposal.{Proposal}
use Rattle.q_sched.specs.declared.guide.Proposal.TheVariants.{Take, Done, NoMemory}
use Rattle.q_sched.specs.declared.asking.Reply.{Reply}
use Rattle.q_sched.specs.declared.asking.Reply.TheVariants as reply

-- a target was tried
abbrev pub Tried : Target → Bounds → Seen → Reply → Seen → Type 0
Tried t B old reply.Over new = ⊥
Tried t B old reply.Taken new = IsTaken B old new t
Tried t B old reply.Refused new = (Applies B old t → ⊥) × SameView old new

-- the guide was told so
abbrev pub Told : Reply → Bool → Type 0
Told reply.Over heard = Unit {0}
Told reply.Taken heard = heard ≡ true
Told reply.Refused heard = heard ≡ false

-- over what the guide answered and what it was told then
abbrev pub Replies : Proposal → Bool → Bounds → Seen → Reply → Seen → Type 0
Replies Done heard B old reply.Over new = new ≡ old
Replies Done heard B old reply.Taken new = ⊥
Replies Done heard B old reply.Refused new = ⊥
Replies NoMemory heard B old answer new = ⊥
Replies (Take m) heard B old answer new = Told answer heard × Tried (target_of m) B old answer new
