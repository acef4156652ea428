use Rattle.std.proofs.Common.{ℕ, sym, ◌∙◌, arith, slice_index_or}
use Rattle.std.proofs.lemmas.List.{length-map}
use Rattle.q_occ.specs.Places.{places_of}
use Rattle.q_kernel.proofs.PlaceLists.{counted-none, counted-some}
use Rattle.q_kernel.proofs.kernel.Kernel.count.Goals as goal

pub returns-clause-none : goal.returns-clause-none
returns-clause-none c = rw (← c.self.view_is) (λ e. counted-none c.self.inside.occ c.self.inside.arena c.self.invariant.linked c.args.lit (sym c.count.ensures ∙ e))

pub returns-clause-some : goal.returns-clause-some
returns-clause-some c = rw (← c.self.view_is) (λ h. let r = counted-some c.self.inside.occ c.self.inside.arena c.self.invariant.linked c.args.lit (omega (arith, c.count.ensures, h)) in (r.0, (r.1, r.2, r.3)))

pub returns-clause-held : goal.returns-clause-held
returns-clause-held c = rw (← c.self.view_is) (c.count.ensures ∙ sym (length-map (places_of c.self.inside.occ c.args.lit) (λ (p : ℕ). slice_index_or c.self.inside.occ.owners p 0)))
