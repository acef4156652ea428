use Rattle.std.proofs.Common.{Some, sym, ◌∙◌, subst}
use Rattle.q_logic.specs.Prelude.{Literal, negation, live, merged}
use Rattle.q_kernel.specs.Prelude.{slots, MayDelete, IsDeleted}
use Rattle.q_kernel.proofs.KernelRuns.{led-through}
use Rattle.q_equiv.proofs.BridgeClauses.{merged-free, stands-merged, may-go_over, may-go_back, left_clauses, left_bytes, merge-changed}
use Rattle.q_equiv.proofs.merge.put_in_place.Goals as goal

pub rename_all-requires-clause-stands : goal.rename_all-requires-clause-stands
rename_all-requires-clause-stands c = stands-merged c.args.kernel.now.prefix c.build-bridge.new.kernel.prefix (live (slots c.args.kernel.now)) c.args.keep c.args.gone c.build-bridge.ensures.prefix c.requires.fits

pub delete_pivot-requires : goal.delete_pivot-requires
delete_pivot-requires c =
    let old = c.args.kernel.now in
    let k = c.rename_all.new.kernel in
    let stands = stands-merged old.prefix k.prefix (live (slots old)) c.args.keep c.args.gone (c.rename_all.ensures.prefix ∙ c.build-bridge.ensures.prefix) c.requires.fits in
    let M = merged c.args.keep c.args.gone (live (slots old)) in
    may-go_over c.args.keep c.args.gone M (merged-free c.args.keep c.args.gone (live (slots old)) c.requires.fits.different) k c.build-bridge.result stands c.rename_all.ensures.bridge
    (c.rename_all.ensures.clauses (live (slots old)) c.build-bridge.ensures.clauses) c.rename_all.ensures.bytes c.sound.ensures

pub delete_pivot-requires-2 : goal.delete_pivot-requires-2
delete_pivot-requires-2 c =
    let old = c.args.kernel.now in
    let k = c.rename_all.new.kernel in
    let stands = stands-merged old.prefix k.prefix (live (slots old)) c.args.keep c.args.gone (c.rename_all.ensures.prefix ∙ c.build-bridge.ensures.prefix) c.requires.fits in
    let M = merged c.args.keep c.args.gone (live (slots old)) in
    let m = may-go_back c.args.keep c.args.gone M (merged-free c.args.keep c.args.gone (live (slots old)) c.requires.fits.different) k c.build-bridge.result stands c.rename_all.ensures.bridge
    (c.rename_all.ensures.clauses (live (slots old)) c.build-bridge.ensures.clauses) c.rename_all.ensures.bytes c.delete_pivot.new.self c.sound.ensures c.delete_pivot.ensures c.sound-2.ensures in
    subst (λ (l : Literal). MayDelete c.delete_pivot.new.self c.build-bridge.result.back (λ C. Some l)) (sym c.negated.ensures) m

pub returns : goal.returns
returns c =
    let old = c.args.kernel.now in
    let k = c.rename_all.new.kernel in
    let mid = c.delete_pivot.new.self in
    let new = c.delete_pivot-2.new.self in
    let stands = stands-merged old.prefix k.prefix (live (slots old)) c.args.keep c.args.gone (c.rename_all.ensures.prefix ∙ c.build-bridge.ensures.prefix) c.requires.fits in
    let M = merged c.args.keep c.args.gone (live (slots old)) in
    let free = merged-free c.args.keep c.args.gone (live (slots old)) c.requires.fits.different in
    let w = c.rename_all.ensures.clauses (live (slots old)) c.build-bridge.ensures.clauses in
    let f : IsDeleted mid new c.build-bridge.result.back (λ C. Some (negation c.args.gone)) = subst (λ (l : Literal). IsDeleted mid new c.build-bridge.result.back (λ C. Some l)) c.negated.ensures c.delete_pivot-2.ensures in
    merge-changed c.args.keep c.args.gone old new c.requires.limits
    (led-through old k new (led-through old c.build-bridge.new.kernel k c.build-bridge.ensures.led c.rename_all.ensures.led) (led-through k mid new c.delete_pivot.ensures.logged.led f.logged.led))
    (f.prefix ∙ c.delete_pivot.ensures.prefix ∙ c.rename_all.ensures.prefix ∙ c.build-bridge.ensures.prefix)
    (left_clauses c.args.keep c.args.gone M free k c.build-bridge.result stands c.rename_all.ensures.bridge w c.rename_all.ensures.bytes mid c.sound.ensures c.delete_pivot.ensures new c.sound-2.ensures f)
    (left_bytes c.args.keep c.args.gone M free k c.build-bridge.result stands c.rename_all.ensures.bridge w c.rename_all.ensures.bytes mid c.sound.ensures c.delete_pivot.ensures new c.sound-2.ensures f)
