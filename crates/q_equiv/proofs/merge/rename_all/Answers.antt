use Rattle.std.proofs.Common.{◌≡◌, length, refl, sym, ◌∙◌, ap, subst, arith}
use Rattle.std.proofs.lemmas.Option.{same_Some}
use Rattle.q_logic.specs.Prelude.{Clause, Prefix, renamed}
use Rattle.q_kernel.specs.Prelude.{slots}
use Rattle.q_equiv.specs.Changing.{CanStandFor, size, MayReplace, IsReplaced}
use Rattle.q_equiv.proofs.RenamedClauses.{total-slot, renaming-begun, may-rename, total-renamed, renaming-more, renaming-done}
use Rattle.q_equiv.proofs.merge.rename_all.Goals as goal

standing : (old now : Prefix) (k : Rattle.q_logic.specs.Literals.Literal) (g : Rattle.q_logic.specs.Literals.Literal) → now ≡ old → CanStandFor old k g → CanStandFor now k g
standing old now k g e h = subst (λ (P : Prefix). CanStandFor P k g) (sym e) h

pub loop-id-init : goal.loop-id-init
loop-id-init c = record {
  renaming = renaming-begun c.args.keep c.args.gone c.args.bridge c.args.kernel.now c.requires.bridge c.requires.room;
  buffer = c.requires.buffer;
}

pub rename-requires : goal.rename-requires
rename-requires c =
    let k = c.loop-id.kernel in
    let r = c.in-Some.ensures.some c.in-Some.id refl in
    let q = same_Some c.lits.result.now r.2 (sym c.lits.ensures.clause ∙ r.3) in
    let l : length c.lits.result.now ≡ length r.2 = ap length q in
    let t = total-slot length c.args.gone.var (slots k) c.in-Some.id r.2 r.3 r.4 in
    let b = c.loop-id.invariant.buffer in
    omega arith

pub replace-requires : goal.replace-requires
replace-requires c =
    let k = c.loop-id.kernel in
    let r = c.in-Some.ensures.some c.in-Some.id refl in
    let i = c.loop-id.invariant.renaming in
    let q = same_Some r.2 c.lits.result.now (sym r.3 ∙ c.lits.ensures.clause) in
    let m = may-rename c.args.keep c.args.gone c.args.bridge k (standing c.args.kernel.now.prefix k.prefix c.args.keep c.args.gone i.prefix c.requires.stands) i.bridge i.room c.in-Some.id r.2 r.0 r.1 r.3 r.4 c.sound.ensures in
    subst (λ (D : Clause). MayReplace k c.in-Some.id D) (ap (renamed c.args.keep c.args.gone) q ∙ sym c.rename.ensures.clause ∙ sym c.deref.ensures.value) m

pub loop-id-smaller : goal.loop-id-smaller
loop-id-smaller c =
    let k = c.loop-id.kernel in
    let r = c.in-Some.ensures.some c.in-Some.id refl in
    let i = c.loop-id.invariant.renaming in
    let q = same_Some r.2 c.lits.result.now (sym r.3 ∙ c.lits.ensures.clause) in
    let h : IsReplaced k c.replace.new.kernel c.in-Some.id (renamed c.args.keep c.args.gone r.2) =
    subst (λ (D : Clause). IsReplaced k c.replace.new.kernel c.in-Some.id D) (c.deref.ensures.value ∙ c.rename.ensures.clause ∙ sym (ap (renamed c.args.keep c.args.gone) q)) c.replace.ensures in
    let t = total-renamed c.args.keep c.args.gone c.args.bridge k (standing c.args.kernel.now.prefix k.prefix c.args.keep c.args.gone i.prefix c.requires.stands) i.bridge i.room c.in-Some.id r.2 r.0 r.1 r.3 r.4 c.replace.new.kernel h size in
    omega (arith, t)

pub loop-id-preserved : goal.loop-id-preserved
loop-id-preserved c =
    let k = c.loop-id.kernel in
    let r = c.in-Some.ensures.some c.in-Some.id refl in
    let i = c.loop-id.invariant.renaming in
    let q = same_Some r.2 c.lits.result.now (sym r.3 ∙ c.lits.ensures.clause) in
    let h : IsReplaced k c.replace.new.kernel c.in-Some.id (renamed c.args.keep c.args.gone r.2) =
    subst (λ (D : Clause). IsReplaced k c.replace.new.kernel c.in-Some.id D) (c.deref.ensures.value ∙ c.rename.ensures.clause ∙ sym (ap (renamed c.args.keep c.args.gone) q)) c.replace.ensures in
    let s = standing c.args.kernel.now.prefix k.prefix c.args.keep c.args.gone i.prefix c.requires.stands in
    let t = total-renamed c.args.keep c.args.gone c.args.bridge k s i.bridge i.room c.in-Some.id r.2 r.0 r.1 r.3 r.4 c.replace.new.kernel h length in
    record {
      renaming = renaming-more c.args.keep c.args.gone c.args.bridge k s i.bridge i.room c.in-Some.id r.2 r.0 r.1 r.3 r.4 c.replace.new.kernel h c.args.kernel.now i;
      buffer = let b = c.loop-id.invariant.buffer in let w = c.rename.ensures.capacity in omega (arith, t);
    }

pub returns : goal.returns
returns c =
    let k = c.loop-id.kernel in
    let i = c.loop-id.invariant.renaming in
    renaming-done c.args.keep c.args.gone c.args.bridge c.args.kernel.now k (standing c.args.kernel.now.prefix k.prefix c.args.keep c.args.gone i.prefix c.requires.stands) (c.in_default.ensures.none refl) i
