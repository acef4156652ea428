use Rattle.std.proofs.Common.{◌≡◌, ◌≤◌, ◌<◌, ◌*◌, ◌+◌, ◌/◌, ℕ, get_or, length, sym, ◌∙◌, arith, refl}
use Rattle.std.proofs.lemmas.List.{get_or_default}
use Rattle.q_sparse.proofs.SparseRows.{given-most, given-one, sound-one, given-more, entry-one}
use Rattle.q_sparse.specs.Layout.{given}
use Rattle.q_sparse.proofs.sparse.make_page.Goals as goal

pub fill-requires-clause-room : goal.fill-requires-clause-room
fill-requires-clause-room g c =
    let pages = c.args.pages.now.items in
    let kh : c.args.at / 1024 < length pages = c.requires.page in
    let was : get_or pages (c.args.at / 1024) 0 ≡ 0 = sym (get_or_default pages (c.args.at / 1024) c.index.result.now 0 kh) ∙ sym c.index.ensures ∙ omega (arith, c.if-index-ne0.false) in
    let one = given-one pages (c.args.at / 1024) 1 kh was (omega arith) in
    let most = given-most (Rattle.std.specs.Prelude.slice_set pages (c.args.at / 1024) 1) in
    let len = Rattle.std.proofs.lemmas.List.length-set pages (c.args.at / 1024) 1 in
    omega (arith, c.requires.long, c.requires.room, one, most, len, c.len-page.ensures, c.args.far.now.ok.0)

pub overflow_cast-page : goal.overflow_cast-page
overflow_cast-page g c =
    let most = given-most c.args.pages.now.items in
    let few = c.requires.sound.few in
    omega (arith, c.requires.long, most, few, c.len-page.ensures, c.args.far.now.ok.0)

pub returns-clause-sound : goal.returns-clause-sound
returns-clause-sound g c =
    let pages = c.args.pages.now.items in
    let far = c.args.far.now.items in
    let more = c.fill.new.values.items in
    let kh : c.args.at / 1024 < length pages = c.requires.page in
    let was : get_or pages (c.args.at / 1024) 0 ≡ 0 = sym (get_or_default pages (c.args.at / 1024) c.index.result.now 0 kh) ∙ sym c.index.ensures ∙ omega (arith, c.if-index-ne0.false) in
    let number : c.len-page.result ≡ length far = omega (arith, c.len-page.ensures, c.args.far.now.ok.0) in
    let q : ℕ = c.len-page.result / 1024 in
    sound-one c.args.none pages far more c.requires.sound (omega (arith, c.fill.ensures.end, number)) c.fill.ensures.same (c.args.at / 1024) q kh was (omega (arith, number)) (omega (arith, c.fill.ensures.end))

pub returns-clause-long : goal.returns-clause-long
returns-clause-long g c =
    let pages = c.args.pages.now.items in
    let kh : c.args.at / 1024 < length pages = c.requires.page in
    let was : get_or pages (c.args.at / 1024) 0 ≡ 0 = sym (get_or_default pages (c.args.at / 1024) c.index.result.now 0 kh) ∙ sym c.index.ensures ∙ omega (arith, c.if-index-ne0.false) in
    let number : c.len-page.result ≡ length c.args.far.now.items = omega (arith, c.len-page.ensures, c.args.far.now.ok.0) in
    let w = c.requires.sound.within (c.args.at / 1024) kh in
    let q : ℕ = c.len-page.result / 1024 in
    let one = given-one pages (c.args.at / 1024) q kh was (omega (arith, w, number)) in
    omega (arith, one, c.requires.long, c.fill.ensures.end, number)

pub returns-clause-same : goal.returns-clause-same
returns-clause-same g c =
    let pages = c.args.pages.now.items in
    let far = c.args.far.now.items in
    let more = c.fill.new.values.items in
    let kh : c.args.at / 1024 < length pages = c.requires.page in
    let was : get_or pages (c.args.at / 1024) 0 ≡ 0 = sym (get_or_default pages (c.args.at / 1024) c.index.result.now 0 kh) ∙ sym c.index.ensures ∙ omega (arith, c.if-index-ne0.false) in
    let number : c.len-page.result ≡ length far = omega (arith, c.len-page.ensures, c.args.far.now.ok.0) in
    let q : ℕ = c.len-page.result / 1024 in
    entry-one c.args.none pages far more c.requires.sound (omega (arith, c.fill.ensures.end, number)) c.fill.ensures.same (c.args.at / 1024) q kh was (omega (arith, number)) (omega (arith, c.fill.ensures.end))
