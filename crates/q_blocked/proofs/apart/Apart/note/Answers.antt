use Rattle.std.proofs.Common.{◌∙◌, inl, refl}
use Rattle.q_logic.specs.Prelude.{pack}
use Rattle.q_pages.specs.Rows.{HasSameItems}
use Rattle.q_blocked.specs.declared.apart.Apart.{Apart}
use Rattle.q_blocked.proofs.ApartNotes.{HasPlaced, apart-kept, apart-noted, placed, same-items, pushed-cases}
use Rattle.q_blocked.proofs.apart.Apart.note.Goals as goal

pub returns-in_err-grow : goal.returns-in_err-grow
returns-in_err-grow c k h a =
    let new : Apart = record { noted = c.args.self.now.noted; pairs = c.grow.new.self } in
    apart-kept k c.args.self.now new refl c.grow.ensures.items h

pub returns-in_err-make : goal.returns-in_err-make
returns-in_err-make c k h a =
    let new : Apart = record { noted = c.args.self.now.noted; pairs = c.make.new.self } in
    apart-kept k c.args.self.now new refl (λ i. same-items c.grow.new.self c.make.new.self c.make.ensures.items c.make.ensures.kept.none i ∙ c.grow.ensures.items i) h

pub set-requires : goal.set-requires
set-requires c = rw c.index-3.ensures (rw c.index-2.ensures at c.in_ok-make.ensures.made)

pub returns-then-has : goal.returns-then-has
returns-then-has c k h a =
    let new : Apart = record { noted = c.args.self.now.noted; pairs = c.set.new.self } in
    let same : HasSameItems c.args.self.now.pairs c.make.new.self = λ i. same-items c.grow.new.self c.make.new.self c.make.ensures.items c.make.ensures.kept.none i ∙ c.grow.ensures.items i in
    let p : HasPlaced c.args.self.now.pairs c.set.new.self (pack c.args.l) c.args.pair = placed c.args.self.now.pairs c.make.new.self c.set.new.self (pack c.args.l) c.args.pair same (rw c.index-2.ensures at c.in_ok-make.ensures.made) (rw c.index-3.ensures at c.set.ensures.items) c.set.ensures.none in
    apart-noted k c.args.self.now new c.args.l c.args.pair (λ j m. inl m) p h a

pub returns : goal.returns
returns c k h a =
    let new : Apart = record { noted = c.push.new.self; pairs = c.set.new.self } in
    let same : HasSameItems c.args.self.now.pairs c.make.new.self = λ i. same-items c.grow.new.self c.make.new.self c.make.ensures.items c.make.ensures.kept.none i ∙ c.grow.ensures.items i in
    let p : HasPlaced c.args.self.now.pairs c.set.new.self (pack c.args.l) c.args.pair = placed c.args.self.now.pairs c.make.new.self c.set.new.self (pack c.args.l) c.args.pair same (rw c.index-2.ensures at c.in_ok-make.ensures.made) (rw c.index-3.ensures at c.set.ensures.items) c.set.ensures.none in
    apart-noted k c.args.self.now new c.args.l c.args.pair (pushed-cases c.push.result c.args.self.now.noted c.push.new.self c.args.l c.push.ensures.ok c.push.ensures.err) p h a
