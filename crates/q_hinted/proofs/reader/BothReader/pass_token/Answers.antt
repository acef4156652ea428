use Rattle.std.proofs.Common.{Some, None, refl}
use Rattle.q_hinted.specs.Builders.{place_of}
use Rattle.q_hinted.specs.Reading.{BothState}
use Rattle.q_hinted.proofs.HintedPieces.{state_of, reads-token, reads-on, stops-at}
use Rattle.q_hinted.proofs.reader.BothReader.pass_token.Goals as goal

pub returns-in_default-clause-brings : goal.returns-in_default-clause-brings
returns-in_default-clause-brings c =
    let v : BothState = state_of c.self.inside.tokens c.self.inside.left (place_of c.self.inside.builder) c.self.inside.refused in
    let g = rw c.in_default.is at c.next-count.ensures.goes in
    reads-token v c.args.self.now _ c.next-count.new.self c.args.piece.now c.next-count.result.0 None c.self.view_is c.requires.unrefused c.requires.room g refl

pub returns-then-is_zero-clause-brings : goal.returns-then-is_zero-clause-brings
returns-then-is_zero-clause-brings c =
    let v : BothState = state_of c.self.inside.tokens c.self.inside.left (place_of c.self.inside.builder) c.self.inside.refused in
    let g = rw c.in-Some.is at c.next-count.ensures.goes in
    reads-token v c.args.self.now _ c.next-count.new.self c.args.piece.now c.next-count.result.0 (Some c.in-Some.token) c.self.view_is c.requires.unrefused c.requires.room g refl

pub returns-in-Ok-clause-brings : goal.returns-in-Ok-clause-brings
returns-in-Ok-clause-brings c =
    let v : BothState = state_of c.self.inside.tokens c.self.inside.left (place_of c.self.inside.builder) c.self.inside.refused in
    let g = rw c.in-Some.is at c.next-count.ensures.goes in
    reads-on v c.args.self.now c.next-count.new.self c.args.piece.now c.next-count.result.0 c.in-Some.token (place_of c.add.new.self) c.self.view_is c.requires.unrefused c.requires.room g c.in-Ok.ensures.gives

pub returns-in-Err-clause-brings : goal.returns-in-Err-clause-brings
returns-in-Err-clause-brings c =
    let v : BothState = state_of c.self.inside.tokens c.self.inside.left (place_of c.self.inside.builder) c.self.inside.refused in
    let g = rw c.in-Some.is at c.next-count.ensures.goes in
    stops-at v c.args.self.now c.next-count.new.self c.args.piece.now c.next-count.result.0 c.in-Some.token (place_of c.add.new.self) (place_of c.add.new.self) c.in-Err.fault c.self.view_is c.requires.unrefused c.requires.room g c.in-Err.ensures.gives
