use Rattle.std.proofs.Common.{◌+◌}
use Rattle.q_text.specs.Pieces.{literal_token}
use Rattle.q_hinted.specs.Builders.{place_of}
use Rattle.q_hinted.specs.Reading.{BothState}
use Rattle.q_hinted.proofs.HintedPieces.{state_of, literal-goes, reads-on, stops-at}
use Rattle.q_hinted.proofs.reader.BothReader.pass_literal.Goals as goal

pub returns-in-Ok-clause-brings : goal.returns-in-Ok-clause-brings
returns-in-Ok-clause-brings c =
    let v : BothState = state_of c.self.inside.tokens c.self.inside.left (place_of c.self.inside.builder) c.self.inside.refused in
    let g = literal-goes v c.args.self.now c.pass_literal.new.self c.line-line.result c.args.piece.now c.args.word c.self.view_is c.pass_literal.ensures c.line-line.ensures c.requires.goes in
    reads-on v c.args.self.now c.pass_literal.new.self c.args.piece.now (c.args.word.len + 1) (literal_token c.args.word.lit c.line-line.result) (place_of c.add_literal.new.self) c.self.view_is c.requires.unrefused c.requires.room g c.in-Ok.ensures.gives

pub returns-in-Err-clause-brings : goal.returns-in-Err-clause-brings
returns-in-Err-clause-brings c =
    let v : BothState = state_of c.self.inside.tokens c.self.inside.left (place_of c.self.inside.builder) c.self.inside.refused in
    let g = literal-goes v c.args.self.now c.pass_literal.new.self c.line-line.result c.args.piece.now c.args.word c.self.view_is c.pass_literal.ensures c.line-line.ensures c.requires.goes in
    stops-at v c.args.self.now c.pass_literal.new.self c.args.piece.now (c.args.word.len + 1) (literal_token c.args.word.lit c.line-line.result) (place_of c.add_literal.new.self) (place_of c.add_literal.new.self) c.in-Err.fault c.self.view_is c.requires.unrefused c.requires.room g c.in-Err.ensures.gives
