use Rattle.q_qrp.proofs.PieceReads.{feed-reads, feed-refuses}
use Rattle.q_qrp.proofs.ByteLimit.{feed-within}
use Rattle.q_qrp.proofs.reader.TraceReader.feed.Goals as goal

pub returns-clause-read : goal.returns-clause-read
returns-clause-read c = feed-reads c.feed_bytes.result c.args.self.now c.feed_bytes.new.self c.args.piece.now c.feed_bytes.ensures.fed

pub returns-clause-refused : goal.returns-clause-refused
returns-clause-refused c = feed-refuses c.feed_bytes.result c.args.self.now c.feed_bytes.new.self c.args.piece.now c.feed_bytes.ensures.fed

pub returns-clause-within : goal.returns-clause-within
returns-clause-within c = feed-within c.feed_bytes.result c.args.self.now c.feed_bytes.new.self c.args.piece.now c.feed_bytes.ensures.fed
