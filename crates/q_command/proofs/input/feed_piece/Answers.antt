use Rattle.std.proofs.Common.{◌≡◌, sym, ap, arith, length, take, length-take, Err}
use Rattle.std.proofs.lemmas.Option.{IfSome_then}
use Rattle.q_logic.specs.Prelude.{standard}
use Rattle.q_io.specs.Files.{bytes_at}
use Rattle.q_command.proofs.FilePieces.{reads_on, feeds, offends}
use Rattle.q_command.proofs.input.feed_piece.Goals as goal

pub returns-in-Ok-feed-clause-reading : goal.returns-in-Ok-feed-clause-reading
returns-in-Ok-feed-clause-reading g c =
    let len = length-take c.in-Ok.count c.read.new.buf in
    let all : length (take c.in-Ok.count c.read.new.buf) ≡ c.in-Ok.count = omega (arith, len, c.in-Ok.ensures.within, c.read.auto.buf) in
    let r = c.requires.reading in
    reads_on c.args.at c.in-Ok.count c.args.reader.now c.feed.new.self (take c.in-Ok.count c.read.new.buf) r (sym all) (c.in-Ok-feed.ensures.read standard r.bytes r.has_read) (c.in-Ok-feed.ensures.within standard r.bytes r.has_read)

pub returns-in-Ok-feed-clause-fed : goal.returns-in-Ok-feed-clause-fed
returns-in-Ok-feed-clause-fed g c =
    IfSome_then (g.F.Files.held c.args.files.now) c.in-Ok.ensures.bytes
    (λ disk r. feeds (bytes_at disk c.args.name.now) c.args.at c.in-Ok.count c.args.reader.now c.feed.new.self (take c.in-Ok.count c.read.new.buf) r.copied r.left (λ z. r.end z c.requires.room) (λ bytes. c.in-Ok-feed.ensures.read standard bytes))

pub returns-in-Err-feed-clause-refused : goal.returns-in-Err-feed-clause-refused
returns-in-Err-feed-clause-refused g c =
    IfSome_then (g.F.Files.held c.args.files.now) c.in-Ok.ensures.bytes
    (λ disk r. offends c.in-Err-feed.error c.refusal.result (bytes_at disk c.args.name.now) c.args.at c.in-Ok.count c.args.reader.now (take c.in-Ok.count c.read.new.buf) c.refusal.ensures r.copied (λ bytes rest line cause h e. c.in-Err-feed.ensures.refused standard bytes rest line cause h (ap Err e)))
