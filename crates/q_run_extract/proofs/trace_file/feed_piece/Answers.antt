use Rattle.std.proofs.Common.{◌≡◌, sym, ap, arith, length, take, length-take, Err}
use Rattle.std.proofs.lemmas.Option.{IfSome_then}
use Rattle.q_io.specs.Files.{bytes_at}
use Rattle.q_run_extract.proofs.TracePieces.{reads_on_or_ends, feeds_or_ends, offends}
use Rattle.q_run_extract.proofs.trace_file.feed_piece.Goals as goal

pub returns-in-Ok-feed-clause-reading : goal.returns-in-Ok-feed-clause-reading
returns-in-Ok-feed-clause-reading g c p =
    let len = length-take c.in-Ok.count c.read.new.buf in
    let all : length (take c.in-Ok.count c.read.new.buf) ≡ c.in-Ok.count = omega (arith, len, c.in-Ok.ensures.within, c.read.auto.buf) in
    let r = c.requires.reading in
    reads_on_or_ends c.args.at c.in-Ok.count c.counted.result c.args.reader.now c.feed.new.self (take c.in-Ok.count c.read.new.buf) r (sym all) (c.in-Ok-feed.ensures.read 1099511627776 r.bytes r.has_read)
    (λ f. c.in-Ok-feed.ensures.within f 1099511627776 r.bytes r.has_read) (λ f. (c.counted.ensures.last f).0) c.counted.ensures.others p

pub returns-in-Ok-feed-clause-fed : goal.returns-in-Ok-feed-clause-fed
returns-in-Ok-feed-clause-fed g c =
    IfSome_then (g.F.Files.held c.args.files.now) c.in-Ok.ensures.bytes
    (λ disk r. feeds_or_ends (bytes_at disk c.args.name.now) c.args.at c.in-Ok.count c.counted.result c.args.reader.now c.feed.new.self (take c.in-Ok.count c.read.new.buf) r.copied r.left (λ z. r.end z c.requires.room)
    (λ bytes. c.in-Ok-feed.ensures.read 1099511627776 bytes) c.counted.ensures.last c.counted.ensures.others)

pub returns-in-Err-feed-clause-refused : goal.returns-in-Err-feed-clause-refused
returns-in-Err-feed-clause-refused g c =
    IfSome_then (g.F.Files.held c.args.files.now) c.in-Ok.ensures.bytes
    (λ disk r. offends c.in-Err-feed.error c.refusal.result (bytes_at disk c.args.name.now) c.args.at c.in-Ok.count c.args.reader.now (take c.in-Ok.count c.read.new.buf) c.refusal.ensures r.copied
    (λ bytes rest line cause h e. c.in-Err-feed.ensures.refused 1099511627776 bytes rest line cause h (ap Err e)))
