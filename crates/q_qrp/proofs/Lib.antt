mod TraceLines
pub mod WordLaw
mod FedBytes
mod ByteLimit
mod FeedLaw
mod PieceReads
mod GrammarIsRead
mod ReadIsGrammar
