-- What has been read in pieces has been read as a whole.
use Rattle.std.proofs.Common.{◌≡◌, ℕ, List, ◌++◌, Ok, Err, Result, ap, sym, ◌∙◌, subst, OnOk, IfOk}
use Rattle.q_qrp.specs.declared.error.TraceError.{TraceError}
use Rattle.q_qrp.specs.declared.error.TraceError.TheVariants.{Refused}
use Rattle.q_qrp.specs.declared.reader.Standing.TheVariants.{Stopped}
use Rattle.q_qrp.specs.Lines.{Proof}
use Rattle.q_qrp.specs.Scanning.{Scan, fed, start, outcome, HasRead, Feeds, FeedFails, Answers, FailsAs}
use Rattle.q_qrp.specs.Offences.{Offence, ReadsOn, RefusesBehind, RefusesAll, ProofOf, TraceOf}
use Rattle.q_qrp.proofs.FedBytes.{fed-more}
use Rattle.q_qrp.proofs.FeedLaw.{reads, outcome-fed-stopped}

pub feed-reads : {X : Type 0} (r : Result X TraceError) (old new : Scan) (piece : List ℕ) → Feeds r (fed old piece) new → OnOk r (ReadsOn old piece new)
feed-reads (Ok x) old new piece h = λ m bytes k. h.0 ∙ (ap (λ s. fed s piece) k ∙ sym (fed-more (start m) bytes piece))
feed-reads (Err e) old new piece h = tt

refuses : (m : ℕ) (bytes piece rest : List ℕ) (old : Scan) (line cause : ℕ) → HasRead m bytes old → (fed old piece).standing ≡ Stopped (Refused line cause)
    → Offence m (bytes ++ (piece ++ rest)) line cause
refuses m bytes piece rest old line cause h e =
    sym (reads m (bytes ++ (piece ++ rest)))
    ∙ (ap outcome (fed-more (start m) bytes (piece ++ rest) ∙ (ap (λ s. fed s (piece ++ rest)) (sym h) ∙ fed-more old piece rest))
    ∙ outcome-fed-stopped (fed old piece) (Refused line cause) rest e)

pub feed-refuses : {X : Type 0} (r : Result X TraceError) (old new : Scan) (piece : List ℕ) → Feeds r (fed old piece) new → RefusesBehind r old piece
feed-refuses (Ok x) old new piece h m bytes rest line cause k e = absurd (cc)
feed-refuses (Err f) old new piece h m bytes rest line cause k e =
    let g : f ≡ Refused line cause = cc in
    refuses m bytes piece rest old line cause k ((subst (λ x. FeedFails x (fed old piece) new) g h).0)

pub finish-reads : (r : Result Proof TraceError) (s : Scan) → Answers r (outcome s) → IfOk r (λ p. ProofOf s p)
finish-reads (Ok p) s h = λ m bytes k. sym (reads m bytes) ∙ (ap outcome (sym k) ∙ h)
finish-reads (Err e) s h = tt

pub finish-refuses : (r : Result Proof TraceError) (s : Scan) → Answers r (outcome s) → RefusesAll r s
finish-refuses (Ok f) s h m bytes line cause k e = absurd (cc)
finish-refuses (Err f) s h m bytes line cause k e =
    let g : f ≡ Refused line cause = cc in
    sym (reads m bytes) ∙ (ap outcome (sym k) ∙ subst (λ x. FailsAs x (outcome s)) g h)
