-- What has been read in pieces has been read as a whole.
use Rattle.std.proofs.Common.{◌≡◌, ℕ, List, ◌++◌, Ok, Err, Result, ap, sym, ◌∙◌, subst, OnOk, IfOk}
use Rattle.q_logic.specs.declared.limits.Limits.{Limits}
use Rattle.q_logic.specs.Prelude.{PrenexFormula}
use Rattle.q_dimacs.specs.declared.error.ReadError.{ReadError}
use Rattle.q_dimacs.specs.declared.error.ReadError.TheVariants.{Refused}
use Rattle.q_dimacs.specs.declared.reader.Standing.TheVariants.{Stopped}
use Rattle.q_dimacs.specs.Scanning.{Scan, fed, start, outcome, HasRead, Feeds, FeedFails, Answers, FailsAs}
use Rattle.q_dimacs.specs.Dimacs.{Dimacs}
use Rattle.q_dimacs.specs.Offences.{Offence, RefusesBehind, RefusesAll}
use Rattle.q_dimacs.proofs.FedBytes.{fed-more}
use Rattle.q_dimacs.proofs.FeedLaw.{reads, outcome-fed-stopped}
use Rattle.q_dimacs.proofs.ReadIsGrammar.{read_is_grammar}

pub feed-reads : {X : Type 0} (r : Result X ReadError) (old new : Scan) (piece : List ℕ) → Feeds r (fed old piece) new
    → OnOk r ((m : Limits) → (bytes : List ℕ) → HasRead m bytes old → HasRead m (bytes ++ piece) new)
feed-reads (Ok x) old new piece h = λ m bytes k. h.0 ∙ (ap (λ s. fed s piece) k ∙ sym (fed-more (start m) bytes piece))
feed-reads (Err e) old new piece h = tt

refuses : (m : Limits) (bytes piece rest : List ℕ) (old : Scan) (line cause : ℕ) → HasRead m bytes old → (fed old piece).standing ≡ Stopped (Refused line cause)
    → Offence m (bytes ++ (piece ++ rest)) line cause
refuses m bytes piece rest old line cause h e =
    sym (reads m (bytes ++ (piece ++ rest)))
    ∙ (ap outcome (fed-more (start m) bytes (piece ++ rest) ∙ (ap (λ s. fed s (piece ++ rest)) (sym h) ∙ fed-more old piece rest))
    ∙ outcome-fed-stopped (fed old piece) (Refused line cause) rest e)

pub feed-refuses : {X : Type 0} (r : Result X ReadError) (old new : Scan) (piece : List ℕ) → Feeds r (fed old piece) new
    → RefusesBehind r old piece
feed-refuses (Ok x) old new piece h m bytes rest line cause k e = absurd (cc)
feed-refuses (Err f) old new piece h m bytes rest line cause k e =
    let g : f ≡ Refused line cause = cc in
    refuses m bytes piece rest old line cause k ((subst (λ x. FeedFails x (fed old piece) new) g h).0)

pub finish-reads : (r : Result PrenexFormula ReadError) (s : Scan) → Answers r (outcome s)
    → IfOk r (λ f. (m : Limits) → (bytes : List ℕ) → HasRead m bytes s → Dimacs m bytes f)
finish-reads (Ok f) s h = λ m bytes k. read_is_grammar m bytes f (sym (reads m bytes) ∙ (ap outcome (sym k) ∙ h))
finish-reads (Err e) s h = tt

pub finish-refuses : (r : Result PrenexFormula ReadError) (s : Scan) → Answers r (outcome s)
    → RefusesAll r s
finish-refuses (Ok f) s h m bytes line cause k e = absurd (cc)
finish-refuses (Err f) s h m bytes line cause k e =
    let g : f ≡ Refused line cause = cc in
    sym (reads m bytes) ∙ (ap outcome (sym k) ∙ subst (λ x. FailsAs x (outcome s)) g h)

pub read-whole : (r : Result PrenexFormula ReadError) (s : Scan) (m : Limits) (bytes : List ℕ) → HasRead m bytes s
    → IfOk r (λ f. (n : Limits) → (xs : List ℕ) → HasRead n xs s → Dimacs n xs f) → IfOk r (λ f. Dimacs m bytes f)
read-whole (Ok f) s m bytes h k = k m bytes h
read-whole (Err e) s m bytes h k = tt

pub err-again : {X Y : Type 0} (e f : ReadError) → ◌≡◌ {A = Result X ReadError} (Err e) (Err f) → ◌≡◌ {A = Result Y ReadError} (Err e) (Err f)
err-again e f h = let g : e ≡ f = cc in ap Err g
