-- Feeding: what has stopped or ended stays so, and bytes behind bytes.
use Rattle.std.proofs.Common.{◌≡◌, ◌<◌, ℕ, zero, suc, List, [], ◌∷◌, ◌++◌, length, take, drop, get_or, Bool, true, false, refl, sym, ap, ◌∙◌, subst, not-suc-le-zero, le_of_suc-le-suc}
use Rattle.std.proofs.lemmas.List.{take-append-drop}
use Rattle.q_qrp.specs.declared.error.TraceError.{TraceError}
use Rattle.q_qrp.specs.declared.error.TraceError.TheVariants.{Refused, NoMemory}
use Rattle.q_qrp.specs.declared.reader.Standing.{Standing}
use Rattle.q_qrp.specs.declared.reader.Standing.TheVariants.{Reading, Finished, Stopped}
use Rattle.q_qrp.specs.Scanning.{Scan, byte_step, byte_at, fed, FeedFails, goes_on, has_finished}

pub fed-stopped : (s : Scan) (e : TraceError) (bs : List ℕ) → s.standing ≡ Stopped e → fed s bs ≡ s
fed-stopped s e [] h = refl
fed-stopped s e (b ∷ bs) h = ap (λ t. fed t bs) (ap (byte_at s b) h) ∙ fed-stopped s e bs h

pub fed-finished : (s : Scan) (bs : List ℕ) → s.standing ≡ Finished → fed s bs ≡ s
fed-finished s [] h = refl
fed-finished s (b ∷ bs) h = ap (λ t. fed t bs) (ap (byte_at s b) h) ∙ fed-finished s bs h

pub fed-more : (s : Scan) (bs cs : List ℕ) → fed s (bs ++ cs) ≡ fed (fed s bs) cs
fed-more s [] cs = refl
fed-more s (b ∷ bs) cs = fed-more (byte_step s b) bs cs

pub feeds-stopped : (s : Scan) (e : TraceError) (bs : List ℕ) → s.standing ≡ Stopped e → FeedFails e (fed s bs) s
feeds-stopped s (Refused n c) bs h = (ap (λ (t : Scan). t.standing) (fed-stopped s (Refused n c) bs h) ∙ h, h)
feeds-stopped s NoMemory bs h = h

fed-at : (s : Scan) (bs : List ℕ) (i : ℕ) → i < length bs → fed s bs ≡ fed (byte_step (fed s (take i bs)) (get_or bs i 0)) (drop (suc i) bs)
fed-at s [] i l = absurd (not-suc-le-zero l)
fed-at s (b ∷ bs) zero l = refl
fed-at s (b ∷ bs) (suc i) l = fed-at (byte_step s b) bs i (le_of_suc-le-suc l)

pub feeds-later : (s mid new : Scan) (e : TraceError) (bs : List ℕ) (i : ℕ) → mid ≡ fed s (take i bs) → i < length bs → FeedFails e (byte_step mid (get_or bs i 0)) new → FeedFails e (fed s bs) new
feeds-later s mid new (Refused n c) bs i m l h =
    let f = subst (λ (t : Scan). FeedFails (Refused n c) (byte_step t (get_or bs i 0)) new) m h in
    let all = fed-at s bs i l ∙ fed-stopped (byte_step (fed s (take i bs)) (get_or bs i 0)) (Refused n c) (drop (suc i) bs) f.0 in
    (ap (λ (t : Scan). t.standing) all ∙ f.0, f.1)
feeds-later s mid new NoMemory bs i m l h = h

pub fed-next : (s : Scan) (bs : List ℕ) (i : ℕ) → i < length bs → fed s (take (suc i) bs) ≡ byte_step (fed s (take i bs)) (get_or bs i 0)
fed-next s [] i l = absurd (not-suc-le-zero l)
fed-next s (b ∷ bs) zero l = refl
fed-next s (b ∷ bs) (suc i) l = fed-next (byte_step s b) bs i (le_of_suc-le-suc l)

pub only-finished : (t : Standing) → has_finished t ≡ true → t ≡ Finished
only-finished (Stopped e) h = cc
only-finished Finished h = refl
only-finished Reading h = cc

-- the verdict came within the front of the piece
pub finished-early : (s mid : Scan) (bs : List ℕ) (i : ℕ) → mid ≡ fed s (take i bs) → has_finished mid.standing ≡ true → (mid ≡ fed s bs) × (goes_on (fed s bs).standing ≡ true)
finished-early s mid bs i m h =
    let f : mid.standing ≡ Finished = only-finished mid.standing h in
    let all : fed s bs ≡ mid =
    ap (fed s) (sym (take-append-drop i bs)) ∙ (fed-more s (take i bs) (drop i bs) ∙ (ap (λ t. fed t (drop i bs)) (sym m) ∙ fed-finished mid (drop i bs) f)) in
    (sym all, ap (λ (t : Scan). goes_on t.standing) all ∙ ap goes_on f)

-- what goes on and has not finished still reads
pub still-reading : (t : Standing) → goes_on t ≡ true → has_finished t ≡ false → t ≡ Reading
still-reading (Stopped e) g h = cc
still-reading Finished g h = cc
still-reading Reading g h = refl
