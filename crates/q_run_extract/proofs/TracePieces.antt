-- A trace that is read in pieces.
use Rattle.std.proofs.Common.{◌≡◌, ◌≤◌, ◌<◌, ◌+◌, ◌∙◌, refl, sym, ap, subst, arith, ℕ, Bool, true, false, List, [], ◌++◌, append_assoc, length, take, drop, Option, Result, Ok, Err, IfSome, IfOk, IfErr, length-drop, length-append}
use Rattle.std.proofs.Math.Seq.{take-add, take-length}
use Rattle.std.proofs.lemmas.List.{take-append-drop}
use Rattle.q_qrp.specs.declared.error.TraceError.{TraceError}
use Rattle.q_qrp.specs.declared.error.TraceError.TheVariants as reading
use Rattle.q_qrp.specs.Lines.{Proof}
use Rattle.q_qrp.specs.Offences.{Offence, ReadsOn, TraceOf}
use Rattle.q_qrp.specs.Scanning.{Scan, HasRead, has_finished}
use Rattle.q_command.proofs.FilePieces.{if_some_2}
use Rattle.q_run_extract.specs.declared.trace_file.TraceFault.{TraceFault}
use Rattle.q_run_extract.specs.TraceFiles.{IsReading, HasFront, HasFed, IsRefused, trace_error}

abbrev pub Has : List ℕ → Scan → Type 0
Has bytes s = HasRead 1099511627776 bytes s

pub starts : (s : Scan) → Has [] s → IsReading 0 s
starts s h = record { bytes = []; has_read = h; all = refl; within = omega arith }

pub begins : (file : List ℕ) (s : Scan) → Has [] s → HasFront file 0 s
begins file s h = record { front = h; within = omega arith }

-- a reader that goes on after a piece
pub reads_on : (place n : ℕ) (old new : Scan) (piece : List ℕ) (r : IsReading place old) → n ≡ length piece → Has (r.bytes ++ piece) new → length (r.bytes ++ piece) ≤ 1099511627776 → IsReading (place + n) new
reads_on place n old new piece r e h w =
    record { bytes = r.bytes ++ piece; has_read = h; all = omega (arith, length-append r.bytes piece, r.all, e); within = omega (arith, length-append r.bytes piece, r.all, e, w) }

-- a place behind the end is the end
all-taken : (file : List ℕ) (place : ℕ) → place ≤ length file → length file ≤ place → take place file ≡ file
all-taken file place l m = let e : place ≡ length file = omega arith in ap (λ k. take k file) e ∙ take-length file

pub feeds : (file : List ℕ) (place n : ℕ) (old new : Scan) (piece : List ℕ) → piece ≡ take n (drop place file) → n ≤ length (drop place file) → (n ≡ 0 → length file ≤ place) → ((bytes : List ℕ) → Has bytes old → Has (bytes ++ piece) new) → HasFed file place n old new
feeds file place n old new piece e l z h = record { further = λ p f. further f; end = λ f q. end f q }
  where
    further : HasFront file place old → HasFront file (place + n) new
    further f = record {
      front = subst (λ xs. Has xs new) (ap (λ ys. take place file ++ ys) e ∙ sym (take-add place n file)) (h (take place file) f.front);
      within = omega (arith, length-drop place file, l, f.within);
    }

    end : HasFront file place old → n ≡ 0 → Has file new
    end f q =
        let g = further f in
        let y : length file ≤ place + n = let w = z q in omega (arith, w) in
        subst (λ xs. Has xs new) (all-taken file (place + n) g.within y) g.front

-- behind the verdict nothing is read
pub ends_early : (file : List ℕ) (place n : ℕ) (old new : Scan) (piece : List ℕ) → piece ≡ take n (drop place file) → ((bytes : List ℕ) → Has bytes old → Has (bytes ++ piece) new) → ((rest bytes : List ℕ) → Has bytes new → Has (bytes ++ rest) new) → HasFed file place 0 old new
ends_early file place n old new piece e h stay = record { further = λ p f. absurd (omega (arith, p)); end = λ f q. end f }
  where
    end : HasFront file place old → Has file new
    end f =
        let rest : List ℕ = drop n (drop place file) in
        let whole : (take place file ++ piece) ++ rest ≡ file =
        append_assoc (take place file) piece rest ∙ (ap (λ ys. take place file ++ (ys ++ rest)) e ∙ (ap (λ ys. take place file ++ ys) (take-append-drop n (drop place file)) ∙ take-append-drop place file)) in
        subst (λ xs. Has xs new) whole (stay rest (take place file ++ piece) (h (take place file) f.front))

-- an offence in a piece is that of the whole file
pub offends : (e : TraceError) (w : TraceFault) (file : List ℕ) (place n : ℕ) (old : Scan) (piece : List ℕ) → w ≡ trace_error e → piece ≡ take n (drop place file)
    → ((bytes rest : List ℕ) (line cause : ℕ) → Has bytes old → e ≡ reading.Refused line cause → Offence 1099511627776 (bytes ++ (piece ++ rest)) line cause) → HasFront file place old → IsRefused w file
offends (reading.Refused l c) w file place n old piece q p h f =
    let whole : take place file ++ (piece ++ drop n (drop place file)) ≡ file = ap (λ ys. take place file ++ (ys ++ drop n (drop place file))) p ∙ (ap (λ ys. take place file ++ ys) (take-append-drop n (drop place file)) ∙ take-append-drop place file) in
    subst (λ x. IsRefused x file) (sym q) (subst (λ xs. Offence 1099511627776 xs l c) whole (h (take place file) (drop n (drop place file)) l c f.front refl))
offends reading.NoMemory w file place n old piece q p h f = subst (λ x. IsRefused x file) (sym q) tt

pub finish_offends : (e : TraceError) (w : TraceFault) (s : Scan) → w ≡ trace_error e → ((bytes : List ℕ) (line cause : ℕ) → Has bytes s → e ≡ reading.Refused line cause → Offence 1099511627776 bytes line cause) → (bytes : List ℕ) → Has bytes s → IsRefused w bytes
finish_offends (reading.Refused l c) w s q h bytes f = subst (λ x. IsRefused x bytes) (sym q) (h bytes l c f refl)
finish_offends reading.NoMemory w s q h bytes f = subst (λ x. IsRefused x bytes) (sym q) tt

pub ends_trace : {D : Type 0} (o : Option D) (file : D → List ℕ) (place n : ℕ) (old new : Scan) (r : Result Proof TraceFault) → n ≡ 0 → IfSome o (λ d. HasFront (file d) place old) → IfSome o (λ d. HasFed (file d) place n old new)
    → IfOk r (λ p. (bytes : List ℕ) → Has bytes new → TraceOf 1099511627776 bytes p) → IfOk r (λ p. IfSome o (λ d. TraceOf 1099511627776 (file d) p))
ends_trace o file place n old new (Ok p) z h q e = if_some_2 o h q (λ d a b. e (file d) (b.end a z))
ends_trace o file place n old new (Err w) z h q e = tt

pub ends_refused : {D : Type 0} (o : Option D) (file : D → List ℕ) (place n : ℕ) (old new : Scan) (r : Result Proof TraceFault) → n ≡ 0 → IfSome o (λ d. HasFront (file d) place old) → IfSome o (λ d. HasFed (file d) place n old new)
    → IfErr r (λ w. (bytes : List ℕ) → Has bytes new → IsRefused w bytes) → IfErr r (λ w. IfSome o (λ d. IsRefused w (file d)))
ends_refused o file place n old new (Ok p) z h q e = tt
ends_refused o file place n old new (Err w) z h q e = if_some_2 o h q (λ d a b. e (file d) (b.end a z))

-- the same, where the verdict may have come
pub reads_on_or_ends : (place n k : ℕ) (old new : Scan) (piece : List ℕ) (r : IsReading place old) → n ≡ length piece → Has (r.bytes ++ piece) new → (has_finished new.standing ≡ false → length (r.bytes ++ piece) ≤ 1099511627776)
    → (has_finished new.standing ≡ true → k ≡ 0) → (has_finished new.standing ≡ false → k ≡ n) → 0 < k → IsReading (place + k) new
reads_on_or_ends place n k old new piece r e h w last others p = go (has_finished new.standing) refl
  where
    go : (t : Bool) → has_finished new.standing ≡ t → IsReading (place + k) new
    go true f = absurd (let z = last f in omega (arith, z, p))
    go false f = subst (λ j. IsReading (place + j) new) (sym (others f)) (reads_on place n old new piece r e h (w f))

pub feeds_or_ends : (file : List ℕ) (place n k : ℕ) (old new : Scan) (piece : List ℕ) → piece ≡ take n (drop place file) → n ≤ length (drop place file) → (n ≡ 0 → length file ≤ place) → ((bytes : List ℕ) → Has bytes old → Has (bytes ++ piece) new)
    → (has_finished new.standing ≡ true → (k ≡ 0) × ((rest : List ℕ) → ReadsOn new rest new)) → (has_finished new.standing ≡ false → k ≡ n) → HasFed file place k old new
feeds_or_ends file place n k old new piece e l z h last others = go (has_finished new.standing) refl
  where
    go : (t : Bool) → has_finished new.standing ≡ t → HasFed file place k old new
    go true f = let x = last f in subst (λ j. HasFed file place j old new) (sym x.0) (ends_early file place n old new piece e h (λ rest bytes q. x.1 rest 1099511627776 bytes q))
    go false f = subst (λ j. HasFed file place j old new) (sym (others f)) (feeds file place n old new piece e l z h)
