-- A file that is read in pieces.
use Rattle.std.proofs.Common.{◌≡◌, ◌≤◌, ◌+◌, ◌∙◌, refl, sym, ap, subst, arith, ℕ, List, [], ◌++◌, length, take, drop, Option, Some, None, Result, Ok, Err, IfSome, IfOk, IfErr, IsErrOf, length-drop, length-append}
use Rattle.std.proofs.Math.Seq.{take-add, take-length}
use Rattle.std.proofs.lemmas.List.{take-append-drop}
use Rattle.q_logic.specs.Prelude.{standard, IsInLimits, PrenexFormula}
use Rattle.q_dimacs.specs.declared.error.ReadError.{ReadError}
use Rattle.q_dimacs.specs.declared.error.ReadError.TheVariants as reading
use Rattle.q_dimacs.specs.Dimacs.{Dimacs}
use Rattle.q_dimacs.specs.Offences.{Offence}
use Rattle.q_dimacs.specs.Scanning.{Scan, HasRead}
use Rattle.q_command.specs.declared.input.InputError.{InputError}
use Rattle.q_command.specs.Inputs.{IsReading, HasFront, HasFed, IsRefused, read_error}

pub if_some : {D : Type 0} {P : D → Type 0} (o : Option D) → ((d : D) → P d) → IfSome o P
if_some None h = tt
if_some (Some d) h = h d

pub if_some_2 : {D : Type 0} {P Q R : D → Type 0} (o : Option D) → IfSome o P → IfSome o Q → ((d : D) → P d → Q d → R d) → IfSome o R
if_some_2 None p q h = tt
if_some_2 (Some d) p q h = h d p q

pub at_same : {D : Type 0} (P : D → Type 0) (o p : Option D) → o ≡ p → IfSome o P → IfSome p P
at_same P o p e h = subst (λ x. IfSome x P) e h

-- an error says the same in place of another value
pub err_of : {S T E : Type 0} (w v : E) → IsErrOf {T = S} {E = E} (Err w) v → IsErrOf {T = T} {E = E} (Err w) v
err_of w v h = let e : w ≡ v = cc in ap Err e

pub err-is : {T E : Type 0} (w v : E) → IsErrOf {T = T} {E = E} (Err w) v → w ≡ v
err-is w v h = cc

pub starts : (s : Scan) → HasRead standard [] s → IsReading 0 s
starts s h = record { bytes = []; has_read = h; all = refl; within = omega arith }

pub begins : (file : List ℕ) (s : Scan) → HasRead standard [] s → HasFront file 0 s
begins file s h = record { front = h; within = omega arith }

-- a reader that goes on after a piece
pub reads_on : (place n : ℕ) (old new : Scan) (piece : List ℕ) (r : IsReading place old) → n ≡ length piece → HasRead standard (r.bytes ++ piece) new → length (r.bytes ++ piece) ≤ 1099511627776 → IsReading (place + n) new
reads_on place n old new piece r e h w =
    record { bytes = r.bytes ++ piece; has_read = h; all = omega (arith, length-append r.bytes piece, r.all, e); within = omega (arith, length-append r.bytes piece, r.all, e, w) }

pub feeds : (file : List ℕ) (place n : ℕ) (old new : Scan) (piece : List ℕ) → piece ≡ take n (drop place file) → n ≤ length (drop place file) → (n ≡ 0 → length file ≤ place) → ((bytes : List ℕ) → HasRead standard bytes old → HasRead standard (bytes ++ piece) new) → HasFed file place n old new
feeds file place n old new piece e l z h =
    record {
      further = λ f. record {
        front = subst (λ xs. HasRead standard xs new) (ap (λ ys. take place file ++ ys) e ∙ sym (take-add place n file)) (h (take place file) f.front);
        within = omega (arith, length-drop place file, l, f.within);
      };
      end = z;
    }

-- an offence in a piece is that of the whole file
pub offends : (e : ReadError) (w : InputError) (file : List ℕ) (place n : ℕ) (old : Scan) (piece : List ℕ) → w ≡ read_error e → piece ≡ take n (drop place file) → ((bytes rest : List ℕ) (line cause : ℕ) → HasRead standard bytes old → e ≡ reading.Refused line cause → Offence standard (bytes ++ (piece ++ rest)) line cause) → HasFront file place old → IsRefused w file
offends (reading.Refused l c) w file place n old piece q p h f =
    let whole : take place file ++ (piece ++ drop n (drop place file)) ≡ file = ap (λ ys. take place file ++ (ys ++ drop n (drop place file))) p ∙ (ap (λ ys. take place file ++ ys) (take-append-drop n (drop place file)) ∙ take-append-drop place file) in
    subst (λ x. IsRefused x file) (sym q) (subst (λ xs. Offence standard xs l c) whole (h (take place file) (drop n (drop place file)) l c f.front refl))
offends reading.NoMemory w file place n old piece q p h f = subst (λ x. IsRefused x file) (sym q) tt

pub finish_offends : (e : ReadError) (w : InputError) (s : Scan) → w ≡ read_error e → ((bytes : List ℕ) (line cause : ℕ) → HasRead standard bytes s → e ≡ reading.Refused line cause → Offence standard bytes line cause) → (bytes : List ℕ) → HasRead standard bytes s → IsRefused w bytes
finish_offends (reading.Refused l c) w s q h bytes f = subst (λ x. IsRefused x bytes) (sym q) (h bytes l c f refl)
finish_offends reading.NoMemory w s q h bytes f = subst (λ x. IsRefused x bytes) (sym q) tt

-- at the end the reader has the whole file
pub ends : (file : List ℕ) (place n : ℕ) (old new : Scan) → n ≡ 0 → HasFront file place old → HasFed file place n old new → HasRead standard file new
ends file place n old new z f p =
    let g : HasFront file (place + n) new = p.further f in
    let all : place + n ≡ length file = omega (arith, p.end z, f.within, z) in
    subst (λ xs. HasRead standard xs new) (ap (λ k. take k file) all ∙ take-length file) g.front

pub ends_formula : {D : Type 0} (o : Option D) (file : D → List ℕ) (place n : ℕ) (old new : Scan) (r : Result PrenexFormula InputError) → n ≡ 0 → IfSome o (λ d. HasFront (file d) place old) → IfSome o (λ d. HasFed (file d) place n old new) → IfOk r (λ f. (bytes : List ℕ) → HasRead standard bytes new → Dimacs standard bytes f) → IfOk r (λ f. IfSome o (λ d. Dimacs standard (file d) f))
ends_formula o file place n old new (Ok f) z h p e = if_some_2 o h p (λ d a b. e (file d) (ends (file d) place n old new z a b))
ends_formula o file place n old new (Err w) z h p e = tt

pub ends_refused : {D : Type 0} (o : Option D) (file : D → List ℕ) (place n : ℕ) (old new : Scan) (r : Result PrenexFormula InputError) → n ≡ 0 → IfSome o (λ d. HasFront (file d) place old) → IfSome o (λ d. HasFed (file d) place n old new) → IfErr r (λ w. (bytes : List ℕ) → HasRead standard bytes new → IsRefused w bytes) → IfErr r (λ w. IfSome o (λ d. IsRefused w (file d)))
ends_refused o file place n old new (Ok f) z h p e = tt
ends_refused o file place n old new (Err w) z h p e = if_some_2 o h p (λ d a b. e (file d) (ends (file d) place n old new z a b))

-- what holds of all bytes that the reader may have read
pub ends_limits : {k : ℕ} (r : Result PrenexFormula InputError) (s : Scan) → IsReading k s → IfOk r (λ f. (bytes : List ℕ) → HasRead standard bytes s → IsInLimits standard f) → IfOk r (λ f. IsInLimits standard f)
ends_limits (Ok f) s i h = h i.bytes i.has_read
ends_limits (Err w) s i h = tt

-- what holds of a result goes on to what the files hold
pub ok_goes : {T E D : Type 0} {P : T → Type 0} (Q : T → D → Type 0) (r : Result T E) (o : Option D) → IfOk r P → ((t : T) → P t → IfSome o (Q t)) → IfOk r (λ t. IfSome o (Q t))
ok_goes Q (Ok t) o p h = h t p
ok_goes Q (Err e) o p h = tt

pub err_goes : {T E D : Type 0} {P : E → Type 0} (Q : E → D → Type 0) (r : Result T E) (o : Option D) → IfErr r P → ((e : E) → P e → IfSome o (Q e)) → IfErr r (λ e. IfSome o (Q e))
err_goes Q (Ok t) o p h = tt
err_goes Q (Err e) o p h = h e p

pub err_then : {T E : Type 0} {P Q : E → Type 0} (r : Result T E) → IfErr r P → ((e : E) → P e → Q e) → IfErr r Q
err_then (Ok t) p h = tt
err_then (Err e) p h = h e p
