-- What an outcome says, from its parts.
use Rattle.std.proofs.Common.{◌≡◌, ◌≢◌, ◌⊎◌, inl, inr, sym, ap, subst, refl, ℕ, List, length, Option, Some, None, IfSome}
use Rattle.std.specs.List.{AllByRecursion}
use Rattle.q_logic.specs.Prelude.{standard, Matrix, Prefix, PrenexFormula, CertificateView, trees_of, Lawful, IsFormula}
use Rattle.q_io.specs.Files.{Disk, bytes_at, HoldsBytes, MayHoldFront}
use Rattle.q_io.specs.declared.error.DeviceError.{DeviceError}
use Rattle.q_io.specs.declared.error.DeviceError.TheVariants as device
use Rattle.q_dimacs.specs.Building.{formula_of}
use Rattle.q_aiger.specs.Circuits.{AreCircuits}
use Rattle.q_certificate.specs.Prelude.{Fits, IsMisfit}
use Rattle.q_certificate.specs.declared.error.Misfit.{Misfit}
use Rattle.q_certificate.specs.declared.error.Misfit.TheVariants as misfit
use Rattle.q_cnf.specs.Cnf.{cnf_text, AreVariables, no_sets}
use Rattle.q_cnf.proofs.ReadCnf.{cnf-read}
use Rattle.q_encode.specs.declared.side.Side.{Side}
use Rattle.q_encode.specs.Sides.{turned}
use Rattle.q_encode.specs.Sums.{IsSmall}
use Rattle.q_encode.specs.Encoded.{IsMiter}
use Rattle.q_encode.proofs.GivenCircuits.{given-decided, miter-within}
use Rattle.q_command.specs.Checks.{IsFileOf, IsFormulaFile}
use Rattle.q_command.specs.Inputs.{IsRefused as IsInputRefused}
use Rattle.q_command.specs.Texts.{IsNoText}
use Rattle.q_command.specs.declared.input.InputError.{InputError}
use Rattle.q_command.specs.declared.input.InputError.TheVariants as input
use Rattle.q_command.specs.declared.circuits.CircuitsError.{CircuitsError}
use Rattle.q_command.specs.declared.circuits.CircuitsError.TheVariants as text
use Rattle.q_command.specs.declared.status.Status.TheVariants as status
use Rattle.q_command.proofs.FileFormulas.{file-formula}
use Rattle.q_run_miter.specs.MiteredLines.{status_of_mitered}
use Rattle.q_run_miter.specs.Mitering.{MiterFiles, OfFiles, AreMade, IsDecided, CircuitsFail, IsPart, Puts, Miters, refused_input, refused_text, refused_circuits, failed_write}
use Rattle.q_run_miter.specs.declared.mitered.Mitered.{Mitered}
use Rattle.q_run_miter.specs.declared.mitered.Mitered.TheVariants.{Written, RefusedInput, RefusedText, RefusedCircuits, TooLarge, ReadFault, WriteFault, NoMemory}

-- a refusal of circuits is what the outcome says
pub misfit-fails : (e : Misfit) (o : Mitered) (side : Side) (F : PrenexFormula) (c : CertificateView) → o ≡ refused_circuits e →
    IsMisfit (turned side F.prefix) c e → CircuitsFail o side F c
misfit-fails e o side F c q h = subst (λ (x : Mitered). CircuitsFail x side F c) (sym q) (go e h)
  where
    go : (e : Misfit) → IsMisfit (turned side F.prefix) c e → CircuitsFail (refused_circuits e) side F c
    go (misfit.MissingOutput v) h = h
    go (misfit.StrangeOutput v) h = h
    go (misfit.StrangeInput v) h = h
    go (misfit.Reads v u) h = h
    go misfit.NoMemory h = tt

-- the text of clauses that are made is a formula file, which decides
pub made-decides : (side : Side) (F : PrenexFormula) (c : CertificateView) (X : Matrix) → IsFormula F → AreMade side F c X → AreVariables X → IsDecided side F c X
made-decides side F c X f m v =
    let w = miter-within side F c X f m.miter m.small in
    let r = cnf-read X (record { variables = v; ordered = w.ordered }) (record { vars = w.vars; clauses = w.clauses; lits = w.lits }) in
    record { made = m; formula = formula_of no_sets X; file = r.0; cnf = r.1; decides = given-decided side F c X (formula_of no_sets X) f m.lawful m.miter r.1 }

module _ (side : Side) (n : MiterFiles) (before : Disk) (after : Option Disk) (F : PrenexFormula) (c : CertificateView) (f : IsFileOf (bytes_at before n.input) F) (a : AreCircuits (bytes_at before n.cert) c) where
  files : {P : PrenexFormula → CertificateView → Type 0} → P F c → OfFiles n before P
  files h = record { formula = F; given = c; is_input = f; circuits = a; holds = h }

  pub fails-miters : (o : Mitered) → CircuitsFail o side F c → after ≡ Some before → Miters o side n before after
  fails-miters (Written k) h same = elim h [ ]
  fails-miters (RefusedInput k e) h same = elim h [ ]
  fails-miters (RefusedText k e) h same = elim h [ ]
  fails-miters (RefusedCircuits w) h same = (files h, same)
  fails-miters TooLarge h same = (files h, same)
  fails-miters ReadFault h same = elim h [ ]
  fails-miters WriteFault h same = elim h [ ]
  fails-miters NoMemory h same = inl same

  pub puts-miters : (o : Mitered) (X : Matrix) → AreMade side F c X → Puts o X n.output before after → Miters o side n before after
  puts-miters (Written k) X m (v, e, h) = files (X, made-decides side F c X (file-formula (bytes_at before n.input) F f) m v, e, h)
  puts-miters (RefusedInput k e) X m h = elim h [ ]
  puts-miters (RefusedText k e) X m h = elim h [ ]
  puts-miters (RefusedCircuits w) X m h = elim h [ ]
  puts-miters TooLarge X m h = elim h [ ]
  puts-miters ReadFault X m h = elim h [ ]
  puts-miters WriteFault X m h = files (X, m, h)
  puts-miters NoMemory X m (inl e) = inl e
  puts-miters NoMemory X m (inr h) = inr (files (X, m, h))

-- which outcomes give the statuses of faults
pub fails-not_fault : (o : Mitered) (side : Side) (F : PrenexFormula) (c : CertificateView) → CircuitsFail o side F c → status_of_mitered o ≢ status.ReadFault
fails-not_fault (Written k) side F c h e = h
fails-not_fault (RefusedInput k x) side F c h e = h
fails-not_fault (RefusedText k x) side F c h e = h
fails-not_fault (RefusedCircuits w) side F c h e = cc
fails-not_fault TooLarge side F c h e = cc
fails-not_fault ReadFault side F c h e = h
fails-not_fault WriteFault side F c h e = h
fails-not_fault NoMemory side F c h e = cc

pub fails-not_write : (o : Mitered) (side : Side) (F : PrenexFormula) (c : CertificateView) → CircuitsFail o side F c → status_of_mitered o ≢ status.WriteFault
fails-not_write (Written k) side F c h e = h
fails-not_write (RefusedInput k x) side F c h e = h
fails-not_write (RefusedText k x) side F c h e = h
fails-not_write (RefusedCircuits w) side F c h e = cc
fails-not_write TooLarge side F c h e = cc
fails-not_write ReadFault side F c h e = h
fails-not_write WriteFault side F c h e = h
fails-not_write NoMemory side F c h e = cc

pub write-fault : (e : DeviceError) → status_of_mitered (failed_write e) ≡ status.WriteFault → e ≡ device.Failed
write-fault device.Failed h = refl
write-fault device.NoMemory h = cc

pub write-not_read : (e : DeviceError) → status_of_mitered (failed_write e) ≢ status.ReadFault
write-not_read device.Failed h = cc
write-not_read device.NoMemory h = cc

pub input-miters : (e : InputError) (o : Mitered) (side : Side) (n : MiterFiles) (before : Disk) (after : Option Disk) → o ≡ refused_input e →
    IsInputRefused e (bytes_at before n.input) → after ≡ Some before → Miters o side n before after
input-miters e o side n before after q h same = subst (λ (x : Mitered). Miters x side n before after) (sym q) (go e h)
  where
    go : (e : InputError) → IsInputRefused e (bytes_at before n.input) → Miters (refused_input e) side n before after
    go (input.Refused k c) h = (h, same)
    go input.Fault h = same
    go input.NoMemory h = inl same

pub text-miters : (e : CircuitsError) (o : Mitered) (side : Side) (n : MiterFiles) (before : Disk) (after : Option Disk) → o ≡ refused_text e →
    IsFormulaFile (bytes_at before n.input) → IsNoText e (bytes_at before n.cert) → after ≡ Some before → Miters o side n before after
text-miters e o side n before after q f h same = subst (λ (x : Mitered). Miters x side n before after) (sym q) (go e h)
  where
    go : (e : CircuitsError) → IsNoText e (bytes_at before n.cert) → Miters (refused_text e) side n before after
    go (text.Refused k c) h = (f, h, same)
    go text.Fault h = same
    go text.NoMemory h = inl same

pub input-fault : (e : InputError) → status_of_mitered (refused_input e) ≡ status.ReadFault → e ≡ input.Fault
input-fault (input.Refused k c) h = cc
input-fault input.Fault h = refl
input-fault input.NoMemory h = cc

pub input-not_write : (e : InputError) → status_of_mitered (refused_input e) ≢ status.WriteFault
input-not_write (input.Refused k c) h = cc
input-not_write input.Fault h = cc
input-not_write input.NoMemory h = cc

pub text-fault : (e : CircuitsError) → status_of_mitered (refused_text e) ≡ status.ReadFault → e ≡ text.Fault
text-fault (text.Refused k c) h = cc
text-fault text.Fault h = refl
text-fault text.NoMemory h = cc

pub text-not_write : (e : CircuitsError) → status_of_mitered (refused_text e) ≢ status.WriteFault
text-not_write (text.Refused k c) h = cc
text-not_write text.Fault h = cc
text-not_write text.NoMemory h = cc

-- the same over what files tell, if they tell it
module _ (side : Side) (n : MiterFiles) (F : PrenexFormula) (c : CertificateView) where
  abbrev Found : Disk → Type 0
  Found d = IsFileOf (bytes_at d n.input) F × AreCircuits (bytes_at d n.cert) c

  pub found : (held : Option Disk) → IfSome held (λ d. IsFileOf (bytes_at d n.input) F) → IfSome held (λ d. AreCircuits (bytes_at d n.cert) c) → IfSome held Found
  found None f a = tt
  found (Some d) f a = (f, a)

  pub fails-joined : (held after : Option Disk) (o : Mitered) → IfSome held Found → CircuitsFail o side F c → after ≡ held → IfSome held (λ d. Miters o side n d after)
  fails-joined None after o f h same = tt
  fails-joined (Some d) after o f h same = fails-miters side n d after F c f.0 f.1 o h same

  pub puts-joined : (held after : Option Disk) (o : Mitered) (X : Matrix) → IfSome held Found → AreMade side F c X →
      IfSome held (λ d. Puts o X n.output d after) → IfSome held (λ d. Miters o side n d after)
  puts-joined None after o X f m p = tt
  puts-joined (Some d) after o X f m p = puts-miters side n d after F c f.0 f.1 o X m p

pub input-joined : (held after : Option Disk) (e : InputError) (o : Mitered) (side : Side) (n : MiterFiles) → o ≡ refused_input e →
    IfSome held (λ d. IsInputRefused e (bytes_at d n.input)) → after ≡ held → IfSome held (λ d. Miters o side n d after)
input-joined None after e o side n q h same = tt
input-joined (Some d) after e o side n q h same = input-miters e o side n d after q h same

pub text-joined : (held after : Option Disk) (e : CircuitsError) (o : Mitered) (side : Side) (n : MiterFiles) (F : PrenexFormula) → o ≡ refused_text e →
    IfSome held (λ d. IsFileOf (bytes_at d n.input) F) → IfSome held (λ d. IsNoText e (bytes_at d n.cert)) → after ≡ held → IfSome held (λ d. Miters o side n d after)
text-joined None after e o side n F q f h same = tt
text-joined (Some d) after e o side n F q f h same = text-miters e o side n d after q (F, f) h same

-- what writing the text of the clauses leaves
pub put-whole : (held after : Option Disk) (k : ℕ) (X : Matrix) (name text : List ℕ) → k ≡ length X → AreVariables X → text ≡ cnf_text X →
    IfSome held (λ d. HoldsBytes name text d after) → IfSome held (λ d. Puts (Written k) X name d after)
put-whole None after k X name text q v e h = tt
put-whole (Some d) after k X name text q v e h = (v, q, subst (λ (t : List ℕ). HoldsBytes name t d after) e h)

pub put-part : (held after : Option Disk) (x : DeviceError) (o : Mitered) (X : Matrix) (name text : List ℕ) → o ≡ failed_write x → text ≡ cnf_text X →
    IfSome held (λ d. MayHoldFront name text d after) → IfSome held (λ d. Puts o X name d after)
put-part None after x o X name text q e h = tt
put-part (Some d) after x o X name text q e h =
    subst (λ (w : Mitered). Puts w X name d after) (sym q) (go x (subst (λ (t : List ℕ). MayHoldFront name t d after) e h))
  where
    go : (x : DeviceError) → MayHoldFront name (cnf_text X) d after → Puts (failed_write x) X name d after
    go device.Failed h = h
    go device.NoMemory h = inr h

pub put-nothing : (held after : Option Disk) (X : Matrix) (name : List ℕ) → after ≡ held → IfSome held (λ d. Puts NoMemory X name d after)
put-nothing None after X name e = tt
put-nothing (Some d) after X name e = inl e

-- circuits that passed the tests over the prefix of their side
pub fits-turned : (side : Side) (P Q : Prefix) (c : CertificateView) → Q ≡ turned side P → Fits Q c → Fits (turned side P) c
fits-turned side P Q c e f = subst (λ (R : Prefix). Fits R c) e f

pub misfit-turned : (side : Side) (P Q : Prefix) (c : CertificateView) (x : Misfit) → Q ≡ turned side P → IsMisfit Q c x → IsMisfit (turned side P) c x
misfit-turned side P Q c x e f = subst (λ (R : Prefix). IsMisfit R c x) e f

pub made-of : (side : Side) (F : PrenexFormula) (c d : CertificateView) (X : Matrix) → d ≡ c → Fits (turned side F.prefix) c →
    ((P : Prefix) → Fits P d → Lawful P (trees_of d)) → IsMiter side F d X → IsSmall side F d → AreMade side F c X
made-of side F c d X e f l m s = record {
  fits = f;
  lawful = subst (λ (x : CertificateView). Lawful (turned side F.prefix) (trees_of x)) e
      (l (turned side F.prefix) (subst (λ (x : CertificateView). Fits (turned side F.prefix) x) (sym e) f));
  small = subst (λ (x : CertificateView). IsSmall side F x) e s;
  miter = subst (λ (x : CertificateView). IsMiter side F x X) e m;
}
