-- What a function of the reader answers is what one step gives, unless memory runs out.
use Rattle.std.specs.Prelude.{◌≡◌, ℕ, Result, Ok, Err}
use Rattle.q_qrp.specs.declared.builder.Fault.{Fault}
use Rattle.q_qrp.specs.declared.builder.Fault.TheVariants.{Refused, NoMemory}
use Rattle.q_qrp.specs.declared.error.TraceError.{TraceError}
use Rattle.q_qrp.specs.declared.error.TraceError.TheVariants.{Refused as refused_at, NoMemory as out_of_memory}
use Rattle.q_qrp.specs.Causes.{cause_number}
use Rattle.q_qrp.specs.Reading.{Gathered}

abbrev pub Fails : {X : Type 0} → Fault → Result X ℕ → Type 0
Fails (Refused c) s = s ≡ Err (cause_number c)
Fails NoMemory s = Unit {0}

abbrev pub Steps : {X : Type 0} → Result X Fault → Result Gathered ℕ → Gathered → Type 0
Steps (Ok x) s new = s ≡ Ok new
Steps (Err e) s new = Fails e s

-- the answer is this number or this cause
abbrev pub IsNumber : {X : Type 0} → Result X Fault → Result X ℕ → Type 0
IsNumber (Ok n) s = s ≡ Ok n
IsNumber (Err e) s = Fails e s

-- the error of a fault in this line
abbrev pub error_at : ℕ → Fault → TraceError
error_at line (Refused c) = refused_at line (cause_number c)
error_at line NoMemory = out_of_memory
