-- A store in memory, as its names and bytes.
use Rattle.std.specs.Prelude.{◌≡◌, ◌+◌, ◌-◌, ◌^◌, ◌==◌, ◌&&◌, min, ℕ, zero, suc, Bool, cond, List, [], ◌∷◌, Option, Some, None, Vec, String, string_bytes, refl}
use Rattle.std.specs.Coded.{Coded, code_by, coded×, coded_ℕ, coded_list}
use Rattle.std.specs.FinMap as fin
use Rattle.std.specs.BTreeMap.{BTreeMap}
use Rattle.std.specs.declared.alloc.Global.{Global}
use Rattle.q_io.specs.Files.{Disk}
use Rattle.q_io.specs.declared.memory.Call.{Call}
use Rattle.q_io.specs.declared.memory.Call.TheVariants.{Read, Create, Append}
use Rattle.q_io.specs.declared.memory.Fault.{Fault}

abbrev pub texts : List (String Global × Vec ℕ Global) → List (List ℕ × List ℕ)
texts [] = []
texts (e ∷ es) = (string_bytes e.0, e.1.items) ∷ texts es

abbrev pub disk_of : BTreeMap (String Global) (Vec ℕ Global) → Disk
disk_of m = fin.from_entries (texts m.entries)

-- the number of a call, where these were before it
abbrev pub next : ℕ → ℕ
next n = min (n + 1) (2 ^ 64 - 1)

abbrev pub call_number : Call → ℕ
call_number Read = 0
call_number Create = 1
call_number Append = 2

-- this fault is of this call
abbrev pub is_of : Fault → Call → ℕ → Bool
is_of fault call nth = (call_number fault.call == call_number call) && (fault.nth == nth)

-- how many bytes the first fault planned for this call lets it store; none where the call is not to fail
abbrev pub part_of : List Fault → Call → ℕ → Option ℕ
part_of [] call nth = None
part_of (fault ∷ faults) call nth = cond (is_of fault call nth) (Some fault.part) (part_of faults call nth)

-- a store in memory: what it holds, its counts of faults, the faults that are planned, and how often each call was made
pub record MemDisk : Type 0 where
  pub disk : Disk
  pub read_faults : ℕ
  pub write_faults : ℕ
  pub planned : List Fault
  pub reads : ℕ
  pub creates : ℕ
  pub appends : ℕ

-- the same faults are planned, and no call was made
pub record SamePlan (before after : MemDisk) : Type 0 where
  pub planned : after.planned ≡ before.planned
  pub reads : after.reads ≡ before.reads
  pub creates : after.creates ≡ before.creates
  pub appends : after.appends ≡ before.appends

abbrev pub call_at : ℕ → Call
call_at zero = Read
call_at (suc zero) = Create
call_at (suc (suc _)) = Append

pub call_back : (call : Call) → call_at (call_number call) ≡ call
call_back Read = refl
call_back Create = refl
call_back Append = refl

abbrev pub call_code : Coded Call
call_code = code_by ℕ coded_ℕ call_number call_at call_back

abbrev pub fault_code : Coded Fault
fault_code =
    code_by (Call × (ℕ × ℕ)) (coded× call_code (coded× coded_ℕ coded_ℕ)) (λ f. (f.call, (f.nth, f.part))) (λ p. record { call = p.0; nth = p.1.0; part = p.1.1 }) (λ _. refl)

abbrev pub counts_code : Coded (ℕ × (ℕ × ℕ))
counts_code = coded× coded_ℕ (coded× coded_ℕ coded_ℕ)

abbrev pub mem_code : Coded MemDisk
mem_code =
    code_by (Disk × ((ℕ × ℕ) × (List Fault × (ℕ × (ℕ × ℕ))))) (coded× (fin.code (coded_list coded_ℕ) (coded_list coded_ℕ)) (coded× (coded× coded_ℕ coded_ℕ) (coded× (coded_list fault_code) counts_code))) (λ m. (m.disk, ((m.read_faults, m.write_faults), (m.planned, (m.reads, (m.creates, m.appends)))))) (λ p. record { disk = p.0; read_faults = p.1.0.0; write_faults = p.1.0.1; planned = p.1.1.0; reads = p.1.1.1.0; creates = p.1.1.1.1.0; appends = p.1.1.1.1.1 }) (λ _. refl)

-- a sink in memory: what was put, its counts of faults and of wants of memory, the puts that are to fail, and how many were made
pub record MemText : Type 0 where
  pub text : List ℕ
  pub faults : ℕ
  pub wants : ℕ
  pub planned : List ℕ
  pub puts : ℕ

-- a sink in memory that never fails: what was put, and its count of wants of memory
pub record SteadyText : Type 0 where
  pub text : List ℕ
  pub wants : ℕ
