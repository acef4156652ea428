-- What is to be shown of a command, and what it does then.
use Rattle.std.proofs.Common.{◌≡◌, ◌≢◌, ◌⊎◌, ◌∙◌, inl, inr, sym, Option, Some, None, IfSome}
use Rattle.std.proofs.lemmas.Option.{IfSome_then}
use Rattle.q_logic.specs.Prelude.{Rose}
use Rattle.q_io.specs.Files.{Disk, RoseAmong}
use Rattle.q_command.specs.Checks.{Exactly, MayCome}
use Rattle.q_command.specs.Devices.{Devices}
use Rattle.q_command.specs.FirstFaults.{FaultAt}
use Rattle.q_command.specs.Sinks.{SinkView, IsDue, IsSaid}
use Rattle.q_command.specs.Told.{Told, IfReading, Runs, IsFaultless, OrNoMemory, Completes}
use Rattle.q_command.specs.declared.status.Status.{Status}
use Rattle.q_command.specs.declared.status.Status.TheVariants as status

-- the laws of a command: what its outcomes mean is what its statuses mean, none says that the words are no command, and its
-- statuses answer where of all that may come at any time only want of memory does
pub record ToldLaws (t : Told) : Type 0 where
  pub gives : (o : t.Outcome) (given : Status) (disk : Disk) (after : Option Disk) (old new : SinkView) → t.says o disk after → IsDue (t.status_of o) given old new → t.gives given disk after
  pub no_usage : (o : t.Outcome) → t.status_of o ≢ status.Usage
  pub answers : (given : Status) (disk : Disk) (after : Option Disk) → (MayCome given → given ≡ status.NoMemory) → t.gives given disk after → t.answers disk given

-- a status that no sink gives is the one that is due
due-is : (due given s : Status) (old new : SinkView) → s ≢ status.WriteFault → s ≢ status.NoMemory → IsDue due given old new → given ≡ s → due ≡ s
due-is due given s old new n m (inl e) g = sym e ∙ g
due-is due given s old new n m (inr (inl f)) g = absurd (n (sym g ∙ f.0))
due-is due given s old new n m (inr (inr f)) g = absurd (m (sym g ∙ f.0))

pub due-usage : (due given : Status) (old new : SinkView) → IsDue due given old new → given ≡ status.Usage → due ≡ status.Usage
due-usage due given old new d e = due-is due given status.Usage old new (λ x. cc) (λ x. cc) d e

pub due-read : (due given : Status) (old new : SinkView) → IsDue due given old new → given ≡ status.ReadFault → due ≡ status.ReadFault
due-read due given old new d e = due-is due given status.ReadFault old new (λ x. cc) (λ x. cc) d e

pub due-write : (due given : Status) (old new : SinkView) → IsDue due given old new → given ≡ status.WriteFault → (due ≡ status.WriteFault) ⊎ Rose old.faults new.faults
due-write due given old new (inl e) g = inl (sym e ∙ g)
due-write due given old new (inr (inl f)) g = inr f.1
due-write due given old new (inr (inr f)) g = let w : status.NoMemory ≡ status.WriteFault = sym f.0 ∙ g in cc

-- a command that has said its outcome
pub runs : (t : Told) → ToldLaws t → (due : t.Outcome) (before after : Devices) (given : Status) → IfSome before.held (λ disk. t.says due disk after.held) → IsSaid (t.line_of due) (t.status_of due) given before.sink after.sink →
    (t.status_of due ≡ status.ReadFault → RoseAmong (λ (d : Devices). d.read_faults) t.reads before after) → (t.status_of due ≡ status.WriteFault → RoseAmong (λ (d : Devices). d.write_faults) t.writes before after) → IfReading t.writes (after.held ≡ before.held) →
    (t.status_of due ≡ status.ReadFault → FaultAt (λ (d : Devices). d.read_faults) t.reads_at before.held after.held before after) → (t.status_of due ≡ status.WriteFault → FaultAt (λ (d : Devices). d.write_faults) t.writes_at before.held after.held before after) → Runs t before given after
runs t laws due before after given is said r w unchanged ra wa =
    record {
      gives = IfSome_then before.held is (λ disk h. laws.gives due given disk after.held before.sink after.sink h said.answer);
      no_usage = λ e. laws.no_usage due (due-usage (t.status_of due) given before.sink after.sink said.answer e);
      read_fault = λ e. r (due-read (t.status_of due) given before.sink after.sink said.answer e);
      write_fault = λ e. elim (due-write (t.status_of due) given before.sink after.sink said.answer e) [ inl x ↦ inr (w x) | inr x ↦ inl x ];
      read_fault_at = λ e. ra (due-read (t.status_of due) given before.sink after.sink said.answer e);
      write_fault_at = λ e. elim (due-write (t.status_of due) given before.sink after.sink said.answer e) [ inl x ↦ inr (wa x) | inr x ↦ inl x ];
      unchanged = unchanged;
      line = record { due = due; is = is; given_is = said.answer; says = said.says };
    }

-- of what may come in place of an answer, want of memory is left
pub wants : (t : Told) (before : Devices) (given : Status) (after : Devices) → Runs t before given after → IsFaultless t before after → MayCome given → given ≡ status.NoMemory
wants t before given after r q (inl e) = absurd (q.reads (r.read_fault e))
wants t before given after r q (inr (inl e)) = elim (r.write_fault e) [ inl s ↦ absurd (q.sink s) | inr w ↦ absurd (q.writes w) ]
wants t before given after r q (inr (inr e)) = e

pub completes : (t : Told) → ToldLaws t → (before : Devices) (given : Status) (after : Devices) → Runs t before given after → Completes t before given after
completes t laws before given after r =
    IfSome_then before.held r.gives (λ disk g q. laws.answers given disk after.held (wants t before given after r q) g)

-- a status that comes exactly in this case
pub exact : (given s : Status) (P : Type 0) → (MayCome given → given ≡ status.NoMemory) → Exactly given s P → P → OrNoMemory given s
exact given s P m x p = elim (x.1 p) [ inl e ↦ inl e | inr e ↦ inr (m e) ]
