-- Calls that only read.
use Rattle.q_io.specs.Files.{OnlyReads}
use Rattle.q_io.specs.declared.files.Files as files

-- a call that only reads, by what the trait of the files tells of them
abbrev pub OnlyReadsFiles : {F : Type 0} → files.Ghosts F → F → F → Type 0
OnlyReadsFiles told before after = OnlyReads told.held told.read_faults told.write_faults before after
