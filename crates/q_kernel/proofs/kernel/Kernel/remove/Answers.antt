use Rattle.q_kernel.proofs.kernel.Kernel.remove.Goals as goal

pub note_joining-requires : goal.note_joining-requires
note_joining-requires c = c.requires.valid.0
