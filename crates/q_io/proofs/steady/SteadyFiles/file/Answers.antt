use Rattle.std.proofs.Common.{sym, ap, ◌∙◌, option_map, Some}
use Rattle.std.specs.FinMap as map
use Rattle.q_io.proofs.MemoryStore.{get-disk_of}
use Rattle.q_io.proofs.steady.SteadyFiles.file.Goals as goal

pub returns-in-Some : goal.returns-in-Some
returns-in-Some c =
    let held = get-disk_of c.self.inside.names c.args.name.now in
    let seen = ap (λ m. map.get m c.args.name.now) c.self.view_is in
    ap Some c.as_slice.ensures.value ∙ ap (option_map (λ v. v.items)) c.in-Some.ensures.value ∙ sym held ∙ seen

pub returns-in-None : goal.returns-in-None
returns-in-None c =
    let held = get-disk_of c.self.inside.names c.args.name.now in
    let seen = ap (λ m. map.get m c.args.name.now) c.self.view_is in
    ap (option_map (λ v. v.items)) c.in-None.ensures.value ∙ sym held ∙ seen
