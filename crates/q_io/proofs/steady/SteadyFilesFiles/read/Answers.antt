use Rattle.std.proofs.Common.{sym, ap, ◌∙◌, option_map, ℕ, Ok, Some}
use Rattle.std.specs.FinMap as map
use Rattle.q_io.proofs.MemoryStore.{get-disk_of, count_held, count_missing, read_held, read_missing}
use Rattle.q_io.proofs.steady.SteadyFilesFiles.read.Goals as goal

pub returns-in_default-clause-count : goal.returns-in_default-clause-count
returns-in_default-clause-count c =
    let held = get-disk_of c.self.inside.names c.args.name.now in
    let seen = ap (λ m. map.get m c.args.name.now) c.self.view_is in
    ap (λ (n : ℕ). Ok n) (count_missing _ _ _ _
    (sym seen ∙ held ∙ sym (ap (option_map (λ v. v.items)) c.in_default.ensures.value)))

pub returns-in_default-clause-bytes : goal.returns-in_default-clause-bytes
returns-in_default-clause-bytes c =
    let held = get-disk_of c.self.inside.names c.args.name.now in
    let seen = ap (λ m. map.get m c.args.name.now) c.self.view_is in
    read_missing _ _ _ _ _
    (sym seen ∙ held ∙ sym (ap (option_map (λ v. v.items)) c.in_default.ensures.value))

pub returns-clause-count : goal.returns-clause-count
returns-clause-count c =
    let held = get-disk_of c.self.inside.names c.args.name.now in
    let seen = ap (λ m. map.get m c.args.name.now) c.self.view_is in
    ap (λ (n : ℕ). Ok n) (count_held _ _ c.deref.result.now _ _ _
    (sym seen ∙ held ∙ sym (ap (option_map (λ v. v.items)) c.in-Some.ensures.value)
    ∙ ap Some (sym c.deref.ensures.value))
    c.copy_from.ensures.count)

pub returns-clause-bytes : goal.returns-clause-bytes
returns-clause-bytes c =
    let held = get-disk_of c.self.inside.names c.args.name.now in
    let seen = ap (λ m. map.get m c.args.name.now) c.self.view_is in
    read_held _ _ c.deref.result.now _ _ _ _
    (sym seen ∙ held ∙ sym (ap (option_map (λ v. v.items)) c.in-Some.ensures.value)
    ∙ ap Some (sym c.deref.ensures.value))
    c.copy_from.ensures.count c.copy_from.ensures.copied
