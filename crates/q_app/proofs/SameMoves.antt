-- Two calls of `rebuild` on one log.
use Rattle.std.proofs.Common.{◌≡◌, ℕ, List, refl, subst}
use Rattle.q_logic.specs.Prelude.{PrenexFormula, trees_of, Lawful, Undos}
use Rattle.q_io.specs.Files.{bytes_at}
use Rattle.q_rebuild.specs.Rebuilt.{IsRebuilt}
use Rattle.q_command.specs.Checks.{IsFileOf, IsRunLog}
use Rattle.q_command.specs.Logs.{Entry, steps_of}
use Rattle.q_command.proofs.CheckStatus.{one_formula}
use Rattle.q_command.proofs.WholeLogs.{one_log, run_of}
use Rattle.q_app.specs.FirstMoves.{FirstMoves}

pub first-moves : FirstMoves
first-moves n m g h d e x y s w v k A agree =
    let from : v.from ≡ w.from = one_formula (bytes_at d n.input) v.from w.from (subst (λ (b : List ℕ). IsFileOf b v.from) s.input v.brings.is_input) w.brings.is_input in
    let to : v.to ≡ w.to = one_formula (bytes_at d n.output) v.to w.to (subst (λ (b : List ℕ). IsFileOf b v.to) s.output v.brings.is_output) w.brings.is_output in
    let steps : v.brings.log.entries ≡ w.brings.log.entries = one_log (bytes_at d n.log) v.from v.to w.from w.to v.brings.log.entries w.brings.log.entries (subst (λ (b : List ℕ). IsRunLog b v.from v.to v.brings.log.entries) s.log v.brings.log.leads) w.brings.log.leads in
    let undos : Undos w.from (steps_of w.brings.log.entries) v.undo =
    subst (λ (es : List Entry). Undos w.from (steps_of es) v.undo) steps
    (subst (λ (F : PrenexFormula). Undos F (steps_of v.brings.log.entries) v.undo) from (v.brings.log.undone refl)) in
    let lawful : Lawful w.to.prefix (trees_of v.given) = subst (λ (G : PrenexFormula). Lawful G.prefix (trees_of v.given)) to v.holds.1.1.moves.lawful in
    let rebuilt : IsRebuilt w.from w.to v.undo v.given v.holds.1.1.made =
    subst (λ (F : PrenexFormula). IsRebuilt F w.to v.undo v.given v.holds.1.1.made) from
    (subst (λ (G : PrenexFormula). IsRebuilt v.from G v.undo v.given v.holds.1.1.made) to v.holds.1.1.rebuilt) in
    w.holds.1.1.moves.same (steps_of w.brings.log.entries) v.undo v.given v.holds.1.1.made k A (run_of (bytes_at d n.log) w.from w.to w.brings.log.entries w.brings.log.leads)
    (w.brings.log.undone refl) undos lawful rebuilt agree
