use Rattle.std.proofs.Common.{◌≡◌, ◌<◌, List, length, set, get_or, sym, ap, ◌∙◌, subst, arith}
use Rattle.std.proofs.lemmas.List.{length-set}
use Rattle.q_solve.specs.declared.counts.Count.{Count}
use Rattle.q_solve.specs.Counting.{if_so, is_untrue, is_lost}
use Rattle.q_solve.proofs.CountChanges.{number-there, number-few, number-set}
use Rattle.q_solve.proofs.counts.Counts.put.Goals as goal

pub recounted-self-inside-requires-clause-there : goal.recounted-self-inside-requires-clause-there
recounted-self-inside-requires-clause-there c =
    let row = c.self.inside.row.items in
    let d = c.index-old.result.now in
    let h : c.args.at < length row = subst (λ (xs : List Count). c.args.at < length xs) (sym c.self.view_is) c.requires in
    let r : if_so c.is_untrue.result 1 ≡ if_so (is_untrue (get_or row c.args.at d)) 1 = ap (λ b. if_so b 1) (c.is_untrue.ensures ∙ ap is_untrue c.index-old.ensures) in
    let n = number-there is_untrue row c.args.at d h in
    omega (arith, c.self.invariant.untrue_are)

pub recounted-self-inside-requires-clause-fits : goal.recounted-self-inside-requires-clause-fits
recounted-self-inside-requires-clause-fits c =
    let row = c.self.inside.row.items in
    let d = c.index-old.result.now in
    let h : c.args.at < length row = subst (λ (xs : List Count). c.args.at < length xs) (sym c.self.view_is) c.requires in
    let r : if_so c.is_untrue.result 1 ≡ if_so (is_untrue (get_or row c.args.at d)) 1 = ap (λ b. if_so b 1) (c.is_untrue.ensures ∙ ap is_untrue c.index-old.ensures) in
    let q : if_so c.is_untrue-2.result 1 ≡ if_so (is_untrue c.args.count) 1 = ap (λ b. if_so b 1) c.is_untrue-2.ensures in
    let n = number-set is_untrue row c.args.at c.args.count d h in
    let few = number-few is_untrue (set row c.args.at c.args.count) in
    let l = length-set row c.args.at c.args.count in
    omega (arith, c.self.invariant.untrue_are, c.self.inside.row.ok.0, c.self.inside.row.small)

pub recounted-self-inside-requires-2-clause-there : goal.recounted-self-inside-requires-2-clause-there
recounted-self-inside-requires-2-clause-there c =
    let row = c.self.inside.row.items in
    let d = c.index-old.result.now in
    let h : c.args.at < length row = subst (λ (xs : List Count). c.args.at < length xs) (sym c.self.view_is) c.requires in
    let r : if_so c.is_lost.result 1 ≡ if_so (is_lost (get_or row c.args.at d)) 1 = ap (λ b. if_so b 1) (c.is_lost.ensures ∙ ap is_lost c.index-old.ensures) in
    let n = number-there is_lost row c.args.at d h in
    omega (arith, c.self.invariant.lost_are)

pub recounted-self-inside-requires-2-clause-fits : goal.recounted-self-inside-requires-2-clause-fits
recounted-self-inside-requires-2-clause-fits c =
    let row = c.self.inside.row.items in
    let d = c.index-old.result.now in
    let h : c.args.at < length row = subst (λ (xs : List Count). c.args.at < length xs) (sym c.self.view_is) c.requires in
    let r : if_so c.is_lost.result 1 ≡ if_so (is_lost (get_or row c.args.at d)) 1 = ap (λ b. if_so b 1) (c.is_lost.ensures ∙ ap is_lost c.index-old.ensures) in
    let q : if_so c.is_lost-2.result 1 ≡ if_so (is_lost c.args.count) 1 = ap (λ b. if_so b 1) c.is_lost-2.ensures in
    let n = number-set is_lost row c.args.at c.args.count d h in
    let few = number-few is_lost (set row c.args.at c.args.count) in
    let l = length-set row c.args.at c.args.count in
    omega (arith, c.self.invariant.lost_are, c.self.inside.row.ok.0, c.self.inside.row.small)

pub invariant_of-self : goal.invariant_of-self
invariant_of-self c =
    let row = c.self.inside.row.items in
    let d = c.index-old.result.now in
    let h : c.args.at < length row = subst (λ (xs : List Count). c.args.at < length xs) (sym c.self.view_is) c.requires in
    let u : if_so c.is_untrue.result 1 ≡ if_so (is_untrue (get_or row c.args.at d)) 1 = ap (λ b. if_so b 1) (c.is_untrue.ensures ∙ ap is_untrue c.index-old.ensures) in
    let v : if_so c.is_untrue-2.result 1 ≡ if_so (is_untrue c.args.count) 1 = ap (λ b. if_so b 1) c.is_untrue-2.ensures in
    let x : if_so c.is_lost.result 1 ≡ if_so (is_lost (get_or row c.args.at d)) 1 = ap (λ b. if_so b 1) (c.is_lost.ensures ∙ ap is_lost c.index-old.ensures) in
    let y : if_so c.is_lost-2.result 1 ≡ if_so (is_lost c.args.count) 1 = ap (λ b. if_so b 1) c.is_lost-2.ensures in
    let m = number-set is_untrue row c.args.at c.args.count d h in
    let n = number-set is_lost row c.args.at c.args.count d h in
    record {
      untrue_are = omega (arith, c.self.invariant.untrue_are, c.recounted-self-inside.ensures);
      lost_are = omega (arith, c.self.invariant.lost_are, c.recounted-self-inside-2.ensures);
    }
