use Rattle.std.proofs.Common.{◌≡◌, sym, ap, ◌∙◌, subst, true, false, List, arith}
use Rattle.q_logic.specs.Prelude.{Literal}
use Rattle.q_logic.specs.Prefixes.{place}
use Rattle.q_derive.specs.Traces.{MergesOnly, resolvent, AreBound}
use Rattle.q_derive.specs.Testing.{every, some}
use Rattle.q_resolve.specs.Tests.{is_turning, is_after, is_anew}
use Rattle.q_resolve.specs.Reduced.{IsReduction}
use Rattle.q_resolve.proofs.LineFaults.{pivot-yes, pivot-no, may-yes, may-no, anew-yes, anew-no, merges-same, resolved-bound, trial-is}
use Rattle.q_resolve.proofs.lines.try_pivot.Goals as goal

pub returns-then-not-is_pivot : goal.returns-then-not-is_pivot
returns-then-not-is_pivot c =
    let P = c.args.prefix.now in
    let k = c.args.pivot in
    let f : c.is_pivot.result ≡ false = let x = c.if-not-is_pivot.true in grind arith in (
      tt,
      pivot-no P c.args.first.now c.args.second.now k (sym (ap (λ (U : List Literal). is_turning P U k) c.requires.marked) ∙ sym c.is_pivot.ensures ∙ f),
    )

pub returns-then-not-may_merge : goal.returns-then-not-may_merge
returns-then-not-may_merge c =
    let P = c.args.prefix.now in
    let k = c.args.pivot in
    let S = c.args.first.now in
    let U = c.args.second.now in
    let t : c.is_pivot.result ≡ true = let x = c.if-not-is_pivot.false in grind arith in
    let f : c.may_merge.result ≡ false = let x = c.if-not-may_merge.true in grind arith in (
      (k, pivot-yes P S U k (sym (ap (λ (V : List Literal). is_turning P V k) c.requires.marked) ∙ sym c.is_pivot.ensures ∙ t) c.requires.pivot),
      λ u. may-no P S U k (sym (ap (λ (V : List Literal). every (λ (g : Literal). is_after P V (place P k.var) g) S) c.requires.marked) ∙ sym c.may_merge.ensures ∙ f) u.1,
    )

pub returns-then-merges_anew : goal.returns-then-merges_anew
returns-then-merges_anew c =
    let P = c.args.prefix.now in
    let k = c.args.pivot in
    let S = c.args.first.now in
    let U = c.args.second.now in
    let T = c.args.own.now in
    let R = c.resolve.new.row in
    let t : c.is_pivot.result ≡ true = let x = c.if-not-is_pivot.false in grind arith in (
      (k, pivot-yes P S U k (sym (ap (λ (V : List Literal). is_turning P V k) c.requires.marked) ∙ sym c.is_pivot.ensures ∙ t) c.requires.pivot),
      λ u. anew-yes P T R (sym (ap (λ (V : List Literal). some (λ (j : Literal). is_anew P T R j) V) c.as_slice.ensures) ∙ sym c.merges_anew.ensures ∙ c.if-merges_anew.true)
          (merges-same P R (resolvent S U k) T (λ j. (c.in_ok-resolve.ensures j).1) u.2),
    )

pub fault_of-requires-clause-bound : goal.fault_of-requires-clause-bound
fault_of-requires-clause-bound c =
    subst (AreBound c.args.prefix.now) (sym c.as_slice-2.ensures)
    (resolved-bound c.args.prefix.now c.args.first.now c.args.second.now c.resolve.new.row c.args.pivot c.requires.first c.requires.second c.in_ok-resolve.ensures)

pub returns : goal.returns
returns c =
    let P = c.args.prefix.now in
    let k = c.args.pivot in
    let S = c.args.first.now in
    let U = c.args.second.now in
    let T = c.args.own.now in
    let R = c.resolve.new.row in
    let t : c.is_pivot.result ≡ true = let x = c.if-not-is_pivot.false in grind arith in
    let m : c.may_merge.result ≡ true = let x = c.if-not-may_merge.false in grind arith in
    let only : MergesOnly P R T = anew-no P T R (sym (ap (λ (V : List Literal). some (λ (j : Literal). is_anew P T R j) V) c.as_slice.ensures) ∙ sym c.merges_anew.ensures ∙ c.if-merges_anew.false) in
    trial-is P S U R T k c.fault_of.result (
      pivot-yes P S U k (sym (ap (λ (V : List Literal). is_turning P V k) c.requires.marked) ∙ sym c.is_pivot.ensures ∙ t) c.requires.pivot,
      may-yes P S U k (sym (ap (λ (V : List Literal). every (λ (g : Literal). is_after P V (place P k.var) g) S) c.requires.marked) ∙ sym c.may_merge.ensures ∙ m),
      merges-same P (resolvent S U k) R T (λ j. (c.in_ok-resolve.ensures j).0) only,
    )
    c.in_ok-resolve.ensures
    (subst (λ (V : List Literal). IsReduction P V T c.fault_of.result) c.as_slice-2.ensures c.fault_of.ensures)
