use Rattle.std.proofs.Common.{◌≡◌, ◌++◌, ◌∙◌, [], List, Bool, true, false, cond, ap, sym, arith, vec_len, vec_capacity, length, ◌+◌, ◌≤◌, true≢false}
use Rattle.std.specs.Result.{is_ok}
use Rattle.std.proofs.lemmas.List.Filters.{dedup_is}
use Rattle.q_logic.specs.Prelude.{Literal, clause_of}
use Rattle.q_logic.proofs.SortedSets.{dedup-sorted}
use Rattle.q_blocked.proofs.covering.set_clause.Goals as goal

filled : (b : Bool) (old lits new : List Literal) → old ≡ [] → b ≡ true → new ≡ cond b (old ++ lits) old → new ≡ lits
filled true old lits new e t f = rw e at f
filled false old lits new e t f = absurd (true≢false (sym t))

pub returns-clause-clause : goal.returns-clause-clause
returns-clause-clause c =
    let room : vec_len c.clear.new.self + length c.args.lits.now ≤ vec_capacity c.clear.new.self = omega (arith, c.clear.ensures.len, c.clear.ensures.capacity, c.requires) in
    let ok : is_ok c.extend_from_slice-had_room.result ≡ true = c.extend_from_slice-had_room.ensures.succeeds room in
    let is = dedup_is _ _ _ c.dedup.ensures.filtered in
    let sorted = dedup-sorted c.extend_from_slice-had_room.new.self.items c.sort_unstable.new.self.items c.sort_unstable.ensures.permutation c.sort_unstable.ensures.sorted in
    is ∙ (sorted ∙ ap clause_of (filled (is_ok c.extend_from_slice-had_room.result) c.clear.new.self.items c.args.lits.now c.extend_from_slice-had_room.new.self.items c.clear.ensures.items ok c.extend_from_slice-had_room.ensures.items))
