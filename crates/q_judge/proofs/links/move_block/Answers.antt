use Rattle.std.proofs.Common.{◌≡◌, ◌∙◌, ◌<◌, ◌+◌, ℕ, zero, suc, List, [], ◌∷◌, length, get_or, set, refl, sym, ap, subst, arith}
use Rattle.std.proofs.lemmas.List.{length-set, get_or-set_other}
use Rattle.q_judge.specs.Scopes.{binding_at}
use Rattle.q_judge.proofs.NewRanks.{renumbered-run}
use Rattle.q_judge.proofs.links.move_block.Goals as goal

any-default : (xs : List ℕ) (i d e : ℕ) → i < length xs → get_or xs i d ≡ get_or xs i e
any-default [] i d e h = absurd (omega arith)
any-default (x ∷ xs) zero d e h = refl
any-default (x ∷ xs) (suc i) d e h = any-default xs i d e (omega arith)

pub returns : goal.returns
returns c =
    let r = c.requires in
    let from = c.args.block.rank in
    let to = c.args.to in
    let counts = c.args.counts.now.items in
    let size : c.index-size.result.now ≡ get_or counts from 0 = c.index-size.ensures ∙ any-default counts from c.index-size.result.now 0 r.from_in in
    let other : c.index_mut-2.result.now ≡ get_or counts to 0 =
    c.index_mut-2.ensures.value
    ∙ any-default (set counts from 0) to c.index_mut-2.result.now 0 (subst (λ (n : ℕ). to < n) (sym (length-set counts from 0)) r.to_in)
    ∙ get_or-set_other counts from to 0 0 (λ e. r.apart (sym e)) in
    record {
      bindings_are = renumbered-run (binding_at c.args.bindings.now.items) (binding_at c.relabel.new.bindings.items) from to r.vars r.all_there (c.relabel.ensures.bindings r.vars r.run (r.size ∙ sym size));
      counts_are = ap (set (set counts from 0) to) (λ j. other j + size j);
      long = c.relabel.ensures.len;
    }
