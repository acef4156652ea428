-- What each change keeps of the parts.
use Rattle.std.proofs.Common.{◌≡◌, ◌≢◌, ℕ, ◌<◌, ◌≤◌, ◌^◌, ◌==◌, ◌||◌, Bool, true, false, List, [], ◌∷◌, ◌++◌, length, set, slice_index_or, ap, sym, ◌∙◌, arith, length-set}
use Rattle.q_logic.specs.declared.formulas.Bound.{Bound}
use Rattle.q_logic.specs.Prelude.{IsBelow, Literal, Matrix, Prefix, ArePairs, clause_of, is_bound}
use Rattle.std.proofs.lemmas.Bool.Decides.{nat_tests}
use Rattle.q_dimacs.specs.Building.{occurs, occurs_in, AreParts}
use Rattle.q_dimacs.proofs.VariableMarks.{marked, is_bound-push, occurs_in-push, occurs-push, or_more, or_false, All-push, Pairs-push, differs}
use Rattle.q_logic.proofs.Common.{clause_of-ordered}
use Rattle.q_dimacs.proofs.SetVariables.{occurs_in-clause_of}

pub no_zero : (v : ℕ) → 1 ≤ v → (v == 0) ≡ false
no_zero v h = grind (arith, nat_tests)

module _ (prefix : Prefix) (bound : List Bool) (matrix : Matrix) (used : List Bool) (pending : List Literal) (h : AreParts prefix bound matrix used pending) where
  pub parts-bind : (q : Bound) (reached : List Bool) → 1 ≤ q.var → q.var < 2 ^ 31 → is_bound prefix q.var ≡ false
      → ((v : ℕ) → slice_index_or reached v false ≡ slice_index_or bound v false) → q.var < length reached
      → AreParts (prefix ++ q ∷ []) (set reached q.var true) matrix used pending
  parts-bind q reached a b f s l = record {
    distinct = Pairs-push (λ q r. q.var ≢ r.var) prefix q h.distinct (differs prefix q f);
    ranges = All-push (λ q. (1 ≤ q.var) × (q.var < 2 ^ 31)) prefix q h.ranges (a, b);
    ordered = h.ordered;
    short = h.short;
    never = h.never;
    bounds = λ v. marked reached q.var v l ∙ (ap (λ x. x || (q.var == v)) (s v ∙ h.bounds v) ∙ sym (is_bound-push prefix q v));
    uses = h.uses;
  }

  pub parts-add : (l : Literal) (reached : List Bool) → ((v : ℕ) → slice_index_or reached v false ≡ slice_index_or used v false) → l.var < length reached → length reached ≤ 2 ^ 31 → 1 ≤ l.var
      → AreParts prefix bound matrix (set reached l.var true) (pending ++ l ∷ [])
  parts-add l reached s b k z = record {
    distinct = h.distinct;
    ranges = h.ranges;
    ordered = h.ordered;
    short = rw length-set k;
    never = marked reached l.var 0 b ∙ (ap (λ x. x || (l.var == 0)) (s 0 ∙ h.never) ∙ no_zero l.var z);
    bounds = h.bounds;
    uses = λ v. marked reached l.var v b ∙ (ap (λ x. x || (l.var == v)) (s v ∙ h.uses v)
        ∙ (or_more (occurs matrix v) (occurs_in pending v) (l.var == v) ∙ ap (λ x. occurs matrix v || x) (sym (occurs_in-push pending l v))));
  }

  pub parts-sort : AreParts prefix bound matrix used (clause_of pending)
  parts-sort = record {
    distinct = h.distinct;
    ranges = h.ranges;
    ordered = h.ordered;
    short = h.short;
    never = h.never;
    bounds = h.bounds;
    uses = λ v. h.uses v ∙ ap (λ x. occurs matrix v || x) (sym (occurs_in-clause_of pending v));
  }

  pub parts-end : AreParts prefix bound (matrix ++ clause_of pending ∷ []) used []
  parts-end = record {
    distinct = h.distinct;
    ranges = h.ranges;
    ordered = All-push (ArePairs IsBelow) matrix (clause_of pending) h.ordered (clause_of-ordered pending);
    short = h.short;
    never = h.never;
    bounds = h.bounds;
    uses = λ v. h.uses v ∙ (ap (λ x. occurs matrix v || x) (sym (occurs_in-clause_of pending v))
        ∙ (sym (occurs-push matrix (clause_of pending) v) ∙ sym (or_false (occurs (matrix ++ clause_of pending ∷ []) v))));
  }
