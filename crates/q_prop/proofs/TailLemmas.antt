-- Clauses in one row of literals, the last one appended.
use Rattle.std.proofs.Common.{◌≡◌, suc, List, [], ◌∷◌, ◌++◌, map, length, refl}
use Rattle.std.proofs.lemmas.List.{map-append}
use Rattle.q_logic.specs.Prelude.{Literal}
use Rattle.q_logic.proofs.ClauseBounds.{range-back}
use Rattle.q_prop.specs.Tails.{tail_of, AreSpans}
use Rattle.q_prop.specs.declared.tails.Span.{Span}
use Rattle.q_prop.proofs.PieceLemmas.{range-front}

spans-front : (row lits : List Literal) (spans : List Span) → AreSpans row spans → map (tail_of (row ++ lits)) spans ≡ map (tail_of row) spans
spans-front row lits [] w = refl
spans-front row lits (p ∷ spans) w =
    let k = w 0 p refl in
    let here = range-front row lits p.start p.end k.0 k.1 in
    let rest = spans-front row lits spans (λ n q e. w (suc n) q e) in
    rw (here, rest) refl

pub pushed_tails : (row lits : List Literal) (spans : List Span) (p : Span) → p.start ≡ length row → p.end ≡ length (row ++ lits) → AreSpans row spans → map (tail_of (row ++ lits)) (spans ++ p ∷ []) ≡ map (tail_of row) spans ++ lits ∷ []
pushed_tails row lits spans p s e w =
    rw (map-append (tail_of (row ++ lits)) spans (p ∷ []), spans-front row lits spans w, s, e, range-back row lits) refl
