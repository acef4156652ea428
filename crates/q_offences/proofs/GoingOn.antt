-- What the reader takes is what some formula file begins with.
use Rattle.std.proofs.Common.{◌≡◌, ℕ, zero, suc, ◌+◌, ◌-◌, ◌≤◌, nat_lt, Bool, true, false, cond, List, [], ◌∷◌, ◌++◌, length, map, Ok, Err, Result, Option, Some, None, refl, ap, sym, ◌∙◌, arith, pos, append_assoc, append-nil, length-append, subst}
use Rattle.std.proofs.lemmas.Bool.Decides.{nat_tests}
use Rattle.std.proofs.lemmas.Bool.{ltb-false}
use Rattle.q_logic.specs.declared.limits.Limits.{Limits}
use Rattle.q_logic.specs.Prelude.{Literal, clause_of}
use Rattle.q_text.specs.declared.tokens.TokenKind.{TokenKind}
use Rattle.q_text.specs.declared.tokens.TokenKind.TheVariants.{Number, P, Cnf}
use Rattle.q_dimacs.specs.Reading.{Gathered, nothing_read, end_of}
use Rattle.q_dimacs.specs.Dimacs.{Text, spelled, IsLawful}
use Rattle.q_dimacs.proofs.GrammarIsRead.{kinds_read, kinds-err, length-map-clause}
use Rattle.q_offences.specs.FormulaFronts.{IsWhole, MayGoOn, IsLawfulSoFar, IsOutside, IsInClause, with_set, with_clause}
use Rattle.q_offences.proofs.SpelledFronts.{kinds-append, literal_numbers, literals-split}
use Rattle.q_offences.proofs.FrontStates.{outside_of, text-read}
use Rattle.q_offences.proofs.ToldFronts.{Told, at_problem, at_format, at_vars, at_count, at_outside, at_set, at_clause, told, with-room, spelled-clause, set-ends}

whole : (m : Limits) (t : Text) → IsLawfulSoFar m t → t.count ≤ length t.clauses → IsLawful m t
whole m t h c = record {
  vars = h.vars;
  count = h.count;
  clauses = let k = h.clauses in omega arith;
  bounds = h.bounds;
  once = h.once;
  lits = h.lits;
  few = h.few;
}

so-far : (m : Limits) (t : Text) → IsLawful m t → IsLawfulSoFar m t
so-far m t h = record {
  vars = h.vars;
  count = h.count;
  clauses = let k = h.clauses in omega arith;
  bounds = h.bounds;
  once = h.once;
  lits = h.lits;
  few = h.few;
}

go-on-less : (m : Limits) (ks js : List TokenKind) → MayGoOn m (ks ++ js) → MayGoOn m ks
go-on-less m ks js h = (js ++ h.0, subst (λ xs. IsWhole m xs) (append_assoc ks js h.0) h.1)

-- empty clauses make up what is missing
fill : (m : Limits) (n : ℕ) (t : Text) → IsLawfulSoFar m t → length t.clauses + n ≡ t.count → MayGoOn m (spelled t)
fill m zero t h e = ([], (t, append-nil (spelled t), whole m t h (omega arith)))
fill m (suc n) t h e =
    let l = length-append t.clauses ([] ∷ []) in
    let r : MayGoOn m (spelled (with_clause t [])) = fill m n (with_clause t []) (with-room m t h (omega arith)) (omega arith) in
    go-on-less m (spelled t) (Number (pos 0) ∷ []) (subst (λ ks. MayGoOn m ks) (spelled-clause t []) r)

outside-goes-on : (m : Limits) (t : Text) (ks : List TokenKind) → IsOutside m t ks → MayGoOn m ks
outside-goes-on m t ks h =
    let l = h.lawful.clauses in
    subst (λ ks. MayGoOn m ks) (sym h.kinds) (fill m (t.count - length t.clauses) t h.lawful (omega arith))

clause-ends : (m : Limits) (t : Text) (ls : List Literal) (ks : List TokenKind) → IsInClause m t ls ks → IsOutside m (with_clause t ls) (ks ++ Number (pos 0) ∷ [])
clause-ends m t ls ks h = record {
  kinds = ap (λ js. js ++ Number (pos 0) ∷ []) h.kinds
      ∙ (append_assoc (spelled t) (literal_numbers ls) (Number (pos 0) ∷ [])
      ∙ (ap (λ js. spelled t ++ js) (sym (literals-split ls)) ∙ sym (spelled-clause t ls)));
  lawful = h.lawful;
}

empty : (m : Limits) (v : ℕ) → v ≤ m.vars → IsWhole m (P ∷ Cnf ∷ Number (pos v) ∷ Number (pos 0) ∷ [])
empty m v h = (record { vars = v; count = 0; sets = []; clauses = [] }, refl, record { vars = h; count = omega arith; clauses = refl; bounds = tt; once = tt; lits = tt; few = omega arith })

told-goes-on : (m : Limits) (ks : List TokenKind) (b : Gathered) → Told m ks b → MayGoOn m ks
told-goes-on m ks b (at_problem h) = subst (λ ks. MayGoOn m ks) (sym h) (P ∷ Cnf ∷ Number (pos 0) ∷ Number (pos 0) ∷ [], empty m 0 (omega arith))
told-goes-on m ks b (at_format h) = subst (λ ks. MayGoOn m ks) (sym h) (Cnf ∷ Number (pos 0) ∷ Number (pos 0) ∷ [], empty m 0 (omega arith))
told-goes-on m ks b (at_vars h) = subst (λ ks. MayGoOn m ks) (sym h) (Number (pos 0) ∷ Number (pos 0) ∷ [], empty m 0 (omega arith))
told-goes-on m ks b (at_count v l h) = subst (λ ks. MayGoOn m ks) (sym h) (Number (pos 0) ∷ [], empty m v l)
told-goes-on m ks b (at_outside t h) = outside-goes-on m t ks h
told-goes-on m ks b (at_set t q vs h) = go-on-less m ks (Number (pos 0) ∷ []) (outside-goes-on m (with_set t q vs) (ks ++ Number (pos 0) ∷ []) (set-ends m t q vs ks h))
told-goes-on m ks b (at_clause t ls h) = go-on-less m ks (Number (pos 0) ∷ []) (outside-goes-on m (with_clause t ls) (ks ++ Number (pos 0) ∷ []) (clause-ends m t ls ks h))

pub taken-goes-on : (m : Limits) (ks : List TokenKind) (b : Gathered) → kinds_read m (Ok nothing_read) ks ≡ Ok b → MayGoOn m ks
taken-goes-on m ks b e = told-goes-on m ks b (told m ks b e)

-- a front of what is taken is taken
abbrev pub Taken : Limits → List TokenKind → Type 0
Taken m ks = (b : Gathered) × (kinds_read m (Ok nothing_read) ks ≡ Ok b)

front-taken : (m : Limits) (ks js : List TokenKind) (b : Gathered) → kinds_read m (Ok nothing_read) (ks ++ js) ≡ Ok b → Taken m ks
front-taken m ks js b e = go (kinds_read m (Ok nothing_read) ks) refl (sym (kinds-append m (Ok nothing_read) ks js) ∙ e) where
  go : (r : Result Gathered ℕ) → kinds_read m (Ok nothing_read) ks ≡ r → kinds_read m r js ≡ Ok b → Taken m ks
  go (Ok a) i f = (a, i)
  go (Err c) i f = absurd (let x = kinds-err m c js in cc)

all-ended : (t : Text) (m : Limits) → IsLawful m t → end_of (outside_of t) ≡ None
all-ended t m h =
    let l = length-map-clause t.clauses in
    let c = h.clauses in
    let e : nat_lt (length (map clause_of t.clauses)) t.count ≡ false = grind (arith, nat_tests) in
    rw e refl

pub whole-taken : (m : Limits) (ks : List TokenKind) → IsWhole m ks → (b : Gathered) × (kinds_read m (Ok nothing_read) ks ≡ Ok b) × (end_of b ≡ None)
whole-taken m ks (t, k, h) = (outside_of t, ap (λ xs. kinds_read m (Ok nothing_read) xs) k ∙ text-read m t (so-far m t h), all-ended t m h)

pub going-on-taken : (m : Limits) (ks : List TokenKind) → MayGoOn m ks → Taken m ks
going-on-taken m ks h = let w = whole-taken m (ks ++ h.0) h.1 in front-taken m ks h.0 w.0 w.1

-- what is taken, to the end, is whole
pub taken-whole : (m : Limits) (ks : List TokenKind) (b : Gathered) → kinds_read m (Ok nothing_read) ks ≡ Ok b → end_of b ≡ None → IsWhole m ks
taken-whole m ks b e f = go b (told m ks b e) f where
  go : (b : Gathered) → Told m ks b → end_of b ≡ None → IsWhole m ks
  go b (at_problem h) f = cc
  go b (at_format h) f = cc
  go b (at_vars h) f = cc
  go b (at_count v l h) f = cc
  go b (at_set t q vs h) f = cc
  go b (at_clause t ls h) f = cc
  go b (at_outside t h) f = (t, h.kinds, whole m t h.lawful (ended (nat_lt (length (map clause_of t.clauses)) t.count) refl f)) where
    ended : (x : Bool) → nat_lt (length (map clause_of t.clauses)) t.count ≡ x → cond {A = Option ℕ} x (Some 6) None ≡ None → t.count ≤ length t.clauses
    ended true p g = cc
    ended false p g = let l = length-map-clause t.clauses in let k = ltb-false (length (map clause_of t.clauses)) t.count p in omega arith
