-- The variables of the set of some literals.
use Rattle.std.proofs.Common.{◌≡◌, ℕ, ◌==◌, ◌||◌, nat_lt, Bool, true, false, cond, List, [], ◌∷◌, refl, ap, ◌∙◌, arith}
use Rattle.std.proofs.lemmas.Bool.Decides.{nat_tests}
use Rattle.q_logic.specs.Prelude.{Literal, pack, Clause, insert, clause_of}
use Rattle.q_logic.proofs.Common.{or-swap}
use Rattle.q_dimacs.specs.Building.{occurs_in}

-- the three cases of an insertion
abbrev placed : Bool → Bool → Literal → Literal → Clause → Clause
placed t s l k c = cond t (l ∷ k ∷ c) (cond s (k ∷ c) (k ∷ insert l c))

same_var : (l k : Literal) → (pack l == pack k) ≡ true → l.var ≡ k.var
same_var l k e = grind (arith, nat_tests)

or-again : (a b : Bool) → a || b ≡ a || (a || b)
or-again true b = refl
or-again false b = refl

pub occurs_in-insert : (l : Literal) (c : Clause) (v : ℕ) → occurs_in (insert l c) v ≡ ((l.var == v) || occurs_in c v)
occurs_in-insert l [] v = refl
occurs_in-insert l (k ∷ c) v = go (nat_lt (pack l) (pack k)) (pack l == pack k) refl (occurs_in-insert l c v) where
  go : (t s : Bool) → (pack l == pack k) ≡ s → occurs_in (insert l c) v ≡ ((l.var == v) || occurs_in c v) → occurs_in (placed t s l k c) v ≡ ((l.var == v) || ((k.var == v) || occurs_in c v))
  go true s e ih = refl
  go false true e ih = let f = same_var l k e in rw f (or-again (k.var == v) (occurs_in c v))
  go false false e ih = ap (λ x. (k.var == v) || x) ih ∙ or-swap (k.var == v) (l.var == v) (occurs_in c v)

pub occurs_in-clause_of : (ls : List Literal) (v : ℕ) → occurs_in (clause_of ls) v ≡ occurs_in ls v
occurs_in-clause_of [] v = refl
occurs_in-clause_of (l ∷ ls) v = occurs_in-insert l (clause_of ls) v ∙ ap (λ x. (l.var == v) || x) (occurs_in-clause_of ls v)
