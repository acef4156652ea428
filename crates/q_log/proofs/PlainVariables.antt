-- The variables of e and r stand without sign, so that the literals are those of a step.
use Rattle.std.proofs.Common.{◌≡◌, Bool, true, false, not, ◌&&◌, List, [], ◌∷◌, ◌++◌, length, refl, arith, eqb-true}
use Rattle.std.proofs.lemmas.Bool.Decides.{nat_tests}
use Rattle.std.specs.List.{AllByRecursion}
use Rattle.q_logic.specs.declared.steps.Kind.{Kind}
use Rattle.q_logic.specs.declared.steps.Kind.TheVariants.{Add, Delete, Drop, Fresh, Remove}
use Rattle.q_logic.specs.Prelude.{Literal, IsStepForm}
use Rattle.q_log.specs.Grammar.{is_whole, has_room}
use Rattle.q_log.specs.Reading.{all_positive, are_plain}

all_positive-all : (ls : List Literal) → all_positive ls ≡ true → AllByRecursion (λ l. l.negative ≡ false) ls
all_positive-all [] h = tt
all_positive-all (l ∷ ls) h = go l.negative refl h (all_positive-all ls)
  where
    go : (b : Bool) → l.negative ≡ b → (not b && all_positive ls) ≡ true → (all_positive ls ≡ true → AllByRecursion (λ l. l.negative ≡ false) ls) → AllByRecursion (λ l. l.negative ≡ false) (l ∷ ls)
    go true e h ih = cc
    go false e h ih = (e, ih h)

all_positive-push : (ls : List Literal) (l : Literal) → all_positive ls ≡ true → l.negative ≡ false → all_positive (ls ++ l ∷ []) ≡ true
all_positive-push [] l h e = rw e refl
all_positive-push (k ∷ ls) l h e = go k.negative h (λ g. all_positive-push ls l g e)
  where
    go : (b : Bool) → (not b && all_positive ls) ≡ true → (all_positive ls ≡ true → all_positive (ls ++ l ∷ []) ≡ true) → (not b && all_positive (ls ++ l ∷ [])) ≡ true
    go true h ih = cc
    go false h ih = ih h

pub whole_form : (k : Kind) (ls : List Literal) → are_plain k ls ≡ true → is_whole k ls ≡ true → IsStepForm k ls
whole_form Add ls p w = tt
whole_form Delete ls p w = tt
whole_form Drop ls p w = grind (arith, nat_tests, w)
whole_form Fresh ls p w = (eqb-true (length ls) 2 w, all_positive-all ls p)
whole_form Remove ls p w = (eqb-true (length ls) 1 w, all_positive-all ls p)

room_plain : (k : Kind) (ls : List Literal) (l : Literal) (b : Bool) → l.negative ≡ b → are_plain k ls ≡ true → has_room k ls b ≡ true → are_plain k (ls ++ l ∷ []) ≡ true
room_plain Add ls l b e p r = refl
room_plain Delete ls l b e p r = refl
room_plain Drop ls l b e p r = refl
room_plain Fresh ls l true e p r = cc
room_plain Fresh ls l false e p r = all_positive-push ls l p e
room_plain Remove ls l true e p r = cc
room_plain Remove ls l false e p r = all_positive-push ls l p e

pub plain-push : (k : Kind) (ls : List Literal) (l : Literal) → are_plain k ls ≡ true → has_room k ls l.negative ≡ true → are_plain k (ls ++ l ∷ []) ≡ true
plain-push k ls l p r = room_plain k ls l l.negative refl p r
