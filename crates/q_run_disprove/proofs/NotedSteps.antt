-- The notes of steps, one after the other.
use Rattle.std.proofs.Common.{◌≡◌, ◌+◌, ◌∙◌, ℕ, Bool, true, false, List, [], ◌∷◌, ◌++◌, inl, inr, refl, sym, subst}
use Rattle.q_logic.specs.Prelude.{PrenexFormula, AreAlike, ProofStep, after, standard}
use Rattle.q_logic.specs.Reversals.{IsExtended, NoneExtended}
use Rattle.q_logic.proofs.Common.{alike_swapped, alike_through, alike_after}
use Rattle.q_logic.proofs.ForthRuns.{reversals-none_extended}
use Rattle.q_shares.specs.Shares.{Share}
use Rattle.q_refutation.specs.Refutations.{AreMade, IsLost}
use Rattle.q_refutation.specs.SharedRefutations.{AreTakenUnlost, MayBeTaken}
use Rattle.q_refutation.proofs.FirstEmpty.{alike_lost, alike_may}
use Rattle.q_herbrand.specs.Trails.{HasMade, Trailed}
use Rattle.q_herbrand.proofs.RunReversals.{alike_extended}
use Rattle.q_command.specs.Logs.{Entry, steps_of}
use Rattle.q_command.specs.Parts.{share_of}
use Rattle.q_command.specs.declared.part.Part.{Part}
use Rattle.q_command.proofs.LogEntries.{steps_of-append}
use Rattle.q_run_disprove.specs.Extended.{FirstExtended}
use Rattle.q_run_disprove.specs.Notes.{AreAbreast, AreBegun, AreNotes, IsNoted, MayBeNoted, ReachEmpty}
use Rattle.q_run_disprove.specs.declared.notes.Notes.{Notes}
use Rattle.q_run_disprove.specs.declared.notes.Notes.TheVariants as notes

-- the first extended drop is that of more steps
pub extended-stays : (F : PrenexFormula) (es us : List Entry) (line : ℕ) → FirstExtended F es line → FirstExtended F (es ++ us) line
extended-stays F [] us line h = absurd h
extended-stays F (e ∷ es) us line (u, inl x) = (u, inl x)
extended-stays F (e ∷ es) us line (u, inr (n, h)) = (u, inr (n, extended-stays (after F e.1) es us line h))

-- behind steps none of which is one
extended-next : (j : Share) (k : ℕ) (F E : PrenexFormula) (es : List Entry) (line : ℕ) (s : ProofStep) →
    AreTakenUnlost j standard k F (steps_of es) E → NoneExtended F (steps_of es) → (IsLost E → ⊥) → IsExtended E s →
    FirstExtended F (es ++ (line, s) ∷ []) line
extended-next j k F E [] line s t n u x =
    subst (λ (G : PrenexFormula). FirstExtended G ((line, s) ∷ []) line) (sym t) (u, inl (x, refl))
extended-next j k F E (e ∷ es) line s (lost, may, t) (n, none) u x =
    (lost, inr (n, extended-next j (k + 1) (after F e.1) E es line s t none u x))

-- steps lead to one formula
same-end : (j : Share) (k : ℕ) (F E D : PrenexFormula) (ss : List ProofStep) → AreTakenUnlost j standard k F ss E →
    AreMade false standard F ss D → E ≡ D
same-end j k F E D [] t a = sym t ∙ a
same-end j k F E D (s ∷ ss) (u, may, t) (m, a) = same-end j (k + 1) (after F s) E D ss t a

-- the trail's formula is alike to that behind the steps
pub trail-alike : (j : Share) (F E : PrenexFormula) (ss : List ProofStep) (t : Trailed) → AreTakenUnlost j standard 0 F ss E →
    HasMade F ss t → AreAlike E t.formula
trail-alike j F E ss t taken made =
    subst (λ (G : PrenexFormula). AreAlike G t.formula) (sym (same-end j 0 F E made.last ss taken made.steps)) made.alike

-- one step more is noted
pub notes-more : (keeps : Bool) (j : Share) (F E : PrenexFormula) (es : List Entry) (line : ℕ) (s : ProofStep) (old new : Notes) →
    AreTakenUnlost j standard 0 F (steps_of es) E → (IsLost E → ⊥) → AreNotes keeps F es old → IsNoted line s old new →
    AreNotes keeps F (es ++ (line, s) ∷ []) new
notes-more keeps j F E es line s notes.Unkept new t u a h = subst (λ (n : Notes). AreNotes keeps F (es ++ (line, s) ∷ []) n) (sym h) a
notes-more keeps j F E es line s (notes.Kept G x) notes.Unkept t u a h = absurd h
notes-more keeps j F E es line s (notes.Kept G x) (notes.Kept H y) t u (same, made) (kept, grown) = (
  kept ∙ same,
  subst (λ (ss : List ProofStep). HasMade F ss y) (sym (steps_of-append es ((line, s) ∷ []))) (grown.made F (steps_of es) made),
)
notes-more keeps j F E es line s (notes.Kept G x) (notes.Extended l) t u (same, made) (extended, e) =
    subst (λ (k : ℕ). FirstExtended F (es ++ (line, s) ∷ []) k) (sym e)
    (extended-next j 0 F E es line s t (reversals-none_extended F (steps_of es) x.reversals made.reversals) u
    (alike_extended x.formula E s (alike_swapped E x.formula (trail-alike j F E (steps_of es) x t made)) extended))
notes-more keeps j F E es line s (notes.Extended l) new t u a h =
    subst (λ (n : Notes). AreNotes keeps F (es ++ (line, s) ∷ []) n) (sym h) (extended-stays F es ((line, s) ∷ []) l a)

-- a step that is taken is noted
pub may-note : (part : Part) (k : ℕ) (own : Bool) (E : PrenexFormula) (s : ProofStep) (n : Notes) → AreAbreast part E n →
    own ≡ share_of part k → MayBeTaken own standard E s → MayBeNoted n s
may-note part k own E s notes.Unkept a e m = tt
may-note part k own E s (notes.Kept F t) (whole, alike, made) e m =
    alike_may standard E t.formula s alike (subst (λ (b : Bool). MayBeTaken b standard E s) (e ∙ whole k) m)
may-note part k own E s (notes.Extended line) a e m = tt

pub abreast-more : (part : Part) (E G : PrenexFormula) (line : ℕ) (s : ProofStep) (old new : Notes) → AreAbreast part E old →
    IsNoted line s old new → AreAlike (after E s) G → AreAbreast part G new
abreast-more part E G line s notes.Unkept new a h g = subst (λ (n : Notes). AreAbreast part G n) (sym h) tt
abreast-more part E G line s (notes.Kept F t) notes.Unkept a h g = absurd h
abreast-more part E G line s (notes.Kept F t) (notes.Kept H u) (whole, alike, (ss, made)) (kept, grown) g = (
  whole,
  alike_through G (after E s) u.formula (alike_swapped (after E s) G g)
      (alike_through (after E s) (after t.formula s) u.formula (alike_after E t.formula s alike) grown.formula),
  (ss ++ s ∷ [], subst (λ (D : PrenexFormula). HasMade D (ss ++ s ∷ []) u) (sym kept) (grown.made F ss made)),
)
abreast-more part E G line s (notes.Kept F t) (notes.Extended l) a h g = tt
abreast-more part E G line s (notes.Extended l) new a h g = subst (λ (n : Notes). AreAbreast part G n) (sym h) tt

-- before the first step
pub begun-notes : (keeps : Bool) (F : PrenexFormula) (n : Notes) → AreBegun keeps F n → AreNotes keeps F [] n
begun-notes keeps F notes.Unkept b = b
begun-notes keeps F (notes.Kept G t) (k, same, alike, made) = (same, made)
begun-notes keeps F (notes.Extended line) b = absurd b

pub begun-abreast : (keeps : Bool) (part : Part) (F E : PrenexFormula) (n : Notes) → (keeps ≡ true → (k : ℕ) → share_of part k ≡ true) →
    AreAlike F E → AreBegun keeps F n → AreAbreast part E n
begun-abreast keeps part F E notes.Unkept w a b = tt
begun-abreast keeps part F E (notes.Kept G t) w a (k, same, alike, made) = (
  w k,
  alike_through E F t.formula (alike_swapped F E a) alike,
  ([], subst (λ (D : PrenexFormula). HasMade D [] t) (sym same) made),
)
begun-abreast keeps part F E (notes.Extended line) w a b = absurd b

-- where the empty clause is there, it is there in the formula of the trail
pub reach-empty : (part : Part) (E : PrenexFormula) (n : Notes) → AreAbreast part E n → IsLost E → ReachEmpty n
reach-empty part E notes.Unkept a l = tt
reach-empty part E (notes.Kept F t) (whole, alike, (ss, made)) l = (ss, made, alike_lost E t.formula alike l)
reach-empty part E (notes.Extended line) a l = tt

-- none stands before the empty clause, where no step before it is one
pub plain-front : (j : Share) (k : ℕ) (F E : PrenexFormula) (es us : List Entry) (line : ℕ) → AreTakenUnlost j standard k F (steps_of es) E →
    NoneExtended F (steps_of es) → IsLost E → FirstExtended F (es ++ us) line → ⊥
plain-front j k F E [] [] line t n l h = h
plain-front j k F E [] (e ∷ us) line t n l h = h.0 (subst IsLost (sym t) l)
plain-front j k F E (e ∷ es) us line (lost, may, t) (n, none) l (u, inl x) = n x.0
plain-front j k F E (e ∷ es) us line (lost, may, t) (n, none) l (u, inr (m, h)) = plain-front j (k + 1) (after F e.1) E es us line t none l h
