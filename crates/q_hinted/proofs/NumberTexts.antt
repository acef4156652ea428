-- The text of numbers, part by part.
use Rattle.std.proofs.Common.{◌≡◌, ℕ, zero, suc, ◌+◌, ◌<◌, List, [], ◌∷◌, ◌++◌, length, drop, pos, refl, sym, ap, ◌∙◌, append_assoc, append-nil, add-one, arith}
use Rattle.q_logic.specs.Prelude.{HintGroup}
use Rattle.q_logic.specs.ProofParts.{group_at}
use Rattle.q_text.specs.Numbers.{number_text}
use Rattle.q_hinted.specs.Parts.{groups_numbers}
use Rattle.q_hinted.specs.Texts.{plain_text}

pub plain-append : (xs ys : List ℕ) → plain_text (xs ++ ys) ≡ plain_text xs ++ plain_text ys
plain-append [] ys = refl
plain-append (x ∷ xs) ys = ap (λ t. number_text (pos x) ++ t) (plain-append xs ys) ∙ sym (append_assoc (number_text (pos x)) (plain_text xs) (plain_text ys))

-- the numbers of a group
abbrev pub group_numbers : ℕ → List ℕ → List ℕ
group_numbers t hints = t ∷ (hints ++ 0 ∷ [])

pub group-text : (a : List ℕ) (t : ℕ) (hints : List ℕ) →
    ((a ++ number_text (pos t)) ++ plain_text hints) ++ number_text (pos 0) ≡ a ++ plain_text (group_numbers t hints)
group-text a t hints =
    append_assoc (a ++ number_text (pos t)) (plain_text hints) (number_text (pos 0))
    ∙ (append_assoc a (number_text (pos t)) (plain_text hints ++ number_text (pos 0))
    ∙ ap (λ x. a ++ (number_text (pos t) ++ x)) (ap (λ x. plain_text hints ++ x) (sym (append-nil (number_text (pos 0)))) ∙ sym (plain-append hints (0 ∷ []))))

groups-first : (g : HintGroup) (gs : List HintGroup) → plain_text (groups_numbers (g ∷ gs)) ≡ plain_text (group_numbers g.target g.hints) ++ plain_text (groups_numbers gs)
groups-first g gs =
    ap (λ xs. plain_text (g.target ∷ xs)) (sym (append_assoc g.hints (0 ∷ []) (groups_numbers gs)))
    ∙ plain-append (group_numbers g.target g.hints) (groups_numbers gs)

groups-at : (gs : List HintGroup) (i : ℕ) → i < length gs →
    plain_text (groups_numbers (drop i gs)) ≡ plain_text (group_numbers (group_at gs i).target (group_at gs i).hints) ++ plain_text (groups_numbers (drop (suc i) gs))
groups-at [] i h = absurd (omega arith)
groups-at (g ∷ gs) zero h = groups-first g gs
groups-at (g ∷ gs) (suc i) h = groups-at gs i (omega arith)

-- the groups from a place on
pub groups-next : (gs : List HintGroup) (i : ℕ) → i < length gs →
    plain_text (groups_numbers (drop i gs)) ≡ plain_text (group_numbers (group_at gs i).target (group_at gs i).hints) ++ plain_text (groups_numbers (drop (i + 1) gs))
groups-next gs i h = rw add-one (groups-at gs i h)
