-- Steps of logs of either profile: those without proof parts, and those with them.
use Rattle.std.proofs.Common.{◌≡◌, ◌∙◌, refl, sym, ap, suc, List, [], ◌∷◌, ◌++◌, map, length, Option, Some, None}
use Rattle.std.proofs.lemmas.List.{length-map}
use Rattle.q_logic.specs.Prelude.{Hinted, ProofPart, strip, ProofStep}
use Rattle.q_hinted.specs.Logs.{Entry as BothEntry, plain_entry, hinted_entry, hinted_in, if_hinted}
use Rattle.q_command.specs.Logs.{Entry, HintedEntry, steps_of, hinted_of, stripped}
use Rattle.q_command.specs.Judging.{plain_in, if_plain, bare}

pub plain_in-append : (xs ys : List BothEntry) → plain_in (xs ++ ys) ≡ plain_in xs ++ plain_in ys
plain_in-append [] ys = refl
plain_in-append (e ∷ xs) ys = go e.2 (plain_in-append xs ys)
  where
    go : (t : Option ProofPart) → plain_in (xs ++ ys) ≡ plain_in xs ++ plain_in ys → if_plain e.0 e.1 t (plain_in (xs ++ ys)) ≡ if_plain e.0 e.1 t (plain_in xs) ++ plain_in ys
    go None h = ap (λ (ps : List Entry). (e.0, e.1) ∷ ps) h
    go (Some t) h = h

pub hinted_in-append : (xs ys : List BothEntry) → hinted_in (xs ++ ys) ≡ hinted_in xs ++ hinted_in ys
hinted_in-append [] ys = refl
hinted_in-append (e ∷ xs) ys = go e.2 (hinted_in-append xs ys)
  where
    go : (t : Option ProofPart) → hinted_in (xs ++ ys) ≡ hinted_in xs ++ hinted_in ys → if_hinted e.0 e.1 t (hinted_in (xs ++ ys)) ≡ if_hinted e.0 e.1 t (hinted_in xs) ++ hinted_in ys
    go None h = h
    go (Some t) h = ap (λ (hs : List HintedEntry). (e.0, record { step = e.1; proof = t }) ∷ hs) h

pub bare-append : (xs ys : List BothEntry) → bare (xs ++ ys) ≡ bare xs ++ bare ys
bare-append [] ys = refl
bare-append (e ∷ xs) ys = ap (λ (ps : List Entry). (e.0, e.1) ∷ ps) (bare-append xs ys)

pub plain_in-plain : (ps : List Entry) → plain_in (map plain_entry ps) ≡ ps
plain_in-plain [] = refl
plain_in-plain (p ∷ ps) = ap (λ (xs : List Entry). p ∷ xs) (plain_in-plain ps)

pub hinted_in-plain : (ps : List Entry) → hinted_in (map plain_entry ps) ≡ []
hinted_in-plain [] = refl
hinted_in-plain (p ∷ ps) = hinted_in-plain ps

pub plain_in-hinted : (hs : List HintedEntry) → plain_in (map hinted_entry hs) ≡ []
plain_in-hinted [] = refl
plain_in-hinted (h ∷ hs) = plain_in-hinted hs

pub hinted_in-hinted : (hs : List HintedEntry) → hinted_in (map hinted_entry hs) ≡ hs
hinted_in-hinted [] = refl
hinted_in-hinted (h ∷ hs) = ap (λ (xs : List HintedEntry). h ∷ xs) (hinted_in-hinted hs)

pub bare-plain : (ps : List Entry) → bare (map plain_entry ps) ≡ ps
bare-plain [] = refl
bare-plain (p ∷ ps) = ap (λ (xs : List Entry). p ∷ xs) (bare-plain ps)

pub bare-hinted : (hs : List HintedEntry) → bare (map hinted_entry hs) ≡ stripped hs
bare-hinted [] = refl
bare-hinted (h ∷ hs) = ap (λ (xs : List Entry). (h.0, h.1.step) ∷ xs) (bare-hinted hs)

pub stripped-steps : (hs : List HintedEntry) → steps_of (stripped hs) ≡ strip (hinted_of hs)
stripped-steps [] = refl
stripped-steps (h ∷ hs) = ap (λ (ss : List ProofStep). h.1.step ∷ ss) (stripped-steps hs)

pub length-stripped : (hs : List HintedEntry) → length (stripped hs) ≡ length hs
length-stripped [] = refl
length-stripped (h ∷ hs) = ap suc (length-stripped hs)

pub length-bare : (es : List BothEntry) → length (bare es) ≡ length es
length-bare [] = refl
length-bare (e ∷ es) = ap suc (length-bare es)

pub steps_of-length : (es : List Entry) → length (steps_of es) ≡ length es
steps_of-length [] = refl
steps_of-length (e ∷ es) = ap suc (steps_of-length es)

pub steps_of-append : (xs ys : List Entry) → steps_of (xs ++ ys) ≡ steps_of xs ++ steps_of ys
steps_of-append [] ys = refl
steps_of-append (e ∷ xs) ys = ap (λ (ss : List ProofStep). e.1 ∷ ss) (steps_of-append xs ys)

pub hinted_of-append : (xs ys : List HintedEntry) → hinted_of (xs ++ ys) ≡ hinted_of xs ++ hinted_of ys
hinted_of-append [] ys = refl
hinted_of-append (h ∷ xs) ys = ap (λ (hs : List Hinted). h.1 ∷ hs) (hinted_of-append xs ys)

pub hinted_of-length : (hs : List HintedEntry) → length (hinted_of hs) ≡ length hs
hinted_of-length [] = refl
hinted_of-length (h ∷ hs) = ap suc (hinted_of-length hs)

pub strip-append : (xs ys : List Hinted) → strip (xs ++ ys) ≡ strip xs ++ strip ys
strip-append [] ys = refl
strip-append (h ∷ xs) ys = ap (λ (ss : List ProofStep). h.step ∷ ss) (strip-append xs ys)

-- where no step has a proof part, all are plain
pub only-plain : (es : List BothEntry) → hinted_in es ≡ [] → es ≡ map plain_entry (plain_in es)
only-plain [] h = refl
only-plain (e ∷ es) h = go e.2 h (only-plain es)
  where
    go : (t : Option ProofPart) → if_hinted e.0 e.1 t (hinted_in es) ≡ [] → (hinted_in es ≡ [] → es ≡ map plain_entry (plain_in es)) → ((e.0, e.1, t) ∷ es) ≡ map plain_entry (if_plain e.0 e.1 t (plain_in es))
    go None k ih = ap (λ (xs : List BothEntry). (e.0, e.1, None) ∷ xs) (ih k)
    go (Some t) k ih = cc

-- so many steps come before another, where all are plain
pub plain-number : (es : List BothEntry) → hinted_in es ≡ [] → length (plain_in es) ≡ length es
plain-number es h = sym (length-map (plain_in es) plain_entry) ∙ ap length (sym (only-plain es h))

-- so it is where all have proof parts
pub hinted-number : (es : List BothEntry) → plain_in es ≡ [] → length (hinted_in es) ≡ length es
hinted-number [] h = refl
hinted-number (e ∷ es) h = go e.2 h (hinted-number es)
  where
    go : (t : Option ProofPart) → if_plain e.0 e.1 t (plain_in es) ≡ [] → (plain_in es ≡ [] → length (hinted_in es) ≡ length es) → length (if_hinted e.0 e.1 t (hinted_in es)) ≡ suc (length es)
    go None k ih = cc
    go (Some t) k ih = ap suc (ih k)

pub first-empty : {X : Type 0} (xs ys : List X) → xs ++ ys ≡ [] → xs ≡ []
first-empty [] ys h = refl
first-empty (x ∷ xs) ys h = cc

-- a list with something in it is not empty
pub not-empty : {X : Type 0} (xs ys : List X) (x : X) → xs ++ (x ∷ ys) ≡ [] → ⊥
not-empty [] ys x h = cc
not-empty (y ∷ xs) ys x h = cc
