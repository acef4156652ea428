-- The steps of a log, noted one after the other.
use Rattle.std.proofs.Common.{◌≡◌, ◌<◌, ◌≤◌, ◌+◌, ℕ, zero, suc, List, [], ◌∷◌, ◌++◌, length, take, drop, get_or, slice_get, Some, inl, inr, arith, add-one, refl, sym, ap, ◌∙◌, subst}
use Rattle.q_logic.specs.declared.limits.Limits.{Limits}
use Rattle.q_logic.specs.Prelude.{PrenexFormula, standard, ProofStep, Valid, after, ValidSteps}
use Rattle.q_logic.specs.Reversals.{IsExtended, NoneExtended}
use Rattle.q_logic.proofs.Common.{alike_valid, alike_swapped}
use Rattle.q_herbrand.specs.Trails.{Trailed, HasNoted, IsNoted}
use Rattle.q_herbrand.specs.declared.error.TrailError.{TrailError}
use Rattle.q_herbrand.specs.declared.error.TrailError.TheVariants as noting
use Rattle.q_herbrand.proofs.RunReversals.{alike_extended}
use Rattle.q_prop.proofs.SlotLemmas.{take-slice_get}
use Rattle.q_command.specs.Logs.{Entry, steps_of}
use Rattle.q_command.specs.Taken.{entries_of}
use Rattle.q_command.specs.declared.taken.TakenStep.{TakenStep}
use Rattle.q_run_refute.specs.Extended.{FirstExtended}
use Rattle.q_run_refute.specs.Reversing.{IsUnreversed, reason_of}

-- the formula after steps
abbrev pub formula_after : PrenexFormula → List ProofStep → PrenexFormula
formula_after F [] = F
formula_after F (s ∷ ss) = formula_after (after F s) ss

valid-last : (m : Limits) (F : PrenexFormula) (ss : List ProofStep) (E : PrenexFormula) → ValidSteps m F ss E →
    E ≡ formula_after F ss
valid-last m F [] E v = sym v
valid-last m F (s ∷ ss) E v = valid-last m (after F s) ss E v.1

after-more : (F : PrenexFormula) (ss : List ProofStep) (s : ProofStep) →
    formula_after F (ss ++ s ∷ []) ≡ after (formula_after F ss) s
after-more F [] s = refl
after-more F (t ∷ ss) s = after-more (after F t) ss s

steps-more : (es : List Entry) (e : Entry) → steps_of (es ++ e ∷ []) ≡ steps_of es ++ e.1 ∷ []
steps-more [] e = refl
steps-more (x ∷ es) e = ap (λ (ss : List ProofStep). x.1 ∷ ss) (steps-more es e)

drop-item : (es : List Entry) (n : ℕ) (e : Entry) → slice_get es n ≡ Some e → drop n es ≡ e ∷ drop (suc n) es
drop-item [] n e h = cc
drop-item (x ∷ es) zero e h = ap (λ (y : Entry). y ∷ es) (same x e h)
  where
    same : (x e : Entry) → Some x ≡ Some e → x ≡ e
    same x e z = cc
drop-item (x ∷ es) (suc n) e h = drop-item es n e h

-- a kept step is the log's
pub entries-item : (ts : List TakenStep) (n : ℕ) (t : TakenStep) → n < length ts → t ≡ get_or ts n t →
    slice_get (entries_of ts) n ≡ Some (t.line, t.step)
entries-item [] n t h e = absurd (omega arith)
entries-item (x ∷ ts) zero t h e = ap (λ (y : TakenStep). Some (y.line, y.step)) (sym e)
entries-item (x ∷ ts) (suc n) t h e = entries-item ts n t (omega arith) e

pub entries-length : (ts : List TakenStep) → length (entries_of ts) ≡ length ts
entries-length [] = refl
entries-length (t ∷ ts) = ap suc (entries-length ts)

take-past : (es : List Entry) (n : ℕ) → length es ≤ n → take n es ≡ es
take-past [] zero h = refl
take-past [] (suc n) h = refl
take-past (x ∷ es) zero h = absurd (omega arith)
take-past (x ∷ es) (suc n) h = ap (λ (ys : List Entry). x ∷ ys) (take-past es n (omega arith))

-- the first entries are noted, the others are valid behind them, and the first extended drop among these is that of all
pub record IsWalked (F : PrenexFormula) (es : List Entry) (n : ℕ) (t : Trailed) : Type 0 where
  pub noted : HasNoted F (steps_of (take n es)) t
  pub rest : (E : PrenexFormula) × ValidSteps standard (formula_after F (steps_of (take n es))) (steps_of (drop n es)) E
  pub first : (line : ℕ) → FirstExtended (formula_after F (steps_of (take n es))) (drop n es) line →
      FirstExtended F es line

pub walked-begun : (F : PrenexFormula) (es : List Entry) (t : Trailed) → HasNoted F [] t →
    (E : PrenexFormula) × ValidSteps standard F (steps_of es) E → IsWalked F es 0 t
walked-begun F es t h v = record { noted = h; rest = v; first = λ line f. f }

module _ (F : PrenexFormula) (es : List Entry) (n : ℕ) (t : Trailed) (w : IsWalked F es n t) (e : Entry) (here : slice_get es n ≡ Some e) where
  behind : ValidSteps standard (formula_after F (steps_of (take n es))) (e.1 ∷ steps_of (drop (suc n) es)) w.rest.0
  behind =
      subst (λ (xs : List Entry). ValidSteps standard (formula_after F (steps_of (take n es))) (steps_of xs) w.rest.0)
      (drop-item es n e here) w.rest.1

  last-is : w.noted.last ≡ formula_after F (steps_of (take n es))
  last-is = valid-last standard F (steps_of (take n es)) w.noted.last w.noted.steps

  pub walked-valid : Valid standard t.formula e.1
  walked-valid =
      alike_valid standard w.noted.last t.formula e.1 w.noted.alike
      (subst (λ (G : PrenexFormula). Valid standard G e.1) (sym last-is) behind.0)

  pub walked-extended : IsExtended t.formula e.1 → FirstExtended F es e.0
  walked-extended x =
      w.first e.0 (subst (λ (xs : List Entry). FirstExtended (formula_after F (steps_of (take n es))) xs e.0)
      (sym (drop-item es n e here)) (inl (
        subst (λ (G : PrenexFormula). IsExtended G e.1) last-is
            (alike_extended t.formula w.noted.last e.1 (alike_swapped w.noted.last t.formula w.noted.alike) x),
        refl,
      )))

  front : steps_of (take (suc n) es) ≡ steps_of (take n es) ++ e.1 ∷ []
  front = ap steps_of (take-slice_get es n e here) ∙ steps-more (take n es) e

  next : formula_after F (steps_of (take (suc n) es)) ≡ after (formula_after F (steps_of (take n es))) e.1
  next = ap (formula_after F) front ∙ after-more F (steps_of (take n es)) e.1

  pub walked-more : (u : Trailed) → (IsExtended t.formula e.1 → ⊥) →
      HasNoted F (steps_of (take n es) ++ e.1 ∷ []) u → IsWalked F es (n + 1) u
  walked-more u plain h = rw add-one (record {
    noted = subst (λ (ss : List ProofStep). HasNoted F ss u) (sym front) h;
    rest = (
      w.rest.0,
      subst (λ (G : PrenexFormula). ValidSteps standard G (steps_of (drop (suc n) es)) w.rest.0) (sym next) behind.1,
    );
    first = λ line f. w.first line
        (subst (λ (xs : List Entry). FirstExtended (formula_after F (steps_of (take n es))) xs line)
        (sym (drop-item es n e here)) (inr (
          (λ x. plain (alike_extended w.noted.last t.formula e.1 w.noted.alike
              (subst (λ (G : PrenexFormula). IsExtended G e.1) (sym last-is) x))),
          subst (λ (G : PrenexFormula). FirstExtended G (drop (suc n) es) line) next f,
        )));
  })

pub walked-all : (F : PrenexFormula) (es : List Entry) (n : ℕ) (t : Trailed) → length es ≤ n → IsWalked F es n t →
    HasNoted F (steps_of es) t
walked-all F es n t h w = subst (λ (xs : List Entry). HasNoted F (steps_of xs) t) (take-past es n h) w.noted

-- where no step is an extended drop, none is the first one
pub plain-not_extended : (F : PrenexFormula) (es : List Entry) (line : ℕ) → NoneExtended F (steps_of es) →
    FirstExtended F es line → ⊥
plain-not_extended F [] line n f = f
plain-not_extended F (e ∷ es) line n (inl x) = n.0 x.0
plain-not_extended F (e ∷ es) line n (inr f) = plain-not_extended (after F e.1) es line n.1 f.1

pub item-same : (ts : List TakenStep) (n : ℕ) (a b : TakenStep) → n < length ts → a ≡ get_or ts n a → b ≡ get_or ts n b →
    a ≡ b
item-same [] n a b h e f = absurd (omega arith)
item-same (x ∷ ts) zero a b h e f = e ∙ sym f
item-same (x ∷ ts) (suc n) a b h e f = item-same ts n a b (omega arith) e f

-- why a step is not noted
pub refused-by : (F : PrenexFormula) (es : List Entry) (G : PrenexFormula) (s : ProofStep) (line : ℕ)
    (error : TrailError) → IsNoted G s error → (IsExtended G s → FirstExtended F es line) →
    IsUnreversed F es (reason_of error line)
refused-by F es G s line noting.Extended i f = f i
refused-by F es G s line noting.NoMemory i f = tt
