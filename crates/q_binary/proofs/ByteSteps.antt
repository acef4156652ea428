-- What was to come is the answer to a byte, and then what is to come behind it; a byte that is taken leaves one byte fewer to take.
use Rattle.std.proofs.Common.{◌≡◌, ℕ, zero, suc, ◌+◌, ◌-◌, ◌<◌, ◌==◌, nat_le, Bool, true, false, List, [], ◌∷◌, ◌++◌, length, take, if◌then◌else◌, Result, Ok, Err, Option, Some, None, refl, sym, ap, ◌∙◌, arith, sub-one, subst}
use Rattle.std.proofs.lemmas.Bool.Decides.{nat_tests}
use Rattle.q_logic.specs.Prelude.{Literal, ProofStep}
use Rattle.q_log.specs.declared.error.LogError.{LogError}
use Rattle.q_log.specs.declared.error.LogError.TheVariants.{BadLine, Limit, NoMemory}
use Rattle.q_log.specs.Logs.{stopped, onto}
use Rattle.q_log.specs.Reading.{Leads, unless_refused}
use Rattle.q_binary.specs.BinaryProofs.{Entry, Place, between, Move, goes_on, ends_step, unfit, move, follow, value, step_of_entry, parsed, at_end, past_limit}
use Rattle.q_binary.specs.Reading.{BinaryState, Transition, Answers, Builds, moved, open_to_come, open_transition, place_of, refuse, to_come, transition, transition_unless}

abbrev state : Place → ℕ → ℕ → Option LogError → BinaryState
state p n k f = record { place = p; number = n; left = k; refused = f }

moved-leads : (k n : ℕ) (p : Place) (rest xs : List ℕ) (last : ℕ → Place → Option LogError) →
    ((j : ℕ) (q : Place) → to_come (state q j k None) rest ≡ parsed last j q xs) → (m : Move) →
    let T = moved (state p n k None) m in
    Leads T.answer (follow m n (λ j q. parsed last j q xs)) (to_come T.state rest)
moved-leads k n p rest xs last h (goes_on q) = sym (h n q)
moved-leads k n p rest xs last h (ends_step e) = ap (onto (n, step_of_entry e)) (sym (h (n + 1) between))
moved-leads k n p rest xs last h unfit = (refl, refl)

-- the answer to a byte within the limit
byte-leads : (p : Place) (n k b : ℕ) (rest : List ℕ) →
    let T = moved (state p n k None) (move p b) in
    Leads T.answer (to_come (state p n (suc k) None) (b ∷ rest)) (to_come T.state rest)
byte-leads p n k b rest = go (nat_le (length rest) k) refl (grind (arith, nat_tests))
  where
    go : (c : Bool) → nat_le (length rest) k ≡ c → nat_le (length (b ∷ rest)) (suc k) ≡ nat_le (length rest) k →
        let T = moved (state p n k None) (move p b) in
        Leads T.answer (to_come (state p n (suc k) None) (b ∷ rest)) (to_come T.state rest)
    go true e f = rw (f, e) (moved-leads k n p rest rest at_end (λ j q. rw e refl) (move p b))
    go false e f = rw (f, e) (moved-leads k n p rest (take k rest) past_limit (λ j q. rw e refl) (move p b))

transition-leads : (r : BinaryState) (b : ℕ) (rest : List ℕ) → Leads (transition r b).answer (to_come r (b ∷ rest)) (to_come (transition r b).state rest)
transition-leads r b rest = go r.left r.refused
  where
    above : nat_le (length (b ∷ rest)) zero ≡ false
    above = grind (arith, nat_tests)

    counted : (k : ℕ) → (suc k == 0) ≡ false
    counted k = grind (arith, nat_tests)

    go : (n : ℕ) (f : Option LogError) →
        let q : BinaryState = state r.place r.number n f in
        Leads (transition q b).answer (to_come q (b ∷ rest)) (to_come (transition q b).state rest)
    go n (Some NoMemory) = refl
    go n (Some (BadLine m)) = (refl, refl)
    go n (Some (Limit m)) = (refl, refl)
    go zero None = rw above (refl, refl)
    go (suc k) None = rw (counted k, sub-one) (byte-leads r.place r.number k b rest)

pub after-refusal : (new : BinaryState) (rest : List ℕ) (e : LogError) → new.refused ≡ Some e → to_come new rest ≡ stopped e
after-refusal new rest e h = ap (λ f. unless_refused f (open_to_come new rest)) h

-- the answer and the state behind it may be told by equations
told : (a : Result (Option (ℕ × ProofStep)) LogError) (r : BinaryState) (b : ℕ) (rest : List ℕ) →
    a ≡ (transition r b).answer → Leads a (to_come r (b ∷ rest)) (to_come (transition r b).state rest)
told a r b rest e =
    subst (λ (a : Result (Option (ℕ × ProofStep)) LogError). Leads a (to_come r (b ∷ rest)) (to_come (transition r b).state rest)) (sym e) (transition-leads r b rest)

pub leads : (a : Result (Option (ℕ × ProofStep)) LogError) (new r : BinaryState) (b : ℕ) (rest : List ℕ) →
    Answers a new (transition r b) → Leads a (to_come r (b ∷ rest)) (to_come new rest)
leads (Ok o) new r b rest (e, f) =
    subst (λ (q : BinaryState). Leads (Ok o) (to_come r (b ∷ rest)) (to_come q rest)) (sym f) (told (Ok o) r b rest e)
leads (Err NoMemory) new r b rest h = after-refusal new rest NoMemory h
leads (Err (BadLine n)) new r b rest (e, f) = ((told (Err (BadLine n)) r b rest e).0, after-refusal new rest (BadLine n) f)
leads (Err (Limit n)) new r b rest (e, f) = ((told (Err (Limit n)) r b rest e).0, after-refusal new rest (Limit n) f)

-- the answer of the builder is that of the reader

open-answer : (r : BinaryState) (b : ℕ) → r.refused ≡ None → (r.left == 0) ≡ false → transition r b ≡ moved (record r { left = r.left - 1 }) (move r.place b)
open-answer r b f l = rw (f, l) refl

pub taken-on : (r new : BinaryState) (b : ℕ) (p : Place) → r.refused ≡ None → (r.left == 0) ≡ false →
    move r.place b ≡ goes_on p → new ≡ state p r.number (r.left - 1) r.refused → Answers (Ok None) new (transition r b)
taken-on r new b p f l h e = rw (open-answer r b f l, h, e) (refl, refl)

pub taken-end : (r new : BinaryState) (b : ℕ) (x : Entry) (s : ℕ × ProofStep) → r.refused ≡ None → (r.left == 0) ≡ false →
    move r.place b ≡ ends_step x → s ≡ (r.number, step_of_entry x) → new ≡ state between (r.number + 1) (r.left - 1) r.refused → Answers (Ok (Some s)) new (transition r b)
taken-end r new b x s f l h q e = rw (open-answer r b f l, h, e, q) (refl, refl)

pub taken-not : (r new : BinaryState) (b : ℕ) (p : Place) (e : LogError) → r.refused ≡ None → (r.left == 0) ≡ false →
    Builds (Err e) (move r.place b) p r.number → new.refused ≡ Some e → Answers (Err e) new (transition r b)
taken-not r new b p NoMemory f l h g = g
taken-not r new b p (BadLine n) f l (h, k) g = rw (open-answer r b f l, h, k) (refl, g ∙ ap (λ (i : ℕ). Some (BadLine i)) k)
taken-not r new b p (Limit n) f l h g = absurd h

-- one byte fewer

abbrev OneFewer : BinaryState → Transition → Type 0
OneFewer r t = (o : Option (ℕ × ProofStep)) → Ok o ≡ t.answer → t.state.left + 1 ≡ r.left

moved-fewer : (r s : BinaryState) (m : Move) → s.left + 1 ≡ r.left → OneFewer r (moved s m)
moved-fewer r s (goes_on q) e o h = e
moved-fewer r s (ends_step x) e o h = e
moved-fewer r s unfit e o h = cc

open-fewer : (r : BinaryState) (b : ℕ) → OneFewer r (open_transition r b)
open-fewer r b = go (r.left == 0) refl
  where
    go : (c : Bool) → (r.left == 0) ≡ c → OneFewer r (if c then refuse r (Limit r.number) else moved (record r { left = r.left - 1 }) (move r.place b))
    go true e o h = cc
    go false e o h = moved-fewer r (record r { left = r.left - 1 }) (move r.place b) (grind (arith, nat_tests, e)) o h

transition-fewer : (r : BinaryState) (b : ℕ) → OneFewer r (transition r b)
transition-fewer r b = go r.refused
  where
    go : (e : Option LogError) → OneFewer r (transition_unless e r (open_transition r b))
    go None o h = open-fewer r b o h
    go (Some e) o h = cc

pub taken-fewer : (r new : BinaryState) (b : ℕ) (o : Option (ℕ × ProofStep)) → Answers (Ok o) new (transition r b) → new.left + 1 ≡ r.left
taken-fewer r new b o a = ap (λ (s : BinaryState). s.left + 1) a.1 ∙ transition-fewer r b o a.0

-- the byte ends the step that has begun
pub ends-there : (o : Option Bool) (d : Bool) (ls : List Literal) (ds : List ℕ) (b : ℕ) → o ≡ Some d → nat_le 128 b ≡ false →
    value (ds ++ b ∷ []) ≡ 0 → move (place_of o ls ds) b ≡ ends_step (record { deletes = d; lits = ls })
ends-there o d ls ds b e f g = rw (e, f, g) refl

pub below-128 : (b : ℕ) → b < 128 → nat_le 128 b ≡ false
below-128 b h = grind (arith, nat_tests)
