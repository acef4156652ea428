-- Circuits with a circuit in place of each input.
use Rattle.std.proofs.Common.{◌≡◌, ℕ, ◌+◌, ◌≤◌, Bool, true, false, not, ◌&&◌, cond, eqb, inl, inr, arith, refl, sym, ap, ap₂, ◌∙◌}
use Rattle.q_logic.specs.Prelude.{Assignment, Circuit, constant, input, inverter, conjunction, value_of, Reads, replaced}
use Rattle.q_logic.proofs.Common.{not-not}
use Rattle.q_aig.specs.Prelude.{Serves}
use Rattle.q_herbrand.specs.Under.{under, twice}

pub replaced-under : (v : ℕ) (s : Circuit) (r : ℕ → Circuit) (t : Circuit) →
    replaced v s (under r t) ≡ under (λ x. replaced v s (r x)) t
replaced-under v s r (constant b) = refl
replaced-under v s r (input x) = refl
replaced-under v s r (inverter t) = ap inverter (replaced-under v s r t)
replaced-under v s r (conjunction t q) = ap₂ conjunction (replaced-under v s r t) (replaced-under v s r q)

pub under-same : (r q : ℕ → Circuit) (t : Circuit) → ((x : ℕ) → Reads t x → r x ≡ q x) → under r t ≡ under q t
under-same r q (constant b) h = refl
under-same r q (input x) h = h x refl
under-same r q (inverter t) h = ap inverter (under-same r q t h)
under-same r q (conjunction t u) h =
    ap₂ conjunction (under-same r q t (λ x e. h x (inl e))) (under-same r q u (λ x e. h x (inr e)))

-- what is read is read through an input
pub Reads-under : (r : ℕ → Circuit) (t : Circuit) (u : ℕ) → Reads (under r t) u →
    (x : ℕ) × Reads t x × Reads (r x) u
Reads-under r (constant b) u h = absurd h
Reads-under r (input x) u h = (x, refl, h)
Reads-under r (inverter t) u h = Reads-under r t u h
Reads-under r (conjunction t q) u (inl h) = let e = Reads-under r t u h in (e.0, inl e.1, e.2)
Reads-under r (conjunction t q) u (inr h) = let e = Reads-under r q u h in (e.0, inr e.1, e.2)

pub Reads-through : (r : ℕ → Circuit) (t : Circuit) (x u : ℕ) → Reads t x → Reads (r x) u → Reads (under r t) u
Reads-through r (constant b) x u h i = absurd h
Reads-through r (input y) x u h i = let e : y ≡ x = h in rw e i
Reads-through r (inverter t) x u h i = Reads-through r t x u h i
Reads-through r (conjunction t q) x u (inl h) i = inl (Reads-through r t x u h i)
Reads-through r (conjunction t q) x u (inr h) i = inr (Reads-through r q x u h i)

pub value_of-under : (r : ℕ → Circuit) (t : Circuit) (A : Assignment) →
    value_of (under r t) A ≡ value_of t (λ x. value_of (r x) A)
value_of-under r (constant b) A = refl
value_of-under r (input x) A = refl
value_of-under r (inverter t) A = ap not (value_of-under r t A)
value_of-under r (conjunction t q) A = ap₂ (λ (a b : Bool). a && b) (value_of-under r t A) (value_of-under r q A)

pub serves-under : (r : ℕ → Circuit) (s t : Circuit) → Serves s t → Serves (under r s) (under r t)
serves-under r s t f = record {
  values = λ A. value_of-under r s A ∙ f.values (λ x. value_of (r x) A) ∙ sym (value_of-under r t A);
  reads = λ u h. let e = Reads-under r s u h in Reads-through r t e.0 u (f.reads e.0 e.1) e.2;
}

pub under-operand : (r : ℕ → Circuit) (b : Bool) (t : Circuit) →
    under r (cond b (inverter t) t) ≡ cond b (inverter (under r t)) (under r t)
under-operand r true t = refl
under-operand r false t = refl

pub twice-serves : (t : Circuit) → Serves (twice t) t
twice-serves t = record { values = λ A. not-not (value_of t A); reads = λ u h. h }

pub serves-twice : (t : Circuit) → Serves t (twice t)
serves-twice t = record { values = λ A. sym (not-not (value_of t A)); reads = λ u h. h }

-- How large a circuit is.
abbrev pub size : Circuit → ℕ
size (constant b) = 1
size (input x) = 1
size (inverter t) = size t + 1
size (conjunction s t) = size s + size t + 1

pub operand-size : (b : Bool) (t : Circuit) → size t ≤ size (cond b (inverter t) t)
operand-size true t = omega arith
operand-size false t = omega arith

-- An input that a circuit does not read.
pub replaced-unread : (v : ℕ) (s t : Circuit) → (Reads t v → ⊥) → replaced v s t ≡ t
replaced-unread v s (constant b) n = refl
replaced-unread v s (input w) n = go (eqb w v) refl
  where
    go : (b : Bool) → eqb w v ≡ b → cond (eqb w v) s (input w) ≡ input w
    go true e = absurd (n (grind arith))
    go false e = ap (λ (b : Bool). cond b s (input w)) e
replaced-unread v s (inverter t) n = ap inverter (replaced-unread v s t n)
replaced-unread v s (conjunction t q) n =
    ap₂ conjunction (replaced-unread v s t (λ h. n (inl h))) (replaced-unread v s q (λ h. n (inr h)))

pub replaced-itself : (v : ℕ) (s : Circuit) → replaced v s (input v) ≡ s
replaced-itself v s = let e : eqb v v ≡ true = grind arith in ap (λ (b : Bool). cond b s (input v)) e

pub replaced-other : (v : ℕ) (s : Circuit) (w : ℕ) → (w ≡ v → ⊥) → replaced v s (input w) ≡ input w
replaced-other v s w n = replaced-unread v s (input w) n
