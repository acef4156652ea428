-- A circuit file holds circuits or has an offence, and not both.
use Rattle.std.proofs.Common.{◌≡◌, ◌⊎◌, ◌↔◌, inl, inr, ℕ, zero, suc, ◌+◌, ◌<◌, List, [], ◌∷◌, length, Ok, Err, Result, Some, refl, ap, subst, arith}
use Rattle.std.specs.List.{AllZip}
use Rattle.q_logic.specs.Prelude.{CertificateView, GateNode, Gate}
use Rattle.q_gates.specs.Uses.{part_of, Uses, AreDefined, IsFullOrder, IsFirstCycle}
use Rattle.q_gates.proofs.GateWalk.{user-there}
use Rattle.q_aiger.specs.Circuits.{parse, Offence, refused, cyclic, cycle, sorted_circuits}
use Rattle.q_aiger.specs.Grammar.{Text, Definition, Stands, constant, input, gate, IsGate, Circuits, IsFile}
use Rattle.q_aiger.proofs.AigerGrammar.{parsed-file, read-grammar}
use Rattle.q_aiger.proofs.NoOffence.{no-offence}
use Rattle.q_offences.proofs.FirstCycles.{order-or-first}

-- each gate that is used has a line
node-there : (t : Text) (v : ℕ) (n : GateNode) (h : ℕ) → Stands t v n → part_of n ≡ Some h → h < length t.gates
node-there t v n h (constant i) e = cc
node-there t v n h (input j l i) e = cc
node-there t v n h (gate g l i) e = let q : g ≡ h = cc in subst (λ x. x < length t.gates) q l

used-there : (t : Text) (ds : List Definition) (gs : List Gate) → AllZip (IsGate t) ds gs → (g h : ℕ) → Uses gs g h → h < length t.gates
used-there t [] [] a g h u = absurd (let l = user-there [] g h u in omega arith)
used-there t [] (x ∷ gs) a g h u = absurd a
used-there t (d ∷ ds) [] a g h u = absurd a
used-there t (d ∷ ds) (x ∷ gs) a zero h (inl u) = node-there t _ x.left.node h a.0.0.0 u
used-there t (d ∷ ds) (x ∷ gs) a zero h (inr u) = node-there t _ x.right.node h a.0.1.0 u
used-there t (d ∷ ds) (x ∷ gs) a (suc g) h u = used-there t ds gs a.1 g h u

zip-length : (t : Text) (ds : List Definition) (gs : List Gate) → AllZip (IsGate t) ds gs → length ds ≡ length gs
zip-length t [] [] a = refl
zip-length t [] (x ∷ gs) a = absurd a
zip-length t (d ∷ ds) [] a = absurd a
zip-length t (d ∷ ds) (x ∷ gs) a = ap suc (zip-length t ds gs a.1)

file-defined : (bytes : List ℕ) (w : CertificateView) → IsFile bytes w → AreDefined w.gates
file-defined bytes w f g h l u = subst (λ n. h < n) (zip-length f.text f.text.gates w.gates f.means.gates) (used-there f.text f.text.gates w.gates f.means.gates g h u)

-- a file, or an offence
one-or-other : (bytes : List ℕ) → ((c : CertificateView) × Circuits bytes c) ⊎ ((line : ℕ) × (cause : ℕ) × Offence bytes line cause)
one-or-other bytes = go (parse bytes) refl where
  go : (r : Result CertificateView (ℕ × ℕ)) → parse bytes ≡ r → ((c : CertificateView) × Circuits bytes c) ⊎ ((line : ℕ) × (cause : ℕ) × Offence bytes line cause)
  go (Err (l, k)) e = inr (l, k, refused l k e)
  go (Ok w) e = by (order-or-first w.gates (file-defined bytes w (parsed-file bytes w e))) where
    by : ((order : List ℕ) × IsFullOrder w.gates order) ⊎ ((g : ℕ) × IsFirstCycle w.gates g) → ((c : CertificateView) × Circuits bytes c) ⊎ ((line : ℕ) × (cause : ℕ) × Offence bytes line cause)
    by (inl (order, full)) = inl (sorted_circuits order w, read-grammar bytes (sorted_circuits order w) (record { written = w; parsed = e; order = order; full = full; sorted = refl }))
    by (inr (g, f)) = inr (2 + length w.inputs + length w.outputs + g, cycle, cyclic w g e f)

pub offence-where : (bytes : List ℕ) → ((line : ℕ) × (cause : ℕ) × Offence bytes line cause) ↔ ((c : CertificateView) → ¬ Circuits bytes c)
offence-where bytes = (λ o c f. no-offence bytes c o.0 o.1 f o.2, λ n. some (one-or-other bytes) n) where
  some : ((c : CertificateView) × Circuits bytes c) ⊎ ((line : ℕ) × (cause : ℕ) × Offence bytes line cause) → ((c : CertificateView) → ¬ Circuits bytes c) → (line : ℕ) × (cause : ℕ) × Offence bytes line cause
  some (inl (c, f)) n = absurd (n c f)
  some (inr o) n = o

pub circuits-where : (bytes : List ℕ) → ((line cause : ℕ) → ¬ Offence bytes line cause) ↔ ((c : CertificateView) × Circuits bytes c)
circuits-where bytes = (λ n. some (one-or-other bytes) n, λ c line cause o. no-offence bytes c.0 line cause c.1 o) where
  some : ((c : CertificateView) × Circuits bytes c) ⊎ ((line : ℕ) × (cause : ℕ) × Offence bytes line cause) → ((line cause : ℕ) → ¬ Offence bytes line cause) → (c : CertificateView) × Circuits bytes c
  some (inl c) n = c
  some (inr (l, k, o)) n = absurd (n l k o)
