-- Parts that say `verified` make a proof that is disproved, and where parts refuse, the least line is that of the whole.
use Rattle.std.proofs.Common.{◌≡◌, ◌≤◌, ◌<◌, ◌∙◌, inl, inr, refl, sym, ap, subst, arith, ℕ, zero, suc, Bool, true, false, List, [], ◌∷◌, length, Option, Some, None, sum}
use Rattle.q_logic.specs.declared.limits.Limits.{Limits}
use Rattle.q_logic.specs.Prelude.{PrenexFormula, IsIn, ProofStep, after, begun, standard, strip}
use Rattle.q_io.specs.Files.{Disk, bytes_at}
use Rattle.q_log.specs.declared.error.LogError.{LogError}
use Rattle.q_log.specs.declared.error.LogError.TheVariants.{BadLine, Limit, NoMemory}
use Rattle.q_log.specs.Logs.{Parsed}
use Rattle.q_hinted.specs.Logs.{Entry as BothEntry}
use Rattle.q_shares.specs.Shares.{AreDealt, Share, judged, shares_of}
use Rattle.q_refutation.specs.Refutations.{RefusedAt, Refutes}
use Rattle.q_refutation.specs.SharedRefutations.{AllSharedIn}
use Rattle.q_refutation.proofs.Refusing.{number-refutes}
use Rattle.q_refutation.proofs.SharedRefuting.{numbers-add, refutes-shared, shared-number, bad-told, none-before, end-told}
use Rattle.q_shown.proofs.HintedRefuting.{hinted-refutes, number-hinted}
use Rattle.q_command.specs.Judging.{bare}
use Rattle.q_command.specs.Logs.{Entry, hinted_of, steps_of, IsOffence}
use Rattle.q_command.specs.declared.outcome.Outcome.TheVariants as shared
use Rattle.q_command.proofs.CheckStatus.{one_formula}
use Rattle.q_command.proofs.LogEntries.{bare-hinted, stripped-steps}
use Rattle.q_run_disprove.specs.Disproofs.{DisproveFiles, IsOnLine, IsRefutation, LineFails, OfFiles, Says, SaysOf, proof_of}
use Rattle.q_run_disprove.specs.HintedDisproofs.{HintedSays, Tells, TellsFiles, hinted_proof, is_hinted, offence_in}
use Rattle.q_run_disprove.specs.SharedDisproofs.{AllPartsVerified, IsShareRefutationIn, PartSays, ShareLineFails}
use Rattle.q_run_disprove.specs.declared.disproved.Disproved.TheVariants as outcome
use Rattle.q_run_disprove.proofs.JudgedSteps.{hinted-entries}
use Rattle.q_run_disprove.proofs.ProofLines.{Rises, line-from, lines-rise, proof-rises}

-- the parts say so of one formula
module _ (n : DisproveFiles) (binary : Bool) (disk : Disk) (j : Share) (m : ℕ) (v : PartSays j (shared.Verified m) n binary disk) where
  says-too : (i : Share) (k : ℕ) → PartSays i (shared.Verified k) n binary disk → IsShareRefutationIn i k v.formula (proof_of binary (bytes_at disk n.proof))
  says-too i k w =
      subst (λ (F : PrenexFormula). IsShareRefutationIn i k F (proof_of binary (bytes_at disk n.proof)))
      (one_formula (bytes_at disk n.input) w.formula v.formula w.is_input v.is_input) w.holds

  all-too : (js : List Share) (ms : List ℕ) → AllPartsVerified js ms n binary disk →
      AllSharedIn js standard 0 v.formula (steps_of (proof_of binary (bytes_at disk n.proof)).steps) ms
  all-too [] [] a = tt
  all-too [] (k ∷ ms) a = absurd a
  all-too (i ∷ js) [] a = absurd a
  all-too (i ∷ js) (k ∷ ms) a = (says-too i k a.0, all-too js ms a.1)

pub parts-disprove : (js : List Share) (ms : List ℕ) (n : DisproveFiles) (binary : Bool) (disk : Disk) → AreDealt js → AllPartsVerified js ms n binary disk →
    Says (outcome.False (sum ms)) n binary disk
parts-disprove [] ms n binary disk d a = absurd (let e : shares_of [] 0 ≡ 1 = d 0 in cc)
parts-disprove (j ∷ js) [] n binary disk d a = absurd a
parts-disprove (j ∷ js) (m ∷ ms) n binary disk d a =
    let v = a.0 in
    record {
      formula = v.formula;
      is_input = v.is_input;
      holds = numbers-add (j ∷ js) standard v.formula (steps_of (proof_of binary (bytes_at disk n.proof)).steps) (m ∷ ms) d
          (all-too n binary disk j m v (j ∷ js) (m ∷ ms) a);
    }

pub disproved-parts : (j : Share) (m : ℕ) (n : DisproveFiles) (binary : Bool) (disk : Disk) → Says (outcome.False m) n binary disk →
    (k : ℕ) × PartSays j (shared.Verified k) n binary disk
disproved-parts j m n binary disk v =
    let ss : List ProofStep = steps_of (proof_of binary (bytes_at disk n.proof)).steps in
    let r = shared-number j standard 0 v.formula ss (refutes-shared j standard 0 v.formula ss (number-refutes false standard v.formula ss m v.holds)) in
    (r.0, record { formula = v.formula; is_input = v.is_input; holds = r.1 })

-- one part says what is said of the whole
line-of-all : (js : List Share) (n c : ℕ) (F : PrenexFormula) (p : Parsed) → AreDealt js → LineFails n c F p → (j : Share) × IsIn j js × ShareLineFails j n c F p
line-of-all js n c F p d (inl (at, r, l)) =
    let o = bad-told js standard 0 F (steps_of p.steps) at (Some c) d r in
    (o.0, o.1, inl (at, o.2, l))
line-of-all js n c F p d (inr ((at, r), f)) =
    let o = bad-told js standard 0 F (steps_of p.steps) at None d r in
    (o.0, o.1, inr ((at, o.2), f))

pub line-told : (js : List Share) (k c : ℕ) (n : DisproveFiles) (binary : Bool) (disk : Disk) → AreDealt js → Says (outcome.RefusedLine k c) n binary disk →
    (j : Share) × IsIn j js × PartSays j (shared.RefusedLine k c) n binary disk
line-told js k c n binary disk d h =
    let o = line-of-all js k c h.formula (proof_of binary (bytes_at disk n.proof)) d h.holds in
    (o.0, o.1, record { formula = h.formula; is_input = h.is_input; holds = o.2 })

-- where all steps are made, each line with a step stands before the end
at-end : (m : Limits) (F : PrenexFormula) (ss : List ProofStep) (at : ℕ) → RefusedAt false m F ss at None → at ≡ length ss
at-end m F [] at (u, z, e) = z
at-end m F (s ∷ ss) at (u, inl (z, (n, c, e))) = absurd (cc)
at-end m F (s ∷ ss) at (u, inr (v, (k, r, e))) = let i : k ≡ length ss = at-end m (after F s) ss k r in omega (arith, e, i)

on-step : (es : List Entry) (at line : ℕ) → IsOnLine es at line → at < length (steps_of es)
on-step [] at line h = absurd h
on-step (e ∷ es) zero line h = omega arith
on-step (e ∷ es) (suc at) line h = let i : at < length (steps_of es) = on-step es at line h in omega (arith, i)

-- an offence has one line
one-line : (r : Option LogError) (n c m d : ℕ) → IsOffence r n c → IsOffence r m d → n ≤ m
one-line None n c m d a b = absurd a
one-line (Some (BadLine k)) n c m d a b = let x : n ≡ k = a.0 in let y : m ≡ k = b.0 in omega (arith, x, y)
one-line (Some (Limit k)) n c m d a b = let x : n ≡ k = a.0 in let y : m ≡ k = b.0 in omega (arith, x, y)
one-line (Some NoMemory) n c m d a b = absurd a

none-earlier : (j : Share) (n c m d : ℕ) (F : PrenexFormula) (p : Parsed) → Rises 1 p.steps p.refused → LineFails n c F p → ShareLineFails j m d F p → n ≤ m
none-earlier j n c m d F p f (inl (at, r, l)) (inl (other, x, k)) =
    lines-rise 1 p.steps p.refused f at other n m (none-before j standard 0 F (steps_of p.steps) at other (Some c) (Some d) r x) l k
none-earlier j n c m d F p f (inl (at, r, l)) (inr ((other, x), o)) = line-from 1 p.steps p.refused f at n m d l o
none-earlier j n c m d F p f (inr ((at, r), o)) (inl (other, x, k)) =
    let h : at ≤ other = none-before j standard 0 F (steps_of p.steps) at other None (Some d) r x in
    let e : at ≡ length (steps_of p.steps) = at-end standard F (steps_of p.steps) at r in
    let q : other < length (steps_of p.steps) = on-step p.steps other m k in
    absurd (omega (arith, h, e, q))
none-earlier j n c m d F p f (inr ((at, r), o)) (inr ((other, x), q)) = one-line p.refused n c m d o q

pub line-least : (j : Share) (k c own other : ℕ) (n : DisproveFiles) (binary : Bool) (disk : Disk) → Says (outcome.RefusedLine k c) n binary disk →
    PartSays j (shared.RefusedLine own other) n binary disk → k ≤ own
line-least j k c own other n binary disk h w =
    none-earlier j k c own other h.formula (proof_of binary (bytes_at disk n.proof)) (proof-rises binary standard.bytes (bytes_at disk n.proof)) h.holds
    (subst (λ (F : PrenexFormula). ShareLineFails j own other F (proof_of binary (bytes_at disk n.proof)))
    (one_formula (bytes_at disk n.input) w.formula h.formula w.is_input h.is_input) w.holds)

-- where the end is refused, each part refuses it
pub end-of-all : (j : Share) (n : DisproveFiles) (binary : Bool) (disk : Disk) → Says outcome.RefusedEnd n binary disk →
    PartSays j (shared.RefusedEnd 11) n binary disk
end-of-all j n binary disk h =
    let f = h.holds in (
      refl,
      record {
        formula = h.formula;
        is_input = h.is_input;
        holds = ((f.0.0, end-told j standard 0 h.formula (steps_of (proof_of binary (bytes_at disk n.proof)).steps) f.0.0 f.0.1), f.1);
      },
    )

-- a log with hints is a refutation without them too
hinted-bare : (binary : Bool) (bytes : List ℕ) → is_hinted binary bytes ≡ true →
    steps_of (proof_of binary bytes).steps ≡ strip (hinted_of (hinted_proof binary bytes))
hinted-bare binary bytes h =
    ap (λ (es : List BothEntry). steps_of (bare es)) (hinted-entries binary bytes h)
    ∙ (ap steps_of (bare-hinted (hinted_proof binary bytes)) ∙ stripped-steps (hinted_proof binary bytes))

told-bare : (m : ℕ) (binary : Bool) (bytes : List ℕ) (F : PrenexFormula) → Tells (outcome.False m) binary bytes F → IsRefutation F (proof_of binary bytes)
told-bare m binary bytes F h = go (is_hinted binary bytes) refl h
  where
    go : (b : Bool) → is_hinted binary bytes ≡ b →
        judged b (HintedSays (outcome.False m) F (hinted_proof binary bytes) (offence_in binary bytes)) (SaysOf (outcome.False m) F (proof_of binary bytes)) →
        IsRefutation F (proof_of binary bytes)
    go true e h =
        subst (λ (ss : List ProofStep). Refutes false standard F ss) (sym (hinted-bare binary bytes e))
        (hinted-refutes standard F (hinted_of (hinted_proof binary bytes)) (number-hinted standard (begun F) (hinted_of (hinted_proof binary bytes)) m h))
    go false e h = number-refutes false standard F (steps_of (proof_of binary bytes).steps) m h

pub hinted-disproved : (m : ℕ) (n : DisproveFiles) (binary : Bool) (disk : Disk) → TellsFiles (outcome.False m) n binary disk → OfFiles n binary disk IsRefutation
hinted-disproved m n binary disk h =
    record { formula = h.formula; is_input = h.is_input; holds = told-bare m binary (bytes_at disk n.proof) h.formula h.holds }

pub hinted-parts : (j : Share) (m : ℕ) (n : DisproveFiles) (binary : Bool) (disk : Disk) → TellsFiles (outcome.False m) n binary disk →
    (k : ℕ) × PartSays j (shared.Verified k) n binary disk
hinted-parts j m n binary disk h =
    let ss : List ProofStep = steps_of (proof_of binary (bytes_at disk n.proof)).steps in
    let r = shared-number j standard 0 h.formula ss (refutes-shared j standard 0 h.formula ss (told-bare m binary (bytes_at disk n.proof) h.formula h.holds)) in
    (r.0, record { formula = h.formula; is_input = h.is_input; holds = r.1 })
