-- `demo` passes where no fault comes.
use Rattle.std.proofs.Common.{◌≡◌, ◌≢◌, ◌≤◌, ◌⊎◌, ◌∙◌, inl, inr, refl, sym, ap, arith, subst, ℕ, true, false, List, [], ◌∷◌, length, Option, Some, None, unwrap_or, IfSome}
use Rattle.q_logic.specs.Prelude.{Rose, standard}
use Rattle.q_dimacs.specs.Dimacs.{Dimacs}
use Rattle.q_dimacs.specs.Writing.{formula_text}
use Rattle.q_gen.specs.Generated.{Generated}
use Rattle.q_io.specs.Files.{Disk, bytes_at}
use Rattle.q_io.proofs.StoreContents.{at_some}
use Rattle.q_simplify.specs.Results.{Simplifies}
use Rattle.q_command.specs.Checks.{IsFileOf, IsVerified, AnswersExactly}
use Rattle.q_command.specs.Names.{ThreeNames}
use Rattle.q_command.specs.Statuses.{passes}
use Rattle.q_command.specs.declared.status.Status.{Status}
use Rattle.q_command.specs.declared.status.Status.TheVariants as status
use Rattle.q_app.specs.declared.words.Scale.{Scale}
use Rattle.q_app.specs.Operands.{Differ}
use Rattle.q_app.specs.Simplifying.{IsEnded, SimplifiesExactly}
use Rattle.q_app.specs.Words.{checking, simplifying, generating, demo, options_of, nothing_set}
use Rattle.q_command.specs.Devices.{Devices, AreLater}
use Rattle.q_command.specs.Told.{Runs, IsFaultless, OrNoMemory}
use Rattle.q_command.proofs.ToldLaws.{wants, exact}
use Rattle.q_app.specs.Told.{told}
use Rattle.q_app.specs.Says.{InTurn}
use Rattle.q_app.specs.Completeness.{IsFaultlessDemo, IsShortLog, DemoCompletesAlways}
use Rattle.q_app.proofs.VerifiedFiles.{AreReread, verified}
use Rattle.q_app.proofs.CommandSequence.{later-still}
use Rattle.q_app.proofs.FaultFree.{laws}

-- the text of a generated formula is read as this formula
abbrev pub AreGenerated : Type 0
AreGenerated = (seed : ℕ) → (size : ℕ) → size ≤ 100000 → Dimacs standard (formula_text (Generated seed size)) (Generated seed size)

rose-over : (a b c d : ℕ) → a ≤ b → c ≤ d → Rose b c → Rose a d
rose-over a b c d h k r = grind (arith, h, k, r)

-- a command that passes did not want memory
passed-memory : (s : Status) → passes s ≡ true → s ≢ status.NoMemory
passed-memory s p e = let w : passes status.NoMemory ≡ true = subst (λ (x : Status). passes x ≡ true) e p in cc

passed-done : (s : Status) → s ≡ status.Done → passes s ≡ false → ⊥
passed-done s e p = let w : passes status.Done ≡ false = subst (λ (x : Status). passes x ≡ false) e p in cc

passed-ended : (s : Status) → IsEnded s → s ≢ status.Spent → passes s ≡ false → ⊥
passed-ended s (inl e) n p = let w : passes status.Done ≡ false = subst (λ (x : Status). passes x ≡ false) e p in cc
passed-ended s (inr (inl e)) n p = let w : passes status.True ≡ false = subst (λ (x : Status). passes x ≡ false) e p in cc
passed-ended s (inr (inr (inl e))) n p = let w : passes status.False ≡ false = subst (λ (x : Status). passes x ≡ false) e p in cc
passed-ended s (inr (inr (inr e))) n p = n e

module _ (reread : AreReread) (made : AreGenerated) (k : Scale) (n : ThreeNames) (before after : Devices) (small : k.size ≤ 100000) (d : Differ n) (q : IsFaultlessDemo n before after) (short : IsShortLog n.log after.held) where
  -- no part of a run without a fault has one
  making-faultless : (b : Devices) → AreLater b after → IsFaultless (told (generating k n.input)) before b
  making-faultless b m = record {
    reads = λ r. r;
    writes = λ r. q.writes (inl (rose-over _ _ _ _ (omega arith) (m.write n.input) r));
    sink = λ r. q.sink (rose-over _ _ _ _ (omega arith) m.sink r);
  }

  simplifying-faultless : (a b : Devices) → AreLater before a → AreLater b after → IsFaultless (told (simplifying n (options_of nothing_set))) a b
  simplifying-faultless a b l m = record {
    reads = λ r. q.reads (inl (rose-over _ _ _ _ (l.read n.input) (m.read n.input) r));
    writes = λ r. elim r [
      | inl o ↦ q.writes (inr (inl (rose-over _ _ _ _ (l.write n.output) (m.write n.output) o)))
      | inr o ↦ q.writes (inr (inr (rose-over _ _ _ _ (l.write n.log) (m.write n.log) o)))
    ];
    sink = λ r. q.sink (rose-over _ _ _ _ l.sink m.sink r);
  }

  checking-faultless : (a : Devices) → AreLater before a → IsFaultless (told (checking n)) a after
  checking-faultless a l = record {
    reads = λ r. elim r [
      | inl o ↦ q.reads (inl (rose-over _ _ _ _ (l.read n.input) (omega arith) o))
      | inr (inl o) ↦ q.reads (inr (inl (rose-over _ _ _ _ (l.read n.output) (omega arith) o)))
      | inr (inr o) ↦ q.reads (inr (inr (rose-over _ _ _ _ (l.read n.log) (omega arith) o)))
    ];
    writes = λ r. r;
    sink = λ r. q.sink (rose-over _ _ _ _ l.sink (omega arith) r);
  }

  -- the log is the one that was written, so it is verified
  checked : (given second : Status) (a b : Devices) (one : Disk) → a.held ≡ Some one → AreLater before b → SimplifiesExactly second (options_of nothing_set) n.input n.output n.log one b.held → IsEnded second → Runs (told (checking n)) b given after → OrNoMemory given status.Done
  checked given second a b one t l x e r =
      let w = x.ended e in
      let s = w.1.2 in
      let two : Disk = s.disk in
      let stands : b.held ≡ Some two = s.told in
      let limit : length (bytes_at two n.log) ≤ 1099511627776 = short two (r.unchanged ∙ stands) in
      let good : IsVerified (bytes_at two n.input) (bytes_at two n.output) (bytes_at two n.log) =
      verified reread (options_of nothing_set) w.1.0 w.0 n.input n.output n.log one two d.input_output d.input_log w.1.1 (subst (λ (o : Option Disk). Simplifies (options_of nothing_set) w.1.0 w.0 n.output n.log one o) stands s) limit in
      let g : AnswersExactly given (bytes_at two n.input) (bytes_at two n.output) (bytes_at two n.log) = at_some _ b.held r.gives two stands in
      exact given status.Done _ (wants (told (checking n)) b given after r (checking-faultless b l)) g.verified good

  -- from the simplification on
  simplified : (given : Status) (a : Devices) (one : Disk) → a.held ≡ Some one → AreLater before a → IsFileOf (bytes_at one n.input) (Generated k.seed k.size) → InTurn (simplifying n (options_of nothing_set) ∷ checking n ∷ []) a given after → OrNoMemory given status.Done
  simplified given a one t l f (second, b, r, u, v, rest) =
      let x : SimplifiesExactly second (options_of nothing_set) n.input n.output n.log one b.held = at_some _ a.held r.gives one t in
      let m = wants (told (simplifying n (options_of nothing_set))) a second b r (simplifying-faultless a b l v) in
      let y = (laws (simplifying n (options_of nothing_set))).answers second one b.held m x (Generated k.seed k.size) f in
      go y.0 (y.1 tt) x rest
    where
      go : (IsEnded second ⊎ (second ≡ status.NoMemory)) → second ≢ status.Spent → SimplifiesExactly second (options_of nothing_set) n.input n.output n.log one b.held → ((passes second ≡ true) × InTurn (checking n ∷ []) b given after) ⊎ ((passes second ≡ false) × (given ≡ second) × (after ≡ b)) → OrNoMemory given status.Done
      go (inl e) s x (inl (p, i)) = checked given second a b one t (later-still before a b l u) x e i
      go (inl e) s x (inr (p, g, w)) = absurd (passed-ended second e s p)
      go (inr e) s x (inl (p, i)) = absurd (passed-memory second p e)
      go (inr e) s x (inr (p, g, w)) = inr (g ∙ e)

  -- the whole
  shown : (given : Status) (disk : Disk) → before.held ≡ Some disk → InTurn (demo k n) before given after → OrNoMemory given status.Done
  shown given disk t (first, a, r, u, v, rest) =
      let x = at_some _ before.held r.gives disk t in
      let m = wants (told (generating k n.input)) before first a r (making-faultless a v) in
      go ((laws (generating k n.input)).answers first disk a.held m x) rest
    where
      go : OrNoMemory first status.Done → ((passes first ≡ true) × InTurn (simplifying n (options_of nothing_set) ∷ checking n ∷ []) a given after) ⊎ ((passes first ≡ false) × (given ≡ first) × (after ≡ a)) → OrNoMemory given status.Done
      go (inl e) (inl (p, i)) =
          let x = at_some _ before.held r.gives disk t in
          let h = x.done e in
          let b : bytes_at h.disk n.input ≡ formula_text (Generated k.seed k.size) = ap (λ o. unwrap_or o []) h.bytes in
          simplified given a h.disk h.told u (subst (λ (xs : List ℕ). IsFileOf xs (Generated k.seed k.size)) (sym b) (made k.seed k.size small)) i
      go (inl e) (inr (p, g, w)) = absurd (passed-done first e p)
      go (inr e) (inl (p, i)) = absurd (passed-memory first p e)
      go (inr e) (inr (p, g, w)) = inr (g ∙ e)

pub demo-completes : AreReread → AreGenerated → DemoCompletesAlways
demo-completes reread made k n before given after small d h =
    each before.held refl
  where
    each : (o : Option Disk) → before.held ≡ o → IfSome o (λ disk. IsFaultlessDemo n before after → IsShortLog n.log after.held → OrNoMemory given status.Done)
    each None e = tt
    each (Some disk) e = λ q short. shown reread made k n before after small d q short given disk e h
