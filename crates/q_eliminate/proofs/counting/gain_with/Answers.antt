use Rattle.std.proofs.Common.{◌≡◌, ◌<◌, ◌≤◌, ◌+◌, ◌∷◌, [], ℕ, length, drop, Option, None, Some, refl, sym, ap, ◌∙◌, subst, arith}
use Rattle.q_logic.specs.Prelude.{Matrix, without, live, clauses_at, union}
use Rattle.q_kernel.specs.Prelude.{slots}
use Rattle.q_eliminate.specs.Gains.{joined}
use Rattle.q_eliminate.specs.Plans.{IsPlain}
use Rattle.q_eliminate.proofs.IdWalks.{live-at, all-at}
use Rattle.q_eliminate.proofs.GainCounts.{IsGaining, gaining-more, gaining-passed, gain-none, joined-next_some, joined-next_none, clause-short}
use Rattle.q_eliminate.proofs.counting.gain_with.Goals as goal
use Rattle.q_eliminate.proofs.counting.gain_with.Goals.{in-Some+else-gain-bound, in_default}

pub lits-requires : goal.lits-requires
lits-requires c = live-at (slots c.args.kernel.now) c.args.ids.now c.loop-id.id-index c.requires.live c.loop-id-test.true

pub overflow_add-gain-in-Some : goal.overflow_add-gain-in-Some
overflow_add-gain-in-Some c =
    let N = slots c.args.kernel.now in
    let D = c.lits.result.now in
    let A = c.args.marks.now in
    let r = joined-next_some N c.args.ids.now c.loop-id.id-index A c.args.out D c.loop-id-test.true c.lits.ensures.clause c.in-Some.len c.requires.ordered c.lits.ensures.ordered c.requires.plain_marks
    (all-at IsPlain N c.args.ids.now c.loop-id.id-index D c.loop-id-test.true c.lits.ensures.clause c.requires.plain) (sym c.length_with.ensures ∙ c.in-Some.is) in
    let s = clause-short N (Rattle.std.proofs.Common.get_or c.args.ids.now c.loop-id.id-index 0) D c.lits.ensures.clause in
    let t = c.sound.ensures.size in let w = c.requires.short in let b = c.loop-id.invariant.within in let z = c.requires.small in
    let y = fits c.loop-id.gain.clauses c.loop-id.gain.lits c.in-Some.len (length A) (length D) (Rattle.q_logic.specs.Measure.size_of (live N)) c.args.bound r.2 s t w b z in omega arith
  where
    fits : (a b n x y s m : ℕ) → n ≤ x + y → y + 1 ≤ s → s < 8589934592 → x < 8589934592 → a + b ≤ m → m < 4611686018427387904 → b + n < 18446744073709551616
    fits a b n x y s m p q r t u v = omega arith

pub overflow_add-gain-in-Some-2 : goal.overflow_add-gain-in-Some-2
overflow_add-gain-in-Some-2 c =
    let N = slots c.args.kernel.now in
    let D = c.lits.result.now in
    let A = c.args.marks.now in
    let r = joined-next_some N c.args.ids.now c.loop-id.id-index A c.args.out D c.loop-id-test.true c.lits.ensures.clause c.in-Some.len c.requires.ordered c.lits.ensures.ordered c.requires.plain_marks
    (all-at IsPlain N c.args.ids.now c.loop-id.id-index D c.loop-id-test.true c.lits.ensures.clause c.requires.plain) (sym c.length_with.ensures ∙ c.in-Some.is) in
    let s = clause-short N (Rattle.std.proofs.Common.get_or c.args.ids.now c.loop-id.id-index 0) D c.lits.ensures.clause in
    let y = fits c.loop-id.gain.clauses c.loop-id.gain.lits c.in-Some.len (length A) (length D) (Rattle.q_logic.specs.Measure.size_of (live N)) c.args.bound r.2 s c.sound.ensures.size c.requires.short c.loop-id.invariant.within c.requires.small in omega arith
  where
    fits : (a b n x y s m : ℕ) → n ≤ x + y → y + 1 ≤ s → s < 8589934592 → x < 8589934592 → a + b ≤ m → m < 4611686018427387904 → a + 1 + (b + n) < 18446744073709551616
    fits a b n x y s m p q r t u v = omega arith

pub returns-then-gain-bound : goal.returns-then-gain-bound
returns-then-gain-bound c =
    let N = slots c.args.kernel.now in
    let ids = c.args.ids.now in
    let D = c.lits.result.now in
    let A = c.args.marks.now in
    let m = c.args.out in
    let i = c.loop-id.id-index in
    let r = joined-next_some N ids i A m D c.loop-id-test.true c.lits.ensures.clause c.in-Some.len c.requires.ordered c.lits.ensures.ordered c.requires.plain_marks
    (all-at IsPlain N ids i D c.loop-id-test.true c.lits.ensures.clause c.requires.plain) (sym c.length_with.ensures ∙ c.in-Some.is) in
    let V = joined A m (clauses_at N ids) in
    gain-none c.args.from c.args.bound V
    (gaining-passed c.args.from c.loop-id.gain c.args.bound V (joined A m (clauses_at N (drop (i + 1) ids))) (union A (without m D))
    (let t = c.if-gain-bound.true in let q = r.1 in omega arith)
    (subst (λ (W : Matrix). IsGaining c.args.from c.loop-id.gain c.args.bound V W) r.0 c.loop-id.invariant))

pub loop-id-preserved : goal.loop-id-preserved
loop-id-preserved c =
    let N = slots c.args.kernel.now in
    let ids = c.args.ids.now in
    let D = c.lits.result.now in
    let A = c.args.marks.now in
    let m = c.args.out in
    let i = c.loop-id.id-index in
    let V = joined A m (clauses_at N ids) in
    let W' = joined A m (clauses_at N (drop (i + 1) ids)) in
    elim c.match-length_with.branch [
      | in-Some+else-gain-bound w ↦
          let r = joined-next_some N ids i A m D c.loop-id-test.true c.lits.ensures.clause w.in-Some.len c.requires.ordered c.lits.ensures.ordered c.requires.plain_marks
          (all-at IsPlain N ids i D c.loop-id-test.true c.lits.ensures.clause c.requires.plain) (sym c.length_with.ensures ∙ w.in-Some.is) in
          subst (λ g. IsGaining c.args.from g c.args.bound V W') (sym w.gain-is)
          (gaining-more c.args.from c.loop-id.gain (record { clauses = c.loop-id.gain.clauses + 1; lits = c.loop-id.gain.lits + w.in-Some.len }) c.args.bound V W' (union A (without m D)) refl (ap (λ (n : ℕ). c.loop-id.gain.lits + n) (sym r.1)) (let t = w.if-gain-bound.false in omega arith)
          (subst (λ (W : Matrix). IsGaining c.args.from c.loop-id.gain c.args.bound V W) r.0 c.loop-id.invariant))
      | in_default w ↦
          subst (λ g. IsGaining c.args.from g c.args.bound V W') (sym w.gain-is)
          (subst (λ (W : Matrix). IsGaining c.args.from c.loop-id.gain c.args.bound V W) (joined-next_none N ids i A m D c.loop-id-test.true c.lits.ensures.clause (sym c.length_with.ensures ∙ w.in_default.is)) c.loop-id.invariant)
    ]
