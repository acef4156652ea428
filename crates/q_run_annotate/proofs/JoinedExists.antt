-- There is such a text: the lines of the parts can be taken in this order.
use Rattle.std.proofs.Common.{◌≡◌, ◌+◌, ◌∙◌, refl, sym, ap, subst, arith, ℕ, Bool, true, false, cond, List, [], ◌∷◌, ◌++◌, Some}
use Rattle.std.proofs.lemmas.Option.{same_Some}
use Rattle.std.specs.List.{AllByRecursion}
use Rattle.q_logic.specs.Prelude.{PrenexFormula, Hinted, ProofStep, strip, standard}
use Rattle.q_shares.specs.Shares.{Share, AreDealt, shares_of, judged}
use Rattle.q_log.specs.Logs.{Steps}
use Rattle.q_log.specs.Texts.{IsLogged}
use Rattle.q_hinted.specs.Texts.{header_text, hinted_text}
use Rattle.q_command.specs.Logs.{Entry, steps_of}
use Rattle.q_run_annotate.specs.AnnotatedShares.{IsShareAnnotation, lines_in}
use Rattle.q_run_annotate.specs.JoinedParts.{AreAnnotations, AreEmpty, AreJoined, AreRows, AreTaken, Rows, TakesLine, lines_of, text_of}
use Rattle.q_run_annotate.proofs.AnnotatedLog.{read-logged}
use Rattle.q_run_annotate.proofs.JoinedLines.{header-first}
use Rattle.q_run_annotate.proofs.JoinedParts.{lines-cut, own_lines}

-- each row has the lines of a share for the steps that are left, of which the first has the number k
record HasLines (j : Share) (k : ℕ) (ss : List ProofStep) (row : List (List ℕ)) : Type 0 where
  hinted : List Hinted
  steps : strip hinted ≡ ss
  row_is : row ≡ own_lines j k hinted

abbrev HaveLines : List Share → ℕ → List ProofStep → Rows → Type 0
HaveLines [] k ss [] = Unit {0}
HaveLines [] k ss (r ∷ rs) = ⊥
HaveLines (j ∷ js) k ss [] = ⊥
HaveLines (j ∷ js) k ss (r ∷ rs) = HasLines j k ss r × HaveLines js k ss rs

-- a row where the next step is another's
others-step : (j : Share) (k : ℕ) (s : ProofStep) (ss : List ProofStep) (r : List (List ℕ)) → j k ≡ false → HasLines j k (s ∷ ss) r → HasLines j (k + 1) ss r
others-step j k s ss r f a = cut a.hinted a.steps a.row_is
  where
    cut : (hs : List Hinted) → strip hs ≡ s ∷ ss → r ≡ own_lines j k hs → HasLines j (k + 1) ss r
    cut [] q x = absurd (cc)
    cut (h ∷ hs) q x = record {
      hinted = hs;
      steps = cc;
      row_is = x ∙ ap (λ (b : Bool). cond b (hinted_text h.step h.proof ∷ own_lines j (k + 1) hs) (own_lines j (k + 1) hs)) f;
    }

-- a row whose first line is that of the next step
record Begins (j : Share) (k : ℕ) (ss : List ProofStep) (r : List (List ℕ)) : Type 0 where
  line : List ℕ
  rest : List (List ℕ)
  row_is : r ≡ line ∷ rest
  lines : HasLines j (k + 1) ss rest

own-step : (j : Share) (k : ℕ) (s : ProofStep) (ss : List ProofStep) (r : List (List ℕ)) → j k ≡ true → HasLines j k (s ∷ ss) r → Begins j k ss r
own-step j k s ss r f a = cut a.hinted a.steps a.row_is
  where
    cut : (hs : List Hinted) → strip hs ≡ s ∷ ss → r ≡ own_lines j k hs → Begins j k ss r
    cut [] q x = absurd (cc)
    cut (h ∷ hs) q x = record {
      line = hinted_text h.step h.proof;
      rest = own_lines j (k + 1) hs;
      row_is = x ∙ ap (λ (b : Bool). cond b (hinted_text h.step h.proof ∷ own_lines j (k + 1) hs) (own_lines j (k + 1) hs)) f;
      lines = record { hinted = hs; steps = cc; row_is = refl };
    }

module _ (k : ℕ) (s : ProofStep) (ss : List ProofStep) where
  -- where nobody has the step all rows stay
  all-stay : (l : List ℕ) (js : List Share) (rs : Rows) → shares_of js k ≡ 0 → HaveLines js k (s ∷ ss) rs → TakesLine js k l rs rs × HaveLines js (k + 1) ss rs
  all-stay l [] [] z a = (tt, tt)
  all-stay l [] (r ∷ rs) z a = absurd a
  all-stay l (j ∷ js) [] z a = absurd a
  all-stay l (j ∷ js) (r ∷ rs) z a = go (j k) refl z (all-stay l js rs)
    where
      go : (b : Bool) → j k ≡ b → cond b (shares_of js k + 1) (shares_of js k) ≡ 0 → (shares_of js k ≡ 0 → HaveLines js k (s ∷ ss) rs → TakesLine js k l rs rs × HaveLines js (k + 1) ss rs) →
          (judged b (r ≡ l ∷ r) (r ≡ r) × TakesLine js k l rs rs) × (HasLines j (k + 1) ss r × HaveLines js (k + 1) ss rs)
      go true f y more = absurd (omega (arith, y))
      go false f y more =
          let m = more y a.1 in
          ((refl, m.0), (others-step j k s ss r f a.0, m.1))

  record Takes (js : List Share) (rs : Rows) : Type 0 where
    line : List ℕ
    rest : Rows
    taken : TakesLine js k line rs rest
    lines : HaveLines js (k + 1) ss rest

  one-takes : (js : List Share) (rs : Rows) → shares_of js k ≡ 1 → HaveLines js k (s ∷ ss) rs → Takes js rs
  one-takes [] rs z a = absurd (cc)
  one-takes (j ∷ js) [] z a = absurd a
  one-takes (j ∷ js) (r ∷ rs) z a = go (j k) refl z (one-takes js rs)
    where
      with : (b : Bool) → j k ≡ b → (l : List ℕ) (n : List (List ℕ)) → judged b (r ≡ l ∷ n) (r ≡ n) → judged (j k) (r ≡ l ∷ n) (r ≡ n)
      with b f l n h = subst (λ (c : Bool). judged c (r ≡ l ∷ n) (r ≡ n)) (sym f) h

      go : (b : Bool) → j k ≡ b → cond b (shares_of js k + 1) (shares_of js k) ≡ 1 → (shares_of js k ≡ 1 → HaveLines js k (s ∷ ss) rs → Takes js rs) → Takes (j ∷ js) (r ∷ rs)
      go true f y more =
          let o = own-step j k s ss r f a.0 in
          let m = all-stay o.line js rs (omega (arith, y)) a.1 in
          record { line = o.line; rest = o.rest ∷ rs; taken = (with true f o.line o.rest o.row_is, m.0); lines = (o.lines, m.1) }
      go false f y more =
          let m = more y a.1 in
          record { line = m.line; rest = r ∷ m.rest; taken = (with false f m.line r refl, m.taken); lines = (others-step j k s ss r f a.0, m.lines) }

-- behind the last step all rows are empty
all-empty : (k : ℕ) (js : List Share) (rs : Rows) → HaveLines js k [] rs → AreEmpty rs
all-empty k [] [] a = tt
all-empty k [] (r ∷ rs) a = absurd a
all-empty k (j ∷ js) [] a = absurd a
all-empty k (j ∷ js) (r ∷ rs) a = (none a.0.hinted a.0.steps a.0.row_is, all-empty k js rs a.1)
  where
    none : (hs : List Hinted) → strip hs ≡ [] → r ≡ own_lines j k hs → r ≡ []
    none [] q x = x
    none (h ∷ hs) q x = absurd (cc)

all-taken : (js : List Share) → AreDealt js → (k : ℕ) (ss : List ProofStep) (rs : Rows) → HaveLines js k ss rs → (lines : List (List ℕ)) × AreTaken js k rs lines
all-taken js d k [] rs a = ([], all-empty k js rs a)
all-taken js d k (s ∷ ss) rs a =
    let t = one-takes k s ss js rs (d k) a in
    let m = all-taken js d (k + 1) ss t.rest t.lines in
    (t.line ∷ m.0, (t.rest, t.taken, m.1))

module _ (log : List ℕ) (F G : PrenexFormula) (es : List Entry) (is_log : Steps standard.bytes log ≡ Some es) where
  -- the rows of what the parts have written
  row-of : (j : Share) (k : ℕ) (t : List ℕ) → IsShareAnnotation j log k F G t → (r : List (List ℕ)) × (lines_of t ≡ cond (j 0) (header_text ∷ r) r) × HasLines j 0 (steps_of es) r
  row-of j k t x =
      let h = x.hinted in
      let same : x.entries ≡ es = same_Some x.entries es (sym x.is_log ∙ is_log) in
      let steps : strip h.hinted ≡ steps_of es = h.steps ∙ ap steps_of same in
      let logged : AllByRecursion IsLogged (strip h.hinted) = subst (λ (ss : List ProofStep). AllByRecursion IsLogged ss) (sym steps) (read-logged log es is_log) in
      (own_lines j 0 h.hinted, ap lines_of h.text_is ∙ go (j 0) (lines-cut j 0 h.hinted logged h.parts), record { hinted = h.hinted; steps = steps; row_is = refl })
    where
      go : (b : Bool) → lines_of (lines_in j 0 x.hinted.hinted) ≡ own_lines j 0 x.hinted.hinted →
          lines_of (cond b header_text [] ++ lines_in j 0 x.hinted.hinted) ≡ cond b (header_text ∷ own_lines j 0 x.hinted.hinted) (own_lines j 0 x.hinted.hinted)
      go true e = header-first (lines_in j 0 x.hinted.hinted) ∙ ap (λ (ls : List (List ℕ)). header_text ∷ ls) e
      go false e = e

  rows-of : (js : List Share) (ks : List ℕ) (texts : List (List ℕ)) → AreAnnotations js ks log F G texts → (rs : Rows) × AreRows js texts rs × HaveLines js 0 (steps_of es) rs
  rows-of [] [] [] x = ([], tt, tt)
  rows-of [] [] (t ∷ texts) x = absurd x
  rows-of [] (k ∷ ks) texts x = absurd x
  rows-of (j ∷ js) [] texts x = absurd x
  rows-of (j ∷ js) (k ∷ ks) [] x = absurd x
  rows-of (j ∷ js) (k ∷ ks) (t ∷ texts) x =
      let r = row-of j k t x.0 in
      let m = rows-of js ks texts x.1 in
      (r.0 ∷ m.0, (r.1, m.1), (r.2, m.2))

  joined-text : (js : List Share) → AreDealt js → (ks : List ℕ) (texts : List (List ℕ)) → AreAnnotations js ks log F G texts → (text : List ℕ) × AreJoined js texts text
  joined-text js d ks texts x =
      let r = rows-of js ks texts x in
      let t = all-taken js d 0 (steps_of es) r.0 r.2 in
      (header_text ++ text_of t.0, record { rows = r.0; are_rows = r.1; lines = t.0; taken = t.1; text_is = refl })

pub can-be-joined : (js : List Share) → AreDealt js → (ks log : List ℕ) (F G : PrenexFormula) (texts : List (List ℕ)) → AreAnnotations js ks log F G texts → (text : List ℕ) × AreJoined js texts text
can-be-joined [] d ks log F G texts x = absurd (let e : shares_of [] 0 ≡ 1 = d 0 in cc)
can-be-joined (j ∷ js) d [] log F G texts x = absurd x
can-be-joined (j ∷ js) d (k ∷ ks) log F G [] x = absurd x
can-be-joined (j ∷ js) d (k ∷ ks) log F G (t ∷ texts) x = joined-text log F G x.0.entries x.0.is_log (j ∷ js) d (k ∷ ks) (t ∷ texts) x
