-- The lines of all parts, joined, are a log with hints.
use Rattle.std.proofs.Common.{◌≡◌, ◌≤◌, ◌+◌, ◌∙◌, refl, sym, ap, subst, arith, ℕ, zero, suc, Bool, true, false, cond, List, [], ◌∷◌, ◌++◌, length, sum, Some, None}
use Rattle.std.proofs.lemmas.List.Sums.{sum_by-cons}
use Rattle.std.proofs.lemmas.Option.{same_Some}
use Rattle.std.specs.List.{AllByRecursion}
use Rattle.q_logic.specs.Prelude.{PrenexFormula, NumberedFormula, Clause, Slots, Matrix, Hinted, HintedSteps, HintedValid, ProofPart, IsIn, AreAlike, SameFormula, begun, plain, hinted_after, after, copies, slot, live, strip, standard, kind_of, ProofStep}
use Rattle.q_logic.specs.Steps.{add, delete, drop_literal, fresh, remove_variable, clause_eq}
use Rattle.q_logic.proofs.Common.{clause_eq-itself, IsIn-copies, alike_after}
use Rattle.q_logic.proofs.HintedRuns.{hinted-after}
use Rattle.q_logic.proofs.NumberedClauses.{live-slot}
use Rattle.q_same_steps.specs.HintedMaking.{HintedApplies, hinted_made}
use Rattle.q_shares.specs.Shares.{Share, AreDealt, count, counts, shares_of, judged}
use Rattle.q_shares.specs.HintedShares.{AreHintedMade}
use Rattle.q_shares.proofs.SharedRuns.{counts-sum}
use Rattle.q_shares.proofs.HintedSharedRuns.{hinted_valid-applies}
use Rattle.q_log.specs.Logs.{Steps}
use Rattle.q_log.specs.Texts.{IsLogged}
use Rattle.q_hinted.specs.Parts.{IsPartOf}
use Rattle.q_hinted.specs.Texts.{header_text, hinted_text, lines_text}
use Rattle.q_command.specs.Logs.{Entry, steps_of}
use Rattle.q_command.proofs.BothCheckers.{plain-begun}
use Rattle.q_command.proofs.LogEntries.{steps_of-length}
use Rattle.q_run_annotate.specs.Annotates.{IsAnnotation}
use Rattle.q_run_annotate.specs.AnnotatedShares.{AreWritable, IsShareAnnotation, line_if, lines_in}
use Rattle.q_run_annotate.specs.JoinedParts.{AreAnnotations, AreEmpty, AreJoined, AreRows, AreSingle, AreTaken, IsHintedLogOf, Rows, TakesLine, lines_of, text_of}
use Rattle.q_run_annotate.proofs.AnnotatedLog.{read-logged}
use Rattle.q_run_annotate.proofs.JoinedLines.{header-first, line-first}

-- the lines of a share, one by one
abbrev pub own_lines : Share → ℕ → List Hinted → List (List ℕ)
own_lines j k [] = []
own_lines j k (h ∷ hs) = cond (j k) (hinted_text h.step h.proof ∷ own_lines j (k + 1) hs) (own_lines j (k + 1) hs)

pub lines-cut : (j : Share) (k : ℕ) (hs : List Hinted) → AllByRecursion IsLogged (strip hs) → AreWritable j k hs → lines_of (lines_in j k hs) ≡ own_lines j k hs
lines-cut j k [] l w = refl
lines-cut j k (h ∷ hs) l w = go (j k) w.0 (lines-cut j (k + 1) hs l.1 w.1)
  where
    go : (b : Bool) → judged b (IsPartOf (kind_of h.step) h.proof) (Unit {0}) → lines_of (lines_in j (k + 1) hs) ≡ own_lines j (k + 1) hs →
        lines_of (line_if b h.step h.proof ++ lines_in j (k + 1) hs) ≡ cond b (hinted_text h.step h.proof ∷ own_lines j (k + 1) hs) (own_lines j (k + 1) hs)
    go true p rest = line-first h.step h.proof (lines_in j (k + 1) hs) l.0 p ∙ ap (λ (ls : List (List ℕ)). hinted_text h.step h.proof ∷ ls) rest
    go false p rest = rest

-- each number of a clause is its own
abbrev AreApart : NumberedFormula → Type 0
AreApart N = (n m : ℕ) (C : Clause) → slot N.slots n ≡ Some C → slot N.slots m ≡ Some C → n ≡ m

-- whose steps are made on the same formula, as it may be with several numbers of one clause, has the same behind them
same-after : (N : NumberedFormula) (s : ProofStep) (t u : ProofPart) → AreApart N → HintedApplies standard N s t → HintedApplies standard N s u → hinted_after N s t ≡ hinted_after N s u
same-after N (add p C) t u a h g = refl
same-after N (delete p C) t u a h g = ap (λ (n : ℕ). hinted_after N (delete p C) (record t { number = n })) (a t.number u.number C h.1 g.1)
same-after N (drop_literal l C) t u a h g = ap (λ (n : ℕ). hinted_after N (drop_literal l C) (record t { number = n })) (a t.number u.number C h.1 g.1)
same-after N (fresh v w) t u a h g = refl
same-after N (remove_variable v) t u a h g = refl

-- a part has proof parts for the steps that are left, of which the first has the number k, and their lines
record IsLeft (j : Share) (k : ℕ) (G : PrenexFormula) (ss : List ProofStep) (row : List (List ℕ)) : Type 0 where
  formula : NumberedFormula
  hinted : List Hinted
  made : AreHintedMade j standard k formula hinted
  ends : SameFormula (plain (hinted_made formula hinted)) G
  steps : strip hinted ≡ ss
  parts : AreWritable j k hinted
  row_is : row ≡ own_lines j k hinted

abbrev AreLeft : List Share → ℕ → PrenexFormula → List ProofStep → Rows → Type 0
AreLeft [] k G ss rs = Unit {0}
AreLeft (j ∷ js) k G ss [] = ⊥
AreLeft (j ∷ js) k G ss (r ∷ rs) = IsLeft j k G ss r × AreLeft js k G ss rs

-- all stand at the formula N
abbrev AreAt : (js : List Share) (k : ℕ) (G : PrenexFormula) (ss : List ProofStep) (rs : Rows) → AreLeft js k G ss rs → NumberedFormula → Type 0
AreAt [] k G ss rs a N = Unit {0}
AreAt (j ∷ js) k G ss [] a N = ⊥
AreAt (j ∷ js) k G ss (r ∷ rs) a N = (a.0.formula ≡ N) × AreAt js k G ss rs a.1 N

-- the next step of one part
record IsNext (j : Share) (k : ℕ) (G : PrenexFormula) (s : ProofStep) (ss : List ProofStep) (l : List ℕ) (r n : List (List ℕ)) (a : IsLeft j k G (s ∷ ss) r) : Type 0 where
  left : IsLeft j (k + 1) G ss n
  proof : ProofPart
  applies : HintedApplies standard a.formula s proof
  after : left.formula ≡ hinted_after a.formula s proof
  own : j k ≡ true → IsPartOf (kind_of s) proof × (l ≡ hinted_text s proof) × HintedValid standard a.formula s proof

module _ (j : Share) (k : ℕ) (G : PrenexFormula) (s : ProofStep) (ss : List ProofStep) (l : List ℕ) (r n : List (List ℕ)) where
  next-of : (a : IsLeft j k G (s ∷ ss) r) → judged (j k) (r ≡ l ∷ n) (r ≡ n) → IsNext j k G s ss l r n a
  next-of a t = cut a.hinted a.made a.ends a.steps a.parts a.row_is
    where
      cut : (hs : List Hinted) → AreHintedMade j standard k a.formula hs → SameFormula (plain (hinted_made a.formula hs)) G → strip hs ≡ s ∷ ss → AreWritable j k hs → r ≡ own_lines j k hs → IsNext j k G s ss l r n a
      cut [] m e q w x = absurd (cc)
      cut (h ∷ hs) m e q w x =
          let first : h.step ≡ s = cc in
          let rest : strip hs ≡ ss = cc in
          let taken = take (j k) refl t x in
          record {
            left = record {
              formula = hinted_after a.formula h.step h.proof;
              hinted = hs;
              made = m.1;
              ends = e;
              steps = rest;
              parts = w.1;
              row_is = taken.0;
            };
            proof = h.proof;
            applies = subst (λ (p : ProofStep). HintedApplies standard a.formula p h.proof) first (fits (j k) m.0);
            after = ap (λ (p : ProofStep). hinted_after a.formula p h.proof) first;
            own = λ own. (
              subst (λ (p : ProofStep). IsPartOf (kind_of p) h.proof) first (subst (λ (b : Bool). judged b (IsPartOf (kind_of h.step) h.proof) (Unit {0})) own w.0),
              taken.1 own ∙ ap (λ (p : ProofStep). hinted_text p h.proof) first,
              subst (λ (p : ProofStep). HintedValid standard a.formula p h.proof) first
                  (subst (λ (b : Bool). judged b (HintedValid standard a.formula h.step h.proof) (HintedApplies standard a.formula h.step h.proof)) own m.0),
            );
          }
        where
          fits : (b : Bool) → judged b (HintedValid standard a.formula h.step h.proof) (HintedApplies standard a.formula h.step h.proof) → HintedApplies standard a.formula h.step h.proof
          fits true v = hinted_valid-applies standard a.formula h.step h.proof v
          fits false v = v

          take : (b : Bool) → j k ≡ b → judged b (r ≡ l ∷ n) (r ≡ n) → r ≡ cond b (hinted_text h.step h.proof ∷ own_lines j (k + 1) hs) (own_lines j (k + 1) hs) →
              (n ≡ own_lines j (k + 1) hs) × (j k ≡ true → l ≡ hinted_text h.step h.proof)
          take true f u v = let e : l ∷ n ≡ hinted_text h.step h.proof ∷ own_lines j (k + 1) hs = sym u ∙ v in (cc, λ g. cc)
          take false f u v = (sym u ∙ v, λ g. absurd (let e : false ≡ true = sym f ∙ g in cc))

-- the next step of all parts: one of them shows it
record IsShown (k : ℕ) (js : List Share) (G : PrenexFormula) (s : ProofStep) (ss : List ProofStep) (l : List ℕ) (rs : Rows) (a : AreLeft js k G (s ∷ ss) rs) : Type 0 where
  proof : ProofPart
  part : IsPartOf (kind_of s) proof
  line : l ≡ hinted_text s proof
  valid : (N : NumberedFormula) → AreAt js k G (s ∷ ss) rs a N → HintedValid standard N s proof

record AreNext (js : List Share) (k : ℕ) (G : PrenexFormula) (s : ProofStep) (ss : List ProofStep) (l : List ℕ) (rs ns : Rows) (a : AreLeft js k G (s ∷ ss) rs) : Type 0 where
  left : AreLeft js (k + 1) G ss ns
  shown : 1 ≤ shares_of js k → IsShown k js G s ss l rs a
  same : (N : NumberedFormula) → AreAt js k G (s ∷ ss) rs a N → AreApart N → (t : ProofPart) → HintedApplies standard N s t → AreAt js (k + 1) G ss ns left (hinted_after N s t)

module _ (k : ℕ) (G : PrenexFormula) (s : ProofStep) (ss : List ProofStep) (l : List ℕ) where
  all-next : (js : List Share) (rs ns : Rows) → TakesLine js k l rs ns → (a : AreLeft js k G (s ∷ ss) rs) → AreNext js k G s ss l rs ns a
  all-next [] [] [] t a = record { left = tt; shown = λ h. absurd (omega arith); same = λ N e u p h. tt }
  all-next [] [] (n ∷ ns) t a = absurd t
  all-next [] (r ∷ rs) ns t a = absurd t
  all-next (j ∷ js) [] ns t a = absurd t
  all-next (j ∷ js) (r ∷ rs) [] t a = absurd t
  all-next (j ∷ js) (r ∷ rs) (n ∷ ns) t a =
      let x = next-of j k G s ss l r n a.0 t.0 in
      let y = all-next js rs ns t.1 a.1 in
      record {
        left = (x.left, y.left);
        shown = go (j k) refl x y;
        same = λ N e u p h. (
          x.after ∙ (ap (λ (M : NumberedFormula). hinted_after M s x.proof) e.0 ∙ same-after N s x.proof p u (subst (λ (M : NumberedFormula). HintedApplies standard M s x.proof) e.0 x.applies) h),
          y.same N e.1 u p h,
        );
      }
    where
      go : (b : Bool) → j k ≡ b → IsNext j k G s ss l r n a.0 → AreNext js k G s ss l rs ns a.1 → 1 ≤ cond b (shares_of js k + 1) (shares_of js k) → IsShown k (j ∷ js) G s ss l (r ∷ rs) a
      go true f x y h =
          let o = x.own f in
          record { proof = x.proof; part = o.0; line = o.1; valid = λ N e. subst (λ (M : NumberedFormula). HintedValid standard M s x.proof) e.0 o.2 }
      go false f x y h =
          let z = y.shown h in
          record { proof = z.proof; part = z.part; line = z.line; valid = λ N e. z.valid N e.1 }

-- behind the last step no line is left
no-line-left : (k : ℕ) (G : PrenexFormula) (l : List ℕ) (js : List Share) (rs ns : Rows) → TakesLine js k l rs ns → AreLeft js k G [] rs → 1 ≤ shares_of js k → ⊥
no-line-left k G l [] rs ns t a h = omega arith
no-line-left k G l (j ∷ js) [] ns t a h = a
no-line-left k G l (j ∷ js) (r ∷ rs) [] t a h = t
no-line-left k G l (j ∷ js) (r ∷ rs) (n ∷ ns) t a h = go (j k) t.0 h (no-line-left k G l js rs ns t.1 a.1)
  where
    none : (hs : List Hinted) → strip hs ≡ [] → own_lines j k hs ≡ []
    none [] e = refl
    none (x ∷ hs) e = absurd (cc)

    empty : r ≡ []
    empty = a.0.row_is ∙ none a.0.hinted a.0.steps

    go : (b : Bool) → judged b (r ≡ l ∷ n) (r ≡ n) → 1 ≤ cond b (shares_of js k + 1) (shares_of js k) → (1 ≤ shares_of js k → ⊥) → ⊥
    go true u g others = let e : [] ≡ l ∷ n = sym empty ∙ u in cc
    go false u g others = others g

-- before the last step a line is left
line-left : (k : ℕ) (G : PrenexFormula) (s : ProofStep) (ss : List ProofStep) (js : List Share) (rs : Rows) → AreEmpty rs → AreLeft js k G (s ∷ ss) rs → 1 ≤ shares_of js k → ⊥
line-left k G s ss [] rs e a h = omega arith
line-left k G s ss (j ∷ js) [] e a h = a
line-left k G s ss (j ∷ js) (r ∷ rs) e a h = go (j k) refl h (line-left k G s ss js rs e.1 a.1)
  where
    some : (hs : List Hinted) → strip hs ≡ s ∷ ss → j k ≡ true → own_lines j k hs ≡ [] → ⊥
    some [] q f z = cc
    some (x ∷ hs) q f z =
        let c : cond true (hinted_text x.step x.proof ∷ own_lines j (k + 1) hs) (own_lines j (k + 1) hs) ≡ [] = subst (λ (b : Bool). cond b (hinted_text x.step x.proof ∷ own_lines j (k + 1) hs) (own_lines j (k + 1) hs) ≡ []) f z in
        cc

    go : (b : Bool) → j k ≡ b → 1 ≤ cond b (shares_of js k + 1) (shares_of js k) → (1 ≤ shares_of js k → ⊥) → ⊥
    go true f g others = some a.0.hinted a.0.steps f (sym a.0.row_is ∙ e.0)
    go false f g others = others g

-- behind the last step all stand at G
at-the-end : (k : ℕ) (G : PrenexFormula) (js : List Share) (rs : Rows) (a : AreLeft js k G [] rs) → 1 ≤ shares_of js k → (N : NumberedFormula) → AreAt js k G [] rs a N → SameFormula (plain N) G
at-the-end k G [] rs a h N e = absurd (omega arith)
at-the-end k G (j ∷ js) [] a h N e = absurd a
at-the-end k G (j ∷ js) (r ∷ rs) a h N e = none a.0.hinted a.0.steps a.0.ends
  where
    none : (hs : List Hinted) → strip hs ≡ [] → SameFormula (plain (hinted_made a.0.formula hs)) G → SameFormula (plain N) G
    none [] q s = subst (λ (M : NumberedFormula). SameFormula (plain M) G) e.0 s
    none (x ∷ hs) q s = absurd (cc)

-- no clause has two numbers where none stands twice
copies-more : (C D : Clause) (X : Matrix) → copies C (D ∷ X) ≤ 1 → copies C X ≤ 1
copies-more C D X h = go (clause_eq D C) h
  where
    go : (b : Bool) → cond b (copies C X + 1) (copies C X) ≤ 1 → copies C X ≤ 1
    go true g = omega (arith, g)
    go false g = g

copies-two : (C : Clause) (X : Matrix) → copies C (C ∷ X) ≤ 1 → IsIn C X → ⊥
copies-two C X h i =
    let e : copies C (C ∷ X) ≡ copies C X + 1 = ap (λ (b : Bool). cond b (copies C X + 1) (copies C X)) (clause_eq-itself C) in
    let p = IsIn-copies C X i in
    omega (arith, h, e, p)

slots-apart : (N : Slots) → ((C : Clause) → copies C (live N) ≤ 1) → (n m : ℕ) (C : Clause) → slot N n ≡ Some C → slot N m ≡ Some C → n ≡ m
slots-apart [] h n m C e f = absurd (cc)
slots-apart (o ∷ N) h zero zero C e f = refl
slots-apart (None ∷ N) h zero (suc m) C e f = absurd (cc)
slots-apart (Some D ∷ N) h zero (suc m) C e f =
    let q : D ≡ C = same_Some D C e in
    absurd (copies-two C (live N) (subst (λ (E : Clause). copies C (E ∷ live N) ≤ 1) q (h C)) (live-slot N m C f))
slots-apart (None ∷ N) h (suc n) zero C e f = absurd (cc)
slots-apart (Some D ∷ N) h (suc n) zero C e f =
    let q : D ≡ C = same_Some D C f in
    absurd (copies-two C (live N) (subst (λ (E : Clause). copies C (E ∷ live N) ≤ 1) q (h C)) (live-slot N n C e))
slots-apart (None ∷ N) h (suc n) (suc m) C e f = ap suc (slots-apart N h n m C e f)
slots-apart (Some D ∷ N) h (suc n) (suc m) C e f = ap suc (slots-apart N (λ E. copies-more E D (live N) (h E)) n m C e f)

single-now : (F : PrenexFormula) (ss : List ProofStep) → AreSingle F ss → (C : Clause) → copies C F.matrix ≤ 1
single-now F [] h = h
single-now F (s ∷ ss) h = h.0

alike-single : (F G : PrenexFormula) (ss : List ProofStep) → AreAlike F G → AreSingle F ss → AreSingle G ss
alike-single F G [] a h = λ C. subst (λ (n : ℕ). n ≤ 1) (a.clauses C) (h C)
alike-single F G (s ∷ ss) a h = ((λ C. subst (λ (n : ℕ). n ≤ 1) (a.clauses C) (h.0 C)), alike-single (after F s) (after G s) ss (alike_after F G s a) h.1)

-- the lines that were taken are those of hinted steps
record ArePut (js : List Share) (k : ℕ) (G : PrenexFormula) (ss : List ProofStep) (rs : Rows) (a : AreLeft js k G ss rs) (lines : List (List ℕ)) : Type 0 where
  hinted : List Hinted
  steps : strip hinted ≡ ss
  parts : AllByRecursion (λ h. IsPartOf (kind_of h.step) h.proof) hinted
  text_is : text_of lines ≡ lines_text hinted
  run : (N : NumberedFormula) → AreAt js k G ss rs a N → AreSingle (plain N) ss → HintedSteps standard N hinted (hinted_made N hinted) × SameFormula (plain (hinted_made N hinted)) G

owner : (js : List Share) → AreDealt js → (k : ℕ) → 1 ≤ shares_of js k
owner js d k = let e : shares_of js k ≡ 1 = d k in omega (arith, e)

all-put : (js : List Share) → AreDealt js → (k : ℕ) (G : PrenexFormula) (ss : List ProofStep) (lines : List (List ℕ)) (rs : Rows) → AreTaken js k rs lines → (a : AreLeft js k G ss rs) → ArePut js k G ss rs a lines
all-put js d k G [] [] rs t a = record { hinted = []; steps = refl; parts = tt; text_is = refl; run = λ N e u. (refl, at-the-end k G js rs a (owner js d k) N e) }
all-put js d k G [] (l ∷ ls) rs t a = absurd (no-line-left k G l js rs t.0 t.1 a (owner js d k))
all-put js d k G (s ∷ ss) [] rs t a = absurd (line-left k G s ss js rs t a (owner js d k))
all-put js d k G (s ∷ ss) (l ∷ ls) rs t a =
    let x = all-next k G s ss l js rs t.0 t.1 a in
    let o = x.shown (owner js d k) in
    let h : Hinted = record { step = s; proof = o.proof } in
    let y = all-put js d (k + 1) G ss ls t.0 t.2 x.left in
    record {
      hinted = h ∷ y.hinted;
      steps = ap (λ (xs : List ProofStep). s ∷ xs) y.steps;
      parts = (o.part, y.parts);
      text_is = ap (λ (u : List ℕ). u ++ text_of ls) o.line ∙ ap (λ (u : List ℕ). hinted_text s o.proof ++ u) y.text_is;
      run = λ N e u.
          let v : HintedValid standard N s o.proof = o.valid N e in
          let f : HintedApplies standard N s o.proof = hinted_valid-applies standard N s o.proof v in
          let apart : AreApart N = λ n m C. slots-apart N.slots u.0 n m C in
          let M : NumberedFormula = hinted_after N s o.proof in
          let r = y.run M (x.same N e apart o.proof f) (alike-single (after (plain N) s) (plain M) ss (hinted-after standard N s o.proof v) u.1) in
          ((v, r.0), r.1);
    }

module _ (log : List ℕ) (F G : PrenexFormula) (es : List Entry) (is_log : Steps standard.bytes log ≡ Some es) where
  -- what a part has written, before the first step
  starts : (j : Share) (k : ℕ) (t : List ℕ) (r : List (List ℕ)) → IsShareAnnotation j log k F G t → lines_of t ≡ cond (j 0) (header_text ∷ r) r → (a : IsLeft j 0 G (steps_of es) r) × (a.formula ≡ begun F)
  starts j k t r x e =
      let h = x.hinted in
      let same : x.entries ≡ es = same_Some x.entries es (sym x.is_log ∙ is_log) in
      let steps : strip h.hinted ≡ steps_of es = h.steps ∙ ap steps_of same in
      let logged : AllByRecursion IsLogged (strip h.hinted) = subst (λ (ss : List ProofStep). AllByRecursion IsLogged ss) (sym steps) (read-logged log es is_log) in
      let lines : lines_of (lines_in j 0 h.hinted) ≡ own_lines j 0 h.hinted = lines-cut j 0 h.hinted logged h.parts in (
        record {
          formula = begun F;
          hinted = h.hinted;
          made = h.run.steps;
          ends = h.run.same;
          steps = steps;
          parts = h.parts;
          row_is = go (j 0) (ap lines_of (sym h.text_is) ∙ e) ∙ lines;
        },
        refl,
      )
    where
      own : List ℕ
      own = lines_in j 0 x.hinted.hinted

      go : (b : Bool) → lines_of (cond b header_text [] ++ lines_in j 0 x.hinted.hinted) ≡ cond b (header_text ∷ r) r → r ≡ lines_of (lines_in j 0 x.hinted.hinted)
      go true q = let z : header_text ∷ lines_of (lines_in j 0 x.hinted.hinted) ≡ header_text ∷ r = sym (header-first (lines_in j 0 x.hinted.hinted)) ∙ q in cc
      go false q = sym q

  all-start : (js : List Share) (ks : List ℕ) (texts : List (List ℕ)) (rows : Rows) → AreAnnotations js ks log F G texts → AreRows js texts rows → (a : AreLeft js 0 G (steps_of es) rows) × AreAt js 0 G (steps_of es) rows a (begun F)
  all-start [] [] [] [] x y = (tt, tt)
  all-start [] [] [] (r ∷ rows) x y = absurd y
  all-start [] [] (t ∷ texts) rows x y = absurd x
  all-start [] (k ∷ ks) texts rows x y = absurd x
  all-start (j ∷ js) [] texts rows x y = absurd x
  all-start (j ∷ js) (k ∷ ks) [] rows x y = absurd x
  all-start (j ∷ js) (k ∷ ks) (t ∷ texts) [] x y = absurd y
  all-start (j ∷ js) (k ∷ ks) (t ∷ texts) (r ∷ rows) x y =
      let z = starts j k t r x.0 y.0 in
      let w = all-start js ks texts rows x.1 y.1 in
      ((z.0, w.0), (z.1, w.1))

  -- the numbers that they say
  all-counted : (js : List Share) (ks : List ℕ) (texts : List (List ℕ)) → AreAnnotations js ks log F G texts → sum ks ≡ counts js 0 (steps_of es)
  all-counted [] [] [] x = refl
  all-counted [] [] (t ∷ texts) x = absurd x
  all-counted [] (k ∷ ks) texts x = absurd x
  all-counted (j ∷ js) [] texts x = absurd x
  all-counted (j ∷ js) (k ∷ ks) [] x = absurd x
  all-counted (j ∷ js) (k ∷ ks) (t ∷ texts) x =
      let same : x.0.entries ≡ es = same_Some x.0.entries es (sym x.0.is_log ∙ is_log) in
      let c : k ≡ count j 0 (steps_of es) = x.0.counted ∙ ap (λ (xs : List Entry). count j 0 (steps_of xs)) same in
      let d : sum ks ≡ counts js 0 (steps_of es) = all-counted js ks texts x.1 in
      let f : sum (k ∷ ks) ≡ k + sum ks = sum_by-cons (λ n. n) k ks in
      omega (arith, c, d, f)

  joined-log : (js : List Share) → AreDealt js → (ks : List ℕ) (texts : List (List ℕ)) (text : List ℕ) → AreAnnotations js ks log F G texts → AreJoined js texts text → IsHintedLogOf log F G text
  joined-log js d ks texts text x y =
      let z = all-start js ks texts y.rows x y.are_rows in
      let p = all-put js d 0 G (steps_of es) y.lines y.rows y.taken z.0 in
      record {
        entries = es;
        is_log = is_log;
        hinted = p.hinted;
        steps = p.steps;
        parts = p.parts;
        text_is = y.text_is ∙ ap (λ (t : List ℕ). header_text ++ t) p.text_is;
        run = λ u.
            let r = p.run (begun F) z.1 (subst (λ (E : PrenexFormula). AreSingle E (steps_of es)) (sym (plain-begun F)) u) in
            record { last = hinted_made (begun F) p.hinted; steps = r.0; same = r.1 };
      }

pub joined-parts : (js : List Share) → AreDealt js → (ks log : List ℕ) (F G : PrenexFormula) (texts : List (List ℕ)) (text : List ℕ) → AreAnnotations js ks log F G texts → AreJoined js texts text → IsHintedLogOf log F G text
joined-parts [] d ks log F G texts text x y = absurd (let e : shares_of [] 0 ≡ 1 = d 0 in cc)
joined-parts (j ∷ js) d [] log F G texts text x y = absurd x
joined-parts (j ∷ js) d (k ∷ ks) log F G [] text x y = absurd x
joined-parts (j ∷ js) d (k ∷ ks) log F G (t ∷ texts) text x y = joined-log log F G x.0.entries x.0.is_log (j ∷ js) d (k ∷ ks) (t ∷ texts) text x y

pub parts-counted : (js : List Share) → AreDealt js → (ks log : List ℕ) (F G : PrenexFormula) (texts : List (List ℕ)) (es : List Entry) → AreAnnotations js ks log F G texts → Steps standard.bytes log ≡ Some es → sum ks ≡ length es
parts-counted js d ks log F G texts es x e = all-counted log F G es e js ks texts x ∙ (counts-sum js 0 (steps_of es) d ∙ steps_of-length es)

-- where no clause stands twice, this is what `annotate` may write
pub single-annotation : (log : List ℕ) (F G : PrenexFormula) (text : List ℕ) (h : IsHintedLogOf log F G text) → AreSingle F (steps_of h.entries) → IsAnnotation log (length h.entries) F G text
single-annotation log F G text h u = record {
  entries = h.entries;
  is_log = h.is_log;
  count = refl;
  hinted = record { hinted = h.hinted; run = h.run u; steps = h.steps; parts = h.parts; text_is = h.text_is };
}
