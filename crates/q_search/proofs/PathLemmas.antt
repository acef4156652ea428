-- Paths that grow, backtrack and shrink.
use Rattle.std.proofs.Common.{◌≡◌, ℕ, ◌+◌, ◌<◌, Bool, true, false, cond, List, [], ◌∷◌, ◌++◌, length, refl, sym, ap, ◌∙◌, arith}
use Rattle.q_logic.specs.declared.formulas.Quant.{Quant}
use Rattle.q_logic.specs.declared.formulas.Bound.{Bound}
use Rattle.q_logic.specs.Prelude.{Prefix, Assignment, with_value, Test, Node, Tally, explored, goes_on, one_more, plus, then_second, by_verdict, leaf}
use Rattle.q_logic.specs.declared.verdict.Verdict.{Verdict}
use Rattle.q_logic.specs.declared.verdict.Verdict.TheVariants.{Lost, Won, Open}
use Rattle.q_search.specs.Paths.{along, rest_of, whole, outlook, said, node_at}

plus-plus : (m n : ℕ) (t : Tally) → plus m (plus n t) ≡ plus (m + n) t
plus-plus m n t = ap (λ k. record { won = t.won; decisions = k; last = t.last }) (omega arith)

then-plus : (q : Quant) (n : ℕ) (s t : Tally) → then_second q (plus n s) t ≡ plus n (then_second q s t)
then-plus q n s t = go (goes_on q s.won)
  where
    go : (c : Bool) → cond c (plus (n + s.decisions) t) (plus n s) ≡ plus n (cond c (plus s.decisions t) s)
    go true = sym (plus-plus n s.decisions t)
    go false = refl

pub whole-plus : (f : Test) (P : Prefix) (vs : List Bool) (A : Assignment) (n : ℕ) (t : Tally) →
    whole f P vs A (plus n t) ≡ plus n (whole f P vs A t)
whole-plus f P [] A n t = refl
whole-plus f [] (v ∷ vs) A n t = refl
whole-plus f (b ∷ P) (false ∷ vs) A n t =
    ap (λ s. then_second b.quant s (explored f P (with_value A b.var true))) (whole-plus f P vs (with_value A b.var false) n t)
    ∙ then-plus b.quant n (whole f P vs (with_value A b.var false) t) (explored f P (with_value A b.var true))
whole-plus f (b ∷ P) (true ∷ vs) A n t = whole-plus f P vs (with_value A b.var true) n t

pub along-more : (P R : Prefix) (b : Bound) (vs : List Bool) (v : Bool) (A : Assignment) → rest_of P vs ≡ b ∷ R →
    along P (vs ++ v ∷ []) A ≡ with_value (along P vs A) b.var v
along-more [] R b [] v A e = absurd (cc)
along-more (c ∷ P) R b [] v A e =
    let h : c ≡ b = cc in go P h
  where
    go : (Q : Prefix) → c ≡ b → along (c ∷ Q) (v ∷ []) A ≡ with_value A b.var v
    go [] h = ap (λ (x : Bound). with_value A x.var v) h
    go (d ∷ Q) h = ap (λ (x : Bound). with_value A x.var v) h
along-more [] R b (w ∷ vs) v A e = absurd (cc)
along-more (c ∷ P) R b (w ∷ vs) v A e = along-more P R b vs v (with_value A c.var w) e

pub rest-more : (P R : Prefix) (b : Bound) (vs : List Bool) (v : Bool) → rest_of P vs ≡ b ∷ R →
    rest_of P (vs ++ v ∷ []) ≡ R
rest-more [] R b [] v e = absurd (cc)
rest-more (c ∷ P) R b [] v e = cc
rest-more [] R b (w ∷ vs) v e = absurd (cc)
rest-more (c ∷ P) R b (w ∷ vs) v e = rest-more P R b vs v e

-- the last value 1 decides
pub whole-true : (f : Test) (P R : Prefix) (b : Bound) (vs : List Bool) (A : Assignment) (t : Tally) →
    rest_of P vs ≡ b ∷ R → whole f P (vs ++ true ∷ []) A t ≡ whole f P vs A t
whole-true f [] R b [] A t e = absurd (cc)
whole-true f (c ∷ P) R b [] A t e = refl
whole-true f [] R b (w ∷ vs) A t e = absurd (cc)
whole-true f (c ∷ P) R b (false ∷ vs) A t e =
    ap (λ s. then_second c.quant s (explored f P (with_value A c.var true))) (whole-true f P R b vs (with_value A c.var false) t e)
whole-true f (c ∷ P) R b (true ∷ vs) A t e = whole-true f P R b vs (with_value A c.var true) t e

-- after the last value 0 the value 1 may come
pub whole-false : (f : Test) (P R : Prefix) (b : Bound) (vs : List Bool) (A : Assignment) (t : Tally) →
    rest_of P vs ≡ b ∷ R →
    whole f P (vs ++ false ∷ []) A t ≡ whole f P vs A (then_second b.quant t (explored f R (with_value (along P vs A) b.var true)))
whole-false f [] R b [] A t e = absurd (cc)
whole-false f (c ∷ P) R b [] A t e =
    let h : c ≡ b = cc in
    let k : P ≡ R = cc in
    ap (λ (x : Bound). then_second x.quant t (explored f P (with_value A x.var true))) h
    ∙ ap (λ Q. then_second b.quant t (explored f Q (with_value A b.var true))) k
whole-false f [] R b (w ∷ vs) A t e = absurd (cc)
whole-false f (c ∷ P) R b (false ∷ vs) A t e =
    ap (λ s. then_second c.quant s (explored f P (with_value A c.var true))) (whole-false f P R b vs (with_value A c.var false) t e)
whole-false f (c ∷ P) R b (true ∷ vs) A t e = whole-false f P R b vs (with_value A c.var true) t e

pub goes_down : (f : Test) (P R : Prefix) (b : Bound) (vs : List Bool) (A : Assignment) →
    rest_of P vs ≡ b ∷ R → f (b ∷ R) (along P vs A) ≡ Open →
    whole f P vs A (explored f (b ∷ R) (along P vs A)) ≡
    one_more (whole f P (vs ++ false ∷ []) A (explored f R (along P (vs ++ false ∷ []) A)))
goes_down f P R b vs A e o =
    ap (λ (v : Verdict). whole f P vs A (by_verdict v (record { rest = b ∷ R; values = along P vs A }) (one_more (then_second b.quant (explored f R (with_value (along P vs A) b.var false)) (explored f R (with_value (along P vs A) b.var true)))))) o
    ∙ whole-plus f P vs A 1 (then_second b.quant (explored f R (with_value (along P vs A) b.var false)) (explored f R (with_value (along P vs A) b.var true)))
    ∙ ap (plus 1) (sym (whole-false f P R b vs A (explored f R (with_value (along P vs A) b.var false)) e))
    ∙ ap (λ (B : Assignment). plus 1 (whole f P (vs ++ false ∷ []) A (explored f R B))) (sym (along-more P R b vs false A e))

pub goes_across : (f : Test) (P R : Prefix) (b : Bound) (vs : List Bool) (A : Assignment) (t : Tally) →
    rest_of P vs ≡ b ∷ R → goes_on b.quant t.won ≡ true →
    whole f P (vs ++ false ∷ []) A t ≡
    plus t.decisions (whole f P (vs ++ true ∷ []) A (explored f R (along P (vs ++ true ∷ []) A)))
goes_across f P R b vs A t e g =
    whole-false f P R b vs A t e
    ∙ ap (λ c. whole f P vs A (cond c (plus t.decisions (explored f R (with_value (along P vs A) b.var true))) t)) g
    ∙ whole-plus f P vs A t.decisions (explored f R (with_value (along P vs A) b.var true))
    ∙ ap (λ (B : Assignment). plus t.decisions (whole f P vs A (explored f R B))) (sym (along-more P R b vs true A e))
    ∙ ap (plus t.decisions) (sym (whole-true f P R b vs A (explored f R (along P (vs ++ true ∷ []) A)) e))

pub goes_up : (f : Test) (P R : Prefix) (b : Bound) (vs : List Bool) (A : Assignment) (t : Tally) →
    rest_of P vs ≡ b ∷ R → goes_on b.quant t.won ≡ false →
    whole f P (vs ++ false ∷ []) A t ≡ whole f P vs A t
goes_up f P R b vs A t e g =
    whole-false f P R b vs A t e
    ∙ ap (λ c. whole f P vs A (cond c (plus t.decisions (explored f R (with_value (along P vs A) b.var true))) t)) g

rest-at : (P : Prefix) (vs : List Bool) → length vs < length P → (b : Bound) × (R : Prefix) × (rest_of P vs ≡ b ∷ R)
rest-at [] vs h = absurd (omega arith)
rest-at (b ∷ P) [] h = (b, P, refl)
rest-at (b ∷ P) (v ∷ vs) h = rest-at P vs (omega arith)

plus-none : (t : Tally) → plus 0 t ≡ t
plus-none t = ap (λ k. record { won = t.won; decisions = k; last = t.last }) (omega arith)

-- A decision is made, and the value 0 is tried.
pub outlook-down : (f : Test) (P : Prefix) (vs : List Bool) (A : Assignment) → length vs < length P → said f P vs A ≡ Open →
    outlook f P vs A ≡ one_more (outlook f P (vs ++ false ∷ []) A)
outlook-down f P vs A l o = go (rest-at P vs l)
  where
    go : (b : Bound) × (R : Prefix) × (rest_of P vs ≡ b ∷ R) → outlook f P vs A ≡ one_more (outlook f P (vs ++ false ∷ []) A)
    go (b, R, e) =
        ap (λ Q. whole f P vs A (explored f Q (along P vs A))) e
        ∙ goes_down f P R b vs A e (sym (ap (λ Q. f Q (along P vs A)) e) ∙ o)
        ∙ ap (λ Q. one_more (whole f P (vs ++ false ∷ []) A (explored f Q (along P (vs ++ false ∷ []) A)))) (sym (rest-more P R b vs false e))

done : (f : Test) (Q : Prefix) (B : Assignment) (v : Verdict) (w : Bool) → ((n : Node) (t : Tally) → by_verdict v n t ≡ leaf w n) → f Q B ≡ v →
    explored f Q B ≡ leaf w (record { rest = Q; values = B })
done f [] B v w h e =
    let n : Node = record { rest = []; values = B } in
    ap (λ x. by_verdict x n (leaf false n)) e ∙ h n (leaf false n)
done f (b ∷ Q) B v w h e =
    let t : Tally = one_more (then_second b.quant (explored f Q (with_value B b.var false)) (explored f Q (with_value B b.var true))) in
    let n : Node = record { rest = b ∷ Q; values = B } in
    ap (λ x. by_verdict x n t) e ∙ h n t

-- Nothing is decided at a node that is won or lost.
pub outlook-won : (f : Test) (P : Prefix) (vs : List Bool) (A : Assignment) → said f P vs A ≡ Won →
    outlook f P vs A ≡ whole f P vs A (leaf true (node_at P vs A))
outlook-won f P vs A h = ap (whole f P vs A) (done f (rest_of P vs) (along P vs A) Won true (λ n t. refl) h)

pub outlook-lost : (f : Test) (P : Prefix) (vs : List Bool) (A : Assignment) → said f P vs A ≡ Lost →
    outlook f P vs A ≡ whole f P vs A (leaf false (node_at P vs A))
outlook-lost f P vs A h = ap (whole f P vs A) (done f (rest_of P vs) (along P vs A) Lost false (λ n t. refl) h)

-- The value 0 is done, and the value 1 is tried.
pub outlook-across : (f : Test) (P R : Prefix) (b : Bound) (vs : List Bool) (A : Assignment) (B : Node) (w : Bool) → rest_of P vs ≡ b ∷ R →
    goes_on b.quant w ≡ true → whole f P (vs ++ false ∷ []) A (leaf w B) ≡ outlook f P (vs ++ true ∷ []) A
outlook-across f P R b vs A B w e g =
    goes_across f P R b vs A (leaf w B) e g
    ∙ plus-none (whole f P (vs ++ true ∷ []) A (explored f R (along P (vs ++ true ∷ []) A)))
    ∙ ap (λ Q. whole f P (vs ++ true ∷ []) A (explored f Q (along P (vs ++ true ∷ []) A))) (sym (rest-more P R b vs true e))
