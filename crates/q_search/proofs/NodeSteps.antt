-- From node to node.
use Rattle.std.proofs.Common.{◌≡◌, ℕ, ◌+◌, ◌*◌, ◌<◌, ◌≤◌, Bool, true, false, not, ◌&&◌, List, [], ◌∷◌, ◌++◌, length, Option, refl, sym, ap, ◌∙◌, subst, arith}
use Rattle.q_logic.specs.declared.formulas.Quant.{Quant}
use Rattle.q_logic.specs.declared.formulas.Bound.{Bound}
use Rattle.q_logic.specs.Prelude.{Prefix, Assignment, with_value, Test, Node, Tally, explored, goes_on, one_more, then_second, leaf, nothing}
use Rattle.q_logic.specs.declared.verdict.Verdict.{Verdict}
use Rattle.q_logic.specs.declared.verdict.Verdict.TheVariants.{Lost, Won, Open}
use Rattle.q_search.specs.Paths.{along, rest_of, whole, zeros, outlook, said, node_at}
use Rattle.q_search.specs.Budgets.{IsBelow, IsPayment, IsOnTheWay}
use Rattle.q_search.specs.Walks.{Walk, moved, said_here, IsInner, IsLast, all_of, IsNext, IsEnd, IsTurned, AreUniversal}
use Rattle.q_search.proofs.PathLemmas.{outlook-down, outlook-won, outlook-lost, outlook-across, goes_up, whole-true}
use Rattle.q_search.proofs.BudgetedSearch.{way-start, way-down, way-out, way-end}

pub rest-some : (P R : Prefix) (b : Bound) (vs : List Bool) → rest_of P vs ≡ b ∷ R → length vs < length P
rest-some [] R b [] e = absurd (cc)
rest-some (c ∷ P) R b [] e = omega arith
rest-some [] R b (v ∷ vs) e = absurd (cc)
rest-some (c ∷ P) R b (v ∷ vs) e = let z : length vs < length P = rest-some P R b vs e in omega arith

zeros-true : (vs : List Bool) → zeros (vs ++ true ∷ []) ≡ zeros vs
zeros-true [] = refl
zeros-true (false ∷ vs) = ap (λ n. n + 1) (zeros-true vs)
zeros-true (true ∷ vs) = zeros-true vs

zeros-false : (vs : List Bool) → zeros (vs ++ false ∷ []) ≡ zeros vs + 1
zeros-false [] = refl
zeros-false (false ∷ vs) = ap (λ n. n + 1) (zeros-false vs)
zeros-false (true ∷ vs) = zeros-false vs

-- how a backtrack goes: the same search, no more values 0, and what the first node gives, the present one gives
pub record IsTurning (old now : Walk) (won : Bool) : Type 0 where
  pub same : now ≡ moved old now.path
  pub zeros : zeros now.path ≤ zeros old.path
  pub gives : (n : Node) → whole old.test old.prefix old.path nothing (leaf won n) ≡ whole old.test old.prefix now.path nothing (leaf won n)

pub turning-start : (w : Walk) (won : Bool) → IsTurning w w won
turning-start w won = record { same = refl; zeros = omega arith; gives = λ n. refl }

bound-of : (old now before : Walk) (q : Quant) (v won : Bool) → IsTurning old now won → (l : IsLast now before q v) →
    rest_of old.prefix before.path ≡ record { quant = q; var = l.variable } ∷ l.rest
bound-of old now before q v won t l =
    ap (λ (P : Prefix). rest_of P before.path) (sym (ap (λ (w : Walk). w.prefix) t.same)) ∙ l.unset

zeros-last : (now before : List Bool) (v : Bool) → now ≡ before ++ v ∷ [] → zeros before ≤ zeros now
zeros-last now before true e = omega (arith, ap zeros e, zeros-true before)
zeros-last now before false e = omega (arith, ap zeros e, zeros-false before)

pub turning-up : (old now before : Walk) (q : Quant) (v won : Bool) → IsTurning old now won → IsLast now before q v →
    (not v && goes_on q won) ≡ false → IsTurning old before won
turning-up old now before q v won t l g = record {
  same = l.same ∙ ap (λ (w : Walk). moved w before.path) t.same;
  zeros = let z : zeros before.path ≤ zeros now.path = zeros-last now.path before.path v l.path in omega (arith, z, t.zeros);
  gives = λ n. t.gives n ∙ ap (λ (p : List Bool). whole old.test old.prefix p nothing (leaf won n)) l.path ∙ go v g n;
}
  where
    b : Bound
    b = record { quant = q; var = l.variable }

    go : (v : Bool) → (not v && goes_on q won) ≡ false → (n : Node) →
        whole old.test old.prefix (before.path ++ v ∷ []) nothing (leaf won n) ≡ whole old.test old.prefix before.path nothing (leaf won n)
    go true g n = whole-true old.test old.prefix l.rest b before.path nothing (leaf won n) (bound-of old now before q v won t l)
    go false g n = goes_up old.test old.prefix l.rest b before.path nothing (leaf won n) (bound-of old now before q v won t l) g

pub turning-across : (old now before new : Walk) (q : Quant) (v won : Bool) → IsTurning old now won → IsLast now before q v →
    (not v && goes_on q won) ≡ true → new ≡ moved before (before.path ++ true ∷ []) → IsNext old new won
turning-across old now before new q v won t l g e =
    subst (λ (w : Walk). IsNext old w won) (sym (e ∙ ap (λ (w : Walk). moved w (before.path ++ true ∷ [])) (l.same ∙ ap (λ (w : Walk). moved w before.path) t.same)))
    (record {
      same = refl;
      zeros = less v g l.path;
      whole = λ n. t.gives n ∙ ap (λ (p : List Bool). whole old.test old.prefix p nothing (leaf won n)) l.path ∙ go v g n;
    })
  where
    b : Bound
    b = record { quant = q; var = l.variable }

    less : (v : Bool) → (not v && goes_on q won) ≡ true → now.path ≡ before.path ++ v ∷ [] → zeros (before.path ++ true ∷ []) < zeros old.path
    less true g e = absurd (cc)
    less false g e = omega (arith, ap zeros e, zeros-true before.path, zeros-false before.path, t.zeros)

    go : (v : Bool) → (not v && goes_on q won) ≡ true → (n : Node) →
        whole old.test old.prefix (before.path ++ v ∷ []) nothing (leaf won n) ≡ outlook old.test old.prefix (before.path ++ true ∷ []) nothing
    go true g n = absurd (cc)
    go false g n = outlook-across old.test old.prefix l.rest b before.path nothing n won (bound-of old now before q v won t l) g

pub turning-inner : (now before : Walk) (q : Quant) (v : Bool) → IsLast now before q v → IsInner before
turning-inner now before q v l =
    subst (λ (w : Walk). length w.path < length w.prefix) (sym l.same) (rest-some now.prefix l.rest (record { quant = q; var = l.variable }) before.path l.unset)

pub turning-end : (old now : Walk) (won : Bool) → IsTurning old now won → now.path ≡ [] → IsEnd old won
turning-end old now won t e n = t.gives n ∙ ap (λ (p : List Bool). whole old.test old.prefix p nothing (leaf won n)) e

-- how far a search is
pub record IsGoing (old now : Walk) (budget left : Option ℕ) : Type 0 where
  pub same : now ≡ moved old now.path
  pub way : IsOnTheWay budget left (outlook old.test old.prefix now.path nothing) (all_of old)

abbrev pub left_to_do : Walk → ℕ
left_to_do w = 2 * (outlook w.test w.prefix w.path nothing).decisions + zeros w.path

pub along-none : (P : Prefix) (A : Assignment) → along P [] A ≡ A
along-none [] A = refl
along-none (b ∷ P) A = refl

pub going-start : (w : Walk) (n : Option ℕ) → w.path ≡ [] → IsGoing w w n n
going-start w n e = record {
  same = refl;
  way = subst (λ (p : List Bool). IsOnTheWay n n (outlook w.test w.prefix p nothing) (all_of w)) (sym e)
      (subst (λ (B : Assignment). IsOnTheWay n n (explored w.test w.prefix B) (all_of w)) (sym (along-none w.prefix nothing)) (way-start n (all_of w)));
}

-- what is said here, told of the search as it began
here : (old now : Walk) (v : Verdict) → now ≡ moved old now.path → v ≡ said_here now → said old.test old.prefix now.path nothing ≡ v
here old now v s e = sym (ap said_here s) ∙ sym e

inner : (old now : Walk) → now ≡ moved old now.path → IsInner now → length now.path < length old.prefix
inner old now s i = subst IsInner s i

outlooks : (old now : Walk) → now ≡ moved old now.path → outlook now.test now.prefix now.path nothing ≡ outlook old.test old.prefix now.path nothing
outlooks old now s = ap (λ (w : Walk). outlook w.test w.prefix w.path nothing) s

pub going-down : (old now new : Walk) (n k m : Option ℕ) → IsGoing old now n k → said_here now ≡ Open → IsInner now → IsPayment k m true →
    new ≡ moved now (now.path ++ false ∷ []) → IsGoing old new n m × (left_to_do new < left_to_do now)
going-down old now new n k m g o i p e =
    subst (λ (w : Walk). IsGoing old w n m × (left_to_do w < left_to_do now)) (sym (e ∙ ap (λ (w : Walk). moved w (now.path ++ false ∷ [])) g.same)) (
      record {
        same = refl;
        way = way-down n k m (outlook old.test old.prefix (now.path ++ false ∷ []) nothing) (all_of old)
            (subst (λ (t : Tally). IsOnTheWay n k t (all_of old)) d g.way) p;
      },
      let x : outlook now.test now.prefix now.path nothing ≡ outlook old.test old.prefix now.path nothing = outlooks old now g.same in
          omega (arith, ap (λ (t : Tally). t.decisions) (x ∙ d), zeros-false now.path),
    )
  where
    d : outlook old.test old.prefix now.path nothing ≡ one_more (outlook old.test old.prefix (now.path ++ false ∷ []) nothing)
    d = outlook-down old.test old.prefix now.path nothing (inner old now g.same i) (here old now Open g.same (sym o))

pub going-out : (old now : Walk) (n k m : Option ℕ) → IsGoing old now n k → said_here now ≡ Open → IsInner now → IsPayment k m false →
    IsBelow n (all_of old).decisions
going-out old now n k m g o i p =
    let d : outlook old.test old.prefix now.path nothing ≡ one_more (outlook old.test old.prefix (now.path ++ false ∷ []) nothing) =
    outlook-down old.test old.prefix now.path nothing (inner old now g.same i) (here old now Open g.same (sym o)) in
    way-out n k m (outlook old.test old.prefix (now.path ++ false ∷ []) nothing) (all_of old) (subst (λ (t : Tally). IsOnTheWay n k t (all_of old)) d g.way) p

-- a node that is won or lost
abbrev pub IsLeaf : Walk → Bool → Type 0
IsLeaf w won = outlook w.test w.prefix w.path nothing ≡ whole w.test w.prefix w.path nothing (leaf won (node_at w.prefix w.path nothing))

pub leaf-won : (w : Walk) → said_here w ≡ Won → IsLeaf w true
leaf-won w e = outlook-won w.test w.prefix w.path nothing e

pub leaf-lost : (w : Walk) → said_here w ≡ Lost → IsLeaf w false
leaf-lost w e = outlook-lost w.test w.prefix w.path nothing e

pub going-next : (old now new : Walk) (n k : Option ℕ) (won : Bool) → IsGoing old now n k → IsLeaf now won → IsNext now new won →
    IsGoing old new n k × (left_to_do new < left_to_do now)
going-next old now new n k won g d x = (
  record { same = s; way = subst (λ (t : Tally). IsOnTheWay n k t (all_of old)) (sym (outlooks old now g.same) ∙ z ∙ m) g.way },
  let y : outlook new.test new.prefix new.path nothing ≡ outlook now.test now.prefix new.path nothing = outlooks now new x.same in
      omega (arith, ap (λ (t : Tally). t.decisions) (z ∙ sym y), x.zeros),
)
  where
    s : new ≡ moved old new.path
    s = x.same ∙ ap (λ (w : Walk). moved w new.path) g.same

    z : outlook now.test now.prefix now.path nothing ≡ outlook now.test now.prefix new.path nothing
    z = d ∙ x.whole (node_at now.prefix now.path nothing)

    m : outlook now.test now.prefix new.path nothing ≡ outlook old.test old.prefix new.path nothing
    m = ap (λ (w : Walk). outlook w.test w.prefix new.path nothing) g.same

pub going-end : (old now : Walk) (n k : Option ℕ) (won : Bool) → IsGoing old now n k → IsLeaf now won → IsEnd now won →
    (¬ IsBelow n (all_of old).decisions) × ((all_of old).won ≡ won)
going-end old now n k won g d x =
    let h : IsOnTheWay n k (leaf won (node_at now.prefix now.path nothing)) (all_of old) =
    subst (λ (t : Tally). IsOnTheWay n k t (all_of old)) (sym (outlooks old now g.same) ∙ d ∙ x (node_at now.prefix now.path nothing)) g.way in
    (way-end n k won (node_at now.prefix now.path nothing) (all_of old) h, sym h.won)

-- Among universals a lost node decides all.
lost-all : (f : Test) (P : Prefix) (vs : List Bool) (A : Assignment) (n : Node) → AreUniversal P → whole f P vs A (leaf false n) ≡ leaf false n
lost-all f P [] A n u = refl
lost-all f [] (v ∷ vs) A n u = refl
lost-all f (b ∷ P) (false ∷ vs) A n u =
    ap (λ (t : Tally). then_second b.quant t (explored f P (with_value A b.var true))) (lost-all f P vs (with_value A b.var false) n u.1)
    ∙ ap (λ (q : Quant). then_second q (leaf false n) (explored f P (with_value A b.var true))) u.0
lost-all f (b ∷ P) (true ∷ vs) A n u = lost-all f P vs (with_value A b.var true) n u.1

pub going-lost : (old now : Walk) (n k : Option ℕ) → AreUniversal old.prefix → IsGoing old now n k → said_here now ≡ Lost →
    (¬ IsBelow n (all_of old).decisions) × ((all_of old).won ≡ false) × (node_at old.prefix now.path nothing ≡ (all_of old).last)
going-lost old now n k u g e =
    let d : outlook old.test old.prefix now.path nothing ≡ whole old.test old.prefix now.path nothing (leaf false (node_at old.prefix now.path nothing)) =
    outlook-lost old.test old.prefix now.path nothing (here old now Lost g.same (sym e)) in
    let h : IsOnTheWay n k (leaf false (node_at old.prefix now.path nothing)) (all_of old) =
    subst (λ (t : Tally). IsOnTheWay n k t (all_of old)) (d ∙ lost-all old.test old.prefix now.path nothing (node_at old.prefix now.path nothing) u) g.way in
    (way-end n k false (node_at old.prefix now.path nothing) (all_of old) h, sym h.won, h.last)

-- A verdict on the node of a search, which changes no more than its row of work.
pub record IsLooked (old before now : Walk) (n k : Option ℕ) (v : Verdict) : Type 0 where
  pub going : IsGoing old now n k
  pub same : now ≡ before
  pub said : said_here now ≡ v

pub looked : (old before now : Walk) (n k : Option ℕ) (u v : Verdict) → IsGoing old before n k → now ≡ before →
    u ≡ said_here before → u ≡ v → IsLooked old before now n k v
looked old before now n k u v g s e f = record {
  going = subst (λ (w : Walk). IsGoing old w n k) (sym s) g;
  same = s;
  said = ap said_here s ∙ sym e ∙ f;
}

pub look-down : (old before now new : Walk) (n k m : Option ℕ) → IsLooked old before now n k Open → IsInner before →
    IsPayment k m true → new ≡ moved now (now.path ++ false ∷ []) →
    IsGoing old new n m × (left_to_do new < left_to_do before)
look-down old before now new n k m l i p e =
    subst (λ (w : Walk). IsGoing old new n m × (left_to_do new < left_to_do w)) l.same
    (going-down old now new n k m l.going l.said (subst IsInner (sym l.same) i) p e)

pub look-out : (old before now : Walk) (n k m : Option ℕ) → IsLooked old before now n k Open → IsInner before →
    IsPayment k m false → IsBelow n (all_of old).decisions
look-out old before now n k m l i p = going-out old now n k m l.going l.said (subst IsInner (sym l.same) i) p

pub look-next : (old before now new : Walk) (n k : Option ℕ) (v : Verdict) (won more : Bool) → IsLooked old before now n k v →
    (said_here now ≡ v → IsLeaf now won) → IsTurned now new won more → more ≡ true →
    IsGoing old new n k × (left_to_do new < left_to_do before)
look-next old before now new n k v won more l f t e =
    subst (λ (w : Walk). IsGoing old new n k × (left_to_do new < left_to_do w)) l.same
    (going-next old now new n k won l.going (f l.said) (subst (IsTurned now new won) e t))

pub look-end : (old before now new : Walk) (n k : Option ℕ) (v : Verdict) (won more : Bool) → IsLooked old before now n k v →
    (said_here now ≡ v → IsLeaf now won) → IsTurned now new won more → more ≡ false →
    (¬ IsBelow n (all_of old).decisions) × ((all_of old).won ≡ won)
look-end old before now new n k v won more l f t e =
    going-end old now n k won l.going (f l.said) (subst (IsTurned now new won) e t)

pub look-lost : (old before now : Walk) (n k : Option ℕ) → AreUniversal old.prefix → IsLooked old before now n k Lost →
    (¬ IsBelow n (all_of old).decisions) × ((all_of old).won ≡ false) × (node_at old.prefix now.path nothing ≡ (all_of old).last)
look-lost old before now n k u l = going-lost old now n k u l.going l.said
