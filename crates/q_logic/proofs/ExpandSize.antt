-- What the steps of an expansion add: no more than its result and the clauses that link each variable to its copy.
use Rattle.std.proofs.Common.{◌≡◌, ◌≤◌, ℕ, ◌+◌, ◌-◌, ◌*◌, Bool, true, false, cond, List, [], ◌∷◌, ◌++◌, arith, refl, sym, subst, length}
use Rattle.q_logic.specs.Prelude.{insert, positive, Literal, Clause, Matrix, Prefix, is_existential, without, insert_after, standard, has, greatest, shares, copied, insert_all, expanded}
use Rattle.q_logic.proofs.PrefixOrder.{existential-is_bound}
use Rattle.q_logic.proofs.Prefixes.{insert-itself}
use Rattle.q_logic.proofs.ChangeRuns.{least, adds, deletes, replaces, drops, mapped}
use Rattle.q_logic.proofs.NumberedClauses.{without-same}
use Rattle.q_logic.proofs.JoinedClauses.{insert-length}
use Rattle.q_logic.proofs.LiteralOrder.{is_bound-greatest}
use Rattle.q_logic.proofs.Heights.{rise, weight, one, FreshUpTo, Modest, modest-append, modest-more, modest-adds, modest-deletes, modest-replaces, modest-drops}
use Rattle.q_logic.proofs.ExpandPrefix.{Above, AllE, alle-insert, above-insert, freshes}
use Rattle.q_logic.proofs.ExpandLinks.{lit, minus, link, link_steps, unlink_steps, over_copies}
use Rattle.q_logic.proofs.ExpandParts.{with_u, with_minus, sharing}
use Rattle.q_logic.proofs.ExpandRun.{both_parts, expand_steps, mapped-append}

-- The links.
link-length : (u : ℕ) (a b : Literal) → length (link u a b) ≤ 3
link-length u a b = both (length (link u a b)) (length (insert (minus u) (b ∷ []))) (insert-length a (insert (minus u) (b ∷ []))) (insert-length (minus u) (b ∷ []))
  where
    both : (x y : ℕ) → x ≤ y + 1 → y ≤ 1 + 1 → x ≤ 3
    both x y i j = omega arith

links-clauses : (u : ℕ) (V : List ℕ) (t : ℕ) → rise one (link_steps u V t) ≤ 2 * length V
links-clauses u [] t = omega arith
links-clauses u (x ∷ V) t = let i : rise one (link_steps u V (t + 1)) ≤ 2 * length V = links-clauses u V (t + 1) in grind arith

links-lits : (u : ℕ) (V : List ℕ) (t : ℕ) → rise length (link_steps u V t) ≤ 6 * length V
links-lits u [] t = omega arith
links-lits u (x ∷ V) t =
    let i : rise length (link_steps u V (t + 1)) ≤ 6 * length V = links-lits u V (t + 1) in
    let a : length (link u (lit t false) (lit x true)) ≤ 3 = link-length u (lit t false) (lit x true) in
    let b : length (link u (lit t true) (lit x false)) ≤ 3 = link-length u (lit t true) (lit x false) in
    let s : length (link u (lit t false) (lit x true)) + (length (link u (lit t true) (lit x false)) + rise length (link_steps u V (t + 1))) ≤ 6 + 6 * length V = sum (length (link u (lit t false) (lit x true))) (length (link u (lit t true) (lit x false))) (rise length (link_steps u V (t + 1))) (6 * length V) a b i in grind arith
  where
    sum : (a b r v : ℕ) → a ≤ 3 → b ≤ 3 → r ≤ v → a + (b + r) ≤ 6 + v
    sum a b r v i j k = omega arith

links-fresh : (m u : ℕ) (V : List ℕ) (t : ℕ) → FreshUpTo m (link_steps u V t)
links-fresh m u [] t = tt
links-fresh m u (x ∷ V) t = links-fresh m u V (t + 1)

links-modest : (u : ℕ) (V : List ℕ) (t : ℕ) → Modest (2 * length V) (6 * length V) (link_steps u V t)
links-modest u V t = record { clauses = links-clauses u V t; lits = links-lits u V t; variables = links-fresh standard.vars u V t }

unlinks-rise : (w : Clause → ℕ) (u : ℕ) (V : List ℕ) (t : ℕ) → rise w (unlink_steps u V t) ≤ 0
unlinks-rise w u [] t = omega arith
unlinks-rise w u (x ∷ V) t = less (rise w (unlink_steps u V (t + 1))) (w (link u (lit t true) (lit x false))) (w (link u (lit t false) (lit x true))) (unlinks-rise w u V (t + 1))
  where
    less : (r a b : ℕ) → r ≤ 0 → r - a - b ≤ 0
    less r a b i = omega arith

unlinks-fresh : (m u : ℕ) (V : List ℕ) (t : ℕ) → FreshUpTo m (unlink_steps u V t)
unlinks-fresh m u [] t = tt
unlinks-fresh m u (x ∷ V) t = unlinks-fresh m u V (t + 1)

unlinks-modest : (u : ℕ) (V : List ℕ) (t : ℕ) → Modest 0 0 (unlink_steps u V t)
unlinks-modest u V t = record { clauses = unlinks-rise one u V t; lits = unlinks-rise length u V t; variables = unlinks-fresh standard.vars u V t }

-- The clauses over the copies, and those that get u.
pub weight-append : (w : Clause → ℕ) (X Y : Matrix) → weight w (X ++ Y) ≡ weight w X + weight w Y
weight-append w [] Y = omega arith
weight-append w (C ∷ X) Y = let i : weight w (X ++ Y) ≡ weight w X + weight w Y = weight-append w X Y in sum (w C) (weight w (X ++ Y)) (weight w X) (weight w Y) i
  where
    sum : (c a x y : ℕ) → a ≡ x + y → c + a ≡ c + x + y
    sum c a x y i = omega arith

over-length : (u : ℕ) (V : List ℕ) (t : ℕ) (D : Clause) → length (over_copies u V t D) ≤ length (copied V t (without (minus u) D)) + 1
over-length u V t D = insert-length (minus u) (copied V t (without (minus u) D))

abbrev Copied : (Clause → ℕ) → ℕ → List ℕ → ℕ → Matrix → Matrix → ℕ
Copied w u V t N M = weight w (mapped (over_copies u V t) N) + (weight w (mapped (over_copies u V t) M) + weight w (mapped (insert (positive u)) M))

copied-clauses : (u : ℕ) (V : List ℕ) (t : ℕ) (X : Matrix) → Copied one u V t (with_minus u V X) (sharing u V X) ≤ weight one (expanded u V t X)
copied-clauses u V t [] = omega arith
copied-clauses u V t (D ∷ X) = go (has (positive u) D) (has (minus u) D) (shares V D) (weight one (mapped (over_copies u V t) (with_minus u V X))) (weight one (mapped (over_copies u V t) (sharing u V X))) (weight one (mapped (insert (positive u)) (sharing u V X))) (copied-clauses u V t X)
  where
    more : (a x y : ℕ) → a ≤ x → a ≤ y + x
    more a x y i = omega arith

    minus_one : (a b x : ℕ) → a + b ≤ x → 1 + a + b ≤ 1 + x
    minus_one a b x i = omega arith

    two : (a b c x : ℕ) → a + (b + c) ≤ x → a + (1 + b + (1 + c)) ≤ 1 + (1 + x)
    two a b c x i = omega arith

    go : (a b c : Bool) → (n r s : ℕ) → Copied one u V t (with_minus u V X) (sharing u V X) ≤ weight one (expanded u V t X)
        → Copied one u V t (cond a (with_minus u V X) (cond b (D ∷ with_minus u V X) (with_minus u V X))) (cond a (sharing u V X) (cond b (sharing u V X) (cond c (D ∷ sharing u V X) (sharing u V X))))
        ≤ weight one (cond a (without (positive u) D ∷ expanded u V t X) (cond b (copied V t (without (minus u) D) ∷ expanded u V t X) (cond c (D ∷ copied V t D ∷ expanded u V t X) (D ∷ expanded u V t X))))
    go true b c n r s i = more (Copied one u V t (with_minus u V X) (sharing u V X)) (weight one (expanded u V t X)) 1 i
    go false true c n r s i = minus_one (weight one (mapped (over_copies u V t) (with_minus u V X))) (weight one (mapped (over_copies u V t) (sharing u V X)) + weight one (mapped (insert (positive u)) (sharing u V X))) (weight one (expanded u V t X)) i
    go false false true n r s i = two (weight one (mapped (over_copies u V t) (with_minus u V X))) (weight one (mapped (over_copies u V t) (sharing u V X))) (weight one (mapped (insert (positive u)) (sharing u V X))) (weight one (expanded u V t X)) i
    go false false false n r s i = more (Copied one u V t (with_minus u V X) (sharing u V X)) (weight one (expanded u V t X)) 1 i

copied-lits : (u : ℕ) (V : List ℕ) (t : ℕ) (X : Matrix) → Copied length u V t (with_minus u V X) (sharing u V X) ≤ weight length (expanded u V t X) + weight one (expanded u V t X)
copied-lits u V t [] = omega arith
copied-lits u V t (D ∷ X) = go (has (positive u) D) (has (minus u) D) refl (shares V D) (copied-lits u V t X)
  where
    n : ℕ
    n = weight length (mapped (over_copies u V t) (with_minus u V X))

    r : ℕ
    r = weight length (mapped (over_copies u V t) (sharing u V X))

    s : ℕ
    s = weight length (mapped (insert (positive u)) (sharing u V X))

    l : ℕ
    l = weight length (expanded u V t X)

    o : ℕ
    o = weight one (expanded u V t X)

    more : (a x y d : ℕ) → a ≤ x + y → a ≤ d + x + (1 + y)
    more a x y d i = omega arith

    one_more : (a b x y c d : ℕ) → a + b ≤ x + y → c ≤ d + 1 → c + a + b ≤ d + x + (1 + y)
    one_more a b x y c d i j = omega arith

    two_more : (a b c x y d e f g : ℕ) → a + (b + c) ≤ x + y → d ≤ f + 1 → e ≤ g + 1 → a + (d + b + (e + c)) ≤ g + (f + x) + (1 + (1 + y))
    two_more a b c x y d e f g i j k = omega arith

    go : (a b : Bool) → has (minus u) D ≡ b → (c : Bool) → Copied length u V t (with_minus u V X) (sharing u V X) ≤ weight length (expanded u V t X) + weight one (expanded u V t X)
        → Copied length u V t (cond a (with_minus u V X) (cond b (D ∷ with_minus u V X) (with_minus u V X))) (cond a (sharing u V X) (cond b (sharing u V X) (cond c (D ∷ sharing u V X) (sharing u V X))))
        ≤ weight length (cond a (without (positive u) D ∷ expanded u V t X) (cond b (copied V t (without (minus u) D) ∷ expanded u V t X) (cond c (D ∷ copied V t D ∷ expanded u V t X) (D ∷ expanded u V t X))))
        + weight one (cond a (without (positive u) D ∷ expanded u V t X) (cond b (copied V t (without (minus u) D) ∷ expanded u V t X) (cond c (D ∷ copied V t D ∷ expanded u V t X) (D ∷ expanded u V t X))))
    go true b q c i = more (n + (r + s)) l o (length (without (positive u) D)) i
    go false true q c i = one_more n (r + s) l o (length (over_copies u V t D)) (length (copied V t (without (minus u) D))) i (over-length u V t D)
    go false false q true i = two_more n r s l o (length (over_copies u V t D)) (length (insert (positive u) D)) (length (copied V t D)) (length D) i
        (subst (λ C. length (over_copies u V t D) ≤ length (copied V t C) + 1) (without-same (minus u) D q) (over-length u V t D)) (insert-length (positive u) D)
    go false false q false i = more (n + (r + s)) l o (length D) i

-- All steps but the fresh variables.
pub steps-modest : (u : ℕ) (V : List ℕ) (t : ℕ) (X : Matrix) → Modest (2 * length V + weight one (expanded u V t X)) (6 * length V + (weight length (expanded u V t X) + weight one (expanded u V t X))) (expand_steps u V t X)
steps-modest u V t X =
    modest-more (2 * length V + (a one + (0 + (b one + (0 + (0 + 0)))))) (6 * length V + (a length + (0 + (b length + (0 + (0 + 0)))))) (2 * length V + weight one E) (6 * length V + (weight length E + weight one E)) (expand_steps u V t X)
    (most (2 * length V) (a one) (b one) (weight one (mapped (over_copies u V t) (with_minus u V X))) (weight one (mapped (over_copies u V t) (sharing u V X))) (weight one E) (parted one) (copied-clauses u V t X))
    (most (6 * length V) (a length) (b length) (weight length (mapped (over_copies u V t) (with_minus u V X))) (weight length (mapped (over_copies u V t) (sharing u V X))) (weight length E + weight one E) (parted length) (copied-lits u V t X))
    (modest-append (2 * length V) (6 * length V) (a one + (0 + (b one + (0 + (0 + 0))))) (a length + (0 + (b length + (0 + (0 + 0))))) (link_steps u V t) (adds least Y ++ (deletes least (with_minus u V X) ++ (replaces (insert (positive u)) (sharing u V X) ++ (unlink_steps u V t ++ (drops (positive u) U ++ drops (minus u) Y))))) (links-modest u V t)
    (modest-append (a one) (a length) (0 + (b one + (0 + (0 + 0)))) (0 + (b length + (0 + (0 + 0)))) (adds least Y) (deletes least (with_minus u V X) ++ (replaces (insert (positive u)) (sharing u V X) ++ (unlink_steps u V t ++ (drops (positive u) U ++ drops (minus u) Y)))) (modest-adds least Y)
    (modest-append 0 0 (b one + (0 + (0 + 0))) (b length + (0 + (0 + 0))) (deletes least (with_minus u V X)) (replaces (insert (positive u)) (sharing u V X) ++ (unlink_steps u V t ++ (drops (positive u) U ++ drops (minus u) Y))) (modest-deletes least (with_minus u V X))
    (modest-append (b one) (b length) (0 + (0 + 0)) (0 + (0 + 0)) (replaces (insert (positive u)) (sharing u V X)) (unlink_steps u V t ++ (drops (positive u) U ++ drops (minus u) Y)) (modest-replaces (insert (positive u)) (sharing u V X))
    (modest-append 0 0 (0 + 0) (0 + 0) (unlink_steps u V t) (drops (positive u) U ++ drops (minus u) Y) (unlinks-modest u V t)
    (modest-append 0 0 0 0 (drops (positive u) U) (drops (minus u) Y) (modest-drops (positive u) U) (modest-drops (minus u) Y)))))))
  where
    E : Matrix
    E = expanded u V t X

    Y : Matrix
    Y = mapped (over_copies u V t) (both_parts u V X)

    U : Matrix
    U = with_u u V X ++ mapped (insert (positive u)) (sharing u V X)

    a : (Clause → ℕ) → ℕ
    a w = weight w (mapped (over_copies u V t) (both_parts u V X))

    b : (Clause → ℕ) → ℕ
    b w = weight w (mapped (insert (positive u)) (sharing u V X))

    parted : (w : Clause → ℕ) → weight w (mapped (over_copies u V t) (both_parts u V X)) ≡ weight w (mapped (over_copies u V t) (with_minus u V X)) + weight w (mapped (over_copies u V t) (sharing u V X))
    parted w = subst (λ Z. weight w Z ≡ weight w (mapped (over_copies u V t) (with_minus u V X)) + weight w (mapped (over_copies u V t) (sharing u V X))) (sym (mapped-append (over_copies u V t) (with_minus u V X) (sharing u V X)))
        (weight-append w (mapped (over_copies u V t) (with_minus u V X)) (mapped (over_copies u V t) (sharing u V X)))

    most : (v a b n s e : ℕ) → a ≡ n + s → n + (s + b) ≤ e → v + (a + (0 + (b + (0 + (0 + 0))))) ≤ v + e
    most v a b n s e p i = omega arith

-- The copies are the greatest variables.
pub greatest-inserted : (V : List ℕ) (t : ℕ) (P : Prefix) → AllE P V → Above P t → t ≤ greatest P + 1 → t + length V ≤ greatest (insert_all V t P) + 1
greatest-inserted [] t P e a l = grind arith
greatest-inserted (x ∷ V) t P e a l =
    let b : is_existential (insert_after x t P) t ≡ true = insert-itself x t P (a t (omega arith)) e.0 in
    let m : t ≤ greatest (insert_after x t P) = is_bound-greatest (insert_after x t P) t (existential-is_bound (insert_after x t P) t b) in
    let i : t + 1 + length V ≤ greatest (insert_all V (t + 1) (insert_after x t P)) + 1 = greatest-inserted V (t + 1) (insert_after x t P) (alle-insert P x t V a e.1) (above-insert P x t a) (next t (greatest (insert_after x t P)) m) in grind arith
  where
    next : (t g : ℕ) → t ≤ g → t + 1 ≤ g + 1
    next t g l = omega arith

freshes-fresh : (V : List ℕ) (t m : ℕ) → 1 ≤ t → t + length V ≤ m + 1 → FreshUpTo m (freshes V t)
freshes-fresh [] t m o l = tt
freshes-fresh (x ∷ V) t m o l = let s : t + 1 + length V ≤ m + 1 = grind arith in (o, first t (length V) m s, freshes-fresh V (t + 1) m (omega arith) s)
  where
    first : (t v m : ℕ) → t + 1 + v ≤ m + 1 → t ≤ m
    first t v m s = omega arith

freshes-rise : (w : Clause → ℕ) (V : List ℕ) (t : ℕ) → rise w (freshes V t) ≤ 0
freshes-rise w [] t = omega arith
freshes-rise w (x ∷ V) t = freshes-rise w V (t + 1)

pub freshes-modest : (V : List ℕ) (t : ℕ) → 1 ≤ t → t + length V ≤ standard.vars + 1 → Modest 0 0 (freshes V t)
freshes-modest V t o l = record { clauses = freshes-rise one V t; lits = freshes-rise length V t; variables = freshes-fresh V t standard.vars o l }
