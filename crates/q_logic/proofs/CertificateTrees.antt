-- The trees of a certificate: a later gate or input changes none of the earlier ones.
use Rattle.std.proofs.Common.{◌≡◌, ℕ, zero, suc, ◌+◌, ◌<◌, false, cond, List, [], ◌∷◌, ◌++◌, length, get_or, refl, sym, ap, ◌∙◌, arith, not-suc-le-zero, le_of_suc-le-suc}
use Rattle.std.proofs.lemmas.List.{length-append}
use Rattle.q_logic.specs.Prelude.{Circuit, GateNode, falsum, input_at, gate_at, Operand, Gate, IsThere, AreGates, node_tree, operand_tree, gate_tree, gate_trees}

get_or-earlier : {X : Type 0} (xs ys : List X) (i : ℕ) (d : X) → i < length xs →
    get_or (xs ++ ys) i d ≡ get_or xs i d
get_or-earlier [] ys i d h = absurd (not-suc-le-zero h)
get_or-earlier (x ∷ xs) ys zero d h = refl
get_or-earlier (x ∷ xs) ys (suc i) d h = get_or-earlier xs ys i d (le_of_suc-le-suc h)

pub node_tree-more : (inputs more : List ℕ) (trees later : List Circuit) (n : GateNode) →
    IsThere (length inputs) (length trees) n →
    node_tree (inputs ++ more) (trees ++ later) n ≡ node_tree inputs trees n
node_tree-more inputs more trees later falsum h = refl
node_tree-more inputs more trees later (input_at i) h = ap Circuit.input (get_or-earlier inputs more i 0 h)
node_tree-more inputs more trees later (gate_at g) h =
    get_or-earlier trees later g (Circuit.constant false) h

pub operand_tree-more : (inputs more : List ℕ) (trees later : List Circuit) (o : Operand) →
    IsThere (length inputs) (length trees) o.node →
    operand_tree (inputs ++ more) (trees ++ later) o ≡ operand_tree inputs trees o
operand_tree-more inputs more trees later o h =
    ap (λ (t : Circuit). cond o.negated (Circuit.inverter t) t)
    (node_tree-more inputs more trees later o.node h)

pub gate_trees-append : (inputs : List ℕ) (trees : List Circuit) (gates later : List Gate) →
    gate_trees inputs trees (gates ++ later) ≡ gate_trees inputs (gate_trees inputs trees gates) later
gate_trees-append inputs trees [] later = refl
gate_trees-append inputs trees (g ∷ gates) later =
    gate_trees-append inputs (trees ++ gate_tree inputs trees g ∷ []) gates later

-- one more gate has one more tree
pub gate_trees-last : (inputs : List ℕ) (gates : List Gate) (g : Gate) →
    gate_trees inputs [] (gates ++ g ∷ []) ≡ gate_trees inputs [] gates ++
    gate_tree inputs (gate_trees inputs [] gates) g ∷ []
gate_trees-last inputs gates g = gate_trees-append inputs [] gates (g ∷ [])

pub length-gate_trees : (inputs : List ℕ) (trees : List Circuit) (gates : List Gate) →
    length (gate_trees inputs trees gates) ≡ length trees + length gates
length-gate_trees inputs trees [] = omega arith
length-gate_trees inputs trees (g ∷ gates) =
    let more : length (trees ++ gate_tree inputs trees g ∷ []) ≡ length trees + 1 =
    length-append trees (gate_tree inputs trees g ∷ []) in
    let rest : length (gate_trees inputs (trees ++ gate_tree inputs trees g ∷ []) gates) ≡
    length (trees ++ gate_tree inputs trees g ∷ []) + length gates =
    length-gate_trees inputs (trees ++ gate_tree inputs trees g ∷ []) gates in
    omega arith

-- one more input leaves the trees of lawful gates as they are
pub gate_trees-more_inputs : (inputs more : List ℕ) (trees : List Circuit) (gates : List Gate) →
    AreGates (length inputs) (length trees) gates →
    gate_trees (inputs ++ more) trees gates ≡ gate_trees inputs trees gates
gate_trees-more_inputs inputs more trees [] h = refl
gate_trees-more_inputs inputs more trees (g ∷ gates) h =
    ap (λ (t : Circuit). gate_trees (inputs ++ more) (trees ++ t ∷ []) gates) same ∙
    gate_trees-more_inputs inputs more (trees ++ gate_tree inputs trees g ∷ []) gates (longer h.2)
  where
    plain : (o : Operand) → IsThere (length inputs) (length trees) o.node →
        operand_tree (inputs ++ more) trees o ≡ operand_tree inputs trees o
    plain o k =
        ap (λ (ts : List Circuit). operand_tree (inputs ++ more) ts o) (sym (nothing trees)) ∙
        operand_tree-more inputs more trees [] o k
      where
        nothing : (xs : List Circuit) → xs ++ [] ≡ xs
        nothing [] = refl
        nothing (x ∷ xs) = ap (λ (ys : List Circuit). x ∷ ys) (nothing xs)

    same : gate_tree (inputs ++ more) trees g ≡ gate_tree inputs trees g
    same = let l = plain g.left h.0 in let r = plain g.right h.1 in cc

    longer : AreGates (length inputs) (length trees + 1) gates →
        AreGates (length inputs) (length (trees ++ gate_tree inputs trees g ∷ [])) gates
    longer k =
        let more : length (trees ++ gate_tree inputs trees g ∷ []) ≡ length trees + 1 =
        length-append trees (gate_tree inputs trees g ∷ []) in
        rw more k
