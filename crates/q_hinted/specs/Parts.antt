-- The proof part of a step as it is written: which proof parts fit a step, and the numbers that stand in one.
use Rattle.std.specs.Prelude.{◌≡◌, ◌≤◌, ◌<◌, ◌^◌, ℕ, List, [], ◌∷◌, ◌++◌}
use Rattle.std.specs.List.{AllByRecursion}
use Rattle.q_logic.specs.declared.proof_part.ProofKind.{ProofKind}
use Rattle.q_logic.specs.declared.proof_part.ProofKind.TheVariants.{Nothing, Implied, Pivot, Reach}
use Rattle.q_logic.specs.declared.steps.Kind.{Kind}
use Rattle.q_logic.specs.declared.steps.Kind.TheVariants.{Add, Delete, Drop, Fresh, Remove}
use Rattle.q_logic.specs.Prelude.{HintGroup, ProofPart}

-- a step that needs no proof has this part
abbrev pub no_part : ProofPart
no_part = record { kind = Nothing; number = 0; groups = [] }

-- the number of a clause
abbrev pub IsNumber : ℕ → Type 0
IsNumber n = (1 ≤ n) × (n < 2 ^ 62)

-- a target, and hints
abbrev pub IsGroup : HintGroup → Type 0
IsGroup g = IsNumber g.target × AllByRecursion IsNumber g.hints

-- the only group has hints and no target
abbrev pub IsOnlyGroup : List HintGroup → Type 0
IsOnlyGroup [] = ⊥
IsOnlyGroup (g ∷ []) = (g.target ≡ 0) × AllByRecursion IsNumber g.hints
IsOnlyGroup (g ∷ h ∷ gs) = ⊥

-- the groups that a proof of each kind has
abbrev pub AreGroups : ProofKind → List HintGroup → Type 0
AreGroups Nothing gs = ⊥
AreGroups Implied gs = IsOnlyGroup gs
AreGroups Pivot gs = AllByRecursion IsGroup gs
AreGroups Reach gs = gs ≡ []

-- the proof part that a step of each kind has: a proof, for d and u behind the number of a clause
abbrev pub IsPartOf : Kind → ProofPart → Type 0
IsPartOf Add t = (t.number ≡ 0) × AreGroups t.kind t.groups
IsPartOf Delete t = IsNumber t.number × AreGroups t.kind t.groups
IsPartOf Drop t = IsNumber t.number × AreGroups t.kind t.groups
IsPartOf Fresh t = t ≡ no_part
IsPartOf Remove t = t ≡ no_part

-- each group with a 0 at its end
abbrev pub groups_numbers : List HintGroup → List ℕ
groups_numbers [] = []
groups_numbers (g ∷ gs) = g.target ∷ (g.hints ++ 0 ∷ groups_numbers gs)

abbrev pub first_hints : List HintGroup → List ℕ
first_hints [] = []
first_hints (g ∷ gs) = g.hints

-- a proof, without the 0 at its end
abbrev pub proof_numbers : ProofKind → List HintGroup → List ℕ
proof_numbers Nothing gs = []
proof_numbers Implied gs = 1 ∷ first_hints gs
proof_numbers Pivot gs = 2 ∷ groups_numbers gs
proof_numbers Reach gs = 3 ∷ []

-- the whole proof part
abbrev pub part_numbers : Kind → ProofPart → List ℕ
part_numbers Add t = proof_numbers t.kind t.groups ++ 0 ∷ []
part_numbers Delete t = t.number ∷ (proof_numbers t.kind t.groups ++ 0 ∷ [])
part_numbers Drop t = t.number ∷ (proof_numbers t.kind t.groups ++ 0 ∷ [])
part_numbers Fresh t = []
part_numbers Remove t = []

-- what stands between the literals of a step and the 0 that ends its line
abbrev pub line_numbers : Kind → ProofPart → List ℕ
line_numbers Add t = 0 ∷ proof_numbers t.kind t.groups
line_numbers Delete t = 0 ∷ t.number ∷ proof_numbers t.kind t.groups
line_numbers Drop t = 0 ∷ t.number ∷ proof_numbers t.kind t.groups
line_numbers Fresh t = []
line_numbers Remove t = []
