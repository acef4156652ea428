-- Proof parts as the code holds them: the hints of all groups in one row, and where each group starts.
use Rattle.std.specs.Prelude.{ℕ, zero, suc, ◌≤◌, List, [], ◌∷◌, ◌++◌, length, slice_index_or, slice_range}
use Rattle.q_logic.specs.declared.proof_part.GroupStart.{GroupStart}
use Rattle.q_logic.specs.declared.proof_part.ProofKind.{ProofKind}
use Rattle.q_logic.specs.declared.proof_part.ProofKind.TheVariants.{Nothing, Implied, Pivot, Reach}
use Rattle.q_logic.specs.Hinted.{HintGroup, ProofPart}

-- where the hints before these groups end, of so many hints
abbrev pub start_or_end : List GroupStart → ℕ → ℕ
start_or_end [] n = n
start_or_end (g ∷ gs) n = g.start

-- where the hints of the group at a place end
abbrev pub end_at : List GroupStart → ℕ → ℕ → ℕ
end_at [] n at = n
end_at (g ∷ gs) n zero = start_or_end gs n
end_at (g ∷ gs) n (suc at) = end_at gs n at

-- the mark of the group at a place
abbrev pub start_at : List GroupStart → ℕ → GroupStart
start_at gs at = slice_index_or gs at (record { target = 0; start = 0 })

abbrev pub groups_from : List GroupStart → List ℕ → List HintGroup
groups_from [] hints = []
groups_from (g ∷ gs) hints =
    record { target = g.target; hints = slice_range hints g.start (start_or_end gs (length hints)) } ∷ groups_from gs hints

-- what is implied has one group, for no target
abbrev pub groups_of : ProofKind → List GroupStart → List ℕ → List HintGroup
groups_of Implied gs hints = record { target = 0; hints = hints } ∷ []
groups_of Nothing gs hints = groups_from gs hints
groups_of Pivot gs hints = groups_from gs hints
groups_of Reach gs hints = groups_from gs hints

-- the starts never fall, and none is behind the last hint
abbrev pub AreStarts : ℕ → List GroupStart → ℕ → Type 0
AreStarts from [] n = from ≤ n
AreStarts from (g ∷ gs) n = (from ≤ g.start) × AreStarts g.start gs n

-- a proof part before any hint
abbrev pub begun_part : ProofKind → ℕ → ProofPart
begun_part kind n = record { kind = kind; number = n; groups = groups_of kind [] [] }

-- one more group, without hints
abbrev pub with_group : ℕ → ProofPart → ProofPart
with_group target t = record t { groups = t.groups ++ record { target = target; hints = [] } ∷ [] }

-- one more hint for the last group
abbrev pub hint_last : ℕ → List HintGroup → List HintGroup
hint_last n [] = []
hint_last n (g ∷ []) = record g { hints = g.hints ++ n ∷ [] } ∷ []
hint_last n (g ∷ h ∷ gs) = g ∷ hint_last n (h ∷ gs)

abbrev pub with_hint : ℕ → ProofPart → ProofPart
with_hint n t = record t { groups = hint_last n t.groups }

-- the group at a place
abbrev pub group_at : List HintGroup → ℕ → HintGroup
group_at gs at = slice_index_or gs at (record { target = 0; hints = [] })
