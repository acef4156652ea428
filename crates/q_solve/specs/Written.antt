-- The row of circuits as a table by variable, and as a certificate.
use Rattle.std.specs.Prelude.{◌≡◌, ◌≤◌, ℕ, suc, cond, ◌+◌, List, drop, length, Option, Some, None}
use Rattle.q_logic.specs.Prelude.{Prefix, CertificateView}
use Rattle.q_logic.specs.Prefixes.{is_existential, place}
use Rattle.q_aig.specs.Prelude.{Net}
use Rattle.q_certificate.specs.Prelude.{look_at, IsNamed}
use Rattle.q_solve.specs.declared.picks.Pick.{Pick}
use Rattle.q_solve.specs.Picks.{lit_at, AreBelow, IsRow}

-- each existential among the variables behind the first ones has its literal, and no other variable has one
abbrev pub AreEntries : Prefix → ℕ → List Pick → List (Option ℕ) → Type 0
AreEntries P before row table =
    (x : ℕ) → look_at table x ≡ cond (is_existential P x) (Some (lit_at row (suc (before + place P x)))) None

-- how far a table is: the variables behind the first ones are entered
pub record IsEntering (P : Prefix) (row left : List Pick) (before : ℕ) (table : List (Option ℕ)) : Type 0 where
  pub bound : before ≤ length P
  pub entries : AreEntries (drop before P) before row table
  pub order : IsRow 0 left
  pub within : AreBelow (suc before) left
  pub rest : (k : ℕ) → k ≤ before → lit_at left k ≡ lit_at row k

-- the certificate names the circuits of the existentials
pub record IsWritten (a : Net) (P : Prefix) (row : List Pick) (made : CertificateView) : Type 0 where
  pub table : List (Option ℕ)
  pub entries : AreEntries P 0 row table
  pub named : IsNamed a made table P
