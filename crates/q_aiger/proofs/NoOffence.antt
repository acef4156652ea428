-- A text in the grammar has no offence.
use Rattle.std.proofs.Common.{◌≡◌, ℕ, List, Ok, Err, Result, sym, subst}
use Rattle.q_logic.specs.Prelude.{CertificateView}
use Rattle.q_gates.specs.Uses.{DependsOn}
use Rattle.q_gates.proofs.GateWalk.{sorted-acyclic}
use Rattle.q_aiger.specs.declared.error.AigerError.{AigerError}
use Rattle.q_aiger.specs.declared.error.AigerError.TheVariants.{Refused, NoMemory}
use Rattle.q_aiger.specs.Circuits.{parse, Offence, refused, cyclic, FailsWith}
use Rattle.q_aiger.specs.Grammar.{Circuits, IsNoFile}
use Rattle.q_aiger.proofs.AigerGrammar.{file-parsed}

apart : (w : CertificateView) (e : ℕ × ℕ) (r : Result CertificateView (ℕ × ℕ)) → r ≡ Ok w → r ≡ Err e → ⊥
apart w e r p q = cc

pub no-offence : (bytes : List ℕ) (c : CertificateView) (line cause : ℕ) → Circuits bytes c → Offence bytes line cause → ⊥
no-offence bytes c line cause g (refused l k p) = apart g.written (l, k) (parse bytes) (file-parsed bytes g.written g.file) p
no-offence bytes c line cause g (cyclic f k p first) =
    let z : g.written ≡ f = same (parse bytes) g.written f (file-parsed bytes g.written g.file) p in
    let d : DependsOn g.written.gates k k = subst (λ (w : CertificateView). DependsOn w.gates k k) (sym z) first.cycle in
    sorted-acyclic g.written.gates g.order g.full k d
  where
    same : (r : Result CertificateView (ℕ × ℕ)) (a b : CertificateView) → r ≡ Ok a → r ≡ Ok b → a ≡ b
    same r a b p q = cc

pub no-file : (bytes : List ℕ) (e : AigerError) → FailsWith bytes e → IsNoFile bytes e
no-file bytes (Refused line cause) h = λ c g. no-offence bytes c line cause g h
no-file bytes NoMemory h = tt
