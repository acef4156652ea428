-- What stands open at the end is refused there, and nothing is open behind a step that is handed out.
use Rattle.std.proofs.Common.{◌≡◌, ℕ, ◌==◌, Bool, true, false, Option, Some, None, refl, subst, if◌then◌else◌, [], ◌∷◌, Ok, ap, ◌∙◌}
use Rattle.q_logic.specs.declared.proof_part.ProofKind.TheVariants.{Implied, Pivot, Reach}
use Rattle.q_logic.specs.declared.steps.Kind.{Kind}
use Rattle.q_logic.specs.declared.steps.Kind.TheVariants.{Add, Delete, Drop, Fresh, Remove}
use Rattle.q_logic.specs.Prelude.{ProofPart, kind_of, ProofStep}
use Rattle.q_logic.specs.ProofParts.{begun_part}
use Rattle.q_text.specs.declared.tokens.Token.{Token}
use Rattle.q_text.specs.declared.tokens.TokenKind.{TokenKind}
use Rattle.q_text.specs.declared.tokens.TokenKind.TheVariants.{Number, P, Cnf, Qrat, E, A, D, U, R, Other}
use Rattle.std.proofs.Common.{ℤ, pos, negsuc}
use Rattle.q_log.specs.declared.error.LogError.TheVariants.{BadLine}
use Rattle.q_log.specs.Grammar.{Move, ends_step, goes_on, unfit, move}
use Rattle.q_hinted.specs.declared.builder.Stage.{Stage}
use Rattle.q_hinted.specs.declared.builder.Stage.TheVariants as stage
use Rattle.q_hinted.specs.Grammar.{Place, nowhere, format, version, plain, steps, proving, EntryMove, hands, leads, misfit, place_move, is_open_at, in_plain, in_steps, behind_step, with_zero, with_number, kind_move, part_move, number_in, front_move, format_move, version_move, profile_move}
use Rattle.q_hinted.specs.Filled.{Gives}
use Rattle.q_hinted.specs.Logs.{Entry, Entries, stopped, follow, parsed, at_end}

pub open-end : (n : ℕ) (p : Place) → is_open_at p ≡ true → at_end n p ≡ Some (BadLine n)
open-end n nowhere e = cc
open-end n format e = refl
open-end n version e = refl
open-end n (plain None) e = cc
open-end n (plain (Some o)) e = refl
open-end n (steps None) e = cc
open-end n (steps (Some o)) e = refl
open-end n (proving m s g p) e = refl

-- nothing is open behind the step that a move hands out
abbrev pub IsShut : EntryMove → Type 0
IsShut (hands n s t q) = is_open_at q ≡ false
IsShut (leads q) = Unit {0}
IsShut misfit = Unit {0}

plain-shut : (m : Move) → IsShut (in_plain m)
plain-shut (ends_step n s) = refl
plain-shut (goes_on o) = tt
plain-shut unfit = tt

kind-shut : (k : Kind) (n : ℕ) (s : ProofStep) → IsShut (behind_step k n s)
kind-shut Add n s = tt
kind-shut Delete n s = tt
kind-shut Drop n s = tt
kind-shut Fresh n s = refl
kind-shut Remove n s = refl

steps-shut : (m : Move) → IsShut (in_steps m)
steps-shut (ends_step n s) = kind-shut (kind_of s) n s
steps-shut (goes_on o) = tt
steps-shut unfit = tt

zero-shut : (n : ℕ) (s : ProofStep) (t : ProofPart) (g : Stage) → IsShut (with_zero n s t g)
zero-shut n s t stage.Number = tt
zero-shut n s t stage.Kind = tt
zero-shut n s t stage.Hints = refl
zero-shut n s t stage.Targets = refl
zero-shut n s t stage.GroupHints = tt
zero-shut n s t stage.Zero = refl

shut-if : (b : Bool) (x y : EntryMove) → IsShut x → IsShut y → IsShut (if b then x else y)
shut-if true x y h k = h
shut-if false x y h k = k

kinds-shut : (n : ℕ) (s : ProofStep) (t : ProofPart) (v : ℕ) → IsShut (kind_move n s t v)
kinds-shut n s t v =
    let reach : EntryMove = leads (proving n s stage.Zero (begun_part Reach t.number)) in
    let pivot : EntryMove = leads (proving n s stage.Targets (begun_part Pivot t.number)) in
    let implied : EntryMove = leads (proving n s stage.Hints (begun_part Implied t.number)) in
    let third : EntryMove = if v == 3 then reach else misfit in
    let second : EntryMove = if v == 2 then pivot else third in
    shut-if (v == 1) implied second tt (shut-if (v == 2) pivot third tt (shut-if (v == 3) reach misfit tt tt))

number-shut : (n : ℕ) (s : ProofStep) (t : ProofPart) (v : ℕ) (g : Stage) → IsShut (with_number n s t v g)
number-shut n s t v stage.Number = tt
number-shut n s t v stage.Kind = kinds-shut n s t v
number-shut n s t v stage.Hints = tt
number-shut n s t v stage.Targets = tt
number-shut n s t v stage.GroupHints = tt
number-shut n s t v stage.Zero = tt

part-shut : (n : ℕ) (s : ProofStep) (t : ProofPart) (g : Stage) (o : Option ℕ) → IsShut (part_move n s t g o)
part-shut n s t g None = tt
part-shut n s t g (Some v) = shut-if (v == 0) (with_zero n s t g) (with_number n s t v g) (zero-shut n s t g) (number-shut n s t v g)

front-shut : (t : Token) (k : TokenKind) → IsShut (front_move t k)
front-shut t P = tt
front-shut t (Number z) = plain-shut (move None t)
front-shut t Cnf = plain-shut (move None t)
front-shut t Qrat = plain-shut (move None t)
front-shut t E = plain-shut (move None t)
front-shut t A = plain-shut (move None t)
front-shut t D = plain-shut (move None t)
front-shut t U = plain-shut (move None t)
front-shut t R = plain-shut (move None t)
front-shut t Other = plain-shut (move None t)

format-shut : (k : TokenKind) → IsShut (format_move k)
format-shut P = tt
format-shut (Number z) = tt
format-shut Cnf = tt
format-shut Qrat = tt
format-shut E = tt
format-shut A = tt
format-shut D = tt
format-shut U = tt
format-shut R = tt
format-shut Other = tt

profile-shut : (z : ℤ) → IsShut (profile_move z)
profile-shut (pos v) = shut-if (v == 2) (leads (steps None)) misfit tt tt
profile-shut (negsuc v) = tt

version-shut : (k : TokenKind) → IsShut (version_move k)
version-shut P = tt
version-shut (Number z) = profile-shut z
version-shut Cnf = tt
version-shut Qrat = tt
version-shut E = tt
version-shut A = tt
version-shut D = tt
version-shut U = tt
version-shut R = tt
version-shut Other = tt

pub move-shut : (p : Place) (t : Token) → IsShut (place_move p t)
move-shut nowhere t = front-shut t t.kind
move-shut format t = format-shut t.kind
move-shut version t = version-shut t.kind
move-shut (plain o) t = plain-shut (move o t)
move-shut (steps o) t = steps-shut (move o t)
move-shut (proving n s g p) t = part-shut n s p g (number_in t.kind)

pub handed-shut : (p : Place) (t : Token) (n : ℕ) (s : ProofStep) (x : Option ProofPart) (q : Place) → place_move p t ≡ hands n s x q → is_open_at q ≡ true → ⊥
handed-shut p t n s x q e f = let h : is_open_at q ≡ false = subst IsShut e (move-shut p t) in cc

-- what the last token leaves open is refused at the end, on line n
pub open-stops : (p : Place) (t : Token) (q : Place) (a : Option Entry) (line n : ℕ) → Gives (Ok a) (place_move p t) q line → is_open_at q ≡ true →
    parsed (at_end n) p (t ∷ []) ≡ stopped (BadLine n)
open-stops p t q None line n g o =
    ap (λ m. follow m t.line (λ q. parsed (at_end n) q [])) g ∙ ap (λ x. let e : Entries = record { entries = []; refused = x } in e) (open-end n q o)
open-stops p t q (Some e) line n g o = absurd (handed-shut p t e.0 e.1 e.2 q g o)
