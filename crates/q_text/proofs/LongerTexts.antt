-- Texts that grow.
use Rattle.std.proofs.Common.{List, ◌++◌, ℕ, ap, ◌∙◌, append_assoc}
use Rattle.q_text.specs.Texts.{Extends}

pub extends-more : (a b c : List ℕ) → Extends a b → Extends b c → Extends a c
extends-more a b c h k = record { rest = h.rest ++ k.rest; is = k.is ∙ (ap (λ x. x ++ k.rest) h.is ∙ append_assoc a h.rest k.rest) }

pub extends-append : (a b c : List ℕ) → Extends a b → Extends a (b ++ c)
extends-append a b c h = record { rest = h.rest ++ c; is = ap (λ x. x ++ c) h.is ∙ append_assoc a h.rest c }
