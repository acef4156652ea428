use Rattle.std.proofs.Common.{◌∙◌, refl, sym, inl, inr, true≢false}
use Rattle.q_logic.specs.Prelude.{negation, live}
use Rattle.q_kernel.specs.Prelude.{slots}
use Rattle.q_eliminate.proofs.VariableClauses.{live-ids, plain-side, side-plain, occurs-some, occurs-none, split-of}
use Rattle.q_eliminate.proofs.conditions.split_sign.Goals as goal
use Rattle.q_eliminate.proofs.conditions.split_sign.Goals.{else-is_empty-via-then-is_empty+else-is_empty-2, else-is_empty-via-else-is_empty, else-are_plain-via-then-are_plain+else-are_plain-2, else-are_plain-via-else-are_plain}

pub returns-then-is_empty-2-clause-none : goal.returns-then-is_empty-2-clause-none
returns-then-is_empty-2-clause-none c e s = elim s.occurs [
  | inl o ↦ occurs-none c.args.kernel.now c.args.lit c.args.ids.now c.requires.ids (sym c.is_empty.ensures ∙ c.if-is_empty.true) o
  | inr o ↦ occurs-none c.args.kernel.now (negation c.args.lit) c.args.others.now c.requires.others (sym c.is_empty-then-is_empty.ensures ∙ c.if-is_empty-2.true) o
]

pub are_plain-requires : goal.are_plain-requires
are_plain-requires c = live-ids c.args.kernel.now c.args.lit c.args.ids.now c.requires.ids

pub are_plain-requires-then-are_plain : goal.are_plain-requires-then-are_plain
are_plain-requires-then-are_plain c = live-ids c.args.kernel.now (negation c.args.lit) c.args.others.now c.requires.others

pub returns-then-are_plain-2-clause-split : goal.returns-then-are_plain-2-clause-split
returns-then-are_plain-2-clause-split c l e =
    let k = c.args.kernel.now in
    let r = c.in_ok-outer.ensures.some c.in_ok-outer.outer refl in
    split-of k.prefix (live (slots k)) c.args.lit c.in_ok-outer.outer
    (elim c.else-is_empty.branch [
      | else-is_empty-via-then-is_empty+else-is_empty-2 w ↦ inr (occurs-some k (negation c.args.lit) c.args.others.now c.requires.others (sym w.is_empty-then-is_empty.ensures ∙ w.if-is_empty-2.false))
      | else-is_empty-via-else-is_empty w ↦ inl (occurs-some k c.args.lit c.args.ids.now c.requires.ids (sym c.is_empty.ensures ∙ w.if-is_empty.false))
    ])
    (side-plain k c.args.lit c.args.ids.now c.requires.ids (c.are_plain.ensures.0 c.if-are_plain.true))
    (side-plain k (negation c.args.lit) c.args.others.now c.requires.others (c.are_plain-then-are_plain.ensures.0 c.if-are_plain-2.true))
    r.0 r.1

pub returns-else-are_plain-clause-none : goal.returns-else-are_plain-clause-none
returns-else-are_plain-clause-none c e s =
    let k = c.args.kernel.now in
    elim c.else-are_plain.branch [
      | else-are_plain-via-then-are_plain+else-are_plain-2 w ↦ true≢false (sym (w.are_plain-then-are_plain.ensures.1 (plain-side k (negation c.args.lit) c.args.others.now c.requires.others (λ D m n. s.no_tautology D m (inr n)))) ∙ w.if-are_plain-2.false)
      | else-are_plain-via-else-are_plain w ↦ true≢false (sym (c.are_plain.ensures.1 (plain-side k c.args.lit c.args.ids.now c.requires.ids (λ D m n. s.no_tautology D m (inl n)))) ∙ w.if-are_plain.false)
    ]
