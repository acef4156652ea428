-- Runs of a checker, step by step.
use Rattle.std.proofs.Common.{List, [], ◌∷◌, ◌++◌, refl, sym, ap, ◌∙◌, subst, append-nil, append_assoc}
use Rattle.q_logic.specs.declared.limits.Limits.{Limits}
use Rattle.q_logic.specs.Prelude.{PrenexFormula, Prefix, SameBlocks, blocks, standard, ProofStep, Valid, after, ValidSteps, SameFormula, Run, AreAlike, UndoEntry, Entries, Undos}
use Rattle.q_check.specs.Alike.{Leads}
use Rattle.q_logic.proofs.Common.{alike_swapped, alike_through, alike_valid, alike_after, alike_entries, valid_more}

undos_more : (m : Limits) (F : PrenexFormula) (ss : List ProofStep) (E : PrenexFormula) (s : ProofStep) (us es : List UndoEntry) → ValidSteps m F ss E → Undos F ss us → Entries E s es → Undos F (ss ++ s ∷ []) (us ++ es)
undos_more m F [] E s us es v u e = (es, [], subst (λ (G : PrenexFormula). Entries G s es) (sym v) e, refl, ap (λ (ws : List UndoEntry). ws ++ es) u ∙ sym (append-nil es))
undos_more m F (t ∷ ss) E s us es v (fs, rest, f, r, q) e =
    (fs, rest ++ es, f, undos_more m (after F t) ss E s rest es v.1 r e, ap (λ (ws : List UndoEntry). ws ++ es) q ∙ append_assoc fs rest es)

pub leads_begin : (m : Limits) (F G : PrenexFormula) → AreAlike F G → Leads m F [] G
leads_begin m F G a = record { last = F; steps = refl; alike = a }

pub leads_more : (m : Limits) (F : PrenexFormula) (ss : List ProofStep) (G H : PrenexFormula) (s : ProofStep) → Leads m F ss G → Valid m G s → AreAlike (after G s) H → Leads m F (ss ++ s ∷ []) H
leads_more m F ss G H s l v a = record {
  last = after l.last s;
  steps = valid_more m F ss l.last s l.steps (alike_valid m G l.last s (alike_swapped l.last G l.alike) v);
  alike = alike_through (after l.last s) (after G s) H (alike_after l.last G s l.alike) a;
}

pub leads_undos : (m : Limits) (F : PrenexFormula) (ss : List ProofStep) (G : PrenexFormula) (s : ProofStep) (us es : List UndoEntry) → Leads m F ss G → Undos F ss us → Entries G s es → Undos F (ss ++ s ∷ []) (us ++ es)
leads_undos m F ss G s us es l u e = undos_more m F ss l.last s us es l.steps u (alike_entries G l.last s es (alike_swapped l.last G l.alike) e)

-- what the run leads to is the output up to order
pub leads_run : (F : PrenexFormula) (ss : List ProofStep) (G H : PrenexFormula) → Leads standard F ss G → SameFormula G H → Run F ss H
leads_run F ss G H l s = record {
  last = l.last;
  steps = l.steps;
  same = record {
    same_blocks = subst (λ (P : Prefix). SameBlocks (blocks P) (blocks H.prefix)) (sym l.alike.prefix) s.same_blocks;
    same_clauses = λ C. l.alike.clauses C ∙ s.same_clauses C;
  };
}
