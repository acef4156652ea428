-- The lemmas that proofs of other crates cite, passed on from one place. Declares nothing.
pub use Rattle.q_logic.proofs.Numbers.{before_or_at, none_or_some}
pub use Rattle.q_logic.proofs.Booleans.{not-not, or-swap, cond-or, bool_eq-sound}
pub use Rattle.q_logic.proofs.Lists.{all-append, get_or-IsIn, slice_get-IsIn, IsIn-slice_get}
pub use Rattle.q_logic.proofs.Lists.{slice_get-before, slice_get-append, IsIn-drop, IsIn-take, taken}
pub use Rattle.q_logic.proofs.Lists.{take-slice_get, mark_room}
pub use Rattle.q_logic.proofs.Results.{none_of, on_err, ok-iff, ok_then, on_both}
pub use Rattle.q_logic.proofs.Justified.{Run-justified, JustifiedRun, Justified, JustifiedSteps}
pub use Rattle.q_logic.proofs.Justified.{Valid-justified}
pub use Rattle.q_logic.proofs.Codes.{pack-same}
pub use Rattle.q_logic.proofs.PrefixOrder.{existential-is_bound, is_bound-universal}
pub use Rattle.q_logic.proofs.PrefixOrder.{universal-not_existential, outer_existential-free, next-rises}
pub use Rattle.q_logic.proofs.PrefixOrder.{universal-is_bound, unbound-universal}
pub use Rattle.q_logic.proofs.ClauseLemmas.{IsIn-append, IsIn-append_left, literal_eq-itself}
pub use Rattle.q_logic.proofs.ClauseLemmas.{literal_eq-sound, IsIn-outer, literal_eq-negation}
pub use Rattle.q_logic.proofs.ClauseLemmas.{Reads-all_of, all_of-false, all_of-true, circuit_of-none}
pub use Rattle.q_logic.proofs.ClauseLemmas.{has-IsIn, IsIn-has, has_variable-IsIn, IsIn-append_right}
pub use Rattle.q_logic.proofs.ClauseLemmas.{not-negation, has_variable-find}
pub use Rattle.q_logic.proofs.TreeValues.{MatrixTrue-agree, Reads-replaced, value_of-agree}
pub use Rattle.q_logic.proofs.TreeValues.{value_of-replaced}
pub use Rattle.q_logic.proofs.UniversalPivot.{without-IsIn, IsIn-without}
pub use Rattle.q_logic.proofs.Prefixes.{removed-unbound, removed-is_bound, insert-is_existential}
pub use Rattle.q_logic.proofs.Prefixes.{removed-distinct, removed-is_existential, insert-is_bound}
pub use Rattle.q_logic.proofs.Prefixes.{insert-distinct, insert-itself, removed-is_universal}
pub use Rattle.q_logic.proofs.Prefixes.{insert-is_universal, is_bound-first, is_bound-later}
pub use Rattle.q_logic.proofs.Prefixes.{get_or-is_bound, distinct-at}
pub use Rattle.q_logic.proofs.Runs.{clause_eq-sound, one_less-IsIn, at_or_other, clause_eq-itself}
pub use Rattle.q_logic.proofs.Runs.{IsIn-copies, copies-IsIn, SameBlocks-refl, valid_more}
pub use Rattle.q_logic.proofs.Soundness.{after-formula, rebuilt-lawful, same_first, Back-append}
pub use Rattle.q_logic.proofs.Soundness.{from_skolem, rebuilt-skolem}
pub use Rattle.q_logic.proofs.PrefixPlaces.{same_quant-itself, same_quant-through, same_quant-two}
pub use Rattle.q_logic.proofs.Membership.{Contains-IsIn, IsIn-Contains, IsIn-drop_within}
pub use Rattle.q_logic.proofs.Membership.{IsIn-drop_next}
pub use Rattle.q_logic.proofs.MemberPlaces.{test-false, taken-all, item-in, taken-cases, taken-last}
pub use Rattle.q_logic.proofs.MemberPlaces.{taken-more, test-not}
pub use Rattle.q_logic.proofs.ClauseSets.{clause_of-ordered_clause, IsIn-clause_of, clause_of-ordered}
pub use Rattle.q_logic.proofs.ClauseSets.{not_itself_below, clause_of-IsIn, is_clause_of, not_below}
pub use Rattle.q_logic.proofs.FormulaParts.{AllByRecursion-IsIn, proper-lawful, IsBound-is_bound, InRange}
pub use Rattle.q_logic.proofs.FormulaParts.{pairs-Distinct, bound-range}
pub use Rattle.q_logic.proofs.JustifiedRuns.{IsIn-alike, SameClauses, alike-sym, alike-trans}
pub use Rattle.q_logic.proofs.JustifiedRuns.{alike-refl, alike-cons, alike-uncons, one_less-alike}
pub use Rattle.q_logic.proofs.JustifiedRuns.{alike-swap, copies-append, alike-append, alike-append_swap}
pub use Rattle.q_logic.proofs.JustifiedRuns.{one_less-same, Reaches, exists_pivot-fewer, one_less-first}
pub use Rattle.q_logic.proofs.JustifiedRuns.{reaches-alike, reaches-append, reaches-end, reached-more}
pub use Rattle.q_logic.proofs.JustifiedRuns.{reducible-fewer, valid-alike}
pub use Rattle.q_logic.proofs.ClauseByClause.{flat, flat-first, flat-same, alike-swap_front}
pub use Rattle.q_logic.proofs.ImpliedClauses.{negation-negation, implied-subsumed, implied-tautology}
pub use Rattle.q_logic.proofs.ImpliedClauses.{implied-more_clauses, implied-hidden, implied-hidden_new}
pub use Rattle.q_logic.proofs.ImpliedClauses.{implied-longer, same_or_not, IsIn-inverter}
pub use Rattle.q_logic.proofs.NumberedClauses.{live-slot, others-slot, slot-alike, IsIn-has_not}
pub use Rattle.q_logic.proofs.NumberedClauses.{IsIn-without_literal, IsIn-with, IsIn-in_with}
pub use Rattle.q_logic.proofs.NumberedClauses.{slot-set_other, slot-set_none}
pub use Rattle.q_logic.proofs.NumberedClauses.{without-same, with-alike, without_literal-slot}
pub use Rattle.q_logic.proofs.NumberedClauses.{without_literal-swap, live-gone, length-set_slot}
pub use Rattle.q_logic.proofs.NumberedClauses.{slot-below, others-live, live-numbered}
pub use Rattle.q_logic.proofs.PlainRuns.{pure-pivot, blocked-pivot, blocked_forall-pivot}
pub use Rattle.q_logic.proofs.PlainRuns.{pure-reducible}
pub use Rattle.q_logic.proofs.JoinedClauses.{without-shorter, without-other, IsIn-outer_in, insert-IsIn}
pub use Rattle.q_logic.proofs.JoinedClauses.{IsIn-insert, insert-length, union-IsIn, is_tautology-sound}
pub use Rattle.q_logic.proofs.JoinedClauses.{IsIn-put_unless, IsIn-union, put_unless-IsIn}
pub use Rattle.q_logic.proofs.JoinedClauses.{put_unless-more, clause_of-length}
pub use Rattle.q_logic.proofs.ExpandRun.{Expansion, has_none, inner_of, copied-IsIn, ClassA, ClassM}
pub use Rattle.q_logic.proofs.ExpandRun.{ClassU, Classes, not_in_list}
pub use Rattle.q_logic.proofs.ExpandClosure.{above-greatest, Once, expansion_vars-fixed, inner-parts}
pub use Rattle.q_logic.proofs.ExpandClosure.{next-once, all_e, all_inner, expansion_vars-inner}
pub use Rattle.q_logic.proofs.ExpandClosure.{AllInner, expansion_vars-closed, originals-of}
pub use Rattle.q_logic.proofs.Measures.{occurs_var-find, occurs_var-IsIn, size-alike}
pub use Rattle.q_logic.proofs.LiteralOrder.{is_bound-greatest, pairs-ordered, ordered-pairs}
pub use Rattle.q_logic.proofs.LiteralOrder.{without-ordered, Ordered, union-ordered, Before}
pub use Rattle.q_logic.proofs.LiteralOrder.{renamed-ordered, bounded-length, copied-ordered}
pub use Rattle.q_logic.proofs.LiteralOrder.{insert-ordered, ordered-same, without-in_order, codes-grow}
pub use Rattle.q_logic.proofs.Decided.{is_tautology-whole, is_tautology-none}
pub use Rattle.q_logic.proofs.SettledResults.{sweep-twice, swept-in_limits, settled-nothing, sweep-run}
pub use Rattle.q_logic.proofs.Heights.{weight, one, length-one_less, literals-one_less, rise}
pub use Rattle.q_logic.proofs.Heights.{weight-length, FreshUpTo, reaches-valid, weight-one, weight-with}
pub use Rattle.q_logic.proofs.ClauseLoops.{turn-pure, folded, folded-set}
pub use Rattle.q_logic.proofs.ClosureRounds.{before-self}
pub use Rattle.q_logic.proofs.ClauseCounts.{same-sizes}
pub use Rattle.q_logic.proofs.AlikeFormulas.{alike_swapped, implied-within, alike_itself, outers-same}
pub use Rattle.q_logic.proofs.AlikeFormulas.{warranted-within, Within, alike_valid, reducible-within}
pub use Rattle.q_logic.proofs.AlikeFormulas.{alike_after, alike_cause, alike_through, droppable-within}
pub use Rattle.q_logic.proofs.AlikeFormulas.{forall_pivot-within, alike_entries}
