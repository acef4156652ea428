-- The words of the theory, passed on from one place. Declares nothing.
pub use Rattle.q_logic.specs.Literals.{Literal, negation, IsBelow, pack, literal_eq, number_of}
pub use Rattle.q_logic.specs.Literals.{bool_eq, unpack}
pub use Rattle.q_logic.specs.Formulas.{Clause, IsIn, Prefix, Matrix, PrenexFormula}
pub use Rattle.q_logic.specs.Prefixes.{is_bound, is_existential, is_universal, Distinct, is_exists}
pub use Rattle.q_logic.specs.Prefixes.{outer_or_same, IsFormula, same_quant, blocks, Closed}
pub use Rattle.q_logic.specs.Prefixes.{SameBlocks, Block, universal_before, IsNext, run_to}
pub use Rattle.q_logic.specs.Prefixes.{push_block, OuterOrSame}
pub use Rattle.q_logic.specs.Parts.{ArePairs, IsProper, AreLawful, IsBound, AreEnds}
pub use Rattle.q_logic.specs.Parts.{clauses_between}
pub use Rattle.q_logic.specs.Truth.{Assignment, Holds, with_value, signed, ClauseTrue, LiteralTrue}
pub use Rattle.q_logic.specs.Truth.{literal_true}
pub use Rattle.q_logic.specs.Circuits.{Circuit, value_of, inverter, conjunction, Reads, input}
pub use Rattle.q_logic.specs.Circuits.{constant, disjunction, replaced, choice}
pub use Rattle.q_logic.specs.Skolems.{Strategy, Lawful, given, SkolemOf, circuit_of, or_input}
pub use Rattle.q_logic.specs.Skolems.{outcome, map_circuit, reread, strategy_of, where_true}
pub use Rattle.q_logic.specs.Propagation.{Implied, negations, Chain, Conflicts, begin, more}
pub use Rattle.q_logic.specs.Pivots.{without, outer, keeps, ExistsPivot, ForallPivot}
pub use Rattle.q_logic.specs.Reach.{Reducible, Reached, first, next}
pub use Rattle.q_logic.specs.Steps.{ProofStep, delete, literals_in, Within, add, drop_literal}
pub use Rattle.q_logic.specs.Steps.{fresh, remove_variable, one_less, removed_from, after}
pub use Rattle.q_logic.specs.Steps.{insert_after, Valid, IsWarranted, KeepsLimits, IsAbsent, Cause}
pub use Rattle.q_logic.specs.Steps.{clause_eq, IsDroppable, FirstPivot, IsFresh}
pub use Rattle.q_logic.specs.Runs.{AreAlike, copies, Run, ValidSteps, SameFormula}
pub use Rattle.q_logic.specs.Undos.{UndoEntry, Undos, OutersOf, Back, removed, freshened, pivot}
pub use Rattle.q_logic.specs.Undos.{all_of, Entries, literal_circuit, raised, some_of, with_circuit}
pub use Rattle.q_logic.specs.Undos.{pivoted, PivotEntry, every_outer, taken_back}
pub use Rattle.q_logic.specs.Limits.{standard, AreModerate, AreWithin}
pub use Rattle.q_logic.specs.Clauses.{clause_of, insert}
pub use Rattle.q_logic.specs.StepForms.{first_of, positive, IsFirst, kind_of, step_of, IsStepForm}
pub use Rattle.q_logic.specs.StepForms.{in_front, literals_of, IsStep}
pub use Rattle.q_logic.specs.Sweep.{has_variable, occurs, swept, occurring, IsSwept, has_empty}
pub use Rattle.q_logic.specs.Sweep.{falsity}
pub use Rattle.q_logic.specs.Measure.{size_of, measure_of, existentials_in, one_if, universals_in}
pub use Rattle.q_logic.specs.Certificates.{CertificateView, trees_of, gate_at, falsum, input_at}
pub use Rattle.q_logic.specs.Certificates.{Gate, GateNode, IsThere, Operand, NamedOutput}
pub use Rattle.q_logic.specs.Certificates.{gate_trees, AreGates, operand_tree, node_tree, gate_tree}
pub use Rattle.q_logic.specs.Certificates.{output_named, tree_of_some, tree_of}
pub use Rattle.q_logic.specs.Sets.{has, with_literal, IsTautology, each_without, without_literal}
pub use Rattle.q_logic.specs.Sets.{OccursIn, IsSubset, is_tautology, put_unless_tautology, union}
pub use Rattle.q_logic.specs.Sets.{missing, negated_in}
pub use Rattle.q_logic.specs.InLimits.{IsInLimits, greatest, larger_of}
pub use Rattle.q_logic.specs.Numbered.{live, Slots, slot, others, formula_of, clauses_at, set_slot}
pub use Rattle.q_logic.specs.Numbered.{put_first, numbered}
pub use Rattle.q_logic.specs.Targets.{place, Target, expand_universal, merge, cover, strengthen}
pub use Rattle.q_logic.specs.Targets.{subsumed, blocked, blocked_forall, cut, eliminate, pure}
pub use Rattle.q_logic.specs.Targets.{tautology, unit}
pub use Rattle.q_logic.specs.Merging.{Mergeable, merged, renamed, Binary, Joined, renamed_literal}
pub use Rattle.q_logic.specs.Merging.{merged_one}
pub use Rattle.q_logic.specs.Eliminating.{resolve_all, resolvent, resolve_one, clauses_of, AllOuter}
pub use Rattle.q_logic.specs.Eliminating.{clauses_not_of, resolvents, Eliminable}
pub use Rattle.q_logic.specs.Expanding.{inner_existential, shares, expansion_vars, copied}
pub use Rattle.q_logic.specs.Expanding.{Expandable, in_list, copied_literal, Spread, copy_of}
pub use Rattle.q_logic.specs.Expanding.{expanded, insert_all, touched_neither, touches}
pub use Rattle.q_logic.specs.Rules.{Fits, Applicable, change, shortened, result_of, assigned}
pub use Rattle.q_logic.specs.Rules.{head_of}
pub use Rattle.q_logic.specs.Counts.{Rose}
pub use Rattle.q_logic.specs.Searching.{nothing, Node, Tally, Test, explored, goes_on, leaf}
pub use Rattle.q_logic.specs.Searching.{one_more, then_second, by_verdict, plus, worse}
pub use Rattle.q_logic.specs.Hints.{Chained, Follows, IsRefuted, LeavesOne}
pub use Rattle.q_logic.specs.Hinted.{ProofPart, NumberedFormula, plain, Hinted, begun, hinted_after}
pub use Rattle.q_logic.specs.Hinted.{HintGroup, HintedValid, HintedSteps, strip, Shows, HintedCause}
pub use Rattle.q_logic.specs.Hinted.{numbers_with, Resolved, ShowsDrop, HintedRun, beside}
pub use Rattle.q_logic.specs.Hinted.{IsUndroppable, ShowsPivot, ShowsForall, ShowsImplied}
