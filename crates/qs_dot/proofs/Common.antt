-- The words and lemmas of the crates below, and of specs/, that the proofs here use.
pub use Rattle.qs_check.specs.anchors.Anchors.{anchor_token, anchors, anchors_in, block_anchors, blocks_anchors, call_anchors, expr_anchors, formal_anchor, given_anchors, is_anchor, item_anchors}
pub use Rattle.qs_check.specs.anchors.Anchors.{script_anchors, test_anchors}
unfoldable pub use Rattle.qs_dot.specs.ChartDot.{colours_text, name_end, name_start}
pub use Rattle.qs_dot.specs.ChartDot.{close_text, layout_text, lead_line, place_line}
pub use Rattle.qs_dot.specs.ChartLaws.{EndsAreOutcomes, EndsHaveNumbers, HasNumber}
pub use Rattle.qs_dot.specs.Charts.{AreCharted, AreLeads, AreLeadsUpTo, AreMore, ArePlaces, HasPlaceFor, IsBehind, IsLead, IsLeadOf, IsPlaced, IsRowPlaced, IsSooner}
unfoldable pub use Rattle.qs_dot.specs.DotText.{IsDotText}
pub use Rattle.qs_dot.specs.DotText.{DotTextsAreUnique, edge_line, frame_text, graph_nodes_drawn, head_text, held_text, IsBlockDrawn, node_text, place_text}
pub use Rattle.qs_dot.specs.EndText.{client_text, end_text, holds_text, number_in, object_text, same_text}
pub use Rattle.qs_dot.specs.ShortText.{differs, short_client, short_object, short_state}
pub use Rattle.qs_dot.specs.Written.{atom_text, written}
pub use Rattle.qs_dot.specs.declared.chart.Lead.{Lead}
pub use Rattle.qs_dot.specs.node_lines.AnchorLines.{anchor_lines, anchors_from, its_line, its_token, line_anchors, lines_in, numbered, placed_anchors, tokens_or_none}
pub use Rattle.qs_dot.specs.node_lines.Laws.{AnchorsHaveLines, LinesFromOne, NodesHaveLines}
pub use Rattle.qs_dot.specs.node_lines.NodeLines.{anchor_count, block_nodes, blocks_nodes, clients_nodes, first_entry, lines_of_block, script_nodes, statement_nodes, template_nodes}
pub use Rattle.qs_graph.specs.audit.Nodes.{exit, place_at}
pub use Rattle.qs_meaning.proofs.Each.{each_join, each_map, each_snoc}
pub use Rattle.qs_meaning.specs.audit.Configurations.{Configuration, configuration_after, configuration_from, first_configuration, IsComplete, one_block_on}
pub use Rattle.qs_objects.specs.audit.Objects.{values_of}
pub use Rattle.qs_outcomes.specs.Outcomes.{HasMoreThanAfter, IsListedAfter, outcome_at}
pub use Rattle.qs_program.specs.Sound.{IsSound}
pub use Rattle.qs_program.specs.audit.Numbering.{Name, same_name}
pub use Rattle.qs_program.specs.audit.Program.{client_at, ClientShape, no_block, no_client, object_at, own_block, own_in, ProgramShape}
pub use Rattle.qs_script.proofs.tree.Sizes.{size_at}
pub use Rattle.qs_script.specs.audit.tokens.Tokens.{after, byte_step, comment, digits, ends, going_on, nothing, over, Pending, sign, Step, tokens_from, tokens_of, word}
pub use Rattle.qs_script.specs.audit.tree.Tree.{again, assign, choose, choose_else, command, end, leave, query, Stmts}
pub use Rattle.qs_script.specs.declared.tokens.lex.TokenFault.{TokenFault}
pub use Rattle.qs_script.specs.declared.tokens.token.Token.{Token}
pub use Rattle.qs_script.specs.declared.tree.tree.Block.{Block}
pub use Rattle.qs_script.specs.declared.tree.tree.Item.{Item}
pub use Rattle.qs_script.specs.declared.tree.tree.Item.TheVariants.{Client, Object, Started, Template}
pub use Rattle.qs_script.specs.declared.tree.tree.Stmt.{Stmt}
pub use Rattle.qs_script.specs.declared.tree.tree.Stmt.TheVariants.{Assign, Command, If, IfElse, Leave, Query, Repeat}
pub use Rattle.qs_script.specs.tree.Views.{single, size_of, stmts_of}
pub use Rattle.qs_standings.proofs.Inserting.{same, tells}
pub use Rattle.qs_standings.proofs.Lists.{has_back, has_front, has_map, has_some, pairs_join, two_snoc}
pub use Rattle.qs_standings.proofs.Stands.{below_or_past, goes_left, in_program}
pub use Rattle.qs_standings.specs.Lists.{HasOne, NoTwo}
pub use Rattle.qs_standings.specs.Rows.{IsInserted, rows_in, shape_of}
pub use Rattle.qs_standings.specs.Standings.{configuration_in, GoesOn, HasNext, IsStanding, NoneNext, row_of, RowShape, StandingShape}
pub use Rattle.qs_syncset.specs.held.Table.{AreSetsOf, has}
pub use Rattle.qs_text.proofs.Joined.{one_place_more}
pub use Rattle.qs_text.specs.Blocks.{node_at, removed_at}
pub use Rattle.qs_text.specs.audit.Texts.{spaced_value, texts_up_to}
pub use Rattle.std.proofs.Common.{[], ap, append-nil, append_assoc, ap₂, arith, Bool, codes, drop, Err, false, filter, flat_map, get_or, if◌then◌else◌, inl, inr, length, length-append, length-drop}
pub use Rattle.std.proofs.Common.{List, map, nat_eq, Ok, Option, refl, Result, rules, slice_get, Some, subst, suc, sym, take, true, true≢false, zero, ℕ, ⊎_elim, ◌*◌, ◌++◌, ◌+◌, ◌-◌, ◌<◌, ◌||◌, ◌∙◌}
pub use Rattle.std.proofs.Common.{◌∷◌, ◌≡◌, ◌≤◌, ◌⊎◌}
pub use Rattle.std.proofs.lemmas.Bool.Decides.{nat_tests}
pub use Rattle.std.proofs.lemmas.List.{at_drop_more, drop-drop, drop_more, get_or-drop, length-map, map-append, take_more}
pub use Rattle.std.proofs.lemmas.Result.{IfOk-equal, IfOk-weaker, on_ok_weaker}
pub use Rattle.std.specs.List.{AllByRecursion, list_any}
