-- The names that many proofs cite, passed on from one place.
pub use Rattle.std.proofs.Common.{◌≡◌, ◌≢◌, ℕ, zero, suc, ◌<◌, ◌≤◌, ◌==◌, Bool, true, false, not, List, [], ◌∷◌, length, Option, Some, None, refl, arith, inl, inr, subst, sym, find, option_and_then, ◌∙◌, ◌+◌, ◌||◌, cond, ◌++◌, map, ap, flat_map, option_map, is_some, Decides, slice_get, map-id, ◌&&◌, ◌⊎◌, pos, int_lt, eq-eqb, eqb-true, ◌-◌, ◌*◌, take, drop, get_or, append_assoc, length-take, length-drop, take-append-drop, length-append, mul-le-mul, slice_set, append-nil, length-set, below_more, get_or-set_same, get_or-set_other, ◌+ℤ◌, ◌≤ℤ◌, ◌<ℤ◌, ℤ, lit<, reverse, IfSome, All, Contains, MatchOption, if◌then◌else◌, lit≤, nat_lt, unwrap_or, lt-ltb, negsuc, rules, IfOk, Vec, Global, vec_capacity}
pub use Rattle.rail_model.specs.Certificate.{Range, range, full_box, left_half, right_half, IsBox, IsSplit, Tree, IsIn, IsAtEnd, MayBlock, MayBeFull, MayBeHeld, greatest_share, preorder, most_with, IsClash, IsGood, SurelyMoves, least_count, least_share}
pub use Rattle.rail_model.specs.Table.{Table, trains, Connection, point, Mission, last_of, last, limit, change, share, IsTable, Section, place, count, section}
pub use Rattle.cert_maker.specs.Rule.{IsRuleTree, leaves, is_open, blocker, first_open, chosen_from, chosen, middle, ruled, blocker_by_point, blocker_by_section, blocker_by_connection, RuleTree, leaf, stuck, split, first_stuck, written, Makes, first_leaf, clashes, Gives}
pub use Rattle.std.proofs.lemmas.Bool.{cases_eq, cases_lt, cond-true, cond-false, false≢true, iff_false}
pub use Rattle.rail_model.specs.declared.types.Node.TheVariants.{Split, Clash, Overfull, Arrived, Move}
pub use Rattle.cert_maker.specs.Steps.{MayShare, IsLeaf, IsRuleNode, IsStuckBox, IsSpelled, IsPartner, IsRival, ClashOnlyWith, OverfullOnlyWith}
pub use Rattle.cert_maker.specs.Path.{Path, behind, open_boxes, AreForks, IsFork, IsWithin, before, last_split, whole, IsPartOf, IsPath}
pub use Rattle.std.proofs.lemmas.List.{get_or_past, take-take, drop-drop, at_drop_more, drop_all, drop_more, reverse-append, set-set, set-get_or, length-map, map-append, get_or_default, same_lists, take_more}
pub use Rattle.rail_model.specs.Checks.{below, is_at_end, is_good, may_block, may_be_full, may_be_held, places, is_clash}
pub use Rattle.rail_model.specs.declared.types.Node.{Node}
pub use Rattle.std.proofs.lemmas.Int.{ints, by_lt_z}
pub use Rattle.rail_model.specs.Move.{IsFirst, IsFirstOrNone, Stuck}
pub use Rattle.cert_maker.specs.Renumber.{number_in, Renumbers, DifferBySlack, renumbered, tree_renumbered, SlackKeepsTheRule}
pub use Rattle.std.specs.Option.{option_or}
pub use Rattle.state_boxes.specs.Sums.{Lists, AreLists, greatest_count, Summed, AreSums}
pub use Rattle.cert_maker.specs.Numbers.{HasAll, IsGone, IsNew}
