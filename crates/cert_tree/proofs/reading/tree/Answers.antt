use Rattle.std.proofs.Common.{◌≡◌, List, refl, sym, ◌∙◌, subst}
use Rattle.rail_model.specs.declared.types.Node.{Node}
use Rattle.rail_model.specs.Certificate.{preorder}
use Rattle.cert_tree.specs.Spelling.{tree_of}
use Rattle.cert_tree.proofs.Spell.{read_back}
use Rattle.cert_tree.proofs.reading.tree.Goals as goal

pub spelled-requires-clause-spelled : goal.spelled-requires-clause-spelled
spelled-requires-clause-spelled c =
    subst (λ (ns : List Node). preorder (tree_of ns) ≡ ns) (c.deref.ensures.value ∙ sym c.into.ensures) (read_back c.deref.result.now _ c.in_ok-check_nodes.ensures.spelled refl)
