use Rattle.std.proofs.Common.{◌∙◌, ℕ, ◌<◌, List, length, map, sym, ap, subst}
use Rattle.rail_model.specs.Certificate.{Tree}
use Rattle.rail_model.specs.Table.{Table}
use Rattle.document_json.specs.Doc.{nodes_at}
use Rattle.document_json.proofs.MoreSections.{version_back}
use Rattle.document_orders.specs.Ordered.{KeepsTree, new_tree}
use Rattle.run_orders.specs.RunOrdered.{IsOrderedByRun, IsTextWithRun}
use Rattle.run_orders.proofs.Adding.{if_given, is_ordered, one_each, replaced_is_taken}
use Rattle.run_orders.proofs.ordering.text_with.Goals as goal

pub with_certs-requires : goal.with_certs-requires
with_certs-requires c = c.requires.more.one_each ∙ ap length c.requires.migrated.tables

pub replaced-requires-clause-one_each : goal.replaced-requires-clause-one_each
replaced-requires-clause-one_each c =
    let parts = c.deref.result.now in
    let same = ap (λ (ps : List (Table × Tree)). map (λ p. p.0) ps) c.deref.ensures.value ∙ c.in_ok-parts.ensures.tables in
    one_each c.args.later.now c.args.tables.now parts c.requires.more same

pub replaced-requires-clause-taken : goal.replaced-requires-clause-taken
replaced-requires-clause-taken c =
    let parts = c.deref.result.now in
    let same = ap (λ (ps : List (Table × Tree)). map (λ p. p.0) ps) c.deref.ensures.value ∙ c.in_ok-parts.ensures.tables in
    replaced_is_taken c.args.later.now c.args.tables.now parts c.requires.more same c.requires.taken
    (version_back c.args.doc.now c.args.later.now c.requires.migrated)

pub returns : goal.returns
returns c =
    let D = c.args.doc.now in
    let M = c.in_ok-made.made in
    let J = c.args.run.now in
    let parts = c.deref.result.now in
    let same = ap (λ (ps : List (Table × Tree)). map (λ p. p.0) ps) c.deref.ensures.value ∙ c.in_ok-parts.ensures.tables in
    let trees = subst (λ (ps : List (Table × Tree)). (t : ℕ) → t < length D.tables → KeepsTree (nodes_at D t) (new_tree ps t))
    (sym c.deref.ensures.value) c.in_ok-parts.ensures.trees in
    if_given (λ text. IsTextWithRun M J text.items) (λ text. IsOrderedByRun D J text.items) c.text_if_run.result
    (λ text so. is_ordered c.args.later.now c.args.tables.now parts c.requires.more same D M J text.items
    c.requires.migrated c.in_ok-made.ensures trees so.whole so.is_text so.reads_back) c.text_if_run.ensures
