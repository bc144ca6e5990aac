use Rattle.std.proofs.Common.{◌≡◌, ◌∙◌, List, ℕ, length, map, get_or, sym, ap, arith}
use Rattle.std.specs.Prelude.{vec_len}
use Rattle.std.proofs.lemmas.List.{length-map, get_or-map}
use Rattle.document_json.proofs.FormedDoc.{no_table}
use Rattle.document_json.proofs.Timed.{length-timed, afters-timed}
use Rattle.document_json.proofs.frame.Frame.after.Goals as goal

pub index-requires : goal.index-requires
index-requires c =
    let own = c.self.inside in
    let ts = own.tables.value.items in
    let items : vec_len own.afters ≡ length own.afters.items = own.afters.ok.0 in
    let counted = ap length c.self.invariant.1 ∙ length-map ts (λ t. t.after) in
    let timed = length-timed ts own.times c.self.invariant.0.each_timed in
    let size = ap (λ D. length D.tables) c.self.view_is in
    omega (arith, items, counted, timed, size, c.requires)

pub returns-clause-after : goal.returns-clause-after
returns-clause-after c =
    let own = c.self.inside in
    let D = c.args.self.now in
    let all = c.self.invariant.1 ∙ sym (afters-timed own.tables.value.items own.times c.self.invariant.0.each_timed) ∙ ap (λ D. map (λ t. t.after) D.tables) c.self.view_is in
    c.index.ensures ∙ ap (λ (ns : List ℕ). get_or ns c.args.table c.index.result.now) all ∙ get_or-map (λ t. t.after) D.tables c.args.table no_table c.index.result.now c.requires
