use Rattle.std.proofs.Common.{◌≡◌, length, sym, ◌∙◌, ap, arith}
use Rattle.std.specs.Prelude.{vec_len}
use Rattle.std.proofs.lemmas.List.{length-map}
use Rattle.document_json.proofs.Timed.{length-timed}
use Rattle.document_json.proofs.frame.Frame.tables.Goals as goal

counted : (c : goal.After-len) → c.len.result ≡ length c.args.self.now.tables
counted c =
    let own = c.self.inside in
    let ts = own.tables.value.items in
    let items : vec_len own.afters ≡ length own.afters.items = own.afters.ok.0 in
    c.len.ensures ∙ items ∙ ap length c.self.invariant.1 ∙ length-map ts (λ t. t.after)
    ∙ sym (length-timed ts own.times c.self.invariant.0.each_timed) ∙ ap (λ D. length D.tables) c.self.view_is

pub overflow_cast-result : goal.overflow_cast-result
overflow_cast-result c =
    let few = c.self.invariant.0.is.tables.few in
    let size = ap (λ D. length D.tables) c.self.view_is in
    omega (arith, counted c, size, simp length-map at few)

pub returns-clause-count : goal.returns-clause-count
returns-clause-count c = counted c
