use Rattle.std.proofs.Common.{◌≡◌, ◌∙◌, ap, sym, rules}
use Rattle.std.specs.Prelude.{Ok}
use Rattle.document_json.specs.Reading.{doc_of}
use Rattle.plan_input.proofs.origin.own_document.Goals as goal

pub returns-in-Ok : goal.returns-in-Ok
returns-in-Ok c =
    let read : doc_of c.in_ok-text.text.items ≡ Ok c.in-Ok.doc = search rules in
    record { plan = c.args.plan; is_plan = search rules; is_document = sym (ap doc_of c.in_ok-text.ensures.text) ∙ read }
