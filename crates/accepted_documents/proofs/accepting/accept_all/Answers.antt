use Rattle.std.proofs.Common.{◌≡◌, ◌∷◌, ◌++◌, length, refl, sym, ◌∙◌, ap, subst, arith}
use Rattle.std.specs.Vec.Iter.{into_iter_items}
use Rattle.std.proofs.lemmas.Grind.{common_steps}
use Rattle.std.proofs.lemmas.List.{length-map}
use Rattle.document_json.specs.Doc.{Doc, offers_of}
use Rattle.document_json.proofs.Offered.{offer_count}
use Rattle.document_json.proofs.Refusals.{refused-so}
use Rattle.accepted_documents.specs.Accepting.{AreAccepted, IsRejected}
use Rattle.accepted_documents.proofs.AcceptedTables.{AreTaken, certified_offer, certs_of, here_in, taken_more, rejected_here, all_accepted, all_offered}
use Rattle.accepted_documents.proofs.accepting.accept_all.Goals as goal

pub accept_next-requires-clause-few : goal.accept_next-requires-clause-few
accept_next-requires-clause-few g c =
    let D = c.args.doc in
    let all = c.args.parts.items in
    let done = c.loop-part.yielded in
    let rest = into_iter_items c.next.new.self in
    let whole : all ≡ done ++ c.in-Some.part ∷ rest = grind (arith, common_steps, c.in-Some.ensures.steps) in
    let count = ap length c.loop-part.invariant.4.tables_are ∙ length-map done certified_offer in
    let few = c.requires.formed.tables.few in
    omega (arith, count, here_in D all c.requires.tables done rest c.in-Some.part whole, offer_count D, few)

pub returns-in_err-accept_next-clause-rejected : goal.returns-in_err-accept_next-clause-rejected
returns-in_err-accept_next-clause-rejected g c =
    let D = c.args.doc in
    let all = c.args.parts.items in
    let done = c.loop-part.yielded in
    let rest = into_iter_items c.next.new.self in
    let p = c.in-Some.part in
    let e = c.in_err-accept_next.field-0.0 in
    let whole : all ≡ done ++ p ∷ rest = grind (arith, common_steps, c.in-Some.ensures.steps) in
    refused-so (IsRejected D (certs_of all)) c.from_residual.result e c.from_residual.ensures.1
    (rejected_here D all c.requires.tables done rest p whole c.loop-part.checked.tables.items
    c.loop-part.checked.certs.items e c.loop-part.invariant.4 c.in_err-accept_next.ensures.rejected)

pub loop-part-preserved : goal.loop-part-preserved
loop-part-preserved g c =
    let D = c.args.doc in
    let all = c.args.parts.items in
    let done = c.loop-part.yielded in
    let rest = into_iter_items c.next.new.self in
    let p = c.in-Some.part in
    let next = c.in_ok-accept_next.ensures in
    let whole : all ≡ done ++ p ∷ rest = grind (arith, common_steps, c.in-Some.ensures.steps) in (
      tt,
      tt,
      grind (arith, common_steps, whole),
      next.document ∙ c.loop-part.invariant.3,
      taken_more D all c.requires.tables done rest p whole c.loop-part.checked.tables.items
          c.accept_next.new.checked.tables.items c.loop-part.checked.certs.items c.accept_next.new.checked.certs.items
          (certified_offer p) c.loop-part.invariant.4 next.table refl next.cert next.accepted,
    )

pub returns-clause-offers : goal.returns-clause-offers
returns-clause-offers g c =
    let D = c.args.doc in
    let parts = c.args.parts.items in
    let all : parts ≡ c.loop-part.yielded = grind (arith, common_steps, c.in-None.ensures.steps) in
    let tables = c.loop-part.checked.tables.items in
    let certs = c.loop-part.checked.certs.items in
    all_offered D parts c.requires.tables tables certs
    (subst (λ ps. AreTaken D parts ps tables certs) (sym all) c.loop-part.invariant.4)
    ∙ ap offers_of (sym c.loop-part.invariant.3)

pub returns-clause-accepted : goal.returns-clause-accepted
returns-clause-accepted g c =
    let D = c.args.doc in
    let parts = c.args.parts.items in
    let all : parts ≡ c.loop-part.yielded = grind (arith, common_steps, c.in-None.ensures.steps) in
    let tables = c.loop-part.checked.tables.items in
    let certs = c.loop-part.checked.certs.items in
    subst (λ (E : Doc). AreAccepted E certs) (sym c.loop-part.invariant.3)
    (all_accepted D parts c.requires.tables tables certs
    (subst (λ ps. AreTaken D parts ps tables certs) (sym all) c.loop-part.invariant.4) c.requires.trees)
