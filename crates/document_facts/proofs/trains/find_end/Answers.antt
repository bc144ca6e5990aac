use Rattle.std.proofs.Common.{◌<◌, ℕ, subst}
use Rattle.document_facts.proofs.Adding.{nothing, one, only_one}
use Rattle.document_facts.proofs.Tests.{always, first_one}
use Rattle.document_facts.specs.Facts.{Holds}
use Rattle.document_facts.specs.declared.fact.Fact.TheVariants.{EndsAsEarlier}
use Rattle.document_json.specs.Doc.{table_at}
use Rattle.document_facts.specs.Kinds.{OfTrain}
use Rattle.document_facts.specs.Counting.{IsFirst}
use Rattle.document_facts.specs.Sections.{EndTogether}
use Rattle.document_facts.proofs.trains.find_end.Goals as goal

pub returns-in-Some : goal.returns-in-Some
returns-in-Some c =
    let D = c.args.doc.now in
    let t = c.args.table in
    let i = c.args.train in
    let r = c.in-Some.earlier in
    let first = subst (λ T. IsFirst (λ j. EndTogether T j i) i r) c.table_of.ensures.table c.in-Some.ensures in
    only_one (Holds D) (EndsAsEarlier t i) r _ _ (λ j right. first_one (λ j. EndTogether (table_at D t) j i) i i j r right.1 first)
    (one (Holds D) _ (EndsAsEarlier t i r) _ _ (always (Holds D (EndsAsEarlier t i r)) (c.requires, first)) c.add_if.ensures)

pub returns-in-None : goal.returns-in-None
returns-in-None c =
    let D = c.args.doc.now in
    let t = c.args.table in
    let i = c.args.train in
    let none = subst (λ T. (j : ℕ) → j < i → EndTogether T j i → ⊥) c.table_of.ensures.table c.in-None.ensures in
    nothing (Holds D) (OfTrain D t i) _ (λ f is. none is.0 is.1.1.1.0 is.1.1.1.1)
