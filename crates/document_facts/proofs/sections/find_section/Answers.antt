use Rattle.document_facts.proofs.Adding.{both}
use Rattle.document_facts.specs.Adding.{Is, Or}
use Rattle.document_facts.specs.Facts.{Holds}
use Rattle.document_facts.specs.Kinds.{OfDouble, OfIdle, OfSharesOfAll, OfTrainsShares}
use Rattle.document_facts.specs.declared.fact.Fact.TheVariants.{OverfullAtEnd}
use Rattle.document_facts.proofs.sections.find_section.Goals as goal

pub returns : goal.returns
returns c =
    let D = c.args.doc.now in
    both (Holds D) (Or (Or (Or (OfSharesOfAll D c.args.table c.args.section) (OfIdle D c.args.table c.args.section)) (OfDouble D c.args.table c.args.section)) (OfTrainsShares D c.args.table c.args.section)) (Is (Holds D) (OverfullAtEnd c.args.table c.args.section)) _ _ _ (both (Holds D) (Or (Or (OfSharesOfAll D c.args.table c.args.section) (OfIdle D c.args.table c.args.section)) (OfDouble D c.args.table c.args.section)) (OfTrainsShares D c.args.table c.args.section) _ _ _ (both (Holds D) (Or (OfSharesOfAll D c.args.table c.args.section) (OfIdle D c.args.table c.args.section)) (OfDouble D c.args.table c.args.section) _ _ _ (both (Holds D) (OfSharesOfAll D c.args.table c.args.section) (OfIdle D c.args.table c.args.section) _ _ _ c.find_all_shares.ensures c.find_idle.ensures) c.find_double.ensures) c.find_trains.ensures) c.find_overfull.ensures
