use Rattle.document_facts.specs.Adding.{Adds, Below, Is}
use Rattle.document_facts.specs.Former.{HoldsSince}
use Rattle.document_facts.specs.declared.fact.Fact.TheVariants.{SectionLost}
use Rattle.document_facts.proofs.former.find_gone_in.Given as goal

abbrev pub invariant-loop-section : goal.invariant-loop-section
invariant-loop-section l =
    Adds (HoldsSince l.doc l.former) (Below (λ s. Is (HoldsSince l.doc l.former) (SectionLost l.table s)) l.section) l.initial.found l.found
