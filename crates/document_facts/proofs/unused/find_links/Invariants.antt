use Rattle.document_facts.specs.Adding.{Adds, Below}
use Rattle.document_facts.specs.Counting.{Counts}
use Rattle.document_facts.specs.Facts.{Holds}
use Rattle.document_facts.specs.Kinds.{OfLink}
use Rattle.document_facts.specs.Used.{IsUnusedLink}
use Rattle.document_facts.proofs.unused.find_links.Given as goal

abbrev pub invariant-loop-link : goal.invariant-loop-link
invariant-loop-link l = record {
  counted : Counts (IsUnusedLink l.doc) l.link l.count;
  adds : Adds (Holds l.doc) (Below (OfLink l.doc) l.link) l.initial.found l.found;
}
