use Rattle.std.proofs.Common.{arith}
use Rattle.std.proofs.lemmas.Int.{ints}
use Rattle.document_facts.proofs.Extremes.{count_within}
use Rattle.document_facts.proofs.laws.never_binding_sections_keep_nothing_out.Goals as goal

pub returns : goal.returns
returns c = λ T s p never in_range. let counted = count_within T s p in_range in omega (arith, ints)
