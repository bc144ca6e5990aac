use Rattle.std.proofs.Common.{◌≡◌, ◌++◌, string_bytes}
use Rattle.document_json.specs.Doc.{names_of}
use Rattle.state_sentences.specs.Explanation.{joined_below}
use Rattle.refusal_meanings.specs.IllegalWords.{listed_words}
use Rattle.refusal_meanings.proofs.illegal.write_length.Given as goal

abbrev pub invariant-loop-train : goal.invariant-loop-train
invariant-loop-train l = string_bytes l.out ≡ string_bytes l.initial.out ++ joined_below (listed_words (names_of l.placed.doc.now)) l.train
