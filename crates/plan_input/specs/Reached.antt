-- What the steps come to in which a plan names the sections of a document.
use Rattle.std.specs.Prelude.{List, string_bytes, ℕ}
use Rattle.document_json.specs.Doc.{Doc}
use Rattle.plan_input.specs.Origin.{HasNames, IsOwn, SayMistakes, SayWrong}
use Rattle.plan_input.specs.declared.called.NamesFound.{NamesFound}
use Rattle.plan_input.specs.declared.called.NamesFound.TheVariants.{Names, Wrong as NamesNone}
use Rattle.plan_input.specs.declared.origin.Own.{Own}
use Rattle.plan_input.specs.declared.origin.Own.TheVariants.{Document, Wrong as HasNone}
use Rattle.plan_input.specs.declared.origin.PlanFile.{PlanFile}

-- The sections of the document that an input is have these names by the plan in a file; or these lines say why not.
abbrev pub IsNaming : PlanFile → List ℕ → Doc → NamesFound → Type 0
IsNaming file input D (Names names) = HasNames file.text.now D names.items
IsNaming file input D (NamesNone lines) = SayWrong file input (string_bytes lines)

-- This is the own document of the plan in a file; or these lines say what is wrong with the plan.
abbrev pub IsOwnOrWrong : PlanFile → Own → Type 0
IsOwnOrWrong file (Document D) = IsOwn file.text.now D
IsOwnOrWrong file (HasNone lines) = SayMistakes file.name.now (string_bytes lines)
