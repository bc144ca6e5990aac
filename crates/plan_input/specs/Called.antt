-- What the sections of a document of a plan are called.
use Rattle.std.specs.Prelude.{◌≡◌, ℕ, List, map, Ok, String, Vec, IsSomeAnd}
use Rattle.std.specs.declared.alloc.Global.{Global}
use Rattle.document_json.specs.Doc.{Doc}
use Rattle.document_json.specs.Reading.{doc_of}
use Rattle.document_shapes.specs.Seen.{names_seen}
use Rattle.toml.specs.Data.{Members}
use Rattle.toml.specs.Parse.{parse_document}
use Rattle.plan_input.specs.Named.{section_names}
use Rattle.plan_input.specs.Numbered.{all_names}
use Rattle.plan_input.specs.declared.numbered.Further.TheVariants.{Crossing, Added}
use Rattle.plan_input.specs.declared.called.NamesFound.{NamesFound}
use Rattle.plan_input.specs.declared.called.NamesFound.TheVariants.{Names, Wrong}

-- the names of the sections of a plan's own document P: `crossing 1`, `crossing 2`, .., and behind them those that its text says
abbrev pub own_names : Doc → Members → List (List (List ℕ))
own_names P text = all_names Crossing P (section_names text)

-- the names of the sections of a document D of the plan: those of P, and behind them `added 1`, `added 2`, ..
abbrev pub names_by : Doc → Doc → Members → List (List (List ℕ))
names_by D P text = all_names Added D (own_names P text)

-- The sections of a plan's own document have these names, as the text of the plan says.
abbrev pub AreOwnNames : List ℕ → Doc → List (Vec (String Global) Global) → Type 0
AreOwnNames text P names = IsSomeAnd (parse_document text) (λ document. map names_seen names ≡ own_names P document)

-- The sections of a document of the plan do.
abbrev pub AreCalled : List ℕ → Doc → Doc → List (Vec (String Global) Global) → Type 0
AreCalled text D P names = IsSomeAnd (parse_document text) (λ document. map names_seen names ≡ names_by D P document)

-- The text reads as a document, and as a plan's own one its sections have these names.
pub record HasOwnNames (plan text : List ℕ) (names : List (Vec (String Global) Global)) : Type 0 where
  pub own : Doc
  pub is_document : doc_of text ≡ Ok own
  pub are_names : AreOwnNames plan own names

-- The same of what names were found.
abbrev pub AreNamesIn : List ℕ → List ℕ → NamesFound → Type 0
AreNamesIn plan text (Names names) = HasOwnNames plan text names.items
AreNamesIn plan text (Wrong lines) = Unit {0}
