-- The names that a plan gives its sections.
use Rattle.std.specs.Prelude.{◌≡◌, ℕ, List, [], ◌∷◌, codes, map, Some, String, Vec, IsSomeAnd, unwrap_or}
use Rattle.std.specs.declared.alloc.Global.{Global}
use Rattle.document_shapes.specs.Seen.{names_seen}
use Rattle.plan_reading.specs.Agreeing.{text_at}
use Rattle.plan_reading.specs.Said.{entries_at, entries_in}
use Rattle.toml.specs.Data.{Data, Items, no_items, item, Members}
use Rattle.toml.specs.Parse.{parse_document}

-- the name of an entry; empty, if it has none
abbrev pub name_in : Data → List ℕ
name_in entry = unwrap_or (text_at (codes "name") entry) []

-- the names of entries, in order
abbrev pub names_in : Items → List (List ℕ)
names_in no_items = []
names_in (item d ds) = name_in d ∷ names_in ds

-- the names of the sections of further tables, of which these are the entries: each table's own sections, or else those of the text
abbrev pub further_names : Members → Items → List (List (List ℕ))
further_names text no_items = []
further_names text (item d ds) = names_in (entries_in (codes "section") text (Some d)) ∷ further_names text ds

-- the names of the sections of each table of a text: of the first, and of the further ones
abbrev pub section_names : Members → List (List (List ℕ))
section_names text = names_in (entries_at (codes "section") text) ∷ further_names text (entries_at (codes "table") text)

-- These are the names of the sections of each table, as the text of a plan says them.
abbrev pub AreNames : List ℕ → List (Vec (String Global) Global) → Type 0
AreNames text names = IsSomeAnd (parse_document text) (λ document. map names_seen names ≡ section_names document)
