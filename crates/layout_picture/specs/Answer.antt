-- What a wish for a picture is answered.
use Rattle.std.specs.Prelude.{◌⊎◌, ℕ, ◌≤◌, List, String, length}
use Rattle.std.specs.declared.alloc.Global.{Global}
use Rattle.rail_model.specs.State.{Legal}
use Rattle.document_json.specs.Doc.{Doc, table_at}
use Rattle.layout_picture.specs.Drawn.{IsDrawn}
use Rattle.layout_picture.specs.declared.answers.Drawn.{Drawn}
use Rattle.layout_picture.specs.declared.answers.Drawn.TheVariants.{Picture, Refused}

-- A picture of a legal state; or words, where there is no such table or the state isn't legal.
abbrev pub IsPictureOrWords : Doc → List (String Global) → ℕ → List ℕ → Drawn → Type 0
IsPictureOrWords D names t p (Picture picture) = Legal (table_at D t) p × IsDrawn D.layout names (table_at D t) p picture.width picture.height picture.groups
IsPictureOrWords D names t p (Refused words) = (length D.tables ≤ t) ⊎ (Legal (table_at D t) p → ⊥)
