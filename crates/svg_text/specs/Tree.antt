-- Pictures as contracts see them.
use Rattle.std.specs.Prelude.{ℕ, List}

-- a name with a value
pub record Attribute : Type 0 where
  pub name : List ℕ
  pub value : List ℕ

-- an element with only words in it, and with a title: what a viewer shows when the pointer rests on it; none if it is empty
pub record Shape : Type 0 where
  pub name : List ℕ
  pub attributes : List Attribute
  pub title : List ℕ
  pub words : List ℕ

-- shapes that belong together
pub record Group : Type 0 where
  pub class : List ℕ
  pub attributes : List Attribute
  pub title : List ℕ
  pub shapes : List Shape

-- a whole picture
pub record Picture : Type 0 where
  pub width : ℕ
  pub height : ℕ
  pub title : List ℕ
  pub style : List ℕ
  pub groups : List Group
