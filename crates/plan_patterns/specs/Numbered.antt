-- What an entry says, with a number in place of each `{}`.
use Rattle.std.specs.Prelude.{ℕ, List, [], ◌∷◌, ◌++◌, drop, Bool, false, ◌==◌, ◌&&◌, if◌then◌else◌}
use Rattle.toml.specs.Data.{Data, string, integer, float, boolean, datetime, array, table, Items, no_items, item, Members, no_members, member}
use Rattle.plan_patterns.specs.Parts.{put}

-- whether a text begins with `}`
abbrev pub closes : List ℕ → Bool
closes [] = false
closes (b ∷ text) = b == 125

-- a text with a number, which is given as a text, in place of each `{}`
abbrev pub numbered_text : List ℕ → List ℕ → List ℕ
numbered_text number [] = []
numbered_text number (b ∷ text) = if (b == 123) && closes text then number ++ drop 1 (numbered_text number text) else b ∷ numbered_text number text

-- a value with a number in place of each `{}` in its texts and keys
abbrev mutual
  pub numbered : List ℕ → Data → Data
  numbered number (string text) = string (numbered_text number text)
  numbered number (array ds) = array (numbered_items number ds)
  numbered number (table ms) = table (numbered_members number ms no_members)
  numbered number (integer z) = integer z
  numbered number (float x) = float x
  numbered number (boolean b) = boolean b
  numbered number (datetime d) = datetime d

  pub numbered_items : List ℕ → Items → Items
  numbered_items number no_items = no_items
  numbered_items number (item d ds) = item (numbered number d) (numbered_items number ds)

  -- members that are put to those that are done, in order
  pub numbered_members : List ℕ → Members → Members → Members
  numbered_members number no_members done = done
  numbered_members number (member k d ms) done = numbered_members number ms (put (numbered_text number k) (numbered number d) done)
