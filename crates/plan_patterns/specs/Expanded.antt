-- A plan whose patterns, counts and ways are written out.
use Rattle.std.specs.Prelude.{ℕ, zero, suc, ℤ, pos, negsuc, List, [], ◌∷◌, length, map, codes, decimal, Bool, bytes_eq, false, not, ◌&&◌, is_some, unwrap_or, find, Option, Some, None, option_map, option_and_then}
use Rattle.std.specs.List.{flat_map, list_all, range_with_len}
use Rattle.toml.specs.Data.{Data, table, array, Members, no_members, as_array, as_integer, as_str, as_table, get, get_member}
use Rattle.toml.specs.View.{items_of}
use Rattle.plan_patterns.specs.Numbered.{numbered}
use Rattle.plan_patterns.specs.Parts.{and_others, changed, listed, without}
use Rattle.plan_patterns.specs.Ways.{laid}

-- whether an entry has a name
abbrev pub is_named : List ℕ → Data → Bool
is_named name entry = unwrap_or (option_map (bytes_eq name) (option_and_then as_str (get (codes "name") entry))) false

-- the keys of the first pattern of a name
abbrev pub pattern_of : List Data → List ℕ → Option Members
pattern_of patterns name = option_and_then as_table (find (is_named name) patterns)

-- the pattern that an entry rests on
abbrev pub base_of : List Data → Members → Option Members
base_of patterns entry = option_and_then (pattern_of patterns) (option_and_then as_str (get_member (codes "pattern") entry))

-- an entry with the keys of the pattern that it rests on, and of those that this rests on, as far as it has none of its own
abbrev pub based : ℕ → List Data → Members → Members
based zero patterns entry = entry
based (suc more) patterns entry =
    unwrap_or (option_map (λ base. based more patterns (and_others (without (codes "pattern") entry) base)) (base_of patterns entry)) entry

-- the copies of an entry, with the numbers from 1 on in place of `{}`: as many as it counts, or itself
abbrev pub copies : Option ℤ → Members → List Data
copies None entry = table entry ∷ []
copies (Some (pos n)) entry = map (λ k. numbered (decimal k) (table (without (codes "count") entry))) (range_with_len 1 n)
copies (Some (negsuc n)) entry = []

-- the entries that an entry counts
abbrev pub counted : Members → List Data
counted entry = copies (option_and_then as_integer (get_member (codes "count") entry)) entry

-- this holds of given patterns and ways
module _ (patterns : List Data) (ways : Members) where
  -- the trains that the keys of an entry stand for: with its pattern's keys, the points of its ways, and one for each number
  abbrev pub trains_by : Members → List Data
  trains_by own = counted (laid ways (based (length patterns) patterns own))

  -- the trains that an entry stands for
  abbrev pub trains_of : Data → List Data
  trains_of entry = unwrap_or (option_map trains_by (as_table entry)) (entry ∷ [])

  -- a list of trains, each as the trains that it stands for
  abbrev pub all_trains : Data → Data
  all_trains entries = unwrap_or (option_map (λ items. array (items_of (flat_map trains_of (listed items)))) (as_array entries)) entries

  -- a part of a plan with its trains written out
  abbrev pub with_trains : Members → Members
  with_trains part = changed (codes "train") all_trains part

  -- a further table, and a list of them, with their trains written out
  abbrev pub own_trains : Data → Data
  own_trains own = unwrap_or (option_map (λ keys. table (with_trains keys)) (as_table own)) own

  abbrev pub all_tables : Data → Data
  all_tables further = unwrap_or (option_map (λ items. array (items_of (map own_trains (listed items)))) (as_array further)) further

  -- a plan with its trains and those of its further tables written out
  abbrev pub written_out : Members → Members
  written_out plan = changed (codes "table") all_tables (with_trains plan)

-- the list, and the members, that a value is; none, if it is none of them
abbrev pub list_of : Option Data → List Data
list_of value = unwrap_or (option_map listed (option_and_then as_array value)) []

abbrev pub table_of : Option Data → Members
table_of value = unwrap_or (option_and_then as_table value) no_members

-- a text without its ways, written out with these patterns
abbrev pub with_patterns : List Data → Members → Members
with_patterns patterns text = written_out patterns (table_of (get_member (codes "ways") text)) (without (codes "ways") text)

-- a plan without its patterns and ways, and with all its trains written out
abbrev pub expanded : Members → Members
expanded text = with_patterns (list_of (get_member (codes "pattern") text)) (without (codes "pattern") text)

-- whether an entry has no pattern and no count
abbrev pub is_plain : Data → Bool
is_plain entry = not (is_some (get (codes "pattern") entry)) && not (is_some (get (codes "count") entry))

-- whether all trains of the list at `train` of a part are such entries
abbrev pub has_plain_trains : Data → Bool
has_plain_trains part = list_all is_plain (list_of (get (codes "train") part))

-- whether a text has no patterns, counts and ways
abbrev pub is_written_out : Members → Bool
is_written_out text =
    not (is_some (get_member (codes "pattern") text))
    && not (is_some (get_member (codes "ways") text))
    && has_plain_trains (table text)
    && list_all has_plain_trains (list_of (get_member (codes "table") text))
