-- The members of an entry, with some put in, replaced or left out.
use Rattle.std.specs.Prelude.{ℕ, List, [], ◌∷◌, if◌then◌else◌, is_some, option_map, unwrap_or}
use Rattle.std.specs.Ordering.{nat_cmp, match_ordering}
use Rattle.std.specs.Cmp.Lexicographic.{slice_cmp}
use Rattle.toml.specs.Data.{Data, Items, no_items, item, Members, no_members, member, get_member, same_key}

-- items as a list
abbrev pub listed : Items → List Data
listed no_items = []
listed (item d ds) = d ∷ listed ds

-- members with a value at a key: in place of the key's own, or else at its place in the order
abbrev pub put : List ℕ → Data → Members → Members
put key d no_members = member key d no_members
put key d (member k e ms) = match_ordering (slice_cmp nat_cmp key k) (member key d (member k e ms)) (member k d ms) (member k e (put key d ms))

-- members with another value at a key that they have
abbrev pub replace : List ℕ → Data → Members → Members
replace key d no_members = no_members
replace key d (member k e ms) = if same_key key k then member k d ms else member k e (replace key d ms)

-- members with the value at a key changed, if they have one
abbrev pub changed : List ℕ → (Data → Data) → Members → Members
changed key f ms = unwrap_or (option_map (λ d. replace key (f d) ms) (get_member key ms)) ms

-- members without a key
abbrev pub without : List ℕ → Members → Members
without key no_members = no_members
without key (member k d ms) = if same_key key k then ms else member k d (without key ms)

-- members with a value at a key, if they have none there
abbrev pub put_new : List ℕ → Data → Members → Members
put_new key d ms = if is_some (get_member key ms) then ms else put key d ms

-- members, and others at the keys that they don't have
abbrev pub and_others : Members → Members → Members
and_others own no_members = own
and_others own (member k d ms) = and_others (put_new k d own) ms
