-- A plan that has nothing to write out, part by part.
use Rattle.std.proofs.Common.{◌≡◌, ℕ, List, [], ◌∷◌, ◌&&◌, true, not, Less, Equal, Greater, nat_cmp, is_eq, Option, Some, None, option_map, codes, refl, sym, ap, ◌∙◌, map}
use Rattle.std.specs.Prelude.{if◌then◌else◌, is_some, unwrap_or}
use Rattle.std.specs.Cmp.Lexicographic.{slice_cmp}
use Rattle.std.specs.List.{flat_map, list_all}
use Rattle.std.specs.Ordering.{match_ordering}
use Rattle.std.proofs.lemmas.Bool.{and_parts, false≢true}
use Rattle.std.proofs.lemmas.Option.{none-some, same_Some}
use Rattle.toml.specs.Data.{Data, string, integer, float, boolean, datetime, array, table, Items, no_items, item, Members, no_members, member, get_member}
use Rattle.toml.specs.View.{items_of}
use Rattle.plan_patterns.specs.Expanded.{all_tables, all_trains, expanded, has_plain_trains, is_plain, is_written_out, list_of, own_trains, trains_by, trains_of, with_trains}
use Rattle.plan_patterns.specs.Parts.{changed, listed, replace, without}
use Rattle.plan_patterns.specs.Ways.{laid, laid_route, points_of}

-- the same value in its place changes nothing
replace_same : (k : List ℕ) (d : Data) (ms : Members) → get_member k ms ≡ Some d → replace k d ms ≡ ms
replace_same k d no_members here = refl
replace_same k d (member l e ms) here =
    elim (slice_cmp nat_cmp k l) as (λ o. match_ordering o (get_member k ms) (Some e) (get_member k ms) ≡ Some d → (if is_eq o then member l d ms else member l e (replace k d ms)) ≡ member l e ms) [
      | Less ↦ λ h. ap (member l e) (replace_same k d ms h)
      | Equal ↦ λ h. ap (λ x. member l x ms) (sym (same_Some e d h))
      | Greater ↦ λ h. ap (member l e) (replace_same k d ms h)
    ] here

-- nothing is left out at a key that isn't there
without_missing : (k : List ℕ) (ms : Members) → get_member k ms ≡ None → without k ms ≡ ms
without_missing k no_members none = refl
without_missing k (member l e ms) none =
    elim (slice_cmp nat_cmp k l) as (λ o. match_ordering o (get_member k ms) (Some e) (get_member k ms) ≡ None → (if is_eq o then ms else member l e (without k ms)) ≡ member l e ms) [
      | Less ↦ λ h. ap (member l e) (without_missing k ms h)
      | Equal ↦ λ h. absurd (none-some e (sym h))
      | Greater ↦ λ h. ap (member l e) (without_missing k ms h)
    ] none

changed_same : (k : List ℕ) (f : Data → Data) (ms : Members) → ((d : Data) → get_member k ms ≡ Some d → f d ≡ d) → changed k f ms ≡ ms
changed_same k f ms same =
    elim (get_member k ms) as (λ o. get_member k ms ≡ o → ((d : Data) → o ≡ Some d → f d ≡ d) → unwrap_or (option_map (λ d. replace k (f d) ms) o) ms ≡ ms) [
      | None ↦ λ at keeps. refl
      | Some d ↦ λ at keeps. rw (keeps d refl) (replace_same k d ms at)
    ] refl same

absent : (o : Option Data) → not (is_some o) ≡ true → o ≡ None
absent None h = refl
absent (Some d) h = absurd (false≢true h)

items_same : (ds : Items) → items_of (flat_map (points_of 0 no_members) (listed ds)) ≡ ds
items_same no_items = refl
items_same (item d ds) = ap (item d) (items_same ds)

route_same : (route : Data) → laid_route no_members route ≡ route
route_same (array ds) = ap array (items_same ds)
route_same (string s) = refl
route_same (integer z) = refl
route_same (float x) = refl
route_same (boolean b) = refl
route_same (datetime d) = refl
route_same (table ms) = refl

train_same : (own : Members) → is_plain (table own) ≡ true → trains_by [] no_members own ≡ table own ∷ []
train_same own plain =
    let (base, count) = and_parts (not (is_some (get_member (codes "pattern") own))) (not (is_some (get_member (codes "count") own))) plain in
    let laid_is : laid no_members own ≡ own = changed_same (codes "route") (laid_route no_members) own (λ d at. route_same d) in
    let none : get_member (codes "count") own ≡ None = absent _ count in
    rw (laid_is, none) refl

entry_same : (entry : Data) → is_plain entry ≡ true → trains_of [] no_members entry ≡ entry ∷ []
entry_same (table own) plain = train_same own plain
entry_same (array ds) plain = refl
entry_same (string s) plain = refl
entry_same (integer z) plain = refl
entry_same (float x) plain = refl
entry_same (boolean b) plain = refl
entry_same (datetime d) plain = refl

entries_same : (ds : Items) → list_all is_plain (listed ds) ≡ true → items_of (flat_map (trains_of [] no_members) (listed ds)) ≡ ds
entries_same no_items plain = refl
entries_same (item d ds) plain =
    let (here, more) = and_parts (is_plain d) (list_all is_plain (listed ds)) plain in
    rw (entry_same d here) (ap (item d) (entries_same ds more))

trains_same : (entries : Data) → list_all is_plain (list_of (Some entries)) ≡ true → all_trains [] no_members entries ≡ entries
trains_same (array ds) plain = ap array (entries_same ds plain)
trains_same (table ms) plain = refl
trains_same (string s) plain = refl
trains_same (integer z) plain = refl
trains_same (float x) plain = refl
trains_same (boolean b) plain = refl
trains_same (datetime d) plain = refl

part_same : (part : Members) → has_plain_trains (table part) ≡ true → with_trains [] no_members part ≡ part
part_same part plain =
    changed_same (codes "train") (all_trains [] no_members) part (λ d at. trains_same d (ap (λ o. list_all is_plain (list_of o)) (sym at) ∙ plain))

own_same : (own : Data) → has_plain_trains own ≡ true → own_trains [] no_members own ≡ own
own_same (table keys) plain = ap table (part_same keys plain)
own_same (array ds) plain = refl
own_same (string s) plain = refl
own_same (integer z) plain = refl
own_same (float x) plain = refl
own_same (boolean b) plain = refl
own_same (datetime d) plain = refl

each_same : (ds : Items) → list_all has_plain_trains (listed ds) ≡ true → items_of (map (own_trains [] no_members) (listed ds)) ≡ ds
each_same no_items plain = refl
each_same (item d ds) plain =
    let (here, more) = and_parts (has_plain_trains d) (list_all has_plain_trains (listed ds)) plain in
    rw (own_same d here, each_same ds more)

tables_same : (further : Data) → list_all has_plain_trains (list_of (Some further)) ≡ true → all_tables [] no_members further ≡ further
tables_same (array ds) plain = ap array (each_same ds plain)
tables_same (table ms) plain = refl
tables_same (string s) plain = refl
tables_same (integer z) plain = refl
tables_same (float x) plain = refl
tables_same (boolean b) plain = refl
tables_same (datetime d) plain = refl

-- a plan with nothing to write out stays
pub stays : (text : Members) → is_written_out text ≡ true → expanded text ≡ text
stays text plain =
    let bases = not (is_some (get_member (codes "pattern") text)) in
    let ways = not (is_some (get_member (codes "ways") text)) in
    let trains = has_plain_trains (table text) in
    let tables = list_all has_plain_trains (list_of (get_member (codes "table") text)) in
    let (first, last) = and_parts ((bases && ways) && trains) tables plain in
    let (both, of_trains) = and_parts (bases && ways) trains first in
    let (no_bases, no_ways) = and_parts bases ways both in
    let base_is : get_member (codes "pattern") text ≡ None = absent _ no_bases in
    let way_is : get_member (codes "ways") text ≡ None = absent _ no_ways in
    let tables_are = changed_same (codes "table") (all_tables [] no_members) text (λ d at. tables_same d (ap (λ o. list_all has_plain_trains (list_of o)) (sym at) ∙ last)) in
    rw (base_is, without_missing (codes "pattern") text base_is, way_is, without_missing (codes "ways") text way_is, part_same text of_trains) tables_are
