-- The names of entries, one by one.
use Rattle.std.proofs.Common.{◌≡◌, ℕ, List, [], ◌∷◌, map, refl, ap}
use Rattle.std.specs.Prelude.{codes, Some}
use Rattle.plan_reading.specs.Said.{entries_in}
use Rattle.toml.specs.Data.{Members}
use Rattle.toml.specs.View.{items_view, view}
use Rattle.toml.specs.declared.value.Value.{Value}
use Rattle.plan_input.specs.Named.{further_names, name_in, names_in}

-- the names of entries are those of the values
pub names_in-values : (vs : List Value) → names_in (items_view vs) ≡ map (λ v. name_in (view v)) vs
names_in-values [] = refl
names_in-values (v ∷ vs) = ap (λ names. name_in (view v) ∷ names) (names_in-values vs)

-- the names of the sections of a further table
abbrev pub names_in_table : Members → Value → List (List ℕ)
names_in_table text own = names_in (entries_in (codes "section") text (Some (view own)))

-- the names of further tables are those of the values
pub further_names-values : (text : Members) (vs : List Value) → further_names text (items_view vs) ≡ map (names_in_table text) vs
further_names-values text [] = refl
further_names-values text (v ∷ vs) = ap (λ names. names_in_table text v ∷ names) (further_names-values text vs)
