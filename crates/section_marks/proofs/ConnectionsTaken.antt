-- The connections of a table have nothing wrong.
use Rattle.std.proofs.Common.{◌≡◌, ◌≢◌, ◌∙◌, ◌↔◌, ℕ, ◌<◌, ◌≤◌, true, false, not, ◌&&◌, ◌==◌, List, length, None, Ok, refl, sym, ap, subst, arith}
use Rattle.std.specs.Prelude.{nat_lt, nat_le}
use Rattle.std.specs.Bool.{then_some}
use Rattle.std.proofs.lemmas.Bool.Decides.{nat_tests}
use Rattle.std.proofs.lemmas.Option.{slice_get-get_or}
use Rattle.rail_model.specs.Table.{Table, Connection, IsConnection, IsSection, IsTable, trains, last}
use Rattle.rail_model.specs.Turns.{unless}
use Rattle.rail_model.proofs.Firsts.{first_below-all, option_or-both, unless-ok}
use Rattle.section_marks.specs.declared.refused.MarkRefused.TheVariants.{Connections, ConnectionTrain, ConnectionPlace}
use Rattle.section_marks.specs.Connecting.{too_many, connection_at, bad_trains, bad_places, connection_refusal, each_refusal, connections_refusal, connected}
use Rattle.section_marks.proofs.Ties.{few_connections, are_connections}

-- the table with other connections
abbrev with_list : Table → List Connection → Table
with_list T list = record T { connections = list }

not_many : (n : ℕ) → n ≤ 32 → too_many n ≡ None
not_many n few = let test : nat_lt 32 n ≡ false = grind (arith, nat_tests) in ap (λ b. then_some b (Connections n)) test

two_trains : (a b n : ℕ) → a < n → b < n → a ≢ b → (nat_lt a n && nat_lt b n && not (a == b)) ≡ true
two_trains a b n la lb d = grind (arith, nat_tests)

two_places : (place last reached other_last : ℕ) → place < last → reached ≤ other_last → (nat_lt place last && nat_le reached other_last) ≡ true
two_places place last reached other_last a b = grind (arith, nat_tests)

connection_passes : (T : Table) (c : ℕ) (k : Connection) → IsConnection T k → connection_refusal T c k ≡ None
connection_passes T c k is =
    option_or-both (bad_trains T c k) _ (ap (λ b. then_some (not b) (ConnectionTrain c)) (two_trains k.train k.other (trains T) is.train is.other is.two))
    (option_or-both (bad_places T c k) None
    (ap (λ b. then_some (not b) (ConnectionPlace c)) (two_places k.place (last T k.train) k.reached (last T k.other) is.place is.reached)) refl)

-- a connection of the table is one of the table with other connections
with_others : (T : Table) (list : List Connection) (k : Connection) → IsConnection T k → IsConnection (with_list T list) k
with_others T list k is = record { train = is.train; other = is.other; two = is.two; place = is.place; reached = is.reached }

without_others : (T : Table) (list : List Connection) (k : Connection) → IsConnection (with_list T list) k → IsConnection T k
without_others T list k is = record { train = is.train; other = is.other; two = is.two; place = is.place; reached = is.reached }

section_stays : (T : Table) (list : List Connection) (s : ℕ) → IsSection T s → IsSection (with_list T list) s
section_stays T list s is = record {
  low_limit = is.low_limit;
  one_each = is.one_each;
  per_place = is.per_place;
  not_below = is.not_below;
  not_above = is.not_above;
}

is_table : (T : Table) (list : List Connection) → IsTable T → connections_refusal T list ≡ None → IsTable (with_list T list)
is_table T list is h = record {
  few_trains = is.few_trains;
  missions = is.missions;
  few_sections = is.few_sections;
  sections = λ s lt. section_stays T list s (is.sections s lt);
  few_connections = few_connections T list h;
  connections = λ c k at. with_others T list k (are_connections T list h c k at);
}

nothing_wrong : (T : Table) (list : List Connection) → IsTable (with_list T list) → connections_refusal T list ≡ None
nothing_wrong T list is =
    option_or-both (too_many (length list)) _ (not_many (length list) is.few_connections)
    (option_or-both (each_refusal T list) None
    (first_below-all (length list) _ (λ c lt. connection_passes T c (connection_at list c)
    (without_others T list (connection_at list c) (is.connections c (connection_at list c) (slice_get-get_or list c _ lt))))) refl)

-- Connections are taken exactly where the table with them is one.
pub connections_taken : (T made : Table) (list : List Connection) → IsTable T
    → (connected T list ≡ Ok made) ↔ ((made ≡ record T { connections = list }) × IsTable made)
unfolding connected
connections_taken T made list is = (
  λ h.
      let answer = unless-ok (connections_refusal T list) (with_list T list) made h in
      (sym answer.1, subst IsTable answer.1 (is_table T list is answer.0)),
  λ h. ap (λ r. unless r (with_list T list)) (nothing_wrong T list (subst IsTable h.0 h.1)) ∙ ap Ok (sym h.0),
)
