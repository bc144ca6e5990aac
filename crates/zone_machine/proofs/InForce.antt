-- What a sound world says of the tables that its actors know.
use Rattle.zone_machine.proofs.Prelude.{◌≡◌, ℕ, ◌<◌, length, false, true≢false, Option, Some, None, refl, sym, ap, ◌∙◌, subst, arith, is_none, unwrap_or, Legal, Yard, number_of, Setup, Actor, World, yard_after, table_of, known_table, Sound, IsSetup, Is}
use Rattle.rail_model.specs.Table.{Table}
use Rattle.rail_model.specs.Yard.{in_force}
use Rattle.table_exchange.specs.Tables.{Stands}
use Rattle.table_exchange.proofs.Histories.{stands_history}
use Rattle.move_claim.specs.declared.cells.Cell.TheVariants.{Table as TableCell}

-- a number that isn't missing is known
pub is_known : (o : Option ℕ) → is_none o ≡ false → (n : ℕ) × (o ≡ Some n)
is_known None e = absurd (true≢false e)
is_known (Some n) e = (n, refl)

module _ (S : Setup) (w : World) (ok : IsSetup S) (s : Sound S w) where
  abbrev y : Yard
  y = yard_after S w.history

  pub stands : Stands S.tables y
  stands = stands_history S.tables S.opening w.history ok.tables ok.opening s.legal

  module _ (p : ℕ) (a : Actor) where
    -- a table that was glanced is one of the tables
    pub glance_in : (t : ℕ) → Is w p a → a.glance ≡ Some t → t < length S.tables
    glance_in t at e = omega (arith, s.glances p a t at e, s.lags, stands.in_range)

    -- who isn't closing knows the table in force
    module _ (at : Is w p a) (free : a.closing ≡ false) where
      is_in_force : (t : ℕ) → number_of TableCell a.known ≡ Some t → y.table ≡ t
      is_in_force t k = (s.knowing p a TableCell t at free k).1 y.table refl

      pub known_in_range : (t : ℕ) → number_of TableCell a.known ≡ Some t → t < length S.tables
      known_in_range t k = omega (arith, stands.in_range, is_in_force t k)

      module _ (knows : is_none (number_of TableCell a.known) ≡ false) where
        pub table_is : known_table a ≡ y.table
        table_is = let k = is_known (number_of TableCell a.known) knows in ap (λ (o : Option ℕ). unwrap_or o 0) k.1 ∙ sym (is_in_force k.0 k.1)

        pub in_range : known_table a < length S.tables
        in_range = omega (arith, table_is, stands.in_range)

        pub T_is : in_force S.tables y ≡ table_of S (known_table a)
        T_is = ap (table_of S) (sym table_is)

        pub legal : Legal (table_of S (known_table a)) y.positions
        legal = subst (λ (t : Table). Legal t y.positions) T_is stands.legal
