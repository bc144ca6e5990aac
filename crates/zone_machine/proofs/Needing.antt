-- What a core says of an actor's next entry.
use Rattle.zone_machine.proofs.Prelude.{◌≡◌, ℕ, ◌<◌, List, length, true, Some, refl, sym, subst, arith, IsStrictlyIncreasing, below, control, has, claim_of, zones_of, Setup, Actor, gone, trains_of, table_of, zones, Sound, IsSetup, Is, CoreValue, IsCore}
use Rattle.zone_machine.proofs.InForce.{glance_in as in_force}
use Rattle.zone_machine.proofs.Readable.{Rising-zones, zones_low}
use Rattle.zone_machine.proofs.Refusing.{no_control}

module _ (v now : CoreValue) (core : IsCore v) (is : v ≡ now) where
  made : IsSetup now.setup
  made = subst (λ (x : CoreValue). IsSetup x.setup) is core.made

  sound : Sound now.setup now.world
  sound = subst (λ (x : CoreValue). Sound x.setup x.world) is core.sound

  abbrev S : Setup
  S = now.setup

  -- the zones of the control's entry
  pub control_rising : IsStrictlyIncreasing (below S.layout.zones)
  control_rising = Rising-zones S made control gone 0 1 made.tables.some

  pub control_low : (z : ℕ) → has z (below S.layout.zones) ≡ true → z < 16
  control_low z h =
      let low = zones_low S made control gone 0 1 made.tables.some z h in
      omega (arith, made.layout.few_zones)

  module _ (p : ℕ) (a : Actor) (at : Is now.world p a) where
    -- a table that was glanced is one of the tables
    pub glance_in : (t : ℕ) → a.glance ≡ Some t → t < length S.tables
    glance_in t e = in_force S now.world made sound p a t at e

    -- the zones of a driver's next step under that table
    module _ (low : p < trains_of S) (t : ℕ) (glanced : a.glance ≡ Some t) where
      driver_zones : zones S p a t 1 ≡ zones_of S.layout (table_of S t) (claim_of (table_of S t) p a.position 1)
      driver_zones = rw (no_control S p made low) refl

      pub driver_rising : IsStrictlyIncreasing (zones_of S.layout (table_of S t) (claim_of (table_of S t) p a.position 1))
      driver_rising = subst IsStrictlyIncreasing driver_zones (Rising-zones S made p a t 1 (glance_in t glanced))

      pub driver_low : (z : ℕ) → has z (zones_of S.layout (table_of S t) (claim_of (table_of S t) p a.position 1)) ≡ true → z < 16
      driver_low z h =
          let few = zones_low S made p a t 1 (glance_in t glanced) z (subst (λ (l : List ℕ). has z l ≡ true) (sym driver_zones) h) in
          omega (arith, made.layout.few_zones)
