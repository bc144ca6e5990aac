-- What a table with guards keeps.
use Rattle.std.proofs.Common.{◌≡◌, ℕ, zero, suc, ◌++◌, List, [], ◌∷◌, map, refl, arith, subst, sym}
use Rattle.std.specs.Prelude.{All, slice_set, ◌<◌, length}
use Rattle.std.proofs.lemmas.List.{length-append}
use Rattle.std.proofs.lemmas.List.Elements.{All-append, All-set}
use Rattle.rail_model.specs.Table.{Table, trains}
use Rattle.rail_model.specs.State.{Legal}
use Rattle.rail_model.specs.Move.{Live}
use Rattle.rail_model.proofs.Live.{completes}
use Rattle.rail_model.proofs.Sound.{live}
use Rattle.forbidden_states.specs.Forbid.{Stay, AreStays, forbidding}
use Rattle.state_core.specs.Core.{CanArrive}
use Rattle.state_core.specs.Guard.{guarded, IsGuard}
use Rattle.state_core.proofs.Doomed.{guards_lose_nothing, guards_add_up}
use Rattle.state_core.proofs.Tables.{own_section}
use Rattle.section_protect.specs.Protects.{IsGuarded, KeepsTable, LosesNothing, ProtectedTablesLoseNothing, CertifiedTablesAreExact}

keeps_table : (T : Table) (guards : List (List Stay)) → KeepsTable T (guarded T guards)
keeps_table T guards = record {
  missions_are = refl;
  connections_are = refl;
  sections_are = own_section T guards;
  no_fewer = omega (arith, length-append T.sections (map (forbidding T.missions) guards));
}

pub protected_tables_lose_nothing : ProtectedTablesLoseNothing
protected_tables_lose_nothing T made guards g = (
  subst (KeepsTable T) (sym g.made_is) (keeps_table T guards),
  subst (LosesNothing T) (sym g.made_is) (λ p legal. guards_lose_nothing T guards p g.guards_are legal),
)

-- from a legal state of a live table all trains can arrive
arrives : (T : Table) (p : List ℕ) → Live T → Legal T p → CanArrive T p
arrives T p alive legal =
    let c = completes T p alive legal in
    let run = c.exists in
    (run.0, run.1, run.2, (c.ends run.0 run.1 run.2 run.3).0)

pub certified_tables_are_exact : CertifiedTablesAreExact
certified_tables_are_exact T made guards c p g accepted legal =
    let lossless = (protected_tables_lose_nothing T made guards g).1 p legal in (
      (λ legal_with. lossless.1 (legal_with, arrives made p (live made c accepted) legal_with)),
      (λ run. (lossless.0 run).0),
    )

-- a guard of the table with guards is one more guard of the table
pub one_more : (T made : Table) (guards : List (List Stay)) (stays : List Stay) → IsGuarded T guards made →
    IsGuard made stays → IsGuard T stays
one_more T made guards stays g guard =
    guards_add_up T guards stays g.guards_are (subst (λ (V : Table). IsGuard V stays) g.made_is guard)

only : {X : Type 0} (P : X → Type 0) (x : X) → P x → All P (x ∷ [])
only P x h zero d lt = h
only P x h (suc k) d lt = absurd (omega arith)

-- with one guard more, each is a guard of the table
pub guards_pushed : (T made : Table) (guards next : List (List Stay)) (stays : List Stay) → IsGuarded T guards made →
    IsGuard made stays →
    next ≡ guards ++ stays ∷ [] → All (IsGuard T) next
guards_pushed T made guards next stays g guard pushed =
    subst (All (IsGuard T)) (sym pushed)
    (All-append (IsGuard T) guards (stays ∷ []) g.guards_are
    (only (IsGuard T) stays (one_more T made guards stays g guard)))

-- guards are stays
pub guards_stay : (T : Table) (guards : List (List Stay)) → All (IsGuard T) guards → All (AreStays (trains T)) guards
guards_stay T guards all = λ k d lt. (all k d lt).stays

-- with one guard replaced, each is a guard of the table
pub guards_joined : (T made : Table) (guards next : List (List Stay)) (k : ℕ) (stays : List Stay) →
    IsGuarded T guards made → k < length guards →
    IsGuard made stays → next ≡ slice_set guards k stays → All (IsGuard T) next
guards_joined T made guards next k stays g lt guard replaced =
    subst (All (IsGuard T)) (sym replaced)
    (All-set (IsGuard T) guards k stays (one_more T made guards stays g guard) g.guards_are)
