use Rattle.zone_machine.proofs.Prelude.{◌≡◌, ◌<◌, ◌+◌, ◌==◌, [], ◌∷◌, length, cond, Option, Some, sym, ap, ◌∙◌, subst, slice_get, option_map, nat_lt, then_some, first_of, Footprint, cells_of, claim_of, footprint_of, table_of, NotAllowed, Actor, missing_zone, unknown_cell, IsSetup, CoreValue}
use Rattle.zone_machine.specs.declared.steps.NotAllowed.TheVariants as no
use Rattle.zone_machine.proofs.InForce.{known_in_range}
use Rattle.zone_machine.proofs.Refusing.{driver_list, no_control}
use Rattle.zone_machine.proofs.machine.Core.unkept_refusal.Goals as goal

pub needs-needs-requires-clause-table : goal.needs-needs-requires-clause-table
needs-needs-requires-clause-table g c =
    let at = subst (λ (v : CoreValue). slice_get v.world.actors c.args.number ≡ Some c.args.row.now) (sym c.self.view_is) c.requires.there in
    subst (λ (v : CoreValue). c.args.table < length v.setup.tables) c.self.view_is (known_in_range _ _ c.self.invariant.0.made c.self.invariant.0.sound c.args.number c.args.row.now at c.requires.still c.args.table c.requires.table)

pub returns : goal.returns
returns g c =
    let S = c.args.self.now.setup in
    let w = c.args.self.now.world in
    let list : Footprint → Option NotAllowed = λ f. first_of (option_map (λ z. no.Zone z) (missing_zone c.args.row.now f.zones) ∷ option_map (λ c. no.Unknown c) (unknown_cell c.args.row.now (cells_of f.table f.claim)) ∷ then_some (nat_lt S.most (length w.history + cond (f.claim.steps == 0) 1 f.claim.steps)) (no.Full S.most) ∷ []) in
    let driver = no_control S c.args.number (subst (λ (v : CoreValue). IsSetup v.setup) c.self.view_is c.self.invariant.0.made) c.requires.train in
    let same = ap (λ (a : Actor). footprint_of S.layout (table_of S c.args.table) (claim_of (table_of S c.args.table) c.args.number a.position c.args.steps)) c.row.view_is in
    c.entry_refusal.ensures ∙ (ap list (c.needs-needs.ensures ∙ same) ∙ driver_list S w c.args.number c.args.row.now c.args.steps c.args.table driver c.requires.still c.requires.table)
