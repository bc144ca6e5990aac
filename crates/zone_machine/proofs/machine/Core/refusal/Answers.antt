use Rattle.zone_machine.proofs.Prelude.{◌≡◌, ◌∙◌, sym, subst, Some, slice_get, IsActor, CoreValue}
use Rattle.zone_machine.proofs.Acting.{row_in, not_left, cause_out_of_place, cause_in_place}
use Rattle.zone_machine.proofs.machine.Core.refusal.Goals as goal

pub returns-then-not-is_in_place-clause-cause : goal.returns-then-not-is_in_place-clause-cause
returns-then-not-is_in_place-clause-cause g c =
    let row = c.in-Some.row.now in
    let lookup = c.in-Some.ensures.lookup in
    let there = subst (λ (v : CoreValue). slice_get v.world.actors c.args.number ≡ Some row) c.self.view_is
    (row_in c.deref.result.now c.self.inside.rows.items c.args.number row c.deref.ensures.value lookup.0 lookup.1) in
    let S = c.args.self.now.setup in
    cause_out_of_place S c.args.self.now.world c.args.number row c.args.step there (sym (c.is_in_place.ensures S c.args.number) ∙ c.if-not-is_in_place.true)

pub kind_refusal-requires-clause-there : goal.kind_refusal-requires-clause-there
kind_refusal-requires-clause-there g c =
    let row = c.in-Some.row.now in
    let lookup = c.in-Some.ensures.lookup in
    let there = subst (λ (v : CoreValue). slice_get v.world.actors c.args.number ≡ Some row) c.self.view_is
    (row_in c.deref.result.now c.self.inside.rows.items c.args.number row c.deref.ensures.value lookup.0 lookup.1) in
    there

pub kind_refusal-requires-clause-actor : goal.kind_refusal-requires-clause-actor
kind_refusal-requires-clause-actor g c =
    let row = c.in-Some.row.now in
    let lookup = c.in-Some.ensures.lookup in
    let there = row_in c.deref.result.now c.self.inside.rows.items c.args.number row c.deref.ensures.value lookup.0 lookup.1 in
    let S = c.args.self.now.setup in
    let here = not_left S c.args.number row c.args.step (sym (c.is_in_place.ensures S c.args.number) ∙ c.if-not-is_in_place.false) in
    subst (λ (v : CoreValue). IsActor v.setup c.args.number) c.self.view_is (c.self.invariant.0.sound.present c.args.number row there here)

pub kind_refusal-requires-clause-place : goal.kind_refusal-requires-clause-place
kind_refusal-requires-clause-place g c = sym (c.is_in_place.ensures c.args.self.now.setup c.args.number) ∙ c.if-not-is_in_place.false

pub returns-clause-cause : goal.returns-clause-cause
returns-clause-cause g c =
    let row = c.in-Some.row.now in
    let lookup = c.in-Some.ensures.lookup in
    let there = subst (λ (v : CoreValue). slice_get v.world.actors c.args.number ≡ Some row) c.self.view_is
    (row_in c.deref.result.now c.self.inside.rows.items c.args.number row c.deref.ensures.value lookup.0 lookup.1) in
    let S = c.args.self.now.setup in
    c.kind_refusal.ensures
    ∙ cause_in_place S c.args.self.now.world c.args.number row c.args.step there (sym (c.is_in_place.ensures S c.args.number) ∙ c.if-not-is_in_place.false)
