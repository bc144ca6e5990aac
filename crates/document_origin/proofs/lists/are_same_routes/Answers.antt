use Rattle.std.proofs.Common.{◌≡◌, ◌∙◌, ◌<◌, length, refl, sym, arith, rules}
use Rattle.document_origin.specs.Origin.{point_in}
use Rattle.document_origin.proofs.SameLists.{mapped_at, mapped_same}
use Rattle.document_origin.proofs.lists.are_same_routes.Goals as goal

pub returns-then-ne : goal.returns-then-ne
returns-then-ne c = (
  (λ no. absurd (search (rules, no))),
  λ same.
      let f = point_in c.args.layout.now in
      let g = point_in c.args.planned_layout.now in
      let there : c.loop-i.i < length c.args.route.now = omega arith in
      let planned : c.loop-i.i < length c.args.planned.now = omega (arith, there) in
      let at : c.name_of.result.now ≡ c.name_of-in-loop-i.result.now =
      c.name_of.ensures ∙ mapped_at f g c.args.route.now c.args.planned.now c.loop-i.i there planned same ∙ sym c.name_of-in-loop-i.ensures in
      search (rules, at),
)

pub returns : goal.returns
returns c =
    let size : length c.args.route.now ≡ length c.args.planned.now = omega arith in
    let same =
    mapped_same (point_in c.args.layout.now) (point_in c.args.planned_layout.now) c.args.route.now c.args.planned.now size
    (λ k lt. c.loop-i.invariant k (omega (arith, lt))) in
    ((λ _. same), λ _. refl)
