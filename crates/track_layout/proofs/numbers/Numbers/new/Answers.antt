use Rattle.std.proofs.Common.{◌≡◌, ◌∙◌, ◌∷◌, ◌++◌, ap, sym, subst, inr, arith, map, string_bytes, string_eq, true, false, length, Some, option_map}
use Rattle.std.proofs.lemmas.Grind.{common_steps}
use Rattle.std.specs.List.{list_any, position_or_len}
use Rattle.std.specs.Vec.Iter.{into_iter_items}
use Rattle.rail_model.specs.Naming.{first_double}
use Rattle.rail_model.specs.Turns.{unless}
use Rattle.track_layout.specs.declared.numbers.NotNumbered.TheVariants.{Double}
use Rattle.track_layout.proofs.Doubles.{new_name, known_name}
use Rattle.track_layout.proofs.numbers.Numbers.new.Goals as goal

pub returns-then-not-added : goal.returns-then-not-added
returns-then-not-added c =
    let all = c.args.names.items in
    let done = c.loop-name.yielded in
    let name = c.in-Some.name in
    let keys = c.loop-name.invariant.2 in
    let whole : all ≡ done ++ name ∷ into_iter_items c.next.new.self = grind (arith, common_steps, c.in-Some.ensures.steps) in
    let known : list_any (string_eq name) done ≡ true = subst (λ ks. list_any (string_eq name) ks ≡ true) keys (grind (arith, common_steps, c.in_ok-first.ensures.added)) in
    let first : position_or_len (string_eq name) done ≡ c.in_ok-first.first = sym (c.in_ok-first.ensures.index ∙ ap (position_or_len (string_eq name)) keys) in
    let second : length done ≡ c.len-second.result = sym (c.len-second.ensures.len ∙ ap length keys) in
    let found : first_double (map string_bytes all) ≡ Some (c.in_ok-first.first, c.len-second.result) =
    known_name all done (into_iter_items c.next.new.self) name whole known c.loop-name.invariant.4 ∙ (λ i. Some (first i, second i)) in
    inr (ap (λ double. unless (option_map (λ pair. Double pair.0 pair.1) double) (map string_bytes all)) found)

pub loop-name-preserved : goal.loop-name-preserved
loop-name-preserved c =
    let all = c.args.names.items in
    let done = c.loop-name.yielded in
    let name = c.in-Some.name in
    let keys = c.loop-name.invariant.2 in
    let whole : all ≡ done ++ name ∷ into_iter_items c.next.new.self = grind (arith, common_steps, c.in-Some.ensures.steps) in
    let new : list_any (string_eq name) done ≡ false = subst (λ ks. list_any (string_eq name) ks ≡ false) keys (grind (arith, common_steps, c.in_ok-first.ensures.added)) in
    (tt, tt, grind (arith, common_steps, c.in_ok-first.ensures.added, c.in_ok-first.ensures.keys), grind (arith, common_steps, whole), new_name all done (into_iter_items c.next.new.self) name whole new c.loop-name.invariant.4)
