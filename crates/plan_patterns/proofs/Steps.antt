-- Items of a route that stand for themselves, and the parts of a plan that is written out.
use Rattle.std.proofs.Common.{◌≡◌, ℕ, zero, suc, ◌-◌, List, [], ◌∷◌, map, codes, Option, Some, None, Vec, Result, Global, Bor, refl, ap, ◌∙◌, subst, arith}
use Rattle.std.specs.Prelude.{IfOk, option_and_then, option_copied, option_map, unwrap_or}
use Rattle.std.specs.List.{flat_map}
use Rattle.toml.specs.Data.{Data, Members, as_str, get_member}
use Rattle.toml.specs.View.{view}
use Rattle.toml.specs.declared.value.Value.{Value}
use Rattle.toml.proofs.Views.{view_of_ref}
use Rattle.plan_patterns.specs.Expanded.{expanded, list_of, table_of, written_out}
use Rattle.plan_patterns.specs.Parts.{without}
use Rattle.plan_patterns.specs.Ways.{along, behind, points_of}

-- an item that names no way is itself
pub points_unsaid : (steps : ℕ) (ways : Members) (d : Data) → (steps ≡ 0 → ⊥) → None ≡ option_and_then (behind 64) (as_str d) → d ∷ [] ≡ points_of steps ways d
points_unsaid zero ways d some unsaid = absurd (some refl)
points_unsaid (suc steps) ways d some unsaid = rw (← unsaid) refl

-- an item whose way isn't there is itself
pub points_lost : (steps : ℕ) (ways : Members) (d : Data) (said : List ℕ) → (steps ≡ 0 → ⊥) → Some said ≡ option_and_then (behind 64) (as_str d)
    → None ≡ along ways (flat_map (points_of (steps - 1) ways)) said → d ∷ [] ≡ points_of steps ways d
points_lost zero ways d said some at lost = absurd (some refl)
points_lost (suc steps) ways d said some at lost =
    let less : suc steps - 1 ≡ steps = omega arith in
    let here : None ≡ along ways (flat_map (points_of steps ways)) said = rw less at lost in
    ap (λ o. unwrap_or o (d ∷ [])) here ∙ ap (λ o. unwrap_or (option_and_then (along ways (flat_map (points_of steps ways))) o) (d ∷ [])) at

-- a list of these is one of those, if they are the same
pub list_is : {E : Type 0} (r : Result (Vec Value Global) E) (ds es : List Data) → ds ≡ es → IfOk r (λ v. map view v.items ≡ ds) → IfOk r (λ v. map view v.items ≡ es)
list_is r ds es same holds = subst (λ xs. IfOk r (λ v. map view v.items ≡ xs)) same holds

-- what a value that is lent stands for
pub seen_of : (o : Option Value) (r : Option (Bor Value)) → option_copied r ≡ o → option_map (λ v. view v.now) r ≡ option_map view o
seen_of o r same = view_of_ref r ∙ ap (option_map view) same

-- a plan that is written out with what was taken out of its text
pub whole : (text first second : Members) (patterns : List Data) (ways : Members) → first ≡ without (codes "pattern") text → second ≡ without (codes "ways") first
    → patterns ≡ list_of (get_member (codes "pattern") text) → ways ≡ table_of (get_member (codes "ways") first) → written_out patterns ways second ≡ expanded text
whole text first second patterns ways first_is second_is patterns_are ways_are = rw (patterns_are, ways_are, second_is, first_is) refl
