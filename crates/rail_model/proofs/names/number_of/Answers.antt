use Rattle.std.proofs.Common.{◌≡◌, ℕ, ◌<◌, length, map, string_bytes, [], List, String, get_or, sym, ap, ◌∙◌, below_more, Global}
use Rattle.std.proofs.lemmas.List.{get_or-map}
use Rattle.std.proofs.lemmas.Bool.Decides.{Decides-eqb, not_from_Decides}
use Rattle.std.proofs.lemmas.Slice.Eq.{slice_eq-Decides}
use Rattle.rail_model.proofs.names.number_of.Goals as goal

known_at : (names : List (String Global)) (i : ℕ) (s : String Global) → i < length names → s ≡ get_or names i s → get_or (map string_bytes names) i [] ≡ string_bytes s
known_at names i s within is = get_or-map string_bytes names i s [] within ∙ ap string_bytes (sym is)

pub returns-then-eq-clause-found : goal.returns-then-eq-clause-found
returns-then-eq-clause-found c =
    let same = (slice_eq-Decides Decides-eqb _ _ _ c.eq.ensures).0 c.if-eq.true in
    (c.loop-i-test.true, sym same ∙ c.as_bytes.ensures.value ∙ sym (known_at _ _ _ c.loop-i-test.true c.index-names-i.is))

pub loop-i-preserved : goal.loop-i-preserved
loop-i-preserved c =
    let other = not_from_Decides _ (slice_eq-Decides Decides-eqb _ _ _ c.eq.ensures) c.if-eq.false in
    below_more _ _ c.loop-i.invariant (λ e. other (c.as_bytes.ensures.value ∙ sym (known_at _ _ _ c.loop-i-test.true c.index-names-i.is) ∙ sym e))
