use Rattle.std.proofs.Common.{◌≡◌, List, [], ◌∷◌, map, Result, Ok, Err, String, Vec, Global, IfOk, string_bytes, refl}
use Rattle.std.specs.List.{AllZip}
use Rattle.mission_table.proofs.naming.names_of_trains.Goals as goal

-- copies have the same names
same_names : (texts copies : List (String Global)) → AllZip (λ s t. string_bytes t ≡ string_bytes s) texts copies
    → map string_bytes copies ≡ map string_bytes texts
same_names [] [] h = refl
same_names [] (t ∷ ts) h = absurd h
same_names (s ∷ ss) [] h = absurd h
same_names (s ∷ ss) (t ∷ ts) h = let later = same_names ss ts h.1 in λ i. h.0 i ∷ later i

same_where_ok : {E : Type 0} (texts : List (String Global)) (r : Result (Vec (String Global) Global) E)
    → IfOk r (λ v. AllZip (λ s t. string_bytes t ≡ string_bytes s) texts v.items)
    → IfOk r (λ v. map string_bytes v.items ≡ map string_bytes texts)
same_where_ok texts (Ok v) h = same_names texts v.items h
same_where_ok texts (Err e) h = h

pub returns : goal.returns
returns c = same_where_ok c.args.trains.now c.to_vec.result c.to_vec.ensures.ok
