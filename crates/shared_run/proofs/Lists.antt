-- Lists of lists, and items put before a list one by one.
use Rattle.std.proofs.Common.{◌≡◌, ◌<◌, ℕ, zero, suc, List, [], ◌∷◌, ◌++◌, refl, length, get_or, arith}
use Rattle.std.specs.List.{AllZip, AllByRecursion, flat_map}
use Rattle.shared_run.specs.Boarding.{onto}

pub onto_append : {A : Type 0} (xs ys later : List A) → onto (xs ++ ys) later ≡ onto ys (onto xs later)
onto_append [] ys later = refl
onto_append (x ∷ xs) ys later = onto_append xs ys (x ∷ later)

-- what holds of each of two lists' items
pub both : {A : Type 0} (P : A → Type 0) (xs ys : List A) → AllByRecursion P (xs ++ ys) → AllByRecursion P xs × AllByRecursion P ys
both P [] ys all = (tt, all)
both P (x ∷ xs) ys all = let more = both P xs ys all.1 in ((all.0, more.0), more.1)

-- what holds of the items of all lists holds of those of each
pub each_part : {A B : Type 0} (P : B → Type 0) (f : A → List B) (xs : List A) → AllByRecursion P (flat_map f xs)
    → (k : ℕ) (d : A) → k < length xs → AllByRecursion P (f (get_or xs k d))
each_part P f [] all k d lt = absurd (omega (arith, lt))
each_part P f (x ∷ xs) all zero d lt = (both P (f x) (flat_map f xs) all).0
each_part P f (x ∷ xs) all (suc k) d lt = each_part P f xs (both P (f x) (flat_map f xs) all).1 k d (omega (arith, lt))

pub zip_append : {A : Type 0} (R : A → A → Type 0) (xs ys us vs : List A) → AllZip R xs us → AllZip R ys vs → AllZip R (xs ++ ys) (us ++ vs)
zip_append R [] ys [] vs one two = two
zip_append R [] ys (u ∷ us) vs one two = absurd one
zip_append R (x ∷ xs) ys [] vs one two = absurd one
zip_append R (x ∷ xs) ys (u ∷ us) vs one two = (one.0, zip_append R xs ys us vs one.1 two)

pub zip_weaker : {A : Type 0} (R S : A → A → Type 0) → ((x y : A) → R x y → S x y) → (xs ys : List A) → AllZip R xs ys → AllZip S xs ys
zip_weaker R S weaker [] [] zip = tt
zip_weaker R S weaker [] (y ∷ ys) zip = absurd zip
zip_weaker R S weaker (x ∷ xs) [] zip = absurd zip
zip_weaker R S weaker (x ∷ xs) (y ∷ ys) zip = (weaker x y zip.0, zip_weaker R S weaker xs ys zip.1)

-- the parts of two lists, one with one
pub zip_parts : {A B : Type 0} (R : A → A → Type 0) (f : B → List A) (xs ys : List B) → AllZip (λ x y. AllZip R (f x) (f y)) xs ys
    → AllZip R (flat_map f xs) (flat_map f ys)
zip_parts R f [] [] zip = tt
zip_parts R f [] (y ∷ ys) zip = absurd zip
zip_parts R f (x ∷ xs) [] zip = absurd zip
zip_parts R f (x ∷ xs) (y ∷ ys) zip = zip_append R (f x) (flat_map f xs) (f y) (flat_map f ys) zip.0 (zip_parts R f xs ys zip.1)

-- what holds of the items of one list gives what holds of those of the other
pub all_zipped : {A : Type 0} (R : A → A → Type 0) (P Q : A → Type 0) → ((x y : A) → R x y → P x → Q y) → (xs ys : List A)
    → AllZip R xs ys → AllByRecursion P xs → AllByRecursion Q ys
all_zipped R P Q gives [] [] zip all = tt
all_zipped R P Q gives [] (y ∷ ys) zip all = absurd zip
all_zipped R P Q gives (x ∷ xs) [] zip all = absurd zip
all_zipped R P Q gives (x ∷ xs) (y ∷ ys) zip all = (gives x y zip.0 all.0, all_zipped R P Q gives xs ys zip.1 all.1)

pub zip_long : {A : Type 0} (R : A → A → Type 0) (xs ys : List A) → AllZip R xs ys → length ys ≡ length xs
zip_long R [] [] zip = refl
zip_long R [] (y ∷ ys) zip = absurd zip
zip_long R (x ∷ xs) [] zip = absurd zip
zip_long R (x ∷ xs) (y ∷ ys) zip = λ i. suc (zip_long R xs ys zip.1 i)

pub zip_same : {A : Type 0} (R : A → A → Type 0) → ((x : A) → R x x) → (xs : List A) → AllZip R xs xs
zip_same R same [] = tt
zip_same R same (x ∷ xs) = (same x, zip_same R same xs)

-- what holds from one list to another and from there to a third
pub zip_then : {A : Type 0} (R S T : A → A → Type 0) → ((x y z : A) → R x y → S y z → T x z) → (xs ys zs : List A) → AllZip R xs ys → AllZip S ys zs → AllZip T xs zs
zip_then R S T gives [] [] [] one two = tt
zip_then R S T gives [] [] (z ∷ zs) one two = absurd two
zip_then R S T gives [] (y ∷ ys) zs one two = absurd one
zip_then R S T gives (x ∷ xs) [] zs one two = absurd one
zip_then R S T gives (x ∷ xs) (y ∷ ys) [] one two = absurd two
zip_then R S T gives (x ∷ xs) (y ∷ ys) (z ∷ zs) one two = (gives x y z one.0 two.0, zip_then R S T gives xs ys zs one.1 two.1)
