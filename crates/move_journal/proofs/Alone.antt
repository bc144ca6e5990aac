-- Too few words are no line.
use Rattle.std.proofs.Common.{◌≡◌, ℕ, List, [], ◌∷◌, Bool, true, false, cond, Option, Some, None, refl, codes}
use Rattle.std.specs.Option.{option_and_then}
use Rattle.std.specs.Str.{bytes_eq}
use Rattle.rail_model.specs.Names.{Names}
use Rattle.decimal_number.specs.Decimal.{number_of}
use Rattle.move_journal.specs.Words.{move_of, table_of, differs_of, over_of, kept_of, line_of, numbered_of}

either : {A : Type 0} (b : Bool) (x y : Option A) → x ≡ None → y ≡ None → cond b x y ≡ None
either true x y p q = p
either false x y p q = q

then_none : {A B : Type 0} (f : A → Option B) (o : Option A) → ((x : A) → f x ≡ None) → option_and_then f o ≡ None
then_none f None h = refl
then_none f (Some x) h = h x

pub kept_alone : (N : Names) (table kind : List ℕ) → kept_of N (table ∷ kind ∷ []) ≡ None
unfolding kept_of differs_of over_of
kept_alone N table kind = then_none _ (number_of table) (λ t. either (bytes_eq kind (codes "differs")) _ _ refl (either (bytes_eq kind (codes "over")) _ _ refl refl))

pub line_alone : (N : Names) (kind : List ℕ) → line_of N (kind ∷ []) ≡ None
unfolding line_of move_of table_of kept_of
line_alone N kind =
    either (bytes_eq kind (codes "move")) _ _ refl
    (either (bytes_eq kind (codes "table")) _ _ refl
    (either (bytes_eq kind (codes "kept")) _ _ refl refl))

pub number_alone : (N : Names) (number : List ℕ) → numbered_of N (number ∷ []) ≡ None
unfolding numbered_of line_of
number_alone N number = then_none _ (number_of number) (λ n. refl)
