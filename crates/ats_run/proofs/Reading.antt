-- Orders that read their input, and orders that read nothing.
use Rattle.std.proofs.Common.{◌≡◌, ℕ, List, [], Option, None, Some, sym, subst}
use Rattle.std.specs.Prelude.{IfSome}
use Rattle.ats_words.specs.declared.orders.Order.{Order}
use Rattle.ats_words.specs.declared.orders.Order.TheVariants.{Generate, Drill}
use Rattle.ats_run.specs.Orders.{Reads, OnInput, HoldsInput}

-- of an order that reads its input a fact of the bytes is asked
pub on_input : (order : Order) (held : Option (List ℕ)) (P : List ℕ → Type 0) → Reads order → IfSome held P → OnInput order held P
on_input (Generate s n) held P reads h = absurd reads
on_input (Drill s n w) held P reads h = absurd reads
on_input order held P reads h = h

pub if_weaker : (held : Option (List ℕ)) (P Q : List ℕ → Type 0) → ((input : List ℕ) → P input → Q input) → IfSome held P → IfSome held Q
if_weaker None P Q f h = tt
if_weaker (Some input) P Q f h = f input h

-- what follows from a fact of the input holds of it too
pub on_weaker : (order : Order) (held : Option (List ℕ)) (P Q : List ℕ → Type 0) → ((input : List ℕ) → P input → Q input) → OnInput order held P → OnInput order held Q
on_weaker (Generate s n) held P Q f h = f [] h
on_weaker (Drill s n w) held P Q f h = f [] h
on_weaker order held P Q f h = if_weaker held P Q f h

-- what holds of the bytes that were read holds of the input
pub of_bytes : (order : Order) (held : Option (List ℕ)) (bytes : List ℕ) (P : List ℕ → Type 0) → OnInput order held (λ input. bytes ≡ input) → P bytes → OnInput order held P
of_bytes order held bytes P same h = on_weaker order held (λ input. bytes ≡ input) P (λ input is. subst P is h) same

-- what is asked of the input holds of it
pub of_input : (order : Order) (held : Option (List ℕ)) (input : List ℕ) (P : List ℕ → Type 0) → HoldsInput order held input → OnInput order held P → P input
of_input (Generate s n) held input P is h = subst P (sym is) h
of_input (Drill s n w) held input P is h = subst P (sym is) h
of_input order held input P is h = subst (λ (o : Option (List ℕ)). IfSome o P) is h
