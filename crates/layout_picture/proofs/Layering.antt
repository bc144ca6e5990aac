-- Layers that are drawn one after another.
use Rattle.std.proofs.Common.{◌≡◌, ℕ, ◌+◌, ◌<◌, List, [], ◌∷◌, ◌++◌, length, get_or, take, sym, subst}
use Rattle.std.specs.List.{AllZip}
use Rattle.std.specs.Prelude.{Result, Ok, Err, OnOk}
use Rattle.std.proofs.lemmas.List.{take_more}
use Rattle.svg_text.specs.Tree.{Group, Shape}
use Rattle.layout_picture.specs.declared.layers.Layer.{Layer}
use Rattle.layout_picture.specs.Drawn.{IsLayer, Shows, Subject}

-- a layer more, and its group
one_more : (S : Subject) (layers : List Layer) (groups : List Group) (l : Layer) (g : Group) → AllZip (IsLayer S) layers groups → IsLayer S l g
    → AllZip (IsLayer S) (layers ++ l ∷ []) (groups ++ g ∷ [])
one_more S [] [] l g all is = (is, tt)
one_more S [] (h ∷ groups) l g all is = absurd all
one_more S (k ∷ layers) [] l g all is = absurd all
one_more S (k ∷ layers) (h ∷ groups) l g all is = (all.0, one_more S layers groups l g all.1 is)

pub next_layer : (S : Subject) (layers : List Layer) (i : ℕ) (d : Layer) (before after : List Group) (g : Group) → i < length layers
    → AllZip (IsLayer S) (take i layers) before → IsLayer S (get_or layers i d) g → after ≡ before ++ g ∷ [] → AllZip (IsLayer S) (take (i + 1) layers) after
next_layer S layers i d before after g lt so_far is pushed =
    subst (λ (ls : List Layer). AllZip (IsLayer S) ls after) (sym (take_more layers i d lt))
    (subst (AllZip (IsLayer S) (take i layers ++ get_or layers i d ∷ [])) (sym pushed) (one_more S (take i layers) before (get_or layers i d) g so_far is))

-- the shapes of a layer that is known
pub of_layer : {T E : Type 0} (S : Subject) (l known : Layer) (shapes : List Shape) (r : Result T E) → l ≡ known
    → OnOk r (Shows S known shapes) → OnOk r (Shows S l shapes)
of_layer S l known shapes r same = subst (λ (k : Layer). OnOk r (Shows S k shapes)) (sym same)

-- of words nothing is said
pub of_words : {T E : Type 0} (r : Result T E) → OnOk r (Unit {0})
of_words (Ok x) = tt
of_words (Err e) = tt
