-- What is called by the names that the entries of a plan's text give.
use Rattle.std.proofs.Common.{◌≡◌, ◌∙◌, List, ℕ, map, ap, String, Vec, Global}
use Rattle.std.specs.Prelude.{Option, Some, None, IsSomeAnd}
use Rattle.document_shapes.specs.Seen.{names_seen}
use Rattle.toml.specs.Data.{Members}

-- names that are of others, which are of a text, are of the text
pub of_text : (text : Option Members) (first all : List (Vec (String Global) Global)) (named : Members → List (List (List ℕ)))
    (more : List (List (List ℕ)) → List (List (List ℕ))) → IsSomeAnd text (λ document. map names_seen first ≡ named document) →
    map names_seen all ≡ more (map names_seen first) → IsSomeAnd text (λ document. map names_seen all ≡ more (named document))
of_text None first all named more was is = was
of_text (Some document) first all named more was is = is ∙ ap more was
