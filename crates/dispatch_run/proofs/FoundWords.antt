-- What clap found is what the words name.
use Rattle.std.proofs.Common.{◌≡◌, List, refl, ap, subst, ◌∙◌, codes}
use Rattle.clap.specs.Words.{App, HasMatchesOf, Text, first_of, first_value, found_of}
use Rattle.clap.specs.declared.parser.matches.ArgMatches.{ArgMatches}
use Rattle.clap.proofs.WalkLemmas.{first_value-rows}
use Rattle.dispatch_run.specs.Words.{dispatcher, document_in}

pub document_found : (app : App) (words : List Text) (m : ArgMatches) → app ≡ dispatcher → HasMatchesOf app words m
    → first_value (found_of m) (codes "document") ≡ document_in words
document_found app words m is has =
    let rows = (subst (λ (a : App). HasMatchesOf a words m) is has) refl in
    first_value-rows (found_of m) (codes "document") ∙ ap (first_of (codes "document")) rows.0
