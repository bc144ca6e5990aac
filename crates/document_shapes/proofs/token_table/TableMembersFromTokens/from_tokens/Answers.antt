use Rattle.std.proofs.Common.{◌≡◌, Some, refl, rules}
use Rattle.document_shapes.specs.TableFound.{TableFinds}
use Rattle.document_shapes.specs.TableRead.{ReadsTable}
use Rattle.document_shapes.proofs.FoundLemmas.{takes-found}
use Rattle.document_shapes.proofs.FoundParts.{table-found}
use Rattle.document_shapes.proofs.token_table.TableMembersFromTokens.from_tokens.Goals as goal

pub returns : goal.returns
returns c =
    let found = c.in_ok-found.found in
    let missions : found.missions ≡ Some c.in_ok-missions.missions = search rules in
    takes-found TableFinds ReadsTable found _
    (λ ms h. table-found ms _ found (record { missions = missions; exits = refl; sections = refl; connections = refl; certificate = refl; times = refl; after = refl }) h)
    c.args.depth c.args.tokens.now.reader c.object.new.tokens.reader c.in_ok-found.ensures
