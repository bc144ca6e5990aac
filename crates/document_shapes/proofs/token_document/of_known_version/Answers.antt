use Rattle.std.proofs.Common.{◌≡◌, true, rules, arith}
use Rattle.std.specs.List.{list_all}
use Rattle.document_shapes.specs.TableRead.{is_of_version}
use Rattle.document_shapes.proofs.FoundParts.{versions-of}
use Rattle.document_shapes.proofs.token_document.of_known_version.Goals as goal

pub returns : goal.returns
returns c =
    let of : list_all (λ t. is_of_version c.in_ok-version.version t) c.in_ok-tables.tables.items ≡ true = search rules in
    record {
      version = search rules;
      points = search rules;
      links = search rules;
      zones = search rules;
      trains = search rules;
      start = search rules;
      tables = search rules;
      read = record { first = omega arith; last = omega arith; tables = versions-of c.in_ok-version.version c.in_ok-tables.tables.items of };
    }
