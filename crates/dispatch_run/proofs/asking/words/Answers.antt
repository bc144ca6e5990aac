use Rattle.std.proofs.Common.{◌∙◌, map, string_bytes}
use Rattle.dispatch_run.proofs.FoundWords.{document_found}
use Rattle.dispatch_run.proofs.asking.words.Goals as goal

pub returns-in-Ok-try_get_matches_from : goal.returns-in-Ok-try_get_matches_from
returns-in-Ok-try_get_matches_from c =
    c.get_str.ensures ∙ document_found _
    (map string_bytes c.args.words.now) c.in-Ok-try_get_matches_from.matches c.in-Ok.ensures
    c.in-Ok-try_get_matches_from.ensures.matches
