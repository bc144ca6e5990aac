use Rattle.std.proofs.Common.{◌≡◌, ◌∙◌, ap, sym, map, string_bytes, rules, true}
use Rattle.clap.specs.Words.{app_of, is_simple_and_free}
use Rattle.ats_words.proofs.Parses.{ats_is_free, words-taken, words-refused, some_of_ok, none_of_err}
use Rattle.ats_words.proofs.reading.words.Goals as goal

pub returns-in-Ok-try_get_matches_from-clause-ok : goal.returns-in-Ok-try_get_matches_from-clause-ok
returns-in-Ok-try_get_matches_from-clause-ok c =
    let free : is_simple_and_free (app_of c.in-Ok.command) ≡ true = ap is_simple_and_free c.in-Ok.ensures.0 ∙ ats_is_free in
    let taken = words-taken c.in-Ok.command (map string_bytes c.args.words.now) c.in-Ok-try_get_matches_from.matches c.in-Ok.ensures.0 c.in-Ok-try_get_matches_from.ensures.matches (c.in-Ok-try_get_matches_from.ensures.kinds free) in
    some_of_ok _ _ _ _ c.ok_or.ensures.value (taken ∙ sym c.order_of.ensures.exact)

pub returns-in-Ok-try_get_matches_from-clause-refused : goal.returns-in-Ok-try_get_matches_from-clause-refused
returns-in-Ok-try_get_matches_from-clause-refused c =
    let free : is_simple_and_free (app_of c.in-Ok.command) ≡ true = ap is_simple_and_free c.in-Ok.ensures.0 ∙ ats_is_free in
    let taken = words-taken c.in-Ok.command (map string_bytes c.args.words.now) c.in-Ok-try_get_matches_from.matches c.in-Ok.ensures.0 c.in-Ok-try_get_matches_from.ensures.matches (c.in-Ok-try_get_matches_from.ensures.kinds free) in
    none_of_err _ _ _ _ _ c.ok_or.ensures.value (taken ∙ sym c.order_of.ensures.exact)

pub returns-clause-refused : goal.returns-clause-refused
returns-clause-refused c _ =
    let free : is_simple_and_free (app_of c.in-Ok.command) ≡ true = ap is_simple_and_free c.in-Ok.ensures.0 ∙ ats_is_free in
    words-refused c.in-Ok.command (map string_bytes c.args.words.now) c.in-Err.error c.in-Ok.ensures.0 (c.in-Err.ensures.kinds free) (λ memory. search (rules, memory))
