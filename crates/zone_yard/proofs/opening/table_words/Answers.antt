use Rattle.zone_yard.proofs.Prelude.{List, sym, ap, ◌∙◌, subst, Offer, spread}
use Rattle.std.proofs.lemmas.List.{map-id}
use Rattle.table_exchange.specs.Tables.{Stands}
use Rattle.zone_machine.specs.Weave.{first_words}
use Rattle.zone_yard.proofs.opening.table_words.Goals as goal

pub first_words-requires : goal.first_words-requires
first_words-requires c = subst (λ (ts : List Offer). Stands ts c.args.opening.now) (sym (map-id c.args.tables.now)) c.requires

pub returns : goal.returns
returns c most =
    c.in_ok-all.ensures
    ∙ ap spread (c.deref.ensures.value ∙ (c.in_ok-words.ensures most
    ∙ ap (λ (ts : List Offer). first_words (record { layout = c.args.layout.now; tables = ts; opening = c.args.opening.now; most = most })) (map-id c.args.tables.now)))
