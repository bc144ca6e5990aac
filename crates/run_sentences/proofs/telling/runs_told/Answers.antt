use Rattle.std.proofs.Common.{◌++◌, ◌∙◌, ap, subst, sym}
use Rattle.rail_model.specs.Names.{Names}
use Rattle.run_sentences.specs.Told.{HasNames, known_words}
use Rattle.run_sentences.proofs.NeverBoth.{known_named}
use Rattle.run_sentences.proofs.telling.runs_told.Goals as goal

pub push_known-requires : goal.push_known-requires
push_known-requires c =
    let known = c.in_ok-known.known in
    subst (λ (N : Names). HasNames N known) (sym c.names_of.ensures.names)
    (known_named c.args.doc.now c.args.table c.args.at.now known c.names_of.ensures.formed c.in_ok-known.ensures)

pub returns : goal.returns
returns c =
    let known = c.in_ok-known.known in
    record {
      known = known;
      is_so = c.in_ok-known.ensures;
      words = c.in_ok-push_known.ensures ∙ ap (λ b. b ++ known_words c.names_of.result.now known) c.new-text.ensures.bytes
          ∙ ap (λ (N : Names). known_words N known) c.names_of.ensures.names;
    }
