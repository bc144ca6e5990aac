use Rattle.std.proofs.Common.{List, ℕ, subst}
use Rattle.std.specs.Prelude.{IfOk}
use Rattle.refusal_sentences.specs.StateLines.{NamesState}
use Rattle.refusal_sentences.specs.Explains.{ExplainsState}
use Rattle.refusal_sentences.proofs.Told.{told_if_ok}
use Rattle.refusal_sentences.proofs.explaining.explain_line.Goals as goal

pub returns-in-Some : goal.returns-in-Some
returns-in-Some c =
    let bytes = c.args.bytes.now in
    let words = c.words_of-words.result.now in
    let at = c.in-Some.at in
    let told = c.explain_state.result in
    let named : NamesState words at.table at.state = rw c.in-Some.is at c.in_ok-at.ensures in
    let explained : IfOk told (ExplainsState bytes c.args.names.now at.table at.state) =
    subst (λ (p : List ℕ). IfOk told (ExplainsState bytes c.args.names.now at.table p)) c.as_slice.ensures c.explain_state.ensures in
    told_if_ok bytes c.args.names.now c.args.line.now words at.table at.state c.words_of-words.ensures named told explained
