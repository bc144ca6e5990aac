use Rattle.std.proofs.Common.{rules, ◌≡◌, ◌++◌, codes, decimal}
use Rattle.std.proofs.lemmas.Result.{on_ok_weaker}
use Rattle.rail_model.specs.Journal.{end_text}
use Rattle.timed_reading.specs.Told.{last_text, last_tick, moves_in, tables_in}
use Rattle.timed_reading.proofs.Texts.{end_is}
use Rattle.timed_reading.proofs.ticks.check_end.Goals as goal

pub returns : goal.returns
returns c =
    let words = c.args.words.now in
    let lines = c.args.lines.now in
    let front = c.in-Some.front.now in
    let said = c.in-Some-2.said in
    let cut : words ≡ front ++ codes " last=" ++ decimal c.in-Some.last = search rules in
    let counts : front ++ codes "\n" ≡ end_text said.moves said.tables = search rules in
    let tick : c.in-Some.last ≡ last_tick lines = search rules in
    let whole : (said.moves ≡ moves_in lines) × (said.tables ≡ tables_in lines) → words ++ codes "\n" ≡ last_text lines =
    λ same. end_is words front lines said.moves said.tables c.in-Some.last counts cut same.0 same.1 tick in
    on_ok_weaker c.check_counts.result whole c.check_counts.ensures
