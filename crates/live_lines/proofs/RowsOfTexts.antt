-- Worked rows: a line of the journal, and the answer behind it.
use Rattle.std.proofs.Common.{◌≡◌, [], ◌∷◌, Some, refl, sym, lit<}
use Rattle.std.specs.Prelude.{codes}
use Rattle.std.proofs.lemmas.Fmt.{decimal_digit}
use Rattle.rail_model.proofs.Samples.{names}
use Rattle.rail_model.specs.declared.types.Line.TheVariants.{Move}
use Rattle.live_lines.specs.declared.calls.Call.TheVariants.{Ping}
use Rattle.live_lines.specs.declared.calls.Heard.TheVariants.{Asked, Empty}
use Rattle.live_lines.specs.Kinds.{ended, numbered, tag_length, TellsLines}

granted : TellsLines names 6 (Move 0 0 (Some 1) ∷ []) (codes "7 move T0 A B\n#a granted T0 1 B line=7\n")
granted = record {
  texts = codes "7 move T0 A B" ∷ codes "#a granted T0 1 B line=7" ∷ [];
  joined = refl;
  journal = sym (rw (decimal_digit 7 (lit< tt)) refl);
}

line : ended (codes "pong line=7") ≡ codes "pong line=7\n"
line = refl

two : numbered names 0 (Move 0 0 (Some 1) ∷ Move 0 1 (Some 2) ∷ []) ≡ codes "1 move T0 A B" ∷ codes "2 move T0 B C" ∷ []
two = rw (decimal_digit 1 (lit< tt), decimal_digit 2 (lit< tt)) refl

tag : tag_length (Asked 2 Ping) ≡ 2
tag = refl

no_tag : tag_length Empty ≡ 0
no_tag = refl
