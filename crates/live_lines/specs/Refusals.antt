-- The words of lines that aren't carried out.
use Rattle.std.specs.Prelude.{ℕ, List, ◌++◌, codes, decimal}
use Rattle.live_lines.specs.declared.calls.Fault.{Fault}
use Rattle.live_lines.specs.declared.calls.Fault.TheVariants as fault
use Rattle.live_lines.specs.declared.refusals.Refusal.{Refusal}
use Rattle.live_lines.specs.declared.refusals.Refusal.TheVariants.{Line, Place, Ahead, Before, Table, Lost}

-- why a line is no request
abbrev pub fault_words : Fault → List ℕ
fault_words fault.Long = codes "error 301 Long limit=256"
fault_words (fault.Byte n) = codes "error 302 Byte at=" ++ decimal n
fault_words fault.Verb = codes "error 303 Verb"
fault_words fault.Words = codes "error 304 Words"
fault_words fault.Train = codes "error 305 Train"
fault_words fault.Tag = codes "error 311 Tag"
fault_words fault.Reports = codes "error 312 Reports"

-- why a line isn't carried out
abbrev pub refusal_words : Refusal → List ℕ
refusal_words (Line why) = fault_words why
refusal_words (Place l) = codes "error 306 Place last=" ++ decimal l
refusal_words (Ahead k) = codes "error 307 Ahead at=" ++ decimal k
refusal_words (Before k) = codes "error 308 Before start=" ++ decimal k
refusal_words (Table n) = codes "error 309 Table tables=" ++ decimal n
refusal_words (Lost n) = codes "error 310 Lost line=" ++ decimal n
