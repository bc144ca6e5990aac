-- How a session goes on piece by piece, and how it ends.
use Rattle.std.proofs.Common.{◌≡◌, ℕ, ◌+◌, ◌≤◌, List, [], ◌++◌, length, min, take, None, Some, refl, sym, ap, subst, ◌∙◌, arith, append_assoc, append-nil}
use Rattle.std.specs.Prelude.{Option, IfSome}
use Rattle.std.specs.Io.KnownBytes.{Consumes}
use Rattle.std.proofs.lemmas.List.{take-append-le, take_min}
use Rattle.std.proofs.Math.Seq.{take-append-add}
use Rattle.ats_io.specs.Bytes.{Adds, AddsPrefix}
use Rattle.ats_io.specs.Faults.{Rose}
use Rattle.ats_io.proofs.Adding.{adds_both}
use Rattle.line_service.specs.declared.server.Course.{Course}
use Rattle.line_service.specs.declared.server.Course.TheVariants.{GoesOn, Ends}
use Rattle.line_service.specs.declared.server.ServeFault.{ServeFault}
use Rattle.line_service.specs.declared.server.ServeFault.TheVariants.{Memory, Read, Write}
use Rattle.line_service.specs.Lines.{heard_from, heard_of}
use Rattle.line_service.specs.Answered.{AnswerRelation, Answered, BreaksOff, HasAnsweredAll, IsSession, Says}
use Rattle.line_service.specs.Stopping.{LosesLast, Stops}
use Rattle.line_service.proofs.HeardLines.{heard_more}
use Rattle.line_service.proofs.AnsweredLines.{answered_ended, answered_more}

-- a first part of bytes is one of more bytes
prefix_longer : (old new : Option (List ℕ)) (bytes more : List ℕ) → AddsPrefix old new bytes
    → AddsPrefix old new (bytes ++ more)
prefix_longer old new bytes more (count, adds) =
    let n = min count (length bytes) in
    let cut : take n (bytes ++ more) ≡ take count bytes = take-append-le n bytes more (omega arith)
    ∙ take_min count bytes in
    (n, subst (Adds old new) (sym cut) adds)

-- bytes, and then a first part of more bytes
prefix_after : (old between new : Option (List ℕ)) (bytes more : List ℕ) → Adds old between bytes
    → AddsPrefix between new more → AddsPrefix old new (bytes ++ more)
prefix_after old between new bytes more front (count, adds) = (
  length bytes + count,
  subst (Adds old new) (sym (take-append-add bytes more count))
      (adds_both old between new bytes (take count more) front adds),
)

-- bytes, and then nothing
adds_none : (old between new : Option (List ℕ)) (bytes : List ℕ) → Adds old between bytes → Adds between new []
    → Adds old new bytes
adds_none old between new bytes front none = subst (Adds old new) (append-nil bytes)
    (adds_both old between new bytes [] front none)

-- nothing is added to bytes that stay
pub adds_nothing : (old : Option (List ℕ)) → Adds old old []
adds_nothing None = tt
adds_nothing (Some bytes) = sym (append-nil bytes)

-- a count that rose later rose
pub rose_later : (a b c : ℕ) → a ≤ b → Rose b c → Rose a c
rose_later a b c le rose = omega arith

-- and one that rose before
pub rose_before : (a b c : ℕ) → Rose a b → b ≤ c → Rose a c
rose_before a b c rose le = omega arith

module _ {S : Type 0} (Answers : AnswerRelation S) (last : S → List ℕ) (from : S) where
  -- no bytes have no answer
  pub says_nothing : (begun : List ℕ) (old : Option (List ℕ))
      → Says Answers from (heard_from begun []).lines from GoesOn old old
  says_nothing begun old = ([], (refl, refl, refl), adds_nothing old)

  -- the lines of further bytes
  lines_more : (begun bytes after piece : List ℕ) → after ≡ (heard_from begun bytes).begun
      → (heard_from begun (bytes ++ piece)).lines ≡ (heard_from begun bytes).lines ++ (heard_from after piece).lines
  lines_more begun bytes after piece same =
      ap (λ h. h.lines) (heard_more begun bytes piece)
      ∙ ap (λ bs. (heard_from begun bytes).lines ++ (heard_from bs piece).lines) (sym same)

  -- what is kept of a line after further bytes
  pub kept_after : (begun bytes after piece later : List ℕ) → after ≡ (heard_from begun bytes).begun
      → later ≡ (heard_from after piece).begun
      → later ≡ (heard_from begun (bytes ++ piece)).begun
  kept_after begun bytes after piece later same is =
      is ∙ ap (λ bs. (heard_from bs piece).begun) same ∙ sym (ap (λ h. h.begun) (heard_more begun bytes piece))

  -- the answers to the lines of further bytes
  pub says_more : (begun bytes after piece : List ℕ) (mid to : S) (course : Course) (old between new : Option (List ℕ))
      → Says Answers from (heard_from begun bytes).lines mid GoesOn old between → after ≡ (heard_from begun bytes).begun
      → Says Answers mid (heard_from after piece).lines to course between new
      → Says Answers from (heard_from begun (bytes ++ piece)).lines to course old new
  says_more begun bytes after piece mid to course old between new (said, front, wrote) same (text, behind, adds) = (
    said ++ text,
    subst (λ ls. Answered Answers from ls to (said ++ text) course) (sym (lines_more begun bytes after piece same))
        (answered_more Answers _ _ from mid to said text course front behind),
    adds_both old between new said text wrote adds,
  )

  -- further bytes whose answers broke off
  pub breaks_more : (begun bytes after piece : List ℕ) (mid : S)
      (source_failed sink_failed source_now sink_now : Type 0) (old between new : Option (List ℕ)) (e : ServeFault)
      → Says Answers from (heard_from begun bytes).lines mid GoesOn old between → after ≡ (heard_from begun bytes).begun
      → (source_now → source_failed) → (sink_now → sink_failed)
      → BreaksOff Answers mid (heard_from after piece).lines source_now sink_now between new e
      → BreaksOff Answers from (heard_from begun (bytes ++ piece)).lines source_failed sink_failed old new e
  breaks_more begun bytes after piece mid source_failed sink_failed source_now sink_now old between new Memory
      (said, front, wrote) same source sink
      (first, later, to, course, parts, (text, behind, adds)) = (
        (heard_from begun bytes).lines ++ first,
        later,
        to,
        course,
        lines_more begun bytes after piece same ∙ ap (λ ls. (heard_from begun bytes).lines ++ ls) parts
            ∙ sym (append_assoc (heard_from begun bytes).lines first later),
        (
          said ++ text,
          answered_more Answers _ _ from mid to said text course front behind,
          adds_both old between new said text wrote adds,
        ),
      )
  breaks_more begun bytes after piece mid source_failed sink_failed source_now sink_now old between new Read says
      same source sink (so, (to, behind)) =
      (source so, (to, says_more begun bytes after piece mid to GoesOn old between new says same behind))
  breaks_more begun bytes after piece mid source_failed sink_failed source_now sink_now old between new Write
      (said, front, wrote) same source sink
      (so, (to, text, course, behind, prefix)) = (
        sink so,
        (
          to,
          said ++ text,
          course,
          subst (λ ls. Answered Answers from ls to (said ++ text) course)
              (sym (lines_more begun bytes after piece same))
              (answered_more Answers _ _ from mid to said text course front behind),
          prefix_after old between new said text wrote prefix,
        ),
      )

  -- lines whose answers broke off, in the session of their bytes
  pub stops_so : (bytes : List ℕ) (source_failed sink_failed : Type 0) (old new : Option (List ℕ)) (e : ServeFault)
      → BreaksOff Answers from (heard_of bytes).lines source_failed sink_failed old new e
      → Stops Answers last from bytes source_failed sink_failed old new e
  stops_so bytes source_failed sink_failed old new Memory h = h
  stops_so bytes source_failed sink_failed old new Read h = h
  stops_so bytes source_failed sink_failed old new Write (so, (to, text, course, answers, prefix)) =
      (so, (text ++ last to, (to, text, course, answers, refl), prefix_longer old new text (last to) prefix))

  -- a last line that couldn't be written
  pub last_stops : (to : S) (bytes : List ℕ) (left : Option (List ℕ)) (source_failed sink_failed sink_now : Type 0)
      (old between new : Option (List ℕ)) (e : ServeFault)
      → HasAnsweredAll Answers from bytes to left old between → (sink_now → sink_failed)
      → LosesLast (last to) sink_now between new e
      → Stops Answers last from bytes source_failed sink_failed old new e
  last_stops to bytes left source_failed sink_failed sink_now old between new Memory
      (course, (said, answers, wrote), ends) sink none = (
        (heard_of bytes).lines,
        [],
        to,
        course,
        sym (append-nil (heard_of bytes).lines),
        (said, answers, adds_none old between new said wrote none),
      )
  last_stops to bytes left source_failed sink_failed sink_now old between new Read all sink h = absurd h
  last_stops to bytes left source_failed sink_failed sink_now old between new Write
      (course, (said, answers, wrote), ends) sink (so, prefix) = (
        sink so,
        (
          said ++ last to,
          (to, said, course, answers, refl),
          prefix_after old between new said
              (last to) wrote prefix,
        ),
      )

  -- the lines of all bytes, where a line ended the session
  ended_lines : (first heard rest input said : List ℕ) (to : S) → input ≡ heard ++ rest
      → Answered Answers from (heard_of (first ++ heard)).lines to said Ends
      → Answered Answers from (heard_of (first ++ input)).lines to said Ends
  ended_lines first heard rest input said to gave answers =
      let lines : (heard_of (first ++ input)).lines ≡ (heard_of (first ++ heard)).lines ++
      (heard_from (heard_of (first ++ heard)).begun rest).lines =
      ap (λ bs. (heard_of (first ++ bs)).lines) gave
      ∙ ap (λ bs. (heard_of bs).lines) (sym (append_assoc first heard rest))
      ∙ ap (λ h. h.lines) (heard_more [] (first ++ heard) rest) in
      subst (λ ls. Answered Answers from ls to said Ends) (sym lines) (answered_ended Answers _ _ from to said answers)

  -- the lines of all bytes, at their end
  all_lines : (first heard rest input said : List ℕ) (to : S) → input ≡ heard ++ rest → rest ≡ []
      → Answered Answers from (heard_of (first ++ heard)).lines to said GoesOn
      → Answered Answers from (heard_of (first ++ input)).lines to said GoesOn
  all_lines first heard rest input said to gave none answers =
      let all : input ≡ heard = gave ∙ ap (λ l. heard ++ l) none ∙ append-nil heard in
      subst (λ bs. Answered Answers from (heard_of (first ++ bs)).lines to said GoesOn) (sym all) answers

  -- the session of all bytes
  pub whole_session : (to : S) (first heard : List ℕ) (held left : Option (List ℕ)) (old between new : Option (List ℕ))
      → Consumes held left heard → HasAnsweredAll Answers from (first ++ heard) to left old between
      → Adds between new (last to)
      → IfSome held (λ input. (text : List ℕ) × IsSession Answers last from (first ++ input) text × Adds old new text)
  whole_session to first heard None left old between new gave all adds = tt
  whole_session to first heard (Some input) None old between new gave all adds = absurd gave
  whole_session to first heard (Some input) (Some rest) old between new gave (Ends, (said, answers, wrote), end) adds = (
    said ++ last to,
    (to, said, Ends, ended_lines first heard rest input said to gave answers, refl),
    adds_both old between new said (last to) wrote adds,
  )
  whole_session to first heard (Some input) (Some rest) old between new gave
      (GoesOn, (said, answers, wrote), end) adds = (
        said ++ last to,
        (to, said, GoesOn, all_lines first heard rest input said to gave (end refl) answers, refl),
        adds_both old between new said (last to) wrote adds,
      )
