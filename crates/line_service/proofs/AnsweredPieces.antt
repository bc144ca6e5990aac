-- How far the answers to a piece's lines have come.
use Rattle.std.proofs.Common.{◌≡◌, ℕ, ◌+◌, ◌<◌, List, [], ◌∷◌, ◌++◌, length, take, drop, get_or, refl, sym, ap, subst, ◌∙◌, append_assoc, append-nil}
use Rattle.std.specs.Prelude.{Result, Ok, Err, IfOk}
use Rattle.std.proofs.lemmas.List.{take-append-drop, take_more}
use Rattle.line_service.specs.declared.server.ServeFault.{ServeFault}
use Rattle.line_service.specs.declared.server.Course.{Course}
use Rattle.line_service.specs.declared.server.Course.TheVariants.{GoesOn, Ends}
use Rattle.line_service.specs.Lines.{handed, heard_from, newline}
use Rattle.line_service.specs.Answered.{AnswerRelation, Answered, HasAnswered}
use Rattle.line_service.proofs.HeardLines.{heard_more}
use Rattle.line_service.proofs.AnsweredLines.{answered_ended, answered_more, answered_one}

-- further bytes
pub answered_further : {S : Type 0} (Answers : AnswerRelation S) (from mid to : S) (begun first later : List ℕ)
    (course : Course) (before between after : List ℕ)
    → HasAnswered Answers from begun first mid GoesOn before between
    → HasAnswered Answers mid (heard_from begun first).begun later to course between after
    → HasAnswered Answers from begun (first ++ later) to course before after
answered_further Answers from mid to begun first later course before between after front behind = record {
  added = front.added ++ behind.added;
  answers = subst (λ ls. Answered Answers from ls to (front.added ++ behind.added) course)
      (sym (ap (λ h. h.lines) (heard_more begun first later)))
      (answered_more Answers _ _ from mid to front.added behind.added course front.answers behind.answers);
  grown = behind.grown ∙ ap (λ t. t ++ behind.added) front.grown ∙ append_assoc before front.added behind.added;
}

-- bytes after the line that ends the session
pub answered_no_further : {S : Type 0} (Answers : AnswerRelation S) (from to : S)
    (begun first later before after : List ℕ)
    → HasAnswered Answers from begun first to Ends before after
    → HasAnswered Answers from begun (first ++ later) to Ends before after
answered_no_further Answers from to begun first later before after front = record {
  added = front.added;
  answers = subst (λ ls. Answered Answers from ls to front.added Ends)
      (sym (ap (λ h. h.lines) (heard_more begun first later)))
      (answered_ended Answers _ _ from to front.added front.answers);
  grown = front.grown;
}

-- no bytes yet
pub answered_nothing : {S : Type 0} (Answers : AnswerRelation S) (from : S) (begun text : List ℕ)
    → HasAnswered Answers from begun [] from GoesOn text text
answered_nothing Answers from begun text = record {
  added = [];
  answers = (refl, refl, refl);
  grown = sym
      (append-nil text);
}

-- the newline of a line that was begun
pub answered_newline : {S : Type 0} (Answers : AnswerRelation S) (from to : S) (begun before after : List ℕ)
    (byte : ℕ) (result : Result Course ServeFault)
    → byte ≡ newline
    → IfOk result (λ course. (added : List ℕ) × Answers from (handed begun) to added course × (after ≡ before ++ added))
    → IfOk result (λ course. HasAnswered Answers from begun (byte ∷ []) to course before after)
answered_newline Answers from to begun before after byte (Err e) ends answer = tt
answered_newline Answers from to begun before after byte (Ok course) ends (added, here, grown) =
    subst (λ b. HasAnswered Answers from begun (b ∷ []) to course before after) (sym ends)
    (record { added = added; answers = answered_one Answers from (handed begun) to added course here; grown = grown })

-- one byte of a piece more
pub answered_byte : {S : Type 0} (Answers : AnswerRelation S) (from mid to : S) (kept begun bytes : List ℕ) (k : ℕ)
    (course wanted : Course) (before between after : List ℕ)
    → k < length bytes → course ≡ wanted
    → HasAnswered Answers from kept (take k bytes) mid GoesOn before between
    → begun ≡ (heard_from kept (take k bytes)).begun
    → HasAnswered Answers mid begun (get_or bytes k 0 ∷ []) to course between after
    → HasAnswered Answers from kept (take (k + 1) bytes) to wanted before after
answered_byte Answers from mid to kept begun bytes k course wanted before between after lt is front same here =
    let now = subst (λ c. HasAnswered Answers mid begun (get_or bytes k 0 ∷ []) to c between after) is here in
    subst (λ bs. HasAnswered Answers from kept bs to wanted before after) (sym (take_more bytes k 0 lt))
    (answered_further Answers from mid to kept (take k bytes) (get_or bytes k 0 ∷ []) wanted before between after front
    (subst (λ bs. HasAnswered Answers mid bs (get_or bytes k 0 ∷ []) to wanted between after) same now))

-- what is kept then of a line
pub begun_byte : (kept begun bytes : List ℕ) (k : ℕ) (after : List ℕ)
    → k < length bytes
    → begun ≡ (heard_from kept (take k bytes)).begun
    → after ≡ (heard_from begun (get_or bytes k 0 ∷ [])).begun
    → after ≡ (heard_from kept (take (k + 1) bytes)).begun
begun_byte kept begun bytes k after lt same here =
    here ∙ ap (λ bs. (heard_from bs (get_or bytes k 0 ∷ [])).begun) same
    ∙ sym (ap (λ h. h.begun) (heard_more kept (take k bytes) (get_or bytes k 0 ∷ [])))
    ∙ sym (ap (λ bs. (heard_from kept bs).begun) (take_more bytes k 0 lt))

-- where a byte of a piece ended the session, the rest of the piece has no answer
pub answered_whole : {S : Type 0} (Answers : AnswerRelation S) (from to : S) (kept bytes : List ℕ) (k : ℕ)
    (before after : List ℕ)
    → HasAnswered Answers from kept (take k bytes) to Ends before after
    → HasAnswered Answers from kept bytes to Ends before after
answered_whole Answers from to kept bytes k before after front =
    subst (λ bs. HasAnswered Answers from kept bs to Ends before after) (take-append-drop k bytes)
    (answered_no_further Answers from to kept (take k bytes) (drop k bytes) before after front)
