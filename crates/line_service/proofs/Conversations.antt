-- How conversations follow one another, and what a session comes to.
use Rattle.std.proofs.Common.{◌≡◌, ◌⊎◌, ℕ, ◌+◌, ◌<◌, ◌≤◌, List, [], ◌++◌, length, Result, Ok, Err, refl, subst, inl, arith, length-append}
use Rattle.std.specs.Prelude.{Option, IfErr, IfOk, IfSome, OnOk}
use Rattle.std.specs.Io.KnownBytes.{Consumes}
use Rattle.std.proofs.KnownBytes.{Consumes-trans}
use Rattle.ats_io.specs.Bytes.{Adds}
use Rattle.line_service.specs.declared.server.Course.{Course}
use Rattle.line_service.specs.declared.server.Course.TheVariants.{GoesOn, Ends}
use Rattle.line_service.specs.declared.server.ServeFault.{ServeFault}
use Rattle.line_service.specs.Lines.{heard_from, heard_of}
use Rattle.line_service.specs.Answered.{AnswerRelation, BreaksOff, BreaksOffHearing, Comes, Conversation, HasAnsweredAll, IsEndless, IsSession, Says}
use Rattle.line_service.specs.Stopping.{LosesLast, Stops}
use Rattle.line_service.proofs.ServedBytes.{breaks_more, kept_after, last_stops, says_more, stops_so, whole_session}

module _ {S : Type 0} (Answers : AnswerRelation S) (last : S → List ℕ) (from : S) where
  -- a piece of the input
  pub piece_comes : (begun : List ℕ) (to : S) (after heard : List ℕ) (held left old new : Option (List ℕ))
      (result : Result Course ServeFault)
      → Consumes held left heard → 0 < length heard
      → IfOk result (λ course. Says Answers from (heard_from begun heard).lines to course old new)
      → IfOk result (λ course. course ≡ GoesOn → after ≡ (heard_from begun heard).begun)
      → IfOk result (Comes Answers from begun to after held left old new)
  piece_comes begun to after heard held left old new (Err e) gave some says kept = tt
  piece_comes begun to after heard held left old new (Ok GoesOn) gave some says kept =
      (record { heard = heard; gave = gave; says = says; kept = kept }, some)
  piece_comes begun to after heard held left old new (Ok Ends) gave some says kept =
      (Ends, record { heard = heard; gave = gave; says = says; kept = kept }, λ e. absurd (cc e))

  -- a conversation, and one that goes on from it
  abbrev pub conversation_on : (begun : List ℕ) (mid to : S) (between after : List ℕ) (course : Course)
      (held then_left left old then_new new : Option (List ℕ))
      → Conversation Answers from begun mid between GoesOn held then_left old then_new
      → Conversation Answers mid between to after course then_left left then_new new
      → Conversation Answers from begun to after course held left old new
  conversation_on begun mid to between after course held then_left left old then_new new front behind = record {
    heard = front.heard ++ behind.heard;
    gave = Consumes-trans held then_left left front.heard behind.heard front.gave behind.gave;
    says = says_more Answers last from begun front.heard between behind.heard mid to course old then_new new
        front.says (front.kept refl) behind.says;
    kept = λ goes. kept_after Answers last from begun front.heard between behind.heard after (front.kept refl)
        (behind.kept goes);
  }

  -- some bytes more
  pub comes_more : (begun : List ℕ) (mid to : S) (between after : List ℕ) (course : Course)
      (held then_left left old then_new new : Option (List ℕ)) (k : ℕ)
      → (front : Conversation Answers from begun mid between GoesOn held then_left old then_new)
      → k ≤ length front.heard
      → course ≡ GoesOn → Comes Answers mid between to after then_left left then_new new course
      → (c : Conversation Answers from begun to after GoesOn held left old new) × (k + 1 ≤ length c.heard)
  comes_more begun mid to between after Ends held then_left left old then_new new k front some is comes = absurd (cc is)
  comes_more begun mid to between after GoesOn held then_left left old then_new new k front some is (behind, more) = (
    conversation_on begun mid to between after GoesOn held then_left left old then_new new front behind,
    omega
        (arith, length-append front.heard behind.heard),
  )

  -- the last bytes
  pub comes_last : (begun : List ℕ) (mid to : S) (between after : List ℕ) (course : Course)
      (held then_left left old then_new new : Option (List ℕ))
      → Conversation Answers from begun mid between GoesOn held then_left old then_new
      → course ≡ Ends → Comes Answers mid between to after then_left left then_new new course
      → Comes Answers from begun to after held left old new Ends
  comes_last begun mid to between after GoesOn held then_left left old then_new new front is comes = absurd (cc is)
  comes_last begun mid to between after Ends held then_left left old then_new new front is (course, behind, end) =
      (course, conversation_on begun mid to between after course held then_left left old then_new new front behind, end)

  -- bytes whose answers broke off
  pub breaks_on : (begun : List ℕ) (mid : S) (between : List ℕ)
      (source_failed sink_failed source_now sink_now : Type 0)
      (held then_left left old then_new new : Option (List ℕ)) (e : ServeFault)
      → Conversation Answers from begun mid between GoesOn held then_left old then_new
      → (source_now → source_failed) → (sink_now → sink_failed)
      → BreaksOffHearing Answers mid between (λ _. source_now) sink_now then_left left then_new new e
      → BreaksOffHearing Answers from begun (λ heard. source_failed ⊎ IsEndless heard) sink_failed held left old new e
  breaks_on begun mid between source_failed sink_failed source_now sink_now held then_left left old then_new new e
      front source sink (heard, gave, breaks) = (
        front.heard ++ heard,
        Consumes-trans held then_left left front.heard heard front.gave gave,
        breaks_more Answers last from begun front.heard between heard mid
            (source_failed ⊎ IsEndless (front.heard ++ heard)) sink_failed source_now sink_now old then_new new e
            front.says (front.kept refl) (λ so. inl (source so)) sink breaks,
      )

  -- the bytes that were read before, and all the others
  pub lines_done : (empty first after later : List ℕ) (mid to : S) (course : Course)
      (held left old then_new new : Option (List ℕ)) (result : Result (Unit {0}) ServeFault)
      → empty ≡ [] → course ≡ GoesOn
      → Says Answers from (heard_from empty first).lines mid course old then_new
      → (course ≡ GoesOn → after ≡ (heard_from empty first).begun)
      → OnOk result (Comes Answers mid after to later held left then_new new Ends)
      → OnOk result ((heard : List ℕ) × Consumes held left heard
      × HasAnsweredAll Answers from (first ++ heard) to left old new)
  lines_done empty first after later mid to course held left old then_new new (Err e) none is says kept comes = tt
  lines_done empty first after later mid to course held left old then_new new (Ok done) none is says kept
      (last_course, behind, end) =
      let front = subst (λ bs. Says Answers from (heard_from bs first).lines mid GoesOn old then_new) none
      (subst (λ k. Says Answers from (heard_from empty first).lines mid k old then_new) is says) in
      let same = subst (λ bs. after ≡ (heard_from bs first).begun) none (kept is) in (
        behind.heard,
        behind.gave,
        (
          last_course,
          says_more Answers last from [] first after behind.heard mid to last_course old then_new new
              front same behind.says,
          end,
        ),
      )

  -- the bytes that were read before, and others whose answers broke off
  pub lines_break : (empty first after : List ℕ) (mid : S) (course : Course)
      (source_failed sink_failed sink_now : Type 0) (held left old then_new new : Option (List ℕ))
      (result : Result (Unit {0}) ServeFault)
      → empty ≡ [] → course ≡ GoesOn
      → Says Answers from (heard_from empty first).lines mid course old then_new
      → (course ≡ GoesOn → after ≡ (heard_from empty first).begun)
      → (sink_now → sink_failed)
      → IfErr result (BreaksOffHearing Answers mid after
      (λ heard. source_failed ⊎ IsEndless heard) sink_now held left then_new new)
      → IfErr result (λ fault. (heard : List ℕ) × Consumes held left heard
      × BreaksOff Answers from (heard_of (first ++ heard)).lines
      (source_failed ⊎ IsEndless heard) sink_failed old new fault)
  lines_break empty first after mid course source_failed sink_failed sink_now held left old then_new new
      (Ok done) none is says kept sink breaks = tt
  lines_break empty first after mid course source_failed sink_failed sink_now held left old then_new new
      (Err e) none is says kept sink (heard, gave, breaks) =
      let front = subst (λ bs. Says Answers from (heard_from bs first).lines mid GoesOn old then_new) none
      (subst (λ k. Says Answers from (heard_from empty first).lines mid k old then_new) is says) in
      let same = subst (λ bs. after ≡ (heard_from bs first).begun) none (kept is) in (
        heard,
        gave,
        breaks_more Answers last from [] first after heard mid (source_failed ⊎ IsEndless heard) sink_failed
            (source_failed ⊎ IsEndless heard) sink_now old then_new new e
            front same (λ so. so) sink breaks,
      )

  -- a session that ends well
  pub session_done : (to : S) (first : List ℕ) (held left old between new : Option (List ℕ))
      (result : Result (Unit {0}) ServeFault)
      → ((heard : List ℕ) × Consumes held left heard × HasAnsweredAll Answers from (first ++ heard) to left old between)
      → OnOk result (Adds between new (last to))
      → OnOk result (IfSome held (λ input. (text : List ℕ) × IsSession Answers last from (first ++ input) text
      × Adds old new text))
  session_done to first held left old between new (Err e) all adds = tt
  session_done to first held left old between new (Ok done)
      (heard, gave, all) adds = whole_session Answers last from to first heard held left old between new gave all adds

  -- a session whose last line couldn't be written
  pub last_breaks : (to : S) (first : List ℕ) (source_failed sink_failed sink_now : Type 0)
      (held left old between new : Option (List ℕ)) (result : Result (Unit {0}) ServeFault)
      → ((heard : List ℕ) × Consumes held left heard × HasAnsweredAll Answers from (first ++ heard) to left old between)
      → (sink_now → sink_failed)
      → IfErr result (LosesLast (last to) sink_now between new)
      → IfErr result (λ fault. (heard : List ℕ) × Consumes held left heard
      × Stops Answers last from (first ++ heard) (source_failed ⊎ IsEndless heard) sink_failed old new fault)
  last_breaks to first source_failed sink_failed sink_now held left old between new (Ok done) all sink lost = tt
  last_breaks to first source_failed sink_failed sink_now held left old between new (Err e)
      (heard, gave, all) sink lost = (
        heard,
        gave,
        last_stops Answers last from to (first ++ heard) left
            (source_failed ⊎ IsEndless heard) sink_failed sink_now old between new e all sink lost,
      )

  -- a session that broke off
  pub session_breaks : (first : List ℕ) (source_failed sink_failed : Type 0) (held left old new : Option (List ℕ))
      (e : ServeFault)
      → ((heard : List ℕ) × Consumes held left heard
      × BreaksOff Answers from (heard_of (first ++ heard)).lines
      (source_failed ⊎ IsEndless heard) sink_failed old new e)
      → (heard : List ℕ) × Consumes held left heard
      × Stops Answers last from (first ++ heard) (source_failed ⊎ IsEndless heard) sink_failed old new e
  session_breaks first source_failed sink_failed held left old new e (heard, gave, breaks) = (
    heard,
    gave,
    stops_so Answers last from (first ++ heard)
        (source_failed ⊎ IsEndless heard) sink_failed old new e breaks,
  )
