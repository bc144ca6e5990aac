-- Of the lines that are written in a session, those that begin with a digit are those of its journal.
use Rattle.std.proofs.Common.{◌≡◌, ℕ, ◌+◌, ◌-◌, List, [], ◌∷◌, ◌++◌, Bool, true, false, Option, None, Some, length}
use Rattle.std.proofs.Common.{take, drop, refl, sym, ap, subst, ◌∙◌, arith, inl, inr, length-append, take_all}
use Rattle.std.specs.Prelude.{◌&&◌, not, if◌then◌else◌, slice_index_or, slice_set}
use Rattle.std.proofs.lemmas.Bool.{cases_eq, cases_lt}
use Rattle.std.proofs.lemmas.List.{drop-drop, get_or-set_other, get_or-set_same, length-drop, length-take}
use Rattle.std.proofs.lemmas.List.{take-append-drop, set_past}
use Rattle.std.proofs.Math.Seq.{drop-append_seam}
use Rattle.rail_model.specs.declared.types.Line.{Line}
use Rattle.rail_model.specs.declared.types.Line.TheVariants as line
use Rattle.rail_model.specs.Names.{Names}
use Rattle.line_service.specs.Answered.{Answered}
use Rattle.line_service.specs.declared.server.Course.{Course}
use Rattle.live_lines.proofs.Beginnings.{answers, closes, events, no_digit}
use Rattle.live_lines.proofs.Tags.{heard_tag}
use Rattle.live_lines.proofs.Telling.{AreOthers, journal_line, no_text, other_line, other_lines, others_anywhere}
use Rattle.live_lines.proofs.Telling.{others_then, more_text, then_others}
use Rattle.live_lines.specs.Hearing.{heard}
use Rattle.live_lines.specs.Kinds.{IsTag, TellsLines, tag_length}
use Rattle.live_lines.specs.Lines.{line_of}
use Rattle.live_lines.specs.Rows.{event_words, help_text, verb_rows}
use Rattle.live_lines.specs.declared.answers.Answer.TheVariants.{Refused as RefusedAnswer, Table as TableAnswer}
use Rattle.live_lines.specs.declared.calls.Call.{Call}
use Rattle.live_lines.specs.declared.calls.Call.TheVariants as call
use Rattle.live_lines.specs.declared.calls.Fault.{Fault}
use Rattle.live_lines.specs.declared.calls.Fault.TheVariants as fault
use Rattle.live_lines.specs.declared.calls.Heard.{Heard}
use Rattle.live_lines.specs.declared.calls.Heard.TheVariants.{Empty, Asked, Refused}
use Rattle.live_lines.specs.declared.events.Event.TheVariants.{Due, Done, Granted}
use Rattle.live_lines.specs.declared.refusals.Refusal.TheVariants as refusal
use Rattle.live_answers.proofs.Telling.{all_told, since_told, state_told, told_answer, why_told}
use Rattle.live_yard.proofs.Adding.{adds}
use Rattle.live_yard.proofs.RightLines.{goes_on, served_on, stays}
use Rattle.live_yard.specs.declared.requests.Reply.{Reply}
use Rattle.live_yard.specs.declared.requests.Request.{Request}
use Rattle.live_yard.specs.Reported.{positions_of}
use Rattle.live_session.proofs.JournalRows.{journal_rows}
use Rattle.live_session.specs.Answering.{Answers, IsFiredRow, IsHeard, IsLineRow, IsNews, IsOpening, IsQueryText}
use Rattle.live_session.specs.Answering.{IsReply, IsRequestServed, OfTrain, fired_text, is_whole, last_text, ready_text}
use Rattle.live_session.specs.Answering.{refused_text, tags_with}
use Rattle.live_session.specs.Journals.{HasTags, TellsJournal}
use Rattle.live_session.specs.News.{due_text, exchanges, was_due}
use Rattle.live_session.specs.Replies.{keeps_tag, start_of, train_of}
use Rattle.live_session.specs.States.{SessionState, counts, lines, seen}
use Rattle.live_session.specs.declared.start.Start.{Start}
use Rattle.live_session.specs.declared.status.Status.{Status}

-- events without a tag
due_by : (N : Names) (n : ℕ) (known : Bool) (t : ℕ)
    → TellsLines N n [] (if known then [] else line_of [] (event_words N (Due t)))
due_by N n true t = no_text N n
due_by N n false t = other_line N n [] _ tt (events N (Due t))

due_told : (N M : Names) (n : ℕ) (before now : Option ℕ) → TellsLines N n [] (due_text M before now)
due_told N M n before None = no_text N n
due_told N M n before (Some t) = others_anywhere M n N n _ (due_by M n (was_due before t) t)

done_by : (N : Names) (n : ℕ) (new : Bool) (moves tables : ℕ)
    → TellsLines N n [] (if new then line_of [] (event_words N (Done moves tables)) else [])
done_by N n true moves tables = other_line N n [] _ tt (events N (Done moves tables))
done_by N n false moves tables = no_text N n

news_told : (t : SessionState) (n : ℕ) (before : Status) (text : List ℕ) → IsNews t before text
    → TellsLines t.names n [] text
news_told t n before text (now, is, says) =
    let y = t.dispatch.yard.run.yard in
    subst (TellsLines t.names n []) (sym says)
    (others_then t.names n [] _ _ (due_told t.names t.names n before.due now.due)
    (done_by t.names n (now.done && not before.done) y.moves (exchanges (lines t))))

refused_told : (N : Names) (n : ℕ) (tag : List ℕ) (why : Fault) → IsTag tag
    → TellsLines N n [] (refused_text tag why)
refused_told N n tag why is = other_line N n tag _ is (answers N (RefusedAnswer (refusal.Line why)))

-- the answer of a request
reply_told : (t : SessionState) (n : ℕ) (tag : List ℕ) (start : Start) (request : Request) (reply : Reply)
    (text : List ℕ) → IsTag tag → IsReply t.names (seen t) tag (lines t) start request reply text
    → TellsLines t.names n [] text
reply_told t n tag start request reply text is says = elim says [
  | inl (answer, known, same) ↦ subst (TellsLines t.names n []) (sym same)
      (other_line t.names n tag _ is (answers t.names answer))
  | inr (told, held, says) ↦ told_answer t.names n tag is (seen t) (train_of request) told text says
]

-- a want that was granted: its line, and its event
fired_told : (N : Names) (p : List ℕ) (tags : List (List ℕ)) (n : ℕ) (l : Line)
    → ((i : ℕ) → IsTag (slice_index_or tags i [])) → TellsLines N n [] (fired_text N p tags (n + 1) l)
fired_told N p tags n (line.Move i from to) are = other_line N n _ _ (are i) (events N (Granted _ (n + 1)))
fired_told N p tags n (line.Table t) are = no_text N n
fired_told N p tags n (line.KeptDiffers t i k) are = no_text N n
fired_told N p tags n (line.KeptOver t s m) are = no_text N n

-- the lines after the first so many are those of a request and those of wants
two_parts : {A : Type 0} (ls : List A) (from own fired : ℕ) → from + own + fired ≡ length ls
    → take own (drop from ls) ++ take fired (drop (from + own) ls) ≡ drop from ls
two_parts ls from own fired all =
    ap (λ later. take own (drop from ls) ++ later)
    (take_all fired (drop (from + own) ls) (omega (arith, length-drop (from + own) ls)) ∙ sym (drop-drop own from ls))
    ∙ take-append-drop own (drop from ls)

-- the tags after a request
tags_kept : (tags : List (List ℕ)) (tag : List ℕ) (kept : Option ℕ) → IsTag tag
    → ((i : ℕ) → IsTag (slice_index_or tags i [])) → (i : ℕ) → IsTag (slice_index_or (tags_with tags tag kept) i [])
tags_kept tags tag None is are i = are i
tags_kept tags tag (Some k) is are i = elim (cases_eq i k) [
  | inr other ↦ subst IsTag (sym (get_or-set_other tags k i tag [] other)) (are i)
  | inl same ↦ elim (cases_lt k (length tags)) [
    | inl within ↦ subst IsTag
        (sym (ap (λ j. slice_index_or (slice_set tags k tag) j []) same ∙ get_or-set_same tags k tag [] within)) is
    | inr past ↦ subst (λ (ts : List (List ℕ)). IsTag (slice_index_or ts i [])) (sym (set_past tags k tag past)) (are i)
  ]
]

-- a request that is served
served_told : (s t : SessionState) (tag : List ℕ) (request : Request) (text : List ℕ) → IsTag tag → HasTags s
    → IsRequestServed s tag request t text → TellsJournal s text t × HasTags t
served_told s t tag request text is are served =
    let v = s.dispatch in
    let w = t.dispatch in
    let N = t.names in
    let ls = lines t in
    let from = length (lines s) in
    let granted = served.served.granted in
    let told = served.told in
    let tags : HasTags t = λ i. subst (λ (ts : List (List ℕ)). IsTag (slice_index_or ts i [])) (sym served.tags)
    (tags_kept s.tags tag (keeps_tag request served.served.reply) is are i) in
    let run = served_on v w request served.served served.serves in
    let added = adds v w request served.served served.serves in
    let all : length ls ≡ from + (length added.0 + length added.1) =
    ap (λ (x : List Line). length x) added.2 ∙ length-append (lines s) (added.0 ++ added.1)
    ∙ ap (λ n. from + n) (length-append added.0 added.1) in
    let own = length ls - granted - from in
    let parts : from + own + granted ≡ length ls = omega (arith, all, added.4) in
    let first = journal_rows N ls from (IsLineRow N ls from)
    (λ k row says. (
      says.0,
      says.1,
      subst (TellsLines N (from + k) (says.0 ∷ [])) (sym says.2) (journal_line N (from +
          k) says.0),
    ))
    own told.own told.own_told in
    let at : length ls - granted ≡ from + own = omega (arith, all, added.4) in
    let fires = journal_rows N ls (length ls - granted) (IsFiredRow N (positions_of w.yard) t.tags ls (length ls -
    granted))
    (λ k row says. (
      says.0,
      says.1,
      subst (TellsLines N (length ls - granted + k) (says.0 ∷ [])) (sym says.2)
          (then_others N (length ls - granted + k) (says.0 ∷ []) _ _ (journal_line N (length ls - granted + k) says.0)
          (fired_told N (positions_of w.yard) t.tags (length ls - granted + k) says.0 tags)),
    )) granted told.fired told.wants_told in
    let size : length (take own (drop from ls)) ≡ own =
    omega (arith, length-take own (drop from ls), length-drop from ls, parts) in
    let last = then_others N (from + own) (take granted (drop (from + own) ls)) told.fired told.news
    (subst (λ k. TellsLines N k (take granted (drop k ls)) told.fired) at fires)
    (news_told t (from + own) served.before told.news told.news_told) in
    let behind = others_then N (from + own) (take granted (drop (from + own) ls)) told.answer (told.fired ++ told.news)
    (reply_told t (from + own) tag (start_of v request) request served.served.reply told.answer is told.answered) last
    in
    let whole = more_text N from (take own (drop from ls)) (take granted (drop (from + own) ls)) told.own
    (told.answer ++ (told.fired ++ told.news)) first
    (subst (λ n. TellsLines N (from + n) (take granted (drop (from + own) ls)) (told.answer ++ (told.fired ++
    told.news)))
    (sym size) behind) in
    let after : drop from ls ≡ run.0 =
    ap (λ (x : List Line). drop from x) run.1.lines ∙ drop-append_seam (lines s) run.0 in
    let lines_told : TellsLines N from run.0 text =
    subst (λ (x : List Line). TellsLines N from x text) (two_parts ls from own granted parts ∙ after)
    (subst (TellsLines N from (take own (drop from ls) ++ take granted (drop (from + own) ls))) (sym told.joined)
    whole) in (
      record {
        added = run.0;
        run = run.1;
        names = served.same_names;
        told = subst (λ (M : Names). TellsLines M from run.0 text) served.same_names lines_told;
      },
      tags,
    )

-- what changes nothing
help_others : AreOthers verb_rows
help_others = (
  no_digit _ _ refl,
  (
    no_digit _ _ refl,
    (
      no_digit _ _ refl,
      (
        no_digit _ _ refl,
        (
          no_digit _ _ refl,
          (
            no_digit _ _ refl,
            (
              no_digit _ _ refl,
              (
                no_digit _ _ refl,
                (
                  no_digit _ _ refl,
                  (
                    no_digit _ _ refl,
                    (no_digit _ _ refl, (no_digit _ _ refl, (no_digit _ _ refl, (no_digit _ _ refl, tt)))),
                  ),
                ),
              ),
            ),
          ),
        ),
      ),
    ),
  ),
)

help_told : (N : Names) (n : ℕ) (tag : List ℕ) → IsTag tag → TellsLines N n [] (help_text tag)
help_told N n tag is =
    others_then N n [] _ _ (other_lines N n tag verb_rows is help_others) (other_line N n tag _ is (no_digit _ _ refl))

ready_told : (s : SessionState) (N : Names) (n : ℕ) (tag : List ℕ) → IsTag tag → TellsLines N n [] (ready_text s tag)
ready_told s N n tag is = other_line N n tag _ is (no_digit _ _ refl)

of_train : (s : SessionState) (tag : List ℕ) (i : ℕ) (text : List ℕ) (n : ℕ) (told : Type 0) → IsTag tag
    → (told → TellsLines s.names n [] text) → OfTrain s tag i text told → TellsLines s.names n [] text
of_train s tag i text n told is tells of = elim of [
  | inl known ↦ tells known.1
  | inr none ↦ subst (TellsLines s.names n []) (sym none.1) (refused_told s.names n tag fault.Train is)
]

query_told : (s : SessionState) (n : ℕ) (tag : List ℕ) (what : Call) (text : List ℕ) → IsTag tag
    → IsQueryText s tag what text → TellsLines s.names n [] text
query_told s n tag (call.Serve request) text is says =
    subst (TellsLines s.names n []) (sym says.1) (refused_told s.names n tag fault.Train is)
query_told s n tag (call.Can None) text is says = all_told s.names n tag is (seen s) text says
query_told s n tag (call.Can (Some i)) text is says =
    of_train s tag i text n _ is (λ told. told_answer s.names n tag is (seen s) i told.0 text told.2) says
query_told s n tag (call.Why i) text is says = of_train s tag i text n _ is (why_told s.names n tag is (seen s) i text)
    says
query_told s n tag call.State text is says =
    state_told s.names n tag is (seen s) s.dispatch.yard.reports (counts s) text says
query_told s n tag call.Fits text is (answer, fits, same) =
    subst (TellsLines s.names n []) (sym same) (other_line s.names n tag _ is (answers s.names (TableAnswer answer)))
query_told s n tag (call.Since k) text is says = since_told s.names n tag is (lines s) k text says
query_told s n tag call.Ping text is says =
    subst (TellsLines s.names n []) (sym says) (other_line s.names n tag _ is (no_digit _ _ refl))
query_told s n tag call.Hello text is says =
    subst (TellsLines s.names n []) (sym says) (ready_told s s.names n tag is)
query_told s n tag call.Help text is says =
    subst (TellsLines s.names n []) (sym says) (help_told s.names n tag is)
query_told s n tag call.Quit text is says =
    subst (TellsLines s.names n []) (sym says) (other_line s.names n tag _ is (no_digit _ _ refl))

-- a text without lines of the journal, where nothing has changed
unchanged : (s t : SessionState) (text : List ℕ) → t ≡ s → HasTags s → TellsLines s.names (length (lines s)) [] text
    → TellsJournal s text t × HasTags t
unchanged s t text same are told = (
  record {
    added = [];
    run = stays s.dispatch.yard.run t.dispatch.yard.run (ap (λ (u : SessionState). u.dispatch.yard.run) same);
    names = ap (λ (u : SessionState). u.names) same;
    told = told;
  },
  subst HasTags (sym same) are,
)

-- a line
heard_told : (s t : SessionState) (l : List ℕ) (h : Heard) (text : List ℕ) (course : Course) → HasTags s
    → IsTag (take (tag_length h) l) → IsHeard s l h t text course → TellsJournal s text t × HasTags t
heard_told s t l Empty text course are is (same, none, goes) =
    unchanged s t text same are (subst (TellsLines s.names _ []) (sym none) (no_text s.names _))
heard_told s t l (Refused n why) text course are is (same, says, goes) =
    unchanged s t text same are (subst (TellsLines s.names _ []) (sym says) (refused_told s.names _ (take n l) why is))
heard_told s t l (Asked n what) text course are is (called, ends) = elim called [
  | inl (request, serves, of, served) ↦ served_told s t (take n l) request text is are served
  | inr (same, says) ↦ unchanged s t text same are (query_told s _ (take n l) what text is says)
]

line_told : (s t : SessionState) (l text : List ℕ) (course : Course) → HasTags s → Answers s l t text course
    → TellsJournal s text t × HasTags t
line_told s t l text course are says =
    heard_told s t l (heard s.names s.dispatch.yard.reports l) text course are
    (heard_tag s.names s.dispatch.yard.reports l) says

-- lines, one after the other
told_more : (s u t : SessionState) (first later : List ℕ) → TellsJournal s first u → TellsJournal u later t
    → TellsJournal s (first ++ later) t
told_more s u t first later a b =
    let size : length (lines u) ≡ length (lines s) + length a.added =
    ap (λ (x : List Line). length x) a.run.lines ∙ length-append (lines s) a.added in
    record {
      added = a.added ++ b.added;
      run = goes_on s.dispatch.yard.run u.dispatch.yard.run t.dispatch.yard.run a.added b.added a.run b.run;
      names = b.names ∙ a.names;
      told = more_text s.names (length (lines s)) a.added b.added first later a.told
          (subst (λ (M : Names). TellsLines M (length (lines s) + length a.added) b.added later) a.names
          (subst (λ n. TellsLines u.names n b.added later) size b.told));
    }

pub answered : (s t : SessionState) (heard : List (List ℕ)) (text : List ℕ) (course : Course) → HasTags s
    → Answered Answers s heard t text course → TellsJournal s text t
answered s t [] text course are (same, none, goes) =
    (unchanged s t text same are (subst (TellsLines s.names _ []) (sym none) (no_text s.names _))).0
answered s t (l ∷ later) text course are says = elim says [
  | inl last ↦ (line_told s t l text _ are last.0).0
  | inr (mid, first, rest, here, behind, joined) ↦
      let now = line_told s mid l first _ are here in
      subst (λ x. TellsJournal s x t) (sym joined) (told_more s mid t first rest now.0 (answered mid t later rest
      course now.1 behind))
]

-- the first text and the last
pub opened : (s : SessionState) (N : Names) (n : ℕ) (text : List ℕ) → IsOpening s text → TellsLines N n [] text
opened s N n text (now, is, says) =
    subst (TellsLines N n []) (sym says)
    (others_then N n [] _ _ (ready_told s N n [] tt) (due_told N s.names n None now.due))

pub last : (s : SessionState) (N : Names) (n : ℕ) → TellsLines N n [] (last_text s)
last s N n = other_line N n [] _ tt
    (closes (is_whole (counts s)) s.dispatch.yard.run.yard.moves (exchanges (lines s)))
