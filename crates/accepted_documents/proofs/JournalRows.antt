-- Worked rows: the journal of the sample's run, whole, as a front, and as it leads to a state.
use Rattle.std.proofs.Common.{◌≡◌, ℕ, ◌≤◌, List, [], ◌∷◌, codes, Some, None, refl, arith, lit<, lit≤}
use Rattle.std.specs.Fmt.{digits}
use Rattle.std.proofs.lemmas.List.Elements.{All-nil, All-cons}
use Rattle.rail_model.specs.declared.types.Line.{Line}
use Rattle.rail_model.specs.declared.types.Line.TheVariants.{Move}
use Rattle.rail_model.specs.Table.{last, place}
use Rattle.rail_model.specs.State.{Legal}
use Rattle.rail_model.specs.Yard.{opening}
use Rattle.rail_model.specs.Plain.{Plain}
use Rattle.rail_model.specs.Journal.{Journal, IsLine, IsDone, IsWhole, after_lines}
use Rattle.move_journal.specs.declared.faults.BadText.TheVariants.{NoEnd}
use Rattle.move_journal.specs.Printable.{IsPrintable, ArePrintable}
use Rattle.move_journal.specs.Answers.{IsTextOf, IsFrontOf}
use Rattle.document_json.specs.Doc.{IsDoc, offers_of, names_of}
use Rattle.document_json.proofs.Offered.{legal_start}
use Rattle.accepted_documents.specs.declared.refused.BadJournal.TheVariants.{Text}
use Rattle.accepted_documents.specs.declared.replaying.Replayed.TheVariants.{Open, Whole}
use Rattle.accepted_documents.specs.Replaying.{IsNotWhole, IsReplay, LeadsNowhere}
use Rattle.accepted_documents.proofs.Samples.{table, good, the_only}

pub legal_at : (k : ℕ) → k ≤ 1 → Legal table (k ∷ [])
legal_at k within = record {
  one_each = refl;
  in_range = the_only (λ i. place (k ∷ []) i ≤ last table i) within;
  apart = λ i j q first second two at_first at_second. two (omega (arith, first, second));
  within = λ s none. absurd (omega (arith, none));
}

pub line : IsLine (offers_of good) (opening (0 ∷ [])) (Move 0 0 (Some 1))
line = (
  record {
    before = legal_at 0 (lit≤ tt);
    train = lit< tt;
    step = refl;
    after = legal_at 1 (lit≤ tt);
    free = λ c held. absurd (let none : None ≡ Some held.0 = held.1 in cc);
  },
  refl,
  refl,
)

abbrev pub lines : List Line
lines = Move 0 0 (Some 1) ∷ []

pub done : IsDone (offers_of good) (after_lines (opening (0 ∷ [])) lines)
done = (the_only (λ i. place (1 ∷ []) i ≡ last table i) refl, λ more. omega (arith, more))

abbrev pub journal : Journal
journal = record { lines = lines; moves = 1; tables = 0 }

pub whole : IsWhole (offers_of good) (opening (0 ∷ [])) journal
whole = record { right = (line, tt); done = done; moves = refl; exchanges = refl }

abbrev pub run_text : List ℕ
run_text = codes "1 move T0 A B\nend moves=1 tables=0\n"

-- the journal that was just printed
pub are_printable : ArePrintable (names_of good) lines
are_printable = record {
  few = lit< tt;
  each = All-cons (IsPrintable (names_of good)) (Move 0 0 (Some 1)) [] (lit< tt, lit< tt, lit< tt)
      (All-nil (IsPrintable (names_of good)));
}

pub is_text : (given : List ℕ) → given ≡ run_text → IsTextOf (names_of good) given journal
unfolding digits
is_text given same = record { has = record { lines = are_printable; moves = lit< tt; tables = lit< tt }; text = same }

-- the journal of no line
abbrev pub nothing : Journal
nothing = record { lines = []; moves = 0; tables = 0 }

pub is_front : (given : List ℕ) → given ≡ [] → IsFrontOf (names_of good) given nothing
is_front given none = record {
  lines = record { few = lit< tt; each = All-nil (IsPrintable (names_of good)) };
  text = none;
  counts = (refl, refl);
}

-- the state at its end, and the one at the start
abbrev at_end : Plain
at_end = record { yard = after_lines (opening (0 ∷ [])) lines; lines = lines }

abbrev at_start : Plain
at_start = record { yard = opening (0 ∷ []); lines = [] }

-- the whole text leads to the end
whole_leads : IsDoc good → IsReplay good run_text (Whole at_end)
whole_leads doc = (
  journal,
  record { text = is_text run_text refl; whole = whole },
  record {
    right = (line, tt);
    yard = refl;
    lines = refl;
    keeps = record {
      are = doc.tables;
      start = 0 ∷ [];
      legal = legal_start good doc;
      right = (line, tt);
      reached = refl;
    };
  },
)

-- no line leads to the start
front_leads : IsDoc good → IsReplay good [] (Open at_start)
front_leads doc = (
  nothing,
  is_front [] refl,
  record {
    right = tt;
    yard = refl;
    lines = refl;
    keeps = record { are = doc.tables; start = 0 ∷ []; legal = legal_start good doc; right = tt; reached = refl };
  },
)

-- a missing end line is a fault of a whole journal, and none of a front
lacks_its_end : IsNotWhole good [] (Text NoEnd)
lacks_its_end =
    let none : ArePrintable (names_of good) [] = record { few = lit< tt; each = All-nil (IsPrintable (names_of good)) } in
    ([], [], record { printable = none; text = refl }, refl)

needs_no_end : LeadsNowhere good [] (Text NoEnd) → ⊥
needs_no_end h = h.1 refl
