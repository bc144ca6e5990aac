-- Rows of passes: boarding, leaving, and a yard that is closed.
use Rattle.zone_yard.proofs.Prelude.{◌≡◌, [], ◌∷◌, true≢false, Ok, Some, refl, sym, lit<, inl, state_after, Pass, Root, Replies, journal_of}
use Rattle.std.proofs.Common.{Err}
use Rattle.rail_model.specs.declared.types.Line.TheVariants.{Move as MoveLine}
use Rattle.zone_yard.specs.declared.replies.Board.TheVariants.{Taken, Memory}
use Rattle.zone_yard.specs.declared.replies.Reply.TheVariants as one
use Rattle.zone_yard.specs.Passes.{IsAshore}
use Rattle.zone_yard.specs.Boarding.{fresh_root, with_pass, Boards, TakesBack}
use Rattle.zone_yard.proofs.Samples.{table_of, boarded, grant, yes, one_zone, first_path}
use Rattle.zone_yard.proofs.Rows.{goes, granted_after, enters}
use Rattle.zone_yard.proofs.RowsOfBlocks.{through, kept_back, one_further, not_whole}

-- a train boards once
boards : Boards (fresh_root one_zone) 0 (Ok (boarded one_zone 0)) (with_pass (fresh_root one_zone) 0)
boards = ((λ h. true≢false (sym h)), refl, refl)

-- and not again
taken : Boards (with_pass (fresh_root one_zone) 0) 0 (Err Taken) (with_pass (fresh_root one_zone) 0)
taken = (refl, refl)

not_again : (pass : Pass) (new : Root) → Boards (with_pass (fresh_root one_zone) 0) 0 (Ok pass) new → ⊥
not_again pass new h = h.0 refl

not_for_memory : (new : Root) → Boards (with_pass (fresh_root one_zone) 0) 0 (Err Memory) new → ⊥
not_for_memory new h = h.0 refl

-- a pass leaves with its entries, and the root has then seen them
abbrev pub has_left : Root
has_left = record (fresh_root one_zone) { seen = yes 0 ∷ []; done = (0, record { ticket = 0; entry = yes 0 } ∷ []) ∷ []; boarded = 0 ∷ [] }

leaves : TakesBack (with_pass (fresh_root one_zone) 0) (granted_after one_zone 0 []) has_left
leaves = record {
  out = refl;
  done = refl;
  boarded = refl;
  yard = refl;
  legal = ((lit< tt, goes (table_of ((0 ∷ 1 ∷ []) ∷ (2 ∷ 3 ∷ []) ∷ [])) (0 ∷ 0 ∷ []) 0 refl), tt);
  own = (yes 0 ∷ [], refl);
  theirs = ([], refl);
}

-- who hasn't boarded stands where the yard opened
ashore : IsAshore one_zone.setup (0 ∷ []) []
ashore p is none = refl

not_ashore : IsAshore one_zone.setup [] (yes 0 ∷ []) → ⊥
not_ashore h = cc (h 0 (inl (lit< tt)) refl)

-- the root hasn't seen what the pass has
not_unseen : TakesBack (with_pass (fresh_root one_zone) 0) (granted_after one_zone 0 []) (record has_left { seen = [] }) → ⊥
not_unseen h = cc h.theirs.1

-- after a block that couldn't be made whole the first step alone is granted
one_step : Replies kept_back (one.Granted 1) one_further
one_step = (
  lit< tt,
  enters kept_back [] (grant ∷ []) 1 refl refl (refl, refl) (not_whole.1.0.legal.0, ((lit< tt, goes (table_of ((0 ∷ 1 ∷ 2 ∷ []) ∷ (2 ∷ 3 ∷ 0 ∷ []) ∷ [])) (0 ∷ 0 ∷ []) 0 refl), tt)),
)

-- the first path's yard comes to its two moves
printed : journal_of (first_path 9).setup.tables (first_path 9).setup.opening.yard through.seen ≡ MoveLine 0 0 (Some 1) ∷ MoveLine 0 1 (Some 2) ∷ []
printed = refl

ends : state_after (first_path 9).setup through.seen ≡ record { positions = 2 ∷ []; table = 0; tried = 0; moves = 2 }
ends = refl
