-- How a header goes on by a piece, and what it lacks where there is none.
use Rattle.std.proofs.Common.{◌≡◌, ◌≢◌, ◌⊎◌, ℕ, List, [], ◌++◌, length, sym, ap, subst, inl, inr, ◌∙◌, append-nil}
use Rattle.std.specs.Prelude.{Option}
use Rattle.std.specs.Io.KnownBytes.{Consumes}
use Rattle.std.proofs.KnownBytes.{Consumes-trans}
use Rattle.live_header.specs.declared.scanning.Stage.TheVariants.{Live}
use Rattle.live_header.specs.declared.reading.Unread.{Unread}
use Rattle.live_header.specs.declared.reading.Unread.TheVariants.{Memory, ReadFault}
use Rattle.live_header.specs.Reading.{IsUnread}
use Rattle.live_header.specs.Scan.{Header, after_bytes}
use Rattle.live_header.proofs.ScannedBytes.{after_more}

-- a header after further bytes
pub after_piece : (start now new : Header) (bytes heard : List ℕ) → now ≡ after_bytes start bytes
    → new ≡ after_bytes now heard → new ≡ after_bytes start (bytes ++ heard)
after_piece start now new bytes heard same is = is ∙ ap (λ h. after_bytes h heard) same
    ∙ sym (after_more start bytes heard)

-- a piece that couldn't be read
pub unread_piece : (start now : Header) (bytes : List ℕ) (held between left : Option (List ℕ))
    (at_end failed failed_now : Type 0) (e : Unread)
    → Consumes held between bytes → now ≡ after_bytes start bytes → now.stage ≢ Live → (failed_now → failed)
    → ((heard : List ℕ) × Consumes between left heard × ((e ≡ Memory) ⊎ ((e ≡ ReadFault) × (heard ≡ []) × failed_now)))
    → (heard : List ℕ) × Consumes held left heard
    × IsUnread (after_bytes start heard).stage (length heard) at_end failed e
unread_piece start now bytes held between left at_end failed failed_now e gave same not_live later
    (heard, gave_more, inl memory) =
    let all = bytes ++ heard in (
      all,
      Consumes-trans held between left bytes heard gave gave_more,
      subst
          (IsUnread (after_bytes start all).stage (length all) at_end failed) (sym memory) tt,
    )
unread_piece start now bytes held between left at_end failed failed_now e gave same not_live later
    (heard, gave_more, inr (broken, none, so)) =
    let all = bytes ++ heard in
    let stays : all ≡ bytes = ap (λ l. bytes ++ l) none ∙ append-nil bytes in
    let stage : (after_bytes start all).stage ≡ now.stage = ap (λ l. (after_bytes start l).stage) stays
    ∙ sym (ap (λ h. h.stage) same) in (
      all,
      Consumes-trans held between left bytes heard gave gave_more,
      subst (IsUnread (after_bytes start all).stage (length all) at_end failed) (sym broken)
          ((λ is. not_live (sym stage ∙ is)), later so),
    )
