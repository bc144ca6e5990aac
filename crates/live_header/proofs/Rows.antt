-- Small cases of each definition.
use Rattle.std.proofs.Common.{◌≡◌, [], ◌∷◌, true, false, refl, lit<}
use Rattle.std.specs.Prelude.{codes}
use Rattle.live_header.specs.declared.scanning.Stage.TheVariants.{Document, Journal, Live}
use Rattle.live_header.specs.declared.reading.Unread.TheVariants.{NoJournal, NoLive, TooLong}
use Rattle.live_header.specs.Naming.{has_reports, is_live, suits}
use Rattle.live_header.specs.Reading.{IsMissing, IsUnread}
use Rattle.live_header.specs.Scan.{after_bytes, started, text_of}

-- a header, and the first bytes of a session
pub parts : after_bytes (started []) (codes "{}\njournal\n1 move\nlive\nask T1")
    ≡ record {
      stage = Live;
      document = codes "{}\n";
      journal = codes "1 move\n";
      live = codes "live";
      line = codes
          "ask T1";
    }
parts = refl

-- what follows the header isn't looked at
pub session : (after_bytes (started []) (codes "{}\njournal\nlive\nlive\njournal\n")).line ≡ codes "live\njournal\n"
session = refl

-- a document that was read before
pub apart : after_bytes (started (codes "{}")) (codes "journal\n")
    ≡ record { stage = Journal; document = codes "{}"; journal = []; live = []; line = [] }
apart = refl

-- the line `live` belongs to the document as long as there is no line `journal`
pub too_soon : (after_bytes (started []) (codes "live\n")).stage ≡ Document
too_soon = refl

-- two lines
pub two : text_of (codes "a" ∷ codes "b" ∷ []) ≡ codes "a\nb\n"
two = refl

-- lines that begin a session, and one that doesn't
pub begins : is_live (codes "live") ≡ true
begins = refl

pub begins_with_reports : is_live (codes "live reports") ≡ true
begins_with_reports = refl

pub begins_named : is_live (codes "live document=ab") ≡ true
begins_named = refl

pub other_word : is_live (codes "live now") ≡ false
other_word = refl

-- with reports or without them
pub with_reports : has_reports (codes "live reports document=ab") ≡ true
with_reports = refl

pub without_reports : has_reports (codes "live document=ab") ≡ false
without_reports = refl

-- the document of this hash, another, and any
pub same : suits (codes "live reports document=ab") (codes "ab") ≡ true
same = refl

pub other : suits (codes "live document=abc") (codes "ab") ≡ false
other = refl

pub any : suits (codes "live") (codes "ab") ≡ true
any = refl

-- what a header lacks
pub no_journal : IsMissing Document NoJournal
no_journal = refl

pub no_live : IsUnread Journal 8 (Unit {0}) ⊥ NoLive
no_live = (refl, tt)

pub long : IsUnread Document 16777217 ⊥ ⊥ TooLong
long = lit< tt
