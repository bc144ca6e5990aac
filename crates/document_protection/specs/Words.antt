-- What is told of guards by names, and why a document isn't protected.
use Rattle.std.specs.Prelude.{ℕ, ◌+◌, ◌==◌, List, [], ◌∷◌, ◌++◌, length, codes, decimal, flat_map, slice_index_or, Option, Some, None, if◌then◌else◌}
use Rattle.forbidden_states.specs.Forbid.{Stay}
use Rattle.document_json.specs.Doc.{Doc, names_of, table_at}
use Rattle.rail_model.specs.Names.{Names, train_name}
use Rattle.rail_model.specs.Table.{Table}
use Rattle.refusal_lines.specs.Makers.{stuck_words}
use Rattle.state_sentences.specs.Explanation.{joined_below}
use Rattle.state_sentences.specs.Named.{name_at}
use Rattle.document_protection.specs.Protected.{guards_at}
use Rattle.document_protection.specs.declared.unprotected.Unprotected.{Unprotected}
use Rattle.document_protection.specs.declared.unprotected.Unprotected.TheVariants.{Memory, Uncertified, Start}
use Rattle.document_protection.specs.declared.unprotected.Why.{Why}
use Rattle.document_protection.specs.declared.unprotected.Why.TheVariants.{GaveUp, Full, Spent}

-- a point, or that the train has left the layout
abbrev pub point_words : Option (List ℕ) → List ℕ
point_words (Some point) = point
point_words None = codes "its exit"

-- a train at a place
abbrev pub place_words : List ℕ → List ℕ → ℕ → List ℕ
place_words train point k = train ++ codes " at " ++ point ++ codes " (place " ++ decimal k ++ codes ")"

-- from where to where a train may be
abbrev pub way_words : List ℕ → List ℕ → List ℕ → List ℕ
way_words train first last = train ++ codes " from " ++ first ++ codes " to " ++ last

-- a range of places
abbrev pub places_words : ℕ → ℕ → List ℕ
places_words lo hi = codes " (places " ++ decimal lo ++ codes " to " ++ decimal hi ++ codes ")"

-- a train in a range of places
abbrev pub range_words : List ℕ → List ℕ → List ℕ → ℕ → ℕ → List ℕ
range_words train first last lo hi = way_words train first last ++ places_words lo hi

-- where a train is in a stay
abbrev pub stay_words : Names → Table → Stay → List ℕ
stay_words N T s =
    if s.range.lo == s.range.hi
    then place_words (train_name N s.train) (point_words (name_at N T s.train s.range.lo)) s.range.lo
    else
    range_words (train_name N s.train) (point_words (name_at N T s.train s.range.lo))
    (point_words (name_at N T s.train s.range.hi))
    s.range.lo s.range.hi

-- where all trains of a guard are
abbrev pub stays_words : Names → Table → List Stay → List ℕ
stays_words N T [] = []
stays_words N T (s ∷ others) = stay_words N T s ++ flat_map (λ o. codes ", " ++ stay_words N T o) others

-- a section of a table
abbrev pub section_words : ℕ → ℕ → List ℕ
section_words t s = codes "tables[" ++ decimal t ++ codes "].sections[" ++ decimal s ++ codes "]: never all at once: "

-- the line of a guard, which is section s of table t
abbrev pub guard_words : Names → Table → ℕ → ℕ → List Stay → List ℕ
guard_words N T t s b = section_words t s ++ (stays_words N T b ++ codes "\n")

-- the lines of the guards behind the sections of table t
abbrev pub guards_words : Names → Table → ℕ → List (List Stay) → List ℕ
guards_words N T t guards =
    joined_below (λ k. guard_words N T t (length T.sections + k) (slice_index_or guards k [])) (length guards)

-- the lines of the guards of a document's table
abbrev pub table_words : Doc → ℕ → List (List Stay) → List ℕ
table_words D t guards = guards_words (names_of D) (table_at D t) t guards

-- the lines of the guards of the first tables
abbrev pub tables_words : Doc → List (List (List Stay)) → List ℕ
tables_words D guards = joined_below (λ t. table_words D t (guards_at guards t)) (length guards)

-- a state that is stuck with the guards
abbrev pub stuck_at_words : ℕ → List ℕ → List ℕ → List ℕ
stuck_at_words t p because = codes "with these sections: " ++ (stuck_words t p ++ because)

-- why table t has no certificate
abbrev pub why_words : ℕ → Why → List ℕ
why_words t (GaveUp nodes) =
    codes "table " ++ decimal t ++ codes ": gave up after " ++ decimal nodes
    ++ codes " nodes; whether it has a certificate with these sections isn't known\n"
why_words t (Full p) = stuck_at_words t p (codes "; the table has 64 sections, and there is no room for one more\n")
why_words t (Spent p) = stuck_at_words t p (codes "; no more rounds are made\n")

-- what may help
abbrev pub try_words : List ℕ
try_words =
    codes
    "try `planner order` first, or a greater --budget or --rounds; or write a section where these trains meet, or give an exit to a train that ends in the way of others\n"

-- the guards of the tables up to table t, and why this one has no certificate
abbrev pub uncertified_words : Doc → ℕ → List (List (List Stay)) → Why → List ℕ
uncertified_words D t guards why = tables_words D guards ++ (why_words t why ++ try_words)

-- the guards of the first table, which forbid the start
abbrev pub start_words : Doc → List (List Stay) → List ℕ
start_words D guards =
    table_words D 0 guards
    ++ codes
    "table 0: the start is one of these states, and from it not all trains can arrive; change the start, the routes or the sections\n"

-- the lines for a document that isn't protected
abbrev pub unprotected_words : Doc → Unprotected → List ℕ
unprotected_words D Memory = []
unprotected_words D (Uncertified t guards why) = uncertified_words D t guards.items why
unprotected_words D (Start guards) = start_words D (guards_at guards.items 0)
