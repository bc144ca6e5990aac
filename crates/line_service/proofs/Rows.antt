-- Small cases of each definition.
use Rattle.std.proofs.Common.{◌≡◌, ℕ, ◌+◌, List, [], ◌∷◌, ◌++◌, length, replicate, Some, refl, inl, inr}
use Rattle.std.specs.Prelude.{codes}
use Rattle.line_service.specs.declared.server.Course.{Course}
use Rattle.line_service.specs.declared.server.Course.TheVariants.{GoesOn, Ends}
use Rattle.line_service.specs.declared.server.ServeFault.TheVariants.{Memory, Write}
use Rattle.line_service.specs.Lines.{handed, heard_from, heard_of, without_return}
use Rattle.line_service.specs.Answered.{Answered, BreaksOff, HasAnswered, HasAnsweredAll, IsSession, Says, SaysSome}
use Rattle.line_service.specs.Stopping.{LosesLast, Stops}

-- a line, and the beginning of another, which may be one of `ask T12`
pub torn : heard_of (codes "ping\nask T1") ≡ record { lines = codes "ping" ∷ []; begun = codes "ask T1" }
torn = refl

-- its other bytes come
pub mended : heard_from (codes "ask T1") (codes "2\n") ≡ record { lines = codes "ask T12" ∷ []; begun = [] }
mended = refl

-- a carriage return at the end is dropped, and one alone makes an empty line
pub returned : heard_of (codes "ping\r\n\r\n") ≡ record { lines = codes "ping" ∷ [] ∷ []; begun = [] }
returned = refl

-- only one is
pub one_return : without_return (codes "a\r\r") ≡ codes "a\r"
one_return = refl

-- of a line of 300 bytes a server is handed 257
pub long : length (handed (replicate 300 97)) ≡ 257
long = refl

-- a line of 256 bytes is whole, with a carriage return too
pub longest : handed (replicate 256 97 ++ (13 ∷ [])) ≡ replicate 256 97
longest = refl

-- of 300 bytes that are no line yet 258 are kept
pub long_kept : length (heard_of (replicate 300 97)).begun ≡ 258
long_kept = refl

-- a server that answers with the line itself, counts, and ends at `q`
abbrev Echoes : ℕ → List ℕ → ℕ → List ℕ → Course → Type 0
Echoes from line to text GoesOn = (to ≡ from + 1) × (text ≡ line)
Echoes from line to text Ends = (to ≡ from) × (text ≡ []) × (line ≡ codes "q")

-- what it writes last
abbrev told : ℕ → List ℕ
told count = count ∷ []

-- two lines are answered
pub both : Answered Echoes 0 (codes "a" ∷ codes "b" ∷ []) 2 (codes "ab") GoesOn
both = inr (1, codes "a", codes "b", (refl, refl), inr (2, codes "b", [], (refl, refl), (refl, refl, refl), refl), refl)

-- after the line that ends the session none is
pub quits : Answered Echoes 0 (codes "a" ∷ codes "q" ∷ codes "b" ∷ []) 1 (codes "a") Ends
quits = inr (1, codes "a", [], (refl, refl), inl ((refl, refl, refl), refl), refl)

-- the sink took the answer
pub says : Says Echoes 0 (codes "a" ∷ []) 1 GoesOn (Some (codes "x")) (Some (codes "xa"))
says = (codes "a", inr (1, codes "a", [], (refl, refl), (refl, refl, refl), refl), refl)

-- a text grew by an answer
pub grew : HasAnswered Echoes 0 [] (codes "a\nb") 1 GoesOn (codes "x") (codes "xa")
grew = record {
  added = codes "a";
  answers = inr
      (1, codes "a", [], (refl, refl), (refl, refl, refl), refl);
  grown = refl;
}

-- a session whose input ends within a line
pub session : IsSession Echoes told 0 (codes "a\nb") (codes "a" ++ (1 ∷ []))
session = (1, codes "a", GoesOn, inr (1, codes "a", [], (refl, refl), (refl, refl, refl), refl), refl)

-- its answers are all, at the end of the input
pub all : HasAnsweredAll Echoes 0 (codes "a\nb") 1 (Some []) (Some []) (Some (codes "a"))
all = (GoesOn, (codes "a", inr (1, codes "a", [], (refl, refl), (refl, refl, refl), refl), refl), λ e. refl)

-- without memory for the second answer the first was written
pub some : SaysSome Echoes 0 (codes "a" ∷ codes "b" ∷ []) (Some []) (Some (codes "a"))
some = (
  codes "a" ∷ [],
  codes "b" ∷ [],
  1,
  GoesOn,
  refl,
  (codes "a", inr (1, codes "a", [], (refl, refl), (refl, refl, refl), refl), refl),
)

-- and so it broke off, in the session too
pub broke : BreaksOff Echoes 0 (codes "a" ∷ codes "b" ∷ []) ⊥ ⊥ (Some []) (Some (codes "a")) Memory
broke = some

pub stopped : Stops Echoes told 0 (codes "a\nb\n") ⊥ ⊥ (Some []) (Some (codes "a")) Memory
stopped = some

-- a sink that failed after one byte of two answers
pub cut : BreaksOff Echoes 0 (codes "a" ∷ codes "b" ∷ []) ⊥ (Unit {0}) (Some []) (Some (codes "a")) Write
cut = (tt, (2, codes "ab", GoesOn, both, (1, refl)))

-- the last line is lost whole without memory
pub lost : LosesLast (told 1) ⊥ (Some (codes "a")) (Some (codes "a")) Memory
lost = refl
