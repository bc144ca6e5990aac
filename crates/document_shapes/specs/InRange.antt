-- Members in range: their numbers have 32 bits, and their texts are UTF-8.
use Rattle.std.specs.Prelude.{◌<◌, ◌-◌, ◌^◌, ℕ, ℤ, pos, neg_ℤ, ◌≤ℤ◌, All, Option, MatchOption, ⊤, IsUtf8}
use Rattle.rail_model.specs.declared.types.Node.{Node}
use Rattle.rail_model.specs.declared.types.Node.TheVariants.{Split, Clash, Overfull, Arrived, Move}
use Rattle.rail_model.specs.Table.{Section, Connection}
use Rattle.document_shapes.specs.Raw.{TableMembers, DocMembers}

-- a whole number
abbrev pub IsSmall : ℕ → Type 0
IsSmall n = n < 2 ^ 32

-- a number with its sign
abbrev pub IsChange : ℤ → Type 0
IsChange z = (neg_ℤ (pos (2 ^ 31)) ≤ℤ z) × (z ≤ℤ pos (2 ^ 31 - 1))

abbrev pub NodeIsSmall : Node → Type 0
NodeIsSmall (Split i m) = IsSmall i × IsSmall m
NodeIsSmall (Clash i j) = IsSmall i × IsSmall j
NodeIsSmall (Overfull s) = IsSmall s
NodeIsSmall Arrived = ⊤
NodeIsSmall (Move i) = IsSmall i

pub record ConnectionIsSmall (k : Connection) : Type 0 where
  pub train : IsSmall k.train
  pub place : IsSmall k.place
  pub other : IsSmall k.other
  pub reached : IsSmall k.reached

pub record SectionIsSmall (s : Section) : Type 0 where
  pub limit : IsSmall s.limit
  pub changes : All (All IsChange) s.changes

-- Where there is one, it is so.
abbrev pub IfGiven : {A : Type 0} → (A → Type 0) → Option A → Type 0
IfGiven P o = MatchOption o ⊤ P

pub record TableInRange (t : TableMembers) : Type 0 where
  pub missions : All (All IsUtf8) t.missions
  pub sections : IfGiven (All SectionIsSmall) t.sections
  pub connections : IfGiven (All ConnectionIsSmall) t.connections
  pub certificate : IfGiven (All NodeIsSmall) t.certificate
  pub times : IfGiven (All (All IsSmall)) t.times
  pub after : IfGiven IsSmall t.after

pub record InRange (m : DocMembers) : Type 0 where
  pub points : All (λ p. IsUtf8 p.0 × IsSmall p.1) m.points
  pub links : All (λ l. IsUtf8 l.0 × IsUtf8 l.1) m.links
  pub zones : IsSmall m.zones
  pub trains : All IsUtf8 m.trains
  pub start : All IsSmall m.start
  pub tables : All TableInRange m.tables
