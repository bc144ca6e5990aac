use Rattle.zone_machine.proofs.Prelude.{◌≡◌, ℕ, ◌+◌, cond, refl, Tried, Exchanged, Early}
use Rattle.rail_model.specs.declared.types.Tried.TheVariants.{Differs, Over, NoMore}
use Rattle.zone_machine.specs.Entries.{is_answer}
use Rattle.zone_machine.proofs.control.last_answered.Goals as goal

-- a table that is neither early nor missing has its answer
goes_on : (last : ℕ) (told : Tried) → ((moves : ℕ) → told ≡ Early moves → ⊥) → (told ≡ NoMore → ⊥) → last + 1 ≡ cond (is_answer told) (last + 1) last
goes_on last Exchanged early more = refl
goes_on last (Differs train place) early more = refl
goes_on last (Over section count) early more = refl
goes_on last (Early moves) early more = absurd (early moves refl)
goes_on last NoMore early more = absurd (more refl)

pub returns-in_default : goal.returns-in_default
returns-in_default c = goes_on c.args.position c.args.told c.in_default.not-Early c.in_default.not-NoMore
