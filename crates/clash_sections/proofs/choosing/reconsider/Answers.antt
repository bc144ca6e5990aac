use Rattle.std.proofs.Common.{◌≡◌, ◌<◌, ℕ, suc, take, drop, All, length, List, [], ◌∷◌, ◌++◌, remove, subst, sym, slice_index_or}
use Rattle.std.proofs.lemmas.List.Elements.{All-append, All-take, All-drop, All-push}
use Rattle.clash_sections.specs.Sections.{StandSection}
use Rattle.clash_sections.specs.Tracks.{IsFit}
use Rattle.clash_sections.proofs.choosing.reconsider.Goals as goal

-- what holds of all items holds of those that are left
removed : (P : StandSection → Type 0) (old new : List StandSection) (i : ℕ) → All P old → new ≡ remove old i → All P new
removed P old new i all left = subst (All P) (sym left)
    (All-append P (take i old) (drop (suc i) old) (All-take P i old all) (All-drop P (suc i) old all))

-- and of the one that was removed and pushed again
pushed : (P : StandSection → Type 0) (old new last : List StandSection) (i : ℕ) (s : StandSection) → All P old → new ≡ remove old i
    → i < length old → s ≡ slice_index_or old i s → last ≡ new ++ s ∷ [] → All P last
pushed P old new last i s all left within is push =
    subst (All P) (sym push) (All-push P new s (removed P old new i all left) (subst P (sym is) (all i s within)))

pub returns-in_ok-push : goal.returns-in_ok-push
returns-in_ok-push c = record {
  fit = pushed (IsFit c.args.clashes.now) c.args.sections.now.items c.remove-section.new.self.items c.push.new.self.items c.args.index
      c.remove-section.result c.requires.fit c.remove-section.ensures.items c.requires.within
      c.remove-section.ensures.value c.in_ok-push.ensures.items;
}

pub returns-else-not-are_enough : goal.returns-else-not-are_enough
returns-else-not-are_enough c = record {
  fit = removed (IsFit c.args.clashes.now) c.args.sections.now.items c.remove-section.new.self.items c.args.index
      c.requires.fit c.remove-section.ensures.items;
}
