-- One group more, that boards or that leaves.
use Rattle.std.proofs.Common.{◌≡◌, ◌≢◌, ◌<◌, ◌+◌, ℕ, List, Vec, Global, [], ◌∷◌, ◌++◌, length, get_or, map, sym, ap, ◌∙◌, subst, arith}
use mathlib.Core.Logic.{dite}
use native.Mathlib.Decide.{ℕ_discrete}
use Rattle.std.specs.List.{All}
use Rattle.std.proofs.Math.ListN.{get_or-append}
use Rattle.std.proofs.Math.Seq.{get_or-append_seam}
use Rattle.std.proofs.lemmas.List.{append-nil}
use Rattle.std.proofs.lemmas.List.Concat.{flat_map-append}
use Rattle.std.proofs.lemmas.List.Elements.{All-weaker, All-push}
use Rattle.zone_yard.specs.Setup.{SharedYard}
use Rattle.zone_yard.specs.Passes.{Pass, Root}
use Rattle.zone_yard.specs.Boarding.{fresh_root, boarded_pass}
use Rattle.shared_run.specs.declared.groups.Group.{Group}
use Rattle.shared_run.specs.declared.groups.Group.TheVariants.{Drivers}
use Rattle.shared_run.specs.Rounds.{AllOurs}
use Rattle.shared_run.specs.Groups.{IsOurGroup}
use Rattle.shared_run.specs.Boarding.{passes_of, passes_in, IsFresh, HaveBoarded, HasDrivers}
use Rattle.shared_run.specs.Crews.{trains_of, dealt}
use Rattle.shared_run.specs.Leaving.{HaveLeft}
use Rattle.shared_run.specs.Shared.{fresh_pass, fresh_passes}
use Rattle.shared_run.proofs.Boards.{then_boarded}
use Rattle.shared_run.proofs.Leaves.{then_left}

passes_more : (groups : List Group) (g : Group) → passes_in (groups ++ g ∷ []) ≡ passes_in groups ++ passes_of g
passes_more groups g = flat_map-append passes_of groups (g ∷ []) ∙ ap (λ ps. passes_in groups ++ ps) (append-nil (passes_of g))

pub group_boards : (a b c : Root) (groups : List Group) (g : Group) → HaveBoarded a (passes_in groups) b → HaveBoarded b (passes_of g) c
    → HaveBoarded a (passes_in (groups ++ g ∷ [])) c
group_boards a b c groups g one two =
    subst (λ ps. HaveBoarded a ps c) (sym (passes_more groups g)) (then_boarded a b c (passes_in groups) (passes_of g) one two)

pub group_leaves : (a b c : Root) (groups : List Group) (g : Group) → HaveLeft a (passes_in groups) b → HaveLeft b (passes_of g) c
    → HaveLeft a (passes_in (groups ++ g ∷ [])) c
group_leaves a b c groups g one two =
    subst (λ ps. HaveLeft a ps c) (sym (passes_more groups g)) (then_left a b c (passes_in groups) (passes_of g) one two)

-- the yard of the root stays
same_yard : (a b : Root) (passes : List Pass) → HaveBoarded a passes b → b.yard ≡ a.yard
same_yard a b passes boarded = ap (λ (r : Root). r.yard) boarded.now

-- drivers that boarded a yard are its own
drivers_ours : (yard : SharedYard) (a b : Root) (drivers : List Pass) → a.yard ≡ yard → HaveBoarded a drivers b → AllOurs yard drivers
drivers_ours yard a b drivers is boarded = All-weaker (IsFresh a.yard) (λ (p : Pass). p.yard ≡ yard) (λ p fresh. fresh.0 ∙ is) drivers boarded.each

-- with a group of drivers that boarded all groups are the yard's
pub group_ours : (yard : SharedYard) (old mid new : Root) (groups more : List Group) (last : Vec Pass Global) → old ≡ fresh_root yard → HaveBoarded old (passes_in groups) mid
    → HaveBoarded mid last.items new → All (IsOurGroup yard) groups → more ≡ groups ++ Drivers last ∷ [] → All (IsOurGroup yard) more
group_ours yard old mid new groups more last fresh boarded one ours are =
    subst (All (IsOurGroup yard)) (sym are)
    (All-push (IsOurGroup yard) groups (Drivers last) ours
    (drivers_ours yard mid new last.items (same_yard old mid (passes_in groups) boarded ∙ ap (λ (r : Root). r.yard) fresh) one))

-- drivers that boarded from a root that has seen nothing
pub drivers_fresh : (yard : SharedYard) (a b : Root) (passes drivers : List Pass) (n workers g : ℕ) → a ≡ fresh_root yard → HaveBoarded a passes b
    → n ≡ trains_of a.yard.setup → drivers ≡ map (boarded_pass b) (dealt n workers g) → drivers ≡ fresh_passes yard workers g
drivers_fresh yard a b passes drivers n workers g fresh boarded count are =
    are
    ∙ ap (λ (r : Root). map (boarded_pass r) (dealt n workers g)) boarded.now
    ∙ (λ i. map (boarded_pass (fresh i)) (dealt (count i) workers g))
    ∙ ap (λ (r : Root). map (fresh_pass yard) (dealt (trains_of r.yard.setup) workers g)) fresh

-- the last of the groups has its drivers, like those before
pub groups_have : (wanted : ℕ → List Pass) (groups : List Group) (last : Group) (n : ℕ) → length groups ≡ n
    → ((k : ℕ) (d : Group) → k < n → HasDrivers (wanted k) (get_or groups k d)) → HasDrivers (wanted n) last
    → (k : ℕ) (d : Group) → k < n + 1 → HasDrivers (wanted k) (get_or (groups ++ last ∷ []) k d)
groups_have wanted groups last n long earlier now k d lt = dite (ℕ_discrete k n)
    (λ (same : k ≡ n). subst (λ j. HasDrivers (wanted j) (get_or (groups ++ last ∷ []) j d)) (sym same)
    (subst (HasDrivers (wanted n)) (sym (ap (λ j. get_or (groups ++ last ∷ []) j d) (sym long) ∙ get_or-append_seam groups last [] d)) now))
    (λ (ne : k ≢ n). let within : k < length groups = omega (arith, long, lt, ne) in
    subst (HasDrivers (wanted k)) (sym (get_or-append groups (last ∷ []) d k within)) (earlier k d (omega (arith, lt, ne))))
